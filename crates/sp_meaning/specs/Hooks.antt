-- Which bodies a hook has, in which order they run, and what they are handed.
use Rattle.std.specs.Prelude.{ℕ, suc, ◌==◌, ℤ, pos, Bool, true, false, ◌&&◌, ◌||◌, List, [], ◌∷◌, length, nat_lt, unwrap_or, if◌then◌else◌}
use Rattle.std.specs.Ordering.{int_cmp, is_lt, is_eq}
use Rattle.sp_typed_units.specs.declared.declarations.Hook.{Hook}
use Rattle.sp_typed_units.specs.declared.declarations.HookOf.{HookOf}
use Rattle.sp_typed_units.specs.declared.declarations.HookOf.TheVariants as hook_of
use Rattle.sp_words.specs.declared.words.HookName.{HookName}
use Rattle.sp_words.specs.declared.words.HookName.TheVariants.{Init, Done, Error, Finally}
use Rattle.sp_typed_units.specs.declared.declarations.Unit.{Unit}
use Rattle.sp_typed_units.specs.declared.items.Field.{Field}

-- the hooks that each unit has
abbrev pub is_hook : HookName → HookName → Bool
is_hook Init Init = true
is_hook Done Done = true
is_hook Error Error = true
is_hook Finally Finally = true
is_hook x y = false

-- a body of this hook of this unit
abbrev pub is_of_unit : ℕ → HookName → HookOf → Bool
is_of_unit u name (hook_of.Unit v x) = u == v && is_hook name x
is_of_unit u name h = false

-- What a body of a hook begins with, which its hook hands to it: a hook of a field or of elements has `$$` and the offset of the
-- field or the element, and others have their parameters.
abbrev pub has_current : HookOf → Bool
has_current (hook_of.Field u m) = true
has_current (hook_of.Elements u m) = true
has_current (hook_of.Anonymous u) = true
has_current (hook_of.AnonymousElements u) = true
has_current h = false

-- the bodies of a foreach hook tell whether the container goes on
abbrev pub is_foreach : HookOf → Bool
is_foreach (hook_of.Elements u m) = true
is_foreach (hook_of.AnonymousElements u) = true
is_foreach h = false

-- how many of a body's first locals its event tells
abbrev pub told_count : Hook → ℕ
told_count x = if has_current x.of then 1 else length x.parameters

-- the bodies of a hook go in order of priority, higher first, then by module, then by place in the source
abbrev pub rank_of : Hook → ℤ
rank_of x = unwrap_or x.rank (pos 0)

abbrev pub runs_before : Hook → Hook → Bool
runs_before x y =
    is_lt (int_cmp (rank_of y) (rank_of x)) ||
    (is_eq (int_cmp (rank_of y) (rank_of x)) && (nat_lt x.module y.module || (x.module == y.module && nat_lt x.span.from y.span.from)))

-- a body with its number among those of its hook, in order
abbrev pub put_in_order : (ℕ × Hook) → List (ℕ × Hook) → List (ℕ × Hook)
put_in_order x [] = x ∷ []
put_in_order x (y ∷ ys) = if runs_before x.1 y.1 then x ∷ y ∷ ys else y ∷ put_in_order x ys

abbrev pub in_order : List (ℕ × Hook) → List (ℕ × Hook)
in_order [] = []
in_order (x ∷ xs) = put_in_order x (in_order xs)

-- the bodies of a hook with their numbers, from the number of the first
abbrev pub bodies_of : (HookOf → Bool) → ℕ → List Hook → List (ℕ × Hook)
bodies_of of n [] = []
bodies_of of n (x ∷ xs) = if of x.of then (n, x) ∷ bodies_of of (suc n) xs else bodies_of of (suc n) xs

abbrev pub numbers : List (ℕ × Hook) → List ℕ
numbers [] = []
numbers (x ∷ xs) = x.0 ∷ numbers xs

-- the numbers of the bodies of a hook, in the order in which they run
abbrev pub hook_bodies : (HookOf → Bool) → List Hook → List ℕ
hook_bodies of hooks = numbers (in_order (bodies_of of 0 hooks))
