-- Hooks hang on what is told of their own marks alone.
use Rattle.std.proofs.Common.{ℕ, ℤ, ◌≡◌, Bool, true, false, refl, ap, ◌∙◌, List, [], ◌∷◌, Option, Some, None, nat_eq, slice_get}
use Rattle.std.specs.Prelude.{◌&&◌, ◌||◌}
use Rattle.std.specs.Cmp.{nat_eq_equiv}
use Rattle.sp_types.specs.Types.{Ty}
use Rattle.sp_typed.specs.Exprs.{Expr}
use Rattle.sp_typed_units.specs.declared.declarations.Parameter.{Parameter}
use Rattle.sp_type_context.specs.Contexts.{Around}
use Rattle.sp_type_hook_order.specs.Keys.{are_same}
use Rattle.sp_type_hook_rows.specs.declared.rows.HookRow.{HookRow}
use Rattle.sp_type_hook_rows.specs.HookRows.{key_of, keys_of}
use Rattle.sp_type_hooks.specs.Fields.{mark_of, hangs, is_asked}
use Rattle.sp_type_hooks.specs.Hooks.{seen_at, seen_by, hook_in, typed_hooks}

itself : (x : ℕ × ℕ × ℕ) → are_same x x ≡ true
itself x =
    ap (λ b. (b && nat_eq x.1 x.1) && nat_eq x.2 x.2) (nat_eq_equiv.refl x.0)
    ∙ ap (λ b. (true && b) && nat_eq x.2 x.2) (nat_eq_equiv.refl x.1)
    ∙ nat_eq_equiv.refl x.2

or_right : (a b : Bool) → b ≡ true → (a || b) ≡ true
or_right true b e = refl
or_right false b e = e

module _ (contexts : List Around) (ranks : Expr → Option ℤ) (units : List (List Parameter)) (f g : ℕ × ℕ × ℕ → Option Ty × Option Ty) where
  seen_same : (o : Option (ℕ × ℕ × ℕ)) → ((x : ℕ × ℕ × ℕ) → hangs x o ≡ true → f x ≡ g x) → seen_at f o ≡ seen_at g o
  seen_same None same = refl
  seen_same (Some x) same = same x (itself x)

  pub same_hooks : (rs : List HookRow) → ((x : ℕ × ℕ × ℕ) → is_asked (keys_of rs) x ≡ true → f x ≡ g x) → typed_hooks contexts ranks f units rs ≡ typed_hooks contexts ranks g units rs
  same_hooks [] same = refl
  same_hooks (r ∷ rs) same =
      ap (λ s. hook_in (slice_get contexts r.«module») ranks units r s ∷ typed_hooks contexts ranks f units rs)
      (seen_same (mark_of (key_of r.of r.field)) (λ x here. same x (ap (λ b. b || is_asked (keys_of rs) x) here)))
      ∙ ap (λ l. hook_in (slice_get contexts r.«module») ranks units r (seen_by g r) ∷ l)
      (same_hooks rs (λ x there. same x (or_right (hangs x (mark_of (key_of r.of r.field))) (is_asked (keys_of rs) x) there)))
