-- Bodies of hooks, each with the name of its hook and the kind of its `$$`.
use Rattle.std.proofs.Common.{◌≡◌, ◌+◌, ℕ, suc, List, [], ◌∷◌, ◌++◌, append_assoc, length, refl, sym, ap, subst, ◌∙◌, arith, Vec, Global}
use Rattle.sp_typed_units.specs.declared.declarations.Hook.{Hook}
use Rattle.sp_typed_units.specs.declared.declarations.Typed.{Typed}
use Rattle.sp_typed_units.specs.declared.declarations.Unit.{Unit as TypedUnit}
use Rattle.sp_meaning.specs.Globals.{globals_of}
use Rattle.sp_code.specs.declared.program.BodyCode.{BodyCode}
use Rattle.sp_code.specs.Programs.{bodies_of, body_kinds}
use Rattle.sp_code_programs.specs.exprs.Code.{kind_at}
use Rattle.sp_code_programs.specs.units.Bodies.{name_at}
use Rattle.sp_emit.specs.Emitted.{Emitted}
use Rattle.sp_code_programs.specs.programs.Routines.{Routine, hook_routine, hook_routines, function_routines}
use Rattle.sp_meaning.specs.Names.{hook_name, names_of_hooks, hook_names_of}
use Rattle.sp_code_programs.specs.programs.Currents.{current_kind, currents_from, currents_of}
use Rattle.sp_code_programs.specs.programs.Programs.{entries_from, kinds_of_locals}
use Rattle.sp_code_programs.specs.programs.Whole.{all_routines}
use Rattle.sp_lower.specs.declared.bodies.Bodies.{Bodies}
use Rattle.sp_lower.specs.inside.Laid.{Lays, LaysAll, named_routines}

-- what stands behind others in a table
name_behind : (units : List TypedUnit) (front : List Hook) (x : Hook) (xs : List Hook) → name_at (names_of_hooks units (front ++ x ∷ xs)) (length front) ≡ hook_name units x.of
name_behind units [] x xs = refl
name_behind units (y ∷ front) x xs = name_behind units front x xs

current_behind : (ranges : List ℕ) (units : List TypedUnit) (n : ℕ) (front : List Hook) (x : Hook) (xs : List Hook) → kind_at (currents_from ranges units n (front ++ x ∷ xs)) (length front) ≡ current_kind ranges units (n + length front) x
current_behind ranges units n [] x xs = let e : n ≡ n + 0 = omega arith in ap (λ m. current_kind ranges units m x) e
current_behind ranges units n (y ∷ front) x xs =
    let e : suc n + length front ≡ n + suc (length front) = omega arith in
    current_behind ranges units (suc n) front x xs ∙ ap (λ m. current_kind ranges units m x) e

one_longer : (front : List Hook) (x : Hook) → length (front ++ x ∷ []) ≡ suc (length front)
one_longer [] x = refl
one_longer (y ∷ front) x = ap suc (one_longer front x)

named_behind : (list : Typed) (front xs : List Hook) → list.hooks ≡ front ++ xs
    → hook_routines (globals_of list) (hook_names_of list) (currents_of list) (length front) xs ≡ named_routines list (length front) xs
named_behind list front [] is = refl
named_behind list front (x ∷ xs) is =
    let g = globals_of list in
    let names = hook_names_of list in
    let currents = currents_of list in
    let name : name_at names (length front) ≡ hook_name list.units x.of = ap (λ hs. name_at (names_of_hooks list.units hs) (length front)) is ∙ name_behind list.units front x xs in
    let zero_on : 0 + length front ≡ length front = omega arith in
    let current : kind_at currents (length front) ≡ current_kind g.ranges list.units (length front) x =
    ap (λ hs. kind_at (currents_from g.ranges list.units 0 hs) (length front)) is ∙ current_behind g.ranges list.units 0 front x xs ∙ ap (λ m. current_kind g.ranges list.units m x) zero_on in
    let rest = named_behind list (front ++ x ∷ []) xs (is ∙ sym (append_assoc front (x ∷ []) xs)) in
    let later : hook_routines g names currents (suc (length front)) xs ≡ named_routines list (suc (length front)) xs =
    ap (λ n. hook_routines g names currents n xs) (sym (one_longer front x)) ∙ rest ∙ ap (λ n. named_routines list n xs) (one_longer front x) in
    ap (λ n. hook_routine g n (kind_at currents (length front)) x ∷ hook_routines g names currents (suc (length front)) xs) name
    ∙ ap (λ k. hook_routine g (hook_name list.units x.of) k x ∷ hook_routines g names currents (suc (length front)) xs) current
    ∙ ap (λ (rs : List Routine). hook_routine g (hook_name list.units x.of) (current_kind g.ranges list.units (length front) x) x ∷ rs) later

-- all bodies of a list
pub all_are : (list : Typed) → function_routines (globals_of list) list.functions ++ named_routines list 0 list.hooks ≡ all_routines list
all_are list = ap (λ (rs : List Routine). function_routines (globals_of list) list.functions ++ rs) (sym (named_behind list [] list.hooks refl))

-- laid out where there were none before
pub all_laid : (list : Typed) (a b : Emitted) (p q : Bodies) → p.entries.items ≡ [] → p.locals.items ≡ [] → Lays (globals_of list) a p b q (function_routines (globals_of list) list.functions ++ named_routines list 0 list.hooks)
    → LaysAll list a b q
all_laid list a b p q entries locals h =
    let all = subst (λ (rs : List Routine). Lays (globals_of list) a p b q rs) (all_are list) h in
    let rs = all_routines list in
    record {
      marks = all.marks;
      kinds = all.kinds;
      entries = all.entries ∙ ap (λ (bs : List BodyCode). bodies_of bs ++ entries_from (length a.marks) rs) entries;
      locals = λ ks g. all.locals ks g ∙ ap (λ (vs : List (Vec ℕ Global)). body_kinds ks vs ++ kinds_of_locals rs) locals;
    }
