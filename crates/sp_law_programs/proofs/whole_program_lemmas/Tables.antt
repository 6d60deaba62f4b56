-- What stands in the tables of a program: kinds of units, of their members, and of `$$`.
use Rattle.std.proofs.Common.{◌≡◌, ℕ, zero, suc, ◌+◌, List, [], ◌∷◌, ◌++◌, length, reverse, Some, None, refl, sym, ap, ◌∙◌, arith, append_assoc, append-nil}
use Rattle.std.proofs.lemmas.List.{reverse-append, reverse-reverse}
use Rattle.std.specs.Prelude.{slice_get, unwrap_or}
use Rattle.sp_methods.specs.Kinds.{Kind}
use Rattle.sp_typed_units.specs.declared.declarations.Hook.{Hook}
use Rattle.sp_typed_units.specs.declared.declarations.Member.{Member}
use Rattle.sp_typed_units.specs.declared.declarations.Parameter.{Parameter}
use Rattle.sp_typed_units.specs.declared.declarations.Unit.{Unit as TypedUnit}
use Rattle.sp_meaning_states.specs.Types.{kind_of_type}
use Rattle.sp_meaning.specs.Globals.{globals_of}
use Rattle.sp_code_programs.specs.exprs.Code.{kind_at}
use Rattle.sp_code_programs.specs.units.Units.{kinds_over}
use Rattle.sp_code_programs.specs.programs.Routines.{parameter_kinds}
use Rattle.sp_code_programs.specs.programs.Currents.{current_kind, currents_from}
use Rattle.sp_code_programs.specs.programs.Units.{member_kinds, kinds_of_unit, kinds_of_units}
use Rattle.sp_law_code.specs.units.Keeps.{AreKindsOf}
use Rattle.sp_law_programs.specs.whole_program.Laws.{CurrentsAreListed}

one_over : (n m : ℕ) → n + suc m ≡ suc n + m
one_over n m = omega arith

none_before : (n : ℕ) → n ≡ 0 + n
none_before n = omega arith

none_over : (n : ℕ) → n + 0 ≡ n
none_over n = omega arith

module _ (ranges : List ℕ) where
  pub kinds_among : (xs : List TypedUnit) (j : ℕ) (x : TypedUnit) → slice_get xs j ≡ Some x → slice_get (kinds_of_units ranges xs) j ≡ Some (kinds_of_unit ranges x)
  kinds_among [] j x e = absurd (let q : None ≡ Some x = e in cc)
  kinds_among (y ∷ xs) zero x e = ap (λ o. Some (kinds_of_unit ranges (unwrap_or o y))) e
  kinds_among (y ∷ xs) (suc j) x e = kinds_among xs j x e

  pub member_among : (ms : List Member) (j : ℕ) (m : Member) → slice_get ms j ≡ Some m → slice_get (member_kinds ranges ms) j ≡ Some (kind_of_type ranges m.ty)
  member_among [] j m e = absurd (let q : None ≡ Some m = e in cc)
  member_among (n ∷ ms) zero m e = ap (λ o. Some (kind_of_type ranges (unwrap_or o n).ty)) e
  member_among (n ∷ ms) (suc j) m e = member_among ms j m e

  pub parameter_among : (xs : List Parameter) (j : ℕ) (x : Parameter) → slice_get xs j ≡ Some x → slice_get (parameter_kinds ranges xs) j ≡ Some (kind_of_type ranges x.ty)
  parameter_among [] j x e = absurd (let q : None ≡ Some x = e in cc)
  parameter_among (y ∷ xs) zero x e = ap (λ o. Some (kind_of_type ranges (unwrap_or o y).ty)) e
  parameter_among (y ∷ xs) (suc j) x e = parameter_among xs j x e

  members_counted : (ms : List Member) → length (member_kinds ranges ms) ≡ length ms
  members_counted [] = refl
  members_counted (m ∷ ms) = ap suc (members_counted ms)

  -- the kinds of parameters with the last first
  over_counted : (xs : List Parameter) (ks : List Kind) → length (kinds_over ranges xs ks) ≡ length xs + length ks
  over_counted [] ks = none_before (length ks)
  over_counted (x ∷ xs) ks = over_counted xs (kind_of_type ranges x.ty ∷ ks) ∙ one_over (length xs) (length ks)

  over_reversed : (xs : List Parameter) (ks : List Kind) → kinds_over ranges xs ks ≡ reverse (parameter_kinds ranges xs) ++ ks
  over_reversed [] ks = refl
  over_reversed (x ∷ xs) ks =
      let k = kind_of_type ranges x.ty in
      let ls = parameter_kinds ranges xs in
      over_reversed xs (k ∷ ks) ∙ sym (append_assoc (reverse ls) (k ∷ []) ks) ∙ sym (ap (λ rs. rs ++ ks) (reverse-append (k ∷ []) ls))

  parameters_reversed : (xs : List Parameter) → parameter_kinds ranges xs ≡ reverse (kinds_over ranges xs [])
  parameters_reversed xs =
      let ks = parameter_kinds ranges xs in
      sym (reverse-reverse ks) ∙ sym (ap (λ (rs : List Kind). reverse rs) (over_reversed xs [] ∙ append-nil (reverse ks)))

  -- a unit has the kinds of what its starter takes
  pub kinds_are : (x : TypedUnit) → AreKindsOf x (kinds_over ranges x.parameters []) (kinds_of_unit ranges x)
  kinds_are x = record { takes = over_counted x.parameters [] ∙ none_over (length x.parameters); parameters = parameters_reversed x.parameters; members = members_counted x.members; locals = refl }

  current_among : (units : List TypedUnit) (xs : List Hook) (n j : ℕ) (x : Hook) → slice_get xs j ≡ Some x → kind_at (currents_from ranges units n xs) j ≡ current_kind ranges units (n + j) x
  current_among units [] n j x e = absurd (let q : None ≡ Some x = e in cc)
  current_among units (y ∷ xs) n zero x e =
      let m : n ≡ n + 0 = omega arith in
      ap (λ o. current_kind ranges units n (unwrap_or o y)) e ∙ ap (λ m. current_kind ranges units m x) m
  current_among units (y ∷ xs) n (suc j) x e =
      let m : suc n + j ≡ n + suc j = omega arith in
      current_among units xs (suc n) j x e ∙ ap (λ m. current_kind ranges units m x) m

pub currents_are_listed : CurrentsAreListed
currents_are_listed list h x e =
    let ranges = (globals_of list).ranges in
    let n : 0 + h ≡ h = omega arith in
    current_among ranges list.units list.hooks 0 h x e ∙ ap (λ n. current_kind ranges list.units n x) n
