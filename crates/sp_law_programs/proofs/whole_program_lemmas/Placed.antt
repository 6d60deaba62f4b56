-- Where the units and the starters of a list stand, what is true of their code, and that their code counts its turns.
use Rattle.std.proofs.Common.{◌≡◌, ℕ, zero, suc, ◌+◌, List, [], ◌∷◌, ◌++◌, length, Some, None, refl, sym, ap, ◌∙◌, subst, arith, length-append}
use Rattle.std.specs.Prelude.{slice_get, unwrap_or}
use Rattle.sp_typed_units.specs.declared.declarations.Typed.{Typed}
use Rattle.sp_typed_units.specs.declared.declarations.Unit.{Unit as TypedUnit}
use Rattle.sp_code.specs.Machine.{UnitCode, Plain}
use Rattle.sp_code.specs.Shapes.{Shapes}
use Rattle.sp_code_programs.specs.exprs.Marked.{Marked, Shows}
use Rattle.sp_code_programs.specs.units.Units.{unit_code, ending_code, failing_code, starter_code, unit_entry}
use Rattle.sp_code_programs.specs.programs.Units.{ending_at, failing_at, unit_end, whole_unit_code, units_code, units_end, unit_entries, starters_code}
use Rattle.sp_law_code.specs.exprs.Laws.{AllKeep}
use Rattle.sp_law_code.proofs.exprs_lemmas.Keeping.{shows_front, shows_back, keep_both}
use Rattle.sp_law_code.specs.units.Fits.{UnitFits}
use Rattle.sp_law_code.proofs.units_lemmas.Kept.{units_keep}
use Rattle.sp_law_code.specs.turns.Falling.{AllTurn}
use Rattle.sp_law_code.proofs.turns_lemmas.Programs.{joined_turn, pieces_turn}
use Rattle.sp_law_code.proofs.turns_lemmas.Units.{units_turn}

-- lengths of pieces, one behind another
behind_sized : (at : ℕ) (a b : List Marked) → at + length (a ++ b) ≡ at + length a + length b
behind_sized at a b = omega (arith, length-append {A = Marked})

three_sized : (at : ℕ) (a b c : List Marked) → at + length (a ++ (b ++ c)) ≡ at + length a + length b + length c
three_sized at a b c = omega (arith, length-append {A = Marked})

none_sized : (at : ℕ) → at + 0 ≡ at
none_sized at = omega arith

two_more : (n : ℕ) → suc (suc (n + n)) ≡ suc n + suc n
two_more n = omega arith

module _ (list : Typed) where
  pub whole_sized : (at u : ℕ) (x : TypedUnit) → at + length (whole_unit_code list at u x) ≡ unit_end list at u x
  whole_sized at u x = three_sized at (unit_code list at u x) (ending_code list u) (failing_code list u)

  pub units_sized : (xs : List TypedUnit) (at u : ℕ) → at + length (units_code list at u xs) ≡ units_end list at u xs
  units_sized [] at u = none_sized at
  units_sized (x ∷ xs) at u =
      let later = units_code list (unit_end list at u x) (suc u) xs in
      behind_sized at (whole_unit_code list at u x) later ∙ ap (λ n. n + length later) (whole_sized at u x) ∙ units_sized xs (unit_end list at u x) (suc u)

  pub entries_counted : (xs : List TypedUnit) (at u : ℕ) → length (unit_entries list at u xs) ≡ length xs
  entries_counted [] at u = refl
  entries_counted (x ∷ xs) at u = ap suc (entries_counted xs (unit_end list at u x) (suc u))

  pub starters_sized : (xs : List TypedUnit) (u : ℕ) → length (starters_code list u xs) ≡ length xs + length xs
  starters_sized [] u = refl
  starters_sized (x ∷ xs) u = ap (λ n. suc (suc n)) (starters_sized xs (suc u)) ∙ two_more (length xs)

  -- where the unit stands that has this place among several, the first of which stands at an address
  abbrev pub start_among : ℕ → ℕ → List TypedUnit → ℕ → ℕ
  start_among at u [] j = at
  start_among at u (x ∷ xs) zero = at
  start_among at u (x ∷ xs) (suc j) = start_among (unit_end list at u x) (suc u) xs j

  -- its entry, where its code begins at an address
  abbrev pub entry_from : ℕ → ℕ → TypedUnit → UnitCode
  entry_from s u x = unit_entry s (ending_at list s u x) (failing_at list s u x) x

  pub entry_among : (xs : List TypedUnit) (at u j : ℕ) (x : TypedUnit) → slice_get xs j ≡ Some x → slice_get (unit_entries list at u xs) j ≡ Some (entry_from (start_among at u xs j) (u + j) x)
  entry_among [] at u j x e = absurd (let q : None ≡ Some x = e in cc)
  entry_among (y ∷ xs) at u zero x e =
      let n : u ≡ u + 0 = omega arith in
      ap (λ o. Some (entry_from at u (unwrap_or o y))) e ∙ ap (λ n. Some (entry_from at n x)) n
  entry_among (y ∷ xs) at u (suc j) x e =
      let n : suc u + j ≡ u + suc j = omega arith in
      let s = start_among (unit_end list at u y) (suc u) xs j in
      entry_among xs (unit_end list at u y) (suc u) j x e ∙ ap (λ n. Some (entry_from s n x)) n

  -- what is true of code, wherever it stands, and with it of its first part and of what is behind that
  module _ (Q : ℕ → List Marked → Type 0) where
    pub record Pieces (s u : ℕ) (x : TypedUnit) : Type 0 where
      pub parts : Q s (unit_code list s u x)
      pub ending : Q (ending_at list s u x) (ending_code list u)
      pub failing : Q (failing_at list s u x) (failing_code list u)

    module _ (front : (n : ℕ) (a b : List Marked) → Q n (a ++ b) → Q n a) (back : (n : ℕ) (a b : List Marked) → Q n (a ++ b) → Q (n + length a) b) where
      pub pieces_of : (s u : ℕ) (x : TypedUnit) → Q s (whole_unit_code list s u x) → Pieces s u x
      pieces_of s u x q =
          let a = unit_code list s u x in
          let b = ending_code list u in
          let c = failing_code list u in
          let r = back s a (b ++ c) q in
          record { parts = front s a (b ++ c) q; ending = front (ending_at list s u x) b c r; failing = back (ending_at list s u x) b c r }

      pub unit_among : (xs : List TypedUnit) (at u j : ℕ) (x : TypedUnit) → slice_get xs j ≡ Some x → Q at (units_code list at u xs) → Pieces (start_among at u xs j) (u + j) x
      unit_among [] at u j x e q = absurd (let r : None ≡ Some x = e in cc)
      unit_among (y ∷ xs) at u zero x e q =
          let n : u ≡ u + 0 = omega arith in
          let first = pieces_of at u y (front at (whole_unit_code list at u y) (units_code list (unit_end list at u y) (suc u) xs) q) in
          subst (λ n. Pieces at n x) n (subst (λ x. Pieces at u x) (ap (λ o. unwrap_or o y) e) first)
      unit_among (y ∷ xs) at u (suc j) x e q =
          let later = units_code list (unit_end list at u y) (suc u) xs in
          let n : suc u + j ≡ u + suc j = omega arith in
          let s = start_among (unit_end list at u y) (suc u) xs j in
          subst (λ n. Pieces s n x) n (unit_among xs (unit_end list at u y) (suc u) j x e (subst (λ n. Q n later) (whole_sized at u y) (back at (whole_unit_code list at u y) later q)))

      -- each starter has two instructions
      pub starter_among : (xs : List TypedUnit) (at u j : ℕ) (x : TypedUnit) → slice_get xs j ≡ Some x → Q at (starters_code list u xs) → Q (at + (j + j)) (starter_code list (u + j) x)
      starter_among [] at u j x e q = absurd (let r : None ≡ Some x = e in cc)
      starter_among (y ∷ xs) at u zero x e q =
          let n : u ≡ u + 0 = omega arith in
          let m : at ≡ at + (0 + 0) = omega arith in
          let first = front at (starter_code list u y) (starters_code list (suc u) xs) q in
          subst (λ m. Q m (starter_code list (u + 0) x)) m (subst (λ n. Q at (starter_code list n x)) n (subst (λ x. Q at (starter_code list u x)) (ap (λ o. unwrap_or o y) e) first))
      starter_among (y ∷ xs) at u (suc j) x e q =
          let n : suc u + j ≡ u + suc j = omega arith in
          let m : at + 2 + (j + j) ≡ at + (suc j + suc j) = omega arith in
          let later = starter_among xs (at + 2) (suc u) j x e (back at (starter_code list u y) (starters_code list (suc u) xs) q) in
          subst (λ m. Q m (starter_code list (u + suc j) x)) m (subst (λ n. Q (at + 2 + (j + j)) (starter_code list n x)) n later)

  -- all units count their turns, and so do starters, which lead nowhere without one
  whole_turns : (at u : ℕ) (x : TypedUnit) → AllTurn at (whole_unit_code list at u x)
  whole_turns at u x =
      let a = unit_code list at u x in
      let b = ending_code list u in
      let c = failing_code list u in
      let turn = units_turn list at (ending_at list at u x) (failing_at list at u x) u x in
      joined_turn at a (b ++ c) turn.0 (joined_turn (ending_at list at u x) b c turn.1 turn.2)

  pub all_units_turn : (xs : List TypedUnit) (at u : ℕ) → AllTurn at (units_code list at u xs)
  all_units_turn [] at u = pieces_turn at [] tt
  all_units_turn (x ∷ xs) at u =
      let later = units_code list (unit_end list at u x) (suc u) xs in
      joined_turn at (whole_unit_code list at u x) later (whole_turns at u x) (subst (λ n. AllTurn n later) (sym (whole_sized at u x)) (all_units_turn xs (unit_end list at u x) (suc u)))

  starter_turns : (at u : ℕ) (x : TypedUnit) → AllTurn at (starter_code list u x)
  starter_turns at u x = record { heights = 0 ∷ 0 ∷ []; count = refl; low = (omega arith, (omega arith, tt)); fall = λ height have. (tt, (tt, tt)) }

  pub all_starters_turn : (xs : List TypedUnit) (at u : ℕ) → AllTurn at (starters_code list u xs)
  all_starters_turn [] at u = pieces_turn at [] tt
  all_starters_turn (x ∷ xs) at u =
      joined_turn at (starter_code list u x) (starters_code list (suc u) xs) (starter_turns at u x) (all_starters_turn xs (at + length (starter_code list u x)) (suc u))

-- units that fit keep to their shapes
module _ (p : Plain) (shapes : Shapes) (list : Typed) where
  whole_keeps : (at u : ℕ) (x : TypedUnit) → UnitFits p shapes list u x → Shows shapes.at at (whole_unit_code list at u x) → AllKeep p shapes at (whole_unit_code list at u x)
  whole_keeps at u x fits shows =
      let a = unit_code list at u x in
      let b = ending_code list u in
      let c = failing_code list u in
      let here = pieces_of list (λ n ms. Shows shapes.at n ms) (shows_front p shapes) (shows_back p shapes) at u x shows in
      keep_both p shapes at a (b ++ c) ((units_keep p shapes list u x fits at).0 here.parts).0
      (keep_both p shapes (ending_at list at u x) b c ((units_keep p shapes list u x fits (ending_at list at u x)).1 here.ending).0 ((units_keep p shapes list u x fits (failing_at list at u x)).2 here.failing).0)

  pub all_units_keep : (xs : List TypedUnit) (at u : ℕ) → ((j : ℕ) (x : TypedUnit) → slice_get xs j ≡ Some x → UnitFits p shapes list (u + j) x) → Shows shapes.at at (units_code list at u xs) → AllKeep p shapes at (units_code list at u xs)
  all_units_keep [] at u each shows = tt
  all_units_keep (x ∷ xs) at u each shows =
      let n : u + 0 ≡ u = omega arith in
      let code = whole_unit_code list at u x in
      let later = units_code list (unit_end list at u x) (suc u) xs in
      let to = whole_sized list at u x in
      let of_later : (j : ℕ) (y : TypedUnit) → slice_get xs j ≡ Some y → UnitFits p shapes list (suc u + j) y =
      λ j y e. let m : u + suc j ≡ suc u + j = omega arith in subst (λ n. UnitFits p shapes list n y) m (each (suc j) y e) in
      keep_both p shapes at code later (whole_keeps at u x (subst (λ n. UnitFits p shapes list n x) n (each 0 x refl)) (shows_front p shapes at code later shows))
      (subst (λ n. AllKeep p shapes n later) (sym to) (all_units_keep xs (unit_end list at u x) (suc u) of_later (subst (λ n. Shows shapes.at n later) to (shows_back p shapes at code later shows))))

  -- and so do all starters, if each does
  pub all_starters_keep : (xs : List TypedUnit) (at u : ℕ)
      → ((j : ℕ) (x : TypedUnit) → slice_get xs j ≡ Some x → (n : ℕ) → Shows shapes.at n (starter_code list (u + j) x) → AllKeep p shapes n (starter_code list (u + j) x)) → Shows shapes.at at (starters_code list u xs)
      → AllKeep p shapes at (starters_code list u xs)
  all_starters_keep [] at u each shows = tt
  all_starters_keep (x ∷ xs) at u each shows =
      let n : u + 0 ≡ u = omega arith in
      let code = starter_code list u x in
      let later = starters_code list (suc u) xs in
      let of_first : Shows shapes.at at code → AllKeep p shapes at code = subst (λ n. Shows shapes.at at (starter_code list n x) → AllKeep p shapes at (starter_code list n x)) n (each 0 x refl at) in
      let of_later : (j : ℕ) (y : TypedUnit) → slice_get xs j ≡ Some y → (n : ℕ) → Shows shapes.at n (starter_code list (suc u + j) y) → AllKeep p shapes n (starter_code list (suc u + j) y) =
      λ j y e at.
      let m : u + suc j ≡ suc u + j = omega arith in
      subst (λ n. Shows shapes.at at (starter_code list n y) → AllKeep p shapes at (starter_code list n y)) m (each (suc j) y e at) in
      keep_both p shapes at code later (of_first (shows_front p shapes at code later shows)) (all_starters_keep xs (at + length code) (suc u) of_later (shows_back p shapes at code later shows))
