-- To words, files and an input there is one answer at most.
use Rattle.std.proofs.Common.{◌≡◌, ◌⊎◌, ◌∙◌, ℕ, List, Option, Some, inl, inr, refl, sym, ap, subst}
use Rattle.sp_ast.specs.Trees.{Tree}
use Rattle.sp_command.specs.Directories.{directories_of}
use Rattle.sp_command.specs.Refusals.{refusal_text}
use Rattle.sp_command.specs.declared.refusal.Refusal.{Refusal}
use Rattle.sp_front.specs.declared.entries.ModuleFile.{ModuleFile}
use Rattle.sp_load.specs.Loads.{IsLoaded, IsLoadRefused, sources_of, trees_of, refusal_of}
use Rattle.sp_load.specs.declared.sources.Source.{Source}
use Rattle.sp_solver.specs.Told.{told}
use Rattle.sp_type_answers.specs.NameRules.{IsTyped}
use Rattle.sp_typed_units.specs.declared.declarations.Typed.{Typed}
use Rattle.sp_type_answers.specs.Settled.{Answers}
use Rattle.sp_type_answers.specs.Lists.{typed_list}
use Rattle.sp_driver_args.specs.Words.{Words}
use Rattle.sp_driver.specs.declared.exits.Unready.{Unready}
use Rattle.sp_driver.specs.Driver.{run_meaning, unready_status, unready_message}
use Rattle.sp_driver.specs.Lists.{IsListed, IsUnready, IsChosen}
use Rattle.sp_driver.specs.Options.{options_of}
use Rattle.sp_driver.specs.Whole.{Answer, tells, run_answer, IsRefusal, IsRun, IsAnswer}

-- why no unit runs is told by one message
unready_one : (name : Option (List ℕ)) (ss : List Source) (ts : List Tree) (t : Typed) (x y : Unready) → IsUnready name ss ts t x → IsUnready name ss ts t y → unready_status x ≡ 3 → unready_status y ≡ 3
    → unready_message x ≡ unready_message y
unready_one name ss ts t Unready.NoMemory y is other here there = absurd (let z : ⊥ = cc in z)
unready_one name ss ts t Unready.NoParser Unready.NoMemory is other here there = absurd (let z : ⊥ = cc in z)
unready_one name ss ts t (Unready.Unbuilt r) Unready.NoMemory is other here there = absurd (let z : ⊥ = cc in z)
unready_one name ss ts t Unready.NoParser Unready.NoParser is other here there = refl
unready_one name ss ts t Unready.NoParser (Unready.Unbuilt r) is (u, found, why) here there = absurd (let z : ⊥ = cc in z)
unready_one name ss ts t (Unready.Unbuilt r) Unready.NoParser (u, found, why) other here there = absurd (let z : ⊥ = cc in z)
unready_one name ss ts t (Unready.Unbuilt r) (Unready.Unbuilt s) (u, found, why) (v, other, there) here three =
    let first = why.1 in
    let second = there.1 in
    let same : why.0 ≡ there.0 = cc in
    ap refusal_text (why.2 ∙ ap (refusal_of ss) same ∙ sym there.2)

-- what can't run doesn't
never_both : (name : Option (List ℕ)) (ss : List Source) (ts : List Tree) (t : Typed) (x : Unready) (u : ℕ) → IsUnready name ss ts t x → unready_status x ≡ 3 → IsChosen name ss ts t u → ⊥
never_both name ss ts t Unready.NoMemory u is here c = cc
never_both name ss ts t Unready.NoParser u is here c = let found = c.unit in let z : ⊥ = cc in z
never_both name ss ts t (Unready.Unbuilt r) u (v, found, why) here c = (let at = why.1 in let built = c.built in let z : ⊥ = cc in z)

module _ (list_one : (files : List ℕ → Option (List ℕ)) (names dirs : List (List ℕ)) (first second : List ModuleFile) → IsLoaded (Some files) names dirs first → IsLoaded (Some files) names dirs second → first ≡ second)
    (refusal_one : (files : List ℕ → Option (List ℕ)) (names dirs : List (List ℕ)) (first second : Refusal) → IsLoadRefused (Some files) names dirs first → IsLoadRefused (Some files) names dirs second → first ≡ second)
    (not_both : (files : List ℕ → Option (List ℕ)) (names dirs : List (List ℕ)) (list : List ModuleFile) (refusal : Refusal) → IsLoaded (Some files) names dirs list → IsLoadRefused (Some files) names dirs refusal → ⊥)
    (types_one : (list : List Tree) (a b : Answers list) → a.types ≡ b.types) (values_one : (list : List Tree) (a b : Answers list) → a.values ≡ b.values) (stored_one : (list : List Tree) (a b : Answers list) → a.stored ≡ b.stored) where
  typed_one : (ts : List Tree) (t u : Typed) → IsTyped ts t → IsTyped ts u → t ≡ u
  typed_one ts t u (a, is) (b, so) =
      is ∙ ap (λ types. typed_list ts (told types) (told a.values) a.stored) (types_one ts a b) ∙ ap (λ values. typed_list ts (told b.types) (told values) a.stored) (values_one ts a b)
      ∙ ap (λ stored. typed_list ts (told b.types) (told b.values) stored) (stored_one ts a b) ∙ sym so

  module _ (files : List ℕ → Option (List ℕ)) (input : List ℕ) (w : Words) where
    files_one : (fs gs : List ModuleFile) (t u : Typed) → IsListed (Some files) w fs t → IsListed (Some files) w gs u → fs ≡ gs
    files_one fs gs t u here there = list_one files w.files (directories_of w.directories) fs gs here.0 there.0

    listed_one : (fs gs : List ModuleFile) (t u : Typed) → IsListed (Some files) w fs t → IsListed (Some files) w gs u → t ≡ u
    listed_one fs gs t u here there = typed_one (trees_of gs) t u (subst (λ xs. IsTyped (trees_of xs) t) (files_one fs gs t u here there) here.1) there.1

    -- of two lists of these words what is so of the one is so of the other
    carried : (P : List ModuleFile → Typed → Type 0) (fs gs : List ModuleFile) (t u : Typed) → IsListed (Some files) w fs t → IsListed (Some files) w gs u → P fs t → P gs u
    carried P fs gs t u here there p = subst (λ y. P gs y) (listed_one fs gs t u here there) (subst (λ xs. P xs t) (files_one fs gs t u here there) p)

    refusals_one : (a b : Answer) → IsRefusal files w a → IsRefusal files w b → a ≡ b
    refusals_one a b (inl (r, refused, is)) (inl (s, other, so)) =
        is ∙ ap (λ x. tells 3 (refusal_text x)) (refusal_one files w.files (directories_of w.directories) r s refused other) ∙ sym so
    refusals_one a b (inl (r, refused, is)) (inr (gs, u, y, there, other, also, so)) = absurd (not_both files w.files (directories_of w.directories) gs r there.0 refused)
    refusals_one a b (inr (fs, t, x, here, unready, three, is)) (inl (s, other, so)) = absurd (not_both files w.files (directories_of w.directories) fs s here.0 other)
    refusals_one a b (inr (fs, t, x, here, unready, three, is)) (inr (gs, u, y, there, other, also, so)) =
        let moved = carried (λ xs z. IsUnready w.unit (sources_of xs) (trees_of xs) z x) fs gs t u here there unready in
        is ∙ ap (tells 3) (unready_one w.unit (sources_of gs) (trees_of gs) u x y moved other three also) ∙ sym so

    no_refusal_runs : (a b : Answer) → IsRefusal files w a → IsRun files input w b → ⊥
    no_refusal_runs a b (inl (r, refused, is)) (gs, u, n, there, found, so) = not_both files w.files (directories_of w.directories) gs r there.0 refused
    no_refusal_runs a b (inr (fs, t, x, here, unready, three, is)) (gs, u, n, there, found, so) =
        never_both w.unit (sources_of gs) (trees_of gs) u x n (carried (λ xs z. IsUnready w.unit (sources_of xs) (trees_of xs) z x) fs gs t u here there unready) three found

    runs_one : (a b : Answer) → IsRun files input w a → IsRun files input w b → a ≡ b
    runs_one a b (fs, t, n, here, found, is) (gs, u, k, there, other, so) =
        let moved = carried (λ xs z. IsChosen w.unit (sources_of xs) (trees_of xs) z n) fs gs t u here there found in
        let first = moved.unit in
        let second = other.unit in
        let same : n ≡ k = cc in
        is ∙ ap (λ z. run_answer (run_meaning w z n) (options_of w) input) (listed_one fs gs t u here there) ∙ ap (λ i. run_answer (run_meaning w u i) (options_of w) input) same ∙ sym so

  pub one_answer : (words : List (List ℕ)) (files : List ℕ → Option (List ℕ)) (input : List ℕ) (a b : Answer) → IsAnswer words files input a → IsAnswer words files input b → a ≡ b
  one_answer words files input a b (inl (none, is)) (inl (other, so)) = is ∙ sym so
  one_answer words files input a b (inl (none, is)) (inr (w, found, rest)) = absurd (let z : ⊥ = cc in z)
  one_answer words files input a b (inr (w, found, rest)) (inl (none, is)) = absurd (let z : ⊥ = cc in z)
  one_answer words files input a b (inr (w, found, first)) (inr (v, other, second)) =
      let same : w ≡ v = cc in
      by v (subst (λ x. IsRefusal files x a ⊎ IsRun files input x a) same first) second
    where
      by : (w : Words) → IsRefusal files w a ⊎ IsRun files input w a → IsRefusal files w b ⊎ IsRun files input w b → a ≡ b
      by w (inl x) (inl y) = refusals_one files input w a b x y
      by w (inl x) (inr y) = absurd (no_refusal_runs files input w a b x y)
      by w (inr x) (inl y) = absurd (no_refusal_runs files input w b a y x)
      by w (inr x) (inr y) = runs_one files input w a b x y
