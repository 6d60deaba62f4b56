-- By rounds: what is stored in each member has a full type, and each member has one.
use Rattle.std.specs.Prelude.{false, true}
use Rattle.std.specs.List.{list_all}
use Rattle.std.proofs.Common.{ℕ, ◌≡◌, ◌<◌, zero, suc, refl, sym, ap, subst, ◌∙◌, List, length, Option, Some, None, slice_get}
use Rattle.sp_base.specs.declared.places.Span.{Span}
use Rattle.sp_ast.specs.Trees.{Tree}
use Rattle.sp_ast.specs.Slots.{is_formed}
use Rattle.sp_rules.specs.declared.fault.Fault.{Fault}
use Rattle.sp_types.specs.Types.{Ty}
use Rattle.sp_type_context.specs.Contexts.{Around}
use Rattle.sp_type_fields.specs.Values.{Values}
use Rattle.sp_solver.specs.declared.attempt.Attempt.{Attempt}
use Rattle.sp_solver.specs.declared.attempt.Attempt.TheVariants.{Done, Waits}
use Rattle.sp_solver.specs.Rounds.{got, round, Within}
use Rattle.sp_solver.specs.Told.{told}
use Rattle.sp_solver.proofs.Rounds.{round_within}
use Rattle.sp_names.specs.Types.{or_unknown}
use Rattle.sp_type_modules.specs.declared.sources.Source.TheVariants as source_is
use Rattle.sp_type_modules.specs.declared.sources.Question.{Question}
use Rattle.sp_type_modules.specs.Sources.{questions}
use Rattle.sp_type_members.specs.Tries.{in_unit, source_type, source_open, when_open, nowhere, try_unit, try_asked, tries, AreStored}
use Rattle.sp_type_members.specs.Endless.{place_of}
use Rattle.sp_type_members.specs.inside.Aligned.{are_in_row}
use Rattle.sp_type_members.specs.inside.Laws.{is_fair}
use Rattle.sp_type_answers.specs.Settled.{Answers}
use Rattle.sp_type_answers.specs.Lists.{typed_of}
use Rattle.sp_type_answers.specs.Rules.{Breaks}
use Rattle.sp_law_lists.specs.known_types.Full.{is_full}
use Rattle.sp_law_lists.proofs.known_types_lemmas.Full.{never}
use Rattle.sp_law_lists.proofs.whole_list_lemmas.Modules.{none_found, some_found}
use Rattle.sp_law_lists.proofs.known_constants_lemmas.Declarations.{at_all}
use Rattle.sp_law_lists.proofs.known_constants_lemmas.Rounds.{one_there, by_some}
use Rattle.sp_law_lists.proofs.unbroken_list_lemmas.Split.{are_asked}
use Rattle.sp_law_lists.specs.known_members.Given.{unit_reads}
use Rattle.sp_law_lists.proofs.known_members_lemmas.Contexts.{FullMembers}
use Rattle.sp_law_lists.proofs.known_members_lemmas.Ranges.{full_members}
use Rattle.sp_law_lists.proofs.known_members_lemmas.Units.{v, contexts}
use Rattle.sp_law_lists.proofs.known_members_lemmas.Answered.{IsAnswered, all_answered}
use Rattle.sp_law_lists.proofs.known_members_lemmas.Told.{SourceUntold, QuestionUntold, members_untold}

got_done : (x : Attempt Ty) (u : Ty) → got x ≡ Some u → x ≡ Done u
got_done (Done b) u e = ap Done (some_found b u e)
got_done (Waits j) u e = none_found u e

done_open : (b u : Ty) (o : Option ℕ) → when_open b o ≡ Done u → (o ≡ None) × (b ≡ u)
done_open b u None e = (refl, cc)
done_open b u (Some j) e = absurd (let z : ⊥ = cc in z)

done_there : (o : Option Ty) (i : ℕ) (u : Ty) → nowhere o i ≡ Done u → o ≡ Some u
done_there None i u e = absurd (let z : ⊥ = cc in z)
done_there (Some b) i u e = ap Some (let z : b ≡ u = cc in z)

-- Each member without a type is a field with a conversion that hangs on one without a type.
abbrev pub NoneIsPassed : Type 0
NoneIsPassed =
    (list : List Tree) (contexts : List Around) (v : Values) (types : List (Option Ty)) (i : ℕ) (q : Question) → AreStored list contexts v types → slice_get (questions list) i ≡ Some q → told types i ≡ None
    → (t : Tree) × (q.source ≡ source_is.Field t) × (at : Span) × (place_of list contexts v types q.unit t ≡ Some at)

module _ (list : List Tree) (a : Answers list) (formed_list : list_all is_formed list ≡ true) (unbroken : (x : Fault) → Breaks list x → ⊥) (reads : list_all unit_reads (typed_of list a).units ≡ true) (passed : NoneIsPassed) where
  abbrev worth : Values
  worth = v list a formed_list unbroken

  abbrev round_units : List Around
  round_units = contexts list a formed_list unbroken

  abbrev count : ℕ
  count = length (questions list)

  abbrev try : (ℕ → Option Ty) → ℕ → Attempt Ty
  try = tries list round_units worth

  abbrev Answered : Question → Type 0
  Answered q = IsAnswered list a formed_list unbroken reads q

  round_known : (k : ℕ) → Within (round try k) (told a.stored)
  round_known k = round_within try (is_fair list round_units worth) (told a.stored) (record { solved = a.kept.settled.solved; stuck = a.kept.settled.stuck }) k

  -- what a try in the context of its unit gives
  tried : (s : ℕ → Option Ty) (i : ℕ) (q : Question) (u : Ty) (is : Answered q) → slice_get (questions list) i ≡ Some q → try s i ≡ Done u
      → (source_open list count s (in_unit list s q.unit is.context) worth q.source ≡ None) × (source_type (in_unit list s q.unit is.context) worth q.source ≡ u)
  tried s i q u is at e =
      let inside = in_unit list s q.unit is.context in
      done_open (source_type inside worth q.source) u (source_open list count s inside worth q.source)
      (sym (ap (try_unit list count s worth q) is.stands) ∙ sym (ap (try_asked list round_units worth count s i) at) ∙ e)

  pub rounds_full : (k i : ℕ) (u : Ty) → round try k i ≡ Some u → is_full u ≡ true
  rounds_full zero i u e = none_found u e
  rounds_full (suc k) i u e =
      let done = got_done (try (round try k) i) u e in
      by_some (slice_get (questions list) i)
      (λ n. rounds_full k i u (done_there (round try k i) i u (sym (ap (try_asked list round_units worth count (round try k) i) n) ∙ done)))
      (λ q at. (
      let is = at_all Answered (questions list) i q (all_answered list a formed_list unbroken reads) at in
      let now = tried (round try k) i q u is at done in
      let last = tried (told a.stored) i q u is at (a.kept.settled.solved i u (round_known (suc k) i u e)) in
      ap is_full (sym last.1) ∙ is.sound (round try k) (round_known k) (rounds_full k) now.0
      ))

  -- a member without a type breaks a rule
  untold : (i : ℕ) (q : Question) → slice_get (questions list) i ≡ Some q → told a.stored i ≡ None → false ≡ true
  untold i q e n =
      let place = passed list round_units worth a.stored i q a.kept e n in
      let none_told = at_all (QuestionUntold list round_units worth a.stored) (questions list) i q (members_untold list round_units worth a.stored (are_asked list a unbroken).conversions) e in
      let none_there = subst (SourceUntold list round_units worth a.stored q.unit) place.1 none_told in
      none_found place.2 (sym none_there ∙ place.3)

  pub stored_full : (i : ℕ) → i < count → is_full (or_unknown (told a.stored i)) ≡ true
  stored_full i lt = by (told a.stored i) refl
    where
      by : (o : Option Ty) → told a.stored i ≡ o → is_full (or_unknown o) ≡ true
      by None n =
          never (by_some (slice_get (questions list) i) (λ e. one_there (questions list) i lt e) (λ q e. untold i q e n))
      by (Some u) e = (let k = a.kept.settled.found i u e in rounds_full k.0 i u k.1)

  -- All members that can be found have full types.
  pub members_known : FullMembers list (told a.stored)
  members_known = full_members list a unbroken (told a.stored) (λ n k x e. stored_full _ (are_in_row list n k x e))
