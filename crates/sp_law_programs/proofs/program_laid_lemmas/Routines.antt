-- Bodies one behind another: where each of them stands, and that all of them keep to their shapes.
use Rattle.std.proofs.Common.{◌≡◌, ℕ, zero, suc, ◌+◌, List, [], ◌∷◌, ◌++◌, length, Some, None, refl, sym, ap, ◌∙◌, subst, arith, length-append}
use Rattle.std.specs.Prelude.{slice_get, unwrap_or}
use Rattle.sp_methods.specs.Kinds.{Kind, Has}
use Rattle.sp_typed_units.specs.declared.declarations.Function.{Function}
use Rattle.sp_typed_units.specs.declared.declarations.Hook.{Hook}
use Rattle.sp_meaning_states.specs.Reads.{NoWord}
use Rattle.sp_meaning.specs.Globals.{Globals}
use Rattle.sp_code.specs.Machine.{Body, Plain}
use Rattle.sp_code.specs.Shapes.{BodyKinds, Shapes, IsResult}
use Rattle.sp_code_programs.specs.exprs.Marked.{Marked, HasAt, Shows}
use Rattle.sp_code_programs.specs.exprs.Code.{kind_at}
use Rattle.sp_code_programs.specs.units.Bodies.{name_at}
use Rattle.sp_code_programs.specs.programs.Routines.{Routine, routine_size, entry_at, local_kinds, routine_code, function_routine, hook_routine, function_routines, hook_routines}
use Rattle.sp_code_programs.specs.programs.Programs.{routines_size, entries_from, kinds_of_locals, routines_code}
use Rattle.sp_law_code.specs.exprs.Laws.{AllKeep}
use Rattle.sp_law_code.proofs.exprs_lemmas.Steps.{has_front, has_back}
use Rattle.sp_law_code.proofs.exprs_lemmas.Keeping.{shows_front, shows_back, keep_both}
use Rattle.sp_law_code.proofs.bodies_lemmas.Sizes.{stmt_sized}
use Rattle.sp_law_code.proofs.bodies_lemmas.KeptStmts.{bodies_keep}
use Rattle.sp_law_programs.specs.program_laid.Fits.{BodyFits}

-- a function is the one of its number among all bodies
pub function_at : (globals : Globals) (xs : List Function) (rs : List Routine) (f : ℕ) (x : Function) → slice_get xs f ≡ Some x
    → slice_get (function_routines globals xs ++ rs) f ≡ Some (function_routine globals x)
function_at globals [] rs f x e = absurd (let q : None ≡ Some x = e in cc)
function_at globals (y ∷ xs) rs zero x e = ap (λ o. Some (function_routine globals (unwrap_or o y))) e
function_at globals (y ∷ xs) rs (suc f) x e = function_at globals xs rs f x e

-- and so is a body of a hook, behind all functions
behind_functions : (globals : Globals) (xs : List Function) (rs : List Routine) (h : ℕ) → slice_get (function_routines globals xs ++ rs) (length xs + h) ≡ slice_get rs h
behind_functions globals [] rs h = let e : length {A = Function} [] + h ≡ h = omega arith in ap (λ n. slice_get rs n) e
behind_functions globals (x ∷ xs) rs h =
    let e : length (x ∷ xs) + h ≡ suc (length xs + h) = omega arith in
    ap (λ n. slice_get (function_routines globals (x ∷ xs) ++ rs) n) e ∙ behind_functions globals xs rs h

hook_among : (globals : Globals) (names : List (List ℕ)) (currents : List Kind) (xs : List Hook) (first h : ℕ) (x : Hook) → slice_get xs h ≡ Some x
    → slice_get (hook_routines globals names currents first xs) h ≡ Some (hook_routine globals (name_at names (first + h)) (kind_at currents (first + h)) x)
hook_among globals names currents [] first h x e = absurd (let q : None ≡ Some x = e in cc)
hook_among globals names currents (y ∷ xs) first zero x e =
    let n : first ≡ first + 0 = omega arith in
    ap (λ o. Some (hook_routine globals (name_at names first) (kind_at currents first) (unwrap_or o y))) e
    ∙ ap (λ n. Some (hook_routine globals (name_at names n) (kind_at currents n) x)) n
hook_among globals names currents (y ∷ xs) first (suc h) x e =
    let n : suc first + h ≡ first + suc h = omega arith in
    hook_among globals names currents xs (suc first) h x e ∙ ap (λ n. Some (hook_routine globals (name_at names n) (kind_at currents n) x)) n

pub hook_at : (globals : Globals) (names : List (List ℕ)) (currents : List Kind) (xs : List Function) (ys : List Hook) (h : ℕ) (y : Hook) → slice_get ys h ≡ Some y
    → slice_get (function_routines globals xs ++ hook_routines globals names currents 0 ys) (length xs + h) ≡ Some (hook_routine globals (name_at names h) (kind_at currents h) y)
hook_at globals names currents xs ys h y e =
    let n : 0 + h ≡ h = omega arith in
    behind_functions globals xs (hook_routines globals names currents 0 ys) h
    ∙ hook_among globals names currents ys 0 h y e
    ∙ ap (λ n. Some (hook_routine globals (name_at names n) (kind_at currents n) y)) n

module _ (globals : Globals) where
  pub routine_sized : (at : ℕ) (r : Routine) → length (routine_code globals at r) ≡ routine_size r
  routine_sized at r = omega (arith, length-append {A = Marked}, stmt_sized globals r.layout r.shape at at at r.body)

  pub routines_sized : (rs : List Routine) (at : ℕ) → length (routines_code globals at rs) ≡ routines_size rs
  routines_sized [] at = refl
  routines_sized (r ∷ rs) at = omega (arith, length-append {A = Marked}, routine_sized at r, routines_sized rs (at + routine_size r))

  -- what is true of each body
  module _ (P : Routine → Type 0) where
    abbrev pub AreAll : List Routine → Type 0
    AreAll [] = Unit {0}
    AreAll (r ∷ rs) = P r × AreAll rs

    all_both : (rs qs : List Routine) → AreAll rs → AreAll qs → AreAll (rs ++ qs)
    all_both [] qs h g = g
    all_both (r ∷ rs) qs h g = (h.0, all_both rs qs h.1 g)

    all_functions : (xs : List Function) → ((f : ℕ) (x : Function) → slice_get xs f ≡ Some x → P (function_routine globals x)) → AreAll (function_routines globals xs)
    all_functions [] each = tt
    all_functions (x ∷ xs) each = (each 0 x refl, all_functions xs (λ f y e. each (suc f) y e))

    module _ (names : List (List ℕ)) (currents : List Kind) where
      abbrev of_hook : ℕ → Hook → Routine
      of_hook h x = hook_routine globals (name_at names h) (kind_at currents h) x

      all_hooks : (xs : List Hook) (first : ℕ) → ((h : ℕ) (x : Hook) → slice_get xs h ≡ Some x → P (of_hook (first + h) x)) → AreAll (hook_routines globals names currents first xs)
      all_hooks [] first each = tt
      all_hooks (x ∷ xs) first each =
          let n : first + 0 ≡ first = omega arith in
          let later : (h : ℕ) (y : Hook) → slice_get xs h ≡ Some y → P (of_hook (suc first + h) y) =
          λ h y e. let m : first + suc h ≡ suc first + h = omega arith in subst (λ n. P (of_hook n y)) m (each (suc h) y e) in
          (subst (λ n. P (of_hook n x)) n (each 0 x refl), all_hooks xs (suc first) later)

      -- of a list of modules
      pub all_routines : (xs : List Function) (ys : List Hook) → ((f : ℕ) (x : Function) → slice_get xs f ≡ Some x → P (function_routine globals x))
          → ((h : ℕ) (y : Hook) → slice_get ys h ≡ Some y → P (of_hook h y)) → AreAll (function_routines globals xs ++ hook_routines globals names currents 0 ys)
      all_routines xs ys functions hooks =
          all_both (function_routines globals xs) (hook_routines globals names currents 0 ys) (all_functions xs functions)
          (all_hooks ys 0 (λ h y e. let n : h ≡ 0 + h = omega arith in subst (λ n. P (of_hook n y)) n (hooks h y e)))

module _ (p : Plain) (shapes : Shapes) (globals : Globals) where
  -- a body has its entry at this number, its code where the entry says, and the shapes of its code there
  pub record IsPlaced (entries : List Body) (kinds : List BodyKinds) (n : ℕ) (r : Routine) : Type 0 where
    pub start : ℕ
    pub listed : slice_get entries n ≡ Some (entry_at start r)
    pub locals : slice_get kinds n ≡ Some (local_kinds r)
    pub stands : HasAt p start (routine_code globals start r)
    pub shows : Shows shapes.at start (routine_code globals start r)

  pub placed_at : (rs : List Routine) (at n : ℕ) (r : Routine) → slice_get rs n ≡ Some r → HasAt p at (routines_code globals at rs) → Shows shapes.at at (routines_code globals at rs)
      → IsPlaced (entries_from at rs) (kinds_of_locals rs) n r
  placed_at [] at n r e has shows = absurd (let q : None ≡ Some r = e in cc)
  placed_at (q ∷ rs) at zero r e has shows =
      let code = routine_code globals at q in
      let later = routines_code globals (at + routine_size q) rs in
      subst (λ r. IsPlaced (entries_from at (q ∷ rs)) (kinds_of_locals (q ∷ rs)) 0 r) (ap (λ o. unwrap_or o q) e)
      (record { start = at; listed = refl; locals = refl; stands = has_front p (λ _ _. NoWord) at code later has; shows = shows_front p shapes at code later shows })
  placed_at (q ∷ rs) at (suc n) r e has shows =
      let code = routine_code globals at q in
      let later = routines_code globals (at + routine_size q) rs in
      let to : at + length code ≡ at + routine_size q = omega (arith, routine_sized globals at q) in
      let i = placed_at rs (at + routine_size q) n r e (subst (λ n. HasAt p n later) to (has_back p (λ _ _. NoWord) at code later has)) (subst (λ n. Shows shapes.at n later) to (shows_back p shapes at code later shows)) in
      record { start = i.start; listed = i.listed; locals = i.locals; stands = i.stands; shows = i.shows }

  -- a body that fits, in which nothing is open at its beginning, and which ends with a value that it may return
  pub record IsGood (r : Routine) : Type 0 where
    pub closed : r.shape.opens ≡ []
    pub fits : BodyFits p shapes globals r.layout r.shape r.body
    pub always : (units : List ℕ) → Has units r.result r.ending
    pub returns : IsResult r.shape.round r.result

  pub routines_keep : (rs : List Routine) (at : ℕ) → AreAll globals IsGood rs → Shows shapes.at at (routines_code globals at rs) → AllKeep p shapes at (routines_code globals at rs)
  routines_keep [] at good shows = tt
  routines_keep (r ∷ rs) at good shows =
      let code = routine_code globals at r in
      let later = routines_code globals (at + routine_size r) rs in
      let to : at + length code ≡ at + routine_size r = omega (arith, routine_sized globals at r) in
      let g = good.0 in
      keep_both p shapes at code later
      (bodies_keep p shapes globals r.layout r.body r.shape at r.ending r.result g.closed g.fits g.always g.returns (shows_front p shapes at code later shows)).0
      (subst (λ n. AllKeep p shapes n later) (sym to) (routines_keep rs (at + routine_size r) good.1 (subst (λ n. Shows shapes.at n later) to (shows_back p shapes at code later shows))))
