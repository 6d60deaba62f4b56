-- What is left to do of a value that is begun: it leads to what telling the value does, in fewer steps.
use Rattle.std.proofs.Common.{◌≡◌, ℕ, zero, suc, ◌-◌, ◌+◌, ◌*◌, ◌≤◌, ◌<◌, false, true, List, [], ◌∷◌, ◌++◌, length, drop, take, get_or, refl, sym, ap, ◌∙◌, arith}
use Rattle.std.proofs.Math.Seq.{drop-append_seam, take-append_seam}
use Rattle.std.proofs.lemmas.Option.{slice_get_past, slice_get_read}
use Rattle.std.specs.Prelude.{slice_get, unwrap_or}
use Rattle.sp_events.specs.Tree.{TreeData, unit, trees_of, fields_of}
use Rattle.sp_events.specs.Tree as told
use Rattle.sp_events.specs.TreeSizes.{tree_size, trees_size}
use Rattle.sp_value.specs.Val.{Val, vals_of, entries_of}
use Rattle.sp_value.specs.Val as val
use Rattle.sp_meaning_states.specs.States.{Instance, no_instance}
use Rattle.sp_meaning_states.specs.Scopes.{is_among}
use Rattle.sp_meaning_states.specs.Telling.{Names, names_at, unit_tree, fields_tree, member_trees}
use Rattle.sp_show.specs.Inside.{unit_inside}
use Rattle.sp_show.specs.Plans.{Plan, tell, end, Form, tells, halves, members_told, run, work, made, left_behind}
use Rattle.sp_show.specs.Plans as plans
use Rattle.sp_show.proofs.Lists.{row_of_trees, trees_inside, run_tells, work_tells, trees_listed, pairs_listed, pairs_work, members_named, members_work}

module _ (names : Names) (instances : List Instance) where
  -- what is put behind those that were told, made of the trees that were told since
  put_back : (form : Form) (ts us : List TreeData) → take (length ts) (ts ++ us) ++ made names form (drop (length ts) (ts ++ us)) ∷ [] ≡ ts ++ made names form us ∷ []
  put_back form ts us = rw (take-append_seam, drop-append_seam) refl

  -- values, and then what is made of them
  run_made : (form : Form) (vs : List Val) (ps : List Plan) (round : List ℕ) (ts : List TreeData)
      → run names instances (tells vs ++ end form (length ts) ∷ ps) round ts ≡ run names instances ps (left_behind form round) (ts ++ made names form (trees_inside names instances round vs) ∷ [])
  run_made form vs ps round ts =
      run_tells names instances round vs (end form (length ts) ∷ ps) ts
      ∙ ap (run names instances ps (left_behind form round)) (put_back form ts (trees_inside names instances round vs))

  module _ (ps : List Plan) (round : List ℕ) (ts : List TreeData) where
    abbrev ends : TreeData → List TreeData
    ends t = run names instances ps round (ts ++ t ∷ [])

    pub run_tuple : (vs : List Val) → run names instances (tells vs ++ end plans.tuple (length ts) ∷ ps) round ts ≡ run names instances (tell (val.tuple (vals_of vs)) ∷ ps) round ts
    run_tuple vs = run_made plans.tuple vs ps round ts ∙ ap (λ t. ends (told.tuple t)) (trees_listed names instances round vs)

    pub run_vector : (vs : List Val) → run names instances (tells vs ++ end plans.vector (length ts) ∷ ps) round ts ≡ run names instances (tell (val.vector (vals_of vs)) ∷ ps) round ts
    run_vector vs = run_made plans.vector vs ps round ts ∙ ap (λ t. ends (told.vector t)) (trees_listed names instances round vs)

    pub run_set : (vs : List Val) → run names instances (tells vs ++ end plans.set (length ts) ∷ ps) round ts ≡ run names instances (tell (val.set (vals_of vs)) ∷ ps) round ts
    run_set vs = run_made plans.set vs ps round ts ∙ ap (λ t. ends (told.set t)) (trees_listed names instances round vs)

    pub run_map : (es : List (Val × Val)) → run names instances (tells (halves es) ++ end plans.map (length ts) ∷ ps) round ts ≡ run names instances (tell (val.map (entries_of es)) ∷ ps) round ts
    run_map es = run_made plans.map (halves es) ps round ts ∙ ap (λ t. ends (told.map t)) (pairs_listed names instances round es)

  module _ (ps : List Plan) (round : List ℕ) (n : ℕ) where
    row_falls : (form : Form) (vs : List Val) → left_behind form round ≡ round → work names instances (tells vs ++ end form n ∷ ps) round < 2 * trees_size (trees_of (trees_inside names instances round vs)) + 2 + work names instances ps round
    row_falls form vs h = let same = ap (work names instances ps) h in omega (arith, work_tells names instances round vs (end form n ∷ ps), row_of_trees (trees_inside names instances round vs))

    pub tuple_falls : (vs : List Val) → work names instances (tells vs ++ end plans.tuple n ∷ ps) round < work names instances (tell (val.tuple (vals_of vs)) ∷ ps) round
    tuple_falls vs = let same = ap trees_size (trees_listed names instances round vs) in omega (arith, row_falls plans.tuple vs refl)

    pub vector_falls : (vs : List Val) → work names instances (tells vs ++ end plans.vector n ∷ ps) round < work names instances (tell (val.vector (vals_of vs)) ∷ ps) round
    vector_falls vs = let same = ap trees_size (trees_listed names instances round vs) in omega (arith, row_falls plans.vector vs refl)

    pub set_falls : (vs : List Val) → work names instances (tells vs ++ end plans.set n ∷ ps) round < work names instances (tell (val.set (vals_of vs)) ∷ ps) round
    set_falls vs = let same = ap trees_size (trees_listed names instances round vs) in omega (arith, row_falls plans.set vs refl)

    pub map_falls : (es : List (Val × Val)) → work names instances (tells (halves es) ++ end plans.map n ∷ ps) round < work names instances (tell (val.map (entries_of es)) ∷ ps) round
    map_falls es = omega (arith, work_tells names instances round (halves es) (end plans.map n ∷ ps), pairs_work names instances round es)

  -- a unit that is open already
  again : (more : ℕ) (round : List ℕ) (n : ℕ) → is_among n round ≡ true → unit_tree names instances more round n ≡ unit (fields_of [])
  again zero round n e = refl
  again (suc more) round n e = rw e refl

  pub told_again : (round : List ℕ) (n : ℕ) → is_among n round ≡ true → unit_inside names instances round n ≡ unit (fields_of [])
  told_again round n e = again (suc (length instances) - length round) round n e

  -- where one more may be open, the fields of a unit that isn't
  told_fields : (round : List ℕ) (n : ℕ) → length round ≤ length instances → is_among n round ≡ false → unit_inside names instances round n ≡ fields_tree names instances (unit_inside names instances (n ∷ round)) (unwrap_or (slice_get instances n) no_instance)
  told_fields round n h e =
      let one : suc (length instances) - length round ≡ suc (length instances - length round) = omega arith in
      let less : length instances - length round ≡ suc (length instances) - length (n ∷ round) = omega arith in
      let x = unwrap_or (slice_get instances n) no_instance in
      let more : unit_tree names instances (suc (length instances - length round)) round n ≡ fields_tree names instances (unit_tree names instances (length instances - length round) (n ∷ round)) x = rw e refl in
      ap (λ m. unit_tree names instances m round n) one
      ∙ more
      ∙ ap (λ m. fields_tree names instances (unit_tree names instances m (n ∷ round)) x) less

  -- the fields of an instance that is there
  told_instance : (round : List ℕ) (n : ℕ) (x : Instance) → length round ≤ length instances → is_among n round ≡ false → n < length instances → x ≡ get_or instances n x
      → unit_inside names instances round n ≡ fields_tree names instances (unit_inside names instances (n ∷ round)) x
  told_instance round n x h e i is =
      told_fields round n h e
      ∙ ap (λ o. fields_tree names instances (unit_inside names instances (n ∷ round)) (unwrap_or o no_instance)) (slice_get_read instances (length instances) n x refl i is)

  none_left : (unit_tree : ℕ → TreeData) (xs : List (List ℕ)) → member_trees names unit_tree xs [] ≡ []
  none_left unit_tree [] = refl
  none_left unit_tree (x ∷ xs) = refl

  -- and those of one that isn't
  pub told_nowhere : (round : List ℕ) (n : ℕ) → length round ≤ length instances → is_among n round ≡ false → length instances ≤ n → unit_inside names instances round n ≡ unit (fields_of [])
  told_nowhere round n h e i =
      told_fields round n h e
      ∙ ap (λ o. fields_tree names instances (unit_inside names instances (n ∷ round)) (unwrap_or o no_instance)) (slice_get_past instances n i)
      ∙ ap (λ fs. unit (fields_of fs)) (none_left (unit_inside names instances (n ∷ round)) (names_at names.members 0))

  module _ (ps : List Plan) (round : List ℕ) (n : ℕ) (x : Instance) where
    abbrev row : List Val
    row = members_told (names_at names.members x.unit) x.members

    pub run_unit : (ts : List TreeData) → length round ≤ length instances → is_among n round ≡ false → n < length instances → x ≡ get_or instances n x
        → run names instances (tells row ++ end (plans.unit x) (length ts) ∷ ps) (n ∷ round) ts ≡ run names instances (tell (val.unit n) ∷ ps) round ts
    run_unit ts h e i is =
        run_made (plans.unit x) row ps (n ∷ round) ts
        ∙ ap (λ fs. run names instances ps round (ts ++ unit (fields_of fs) ∷ [])) (members_named names instances (n ∷ round) (names_at names.members x.unit) x.members)
        ∙ ap (λ t. run names instances ps round (ts ++ t ∷ [])) (sym (told_instance round n x h e i is))

    pub unit_falls : (m : ℕ) → length round ≤ length instances → is_among n round ≡ false → n < length instances → x ≡ get_or instances n x
        → work names instances (tells row ++ end (plans.unit x) m ∷ ps) (n ∷ round) < work names instances (tell (val.unit n) ∷ ps) round
    unit_falls m h e i is =
        let size = ap tree_size (told_instance round n x h e i is) in
        omega (arith, work_tells names instances (n ∷ round) row (end (plans.unit x) m ∷ ps), members_work names instances (n ∷ round) (names_at names.members x.unit) x.members)

-- what is left to do where a value is begun, in the words of the calls that put it there
module _ (names : Names) (instances : List Instance) {new mid old : List Plan} {form : Form} {n : ℕ} {v : Val} (vs : List Val) (w : Val) (inner round : List ℕ) (e : new ≡ tells vs ++ mid) (f : mid ≡ end form n ∷ old) (g : w ≡ v) where
  joined : new ≡ tells vs ++ end form n ∷ old
  joined = e ∙ ap (λ ps. tells vs ++ ps) f

  pub led : (ts : List TreeData) → n ≡ length ts → run names instances (tells vs ++ end form (length ts) ∷ old) inner ts ≡ run names instances (tell w ∷ old) round ts → run names instances new inner ts ≡ run names instances (tell v ∷ old) round ts
  led ts h b =
      ap (λ ps. run names instances ps inner ts) joined
      ∙ ap (λ k. run names instances (tells vs ++ end form k ∷ old) inner ts) h
      ∙ b
      ∙ ap (λ u. run names instances (tell u ∷ old) round ts) g

  pub lessened : work names instances (tells vs ++ end form n ∷ old) inner < work names instances (tell w ∷ old) round → work names instances new inner < work names instances (tell v ∷ old) round
  lessened b =
      let before = ap (λ ps. work names instances ps inner) joined in
      let behind = ap (λ u. work names instances (tell u ∷ old) round) g in
      omega (arith, b)
