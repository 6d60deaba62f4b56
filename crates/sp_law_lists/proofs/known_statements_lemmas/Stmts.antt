-- A statement in which no rule is broken passes the test of what fits.
use Rattle.std.specs.Prelude.{ℕ, ◌+◌, Bool, true, false, not, ◌&&◌, ◌||◌, if◌then◌else◌, List, [], ◌++◌, Option, Some, None, is_none}
use Rattle.std.proofs.Common.{◌≡◌, refl, sym, subst}
use Rattle.std.proofs.lemmas.Bool.{and_parts, and_from}
use Rattle.sp_base.specs.declared.places.Span.{Span}
use Rattle.sp_words.specs.declared.operators.AssignOp.{AssignOp}
use Rattle.sp_words.specs.declared.operators.AssignOp.TheVariants as assign_is
use Rattle.sp_types.specs.declared.words.Word.TheVariants as word_is
use Rattle.sp_types.specs.declared.words.Maker.TheVariants as maker_is
use Rattle.sp_types.specs.Types.{Ty, word, made, same, is_known, widens, goes}
use Rattle.sp_types.specs.Types as types
use Rattle.sp_types.proofs.Same.{same_is, same_itself}
use Rattle.sp_typed.specs.declared.words.LeafOp.{LeafOp}
use Rattle.sp_typed.specs.declared.words.LeafOp.TheVariants as leaf_is
use Rattle.sp_typed.specs.declared.words.OneOp.{OneOp}
use Rattle.sp_typed.specs.declared.words.OneOp.TheVariants as one_is
use Rattle.sp_typed.specs.declared.words.TwoOp.{TwoOp}
use Rattle.sp_typed.specs.declared.words.TwoOp.TheVariants as two_is
use Rattle.sp_typed.specs.declared.words.Written.{Written}
use Rattle.sp_typed.specs.declared.stmt_words.Local.{Local}
use Rattle.sp_typed.specs.declared.stmt_words.BareOp.{BareOp}
use Rattle.sp_typed.specs.declared.stmt_words.BareOp.TheVariants as bare_is
use Rattle.sp_typed.specs.declared.stmt_words.ValuedOp.{ValuedOp}
use Rattle.sp_typed.specs.declared.stmt_words.ValuedOp.TheVariants as valued_is
use Rattle.sp_typed.specs.Exprs.{Expr, Exprs, leaf, one, two, three, many, none, more, type_of, is_number, is_minus, number_leaf}
use Rattle.sp_typed.specs.Nodes.{holds, all_hold}
use Rattle.sp_typed.specs.Stmts.{Stmt, Stmts, Branches, Cases, bare, valued, assign, print, block, branch, while_loop, for_loop, switch, no_stmts, more_stmts, no_branches, more_branches, no_cases, more_cases}
use Rattle.sp_typed.specs.StmtNodes.{stmts_in, stmts_in_all, stmts_in_branches, stmts_in_cases, nodes_hold, stmts_hold, branches_hold, cases_hold}
use Rattle.sp_type_operands.specs.declared.operators.OperatorSort.TheVariants as sort_is
use Rattle.sp_type_operands.specs.Operands.{is_integer, is_bytes, is_text, is_boolean, stands_before, agree}
use Rattle.sp_type_operands.specs.Literals.{is_over, is_past, seen}
use Rattle.sp_type_stmts.specs.Statements.{element_type}
use Rattle.sp_rule_bodies.specs.Known.{Known}
use Rattle.sp_rule_bodies.specs.Values.{is_void, is_no_value, is_regex, knows, value_goes, target_tests, written_tests}
use Rattle.sp_rule_bodies.specs.ExprTests.{index_tests, two_op_tests, changes_leaf, changes_one, is_place, may_change, may_change_in}
use Rattle.sp_rule_bodies.specs.StmtTests.{is_sequence, differs, takes_target, assign_tests, has_changed_keys, key_change_tests, local_tests, return_tests, change_tests, bare_op_tests, valued_op_tests, print_tests, branches_tests, case_tests, cases_tests}
use Rattle.sp_code_meaning.specs.Exprs.{slot_local}
use Rattle.sp_law_lists.specs.known_types.Full.{is_full, is_right, is_bare, is_unknown}
use Rattle.sp_law_lists.specs.known_types.Clear.{is_clear, any_op}
use Rattle.sp_law_lists.specs.known_types.Stmts.{is_good, takes_key, each_holds, exprs_hold, all_exprs_hold, branch_exprs_hold, case_exprs_hold}
use Rattle.sp_law_lists.proofs.known_types_lemmas.Full.{never, full_is_known, set_first, map_first}
use Rattle.sp_law_lists.proofs.known_types_lemmas.Tests.{Fine, fine_parts, both_false, not_so, at_first, first_fine, place_of, place_in}
use Rattle.sp_law_lists.proofs.known_types_lemmas.Bodies.{Quiet, two_quiet, at_first as first_tests, behind}
use Rattle.sp_law_lists.specs.known_literals.Widened.{widens_value}
use Rattle.sp_law_lists.proofs.whole_list_lemmas.None.{holds_both}
use Rattle.sp_law_lists.specs.fit_expr.Sorts.{Void, Bools, Unsigned, Text, sort_of, added, integers}
use Rattle.sp_law_lists.specs.fit_expr.Lists.{part_is}
use Rattle.sp_law_lists.specs.fit_expr.Test.{is_sort, expr_passes, exprs_pass, place_passes}
use Rattle.sp_law_lists.specs.fit_body.Bodies.{Returns, Body}
use Rattle.sp_law_lists.specs.fit_body.Bodies as returns
use Rattle.sp_law_lists.specs.fit_body.Test.{is_index, is_pair, goes_over, is_key, equals, assigns, returns_nothing, returns_value, slot_is, test_passes, key_passes, values_pass, bare_passes, valued_passes, stmt_passes, stmts_pass, branches_pass, cases_pass}
use Rattle.sp_law_lists.specs.known_kinds.Made.{is_targeted, element_made, maybe_targeted, two_made, is_made, IsAsked, keeps_owner, is_built}
use Rattle.sp_law_lists.specs.known_kinds.Kept.{offset_kept}
use Rattle.sp_law_lists.proofs.known_kinds_lemmas.Types.{boolean_sort, text_sort, alike_take}
use Rattle.sp_law_lists.proofs.known_kinds_lemmas.Values.{sorted, has_type, seen_is, full_type, is_asked, asked_so, turned, key_same, not_true, no_regex, and_false}
use Rattle.sp_law_lists.proofs.known_kinds_lemmas.Operations.{all_so, passes, place_so}
use Rattle.sp_law_lists.specs.known_statements.Declared.{valued_full, locals_full_in, locals_full_among, branch_locals_full, case_locals_full}
use Rattle.sp_law_lists.specs.known_statements.Ready.{returns_so, local_ready, node_ready, expr_ready, owner_ready, bare_ready, valued_ready, stmt_ready, stmts_ready, branches_ready, cases_ready}

-- a literal can't be changed
leaf_within : (k : Known) (op : LeafOp) (over : Bool) → changes_leaf k op ≡ true → (number_leaf op && over) ≡ false
leaf_within k (leaf_is.Local slot) over c = refl
leaf_within k _ over c = never c

one_within : (op : OneOp) (number over : Bool) → changes_one op ≡ true → (is_minus op && number && over) ≡ false
one_within (one_is.Field n) number over c = refl
one_within (one_is.Variable n) number over c = refl
one_within _ number over c = never c

changed_within : (k : Known) (e : Expr) → is_place k e ≡ true → is_past e ≡ false
changed_within k (leaf h) c = leaf_within k h.op (is_over (leaf h)) c
changed_within k (one h a) c = one_within h.op (is_number a) (is_over (one h a)) c
changed_within k (two h a b) c = refl
changed_within k (three h x a b) c = refl
changed_within k (many h es) c = refl

-- a call alone may give nothing
void_is : (t : Ty) → is_void t ≡ true → is_regex t ≡ false
void_is (word word_is.Void) v = refl
void_is (word _) v = never v
void_is (made maker ts) v = never v

alone_is : (e : Expr) → (is_no_value e && not (is_void (type_of e))) ≡ false → is_regex (type_of e) ≡ false
alone_is e n = by (is_void (type_of e)) refl n
  where
    by : (b : Bool) → is_void (type_of e) ≡ b → (is_no_value e && not b) ≡ false → is_regex (type_of e) ≡ false
    by true v i = void_is (type_of e) v
    by false v i = no_regex (type_of e) (has_type e (and_false (is_no_value e) i))

-- what goes over what
over_first : (x t : Ty) → same t x ≡ true → part_is (types.more x types.none) 0 t ≡ true
over_first x t e = turned t x e

goes_so : (s t : Ty) → is_sequence s ≡ true → is_full s ≡ true → same t (element_type s) ≡ true → goes_over s t ≡ true
goes_so (word word_is.Bytes) t i f e = subst (λ u. is_sort u Unsigned ≡ true) (sym (same_is t (element_type (word word_is.Bytes)) e)) refl
goes_so (word _) t i f e = never i
goes_so (made maker_is.Vector types.none) t i f e = never f
goes_so (made maker_is.Vector (types.more x types.none)) t i f e = over_first x t e
goes_so (made maker_is.Vector (types.more x (types.more y ts))) t i f e = never f
goes_so (made maker_is.Set types.none) t i f e = never f
goes_so (made maker_is.Set (types.more x types.none)) t i f e = over_first x t e
goes_so (made maker_is.Set (types.more x (types.more y ts))) t i f e = never f
goes_so (made maker_is.Map types.none) t i f e = never f
goes_so (made maker_is.Map (types.more x types.none)) t i f e = never f
goes_so (made maker_is.Map (types.more x (types.more v types.none))) t i f e =
    let ts = types.more x (types.more v types.none) in
    subst (λ u. is_pair ts u ≡ true) (sym (same_is t (made maker_is.Tuple ts) e)) (and_from (same x x) (same v v) (same_itself x) (same_itself v))
goes_so (made maker_is.Map (types.more x (types.more v (types.more y ts)))) t i f e = never f
goes_so (made maker_is.Tuple ts) t i f e = never i

-- what is assigned
added_itself : (t : Ty) → (is_integer t || is_bytes t || is_text t) ≡ true → added (sort_of t) (sort_of t) (sort_of t) ≡ true
added_itself (word (word_is.Uint w)) h = refl
added_itself (word (word_is.Int w)) h = refl
added_itself (word word_is.Bytes) h = refl
added_itself (word word_is.String) h = refl
added_itself (word _) h = never h
added_itself (made maker ts) h = never h

integers_itself : (t : Ty) → is_integer t ≡ true → integers (sort_of t) (sort_of t) (sort_of t) ≡ true
integers_itself (word (word_is.Uint w)) h = refl
integers_itself (word (word_is.Int w)) h = refl
integers_itself (word _) h = never h
integers_itself (made maker ts) h = never h

assigns_so : (op : AssignOp) (t u : Ty) → takes_target op t ≡ true → same t u ≡ true → assigns op t u ≡ true
assigns_so assign_is.Set t u h e = e
assigns_so assign_is.Add t u h e = subst (λ x. added (sort_of t) (sort_of x) (sort_of t) ≡ true) (same_is t u e) (added_itself t h)
assigns_so assign_is.Subtract t u h e = subst (λ x. integers (sort_of t) (sort_of x) (sort_of t) ≡ true) (same_is t u e) (integers_itself t h)

-- a value that goes to a type is of it
own_type : (t : Ty) (e : Expr) → is_full t ≡ true → is_right e ≡ true → is_past e ≡ false → goes (type_of e) t ≡ true → is_targeted t e ≡ true → same t (type_of e) ≡ true
own_type t e full r past go targeted =
    turned (type_of e) t (key_same (type_of e) t (full_is_known (type_of e) (full_type e r)) (full_is_known t full) go (subst (λ u. not (widens u t && not (same u t)) ≡ true) (seen_is e past) targeted))

-- the key of a set or of a map
set_key : (deletes : Bool) (x u : Ty) → same x u ≡ true → is_key (not deletes) (made maker_is.Set (types.more x types.none)) u ≡ true
set_key true x u e = e
set_key false x u e = e

module _ (k : Known) (m : ℕ) where
  key_of_type : (x : Ty) (e : Expr) → is_full x ≡ true → (not (value_goes x e)) ≡ false → is_targeted x e ≡ true → is_right e ≡ true → is_past e ≡ false → same x (type_of e) ≡ true
  key_of_type x e full go targeted r past = own_type x e full r past (and_parts (not (is_past e)) (goes (type_of e) x) (not_so (value_goes x e) go)).1 targeted

  key_is : (deletes : Bool) (s t : Ty) (a e : Expr) → has_changed_keys deletes s ≡ true → is_full s ≡ true → element_made s t e ≡ true → Fine (index_tests k m s a e) → is_right e ≡ true → is_past e ≡ false → is_key (not deletes) s (type_of e) ≡ true
  key_is deletes (made maker_is.Set types.none) t a e h f given tests r past = never f
  key_is deletes (made maker_is.Set (types.more x types.none)) t a e h f given tests r past =
      set_key deletes x (type_of e) (key_of_type x e (set_first (types.more x types.none) f) tests.0 (and_parts (is_unknown t) (is_targeted x e) given).1 r past)
  key_is deletes (made maker_is.Set (types.more x (types.more y ts))) t a e h f given tests r past = never f
  key_is deletes (made maker_is.Map types.none) t a e h f given tests r past = never f
  key_is deletes (made maker_is.Map (types.more x types.none)) t a e h f given tests r past = never f
  key_is true (made maker_is.Map (types.more x (types.more v types.none))) t a e h f given tests r past =
      key_of_type x e (map_first x v f) tests.0 (and_parts (same t v) (is_targeted x e) given).1 r past
  key_is false (made maker_is.Map (types.more x (types.more v types.none))) t a e h f given tests r past = never h
  key_is deletes (made maker_is.Map (types.more x (types.more v (types.more y ts)))) t a e h f given tests r past = never f
  key_is true (made maker_is.Vector ts) t a e h f given tests r past = never h
  key_is false (made maker_is.Vector ts) t a e h f given tests r past = never h
  key_is true (made maker_is.Tuple ts) t a e h f given tests r past = never h
  key_is false (made maker_is.Tuple ts) t a e h f given tests r past = never h
  key_is true (word w) t a e h f given tests r past = never h
  key_is false (word w) t a e h f given tests r past = never h

module _ (body : Body) (wanted : Option Ty) (k : Known) (m : ℕ) (asked : IsAsked body.around k) (offset : offset_kept body.around body.around.places.offset ≡ true) (so : returns_so body.returns wanted ≡ true) where
  abbrev clear : Expr → Bool
  clear = is_clear any_op k m

  abbrev ready : Expr → Bool
  ready = node_ready body wanted

  abbrev pass : Expr → Bool
  pass e = expr_passes body.around e

  abbrev sound : Expr → Bool
  sound e = clear e && is_right e

  node_so : (e : Expr) → ready e ≡ true → sound e ≡ true → all_so body.around k m e ≡ true
  node_so e i j =
      let kept = widens_value e && keeps_owner body.around e in
      let b = and_parts (is_built e) (is_made body.around e && kept) i in
      let f = and_parts (is_made body.around e) kept b.1 in
      let c = and_parts (clear e) (is_right e) j in
      and_from (is_built e) (is_made body.around e && (clear e && (is_right e && kept))) b.0
      (and_from (is_made body.around e) (clear e && (is_right e && kept)) f.0 (and_from (clear e) (is_right e && kept) c.0 (and_from (is_right e) kept c.1 f.1)))

  so_of : (e : Expr) → holds ready e ≡ true → holds clear e ≡ true → holds is_right e ≡ true → holds (all_so body.around k m) e ≡ true
  so_of e i c r = holds_both ready sound (all_so body.around k m) node_so e i (holds_both clear is_right sound (λ x a b. and_from (clear x) (is_right x) a b) e c r)

  value_so : (e : Expr) → holds ready e ≡ true → holds clear e ≡ true → holds is_right e ≡ true → is_no_value e ≡ false → is_past e ≡ false → pass e ≡ true
  value_so e i c r has_value past = passes body.around k m asked offset e (so_of e i c r) past (no_regex (type_of e) (has_type e has_value))

  target_so : (t : Ty) (e : Expr) → is_full t ≡ true → holds ready e ≡ true → holds clear e ≡ true → holds is_right e ≡ true → is_targeted t e ≡ true → Fine (target_tests m t e) → (pass e ≡ true) × (same t (type_of e) ≡ true)
  target_so t e f i c r targeted tests =
      let go = not_so (value_goes t e) (both_false (is_known t) (not (value_goes t e)) tests.1.0 (full_is_known t f)) in
      let p = and_parts (not (is_past e)) (goes (type_of e) t) go in
      let past = not_true (is_past e) p.0 in
      (value_so e i c r tests.0 past, own_type t e f (at_first is_right e r) past p.1 targeted)

  slot_moves : (slot : ℕ) (t u : Ty) → same t u ≡ true → slot_is body.around slot t ≡ true → slot_is body.around slot u ≡ true
  slot_moves slot t u e h = subst (λ x. slot_is body.around slot x ≡ true) (same_is t u e) h

  -- a test
  truth_so : (e : Expr) → holds ready e ≡ true → holds clear e ≡ true → holds is_right e ≡ true → is_no_value e ≡ false → is_past e ≡ false → (knows e && not (is_boolean (type_of e))) ≡ false → test_passes body.around e ≡ true
  truth_so e i c r has_value past wrong =
      and_from (pass e) (is_sort (type_of e) Bools) (value_so e i c r has_value past) (sorted (type_of e) Bools (boolean_sort (type_of e) (asked_so e (is_boolean (type_of e)) (at_first is_right e r) past wrong)))

  -- a local and its value
  local_so : (l : Local) (o : Option Written) (e : Expr) → is_full l.ty ≡ true → holds ready e ≡ true → holds clear e ≡ true → holds is_right e ≡ true → local_ready o l.ty e ≡ true → slot_is body.around l.slot l.ty ≡ true → Fine (local_tests m l.ty o e) → (pass e && slot_is body.around l.slot (type_of e)) ≡ true
  local_so l None e full i c r own slot tests =
      let past = tests.1.0 in
      let is : same l.ty (type_of e) ≡ true = subst (λ u. same l.ty u ≡ true) (seen_is e past) own in
      and_from (pass e) (slot_is body.around l.slot (type_of e)) (value_so e i c r tests.0 past) (slot_moves l.slot l.ty (type_of e) is slot)
  local_so l (Some w) e full i c r own slot tests =
      let g = (fine_parts (written_tests m w) _ tests).1 in
      let t = target_so l.ty e full i c r own g in
      and_from (pass e) (slot_is body.around l.slot (type_of e)) t.0 (slot_moves l.slot l.ty (type_of e) t.1 slot)

  -- what is returned
  wanted_full : (x : Returns) (t : Ty) → returns_so x (Some t) ≡ true → is_full t ≡ true
  wanted_full (returns.Function u) t h = (and_parts (same u t) (is_full t) h).1
  wanted_full (returns.Hook each) t h = never h

  returned : (x : Returns) (t u : Ty) → returns_so x (Some t) ≡ true → same t u ≡ true → returns_value x u ≡ true
  returned (returns.Function y) t u h e = subst (λ z. same z u ≡ true) (sym (same_is y t (and_parts (same y t) (is_full t) h).0)) e
  returned (returns.Hook each) t u h e = refl

  return_so : (o : Option Ty) (e : Expr) → returns_so body.returns o ≡ true → holds ready e ≡ true → holds clear e ≡ true → holds is_right e ≡ true → maybe_targeted o e ≡ true → Fine (return_tests o m e) → (pass e && returns_value body.returns (type_of e)) ≡ true
  return_so None e h i c r targeted tests = never (sym tests.1.0)
  return_so (Some t) e h i c r targeted tests =
      let p = target_so t e (wanted_full body.returns t h) i c r targeted tests in
      and_from (pass e) (returns_value body.returns (type_of e)) p.0 (returned body.returns t (type_of e) h p.1)

  nothing_returned : (x : Returns) (o : Option Ty) → returns_so x o ≡ true → not (is_none o) ≡ false → returns_nothing x ≡ true
  nothing_returned (returns.Function t) None h n = h
  nothing_returned (returns.Function t) (Some u) h n = never (not_so false n)
  nothing_returned (returns.Hook each) o h n = refl

  -- the key that is put into a container, or taken from there
  container_so : (deletes : Bool) (op : TwoOp) (span : Span) (t : Ty) (a b : Expr) → two_made op t a b ≡ true → Fine (two_op_tests k m op a b) → Fine (key_change_tests k m deletes op span a) → is_right a ≡ true → is_right b ≡ true → (is_index op && is_key (not deletes) (type_of a) (type_of b)) ≡ true
  container_so deletes two_is.Index span t a b given tests asks r s =
      let past = tests.1.0 in
      let may = asked_so a (has_changed_keys deletes (type_of a)) r past asks.0 in
      let own = subst (λ u. element_made u t b ≡ true) (seen_is a past) given in
      key_is k m deletes (type_of a) t a b may (full_type a r) own tests.1.1.1.1 s tests.1.1.1.0
  container_so deletes (two_is.Item n) span t a b given tests asks r s = never (sym asks.0)
  container_so deletes (two_is.Binary op) span t a b given tests asks r s = never (sym asks.0)

  -- both of its parts are values
  key_parts : (deletes : Bool) (op : TwoOp) (span : Span) (a b : Expr) → Fine (two_op_tests k m op a b) → Fine (key_change_tests k m deletes op span a) → is_right a ≡ true → (is_place k a ≡ true) × (is_no_value b ≡ false) × (is_past b ≡ false)
  key_parts deletes two_is.Index span a b tests asks r = (place_in k a r (not_so (may_change_in k a) asks.1.0), tests.1.1.0, tests.1.1.1.0)
  key_parts deletes (two_is.Item n) span a b tests asks r = never (sym asks.0)
  key_parts deletes (two_is.Binary op) span a b tests asks r = never (sym asks.0)

  key_so : (deletes : Bool) (owner : Option ℕ) (e : Expr) → holds ready e ≡ true → holds clear e ≡ true → is_good e ≡ true → owner_ready body wanted owner e ≡ true → Fine (change_tests k m deletes e) → key_passes body.around (not deletes) (slot_local body.around.places owner) e ≡ true
  key_so deletes owner (two h a b) i c g kept asks =
      let e = two h a b in
      let l = slot_local body.around.places owner in
      let p = and_parts (ready e) (holds ready a && holds ready b) i in
      let q = and_parts (holds ready a) (holds ready b) p.1 in
      let made_here = (and_parts (is_made body.around e) (widens_value e && keeps_owner body.around e) (and_parts (is_built e) (is_made body.around e && (widens_value e && keeps_owner body.around e)) p.0).1).0 in
      let x = and_parts (holds clear a) (holds clear b) (and_parts (clear e) (holds clear a && holds clear b) c).1 in
      let y = and_parts (holds is_right a) (holds is_right b) (and_parts (holds is_right a && holds is_right b) (is_right e || is_bare e) g).0 in
      let tests = first_fine any_op k m e c in
      let parts = key_parts deletes h.op h.span a b tests asks (at_first is_right a y.0) in
      let found = container_so deletes h.op h.span h.ty a b made_here tests asks (at_first is_right a y.0) (at_first is_right b y.1) in
      let z = and_parts (is_index h.op) (is_key (not deletes) (type_of a) (type_of b)) found in
      and_from (place_passes body.around l a && pass b && is_index h.op) (is_key (not deletes) (type_of a) (type_of b))
      (and_from (place_passes body.around l a && pass b) (is_index h.op) (and_from (place_passes body.around l a) (pass b) (place_so body.around k m asked offset a (so_of a q.0 x.0 y.0) parts.0 l kept) (value_so b q.1 x.1 y.1 parts.1 parts.2)) z.0) z.1
  key_so deletes owner (leaf h) i c g kept asks = never (sym asks.0)
  key_so deletes owner (one h a) i c g kept asks = never (sym asks.0)
  key_so deletes owner (three h x a b) i c g kept asks = never (sym asks.0)
  key_so deletes owner (many h es) i c g kept asks = never (sym asks.0)

  -- statements without parts, and with one expression
  meant_so : (meant in_loop : Bool) → (not meant || in_loop) ≡ true → not meant ≡ false → in_loop ≡ true
  meant_so true in_loop h f = h
  meant_so false in_loop h f = never (sym f)

  bare_so : (in_loop : Bool) (op : BareOp) (span : Span) → bare_ready body wanted in_loop op ≡ true → Fine (bare_op_tests wanted m span op) → bare_passes body in_loop op ≡ true
  bare_so in_loop (bare_is.Local l) span i tests = i
  bare_so in_loop bare_is.Return span i tests = nothing_returned body.returns wanted so tests.0
  bare_so in_loop (bare_is.Break meant) span i tests = meant_so meant in_loop i tests.0
  bare_so in_loop (bare_is.Continue meant) span i tests = meant_so meant in_loop i tests.0
  bare_so in_loop _ span i tests = never i

  valued_so : (op : ValuedOp) (e : Expr) → valued_full op ≡ true → holds ready e ≡ true → valued_ready body wanted op e ≡ true → holds clear e ≡ true → (if takes_key op then is_good e else holds is_right e) ≡ true → Fine (valued_op_tests k wanted m op e) → valued_passes body op e ≡ true
  valued_so (valued_is.Local l) e full i own c r tests =
      let p = and_parts (local_ready l.written l.ty e) (slot_is body.around l.slot l.ty) own in
      local_so l l.written e full i c r p.0 p.1 tests
  valued_so valued_is.Return e full i own c r tests = return_so wanted e so i c r own tests
  valued_so valued_is.Throw e full i own c r tests =
      and_from (pass e) (is_sort (type_of e) Text) (value_so e i c r tests.0 tests.1.0) (sorted (type_of e) Text (text_sort (type_of e) (asked_so e (is_text (type_of e)) (at_first is_right e r) tests.1.0 tests.1.1.0)))
  valued_so (valued_is.Assert text) e full i own c r tests = truth_so e i c r tests.0 tests.1.0 tests.1.1.0
  valued_so (valued_is.Add owner) e full i own c r tests = key_so false owner e i c r own tests
  valued_so (valued_is.Delete owner) e full i own c r tests = key_so true owner e i c r own tests
  valued_so valued_is.Expr e full i own c r tests = passes body.around k m asked offset e (so_of e i c r) tests.1.0 (alone_is e tests.0)

  -- rows of values
  printed_so : (es : Exprs) → all_hold ready es ≡ true → all_hold clear es ≡ true → each_holds (holds is_right) es ≡ true → Fine (print_tests m es) → exprs_pass body.around es ≡ true
  printed_so none i c r tests = refl
  printed_so (more e es) i c r tests =
      let p = and_parts (holds ready e) (all_hold ready es) i in
      let q = and_parts (holds clear e) (all_hold clear es) c in
      let s = and_parts (holds is_right e) (each_holds (holds is_right) es) r in
      and_from (pass e) (exprs_pass body.around es) (value_so e p.0 q.0 s.0 tests.0 tests.1.0) (printed_so es p.1 q.1 s.1 tests.1.1.1)

  values_so : (x : Expr) → knows x ≡ true → stands_before sort_is.Alike (type_of x) ≡ true → (es : Exprs) → all_hold ready es ≡ true → all_hold clear es ≡ true → each_holds (holds is_right) es ≡ true → Fine (case_tests m x es) → values_pass body.around (type_of x) es ≡ true
  values_so x known stands none i c r tests = refl
  values_so x known stands (more e es) i c r tests =
      let p = and_parts (holds ready e) (all_hold ready es) i in
      let q = and_parts (holds clear e) (all_hold clear es) c in
      let s = and_parts (holds is_right e) (each_holds (holds is_right) es) r in
      let t = type_of x in
      let u = type_of e in
      let past = tests.1.0 in
      let same_kind = not_true (differs x e) (asked_so e (not (differs x e)) (at_first is_right e s.0) past tests.1.1.0) in
      let agreed = not_so (agree sort_is.Alike t u) (both_false (knows x && stands_before sort_is.Alike t) (not (agree sort_is.Alike t u)) same_kind (and_from (knows x) (stands_before sort_is.Alike t) known stands)) in
      and_from (pass e && equals t u) (values_pass body.around t es) (and_from (pass e) (equals t u) (value_so e p.0 q.0 s.0 tests.0 past) (alike_take t u (word word_is.Bool) stands agreed refl)) (values_so x known stands es p.1 q.1 s.1 tests.1.1.1)

  -- what is assigned to a target
  assign_so : (op : AssignOp) (owner : Option ℕ) (d e : Expr) → holds ready d ≡ true → holds ready e ≡ true → is_targeted (seen d) e ≡ true → owner_ready body wanted owner d ≡ true → holds clear d ≡ true → holds clear e ≡ true → holds is_right d ≡ true → holds is_right e ≡ true → Fine (assign_tests k m op d e)
      → (place_passes body.around (slot_local body.around.places owner) d && pass e && assigns op (type_of d) (type_of e)) ≡ true
  assign_so op owner d e i j targeted kept c x r s tests =
      let l = slot_local body.around.places owner in
      let first = at_first is_right d r in
      let may = place_of k d first (not_so (may_change k d) tests.1.1.0) in
      let past = changed_within k d may in
      let own = seen_is d past in
      let t = target_so (seen d) e (subst (λ u. is_full u ≡ true) (sym own) (full_type d first)) j x s targeted tests.1.1.1 in
      let takes = asked_so d (takes_target op (type_of d)) first past tests.1.0 in
      and_from (place_passes body.around l d && pass e) (assigns op (type_of d) (type_of e))
      (and_from (place_passes body.around l d) (pass e) (place_so body.around k m asked offset d (so_of d i c r) may l kept) t.0)
      (assigns_so op (type_of d) (type_of e) takes (subst (λ u. same u (type_of e) ≡ true) own t.1))

  -- Statements.
  abbrev Still : List Stmt → Type 0
  Still ss = Quiet k wanted m ss

  mutual
    pub stmt_so : (in_loop : Bool) (s : Stmt) → locals_full_in s ≡ true → stmt_ready body wanted in_loop s ≡ true → nodes_hold clear s ≡ true → Still (stmts_in s) → exprs_hold (holds is_right) is_good s ≡ true → stmt_passes body in_loop s ≡ true
    stmt_so in_loop (bare h) full i c q r = bare_so in_loop h.op h.span i (first_tests k wanted m (bare h) [] q)
    stmt_so in_loop (valued h e) full i c q r =
        let p = and_parts (expr_ready body wanted e) (valued_ready body wanted h.op e) i in
        valued_so h.op e full p.0 p.1 c r (first_tests k wanted m (valued h e) [] q)
    stmt_so in_loop (assign h d e) full i c q r =
        let p = and_parts (holds ready d) (holds ready e && (is_targeted (seen d) e && owner_ready body wanted h.owner d)) i in
        let o = and_parts (holds ready e) (is_targeted (seen d) e && owner_ready body wanted h.owner d) p.1 in
        let u = and_parts (is_targeted (seen d) e) (owner_ready body wanted h.owner d) o.1 in
        let x = and_parts (holds clear d) (holds clear e) c in
        let y = and_parts (holds is_right d) (holds is_right e) r in
        assign_so h.op h.owner d e p.0 o.0 u.0 u.1 x.0 x.1 y.0 y.1 (first_tests k wanted m (assign h d e) [] q)
    stmt_so in_loop (print at es) full i c q r = printed_so es i c r (first_tests k wanted m (print at es) [] q)
    stmt_so in_loop (block ss) full i c q r = stmts_so in_loop ss full i c (behind k wanted m (block ss) (stmts_in_all ss) q) r
    stmt_so in_loop (branch bs b) full i c q r =
        let o = and_parts (branch_locals_full bs) (locals_full_in b) full in
        let inner = stmts_in_branches bs ++ stmts_in b in
        let p = and_parts (branches_ready body wanted in_loop bs) (stmt_ready body wanted in_loop b) i in
        let x = and_parts (branches_hold clear bs) (nodes_hold clear b) c in
        let y = and_parts (branch_exprs_hold (holds is_right) is_good bs) (exprs_hold (holds is_right) is_good b) r in
        let n = two_quiet k wanted m (stmts_in_branches bs) (stmts_in b) (behind k wanted m (branch bs b) inner q) in
        and_from (branches_pass body in_loop bs) (stmt_passes body in_loop b) (branches_so in_loop bs o.0 p.0 x.0 n.0 y.0 (first_tests k wanted m (branch bs b) inner q)) (stmt_so in_loop b o.1 p.1 x.1 n.1 y.1)
    stmt_so in_loop (while_loop e b) full i c q r =
        let p = and_parts (holds ready e) (stmt_ready body wanted true b) i in
        let x = and_parts (holds clear e) (nodes_hold clear b) c in
        let y = and_parts (holds is_right e) (exprs_hold (holds is_right) is_good b) r in
        let f = first_tests k wanted m (while_loop e b) (stmts_in b) q in
        and_from (test_passes body.around e) (stmt_passes body true b) (truth_so e p.0 x.0 y.0 f.0 f.1.0 f.1.1.0) (stmt_so true b full p.1 x.1 (behind k wanted m (while_loop e b) (stmts_in b) q) y.1)
    stmt_so in_loop (for_loop h e b) full i c q r =
        let p = and_parts (holds ready e) (same h.ty (element_type (seen e)) && (slot_is body.around h.slot h.ty && stmt_ready body wanted true b)) i in
        let o = and_parts (same h.ty (element_type (seen e))) (slot_is body.around h.slot h.ty && stmt_ready body wanted true b) p.1 in
        let u = and_parts (slot_is body.around h.slot h.ty) (stmt_ready body wanted true b) o.1 in
        let x = and_parts (holds clear e) (nodes_hold clear b) c in
        let y = and_parts (holds is_right e) (exprs_hold (holds is_right) is_good b) r in
        let f = first_tests k wanted m (for_loop h e b) (stmts_in b) q in
        let first = at_first is_right e y.0 in
        let sequence = asked_so e (is_sequence (type_of e)) first f.1.0 f.1.1.0 in
        let goes_over_it = goes_so (type_of e) h.ty sequence (full_type e first) (subst (λ t. same h.ty (element_type t) ≡ true) (seen_is e f.1.0) o.0) in
        and_from (pass e && goes_over (type_of e) h.ty && slot_is body.around h.slot h.ty) (stmt_passes body true b)
        (and_from (pass e && goes_over (type_of e) h.ty) (slot_is body.around h.slot h.ty) (and_from (pass e) (goes_over (type_of e) h.ty) (value_so e p.0 x.0 y.0 f.0 f.1.0) goes_over_it) u.0)
        (stmt_so true b full u.1 x.1 (behind k wanted m (for_loop h e b) (stmts_in b) q) y.1)
    stmt_so in_loop (switch slot e cs b) full i c q r =
        let l = and_parts (case_locals_full cs) (locals_full_in b) full in
        let node = switch slot e cs b in
        let inner = stmts_in_cases cs ++ stmts_in b in
        let p = and_parts (holds ready e) (slot_is body.around slot (seen e) && (cases_ready body wanted in_loop cs && stmt_ready body wanted in_loop b)) i in
        let o = and_parts (slot_is body.around slot (seen e)) (cases_ready body wanted in_loop cs && stmt_ready body wanted in_loop b) p.1 in
        let u = and_parts (cases_ready body wanted in_loop cs) (stmt_ready body wanted in_loop b) o.1 in
        let x = and_parts (holds clear e) (cases_hold clear cs && nodes_hold clear b) c in
        let v = and_parts (cases_hold clear cs) (nodes_hold clear b) x.1 in
        let y = and_parts (holds is_right e) (case_exprs_hold (holds is_right) is_good cs && exprs_hold (holds is_right) is_good b) r in
        let w = and_parts (case_exprs_hold (holds is_right) is_good cs) (exprs_hold (holds is_right) is_good b) y.1 in
        let f = first_tests k wanted m node inner q in
        let n = two_quiet k wanted m (stmts_in_cases cs) (stmts_in b) (behind k wanted m node inner q) in
        let first = at_first is_right e y.0 in
        let past = f.1.0 in
        let stands = asked_so e (stands_before sort_is.Alike (type_of e)) first past f.1.1.0 in
        and_from (pass e && slot_is body.around slot (type_of e) && cases_pass body in_loop (type_of e) cs) (stmt_passes body in_loop b)
        (and_from (pass e && slot_is body.around slot (type_of e)) (cases_pass body in_loop (type_of e) cs)
        (and_from (pass e) (slot_is body.around slot (type_of e)) (value_so e p.0 x.0 y.0 f.0 past) (subst (λ t. slot_is body.around slot t ≡ true) (seen_is e past) o.0))
        (cases_so in_loop e (is_asked e first past) stands cs l.0 u.0 v.0 n.0 w.0 f.1.1.1))
        (stmt_so in_loop b l.1 u.1 v.1 n.1 w.1)

    stmts_so : (in_loop : Bool) (ss : Stmts) → locals_full_among ss ≡ true → stmts_ready body wanted in_loop ss ≡ true → stmts_hold clear ss ≡ true → Still (stmts_in_all ss) → all_exprs_hold (holds is_right) is_good ss ≡ true → stmts_pass body in_loop ss ≡ true
    stmts_so in_loop no_stmts full i c q r = refl
    stmts_so in_loop (more_stmts b ss) full i c q r =
        let l = and_parts (locals_full_in b) (locals_full_among ss) full in
        let p = and_parts (stmt_ready body wanted in_loop b) (stmts_ready body wanted in_loop ss) i in
        let x = and_parts (nodes_hold clear b) (stmts_hold clear ss) c in
        let y = and_parts (exprs_hold (holds is_right) is_good b) (all_exprs_hold (holds is_right) is_good ss) r in
        let n = two_quiet k wanted m (stmts_in b) (stmts_in_all ss) q in
        and_from (stmt_passes body in_loop b) (stmts_pass body in_loop ss) (stmt_so in_loop b l.0 p.0 x.0 n.0 y.0) (stmts_so in_loop ss l.1 p.1 x.1 n.1 y.1)

    branches_so : (in_loop : Bool) (bs : Branches) → branch_locals_full bs ≡ true → branches_ready body wanted in_loop bs ≡ true → branches_hold clear bs ≡ true → Still (stmts_in_branches bs) → branch_exprs_hold (holds is_right) is_good bs ≡ true → Fine (branches_tests m bs) → branches_pass body in_loop bs ≡ true
    branches_so in_loop no_branches full i c q r f = refl
    branches_so in_loop (more_branches e b bs) full i c q r f =
        let l = and_parts (locals_full_in b) (branch_locals_full bs) full in
        let p = and_parts (holds ready e) (stmt_ready body wanted in_loop b && branches_ready body wanted in_loop bs) i in
        let o = and_parts (stmt_ready body wanted in_loop b) (branches_ready body wanted in_loop bs) p.1 in
        let x = and_parts (holds clear e) (nodes_hold clear b && branches_hold clear bs) c in
        let v = and_parts (nodes_hold clear b) (branches_hold clear bs) x.1 in
        let y = and_parts (holds is_right e) (exprs_hold (holds is_right) is_good b && branch_exprs_hold (holds is_right) is_good bs) r in
        let w = and_parts (exprs_hold (holds is_right) is_good b) (branch_exprs_hold (holds is_right) is_good bs) y.1 in
        let n = two_quiet k wanted m (stmts_in b) (stmts_in_branches bs) q in
        and_from (test_passes body.around e && stmt_passes body in_loop b) (branches_pass body in_loop bs)
        (and_from (test_passes body.around e) (stmt_passes body in_loop b) (truth_so e p.0 x.0 y.0 f.0 f.1.0 f.1.1.0) (stmt_so in_loop b l.0 o.0 v.0 n.0 w.0)) (branches_so in_loop bs l.1 o.1 v.1 n.1 w.1 f.1.1.1)

    cases_so : (in_loop : Bool) (x : Expr) → knows x ≡ true → stands_before sort_is.Alike (type_of x) ≡ true → (cs : Cases) → case_locals_full cs ≡ true → cases_ready body wanted in_loop cs ≡ true → cases_hold clear cs ≡ true → Still (stmts_in_cases cs) → case_exprs_hold (holds is_right) is_good cs ≡ true → Fine (cases_tests m x cs)
        → cases_pass body in_loop (type_of x) cs ≡ true
    cases_so in_loop x known stands no_cases full i c q r f = refl
    cases_so in_loop x known stands (more_cases es b cs) full i c q r f =
        let l = and_parts (locals_full_in b) (case_locals_full cs) full in
        let p = and_parts (all_hold ready es) (stmt_ready body wanted in_loop b && cases_ready body wanted in_loop cs) i in
        let o = and_parts (stmt_ready body wanted in_loop b) (cases_ready body wanted in_loop cs) p.1 in
        let d = and_parts (all_hold clear es) (nodes_hold clear b && cases_hold clear cs) c in
        let v = and_parts (nodes_hold clear b) (cases_hold clear cs) d.1 in
        let y = and_parts (each_holds (holds is_right) es) (exprs_hold (holds is_right) is_good b && case_exprs_hold (holds is_right) is_good cs) r in
        let w = and_parts (exprs_hold (holds is_right) is_good b) (case_exprs_hold (holds is_right) is_good cs) y.1 in
        let g = fine_parts (case_tests m x es) (cases_tests m x cs) f in
        let n = two_quiet k wanted m (stmts_in b) (stmts_in_cases cs) q in
        and_from (values_pass body.around (type_of x) es && stmt_passes body in_loop b) (cases_pass body in_loop (type_of x) cs)
        (and_from (values_pass body.around (type_of x) es) (stmt_passes body in_loop b) (values_so x known stands es p.0 d.0 y.0 g.0) (stmt_so in_loop b l.0 o.0 v.0 n.0 w.0)) (cases_so in_loop x known stands cs l.1 o.1 v.1 n.1 w.1 g.1)
