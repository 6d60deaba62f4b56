-- Expressions of a unit in which no rule is broken: each node is a value of a full type.
use Rattle.std.specs.Prelude.{not, ◌&&◌, map}
use Rattle.std.specs.List.{list_all}
use Rattle.std.proofs.Common.{ℕ, ◌≡◌, ◌+◌, Bool, true, false, refl, List, [], ◌∷◌, ◌++◌, Option, Some, None}
use Rattle.std.proofs.lemmas.Bool.{and_parts, and_from, not-true}
use Rattle.sp_words.specs.declared.words.AttributeName.{AttributeName}
use Rattle.sp_ast.specs.Trees.{Tree, Trees, none, more}
use Rattle.sp_ast.specs.Slots.{is_formed}
use Rattle.sp_ast.specs.Groups.{is_of, are_of}
use Rattle.sp_ast.specs.declared.groups.Group.TheVariants as group_is
use Rattle.sp_rules.specs.declared.fault.Fault.{Fault}
use Rattle.sp_rules.specs.declared.rule.Rule.TheVariants as rule_is
use Rattle.sp_types.specs.Types.{Ty, is_known, goes, is_plain}
use Rattle.sp_typed.specs.Exprs.{Expr, exprs, type_of, span_of}
use Rattle.sp_typed.specs.Nodes.{nodes, all_hold}
use Rattle.sp_typed_units.specs.declared.declarations.Parameter.{Parameter}
use Rattle.sp_type_operands.specs.Operands.{is_integer, is_bytes, is_iterator}
use Rattle.sp_type_operands.specs.Literals.{is_past, taken}
use Rattle.sp_type_context.specs.Contexts.{Around}
use Rattle.sp_type_context.specs.Typing.{typed, typed_all}
use Rattle.sp_type_fields.specs.declared.roles.Role.{Role}
use Rattle.sp_type_fields.specs.declared.roles.Role.TheVariants as role_is
use Rattle.sp_type_scopes.specs.Decorators.{meant}
use Rattle.sp_solver.specs.Told.{told}
use Rattle.sp_rule_bodies.specs.Known.{Known}
use Rattle.sp_rule_bodies.specs.Values.{is_sink, is_no_value, is_no_object, value_goes, value_tests, wrong, arrow_tests, target_tests, value_span}
use Rattle.sp_rules.specs.Faults.{at}
use Rattle.sp_rule_bodies.specs.ExprTests.{expr_tests, is_not_constant, argument_fits, arguments_fit, argument_tests}
use Rattle.sp_rule_bodies.specs.StmtTests.{differs, case_tests}
use Rattle.sp_type_operands.specs.Operands.{is_boolean}
use Rattle.sp_rule_lists.specs.Lists.{all_tests}
use Rattle.sp_rule_lists.specs.Names.{expr_names, exprs_names}
use Rattle.sp_rule_lists.specs.Bodies.{inside_tests, constant_tests, is_enum_of}
use Rattle.sp_rule_lists.specs.Fields.{asked_tests, order_enum, by_role, exprs_inside}
use Rattle.sp_type_answers.specs.Settled.{Answers}
use Rattle.sp_type_answers.specs.Lists.{typed_of}
use Rattle.sp_type_answers.specs.Rules.{Breaks}
use Rattle.sp_law_lists.specs.known_types.Full.{is_full, is_right}
use Rattle.sp_law_lists.specs.known_types.Clear.{none_hold, any_op}
use Rattle.sp_law_lists.specs.known_types.Trees.{is_expr}
use Rattle.sp_law_lists.specs.known_types.Given.{IsKnown}
use Rattle.sp_law_lists.proofs.known_types_lemmas.Full.{never}
use Rattle.sp_law_lists.proofs.known_types_lemmas.Formed.{formed_expr}
use Rattle.sp_law_lists.proofs.known_types_lemmas.Kept.{HoldsAll, taken_holds}
use Rattle.sp_law_lists.proofs.known_types_lemmas.Tests.{Holds, value_of, whole_of, object_of}
use Rattle.sp_law_lists.proofs.known_types_lemmas.Typed.{typed_holds}
use Rattle.sp_law_lists.specs.whole_list.Whole.{is_known as is_known_value}
use Rattle.sp_law_lists.proofs.whole_list_lemmas.Heads.{parameters_full}
use Rattle.sp_law_lists.proofs.whole_list_lemmas.None.{none_parts, none_all, expr_clear}
use Rattle.sp_law_lists.specs.known_constants.Fine.{IsFine, AreFine}
use Rattle.sp_law_lists.specs.known_constants.Given.{asked}
use Rattle.sp_law_lists.proofs.known_constants_lemmas.Fine.{first, rest, written}
use Rattle.sp_law_lists.proofs.known_constants_lemmas.Named.{tree_told}
use Rattle.sp_law_lists.proofs.unbroken_list_lemmas.Lists.{are_unbroken}
use Rattle.sp_law_lists.proofs.known_members_lemmas.Contexts.{FullMembers, types, paths, inside_known, meant_known}
use Rattle.sp_law_lists.proofs.known_members_lemmas.Fields.{right_parts, last}

-- a value of which nothing is asked but that it is one
value_parts : (m : ℕ) (e : Expr) (others : List (Bool × Fault)) → none_hold (value_tests m e ++ others) ≡ true → (is_no_value e ≡ false) × (is_past e ≡ false) × (none_hold others ≡ true)
value_parts m e others h =
    let p = and_parts (not (is_no_value e)) (not (is_past e) && none_hold others) h in
    let q = and_parts (not (is_past e)) (none_hold others) p.1 in
    (not-true (is_no_value e) p.0, not-true (is_past e) q.0, q.1)

-- a value that goes to a target
target_parts : (m : ℕ) (t : Ty) (e : Expr) (others : List (Bool × Fault)) → none_hold (target_tests m t e ++ others) ≡ true → (is_no_value e ≡ false) × (is_past e ≡ false) × (none_hold others ≡ true)
target_parts m t e others h =
    let late = not (is_known t) && is_past e in
    let p = and_parts (not (is_no_value e)) (not (is_known t && not (value_goes t e)) && (not late && none_hold others)) h in
    let q = and_parts (not (is_known t && not (value_goes t e))) (not late && none_hold others) p.1 in
    let r = and_parts (not late) (none_hold others) q.1 in
    (not-true (is_no_value e) p.0, by (is_known t) (is_past e) (goes (type_of e) t) q.0 r.0, r.1)
  where
    by : (a past b : Bool) → not (a && not (not past && b)) ≡ true → not (not a && past) ≡ true → past ≡ false
    by true true b x y = never x
    by true false b x y = refl
    by false true b x y = never y
    by false false b x y = refl

module _ (k : Known) (m : ℕ) where
  -- an expression that stands as a value, in which no rule is broken
  pub record IsAsked (e : Expr) : Type 0 where
    pub names : none_hold (expr_names m e) ≡ true
    pub valued : is_no_value e ≡ false
    pub within : is_past e ≡ false
    pub tests : none_hold (inside_tests k m e) ≡ true

  pub value_known : (e : Expr) → Holds any_op k m e → IsAsked e → is_known_value e ≡ true
  value_known e h is =
      let clear = expr_clear k m e is.names (none_all (expr_tests k m) (nodes e) is.tests) in
      whole_of e (value_of any_op k m e h clear is.valued is.within)

  pub asked_value : (right : Bool) (e : Expr) → none_hold (expr_names m e) ≡ true → none_hold (asked_tests k m right e) ≡ true → IsAsked e
  asked_value right e names h =
      let p = right_parts m right e (inside_tests k m e) h in
      record { names = names; valued = p.0; within = p.1; tests = p.2 }

  -- an expression behind an arrow, which is a sink
  pub arrow_known : (e : Expr) → Holds any_op k m e → none_hold (expr_names m e) ≡ true → none_hold (arrow_tests m e ++ inside_tests k m e) ≡ true → is_known_value e ≡ true
  arrow_known e h names tests =
      let wrong_one = wrong m (is_sink (type_of e)) e in
      let p = and_parts (not (is_no_object e)) (not (is_past e) && (not wrong_one.0 && none_hold (inside_tests k m e))) tests in
      let q = and_parts (not (is_past e)) (not wrong_one.0 && none_hold (inside_tests k m e)) p.1 in
      let r = and_parts (not wrong_one.0) (none_hold (inside_tests k m e)) q.1 in
      let clear = expr_clear k m e names (none_all (expr_tests k m) (nodes e) r.1) in
      whole_of e (object_of any_op k m e h clear (not-true (is_no_object e) p.0) (not-true (is_past e) q.0))

  pub constant_value : (right : Bool) (e : Expr) → none_hold (expr_names m e) ≡ true → none_hold (constant_tests k m right e) ≡ true → IsAsked e
  constant_value right e names h =
      let p = right_parts m right e ((is_not_constant (k.constancy e), at m rule_is.NotConstant (span_of e)) ∷ inside_tests k m e) h in
      record { names = names; valued = p.0; within = p.1; tests = (and_parts (not (is_not_constant (k.constancy e))) (none_hold (inside_tests k m e)) p.2).1 }

  pub plain_value : (e : Expr) → none_hold (expr_names m e) ≡ true → none_hold (value_tests m e ++ inside_tests k m e) ≡ true → IsAsked e
  plain_value e names h =
      let p = value_parts m e (inside_tests k m e) h in
      record { names = names; valued = p.0; within = p.1; tests = p.2 }

  pub target_value : (t : Ty) (e : Expr) → none_hold (expr_names m e) ≡ true → none_hold (target_tests m t e ++ inside_tests k m e) ≡ true → IsAsked e
  target_value t e names h =
      let p = target_parts m t e (inside_tests k m e) h in
      record { names = names; valued = p.0; within = p.1; tests = p.2 }

  -- the value of an attribute, whatever it is for
  pub role_value : (stored : Ty) (name : AttributeName) (role : Role) (e : Expr) → none_hold (expr_names m e) ≡ true → none_hold (by_role k m stored name role e) ≡ true → IsAsked e
  role_value stored name role_is.Amount e names h = asked_value (is_integer (type_of e)) e names h
  role_value stored name role_is.Delimiter e names h = constant_value (is_bytes (type_of e)) e names h
  role_value stored name role_is.Test e names h = asked_value (is_boolean (type_of e)) e names h
  role_value stored name role_is.Conversion e names h = asked_value (is_plain (type_of e)) e names h
  role_value stored name role_is.Requirement e names h = asked_value (is_boolean (type_of e)) e names h
  role_value stored name role_is.Default e names h =
      let p = value_parts m e ((is_known stored && not (value_goes stored e), at m rule_is.TypeMismatch (value_span e)) ∷ ((is_known (type_of e) && not (is_plain (type_of e)), at m rule_is.TypeMismatch (value_span e)) ∷ inside_tests k m e)) h in
      let q = and_parts (not (is_known stored && not (value_goes stored e))) _ p.2 in
      let r = and_parts (not (is_known (type_of e) && not (is_plain (type_of e)))) _ q.1 in
      record { names = names; valued = p.0; within = p.1; tests = r.1 }
  role_value stored name role_is.Order e names h = constant_value (is_enum_of (order_enum name) (type_of e)) e names h
  role_value stored name role_is.Source e names h = asked_value (is_bytes (type_of e)) e names h
  role_value stored name role_is.Place e names h = asked_value (is_iterator (type_of e)) e names h
  role_value stored name role_is.Unasked e names h = plain_value e names h
  role_value stored name role_is.Alone e names h = plain_value e names h

  -- arguments
  both_true : (b : Bool) → not (b && true) ≡ true → b ≡ false
  both_true true e = never e
  both_true false e = refl

  fits_within : (o : Option Ty) (e : Expr) → argument_fits o e ≡ true → is_past e ≡ false
  fits_within None e h = never h
  fits_within (Some t) e h = not-true (is_past e) (and_parts (not (is_past e)) _ h).0

  pub arguments_known : (target : ℕ → Option Ty) (i : ℕ) (es : List Expr) → HoldsAll any_op k m es → none_hold (exprs_names m (exprs es)) ≡ true → arguments_fit target i (exprs es) ≡ true
      → none_hold (argument_tests m false (exprs es)) ≡ true → none_hold (exprs_inside k m (exprs es)) ≡ true → all_hold is_right (exprs es) ≡ true
  arguments_known target i [] h names fit tests inside_ = refl
  arguments_known target i (e ∷ es) h names fit tests inside_ =
      let n = none_parts (expr_names m e) (exprs_names m (exprs es)) names in
      let f = and_parts (argument_fits (target i) e) (arguments_fit target (i + 1) (exprs es)) fit in
      let t = and_parts (not (is_no_value e && true)) (none_hold (argument_tests m false (exprs es))) tests in
      let p = none_parts (inside_tests k m e) (exprs_inside k m (exprs es)) inside_ in
      and_from (is_known_value e) (all_hold is_right (exprs es)) (value_known e h.0 (record { names = n.0; valued = both_true (is_no_value e) t.0; within = fits_within (target i) e f.0; tests = p.0 }))
      (arguments_known target (i + 1) es h.1 n.1 f.1 t.1 p.1)

  -- values of an arm
  pub values_known : (es : List Expr) → HoldsAll any_op k m es → none_hold (all_tests (expr_names m) es) ≡ true → none_hold (all_tests (value_tests m) es) ≡ true → none_hold (all_tests (inside_tests k m) es) ≡ true → list_all is_known_value es ≡ true
  values_known [] h names tests inside_ = refl
  values_known (e ∷ es) h names tests inside_ =
      let n = none_parts (expr_names m e) (all_tests (expr_names m) es) names in
      let t = value_parts m e (all_tests (value_tests m) es) tests in
      let p = none_parts (inside_tests k m e) (all_tests (inside_tests k m) es) inside_ in
      and_from (is_known_value e) (list_all is_known_value es) (value_known e h.0 (record { names = n.0; valued = t.0; within = t.1; tests = p.0 })) (values_known es h.1 n.1 t.2 p.1)

  pub compared_known : (subject : Expr) (es : List Expr) → HoldsAll any_op k m es → none_hold (all_tests (expr_names m) es) ≡ true → none_hold (case_tests m subject (exprs es)) ≡ true → none_hold (all_tests (inside_tests k m) es) ≡ true → list_all is_known_value es ≡ true
  compared_known subject [] h names tests inside_ = refl
  compared_known subject (e ∷ es) h names tests inside_ =
      let n = none_parts (expr_names m e) (all_tests (expr_names m) es) names in
      let t = right_parts m (not (differs subject e)) e (case_tests m subject (exprs es)) tests in
      let p = none_parts (inside_tests k m e) (all_tests (inside_tests k m) es) inside_ in
      and_from (is_known_value e) (list_all is_known_value es) (value_known e h.0 (record { names = n.0; valued = t.0; within = t.1; tests = p.0 })) (compared_known subject es h.1 n.1 t.2 p.1)

  pub taken_all : (t : Ty) (es : List Expr) → HoldsAll any_op k m es → HoldsAll any_op k m (map (taken t) es)
  taken_all t [] h = tt
  taken_all t (e ∷ es) h = (taken_holds any_op k m t e h.0, taken_all t es h.1)

module _ (list : List Tree) (a : Answers list) (formed_list : list_all is_formed list ≡ true) (unbroken : (x : Fault) → Breaks list x → ⊥) (n m : ℕ) (ps : List Parameter) (full : parameters_full ps ≡ true) (members : FullMembers list (told a.stored)) where
  abbrev f : ℕ → Option Ty
  f = told a.types

  abbrev k : Known
  k = asked (typed_of list a)

  abbrev g : Around
  g = last list a formed_list unbroken n m ps

  abbrev ty : Tree → Bool
  ty = types list a formed_list unbroken n m ps

  abbrev path : Tree → Bool
  path = paths list a formed_list unbroken n m ps

  expr_is : (e : Tree) → is_of group_is.Expressions e ≡ true → IsFine list f m e → is_expr ty path e ≡ true
  expr_is e of h =
      let it = are_unbroken list a formed_list unbroken in
      formed_expr ty path e of h.0 (written list f m (told a.values) e h (tree_told list f (told a.values) (typed_of list a) it m e))

  known_here : IsKnown g any_op k m ty path
  known_here = inside_known list a formed_list unbroken n m ps full (told a.stored) members

  -- what is typed among the expressions of a unit
  pub typed_here : (e : Tree) → is_of group_is.Expressions e ≡ true → IsFine list f m e → Holds any_op k m (typed g e)
  typed_here e of h = typed_holds g any_op k m ty path known_here e (expr_is e of h)

  pub tree_here : (e : Tree) → is_expr ty path e ≡ true → Holds any_op k m (typed g e)
  tree_here e is = typed_holds g any_op k m ty path known_here e is

  pub meant_here : (u : Ty) → is_full u ≡ true → (e : Tree) → is_of group_is.Expressions e ≡ true → IsFine list f m e → Holds any_op k m (typed (meant u g) e)
  meant_here u fu e of h = typed_holds (meant u g) any_op k m ty path (meant_known list a formed_list unbroken n m ps full (told a.stored) members u fu) e (expr_is e of h)

  pub all_here : (ts : Trees) → are_of group_is.Expressions ts ≡ true → AreFine list f m ts → HoldsAll any_op k m (typed_all g ts)
  all_here none of h = tt
  all_here (more e ts) of h =
      let o = and_parts (is_of group_is.Expressions e) (are_of group_is.Expressions ts) of in
      (typed_here e o.0 (first list f m e ts h), all_here ts o.1 (rest list f m e ts h))
