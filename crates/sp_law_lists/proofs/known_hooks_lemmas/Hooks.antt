-- Hooks in which no test holds: all is known of them.
use Rattle.std.specs.Prelude.{ℤ, Bool, true, false, not, ◌&&◌, ◌||◌, if◌then◌else◌, List, [], ◌∷◌, ◌++◌, length, Option, Some, None}
use Rattle.std.specs.List.{list_all}
use Rattle.std.proofs.Common.{ℕ, ◌≡◌, refl, ◌∙◌, sym}
use Rattle.std.proofs.lemmas.Bool.{and_parts, and_from}
use Rattle.sp_base.specs.declared.places.Span.{Span}
use Rattle.sp_numbers.specs.declared.width.Width.TheVariants.{W64}
use Rattle.sp_ast.specs.Trees.{Tree, Trees, absent, row, node, none, more}
use Rattle.sp_ast.specs.declared.groups.Group.TheVariants as group_is
use Rattle.sp_ast.specs.declared.groups.Sort.TheVariants as stands
use Rattle.sp_ast.specs.declared.forms.Form.TheVariants as form_is
use Rattle.sp_types.specs.Types.{word}
use Rattle.sp_types.specs.declared.words.Word.TheVariants as word_is
use Rattle.sp_typed.specs.declared.words.Standing.TheVariants as standing_is
use Rattle.sp_typed.specs.Exprs.{Expr, type_of}
use Rattle.sp_typed.specs.Stmts.{Stmt}
use Rattle.sp_typed_units.specs.declared.declarations.Parameter.{Parameter}
use Rattle.sp_typed_units.specs.declared.declarations.Hook.{Hook}
use Rattle.sp_typed_units.specs.declared.declarations.HookOf.{HookOf}
use Rattle.sp_typed_units.specs.declared.declarations.HookOf.TheVariants as of_is
use Rattle.sp_typed_units.specs.declared.declarations.Typed.{Typed}
use Rattle.sp_type_operands.specs.Literals.{taken}
use Rattle.sp_type_context.specs.Contexts.{Around}
use Rattle.sp_type_context.specs.Typing.{typed}
use Rattle.sp_ast.specs.Views.{present}
use Rattle.sp_type_scopes.specs.Decorators.{with_current, with_self}
use Rattle.sp_type_stmts.specs.declared.body.Body.{Body}
use Rattle.sp_type_stmts.specs.Statements.{typed_body}
use Rattle.sp_type_functions.specs.declared.site.Site.{Site}
use Rattle.sp_type_functions.specs.Events.{is_of_sink}
use Rattle.sp_type_scopes.specs.Parameters.{parameters_in, with_parameters}
use Rattle.sp_type_functions.specs.Hooks.{self_type, self_standing, current_type, current_standing, hook_around, hook_body, priority_around, priority_in, hook_of_body, hook_behind, hook_on}
use Rattle.sp_type_constants.specs.Known.{Known as Values}
use Rattle.sp_rule_bodies.specs.Known.{Known}
use Rattle.sp_rule_bodies.specs.ExprTests.{is_unmeant}
use Rattle.sp_rule_lists.specs.Lists.{all_tests, option_tests}
use Rattle.sp_rule_lists.specs.Names.{is_of_nothing, expr_names, stmt_names, hook_names}
use Rattle.sp_rule_lists.specs.Slots.{for_slots}
use Rattle.sp_rule_lists.specs.Told.{known_in}
use Rattle.sp_rule_lists.specs.Bodies.{body_tests, parameter_tests, is_rank, priority_tests, own_hook_tests}
use Rattle.sp_law_lists.specs.known_types.Full.{is_full}
use Rattle.sp_law_lists.specs.known_types.Clear.{none_hold, any_op}
use Rattle.sp_law_lists.specs.known_types.Trees.{is_expr}
use Rattle.sp_law_lists.specs.known_types.Given.{IsKnown}
use Rattle.sp_law_lists.proofs.known_types_lemmas.Full.{never}
use Rattle.sp_law_lists.proofs.known_types_lemmas.Kept.{taken_holds}
use Rattle.sp_law_lists.proofs.known_types_lemmas.Typed.{typed_holds}
use Rattle.sp_law_lists.specs.known_values.Given.{AreTold}
use Rattle.sp_law_lists.specs.known_bodies.Decided.{DecidesUnder}
use Rattle.sp_law_lists.specs.known_bodies.Trees.{is_body, is_maybe_expr}
use Rattle.sp_law_lists.specs.whole_list.Whole.{is_known_parameter, is_known_if, is_known_body, is_known_hook}
use Rattle.sp_law_lists.specs.whole_list.Trees.{are_parameters}
use Rattle.sp_law_lists.proofs.whole_list_lemmas.Blind.{known_blind}
use Rattle.sp_law_lists.proofs.whole_list_lemmas.None.{none_parts}
use Rattle.sp_law_lists.proofs.whole_list_lemmas.Heads.{parameters_full, parameters_known, self_known, current_known}
use Rattle.sp_law_lists.proofs.whole_list_lemmas.Functions.{body_whole, parameters_whole}
use Rattle.sp_law_lists.proofs.whole_list_lemmas.Decided.{decides, decides_under, parameters_told}
use Rattle.sp_law_lists.proofs.known_members_lemmas.Contexts.{self_told, current_told}
use Rattle.sp_law_lists.proofs.known_units_lemmas.Values.{constant_value, value_known}

-- `self` has a full type in a hook of something
self_full : (of : HookOf) → is_of_nothing of ≡ false → (is_unmeant (self_standing of) || is_full (self_type of)) ≡ true
self_full of_is.Nothing e = never (sym e)
self_full (of_is.Unit n h) e = by (is_of_sink (of_is.Unit n h))
  where
    by : (b : Bool) → (is_unmeant (if b then standing_is.Hidden else standing_is.Meant) || true) ≡ true
    by true = refl
    by false = refl
self_full (of_is.Field n k) e = refl
self_full (of_is.Elements n k) e = refl
self_full (of_is.Anonymous n) e = refl
self_full (of_is.AnonymousElements n) e = refl

-- the tree of a hook's body: its priority, if it has one, is an expression, and its block is a body
abbrev pub is_hook_body : (Tree → Bool) → (Tree → Bool) → Tree → Bool
is_hook_body is_type is_path (node (form_is.HookBody each) span (more priority (more body none))) = is_maybe_expr is_type is_path priority && is_body is_type is_path body
is_hook_body is_type is_path _ = true

-- the tree of a hook that is written with `on`
abbrev pub is_hook : (Tree → Bool) → (Tree → Bool) → Tree → Bool
is_hook is_type is_path (node form_is.Hook span (more (row ps) (more body none))) = are_parameters is_type ps && is_hook_body is_type is_path body
is_hook is_type is_path _ = true

module _ (t : Typed) (values : Values) (g : Around) (s : Site) (is_type is_path : Tree → Bool) (known : (slots : List ℕ) → IsKnown g any_op (known_in t values slots) s.«module» is_type is_path)
    (told : (slots : List ℕ) → AreTold g any_op (known_in t values slots) s.«module» values is_path) where
  abbrev m : ℕ
  m = s.«module»

  abbrev k : List ℕ → Known
  k slots = known_in t values slots

  -- what is named among the parameters of a hook and of its unit
  module _ (slots : List ℕ) (first : ℕ) (hides : Bool) (ps : List Parameter) (h : Around) (h_known : IsKnown h any_op (k slots) m is_type is_path) (h_told : AreTold h any_op (k slots) m values is_path) where
    seen_told : AreTold (with_parameters first hides ps h) any_op (k slots) m values is_path
    seen_told = parameters_told t values slots any_op m is_type is_path h h_told first hides ps

    seen_known : parameters_full ps ≡ true → IsKnown (with_parameters first hides ps h) any_op (k slots) m is_type is_path
    seen_known full = parameters_known h any_op (k slots) m is_type is_path h_known first hides ps (decides t values slots any_op m is_type is_path (with_parameters first hides ps h) seen_told) full

  module _ (units : List Parameter) (meant : is_of_nothing s.of ≡ false) (units_full : parameters_full units ≡ true) (current : (is_unmeant (current_standing s.of) || is_full (current_type s.of s.current)) ≡ true) where
    module _ (own : List Parameter) (own_full : parameters_full own ≡ true) where
      abbrev hides : Bool
      hides = is_of_sink s.of

      abbrev outer : Around
      outer = with_parameters (length own) hides units g

      outer_told : (slots : List ℕ) → AreTold outer any_op (k slots) m values is_path
      outer_told slots = seen_told slots (length own) hides units g (known slots) (told slots)

      outer_known : (slots : List ℕ) → IsKnown outer any_op (k slots) m is_type is_path
      outer_known slots = seen_known slots (length own) hides units g (known slots) (told slots) units_full

      abbrev being : Around
      being = with_self (self_type s.of) (self_standing s.of) outer

      being_told : (slots : List ℕ) → AreTold being any_op (k slots) m values is_path
      being_told slots = self_told any_op (k slots) m values is_path outer (outer_told slots) (self_type s.of) (self_standing s.of)

      being_known : (slots : List ℕ) → IsKnown being any_op (k slots) m is_type is_path
      being_known slots =
          self_known outer any_op (k slots) m is_type is_path (outer_known slots) (self_type s.of) (self_standing s.of) (decides t values slots any_op m is_type is_path being (being_told slots)) (self_full s.of meant)

      abbrev having : Around
      having = with_current (current_type s.of s.current) (current_standing s.of) being

      having_told : (slots : List ℕ) → AreTold having any_op (k slots) m values is_path
      having_told slots = current_told any_op (k slots) m values is_path being (being_told slots) (current_type s.of s.current) (current_standing s.of)

      having_known : (slots : List ℕ) → IsKnown having any_op (k slots) m is_type is_path
      having_known slots =
          current_known being any_op (k slots) m is_type is_path (being_known slots) (current_type s.of s.current) (current_standing s.of) (decides t values slots any_op m is_type is_path having (having_told slots)) current

      -- the block
      abbrev inside : Around
      inside = hook_around s.of s.current units own g

      abbrev typed_block : Tree → Stmt
      typed_block body = (typed_body (hook_body s.of) inside [] body).0

      -- all that is named round it is known
      pub inside_known : (slots : List ℕ) → IsKnown inside any_op (k slots) m is_type is_path
      inside_known slots = seen_known slots 0 false own having (having_known slots) (having_told slots) own_full

      pub inside_decides : (slots : List ℕ) → DecidesUnder inside any_op (k slots) m is_type is_path
      inside_decides slots = decides_under t values slots any_op m is_type is_path inside (seen_told slots 0 false own having (having_known slots) (having_told slots))

      block_known : (slots : List ℕ) (body : Tree) → is_body is_type is_path body ≡ true → none_hold (stmt_names m (typed_block body)) ≡ true → none_hold (body_tests (k slots) None m (typed_block body)) ≡ true → is_known_body (typed_block body) ≡ true
      block_known slots body is names tests =
          body_whole (k slots) m is_type is_path (known_blind t values slots) inside (hook_body s.of) None [] body (inside_known slots) (inside_decides slots) is names tests

      -- the priority
      abbrev above : Around
      above = priority_around s.of units own g

      one_priority : (e : Tree) → is_expr is_type is_path e ≡ true → none_hold (option_tests (expr_names m) (priority_in above (Some e))) ≡ true → none_hold (option_tests (priority_tests (k []) m) (priority_in above (Some e))) ≡ true
          → is_known_if (priority_in above (Some e)) ≡ true
      one_priority e is names tests =
          let x = taken (word (word_is.Int W64)) (typed above e) in
          let above_known = seen_known [] 0 false own outer (outer_known []) (outer_told []) own_full in
          let holding = taken_holds any_op (k []) m (word (word_is.Int W64)) (typed above e) (typed_holds above any_op (k []) m is_type is_path above_known e is) in
          value_known (k []) m x holding (constant_value (k []) m (is_rank (type_of x)) x names tests)

      priority_known : (p : Tree) → is_maybe_expr is_type is_path p ≡ true → none_hold (option_tests (expr_names m) (priority_in above (present p))) ≡ true → none_hold (option_tests (priority_tests (k []) m) (priority_in above (present p))) ≡ true
          → is_known_if (priority_in above (present p)) ≡ true
      priority_known absent is names tests = refl
      priority_known (row ts) is names tests = one_priority (row ts) is names tests
      priority_known (node form span ts) is names tests = one_priority (node form span ts) is names tests

    -- what a hook does
    does_known : (ranks : Expr → Option ℤ) (own : List Parameter) (x : Tree) → (none_hold (all_tests (parameter_tests m) own) ≡ true → parameters_full own ≡ true) → is_hook_body is_type is_path x ≡ true → none_hold (hook_names (hook_of_body g ranks s units own x)) ≡ true
        → none_hold (own_hook_tests t values (hook_of_body g ranks s units own x)) ≡ true → is_known_hook (hook_of_body g ranks s units own x) ≡ true
    does_known ranks own (node (form_is.HookBody each) span (more priority (more body none))) own_is is names tests =
        let h = hook_of_body g ranks s units own (node (form_is.HookBody each) span (more priority (more body none))) in
        let are = and_parts (is_maybe_expr is_type is_path priority) (is_body is_type is_path body) is in
        let n = none_parts (option_tests (expr_names m) h.priority) (stmt_names m h.body) (and_parts (not (is_of_nothing s.of || not h.fits)) _ names).1 in
        let p = none_parts (all_tests (parameter_tests m) own) _ tests in
        let q = none_parts (option_tests (priority_tests (k []) m) h.priority) (body_tests (k (for_slots h.body)) None m h.body) p.1 in
        let full = own_is p.0 in
        and_from (list_all is_known_parameter own) _ full
        (and_from (is_known_if h.priority) (is_known_body h.body) (priority_known own full priority are.0 n.0 q.0) (block_known own full (for_slots h.body) body are.1 n.1 q.1))
    does_known ranks own _ own_is is names tests = refl

    -- a hook that is written behind a field, and one with `on`
    pub behind_known : (ranks : Expr → Option ℤ) (x : Tree) → is_hook_body is_type is_path x ≡ true → none_hold (hook_names (hook_behind g ranks s units x)) ≡ true → none_hold (own_hook_tests t values (hook_behind g ranks s units x)) ≡ true
        → is_known_hook (hook_behind g ranks s units x) ≡ true
    behind_known ranks x is names tests = does_known ranks [] x (λ e. refl) is names tests

    pub on_known : (ranks : Expr → Option ℤ) (x : Tree) → is_hook is_type is_path x ≡ true → none_hold (hook_names (hook_on g ranks s units x)) ≡ true → none_hold (own_hook_tests t values (hook_on g ranks s units x)) ≡ true
        → is_known_hook (hook_on g ranks s units x) ≡ true
    on_known ranks (node form_is.Hook span (more (row ps) (more body none))) is names tests =
        let are = and_parts (are_parameters is_type ps) (is_hook_body is_type is_path body) is in
        does_known ranks (parameters_in g ps) body (parameters_whole (k []) m is_type is_path (known_blind t values []) g (known []) ps are.0) are.1 names tests
    on_known ranks _ is names tests = refl
