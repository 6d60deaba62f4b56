-- The hooks of a list in which no rule is broken pass, where `$$` is what the field stores on which a hook hangs.
use Rattle.std.specs.Prelude.{pos, Bool, true, false, not, ◌&&◌, ◌||◌, ◌++◌, if◌then◌else◌, length, is_some}
use Rattle.std.specs.List.{list_all}
use Rattle.std.proofs.Common.{ℕ, ℤ, ◌≡◌, ◌+◌, refl, sym, subst, ◌∙◌, List, [], ◌∷◌, Option, Some, None, slice_get}
use Rattle.std.proofs.lemmas.Bool.{and_parts}
use Rattle.sp_methods.specs.Kinds.{Kind, Unsigned}
use Rattle.sp_ast.specs.Trees.{Tree, row, node, none, more}
use Rattle.sp_ast.specs.declared.forms.Form.TheVariants as form_is
use Rattle.sp_types.specs.Types.{Ty, same}
use Rattle.sp_types.proofs.Same.{same_itself}
use Rattle.sp_typed.specs.Exprs.{Expr}
use Rattle.sp_typed.specs.Stmts.{Stmt, block, no_stmts}
use Rattle.sp_typed_units.specs.declared.declarations.Hook.{Hook}
use Rattle.sp_typed_units.specs.declared.declarations.Parameter.{Parameter}
use Rattle.sp_typed_units.specs.declared.declarations.Typed.{Typed}
use Rattle.sp_type_context.specs.Contexts.{Around as Names}
use Rattle.sp_type_stmts.specs.Statements.{typed_body}
use Rattle.sp_type_scopes.specs.Decorators.{with_current, with_self}
use Rattle.sp_type_functions.specs.declared.site.Site.{Site}
use Rattle.sp_type_scopes.specs.Parameters.{parameters_in, with_parameters}
use Rattle.sp_type_functions.specs.Events.{fits, is_of_sink, is_of_elements}
use Rattle.sp_type_functions.specs.Hooks.{self_type, self_standing, current_type, current_standing, hook_around, hook_body, hook_with, no_hook, hook_of_body, hook_on, hook_behind}
use Rattle.sp_type_methods.specs.Methods.{number}
use Rattle.sp_rule_lists.specs.Lists.{all_tests, option_tests}
use Rattle.sp_rule_lists.specs.Names.{is_of_nothing, expr_names, hook_names, stmt_names}
use Rattle.sp_rule_lists.specs.Slots.{for_slots}
use Rattle.sp_rule_lists.specs.Told.{known_in, values_of}
use Rattle.sp_rule_lists.specs.Bodies.{parameter_tests, priority_tests, body_tests, own_hook_tests}
use Rattle.sp_rule_bodies.specs.ExprTests.{is_unmeant}
use Rattle.sp_meaning_states.specs.Types.{kind_of_type}
use Rattle.sp_code_meaning.specs.Layouts.{Layout}
use Rattle.sp_meaning.specs.Globals.{globals_of}
use Rattle.sp_meaning.specs.Hooks.{has_current, is_foreach}
use Rattle.sp_code.specs.Shapes.{OfHook}
use Rattle.sp_code_programs.specs.programs.Routines.{hook_unit, parameter_kinds, slot_kinds}
use Rattle.sp_law_lists.specs.known_types.Full.{is_full}
use Rattle.sp_law_lists.specs.known_types.Clear.{none_hold, any_op}
use Rattle.sp_law_lists.specs.known_types.Given.{IsKnown}
use Rattle.sp_law_lists.proofs.known_types_lemmas.Full.{never}
use Rattle.sp_law_lists.specs.known_values.Given.{AreTold}
use Rattle.sp_law_lists.specs.known_literals.Widened.{AreWidened}
use Rattle.sp_law_lists.specs.known_bodies.Trees.{is_maybe_expr, is_body}
use Rattle.sp_law_lists.specs.whole_list.Trees.{are_parameters}
use Rattle.sp_law_lists.specs.whole_list.Whole.{is_known_if, is_known_body, is_known_function, is_known_hook}
use Rattle.sp_law_lists.proofs.whole_list_lemmas.Blind.{known_blind}
use Rattle.sp_law_lists.proofs.whole_list_lemmas.Modules.{none_found}
use Rattle.sp_law_lists.proofs.whole_list_lemmas.Heads.{parameters_full}
use Rattle.sp_law_lists.proofs.whole_list_lemmas.None.{none_parts}
use Rattle.sp_law_lists.proofs.known_hooks_lemmas.Hooks.{is_hook_body, is_hook, inside_known, inside_decides}
use Rattle.sp_law_lists.specs.fit_expr.Around.{Around}
use Rattle.sp_law_lists.specs.fit_expr.Test.{local_is, unit_parameter}
use Rattle.sp_law_lists.specs.fit_body.Bodies as returns
use Rattle.sp_law_lists.specs.fit_body.Passes.{StmtPasses}
use Rattle.sp_law_lists.specs.fit_body.Test.{stmt_passes}
use Rattle.sp_law_lists.proofs.fit_body_lemmas.Sound.{stmt_sound}
use Rattle.sp_law_lists.specs.fit_list.Locals.{parameter_types}
use Rattle.sp_law_lists.specs.fit_list.Bodies.{parameter_layout, current_of, HookBodyPasses, HookPasses}
use Rattle.sp_law_lists.proofs.fit_list_lemmas.Handed.{locals_listed, plain_hook}
use Rattle.sp_law_lists.specs.known_kinds.Made.{AreMade, IsAsked}
use Rattle.sp_law_lists.specs.known_kinds.Kept.{SlotsKept, OffsetKept, ParametersKept}
use Rattle.sp_law_lists.proofs.known_kinds_lemmas.Names.{parameters_made, self_made, current_made}
use Rattle.sp_law_lists.specs.known_statements.Built.{stmt_built}
use Rattle.sp_law_lists.specs.passing_list.Built.{hook_built}
use Rattle.sp_law_lists.proofs.passing_list_lemmas.Members.{round_of}
use Rattle.sp_law_lists.proofs.passing_list_lemmas.Names.{parameters_widen, self_widens, current_widens}
use Rattle.sp_law_lists.proofs.passing_list_lemmas.Bodies.{stands_behind, type_is, handed, body_round, parameters_kept, slots_kept, calls_asked, body_so}
use Rattle.sp_law_lists.proofs.passing_list_lemmas.Seen.{self_leaf, no_current, no_own, nothing_taken, run_once, seen_behind}

-- where a body keeps `$$`, an offset, and behind these its slots
abbrev beside : Layout
beside = record { own = 0; current = 0; offset = Some 1; first = 2 }

-- a body of a hook with `$$` is one
current_hook : (list : Typed) (o : Option Ty) (x : Hook) → has_current x.of ≡ true
    → StmtPasses list (record { own = 0; current = 0; offset = Some 1; first = 2 }) (kind_of_type (globals_of list).ranges (current_of x.of o) ∷ Unsigned ∷ slot_kinds (globals_of list).ranges x.slots) (hook_unit x.of) (OfHook (is_foreach x.of)) false x.body
    → HookBodyPasses list o x
current_hook list o x has h =
    let ranges = (globals_of list).ranges in
    let current = kind_of_type ranges (current_of x.of o) in
    subst
    (λ (b : Bool).
    StmtPasses list (if b then record { own = 0; current = 0; offset = Some 1; first = 2 } else parameter_layout (length x.parameters)) ((if b then current ∷ Unsigned ∷ [] else parameter_kinds ranges x.parameters) ++ slot_kinds ranges x.slots) (hook_unit x.of) (OfHook (is_foreach x.of)) false x.body)
    (sym has)
    h

module _ (t : Typed) (known : list_all is_known_function t.functions ≡ true) (g : Names) (wide : AreWidened g) (made : (places : Layout) (locals : List Ty) (unit : Option ℕ) → AreMade (round_of t places locals unit) g) (s : Site) (is_type_tree is_path : Tree → Bool)
    (known_here : (slots : List ℕ) → IsKnown g any_op (known_in t (values_of t) slots) s.«module» is_type_tree is_path) (told_here : (slots : List ℕ) → AreTold g any_op (known_in t (values_of t) slots) s.«module» (values_of t) is_path)
    (units : List Parameter) (something : is_of_nothing s.of ≡ false) (units_full : parameters_full units ≡ true) (current : (is_unmeant (current_standing s.of) || is_full (current_type s.of s.current)) ≡ true)
    (keeps : (places : Layout) (locals : List Ty) (n : ℕ) (p : Parameter) → slice_get units n ≡ Some p → unit_parameter (round_of t places locals (hook_unit s.of)) (hook_unit s.of) n p.ty ≡ true)
    (single : is_of_elements s.of ≡ false) where
  abbrev m : ℕ
  m = s.«module»

  -- all that is named in a hook is kept, where its own parameters and `$$` are
  inside_made : (places : Layout) (locals : List Ty) (own : List Parameter) → places.own ≡ length own → ParametersKept (round_of t places locals (hook_unit s.of)) 0 own
      → (is_unmeant (current_standing s.of) || (is_some places.offset && local_is (round_of t places locals (hook_unit s.of)) places.current (current_type s.of s.current))) ≡ true → AreMade (round_of t places locals (hook_unit s.of)) (hook_around s.of s.current units own g)
  inside_made places locals own are kept here =
      let around = round_of t places locals (hook_unit s.of) in
      let first = length own in
      let outer = with_parameters first (is_of_sink s.of) units g in
      let being = with_self (self_type s.of) (self_standing s.of) outer in
      let having = with_current (current_type s.of s.current) (current_standing s.of) being in
      let a1 = parameters_made around g first (is_of_sink s.of) units (made places locals (hook_unit s.of)) (λ n p e. seen_behind around first n p.ty are (keeps places locals n p e)) in
      let a2 = self_made around outer (self_type s.of) (self_standing s.of) a1 (self_leaf s.of something) in
      let a3 = current_made around being (current_type s.of s.current) (current_standing s.of) a2 here in
      parameters_made around having 0 false own a3 kept

  inside_widens : (own : List Parameter) → AreWidened (hook_around s.of s.current units own g)
  inside_widens own =
      let outer = with_parameters (length own) (is_of_sink s.of) units g in
      let being = with_self (self_type s.of) (self_standing s.of) outer in
      let having = with_current (current_type s.of s.current) (current_standing s.of) being in
      parameters_widen having 0 false own (current_widens being (current_type s.of s.current) (current_standing s.of) (self_widens outer (self_type s.of) (self_standing s.of) (parameters_widen g (length own) (is_of_sink s.of) units wide)))

  -- the block of a hook
  module _ (own : List Parameter) (own_full : parameters_full own ≡ true) (body : Tree) (is : is_body is_type_tree is_path body ≡ true) where
    abbrev typed_block : Stmt × List Ty
    typed_block = typed_body (hook_body s.of) (hook_around s.of s.current units own g) [] body

    block_so : (around : Around) → AreMade around (hook_around s.of s.current units own g) → IsAsked around (known_in t (values_of t) (for_slots typed_block.0)) → OffsetKept around → SlotsKept around typed_block.1
        → stmt_built typed_block.0 ≡ true → none_hold (stmt_names m typed_block.0) ≡ true → none_hold (body_tests (known_in t (values_of t) (for_slots typed_block.0)) None m typed_block.0) ≡ true → is_known_body typed_block.0 ≡ true
        → stmt_passes (record { around = around; returns = returns.Hook (is_foreach s.of) }) false typed_block.0 ≡ true
    block_so around of asked offset slots built names tests right =
        let values = values_of t in
        let own_slots = for_slots typed_block.0 in
        let k = known_in t values own_slots in
        body_so (record { around = around; returns = returns.Hook (is_foreach s.of) }) (hook_around s.of s.current units own g) (hook_body s.of) k m is_type_tree is_path (known_blind t values own_slots)
        (inside_known t values g s is_type_tree is_path known_here told_here units something units_full current own own_full own_slots)
        (inside_decides t values g s is_type_tree is_path known_here told_here units something units_full current own own_full own_slots) of (inside_widens own) asked offset refl body is slots built names tests right

    -- what it is handed is its parameters, or `$$` and an offset
    plain_so : has_current s.of ≡ false → stmt_built typed_block.0 ≡ true → none_hold (stmt_names m typed_block.0) ≡ true → none_hold (body_tests (known_in t (values_of t) (for_slots typed_block.0)) None m typed_block.0) ≡ true → is_known_body typed_block.0 ≡ true
        → stmt_passes (record { around = body_round t own typed_block.1 (hook_unit s.of); returns = returns.Hook (is_foreach s.of) }) false typed_block.0 ≡ true
    plain_so plain built names tests right =
        let places = handed (length own) in
        let kinds = parameter_types own ++ typed_block.1 in
        block_so (body_round t own typed_block.1 (hook_unit s.of)) (inside_made places kinds own refl (parameters_kept t own typed_block.1 (hook_unit s.of)) (no_current s.of _ plain something)) (calls_asked t (values_of t) (for_slots typed_block.0) places kinds (hook_unit s.of) known) refl (slots_kept t own typed_block.1 (hook_unit s.of)) built names tests right

  or_last : (b c : Bool) → c ≡ true → (b || c) ≡ true
  or_last true c e = refl
  or_last false c e = e

  current_so : (o : Option Ty) → current_of s.of o ≡ current_type s.of s.current → (body : Tree) (is : is_body is_type_tree is_path body ≡ true) → stmt_built (typed_block [] refl body is).0 ≡ true → none_hold (stmt_names m (typed_block [] refl body is).0) ≡ true
      → none_hold (body_tests (known_in t (values_of t) (for_slots (typed_block [] refl body is).0)) None m (typed_block [] refl body is).0) ≡ true → is_known_body (typed_block [] refl body is).0 ≡ true
      → stmt_passes (record { around = round_of t beside (current_of s.of o ∷ number ∷ (typed_block [] refl body is).1) (hook_unit s.of); returns = returns.Hook (is_foreach s.of) }) false (typed_block [] refl body is).0 ≡ true
  current_so o agree body is built names tests right =
      let b = typed_block [] refl body is in
      let cur = current_of s.of o in
      let kinds = cur ∷ number ∷ b.1 in
      let around = round_of t beside kinds (hook_unit s.of) in
      let here : local_is around 0 (current_type s.of s.current) ≡ true = subst (λ u. same cur u ≡ true) agree (same_itself cur) in
      block_so [] refl body is around (inside_made beside kinds [] refl (λ n p e. none_found p e) (or_last (is_unmeant (current_standing s.of)) (local_is around 0 (current_type s.of s.current)) here)) (calls_asked t (values_of t) (for_slots b.0) beside kinds (hook_unit s.of) known) refl
      (λ n u e. type_is (slice_get kinds (2 + n)) u (stands_behind (cur ∷ number ∷ []) b.1 n ∙ e)) built names tests right

  -- a hook whose body passes in both
  finish : (o : Option Ty) (each : Bool) (own : List Parameter) (p : Option Expr) (rank : Option ℤ) (b : Stmt × List Ty) → fits s.of each s.container own ≡ true
      → (has_current s.of ≡ false → stmt_passes (record { around = body_round t own b.1 (hook_unit s.of); returns = returns.Hook (is_foreach s.of) }) false b.0 ≡ true)
      → (has_current s.of ≡ true → stmt_passes (record { around = round_of t beside (current_of s.of o ∷ number ∷ b.1) (hook_unit s.of); returns = returns.Hook (is_foreach s.of) }) false b.0 ≡ true) → HookPasses t o (hook_with s each own p rank b)
  finish o each own p rank b fit plain having = record { once = run_once s.of single; handed = nothing_taken s.of each s.container own fit; body = by (has_current s.of) refl }
    where
      by : (c : Bool) → has_current s.of ≡ c → HookBodyPasses t o (hook_with s each own p rank b)
      by true e = current_hook t o (hook_with s each own p rank b) e (stmt_sound (record { around = round_of t beside (current_of s.of o ∷ number ∷ b.1) (hook_unit s.of); returns = returns.Hook (is_foreach s.of) }) false b.0 (having e))
      by false e =
          let ranges = (globals_of t).ranges in
          let sound = stmt_sound (record { around = body_round t own b.1 (hook_unit s.of); returns = returns.Hook (is_foreach s.of) }) false b.0 (plain e) in
          plain_hook t o (hook_with s each own p rank b) e
          (subst (λ (ks : List Kind). StmtPasses t (parameter_layout (length own)) ks (hook_unit s.of) (OfHook (is_foreach s.of)) false b.0) (locals_listed ranges own b.1) sound)

  abbrev Agrees : Option Ty → Type 0
  Agrees o = has_current s.of ≡ true → current_of s.of o ≡ current_type s.of s.current

  fit_of : (b c rest : Bool) → (not (b || not c) && rest) ≡ true → c ≡ true
  fit_of b true rest e = refl
  fit_of true false rest e = never e
  fit_of false false rest e = never e

  -- what is no hook
  pub nothing_passes : (o : Option Ty) → none_hold (hook_names (no_hook s)) ≡ true → HookPasses t o (no_hook s)
  nothing_passes o names =
      finish o false [] None (Some (pos 0)) (block no_stmts, []) (fit_of (is_of_nothing s.of) (fits s.of false s.container []) true names) (λ e. refl) (λ e. refl)

  -- what a hook does
  does_pass : (o : Option Ty) → Agrees o → (ranks : Expr → Option ℤ) (own : List Parameter) (x : Tree) → is_hook_body is_type_tree is_path x ≡ true → none_hold (hook_names (hook_of_body g ranks s units own x)) ≡ true → none_hold (own_hook_tests t (values_of t) (hook_of_body g ranks s units own x)) ≡ true
      → is_known_hook (hook_of_body g ranks s units own x) ≡ true → hook_built (hook_of_body g ranks s units own x) ≡ true → HookPasses t o (hook_of_body g ranks s units own x)
  does_pass o agree ranks own (node (form_is.HookBody each) span (more priority (more body none))) is names tests right built =
      let h = hook_of_body g ranks s units own (node (form_is.HookBody each) span (more priority (more body none))) in
      let values = values_of t in
      let k = known_in t values [] in
      let are = and_parts (is_maybe_expr is_type_tree is_path priority) (is_body is_type_tree is_path body) is in
      let n = none_parts (option_tests (expr_names m) h.priority) (stmt_names m h.body) (and_parts (not (is_of_nothing s.of || not h.fits)) _ names).1 in
      let p = none_parts (all_tests (parameter_tests m) own) _ tests in
      let q = none_parts (option_tests (priority_tests k m) h.priority) (body_tests (known_in t values (for_slots h.body)) None m h.body) p.1 in
      let r = and_parts (parameters_full own) (is_known_if h.priority && is_known_body h.body) right in
      let b = and_parts (is_known_if h.priority) (is_known_body h.body) r.1 in
      let fit = fit_of (is_of_nothing s.of) h.fits _ names in
      finish o each own h.priority h.rank (typed_body (hook_body s.of) (hook_around s.of s.current units own g) [] body) fit (λ plain. plain_so own r.0 body are.1 plain built n.1 q.1 b.1)
      (λ having. alone own having fit body are.1 built n.1 q.1 b.1)
    where
      alone : (ps : List Parameter) → has_current s.of ≡ true → fits s.of each s.container ps ≡ true → (body : Tree) → is_body is_type_tree is_path body ≡ true → stmt_built (typed_body (hook_body s.of) (hook_around s.of s.current units ps g) [] body).0 ≡ true
          → none_hold (stmt_names m (typed_body (hook_body s.of) (hook_around s.of s.current units ps g) [] body).0) ≡ true
          → none_hold (body_tests (known_in t (values_of t) (for_slots (typed_body (hook_body s.of) (hook_around s.of s.current units ps g) [] body).0)) None m (typed_body (hook_body s.of) (hook_around s.of s.current units ps g) [] body).0) ≡ true
          → is_known_body (typed_body (hook_body s.of) (hook_around s.of s.current units ps g) [] body).0 ≡ true
          → stmt_passes (record { around = round_of t beside (current_of s.of o ∷ number ∷ (typed_body (hook_body s.of) (hook_around s.of s.current units ps g) [] body).1) (hook_unit s.of); returns = returns.Hook (is_foreach s.of) }) false (typed_body (hook_body s.of) (hook_around s.of s.current units ps g) [] body).0 ≡ true
      alone [] having fit body is built names tests right = current_so o (agree having) body is built names tests right
      alone (p ∷ ps) having fit body is built names tests right = no_own s.of each s.container p ps having single fit
  does_pass o agree ranks own _ is names tests right built = nothing_passes o names

  pub behind_passes : (o : Option Ty) → Agrees o → (ranks : Expr → Option ℤ) (x : Tree) → is_hook_body is_type_tree is_path x ≡ true → none_hold (hook_names (hook_behind g ranks s units x)) ≡ true → none_hold (own_hook_tests t (values_of t) (hook_behind g ranks s units x)) ≡ true
      → is_known_hook (hook_behind g ranks s units x) ≡ true → hook_built (hook_behind g ranks s units x) ≡ true → HookPasses t o (hook_behind g ranks s units x)
  behind_passes o agree ranks x is names tests right built = does_pass o agree ranks [] x is names tests right built

  pub on_passes : (o : Option Ty) → Agrees o → (ranks : Expr → Option ℤ) (x : Tree) → is_hook is_type_tree is_path x ≡ true → none_hold (hook_names (hook_on g ranks s units x)) ≡ true → none_hold (own_hook_tests t (values_of t) (hook_on g ranks s units x)) ≡ true
      → is_known_hook (hook_on g ranks s units x) ≡ true → hook_built (hook_on g ranks s units x) ≡ true → HookPasses t o (hook_on g ranks s units x)
  on_passes o agree ranks (node form_is.Hook span (more (row ps) (more body none))) is names tests right built =
      does_pass o agree ranks (parameters_in g ps) body (and_parts (are_parameters is_type_tree ps) (is_hook_body is_type_tree is_path body) is).1 names tests right built
  on_passes o agree ranks _ is names tests right built = nothing_passes o names
