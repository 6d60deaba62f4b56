-- The trees of hooks in a list in which no rule is broken: each expression in one is an expression, and each block is a body.
use Rattle.std.specs.Prelude.{◌&&◌}
use Rattle.std.specs.List.{list_all}
use Rattle.std.proofs.Common.{ℕ, ◌≡◌, Bool, true, refl, List, Option, Some, None}
use Rattle.std.proofs.lemmas.Bool.{and_parts, and_from}
use Rattle.sp_ast.specs.Trees.{Tree, absent, row, node, none, more}
use Rattle.sp_ast.specs.Slots.{is_formed}
use Rattle.sp_ast.specs.Groups.{is_of, fits as stands_as}
use Rattle.sp_ast.specs.declared.groups.Group.TheVariants as group_is
use Rattle.sp_ast.specs.declared.groups.Sort.TheVariants as stands
use Rattle.sp_ast.specs.declared.forms.Form.TheVariants as form_is
use Rattle.sp_rules.specs.declared.fault.Fault.{Fault}
use Rattle.sp_types.specs.Types.{Ty}
use Rattle.sp_solver.specs.Told.{told}
use Rattle.sp_type_hook_rows.specs.declared.rows.HookRow.{HookRow}
use Rattle.sp_type_answers.specs.Settled.{Answers}
use Rattle.sp_type_answers.specs.Lists.{typed_of}
use Rattle.sp_type_answers.specs.Rules.{Breaks}
use Rattle.sp_law_lists.proofs.known_types_lemmas.Full.{never}
use Rattle.sp_law_lists.proofs.known_types_lemmas.Formed.{formed_expr}
use Rattle.sp_law_lists.specs.known_bodies.Trees.{is_body, is_maybe_expr}
use Rattle.sp_law_lists.proofs.known_bodies_lemmas.Formed.{formed_body}
use Rattle.sp_law_lists.specs.whole_list.Types.{is_type}
use Rattle.sp_law_lists.specs.whole_list.Trees.{are_parameters}
use Rattle.sp_law_lists.specs.known_constants.Good.{is_told}
use Rattle.sp_law_lists.specs.known_constants.Fine.{IsFine}
use Rattle.sp_law_lists.proofs.known_constants_lemmas.Fine.{formed, written, inside, first, rest}
use Rattle.sp_law_lists.proofs.known_constants_lemmas.Named.{tree_told}
use Rattle.sp_law_lists.proofs.unbroken_list_lemmas.Lists.{are_unbroken}
use Rattle.sp_law_lists.proofs.unbroken_list_lemmas.Bodies.{parameters_fine}
use Rattle.sp_law_lists.proofs.known_hooks_lemmas.Hooks.{is_hook_body, is_hook}

module _ (list : List Tree) (a : Answers list) (formed_list : list_all is_formed list ≡ true) (unbroken : (x : Fault) → Breaks list x → ⊥) where
  abbrev f : ℕ → Option Ty
  f = told a.types

  abbrev pub types : ℕ → Tree → Bool
  types m = is_type list f m

  abbrev pub paths : ℕ → Tree → Bool
  paths m = is_told list f (told a.values) m

  module _ (m : ℕ) where
    expr_is : (e : Tree) → is_of group_is.Expressions e ≡ true → IsFine list f m e → is_maybe_expr (types m) (paths m) e ≡ true
    expr_is absent of h = refl
    expr_is (row ts) of h = never of
    expr_is (node form span ts) of h =
        let it = are_unbroken list a formed_list unbroken in
        let e = node form span ts in
        formed_expr (types m) (paths m) e of h.0 (written list f m (told a.values) e h (tree_told list f (told a.values) (typed_of list a) it m e))

    priority_is : (e : Tree) → stands_as (stands.Optional group_is.Expressions) e ≡ true → IsFine list f m e → is_maybe_expr (types m) (paths m) e ≡ true
    priority_is absent of h = refl
    priority_is (row ts) of h = never of
    priority_is (node form span ts) of h = expr_is (node form span ts) of h

    block_is : (b : Tree) → IsFine list f m b → is_body (types m) (paths m) b ≡ true
    block_is b h =
        let it = are_unbroken list a formed_list unbroken in
        formed_body (types m) (paths m) b h.0 (written list f m (told a.values) b h (tree_told list f (told a.values) (typed_of list a) it m b))

    pub body_is : (x : Tree) → IsFine list f m x → is_hook_body (types m) (paths m) x ≡ true
    body_is (node (form_is.HookBody each) span (more priority (more body none))) h =
        let ts = more priority (more body none) in
        let p = and_parts (stands_as (stands.Optional group_is.Expressions) priority) (is_of group_is.Blocks body && true) (formed list f m (form_is.HookBody each) span ts h) in
        let in_parts = inside list f m (form_is.HookBody each) span ts h in
        and_from (is_maybe_expr (types m) (paths m) priority) (is_body (types m) (paths m) body) (priority_is priority p.0 (first list f m priority (more body none) in_parts))
        (block_is body (first list f m body none (rest list f m priority (more body none) in_parts)))
    body_is _ h = refl

    pub hook_is : (x : Tree) → IsFine list f m x → is_hook (types m) (paths m) x ≡ true
    hook_is (node form_is.Hook span (more (row ps) (more body none))) h =
        let in_parts = inside list f m form_is.Hook span (more (row ps) (more body none)) h in
        let behind = rest list f m (row ps) (more body none) in_parts in
        and_from (are_parameters (types m) ps) (is_hook_body (types m) (paths m) body) (parameters_fine list f m ps (first list f m (row ps) (more body none) in_parts))
        (body_is body (first list f m body none behind))
    hook_is _ h = refl

  -- the tree of a hook of a row
  abbrev pub HookWritten : ℕ → Option Tree → Tree → Type 0
  HookWritten m None body = is_hook_body (types m) (paths m) body ≡ true
  HookWritten m (Some hook) body = is_hook (types m) (paths m) hook ≡ true

  abbrev pub RowWritten : HookRow → Type 0
  RowWritten r = HookWritten r.«module» r.hook r.body
