-- The test of a statement, as a definition that computes.
use Rattle.std.specs.Prelude.{ℕ, ◌+◌, Bool, true, false, ◌&&◌, Option}
use Rattle.sp_words.specs.declared.operators.BinaryOp.TheVariants as op_is
use Rattle.sp_words.specs.declared.operators.AssignOp.{AssignOp}
use Rattle.sp_words.specs.declared.operators.AssignOp.TheVariants as assign_is
use Rattle.sp_types.specs.declared.words.Word.TheVariants as word_is
use Rattle.sp_types.specs.declared.words.Maker.TheVariants as maker_is
use Rattle.sp_types.specs.Types.{Ty, Tys, word, made, same}
use Rattle.sp_types.specs.Types as types
use Rattle.sp_typed.specs.declared.words.TwoOp.{TwoOp}
use Rattle.sp_typed.specs.declared.words.TwoOp.TheVariants as two_is
use Rattle.sp_typed.specs.declared.stmt_words.BareOp.{BareOp}
use Rattle.sp_typed.specs.declared.stmt_words.BareOp.TheVariants as bare_is
use Rattle.sp_typed.specs.declared.stmt_words.ValuedOp.{ValuedOp}
use Rattle.sp_typed.specs.declared.stmt_words.ValuedOp.TheVariants as valued_is
use Rattle.sp_typed.specs.Exprs.{Expr, Exprs, two, none, more, type_of}
use Rattle.sp_typed.specs.Stmts.{Stmt, Stmts, Branches, Cases, bare, valued, assign, print, block, branch, while_loop, for_loop, switch, no_stmts, more_stmts, no_branches, more_branches, no_cases, more_cases}
use Rattle.sp_code_meaning.specs.Exprs.{slot_local}
use Rattle.sp_law_lists.specs.fit_expr.Around.{Around}
use Rattle.sp_law_lists.specs.fit_expr.Sorts.{Void, Bools, Unsigned, Text, sort_of, takes}
use Rattle.sp_law_lists.specs.fit_expr.Lists.{part_is}
use Rattle.sp_law_lists.specs.fit_expr.Test.{is_sort, local_is, expr_passes, exprs_pass, place_passes}
use Rattle.sp_law_lists.specs.fit_body.Bodies.{Returns, Body}
use Rattle.sp_law_lists.specs.fit_body.Bodies as returns

-- the members of a tuple are the first two of these parts
abbrev pub are_two : Tys → Tys → Bool
are_two ts (types.more j (types.more k types.none)) = part_is ts 0 j && part_is ts 1 k
are_two ts us = false

abbrev pub is_pair : Tys → Ty → Bool
is_pair ts (made maker_is.Tuple us) = are_two ts us
is_pair ts t = false

-- a `for` over values of a type has values of another
abbrev pub goes_over : Ty → Ty → Bool
goes_over (word word_is.Bytes) t = is_sort t Unsigned
goes_over (made maker_is.Vector ts) t = part_is ts 0 t
goes_over (made maker_is.Set ts) t = part_is ts 0 t
goes_over (made maker_is.Map ts) t = is_pair ts t
goes_over s t = false

-- a set of keys of a type
abbrev pub set_of : Ty → Ty → Bool
set_of (made maker_is.Set ts) t = part_is ts 0 t
set_of c t = false

-- a set or a map with such keys
abbrev pub keyed_by : Ty → Ty → Bool
keyed_by (made maker_is.Set ts) t = part_is ts 0 t
keyed_by (made maker_is.Map ts) t = part_is ts 0 t
keyed_by c t = false

-- a key that is put into a container, or is taken from there
abbrev pub is_key : (added : Bool) → Ty → Ty → Bool
is_key true c t = set_of c t
is_key false c t = keyed_by c t

-- values of two types that are equal or not
abbrev pub equals : Ty → Ty → Bool
equals a b = takes op_is.Equal (sort_of a) (sort_of b) Bools

-- a value that is assigned to a target
abbrev pub assigns : AssignOp → Ty → Ty → Bool
assigns assign_is.Set t u = same t u
assigns assign_is.Add t u = takes op_is.Add (sort_of t) (sort_of u) (sort_of t)
assigns assign_is.Subtract t u = takes op_is.Subtract (sort_of t) (sort_of u) (sort_of t)

-- a body returns nothing, or a value of a type; what that of a hook returns is dropped
abbrev pub returns_nothing : Returns → Bool
returns_nothing (returns.Function t) = is_sort t Void
returns_nothing (returns.Hook each) = true

abbrev pub returns_value : Returns → Ty → Bool
returns_value (returns.Function t) u = same t u
returns_value (returns.Hook each) u = true

abbrev pub is_index : TwoOp → Bool
is_index two_is.Index = true
is_index op = false

-- in what stands round the expressions of a body
module _ (around : Around) where
  -- a slot of a type
  abbrev pub slot_is : ℕ → Ty → Bool
  slot_is s t = local_is around (around.places.first + s) t

  -- a test
  abbrev pub test_passes : Expr → Bool
  test_passes e = expr_passes around e && is_sort (type_of e) Bools

  -- a key of a container that stands in a place, by the local in which the owner of that is kept
  abbrev pub key_passes : (added : Bool) → Option ℕ → Expr → Bool
  key_passes added owner (two h a b) = place_passes around owner a && expr_passes around b && is_index h.op && is_key added (type_of a) (type_of b)
  key_passes added owner e = false

  -- the values of a case, over a subject of a type
  abbrev pub values_pass : Ty → Exprs → Bool
  values_pass t none = true
  values_pass t (more e es) = expr_passes around e && equals t (type_of e) && values_pass t es

module _ (body : Body) where
  -- a statement without parts, in a loop or in none
  abbrev pub bare_passes : (in_loop : Bool) → BareOp → Bool
  bare_passes in_loop (bare_is.Local l) = slot_is body.around l.slot l.ty
  bare_passes in_loop bare_is.Return = returns_nothing body.returns
  bare_passes in_loop (bare_is.Break meant) = in_loop
  bare_passes in_loop (bare_is.Continue meant) = in_loop
  bare_passes in_loop op = false

  -- one with an expression
  abbrev pub valued_passes : ValuedOp → Expr → Bool
  valued_passes (valued_is.Local l) e = expr_passes body.around e && slot_is body.around l.slot (type_of e)
  valued_passes valued_is.Return e = expr_passes body.around e && returns_value body.returns (type_of e)
  valued_passes valued_is.Throw e = expr_passes body.around e && is_sort (type_of e) Text
  valued_passes (valued_is.Assert text) e = test_passes body.around e
  valued_passes (valued_is.Add owner) e = key_passes body.around true (slot_local body.around.places owner) e
  valued_passes (valued_is.Delete owner) e = key_passes body.around false (slot_local body.around.places owner) e
  valued_passes valued_is.Expr e = expr_passes body.around e

  abbrev mutual
    -- a statement passes, in a loop or in none
    pub stmt_passes : (in_loop : Bool) → Stmt → Bool
    stmt_passes in_loop (bare h) = bare_passes in_loop h.op
    stmt_passes in_loop (valued h e) = valued_passes h.op e
    stmt_passes in_loop (assign h target e) =
        place_passes body.around (slot_local body.around.places h.owner) target && expr_passes body.around e && assigns h.op (type_of target) (type_of e)
    stmt_passes in_loop (print at es) = exprs_pass body.around es
    stmt_passes in_loop (block ss) = stmts_pass in_loop ss
    stmt_passes in_loop (branch bs b) = branches_pass in_loop bs && stmt_passes in_loop b
    stmt_passes in_loop (while_loop e b) = test_passes body.around e && stmt_passes true b
    stmt_passes in_loop (for_loop h e b) =
        expr_passes body.around e && goes_over (type_of e) h.ty && slot_is body.around h.slot h.ty && stmt_passes true b
    stmt_passes in_loop (switch slot e cs b) =
        expr_passes body.around e && slot_is body.around slot (type_of e) && cases_pass in_loop (type_of e) cs && stmt_passes in_loop b

    pub stmts_pass : (in_loop : Bool) → Stmts → Bool
    stmts_pass in_loop no_stmts = true
    stmts_pass in_loop (more_stmts b ss) = stmt_passes in_loop b && stmts_pass in_loop ss

    pub branches_pass : (in_loop : Bool) → Branches → Bool
    branches_pass in_loop no_branches = true
    branches_pass in_loop (more_branches e b bs) = test_passes body.around e && stmt_passes in_loop b && branches_pass in_loop bs

    -- cases over a subject of a type
    pub cases_pass : (in_loop : Bool) → Ty → Cases → Bool
    cases_pass in_loop t no_cases = true
    cases_pass in_loop t (more_cases es b cs) = values_pass body.around t es && stmt_passes in_loop b && cases_pass in_loop t cs
