-- What it is to append the code of an expression or a place, by the shape to which the code before has led and the next address.
use Rattle.std.specs.Prelude.{ℕ, ◌&&◌, List, [], ◌∷◌, length, Option}
use Rattle.sp_words.specs.declared.methods.Method.{Method}
use Rattle.sp_types.specs.Types.{Ty}
use Rattle.sp_typed.specs.declared.words.ManyOp.TheVariants as many_is
use Rattle.sp_meaning_states.specs.Types.{kind_of_type}
use Rattle.sp_typed.specs.declared.heads.Many.{Many}
use Rattle.sp_typed.specs.declared.heads.Three.{Three}
use Rattle.sp_typed.specs.declared.words.TwoOp.{TwoOp}
use Rattle.sp_typed.specs.Exprs.{Expr, Exprs, three, many, more}
use Rattle.sp_code_meaning.specs.Exprs.{gives_result, is_item_place}
use Rattle.sp_code.specs.Shapes.{Shape, push, with_operands}
use Rattle.sp_code.specs.declared.instr.Instr.TheVariants as does
use Rattle.sp_code_programs.specs.exprs.Marked.{Marked, mark}
use Rattle.sp_code_programs.specs.exprs.Code.{keep_code, owner_code, pending_count, under_code, kind_of, kinds_on, pending, two_code, expr_code, exprs_code, receiver_code, load_code, store_code}
use Rattle.sp_code_programs.specs.exprs.Sizes.{expr_size}
use Rattle.sp_emit.specs.Emitted.{Emitted, Adds}
use Rattle.sp_lower_expr.specs.declared.around.Around.{Around}
use Rattle.sp_lower_expr.specs.Around.{globals_in, layout_in}

-- the code of an expression was appended, and has led to where its value is on top
abbrev pub AddsExpr : Around → Emitted → Emitted → Expr → Type 0
AddsExpr x before after e = Adds before after (expr_code (globals_in x) (layout_in x) before.now (length before.marks) e) (push (kind_of (globals_in x) (layout_in x) e) before.now)

-- the code of any number of expressions was appended, and has led to where their values are on top
abbrev pub AddsExprs : Around → Emitted → Emitted → Exprs → Type 0
AddsExprs x before after es =
    Adds before after (exprs_code (globals_in x) (layout_in x) before.now (length before.marks) es)
    (with_operands before.now (kinds_on (globals_in x) (layout_in x) es before.now.operands))

-- the code of a node with two parts was appended, and has led to where it began, without the value
abbrev pub AddsTwo : Around → Emitted → Emitted → TwoOp → Expr → Expr → Type 0
AddsTwo x before after op a b =
    let globals = globals_in x in
    let layout = layout_in x in
    let s = before.now in
    let at = length before.marks in
    Adds before after
    (two_code globals layout s at op (expr_size layout a) (expr_size layout b) (kind_of globals layout a) (kind_of globals layout b) (expr_code globals layout s at a) (λ t n. expr_code globals layout t n b)) s

-- so was that of a choice between two parts
abbrev pub AddsThree : Around → Emitted → Emitted → Three → Expr → Expr → Expr → Type 0
AddsThree x before after h c a b = Adds before after (expr_code (globals_in x) (layout_in x) before.now (length before.marks) (three h c a b)) before.now

-- and that of a node with any number of parts
abbrev pub AddsMany : Around → Emitted → Emitted → Many → Exprs → Type 0
AddsMany x before after h es = Adds before after (expr_code (globals_in x) (layout_in x) before.now (length before.marks) (many h es)) before.now

-- the owner of a member, where it is kept in a local
abbrev pub KeepsOwner : Around → Emitted → Emitted → Option ℕ → Expr → Type 0
KeepsOwner x before after owner a =
    let globals = globals_in x in
    let layout = layout_in x in
    Adds before after (keep_code owner before.now (kind_of globals layout a) (expr_code globals layout before.now (length before.marks) a)) before.now

-- the owner of a member, which is on top
abbrev pub AddsOwner : Around → Emitted → Emitted → Option ℕ → Expr → Type 0
AddsOwner x before after owner a =
    let globals = globals_in x in
    let layout = layout_in x in
    Adds before after (owner_code owner before.now (expr_code globals layout before.now (length before.marks) a)) (push (kind_of globals layout a) before.now)

-- the value of a place, and below it what waits for its store
abbrev pub waiting : Around → Shape → Expr → Shape
waiting x s e = push (kind_of (globals_in x) (layout_in x) e) (pending (globals_in x) (layout_in x) s e)

-- the value of a place, which is on top, and below it what waits
abbrev pub AddsLoad : Around → Emitted → Emitted → Option ℕ → Expr → Type 0
AddsLoad x before after owner e = Adds before after (load_code (globals_in x) (layout_in x) owner before.now (length before.marks) e) (waiting x before.now e)

-- the store of a place, behind which is this shape
abbrev pub AddsStore : Around → Emitted → Emitted → Option ℕ → Shape → Expr → Type 0
AddsStore x before after owner s e = Adds before after (store_code (globals_in x) (layout_in x) owner s (length before.marks) e) s

-- the result of a method went under what waits for the store of its receiver, if anything does
abbrev pub AddsUnder : Around → Emitted → Emitted → Method → Ty → Expr → Type 0
AddsUnder x before after m t r =
    let globals = globals_in x in
    let layout = layout_in x in
    Adds before after (under_code (gives_result m && is_item_place r) (pending_count r) (push (kind_of globals layout r) (push (kind_of_type globals.ranges t) (pending globals layout before.now r)))) before.now

-- the call of a method that changes its receiver, without a look at the shape behind it
abbrev pub AddsChange : Around → Emitted → Emitted → Method → Option ℕ → Ty → Expr → Exprs → Type 0
AddsChange x before after m slot t r es =
    let globals = globals_in x in
    Adds before after (receiver_code globals (layout_in x) before.now (length before.marks) (many_is.Method m slot) (kind_of_type globals.ranges t) (more r es)) before.now

-- an item of a container, with both the container and the key left there
abbrev pub item_code : Around → Shape → Expr → Expr → List Marked
item_code x u a b =
    let j = kind_of (globals_in x) (layout_in x) a in
    let k = kind_of (globals_in x) (layout_in x) b in
    mark u does.Dup ∷ mark (push k (push j u)) does.Index ∷ []
