-- What it is to emit the code of what changes a place. Each leads to where it began.
use Rattle.std.specs.Prelude.{ℕ, length, Option}
use Rattle.sp_words.specs.declared.operators.BinaryOp.{BinaryOp}
use Rattle.sp_typed.specs.Exprs.{Expr}
use Rattle.sp_code.specs.declared.instr.Instr.{Instr}
use Rattle.sp_code_programs.specs.exprs.Sizes.{expr_size}
use Rattle.sp_code_programs.specs.exprs.Code.{kind_of, expr_code, put_code, update_code, key_code}
use Rattle.sp_emit.specs.Emitted.{Emitted, Adds}
use Rattle.sp_lower_expr.specs.declared.around.Around.{Around}
use Rattle.sp_lower_expr.specs.Around.{globals_in, layout_in}

-- `t = e`
abbrev pub AddsPut : Around → Emitted → Emitted → Option ℕ → Expr → Expr → Type 0
AddsPut x before after owner target e =
    let globals = globals_in x in
    let layout = layout_in x in
    Adds before after (put_code globals layout owner before.now (length before.marks) target (kind_of globals layout e) (expr_size layout e) (λ t n. expr_code globals layout t n e)) before.now

-- `t o= e`
abbrev pub AddsUpdate : Around → Emitted → Emitted → Option ℕ → Expr → BinaryOp → Expr → Type 0
AddsUpdate x before after owner target o e =
    let globals = globals_in x in
    let layout = layout_in x in
    Adds before after (update_code globals layout owner before.now (length before.marks) target o (kind_of globals layout e) (expr_size layout e) (λ t n. expr_code globals layout t n e)) before.now

-- `add s[k]` and `delete s[k]`, by the instruction
abbrev pub AddsKey : Around → Emitted → Emitted → Option ℕ → Expr → Instr → Type 0
AddsKey x before after owner target i = Adds before after (key_code (globals_in x) (layout_in x) owner before.now (length before.marks) target i) before.now
