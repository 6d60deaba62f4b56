-- Rows on which the definitions are run: a break in no loop, what isn't built, what a body returns, and locals of types that aren't full.
use Rattle.std.specs.Prelude.{◌≡◌, true, false, Option, Some, None, refl}
use Rattle.sp_base.specs.declared.places.Span.{Span}
use Rattle.sp_numbers.specs.declared.width.Width.TheVariants.{W8, W16}
use Rattle.sp_types.specs.declared.words.Word.TheVariants as word_is
use Rattle.sp_types.specs.Types.{Ty, word}
use Rattle.sp_typed.specs.declared.words.LeafOp.TheVariants as leaf_is
use Rattle.sp_typed.specs.declared.words.Written.{Written}
use Rattle.sp_typed.specs.declared.stmt_words.BareOp.TheVariants as bare_is
use Rattle.sp_typed.specs.declared.stmt_words.Local.{Local}
use Rattle.sp_typed.specs.declared.stmt_words.ValuedOp.TheVariants as valued_is
use Rattle.sp_typed.specs.Exprs.{Expr}
use Rattle.sp_typed.specs.Stmts.{Stmt, block, more_stmts, no_stmts, while_loop}
use Rattle.sp_type_context.specs.Typing.{leaf_at}
use Rattle.sp_type_stmts.specs.Statements.{bare_at, valued_at}
use Rattle.sp_law_lists.specs.fit_body.Bodies as returns
use Rattle.sp_law_lists.specs.fit_body.Bodies.{Body}
use Rattle.sp_law_lists.specs.known_statements.Declared.{locals_full_in}
use Rattle.sp_law_lists.specs.known_statements.Ready.{returns_so, local_ready, stmt_ready}

abbrev here : Span
here = record { from = 0; to = 0 }

abbrev byte : Ty
byte = word (word_is.Uint W8)

abbrev fine : Written
fine = record { span = here; unnamed = None; misplaced = None }

abbrev five : Expr
five = leaf_at here byte (leaf_is.TypedNumber 5)

-- `while (True) break;`, and `break;` alone, which is refused where it stands in no loop
abbrev stop : Stmt
stop = bare_at here (bare_is.Break true)

in_loop : (body : Body) (wanted : Option Ty) → stmt_ready body wanted false (while_loop (leaf_at here (word word_is.Bool) leaf_is.True) stop) ≡ true
in_loop body wanted = refl

in_no_loop : (body : Body) (wanted : Option Ty) → stmt_ready body wanted false stop ≡ false
in_no_loop body wanted = refl

refused_elsewhere : (body : Body) (wanted : Option Ty) → stmt_ready body wanted false (bare_at here (bare_is.Break false)) ≡ true
refused_elsewhere body wanted = refl

-- `confirm;` isn't built
not_built : (body : Body) (wanted : Option Ty) → stmt_ready body wanted false (block (more_stmts (bare_at here (bare_is.Confirm true)) no_stmts)) ≡ false
not_built body wanted = refl

-- `local x = uint8(5);`, and `local x: uint16 = uint8(5);`, whose value is to be widened
without_type : local_ready None byte five ≡ true
without_type = refl

not_widened : local_ready (Some fine) (word (word_is.Uint W16)) five ≡ false
not_widened = refl

-- what a hook returns isn't wanted
hook_row : returns_so (returns.Hook false) (Some byte) ≡ false
hook_row = refl

-- a local of a type, in a loop without a value, and with one
abbrev local : Ty → Local
local t = record { slot = 0; name = here; ty = t; written = None; taken = false }

abbrev looped : Ty → Stmt
looped t = while_loop (leaf_at here (word word_is.Bool) leaf_is.True) (bare_at here (bare_is.Local (local t)))

full_local : locals_full_in (looped byte) ≡ true
full_local = refl

unknown_local : locals_full_in (looped (word word_is.Unknown)) ≡ false
unknown_local = refl

unknown_value : locals_full_in (valued_at here (valued_is.Local (local (word word_is.Unknown))) five) ≡ false
unknown_value = refl
