-- What the definitions say of a few statements.
use Rattle.std.specs.Prelude.{◌≡◌, ◌<◌, ◌^◌, true, false, [], ◌∷◌, None, refl}
use Rattle.std.proofs.Common.{arith}
use Rattle.sp_base.specs.declared.places.Span.{Span}
use Rattle.sp_numbers.specs.declared.width.Width.TheVariants.{W8}
use Rattle.sp_value.specs.Val.{bool, void}
use Rattle.sp_methods.specs.Kinds.{Void, Bools, Unsigned, Bytes}
use Rattle.sp_types.specs.declared.words.Word.TheVariants as word_is
use Rattle.sp_types.specs.Types.{Ty, word}
use Rattle.sp_typed.specs.declared.words.LeafOp.TheVariants as leaf_is
use Rattle.sp_typed.specs.declared.words.TwoOp.TheVariants as two_is
use Rattle.sp_typed.specs.declared.stmt_words.BareOp.TheVariants as bare_is
use Rattle.sp_typed.specs.declared.stmt_words.ValuedOp.TheVariants as valued_is
use Rattle.sp_typed.specs.declared.stmt_words.For.{For}
use Rattle.sp_typed.specs.Exprs.{Expr, leaf, two}
use Rattle.sp_typed.specs.Stmts.{Stmt, bare, valued, while_loop}
use Rattle.sp_meaning.specs.Globals.{Globals}
use Rattle.sp_code_meaning.specs.Layouts.{Layout}
use Rattle.sp_code.specs.declared.instr.Instr.TheVariants as does
use Rattle.sp_code.specs.Shapes.{Shape, OfFunction, body_shape, push}
use Rattle.sp_code_programs.specs.exprs.Marked.{mark, constant}
use Rattle.sp_code_programs.specs.units.Code.{stmt_code}
use Rattle.sp_code_programs.specs.units.Bodies.{body_code}
use Rattle.sp_lower_stmt.specs.Literals.{StmtLiteralsFit}
use Rattle.sp_lower_stmt.specs.Added.{each_code, left_code}

abbrev here : Span
here = record { from = 0; to = 0 }

abbrev byte : Ty
byte = word (word_is.Uint W8)

abbrev nothing : Globals
nothing = record { constants = []; labels = []; ranges = [] }

abbrev plain : Layout
plain = record { own = 0; current = 0; offset = None; first = 3 }

abbrev empty : Shape
empty = body_shape None (OfFunction Void) []

abbrev truth : Expr
truth = leaf (record { span = here; ty = word word_is.Bool; op = leaf_is.True })

-- `while ( True ) break;`
abbrev left_at_once : Stmt
left_at_once = while_loop truth (bare (record { span = here; op = bare_is.Break true }))

rounds : stmt_code nothing plain empty 0 0 0 left_at_once ≡ constant empty (bool true) ∷ mark (push Bools empty) (does.JumpNot 5) ∷ mark empty does.Turn ∷ mark empty (does.Jump 5) ∷ mark empty (does.Jump 0) ∷ []
rounds = refl

-- a `continue` outside of a loop, and the end of the body
body : body_code nothing plain empty 7 void Void (bare (record { span = here; op = bare_is.Continue true })) ≡ mark empty (does.Jump 7) ∷ constant empty void ∷ mark (push Void empty) does.Return ∷ []
body = refl

-- what stands round the body of a `for`
abbrev each_byte : For
each_byte = record { slot = 1; name = here; ty = byte; taken = false }

abbrev inside : Shape
inside = push Unsigned (push Bytes empty)

next : each_code nothing plain inside 9 each_byte ≡ mark inside (does.EachNext 11) ∷ mark (push Unsigned inside) (does.Store 4) ∷ []
next = refl

back : left_code (push Bytes empty) 2 ≡ mark inside (does.Jump 2) ∷ mark inside does.Pop ∷ mark (push Bytes empty) does.Pop ∷ []
back = refl

-- `add s[300];` of a set of bytes
abbrev no_byte : Stmt
no_byte =
    valued (record { span = here; op = valued_is.Add None })
    (two (record { span = here; ty = byte; op = two_is.Index }) (leaf (record { span = here; ty = byte; op = leaf_is.Local 0 })) (leaf (record { span = here; ty = byte; op = leaf_is.Number 300 })))

too_large : StmtLiteralsFit no_byte → ⊥
too_large h = let number : 300 < 2 ^ 8 = h.1 in omega (arith, number)
