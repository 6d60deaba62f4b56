-- The heights of bodies with loops, code that leads back without a turn, a program that turns, and where the code of a unit leads.
use Rattle.std.specs.Prelude.{◌≡◌, ℕ, ◌+◌, true, false, List, [], ◌∷◌, ◌++◌, length, Some, None, refl}
use Rattle.std.proofs.Common.{arith}
use Rattle.sp_base.specs.declared.places.Span.{Span}
use Rattle.sp_numbers.specs.declared.width.Width.TheVariants.{W8}
use Rattle.sp_words.specs.declared.words.HookName.TheVariants.{Error}
use Rattle.sp_value.specs.Val.{void, bytes}
use Rattle.sp_methods.specs.Kinds.{Void}
use Rattle.sp_types.specs.declared.words.Word.TheVariants as word_is
use Rattle.sp_types.specs.Types.{Ty, word}
use Rattle.sp_typed.specs.declared.words.LeafOp.{LeafOp}
use Rattle.sp_typed.specs.declared.words.LeafOp.TheVariants as leaf_is
use Rattle.sp_typed.specs.declared.stmt_words.BareOp.TheVariants as bare_is
use Rattle.sp_typed.specs.Exprs.{Expr, leaf, none}
use Rattle.sp_typed.specs.Stmts.{Stmt, bare, print, block, branch, while_loop, for_loop, stmts, no_branches, more_branches}
use Rattle.sp_typed_units.specs.declared.declarations.Hook.{Hook}
use Rattle.sp_typed_units.specs.declared.declarations.HookOf.{HookOf}
use Rattle.sp_typed_units.specs.declared.declarations.HookOf.TheVariants as hook_of
use Rattle.sp_typed_units.specs.declared.declarations.MemberKind.TheVariants as member_is
use Rattle.sp_typed_units.specs.declared.declarations.Typed.{Typed}
use Rattle.sp_typed_units.specs.declared.declarations.Unit.{Unit as TypedUnit}
use Rattle.sp_typed_units.specs.declared.readings.ReadOp.TheVariants as read_is
use Rattle.sp_typed_units.specs.Specs.{read}
use Rattle.sp_typed_units.specs.Parts.{field}
use Rattle.sp_meaning.specs.Globals.{Globals}
use Rattle.sp_code_meaning.specs.Layouts.{Layout}
use Rattle.sp_code.specs.declared.instr.Instr.{Instr}
use Rattle.sp_code.specs.declared.instr.Instr.TheVariants as does
use Rattle.sp_code.specs.Machine.{Plain}
use Rattle.sp_code.specs.Shapes.{Shape, OfFunction, body_shape}
use Rattle.sp_code.specs.Turns.{Turns}
use Rattle.sp_code_programs.specs.exprs.Marked.{Marked, mark, HasAt}
use Rattle.sp_code_programs.specs.units.Code.{stmt_code}
use Rattle.sp_code_programs.specs.units.Bodies.{body_code}
use Rattle.sp_code_programs.specs.units.Units.{unit_code, ending_code, failing_code}
use Rattle.sp_law_code.specs.turns.Loops.{KeepsToLoops}
use Rattle.sp_law_code.specs.turns.Falling.{leads_to, HaveHeights, AllFall, AreAtMost, AllTurn}
use Rattle.sp_law_code.specs.turns.Heights.{stmt_heights, body_heights}

abbrev here : Span
here = record { from = 0; to = 0 }

abbrev leaf_of : Ty → LeafOp → Expr
leaf_of t o = leaf (record { span = here; ty = t; op = o })

abbrev holds : Expr
holds = leaf_of (word word_is.Bool) leaf_is.True

abbrev some_bytes : Expr
some_bytes = leaf_of (word word_is.Bytes) (leaf_is.Bytes (1 ∷ []))

abbrev breaks : Stmt
breaks = bare (record { span = here; op = bare_is.Break true })

abbrev continues : Stmt
continues = bare (record { span = here; op = bare_is.Continue true })

abbrev says : Stmt
says = print here none

abbrev nothing : Stmt
nothing = block (stmts [])

-- `while (True) { if (True) break; print; }`
abbrev loop : Stmt
loop = while_loop holds (block (stmts (branch (more_branches holds breaks no_branches) nothing ∷ says ∷ [])))

-- `for (x in b"\x01") continue;`
abbrev walk : Stmt
walk = for_loop (record { slot = 0; name = here; ty = word (word_is.Uint W8); taken = false }) some_bytes continues

abbrev globals : Globals
globals = record { constants = []; labels = []; ranges = [] }

abbrev layout : Layout
layout = record { own = 0; current = 0; offset = None; first = 0 }

abbrev shape : Shape
shape = body_shape None (OfFunction Void) []

abbrev code_of : ℕ → Stmt → List Marked
code_of pc b = body_code globals layout shape pc void Void b

abbrev all_lead : ℕ → List Marked → List (List ℕ)
all_lead pc [] = []
all_lead pc (m ∷ ms) = leads_to m.wanted pc ∷ all_lead (pc + 1) ms

-- the test of a loop leads out and to the turn, and what stands behind the body leads back to the test
loop_leads : all_lead 0 (stmt_code globals layout shape 0 0 0 loop) ≡ (1 ∷ []) ∷ (9 ∷ 2 ∷ []) ∷ [] ∷ (4 ∷ []) ∷ (7 ∷ 5 ∷ []) ∷ (9 ∷ []) ∷ (7 ∷ []) ∷ (8 ∷ []) ∷ (0 ∷ []) ∷ []
loop_leads = refl

loop_heights : stmt_heights layout 0 loop ≡ 3 ∷ 2 ∷ 1 ∷ 9 ∷ 8 ∷ 7 ∷ 6 ∷ 5 ∷ 4 ∷ []
loop_heights = refl

-- what takes the next element counts the turn, so it leads only out
walk_leads : all_lead 0 (stmt_code globals layout shape 0 0 0 walk) ≡ (1 ∷ []) ∷ (2 ∷ []) ∷ (8 ∷ []) ∷ (4 ∷ []) ∷ (2 ∷ []) ∷ (2 ∷ []) ∷ (7 ∷ []) ∷ (8 ∷ []) ∷ []
walk_leads = refl

walk_heights : stmt_heights layout 0 walk ≡ 8 ∷ 7 ∷ 3 ∷ 6 ∷ 5 ∷ 4 ∷ 2 ∷ 1 ∷ []
walk_heights = refl

body_has_two_more : body_heights layout walk ≡ 10 ∷ 9 ∷ 5 ∷ 8 ∷ 7 ∷ 6 ∷ 4 ∷ 3 ∷ 2 ∷ 1 ∷ []
body_has_two_more = refl

loop_keeps : KeepsToLoops false loop
loop_keeps = (((refl, tt), tt), (tt, tt))

walk_keeps : KeepsToLoops false walk
walk_keeps = refl

-- a break in no loop leads back to where the body begins
break_leads_back : all_lead 0 (code_of 0 breaks) ≡ (0 ∷ []) ∷ (2 ∷ []) ∷ [] ∷ []
break_leads_back = refl

break_is_in_no_loop : KeepsToLoops false breaks → ⊥
break_is_in_no_loop e = absurd (let q : false ≡ true = e in cc)

-- a turn, and a jump back to it
turn_and_back : AllTurn 0 (mark shape does.Turn ∷ mark shape (does.Jump 0) ∷ [])
turn_and_back = record { heights = 0 ∷ 1 ∷ []; count = refl; low = (omega arith, (omega arith, tt)); fall = λ height have. (tt, ((omega (arith, have.0, have.1.0), tt), tt)) }

three_is_above_two : AreAtMost 2 (0 ∷ 3 ∷ []) → ⊥
three_is_above_two low = omega (arith, low.1.0)

-- code that leads out of itself doesn't turn by itself, for what stands behind it may lead back
one_that_leads_out : AllTurn 0 (mark shape does.Pop ∷ []) → ⊥
one_that_leads_out x = by_heights x.heights x.count x.fall
  where
    by_heights : (hs : List ℕ) → length hs ≡ 1 → ((height : ℕ → ℕ) → HaveHeights height 0 hs → AllFall height 0 (mark shape does.Pop ∷ [])) → ⊥
    by_heights [] n fall = omega (arith, n)
    by_heights (h ∷ []) n fall = let l = (fall (λ pc. h) (refl, tt)).0.0 in omega (arith, l)
    by_heights (h ∷ k ∷ ks) n fall = omega (arith, n)

abbrev program : List Instr → Plain
program code =
    record {
      limits = record { turns = 9; depth = 9; fibers = 9 };
      names = record { members = []; labels = []; ranges = [] };
      consts = bytes (1 ∷ []) ∷ void ∷ [];
      bodies = [];
      units = [];
      code = code;
    }

-- so a program that has its code never counts a turn
abbrev back : List Instr
back = does.Jump 0 ∷ does.Const 1 ∷ does.Return ∷ []

back_is_its_code : HasAt (program back) 0 (code_of 0 breaks)
back_is_its_code = (does.Jump 0, refl, refl, (does.Const 1, refl, (1, refl, refl), (does.Return, refl, refl, tt)))

back_has_no_heights : Turns (program back) → ⊥
back_has_no_heights t = omega (arith, (t.falls 0).0)

-- a program of two bodies, one behind the other
abbrev two_bodies : List Marked
two_bodies = code_of 0 walk ++ code_of 10 nothing

abbrev both : Plain
both =
    program (
    does.Const 0 ∷ does.EachStart ∷ does.EachNext 8 ∷ does.Store 0 ∷ does.Jump 2 ∷ does.Jump 2 ∷ does.Pop ∷ does.Pop ∷ does.Const 1 ∷ does.Return ∷ does.Const 1 ∷ does.Return ∷ []
    )

both_are_all : length both.code ≡ length two_bodies
both_are_all = refl

both_stand : HasAt both 0 two_bodies
both_stand = (does.Const 0, refl, (0, refl, refl), (does.EachStart, refl, refl, (does.EachNext 8, refl, refl, (does.Store 0, refl, refl, (does.Jump 2, refl, refl, (does.Jump 2, refl, refl, (does.Pop, refl, refl, (does.Pop, refl, refl, (does.Const 1, refl, (1, refl, refl), (does.Return, refl, refl, (does.Const 1, refl, (1, refl, refl), (does.Return, refl, refl, tt))))))))))))

-- `type One = unit { a: uint8; var b: uint8; };` with a body of a hook of its field, and one of its `%error`
abbrev byte : Ty
byte = word (word_is.Uint W8)

abbrev unit_of_one : TypedUnit
unit_of_one =
    record {
      path = [];
      «module» = 0;
      span = here;
      public = true;
      parameters = [];
      members = record { name = []; kind = member_is.Field; ty = byte } ∷ record { name = []; kind = member_is.Variable; ty = byte } ∷ [];
      variables = record { member = 1; span = here; written = record { span = here; unnamed = None; misplaced = None }; taken = false; value = None } ∷ [];
      sinks = [];
      parts =
          field (record { span = here; member = Some 0; taken = false; ty = byte; spec = read (record { span = here; ty = byte; op = read_is.Int }); attributes = []; condition = None; sink = None; hooks = 0 ∷ [] })
          ∷ [];
      orders = [];
      filter = false;
      uses_input = false;
      connects_filter = false;
    }

abbrev hook_of_one : HookOf → Hook
hook_of_one of = record { «module» = 0; span = here; of = of; fits = true; parameters = []; priority = None; rank = None; slots = []; body = nothing }

abbrev list_of_one : Typed
list_of_one =
    record {
      units = unit_of_one ∷ [];
      functions = [];
      hooks = hook_of_one (hook_of.Field 0 0) ∷ hook_of_one (hook_of.Unit 0 Error) ∷ [];
      constants = [];
      enums = [];
      bitfields = [];
      aliases = [];
      conversions = [];
      orders = [];
    }

-- each instruction leads to the next one, but for those that call a body of a hook and that leave the unit
parts_lead_on : all_lead 2 (unit_code list_of_one 2 0 unit_of_one) ≡ (3 ∷ []) ∷ (4 ∷ []) ∷ (5 ∷ []) ∷ (6 ∷ []) ∷ (7 ∷ []) ∷ (8 ∷ []) ∷ (9 ∷ []) ∷ (10 ∷ []) ∷ (11 ∷ []) ∷ (12 ∷ []) ∷ (13 ∷ []) ∷ (14 ∷ []) ∷ (15 ∷ []) ∷ [] ∷ [] ∷ []
parts_lead_on = refl

what_is_behind_them_leaves : all_lead 17 (ending_code list_of_one 0) ≡ [] ∷ []
what_is_behind_them_leaves = refl

failing_calls_and_leaves : all_lead 18 (failing_code list_of_one 0) ≡ [] ∷ [] ∷ []
failing_calls_and_leaves = refl
