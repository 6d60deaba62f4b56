-- Two functions, of which one calls the other, and a body of a hook as a program.
use Rattle.std.specs.Prelude.{◌≡◌, ℕ, true, false, List, [], ◌∷◌, Some, None, refl}
use Rattle.std.proofs.Common.{ap, arith}
use Rattle.sp_base.specs.declared.places.Span.{Span}
use Rattle.sp_numbers.specs.declared.width.Width.TheVariants.{W8}
use Rattle.sp_words.specs.declared.operators.AssignOp.TheVariants as assign_is
use Rattle.sp_value.specs.Val.{void, uint}
use Rattle.sp_methods.specs.Kinds.{Kind, Void, Bytes, Unsigned}
use Rattle.sp_types.specs.declared.words.Word.TheVariants as word_is
use Rattle.sp_types.specs.Types.{Ty, word}
use Rattle.sp_typed.specs.declared.words.LeafOp.{LeafOp}
use Rattle.sp_typed.specs.declared.words.LeafOp.TheVariants as leaf_is
use Rattle.sp_typed.specs.declared.words.ManyOp.TheVariants as many_is
use Rattle.sp_typed.specs.declared.words.Standing.TheVariants.{Meant}
use Rattle.sp_typed.specs.declared.stmt_words.ValuedOp.TheVariants as valued_is
use Rattle.sp_typed.specs.Exprs.{Expr, leaf, many, exprs}
use Rattle.sp_typed.specs.Stmts.{Stmt, valued, assign, print, block, stmts}
use Rattle.sp_typed_units.specs.declared.declarations.Function.{Function}
use Rattle.sp_typed_units.specs.declared.declarations.Hook.{Hook}
use Rattle.sp_typed_units.specs.declared.declarations.HookOf.TheVariants as hook_of
use Rattle.sp_typed_units.specs.declared.declarations.Typed.{Typed}
use Rattle.sp_meaning_states.specs.Scopes.{Called}
use Rattle.sp_code.specs.declared.instr.Instr.{Instr}
use Rattle.sp_code.specs.declared.instr.Instr.TheVariants as does
use Rattle.sp_code.specs.Machine.{Body, Plain}
use Rattle.sp_code.specs.Shapes.{Shape, Shapes, OfUnit, OfFunction, OfHook, body_shape, push}
use Rattle.sp_code_programs.specs.exprs.Marked.{Marked, mark}
use Rattle.sp_code_programs.specs.programs.Programs.{bodies_end, IsLaid}

abbrev pub here : Span
here = record { from = 0; to = 0 }

abbrev pub byte : Ty
byte = word (word_is.Uint W8)

abbrev pub leaf_of : Ty → LeafOp → Expr
leaf_of t o = leaf (record { span = here; ty = t; op = o })

abbrev local : Expr
local = leaf_of byte (leaf_is.Local 0)

abbrev return : Expr → Stmt
return e = valued (record { span = here; op = valued_is.Return }) e

-- `function same(x: uint8) : uint8 { return x; }`
abbrev pub same : Function
same =
    record {
      path = [];
      «module» = 0;
      span = here;
      parameters = (record { name = []; span = here; written = record { span = here; unnamed = None; misplaced = None }; ty = byte; inout = false }) ∷ [];
      result = byte;
      written = None;
      slots = [];
      body = return (leaf_of byte (leaf_is.Parameter 0 Meant));
    }

-- `function seven() : uint8 { local y: uint8; y = same(7); return y; }`
abbrev pub seven : Function
seven =
    record {
      path = [];
      «module» = 0;
      span = here;
      parameters = [];
      result = byte;
      written = None;
      slots = byte ∷ [];
      body = block (stmts (assign (record { op = assign_is.Set; owner = None }) local (many (record { span = here; ty = byte; op = many_is.Call 0 }) (exprs (leaf_of byte (leaf_is.Number 7) ∷ []))) ∷ return local ∷ []));
    }

-- `on U::f { print $$; }`, where f is of bytes
abbrev pub shown : Hook
shown =
    record {
      «module» = 0;
      span = here;
      of = hook_of.Field 0 0;
      fits = true;
      parameters = [];
      priority = None;
      rank = None;
      slots = [];
      body = print here (exprs (leaf_of (word word_is.Bytes) (leaf_is.Current Meant) ∷ []));
    }

abbrev pub modules : Typed
modules = record { units = []; functions = same ∷ seven ∷ []; hooks = shown ∷ []; constants = []; enums = []; bitfields = []; aliases = []; conversions = []; orders = [] }

-- the letters of `U::f`
abbrev pub hook_names : List (List ℕ)
hook_names = (85 ∷ 58 ∷ 58 ∷ 102 ∷ []) ∷ []

abbrev pub currents : List Kind
currents = Bytes ∷ []

abbrev in_same : Shape
in_same = body_shape None (OfFunction Unsigned) (Unsigned ∷ [])

abbrev in_seven : Shape
in_seven = body_shape None (OfFunction Unsigned) (Unsigned ∷ [])

abbrev in_hook : Shape
in_hook = body_shape (Some 0) (OfHook false) (Bytes ∷ Unsigned ∷ [])

abbrev pub in_unit : Shape
in_unit = body_shape (Some 0) OfUnit []

-- behind the bodies stands the end of a unit
abbrev pub rest : List Marked
rest = mark in_unit does.LeaveUnit ∷ []

the_bodies_have_15_instructions : bodies_end hook_names currents modules ≡ 15
the_bodies_have_15_instructions = refl

abbrev entry_of_same : Body
entry_of_same = record { start = 0; called = Called.Function; takes = 1; fresh = []; name = []; told = 0 }

-- the entry of the second function, whose local begins as 0, at an address
abbrev entry_of_seven : ℕ → Body
entry_of_seven at = record { start = at; called = Called.Function; takes = 0; fresh = uint W8 0 ∷ []; name = []; told = 0 }

-- the body of the hook takes `$$`, which its event tells, and the offset
abbrev entry_of_hook : Body
entry_of_hook = record { start = 11; called = Called.Hook false; takes = 2; fresh = []; name = 85 ∷ 58 ∷ 58 ∷ 102 ∷ []; told = 1 }

-- a program of these instructions, whose second entry is at an address
abbrev program_of : ℕ → List Instr → Plain
program_of at code =
    record {
      limits = record { turns = 4; depth = 3; fibers = 1 };
      names = record { members = []; labels = []; ranges = [] };
      consts = uint W8 0 ∷ uint W8 7 ∷ void ∷ [];
      bodies = entry_of_same ∷ entry_of_seven at ∷ entry_of_hook ∷ [];
      units = (record { start = 15; ending = 15; failing = 15; keeps = false; takes = 0; members = 1; fresh = [] }) ∷ [];
      code = code;
    }

-- all instructions, of which the first is this
abbrev all_code : Instr → List Instr
all_code first =
    first
    ∷ does.Return
    ∷ does.Const 0
    ∷ does.Return
    ∷ does.Const 1
    ∷ does.Call 0
    ∷ does.Store 0
    ∷ does.Load 0
    ∷ does.Return
    ∷ does.Const 0
    ∷ does.Return
    ∷ does.Load 0
    ∷ does.Print 1
    ∷ does.Const 2
    ∷ does.Return
    ∷ does.LeaveUnit
    ∷ []

abbrev pub program : Plain
program = program_of 4 (all_code (does.Load 0))

-- behind a `return` the shape is that of the beginning of the statement
abbrev pub shapes : Shapes
shapes =
    record {
      at =
          in_same
          ∷ push Unsigned in_same
          ∷ in_same
          ∷ push Unsigned in_same
          ∷ in_seven
          ∷ push Unsigned in_seven
          ∷ push Unsigned in_seven
          ∷ in_seven
          ∷ push Unsigned in_seven
          ∷ in_seven
          ∷ push Unsigned in_seven
          ∷ in_hook
          ∷ push Bytes in_hook
          ∷ in_hook
          ∷ push Void in_hook
          ∷ in_unit
          ∷ [];
      units = (record { parameters = []; members = Bytes ∷ []; locals = [] }) ∷ [];
      bodies = (record { locals = Unsigned ∷ [] }) ∷ (record { locals = Unsigned ∷ [] }) ∷ (record { locals = Bytes ∷ Unsigned ∷ [] }) ∷ [];
    }

pub the_program_is_laid : IsLaid program shapes hook_names currents modules rest
the_program_is_laid =
    record {
      bodies = refl;
      locals = refl;
      code = (refl, (refl, ((0, refl, refl), (refl, ((1, refl, refl), (refl, (refl, (refl, (refl, ((0, refl, refl), (refl, (refl, (refl, ((2, refl, refl), (refl, (refl, tt))))))))))))))));
      before = refl;
    }

abbrev second_start : List Body → ℕ
second_start (a ∷ b ∷ bs) = b.start
second_start bs = 0

-- a program in which an entry is one too low
pub no_entry_is_elsewhere : IsLaid (program_of 3 (all_code (does.Load 0))) shapes hook_names currents modules rest → ⊥
no_entry_is_elsewhere laid = omega (arith, ap second_start laid.bodies)

-- a program that begins with another instruction
pub no_instruction_is_another : IsLaid (program_of 4 (all_code (does.Load 1))) shapes hook_names currents modules rest → ⊥
no_instruction_is_another laid = absurd (let q : does.Load 1 ≡ does.Load 0 = laid.code.0 in cc)
