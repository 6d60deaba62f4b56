-- What has been emitted: code with the shape before each instruction, the shape to which it has led, and the kinds by their numbers.
use Rattle.std.specs.Prelude.{◌≡◌, ◌<◌, ◌-◌, ℕ, zero, suc, List, [], ◌∷◌, ◌++◌, length, drop, slice_get, unwrap_or, None}
use Rattle.sp_value.specs.Val.{Val, void}
use Rattle.sp_methods.specs.Kinds.{Kind}
use Rattle.sp_code.specs.declared.instr.Instr.{Instr}
use Rattle.sp_code.specs.declared.instr.Instr.TheVariants.{Const}
use Rattle.sp_code.specs.Shapes.{Shape, OfUnit, with_operands, body_shape}
use Rattle.sp_code_programs.specs.exprs.Marked.{Marked, mark, constant}
use Rattle.sp_emit.specs.Kinds.{Grows}

-- the code, in which a constant is written as its value; the shape behind it; and the kinds
pub record Emitted : Type 0 where
  pub marks : List Marked
  pub now : Shape
  pub kinds : List Kind

-- before the first instruction
abbrev pub nothing_emitted : Emitted
nothing_emitted = record { marks = []; now = body_shape None OfUnit []; kinds = [] }

-- code was appended, and has led to a shape
pub record Adds (before after : Emitted) (ms : List Marked) (s : Shape) : Type 0 where
  pub marks : after.marks ≡ before.marks ++ ms
  pub now : after.now ≡ s
  pub kinds : Grows before.kinds after.kinds

-- no code was appended, and the shape is another
pub record TurnsTo (before after : Emitted) (s : Shape) : Type 0 where
  pub marks : after.marks ≡ before.marks
  pub now : after.now ≡ s
  pub kinds : Grows before.kinds after.kinds

-- code with another instruction at an address, before which the shape stays
abbrev pub redirected : List Marked → ℕ → Instr → List Marked
redirected [] n i = []
redirected (m ∷ ms) zero i = mark m.before i ∷ ms
redirected (m ∷ ms) (suc n) i = m ∷ redirected ms n i

-- an instruction was put in place of the one at an address
pub record Redirects (before after : Emitted) (at : ℕ) (i : Instr) : Type 0 where
  pub marks : after.marks ≡ redirected before.marks at i
  pub now : after.now ≡ before.now
  pub kinds : after.kinds ≡ before.kinds

-- what stands below the top
abbrev pub below_top : List Kind → List Kind
below_top [] = []
below_top (k ∷ ks) = ks

-- the last operand is gone
abbrev pub popped : Shape → Shape
popped s = with_operands s (below_top s.operands)

-- the lowest of so many
abbrev pub lowest : ℕ → List Kind → List Kind
lowest n ks = drop (length ks - n) ks

-- only so many operands are left
abbrev pub lowered : ℕ → Shape → Shape
lowered n s = with_operands s (lowest n s.operands)

-- an instruction that gives no constant
abbrev pub IsOther : Instr → Type 0
IsOther (Const c) = ⊥
IsOther i = Unit {0}

-- a constant by its number
abbrev pub value_at : List Val → ℕ → Val
value_at vs n = unwrap_or (slice_get vs n) void

-- an instruction as code to be, where these are the constants
abbrev pub marked : List Val → Shape → Instr → Marked
marked vs s (Const c) = constant s (value_at vs c)
marked vs s i = mark s i

-- the constant that an instruction gives is one of so many
abbrev pub ConstantBelow : ℕ → Instr → Type 0
ConstantBelow n (Const c) = c < n
ConstantBelow n i = Unit {0}
