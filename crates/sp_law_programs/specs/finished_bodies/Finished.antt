-- Bodies whose parts fit and are built of what has a meaning, and the ends that they may have.
use Rattle.std.specs.Prelude.{◌≡◌, ℕ, Bool, true, false, List, ◌++◌, reverse, Option, Some, None, slice_get}
use Rattle.sp_value.specs.Val.{Val}
use Rattle.sp_methods.specs.Kinds.{Kind, Bools, Has}
use Rattle.sp_typed_units.specs.declared.declarations.Function.{Function}
use Rattle.sp_typed_units.specs.declared.declarations.Hook.{Hook}
use Rattle.sp_typed_units.specs.declared.declarations.Typed.{Typed}
use Rattle.sp_meaning_states.specs.States.{End, Gives, Fine, Failed, Broke, Continued, Returned, Result, Ends}
use Rattle.sp_meaning_states.specs.Scopes as called_is
use Rattle.sp_meaning_states.specs.Types.{zero_value}
use Rattle.sp_meaning.specs.Globals.{globals_of}
use Rattle.sp_meaning.specs.Calls.{zero_slots}
use Rattle.sp_code_meaning.specs.Calls.{function_layout, hook_layout}
use Rattle.sp_meaning.specs.Hooks.{is_foreach}
use Rattle.sp_code.specs.Machine.{Plain}
use Rattle.sp_code.specs.Shapes.{Shapes, Round, OfFunction, OfHook, AlwaysHave, Enters, Holds}
use Rattle.sp_law_code.specs.bodies.Fits.{StmtFits}
use Rattle.sp_law_programs.specs.finished_bodies.Built.{StmtIsBuilt}

-- what a part is: an expression of a kind, what puts a value in a place, a statement in a body of this round, such a body, or a body of
-- a hook that is called
pub data Part : Type 0 where
  AnExpression : Kind → Part
  AChange : Part
  AStatement : Round → (in_loop : Bool) → Part
  ABody : Round → Part
  AHook : (each : Bool) → Part

-- a value with which a body returns
abbrev pub IsReturned : List ℕ → Val → Round → Type 0
IsReturned units v (OfFunction k) = Has units k v
IsReturned units v (OfHook each) = Unit {0}
IsReturned units v round = ⊥

-- The ends that a part may have. Each may fail; an expression gives a value of its kind; a statement is fine, returns as its body does,
-- and in a loop breaks or continues; a body returns.
abbrev pub MayEndAs : List ℕ → End → Part → Type 0
MayEndAs units (Failed e) x = Unit {0}
MayEndAs units (Gives v) (AnExpression k) = Has units k v
MayEndAs units (Gives v) (AHook true) = Has units Bools v
MayEndAs units Fine AChange = Unit {0}
MayEndAs units Fine (AStatement round in_loop) = Unit {0}
MayEndAs units Fine (AHook false) = Unit {0}
MayEndAs units Broke (AStatement round in_loop) = in_loop ≡ true
MayEndAs units Continued (AStatement round in_loop) = in_loop ≡ true
MayEndAs units (Returned v) (AStatement round in_loop) = IsReturned units v round
MayEndAs units (Returned v) (ABody round) = IsReturned units v round
MayEndAs units how x = ⊥

module _ (p : Plain) (shapes : Shapes) where
  -- a part ends as it may, in a state in which values have their kinds
  abbrev pub EndsAs : List ℕ → Option ℕ → List Kind → Part → Result → Type 0
  EndsAs units u ls x (Ends how es st) = MayEndAs units how x × Holds p shapes units u ls st

  -- a function that is called with values of these kinds and gives one of this kind: its slots begin with values of their kinds, and
  -- its body fits and is built of what has a meaning
  pub record FunctionFits (list : Typed) (x : Function) (ins : List Kind) (k : Kind) : Type 0 where
    pub slots : List Kind
    pub fresh : AlwaysHave slots (zero_slots (globals_of list).ranges x.slots)
    pub ending : (units : List ℕ) → Has units k (zero_value (globals_of list).ranges x.result)
    pub body : StmtFits p shapes (globals_of list) (function_layout x) (reverse ins ++ slots) None (OfFunction k) false x.body
    pub built : StmtIsBuilt (globals_of list) list.functions x.body

  -- so is a body of a hook that is handed values of these kinds, in a unit
  pub record HookFits (list : Typed) (x : Hook) (u : Option ℕ) (ins : List Kind) : Type 0 where
    pub slots : List Kind
    pub fresh : AlwaysHave slots (zero_slots (globals_of list).ranges x.slots)
    pub body : StmtFits p shapes (globals_of list) (hook_layout x) (reverse ins ++ slots) u (OfHook (is_foreach x.of)) false x.body
    pub built : StmtIsBuilt (globals_of list) list.functions x.body

  -- each function of the list fits as it is called
  abbrev pub FunctionsFit : Typed → Type 0
  FunctionsFit list =
      (f : ℕ) (x : Function) (ins : List Kind) (k : Kind) → slice_get list.functions f ≡ Some x → Enters p shapes f None called_is.Called.Function (OfFunction k) ins →
      FunctionFits list x ins k
