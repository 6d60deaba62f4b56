-- What a call answers of the value or error that its operator has.
use Rattle.std.specs.Prelude.{◌≡◌, Bool, IsTrue, Result, Ok, Err}
use Rattle.sp_base.specs.declared.kinds.PKind.{PKind}
use Rattle.sp_value.specs.Val.{Val}
use Rattle.sp_operators.specs.declared.fault.ValueFault.{ValueFault}
use Rattle.sp_operators.specs.declared.fault.ValueFault.TheVariants.{Run, NoMemory}

-- the value itself, the error itself, or that there was no memory; this last only if the call takes memory
abbrev pub Answers : Bool → Result Val PKind → Result Val ValueFault → Type 0
Answers takes has (Ok value) = has ≡ Ok value
Answers takes has (Err (Run error)) = has ≡ Err error
Answers takes has (Err NoMemory) = IsTrue takes
