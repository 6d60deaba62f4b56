-- What a call of a method answers of what the method makes of its operands.
use Rattle.std.specs.Prelude.{◌≡◌, List, [], ◌∷◌, Result, Ok, Err}
use Rattle.sp_value.specs.Val.{Val}
use Rattle.sp_operators.specs.declared.fault.ValueFault.{ValueFault}
use Rattle.sp_operators.specs.declared.fault.ValueFault.TheVariants.{Run, NoMemory}
use Rattle.sp_words.specs.declared.methods.Method.{Method}
use Rattle.sp_methods.specs.Methods.{method}

-- the one value itself, the error itself, or that there was no memory
abbrev pub TellsOne : Method → List Val → Result Val ValueFault → Type 0
TellsOne m vs (Ok value) = method m vs ≡ Ok (value ∷ [])
TellsOne m vs (Err (Run error)) = method m vs ≡ Err error
TellsOne m vs (Err NoMemory) = Unit {0}
