-- What a call of the library answers of the value or error that its method has.
use Rattle.std.specs.Prelude.{◌≡◌, Result, Ok, Err}
use Rattle.sp_base.specs.declared.kinds.PKind.{PKind}
use Rattle.sp_operators.specs.declared.fault.ValueFault.{ValueFault}
use Rattle.sp_operators.specs.declared.fault.ValueFault.TheVariants.{Run, NoMemory}

-- the value itself, the error itself, or that there was no memory; `of` is what the model makes of the answered value
abbrev pub Tells : {A B : Type 0} → (A → B) → Result B PKind → Result A ValueFault → Type 0
Tells of has (Ok x) = has ≡ Ok (of x)
Tells of has (Err (Run error)) = has ≡ Err error
Tells of has (Err NoMemory) = Unit {0}
