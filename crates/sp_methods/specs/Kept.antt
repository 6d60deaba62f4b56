-- Methods keep to their kinds.
use Rattle.std.specs.Prelude.{ℕ, List, IsTrue, Result, Ok, Err}
use Rattle.sp_base.specs.declared.kinds.PKind.{PKind}
use Rattle.sp_value.specs.Val.{Val}
use Rattle.sp_words.specs.declared.methods.Method.{Method}
use Rattle.sp_methods.specs.Kinds.{Kind, Have}
use Rattle.sp_methods.specs.Methods.{method, suits, IsMethod}

-- the values that are given are of these kinds
abbrev pub Gives : List ℕ → List Kind → Result (List Val) PKind → Type 0
Gives units ks (Ok vs) = Have units ks vs
Gives units ks (Err error) = Unit {0}

-- operands of the kinds that a method takes suit it, and what it gives is of the kinds that it gives
abbrev pub MethodsKeepToTheirKinds : Type 0
MethodsKeepToTheirKinds = (units : List ℕ) (m : Method) (takes gives : List Kind) (vs : List Val) → IsMethod m takes gives → Have units takes vs →
    IsTrue (suits m vs) × Gives units gives (method m vs)
