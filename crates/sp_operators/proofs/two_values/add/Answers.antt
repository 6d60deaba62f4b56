use Rattle.std.proofs.Common.{◌≡◌, Bool, Result, Ok, Err, IfOk, MatchResult, IsTrue, sym, subst}
use Rattle.sp_base.specs.declared.kinds.PKind.{PKind}
use Rattle.sp_value.specs.Val.{Val}
use Rattle.sp_operators.specs.declared.fault.ValueFault.{ValueFault}
use Rattle.sp_operators.specs.declared.fault.ValueFault.TheVariants.{NoMemory}
use Rattle.sp_operators.specs.Outcomes.{Answers}
use Rattle.sp_operators.specs.Operands.{are_joined}
use Rattle.sp_operators.specs.Operators.{added}
use Rattle.sp_operators.proofs.two_values.add.Goals as goal

answers : {E : Type 0} (takes : Bool) (has : Result Val PKind) (found : Result Val E) (r : Result Val ValueFault) → IsTrue takes → IfOk found (λ v. has ≡ Ok v) → MatchResult found (λ v. r ≡ Ok v) (λ _. r ≡ Err NoMemory) → Answers takes has r
answers takes has (Ok v) r t h e = subst (Answers takes has) (sym e) h
answers takes has (Err x) r t h e = subst (Answers takes has) (sym e) t

pub returns-then-are_joined : goal.returns-then-are_joined
returns-then-are_joined c =
    let test = c.are_joined.ensures in
    let is : IsTrue (are_joined c.args.a c.args.b.now) = let t = c.if-are_joined.ensures in cc in
    answers (are_joined c.args.a c.args.b.now) (added c.args.a c.args.b.now) c.appended.result c.joined.result is c.appended.ensures c.joined.ensures
