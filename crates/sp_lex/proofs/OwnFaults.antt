-- A token has at most one fault of its own, with a number below that of its level.
use Rattle.std.proofs.Common.{◌≡◌, ℕ, ◌≤◌, inl, inr, List, ap, arith}
use Rattle.sp_base.specs.Kinds.{module_kind_number}
use Rattle.sp_base.specs.declared.kinds.MKind.{MKind}
use Rattle.sp_lex.specs.Faults.{IsOwnFault, IsTokenFault}
use Rattle.sp_lex.specs.declared.kinds.TokenKind.{TokenKind}
use Rattle.sp_lex.specs.declared.kinds.TokenKind.TheVariants as token_kind
use Rattle.sp_lex.specs.declared.nesting.Nesting.{Nesting}
use Rattle.sp_lex.specs.declared.tokens.Token.{Token}

abbrev own_number : TokenKind → ℕ
own_number token_kind.Number = 15
own_number token_kind.Regex = 17
own_number _ = 0

own_fault_number : (kind : TokenKind) (bytes : List ℕ) (m : MKind) → IsOwnFault kind bytes m → module_kind_number m ≡ own_number kind
own_fault_number token_kind.Number bytes m h = ap module_kind_number h.0
own_fault_number token_kind.Regex bytes m h = ap module_kind_number h.0
own_fault_number _ bytes m h = absurd h

own_number_low : (kind : TokenKind) → own_number kind ≤ 31
own_number_low token_kind.Number = omega arith
own_number_low token_kind.Regex = omega arith
own_number_low _ = omega arith

pub own_fault_least : (bytes : List ℕ) (nesting : Nesting) (token : Token) (m k : MKind) → IsOwnFault token.kind bytes m → IsTokenFault bytes nesting token k → module_kind_number m ≤ module_kind_number k
own_fault_least bytes nesting token m k h (inl own) =
    let a = own_fault_number token.kind bytes m h in
    let b = own_fault_number token.kind bytes k own in
    omega (arith, a, b)
own_fault_least bytes nesting token m k h (inr deep) =
    let a = own_fault_number token.kind bytes m h in
    let b : module_kind_number k ≡ 31 = ap module_kind_number deep.0 in
    omega (arith, a, own_number_low token.kind)
