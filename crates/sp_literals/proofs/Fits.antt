-- The bytes of a token, and a number that fits.
use Rattle.std.proofs.Common.{◌≡◌, ℕ, ◌-◌, ◌^◌, ◌<◌, ◌≤◌, List, length, take, drop, Option, Some, None, arith, subst, refl, length-drop}
use Rattle.std.specs.Prelude.{IfNone, IsSome}
use Rattle.std.proofs.lemmas.List.{length-take}
use Rattle.sp_base.specs.declared.kinds.MKind.{MKind}
use Rattle.sp_base.specs.declared.kinds.MKind.TheVariants as module_kind
use Rattle.sp_lex.specs.Faults.{IsOwnFault}
use Rattle.sp_lex.specs.Literals.{number_value}
use Rattle.sp_lex.specs.declared.kinds.TokenKind.{TokenKind}
use Rattle.sp_lex.specs.declared.kinds.TokenKind.TheVariants as token

pub some_between : (text : List ℕ) (from to : ℕ) → from < to → to ≤ length text → 0 < length (take (to - from) (drop from text))
some_between text from to some within = omega (arith, length-take (to - from) (drop from text), length-drop from text)

-- a token of digits without a fault is no number over 2^64 - 1
fits_as : (kind : TokenKind) (bytes : List ℕ) → kind ≡ token.Number → ((m : MKind) → ¬ IsOwnFault kind bytes m) → 2 ^ 64 ≤ number_value bytes → ⊥
fits_as kind bytes e right large =
    (subst (λ k. (m : MKind) → ¬ IsOwnFault k bytes m) e right) module_kind.LiteralRange (refl, large)

pub number_fits : (o : Option ℕ) (kind : TokenKind) (bytes : List ℕ) → kind ≡ token.Number → ((m : MKind) → ¬ IsOwnFault kind bytes m) → IfNone o (2 ^ 64 ≤ number_value bytes) → IsSome o
number_fits (Some value) kind bytes e right none = refl
number_fits None kind bytes e right none = absurd (fits_as kind bytes e right none)
