-- Tokens of punctuation have at least one byte.
use Rattle.std.proofs.Common.{◌≡◌, ℕ, ◌<◌, List, [], ◌∷◌, length, Bool, true, false, ◌&&◌, cond, nat_lt, Option, Some, None, refl}
use Rattle.std.specs.Prelude.{IfSome}
use borrow.Author.Tests.{ltb-true}
use Rattle.sp_lex.specs.Signs.{stands, longer, longest_of, all_spelled}
use Rattle.sp_lex.specs.Spellings.{spelling, signs}
use Rattle.sp_lex.specs.declared.kinds.TokenKind.{TokenKind}

-- what was found has a text
abbrev pub IsSpelled : Option TokenKind → Type 0
IsSpelled found = IfSome found (λ kind. 0 < length (spelling kind))

either_spelled : (b : Bool) (x y : Option TokenKind) → IsSpelled x → IsSpelled y → IsSpelled (cond b x y)
either_spelled true x y p q = p
either_spelled false x y p q = q

longer_spelled : (text : List ℕ) (found : Option TokenKind) (kind : TokenKind) → IsSpelled found → 0 < length (spelling kind) → IsSpelled (longer text found kind)
longer_spelled text None kind p q = either_spelled (stands kind text) (Some kind) None q tt
longer_spelled text (Some found) kind p q = either_spelled (stands kind text && nat_lt (length (spelling found)) (length (spelling kind))) (Some kind) (Some found) q p

pub both_true : (a b : Bool) → (a && b) ≡ true → (a ≡ true) × (b ≡ true)
both_true true b h = (refl, h)
both_true false b h = cc

longest_of_spelled : (text : List ℕ) (found : Option TokenKind) (kinds : List TokenKind) → IsSpelled found → all_spelled kinds ≡ true → IsSpelled (longest_of text found kinds)
longest_of_spelled text found [] p q = p
longest_of_spelled text found (kind ∷ kinds) p q =
    let both = both_true (nat_lt 0 (length (spelling kind))) (all_spelled kinds) q in
    longest_of_spelled text (longer text found kind) kinds (longer_spelled text found kind p (ltb-true _ _ both.0)) both.1

pub signs_spelled : (text : List ℕ) → IsSpelled (longest_of text None signs)
signs_spelled text = longest_of_spelled text None signs tt refl
