-- What stands where a token of a text does.
use Rattle.std.proofs.Common.{◌≡◌, ℕ, zero, suc, ◌+◌, ◌-◌, ◌<◌, ◌≤◌, List, [], ◌∷◌, length, get_or, drop, Bool, sym, refl, ap, subst, ◌∙◌, arith}
use Rattle.std.proofs.lemmas.List.{drop-drop}
use Rattle.std.specs.List.{AllByRecursion}
use Rattle.sp_lex.specs.Elements.{ends_operand, element_at}
use Rattle.sp_lex.specs.Readings.{Stops, token_at, reads_from, read_on, reading, whole, InOrder}
use Rattle.sp_lex.specs.declared.elements.Element.{Element}
use Rattle.sp_lex.specs.declared.elements.Element.TheVariants as element
use Rattle.sp_lex.specs.declared.tokens.Token.{Token}

-- what holds of all holds of each
pub of_each : (P : Token → Type 0) (tokens : List Token) (at : ℕ) (default : Token) → at < length tokens → AllByRecursion P tokens → P (get_or tokens at default)
of_each P [] at default h all = absurd (omega arith)
of_each P (token ∷ tokens) zero default h all = all.0
of_each P (token ∷ tokens) (suc at) default h all = of_each P tokens at default (omega arith) all.1

-- a token has bytes, and ends within the text
pub span_within : (tokens : List Token) (from len at : ℕ) (default : Token) → InOrder from tokens len → at < length tokens → ((get_or tokens at default).span.from < (get_or tokens at default).span.to) × ((get_or tokens at default).span.to ≤ len)
span_within [] from len at default order h = absurd (omega arith)
span_within (token ∷ tokens) from len zero default order h = (order.1, ends_within token.span.to tokens len order.2)
  where
    ends_within : (at : ℕ) (tokens : List Token) (len : ℕ) → InOrder at tokens len → at ≤ len
    ends_within at [] len order = order
    ends_within at (token ∷ tokens) len order =
        let low : at ≤ token.span.from = order.0 in
        let some : token.span.from < token.span.to = order.1 in
        let high : token.span.to ≤ len = ends_within token.span.to tokens len order.2 in
        omega arith
span_within (token ∷ tokens) from len (suc at) default order h = span_within tokens token.span.to len at default order.2 (omega arith)

-- the token is what stands at its place
abbrev pub StandsIn : List ℕ → Token → Type 0
StandsIn text token = (divides : Bool) × (element_at divides (drop token.span.from text) ≡ element.Token token.kind (token.span.to - token.span.from))

one_less : (n m : ℕ) → n + m - n ≡ m
one_less n m = omega arith

not_token : (at : ℕ) (tokens : List Token) → Stops at ≡ whole tokens → ⊥
not_token at [] e = cc
not_token at (token ∷ tokens) e = cc

module _ (text : List ℕ) where
  next : (at byte : ℕ) (rest : List ℕ) → drop at text ≡ byte ∷ rest → drop (at + 1) text ≡ rest
  next at byte rest here = sym (drop-drop 1 at text) ∙ ap (λ l. drop 1 l) here

  stands_from : (stands : Element) (byte : ℕ) (rest : List ℕ) (at : ℕ) (divides : Bool) (tokens : List Token) → drop at text ≡ byte ∷ rest → element_at divides (byte ∷ rest) ≡ stands →
      ((behind : Bool) (left : ℕ) (more : List Token) → read_on (at + 1) behind left rest ≡ whole more → AllByRecursion (StandsIn text) more) →
      reads_from stands at divides (λ behind n. read_on (at + 1) behind (n - 1) rest) ≡ whole tokens → AllByRecursion (StandsIn text) tokens
  stands_from (element.Blank n) byte rest at divides tokens here is deeper e = deeper divides (n - 1) tokens e
  stands_from (element.Token kind n) byte rest at divides [] here is deeper e = cc
  stands_from (element.Token kind n) byte rest at divides (token ∷ tokens) here is deeper e =
      let same : token_at kind at n ≡ token = cc in
      let more : read_on (at + 1) (ends_operand kind) (n - 1) rest ≡ whole tokens = cc in
      (subst (StandsIn text) same (divides, ap (element_at divides) here ∙ is ∙ ap (element.Token kind) (sym (one_less at n))), deeper (ends_operand kind) (n - 1) tokens more)
  stands_from element.Bad byte rest at divides tokens here is deeper e = absurd (not_token at tokens e)

  stands_behind : (rest : List ℕ) (at : ℕ) (divides : Bool) (left : ℕ) (tokens : List Token) → drop at text ≡ rest → read_on at divides left rest ≡ whole tokens → AllByRecursion (StandsIn text) tokens
  stands_behind [] at divides left [] here e = tt
  stands_behind [] at divides left (token ∷ tokens) here e = cc
  stands_behind (byte ∷ rest) at divides (suc left) tokens here e = stands_behind rest (at + 1) divides left tokens (next at byte rest here) e
  stands_behind (byte ∷ rest) at divides zero tokens here e =
      stands_from (element_at divides (byte ∷ rest)) byte rest at divides tokens here refl (λ behind left more. stands_behind rest (at + 1) behind left more (next at byte rest here)) e

  pub stands_all : (tokens : List Token) → reading text ≡ whole tokens → AllByRecursion (StandsIn text) tokens
  stands_all tokens e = stands_behind text 0 _ 0 tokens refl e
