-- How the rest of a text is read, element by element.
use Rattle.std.proofs.Common.{◌≡◌, ℕ, zero, suc, ◌+◌, ◌-◌, ◌<◌, ◌≤◌, List, [], ◌∷◌, length, drop, Bool, sym, refl, ap, ◌∙◌, arith, drop-cons, length-drop}
use Rattle.std.proofs.lemmas.List.{drop-drop}
use Rattle.sp_lex.specs.Elements.{ends_operand, element_at}
use Rattle.sp_lex.specs.Readings.{Ends, Stops, Reads, token_at, reads_from, read_on}
use Rattle.sp_lex.specs.declared.elements.Element.TheVariants as element
use Rattle.sp_lex.specs.declared.kinds.TokenKind.{TokenKind}

-- the rest of an element is passed over
pub read_on-left : (at : ℕ) (divides : Bool) (left : ℕ) (text : List ℕ) → left ≤ length text → read_on at divides left text ≡ read_on (at + left) divides 0 (drop left text)
read_on-left at divides zero text h = ap (λ p. read_on p divides 0 text) (omega arith)
read_on-left at divides (suc left) [] h = absurd (omega arith)
read_on-left at divides (suc left) (byte ∷ text) h =
    read_on-left (at + 1) divides left text (omega arith) ∙ ap (λ p. read_on p divides 0 (drop left text)) (omega arith)

-- what is read at a byte
pub read_on-at : (at : ℕ) (divides : Bool) (text : List ℕ) → at < length text →
    read_on at divides 0 (drop at text) ≡ reads_from (element_at divides (drop at text)) at divides (λ behind n. read_on (at + 1) behind (n - 1) (drop (at + 1) text))
read_on-at at divides text h =
    let e = drop-cons text at 0 h in
    let one : suc at ≡ at + 1 = omega arith in
    ap (λ rest. read_on at divides 0 rest) e
    ∙ ap (λ rest. reads_from (element_at divides rest) at divides (λ behind n. read_on (at + 1) behind (n - 1) (drop (suc at) text))) (sym e)
    ∙ ap (λ k. reads_from (element_at divides (drop at text)) at divides (λ behind n. read_on (at + 1) behind (n - 1) (drop k text))) one

-- behind an element of so many bytes
pub read_on-behind : (at : ℕ) (divides : Bool) (text : List ℕ) (n : ℕ) → 0 < n → at + n ≤ length text → read_on (at + 1) divides (n - 1) (drop (at + 1) text) ≡ read_on (at + n) divides 0 (drop (at + n) text)
read_on-behind at divides text n positive within =
    let fits : n - 1 ≤ length (drop (at + 1) text) = simp length-drop (omega arith) in
    let place : at + 1 + (n - 1) ≡ at + n = omega arith in
    read_on-left (at + 1) divides (n - 1) (drop (at + 1) text) fits
    ∙ ap (λ rest. read_on (at + 1 + (n - 1)) divides 0 rest) (drop-drop (n - 1) (at + 1) text)
    ∙ ap (λ p. read_on p divides 0 (drop p text)) place

-- white space or a comment
pub read_on-blank : (at : ℕ) (divides : Bool) (text : List ℕ) (n : ℕ) → at < length text → element_at divides (drop at text) ≡ element.Blank n → 0 < n → at + n ≤ length text → read_on at divides 0 (drop at text) ≡ read_on (at + n) divides 0 (drop (at + n) text)
read_on-blank at divides text n h e positive within =
    read_on-at at divides text h
    ∙ ap (λ stands. reads_from stands at divides (λ behind n. read_on (at + 1) behind (n - 1) (drop (at + 1) text))) e
    ∙ read_on-behind at divides text n positive within

-- a token
pub read_on-token : (at : ℕ) (divides : Bool) (text : List ℕ) (kind : TokenKind) (n : ℕ) → at < length text → element_at divides (drop at text) ≡ element.Token kind n → 0 < n → at + n ≤ length text →
    read_on at divides 0 (drop at text) ≡ Reads (token_at kind at n) (read_on (at + n) (ends_operand kind) 0 (drop (at + n) text))
read_on-token at divides text kind n h e positive within =
    read_on-at at divides text h
    ∙ ap (λ stands. reads_from stands at divides (λ behind n. read_on (at + 1) behind (n - 1) (drop (at + 1) text))) e
    ∙ ap (λ rest. Reads (token_at kind at n) rest) (read_on-behind at (ends_operand kind) text n positive within)

-- nothing that is one
pub read_on-bad : (at : ℕ) (divides : Bool) (text : List ℕ) → at < length text → element_at divides (drop at text) ≡ element.Bad → read_on at divides 0 (drop at text) ≡ Stops at
read_on-bad at divides text h e =
    read_on-at at divides text h
    ∙ ap (λ stands. reads_from stands at divides (λ behind n. read_on (at + 1) behind (n - 1) (drop (at + 1) text))) e

-- the text's end
pub read_on-end : (at : ℕ) (divides : Bool) (n : ℕ) (text : List ℕ) → length text ≤ n → read_on at divides 0 (drop n text) ≡ Ends
read_on-end at divides zero [] h = refl
read_on-end at divides (suc n) [] h = refl
read_on-end at divides zero (byte ∷ text) h = absurd (omega arith)
read_on-end at divides (suc n) (byte ∷ text) h = read_on-end at divides n text (omega arith)
