-- What is left of a literal or of a text after some of its bytes.
use Rattle.std.proofs.Common.{◌≡◌, ℕ, zero, suc, ◌+◌, ◌-◌, ◌<◌, ◌≤◌, List, [], ◌∷◌, length, get_or, drop, true, false, ◌==◌, Some, None, sym, ap, ◌∙◌, arith, drop-cons, length-drop}
use Rattle.std.proofs.lemmas.List.{drop-drop}
use Rattle.sp_lex.specs.declared.literals.Form.{Form}
use Rattle.sp_lex.specs.Literals.{closing, char_len, closed, literal_end}

-- the rest of a character is passed over
pub literal_end-left : (form : Form) (at left : ℕ) (text : List ℕ) → left ≤ length text → literal_end form at left text ≡ literal_end form (at + left) 0 (drop left text)
literal_end-left form at zero text h = ap (λ p. literal_end form p 0 text) (omega arith)
literal_end-left form at (suc left) [] h = absurd (omega arith)
literal_end-left form at (suc left) (byte ∷ text) h =
    literal_end-left form (at + 1) left text (omega arith) ∙ ap (λ p. literal_end form p 0 (drop left text)) (omega arith)

-- a literal at a byte of it
pub literal_end-at : (form : Form) (at : ℕ) (text : List ℕ) → at < length text →
    literal_end form at 0 (drop at text) ≡ closed (get_or text at 0 == closing form) at (char_len form (drop at text)) (λ n. literal_end form (at + 1) (n - 1) (drop (at + 1) text))
literal_end-at form at text h =
    let e = drop-cons text at 0 h in
    let one : suc at ≡ at + 1 = omega arith in
    ap (λ rest. literal_end form at 0 rest) e
    ∙ ap (λ rest. closed (get_or text at 0 == closing form) at (char_len form rest) (λ n. literal_end form (at + 1) (n - 1) (drop (suc at) text))) (sym e)
    ∙ ap (λ k. closed (get_or text at 0 == closing form) at (char_len form (drop at text)) (λ n. literal_end form (at + 1) (n - 1) (drop k text))) one

-- the literal is closed here
pub literal_end-closed : (form : Form) (at : ℕ) (text : List ℕ) → at < length text → (get_or text at 0 == closing form) ≡ true → literal_end form at 0 (drop at text) ≡ Some (at + 1)
literal_end-closed form at text h closes =
    literal_end-at form at text h ∙ ap (λ b. closed b at (char_len form (drop at text)) (λ n. literal_end form (at + 1) (n - 1) (drop (at + 1) text))) closes

-- no character stands here
pub literal_end-broken : (form : Form) (at : ℕ) (text : List ℕ) → at < length text → (get_or text at 0 == closing form) ≡ false → char_len form (drop at text) ≡ None → literal_end form at 0 (drop at text) ≡ None
literal_end-broken form at text h closes none =
    literal_end-at form at text h
    ∙ ap (λ b. closed b at (char_len form (drop at text)) (λ n. literal_end form (at + 1) (n - 1) (drop (at + 1) text))) closes
    ∙ ap (λ o. closed false at o (λ n. literal_end form (at + 1) (n - 1) (drop (at + 1) text))) none

-- a character stands here, and the literal goes on behind it
pub literal_end-next : (form : Form) (at : ℕ) (text : List ℕ) (n : ℕ) → at < length text → (get_or text at 0 == closing form) ≡ false → char_len form (drop at text) ≡ Some n → 0 < n → at + n ≤ length text → literal_end form at 0 (drop at text) ≡ literal_end form (at + n) 0 (drop (at + n) text)
literal_end-next form at text n h closes some positive within =
    let fits : n - 1 ≤ length (drop (at + 1) text) = simp length-drop (omega arith) in
    let place : at + 1 + (n - 1) ≡ at + n = omega arith in
    literal_end-at form at text h
    ∙ ap (λ b. closed b at (char_len form (drop at text)) (λ n. literal_end form (at + 1) (n - 1) (drop (at + 1) text))) closes
    ∙ ap (λ o. closed false at o (λ n. literal_end form (at + 1) (n - 1) (drop (at + 1) text))) some
    ∙ literal_end-left form (at + 1) (n - 1) (drop (at + 1) text) fits
    ∙ ap (λ rest. literal_end form (at + 1 + (n - 1)) 0 rest) (drop-drop (n - 1) (at + 1) text)
    ∙ ap (λ p. literal_end form p 0 (drop p text)) place
