-- The tokens that are read are in order, and only white space and comments stand between them.
use Rattle.std.proofs.Common.{◌≡◌, ℕ, zero, suc, ◌+◌, ◌-◌, ◌<◌, ◌≤◌, ◌⊎◌, inl, inr, List, [], ◌∷◌, ◌++◌, length, get_or, take, drop, Bool, true, false, not, ◌==◌, ◌&&◌, cond, Option, Some, None, sym, refl, ap, subst, ◌∙◌, arith, length-drop}
use Rattle.std.proofs.lemmas.Bool.{eqb-true, cases_lt}
use Rattle.std.proofs.lemmas.List.{drop-drop, take-append-drop, append-nil}
use Rattle.std.proofs.lemmas.List.Folds.{drop_split}
use Rattle.std.proofs.Math.Seq.{take-add}
use Rattle.std.specs.Prelude.{slice_range}
use Rattle.std.specs.List.{AllByRecursion, prefix_len}
use Rattle.sp_lex.specs.Bytes.{is_white, is_in_line}
use Rattle.sp_lex.specs.Elements.{ends_operand, start_of, token_of, literal_at, sign_of, sign_at, word_at, element_from, element_at, IsWithin}
use Rattle.sp_lex.specs.Gaps.{EndsLine, IsGap, no_gap, white, comment, AreSpaced}
use Rattle.sp_lex.specs.Literals.{literal_len}
use Rattle.sp_lex.specs.Readings.{Ends, Stops, Reads, token_at, read_on, reading, whole, InOrder}
use Rattle.sp_lex.specs.Signs.{longest_sign}
use Rattle.sp_lex.specs.declared.elements.Element.{Element}
use Rattle.sp_lex.specs.declared.elements.Element.TheVariants as element
use Rattle.sp_lex.specs.declared.elements.Start.{Start}
use Rattle.sp_lex.specs.declared.elements.Start.TheVariants as start
use Rattle.sp_lex.specs.declared.kinds.TokenKind.{TokenKind}
use Rattle.sp_lex.specs.declared.literals.Form.TheVariants as form
use Rattle.sp_lex.specs.declared.tokens.Token.{Token}
use Rattle.sp_lex.proofs.Bounds.{element_within}
use Rattle.sp_lex.proofs.Carried.{space_byte, comment_byte}
use Rattle.sp_lex.proofs.ReadOn.{read_on-blank, read_on-token, read_on-bad, read_on-end}

-- one byte of white space, or a comment, before what is left of the text
abbrev IsPiece : List ℕ → List ℕ → Type 0
IsPiece x rest =
    ((byte : ℕ) × (x ≡ byte ∷ []) × (is_white byte ≡ true))
    ⊎ ((line : List ℕ) × (x ≡ 35 ∷ line) × AllByRecursion (λ byte. is_in_line byte ≡ true) line × EndsLine rest)

gap_on : (x gap rest : List ℕ) → IsPiece x (gap ++ rest) → IsGap gap rest → IsGap (x ++ gap) rest
gap_on x gap rest (inl (byte, is, blank)) more = subst (λ y. IsGap (y ++ gap) rest) (sym is) (white byte blank more)
gap_on x gap rest (inr (line, is, all, ends)) more = subst (λ y. IsGap (y ++ gap) rest) (sym is) (comment line gap all ends more)

-- the bytes of a line
line_from : (b : Bool) (byte : ℕ) (text : List ℕ) → is_in_line byte ≡ b → AllByRecursion (λ c. is_in_line c ≡ true) (take (prefix_len is_in_line text) text) → AllByRecursion (λ c. is_in_line c ≡ true) (take (cond b (1 + prefix_len is_in_line text) 0) (byte ∷ text))
line_from true byte text first more =
    let one : suc (prefix_len is_in_line text) ≡ 1 + prefix_len is_in_line text = omega arith in
    subst (λ n. AllByRecursion (λ c. is_in_line c ≡ true) (take n (byte ∷ text))) one (first, more)
line_from false byte text first more = tt

line_all : (text : List ℕ) → AllByRecursion (λ c. is_in_line c ≡ true) (take (prefix_len is_in_line text) text)
line_all [] = tt
line_all (byte ∷ text) = line_from (is_in_line byte) byte text refl (line_all text)

not_false : (b : Bool) → not b ≡ false → b ≡ true
not_false true h = refl
not_false false h = cc

ends_from : (b : Bool) (byte : ℕ) (text : List ℕ) → is_in_line byte ≡ b → EndsLine (drop (prefix_len is_in_line text) text) → EndsLine (drop (cond b (1 + prefix_len is_in_line text) 0) (byte ∷ text))
ends_from true byte text is more =
    let one : suc (prefix_len is_in_line text) ≡ 1 + prefix_len is_in_line text = omega arith in
    subst (λ n. EndsLine (drop n (byte ∷ text))) one more
ends_from false byte text is more = eqb-true byte 10 (not_false (byte == 10) is)

line_ends : (text : List ℕ) → EndsLine (drop (prefix_len is_in_line text) text)
line_ends [] = tt
line_ends (byte ∷ text) = ends_from (is_in_line byte) byte text refl (line_ends text)

comment_from : (byte : ℕ) (text : List ℕ) → byte ≡ 35 → IsPiece (take (prefix_len is_in_line (byte ∷ text)) (byte ∷ text)) (drop (prefix_len is_in_line (byte ∷ text)) (byte ∷ text))
comment_from byte text e =
    let k = prefix_len is_in_line text in
    let here : is_in_line byte ≡ true = ap is_in_line e in
    let one : suc k ≡ 1 + k = omega arith in
    let long : suc k ≡ prefix_len is_in_line (byte ∷ text) = rw here one in
    subst (λ n. IsPiece (take n (byte ∷ text)) (drop n (byte ∷ text))) long
    (inr (take k text, ap (λ b. b ∷ take k text) e, line_all text, line_ends text))

-- tokens are no blanks
no_blank : (kind : TokenKind) (o : Option ℕ) (n : ℕ) {A : Type 0} → token_of kind o ≡ element.Blank n → A
no_blank kind None n h = absurd cc
no_blank kind (Some m) n h = absurd cc

no_sign : (o : Option TokenKind) (n : ℕ) {A : Type 0} → sign_of o ≡ element.Blank n → A
no_sign None n h = absurd cc
no_sign (Some kind) n h = absurd cc

no_word : (b : Bool) (o : Option ℕ) (kind also : TokenKind) (m n : ℕ) {A : Type 0} → cond b (token_of kind o) (element.Token also m) ≡ element.Blank n → A
no_word true o kind also m n h = no_blank kind o n h
no_word false o kind also m n h = absurd cc

piece_from : (s : Start) (divides : Bool) (byte : ℕ) (text : List ℕ) (n : ℕ) → start_of byte ≡ s → element_from s divides (byte ∷ text) ≡ element.Blank n → IsPiece (take n (byte ∷ text)) (drop n (byte ∷ text))
unfolding sign_at literal_at word_at
piece_from start.Space divides byte text n e h =
    let one : 1 ≡ n = cc in
    subst (λ m. IsPiece (take m (byte ∷ text)) (drop m (byte ∷ text))) one (inl (byte, refl, space_byte byte e))
piece_from start.Comment divides byte text n e h =
    let long : prefix_len is_in_line (byte ∷ text) ≡ n = cc in
    subst (λ m. IsPiece (take m (byte ∷ text)) (drop m (byte ∷ text))) long (comment_from byte text (comment_byte byte e))
piece_from start.Letter divides byte text n e h = no_word (byte == 98 && get_or text 0 0 == 34) (literal_len form.Bytes (byte ∷ text)) _ _ _ n h
piece_from start.Digit divides byte text n e h = absurd cc
piece_from start.Quote divides byte text n e h = no_blank _ (literal_len form.String (byte ∷ text)) n h
piece_from start.Slash true byte text n e h = no_sign (longest_sign (byte ∷ text)) n h
piece_from start.Slash false byte text n e h = no_blank _ (literal_len form.Regex (byte ∷ text)) n h
piece_from start.Sign divides byte text n e h = no_sign (longest_sign (byte ∷ text)) n h

piece_at : (divides : Bool) (text : List ℕ) (n : ℕ) → 0 < length text → element_at divides text ≡ element.Blank n → IsPiece (take n text) (drop n text)
unfolding element_at
piece_at divides [] n some h = absurd (omega arith)
piece_at divides (byte ∷ text) n some h = piece_from (start_of byte) divides byte text n refl h

ends_whole : (tokens : List Token) → Ends ≡ whole tokens → tokens ≡ []
ends_whole [] h = refl
ends_whole (t ∷ tokens) h = cc

stops_whole : (at : ℕ) (tokens : List Token) {A : Type 0} → Stops at ≡ whole tokens → A
stops_whole at [] h = absurd cc
stops_whole at (t ∷ tokens) h = absurd cc

module _ (text : List ℕ) where
  -- the tokens from a place on
  abbrev Placed : ℕ → List Token → Type 0
  Placed at tokens = InOrder at tokens (length text) × AreSpaced text at tokens

  -- a blank before them
  blank_on : (at n : ℕ) (tokens : List Token) → 0 < n → at + n ≤ length text → IsPiece (take n (drop at text)) (drop (at + n) text) → Placed (at + n) tokens → Placed at tokens
  blank_on at n [] some within piece (order, spaced) =
      let rest : drop (at + n) text ≡ drop n (drop at text) = sym (drop-drop n at text) in
      let all : take n (drop at text) ++ drop (at + n) text ≡ drop at text = ap (λ x. take n (drop at text) ++ x) rest ∙ take-append-drop n (drop at text) in
      (omega (arith, within), subst (λ x. IsGap x []) all (gap_on (take n (drop at text)) (drop (at + n) text) [] (subst (IsPiece (take n (drop at text))) (sym (append-nil (drop (at + n) text))) piece) spaced))
  blank_on at n (t ∷ tokens) some within piece (order, spaced) =
      let low : at + n ≤ t.span.from = order.0 in
      let behind : drop (at + n) text ≡ slice_range text (at + n) t.span.from ++ drop t.span.from text = drop_split text (at + n) t.span.from low in
      let long : n + (t.span.from - (at + n)) ≡ t.span.from - at = omega (arith, low) in
      let all : take n (drop at text) ++ slice_range text (at + n) t.span.from ≡ slice_range text at t.span.from =
      ap (λ x. take n (drop at text) ++ take (t.span.from - (at + n)) x) (sym (drop-drop n at text))
      ∙ sym (take-add n (t.span.from - (at + n)) (drop at text))
      ∙ ap (λ m. take m (drop at text)) long in (
        (omega (arith, low), order.1, order.2),
        (subst (λ x. IsGap x (drop t.span.from text)) all (gap_on (take n (drop at text)) (slice_range text (at + n) t.span.from) (drop t.span.from text) (subst (IsPiece (take n (drop at text))) behind piece) spaced.0), spaced.1),
      )

  at_end : (at : ℕ) (divides : Bool) (tokens : List Token) → at ≤ length text → length text ≤ at → read_on at divides 0 (drop at text) ≡ whole tokens → Placed at tokens
  at_end at divides tokens most least h =
      let none = ends_whole tokens (sym (read_on-end at divides at text least) ∙ h) in
      subst (Placed at) (sym none) (most, subst (λ x. IsGap x []) (sym (nothing_left text at least)) no_gap)
    where
      nothing_left : (x : List ℕ) (k : ℕ) → length x ≤ k → drop k x ≡ []
      nothing_left [] zero le = refl
      nothing_left [] (suc k) le = refl
      nothing_left (b ∷ x) zero le = absurd (omega arith)
      nothing_left (b ∷ x) (suc k) le = nothing_left x k (omega arith)

  gap_here : (at : ℕ) → IsGap (slice_range text at at) (drop at text)
  gap_here at =
      let none : 0 ≡ at - at = omega arith in
      subst (λ n. IsGap (take n (drop at text)) (drop at text)) none no_gap

  placed_from : (stands : Element) (at : ℕ) (divides : Bool) (tokens : List Token) → at < length text → element_at divides (drop at text) ≡ stands → IsWithin stands (length (drop at text))
      → ((next : ℕ) (behind : Bool) (more : List Token) → at < next → next ≤ length text → read_on next behind 0 (drop next text) ≡ whole more → Placed next more)
      → read_on at divides 0 (drop at text) ≡ whole tokens → Placed at tokens
  placed_from (element.Blank n) at divides tokens inside is within deeper h =
      let some : 0 < n = within.0 in
      let most : at + n ≤ length text = let fits : n ≤ length (drop at text) = within.1 in omega (arith, fits, inside, length-drop at text) in
      let left : 0 < length (drop at text) = omega (arith, inside, length-drop at text) in
      blank_on at n tokens some most (subst (IsPiece (take n (drop at text))) (drop-drop n at text) (piece_at divides (drop at text) n left is))
      (deeper (at + n) divides tokens (omega (arith, some)) most (sym (read_on-blank at divides text n inside is some most) ∙ h))
  placed_from (element.Token kind n) at divides tokens inside is within deeper h =
      let some : 0 < n = within.0 in
      let most : at + n ≤ length text = let fits : n ≤ length (drop at text) = within.1 in omega (arith, fits, inside, length-drop at text) in
      first_of tokens (sym (read_on-token at divides text kind n inside is some most) ∙ h) some most
    where
      first_of : (tokens : List Token) → Reads (token_at kind at n) (read_on (at + n) (ends_operand kind) 0 (drop (at + n) text)) ≡ whole tokens → 0 < n → at + n ≤ length text → Placed at tokens
      first_of [] e some most = absurd cc
      first_of (t ∷ more) e some most =
          let same : token_at kind at n ≡ t = cc in
          let rest : read_on (at + n) (ends_operand kind) 0 (drop (at + n) text) ≡ whole more = cc in
          let (order, spaced) = deeper (at + n) (ends_operand kind) more (omega (arith, some)) most rest in
          subst (λ x. Placed at (x ∷ more)) same ((omega arith, omega (arith, some), order), (gap_here at, spaced))
  placed_from element.Bad at divides tokens inside is within deeper h = stops_whole at tokens (sym (read_on-bad at divides text inside is) ∙ h)

  placed : (fuel at : ℕ) (divides : Bool) (tokens : List Token) → length text ≤ at + fuel → at ≤ length text → read_on at divides 0 (drop at text) ≡ whole tokens → Placed at tokens
  placed zero at divides tokens enough most h = at_end at divides tokens most (omega (arith, enough)) h
  placed (suc fuel) at divides tokens enough most h =
      elim (cases_lt at (length text)) [
        | inl inside ↦
            placed_from (element_at divides (drop at text)) at divides tokens inside refl (element_within divides (drop at text) (omega (arith, inside, length-drop at text)))
            (λ next behind more later within e. placed fuel next behind more (omega (arith, enough, later)) within e) h
        | inr past ↦ at_end at divides tokens most past h
      ]

  pub order_read : (tokens : List Token) → reading text ≡ whole tokens → InOrder 0 tokens (length text)
  order_read tokens h = (placed (length text) 0 false tokens (omega arith) (omega arith) h).0

  pub spaced_read : (tokens : List Token) → reading text ≡ whole tokens → AreSpaced text 0 tokens
  spaced_read tokens h = (placed (length text) 0 false tokens (omega arith) (omega arith) h).1
