-- A text without a fault has its tokens.
use Rattle.std.proofs.Common.{◌≡◌, ℕ, zero, suc, ◌+◌, ◌-◌, ◌<◌, ◌≤◌, inl, inr, List, [], ◌∷◌, length, take, Bool, true, false, not, ◌==◌, cond, refl, ap, subst, arith}
use Rattle.std.proofs.lemmas.Bool.{cases_lt}
use Rattle.std.proofs.lemmas.List.{take_all}
use Rattle.std.proofs.lemmas.Str.{IsUtf8-nil, IsUtf8-from_is_utf8}
use Rattle.std.specs.List.{AllByRecursion, position_or_len}
use Rattle.std.specs.Str.{IsUtf8, is_utf8}
use Rattle.std.specs.Str.Lossy.{utf8_valid_len, valid_len_up_to}
use Rattle.sp_base.specs.declared.kinds.MKind.{MKind}
use Rattle.sp_base.specs.declared.kinds.MKind.TheVariants as module_kind
use Rattle.sp_base.specs.declared.places.Span.{Span}
use Rattle.sp_lex.specs.Faults.{looked_at, first_bad, byte_span, IsReadingFault, IsTextFault, IsFault}
use Rattle.sp_lex.specs.Lexed.{IsLexed}
use Rattle.sp_lex.specs.Nesting.{role_of, after, outermost}
use Rattle.sp_lex.specs.Readings.{Reading, Ends, Stops, Reads, token_at, reading, whole, HasItsText, IsLongest}
use Rattle.sp_lex.specs.declared.nesting.Nesting.{Nesting}
use Rattle.sp_lex.specs.declared.tokens.Token.{Token}
use Rattle.sp_lex.proofs.Least.{text_small, text_whole, right_tokens}
use Rattle.sp_lex.proofs.Longest.{token_longest}
use Rattle.sp_lex.proofs.Spaced.{order_read}
use Rattle.sp_lex.proofs.Standing.{StandsIn, stands_all}
use Rattle.sp_lex.proofs.Texts.{token_text}
use Rattle.sp_lex.proofs.WordTexts.{each_of, IsInside, all_inside}

-- a reading without a fault goes to the end
whole_of : (text : List ℕ) (r : Reading) (nesting : Nesting) → ((span : Span) (kind : MKind) → ¬ IsReadingFault text nesting r span kind) → (tokens : List Token) × (r ≡ whole tokens)
whole_of text Ends nesting right = ([], refl)
whole_of text (Stops at) nesting right = absurd (right (byte_span at) module_kind.BadToken (refl, refl))
whole_of text (Reads t more) nesting right =
    let (tokens, is) = whole_of text more (after nesting (role_of t.kind)) (λ span kind fault. right span kind (inr fault)) in
    (t ∷ tokens, ap (Reads t) is)

-- UTF-8 by the length of its longest front that is
front_by : (b : Bool) (n m : ℕ) → m ≤ n → cond b (suc n) m ≤ suc n
front_by true n m h = omega arith
front_by false n m h = omega arith

front_most : (bytes : List ℕ) (n : ℕ) → valid_len_up_to bytes n ≤ n
front_most bytes zero = omega arith
front_most bytes (suc n) = front_by (is_utf8 (take (suc n) bytes)) n (valid_len_up_to bytes n) (front_most bytes n)

front_all : (bytes : List ℕ) (n : ℕ) → n ≤ valid_len_up_to bytes n → IsUtf8 (take n bytes)
front_all bytes zero h = IsUtf8-nil
front_all bytes (suc n) h = by_test (is_utf8 (take (suc n) bytes)) refl h
  where
    by_test : (b : Bool) → is_utf8 (take (suc n) bytes) ≡ b → suc n ≤ cond b (suc n) (valid_len_up_to bytes n) → IsUtf8 (take (suc n) bytes)
    by_test true is h = IsUtf8-from_is_utf8 (take (suc n) bytes) is
    by_test false is h = let more = front_most bytes n in absurd (omega (arith, more, h))

all_valid : (bytes : List ℕ) → length bytes ≤ utf8_valid_len bytes → IsUtf8 bytes
unfolding utf8_valid_len
all_valid bytes h = subst IsUtf8 (take_all (length bytes) bytes (omega arith)) (front_all bytes (length bytes) h)

zero_no_more : (byte : ℕ) (b : Bool) (n k : ℕ) → not (byte == 0) ≡ b → suc n ≤ cond b (1 + k) 0 → (0 < byte) × (n ≤ k)
zero_no_more zero true n k is h = absurd cc
zero_no_more zero false n k is h = absurd (omega arith)
zero_no_more (suc byte) b n k is h = (omega arith, more_left b h)
  where
    more_left : (b : Bool) → suc n ≤ cond b (1 + k) 0 → n ≤ k
    more_left true h = omega arith
    more_left false h = absurd (omega arith)

no_zeros : (bytes : List ℕ) → length bytes ≤ position_or_len (λ byte. byte == 0) bytes → AllByRecursion (λ byte. 0 < byte) bytes
no_zeros [] h = tt
no_zeros (byte ∷ bytes) h =
    let (some, more) = zero_no_more byte (not (byte == 0)) (length bytes) (position_or_len (λ c. c == 0) bytes) refl h in
    (some, no_zeros bytes more)

module _ (source : List ℕ) (faultless : (span : Span) (kind : MKind) → ¬ IsFault source span kind) where
  no_text_fault : (span : Span) (kind : MKind) → ¬ IsTextFault source span kind
  no_text_fault span kind fault = faultless span kind (inl fault)

  seen_whole : source ≡ looked_at source
  seen_whole = text_whole source no_text_fault

  none_bad : length source ≤ first_bad source
  none_bad = elim (cases_lt (first_bad source) (length source)) [
    | inl bad ↦ absurd (no_text_fault (byte_span (first_bad (looked_at source))) module_kind.NotText (inl (refl, refl, subst (λ x. first_bad x < length x) seen_whole bad)))
    | inr none ↦ none
  ]

  right : (span : Span) (kind : MKind) → ¬ IsReadingFault source outermost (reading source) span kind
  right span kind fault = faultless span kind (inr (subst (λ x. IsReadingFault x outermost (reading x) span kind) seen_whole fault))

  same_token : (t : Token) → t.span.from < t.span.to → token_at t.kind t.span.from (t.span.to - t.span.from) ≡ t
  same_token t some =
      let end : t.span.from + (t.span.to - t.span.from) ≡ t.span.to = omega (arith, some) in
      ap (λ to. let x : Token = record { kind = t.kind; span = record { from = t.span.from; to = to } } in x) end

  longest_here : (t : Token) → StandsIn source t → IsInside source t → IsLongest source t
  longest_here t stands inside = subst (IsLongest source) (same_token t inside.0) (token_longest source t.span.from stands.0 t.kind (t.span.to - t.span.from) stands.1)

  text_here : (t : Token) → StandsIn source t → IsInside source t → HasItsText source t
  text_here t stands inside = subst (HasItsText source) (same_token t inside.0) (token_text source t.span.from stands.0 t.kind (t.span.to - t.span.from) stands.1)

  lexed_as : (tokens : List Token) → reading source ≡ whole tokens → IsLexed source tokens
  lexed_as tokens read =
      let order = order_read source tokens read in
      let inside = all_inside source tokens 0 order in
      let stands = stands_all source tokens read in
      let fine = none_bad in
      record {
        read = read;
        longest = each_of (StandsIn source) (IsInside source) (IsLongest source) longest_here tokens stands inside;
        texts = each_of (StandsIn source) (IsInside source) (HasItsText source) text_here tokens stands inside;
        right = right_tokens source tokens read right;
        order = order;
        small = text_small source no_text_fault;
        utf8 = all_valid source (omega (arith, fine));
        no_zero = no_zeros source (omega (arith, fine));
      }

  pub has_tokens : (tokens : List Token) × IsLexed source tokens
  has_tokens = let (tokens, read) = whole_of source (reading source) outermost right in (tokens, lexed_as tokens read)
