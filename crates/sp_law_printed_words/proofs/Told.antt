-- A word that a token of a text tells can be read again, and has no byte 0.
use Rattle.std.proofs.Common.{◌≡◌, ℕ, zero, suc, ◌+◌, ◌-◌, ◌*◌, ◌/◌, ◌%◌, ◌<◌, ◌≤◌, ◌^◌, inl, inr, List, [], ◌∷◌, ◌++◌, length, get_or, take, drop, Bool, true, false, ◌&&◌, ◌==◌, cond, nat_lt, Option, Some, None, option_map, sym, refl, ap, subst, ◌∙◌, arith, rules, tests, length-drop}
use Rattle.std.specs.Prelude.{codes, encode_utf8_all}
use Rattle.std.proofs.Math.Utf8.{encode}
use Rattle.std.specs.List.{AllByRecursion, prefix_len}
use Rattle.std.specs.Char.{is_ascii_digit, IsScalar}
use Rattle.std.specs.Str.{IsUtf8, all_scalars}
use Rattle.std.proofs.lemmas.Bool.{ltb-true, ltb-false}
use Rattle.std.proofs.lemmas.List.{take_more, take-take}
use Rattle.sp_base.specs.declared.kinds.MKind.{MKind}
use Rattle.sp_base.specs.declared.kinds.MKind.TheVariants as module_kind
use Rattle.sp_lex.specs.Bytes.{is_letter, is_word, is_in_line}
use Rattle.sp_lex.specs.Elements.{element_at, word_at, literal_at, token_of}
use Rattle.sp_lex.specs.Faults.{between, IsOwnFault, IsRight}
use Rattle.sp_lex.specs.Lexed.{IsLexed}
use Rattle.sp_lex.specs.Literals.{closing, opening, number_value, escape_len, char_len, closed, literal_end, literal_len}
use Rattle.sp_lex.specs.Literals.{is_plain as may_stand}
use Rattle.sp_lex.specs.Readings.{token_at, bytes_of, HasItsText}
use Rattle.sp_lex.specs.Signs.{word_kind}
use Rattle.sp_lex.specs.Spellings.{spelling}
use Rattle.sp_lex.specs.declared.kinds.TokenKind.{TokenKind}
use Rattle.sp_lex.specs.declared.kinds.TokenKind.TheVariants as token
use Rattle.sp_lex.specs.declared.tokens.Token.{Token}
use Rattle.sp_lex.proofs.Carried.{id_stands, regex_stands}
use Rattle.sp_lex.proofs.Insides.{literal_ends, length-first}
use Rattle.sp_lex.proofs.Standing.{of_each, span_within, StandsIn, stands_all}
use Rattle.sp_lex.proofs.Valid.{string_utf8, string_characters, regex_utf8}
use Rattle.sp_literals.specs.Values.{IsName, char_value, char_size, escaped, decoded_behind, string_value, bytes_value, numbered}
use Rattle.sp_literals.specs.Values.{hex_digit as digit_worth}
use Rattle.sp_literals.proofs.Utf8.{decoded_utf8}
use Rattle.sp_print.specs.Words.{Word, fixed, name, number, text, bytes, regex, written}
use Rattle.sp_law_printed_words.specs.Sound.{IsNameText, IsRegexWord, IsSound, HasNoZero}
use Rattle.sp_law_printed_words.specs.Told.{IsTold}
use Rattle.sp_law_printed_words.proofs.Literal.{slashed_len, some_bytes}
use Rattle.sp_law_printed_words.proofs.Letters.{letter_at, digit_at}

-- names
module _ (p : ℕ → Bool) where
  front_from : (b : ℕ) (x : List ℕ) (passes : Bool) → p b ≡ passes → AllByRecursion (λ b. p b ≡ true) (take (prefix_len p x) x) → AllByRecursion (λ b. p b ≡ true) (take (cond passes (1 + prefix_len p x) 0) (b ∷ x))
  front_from b x true is more =
      let one : 1 + prefix_len p x ≡ suc (prefix_len p x) = omega arith in
      subst (λ n. AllByRecursion (λ b. p b ≡ true) (take n (b ∷ x))) (sym one) (is, more)
  front_from b x false is more = tt

  front_passes : (x : List ℕ) → AllByRecursion (λ b. p b ≡ true) (take (prefix_len p x) x)
  front_passes [] = tt
  front_passes (b ∷ x) = front_from b x (p b) refl (front_passes x)

  first_passes : (b m : ℕ) (x : List ℕ) (passes : Bool) → p b ≡ passes → cond passes (1 + prefix_len p x) 0 ≡ suc m → passes ≡ true
  first_passes b m x true is h = refl
  first_passes b m x false is h = absurd (omega (arith, h))

no_bytes : (q : Bool) (o : Option ℕ) (kind : TokenKind) (k n : ℕ) → cond q (token_of token.Bytes o) (token_of kind (Some k)) ≡ token_of token.Id (Some n) → kind ≡ token.Id
no_bytes true None kind k n h = cc
no_bytes true (Some m) kind k n h = cc
no_bytes false o kind k n h = cc

word_is : (t : List ℕ) (n : ℕ) → word_at t ≡ token_of token.Id (Some n) → word_kind (take (prefix_len is_word t) t) ≡ token.Id
unfolding word_at literal_at
word_is t n h = no_bytes _ _ _ _ n h

digit_of : (b : ℕ) → is_word b ≡ true → is_letter b ≡ false → is_ascii_digit b ≡ true
digit_of b word letter = search (rules, tests)

id_first : (b m : ℕ) (t : List ℕ) (divides letter : Bool) → is_letter b ≡ letter → is_word b ≡ true → element_at divides (b ∷ t) ≡ token_of token.Id (Some (suc m)) → letter ≡ true
id_first b m t divides true is word e = refl
id_first b m t divides false is word e = let digit = digit_at b t divides (digit_of b word is) in cc

id_text : (t : List ℕ) (divides : Bool) (n : ℕ) → 0 < n → n ≤ length t → element_at divides t ≡ token_of token.Id (Some n) → IsNameText (take n t)
id_text t divides zero some within e = absurd (omega arith)
id_text [] divides (suc m) some within e = absurd (omega arith)
id_text (b ∷ t) divides (suc m) some within e =
    let long = id_stands (b ∷ t) divides (suc m) e in
    let first = id_first b m t divides (is_letter b) refl (first_passes is_word b m t (is_word b) refl long) e in
    let kind = word_is (b ∷ t) (suc m) (sym (letter_at b t divides first) ∙ e) in
    (first, subst (λ n. AllByRecursion (λ b. is_word b ≡ true) (take n (b ∷ t))) long (front_passes is_word (b ∷ t)), inl (ap (λ n. word_kind (take n (b ∷ t))) (sym long) ∙ kind))

skip_text : IsNameText (codes "skip")
unfolding word_kind
skip_text = (refl, (refl, (refl, (refl, (refl, tt)))), inr refl)

-- numbers
below : (n m : ℕ) (less : Bool) → nat_lt n m ≡ less → (m ≤ n → ⊥) → n < m
below n m true is high = ltb-true n m is
below n m false is high = absurd (high (ltb-false n m is))

-- bytes
small_encode : (c : ℕ) → c < 1114112 → AllByRecursion (λ b. b < 256) (encode c)
unfolding encode
small_encode c h = by_size (nat_lt c 128) (nat_lt c 2048) (nat_lt c 65536) refl refl refl
  where
    by_size : (a b d : Bool) → nat_lt c 128 ≡ a → nat_lt c 2048 ≡ b → nat_lt c 65536 ≡ d →
        AllByRecursion (λ b. b < 256) (cond a (c ∷ []) (cond b ((192 + c / 64) ∷ (128 + c % 64) ∷ []) (cond d ((224 + c / 4096) ∷ (128 + c / 64 % 64) ∷ (128 + c % 64) ∷ []) ((240 + c / 262144) ∷ (128 + c / 4096 % 64) ∷ (128 + c / 64 % 64) ∷ (128 + c % 64) ∷ []))))
    by_size true b d is_a is_b is_d = let s : c < 128 = ltb-true c 128 is_a in (omega (arith, s), tt)
    by_size false true d is_a is_b is_d = let s : c < 2048 = ltb-true c 2048 is_b in (omega (arith, s), (omega arith, tt))
    by_size false false true is_a is_b is_d = let s : c < 65536 = ltb-true c 65536 is_d in (omega (arith, s), (omega arith, (omega arith, tt)))
    by_size false false false is_a is_b is_d = (omega (arith, h), (omega arith, (omega arith, (omega arith, tt))))

all_append : (x y : List ℕ) → AllByRecursion (λ b. b < 256) x → AllByRecursion (λ b. b < 256) y → AllByRecursion (λ b. b < 256) (x ++ y)
all_append [] y first second = second
all_append (b ∷ x) y first second = (first.0, all_append x y first.1 second)

both : (a b : Bool) → (a && b) ≡ true → (a ≡ true) × (b ≡ true)
both true b h = (refl, h)
both false b h = cc

scalar_small : (c : ℕ) → IsScalar c → c < 1114112
scalar_small c h = search (rules, tests)

small_encodes : (cs : List ℕ) → all_scalars cs ≡ true → AllByRecursion (λ b. b < 256) (encode_utf8_all cs)
small_encodes [] h = tt
small_encodes (c ∷ cs) h = let parts = both _ (all_scalars cs) h in all_append (encode c) (encode_utf8_all cs) (small_encode c (scalar_small c parts.0)) (small_encodes cs parts.1)

utf8_small : (x : List ℕ) → IsUtf8 x → AllByRecursion (λ b. b < 256) x
utf8_small x utf8 = subst (AllByRecursion (λ b. b < 256)) utf8.1.1 (small_encodes utf8.0 utf8.1.0)

-- what holds of all bytes holds of those of a part
part_drop : (P : ℕ → Type 0) (n : ℕ) (x : List ℕ) → AllByRecursion P x → AllByRecursion P (drop n x)
part_drop P zero x all = all
part_drop P (suc n) [] all = tt
part_drop P (suc n) (b ∷ x) all = part_drop P n x all.1

part_take : (P : ℕ → Type 0) (n : ℕ) (x : List ℕ) → AllByRecursion P x → AllByRecursion P (take n x)
part_take P zero x all = tt
part_take P (suc n) [] all = tt
part_take P (suc n) (b ∷ x) all = (all.0, part_take P n x all.1)

part_token : (P : ℕ → Type 0) (x : List ℕ) (t : Token) → AllByRecursion P x → AllByRecursion P (bytes_of x t)
part_token P x t all = part_take P (t.span.to - t.span.from) (drop t.span.from x) (part_drop P t.span.from x all)

part_between : (P : ℕ → Type 0) (x : List ℕ) → AllByRecursion P x → AllByRecursion P (between x)
part_between P x all = part_take P (length x - 2) (drop 1 x) (part_drop P 1 x all)

small_first : (x : List ℕ) → AllByRecursion (λ b. b < 256) x → get_or x 0 0 < 256
small_first [] all = omega arith
small_first (b ∷ x) all = all.0

low_digit : (byte : ℕ) → digit_worth byte ≤ 15
low_digit byte = search (rules, tests)

by_letter : (n r t x : Bool) (hex other : ℕ) → hex < 256 → other < 256 → cond n 10 (cond r 13 (cond t 9 (cond x hex other))) < 256
by_letter true r t x hex other h e = omega arith
by_letter false true t x hex other h e = omega arith
by_letter false false true x hex other h e = omega arith
by_letter false false false true hex other h e = h
by_letter false false false false hex other h e = e

escaped_small : (t : List ℕ) → AllByRecursion (λ b. b < 256) t → escaped t < 256
escaped_small t all =
    let high = low_digit (get_or t 1 0) in
    let low = low_digit (get_or t 2 0) in
    by_letter (get_or t 0 0 == 110) (get_or t 0 0 == 114) (get_or t 0 0 == 116) (get_or t 0 0 == 120) (16 * digit_worth (get_or t 1 0) + digit_worth (get_or t 2 0)) (get_or t 0 0) (omega (arith, high, low)) (small_first t all)

value_small : (b : ℕ) (t : List ℕ) → b < 256 → AllByRecursion (λ b. b < 256) t → char_value (b ∷ t) < 256
unfolding char_value
value_small b t first all = by_escape (b == 92)
  where
    by_escape : (is : Bool) → cond is (escaped t) b < 256
    by_escape true = escaped_small t all
    by_escape false = first

decoded_small : (x : List ℕ) (left : ℕ) → AllByRecursion (λ b. b < 256) x → AllByRecursion (λ b. b < 256) (decoded_behind left x)
decoded_small [] left all = tt
decoded_small (b ∷ x) (suc left) all = decoded_small x left all.1
decoded_small (b ∷ x) zero all = (value_small b x all.0 all.1, decoded_small x (char_size (b ∷ x) - 1) all.1)

-- regular expressions
slashed_less : (t : List ℕ) (k n : ℕ) → 0 < k → option_map (λ j. j + 1) (slashed_len t) ≡ Some n → option_map (λ j. j + 1) (slashed_len (take k t)) ≡ Some n
slashed_less t zero n some h = absurd (omega arith)
slashed_less [] (suc k) n some h = cc
slashed_less (b ∷ t) (suc k) n some h =
    let few = some_bytes (length (take k t)) in
    let many = some_bytes (length t) in
    ap (λ some. option_map (λ j. j + 1) (cond (some && is_in_line b) (Some 1) None)) (few ∙ sym many) ∙ h

char_less : (f : _) (b : ℕ) (t : List ℕ) (k n : ℕ) → ((t : List ℕ) → escape_len f t ≡ slashed_len t) → 0 < k → char_len f (b ∷ t) ≡ Some n → char_len f (b ∷ take k t) ≡ Some n
unfolding char_len
char_less f b t k n escapes some h = by_escape (b == 92) h
  where
    by_escape : (is : Bool) → cond is (option_map (λ j. j + 1) (escape_len f t)) (cond (may_stand f b) (Some 1) None) ≡ Some n → cond is (option_map (λ j. j + 1) (escape_len f (take k t))) (cond (may_stand f b) (Some 1) None) ≡ Some n
    by_escape false h = h
    by_escape true h = ap (λ o. option_map (λ j. j + 1) o) (escapes (take k t)) ∙ slashed_less t k n some (ap (λ o. option_map (λ j. j + 1) o) (sym (escapes t)) ∙ h)

-- a literal that ends in a text ends so in its own bytes
end_front : (f : _) (t : List ℕ) (at left end : ℕ) → ((t : List ℕ) → escape_len f t ≡ slashed_len t) → literal_end f at left t ≡ Some end → literal_end f at left (take (end - at) t) ≡ Some end
end_front f [] at left end escapes h = cc
end_front f (b ∷ t) at (suc left) end escapes h =
    let ends = literal_ends f t (at + 1) left end h in
    let behind : at + 1 + left < end = ends.0 in
    let place : end - at ≡ suc (end - (at + 1)) = omega arith in
    subst (λ n. literal_end f at (suc left) (take n (b ∷ t)) ≡ Some end) (sym place) (end_front f t (at + 1) left end escapes h)
end_front f (b ∷ t) at zero end escapes h =
    by_close (b == closing f) (char_len f (b ∷ t)) refl refl h (λ left is. (literal_ends f t (at + 1) left end is).0) (λ left. end_front f t (at + 1) left end escapes)
  where
    by_close : (closes : Bool) (o : Option ℕ) → (b == closing f) ≡ closes → char_len f (b ∷ t) ≡ o → closed closes at o (λ n. literal_end f (at + 1) (n - 1) t) ≡ Some end →
        ((left : ℕ) → literal_end f (at + 1) left t ≡ Some end → at + 1 + left < end) →
        ((left : ℕ) → literal_end f (at + 1) left t ≡ Some end → literal_end f (at + 1) left (take (end - (at + 1)) t) ≡ Some end) → literal_end f at 0 (take (end - at) (b ∷ t)) ≡ Some end
    by_close true o is char h before deeper =
        let e : at + 1 ≡ end = cc in
        let place : end - at ≡ suc 0 = omega (arith, e) in
        subst (λ n. literal_end f at 0 (take n (b ∷ t)) ≡ Some end) (sym place) (ap (λ c. closed c at (char_len f (b ∷ [])) (λ n. literal_end f (at + 1) (n - 1) [])) is ∙ ap (λ n. Some n) e)
    by_close false None is char h before deeper = cc
    by_close false (Some n) is char h before deeper =
        let behind : at + 1 + (n - 1) < end = before (n - 1) h in
        let place : end - at ≡ suc (end - (at + 1)) = omega arith in
        let k : ℕ = end - (at + 1) in
        let some : 0 < end - (at + 1) = omega arith in
        subst (λ m. literal_end f at 0 (take m (b ∷ t)) ≡ Some end) (sym place)
        (ap (λ c. closed c at (char_len f (b ∷ take k t)) (λ n. literal_end f (at + 1) (n - 1) (take k t))) is
        ∙ ap (λ o. closed false at o (λ n. literal_end f (at + 1) (n - 1) (take k t))) (char_less f b t k n escapes some char) ∙ deeper (n - 1) h)

between_front : (b : ℕ) (t : List ℕ) (n : ℕ) → 0 < n → n ≤ suc (length t) → between (take n (b ∷ t)) ≡ take (n - 1 - 1) t
between_front b t zero some h = absurd (omega arith)
between_front b t (suc n) some h =
    let long : length (take n t) ≡ n = length-first t n (omega arith) in
    let less : suc (length (take n t)) - 2 ≡ suc n - 1 - 1 = omega (arith, long) in
    ap (λ m. take m (take n t)) less ∙ take-take (suc n - 1 - 1) n t (omega arith)

-- its bytes are what stands between the slashes, with a slash behind it
slash_last : (f : _) (t : List ℕ) (n : ℕ) → closing f ≡ 47 → literal_end f 1 0 t ≡ Some n → (take (n - 1 - 1) t ++ 47 ∷ [] ≡ take (n - 1) t) × (1 < n) × (n ≤ suc (length t))
slash_last f t n closes h =
    let ends = literal_ends f t 1 0 n h in
    let behind : 1 + 0 < n = ends.0 in
    let within : n ≤ 1 + length t = ends.1 in
    let last : get_or t (n - 1 - 1) 0 ≡ 47 = ends.2 ∙ closes in
    let place : n - 1 - 1 + 1 ≡ n - 1 = omega arith in
    (sym (ap (λ k. take k t) (sym place) ∙ take_more t (n - 1 - 1) 0 (omega arith) ∙ ap (λ b. take (n - 1 - 1) t ++ b ∷ []) last), omega arith, omega arith)

regex_len : (f : _) (b : ℕ) (t : List ℕ) (n : ℕ) → opening f ≡ 1 → closing f ≡ 47 → ((t : List ℕ) → escape_len f t ≡ slashed_len t) → literal_len f (b ∷ t) ≡ Some n →
    literal_len f (47 ∷ (between (take n (b ∷ t)) ++ 47 ∷ [])) ≡ Some (suc (length (between (take n (b ∷ t)) ++ 47 ∷ [])))
unfolding literal_len
regex_len f b t n opens closes escapes h =
    let here : literal_end f 1 0 t ≡ Some n = ap (λ k. literal_end f k 0 (drop k (b ∷ t))) (sym opens) ∙ h in
    let last = slash_last f t n closes here in
    let whole : between (take n (b ∷ t)) ++ 47 ∷ [] ≡ take (n - 1) t = ap (λ x. x ++ 47 ∷ []) (between_front b t n (omega (arith, last.1)) last.2) ∙ last.0 in
    let within = last.2 in
    let some = last.1 in
    let long : suc (length (take (n - 1) t)) ≡ n = omega (arith, length-first t (n - 1) (omega (arith, within)), some) in
    ap (λ k. literal_end f k 0 (drop k (47 ∷ (between (take n (b ∷ t)) ++ 47 ∷ [])))) opens
    ∙ ap (λ x. literal_end f 1 0 x) whole ∙ end_front f t 1 0 n escapes here ∙ ap (λ m. Some m) (sym long) ∙ ap (λ x. Some (suc (length x))) (sym whole)

regex_from : (b : ℕ) (t x : List ℕ) (divides : Bool) (n m : ℕ) →
    ((f : _) → opening f ≡ 1 → closing f ≡ 47 → ((t : List ℕ) → escape_len f t ≡ slashed_len t) → literal_len f (b ∷ t) ≡ Some n → literal_len f (47 ∷ x) ≡ Some m) →
    element_at divides (b ∷ t) ≡ token_of token.Regex (Some n) → element_at false (47 ∷ x) ≡ token_of token.Regex (Some m)
unfolding element_at literal_at
regex_from b t x divides n m h e = ap (token_of token.Regex) (h _ refl refl (λ t. refl) (regex_stands (b ∷ t) divides n e).1)

regex_one : (t : List ℕ) (divides : Bool) (n : ℕ) → 0 < n → n ≤ length t → element_at divides t ≡ token_of token.Regex (Some n) →
    element_at false (written (regex (between (take n t)))) ≡ token_of token.Regex (Some (length (written (regex (between (take n t))))))
regex_one [] divides n some within e = absurd (omega arith)
regex_one (b ∷ t) divides n some within e =
    regex_from b t (between (take n (b ∷ t)) ++ 47 ∷ []) divides n (suc (length (between (take n (b ∷ t)) ++ 47 ∷ []))) (λ f. regex_len f b t n) e

-- a token of a text, by its number
module _ (all : List ℕ) (tokens : List Token) (lexed : IsLexed all tokens) (at : ℕ) (inside : at < length tokens) where
  abbrev here : Token
  here = numbered tokens at

  abbrev its : List ℕ
  its = bytes_of all here

  fits : (here.span.from < here.span.to) × (here.span.to ≤ length all)
  fits = span_within tokens 0 (length all) at (token_at token.Id 0 0) lexed.order inside

  stands_as : (kind : TokenKind) → here.kind ≡ kind → (divides : Bool) × (element_at divides (drop here.span.from all) ≡ token_of kind (Some (here.span.to - here.span.from)))
  stands_as kind e =
      let stands = of_each (StandsIn all) tokens at (token_at token.Id 0 0) inside (stands_all all tokens lexed.read) in
      (stands.0, stands.1 ∙ ap (λ k. token_of k (Some (here.span.to - here.span.from))) e)

  some : 0 < here.span.to - here.span.from
  some = let less = fits.0 in omega (arith, less)

  within : here.span.to - here.span.from ≤ length (drop here.span.from all)
  within = let less = fits.0 in let most = fits.1 in omega (arith, less, most, length-drop here.span.from all)

  right : (m : MKind) → ¬ IsOwnFault here.kind its m
  right = of_each (IsRight all) tokens at (token_at token.Id 0 0) inside lexed.right

  name_sound : IsName here.kind → IsNameText its
  name_sound (inl id) = let stands = stands_as token.Id id in id_text (drop here.span.from all) stands.0 (here.span.to - here.span.from) some within stands.1
  name_sound (inr skip) =
      let its_text = of_each (HasItsText all) tokens at (token_at token.Id 0 0) inside lexed.texts in
      let spelled : spelling here.kind ≡ codes "skip" = ap spelling skip in
      subst IsNameText (sym (its_text (subst (λ s. 0 < length s) (sym spelled) (omega arith)) ∙ spelled)) skip_text

  number_sound : here.kind ≡ token.Number → number_value its < 2 ^ 64
  number_sound is =
      below (number_value its) (2 ^ 64) (nat_lt (number_value its) (2 ^ 64)) refl
      (λ high. (subst (λ k. (m : MKind) → ¬ IsOwnFault k its m) is right) module_kind.LiteralRange (refl, high))

  string_sound : here.kind ≡ token.String → IsUtf8 (string_value its)
  string_sound is =
      decoded_utf8 (between its) (string_utf8 all tokens lexed at (token_at token.Id 0 0) inside is) (string_characters all tokens lexed at (token_at token.Id 0 0) inside is)

  bytes_sound : AllByRecursion (λ b. b < 256) (bytes_value its)
  bytes_sound =
      let small = part_token (λ b. b < 256) all here (utf8_small all lexed.utf8) in
      decoded_small (between (drop 1 its)) 0 (part_between (λ b. b < 256) (drop 1 its) (part_drop (λ b. b < 256) 1 its small))

  regex_sound : here.kind ≡ token.Regex → IsRegexWord (between its)
  regex_sound is =
      let stands = stands_as token.Regex is in (
        regex_one (drop here.span.from all) stands.0 (here.span.to - here.span.from) some within stands.1,
        λ wrong. (subst (λ k. (m : MKind) → ¬ IsOwnFault k its m) is right) module_kind.BadRegex (refl, wrong),
        regex_utf8 all tokens lexed at (token_at token.Id 0 0) inside is,
      )

  pub told_sound : (w : Word) → IsTold w here.kind its → IsSound w
  told_sound (fixed kind) told = told.0.1
  told_sound (name x) told = subst IsNameText told.1 (name_sound told.0)
  told_sound (number n) told = subst (λ m. m < 2 ^ 64) told.1 (number_sound told.0)
  told_sound (text x) told = subst IsUtf8 told.1 (string_sound told.0)
  told_sound (bytes x) told = subst (AllByRecursion (λ b. b < 256)) told.1 bytes_sound
  told_sound (regex x) told = subst IsRegexWord told.1 (regex_sound told.0)

  pub told_no_zero : (w : Word) → IsTold w here.kind its → HasNoZero w
  told_no_zero (regex x) told = subst (AllByRecursion (λ b. 0 < b)) told.1 (part_between (λ b. 0 < b) its (part_token (λ b. 0 < b) all here lexed.no_zero))
  told_no_zero w told = tt
