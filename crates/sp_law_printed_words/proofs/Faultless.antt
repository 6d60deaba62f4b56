-- Nothing is wrong with the tokens of words but their level.
use Rattle.std.proofs.Common.{◌≡◌, ℕ, ◌+◌, ◌<◌, ◌≤◌, ◌^◌, min, inl, inr, List, [], ◌∷◌, ◌++◌, length, true, not, ◌==◌, refl, ap, subst, ◌∙◌, arith, rules, tests}
use Rattle.std.specs.Prelude.{flat_map}
use Rattle.std.specs.List.{AllByRecursion, position_or_len}
use Rattle.std.proofs.lemmas.List.{take_all}
use Rattle.std.proofs.lemmas.Str.{utf8_valid_len-IsUtf8}
use Rattle.sp_base.specs.declared.kinds.MKind.{MKind}
use Rattle.sp_base.specs.declared.kinds.MKind.TheVariants as module_kind
use Rattle.sp_base.specs.declared.places.Span.{Span}
use Rattle.sp_lex.specs.Faults.{most_bytes, looked_at, first_bad, IsOwnFault, IsTokenFault, IsReadingFault, IsTextFault, IsFault}
use Rattle.sp_lex.specs.Literals.{number_value}
use Rattle.sp_lex.specs.Nesting.{role_of, after, outermost}
use Rattle.sp_lex.specs.Readings.{reading, whole, bytes_of}
use Rattle.sp_lex.specs.Signs.{word_kind}
use Rattle.sp_lex.specs.declared.kinds.TokenKind.{TokenKind}
use Rattle.sp_lex.specs.declared.kinds.TokenKind.TheVariants as token
use Rattle.sp_lex.specs.declared.tokens.Token.{Token}
use Rattle.sp_literals.specs.Values.{IsName}
use Rattle.sp_print.specs.Words.{Word, fixed, name, number, text, bytes, regex, written}
use Rattle.sp_regex.specs.Syntax.{IsRegexText}
use Rattle.sp_law_printed_words.specs.Read.{text_of, AreThese}
use Rattle.sp_law_printed_words.specs.Sound.{is_fixed, read_as, IsSound, AreSound, HaveNoZero}
use Rattle.sp_law_printed_words.proofs.Clean.{IsClean, text_clean}
use Rattle.sp_law_printed_words.proofs.Lines.{tokens_in, lines_read}
use Rattle.sp_law_printed_words.proofs.Worth.{between_delimiters, number_worth}

fixed_right : (kind : TokenKind) (its : List ℕ) (m : MKind) → is_fixed kind ≡ true → ¬ IsOwnFault kind its m
fixed_right token.Number its m is fault = cc
fixed_right token.Regex its m is fault = cc
fixed_right _ its m is fault = fault

name_right : (kind : TokenKind) (its : List ℕ) (m : MKind) → IsName kind → ¬ IsOwnFault kind its m
name_right kind its m (inl id) fault = subst (λ k. IsOwnFault k its m) id fault
name_right kind its m (inr skip) fault = subst (λ k. IsOwnFault k its m) skip fault

word_right : (w : Word) (m : MKind) → IsSound w → ¬ IsOwnFault (read_as w) (written w) m
word_right (fixed kind) m sound fault = fixed_right kind (written (fixed kind)) m sound fault
word_right (name x) m sound fault = name_right (word_kind x) x m sound.2 fault
word_right (number n) m sound fault = let high : 2 ^ 64 ≤ number_value (written (number n)) = fault.1 in let worth = number_worth n sound in absurd (omega (arith, high, worth, sound))
word_right (text x) m sound fault = fault
word_right (bytes x) m sound fault = fault
word_right (regex x) m sound fault = sound.1 (subst (λ y. ¬ IsRegexText y) (between_delimiters 47 47 x) fault.1)

deep_only : (w : Word) (its : List ℕ) (t : Token) (nesting : _) (m : MKind) → IsSound w → t.kind ≡ read_as w → its ≡ written w → IsTokenFault its nesting t m → m ≡ module_kind.TooDeep
deep_only w its t nesting m sound kind_is bytes_are (inl own) = absurd (word_right w m sound (subst (λ k. IsOwnFault k (written w) m) kind_is (subst (λ b. IsOwnFault t.kind b m) bytes_are own)))
deep_only w its t nesting m sound kind_is bytes_are (inr deep) = deep.0

reading_fault : (all : List ℕ) (ws : List Word) (ts : List Token) (nesting : _) (span : Span) (m : MKind) → AllByRecursion IsSound ws → AreThese all ws ts → IsReadingFault all nesting (whole ts) span m → m ≡ module_kind.TooDeep
reading_fault all [] [] nesting span m sound these fault = absurd fault
reading_fault all [] (t ∷ ts) nesting span m sound these fault = absurd these
reading_fault all (w ∷ ws) [] nesting span m sound these fault = absurd these
reading_fault all (w ∷ ws) (t ∷ ts) nesting span m sound these (inl here) = deep_only w (bytes_of all t) t nesting m sound.0 these.0.kind these.0.bytes here.1
reading_fault all (w ∷ ws) (t ∷ ts) nesting span m sound these (inr later) = reading_fault all ws ts (after nesting (role_of t.kind)) span m sound.1 these.1 later

all_append : (xs ys : List Word) → AllByRecursion IsSound xs → AllByRecursion IsSound ys → AllByRecursion IsSound (xs ++ ys)
all_append [] ys first second = second
all_append (x ∷ xs) ys first second = (first.0, all_append xs ys first.1 second)

sound_lines : (lines : List (List Word)) → AllByRecursion (AllByRecursion IsSound) lines → AllByRecursion IsSound (flat_map (λ ws. ws) lines)
sound_lines [] sound = tt
sound_lines (ws ∷ lines) sound = all_append ws (flat_map (λ ws. ws) lines) sound.0 (sound_lines lines sound.1)

no_zero : (b : ℕ) → 0 < b → not (b == 0) ≡ true
no_zero b h = search (rules, tests)

no_zeros : (x : List ℕ) → AllByRecursion (λ b. 0 < b) x → position_or_len (λ byte. byte == 0) x ≡ length x
no_zeros [] all = refl
no_zeros (b ∷ x) all = let here = no_zero b all.0 in let more = no_zeros x all.1 in rw here (omega (arith, more))

none_bad : (x : List ℕ) → IsClean x → first_bad x ≡ length x
none_bad x clean =
    let valid = utf8_valid_len-IsUtf8 x clean.0 in
    let zeros = no_zeros x clean.1 in
    ap (λ n. min n (position_or_len (λ byte. byte == 0) x)) valid ∙ ap (λ n. min (length x) n) zeros ∙ omega arith

looked_at_all : (x : List ℕ) → length x ≤ most_bytes → looked_at x ≡ x
looked_at_all x small = take_all (most_bytes + 1) x (omega (arith, small))

text_fault : (x : List ℕ) (span : Span) (m : MKind) → IsClean x → length x ≤ most_bytes → ¬ IsTextFault x span m
text_fault x span m clean small (inl bad) =
    let less : first_bad (looked_at x) < length (looked_at x) = bad.2 in
    let same = looked_at_all x small in
    let here : first_bad x < length x = subst (λ y. first_bad y < length y) same less in
    let none = none_bad x clean in
    absurd (omega (arith, here, none))
text_fault x span m clean small (inr large) = let over : most_bytes < length x = large.2 in absurd (omega (arith, over, small))

pub no_other_fault : (lines : List (List Word)) → AreSound lines → HaveNoZero lines → length (text_of lines) ≤ most_bytes → (span : Span) (m : MKind) → IsFault (text_of lines) span m → m ≡ module_kind.TooDeep
no_other_fault lines sound zero small span m (inl fault) = absurd (text_fault (text_of lines) span m (text_clean lines sound zero) small fault)
no_other_fault lines sound zero small span m (inr fault) =
    let read = lines_read lines sound in
    let same = looked_at_all (text_of lines) small in
    let here = subst (λ x. IsReadingFault x outermost (reading x) span m) same fault in
    reading_fault (text_of lines) (flat_map (λ ws. ws) lines) (tokens_in 0 lines) outermost span m (sound_lines lines sound.words) read.these
    (subst (λ r. IsReadingFault (text_of lines) outermost r span m) read.read here)
