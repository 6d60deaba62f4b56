-- What is parsed of the numbers is read of the tokens.
use Rattle.std.proofs.Common.{ℕ, ◌≡◌, ◌+◌, ◌-◌, ◌≤◌, ◌<◌, List, [], ◌∷◌, length, take, drop, ap, ◌∙◌, sym, subst, arith}
use Rattle.std.proofs.lemmas.List.{drop-map, length-map, length-drop}
use Rattle.sp_lex.specs.declared.tokens.Token.{Token}
use Rattle.sp_lex.specs.Readings.{InOrder}
use Rattle.sp_parser.specs.declared.symbol.ActionAt.{ActionAt}
use Rattle.sp_parser.specs.declared.outcome.Outcome.{Outcome}
use Rattle.sp_grammar.specs.declared.language.Start.{Start}
use Rattle.sp_grammar.specs.Sentences.{IsSentence, IsLongestPrefix, IsParsed}
use Rattle.sp_phrases.specs.Kinds.{token_number, numbers_of}
use Rattle.std.proofs.Common.{zero, suc}
use Rattle.sp_base.specs.declared.kinds.MKind.{MKind}
use Rattle.sp_lex.specs.Faults.{OnDiag}
use Rattle.sp_lex.specs.declared.tokens.ReadFault.{ReadFault}
use Rattle.sp_lex.specs.declared.tokens.ReadFault.TheVariants as fault
use Rattle.sp_phrases.specs.Runs.{IsLongestRun, IsPhrase, IsRefused, refused_at, refused_with}

-- there are no more tokens than bytes
pub count_in_order : (at : ℕ) (tokens : List Token) (len : ℕ) → InOrder at tokens len → at + length tokens ≤ len
count_in_order at [] len h = let same : at ≤ len = h in omega arith
count_in_order at (t ∷ tokens) len h =
    let below : at ≤ t.span.from = h.0 in
    let more : t.span.from < t.span.to = h.1 in
    let rest : t.span.to + length tokens ≤ len = count_in_order t.span.to tokens len h.2 in
    omega arith

pub numbers_length : (tokens : List Token) → length (numbers_of tokens) ≡ length tokens
numbers_length tokens = length-map tokens token_number

pub numbers_from : (tokens : List Token) (ks : List ℕ) (at : ℕ) → ks ≡ numbers_of tokens → drop at ks ≡ numbers_of (drop at tokens)
numbers_from tokens ks at e = ap (λ w. drop at w) e ∙ drop-map token_number at tokens

-- the place behind a run is one of the tokens, or the end
pub run_within : (start : Start) (tokens : List Token) (at m : ℕ) → at ≤ length tokens → IsLongestRun start (drop at tokens) m → at + m ≤ length tokens
run_within start tokens at m h l =
    let within : m ≤ length (numbers_of (drop at tokens)) = l.within in
    let same : length (numbers_of (drop at tokens)) ≡ length (drop at tokens) = numbers_length (drop at tokens) in
    let left : length (drop at tokens) ≡ length tokens - at = length-drop at tokens in
    omega arith

pub run_of : (start : Start) (tokens : List Token) (ks : List ℕ) (at m : ℕ) → ks ≡ numbers_of tokens → IsLongestPrefix start (drop at ks) m → IsLongestRun start (drop at tokens) m
run_of start tokens ks at m e l = subst (λ w. IsLongestPrefix start w m) (numbers_from tokens ks at e) l

pub text_of : (start : Start) (tokens : List Token) (ks : List ℕ) (at m : ℕ) (actions : List ActionAt) → ks ≡ numbers_of tokens → IsSentence start (take m (drop at ks)) actions → IsPhrase start (drop at tokens) m actions
text_of start tokens ks at m actions e d = subst (λ w. IsSentence start (take m w) actions) (numbers_from tokens ks at e) d

pub none_of : (start : Start) (tokens : List Token) (ks : List ℕ) (at m : ℕ) → ks ≡ numbers_of tokens → ((actions : List ActionAt) → IsSentence start (take m (drop at ks)) actions → ⊥) → (actions : List ActionAt) → IsPhrase start (drop at tokens) m actions → ⊥
none_of start tokens ks at m e d actions t = d actions (subst (λ w. IsSentence start (take m w) actions) (sym (numbers_from tokens ks at e)) t)

-- what an outcome says
pub parsed_as : (start : Start) (w : List ℕ) (at : ℕ) (ArePassed : List ActionAt → Type 0) (o p : Outcome) → o ≡ p → IsParsed start w at ArePassed o → IsParsed start w at ArePassed p
parsed_as start w at ArePassed o p e h = subst (λ z. IsParsed start w at ArePassed z) e h

-- a refusal behind the longest run, which is no text
pub refused_of : (start : Start) (tokens : List Token) (at end m to : ℕ) (r : ReadFault) → r ≡ fault.Diag (refused_at end (drop to tokens)) (refused_with (drop to tokens)) → to ≡ at + m
    → IsLongestRun start (drop at tokens) m → ((actions : List ActionAt) → IsPhrase start (drop at tokens) m actions → ⊥) → OnDiag (λ span kind. IsRefused start tokens at end span kind) r
refused_of start tokens at end m to r e z l none =
    subst (λ f. OnDiag (λ span kind. IsRefused start tokens at end span kind) f) (sym e)
    (m, l, none, ap (λ j. refused_at end (drop j tokens)) z, ap (λ j. refused_with (drop j tokens)) z)

-- what is refused stands in the source
place_inside : (at j : ℕ) (tokens : List Token) (len : ℕ) → InOrder at tokens len → (refused_at len (drop j tokens)).from ≤ len
place_inside at zero [] len h = omega arith
place_inside at (suc j) [] len h = omega arith
place_inside at zero (t ∷ tokens) len h =
    let more : t.span.from < t.span.to = h.1 in
    let rest : t.span.to + length tokens ≤ len = count_in_order t.span.to tokens len h.2 in
    omega arith
place_inside at (suc j) (t ∷ tokens) len h = place_inside t.span.to j tokens len h.2

pub inside_of : (tokens : List Token) (len to : ℕ) (k : MKind) (r : ReadFault) → r ≡ fault.Diag (refused_at len (drop to tokens)) k → InOrder 0 tokens len → OnDiag (λ span _. span.from ≤ len) r
inside_of tokens len to k r e h = subst (λ f. OnDiag (λ span _. span.from ≤ len) f) (sym e) (place_inside 0 to tokens len h)
