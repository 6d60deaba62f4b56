-- Tokens that are all together a module's are their own longest run.
use Rattle.std.proofs.Common.{ℕ, zero, suc, Result, Ok, Err, get_or, ◌≡◌, ◌+◌, ◌≤◌, ◌<◌, List, [], ◌∷◌, length, take, drop, refl, ap, ◌∙◌, sym, subst, arith}
use Rattle.std.specs.Prelude.{IfErr}
use Rattle.std.specs.Result.{IsErrAnd}
use Rattle.std.proofs.lemmas.List.{take_all, append-nil}
use Rattle.sp_base.specs.declared.kinds.MKind.{MKind}
use Rattle.sp_base.specs.declared.places.Span.{Span}
use Rattle.sp_lex.specs.Faults.{OnDiag}
use Rattle.sp_lex.specs.Readings.{InOrder}
use Rattle.sp_lex.specs.declared.tokens.ReadFault.{ReadFault}
use Rattle.sp_lex.specs.declared.tokens.ReadFault.TheVariants as fault
use Rattle.sp_lex.specs.declared.tokens.Token.{Token}
use Rattle.sp_parser.specs.declared.symbol.ActionAt.{ActionAt}
use Rattle.sp_grammar.specs.declared.language.Start.TheVariants.{Module}
use Rattle.sp_grammar.specs.Sentences.{IsSentence}
use Rattle.sp_phrases.specs.Kinds.{numbers_of}
use Rattle.sp_phrases.specs.Runs.{IsLongestRun, IsPhrase, IsRead, IsRefused, refused_at, refused_with, unexpected}
use Rattle.sp_phrases.proofs.Longest.{numbers_length, inside_of}
use Rattle.sp_phrases.proofs.Unique.{one_longest, one_derivation}
use Rattle.sp_ast.specs.Trees.{Tree}
use Rattle.sp_lex.specs.Lexed.{Lexed}
use Rattle.sp_read_expr.specs.Reading.{IsTreeRead}
use Rattle.sp_read_unit.specs.Modules.{IsModule, IsModuleText, IsModuleRefused}

-- all numbers of the tokens
all_numbers : (tokens : List Token) → take (length tokens) (numbers_of tokens) ≡ numbers_of tokens
all_numbers tokens = let same : length (numbers_of tokens) ≡ length tokens = numbers_length tokens in take_all (length tokens) (numbers_of tokens) (omega arith)

text_of_module : (tokens : List Token) (actions : List ActionAt) → IsModule tokens actions → IsPhrase Module tokens (length tokens) actions
text_of_module tokens actions d = subst (λ w. IsSentence Module w actions) (sym (all_numbers tokens)) d

longest_of_module : (tokens : List Token) (actions : List ActionAt) → IsModule tokens actions → IsLongestRun Module tokens (length tokens)
longest_of_module tokens actions d = record {
  within = let same : length (numbers_of tokens) ≡ length tokens = numbers_length tokens in omega arith;
  begins = ([], actions, tt, subst (λ w. IsSentence Module w actions) (sym (append-nil (take (length tokens) (numbers_of tokens)) ∙ all_numbers tokens)) d);
  stops = λ h. absurd (let same : length (numbers_of tokens) ≡ length tokens = numbers_length tokens in omega arith);
}

pub one_module : (tokens : List Token) (first second : List ActionAt) → IsModule tokens first → IsModule tokens second → first ≡ second
one_module tokens first second p q = one_derivation Module tokens (length tokens) first second (text_of_module tokens first p) (text_of_module tokens second q)

-- a shorter longest run, or one that is no text, belongs to no module
pub none_with_rest : (tokens : List Token) (m : ℕ) → IsLongestRun Module tokens m → m < length tokens → IsModuleText tokens → ⊥
none_with_rest tokens m l less (actions, d) =
    let same : m ≡ length tokens = one_longest Module tokens m (length tokens) l (longest_of_module tokens actions d) in
    omega arith

none_without_text : (tokens : List Token) (m : ℕ) → IsLongestRun Module tokens m → ((actions : List ActionAt) → IsPhrase Module tokens m actions → ⊥) → IsModuleText tokens → ⊥
none_without_text tokens m l none (actions, d) =
    none actions (subst (λ n. IsPhrase Module tokens n actions) (sym (one_longest Module tokens m (length tokens) l (longest_of_module tokens actions d))) (text_of_module tokens actions d))

-- what is refused as a run from the front is refused as a module
pub module_refused : (tokens : List Token) (end : ℕ) (span : Span) (kind : MKind) → IsRefused Module tokens 0 end span kind → IsModuleRefused tokens end span kind
module_refused tokens end span kind (m, l, none, place, why) =
    let front : 0 + m ≡ m = omega arith in
    (m, l, none_without_text tokens m l none, place ∙ ap (λ j. refused_at end (drop j tokens)) front, why ∙ ap (λ j. refused_with (drop j tokens)) front)

pub on_refused : (tokens : List Token) (end : ℕ) (f : ReadFault) → OnDiag (λ span kind. IsRefused Module tokens 0 end span kind) f → OnDiag (λ span kind. IsModuleRefused tokens end span kind) f
on_refused tokens end (fault.Diag span kind) is = module_refused tokens end span kind is
on_refused tokens end fault.NoMemory is = tt

-- what is left behind the place
left_at : (tokens : List Token) (to : ℕ) (token : Token) → to < length tokens → token ≡ get_or tokens to token → drop to tokens ≡ token ∷ drop (suc to) tokens
left_at [] to token less is = absurd (omega arith)
left_at (t ∷ tokens) zero token less is = ap (λ u. u ∷ tokens) (sym is)
left_at (t ∷ tokens) (suc to) token less is = left_at tokens to token (omega arith) is

-- a module's text with tokens behind it is refused at the first of them
pub left_over_refused : (tokens : List Token) (end to : ℕ) (token : Token) (actions : List ActionAt) (f : ReadFault) → to < length tokens → token ≡ get_or tokens to token → IsRead Module tokens 0 actions to
    → f ≡ fault.Diag token.span (unexpected token.kind) → OnDiag (λ span kind. IsModuleRefused tokens end span kind) f
left_over_refused tokens end to token actions f less at (m, is, l, text) e =
    let front : to ≡ m = omega arith in
    let next : drop m tokens ≡ token ∷ drop (suc to) tokens = ap (λ j. drop j tokens) (sym front) ∙ left_at tokens to token less at in
    subst (λ f. OnDiag (λ span kind. IsModuleRefused tokens end span kind) f) (sym e)
    (m, l, none_with_rest tokens m l (omega arith), ap (λ ts. refused_at end ts) (sym next), ap (λ ts. refused_with ts) (sym next))

-- the left over token stands in the source
pub left_over_inside : (tokens : List Token) (end to : ℕ) (token : Token) (f : ReadFault) → to < length tokens → token ≡ get_or tokens to token → InOrder 0 tokens end
    → f ≡ fault.Diag token.span (unexpected token.kind) → OnDiag (λ span _. span.from ≤ end) f
left_over_inside tokens end to token f less at order e =
    inside_of tokens end to (unexpected token.kind) f (e ∙ ap (λ ts. fault.Diag (refused_at end ts) (unexpected token.kind)) (sym (left_at tokens to token less at))) order

-- what holds of a fault holds where it is passed on
pub passed_on : {T : Type 0} (r : Result T ReadFault) (fault : ReadFault) (P : ReadFault → Type 0) → IsErrAnd r (λ e. e ≡ fault) → P fault → IfErr r P
passed_on (Ok v) fault P is by = tt
passed_on (Err e) fault P is by = subst (λ f. P f) (sym is) by

-- what is read from the front
pub run_of_tree : (lexed : Lexed) (t : Tree) (to : ℕ) (r : IsTreeRead Module lexed 0 t to) → IsRead Module lexed.list 0 r.actions to
run_of_tree lexed t to r = (r.count, r.behind, r.longest, r.text)

get_any : (tokens : List Token) (i : ℕ) (d e : Token) → i < length tokens → get_or tokens i d ≡ get_or tokens i e
get_any [] i d e h = absurd (omega arith)
get_any (t ∷ tokens) zero d e h = refl
get_any (t ∷ tokens) (suc i) d e h = get_any tokens i d e (omega arith)

pub left_inside : (tokens list : List Token) (end to : ℕ) (d : Token) (f : ReadFault) → list ≡ tokens → to < length tokens → InOrder 0 tokens end
    → f ≡ fault.Diag (get_or list to d).span (unexpected (get_or list to d).kind) → OnDiag (λ span _. span.from ≤ end) f
left_inside tokens list end to d f same less order e =
    left_over_inside tokens end to (get_or tokens to d) f less (get_any tokens to d (get_or tokens to d) less) order (e ∙ ap (λ ts. fault.Diag (get_or ts to d).span (unexpected (get_or ts to d).kind)) same)

pub left_refused : (lexed : Lexed) (list : List Token) (end to : ℕ) (d : Token) (t : Tree) (f : ReadFault) → list ≡ lexed.list → to < length lexed.list → IsTreeRead Module lexed 0 t to
    → f ≡ fault.Diag (get_or list to d).span (unexpected (get_or list to d).kind) → OnDiag (λ span kind. IsModuleRefused lexed.list end span kind) f
left_refused lexed list end to d t f same less r e =
    left_over_refused lexed.list end to (get_or lexed.list to d) r.actions f less (get_any lexed.list to d (get_or lexed.list to d) less) (run_of_tree lexed t to r) (e ∙ ap (λ ts. fault.Diag (get_or ts to d).span (unexpected (get_or ts to d).kind)) same)
