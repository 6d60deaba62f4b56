-- A text is read in one way, and refused in one way.
use Rattle.std.proofs.Common.{◌≡◌, ℕ, List, [], ◌∷◌, length, drop, get_or, Option, Some, None, sym, ap, ◌∙◌, refl, subst, arith, ⊎_elim}
use Rattle.sp_base.specs.Kinds.{module_kind_number}
use Rattle.sp_base.specs.declared.kinds.MKind.{MKind}
use Rattle.sp_base.specs.declared.kinds.MKind.TheVariants as module_kind
use Rattle.sp_base.specs.declared.places.Span.{Span}
use Rattle.sp_lex.specs.declared.tokens.Token.{Token}
use Rattle.sp_lex.specs.Faults.{GoesBefore}
use Rattle.sp_lex.specs.Readings.{Reading, Ends, Stops, Reads as ReadsToken, whole}
use Rattle.sp_grammar.specs.declared.language.Start.TheVariants.{Module}
use Rattle.sp_phrases.specs.Runs.{refused_at as run_refused_at, refused_with}
use Rattle.sp_phrases.proofs.Unique.{one_longest}
use Rattle.sp_lex.specs.Lexed.{Lexed}
use Rattle.sp_ast.specs.Trees.{Tree}
use Rattle.sp_build.specs.Items.{built}
use Rattle.sp_build.specs.Building.{IsBuilt}
use Rattle.sp_read_unit.specs.Modules.{IsModuleText, IsModuleTree, IsModuleRefused}
use Rattle.sp_read_unit.proofs.Whole.{one_module}
use Rattle.sp_command.specs.declared.refusal.Refusal.{Refusal}
use Rattle.sp_read_file.specs.Files.{AreTokens, IsModuleOf, IsUnreadable, IsRefused, Reads, Refuses, place_in, refused_at}

-- the kinds by their numbers; none has the number 0
abbrev kinds : List MKind
kinds = module_kind.NoParser ∷ module_kind.NotText ∷ module_kind.BadToken ∷ module_kind.Unexpected ∷ module_kind.TooLarge ∷ module_kind.ModuleNotFound ∷ module_kind.ModuleTwice ∷ module_kind.NameTwice ∷ module_kind.UnknownName ∷ module_kind.TypeMismatch ∷ module_kind.NotAssignable ∷ module_kind.BadAttribute ∷ module_kind.MissingBound ∷ module_kind.AttributeClash ∷ module_kind.BadBitRange ∷ module_kind.LiteralRange ∷ module_kind.NotConstant ∷ module_kind.BadRegex ∷ module_kind.EmptyToken ∷ module_kind.NoLookAhead ∷ module_kind.LookAheadClash ∷ module_kind.UnknownHook ∷ module_kind.SelfOutside ∷ module_kind.MissingReturn ∷ module_kind.OutsideLoop ∷ module_kind.WrongArguments ∷ module_kind.FilterPlace ∷ module_kind.SyncNoToken ∷ module_kind.HookSeesState ∷ module_kind.TooMany ∷ module_kind.OutOfProfile ∷ module_kind.TooDeep ∷ module_kind.NoParser ∷ []

abbrev kind_at : ℕ → MKind
kind_at n = get_or kinds n module_kind.NoParser

numbered : (kind : MKind) → kind_at (module_kind_number kind) ≡ kind
numbered module_kind.NotText = refl
numbered module_kind.BadToken = refl
numbered module_kind.Unexpected = refl
numbered module_kind.TooLarge = refl
numbered module_kind.ModuleNotFound = refl
numbered module_kind.ModuleTwice = refl
numbered module_kind.NameTwice = refl
numbered module_kind.UnknownName = refl
numbered module_kind.TypeMismatch = refl
numbered module_kind.NotAssignable = refl
numbered module_kind.BadAttribute = refl
numbered module_kind.MissingBound = refl
numbered module_kind.AttributeClash = refl
numbered module_kind.BadBitRange = refl
numbered module_kind.LiteralRange = refl
numbered module_kind.NotConstant = refl
numbered module_kind.BadRegex = refl
numbered module_kind.EmptyToken = refl
numbered module_kind.NoLookAhead = refl
numbered module_kind.LookAheadClash = refl
numbered module_kind.UnknownHook = refl
numbered module_kind.SelfOutside = refl
numbered module_kind.MissingReturn = refl
numbered module_kind.OutsideLoop = refl
numbered module_kind.WrongArguments = refl
numbered module_kind.FilterPlace = refl
numbered module_kind.SyncNoToken = refl
numbered module_kind.HookSeesState = refl
numbered module_kind.TooMany = refl
numbered module_kind.OutOfProfile = refl
numbered module_kind.TooDeep = refl
numbered module_kind.NoParser = refl

one_kind : (first second : MKind) → module_kind_number first ≡ module_kind_number second → first ≡ second
one_kind first second e = sym (numbered first) ∙ ap kind_at e ∙ numbered second

abbrev tokens_in : Reading → List Token
tokens_in Ends = []
tokens_in (Stops at) = []
tokens_in (ReadsToken token more) = token ∷ tokens_in more

tokens_in_whole : (tokens : List Token) → tokens_in (whole tokens) ≡ tokens
tokens_in_whole [] = refl
tokens_in_whole (token ∷ tokens) = ap (λ more. token ∷ more) (tokens_in_whole tokens)

-- a text has one list of tokens
pub one_list : (text : List ℕ) (first second : List Token) → AreTokens text first → AreTokens text second → first ≡ second
one_list text first second a b = sym (tokens_in_whole first) ∙ ap tokens_in (sym a.read ∙ b.read) ∙ tokens_in_whole second

-- of two faults each of which goes before the other
one_place : (first second : Span) (k m : MKind) → GoesBefore first k second m → GoesBefore second m first k → first.from ≡ second.from
one_place first second k m a b = ⊎_elim (λ x. ⊎_elim (λ y. absurd (omega arith)) (λ y. absurd (omega (arith, y.0))) b) (λ x. x.0) a

one_number : (first second : Span) (k m : MKind) → GoesBefore first k second m → GoesBefore second m first k → module_kind_number k ≡ module_kind_number m
one_number first second k m a b =
    ⊎_elim
    (λ x. ⊎_elim (λ y. absurd (omega arith)) (λ y. absurd (omega (arith, y.0))) b)
    (λ x. ⊎_elim (λ y. absurd (omega (arith, x.0))) (λ y. omega (arith, x.1, y.1)) b)
    a

abbrev IsSamePlace : Span → MKind → Span → MKind → Type 0
IsSamePlace first k second m = (first.from ≡ second.from) × (k ≡ m)

one_module_refusal : (tokens : List Token) (end : ℕ) (first second : Span) (k m : MKind) → IsModuleRefused tokens end first k → IsModuleRefused tokens end second m → IsSamePlace first k second m
one_module_refusal tokens end first second k m (i, at_i, none_i, place_i, kind_i) (j, at_j, none_j, place_j, kind_j) =
    let same = one_longest Module tokens i j at_i at_j in
    (ap (λ span. let s : Span = span in s.from) (place_i ∙ ap (λ n. run_refused_at end (drop n tokens)) same ∙ sym place_j), kind_i ∙ ap (λ n. refused_with (drop n tokens)) same ∙ sym kind_j)

-- a text is refused at one place and with one number
pub one_fault : (text : List ℕ) (first second : Span) (k m : MKind) → IsUnreadable text first k → IsUnreadable text second m → IsSamePlace first k second m
one_fault text first second k m a b =
    ⊎_elim
    (λ x. ⊎_elim
    (λ y. let before = x.1 second m y.0 in let after = y.1 first k x.0 in (one_place first second k m before after, one_kind k m (one_number first second k m before after)))
    (λ y. absurd (y.1.right first k x.0)) b)
    (λ x. ⊎_elim
    (λ y. absurd (x.1.right second m y.0))
    (λ y. one_module_refusal x.0 (length text) first second k m x.2 (subst (λ tokens. IsModuleRefused tokens (length text) second m) (one_list text y.0 x.0 y.1 x.1) y.2)) b)
    a

-- no text that reads is refused
pub not_both : (text : List ℕ) (tree : Tree) (span : Span) (kind : MKind) → IsModuleOf text tree → IsUnreadable text span kind → ⊥
not_both text tree span kind (tokens, are, unit) b =
    ⊎_elim (λ x. are.right span kind x.0)
    (λ y. let read : IsModuleText tokens = (unit.0, unit.1) in y.2.2 (subst (λ ts. IsModuleText ts) (one_list text tokens y.0 are y.1) read)) b

abbrev Told : Type 0
Told = List ℕ → Option (List ℕ)

pub reads_or_refused : (files : Told) (path : List ℕ) (tree : Tree) (refusal : Refusal) → Reads (Some files) path tree → Refuses (Some files) path refusal → ⊥
reads_or_refused files path tree refusal (text, holds, is) (content, held, refused) =
    let r : IsRefused path (Some text) refusal = subst (λ c. IsRefused path c refusal) (held ∙ sym holds) refused in
    not_both text tree r.0 r.1 is r.2

-- a text has one tree
same_tree : (t u : Tree) → Some (built t ∷ []) ≡ Some (built u ∷ []) → t ≡ u
same_tree t u e = cc

tree_of_tokens : (lexed : Lexed) (t u : Tree) → IsModuleTree lexed t → IsModuleTree lexed u → t ≡ u
tree_of_tokens lexed t u x y =
    let e = one_module lexed.list x.0 y.0 x.1 y.1 in
    let z : IsBuilt lexed.text lexed.list y.0 t = subst (λ actions. IsBuilt lexed.text lexed.list actions t) e x.2 in
    same_tree t u (sym z ∙ y.2)

pub one_tree : (text : List ℕ) (t u : Tree) → IsModuleOf text t → IsModuleOf text u → t ≡ u
one_tree text t u x y =
    let e = one_list text y.0 x.0 y.1 x.1 in
    tree_of_tokens (record { text = text; list = x.0 }) t u x.2 (subst (λ tokens. IsModuleTree (record { text = text; list = tokens }) u) e y.2)

pub one_reading : (files : Told) (path : List ℕ) (t u : Tree) → Reads (Some files) path t → Reads (Some files) path u → t ≡ u
one_reading files path t u (text, holds, is) (other, held, reads) =
    let e : Some other ≡ Some text = held ∙ sym holds in
    let same : other ≡ text = cc in
    one_tree text t u is (subst (λ x. IsModuleOf x u) same reads)

refused_once : (path : List ℕ) (content : Option (List ℕ)) (first second : Refusal) → IsRefused path content first → IsRefused path content second → first ≡ second
refused_once path None first second a b = a ∙ sym b
refused_once path (Some text) first second (x, k, is, e) (y, m, other, f) =
    let same = one_fault text x y k m is other in
    e ∙ ap (λ at. refused_at path (place_in text at) k) same.0 ∙ ap (λ kind. refused_at path (place_in text y.from) kind) same.1 ∙ sym f

pub one_refusal : (files : Told) (path : List ℕ) (first second : Refusal) → Refuses (Some files) path first → Refuses (Some files) path second → first ≡ second
one_refusal files path first second (content, held, a) (other, holds, b) =
    refused_once path content first second a (subst (λ c. IsRefused path c second) (holds ∙ sym held) b)
