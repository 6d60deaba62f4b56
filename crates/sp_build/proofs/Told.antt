-- What the kind of a token tells to the tree that is built of it.
use Rattle.std.specs.Prelude.{ℕ, ◌≡◌, List, [], Bool, true, false, ◌==◌, Option, Some, None, option_map, refl}
use Rattle.std.proofs.Common.{◌∙◌, ap, sym, subst, inl, inr, eq-eqb, eqb-true}
use Rattle.std.proofs.lemmas.Bool.{or_cases}
use Rattle.sp_ast.specs.declared.forms.Form.{Form}
use Rattle.sp_words.specs.declared.words.IntWord.{IntWord}
use Rattle.sp_words.specs.declared.words.IntWord.TheVariants as integer
use Rattle.sp_words.specs.declared.words.AttributeName.{AttributeName}
use Rattle.sp_words.specs.declared.words.AttributeName.TheVariants as attribute_name
use Rattle.sp_words.specs.declared.words.HookName.{HookName}
use Rattle.sp_words.specs.declared.words.HookName.TheVariants as hook_name
use Rattle.sp_words.specs.declared.keywords.Keyword.TheVariants as keyword
use Rattle.sp_words.specs.declared.punctuation.Punctuation.TheVariants as punctuation
use Rattle.sp_words.specs.declared.words.Property.TheVariants as property
use Rattle.sp_lex.specs.declared.kinds.Absent.TheVariants as absent
use Rattle.sp_lex.specs.declared.kinds.TokenKind.{TokenKind}
use Rattle.sp_lex.specs.declared.kinds.TokenKind.TheVariants as token
use Rattle.sp_grammar.specs.declared.terminals.Terminal.{Terminal}
use Rattle.sp_grammar.specs.declared.terminals.Terminal.TheVariants as terminal
use Rattle.sp_grammar.specs.Terminals.{terminal_number}
use Rattle.sp_grammar.specs.declared.actions.Action.{Action}
use Rattle.sp_grammar.specs.declared.actions.Action.TheVariants as build
use Rattle.sp_phrases.specs.Kinds.{terminal_of, number_of}
use Rattle.sp_ast.specs.Groups.{group}
use Rattle.sp_build.specs.Rules.{Leaf, always, by_name, by_string, by_bytes, by_regex, by_number, by_integer, by_hook_name, Rule, takes, closes_integer, closes_attribute, rule}
use Rattle.sp_build.specs.Tokens.{form_of, integer_of, attribute_of}
use Rattle.sp_build.proofs.Shapes.{leaf_group, is_told}

pub never : {A : Type 0} → false ≡ true → A
never h = absurd (let q : false ≡ true = h in cc)

-- the token is of this terminal
abbrev pub is_kind : Terminal → TokenKind → Bool
is_kind t kind = number_of (terminal_of kind) == terminal_number t

a_name : (kind : TokenKind) → is_kind terminal.Id kind ≡ true → kind ≡ token.Id
a_name token.Id h = refl
a_name (token.Keyword keyword.Module) h = never h
a_name (token.Punctuation punctuation.Colon) h = never h
a_name (token.Property property.Filter) h = never h
a_name (token.Absent absent.Skip) h = never h
a_name _ h = never h

a_skip : (kind : TokenKind) → is_kind terminal.Skip kind ≡ true → kind ≡ token.Absent absent.Skip
a_skip (token.Absent absent.Skip) h = refl
a_skip (token.Keyword keyword.Module) h = never h
a_skip (token.Punctuation punctuation.Colon) h = never h
a_skip (token.Property property.Filter) h = never h
a_skip _ h = never h

a_string : (kind : TokenKind) → is_kind terminal.String kind ≡ true → kind ≡ token.String
a_string token.String h = refl
a_string (token.Keyword keyword.Module) h = never h
a_string (token.Punctuation punctuation.Colon) h = never h
a_string (token.Property property.Filter) h = never h
a_string (token.Absent absent.Skip) h = never h
a_string _ h = never h

some_bytes : (kind : TokenKind) → is_kind terminal.Bytes kind ≡ true → kind ≡ token.Bytes
some_bytes token.Bytes h = refl
some_bytes (token.Keyword keyword.Module) h = never h
some_bytes (token.Punctuation punctuation.Colon) h = never h
some_bytes (token.Property property.Filter) h = never h
some_bytes (token.Absent absent.Skip) h = never h
some_bytes _ h = never h

a_regex : (kind : TokenKind) → is_kind terminal.Regex kind ≡ true → kind ≡ token.Regex
a_regex token.Regex h = refl
a_regex (token.Keyword keyword.Module) h = never h
a_regex (token.Punctuation punctuation.Colon) h = never h
a_regex (token.Property property.Filter) h = never h
a_regex (token.Absent absent.Skip) h = never h
a_regex _ h = never h

a_number : (kind : TokenKind) → is_kind terminal.Number kind ≡ true → kind ≡ token.Number
a_number token.Number h = refl
a_number (token.Keyword keyword.Module) h = never h
a_number (token.Punctuation punctuation.Colon) h = never h
a_number (token.Property property.Filter) h = never h
a_number (token.Absent absent.Skip) h = never h
a_number _ h = never h

an_hook_name : (kind : TokenKind) → is_kind terminal.Hook kind ≡ true → (h : HookName) × (kind ≡ token.Hook h)
an_hook_name (token.Hook x) h = (x, refl)
an_hook_name (token.Keyword keyword.Module) h = never h
an_hook_name (token.Punctuation punctuation.Colon) h = never h
an_hook_name (token.Property property.Filter) h = never h
an_hook_name (token.Absent absent.Skip) h = never h
an_hook_name _ h = never h

-- the token is the word of an integer type
pub an_integer : (kind : TokenKind) → is_kind terminal.IntWord kind ≡ true → (word : IntWord) × (integer_of kind ≡ Some word)
an_integer (token.Integer w) h = (w, refl)
an_integer (token.Keyword keyword.Module) h = never h
an_integer (token.Punctuation punctuation.Colon) h = never h
an_integer (token.Property property.Filter) h = never h
an_integer (token.Absent absent.Skip) h = never h
an_integer _ h = never h

-- the token is an attribute of a field
pub an_attribute : (kind : TokenKind) → is_kind terminal.Attribute kind ≡ true → (name : AttributeName) × (attribute_of kind ≡ Some name)
an_attribute (token.Attribute a) h = (a, refl)
an_attribute (token.Keyword keyword.Module) h = never h
an_attribute (token.Punctuation punctuation.Colon) h = never h
an_attribute (token.Property property.Filter) h = never h
an_attribute (token.Absent absent.Skip) h = never h
an_attribute _ h = never h

-- whatever the token tells, the tree is of one group
abbrev pub IsEven : Leaf → Type 0
IsEven (always form) = Unit {0}
IsEven (by_name form) = (x : List ℕ) → group (form x) ≡ group (form [])
IsEven (by_string form) = (x : List ℕ) → group (form x) ≡ group (form [])
IsEven (by_bytes form) = (x : List ℕ) → group (form x) ≡ group (form [])
IsEven (by_regex form) = (x : List ℕ) → group (form x) ≡ group (form [])
IsEven (by_number form) = (n : ℕ) → group (form n) ≡ group (form 0)
IsEven (by_integer form) = (word : IntWord) → group (form word) ≡ group (form integer.Uint8)
IsEven (by_hook_name form) = (h : HookName) → group (form h) ≡ group (form hook_name.Init)

abbrev pub IsEvenRule : Rule → Type 0
IsEvenRule (takes l) = IsEven l
IsEvenRule (closes_integer slots form) = (word : IntWord) → group (form word) ≡ group (form integer.Uint8)
IsEvenRule (closes_attribute slots form) = (name : AttributeName) → group (form name) ≡ group (form attribute_name.Size)
IsEvenRule _ = Unit {0}

pub even : (m : Action) → IsEvenRule (rule m)
even build.Name = λ x. refl
even build.String = λ x. refl
even build.Number = λ n. refl
even build.HookName = λ h. refl
even build.IntType = λ word. refl
even build.NameTarget = λ x. refl
even build.HookTarget = λ h. refl
even build.Attribute = λ name. refl
even build.BytesBase = λ x. refl
even build.RegexBase = λ x. refl
even build.NumberBase = λ word. refl
even build.IntBase = λ word. refl
even build.NumberExpr = λ n. refl
even build.StringExpr = λ x. refl
even build.BytesExpr = λ x. refl
even build.RegexExpr = λ x. refl
even build.TypedNumberExpr = λ word. refl
even _ = tt

-- the token has this number, where it is known
abbrev pub IsKind : Option ℕ → TokenKind → Type 0
IsKind None kind = Unit {0}
IsKind (Some k) kind = number_of (terminal_of kind) ≡ k

kind_told : (t : Terminal) (k : ℕ) (kind : TokenKind) → (k == terminal_number t) ≡ true → number_of (terminal_of kind) ≡ k → is_kind t kind ≡ true
kind_told t k kind e h = eq-eqb (number_of (terminal_of kind)) (terminal_number t) (h ∙ eqb-true k (terminal_number t) e)

-- the token is of some alternative, and this is of the leaf's group
abbrev pub IsTold : Leaf → TokenKind → List ℕ → Type 0
IsTold l kind bytes = (form : Form) × (form_of l kind bytes ≡ Some form) × (group form ≡ leaf_group l)

pub told : (l : Leaf) (next : Option ℕ) (kind : TokenKind) (bytes : List ℕ) → IsEven l → is_told l next ≡ true → IsKind next kind → IsTold l kind bytes
told (always form) next kind bytes e t k = (form, refl, refl)
told (by_name form) (Some n) kind bytes e t k = elim (or_cases (n == terminal_number terminal.Id) (n == terminal_number terminal.Skip) t) [
  | inl x ↦ subst (λ c. IsTold (by_name form) c bytes) (sym (a_name kind (kind_told terminal.Id n kind x k))) (form bytes, refl, e bytes)
  | inr x ↦ subst (λ c. IsTold (by_name form) c bytes) (sym (a_skip kind (kind_told terminal.Skip n kind x k))) (form bytes, refl, e bytes)
]
told (by_string form) (Some n) kind bytes e t k = subst (λ c. IsTold (by_string form) c bytes) (sym (a_string kind (kind_told terminal.String n kind t k))) (_, refl, e _)
told (by_bytes form) (Some n) kind bytes e t k = subst (λ c. IsTold (by_bytes form) c bytes) (sym (some_bytes kind (kind_told terminal.Bytes n kind t k))) (_, refl, e _)
told (by_regex form) (Some n) kind bytes e t k = subst (λ c. IsTold (by_regex form) c bytes) (sym (a_regex kind (kind_told terminal.Regex n kind t k))) (_, refl, e _)
told (by_number form) (Some n) kind bytes e t k = subst (λ c. IsTold (by_number form) c bytes) (sym (a_number kind (kind_told terminal.Number n kind t k))) (_, refl, e _)
told (by_integer form) (Some n) kind bytes e t k = let w = an_integer kind (kind_told terminal.IntWord n kind t k) in (form w.0, ap (λ o. option_map form o) w.1, e w.0)
told (by_hook_name form) (Some n) kind bytes e t k = let h = an_hook_name kind (kind_told terminal.Hook n kind t k) in subst (λ c. IsTold (by_hook_name form) c bytes) (sym h.1) (form h.0, refl, e h.0)
told (by_name form) None kind bytes e t k = never t
told (by_string form) None kind bytes e t k = never t
told (by_bytes form) None kind bytes e t k = never t
told (by_regex form) None kind bytes e t k = never t
told (by_number form) None kind bytes e t k = never t
told (by_integer form) None kind bytes e t k = never t
told (by_hook_name form) None kind bytes e t k = never t
