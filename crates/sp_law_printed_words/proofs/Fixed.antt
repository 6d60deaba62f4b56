-- Where the text of a fixed kind stands, the lexer finds this kind, each by computing.
use Rattle.std.proofs.Common.{◌≡◌, ℕ, List, ◌∷◌, ◌++◌, length, get_or, Bool, true, false, Some, refl, rules, tests}
use Rattle.std.specs.List.{prefix_len}
use Rattle.sp_lex.specs.Bytes.{is_letter, is_word}
use Rattle.sp_lex.specs.Elements.{element_at, sign_at, token_of}
use Rattle.sp_lex.specs.Signs.{longest_sign, word_kind}
use Rattle.sp_words.specs.Words.{integer_text, attribute_text, property_text, hook_text}
use Rattle.sp_words.specs.declared.words.IntWord.{IntWord}
use Rattle.sp_words.specs.declared.words.AttributeName.{AttributeName}
use Rattle.sp_words.specs.declared.words.HookName.{HookName}
use Rattle.sp_words.specs.Keywords.{keyword_text}
use Rattle.sp_words.specs.Punctuation.{punctuation_text}
use Rattle.sp_lex.specs.Spellings.{spelling}
use Rattle.sp_words.specs.declared.keywords.Keyword.{Keyword}
use Rattle.sp_words.specs.declared.punctuation.Punctuation.{Punctuation}
use Rattle.sp_words.specs.declared.punctuation.Punctuation.TheVariants as punctuation
use Rattle.sp_words.specs.declared.words.Property.{Property}
use Rattle.sp_lex.specs.declared.kinds.TokenKind.TheVariants as token
use Rattle.sp_law_printed_words.specs.Sound.{is_colon}

-- before a space
pub punctuation_space : (m : Punctuation) (rest : List ℕ) → sign_at (punctuation_text m ++ 32 ∷ rest) ≡ token_of (token.Punctuation m) (Some (length (punctuation_text m)))
unfolding sign_at longest_sign
punctuation_space m rest = search (rules, tests)

-- before a line feed
pub punctuation_feed : (m : Punctuation) (rest : List ℕ) → sign_at (punctuation_text m ++ 10 ∷ rest) ≡ token_of (token.Punctuation m) (Some (length (punctuation_text m)))
unfolding sign_at longest_sign
punctuation_feed m rest = search (rules, tests)

-- before the first of a ::
pub punctuation_scope : (m : Punctuation) (rest : List ℕ) → is_colon (token.Punctuation m) ≡ false → sign_at (punctuation_text m ++ 58 ∷ rest) ≡ token_of (token.Punctuation m) (Some (length (punctuation_text m)))
unfolding sign_at longest_sign
punctuation_scope m rest h = search (rules, tests)

-- before a space
pub attribute_space : (m : AttributeName) (rest : List ℕ) → sign_at (attribute_text m ++ 32 ∷ rest) ≡ token_of (token.Attribute m) (Some (length (attribute_text m)))
unfolding sign_at longest_sign
attribute_space m rest = search (rules, tests)

-- before a line feed
pub attribute_feed : (m : AttributeName) (rest : List ℕ) → sign_at (attribute_text m ++ 10 ∷ rest) ≡ token_of (token.Attribute m) (Some (length (attribute_text m)))
unfolding sign_at longest_sign
attribute_feed m rest = search (rules, tests)

-- before the first of a ::
pub attribute_scope : (m : AttributeName) (rest : List ℕ) → sign_at (attribute_text m ++ 58 ∷ rest) ≡ token_of (token.Attribute m) (Some (length (attribute_text m)))
unfolding sign_at longest_sign
attribute_scope m rest = search (rules, tests)

-- &priority before a space, a line feed, and the first of a ::
pub priority_space : (rest : List ℕ) → sign_at (spelling token.Priority ++ 32 ∷ rest) ≡ token_of token.Priority (Some 9)
unfolding sign_at longest_sign
priority_space rest = refl

pub priority_feed : (rest : List ℕ) → sign_at (spelling token.Priority ++ 10 ∷ rest) ≡ token_of token.Priority (Some 9)
unfolding sign_at longest_sign
priority_feed rest = refl

pub priority_scope : (rest : List ℕ) → sign_at (spelling token.Priority ++ 58 ∷ rest) ≡ token_of token.Priority (Some 9)
unfolding sign_at longest_sign
priority_scope rest = refl

-- before a space
pub property_space : (m : Property) (rest : List ℕ) → sign_at (property_text m ++ 32 ∷ rest) ≡ token_of (token.Property m) (Some (length (property_text m)))
unfolding sign_at longest_sign
property_space m rest = search (rules, tests)

-- before a line feed
pub property_feed : (m : Property) (rest : List ℕ) → sign_at (property_text m ++ 10 ∷ rest) ≡ token_of (token.Property m) (Some (length (property_text m)))
unfolding sign_at longest_sign
property_feed m rest = search (rules, tests)

-- before the first of a ::
pub property_scope : (m : Property) (rest : List ℕ) → sign_at (property_text m ++ 58 ∷ rest) ≡ token_of (token.Property m) (Some (length (property_text m)))
unfolding sign_at longest_sign
property_scope m rest = search (rules, tests)

-- before a space
pub hook_space : (m : HookName) (rest : List ℕ) → sign_at (hook_text m ++ 32 ∷ rest) ≡ token_of (token.Hook m) (Some (length (hook_text m)))
unfolding sign_at longest_sign
hook_space m rest = search (rules, tests)

-- before a line feed
pub hook_feed : (m : HookName) (rest : List ℕ) → sign_at (hook_text m ++ 10 ∷ rest) ≡ token_of (token.Hook m) (Some (length (hook_text m)))
unfolding sign_at longest_sign
hook_feed m rest = search (rules, tests)

-- before the first of a ::
pub hook_scope : (m : HookName) (rest : List ℕ) → sign_at (hook_text m ++ 58 ∷ rest) ≡ token_of (token.Hook m) (Some (length (hook_text m)))
unfolding sign_at longest_sign
hook_scope m rest = search (rules, tests)

-- a :: may stand before anything
pub scope_any : (rest : List ℕ) → sign_at (58 ∷ 58 ∷ rest) ≡ token_of (token.Punctuation punctuation.ColonColon) (Some 2)
unfolding sign_at longest_sign
scope_any rest = refl

-- punctuation begins with a sign; a / is one where it divides
pub punctuation_sign : (m : Punctuation) (divides : Bool) (rest : List ℕ) → (m ≡ punctuation.Slash → divides ≡ true) → element_at divides (punctuation_text m ++ rest) ≡ sign_at (punctuation_text m ++ rest)
unfolding element_at
punctuation_sign m divides rest h = search (rules, tests)

pub attribute_sign : (m : AttributeName) (divides : Bool) (rest : List ℕ) → element_at divides (attribute_text m ++ rest) ≡ sign_at (attribute_text m ++ rest)
unfolding element_at
attribute_sign m divides rest = search (rules, tests)

pub priority_sign : (divides : Bool) (rest : List ℕ) → element_at divides (spelling token.Priority ++ rest) ≡ sign_at (spelling token.Priority ++ rest)
unfolding element_at
priority_sign divides rest = refl

pub property_sign : (m : Property) (divides : Bool) (rest : List ℕ) → element_at divides (property_text m ++ rest) ≡ sign_at (property_text m ++ rest)
unfolding element_at
property_sign m divides rest = search (rules, tests)

pub hook_sign : (m : HookName) (divides : Bool) (rest : List ℕ) → element_at divides (hook_text m ++ rest) ≡ sign_at (hook_text m ++ rest)
unfolding element_at
hook_sign m divides rest = search (rules, tests)

-- a reserved word
pub keyword_kind : (k : Keyword) → word_kind (keyword_text k) ≡ token.Keyword k
unfolding word_kind
keyword_kind k = search (rules, tests)

pub keyword_letter : (k : Keyword) → is_letter (get_or (keyword_text k) 0 0) ≡ true
keyword_letter k = search (rules, tests)

pub keyword_word : (k : Keyword) → prefix_len is_word (keyword_text k) ≡ length (keyword_text k)
keyword_word k = search (rules, tests)

-- the word of an integer type
pub integer_kind : (i : IntWord) → word_kind (integer_text i) ≡ token.Integer i
unfolding word_kind
integer_kind i = search (rules, tests)

pub integer_letter : (i : IntWord) → is_letter (get_or (integer_text i) 0 0) ≡ true
integer_letter i = search (rules, tests)

pub integer_word : (i : IntWord) → prefix_len is_word (integer_text i) ≡ length (integer_text i)
integer_word i = search (rules, tests)
