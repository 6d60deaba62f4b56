-- The rules ask for the parts of the alternatives that they build.
use Rattle.std.specs.Prelude.{ℕ, ◌≡◌, List, [], ◌∷◌}
use Rattle.sp_words.specs.declared.words.IntWord.{IntWord}
use Rattle.sp_words.specs.declared.words.AttributeName.{AttributeName}
use Rattle.sp_words.specs.declared.words.HookName.{HookName}
use Rattle.sp_ast.specs.Slots.{slots, an}
use Rattle.sp_build.specs.Rules.{Leaf, always, by_name, by_string, by_bytes, by_regex, by_number, by_integer, by_hook_name, Rule, takes, closes, closes_integer, closes_attribute, joins, wraps}

-- what a token is built to has no parts, whatever the token tells
abbrev pub HasNoParts : Leaf → Type 0
HasNoParts (always form) = slots form ≡ []
HasNoParts (by_name form) = (x : List ℕ) → slots (form x) ≡ []
HasNoParts (by_string form) = (x : List ℕ) → slots (form x) ≡ []
HasNoParts (by_bytes form) = (x : List ℕ) → slots (form x) ≡ []
HasNoParts (by_regex form) = (x : List ℕ) → slots (form x) ≡ []
HasNoParts (by_number form) = (n : ℕ) → slots (form n) ≡ []
HasNoParts (by_integer form) = (word : IntWord) → slots (form word) ≡ []
HasNoParts (by_hook_name form) = (name : HookName) → slots (form name) ≡ []

-- a rule asks for the parts of the alternative that it builds, in their order
abbrev pub HasParts : Rule → Type 0
HasParts (takes leaf) = HasNoParts leaf
HasParts (closes asked form) = slots form ≡ asked
HasParts (closes_integer asked form) = (word : IntWord) → slots (form word) ≡ asked
HasParts (closes_attribute asked form) = (name : AttributeName) → slots (form name) ≡ asked
HasParts (joins asked form) = slots form ≡ asked
HasParts (wraps g form) = slots form ≡ an g ∷ []
HasParts _ = Unit {0}
