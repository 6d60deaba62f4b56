-- Which files read as modules, and with what the others are refused.
use Rattle.std.specs.Prelude.{◌≡◌, ◌⊎◌, ℕ, List, length, Option, Some, None}
use Rattle.sp_base.specs.Places.{line_at, column_at}
use Rattle.sp_base.specs.declared.kinds.MKind.{MKind}
use Rattle.sp_base.specs.declared.kinds.MKind.TheVariants.{ModuleNotFound}
use Rattle.sp_base.specs.declared.places.Place.{Place}
use Rattle.sp_base.specs.declared.places.Span.{Span}
use Rattle.sp_lex.specs.declared.tokens.Token.{Token}
use Rattle.sp_lex.specs.Faults.{IsFault, GoesBefore}
use Rattle.sp_lex.specs.Readings.{reading, whole}
use Rattle.sp_ast.specs.Trees.{Tree}
use Rattle.sp_read_unit.specs.Modules.{IsModuleTree, IsModuleRefused}
use Rattle.sp_command.specs.declared.refusal.Refusal.{Refusal}
use Rattle.sp_command.specs.Files.{Holds}
use Rattle.sp_read_file.specs.declared.unread.Unread.{Unread}

-- nothing is wrong with the text and its tokens, and these are they
pub record AreTokens (text : List ℕ) (tokens : List Token) : Type 0 where
  pub read : reading text ≡ whole tokens
  pub right : (span : Span) (kind : MKind) → ¬ IsFault text span kind

-- the text is that of a module, and this is its tree
abbrev pub IsModuleOf : List ℕ → Tree → Type 0
IsModuleOf text tree = (tokens : List Token) × AreTokens text tokens × IsModuleTree (record { text = text; list = tokens }) tree

-- what is wrong with the text or its tokens, and goes before all else that is
abbrev pub IsFirstFault : List ℕ → Span → MKind → Type 0
IsFirstFault text span kind =
    IsFault text span kind × ((other : Span) (other_kind : MKind) → IsFault text other other_kind → GoesBefore span kind other other_kind)

-- The fault of a text that is no module's: the first of its tokens, or, where nothing is wrong with these, that of the
-- module.
abbrev pub IsUnreadable : List ℕ → Span → MKind → Type 0
IsUnreadable text span kind =
    IsFirstFault text span kind ⊎ ((tokens : List Token) × AreTokens text tokens × IsModuleRefused tokens (length text) span kind)

-- the line and the column of a byte of the text
abbrev pub place_in : List ℕ → ℕ → Place
place_in text at = record { line = line_at text at; col = column_at text at }

abbrev pub refused_at : List ℕ → Place → MKind → Refusal
refused_at path place kind = record { path = path; place = place; kind = kind }

-- the file is not there, or its text is no module's
abbrev pub IsRefused : List ℕ → Option (List ℕ) → Refusal → Type 0
IsRefused path None refusal = refusal ≡ refused_at path (record { line = 0; col = 0 }) ModuleNotFound
IsRefused path (Some text) refusal =
    (span : Span) × (kind : MKind) × IsUnreadable text span kind × (refusal ≡ refused_at path (place_in text span.from) kind)

-- the file at the path is there, and its text is that of a module, of which this is the tree
abbrev pub Reads : Option (List ℕ → Option (List ℕ)) → List ℕ → Tree → Type 0
Reads files path tree = (text : List ℕ) × Holds files path (Some text) × IsModuleOf text tree

-- the file at the path is refused
abbrev pub Refuses : Option (List ℕ → Option (List ℕ)) → List ℕ → Refusal → Type 0
Refuses files path refusal = (content : Option (List ℕ)) × Holds files path content × IsRefused path content refusal

-- why the file at the path was not read: it was refused, could not be read, or there was no memory
abbrev pub IsStopped : Option (List ℕ → Option (List ℕ)) → List ℕ → Unread → Type 0
IsStopped files path (Unread.Refused refusal) = Refuses files path refusal
IsStopped files path Unread.ModulesFault = Unit {0}
IsStopped files path Unread.NoMemory = Unit {0}
