-- The types that are written: what each is in its module, and which declarations it names.
use Rattle.std.specs.Prelude.{ℕ, ◌==◌, suc, Bool, ◌&&◌, if◌then◌else◌, List, [], ◌∷◌, ◌++◌, take, length, Option, Some, None, slice_get}
use Rattle.sp_base.specs.declared.places.Span.{Span}
use Rattle.sp_words.specs.declared.words.IntWord.TheVariants as int
use Rattle.sp_numbers.specs.declared.width.Width.TheVariants as width
use Rattle.sp_ast.specs.Trees.{Tree, Trees, absent, row, node, none, more, span_of}
use Rattle.sp_ast.specs.declared.forms.Form.{Form}
use Rattle.sp_ast.specs.declared.forms.Form.TheVariants as form_is
use Rattle.sp_ast.specs.declared.forms.TypeForm.TheVariants as type_is
use Rattle.sp_types.specs.Types.{Ty, Tys, word, made, is_known, are_known, is_key, is_plain, are_plain}
use Rattle.sp_types.specs.Types as types
use Rattle.sp_types.specs.declared.words.Word.TheVariants as word_is
use Rattle.sp_types.specs.declared.words.Maker.{Maker}
use Rattle.sp_types.specs.declared.words.Maker.TheVariants as maker_is
use Rattle.sp_names.specs.declared.sort.Scope.{Scope}
use Rattle.sp_names.specs.declared.sort.Scope.TheVariants as scope_is
use Rattle.sp_names.specs.declared.sort.Meaning.{Meaning}
use Rattle.sp_names.specs.declared.sort.Meaning.TheVariants as meaning_is
use Rattle.sp_names.specs.declared.rows.Bitfield.{Bitfield}
use Rattle.sp_names.specs.Declarations.{module_at}
use Rattle.sp_names.specs.Names.{declared, visible, path_names, path_means}
use Rattle.sp_types.specs.Integers.{int_word}

-- a tree where it is the type of a bitfield
abbrev pub if_bitfield : Tree → List Tree
if_bitfield (node (form_is.Type type_is.Bitfield) span ts) = node (form_is.Type type_is.Bitfield) span ts ∷ []
if_bitfield _ = []

-- the types of bitfields in a tree, in the order of the text
abbrev mutual
  pub bitfields_in : Tree → List Tree
  bitfields_in absent = []
  bitfields_in (row ts) = bitfields_among ts
  bitfields_in (node form span ts) = if_bitfield (node form span ts) ++ bitfields_among ts

  pub bitfields_among : Trees → List Tree
  bitfields_among none = []
  bitfields_among (more t ts) = bitfields_in t ++ bitfields_among ts

-- those of a module, with its number
abbrev pub bitfields_of : ℕ → List Tree → List Bitfield
bitfields_of m [] = []
bitfields_of m (t ∷ ts) = record { «module» = m; tree = t } ∷ bitfields_of m ts

-- all types of bitfields of a list whose first module has the number m. A bitfield's number is its place in this row, from 0.
abbrev pub bitfields_from : ℕ → List Tree → List Bitfield
bitfields_from m [] = []
bitfields_from m (t ∷ ts) = bitfields_of m (bitfields_in t) ++ bitfields_from (suc m) ts

abbrev pub bitfields : List Tree → List Bitfield
bitfields list = bitfields_from 0 list

abbrev pub bitfield_at : List Tree → ℕ → Option Bitfield
bitfield_at list n = slice_get (bitfields list) n

-- the number of the first tree that begins at a place, where the first of the list has the number k
abbrev pub first_placed : ℕ → ℕ → List Tree → Option ℕ
first_placed p k [] = None
first_placed p k (t ∷ ts) = if (span_of t).from == p then Some k else first_placed p (suc k) ts

-- the number of the bitfield that begins at a place of a module
abbrev pub bitfield_number : List Tree → ℕ → ℕ → Option ℕ
bitfield_number list m p = first_placed p (length (bitfields (take m list))) (bitfields_in (module_at list m))

abbrev pub unknown : Ty
unknown = word word_is.Unknown

abbrev pub or_unknown : Option Ty → Ty
or_unknown None = unknown
or_unknown (Some t) = t

abbrev pub bitfield_word : Option ℕ → Ty
bitfield_word None = unknown
bitfield_word (Some n) = word (word_is.Bitfield n)

-- the type that a path to this meaning is: unknown where it names no type, or one that is made of itself
abbrev pub meaning_type : (ℕ → Option Ty) → Meaning → Ty
meaning_type f (meaning_is.Declaration g) = or_unknown (f g)
meaning_type f (meaning_is.LibraryEnum n) = word (word_is.Enum n)
meaning_type f meaning_is.Decoder = word word_is.Decoder
meaning_type f (meaning_is.Label _ _) = unknown
meaning_type f (meaning_is.Nothing _) = unknown

-- Whether types may stand in what is made of them: what is inside another type is plain, and a key is of a type of keys.
abbrev pub may_hold : Maker → Tys → Bool
may_hold maker_is.Set (types.more t us) = is_key t
may_hold maker_is.Map (types.more k us) = is_key k && are_plain us
may_hold _ us = are_plain us

-- what is made of types; where one of them is unknown, or can't stand there, so is it
abbrev pub whole_type : Maker → Tys → Ty
whole_type maker us = if are_known us && may_hold maker us then made maker us else unknown

-- a type that may stand inside another one, else unknown
abbrev pub kept_type : Ty → Ty
kept_type t = if is_known t && is_plain t then t else unknown

-- the type of a tree of a form, by its parts and by their types
abbrev pub form_type : List Tree → (ℕ → Option Ty) → ℕ → Form → Span → Trees → Tys → Ty
form_type list f m (form_is.Type type_is.Path) span (more path ts) us = meaning_type f (path_means list f m path)
form_type list f m (form_is.Type type_is.Bool) span ts us = word word_is.Bool
form_type list f m (form_is.Type type_is.Bytes) span ts us = word word_is.Bytes
form_type list f m (form_is.Type type_is.String) span ts us = word word_is.String
form_type list f m (form_is.Type type_is.Void) span ts us = word word_is.Void
form_type list f m (form_is.Type (type_is.Int w)) span ts us = word (int_word w)
form_type list f m (form_is.Type type_is.Tuple) span ts us = whole_type maker_is.Tuple us
form_type list f m (form_is.Type type_is.Vector) span ts us = whole_type maker_is.Vector us
form_type list f m (form_is.Type type_is.Set) span ts us = whole_type maker_is.Set us
form_type list f m (form_is.Type type_is.Map) span ts us = whole_type maker_is.Map us
form_type list f m (form_is.Type type_is.Bitfield) span ts us = bitfield_word (bitfield_number list m span.from)
form_type list f m _ span ts us = unknown

-- The type that a tree of a type is in a module, under the answers of type declarations. A unit and an enum that stand here
-- aren't the whole type of a declaration, and so they are none. What holds a type that is none, or can't stand in it, is none either.
abbrev mutual
  pub type_in : List Tree → (ℕ → Option Ty) → ℕ → Tree → Ty
  type_in list f m absent = unknown
  type_in list f m (row ts) = unknown
  type_in list f m (node form span ts) = form_type list f m form span ts (types_in list f m ts)

  pub types_in : List Tree → (ℕ → Option Ty) → ℕ → Trees → Tys
  types_in list f m none = types.none
  types_in list f m (more t ts) = types.more (type_in list f m t) (types_in list f m ts)

abbrev pub one_or_none : Option ℕ → List ℕ
one_or_none None = []
one_or_none (Some g) = g ∷ []

abbrev pub named_numbers : List Tree → Option Scope → List ℕ → List ℕ
named_numbers list (Some (scope_is.Module k)) x = one_or_none (declared list k x)
named_numbers list _ x = []

-- The declarations on whose types the meaning of a path hangs. Where `A::x` has both an own declaration A and a visible module
-- A, it names both.
abbrev pub mentions : List Tree → ℕ → List (List ℕ) → List ℕ
mentions list m [] = []
mentions list m (x ∷ []) = one_or_none (declared list m x)
mentions list m (x ∷ (y ∷ ys)) = one_or_none (declared list m x) ++ named_numbers list (visible list m x) y

-- the declarations that a tree of a form names, by its parts and by what they name
abbrev pub form_mentions : List Tree → ℕ → Form → Trees → List ℕ → List ℕ
form_mentions list m (form_is.Type type_is.Path) (more path ts) ns = mentions list m (path_names path)
form_mentions list m (form_is.Type type_is.Tuple) ts ns = ns
form_mentions list m (form_is.Type type_is.Vector) ts ns = ns
form_mentions list m (form_is.Type type_is.Set) ts ns = ns
form_mentions list m (form_is.Type type_is.Map) ts ns = ns
form_mentions list m _ ts ns = []

-- the declarations that the tree of a type names
abbrev mutual
  pub mentions_in : List Tree → ℕ → Tree → List ℕ
  mentions_in list m absent = []
  mentions_in list m (row ts) = []
  mentions_in list m (node form span ts) = form_mentions list m form ts (mentions_among list m ts)

  pub mentions_among : List Tree → ℕ → Trees → List ℕ
  mentions_among list m none = []
  mentions_among list m (more t ts) = mentions_in list m t ++ mentions_among list m ts
