-- All hooks of a list of modules in one row, and what each is of.
use Rattle.std.specs.Prelude.{ℕ, Bool, true, false, not, ◌&&◌, if◌then◌else◌, List, [], ◌∷◌, ◌++◌, Option, Some, None, slice_get}
use Rattle.sp_base.specs.declared.places.Span.{Span}
use Rattle.sp_words.specs.declared.words.HookName.{HookName}
use Rattle.sp_ast.specs.Trees.{Tree, Trees, absent, row, node, none, more, span_of}
use Rattle.sp_ast.specs.declared.forms.Form.TheVariants as form_is
use Rattle.sp_ast.specs.declared.forms.DeclForm.TheVariants as decl_is
use Rattle.sp_ast.specs.declared.forms.ItemForm.TheVariants as item_is
use Rattle.sp_ast.specs.declared.forms.TargetForm.TheVariants as target_is
use Rattle.sp_types.specs.Types.{Ty, word, made}
use Rattle.sp_types.specs.declared.words.Word.{Word}
use Rattle.sp_types.specs.declared.words.Word.TheVariants as word_is
use Rattle.sp_names.specs.declared.sort.Meaning.{Meaning}
use Rattle.sp_names.specs.declared.sort.Meaning.TheVariants as meaning_is
use Rattle.sp_names.specs.Names.{means, path_names}
use Rattle.sp_typed_units.specs.declared.declarations.MemberKind.{MemberKind}
use Rattle.sp_typed_units.specs.declared.declarations.MemberKind.TheVariants as kind_is
use Rattle.sp_typed_units.specs.declared.declarations.HookOf.{HookOf}
use Rattle.sp_typed_units.specs.declared.declarations.HookOf.TheVariants as of_is
use Rattle.sp_type_modules.specs.Members.{UnitMember, unit_members, numbered, kinds_of}
use Rattle.sp_type_hook_order.specs.declared.keys.HookKey.{HookKey}
use Rattle.sp_type_hook_order.specs.declared.keys.HookKey.TheVariants as key_is
use Rattle.sp_type_hook_rows.specs.declared.sites.Holder.{Holder}
use Rattle.sp_type_hook_rows.specs.declared.sites.Holder.TheVariants as holder_is
use Rattle.sp_type_hook_rows.specs.declared.sites.Site.{Site}
use Rattle.sp_type_hook_rows.specs.declared.rows.HookRow.{HookRow}
use Rattle.sp_type_hook_rows.specs.Sites.{sites}

-- what a hook does, whether `foreach` stands before it, and its block, which begins with the brace
abbrev pub hook_body : Tree → Tree
hook_body (node form_is.Hook span (more parameters (more body ts))) = body
hook_body _ = absent

abbrev pub is_each : Tree → Bool
is_each (node (form_is.HookBody each) span ts) = each
is_each _ = false

abbrev pub block_span : Tree → Span
block_span (node (form_is.HookBody each) span (more priority (more block ts))) = span_of block
block_span _ = record { from = 0; to = 0 }

-- the number of a member where it is a field: a variable and a sink have no hooks
abbrev pub if_field : ℕ → Option MemberKind → Option ℕ
if_field k (Some kind_is.Field) = Some k
if_field k _ = None

abbrev pub field_among : List UnitMember → Option ℕ → Option ℕ
field_among ms None = None
field_among ms (Some k) = if_field k (slice_get (kinds_of ms) k)

-- the number of the field of a name in a unit
abbrev pub field_number : List Tree → ℕ → List ℕ → Option ℕ
field_number list n x = field_among (unit_members list n) (numbered x 0 (unit_members list n))

-- what a hook of a field of a unit is of: the field, or with `foreach` each of its elements
abbrev pub plain_of : ℕ → Option ℕ → HookOf
plain_of n None = of_is.Nothing
plain_of n (Some k) = of_is.Field n k

abbrev pub each_of : ℕ → Option ℕ → HookOf
each_of n None = of_is.Nothing
each_of n (Some k) = of_is.Elements n k

abbrev pub field_of : ℕ → Bool → Option ℕ → HookOf
field_of n each o = if each then each_of n o else plain_of n o

-- what a hook is of that each unit has, as `%init`; no unit has one for its elements
abbrev pub unit_of : ℕ → Bool → HookName → HookOf
unit_of n each h = if each then of_is.Nothing else of_is.Unit n h

-- what a hook in a unit is of
abbrev pub target_of : List Tree → ℕ → Bool → Tree → HookOf
target_of list n each (node (form_is.Target (target_is.Name x)) span ts) = field_of n each (field_number list n x)
target_of list n each (node (form_is.Target (target_is.Hook h)) span ts) = unit_of n each h
target_of list n each _ = of_is.Nothing

-- the unit that names name in a module, through aliases
abbrev pub unit_word : Word → Option ℕ
unit_word (word_is.Unit n) = Some n
unit_word _ = None

abbrev pub unit_type : Option Ty → Option ℕ
unit_type None = None
unit_type (Some (word w)) = unit_word w
unit_type (Some (made m ts)) = None

abbrev pub meant_unit : (ℕ → Option Ty) → Meaning → Option ℕ
meant_unit f (meaning_is.Declaration g) = unit_type (f g)
meant_unit f _ = None

abbrev pub named_unit : List Tree → (ℕ → Option Ty) → ℕ → List (List ℕ) → Option ℕ
named_unit list f m xs = meant_unit f (means list f m xs)

-- all names but the last, and the last
abbrev pub before_last : List (List ℕ) → List (List ℕ)
before_last [] = []
before_last (x ∷ []) = []
before_last (x ∷ (y ∷ ys)) = x ∷ before_last (y ∷ ys)

abbrev pub last_of : List (List ℕ) → List ℕ
last_of [] = []
last_of (x ∷ []) = x
last_of (x ∷ (y ∷ ys)) = last_of (y ∷ ys)

abbrev pub unit_hook : Bool → HookName → Option ℕ → HookOf
unit_hook each h None = of_is.Nothing
unit_hook each h (Some n) = unit_of n each h

abbrev pub member_hook : List Tree → Bool → List ℕ → Option ℕ → HookOf
member_hook list each x None = of_is.Nothing
member_hook list each x (Some n) = field_of n each (field_number list n x)

abbrev pub names_hook : List Tree → (ℕ → Option Ty) → ℕ → Bool → List (List ℕ) → HookOf
names_hook list f m each xs = member_hook list each (last_of xs) (named_unit list f m (before_last xs))

-- What a hook outside of units is of: the hook that each unit has of the unit that the path names, or else the field of the
-- path's last name of the unit that the names before it name.
abbrev pub declared_of : List Tree → (ℕ → Option Ty) → ℕ → Bool → List (List ℕ) → Tree → HookOf
declared_of list f m each xs (node (form_is.HookName h) span ts) = unit_hook each h (named_unit list f m xs)
declared_of list f m each xs _ = names_hook list f m each xs

-- the hooks behind a field: what those are of that stand without `foreach`, and those with it, whether the field has `[ ]`, and
-- the place of an anonymous one
abbrev pub body_rows : ℕ → HookOf → HookOf → Bool → Option ℕ → Trees → List HookRow
body_rows m plain elements counted place none = []
body_rows m plain elements counted place (more b ts) = record {
  «module» = m;
  span = block_span b;
  of = if is_each b then elements else plain;
  each = is_each b;
  bare = is_each b && not counted;
  field = place;
  hook = None;
  body = b;
} ∷ body_rows m plain elements counted place ts

abbrev pub is_some_tree : Trees → Bool
is_some_tree none = false
is_some_tree (more t ts) = true

-- a name that may be left out
abbrev pub named_rows : List Tree → ℕ → ℕ → Span → Tree → Bool → Trees → List HookRow
named_rows list m n span (node (form_is.Name x) s us) counted bodies =
    body_rows m (plain_of n (field_number list n x)) (each_of n (field_number list n x)) counted None bodies
named_rows list m n span _ counted bodies =
    body_rows m (of_is.Anonymous n) (of_is.AnonymousElements n) counted (Some span.from) bodies

abbrev pub field_rows : List Tree → ℕ → ℕ → Tree → List HookRow
field_rows list m n (node form_is.Field span (more name (more base (more (row counts) (more attributes (more condition (more sink (more (row bodies) none)))))))) =
    named_rows list m n span name (is_some_tree counts) bodies
field_rows list m n _ = []

abbrev pub item_row : List Tree → ℕ → ℕ → Tree → List HookRow
item_row list m n (node (form_is.Item item_is.On) span (more target (more hook ts))) = record {
  «module» = m;
  span = span_of target;
  of = target_of list n (is_each (hook_body hook)) target;
  each = is_each (hook_body hook);
  bare = false;
  field = None;
  hook = Some hook;
  body = hook_body hook;
} ∷ []
item_row list m n _ = []

abbrev pub declared_row : List Tree → (ℕ → Option Ty) → ℕ → Tree → List HookRow
declared_row list f m (node (form_is.Decl decl_is.On) span (more path (more name (more hook ts)))) = record {
  «module» = m;
  span = span_of path;
  of = declared_of list f m (is_each (hook_body hook)) (path_names path) name;
  each = is_each (hook_body hook);
  bare = false;
  field = None;
  hook = Some hook;
  body = hook_body hook;
} ∷ []
declared_row list f m _ = []

abbrev pub holder_rows : List Tree → (ℕ → Option Ty) → ℕ → ℕ → Holder → List HookRow
holder_rows list f m n (holder_is.Declaration d) = declared_row list f m d
holder_rows list f m n (holder_is.Item t) = item_row list m n t
holder_rows list f m n (holder_is.Field t) = field_rows list m n t

abbrev pub rows_of : List Tree → (ℕ → Option Ty) → List Site → List HookRow
rows_of list f [] = []
rows_of list f (s ∷ ss) = holder_rows list f s.«module» s.unit s.holder ++ rows_of list f ss

-- All hooks of a list under the types of its type declarations: module by module, each in the order of its text. A hook's
-- number is its place in this row, from 0.
abbrev pub hook_rows : List Tree → (ℕ → Option Ty) → List HookRow
hook_rows list f = rows_of list f (sites list)

-- what a hook hangs on: those of a field and those of its elements hang on the same
abbrev pub anonymous_key : ℕ → Option ℕ → Option HookKey
anonymous_key n None = None
anonymous_key n (Some place) = Some (key_is.Anonymous n place)

abbrev pub key_of : HookOf → Option ℕ → Option HookKey
key_of of_is.Nothing place = None
key_of (of_is.Unit n h) place = Some (key_is.Unit n h)
key_of (of_is.Field n k) place = Some (key_is.Member n k)
key_of (of_is.Elements n k) place = Some (key_is.Member n k)
key_of (of_is.Anonymous n) place = anonymous_key n place
key_of (of_is.AnonymousElements n) place = anonymous_key n place

abbrev pub keys_of : List HookRow → List (Option HookKey)
keys_of [] = []
keys_of (r ∷ rs) = key_of r.of r.field ∷ keys_of rs
