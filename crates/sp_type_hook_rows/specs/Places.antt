-- What the hooks of a field hang on, by the place of the field in its unit.
use Rattle.std.specs.Prelude.{ℕ, if◌then◌else◌, List, [], ◌∷◌, Option, Some, None}
use Rattle.sp_ast.specs.Trees.{Tree, node, more}
use Rattle.sp_ast.specs.declared.forms.Form.TheVariants as form_is
use Rattle.sp_type_hook_order.specs.declared.keys.HookKey.{HookKey}
use Rattle.sp_type_hook_order.specs.declared.keys.HookKey.TheVariants as key_is
use Rattle.sp_type_hook_rows.specs.declared.sites.Holder.{Holder}
use Rattle.sp_type_hook_rows.specs.declared.sites.Holder.TheVariants as holder_is
use Rattle.sp_type_hook_rows.specs.declared.sites.Site.{Site}
use Rattle.sp_type_hook_rows.specs.HookRows.{field_number}
use Rattle.sp_type_hook_rows.specs.Tests.{are_equal}

abbrev pub member_key : ℕ → ℕ → Option ℕ → Option (ℕ × HookKey)
member_key n place None = None
member_key n place (Some k) = Some (place, key_is.Member n k)

-- The place of a field, which is its name or its colon, and what its hooks hang on: those of a field that has a name on the
-- member of that name, those of another one on the field itself.
abbrev pub field_key : List Tree → ℕ → Tree → Option (ℕ × HookKey)
field_key list n (node form_is.Field span (more (node (form_is.Name x) s us) ts)) = member_key n s.from (field_number list n x)
field_key list n (node form_is.Field span (more name ts)) = Some (span.from, key_is.Anonymous n span.from)
field_key list n _ = None

abbrev pub holder_key : List Tree → ℕ → Holder → Option (ℕ × HookKey)
holder_key list n (holder_is.Field t) = field_key list n t
holder_key list n _ = None

-- the first of two that is there
abbrev pub earlier : Option HookKey → Option HookKey → Option HookKey
earlier None o = o
earlier (Some k) o = Some k

-- that of a field of a unit, if it stands at a place of a unit
abbrev pub if_at : ℕ × ℕ → ℕ → Option (ℕ × HookKey) → Option HookKey
if_at x unit None = None
if_at x unit (Some k) = if are_equal (unit, k.0) x then Some k.1 else None

-- what the hooks hang on of the first field at a place of a unit
abbrev pub key_at : List Tree → ℕ × ℕ → List Site → Option HookKey
key_at list x [] = None
key_at list x (s ∷ ss) = earlier (if_at x s.unit (holder_key list s.unit s.holder)) (key_at list x ss)
