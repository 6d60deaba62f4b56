-- The fields that have bodies of hooks, as they are noted.
use Rattle.std.specs.Prelude.{◌≡◌, ◌<◌, ◌==◌, ℕ, List, length, Option, Some, None, slice_get, unwrap_or, option_copied, if◌then◌else◌}
use Rattle.std.specs.Borrow.{Bor}
use Rattle.sp_typed_units.specs.declared.declarations.Typed.{Typed}
use Rattle.sp_typed_units.specs.declared.items.Field.{Field}
use Rattle.sp_meaning_states.specs.Scopes.{is_among}
use Rattle.sp_code_programs.specs.programs.Currents.{earlier, hooked_field}

-- the field that is noted for a body
abbrev pub row_at : List (Option (Bor Field)) → ℕ → Option Field
row_at rows h = option_copied (unwrap_or (slice_get rows h) None)

-- a field for one body, and for several
abbrev pub field_if : Field → ℕ → ℕ → Option Field
field_if f b h = if h == b then Some f else None

abbrev pub field_among : Field → List ℕ → ℕ → Option Field
field_among f bs h = if is_among h bs then Some f else None

-- What was found for a body is noted for it where nothing was noted before.
pub record Notes (before after : List (Option (Bor Field))) (found : ℕ → Option Field) : Type 0 where
  pub counted : length after ≡ length before
  pub rows : (h : ℕ) → h < length before → row_at after h ≡ earlier (row_at before h) (found h)

-- the field of each body of a list is noted
abbrev pub AreFields : Typed → List (Option (Bor Field)) → Type 0
AreFields list rows = (length rows ≡ length list.hooks) × ((h : ℕ) → h < length list.hooks → row_at rows h ≡ hooked_field h list.units)
