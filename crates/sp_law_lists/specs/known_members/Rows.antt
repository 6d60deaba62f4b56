-- Rows on which the definitions are run: what can be read, and aliases where a unit is read.
use Rattle.std.specs.Prelude.{ℕ, ◌≡◌, true, false, [], Option, Some, None, refl}
use Rattle.sp_base.specs.declared.places.Span.{Span}
use Rattle.sp_types.specs.declared.words.Word.TheVariants as word_is
use Rattle.sp_types.specs.declared.words.Maker.TheVariants as maker_is
use Rattle.sp_types.specs.Types.{Ty, word, made}
use Rattle.sp_types.specs.Types as types
use Rattle.sp_typed.specs.declared.words.Written.{Written}
use Rattle.sp_typed_units.specs.declared.readings.ReadOp.TheVariants as read_is
use Rattle.sp_typed_units.specs.Specs.{Spec, read, list_read, group_read}
use Rattle.sp_type_operands.specs.Operands.{unknown}
use Rattle.sp_type_context.specs.Contexts.{Around}
use Rattle.sp_type_context.specs.Typing.{leaf_at}
use Rattle.sp_type_fields.specs.Readings.{called}
use Rattle.sp_type_modules.specs.Arounds.{type_leaf}
use Rattle.sp_rule_bodies.specs.Known.{Known}
use Rattle.sp_rule_lists.specs.Fields.{spec_tests}
use Rattle.sp_law_lists.specs.known_types.Clear.{none_hold}
use Rattle.sp_law_lists.specs.known_members.Given.{can_read, is_read}

abbrev here : Span
here = record { from = 0; to = 0 }

abbrev fine : Written
fine = record { span = here; unnamed = None; misplaced = None }

-- bytes, and a row in parentheses of what can't be read
bytes_are_read : can_read read_is.Bytes ≡ true
bytes_are_read = refl

abbrev broken : Spec
broken = read (record { span = here; ty = word word_is.Unknown; op = read_is.Broken fine })

row_is_not_read : is_read (group_read here (list_read here broken None) []) ≡ false
row_is_not_read = refl

abbrev vector : Ty
vector = made maker_is.Vector (types.more (word word_is.Bytes) types.none)

-- `V(..)`, where V is an alias: of a vector it can't be read, and a test of bodies holds at it; of a type in which a rule is broken
-- none does
abbrev alias_read : Around → Option Ty → Spec
alias_read g t = (called g here here (leaf_at here unknown (type_leaf t)) []).spec

vector_is_not_read : (g : Around) → is_read (alias_read g (Some vector)) ≡ false
vector_is_not_read g = refl

vector_is_refused : (g : Around) (k : Known) (m : ℕ) → none_hold (spec_tests k m (alias_read g (Some vector))) ≡ false
vector_is_refused g k m = refl

unknown_is_not : (g : Around) (k : Known) (m : ℕ) → none_hold (spec_tests k m (alias_read g None)) ≡ true
unknown_is_not g k m = refl
