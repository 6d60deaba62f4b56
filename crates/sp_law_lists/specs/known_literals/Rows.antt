-- Rows on which the definitions are run: a number that is widened, and one past its type.
use Rattle.std.specs.Prelude.{ℕ, ◌≡◌, true, false, refl}
use Rattle.sp_base.specs.declared.places.Span.{Span}
use Rattle.sp_numbers.specs.declared.width.Width.TheVariants.{W8, W16}
use Rattle.sp_types.specs.Types.{word}
use Rattle.sp_types.specs.declared.words.Word.TheVariants as word_is
use Rattle.sp_typed.specs.declared.words.LeafOp.TheVariants as leaf_is
use Rattle.sp_typed.specs.declared.words.OneOp.TheVariants as one_is
use Rattle.sp_typed.specs.Exprs.{Expr}
use Rattle.sp_type_context.specs.Typing.{leaf_at, one_at}
use Rattle.sp_law_lists.specs.known_literals.Widened.{widens_value}

abbrev here : Span
here = record { from = 0; to = 0 }

abbrev number : ℕ → Expr
number n = leaf_at here (word (word_is.Uint W8)) (leaf_is.Number n)

abbrev wider : Expr → Expr
wider e = one_at here (word (word_is.Uint W16)) one_is.Widen e

within_is_widened : widens_value (wider (number 255)) ≡ true
within_is_widened = refl

past_is_not : widens_value (wider (number 256)) ≡ false
past_is_not = refl
