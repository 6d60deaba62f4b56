-- The type that several take, from the front on: whether one of those before had a minus sign is all that is kept of them.
use Rattle.std.specs.Prelude.{Bool, true, false, not, ◌||◌, if◌then◌else◌, List, [], ◌∷◌, filter}
use Rattle.std.specs.List.{list_any}
use Rattle.std.proofs.Common.{◌≡◌, refl, sym, ap, ◌∙◌}
use Rattle.sp_types.specs.Types.{Ty, word}
use Rattle.sp_typed.specs.Exprs.{Expr, is_literal}
use Rattle.sp_type_operands.specs.Literals.{seen, is_negative, literal_word}
use Rattle.sp_type_context.specs.Typing.{leading_of, leading}

abbrev pub leading_from : Bool → List Expr → Ty
leading_from signed es = leading_of (filter (λ e. not (is_literal e)) es) (signed || list_any is_negative es)

or_moves : (a b c : Bool) → a || (b || c) ≡ (a || b) || c
or_moves true b c = refl
or_moves false b c = refl

-- the first is a literal, or gives the type, or there is none
pub leading_past : (signed : Bool) (e : Expr) (es : List Expr) → is_literal e ≡ true → leading_from (signed || is_negative e) es ≡ leading_from signed (e ∷ es)
leading_past signed e es is =
    ap (leading_of (filter (λ x. not (is_literal x)) es)) (sym (or_moves signed (is_negative e) (list_any is_negative es)))
    ∙ sym (ap (λ b. leading_of (if not b then e ∷ filter (λ x. not (is_literal x)) es else filter (λ x. not (is_literal x)) es) (signed || (is_negative e || list_any is_negative es))) is)

pub leading_here : (signed : Bool) (e : Expr) (es : List Expr) → is_literal e ≡ false → leading_from signed (e ∷ es) ≡ seen e
leading_here signed e es is =
    ap (λ b. leading_of (if not b then e ∷ filter (λ x. not (is_literal x)) es else filter (λ x. not (is_literal x)) es) (signed || (is_negative e || list_any is_negative es))) is

pub leading_last : (signed : Bool) → leading_from signed [] ≡ word (literal_word signed)
leading_last true = refl
leading_last false = refl
