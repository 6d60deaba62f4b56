-- What a typed list tells is the same whatever slots an expression has.
use Rattle.std.specs.Prelude.{ℕ, ◌&&◌, if◌then◌else◌, List, ◌∷◌, None}
use Rattle.std.proofs.Common.{◌≡◌, refl, ap, ◌∙◌}
use Rattle.sp_types.specs.Types.{Ty}
use Rattle.sp_typed.specs.declared.words.ManyOp.{ManyOp}
use Rattle.sp_typed.specs.declared.words.ManyOp.TheVariants as many_is
use Rattle.sp_typed.specs.Exprs.{Expr, Exprs, leaf, one, two, three, many, none, more, is_number, is_minus}
use Rattle.sp_typed_units.specs.declared.declarations.Typed.{Typed}
use Rattle.sp_type_stmts.specs.Owners.{with_slot_of}
use Rattle.sp_type_constants.specs.declared.outcome.Outcome.{Outcome}
use Rattle.sp_type_constants.specs.Known.{Known as Values}
use Rattle.sp_type_constants.specs.Operations.{negative_literal}
use Rattle.sp_type_constants.specs.Values.{one_value, number_in, two_value, three_value, many_value, value_of, all_values}
use Rattle.sp_rule_lists.specs.Told.{target_of, constancy_of, known_in}
use Rattle.sp_law_lists.specs.known_bodies.Slots.{plain, all_plain, IsBlind}
use Rattle.sp_law_lists.proofs.known_bodies_lemmas.Slots.{is_number_plain}

target_blind : (t : Typed) (op : ManyOp) (receiver : Ty) (n : ℕ) → target_of t (with_slot_of op None) receiver n ≡ target_of t op receiver n
target_blind t (many_is.Method m old) receiver n = refl
target_blind t _ receiver n = refl

number_plain : (e : Expr) → number_in (plain e) ≡ number_in e
number_plain (leaf h) = refl
number_plain (one h a) = refl
number_plain (two h a b) = refl
number_plain (three h a b c) = refl
number_plain (many h es) = refl

many_blind : (op : ManyOp) (os : List Outcome) → many_value (with_slot_of op None) os ≡ many_value op os
many_blind (many_is.Method m old) os = refl
many_blind _ os = refl

module _ (k : Values) where
  mutual
    value_plain : (e : Expr) → value_of k (plain e) ≡ value_of k e
    value_plain (leaf h) = refl
    value_plain (one h a) =
        ap (λ b. if is_minus h.op && b then negative_literal h.ty (number_in (plain a)) else one_value h.ty h.op (value_of k (plain a))) (is_number_plain a)
        ∙ ap (λ n. if is_minus h.op && is_number a then negative_literal h.ty n else one_value h.ty h.op (value_of k (plain a))) (number_plain a)
        ∙ ap (λ o. if is_minus h.op && is_number a then negative_literal h.ty (number_in a) else one_value h.ty h.op o) (value_plain a)
    value_plain (two h a b) = ap (λ o. two_value h.op o (value_of k (plain b))) (value_plain a) ∙ ap (λ o. two_value h.op (value_of k a) o) (value_plain b)
    value_plain (three h a b c) =
        ap (λ o. three_value o (value_of k (plain b)) (value_of k (plain c))) (value_plain a)
        ∙ ap (λ o. three_value (value_of k a) o (value_of k (plain c))) (value_plain b)
        ∙ ap (λ o. three_value (value_of k a) (value_of k b) o) (value_plain c)
    value_plain (many h es) = many_blind h.op (all_values k (all_plain es)) ∙ ap (many_value h.op) (values_plain es)

    values_plain : (es : Exprs) → all_values k (all_plain es) ≡ all_values k es
    values_plain none = refl
    values_plain (more e es) = ap (λ o. o ∷ all_values k (all_plain es)) (value_plain e) ∙ ap (λ os. value_of k e ∷ os) (values_plain es)

pub known_blind : (t : Typed) (values : Values) (slots : List ℕ) → IsBlind (known_in t values slots)
known_blind t values slots = record {
  target = λ op receiver n. target_blind t op receiver n;
  constancy = λ e. ap constancy_of (value_plain values e);
}
