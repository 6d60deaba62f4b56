-- Where a whole is constant, so is each part that is evaluated, and no member is taken.
use Rattle.std.specs.Prelude.{Bool, true, false, ◌&&◌, if◌then◌else◌, List, ◌∷◌}
use Rattle.std.proofs.Common.{◌≡◌, refl, subst}
use Rattle.std.proofs.lemmas.Bool.{and_parts, and_from}
use Rattle.sp_value.specs.Val.{Val}
use Rattle.sp_types.specs.Types.{Ty}
use Rattle.sp_words.specs.declared.operators.UnaryOp.TheVariants as unary_is
use Rattle.sp_typed.specs.declared.heads.One.{One}
use Rattle.sp_typed.specs.declared.words.OneOp.{OneOp}
use Rattle.sp_typed.specs.declared.words.OneOp.TheVariants as one_is
use Rattle.sp_typed.specs.declared.words.TwoOp.{TwoOp}
use Rattle.sp_typed.specs.declared.words.TwoOp.TheVariants as two_is
use Rattle.sp_typed.specs.Exprs.{Expr, Exprs, leaf, one, two, three, many, none, more, is_minus, is_number}
use Rattle.sp_typed.specs.Nodes.{holds, all_hold}
use Rattle.sp_type_constants.specs.declared.outcome.Outcome.{Outcome}
use Rattle.sp_type_constants.specs.declared.outcome.Outcome.TheVariants as outcome_is
use Rattle.sp_type_constants.specs.Known.{Known}
use Rattle.sp_type_constants.specs.Outcomes.{lack_of, values, of_one, of_two, made, of_all, is_constant, if_constant, both_hold, either_holds, chosen}
use Rattle.sp_type_constants.specs.Operations.{operated, operated_on, sized, cast_to, negative_literal, indexed, member, makes_row, row_of}
use Rattle.sp_type_constants.specs.Values.{number_in, one_value, is_and, is_or, two_value, value_of, all_values}
use Rattle.sp_law_lists.specs.known_types.Clear.{may_stand}
use Rattle.sp_law_lists.proofs.known_types_lemmas.Full.{never}
use Rattle.sp_law_lists.proofs.known_values_lemmas.Outcomes.{worse_one, worst_one, worst_is}
use Rattle.sp_law_lists.specs.known_constants.Good.{constant_op}

pub of_constant : (f : Val → Outcome) (o : Outcome) → is_constant (of_one f o) ≡ true → is_constant o ≡ true
of_constant f outcome_is.NotConstant e = never e
of_constant f _ e = refl

one_constant : (t : Ty) (op : OneOp) (o : Outcome) → is_constant (one_value t op o) ≡ true → (constant_op op ≡ true) × (is_constant o ≡ true)
one_constant t one_is.Negate o e = (refl, of_constant (operated_on unary_is.Negate) o e)
one_constant t one_is.Not o e = (refl, of_constant (operated_on unary_is.Not) o e)
one_constant t one_is.Complement o e = (refl, of_constant (operated_on unary_is.Complement) o e)
one_constant t one_is.Size o e = (refl, of_constant sized o e)
one_constant t (one_is.Cast w) o e = (refl, of_constant (cast_to t) o e)
one_constant t one_is.Widen o e = (refl, of_constant (cast_to t) o e)
one_constant t _ o e = never e

minus_is : (op : OneOp) → is_minus op ≡ true → constant_op op ≡ true
minus_is one_is.Negate e = refl
minus_is _ e = never e

-- of two, both
both_constant : (f : Val → Val → Outcome) (o p : Outcome) → is_constant (of_two f o p) ≡ true → (is_constant o ≡ true) × (is_constant p ≡ true)
both_constant f outcome_is.NotConstant p e = never e
both_constant f (outcome_is.Value v) outcome_is.NotConstant e = never e
both_constant f (outcome_is.Regex t) outcome_is.NotConstant e = never e
both_constant f outcome_is.Error outcome_is.NotConstant e = never e
both_constant f outcome_is.Unknown outcome_is.NotConstant e = never e
both_constant f _ _ e = (refl, refl)

if_parts : (o whole : Outcome) → is_constant (if_constant o whole) ≡ true → (is_constant o ≡ true) × (is_constant whole ≡ true)
if_parts outcome_is.NotConstant whole e = never e
if_parts _ whole e = (refl, e)

if_both : (o p whole : Outcome) → is_constant (if_constant o (if_constant p whole)) ≡ true → (is_constant o ≡ true) × (is_constant p ≡ true)
if_both o p whole e =
    let a = if_parts o (if_constant p whole) e in
    (a.0, (if_parts p whole a.1).0)

by_sort : (b c : Bool) (f : Val → Val → Outcome) (o p x y : Outcome) → is_constant (if b then if_constant o (if_constant p x) else (if c then if_constant o (if_constant p y) else of_two f o p)) ≡ true
    → (is_constant o ≡ true) × (is_constant p ≡ true)
by_sort true c f o p x y e = if_both o p x e
by_sort false true f o p x y e = if_both o p y e
by_sort false false f o p x y e = both_constant f o p e

two_constant : (op : TwoOp) (o p : Outcome) → is_constant (two_value op o p) ≡ true → (is_constant o ≡ true) × (is_constant p ≡ true)
two_constant (two_is.Binary op) o p e = by_sort (is_and op) (is_or op) (operated op) o p (both_hold o p) (either_holds o p) e
two_constant two_is.Index o p e = both_constant indexed o p e
two_constant (two_is.Item n) o p e =
    let a = if_parts p (of_one (member n) o) e in
    (of_constant (member n) o a.1, a.0)

-- of a row, all
made_of : (f : List Val → Outcome) (o : Outcome) (vs : List Val) → is_constant (made f (lack_of o) vs) ≡ true → is_constant o ≡ true
made_of f outcome_is.NotConstant vs e = never e
made_of f _ vs e = refl

worse_parts : (a b : Outcome) → is_constant (worse_one a b) ≡ true → (is_constant a ≡ true) × (is_constant b ≡ true)
unfolding worse_one
worse_parts outcome_is.NotConstant b e = never e
worse_parts (outcome_is.Value v) b e = (refl, e)
worse_parts outcome_is.Error outcome_is.NotConstant e = never e
worse_parts (outcome_is.Regex t) outcome_is.NotConstant e = never e
worse_parts outcome_is.Unknown outcome_is.NotConstant e = never e
worse_parts _ _ e = (refl, refl)

worst_parts : (o : Outcome) (os : List Outcome) → is_constant (worst_one (o ∷ os)) ≡ true → (is_constant o ≡ true) × (is_constant (worst_one os) ≡ true)
unfolding worst_one
worst_parts o os e = worse_parts o (worst_one os) e

row_constant : (b : Bool) (f : List Val → Outcome) (os : List Outcome) → is_constant (if b then of_all f os else outcome_is.NotConstant) ≡ true → is_constant (worst_one os) ≡ true
row_constant true f os e = made_of f (worst_one os) (values os) (subst (λ l. is_constant (made f l (values os)) ≡ true) (worst_is os) e)
row_constant false f os e = never e

module _ (k : Known) where
  abbrev stands : Expr → Bool
  stands = may_stand constant_op

  number_stands : (a : Expr) → is_number a ≡ true → holds stands a ≡ true
  number_stands (leaf h) e = refl
  number_stands _ e = never e

  one_stands : (b : Bool) (h : One) (a : Expr) (o whole : Outcome) → (is_minus h.op && is_number a) ≡ b → (is_constant o ≡ true → holds stands a ≡ true)
      → is_constant (if b then whole else one_value h.ty h.op o) ≡ true → (constant_op h.op && holds stands a) ≡ true
  one_stands true h a o whole is inner e =
      let p = and_parts (is_minus h.op) (is_number a) is in
      and_from (constant_op h.op) (holds stands a) (minus_is h.op p.0) (number_stands a p.1)
  one_stands false h a o whole is inner e =
      let p = one_constant h.ty h.op o e in
      and_from (constant_op h.op) (holds stands a) p.0 (inner p.1)

  mutual
    pub constant_stands : (e : Expr) → is_constant (value_of k e) ≡ true → holds stands e ≡ true
    constant_stands (leaf h) e = refl
    constant_stands (one h a) e =
        one_stands (is_minus h.op && is_number a) h a (value_of k a) (negative_literal h.ty (number_in a)) refl (constant_stands a) e
    constant_stands (two h a b) e =
        let p = two_constant h.op (value_of k a) (value_of k b) e in
        and_from (holds stands a) (holds stands b) (constant_stands a p.0) (constant_stands b p.1)
    constant_stands (three h c a b) e =
        let o = value_of k c in
        let x = value_of k a in
        let y = value_of k b in
        let p = if_parts o (if_constant x (if_constant y (chosen o x y))) e in
        let q = if_both x y (chosen o x y) p.1 in
        and_from (holds stands c) (holds stands a && holds stands b) (constant_stands c p.0)
        (and_from (holds stands a) (holds stands b) (constant_stands a q.0) (constant_stands b q.1))
    constant_stands (many h es) e = constants_stand es (row_constant (makes_row h.op) (row_of h.op) (all_values k es) e)

    constants_stand : (es : Exprs) → is_constant (worst_one (all_values k es)) ≡ true → all_hold stands es ≡ true
    constants_stand none e = refl
    constants_stand (more x es) e =
        let p = worst_parts (value_of k x) (all_values k es) e in
        and_from (holds stands x) (all_hold stands es) (constant_stands x p.0) (constants_stand es p.1)
