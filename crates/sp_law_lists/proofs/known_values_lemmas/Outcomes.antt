-- What is made of outcomes that fit the types of their expressions.
use Rattle.std.specs.Prelude.{ℕ, Bool, true, false, ◌&&◌, List, [], ◌∷◌, ◌++◌}
use Rattle.std.proofs.Common.{◌≡◌, refl, sym, ap, ◌∙◌}
use Rattle.std.proofs.lemmas.Bool.{and_from}
use Rattle.sp_words.specs.declared.operators.BinaryOp.TheVariants as op_is
use Rattle.sp_value.specs.Val.{Val, void, bool, tuple, vals_of}
use Rattle.sp_types.specs.declared.words.Maker.TheVariants as maker_is
use Rattle.sp_types.specs.Types.{Ty, made, tys}
use Rattle.sp_types.specs.Types as types
use Rattle.sp_type_operands.specs.Operands.{boolean}
use Rattle.sp_typed.specs.declared.words.ManyOp.TheVariants as many_is
use Rattle.sp_type_constants.specs.declared.outcome.Outcome.{Outcome}
use Rattle.sp_type_constants.specs.declared.outcome.Outcome.TheVariants.{Value, Error, Regex, NotConstant, Unknown}
use Rattle.sp_type_constants.specs.Outcomes.{of_one, of_two, of_all, made as made_of, lack_of, lacking, worse, worst, values, if_constant, truth, both_hold, either_holds, chosen}
use Rattle.sp_type_constants.specs.Operations.{row_of}
use Rattle.sp_type_constants.specs.Values.{binary_value, three_value}
use Rattle.sp_law_lists.proofs.known_types_lemmas.Full.{never}
use Rattle.sp_law_lists.specs.known_values.Values.{is_of, are_of, is_regex, fits}

-- that of one part
pub one_told : (s u : Ty) (f : Val → Outcome) (o : Outcome) → fits s o ≡ true → is_regex s ≡ false → ((a : Val) → is_of s a ≡ true → fits u (f a) ≡ true) → fits u (of_one f o) ≡ true
one_told s u f (Value a) e r g = g a e
one_told s u f (Regex text) e r g = never (sym r ∙ e)
one_told s u f NotConstant e r g = refl
one_told s u f Error e r g = refl
one_told s u f Unknown e r g = never e

-- that of two
pub two_told : (s t u : Ty) (f : Val → Val → Outcome) (o p : Outcome) → fits s o ≡ true → fits t p ≡ true → is_regex s ≡ false → is_regex t ≡ false
    → ((a b : Val) → is_of s a ≡ true → is_of t b ≡ true → fits u (f a b) ≡ true) → fits u (of_two f o p) ≡ true
two_told s t u f (Value a) (Value b) d e r q g = g a b d e
two_told s t u f (Value a) (Regex text) d e r q g = never (sym q ∙ e)
two_told s t u f (Value a) NotConstant d e r q g = refl
two_told s t u f (Value a) Error d e r q g = refl
two_told s t u f (Value a) Unknown d e r q g = never e
two_told s t u f Error (Value b) d e r q g = refl
two_told s t u f Error (Regex text) d e r q g = never (sym q ∙ e)
two_told s t u f Error NotConstant d e r q g = refl
two_told s t u f Error Error d e r q g = refl
two_told s t u f Error Unknown d e r q g = never e
two_told s t u f NotConstant p d e r q g = refl
two_told s t u f (Regex text) p d e r q g = never (sym r ∙ d)
two_told s t u f Unknown p d e r q g = never d

-- what is asked only of constants
pub if_told : (t : Ty) (o whole : Outcome) → fits t whole ≡ true → fits t (if_constant o whole) ≡ true
if_told t NotConstant whole e = refl
if_told t _ whole e = e

-- truths
truth_told : (o : Outcome) → fits boolean o ≡ true → fits boolean (of_one truth o) ≡ true
truth_told o e = one_told boolean boolean truth o e refl by
  where
    by : (a : Val) → is_of boolean a ≡ true → fits boolean (truth a) ≡ true
    by (bool x) f = refl
    by _ f = never f

both_told : (o p : Outcome) → fits boolean o ≡ true → fits boolean p ≡ true → fits boolean (both_hold o p) ≡ true
both_told (Value (bool true)) p d e = truth_told p e
both_told (Value (bool false)) p d e = refl
both_told (Value _) p d e = never d
both_told (Regex text) p d e = never d
both_told NotConstant p d e = refl
both_told Error p d e = refl
both_told Unknown p d e = never d

either_told : (o p : Outcome) → fits boolean o ≡ true → fits boolean p ≡ true → fits boolean (either_holds o p) ≡ true
either_told (Value (bool true)) p d e = refl
either_told (Value (bool false)) p d e = truth_told p e
either_told (Value _) p d e = never d
either_told (Regex text) p d e = never d
either_told NotConstant p d e = refl
either_told Error p d e = refl
either_told Unknown p d e = never d

pub and_told : (o p : Outcome) → fits boolean o ≡ true → fits boolean p ≡ true → fits boolean (binary_value op_is.And o p) ≡ true
and_told o p d e = if_told boolean o (if_constant p (both_hold o p)) (if_told boolean p (both_hold o p) (both_told o p d e))

pub or_told : (o p : Outcome) → fits boolean o ≡ true → fits boolean p ≡ true → fits boolean (binary_value op_is.Or o p) ≡ true
or_told o p d e = if_told boolean o (if_constant p (either_holds o p)) (if_told boolean p (either_holds o p) (either_told o p d e))

-- a choice
chosen_told : (t : Ty) (c o p : Outcome) → fits boolean c ≡ true → fits t o ≡ true → fits t p ≡ true → fits t (chosen c o p) ≡ true
chosen_told t (Value (bool true)) o p c d e = d
chosen_told t (Value (bool false)) o p c d e = e
chosen_told t (Value _) o p c d e = never c
chosen_told t (Regex text) o p c d e = never c
chosen_told t NotConstant o p c d e = refl
chosen_told t Error o p c d e = refl
chosen_told t Unknown o p c d e = never c

pub three_told : (t : Ty) (c o p : Outcome) → fits boolean c ≡ true → fits t o ≡ true → fits t p ≡ true → fits t (three_value c o p) ≡ true
three_told t c o p x d e =
    if_told t c (if_constant o (if_constant p (chosen c o p))) (if_told t o (if_constant p (chosen c o p)) (if_told t p (chosen c o p) (chosen_told t c o p x d e)))

-- rows: what their outcomes lack, and the values of those that lack nothing
abbrev pub FitAll : List Ty → List Outcome → Type 0
FitAll [] [] = Unit {0}
FitAll (t ∷ ts) (o ∷ os) = (fits t o ≡ true) × (is_regex t ≡ false) × FitAll ts os
FitAll _ _ = ⊥

-- what the worse of two lacks, and what all do, by one that lacks it
unfoldable pub worse_one : Outcome → Outcome → Outcome
worse_one (Value v) p = p
worse_one NotConstant p = NotConstant
worse_one Error NotConstant = NotConstant
worse_one Error p = Error
worse_one _ (Value v) = Unknown
worse_one _ (Regex text) = Unknown
worse_one _ p = p

worse_is : (o p : Outcome) → worse (lack_of o) (lack_of p) ≡ lack_of (worse_one o p)
unfolding worse_one
worse_is (Value v) p = refl
worse_is Error (Value w) = refl
worse_is Error (Regex text) = refl
worse_is Error NotConstant = refl
worse_is Error Error = refl
worse_is Error Unknown = refl
worse_is NotConstant p = refl
worse_is (Regex text) (Value w) = refl
worse_is (Regex text) (Regex other) = refl
worse_is (Regex text) NotConstant = refl
worse_is (Regex text) Error = refl
worse_is (Regex text) Unknown = refl
worse_is Unknown (Value w) = refl
worse_is Unknown (Regex text) = refl
worse_is Unknown NotConstant = refl
worse_is Unknown Error = refl
worse_is Unknown Unknown = refl

unfoldable pub worst_one : List Outcome → Outcome
worst_one [] = Value void
worst_one (o ∷ os) = worse_one o (worst_one os)

pub worst_is : (os : List Outcome) → worst os ≡ lack_of (worst_one os)
unfolding worst_one
worst_is [] = refl
worst_is (o ∷ os) = ap (λ l. worse (lack_of o) l) (worst_is os) ∙ worse_is o (worst_one os)

module _ (Holds : List Ty → List Val → Type 0) (none : Holds [] []) (add : (t : Ty) (ts : List Ty) (v : Val) (vs : List Val) → is_of t v ≡ true → Holds ts vs → Holds (t ∷ ts) (v ∷ vs)) where
  -- where nothing is lacking, it holds of all values; and never is it lacking whether all is known
  abbrev Row : List Ty → Outcome → List Val → Type 0
  Row ts (Value v) vs = Holds ts vs
  Row ts (Regex text) vs = ⊥
  Row ts Unknown vs = ⊥
  Row ts _ vs = Unit {0}

  with_value : (t : Ty) (ts : List Ty) (v : Val) (o : Outcome) (vs : List Val) → is_of t v ≡ true → Row ts o vs → Row (t ∷ ts) o (v ∷ vs)
  with_value t ts v (Value w) vs e r = add t ts v vs e r
  with_value t ts v (Regex text) vs e r = r
  with_value t ts v NotConstant vs e r = tt
  with_value t ts v Error vs e r = tt
  with_value t ts v Unknown vs e r = r

  with_error : (t : Ty) (ts : List Ty) (o : Outcome) (vs ws : List Val) → Row ts o vs → Row (t ∷ ts) (worse_one Error o) ws
  unfolding worse_one
  with_error t ts (Value w) vs ws r = tt
  with_error t ts (Regex text) vs ws r = tt
  with_error t ts NotConstant vs ws r = tt
  with_error t ts Error vs ws r = tt
  with_error t ts Unknown vs ws r = tt

  row : (ts : List Ty) (os : List Outcome) → FitAll ts os → Row ts (worst_one os) (values os)
  unfolding worst_one worse_one
  row [] [] f = none
  row [] (o ∷ os) f = absurd f
  row (t ∷ ts) [] f = absurd f
  row (t ∷ ts) (Value v ∷ os) f = with_value t ts v (worst_one os) (values os) f.0 (row ts os f.2)
  row (t ∷ ts) (Error ∷ os) f = with_error t ts (worst_one os) (values os) (values os) (row ts os f.2)
  row (t ∷ ts) (NotConstant ∷ os) f = tt
  row (t ∷ ts) (Regex text ∷ os) f = never (sym f.1 ∙ f.0)
  row (t ∷ ts) (Unknown ∷ os) f = never f.0

  made_by : (u : Ty) (g : List Val → Outcome) (ts : List Ty) (o : Outcome) (vs : List Val) → Row ts o vs → ((ws : List Val) → Holds ts ws → fits u (g ws) ≡ true) → fits u (made_of g (lack_of o) vs) ≡ true
  made_by u g ts (Value v) vs r h = h vs r
  made_by u g ts (Regex text) vs r h = absurd r
  made_by u g ts NotConstant vs r h = refl
  made_by u g ts Error vs r h = refl
  made_by u g ts Unknown vs r h = absurd r

  pub all_told : (u : Ty) (g : List Val → Outcome) (ts : List Ty) (os : List Outcome) → FitAll ts os → ((ws : List Val) → Holds ts ws → fits u (g ws) ≡ true) → fits u (of_all g os) ≡ true
  all_told u g ts os f h = ap (λ l. fits u (made_of g l (values os))) (worst_is os) ∙ made_by u g ts (worst_one os) (values os) (row ts os f) h

-- a tuple
abbrev Members : List Ty → List Val → Type 0
Members ts vs = are_of (tys ts) (vals_of vs) ≡ true

pub tuple_told : (ts : List Ty) (os : List Outcome) → FitAll ts os → fits (made maker_is.Tuple (tys ts)) (of_all (row_of many_is.Tuple) os) ≡ true
tuple_told ts os f =
    all_told Members refl (λ t us v vs e h. and_from (is_of t v) (are_of (tys us) (vals_of vs)) e h) (made maker_is.Tuple (tys ts)) (row_of many_is.Tuple) ts os f (λ ws h. h)
