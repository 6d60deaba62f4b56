-- Literals, constants and labels: they mean what the checker takes them for.
use Rattle.std.specs.Prelude.{ℕ, ◌==◌, ℤ, pos, neg_ℤ, Bool, true, false, if◌then◌else◌, List, Result as Answer, Ok, Err}
use Rattle.std.proofs.Common.{◌≡◌, ◌⊎◌, inl, inr, refl, sym, ap, subst, arith}
use Rattle.std.proofs.lemmas.Bool.Decides.{nat_tests}
use Rattle.sp_base.specs.declared.kinds.PKind.{PKind}
use Rattle.sp_base.specs.declared.kinds.PKind.TheVariants.{CastRange}
use Rattle.sp_numbers.specs.declared.width.Width.{Width}
use Rattle.sp_numbers.specs.Numbers.{fits_unsigned, fits_signed, unsigned_or, signed_or}
use Rattle.sp_value.specs.Val.{Val, void, uint, int}
use Rattle.sp_types.specs.declared.words.Word.TheVariants as word_is
use Rattle.sp_types.specs.declared.words.Maker.TheVariants as maker_is
use Rattle.sp_types.specs.Types.{Ty, word, made}
use Rattle.sp_typed.specs.declared.words.LeafOp.{LeafOp}
use Rattle.sp_typed.specs.declared.words.LeafOp.TheVariants as leaf_is
use Rattle.sp_type_constants.specs.declared.outcome.Outcome.{Outcome}
use Rattle.sp_type_constants.specs.declared.outcome.Outcome.TheVariants.{Value, Regex, NotConstant, Error, Unknown}
use Rattle.sp_type_constants.specs.Known.{Known}
use Rattle.sp_type_constants.specs.Outcomes.{used}
use Rattle.sp_type_constants.specs.Operations.{if_within, literal, negative_literal, empty}
use Rattle.sp_type_constants.specs.Values.{leaf_value}
use Rattle.sp_meaning_states.specs.States.{State, Gives, Result, ends}
use Rattle.sp_meaning_states.specs.Types.{number_value, zero_value}
use Rattle.sp_meaning.specs.Globals.{Globals}
use Rattle.sp_code_meaning.specs.Layouts.{Layout}
use Rattle.sp_meaning.specs.Operations.{known}
use Rattle.sp_code_meaning.specs.Exprs.{leaf_means}
use Rattle.sp_law_constants.specs.Constants.{GivesAt, has_value, leaf_stands}
use Rattle.sp_law_constants.proofs.Told.{Evaluation, Told}
use Rattle.sp_law_constants.proofs.Truths.{always}

if_ok : {A : Type 0} (b : Bool) (a x : A) (error : PKind) → (if b then Ok a else Err error) ≡ Ok x → a ≡ x
if_ok true a x error e = cc
if_ok false a x error e = cc

module _ (U : Type 0) where
  within_told : {A : Type 0} (make : A → Val) (r : Answer A PKind) (v : Val) → ((x : A) → r ≡ Ok x → v ≡ make x) → Told U (if_within make r) (always v)
  within_told make (Ok x) v h = λ st. ap (λ v. always v st) (h x refl)
  within_told make (Err error) v h = inr (Ok v, λ st. refl)

  unsigned_told : (w : Width) (n : ℕ) → Told U (if_within (uint w) (unsigned_or CastRange w (pos n))) (always (uint w n))
  unsigned_told w n = within_told (uint w) (unsigned_or CastRange w (pos n)) (uint w n) (λ x e. ap (uint w) (if_ok (fits_unsigned w (pos n)) n x CastRange e))

  signed_told : (w : Width) (z : ℤ) → Told U (if_within (int w) (signed_or CastRange w z)) (always (int w z))
  signed_told w z = within_told (int w) (signed_or CastRange w z) (int w z) (λ x e. ap (int w) (if_ok (fits_signed w z) z x CastRange e))

  literal_told : (t : Ty) (n : ℕ) → Told U (literal t n) (always (number_value t false n))
  literal_told (word (word_is.Uint w)) n = unsigned_told w n
  literal_told (word (word_is.Int w)) n = signed_told w (pos n)
  literal_told (word x) n = inr (Ok (number_value (word x) false n), λ st. refl)
  literal_told (made m ts) n = inr (Ok void, λ st. refl)

  zero_told : (w : Width) (n : ℕ) → Told U (negative_literal (word (word_is.Uint w)) n) (always (uint w n))
  zero_told w n = by (n == 0) refl
    where
      by : (b : Bool) → (n == 0) ≡ b → Told U (if b then if_within (uint w) (unsigned_or CastRange w (pos 0)) else Unknown) (always (uint w n))
      by true e =
          let is : n ≡ 0 = grind (arith, nat_tests) in
          subst (λ i. Told U (if_within (uint w) (unsigned_or CastRange w (pos 0))) (always (uint w i))) (sym is) (unsigned_told w 0)
      by false e = inr (Ok (uint w n), λ st. refl)

  pub negative_told : (t : Ty) (n : ℕ) → Told U (negative_literal t n) (always (number_value t true n))
  negative_told (word (word_is.Uint w)) n = zero_told w n
  negative_told (word (word_is.Int w)) n = signed_told w (neg_ℤ (pos n))
  negative_told (word x) n = inr (Ok (number_value (word x) true n), λ st. refl)
  negative_told (made m ts) n = inr (Ok void, λ st. refl)

  empty_told : (ranges : List ℕ) (t : Ty) → Told U (empty t) (always (zero_value ranges t))
  empty_told ranges (made maker_is.Vector ts) = λ st. refl
  empty_told ranges (made maker_is.Set ts) = λ st. refl
  empty_told ranges (made maker_is.Map ts) = λ st. refl
  empty_told ranges (made maker_is.Tuple ts) = inr (Ok (zero_value ranges (made maker_is.Tuple ts)), λ st. refl)
  empty_told ranges (word x) = inr (Ok (zero_value ranges (word x)), λ st. refl)

  module _ (k : Known) (globals : Globals) (call : ℕ → List Val → State → Result) (layout : Layout) where
    abbrev Means : LeafOp → Ty → Evaluation
    Means op t = leaf_means globals call layout op t

    constant_told : (n : ℕ) (t : Ty) (o : Outcome) → k.constant n ≡ o → GivesAt k globals (leaf_is.Constant n) → U ⊎ (has_value o ≡ true) → Told U (used o) (Means (leaf_is.Constant n) t)
    constant_told n t (Value v) e i h = λ st. ap (λ s. known s (λ o st. known o (λ v st. ends (Gives v) st) st) st) (i v e)
    constant_told n t Error e i (inl u) = inl u
    constant_told n t Error e i (inr h) = cc
    constant_told n t NotConstant e i (inl u) = inl u
    constant_told n t NotConstant e i (inr h) = cc
    constant_told n t (Regex text) e i (inl u) = u
    constant_told n t (Regex text) e i (inr h) = cc
    constant_told n t Unknown e i (inl u) = inl u
    constant_told n t Unknown e i (inr h) = cc

    label_told : (owner n : ℕ) (t : Ty) (o : Outcome) → k.label owner n ≡ o → GivesAt k globals (leaf_is.Label owner n) → U ⊎ (has_value o ≡ true) → Told U (used o) (Means (leaf_is.Label owner n) t)
    label_told owner n t (Value v) e i h = λ st. ap (λ v. ends (Gives v) st) (i v e)
    label_told owner n t Error e i (inl u) = inl u
    label_told owner n t Error e i (inr h) = cc
    label_told owner n t NotConstant e i (inl u) = inl u
    label_told owner n t NotConstant e i (inr h) = cc
    label_told owner n t (Regex text) e i (inl u) = u
    label_told owner n t (Regex text) e i (inr h) = cc
    label_told owner n t Unknown e i (inl u) = inl u
    label_told owner n t Unknown e i (inr h) = cc

    pub leaf_told : (t : Ty) (op : LeafOp) → GivesAt k globals op → U ⊎ (leaf_stands k op ≡ true) → Told U (leaf_value k t op) (Means op t)
    leaf_told t leaf_is.True i h = λ st. refl
    leaf_told t leaf_is.False i h = λ st. refl
    leaf_told t (leaf_is.Number n) i h = literal_told t n
    leaf_told t (leaf_is.TypedNumber n) i h = literal_told t n
    leaf_told t (leaf_is.Text text) i h = λ st. refl
    leaf_told t (leaf_is.Bytes b) i h = λ st. refl
    leaf_told t (leaf_is.Regex text) i (inl u) = u
    leaf_told t (leaf_is.Regex text) i (inr h) = cc
    leaf_told t (leaf_is.Empty written) i h = empty_told globals.ranges t
    leaf_told t (leaf_is.Constant n) i h = constant_told n t (k.constant n) refl i h
    leaf_told t (leaf_is.Label owner label) i h = label_told owner label t (k.label owner label) refl i h
    leaf_told t (leaf_is.Nothing name) i (inl u) = inl u
    leaf_told t (leaf_is.Nothing name) i (inr h) = cc
    leaf_told t (leaf_is.Itself s) i h = tt
    leaf_told t (leaf_is.Current s) i h = tt
    leaf_told t (leaf_is.Local n) i h = tt
    leaf_told t (leaf_is.Parameter n s) i h = tt
    leaf_told t (leaf_is.Function n) i h = tt
    leaf_told t (leaf_is.TypeName w) i h = tt
    leaf_told t leaf_is.Decoder i h = tt
    leaf_told t leaf_is.Module i h = tt
    leaf_told t leaf_is.Name i h = tt
