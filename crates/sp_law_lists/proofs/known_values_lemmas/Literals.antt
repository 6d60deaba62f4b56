-- What literals are as constants, where they are not past their types.
use Rattle.std.specs.Prelude.{ℕ, ◌^◌, ℤ, pos, neg_ℤ, Bool, true, false, not, ◌&&◌, ◌==◌, nat_lt, nat_le, Result, Ok, Err, if◌then◌else◌}
use Rattle.std.proofs.Common.{◌≡◌, refl, sym, ap, ◌∙◌, arith}
use Rattle.std.proofs.lemmas.Bool.Decides.{nat_tests}
use Rattle.std.proofs.lemmas.Bool.{and_parts}
use Rattle.sp_base.specs.declared.kinds.PKind.{PKind}
use Rattle.sp_base.specs.declared.kinds.PKind.TheVariants.{CastRange}
use Rattle.sp_numbers.specs.declared.width.Width.{Width}
use Rattle.sp_numbers.specs.declared.width.Width.TheVariants.{W8, W16, W32, W64}
use Rattle.sp_numbers.specs.Numbers.{width_bits, fits_unsigned, fits_signed, unsigned_or, signed_or}
use Rattle.sp_value.specs.Val.{Val, uint, int}
use Rattle.sp_types.specs.declared.words.Word.{Word}
use Rattle.sp_types.specs.declared.words.Word.TheVariants as word_is
use Rattle.sp_types.specs.Types.{Ty, word}
use Rattle.sp_typed.specs.declared.words.LeafOp.{LeafOp}
use Rattle.sp_typed.specs.declared.words.LeafOp.TheVariants as leaf_is
use Rattle.sp_typed.specs.declared.words.OneOp.{OneOp}
use Rattle.sp_typed.specs.declared.words.OneOp.TheVariants as one_is
use Rattle.sp_typed.specs.Exprs.{Expr, leaf, one, two, three, many, number_leaf, is_minus, is_number, is_literal, retyped}
use Rattle.sp_type_operands.specs.Literals.{can_take, has_number, is_past}
use Rattle.sp_type_constants.specs.Known.{Known}
use Rattle.sp_type_constants.specs.declared.outcome.Outcome.{Outcome}
use Rattle.sp_type_constants.specs.declared.outcome.Outcome.TheVariants as outcome_is
use Rattle.sp_type_constants.specs.Operations.{if_within, literal, negative_literal}
use Rattle.sp_type_constants.specs.Values.{value_of, leaf_value}
use Rattle.sp_law_lists.proofs.known_types_lemmas.Full.{never}
use Rattle.sp_law_lists.proofs.known_types_lemmas.Tests.{not_so}
use Rattle.sp_law_lists.specs.known_values.Values.{is_of, fits}

-- numbers in the range of their type
unsigned_within : (x : Width) (n : ℕ) → nat_lt n (2 ^ width_bits x) ≡ true → fits_unsigned x (pos n) ≡ true
unsigned_within W8 n h = grind (arith, nat_tests)
unsigned_within W16 n h = grind (arith, nat_tests)
unsigned_within W32 n h = grind (arith, nat_tests)
unsigned_within W64 n h = grind (arith, nat_tests)

pub signed_within : (x : Width) (n : ℕ) → has_number (word_is.Int x) false n ≡ true → fits_signed x (pos n) ≡ true
signed_within W8 n h = grind (arith, nat_tests)
signed_within W16 n h = grind (arith, nat_tests)
signed_within W32 n h = grind (arith, nat_tests)
signed_within W64 n h = grind (arith, nat_tests)

pub negative_within : (x : Width) (n : ℕ) → has_number (word_is.Int x) true n ≡ true → fits_signed x (neg_ℤ (pos n)) ≡ true
negative_within W8 n h = grind (arith, nat_tests)
negative_within W16 n h = grind (arith, nat_tests)
negative_within W32 n h = grind (arith, nat_tests)
negative_within W64 n h = grind (arith, nat_tests)

within : {A : Type 0} (t : Ty) (make : A → Val) (b : Bool) (a : A) (error : PKind) → b ≡ true → is_of t (make a) ≡ true → fits t (if_within make (if b then Ok a else Err error)) ≡ true
within t make true a error e f = f
within t make false a error e f = never e

pub number_fits : (w : Word) (n : ℕ) → can_take w ≡ true → has_number w false n ≡ true → fits (word w) (literal (word w) n) ≡ true
number_fits (word_is.Uint x) n c h = within (word (word_is.Uint x)) (uint x) (fits_unsigned x (pos n)) _ CastRange (unsigned_within x n h) refl
number_fits (word_is.Int x) n c h = within (word (word_is.Int x)) (int x) (fits_signed x (pos n)) (pos n) CastRange (signed_within x n h) refl
number_fits _ n c h = never c

zero_fits : (x : Width) (n : ℕ) (b : Bool) → (n == 0) ≡ b → b ≡ true → fits (word (word_is.Uint x)) (if b then literal (word (word_is.Uint x)) 0 else outcome_is.Unknown) ≡ true
zero_fits x n true e f = number_fits (word_is.Uint x) 0 refl (zero_within x)
  where
    zero_within : (y : Width) → nat_lt 0 (2 ^ width_bits y) ≡ true
    zero_within W8 = refl
    zero_within W16 = refl
    zero_within W32 = refl
    zero_within W64 = refl
zero_fits x n false e f = never f

negative_fits : (w : Word) (n : ℕ) → can_take w ≡ true → has_number w true n ≡ true → fits (word w) (negative_literal (word w) n) ≡ true
negative_fits (word_is.Uint x) n c h = zero_fits x n (n == 0) refl h
negative_fits (word_is.Int x) n c h = within (word (word_is.Int x)) (int x) (fits_signed x (neg_ℤ (pos n))) _ CastRange (negative_within x n h) refl
negative_fits _ n c h = never c

module _ (k : Known) where
  -- a literal that took an integer type, and is not past it
  pub literal_told : (w : Word) (e : Expr) → can_take w ≡ true → is_literal e ≡ true → is_past (retyped (word w) e) ≡ false → fits (word w) (value_of k (retyped (word w) e)) ≡ true
  literal_told w (leaf h) c l p = by h.op l p
    where
      by : (op : LeafOp) → number_leaf op ≡ true → is_past (leaf (record { span = h.span; ty = word w; op = op })) ≡ false → fits (word w) (leaf_value k (word w) op) ≡ true
      by (leaf_is.Number n) l p = number_fits w n c (not_so (has_number w false n) p)
      by _ l p = never l
  literal_told w (one h (leaf i)) c l p = by h.op i.op l p
    where
      by : (op : OneOp) (number : LeafOp) → (is_minus op && number_leaf number) ≡ true → is_past (one (record { span = h.span; ty = word w; op = op }) (leaf (record { span = i.span; ty = i.ty; op = number }))) ≡ false
          → fits (word w) (value_of k (one (record { span = h.span; ty = word w; op = op }) (leaf (record { span = i.span; ty = i.ty; op = number })))) ≡ true
      by one_is.Negate (leaf_is.Number n) l p = negative_fits w n c (not_so (has_number w true n) p)
      by one_is.Negate _ l p = never l
      by _ number l p = never l
  literal_told w (one h (one i a)) c l p = never (and_parts (is_minus h.op) false l).1
  literal_told w (one h (two i a b)) c l p = never (and_parts (is_minus h.op) false l).1
  literal_told w (one h (three i a b d)) c l p = never (and_parts (is_minus h.op) false l).1
  literal_told w (one h (many i es)) c l p = never (and_parts (is_minus h.op) false l).1
  literal_told w _ c l p = never l
