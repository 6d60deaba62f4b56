-- What stands in place of a value that is asked for its kind alone.
use Rattle.std.specs.Prelude.{ℕ, ℤ, Bool, true, false, ◌&&◌, ◌||◌, ◌==◌, Result, Ok, Err, if◌then◌else◌}
use Rattle.std.proofs.Common.{◌≡◌, refl}
use Rattle.std.proofs.lemmas.Bool.{eq-eqb}
use Rattle.sp_base.specs.declared.kinds.PKind.{PKind}
use Rattle.sp_numbers.specs.declared.width.Width.{Width}
use Rattle.sp_value.specs.Val.{Val, bool, uint, int, bytes, str, enum, tuple, vector, set, map}
use Rattle.sp_value.specs.Order.{kind}
use Rattle.sp_operators.specs.Operators.{value_or_error}
use Rattle.sp_types.specs.declared.words.Word.TheVariants as word_is
use Rattle.sp_types.specs.declared.words.Maker.TheVariants as maker_is
use Rattle.sp_types.specs.Types.{Ty, word, made, same, wider_of}
use Rattle.sp_type_operands.specs.Operands.{boolean, of_one_sign}
use Rattle.sp_type_constants.specs.declared.outcome.Outcome.{Outcome}
use Rattle.sp_type_constants.specs.declared.outcome.Outcome.TheVariants as outcome_is
use Rattle.sp_type_constants.specs.Outcomes.{answered}
use Rattle.sp_law_lists.specs.known_values.Values.{is_of, fits}
use Rattle.sp_law_lists.proofs.known_types_lemmas.Full.{never}

-- a number or an error
pub number_told : {A : Type 0} (t : Ty) (make : A → Val) (r : Result A PKind) → ((a : A) → is_of t (make a) ≡ true) → fits t (answered (value_or_error make r)) ≡ true
number_told t make (Ok a) f = f a
number_told t make (Err e) f = refl

-- what is asked only where it is taken
pub truth_when : (c x : Bool) → c ≡ true → fits boolean (if c then outcome_is.Value (bool x) else outcome_is.Unknown) ≡ true
truth_when true x e = refl
truth_when false x e = never e

-- the wider of two integer types
pub wider_unsigned : (x y : Width) (b : Bool) (w : Width) (n : ℕ) → is_of (word (wider_of (word_is.Uint x) (word_is.Uint y) b)) (uint w n) ≡ true
wider_unsigned x y true w n = refl
wider_unsigned x y false w n = refl

pub wider_signed : (x y : Width) (b : Bool) (w : Width) (n : ℤ) → is_of (word (wider_of (word_is.Int x) (word_is.Int y) b)) (int w n) ≡ true
wider_signed x y true w n = refl
wider_signed x y false w n = refl

-- values of types that agree are of one kind
kinds : (s t : Ty) (a b : Val) → (of_one_sign s t || same s t) ≡ true → is_of s a ≡ true → is_of t b ≡ true → kind a ≡ kind b
kinds (word (word_is.Uint x)) (word (word_is.Uint y)) (uint v m) (uint w n) g e f = refl
kinds (word (word_is.Uint x)) (word (word_is.Uint y)) (uint v m) _ g e f = never f
kinds (word (word_is.Uint x)) (word (word_is.Uint y)) _ b g e f = never e
kinds (word (word_is.Uint x)) _ a b g e f = never g
kinds (word (word_is.Int x)) (word (word_is.Int y)) (int v m) (int w n) g e f = refl
kinds (word (word_is.Int x)) (word (word_is.Int y)) (int v m) _ g e f = never f
kinds (word (word_is.Int x)) (word (word_is.Int y)) _ b g e f = never e
kinds (word (word_is.Int x)) _ a b g e f = never g
kinds (word word_is.Bool) (word word_is.Bool) (bool x) (bool y) g e f = refl
kinds (word word_is.Bool) (word word_is.Bool) (bool x) _ g e f = never f
kinds (word word_is.Bool) (word word_is.Bool) _ b g e f = never e
kinds (word word_is.Bool) _ a b g e f = never g
kinds (word word_is.Bytes) (word word_is.Bytes) (bytes x) (bytes y) g e f = refl
kinds (word word_is.Bytes) (word word_is.Bytes) (bytes x) _ g e f = never f
kinds (word word_is.Bytes) (word word_is.Bytes) _ b g e f = never e
kinds (word word_is.Bytes) _ a b g e f = never g
kinds (word word_is.String) (word word_is.String) (str x) (str y) g e f = refl
kinds (word word_is.String) (word word_is.String) (str x) _ g e f = never f
kinds (word word_is.String) (word word_is.String) _ b g e f = never e
kinds (word word_is.String) _ a b g e f = never g
kinds (word (word_is.Enum x)) (word (word_is.Enum y)) (enum k m) (enum l n) g e f = refl
kinds (word (word_is.Enum x)) (word (word_is.Enum y)) (enum k m) _ g e f = never f
kinds (word (word_is.Enum x)) (word (word_is.Enum y)) _ b g e f = never e
kinds (word (word_is.Enum x)) _ a b g e f = never g
kinds (word _) t a b g e f = never e
kinds (made maker_is.Tuple ts) (made maker_is.Tuple us) (tuple vs) (tuple ws) g e f = refl
kinds (made maker_is.Tuple ts) (made maker_is.Tuple us) (tuple vs) _ g e f = never f
kinds (made maker_is.Tuple ts) (made maker_is.Tuple us) _ b g e f = never e
kinds (made maker_is.Tuple ts) _ a b g e f = never g
kinds (made maker_is.Vector ts) (made maker_is.Vector us) (vector vs) (vector ws) g e f = refl
kinds (made maker_is.Vector ts) (made maker_is.Vector us) (vector vs) _ g e f = never f
kinds (made maker_is.Vector ts) (made maker_is.Vector us) _ b g e f = never e
kinds (made maker_is.Vector ts) _ a b g e f = never g
kinds (made maker_is.Set ts) (made maker_is.Set us) (set vs) (set ws) g e f = refl
kinds (made maker_is.Set ts) (made maker_is.Set us) (set vs) _ g e f = never f
kinds (made maker_is.Set ts) (made maker_is.Set us) _ b g e f = never e
kinds (made maker_is.Set ts) _ a b g e f = never g
kinds (made maker_is.Map ts) (made maker_is.Map us) (map vs) (map ws) g e f = refl
kinds (made maker_is.Map ts) (made maker_is.Map us) (map vs) _ g e f = never f
kinds (made maker_is.Map ts) (made maker_is.Map us) _ b g e f = never e
kinds (made maker_is.Map ts) _ a b g e f = never g

pub alike : (s t : Ty) (a b : Val) → (of_one_sign s t || same s t) ≡ true → is_of s a ≡ true → is_of t b ≡ true → (kind a == kind b) ≡ true
alike s t a b g e f = eq-eqb (kind a) (kind b) (kinds s t a b g e f)
