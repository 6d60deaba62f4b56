-- Full types: those of operators' results, of what types are made of, and of integers.
use Rattle.std.specs.Prelude.{Bool, true, false, ◌&&◌, ◌||◌, if◌then◌else◌}
use Rattle.std.proofs.Common.{◌≡◌, refl, sym}
use Rattle.std.proofs.lemmas.Bool.{true≢false, and_parts, and_from}
use Rattle.sp_types.specs.declared.words.Word.{Word}
use Rattle.sp_types.specs.declared.words.Word.TheVariants as word_is
use Rattle.sp_types.specs.declared.words.Maker.TheVariants as maker_is
use Rattle.sp_types.specs.Types.{Ty, Tys, word, made, is_known, are_known, is_key, is_plain, are_plain, is_known_word, wider, wider_of, same, same_word, widens, holds}
use Rattle.sp_types.specs.Types as types
use Rattle.sp_type_operands.specs.declared.operators.OperatorSort.{OperatorSort}
use Rattle.sp_type_operands.specs.declared.operators.OperatorSort.TheVariants as takes
use Rattle.sp_type_operands.specs.Operands.{unknown, is_unsigned, is_signed, is_integer, is_bytes, is_text, first_type, of_one_sign, stands_before, stands_behind, agree, wider_type, sum_type, result_type, second_type}
use Rattle.sp_law_lists.specs.known_types.Full.{has_value, have_values, has_parts, is_full, are_full, is_unknown}

-- what can't be
pub never : {X : Type 0} → false ≡ true → X
never e = absurd (true≢false (sym e))

mutual
  pub full_is_known : (t : Ty) → is_full t ≡ true → is_known t ≡ true
  full_is_known (word w) f = f
  full_is_known (made m ts) f = full_are_known ts (and_parts (has_parts m ts) (are_full ts) f).1

  pub full_are_known : (ts : Tys) → are_full ts ≡ true → are_known ts ≡ true
  full_are_known types.none f = refl
  full_are_known (types.more t ts) f =
      let p = and_parts (is_full t) (are_full ts) f in
      and_from (is_known t) (are_known ts) (full_is_known t p.0) (full_are_known ts p.1)

-- what an unknown type is
pub unknown_is : (t : Ty) → is_unknown t ≡ true → t ≡ unknown
unknown_is (word word_is.Unknown) u = refl
unknown_is _ u = never u

-- the parts of vectors, sets and maps
pub vector_first : (ts : Tys) → is_full (made maker_is.Vector ts) ≡ true → is_full (first_type ts) ≡ true
vector_first types.none f = never f
vector_first (types.more t types.none) f = (and_parts (is_full t) true (and_parts (has_value t) (is_full t && true) f).1).0
vector_first (types.more t (types.more u us)) f = never f

pub set_first : (ts : Tys) → is_full (made maker_is.Set ts) ≡ true → is_full (first_type ts) ≡ true
set_first types.none f = never f
set_first (types.more t types.none) f = (and_parts (is_full t) true (and_parts (is_key t) (is_full t && true) f).1).0
set_first (types.more t (types.more u us)) f = never f

pub map_first : (t u : Ty) → is_full (made maker_is.Map (types.more t (types.more u types.none))) ≡ true → is_full t ≡ true
map_first t u f = (and_parts (is_full t) (is_full u && true) (and_parts (is_key t && has_value u) (is_full t && (is_full u && true)) f).1).0

pub map_second : (ts : Tys) → is_full (made maker_is.Map ts) ≡ true → is_full (second_type ts) ≡ true
map_second types.none f = never f
map_second (types.more t types.none) f = never f
map_second (types.more t (types.more u types.none)) f =
    let p = and_parts (is_key t && has_value u) (is_full t && (is_full u && true)) f in
    (and_parts (is_full u) true (and_parts (is_full t) (is_full u && true) p.1).1).0
map_second (types.more t (types.more u (types.more v us))) f = never f

-- types of keys and plain types are types of values
pub key_valued : (t : Ty) → is_key t ≡ true → has_value t ≡ true
key_valued (word word_is.Unknown) k = refl
key_valued (word word_is.Bool) k = refl
key_valued (word (word_is.Uint w)) k = refl
key_valued (word (word_is.Int w)) k = refl
key_valued (word word_is.Bytes) k = refl
key_valued (word word_is.String) k = refl
key_valued (word (word_is.Enum n)) k = refl
key_valued _ k = never k

pub plain_valued : (t : Ty) → is_plain t ≡ true → has_value t ≡ true
plain_valued (word word_is.Void) p = never p
plain_valued (word word_is.Regex) p = never p
plain_valued (word word_is.Sink) p = never p
plain_valued (word word_is.New) p = never p
plain_valued _ p = refl

pub are_valued : (ts : Tys) → are_plain ts ≡ true → have_values ts ≡ true
are_valued types.none p = refl
are_valued (types.more t ts) p =
    let q = and_parts (is_plain t) (are_plain ts) p in
    and_from (has_value t) (have_values ts) (plain_valued t q.0) (are_valued ts q.1)

-- what is made of full types, and of what may stand in it
pub vector_full : (t : Ty) → has_value t ≡ true → is_full t ≡ true → is_full (made maker_is.Vector (types.more t types.none)) ≡ true
vector_full t v f = and_from (has_value t) (is_full t && true) v (and_from (is_full t) true f refl)

pub set_full : (t : Ty) → is_key t ≡ true → is_full t ≡ true → is_full (made maker_is.Set (types.more t types.none)) ≡ true
set_full t k f = and_from (is_key t) (is_full t && true) k (and_from (is_full t) true f refl)

pub keyed_full : (t u : Ty) → is_key t ≡ true → has_value u ≡ true → is_full t ≡ true → is_full u ≡ true → is_full (made maker_is.Map (types.more t (types.more u types.none))) ≡ true
keyed_full t u k v f g =
    and_from (is_key t && has_value u) (is_full t && (is_full u && true)) (and_from (is_key t) (has_value u) k v) (and_from (is_full t) (is_full u && true) f (and_from (is_full u) true g refl))

-- a key and its value, as a tuple
pub entry_full : (ts : Tys) → is_full (made maker_is.Map ts) ≡ true → is_full (made maker_is.Tuple ts) ≡ true
entry_full types.none f = never f
entry_full (types.more t types.none) f = never f
entry_full (types.more t (types.more u types.none)) f =
    let p = and_parts (is_key t && has_value u) (is_full t && (is_full u && true)) f in
    let q = and_parts (is_key t) (has_value u) p.0 in
    and_from (has_value t && (has_value u && true)) (is_full t && (is_full u && true)) (and_from (has_value t) (has_value u && true) (key_valued t q.0) (and_from (has_value u) true q.1 refl)) p.1
entry_full (types.more t (types.more u (types.more v us))) f = never f

-- integer types
pub integer_full : (t : Ty) → is_integer t ≡ true → is_full t ≡ true
integer_full (word (word_is.Uint w)) i = refl
integer_full (word (word_is.Int w)) i = refl
integer_full _ i = never i

wider_full : (v w : Word) (b : Bool) → is_known_word v ≡ true → is_known_word w ≡ true → is_known_word (wider_of v w b) ≡ true
wider_full v w true p q = q
wider_full v w false p q = p

unsigned_wider : (s t : Ty) → is_unsigned s ≡ true → is_unsigned t ≡ true → is_full (wider_type s t) ≡ true
unsigned_wider (word (word_is.Uint v)) (word (word_is.Uint w)) p q = wider_full (word_is.Uint v) (word_is.Uint w) _ refl refl
unsigned_wider (word (word_is.Uint v)) _ p q = never q
unsigned_wider _ t p q = never p

signed_wider : (s t : Ty) → is_signed s ≡ true → is_signed t ≡ true → is_full (wider_type s t) ≡ true
signed_wider (word (word_is.Int v)) (word (word_is.Int w)) p q = wider_full (word_is.Int v) (word_is.Int w) _ refl refl
signed_wider (word (word_is.Int v)) _ p q = never q
signed_wider _ t p q = never p

by_sign : (a b c d : Bool) {X : Type 0} → ((a && b) || (c && d)) ≡ true → (a ≡ true → b ≡ true → X) → (c ≡ true → d ≡ true → X) → X
by_sign true true c d e f g = f refl refl
by_sign true false true true e f g = g refl refl
by_sign true false true false e f g = never e
by_sign true false false d e f g = never e
by_sign false b true true e f g = g refl refl
by_sign false b true false e f g = never e
by_sign false b false d e f g = never e

pub one_sign_wider : (s t : Ty) → of_one_sign s t ≡ true → is_full (wider_type s t) ≡ true
one_sign_wider s t o = by_sign (is_unsigned s) (is_unsigned t) (is_signed s) (is_signed t) o (unsigned_wider s t) (signed_wider s t)

-- operators whose operands are right alone and agree
same_bytes : (t : Ty) → same (word word_is.Bytes) t ≡ true → is_bytes t ≡ true
same_bytes (word word_is.Bytes) e = refl
same_bytes _ e = never e

same_text : (t : Ty) → same (word word_is.String) t ≡ true → is_text t ≡ true
same_text (word word_is.String) e = refl
same_text _ e = never e

same_unsigned : (s t : Ty) → is_unsigned s ≡ true → same s t ≡ true → is_full (wider_type s t) ≡ true
same_unsigned (word (word_is.Uint v)) (word (word_is.Uint w)) p q = wider_full (word_is.Uint v) (word_is.Uint w) _ refl refl
same_unsigned (word (word_is.Uint v)) _ p q = never q
same_unsigned _ t p q = never p

same_signed : (s t : Ty) → is_signed s ≡ true → same s t ≡ true → is_full (wider_type s t) ≡ true
same_signed (word (word_is.Int v)) (word (word_is.Int w)) p q = wider_full (word_is.Int v) (word_is.Int w) _ refl refl
same_signed (word (word_is.Int v)) _ p q = never q
same_signed _ t p q = never p

either : (a b : Bool) {X : Type 0} → (a || b) ≡ true → (a ≡ true → X) → (b ≡ true → X) → X
either true b e f g = f refl
either false b e f g = g e

-- a sum, by its left operand
added : (s t : Ty) → stands_before takes.Added s ≡ true → agree takes.Added s t ≡ true → is_full (sum_type s t) ≡ true
added (word (word_is.Uint v)) t b a = either (of_one_sign (word (word_is.Uint v)) t) (same (word (word_is.Uint v)) t) a (one_sign_wider (word (word_is.Uint v)) t) (same_unsigned (word (word_is.Uint v)) t refl)
added (word (word_is.Int v)) t b a = either (of_one_sign (word (word_is.Int v)) t) (same (word (word_is.Int v)) t) a (one_sign_wider (word (word_is.Int v)) t) (same_signed (word (word_is.Int v)) t refl)
added (word word_is.Bytes) t b a = rw (same_bytes t a) refl
added (word word_is.String) t b a = rw (same_text t a) refl
added (word word_is.Iterator) t b a = rw (a) refl
added _ t b a = never b

shifted : (s t : Ty) → is_unsigned s ≡ true → is_unsigned t ≡ true → is_full s ≡ true → is_full (if is_unsigned s && is_unsigned t then s else unknown) ≡ true
shifted s t p q f = rw (p, q) f

bits : (s t : Ty) → is_unsigned s ≡ true → is_unsigned t ≡ true → is_full (if is_unsigned s && is_unsigned t then wider_type s t else unknown) ≡ true
bits s t p q = rw (p, q) (unsigned_wider s t p q)

pub result_full : (sort : OperatorSort) (s t : Ty) → stands_before sort s ≡ true → stands_behind sort t ≡ true → agree sort s t ≡ true → is_full s ≡ true → is_full (result_type sort s t) ≡ true
result_full takes.Truths s t b c a f = refl
result_full takes.Member s t b c a f = refl
result_full takes.Alike s t b c a f = refl
result_full takes.Ordered s t b c a f = refl
result_full takes.Bits s t b c a f = bits s t b c
result_full takes.Shifted s t b c a f = shifted s t b c f
result_full takes.Added s t b c a f = added s t b a
result_full takes.Integers s t b c a f = one_sign_wider s t a
