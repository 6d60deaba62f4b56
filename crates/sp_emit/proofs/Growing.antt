-- Kinds that are there stay what they are where a table grows.
use Rattle.std.proofs.Common.{◌≡◌, ◌<◌, ◌≤◌, ℕ, zero, suc, ◌+◌, List, [], ◌∷◌, ◌++◌, append_assoc, length, get_or, refl, sym, ap, subst, ◌∙◌, arith, length-append}
use Rattle.std.specs.List.{AllByRecursion}
use Rattle.sp_methods.specs.Kinds.{Kind, TupleOf, VectorOf, SetOf, kinds_of}
use Rattle.sp_code.specs.declared.program.KindRow.{KindRow}
use Rattle.sp_code.specs.declared.program.KindRow.TheVariants as row_is
use Rattle.sp_code.specs.Programs.{kind_at, kinds_at, kind_of_row, kinds_from}
use Rattle.sp_emit.specs.Kinds.{Grows, IsNumberOf, NamesBelow, NameEarlier}

-- growth
pub grows_not : (ks : List Kind) → Grows ks ks
grows_not ks = ([], sym (append_nil ks))
  where
    append_nil : (xs : List Kind) → xs ++ [] ≡ xs
    append_nil [] = refl
    append_nil (x ∷ xs) = ap (λ l. x ∷ l) (append_nil xs)

pub grows_by : (ks js : List Kind) → Grows ks (ks ++ js)
grows_by ks js = (js, refl)

pub grows_then : (is js ks : List Kind) → Grows is js → Grows js ks → Grows is ks
grows_then is js ks g h = (g.0 ++ h.0, h.1 ∙ ap (λ l. l ++ h.0) g.1 ∙ append_assoc is g.0 h.0)

pub grows_long : (ks js : List Kind) → Grows ks js → length ks ≤ length js
grows_long ks js g = omega (arith, ap length g.1, length-append ks g.0)

-- what a number stands for
kind_before_more : (ks js : List Kind) (n : ℕ) → n < length ks → kind_at (ks ++ js) n ≡ kind_at ks n
kind_before_more [] js n h = absurd (let z : ⊥ = omega (arith, h) in z)
kind_before_more (k ∷ ks) js zero h = refl
kind_before_more (k ∷ ks) js (suc n) h = kind_before_more ks js n (omega (arith, h))

pub kind_before : (ks js : List Kind) (n : ℕ) → Grows ks js → n < length ks → kind_at js n ≡ kind_at ks n
kind_before ks js n g h = ap (λ l. kind_at l n) g.1 ∙ kind_before_more ks g.0 n h

pub kinds_before : (ks js : List Kind) (ns : List ℕ) → Grows ks js → AllByRecursion (λ m. m < length ks) ns → kinds_at js ns ≡ kinds_at ks ns
kinds_before ks js [] g h = refl
kinds_before ks js (n ∷ ns) g h =
    let first = kind_before ks js n g h.0 in
    let others = kinds_before ks js ns g h.1 in cc

pub row_before : (ks js : List Kind) (r : KindRow) → Grows ks js → NamesBelow (length ks) r → kind_of_row js r ≡ kind_of_row ks r
row_before ks js (row_is.Tuple ns) g h = ap (λ l. TupleOf (kinds_of l)) (kinds_before ks js ns.items g h)
row_before ks js (row_is.Vector n) g h = ap VectorOf (kind_before ks js n g h)
row_before ks js (row_is.Set n) g h = ap SetOf (kind_before ks js n g h)
row_before ks js (row_is.Map m n) g h =
    let key = kind_before ks js m g h.0 in
    let value = kind_before ks js n g h.1 in cc
row_before ks js _ g h = refl

pub number_before : (ks js : List Kind) (k : Kind) (n : ℕ) → Grows ks js → IsNumberOf ks k n → IsNumberOf js k n
number_before ks js k n g h = record { within = omega (arith, h.within, grows_long ks js g); is = kind_before ks js n g h.within ∙ h.is }

pub below_longer : (m n : ℕ) (ns : List ℕ) → m ≤ n → AllByRecursion (λ k. k < m) ns → AllByRecursion (λ k. k < n) ns
below_longer m n [] h all = tt
below_longer m n (k ∷ ns) h all = (omega (arith, h, all.0), below_longer m n ns h all.1)

last_kind : (ks : List Kind) (k : Kind) → kind_at (ks ++ k ∷ []) (length ks) ≡ k
last_kind [] k = refl
last_kind (j ∷ ks) k = last_kind ks k

-- the kinds of a table
pub from_grows : (ks : List Kind) (rs : List KindRow) → Grows ks (kinds_from ks rs)
from_grows ks [] = grows_not ks
from_grows ks (r ∷ rs) = grows_then ks (ks ++ kind_of_row ks r ∷ []) _ (grows_by ks (kind_of_row ks r ∷ [])) (from_grows (ks ++ kind_of_row ks r ∷ []) rs)

pub from_more : (ks : List Kind) (rs : List KindRow) (r : KindRow) → kinds_from ks (rs ++ r ∷ []) ≡ kinds_from ks rs ++ kind_of_row (kinds_from ks rs) r ∷ []
from_more ks [] r = refl
from_more ks (q ∷ rs) r = from_more (ks ++ kind_of_row ks q ∷ []) rs r

pub from_long : (ks : List Kind) (rs : List KindRow) → length (kinds_from ks rs) ≡ length ks + length rs
from_long ks [] = omega arith
from_long ks (r ∷ rs) = omega (arith, from_long (ks ++ kind_of_row ks r ∷ []) rs, length-append ks (kind_of_row ks r ∷ []))

pub stands_at : (ks : List Kind) (rs : List KindRow) (j n : ℕ) (d : KindRow) → NameEarlier (length ks) rs → j < length rs → n ≡ length ks + j
    → kind_at (kinds_from ks rs) n ≡ kind_of_row (kinds_from ks rs) (get_or rs j d)
stands_at ks [] j n d h lt is = absurd (let z : ⊥ = omega (arith, lt) in z)
stands_at ks (r ∷ rs) zero n d h lt is =
    let with_it = ks ++ kind_of_row ks r ∷ [] in
    let all = kinds_from with_it rs in
    let grown = from_grows with_it rs in
    let here : n ≡ length ks = omega (arith, is) in
    ap (λ m. kind_at all m) here
    ∙ kind_before with_it all (length ks) grown (omega (arith, length-append ks (kind_of_row ks r ∷ [])))
    ∙ last_kind ks (kind_of_row ks r)
    ∙ sym (row_before ks all r (grows_then ks with_it all (grows_by ks (kind_of_row ks r ∷ [])) grown) h.0)
stands_at ks (r ∷ rs) (suc j) n d h lt is =
    let with_it = ks ++ kind_of_row ks r ∷ [] in
    let longer : suc (length ks) ≡ length with_it = omega (arith, length-append ks (kind_of_row ks r ∷ [])) in
    stands_at with_it rs j n d (subst (λ m. NameEarlier m rs) longer h.1) (omega (arith, lt)) (omega (arith, is, longer))

-- one more row
pub earlier_more : (n : ℕ) (rs : List KindRow) (r : KindRow) → NameEarlier n rs → NamesBelow (n + length rs) r → NameEarlier n (rs ++ r ∷ [])
earlier_more n [] r h below = (subst (λ m. NamesBelow m r) (let e : n + 0 ≡ n = omega arith in e) below, tt)
earlier_more n (q ∷ rs) r h below =
    (h.0, earlier_more (suc n) rs r h.1 (subst (λ m. NamesBelow m r) (let e : n + suc (length rs) ≡ suc n + length rs = omega arith in e) below))

-- a row is appended to a table of rows
pub row_is_last : (rs : List KindRow) (r : KindRow) → NameEarlier 0 rs → NamesBelow (length (kinds_from [] rs)) r → NameEarlier 0 (rs ++ r ∷ [])
row_is_last rs r h below = earlier_more 0 rs r h (subst (λ m. NamesBelow m r) (from_long [] rs) below)

pub last_number : (rs : List KindRow) (r : KindRow) → IsNumberOf (kinds_from [] (rs ++ r ∷ [])) (kind_of_row (kinds_from [] rs) r) (length rs)
last_number rs r =
    let ks = kinds_from [] rs in
    let here : length rs ≡ length ks = omega (arith, from_long [] rs) in
    subst (λ js. IsNumberOf js (kind_of_row ks r) (length rs)) (sym (from_more [] rs r))
    (record { within = omega (arith, here, length-append ks (kind_of_row ks r ∷ [])); is = ap (λ m. kind_at (ks ++ kind_of_row ks r ∷ []) m) here ∙ last_kind ks (kind_of_row ks r) })

-- a row that is there already
pub known_number : (rs : List KindRow) (j : ℕ) (q r : KindRow) → NameEarlier 0 rs → j < length rs → q ≡ get_or rs j q → ((ks : List Kind) → kind_of_row ks q ≡ kind_of_row ks r)
    → IsNumberOf (kinds_from [] rs) (kind_of_row (kinds_from [] rs) r) j
known_number rs j q r h lt is same =
    record { within = omega (arith, lt, from_long [] rs); is = stands_at [] rs j j q h lt (omega arith) ∙ ap (λ x. kind_of_row (kinds_from [] rs) x) (sym is) ∙ same (kinds_from [] rs) }
