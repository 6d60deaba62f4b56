-- The numbers of the kinds of parts, and of what is made of them.
use Rattle.std.proofs.Common.{◌≡◌, ◌≤◌, ◌<◌, ℕ, zero, suc, List, [], ◌∷◌, ◌++◌, length, get_or, map, refl, sym, ap, subst, ◌∙◌, arith, Result as Answer, Ok, Err, IfOk, Option, Some, None, IfSome, IfNone}
use Rattle.sp_base.specs.declared.bytes.NoMemory.{NoMemory}
use Rattle.std.specs.List.{AllByRecursion}
use Rattle.sp_methods.specs.Kinds.{Kind, Void, VectorOf, SetOf, MapOf, kinds_of}
use Rattle.sp_types.specs.Types.{Ty, tys}
use Rattle.sp_types.specs.declared.words.Maker.{Maker}
use Rattle.sp_types.specs.declared.words.Maker.TheVariants as maker_is
use Rattle.sp_meaning_states.specs.Types.{first_of, behind_first, kind_of_made, kind_of_type, kinds_of_types}
use Rattle.sp_code.specs.Programs.{kind_at, kinds_at}
use Rattle.sp_emit.specs.Kinds.{Grows, IsNumberOf}
use Rattle.sp_emit.specs.Numbered.{IsAt}
use Rattle.sp_emit.proofs.Growing.{grows_long, below_longer}

-- a part by its place
pub part_number : (ks : List Kind) (ns : List ℕ) (i : ℕ) → i < length ns → AllByRecursion (λ n. n < length ks) ns → IsNumberOf ks (kind_at (kinds_at ks ns) i) (get_or ns i 0)
part_number ks [] i lt h = absurd (let z : ⊥ = omega (arith, lt) in z)
part_number ks (n ∷ ns) zero lt h = record { within = h.0; is = refl }
part_number ks (n ∷ ns) (suc i) lt h = part_number ks ns i (omega (arith, lt)) h.1

pub part_read : (ks : List Kind) (ns : List ℕ) (i n d : ℕ) → i < length ns → AllByRecursion (λ m. m < length ks) ns → n ≡ get_or ns i d → IsNumberOf ks (kind_at (kinds_at ks ns) i) n
part_read ks [] i n d lt h is = absurd (let z : ⊥ = omega (arith, lt) in z)
part_read ks (m ∷ ns) zero n d lt h is = subst (λ k. IsNumberOf ks (kind_at ks m) k) (sym is) (record { within = h.0; is = refl })
part_read ks (m ∷ ns) (suc i) n d lt h is = part_read ks ns i n d (omega (arith, lt)) h.1 is

pub no_part : (ks : List Kind) (ns : List ℕ) (i : ℕ) → length ns ≤ i → kind_at (kinds_at ks ns) i ≡ Void
no_part ks [] i h = refl
no_part ks (n ∷ ns) zero h = absurd (let z : ⊥ = omega (arith, h) in z)
no_part ks (n ∷ ns) (suc i) h = no_part ks ns i (omega (arith, h))

pub part_at : (ks : List Kind) (ns : List ℕ) (i : ℕ) (a : Option ℕ) → AllByRecursion (λ m. m < length ks) ns → IfSome a (IsAt ns i) → IfSome a (IsNumberOf ks (kind_at (kinds_at ks ns) i))
part_at ks ns i None h at_it = tt
part_at ks ns i (Some n) h at_it = part_read ks ns i n 0 at_it.within h at_it.is

pub no_part_at : (ks : List Kind) (ns : List ℕ) (i : ℕ) (a : Option ℕ) → IfNone a (length ns ≤ i) → IfNone a (kind_at (kinds_at ks ns) i ≡ Void)
no_part_at ks ns i None h = no_part ks ns i h
no_part_at ks ns i (Some n) h = tt

pub first_part : (ranges : List ℕ) (ks : List Kind) → first_of ranges (kinds_of ks) ≡ kind_at ks 0
first_part ranges [] = refl
first_part ranges (k ∷ ks) = refl

pub second_part : (ranges : List ℕ) (ks : List Kind) → first_of ranges (behind_first ranges (kinds_of ks)) ≡ kind_at ks 1
second_part ranges [] = refl
second_part ranges (j ∷ []) = refl
second_part ranges (j ∷ k ∷ ks) = refl

-- the kinds of types, one after another
pub kinds_of_each : (ranges : List ℕ) (ts : List Ty) → kinds_of_types ranges (tys ts) ≡ kinds_of (map (kind_of_type ranges) ts)
kinds_of_each ranges [] = refl
kinds_of_each ranges (t ∷ ts) = let others = kinds_of_each ranges ts in cc

pub kinds_at_more : (ks : List Kind) (ns : List ℕ) (n : ℕ) → kinds_at ks (ns ++ n ∷ []) ≡ kinds_at ks ns ++ kind_at ks n ∷ []
kinds_at_more ks [] n = refl
kinds_at_more ks (m ∷ ns) n = ap (λ l. kind_at ks m ∷ l) (kinds_at_more ks ns n)

pub below_one_more : (m : ℕ) (ns : List ℕ) (n : ℕ) → AllByRecursion (λ k. k < m) ns → n < m → AllByRecursion (λ k. k < m) (ns ++ n ∷ [])
below_one_more m [] n all h = (h, tt)
below_one_more m (k ∷ ns) n all h = (all.0, below_one_more m ns n all.1 h)

-- the numbers so far, where a table grew by the next
pub below_next : (ks js : List Kind) (ns : List ℕ) (k : Kind) (n : ℕ) → Grows ks js → AllByRecursion (λ m. m < length ks) ns → IsNumberOf js k n → AllByRecursion (λ m. m < length js) (ns ++ n ∷ [])
below_next ks js ns k n g all h = below_one_more (length js) ns n (below_longer _ _ ns (grows_long ks js g) all) h.within

-- what is made of parts
made_as : (maker : Maker) (ks js : List Kind) (k l : Kind) (r : Answer ℕ NoMemory) → ((ranges : List ℕ) → kind_of_made ranges maker (kinds_of ks) ≡ k) → l ≡ k → IfOk r (IsNumberOf js l)
    → IfOk r (λ n. (ranges : List ℕ) → IsNumberOf js (kind_of_made ranges maker (kinds_of ks)) n)
made_as maker ks js k l (Ok n) same is h = λ ranges. subst (λ i. IsNumberOf js i n) (is ∙ sym (same ranges)) h
made_as maker ks js k l (Err e) same is h = tt

pub vector_made : (maker : Maker) (ks ps is js : List Kind) (n : ℕ) (r : Answer ℕ NoMemory) → maker ≡ maker_is.Vector → ps ≡ ks → IsNumberOf is (kind_at ps 0) n → IfOk r (IsNumberOf js (VectorOf (kind_at is n)))
    → IfOk r (λ n. (ranges : List ℕ) → IsNumberOf js (kind_of_made ranges maker (kinds_of ks)) n)
vector_made maker ks ps is js n r which same first h =
    subst (λ m. IfOk r (λ n. (ranges : List ℕ) → IsNumberOf js (kind_of_made ranges m (kinds_of ks)) n)) (sym which)
    (made_as maker_is.Vector ks js _ _ r (λ ranges. ap VectorOf (first_part ranges ks)) (ap VectorOf (first.is ∙ ap (λ l. kind_at l 0) same)) h)

pub set_made : (maker : Maker) (ks ps is js : List Kind) (n : ℕ) (r : Answer ℕ NoMemory) → maker ≡ maker_is.Set → ps ≡ ks → IsNumberOf is (kind_at ps 0) n → IfOk r (IsNumberOf js (SetOf (kind_at is n)))
    → IfOk r (λ n. (ranges : List ℕ) → IsNumberOf js (kind_of_made ranges maker (kinds_of ks)) n)
set_made maker ks ps is js n r which same first h =
    subst (λ m. IfOk r (λ n. (ranges : List ℕ) → IsNumberOf js (kind_of_made ranges m (kinds_of ks)) n)) (sym which)
    (made_as maker_is.Set ks js _ _ r (λ ranges. ap SetOf (first_part ranges ks)) (ap SetOf (first.is ∙ ap (λ l. kind_at l 0) same)) h)

pub map_made : (maker : Maker) (ks is js : List Kind) (j k : Kind) (m n : ℕ) (r : Answer ℕ NoMemory) → maker ≡ maker_is.Map → j ≡ kind_at ks 0 → k ≡ kind_at ks 1 → IsNumberOf is j m → IsNumberOf is k n
    → IfOk r (IsNumberOf js (MapOf (kind_at is m) (kind_at is n))) → IfOk r (λ n. (ranges : List ℕ) → IsNumberOf js (kind_of_made ranges maker (kinds_of ks)) n)
map_made maker ks is js j k m n r which at_key at_value key value h =
    subst (λ m. IfOk r (λ n. (ranges : List ℕ) → IsNumberOf js (kind_of_made ranges m (kinds_of ks)) n)) (sym which)
    (made_as maker_is.Map ks js (MapOf (kind_at ks 0) (kind_at ks 1)) _ r (λ ranges. let first = first_part ranges ks in let second = second_part ranges ks in cc)
    (let first = key.is ∙ at_key in let second = value.is ∙ at_value in cc) h)
