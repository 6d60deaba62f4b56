-- The kinds of numbers that a walk into a type has found.
use Rattle.std.proofs.Common.{◌≡◌, ℕ, zero, suc, ◌<◌, List, [], ◌∷◌, ◌++◌, length, drop, take, get_or, ap, subst, ◌∙◌, arith, refl, sym}
use Rattle.std.specs.List.{AllByRecursion}
use Rattle.sp_methods.specs.Kinds.{Kind, kinds_of}
use Rattle.sp_types.specs.declared.words.Maker.{Maker}
use Rattle.sp_meaning_states.specs.Types.{kind_of_made}
use Rattle.sp_code.specs.Programs.{kind_at, kinds_at}
use Rattle.sp_emit.specs.Kinds.{Grows, IsNumberOf}
use Rattle.sp_emit.specs.Plans.{end}
use Rattle.sp_emit.specs.inside.KindPlans.{kinds_after}
use Rattle.sp_emit.proofs.Growing.{kinds_before}
use Rattle.sp_emit.proofs.Parts.{kinds_at_more}

-- as many, and those of numbers that are taken off
pub as_many : (ks : List Kind) (ns : List ℕ) → length (kinds_at ks ns) ≡ length ns
as_many ks [] = refl
as_many ks (n ∷ ns) = ap suc (as_many ks ns)

kinds_taken : (ks : List Kind) (i : ℕ) (ns : List ℕ) → kinds_at ks (take i ns) ≡ take i (kinds_at ks ns)
kinds_taken ks zero ns = refl
kinds_taken ks (suc i) [] = refl
kinds_taken ks (suc i) (n ∷ ns) = ap (λ js. kind_at ks n ∷ js) (kinds_taken ks i ns)

kinds_dropped : (ks : List Kind) (i : ℕ) (ns : List ℕ) → kinds_at ks (drop i ns) ≡ drop i (kinds_at ks ns)
kinds_dropped ks zero ns = refl
kinds_dropped ks (suc i) [] = refl
kinds_dropped ks (suc i) (n ∷ ns) = kinds_dropped ks i ns

pub below_taken : (m i : ℕ) (ns : List ℕ) → AllByRecursion (λ n. n < m) ns → AllByRecursion (λ n. n < m) (take i ns)
below_taken m zero ns h = tt
below_taken m (suc i) [] h = tt
below_taken m (suc i) (n ∷ ns) h = (h.0, below_taken m i ns h.1)

pub below_dropped : (m i : ℕ) (ns : List ℕ) → AllByRecursion (λ n. n < m) ns → AllByRecursion (λ n. n < m) (drop i ns)
below_dropped m zero ns h = h
below_dropped m (suc i) [] h = tt
below_dropped m (suc i) (n ∷ ns) h = below_dropped m i ns h.1

-- one more number, where the table grew by it
pub one_kind_more : (ks js : List Kind) (ns : List ℕ) (k : Kind) (n : ℕ) → Grows ks js → AllByRecursion (λ m. m < length ks) ns → IsNumberOf js k n → kinds_at js (ns ++ n ∷ []) ≡ kinds_at ks ns ++ k ∷ []
one_kind_more ks js ns k n g below is = kinds_at_more js ns n ∙ ap (λ l. l ++ kind_at js n ∷ []) (kinds_before ks js ns g below) ∙ ap (λ l. kinds_at ks ns ++ l ∷ []) is.is

-- what was made of the last ones, in their place
pub made_of_last : (ks js : List Kind) (ns : List ℕ) (ranges : List ℕ) (maker : Maker) (i n : ℕ) → Grows ks js → AllByRecursion (λ m. m < length ks) ns
    → IsNumberOf js (kind_of_made ranges maker (kinds_of (kinds_at ks (drop i ns)))) n → kinds_at js (take i ns ++ n ∷ []) ≡ kinds_after ranges (end maker i) (kinds_at ks ns)
made_of_last ks js ns ranges maker i n g below is =
    one_kind_more ks js (take i ns) _ n g (below_taken (length ks) i ns below) is
    ∙ ap (λ l. l ++ kind_of_made ranges maker (kinds_of (kinds_at ks (drop i ns))) ∷ []) (kinds_taken ks i ns)
    ∙ ap (λ l. take i (kinds_at ks ns) ++ kind_of_made ranges maker (kinds_of l) ∷ []) (kinds_dropped ks i ns)

-- the only one
pub only_one : (ks : List Kind) (ns : List ℕ) (k : Kind) → kinds_at ks ns ≡ k ∷ [] → 0 < length ns
only_one ks ns k e = omega (arith, ap length e, as_many ks ns)

pub only_number : (ks : List Kind) (ns : List ℕ) (k : Kind) (n : ℕ) → kinds_at ks ns ≡ k ∷ [] → AllByRecursion (λ m. m < length ks) ns → n ≡ get_or ns 0 n → IsNumberOf ks k n
only_number ks [] k n e below is = cc
only_number ks (m ∷ ns) k n e below is = subst (IsNumberOf ks k) (sym is) (record { within = below.0; is = ap (λ l. get_or l 0 (kind_at ks m)) e })
