-- The kinds of operands, as these come and go.
use Rattle.std.proofs.Common.{◌≡◌, ◌<◌, ℕ, zero, suc, ◌-◌, List, [], ◌∷◌, length, drop, refl, sym, ap, ◌∙◌}
use Rattle.std.specs.List.{AllByRecursion}
use Rattle.sp_methods.specs.Kinds.{Kind}
use Rattle.sp_code.specs.Programs.{kinds_at}
use Rattle.sp_code.specs.Shapes.{with_operands}
use Rattle.sp_emit.specs.Numbered.{RowParts, shape_in, with_numbers, lowest_numbers, AreBelow}
use Rattle.sp_emit.specs.Emitted.{below_top, popped, lowest, lowered}

all_dropped : {A : Type 0} (P : A → Type 0) (n : ℕ) (xs : List A) → AllByRecursion P xs → AllByRecursion P (drop n xs)
all_dropped P zero xs all = all
all_dropped P (suc n) [] all = tt
all_dropped P (suc n) (x ∷ xs) all = all_dropped P n xs all.1

kinds_dropped : (ks : List Kind) (n : ℕ) (ns : List ℕ) → kinds_at ks (drop n ns) ≡ drop n (kinds_at ks ns)
kinds_dropped ks zero ns = refl
kinds_dropped ks (suc n) [] = refl
kinds_dropped ks (suc n) (m ∷ ns) = kinds_dropped ks n ns

pub kinds_long : (ks : List Kind) (ns : List ℕ) → length (kinds_at ks ns) ≡ length ns
kinds_long ks [] = refl
kinds_long ks (n ∷ ns) = ap suc (kinds_long ks ns)

kinds_below : (ks : List Kind) (ns : List ℕ) → kinds_at ks (drop 1 ns) ≡ below_top (kinds_at ks ns)
kinds_below ks [] = refl
kinds_below ks (n ∷ ns) = refl

kinds_lowest : (ks : List Kind) (n : ℕ) (ns : List ℕ) → kinds_at ks (lowest_numbers n ns) ≡ lowest n (kinds_at ks ns)
kinds_lowest ks n ns = kinds_dropped ks (length ns - n) ns ∙ ap (λ l. drop (l - n) (kinds_at ks ns)) (sym (kinds_long ks ns))

-- with other operands
pub one_more : (n k : ℕ) (s : RowParts) → k < n → AreBelow n s → AreBelow n (with_numbers s (k ∷ s.operands))
one_more n k s lt h = record { round = h.round; locals = h.locals; operands = (lt, h.operands) }

pub some_dropped : (n k : ℕ) (s : RowParts) → AreBelow n s → AreBelow n (with_numbers s (drop k s.operands))
some_dropped n k s h = record { round = h.round; locals = h.locals; operands = all_dropped (λ m. m < n) k s.operands h.operands }

pub pops_to : (ks : List Kind) (s : RowParts) → shape_in ks (with_numbers s (drop 1 s.operands)) ≡ popped (shape_in ks s)
pops_to ks s = ap (λ (os : List Kind). with_operands (shape_in ks s) os) (kinds_below ks s.operands)

pub lowers_to : (ks : List Kind) (n : ℕ) (s : RowParts) → shape_in ks (with_numbers s (lowest_numbers n s.operands)) ≡ lowered n (shape_in ks s)
lowers_to ks n s = ap (λ (os : List Kind). with_operands (shape_in ks s) os) (kinds_lowest ks n s.operands)
