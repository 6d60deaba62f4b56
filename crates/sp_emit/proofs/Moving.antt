-- The shape at hand, as its operands and its rows come and go.
use Rattle.std.proofs.Common.{◌≡◌, ◌<◌, ◌≤◌, ◌-◌, ℕ, suc, List, [], ◌∷◌, length, drop, refl, sym, ap, ◌∙◌, arith, Option, Result as Answer, Ok, Err, OnErr}
use Rattle.sp_code.specs.declared.program.RoundRow.{RoundRow}
use Rattle.sp_emit.specs.Stacks.{Extends}
use Rattle.sp_emit.specs.Numbered.{Numbered, RowParts, with_numbers, lowest_numbers, Moves}
use Rattle.sp_emit.specs.inside.Standing.{numbered_of, AreRows}
use Rattle.sp_emit.proofs.Listed.{extends_not, extends_then, extends_long, stack_before}

-- what is true at an error
pub on_error : {A E : Type 0} {P : Type 0} (r : Answer A E) → P → OnErr r P
on_error (Ok x) p = tt
on_error (Err e) p = p

-- more rows
pub rows_stay : (ss ts : List (List ℕ)) (ks : List ℕ) (l o d : ℕ) → Extends ss ts → AreRows ss ks l o d → AreRows ts ks l o d
rows_stay ss ts ks l o d g h =
    let long = extends_long ss ts g in
    record {
      locals = omega (arith, h.locals, long);
      made = λ made. stack_before ss ts l g h.locals ∙ h.made made;
      operands = omega (arith, h.operands, long);
      depth = h.depth ∙ ap length (sym (stack_before ss ts o g h.operands));
    }

pub shape_stays : (ss ts : List (List ℕ)) (u : Option ℕ) (r : RoundRow) (ks : List ℕ) (l o d : ℕ) → Extends ss ts → AreRows ss ks l o d
    → Moves (numbered_of ss u r ks o) (numbered_of ts u r ks o) (numbered_of ss u r ks o).shape
shape_stays ss ts u r ks l o d g h =
    let P : List ℕ → RowParts = λ os. record { unit = u; round = r; locals = ks; operands = os } in
    record { shape = ap P (stack_before ss ts o g h.operands); stacks = g }

pub nothing_moves : (a : Numbered) → Moves a a a.shape
nothing_moves a = record { shape = refl; stacks = extends_not a.stacks }

-- only so many are left
lowest_one : (n : ℕ) (ns : List ℕ) → n < length ns → lowest_numbers n (drop 1 ns) ≡ lowest_numbers n ns
lowest_one n [] lt = absurd (let z : ⊥ = omega (arith, lt) in z)
lowest_one n (m ∷ ns) lt =
    let count : suc (length ns - n) ≡ length (m ∷ ns) - n = omega (arith, lt) in
    ap (λ k. drop k (m ∷ ns)) count

lowest_all : (n : ℕ) (ns : List ℕ) → length ns ≤ n → lowest_numbers n ns ≡ ns
lowest_all n ns le = let nothing : length ns - n ≡ 0 = omega (arith, le) in ap (λ k. drop k ns) nothing

pub lowers_not : (a : Numbered) → Moves a a (with_numbers a.shape a.shape.operands)
lowers_not a = record { shape = refl; stacks = extends_not a.stacks }

pub lowers_one : (a b c : Numbered) → Moves a b (with_numbers a.shape b.shape.operands) → Moves b c (with_numbers b.shape (drop 1 b.shape.operands)) → Moves a c (with_numbers a.shape c.shape.operands)
lowers_one a b c g h =
    let left : c.shape.operands ≡ drop 1 b.shape.operands = ap (λ (s : RowParts). s.operands) h.shape in
    record {
      shape = h.shape ∙ ap (λ ns. with_numbers b.shape ns) (sym left) ∙ ap (λ (s : RowParts). with_numbers s c.shape.operands) g.shape;
      stacks = extends_then a.stacks b.stacks c.stacks g.stacks h.stacks;
    }

pub lowest_left : (n : ℕ) (ns : List ℕ) (b c : Numbered) → n < length b.shape.operands → Moves b c (with_numbers b.shape (drop 1 b.shape.operands)) → lowest_numbers n b.shape.operands ≡ ns → lowest_numbers n c.shape.operands ≡ ns
lowest_left n ns b c lt h is =
    ap (λ (s : RowParts). lowest_numbers n s.operands) h.shape ∙ lowest_one n b.shape.operands lt ∙ is

pub lowers : (n : ℕ) (a b : Numbered) → Moves a b (with_numbers a.shape b.shape.operands) → length b.shape.operands ≤ n → lowest_numbers n b.shape.operands ≡ lowest_numbers n a.shape.operands
    → Moves a b (with_numbers a.shape (lowest_numbers n a.shape.operands))
lowers n a b g le is = record { shape = g.shape ∙ ap (λ ns. with_numbers a.shape ns) (sym (lowest_all n b.shape.operands le) ∙ is); stacks = g.stacks }
