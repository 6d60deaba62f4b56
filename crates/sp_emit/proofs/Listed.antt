-- Rows that are there stay what they are where a table grows.
use Rattle.std.proofs.Common.{◌≡◌, ◌<◌, ◌≤◌, ℕ, zero, suc, ◌+◌, List, [], ◌∷◌, ◌++◌, append_assoc, length, get_or, drop, refl, sym, ap, subst, ◌∙◌, arith, length-append, Result as Answer, Ok, Err, IfOk}
use Rattle.sp_base.specs.declared.bytes.NoMemory.{NoMemory}
use Rattle.sp_code.specs.declared.program.StackRow.{StackRow}
use Rattle.sp_code.specs.Programs.{stack_at, stacks_from}
use Rattle.sp_emit.specs.Stacks.{Extends, IsRowOf, StandEarlier}

-- growth
pub extends_not : (ss : List (List ℕ)) → Extends ss ss
extends_not ss = ([], sym (append_nil ss))
  where
    append_nil : (xs : List (List ℕ)) → xs ++ [] ≡ xs
    append_nil [] = refl
    append_nil (x ∷ xs) = ap (λ (l : List (List ℕ)). x ∷ l) (append_nil xs)

extends_by : (ss ts : List (List ℕ)) → Extends ss (ss ++ ts)
extends_by ss ts = (ts, refl)

pub extends_then : (ss ts us : List (List ℕ)) → Extends ss ts → Extends ts us → Extends ss us
extends_then ss ts us g h = (g.0 ++ h.0, h.1 ∙ ap (λ (l : List (List ℕ)). l ++ h.0) g.1 ∙ append_assoc ss g.0 h.0)

pub extends_long : (ss ts : List (List ℕ)) → Extends ss ts → length ss ≤ length ts
extends_long ss ts g = omega (arith, ap length g.1, length-append ss g.0)

-- what a number stands for
stack_before_more : (ss more : List (List ℕ)) (n : ℕ) → n ≤ length ss → stack_at (ss ++ more) n ≡ stack_at ss n
stack_before_more ss more zero h = refl
stack_before_more [] more (suc n) h = absurd (let z : ⊥ = omega (arith, h) in z)
stack_before_more (s ∷ ss) more (suc zero) h = refl
stack_before_more (s ∷ ss) more (suc (suc n)) h = stack_before_more ss more (suc n) (omega (arith, h))

pub stack_before : (ss ts : List (List ℕ)) (n : ℕ) → Extends ss ts → n ≤ length ss → stack_at ts n ≡ stack_at ss n
stack_before ss ts n g h = ap (λ (l : List (List ℕ)). stack_at l n) g.1 ∙ stack_before_more ss g.0 n h

last_stack : (ss : List (List ℕ)) (s : List ℕ) → stack_at (ss ++ s ∷ []) (suc (length ss)) ≡ s
last_stack [] s = refl
last_stack (t ∷ ss) s = last_stack ss s

-- the rows of a table
rows_grow : (ss : List (List ℕ)) (rs : List StackRow) → Extends ss (stacks_from ss rs)
rows_grow ss [] = extends_not ss
rows_grow ss (r ∷ rs) =
    let s = r.top ∷ stack_at ss r.below in
    extends_then ss (ss ++ s ∷ []) _ (extends_by ss (s ∷ [])) (rows_grow (ss ++ s ∷ []) rs)

rows_more : (ss : List (List ℕ)) (rs : List StackRow) (r : StackRow) → stacks_from ss (rs ++ r ∷ []) ≡ stacks_from ss rs ++ (r.top ∷ stack_at (stacks_from ss rs) r.below) ∷ []
rows_more ss [] r = refl
rows_more ss (q ∷ rs) r = rows_more (ss ++ (q.top ∷ stack_at ss q.below) ∷ []) rs r

pub rows_long : (ss : List (List ℕ)) (rs : List StackRow) → length (stacks_from ss rs) ≡ length ss + length rs
rows_long ss [] = omega arith
rows_long ss (r ∷ rs) =
    let s = r.top ∷ stack_at ss r.below in
    omega (arith, rows_long (ss ++ s ∷ []) rs, length-append ss (s ∷ []))

stands_at : (ss : List (List ℕ)) (rs : List StackRow) (j n : ℕ) (d : StackRow) → StandEarlier (length ss) rs → j < length rs → n ≡ suc (length ss + j)
    → stack_at (stacks_from ss rs) n ≡ (get_or rs j d).top ∷ stack_at (stacks_from ss rs) (get_or rs j d).below
stands_at ss [] j n d h lt is = absurd (let z : ⊥ = omega (arith, lt) in z)
stands_at ss (r ∷ rs) zero n d h lt is =
    let s = r.top ∷ stack_at ss r.below in
    let with_it = ss ++ s ∷ [] in
    let all = stacks_from with_it rs in
    let grown = rows_grow with_it rs in
    let here : n ≡ suc (length ss) = omega (arith, is) in
    ap (λ m. stack_at all m) here
    ∙ stack_before with_it all (suc (length ss)) grown (omega (arith, length-append ss (s ∷ [])))
    ∙ last_stack ss s
    ∙ ap (λ (ns : List ℕ). r.top ∷ ns) (sym (stack_before ss all r.below (extends_then ss with_it all (extends_by ss (s ∷ [])) grown) h.0))
stands_at ss (r ∷ rs) (suc j) n d h lt is =
    let s = r.top ∷ stack_at ss r.below in
    let longer : suc (length ss) ≡ length (ss ++ s ∷ []) = omega (arith, length-append ss (s ∷ [])) in
    stands_at (ss ++ s ∷ []) rs j n d (subst (λ m. StandEarlier m rs) longer h.1) (omega (arith, lt)) (omega (arith, is, longer))

below_there : (n : ℕ) (rs : List StackRow) (j : ℕ) (d : StackRow) → StandEarlier n rs → j < length rs → (get_or rs j d).below ≤ n + j
below_there n [] j d h lt = absurd (let z : ⊥ = omega (arith, lt) in z)
below_there n (r ∷ rs) zero d h lt = let here : r.below ≤ n + 0 = omega (arith, h.0) in here
below_there n (r ∷ rs) (suc j) d h lt =
    let others : (get_or rs j d).below ≤ suc n + j = below_there (suc n) rs j d h.1 (omega (arith, lt)) in
    let here : (get_or rs j d).below ≤ n + suc j = omega (arith, others) in here

-- one more row
earlier_more : (n : ℕ) (rs : List StackRow) (r : StackRow) → StandEarlier n rs → r.below ≤ n + length rs → StandEarlier n (rs ++ r ∷ [])
earlier_more n [] r h below = (omega (arith, below), tt)
earlier_more n (q ∷ rs) r h below = (h.0, earlier_more (suc n) rs r h.1 (omega (arith, below)))

pub row_stands : (rs : List StackRow) (r : StackRow) → StandEarlier 0 rs → r.below ≤ length (stacks_from [] rs) → StandEarlier 0 (rs ++ r ∷ [])
row_stands rs r h below = earlier_more 0 rs r h (omega (arith, below, rows_long [] rs))

pub row_grows : (rs : List StackRow) (r : StackRow) → Extends (stacks_from [] rs) (stacks_from [] (rs ++ r ∷ []))
row_grows rs r = ((r.top ∷ stack_at (stacks_from [] rs) r.below) ∷ [], rows_more [] rs r)

new_row : (rs : List StackRow) (r : StackRow) (n : ℕ) → n ≡ length (rs ++ r ∷ []) → IsRowOf (stacks_from [] (rs ++ r ∷ [])) (r.top ∷ stack_at (stacks_from [] rs) r.below) n
new_row rs r n is =
    let ss = stacks_from [] rs in
    let s = r.top ∷ stack_at ss r.below in
    let here : n ≡ suc (length ss) = omega (arith, is, rows_long [] rs, length-append rs (r ∷ [])) in
    subst (λ (ts : List (List ℕ)). IsRowOf ts s n) (sym (rows_more [] rs r))
    (record { within = omega (arith, here, length-append ss (s ∷ [])); is = ap (λ m. stack_at (ss ++ s ∷ []) m) here ∙ last_stack ss s })

pub number_of_row : (rs : List StackRow) (r : StackRow) (n : ℕ) (a : Answer ℕ NoMemory) → n ≡ length (rs ++ r ∷ []) → IfOk a (λ m. m ≡ n)
    → IfOk a (IsRowOf (stacks_from [] (rs ++ r ∷ [])) (r.top ∷ stack_at (stacks_from [] rs) r.below))
number_of_row rs r n (Ok m) is h = new_row rs r m (h ∙ is)
number_of_row rs r n (Err e) is h = tt

-- what stands below the top of a row
pub row_below : (rs : List StackRow) (n j : ℕ) (r : StackRow) → StandEarlier 0 rs → n ≡ suc j → j < length rs → r ≡ get_or rs j r → IsRowOf (stacks_from [] rs) (drop 1 (stack_at (stacks_from [] rs) n)) r.below
row_below rs n j r h at lt is =
    let ss = stacks_from [] rs in
    let stands : stack_at ss n ≡ (get_or rs j r).top ∷ stack_at ss (get_or rs j r).below = stands_at [] rs j n r h lt (omega (arith, at)) in
    let low : (get_or rs j r).below ≤ 0 + j = below_there 0 rs j r h lt in
    let same : (get_or rs j r).below ≡ r.below = ap (λ (x : StackRow). x.below) (sym is) in
    record {
      within = omega (arith, low, same, lt, rows_long [] rs);
      is = ap (λ m. stack_at ss m) (sym same) ∙ ap (λ (ns : List ℕ). drop 1 ns) (sym stands);
    }

-- one more number before those of a row
next_dropped : (ns : List ℕ) (i : ℕ) → i < length ns → drop i ns ≡ get_or ns i 0 ∷ drop (suc i) ns
next_dropped [] i lt = absurd (let z : ⊥ = omega (arith, lt) in z)
next_dropped (n ∷ ns) zero lt = refl
next_dropped (n ∷ ns) (suc i) lt = next_dropped ns i (omega (arith, lt))

pub row_next : (ts us : List (List ℕ)) (ns behind : List ℕ) (i j n m : ℕ) → suc i ≡ j → j ≤ length ns → stack_at ts n ≡ drop j ns ++ behind → IsRowOf us (get_or ns i 0 ∷ stack_at ts n) m → IsRowOf us (drop i ns ++ behind) m
row_next ts us ns behind i j n m next le is row =
    let top = get_or ns i 0 in
    let here : drop i ns ≡ top ∷ drop j ns = next_dropped ns i (omega (arith, next, le)) ∙ ap (λ k. top ∷ drop k ns) next in
    subst (λ (l : List ℕ). IsRowOf us l m) (ap (λ (l : List ℕ). top ∷ l) is ∙ ap (λ (l : List ℕ). l ++ behind) (sym here)) row

pub rows_from_end : (ss : List (List ℕ)) (ns : List ℕ) (i n : ℕ) → i ≡ length ns → n ≤ length ss → IsRowOf ss (drop i ns ++ stack_at ss n) n
rows_from_end ss ns i n long h =
    record { within = h; is = sym (ap (λ (l : List ℕ). l ++ stack_at ss n) (ap (λ k. drop k ns) long ∙ all_dropped ns)) }
  where
    all_dropped : (xs : List ℕ) → drop (length xs) xs ≡ []
    all_dropped [] = refl
    all_dropped (x ∷ xs) = all_dropped xs
