-- A machine steps as its automaton does, and a table that grows keeps what it says.
use Rattle.std.proofs.Common.{◌≡◌, ℕ, zero, suc, ◌+◌, ◌*◌, ◌/◌, ◌%◌, ◌<◌, ◌≤◌, ◌++◌, ◌⊎◌, List, [], ◌∷◌, Option, Some, None, length, get_or, refl, ap, sym, subst, ◌∙◌, inl, inr, arith, length-append}
use Rattle.std.specs.Global.{Vec}
use Rattle.sp_match.specs.declared.spot.Spot.{Spot}
use Rattle.sp_match.specs.declared.table.Acceptance.{Acceptance}
use Rattle.sp_match.specs.Bits.{holds, row}
use Rattle.sp_match.specs.Running.{IsNext}
use Rattle.sp_match.specs.Tables.{AreClasses, IsAcceptance, acceptance_at, IsStates, AreKept, IsState, IsTable}
use Rattle.sp_match.proofs.Compiling.{order}
use Rattle.std.proofs.lemmas.Nat.{div-mul-add, mod-mul-add}

-- rows

pub row_is : (xs : List (Vec ℕ)) (i : ℕ) (x : Vec ℕ) → i < length xs → x ≡ get_or xs i x → row xs i ≡ x.items
row_is [] i x lt e = absurd (omega arith)
row_is (y ∷ ys) zero x lt e = ap (λ z. z.items) (sym e)
row_is (y ∷ ys) (suc i) x lt e = row_is ys i x (omega arith) e

pub row_past : (xs : List (Vec ℕ)) (i : ℕ) → length xs ≤ i → row xs i ≡ []
row_past [] i le = refl
row_past (y ∷ ys) zero le = absurd (omega arith)
row_past (y ∷ ys) (suc i) le = row_past ys i (omega arith)

pub row_before : (xs : List (Vec ℕ)) (x : Vec ℕ) (i : ℕ) → i < length xs → row (xs ++ x ∷ []) i ≡ row xs i
row_before [] x i lt = absurd (omega arith)
row_before (y ∷ ys) x zero lt = refl
row_before (y ∷ ys) x (suc i) lt = row_before ys x i (omega arith)

pub row_new : (xs : List (Vec ℕ)) (x : Vec ℕ) → row (xs ++ x ∷ []) (length xs) ≡ x.items
row_new [] x = refl
row_new (y ∷ ys) x = row_new ys x

-- a table with one move more

kept_next : (net : List Spot) (old new : List (Vec ℕ)) (s t b : ℕ) → AreKept old new → s < length old → t < length old → IsNext net (holds (row old s)) (holds (row old t)) b → IsNext net (holds (row new s)) (holds (row new t)) b
kept_next net old new s t b k ls lt n = subst (λ z. IsNext net (holds z) (holds (row new t)) b) (sym (k.1 s ls)) (subst (λ z. IsNext net (holds (row old s)) (holds z) b) (sym (k.1 t lt)) n)

move_cases : (moves : List (Option ℕ)) (to : Option ℕ) (j t : ℕ) → get_or (moves ++ to ∷ []) j None ≡ Some t → (get_or moves j None ≡ Some t) ⊎ ((j ≡ length moves) × (to ≡ Some t))
move_cases [] to zero t e = inr (refl, e)
move_cases [] to (suc j) t e = absurd (let k : None ≡ Some t = e in cc)
move_cases (m ∷ ms) to zero t e = inl e
move_cases (m ∷ ms) to (suc j) t e = elim (move_cases ms to j t e) [ inl x ↦ inl x | inr x ↦ inr (ap suc x.0, x.1) ]

pub more_moves : (net : List Spot) (words : ℕ) (of firsts : List ℕ) (old new : List (Vec ℕ)) (acceptances more : List Acceptance) (moves : List (Option ℕ)) (to : Option ℕ) (set : List ℕ) (i c : ℕ) → IsTable net words of firsts old acceptances moves → IsStates net words new more → AreKept old new → IsState new set to → i < length old → length moves / length firsts ≡ i → length moves % length firsts ≡ c → ((b : ℕ) → b < 256 → c ≡ get_or of b 0 → IsNext net (holds (row old i)) (holds set) b) → IsTable net words of firsts new more (moves ++ to ∷ [])
more_moves net words of firsts old new acceptances more moves to set i c table states kept is lt quotient remainder next = record {
  states = states;
  from = λ j t e. elim (move_cases moves to j t e) [
    | inl x ↦ (let a = table.from j t x in let b = kept.0 in omega arith)
    | inr x ↦ (let a = ap (λ z. z / length firsts) x.0 in let b = kept.0 in omega arith)
  ];
  to = λ j t e. elim (move_cases moves to j t e) [
    | inl x ↦ (let a = table.to j t x in let b = kept.0 in omega arith)
    | inr x ↦ (is t x.1).0
  ];
  moved = λ j t b e small class. elim (move_cases moves to j t e) [
    | inl x ↦ kept_next net old new (j / length firsts) t b kept (table.from j t x) (table.to j t x) (table.moved j t b x small class)
    | inr x ↦ (let place : j / length firsts ≡ i = ap (λ z. z / length firsts) x.0 ∙ quotient in
        let its : j % length firsts ≡ c = ap (λ z. z % length firsts) x.0 ∙ remainder in
        let n = next b small (sym its ∙ sym class) in
        subst (λ z. IsNext net (holds (row new z)) (holds (row new t)) b) (sym place)
        (subst (λ z. IsNext net (holds z) (holds (row new t)) b) (sym (kept.1 i lt))
        (subst (λ z. IsNext net (holds (row old i)) (holds z) b) (sym (is t x.1).1) n)))
  ];
}

pub move_added : (net : List Spot) (words : ℕ) (of firsts : List ℕ) (old new : List (Vec ℕ)) (acceptances more : List Acceptance) (moves : List (Option ℕ)) (to : Option ℕ) (set : List ℕ) (i c : ℕ) → c < length firsts → length moves ≡ i * length firsts + c → IsTable net words of firsts old acceptances moves → i < length old → ((b : ℕ) → b < 256 → c ≡ get_or of b 0 → IsNext net (holds (row old i)) (holds set) b) → IsStates net words new more → AreKept old new → IsState new set to → IsTable net words of firsts new more (moves ++ to ∷ [])
move_added net words of firsts old new acceptances more moves to set i c lt long table within step states kept is =
    more_moves net words of firsts old new acceptances more moves to set i c table states kept is within
    (ap (λ z. z / length firsts) long ∙ div-mul-add i (length firsts) c lt)
    (ap (λ z. z % length firsts) long ∙ mod-mul-add i (length firsts) c lt)
    step

-- states

acceptance_before : (acceptances : List Acceptance) (m : Acceptance) (s : ℕ) → s < length acceptances → acceptance_at (acceptances ++ m ∷ []) s ≡ acceptance_at acceptances s
acceptance_before [] m s lt = absurd (omega arith)
acceptance_before (x ∷ xs) m zero lt = refl
acceptance_before (x ∷ xs) m (suc s) lt = acceptance_before xs m s (omega arith)

acceptance_new : (acceptances : List Acceptance) (m : Acceptance) → acceptance_at (acceptances ++ m ∷ []) (length acceptances) ≡ m
acceptance_new [] m = refl
acceptance_new (x ∷ xs) m = acceptance_new xs m

pub states_none : (net : List Spot) (words : ℕ) → IsStates net words [] []
states_none net words = record {
  accepts_long = refl;
  room = λ s lt. absurd (omega arith);
  accepts = λ s lt. absurd (omega arith);
}

pub kept_all : (sets : List (Vec ℕ)) → AreKept sets sets
kept_all sets = (omega arith, λ s lt. refl)

pub kept_then : (a b c : List (Vec ℕ)) → AreKept a b → AreKept b c → AreKept a c
kept_then a b c x y = (let k = x.0 in let l = y.0 in omega arith, λ s lt. (let k = x.0 in y.1 s (omega arith)) ∙ x.1 s lt)

pub known_state : (sets : List (Vec ℕ)) (set : List ℕ) (state : ℕ) → state < length sets → row sets state ≡ set → IsState sets set (Some state)
known_state sets set state lt is s e = let same : state ≡ s = cc in (omega arith, ap (row sets) (sym same) ∙ is)

pub no_state : (sets : List (Vec ℕ)) (set : List ℕ) → IsState sets set None
no_state sets set s e = absurd (let k : None ≡ Some s = e in cc)

pub states_more : (net : List Spot) (words : ℕ) (old : List (Vec ℕ)) (acceptances : List Acceptance) (x : Vec ℕ) (m : Acceptance) → length x.items ≡ words → IsAcceptance net (holds x.items) (m.won) (m.reads_on) → IsStates net words old acceptances → IsStates net words (old ++ x ∷ []) (acceptances ++ m ∷ [])
states_more net words old acceptances x m room acceptance st =
    let one = length-append old (x ∷ []) in let two = length-append acceptances (m ∷ []) in let three = st.accepts_long in
    record {
      accepts_long = omega arith;
      room = λ s lt. elim (order s (length old)) [
        | inl less ↦ ap length (row_before old x s less) ∙ st.room s less
        | inr ge ↦ elim ge [
          | inl e ↦ ap length (ap (row (old ++ x ∷ [])) e ∙ row_new old x) ∙ room
          | inr gt ↦ absurd (omega arith)
        ]
      ];
      accepts = λ s lt. elim (order s (length old)) [
        | inl less ↦ subst (λ z. IsAcceptance net (holds z) ((acceptance_at (acceptances ++ m ∷ []) s).won) ((acceptance_at (acceptances ++ m ∷ []) s).reads_on)) (sym (row_before old x s less))
            (subst (λ (z : Acceptance). IsAcceptance net (holds (row old s)) (z.won) (z.reads_on)) (sym (acceptance_before acceptances m s (omega arith))) (st.accepts s less))
        | inr ge ↦ elim ge [
          | inl e ↦ subst (λ z. IsAcceptance net (holds z) ((acceptance_at (acceptances ++ m ∷ []) s).won) ((acceptance_at (acceptances ++ m ∷ []) s).reads_on)) (sym (ap (row (old ++ x ∷ [])) e ∙ row_new old x))
              (subst (λ (z : Acceptance). IsAcceptance net (holds x.items) (z.won) (z.reads_on)) (sym (ap (acceptance_at (acceptances ++ m ∷ [])) (e ∙ sym three) ∙ acceptance_new acceptances m)) acceptance)
          | inr gt ↦ absurd (omega arith)
        ]
      ];
    }

pub kept_more : (old : List (Vec ℕ)) (x : Vec ℕ) → AreKept old (old ++ x ∷ [])
kept_more old x = ((let one = length-append old (x ∷ []) in omega arith), λ s lt. row_before old x s lt)

-- a move of the table is a step
pub table_next : (net : List Spot) (words : ℕ) (of firsts : List ℕ) (sets : List (Vec ℕ)) (acceptances : List Acceptance) (moves : List (Option ℕ)) (s t c b : ℕ) → AreClasses net of firsts 256 → IsTable net words of firsts sets acceptances moves → b < 256 → c ≡ get_or of b 0 → get_or moves (s * length firsts + c) None ≡ Some t → (t < length sets) × IsNext net (holds (row sets s)) (holds (row sets t)) b
table_next net words of firsts sets acceptances moves s t c b classes table small is e =
    let lt : c < length firsts = (let k = classes.within b small in omega arith) in
    let n = table.moved (s * length firsts + c) t b e small (sym is ∙ sym (mod-mul-add s (length firsts) c lt)) in
    (table.to (s * length firsts + c) t e, subst (λ z. IsNext net (holds (row sets z)) (holds (row sets t)) b) (div-mul-add s (length firsts) c lt) n)

one_more : (i n : ℕ) → (i + 1) * n ≡ i * n + n
one_more zero n = omega arith
one_more (suc i) n = let k = one_more i n in omega arith

pub next_row : (i n c total : ℕ) → c ≡ n → total ≡ i * n + c → total ≡ (i + 1) * n
next_row i n c total e long = long ∙ ap (λ z. i * n + z) e ∙ sym (one_more i n)

pub table_none : (net : List Spot) (words : ℕ) (of firsts : List ℕ) (sets : List (Vec ℕ)) (acceptances : List Acceptance) (moves : List (Option ℕ)) → moves ≡ [] → IsStates net words sets acceptances → IsTable net words of firsts sets acceptances moves
table_none net words of firsts sets acceptances moves e states = record {
  states = states;
  from = λ j t h. absurd (let k : None ≡ Some t = ap (λ z. get_or z j None) (sym e) ∙ h in cc);
  to = λ j t h. absurd (let k : None ≡ Some t = ap (λ z. get_or z j None) (sym e) ∙ h in cc);
  moved = λ j t b h. absurd (let k : None ≡ Some t = ap (λ z. get_or z j None) (sym e) ∙ h in cc);
}

pub begins_empty : (net : List Spot) (words : ℕ) (sets : List (Vec ℕ)) (acceptances : List Acceptance) → sets ≡ [] → acceptances ≡ [] → IsStates net words sets acceptances
begins_empty net words sets acceptances e f = subst (λ z. IsStates net words z acceptances) (sym e) (subst (IsStates net words []) (sym f) (states_none net words))

pub zero_row : (n : ℕ) → 0 ≡ 0 * n
zero_row n = omega arith
