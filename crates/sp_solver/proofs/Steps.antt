-- The steps of the code's search.
use Rattle.std.proofs.Common.{ℕ, ◌≡◌, ◌<◌, ◌≤◌, zero, suc, ◌+◌, length-append, Bool, true, false, Option, Some, None, List, [], ◌∷◌, ◌++◌, get_or, length, inl, inr, refl, sym, ap, subst, ◌∙◌, arith}
use Rattle.std.proofs.Math.ListN.{set}
use Rattle.std.proofs.lemmas.List.{get_or-set_same, get_or-set_other, length-set}
use Rattle.std.proofs.lemmas.List.Sums.{sum_by-set}
use Rattle.sp_solver.specs.declared.attempt.Attempt.{Attempt}
use Rattle.sp_solver.specs.declared.attempt.Attempt.TheVariants.{Done, Waits}
use Rattle.sp_solver.specs.Rounds.{Within, IsFair, IsSettled}
use Rattle.sp_solver.specs.Told.{told}
use Rattle.sp_solver.specs.Rows.{marked, IsAt, fresh_one, fresh_in}
use Rattle.sp_solver.proofs.Rounds.{closed_is_settled}
use Rattle.sp_solver.proofs.Rows.{same_or, told_more, marked_more, more_within, among_last, begun_still, begins, goes_on, is_answered, is_given_up, is_new, is_closed}

-- what the loop of a visit keeps
pub record Visiting {A : Type 0} (try : (ℕ → Option A) → ℕ → Attempt A) (ready : (ℕ → Option A) → ℕ → ℕ → Type 0) (n : ℕ) (known : List (Option A)) (begun : List Bool) (cursors row : List ℕ) (here : ℕ) (before : List Bool) (root : ℕ) : Type 0 where
  pub at : IsAt try ready n known begun cursors (row ++ here ∷ [])
  pub here_is : here < n
  pub more : (i : ℕ) → marked before i ≡ true → marked begun i ≡ true
  pub root_is : marked begun root ≡ true

still_marked : (ts : List Bool) (i : ℕ) → i < length ts → (j : ℕ) → marked ts j ≡ true → marked (set ts i true) j ≡ true
still_marked ts i lt j e = begun_still (marked ts) (marked (set ts i true)) i (marked_more ts i lt) j e

pub visit_begins : {A : Type 0} (try : (ℕ → Option A) → ℕ → Attempt A) (ready : (ℕ → Option A) → ℕ → ℕ → Type 0) (n : ℕ) (known : List (Option A)) (begun : List Bool) (cursors : List ℕ) (root : ℕ) → root < n → marked begun root ≡ false → IsAt try ready n known begun cursors [] → Visiting try ready n known (set begun root true) cursors [] root begun root
visit_begins try ready n known begun cursors root lt fresh at =
    let in_begun : root < length begun = omega (arith, lt, at.all_begun) in
    record {
      at = record {
        going = begins try n (told known) (marked begun) (marked (set begun root true)) root at.going (marked_more begun root in_begun) fresh (at.going.fresh root fresh) lt;
        all_known = at.all_known;
        all_begun = length-set begun root true ∙ at.all_begun;
        all_cursors = at.all_cursors;
        ready_at = at.ready_at;
      };
      here_is = lt;
      more = still_marked begun root in_begun;
      root_is = (marked_more begun root in_begun).here;
    }

ready_marked : {A : Type 0} (ready : (ℕ → Option A) → ℕ → ℕ → Type 0) (f : ℕ → Option A) (cursors : List ℕ) (here cursor : ℕ) → here < length cursors → ready f here cursor → ((i : ℕ) → ready f i (get_or cursors i 0)) → (i : ℕ) → ready f i (get_or (set cursors here cursor) i 0)
ready_marked ready f cursors here cursor lt r all i = elim (same_or i here) [
  | inl s ↦ subst (λ v. ready f v (get_or (set cursors here cursor) v 0)) (sym s) (subst (ready f here) (sym (get_or-set_same cursors here cursor 0 lt)) r)
  | inr ne ↦ subst (ready f i) (sym (get_or-set_other cursors here i cursor 0 ne)) (all i)
]

-- the cursor of what is at hand
pub is_marked : {A : Type 0} (try : (ℕ → Option A) → ℕ → Attempt A) (ready : (ℕ → Option A) → ℕ → ℕ → Type 0) (n : ℕ) (known : List (Option A)) (begun : List Bool) (cursors row : List ℕ) (here cursor : ℕ) → here < n → IsAt try ready n known begun cursors row → ready (told known) here cursor → IsAt try ready n known begun (set cursors here cursor) row
is_marked try ready n known begun cursors row here cursor lt at r =
    let in_cursors : here < length cursors = omega (arith, lt, at.all_cursors) in
    record {
      going = at.going;
      all_known = at.all_known;
      all_begun = at.all_begun;
      all_cursors = length-set cursors here cursor ∙ at.all_cursors;
      ready_at = ready_marked ready (told known) cursors here cursor in_cursors r at.ready_at;
    }

-- what is at hand waits for one that was not begun
pub waits_deeper : {A : Type 0} (try : (ℕ → Option A) → ℕ → Attempt A) (ready : (ℕ → Option A) → ℕ → ℕ → Type 0) → IsFair try → (n : ℕ) (known : List (Option A)) (begun : List Bool) (cursors row : List ℕ) (here next : ℕ) (before : List Bool) (root : ℕ) → Visiting try ready n known begun cursors row here before root → try (told known) here ≡ Waits next → next < n → marked begun next ≡ false → Visiting try ready n known (set begun next true) cursors (row ++ here ∷ []) next before root
waits_deeper try ready fair n known begun cursors row here next before root v w lt fresh =
    let in_begun : next < length begun = omega (arith, lt, v.at.all_begun) in
    record {
      at = record {
        going = goes_on try fair n (told known) (marked begun) (marked (set begun next true)) row here next v.at.going w (marked_more begun next in_begun) fresh lt;
        all_known = v.at.all_known;
        all_begun = length-set begun next true ∙ v.at.all_begun;
        all_cursors = v.at.all_cursors;
        ready_at = v.at.ready_at;
      };
      here_is = lt;
      more = λ i e. still_marked begun next in_begun i (v.more i e);
      root_is = still_marked begun next in_begun root v.root_is;
    }

-- what is at hand is answered
pub at_answered : {A : Type 0} (try : (ℕ → Option A) → ℕ → Attempt A) (ready : (ℕ → Option A) → ℕ → ℕ → Type 0) → IsFair try → ((f g : ℕ → Option A) (i m : ℕ) → Within f g → ready f i m → ready g i m) → (n : ℕ) (known : List (Option A)) (begun : List Bool) (cursors row : List ℕ) (here : ℕ) (a : A) → here < n → IsAt try ready n known begun cursors (row ++ here ∷ []) → try (told known) here ≡ Done a → IsAt try ready n (set known here (Some a)) begun cursors row
at_answered try ready fair later n known begun cursors row here a lt at d =
    let in_known : here < length known = omega (arith, lt, at.all_known) in
    let more = told_more known here a in_known in
    let none = (at.going.within here (among_last row here)).1 in
    record {
      going = is_answered try fair n (told known) (told (set known here (Some a))) (marked begun) row here a at.going d more;
      all_known = length-set known here (Some a) ∙ at.all_known;
      all_begun = at.all_begun;
      all_cursors = at.all_cursors;
      ready_at = λ i. later (told known) (told (set known here (Some a))) i (get_or cursors i 0) (more_within (told known) (told (set known here (Some a))) here a none more) (at.ready_at i);
    }

-- and the one before it is at hand
pub goes_back : {A : Type 0} (try : (ℕ → Option A) → ℕ → Attempt A) (ready : (ℕ → Option A) → ℕ → ℕ → Type 0) (n : ℕ) (known : List (Option A)) (begun : List Bool) (cursors row left : List ℕ) (next : ℕ) (before : List Bool) (root : ℕ) → IsAt try ready n known begun cursors row → row ≡ left ++ next ∷ [] → ((i : ℕ) → marked before i ≡ true → marked begun i ≡ true) → marked begun root ≡ true → Visiting try ready n known begun cursors left next before root
goes_back try ready n known begun cursors row left next before root at e more r =
    let there : IsAt try ready n known begun cursors (left ++ next ∷ []) = subst (IsAt try ready n known begun cursors) e at in
    record { at = there; here_is = (there.going.within next (among_last left next)).2; more = more; root_is = r }

pub at_given_up : {A : Type 0} (try : (ℕ → Option A) → ℕ → Attempt A) (ready : (ℕ → Option A) → ℕ → ℕ → Type 0) (n : ℕ) (known : List (Option A)) (begun : List Bool) (cursors row : List ℕ) (here next : ℕ) → IsAt try ready n known begun cursors (row ++ here ∷ []) → try (told known) here ≡ Waits next → marked begun next ≡ true → IsAt try ready n known begun cursors []
at_given_up try ready n known begun cursors row here next at w b = record {
  going = is_given_up try n (told known) (marked begun) row here next at.going w b;
  all_known = at.all_known;
  all_begun = at.all_begun;
  all_cursors = at.all_cursors;
  ready_at = at.ready_at;
}

-- one fewer is not begun
pub fewer_fresh : (begun : List Bool) (i : ℕ) → i < length begun → marked begun i ≡ false → fresh_in (set begun i true) + 1 ≡ fresh_in begun
fewer_fresh begun i lt e =
    let s = sum_by-set fresh_one begun i true false lt in
    let one : fresh_one (get_or begun i false) ≡ 1 = ap fresh_one e in
    omega (arith, s, one)

pub visiting_marked : {A : Type 0} (try : (ℕ → Option A) → ℕ → Attempt A) (ready : (ℕ → Option A) → ℕ → ℕ → Type 0) (n : ℕ) (known : List (Option A)) (begun : List Bool) (cursors row : List ℕ) (here cursor : ℕ) (before : List Bool) (root : ℕ) → Visiting try ready n known begun cursors row here before root → ready (told known) here cursor → Visiting try ready n known begun (set cursors here cursor) row here before root
visiting_marked try ready n known begun cursors row here cursor before root v r = record {
  at = is_marked try ready n known begun cursors (row ++ here ∷ []) here cursor v.here_is v.at r;
  here_is = v.here_is;
  more = v.more;
  root_is = v.root_is;
}

-- all is visited
pub all_settled : {A : Type 0} (try : (ℕ → Option A) → ℕ → Attempt A) (ready : (ℕ → Option A) → ℕ → ℕ → Type 0) → IsFair try → (n : ℕ) (known : List (Option A)) (begun : List Bool) (cursors : List ℕ) → IsAt try ready n known begun cursors [] → ((i : ℕ) → i < n → marked begun i ≡ true) → ((f : ℕ → Option A) (i : ℕ) → n ≤ i → f i ≡ None → (j : ℕ) × (try f i ≡ Waits j)) → IsSettled try (told known)
all_settled try ready fair n known begun cursors at all out =
    closed_is_settled try fair (told known) (is_closed try n (told known) (marked begun) at.going all (out (told known))) at.going.sound.0 at.going.sound.1

-- the lists at first
pub record IsFirst {A : Type 0} (n : ℕ) (known : List (Option A)) (begun : List Bool) (cursors : List ℕ) : Type 0 where
  pub all_known : length known ≡ n
  pub all_begun : length begun ≡ n
  pub all_cursors : length cursors ≡ n
  pub none : (i : ℕ) → told known i ≡ None
  pub fresh : (i : ℕ) → marked begun i ≡ false
  pub zeros : (i : ℕ) → get_or cursors i 0 ≡ 0

default_more : {X : Type 0} (xs : List X) (d : X) → ((i : ℕ) → get_or xs i d ≡ d) → (i : ℕ) → get_or (xs ++ d ∷ []) i d ≡ d
default_more [] d h zero = refl
default_more [] d h (suc i) = refl
default_more (x ∷ xs) d h zero = h zero
default_more (x ∷ xs) d h (suc i) = default_more xs d (λ j. h (suc j)) i

pub first_more : {A : Type 0} (n : ℕ) (known known' : List (Option A)) (begun begun' : List Bool) (cursors cursors' : List ℕ) → IsFirst n known begun cursors → known' ≡ known ++ None ∷ [] → begun' ≡ begun ++ false ∷ [] → cursors' ≡ cursors ++ 0 ∷ [] → IsFirst (n + 1) known' begun' cursors'
first_more n known known' begun begun' cursors cursors' f k b m = record {
  all_known = ap length k ∙ length-append known (None ∷ []) ∙ ap (λ l. l + 1) f.all_known;
  all_begun = ap length b ∙ length-append begun (false ∷ []) ∙ ap (λ l. l + 1) f.all_begun;
  all_cursors = ap length m ∙ length-append cursors (0 ∷ []) ∙ ap (λ l. l + 1) f.all_cursors;
  none = λ i. ap (λ l. told l i) k ∙ default_more known None f.none i;
  fresh = λ i. ap (λ l. marked l i) b ∙ default_more begun false f.fresh i;
  zeros = λ i. ap (λ l. get_or l i 0) m ∙ default_more cursors 0 f.zeros i;
}

pub first_at : {A : Type 0} (try : (ℕ → Option A) → ℕ → Attempt A) (ready : (ℕ → Option A) → ℕ → ℕ → Type 0) → ((f : ℕ → Option A) (i : ℕ) → ready f i 0) → (n : ℕ) (known : List (Option A)) (begun : List Bool) (cursors : List ℕ) → IsFirst n known begun cursors → IsAt try ready n known begun cursors []
first_at try ready at_first n known begun cursors f = record {
  going = is_new try n (told known) (marked begun) f.none f.fresh;
  all_known = f.all_known;
  all_begun = f.all_begun;
  all_cursors = f.all_cursors;
  ready_at = λ i. subst (ready (told known) i) (sym (f.zeros i)) (at_first (told known) i);
}

-- what the loop over all keeps
pub record Visited {A : Type 0} (try : (ℕ → Option A) → ℕ → Attempt A) (ready : (ℕ → Option A) → ℕ → ℕ → Type 0) (n i : ℕ) (known : List (Option A)) (begun : List Bool) (cursors : List ℕ) : Type 0 where
  pub at : IsAt try ready n known begun cursors []
  pub all : (j : ℕ) → j < i → marked begun j ≡ true

pub visited_more : {A : Type 0} (try : (ℕ → Option A) → ℕ → Attempt A) (ready : (ℕ → Option A) → ℕ → ℕ → Type 0) (n i : ℕ) (known known' : List (Option A)) (begun begun' : List Bool) (cursors cursors' : List ℕ) → Visited try ready n i known begun cursors → IsAt try ready n known' begun' cursors' [] → ((j : ℕ) → marked begun j ≡ true → marked begun' j ≡ true) → marked begun' i ≡ true → Visited try ready n (i + 1) known' begun' cursors'
visited_more try ready n i known known' begun begun' cursors cursors' v at more here = record {
  at = at;
  all = λ j lt. elim (same_or j i) [
    | inl s ↦ ap (marked begun') s ∙ here
    | inr ne ↦ (let less : j < i = omega (arith, lt, ne) in more j (v.all j less))
  ];
}

get_or_any : {X : Type 0} (xs : List X) (i : ℕ) (d e : X) → i < length xs → get_or xs i d ≡ get_or xs i e
get_or_any [] i d e lt = absurd (let z : ⊥ = omega (arith, lt) in z)
get_or_any (x ∷ xs) zero d e lt = refl
get_or_any (x ∷ xs) (suc i) d e lt = get_or_any xs i d e (omega (arith, lt))

pub marked_is : (begun : List Bool) (n i : ℕ) (b t : Bool) → i < n → length begun ≡ n → b ≡ get_or begun i b → b ≡ t → marked begun i ≡ t
marked_is begun n i b t lt all e is =
    let k : i < length begun = omega (arith, lt, all) in
    get_or_any begun i false b k ∙ sym e ∙ is

pub no_items : {X : Type 0} (xs : List X) → length xs ≡ 0 → xs ≡ []
no_items [] e = refl
no_items (x ∷ xs) e = absurd (let z : ⊥ = omega (arith, e) in z)
