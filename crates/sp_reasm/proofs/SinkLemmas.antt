-- What the parts of a call come to, in the words of the definitions.
use Rattle.std.proofs.Common.{◌≡◌, ℕ, zero, suc, ◌+◌, ◌-◌, ◌<◌, ◌≤◌, ◌^◌, ◌&&◌, max, not, nat_le, nat_lt, cond, Bool, true, false, List, [], ◌∷◌, ◌++◌, length, map, take, drop, Option, Some, None, IsSome, Result, Ok, Err, OnOk, ◌⊎◌, refl, sym, ap, subst, ◌∙◌, inl, inr, arith, append-nil, length-drop}
use Rattle.std.proofs.lemmas.Bool.{leb-true, leb-false, lt-leb, le-leb}
use Rattle.std.proofs.lemmas.List.{take-append-drop, length-take-le}
use Rattle.std.proofs.Math.Dec.{eqb-suc-zero}
use Rattle.sp_base.specs.declared.kinds.PKind.TheVariants.{Overflow, LateInitial, SinkClosed}
use Rattle.sp_reasm.specs.declared.notes.Note.{Note}
use Rattle.sp_reasm.specs.declared.notes.Note.TheVariants.{Skipped, Closed}
use Rattle.sp_reasm.specs.declared.notes.ReasmFault.{ReasmFault}
use Rattle.sp_reasm.specs.declared.notes.ReasmFault.TheVariants.{Run, NoMemory}
use Rattle.sp_reasm.specs.declared.sink.Reasm.{Reasm}
use Rattle.sp_reasm.specs.Owners.{Owner, Lost, Op, Write, Gap, Skip, byte_at, covering, end_of, Stand, or_else, start_of, first_without, after, nothing, after_all, stand_of}
use Rattle.sp_reasm.specs.Notes.{owners_from, runs, datum, both, overlapped, overlap_note, overlaps, undelivered_note, undelivered, told, delivered, told_before, notes_of}
use Rattle.sp_reasm.specs.Sink.{Sink, is_new, number_of, is_in_range, operated, write, close, set_initial, Refused, Tells, outcome}
use Rattle.sp_reasm.specs.State.{StandsFor, IsAnswer, Answers, IsSetting, IsSet}
use Rattle.sp_reasm.specs.declared.piece.Piece.{Piece}
use Rattle.sp_reasm.specs.declared.piece.Spot.{Spot}
use Rattle.sp_reasm.specs.Pieces.{owner_of, laid, overlaid}
use Rattle.sp_reasm.specs.inside.Filling.{IsFilled}
use Rattle.sp_reasm.specs.inside.Overlays.{AreOwned, AreDelivered, data_in, overlaps_in}
use Rattle.sp_reasm.specs.inside.Settling.{checked, number_or, reached, pending, joint, Settles, past_head, IsWritten, IsLost, IsGivenUp, given_up, closing}
use Rattle.sp_reasm.proofs.StandLemmas.{all-append, IsBounded, bounded_after, start_is_past}
use Rattle.sp_reasm.proofs.PieceLemmas.{le_true, byte-drop, covering_write, or_none}
use Rattle.sp_reasm.proofs.PlaceLemmas.{below_or}
use Rattle.sp_reasm.proofs.TellLemmas.{met, overlapped_met}
use Rattle.sp_reasm.proofs.FillLemmas.{filled_above}

owners-shift : (f g : ℕ → Option Owner) (c q n : ℕ) → ((r : ℕ) → q ≤ r → r < q + n → f r ≡ g (c + r)) → owners_from f q n ≡ owners_from g (c + q) n
owners-shift f g c q zero same = refl
owners-shift f g c q (suc n) same =
    ap (λ o. o ∷ owners_from f (suc q) n) (same q (omega arith) (omega arith))
    ∙ ap (λ l. g (c + q) ∷ l) (owners-shift f g c (suc q) n (λ r low high. same r (omega (arith, low)) (omega (arith, high)))
    ∙ ap (λ k. owners_from g k n) (let e : c + suc q ≡ suc (c + q) = omega arith in e))

-- the first position without an owner is the one up to which all have one
first_is : (f : ℕ → Option Owner) (q n k : ℕ) → q ≤ k → k ≤ q + n → AreOwned f q k → f k ≡ None → first_without f q n ≡ k
first_is f q zero k low high owned free = omega (arith, low, high)
first_is f q (suc n) k low high owned free =
    by_owner (f q) refl (λ past. first_is f (suc q) n k past (omega (arith, high)) (λ r from to. owned r (omega (arith, from)) to) free)
  where
    by_owner : (o : Option Owner) → f q ≡ o → (suc q ≤ k → first_without f (suc q) n ≡ k) → elim o as (λ _. ℕ) [ None ↦ q | Some _ ↦ first_without f (suc q) n ] ≡ k
    by_owner None e rest = elim (below_or q k) [
      | inl less ↦ absurd (let q : IsSome {T = Owner} None = subst (λ o. IsSome o) e (owned q (omega arith) less) in cc)
      | inr more ↦ omega (arith, low, more)
    ]
    by_owner (Some o) e rest = elim (below_or q k) [
      | inl less ↦ rest (omega (arith, less))
      | inr more ↦
          let same : k ≡ q = omega (arith, low, more) in
          absurd (let q : IsSome {T = Owner} None = subst (λ o. IsSome o) (sym e ∙ ap f (sym same) ∙ free) refl in cc)
    ]

all_bounded : (stand : Stand) (ops : List Op) → IsBounded stand → IsBounded (after_all stand ops)
all_bounded stand [] bounded = bounded
all_bounded stand (op ∷ ops) bounded = all_bounded (after stand op) ops (bounded_after stand op bounded)

not_new : (ops : List Op) (op : Op) → is_new (ops ++ op ∷ []) ≡ false
not_new [] op = refl
not_new (o ∷ ops) op = refl

le_shift : (c a b : ℕ) → nat_le (c + a) (c + b) ≡ nat_le a b
le_shift c a b = by_test (nat_le a b) refl
  where
    by_test : (t : Bool) → nat_le a b ≡ t → nat_le (c + a) (c + b) ≡ t
    by_test true e = let h : a ≤ b = leb-true a b e in le-leb (c + a) (c + b) (omega (arith, h))
    by_test false e = let h : b < a = leb-false a b e in lt-leb (c + a) (c + b) (omega (arith, h))

-- what is settled is what the operation comes to
pub settled : (old new : Reasm) (sink : Sink) (op : Op) (cover : ℕ → Option Owner) (top from : ℕ) (first before now : List Note) → StandsFor old sink → Settles old new cover top from first before now
    → ((q : ℕ) → (stand_of sink.ops).head ≤ q → cover (sink.initial + q) ≡ covering op q)
    → from ≡ sink.initial + start_of (stand_of sink.ops) op
    → top ≡ sink.initial + max (max (stand_of sink.ops).head (stand_of sink.ops).end) (end_of op)
    → first ≡ told_before sink.initial (stand_of sink.ops) op
    → (now ≡ before ++ notes_of sink.initial (stand_of sink.ops) op) × StandsFor new (record sink { ops = sink.ops ++ op ∷ [] })
settled old new sink op cover top from first before now stands done covers from_is top_is first_is_told =
    let base = sink.initial in
    let stand = stand_of sink.ops in
    let next = after (stand_of sink.ops) op in
    let start = start_of (stand_of sink.ops) op in
    let past : (stand_of sink.ops).head ≤ start_of (stand_of sink.ops) op = start_is_past (stand_of sink.ops) op in
    let grows = done.grows in
    let own : (q : ℕ) → (stand_of sink.ops).head ≤ q → joint old cover (sink.initial + q) ≡ (after (stand_of sink.ops) op).owner q =
    λ q h. ap (λ o. or_else o (cover (sink.initial + q))) (stands.owned q h)
    ∙ ap (λ o. or_else ((stand_of sink.ops).owner q) o) (covers q h ∙ sym (ap (λ b. cond b (covering op q) None) (le_true (stand_of sink.ops).head q h))) in
    let place : sink.initial + (new.head - sink.initial) ≡ new.head = omega (arith, grows, from_is) in
    let owned : AreOwned (after (stand_of sink.ops) op).owner (start_of (stand_of sink.ops) op) (new.head - sink.initial) =
    λ q low high. subst (λ o. IsSome o) (own q (omega (arith, past, low))) (done.owned (sink.initial + q) (omega (arith, low, from_is)) (omega (arith, high, place))) in
    let free : (after (stand_of sink.ops) op).owner (new.head - sink.initial) ≡ None =
    sym (own (new.head - sink.initial) (omega (arith, grows, from_is, past))) ∙ ap (joint old cover) place ∙ done.free in
    let bounded : IsBounded (after (stand_of sink.ops) op) = bounded_after (stand_of sink.ops) op (all_bounded nothing sink.ops (λ q h. refl)) in
    let short : new.head - sink.initial ≤ start_of (stand_of sink.ops) op + (after (stand_of sink.ops) op).end = reach (start_of (stand_of sink.ops) op) (new.head - sink.initial) owned bounded in
    let head : (after (stand_of sink.ops) op).head ≡ new.head - sink.initial =
    first_is (after (stand_of sink.ops) op).owner (start_of (stand_of sink.ops) op) (after (stand_of sink.ops) op).end (new.head - sink.initial) (omega (arith, grows, from_is)) short owned free in
    let same : stand_of (sink.ops ++ op ∷ []) ≡ after (stand_of sink.ops) op = all-append nothing sink.ops (op ∷ []) in
    let size : new.head - from ≡ (after (stand_of sink.ops) op).head - start_of (stand_of sink.ops) op = omega (arith, head, from_is, grows) in
    let tells : told from (owners_from (joint old cover) from (new.head - from)) ≡ delivered sink.initial (stand_of sink.ops) op =
    ap (λ n. told from (owners_from (joint old cover) from n)) size
    ∙ ap (λ k. told k (owners_from (joint old cover) k ((after (stand_of sink.ops) op).head - start_of (stand_of sink.ops) op))) from_is
    ∙ ap (λ l. told (sink.initial + start_of (stand_of sink.ops) op) l) (sym (owners-shift (after (stand_of sink.ops) op).owner (joint old cover) sink.initial (start_of (stand_of sink.ops) op) ((after (stand_of sink.ops) op).head - start_of (stand_of sink.ops) op) (λ r low high. sym (own r (omega (arith, past, low)))))) in
    let old_top = stands.top in
    let new_top = done.top_is in (
      done.notes ∙ ap (λ l. before ++ (l ++ told from (owners_from (joint old cover) from (new.head - from)))) first_is_told ∙ ap (λ l. before ++ (told_before sink.initial (stand_of sink.ops) op ++ l)) tells,
      record {
        initial = done.initial ∙ stands.initial;
        closed = done.closed ∙ stands.closed;
        begun = not_new sink.ops op ∙ sym (ap not done.begun);
        head = sym place ∙ ap (λ n. sink.initial + n) (sym head ∙ sym (ap (λ st. st.head) same));
        top = new_top ∙ (let e : max top new.head ≡ sink.initial + max (after (stand_of sink.ops) op).head (after (stand_of sink.ops) op).end = omega (arith, top_is, head, place, grows, from_is, past) in e)
            ∙ ap (λ st. sink.initial + max st.head st.end) (sym same);
        owned = λ q h.
            let low : (after (stand_of sink.ops) op).head ≤ q = subst (λ st. st.head ≤ q) same h in
            done.above (sink.initial + q) (omega (arith, low, head, place)) ∙ own q (omega (arith, low, head, grows, from_is, past)) ∙ ap (λ st. st.owner q) (sym same);
        below = done.below;
      },
    )
  where
    reach : (start k : ℕ) → AreOwned (after (stand_of sink.ops) op).owner start k → IsBounded (after (stand_of sink.ops) op) → k ≤ start + (after (stand_of sink.ops) op).end
    reach start zero owned bounded = omega arith
    reach start (suc k) owned bounded = elim (below_or start (suc k)) [
      | inr more ↦ omega (arith, more)
      | inl less ↦ elim (below_or k (after (stand_of sink.ops) op).end) [
        | inl short ↦ omega (arith, short)
        | inr long ↦ absurd (let q : IsSome {T = Owner} None = subst (λ o. IsSome o) (bounded k long) (owned k (omega (arith, less)) (omega arith)) in cc)
      ]
    ]

covering_shift : (c at q : ℕ) (bytes : List ℕ) → covering (Write (c + at) bytes) (c + q) ≡ covering (Write at bytes) q
covering_shift c at q bytes =
    ap (λ b. cond b (byte_at bytes (c + q - (c + at))) None) (le_shift c at q)
    ∙ ap (λ k. cond (nat_le at q) (byte_at bytes k) None) (let e : c + q - (c + at) ≡ q - at = omega arith in e)

gap_shift : (c at len q : ℕ) → covering (Gap (c + at) len) (c + q) ≡ covering (Gap at len) q
gap_shift c at len q =
    ap (λ b. cond (b && nat_lt (c + q) (c + at + len)) (Some Lost) None) (le_shift c at q)
    ∙ ap (λ b. cond (nat_le at q && b) (Some Lost) None) (ap (λ k. nat_le k (c + at + len)) (let e : suc (c + q) ≡ c + suc q = omega arith in e) ∙ ap (λ k. nat_le (c + suc q) k) (let e : c + at + len ≡ c + (at + len) = omega arith in e) ∙ le_shift c (suc q) (at + len))

-- bytes without the first have the same for what is behind those
cover_rest : (n past r : ℕ) (bytes : List ℕ) → (past ≡ 0) ⊎ (n + past ≤ r) → covering (Write (n + past) (drop past bytes)) r ≡ covering (Write n bytes) r
cover_rest n past r bytes (inl none) =
    ap (λ p. covering (Write (n + p) (drop p bytes)) r) none ∙ ap (λ k. covering (Write k bytes) r) (let e : n + 0 ≡ n = omega arith in e)
cover_rest n past r bytes (inr low) =
    let i = r - (n + past) in
    let here : n + past + (r - (n + past)) ≡ r = omega (arith, low) in
    let there : n + (past + (r - (n + past))) ≡ r = omega (arith, low) in
    ap (λ k. covering (Write (n + past) (drop past bytes)) k) (sym here)
    ∙ covering_write (n + past) (r - (n + past)) (drop past bytes)
    ∙ byte-drop past (r - (n + past)) bytes
    ∙ sym (covering_write n (past + (r - (n + past))) bytes)
    ∙ ap (λ k. covering (Write n bytes) k) there

gap_rest : (n past len r : ℕ) → past ≤ len → (past ≡ 0) ⊎ (n + past ≤ r) → covering (Gap (n + past) (len - past)) r ≡ covering (Gap n len) r
gap_rest n past len r within (inl none) =
    ap (λ p. covering (Gap (n + p) (len - p)) r) none ∙ ap (λ k. covering (Gap k (len - 0)) r) (let e : n + 0 ≡ n = omega arith in e) ∙ ap (λ k. covering (Gap n k) r) (let e : len - 0 ≡ len = omega arith in e)
gap_rest n past len r within (inr low) =
    ap (λ b. cond (b && nat_lt r (n + past + (len - past))) (Some Lost) None) (le_true (n + past) r low ∙ sym (le_true n r (omega (arith, low))))
    ∙ ap (λ k. cond (nat_le n r && nat_lt r k) (Some Lost) None) (let e : n + past + (len - past) ≡ n + len = omega (arith, within) in e)

reached_write : (top n : ℕ) (at : ℕ) (bytes : List ℕ) (c : ℕ) (m : ℕ) → top ≡ c + m → n ≡ c + at → reached top (length bytes) (n + length bytes) ≡ c + max m (end_of (Write at bytes))
reached_write top n at [] c m top_is n_is = let e : top ≡ c + max m 0 = omega (arith, top_is) in e
reached_write top n at (b ∷ bytes) c m top_is n_is =
    ap (λ t. cond t top (max top (n + length (b ∷ bytes)))) (eqb-suc-zero (length bytes))
    ∙ (let e : max top (n + length (b ∷ bytes)) ≡ c + max m (at + length (b ∷ bytes)) = omega (arith, top_is, n_is) in e)

reached_gap : (top n at len c m : ℕ) → top ≡ c + m → n ≡ c + at → reached top len (n + len) ≡ c + max m (end_of (Gap at len))
reached_gap top n at zero c m top_is n_is = let e : top ≡ c + max m 0 = omega (arith, top_is) in e
reached_gap top n at (suc len) c m top_is n_is =
    ap (λ t. cond t top (max top (n + suc len))) (eqb-suc-zero len)
    ∙ (let e : max top (n + suc len) ≡ c + max m (at + suc len) = omega (arith, top_is, n_is) in e)
    ∙ ap (λ k. c + max m k) (sym (ap (λ t. cond t 0 (at + suc len)) (eqb-suc-zero len)))

overlapped-split : (stand : Stand) (q : ℕ) (xs ys : List ℕ) → overlapped stand q (xs ++ ys) ≡ overlapped stand q xs ++ overlapped stand (q + length xs) ys
overlapped-split stand q [] ys = ap (λ k. overlapped stand k ys) (let z : length {A = ℕ} [] ≡ 0 = refl in let e : q ≡ q + length {A = ℕ} [] = omega (arith, z) in e)
overlapped-split stand q (x ∷ xs) ys =
    let long : length (x ∷ xs) ≡ suc (length xs) = refl in
    ap (λ l. (cond (nat_le stand.head q) (both (datum (stand.owner q)) x) None) ∷ l) (overlapped-split stand (suc q) xs ys ∙ ap (λ k. overlapped stand (suc q) xs ++ overlapped stand k ys) (let e : suc q + length xs ≡ q + length (x ∷ xs) = omega (arith, long) in e))

-- below the head nothing is overlapped
none_below : (stand : Stand) (at q : ℕ) (xs : List ℕ) (rest : List (Option (ℕ × ℕ))) → ((r : ℕ) → q ≤ r → r < q + length xs → r < stand.head) → runs at (overlapped stand q xs ++ rest) ≡ runs (at + length xs) rest
none_below stand at q [] rest below = ap (λ k. runs k rest) (let z : length {A = ℕ} [] ≡ 0 = refl in let e : at ≡ at + length {A = ℕ} [] = omega (arith, z) in e)
none_below stand at q (x ∷ xs) rest below =
    let long : length (x ∷ xs) ≡ suc (length xs) = refl in
    ap (λ b. runs at ((cond b (both (datum (stand.owner q)) x) None) ∷ overlapped stand (suc q) xs ++ rest)) (lt-leb stand.head q (below q (omega arith) (omega (arith, long))))
    ∙ none_below stand (suc at) (suc q) xs rest (λ r low high. below r (omega (arith, low)) (omega (arith, high, long)))
    ∙ ap (λ k. runs k rest) (let e : suc at + length xs ≡ at + length (x ∷ xs) = omega (arith, long) in e)

-- from the head on it is what is pending that is overlapped
met_shift : (old : Reasm) (sink : Sink) (q : ℕ) (ys : List ℕ) → StandsFor old sink → (length ys ≡ 0) ⊎ ((stand_of sink.ops).head ≤ q) → overlapped (stand_of sink.ops) q ys ≡ met (pending old) (sink.initial + q) ys
met_shift old sink q [] stands h = refl
met_shift old sink q (y ∷ ys) stands (inl empty) = absurd (let e : length (y ∷ ys) ≡ suc (length ys) = refl in omega (arith, empty, e))
met_shift old sink q (y ∷ ys) stands (inr h) =
    ap (λ b. (cond b (both (datum ((stand_of sink.ops).owner q)) y) None) ∷ overlapped (stand_of sink.ops) (suc q) ys) (le_true (stand_of sink.ops).head q h)
    ∙ ap (λ o. both (datum o) y ∷ overlapped (stand_of sink.ops) (suc q) ys) (sym (stands.owned q h) ∙ sym (or_none (owner_of old.pieces (sink.initial + q))))
    ∙ ap (λ l. both (datum (pending old (sink.initial + q))) y ∷ l) (met_shift old sink (suc q) ys stands (inr (omega (arith, h))) ∙ ap (λ k. met (pending old) k ys) (let e : sink.initial + suc q ≡ suc (sink.initial + q) = omega arith in e))

overlaps_told : (old : Reasm) (sink : Sink) (seq : ℕ) (bytes : List ℕ) → StandsFor old sink → sink.initial ≤ seq → overlaps_in (pending old) (seq + past_head old seq (length bytes)) (drop (past_head old seq (length bytes)) bytes) ≡ overlaps sink.initial (stand_of sink.ops) (seq - sink.initial) bytes
overlaps_told old sink seq bytes stands low =
    let head = stands.head in
    let past = past_head old seq (length bytes) in
    let at = seq - sink.initial in
    let long : length (take (past_head old seq (length bytes)) bytes) ≡ past_head old seq (length bytes) = length-take-le (past_head old seq (length bytes)) bytes (omega arith) in
    let rest_long : length (drop (past_head old seq (length bytes)) bytes) ≡ length bytes - past_head old seq (length bytes) = length-drop (past_head old seq (length bytes)) bytes in
    let whole : take (past_head old seq (length bytes)) bytes ++ drop (past_head old seq (length bytes)) bytes ≡ bytes = take-append-drop (past_head old seq (length bytes)) bytes in
    ap (λ l. map overlap_note l) (
    ap (λ l. runs (seq + past_head old seq (length bytes)) l) (overlapped_met (pending old) (seq + past_head old seq (length bytes)) 0 (seq + past_head old seq (length bytes)) (drop (past_head old seq (length bytes)) bytes) (omega arith)
    ∙ ap (λ k. met (pending old) k (drop (past_head old seq (length bytes)) bytes)) (let e : seq + past_head old seq (length bytes) ≡ sink.initial + (seq - sink.initial + past_head old seq (length bytes)) = omega (arith, low) in e)
    ∙ sym (met_shift old sink (seq - sink.initial + past_head old seq (length bytes)) (drop (past_head old seq (length bytes)) bytes) stands (reached_head head rest_long)))
    ∙ ap (λ n. runs n (overlapped (stand_of sink.ops) (seq - sink.initial + past_head old seq (length bytes)) (drop (past_head old seq (length bytes)) bytes))) (let e : seq + past_head old seq (length bytes) ≡ sink.initial + (seq - sink.initial) + length (take (past_head old seq (length bytes)) bytes) = omega (arith, low, long) in e)
    ∙ ap (λ n. runs (sink.initial + (seq - sink.initial) + length (take (past_head old seq (length bytes)) bytes)) (overlapped (stand_of sink.ops) (seq - sink.initial + n) (drop (past_head old seq (length bytes)) bytes))) (sym long)
    ∙ sym (none_below (stand_of sink.ops) (sink.initial + (seq - sink.initial)) (seq - sink.initial) (take (past_head old seq (length bytes)) bytes) (overlapped (stand_of sink.ops) (seq - sink.initial + length (take (past_head old seq (length bytes)) bytes)) (drop (past_head old seq (length bytes)) bytes)) (λ r from to. omega (arith, from, to, long, head, low)))
    ∙ ap (λ l. runs (sink.initial + (seq - sink.initial)) l) (sym (overlapped-split (stand_of sink.ops) (seq - sink.initial) (take (past_head old seq (length bytes)) bytes) (drop (past_head old seq (length bytes)) bytes)) ∙ ap (λ l. overlapped (stand_of sink.ops) (seq - sink.initial) l) whole)
    )
  where
    reached_head : old.head ≡ sink.initial + (stand_of sink.ops).head → length (drop (past_head old seq (length bytes)) bytes) ≡ length bytes - past_head old seq (length bytes) → (length (drop (past_head old seq (length bytes)) bytes) ≡ 0) ⊎ ((stand_of sink.ops).head ≤ seq - sink.initial + past_head old seq (length bytes))
    reached_head head long = elim (below_or (old.head - seq) (length bytes)) [
      | inl short ↦ inr (omega (arith, short, head, low))
      | inr all ↦ inl (omega (arith, all, long))
    ]

-- the data that are pending up to a number
pending_shift : (old : Reasm) (sink : Sink) (n : ℕ) → StandsFor old sink → map datum (owners_from (pending old) old.head n) ≡ map datum (owners_from (stand_of sink.ops).owner (stand_of sink.ops).head n)
pending_shift old sink n stands =
    ap (λ k. map datum (owners_from (pending old) k n)) stands.head
    ∙ ap (λ l. map datum l) (sym (owners-shift (stand_of sink.ops).owner (pending old) sink.initial (stand_of sink.ops).head n (λ r low high. sym (or_none (owner_of old.pieces (sink.initial + r)) ∙ stands.owned r low))))

given_up_told : (old : Reasm) (sink : Sink) (seq : ℕ) → StandsFor old sink → sink.initial ≤ seq → given_up old seq ≡ told_before sink.initial (stand_of sink.ops) (Skip (seq - sink.initial))
given_up_told old sink seq stands low =
    let head = stands.head in
    let to : seq ≡ sink.initial + (seq - sink.initial) = omega (arith, low) in
    ap (λ b. cond b [] (map undelivered_note (runs old.head (data_in (pending old) old.head seq)) ++ Skipped seq ∷ [])) (ap (λ k. nat_le k old.head) to ∙ ap (λ k. nat_le (sink.initial + (seq - sink.initial)) k) head ∙ le_shift sink.initial (seq - sink.initial) (stand_of sink.ops).head)
    ∙ ap (λ l. cond (nat_le (seq - sink.initial) (stand_of sink.ops).head) [] l) (
    ap (λ l. map undelivered_note (runs old.head l) ++ Skipped seq ∷ []) (ap (λ n. map datum (owners_from (pending old) old.head n)) (let e : seq - old.head ≡ seq - sink.initial - (stand_of sink.ops).head = omega (arith, head, low) in e) ∙ pending_shift old sink (seq - sink.initial - (stand_of sink.ops).head) stands)
    ∙ ap (λ k. map undelivered_note (runs k (map datum (owners_from (stand_of sink.ops).owner (stand_of sink.ops).head (seq - sink.initial - (stand_of sink.ops).head)))) ++ Skipped seq ∷ []) head
    ∙ ap (λ k. undelivered sink.initial (stand_of sink.ops) (seq - sink.initial) ++ Skipped k ∷ []) to
    )

pub closing_told : (old : Reasm) (sink : Sink) → StandsFor old sink → closing old ≡ undelivered sink.initial (stand_of sink.ops) (stand_of sink.ops).end ++ Closed ∷ []
closing_told old sink stands =
    let head = stands.head in
    let top = stands.top in
    ap (λ l. map undelivered_note (runs old.head l) ++ Closed ∷ []) (ap (λ n. map datum (owners_from (pending old) old.head n)) (let e : old.top - old.head ≡ (stand_of sink.ops).end - (stand_of sink.ops).head = omega (arith, head, top) in e) ∙ pending_shift old sink ((stand_of sink.ops).end - (stand_of sink.ops).head) stands)
    ∙ ap (λ k. map undelivered_note (runs k (map datum (owners_from (stand_of sink.ops).owner (stand_of sink.ops).head ((stand_of sink.ops).end - (stand_of sink.ops).head)))) ++ Closed ∷ []) head

pub written : (old new : Reasm) (sink : Sink) (seq : ℕ) (bytes : List ℕ) (before now : List Note) → StandsFor old sink → sink.initial ≤ seq → IsWritten old new seq bytes before now
    → (now ≡ before ++ notes_of sink.initial (stand_of sink.ops) (Write (seq - sink.initial) bytes)) × StandsFor new (record sink { ops = sink.ops ++ Write (seq - sink.initial) bytes ∷ [] })
written old new sink seq bytes before now stands low done =
    let head = stands.head in
    let place : sink.initial + (seq - sink.initial) ≡ seq = omega (arith, low) in
    settled old new sink (Write (seq - sink.initial) bytes) (covering (Write (seq + past_head old seq (length bytes)) (drop (past_head old seq (length bytes)) bytes))) (reached old.top (length bytes) (seq + length bytes)) old.head (overlaps_in (pending old) (seq + past_head old seq (length bytes)) (drop (past_head old seq (length bytes)) bytes)) before now stands done
    (λ q h. cover_rest seq (past_head old seq (length bytes)) (sink.initial + q) bytes (behind q h head)
    ∙ ap (λ k. covering (Write k bytes) (sink.initial + q)) (sym place) ∙ covering_shift sink.initial (seq - sink.initial) q bytes)
    head
    (reached_write old.top seq (seq - sink.initial) bytes sink.initial (max (stand_of sink.ops).head (stand_of sink.ops).end) stands.top (sym place))
    (overlaps_told old sink seq bytes stands low)
  where
    behind : (q : ℕ) → (stand_of sink.ops).head ≤ q → old.head ≡ sink.initial + (stand_of sink.ops).head → (past_head old seq (length bytes) ≡ 0) ⊎ (seq + past_head old seq (length bytes) ≤ sink.initial + q)
    behind q h head = elim (below_or seq old.head) [
      | inl less ↦ inr (omega (arith, less, head, h))
      | inr more ↦ inl (omega (arith, more))
    ]

pub lost : (old new : Reasm) (sink : Sink) (seq len : ℕ) (before now : List Note) → StandsFor old sink → sink.initial ≤ seq → IsLost old new seq len before now
    → (now ≡ before ++ notes_of sink.initial (stand_of sink.ops) (Gap (seq - sink.initial) len)) × StandsFor new (record sink { ops = sink.ops ++ Gap (seq - sink.initial) len ∷ [] })
lost old new sink seq len before now stands low done =
    let head = stands.head in
    let place : sink.initial + (seq - sink.initial) ≡ seq = omega (arith, low) in
    settled old new sink (Gap (seq - sink.initial) len) (covering (Gap (seq + past_head old seq len) (len - past_head old seq len))) (reached old.top len (seq + len)) old.head [] before now stands done
    (λ q h. gap_rest seq (past_head old seq len) len (sink.initial + q) (omega arith) (behind q h head)
    ∙ ap (λ k. covering (Gap k len) (sink.initial + q)) (sym place) ∙ gap_shift sink.initial (seq - sink.initial) len q)
    head
    (reached_gap old.top seq (seq - sink.initial) len sink.initial (max (stand_of sink.ops).head (stand_of sink.ops).end) stands.top (sym place))
    refl
  where
    behind : (q : ℕ) → (stand_of sink.ops).head ≤ q → old.head ≡ sink.initial + (stand_of sink.ops).head → (past_head old seq len ≡ 0) ⊎ (seq + past_head old seq len ≤ sink.initial + q)
    behind q h head = elim (below_or seq old.head) [
      | inl less ↦ inr (omega (arith, less, head, h))
      | inr more ↦ inl (omega (arith, more))
    ]

pub skipped : (old new : Reasm) (sink : Sink) (seq : ℕ) (before now : List Note) → StandsFor old sink → sink.initial ≤ seq → IsGivenUp old new seq before now
    → (now ≡ before ++ notes_of sink.initial (stand_of sink.ops) (Skip (seq - sink.initial))) × StandsFor new (record sink { ops = sink.ops ++ Skip (seq - sink.initial) ∷ [] })
skipped old new sink seq before now stands low done =
    let head = stands.head in
    let top = stands.top in
    settled old new sink (Skip (seq - sink.initial)) (λ q. None) old.top (max old.head seq) (given_up old seq) before now stands done
    (λ q h. refl)
    (omega (arith, head, low))
    (omega (arith, top))
    (given_up_told old sink seq stands low)

-- a call that was checked is answered as the definition says
in_range : (closed : Bool) (initial seq len : ℕ) → checked closed initial seq len ≡ Ok tt → (closed ≡ false) × (nat_le initial seq && nat_le (seq + len) (2 ^ 62) ≡ true)
in_range true initial seq len h = absurd (let q : ◌≡◌ {A = Result Unit ReasmFault} (Err (Run SinkClosed)) (Ok tt) = h in cc)
in_range false initial seq len h = by_test (nat_le initial seq && nat_le (seq + len) (2 ^ 62)) refl
  where
    by_test : (b : Bool) → (nat_le initial seq && nat_le (seq + len) (2 ^ 62)) ≡ b → (false ≡ false) × ((nat_le initial seq && nat_le (seq + len) (2 ^ 62)) ≡ true)
    by_test true e = (refl, e)
    by_test false e = absurd (let q : ◌≡◌ {A = Result Unit ReasmFault} (Err (Run Overflow)) (Ok tt) = sym (ap (λ b. cond b (Ok tt) (Err (Run Overflow))) e) ∙ h in cc)

both_true : (a b : Bool) → (a && b) ≡ true → (a ≡ true) × (b ≡ true)
both_true true true h = (refl, refl)
both_true true false h = absurd (let q : false ≡ true = h in cc)
both_true false b h = absurd (let q : false ≡ true = h in cc)

pub low_of : (closed : Bool) (initial seq len : ℕ) → checked closed initial seq len ≡ Ok tt → initial ≤ seq
low_of closed initial seq len h = leb-true initial seq (both_true (nat_le initial seq) (nat_le (seq + len) (2 ^ 62)) (in_range closed initial seq len h).1).0

pub fits_of : (closed : Bool) (initial seq len : ℕ) → checked closed initial seq len ≡ Ok tt → seq + len ≤ 2 ^ 62
fits_of closed initial seq len h = leb-true (seq + len) (2 ^ 62) (both_true (nat_le initial seq) (nat_le (seq + len) (2 ^ 62)) (in_range closed initial seq len h).1).1

pub tells : (old : Reasm) (sink : Sink) (seq len : ℕ) (op : Op) → StandsFor old sink → checked old.closed old.initial seq len ≡ Ok tt → operated sink seq len op ≡ Tells (notes_of sink.initial (stand_of sink.ops) op) (record sink { ops = sink.ops ++ op ∷ [] })
tells old sink seq len op stands h =
    let same : checked sink.closed sink.initial seq len ≡ Ok tt = sym (ap (λ c. checked c old.initial seq len) stands.closed ∙ ap (λ n. checked sink.closed n seq len) stands.initial) ∙ h in
    let range = in_range sink.closed sink.initial seq len same in
    ap (λ b. cond b (Refused SinkClosed) (cond (is_in_range sink seq len) (Tells (notes_of sink.initial (stand_of sink.ops) op) (record sink { ops = sink.ops ++ op ∷ [] })) (Refused Overflow))) range.0
    ∙ ap (λ b. cond b (Tells (notes_of sink.initial (stand_of sink.ops) op) (record sink { ops = sink.ops ++ op ∷ [] })) (Refused Overflow)) range.1

pub refused : (old : Reasm) (sink : Sink) (seq len : ℕ) (op : Op) (fault : ReasmFault) (before : List Note) → StandsFor old sink → checked old.closed old.initial seq len ≡ Err fault → IsAnswer (operated sink seq len op) (Err fault) old old before before
refused old sink seq len op fault before stands h = by_closed sink.closed (is_in_range sink seq len) refl refl
  where
    same : checked sink.closed sink.initial seq len ≡ Err fault
    same = sym (ap (λ c. checked c old.initial seq len) stands.closed ∙ ap (λ n. checked sink.closed n seq len) stands.initial) ∙ h

    by_closed : (c r : Bool) → sink.closed ≡ c → is_in_range sink seq len ≡ r → IsAnswer (operated sink seq len op) (Err fault) old old before before
    by_closed true r closed range =
        let is : Err (Run SinkClosed) ≡ Err fault = sym (ap (λ b. checked b sink.initial seq len) closed) ∙ same in
        subst (λ o. IsAnswer o (Err fault) old old before before)
        (sym (ap (λ b. cond b (Refused SinkClosed) (cond (is_in_range sink seq len) (Tells (notes_of sink.initial (stand_of sink.ops) op) (record sink { ops = sink.ops ++ op ∷ [] })) (Refused Overflow))) closed))
        (sym is, refl, refl)
    by_closed false false closed range =
        let is : Err (Run Overflow) ≡ Err fault = sym (ap (λ b. checked b sink.initial seq len) closed ∙ ap (λ b. cond b (Ok tt) (Err (Run Overflow))) range) ∙ same in
        subst (λ o. IsAnswer o (Err fault) old old before before)
        (sym (ap (λ b. cond b (Refused SinkClosed) (cond (is_in_range sink seq len) (Tells (notes_of sink.initial (stand_of sink.ops) op) (record sink { ops = sink.ops ++ op ∷ [] })) (Refused Overflow))) closed
        ∙ ap (λ b. cond b (Tells (notes_of sink.initial (stand_of sink.ops) op) (record sink { ops = sink.ops ++ op ∷ [] })) (Refused Overflow)) range))
        (sym is, refl, refl)
    by_closed false true closed range =
        absurd (let q : ◌≡◌ {A = Result Unit ReasmFault} (Ok tt) (Err fault) = sym (ap (λ b. checked b sink.initial seq len) closed ∙ ap (λ b. cond b (Ok tt) (Err (Run Overflow))) range) ∙ same in cc)

pub without_memory : (old new : Reasm) (sink : Sink) (seq len : ℕ) (op : Op) (before now : List Note) → StandsFor old sink → checked old.closed old.initial seq len ≡ Ok tt → new ≡ old → now ≡ before → IsAnswer (operated sink seq len op) (Err NoMemory) old new before now
without_memory old new sink seq len op before now stands h same_sink same_notes =
    subst (λ o. IsAnswer o (Err NoMemory) old new before now) (sym (tells old sink seq len op stands h)) (refl, same_sink, same_notes)

pub done_answer : (old new : Reasm) (sink : Sink) (seq len : ℕ) (op : Op) (before now : List Note) → StandsFor old sink → checked old.closed old.initial seq len ≡ Ok tt → (now ≡ before ++ notes_of sink.initial (stand_of sink.ops) op) × StandsFor new (record sink { ops = sink.ops ++ op ∷ [] }) → IsAnswer (operated sink seq len op) (Ok tt) old new before now
done_answer old new sink seq len op before now stands h done =
    subst (λ o. IsAnswer o (Ok tt) old new before now) (sym (tells old sink seq len op stands h)) done

pub number_is : (old : Reasm) (sink : Sink) (seq : Option ℕ) → StandsFor old sink → number_or seq old.top ≡ number_of sink seq
number_is old sink None stands = stands.top
number_is old sink (Some n) stands = refl

pub low_in : (old : Reasm) (sink : Sink) (seq len : ℕ) → StandsFor old sink → checked old.closed old.initial seq len ≡ Ok tt → sink.initial ≤ seq
low_in old sink seq len stands h = subst (λ n. n ≤ seq) stands.initial (low_of old.closed old.initial seq len h)

pub fresh : (r : Reasm) (closed : Bool) → r.initial ≡ 0 → r.head ≡ 0 → r.top ≡ 0 → r.begun ≡ false → r.closed ≡ closed → r.pieces ≡ [] → StandsFor r (record { initial = 0; ops = []; closed = closed })
fresh r closed initial head top begun is_closed pieces = record {
  initial = initial;
  closed = is_closed;
  begun = sym (ap not begun);
  head = head ∙ (let e : 0 ≡ 0 + 0 = omega arith in e);
  top = top ∙ (let e : 0 ≡ 0 + max 0 0 = omega arith in e);
  owned = λ q h. ap (λ l. owner_of l (0 + q)) pieces;
  below = λ q h. ap (λ l. owner_of l q) pieces;
}

closed_told : (old : Reasm) (sink : Sink) (last b : Bool) → StandsFor old sink → old.closed ≡ b → outcome sink (close last) ≡ cond b (Tells [] sink) (Tells (undelivered sink.initial (stand_of sink.ops) (stand_of sink.ops).end ++ Closed ∷ []) (record { initial = 0; ops = []; closed = last }))
closed_told old sink last b stands h =
    ap (λ c. cond c (Tells [] sink) (Tells (undelivered sink.initial (stand_of sink.ops) (stand_of sink.ops).end ++ Closed ∷ []) (record { initial = 0; ops = []; closed = last }))) (sym stands.closed ∙ h)

pub close_again : (old : Reasm) (sink : Sink) (last : Bool) (before : List Note) → StandsFor old sink → old.closed ≡ true → Answers sink (close last) (Ok tt) old old before before
close_again old sink last before stands h =
    subst (λ o. IsAnswer o (Ok tt) old old before before) (sym (closed_told old sink last true stands h)) (sym (append-nil before), stands)

pub close_done : (old new : Reasm) (sink : Sink) (last : Bool) (before now : List Note) → StandsFor old sink → old.closed ≡ false → now ≡ before ++ closing old → StandsFor new (record { initial = 0; ops = []; closed = last }) → Answers sink (close last) (Ok tt) old new before now
close_done old new sink last before now stands h told is_new =
    subst (λ o. IsAnswer o (Ok tt) old new before now) (sym (closed_told old sink last false stands h)) (told ∙ ap (λ l. before ++ l) (closing_told old sink stands), is_new)

pub close_without_memory : (old new : Reasm) (sink : Sink) (last : Bool) (before now : List Note) → StandsFor old sink → old.closed ≡ false → new ≡ old → now ≡ before → Answers sink (close last) (Err NoMemory) old new before now
close_without_memory old new sink last before now stands h same_sink same_notes =
    subst (λ o. IsAnswer o (Err NoMemory) old new before now) (sym (closed_told old sink last false stands h)) (refl, same_sink, same_notes)

none_yet : (ops : List Op) → is_new ops ≡ true → ops ≡ []
none_yet [] h = refl
none_yet (op ∷ ops) h = absurd (let q : false ≡ true = h in cc)

-- before any operation nothing is pending
none_pending : (old : Reasm) (sink : Sink) → StandsFor old sink → sink.ops ≡ [] → (r : ℕ) → owner_of old.pieces r ≡ None
none_pending old sink stands none r = elim (below_or r old.head) [
  | inl less ↦ stands.below r less
  | inr more ↦
      let head : old.head ≡ sink.initial + 0 = stands.head ∙ ap (λ l. sink.initial + (stand_of l).head) none in
      let place : sink.initial + (r - sink.initial) ≡ r = omega (arith, more, head) in
      let from : (stand_of sink.ops).head ≤ r - sink.initial = subst (λ l. (stand_of l).head ≤ r - sink.initial) (sym none) (omega arith) in
      ap (λ k. owner_of old.pieces k) (sym place) ∙ stands.owned (r - sink.initial) from ∙ ap (λ l. (stand_of l).owner (r - sink.initial)) none
]

pub set_done : (old new : Reasm) (sink : Sink) (n : ℕ) → StandsFor old sink → old.closed ≡ false → old.begun ≡ false → new.initial ≡ n → new.head ≡ n → new.top ≡ n → new.begun ≡ old.begun → new.closed ≡ old.closed → new.pieces ≡ old.pieces → IsSet sink (set_initial n) (Ok tt) old new
set_done old new sink n stands closed begun initial head top same_begun same_closed pieces =
    let is_first : is_new sink.ops ≡ true = stands.begun ∙ ap not begun in
    let none : sink.ops ≡ [] = none_yet sink.ops is_first in
    let empty = none_pending old sink stands none in
    let zero_head : (stand_of sink.ops).head ≡ 0 = ap (λ l. (stand_of l).head) none in
    let zero_end : (stand_of sink.ops).end ≡ 0 = ap (λ l. (stand_of l).end) none in
    subst (λ o. IsSetting o (Ok tt) old new)
    (sym (ap (λ c. cond c (Tells [] sink) (cond (is_new sink.ops) (Tells [] (record sink { initial = n })) (Refused LateInitial))) (sym stands.closed ∙ closed)
    ∙ ap (λ b. cond b (Tells [] (record sink { initial = n })) (Refused LateInitial)) is_first)) (
      refl,
      refl,
      record {
        initial = initial;
        closed = same_closed ∙ stands.closed;
        begun = stands.begun ∙ ap not (sym same_begun);
        head = head ∙ (let e : n ≡ n + (stand_of sink.ops).head = omega (arith, zero_head) in e);
        top = top ∙ (let e : n ≡ n + max (stand_of sink.ops).head (stand_of sink.ops).end = omega (arith, zero_head, zero_end) in e);
        owned = λ q h. ap (λ l. owner_of l (n + q)) pieces ∙ empty (n + q) ∙ sym (ap (λ l. (stand_of l).owner q) none);
        below = λ q h. ap (λ l. owner_of l q) pieces ∙ empty q;
      },
    )

pub settles : (old new : Reasm) (filled : List Piece) (start : ℕ) (cover : Spot) (top from head : ℕ) (first all before now : List Note) → AreDelivered (joint old (laid start cover)) from head first all → now ≡ before ++ all → IsFilled (owner_of old.pieces) (owner_of filled) start cover (max start head) → ((q : ℕ) → head ≤ q → owner_of new.pieces q ≡ owner_of filled q) → ((q : ℕ) → q < head → owner_of new.pieces q ≡ None) → new.initial ≡ old.initial → new.closed ≡ old.closed → new.begun ≡ true → new.head ≡ head → new.top ≡ max top head → Settles old new (laid start cover) top from first before now
settles old new filled start cover top from head first all before now done tells fills kept dropped initial closed begun head_is top_is = record {
  initial = initial;
  closed = closed;
  begun = begun;
  top_is = top_is ∙ ap (λ h. max top h) (sym head_is);
  grows = subst (λ h. from ≤ h) (sym head_is) done.grows;
  owned = subst (λ h. AreOwned (joint old (laid start cover)) from h) (sym head_is) done.owned;
  free = subst (λ h. joint old (laid start cover) h ≡ None) (sym head_is) done.free;
  notes = tells ∙ ap (λ l. before ++ l) (done.more ∙ ap (λ h. first ++ told from (owners_from (joint old (laid start cover)) from (h - from))) (sym head_is));
  above = λ q low. let h = subst (λ n. n ≤ q) head_is low in kept q h ∙ filled_above (owner_of old.pieces) (owner_of filled) start cover head q fills h;
  below = λ q less. dropped q (subst (λ n. q < n) head_is less);
}

pub settled_free : (old filled : List Piece) (start : ℕ) (cover : Spot) (head : ℕ) → IsFilled (owner_of old) (owner_of filled) start cover (max start head) → overlaid (owner_of old) start cover head ≡ None → owner_of filled head ≡ None
settled_free old filled start cover head fills free = filled_above (owner_of old) (owner_of filled) start cover head head fills (omega arith) ∙ free

pub is_written : (old new : Reasm) (at past top : ℕ) (bytes rest : List ℕ) (first before now : List Note) → past ≡ past_head old at (length bytes) → rest ≡ drop past bytes → top ≡ reached old.top (length bytes) (at + length bytes) → first ≡ overlaps_in (pending old) (at + past) rest → Settles old new (λ q. covering (Write (at + past) rest) q) top old.head first before now → IsWritten old new at bytes before now
is_written old new at past top bytes rest first before now past_is rest_is top_is first_is done =
    subst (λ p. Settles old new (λ q. covering (Write (at + p) (drop p bytes)) q) (reached old.top (length bytes) (at + length bytes)) old.head (overlaps_in (pending old) (at + p) (drop p bytes)) before now) past_is
    (subst (λ t. Settles old new (λ q. covering (Write (at + past) (drop past bytes)) q) t old.head (overlaps_in (pending old) (at + past) (drop past bytes)) before now) top_is
    (subst (λ r. Settles old new (λ q. covering (Write (at + past) r) q) top old.head (overlaps_in (pending old) (at + past) r) before now) rest_is
    (subst (λ l. Settles old new (λ q. covering (Write (at + past) rest) q) top old.head l before now) first_is done)))

pub is_lost : (old new : Reasm) (at past len top : ℕ) (before now : List Note) → past ≡ past_head old at len → top ≡ reached old.top len (at + len) → Settles old new (λ q. covering (Gap (at + past) (len - past)) q) top old.head [] before now → IsLost old new at len before now
is_lost old new at past len top before now past_is top_is done =
    subst (λ p. Settles old new (λ q. covering (Gap (at + p) (len - p)) q) (reached old.top len (at + len)) old.head [] before now) past_is
    (subst (λ t. Settles old new (λ q. covering (Gap (at + past) (len - past)) q) t old.head [] before now) top_is done)

pub write_done : (old new : Reasm) (sink : Sink) (seq : Option ℕ) (at : ℕ) (bytes : List ℕ) (before now : List Note) → StandsFor old sink → at ≡ number_or seq old.top → checked old.closed old.initial at (length bytes) ≡ Ok tt → IsWritten old new at bytes before now → Answers sink (write seq bytes) (Ok tt) old new before now
write_done old new sink seq at bytes before now stands at_is h done =
    subst (λ n. IsAnswer (operated sink n (length bytes) (Write (n - sink.initial) bytes)) (Ok tt) old new before now) (at_is ∙ number_is old sink seq stands)
    (done_answer old new sink at (length bytes) (Write (at - sink.initial) bytes) before now stands h (written old new sink at bytes before now stands (low_in old sink at (length bytes) stands h) done))

pub write_refused : (old : Reasm) (sink : Sink) (seq : Option ℕ) (at : ℕ) (bytes : List ℕ) (fault : ReasmFault) (before : List Note) → StandsFor old sink → at ≡ number_or seq old.top → checked old.closed old.initial at (length bytes) ≡ Err fault → Answers sink (write seq bytes) (Err fault) old old before before
write_refused old sink seq at bytes fault before stands at_is h =
    subst (λ n. IsAnswer (operated sink n (length bytes) (Write (n - sink.initial) bytes)) (Err fault) old old before before) (at_is ∙ number_is old sink seq stands)
    (refused old sink at (length bytes) (Write (at - sink.initial) bytes) fault before stands h)

pub write_unmade : (old new : Reasm) (sink : Sink) (seq : Option ℕ) (at : ℕ) (bytes : List ℕ) (before now : List Note) → StandsFor old sink → at ≡ number_or seq old.top → checked old.closed old.initial at (length bytes) ≡ Ok tt → new ≡ old → now ≡ before → Answers sink (write seq bytes) (Err NoMemory) old new before now
write_unmade old new sink seq at bytes before now stands at_is h same_sink same_notes =
    subst (λ n. IsAnswer (operated sink n (length bytes) (Write (n - sink.initial) bytes)) (Err NoMemory) old new before now) (at_is ∙ number_is old sink seq stands)
    (without_memory old new sink at (length bytes) (Write (at - sink.initial) bytes) before now stands h same_sink same_notes)

pub on_ok : {T E P Q : Type 0} → (r : Result T E) → (P → Q) → OnOk r P → OnOk r Q
on_ok (Ok x) f p = f p
on_ok (Err e) f p = tt
