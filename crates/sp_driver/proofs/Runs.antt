-- A run, from piece to piece.
use Rattle.std.specs.Prelude.{◌⊎◌, ◌%◌}
use Rattle.std.proofs.Common.{Bool, true, false, inl, inr, ◌≡◌, ◌≤◌, ◌<◌, ◌+◌, ◌*◌, ◌/◌, ◌-◌, ℕ, suc, List, [], ◌++◌, length, take, drop, Option, Some, None, ◌≢◌, sym, ap, ◌∙◌, refl, subst, arith, ⊎_elim, append_assoc, cond}
use Rattle.std.proofs.lemmas.Bool.{cases_lt, lt-ltb, le-ltb}
use Rattle.std.proofs.lemmas.List.{append-nil, length-append, length-take, take-append-le, take-append-drop, take_all}
use Rattle.std.proofs.lemmas.Grind.{flat_map-append}
use Rattle.std.proofs.Math.Seq.{drop-append_seam}
use Rattle.std.proofs.lemmas.Nat.{div-mul-add}
use Rattle.std.proofs.Math.Nat.{mul-le-mul_right}
use Rattle.sp_base.specs.Input.{Close, held_open, ended}
use Rattle.sp_io.specs.Moved.{appended, prepended}
use Rattle.sp_io.proofs.Moves.{appended-appended, appended-nil, prepended-prepended, prepended-nil}
use Rattle.sp_meaning.specs.declared.stand.Stand.{Stand}
use Rattle.sp_meaning.specs.Meaning.{UnitMeaning}
use Rattle.sp_meaning.specs.Steady.{IsSteady}
use Rattle.sp_session.specs.declared.session.Session.{Session}
use Rattle.sp_events.specs.declared.event.Event.{Event}
use Rattle.sp_session.specs.Session.{StandsFor, IsFed, IsFresh, means, told_by, told_in}
use Rattle.sp_session.proofs.Meanings.{units_are_steady}
use Rattle.sp_driver.specs.declared.exits.RunExit.{RunExit}
use Rattle.sp_command.specs.Puts.{IsFront, IsPartPut}
use Rattle.sp_driver.specs.Lines.{event_line, event_lines}
use Rattle.sp_driver.specs.declared.options.RunOptions.{RunOptions}
use Rattle.sp_driver.specs.Shown.{lines, shown, whole, run_lines}
use Rattle.sp_driver.specs.Run.{IsPrompt, IsRunPart, IsTakenWhole, IsWhole, AtExit, Runs}
use Rattle.sp_driver.specs.declared.exits.Stop.{Stop}
use Rattle.sp_driver.specs.inside.Fed.{added, IsFedBy, exit_of_stop, exit_of_stand}

-- a front of what is taken
take_within : (i j : ℕ) (s : List ℕ) → i ≤ j → i ≤ length s → take i (take j s) ≡ take i s
take_within i j s le within =
    let long : i ≤ length (take j s) = omega (arith, length-take j s) in
    sym (take-append-le i (take j s) (drop j s) long) ∙ ap (λ xs. take i xs) (take-append-drop j s)

-- what is shown of whole pieces doesn't hang on what follows
pub shown-append : (meaning : UnitMeaning) (o : RunOptions) (s t : List ℕ) (i : ℕ) → i * o.increment ≤ length s → shown meaning o (s ++ t) i ≡ shown meaning o s i
shown-append meaning o s t i le = ap (λ xs. lines meaning o xs held_open) (take-append-le (i * o.increment) s t le)

-- what is shown of pieces that are all there is
shown_all_of : (meaning : UnitMeaning) (o : RunOptions) (s : List ℕ) (j : ℕ) → length s ≤ j * o.increment → shown meaning o s j ≡ lines meaning o s held_open
shown_all_of meaning o s j all = ap (λ xs. lines meaning o xs held_open) (take_all (j * o.increment) s all)

-- what is shown of no bytes
shown_first : (meaning : UnitMeaning) (o : RunOptions) → shown meaning o [] 0 ≡ lines meaning o [] held_open
shown_first meaning o = shown_all_of meaning o [] 0 (omega arith)

module _ (meaning : UnitMeaning) (o : RunOptions) (steady : IsSteady meaning) where
  -- what is told of a front stands at the front of all lines, and what is added behind it are the others
  pub lines_grow : (s t : List ℕ) (close : Close) → lines meaning o s held_open ++ added meaning o s (s ++ t) close ≡ lines meaning o (s ++ t) close
  lines_grow s t close =
      let told = (meaning s held_open).events in
      let more = steady s t close in
      let behind = ap (λ es. event_lines o.trace (drop (length told) es)) more.1 ∙ ap (λ es. event_lines o.trace es) (drop-append_seam told more.0) in
      ap (λ ls. event_lines o.trace told ++ ls) behind ∙ sym (flat_map-append (event_line o.trace) told more.0) ∙ ap (λ es. event_lines o.trace es) (sym more.1)

  end_grows : (s : List ℕ) → lines meaning o s held_open ++ added meaning o s s ended ≡ whole meaning o s
  end_grows s = subst (λ t. lines meaning o s held_open ++ added meaning o s t ended ≡ lines meaning o t ended) (append-nil s) (lines_grow s [] ended)

  lines_front : (s t : List ℕ) (close : Close) → IsFront (lines meaning o s held_open) (lines meaning o (s ++ t) close)
  lines_front s t close = (added meaning o s (s ++ t) close, sym (lines_grow s t close))

  -- a further piece, which is whole or the last one
  pub shown_next : (s p : List ℕ) (j : ℕ) → length s ≡ j * o.increment → length p ≤ o.increment
      → shown meaning o (s ++ p) (suc j) ≡ shown meaning o s j ++ added meaning o s (s ++ p) held_open
  shown_next s p j size fits =
      let le : length s ≤ j * o.increment = omega arith in
      let all : length (s ++ p) ≤ suc j * o.increment = omega (arith, length-append s p) in
      shown_all_of meaning o (s ++ p) (suc j) all ∙ sym (lines_grow s p held_open) ∙ ap (λ ls. ls ++ added meaning o s (s ++ p) held_open) (sym (shown_all_of meaning o s j le))

pub front_self : (xs : List ℕ) → IsFront xs xs
front_self xs = ([], sym (append-nil xs))

pub front_more : (xs ys zs : List ℕ) → IsFront xs ys → IsFront xs (ys ++ zs)
front_more xs ys zs f = (f.0 ++ zs, ap (λ l. l ++ zs) f.1 ∙ append_assoc xs f.0 zs)

pub front_trans : (xs ys zs : List ℕ) → IsFront xs ys → IsFront ys zs → IsFront xs zs
front_trans xs ys zs f h = (f.0 ++ h.0, h.1 ∙ ap (λ l. l ++ h.0) f.1 ∙ append_assoc xs f.0 h.0)

pub front_behind : (before xs ys : List ℕ) → IsFront xs ys → IsFront (before ++ xs) (before ++ ys)
front_behind before xs ys f = (f.0, ap (λ l. before ++ l) f.1 ∙ sym (append_assoc before xs f.0))

pub shown_front : (meaning : UnitMeaning) (o : RunOptions) → IsSteady meaning → (s : List ℕ) (j i : ℕ) → i ≤ j → i * o.increment ≤ length s
    → IsFront (shown meaning o s i) (shown meaning o s j)
shown_front meaning o steady s j i le within =
    let fewer = take (i * o.increment) s in
    let more = take (j * o.increment) s in
    let split : fewer ++ drop (i * o.increment) more ≡ more =
    ap (λ xs. xs ++ drop (i * o.increment) more) (sym (take_within (i * o.increment) (j * o.increment) s (mul-le-mul_right o.increment le) within)) ∙ take-append-drop (i * o.increment) more
    in
    subst (λ xs. IsFront (lines meaning o fewer held_open) (lines meaning o xs held_open)) split (lines_front meaning o steady fewer (drop (i * o.increment) more) held_open)

piece_below : (n i j : ℕ) → i * n < j * n + n → 1 ≤ n → i ≤ j
piece_below n i j lt one =
    ⊎_elim
    (λ less. let le : j + 1 ≤ i = omega arith in absurd (omega (arith, mul-le-mul_right n le)))
    (λ ge. ge)
    (cases_lt j i)

-- what was put before a piece was taken keeps the promise on exits
pub is_prompt : (meaning : UnitMeaning) (o : RunOptions) → IsSteady meaning → (s p : List ℕ) (j : ℕ) (written : List ℕ) → 1 ≤ o.increment → length s ≡ j * o.increment → length p ≤ o.increment
    → IsFront (shown meaning o s j) written → IsPrompt meaning o (s ++ p) written
is_prompt meaning o steady s p j written one size fits front i lt =
    let lt' : i * o.increment < j * o.increment + o.increment = omega (arith, length-append s p) in
    let le : i ≤ j = piece_below o.increment i j lt' one in
    let within : i * o.increment ≤ length s = omega (arith, mul-le-mul_right o.increment le) in
    subst (λ xs. IsFront xs written) (sym (shown-append meaning o s p i within))
    (front_trans (shown meaning o s i) (shown meaning o s j) written (shown_front meaning o steady s j i le within) front)

-- the number of whole pieces
pieces_of : (n : ℕ) (s p : List ℕ) (j : ℕ) → length s ≡ j * n → length p < n → length (s ++ p) / n ≡ j
pieces_of n s p j size less =
    let e : length (s ++ p) ≡ j * n + length p = omega (arith, length-append s p) in
    ap (λ t. t / n) e ∙ div-mul-add j n (length p) less

shown_all : (meaning : UnitMeaning) (o : RunOptions) (s p : List ℕ) (j : ℕ) → length s ≡ j * o.increment → shown meaning o s j ≡ shown meaning o (s ++ p) j
shown_all meaning o s p j size = let le : j * o.increment ≤ length s = omega arith in sym (shown-append meaning o s p j le)

limit_pieces : (n j limit : ℕ) → j * n ≤ limit → limit < j * n + n → limit / n ≡ j
limit_pieces n j limit le lt =
    let e : limit ≡ j * n + (limit - j * n) = omega arith in
    let less : limit - j * n < n = omega arith in
    ap (λ t. t / n) e ∙ div-mul-add j n (limit - j * n) less

-- as many pieces as fit
pieces_fit : (n j m : ℕ) → 1 ≤ n → j * n ≤ m → j ≤ m / n
pieces_fit n j m one le =
    let rest : n * (m / n) + m % n ≡ m = omega arith in
    let less : m % n < n = omega arith in
    let lt : j * n < m / n * n + n = omega arith in
    piece_below n j (m / n) lt one

pub run_whole : (meaning : UnitMeaning) (o : RunOptions) (s : List ℕ) → length s ≤ o.most → run_lines meaning o s ≡ whole meaning o s
run_whole meaning o s le = ap (λ b. cond b (shown meaning o s (o.most / o.increment)) (whole meaning o s)) (le-ltb o.most (length s) le)

pub run_long : (meaning : UnitMeaning) (o : RunOptions) (s : List ℕ) → o.most < length s → run_lines meaning o s ≡ shown meaning o s (o.most / o.increment)
run_long meaning o s lt = ap (λ b. cond b (shown meaning o s (o.most / o.increment)) (whole meaning o s)) (lt-ltb o.most (length s) lt)

-- whole pieces that may be taken are at the front of what the run writes
pub shown_in_run : (meaning : UnitMeaning) (o : RunOptions) → IsSteady meaning → (s rest : List ℕ) (j : ℕ) → 1 ≤ o.increment → j * o.increment ≤ length s → j * o.increment ≤ o.most
    → IsFront (shown meaning o s j) (run_lines meaning o (s ++ rest))
shown_in_run meaning o steady s rest j one within limit =
    let t = s ++ rest in
    let n = j * o.increment in
    let within_all : n ≤ length t = omega (arith, length-append s rest) in
    subst (λ xs. IsFront xs (run_lines meaning o t)) (shown-append meaning o s rest j within)
    (⊎_elim
    (λ long. subst (λ xs. IsFront (shown meaning o t j) xs) (sym (run_long meaning o t long)) (shown_front meaning o steady t (o.most / o.increment) j (pieces_fit o.increment j o.most one limit) within_all))
    (λ short.
    subst (λ xs. IsFront (shown meaning o t j) xs) (sym (run_whole meaning o t short))
    (subst (λ xs. IsFront (shown meaning o t j) (lines meaning o xs ended)) (take-append-drop n t) (lines_front meaning o steady (take n t) (drop n t) ended)))
    (cases_lt o.most (length t)))

-- the last piece, and what the end adds
pub whole_last : (meaning : UnitMeaning) (o : RunOptions) → IsSteady meaning → (s p : List ℕ) (j : ℕ) → length s ≡ j * o.increment → length p < o.increment
    → whole meaning o (s ++ p) ≡ (shown meaning o s j ++ added meaning o s (s ++ p) held_open) ++ added meaning o (s ++ p) (s ++ p) ended
whole_last meaning o steady s p j size less =
    let all : length (s ++ p) ≤ suc j * o.increment = omega (arith, length-append s p) in
    sym (end_grows meaning o steady (s ++ p))
    ∙ ap (λ ls. ls ++ added meaning o (s ++ p) (s ++ p) ended) (sym (shown_all_of meaning o (s ++ p) (suc j) all) ∙ shown_next meaning o steady s p j size (omega arith))

-- a piece is whole, or it is the last one
abbrev pub IsPiece : ℕ → List ℕ → Option (List ℕ) → Type 0
IsPiece n p left = (length p ≡ n) ⊎ ((length p < n) × IsTakenWhole left)

taken_whole : (left : Option (List ℕ)) (rest : List ℕ) → IsTakenWhole left → left ≡ Some rest → rest ≡ []
taken_whole None rest is e = cc
taken_whole (Some xs) rest is e = cc

-- the lines of a piece that was fed
pub piece_in_run : (meaning : UnitMeaning) (o : RunOptions) → IsSteady meaning → (s p rest : List ℕ) (j : ℕ) (left : Option (List ℕ)) → 1 ≤ o.increment → length s ≡ j * o.increment → length s + length p ≤ o.most
    → IsPiece o.increment p left → left ≡ Some rest → IsFront (shown meaning o s j ++ added meaning o s (s ++ p) held_open) (run_lines meaning o ((s ++ p) ++ rest))
piece_in_run meaning o steady s p rest j left one size limit piece told =
    ⊎_elim
    (λ full.
    subst (λ xs. IsFront xs (run_lines meaning o ((s ++ p) ++ rest))) (shown_next meaning o steady s p j size (omega arith))
    (shown_in_run meaning o steady (s ++ p) rest (suc j) one (omega (arith, length-append s p)) (omega arith)))
    (λ last.
    let e : (s ++ p) ++ rest ≡ s ++ p = ap (λ r. (s ++ p) ++ r) (taken_whole left rest last.1 told) ∙ append-nil (s ++ p) in
    let short : length (s ++ p) ≤ o.most = omega (arith, length-append s p) in
    subst (λ xs. IsFront (shown meaning o s j ++ added meaning o s (s ++ p) held_open) xs) (sym (ap (λ xs. run_lines meaning o xs) e ∙ run_whole meaning o (s ++ p) short ∙ whole_last meaning o steady s p j size last.0))
    (front_more _ _ (added meaning o (s ++ p) (s ++ p) ended) (front_self _)))
    piece

-- the lines of the end
pub end_in_run : (meaning : UnitMeaning) (o : RunOptions) → IsSteady meaning → (s p rest : List ℕ) (j : ℕ) (left : Option (List ℕ)) → length s ≡ j * o.increment → length s + length p ≤ o.most
    → length p < o.increment → IsTakenWhole left → left ≡ Some rest
    → run_lines meaning o ((s ++ p) ++ rest) ≡ (shown meaning o s j ++ added meaning o s (s ++ p) held_open) ++ added meaning o (s ++ p) (s ++ p) ended
end_in_run meaning o steady s p rest j left size limit less over told =
    let e : (s ++ p) ++ rest ≡ s ++ p = ap (λ r. (s ++ p) ++ r) (taken_whole left rest over told) ∙ append-nil (s ++ p) in
    let short : length (s ++ p) ≤ o.most = omega (arith, length-append s p) in
    ap (λ xs. run_lines meaning o xs) e ∙ run_whole meaning o (s ++ p) short ∙ whole_last meaning o steady s p j size less

-- a run that ends behind j pieces, which make s, and a further one, be it fed or not
pub runs_by : (meaning : UnitMeaning) (o : RunOptions) → IsSteady meaning → (left left_in left_now held held_now : Option (List ℕ)) (s p : List ℕ) (j : ℕ) (written : List ℕ) (exit : RunExit)
    → 1 ≤ o.increment → length s ≡ j * o.increment → length p ≤ o.increment → left ≡ prepended s left_in → left_in ≡ prepended p left_now → held_now ≡ appended held written
    → IsFront (shown meaning o s j) written → AtExit meaning o (s ++ p) written left_now exit → Runs meaning o left left_now held held_now exit
runs_by meaning o steady left left_in left_now held held_now s p j written exit one size fits took took_in put front at = record {
  taken = s ++ p;
  written = written;
  took = took ∙ ap (λ l. prepended s l) took_in ∙ prepended-prepended s p left_now;
  put = put;
  prompt = is_prompt meaning o steady s p j written one size fits front;
  at_exit = at;
}

-- what a session means is steady
pub steady_of : (session : Session) (s : List ℕ) → StandsFor session s → IsSteady (means session)
steady_of session s stands = units_are_steady session.list.now session.program.now session.limits session.unit stands.runs

-- a session that was fed has told the events of its bytes, held open
told_events : (meaning : UnitMeaning) (session : Session) (s : List ℕ) → IsFed session → told_by session s ≡ (means session s held_open).events
told_events meaning session s fed = ap (λ phase. told_in phase (means session) s) fed

pub held_next : (meaning : UnitMeaning) (session : Session) (o : RunOptions) (s p : List ℕ) (before after : Option (List ℕ)) → IsFed session
    → after ≡ appended before (event_lines o.trace (drop (length (told_by session s)) (means session (s ++ p) held_open).events))
    → after ≡ appended before (added (means session) o s (s ++ p) held_open)
held_next meaning session o s p before after fed put =
    put ∙ ap (λ (told : List Event). appended before (event_lines o.trace (drop (length told) (means session (s ++ p) held_open).events))) (told_events meaning session s fed)

pub told_next : (meaning : UnitMeaning) (session : Session) (o : RunOptions) (s p : List ℕ) (before after : Option (List ℕ)) → IsFed session
    → IsPartPut before after (event_lines o.trace (drop (length (told_by session s)) (means session (s ++ p) held_open).events))
    → IsPartPut before after (added (means session) o s (s ++ p) held_open)
told_next meaning session o s p before after fed part =
    subst (λ (told : List Event). IsPartPut before after (event_lines o.trace (drop (length told) (means session (s ++ p) held_open).events))) (told_events meaning session s fed) part

pub piece_of : (n : ℕ) (p : List ℕ) (left : Option (List ℕ)) (full : Bool) → (full ≡ true → length p ≡ n) → (full ≡ false → (length p < n) × IsTakenWhole left) → IsPiece n p left
piece_of n p left true whole last = inl (whole refl)
piece_of n p left false whole last = inr (last refl)

-- what an exit by the output says
at_stop : (meaning : UnitMeaning) (o : RunOptions) (taken written : List ℕ) (left : Option (List ℕ)) (stop : Stop) → IsRunPart meaning o taken written left → AtExit meaning o taken written left (exit_of_stop stop)
at_stop meaning o taken written left Stop.Failed part = part
at_stop meaning o taken written left Stop.NoMemory part = part

module _ (meaning : UnitMeaning) (o : RunOptions) (session : Session) (left left_in left_now held held_in : Option (List ℕ)) (s p : List ℕ) (j : ℕ) (one : 1 ≤ o.increment)
    (took : left_in ≡ prepended p left_now) (fed : IsFedBy meaning o session left left_in held held_in s j) where
  steady : IsSteady meaning
  steady = subst (λ m. IsSteady m) fed.means (steady_of session s fed.stands)

  abbrev pub Ran : Option (List ℕ) → RunExit → Type 0
  Ran held_now exit = Runs meaning o left left_now held held_now exit

  -- the source failed
  pub runs_input_fault : length p < o.increment → Ran held_in RunExit.InputFault
  runs_input_fault less =
      runs_by meaning o steady left left_in left_now held held_in s p j (shown meaning o s j) RunExit.InputFault one fed.size (omega arith) fed.took took fed.put (front_self (shown meaning o s j))
      (shown_all meaning o s p j fed.size ∙ ap (λ k. shown meaning o (s ++ p) k) (sym (pieces_of o.increment s p j fed.size less)))

  -- no memory for a piece
  pub runs_no_memory : length p ≤ o.increment → length s ≤ o.most → Ran held_in RunExit.NoMemory
  runs_no_memory fits limit =
      runs_by meaning o steady left left_in left_now held held_in s p j (shown meaning o s j) RunExit.NoMemory one fed.size fits fed.took took fed.put (front_self (shown meaning o s j))
      (λ rest told. subst (λ xs. IsFront (shown meaning o s j) (run_lines meaning o xs)) (sym (append_assoc s p rest)) (shown_in_run meaning o steady s (p ++ rest) j one (omega (arith, fed.size)) (omega (arith, fed.size))))

  -- a piece too much
  pub runs_too_long : length p ≤ o.increment → length s ≤ o.most → o.most - length s < length p → Ran held_in RunExit.TooLong
  runs_too_long fits limit over =
      let size = fed.size in
      let le : j * o.increment ≤ o.most = omega arith in
      let lt : o.most < j * o.increment + o.increment = omega arith in
      runs_by meaning o steady left left_in left_now held held_in s p j (shown meaning o s j) RunExit.TooLong one fed.size fits fed.took took fed.put (front_self (shown meaning o s j))
      (omega (arith, length-append s p), shown_all meaning o s p j fed.size ∙ ap (λ k. shown meaning o (s ++ p) k) (sym (limit_pieces o.increment j o.most le lt)))

  -- the lines that a fed piece adds
  abbrev pub piece_lines : List ℕ
  piece_lines = added meaning o s (s ++ p) held_open

  -- the output stopped at the lines of a piece
  pub runs_stopped : (held_now : Option (List ℕ)) (stop : Stop) → IsPiece o.increment p left_now → length s + length p ≤ o.most → IsPartPut held_in held_now piece_lines → Ran held_now (exit_of_stop stop)
  runs_stopped held_now stop piece limit part =
      let written = shown meaning o s j ++ part.0 in
      let fits : length p ≤ o.increment = ⊎_elim (λ full. omega (arith, full)) (λ last. omega (arith, last.0)) piece in
      let in_run : IsRunPart meaning o (s ++ p) written left_now =
      λ rest told. front_trans written (shown meaning o s j ++ piece_lines) (run_lines meaning o ((s ++ p) ++ rest)) (front_behind (shown meaning o s j) part.0 piece_lines part.1)
      (piece_in_run meaning o steady s p rest j left_now one fed.size limit piece told)
      in
      runs_by meaning o steady left left_in left_now held held_now s p j written (exit_of_stop stop) one fed.size fits fed.took took
      (part.2 ∙ ap (λ h. appended h part.0) fed.put ∙ appended-appended held (shown meaning o s j) part.0)
      (front_more (shown meaning o s j) (shown meaning o s j) part.0 (front_self (shown meaning o s j)))
      (at_stop meaning o (s ++ p) written left_now stop in_run)

  -- a further piece
  pub fed_next : (next : Session) (held_now : Option (List ℕ)) → length p ≡ o.increment → held_now ≡ appended held_in piece_lines → StandsFor next (s ++ p) → IsFed next → means next ≡ means session
      → IsFedBy meaning o next left left_now held held_now (s ++ p) (suc j)
  fed_next next held_now full put stands is_fed same = record {
    stands = stands;
    fed = is_fed;
    means = same ∙ fed.means;
    took = fed.took ∙ ap (λ l. prepended s l) took ∙ prepended-prepended s p left_now;
    put = put ∙ ap (λ h. appended h piece_lines) fed.put ∙ appended-appended held (shown meaning o s j) piece_lines ∙ ap (λ xs. appended held xs) (sym (shown_next meaning o steady s p j fed.size (omega (arith, full))));
    size = omega (arith, length-append s p, fed.size, full);
  }

  -- the output stopped at the lines of the end
  pub runs_stopped_last : (held_next held_now : Option (List ℕ)) (stop : Stop) → length p < o.increment → IsTakenWhole left_now → length s + length p ≤ o.most
      → held_next ≡ appended held_in piece_lines → IsPartPut held_next held_now (added meaning o (s ++ p) (s ++ p) ended) → Ran held_now (exit_of_stop stop)
  runs_stopped_last held_next held_now stop less over limit put part =
      let before = shown meaning o s j ++ piece_lines in
      let written = before ++ part.0 in
      let in_run : IsRunPart meaning o (s ++ p) written left_now =
      λ rest told. subst (λ xs. IsFront written xs) (sym (end_in_run meaning o steady s p rest j left_now fed.size limit less over told)) (front_behind before part.0 (added meaning o (s ++ p) (s ++ p) ended) part.1)
      in
      runs_by meaning o steady left left_in left_now held held_now s p j written (exit_of_stop stop) one fed.size (omega arith) fed.took took
      (part.2 ∙ ap (λ h. appended h part.0) (put_lines held_next put) ∙ appended-appended held before part.0)
      (front_more (shown meaning o s j) before part.0 (front_more (shown meaning o s j) (shown meaning o s j) piece_lines (front_self (shown meaning o s j))))
      (at_stop meaning o (s ++ p) written left_now stop in_run)
    where
      put_lines : (held_next : Option (List ℕ)) → held_next ≡ appended held_in piece_lines → held_next ≡ appended held (shown meaning o s j ++ piece_lines)
      put_lines held_next put = put ∙ ap (λ h. appended h piece_lines) fed.put ∙ appended-appended held (shown meaning o s j) piece_lines

  -- the end of the input
  pub runs_over : (held_next held_now : Option (List ℕ)) (exit : RunExit) → length p < o.increment → IsTakenWhole left_now → length s + length p ≤ o.most → held_next ≡ appended held_in piece_lines
      → held_now ≡ appended held_next (added meaning o (s ++ p) (s ++ p) ended) → (meaning (s ++ p) ended).stand ≢ Stand.Waiting → exit ≡ exit_of_stand (meaning (s ++ p) ended).stand
      → Ran held_now exit
  runs_over held_next held_now exit less over limit put put_last decided is =
      let before = shown meaning o s j ++ piece_lines in
      let last = added meaning o (s ++ p) (s ++ p) ended in
      let written = before ++ last in
      let is_whole : IsWhole meaning o (s ++ p) written left_now =
      record { lines = sym (whole_last meaning o steady s p j fed.size less); taken_whole = over; not_long = omega (arith, length-append s p) }
      in
      runs_by meaning o steady left left_in left_now held held_now s p j written exit one fed.size (omega arith) fed.took took
      (put_last ∙ ap (λ h. appended h last) (put ∙ ap (λ h. appended h piece_lines) fed.put ∙ appended-appended held (shown meaning o s j) piece_lines) ∙ appended-appended held before last)
      (front_more (shown meaning o s j) before last (front_more (shown meaning o s j) (shown meaning o s j) piece_lines (front_self (shown meaning o s j))))
      (subst (λ e. AtExit meaning o (s ++ p) written left_now e) (sym is) (at_stand (meaning (s ++ p) ended).stand refl is_whole))
    where
      at_stand : (stand : Stand) → (meaning (s ++ p) ended).stand ≡ stand
          → IsWhole meaning o (s ++ p) ((shown meaning o s j ++ piece_lines) ++ added meaning o (s ++ p) (s ++ p) ended) left_now
          → AtExit meaning o (s ++ p) ((shown meaning o s j ++ piece_lines) ++ added meaning o (s ++ p) (s ++ p) ended) left_now (exit_of_stand stand)
      at_stand Stand.Waiting e is_whole = absurd (decided e)
      at_stand Stand.Done e is_whole = (is_whole, e)
      at_stand (Stand.Failed error) e is_whole = (is_whole, (error, e))

-- a run that ends before its first byte
pub runs_at_once : (meaning : UnitMeaning) (o : RunOptions) (left held held_now : Option (List ℕ)) (exit : RunExit) (front : List ℕ) → held_now ≡ appended held front
    → AtExit meaning o [] front left exit → Runs meaning o left left held held_now exit
runs_at_once meaning o left held held_now exit front put at = record {
  taken = [];
  written = front;
  took = sym (prepended-nil left);
  put = put;
  prompt = λ j lt. absurd (omega arith);
  at_exit = at;
}

-- no memory for a session
pub runs_not : (meaning : UnitMeaning) (o : RunOptions) (left held : Option (List ℕ)) → Runs meaning o left left held held RunExit.NoMemory
runs_not meaning o left held = runs_at_once meaning o left held held RunExit.NoMemory [] (sym (appended-nil held)) (λ rest told. (run_lines meaning o rest, refl))

-- the output stopped at the lines of no bytes
pub runs_stopped_first : (meaning : UnitMeaning) (o : RunOptions) → IsSteady meaning → (left held held_now : Option (List ℕ)) (stop : Stop) → 1 ≤ o.increment → IsPartPut held held_now (shown meaning o [] 0)
    → Runs meaning o left left held held_now (exit_of_stop stop)
runs_stopped_first meaning o steady left held held_now stop one part =
    runs_at_once meaning o left held held_now (exit_of_stop stop) part.0 part.2
    (at_stop meaning o [] part.0 left stop (λ rest told. front_trans part.0 (shown meaning o [] 0) (run_lines meaning o rest) part.1 (shown_in_run meaning o steady [] rest 0 one (omega arith) (omega arith))))

-- a session that was only started has told nothing
pub told_first : (meaning : UnitMeaning) (session : Session) (o : RunOptions) (before after : Option (List ℕ)) → IsFresh session → means session ≡ meaning
    → IsPartPut before after (event_lines o.trace (drop (length (told_by session [])) (means session [] held_open).events))
    → IsPartPut before after (shown meaning o [] 0)
told_first meaning session o before after fresh same part =
    subst (λ ls. IsPartPut before after ls) (sym (shown_first meaning o))
    (subst (λ (m : UnitMeaning). IsPartPut before after (event_lines o.trace (m [] held_open).events)) same
    (subst (λ (told : List Event). IsPartPut before after (event_lines o.trace (drop (length told) (means session [] held_open).events))) (ap (λ phase. told_in phase (means session) []) fresh) part))

-- and the lines of no bytes were put
pub put_first : (meaning : UnitMeaning) (session : Session) (o : RunOptions) (before after : Option (List ℕ)) → IsFresh session → means session ≡ meaning
    → after ≡ appended before (event_lines o.trace (drop (length (told_by session [])) (means session [] held_open).events))
    → after ≡ appended before (shown meaning o [] 0)
put_first meaning session o before after fresh same put =
    subst (λ ls. after ≡ appended before ls) (sym (shown_first meaning o))
    (subst (λ (m : UnitMeaning). after ≡ appended before (event_lines o.trace (m [] held_open).events)) same
    (subst (λ (told : List Event). after ≡ appended before (event_lines o.trace (drop (length told) (means session [] held_open).events))) (ap (λ phase. told_in phase (means session) []) fresh) put))
