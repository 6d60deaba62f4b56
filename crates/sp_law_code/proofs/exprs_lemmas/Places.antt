-- A method that changes its receiver, and the forms of places.
use Rattle.std.proofs.Common.{◌≡◌, ℕ, ◌+◌, Bool, true, false, List, [], ◌∷◌, ◌++◌, length, take, drop, Option, Some, None, Result as Answer, Ok, Err, refl, sym, ap, ◌∙◌, subst, arith, append_assoc, append-nil, length-append}
use Rattle.std.proofs.Math.Seq.{take-append_seam, drop-append_seam}
use Rattle.std.specs.Prelude.{◌&&◌, unwrap_or}
use Rattle.sp_base.specs.declared.kinds.PKind.{PKind}
use Rattle.sp_words.specs.declared.methods.Method.{Method}
use Rattle.sp_words.specs.declared.methods.Method.TheVariants.{PushBack, PopBack}
use Rattle.sp_words.specs.Methods.{changes}
use Rattle.sp_value.specs.Val.{Val, void, unit}
use Rattle.sp_value.specs.Changes.{with_last}
use Rattle.sp_methods.specs.Kinds.{Kind}
use Rattle.sp_methods.specs.Methods.{method, in_two}
use Rattle.sp_methods.specs.Taken.{popped}
use Rattle.sp_meaning_states.specs.States.{Reading, State, Gives, Fine, Result, ends, got, done, answer, local_of, set_local, member_of, value_or_unset, put_member}
use Rattle.sp_meaning_states.specs.Reads.{Ask, Read}
use Rattle.sp_meaning_states.specs.Values.{item_at, with_at}
use Rattle.sp_meaning.specs.Operations.{Changes, known, taken, keep_owner, owner_means}
use Rattle.sp_code_meaning.specs.Exprs.{gives_result}
use Rattle.sp_code.specs.declared.instr.Instr.{Instr}
use Rattle.sp_code.specs.declared.instr.Instr.TheVariants as does
use Rattle.sp_code.specs.Machine.{Frame, Plain, At, Goes, put_all, under, act, step}
use Rattle.sp_code.specs.Shapes.{Shape, push}
use Rattle.sp_code.specs.Runs.{Ways, leads, Comes, here, Runs}
use Rattle.sp_code_programs.specs.exprs.Marked.{Marked, mark, constant, HasAt}
use Rattle.sp_code_programs.specs.exprs.Code.{keep_code, owner_code, result_code, under_code}
use Rattle.sp_law_code.proofs.exprs_lemmas.Steps.{Does, one, after_one, act_at, has_instr, does_to, then_got, then_done, gives, answers, sets, gives_constant}
use Rattle.sp_law_code.proofs.exprs_lemmas.Forms.{moved}

nothing_waits : (ws : List Val) → length ws ≡ 0 → ws ≡ []
nothing_waits [] h = refl
nothing_waits (w ∷ ws) h = absurd (omega (arith, h))

-- a result that goes under what waits stands on what was there before
goes_under : (n : ℕ) (y r : Val) (ws vs : List Val) → length ws ≡ n → under n (y ∷ r ∷ (ws ++ vs)) ≡ y ∷ ((ws ++ r ∷ []) ++ vs)
goes_under n y r ws vs len =
    ap (λ k. y ∷ (take k (ws ++ vs) ++ r ∷ drop k (ws ++ vs))) (sym len) ∙ ap (λ l. y ∷ (l ++ r ∷ drop (length ws) (ws ++ vs))) (take-append_seam ws vs)
    ∙ ap (λ l. y ∷ (ws ++ r ∷ l)) (drop-append_seam ws vs) ∙ ap (λ l. y ∷ l) (sym (append_assoc ws (r ∷ []) vs))

module _ (p : Plain) (reads : Reading → Ask → Read) where
  -- an instruction that changes the operands, and what is behind it
  pub then_step : (pc : ℕ) (s : Shape) (i : Instr) (b : List Marked) (us ws : List Val) (means : State → Result)
      → ((vs : List Val) (fs : List Frame) (st : State) → act p reads (Some i) pc (us ++ vs) fs st ≡ Goes [] (At (pc + 1) (ws ++ vs) fs st)) → Does p reads (pc + 1) b ws means → Does p reads pc (mark s i ∷ b) us means
  then_step pc s i b us ws means e h vs x st has =
      let n : pc + 1 + length b ≡ pc + length (mark s i ∷ b) = omega arith in
      after_one p reads _ (At (pc + 1) (ws ++ vs) x.frames st) (leads (pc + length (mark s i ∷ b)) vs x) (means st)
      (act_at p reads pc (us ++ vs) x.frames st i (has_instr p reads pc s i b has) ∙ e vs x.frames st)
      (subst (λ n. Runs p reads (At (pc + 1) (ws ++ vs) x.frames st) (leads n vs x) (means st)) n (h vs x st has.3))

  -- what a method makes of its receiver is put back, and its result, if it has one, stays
  push_back_does : (q : ℕ) (s t : Shape) (store : List Marked) (us ws : List Val) (put : Val → State → Result) → ((y : Val) → Does p reads (q + 1) store (y ∷ ws) (put y))
      → Does p reads q (mark t (does.Lib PushBack) ∷ (store ++ constant s void ∷ [])) (us ++ ws) (λ st. taken put (method PushBack us) st)
  push_back_does q s t store [] ws put h = λ vs x st has. tt
  push_back_does q s t store (v ∷ []) ws put h = λ vs x st has. tt
  push_back_does q s t store (v ∷ r ∷ []) ws put h =
      let y = with_last r v in
      then_step q t (does.Lib PushBack) (store ++ constant s void ∷ []) (v ∷ r ∷ ws) (y ∷ ws) (λ st. done (ends (Gives void)) (put y st)) (λ _ _ _. refl)
      (subst (λ l. Does p reads (q + 1) (store ++ constant s void ∷ []) l (λ st. done (ends (Gives void)) (put y st))) (append-nil (y ∷ ws))
      (then_done p reads (q + 1) store (constant s void ∷ []) (y ∷ ws) [] (put y) (ends (Gives void)) (h y) (gives_constant p reads (q + 1 + length store) s void)))
  push_back_does q s t store (v ∷ r ∷ u ∷ us) ws put h = λ vs x st has. tt

  -- a result that was there is given
  result_does : (pc : ℕ) (r : Val) → Does p reads pc [] (r ∷ []) (λ st. ends (Gives r) st)
  result_does pc r vs x st has = let e : pc ≡ pc + 0 = omega arith in subst (λ n. Comes p reads (At pc (r ∷ vs) x.frames st) [] (At n (r ∷ vs) x.frames st)) e here

  -- a result goes under what waits for the store, if anything does
  under_does : (item : Bool) (q n : ℕ) (t : Shape) (store : List Marked) (ws : List Val) (y r : Val) (means : State → Result) → length ws ≡ n → (item ≡ false → n ≡ 0)
      → Does p reads (q + length (under_code item n t)) store (y ∷ ws) means → Does p reads q ((under_code item n t ++ store) ++ []) (y ∷ r ∷ ws) (λ st. done (ends (Gives r)) (means st))
  under_does false q n t store ws y r means len e h =
      let none = nothing_waits ws (len ∙ e refl) in
      subst (λ l. Does p reads q (store ++ []) (y ∷ r ∷ l) (λ st. done (ends (Gives r)) (means st))) (sym none)
      (then_done p reads q store [] (y ∷ []) (r ∷ []) means (ends (Gives r)) (subst (λ l. Does p reads q store (y ∷ l) means) none (moved p reads (q + 0) q store (y ∷ ws) means (omega arith) h)) (result_does (q + length store) r))
  under_does true q n t store ws y r means len e h =
      then_step q t (does.Under n) (store ++ []) (y ∷ r ∷ ws) (y ∷ (ws ++ r ∷ [])) (λ st. done (ends (Gives r)) (means st)) (λ vs fs st. ap (λ l. Goes [] (At (q + 1) l fs st)) (goes_under n y r ws vs len))
      (then_done p reads (q + 1) store [] (y ∷ ws) (r ∷ []) means (ends (Gives r)) h (result_does (q + 1 + length store) r))

  popped_runs : (q : ℕ) (rest : List Marked) (v : Val) (ws : List Val) (put : Val → State → Result) (vs : List Val) (x : Ways) (st : State) (r : Answer (Val × Val) PKind)
      → ((y r : Val) → Does p reads (q + 1) rest (y ∷ r ∷ ws) (λ st. done (ends (Gives r)) (put y st))) → HasAt p (q + 1) rest
      → step p reads (At q (v ∷ (ws ++ vs)) x.frames st) ≡ put_all (in_two r) (q + 1) (ws ++ vs) x.frames st
      → Runs p reads (At q (v ∷ (ws ++ vs)) x.frames st) (leads (q + 1 + length rest) vs x) (taken put (in_two r) st)
  popped_runs q rest v ws put vs x st (Ok both) h has e =
      after_one p reads _ (At (q + 1) (both.0 ∷ both.1 ∷ (ws ++ vs)) x.frames st) (leads (q + 1 + length rest) vs x) (done (ends (Gives both.1)) (put both.0 st)) e (h both.0 both.1 vs x st has)
  popped_runs q rest v ws put vs x st (Err kind) h has e = one p reads _ [] _ e

  pop_back_does : (q : ℕ) (t : Shape) (rest : List Marked) (us ws : List Val) (put : Val → State → Result) → ((y r : Val) → Does p reads (q + 1) rest (y ∷ r ∷ ws) (λ st. done (ends (Gives r)) (put y st)))
      → Does p reads q (mark t (does.Lib PopBack) ∷ rest) (us ++ ws) (λ st. taken put (method PopBack us) st)
  pop_back_does q t rest [] ws put h = λ vs x st has. tt
  pop_back_does q t rest (v ∷ []) ws put h = λ vs x st has.
      let n : q + 1 + length rest ≡ q + length (mark t (does.Lib PopBack) ∷ rest) = omega arith in
      does_to p reads q _ _ (v ∷ ws) vs x st (taken put (in_two (popped v)) st) n
      (popped_runs q rest v ws put vs x st (popped v) h has.3 (act_at p reads q (v ∷ (ws ++ vs)) x.frames st (does.Lib PopBack) (has_instr p reads q t (does.Lib PopBack) rest has)))
  pop_back_does q t rest (v ∷ r ∷ us) ws put h = λ vs x st has. tt

  pub change_does : (m : Method) → changes m ≡ true → (item : Bool) (q n : ℕ) (s t u : Shape) (store : List Marked) (us ws : List Val) (put : Val → State → Result) → length ws ≡ n → (item ≡ false → n ≡ 0)
      → ((y : Val) → Does p reads (q + 1 + length (under_code (gives_result m && item) n u)) store (y ∷ ws) (put y))
      → Does p reads q (mark t (does.Lib m) ∷ ((under_code (gives_result m && item) n u ++ store) ++ result_code m s)) (us ++ ws) (λ st. taken put (method m us) st)
  change_does PushBack c item q n s t u store us ws put len e h = push_back_does q s t store us ws put (λ y. moved p reads (q + 1 + 0) (q + 1) store (y ∷ ws) (put y) (omega arith) (h y))
  change_does PopBack c item q n s t u store us ws put len e h =
      pop_back_does q t ((under_code item n u ++ store) ++ []) us ws put (λ y r. under_does item (q + 1) n u store ws y r (put y) len e (h y))
  change_does _ c item q n s t u store us ws put len e h = absurd (let q : false ≡ true = c in cc)

  -- the owner of a member is kept, or it isn't, and is had again
  pub keep_does : (owner : Option ℕ) (s : Shape) (k : Kind) (pc : ℕ) (ms rest : List Marked) (ma go : State → Result) → Does p reads pc ms [] ma → Does p reads (pc + length (keep_code owner s k ms)) rest [] go
      → Does p reads pc (keep_code owner s k ms ++ rest) [] (λ st. keep_owner owner ma go st)
  keep_does (Some l) s k pc ms rest ma go h g =
      let e : pc + length (ms ++ mark (push k s) (does.Store l) ∷ []) ≡ pc + length ms + 1 = omega (arith, length-append {A = Marked}) in
      subst (λ c. Does p reads pc c [] (λ st. keep_owner (Some l) ma go st)) (sym (append_assoc ms (mark (push k s) (does.Store l) ∷ []) rest))
      (then_got p reads pc ms (mark (push k s) (does.Store l) ∷ rest) [] [] ma (λ u st. go (set_local l u st)) h
      (λ u. stored (pc + length ms) (push k s) l rest u go (moved p reads (pc + length (ms ++ mark (push k s) (does.Store l) ∷ [])) (pc + length ms + 1) rest [] go e g)))
    where
      stored : (q : ℕ) (t : Shape) (l : ℕ) (rest : List Marked) (u : Val) (go : State → Result) → Does p reads (q + 1) rest [] go → Does p reads q (mark t (does.Store l) ∷ rest) (u ∷ []) (λ st. go (set_local l u st))
      stored q t l rest u go g vs x st has =
          let n : q + 1 + length rest ≡ q + length (mark t (does.Store l) ∷ rest) = omega arith in
          after_one p reads _ (At (q + 1) vs x.frames (set_local l u st)) (leads (q + length (mark t (does.Store l) ∷ rest)) vs x) (go (set_local l u st))
          (act_at p reads q (u ∷ vs) x.frames st (does.Store l) (has_instr p reads q t (does.Store l) rest has))
          (subst (λ n. Runs p reads (At (q + 1) vs x.frames (set_local l u st)) (leads n vs x) (go (set_local l u st))) n (g vs x (set_local l u st) has.3))
  keep_does None s k pc ms rest ma go h g = moved p reads (pc + 0) pc rest [] go (omega arith) g

  pub owner_does : (owner : Option ℕ) (s : Shape) (pc : ℕ) (ms : List Marked) (ma : State → Result) → Does p reads pc ms [] ma → Does p reads pc (owner_code owner s ms) [] (owner_means owner ma)
  owner_does (Some l) s pc ms ma h = gives p reads pc s (does.Load l) [] (λ st. local_of st l) (λ _ _ _. refl)
  owner_does None s pc ms ma h = h

  pub puts_member : (pc : ℕ) (s : Shape) (m : ℕ) (u v : Val) → Does p reads pc (mark s (does.SetField m) ∷ []) (u ∷ v ∷ []) (put_member u m v)
  puts_member pc s m (unit n) v vs x st has = one p reads _ [] _ (act_at p reads pc (unit n ∷ v ∷ vs) x.frames st (does.SetField m) (has_instr p reads pc s (does.SetField m) [] has))
  puts_member pc s m u v vs x st has = one p reads _ [] _ (act_at p reads pc (u ∷ v ∷ vs) x.frames st (does.SetField m) (has_instr p reads pc s (does.SetField m) [] has))

  -- What puts a value in a place, over these operands; and what is done with the value of a place, which stands on so many operands that
  -- wait below it.
  abbrev pub Stores : (Shape → ℕ → List Marked) → List Val → (Val → State → Result) → Type 0
  Stores store ws put = (s : Shape) (at : ℕ) (y : Val) → Does p reads at (store s at) (y ∷ ws) (put y)

  abbrev pub GoesOn : ℕ → List Marked → ℕ → (Shape → ℕ → List Marked) → Changes → Type 0
  GoesOn pc rest n store go = (v : Val) (ws : List Val) (put : Val → State → Result) → length ws ≡ n → Stores store ws put → Does p reads pc rest (v ∷ ws) (go v put)

  pub local_place : (o : Option ℕ) (pc first : ℕ) (s : Shape) (t : Shape → Shape) (rest : List Marked) (go : Changes) → GoesOn (pc + 1) rest 0 (λ s at. mark (t s) (does.Store (first + unwrap_or o 0)) ∷ []) go
      → Does p reads pc (mark s (does.Load (first + unwrap_or o 0)) ∷ rest) [] (λ st. known o (λ l st. go (local_of st (first + l)) (λ v st. ends Fine (set_local (first + l) v st)) st) st)
  local_place None pc first s t rest go h = λ vs x st has. tt
  local_place (Some l) pc first s t rest go h = λ vs x st has.
      let n : pc + 1 + length rest ≡ pc + length (mark s (does.Load (first + l)) ∷ rest) = omega arith in
      let put : Val → State → Result = λ v st. ends Fine (set_local (first + l) v st) in
      after_one p reads _ (At (pc + 1) (local_of st (first + l) ∷ vs) x.frames st) (leads (pc + length (mark s (does.Load (first + l)) ∷ rest)) vs x) (go (local_of st (first + l)) put st)
      (act_at p reads pc vs x.frames st (does.Load (first + l)) (has_instr p reads pc s (does.Load (first + l)) rest has))
      (subst (λ n. Runs p reads (At (pc + 1) (local_of st (first + l) ∷ vs) x.frames st) (leads n vs x) (go (local_of st (first + l)) put st)) n
      (h (local_of st (first + l)) [] put refl (λ s at y vs x st has. one p reads _ [] _ (act_at p reads at (y ∷ vs) x.frames st (does.Store (first + l)) (has_instr p reads at (t s) (does.Store (first + l)) [] has))) vs x st has.3))

  -- a member of what an owner gives
  pub member_place : (o owner : Option ℕ) (pc at : ℕ) (s : Shape) (k : Kind) (t : Shape → Shape) (a : Shape → ℕ → List Marked) (ma : State → Result) (rest : List Marked) (go : Changes)
      → at ≡ pc + length (keep_code owner s k (a s pc)) → ((s : Shape) (at : ℕ) → Does p reads at (a s at) [] ma)
      → GoesOn (pc + length (keep_code owner s k (a s pc) ++ (owner_code owner s (a s at) ++ mark (push k s) (does.GetField (unwrap_or o 0)) ∷ []))) rest 0
      (λ s at. owner_code owner (t s) (a (t s) at) ++ mark (push k (t s)) (does.SetField (unwrap_or o 0)) ∷ []) go
      → Does p reads pc ((keep_code owner s k (a s pc) ++ (owner_code owner s (a s at) ++ mark (push k s) (does.GetField (unwrap_or o 0)) ∷ [])) ++ rest) []
      (λ st. known o (λ m st. keep_owner owner ma (λ st. got (λ u st. got (λ x st. go x (λ v st. got (λ u st. put_member u m v st) (owner_means owner ma st)) st)
      (value_or_unset (member_of st u m) st)) (owner_means owner ma st)) st) st)
  member_place None owner pc at s k t a ma rest go e ha h = λ vs x st has. tt
  member_place (Some m) owner pc at s k t a ma rest go e ha h =
      let keep = keep_code owner s k (a s pc) in
      let own = owner_code owner s (a s at) in
      let get = mark (push k s) (does.GetField m) ∷ [] in
      let put : Val → State → Result = λ v st. got (λ u st. put_member u m v st) (owner_means owner ma st) in
      let with_owner : Val → State → Result = λ u st. got (λ x st. go x put st) (value_or_unset (member_of st u m) st) in
      subst (λ c. Does p reads pc c [] (λ st. keep_owner owner ma (λ st. got with_owner (owner_means owner ma st)) st)) (sym (append_assoc keep (own ++ get) rest))
      (keep_does owner s k pc (a s pc) ((own ++ get) ++ rest) ma (λ st. got with_owner (owner_means owner ma st)) (ha s pc)
      (subst (λ c. Does p reads (pc + length keep) c [] (λ st. got with_owner (owner_means owner ma st))) (sym (append_assoc own get rest))
      (then_got p reads (pc + length keep) own (get ++ rest) [] [] (owner_means owner ma) with_owner
      (owner_does owner s (pc + length keep) (a s at) ma (moved p reads at (pc + length keep) (a s at) [] ma e (ha s at)))
      (λ u. then_got p reads (pc + length keep + length own) get rest (u ∷ []) [] (λ st. value_or_unset (member_of st u m) st) (λ x st. go x put st)
      (sets p reads (pc + length keep + length own) (push k s) (does.GetField m) (u ∷ []) (λ st. member_of st u m) (λ _ _ _. refl))
      (λ v. moved p reads (pc + length (keep ++ (own ++ get))) (pc + length keep + length own + length get) rest (v ∷ []) (go v put) (omega (arith, length-append {A = Marked}))
      (h v [] put refl
      (λ s at y. then_got p reads at (owner_code owner (t s) (a (t s) at)) (mark (push k (t s)) (does.SetField m) ∷ []) [] (y ∷ []) (owner_means owner ma) (λ u st. put_member u m y st)
      (owner_does owner (t s) at (a (t s) at) ma (ha (t s) at)) (λ u. puts_member (at + length (owner_code owner (t s) (a (t s) at))) (push k (t s)) m u y))))))))

  -- an item of a place
  pub item_place : (pc : ℕ) (s : Shape) (d i : Shape) (t : Shape → Shape) (load b rest : List Marked) (n : ℕ) (store : Shape → ℕ → List Marked) (place : Changes → State → Result) (mb : State → Result) (go : Changes)
      → ((rest : List Marked) (go : Changes) → GoesOn (pc + length load) rest n store go → Does p reads pc (load ++ rest) [] (place go)) → Does p reads (pc + length load) b [] mb
      → GoesOn (pc + length (load ++ (b ++ mark d does.Dup ∷ mark i does.Index ∷ []))) rest (n + 2) (λ s at. mark (t s) does.SetIndex ∷ store s (at + 1)) go
      → Does p reads pc ((load ++ (b ++ mark d does.Dup ∷ mark i does.Index ∷ [])) ++ rest) []
      (place (λ c put st. got (λ k st. got (λ x st. go x (λ y st. got put (answer (with_at c k y) st)) st) (answer (item_at c k) st)) (mb st)))
  item_place pc s d i t load b rest n store place mb go ha hb h =
      let two = mark d does.Dup ∷ mark i does.Index ∷ [] in
      let q = pc + length load in
      let at = q + length b in
      let goes : Changes = λ c put st. got (λ k st. got (λ x st. go x (λ y st. got put (answer (with_at c k y) st)) st) (answer (item_at c k) st)) (mb st) in
      subst (λ ms. Does p reads pc ms [] (place goes)) (sym (append_assoc load (b ++ two) rest))
      (ha ((b ++ two) ++ rest) goes (λ c ws put below stores.
      let with_key : Val → State → Result = λ k st. got (λ x st. go x (λ y st. got put (answer (with_at c k y) st)) st) (answer (item_at c k) st) in
      subst (λ ms. Does p reads q ms (c ∷ ws) (λ st. got with_key (mb st))) (sym (append_assoc b two rest))
      (then_got p reads q b (two ++ rest) [] (c ∷ ws) mb with_key hb (λ k.
      let put_item : Val → State → Result = λ y st. got put (answer (with_at c k y) st) in
      then_step at d does.Dup (mark i does.Index ∷ rest) (k ∷ c ∷ ws) (k ∷ c ∷ k ∷ c ∷ ws) (with_key k) (λ _ _ _. refl)
      (then_got p reads (at + 1) (mark i does.Index ∷ []) rest (k ∷ c ∷ []) (k ∷ c ∷ ws) (answer (item_at c k)) (λ x st. go x put_item st)
      (answers p reads (at + 1) i does.Index (k ∷ c ∷ []) (item_at c k) (λ _ _ _. refl))
      (λ x. moved p reads (pc + length (load ++ (b ++ two))) (at + 1 + 1) rest (x ∷ k ∷ c ∷ ws) (go x put_item) (omega (arith, length-append {A = Marked}))
      (h x (k ∷ c ∷ ws) put_item (omega (arith, below))
      (λ s at y. then_got p reads at (mark (t s) does.SetIndex ∷ []) (store s (at + 1)) (y ∷ k ∷ c ∷ []) ws (answer (with_at c k y)) put
      (answers p reads at (t s) does.SetIndex (y ∷ k ∷ c ∷ []) (with_at c k y) (λ _ _ _. refl)) (λ z. stores s (at + 1) z)))))))))
