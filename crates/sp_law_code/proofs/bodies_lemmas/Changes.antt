-- The code of statements without a way out does what they mean: assignments, keys that come and go, and what is done with a value.
use Rattle.std.proofs.Common.{◌≡◌, ℕ, ◌+◌, Bool, true, false, List, [], ◌∷◌, ◌++◌, length, take, drop, reverse, Option, Some, None, refl, sym, ap, ◌∙◌, subst, arith, append_assoc, append-nil, length-append}
use Rattle.std.specs.Prelude.{slice_get, unwrap_or, if◌then◌else◌}
use Rattle.sp_base.specs.declared.kinds.PKind.TheVariants as error_is
use Rattle.sp_words.specs.declared.operators.BinaryOp.{BinaryOp}
use Rattle.sp_words.specs.declared.operators.BinaryOp.TheVariants as op_is
use Rattle.sp_words.specs.declared.operators.AssignOp.{AssignOp}
use Rattle.sp_words.specs.declared.operators.AssignOp.TheVariants as assign_is
use Rattle.sp_events.specs.declared.event.What.{What}
use Rattle.sp_value.specs.Val.{Val, void}
use Rattle.sp_value.specs.Parts.{text_in}
use Rattle.sp_value.specs.Changes.{with_member, without_key}
use Rattle.sp_operators.specs.Operators.{binary}
use Rattle.sp_methods.specs.Kinds.{Kind, Bools}
use Rattle.sp_typed.specs.declared.stmt_words.BareOp.{BareOp}
use Rattle.sp_typed.specs.declared.stmt_words.BareOp.TheVariants as bare_is
use Rattle.sp_typed.specs.declared.stmt_words.ValuedOp.{ValuedOp}
use Rattle.sp_typed.specs.declared.stmt_words.ValuedOp.TheVariants as valued_is
use Rattle.sp_typed.specs.Exprs.{Expr, Exprs, leaf, one, two, three, many, none, more}
use Rattle.sp_meaning_states.specs.States.{Reading, State, Gives, Fine, Failed, Returned, Result, Ends, ends, got, chosen, truth_of, answer, set_local, put_member, error_with}
use Rattle.sp_meaning_states.specs.Reads.{Ask, Read}
use Rattle.sp_meaning_states.specs.Values.{with_at}
use Rattle.sp_meaning_states.specs.Types.{zero_value, kind_of_type}
use Rattle.sp_meaning_states.specs.Telling.{value_trees}
use Rattle.sp_meaning.specs.Globals.{Globals}
use Rattle.sp_code_meaning.specs.Layouts.{Layout}
use Rattle.sp_meaning.specs.Operations.{known, member_named, is_item, local_named, keep_owner, owner_means, fails_with}
use Rattle.sp_code_meaning.specs.Exprs.{slot_local, expr_means, all_got, place_means}
use Rattle.sp_code_meaning.specs.Places.{put_means, key_means}
use Rattle.sp_code_meaning.specs.Stmts.{printed, bare_means, valued_means, assign_means}
use Rattle.sp_code.specs.declared.instr.Instr.{Instr}
use Rattle.sp_code.specs.declared.instr.Instr.TheVariants as does
use Rattle.sp_code.specs.Machine.{Frame, Plain, Config, At, Ending, Goes, raise_with, act, step}
use Rattle.sp_code.specs.Shapes.{Shape, with_operands, push}
use Rattle.sp_code.specs.Runs.{leads, Runs}
use Rattle.sp_code_programs.specs.exprs.Marked.{Marked, mark, constant, HasAt}
use Rattle.sp_code_programs.specs.exprs.Sizes.{keep_size, expr_size, exprs_size, load_size}
use Rattle.sp_code_programs.specs.exprs.Code.{count, kind_of, kinds_on, pending, keep_code, owner_code, expr_code, exprs_code, load_code, store_code, put_code, update_code, key_code}
use Rattle.sp_code_programs.specs.units.Code.{message, message_kind, bare_code, valued_code, assign_code}
use Rattle.sp_law_code.specs.exprs.Parts.{AreCounted, AllAreCounted}
use Rattle.sp_law_code.specs.exprs.Laws.{CallsRun}
use Rattle.sp_law_code.proofs.exprs_lemmas.Sizes.{keep_sized, expr_sized, exprs_sized, load_sized}
use Rattle.sp_law_code.proofs.exprs_lemmas.Steps.{Does, one as one_step, act_at, has_instr, then_got, answers}
use Rattle.sp_law_code.proofs.exprs_lemmas.Forms.{moved, then_constant}
use Rattle.sp_law_code.proofs.exprs_lemmas.Lists.{take_all, drop_all}
use Rattle.sp_law_code.proofs.exprs_lemmas.Places.{then_step, keep_does, owner_does, puts_member}
use Rattle.sp_law_code.proofs.exprs_lemmas.Exprs.{only_items, expr_does, all_does, place_does}

module _ (p : Plain) (reads : Reading → Ask → Read) where
  -- one instruction, which leads behind it in a state that follows from the one before it, or ends the part
  goes_on : (pc : ℕ) (s : Shape) (i : Instr) (ws : List Val) (f : State → State) → ((vs : List Val) (fs : List Frame) (st : State) → act p reads (Some i) pc (ws ++ vs) fs st ≡ Goes [] (At (pc + 1) vs fs (f st)))
      → Does p reads pc (mark s i ∷ []) ws (λ st. ends Fine (f st))
  goes_on pc s i ws f h vs x st has = one_step p reads _ [] _ (act_at p reads pc (ws ++ vs) x.frames st i (has_instr p reads pc s i [] has) ∙ h vs x.frames st)

  pub returns_does : (pc : ℕ) (s : Shape) (v : Val) → Does p reads pc (mark s does.Return ∷ []) (v ∷ []) (λ st. ends (Returned v) st)
  returns_does pc s v vs x st has = one_step p reads _ [] _ (act_at p reads pc (v ∷ vs) x.frames st does.Return (has_instr p reads pc s does.Return [] has))

  throws : (pc : ℕ) (s : Shape) (v : Val) → Does p reads pc (mark s does.Throw ∷ []) (v ∷ []) (fails_with error_is.Throw (text_in v))
  throws pc s v vs x st has = one_step p reads _ [] _ (act_at p reads pc (v ∷ vs) x.frames st does.Throw (has_instr p reads pc s does.Throw [] has))

  asserts : (pc : ℕ) (s : Shape) (text : Option (List ℕ)) (v : Val) → Does p reads pc (mark s does.Assert ∷ []) (message text ∷ v ∷ []) (λ st. chosen (truth_of v) (ends Fine) (fails_with error_is.Assert text) st)
  asserts pc s text v vs x st has = cases (truth_of v) (act_at p reads pc (message text ∷ v ∷ vs) x.frames st does.Assert (has_instr p reads pc s does.Assert [] has) ∙ ap (λ o. if truth_of v then Goes [] (At (pc + 1) vs x.frames st) else raise_with error_is.Assert o x.frames st) (told text))
    where
      told : (text : Option (List ℕ)) → text_in (message text) ≡ text
      told (Some _) = refl
      told None = refl

      cases : (b : Bool) → step p reads (At pc (message text ∷ v ∷ vs) x.frames st) ≡ (if b then Goes [] (At (pc + 1) vs x.frames st) else raise_with error_is.Assert text x.frames st)
          → Runs p reads (At pc (message text ∷ v ∷ vs) x.frames st) (leads (pc + 1) vs x) (chosen b (ends Fine) (fails_with error_is.Assert text) st)
      cases true e = one_step p reads _ [] _ e
      cases false e = one_step p reads _ [] _ e

  prints : (pc : ℕ) (s : Shape) (n : ℕ) (us : List Val) → length us ≡ n → Does p reads pc (mark s (does.Print n) ∷ []) us (printed p.names us)
  prints pc s n us l vs x st has =
      one_step p reads (At pc (us ++ vs) x.frames st) (What.Print (value_trees p.names st.instances (reverse us)) ∷ []) (At (pc + 1) vs x.frames st)
      (act_at p reads pc (us ++ vs) x.frames st (does.Print n) (has_instr p reads pc s (does.Print n) [] has)
      ∙ ap (λ ws. Goes (What.Print (value_trees p.names st.instances (reverse ws)) ∷ []) (At (pc + 1) (drop n (us ++ vs)) x.frames st)) (take_all us vs n l)
      ∙ ap (λ ws. Goes (What.Print (value_trees p.names st.instances (reverse us)) ∷ []) (At (pc + 1) ws x.frames st)) (drop_all us vs n l))

  -- a local that begins anew
  pub local_does : (pc l : ℕ) (s t : Shape) (v : Val) → Does p reads pc (constant s v ∷ mark t (does.Store l) ∷ []) [] (λ st. ends Fine (set_local l v st))
  local_does pc l s t v = then_constant p reads pc s v (mark t (does.Store l) ∷ []) [] (λ st. ends Fine (set_local l v st)) (goes_on (pc + 1) t (does.Store l) (v ∷ []) (λ st. set_local l v st) (λ _ _ _. refl))

  -- a value that is known is returned
  pub returned_does : (pc : ℕ) (s t : Shape) (v : Val) → Does p reads pc (constant s v ∷ mark t does.Return ∷ []) [] (λ st. ends (Returned v) st)
  returned_does pc s t v = then_constant p reads pc s v (mark t does.Return ∷ []) [] (λ st. ends (Returned v) st) (returns_does (pc + 1) t v)

  -- a local that is found, in which a value is put
  puts_local : (o : Option ℕ) (pc first : ℕ) (s : Shape) (ms : List Marked) (me : State → Result) → Does p reads pc ms [] me
      → Does p reads pc (ms ++ mark s (does.Store (first + unwrap_or o 0)) ∷ []) [] (λ st. known o (λ l st. got (λ v st. ends Fine (set_local (first + l) v st)) (me st)) st)
  puts_local None pc first s ms me h = λ vs x st has. tt
  puts_local (Some l) pc first s ms me h =
      then_got p reads pc ms (mark s (does.Store (first + l)) ∷ []) [] [] me (λ v st. ends Fine (set_local (first + l) v st)) h
      (λ v. goes_on (pc + length ms) s (does.Store (first + l)) (v ∷ []) (λ st. set_local (first + l) v st) (λ _ _ _. refl))

  -- a member of what an owner gives, in which a value is put
  puts_in_member : (o owner : Option ℕ) (pc at at_owner : ℕ) (s t : Shape) (k : Kind) (a : Shape → ℕ → List Marked) (e : List Marked) (ma me : State → Result)
      → at ≡ pc + length (keep_code owner s k (a s pc)) → at_owner ≡ at + length e → ((s : Shape) (at : ℕ) → Does p reads at (a s at) [] ma) → Does p reads at e [] me
      → Does p reads pc (keep_code owner s k (a s pc) ++ (e ++ (owner_code owner t (a t at_owner) ++ mark (push k t) (does.SetField (unwrap_or o 0)) ∷ []))) []
      (λ st. known o (λ m st. keep_owner owner ma (λ st. got (λ v st. got (λ u st. put_member u m v st) (owner_means owner ma st)) (me st)) st) st)
  puts_in_member None owner pc at at_owner s t k a e ma me n1 n2 ha he = λ vs x st has. tt
  puts_in_member (Some m) owner pc at at_owner s t k a e ma me n1 n2 ha he =
      let keep = keep_code owner s k (a s pc) in
      let own = owner_code owner t (a t at_owner) in
      let set = mark (push k t) (does.SetField m) ∷ [] in
      let with_value : Val → State → Result = λ v st. got (λ u st. put_member u m v st) (owner_means owner ma st) in
      keep_does p reads owner s k pc (a s pc) (e ++ (own ++ set)) ma (λ st. got with_value (me st)) (ha s pc)
      (then_got p reads (pc + length keep) e (own ++ set) [] [] me with_value (moved p reads at (pc + length keep) e [] me n1 he)
      (λ v. then_got p reads (pc + length keep + length e) own set [] (v ∷ []) (owner_means owner ma) (λ u st. put_member u m v st)
      (owner_does p reads owner t (pc + length keep + length e) (a t at_owner) ma (moved p reads at_owner (pc + length keep + length e) (a t at_owner) [] ma (omega (arith, n1, n2)) (ha t at_owner)))
      (λ u. puts_member p reads (pc + length keep + length e + length own) (push k t) m u v)))

  module _ (globals : Globals) (layout : Layout) (call : ℕ → List Val → State → Result) (calls : CallsRun p reads call) where
    -- `t = e`, by code of this size that gives a value wherever it stands
    put_does : (owner : Option ℕ) (s : Shape) (pc : ℕ) (target : Expr) (k : Kind) (n : ℕ) (e : Shape → ℕ → List Marked) (me : State → Result) → AreCounted p target
        → ((t : Shape) (at : ℕ) → length (e t at) ≡ n) → ((t : Shape) (at : ℕ) → Does p reads at (e t at) [] me)
        → Does p reads pc (put_code globals layout owner s pc target k n e) [] (put_means globals call layout owner target me)
    put_does owner s pc (leaf h) k n e me t size he = puts_local (local_named h.op) pc layout.first (push k s) (e s pc) me (he s pc)
    put_does owner s pc (one h a) k n e me t size he =
        let j = kind_of globals layout a in
        let at_e = pc + keep_size owner (expr_size layout a) in
        puts_in_member (member_named h.op) owner pc at_e (at_e + n) s (push k s) j (λ s at. expr_code globals layout s at a) (e s at_e) (expr_means globals call layout a) me
        (omega (arith, keep_sized owner s j (expr_code globals layout s pc a) (expr_size layout a) (expr_sized globals layout s pc a))) (omega (arith, size s at_e))
        (λ s at. expr_does p reads globals layout call calls a s at t) (he s at_e)
    put_does owner s pc (two h a b) k n e me t size he =
        let u = push (kind_of globals layout a) (pending globals layout s a) in
        let w = push (kind_of globals layout b) u in
        let at_b = pc + load_size layout owner a in
        let at_e = at_b + expr_size layout b in
        let load = load_code globals layout owner s pc a in
        let code_b = expr_code globals layout u at_b b in
        let code_e = e w at_e in
        let store = store_code globals layout owner s (at_e + n + 1) a in
        let rest = mark (push k w) does.SetIndex ∷ store in
        let m = load_sized globals layout owner s pc a in
        let mb = expr_sized globals layout u at_b b in
        only_items p reads (is_item h.op) pc (load ++ (code_b ++ (code_e ++ rest))) _
        (place_does p reads globals layout call calls a owner s pc (code_b ++ (code_e ++ rest)) (λ c put st. got (λ k st. got (λ x st. got put (answer (with_at c k x) st)) (me st)) (expr_means globals call layout b st)) t.0 (λ c ws put below stores.
        then_got p reads (pc + length load) code_b (code_e ++ rest) [] (c ∷ ws) (expr_means globals call layout b) (λ k st. got (λ x st. got put (answer (with_at c k x) st)) (me st))
        (moved p reads at_b (pc + length load) code_b [] (expr_means globals call layout b) (omega (arith, m)) (expr_does p reads globals layout call calls b u at_b t.1)) (λ y.
        then_got p reads (pc + length load + length code_b) code_e rest [] (y ∷ c ∷ ws) me (λ x st. got put (answer (with_at c y x) st)) (moved p reads at_e (pc + length load + length code_b) code_e [] me (omega (arith, m, mb)) (he w at_e)) (λ x.
        then_got p reads (pc + length load + length code_b + length code_e) (mark (push k w) does.SetIndex ∷ []) store (x ∷ y ∷ c ∷ []) ws (answer (with_at c y x)) put
        (answers p reads (pc + length load + length code_b + length code_e) (push k w) does.SetIndex (x ∷ y ∷ c ∷ []) (with_at c y x) (λ _ _ _. refl)) (λ z.
        moved p reads (at_e + n + 1) (pc + length load + length code_b + length code_e + 1) store (z ∷ ws) (put z) (omega (arith, m, mb, size w at_e)) (stores s (at_e + n + 1) z))))))
    put_does owner s pc (three h c a b) k n e me t size he = λ vs x st has. tt
    put_does owner s pc (many h es) k n e me t size he = λ vs x st has. tt

    -- `t o= e`
    update_does : (owner : Option ℕ) (s : Shape) (pc : ℕ) (target : Expr) (o : BinaryOp) (k : Kind) (n : ℕ) (e : Shape → ℕ → List Marked) (me : State → Result) → AreCounted p target
        → ((t : Shape) (at : ℕ) → length (e t at) ≡ n) → ((t : Shape) (at : ℕ) → Does p reads at (e t at) [] me)
        → Does p reads pc (update_code globals layout owner s pc target o k n e) [] (λ st. place_means globals call layout owner target (λ x put st. got (λ y st. got put (answer (binary o x y) st)) (me st)) st)
    update_does owner s pc target o k n e me t size he =
        let u = push (kind_of globals layout target) (pending globals layout s target) in
        let at_e = pc + load_size layout owner target in
        let load = load_code globals layout owner s pc target in
        let code_e = e u at_e in
        let store = store_code globals layout owner s (at_e + n + 1) target in
        let rest = mark (push k u) (does.Binary o) ∷ store in
        let m = load_sized globals layout owner s pc target in
        place_does p reads globals layout call calls target owner s pc (code_e ++ rest) (λ x put st. got (λ y st. got put (answer (binary o x y) st)) (me st)) t (λ v ws put below stores.
        then_got p reads (pc + length load) code_e rest [] (v ∷ ws) me (λ y st. got put (answer (binary o v y) st)) (moved p reads at_e (pc + length load) code_e [] me (omega (arith, m)) (he u at_e)) (λ y.
        then_got p reads (pc + length load + length code_e) (mark (push k u) (does.Binary o) ∷ []) store (y ∷ v ∷ []) ws (answer (binary o v y)) put
        (answers p reads (pc + length load + length code_e) (push k u) (does.Binary o) (y ∷ v ∷ []) (binary o v y) (λ _ _ _. refl)) (λ z.
        moved p reads (at_e + n + 1) (pc + length load + length code_e + 1) store (z ∷ ws) (put z) (omega (arith, m, size u at_e)) (stores s (at_e + n + 1) z))))

    -- `add s[k]` and `delete s[k]`
    key_does : (owner : Option ℕ) (s : Shape) (pc : ℕ) (target : Expr) (i : Instr) (change : Val → Val → Val)
        → ((at : ℕ) (k c : Val) (vs : List Val) (fs : List Frame) (st : State) → act p reads (Some i) at (k ∷ c ∷ vs) fs st ≡ Goes [] (At (at + 1) (change c k ∷ vs) fs st)) → AreCounted p target
        → Does p reads pc (key_code globals layout owner s pc target i) [] (λ st. key_means globals call layout owner target change st)
    key_does owner s pc (two h a b) i change acts t =
        let u = push (kind_of globals layout a) (pending globals layout s a) in
        let w = push (kind_of globals layout b) u in
        let at_b = pc + load_size layout owner a in
        let at_store = at_b + expr_size layout b + 1 in
        let load = load_code globals layout owner s pc a in
        let code_b = expr_code globals layout u at_b b in
        let store = store_code globals layout owner s at_store a in
        let m = load_sized globals layout owner s pc a in
        let mb = expr_sized globals layout u at_b b in
        only_items p reads (is_item h.op) pc (load ++ (code_b ++ mark w i ∷ store)) _
        (place_does p reads globals layout call calls a owner s pc (code_b ++ mark w i ∷ store) (λ c put st. got (λ k st. put (change c k) st) (expr_means globals call layout b st)) t.0 (λ c ws put below stores.
        then_got p reads (pc + length load) code_b (mark w i ∷ store) [] (c ∷ ws) (expr_means globals call layout b) (λ k st. put (change c k) st)
        (moved p reads at_b (pc + length load) code_b [] (expr_means globals call layout b) (omega (arith, m)) (expr_does p reads globals layout call calls b u at_b t.1)) (λ k.
        then_step p reads (pc + length load + length code_b) w i store (k ∷ c ∷ ws) (change c k ∷ ws) (put (change c k)) (λ vs fs st. acts (pc + length load + length code_b) k c (ws ++ vs) fs st)
        (moved p reads at_store (pc + length load + length code_b + 1) store (change c k ∷ ws) (put (change c k)) (omega (arith, m, mb)) (stores s at_store (change c k))))))
    key_does owner s pc (leaf h) i change acts t = λ vs x st has. tt
    key_does owner s pc (one h a) i change acts t = λ vs x st has. tt
    key_does owner s pc (three h c a b) i change acts t = λ vs x st has. tt
    key_does owner s pc (many h es) i change acts t = λ vs x st has. tt

    pub assign_does : (s : Shape) (pc : ℕ) (op : AssignOp) (owner : Option ℕ) (target e : Expr) → AreCounted p target → AreCounted p e
        → Does p reads pc (assign_code globals layout s pc op owner target e) [] (λ st. assign_means p.names globals p.limits.turns call layout op owner target e st)
    assign_does s pc assign_is.Set owner target e t c =
        put_does owner s pc target (kind_of globals layout e) (expr_size layout e) (λ t at. expr_code globals layout t at e) (expr_means globals call layout e) t (λ t at. expr_sized globals layout t at e) (λ t at. expr_does p reads globals layout call calls e t at c)
    assign_does s pc assign_is.Add owner target e t c =
        update_does owner s pc target op_is.Add (kind_of globals layout e) (expr_size layout e) (λ t at. expr_code globals layout t at e) (expr_means globals call layout e) t (λ t at. expr_sized globals layout t at e) (λ t at. expr_does p reads globals layout call calls e t at c)
    assign_does s pc assign_is.Subtract owner target e t c =
        update_does owner s pc target op_is.Subtract (kind_of globals layout e) (expr_size layout e) (λ t at. expr_code globals layout t at e) (expr_means globals call layout e) t (λ t at. expr_sized globals layout t at e) (λ t at. expr_does p reads globals layout call calls e t at c)

    -- a value, and one instruction that takes it
    then_value : (s t : Shape) (pc : ℕ) (e : Expr) (i : Instr) (go : Val → State → Result) → AreCounted p e → ((at : ℕ) (v : Val) → Does p reads at (mark t i ∷ []) (v ∷ []) (go v))
        → Does p reads pc (expr_code globals layout s pc e ++ mark t i ∷ []) [] (λ st. got go (expr_means globals call layout e st))
    then_value s t pc e i go c h =
        let code_e = expr_code globals layout s pc e in
        then_got p reads pc code_e (mark t i ∷ []) [] [] (expr_means globals call layout e) go (expr_does p reads globals layout call calls e s pc c) (λ v. h (pc + length code_e) v)

    pub valued_does : (s : Shape) (pc : ℕ) (op : ValuedOp) (e : Expr) → AreCounted p e → Does p reads pc (valued_code globals layout s pc op e) [] (λ st. valued_means p.names globals p.limits.turns call layout op e st)
    valued_does s pc (valued_is.Local l) e c =
        let t = push (kind_of globals layout e) s in
        then_value s t pc e (does.Store (layout.first + l.slot)) (λ v st. ends Fine (set_local (layout.first + l.slot) v st)) c (λ at v. goes_on at t (does.Store (layout.first + l.slot)) (v ∷ []) (λ st. set_local (layout.first + l.slot) v st) (λ _ _ _. refl))
    valued_does s pc valued_is.Return e c =
        let t = push (kind_of globals layout e) s in
        then_value s t pc e does.Return (λ v st. ends (Returned v) st) c (λ at v. returns_does at t v)
    valued_does s pc valued_is.Throw e c =
        let t = push (kind_of globals layout e) s in
        then_value s t pc e does.Throw (λ v st. fails_with error_is.Throw (text_in v) st) c (λ at v. throws at t v)
    valued_does s pc (valued_is.Assert text) e c =
        let code_e = expr_code globals layout s pc e in
        let t = push (message_kind text) (push Bools s) in
        then_got p reads pc code_e (constant (push Bools s) (message text) ∷ mark t does.Assert ∷ []) [] [] (expr_means globals call layout e) (λ v st. chosen (truth_of v) (ends Fine) (fails_with error_is.Assert text) st)
        (expr_does p reads globals layout call calls e s pc c)
        (λ v. then_constant p reads (pc + length code_e) (push Bools s) (message text) (mark t does.Assert ∷ []) (v ∷ []) (λ st. chosen (truth_of v) (ends Fine) (fails_with error_is.Assert text) st) (asserts (pc + length code_e + 1) t text v))
    valued_does s pc (valued_is.Add owner) e c = key_does (slot_local layout owner) s pc e does.AddKey with_member (λ _ _ _ _ _ _. refl) c
    valued_does s pc (valued_is.Delete owner) e c = key_does (slot_local layout owner) s pc e does.DeleteKey without_key (λ _ _ _ _ _ _. refl) c
    valued_does s pc valued_is.Expr e c =
        let t = push (kind_of globals layout e) s in
        then_value s t pc e does.Pop (λ v st. ends Fine st) c (λ at v. goes_on at t does.Pop (v ∷ []) (λ st. st) (λ _ _ _. refl))

    pub print_does : (s : Shape) (pc : ℕ) (es : Exprs) → AllAreCounted p es
        → Does p reads pc (exprs_code globals layout s pc es ++ mark (with_operands s (kinds_on globals layout es s.operands)) (does.Print (count es)) ∷ []) [] (λ st. all_got globals call layout es [] (printed p.names) st)
    print_does s pc es c =
        let w = with_operands s (kinds_on globals layout es s.operands) in
        let ms = exprs_code globals layout s pc es in
        all_does p reads globals layout call calls es [] [] s pc (mark w (does.Print (count es)) ∷ []) (printed p.names) c
        (λ us l. subst (λ ws. Does p reads (pc + length ms) (mark w (does.Print (count es)) ∷ []) ws (printed p.names us)) (sym (append-nil us)) (prints (pc + length ms) w (count es) us (omega (arith, l))))
