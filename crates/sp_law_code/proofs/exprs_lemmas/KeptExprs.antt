-- The code of an expression keeps to its shapes.
use Rattle.std.proofs.Common.{◌≡◌, ℕ, ◌+◌, true, false, List, [], ◌∷◌, ◌++◌, length, Option, Some, None, refl, sym, ap, ◌∙◌, subst, arith, append_assoc}
use Rattle.sp_words.specs.declared.methods.Method.{Method}
use Rattle.sp_words.specs.declared.methods.Method.TheVariants.{PushBack, PopBack}
use Rattle.sp_value.specs.Val.{void}
use Rattle.sp_methods.specs.Kinds.{Kind, Void, UnitOf}
use Rattle.sp_methods.specs.Methods.{IsMethod}
use Rattle.sp_typed.specs.declared.words.ManyOp.{ManyOp}
use Rattle.sp_typed.specs.declared.words.ManyOp.TheVariants as many_is
use Rattle.sp_typed.specs.Exprs.{Expr, Exprs, leaf, one, two, three, many, none, more}
use Rattle.sp_meaning_states.specs.Types.{kind_of_type}
use Rattle.sp_meaning.specs.Globals.{Globals}
use Rattle.sp_code_meaning.specs.Layouts.{Layout}
use Rattle.sp_meaning.specs.Operations.{negative_literal, is_self}
use Rattle.sp_code_meaning.specs.Exprs.{offset_local, slot_local, is_item_place}
use Rattle.sp_code.specs.declared.instr.Instr.TheVariants as does
use Rattle.sp_code.specs.Kinds.{of_place}
use Rattle.sp_code.specs.Machine.{Plain}
use Rattle.sp_code.specs.Shapes.{Shape, Shapes, with_operands, push, Shown, IsMember}
use Rattle.sp_code_programs.specs.exprs.Marked.{Marked, mark, constant}
use Rattle.sp_code_programs.specs.exprs.Sizes.{under_size, keep_size, expr_size, exprs_size, load_size}
use Rattle.sp_code_programs.specs.exprs.Code.{one_code, keep_code, owner_code, member_of, count, pending_count, under_code, kind_of, kinds_on, pending, place_local, expr_code, exprs_code, receiver_code, load_code, store_code}
use Rattle.sp_law_code.specs.exprs.Parts.{OneFits, IsKept, Fits, AllFit, ReceiverFits, PlaceFits}
use Rattle.sp_law_code.specs.exprs.Laws.{ExpressionsKeep}
use Rattle.sp_law_code.proofs.exprs_lemmas.Sizes.{keep_sized, under_sized, expr_sized, exprs_sized, load_sized}
use Rattle.sp_law_code.proofs.exprs_lemmas.Keeping.{Leads, shown_at, moved, nothing, behind, does_keep, constant_keeps, choice_keeps}
use Rattle.sp_law_code.proofs.exprs_lemmas.KeptForms.{literal_keeps, one_keeps, load_keeps, leaf_keeps, two_keep, Changed, many_keep}

module _ (globals : Globals) (layout : Layout) where
  -- the kinds of values on others, and how many they are
  pub kinds_apart : (es : Exprs) (js ks : List Kind) → kinds_on globals layout es (js ++ ks) ≡ kinds_on globals layout es js ++ ks
  kinds_apart none js ks = refl
  kinds_apart (more e es) js ks = kinds_apart es (kind_of globals layout e ∷ js) ks

  pub kinds_counted : (es : Exprs) (ks : List Kind) → length (kinds_on globals layout es ks) ≡ length ks + count es
  kinds_counted none ks = omega arith
  kinds_counted (more e es) ks = omega (arith, kinds_counted es (kind_of globals layout e ∷ ks))

  -- what waits below the value of a place changes the operands alone
  pub over_pending : (e : Expr) (s : Shape) (P : List Kind → Option ℕ → Type 0) → P s.locals s.unit → P (pending globals layout s e).locals (pending globals layout s e).unit
  over_pending (two h a b) s P fits = over_pending a s P fits
  over_pending _ s P fits = fits

  -- the kinds of what waits
  abbrev waiting : Expr → List Kind
  waiting (two h a b) = kind_of globals layout b ∷ kind_of globals layout a ∷ waiting a
  waiting _ = []

  waiting_counted : (e : Expr) → length (waiting e) ≡ pending_count e
  waiting_counted (two h a b) = omega (arith, waiting_counted a)
  waiting_counted _ = refl

  waits : (e : Expr) (s : Shape) → pending globals layout s e ≡ with_operands s (waiting e ++ s.operands)
  waits (two h a b) s = ap (λ v. push (kind_of globals layout b) (push (kind_of globals layout a) v)) (waits a s)
  waits _ s = refl

module _ (p : Plain) (shapes : Shapes) (globals : Globals) (layout : Layout) where
  -- the owner of a member is kept, or it isn't, and is had again
  pub keep_keeps : (owner : Option ℕ) (pc : ℕ) (s : Shape) (k : Kind) (ms : List Marked) → IsKept p shapes globals layout s.locals s.unit owner k → Leads p shapes pc ms s (push k s) → Leads p shapes pc (keep_code owner s k ms) s s
  keep_keeps (Some l) pc s k ms fits h =
      behind p shapes pc ms (mark (push k s) (does.Store l) ∷ []) s (push k s) s h (does_keep p shapes (pc + length ms) (push k s) s (does.Store l) (λ shown. (k, fits, (s.operands, refl, shown))))
  keep_keeps None pc s k ms fits h = nothing p shapes pc s

  pub owner_keeps : (owner : Option ℕ) (pc : ℕ) (s : Shape) (k : Kind) (ms : List Marked) → IsKept p shapes globals layout s.locals s.unit owner k → Leads p shapes pc ms s (push k s) → Leads p shapes pc (owner_code owner s ms) s (push k s)
  owner_keeps (Some l) pc s k ms fits h = load_keeps p shapes globals layout pc s l k fits
  owner_keeps None pc s k ms fits h = h

  -- a member of what an owner gives is loaded, and stored
  member_loads : (owner : Option ℕ) (pc at : ℕ) (s : Shape) (j k : Kind) (m : ℕ) (ms ns : List Marked) → at ≡ pc + length (keep_code owner s j ms) → IsKept p shapes globals layout s.locals s.unit owner j
      → (u : ℕ) × (j ≡ UnitOf u) × IsMember p shapes u m k → Leads p shapes pc ms s (push j s) → Leads p shapes at ns s (push j s)
      → Leads p shapes pc (keep_code owner s j ms ++ (owner_code owner s ns ++ mark (push j s) (does.GetField m) ∷ [])) s (push k s)
  member_loads owner pc at s j k m ms ns e kept fits h g =
      let keep = keep_code owner s j ms in
      let own = owner_code owner s ns in
      let q = pc + length keep in
      behind p shapes pc keep (own ++ mark (push j s) (does.GetField m) ∷ []) s s (push k s) (keep_keeps owner pc s j ms kept h)
      (behind p shapes q own (mark (push j s) (does.GetField m) ∷ []) s (push j s) (push k s) (moved p shapes at q own s (push j s) e (owner_keeps owner at s j ns kept g))
      (does_keep p shapes (q + length own) (push j s) (push k s) (does.GetField m) (λ shown. (fits.0, k, fits.2, (s.operands, ap (λ j. j ∷ s.operands) fits.1, shown)))))

  pub member_stores : (owner : Option ℕ) (pc : ℕ) (s : Shape) (j k : Kind) (m : ℕ) (ns : List Marked) → IsKept p shapes globals layout s.locals s.unit owner j → (u : ℕ) × (j ≡ UnitOf u) × IsMember p shapes u m k
      → Leads p shapes pc ns (push k s) (push j (push k s)) → Leads p shapes pc (owner_code owner (push k s) ns ++ mark (push j (push k s)) (does.SetField m) ∷ []) (push k s) s
  member_stores owner pc s j k m ns kept fits g =
      let own = owner_code owner (push k s) ns in
      behind p shapes pc own (mark (push j (push k s)) (does.SetField m) ∷ []) (push k s) (push j (push k s)) s (owner_keeps owner pc (push k s) j ns kept g)
      (does_keep p shapes (pc + length own) (push j (push k s)) s (does.SetField m) (λ shown. (fits.0, k, fits.2, (s.operands, ap (λ j. j ∷ k ∷ s.operands) fits.1, shown))))

  -- what a method makes of its receiver, and the result behind it
  method_keeps : (m : Method) (pc : ℕ) (u : Shape) (js ks outs : List Kind) → IsMethod m js outs → ks ≡ js ++ u.operands → Leads p shapes pc (mark (with_operands u ks) (does.Lib m) ∷ []) (with_operands u ks) (with_operands u (outs ++ u.operands))
  method_keeps m pc u js ks outs is e = does_keep p shapes pc (with_operands u ks) (with_operands u (outs ++ u.operands)) (does.Lib m) (λ shown. (js, outs, is, (u.operands, e, shown)))

  -- a result that stands on what waits goes under it
  under_keeps : (r : Expr) (pc : ℕ) (s : Shape) (j k : Kind)
      → Leads p shapes pc (under_code (is_item_place r) (pending_count r) (push j (push k (pending globals layout s r)))) (push j (push k (pending globals layout s r))) (push j (pending globals layout (push k s) r))
  under_keeps (two h a b) pc s j k =
      let r = two h a b in
      let ws = waiting globals layout r in
      let e = waits globals layout r s in
      let same : push j (pending globals layout (push k s) r) ≡ with_operands (push j (push k (pending globals layout s r))) ((j ∷ (ws ++ k ∷ [])) ++ s.operands)
      = ap (push j) (waits globals layout r (push k s)) ∙ ap (λ l. with_operands s (j ∷ l)) (sym (append_assoc ws (k ∷ []) s.operands)) ∙ ap (λ (v : Shape). with_operands v ((j ∷ (ws ++ k ∷ [])) ++ s.operands)) (sym e) in
      does_keep p shapes pc (push j (push k (pending globals layout s r))) (push j (pending globals layout (push k s) r)) (does.Under (pending_count r))
      (λ shown. (j, k, ws, waiting_counted globals layout r, (s.operands, ap (λ (v : Shape). j ∷ k ∷ v.operands) e, subst (Shown p shapes (pc + 1)) same shown)))
  under_keeps _ pc s j k = nothing p shapes pc (push j (push k s))

  mutual
    pub expr_keeps : (e : Expr) (s : Shape) (pc : ℕ) → Fits p shapes globals layout s.locals s.unit e → Leads p shapes pc (expr_code globals layout s pc e) s (push (kind_of globals layout e) s)
    expr_keeps (leaf h) s pc fits = leaf_keeps p shapes globals layout pc s h.op h.ty (kind_of_type globals.ranges h.ty) fits
    expr_keeps (one h a) s pc fits =
        let j = kind_of globals layout a in
        let k = kind_of_type globals.ranges h.ty in
        let code_a = expr_code globals layout s pc a in
        let behind_a = one_code s j h.op h.ty in
        literal_keeps p shapes globals layout pc s k (negative_literal h a) (code_a ++ behind_a) (Fits p shapes globals layout s.locals s.unit a × OneFits p shapes h.op j h.ty k) fits
        (λ fits. behind p shapes pc code_a behind_a s (push j s) (push k s) (expr_keeps a s pc fits.0) (one_keeps p shapes (pc + length code_a) s j h.op h.ty k fits.1))
    expr_keeps (two h a b) s pc fits =
        two_keep p shapes globals layout pc s h.op (expr_size layout a) (expr_size layout b) (kind_of globals layout a) (kind_of globals layout b) (kind_of_type globals.ranges h.ty)
        (expr_code globals layout s pc a) (λ u at. expr_code globals layout u at b) (Fits p shapes globals layout s.locals s.unit b) fits.1 (expr_sized globals layout s pc a) (λ u at. expr_sized globals layout u at b)
        (expr_keeps a s pc fits.0) (λ fits ks at. expr_keeps b (with_operands s ks) at fits)
    expr_keeps (three h c a b) s pc fits =
        let k = kind_of_type globals.ranges h.ty in
        let at_a = pc + expr_size layout c + 1 in
        let at_b = at_a + expr_size layout a + 1 in
        let code_c = expr_code globals layout s pc c in
        let code_a = expr_code globals layout s at_a a in
        let code_b = expr_code globals layout s at_b b in
        let j = kind_of globals layout a in
        let n = expr_sized globals layout s pc c in
        let m = expr_sized globals layout s at_a a in
        let whole = expr_code globals layout s pc (three h c a b) in
        subst (λ k. Leads p shapes pc whole s (push k s)) fits.4
        (choice_keeps p shapes pc code_c code_a code_b s (push j s) at_b (at_b + expr_size layout b) (omega (arith, n, m)) (omega (arith, expr_sized globals layout s at_b b))
        (subst (λ k. Leads p shapes pc code_c s (push k s)) fits.3 (expr_keeps c s pc fits.0))
        (moved p shapes at_a (pc + length code_c + 1) code_a s (push j s) (omega (arith, n)) (expr_keeps a s at_a fits.1))
        (subst (λ k. Leads p shapes at_b code_b s (push k s)) (fits.5 ∙ sym fits.4) (expr_keeps b s at_b fits.2)))
    expr_keeps (many h es) s pc fits =
        let k = kind_of_type globals.ranges h.ty in
        many_keep p shapes globals layout pc s h.op (offset_local layout (is_self es)) (count es) (kinds_on globals layout es []) (kinds_on globals layout es s.operands) k
        (exprs_code globals layout s pc es) (receiver_code globals layout s pc h.op k es) (AllFit p shapes globals layout s.locals s.unit es) (ReceiverFits p shapes globals layout s.locals s.unit h.op k es)
        (kinds_apart globals layout es [] s.operands) (omega (arith, kinds_counted globals layout es [])) (λ fits. exprs_keep es s pc fits) (λ fits. receiver_keeps es h.op s pc k fits) fits

    pub exprs_keep : (es : Exprs) (s : Shape) (pc : ℕ) → AllFit p shapes globals layout s.locals s.unit es → Leads p shapes pc (exprs_code globals layout s pc es) s (with_operands s (kinds_on globals layout es s.operands))
    exprs_keep none s pc fits = nothing p shapes pc s
    exprs_keep (more e es) s pc fits =
        let u = push (kind_of globals layout e) s in
        let q = pc + expr_size layout e in
        let code_e = expr_code globals layout s pc e in
        let code_es = exprs_code globals layout u q es in
        let t = with_operands s (kinds_on globals layout es u.operands) in
        behind p shapes pc code_e code_es s u t (expr_keeps e s pc fits.0) (moved p shapes q (pc + length code_e) code_es u t (omega (arith, expr_sized globals layout s pc e)) (exprs_keep es u q fits.1))

    receiver_keeps : (es : Exprs) (op : ManyOp) (s : Shape) (pc : ℕ) (k : Kind) → ReceiverFits p shapes globals layout s.locals s.unit op k es → Changed p shapes globals layout op pc (receiver_code globals layout s pc op k es) s k
    receiver_keeps none (many_is.Method m slot) s pc k fits = absurd fits
    receiver_keeps (more r es) (many_is.Method PushBack slot) s pc k fits = λ c.
        let owner = slot_local layout slot in
        let j = kind_of globals layout r in
        let u = push j (pending globals layout s r) in
        let load = load_code globals layout owner s pc r in
        let at_args = pc + load_size layout owner r in
        let args = exprs_code globals layout u at_args es in
        let at_store = at_args + exprs_size layout es + 1 + 0 in
        let store = store_code globals layout owner s at_store r in
        let ks = kinds_on globals layout es u.operands in
        let w = with_operands u ks in
        let q = pc + length load in
        let lib = mark w (does.Lib PushBack) ∷ [] in
        let n = load_sized globals layout owner s pc r in
        let m = exprs_sized globals layout u at_args es in
        subst (λ k. Leads p shapes pc (load ++ (args ++ mark w (does.Lib PushBack) ∷ (store ++ constant s void ∷ []))) s (push k s)) (sym fits.2.1)
        (behind p shapes pc load (args ++ mark w (does.Lib PushBack) ∷ (store ++ constant s void ∷ [])) s u (push Void s) (place_loads r owner s pc fits.0)
        (behind p shapes q args (mark w (does.Lib PushBack) ∷ (store ++ constant s void ∷ [])) u w (push Void s)
        (moved p shapes at_args q args u w (omega (arith, n)) (exprs_keep es u at_args (over_pending globals layout r s (λ l u. AllFit p shapes globals layout l u es) fits.1)))
        (behind p shapes (q + length args) lib (store ++ constant s void ∷ []) w u (push Void s)
        (method_keeps PushBack (q + length args) (pending globals layout s r) (kinds_on globals layout es (j ∷ [])) ks (j ∷ []) fits.2.0 (kinds_apart globals layout es (j ∷ []) (pending globals layout s r).operands))
        (behind p shapes (q + length args + 1) store (constant s void ∷ []) u s (push Void s)
        (moved p shapes at_store (q + length args + 1) store u s (omega (arith, n, m)) (place_stores r owner s at_store fits.0))
        (constant_keeps p shapes (q + length args + 1 + length store) s Void void (λ units. refl))))))
    receiver_keeps (more r es) (many_is.Method PopBack slot) s pc k fits = λ c.
        let owner = slot_local layout slot in
        let j = kind_of globals layout r in
        let u = push j (pending globals layout s r) in
        let load = load_code globals layout owner s pc r in
        let at_args = pc + load_size layout owner r in
        let args = exprs_code globals layout u at_args es in
        let at_store = at_args + exprs_size layout es + 1 + under_size (many_is.Method PopBack slot) r in
        let v = push j (push k (pending globals layout s r)) in
        let under = under_code (is_item_place r) (pending_count r) v in
        let store = store_code globals layout owner (push k s) at_store r in
        let ks = kinds_on globals layout es u.operands in
        let w = with_operands u ks in
        let q = pc + length load in
        let lib = mark w (does.Lib PopBack) ∷ [] in
        let n = load_sized globals layout owner s pc r in
        let m = exprs_sized globals layout u at_args es in
        let t = push j (pending globals layout (push k s) r) in
        behind p shapes pc load (args ++ mark w (does.Lib PopBack) ∷ ((under ++ store) ++ [])) s u (push k s) (place_loads r owner s pc fits.0)
        (behind p shapes q args (mark w (does.Lib PopBack) ∷ ((under ++ store) ++ [])) u w (push k s)
        (moved p shapes at_args q args u w (omega (arith, n)) (exprs_keep es u at_args (over_pending globals layout r s (λ l u. AllFit p shapes globals layout l u es) fits.1)))
        (behind p shapes (q + length args) lib ((under ++ store) ++ []) w v (push k s)
        (method_keeps PopBack (q + length args) (pending globals layout s r) (kinds_on globals layout es (j ∷ [])) ks (j ∷ k ∷ []) fits.2 (kinds_apart globals layout es (j ∷ []) (pending globals layout s r).operands))
        (behind p shapes (q + length args + 1) (under ++ store) [] v (push k s) (push k s)
        (behind p shapes (q + length args + 1) under store v t (push k s) (under_keeps r (q + length args + 1) s j k)
        (moved p shapes at_store (q + length args + 1 + length under) store t (push k s) (omega (arith, n, m, under_sized (is_item_place r) (pending_count r) v)) (place_stores r owner (push k s) at_store fits.0)))
        (nothing p shapes (q + length args + 1 + length (under ++ store)) (push k s)))))
    receiver_keeps (more r es) (many_is.Method m slot) s pc k fits = λ c. absurd (let q : false ≡ true = c in cc)
    receiver_keeps es _ s pc k fits = tt

    -- a place is loaded, over what waits below its value, and stored
    pub place_loads : (e : Expr) (owner : Option ℕ) (s : Shape) (pc : ℕ) → PlaceFits p shapes globals layout s.locals s.unit owner e
        → Leads p shapes pc (load_code globals layout owner s pc e) s (push (kind_of globals layout e) (pending globals layout s e))
    place_loads (leaf h) owner s pc fits = load_keeps p shapes globals layout pc s (place_local globals layout h.op) (kind_of_type globals.ranges h.ty) fits
    place_loads (one h a) owner s pc fits =
        let j = kind_of globals layout a in
        let at = pc + keep_size owner (expr_size layout a) in
        member_loads owner pc at s j (kind_of_type globals.ranges h.ty) (member_of h.op) (expr_code globals layout s pc a) (expr_code globals layout s at a)
        (omega (arith, keep_sized owner s j (expr_code globals layout s pc a) (expr_size layout a) (expr_sized globals layout s pc a))) fits.1 fits.2 (expr_keeps a s pc fits.0) (expr_keeps a s at fits.0)
    place_loads (two h a b) owner s pc fits =
        let i = kind_of globals layout a in
        let j = kind_of globals layout b in
        let k = kind_of_type globals.ranges h.ty in
        let v = pending globals layout s a in
        let t = push i v in
        let u = push j t in
        let load = load_code globals layout owner s pc a in
        let at = pc + load_size layout owner a in
        let code_b = expr_code globals layout t at b in
        let dup = mark u does.Dup in
        let index = mark (push j (push i u)) does.Index in
        let q = pc + length load in
        let r = q + length code_b in
        behind p shapes pc load (code_b ++ dup ∷ index ∷ []) s t (push k u) (place_loads a owner s pc fits.0)
        (behind p shapes q code_b (dup ∷ index ∷ []) t u (push k u)
        (moved p shapes at q code_b t u (omega (arith, load_sized globals layout owner s pc a)) (expr_keeps b t at (over_pending globals layout a s (λ l u. Fits p shapes globals layout l u b) fits.1)))
        (behind p shapes r (dup ∷ []) (index ∷ []) u (push j (push i u)) (push k u)
        (does_keep p shapes r u (push j (push i u)) does.Dup (λ shown. (j, i, (v.operands, refl, shown))))
        (does_keep p shapes (r + 1) (push j (push i u)) (push k u) does.Index (λ shown. (i, j, k, of_place i j k fits.2, (u.operands, refl, shown))))))
    place_loads (three h c a b) owner s pc fits = absurd fits
    place_loads (many h es) owner s pc fits = absurd fits

    pub place_stores : (e : Expr) (owner : Option ℕ) (s : Shape) (pc : ℕ) → PlaceFits p shapes globals layout s.locals s.unit owner e
        → Leads p shapes pc (store_code globals layout owner s pc e) (push (kind_of globals layout e) (pending globals layout s e)) s
    place_stores (leaf h) owner s pc fits =
        let k = kind_of_type globals.ranges h.ty in
        does_keep p shapes pc (push k s) s (does.Store (place_local globals layout h.op)) (λ shown. (k, fits, (s.operands, refl, shown)))
    place_stores (one h a) owner s pc fits =
        let k = kind_of_type globals.ranges h.ty in
        member_stores owner pc s (kind_of globals layout a) k (member_of h.op) (expr_code globals layout (push k s) pc a) fits.1 fits.2 (expr_keeps a (push k s) pc fits.0)
    place_stores (two h a b) owner s pc fits =
        let i = kind_of globals layout a in
        let j = kind_of globals layout b in
        let k = kind_of_type globals.ranges h.ty in
        let v = pending globals layout s a in
        let u = push k (push j (push i v)) in
        behind p shapes pc (mark u does.SetIndex ∷ []) (store_code globals layout owner s (pc + 1) a) u (push i v) s
        (does_keep p shapes pc u (push i v) does.SetIndex (λ shown. (i, j, k, fits.2, (v.operands, refl, shown)))) (place_stores a owner s (pc + 1) fits.0)
    place_stores (three h c a b) owner s pc fits = absurd fits
    place_stores (many h es) owner s pc fits = absurd fits

pub expressions_keep : ExpressionsKeep
expressions_keep p shapes globals layout e s pc fits shows shown =
    expr_keeps p shapes globals layout e s pc fits shows
    (shown_at p shapes (pc + expr_size layout e) (pc + length (expr_code globals layout s pc e)) (push (kind_of globals layout e) s) (omega (arith, expr_sized globals layout s pc e)) shown)
