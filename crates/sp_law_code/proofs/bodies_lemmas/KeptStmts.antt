-- The code of a statement keeps to its shapes.
use Rattle.std.proofs.Common.{◌≡◌, ℕ, ◌+◌, Bool, true, false, List, [], ◌∷◌, ◌++◌, length, Option, Some, None, refl, sym, ap, ◌∙◌, subst, arith, append_assoc, length-append, inl, inr}
use Rattle.std.specs.Prelude.{slice_get, unwrap_or}
use Rattle.sp_words.specs.declared.operators.BinaryOp.{BinaryOp}
use Rattle.sp_words.specs.declared.operators.BinaryOp.TheVariants as op_is
use Rattle.sp_words.specs.declared.operators.UnaryOp.TheVariants as unary_is
use Rattle.sp_words.specs.declared.operators.AssignOp.{AssignOp}
use Rattle.sp_words.specs.declared.operators.AssignOp.TheVariants as assign_is
use Rattle.sp_value.specs.Val.{Val, void}
use Rattle.sp_methods.specs.Kinds.{Kind, Void, Bools, Unsigned, Text, UnitOf, SetOf, Has}
use Rattle.sp_typed.specs.declared.stmt_words.BareOp.{BareOp}
use Rattle.sp_typed.specs.declared.stmt_words.BareOp.TheVariants as bare_is
use Rattle.sp_typed.specs.declared.stmt_words.ValuedOp.{ValuedOp}
use Rattle.sp_typed.specs.declared.stmt_words.ValuedOp.TheVariants as valued_is
use Rattle.sp_typed.specs.Exprs.{Expr, Exprs, leaf, one, two, three, many, none, more}
use Rattle.sp_typed.specs.Stmts.{Stmt, Stmts, Branches, Cases, bare, valued, assign, print, block, branch, while_loop, for_loop, switch, no_stmts, more_stmts, no_branches, more_branches, no_cases, more_cases}
use Rattle.sp_meaning_states.specs.Types.{zero_value, kind_of_type}
use Rattle.sp_meaning.specs.Globals.{Globals}
use Rattle.sp_code_meaning.specs.Layouts.{Layout}
use Rattle.sp_code_meaning.specs.Exprs.{slot_local}
use Rattle.sp_code.specs.declared.instr.Instr.{Instr}
use Rattle.sp_code.specs.declared.instr.Instr.TheVariants as does
use Rattle.sp_code.specs.Kinds.{kind_of_two, IsPlaceIn}
use Rattle.sp_code.specs.Machine.{Plain}
use Rattle.sp_code.specs.Shapes.{Shape, Shapes, with_operands, push, IsMember, IsResult, IsKeyOf, Shown, Keeps}
use Rattle.sp_code_programs.specs.exprs.Marked.{Marked, mark, constant, Shows}
use Rattle.sp_code_programs.specs.exprs.Sizes.{keep_size, expr_size, exprs_size, load_size}
use Rattle.sp_code_programs.specs.exprs.Code.{keep_code, owner_code, member_of, count, kind_at, kind_of, kinds_on, pending, place_local, expr_code, exprs_code, load_code, store_code, put_code, update_code, key_code}
use Rattle.sp_code_programs.specs.units.Sizes.{values_size, stmt_size, stmts_size, branches_size, cases_size}
use Rattle.sp_code_programs.specs.units.Code.{message, message_kind, bare_code, valued_code, assign_code, values_code, stmt_code, stmts_code, branches_code, cases_code}
use Rattle.sp_law_code.specs.exprs.Parts.{Fits, AllFit, PlaceFits}
use Rattle.sp_law_code.proofs.exprs_lemmas.Sizes.{keep_sized, expr_sized, exprs_sized, load_sized}
use Rattle.sp_law_code.proofs.exprs_lemmas.Keeping.{Leads, shown_at, shows_front, shows_back, keep_both, moved, nothing, behind, does_keep, constant_keeps}
use Rattle.sp_law_code.proofs.exprs_lemmas.KeptExprs.{kinds_apart, kinds_counted, over_pending, keep_keeps, member_stores, expr_keeps, exprs_keep, place_loads, place_stores}
use Rattle.sp_law_code.specs.bodies.Fits.{IsSetFor, IsAssigned, HasLocal, BareFits, KeyFits, ValuedFits, ValuesFit, StmtFits, StmtsFit, BranchesFit, CasesFit}
use Rattle.sp_law_code.specs.bodies.Keeps.{StatementsKeep, BodiesKeep}
use Rattle.sp_law_code.proofs.bodies_lemmas.Sizes.{values_sized, stmt_sized, branches_sized, cases_sized}

module _ (p : Plain) (shapes : Shapes) where
  -- one part behind another, of which the first may know where the second begins
  knows_next : (pc : ℕ) (a b : List Marked) (s t u : Shape) → (Shown p shapes (pc + length a) t → Leads p shapes pc a s t) → Leads p shapes (pc + length a) b t u → Leads p shapes pc (a ++ b) s u
  knows_next pc a b s t u ha hb shows shown =
      let of_b = hb (shows_back p shapes pc a b shows) (shown_at p shapes (pc + length (a ++ b)) (pc + length a + length b) u (omega (arith, length-append {A = Marked})) shown) in
      let of_a = ha of_b.1 (shows_front p shapes pc a b shows) of_b.1 in
      (keep_both p shapes pc a b of_a.0 of_b.0, of_a.1)

  -- an instruction, and what is behind it
  then_keeps : (pc : ℕ) (s t u : Shape) (i : Instr) (b : List Marked) → (Shown p shapes (pc + 1) t → Keeps p shapes i pc s) → Leads p shapes (pc + 1) b t u → Leads p shapes pc (mark s i ∷ b) s u
  then_keeps pc s t u i b h g = behind p shapes pc (mark s i ∷ []) b s t u (does_keep p shapes pc s t i h) g

  stores : (pc : ℕ) (s : Shape) (l : ℕ) (k : Kind) → slice_get s.locals l ≡ Some k → Leads p shapes pc (mark (push k s) (does.Store l) ∷ []) (push k s) s
  stores pc s l k fits = does_keep p shapes pc (push k s) s (does.Store l) (λ shown. (k, fits, (s.operands, refl, shown)))

  jump_keeps : (pc to : ℕ) (s : Shape) → Shown p shapes to s → Leads p shapes pc (mark s (does.Jump to) ∷ []) s s
  jump_keeps pc to s h = does_keep p shapes pc s s (does.Jump to) (λ shown. h)

  -- a test, what is done where it holds, and a jump behind it to where the shape is that before the test
  test_keeps : (pc : ℕ) (c a b : List Marked) (s : Shape) (next to : ℕ) → next ≡ pc + length c + 1 + length a + 1 → Shown p shapes to s → Leads p shapes pc c s (push Bools s) → Leads p shapes (pc + length c + 1) a s s → Leads p shapes next b s s
      → Leads p shapes pc (c ++ mark (push Bools s) (does.JumpNot next) ∷ (a ++ mark s (does.Jump to) ∷ b)) s s
  test_keeps pc c a b s next to e h hc ha hb =
      let test = mark (push Bools s) (does.JumpNot next) in
      let jump = mark s (does.Jump to) in
      let front = c ++ test ∷ (a ++ jump ∷ []) in
      let at : next ≡ pc + length front = omega (arith, length-append {A = Marked}, e) in
      subst (λ ms. Leads p shapes pc (c ++ test ∷ ms) s s) (append_assoc a (jump ∷ []) b)
      (subst (λ ms. Leads p shapes pc ms s s) (append_assoc c (test ∷ (a ++ jump ∷ [])) b)
      (knows_next pc front b s s s (λ shown.
      behind p shapes pc c (test ∷ (a ++ jump ∷ [])) s (push Bools s) s hc
      (then_keeps (pc + length c) (push Bools s) s s (does.JumpNot next) (a ++ jump ∷ []) (λ on. (s.operands, refl, on, shown_at p shapes (pc + length front) next s (sym at) shown))
      (behind p shapes (pc + length c + 1) a (jump ∷ []) s s s ha (jump_keeps (pc + length c + 1 + length a) to s h)))) (moved p shapes next (pc + length front) b s s at hb)))

  module _ (globals : Globals) (layout : Layout) where
    -- an expression, and what takes its value
    value_keeps : (pc : ℕ) (s t : Shape) (e : Expr) (k : Kind) (b : List Marked) → Fits p shapes globals layout s.locals s.unit e → kind_of globals layout e ≡ k → Leads p shapes (pc + length (expr_code globals layout s pc e)) b (push k s) t
        → Leads p shapes pc (expr_code globals layout s pc e ++ b) s t
    value_keeps pc s t e k b fits is h =
        let code_e = expr_code globals layout s pc e in
        behind p shapes pc code_e b s (push k s) t (subst (λ k. Leads p shapes pc code_e s (push k s)) is (expr_keeps p shapes globals layout e s pc fits)) h

    bare_keeps : (op : BareOp) (s : Shape) (out again pc : ℕ) (in_loop : Bool) → s.opens ≡ [] → BareFits p shapes globals layout s.locals s.unit s.round in_loop op
        → (in_loop ≡ true → Shown p shapes out s × Shown p shapes again s) → Leads p shapes pc (bare_code globals layout s out again op) s s
    bare_keeps (bare_is.Local l) s out again pc in_loop closed fits ways =
        let k = kind_of_type globals.ranges l.ty in
        let v = zero_value globals.ranges l.ty in
        behind p shapes pc (constant s v ∷ []) (mark (push k s) (does.Store (layout.first + l.slot)) ∷ []) s (push k s) s (constant_keeps p shapes pc s k v fits.1) (stores (pc + 1) s (layout.first + l.slot) k fits.0)
    bare_keeps bare_is.Return s out again pc in_loop closed fits ways =
        behind p shapes pc (constant s void ∷ []) (mark (push Void s) does.Return ∷ []) s (push Void s) s (constant_keeps p shapes pc s Void void (λ units. refl))
        (does_keep p shapes (pc + 1) (push Void s) s does.Return (λ shown. (Void, s.operands, refl, fits, closed)))
    bare_keeps (bare_is.Break meant) s out again pc in_loop closed fits ways = jump_keeps pc out s (ways fits).0
    bare_keeps (bare_is.Continue meant) s out again pc in_loop closed fits ways = jump_keeps pc again s (ways fits).1
    bare_keeps _ s out again pc in_loop closed fits ways = nothing p shapes pc s

    -- a key of a container in a place
    key_keeps : (owner : Option ℕ) (s : Shape) (pc : ℕ) (target : Expr) (i : Instr) (IsKey : Kind → Kind → Type 0) → KeyFits p shapes globals layout s.locals s.unit s.round IsKey owner target
        → ((at : ℕ) (t : Shape) (c j : Kind) → IsKey c j → Shown p shapes (at + 1) (push c t) → Keeps p shapes i at (push j (push c t))) → Leads p shapes pc (key_code globals layout owner s pc target i) s s
    key_keeps owner s pc (two h a b) i IsKey fits keeps =
        let c = kind_of globals layout a in
        let j = kind_of globals layout b in
        let t = pending globals layout s a in
        let u = push c t in
        let w = push j u in
        let at_b = pc + load_size layout owner a in
        let at_store = at_b + expr_size layout b + 1 in
        let load = load_code globals layout owner s pc a in
        let code_b = expr_code globals layout u at_b b in
        let store = store_code globals layout owner s at_store a in
        let m = load_sized globals layout owner s pc a in
        let mb = expr_sized globals layout u at_b b in
        let q = pc + length load in
        behind p shapes pc load (code_b ++ mark w i ∷ store) s u s (place_loads p shapes globals layout a owner s pc fits.0)
        (behind p shapes q code_b (mark w i ∷ store) u w s
        (moved p shapes at_b q code_b u w (omega (arith, m)) (expr_keeps p shapes globals layout b u at_b (over_pending globals layout a s (λ l v. Fits p shapes globals layout l v b) fits.1)))
        (then_keeps (q + length code_b) w u s i store (keeps (q + length code_b) t c j fits.2)
        (moved p shapes at_store (q + length code_b + 1) store u s (omega (arith, m, mb)) (place_stores p shapes globals layout a owner s at_store fits.0))))
    key_keeps owner s pc (leaf h) i IsKey fits keeps = absurd fits
    key_keeps owner s pc (one h a) i IsKey fits keeps = absurd fits
    key_keeps owner s pc (three h c a b) i IsKey fits keeps = absurd fits
    key_keeps owner s pc (many h es) i IsKey fits keeps = absurd fits

    adds_key : (at : ℕ) (t : Shape) (c j : Kind) → IsSetFor c j → Shown p shapes (at + 1) (push c t) → Keeps p shapes does.AddKey at (push j (push c t))
    adds_key at t c j is shown = (j, (t.operands, ap (λ c. j ∷ c ∷ t.operands) is, subst (λ c. Shown p shapes (at + 1) (push c t)) is shown))

    message_keeps : (pc : ℕ) (s : Shape) (text : Option (List ℕ)) → Leads p shapes pc (constant (push Bools s) (message text) ∷ mark (push (message_kind text) (push Bools s)) does.Assert ∷ []) (push Bools s) s
    message_keeps pc s (Some x) =
        behind p shapes pc (constant (push Bools s) (message (Some x)) ∷ []) (mark (push Text (push Bools s)) does.Assert ∷ []) (push Bools s) (push Text (push Bools s)) s
        (constant_keeps p shapes pc (push Bools s) Text (message (Some x)) (λ units. (x, refl))) (does_keep p shapes (pc + 1) (push Text (push Bools s)) s does.Assert (λ shown. (Text, inr refl, (s.operands, refl, shown))))
    message_keeps pc s None =
        behind p shapes pc (constant (push Bools s) void ∷ []) (mark (push Void (push Bools s)) does.Assert ∷ []) (push Bools s) (push Void (push Bools s)) s
        (constant_keeps p shapes pc (push Bools s) Void void (λ units. refl)) (does_keep p shapes (pc + 1) (push Void (push Bools s)) s does.Assert (λ shown. (Void, inl refl, (s.operands, refl, shown))))

    valued_keeps : (op : ValuedOp) (e : Expr) (s : Shape) (pc : ℕ) → s.opens ≡ [] → ValuedFits p shapes globals layout s.locals s.unit s.round op e → Leads p shapes pc (valued_code globals layout s pc op e) s s
    valued_keeps (valued_is.Local l) e s pc closed fits =
        let k = kind_of globals layout e in
        value_keeps pc s s e k (mark (push k s) (does.Store (layout.first + l.slot)) ∷ []) fits.0 refl (stores (pc + length (expr_code globals layout s pc e)) s (layout.first + l.slot) k fits.1)
    valued_keeps valued_is.Return e s pc closed fits =
        let k = kind_of globals layout e in
        value_keeps pc s s e k (mark (push k s) does.Return ∷ []) fits.0 refl (does_keep p shapes (pc + length (expr_code globals layout s pc e)) (push k s) s does.Return (λ shown. (k, s.operands, refl, fits.1, closed)))
    valued_keeps valued_is.Throw e s pc closed fits =
        let k = kind_of globals layout e in
        value_keeps pc s s e k (mark (push k s) does.Throw ∷ []) fits.0 refl (does_keep p shapes (pc + length (expr_code globals layout s pc e)) (push k s) s does.Throw (λ shown. (s.operands, ap (λ k. k ∷ s.operands) fits.1)))
    valued_keeps (valued_is.Assert text) e s pc closed fits =
        value_keeps pc s s e Bools (constant (push Bools s) (message text) ∷ mark (push (message_kind text) (push Bools s)) does.Assert ∷ []) fits.0 fits.1 (message_keeps (pc + length (expr_code globals layout s pc e)) s text)
    valued_keeps (valued_is.Add owner) e s pc closed fits = key_keeps (slot_local layout owner) s pc e does.AddKey IsSetFor fits adds_key
    valued_keeps (valued_is.Delete owner) e s pc closed fits = key_keeps (slot_local layout owner) s pc e does.DeleteKey IsKeyOf fits (λ at t c j is shown. (c, j, is, (t.operands, refl, shown)))
    valued_keeps valued_is.Expr e s pc closed fits =
        let k = kind_of globals layout e in
        value_keeps pc s s e k (mark (push k s) does.Pop ∷ []) fits refl (does_keep p shapes (pc + length (expr_code globals layout s pc e)) (push k s) s does.Pop (λ shown. (k, (s.operands, refl, shown))))

    put_keeps : (owner : Option ℕ) (s : Shape) (pc : ℕ) (target e : Expr) → PlaceFits p shapes globals layout s.locals s.unit owner target → Fits p shapes globals layout s.locals s.unit e → kind_of globals layout e ≡ kind_of globals layout target
        → Leads p shapes pc (put_code globals layout owner s pc target (kind_of globals layout e) (expr_size layout e) (λ t at. expr_code globals layout t at e)) s s
    put_keeps owner s pc (leaf h) e place fits is =
        let k = kind_of globals layout e in
        let l = place_local globals layout h.op in
        value_keeps pc s s e k (mark (push k s) (does.Store l) ∷ []) fits refl (stores (pc + length (expr_code globals layout s pc e)) s l k (place ∙ ap Some (sym is)))
    put_keeps owner s pc (one h a) e place fits is =
        let j = kind_of globals layout a in
        let k = kind_of globals layout e in
        let m = member_of h.op in
        let n = expr_size layout e in
        let at_e = pc + keep_size owner (expr_size layout a) in
        let keep = keep_code owner s j (expr_code globals layout s pc a) in
        let code_e = expr_code globals layout s at_e e in
        let store = owner_code owner (push k s) (expr_code globals layout (push k s) (at_e + n) a) ++ mark (push j (push k s)) (does.SetField m) ∷ [] in
        let nk = keep_sized owner s j (expr_code globals layout s pc a) (expr_size layout a) (expr_sized globals layout s pc a) in
        let ne = expr_sized globals layout s at_e e in
        let q = pc + length keep in
        behind p shapes pc keep (code_e ++ store) s s s (keep_keeps p shapes globals layout owner pc s j (expr_code globals layout s pc a) place.1 (expr_keeps p shapes globals layout a s pc place.0))
        (behind p shapes q code_e store s (push k s) s (moved p shapes at_e q code_e s (push k s) (omega (arith, nk)) (expr_keeps p shapes globals layout e s at_e fits))
        (moved p shapes (at_e + n) (q + length code_e) store (push k s) s (omega (arith, nk, ne))
        (member_stores p shapes globals layout owner (at_e + n) s j k m (expr_code globals layout (push k s) (at_e + n) a) place.1 (subst (λ k. (u : ℕ) × (j ≡ UnitOf u) × IsMember p shapes u m k) (sym is) place.2) (expr_keeps p shapes globals layout a (push k s) (at_e + n) place.0))))
    put_keeps owner s pc (two h a b) e place fits is =
        let i = kind_of globals layout a in
        let j = kind_of globals layout b in
        let k = kind_of globals layout e in
        let n = expr_size layout e in
        let v = pending globals layout s a in
        let t = push i v in
        let w = push j t in
        let at_b = pc + load_size layout owner a in
        let at_e = at_b + expr_size layout b in
        let load = load_code globals layout owner s pc a in
        let code_b = expr_code globals layout t at_b b in
        let code_e = expr_code globals layout w at_e e in
        let store = store_code globals layout owner s (at_e + n + 1) a in
        let set = mark (push k w) does.SetIndex in
        let nl = load_sized globals layout owner s pc a in
        let nb = expr_sized globals layout t at_b b in
        let ne = expr_sized globals layout w at_e e in
        let q = pc + length load in
        behind p shapes pc load (code_b ++ (code_e ++ set ∷ store)) s t s (place_loads p shapes globals layout a owner s pc place.0)
        (behind p shapes q code_b (code_e ++ set ∷ store) t w s
        (moved p shapes at_b q code_b t w (omega (arith, nl)) (expr_keeps p shapes globals layout b t at_b (over_pending globals layout a s (λ l v. Fits p shapes globals layout l v b) place.1)))
        (behind p shapes (q + length code_b) code_e (set ∷ store) w (push k w) s
        (moved p shapes at_e (q + length code_b) code_e w (push k w) (omega (arith, nl, nb)) (expr_keeps p shapes globals layout e w at_e (over_pending globals layout a s (λ l v. Fits p shapes globals layout l v e) fits)))
        (then_keeps (q + length code_b + length code_e) (push k w) t s does.SetIndex store (λ shown. (i, j, k, subst (λ k. IsPlaceIn i j k) (sym is) place.2, (v.operands, refl, shown)))
        (moved p shapes (at_e + n + 1) (q + length code_b + length code_e + 1) store t s (omega (arith, nl, nb, ne)) (place_stores p shapes globals layout a owner s (at_e + n + 1) place.0)))))
    put_keeps owner s pc (three h c a b) e place fits is = absurd place
    put_keeps owner s pc (many h es) e place fits is = absurd place

    update_keeps : (owner : Option ℕ) (s : Shape) (pc : ℕ) (target e : Expr) (o : BinaryOp) → PlaceFits p shapes globals layout s.locals s.unit owner target → Fits p shapes globals layout s.locals s.unit e
        → kind_of_two o (kind_of globals layout target) (kind_of globals layout e) ≡ Some (kind_of globals layout target)
        → Leads p shapes pc (update_code globals layout owner s pc target o (kind_of globals layout e) (expr_size layout e) (λ t at. expr_code globals layout t at e)) s s
    update_keeps owner s pc target e o place fits is =
        let k = kind_of globals layout target in
        let j = kind_of globals layout e in
        let n = expr_size layout e in
        let v = pending globals layout s target in
        let t = push k v in
        let at_e = pc + load_size layout owner target in
        let load = load_code globals layout owner s pc target in
        let code_e = expr_code globals layout t at_e e in
        let store = store_code globals layout owner s (at_e + n + 1) target in
        let nl = load_sized globals layout owner s pc target in
        let ne = expr_sized globals layout t at_e e in
        let q = pc + length load in
        behind p shapes pc load (code_e ++ mark (push j t) (does.Binary o) ∷ store) s t s (place_loads p shapes globals layout target owner s pc place)
        (behind p shapes q code_e (mark (push j t) (does.Binary o) ∷ store) t (push j t) s
        (moved p shapes at_e q code_e t (push j t) (omega (arith, nl)) (expr_keeps p shapes globals layout e t at_e (over_pending globals layout target s (λ l v. Fits p shapes globals layout l v e) fits)))
        (then_keeps (q + length code_e) (push j t) t s (does.Binary o) store (λ shown. (k, j, k, is, (v.operands, refl, shown)))
        (moved p shapes (at_e + n + 1) (q + length code_e + 1) store t s (omega (arith, nl, ne)) (place_stores p shapes globals layout target owner s (at_e + n + 1) place))))

    assign_keeps : (op : AssignOp) (owner : Option ℕ) (s : Shape) (pc : ℕ) (target e : Expr) → PlaceFits p shapes globals layout s.locals s.unit owner target → Fits p shapes globals layout s.locals s.unit e
        → IsAssigned op (kind_of globals layout target) (kind_of globals layout e) → Leads p shapes pc (assign_code globals layout s pc op owner target e) s s
    assign_keeps assign_is.Set owner s pc target e place fits is = put_keeps owner s pc target e place fits is
    assign_keeps assign_is.Add owner s pc target e place fits is = update_keeps owner s pc target e op_is.Add place fits is
    assign_keeps assign_is.Subtract owner s pc target e place fits is = update_keeps owner s pc target e op_is.Subtract place fits is

    print_keeps : (es : Exprs) (s : Shape) (pc : ℕ) → AllFit p shapes globals layout s.locals s.unit es
        → Leads p shapes pc (exprs_code globals layout s pc es ++ mark (with_operands s (kinds_on globals layout es s.operands)) (does.Print (count es)) ∷ []) s s
    print_keeps es s pc fits =
        let ms = exprs_code globals layout s pc es in
        let t = with_operands s (kinds_on globals layout es s.operands) in
        behind p shapes pc ms (mark t (does.Print (count es)) ∷ []) s t s (exprs_keep p shapes globals layout es s pc fits)
        (does_keep p shapes (pc + length ms) t s (does.Print (count es)) (λ shown. (kinds_on globals layout es [], omega (arith, kinds_counted globals layout es []), (s.operands, kinds_apart globals layout es [] s.operands, shown))))

    -- the values of a case, the first of which that equals a local leads to a body
    values_keep : (es : Exprs) (s : Shape) (l body pc : ℕ) (k : Kind) → slice_get s.locals l ≡ Some k → ValuesFit p shapes globals layout s.locals s.unit s.round l es → Shown p shapes body s
        → Leads p shapes pc (values_code globals layout s l body pc es) s s
    values_keep none s l body pc k is fits to = nothing p shapes pc s
    values_keep (more e es) s l body pc k is fits to =
        let i = kind_at s.locals l in
        let j = kind_of globals layout e in
        let t = push i s in
        let b = push Bools s in
        let code_e = expr_code globals layout t (pc + 1) e in
        let at_later = pc + (1 + (expr_size layout e + (1 + (1 + 1)))) in
        let later = values_code globals layout s l body at_later es in
        let q = pc + 1 + length code_e in
        let n = expr_sized globals layout t (pc + 1) e in
        let jump = mark b (does.JumpNot body) ∷ later in
        let negate = mark b (does.Unary unary_is.Not) ∷ jump in
        let local : slice_get s.locals l ≡ Some i = is ∙ ap Some (sym (ap (λ o. unwrap_or o Void) is)) in
        then_keeps pc s t s (does.Load l) (code_e ++ mark (push j t) (does.Binary op_is.Equal) ∷ negate) (λ shown. (i, local, shown))
        (value_keeps (pc + 1) t s e j (mark (push j t) (does.Binary op_is.Equal) ∷ negate) fits.0 refl
        (then_keeps q (push j t) b s (does.Binary op_is.Equal) negate (λ shown. (i, j, Bools, fits.1, (s.operands, refl, shown)))
        (then_keeps (q + 1) b b s (does.Unary unary_is.Not) jump (λ shown. (Bools, Bools, refl, (s.operands, refl, shown)))
        (then_keeps (q + 1 + 1) b s s (does.JumpNot body) later (λ shown. (s.operands, refl, shown, to))
        (moved p shapes at_later (q + 1 + 1 + 1) later s s (omega (arith, n)) (values_keep es s l body at_later k is fits.2 to))))))

    mutual
      pub stmt_keeps : (b : Stmt) (in_loop : Bool) (s : Shape) (out again pc : ℕ) → s.opens ≡ [] → StmtFits p shapes globals layout s.locals s.unit s.round in_loop b
          → (in_loop ≡ true → Shown p shapes out s × Shown p shapes again s) → Leads p shapes pc (stmt_code globals layout s out again pc b) s s
      stmt_keeps (bare h) in_loop s out again pc closed fits ways = bare_keeps h.op s out again pc in_loop closed fits ways
      stmt_keeps (valued h e) in_loop s out again pc closed fits ways = valued_keeps h.op e s pc closed fits
      stmt_keeps (assign h target e) in_loop s out again pc closed fits ways = assign_keeps h.op (slot_local layout h.owner) s pc target e fits.0 fits.1 fits.2
      stmt_keeps (print at es) in_loop s out again pc closed fits ways = print_keeps es s pc fits
      stmt_keeps (block ss) in_loop s out again pc closed fits ways = stmts_keep ss in_loop s out again pc closed fits ways
      stmt_keeps (branch bs b) in_loop s out again pc closed fits ways = λ shows shown.
          let at_else = pc + branches_size layout bs in
          let to = at_else + stmt_size layout b in
          let code_bs = branches_code globals layout s out again to pc bs in
          let other = stmt_code globals layout s out again at_else b in
          let nb = branches_sized globals layout s out again to pc bs in
          let n = stmt_sized globals layout s out again at_else b in
          behind p shapes pc code_bs other s s s (branches_keep bs in_loop s out again to pc closed fits.0 ways (shown_at p shapes (pc + length (code_bs ++ other)) to s (omega (arith, length-append {A = Marked}, nb, n)) shown))
          (moved p shapes at_else (pc + length code_bs) other s s (omega (arith, nb)) (stmt_keeps b in_loop s out again at_else closed fits.1 ways)) shows shown
      stmt_keeps (while_loop e b) in_loop s out again pc closed fits ways = λ shows shown.
          let code_e = expr_code globals layout s pc e in
          let at_b = pc + expr_size layout e + 1 + 1 in
          let to = at_b + stmt_size layout b + 1 in
          let code_b = stmt_code globals layout s to pc at_b b in
          let jump = mark s (does.Jump pc) ∷ [] in
          let rest = mark (push Bools s) (does.JumpNot to) ∷ mark s does.Turn ∷ (code_b ++ jump) in
          let ne = expr_sized globals layout s pc e in
          let n = stmt_sized globals layout s to pc at_b b in
          let q = pc + length code_e in
          let value = subst (λ k. Leads p shapes pc code_e s (push k s)) fits.0.1 (expr_keeps p shapes globals layout e s pc fits.0.0) in
          let begins = (value (shows_front p shapes pc code_e rest shows) (shows_back p shapes pc code_e rest shows).0).1 in
          let ends = shown_at p shapes (pc + length (code_e ++ rest)) to s (omega (arith, length-append {A = Marked}, ne, n)) shown in
          behind p shapes pc code_e rest s (push Bools s) s value
          (then_keeps q (push Bools s) s s (does.JumpNot to) (mark s does.Turn ∷ (code_b ++ jump)) (λ on. (s.operands, refl, on, ends))
          (then_keeps (q + 1) s s s does.Turn (code_b ++ jump) (λ on. on)
          (behind p shapes (q + 1 + 1) code_b jump s s s (moved p shapes at_b (q + 1 + 1) code_b s s (omega (arith, ne)) (stmt_keeps b true s to pc at_b closed fits.1 (λ _. (ends, begins))))
          (jump_keeps (q + 1 + 1 + length code_b) pc s begins)))) shows shown
      stmt_keeps (for_loop h e b) in_loop s out again pc closed fits ways = λ shows shown.
          let c = kind_of globals layout e in
          let k = kind_of_type globals.ranges h.ty in
          let t = push c s in
          let u = push Unsigned t in
          let l = layout.first + h.slot in
          let code_e = expr_code globals layout s pc e in
          let at_next = pc + expr_size layout e + 1 in
          let at_b = at_next + 1 + 1 in
          let leave = at_b + stmt_size layout b + 1 in
          let code_b = stmt_code globals layout u leave at_next at_b b in
          let pops = mark u does.Pop ∷ mark t does.Pop ∷ [] in
          let jump = mark u (does.Jump at_next) ∷ pops in
          let store = mark (push k u) (does.Store l) ∷ (code_b ++ jump) in
          let next = mark u (does.EachNext (leave + 1 + 1)) ∷ store in
          let rest = mark t does.EachStart ∷ next in
          let ne = expr_sized globals layout s pc e in
          let n = stmt_sized globals layout u leave at_next at_b b in
          let q = pc + length code_e in
          let of_rest = shows_back p shapes pc code_e rest shows in
          let of_jump = shows_back p shapes (q + 1 + 1 + 1) code_b jump of_rest.1.1.1 in
          let begins = shown_at p shapes (q + 1) at_next u (omega (arith, ne)) of_rest.1.0 in
          let leaves = shown_at p shapes (q + 1 + 1 + 1 + length code_b + 1) leave u (omega (arith, ne, n)) of_jump.1.0 in
          let ends = shown_at p shapes (pc + length (code_e ++ rest)) (leave + 1 + 1) s (omega (arith, length-append {A = Marked}, ne, n)) shown in
          value_keeps pc s s e c rest fits.0 refl
          (then_keeps q t u s does.EachStart next (λ on. (c, k, fits.1, (s.operands, refl, on)))
          (then_keeps (q + 1) u (push k u) s (does.EachNext (leave + 1 + 1)) store (λ on. (c, k, s.operands, fits.1, refl, on, ends))
          (then_keeps (q + 1 + 1) (push k u) u s (does.Store l) (code_b ++ jump) (λ on. (k, fits.2, (u.operands, refl, on)))
          (behind p shapes (q + 1 + 1 + 1) code_b jump u u s (moved p shapes at_b (q + 1 + 1 + 1) code_b u u (omega (arith, ne)) (stmt_keeps b true u leave at_next at_b closed fits.3 (λ _. (leaves, begins))))
          (then_keeps (q + 1 + 1 + 1 + length code_b) u u s (does.Jump at_next) pops (λ on. begins)
          (then_keeps (q + 1 + 1 + 1 + length code_b + 1) u t s does.Pop (mark t does.Pop ∷ []) (λ on. (Unsigned, (t.operands, refl, on)))
          (does_keep p shapes (q + 1 + 1 + 1 + length code_b + 1 + 1) t s does.Pop (λ on. (c, (s.operands, refl, on)))))))))) shows shown
      stmt_keeps (switch slot e cs b) in_loop s out again pc closed fits ways = λ shows shown.
          let c = kind_of globals layout e in
          let l = layout.first + slot in
          let code_e = expr_code globals layout s pc e in
          let at_cases = pc + expr_size layout e + 1 in
          let at_else = at_cases + cases_size layout cs in
          let to = at_else + stmt_size layout b in
          let code_cs = cases_code globals layout s out again to l at_cases cs in
          let other = stmt_code globals layout s out again at_else b in
          let rest = mark (push c s) (does.Store l) ∷ (code_cs ++ other) in
          let ne = expr_sized globals layout s pc e in
          let nc = cases_sized globals layout s out again to l at_cases cs in
          let n = stmt_sized globals layout s out again at_else b in
          let q = pc + length code_e in
          let ends = shown_at p shapes (pc + length (code_e ++ rest)) to s (omega (arith, length-append {A = Marked}, ne, nc, n)) shown in
          value_keeps pc s s e c rest fits.0 refl
          (then_keeps q (push c s) s s (does.Store l) (code_cs ++ other) (λ on. (c, fits.1, (s.operands, refl, on)))
          (behind p shapes (q + 1) code_cs other s s s (moved p shapes at_cases (q + 1) code_cs s s (omega (arith, ne)) (cases_keep cs in_loop s out again to l at_cases c fits.1 closed fits.2 ways ends))
          (moved p shapes at_else (q + 1 + length code_cs) other s s (omega (arith, ne, nc)) (stmt_keeps b in_loop s out again at_else closed fits.3 ways)))) shows shown

      stmts_keep : (ss : Stmts) (in_loop : Bool) (s : Shape) (out again pc : ℕ) → s.opens ≡ [] → StmtsFit p shapes globals layout s.locals s.unit s.round in_loop ss
          → (in_loop ≡ true → Shown p shapes out s × Shown p shapes again s) → Leads p shapes pc (stmts_code globals layout s out again pc ss) s s
      stmts_keep no_stmts in_loop s out again pc closed fits ways = nothing p shapes pc s
      stmts_keep (more_stmts b ss) in_loop s out again pc closed fits ways =
          let code_b = stmt_code globals layout s out again pc b in
          let q = pc + stmt_size layout b in
          let later = stmts_code globals layout s out again q ss in
          behind p shapes pc code_b later s s s (stmt_keeps b in_loop s out again pc closed fits.0 ways)
          (moved p shapes q (pc + length code_b) later s s (omega (arith, stmt_sized globals layout s out again pc b)) (stmts_keep ss in_loop s out again q closed fits.1 ways))

      -- the branches of an `if`, each of which leads behind the whole
      branches_keep : (bs : Branches) (in_loop : Bool) (s : Shape) (out again to pc : ℕ) → s.opens ≡ [] → BranchesFit p shapes globals layout s.locals s.unit s.round in_loop bs
          → (in_loop ≡ true → Shown p shapes out s × Shown p shapes again s) → Shown p shapes to s → Leads p shapes pc (branches_code globals layout s out again to pc bs) s s
      branches_keep no_branches in_loop s out again to pc closed fits ways ends = nothing p shapes pc s
      branches_keep (more_branches e b bs) in_loop s out again to pc closed fits ways ends =
          let code_e = expr_code globals layout s pc e in
          let at_b = pc + expr_size layout e + 1 in
          let next = at_b + stmt_size layout b + 1 in
          let code_b = stmt_code globals layout s out again at_b b in
          let ne = expr_sized globals layout s pc e in
          let n = stmt_sized globals layout s out again at_b b in
          test_keeps pc code_e code_b (branches_code globals layout s out again to next bs) s next to (omega (arith, ne, n)) ends
          (subst (λ k. Leads p shapes pc code_e s (push k s)) fits.0.1 (expr_keeps p shapes globals layout e s pc fits.0.0))
          (moved p shapes at_b (pc + length code_e + 1) code_b s s (omega (arith, ne)) (stmt_keeps b in_loop s out again at_b closed fits.1 ways))
          (branches_keep bs in_loop s out again to next closed fits.2 ways ends)

      -- the cases of a `switch`
      cases_keep : (cs : Cases) (in_loop : Bool) (s : Shape) (out again to l pc : ℕ) (k : Kind) → slice_get s.locals l ≡ Some k → s.opens ≡ [] → CasesFit p shapes globals layout s.locals s.unit s.round in_loop l cs
          → (in_loop ≡ true → Shown p shapes out s × Shown p shapes again s) → Shown p shapes to s → Leads p shapes pc (cases_code globals layout s out again to l pc cs) s s
      cases_keep no_cases in_loop s out again to l pc k is closed fits ways ends = nothing p shapes pc s
      cases_keep (more_cases es b cs) in_loop s out again to l pc k is closed fits ways ends = λ shows shown.
          let at_b = pc + values_size layout es + 1 in
          let next = at_b + stmt_size layout b + 1 in
          let values = values_code globals layout s l at_b pc es in
          let code_b = stmt_code globals layout s out again at_b b in
          let later = cases_code globals layout s out again to l next cs in
          let from_jump = mark s (does.Jump to) ∷ later in
          let rest = mark s (does.Jump next) ∷ (code_b ++ from_jump) in
          let nv = values_sized globals layout s l at_b pc es in
          let n = stmt_sized globals layout s out again at_b b in
          let r = pc + length values in
          let q = r + 1 + length code_b in
          let of_rest = shows_back p shapes pc values rest shows in
          let of_jump = shows_back p shapes (r + 1) code_b from_jump of_rest.1 in
          let body = moved p shapes at_b (r + 1) code_b s s (omega (arith, nv)) (stmt_keeps b in_loop s out again at_b closed fits.1 ways) in
          let others = moved p shapes next (q + 1) later s s (omega (arith, nv, n)) (cases_keep cs in_loop s out again to l next k is closed fits.2 ways ends) in
          let at_body = shown_at p shapes (r + 1) at_b s (omega (arith, nv)) (body (shows_front p shapes (r + 1) code_b from_jump of_rest.1) of_jump.0).1 in
          let at_end = shown_at p shapes (pc + length (values ++ rest)) (q + 1 + length later) s (omega (arith, length-append {A = Marked})) shown in
          let at_next = shown_at p shapes (q + 1) next s (omega (arith, nv, n)) (others of_jump.1 at_end).1 in
          behind p shapes pc values rest s s s (values_keep es s l at_b pc k is fits.0 at_body)
          (then_keeps r s s s (does.Jump next) (code_b ++ from_jump) (λ on. at_next)
          (behind p shapes (r + 1) code_b from_jump s s s body (then_keeps q s s s (does.Jump to) later (λ on. ends) others))) shows shown

pub statements_keep : StatementsKeep
statements_keep p shapes globals layout b in_loop s out again pc closed fits ways shows shown =
    stmt_keeps p shapes globals layout b in_loop s out again pc closed fits ways shows
    (shown_at p shapes (pc + stmt_size layout b) (pc + length (stmt_code globals layout s out again pc b)) s (omega (arith, stmt_sized globals layout s out again pc b)) shown)

pub bodies_keep : BodiesKeep
bodies_keep p shapes globals layout b s at ending k closed fits always result shows =
    let code_b = stmt_code globals layout s at at at b in
    let q = at + length code_b in
    let last = constant s ending ∷ mark (push k s) does.Return ∷ [] in
    let of_last = shows_back p shapes at code_b last shows in
    let of_b = stmt_keeps p shapes globals layout b false s at at at closed fits (λ e. absurd (let q : false ≡ true = e in cc)) (shows_front p shapes at code_b last shows) of_last.0 in
    let of_constant = constant_keeps p shapes q s k ending always (of_last.0, tt) of_last.1.0 in
    let returns : Keeps p shapes does.Return (q + 1) (push k s) = (k, s.operands, refl, result, closed) in
    (keep_both p shapes at code_b last of_b.0 (of_constant.0.0, ((λ i e. subst (λ i. Keeps p shapes i (q + 1) (push k s)) (sym e) returns), tt)), of_b.1)
