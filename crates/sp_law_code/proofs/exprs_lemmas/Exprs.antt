-- The code of an expression does what it means.
use Rattle.std.proofs.Common.{◌≡◌, ℕ, ◌+◌, Bool, true, false, List, [], ◌∷◌, ◌++◌, length, Option, refl, sym, subst, arith, append_assoc, append-nil, length-append}
use Rattle.std.specs.Prelude.{◌&&◌}
use Rattle.sp_value.specs.Val.{Val}
use Rattle.sp_methods.specs.Kinds.{Kind, Bools}
use Rattle.sp_methods.specs.Methods.{method}
use Rattle.sp_typed.specs.declared.words.ManyOp.{ManyOp}
use Rattle.sp_typed.specs.declared.words.ManyOp.TheVariants as many_is
use Rattle.sp_typed.specs.Exprs.{Expr, Exprs, leaf, one, two, three, many, none, more}
use Rattle.sp_meaning_states.specs.States.{Reading, State, Unfinished, Result, ends, chosen}
use Rattle.sp_meaning_states.specs.Reads.{Ask, Read}
use Rattle.sp_meaning_states.specs.Types.{kind_of_type}
use Rattle.sp_meaning.specs.Globals.{Globals}
use Rattle.sp_code_meaning.specs.Layouts.{Layout}
use Rattle.sp_meaning.specs.Operations.{Changes, negative_literal, one_means, is_self, is_item, local_named, taken, member_named}
use Rattle.sp_code_meaning.specs.Exprs.{offset_local, slot_local, gives_result, is_item_place, expr_means, all_got, receiver_means, place_means}
use Rattle.sp_code.specs.declared.instr.Instr.TheVariants as does
use Rattle.sp_code.specs.Machine.{Plain}
use Rattle.sp_code.specs.Shapes.{Shape, with_operands, push}
use Rattle.sp_code_programs.specs.exprs.Marked.{Marked, mark}
use Rattle.sp_code_programs.specs.exprs.Sizes.{under_size, keep_size, expr_size, exprs_size, load_size}
use Rattle.sp_code_programs.specs.exprs.Code.{one_code, count, result_code, pending_count, under_code, kind_of, kinds_on, pending, many_code, with_result, expr_code, exprs_code, receiver_code, load_code, store_code}
use Rattle.sp_law_code.specs.exprs.Parts.{AreCounted, AllAreCounted}
use Rattle.sp_law_code.specs.exprs.Laws.{CallsRun, ExpressionsRun}
use Rattle.sp_law_code.proofs.exprs_lemmas.Sizes.{keep_sized, under_sized, expr_sized, exprs_sized, load_sized}
use Rattle.sp_law_code.proofs.exprs_lemmas.Steps.{Does, does_to, then_got, choice}
use Rattle.sp_law_code.proofs.exprs_lemmas.Forms.{moved, literal_does, one_does, leaf_does, two_does}
use Rattle.sp_law_code.proofs.exprs_lemmas.Lists.{IsChanging, many_does}
use Rattle.sp_law_code.proofs.exprs_lemmas.Places.{change_does, GoesOn, local_place, member_place, item_place}

nothing_pending : (e : Expr) → is_item_place e ≡ false → pending_count e ≡ 0
nothing_pending (two h a b) f = absurd (let q : true ≡ false = f in cc)
nothing_pending _ f = refl

module _ (p : Plain) (reads : Reading → Ask → Read) where
  pub only_items : (item : Bool) (pc : ℕ) (ms : List Marked) (means : State → Result) → Does p reads pc ms [] means → Does p reads pc ms [] (λ st. chosen item means (ends Unfinished) st)
  only_items true pc ms means h = h
  only_items false pc ms means h = λ vs x st has. tt

  module _ (globals : Globals) (layout : Layout) (call : ℕ → List Val → State → Result) (calls : CallsRun p reads call) where
    mutual
      pub expr_does : (e : Expr) (s : Shape) (pc : ℕ) → AreCounted p e → Does p reads pc (expr_code globals layout s pc e) [] (expr_means globals call layout e)
      expr_does (leaf h) s pc t = leaf_does p reads globals layout call pc s h.op h.ty
      expr_does (one h a) s pc t =
          let code_a = expr_code globals layout s pc a in
          let behind_a = one_code s (kind_of globals layout a) h.op h.ty in
          literal_does p reads pc s (negative_literal h a) (code_a ++ behind_a) _
          (then_got p reads pc code_a behind_a [] [] (expr_means globals call layout a) (λ v st. one_means h.op h.ty v st) (expr_does a s pc t) (λ v. one_does p reads (pc + length code_a) s (kind_of globals layout a) h.op h.ty v))
      expr_does (two h a b) s pc t =
          two_does p reads globals layout pc s h.op (expr_size layout a) (expr_size layout b) (kind_of globals layout a) (kind_of globals layout b) (expr_code globals layout s pc a) (λ u at. expr_code globals layout u at b)
          (expr_means globals call layout a) (expr_means globals call layout b) (expr_sized globals layout s pc a) (λ u at. expr_sized globals layout u at b) (expr_does a s pc t.0) (λ u at. expr_does b u at t.1)
      expr_does (three h c a b) s pc t =
          let at_a = pc + expr_size layout c + 1 in
          let at_b = at_a + expr_size layout a + 1 in
          let code_c = expr_code globals layout s pc c in
          let code_a = expr_code globals layout s at_a a in
          let n = expr_sized globals layout s pc c in
          let m = expr_sized globals layout s at_a a in
          choice p reads pc code_c code_a (expr_code globals layout s at_b b) (push Bools s) (push (kind_of globals layout a) s) (expr_means globals call layout c) (expr_means globals call layout a) (expr_means globals call layout b)
          at_b (at_b + expr_size layout b) (omega (arith, n, m)) (omega (arith, expr_sized globals layout s at_b b)) (expr_does c s pc t.0)
          (moved p reads at_a (pc + length code_c + 1) code_a [] (expr_means globals call layout a) (omega (arith, n)) (expr_does a s at_a t.1)) (expr_does b s at_b t.2)
      expr_does (many h es) s pc t =
          let k = kind_of_type globals.ranges h.ty in
          let u = with_operands s (kinds_on globals layout es s.operands) in
          many_does p reads globals call layout calls h.op (offset_local layout (is_self es)) s u pc (count es) (exprs_code globals layout s pc es) (receiver_code globals layout s pc h.op k es)
          (all_got globals call layout es []) (receiver_means globals call layout h.op es) t.0
          (λ go rest. all_does es [] [] s pc (many_code globals layout u h.op (count es)) go t.1
          (λ us l. subst (λ ws. Does p reads (pc + length (exprs_code globals layout s pc es)) (many_code globals layout u h.op (count es)) ws (go us)) (sym (append-nil us)) (rest us (omega (arith, l)))))
          (λ c. receiver_does es h.op k s pc c t.1)

      pub all_does : (es : Exprs) (acc ws : List Val) (s : Shape) (pc : ℕ) (b : List Marked) (go : List Val → State → Result) → AllAreCounted p es
          → ((us : List Val) → length us ≡ length acc + count es → Does p reads (pc + length (exprs_code globals layout s pc es)) b (us ++ ws) (go us))
          → Does p reads pc (exprs_code globals layout s pc es ++ b) (acc ++ ws) (all_got globals call layout es acc go)
      all_does none acc ws s pc b go t rest = moved p reads (pc + 0) pc b (acc ++ ws) (go acc) (omega arith) (rest acc (omega arith))
      all_does (more e es) acc ws s pc b go t rest =
          let u = push (kind_of globals layout e) s in
          let q = pc + expr_size layout e in
          let code_e = expr_code globals layout s pc e in
          let code_es = exprs_code globals layout u q es in
          let n = expr_sized globals layout s pc e in
          subst (λ ms. Does p reads pc ms (acc ++ ws) (all_got globals call layout (more e es) acc go)) (sym (append_assoc code_e code_es b))
          (then_got p reads pc code_e (code_es ++ b) [] (acc ++ ws) (expr_means globals call layout e) (λ v st. all_got globals call layout es (v ∷ acc) go st) (expr_does e s pc t.0)
          (λ v. moved p reads q (pc + length code_e) (code_es ++ b) (v ∷ acc ++ ws) (all_got globals call layout es (v ∷ acc) go) (omega (arith, n))
          (all_does es (v ∷ acc) ws u q b go t.1
          (λ us l. moved p reads (pc + length (code_e ++ code_es)) (q + length code_es) b (us ++ ws) (go us) (omega (arith, n, length-append {A = Marked})) (rest us (omega (arith, l)))))))

      receiver_does : (es : Exprs) (op : ManyOp) (k : Kind) (s : Shape) (pc : ℕ) → IsChanging op → AllAreCounted p es
          → Does p reads pc (receiver_code globals layout s pc op k es) [] (receiver_means globals call layout op es)
      receiver_does none op k s pc c t = λ vs x st has. tt
      receiver_does (more r es) (many_is.Method m slot) k s pc c t =
          let owner = slot_local layout slot in
          let u = push (kind_of globals layout r) (pending globals layout s r) in
          let load = load_code globals layout owner s pc r in
          let at_args = pc + load_size layout owner r in
          let args = exprs_code globals layout u at_args es in
          let at_store = at_args + exprs_size layout es + 1 + under_size (many_is.Method m slot) r in
          let s_store = with_result globals layout (many_is.Method m slot) k s in
          let store = store_code globals layout owner s_store at_store r in
          let w = with_operands u (kinds_on globals layout es u.operands) in
          let b = gives_result m && is_item_place r in
          let t_under = push (kind_of globals layout r) (push k (pending globals layout s r)) in
          let rest = mark w (does.Lib m) ∷ ((under_code b (pending_count r) t_under ++ store) ++ result_code m s) in
          place_does r owner s pc (args ++ rest) (λ x put st. all_got globals call layout es (x ∷ []) (λ vs st. taken put (method m vs) st) st) t.0 (λ v ws put below stores.
          moved p reads at_args (pc + length load) (args ++ rest) (v ∷ ws) (all_got globals call layout es (v ∷ []) (λ vs st. taken put (method m vs) st)) (omega (arith, load_sized globals layout owner s pc r))
          (all_does es (v ∷ []) ws u at_args rest (λ vs st. taken put (method m vs) st) t.1 (λ us l.
          change_does p reads m c (is_item_place r) (at_args + length args) (pending_count r) s w t_under store us ws put below (nothing_pending r)
          (λ y. moved p reads at_store (at_args + length args + 1 + length (under_code b (pending_count r) t_under)) store (y ∷ ws) (put y)
          (omega (arith, exprs_sized globals layout u at_args es, under_sized b (pending_count r) t_under)) (stores s_store at_store y)))))
      receiver_does (more r es) _ k s pc c t = λ vs x st has. tt

      -- what is done with the value of a place, behind the code that loads it
      pub place_does : (e : Expr) (owner : Option ℕ) (s : Shape) (pc : ℕ) (rest : List Marked) (go : Changes) → AreCounted p e
          → GoesOn p reads (pc + length (load_code globals layout owner s pc e)) rest (pending_count e) (λ s at. store_code globals layout owner s at e) go
          → Does p reads pc (load_code globals layout owner s pc e ++ rest) [] (place_means globals call layout owner e go)
      place_does (leaf h) owner s pc rest go t k = local_place p reads (local_named h.op) pc layout.first s (λ s. push (kind_of globals layout (leaf h)) s) rest go k
      place_does (one h a) owner s pc rest go t k =
          let j = kind_of globals layout a in
          let at = pc + keep_size owner (expr_size layout a) in
          member_place p reads (member_named h.op) owner pc at s j (λ s. push (kind_of globals layout (one h a)) s) (λ s at. expr_code globals layout s at a) (expr_means globals call layout a) rest go
          (omega (arith, keep_sized owner s j (expr_code globals layout s pc a) (expr_size layout a) (expr_sized globals layout s pc a))) (λ s at. expr_does a s at t) k
      place_does (two h a b) owner s pc rest go t k =
          let i = kind_of globals layout a in
          let j = kind_of globals layout b in
          let u = push i (pending globals layout s a) in
          let v = push j u in
          let load = load_code globals layout owner s pc a in
          let at = pc + load_size layout owner a in
          let code_b = expr_code globals layout u at b in
          only_items (is_item h.op) pc (load_code globals layout owner s pc (two h a b) ++ rest) _
          (item_place p reads pc s v (push j (push i v)) (λ s. push (kind_of globals layout (two h a b)) (pending globals layout s (two h a b))) load code_b rest (pending_count a)
          (λ s at. store_code globals layout owner s at a) (place_means globals call layout owner a) (expr_means globals call layout b) go
          (λ rest go k. place_does a owner s pc rest go t.0 k)
          (moved p reads at (pc + length load) code_b [] (expr_means globals call layout b) (omega (arith, load_sized globals layout owner s pc a)) (expr_does b u at t.1)) k)
      place_does (three h c a b) owner s pc rest go t k = λ vs x st has. tt
      place_does (many h es) owner s pc rest go t k = λ vs x st has. tt

pub expressions_run : ExpressionsRun
expressions_run p reads globals call layout calls e s pc vs x st t has =
    does_to p reads pc (pc + length (expr_code globals layout s pc e)) (pc + expr_size layout e) [] vs x st (expr_means globals call layout e st) (omega (arith, expr_sized globals layout s pc e))
    (expr_does p reads globals layout call calls e s pc t vs x st has)
