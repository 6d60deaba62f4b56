-- The code of statements that have no others in them leads only further on.
use Rattle.std.proofs.Common.{◌≡◌, ℕ, ◌+◌, List, [], ◌∷◌, ◌++◌, length, Option, Some, refl, sym, subst, arith}
use Rattle.sp_words.specs.declared.operators.AssignOp.{AssignOp}
use Rattle.sp_words.specs.declared.operators.AssignOp.TheVariants as assign_is
use Rattle.sp_words.specs.declared.operators.BinaryOp.{BinaryOp}
use Rattle.sp_words.specs.declared.operators.BinaryOp.TheVariants as op_is
use Rattle.sp_methods.specs.Kinds.{Kind}
use Rattle.sp_typed.specs.declared.stmt_words.ValuedOp.{ValuedOp}
use Rattle.sp_typed.specs.declared.stmt_words.ValuedOp.TheVariants as valued_is
use Rattle.sp_typed.specs.Exprs.{Expr, Exprs, leaf, one, two, three, many, none, more}
use Rattle.sp_meaning.specs.Globals.{Globals}
use Rattle.sp_code_meaning.specs.Layouts.{Layout}
use Rattle.sp_code_meaning.specs.Exprs.{slot_local}
use Rattle.sp_code.specs.declared.instr.Instr.{Instr}
use Rattle.sp_code.specs.declared.instr.Instr.TheVariants as does
use Rattle.sp_code.specs.Turns.{edges}
use Rattle.sp_code.specs.Shapes.{Shape, push}
use Rattle.sp_code_programs.specs.exprs.Marked.{Marked}
use Rattle.sp_code_programs.specs.exprs.Sizes.{keep_size, owner_size, expr_size, load_size}
use Rattle.sp_code_programs.specs.exprs.Code.{kind_at, kind_of, pending, keep_code, owner_code, expr_code, load_code, store_code, put_code, update_code, key_code}
use Rattle.sp_code_programs.specs.units.Sizes.{values_size}
use Rattle.sp_code_programs.specs.units.Code.{valued_code, assign_code, values_code}
use Rattle.sp_law_code.proofs.exprs_lemmas.Sizes.{keep_sized, owner_sized, expr_sized, load_sized}
use Rattle.sp_law_code.proofs.bodies_lemmas.Sizes.{values_sized}
use Rattle.sp_law_code.proofs.turns_lemmas.Forward.{AreAhead, IsForward, to_next, forward_at, then_forward}
use Rattle.sp_law_code.proofs.turns_lemmas.Exprs.{keep_forward, owner_forward, expr_forward, load_forward, store_forward}

module _ (globals : Globals) (layout : Layout) where
  abbrev code_of : Shape → ℕ → Expr → List Marked
  code_of s pc e = expr_code globals layout s pc e

  -- an expression, and code behind it
  then_code : (past : ℕ) (s : Shape) (pc : ℕ) (e : Expr) (ms : List Marked) → IsForward past (pc + expr_size layout e) ms → IsForward past pc (code_of s pc e ++ ms)
  then_code past s pc e ms h = then_forward past pc (expr_size layout e) (code_of s pc e) ms (expr_sized globals layout s pc e) (expr_forward globals layout s pc e) h

  load_then : (owner : Option ℕ) (s : Shape) (pc : ℕ) (a : Expr) (ms : List Marked) → IsForward 0 (pc + load_size layout owner a) ms → IsForward 0 pc (load_code globals layout owner s pc a ++ ms)
  load_then owner s pc a ms h =
      then_forward 0 pc (load_size layout owner a) (load_code globals layout owner s pc a) ms (load_sized globals layout owner s pc a) (load_forward globals layout owner s pc a) h

  put_forward : (owner : Option ℕ) (s : Shape) (pc : ℕ) (target : Expr) (k : Kind) (e : Expr) → IsForward 0 pc (put_code globals layout owner s pc target k (expr_size layout e) (λ t at. expr_code globals layout t at e))
  put_forward owner s pc (leaf h) k e = then_code 0 s pc e _ (to_next (pc + expr_size layout e) 0 0, tt)
  put_forward owner s pc (one h a) k e =
      let n = expr_size layout a in
      let at_e = pc + keep_size owner n in
      let q = at_e + expr_size layout e in
      let t = push k s in
      let j = kind_of globals layout a in
      then_forward 0 pc (keep_size owner n) (keep_code owner s j (code_of s pc a)) _ (keep_sized owner s j _ n (expr_sized globals layout s pc a))
      (keep_forward owner s j pc n (code_of s pc a) (expr_sized globals layout s pc a) (expr_forward globals layout s pc a))
      (then_code 0 s at_e e _
      (then_forward 0 q (owner_size owner n) (owner_code owner t (code_of t q a)) _ (owner_sized owner t _ n (expr_sized globals layout t q a))
      (owner_forward owner t q (code_of t q a) (expr_forward globals layout t q a)) (to_next (q + owner_size owner n) 0 0, tt)))
  put_forward owner s pc (two h a b) k e =
      let t = push (kind_of globals layout a) (pending globals layout s a) in
      let at_b = pc + load_size layout owner a in
      let at_e = at_b + expr_size layout b in
      let q = at_e + expr_size layout e in
      load_then owner s pc a _ (then_code 0 t at_b b _ (then_code 0 (push (kind_of globals layout b) t) at_e e _ (to_next q _ 0, store_forward globals layout owner s (q + 1) a)))
  put_forward owner s pc (three h c a b) k e = tt
  put_forward owner s pc (many h es) k e = tt

  update_forward : (owner : Option ℕ) (s : Shape) (pc : ℕ) (target : Expr) (o : BinaryOp) (k : Kind) (e : Expr)
      → IsForward 0 pc (update_code globals layout owner s pc target o k (expr_size layout e) (λ t at. expr_code globals layout t at e))
  update_forward owner s pc target o k e =
      let at_e = pc + load_size layout owner target in
      let q = at_e + expr_size layout e in
      load_then owner s pc target _ (then_code 0 (push (kind_of globals layout target) (pending globals layout s target)) at_e e _ (to_next q _ 0, store_forward globals layout owner s (q + 1) target))

  -- a key that is added or taken away by an instruction that leads to the next one
  key_forward : (owner : Option ℕ) (s : Shape) (pc : ℕ) (target : Expr) (i : Instr) → ((at : ℕ) → edges (Some i) at ≡ (at + 1) ∷ []) → IsForward 0 pc (key_code globals layout owner s pc target i)
  key_forward owner s pc (two h a b) i leads =
      let t = push (kind_of globals layout a) (pending globals layout s a) in
      let at_b = pc + load_size layout owner a in
      let q = at_b + expr_size layout b in
      let n = length (store_code globals layout owner s (q + 1) a) in
      load_then owner s pc a _ (then_code 0 t at_b b _ (subst (λ tos. AreAhead q (q + 1 + n + 0) tos) (sym (leads q)) (to_next q n 0), store_forward globals layout owner s (q + 1) a))
  key_forward owner s pc (leaf h) i leads = tt
  key_forward owner s pc (one h a) i leads = tt
  key_forward owner s pc (three h c a b) i leads = tt
  key_forward owner s pc (many h es) i leads = tt

  pub valued_forward : (s : Shape) (pc : ℕ) (o : ValuedOp) (e : Expr) → IsForward 0 pc (valued_code globals layout s pc o e)
  valued_forward s pc (valued_is.Add owner) e = key_forward (slot_local layout owner) s pc e does.AddKey (λ at. refl)
  valued_forward s pc (valued_is.Delete owner) e = key_forward (slot_local layout owner) s pc e does.DeleteKey (λ at. refl)
  valued_forward s pc (valued_is.Assert text) e = let q = pc + expr_size layout e in then_code 0 s pc e _ (to_next q 1 0, (to_next (q + 1) 0 0, tt))
  valued_forward s pc valued_is.Return e = then_code 0 s pc e _ (tt, tt)
  valued_forward s pc valued_is.Throw e = then_code 0 s pc e _ (tt, tt)
  valued_forward s pc _ e = then_code 0 s pc e _ (to_next (pc + expr_size layout e) 0 0, tt)

  pub assign_forward : (s : Shape) (pc : ℕ) (o : AssignOp) (owner : Option ℕ) (target e : Expr) → IsForward 0 pc (assign_code globals layout s pc o owner target e)
  assign_forward s pc assign_is.Set owner target e = put_forward owner s pc target (kind_of globals layout e) e
  assign_forward s pc assign_is.Add owner target e = update_forward owner s pc target op_is.Add (kind_of globals layout e) e
  assign_forward s pc assign_is.Subtract owner target e = update_forward owner s pc target op_is.Subtract (kind_of globals layout e) e

  -- the tests of the values of a case, which lead to the body one past the jump behind them
  pub values_forward : (s : Shape) (l body pc : ℕ) (es : Exprs) → body ≡ pc + values_size layout es + 1 → IsForward 1 pc (values_code globals layout s l body pc es)
  values_forward s l body pc none h = tt
  values_forward s l body pc (more e es) h =
      let q = pc + 1 + expr_size layout e in
      let next = pc + (1 + (expr_size layout e + (1 + (1 + 1)))) in
      let counted = values_sized globals layout s l body next es in (
        to_next pc _ 1,
        then_code 1 (push (kind_at s.locals l) s) (pc + 1) e _ (
          to_next q _ 1,
          (
            to_next (q + 1) _ 1,
            (
              (omega (arith, h), omega (arith, h, counted), to_next (q + 1 + 1) _ 1),
              forward_at next (q + 1 + 1 + 1) 1 (values_code globals layout s l body next es) (omega arith) (values_forward s l body next es (omega (arith, h))),
            ),
          ),
        ),
      )
