-- The code of places, put together from that of their parts, and of a method that changes its receiver.
use Rattle.std.proofs.Common.{◌≡◌, ℕ, ◌+◌, Bool, true, false, List, [], ◌∷◌, ◌++◌, append_assoc, length, sym, ap, subst, ◌∙◌, arith, length-append, Option, Some, None}
use Rattle.std.specs.Prelude.{◌&&◌, if◌then◌else◌}
use Rattle.sp_words.specs.declared.methods.Method.{Method}
use Rattle.sp_words.specs.Methods.{changes}
use Rattle.sp_methods.specs.Kinds.{Kind}
use Rattle.sp_typed.specs.declared.heads.One.{One}
use Rattle.sp_typed.specs.declared.heads.Two.{Two}
use Rattle.sp_typed.specs.declared.words.ManyOp.{ManyOp}
use Rattle.sp_typed.specs.declared.words.ManyOp.TheVariants as many_is
use Rattle.sp_typed.specs.declared.words.UnitMethod.TheVariants as unit_method
use Rattle.sp_typed.specs.Exprs.{Expr, Exprs, one, two, more}
use Rattle.sp_meaning.specs.Globals.{Globals}
use Rattle.sp_code_meaning.specs.Layouts.{Layout}
use Rattle.sp_code_meaning.specs.Exprs.{slot_local, gives_result, is_item_place}
use Rattle.sp_code.specs.declared.instr.Instr.TheVariants as does
use Rattle.sp_code.specs.Shapes.{Shape, push, with_operands}
use Rattle.sp_code_programs.specs.exprs.Marked.{Marked, mark}
use Rattle.sp_code_programs.specs.exprs.Sizes.{expr_size, exprs_size, keep_size, load_size, under_size}
use Rattle.sp_code_programs.specs.exprs.Code.{keep_code, owner_code, member_of, result_code, pending_count, under_code, kind_of, kinds_on, pending, with_result, kept_offset, changing, expr_code, exprs_code, receiver_code, load_code, store_code}
use Rattle.sp_emit.specs.Emitted.{Emitted, Adds, TurnsTo, lowered}
use Rattle.sp_emit.proofs.Adding.{adds_nothing, adds_as, adds_then, adds_behind, adds_turn}
use Rattle.sp_lower_expr.specs.declared.rows.Row.TheVariants as row_is
use Rattle.sp_lower_expr.specs.Many.{row_of}
use Rattle.sp_lower_expr.specs.Literals.{OnlyIf, PlaceFits, ReceiverFits}
use Rattle.sp_lower_expr.proofs.Many.{lowered_above, lowered_under}
use Rattle.sp_law_code.proofs.exprs_lemmas.Sizes.{expr_sized, exprs_sized, keep_sized, load_sized, under_sized}

module _ (globals : Globals) (layout : Layout) where
  abbrev code : Shape → ℕ → Expr → List Marked
  code s at e = expr_code globals layout s at e

  abbrev kind : Expr → Kind
  kind e = kind_of globals layout e

  -- the value of a member
  pub member_loaded : (e₀ e₁ e₂ e₃ : Emitted) (owner : Option ℕ) (h : One) (a : Expr) → Adds e₀ e₁ (keep_code owner e₀.now (kind a) (code e₀.now (length e₀.marks) a)) e₀.now
      → Adds e₁ e₂ (owner_code owner e₁.now (code e₁.now (length e₁.marks) a)) (push (kind a) e₁.now)
      → Adds e₂ e₃ (mark (push (kind a) e₀.now) (does.GetField (member_of h.op)) ∷ []) (push (kind (one h a)) e₀.now)
      → Adds e₀ e₃ (load_code globals layout owner e₀.now (length e₀.marks) (one h a)) (push (kind (one h a)) e₀.now)
  member_loaded e₀ e₁ e₂ e₃ owner h a h₁ h₂ h₃ =
      let s = e₀.now in
      let at = length e₀.marks in
      let kept = keep_code owner s (kind a) (code s at a) in
      let n = keep_size owner (expr_size layout a) in
      let last = mark (push (kind a) s) (does.GetField (member_of h.op)) ∷ [] in
      let a₂ = adds_behind (λ t m. owner_code owner t (code t m a)) (push (kind a)) n (keep_sized owner s (kind a) (code s at a) (expr_size layout a) (expr_sized globals layout s at a)) h₁ h₂ in
      let a₃ = adds_then (λ t m. last) (λ t. push (kind (one h a)) s) a₂ h₃ in
      adds_as _ a₃ (append_assoc kept (owner_code owner s (code s (at + n) a)) last)

  -- the value of an item, with its container and its key below it
  pub item_loaded : (e₀ e₁ e₂ e₃ : Emitted) (owner : Option ℕ) (h : Two) (a b : Expr) → Adds e₀ e₁ (load_code globals layout owner e₀.now (length e₀.marks) a) (push (kind a) (pending globals layout e₀.now a))
      → Adds e₁ e₂ (code e₁.now (length e₁.marks) b) (push (kind b) e₁.now)
      → Adds e₂ e₃ (mark e₂.now does.Dup ∷ mark (push (kind b) (push (kind a) e₂.now)) does.Index ∷ []) (push (kind (two h a b)) e₂.now)
      → Adds e₀ e₃ (load_code globals layout owner e₀.now (length e₀.marks) (two h a b)) (push (kind (two h a b)) (pending globals layout e₀.now (two h a b)))
  item_loaded e₀ e₁ e₂ e₃ owner h a b h₁ h₂ h₃ =
      let s = e₀.now in
      let at = length e₀.marks in
      let t = push (kind a) (pending globals layout s a) in
      let u = push (kind b) t in
      let a₂ = adds_behind (λ v m. code v m b) (push (kind b)) (load_size layout owner a) (load_sized globals layout owner s at a) h₁ h₂ in
      let a₃ = adds_then (λ v m. mark v does.Dup ∷ mark (push (kind b) (push (kind a) v)) does.Index ∷ []) (push (kind (two h a b))) a₂ h₃ in
      adds_as _ a₃ (append_assoc (load_code globals layout owner s at a) (code t (at + load_size layout owner a) b) (mark u does.Dup ∷ mark (push (kind b) (push (kind a) u)) does.Index ∷ []))

  -- a member gets the value on top
  pub member_stored : (e₀ e₁ e₂ : Emitted) (owner : Option ℕ) (h : One) (a : Expr) (s : Shape) → e₀.now ≡ push (kind (one h a)) s
      → Adds e₀ e₁ (owner_code owner e₀.now (code e₀.now (length e₀.marks) a)) (push (kind a) e₀.now)
      → Adds e₁ e₂ (mark (push (kind a) (push (kind (one h a)) s)) (does.SetField (member_of h.op)) ∷ []) s
      → Adds e₀ e₂ (store_code globals layout owner s (length e₀.marks) (one h a)) s
  member_stored e₀ e₁ e₂ owner h a s begin h₁ h₂ =
      let at = length e₀.marks in
      let t = push (kind (one h a)) s in
      let a₁ = subst (λ (u : Shape). Adds e₀ e₁ (owner_code owner u (code u at a)) (push (kind a) u)) begin h₁ in
      adds_then (λ u m. mark (push (kind a) t) (does.SetField (member_of h.op)) ∷ []) (λ u. s) a₁ h₂

  -- a container gets the value on top as an item
  pub item_stored : (e₀ e₁ e₂ : Emitted) (owner : Option ℕ) (h : Two) (a b : Expr) (s : Shape)
      → Adds e₀ e₁ (mark (push (kind (two h a b)) (pending globals layout s (two h a b))) does.SetIndex ∷ []) (push (kind a) (pending globals layout s a))
      → Adds e₁ e₂ (store_code globals layout owner s (length e₁.marks) a) s → Adds e₀ e₂ (store_code globals layout owner s (length e₀.marks) (two h a b)) s
  item_stored e₀ e₁ e₂ owner h a b s h₁ h₂ = adds_then (λ u m. store_code globals layout owner s m a) (λ u. s) h₁ h₂

  -- what puts the result under what waits
  abbrev pub under_by : Method → Kind → Expr → Shape → List Marked
  under_by m k r s = under_code (gives_result m && is_item_place r) (pending_count r) (push (kind r) (push k (pending globals layout s r)))

  -- the code of a method that changes its receiver, whose owner has this local
  abbrev changed_by : Shape → ℕ → Method → Option ℕ → Option ℕ → Kind → Expr → Exprs → List Marked
  changed_by s at m slot o k r es =
      let t = push (kind r) (pending globals layout s r) in
      let at_args = at + load_size layout o r in
      let at_store = at_args + exprs_size layout es + 1 + under_size (many_is.Method m slot) r in
      load_code globals layout o s at r ++ (exprs_code globals layout t at_args es ++ mark (with_operands t (kinds_on globals layout es t.operands)) (does.Lib m)
      ∷ ((under_by m k r s ++ store_code globals layout o (with_result globals layout (many_is.Method m slot) k s) at_store r) ++ result_code m s))

  pub nothing_under : (e₀ : Emitted) (m : Method) (k : Kind) (r : Expr) → (gives_result m && is_item_place r) ≡ false → Adds e₀ e₀ (under_by m k r e₀.now) e₀.now
  nothing_under e₀ m k r none = adds_as (under_by m k r e₀.now) (adds_nothing e₀) (sym (ap (λ b. under_code b (pending_count r) (push (kind r) (push k (pending globals layout e₀.now r)))) none))

  pub under_added : (e₀ e₁ e₂ e₃ e₄ e₅ : Emitted) (m : Method) (k : Kind) (r : Expr) (n depth : ℕ) → (gives_result m && is_item_place r) ≡ true → n ≡ pending_count r → depth ≡ length e₀.now.operands
      → TurnsTo e₀ e₁ (pending globals layout e₀.now r) → TurnsTo e₁ e₂ (push k e₁.now) → TurnsTo e₂ e₃ (push (kind r) e₂.now) → Adds e₃ e₄ (mark e₃.now (does.Under n) ∷ []) e₃.now → TurnsTo e₄ e₅ (lowered depth e₄.now)
      → Adds e₀ e₅ (under_by m k r e₀.now) e₀.now
  under_added e₀ e₁ e₂ e₃ e₄ e₅ m k r n depth stands counted at_depth t₁ t₂ t₃ h₄ t₅ =
      let s = e₀.now in
      let u = push (kind r) (push k (pending globals layout s r)) in
      let a₃ = adds_turn (push (kind r)) (adds_turn (push k) (adds_turn (λ v. pending globals layout v r) (adds_nothing e₀) t₁) t₂) t₃ in
      let a₄ = adds_then (λ v i. mark v (does.Under n) ∷ []) (λ v. v) a₃ h₄ in
      let a₅ = subst (λ (v : Shape). Adds e₀ e₅ (mark u (does.Under n) ∷ []) v) (lowered_under globals layout s r (kind r) k depth at_depth) (adds_turn (lowered depth) a₄ t₅) in
      adds_as (under_by m k r s) a₅ (ap (λ i. mark u (does.Under i) ∷ []) counted ∙ sym (ap (λ b. under_code b (pending_count r) u) stands))

  -- the shape behind the call is the one at the begin
  pub lowered_back : (e₀ e₁ e₂ e₃ e₄ : Emitted) (m : Method) (owner : Option ℕ) (r : Expr) (es : Exprs) (depth : ℕ) → depth ≡ length e₀.now.operands
      → Adds e₀ e₁ (load_code globals layout owner e₀.now (length e₀.marks) r) (push (kind r) (pending globals layout e₀.now r))
      → Adds e₁ e₂ (exprs_code globals layout e₁.now (length e₁.marks) es) (with_operands e₁.now (kinds_on globals layout es e₁.now.operands))
      → Adds e₂ e₃ (mark e₂.now (does.Lib m) ∷ []) e₂.now → TurnsTo e₃ e₄ (lowered depth e₃.now) → e₄.now ≡ e₀.now
  lowered_back e₀ e₁ e₂ e₃ e₄ m owner r es depth at_depth h₁ h₂ h₃ t₄ =
      let args = h₂.now ∙ ap (λ (v : Shape). with_operands v (kinds_on globals layout es v.operands)) h₁.now in
      t₄.now ∙ ap (lowered depth) (h₃.now ∙ args) ∙ lowered_above globals layout e₀.now r es depth at_depth

  -- the shape before a changed receiver is stored
  pub change_shape : (e₀ e₁ e₂ e₃ e₄ e₅ e₆ e₇ : Emitted) (m : Method) (slot owner : Option ℕ) (k : Kind) (r : Expr) (es : Exprs) (depth : ℕ) → depth ≡ length e₀.now.operands
      → Adds e₀ e₁ (load_code globals layout owner e₀.now (length e₀.marks) r) (push (kind r) (pending globals layout e₀.now r))
      → Adds e₁ e₂ (exprs_code globals layout e₁.now (length e₁.marks) es) (with_operands e₁.now (kinds_on globals layout es e₁.now.operands))
      → Adds e₂ e₃ (mark e₂.now (does.Lib m) ∷ []) e₂.now → TurnsTo e₃ e₄ (lowered depth e₃.now) → Adds e₄ e₅ (under_by m k r e₄.now) e₄.now → TurnsTo e₅ e₆ (with_result globals layout (many_is.Method m slot) k e₅.now)
      → TurnsTo e₆ e₇ (push (kind r) (pending globals layout e₆.now r))
      → e₇.now ≡ push (kind r) (pending globals layout (with_result globals layout (many_is.Method m slot) k e₀.now) r)
  change_shape e₀ e₁ e₂ e₃ e₄ e₅ e₆ e₇ m slot owner k r es depth at_depth h₁ h₂ h₃ t₄ h₅ t₆ t₇ =
      let behind = with_result globals layout (many_is.Method m slot) k in
      let back = lowered_back e₀ e₁ e₂ e₃ e₄ m owner r es depth at_depth h₁ h₂ h₃ t₄ in
      t₇.now ∙ ap (λ (v : Shape). push (kind r) (pending globals layout v r)) (t₆.now ∙ ap behind (h₅.now ∙ back))

  -- a method that changes its receiver
  pub change_added : (e₀ e₁ e₂ e₃ e₄ e₅ e₆ e₇ e₈ e₉ : Emitted) (m : Method) (slot owner : Option ℕ) (k : Kind) (r : Expr) (es : Exprs) (depth : ℕ) → owner ≡ slot_local layout slot → depth ≡ length e₀.now.operands
      → Adds e₀ e₁ (load_code globals layout owner e₀.now (length e₀.marks) r) (push (kind r) (pending globals layout e₀.now r))
      → Adds e₁ e₂ (exprs_code globals layout e₁.now (length e₁.marks) es) (with_operands e₁.now (kinds_on globals layout es e₁.now.operands))
      → Adds e₂ e₃ (mark e₂.now (does.Lib m) ∷ []) e₂.now → TurnsTo e₃ e₄ (lowered depth e₃.now) → Adds e₄ e₅ (under_by m k r e₄.now) e₄.now → TurnsTo e₅ e₆ (with_result globals layout (many_is.Method m slot) k e₅.now)
      → TurnsTo e₆ e₇ (push (kind r) (pending globals layout e₆.now r))
      → (let behind = with_result globals layout (many_is.Method m slot) k e₀.now in Adds e₇ e₈ (store_code globals layout owner behind (length e₇.marks) r) behind)
      → Adds e₈ e₉ (result_code m e₀.now) e₀.now
      → Adds e₀ e₉ (receiver_code globals layout e₀.now (length e₀.marks) (many_is.Method m slot) k (more r es)) e₀.now
  change_added e₀ e₁ e₂ e₃ e₄ e₅ e₆ e₇ e₈ e₉ m slot owner k r es depth is at_depth h₁ h₂ h₃ t₄ h₅ t₆ t₇ h₈ h₉ =
      let s = e₀.now in
      let at = length e₀.marks in
      let t = push (kind r) (pending globals layout s r) in
      let u = with_operands t (kinds_on globals layout es t.operands) in
      let at_args = at + load_size layout owner r in
      let before_store = load_size layout owner r + exprs_size layout es + 1 + under_size (many_is.Method m slot) r in
      let at_store = at_args + exprs_size layout es + 1 + under_size (many_is.Method m slot) r in
      let loads = load_code globals layout owner s at r in
      let args = exprs_code globals layout t at_args es in
      let behind = with_result globals layout (many_is.Method m slot) k s in
      let call = mark u (does.Lib m) in
      let under = under_by m k r s in
      let long_loads = load_sized globals layout owner s at r in
      let long_args = exprs_sized globals layout t at_args es in
      let long_under = under_sized (gives_result m && is_item_place r) (pending_count r) (push (kind r) (push k (pending globals layout s r))) in
      let a₂ = adds_behind (λ v n. exprs_code globals layout v n es) (λ v. with_operands v (kinds_on globals layout es v.operands)) (load_size layout owner r) long_loads h₁ h₂ in
      let a₃ = adds_then (λ v n. mark v (does.Lib m) ∷ []) (λ v. v) a₂ h₃ in
      let a₄ = subst (λ (v : Shape). Adds e₀ e₄ ((loads ++ args) ++ call ∷ []) v) (lowered_above globals layout s r es depth at_depth) (adds_turn (lowered depth) a₃ t₄) in
      let a₅ = adds_then (λ v n. under_by m k r v) (λ v. v) a₄ h₅ in
      let a₆ = adds_turn (with_result globals layout (many_is.Method m slot) k) a₅ t₆ in
      let a₇ = adds_turn (λ v. push (kind r) (pending globals layout v r)) a₆ t₇ in
      let long : length (((loads ++ args) ++ call ∷ []) ++ under) ≡ before_store
      = omega (arith, length-append ((loads ++ args) ++ call ∷ []) under, length-append (loads ++ args) (call ∷ []), length-append loads args, long_loads, long_args, long_under) in
      let is_store : at + before_store ≡ at_store = omega arith in
      let a₈ = subst (λ (n : ℕ). Adds e₀ e₈ ((((loads ++ args) ++ call ∷ []) ++ under) ++ store_code globals layout owner behind n r) behind) is_store
      (adds_behind (λ v n. store_code globals layout owner behind n r) (λ v. behind) before_store long a₇ h₈) in
      let a₉ = adds_then (λ v n. result_code m s) (λ v. s) a₈ h₉ in
      subst (λ (o : Option ℕ). Adds e₀ e₉ (changed_by s at m slot o k r es) s) is (adds_as (changed_by s at m slot owner k r es) a₉ (simp append_assoc))

  method_changes : (b : Bool) (m n : Method) (slot o : Option ℕ) (change : Method → Option ℕ → List Marked) (ms : List Marked) → (if b then row_is.Changes m slot else row_is.Values) ≡ row_is.Changes n o
      → (if b then change m slot else ms) ≡ change n o
  method_changes true m n slot o change ms is = let first : m ≡ n = cc in let second : slot ≡ o = cc in cc
  method_changes false m n slot o change ms is = cc

  -- the code of such a method, where this is what is done with its parts
  pub changes_code : (s : Shape) (op : ManyOp) (o slot : Option ℕ) (m : Method) (change : ManyOp → List Marked) (ms : List Marked) → row_of op o ≡ row_is.Changes m slot
      → kept_offset globals layout s op o (changing globals layout op (change op) ms) ≡ change (many_is.Method m slot)
  changes_code s (many_is.OfUnit unit_method.Offset at) (Some l) slot m change ms is = cc
  changes_code s (many_is.OfUnit unit_method.Offset at) None slot m change ms is = cc
  changes_code s (many_is.OfUnit _ at) o slot m change ms is = cc
  changes_code s (many_is.Method n i) o slot m change ms is = method_changes (changes n) n m i slot (λ x y. change (many_is.Method x y)) ms is
  changes_code s _ o slot m change ms is = cc

changing_fits : (b : Bool) (m n : Method) (slot o : Option ℕ) (A : Type 0) → (if b then row_is.Changes m slot else row_is.Values) ≡ row_is.Changes n o → OnlyIf b A → A
changing_fits true m n slot o A is h = h
changing_fits false m n slot o A is h = absurd (let z : ⊥ = cc in z)

-- the receiver of such a method is a place in which literals fit
pub receiver_fits : (op : ManyOp) (o slot : Option ℕ) (m : Method) (r : Expr) (es : Exprs) → row_of op o ≡ row_is.Changes m slot → ReceiverFits op (more r es) → PlaceFits r
receiver_fits (many_is.OfUnit unit_method.Offset at) (Some l) slot m r es is h = absurd (let z : ⊥ = cc in z)
receiver_fits (many_is.OfUnit unit_method.Offset at) None slot m r es is h = absurd (let z : ⊥ = cc in z)
receiver_fits (many_is.OfUnit _ at) o slot m r es is h = absurd (let z : ⊥ = cc in z)
receiver_fits (many_is.Method n i) o slot m r es is h = changing_fits (changes n) n m i slot (PlaceFits r) is h
receiver_fits _ o slot m r es is h = absurd (let z : ⊥ = cc in z)
