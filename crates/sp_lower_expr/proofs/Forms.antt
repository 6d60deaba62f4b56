-- The code of a node, put together from that of its parts.
use Rattle.std.proofs.Common.{◌≡◌, ℕ, ◌+◌, true, false, List, [], ◌∷◌, ◌++◌, append_assoc, length, refl, sym, ap, subst, ◌∙◌, arith, length-append}
use Rattle.sp_numbers.specs.declared.width.Width.TheVariants.{W64}
use Rattle.sp_words.specs.declared.operators.BinaryOp.TheVariants as op_is
use Rattle.sp_value.specs.Val.{Val, bool, uint}
use Rattle.sp_methods.specs.Kinds.{Kind, Bools, Only}
use Rattle.sp_typed.specs.declared.heads.Three.{Three}
use Rattle.sp_typed.specs.declared.words.TwoOp.{TwoOp}
use Rattle.sp_typed.specs.declared.words.TwoOp.TheVariants as two_is
use Rattle.sp_typed.specs.Exprs.{Expr, three}
use Rattle.sp_meaning.specs.Globals.{Globals}
use Rattle.sp_code_meaning.specs.Layouts.{Layout}
use Rattle.sp_code.specs.declared.instr.Instr.TheVariants as does
use Rattle.sp_code.specs.Shapes.{Shape, push}
use Rattle.sp_code_programs.specs.exprs.Marked.{Marked, mark, constant}
use Rattle.sp_code_programs.specs.exprs.Sizes.{expr_size}
use Rattle.sp_code_programs.specs.exprs.Code.{kind_of, expr_code, binary_code, two_code}
use Rattle.sp_emit.specs.Emitted.{Emitted, Adds, TurnsTo, Redirects, popped}
use Rattle.sp_emit.proofs.Adding.{adds_as, adds_long, adds_then, adds_behind, adds_turn, adds_redirected}
use Rattle.sp_lower_expr.specs.declared.two.Takes.{Takes}
use Rattle.sp_lower_expr.specs.declared.two.Takes.TheVariants as takes_by
use Rattle.sp_lower_expr.specs.declared.two.Joint.TheVariants as joint_is
use Rattle.sp_lower_expr.specs.Joints.{joint_of, taking}
use Rattle.sp_law_code.proofs.exprs_lemmas.Sizes.{expr_sized}

-- A choice: a test, behind it what is done where it holds, and what is done where it doesn't. The ends of both jumps are told when
-- they are known.
pub choice_added : (e₀ e₁ e₂ e₃ e₄ e₅ e₆ e₇ : Emitted) (xs : List Marked) (test : Shape) (ys zs : Shape → ℕ → List Marked) (g f : Shape → Shape) (x y z first second to_second to_end : ℕ)
    → length xs ≡ x → ((t : Shape) (n : ℕ) → length (ys t n) ≡ y) → ((t : Shape) (n : ℕ) → length (zs t n) ≡ z) → ((t : Shape) → popped (g t) ≡ t)
    → Adds e₀ e₁ xs test → first ≡ length e₁.marks → Adds e₁ e₂ (mark e₁.now (does.JumpNot 0) ∷ []) (popped e₁.now)
    → Adds e₂ e₃ (ys e₂.now (length e₂.marks)) (g e₂.now) → second ≡ length e₃.marks → Adds e₃ e₄ (mark e₃.now (does.Jump 0) ∷ []) (popped e₃.now)
    → to_second ≡ length e₄.marks → Redirects e₄ e₅ first (does.JumpNot to_second)
    → Adds e₅ e₆ (zs e₅.now (length e₅.marks)) (f e₅.now) → to_end ≡ length e₆.marks → Redirects e₆ e₇ second (does.Jump to_end)
    → let s = popped test in let at = length e₀.marks in
    Adds e₀ e₇ (xs ++ mark test (does.JumpNot (at + x + 1 + y + 1)) ∷ (ys s (at + x + 1) ++ mark (g s) (does.Jump (at + x + 1 + y + 1 + z)) ∷ zs s (at + x + 1 + y + 1))) (f s)
choice_added e₀ e₁ e₂ e₃ e₄ e₅ e₆ e₇ xs test ys zs g f x y z first second to_second to_end long_x long_y long_z back h₁ at_first h₂ h₃ at_second h₄ at_zs r₁ h₅ at_end r₂ =
    let s = popped test in
    let at = length e₀.marks in
    let at_y = at + x + 1 in
    let at_z = at_y + y + 1 in
    let ym = ys s at_y in
    let zm = zs s at_z in
    let skip = mark test (does.JumpNot 0) in
    let over = mark (g s) (does.Jump 0) in
    let a₂ = adds_then (λ t n. mark t (does.JumpNot 0) ∷ []) popped h₁ h₂ in
    let is_y : at + (x + 1) ≡ at_y = omega arith in
    let a₃ = subst (λ (n : ℕ). Adds e₀ e₃ ((xs ++ skip ∷ []) ++ ys s n) (g s)) is_y (adds_behind ys g (x + 1) (omega (arith, length-append xs (skip ∷ []), long_x)) a₂ h₃) in
    let a₄ = subst (λ (t : Shape). Adds e₀ e₄ (xs ++ skip ∷ (ym ++ over ∷ [])) t) (back s) (adds_as (xs ++ skip ∷ (ym ++ over ∷ [])) (adds_then (λ t n. mark t (does.Jump 0) ∷ []) popped a₃ h₄) (simp append_assoc)) in
    let long₄ : length (xs ++ skip ∷ (ym ++ over ∷ [])) ≡ x + (1 + (y + 1)) = omega (arith, length-append xs (skip ∷ (ym ++ over ∷ [])), length-append ym (over ∷ []), long_x, long_y s at_y) in
    let is_z : to_second ≡ at_z = omega (arith, at_zs, adds_long a₄, long₄) in
    let skips = mark test (does.JumpNot at_z) in
    let a₅ = subst (λ (n : ℕ). Adds e₀ e₅ (xs ++ mark test (does.JumpNot n) ∷ (ym ++ over ∷ [])) s) is_z (adds_redirected xs skip (ym ++ over ∷ []) first (does.JumpNot to_second) a₄ (at_first ∙ adds_long h₁) r₁) in
    let long₅ : length (xs ++ skips ∷ (ym ++ over ∷ [])) ≡ x + (1 + (y + 1)) = omega (arith, length-append xs (skips ∷ (ym ++ over ∷ [])), length-append ym (over ∷ []), long_x, long_y s at_y) in
    let front = xs ++ skips ∷ ym in
    let is_z₅ : at + (x + (1 + (y + 1))) ≡ at_z = omega arith in
    let a₆ = adds_as (front ++ over ∷ zm) (subst (λ (n : ℕ). Adds e₀ e₆ ((xs ++ skips ∷ (ym ++ over ∷ [])) ++ zs s n) (f s)) is_z₅ (adds_behind zs f (x + (1 + (y + 1))) long₅ a₅ h₅)) (simp append_assoc) in
    let long_front : length front ≡ x + (1 + y) = omega (arith, length-append xs (skips ∷ ym), long_x, long_y s at_y) in
    let long₃ : length e₃.marks ≡ at + (x + (1 + y)) = omega (arith, adds_long a₃, length-append (xs ++ skip ∷ []) ym, length-append xs (skip ∷ []), long_x, long_y s at_y) in
    let is_end : to_end ≡ at_z + z = omega (arith, at_end, adds_long a₆, length-append front (over ∷ zm), long_front, long_z s at_z) in
    subst (λ (n : ℕ). Adds e₀ e₇ (xs ++ skips ∷ (ym ++ mark (g s) (does.Jump n) ∷ zm)) (f s)) is_end
    (adds_as (xs ++ skips ∷ (ym ++ mark (g s) (does.Jump to_end) ∷ zm)) (adds_redirected front over zm second (does.Jump to_end) a₆ (at_second ∙ long₃ ∙ ap (λ n. at + n) (sym long_front)) r₂) (simp append_assoc))

module _ (globals : Globals) (layout : Layout) where
  abbrev code : Shape → ℕ → Expr → List Marked
  code s at e = expr_code globals layout s at e

  abbrev kind : Expr → Kind
  kind e = kind_of globals layout e

  abbrev size : Expr → ℕ
  size e = expr_size layout e

  -- an expression that is a test
  pub test_added : (e₀ e₁ e₂ : Emitted) (a : Expr) → Adds e₀ e₁ (code e₀.now (length e₀.marks) a) (push (kind a) e₀.now) → ((s : Shape) (k : Kind) → e₁.now ≡ push k s → TurnsTo e₁ e₂ (push Bools s))
      → Adds e₀ e₂ (code e₀.now (length e₀.marks) a) (push Bools e₀.now)
  test_added e₀ e₁ e₂ a h turns = adds_turn (λ t. push Bools e₀.now) h (turns e₀.now (kind a) h.now)

  pub and_added : (e₀ e₁ e₂ e₃ e₄ e₅ e₆ e₇ : Emitted) (a b : Expr) (v : Val) (first second otherwise end : ℕ) → v ≡ bool false
      → Adds e₀ e₁ (code e₀.now (length e₀.marks) a) (push Bools e₀.now) → first ≡ length e₁.marks → Adds e₁ e₂ (mark e₁.now (does.JumpNot 0) ∷ []) (popped e₁.now)
      → Adds e₂ e₃ (code e₂.now (length e₂.marks) b) (push Bools e₂.now) → second ≡ length e₃.marks → Adds e₃ e₄ (mark e₃.now (does.Jump 0) ∷ []) (popped e₃.now)
      → otherwise ≡ length e₄.marks → Redirects e₄ e₅ first (does.JumpNot otherwise) → Adds e₅ e₆ (constant e₅.now v ∷ []) e₅.now → end ≡ length e₆.marks
      → Redirects e₆ e₇ second (does.Jump end)
      → Adds e₀ e₇ (binary_code globals layout e₀.now (length e₀.marks) op_is.And (size a) (size b) (kind a) (kind b) (code e₀.now (length e₀.marks) a) (λ t n. code t n b)) e₀.now
  and_added e₀ e₁ e₂ e₃ e₄ e₅ e₆ e₇ a b v first second otherwise end is h₁ at₁ h₂ h₃ at₂ h₄ at₃ r₁ h₅ at₄ r₂ =
      choice_added e₀ e₁ e₂ e₃ e₄ e₅ e₆ e₇ (code e₀.now (length e₀.marks) a) (push Bools e₀.now) (λ t n. code t n b) (λ t n. constant t (bool false) ∷ []) (push Bools) (λ t. t) (size a) (size b) 1 first second otherwise end
      (expr_sized globals layout e₀.now (length e₀.marks) a) (λ t n. expr_sized globals layout t n b) (λ t n. refl) (λ t. refl) h₁ at₁ h₂ h₃ at₂ h₄ at₃ r₁
      (subst (λ (w : Val). Adds e₅ e₆ (constant e₅.now w ∷ []) e₅.now) is h₅) at₄ r₂

  pub or_added : (e₀ e₁ e₂ e₃ e₄ e₅ e₆ e₇ e₈ e₉ : Emitted) (a b : Expr) (v : Val) (first second otherwise end : ℕ) → v ≡ bool true
      → Adds e₀ e₁ (code e₀.now (length e₀.marks) a) (push Bools e₀.now) → first ≡ length e₁.marks → Adds e₁ e₂ (mark e₁.now (does.JumpNot 0) ∷ []) (popped e₁.now)
      → Adds e₂ e₃ (constant e₂.now v ∷ []) e₂.now → TurnsTo e₃ e₄ (push Bools e₃.now) → second ≡ length e₄.marks → Adds e₄ e₅ (mark e₄.now (does.Jump 0) ∷ []) (popped e₄.now)
      → otherwise ≡ length e₅.marks → Redirects e₅ e₆ first (does.JumpNot otherwise) → Adds e₆ e₇ (code e₆.now (length e₆.marks) b) (push (kind b) e₆.now) → TurnsTo e₇ e₈ (popped e₇.now)
      → end ≡ length e₈.marks → Redirects e₈ e₉ second (does.Jump end)
      → Adds e₀ e₉ (binary_code globals layout e₀.now (length e₀.marks) op_is.Or (size a) (size b) (kind a) (kind b) (code e₀.now (length e₀.marks) a) (λ t n. code t n b)) e₀.now
  or_added e₀ e₁ e₂ e₃ e₄ e₅ e₆ e₇ e₈ e₉ a b v first second otherwise end is h₁ at₁ h₂ h₃ t₃ at₂ h₄ at₃ r₁ h₅ t₅ at₄ r₂ =
      choice_added e₀ e₁ e₂ e₄ e₅ e₆ e₈ e₉ (code e₀.now (length e₀.marks) a) (push Bools e₀.now) (λ t n. constant t (bool true) ∷ []) (λ t n. code t n b) (push Bools) (λ t. t) (size a) 1 (size b) first second otherwise end
      (expr_sized globals layout e₀.now (length e₀.marks) a) (λ t n. refl) (λ t n. expr_sized globals layout t n b) (λ t. refl) h₁ at₁ h₂
      (adds_turn (push Bools) (subst (λ (w : Val). Adds e₂ e₃ (constant e₂.now w ∷ []) e₂.now) is h₃) t₃) at₂ h₄ at₃ r₁ (adds_turn popped h₅ t₅) at₄ r₂

  pub three_added : (e₀ e₁ e₂ e₃ e₄ e₅ e₆ e₇ e₈ : Emitted) (h : Three) (c a b : Expr) (first second otherwise end : ℕ)
      → Adds e₀ e₁ (code e₀.now (length e₀.marks) c) (push Bools e₀.now) → first ≡ length e₁.marks → Adds e₁ e₂ (mark e₁.now (does.JumpNot 0) ∷ []) (popped e₁.now)
      → Adds e₂ e₃ (code e₂.now (length e₂.marks) a) (push (kind a) e₂.now) → second ≡ length e₃.marks → Adds e₃ e₄ (mark e₃.now (does.Jump 0) ∷ []) (popped e₃.now)
      → otherwise ≡ length e₄.marks → Redirects e₄ e₅ first (does.JumpNot otherwise) → Adds e₅ e₆ (code e₅.now (length e₅.marks) b) (push (kind b) e₅.now) → TurnsTo e₆ e₇ (popped e₆.now)
      → end ≡ length e₇.marks → Redirects e₇ e₈ second (does.Jump end) → Adds e₀ e₈ (code e₀.now (length e₀.marks) (three h c a b)) e₀.now
  three_added e₀ e₁ e₂ e₃ e₄ e₅ e₆ e₇ e₈ h c a b first second otherwise end h₁ at₁ h₂ h₃ at₂ h₄ at₃ r₁ h₅ t₅ at₄ r₂ =
      choice_added e₀ e₁ e₂ e₃ e₄ e₅ e₇ e₈ (code e₀.now (length e₀.marks) c) (push Bools e₀.now) (λ t n. code t n a) (λ t n. code t n b) (push (kind a)) (λ t. t) (size c) (size a) (size b) first second otherwise end
      (expr_sized globals layout e₀.now (length e₀.marks) c) (λ t n. expr_sized globals layout t n a) (λ t n. expr_sized globals layout t n b) (λ t. refl) h₁ at₁ h₂ h₃ at₂ h₄ at₃ r₁ (adds_turn popped h₅ t₅) at₄ r₂

  -- two parts that are taken at once
  both_code : (s : Shape) (at : ℕ) (op : TwoOp) (takes : Takes) (m n : ℕ) (j k : Kind) (xs : List Marked) (ys : Shape → ℕ → List Marked) → joint_of op ≡ joint_is.Both takes
      → two_code globals layout s at op m n j k xs ys ≡ xs ++ (ys (push j s) (at + m) ++ mark (push k (push j s)) (taking takes) ∷ [])
  both_code s at (two_is.Binary op_is.And) takes m n j k xs ys is = cc
  both_code s at (two_is.Binary op_is.Or) takes m n j k xs ys is = cc
  both_code s at (two_is.Binary o) takes m n j k xs ys is =
      let same : takes_by.Operator o ≡ takes = cc in ap (λ (t : Takes). xs ++ (ys (push j s) (at + m) ++ mark (push k (push j s)) (taking t) ∷ [])) same
  both_code s at two_is.Index takes m n j k xs ys is =
      let same : takes_by.Index ≡ takes = cc in ap (λ (t : Takes). xs ++ (ys (push j s) (at + m) ++ mark (push k (push j s)) (taking t) ∷ [])) same
  both_code s at (two_is.Item i) takes m n j k xs ys is = cc

  item_code : (s : Shape) (at : ℕ) (op : TwoOp) (i m n : ℕ) (j k : Kind) (xs : List Marked) (ys : Shape → ℕ → List Marked) → joint_of op ≡ joint_is.Item i
      → two_code globals layout s at op m n j k xs ys ≡ xs ++ constant (push j s) (uint W64 i) ∷ mark (push (Only i) (push j s)) does.Index ∷ []
  item_code s at (two_is.Binary op_is.And) i m n j k xs ys is = cc
  item_code s at (two_is.Binary op_is.Or) i m n j k xs ys is = cc
  item_code s at (two_is.Binary o) i m n j k xs ys is = cc
  item_code s at two_is.Index i m n j k xs ys is = cc
  item_code s at (two_is.Item l) i m n j k xs ys is =
      let same : l ≡ i = cc in ap (λ (x : ℕ). xs ++ constant (push j s) (uint W64 x) ∷ mark (push (Only x) (push j s)) does.Index ∷ []) same

  pub both_added : (e₀ e₁ e₂ e₃ : Emitted) (op : TwoOp) (a b : Expr) (takes : Takes) → joint_of op ≡ joint_is.Both takes → Adds e₀ e₁ (code e₀.now (length e₀.marks) a) (push (kind a) e₀.now)
      → Adds e₁ e₂ (code e₁.now (length e₁.marks) b) (push (kind b) e₁.now) → Adds e₂ e₃ (mark (push (kind b) (push (kind a) e₀.now)) (taking takes) ∷ []) e₀.now
      → Adds e₀ e₃ (two_code globals layout e₀.now (length e₀.marks) op (size a) (size b) (kind a) (kind b) (code e₀.now (length e₀.marks) a) (λ t n. code t n b)) e₀.now
  both_added e₀ e₁ e₂ e₃ op a b takes is h₁ h₂ h₃ =
      let s = e₀.now in
      let at = length e₀.marks in
      let last = mark (push (kind b) (push (kind a) s)) (taking takes) ∷ [] in
      let a₂ = adds_behind (λ t n. code t n b) (push (kind b)) (size a) (expr_sized globals layout s at a) h₁ h₂ in
      adds_as _ (adds_then (λ t n. last) (λ t. s) a₂ h₃)
      (append_assoc (code s at a) (code (push (kind a) s) (at + size a) b) last ∙ sym (both_code s at op takes (size a) (size b) (kind a) (kind b) (code s at a) (λ t n. code t n b) is))

  pub item_added : (e₀ e₁ e₂ : Emitted) (op : TwoOp) (a b : Expr) (i : ℕ) → joint_of op ≡ joint_is.Item i → Adds e₀ e₁ (code e₀.now (length e₀.marks) a) (push (kind a) e₀.now)
      → Adds e₁ e₂ (constant (push (kind a) e₀.now) (uint W64 i) ∷ mark (push (Only i) (push (kind a) e₀.now)) does.Index ∷ []) e₀.now
      → Adds e₀ e₂ (two_code globals layout e₀.now (length e₀.marks) op (size a) (size b) (kind a) (kind b) (code e₀.now (length e₀.marks) a) (λ t n. code t n b)) e₀.now
  item_added e₀ e₁ e₂ op a b i is h₁ h₂ =
      let s = e₀.now in
      let at = length e₀.marks in
      adds_as _ (adds_then (λ t n. constant (push (kind a) s) (uint W64 i) ∷ mark (push (Only i) (push (kind a) s)) does.Index ∷ []) (λ t. s) h₁ h₂)
      (sym (item_code s at op i (size a) (size b) (kind a) (kind b) (code s at a) (λ t n. code t n b) is))
