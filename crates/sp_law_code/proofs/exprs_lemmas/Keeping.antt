-- Code that keeps to its shapes, and how such code is put together.
use Rattle.std.proofs.Common.{◌≡◌, ℕ, ◌+◌, List, [], ◌∷◌, ◌++◌, length, refl, sym, subst, arith, length-append}
use Rattle.sp_value.specs.Val.{Val}
use Rattle.sp_methods.specs.Kinds.{Kind, Bools, Has}
use Rattle.sp_code.specs.declared.instr.Instr.{Instr}
use Rattle.sp_code.specs.declared.instr.Instr.TheVariants as does
use Rattle.sp_code.specs.Machine.{Plain}
use Rattle.sp_code.specs.Shapes.{Shape, Shapes, push, Shown, Keeps}
use Rattle.sp_code_programs.specs.exprs.Marked.{Marked, mark, constant, Shows}
use Rattle.sp_law_code.specs.exprs.Laws.{AllKeep}

module _ (p : Plain) (shapes : Shapes) where
  -- From one shape to another: where the shapes of the code are shown, and the one behind it, each instruction keeps, and the code
  -- begins with the shape before it.
  abbrev pub Leads : ℕ → List Marked → Shape → Shape → Type 0
  Leads pc ms s t = Shows shapes.at pc ms → Shown p shapes (pc + length ms) t → AllKeep p shapes pc ms × Shown p shapes pc s

  pub shown_at : (at pc : ℕ) (s : Shape) → at ≡ pc → Shown p shapes at s → Shown p shapes pc s
  shown_at at pc s e h = subst (λ n. Shown p shapes n s) e h

  pub shows_front : (pc : ℕ) (a b : List Marked) → Shows shapes.at pc (a ++ b) → Shows shapes.at pc a
  shows_front pc [] b h = tt
  shows_front pc (m ∷ a) b h = (h.0, shows_front (pc + 1) a b h.1)

  pub shows_back : (pc : ℕ) (a b : List Marked) → Shows shapes.at pc (a ++ b) → Shows shapes.at (pc + length a) b
  shows_back pc [] b h = let e : pc ≡ pc + 0 = omega arith in subst (λ n. Shows shapes.at n b) e h
  shows_back pc (m ∷ a) b h =
      let e : pc + 1 + length a ≡ pc + length (m ∷ a) = omega arith in
      subst (λ n. Shows shapes.at n b) e (shows_back (pc + 1) a b h.1)

  pub keep_both : (pc : ℕ) (a b : List Marked) → AllKeep p shapes pc a → AllKeep p shapes (pc + length a) b → AllKeep p shapes pc (a ++ b)
  keep_both pc [] b h g = let e : pc + 0 ≡ pc = omega arith in subst (λ n. AllKeep p shapes n b) e g
  keep_both pc (m ∷ a) b h g =
      let e : pc + length (m ∷ a) ≡ pc + 1 + length a = omega arith in
      (h.0, keep_both (pc + 1) a b h.1 (subst (λ n. AllKeep p shapes n b) e g))

  -- the same code at an equal address
  pub moved : (at pc : ℕ) (ms : List Marked) (s t : Shape) → at ≡ pc → Leads at ms s t → Leads pc ms s t
  moved at pc ms s t e h = subst (λ n. Leads n ms s t) e h

  -- no code
  pub nothing : (pc : ℕ) (s : Shape) → Leads pc [] s s
  nothing pc s shows shown = (tt, shown_at (pc + 0) pc s (omega arith) shown)

  -- one part behind another
  pub behind : (pc : ℕ) (a b : List Marked) (s t u : Shape) → Leads pc a s t → Leads (pc + length a) b t u → Leads pc (a ++ b) s u
  behind pc a b s t u ha hb shows shown =
      let of_b = hb (shows_back pc a b shows) (shown_at (pc + length (a ++ b)) (pc + length a + length b) u (omega (arith, length-append {A = Marked})) shown) in
      let of_a = ha (shows_front pc a b shows) of_b.1 in
      (keep_both pc a b of_a.0 of_b.0, of_a.1)

  -- an instruction, and a constant
  pub does_keep : (pc : ℕ) (s t : Shape) (i : Instr) → (Shown p shapes (pc + 1) t → Keeps p shapes i pc s) → Leads pc (mark s i ∷ []) s t
  does_keep pc s t i h shows shown = ((λ j e. subst (λ j. Keeps p shapes j pc s) (sym e) (h shown), tt), shows.0)

  pub constant_keeps : (pc : ℕ) (s : Shape) (k : Kind) (v : Val) → ((units : List ℕ) → Has units k v) → Leads pc (constant s v ∷ []) s (push k s)
  constant_keeps pc s k v h shows shown = ((λ i e. subst (λ i. Keeps p shapes i pc s) (sym e.1) (v, k, e.2, h, shown), tt), shows.0)

  -- one of two parts, by a Boolean
  pub choice_keeps : (pc : ℕ) (c a b : List Marked) (s t : Shape) (at_b end : ℕ) → at_b ≡ pc + length c + 1 + length a + 1 → end ≡ at_b + length b
      → Leads pc c s (push Bools s) → Leads (pc + length c + 1) a s t → Leads at_b b s t
      → Leads pc (c ++ mark (push Bools s) (does.JumpNot at_b) ∷ (a ++ mark t (does.Jump end) ∷ b)) s t
  choice_keeps pc c a b s t at_b end eb ee hc ha hb shows shown =
      let q = pc + length c + 1 in
      let r = q + length a in
      let of_test = shows_back pc c (mark (push Bools s) (does.JumpNot at_b) ∷ (a ++ mark t (does.Jump end) ∷ b)) shows in
      let of_jump = shows_back q a (mark t (does.Jump end) ∷ b) of_test.1 in
      let last : pc + length (c ++ mark (push Bools s) (does.JumpNot at_b) ∷ (a ++ mark t (does.Jump end) ∷ b)) ≡ end = omega (arith, length-append {A = Marked}, eb, ee) in
      let shown_end = shown_at _ end t last shown in
      let of_b = hb (subst (λ n. Shows shapes.at n b) (sym eb) of_jump.1) (shown_at end (at_b + length b) t ee shown_end) in
      let of_a = ha (shows_front q a (mark t (does.Jump end) ∷ b) of_test.1) of_jump.0 in
      let of_c = hc (shows_front pc c (mark (push Bools s) (does.JumpNot at_b) ∷ (a ++ mark t (does.Jump end) ∷ b)) shows) of_test.0 in
      let test : Keeps p shapes (does.JumpNot at_b) (pc + length c) (push Bools s) = (s.operands, refl, of_a.1, of_b.1) in (
        keep_both pc c (mark (push Bools s) (does.JumpNot at_b) ∷ (a ++ mark t (does.Jump end) ∷ b)) of_c.0 (
          λ i e. subst (λ i. Keeps p shapes i (pc + length c) (push Bools s)) (sym e) test,
          keep_both q a (mark t (does.Jump end) ∷ b) of_a.0 (λ i e. subst (λ i. Keeps p shapes i r t) (sym e) shown_end, subst (λ n. AllKeep p shapes n b) eb of_b.0),
        ),
        of_c.1,
      )
