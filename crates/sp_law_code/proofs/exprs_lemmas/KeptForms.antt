-- The code of each form of expression keeps to its shapes, if that of its parts does.
use Rattle.std.proofs.Common.{◌≡◌, ℕ, ◌+◌, ◌-◌, Bool, true, false, List, [], ◌∷◌, ◌++◌, length, Option, Some, None, refl, sym, ap, ◌∙◌, subst, arith}
use Rattle.std.specs.Prelude.{nat_lt, slice_get, if◌then◌else◌}
use Rattle.sp_numbers.specs.declared.width.Width.TheVariants.{W64}
use Rattle.sp_words.specs.declared.operators.BinaryOp.{BinaryOp}
use Rattle.sp_words.specs.declared.operators.BinaryOp.TheVariants as op_is
use Rattle.sp_words.specs.declared.operators.UnaryOp.TheVariants as unary_is
use Rattle.sp_words.specs.Methods.{changes}
use Rattle.sp_value.specs.Val.{Val, void, bool, uint, bytes, str}
use Rattle.sp_operators.specs.declared.plain_type.PlainType.TheVariants as plain
use Rattle.sp_methods.specs.Kinds.{Kind, Bools, Unsigned, Only, UnitOf}
use Rattle.sp_types.specs.Types.{Ty}
use Rattle.sp_typed.specs.declared.words.LeafOp.{LeafOp}
use Rattle.sp_typed.specs.declared.words.LeafOp.TheVariants as leaf_is
use Rattle.sp_typed.specs.declared.words.OneOp.{OneOp}
use Rattle.sp_typed.specs.declared.words.OneOp.TheVariants as one_is
use Rattle.sp_typed.specs.declared.words.TwoOp.{TwoOp}
use Rattle.sp_typed.specs.declared.words.TwoOp.TheVariants as two_is
use Rattle.sp_typed.specs.declared.words.ManyOp.{ManyOp}
use Rattle.sp_typed.specs.declared.words.ManyOp.TheVariants as many_is
use Rattle.sp_typed.specs.declared.words.UnitMethod.TheVariants as unit_method
use Rattle.sp_meaning_states.specs.Types.{number_value, plain_type, zero_value}
use Rattle.sp_meaning.specs.Globals.{Globals, label_value}
use Rattle.sp_code_meaning.specs.Layouts.{Layout}
use Rattle.sp_code.specs.declared.instr.Instr.{Instr}
use Rattle.sp_code.specs.declared.instr.Instr.TheVariants as does
use Rattle.sp_code.specs.Machine.{Plain}
use Rattle.sp_code.specs.Shapes.{Shape, Shapes, with_operands, push, Shown, Keeps}
use Rattle.sp_code_programs.specs.exprs.Marked.{Marked, mark, constant}
use Rattle.sp_code_programs.specs.exprs.Code.{unless_literal, one_code, constant_code, leaf_code, many_code, kept_offset, changing, binary_code, two_code}
use Rattle.sp_law_code.specs.exprs.Parts.{OneOf, OneFits, BinaryFits, TwoFits, ManyFits, Demands, IsLocal, IsParameter, IsConstant, LeafFits, UnlessLiteral}
use Rattle.sp_law_code.proofs.exprs_lemmas.Keeping.{Leads, behind, does_keep, constant_keeps, choice_keeps}

module _ (p : Plain) (shapes : Shapes) where
  -- an equal kind on top
  pub same_top : (pc : ℕ) (ms : List Marked) (s t : Shape) (j k : Kind) → k ≡ j → Leads p shapes pc ms s (push j t) → Leads p shapes pc ms s (push k t)
  same_top pc ms s t j k e h = subst (λ k. Leads p shapes pc ms s (push k t)) (sym e) h

  pub one_keeps : (pc : ℕ) (s : Shape) (j : Kind) (o : OneOp) (t : Ty) (k : Kind) → OneFits p shapes o j t k → Leads p shapes pc (one_code s j o t) (push j s) (push k s)
  one_keeps pc s j one_is.Negate t k fits = does_keep p shapes pc (push j s) (push k s) (does.Unary unary_is.Negate) (λ shown. (j, k, fits, (s.operands, refl, shown)))
  one_keeps pc s j one_is.Not t k fits = does_keep p shapes pc (push j s) (push k s) (does.Unary unary_is.Not) (λ shown. (j, k, fits, (s.operands, refl, shown)))
  one_keeps pc s j one_is.Complement t k fits = does_keep p shapes pc (push j s) (push k s) (does.Unary unary_is.Complement) (λ shown. (j, k, fits, (s.operands, refl, shown)))
  one_keeps pc s j one_is.Size t k fits =
      same_top pc (mark (push j s) does.Size ∷ []) (push j s) s Unsigned k fits.1 (does_keep p shapes pc (push j s) (push Unsigned s) does.Size (λ shown. (j, fits.0, (s.operands, refl, shown))))
  one_keeps pc s j (one_is.Cast w) t k fits = does_keep p shapes pc (push j s) (push k s) (does.Cast (plain_type t)) (λ shown. (j, k, fits, (s.operands, refl, shown)))
  one_keeps pc s j one_is.Widen t k fits = does_keep p shapes pc (push j s) (push k s) (does.Cast (plain_type t)) (λ shown. (j, k, fits, (s.operands, refl, shown)))
  one_keeps pc s j (one_is.Field m) t k fits =
      does_keep p shapes pc (push j s) (push k s) (does.GetField m) (λ shown. (fits.0, k, fits.2, (s.operands, ap (λ j. j ∷ s.operands) fits.1, shown)))
  one_keeps pc s j (one_is.Variable m) t k fits =
      does_keep p shapes pc (push j s) (push k s) (does.GetField m) (λ shown. (fits.0, k, fits.2, (s.operands, ap (λ j. j ∷ s.operands) fits.1, shown)))
  one_keeps pc s j (one_is.Bit r) t k fits =
      behind p shapes pc (constant (push j s) (uint W64 r) ∷ []) (mark (push (Only r) (push j s)) does.Index ∷ mark (push Unsigned s) (does.Cast (plain_type t)) ∷ []) (push j s) (push (Only r) (push j s)) (push k s)
      (constant_keeps p shapes pc (push j s) (Only r) (uint W64 r) (λ units. (W64, refl)))
      (behind p shapes (pc + 1) (mark (push (Only r) (push j s)) does.Index ∷ []) (mark (push Unsigned s) (does.Cast (plain_type t)) ∷ []) (push (Only r) (push j s)) (push Unsigned s) (push k s)
      (does_keep p shapes (pc + 1) (push (Only r) (push j s)) (push Unsigned s) does.Index (λ shown. (j, Only r, Unsigned, fits.0, (s.operands, refl, shown))))
      (does_keep p shapes (pc + 1 + 1) (push Unsigned s) (push k s) (does.Cast (plain_type t)) (λ shown. (Unsigned, k, fits.1, (s.operands, refl, shown)))))
  one_keeps pc s j (one_is.IsSet m) t k fits =
      same_top pc (mark (push j s) (does.HasField m) ∷ []) (push j s) s Bools k fits.2
      (does_keep p shapes pc (push j s) (push Bools s) (does.HasField m) (λ shown. (fits.0, (s.operands, ap (λ j. j ∷ s.operands) fits.1, shown))))
  one_keeps pc s j _ t k fits = absurd fits

  -- two parts, and an operator on their values
  both_keep : (pc : ℕ) (s : Shape) (i j k : Kind) (o : Instr) (a b : List Marked) → Leads p shapes pc a s (push i s) → Leads p shapes (pc + length a) b (push i s) (push j (push i s))
      → ((at : ℕ) → Shown p shapes (at + 1) (push k s) → Keeps p shapes o at (push j (push i s))) → Leads p shapes pc (a ++ (b ++ mark (push j (push i s)) o ∷ [])) s (push k s)
  both_keep pc s i j k o a b ha hb h =
      behind p shapes pc a (b ++ mark (push j (push i s)) o ∷ []) s (push i s) (push k s) ha
      (behind p shapes (pc + length a) b (mark (push j (push i s)) o ∷ []) (push i s) (push j (push i s)) (push k s) hb
      (does_keep p shapes (pc + length a + length b) (push j (push i s)) (push k s) o (h (pc + length a + length b))))

  module _ (globals : Globals) (layout : Layout) where
    pub literal_keeps : (pc : ℕ) (s : Shape) (k : Kind) (o : Option Val) (ms : List Marked) (A : Type 0) → UnlessLiteral p shapes globals layout s.locals s.unit o k A → (A → Leads p shapes pc ms s (push k s))
        → Leads p shapes pc (unless_literal o s ms) s (push k s)
    literal_keeps pc s k (Some v) ms A fits h = constant_keeps p shapes pc s k v fits
    literal_keeps pc s k None ms A fits h = h fits

    pub load_keeps : (pc : ℕ) (s : Shape) (l : ℕ) (k : Kind) → IsLocal p shapes globals layout s.locals s.unit l k → Leads p shapes pc (mark s (does.Load l) ∷ []) s (push k s)
    load_keeps pc s l k fits = does_keep p shapes pc s (push k s) (does.Load l) (λ shown. (k, fits, shown))

    constant_code_keeps : (pc : ℕ) (s : Shape) (o : Option (Option Val)) (k : Kind) → IsConstant p shapes globals layout s.locals s.unit o k → Leads p shapes pc (constant_code globals layout s o) s (push k s)
    constant_code_keeps pc s (Some (Some v)) k fits = constant_keeps p shapes pc s k v fits
    constant_code_keeps pc s (Some None) k fits = constant_keeps p shapes pc s k void fits
    constant_code_keeps pc s None k fits = constant_keeps p shapes pc s k void fits

    parameter_keeps : (pc : ℕ) (s : Shape) (n : ℕ) (k : Kind) (b : Bool) → OneOf b (IsLocal p shapes globals layout s.locals s.unit n k) (IsParameter p shapes globals layout s.locals s.unit (n - layout.own) k)
        → Leads p shapes pc (if b then mark s (does.Load n) ∷ [] else mark s (does.Param (n - layout.own)) ∷ []) s (push k s)
    parameter_keeps pc s n k true fits = load_keeps pc s n k fits
    parameter_keeps pc s n k false fits = does_keep p shapes pc s (push k s) (does.Param (n - layout.own)) (λ shown. (fits.0, fits.1, k, fits.2, fits.3, fits.4, shown))

    pub leaf_keeps : (pc : ℕ) (s : Shape) (o : LeafOp) (t : Ty) (k : Kind) → LeafFits p shapes globals layout s.locals s.unit o t k → Leads p shapes pc (leaf_code globals layout s o t) s (push k s)
    leaf_keeps pc s leaf_is.True t k fits = constant_keeps p shapes pc s k (bool true) fits
    leaf_keeps pc s leaf_is.False t k fits = constant_keeps p shapes pc s k (bool false) fits
    leaf_keeps pc s (leaf_is.Number n) t k fits = constant_keeps p shapes pc s k (number_value t false n) fits
    leaf_keeps pc s (leaf_is.TypedNumber n) t k fits = constant_keeps p shapes pc s k (number_value t false n) fits
    leaf_keeps pc s (leaf_is.Text x) t k fits = constant_keeps p shapes pc s k (str x) fits
    leaf_keeps pc s (leaf_is.Bytes b) t k fits = constant_keeps p shapes pc s k (bytes b) fits
    leaf_keeps pc s (leaf_is.Empty w) t k fits = constant_keeps p shapes pc s k (zero_value globals.ranges t) fits
    leaf_keeps pc s (leaf_is.Itself x) t k fits =
        same_top pc (mark s does.SelfUnit ∷ []) s s (UnitOf fits.0) k fits.2 (does_keep p shapes pc s (push (UnitOf fits.0) s) does.SelfUnit (λ shown. (fits.0, fits.1, shown)))
    leaf_keeps pc s (leaf_is.Current x) t k fits = load_keeps pc s layout.current k fits
    leaf_keeps pc s (leaf_is.Local l) t k fits = load_keeps pc s (layout.first + l) k fits
    leaf_keeps pc s (leaf_is.Parameter n x) t k fits = parameter_keeps pc s n k (nat_lt n layout.own) fits
    leaf_keeps pc s (leaf_is.Constant c) t k fits = constant_code_keeps pc s (slice_get globals.constants c) k fits
    leaf_keeps pc s (leaf_is.Label e l) t k fits = constant_keeps p shapes pc s k (label_value globals e l) fits
    leaf_keeps pc s _ t k fits = constant_keeps p shapes pc s k void fits

    -- two parts, by the size of the first, which is the length of its code
    binary_by_length : (pc : ℕ) (s : Shape) (o : BinaryOp) (n : ℕ) (i j k : Kind) (a : List Marked) (b : Shape → ℕ → List Marked) → BinaryFits p shapes o i j k
        → ((t : Shape) (at : ℕ) → length (b t at) ≡ n) → Leads p shapes pc a s (push i s) → ((ks : List Kind) (at : ℕ) → Leads p shapes at (b (with_operands s ks) at) (with_operands s ks) (push j (with_operands s ks)))
        → Leads p shapes pc (binary_code globals layout s pc o (length a) n i j a b) s (push k s)
    binary_by_length pc s op_is.And n i j k a b fits size ha hb =
        let q = pc + length a + 1 in
        same_top pc (binary_code globals layout s pc op_is.And (length a) n i j a b) s s Bools k fits.2
        (choice_keeps p shapes pc a (b s q) (constant s (bool false) ∷ []) s (push Bools s) (q + n + 1) (q + n + 1 + 1) (omega (arith, size s q)) (omega arith)
        (same_top pc a s s i Bools (sym fits.0) ha) (same_top q (b s q) s s j Bools (sym fits.1) (hb s.operands q)) (constant_keeps p shapes (q + n + 1) s Bools (bool false) (λ units. (false, refl))))
    binary_by_length pc s op_is.Or n i j k a b fits size ha hb =
        let q = pc + length a + 1 + 1 + 1 in
        same_top pc (binary_code globals layout s pc op_is.Or (length a) n i j a b) s s Bools k fits.2
        (choice_keeps p shapes pc a (constant s (bool true) ∷ []) (b s q) s (push Bools s) q (q + n) (omega arith) (omega (arith, size s q))
        (same_top pc a s s i Bools (sym fits.0) ha) (constant_keeps p shapes (pc + length a + 1) s Bools (bool true) (λ units. (true, refl))) (same_top q (b s q) s s j Bools (sym fits.1) (hb s.operands q)))
    binary_by_length pc s o n i j k a b fits size ha hb =
        both_keep pc s i j k (does.Binary o) a (b (push i s) (pc + length a)) ha (hb (i ∷ s.operands) (pc + length a)) (λ at shown. (i, j, k, fits, (s.operands, refl, shown)))

    two_by_length : (pc : ℕ) (s : Shape) (o : TwoOp) (n : ℕ) (i j k : Kind) (a : List Marked) (b : Shape → ℕ → List Marked) (B : Type 0) → TwoFits p shapes o B i j k
        → ((t : Shape) (at : ℕ) → length (b t at) ≡ n) → Leads p shapes pc a s (push i s) → (B → (ks : List Kind) (at : ℕ) → Leads p shapes at (b (with_operands s ks) at) (with_operands s ks) (push j (with_operands s ks)))
        → Leads p shapes pc (two_code globals layout s pc o (length a) n i j a b) s (push k s)
    two_by_length pc s (two_is.Binary o) n i j k a b B fits size ha hb = binary_by_length pc s o n i j k a b fits.1 size ha (hb fits.0)
    two_by_length pc s two_is.Index n i j k a b B fits size ha hb =
        both_keep pc s i j k does.Index a (b (push i s) (pc + length a)) ha (hb fits.0 (i ∷ s.operands) (pc + length a)) (λ at shown. (i, j, k, fits.1, (s.operands, refl, shown)))
    two_by_length pc s (two_is.Item m) n i j k a b B fits size ha hb =
        both_keep pc s i (Only m) k does.Index a (constant (push i s) (uint W64 m) ∷ []) ha (constant_keeps p shapes (pc + length a) (push i s) (Only m) (uint W64 m) (λ units. (W64, refl)))
        (λ at shown. (i, Only m, k, fits, (s.operands, refl, shown)))

    pub two_keep : (pc : ℕ) (s : Shape) (o : TwoOp) (m n : ℕ) (i j k : Kind) (a : List Marked) (b : Shape → ℕ → List Marked) (B : Type 0) → TwoFits p shapes o B i j k
        → length a ≡ m → ((t : Shape) (at : ℕ) → length (b t at) ≡ n) → Leads p shapes pc a s (push i s) → (B → (ks : List Kind) (at : ℕ) → Leads p shapes at (b (with_operands s ks) at) (with_operands s ks) (push j (with_operands s ks)))
        → Leads p shapes pc (two_code globals layout s pc o m n i j a b) s (push k s)
    two_keep pc s o m n i j k a b B fits e size ha hb = subst (λ m. Leads p shapes pc (two_code globals layout s pc o m n i j a b) s (push k s)) e (two_by_length pc s o n i j k a b B fits size ha hb)

    -- what is done with the values of a row, which are of these kinds
    made_keeps : (pc : ℕ) (s : Shape) (o : ManyOp) (n : ℕ) (js ks : List Kind) (k : Kind) → ks ≡ js ++ s.operands → length js ≡ n → ManyFits p shapes o n js k
        → Leads p shapes pc (many_code globals layout (with_operands s ks) o n) (with_operands s ks) (push k s)
    made_keeps pc s many_is.Tuple n js ks k e l fits = does_keep p shapes pc (with_operands s ks) (push k s) (does.MakeTuple n)
        (λ shown. (js, l, (s.operands, e, subst (λ k. Shown p shapes (pc + 1) (push k s)) fits shown)))
    made_keeps pc s many_is.Vector n js ks k e l fits = does_keep p shapes pc (with_operands s ks) (push k s) (does.MakeVector n)
        (λ shown. (fits.0, (s.operands, e ∙ ap (λ js. js ++ s.operands) fits.1, subst (λ k. Shown p shapes (pc + 1) (push k s)) fits.2 shown)))
    made_keeps pc s many_is.Set n js ks k e l fits = does_keep p shapes pc (with_operands s ks) (push k s) (does.MakeSet n)
        (λ shown. (fits.0, (s.operands, e ∙ ap (λ js. js ++ s.operands) fits.1, subst (λ k. Shown p shapes (pc + 1) (push k s)) fits.2 shown)))
    made_keeps pc s many_is.Map n js ks k e l fits = does_keep p shapes pc (with_operands s ks) (push k s) (does.MakeMap n)
        (λ shown. (fits.0, fits.1, fits.2, fits.3, (s.operands, e ∙ ap (λ js. js ++ s.operands) fits.4, subst (λ k. Shown p shapes (pc + 1) (push k s)) fits.5 shown)))
    made_keeps pc s (many_is.Call f) n js ks k e l fits = does_keep p shapes pc (with_operands s ks) (push k s) (does.Call f) (λ shown. (js, k, fits, (s.operands, e, shown)))
    made_keeps pc s (many_is.Convert c) n js ks k e l fits = does_keep p shapes pc (with_operands s ks) (push k s) (does.Cast (plain.Enum c))
        (λ shown. (fits.0, k, fits.2, (s.operands, e ∙ ap (λ js. js ++ s.operands) fits.1, shown)))
    made_keeps pc s (many_is.Method m slot) n js ks k e l fits = does_keep p shapes pc (with_operands s ks) (push k s) (does.Lib m) (λ shown. (js, k ∷ [], fits, (s.operands, e, shown)))
    made_keeps pc s (many_is.OfUnit unit_method.Offset at) n js ks k e l fits = does_keep p shapes pc (with_operands s ks) (push k s) does.Offset
        (λ shown. (fits.0, (s.operands, e ∙ ap (λ js. js ++ s.operands) fits.1, subst (λ k. Shown p shapes (pc + 1) (push k s)) fits.2 shown)))
    made_keeps pc s (many_is.OfUnit _ at) n js ks k e l fits = absurd fits
    made_keeps pc s _ n js ks k e l fits = absurd fits

    row_keeps : (pc : ℕ) (s : Shape) (o : ManyOp) (n : ℕ) (js ks : List Kind) (k : Kind) (ms : List Marked) (A : Type 0) → ks ≡ js ++ s.operands → length js ≡ n → (A → Leads p shapes pc ms s (with_operands s ks))
        → A × ManyFits p shapes o n js k → Leads p shapes pc (ms ++ many_code globals layout (with_operands s ks) o n) s (push k s)
    row_keeps pc s o n js ks k ms A e l h fits =
        behind p shapes pc ms (many_code globals layout (with_operands s ks) o n) s (with_operands s ks) (push k s) (h fits.0) (made_keeps (pc + length ms) s o n js ks k e l fits.1)

    either_keeps : (b : Bool) (pc : ℕ) (s t : Shape) (changed made : List Marked) (A B : Type 0) → OneOf b A B → (b ≡ true → A → Leads p shapes pc changed s t) → (B → Leads p shapes pc made s t)
        → Leads p shapes pc (if b then changed else made) s t
    either_keeps true pc s t changed made A B fits h g = h refl fits
    either_keeps false pc s t changed made A B fits h g = g fits

    -- the call of a method that changes its receiver
    abbrev pub Changed : ManyOp → ℕ → List Marked → Shape → Kind → Type 0
    Changed (many_is.Method m slot) pc changed s k = changes m ≡ true → Leads p shapes pc changed s (push k s)
    Changed op pc changed s k = Unit {0}

    pub many_keep : (pc : ℕ) (s : Shape) (o : ManyOp) (kept : Option ℕ) (n : ℕ) (js ks : List Kind) (k : Kind) (ms changed : List Marked) (A C : Type 0) → ks ≡ js ++ s.operands → length js ≡ n
        → (A → Leads p shapes pc ms s (with_operands s ks)) → (C → Changed o pc changed s k)
        → Demands p shapes o kept (λ l. IsLocal p shapes globals layout s.locals s.unit l k) C (A × ManyFits p shapes o n js k)
        → Leads p shapes pc (kept_offset globals layout s o kept (changing globals layout o changed (ms ++ many_code globals layout (with_operands s ks) o n))) s (push k s)
    many_keep pc s (many_is.Method m slot) kept n js ks k ms changed A C e l ha hc fits =
        either_keeps (changes m) pc s (push k s) changed (ms ++ many_code globals layout (with_operands s ks) (many_is.Method m slot) n) C (A × ManyFits p shapes (many_is.Method m slot) n js k) fits (λ c fits. hc fits c)
        (row_keeps pc s (many_is.Method m slot) n js ks k ms A e l ha)
    many_keep pc s (many_is.OfUnit unit_method.Offset at) (Some l) n js ks k ms changed A C e h ha hc fits = load_keeps pc s l k fits
    many_keep pc s (many_is.OfUnit unit_method.Offset at) None n js ks k ms changed A C e l ha hc fits = row_keeps pc s (many_is.OfUnit unit_method.Offset at) n js ks k ms A e l ha fits
    many_keep pc s (many_is.OfUnit u at) kept n js ks k ms changed A C e l ha hc fits = row_keeps pc s (many_is.OfUnit u at) n js ks k ms A e l ha fits
    many_keep pc s o kept n js ks k ms changed A C e l ha hc fits = row_keeps pc s o n js ks k ms A e l ha fits
