-- The code of each form of expression does what it means, if that of its parts does.
use Rattle.std.proofs.Common.{◌≡◌, ℕ, ◌+◌, ◌-◌, Bool, true, false, List, [], ◌∷◌, ◌++◌, length, Option, Some, None, Result as Answer, Ok, Err, refl, ap, ◌∙◌, subst, arith}
use Rattle.std.specs.Prelude.{is_some, nat_lt, slice_get, unwrap_or, if◌then◌else◌}
use Rattle.sp_base.specs.declared.kinds.PKind.{PKind}
use Rattle.sp_numbers.specs.declared.width.Width.TheVariants.{W64}
use Rattle.sp_words.specs.declared.operators.BinaryOp.{BinaryOp}
use Rattle.sp_words.specs.declared.operators.BinaryOp.TheVariants as op_is
use Rattle.sp_words.specs.declared.operators.UnaryOp.TheVariants as unary_is
use Rattle.sp_value.specs.Val.{Val, void, bool, uint, bytes, str, unit}
use Rattle.sp_operators.specs.Operators.{unary, binary, cast}
use Rattle.sp_methods.specs.Kinds.{Kind, Bools, Unsigned, Only}
use Rattle.sp_types.specs.Types.{Ty}
use Rattle.sp_typed.specs.declared.words.LeafOp.{LeafOp}
use Rattle.sp_typed.specs.declared.words.LeafOp.TheVariants as leaf_is
use Rattle.sp_typed.specs.declared.words.OneOp.{OneOp}
use Rattle.sp_typed.specs.declared.words.OneOp.TheVariants as one_is
use Rattle.sp_typed.specs.declared.words.TwoOp.{TwoOp}
use Rattle.sp_typed.specs.declared.words.TwoOp.TheVariants as two_is
use Rattle.sp_meaning_states.specs.States.{Reading, State, Gives, Result, ends, got, answer, local_of, parameter_of, member_of}
use Rattle.sp_meaning_states.specs.Reads.{Ask, Read}
use Rattle.sp_meaning_states.specs.Values.{item_at, size_value}
use Rattle.sp_meaning_states.specs.Types.{number_value, plain_type, zero_value}
use Rattle.sp_meaning.specs.Globals.{Globals, label_value}
use Rattle.sp_code_meaning.specs.Layouts.{Layout}
use Rattle.sp_meaning.specs.Operations.{known, negative_literal, range_value, one_means, binary_means, two_means}
use Rattle.sp_code_meaning.specs.Exprs.{leaf_means, expr_means, all_got}
use Rattle.sp_meaning.specs.Operations as bodies
use Rattle.sp_code.specs.declared.instr.Instr.{Instr}
use Rattle.sp_code.specs.declared.instr.Instr.TheVariants as does
use Rattle.sp_code.specs.Machine.{Frame, Plain, At, Goes, put, act, step}
use Rattle.sp_code.specs.Shapes.{Shape, push}
use Rattle.sp_code.specs.Runs.{leads, Runs}
use Rattle.sp_code_programs.specs.exprs.Marked.{Marked, mark, constant}
use Rattle.sp_code_programs.specs.exprs.Code.{unless_literal, one_code, constant_code, leaf_code, binary_code, two_code}
use Rattle.sp_law_code.proofs.exprs_lemmas.Steps.{Does, one as one_step, after_one, act_at, has_instr, then_got, gives, answers, sets, gives_constant, choice}

module _ (p : Plain) (reads : Reading → Ask → Read) where
  -- the same code at an equal address
  pub moved : (at pc : ℕ) (ms : List Marked) (ws : List Val) (means : State → Result) → at ≡ pc → Does p reads at ms ws means → Does p reads pc ms ws means
  moved at pc ms ws means e h = subst (λ n. Does p reads n ms ws means) e h

  -- a constant, and what takes it
  pub then_constant : (pc : ℕ) (s : Shape) (v : Val) (b : List Marked) (ws : List Val) (means : State → Result) → Does p reads (pc + 1) b (v ∷ ws) means → Does p reads pc (constant s v ∷ b) ws means
  then_constant pc s v b ws means h vs x st has =
      let e : pc + 1 + length b ≡ pc + length (constant s v ∷ b) = omega arith in
      after_one p reads _ (At (pc + 1) (v ∷ ws ++ vs) x.frames st) (leads (pc + length (constant s v ∷ b)) vs x) (means st)
      (act_at p reads pc (ws ++ vs) x.frames st (does.Const has.2.0) (has.1 ∙ ap Some has.2.1) ∙ ap (λ o. Goes [] (At (pc + 1) (unwrap_or o void ∷ ws ++ vs) x.frames st)) has.2.2)
      (subst (λ n. Runs p reads (At (pc + 1) (v ∷ ws ++ vs) x.frames st) (leads n vs x) (means st)) e (h vs x st has.3))

  pub literal_does : (pc : ℕ) (s : Shape) (o : Option Val) (ms : List Marked) (means : State → Result) → Does p reads pc ms [] means → Does p reads pc (unless_literal o s ms) [] (λ st. bodies.unless_literal o means st)
  literal_does pc s (Some v) ms means h = gives_constant p reads pc s v
  literal_does pc s None ms means h = h

  -- a range of a bitfield, and what its type makes of it
  bit_does : (pc : ℕ) (s t : Shape) (r : ℕ) (ty : Ty) (v : Val) → Does p reads pc (mark s does.Index ∷ mark t (does.Cast (plain_type ty)) ∷ []) (uint W64 r ∷ v ∷ []) (answer (range_value ty (item_at v (uint W64 r))))
  bit_does pc s t r ty v vs x st has = cases (item_at v (uint W64 r)) (act_at p reads pc (uint W64 r ∷ v ∷ vs) x.frames st does.Index (has_instr p reads pc s does.Index (mark t (does.Cast (plain_type ty)) ∷ []) has))
    where
      cases : (a : Answer Val PKind) → step p reads (At pc (uint W64 r ∷ v ∷ vs) x.frames st) ≡ put a (pc + 1) vs x.frames st
          → Runs p reads (At pc (uint W64 r ∷ v ∷ vs) x.frames st) (leads (pc + 2) vs x) (answer (range_value ty a) st)
      cases (Ok y) e =
          let n : pc + 1 + 1 ≡ pc + 2 = omega arith in
          after_one p reads _ (At (pc + 1) (y ∷ vs) x.frames st) (leads (pc + 2) vs x) (answer (cast y (plain_type ty)) st) e
          (subst (λ n. Runs p reads (At (pc + 1) (y ∷ vs) x.frames st) (leads n vs x) (answer (cast y (plain_type ty)) st)) n
          (answers p reads (pc + 1) t (does.Cast (plain_type ty)) (y ∷ []) (cast y (plain_type ty)) (λ _ _ _. refl) vs x st has.3))
      cases (Err kind) e = one_step p reads _ [] _ e

  -- two parts, and an operator on their values
  both : (pc : ℕ) (s : Shape) (i : Instr) (a b : List Marked) (f : Val → Val → Answer Val PKind) (ma mb : State → Result) → Does p reads pc a [] ma → Does p reads (pc + length a) b [] mb
      → ((x y : Val) (at : ℕ) (vs : List Val) (fs : List Frame) (st : State) → act p reads (Some i) at (y ∷ x ∷ vs) fs st ≡ put (f x y) (at + 1) vs fs st)
      → Does p reads pc (a ++ (b ++ mark s i ∷ [])) [] (λ st. got (λ x st. got (λ y st. answer (f x y) st) (mb st)) (ma st))
  both pc s i a b f ma mb ha hb h =
      then_got p reads pc a (b ++ mark s i ∷ []) [] [] ma (λ x st. got (λ y st. answer (f x y) st) (mb st)) ha
      (λ x. then_got p reads (pc + length a) b (mark s i ∷ []) [] (x ∷ []) mb (λ y st. answer (f x y) st) hb
      (λ y. answers p reads (pc + length a + length b) s i (y ∷ x ∷ []) (f x y) (h x y (pc + length a + length b))))

  pub one_does : (pc : ℕ) (s : Shape) (k : Kind) (o : OneOp) (t : Ty) (v : Val) → Does p reads pc (one_code s k o t) (v ∷ []) (one_means o t v)
  one_does pc s k one_is.Negate t v = answers p reads pc (push k s) (does.Unary unary_is.Negate) (v ∷ []) (unary unary_is.Negate v) (λ _ _ _. refl)
  one_does pc s k one_is.Not t v = answers p reads pc (push k s) (does.Unary unary_is.Not) (v ∷ []) (unary unary_is.Not v) (λ _ _ _. refl)
  one_does pc s k one_is.Complement t v = answers p reads pc (push k s) (does.Unary unary_is.Complement) (v ∷ []) (unary unary_is.Complement v) (λ _ _ _. refl)
  one_does pc s k one_is.Size t v = gives p reads pc (push k s) does.Size (v ∷ []) (λ st. size_value v) (λ _ _ _. refl)
  one_does pc s k (one_is.Cast w) t v = answers p reads pc (push k s) (does.Cast (plain_type t)) (v ∷ []) (cast v (plain_type t)) (λ _ _ _. refl)
  one_does pc s k one_is.Widen t v = answers p reads pc (push k s) (does.Cast (plain_type t)) (v ∷ []) (cast v (plain_type t)) (λ _ _ _. refl)
  one_does pc s k (one_is.Field m) t v = sets p reads pc (push k s) (does.GetField m) (v ∷ []) (λ st. member_of st v m) (λ _ _ _. refl)
  one_does pc s k (one_is.Variable m) t v = sets p reads pc (push k s) (does.GetField m) (v ∷ []) (λ st. member_of st v m) (λ _ _ _. refl)
  one_does pc s k (one_is.Bit r) t v = then_constant pc (push k s) (uint W64 r) (mark (push (Only r) (push k s)) does.Index ∷ mark (push Unsigned s) (does.Cast (plain_type t)) ∷ []) (v ∷ []) (answer (range_value t (item_at v (uint W64 r))))
      (bit_does (pc + 1) (push (Only r) (push k s)) (push Unsigned s) r t v)
  one_does pc s k (one_is.IsSet m) t v = gives p reads pc (push k s) (does.HasField m) (v ∷ []) (λ st. bool (is_some (member_of st v m))) (λ _ _ _. refl)
  one_does pc s k _ t v = λ vs x st has. tt

  module _ (globals : Globals) (layout : Layout) where
    constant_does : (pc : ℕ) (s : Shape) (o : Option (Option Val)) → Does p reads pc (constant_code globals layout s o) [] (λ st. known o (λ o st. known o (λ v st. ends (Gives v) st) st) st)
    constant_does pc s (Some (Some v)) = gives_constant p reads pc s v
    constant_does pc s (Some None) = λ vs x st has. tt
    constant_does pc s None = λ vs x st has. tt

    parameter_does : (pc : ℕ) (s : Shape) (n : ℕ) (b : Bool)
        → Does p reads pc (if b then mark s (does.Load n) ∷ [] else mark s (does.Param (n - layout.own)) ∷ []) [] (λ st. ends (Gives (if b then local_of st n else parameter_of st (n - layout.own))) st)
    parameter_does pc s n true = gives p reads pc s (does.Load n) [] (λ st. local_of st n) (λ _ _ _. refl)
    parameter_does pc s n false = gives p reads pc s (does.Param (n - layout.own)) [] (λ st. parameter_of st (n - layout.own)) (λ _ _ _. refl)

    pub leaf_does : (call : ℕ → List Val → State → Result) (pc : ℕ) (s : Shape) (o : LeafOp) (t : Ty) → Does p reads pc (leaf_code globals layout s o t) [] (leaf_means globals call layout o t)
    leaf_does call pc s leaf_is.True t = gives_constant p reads pc s (bool true)
    leaf_does call pc s leaf_is.False t = gives_constant p reads pc s (bool false)
    leaf_does call pc s (leaf_is.Number n) t = gives_constant p reads pc s (number_value t false n)
    leaf_does call pc s (leaf_is.TypedNumber n) t = gives_constant p reads pc s (number_value t false n)
    leaf_does call pc s (leaf_is.Text x) t = gives_constant p reads pc s (str x)
    leaf_does call pc s (leaf_is.Bytes b) t = gives_constant p reads pc s (bytes b)
    leaf_does call pc s (leaf_is.Empty w) t = gives_constant p reads pc s (zero_value globals.ranges t)
    leaf_does call pc s (leaf_is.Itself x) t = gives p reads pc s does.SelfUnit [] (λ st. unit st.self) (λ _ _ _. refl)
    leaf_does call pc s (leaf_is.Current x) t = gives p reads pc s (does.Load layout.current) [] (λ st. local_of st layout.current) (λ _ _ _. refl)
    leaf_does call pc s (leaf_is.Local l) t = gives p reads pc s (does.Load (layout.first + l)) [] (λ st. local_of st (layout.first + l)) (λ _ _ _. refl)
    leaf_does call pc s (leaf_is.Parameter n x) t = parameter_does pc s n (nat_lt n layout.own)
    leaf_does call pc s (leaf_is.Constant c) t = constant_does pc s (slice_get globals.constants c)
    leaf_does call pc s (leaf_is.Label k l) t = gives_constant p reads pc s (label_value globals k l)
    leaf_does call pc s _ t = λ vs x st has. tt

    -- two parts, by the size of the first, which is the length of its code
    binary_by_length : (pc : ℕ) (s : Shape) (o : BinaryOp) (n : ℕ) (j k : Kind) (a : List Marked) (b : Shape → ℕ → List Marked) (ma mb : State → Result)
        → ((t : Shape) (at : ℕ) → length (b t at) ≡ n) → Does p reads pc a [] ma → ((t : Shape) (at : ℕ) → Does p reads at (b t at) [] mb)
        → Does p reads pc (binary_code globals layout s pc o (length a) n j k a b) [] (binary_means o ma mb)
    binary_by_length pc s op_is.And n j k a b ma mb size ha hb =
        choice p reads pc a (b s (pc + length a + 1)) (constant s (bool false) ∷ []) (push Bools s) (push Bools s) ma mb (ends (Gives (bool false))) (pc + length a + 1 + n + 1) (pc + length a + 1 + n + 1 + 1) (omega (arith, size s (pc + length a + 1))) (omega arith)
        ha (hb s (pc + length a + 1)) (gives_constant p reads (pc + length a + 1 + n + 1) s (bool false))
    binary_by_length pc s op_is.Or n j k a b ma mb size ha hb =
        choice p reads pc a (constant s (bool true) ∷ []) (b s (pc + length a + 1 + 1 + 1)) (push Bools s) (push Bools s) ma (ends (Gives (bool true))) mb (pc + length a + 1 + 1 + 1) (pc + length a + 1 + 1 + 1 + n) (omega arith) (omega (arith, size s (pc + length a + 1 + 1 + 1)))
        ha (gives_constant p reads (pc + length a + 1) s (bool true)) (hb s (pc + length a + 1 + 1 + 1))
    binary_by_length pc s o n j k a b ma mb size ha hb =
        both pc (push k (push j s)) (does.Binary o) a (b (push j s) (pc + length a)) (binary o) ma mb ha (hb (push j s) (pc + length a)) (λ _ _ _ _ _ _. refl)

    two_by_length : (pc : ℕ) (s : Shape) (o : TwoOp) (n : ℕ) (j k : Kind) (a : List Marked) (b : Shape → ℕ → List Marked) (ma mb : State → Result)
        → ((t : Shape) (at : ℕ) → length (b t at) ≡ n) → Does p reads pc a [] ma → ((t : Shape) (at : ℕ) → Does p reads at (b t at) [] mb)
        → Does p reads pc (two_code globals layout s pc o (length a) n j k a b) [] (two_means o ma mb)
    two_by_length pc s (two_is.Binary o) n j k a b ma mb size ha hb = binary_by_length pc s o n j k a b ma mb size ha hb
    two_by_length pc s two_is.Index n j k a b ma mb size ha hb =
        both pc (push k (push j s)) does.Index a (b (push j s) (pc + length a)) item_at ma mb ha (hb (push j s) (pc + length a)) (λ _ _ _ _ _ _. refl)
    two_by_length pc s (two_is.Item i) n j k a b ma mb size ha hb =
        then_got p reads pc a (constant (push j s) (uint W64 i) ∷ mark (push (Only i) (push j s)) does.Index ∷ []) [] [] ma (λ x st. answer (item_at x (uint W64 i)) st) ha
        (λ x. then_constant (pc + length a) (push j s) (uint W64 i) (mark (push (Only i) (push j s)) does.Index ∷ []) (x ∷ []) (answer (item_at x (uint W64 i)))
        (answers p reads (pc + length a + 1) (push (Only i) (push j s)) does.Index (uint W64 i ∷ x ∷ []) (item_at x (uint W64 i)) (λ _ _ _. refl)))

    pub two_does : (pc : ℕ) (s : Shape) (o : TwoOp) (m n : ℕ) (j k : Kind) (a : List Marked) (b : Shape → ℕ → List Marked) (ma mb : State → Result)
        → length a ≡ m → ((t : Shape) (at : ℕ) → length (b t at) ≡ n) → Does p reads pc a [] ma → ((t : Shape) (at : ℕ) → Does p reads at (b t at) [] mb)
        → Does p reads pc (two_code globals layout s pc o m n j k a b) [] (two_means o ma mb)
    two_does pc s o m n j k a b ma mb e size ha hb =
        subst (λ m. Does p reads pc (two_code globals layout s pc o m n j k a b) [] (two_means o ma mb)) e (two_by_length pc s o n j k a b ma mb size ha hb)
