-- The code of steps, as an emitter grows.
use Rattle.std.proofs.Common.{◌≡◌, ◌<◌, ◌≤◌, ℕ, zero, suc, List, [], ◌∷◌, ◌++◌, length, get_or, refl, sym, ap, subst, ◌∙◌, arith, length-append}
use Rattle.std.specs.Prelude.{slice_set}
use Rattle.std.specs.List.{AllByRecursion}
use Rattle.sp_value.specs.Val.{Val}
use Rattle.sp_methods.specs.Kinds.{Kind}
use Rattle.sp_code.specs.declared.instr.Instr.{Instr}
use Rattle.sp_code.specs.declared.instr.Instr.TheVariants.{Const}
use Rattle.sp_code.specs.declared.program.RoundRow.{RoundRow}
use Rattle.sp_code.specs.declared.program.RoundRow.TheVariants as round_is
use Rattle.sp_code.specs.declared.program.ShapeRow.{ShapeRow}
use Rattle.sp_code.specs.Programs.{round_of}
use Rattle.sp_code.specs.Shapes.{Shape, OfFunction}
use Rattle.sp_code_programs.specs.exprs.Marked.{Marked, mark, constant}
use Rattle.sp_emit.specs.declared.emitter.Step.{Step}
use Rattle.sp_emit.specs.Kinds.{Grows}
use Rattle.sp_emit.specs.Stacks.{Extends}
use Rattle.sp_emit.specs.Numbered.{RowParts, Numbered, row_parts, shape_in, Moves, HasRows, IsRow, RoundBelow, AreBelow}
use Rattle.sp_emit.specs.Emitted.{Adds, TurnsTo, redirected, IsOther, value_at, marked, ConstantBelow}
use Rattle.sp_emit.specs.inside.Fields.{step_mark, marks_in, emitted_of, IsStep, StandsOn}
use Rattle.sp_emit.proofs.Growing.{grows_not, grows_long, kind_before, kinds_before, below_longer}
use Rattle.sp_emit.proofs.Listed.{extends_not, extends_long, stack_before}

-- any list
pub all_more : {A : Type 0} (P : A → Type 0) (xs : List A) (x : A) → AllByRecursion P xs → P x → AllByRecursion P (xs ++ x ∷ [])
all_more P [] x all h = (h, tt)
all_more P (y ∷ xs) x all h = (all.0, all_more P xs x all.1 h)

pub all_weaker : {A : Type 0} (P Q : A → Type 0) → ((x : A) → P x → Q x) → (xs : List A) → AllByRecursion P xs → AllByRecursion Q xs
all_weaker P Q f [] all = tt
all_weaker P Q f (x ∷ xs) all = (f x all.0, all_weaker P Q f xs all.1)

-- shapes where kinds grow
round_before : (ks js : List Kind) (r : RoundRow) → Grows ks js → RoundBelow (length ks) r → round_of js r ≡ round_of ks r
round_before ks js (round_is.Function k) g h = ap OfFunction (kind_before ks js k g h)
round_before ks js _ g h = refl

pub shape_before : (ks js : List Kind) (s : RowParts) → Grows ks js → AreBelow (length ks) s → shape_in js s ≡ shape_in ks s
shape_before ks js s g h =
    let round = round_before ks js s.round g h.round in
    let locals = kinds_before ks js s.locals g h.locals in
    let operands = kinds_before ks js s.operands g h.operands in cc

round_longer : (m n : ℕ) (r : RoundRow) → m ≤ n → RoundBelow m r → RoundBelow n r
round_longer m n (round_is.Function k) le h = omega (arith, le, h)
round_longer m n _ le h = tt

pub parts_longer : (m n : ℕ) (s : RowParts) → m ≤ n → AreBelow m s → AreBelow n s
parts_longer m n s le h =
    record {
      round = round_longer m n s.round le h.round;
      locals = below_longer m n s.locals le h.locals;
      operands = below_longer m n s.operands le h.operands;
    }

-- shapes where rows grow
parts_before : (ss ts : List (List ℕ)) (r : ShapeRow) → Extends ss ts → HasRows (length ss) r → row_parts ts r ≡ row_parts ss r
parts_before ss ts r g h =
    let locals = stack_before ss ts r.locals g h.locals in
    let operands = stack_before ss ts r.operands g h.operands in cc

rows_longer : (m n : ℕ) (r : ShapeRow) → m ≤ n → HasRows m r → HasRows n r
rows_longer m n r le h = record { locals = omega (arith, le, h.locals); operands = omega (arith, le, h.operands) }

-- instructions where constants grow
constant_longer : (m n : ℕ) (i : Instr) → m ≤ n → ConstantBelow m i → ConstantBelow n i
constant_longer m n (Const c) le h = omega (arith, le, h)
constant_longer m n _ le h = tt

value_before : (vs ws : List Val) (n : ℕ) → n < length vs → value_at (vs ++ ws) n ≡ value_at vs n
value_before [] ws n h = absurd (let z : ⊥ = omega (arith, h) in z)
value_before (v ∷ vs) ws zero h = refl
value_before (v ∷ vs) ws (suc n) h = value_before vs ws n (omega (arith, h))

last_value : (vs : List Val) (v : Val) → value_at (vs ++ v ∷ []) (length vs) ≡ v
last_value [] v = refl
last_value (w ∷ vs) v = last_value vs v

marked_before : (vs ws : List Val) (s : Shape) (i : Instr) → ConstantBelow (length vs) i → marked (vs ++ ws) s i ≡ marked vs s i
marked_before vs ws s (Const c) h = ap (λ v. constant s v) (value_before vs ws c h)
marked_before vs ws s _ h = refl

pub marked_other : (vs : List Val) (s : Shape) (i : Instr) → IsOther i → marked vs s i ≡ mark s i
marked_other vs s (Const c) h = absurd h
marked_other vs s _ h = refl

pub other_below : (n : ℕ) (i : Instr) → IsOther i → ConstantBelow n i
other_below n (Const c) h = absurd h
other_below n _ h = tt

-- steps
step_longer : (k l m n : ℕ) (ss ts : List (List ℕ)) → k ≤ l → m ≤ n → Extends ss ts → (x : Step) → IsStep k ss m x → IsStep l ts n x
step_longer k l m n ss ts le lt g x h =
    record {
      rows = rows_longer (length ss) (length ts) x.before (extends_long ss ts g) h.rows;
      before = subst (λ (s : RowParts). AreBelow l s) (sym (parts_before ss ts x.before g h.rows)) (parts_longer k l (row_parts ss x.before) le h.before);
      instr = constant_longer m n x.instr lt h.instr;
    }

steps_longer : (k l m n : ℕ) (ss ts : List (List ℕ)) (xs : List Step) → k ≤ l → m ≤ n → Extends ss ts → AllByRecursion (IsStep k ss m) xs → AllByRecursion (IsStep l ts n) xs
steps_longer k l m n ss ts xs le lt g = all_weaker (IsStep k ss m) (IsStep l ts n) (step_longer k l m n ss ts le lt g) xs

marks_before : (ks js : List Kind) (ss ts : List (List ℕ)) (vs ws : List Val) (xs : List Step) → Grows ks js → Extends ss ts → AllByRecursion (IsStep (length ks) ss (length vs)) xs → marks_in js ts (vs ++ ws) xs ≡ marks_in ks ss vs xs
marks_before ks js ss ts vs ws [] g more all = refl
marks_before ks js ss ts vs ws (x ∷ xs) g more all =
    let rows = ap (λ (s : RowParts). marked (vs ++ ws) (shape_in js s) x.instr) (parts_before ss ts x.before more all.0.rows) in
    let shape = ap (λ s. marked (vs ++ ws) s x.instr) (shape_before ks js (row_parts ss x.before) g all.0.before) in
    let first = rows ∙ shape ∙ marked_before vs ws (shape_in ks (row_parts ss x.before)) x.instr all.0.instr in
    let others = marks_before ks js ss ts vs ws xs g more all.1 in cc

marks_stay : (ks js : List Kind) (ss ts : List (List ℕ)) (vs : List Val) (xs : List Step) → Grows ks js → Extends ss ts → AllByRecursion (IsStep (length ks) ss (length vs)) xs → marks_in js ts vs xs ≡ marks_in ks ss vs xs
marks_stay ks js ss ts vs xs g more all = ap (λ ws. marks_in js ts ws xs) (sym (append_nil vs)) ∙ marks_before ks js ss ts vs [] xs g more all
  where
    append_nil : (ws : List Val) → ws ++ [] ≡ ws
    append_nil [] = refl
    append_nil (w ∷ ws) = ap (λ l. w ∷ l) (append_nil ws)

pub marks_long : (ks : List Kind) (ss : List (List ℕ)) (vs : List Val) (xs : List Step) → length (marks_in ks ss vs xs) ≡ length xs
marks_long ks ss vs [] = refl
marks_long ks ss vs (x ∷ xs) = ap suc (marks_long ks ss vs xs)

marks_more : (ks : List Kind) (ss : List (List ℕ)) (vs : List Val) (xs : List Step) (x : Step) → marks_in ks ss vs (xs ++ x ∷ []) ≡ marks_in ks ss vs xs ++ step_mark ks ss vs x ∷ []
marks_more ks ss vs [] x = refl
marks_more ks ss vs (y ∷ xs) x = ap (λ ms. step_mark ks ss vs y ∷ ms) (marks_more ks ss vs xs x)

-- more kinds, more rows, and another shape
pub turned_within : (ks js : List Kind) (vs : List Val) (xs : List Step) (m n : Numbered) → Grows ks js → Extends m.stacks n.stacks → AreBelow (length js) n.shape → StandsOn ks vs xs m → StandsOn js vs xs n
turned_within ks js vs xs m n g more below h = record { steps = steps_longer _ _ _ _ m.stacks n.stacks xs (grows_long ks js g) (omega arith) more h.steps; here = below }

pub kinds_within : (ks js : List Kind) (vs : List Val) (xs : List Step) (m : Numbered) → Grows ks js → StandsOn ks vs xs m → StandsOn js vs xs m
kinds_within ks js vs xs m g h = turned_within ks js vs xs m m g (extends_not m.stacks) (parts_longer _ _ m.shape (grows_long ks js g) h.here) h

pub moved_within : (ks : List Kind) (vs : List Val) (xs : List Step) (m n : Numbered) (s : RowParts) → Moves m n s → AreBelow (length ks) s → StandsOn ks vs xs m → StandsOn ks vs xs n
moved_within ks vs xs m n s moved below h = turned_within ks ks vs xs m n (grows_not ks) moved.stacks (subst (λ (t : RowParts). AreBelow (length ks) t) (sym moved.shape) below) h

pub same_within : (ks : List Kind) (vs : List Val) (xs : List Step) (m n : Numbered) → Moves m n m.shape → StandsOn ks vs xs m → StandsOn ks vs xs n
same_within ks vs xs m n moved h = moved_within ks vs xs m n m.shape moved h.here h

pub constants_within : (ks : List Kind) (vs ws : List Val) (xs : List Step) (m : Numbered) → StandsOn ks vs xs m → StandsOn ks (vs ++ ws) xs m
constants_within ks vs ws xs m h = record { steps = steps_longer _ _ _ _ m.stacks m.stacks xs (omega arith) (omega (arith, length-append vs ws)) (extends_not m.stacks) h.steps; here = h.here }

pub turned : (ks js : List Kind) (vs : List Val) (xs : List Step) (m n : Numbered) → Grows ks js → Extends m.stacks n.stacks → StandsOn ks vs xs m
    → TurnsTo (emitted_of ks vs xs m) (emitted_of js vs xs n) (shape_in js n.shape)
turned ks js vs xs m n g more h = record { marks = marks_stay ks js m.stacks n.stacks vs xs g more h.steps; now = refl; kinds = g }

pub moved_to : (ks : List Kind) (vs : List Val) (xs : List Step) (m n : Numbered) (s : RowParts) → Moves m n s → StandsOn ks vs xs m → TurnsTo (emitted_of ks vs xs m) (emitted_of ks vs xs n) (shape_in ks s)
moved_to ks vs xs m n s moved h =
    subst (λ (t : RowParts). TurnsTo (emitted_of ks vs xs m) (emitted_of ks vs xs n) (shape_in ks t)) moved.shape (turned ks ks vs xs m n (grows_not ks) moved.stacks h)

pub same_turned : (ks js : List Kind) (vs : List Val) (xs : List Step) (m : Numbered) → Grows ks js → StandsOn ks vs xs m → TurnsTo (emitted_of ks vs xs m) (emitted_of js vs xs m) (shape_in ks m.shape)
same_turned ks js vs xs m g h = subst (λ t. TurnsTo (emitted_of ks vs xs m) (emitted_of js vs xs m) t) (shape_before ks js m.shape g h.here) (turned ks js vs xs m m g (extends_not m.stacks) h)

-- one more instruction, with the shape at hand
step_appended : (ks : List Kind) (vs : List Val) (xs : List Step) (m n : Numbered) (x : Step) → Extends m.stacks n.stacks → StandsOn ks vs xs m → marks_in ks n.stacks vs (xs ++ x ∷ []) ≡ marks_in ks m.stacks vs xs ++ step_mark ks n.stacks vs x ∷ []
step_appended ks vs xs m n x more h =
    marks_more ks n.stacks vs xs x ∙ ap (λ (ms : List Marked). ms ++ step_mark ks n.stacks vs x ∷ []) (marks_stay ks ks m.stacks n.stacks vs xs (grows_not ks) more h.steps)

pub step_added : (ks : List Kind) (vs : List Val) (xs : List Step) (m n : Numbered) (x : Step) → Moves m n m.shape → IsRow n x.before → IsOther x.instr → StandsOn ks vs xs m
    → Adds (emitted_of ks vs xs m) (emitted_of ks vs (xs ++ x ∷ []) n) (mark (shape_in ks m.shape) x.instr ∷ []) (shape_in ks m.shape)
step_added ks vs xs m n x moved row other h =
    record {
      marks =
          step_appended ks vs xs m n x moved.stacks h
          ∙ ap (λ (y : Marked). marks_in ks m.stacks vs xs ++ y ∷ []) (marked_other vs (shape_in ks (row_parts n.stacks x.before)) x.instr other ∙ ap (λ t. mark (shape_in ks t) x.instr) (row.parts ∙ moved.shape));
      now = ap (λ t. shape_in ks t) moved.shape;
      kinds = grows_not ks;
    }

pub step_within : (ks : List Kind) (vs : List Val) (xs : List Step) (m n : Numbered) (x : Step) → Moves m n m.shape → IsRow n x.before → ConstantBelow (length vs) x.instr → StandsOn ks vs xs m → StandsOn ks vs (xs ++ x ∷ []) n
step_within ks vs xs m n x moved row below h =
    let all = same_within ks vs xs m n moved h in
    record {
      steps = all_more (IsStep (length ks) n.stacks (length vs)) xs x all.steps (record { rows = row.rows; before = subst (λ (t : RowParts). AreBelow (length ks) t) (sym row.parts) all.here; instr = below });
      here = all.here;
    }

-- one more constant, and what gives it
pub constant_added : (ks : List Kind) (vs : List Val) (xs : List Step) (m n : Numbered) (x : Step) (v : Val) → Moves m n m.shape → IsRow n x.before → x.instr ≡ Const (length vs) → StandsOn ks vs xs m
    → Adds (emitted_of ks vs xs m) (emitted_of ks (vs ++ v ∷ []) (xs ++ x ∷ []) n) (constant (shape_in ks m.shape) v ∷ []) (shape_in ks m.shape)
constant_added ks vs xs m n x v moved row gives h =
    record {
      marks =
          marks_more ks n.stacks (vs ++ v ∷ []) xs x
          ∙ ap (λ (ms : List Marked). ms ++ step_mark ks n.stacks (vs ++ v ∷ []) x ∷ []) (marks_before ks ks m.stacks n.stacks vs (v ∷ []) xs (grows_not ks) moved.stacks h.steps)
          ∙ ap (λ (y : Marked). marks_in ks m.stacks vs xs ++ y ∷ [])
          (ap (λ t. marked (vs ++ v ∷ []) (shape_in ks t) x.instr) (row.parts ∙ moved.shape) ∙ ap (λ i. marked (vs ++ v ∷ []) (shape_in ks m.shape) i) gives ∙ ap (λ w. constant (shape_in ks m.shape) w) (last_value vs v));
      now = ap (λ t. shape_in ks t) moved.shape;
      kinds = grows_not ks;
    }

-- another instruction at an address
pub before_marked : (vs : List Val) (s : Shape) (i : Instr) → (marked vs s i).before ≡ s
before_marked vs s (Const c) = refl
before_marked vs s _ = refl

pub step_redirected : (ks : List Kind) (ss : List (List ℕ)) (vs : List Val) (xs : List Step) (n : ℕ) (i : Instr) (x y : Step) → IsOther i → n < length xs → y ≡ get_or xs n y → x.before ≡ y.before → x.instr ≡ i
    → marks_in ks ss vs (slice_set xs n x) ≡ redirected (marks_in ks ss vs xs) n i
step_redirected ks ss vs [] n i x y other lt is same gives = absurd (let z : ⊥ = omega (arith, lt) in z)
step_redirected ks ss vs (w ∷ xs) zero i x y other lt is same gives =
    let s = shape_in ks (row_parts ss w.before) in
    ap (λ (m : Marked). m ∷ marks_in ks ss vs xs)
    (ap (λ b. marked vs (shape_in ks (row_parts ss b)) x.instr) (same ∙ ap (λ (z : Step). z.before) is)
    ∙ ap (λ j. marked vs s j) gives
    ∙ marked_other vs s i other
    ∙ ap (λ t. mark t i) (sym (before_marked vs s w.instr)))
step_redirected ks ss vs (w ∷ xs) (suc n) i x y other lt is same gives = ap (λ (ms : List Marked). step_mark ks ss vs w ∷ ms) (step_redirected ks ss vs xs n i x y other (omega (arith, lt)) is same gives)

pub not_redirected : (ms : List Marked) (n : ℕ) (i : Instr) → length ms ≤ n → redirected ms n i ≡ ms
not_redirected [] n i h = refl
not_redirected (m ∷ ms) zero i h = absurd (let z : ⊥ = omega (arith, h) in z)
not_redirected (m ∷ ms) (suc n) i h = ap (λ (l : List Marked). m ∷ l) (not_redirected ms n i (omega (arith, h)))
