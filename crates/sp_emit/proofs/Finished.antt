-- What was emitted stands in each program that has its parts.
use Rattle.std.proofs.Common.{◌≡◌, ◌<◌, ℕ, zero, suc, ◌+◌, List, [], ◌∷◌, ◌++◌, append_assoc, length, map, refl, sym, ap, subst, ◌∙◌, arith, length-append, Some}
use Rattle.std.specs.Prelude.{slice_get}
use Rattle.std.specs.List.{AllByRecursion}
use Rattle.sp_value.specs.Val.{Val}
use Rattle.sp_methods.specs.Kinds.{Kind}
use Rattle.sp_code.specs.declared.instr.Instr.{Instr}
use Rattle.sp_code.specs.declared.instr.Instr.TheVariants.{Const}
use Rattle.sp_code.specs.declared.program.ShapeRow.{ShapeRow}
use Rattle.sp_code.specs.Machine.{Plain}
use Rattle.sp_code.specs.Programs.{kinds_at, round_of, stack_at, opens_at, shape_of, shapes_at}
use Rattle.sp_code.specs.Shapes.{Shape, Opens}
use Rattle.sp_code_programs.specs.exprs.Marked.{IsWanted, HasAt, Shows}
use Rattle.sp_emit.specs.declared.emitter.Step.{Step}
use Rattle.sp_emit.specs.Numbered.{Numbered, row_parts, shape_in}
use Rattle.sp_emit.specs.Emitted.{marked, value_at, ConstantBelow}
use Rattle.sp_emit.specs.inside.Fields.{step_instr, step_before, marks_in, IsStep, StandsOn}
use Rattle.sp_emit.proofs.Steps.{before_marked, marks_long}

none_open : (n : ℕ) → opens_at [] n ≡ []
none_open zero = refl
none_open (suc n) = refl

shape_by : (ks : List Kind) (ss : List (List ℕ)) (s : ShapeRow) → shape_of ks ss [] s ≡ shape_in ks (row_parts ss s)
shape_by ks ss s =
    let P : List Opens → Shape = λ os. record { unit = s.unit; round = round_of ks s.round; locals = kinds_at ks (stack_at ss s.locals); operands = kinds_at ks (stack_at ss s.operands); opens = os } in
    ap P (none_open s.opens)

next_to : {A : Type 0} (xs : List A) (y : A) (ys : List A) → slice_get (xs ++ y ∷ ys) (length xs) ≡ Some y
next_to [] y ys = refl
next_to (x ∷ xs) y ys = next_to xs y ys

one_longer : {A : Type 0} (xs : List A) (y : A) → length (xs ++ y ∷ []) ≡ length xs + 1
one_longer xs y = omega (arith, length-append xs (y ∷ []))

there : (vs : List Val) (n : ℕ) → n < length vs → slice_get vs n ≡ Some (value_at vs n)
there [] n h = absurd (let z : ⊥ = omega (arith, h) in z)
there (v ∷ vs) zero h = refl
there (v ∷ vs) (suc n) h = there vs n (omega (arith, h))

wanted : (vs : List Val) (s : Shape) (i : Instr) → ConstantBelow (length vs) i → IsWanted vs (marked vs s i).wanted i
wanted vs s (Const c) h = (c, refl, there vs c h)
wanted vs s _ h = refl

shows_behind : (ks : List Kind) (ss : List (List ℕ)) (vs : List Val) (front : List Shape) (xs : List Step) → Shows (front ++ shapes_at ks ss [] (map step_before xs)) (length front) (marks_in ks ss vs xs)
shows_behind ks ss vs front [] = tt
shows_behind ks ss vs front (x ∷ xs) =
    let s = shape_of ks ss [] x.before in
    let rest = shapes_at ks ss [] (map step_before xs) in
    let others = subst (λ (l : List Shape). Shows l (length (front ++ s ∷ [])) (marks_in ks ss vs xs)) (append_assoc front (s ∷ []) rest) (shows_behind ks ss vs (front ++ s ∷ []) xs) in (
      next_to front s rest ∙ ap (λ (t : Shape). Some t) (shape_by ks ss x.before ∙ sym (before_marked vs (shape_in ks (row_parts ss x.before)) x.instr)),
      subst (λ (n : ℕ). Shows (front ++ s ∷ rest) n (marks_in ks ss vs xs)) (one_longer front s) others,
    )

has_behind : (p : Plain) (ks : List Kind) (ss : List (List ℕ)) (front : List Instr) (xs : List Step) → p.code ≡ front ++ map step_instr xs → AllByRecursion (IsStep (length ks) ss (length p.consts)) xs → HasAt p (length front) (marks_in ks ss p.consts xs)
has_behind p ks ss front [] is all = tt
has_behind p ks ss front (x ∷ xs) is all =
    let rest = map step_instr xs in
    let others = has_behind p ks ss (front ++ x.instr ∷ []) xs (is ∙ sym (append_assoc front (x.instr ∷ []) rest)) all.1 in (
      x.instr,
      ap (λ (l : List Instr). slice_get l (length front)) is ∙ next_to front x.instr rest,
      wanted p.consts (shape_in ks (row_parts ss x.before)) x.instr all.0.instr,
      subst (λ (n : ℕ). HasAt p n (marks_in ks ss p.consts xs)) (one_longer front x.instr) others,
    )

map_long : {A B : Type 0} (f : A → B) (xs : List A) → length (map f xs) ≡ length xs
map_long f [] = refl
map_long f (x ∷ xs) = ap suc (map_long f xs)

pub finished : (ks : List Kind) (vs : List Val) (xs : List Step) (m : Numbered) (code : List Instr) (at : List ShapeRow) → StandsOn ks vs xs m → code ≡ map step_instr xs → at ≡ map step_before xs
    → (length code ≡ length (marks_in ks m.stacks vs xs))
    × (length at ≡ length (marks_in ks m.stacks vs xs))
    × ((p : Plain) → p.code ≡ code → p.consts ≡ vs → HasAt p 0 (marks_in ks m.stacks vs xs))
    × ((ss : List (List ℕ)) → ss ≡ m.stacks → Shows (shapes_at ks ss [] at) 0 (marks_in ks m.stacks vs xs))
finished ks vs xs m code at h is_code is_at = (
  ap length is_code ∙ map_long step_instr xs ∙ sym (marks_long ks m.stacks vs xs),
  ap length is_at ∙ map_long step_before xs ∙ sym (marks_long ks m.stacks vs xs),
  λ p is consts.
      subst (λ (ws : List Val). HasAt p 0 (marks_in ks m.stacks ws xs)) consts
      (has_behind p ks m.stacks [] xs (is ∙ is_code) (subst (λ (ws : List Val). AllByRecursion (IsStep (length ks) m.stacks (length ws)) xs) (sym consts) h.steps)),
  λ ss same.
      subst (λ (ts : List (List ℕ)). Shows (shapes_at ks ts [] at) 0 (marks_in ks m.stacks vs xs)) (sym same)
      (subst (λ (l : List ShapeRow). Shows (shapes_at ks m.stacks [] l) 0 (marks_in ks m.stacks vs xs)) (sym is_at) (shows_behind ks m.stacks vs [] xs)),
)
