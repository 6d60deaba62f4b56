-- Bodies, pieces of code one behind another, and whole programs count a turn in each cycle.
use Rattle.std.proofs.Common.{◌≡◌, ℕ, zero, suc, ◌+◌, ◌<◌, ◌≤◌, true, false, List, [], ◌∷◌, ◌++◌, length, Option, Some, None, refl, sym, ap, ◌∙◌, subst, arith, length-append, get_or}
use Rattle.std.specs.Prelude.{slice_get}
use Rattle.std.proofs.lemmas.Option.{slice_get_within}
use Rattle.sp_value.specs.Val.{Val}
use Rattle.sp_methods.specs.Kinds.{Kind}
use Rattle.sp_typed.specs.Stmts.{Stmt}
use Rattle.sp_meaning.specs.Globals.{Globals}
use Rattle.sp_code_meaning.specs.Layouts.{Layout}
use Rattle.sp_code.specs.declared.instr.Instr.{Instr}
use Rattle.sp_code.specs.declared.instr.Instr.TheVariants as does
use Rattle.sp_code.specs.Machine.{Plain}
use Rattle.sp_code.specs.Turns.{edges, AreLower}
use Rattle.sp_code.specs.Shapes.{Shape, push}
use Rattle.sp_code_programs.specs.exprs.Marked.{Wanted, Does, Constant, Marked, mark, constant, IsWanted, HasAt}
use Rattle.sp_code_programs.specs.units.Sizes.{stmt_size}
use Rattle.sp_code_programs.specs.units.Code.{stmt_code}
use Rattle.sp_code_programs.specs.units.Bodies.{body_code}
use Rattle.sp_law_code.proofs.bodies_lemmas.Sizes.{stmt_sized}
use Rattle.sp_law_code.specs.turns.Loops.{KeepsToLoops}
use Rattle.sp_law_code.specs.turns.Falling.{leads_to, HaveHeights, AllFall, AreAtMost, joined}
use Rattle.sp_law_code.specs.turns.Heights.{falling, stmt_heights, body_heights}
use Rattle.sp_law_code.specs.turns.Laws.{BodiesTurn, JoinedTurn, PiecesTurn, ProgramsTurn}
use Rattle.sp_law_code.proofs.turns_lemmas.Forward.{fall_both, heights_front, heights_back}
use Rattle.sp_law_code.proofs.turns_lemmas.Falls.{stmt_counted, stmt_falls}
use Rattle.sp_law_code.proofs.turns_lemmas.Low.{low_more, low_both, stmt_low}

module _ (globals : Globals) (layout : Layout) where
  body_falls : (height : ℕ → ℕ) (b : Stmt) (s : Shape) (pc : ℕ) (ending : Val) (k : Kind) → KeepsToLoops false b → HaveHeights height pc (body_heights layout b)
      → AllFall height pc (body_code globals layout s pc ending k b)
  body_falls height b s pc ending k keeps have =
      let n = stmt_size layout b in
      let hs = stmt_heights layout 2 b in
      let last = heights_back height pc n hs (falling 0 2) (stmt_counted layout 2 b) have in
      let of_b = stmt_falls height globals layout b false s pc pc pc 2 keeps (λ e. absurd (let q : false ≡ true = e in cc)) (omega (arith, last.0)) (heights_front height pc hs (falling 0 2) have) in
      fall_both height pc n (stmt_code globals layout s pc pc pc b) (constant s ending ∷ mark (push k s) does.Return ∷ []) (stmt_sized globals layout s pc pc pc b) of_b.0 ((omega (arith, last.0, last.1.0), tt), (tt, tt))

  body_low : (b : Stmt) (s : Shape) (pc : ℕ) (ending : Val) (k : Kind) → AreAtMost (length (body_code globals layout s pc ending k b)) (body_heights layout b)
  body_low b s pc ending k =
      let n = length (body_code globals layout s pc ending k b) in
      let long : n ≡ 2 + stmt_size layout b = omega (arith, length-append {A = Marked}, stmt_sized globals layout s pc pc pc b) in
      low_both (2 + stmt_size layout b) n (stmt_heights layout 2 b) (falling 0 2) (omega (arith, long)) (stmt_low layout 2 b) (omega (arith, long), (omega (arith, long), tt))

pub bodies_turn : BodiesTurn
bodies_turn globals layout b s pc ending k keeps =
    record {
      heights = body_heights layout b;
      count = omega (arith, length-append {A = ℕ}, length-append {A = Marked}, stmt_counted layout 2 b, stmt_sized globals layout s pc pc pc b);
      low = body_low globals layout b s pc ending k;
      fall = λ height have. body_falls globals layout height b s pc ending k keeps have;
    }

pub joined_turn : JoinedTurn
joined_turn pc ms ns x y =
    record {
      heights = x.heights ++ y.heights;
      count = omega (arith, length-append {A = ℕ}, length-append {A = Marked}, x.count, y.count);
      low =
          let n = length (ms ++ ns) in
          low_both (length ms) n x.heights y.heights (omega (arith, length-append {A = Marked})) x.low (low_more (length ns) n y.heights (omega (arith, length-append {A = Marked})) y.low);
      fall = λ height have. fall_both height pc (length ms) ms ns refl (x.fall height (heights_front height pc x.heights y.heights have)) (y.fall height (heights_back height pc (length ms) x.heights y.heights x.count have));
    }

pub pieces_turn : PiecesTurn
pieces_turn pc [] each = record { heights = []; count = refl; low = tt; fall = λ height have. tt }
pieces_turn pc (ms ∷ pieces) each = joined_turn pc ms (joined pieces) each.0 (pieces_turn (pc + length ms) pieces each.1)

-- the height of an address among these, which is that of its place
height_in : (hs : List ℕ) (height : ℕ → ℕ) (pc : ℕ) → ((i : ℕ) → height (pc + i) ≡ get_or hs i 0) → HaveHeights height pc hs
height_in [] height pc h = tt
height_in (k ∷ hs) height pc h = (
  let e : pc ≡ pc + 0 = omega arith in ap height e ∙ h 0,
  height_in hs height (pc + 1) (λ i. let e : pc + 1 + i ≡ pc + suc i = omega arith in ap height e ∙ h (suc i)),
)

no_higher : (most : ℕ) (hs : List ℕ) (i : ℕ) → AreAtMost most hs → get_or hs i 0 ≤ most
no_higher most [] zero low = omega arith
no_higher most [] (suc i) low = omega arith
no_higher most (h ∷ hs) zero low = low.0
no_higher most (h ∷ hs) (suc i) low = no_higher most hs i low.1

-- an instruction that is wanted leads to where code to be leads
leads_so : (consts : List Val) (w : Wanted) (i : Instr) (pc : ℕ) → IsWanted consts w i → leads_to w pc ≡ edges (Some i) pc
leads_so consts (Does j) i pc h = ap (λ j. edges (Some j) pc) (sym h)
leads_so consts (Constant v) i pc h = ap (λ j. edges (Some j) pc) (sym h.1)

module _ (p : Plain) (height : ℕ → ℕ) where
  abbrev FallsAt : ℕ → Type 0
  FallsAt pc = AreLower height (height pc) (edges (slice_get p.code pc) pc)

  -- what falls as code to be does so as code of a program
  falls_in : (ms : List Marked) (pc i : ℕ) → HasAt p pc ms → AllFall height pc ms → i < length ms → FallsAt (pc + i)
  falls_in [] pc i has f l = absurd (omega (arith, l))
  falls_in (m ∷ ms) pc zero has f l =
      let e : pc ≡ pc + 0 = omega arith in
      subst FallsAt e (subst (λ o. AreLower height (height pc) (edges o pc)) (sym has.1) (subst (AreLower height (height pc)) (leads_so p.consts m.wanted has.0 pc has.2) f.0))
  falls_in (m ∷ ms) pc (suc i) has f l = let e : pc + 1 + i ≡ pc + suc i = omega arith in subst FallsAt e (falls_in ms (pc + 1) i has.3 f.1 (omega (arith, l)))

  by_instr : (ms : List Marked) (pc : ℕ) (o : Option Instr) → slice_get p.code pc ≡ o → HasAt p 0 ms → AllFall height 0 ms → length p.code ≡ length ms → AreLower height (height pc) (edges o pc)
  by_instr ms pc None e has f n = tt
  by_instr ms pc (Some i) e has f n =
      let within = slice_get_within p.code pc i e in
      let q : 0 + pc ≡ pc = omega arith in
      subst (λ o. AreLower height (height pc) (edges o pc)) e (subst FallsAt q (falls_in ms 0 pc has f (omega (arith, within, n))))

pub programs_turn : ProgramsTurn
programs_turn p ms turn has n =
    let height = λ (pc : ℕ). get_or turn.heights pc 0 in
    let fall = turn.fall height (height_in turn.heights height 0 (λ i. let e : 0 + i ≡ i = omega arith in ap height e)) in
    record { height = height; low = λ pc. subst (λ most. height pc ≤ most) (sym n) (no_higher (length ms) turn.heights pc turn.low); falls = λ pc. by_instr p height ms pc (slice_get p.code pc) refl has fall n }
