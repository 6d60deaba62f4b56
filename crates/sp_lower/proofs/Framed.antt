-- What functions and bodies of hooks begin and end with.
use Rattle.std.proofs.Common.{◌≡◌, ◌<◌, ℕ, List, length, sym, ap, subst, ◌∙◌}
use Rattle.sp_value.specs.Val.{Val}
use Rattle.sp_methods.specs.Kinds.{Kind}
use Rattle.sp_typed.specs.Stmts.{Stmt}
use Rattle.sp_code.specs.declared.program.BodyCode.{BodyCode}
use Rattle.sp_code.specs.Shapes.{Shape, body_shape}
use Rattle.sp_code.specs.Programs.{kind_at, round_of}
use Rattle.sp_emit.specs.Kinds.{IsNumberOf}
use Rattle.sp_emit.specs.Numbered.{RoundBelow}
use Rattle.sp_emit.specs.Emitted.{Emitted}
use Rattle.sp_emit.proofs.Growing.{number_before}
use Rattle.sp_lower_expr.specs.declared.around.Around.{Around}
use Rattle.sp_lower_expr.specs.Around.{layout_in}
use Rattle.sp_lower_stmt.specs.declared.bodies.Frame.{Frame}
use Rattle.sp_code_programs.specs.programs.Routines.{Routine}
use Rattle.sp_lower_tables.specs.Numbers.{GivesNumber, GivesNumbers}
use Rattle.sp_lower_tables.proofs.Numbered.{turns_both}
use Rattle.sp_lower.specs.inside.Laid.{entry_of, placed_at, GivesFrame, IsRoutine}

-- A frame by the number of a kind, and then those of its locals. The round may name the kind.
pub framed : (a b c : Emitted) (k : Kind) (n : ℕ) (ks : List Kind) (t : Shape) (v : Val) (frame : Frame) → GivesNumber a b k n → GivesNumbers b c ks frame.locals.items → frame.kind ≡ n → frame.ending ≡ v
    → (IsNumberOf c.kinds k n → RoundBelow (length c.kinds) frame.round) → (IsNumberOf c.kinds k n → body_shape frame.unit (round_of c.kinds frame.round) ks ≡ t) → GivesFrame a c t v k frame
framed a b c k n ks t v frame h l is_kind is_ending below shape =
    let number = number_before b.kinds c.kinds k n l.same.kinds h.number in
    record {
      same = turns_both a b c h.same l.same;
      stands = record { round = below number; locals = l.numbers.below; kind = subst (λ (m : ℕ). m < length c.kinds) (sym is_kind) number.within };
      shape = ap (λ (js : List Kind). body_shape frame.unit (round_of c.kinds frame.round) js) l.numbers.are ∙ shape number;
      ending = is_ending;
      result = ap (λ (m : ℕ). kind_at c.kinds m) is_kind ∙ number.is;
    }

-- a routine by its frame and its entry
pub routine_is : (a b : Emitted) (x : Around) (frame : Frame) (e : BodyCode) (s : Stmt) (r : Routine) → GivesFrame a b r.shape r.ending r.result frame → layout_in x ≡ r.layout → entry_of e ≡ r.entry → s ≡ r.body
    → IsRoutine x b.kinds frame e s r
routine_is a b x frame e s r h layout entry body =
    record { entry = λ at. ap (placed_at at) entry; layout = layout; shape = h.shape; body = body; ending = h.ending; result = h.result }
