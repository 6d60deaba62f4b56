use Rattle.std.proofs.Common.{sym, subst, arith, ◌∙◌, ◌≡◌, reverse}
use Rattle.sp_build.specs.Stacks.{AreTrees, floor_of}
use Rattle.sp_build.proofs.Held.{begun_there, not_begun_there, not_begun_none, floor_of_last, count_within}
use Rattle.sp_build.proofs.stack.TreeStack.begun_under.Goals as goal

pub overflow_sub-len : goal.overflow_sub-len
overflow_sub-len c =
    let within = count_within _ _ _ c.args.count c.self.invariant (subst (AreTrees c.args.count) (sym c.self.view_is) c.requires) in
    omega (arith, within, c.len.ensures)

pub returns-then-begin-len : goal.returns-then-begin-len
returns-then-begin-len c =
    let last = c.in_ok-begin.ensures.some in
    let b = c.in_ok-begin.begin in
    rw (← c.self.view_is) (begun_there _ _ _ last.0 b c.args.count (sym c.deref.ensures.value ∙ last.1) c.self.invariant (subst (AreTrees c.args.count) (sym c.self.view_is) c.requires) (omega (arith, c.if-begin-len.true, c.len.ensures)))

pub returns-else-begin-len : goal.returns-else-begin-len
returns-else-begin-len c =
    let last = c.in_ok-begin.ensures.some in
    let b = c.in_ok-begin.begin in
    let are = subst (AreTrees c.args.count) (sym c.self.view_is) c.requires in
    let within = count_within _ _ _ c.args.count c.self.invariant are in
    let floor : floor_of (reverse c.self.inside.begins.items) ≡ b.below = floor_of_last _ last.0 b (sym c.deref.ensures.value ∙ last.1) in
    rw (← c.self.view_is) (not_begun_there _ _ _ c.args.count c.self.invariant are (omega (arith, floor, within, c.if-begin-len.false, c.len.ensures)))

pub returns-in_err-begin : goal.returns-in_err-begin
returns-in_err-begin c =
    rw (c.from_residual.ensures, ← c.self.view_is) (not_begun_none _ _ _ c.args.count c.self.invariant (subst (AreTrees c.args.count) (sym c.self.view_is) c.requires) (sym c.deref.ensures.value ∙ c.in_err-begin.ensures.none))
