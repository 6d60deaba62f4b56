use Rattle.std.proofs.Common.{ℕ, List, length, refl, ap, ◌∙◌}
use Rattle.sp_value.specs.Val.{Val}
use Rattle.sp_typed_units.specs.declared.declarations.Member.{Member}
use Rattle.sp_typed_units.specs.declared.declarations.Parameter.{Parameter}
use Rattle.sp_code.specs.Machine.{UnitCode}
use Rattle.sp_meaning.specs.Names.{member_names}
use Rattle.sp_lower.proofs.Counted.{names_long}
use Rattle.sp_lower.proofs.units.entry_of.Goals as goal

pub returns : goal.returns
returns c =
    let x = c.args.x.now in
    let at = c.args.at in
    let with : ℕ → ℕ → List Val → UnitCode =
    λ takes members fresh. record { start = at.start; ending = at.ending; failing = at.failing; keeps = x.uses_input; takes = takes; members = members; fresh = fresh } in
    let names = c.in_ok-members.ensures ∙ ap (λ (l : List Member). member_names l) c.as_slice-2.ensures in
    let takes = c.in_ok-takes.ensures ∙ ap (λ (l : List Parameter). length l) c.as_slice.ensures in
    record {
      plain =
          ap (λ n. with n (length c.in_ok-members.members.items) c.in_ok-fresh.fresh) takes
          ∙ ap (λ n. with (length x.parameters) n c.in_ok-fresh.fresh) (ap (λ (l : List (List ℕ)). length l) names ∙ names_long x.members)
          ∙ ap (λ vs. with (length x.parameters) (length x.members) vs) c.in_ok-fresh.ensures;
      members = names;
      kinds = refl;
    }
