use Rattle.std.proofs.Common.{◌++◌, ◌∙◌, [], ap, refl, arith}
use Rattle.sp_ast.specs.Trees.{trees, span_of}
use Rattle.sp_type_modules.specs.Members.{unit_items}
use Rattle.sp_type_modules.specs.Heads.{unit_parameters}
use Rattle.sp_type_modules.proofs.Steps.{parameters_are}
use Rattle.sp_type_modules.specs.Taken.{taken_among, parameter_numbers}
use Rattle.sp_type_member_names.specs.inside.Passing.{IsSeen}
use Rattle.sp_type_member_names.proofs.walk.taken_places.Goals as goal

pub returns : goal.returns
returns g c =
    let n = g.N.Naming.numbers c.args.naming.now in
    let type_at = g.N.Naming.types c.args.naming.now in
    let seen = c.nothing_seen-seen.result in
    let marked = c.in_ok-mark_parameters.ensures in
    let params = parameter_numbers n c.view-view.result.parameters in
    let begins : IsSeen params [] (record { near = c.mark_parameters.new.near; kept = seen.kept; trail = seen.trail; places = seen.places }) = record {
      near_is = λ k. (let m = marked k in let z = c.nothing_seen-seen.ensures.seen.near_is k in omega (arith, m, z));
      kept_is = c.nothing_seen-seen.ensures.seen.kept_is;
    } in
    let unit = c.args.unit.now in
    let items = trees c.view-view.result.items in
    c.in_ok-pass_items.ensures.found params [] begins
    ∙ ap (λ l. l ++ taken_among n type_at params [] items) c.nothing_seen-seen.ensures.places
    ∙ ap (λ ps. taken_among n type_at (parameter_numbers n ps) [] items) (parameters_are (span_of unit) c.view-view.result unit unit c.view-view.ensures refl)
    ∙ ap (λ u. taken_among n type_at (parameter_numbers n (unit_parameters unit)) [] (unit_items u)) c.view-view.ensures
