use Rattle.std.proofs.Common.{◌∙◌, ◌++◌, [], ap}
use Rattle.sp_ast.specs.Trees.{trees}
use Rattle.sp_type_modules.specs.Members.{firsts, named_among, unit_items}
use Rattle.sp_type_modules.specs.inside.Kept.{all_joined}
use Rattle.sp_type_units.specs.inside.Shown.{shown}
use Rattle.sp_type_units.proofs.Joining.{joined_are}
use Rattle.sp_type_units.proofs.members.member_table.Goals as goal

pub returns : goal.returns
returns c =
    c.in_ok-table.ensures
    ∙ ap (λ l. all_joined [] (shown l)) c.deref.ensures.value
    ∙ joined_are (shown c.add_items.new.all.items)
    ∙ ap firsts c.in_ok-add_items.ensures
    ∙ ap (λ l. firsts (shown l ++ named_among (trees c.view.result.items))) c.new-all.ensures.items
    ∙ ap (λ u. firsts (named_among (unit_items u))) c.view.ensures
