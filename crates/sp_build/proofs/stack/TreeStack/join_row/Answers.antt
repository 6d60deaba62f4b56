use Rattle.std.proofs.Common.{sym, subst, arith, ◌∙◌, ap}
use Rattle.sp_ast.specs.Trees.{in_row}
use Rattle.sp_ast.specs.Places.{trees_at}
use Rattle.sp_build.specs.Stacks.{last_trees, AreTrees}
use Rattle.sp_build.proofs.Held.{count_within, parts_places, parts_trees, places_drop, left_out_holds, joined_row}
use Rattle.sp_build.proofs.stack.TreeStack.join_row.Goals as goal

pub overflow_sub-from : goal.overflow_sub-from
overflow_sub-from c =
    let within = count_within _ _ _ c.args.count c.self.invariant (subst (AreTrees c.args.count) (sym c.self.view_is) c.requires) in
    omega (arith, within, c.len-end.ensures)

pub push_row-requires : goal.push_row-requires
push_row-requires c =
    let within = count_within _ _ _ c.args.count c.self.invariant (subst (AreTrees c.args.count) (sym c.self.view_is) c.requires) in
    let p = parts_places c.self.inside.places.items c.deref.result.now _ c.args.count c.len-end.result (c.deref.ensures.value ∙ c.in_ok-push.ensures.items) (omega (arith, c.len-end.ensures)) (omega (arith, within, c.len-end.ensures)) in
    record { places = rw p (places_drop _ _ _ c.self.invariant.known) }

pub invariant_of-self-in_err-at : goal.invariant_of-self-in_err-at
invariant_of-self-in_err-at c = rw (c.in_err-at.ensures.err, c.in_ok-push.ensures.items) (left_out_holds _ _ _ c.self.invariant c.are_sound.ensures.few).0

pub invariant_of-self-2 : goal.invariant_of-self-2
invariant_of-self-2 c =
    let are = subst (AreTrees c.args.count) (sym c.self.view_is) c.requires in
    let within = count_within _ _ _ c.args.count c.self.invariant are in
    let p = parts_places c.self.inside.places.items c.deref.result.now _ c.args.count c.len-end.result (c.deref.ensures.value ∙ c.in_ok-push.ensures.items) (omega (arith, c.len-end.ensures)) (omega (arith, within, c.len-end.ensures)) in
    let q = parts_trees _ _ _ c.args.count c.self.invariant are in
    let same = ap in_row (ap (trees_at c.self.inside.arena) p ∙ q ∙ ap (last_trees c.args.count) c.self.view_is) in
    (joined_row c.self.inside.arena c.push_row.new.self c.in_ok-at.ensures.stay.0 c.self.inside.places.items c.replace_from.new.places.items c.push.new.self.items c.self.inside.begins.items c.args.count c.len-end.result c.in_ok-at.at _ _ c.args.self.now c.self.invariant c.requires c.self.view_is c.in_ok-at.ensures.stay.1 c.in_ok-at.ensures.ok.1 (c.in_ok-at.ensures.ok.0 ∙ same) c.are_sound-2.ensures.few (omega (arith, c.len-end.ensures)) c.in_ok-push.ensures.items c.replace_from.ensures).holds

pub returns : goal.returns
returns c =
    let are = subst (AreTrees c.args.count) (sym c.self.view_is) c.requires in
    let within = count_within _ _ _ c.args.count c.self.invariant are in
    let p = parts_places c.self.inside.places.items c.deref.result.now _ c.args.count c.len-end.result (c.deref.ensures.value ∙ c.in_ok-push.ensures.items) (omega (arith, c.len-end.ensures)) (omega (arith, within, c.len-end.ensures)) in
    let q = parts_trees _ _ _ c.args.count c.self.invariant are in
    let same = ap in_row (ap (trees_at c.self.inside.arena) p ∙ q ∙ ap (last_trees c.args.count) c.self.view_is) in
    (joined_row c.self.inside.arena c.push_row.new.self c.in_ok-at.ensures.stay.0 c.self.inside.places.items c.replace_from.new.places.items c.push.new.self.items c.self.inside.begins.items c.args.count c.len-end.result c.in_ok-at.at _ _ c.args.self.now c.self.invariant c.requires c.self.view_is c.in_ok-at.ensures.stay.1 c.in_ok-at.ensures.ok.1 (c.in_ok-at.ensures.ok.0 ∙ same) c.are_sound-2.ensures.few (omega (arith, c.len-end.ensures)) c.in_ok-push.ensures.items c.replace_from.ensures).stack
