use Rattle.std.proofs.Common.{sym, subst, arith, ◌∙◌, List, ap}
use Rattle.sp_ast.specs.Trees.{Tree, tree}
use Rattle.sp_ast.specs.Places.{trees_at}
use Rattle.sp_build.specs.Stacks.{last_trees, AreTrees}
use Rattle.sp_build.proofs.Held.{count_within, parts_places, parts_trees, places_drop, left_out_holds, joined_tree}
use Rattle.sp_build.proofs.stack.TreeStack.join.Goals as goal

pub overflow_sub-from : goal.overflow_sub-from
overflow_sub-from c =
    let within = count_within _ _ _ c.args.count c.self.invariant (subst (AreTrees c.args.count) (sym c.self.view_is) c.requires.last) in
    omega (arith, within, c.len-end.ensures)

pub push-requires-2-clause-places : goal.push-requires-2-clause-places
push-requires-2-clause-places c =
    let within = count_within _ _ _ c.args.count c.self.invariant (subst (AreTrees c.args.count) (sym c.self.view_is) c.requires.last) in
    let p = parts_places c.self.inside.places.items c.deref.result.now _ c.args.count c.len-end.result (c.deref.ensures.value ∙ c.in-Ok-or_drop.ensures.items) (omega (arith, c.len-end.ensures)) (omega (arith, within, c.len-end.ensures)) in
    rw p (places_drop _ _ _ c.self.invariant.known)

pub push-requires-2-clause-fill : goal.push-requires-2-clause-fill
push-requires-2-clause-fill c =
    let are = subst (AreTrees c.args.count) (sym c.self.view_is) c.requires.last in
    let within = count_within _ _ _ c.args.count c.self.invariant are in
    let p = parts_places c.self.inside.places.items c.deref.result.now _ c.args.count c.len-end.result (c.deref.ensures.value ∙ c.in-Ok-or_drop.ensures.items) (omega (arith, c.len-end.ensures)) (omega (arith, within, c.len-end.ensures)) in
    let q = parts_trees _ _ _ c.args.count c.self.invariant are in
    rw (p, q, c.self.view_is) c.requires.fill

pub invariant_of-self-in_err-at : goal.invariant_of-self-in_err-at
invariant_of-self-in_err-at c = rw (c.in_err-at.ensures.err, c.in-Ok-or_drop.ensures.items) (left_out_holds _ _ _ c.self.invariant c.are_sound.ensures.few).0

pub invariant_of-self-2 : goal.invariant_of-self-2
invariant_of-self-2 c =
    let are = subst (AreTrees c.args.count) (sym c.self.view_is) c.requires.last in
    let within = count_within _ _ _ c.args.count c.self.invariant are in
    let p = parts_places c.self.inside.places.items c.deref.result.now _ c.args.count c.len-end.result (c.deref.ensures.value ∙ c.in-Ok-or_drop.ensures.items) (omega (arith, c.len-end.ensures)) (omega (arith, within, c.len-end.ensures)) in
    let q = parts_trees _ _ _ c.args.count c.self.invariant are in
    let same = ap (λ (l : List Tree). tree c.args.form c.args.span l) (ap (trees_at c.self.inside.arena) p ∙ q ∙ ap (last_trees c.args.count) c.self.view_is) in
    (joined_tree c.self.inside.arena c.push-2.new.self c.self.inside.places.items c.replace_from.new.places.items c.push.new.self.items c.self.inside.begins.items c.args.count c.len-end.result c.in_ok-at.at _ _ _ c.args.self.now c.self.invariant c.requires.last c.self.view_is c.in_ok-at.ensures.ok same c.are_sound-2.ensures.few (omega (arith, c.len-end.ensures)) c.in-Ok-or_drop.ensures.items c.replace_from.ensures).holds

pub returns-2 : goal.returns-2
returns-2 c =
    let are = subst (AreTrees c.args.count) (sym c.self.view_is) c.requires.last in
    let within = count_within _ _ _ c.args.count c.self.invariant are in
    let p = parts_places c.self.inside.places.items c.deref.result.now _ c.args.count c.len-end.result (c.deref.ensures.value ∙ c.in-Ok-or_drop.ensures.items) (omega (arith, c.len-end.ensures)) (omega (arith, within, c.len-end.ensures)) in
    let q = parts_trees _ _ _ c.args.count c.self.invariant are in
    let same = ap (λ (l : List Tree). tree c.args.form c.args.span l) (ap (trees_at c.self.inside.arena) p ∙ q ∙ ap (last_trees c.args.count) c.self.view_is) in
    (joined_tree c.self.inside.arena c.push-2.new.self c.self.inside.places.items c.replace_from.new.places.items c.push.new.self.items c.self.inside.begins.items c.args.count c.len-end.result c.in_ok-at.at _ _ _ c.args.self.now c.self.invariant c.requires.last c.self.view_is c.in_ok-at.ensures.ok same c.are_sound-2.ensures.few (omega (arith, c.len-end.ensures)) c.in-Ok-or_drop.ensures.items c.replace_from.ensures).stack
