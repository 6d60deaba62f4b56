use Rattle.std.proofs.Common.{rules, ◌≡◌, ◌==◌, ◌||◌, [], ◌∷◌, refl, ap, ◌∙◌, length}
use Rattle.sp_match.specs.declared.spot.Spot.TheVariants as spot
use Rattle.sp_match.specs.Sets.{has}
use Rattle.sp_match.proofs.Compiling.{only}
use Rattle.sp_match.proofs.Running.{Added, added_begins}
use Rattle.sp_match.proofs.token_set.add_token.Goals as goal

pub returns : goal.returns
returns c = λ tokens e none b.
    let long : c.len-goal.result ≡ length c.args.net.now.items = search rules in
    let a : Added c.args.token.now c.args.start.now.items c.in_ok-entry.entry.items c.join.new.set.items (c.len-goal.result ∷ []) tokens (spot.Goal c.args.number c.literal-kind.result) c.args.net.now.items c.push.new.self.items c.compile.new.net.items = record {
      knows = b;
      pushed = c.in_ok-push.ensures.items;
      goal = refl;
      token = e;
      literal = c.literal-kind.ensures;
      back_is = λ p. only c.len-goal.result p ∙ ap (λ z. p == z) long;
      body = c.in_ok-entry.ensures;
      no_empty = none;
      begin_is = λ p. c.in_ok-join.ensures p ∙ ap (λ z. has c.args.start.now.items p || has z p) c.deref.ensures.value;
    } in
    added_begins a
