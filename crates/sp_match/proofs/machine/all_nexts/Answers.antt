use Rattle.std.proofs.Common.{rules, ◌≡◌, ◌<◌, ◌≤◌, ◌+◌, ◌∷◌, [], length, length-append, ap, sym, subst, ◌∙◌, inl, inr, arith}
use Rattle.std.proofs.lemmas.List.{get_or_past}
use Rattle.sp_match.specs.Bits.{led}
use Rattle.sp_match.specs.Nets.{at}
use Rattle.sp_match.specs.Tables.{next_of}
use Rattle.sp_match.proofs.Compiling.{order, before_or_not}
use Rattle.sp_match.proofs.Growing.{at_behind}
use Rattle.sp_match.proofs.Stepping.{next_more, next_kept, next_new}
use Rattle.sp_match.proofs.Turns.{at_is}
use Rattle.sp_match.proofs.machine.all_nexts.Goals as goal

pub loop-i-preserved : goal.loop-i-preserved
loop-i-preserved c =
    let v = c.loop-i.invariant in
    let spots : c.in_ok-spots.spots ≡ length c.args.net.now = search rules in
    let net = c.args.net.now in
    let old = c.loop-i.nexts.items in
    let x = c.next_spot.result in
    let long = v.len in
    let here : at net c.loop-i.i ≡ c.index-net-i.result = at_is net c.loop-i.i c.index-net-i.result (omega arith) c.index-net-i.is in
    let items = c.in_ok-push.ensures.items in
    let more = length-append old (x ∷ []) in
    record {
      done = λ p lt small. ap (λ z. led z p) items ∙ elim (order p c.loop-i.i) [
        | inl less ↦ next_kept old x p (omega arith) ∙ v.done p less small
        | inr ge ↦ elim ge [
          | inl e ↦ (let same : at net p ≡ c.index-net-i.result = ap (at net) e ∙ here in
              ap (led _) (e ∙ sym long) ∙ next_new old x ∙ c.next_spot.ensures.next (subst (λ n. next_of c.index-net-i.result < n) (sym spots) (subst (λ z. next_of z < length net) same small)) ∙ ap next_of (sym same))
          | inr gt ↦ absurd (omega arith)
        ]
      ];
      within = λ p. subst (λ z. led z p ≤ length net) (sym items) (elim (next_more old x p) [
        | inl e ↦ (let k = v.within p in omega (arith, e))
        | inr e ↦ (let k = c.next_spot.ensures.within in let same = e.1 in omega (arith, spots))
      ]);
      len = ap length items ∙ more ∙ ap (λ n. n + 1) long;
    }

pub returns-clause-nexts : goal.returns-clause-nexts
returns-clause-nexts c = λ p small. elim (before_or_not p (length c.args.net.now)) [
  | inl lt ↦ c.loop-i.invariant.done p (omega arith) small
  | inr ge ↦ get_or_past c.loop-i.nexts.items p 0 (let v = c.loop-i.invariant.len in let e = c.loop-i.auto.i-end in omega arith) ∙ sym (ap next_of (at_behind c.args.net.now p ge))
]
