use Rattle.std.proofs.Common.{◌≡◌, ◌-◌, [], ◌∷◌, drop, get_or, refl, sym, subst, ◌∙◌, arith, eq-eqb}
use Rattle.sp_regex.specs.Trees.{literal}
use Rattle.sp_regex.specs.Language.{InL}
use Rattle.sp_match.specs.Parts.{IsCompiled}
use Rattle.sp_match.proofs.Compiling.{only_one, only_same}
use Rattle.sp_match.proofs.Steps.{word_step}
use Rattle.sp_match.proofs.compile.word.Goals as goal

pub add_byte-requires-clause-below : goal.add_byte-requires-clause-below
add_byte-requires-clause-below c = c.loop-i.invariant.so_far.below c.loop-i.spot (only_same c.loop-i.spot c.loop-i.spot refl)

pub add_byte-requires-clause-some : goal.add_byte-requires-clause-some
add_byte-requires-clause-some c = let b = get_or c.args.bytes.now (c.loop-i.i - 1) 0 in (b, c.in_ok-class.ensures b ∙ eq-eqb b b refl)

pub loop-i-preserved : goal.loop-i-preserved
loop-i-preserved c = record {
  within = omega arith;
  so_far = word_step c.args.bytes.now c.loop-i.i (c.loop-i.i - 1) (get_or c.args.bytes.now (c.loop-i.i - 1) 0) c.in_ok-class.class.items (c.args.then ∷ []) (c.loop-i.spot ∷ []) (c.in_ok-spot.spot ∷ []) c.args.net.now.items c.loop-i.net.items c.add_byte.new.net.items
      (let t = c.loop-i-test.true in omega arith) c.loop-i.invariant.within refl c.in_ok-class.ensures (λ p h. let e = only_one c.args.then p h in let r = c.requires in omega arith) c.loop-i.invariant.so_far c.in_ok-spot.ensures;
}

pub returns : goal.returns
returns c =
    let none : c.loop-i.i ≡ 0 = omega arith in
    subst (λ z. IsCompiled (InL (literal c.args.bytes.now)) (c.args.then ∷ []) z c.args.net.now.items c.loop-i.net.items) (sym c.in_ok-entry.ensures)
    (subst (λ n. IsCompiled (InL (literal (drop n c.args.bytes.now))) (c.args.then ∷ []) (c.loop-i.spot ∷ []) c.args.net.now.items c.loop-i.net.items) none c.loop-i.invariant.so_far)
