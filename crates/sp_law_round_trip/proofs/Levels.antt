-- An expression is read at each place from the words that stand there: by the part of the place's level from the words of
-- a tighter expression, and from any words in parentheses.
use Rattle.std.specs.Prelude.{◌≤◌, nat_lt, ◌&&◌, ◌||◌, not, if◌then◌else◌}
use Rattle.std.proofs.Common.{◌≡◌, ℕ, zero, suc, List, [], ◌∷◌, Bool, true, Option, Some, None, refl, ap, sym, subst, inl, inr, ⊎_elim, arith}
use Rattle.std.proofs.lemmas.Bool.{cases_Bool, ltb-true, ltb-false, or_parts}
use Rattle.sp_words.specs.declared.punctuation.Punctuation.TheVariants as sign
use Rattle.sp_lex.specs.declared.kinds.TokenKind.{TokenKind}
use Rattle.sp_lex.specs.declared.kinds.TokenKind.TheVariants as kind
use Rattle.sp_parser.specs.declared.symbol.Symbol.TheVariants as symbol
use Rattle.sp_grammar.specs.declared.actions.Action.TheVariants as build
use Rattle.sp_grammar.specs.Written.{Part, part_number, part as part_symbol}
use Rattle.sp_grammar.specs.Own.{own}
use Rattle.sp_ast.specs.Trees.{Tree}
use Rattle.sp_ast.specs.declared.groups.Group.TheVariants.{Expressions as expressions}
use Rattle.sp_ast.specs.Groups.{is_of}
use Rattle.sp_build.specs.Rules.{encloses}
use Rattle.sp_print.specs.Canonical.{enclosed, at_place, needs_parentheses, level_of, spelled, divides_behind, is_regex, divides}
use Rattle.sp_print.specs.Words.{fixed}
use Rattle.sp_law_round_trip.specs.Told.{Telling}
use Rattle.sp_law_round_trip.proofs.Held.{Pile, started, made, does, after, after_do, put, start}
use Rattle.sp_law_round_trip.proofs.Goes.{Tok, entire, next, Goes, nothing, whole, action, before, before_both}
use Rattle.sp_law_round_trip.proofs.Shown.{level_part, MayPass, Spells}
use Rattle.sp_law_round_trip.proofs.Steps.{beside, chosen}

-- what the part of the next level reads is read by the part of a level
loosen : (level : ℕ) → 1 ≤ level → level ≤ 14 → {w v : List Tok} {s t : Pile} → Goes (symbol.Nonterminal (part_number (level_part (suc level))) ∷ []) w s v t → Goes (symbol.Nonterminal (part_number (level_part level)) ∷ []) w s v t
unfolding own
loosen zero low high g = absurd (omega (arith, low))
loosen (suc zero) low high g = chosen (part_number Part.Expr) 1 (omega arith) refl g
loosen (suc (suc zero)) low high g = chosen (part_number Part.Or) 1 (omega arith) refl g
loosen (suc (suc (suc zero))) low high g = chosen (part_number Part.And) 1 (omega arith) refl g
loosen (suc (suc (suc (suc zero)))) low high g = chosen (part_number Part.Membership) 2 (omega arith) refl g
loosen (suc (suc (suc (suc (suc zero))))) low high g = chosen (part_number Part.Equality) 2 (omega arith) refl g
loosen (suc (suc (suc (suc (suc (suc zero)))))) low high g = chosen (part_number Part.Order) 4 (omega arith) refl g
loosen (suc (suc (suc (suc (suc (suc (suc zero))))))) low high g = chosen (part_number Part.BitOr) 1 (omega arith) refl g
loosen (suc (suc (suc (suc (suc (suc (suc (suc zero)))))))) low high g = chosen (part_number Part.BitXor) 1 (omega arith) refl g
loosen (suc (suc (suc (suc (suc (suc (suc (suc (suc zero))))))))) low high g = chosen (part_number Part.BitAnd) 1 (omega arith) refl g
loosen (suc (suc (suc (suc (suc (suc (suc (suc (suc (suc zero)))))))))) low high g = chosen (part_number Part.Shift) 2 (omega arith) refl g
loosen (suc (suc (suc (suc (suc (suc (suc (suc (suc (suc (suc zero))))))))))) low high g = chosen (part_number Part.Sum) 2 (omega arith) refl g
loosen (suc (suc (suc (suc (suc (suc (suc (suc (suc (suc (suc (suc zero)))))))))))) low high g = chosen (part_number Part.Product) 3 (omega arith) refl g
loosen (suc (suc (suc (suc (suc (suc (suc (suc (suc (suc (suc (suc (suc zero))))))))))))) low high g = chosen (part_number Part.Prefix) 3 (omega arith) refl g
loosen (suc (suc (suc (suc (suc (suc (suc (suc (suc (suc (suc (suc (suc (suc zero)))))))))))))) low high g = g
loosen (suc (suc (suc (suc (suc (suc (suc (suc (suc (suc (suc (suc (suc (suc (suc level))))))))))))))) low high g = absurd (omega (arith, high))

-- what the part of a tighter level reads is read by the part of a looser one
looser : (tight level : ℕ) → 1 ≤ level → level ≤ tight → tight ≤ 15 → {w v : List Tok} {s t : Pile} → Goes (symbol.Nonterminal (part_number (level_part tight)) ∷ []) w s v t → Goes (symbol.Nonterminal (part_number (level_part level)) ∷ []) w s v t
looser zero level low fits high g = absurd (omega (arith, low, fits))
looser (suc tight) level low fits high {w} {v} {s} {t} g = elim (cases_Bool (nat_lt tight level)) [
  | inl y ↦
      let h = ltb-true tight level y in let e : suc tight ≡ level = omega (arith, h, fits) in
      subst (λ l. Goes (symbol.Nonterminal (part_number (level_part l)) ∷ []) w s v t) e g
  | inr n ↦
      let h = ltb-false tight level n in looser tight level low h (omega (arith, high)) (loosen tight (omega (arith, low, h)) (omega (arith, high)) g)
]

-- a Primary is a postfix operand, and so an expression of each level
pub primary_at : (level : ℕ) → 1 ≤ level → level ≤ 15 → {w v : List Tok} {s t : Pile} → Goes (part_symbol Part.Primary ∷ []) w s v t → Goes (symbol.Nonterminal (part_number (level_part level)) ∷ []) w s v t
unfolding own
primary_at level low high g = looser 15 level low high (omega arith) (chosen (part_number Part.Postfix) 4 (omega arith) refl g)

-- what stands in parentheses is taken for what it is without them
pub enclosed_does : (p q : Telling) (t : Tree) (s : Pile) → is_of expressions t ≡ true → does encloses q (made t ∷ started p ∷ s) ≡ Some (made t ∷ s)
enclosed_does p q t s is = ap (λ b. after_do (if b then Some (after t (started p ∷ s)) else None) (λ u rest. after_do (start rest) (λ q below. put u below))) is

-- an expression in parentheses is read at each level, before anything
at_enclosed : (t : Tree) → Spells t → (level : ℕ) → 1 ≤ level → level ≤ 15 → (last : Option TokenKind) (v : List Tok) (s : Pile) → Goes (symbol.Nonterminal (part_number (level_part level)) ∷ []) (before (enclosed (spelled t) last) v) s v (made t ∷ s)
unfolding own
at_enclosed t spells level low high last v s =
    let close : Tok = entire (fixed (kind.Punctuation sign.RightParen)) in
    let inside = spelled t (Some (kind.Punctuation sign.LeftParen)) in
    let p : Telling = next (before (enclosed (spelled t) last) v) in
    let below : Pile = started p ∷ s in
    let words = looser (level_of t) 1 (omega arith) spells.low spells.high (spells.reads (Some (kind.Punctuation sign.LeftParen)) (close ∷ v) below (inr refl)) in
    let words = subst (λ w. Goes (part_symbol Part.Expr ∷ []) w below (close ∷ v) (made t ∷ below)) (sym (before_both inside (fixed (kind.Punctuation sign.RightParen) ∷ []) v)) words in
    primary_at level low high (chosen (part_number Part.Primary) 9 (omega arith) refl (action build.Begin refl refl (whole refl (beside words (whole refl (action build.Paren refl (enclosed_does p (next v) t s spells.is) nothing))))))

-- an expression is read at its place
pub at_level : (t : Tree) → Spells t → (level : ℕ) → 1 ≤ level → level ≤ 15 → (dividend : Bool) → (last : Option TokenKind) (v : List Tok) (s : Pile) → MayPass level v → Goes (symbol.Nonterminal (part_number (level_part level)) ∷ []) (before (at_place level dividend t (spelled t) last) v) s v (made t ∷ s)
at_level t spells level low high dividend last v s pass = elim (cases_Bool (needs_parentheses level dividend t last)) [
  | inl y ↦
      subst (λ b. Goes (symbol.Nonterminal (part_number (level_part level)) ∷ []) (before (if b then enclosed (spelled t) last else spelled t last) v) s v (made t ∷ s)) (sym y) (at_enclosed t spells level low high last v s)
  | inr n ↦
      let binds = ltb-false (level_of t) level (or_parts (nat_lt (level_of t) level) (dividend && not (divides_behind t)) (or_parts (nat_lt (level_of t) level || (dividend && not (divides_behind t))) (is_regex t && divides last) n).0).0 in
      let pass : MayPass (level_of t) v = ⊎_elim (λ e. let high = spells.high in inl (omega (arith, e, binds, high))) (λ a. inr a) pass in
      subst (λ b. Goes (symbol.Nonterminal (part_number (level_part level)) ∷ []) (before (if b then enclosed (spelled t) last else spelled t last) v) s v (made t ∷ s)) (sym n) (looser (level_of t) level low binds spells.high (spells.reads last v s pass))
]
