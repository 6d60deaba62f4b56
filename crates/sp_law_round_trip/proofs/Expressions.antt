-- The parts that read expressions: each below the level of a Primary reads those of its level at their place.
use Rattle.std.specs.Prelude.{◌≤◌, nat_lt, ◌&&◌, ◌||◌, not}
use Rattle.std.proofs.Common.{◌<◌, length, inl, ◌≡◌, ℕ, List, [], ◌∷◌, map, Bool, true, false, ◌==◌, Option, Some, refl, sym, ◌∙◌, subst, inr, ⊎_elim, arith}
use Rattle.std.proofs.lemmas.List.{get_or_past}
use Rattle.std.proofs.lemmas.Bool.{cases_lt, and_parts, eqb-true, ltb-true, le-ltb, not-true}
use Rattle.sp_parser.specs.declared.symbol.Symbol.TheVariants as symbol
use Rattle.sp_grammar.specs.declared.terminals.Terminal.{Terminal}
use Rattle.sp_words.specs.declared.punctuation.Punctuation.TheVariants as sign
use Rattle.sp_grammar.specs.declared.terminals.Terminal.TheVariants as token
use Rattle.sp_grammar.specs.Written.{part_number, all_parts}
use Rattle.sp_grammar.proofs.Spans.{below, below_all}
use Rattle.sp_ast.specs.Trees.{Tree}
use Rattle.sp_build.proofs.Told.{never}
use Rattle.sp_print.specs.Canonical.{at_place, spelled}
use Rattle.sp_law_round_trip.proofs.Held.{made}
use Rattle.sp_law_round_trip.proofs.Goes.{Tok, Goes, before}
use Rattle.sp_law_round_trip.proofs.Shown.{avoided, Manner, expression, other, one, manner, manner_of, is_kept, Avoids, Shows, level_part, Spells, is_avoided, avoided_there}
use Rattle.sp_law_round_trip.proofs.Levels.{at_level}

-- a part that reads expressions of a level: below the level of a Primary it is that of the level, and avoids a `(`
abbrev is_of_level : ℕ → Option Terminal → Bool → Manner → Bool
is_of_level n avoid keeps (expression level) = nat_lt 14 level || (n == part_number (level_part level) && nat_lt 0 level && is_avoided avoid (token.Punctuation sign.LeftParen) && not keeps)
is_of_level n avoid keeps _ = true

abbrev IsOfLevel : ℕ → Option Terminal → Bool → ℕ → Type 0
IsOfLevel n avoid keeps level = (n ≡ part_number (level_part level)) × (1 ≤ level) × ((v : List Tok) → Avoids avoid v → Avoids (Some (token.Punctuation sign.LeftParen)) v) × (keeps ≡ false)

of_level : (n level : ℕ) (avoid : Option Terminal) (keeps : Bool) (m : Manner) → is_of_level n avoid keeps m ≡ true → m ≡ expression level → level ≤ 14 → IsOfLevel n avoid keeps level
of_level n level avoid keeps m h e high =
    let h : (nat_lt 14 level || (n == part_number (level_part level) && nat_lt 0 level && is_avoided avoid (token.Punctuation sign.LeftParen) && not keeps)) ≡ true = subst (λ x. is_of_level n avoid keeps x ≡ true) e h in
    let h : (n == part_number (level_part level) && nat_lt 0 level && is_avoided avoid (token.Punctuation sign.LeftParen) && not keeps) ≡ true = subst (λ b. (b || (n == part_number (level_part level) && nat_lt 0 level && is_avoided avoid (token.Punctuation sign.LeftParen) && not keeps)) ≡ true) (le-ltb 14 level high) h in
    let last = and_parts (n == part_number (level_part level) && nat_lt 0 level && is_avoided avoid (token.Punctuation sign.LeftParen)) (not keeps) h in
    let third = and_parts (n == part_number (level_part level) && nat_lt 0 level) (is_avoided avoid (token.Punctuation sign.LeftParen)) last.0 in
    let first = and_parts (n == part_number (level_part level)) (nat_lt 0 level) third.0 in
    (eqb-true n (part_number (level_part level)) first.0, ltb-true 0 level first.1, (λ v. avoided_there avoid (token.Punctuation sign.LeftParen) v third.1), not-true keeps last.1)

levels_stand : below (λ n. is_of_level n (avoided n) (is_kept n) (manner_of n)) (length all_parts) ≡ true
levels_stand = refl

-- such a part reads an expression where anything may stand
pub expression_shows : (n level : ℕ) → manner_of n ≡ expression level → level ≤ 14 → (t : Tree) → Spells t → (came : ℕ) → Shows n (one level) (t ∷ []) came
expression_shows n level is high t spells came last v s follow =
    let inside : n < length all_parts = elim (cases_lt n (length all_parts)) [ inl x ↦ x | inr y ↦ absurd (let q : other ≡ expression level = sym (get_or_past (map manner all_parts) n other y) ∙ is in cc) ] in
    let tested = below_all (λ n. is_of_level n (avoided n) (is_kept n) (manner_of n)) (length all_parts) n levels_stand inside in
    let (of_level, low, paren, not_kept) = of_level n level (avoided n) (is_kept n) (manner_of n) tested is high in
    let avoids : Avoids (Some (token.Punctuation sign.LeftParen)) v = ⊎_elim (λ a. paren v a) (λ k. never (sym not_kept ∙ k.0)) follow in
    subst (λ i. Goes (symbol.Nonterminal i ∷ []) (before (at_place level false t (spelled t) last) v) s v (made t ∷ s)) (sym of_level) (at_level t spells level low (omega (arith, high)) false last v s (inr avoids))
