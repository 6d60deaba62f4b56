-- The alternatives of the parts of expressions that keep the tree: an operand alone, and an expression in parentheses.
use Rattle.std.proofs.Common.{◌≡◌, ℕ, List, [], ◌∷◌, refl, sym, subst}
use Rattle.sp_parser.specs.Grammar.{right}
use Rattle.sp_grammar.specs.declared.actions.Action.TheVariants as build
use Rattle.sp_grammar.specs.Written.{part as part_symbol, Part, part_number}
use Rattle.sp_grammar.specs.Own.{own}
use Rattle.sp_law_round_trip.proofs.Held.{Pile, made}
use Rattle.sp_law_round_trip.proofs.Goes.{Tok, next}
use Rattle.sp_law_round_trip.proofs.Shown.{expression, manner_of, ClaimAs, Claim, Trace}
use Rattle.sp_law_round_trip.proofs.Levels.{enclosed_does}
use Rattle.sp_law_round_trip.proofs.Steps.{passes_token, passes_known, passes_expression, passes_begin, passes_none}

-- an operand alone is an expression of its level
pub alone_shown : (of operand : Part) (level tighter : ℕ) → manner_of (part_number of) ≡ expression level → manner_of (part_number operand) ≡ expression tighter
    → (w u : List Tok) (s t : Pile) → Trace (part_symbol operand ∷ []) w s u t → Claim (part_number of) w s t u
alone_shown part operand level tighter is holds w u s t g =
    let (_, x, spells, g) = passes_expression (part_number operand) tighter holds g in
    subst (λ m. ClaimAs m (part_number part) w s t u) (sym is) (x, (passes_none g).1, spells)

-- an expression in parentheses is what it is without them
pub parentheses_shown : (w u : List Tok) (s t : Pile) → Trace (right own (part_number Part.Primary) 9) w s u t → Claim (part_number Part.Primary) w s t u
unfolding own
parentheses_shown w u s t g =
    let (_, _, _, _, g) = passes_token refl (passes_begin g) in
    let (_, x, spells, g) = passes_expression (part_number Part.Expr) 1 refl g in
    let (_, v, _, _, g) = passes_token refl g in
    let g = passes_known build.Paren (made x ∷ s) refl (enclosed_does (next w) (next v) x s spells.is) g in
    (x, (passes_none g).1, spells)
