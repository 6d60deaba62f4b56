-- Tokens that are left out canonically, where they stand for no tree: a comma behind the last label of an enum, and semicolons
-- that may be left out.
use Rattle.std.proofs.Common.{◌≡◌, List, [], refl, arith}
use Rattle.sp_parser.specs.Grammar.{right}
use Rattle.sp_grammar.specs.Written.{Part, part_number}
use Rattle.sp_grammar.specs.Own.{own}
use Rattle.sp_law_round_trip.proofs.Held.{Pile}
use Rattle.sp_law_round_trip.proofs.Goes.{Tok, nothing}
use Rattle.sp_law_round_trip.proofs.Shown.{Claim, Trace}
use Rattle.sp_law_round_trip.proofs.Steps.{passes_token, passes_none, chosen}

-- no more labels
no_labels : (w u : List Tok) (s t : Pile) → t ≡ s → Claim (part_number Part.Labels) w s t u
unfolding own
no_labels w u s t same = ([], same, tt, λ last v b h. chosen (part_number Part.Labels) 2 (omega arith) refl nothing)

pub last_comma_shown : (w u : List Tok) (s t : Pile) → Trace (right own (part_number Part.Labels) 1) w s u t → Claim (part_number Part.Labels) w s t u
unfolding own
last_comma_shown w u s t trace =
    let (c, a, is, comma, ends) = passes_token refl trace in
    no_labels w u s t (passes_none ends).1

-- no semicolon
semicolon_left_out : (w u : List Tok) (s t : Pile) → t ≡ s → Claim (part_number Part.OptSemi) w s t u
unfolding own
semicolon_left_out w u s t same = ([], same, refl, λ last v b h. chosen (part_number Part.OptSemi) 1 (omega arith) refl nothing)

pub semicolon_shown : (w u : List Tok) (s t : Pile) → Trace (right own (part_number Part.OptSemi) 0) w s u t → Claim (part_number Part.OptSemi) w s t u
unfolding own
semicolon_shown w u s t trace =
    let (x, rest, is, taken, behind) = passes_token refl trace in
    semicolon_left_out w u s t (passes_none behind).1

pub no_semicolon_shown : (w u : List Tok) (s t : Pile) → Trace (right own (part_number Part.OptSemi) 1) w s u t → Claim (part_number Part.OptSemi) w s t u
unfolding own
no_semicolon_shown w u s t trace = semicolon_left_out w u s t (passes_none trace).1
