-- Parameters in parentheses: where there are none, canonically there are no parentheses.
use Rattle.std.proofs.Common.{List, [], ◌∷◌, Some, refl, sym, arith, subst, inl}
use Rattle.sp_lex.specs.declared.kinds.TokenKind.TheVariants as token
use Rattle.sp_words.specs.declared.punctuation.Punctuation.TheVariants as sign
use Rattle.sp_parser.specs.Grammar.{right}
use Rattle.sp_grammar.specs.declared.actions.Action.TheVariants as build
use Rattle.sp_grammar.specs.Written.{part as part_symbol, action as action_symbol, kind as kind_symbol, Part, part_number}
use Rattle.sp_grammar.specs.declared.terminals.Terminal.TheVariants as terminal
use Rattle.sp_grammar.specs.Own.{own}
use Rattle.sp_ast.specs.Trees.{Tree, in_row}
use Rattle.sp_print.specs.declared.layouts.Separator.TheVariants as separator
use Rattle.sp_print.specs.Words.{Word, fixed}
use Rattle.sp_law_round_trip.proofs.Held.{Pile, started, made}
use Rattle.sp_law_round_trip.proofs.Goes.{Tok, entire, next, coming, before, Goes, nothing, whole, action, before_both}
use Rattle.sp_law_round_trip.proofs.Shown.{Claim, Trace, arguments, listed, yielded, Shows}
use Rattle.sp_law_round_trip.proofs.Steps.{Gather, passes_token, passes_trees, passes_begin, passes_row, passes_none, beside, chosen}

abbrev left_paren : Word
left_paren = fixed (token.Punctuation sign.LeftParen)

abbrev right_paren : Word
right_paren = fixed (token.Punctuation sign.RightParen)

-- parameters that were read can be read in parentheses
parameters_again : (us : List Tree) (came k : _) → Gather us → Shows (part_number Part.OptParams) (listed separator.Comma) us k → Shows (part_number Part.OptParen) arguments (in_row us ∷ []) came
unfolding own
parameters_again [] came k gather shows last v s h = chosen (part_number Part.OptParen) 1 (omega arith) refl (action build.Begin refl refl (action build.Row refl refl nothing))
parameters_again (x ∷ us) came k gather shows last v s h =
    let row_words = yielded (listed separator.Comma) (x ∷ us) (Some (token.Punctuation sign.LeftParen)) in
    let behind : List Tok = entire right_paren ∷ v in
    let begun : Pile = started (next (before row_words behind)) ∷ s in
    let inner = beside (shows (Some (token.Punctuation sign.LeftParen)) behind begun (inl tt)) (whole refl (action build.Row refl (gather (next v) (next (before row_words behind)) s) nothing)) in
    let words = sym (before_both row_words (right_paren ∷ []) v) in
    chosen (part_number Part.OptParen) 0 (omega arith) refl (whole refl (subst (λ z. Goes (action_symbol build.Begin ∷ part_symbol Part.OptParams ∷ kind_symbol (terminal.Punctuation sign.RightParen) ∷ action_symbol build.Row ∷ []) z s v (made (in_row (x ∷ us)) ∷ s)) words (action build.Begin refl refl inner)))

pub parameters_shown : (w u : List Tok) (s t : Pile) → Trace (right own (part_number Part.OptParen) 0) w s u t → Claim (part_number Part.OptParen) w s t u
unfolding own
parameters_shown w u s t trace =
    let (x, a, is, taken, rest) = passes_token refl trace in
    let (b, us, fits, shows, close) = passes_trees (part_number Part.OptParams) (listed separator.Comma) refl (passes_begin rest) in
    let (y, c, also, shut, row_action) = passes_token refl close in
    let (gather, ends) = passes_row us (next a) row_action in
    (in_row us ∷ [], (passes_none ends).1, (us, refl), parameters_again us (coming u) (coming b) gather shows)

pub no_parameters_shown : (w u : List Tok) (s t : Pile) → Trace (right own (part_number Part.OptParen) 1) w s u t → Claim (part_number Part.OptParen) w s t u
unfolding own
no_parameters_shown w u s t trace =
    let (gather, ends) = passes_row [] (next w) (passes_begin trace) in
    (in_row [] ∷ [], (passes_none ends).1, ([], refl), λ last v b h. chosen (part_number Part.OptParen) 1 (omega arith) refl (action build.Begin refl refl (action build.Row refl refl nothing)))
