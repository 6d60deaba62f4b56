-- What ends a field: its hooks, or a semicolon. A semicolon behind hooks is left out canonically.
use Rattle.std.proofs.Common.{ℕ, List, [], ◌∷◌, ◌++◌, refl, sym, arith, subst, inl, ap, ◌∙◌}
use Rattle.sp_parser.specs.Grammar.{right}
use Rattle.sp_grammar.specs.declared.actions.Action.TheVariants as build
use Rattle.sp_grammar.specs.Written.{action as action_symbol, Part, part_number}
use Rattle.sp_grammar.specs.Own.{own}
use Rattle.sp_ast.specs.Trees.{Tree, in_row}
use Rattle.sp_print.specs.Canonical.{last_kind}
use Rattle.sp_print.specs.declared.layouts.Separator.TheVariants as separator
use Rattle.sp_law_round_trip.proofs.Held.{Pile, started, made}
use Rattle.sp_law_round_trip.proofs.Goes.{Tok, next, coming, before, pushed, Goes, nothing, whole, action, before_both}
use Rattle.sp_law_round_trip.proofs.Shown.{Claim, Trace, one, hooks, listed, silent, yielded, Shows}
use Rattle.sp_law_round_trip.proofs.Steps.{Gather, passes_token, passes_one, passes_trees, passes_begin, passes_row, passes_none, beside, chosen}
use Rattle.sp_law_round_trip.proofs.Laid.{nothing_between}

pub no_hooks_shown : (w u : List Tok) (s t : Pile) → Trace (right own (part_number Part.FieldEnd) 0) w s u t → Claim (part_number Part.FieldEnd) w s t u
unfolding own
no_hooks_shown w u s t trace =
    let (x, a, is, taken, row_action) = passes_token refl (passes_begin trace) in
    let (gather, ends) = passes_row [] (next w) row_action in
    (in_row [] ∷ [], (passes_none ends).1, ([], refl), λ last v b h. chosen (part_number Part.FieldEnd) 0 (omega arith) refl (action build.Begin refl refl (whole refl (action build.Row refl refl nothing))))

hooks_again : (x : Tree) (us : List Tree) (came i k l : ℕ) → Gather (x ∷ us) → Shows (part_number Part.FieldHook) (one 1) (x ∷ []) i → Shows (part_number Part.FieldHooks) (listed separator.Nothing) us k → Shows (part_number Part.OptSemi) silent [] l → Shows (part_number Part.FieldEnd) hooks (in_row (x ∷ us) ∷ []) came
unfolding own
hooks_again x us came i k l gather hook more semicolon last v s may =
    let first = yielded (one 1) (x ∷ []) last in
    let behind = last_kind last first in
    let rest = yielded (listed separator.Nothing) us behind in
    let words = ap (λ z. before (first ++ z behind) v) (sym (nothing_between us)) ∙ before_both first rest v in
    let inner : Pile = started (next (before first (before rest v))) ∷ s in
    let reads = beside (hook last (before rest v) inner (inl tt)) (beside (more behind v (made x ∷ inner) (inl tt)) (beside (semicolon behind v (pushed us (made x ∷ inner)) (inl tt)) (action build.Row refl (gather (next v) _ s) nothing))) in
    chosen (part_number Part.FieldEnd) 1 (omega arith) refl (subst (λ z. Goes (right own (part_number Part.FieldEnd) 1) z s v (made (in_row (x ∷ us)) ∷ s)) (sym words) (action build.Begin refl refl reads))

pub hooks_shown : (w u : List Tok) (s t : Pile) → Trace (right own (part_number Part.FieldEnd) 1) w s u t → Claim (part_number Part.FieldEnd) w s t u
unfolding own
hooks_shown w u s t trace =
    let (a, x, node, show_first, rest) = passes_one (part_number Part.FieldHook) 1 refl (passes_begin trace) in
    let (b, us, fits, show_rest, semicolon) = passes_trees (part_number Part.FieldHooks) (listed separator.Nothing) refl rest in
    let (c, ts, is_none, show_none, row_action) = passes_trees (part_number Part.OptSemi) silent refl semicolon in
    let pile = subst (λ z. Trace (action_symbol build.Row ∷ []) c (pushed z (pushed (x ∷ us) (started (next w) ∷ s))) u t) is_none row_action in
    let (gather, ends) = passes_row (x ∷ us) (next w) pile in
    (in_row (x ∷ us) ∷ [], (passes_none ends).1, (x ∷ us, refl), hooks_again x us (coming u) (coming a) (coming b) (coming c) gather show_first show_rest (subst (λ z. Shows (part_number Part.OptSemi) silent z (coming c)) is_none show_none))
