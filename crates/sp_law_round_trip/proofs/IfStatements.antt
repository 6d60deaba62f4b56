-- An `if`: its first branch, and the rest.
use Rattle.std.proofs.Common.{ℕ, List, [], ◌∷◌, ◌++◌, Option, Some, refl, sym, ◌∙◌, arith, ap, subst, true}
use Rattle.sp_lex.specs.declared.kinds.TokenKind.{TokenKind}
use Rattle.sp_lex.specs.declared.kinds.TokenKind.TheVariants as token
use Rattle.sp_words.specs.declared.keywords.Keyword.TheVariants as keyword
use Rattle.sp_parser.specs.Grammar.{right}
use Rattle.sp_grammar.specs.declared.actions.Action.TheVariants as build
use Rattle.sp_grammar.specs.Written.{part as part_symbol, Part, part_number}
use Rattle.sp_grammar.specs.Own.{own}
use Rattle.sp_ast.specs.Trees.{Tree, trees}
use Rattle.sp_print.specs.Canonical.{last_kind, framed, parts_of, part_of, followed as written_followed}
use Rattle.sp_print.specs.declared.layouts.Frame.TheVariants as frame
use Rattle.sp_print.specs.declared.layouts.Separator.TheVariants as separator
use Rattle.sp_print.specs.Words.{fixed}
use Rattle.sp_law_round_trip.proofs.Held.{Pile, started, made}
use Rattle.sp_law_round_trip.proofs.Goes.{Tok, entire, next, coming, before, Goes, nothing, whole, action, before_both}
use Rattle.sp_law_round_trip.proofs.Shown.{Claim, OptElseClaim, Trace, one, yielded, Shows}
use Rattle.sp_law_round_trip.proofs.Steps.{passes_token, passes_begin, passes_part, passes_one, passes_none, beside, chosen, builds_one}
use Rattle.sp_law_round_trip.proofs.ElseBranches.{if_tree, rest_words, Came, Rest, behind_branch, branch_then}

if_again : (x : Tree) (cs : List Tree) (e : Tree) (came behind : ℕ) → Came cs e came behind → Shows (part_number Part.Branch) (one 1) (x ∷ []) came → Rest (x ∷ []) cs e behind → Shows (part_number Part.Stmt) (one 1) (if_tree (x ∷ cs) e ∷ []) behind
unfolding own
if_again x cs e came behind before_rest branch rest last v s may =
    let if_kind : Option TokenKind = Some (token.Keyword keyword.If) in
    let first = yielded (one 1) (x ∷ []) if_kind in
    let after = last_kind if_kind first in
    let more = first ++ written_followed separator.ElseIf (parts_of (trees cs)) after in
    let shown = more ++ (framed frame.Else (part_of e) (last_kind if_kind more) ++ []) in
    let words = before_both more (framed frame.Else (part_of e) (last_kind if_kind more) ++ []) v ∙ ap (before more) (before_both (framed frame.Else (part_of e) (last_kind if_kind more)) [] v) ∙ sym (before_both more (framed frame.Else (part_of e) (last_kind if_kind more)) v) ∙ branch_then x cs e if_kind v in
    let behind_it = before (rest_words cs e after) v in
    let outer : Pile = started (next (entire (fixed (token.Keyword keyword.If)) ∷ before shown v)) ∷ s in
    let inner : Pile = started (next (before shown v)) ∷ outer in
    let reads = beside (branch if_kind behind_it inner (behind_branch cs e after came behind v before_rest may)) (beside (rest after v (next (before shown v)) (next (entire (fixed (token.Keyword keyword.If)) ∷ before shown v)) s may) nothing) in
    chosen (part_number Part.Stmt) 0 (omega arith) refl (action build.Begin refl refl (whole refl (action build.Begin refl refl (subst (λ z. Goes (part_symbol Part.Branch ∷ part_symbol Part.OptElse ∷ []) z inner v (made (if_tree (x ∷ cs) e) ∷ s)) (sym words) reads))))

pub if_shown : (w u : List Tok) (s t : Pile) → Trace (right own (part_number Part.Stmt) 0) w s u t → Claim (part_number Part.Stmt) w s t u
unfolding own
if_shown w u s t trace =
    let (x, a, is, taken, begin) = passes_token refl (passes_begin trace) in
    let (f, z, whole_tree, shows, more) = passes_one (part_number Part.Branch) 1 refl (passes_begin begin) in
    let (g, t', claim, ends) = passes_part more in
    let (none_left, pile) = passes_none ends in
    let (cs, e, built, came, reads) = subst (λ l. OptElseClaim f (made z ∷ started (next a) ∷ started (next w) ∷ s) t' l) none_left claim (z ∷ []) (next a) (next w) s refl in
    builds_one (if_tree (z ∷ cs) e) (◌∙◌ {c = made (if_tree (z ∷ cs) e) ∷ s} pile built) (refl {a = true}) (if_again z cs e (coming f) (coming u) came shows reads)
