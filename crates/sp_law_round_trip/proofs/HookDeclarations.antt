-- A hook that is declared by itself: the path of what it belongs to, the name of a hook if there is one, and its body.
use Rattle.std.proofs.Common.{◌≡◌, ℕ, List, [], ◌∷◌, ◌++◌, Some, refl, sym, ◌∙◌, arith, ap, subst, inl, true}
use Rattle.std.proofs.lemmas.List.{append-nil}
use Rattle.sp_lex.specs.declared.kinds.TokenKind.TheVariants as token
use Rattle.sp_words.specs.declared.keywords.Keyword.TheVariants as keyword
use Rattle.sp_parser.specs.Grammar.{right, takes, All}
use Rattle.sp_grammar.specs.declared.actions.Action.TheVariants as build
use Rattle.sp_grammar.specs.Written.{part as part_symbol, action as action_symbol, Part, part_number}
use Rattle.sp_grammar.specs.Terminals.{terminal_number}
use Rattle.sp_grammar.specs.declared.terminals.Terminal.TheVariants as terminal
use Rattle.sp_grammar.specs.Own.{own}
use Rattle.sp_ast.specs.Trees.{Tree, tree, trees}
use Rattle.sp_ast.specs.declared.forms.Form.TheVariants as form_is
use Rattle.sp_ast.specs.declared.forms.DeclForm.TheVariants as decl_is
use Rattle.sp_ast.specs.declared.groups.Group.TheVariants.{Paths as paths, HookNames as hook_names, Hooks as hook_trees}
use Rattle.sp_ast.specs.declared.groups.Sort.TheVariants.{One as one_of, Optional as may_be}
use Rattle.sp_ast.specs.declared.groups.Slot.{Slot}
use Rattle.sp_ast.specs.declared.groups.Slot.TheVariants.{Part as slot}
use Rattle.sp_print.specs.Canonical.{last_kind, framed, parts_of, part_of, followed as written_followed}
use Rattle.sp_print.specs.declared.layouts.Frame.TheVariants as frame
use Rattle.sp_print.specs.declared.layouts.Separator.TheVariants as separator
use Rattle.sp_print.specs.Words.{Word, fixed, name}
use Rattle.sp_law_round_trip.specs.Bare.{nowhere}
use Rattle.sp_law_round_trip.proofs.Held.{Pile, started, made}
use Rattle.sp_law_round_trip.proofs.Goes.{Tok, entire, telling_of, number, next, coming, before, Goes, nothing, whole, action, before_both}
use Rattle.sp_law_round_trip.proofs.Shown.{Claim, Trace, one, yielded, Shows}
use Rattle.sp_law_round_trip.proofs.Steps.{Close, passes_token, passes_begin, passes_name, passes_part, passes_one, passes_closes, passes_none, beside, chosen, builds_one, named}
use Rattle.sp_law_round_trip.proofs.HookPaths.{path_of, Rest}

abbrev on_slots : List Slot
on_slots = slot (one_of paths) ∷ slot (may_be hook_names) ∷ slot (one_of hook_trees) ∷ []

abbrev on_decl : List ℕ → List Tree → Tree → Tree → Tree
on_decl x ys e hook = tree (form_is.Decl decl_is.On) nowhere (path_of (named x ∷ ys) ∷ e ∷ hook ∷ [])

-- the words behind the first name, by those of the names that follow it
abbrev behind_name : Tree → Tree → List Word → List Word
behind_name e hook names =
    let hook_words = framed frame.Scope (part_of e) (last_kind (Some token.Id) names) in
    names ++ (hook_words ++ (yielded (one 1) (hook ∷ []) (last_kind (last_kind (Some token.Id) names) hook_words) ++ []))

on_again : (x : List ℕ) (ys : List Tree) (e hook : Tree) (came k : ℕ) → takes (terminal_number terminal.Id) (number (entire (name x))) ≡ All → Rest (named x ∷ []) ys e → Shows (part_number Part.Hook) (one 1) (hook ∷ []) k → Close on_slots (form_is.Decl decl_is.On) (path_of (named x ∷ ys) ∷ e ∷ hook ∷ [])
    → Shows (part_number Part.Decl) (one 1) (on_decl x ys e hook ∷ []) came
unfolding own
on_again x ys e hook came k is_name rest show_hook closes last v s may =
    let names = written_followed separator.Scope (parts_of (trees ys)) (Some token.Id) in
    let hook_words = framed frame.Scope (part_of e) (last_kind (Some token.Id) names) in
    let body = yielded (one 1) (hook ∷ []) (last_kind (last_kind (Some token.Id) names) hook_words) in
    let words : before (behind_name e hook (names ++ [])) v ≡ before (names ++ hook_words) (before body v) =
    ap (λ z. before (behind_name e hook z) v) (append-nil names) ∙ before_both names (hook_words ++ (body ++ [])) v ∙ ap (before names) (before_both hook_words (body ++ []) v ∙ ap (before hook_words) (before_both body [] v)) ∙ sym (before_both names hook_words (before body v)) in
    let outer : Pile = started (telling_of (fixed (token.Keyword keyword.On))) ∷ s in
    let inner : Pile = started (telling_of (name x)) ∷ outer in
    let built : Pile = made (path_of (named x ∷ ys)) ∷ outer in
    let reads_hook = beside (show_hook (last_kind (last_kind (Some token.Id) names) hook_words) v (made e ∷ built) (inl tt)) (action build.OnDecl refl (closes (next v) (telling_of (fixed (token.Keyword keyword.On))) s) nothing) in
    let reads = subst (λ z. Goes (part_symbol Part.OnPath ∷ part_symbol Part.Hook ∷ action_symbol build.OnDecl ∷ []) z (made (named x) ∷ inner) v (made (on_decl x ys e hook) ∷ s)) (sym words) (beside (rest (Some token.Id) (before body v) (telling_of (name x)) outer) reads_hook) in
    chosen (part_number Part.Decl) 9 (omega arith) refl (action build.Begin refl refl (whole refl (action build.Begin refl refl (action build.Name refl refl (whole is_name reads)))))

pub on_shown : (w u : List Tok) (s t : Pile) → Trace (right own (part_number Part.Decl) 9) w s u t → Claim (part_number Part.Decl) w s t u
unfolding own
on_shown w u s t trace =
    let (c, a, is, taken, begin) = passes_token refl (passes_begin trace) in
    let (x, is_name, d, path) = passes_name (passes_begin begin) in
    let (f, t', claim, at_hook) = passes_part path in
    let (ys, e, pile, reads) = claim (named x ∷ []) (next a) (started (next w) ∷ s) refl in
    let (g, hook, node, show_hook, on_action) = passes_one (part_number Part.Hook) 1 refl (subst (λ z. Trace (part_symbol Part.Hook ∷ action_symbol build.OnDecl ∷ []) f z u t) pile at_hook) in
    let (closes, ends) = passes_closes build.OnDecl on_slots (form_is.Decl decl_is.On) (path_of (named x ∷ ys) ∷ e ∷ hook ∷ []) (next w) refl refl on_action in
    builds_one (on_decl x ys e hook) (passes_none {s = made (on_decl x ys e hook) ∷ s} ends).1 (refl {a = true}) (on_again x ys e hook (coming u) (coming g) is_name reads show_hook closes)
