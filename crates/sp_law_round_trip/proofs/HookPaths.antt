-- The path of a hook that is declared by itself, and the name of the hook behind it.
use Rattle.std.proofs.Common.{◌≡◌, ℕ, List, [], ◌∷◌, ◌++◌, Option, Some, refl, sym, ◌∙◌, arith, ap, subst}
use Rattle.std.proofs.lemmas.List.{append-nil, append_assoc}
use Rattle.sp_words.specs.declared.words.HookName.{HookName}
use Rattle.sp_lex.specs.declared.kinds.TokenKind.{TokenKind}
use Rattle.sp_lex.specs.declared.kinds.TokenKind.TheVariants as token
use Rattle.sp_words.specs.declared.punctuation.Punctuation.TheVariants as sign
use Rattle.sp_parser.specs.Grammar.{right, takes, All}
use Rattle.sp_grammar.specs.declared.actions.Action.TheVariants as build
use Rattle.sp_grammar.specs.Written.{part as part_symbol, Part, part_number}
use Rattle.sp_grammar.specs.Terminals.{terminal_number}
use Rattle.sp_grammar.specs.declared.terminals.Terminal.TheVariants as terminal
use Rattle.sp_grammar.specs.Own.{own}
use Rattle.sp_ast.specs.Trees.{Tree, absent, tree, trees}
use Rattle.sp_ast.specs.declared.forms.Form.TheVariants as form_is
use Rattle.sp_ast.specs.declared.groups.Group.TheVariants.{Names as names}
use Rattle.sp_ast.specs.declared.groups.Slot.{Slot}
use Rattle.sp_ast.specs.declared.groups.Slot.TheVariants.{Several as several}
use Rattle.sp_print.specs.Canonical.{chain, framed, parts_of, part_of, followed as written_followed}
use Rattle.sp_print.specs.declared.layouts.Frame.TheVariants as frame
use Rattle.sp_print.specs.declared.layouts.Separator.TheVariants as separator
use Rattle.sp_print.specs.Words.{fixed, name}
use Rattle.sp_law_round_trip.specs.Bare.{nowhere}
use Rattle.sp_law_round_trip.specs.Told.{Telling}
use Rattle.sp_law_round_trip.proofs.Held.{Pile, started, made}
use Rattle.sp_law_round_trip.proofs.Goes.{Tok, entire, telling_of, number, next, before, pushed, Goes, nothing, whole, action, pushed_append}
use Rattle.sp_law_round_trip.proofs.Shown.{Claim, Trace}
use Rattle.sp_law_round_trip.proofs.Steps.{Close, passes_token, passes_absent, passes_name, passes_hook_name, passes_part, passes_closes, passes_none, beside, chosen, named, hook_name_tree}

abbrev pub path_of : List Tree → Tree
path_of xs = tree form_is.Path nowhere xs

abbrev name_slots : List Slot
name_slots = several names ∷ []

-- what is read behind the names xs of a path: the names ys, and the name e of a hook or none
abbrev pub Rest : List Tree → List Tree → Tree → Type 0
Rest xs ys e = (last : Option TokenKind) (v : List Tok) (q : Telling) (c : Pile) → Goes (part_symbol Part.OnPath ∷ []) (before (chain (written_followed separator.Scope (parts_of (trees ys))) (framed frame.Scope (part_of e)) last) v) (pushed xs (started q ∷ c)) v (made e ∷ made (path_of (xs ++ ys)) ∷ c)

name_again : (xs ys : List Tree) (e : Tree) (x : List ℕ) → takes (terminal_number terminal.Id) (number (entire (name x))) ≡ All → Rest (xs ++ named x ∷ []) ys e → Rest xs (named x ∷ ys) e
unfolding own
name_again xs ys e x taken rest last v q c =
    let words = before (chain (written_followed separator.Scope (parts_of (trees ys))) (framed frame.Scope (part_of e)) (Some token.Id)) v in
    let at_names = subst (λ z. Goes (part_symbol Part.OnPath ∷ []) words z v (made e ∷ made (path_of (xs ++ named x ∷ [] ++ ys)) ∷ c)) (pushed_append xs (named x ∷ []) (started q ∷ c)) (rest (Some token.Id) v q c) in
    let reads = subst (λ zs. Goes (part_symbol Part.OnPath ∷ []) words (made (named x) ∷ pushed xs (started q ∷ c)) v (made e ∷ made (path_of zs) ∷ c)) (append_assoc xs (named x ∷ []) ys) at_names in
    chosen (part_number Part.OnPath) 0 (omega arith) refl (whole refl (action build.Name refl refl (whole taken (beside reads nothing))))

pub more_path_shown : (w u : List Tok) (s t : Pile) → Trace (right own (part_number Part.OnPath) 0) w s u t → Claim (part_number Part.OnPath) w s t u
unfolding own
more_path_shown w u s t trace xs p b same =
    let (c, a, is, taken, name_action) = passes_token refl trace in
    let (x, is_name, d, rest) = passes_name name_action in
    let (f, t', claim, ends) = passes_part rest in
    let (ys, e, pile, reads) = claim (xs ++ named x ∷ []) p b (ap (λ z. made (named x) ∷ z) same ∙ sym (pushed_append xs (named x ∷ []) (started p ∷ b))) in
    (named x ∷ ys, e, (passes_none ends).1 ∙ pile ∙ ap (λ zs. made e ∷ made (path_of zs) ∷ b) (append_assoc xs (named x ∷ []) ys), name_again xs ys e x is_name reads)

hook_name_again : (xs : List Tree) (h : HookName) → Close name_slots form_is.Path xs → Rest xs [] (hook_name_tree h)
unfolding own
hook_name_again xs h closes last v q c =
    let word = fixed (token.Hook h) in
    let whole_path = ap (λ zs. made (hook_name_tree h) ∷ made (path_of zs) ∷ c) (sym (append-nil xs)) in
    let reads = whole refl (action build.Path refl (closes (telling_of word) q c) (action build.HookName refl refl (whole refl nothing))) in
    chosen (part_number Part.OnPath) 1 (omega arith) refl (subst (λ z. Goes (right own (part_number Part.OnPath) 1) (entire (fixed (token.Punctuation sign.ColonColon)) ∷ entire word ∷ v) (pushed xs (started q ∷ c)) v z) whole_path reads)

pub path_hook_name_shown : (w u : List Tok) (s t : Pile) → Trace (right own (part_number Part.OnPath) 1) w s u t → Claim (part_number Part.OnPath) w s t u
unfolding own
path_hook_name_shown w u s t trace xs p b same =
    let (c, a, is, taken, path_action) = passes_token refl (subst (λ z. Trace (right own (part_number Part.OnPath) 1) w z u t) same trace) in
    let (closes, hook_name_action) = passes_closes build.Path name_slots form_is.Path xs p refl refl path_action in
    let (h, d, ends) = passes_hook_name hook_name_action in
    ([], hook_name_tree h, (passes_none ends).1 ∙ ap (λ zs. made (hook_name_tree h) ∷ made (path_of zs) ∷ b) (sym (append-nil xs)), hook_name_again xs h closes)

no_hook_name_again : (xs : List Tree) → Close name_slots form_is.Path xs → Rest xs [] absent
unfolding own
no_hook_name_again xs closes last v q c =
    let reads = action build.Path refl (closes (next v) q c) (action build.Absent refl refl nothing) in
    chosen (part_number Part.OnPath) 2 (omega arith) refl (subst (λ z. Goes (right own (part_number Part.OnPath) 2) v (pushed xs (started q ∷ c)) v z) (ap (λ zs. made absent ∷ made (path_of zs) ∷ c) (sym (append-nil xs))) reads)

pub path_end_shown : (w u : List Tok) (s t : Pile) → Trace (right own (part_number Part.OnPath) 2) w s u t → Claim (part_number Part.OnPath) w s t u
unfolding own
path_end_shown w u s t trace xs p b same =
    let (closes, absent_action) = passes_closes build.Path name_slots form_is.Path xs p refl refl (subst (λ z. Trace (right own (part_number Part.OnPath) 2) w z u t) same trace) in
    ([], absent, (passes_none (passes_absent absent_action)).1 ∙ ap (λ zs. made absent ∷ made (path_of zs) ∷ b) (sym (append-nil xs)), no_hook_name_again xs closes)
