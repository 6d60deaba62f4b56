-- Declarations, each a line, and the module of them.
use Rattle.std.specs.Prelude.{nat_lt, ◌&&◌, ◌||◌, if◌then◌else◌}
use Rattle.std.proofs.Common.{◌≡◌, ℕ, List, [], ◌∷◌, Bool, true, false, None, refl, sym, ◌∙◌, arith, ap, subst, inl}
use Rattle.sp_lex.specs.declared.kinds.TokenKind.TheVariants as token
use Rattle.sp_words.specs.declared.keywords.Keyword.TheVariants as keyword
use Rattle.sp_words.specs.declared.punctuation.Punctuation.TheVariants as sign
use Rattle.sp_parser.specs.Grammar.{right, takes, All}
use Rattle.sp_grammar.specs.declared.actions.Action.TheVariants as build
use Rattle.sp_grammar.specs.Written.{part as part_symbol, action as action_symbol, Part, part_number}
use Rattle.sp_grammar.specs.Terminals.{terminal_number}
use Rattle.sp_grammar.specs.declared.terminals.Terminal.TheVariants as terminal
use Rattle.sp_grammar.specs.Own.{own}
use Rattle.sp_words.specs.declared.operators.BinaryOp.{BinaryOp}
use Rattle.sp_words.specs.declared.operators.BinaryOp.TheVariants as binary
use Rattle.sp_words.specs.Operators.{level}
use Rattle.sp_ast.specs.Trees.{Tree, Trees, absent, row, node, tree, trees}
use Rattle.sp_ast.specs.declared.forms.Form.{Form}
use Rattle.sp_ast.specs.declared.forms.Form.TheVariants as form_is
use Rattle.sp_ast.specs.declared.forms.ExprForm.TheVariants as expr_is
use Rattle.sp_ast.specs.declared.groups.Group.TheVariants.{Names as names, Declarations as declarations}
use Rattle.sp_ast.specs.declared.groups.Sort.TheVariants.{One as one_of, Rows as rows_of}
use Rattle.sp_ast.specs.declared.groups.Slot.{Slot}
use Rattle.sp_ast.specs.declared.groups.Slot.TheVariants.{Part as slot}
use Rattle.sp_print.specs.Canonical.{at_place, enclosed, form_level, is_bare, is_regex, level_of, spelled}
use Rattle.sp_print.specs.Words.{fixed, name}
use Rattle.sp_law_printed_words.specs.Modules.{lines_of, module_lines}
use Rattle.sp_law_round_trip.specs.Bare.{nowhere}
use Rattle.sp_law_round_trip.proofs.Held.{Pile, started, made}
use Rattle.sp_law_round_trip.proofs.Goes.{Tok, entire, number, next, coming, before, pushed, Goes, nothing, whole, action, before_both}
use Rattle.sp_law_round_trip.proofs.Shown.{Claim, Trace, one, flat, Shows}
use Rattle.sp_law_round_trip.proofs.Steps.{Gather, Close, passes_token, passes_begin, passes_name, passes_part, passes_one, passes_row, passes_closes, passes_none, beside, chosen, named}

low_operator : (op : BinaryOp) → nat_lt (level op) 1 ≡ false
low_operator binary.Or = refl
low_operator op = refl

low_new : (b : Bool) → nat_lt (if b then 14 else 15) 1 ≡ false
low_new true = refl
low_new false = refl

low_form : (form : Form) (ts : Trees) → nat_lt (form_level form ts) 1 ≡ false
low_form (form_is.Expr (expr_is.Binary op)) ts = low_operator op
low_form (form_is.Expr expr_is.New) ts = low_new (is_bare ts)
low_form form ts = refl

-- no tree binds less tightly than a place asks for where anything may stand
low : (t : Tree) → nat_lt (level_of t) 1 ≡ false
low absent = refl
low (row ts) = refl
low (node form span ts) = low_form form ts

nor_false : (b : Bool) → b && false ≡ false
nor_false true = refl
nor_false false = refl

-- a line has no word before it
line_words : (t : Tree) → at_place 1 false t (spelled t) None ≡ spelled t None
line_words t = ap (λ b. if b then enclosed (spelled t) None else spelled t None) (ap (λ b. b || false || (is_regex t && false)) (low t) ∙ nor_false (is_regex t))

declarations_again : (x : Tree) (ts : List Tree) (k : ℕ) → Shows (part_number Part.Decl) (one 1) (x ∷ []) k → ((v : List Tok) (b : Pile) → Goes (part_symbol Part.Decls ∷ []) (before (flat (lines_of (trees ts))) v) b v (pushed ts b))
    → (v : List Tok) (b : Pile) → Goes (part_symbol Part.Decls ∷ []) (before (flat (lines_of (trees (x ∷ ts)))) v) b v (pushed (x ∷ ts) b)
unfolding own
declarations_again x ts k decl more v b =
    let line = spelled x None in
    let rest = before (flat (lines_of (trees ts))) v in
    let words = before_both line (flat (lines_of (trees ts))) v ∙ ap (λ ws. before ws rest) (sym (line_words x)) in
    let reads = beside (decl None rest b (inl tt)) (beside (more v (made x ∷ b)) nothing) in
    chosen (part_number Part.Decls) 0 (omega arith) refl (subst (λ z. Goes (right own (part_number Part.Decls) 0) z b v (pushed (x ∷ ts) b)) (sym words) reads)

pub declarations_shown : (w u : List Tok) (s t : Pile) → Trace (right own (part_number Part.Decls) 0) w s u t → Claim (part_number Part.Decls) w s t u
unfolding own
declarations_shown w u s t trace =
    let (a, x, whole_tree, shows, more) = passes_one (part_number Part.Decl) 1 refl trace in
    let (b, t', (ts, pile, reads), ends) = passes_part more in
    (x ∷ ts, (passes_none ends).1 ∙ pile, declarations_again x ts (coming a) shows reads)

pub no_declarations_shown : (w u : List Tok) (s t : Pile) → Trace (right own (part_number Part.Decls) 1) w s u t → Claim (part_number Part.Decls) w s t u
unfolding own
no_declarations_shown w u s t trace = ([], (passes_none trace).1, λ v b. chosen (part_number Part.Decls) 1 (omega arith) refl nothing)

abbrev module_slots : List Slot
module_slots = slot (one_of names) ∷ slot (rows_of declarations) ∷ []

abbrev module_of : List ℕ → List Tree → Tree
module_of x ts = tree form_is.Module nowhere (named x ∷ row (trees ts) ∷ [])

module_again : (x : List ℕ) (ts : List Tree) → takes (terminal_number terminal.Id) (number (entire (name x))) ≡ All → Gather ts → Close module_slots form_is.Module (named x ∷ row (trees ts) ∷ [])
    → ((v : List Tok) (b : Pile) → Goes (part_symbol Part.Decls ∷ []) (before (flat (lines_of (trees ts))) v) b v (pushed ts b))
    → Goes (part_symbol Part.Module ∷ []) (before (flat (module_lines (module_of x ts))) []) [] [] (made (module_of x ts) ∷ [])
unfolding own
module_again x ts is_name gather closes reads =
    let rest = before (flat (lines_of (trees ts))) [] in
    let words = entire (fixed (token.Keyword keyword.Module)) ∷ entire (name x) ∷ entire (fixed (token.Punctuation sign.Semicolon)) ∷ rest in
    let outer : Pile = started (next words) ∷ [] in
    let inner : Pile = started (next rest) ∷ made (named x) ∷ outer in
    chosen (part_number Part.Module) 0 (omega arith) refl (action build.Begin refl refl (whole refl (action build.Name refl refl (whole is_name (whole refl (action build.Begin refl refl (beside (reads [] inner) (action build.Row refl (gather (next []) (next rest) (made (named x) ∷ outer)) (action build.ModuleDecl refl (closes (next []) (next words) []) nothing)))))))))

-- a module is read from the words of its lines
pub module_shown : (w u : List Tok) (m : Tree) → Trace (right own (part_number Part.Module) 0) w [] u (made m ∷ []) → Goes (part_symbol Part.Module ∷ []) (before (flat (module_lines m)) []) [] [] (made m ∷ [])
unfolding own
module_shown w u m trace =
    let (c, a, is, taken, name_action) = passes_token refl (passes_begin trace) in
    let (x, is_name, d, semicolon) = passes_name name_action in
    let (y, f, also, ended_so, begin) = passes_token refl semicolon in
    let (g, t', (ts, pile, reads), row_action) = passes_part (passes_begin begin) in
    let (gather, module_action) = passes_row ts (next f) (subst (λ z. Trace (action_symbol build.Row ∷ action_symbol build.ModuleDecl ∷ []) g z u (made m ∷ [])) pile row_action) in
    let (closes, ends) = passes_closes build.ModuleDecl module_slots form_is.Module (named x ∷ row (trees ts) ∷ []) (next w) refl refl module_action in
    let left = (passes_none ends).1 in
    let same : module_of x ts ≡ m = cc in
    subst (λ z. Goes (part_symbol Part.Module ∷ []) (before (flat (module_lines z)) []) [] [] (made z ∷ [])) same (module_again x ts is_name gather closes reads)
