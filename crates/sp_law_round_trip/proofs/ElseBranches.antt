-- The rest of an `if`: more branches, and an `else` or none.
use Rattle.std.specs.Prelude.{◌⊎◌, ◌^◌}
use Rattle.std.specs.Int.{bit_at}
use Rattle.std.proofs.Common.{◌≡◌, ℕ, List, [], ◌∷◌, ◌++◌, map, true, false, Option, Some, refl, sym, ◌∙◌, arith, ap, subst, inl, inr, eq-eqb}
use Rattle.std.proofs.lemmas.List.{append-nil, append_assoc}
use Rattle.std.proofs.lemmas.Nat.Bits.{bit_at-pow_other, bit_at-pow_same}
use Rattle.sp_lex.specs.declared.kinds.TokenKind.{TokenKind}
use Rattle.sp_lex.specs.declared.kinds.TokenKind.TheVariants as token
use Rattle.sp_words.specs.declared.keywords.Keyword.TheVariants as keyword
use Rattle.sp_parser.specs.Grammar.{right, Applies}
use Rattle.sp_grammar.specs.declared.actions.Action.TheVariants as build
use Rattle.sp_grammar.specs.Written.{part as part_symbol, action as action_symbol, kind as kind_symbol, Part, part_number}
use Rattle.sp_grammar.specs.Terminals.{terminal_number}
use Rattle.sp_grammar.specs.declared.terminals.Terminal.TheVariants as terminal
use Rattle.sp_grammar.specs.Own.{own}
use Rattle.sp_ast.specs.Trees.{Tree, absent, row, node, tree, trees}
use Rattle.sp_ast.specs.declared.forms.Form.{Form}
use Rattle.sp_ast.specs.declared.forms.Form.TheVariants as form_is
use Rattle.sp_ast.specs.declared.forms.StmtForm.TheVariants as stmt_is
use Rattle.sp_ast.specs.declared.groups.Group.TheVariants.{Branches as branches, Statements as statements}
use Rattle.sp_ast.specs.declared.groups.Sort.TheVariants.{Rows as rows_of, Optional as may_be}
use Rattle.sp_ast.specs.declared.groups.Slot.{Slot}
use Rattle.sp_ast.specs.declared.groups.Slot.TheVariants.{Part as slot}
use Rattle.sp_ast.specs.Groups.{is_node}
use Rattle.sp_build.proofs.Told.{never}
use Rattle.sp_print.specs.Canonical.{last_kind, chain, framed, parts_of, part_of, followed as written_followed}
use Rattle.sp_print.specs.declared.layouts.Frame.TheVariants as frame
use Rattle.sp_print.specs.declared.layouts.Separator.TheVariants as separator
use Rattle.sp_print.specs.Words.{Word, fixed}
use Rattle.sp_law_round_trip.specs.Bare.{nowhere}
use Rattle.sp_law_round_trip.specs.Told.{Telling}
use Rattle.sp_law_round_trip.proofs.Held.{Pile, started, made}
use Rattle.sp_law_round_trip.proofs.Goes.{Tok, entire, number, next, coming, before, pushed, Goes, nothing, whole, action, part, before_both, pushed_append}
use Rattle.sp_law_round_trip.proofs.Shown.{Claim, OptElseClaim, Trace, one, yielded, Shows, MayFollow}
use Rattle.sp_law_round_trip.proofs.Steps.{Gather, Close, is_token, passes_token, passes_absent, passes_part, passes_one, passes_row, passes_closes, passes_none, beside, chosen}
use Rattle.sp_law_round_trip.proofs.Piles.{last_both}

abbrev if_form : Form
if_form = form_is.Stmt stmt_is.If

abbrev if_slots : List Slot
if_slots = slot (rows_of branches) ∷ slot (may_be statements) ∷ []

abbrev pub if_tree : List Tree → Tree → Tree
if_tree bs e = tree if_form nowhere (row (trees bs) ∷ e ∷ [])

-- the words behind the branches so far
abbrev pub rest_words : List Tree → Tree → Option TokenKind → List Word
rest_words cs e last = chain (written_followed separator.ElseIf (parts_of (trees cs))) (framed frame.Else (part_of e)) last

-- what came before the rest of an `if`: an `else`, or what came behind it
abbrev pub Came : List Tree → Tree → ℕ → ℕ → Type 0
Came cs e came behind = (came ≡ terminal_number (terminal.Keyword keyword.Else)) ⊎ ((cs ≡ []) × (e ≡ absent) × (came ≡ behind))

-- what is read behind the branches bs, where this came behind the whole
abbrev pub Rest : List Tree → List Tree → Tree → ℕ → Type 0
Rest bs cs e came = (last : Option TokenKind) (v : List Tok) (x y : Telling) (c : Pile) → MayFollow (part_number Part.Stmt) came v → Goes (part_symbol Part.OptElse ∷ []) (before (rest_words cs e last) v) (pushed bs (started x ∷ started y ∷ c)) v (made (if_tree (bs ++ cs) e) ∷ c)

same_follows : (came behind : ℕ) (v : List Tok) → came ≡ behind → MayFollow (part_number Part.Stmt) behind v → MayFollow (part_number Part.Branch) came v
same_follows came behind v same (inl free) = inl free
same_follows came behind v same (inr (kept, came_so)) = inr (refl, same ∙ came_so)

-- what comes behind a branch
pub behind_branch : (cs : List Tree) (e : Tree) (last : Option TokenKind) (came behind : ℕ) (v : List Tok) → Came cs e came behind → MayFollow (part_number Part.Stmt) behind v → MayFollow (part_number Part.Branch) came (before (rest_words cs e last) v)
behind_branch cs e last came behind v (inl else_came) may = inr (refl, else_came)
behind_branch cs e last came behind v (inr (none_more, no_else, same)) may =
    let empty : v ≡ before (rest_words cs e last) v = sym (ap (λ zs. before (rest_words zs e last) v) none_more ∙ ap (λ z. before (rest_words [] z last) v) no_else) in
    subst (λ z. MayFollow (part_number Part.Branch) came z) empty (same_follows came behind v same may)

-- the words of a branch, and of what comes behind it
pub branch_then : (x : Tree) (cs : List Tree) (e : Tree) (last : Option TokenKind) (v : List Tok) →
    let first = yielded (one 1) (x ∷ []) last in
    let more = written_followed separator.ElseIf (parts_of (trees cs)) (last_kind last first) in
    before (first ++ more ++ framed frame.Else (part_of e) (last_kind last (first ++ more))) v ≡ before first (before (rest_words cs e (last_kind last first)) v)
branch_then x cs e last v =
    let first = yielded (one 1) (x ∷ []) last in
    let more = written_followed separator.ElseIf (parts_of (trees cs)) (last_kind last first) in
    ap (λ l. before (first ++ more ++ framed frame.Else (part_of e) l) v) (last_both last first more)
    ∙ ap (λ ws. before ws v) (append_assoc first more (framed frame.Else (part_of e) (last_kind (last_kind last first) more)))
    ∙ before_both first (rest_words cs e (last_kind last first)) v

branch_again : (bs cs : List Tree) (e x : Tree) (came behind : ℕ) → Came cs e came behind → Shows (part_number Part.Branch) (one 1) (x ∷ []) came → Rest (bs ++ x ∷ []) cs e behind → Rest bs (x ∷ cs) e behind
unfolding own
branch_again bs cs e x came behind before_rest branch rest last v p q c may =
    let if_kind : Option TokenKind = Some (token.Keyword keyword.If) in
    let after = last_kind if_kind (yielded (one 1) (x ∷ []) if_kind) in
    let words = before (rest_words cs e after) v in
    let at_branches = subst (λ z. Goes (part_symbol Part.OptElse ∷ []) words z v (made (if_tree (bs ++ x ∷ [] ++ cs) e) ∷ c)) (pushed_append bs (x ∷ []) (started p ∷ started q ∷ c)) (rest after v p q c may) in
    let behind_it = subst (λ zs. Goes (part_symbol Part.OptElse ∷ []) words (made x ∷ pushed bs (started p ∷ started q ∷ c)) v (made (if_tree zs e) ∷ c)) (append_assoc bs (x ∷ []) cs) at_branches in
    let reads = beside (branch if_kind words (pushed bs (started p ∷ started q ∷ c)) (behind_branch cs e after came behind v before_rest may)) (beside behind_it nothing) in
    chosen (part_number Part.OptElse) 0 (omega arith) refl (whole refl (whole refl (subst (λ z. Goes (part_symbol Part.Branch ∷ part_symbol Part.OptElse ∷ []) z (pushed bs (started p ∷ started q ∷ c)) v (made (if_tree (bs ++ x ∷ cs) e) ∷ c)) (sym (branch_then x cs e if_kind v)) reads)))

-- the branches so far, and one more
more_built : (bs cs : List Tree) (x e : Tree) (b r t : Pile) → t ≡ r → r ≡ made (if_tree (bs ++ x ∷ [] ++ cs) e) ∷ b → t ≡ made (if_tree (bs ++ x ∷ cs) e) ∷ b
more_built bs cs x e b r t same built = same ∙ built ∙ ap (λ zs. made (if_tree zs e) ∷ b) (append_assoc bs (x ∷ []) cs)

pub else_if_shown : (w u : List Tok) (s t : Pile) → Trace (right own (part_number Part.OptElse) 0) w s u t → Claim (part_number Part.OptElse) w s t u
unfolding own
else_if_shown w u s t trace bs p q b same =
    let (x, a, is, taken, if_word) = passes_token refl trace in
    let (y, d, also, if_taken, branch) = passes_token refl if_word in
    let (f, z, whole_tree, shows, more) = passes_one (part_number Part.Branch) 1 refl branch in
    let (g, t', claim, ends) = passes_part more in
    let (none_left, pile) = passes_none ends in
    let (cs, e, built, came, reads) = subst (λ l. OptElseClaim f (made z ∷ s) t' l) none_left claim (bs ++ z ∷ []) p q b (ap (λ r. made z ∷ r) same ∙ sym (pushed_append bs (z ∷ []) (started p ∷ started q ∷ b))) in
    (z ∷ cs, e, more_built bs cs z e b t' t pile built, inl (ap coming is ∙ is_token (terminal_number (terminal.Keyword keyword.Else)) x refl taken), branch_again bs cs e z (coming f) (coming u) came shows reads)

-- a part that isn't left out stands behind its `else`
else_words : (e : Tree) (last : Option TokenKind) → is_node e ≡ true → rest_words [] e last ≡ fixed (token.Keyword keyword.Else) ∷ (yielded (one 1) (e ∷ []) (Some (token.Keyword keyword.Else)) ++ [])
else_words (node form span ts) last h = refl
else_words absent last h = never h
else_words (row ts) last h = never h

else_again : (bs : List Tree) (e : Tree) (came behind : ℕ) → is_node e ≡ true → came ≡ behind → Gather bs → Shows (part_number Part.Other) (one 1) (e ∷ []) came → Close if_slots if_form (row (trees bs) ∷ e ∷ []) → Rest bs [] e behind
unfolding own
else_again bs e came behind is_one same gather statement closes last v p q c may =
    let else_kind : Option TokenKind = Some (token.Keyword keyword.Else) in
    let body = yielded (one 1) (e ∷ []) else_kind in
    let words = ap (λ ws. before ws v) (else_words e last is_one) ∙ ap (λ r. entire (fixed (token.Keyword keyword.Else)) ∷ r) (before_both body [] v) in
    let under : Pile = made (row (trees bs)) ∷ started q ∷ c in
    let reads = whole refl (action build.Row refl (gather (next (before body v)) p (started q ∷ c)) (beside (statement else_kind v under (subst (λ k. MayFollow (part_number Part.Other) k v) (sym same) may)) (action build.IfStmt refl (closes (next v) q c) nothing))) in
    let built = subst (λ zs. Goes (kind_symbol (terminal.Keyword keyword.Else) ∷ action_symbol build.Row ∷ part_symbol Part.Other ∷ action_symbol build.IfStmt ∷ []) (entire (fixed (token.Keyword keyword.Else)) ∷ before body v) (pushed bs (started p ∷ started q ∷ c)) v (made (if_tree zs e) ∷ c)) (sym (append-nil bs)) reads in
    chosen (part_number Part.OptElse) 1 (omega arith) refl (subst (λ z. Goes (right own (part_number Part.OptElse) 1) z (pushed bs (started p ∷ started q ∷ c)) v (made (if_tree (bs ++ []) e) ∷ c)) (sym words) built)

pub else_shown : (w u : List Tok) (s t : Pile) → Trace (right own (part_number Part.OptElse) 1) w s u t → Claim (part_number Part.OptElse) w s t u
unfolding own
else_shown w u s t trace bs p q b same =
    let (x, a, is, taken, row_action) = passes_token refl (subst (λ z. Trace (right own (part_number Part.OptElse) 1) w z u t) same trace) in
    let (gather, statement) = passes_row bs p row_action in
    let (f, e, is_one, shows, if_action) = passes_one (part_number Part.Other) 1 refl statement in
    let (closes, ends) = passes_closes build.IfStmt if_slots if_form (row (trees bs) ∷ e ∷ []) q refl refl if_action in
    let (none_left, pile) = passes_none ends in
    ([], e, pile ∙ ap (λ zs. made (if_tree zs e) ∷ b) (sym (append-nil bs)), inl (ap coming is ∙ is_token (terminal_number (terminal.Keyword keyword.Else)) x refl taken), else_again bs e (coming f) (coming u) is_one (ap coming none_left) gather shows closes)

-- no `else` comes where none came
no_else_comes : (came : ℕ) (v : List Tok) → bit_at (2 ^ terminal_number (terminal.Keyword keyword.Else)) came ≡ 0 → MayFollow (part_number Part.Stmt) came v → bit_at (2 ^ terminal_number (terminal.Keyword keyword.Else)) (coming v) ≡ 0
no_else_comes came v none_came (inl free) = bit_at-pow_other (terminal_number (terminal.Keyword keyword.Else)) (coming v) (λ same. absurd (let q : true ≡ false = sym (eq-eqb (coming v) (terminal_number (terminal.Keyword keyword.Else)) same) ∙ free in cc))
no_else_comes came v none_came (inr (kept, else_came)) = absurd (let q : 1 ≡ 0 = sym (bit_at-pow_same (terminal_number (terminal.Keyword keyword.Else))) ∙ ap (bit_at (2 ^ terminal_number (terminal.Keyword keyword.Else))) (sym else_came) ∙ none_came in cc)

no_else_again : (bs : List Tree) (came : ℕ) → bit_at (2 ^ terminal_number (terminal.Keyword keyword.Else)) came ≡ 0 → Gather bs → Close if_slots if_form (row (trees bs) ∷ absent ∷ []) → Rest bs [] absent came
unfolding own
no_else_again bs came none_came gather closes last v p q c may =
    let reads = action build.Row refl (gather (next v) p (started q ∷ c)) (action build.Absent refl refl (action build.IfStmt refl (closes (next v) q c) nothing)) in
    part 2 (record { below = omega arith; allowed = no_else_comes came v none_came may }) (subst (λ zs. Goes (action_symbol build.Row ∷ action_symbol build.Absent ∷ action_symbol build.IfStmt ∷ []) v (pushed bs (started p ∷ started q ∷ c)) v (made (if_tree zs absent) ∷ c)) (sym (append-nil bs)) reads) nothing

pub no_else_shown : (w u : List Tok) (s t : Pile) → Applies own (part_number Part.OptElse) 2 (map number w) → Trace (right own (part_number Part.OptElse) 2) w s u t → Claim (part_number Part.OptElse) w s t u
unfolding own
no_else_shown w u s t applies trace bs p q b same =
    let (gather, absent_action) = passes_row bs p (subst (λ z. Trace (right own (part_number Part.OptElse) 2) w z u t) same trace) in
    let (closes, ends) = passes_closes build.IfStmt if_slots if_form (row (trees bs) ∷ absent ∷ []) q refl refl (passes_absent absent_action) in
    let (none_left, pile) = passes_none ends in
    let none_came : bit_at (2 ^ terminal_number (terminal.Keyword keyword.Else)) (coming u) ≡ 0 = ap (λ z. bit_at (2 ^ terminal_number (terminal.Keyword keyword.Else)) (coming z)) (sym none_left) ∙ applies.allowed in
    ([], absent, pile ∙ ap (λ zs. made (if_tree zs absent) ∷ b) (sym (append-nil bs)), inr (refl, refl, ap coming none_left), no_else_again bs (coming u) none_came gather closes)
