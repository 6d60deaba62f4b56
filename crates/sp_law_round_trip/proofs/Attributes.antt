-- Attributes of fields: each is of the word at which it began, with a value or none.
use Rattle.std.specs.Prelude.{◌⊎◌}
use Rattle.std.proofs.Common.{◌≡◌, ℕ, zero, suc, List, [], ◌∷◌, ◌++◌, Option, Some, refl, sym, ◌∙◌, arith, ap, subst, inl, inr, ◌==◌}
use Rattle.sp_lex.specs.declared.kinds.TokenKind.{TokenKind}
use Rattle.sp_lex.specs.declared.kinds.TokenKind.TheVariants as token
use Rattle.sp_parser.specs.Grammar.{right, takes, All}
use Rattle.sp_grammar.specs.declared.actions.Action.TheVariants as build
use Rattle.sp_grammar.specs.Written.{part as part_symbol, action as action_symbol, Part, part_number}
use Rattle.sp_grammar.specs.Terminals.{terminal_number}
use Rattle.sp_words.specs.declared.punctuation.Punctuation.TheVariants as sign
use Rattle.sp_grammar.specs.declared.terminals.Terminal.TheVariants as terminal
use Rattle.sp_grammar.specs.Own.{own}
use Rattle.sp_ast.specs.Trees.{Tree, tree}
use Rattle.sp_ast.specs.declared.forms.Form.TheVariants as form_is
use Rattle.sp_words.specs.declared.words.AttributeName.{AttributeName}
use Rattle.sp_ast.specs.declared.groups.Group.TheVariants.{Expressions as expressions}
use Rattle.sp_ast.specs.declared.groups.Sort.TheVariants.{Optional as may_be}
use Rattle.sp_ast.specs.declared.groups.Slot.{Slot}
use Rattle.sp_ast.specs.declared.groups.Slot.TheVariants.{Part as slot}
use Rattle.sp_build.specs.Tokens.{attribute_of}
use Rattle.sp_print.specs.Canonical.{last_kind}
use Rattle.sp_print.specs.declared.layouts.Frame.TheVariants as frame
use Rattle.sp_print.specs.declared.layouts.Separator.TheVariants as separator
use Rattle.sp_print.specs.Words.{Word, fixed}
use Rattle.sp_law_round_trip.specs.Bare.{nowhere}
use Rattle.sp_law_round_trip.proofs.Held.{Pile, started, made}
use Rattle.sp_law_round_trip.proofs.Goes.{Tok, entire, telling_of, number, next, coming, before, pushed, Goes, nothing, whole, action, part, before_both}
use Rattle.sp_law_round_trip.proofs.Shown.{Claim, Trace, optional, listed, yielded, Shows, MayFollow}
use Rattle.sp_law_round_trip.proofs.Steps.{CloseBy, passes_token, passes_begin, passes_trees, passes_told, passes_none, beside, reads_action, reads_token, reads_nothing, unavoided, chosen}
use Rattle.sp_law_round_trip.proofs.Laid.{nothing_between}

abbrev attribute_word : AttributeName → Word
attribute_word a = fixed (token.Attribute a)

attribute_taken : (a : AttributeName) → takes (terminal_number terminal.Attribute) (number (entire (attribute_word a))) ≡ All
attribute_taken a = refl

abbrev value_slot : List Slot
value_slot = slot (may_be expressions) ∷ []

abbrev attribute_of_value : AttributeName → Tree → Tree
attribute_of_value a value = tree (form_is.Attribute a) nowhere (value ∷ [])

-- attributes begin with an attribute, if there are any
attributes_begin : {w v : List Tok} {s t : Pile} → Goes (part_symbol Part.Attrs ∷ []) w s v t → (coming w ≡ terminal_number terminal.Attribute) ⊎ (w ≡ v)
unfolding own
attributes_begin (part zero may reads nothing) = inl (reads_token (terminal_number terminal.Attribute) refl (reads_action reads).1)
attributes_begin (part (suc zero) may reads nothing) = inr (reads_nothing reads)
attributes_begin (part (suc (suc p)) may reads nothing) = absurd (omega (arith, may.below))

-- what comes behind the value of an attribute
behind_value : (k came : ℕ) (w v : List Tok) → MayFollow (part_number Part.Attrs) came v → (coming w ≡ terminal_number terminal.Attribute) ⊎ (w ≡ v) → MayFollow (part_number Part.OptValue) k w
behind_value k came w v may (inl one) = inl (ap (λ n. n == terminal_number (terminal.Punctuation sign.LeftParen)) one)
behind_value k came w v may (inr same) = inl (ap (λ x. coming x == terminal_number (terminal.Punctuation sign.LeftParen)) same ∙ unavoided (part_number Part.Attrs) came v refl may)

attributes_again : (a : AttributeName) (value : Tree) (us : List Tree) (came k : ℕ) → CloseBy value_slot (λ q. attribute_of q.kind) (λ name. form_is.Attribute name) (value ∷ []) a
    → Shows (part_number Part.OptValue) (optional frame.Equal) (value ∷ []) k → Shows (part_number Part.Attrs) (listed separator.Nothing) us came → Shows (part_number Part.Attrs) (listed separator.Nothing) (attribute_of_value a value ∷ us) came
unfolding own
attributes_again a value us came k closes show_value more last v s may =
    let kind : Option TokenKind = Some (token.Attribute a) in
    let first = yielded (optional frame.Equal) (value ∷ []) kind in
    let behind = last_kind kind (first ++ []) in
    let rest = yielded (listed separator.Nothing) us behind in
    let words = ap (λ z. before ((first ++ []) ++ z behind) v) (sym (nothing_between us)) ∙ before_both (first ++ []) rest v ∙ before_both first [] (before rest v) in
    let inner : Pile = started (telling_of (attribute_word a)) ∷ s in
    let reads_more = more behind v (made (attribute_of_value a value) ∷ s) may in
    let reads = beside (show_value kind (before rest v) inner (behind_value k came (before rest v) v may (attributes_begin reads_more))) (action build.Attribute refl (closes (telling_of (attribute_word a)) s refl) (beside reads_more nothing)) in
    chosen (part_number Part.Attrs) 0 (omega arith) refl (action build.Begin refl refl (whole (attribute_taken a) (subst (λ z. Goes (part_symbol Part.OptValue ∷ action_symbol build.Attribute ∷ part_symbol Part.Attrs ∷ []) z inner v (pushed us (made (attribute_of_value a value) ∷ s))) (sym words) reads)))

attribute_with : (w u b : List Tok) (s t : Pile) (ts : List Tree) → (value : Tree) × (ts ≡ value ∷ []) → Shows (part_number Part.OptValue) (optional frame.Equal) ts (coming b)
    → Trace (action_symbol build.Attribute ∷ part_symbol Part.Attrs ∷ []) b (pushed ts (started (next w) ∷ s)) u t → Claim (part_number Part.Attrs) w s t u
attribute_with w u b s t ts (value, one) shows trace =
    let acted = subst (λ z. Trace (action_symbol build.Attribute ∷ part_symbol Part.Attrs ∷ []) b (pushed z (started (next w) ∷ s)) u t) one trace in
    let (a, closes, rest) = passes_told build.Attribute value_slot (λ q. attribute_of q.kind) (λ name. form_is.Attribute name) (value ∷ []) (next w) refl (λ q z. refl) acted in
    let (d, us, fits, more, ends) = passes_trees (part_number Part.Attrs) (listed separator.Nothing) refl rest in
    let (same, pile) = passes_none ends in
    (attribute_of_value a value ∷ us, pile, tt, attributes_again a value us (coming u) (coming b) closes (subst (λ z. Shows (part_number Part.OptValue) (optional frame.Equal) z (coming b)) one shows) (subst (λ z. Shows (part_number Part.Attrs) (listed separator.Nothing) us (coming z)) same more))

pub attributes_shown : (w u : List Tok) (s t : Pile) → Trace (right own (part_number Part.Attrs) 0) w s u t → Claim (part_number Part.Attrs) w s t u
unfolding own
attributes_shown w u s t trace =
    let (x, a, is, taken, value) = passes_token refl (passes_begin trace) in
    let (b, ts, fits, shows, acted) = passes_trees (part_number Part.OptValue) (optional frame.Equal) refl value in
    attribute_with w u b s t ts fits shows acted
