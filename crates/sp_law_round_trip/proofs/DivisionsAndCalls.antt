-- A division, the left operand of which stands such that a `/` behind it divides; and a call.
use Rattle.std.proofs.Common.{◌≡◌, ℕ, List, [], ◌∷◌, ◌++◌, true, false, Some, refl, sym, ◌∙◌, subst, inl, inr, ⊎_elim, arith}
use Rattle.sp_words.specs.declared.punctuation.Punctuation.TheVariants as sign
use Rattle.sp_lex.specs.declared.kinds.TokenKind.TheVariants as kind
use Rattle.sp_parser.specs.Grammar.{right}
use Rattle.sp_grammar.specs.declared.actions.Action.TheVariants as build
use Rattle.sp_grammar.specs.Written.{Part, part_number, part as part_symbol}
use Rattle.sp_grammar.specs.Own.{own}
use Rattle.sp_ast.specs.declared.forms.Form.{Form}
use Rattle.sp_ast.specs.declared.forms.Form.TheVariants as form_is
use Rattle.sp_ast.specs.declared.forms.ExprForm.TheVariants as expr_is
use Rattle.sp_words.specs.declared.operators.BinaryOp.TheVariants as binary
use Rattle.sp_ast.specs.Trees.{Tree, tree, in_row}
use Rattle.sp_ast.specs.declared.groups.Group.TheVariants.{Expressions as expressions}
use Rattle.sp_ast.specs.declared.groups.Slot.{Slot}
use Rattle.sp_ast.specs.declared.groups.Slot.TheVariants.{Part as slot}
use Rattle.sp_ast.specs.declared.groups.Sort.TheVariants.{One as one, Rows as rows}
use Rattle.sp_build.specs.Rules.{joins}
use Rattle.sp_print.specs.Canonical.{at_place, spelled}
use Rattle.sp_print.specs.declared.layouts.Separator.TheVariants as separator
use Rattle.sp_print.specs.Words.{Word, fixed}
use Rattle.sp_law_round_trip.specs.Bare.{nowhere}
use Rattle.sp_law_round_trip.specs.Told.{Telling}
use Rattle.sp_law_round_trip.proofs.Held.{Pile, started, made, does}
use Rattle.sp_law_round_trip.proofs.Goes.{Tok, entire, next, Goes, nothing, whole, action, before, pushed, coming, before_both}
use Rattle.sp_law_round_trip.proofs.Closing.{joined_all}
use Rattle.sp_law_round_trip.proofs.Shown.{listed, yielded, Shows, Claim, MayPass, Spells, Trace}
use Rattle.sp_law_round_trip.proofs.Levels.{at_level}
use Rattle.sp_law_round_trip.proofs.Steps.{passes_token, passes_action, passes_trees, passes_expression, passes_begin, passes_row, passes_none, beside, chosen, Gather}

abbrev division : Form
division = form_is.Expr (expr_is.Binary binary.Divide)

abbrev operands : List Slot
operands = slot (one expressions) ∷ slot (one expressions) ∷ []

-- the left operand of a division stands such that a `/` behind it divides
divided : (x y : Tree) → Spells x → Spells y → ((p : Telling) (s : Pile) → does (joins operands division) p (made y ∷ made x ∷ s) ≡ Some (made (tree division nowhere (x ∷ y ∷ [])) ∷ s)) → Spells (tree division nowhere (x ∷ y ∷ []))
unfolding own
divided x y x_spells y_spells joined = record {
  is = refl;
  low = omega arith;
  high = omega arith;
  reads = λ last v s pass.
      let slash : Word = fixed (kind.Punctuation sign.Slash) in
      let left = at_place 12 true x (spelled x) last in
      let right = at_place 13 false y (spelled y) (Some (kind.Punctuation sign.Slash)) in
      let pass : MayPass 13 v = ⊎_elim (λ e. absurd (omega (arith, e))) (λ a. inr a) pass in
      let reads_right = subst (λ w. Goes (part_symbol Part.Prefix ∷ []) w (made x ∷ s) v (made y ∷ made x ∷ s)) (sym (before_both right [] v)) (at_level y y_spells 13 (omega arith) (omega arith) false (Some (kind.Punctuation sign.Slash)) v (made x ∷ s) pass) in
      let reads_left = at_level x x_spells 12 (omega arith) (omega arith) true last (entire slash ∷ before (right ++ []) v) s (inr refl) in
      subst (λ w. Goes (part_symbol Part.Product ∷ []) w s v (made (tree division nowhere (x ∷ y ∷ [])) ∷ s)) (sym (before_both left (slash ∷ (right ++ [])) v))
      (chosen (part_number Part.Product) 1 (omega arith) refl (beside reads_left (whole refl (beside reads_right (action (build.Binary binary.Divide) refl (joined (next v) s) nothing)))));
}

pub division_shown : (w u : List Tok) (s t : Pile) → Trace (right own (part_number Part.Product) 1) w s u t → Claim (part_number Part.Product) w s t u
unfolding own
division_shown w u s t g =
    let (_, x, x_spells, g) = passes_expression (part_number Part.Product) 12 refl g in
    let (_, _, _, _, g) = passes_token refl g in
    let (w, y, y_spells, g) = passes_expression (part_number Part.Prefix) 13 refl g in
    let (t, d, g) = passes_action (build.Binary binary.Divide) refl g in
    let (is, joined) = joined_all operands division (x ∷ y ∷ []) s t (next w) refl refl d in
    (tree division nowhere (x ∷ y ∷ []), (passes_none g).1 ∙ is, divided x y x_spells y_spells joined)

abbrev call : Form
call = form_is.Expr expr_is.Call

abbrev callee_and_arguments : List Slot
callee_and_arguments = slot (one expressions) ∷ slot (rows expressions) ∷ []

called : (x : Tree) (ts : List Tree) (came : ℕ) → Spells x → Shows (part_number Part.Args) (listed separator.Comma) ts came → Gather ts → ((p : Telling) (s : Pile) → does (joins callee_and_arguments call) p (made (in_row ts) ∷ made x ∷ s) ≡ Some (made (tree call nowhere (x ∷ in_row ts ∷ [])) ∷ s))
    → Spells (tree call nowhere (x ∷ in_row ts ∷ []))
unfolding own
called x ts came x_spells shows gathered joined = record {
  is = refl;
  low = omega arith;
  high = omega arith;
  reads = λ last v s pass.
      let opening : Word = fixed (kind.Punctuation sign.LeftParen) in
      let closing : Word = fixed (kind.Punctuation sign.RightParen) in
      let callee = at_place 15 false x (spelled x) last in
      let inside = yielded (listed separator.Comma) ts (Some (kind.Punctuation sign.LeftParen)) in
      let below : Pile = started (next (before (inside ++ closing ∷ []) v)) ∷ made x ∷ s in
      let reads_inside = subst (λ w. Goes (part_symbol Part.Args ∷ []) w below (entire closing ∷ v) (pushed ts below)) (sym (before_both inside (closing ∷ []) v)) (shows (Some (kind.Punctuation sign.LeftParen)) (entire closing ∷ v) below (inl refl)) in
      let reads_callee = at_level x x_spells 15 (omega arith) (omega arith) false last (entire opening ∷ before (inside ++ closing ∷ []) v) s (inl refl) in
      subst (λ w. Goes (part_symbol Part.Postfix ∷ []) w s v (made (tree call nowhere (x ∷ in_row ts ∷ [])) ∷ s)) (sym (before_both callee (opening ∷ (inside ++ closing ∷ [])) v))
      (chosen (part_number Part.Postfix) 3 (omega arith) refl (beside reads_callee (whole refl (action build.Begin refl refl (beside reads_inside (whole refl (action build.Row refl (gathered (next v) (next (before (inside ++ closing ∷ []) v)) (made x ∷ s)) (action build.Call refl (joined (next v) s) nothing))))))));
}

pub call_shown : (w u : List Tok) (s t : Pile) → Trace (right own (part_number Part.Postfix) 3) w s u t → Claim (part_number Part.Postfix) w s t u
unfolding own
call_shown w u s t g =
    let (_, x, x_spells, g) = passes_expression (part_number Part.Postfix) 14 refl g in
    let (_, inside, _, _, g) = passes_token refl g in
    let g = passes_begin g in
    let (behind, ts, _, shows, g) = passes_trees (part_number Part.Args) (listed separator.Comma) refl g in
    let (_, w, _, _, g) = passes_token refl g in
    let (gathered, g) = passes_row ts (next inside) g in
    let (t, d, g) = passes_action build.Call refl g in
    let (is, joined) = joined_all callee_and_arguments call (x ∷ in_row ts ∷ []) s t (next w) refl refl d in
    (tree call nowhere (x ∷ in_row ts ∷ []), (passes_none g).1 ∙ is, called x ts (coming behind) x_spells shows gathered joined)
