-- A `new` and its arguments: without any it is printed without parentheses, and no `(` may come behind it.
use Rattle.std.proofs.Common.{◌≡◌, ◌≢◌, ℕ, List, [], ◌∷◌, ◌++◌, true, false, Option, Some, refl, sym, ◌∙◌, subst, inl, ⊎_elim, arith}
use Rattle.std.proofs.lemmas.Bool.{eq-eqb, ltb-true}
use Rattle.std.proofs.lemmas.Nat.Bits.{bit_at-pow_other}
use Rattle.sp_words.specs.declared.keywords.Keyword.TheVariants as keyword
use Rattle.sp_words.specs.declared.punctuation.Punctuation.TheVariants as sign
use Rattle.sp_lex.specs.declared.kinds.TokenKind.{TokenKind}
use Rattle.sp_lex.specs.declared.kinds.TokenKind.TheVariants as kind
use Rattle.sp_parser.specs.Grammar.{right}
use Rattle.sp_grammar.specs.declared.actions.Action.TheVariants as build
use Rattle.sp_grammar.specs.declared.terminals.Terminal.TheVariants as token
use Rattle.sp_grammar.specs.Terminals.{terminal_number}
use Rattle.sp_grammar.specs.Written.{Part, part_number, part as part_symbol, action as action_symbol}
use Rattle.sp_grammar.specs.Own.{own}
use Rattle.sp_ast.specs.declared.forms.Form.{Form}
use Rattle.sp_ast.specs.declared.forms.Form.TheVariants as form_is
use Rattle.sp_ast.specs.declared.forms.ExprForm.TheVariants as expr_is
use Rattle.sp_ast.specs.Trees.{Tree, row, none, tree, in_row}
use Rattle.sp_ast.specs.declared.groups.Group.TheVariants.{Expressions as expressions, Paths as paths}
use Rattle.sp_ast.specs.declared.groups.Slot.{Slot}
use Rattle.sp_ast.specs.declared.groups.Slot.TheVariants.{Part as slot}
use Rattle.sp_ast.specs.declared.groups.Sort.TheVariants.{One as one, Rows as rows}
use Rattle.sp_print.specs.declared.layouts.Separator.TheVariants as separator
use Rattle.sp_print.specs.Canonical.{last_kind, at_place, spelled}
use Rattle.sp_print.specs.Words.{Word, fixed}
use Rattle.sp_law_round_trip.specs.Bare.{nowhere}
use Rattle.sp_law_round_trip.specs.Told.{Telling}
use Rattle.sp_law_round_trip.proofs.Held.{Pile, started, made}
use Rattle.sp_law_round_trip.proofs.Goes.{Tok, entire, next, coming, Goes, nothing, whole, action, part, before, pushed, before_both}
use Rattle.sp_law_round_trip.proofs.Shown.{one as one_at, listed, arguments, yielded, Avoids, Shows, Claim, Spells, Trace}
use Rattle.sp_law_round_trip.proofs.Levels.{primary_at}
use Rattle.sp_law_round_trip.proofs.Steps.{passes_token, passes_part, passes_trees, passes_one, passes_begin, passes_row, passes_closes, passes_none, beside, chosen, Gather, Close}

-- no arguments: nothing stands there
without_arguments : (v : List Tok) (s : Pile) → Avoids (Some (token.Punctuation sign.LeftParen)) v → Goes (part_symbol Part.NewArgs ∷ []) v s v (made (row none) ∷ s)
unfolding own
without_arguments v s avoids =
    let other : coming v ≢ terminal_number (token.Punctuation sign.LeftParen) = λ e. let q : true ≡ false = sym (eq-eqb (coming v) (terminal_number (token.Punctuation sign.LeftParen)) e) ∙ avoids in absurd cc in
    part 1 (record { below = ltb-true 1 2 refl; allowed = bit_at-pow_other 12 (coming v) other }) (action build.Begin refl refl (action build.Row refl refl nothing)) nothing

-- arguments in parentheses
arguments_read : (ts : List Tree) (came : ℕ) → Shows (part_number Part.Args) (listed separator.Comma) ts came → Gather ts → (last : Option TokenKind) (v : List Tok) (s : Pile) → (ts ≡ [] → Avoids (Some (token.Punctuation sign.LeftParen)) v)
    → Goes (part_symbol Part.NewArgs ∷ []) (before (yielded arguments (in_row ts ∷ []) last) v) s v (made (in_row ts) ∷ s)
unfolding own
arguments_read [] came shows gathered last v s avoids = without_arguments v s (avoids refl)
arguments_read (t ∷ ts) came shows gathered last v s avoids =
    let closing : Word = fixed (kind.Punctuation sign.RightParen) in
    let inside = yielded (listed separator.Comma) (t ∷ ts) (Some (kind.Punctuation sign.LeftParen)) in
    let p : Telling = next (before (inside ++ closing ∷ []) v) in
    let below : Pile = started p ∷ s in
    let reads_inside = subst (λ w. Goes (part_symbol Part.Args ∷ []) w below (entire closing ∷ v) (pushed (t ∷ ts) below)) (sym (before_both inside (closing ∷ []) v)) (shows (Some (kind.Punctuation sign.LeftParen)) (entire closing ∷ v) below (inl refl)) in
    chosen (part_number Part.NewArgs) 0 (omega arith) refl (whole refl (action build.Begin refl refl (beside reads_inside (whole refl (action build.Row refl (gathered (next v) p s) nothing)))))

pub arguments_shown : (w u : List Tok) (s t : Pile) → Trace (right own (part_number Part.NewArgs) 0) w s u t → Claim (part_number Part.NewArgs) w s t u
unfolding own
arguments_shown w u s t g =
    let (_, inside, _, _, g) = passes_token refl g in
    let g = passes_begin g in
    let (behind, ts, _, shows, g) = passes_trees (part_number Part.Args) (listed separator.Comma) refl g in
    let (_, _, _, _, g) = passes_token refl g in
    let (gathered, g) = passes_row ts (next inside) g in (ts, (passes_none g).1, λ last v b avoids. arguments_read ts (coming behind) shows gathered last v b avoids)

pub no_arguments_shown : (w u : List Tok) (s t : Pile) → Trace (right own (part_number Part.NewArgs) 1) w s u t → Claim (part_number Part.NewArgs) w s t u
unfolding own
no_arguments_shown w u s t g =
    let g = passes_begin g in
    let (_, g) = passes_row [] (next w) g in ([], (passes_none g).1, λ last v b avoids. without_arguments v b (avoids refl))

abbrev new : Form
new = form_is.Expr expr_is.New

abbrev path_and_arguments : List Slot
path_and_arguments = slot (one paths) ∷ slot (rows expressions) ∷ []

-- a `new` of a path and of arguments
abbrev new_tree : Tree → List Tree → Tree
new_tree path us = tree new nowhere (path ∷ in_row us ∷ [])

abbrev IsNew : Tree → List Tree → Type 0
IsNew path us = Close path_and_arguments new (path ∷ in_row us ∷ [])

-- the arguments of a `new`, before what may come behind them
abbrev Arguments : List Tree → Type 0
Arguments us =
    (last : Option TokenKind) (v : List Tok) (s : Pile) → (us ≡ [] → Avoids (Some (token.Punctuation sign.LeftParen)) v)
    → Goes (part_symbol Part.NewArgs ∷ []) (before (yielded arguments (in_row us ∷ []) last) v) s v (made (in_row us) ∷ s)

new_read : (path : Tree) (us : List Tree) (came : ℕ) → Shows (part_number Part.Path) (one_at 1) (path ∷ []) came → Arguments us → IsNew path us
    → (last : Option TokenKind) (v : List Tok) (s : Pile) → (us ≡ [] → Avoids (Some (token.Punctuation sign.LeftParen)) v)
    → Goes (part_symbol Part.Primary ∷ []) (before (spelled (new_tree path us) last) v) s v (made (new_tree path us) ∷ s)
unfolding own
new_read path us came shows reads is last v s avoids =
    let named = at_place 1 false path (spelled path) (Some (kind.Keyword keyword.New)) in
    let behind = yielded arguments (in_row us ∷ []) (last_kind (Some (kind.Keyword keyword.New)) named) in
    let p : Telling = next (before (spelled (new_tree path us) last) v) in
    let below : Pile = made path ∷ started p ∷ s in
    let reads_behind = subst (λ w. Goes (part_symbol Part.NewArgs ∷ []) w below v (made (in_row us) ∷ below)) (sym (before_both behind [] v)) (reads (last_kind (Some (kind.Keyword keyword.New)) named) v below avoids) in
    let reads_named = shows (Some (kind.Keyword keyword.New)) (before (behind ++ []) v) (started p ∷ s) (inl tt) in
    let reads_named = subst (λ w. Goes (part_symbol Part.Path ∷ []) w (started p ∷ s) (before (behind ++ []) v) below) (sym (before_both named (behind ++ []) v)) reads_named in
    chosen (part_number Part.Primary) 19 (omega arith) refl (action build.Begin refl refl (whole refl (beside reads_named (beside reads_behind (action build.NewExpr refl (is (next v) p s) nothing)))))

new_spells : (path : Tree) (us : List Tree) (came : ℕ) → Shows (part_number Part.Path) (one_at 1) (path ∷ []) came → Arguments us → IsNew path us → Spells (new_tree path us)
new_spells path [] came shows reads is = record {
  is = refl;
  low = omega arith;
  high = omega arith;
  reads = λ last v s pass.
      let avoids : Avoids (Some (token.Punctuation sign.LeftParen)) v = ⊎_elim (λ e. absurd (omega (arith, e))) (λ a. a) pass in
      primary_at 14 (omega arith) (omega arith) (new_read path [] came shows reads is last v s (λ e. avoids));
}
new_spells path (u ∷ us) came shows reads is = record {
  is = refl;
  low = omega arith;
  high = omega arith;
  reads = λ last v s pass. primary_at 15 (omega arith) (omega arith) (new_read path (u ∷ us) came shows reads is last v s (λ e. absurd (let q : u ∷ us ≡ [] = e in cc)));
}

pub new_shown : (w u : List Tok) (s t : Pile) → Trace (right own (part_number Part.Primary) 19) w s u t → Claim (part_number Part.Primary) w s t u
unfolding own
new_shown w u s t g =
    let g = passes_begin g in
    let (_, _, _, _, g) = passes_token refl g in
    let (behind, path, _, shows, g) = passes_one (part_number Part.Path) 1 refl g in
    let (w1, _, (us, is_row, reads), g) = passes_part g in
    let g = subst (λ r. Trace (action_symbol build.NewExpr ∷ []) w1 r u t) is_row g in
    let (closes, g) = passes_closes build.NewExpr path_and_arguments new (path ∷ in_row us ∷ []) (next w) refl refl g in
    (new_tree path us, (passes_none g).1, new_spells path us (coming behind) shows reads closes)
