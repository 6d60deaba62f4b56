-- A number with its integer type, as in `uint8(3)`.
use Rattle.std.proofs.Common.{ℕ, List, [], ◌∷◌, refl, arith}
use Rattle.sp_parser.specs.Grammar.{right}
use Rattle.sp_grammar.specs.declared.actions.Action.TheVariants as build
use Rattle.sp_grammar.specs.Written.{Part, part_number}
use Rattle.sp_grammar.specs.Own.{own}
use Rattle.sp_words.specs.declared.words.IntWord.{IntWord}
use Rattle.sp_ast.specs.declared.forms.Form.{Form}
use Rattle.sp_ast.specs.declared.forms.Form.TheVariants as form_is
use Rattle.sp_ast.specs.declared.forms.ExprForm.TheVariants as expr_is
use Rattle.sp_ast.specs.Trees.{Tree, tree}
use Rattle.sp_ast.specs.declared.groups.Group.TheVariants.{Numbers as numbers}
use Rattle.sp_ast.specs.declared.groups.Slot.{Slot}
use Rattle.sp_ast.specs.declared.groups.Slot.TheVariants.{Part as slot}
use Rattle.sp_ast.specs.declared.groups.Sort.TheVariants.{One as one}
use Rattle.sp_build.specs.Tokens.{integer_of}
use Rattle.sp_law_round_trip.specs.Bare.{nowhere}
use Rattle.sp_law_round_trip.proofs.Held.{Pile}
use Rattle.sp_law_round_trip.proofs.Goes.{Tok, telling_of, next, nothing, whole, action}
use Rattle.sp_law_round_trip.proofs.Shown.{Claim, Spells, Trace}
use Rattle.sp_law_round_trip.proofs.Levels.{primary_at}
use Rattle.sp_law_round_trip.proofs.IntegerBases.{integer_taken, integer_word}
use Rattle.sp_law_round_trip.proofs.Steps.{passes_token, passes_begin, passes_told, passes_none, passes_number, chosen, CloseBy, numeral}

abbrev typed : IntWord → Form
typed w = form_is.Expr (expr_is.TypedNumber w)

abbrev one_number : List Slot
one_number = slot (one numbers) ∷ []

abbrev typed_number : IntWord → ℕ → Tree
typed_number w n = tree (typed w) nowhere (numeral n ∷ [])

typed_spells : (w : IntWord) (n : ℕ) → CloseBy one_number (λ q. integer_of q.kind) typed (numeral n ∷ []) w → Spells (typed_number w n)
unfolding own
typed_spells w n closes = record {
  is = refl;
  low = omega arith;
  high = omega arith;
  reads = λ last v s pass.
      primary_at 15 (omega arith) (omega arith)
      (chosen (part_number Part.Primary) 17 (omega arith) refl (action build.Begin refl refl (whole (integer_taken w) (whole refl (action build.Number refl refl (whole refl (whole refl (action build.TypedNumberExpr refl (closes (telling_of (integer_word w)) s refl) nothing))))))));
}

pub typed_number_shown : (w u : List Tok) (s t : Pile) → Trace (right own (part_number Part.Primary) 17) w s u t → Claim (part_number Part.Primary) w s t u
unfolding own
typed_number_shown w u s t g =
    let (_, _, _, _, g) = passes_token refl (passes_begin g) in
    let (_, _, _, _, g) = passes_token refl g in
    let (n, _, g) = passes_number g in
    let (_, _, _, _, g) = passes_token refl g in
    let (word, closes, g) = passes_told build.TypedNumberExpr one_number (λ q. integer_of q.kind) typed (numeral n ∷ []) (next w) refl (λ q z. refl) g in
    (typed_number word n, (passes_none g).1, typed_spells word n closes)
