-- The words of integer types as bases of fields: by themselves, and before a number.
use Rattle.std.proofs.Common.{◌≡◌, ℕ, List, [], ◌∷◌, refl, arith}
use Rattle.sp_lex.specs.declared.kinds.TokenKind.TheVariants as token
use Rattle.sp_words.specs.declared.punctuation.Punctuation.TheVariants as sign
use Rattle.sp_parser.specs.Grammar.{right, takes, All}
use Rattle.sp_grammar.specs.declared.actions.Action.TheVariants as build
use Rattle.sp_grammar.specs.Written.{Part, part_number}
use Rattle.sp_grammar.specs.Terminals.{terminal_number}
use Rattle.sp_grammar.specs.declared.terminals.Terminal.TheVariants as terminal
use Rattle.sp_grammar.specs.Own.{own}
use Rattle.sp_ast.specs.Trees.{tree}
use Rattle.sp_ast.specs.declared.forms.Form.{Form}
use Rattle.sp_ast.specs.declared.forms.Form.TheVariants as form_is
use Rattle.sp_ast.specs.declared.forms.BaseForm.TheVariants as base_is
use Rattle.sp_ast.specs.declared.forms.TypeForm.TheVariants as types_is
use Rattle.sp_words.specs.declared.words.IntWord.{IntWord}
use Rattle.sp_ast.specs.declared.groups.Group.TheVariants.{Numbers as numbers, Types as types}
use Rattle.sp_ast.specs.declared.groups.Sort.TheVariants.{One as one_of}
use Rattle.sp_ast.specs.declared.groups.Slot.TheVariants.{Part as slot}
use Rattle.sp_build.specs.Tokens.{integer_of}
use Rattle.sp_print.specs.Words.{Word, fixed, number as a_number}
use Rattle.sp_law_round_trip.specs.Bare.{nowhere}
use Rattle.sp_law_round_trip.proofs.Held.{Pile}
use Rattle.sp_law_round_trip.proofs.Goes.{Tok, entire, telling_of, number, next, coming, nothing, whole, action}
use Rattle.sp_law_round_trip.proofs.Shown.{Claim, Trace, one, Shows}
use Rattle.sp_law_round_trip.proofs.Steps.{CloseBy, passes_token, passes_begin, passes_number, passes_told, passes_wraps, passes_none, chosen, builds_one, numeral}

-- the word of an integer type
abbrev pub integer_word : IntWord → Word
integer_word a = fixed (token.Integer a)

pub integer_taken : (a : IntWord) → takes (terminal_number terminal.IntWord) (number (entire (integer_word a))) ≡ All
integer_taken a = refl

abbrev number_base : IntWord → Form
number_base a = form_is.Base (base_is.Number a)

abbrev int_type : IntWord → Form
int_type a = form_is.Type (types_is.Int a)

number_base_again : (a : IntWord) (n came : ℕ) → CloseBy (slot (one_of numbers) ∷ []) (λ q. integer_of q.kind) number_base (numeral n ∷ []) a → Shows (part_number Part.Base) (one 1) (tree (number_base a) nowhere (numeral n ∷ []) ∷ []) came
unfolding own
number_base_again a n came closes last v s may =
    let words = entire (integer_word a) ∷ entire (fixed (token.Punctuation sign.LeftParen)) ∷ entire (a_number n) ∷ entire (fixed (token.Punctuation sign.RightParen)) ∷ v in
    chosen (part_number Part.Base) 2 (omega arith) refl (action build.Begin refl refl (whole (integer_taken a) (whole refl (action build.Number refl refl (whole refl (whole refl (action build.NumberBase refl (closes (telling_of (integer_word a)) s refl) nothing)))))))

pub number_base_shown : (w u : List Tok) (s t : Pile) → Trace (right own (part_number Part.Base) 2) w s u t → Claim (part_number Part.Base) w s t u
unfolding own
number_base_shown w u s t trace =
    let (x, a, is, taken, parens) = passes_token refl (passes_begin trace) in
    let (y, b, also, opened, numbered) = passes_token refl parens in
    let (n, c, closing) = passes_number numbered in
    let (z, d, last_is, shut, base) = passes_token refl closing in
    let (i, closes, ends) = passes_told build.NumberBase (slot (one_of numbers) ∷ []) (λ q. integer_of q.kind) number_base (numeral n ∷ []) (next w) refl (λ q z. refl) base in
    builds_one (tree (number_base i) nowhere (numeral n ∷ [])) (passes_none ends).1 refl (number_base_again i n (coming u) closes)

integer_base_again : (a : IntWord) (came : ℕ) → CloseBy [] (λ q. integer_of q.kind) int_type [] a → Shows (part_number Part.Base) (one 1) (tree (form_is.Base base_is.Type) nowhere (tree (int_type a) nowhere [] ∷ []) ∷ []) came
unfolding own
integer_base_again a came closes last v s may =
    chosen (part_number Part.Base) 3 (omega arith) refl (action build.Begin refl refl (whole (integer_taken a) (action build.IntBase refl (closes (telling_of (integer_word a)) s refl) (action build.TypeBase refl refl nothing))))

pub integer_base_shown : (w u : List Tok) (s t : Pile) → Trace (right own (part_number Part.Base) 3) w s u t → Claim (part_number Part.Base) w s t u
unfolding own
integer_base_shown w u s t trace =
    let (x, a, is, taken, int_base) = passes_token refl (passes_begin trace) in
    let (i, closes, wrap) = passes_told build.IntBase [] (λ q. integer_of q.kind) int_type [] (next w) refl (λ q z. refl) int_base in
    let ends = passes_wraps build.TypeBase types (form_is.Base base_is.Type) (tree (int_type i) nowhere []) refl refl wrap in
    builds_one (tree (form_is.Base base_is.Type) nowhere (tree (int_type i) nowhere [] ∷ [])) (passes_none ends).1 refl (integer_base_again i (coming u) closes)
