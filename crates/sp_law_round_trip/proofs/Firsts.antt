-- With what symbols can begin: a kind that can't come first of them comes behind them, where they read nothing, or not at all.
use Rattle.std.specs.Prelude.{not, ◌&&◌, ◌||◌, ◌⊎◌}
use Rattle.std.proofs.Common.{◌≡◌, ℕ, List, Bool, true, false, ◌==◌, refl, sym, ◌∙◌, ap, subst, inl, inr}
use Rattle.std.proofs.lemmas.Bool.{and_parts, and_from, or_parts, cases_Bool, eqb-true}
use Rattle.sp_parser.specs.declared.symbol.Symbol.{Symbol}
use Rattle.sp_parser.specs.Grammar.{Production, Take, First, All, takes, right}
use Rattle.sp_words.specs.declared.keywords.Keyword.TheVariants as keyword
use Rattle.sp_words.specs.declared.punctuation.Punctuation.TheVariants as sign
use Rattle.sp_grammar.specs.declared.terminals.Terminal.TheVariants as token
use Rattle.sp_grammar.specs.Terminals.{terminal_number}
use Rattle.sp_grammar.specs.Own.{own}
use Rattle.sp_grammar.proofs.Spans.{every_production, one_production}
use Rattle.sp_build.proofs.Told.{never}
use Rattle.sp_law_round_trip.proofs.Held.{Pile}
use Rattle.sp_law_round_trip.proofs.Goes.{Tok, entire, number, coming, Goes, nothing, whole, first_half, action, part}
use Rattle.sp_law_round_trip.proofs.Advance.{may_be_empty, is_taken, comes_first, begins_with, is_nullable}

-- the sets of the table hold for a production
abbrev first_holds : ℕ → ℕ → Production → Bool
first_holds e n r = (not (comes_first e r.symbols) || begins_with e n) && (not (may_be_empty r.symbols) || is_nullable n)

abbrev pub first_tested : ℕ → Bool
first_tested e = every_production own (first_holds e)

pub paren_tested : first_tested (terminal_number (token.Punctuation sign.LeftParen)) ≡ true
unfolding own
paren_tested = refl

pub else_tested : first_tested (terminal_number (token.Keyword keyword.Else)) ≡ true
unfolding own
else_tested = refl

-- it doesn't come, or comes behind them
abbrev IsBehind : ℕ → List Symbol → List Tok → List Tok → Type 0
IsBehind e ss w v = ((coming w == e) ≡ false) ⊎ ((w ≡ v) × (may_be_empty ss ≡ true))

other_kind : (e f k : ℕ) (take : Take) → takes f k ≡ take → is_taken take ≡ true → is_taken (takes f e) ≡ false → (k == e) ≡ false
other_kind e f k take passed some none = elim (cases_Bool (k == e)) [
  | inl y ↦ absurd (let q : true ≡ false = sym some ∙ ap is_taken (sym passed) ∙ ap (λ z. is_taken (takes f z)) (eqb-true k e y) ∙ none in cc)
  | inr n ↦ n
]

pub follows : (a b : Bool) → (not a || b) ≡ true → a ≡ true → b ≡ true
follows true b h e = h
follows false b h e = never e

stays_false : (a b : Bool) → (not a || b) ≡ true → b ≡ false → a ≡ false
stays_false true b h e = absurd (let q : true ≡ false = sym h ∙ e in cc)
stays_false false b h e = refl

past : (a b : Bool) → a ≡ true → (a && b) ≡ false → b ≡ false
past true b e h = h
past false b e h = never e

pub comes_behind : (e : ℕ) → first_tested e ≡ true → {ss : List Symbol} {w v : List Tok} {s t : Pile} → Goes ss w s v t → comes_first e ss ≡ false → IsBehind e ss w v
comes_behind e tested nothing none = inr (refl, refl)
comes_behind e tested (whole {e = f} {x = x} passed g) none = inl (other_kind e f (number x) All passed refl none)
comes_behind e tested (first_half {e = f} {x = x} passed g) none = inl (other_kind e f (number (entire x)) First passed refl none)
comes_behind e tested (action m is done g) none = comes_behind e tested g none
comes_behind e tested (part {n = n} {ss = ss} {w = w} {v = v} p a g h) none =
    let here = and_parts (not (comes_first e (right own n p)) || begins_with e n) (not (may_be_empty (right own n p)) || is_nullable n) (one_production own (first_holds e) n p tested a.below) in
    let neither = or_parts (begins_with e n) (is_nullable n && comes_first e ss) none in
    elim (comes_behind e tested g (stays_false (comes_first e (right own n p)) (begins_with e n) here.0 neither.0)) [
      | inl other ↦ inl other
      | inr empty ↦
          let may = follows (may_be_empty (right own n p)) (is_nullable n) here.1 empty.1 in
          elim (comes_behind e tested h (past (is_nullable n) (comes_first e ss) may neither.1)) [
            | inl other ↦ inl (subst (λ z. (coming z == e) ≡ false) (sym empty.0) other)
            | inr rest ↦ inr (empty.0 ∙ rest.0, and_from (is_nullable n) (may_be_empty ss) may rest.1)
          ]
    ]
