-- What each part that was read built can be read again: by the test of its alternative, or by a proof of its own.
use Rattle.std.specs.Prelude.{length, ◌&&◌, ◌||◌}
use Rattle.std.proofs.Common.{◌≡◌, ℕ, zero, suc, List, [], map, Bool, true, false, ◌==◌, refl, ap, inl, inr, ◌<◌, arith}
use Rattle.std.proofs.lemmas.Bool.{and_parts, or_cases, cases_lt, eqb-true}
use Rattle.std.proofs.lemmas.List.{get_or_past}
use Rattle.sp_parser.specs.declared.symbol.Symbol.{Symbol}
use Rattle.sp_parser.specs.Grammar.{Applies, right, production_of, productions_of}
use Rattle.sp_grammar.specs.Own.{own}
use Rattle.sp_grammar.specs.Written.{Part, part_number}
use Rattle.sp_grammar.proofs.Spans.{below, below_all}
use Rattle.sp_ast.specs.Trees.{Tree}
use Rattle.sp_build.proofs.Told.{never}
use Rattle.sp_law_printed_words.specs.Modules.{module_lines}
use Rattle.sp_law_round_trip.proofs.Held.{Pile}
use Rattle.sp_law_round_trip.proofs.Goes.{Tok, number, before, Goes, nothing, whole, first_half, action, part}
use Rattle.sp_law_round_trip.proofs.Shown.{flat, Manner, other, manner_of, Claim, ClaimAs, Trace, ended, token_passed, half_passed, action_passed, part_passed}
use Rattle.sp_law_round_trip.proofs.Advance.{is_again}
use Rattle.sp_law_round_trip.proofs.Declarations.{module_shown}
use Rattle.sp_law_round_trip.proofs.TextReadings.{ReadsModule}
use Rattle.sp_law_round_trip.proofs.Tested.{test_again}
use Rattle.sp_law_round_trip.proofs.SpecialAlternatives.{alternatives, is_among, claimed_among}

abbrev pub is_other : Manner → Bool
is_other other = true
is_other _ = false

pub test_at : (f : ℕ → ℕ → Bool) (n p : ℕ) → below (λ n. below (λ p. f n p) (length (productions_of own n))) (length own.productions) ≡ true → p < length (productions_of own n) → f n p ≡ true
test_at f n p t h =
    let in_table : n < length own.productions = elim (cases_lt n (length own.productions)) [ inl x ↦ x | inr y ↦ absurd (let e : length (productions_of own n) ≡ 0 = ap length (get_or_past own.productions n [] y) in omega (arith, h, e)) ] in
    below_all (λ p. f n p) (length (productions_of own n)) p (below_all (λ n. below (λ p. f n p) (length (productions_of own n))) (length own.productions) n t in_table) h

-- nothing is claimed of it, or it passes the test, or it is one of those that are proved one by one
abbrev is_shown : ℕ → ℕ → Bool
is_shown n p = (is_other (manner_of n) || (is_again (manner_of n) n (right own n p) && ((production_of own n p).avoid == 0))) || is_among n p alternatives

abbrev all_shown : Bool
all_shown = below (λ n. below (λ p. is_shown n p) (length (productions_of own n))) (length own.productions)

shown_all : all_shown ≡ true
unfolding own
shown_all = refl

nothing_claimed : (m : Manner) (n : ℕ) (w u : List Tok) (s t : Pile) → is_other m ≡ true → ClaimAs m n w s t u
nothing_claimed other n w u s t ok = tt
nothing_claimed m n w u s t ok = never ok

-- each production has its claim
produced : (n p : ℕ) (w u : List Tok) (s t : Pile) → Applies own n p (map number w) → Trace (right own n p) w s u t → Claim n w s t u
produced n p w u s t a trace =
    let tested = is_again (manner_of n) n (right own n p) && ((production_of own n p).avoid == 0) in
    elim (or_cases (is_other (manner_of n) || tested) (is_among n p alternatives) (test_at (λ n p. is_shown n p) n p shown_all a.below)) [
      | inl one ↦ elim (or_cases (is_other (manner_of n)) tested one) [
        | inl none ↦ nothing_claimed (manner_of n) n w u s t none
        | inr again ↦
            let b = and_parts (is_again (manner_of n) n (right own n p)) ((production_of own n p).avoid == 0) again in
            test_again (manner_of n) n p (eqb-true (production_of own n p).avoid 0 b.1) b.0 a trace
      ]
      | inr by_hand ↦ claimed_among alternatives n p by_hand w u s t a trace
    ]

-- a reading, with the claim of each part
traced : {ss : List Symbol} {w v : List Tok} {s t : Pile} → Goes ss w s v t → Trace ss w s v t
traced nothing = ended
traced (whole passed g) = token_passed passed (traced g)
traced (first_half passed g) = half_passed passed (traced g)
traced (action m is done g) = action_passed m is done (traced g)
traced (part {n = n} {w = w} {u = u} {s = s} {t = t} p a g h) = part_passed (produced n p w u s t a (traced g)) (traced h)

one_alternative : (p : ℕ) → suc p < length (productions_of own (part_number Part.Module)) → ⊥
unfolding own
one_alternative p h = omega (arith, h)

-- A module that is read from words, places aside, is read from its own.
pub again : (w : List Tok) (m : Tree) → ReadsModule w m → ReadsModule (before (flat (module_lines m)) []) m
again w m (part zero a g nothing) = module_shown w [] m (traced g)
again w m (part (suc p) a g nothing) = absurd (one_alternative p a.below)
