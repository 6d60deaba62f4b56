-- A production whose test holds: what it built can be read again.
use Rattle.std.specs.Prelude.{nat_lt, ◌&&◌, ◌||◌, ◌<◌, if◌then◌else◌}
use Rattle.std.proofs.Common.{◌≡◌, ℕ, List, [], ◌∷◌, ◌++◌, map, Bool, true, false, ◌==◌, Option, Some, None, refl, sym, ◌∙◌, ap, subst, inl, inr, arith}
use Rattle.std.proofs.lemmas.Bool.{and_parts, or_cases, eqb-true, ltb-true}
use Rattle.std.proofs.lemmas.List.{append-nil}
use Rattle.sp_lex.specs.declared.kinds.TokenKind.{TokenKind}
use Rattle.sp_parser.specs.declared.symbol.Symbol.{Symbol}
use Rattle.sp_parser.specs.Grammar.{Applies, right, production_of}
use Rattle.sp_words.specs.declared.punctuation.Punctuation.TheVariants as sign
use Rattle.sp_grammar.specs.declared.terminals.Terminal.TheVariants as token
use Rattle.sp_grammar.specs.declared.terminals.Terminal.{Terminal}
use Rattle.sp_grammar.specs.Terminals.{terminal_number}
use Rattle.sp_grammar.specs.Own.{own}
use Rattle.sp_grammar.specs.Written.{Part, part_number}
use Rattle.sp_ast.specs.Trees.{Tree, node, trees}
use Rattle.sp_build.proofs.Told.{never}
use Rattle.sp_print.specs.Canonical.{spelled}
use Rattle.sp_law_round_trip.specs.Bare.{nowhere}
use Rattle.sp_law_round_trip.proofs.Held.{Pile, made}
use Rattle.sp_law_round_trip.proofs.Goes.{Tok, number, coming, before, pushed, Goes}
use Rattle.sp_law_round_trip.proofs.Shown.{Yield, Manner, plain, expression, avoided, level_part, Avoids, MayPass, Spells, ClaimAs, Trace}
use Rattle.sp_law_round_trip.proofs.Spelled.{spells_of}
use Rattle.sp_law_round_trip.proofs.Chunks.{Chunk, built, chunk_words, Split, no_chunk, a_chunk, wrote, ends_as}
use Rattle.sp_law_round_trip.proofs.Laid.{ends_again}
use Rattle.sp_law_round_trip.proofs.Advance.{State, Guard, guard_of, unguarded, advance, is_yield, is_spelled, avoids_only, is_again}
use Rattle.sp_law_round_trip.proofs.Piles.{Piled, bottom, above}
use Rattle.sp_law_round_trip.proofs.Sound.{Guarded, Onward, sound}
use Rattle.sp_law_round_trip.proofs.Steps.{chosen}

-- a production that may be taken before anything
abbrev IsFree : ℕ → ℕ → Type 0
IsFree n p = (production_of own n p).avoid ≡ 0

-- What is left of a production that began on nothing: the trees of these chunks, which are read again from their words.
abbrev Left : Guard → List Symbol → List Tok → List Chunk → Pile → Pile → Type 0
Left guard ss u cs s t =
    (ts : List Tree) × (sp : Split cs ts) × (t ≡ pushed ts s)
    × ((last : Option TokenKind) (v : List Tok) (c : Pile) → Guarded guard (coming u) v → Goes ss (before (wrote sp last) v) c v (pushed ts c))

left_of : (guard : Guard) (ss : List Symbol) (u : List Tok) {cs : List Chunk} {s t : Pile} → (now : Piled (cs ∷ []) s t) → Onward guard ss u (bottom {cs = []} {b = s} {s = s} [] no_chunk refl) now → Left guard ss u cs s t
left_of guard ss u (above ts p r none_below sp e) on = elim none_below [ ]
left_of guard ss u (bottom ts sp e) on = (
  ts,
  sp,
  e,
  λ last v c may.
      let (ws, words, goes) = on last in let (y, read, copied) = goes c c v refl may in
      subst (λ z. Goes ss (before (wrote sp last) v) c v z) copied (subst (λ q. Goes ss (before q v) c v y) (sym words) read),
)

left_by : (guard : Guard) (ss : List Symbol) (cs : List Chunk) {w u : List Tok} {s t : Pile} → advance guard ss ([] ∷ []) ≡ Some (cs ∷ []) → Trace ss w s u t → Left guard ss u cs s t
left_by guard ss cs {u = u} ok tr = let (now, on) = sound guard ss ([] ∷ []) (cs ∷ []) ok tr (bottom [] no_chunk refl) in left_of guard ss u now on

yield_some : (y : Yield) (o : Option State) → is_yield y o ≡ true → (cs : List Chunk) × (o ≡ Some (cs ∷ [])) × (ends_as y cs ≡ true)
yield_some y None e = never e
yield_some y (Some []) e = never e
yield_some y (Some (cs ∷ [])) e = (cs, refl, e)
yield_some y (Some (cs ∷ ds ∷ σ)) e = never e

plain_again : (n p : ℕ) (y : Yield) → IsFree n p → is_yield y (advance (guard_of n) (right own n p) ([] ∷ [])) ≡ true → {w u : List Tok} {s t : Pile} → Applies own n p (map number w) → Trace (right own n p) w s u t → ClaimAs (plain y) n w s t u
plain_again n p y free ok {w = w} a tr =
    let (cs, found, ends) = yield_some y (advance (guard_of n) (right own n p) ([] ∷ [])) ok in
    let (ts, sp, is, goes) = left_by (guard_of n) (right own n p) cs found tr in
    let (fits, words) = ends_again y cs ts ends sp in
    (ts, is, fits, λ last v c may. chosen n p a.below free (subst (λ q. Goes (right own n p) (before q v) c v (pushed ts c)) (words last) (goes last v c may)))

spelled_some : (n : ℕ) (passes : Bool) (o : Option State) → is_spelled n passes o ≡ true
    → (level : ℕ) × (o ≡ Some ((built level ∷ []) ∷ [])) × ((if passes then level == 15 else nat_lt level 15) ≡ true) × (((n == part_number Part.Primary) || (n == part_number (level_part level))) ≡ true)
spelled_some n passes (Some ((built level ∷ []) ∷ [])) e = let b = and_parts (if passes then level == 15 else nat_lt level 15) ((n == part_number Part.Primary) || (n == part_number (level_part level))) e in (level, refl, b.0, b.1)
spelled_some n passes o e = never e

-- an expression that is left is spelled, if what may come behind it is what its level lets pass
expression_again : (n p level : ℕ) (guard : Guard) (w u : List Tok) → IsFree n p → (((n == part_number Part.Primary) || (n == part_number (level_part level))) ≡ true) → {s t : Pile}
    → Applies own n p (map number w) → ((v : List Tok) → MayPass level v → Guarded guard (coming u) v) → Left guard (right own n p) u (built level ∷ []) s t → (x : Tree) × (t ≡ made x ∷ s) × Spells x
expression_again n p level guard w u free fits {s = s} a may (ts, a_chunk us (form, parts, is, expression_is, not_new, level_is) no_chunk, e, goes) =
    let x : Tree = node form nowhere (trees parts) in
    let all : us ++ [] ≡ x ∷ [] = append-nil us ∙ is in
    let words : (last : Option TokenKind) → chunk_words (built level) us last ++ [] ≡ spelled x last = λ last. append-nil (chunk_words (built level) us last) ∙ ap (λ zs. chunk_words (built level) zs last) is in (
      x,
      e ∙ ap (λ zs. pushed zs s) all,
      spells_of n form parts expression_is not_new (subst (λ l. ((n == part_number Part.Primary) || (n == part_number (level_part l))) ≡ true) (sym level_is) fits) (λ last v c pass.
          chosen n p a.below free (subst (λ zs. Goes (right own n p) (before (spelled x last) v) c v (pushed zs c)) all
          (subst (λ q. Goes (right own n p) (before q v) c v (pushed (us ++ []) c)) (words last) (goes last v c (may v (subst (λ l. MayPass l v) level_is pass)))))),
    )

avoids_it : (o : Option Terminal) (v : List Tok) → avoids_only (token.Punctuation sign.LeftParen) o ≡ true → Avoids (Some (token.Punctuation sign.LeftParen)) v → Avoids o v
avoids_it None v ok avoids = tt
avoids_it (Some f) v ok avoids = subst (λ n. (coming v == n) ≡ false) (eqb-true (terminal_number (token.Punctuation sign.LeftParen)) (terminal_number f) ok) avoids

spelled_again : (n p level : ℕ) → IsFree n p → is_again (expression level) n (right own n p) ≡ true → {w u : List Tok} {s t : Pile} → Applies own n p (map number w) → Trace (right own n p) w s u t → ClaimAs (expression level) n w s t u
spelled_again n p level free ok {w = w} {u = u} a tr =
    elim (or_cases (is_spelled n true (advance unguarded (right own n p) ([] ∷ []))) (avoids_only (token.Punctuation sign.LeftParen) (avoided n) && is_spelled n false (advance (guard_of n) (right own n p) ([] ∷ []))) ok) [
      | inl passes ↦
          let (l, found, is, fits) = spelled_some n true (advance unguarded (right own n p) ([] ∷ [])) passes in
          expression_again n p l unguarded w u free fits a (λ v pass. inl tt) (left_by unguarded (right own n p) (built l ∷ []) found tr)
      | inr avoids ↦
          let b = and_parts (avoids_only (token.Punctuation sign.LeftParen) (avoided n)) (is_spelled n false (advance (guard_of n) (right own n p) ([] ∷ []))) avoids in
          let (l, found, is, fits) = spelled_some n false (advance (guard_of n) (right own n p) ([] ∷ [])) b.1 in
          expression_again n p l (guard_of n) w u free fits a (λ v pass. elim pass [
            | inl all ↦ absurd (let below : l < 15 = ltb-true l 15 is in omega (arith, below, all))
            | inr paren ↦ inl (avoids_it (avoided n) v b.0 paren)
          ]) (left_by (guard_of n) (right own n p) (built l ∷ []) found tr)
    ]

-- what a production that passes the test built can be read again
pub test_again : (m : Manner) (n p : ℕ) → IsFree n p → is_again m n (right own n p) ≡ true → {w u : List Tok} {s t : Pile} → Applies own n p (map number w) → Trace (right own n p) w s u t → ClaimAs m n w s t u
test_again (plain y) n p free ok a tr = plain_again n p y free ok a tr
test_again (expression level) n p free ok a tr = spelled_again n p level free ok a tr
test_again m n p free ok a tr = never ok
