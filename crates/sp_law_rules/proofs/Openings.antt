-- What of the trees that have begun is known where an action is passed: whether a token comes behind their beginning.
use Rattle.std.specs.Prelude.{not, ◌||◌, if◌then◌else◌, map}
use Rattle.std.proofs.Common.{◌≡◌, ℕ, zero, suc, ◌<◌, get_or, List, [], ◌∷◌, length, drop, Bool, true, false, Option, Some, None, refl, ap, ◌∙◌, inl, inr, ◌⊎◌, arith}
use Rattle.std.proofs.lemmas.Bool.{or_cases}
use Rattle.sp_parser.specs.declared.symbol.Symbol.{Symbol}
use Rattle.sp_parser.specs.declared.symbol.Symbol.TheVariants.{Terminal, Nonterminal, Action}
use Rattle.sp_parser.specs.declared.symbol.ActionAt.{ActionAt}
use Rattle.sp_parser.specs.Grammar.{productions_of, right, SECOND}
use Rattle.sp_grammar.specs.declared.actions.Action as grammar_action
use Rattle.sp_grammar.specs.declared.language.Start.{Start}
use Rattle.sp_grammar.specs.declared.language.Start.TheVariants as start
use Rattle.sp_grammar.specs.Starts.{start_number}
use Rattle.sp_grammar.specs.Actions.{action_with}
use Rattle.sp_grammar.specs.Written.{Part, all_parts}
use Rattle.sp_grammar.specs.Language.{language}
use Rattle.sp_grammar.specs.Reads.{Reads, nothing, whole, half, action, part}
use Rattle.sp_grammar.proofs.Spans.{every_production, one_production}
use Rattle.sp_ast.specs.declared.groups.Sort.TheVariants.{One as one}
use Rattle.sp_ast.specs.declared.groups.Slot.{Slot}
use Rattle.sp_ast.specs.declared.groups.Slot.TheVariants.{Part as a_part}
use Rattle.sp_build.specs.Rules.{Rule, begins, leaves_out, takes, gathers, closes, closes_integer, closes_attribute, encloses, joins, wraps, rule}
use Rattle.sp_build.proofs.Shapes.{Shape, opens, opens_at, and_then}
use Rattle.sp_build.proofs.Signatures.{signature_at}
use Rattle.sp_build.proofs.Told.{never}

-- parts of the grammar that may read nothing
abbrev pub may_be_empty : Part → Bool
may_be_empty Part.Decls = true
may_be_empty Part.OnPath = true
may_be_empty Part.OptType = true
may_be_empty Part.OptParen = true
may_be_empty Part.OptPriority = true
may_be_empty Part.PathTail = true
may_be_empty Part.OptParams = true
may_be_empty Part.Params = true
may_be_empty Part.Types = true
may_be_empty Part.OptValue = true
may_be_empty Part.Labels = true
may_be_empty Part.MoreLabels = true
may_be_empty Part.Ranges = true
may_be_empty Part.OptUpTo = true
may_be_empty Part.Items = true
may_be_empty Part.OptSemi = true
may_be_empty Part.ValueArms = true
may_be_empty Part.PlainArms = true
may_be_empty Part.Parts = true
may_be_empty Part.Counts = true
may_be_empty Part.OptExpr = true
may_be_empty Part.Attrs = true
may_be_empty Part.OptIf = true
may_be_empty Part.OptSink = true
may_be_empty Part.FieldHooks = true
may_be_empty Part.BaseTail = true
may_be_empty Part.OptNum = true
may_be_empty Part.Args = true
may_be_empty Part.Exprs = true
may_be_empty Part.Stmts = true
may_be_empty Part.OptElse = true
may_be_empty Part.Cases = true
may_be_empty Part.OptDefault = true
may_be_empty Part.OptText = true
may_be_empty Part.OptChoice = true
may_be_empty Part.OrTail = true
may_be_empty Part.AndTail = true
may_be_empty Part.MembershipTail = true
may_be_empty Part.EqualityTail = true
may_be_empty Part.OrderTail = true
may_be_empty Part.BitOrTail = true
may_be_empty Part.BitXorTail = true
may_be_empty Part.BitAndTail = true
may_be_empty Part.ShiftTail = true
may_be_empty Part.SumTail = true
may_be_empty Part.ProductTail = true
may_be_empty Part.Postfix = true
may_be_empty Part.Pairs = true
may_be_empty Part.NewArgs = true
may_be_empty _ = false

-- whether the part with a number reads a token, whichever of its alternatives is taken
abbrev pub reads_some : ℕ → Bool
reads_some n = get_or (map (λ p. not (may_be_empty p)) all_parts) n false

-- whether symbols read a token, whatever they read
abbrev pub sure : List Symbol → Bool
sure [] = false
sure (Terminal e ∷ ss) = true
sure (Action m ∷ ss) = sure ss
sure (Nonterminal n ∷ ss) = reads_some n || sure ss

abbrev keeps_sure : ℕ → List Symbol → Bool
keeps_sure n ss = not (reads_some n) || sure ss

parts_sure : every_production language (λ n r. keeps_sure n r.symbols) ≡ true
unfolding language
parts_sure = refl

-- a kind is left
abbrev pub is_left : List ℕ → Bool
is_left [] = false
is_left (k ∷ w) = true

left_before : {ss : List Symbol} {i j : ℕ} {w v : List ℕ} {ρ τ : List ActionAt} → Reads language ss i w ρ j v τ → is_left v ≡ true → is_left w ≡ true
left_before nothing h = h
left_before (whole t r) h = refl
left_before (half t r) h = refl
left_before (action r) h = left_before r h
left_before (part p b r s) h = left_before r (left_before s h)

not_or : (a b : Bool) → (not a || b) ≡ true → a ≡ true → b ≡ true
not_or true b e h = e
not_or false b e h = never h

-- before symbols that read a token a kind is left
pub left_sure : {ss : List Symbol} {i j : ℕ} {w v : List ℕ} {ρ τ : List ActionAt} → Reads language ss i w ρ j v τ → sure ss ≡ true → is_left w ≡ true
left_sure nothing h = never h
left_sure (whole t r) h = refl
left_sure (half t r) h = refl
left_sure (action r) h = left_sure r h
left_sure (part {n = n} {ss = ss} p b r s) h = elim (or_cases (reads_some n) (sure ss) h) [
  | inl y ↦ left_sure r (not_or (reads_some n) (sure (right language n p)) (one_production language (λ n r. keeps_sure n r.symbols) n p parts_sure b.below) y)
  | inr z ↦ left_before r (left_sure s z)
]

-- The kinds that are left are those of the tokens from a place on; the first half of a `>>` may have been taken.
abbrev pub IsAt : List ℕ → ℕ → List ℕ → Type 0
IsAt us i w = (drop i us ≡ w) ⊎ ((SECOND ∷ drop (suc i) us ≡ w) × (i < length us))

drop_left : (us : List ℕ) (i : ℕ) → is_left (drop i us) ≡ true → i < length us
drop_left [] zero h = never h
drop_left [] (suc i) h = never h
drop_left (u ∷ us) zero h = omega arith
drop_left (u ∷ us) (suc i) h = let l : i < length us = drop_left us i h in omega (arith, l)

pub within : (us : List ℕ) (i : ℕ) (w : List ℕ) → IsAt us i w → is_left w ≡ true → i < length us
within us i w (inl e) h = drop_left us i (ap is_left e ∙ h)
within us i w (inr e) h = e.1

dropped : (us : List ℕ) (i k : ℕ) (w : List ℕ) → drop i us ≡ k ∷ w → drop (suc i) us ≡ w
dropped [] zero k w e = cc
dropped [] (suc i) k w e = cc
dropped (u ∷ us) zero k w e = cc
dropped (u ∷ us) (suc i) k w e = dropped us i k w e

behind : (us : List ℕ) (i k : ℕ) (w : List ℕ) → IsAt us i (k ∷ w) → drop (suc i) us ≡ w
behind us i k w (inl e) = dropped us i k w e
behind us i k w (inr e) = let q : SECOND ∷ drop (suc i) us ≡ k ∷ w = e.0 in cc

pub whole_taken : (us : List ℕ) (i k : ℕ) (w : List ℕ) → IsAt us i (k ∷ w) → IsAt us (suc i) w
whole_taken us i k w a = inl (behind us i k w a)

pub half_taken : (us : List ℕ) (i k : ℕ) (w : List ℕ) → IsAt us i (k ∷ w) → IsAt us i (SECOND ∷ w)
half_taken us i k w a = inr (ap (λ z. SECOND ∷ z) (behind us i k w a), within us i (k ∷ w) a refl)

-- Of each tree that has begun, the last first: whether a token comes behind its beginning.
abbrev pub Flags : Type 0
Flags = List Bool

abbrev pub begins_with_one : List Slot → Bool
begins_with_one (a_part (one g) ∷ slots) = true
begins_with_one _ = false

-- a tree that has begun before a token is closed
abbrev pub closed : Flags → Option Flags
closed (true ∷ bs) = Some bs
closed _ = None

-- a row is closed, wherever it has begun
abbrev pub gathered_from : Flags → Option Flags
gathered_from [] = None
gathered_from (b ∷ bs) = Some bs

-- what a rule makes of them where it is known whether a token comes next
abbrev pub flagged : Rule → Bool → Flags → Option Flags
flagged begins next bs = Some (next ∷ bs)
flagged leaves_out next bs = Some bs
flagged (takes l) next bs = if next then Some bs else None
flagged gathers next bs = gathered_from bs
flagged (closes slots form) next bs = closed bs
flagged (closes_integer slots form) next bs = closed bs
flagged (closes_attribute slots form) next bs = closed bs
flagged encloses next bs = closed bs
flagged (joins slots form) next bs = if begins_with_one slots then Some bs else None
flagged (wraps g form) next bs = Some bs

abbrev pub told : Option grammar_action.Action → Bool → Flags → Option Flags
told None next bs = None
told (Some m) next bs = flagged (rule m) next bs

-- how many trees have begun that a part finds, all of them before a token
abbrev openings : List Shape → ℕ
openings [] = 0
openings (opens ∷ xs) = suc (openings xs)
openings (opens_at k ∷ xs) = suc (openings xs)
openings (x ∷ xs) = openings xs

abbrev pub finds : ℕ → ℕ
finds n = openings (signature_at n).finds

abbrev pub all_true : ℕ → Flags
all_true zero = []
all_true (suc n) = true ∷ all_true n

abbrev pub taken_off : ℕ → Flags → Option Flags
taken_off zero bs = Some bs
taken_off (suc n) (true ∷ bs) = taken_off n bs
taken_off (suc n) _ = None

-- what symbols make of them
abbrev pub flags : List Symbol → Flags → Option Flags
flags [] bs = Some bs
flags (Terminal e ∷ ss) bs = flags ss bs
flags (Action m ∷ ss) bs = and_then (told (action_with m) (sure ss) bs) (λ next. flags ss next)
flags (Nonterminal n ∷ ss) bs = and_then (taken_off (finds n) bs) (λ rest. flags ss rest)

abbrev is_used_up : Option Flags → Bool
is_used_up (Some []) = true
is_used_up _ = false

-- an alternative closes what the part finds, and what begins in it
abbrev keeps_flags : ℕ → List Symbol → Bool
keeps_flags n ss = is_used_up (flags ss (all_true (finds n)))

pub flags_kept : every_production language (λ n r. keeps_flags n r.symbols) ≡ true
unfolding language
flags_kept = refl

used_up : (o : Option Flags) → is_used_up o ≡ true → o ≡ Some []
used_up None h = never h
used_up (Some []) h = refl
used_up (Some (b ∷ bs)) h = never h

pub part_kept : (n p : ℕ) → p < length (productions_of language n) → flags (right language n p) (all_true (finds n)) ≡ Some []
part_kept n p below = used_up (flags (right language n p) (all_true (finds n))) (one_production language (λ n r. keeps_flags n r.symbols) n p flags_kept below)

pub start_flags : (s : Start) → flags (Nonterminal (start_number s) ∷ []) [] ≡ Some []
start_flags start.Module = refl
start_flags start.Type = refl
start_flags start.Stmt = refl
start_flags start.Expr = refl
