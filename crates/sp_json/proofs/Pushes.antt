-- Lists of what is left to write: one task more, and what a container begins with.
use Rattle.std.proofs.Common.{◌≡◌, ◌+◌, ◌-◌, ◌≤◌, ◌<◌, ℕ, zero, suc, true, List, [], ◌∷◌, ◌++◌, length, drop, get_or, sym, ap, ◌∙◌, refl, arith, append_assoc}
use Rattle.std.proofs.lemmas.List.{reverse-append, append-nil}
use denote.Ref.{Bor}
use Rattle.json.specs.Token.{Token, end_array, end_object, key}
use Rattle.serde_json.specs.Data.{Members, no_members, member}
use Rattle.sp_events.specs.Tree.{TreeData, trees_of, pairs_of, fields_of}
use Rattle.sp_events.specs.TreeSizes.{tree_size, trees_size, pairs_size, fields_size}
use Rattle.sp_json.specs.Values.{tree_json, trees_json, pairs_json}
use Rattle.sp_json.specs.inside.Tokens.{value_tokens, array_rest, object_rest, lent, rise_from, in_order, with_entries, total}
use Rattle.sp_json.specs.inside.Writing.{tree_tokens, pair_tokens, field_tokens, each_tokens, task_tokens, pending, steps, all_steps, work, members_tokens, unit_tokens}
use Rattle.sp_json.specs.declared.walk.Task.{Task}
use Rattle.sp_json.proofs.Written.{rising_stays, fields_are}

-- behind a push
pub pushed : {new : List Task} (old : List Task) (t : Task) → new ≡ old ++ t ∷ [] → pending new ≡ task_tokens t ++ pending old
pushed old t e = ap pending e ∙ ap (each_tokens task_tokens) (reverse-append old (t ∷ []))

pub pushed_work : {new : List Task} (old : List Task) (t : Task) → new ≡ old ++ t ∷ [] → work new ≡ steps t + work old
pushed_work old t e = ap work e ∙ ap all_steps (reverse-append old (t ∷ []))

-- the items from the place before on
from_item : {A : Type 0} (xs : List A) (i : ℕ) (d : A) → i < length xs → get_or xs i d ∷ drop (suc i) xs ≡ drop i xs
from_item [] i d h = absurd (omega arith)
from_item (x ∷ xs) zero d h = refl
from_item (x ∷ xs) (suc i) d h = from_item xs i d (omega arith)

pub from_before : {A : Type 0} (xs : List A) (i : ℕ) (d : A) → 0 < i → i ≤ length xs → d ≡ get_or xs (i - 1) d → d ∷ drop i xs ≡ drop (i - 1) xs
from_before xs zero d h k e = absurd (omega arith)
from_before xs (suc i) d h k e =
    let less : suc i - 1 ≡ i = omega arith in
    ap (λ x. x ∷ drop (suc i) xs) (e ∙ ap (λ j. get_or xs j d) less) ∙ from_item xs i d (omega arith) ∙ ap (λ j. drop j xs) (sym less)

-- one more of a row, before those that were put there
module _ {X : Type 0} (one : X → List Token) where
  pub row_more : (xs : List X) (i : ℕ) (x : X) (new now old : List Token) → 0 < i → i ≤ length xs → x ≡ get_or xs (i - 1) x → new ≡ one x ++ now → now ≡ each_tokens one (drop i xs) ++ old → new ≡ each_tokens one (drop (i - 1) xs) ++ old
  row_more xs i x new now old h k is e f =
      e ∙ ap (λ ts. one x ++ ts) f ∙ sym (append_assoc (one x) (each_tokens one (drop i xs)) old) ∙ ap (λ ys. each_tokens one ys ++ old) (from_before xs i x h k is)

  each_both : (xs ys : List X) → each_tokens one (xs ++ ys) ≡ each_tokens one xs ++ each_tokens one ys
  each_both [] ys = refl
  each_both (x ∷ xs) ys = ap (λ ts. one x ++ ts) (each_both xs ys) ∙ sym (append_assoc (one x) (each_tokens one xs) (each_tokens one ys))

  pub last_more : (xs : List X) (x : X) (new now old : List Token) → new ≡ one x ++ now → each_tokens one (xs ++ x ∷ []) ++ now ≡ old → each_tokens one xs ++ new ≡ old
  last_more xs x new now old e f =
      ap (λ ts. each_tokens one xs ++ ts) (e ∙ ap (λ ts. ts ++ now) (sym (append-nil (one x)))) ∙ sym (append_assoc (each_tokens one xs) (one x ++ []) now) ∙ ap (λ ts. ts ++ now) (sym (each_both xs (x ∷ []))) ∙ f

-- the rest of an array, and of an object
pub trees_rest : (ts : List TreeData) → array_rest (trees_json (trees_of ts)) ≡ each_tokens tree_tokens ts ++ end_array ∷ []
trees_rest [] = refl
trees_rest (t ∷ ts) = ap (λ r. tree_tokens t ++ r) (trees_rest ts) ∙ sym (append_assoc (tree_tokens t) (each_tokens tree_tokens ts) (end_array ∷ []))

pub pairs_rest : (ps : List (TreeData × TreeData)) → array_rest (pairs_json (pairs_of ps)) ≡ each_tokens pair_tokens ps ++ end_array ∷ []
pairs_rest [] = refl
pairs_rest (p ∷ ps) = ap (λ r. pair_tokens p ++ r) (pairs_rest ps) ∙ sym (append_assoc (pair_tokens p) (each_tokens pair_tokens ps) (end_array ∷ []))

pub members_rest : (ms : Members) → object_rest ms ≡ members_tokens ms ++ end_object ∷ []
members_rest no_members = refl
members_rest (member name d ms) = ap (λ r. (key name ∷ value_tokens d) ++ r) (members_rest ms) ∙ sym (append_assoc (key name ∷ value_tokens d) (members_tokens ms) (end_object ∷ []))

-- fields that stand in order
pub fields_in_order : (fs : List (List ℕ × TreeData)) → members_tokens (in_order tree_json fs) ≡ each_tokens field_tokens fs
fields_in_order [] = refl
fields_in_order (f ∷ fs) = ap (λ r. field_tokens f ++ r) (fields_in_order fs)

pub rising_unit : (fs : List (List ℕ × TreeData)) → rise_from [] fs ≡ true → each_tokens field_tokens fs ≡ unit_tokens fs
rising_unit fs h = sym (fields_in_order fs) ∙ ap members_tokens (sym (rising_stays tree_json [] fs h) ∙ fields_are fs no_members)

-- an opening bracket was written, and the rest is left to write
pub begun : (opening closing : Token) (rest middle old first left mid behind : List Token) → rest ≡ middle ++ closing ∷ [] → first ≡ old ++ opening ∷ [] → mid ≡ closing ∷ behind → left ≡ middle ++ mid
    → first ++ left ≡ old ++ ((opening ∷ rest) ++ behind)
begun opening closing rest middle old first left mid behind r e f g =
    ap (λ b. b ++ left) e
    ∙ append_assoc old (opening ∷ []) left
    ∙ ap (λ l. old ++ (opening ∷ l)) (g ∙ ap (λ m. middle ++ m) f ∙ sym (append_assoc middle (closing ∷ []) behind) ∙ ap (λ m. m ++ behind) (sym r))

-- the sizes from the place before on
pub trees_more : (xs : List TreeData) (i : ℕ) (x : TreeData) → 0 < i → i ≤ length xs → x ≡ get_or xs (i - 1) x → trees_size (trees_of (drop (i - 1) xs)) ≡ tree_size x + 1 + trees_size (trees_of (drop i xs))
trees_more xs i x h k is = ap (λ ys. trees_size (trees_of ys)) (sym (from_before xs i x h k is))

pub pairs_more : (xs : List (TreeData × TreeData)) (i : ℕ) (x : TreeData × TreeData) → 0 < i → i ≤ length xs → x ≡ get_or xs (i - 1) x → pairs_size (pairs_of (drop (i - 1) xs)) ≡ tree_size x.0 + 1 + (tree_size x.1 + 1) + pairs_size (pairs_of (drop i xs))
pairs_more xs i x h k is = ap (λ ys. pairs_size (pairs_of ys)) (sym (from_before xs i x h k is))

pub fields_more : (xs : List (List ℕ × TreeData)) (i : ℕ) (x : List ℕ × TreeData) → 0 < i → i ≤ length xs → x ≡ get_or xs (i - 1) x → fields_size (fields_of (drop (i - 1) xs)) ≡ tree_size x.1 + 1 + fields_size (fields_of (drop i xs))
fields_more xs i x h k is = ap (λ ys. fields_size (fields_of ys)) (sym (from_before xs i x h k is))

pub total_last : {X : Type 0} (weight : X → ℕ) (xs : List (List ℕ × X)) (x : List ℕ × X) → total weight (xs ++ x ∷ []) ≡ total weight xs + weight x.1
total_last weight [] x = omega arith
total_last weight (y ∷ ys) x = omega (arith, total_last weight ys x)

-- the last entry of a table
abbrev Lent : Type 0
Lent = Bor (List ℕ) × Bor TreeData

lent_last : (es : List Lent) (e : Lent) → lent (es ++ e ∷ []) ≡ lent es ++ (e.0.now, e.1.now) ∷ []
lent_last [] e = refl
lent_last (x ∷ xs) e = ap (λ ys. (x.0.now, x.1.now) ∷ ys) (lent_last xs e)

pub table_tokens : (old new : List Lent) (e : Lent) (after now all : List Token) → old ≡ new ++ e ∷ [] → after ≡ field_tokens (e.0.now, e.1.now) ++ now
    → each_tokens field_tokens (lent old) ++ now ≡ all → each_tokens field_tokens (lent new) ++ after ≡ all
table_tokens old new e after now all is f so =
    last_more field_tokens (lent new) (e.0.now, e.1.now) after now all f (ap (λ es. each_tokens field_tokens es ++ now) (sym (ap lent is ∙ lent_last new e)) ∙ so)

pub table_weighs : (weight : TreeData → ℕ) (old new : List Lent) (e : Lent) → old ≡ new ++ e ∷ [] → total weight (lent old) ≡ total weight (lent new) + weight e.1.now
table_weighs weight old new e is = ap (λ es. total weight es) (ap lent is ∙ lent_last new e) ∙ total_last weight (lent new) (e.0.now, e.1.now)

-- fields that a table holds
pub sorted_unit : (es : List Lent) (fs : List (List ℕ × TreeData)) → in_order tree_json (lent es) ≡ with_entries tree_json fs no_members → each_tokens field_tokens (lent es) ≡ unit_tokens fs
sorted_unit es fs h = sym (fields_in_order (lent es)) ∙ ap members_tokens (h ∙ fields_are fs no_members)
