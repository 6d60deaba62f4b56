-- Members that join a row one by one are the first of each name, and each has its own name.
use Rattle.std.proofs.Common.{ℕ, ◌≡◌, ◌+◌, ◌<◌, Bool, true, false, cond, suc, refl, sym, ap, subst, ◌∙◌, arith, List, [], ◌∷◌, ◌++◌, length, Option, Some, None, is_some, slice_get, drop, get_or}
use Rattle.std.specs.Prelude.{if◌then◌else◌, not, filter, ⊤}
use Rattle.std.specs.Str.{bytes_eq}
use Rattle.std.proofs.lemmas.List.{append_assoc, at_drop_more, length-append}
use Rattle.std.proofs.lemmas.Slice.Eq.{bytes_eq-Decides}
use Rattle.sp_types.specs.Types.{Ty}
use Rattle.sp_typed_units.specs.declared.declarations.MemberKind.{MemberKind}
use Rattle.sp_typed_units.specs.declared.declarations.MemberKind.TheVariants as kind_is
use Rattle.sp_ast.specs.Trees.{Tree}
use Rattle.sp_names.specs.Tables.{earlier}
use Rattle.sp_type_modules.specs.Members.{UnitMember, is_called, firsts, numbered, kinds_of, members_of, named_among, unit_items}
use Rattle.sp_type_modules.specs.Arounds.{kind_type, kind_member, unit_member, some_member}
use Rattle.sp_type_modules.specs.inside.Kept.{joined, all_joined}
use Rattle.sp_type_modules.proofs.Joining.{bytes_decide, joined_firsts}
use Rattle.sp_type_units.specs.declared.named.Named.{Named}
use Rattle.sp_name_tables.specs.declared.tables.NameTable.{NameTable}
use Rattle.sp_type_units.specs.UnitRows.{member_rows}
use Rattle.sp_type_units.specs.inside.Shown.{shown, shown_one}
use Rattle.sp_name_tables.specs.Tables.{told_by}
use Rattle.sp_type_units.specs.inside.Joins.{Joined, found_type, rows_by}

pub shown_more : (ns : List Named) (n : Named) → shown (ns ++ n ∷ []) ≡ shown ns ++ shown_one n ∷ []
shown_more [] n = refl
shown_more (k ∷ ns) n = ap (λ l. shown_one k ∷ l) (shown_more ns n)

pub length_shown : (ns : List Named) → length (shown ns) ≡ length ns
length_shown [] = refl
length_shown (n ∷ ns) = ap suc (length_shown ns)

at_end : (x : List ℕ) (k : ℕ) (ms : List UnitMember) (m : UnitMember) (n : ℕ) → n ≡ k + length ms
    → numbered x k (ms ++ m ∷ []) ≡ earlier (numbered x k ms) (if is_called x m then Some n else None)
at_end x k [] m n e = ap (λ j. if is_called x m then Some j else None) (let f : k ≡ n = omega (arith, e) in f)
at_end x k (u ∷ ms) m n e = by (is_called x u) (at_end x (suc k) ms m n (omega (arith, e)))
  where
    by : (b : Bool) → numbered x (suc k) (ms ++ m ∷ []) ≡ earlier (numbered x (suc k) ms) (if is_called x m then Some n else None)
        → (if b then Some k else numbered x (suc k) (ms ++ m ∷ [])) ≡ earlier (if b then Some k else numbered x (suc k) ms) (if is_called x m then Some n else None)
    by true h = refl
    by false h = h

-- where none has a name, none that equals it has one
meets : (old mine : Option ℕ) (same : Bool) (i : ℕ) → (same ≡ true → old ≡ mine) → mine ≡ None → cond (is_some mine) old (cond same (Some i) old) ≡ earlier old (if same then Some i else None)
meets None None true i h n = refl
meets None None false i h n = refl
meets old (Some k) same i h n = (let z : Some k ≡ None = n in cc)
meets (Some k) None true i h n = (let z : Some k ≡ None = h refl in cc)
meets (Some k) None false i h n = refl

none_is : (o : Option ℕ) → is_some o ≡ false → o ≡ None
none_is None e = refl
none_is (Some n) e = cc

-- one member more
pub joins_new : (old new : NameTable) (ms row : List UnitMember) (m : UnitMember) (next : ℕ)
    → is_some (told_by old m.name) ≡ false
    → next ≡ length ms
    → ((x : List ℕ) → told_by new x ≡ cond (is_some (told_by old m.name)) (told_by old x) (cond (bytes_eq x m.name) (Some next) (told_by old x)))
    → row ≡ ms ++ m ∷ []
    → Joined old ms m new row
joins_new old new ms row m next absent count told grows = λ are. (
    let none : told_by old m.name ≡ None = none_is (told_by old m.name) absent in
    let fresh : numbered m.name 0 ms ≡ None = sym (are m.name) ∙ none in
    let many : next ≡ 0 + length ms = omega (arith, count) in
    record {
      numbers_are = λ x.
          told x
          ∙ meets (told_by old x) (told_by old m.name) (bytes_eq x m.name) next (λ e. ap (told_by old) (bytes_decide x m.name e)) none
          ∙ ap (λ o. earlier o (if bytes_eq x m.name then Some next else None)) (are x)
          ∙ sym (at_end x 0 ms m next many)
          ∙ ap (numbered x 0) (sym grows);
      row_is = grows ∙ sym (ap (λ o. if is_some o then ms else ms ++ m ∷ []) fresh);
    })

pub joins_old : (old : NameTable) (ms : List UnitMember) (m : UnitMember) → is_some (told_by old m.name) ≡ true → Joined old ms m old ms
joins_old old ms m there = λ are. (record {
  numbers_are = are;
  row_is = sym (ap (λ b. if b then ms else ms ++ m ∷ []) (ap is_some (sym (are m.name)) ∙ there));
})

-- all that join an empty row leave the first of each name
all_fresh : (us : List UnitMember) → filter (λ n. not (is_some (numbered n.name 0 []))) us ≡ us
all_fresh [] = refl
all_fresh (u ∷ us) = ap (λ l. u ∷ l) (all_fresh us)

pub joined_are : (ms : List UnitMember) → all_joined [] ms ≡ firsts ms
joined_are ms = joined_firsts bytes_decide [] ms ∙ all_fresh (firsts ms)

-- the next joins
pub joins_next : (all : List Named) (i : ℕ) (n none : Named) (ms row : List UnitMember) → i < length all → n ≡ get_or all i none → row ≡ joined ms (shown_one n) → all_joined ms (shown (drop i all)) ≡ all_joined [] (shown all)
    → all_joined row (shown (drop (i + 1) all)) ≡ all_joined [] (shown all)
joins_next all i n none ms row lt here is so =
    let rest = drop (i + 1) all in
    let next : all_joined ms (shown (drop i all)) ≡ all_joined ms (shown (n ∷ rest)) =
    at_drop_more (λ l. all_joined ms (shown l)) all i none lt ∙ ap (λ y. all_joined ms (shown (y ∷ rest))) (sym here) in
    ap (λ r. all_joined r (shown rest)) is ∙ sym next ∙ so

-- each of some members has a name of its own
abbrev AllOther : UnitMember → List UnitMember → Type 0
AllOther m [] = ⊤
AllOther m (n ∷ ns) = (is_called n.name m ≡ false) × AllOther m ns

abbrev Distinct : List UnitMember → Type 0
Distinct [] = ⊤
Distinct (m ∷ ms) = AllOther m ms × Distinct ms

other_kept : (p : UnitMember → Bool) (m : UnitMember) (ns : List UnitMember) → AllOther m ns → AllOther m (filter p ns)
other_kept p m [] h = tt
other_kept p m (n ∷ ns) h = by (p n) (other_kept p m ns h.1)
  where
    by : (b : Bool) → AllOther m (filter p ns) → AllOther m (if b then n ∷ filter p ns else filter p ns)
    by true rest = (h.0, rest)
    by false rest = rest

distinct_kept : (p : UnitMember → Bool) (ms : List UnitMember) → Distinct ms → Distinct (filter p ms)
distinct_kept p [] h = tt
distinct_kept p (m ∷ ms) h = by (p m) (distinct_kept p ms h.1)
  where
    by : (b : Bool) → Distinct (filter p ms) → Distinct (if b then m ∷ filter p ms else filter p ms)
    by true rest = (other_kept p m ms h.0, rest)
    by false rest = rest

others : (m : UnitMember) (ns : List UnitMember) → AllOther m (filter (λ n. not (is_called n.name m)) ns)
others m [] = tt
others m (n ∷ ns) = by (is_called n.name m) refl (others m ns)
  where
    by : (b : Bool) → is_called n.name m ≡ b → AllOther m (filter (λ u. not (is_called u.name m)) ns) → AllOther m (if not b then n ∷ filter (λ u. not (is_called u.name m)) ns else filter (λ u. not (is_called u.name m)) ns)
    by true e rest = rest
    by false e rest = (e, rest)

distinct_firsts : (ms : List UnitMember) → Distinct (firsts ms)
distinct_firsts [] = tt
distinct_firsts (m ∷ ms) = (others m (firsts ms), distinct_kept (λ n. not (is_called n.name m)) (firsts ms) (distinct_firsts ms))

-- a member is found by its name
other_at : (p m : UnitMember) (pre ms : List UnitMember) → AllOther p (pre ++ m ∷ ms) → is_called m.name p ≡ false
other_at p m [] ms h = h.0
other_at p m (q ∷ pre) ms h = other_at p m pre ms h.1

own_name : (x : List ℕ) → bytes_eq x x ≡ true
own_name x = (bytes_eq-Decides x x).1 refl

numbered_at : (k : ℕ) (pre : List UnitMember) (m : UnitMember) (ms : List UnitMember) (n : ℕ) → n ≡ k + length pre → Distinct (pre ++ m ∷ ms) → numbered m.name k (pre ++ m ∷ ms) ≡ Some n
numbered_at k [] m ms n e h =
    ap (λ b. if b then Some k else numbered m.name (suc k) ms) (own_name m.name)
    ∙ ap Some (let f : k ≡ n = omega (arith, e) in f)
numbered_at k (p ∷ pre) m ms n e h =
    ap (λ b. if b then Some k else numbered m.name (suc k) (pre ++ m ∷ ms)) (other_at p m pre ms h.0)
    ∙ numbered_at (suc k) pre m ms n (omega (arith, e)) h.1

kind_at : (pre : List UnitMember) (m : UnitMember) (ms : List UnitMember) → slice_get (kinds_of (pre ++ m ∷ ms)) (length pre) ≡ Some m.kind
kind_at [] m ms = refl
kind_at (p ∷ pre) m ms = kind_at pre m ms

type_of : (t : Ty) (k : ℕ) (kind : MemberKind) → (kind_member t k kind).ty ≡ t
type_of t k kind_is.Field = refl
type_of t k kind_is.Variable = refl
type_of t k kind_is.Sink = refl

found_at : (stored : ℕ → Ty) (pre : List UnitMember) (m : UnitMember) (ms : List UnitMember) (k : ℕ) → k ≡ length pre → Distinct (pre ++ m ∷ ms)
    → found_type (unit_member stored (pre ++ m ∷ ms) (numbered m.name 0 (pre ++ m ∷ ms))) ≡ kind_type stored k m.kind
found_at stored pre m ms k e h =
    ap (λ o. found_type (unit_member stored (pre ++ m ∷ ms) o)) (numbered_at 0 pre m ms k (omega (arith, e)) h)
    ∙ ap (λ o. found_type (some_member stored k o)) (ap (slice_get (kinds_of (pre ++ m ∷ ms))) e ∙ kind_at pre m ms)
    ∙ type_of (kind_type stored k m.kind) k m.kind

rows_from : (stored : ℕ → Ty) (all pre ms : List UnitMember) (k : ℕ) → all ≡ pre ++ ms → k ≡ length pre → Distinct all → rows_by stored all ms ≡ member_rows stored k ms
rows_from stored all pre [] k e n h = refl
rows_from stored all pre (m ∷ ms) k e n h =
    ap (λ t. record { name = m.name; kind = m.kind; ty = t } ∷ rows_by stored all ms) (
    ap (λ l. found_type (unit_member stored l (numbered m.name 0 l))) e
    ∙ found_at stored pre m ms k n (subst Distinct e h)
    )
    ∙ ap (λ l. record { name = m.name; kind = m.kind; ty = kind_type stored k m.kind } ∷ l) (
    rows_from stored all (pre ++ m ∷ []) ms (suc k) (e ∙ sym (append_assoc pre (m ∷ []) ms)) (let long = length-append pre (m ∷ []) in omega (arith, long, n)) h
    )

-- What each member is found to be by its name is what it is by its number.
pub rows_are : (stored : ℕ → Ty) (unit : Tree) → rows_by stored (members_of unit) (members_of unit) ≡ member_rows stored 0 (members_of unit)
rows_are stored unit = rows_from stored (members_of unit) [] (members_of unit) 0 refl refl (distinct_firsts (named_among (unit_items unit)))
