-- Members that join a row one by one are the first of each name.
use Rattle.std.proofs.Common.{ℕ, ◌≡◌, ◌+◌, Bool, true, false, cond, suc, refl, sym, ap, subst, ◌∙◌, arith, List, [], ◌∷◌, ◌++◌, length, Option, Some, None, is_some}
use Rattle.std.specs.Prelude.{if◌then◌else◌, not, filter}
use Rattle.std.specs.Str.{bytes_eq}
use Rattle.std.proofs.lemmas.List.{append_assoc, append-nil}
use Rattle.sp_typed_units.specs.declared.declarations.MemberKind.{MemberKind}
use Rattle.sp_names.specs.Tables.{earlier}
use Rattle.sp_type_modules.specs.declared.members.MemberTable.{MemberTable}
use Rattle.sp_ast.specs.Trees.{Tree, trees}
use Rattle.std.proofs.lemmas.Slice.Eq.{bytes_eq-Decides}
use Rattle.sp_type_modules.specs.Members.{UnitMember, is_called, firsts, numbered, kinds_of, named_in, named_among}
use Rattle.sp_type_modules.specs.inside.Kept.{joined, all_joined, IsKept, Joins, LeadsOn}
use Rattle.sp_name_tables.specs.Tables.{told_by}

pub bytes_decide : (x y : List ℕ) → bytes_eq x y ≡ true → x ≡ y
bytes_decide x y e = (bytes_eq-Decides x y).0 e

pub all_joined_append : (kept xs ys : List UnitMember) → all_joined kept (xs ++ ys) ≡ all_joined (all_joined kept xs) ys
all_joined_append kept [] ys = refl
all_joined_append kept (x ∷ xs) ys = all_joined_append (joined kept x) xs ys

kinds_end : (ms : List UnitMember) (m : UnitMember) → kinds_of (ms ++ m ∷ []) ≡ kinds_of ms ++ m.kind ∷ []
kinds_end [] m = refl
kinds_end (n ∷ ms) m = ap (λ l. n.kind ∷ l) (kinds_end ms m)

pub length_kinds : (ms : List UnitMember) → length (kinds_of ms) ≡ length ms
length_kinds [] = refl
length_kinds (m ∷ ms) = ap suc (length_kinds ms)

at_end : (x : List ℕ) (k : ℕ) (ms : List UnitMember) (m : UnitMember) (n : ℕ) → n ≡ k + length ms
    → numbered x k (ms ++ m ∷ []) ≡ earlier (numbered x k ms) (if is_called x m then Some n else None)
at_end x k [] m n e = ap (λ j. if is_called x m then Some j else None) (let f : k ≡ n = omega (arith, e) in f)
at_end x k (u ∷ ms) m n e = by (is_called x u) (at_end x (suc k) ms m n (omega (arith, e)))
  where
    by : (b : Bool) → numbered x (suc k) (ms ++ m ∷ []) ≡ earlier (numbered x (suc k) ms) (if is_called x m then Some n else None)
        → (if b then Some k else numbered x (suc k) (ms ++ m ∷ [])) ≡ earlier (if b then Some k else numbered x (suc k) ms) (if is_called x m then Some n else None)
    by true h = refl
    by false h = h

-- where none of some members has a name, none that equals it has one
meets : (old mine : Option ℕ) (same : Bool) (i : ℕ) → (same ≡ true → old ≡ mine) → mine ≡ None → cond (is_some mine) old (cond same (Some i) old) ≡ earlier old (if same then Some i else None)
meets None None true i h n = refl
meets None None false i h n = refl
meets old (Some k) same i h n = (let z : Some k ≡ None = n in cc)
meets (Some k) None true i h n = (let z : Some k ≡ None = h refl in cc)
meets (Some k) None false i h n = refl

none_is : (o : Option ℕ) → is_some o ≡ false → o ≡ None
none_is None e = refl
none_is (Some n) e = cc

joined_new : (kept : List UnitMember) (m : UnitMember) → numbered m.name 0 kept ≡ None → joined kept m ≡ kept ++ m ∷ []
joined_new kept m e = ap (λ o. if is_some o then kept else kept ++ m ∷ []) e

joined_old : (kept : List UnitMember) (m : UnitMember) → is_some (numbered m.name 0 kept) ≡ true → joined kept m ≡ kept
joined_old kept m e = ap (λ b. if b then kept else kept ++ m ∷ []) e

-- one member more
pub joins_new : (old new : MemberTable) (name : List ℕ) (kind : MemberKind) (next : ℕ) → ((x y : List ℕ) → bytes_eq x y ≡ true → x ≡ y)
    → is_some (told_by old.names name) ≡ false
    → next ≡ length old.kinds.items
    → ((x : List ℕ) → told_by new.names x ≡ cond (is_some (told_by old.names name)) (told_by old.names x) (cond (bytes_eq x name) (Some next) (told_by old.names x)))
    → new.kinds.items ≡ old.kinds.items ++ kind ∷ []
    → Joins old new ((record { name = name; kind = kind }) ∷ [])
joins_new old new name kind next decides absent count names kinds = λ kept is. (
    let m : UnitMember = record { name = name; kind = kind } in
    let none : told_by old.names name ≡ None = none_is (told_by old.names name) absent in
    let fresh : numbered name 0 kept ≡ None = sym (is.names_are name) ∙ none in
    let long : next ≡ length kept = count ∙ ap length is.kinds_are ∙ length_kinds kept in
    let many : next ≡ 0 + length kept = omega (arith, long) in
    let row : joined kept m ≡ kept ++ m ∷ [] = joined_new kept m fresh in
    record {
      names_are = λ x.
          names x
          ∙ meets (told_by old.names x) (told_by old.names name) (bytes_eq x name) next (λ e. ap (told_by old.names) (decides x name e)) none
          ∙ ap (λ o. earlier o (if bytes_eq x name then Some next else None)) (is.names_are x)
          ∙ sym (at_end x 0 kept m next many)
          ∙ ap (numbered x 0) (sym row);
      kinds_are = kinds ∙ ap (λ l. l ++ kind ∷ []) is.kinds_are ∙ sym (kinds_end kept m) ∙ ap kinds_of (sym row);
    })

pub joins_old : (table : MemberTable) (name : List ℕ) (kind : MemberKind) → is_some (told_by table.names name) ≡ true → Joins table table ((record { name = name; kind = kind }) ∷ [])
joins_old table name kind there = λ kept is. (
    let m : UnitMember = record { name = name; kind = kind } in
    let row : joined kept m ≡ kept = joined_old kept m (ap is_some (sym (is.names_are name)) ∙ there) in
    record {
      names_are = λ x. is.names_are x ∙ ap (numbered x 0) (sym row);
      kinds_are = is.kinds_are ∙ ap kinds_of (sym row);
    })

kept_as : (table : MemberTable) (xs ys : List UnitMember) → xs ≡ ys → IsKept table xs → IsKept table ys
kept_as table xs ys e is = record { names_are = λ x. is.names_are x ∙ ap (numbered x 0) e; kinds_are = is.kinds_are ∙ ap kinds_of e }

pub joins_none : (table : MemberTable) → Joins table table []
joins_none table = λ kept is. is

-- some, and then others
pub joins_more : (first second third : MemberTable) (xs ys : List UnitMember) → Joins first second xs → Joins second third ys → Joins first third (xs ++ ys)
joins_more first second third xs ys a b =
    λ kept is. kept_as third (all_joined (all_joined kept xs) ys) (all_joined kept (xs ++ ys)) (sym (all_joined_append kept xs ys)) (b (all_joined kept xs) (a kept is))

-- what joins a row that is empty are the first of each name
abbrev fresh : List UnitMember → UnitMember → Bool
fresh kept n = not (is_some (numbered n.name 0 kept))

filter_twice : (P Q R : UnitMember → Bool) (ms : List UnitMember) → ((n : UnitMember) → R n ≡ (if Q n then P n else false)) → filter P (filter Q ms) ≡ filter R ms
filter_twice P Q R [] h = refl
filter_twice P Q R (m ∷ ms) h = by (P m) (Q m) (R m) (h m) refl (filter_twice P Q R ms h)
  where
    by : (p q r : Bool) → r ≡ (if q then p else false) → P m ≡ p → filter P (filter Q ms) ≡ filter R ms → filter P (if q then m ∷ filter Q ms else filter Q ms) ≡ (if r then m ∷ filter R ms else filter R ms)
    by p false r e i same = same ∙ ap (λ b. if b then m ∷ filter R ms else filter R ms) (sym e)
    by p true r e i same = ap (λ b. if b then m ∷ filter P (filter Q ms) else filter P (filter Q ms)) (i ∙ sym e) ∙ ap (λ l. if r then m ∷ l else l) same

not_there : (kept : List UnitMember) (n m : UnitMember) → is_some (numbered m.name 0 kept) ≡ true → n.name ≡ m.name → fresh kept n ≡ false
not_there kept n m there same = ap not (ap (λ x. is_some (numbered x 0 kept)) same ∙ there)

behind_old : (decides : (x y : List ℕ) → bytes_eq x y ≡ true → x ≡ y) (kept : List UnitMember) (m : UnitMember) → is_some (numbered m.name 0 kept) ≡ true
    → (n : UnitMember) → fresh kept n ≡ (if not (is_called n.name m) then fresh kept n else false)
behind_old decides kept m there n = by (bytes_eq n.name m.name) refl
  where
    by : (b : Bool) → bytes_eq n.name m.name ≡ b → fresh kept n ≡ (if not b then fresh kept n else false)
    by true e = not_there kept n m there (decides n.name m.name e)
    by false e = refl

one_in : (old : Option ℕ) (b : Bool) (k : ℕ) → not (is_some (earlier old (if b then Some k else None))) ≡ (if not b then not (is_some old) else false)
one_in None true k = refl
one_in None false k = refl
one_in (Some j) true k = refl
one_in (Some j) false k = refl

behind_new : (kept : List UnitMember) (m n : UnitMember) → fresh (kept ++ m ∷ []) n ≡ (if not (is_called n.name m) then fresh kept n else false)
behind_new kept m n =
    ap (λ o. not (is_some o)) (at_end n.name 0 kept m (length kept) (let z : length kept ≡ 0 + length kept = omega arith in z))
    ∙ one_in (numbered n.name 0 kept) (is_called n.name m) (length kept)

pub joined_firsts : (decides : (x y : List ℕ) → bytes_eq x y ≡ true → x ≡ y) (kept ms : List UnitMember) → all_joined kept ms ≡ kept ++ filter (fresh kept) (firsts ms)
joined_firsts decides kept [] = sym (append-nil kept)
joined_firsts decides kept (m ∷ ms) = by (is_some (numbered m.name 0 kept)) refl (joined_firsts decides kept ms) (joined_firsts decides (kept ++ m ∷ []) ms)
  where
    by : (b : Bool) → is_some (numbered m.name 0 kept) ≡ b → all_joined kept ms ≡ kept ++ filter (fresh kept) (firsts ms) → all_joined (kept ++ m ∷ []) ms ≡ (kept ++ m ∷ []) ++ filter (fresh (kept ++ m ∷ [])) (firsts ms)
        → all_joined (if b then kept else kept ++ m ∷ []) ms ≡ kept ++ (if not b then m ∷ filter (fresh kept) (filter (λ n. not (is_called n.name m)) (firsts ms)) else filter (fresh kept) (filter (λ n. not (is_called n.name m)) (firsts ms)))
    by true e old new = old ∙ ap (λ l. kept ++ l) (sym (filter_twice (fresh kept) (λ n. not (is_called n.name m)) (fresh kept) (firsts ms) (behind_old decides kept m e)))
    by false e old new =
        new
        ∙ append_assoc kept (m ∷ []) (filter (fresh (kept ++ m ∷ [])) (firsts ms))
        ∙ ap (λ l. kept ++ m ∷ l) (sym (filter_twice (fresh kept) (λ n. not (is_called n.name m)) (fresh (kept ++ m ∷ [])) (firsts ms) (behind_new kept m)))

pub on_first : (first : MemberTable) (all : List UnitMember) → LeadsOn first first all all
on_first first all = λ later joins. joins

pub on_more : (first old new : MemberTable) (t : Tree) (ts left : List Tree) (all : List UnitMember) → left ≡ t ∷ ts → Joins old new (named_in t) → LeadsOn first old (named_among (trees left)) all
    → LeadsOn first new (named_among (trees ts)) all
on_more first old new t ts left all e joins leads = λ later rest. leads later (subst (λ l. Joins old later (named_among (trees l))) (sym e) (joins_more old new later (named_in t) (named_among (trees ts)) joins rest))

pub on_none : (first now : MemberTable) (left : List Tree) (all : List UnitMember) → left ≡ [] → LeadsOn first now (named_among (trees left)) all → Joins first now all
on_none first now left all e leads = leads now (subst (λ l. Joins now now (named_among (trees l))) (sym e) (joins_none now))

-- an empty table that these have joined holds the first of each name
pub holds_firsts : (empty table : MemberTable) (ms : List UnitMember) → IsKept empty [] → Joins empty table ms → IsKept table (firsts ms)
holds_firsts empty table ms none joins = kept_as table (all_joined [] ms) (firsts ms) (joined_firsts bytes_decide [] ms ∙ all_fresh (firsts ms)) (joins [] none)
  where
    all_fresh : (us : List UnitMember) → filter (fresh []) us ≡ us
    all_fresh [] = refl
    all_fresh (u ∷ us) = ap (λ l. u ∷ l) (all_fresh us)
