-- What is noted of fields, mark by mark.
use Rattle.std.proofs.Common.{ℕ, ◌≡◌, ◌+◌, ◌<◌, Bool, true, false, refl, ap, sym, ◌∙◌, List, [], ◌∷◌, length, drop, get_or, Option, Some, None}
use Rattle.std.specs.Prelude.{◌&&◌, ◌||◌, if◌then◌else◌}
use Rattle.std.proofs.lemmas.List.{drop_more}
use Rattle.sp_ast.specs.Trees.{Tree}
use Rattle.sp_types.specs.Types.{Ty}
use Rattle.sp_type_modules.specs.Taken.{differ}
use Rattle.sp_type_context.specs.Contexts.{Around}
use Rattle.sp_type_fields.specs.Values.{Values}
use Rattle.sp_type_hook_order.specs.Keys.{are_same}
use Rattle.sp_type_hook_order.proofs.Gathering.{same_is, same_back}
use Rattle.sp_type_hook_rows.specs.declared.sites.Site.{Site}
use Rattle.sp_type_hooks.specs.declared.marks.Marks.{Marks}
use Rattle.sp_type_hooks.specs.declared.table.TypeTable.{TypeTable}
use Rattle.sp_type_hooks.specs.Fields.{holder_types, holds_container, site_mark, hangs, earlier, if_marked, first_stored, added, elements_of, some_differ, one_of}
use Rattle.sp_type_hooks.specs.inside.Tables.{has_mark, type_told, is_another, joined}

pub nothing_behind : (o : Option Ty) → o ≡ earlier o None
nothing_behind None = refl
nothing_behind (Some t) = refl

never : {X : Type 0} → false ≡ true → X
never e = absurd (let z : false ≡ true = e in cc)

pub unasked : (wanted : Marks) (mark x : ℕ × ℕ × ℕ) (old : Option Ty) (t : Ty) → has_mark wanted mark ≡ false → has_mark wanted x ≡ true → old ≡ earlier old (if are_same mark x then Some t else None)
unasked wanted mark x old t none some = by (are_same mark x) refl
  where
    by : (b : Bool) → are_same mark x ≡ b → old ≡ earlier old (if b then Some t else None)
    by true e = never (sym none ∙ ap (has_mark wanted) (same_is mark x e) ∙ some)
    by false e = nothing_behind old

none_added : (b : Bool) (t : Ty) (ts : List Ty) → added (b && false) t ts ≡ ts
none_added true t ts = refl
none_added false t ts = refl

pub no_element : (wanted : Marks) (mark x : ℕ × ℕ × ℕ) (first : Option Ty) (mixed brackets : Bool) (t : Ty) (ts : List Ty) → has_mark wanted mark ≡ false → has_mark wanted x ≡ true → joined first mixed ts ≡ joined first mixed (added (brackets && are_same x mark) t ts)
no_element wanted mark x first mixed brackets t ts none some = by (are_same x mark) refl
  where
    by : (b : Bool) → are_same x mark ≡ b → joined first mixed ts ≡ joined first mixed (added (brackets && b) t ts)
    by true e = never (sym none ∙ ap (has_mark wanted) (sym (same_is x mark e)) ∙ some)
    by false e = ap (joined first mixed) (sym (none_added brackets t ts))

pub no_mark : (first : Option Ty) (mixed brackets : Bool) (t : Ty) (ts : List Ty) → joined first mixed ts ≡ joined first mixed (added (brackets && false) t ts)
no_mark first mixed brackets t ts = ap (joined first mixed) (sym (none_added brackets t ts))

-- where nothing is noted, others alone tell
pub fresh : (first : Option Ty) (mixed : Bool) (ts : List Ty) → first ≡ None → mixed ≡ false → joined first mixed ts ≡ one_of ts
fresh first mixed ts none one = ap (λ o. joined o mixed ts) none ∙ ap (λ b. joined None b ts) one

pub mixed_none : (first : Option Ty) (mixed : Bool) → mixed ≡ true → None ≡ joined first mixed []
mixed_none first mixed many = ap (λ b. joined first b []) (sym many)

-- where elements are of one type, it is that of the first
pub alone : (o first : Option Ty) (mixed : Bool) → o ≡ first → mixed ≡ false → o ≡ joined first mixed []
alone o first mixed is one = is ∙ by first ∙ ap (λ b. joined first b []) (sym one)
  where
    by : (p : Option Ty) → p ≡ joined p false []
    by None = refl
    by (Some t) = refl

right_false : (a : Bool) → (a || false) ≡ a
right_false true = refl
right_false false = refl

right_true : (a : Bool) → (a && true) ≡ a
right_true true = refl
right_true false = refl

both_false : (a : Bool) → (a && false) ≡ false
both_false true = refl
both_false false = refl

more_mixed : (a b c : Bool) (t : Ty) → (if a || b then None else if c then None else Some t) ≡ (if a then None else if b || c then None else Some t)
more_mixed true b c t = refl
more_mixed false true c t = refl
more_mixed false false c t = refl

-- one more element of the same mark
same_element : (old : Option Ty) (before after another : Bool) (t : Ty) (ts : List Ty) → another ≡ is_another old t → after ≡ (before || another) → joined (earlier old (Some t)) after ts ≡ joined old before (t ∷ ts)
same_element None before after another t ts other mixed = ap (λ b. joined (Some t) b ts) (mixed ∙ ap (λ b. before || b) other ∙ right_false before)
same_element (Some s) before after another t ts other mixed =
    ap (λ b. joined (Some s) b ts) (mixed ∙ ap (λ b. before || b) other) ∙ more_mixed before (differ s t) (some_differ s ts) s

-- What an element is of one more field, where others may have been noted at its mark and at others.
pub one_element : (old : TypeTable) (mark x : ℕ × ℕ × ℕ) (before after marked : Bool) (new : Option Ty) (t : Ty) (ts : List Ty)
    → after ≡ (before || marked) → marked ≡ (is_another (type_told old mark) t && are_same x mark) → new ≡ earlier (type_told old x) (if are_same mark x then Some t else None)
    → joined new after ts ≡ joined (type_told old x) before (added (are_same x mark) t ts)
one_element old mark x before after marked new t ts noted other put = by (are_same x mark) refl (same_back mark x)
  where
    by : (b : Bool) → are_same x mark ≡ b → are_same mark x ≡ are_same x mark → joined new after ts ≡ joined (type_told old x) before (added b t ts)
    by true e back =
        let is : marked ≡ is_another (type_told old x) t =
        other ∙ ap (λ b. is_another (type_told old mark) t && b) e ∙ right_true (is_another (type_told old mark) t) ∙ ap (λ y. is_another (type_told old y) t) (sym (same_is x mark e)) in
        ap (λ o. joined o after ts) (put ∙ ap (λ b. earlier (type_told old x) (if b then Some t else None)) (back ∙ e))
        ∙ same_element (type_told old x) before after marked t ts is noted
    by false e back =
        let is : marked ≡ false = other ∙ ap (λ b. is_another (type_told old mark) t && b) e ∙ both_false (is_another (type_told old mark) t) in
        ap (λ o. joined o after ts) (put ∙ ap (λ b. earlier (type_told old x) (if b then Some t else None)) (back ∙ e) ∙ sym (nothing_behind (type_told old x)))
        ∙ ap (λ b. joined (type_told old x) b ts) (noted ∙ ap (λ b. before || b) is ∙ right_false before)

earlier_more : (a b c : Option Ty) → earlier (earlier a b) c ≡ earlier a (earlier b c)
earlier_more None b c = refl
earlier_more (Some t) b c = refl

-- one more place of hooks
pub one_more : (list : List Tree) (contexts : List Around) (v : Values) (x : ℕ × ℕ × ℕ) (sites : List Site) (i : ℕ) (s : Site) (mark : Option (ℕ × ℕ × ℕ)) (old new : Option Ty)
    → i < length sites → s ≡ get_or sites i s → mark ≡ site_mark list s
    → new ≡ earlier old (if_marked x mark (holder_types contexts v s.unit s.holder).stored)
    → earlier old (first_stored list contexts v x (drop i sites)) ≡ first_stored list contexts v x sites
    → earlier new (first_stored list contexts v x (drop (i + 1) sites)) ≡ first_stored list contexts v x sites
one_more list contexts v x sites i s mark old new less at is noted before =
    let rest = first_stored list contexts v x (drop (i + 1) sites) in
    let t = (holder_types contexts v s.unit s.holder).stored in
    let front : drop i sites ≡ s ∷ drop (i + 1) sites = drop_more sites i s less ∙ ap (λ y. y ∷ drop (i + 1) sites) (sym at) in
    ap (λ o. earlier o rest) (noted ∙ ap (λ m. earlier old (if_marked x m t)) is)
    ∙ earlier_more old (if_marked x (site_mark list s) t) rest
    ∙ ap (λ l. earlier old (first_stored list contexts v x l)) (sym front)
    ∙ before

pub one_more_element : (list : List Tree) (contexts : List Around) (v : Values) (x : ℕ × ℕ × ℕ) (sites : List Site) (i : ℕ) (s : Site) (mark : Option (ℕ × ℕ × ℕ)) (old new : List Ty → Option Ty)
    → i < length sites → s ≡ get_or sites i s → mark ≡ site_mark list s
    → ((ts : List Ty) → new ts ≡ old (added (holds_container s.holder && hangs x mark) (holder_types contexts v s.unit s.holder).element ts))
    → old (elements_of list contexts v x (drop i sites)) ≡ one_of (elements_of list contexts v x sites)
    → new (elements_of list contexts v x (drop (i + 1) sites)) ≡ one_of (elements_of list contexts v x sites)
one_more_element list contexts v x sites i s mark old new less at is noted before =
    let rest = elements_of list contexts v x (drop (i + 1) sites) in
    let t = (holder_types contexts v s.unit s.holder).element in
    let front : drop i sites ≡ s ∷ drop (i + 1) sites = drop_more sites i s less ∙ ap (λ y. y ∷ drop (i + 1) sites) (sym at) in
    noted rest ∙ ap (λ m. old (added (holds_container s.holder && hangs x m) t rest)) is ∙ ap (λ l. old (elements_of list contexts v x l)) (sym front) ∙ before
