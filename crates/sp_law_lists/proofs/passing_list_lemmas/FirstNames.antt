-- What is named first in a unit by its name is the member of that name.
use Rattle.std.specs.Prelude.{Bool, true, false, not, ◌||◌, ◌==◌, if◌then◌else◌, filter}
use Rattle.std.specs.Str.{bytes_eq}
use Rattle.std.proofs.Common.{ℕ, ◌≡◌, ◌+◌, suc, refl, sym, ap, ◌∙◌, arith, List, [], ◌∷◌, ◌++◌, Option, Some, None, slice_get}
use Rattle.std.proofs.lemmas.Slice.Eq.{bytes_eq-Decides}
use Rattle.sp_ast.specs.Trees.{Tree}
use Rattle.sp_types.specs.Types.{Ty}
use Rattle.sp_type_modules.specs.Members.{unit_items}
use Rattle.sp_type_modules.specs.Sources.{Named, has_name, firsts, numbered, declared_among}
use Rattle.sp_type_modules.specs.Taken.{has, with_number, has_number, numbers_of, member_number}
use Rattle.sp_law_lists.proofs.known_types_lemmas.Full.{never}
use Rattle.sp_law_lists.proofs.whole_list_lemmas.Modules.{none_found}
use Rattle.sp_law_lists.proofs.passing_list_lemmas.Seen.{equal_itself}

pub same_bytes : (x : List ℕ) → bytes_eq x x ≡ true
same_bytes x = (bytes_eq-Decides x x).1 refl

equal_bytes : (x y : List ℕ) → bytes_eq x y ≡ true → x ≡ y
equal_bytes x y e = (bytes_eq-Decides x y).0 e

pub or_right : (b c : Bool) → c ≡ true → (b || c) ≡ true
or_right true c e = refl
or_right false c e = e

-- the first of a name
abbrev pub first_of : List ℕ → List Named → Option Named
first_of x [] = None
first_of x (d ∷ ds) = if has_name x d then Some d else first_of x ds

-- it has the number of the name
record IsNumbered (x : List ℕ) (h : ℕ) (ds : List Named) (d : Named) : Type 0 where
  place : ℕ
  number : numbered x h ds ≡ Some (h + place)
  stands : slice_get ds place ≡ Some d

by_first : (x : List ℕ) (h : ℕ) (ds : List Named) (d : Named) → first_of x ds ≡ Some d → IsNumbered x h ds d
by_first x h [] d e = none_found d e
by_first x h (y ∷ ds) d e = by (has_name x y) refl e (by_first x (suc h) ds d)
  where
    by : (b : Bool) → has_name x y ≡ b → (if b then Some y else first_of x ds) ≡ Some d → (first_of x ds ≡ Some d → IsNumbered x (suc h) ds d) → IsNumbered x h (y ∷ ds) d
    by true is f later =
        let z : h ≡ h + 0 = omega arith in
        record { place = 0; number = ap (λ b. if b then Some h else numbered x (suc h) ds) is ∙ ap Some z; stands = f }
    by false is f later =
        let r = later f in
        let z : suc h + r.place ≡ h + suc r.place = omega arith in
        record { place = suc r.place; number = ap (λ b. if b then Some h else numbered x (suc h) ds) is ∙ r.number ∙ ap Some z; stands = r.stands }

-- leaving out those of another name changes nothing
kept_first : (x : List ℕ) (d : Named) → has_name x d ≡ false → (ds : List Named) → first_of x (filter (λ e. not (has_name e.name d)) ds) ≡ first_of x ds
kept_first x d other [] = refl
kept_first x d other (e ∷ ds) = by (has_name e.name d) refl (kept_first x d other ds)
  where
    apart : (b : Bool) → has_name x e ≡ b → has_name e.name d ≡ true → has_name x e ≡ false
    apart false called is = called
    apart true called is = never (sym other ∙ ap (λ y. has_name y d) (equal_bytes x e.name called) ∙ is)

    by : (b : Bool) → has_name e.name d ≡ b → first_of x (filter (λ e. not (has_name e.name d)) ds) ≡ first_of x ds
        → first_of x (if not b then e ∷ filter (λ e. not (has_name e.name d)) ds else filter (λ e. not (has_name e.name d)) ds) ≡ (if has_name x e then Some e else first_of x ds)
    by false is later = ap (λ o. if has_name x e then Some e else o) later
    by true is later = later ∙ sym (ap (λ b. if b then Some e else first_of x ds) (apart (has_name x e) refl is))

first_kept : (x : List ℕ) (ds : List Named) → first_of x (firsts ds) ≡ first_of x ds
first_kept x [] = refl
first_kept x (d ∷ ds) = by (has_name x d) refl (first_kept x ds)
  where
    by : (b : Bool) → has_name x d ≡ b → first_of x (firsts ds) ≡ first_of x ds
        → (if b then Some d else first_of x (filter (λ e. not (has_name e.name d)) (firsts ds))) ≡ (if b then Some d else first_of x ds)
    by true is later = refl
    by false is later = kept_first x d is (firsts ds) ∙ later

-- what stands behind those of other names is the first of its name
first_behind : (x : List ℕ) (before : List Named) (d : Named) (ds : List Named) → first_of x before ≡ None → has_name x d ≡ true → first_of x (before ++ (d ∷ ds)) ≡ Some d
first_behind x [] d ds e is = ap (λ b. if b then Some d else first_of x ds) is
first_behind x (y ∷ before) d ds e is = by (has_name x y) e (first_behind x before d ds)
  where
    by : (b : Bool) → (if b then Some y else first_of x before) ≡ None → (first_of x before ≡ None → has_name x d ≡ true → first_of x (before ++ (d ∷ ds)) ≡ Some d) → (if b then Some y else first_of x (before ++ (d ∷ ds))) ≡ Some d
    by true e later = none_found y (sym e)
    by false e later = later e is

first_before : (x : List ℕ) (before ds : List Named) (y : Named) → first_of x before ≡ Some y → first_of x (before ++ ds) ≡ Some y
first_before x [] ds y e = none_found y e
first_before x (z ∷ before) ds y e = by (has_name x z) e (first_before x before ds y)
  where
    by : (b : Bool) → (if b then Some z else first_of x before) ≡ Some y → (first_of x before ≡ Some y → first_of x (before ++ ds) ≡ Some y) → (if b then Some z else first_of x (before ++ ds)) ≡ Some y
    by true e later = e
    by false e later = later e

-- in a unit
module _ (unit : Tree) (type_at : Tree → Ty) where
  abbrev whole : List Named
  whole = declared_among (unit_items unit)

  found : (x : List ℕ) (d : Named) → first_of x whole ≡ Some d → IsNumbered x 0 (firsts whole) d
  found x d e = by_first x 0 (firsts whole) d (first_kept x whole ∙ e)

  one_more : (k : ℕ) (o : Option ℕ) (ks : List ℕ) → has k ks ≡ true → has k (with_number o ks) ≡ true
  one_more k None ks e = e
  one_more k (Some j) ks e = or_right (j == k) (has k ks) e

  -- the number of a name is among those of what was named by it
  among : (x : List ℕ) (k : ℕ) → member_number unit x ≡ Some k → (before : List Named) (y : Named) → first_of x before ≡ Some y → has k (numbers_of (member_number unit) type_at before) ≡ true
  among x k is [] y e = none_found y e
  among x k is (z ∷ before) y e = by (has_name x z) refl e (among x k is before y)
    where
      by : (b : Bool) → has_name x z ≡ b → (if b then Some z else first_of x before) ≡ Some y → (first_of x before ≡ Some y → has k (numbers_of (member_number unit) type_at before) ≡ true)
          → has k (with_number (member_number unit z.name) (numbers_of (member_number unit) type_at before)) ≡ true
      by true called f later =
          let ks = numbers_of (member_number unit) type_at before in
          let named : member_number unit z.name ≡ Some k = ap (member_number unit) (sym (equal_bytes x z.name called)) ∙ is in
          ap (λ o. has k (with_number o ks)) named ∙ ap (λ b. b || has k ks) (equal_itself k)
      by false called f later = one_more k (member_number unit z.name) (numbers_of (member_number unit) type_at before) (later f)

  -- what is the member of its name
  pub record IsOwn (d : Named) : Type 0 where
    pub place : ℕ
    pub number : member_number unit d.name ≡ Some place
    pub stands : slice_get (firsts whole) place ≡ Some d

  -- so is what has another name than all that is named before it
  pub is_own : (before : List Named) (d : Named) (ds : List Named) (near : List ℕ) → whole ≡ before ++ (d ∷ ds) → ((k : ℕ) → has k (numbers_of (member_number unit) type_at before) ≡ true → has k near ≡ true)
      → has_number (member_number unit d.name) near ≡ false → IsOwn d
  is_own before d ds near is holds new = by (first_of d.name before) refl
    where
      at_place : (y : Named) → IsNumbered d.name 0 (firsts whole) y → (k : ℕ) × (member_number unit d.name ≡ Some k) × (slice_get (firsts whole) k ≡ Some y)
      at_place y r = (let z : 0 + r.place ≡ r.place = omega arith in (r.place, r.number ∙ ap Some z, r.stands))

      by : (o : Option Named) → first_of d.name before ≡ o → IsOwn d
      by None e =
          let r = at_place d (found d.name d (ap (first_of d.name) is ∙ first_behind d.name before d ds e (same_bytes d.name))) in
          record { place = r.0; number = r.1; stands = r.2 }
      by (Some y) e =
          let r = at_place y (found d.name y (ap (first_of d.name) is ∙ first_before d.name before (d ∷ ds) y e)) in
          never (sym new ∙ ap (λ o. has_number o near) r.1 ∙ holds r.0 (among d.name r.0 r.1 before y e))
