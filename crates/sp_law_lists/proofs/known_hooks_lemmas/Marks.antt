-- What hooks see of their fields: a value of a full type where each field stores one, and an element of one where each field with
-- brackets has such elements.
use Rattle.std.specs.Prelude.{nat_eq, ◌&&◌, ◌||◌, if◌then◌else◌, is_some}
use Rattle.std.proofs.Common.{ℕ, ◌≡◌, Bool, true, false, refl, ap, ◌∙◌, arith, List, [], ◌∷◌, ◌++◌, Option, Some, None, slice_get}
use Rattle.std.proofs.lemmas.Bool.{and_parts, and_from}
use Rattle.std.proofs.lemmas.Bool.Decides.{nat_tests}
use Rattle.sp_ast.specs.Trees.{Tree}
use Rattle.sp_types.specs.Types.{Ty}
use Rattle.sp_names.specs.Types.{or_unknown}
use Rattle.sp_type_context.specs.Contexts.{Around}
use Rattle.sp_type_fields.specs.Values.{Values}
use Rattle.sp_type_hook_order.specs.Keys.{are_same}
use Rattle.sp_type_hook_rows.specs.declared.sites.Holder.{Holder}
use Rattle.sp_type_hook_rows.specs.declared.sites.Holder.TheVariants as holder_is
use Rattle.sp_type_hook_rows.specs.declared.sites.Site.{Site}
use Rattle.sp_type_hook_rows.specs.Places.{holder_key}
use Rattle.sp_type_hooks.specs.Fields.{types_in, holder_types, is_container, holds_container, mark_of, key_in, site_mark, hangs, earlier, if_marked, first_stored, added, elements_of, some_differ, one_of}
use Rattle.sp_law_lists.specs.known_types.Full.{is_full}
use Rattle.sp_law_lists.proofs.known_types_lemmas.Full.{never}
use Rattle.sp_law_lists.proofs.whole_list_lemmas.Modules.{none_found}
use Rattle.sp_law_lists.proofs.known_constants_lemmas.Declarations.{AllOf}

-- what stands at a place stores a value of a full type, if it is a field, and has elements of one, if it has brackets
abbrev pub HolderFull : List Around → Values → ℕ → Holder → Type 0
HolderFull contexts v n (holder_is.Field t) =
    (is_full (types_in (slice_get contexts n) v t).stored ≡ true) × (is_container t ≡ true → is_full (types_in (slice_get contexts n) v t).element ≡ true)
HolderFull contexts v n _ = Unit {0}

abbrev pub SiteFull : List Around → Values → Site → Type 0
SiteFull contexts v s = HolderFull contexts v s.unit s.holder

-- whether some field has a mark
abbrev pub is_marked : ℕ × ℕ × ℕ → Option (ℕ × ℕ × ℕ) → Bool
is_marked x None = false
is_marked x (Some y) = are_same y x

abbrev pub some_marked : List Tree → ℕ × ℕ × ℕ → List Site → Bool
some_marked list x [] = false
some_marked list x (s ∷ ss) = is_marked x (site_mark list s) || some_marked list x ss

same_number : (n : ℕ) → nat_eq n n ≡ true
same_number n = grind (arith, nat_tests)

same_mark : (x : ℕ × ℕ × ℕ) → are_same x x ≡ true
same_mark x =
    and_from (nat_eq x.0 x.0 && nat_eq x.1 x.1) (nat_eq x.2 x.2) (and_from (nat_eq x.0 x.0) (nat_eq x.1 x.1) (same_number x.0) (same_number x.1)) (same_number x.2)

or_left : (a b : Bool) → a ≡ true → (a || b) ≡ true
or_left true b e = refl
or_left false b e = never e

or_right : (a b : Bool) → b ≡ true → (a || b) ≡ true
or_right true b e = refl
or_right false b e = e

-- among more places
pub marked_behind : (list : List Tree) (x : ℕ × ℕ × ℕ) (xs ys : List Site) → some_marked list x ys ≡ true → some_marked list x (xs ++ ys) ≡ true
marked_behind list x [] ys e = e
marked_behind list x (s ∷ xs) ys e = or_right (is_marked x (site_mark list s)) (some_marked list x (xs ++ ys)) (marked_behind list x xs ys e)

pub marked_before : (list : List Tree) (x : ℕ × ℕ × ℕ) (xs ys : List Site) → some_marked list x xs ≡ true → some_marked list x (xs ++ ys) ≡ true
marked_before list x [] ys e = never e
marked_before list x (s ∷ xs) ys e = by (is_marked x (site_mark list s)) e (marked_before list x xs ys)
  where
    by : (b : Bool) → (b || some_marked list x xs) ≡ true → (some_marked list x xs ≡ true → some_marked list x (xs ++ ys) ≡ true) → (b || some_marked list x (xs ++ ys)) ≡ true
    by true e behind = refl
    by false e behind = behind e

pub marked_here : (list : List Tree) (x : ℕ × ℕ × ℕ) (s : Site) (ss : List Site) → site_mark list s ≡ Some x → some_marked list x (s ∷ ss) ≡ true
marked_here list x s ss e = or_left (is_marked x (site_mark list s)) (some_marked list x ss) (ap (is_marked x) e ∙ same_mark x)

module _ (list : List Tree) (contexts : List Around) (v : Values) where
  holder_full : (n : ℕ) (h : Holder) (y : ℕ × ℕ × ℕ) → mark_of (key_in (holder_key list n h)) ≡ Some y → HolderFull contexts v n h → is_full (holder_types contexts v n h).stored ≡ true
  holder_full n (holder_is.Declaration t) y e full = none_found y e
  holder_full n (holder_is.Item t) y e full = none_found y e
  holder_full n (holder_is.Field t) y e full = full.0

  -- what the first field of a mark stores
  pub record IsFirst (x : ℕ × ℕ × ℕ) (ss : List Site) : Type 0 where
    pub ty : Ty
    pub is : first_stored list contexts v x ss ≡ Some ty
    pub full : is_full ty ≡ true

  pub first_there : (x : ℕ × ℕ × ℕ) (ss : List Site) → AllOf (SiteFull contexts v) ss → some_marked list x ss ≡ true → IsFirst x ss
  first_there x [] all e = never e
  first_there x (s ∷ ss) all e = by_mark (site_mark list s) refl e (first_there x ss all.1)
    where
      by_same : (y : ℕ × ℕ × ℕ) → site_mark list s ≡ Some y → (b : Bool) → are_same y x ≡ b → (b || some_marked list x ss) ≡ true → (some_marked list x ss ≡ true → IsFirst x ss) → IsFirst x (s ∷ ss)
      by_same y is true same e behind =
          let t = (holder_types contexts v s.unit s.holder).stored in
          record {
            ty = t;
            is = ap (λ o. earlier (if_marked x o t) (first_stored list contexts v x ss)) is ∙ ap (λ b. earlier (if b then Some t else None) (first_stored list contexts v x ss)) same;
            full = holder_full s.unit s.holder y is all.0;
          }
      by_same y is false same e behind =
          let t = (holder_types contexts v s.unit s.holder).stored in
          let rest = behind e in
          record {
            ty = rest.ty;
            is = ap (λ o. earlier (if_marked x o t) (first_stored list contexts v x ss)) is ∙ ap (λ b. earlier (if b then Some t else None) (first_stored list contexts v x ss)) same ∙ rest.is;
            full = rest.full;
          }

      by_mark : (o : Option (ℕ × ℕ × ℕ)) → site_mark list s ≡ o → (is_marked x o || some_marked list x ss) ≡ true → (some_marked list x ss ≡ true → IsFirst x ss) → IsFirst x (s ∷ ss)
      by_mark None is e behind =
          let t = (holder_types contexts v s.unit s.holder).stored in
          let rest = behind e in
          record { ty = rest.ty; is = ap (λ o. earlier (if_marked x o t) (first_stored list contexts v x ss)) is ∙ rest.is; full = rest.full }
      by_mark (Some y) is e behind = by_same y is (are_same y x) refl e behind

  -- what elements are
  abbrev AreFull : List Ty → Type 0
  AreFull ts = AllOf (λ t. is_full t ≡ true) ts

  added_full : (b : Bool) (t : Ty) (ts : List Ty) → (b ≡ true → is_full t ≡ true) → AreFull ts → AreFull (added b t ts)
  added_full true t ts full all = (full refl, all)
  added_full false t ts full all = all

  holder_element : (n : ℕ) (h : Holder) (c : Bool) → HolderFull contexts v n h → (holds_container h && c) ≡ true → is_full (holder_types contexts v n h).element ≡ true
  holder_element n (holder_is.Declaration t) c full e = never e
  holder_element n (holder_is.Item t) c full e = never e
  holder_element n (holder_is.Field t) c full e = full.1 (and_parts (is_container t) c e).0

  elements_full : (x : ℕ × ℕ × ℕ) (ss : List Site) → AllOf (SiteFull contexts v) ss → AreFull (elements_of list contexts v x ss)
  elements_full x [] all = tt
  elements_full x (s ∷ ss) all =
      let here = hangs x (site_mark list s) in
      added_full (holds_container s.holder && here) (holder_types contexts v s.unit s.holder).element (elements_of list contexts v x ss) (holder_element s.unit s.holder here all.0) (elements_full x ss all.1)

  one_full : (ts : List Ty) → AreFull ts → is_some (one_of ts) ≡ true → is_full (or_unknown (one_of ts)) ≡ true
  one_full [] all e = never e
  one_full (t ∷ ts) all e = by (some_differ t ts) e
    where
      by : (b : Bool) → is_some (if b then None else Some t) ≡ true → is_full (or_unknown (if b then None else Some t)) ≡ true
      by true e = never e
      by false e = all.0

  pub element_full : (x : ℕ × ℕ × ℕ) (ss : List Site) → AllOf (SiteFull contexts v) ss → is_some (one_of (elements_of list contexts v x ss)) ≡ true → is_full (or_unknown (one_of (elements_of list contexts v x ss))) ≡ true
  element_full x ss all e = one_full (elements_of list contexts v x ss) (elements_full x ss all) e
