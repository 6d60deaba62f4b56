-- The bodies of the hooks of a field are ones of its unit that are run once.
use Rattle.std.specs.Prelude.{Bool, true, false, ◌&&◌, ◌||◌, ◌==◌, nat_eq, if◌then◌else◌, filter}
use Rattle.std.proofs.Common.{ℕ, ℤ, ◌≡◌, zero, suc, refl, sym, ap, ◌∙◌, arith, List, [], ◌∷◌, Option, Some, None, slice_get}
use Rattle.std.proofs.lemmas.Bool.{and_parts}
use Rattle.std.proofs.lemmas.Bool.Decides.{nat_tests}
use Rattle.sp_ast.specs.Trees.{Tree, absent, row, node, none, more}
use Rattle.sp_ast.specs.declared.forms.Form.TheVariants as form_is
use Rattle.sp_types.specs.Types.{Ty}
use Rattle.sp_typed.specs.Exprs.{Expr}
use Rattle.sp_typed_units.specs.declared.declarations.Hook.{Hook}
use Rattle.sp_typed_units.specs.declared.declarations.HookOf.{HookOf}
use Rattle.sp_typed_units.specs.declared.declarations.HookOf.TheVariants as of_is
use Rattle.sp_typed_units.specs.declared.declarations.Parameter.{Parameter}
use Rattle.sp_typed_units.specs.declared.declarations.Typed.{Typed}
use Rattle.sp_type_context.specs.Contexts.{Around}
use Rattle.sp_type_functions.specs.Events.{is_of_elements}
use Rattle.sp_type_hooks.specs.Hooks.{seen_by, parameters_of, site_of, hook_in, typed_hooks}
use Rattle.sp_typed_units.specs.Hooks.{unit_of}
use Rattle.sp_type_hook_order.specs.declared.keys.HookKey.{HookKey}
use Rattle.sp_type_hook_order.specs.declared.keys.HookKey.TheVariants as key_is
use Rattle.sp_type_hook_order.specs.Order.{run_order}
use Rattle.sp_type_hook_order.specs.Keys.{parts_of, are_same, hangs_on, key_at as key_of_hook}
use Rattle.sp_type_hook_rows.specs.declared.sites.Holder.{Holder}
use Rattle.sp_type_hook_rows.specs.declared.sites.Holder.TheVariants as holder_is
use Rattle.sp_type_hook_rows.specs.declared.sites.Site.{Site}
use Rattle.sp_type_hook_rows.specs.declared.rows.HookRow.{HookRow}
use Rattle.sp_type_hook_rows.specs.HookRows.{field_number, key_of, keys_of}
use Rattle.sp_type_hook_rows.specs.Tests.{are_equal}
use Rattle.sp_type_hook_rows.specs.Places.{member_key, field_key, holder_key, earlier, if_at, key_at}
use Rattle.sp_type_units.specs.Fields.{hooks_by}
use Rattle.sp_law_lists.proofs.known_types_lemmas.Full.{never}
use Rattle.sp_law_lists.proofs.whole_list_lemmas.Modules.{none_found, some_found}
use Rattle.sp_law_lists.proofs.known_constants_lemmas.Declarations.{AllOf}
use Rattle.sp_law_lists.proofs.known_hooks_lemmas.Lists.{of_written}
use Rattle.sp_meaning_states.specs.Scopes.{is_among}
use Rattle.sp_law_lists.specs.fit_list.Stored.{type_for}
use Rattle.sp_law_lists.specs.fit_list.Units.{is_read, is_own, value_is, body_passes, bodies_pass}
use Rattle.sp_law_lists.proofs.passing_list_lemmas.Seen.{equal_itself}
use Rattle.sp_law_lists.proofs.passing_list_lemmas.FirstNames.{or_right}

pub same_numbers : (m n : ℕ) → nat_eq m n ≡ true → m ≡ n
same_numbers m n e = grind (arith, nat_tests)

-- what the hooks of a field of a unit hang on
abbrev pub is_of_field : ℕ → HookKey → Bool
is_of_field n (key_is.Member u k) = n == u
is_of_field n (key_is.Anonymous u place) = n == u
is_of_field n (key_is.Unit u name) = false

member_own : (n place : ℕ) (o : Option ℕ) (k : ℕ × HookKey) → member_key n place o ≡ Some k → is_of_field n k.1 ≡ true
member_own n place None k e = none_found k e
member_own n place (Some j) k e = ap (λ (x : ℕ × HookKey). is_of_field n x.1) (sym (some_found (place, key_is.Member n j) k e)) ∙ equal_itself n

anonymous_own : (n place : ℕ) (k : ℕ × HookKey) → Some (place, key_is.Anonymous n place) ≡ Some k → is_of_field n k.1 ≡ true
anonymous_own n place k e = ap (λ (x : ℕ × HookKey). is_of_field n x.1) (sym (some_found (place, key_is.Anonymous n place) k e)) ∙ equal_itself n

pub field_own : (list : List Tree) (n : ℕ) (t : Tree) (k : ℕ × HookKey) → field_key list n t ≡ Some k → is_of_field n k.1 ≡ true
field_own list n (node form_is.Field span (more (node (form_is.Name x) s us) ts)) k e = member_own n s.from (field_number list n x) k e
field_own list n (node form_is.Field span (more (node _ s us) ts)) k e = anonymous_own n span.from k e
field_own list n (node form_is.Field span (more absent ts)) k e = anonymous_own n span.from k e
field_own list n (node form_is.Field span (more (row us) ts)) k e = anonymous_own n span.from k e
field_own list n (node form_is.Field span none) k e = none_found k e
field_own list n (node _ span ts) k e = none_found k e
field_own list n absent k e = none_found k e
field_own list n (row ts) k e = none_found k e

holder_own : (list : List Tree) (n : ℕ) (h : Holder) (k : ℕ × HookKey) → holder_key list n h ≡ Some k → is_of_field n k.1 ≡ true
holder_own list n (holder_is.Field t) k e = field_own list n t k e
holder_own list n (holder_is.Declaration t) k e = none_found k e
holder_own list n (holder_is.Item t) k e = none_found k e

-- what is found at a place of a unit is of a field of the unit
place_own : (list : List Tree) (n place : ℕ) (ss : List Site) (key : HookKey) → key_at list (n, place) ss ≡ Some key → is_of_field n key ≡ true
place_own list n place [] key e = none_found key e
place_own list n place (s ∷ ss) key e = by (holder_key list s.unit s.holder) refl e (place_own list n place ss key)
  where
    at : (k : ℕ × HookKey) → holder_key list s.unit s.holder ≡ Some k → (b : Bool) → are_equal (s.unit, k.0) (n, place) ≡ b → earlier (if b then Some k.1 else None) (key_at list (n, place) ss) ≡ Some key → (key_at list (n, place) ss ≡ Some key → is_of_field n key ≡ true) → is_of_field n key ≡ true
    at k is true same e later =
        let unit = same_numbers s.unit n (and_parts (nat_eq s.unit n) (nat_eq k.0 place) same).0 in
        ap (is_of_field n) (sym (some_found k.1 key e)) ∙ ap (λ u. is_of_field u k.1) (sym unit) ∙ holder_own list s.unit s.holder k is
    at k is false same e later = later e

    by : (o : Option (ℕ × HookKey)) → holder_key list s.unit s.holder ≡ o → earlier (if_at (n, place) s.unit o) (key_at list (n, place) ss) ≡ Some key → (key_at list (n, place) ss ≡ Some key → is_of_field n key ≡ true) → is_of_field n key ≡ true
    by None is e later = later e
    by (Some k) is e later = at k is (are_equal (s.unit, k.0) (n, place)) refl e later

-- so is what hangs on the same
pub same_field : (n : ℕ) (a b : HookKey) → are_same (parts_of a) (parts_of b) ≡ true → is_of_field n a ≡ true → is_of_field n b ≡ true
same_field n (key_is.Member u k) (key_is.Member w j) e own =
    let unit = same_numbers u w (and_parts (nat_eq u w) (nat_eq k j) e).0 in
    ap (λ i. n == i) (sym unit) ∙ own
same_field n (key_is.Anonymous u k) (key_is.Anonymous w j) e own =
    let unit = same_numbers u w (and_parts (nat_eq u w) (nat_eq k j) e).0 in
    ap (λ i. n == i) (sym unit) ∙ own
same_field n (key_is.Unit u name) b e own = never own
same_field n (key_is.Member u k) (key_is.Anonymous w j) e own = never e
same_field n (key_is.Member u k) (key_is.Unit w name) e own = never e
same_field n (key_is.Anonymous u k) (key_is.Member w j) e own = never e
same_field n (key_is.Anonymous u k) (key_is.Unit w name) e own = never e

anonymous_row : (n u : ℕ) (place : Option ℕ) (key : HookKey) → key_of (of_is.Anonymous u) place ≡ Some key → is_of_field n key ≡ true → (n == u) ≡ true
anonymous_row n u None key e own = none_found key e
anonymous_row n u (Some place) key e own = ap (is_of_field n) (some_found (key_is.Anonymous u place) key e) ∙ own

row_own : (n : ℕ) (of : HookOf) (place : Option ℕ) (key : HookKey) → key_of of place ≡ Some key → is_of_field n key ≡ true → is_of_elements of ≡ false → is_own n of ≡ true
row_own n of_is.Nothing place key e own once = none_found key e
row_own n (of_is.Unit u name) place key e own once = never (ap (is_of_field n) (some_found (key_is.Unit u name) key e) ∙ own)
row_own n (of_is.Field u k) place key e own once = ap (is_of_field n) (some_found (key_is.Member u k) key e) ∙ own
row_own n (of_is.Elements u k) place key e own once = never (sym once)
row_own n (of_is.Anonymous u) place key e own once = anonymous_row n u place key e own
row_own n (of_is.AnonymousElements u) place key e own once = never (sym once)

-- bodies that hang on something have rows that hang on the same
filtered : (p : ℕ → Bool) (xs : List ℕ) → AllOf (λ i. p i ≡ true) (filter p xs)
filtered p [] = tt
filtered p (x ∷ xs) = by (p x) refl (filtered p xs)
  where
    by : (b : Bool) → p x ≡ b → AllOf (λ i. p i ≡ true) (filter p xs) → AllOf (λ i. p i ≡ true) (if b then x ∷ filter p xs else filter p xs)
    by true e all = (e, all)
    by false e all = all

keys_get : (rs : List HookRow) (h : ℕ) (o : Option HookRow) → slice_get rs h ≡ o → (on : ℕ × ℕ × ℕ) → hangs_on on (key_of_hook (keys_of rs) h) ≡ true → (r : HookRow) × (o ≡ Some r) × (hangs_on on (key_of r.of r.field) ≡ true)
keys_get [] h o is on e = never e
keys_get (r ∷ rs) zero o is on e = (r, sym is, e)
keys_get (r ∷ rs) (suc h) o is on e = keys_get rs h o is on e

hung_key : (on : ℕ × ℕ × ℕ) (o : Option HookKey) → hangs_on on o ≡ true → (key : HookKey) × (o ≡ Some key) × (are_same on (parts_of key) ≡ true)
hung_key on None e = never e
hung_key on (Some key) e = (key, refl, e)

module _ (rows : List HookRow) where
  -- the row of a body, and what it hangs on
  pub record IsHung (on : HookKey) (h : ℕ) : Type 0 where
    pub row_ : HookRow
    pub stands : slice_get rows h ≡ Some row_
    pub key : HookKey
    pub is_key : key_of row_.of row_.field ≡ Some key
    pub same : are_same (parts_of on) (parts_of key) ≡ true

  abbrev pub IsHungOn : Option HookKey → ℕ → Type 0
  IsHungOn o h = (on : HookKey) × (o ≡ Some on) × IsHung on h

  one_hung : (on : HookKey) (h : ℕ) → hangs_on (parts_of on) (key_of_hook (keys_of rows) h) ≡ true → IsHung on h
  one_hung on h e =
      let r = keys_get rows h (slice_get rows h) refl (parts_of on) e in
      let k = hung_key (parts_of on) (key_of r.0.of r.0.field) r.2 in
      record { row_ = r.0; stands = r.1; key = k.0; is_key = k.1; same = k.2 }

  all_hung : (on : HookKey) (hs : List ℕ) → AllOf (λ h. hangs_on (parts_of on) (key_of_hook (keys_of rows) h) ≡ true) hs → AllOf (IsHungOn (Some on)) hs
  all_hung on [] all = tt
  all_hung on (h ∷ hs) all = ((on, refl, one_hung on h all.0), all_hung on hs all.1)

  pub hung : (ranks : List ℤ) (o : Option HookKey) → AllOf (IsHungOn o) (hooks_by (keys_of rows, ranks) o)
  hung ranks None = tt
  hung ranks (Some on) =
      let p = λ (h : ℕ). hangs_on (parts_of on) (key_of_hook (keys_of rows) h) in
      all_hung on (filter p (run_order ranks)) (filtered p (run_order ranks))

-- the hook of a row
module _ (contexts : List Around) (ranks : Expr → Option ℤ) (f : ℕ × ℕ × ℕ → Option Ty × Option Ty) (units : List (List Parameter)) where
  of_row : (r : HookRow) (o : Option Around) → (hook_in o ranks units r (seen_by f r)).of ≡ r.of
  of_row r None = refl
  of_row r (Some g) = of_written g ranks (site_of (seen_by f r) r) (parameters_of units (unit_of r.of)) r.hook r.body

  pub hook_there : (rs : List HookRow) (h : ℕ) (r : HookRow) → slice_get rs h ≡ Some r → (x : Hook) × (slice_get (typed_hooks contexts ranks f units rs) h ≡ Some x) × (x.of ≡ r.of)
  hook_there [] h r e = none_found r e
  hook_there (y ∷ rs) zero r e = (hook_in (slice_get contexts y.«module») ranks units y (seen_by f y), refl, of_row y (slice_get contexts y.«module») ∙ ap (λ (z : HookRow). z.of) (some_found y r e))
  hook_there (y ∷ rs) (suc h) r e = hook_there rs h r e

module _ (list : List Tree) (ss : List Site) (rows : List HookRow) (once : (h : ℕ) (r : HookRow) → slice_get rows h ≡ Some r → is_of_elements r.of ≡ false) (t : Typed) (hook_of : (h : ℕ) (r : HookRow) → slice_get rows h ≡ Some r → (x : Hook) × (slice_get t.hooks h ≡ Some x) × (x.of ≡ r.of)) (n place : ℕ) (signed : Bool) (ty : Ty)
    (reads : is_read signed ty ≡ true) where
  one_passes : (h : ℕ) → IsHungOn rows (key_at list (n, place) ss) h → type_for t h ≡ Some ty → body_passes (slice_get t.hooks h) (type_for t h) n signed ≡ true
  one_passes h hung_on sees =
      let on = hung_on.0 in
      let it = hung_on.2 in
      let own = same_field n on it.key it.same (place_own list n place ss on hung_on.1) in
      let x = hook_of h it.row_ it.stands in
      let of_unit : is_own n x.0.of ≡ true = ap (is_own n) x.2 ∙ row_own n it.row_.of it.row_.field it.key it.is_key own (once h it.row_ it.stands) in
      ap (λ o. body_passes o (type_for t h) n signed) x.1 ∙ ap (λ b. b && value_is (type_for t h) signed) of_unit ∙ ap (λ o. value_is o signed) sees ∙ reads

  -- The bodies of a field that see what it stores pass.
  pub bodies_so : (hs : List ℕ) → AllOf (IsHungOn rows (key_at list (n, place) ss)) hs → ((h : ℕ) → is_among h hs ≡ true → type_for t h ≡ Some ty) → bodies_pass t n signed hs ≡ true
  bodies_so [] all sees = refl
  bodies_so (h ∷ hs) all sees =
      let here : is_among h (h ∷ hs) ≡ true = ap (λ b. b || is_among h hs) (equal_itself h) in
      ap (λ b. b && bodies_pass t n signed hs) (one_passes h all.0 (sees h here)) ∙ bodies_so hs all.1 (λ i e. sees i (or_right (i == h) (is_among i hs) e))
