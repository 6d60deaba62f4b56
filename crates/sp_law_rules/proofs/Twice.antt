-- The walk that finds names twice, by numbers of members, finds those that come twice by their ways.
use Rattle.std.specs.Prelude.{◌==◌, not, ◌&&◌, ◌||◌, if◌then◌else◌, filter}
use Rattle.std.specs.List.{list_any}
use Rattle.std.specs.Str.{bytes_eq}
use Rattle.std.proofs.Common.{ℕ, ◌≡◌, ◌<◌, ◌≤◌, ◌+◌, suc, Bool, true, false, refl, sym, ap, subst, ◌∙◌, arith, List, [], ◌∷◌, ◌++◌, map, append_assoc, append-nil, Option, Some, None}
use Rattle.std.proofs.lemmas.Bool.Decides.{nat_tests}
use Rattle.std.proofs.lemmas.Slice.Eq.{bytes_eq-Decides}
use Rattle.sp_base.specs.declared.places.Span.{Span}
use Rattle.sp_ast.specs.Trees.{Tree, Trees, row, node, none, more, span_of}
use Rattle.sp_ast.specs.declared.forms.Form.TheVariants as form_is
use Rattle.sp_ast.specs.declared.forms.ItemForm.TheVariants as item_is
use Rattle.sp_ast.specs.declared.forms.PartForm.TheVariants as part_is
use Rattle.sp_ast.specs.declared.forms.BodyForm.TheVariants as body_is
use Rattle.sp_types.specs.Types.{Ty}
use Rattle.sp_names.specs.Declarations.{name_of}
use Rattle.sp_type_modules.specs.Members.{unit_items}
use Rattle.sp_type_modules.specs.Heads.{unit_parameters}
use Rattle.sp_type_modules.specs.Sources.{Named, has_name, firsts, numbered}
use Rattle.sp_type_modules.specs.Sources as sources
use Rattle.sp_type_modules.specs.declared.sources.Source.{Source}
use Rattle.sp_type_modules.specs.declared.sources.Source.TheVariants as source_is
use Rattle.sp_type_modules.specs.Taken.{Kept, has, differ, differs, with_number, with_kept, has_number, number_differs, numbers_of, kept_as, kept_of, field_taken, taken_in, taken_among, taken_arms, parameter_name, parameter_numbers, member_number, taken_places}
use Rattle.sp_law_rules.specs.Names.{Step, item, arm, Declared, declared, declared_field, declared_in, declared_in_row, declared_in_arms, are_parted, store_apart, may_come_again, comes_twice, place_if, twice_behind, declared_parameters}

-- Booleans
and_false : (a : Bool) → (a && false) ≡ false
and_false true = refl
and_false false = refl

and_true : (a : Bool) → (a && true) ≡ a
and_true true = refl
and_true false = refl

or_false : (a : Bool) → (a || false) ≡ a
or_false true = refl
or_false false = refl

or_assoc : (a b c : Bool) → ((a || b) || c) ≡ (a || (b || c))
or_assoc true b c = refl
or_assoc false b c = refl

-- it is near or differs: it doesn't stand apart with the same type
near_or_differs : (n a d : Bool) → ((n && not a) || (n && d)) ≡ (n && not (a && not d))
near_or_differs false a d = refl
near_or_differs true false d = refl
near_or_differs true true true = refl
near_or_differs true true false = refl

same_number : (i : ℕ) → (i == i) ≡ true
same_number i = grind (arith, nat_tests)

other_number : (i j : ℕ) → i < j → (i == j) ≡ false
other_number i j lt = grind (arith, nat_tests)

same_bytes : (x : List ℕ) → bytes_eq x x ≡ true
same_bytes x = (bytes_eq-Decides x x).1 refl

equal_bytes : (x y : List ℕ) → bytes_eq x y ≡ true → x ≡ y
equal_bytes x y e = (bytes_eq-Decides x y).0 e

-- lists
abbrev AllOf : {A : Type 0} → (A → Type 0) → List A → Type 0
AllOf P [] = Unit {0}
AllOf P (x ∷ xs) = P x × AllOf P xs

both_of : {A : Type 0} (P : A → Type 0) (xs ys : List A) → AllOf P xs → AllOf P ys → AllOf P (xs ++ ys)
both_of P [] ys h k = k
both_of P (x ∷ xs) ys h k = (h.0, both_of P xs ys h.1 k)

all_into : {A : Type 0} (P Q : A → Type 0) → ((x : A) → P x → Q x) → (xs : List A) → AllOf P xs → AllOf Q xs
all_into P Q f [] h = tt
all_into P Q f (x ∷ xs) h = (f x h.0, all_into P Q f xs h.1)

any_same : {A : Type 0} (p q : A → Bool) (xs : List A) → AllOf (λ x. p x ≡ q x) xs → list_any p xs ≡ list_any q xs
any_same p q [] h = refl
any_same p q (x ∷ xs) h = ap (λ b. b || list_any p xs) h.0 ∙ ap (λ b. q x || b) (any_same p q xs h.1)

every : {A : Type 0} (P : A → Type 0) → ((x : A) → P x) → (xs : List A) → AllOf P xs
every P f [] = tt
every P f (x ∷ xs) = (f x, every P f xs)

any_none : {A : Type 0} (xs : List A) → list_any (λ x. false) xs ≡ false
any_none [] = refl
any_none (x ∷ xs) = any_none xs

any_append : {A : Type 0} (p : A → Bool) (xs ys : List A) → list_any p (xs ++ ys) ≡ (list_any p xs || list_any p ys)
any_append p [] ys = refl
any_append p (x ∷ xs) ys = ap (λ b. p x || b) (any_append p xs ys) ∙ sym (or_assoc (p x) (list_any p xs) (list_any p ys))

any_or : {A : Type 0} (p q : A → Bool) (xs : List A) → (list_any p xs || list_any q xs) ≡ list_any (λ x. p x || q x) xs
any_or p q [] = refl
any_or p q (x ∷ xs) = swap (p x) (q x) (list_any p xs) (list_any q xs) ∙ ap (λ b. (p x || q x) || b) (any_or p q xs)
  where
    swap : (a b c d : Bool) → ((a || c) || (b || d)) ≡ ((a || b) || (c || d))
    swap true b c d = refl
    swap false true c d = by c
      where
        by : (c : Bool) → (c || true) ≡ true
        by true = refl
        by false = refl
    swap false false c d = refl

-- ways
parted_common : (w a b : List Step) → are_parted (w ++ a) (w ++ b) ≡ are_parted a b
parted_common [] a b = refl
parted_common (item i ∷ w) a b = ap (λ c. c && are_parted (w ++ a) (w ++ b)) (same_number i) ∙ parted_common w a b
parted_common (arm i ∷ w) a b = ap (λ c. not c || are_parted (w ++ a) (w ++ b)) (same_number i) ∙ parted_common w a b

items_together : (w u v : List Step) (j k : ℕ) → j < k → are_parted (w ++ item j ∷ u) ((w ++ item k ∷ []) ++ v) ≡ false
items_together w u v j k lt =
    ap (are_parted (w ++ item j ∷ u)) (append_assoc w (item k ∷ []) v)
    ∙ parted_common w (item j ∷ u) (item k ∷ v)
    ∙ ap (λ c. c && are_parted u v) (other_number j k lt)

arms_apart : (w u v : List Step) (j k : ℕ) → j < k → are_parted (w ++ arm j ∷ u) ((w ++ arm k ∷ []) ++ v) ≡ true
arms_apart w u v j k lt =
    ap (are_parted (w ++ arm j ∷ u)) (append_assoc w (arm k ∷ []) v)
    ∙ parted_common w (arm j ∷ u) (arm k ∷ v)
    ∙ ap (λ c. not c || are_parted u v) (other_number j k lt)

abbrev Under : List Step → Declared → Type 0
Under w d = (u : List Step) × (d.way ≡ w ++ u)

-- a name of an item before the one of a number, and one of an arm before
abbrev InItem : List Step → ℕ → Declared → Type 0
InItem w k d = (j : ℕ) × (u : List Step) × (d.way ≡ w ++ item j ∷ u) × (j < k)

abbrev InArm : List Step → ℕ → Declared → Type 0
InArm w k d = (j : ℕ) × (u : List Step) × (d.way ≡ w ++ arm j ∷ u) × (j < k)

-- whether a name's way is apart from all ways that begin with one is seen at that
abbrev Settled : List Step → Declared → Type 0
Settled w d = (v : List Step) → are_parted d.way (w ++ v) ≡ are_parted d.way w

settled_on : (w : List Step) (s : Step) (d : Declared) → Settled w d → Settled (w ++ s ∷ []) d
settled_on w s d h v = ap (are_parted d.way) (append_assoc w (s ∷ []) v) ∙ h (s ∷ v) ∙ sym (h (s ∷ []))

item_way : (w v : List Step) (k : ℕ) (d : Declared) → InItem w k d → are_parted d.way ((w ++ item k ∷ []) ++ v) ≡ false
item_way w v k d h = ap (λ x. are_parted x ((w ++ item k ∷ []) ++ v)) h.2 ∙ items_together w h.1 v h.0 k h.3

item_here : (w : List Step) (k : ℕ) (d : Declared) → InItem w k d → are_parted d.way (w ++ item k ∷ []) ≡ false
item_here w k d h = ap (are_parted d.way) (sym (append-nil (w ++ item k ∷ []))) ∙ item_way w [] k d h

arm_way : (w v : List Step) (k : ℕ) (d : Declared) → InArm w k d → are_parted d.way ((w ++ arm k ∷ []) ++ v) ≡ true
arm_way w v k d h = ap (λ x. are_parted x ((w ++ arm k ∷ []) ++ v)) h.2 ∙ arms_apart w h.1 v h.0 k h.3

arm_here : (w : List Step) (k : ℕ) (d : Declared) → InArm w k d → are_parted d.way (w ++ arm k ∷ []) ≡ true
arm_here w k d h = ap (are_parted d.way) (sym (append-nil (w ++ arm k ∷ []))) ∙ arm_way w [] k d h

abbrev is_number : ℕ → Option ℕ → Bool
is_number k None = false
is_number k (Some j) = j == k

abbrev same_as : Option ℕ → Option ℕ → Bool
same_as None o = false
same_as (Some k) o = is_number k o

module _ (N : List ℕ → Option ℕ) (type_at : Tree → Ty) where
  abbrev numbered_as : ℕ → Declared → Bool
  numbered_as k d = is_number k (N d.name)

  abbrev stored_apart : ℕ → Ty → Declared → Bool
  stored_apart k t d = numbered_as k d && store_apart d.stores (Some t)

  abbrev near_at : ℕ → List Step → Declared → Bool
  near_at k w d = numbered_as k d && not (are_parted d.way w)

  -- the same by numbers
  abbrev twice_as : Declared → Declared → Bool
  twice_as d e = same_as (N e.name) (N d.name) && not (may_come_again d e)

  abbrev twice_by : List Declared → List Declared → List Span
  twice_by before [] = []
  twice_by before (e ∷ es) = place_if (list_any (λ d. twice_as d e) before) e.span ++ twice_by (before ++ e ∷ []) es

  twice_append : (before xs ys : List Declared) → twice_by before (xs ++ ys) ≡ twice_by before xs ++ twice_by (before ++ xs) ys
  twice_append before [] ys = ap (λ l. twice_by l ys) (sym (append-nil before))
  twice_append before (x ∷ xs) ys =
      let here = place_if (list_any (λ d. twice_as d x) before) x.span in
      ap (λ l. here ++ l) (twice_append (before ++ x ∷ []) xs ys ∙ ap (λ l. twice_by (before ++ x ∷ []) xs ++ twice_by l ys) (append_assoc before (x ∷ []) xs))
      ∙ sym (append_assoc here (twice_by (before ++ x ∷ []) xs) (twice_by (before ++ (x ∷ xs)) ys))

  -- numbers and what is stored, of what is declared
  number_has : (k : ℕ) (o : Option ℕ) (ks : List ℕ) → has k (with_number o ks) ≡ (is_number k o || has k ks)
  number_has k None ks = refl
  number_has k (Some j) ks = refl

  numbers_append : (k : ℕ) (xs ys : List Named) → has k (numbers_of N type_at (xs ++ ys)) ≡ (has k (numbers_of N type_at xs) || has k (numbers_of N type_at ys))
  numbers_append k [] ys = refl
  numbers_append k (x ∷ xs) ys =
      number_has k (N x.name) (numbers_of N type_at (xs ++ ys))
      ∙ ap (λ b. is_number k (N x.name) || b) (numbers_append k xs ys)
      ∙ sym (or_assoc (is_number k (N x.name)) (has k (numbers_of N type_at xs)) (has k (numbers_of N type_at ys)))
      ∙ sym (ap (λ b. b || has k (numbers_of N type_at ys)) (number_has k (N x.name) (numbers_of N type_at xs)))

  has_append : (k : ℕ) (xs ys : List ℕ) → has k (xs ++ ys) ≡ (has k xs || has k ys)
  has_append k [] ys = refl
  has_append k (x ∷ xs) ys = ap (λ b. x == k || b) (has_append k xs ys) ∙ sym (or_assoc (x == k) (has k xs) (has k ys))

  differs_append : (k : ℕ) (t : Ty) (xs ys : List Kept) → differs k t (xs ++ ys) ≡ (differs k t xs || differs k t ys)
  differs_append k t [] ys = refl
  differs_append k t (x ∷ xs) ys =
      ap (λ b. (x.member == k && differ x.ty t) || b) (differs_append k t xs ys)
      ∙ sym (or_assoc (x.member == k && differ x.ty t) (differs k t xs) (differs k t ys))

  with_differs : (k : ℕ) (t s : Ty) (o : Option ℕ) (ks : List Kept) → differs k t (with_kept o s ks) ≡ ((is_number k o && differ s t) || differs k t ks)
  with_differs k t s None ks = refl
  with_differs k t s (Some j) ks = refl

  as_differs : (k : ℕ) (t : Ty) (o : Option ℕ) (s : Source) (ks ms : List Kept) → differs k t (kept_as N type_at o s (ks ++ ms)) ≡ (differs k t (kept_as N type_at o s ks) || differs k t ms)
  as_differs k t o (source_is.Field f) ks ms =
      with_differs k t (type_at f) o (ks ++ ms)
      ∙ ap (λ b. (is_number k o && differ (type_at f) t) || b) (differs_append k t ks ms)
      ∙ sym (or_assoc (is_number k o && differ (type_at f) t) (differs k t ks) (differs k t ms))
      ∙ sym (ap (λ b. b || differs k t ms) (with_differs k t (type_at f) o ks))
  as_differs k t o (source_is.Variable x) ks ms = differs_append k t ks ms
  as_differs k t o source_is.Sink ks ms = differs_append k t ks ms

  kept_append : (xs ys : List Named) → kept_of N type_at (xs ++ ys) ≡ kept_of N type_at xs ++ kept_of N type_at ys
  kept_append [] ys = refl
  kept_append (x ∷ xs) ys = ap (kept_as N type_at (N x.name) x.source) (kept_append xs ys) ∙ by (N x.name) x.source (kept_of N type_at xs) (kept_of N type_at ys)
    where
      by : (o : Option ℕ) (s : Source) (ks ms : List Kept) → kept_as N type_at o s (ks ++ ms) ≡ kept_as N type_at o s ks ++ ms
      by None (source_is.Field f) ks ms = refl
      by (Some k) (source_is.Field f) ks ms = refl
      by o (source_is.Variable x) ks ms = refl
      by o source_is.Sink ks ms = refl

  one_numbered : (k : ℕ) (x : List ℕ) (b : Bool) → b ≡ is_number k (N x) → has k (with_number (N x) []) ≡ (b || false)
  one_numbered k x b e = number_has k (N x) [] ∙ ap (λ c. c || false) (sym e)

  mutual
    in_numbers : (w : List Step) (t : Tree) (k : ℕ) → has k (numbers_of N type_at (sources.declared_in t)) ≡ list_any (numbered_as k) (declared_in type_at w t)
    in_numbers w (node (form_is.Item item_is.Variable) span (more name ts)) k = number_has k (N (name_of name)) []
    in_numbers w (node (form_is.Item item_is.Sink) span (more name ts)) k = number_has k (N (name_of name)) []
    in_numbers w (node (form_is.Item item_is.Part) span (more part ts)) k = in_numbers w part k
    in_numbers w (node (form_is.Part part_is.Field) span (more field ts)) k = field_numbers w field k
    in_numbers w (node (form_is.Part part_is.Switch) span (more subject (more (row arms) ts))) k = arms_numbers w 0 arms k
    in_numbers w (node form_is.Arm span (more guard (more body ts))) k = in_numbers w body k
    in_numbers w (node (form_is.Body body_is.One) span ts) k = row_numbers w 0 ts k
    in_numbers w (node (form_is.Body body_is.Many) span ts) k = row_numbers w 0 ts k
    in_numbers w _ k = refl

    field_numbers : (w : List Step) (t : Tree) (k : ℕ) → has k (numbers_of N type_at (sources.field_named t)) ≡ list_any (numbered_as k) (declared_field type_at w t)
    field_numbers w (node form_is.Field span (more (node (form_is.Name x) s us) ts)) k = number_has k (N x) []
    field_numbers w _ k = refl

    row_numbers : (w : List Step) (i : ℕ) (ts : Trees) (k : ℕ) → has k (numbers_of N type_at (sources.declared_among ts)) ≡ list_any (numbered_as k) (declared_in_row type_at w i ts)
    row_numbers w i none k = refl
    row_numbers w i (more t ts) k =
        numbers_append k (sources.declared_in t) (sources.declared_among ts)
        ∙ ap (λ b. b || has k (numbers_of N type_at (sources.declared_among ts))) (in_numbers (w ++ item i ∷ []) t k)
        ∙ ap (λ b. list_any (numbered_as k) (declared_in type_at (w ++ item i ∷ []) t) || b) (row_numbers w (suc i) ts k)
        ∙ sym (any_append (numbered_as k) (declared_in type_at (w ++ item i ∷ []) t) (declared_in_row type_at w (suc i) ts))

    arms_numbers : (w : List Step) (i : ℕ) (ts : Trees) (k : ℕ) → has k (numbers_of N type_at (sources.declared_among ts)) ≡ list_any (numbered_as k) (declared_in_arms type_at w i ts)
    arms_numbers w i none k = refl
    arms_numbers w i (more t ts) k =
        numbers_append k (sources.declared_in t) (sources.declared_among ts)
        ∙ ap (λ b. b || has k (numbers_of N type_at (sources.declared_among ts))) (in_numbers (w ++ arm i ∷ []) t k)
        ∙ ap (λ b. list_any (numbered_as k) (declared_in type_at (w ++ arm i ∷ []) t) || b) (arms_numbers w (suc i) ts k)
        ∙ sym (any_append (numbered_as k) (declared_in type_at (w ++ arm i ∷ []) t) (declared_in_arms type_at w (suc i) ts))

  no_field : (k : ℕ) (t : Ty) (x : List ℕ) → false ≡ ((is_number k (N x) && false) || false)
  no_field k t x = sym (or_false (is_number k (N x) && false) ∙ and_false (is_number k (N x)))

  mutual
    in_kept : (w : List Step) (t : Tree) (k : ℕ) (ty : Ty) → differs k ty (kept_of N type_at (sources.declared_in t)) ≡ list_any (stored_apart k ty) (declared_in type_at w t)
    in_kept w (node (form_is.Item item_is.Variable) span (more name ts)) k ty = no_field k ty (name_of name)
    in_kept w (node (form_is.Item item_is.Sink) span (more name ts)) k ty = no_field k ty (name_of name)
    in_kept w (node (form_is.Item item_is.Part) span (more part ts)) k ty = in_kept w part k ty
    in_kept w (node (form_is.Part part_is.Field) span (more field ts)) k ty = field_kept w field k ty
    in_kept w (node (form_is.Part part_is.Switch) span (more subject (more (row arms) ts))) k ty = arms_kept w 0 arms k ty
    in_kept w (node form_is.Arm span (more guard (more body ts))) k ty = in_kept w body k ty
    in_kept w (node (form_is.Body body_is.One) span ts) k ty = row_kept w 0 ts k ty
    in_kept w (node (form_is.Body body_is.Many) span ts) k ty = row_kept w 0 ts k ty
    in_kept w _ k ty = refl

    field_kept : (w : List Step) (t : Tree) (k : ℕ) (ty : Ty) → differs k ty (kept_of N type_at (sources.field_named t)) ≡ list_any (stored_apart k ty) (declared_field type_at w t)
    field_kept w (node form_is.Field span (more (node (form_is.Name x) s us) ts)) k ty =
        with_differs k ty (type_at (node form_is.Field span (more (node (form_is.Name x) s us) ts))) (N x) []
    field_kept w _ k ty = refl

    row_kept : (w : List Step) (i : ℕ) (ts : Trees) (k : ℕ) (ty : Ty) → differs k ty (kept_of N type_at (sources.declared_among ts)) ≡ list_any (stored_apart k ty) (declared_in_row type_at w i ts)
    row_kept w i none k ty = refl
    row_kept w i (more t ts) k ty =
        ap (differs k ty) (kept_append (sources.declared_in t) (sources.declared_among ts))
        ∙ differs_append k ty (kept_of N type_at (sources.declared_in t)) (kept_of N type_at (sources.declared_among ts))
        ∙ ap (λ b. b || differs k ty (kept_of N type_at (sources.declared_among ts))) (in_kept (w ++ item i ∷ []) t k ty)
        ∙ ap (λ b. list_any (stored_apart k ty) (declared_in type_at (w ++ item i ∷ []) t) || b) (row_kept w (suc i) ts k ty)
        ∙ sym (any_append (stored_apart k ty) (declared_in type_at (w ++ item i ∷ []) t) (declared_in_row type_at w (suc i) ts))

    arms_kept : (w : List Step) (i : ℕ) (ts : Trees) (k : ℕ) (ty : Ty) → differs k ty (kept_of N type_at (sources.declared_among ts)) ≡ list_any (stored_apart k ty) (declared_in_arms type_at w i ts)
    arms_kept w i none k ty = refl
    arms_kept w i (more t ts) k ty =
        ap (differs k ty) (kept_append (sources.declared_in t) (sources.declared_among ts))
        ∙ differs_append k ty (kept_of N type_at (sources.declared_in t)) (kept_of N type_at (sources.declared_among ts))
        ∙ ap (λ b. b || differs k ty (kept_of N type_at (sources.declared_among ts))) (in_kept (w ++ arm i ∷ []) t k ty)
        ∙ ap (λ b. list_any (stored_apart k ty) (declared_in type_at (w ++ arm i ∷ []) t) || b) (arms_kept w (suc i) ts k ty)
        ∙ sym (any_append (stored_apart k ty) (declared_in type_at (w ++ arm i ∷ []) t) (declared_in_arms type_at w (suc i) ts))

  -- all names in a tree stand under its way
  deeper : (w : List Step) (s : Step) (d : Declared) → Under (w ++ s ∷ []) d → (u : List Step) × (d.way ≡ w ++ s ∷ u)
  deeper w s d h = (h.0, h.1 ∙ append_assoc w (s ∷ []) h.0)

  here_under : (w : List Step) (d : Declared) → d.way ≡ w → Under w d
  here_under w d e = ([], e ∙ sym (append-nil w))

  further : (w : List Step) (s : Step) (d : Declared) → Under (w ++ s ∷ []) d → Under w d
  further w s d h = (let u = deeper w s d h in (s ∷ u.0, u.1))

  mutual
    in_under : (w : List Step) (t : Tree) → AllOf (Under w) (declared_in type_at w t)
    in_under w (node (form_is.Item item_is.Variable) span (more name ts)) = (([], sym (append-nil w)), tt)
    in_under w (node (form_is.Item item_is.Sink) span (more name ts)) = (([], sym (append-nil w)), tt)
    in_under w (node (form_is.Item item_is.Part) span (more part ts)) = in_under w part
    in_under w (node (form_is.Part part_is.Field) span (more field ts)) = field_under w field
    in_under w (node (form_is.Part part_is.Switch) span (more subject (more (row arms) ts))) = arms_under w 0 arms
    in_under w (node form_is.Arm span (more guard (more body ts))) = in_under w body
    in_under w (node (form_is.Body body_is.One) span ts) = row_under w 0 ts
    in_under w (node (form_is.Body body_is.Many) span ts) = row_under w 0 ts
    in_under w _ = tt

    field_under : (w : List Step) (t : Tree) → AllOf (Under w) (declared_field type_at w t)
    field_under w (node form_is.Field span (more (node (form_is.Name x) s us) ts)) = (([], sym (append-nil w)), tt)
    field_under w _ = tt

    row_under : (w : List Step) (i : ℕ) (ts : Trees) → AllOf (Under w) (declared_in_row type_at w i ts)
    row_under w i none = tt
    row_under w i (more t ts) =
        both_of (Under w) (declared_in type_at (w ++ item i ∷ []) t) (declared_in_row type_at w (suc i) ts)
        (all_into (Under (w ++ item i ∷ [])) (Under w) (further w (item i)) (declared_in type_at (w ++ item i ∷ []) t) (in_under (w ++ item i ∷ []) t))
        (row_under w (suc i) ts)

    arms_under : (w : List Step) (i : ℕ) (ts : Trees) → AllOf (Under w) (declared_in_arms type_at w i ts)
    arms_under w i none = tt
    arms_under w i (more t ts) =
        both_of (Under w) (declared_in type_at (w ++ arm i ∷ []) t) (declared_in_arms type_at w (suc i) ts)
        (all_into (Under (w ++ arm i ∷ [])) (Under w) (further w (arm i)) (declared_in type_at (w ++ arm i ∷ []) t) (in_under (w ++ arm i ∷ []) t))
        (arms_under w (suc i) ts)

  -- what the walk keeps of the names before a tree
  record Seen (near : List ℕ) (kept : List Kept) (w : List Step) (before : List Declared) : Type 0 where
    near_is : (k : ℕ) → has k near ≡ list_any (near_at k w) before
    kept_is : (k : ℕ) (t : Ty) → differs k t kept ≡ list_any (stored_apart k t) before
    settled : AllOf (Settled w) before

  -- in a row whose first items declare `sib`, behind `outer`
  record InRow (near : List ℕ) (kept : List Kept) (w : List Step) (i : ℕ) (outer sib : List Declared) : Type 0 where
    near_is : (k : ℕ) → has k near ≡ (list_any (near_at k w) outer || list_any (numbered_as k) sib)
    kept_is : (k : ℕ) (t : Ty) → differs k t kept ≡ list_any (stored_apart k t) (outer ++ sib)
    settled : AllOf (Settled w) outer
    below : AllOf (InItem w i) sib

  -- in arms of which the first declare `sib`, behind `outer`
  record InArms (near : List ℕ) (kept : List Kept) (w : List Step) (i : ℕ) (outer sib : List Declared) : Type 0 where
    near_is : (k : ℕ) → has k near ≡ list_any (near_at k w) outer
    kept_is : (k : ℕ) (t : Ty) → differs k t kept ≡ list_any (stored_apart k t) (outer ++ sib)
    settled : AllOf (Settled w) outer
    beside : AllOf (InArm w i) sib

  -- whether those outside are near is seen before a step more
  outer_near : (k : ℕ) (w : List Step) (s : Step) (outer : List Declared) → AllOf (Settled w) outer → list_any (near_at k w) outer ≡ list_any (near_at k (w ++ s ∷ [])) outer
  outer_near k w s outer h =
      any_same (near_at k w) (near_at k (w ++ s ∷ [])) outer
      (all_into (Settled w) (λ d. near_at k w d ≡ near_at k (w ++ s ∷ []) d) (λ d h. ap (λ b. numbered_as k d && not b) (sym (h (s ∷ [])))) outer h)

  row_seen : (near : List ℕ) (kept : List Kept) (w : List Step) (i : ℕ) (outer sib : List Declared) → InRow near kept w i outer sib → Seen near kept (w ++ item i ∷ []) (outer ++ sib)
  row_seen near kept w i outer sib h = record {
    near_is = λ k.
        h.near_is k
        ∙ ap (λ b. b || list_any (numbered_as k) sib) (outer_near k w (item i) outer h.settled)
        ∙ ap (λ b. list_any (near_at k (w ++ item i ∷ [])) outer || b) (any_same (numbered_as k) (near_at k (w ++ item i ∷ [])) sib
        (all_into (InItem w i) (λ d. numbered_as k d ≡ near_at k (w ++ item i ∷ []) d) (λ d b. sym (ap (λ c. numbered_as k d && not c) (item_here w i d b) ∙ and_true (numbered_as k d))) sib h.below))
        ∙ sym (any_append (near_at k (w ++ item i ∷ [])) outer sib);
    kept_is = h.kept_is;
    settled = both_of (Settled (w ++ item i ∷ [])) outer sib
        (all_into (Settled w) (Settled (w ++ item i ∷ [])) (settled_on w (item i)) outer h.settled)
        (all_into (InItem w i) (Settled (w ++ item i ∷ [])) (λ d b v. item_way w v i d b ∙ sym (item_here w i d b)) sib h.below);
  }

  arms_seen : (near : List ℕ) (kept : List Kept) (w : List Step) (i : ℕ) (outer sib : List Declared) → InArms near kept w i outer sib → Seen near kept (w ++ arm i ∷ []) (outer ++ sib)
  arms_seen near kept w i outer sib h = record {
    near_is = λ k.
        h.near_is k
        ∙ outer_near k w (arm i) outer h.settled
        ∙ sym (or_false (list_any (near_at k (w ++ arm i ∷ [])) outer))
        ∙ ap (λ b. list_any (near_at k (w ++ arm i ∷ [])) outer || b) (sym (any_none sib) ∙ any_same (λ d. false) (near_at k (w ++ arm i ∷ [])) sib
        (all_into (InArm w i) (λ d. false ≡ near_at k (w ++ arm i ∷ []) d) (λ d b. sym (ap (λ c. numbered_as k d && not c) (arm_here w i d b) ∙ and_false (numbered_as k d))) sib h.beside))
        ∙ sym (any_append (near_at k (w ++ arm i ∷ [])) outer sib);
    kept_is = h.kept_is;
    settled = both_of (Settled (w ++ arm i ∷ [])) outer sib
        (all_into (Settled w) (Settled (w ++ arm i ∷ [])) (settled_on w (arm i)) outer h.settled)
        (all_into (InArm w i) (Settled (w ++ arm i ∷ [])) (λ d b v. arm_way w v i d b ∙ sym (arm_here w i d b)) sib h.beside);
  }

  more_kept : (kept : List Kept) (outer sib : List Declared) (w : List Step) (t : Tree) → ((k : ℕ) (ty : Ty) → differs k ty kept ≡ list_any (stored_apart k ty) (outer ++ sib))
      → (k : ℕ) (ty : Ty) → differs k ty (kept ++ kept_of N type_at (sources.declared_in t)) ≡ list_any (stored_apart k ty) (outer ++ (sib ++ declared_in type_at w t))
  more_kept kept outer sib w t h k ty =
      differs_append k ty kept (kept_of N type_at (sources.declared_in t))
      ∙ ap (λ b. b || differs k ty (kept_of N type_at (sources.declared_in t))) (h k ty)
      ∙ ap (λ b. list_any (stored_apart k ty) (outer ++ sib) || b) (in_kept w t k ty)
      ∙ sym (any_append (stored_apart k ty) (outer ++ sib) (declared_in type_at w t))
      ∙ ap (list_any (stored_apart k ty)) (append_assoc outer sib (declared_in type_at w t))

  next_item : (near : List ℕ) (kept : List Kept) (w : List Step) (i : ℕ) (outer sib : List Declared) (t : Tree) → InRow near kept w i outer sib
      → InRow (near ++ numbers_of N type_at (sources.declared_in t)) (kept ++ kept_of N type_at (sources.declared_in t)) w (suc i) outer (sib ++ declared_in type_at (w ++ item i ∷ []) t)
  next_item near kept w i outer sib t h = record {
    near_is = λ k.
        has_append k near (numbers_of N type_at (sources.declared_in t))
        ∙ ap (λ b. b || has k (numbers_of N type_at (sources.declared_in t))) (h.near_is k)
        ∙ or_assoc (list_any (near_at k w) outer) (list_any (numbered_as k) sib) (has k (numbers_of N type_at (sources.declared_in t)))
        ∙ ap (λ b. list_any (near_at k w) outer || (list_any (numbered_as k) sib || b)) (in_numbers (w ++ item i ∷ []) t k)
        ∙ ap (λ b. list_any (near_at k w) outer || b) (sym (any_append (numbered_as k) sib (declared_in type_at (w ++ item i ∷ []) t)));
    kept_is = more_kept kept outer sib (w ++ item i ∷ []) t h.kept_is;
    settled = h.settled;
    below = both_of (InItem w (suc i)) sib (declared_in type_at (w ++ item i ∷ []) t)
        (all_into (InItem w i) (InItem w (suc i)) (λ d b. (b.0, b.1, b.2, (let lt = b.3 in omega (arith, lt)))) sib h.below)
        (all_into (Under (w ++ item i ∷ [])) (InItem w (suc i)) (λ d u. (let v = deeper w (item i) d u in (i, v.0, v.1, omega arith))) (declared_in type_at (w ++ item i ∷ []) t) (in_under (w ++ item i ∷ []) t));
  }

  next_arm : (near : List ℕ) (kept : List Kept) (w : List Step) (i : ℕ) (outer sib : List Declared) (t : Tree) → InArms near kept w i outer sib
      → InArms near (kept ++ kept_of N type_at (sources.declared_in t)) w (suc i) outer (sib ++ declared_in type_at (w ++ arm i ∷ []) t)
  next_arm near kept w i outer sib t h = record {
    near_is = h.near_is;
    kept_is = more_kept kept outer sib (w ++ arm i ∷ []) t h.kept_is;
    settled = h.settled;
    beside = both_of (InArm w (suc i)) sib (declared_in type_at (w ++ arm i ∷ []) t)
        (all_into (InArm w i) (InArm w (suc i)) (λ d b. (b.0, b.1, b.2, (let lt = b.3 in omega (arith, lt)))) sib h.beside)
        (all_into (Under (w ++ arm i ∷ [])) (InArm w (suc i)) (λ d u. (let v = deeper w (arm i) d u in (i, v.0, v.1, omega arith))) (declared_in type_at (w ++ arm i ∷ []) t) (in_under (w ++ arm i ∷ []) t));
  }

  one_place : (b : Bool) (s : Span) → place_if b s ≡ place_if b s ++ []
  one_place true s = refl
  one_place false s = refl

  placed : (b c : Bool) (s : Span) → b ≡ c → place_if b s ≡ place_if c s ++ []
  placed b c s e = ap (λ x. place_if x s) e ∙ one_place c s

  -- a name that is no field
  name_twice : (near : List ℕ) (w : List Step) (before : List Declared) (o : Option ℕ) → ((k : ℕ) → has k near ≡ list_any (near_at k w) before)
      → has_number o near ≡ list_any (λ d. same_as o (N d.name) && not (are_parted d.way w && not (store_apart d.stores None))) before
  name_twice near w before None h = sym (any_none before)
  name_twice near w before (Some k) h =
      h k ∙ any_same (near_at k w) (λ d. is_number k (N d.name) && not (are_parted d.way w && not (store_apart d.stores None))) before
      (every (λ d. near_at k w d ≡ (is_number k (N d.name) && not (are_parted d.way w && not (store_apart d.stores None)))) (λ d. by d.stores (is_number k (N d.name)) (are_parted d.way w)) before)
    where
      by : (s : Option Ty) (n a : Bool) → (n && not a) ≡ (n && not (a && not (store_apart s None)))
      by None n a = sym (ap (λ b. n && not b) (and_true a))
      by (Some t) n a = sym (ap (λ b. n && not b) (and_true a))

  field_twice : (near : List ℕ) (kept : List Kept) (w : List Step) (before : List Declared) (o : Option ℕ) (t : Ty) → Seen near kept w before
      → (has_number o near || number_differs o t kept) ≡ list_any (λ d. same_as o (N d.name) && not (are_parted d.way w && not (store_apart d.stores (Some t)))) before
  field_twice near kept w before None t h = sym (any_none before)
  field_twice near kept w before (Some k) t h =
      ap (λ b. b || differs k t kept) (h.near_is k)
      ∙ ap (λ b. list_any (near_at k w) before || b) (h.kept_is k t)
      ∙ any_or (near_at k w) (stored_apart k t) before
      ∙ any_same (λ d. near_at k w d || stored_apart k t d) (λ d. is_number k (N d.name) && not (are_parted d.way w && not (store_apart d.stores (Some t)))) before
      (every (λ d. (near_at k w d || stored_apart k t d) ≡ (is_number k (N d.name) && not (are_parted d.way w && not (store_apart d.stores (Some t))))) (λ d. near_or_differs (is_number k (N d.name)) (are_parted d.way w) (store_apart d.stores (Some t))) before)

  first_in_row : (w : List Step) (near : List ℕ) (kept : List Kept) (before : List Declared) → Seen near kept w before → InRow near kept w 0 before []
  first_in_row w near kept before h = record {
    near_is = λ k. h.near_is k ∙ sym (or_false (list_any (near_at k w) before));
    kept_is = λ k t. h.kept_is k t ∙ ap (list_any (stored_apart k t)) (sym (append-nil before));
    settled = h.settled;
    below = tt;
  }

  mutual
    in_twice : (w : List Step) (near : List ℕ) (kept : List Kept) (before : List Declared) (t : Tree) → Seen near kept w before → taken_in N type_at near kept t ≡ twice_by before (declared_in type_at w t)
    in_twice w near kept before (node (form_is.Item item_is.Variable) span (more name ts)) h =
        placed (has_number (N (name_of name)) near) _ (span_of name) (name_twice near w before (N (name_of name)) h.near_is)
    in_twice w near kept before (node (form_is.Item item_is.Sink) span (more name ts)) h =
        placed (has_number (N (name_of name)) near) _ (span_of name) (name_twice near w before (N (name_of name)) h.near_is)
    in_twice w near kept before (node (form_is.Item item_is.Part) span (more part ts)) h = in_twice w near kept before part h
    in_twice w near kept before (node (form_is.Part part_is.Field) span (more field ts)) h = one_field w near kept before field h
    in_twice w near kept before (node (form_is.Part part_is.Switch) span (more subject (more (row arms) ts))) h =
        let first : InArms near kept w 0 before [] = record { near_is = h.near_is; kept_is = λ k t. h.kept_is k t ∙ ap (list_any (stored_apart k t)) (sym (append-nil before)); settled = h.settled; beside = tt } in
        arms_twice w 0 near kept before [] arms first ∙ ap (λ l. twice_by l (declared_in_arms type_at w 0 arms)) (append-nil before)
    in_twice w near kept before (node form_is.Arm span (more guard (more body ts))) h = in_twice w near kept before body h
    in_twice w near kept before (node (form_is.Body body_is.One) span ts) h = row_twice w 0 near kept before [] ts (first_in_row w near kept before h) ∙ ap (λ l. twice_by l (declared_in_row type_at w 0 ts)) (append-nil before)
    in_twice w near kept before (node (form_is.Body body_is.Many) span ts) h = row_twice w 0 near kept before [] ts (first_in_row w near kept before h) ∙ ap (λ l. twice_by l (declared_in_row type_at w 0 ts)) (append-nil before)
    in_twice w near kept before _ h = refl

    one_field : (w : List Step) (near : List ℕ) (kept : List Kept) (before : List Declared) (t : Tree) → Seen near kept w before → field_taken N type_at near kept t ≡ twice_by before (declared_field type_at w t)
    one_field w near kept before (node form_is.Field span (more (node (form_is.Name x) s us) ts)) h =
        let t = type_at (node form_is.Field span (more (node (form_is.Name x) s us) ts)) in
        placed (has_number (N x) near || number_differs (N x) t kept) _ s (field_twice near kept w before (N x) t h)
    one_field w near kept before _ h = refl

    row_twice : (w : List Step) (i : ℕ) (near : List ℕ) (kept : List Kept) (outer sib : List Declared) (ts : Trees) → InRow near kept w i outer sib → taken_among N type_at near kept ts ≡ twice_by (outer ++ sib) (declared_in_row type_at w i ts)
    row_twice w i near kept outer sib none h = refl
    row_twice w i near kept outer sib (more t ts) h =
        let names = declared_in type_at (w ++ item i ∷ []) t in
        let others = declared_in_row type_at w (suc i) ts in
        let numbers = near ++ numbers_of N type_at (sources.declared_in t) in
        let stored = kept ++ kept_of N type_at (sources.declared_in t) in
        ap (λ l. l ++ taken_among N type_at numbers stored ts) (in_twice (w ++ item i ∷ []) near kept (outer ++ sib) t (row_seen near kept w i outer sib h))
        ∙ ap (λ l. twice_by (outer ++ sib) names ++ l) (row_twice w (suc i) numbers stored outer (sib ++ names) ts (next_item near kept w i outer sib t h) ∙ ap (λ l. twice_by l others) (sym (append_assoc outer sib names)))
        ∙ sym (twice_append (outer ++ sib) names others)

    arms_twice : (w : List Step) (i : ℕ) (near : List ℕ) (kept : List Kept) (outer sib : List Declared) (ts : Trees) → InArms near kept w i outer sib → taken_arms N type_at near kept ts ≡ twice_by (outer ++ sib) (declared_in_arms type_at w i ts)
    arms_twice w i near kept outer sib none h = refl
    arms_twice w i near kept outer sib (more t ts) h =
        let names = declared_in type_at (w ++ arm i ∷ []) t in
        let others = declared_in_arms type_at w (suc i) ts in
        let stored = kept ++ kept_of N type_at (sources.declared_in t) in
        ap (λ l. l ++ taken_arms N type_at near stored ts) (in_twice (w ++ arm i ∷ []) near kept (outer ++ sib) t (arms_seen near kept w i outer sib h))
        ∙ ap (λ l. twice_by (outer ++ sib) names ++ l) (arms_twice w (suc i) near stored outer (sib ++ names) ts (next_arm near kept w i outer sib t h) ∙ ap (λ l. twice_by l others) (sym (append_assoc outer sib names)))
        ∙ sym (twice_append (outer ++ sib) names others)

  whole_row : (w : List Step) (near : List ℕ) (kept : List Kept) (before : List Declared) (ts : Trees) → Seen near kept w before → taken_among N type_at near kept ts ≡ twice_by before (declared_in_row type_at w 0 ts)
  whole_row w near kept before ts h = row_twice w 0 near kept before [] ts (first_in_row w near kept before h) ∙ ap (λ l. twice_by l (declared_in_row type_at w 0 ts)) (append-nil before)

  -- the parameters of a unit
  parameters_numbered : (k : ℕ) (ps : List Tree) → has k (parameter_numbers N ps) ≡ list_any (near_at k []) (declared_parameters ps)
  parameters_numbered k [] = refl
  parameters_numbered k (p ∷ ps) =
      number_has k (N (parameter_name p)) (parameter_numbers N ps)
      ∙ ap (λ b. is_number k (N (parameter_name p)) || b) (parameters_numbered k ps)
      ∙ ap (λ b. b || list_any (near_at k []) (declared_parameters ps)) (sym (and_true (is_number k (N (parameter_name p)))))

  parameters_store : (k : ℕ) (t : Ty) (ps : List Tree) → false ≡ list_any (stored_apart k t) (declared_parameters ps)
  parameters_store k t [] = refl
  parameters_store k t (p ∷ ps) = parameters_store k t ps ∙ ap (λ b. b || list_any (stored_apart k t) (declared_parameters ps)) (sym (and_false (is_number k (N (parameter_name p)))))

  parameters_settled : (ps : List Tree) → AllOf (Settled []) (declared_parameters ps)
  parameters_settled [] = tt
  parameters_settled (p ∷ ps) = (λ v. refl, parameters_settled ps)

  places_twice : (ps : List Tree) (ts : Trees) → taken_among N type_at (parameter_numbers N ps) [] ts ≡ twice_by (declared_parameters ps) (declared_in_row type_at [] 0 ts)
  places_twice ps ts =
      whole_row [] (parameter_numbers N ps) [] (declared_parameters ps) ts (record { near_is = λ k. parameters_numbered k ps; kept_is = λ k t. parameters_store k t ps; settled = parameters_settled ps })

  -- where numbers tell names apart
  abbrev Tells : Declared → Type 0
  Tells e = (y : List ℕ) → same_as (N e.name) (N y) ≡ bytes_eq e.name y

  by_names : (before es : List Declared) → AllOf Tells es → twice_by before es ≡ twice_behind before es
  by_names before [] h = refl
  by_names before (e ∷ es) h =
      ap (λ b. place_if b e.span ++ twice_by (before ++ e ∷ []) es) (any_same (λ d. twice_as d e) (λ d. comes_twice d e) before
      (every (λ d. twice_as d e ≡ comes_twice d e) (λ d. ap (λ b. b && not (may_come_again d e)) (h.0 d.name)) before))
      ∙ ap (λ l. place_if (list_any (λ d. comes_twice d e) before) e.span ++ l) (by_names (before ++ e ∷ []) es h.1)

-- numbers of members tell names apart
never_some : {P : Type 0} {A : Type 0} (x : A) → None ≡ Some x → P
never_some x e = cc

not_both : {P : Type 0} → true ≡ false → P
not_both e = cc

least_number : (x : List ℕ) (k j : ℕ) (ds : List Named) → numbered x k ds ≡ Some j → k ≤ j
least_number x k j [] e = never_some j e
least_number x k j (d ∷ ds) e = by (has_name x d) e (least_number x (suc k) j ds)
  where
    by : (b : Bool) → (if b then Some k else numbered x (suc k) ds) ≡ Some j → (numbered x (suc k) ds ≡ Some j → suc k ≤ j) → k ≤ j
    by true i h = (let s : Some k ≡ Some j = i in let is : k ≡ j = cc in omega (arith, is))
    by false i h = (let le = h i in omega (arith, le))

tells_apart : (x y : List ℕ) (k j : ℕ) (ds : List Named) → numbered x k ds ≡ Some j → same_as (numbered x k ds) (numbered y k ds) ≡ bytes_eq x y
tells_apart x y k j [] e = never_some j e
tells_apart x y k j (d ∷ ds) e = by (bytes_eq x d.name) (bytes_eq y d.name) refl refl e (tells_apart x y (suc k) j ds)
  where
    X : Bool → Option ℕ
    X b = if b then Some k else numbered x (suc k) ds

    Y : Bool → Option ℕ
    Y c = if c then Some k else numbered y (suc k) ds

    far : (o : Option ℕ) → ((i : ℕ) → o ≡ Some i → suc k ≤ i) → is_number k o ≡ false
    far None h = refl
    far (Some i) h = (let le = h i refl in let r : (i == k) ≡ false = grind (arith, nat_tests) in r)

    far_first : (o : Option ℕ) → ((i : ℕ) → o ≡ Some i → suc k ≤ i) → same_as o (Some k) ≡ false
    far_first None h = refl
    far_first (Some i) h = (let le = h i refl in let r : (k == i) ≡ false = grind (arith, nat_tests) in r)

    apart : (z : Bool) → bytes_eq x y ≡ z → (x ≡ y → z ≡ false) → bytes_eq x y ≡ false
    apart false is h = is
    apart true is h = is ∙ h (equal_bytes x y is)

    by : (b c : Bool) → bytes_eq x d.name ≡ b → bytes_eq y d.name ≡ c → X b ≡ Some j
        → (numbered x (suc k) ds ≡ Some j → same_as (numbered x (suc k) ds) (numbered y (suc k) ds) ≡ bytes_eq x y) → same_as (X b) (Y c) ≡ bytes_eq x y
    by true true is ys i h =
        same_number k ∙ sym (ap (λ z. bytes_eq z y) (equal_bytes x d.name is ∙ sym (equal_bytes y d.name ys)) ∙ same_bytes y)
    by true false is ys i h =
        far (numbered y (suc k) ds) (λ i e. least_number y (suc k) i ds e)
        ∙ sym (apart (bytes_eq x y) refl (λ e. not_both (sym is ∙ ap (λ z. bytes_eq z d.name) e ∙ ys)))
    by false true is ys i h =
        far_first (numbered x (suc k) ds) (λ i e. least_number x (suc k) i ds e)
        ∙ sym (apart (bytes_eq x y) refl (λ e. not_both (sym ys ∙ ap (λ z. bytes_eq z d.name) (sym e) ∙ is)))
    by false false is ys i h = h i

-- the first of each name keeps its number
there : (x : List ℕ) (k : ℕ) (ds : List Named) → list_any (has_name x) ds ≡ true → (j : ℕ) × (numbered x k ds ≡ Some j)
there x k [] e = not_both (sym e)
there x k (d ∷ ds) e = by (has_name x d) e (there x (suc k) ds)
  where
    by : (b : Bool) → (b || list_any (has_name x) ds) ≡ true → (list_any (has_name x) ds ≡ true → (j : ℕ) × (numbered x (suc k) ds ≡ Some j)) → (j : ℕ) × ((if b then Some k else numbered x (suc k) ds) ≡ Some j)
    by true e h = (k, refl)
    by false e h = h e

others_stay : (x : List ℕ) (d : Named) → has_name x d ≡ false → (ds : List Named) → list_any (has_name x) (filter (λ e. not (has_name e.name d)) ds) ≡ list_any (has_name x) ds
others_stay x d other [] = refl
others_stay x d other (e ∷ ds) = by (has_name e.name d) refl (others_stay x d other ds)
  where
    apart : (b : Bool) → has_name x e ≡ b → has_name e.name d ≡ true → has_name x e ≡ false
    apart false called is = called
    apart true called is = not_both (sym is ∙ ap (λ y. has_name y d) (sym (equal_bytes x e.name called)) ∙ other)

    by : (b : Bool) → has_name e.name d ≡ b → list_any (has_name x) (filter (λ e. not (has_name e.name d)) ds) ≡ list_any (has_name x) ds
        → list_any (has_name x) (if not b then e ∷ filter (λ e. not (has_name e.name d)) ds else filter (λ e. not (has_name e.name d)) ds) ≡ (has_name x e || list_any (has_name x) ds)
    by false is later = ap (λ b. has_name x e || b) later
    by true is later = later ∙ sym (ap (λ b. b || list_any (has_name x) ds) (apart (has_name x e) refl is))

in_firsts : (x : List ℕ) (ds : List Named) → list_any (has_name x) (firsts ds) ≡ list_any (has_name x) ds
in_firsts x [] = refl
in_firsts x (d ∷ ds) = by (has_name x d) refl (in_firsts x ds)
  where
    by : (b : Bool) → has_name x d ≡ b → list_any (has_name x) (firsts ds) ≡ list_any (has_name x) ds
        → (b || list_any (has_name x) (filter (λ e. not (has_name e.name d)) (firsts ds))) ≡ (b || list_any (has_name x) ds)
    by true is later = refl
    by false is later = others_stay x d is (firsts ds) ∙ later

abbrev name_in : Declared → List ℕ
name_in d = d.name

abbrev source_name : Named → List ℕ
source_name d = d.name

names_append : {A : Type 0} (f : A → List ℕ) (xs ys : List A) → map f (xs ++ ys) ≡ map f xs ++ map f ys
names_append f [] ys = refl
names_append f (x ∷ xs) ys = ap (λ l. f x ∷ l) (names_append f xs ys)

module _ (type_at : Tree → Ty) where
  mutual
    in_names : (w : List Step) (t : Tree) → map name_in (declared_in type_at w t) ≡ map source_name (sources.declared_in t)
    in_names w (node (form_is.Item item_is.Variable) span (more name ts)) = refl
    in_names w (node (form_is.Item item_is.Sink) span (more name ts)) = refl
    in_names w (node (form_is.Item item_is.Part) span (more part ts)) = in_names w part
    in_names w (node (form_is.Part part_is.Field) span (more field ts)) = field_names w field
    in_names w (node (form_is.Part part_is.Switch) span (more subject (more (row arms) ts))) = arms_names w 0 arms
    in_names w (node form_is.Arm span (more guard (more body ts))) = in_names w body
    in_names w (node (form_is.Body body_is.One) span ts) = row_names w 0 ts
    in_names w (node (form_is.Body body_is.Many) span ts) = row_names w 0 ts
    in_names w _ = refl

    field_names : (w : List Step) (t : Tree) → map name_in (declared_field type_at w t) ≡ map source_name (sources.field_named t)
    field_names w (node form_is.Field span (more (node (form_is.Name x) s us) ts)) = refl
    field_names w _ = refl

    row_names : (w : List Step) (i : ℕ) (ts : Trees) → map name_in (declared_in_row type_at w i ts) ≡ map source_name (sources.declared_among ts)
    row_names w i none = refl
    row_names w i (more t ts) =
        names_append name_in (declared_in type_at (w ++ item i ∷ []) t) (declared_in_row type_at w (suc i) ts)
        ∙ ap (λ l. l ++ map name_in (declared_in_row type_at w (suc i) ts)) (in_names (w ++ item i ∷ []) t)
        ∙ ap (λ l. map source_name (sources.declared_in t) ++ l) (row_names w (suc i) ts)
        ∙ sym (names_append source_name (sources.declared_in t) (sources.declared_among ts))

    arms_names : (w : List Step) (i : ℕ) (ts : Trees) → map name_in (declared_in_arms type_at w i ts) ≡ map source_name (sources.declared_among ts)
    arms_names w i none = refl
    arms_names w i (more t ts) =
        names_append name_in (declared_in type_at (w ++ arm i ∷ []) t) (declared_in_arms type_at w (suc i) ts)
        ∙ ap (λ l. l ++ map name_in (declared_in_arms type_at w (suc i) ts)) (in_names (w ++ arm i ∷ []) t)
        ∙ ap (λ l. map source_name (sources.declared_in t) ++ l) (arms_names w (suc i) ts)
        ∙ sym (names_append source_name (sources.declared_in t) (sources.declared_among ts))

-- each name of what is declared is among it
abbrev IsThere : List Named → List ℕ → Type 0
IsThere ds x = list_any (has_name x) ds ≡ true

or_right : (b c : Bool) → c ≡ true → (b || c) ≡ true
or_right true c e = refl
or_right false c e = e

all_there : (ds : List Named) → AllOf (IsThere ds) (map source_name ds)
all_there [] = tt
all_there (d ∷ ds) = (
  ap (λ b. b || list_any (has_name d.name) ds) (same_bytes d.name),
  all_into (IsThere ds) (IsThere (d ∷ ds)) (λ x h. or_right (has_name x d) (list_any (has_name x) ds) h) (map source_name ds) (all_there ds),
)

unmapped : {A : Type 0} (f : A → List ℕ) (P : List ℕ → Type 0) (xs : List A) → AllOf P (map f xs) → AllOf (λ x. P (f x)) xs
unmapped f P [] h = tt
unmapped f P (x ∷ xs) h = (h.0, unmapped f P xs h.1)

pub come_twice : (type_at : Tree → Ty) (unit : Tree) → taken_places type_at unit ≡ twice_behind (declared_parameters (unit_parameters unit)) (declared_in_row type_at [] 0 (unit_items unit))
come_twice type_at unit =
    let ds = sources.declared_among (unit_items unit) in
    let es = declared_in_row type_at [] 0 (unit_items unit) in
    let params = declared_parameters (unit_parameters unit) in
    let names : AllOf (λ e. IsThere ds (name_in e)) es = unmapped name_in (IsThere ds) es (subst (AllOf (IsThere ds)) (sym (row_names type_at [] 0 (unit_items unit))) (all_there ds)) in
    let told : AllOf (Tells (member_number unit) type_at) es =
    all_into (λ e. IsThere ds (name_in e)) (Tells (member_number unit) type_at)
    (λ e h y. (let j = there e.name 0 (firsts ds) (in_firsts e.name ds ∙ h) in tells_apart e.name y 0 j.0 (firsts ds) j.1)) es names in
    places_twice (member_number unit) type_at (unit_parameters unit) (unit_items unit) ∙ by_names (member_number unit) type_at params es told
