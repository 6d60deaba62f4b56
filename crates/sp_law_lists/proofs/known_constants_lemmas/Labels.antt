-- Labels that paths name are there, and what a typed list tells of those of the library and of a list's own enums.
use Rattle.std.specs.Prelude.{◌-◌, ◌==◌, nat_lt, if◌then◌else◌, codes}
use Rattle.std.specs.Str.{bytes_eq}
use Rattle.std.proofs.Common.{ℕ, ◌≡◌, ◌<◌, ◌+◌, zero, suc, Bool, true, false, refl, sym, ap, subst, ◌∙◌, arith, List, [], ◌∷◌, length, Option, Some, None, slice_get}
use Rattle.std.proofs.lemmas.Bool.Decides.{nat_tests}
use Rattle.sp_ast.specs.Trees.{Tree}
use Rattle.sp_value.specs.Val.{enum}
use Rattle.sp_types.specs.declared.words.Word.TheVariants as word_is
use Rattle.sp_types.specs.Types.{Ty, word}
use Rattle.sp_typed_units.specs.declared.declarations.LabelNumber.{LabelNumber}
use Rattle.sp_typed_units.specs.declared.declarations.LabelNumber.TheVariants as number_is
use Rattle.sp_names.specs.declared.rows.Declaration.{Declaration}
use Rattle.sp_names.specs.declared.sort.DeclSort.TheVariants as sort_is
use Rattle.sp_names.specs.declared.sort.Meaning.{Meaning}
use Rattle.sp_names.specs.declared.sort.Meaning.TheVariants as meaning_is
use Rattle.sp_names.specs.declared.sort.Scope.{Scope}
use Rattle.sp_names.specs.declared.sort.Scope.TheVariants as scope_is
use Rattle.sp_names.specs.Declarations.{all_of, library_enums, type_tree_of}
use Rattle.sp_names.specs.Names.{is_name, first_named, label_name, declared, visible, place_among, library_names, library_labels, declaration_of, enum_labels, labels_of, own_labels, label_in, some_declaration, some_library, some_label, named_in, enum_of, own_enum, label_of, behind, meaning_or, in_scope, in_own, means}
use Rattle.sp_ast.specs.Views.{present}
use Rattle.sp_type_constants.specs.declared.outcome.Outcome.{Outcome}
use Rattle.sp_type_constants.specs.declared.outcome.Outcome.TheVariants as outcome_is
use Rattle.sp_type_constants.specs.Outcomes.{used}
use Rattle.sp_rule_lists.specs.Told.{label_outcome, label_told}
use Rattle.sp_rule_lists.specs.Told as told
use Rattle.sp_type_values.specs.declared.answer.Answer.{Answer}
use Rattle.sp_type_values.specs.Valued.{number_tree}
use Rattle.sp_type_values.specs.Answers.{label_value}
use Rattle.sp_type_values.specs.TypedRows.{shown_number, or_past, number_at, own_number, labels_of_enum, declared_enum, own_enums, library_rows, typed_enums}
use Rattle.sp_law_lists.proofs.known_types_lemmas.Full.{never}
use Rattle.sp_law_lists.specs.known_values.Values.{fits}
use Rattle.sp_law_lists.proofs.whole_list_lemmas.Modules.{none_found, some_found}
use Rattle.sp_law_lists.proofs.known_constants_lemmas.Places.{equal_itself}

-- a label that a path names is there
module _ (list : List Tree) where
  abbrev pub IsThere : Meaning → Type 0
  IsThere (meaning_is.Label owner n) = (x : List ℕ) × (label_in list owner x ≡ Some n)
  IsThere _ = Unit {0}

  abbrev MaybeThere : Option Meaning → Type 0
  MaybeThere None = Unit {0}
  MaybeThere (Some w) = IsThere w

  some_there : (owner : ℕ) (x : List ℕ) (o : Option ℕ) → label_in list owner x ≡ o → MaybeThere (some_label owner o)
  some_there owner x None e = tt
  some_there owner x (Some n) e = (x, e)

  label_there : (o : Option ℕ) (x : List ℕ) → MaybeThere (label_of list o x)
  label_there None x = tt
  label_there (Some owner) x = some_there owner x (label_in list owner x) refl

  behind_there : (f : ℕ → Option Ty) (k : ℕ) (o : Option Meaning) (xs : List (List ℕ)) → MaybeThere o → IsThere (behind list f k o xs)
  behind_there f k None xs h = tt
  behind_there f k (Some w) [] h = h
  behind_there f k (Some w) (x ∷ xs) h = behind_there f (suc k) (label_of list (enum_of f w) x) xs (label_there (enum_of f w) x)

  declared_there : (o : Option ℕ) → MaybeThere (some_declaration o)
  declared_there None = tt
  declared_there (Some g) = tt

  library_there : (o : Option ℕ) → MaybeThere (some_library o)
  library_there None = tt
  library_there (Some n) = tt

  decoder_there : (b : Bool) → MaybeThere (if b then Some meaning_is.Decoder else None)
  decoder_there true = tt
  decoder_there false = tt

  named_there : (s : Scope) (x : List ℕ) → MaybeThere (named_in list s x)
  named_there (scope_is.Module k) x = declared_there (declared list k x)
  named_there scope_is.Spicy x = library_there (place_among x 0 library_names)
  named_there scope_is.Filter x = decoder_there (bytes_eq x (codes "Base64Decode"))

  scope_there : (f : ℕ → Option Ty) (own : Option ℕ) (scope : Option Scope) (x : List ℕ) (xs : List (List ℕ)) → IsThere (in_scope list f own scope x xs)
  scope_there f own (Some s) x xs = behind_there f 1 (named_in list s x) xs (named_there s x)
  scope_there f (Some g) None x xs = tt
  scope_there f None None x xs = tt

  own_there : (f : ℕ → Option Ty) (enum own : Option ℕ) (scope : Option Scope) (x : List ℕ) (xs : List (List ℕ)) → IsThere (in_own list f enum own scope x xs)
  own_there f (Some n) own scope x xs = behind_there f 1 (label_of list (Some n) x) xs (label_there (Some n) x)
  own_there f None own scope x xs = scope_there f own scope x xs

  first_there : (k : ℕ) (o : Option ℕ) → IsThere (meaning_or k o)
  first_there k None = tt
  first_there k (Some g) = tt

  pub means_there : (f : ℕ → Option Ty) (m : ℕ) (xs : List (List ℕ)) → IsThere (means list f m xs)
  means_there f m [] = tt
  means_there f m (x ∷ []) = first_there 0 (declared list m x)
  means_there f m (x ∷ (y ∷ ys)) = own_there f (own_enum f (declared list m x)) (declared list m x) (visible list m x) y ys

-- its place is one of the enum's labels
placed : (x : List ℕ) (k : ℕ) (ns : List (List ℕ)) (n : ℕ) → place_among x k ns ≡ Some n → n < k + length ns
placed x k [] n e = none_found n e
placed x k (y ∷ ns) n e = by (λ h. placed x (suc k) ns n h) (bytes_eq x y) e
  where
    by : (place_among x (suc k) ns ≡ Some n → n < suc k + length ns) → (b : Bool) → (if b then Some k else place_among x (suc k) ns) ≡ Some n → n < k + length (y ∷ ns)
    by next true h = (let s = some_found k n h in omega (arith, s))
    by next false h = (let s = next h in omega (arith, s))

labelled : (x : List ℕ) (k : ℕ) (ts : List Tree) (n : ℕ) → first_named label_name x k ts ≡ Some n → n < k + length ts
labelled x k [] n e = none_found n e
labelled x k (t ∷ ts) n e = by (λ h. labelled x (suc k) ts n h) (is_name x (label_name t)) e
  where
    by : (first_named label_name x (suc k) ts ≡ Some n → n < suc k + length ts) → (b : Bool) → (if b then Some k else first_named label_name x (suc k) ts) ≡ Some n → n < k + length (t ∷ ts)
    by next true h = (let s = some_found k n h in omega (arith, s))
    by next false h = (let s = next h in omega (arith, s))

-- numbers of labels that fit
abbrev Fits : ℕ → LabelNumber → Type 0
Fits owner n = fits (word (word_is.Enum owner)) (used (label_outcome owner n)) ≡ true

-- labels of the library
rows_fit : (owner k j : ℕ) (ns : List (List ℕ)) → j < length ns → fits (word (word_is.Enum owner)) (used (label_told owner (slice_get (library_rows k ns) j))) ≡ true
rows_fit owner k j [] lt = absurd (let z : ⊥ = omega (arith, lt) in z)
rows_fit owner k zero (x ∷ ns) lt = equal_itself owner
rows_fit owner k (suc j) (x ∷ ns) lt = rows_fit owner (suc k) j ns (omega (arith, lt))

module _ (list : List Tree) (f : ℕ → Option Ty) (known : ℕ → Option Answer) where
  -- what the typed list tells of a label
  abbrev pub Tells : ℕ → ℕ → Type 0
  Tells owner n = fits (word (word_is.Enum owner)) (used (told.label_in owner n (slice_get (typed_enums list f known) owner))) ≡ true

  library_tells : (owner n : ℕ) → owner < 4 → n < length (library_labels owner) → Tells owner n
  library_tells zero n lt there = rows_fit 0 0 n (library_labels 0) there
  library_tells (suc zero) n lt there = rows_fit 1 0 n (library_labels 1) there
  library_tells (suc (suc zero)) n lt there = rows_fit 2 0 n (library_labels 2) there
  library_tells (suc (suc (suc zero))) n lt there = rows_fit 3 0 n (library_labels 3) there
  library_tells (suc (suc (suc (suc owner)))) n lt there = absurd (let z : ⊥ = omega (arith, lt) in z)

  -- a label of an enum of the list
  enum_at : (gs : List ℕ) (n k g : ℕ) → slice_get gs k ≡ Some g → slice_get (own_enums list f known n gs) k ≡ Some (declared_enum list f known (n + k) (declaration_of list (Some g)))
  enum_at [] n k g at = none_found g at
  enum_at (x ∷ gs) n zero g at =
      let e : n ≡ n + 0 = omega arith in
      ap (λ o. Some (declared_enum list f known n (declaration_of list o))) at ∙ ap (λ i. Some (declared_enum list f known i (declaration_of list (Some g)))) e
  enum_at (x ∷ gs) n (suc k) g at =
      let e : suc n + k ≡ n + suc k = omega arith in
      enum_at gs (suc n) k g at ∙ ap (λ i. Some (declared_enum list f known i (declaration_of list (Some g)))) e

  pub enum_found : (j g : ℕ) → slice_get (all_of sort_is.Enum list) j ≡ Some g → slice_get (typed_enums list f known) (library_enums + j) ≡ Some (declared_enum list f known (library_enums + j) (declaration_of list (Some g)))
  enum_found j g at =
      let s : library_enums + j ≡ suc (suc (suc (suc j))) = omega arith in
      ap (slice_get (typed_enums list f known)) s ∙ enum_at (all_of sort_is.Enum list) library_enums j g at

  -- the number of a label whose value fits
  shown_fits : (owner : ℕ) (o : Outcome) → fits (word (word_is.Enum owner)) o ≡ true → Fits owner (shown_number o)
  shown_fits owner (outcome_is.Value (enum k n)) e = equal_itself owner
  shown_fits owner (outcome_is.Value _) e = never e
  shown_fits owner (outcome_is.Regex t) e = never e
  shown_fits owner outcome_is.NotConstant e = refl
  shown_fits owner outcome_is.Error e = refl
  shown_fits owner outcome_is.Unknown e = never e

  behind_fits : (owner : ℕ) (before number : LabelNumber) → Fits owner number → Fits owner (or_past before number)
  behind_fits owner (number_is.Number n) number_is.Unknown e = never e
  behind_fits owner (number_is.Number n) (number_is.Number k) e = e
  behind_fits owner (number_is.Number n) number_is.NotConstant e = e
  behind_fits owner (number_is.Number n) number_is.Past e = e
  behind_fits owner number_is.NotConstant number e = e
  behind_fits owner number_is.Past number e = e
  behind_fits owner number_is.Unknown number e = e

  number_fits : (owner k : ℕ) (o : Option Tree) → fits (word (word_is.Enum owner)) (label_value list f known owner k) ≡ true → Fits owner (number_at list f known owner k o)
  number_fits owner k (Some number) e = shown_fits owner (label_value list f known owner k) e
  number_fits owner k None e = by (k == 0)
    where
      by : (b : Bool) → Fits owner (if b then own_number list f known owner k else or_past (own_number list f known owner (k - 1)) (own_number list f known owner k))
      by true = shown_fits owner (label_value list f known owner k) e
      by false = behind_fits owner (own_number list f known owner (k - 1)) (own_number list f known owner k) (shown_fits owner (label_value list f known owner k) e)

  labels_tell : (owner m k : ℕ) (ts : List Tree) (n : ℕ) → n < length ts → fits (word (word_is.Enum owner)) (label_value list f known owner (k + n)) ≡ true
      → fits (word (word_is.Enum owner)) (used (label_told owner (slice_get (labels_of_enum list f known owner m k ts) n))) ≡ true
  labels_tell owner m k [] n lt e = absurd (let z : ⊥ = omega (arith, lt) in z)
  labels_tell owner m k (t ∷ ts) zero lt e =
      let s : k + 0 ≡ k = omega arith in
      number_fits owner k (present (number_tree t)) (sym (ap (λ i. fits (word (word_is.Enum owner)) (label_value list f known owner i)) s) ∙ e)
  labels_tell owner m k (t ∷ ts) (suc n) lt e =
      let s : suc k + n ≡ k + suc n = omega arith in
      labels_tell owner m (suc k) ts n (omega (arith, lt)) (ap (λ i. fits (word (word_is.Enum owner)) (label_value list f known owner i)) s ∙ e)

  declared_tells : (owner n : ℕ) (o : Option Declaration) → n < length (labels_of o) → fits (word (word_is.Enum owner)) (label_value list f known owner n) ≡ true
      → fits (word (word_is.Enum owner)) (used (told.label_in owner n (Some (declared_enum list f known owner o)))) ≡ true
  declared_tells owner n None lt e = absurd (let z : ⊥ = omega (arith, lt) in z)
  declared_tells owner n (Some d) lt e =
      let s : 0 + n ≡ n = omega arith in
      labels_tell owner d.«module» 0 (enum_labels (type_tree_of d.tree)) n lt (ap (λ i. fits (word (word_is.Enum owner)) (label_value list f known owner i)) s ∙ e)

  own_tells : (j n : ℕ) (o : Option ℕ) → slice_get (all_of sort_is.Enum list) j ≡ o → n < length (labels_of (declaration_of list o)) → fits (word (word_is.Enum (library_enums + j))) (label_value list f known (library_enums + j) n) ≡ true
      → Tells (library_enums + j) n
  own_tells j n None at lt e = absurd (let z : ⊥ = omega (arith, lt) in z)
  own_tells j n (Some g) at lt e =
      let owner = library_enums + j in
      ap (λ x. fits (word (word_is.Enum owner)) (used (told.label_in owner n x))) (enum_found j g at) ∙ declared_tells owner n (declaration_of list (Some g)) lt e

  -- A label that a path names, whose value fits.
  pub label_tells : (owner n : ℕ) (x : List ℕ) → label_in list owner x ≡ Some n → fits (word (word_is.Enum owner)) (label_value list f known owner n) ≡ true → Tells owner n
  label_tells owner n x at e = by (nat_lt owner library_enums) refl at
    where
      by : (b : Bool) → nat_lt owner library_enums ≡ b → (if b then place_among x 0 (library_labels owner) else first_named label_name x 0 (own_labels list (owner - library_enums))) ≡ Some n → Tells owner n
      by true c h =
          let lt : owner < 4 = grind (arith, nat_tests) in
          let there = placed x 0 (library_labels owner) n h in
          library_tells owner n lt (omega (arith, there))
      by false c h =
          let j = owner - library_enums in
          let is : library_enums + j ≡ owner = grind (arith, nat_tests) in
          let there = labelled x 0 (own_labels list j) n h in
          subst (λ i. Tells i n) is
          (own_tells j n (slice_get (all_of sort_is.Enum list) j) refl (omega (arith, there)) (ap (λ i. fits (word (word_is.Enum i)) (label_value list f known i n)) is ∙ e))
