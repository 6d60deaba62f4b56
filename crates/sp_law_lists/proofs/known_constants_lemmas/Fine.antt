-- In a module in which each alternative has its parts and each name in a type names something, each type is a type.
use Rattle.std.specs.Prelude.{ℕ, Bool, true, false, ◌&&◌, List, ◌++◌, Option}
use Rattle.std.specs.List.{list_all}
use Rattle.std.proofs.Common.{◌≡◌, refl}
use Rattle.std.proofs.lemmas.Bool.{and_parts, and_from}
use Rattle.sp_base.specs.declared.places.Span.{Span}
use Rattle.sp_ast.specs.Trees.{Tree, Trees, absent, row, node, none, more}
use Rattle.sp_ast.specs.Slots.{slots, fill, is_formed, are_formed}
use Rattle.sp_ast.specs.Groups.{is_of, are_of}
use Rattle.sp_ast.specs.declared.groups.Group.TheVariants as group_is
use Rattle.sp_ast.specs.declared.forms.Form.{Form}
use Rattle.sp_ast.specs.declared.forms.Form.TheVariants as form_is
use Rattle.sp_ast.specs.declared.forms.TypeForm.TheVariants as type_is
use Rattle.sp_types.specs.Types.{Ty}
use Rattle.sp_names.specs.declared.sort.Meaning.{Meaning}
use Rattle.sp_names.specs.declared.sort.Meaning.TheVariants as meaning_is
use Rattle.sp_names.specs.Names.{path_means}
use Rattle.sp_names.specs.Types.{if_bitfield, bitfields_in, bitfields_among}
use Rattle.sp_names.specs.Faults.{nothing_fault, path_faults, twice_faults, faults_in, faults_among}
use Rattle.sp_type_values.specs.declared.answer.Answer.{Answer}
use Rattle.sp_type_values.specs.Valued.{needs_in, needs_among}
use Rattle.sp_law_lists.specs.known_types.Trees.{written_hold, all_written_hold}
use Rattle.sp_law_lists.specs.known_types.Clear.{none_hold}
use Rattle.sp_law_lists.proofs.known_types_lemmas.Full.{never}
use Rattle.sp_law_lists.specs.whole_list.Types.{means_something, is_type, are_types}
use Rattle.sp_law_lists.proofs.whole_list_lemmas.None.{none_parts, all_parts}
use Rattle.sp_law_lists.specs.known_constants.Good.{is_answered, are_answered, is_told}
use Rattle.sp_law_lists.specs.known_constants.Fine.{is_found, IsFine, AreFine}

-- parts of a wrong number, behind which all parts are formed
no_first : {X : Type 0} (a b : Bool) → ((a && false) && b) ≡ true → X
no_first true b e = never e
no_first false b e = never e

no_second : {X : Type 0} (a b c : Bool) → ((a && (b && false)) && c) ≡ true → X
no_second true b c e = no_first b c e
no_second false b c e = never e

something : (m : ℕ) (path : Tree) (w : Meaning) → none_hold (nothing_fault m path w) ≡ true → means_something w ≡ true
something m path (meaning_is.Nothing k) e = never e
something m path _ e = refl

module _ (list : List Tree) (f : ℕ → Option Ty) (m : ℕ) where
  abbrev Fine : Tree → Type 0
  Fine t = IsFine list f m t

  abbrev AllFine : Trees → Type 0
  AllFine ts = AreFine list f m ts

  -- the parts of what is fine are
  pub inside : (form : Form) (span : Span) (ts : Trees) → Fine (node form span ts) → AllFine ts
  inside form span ts h =
      let a = and_parts (fill (slots form) ts) (are_formed ts) h.0 in
      let b = none_parts (path_faults list f m (node form span ts)) (twice_faults m (node form span ts) ++ faults_among list f m ts) h.1 in
      let c = none_parts (twice_faults m (node form span ts)) (faults_among list f m ts) b.1 in
      let d = all_parts (is_found list f m) (if_bitfield (node form span ts)) (bitfields_among ts) h.2 in
      (a.1, c.1, d.1)

  pub first : (t : Tree) (ts : Trees) → AllFine (more t ts) → Fine t
  first t ts h =
      let a = and_parts (is_formed t) (are_formed ts) h.0 in
      let b = none_parts (faults_in list f m t) (faults_among list f m ts) h.1 in
      let c = all_parts (is_found list f m) (bitfields_in t) (bitfields_among ts) h.2 in
      (a.0, b.0, c.0)

  pub rest : (t : Tree) (ts : Trees) → AllFine (more t ts) → AllFine ts
  rest t ts h =
      let a = and_parts (is_formed t) (are_formed ts) h.0 in
      let b = none_parts (faults_in list f m t) (faults_among list f m ts) h.1 in
      let c = all_parts (is_found list f m) (bitfields_in t) (bitfields_among ts) h.2 in
      (a.1, b.1, c.1)

  pub formed : (form : Form) (span : Span) (ts : Trees) → Fine (node form span ts) → fill (slots form) ts ≡ true
  formed form span ts h = (and_parts (fill (slots form) ts) (are_formed ts) h.0).0

  -- types
  mutual
    pub type_fine : (t : Tree) → is_of group_is.Types t ≡ true → Fine t → is_type list f m t ≡ true
    type_fine (node (form_is.Type type_is.Path) span none) of h = never h.0
    type_fine (node (form_is.Type type_is.Path) span (more path none)) of h =
        something m path (path_means list f m path) (none_parts (nothing_fault m path (path_means list f m path)) _ h.1).0
    type_fine (node (form_is.Type type_is.Path) span (more path (more t ts))) of h =
        no_first (is_of group_is.Paths path) (are_formed (more path (more t ts))) h.0
    type_fine (node (form_is.Type type_is.Bool) span none) of h = refl
    type_fine (node (form_is.Type type_is.Bool) span (more t ts)) of h = never h.0
    type_fine (node (form_is.Type type_is.Bytes) span none) of h = refl
    type_fine (node (form_is.Type type_is.Bytes) span (more t ts)) of h = never h.0
    type_fine (node (form_is.Type type_is.String) span none) of h = refl
    type_fine (node (form_is.Type type_is.String) span (more t ts)) of h = never h.0
    type_fine (node (form_is.Type type_is.Void) span none) of h = refl
    type_fine (node (form_is.Type type_is.Void) span (more t ts)) of h = never h.0
    type_fine (node (form_is.Type (type_is.Int w)) span none) of h = refl
    type_fine (node (form_is.Type (type_is.Int w)) span (more t ts)) of h = never h.0
    type_fine (node (form_is.Type type_is.Tuple) span ts) of h =
        types_fine ts (formed (form_is.Type type_is.Tuple) span ts h) (inside (form_is.Type type_is.Tuple) span ts h)
    type_fine (node (form_is.Type type_is.Vector) span none) of h = never h.0
    type_fine (node (form_is.Type type_is.Vector) span (more t none)) of h =
        let p = inside (form_is.Type type_is.Vector) span (more t none) h in
        type_fine t (and_parts (is_of group_is.Types t) true (formed (form_is.Type type_is.Vector) span (more t none) h)).0 (first t none p)
    type_fine (node (form_is.Type type_is.Vector) span (more t (more u ts))) of h = no_first (is_of group_is.Types t) (are_formed (more t (more u ts))) h.0
    type_fine (node (form_is.Type type_is.Set) span none) of h = never h.0
    type_fine (node (form_is.Type type_is.Set) span (more t none)) of h =
        let p = inside (form_is.Type type_is.Set) span (more t none) h in
        type_fine t (and_parts (is_of group_is.Types t) true (formed (form_is.Type type_is.Set) span (more t none) h)).0 (first t none p)
    type_fine (node (form_is.Type type_is.Set) span (more t (more u ts))) of h = no_first (is_of group_is.Types t) (are_formed (more t (more u ts))) h.0
    type_fine (node (form_is.Type type_is.Map) span none) of h = never h.0
    type_fine (node (form_is.Type type_is.Map) span (more s none)) of h = no_first (is_of group_is.Types s) (are_formed (more s none)) h.0
    type_fine (node (form_is.Type type_is.Map) span (more s (more t none))) of h =
        let p = inside (form_is.Type type_is.Map) span (more s (more t none)) h in
        let o = and_parts (is_of group_is.Types s) (is_of group_is.Types t && true) (formed (form_is.Type type_is.Map) span (more s (more t none)) h) in
        and_from (is_type list f m s) (is_type list f m t) (type_fine s o.0 (first s (more t none) p))
        (type_fine t (and_parts (is_of group_is.Types t) true o.1).0 (first t none (rest s (more t none) p)))
    type_fine (node (form_is.Type type_is.Map) span (more s (more t (more u ts)))) of h =
        no_second (is_of group_is.Types s) (is_of group_is.Types t) (are_formed (more s (more t (more u ts)))) h.0
    type_fine (node (form_is.Type type_is.Bitfield) span ts) of h =
        (and_parts (is_found list f m (node (form_is.Type type_is.Bitfield) span ts)) (list_all (is_found list f m) (bitfields_among ts)) h.2).0
    type_fine (node (form_is.Type type_is.Enum) span ts) of h = refl
    type_fine (node (form_is.Type type_is.Unit) span ts) of h = refl
    type_fine absent of h = never of
    type_fine (row ts) of h = never of
    type_fine (node _ span ts) of h = never of

    types_fine : (ts : Trees) → are_of group_is.Types ts ≡ true → AllFine ts → are_types list f m ts ≡ true
    types_fine none of h = refl
    types_fine (more t ts) of h =
        let o = and_parts (is_of group_is.Types t) (are_of group_is.Types ts) of in
        and_from (is_type list f m t) (are_types list f m ts) (type_fine t o.0 (first t ts h)) (types_fine ts o.1 (rest t ts h))

  module _ (known : ℕ → Option Answer) where
    abbrev told : Tree → Bool
    told = is_told list f known m

    -- what is written in a tree in which all that is named is answered
    mutual
      pub written : (t : Tree) → Fine t → told t ≡ true → written_hold (is_type list f m) told t ≡ true
      written absent h n = refl
      written (row ts) h n = all_written ts h n
      written (node form_is.Path span ts) h n = n
      written (node (form_is.Type form) span ts) h n = type_fine (node (form_is.Type form) span ts) refl h
      written (node form span ts) h n = all_written ts (inside form span ts h) n

      all_written : (ts : Trees) → AllFine ts → are_answered known (needs_among list f m ts) ≡ true → all_written_hold (is_type list f m) told ts ≡ true
      all_written none h n = refl
      all_written (more t ts) h n =
          let p = all_parts (λ j. is_answered (known j)) (needs_in list f m t) (needs_among list f m ts) n in
          and_from (written_hold (is_type list f m) told t) (all_written_hold (is_type list f m) told ts) (written t (first t ts h) p.0) (all_written ts (rest t ts h) p.1)
