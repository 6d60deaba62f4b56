-- Types that are written: where each name in one names something, and no part is misplaced, the type is full.
use Rattle.std.specs.Prelude.{is_some, is_none, if◌then◌else◌}
use Rattle.std.proofs.Common.{ℕ, ◌≡◌, Bool, true, false, ◌&&◌, refl, List, [], ◌∷◌, ◌++◌, Option, Some, None}
use Rattle.std.proofs.lemmas.Bool.{and_parts, and_from}
use Rattle.sp_base.specs.declared.places.Span.{Span}
use Rattle.sp_words.specs.declared.words.IntWord.{IntWord}
use Rattle.sp_words.specs.declared.words.IntWord.TheVariants as int
use Rattle.sp_ast.specs.Trees.{Tree, Trees, node, none, more, span_of}
use Rattle.sp_ast.specs.declared.forms.Form.TheVariants as form_is
use Rattle.sp_ast.specs.declared.forms.TypeForm.TheVariants as type_is
use Rattle.sp_types.specs.declared.words.Word.TheVariants as word_is
use Rattle.sp_types.specs.declared.words.Maker.TheVariants as maker_is
use Rattle.sp_types.specs.declared.words.Maker.{Maker}
use Rattle.sp_types.specs.Types.{Ty, Tys, word, made, are_known, is_key, is_plain, are_plain}
use Rattle.sp_types.specs.Types as types
use Rattle.sp_names.specs.declared.sort.Meaning.{Meaning}
use Rattle.sp_names.specs.declared.sort.Meaning.TheVariants as meaning_is
use Rattle.sp_names.specs.Names.{path_means, path_names}
use Rattle.sp_names.specs.Types.{bitfield_word, bitfield_number, meaning_type, may_hold, whole_type, type_in, types_in, mentions_in, mentions_among}
use Rattle.sp_types.specs.Integers.{int_word}
use Rattle.sp_type_operands.specs.Operands.{unknown}
use Rattle.sp_type_context.specs.Typing.{or_else}
use Rattle.sp_type_context.specs.declared.places.Place.{Place}
use Rattle.sp_type_context.specs.declared.places.Place.TheVariants as place_is
use Rattle.sp_type_context.specs.Places.{suits}
use Rattle.sp_type_modules.specs.Written.{nothing_at, unnamed_in, unnamed_among, names_type, unless, type_at, misplaced_inside, misplaced_in, misplaced_among}
use Rattle.sp_law_lists.specs.known_types.Full.{have_values, is_full, are_full}
use Rattle.sp_law_lists.proofs.known_types_lemmas.Full.{never, full_are_known, plain_valued, are_valued, vector_full, set_full, keyed_full}
use Rattle.sp_law_lists.proofs.known_types_lemmas.Nodes.{chosen_full}
use Rattle.sp_law_lists.specs.whole_list.Known.{HasType}
use Rattle.sp_law_lists.specs.whole_list.Types.{means_something, is_type, are_types}
use Rattle.sp_law_lists.proofs.whole_list_lemmas.Mentions.{Each, each_left, each_right, mentioned}

-- none of two
pub none_else : {A : Type 0} (a b : Option A) → is_none (or_else a b) ≡ true → (is_none a ≡ true) × (is_none b ≡ true)
none_else None b e = (refl, e)
none_else (Some x) b e = never e

both_none : {A : Type 0} (a b : Option A) → is_none a ≡ true → is_none b ≡ true → is_none (or_else a b) ≡ true
both_none None b e h = h
both_none (Some x) b e h = never e

unless_holds : (b : Bool) (span : Span) → is_none (unless b span) ≡ true → b ≡ true
unless_holds true span e = refl
unless_holds false span e = never e

int_full : (w : IntWord) → is_full (word (int_word w)) ≡ true
int_full int.Uint8 = refl
int_full int.Uint16 = refl
int_full int.Uint32 = refl
int_full int.Uint64 = refl
int_full int.Int8 = refl
int_full int.Int16 = refl
int_full int.Int32 = refl
int_full int.Int64 = refl

bitfield_full : (o : Option ℕ) → is_some o ≡ true → is_full (bitfield_word o) ≡ true
bitfield_full None e = never e
bitfield_full (Some n) e = refl

-- what is made of full types that may stand in it
whole_full : (maker : Maker) (us : Tys) → are_full us ≡ true → may_hold maker us ≡ true → is_full (made maker us) ≡ true → is_full (whole_type maker us) ≡ true
whole_full maker us full holds_ whole =
    chosen_full (are_known us && may_hold maker us) (made maker us) (and_from (are_known us) (may_hold maker us) (full_are_known us full) holds_) whole

-- what suits a place is what stands there
suiting : (P : Ty → Type 0) (b : Bool) (t : Ty) → b ≡ true → P t → P (if b then t else unknown)
suiting P true t e p = p
suiting P false t e p = never e

module _ (list : List Tree) (f : ℕ → Option Ty) where
  meaning_full : (meaning : Meaning) → means_something meaning ≡ true → names_type list meaning ≡ true → ((g : ℕ) → meaning ≡ meaning_is.Declaration g → HasType list f g) → is_full (meaning_type f meaning) ≡ true
  meaning_full (meaning_is.Declaration g) something type has = has g refl type
  meaning_full (meaning_is.LibraryEnum n) something type has = refl
  meaning_full meaning_is.Decoder something type has = refl
  meaning_full (meaning_is.Label owner label) something type has = never type
  meaning_full (meaning_is.Nothing k) something type has = never something

  module _ (m : ℕ) where
    -- a type that is not misplaced suits its place, and nothing inside it is misplaced
    suited : (place : Place) (t : Tree) → is_none (misplaced_in list f m place t) ≡ true → (is_none (misplaced_inside list f m t) ≡ true) × (suits place (type_in list f m t) ≡ true)
    suited place t placed =
        let fit = suits place (type_in list f m t) in
        let both = none_else (misplaced_inside list f m t) (unless fit (span_of t)) placed in
        (both.0, unless_holds fit (span_of t) both.1)

    all_plain : (ts : Trees) → is_none (misplaced_among list f m ts) ≡ true → are_plain (types_in list f m ts) ≡ true
    all_plain none placed = refl
    all_plain (more t ts) placed =
        let both = none_else (misplaced_in list f m place_is.Value t) (misplaced_among list f m ts) placed in
        and_from (is_plain (type_in list f m t)) (are_plain (types_in list f m ts)) (suited place_is.Value t both.0).1 (all_plain ts both.1)

    mutual
      inside_full : (t : Tree) → is_type list f m t ≡ true → is_none (misplaced_inside list f m t) ≡ true → Each (HasType list f) (mentions_in list m t) → is_full (type_in list f m t) ≡ true
      inside_full (node (form_is.Type type_is.Path) span (more path none)) is placed has =
          let meaning = path_means list f m path in
          meaning_full meaning is (unless_holds (names_type list meaning) span placed) (λ g e. mentioned (HasType list f) list f m (path_names path) g e has)
      inside_full (node (form_is.Type type_is.Bool) span none) is placed has = refl
      inside_full (node (form_is.Type type_is.Bytes) span none) is placed has = refl
      inside_full (node (form_is.Type type_is.String) span none) is placed has = refl
      inside_full (node (form_is.Type type_is.Void) span none) is placed has = refl
      inside_full (node (form_is.Type (type_is.Int w)) span none) is placed has = int_full w
      inside_full (node (form_is.Type type_is.Tuple) span ts) is placed has =
          let us = types_in list f m ts in
          let full = types_full ts is placed has in
          let plain = all_plain ts placed in
          whole_full maker_is.Tuple us full plain (and_from (have_values us) (are_full us) (are_valued us plain) full)
      inside_full (node (form_is.Type type_is.Vector) span (more t none)) is placed has =
          let s = suited place_is.Value t placed in
          let u = type_in list f m t in
          let full = inside_full t is s.0 (each_left (HasType list f) (mentions_in list m t) [] has) in
          whole_full maker_is.Vector (types.more u types.none) (and_from (is_full u) true full refl) (and_from (is_plain u) true s.1 refl) (vector_full u (plain_valued u s.1) full)
      inside_full (node (form_is.Type type_is.Set) span (more t none)) is placed has =
          let s = suited place_is.Key t placed in
          let u = type_in list f m t in
          let full = inside_full t is s.0 (each_left (HasType list f) (mentions_in list m t) [] has) in
          whole_full maker_is.Set (types.more u types.none) (and_from (is_full u) true full refl) s.1 (set_full u s.1 full)
      inside_full (node (form_is.Type type_is.Map) span (more k (more v none))) is placed has =
          let both = none_else (misplaced_in list f m place_is.Key k) (misplaced_in list f m place_is.Value v) placed in
          let key = suited place_is.Key k both.0 in
          let value = suited place_is.Value v both.1 in
          let are = and_parts (is_type list f m k) (is_type list f m v) is in
          let behind = each_right (HasType list f) (mentions_in list m k) (mentions_in list m v ++ []) has in
          let s = type_in list f m k in
          let u = type_in list f m v in
          let full_key = inside_full k are.0 key.0 (each_left (HasType list f) (mentions_in list m k) (mentions_in list m v ++ []) has) in
          let full_value = inside_full v are.1 value.0 (each_left (HasType list f) (mentions_in list m v) [] behind) in
          whole_full maker_is.Map (types.more s (types.more u types.none))
          (and_from (is_full s) (is_full u && true) full_key (and_from (is_full u) true full_value refl))
          (and_from (is_key s) (is_plain u && true) key.1 (and_from (is_plain u) true value.1 refl))
          (keyed_full s u key.1 (plain_valued u value.1) full_key full_value)
      inside_full (node (form_is.Type type_is.Bitfield) span ts) is placed has = bitfield_full (bitfield_number list m span.from) is
      inside_full (node (form_is.Type type_is.Enum) span ts) is placed has = never placed
      inside_full (node (form_is.Type type_is.Unit) span ts) is placed has = never placed
      inside_full _ is placed has = never is

      types_full : (ts : Trees) → are_types list f m ts ≡ true → is_none (misplaced_among list f m ts) ≡ true → Each (HasType list f) (mentions_among list m ts) → are_full (types_in list f m ts) ≡ true
      types_full none is placed has = refl
      types_full (more t ts) is placed has =
          let are = and_parts (is_type list f m t) (are_types list f m ts) is in
          let both = none_else (misplaced_in list f m place_is.Value t) (misplaced_among list f m ts) placed in
          and_from (is_full (type_in list f m t)) (are_full (types_in list f m ts))
          (inside_full t are.0 (suited place_is.Value t both.0).0 (each_left (HasType list f) (mentions_in list m t) (mentions_among list m ts) has))
          (types_full ts are.1 both.1 (each_right (HasType list f) (mentions_in list m t) (mentions_among list m ts) has))

    -- what is declared with a type at a place where it can stand has a full type
    pub type_full : (place : Place) (t : Tree) → is_type list f m t ≡ true → is_none (misplaced_in list f m place t) ≡ true → Each (HasType list f) (mentions_in list m t) → is_full (type_at list f m place t) ≡ true
    type_full place t is placed has =
        let s = suited place t placed in
        chosen_full (suits place (type_in list f m t)) (type_in list f m t) s.1 (inside_full t is s.0 has)

    -- where a value is kept it is of a plain type, and where a key is it is of a type of keys
    pub type_kept : (t : Tree) → is_none (misplaced_in list f m place_is.Value t) ≡ true → is_plain (type_at list f m place_is.Value t) ≡ true
    type_kept t placed = (let s = (suited place_is.Value t placed).1 in suiting (λ u. is_plain u ≡ true) (is_plain (type_in list f m t)) (type_in list f m t) s s)

    pub type_key : (t : Tree) → is_none (misplaced_in list f m place_is.Key t) ≡ true → is_key (type_at list f m place_is.Key t) ≡ true
    type_key t placed = (let s = (suited place_is.Key t placed).1 in suiting (λ u. is_key u ≡ true) (is_key (type_in list f m t)) (type_in list f m t) s s)

    -- where each declaration of a type has a full one, so have all that a type mentions
    pub each_has : ((g : ℕ) → HasType list f g) → (ns : List ℕ) → Each (HasType list f) ns
    each_has h [] = tt
    each_has h (n ∷ ns) = (h n, each_has h ns)

    -- each name in a type names something
    path_named : (path : Tree) (meaning : Meaning) → means_something meaning ≡ true → is_none (nothing_at path meaning) ≡ true
    path_named path (meaning_is.Nothing k) e = never e
    path_named path _ e = refl

    mutual
      pub type_named : (t : Tree) → is_type list f m t ≡ true → is_none (unnamed_in list f m t) ≡ true
      type_named (node (form_is.Type type_is.Path) span (more path none)) is = path_named path (path_means list f m path) is
      type_named (node (form_is.Type type_is.Bool) span none) is = refl
      type_named (node (form_is.Type type_is.Bytes) span none) is = refl
      type_named (node (form_is.Type type_is.String) span none) is = refl
      type_named (node (form_is.Type type_is.Void) span none) is = refl
      type_named (node (form_is.Type (type_is.Int w)) span none) is = refl
      type_named (node (form_is.Type type_is.Tuple) span ts) is = types_named ts is
      type_named (node (form_is.Type type_is.Vector) span (more t none)) is = both_none (unnamed_in list f m t) None (type_named t is) refl
      type_named (node (form_is.Type type_is.Set) span (more t none)) is = both_none (unnamed_in list f m t) None (type_named t is) refl
      type_named (node (form_is.Type type_is.Map) span (more k (more v none))) is =
          let are = and_parts (is_type list f m k) (is_type list f m v) is in
          both_none (unnamed_in list f m k) (or_else (unnamed_in list f m v) None) (type_named k are.0) (both_none (unnamed_in list f m v) None (type_named v are.1) refl)
      type_named (node (form_is.Type type_is.Bitfield) span ts) is = refl
      type_named (node (form_is.Type type_is.Enum) span ts) is = refl
      type_named (node (form_is.Type type_is.Unit) span ts) is = refl
      type_named _ is = never is

      pub types_named : (ts : Trees) → are_types list f m ts ≡ true → is_none (unnamed_among list f m ts) ≡ true
      types_named none is = refl
      types_named (more t ts) is =
          let are = and_parts (is_type list f m t) (are_types list f m ts) is in
          both_none (unnamed_in list f m t) (unnamed_among list f m ts) (type_named t are.0) (types_named ts are.1)
