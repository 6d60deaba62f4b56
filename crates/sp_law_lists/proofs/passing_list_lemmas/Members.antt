-- The members of the units and of the bitfields of a typed list: each has the type that it has where expressions are typed.
use Rattle.std.specs.Prelude.{Bool, true, false, ◌||◌, ◌==◌, if◌then◌else◌, nat_lt, map, length}
use Rattle.std.proofs.Common.{ℕ, ◌≡◌, ◌+◌, ◌<◌, zero, suc, refl, sym, ap, subst, ◌∙◌, arith, List, [], ◌∷◌, Option, Some, None, slice_get}
use Rattle.std.proofs.lemmas.Bool.{and_from}
use Rattle.std.proofs.lemmas.Bool.Decides.{nat_tests}
use Rattle.sp_ast.specs.Trees.{Tree}
use Rattle.sp_numbers.specs.declared.width.Width.TheVariants.{W8, W16, W32, W64}
use Rattle.sp_types.specs.declared.words.Word.TheVariants as word_is
use Rattle.sp_types.specs.Types.{Ty, word}
use Rattle.sp_types.proofs.Same.{same_itself}
use Rattle.sp_solver.specs.Told.{told}
use Rattle.sp_type_operands.specs.Operands.{unknown}
use Rattle.sp_typed.specs.declared.words.OneOp.TheVariants as one_is
use Rattle.sp_typed_units.specs.declared.declarations.MemberKind.{MemberKind}
use Rattle.sp_typed_units.specs.declared.declarations.MemberKind.TheVariants as kind_is
use Rattle.sp_typed_units.specs.declared.declarations.Typed.{Typed}
use Rattle.sp_typed_units.specs.declared.declarations.Unit.{Unit as TypedUnit}
use Rattle.sp_names.specs.declared.rows.Declaration.{Declaration}
use Rattle.sp_names.specs.declared.rows.Bitfield.{Bitfield as Written}
use Rattle.sp_names.specs.declared.sort.DeclSort.TheVariants as sort_is
use Rattle.sp_names.specs.Declarations.{all_of, declaration_at}
use Rattle.sp_names.specs.Names.{declaration_of, first_named, is_name}
use Rattle.sp_names.specs.Types.{bitfields}
use Rattle.sp_type_context.specs.declared.context.Member.{Member}
use Rattle.sp_type_context.specs.Contexts.{Around as Names}
use Rattle.sp_meaning_states.specs.Types.{ranges_of}
use Rattle.sp_code_meaning.specs.Layouts.{Layout}
use Rattle.sp_meaning.specs.Globals.{range_counts}
use Rattle.sp_type_modules.specs.Members.{UnitMember, members_of, unit_members, declared_unit, numbered, kinds_of, range_name, range_number, bitfield_width, bitfield_ranges, bitfield_tree, tree_of}
use Rattle.sp_type_modules.specs.Arounds.{stored_by, kind_type, kind_member, some_member, unit_member, width_type, bit_member, member_of}
use Rattle.sp_type_list_context.specs.Contexts.{in_module, homes_of, at_home}
use Rattle.sp_type_declarations.specs.Bitfields.{bit_range, typed_bitfield}
use Rattle.sp_type_values.specs.declared.answer.Answer.{Answer}
use Rattle.sp_type_hook_rows.specs.declared.rows.HookRow.{HookRow}
use Rattle.sp_type_hook_rows.specs.declared.sites.Site.{Site}
use Rattle.sp_type_hook_rows.specs.Sites.{sites}
use Rattle.sp_type_hook_rows.specs.HookRows.{hook_rows}
use Rattle.sp_typed_units.specs.declared.declarations.Hook.{Hook}
use Rattle.sp_type_values.specs.Answers.{values}
use Rattle.sp_type_units.specs.UnitRows.{member_rows, declared_row, unit_row}
use Rattle.sp_type_answers.specs.Settled.{Answers}
use Rattle.sp_type_answers.specs.Lists.{calls_of, by_keys, hooks_in, units_from, typed_of}
use Rattle.sp_law_lists.proofs.whole_list_lemmas.Modules.{none_found, some_found}
use Rattle.sp_law_lists.specs.fit_expr.Around.{Around}
use Rattle.sp_law_lists.specs.fit_expr.Sorts.{Unsigned, casts}
use Rattle.sp_law_lists.specs.fit_expr.Lists.{is_type}
use Rattle.sp_law_lists.specs.fit_expr.Test.{member_type, member_is}
use Rattle.sp_law_lists.specs.known_types.Full.{is_unknown}
use Rattle.sp_law_lists.specs.known_kinds.Made.{member_made}

-- what stands round the code of an expression of a typed list
abbrev pub round_of : Typed → Layout → List Ty → Option ℕ → Around
round_of t places locals unit = record {
  list = t;
  places = places;
  locals = locals;
  unit = unit;
}

pub found_below : {A : Type 0} (xs : List A) (n : ℕ) (x : A) → slice_get xs n ≡ Some x → n < length xs
found_below [] n x e = none_found x e
found_below (y ∷ xs) zero x e = omega arith
found_below (y ∷ xs) (suc n) x e = (let h = found_below xs n x e in omega (arith, h))

-- rows of members
pub row_of_member : (stored : ℕ → Ty) (i : ℕ) (ms : List UnitMember) (k : ℕ) (kind : MemberKind) → slice_get (kinds_of ms) k ≡ Some kind → member_type (slice_get (member_rows stored i ms) k) ≡ Some (kind_type stored (i + k) kind)
row_of_member stored i [] k kind e = none_found kind e
row_of_member stored i (x ∷ ms) zero kind e =
    let s : i ≡ i + 0 = omega arith in
    ap Some (ap (kind_type stored i) (some_found x.kind kind e) ∙ ap (λ j. kind_type stored j kind) s)
row_of_member stored i (x ∷ ms) (suc k) kind e =
    let s : suc i + k ≡ i + suc k = omega arith in
    row_of_member stored (suc i) ms k kind e ∙ ap (λ j. Some (kind_type stored j kind)) s

-- ranges of bitfields
ranges_at : (bs : List Written) (n : ℕ) → ranges_of (range_counts (map typed_bitfield bs)) n ≡ length (map bit_range (bitfield_ranges (tree_of (slice_get bs n))))
ranges_at [] n = refl
ranges_at (b ∷ bs) zero = refl
ranges_at (b ∷ bs) (suc n) = ranges_at bs n

as_many : (ts : List Tree) → length (map bit_range ts) ≡ length ts
as_many [] = refl
as_many (t ∷ ts) = ap suc (as_many ts)

named_below : (gives : Tree → Option (List ℕ)) (x : List ℕ) (i : ℕ) (ts : List Tree) (k : ℕ) → first_named gives x i ts ≡ Some k → k < i + length ts
named_below gives x i [] k e = none_found k e
named_below gives x i (t ∷ ts) k e = by (is_name x (gives t)) (λ h. named_below gives x (suc i) ts k h) e
  where
    by : (b : Bool) → (first_named gives x (suc i) ts ≡ Some k → k < suc i + length ts) → (if b then Some i else first_named gives x (suc i) ts) ≡ Some k → k < i + suc (length ts)
    by true later h = (let s : i ≡ k = some_found i k h in omega (arith, s))
    by false later h = (let below = later h in omega (arith, below))

abbrev IsWidth : Ty → Type 0
IsWidth u = (is_unknown u || casts Unsigned u) ≡ true

fourth_width : (b : Bool) → IsWidth (if b then word (word_is.Uint W64) else unknown)
fourth_width true = refl
fourth_width false = refl

third_width : (b c : Bool) → IsWidth (if b then word (word_is.Uint W32) else (if c then word (word_is.Uint W64) else unknown))
third_width true c = refl
third_width false c = fourth_width c

second_width : (b c d : Bool) → IsWidth (if b then word (word_is.Uint W16) else (if c then word (word_is.Uint W32) else (if d then word (word_is.Uint W64) else unknown)))
second_width true c d = refl
second_width false c d = third_width c d

first_width : (b c d e : Bool) → IsWidth (if b then word (word_is.Uint W8) else (if c then word (word_is.Uint W16) else (if d then word (word_is.Uint W32) else (if e then word (word_is.Uint W64) else unknown))))
first_width true c d e = refl
first_width false c d e = second_width c d e

width_known : (n : ℕ) → IsWidth (width_type n)
width_known n = first_width (n == 8) (n == 16) (n == 32) (n == 64)

-- units by their numbers
module _ (list : List Tree) (f : ℕ → Option Ty) (known : ℕ → Option Answer) (s : List (Option Ty)) where
  homes_get : (gs : List ℕ) (n g : ℕ) (d : Declaration) → slice_get gs n ≡ Some g → declaration_at list g ≡ Some d → slice_get (homes_of list f known (told s) gs) n ≡ Some (in_module list f known (told s) d.«module»)
  homes_get [] n g d e at = none_found g e
  homes_get (x ∷ gs) zero g d e at = ap (λ o. Some (at_home list f known (told s) o)) (ap (declaration_at list) (some_found x g e) ∙ at)
  homes_get (x ∷ gs) (suc n) g d e at = homes_get gs n g d e at

  module _ (ss : List Site) (rs : List HookRow) (hs : List Hook) where
    abbrev pub row_at : ℕ → Names → TypedUnit
    row_at n g = unit_row list (told s) ss (by_keys rs hs) (values list f known) (calls_of hs n) g n

    rows_get : (h : ℕ) (gs : List Names) (j : ℕ) (g : Names) → slice_get gs j ≡ Some g → slice_get (units_from list f known s ss rs hs h gs) j ≡ Some (row_at (h + j) g)
    rows_get h [] j g e = none_found g e
    rows_get h (x ∷ gs) zero g e =
        let z : h ≡ h + 0 = omega arith in
        ap (λ y. Some (row_at h y)) (some_found x g e) ∙ ap (λ i. Some (row_at i g)) z
    rows_get h (x ∷ gs) (suc j) g e =
        let z : suc h + j ≡ h + suc j = omega arith in
        rows_get (suc h) gs j g e ∙ ap (λ i. Some (row_at i g)) z

    pub unit_get : (n g : ℕ) (d : Declaration) → slice_get (all_of sort_is.Unit list) n ≡ Some g → declaration_at list g ≡ Some d
        → slice_get (units_from list f known s ss rs hs 0 (homes_of list f known (told s) (all_of sort_is.Unit list))) n ≡ Some (row_at n (in_module list f known (told s) d.«module»))
    unit_get n g d at is =
        let z : 0 + n ≡ n = omega arith in
        let home = in_module list f known (told s) d.«module» in
        rows_get 0 (homes_of list f known (told s) (all_of sort_is.Unit list)) n home (homes_get (all_of sort_is.Unit list) n g d at is) ∙ ap (λ i. Some (row_at i home)) z

module _ (list : List Tree) (a : Answers list) where
  abbrev f : ℕ → Option Ty
  f = told a.types

  abbrev pub t : Typed
  t = typed_of list a

  abbrev stored : ℕ → ℕ → Ty
  stored = stored_by list (told a.stored)

  abbrev rs : List HookRow
  rs = hook_rows list f

  abbrev hs : List Hook
  hs = hooks_in list f (told a.values) a.stored (sites list) rs

  -- the row of the unit of a number
  pub unit_found : (n g : ℕ) (d : Declaration) → slice_get (all_of sort_is.Unit list) n ≡ Some g → declaration_at list g ≡ Some d
      → slice_get t.units n ≡ Some (declared_row list (told a.stored) (sites list) (by_keys rs hs) (values list f (told a.values)) (calls_of hs n) (in_module list f (told a.values) (told a.stored) d.«module») n (Some d))
  unit_found n g d at is =
      let home = in_module list f (told a.values) (told a.stored) d.«module» in
      unit_get list f (told a.values) a.stored (sites list) rs hs n g d at is
      ∙ ap (λ o. Some (declared_row list (told a.stored) (sites list) (by_keys rs hs) (values list f (told a.values)) (calls_of hs n) home n o)) (ap (declaration_of list) at ∙ is)

  stored_at : (n k : ℕ) (kind : MemberKind) → slice_get (kinds_of (unit_members list n)) k ≡ Some kind → member_is (slice_get t.units n) k (kind_type (stored n) k kind) ≡ true
  stored_at n k kind e = by (slice_get (all_of sort_is.Unit list) n) refl e
    where
      found : (g : ℕ) (o : Option Declaration) → slice_get (all_of sort_is.Unit list) n ≡ Some g → declaration_at list g ≡ o → slice_get (kinds_of (members_of (declared_unit o))) k ≡ Some kind → member_is (slice_get t.units n) k (kind_type (stored n) k kind) ≡ true
      found g None at is h = none_found kind h
      found g (Some d) at is h =
          let z : 0 + k ≡ k = omega arith in
          let row = row_of_member (stored n) 0 (members_of (declared_unit (Some d))) k kind h ∙ ap (λ j. Some (kind_type (stored n) j kind)) z in
          subst (λ o. member_is o k (kind_type (stored n) k kind) ≡ true) (sym (unit_found n g d at is))
          (subst (λ o. is_type o (kind_type (stored n) k kind) ≡ true) (sym row) (same_itself (kind_type (stored n) k kind)))

      by : (o : Option ℕ) → slice_get (all_of sort_is.Unit list) n ≡ o → slice_get (kinds_of (members_of (declared_unit (declaration_of list o)))) k ≡ Some kind → member_is (slice_get t.units n) k (kind_type (stored n) k kind) ≡ true
      by None at h = none_found kind h
      by (Some g) at h = found g (declaration_at list g) at refl h

  module _ (places : Layout) (locals : List Ty) (unit : Option ℕ) where
    abbrev around : Around
    around = round_of t places locals unit

    kind_made : (n k : ℕ) (kind : MemberKind) → member_is (slice_get t.units n) k (kind_type (stored n) k kind) ≡ true → (found : Member) → kind_member (kind_type (stored n) k kind) k kind ≡ found → member_made around found.op (word (word_is.Unit n)) found.ty ≡ true
    kind_made n k kind_is.Field is found e = subst (λ (x : Member). member_made around x.op (word (word_is.Unit n)) x.ty ≡ true) e is
    kind_made n k kind_is.Variable is found e = subst (λ (x : Member). member_made around x.op (word (word_is.Unit n)) x.ty ≡ true) e is
    kind_made n k kind_is.Sink is found e = subst (λ (x : Member). member_made around x.op (word (word_is.Unit n)) x.ty ≡ true) e refl

    some_made : (n k : ℕ) (o : Option MemberKind) → slice_get (kinds_of (unit_members list n)) k ≡ o → (found : Member) → some_member (stored n) k o ≡ Some found → member_made around found.op (word (word_is.Unit n)) found.ty ≡ true
    some_made n k None at found e = none_found found e
    some_made n k (Some kind) at found e = kind_made n k kind (stored_at n k kind at) found (some_found (kind_member (kind_type (stored n) k kind) k kind) found e)

    unit_made : (n : ℕ) (o : Option ℕ) (found : Member) → unit_member (stored n) (unit_members list n) o ≡ Some found → member_made around found.op (word (word_is.Unit n)) found.ty ≡ true
    unit_made n None found e = none_found found e
    unit_made n (Some k) found e = some_made n k (slice_get (kinds_of (unit_members list n)) k) refl found e

    bit_made : (n : ℕ) (o : Option ℕ) → ((k : ℕ) → o ≡ Some k → nat_lt k (ranges_of (range_counts t.bitfields) n) ≡ true) → (found : Member) → bit_member (width_type (bitfield_width (bitfield_tree list n))) o ≡ Some found
        → member_made around found.op (word (word_is.Bitfield n)) found.ty ≡ true
    bit_made n None below found e = none_found found e
    bit_made n (Some k) below found e =
        let w = width_type (bitfield_width (bitfield_tree list n)) in
        subst (λ (x : Member). member_made around x.op (word (word_is.Bitfield n)) x.ty ≡ true) (some_found (record { op = one_is.Bit k; ty = w }) found e)
        (and_from (nat_lt k (ranges_of (range_counts t.bitfields) n)) (is_unknown w || casts Unsigned w) (below k refl) (width_known (bitfield_width (bitfield_tree list n))))

    range_below : (n : ℕ) (x : List ℕ) (k : ℕ) → range_number list n x ≡ Some k → nat_lt k (ranges_of (range_counts t.bitfields) n) ≡ true
    range_below n x k e =
        let ts = bitfield_ranges (bitfield_tree list n) in
        let lt : k < 0 + length ts = named_below range_name x 0 ts k e in
        let many : ranges_of (range_counts t.bitfields) n ≡ length ts = ranges_at (bitfields list) n ∙ as_many ts in
        let below : k < ranges_of (range_counts t.bitfields) n = omega (arith, lt, many) in
        grind (arith, nat_tests)

    -- Members are members.
    pub members_made : (ty : Ty) (name : List ℕ) (found : Member) → member_of list stored ty name ≡ Some found → member_made around found.op ty found.ty ≡ true
    members_made (word (word_is.Unit n)) name found e = unit_made n (numbered name 0 (unit_members list n)) found e
    members_made (word (word_is.Bitfield n)) name found e = bit_made n (range_number list n name) (λ k at. range_below n name k at) found e
    members_made _ name found e = none_found found e
