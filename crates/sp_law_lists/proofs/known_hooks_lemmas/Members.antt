-- A field that has a name stands among the places of hooks.
use Rattle.std.specs.Prelude.{◌&&◌, ◌||◌, if◌then◌else◌, filter, not}
use Rattle.std.specs.Str.{bytes_eq}
use Rattle.std.proofs.Common.{ℕ, ◌≡◌, ◌+◌, ◌≤◌, suc, Bool, true, false, refl, sym, ap, ◌∙◌, List, [], ◌∷◌, ◌++◌, Option, Some, None, slice_get, arith, zero}
use Rattle.std.proofs.lemmas.Bool.{and_parts, and_from}
use Rattle.std.proofs.lemmas.Slice.Eq.{bytes_eq-Decides}
use Rattle.sp_base.specs.declared.places.Span.{Span}
use Rattle.sp_ast.specs.Trees.{Tree, Trees, absent, row, node, none, more}
use Rattle.sp_ast.specs.declared.forms.Form.TheVariants as form_is
use Rattle.sp_ast.specs.declared.forms.ItemForm.TheVariants as item_is
use Rattle.sp_ast.specs.declared.forms.PartForm.TheVariants as part_is
use Rattle.sp_ast.specs.declared.forms.BodyForm.TheVariants as body_is
use Rattle.sp_typed_units.specs.declared.declarations.MemberKind.{MemberKind}
use Rattle.sp_typed_units.specs.declared.declarations.MemberKind.TheVariants as kind_is
use Rattle.sp_type_modules.specs.Members.{UnitMember, field_member, named_in, named_among, is_called, firsts, unit_members, numbered, kinds_of}
use Rattle.sp_type_hook_rows.specs.declared.sites.Holder.TheVariants as holder_is
use Rattle.sp_type_hook_rows.specs.declared.sites.Site.{Site}
use Rattle.sp_type_hook_rows.specs.Sites.{sites_in, sites_among}
use Rattle.sp_type_hook_rows.specs.HookRows.{if_field, field_among, field_number}
use Rattle.sp_type_hook_rows.specs.Places.{member_key}
use Rattle.sp_type_hooks.specs.Fields.{mark_of, key_in, site_mark}
use Rattle.sp_law_lists.proofs.known_types_lemmas.Full.{never}
use Rattle.sp_law_lists.proofs.whole_list_lemmas.Modules.{none_found, some_found}
use Rattle.sp_law_lists.proofs.known_hooks_lemmas.Marks.{some_marked, marked_behind, marked_before, marked_here}

abbrev pub is_field : MemberKind → Bool
is_field kind_is.Field = true
is_field _ = false

-- whether a field among members has a name
abbrev pub has_field : List ℕ → List UnitMember → Bool
has_field x [] = false
has_field x (m ∷ ms) = is_field m.kind && is_called x m || has_field x ms

either : {X : Type 0} (a b : Bool) → (a || b) ≡ true → (a ≡ true → X) → (b ≡ true → X) → X
either true b e left right = left refl
either false b e left right = right e

in_both : (x : List ℕ) (xs ys : List UnitMember) → has_field x (xs ++ ys) ≡ true → (has_field x xs || has_field x ys) ≡ true
in_both x [] ys e = e
in_both x (m ∷ xs) ys e = by (is_field m.kind && is_called x m) e (in_both x xs ys)
  where
    by : (b : Bool) → (b || has_field x (xs ++ ys)) ≡ true → (has_field x (xs ++ ys) ≡ true → (has_field x xs || has_field x ys) ≡ true) → (b || has_field x xs || has_field x ys) ≡ true
    by true e next = refl
    by false e next = next e

-- the first of each name are among all
among_all : (x : List ℕ) (p : UnitMember → Bool) (ms : List UnitMember) → has_field x (filter p ms) ≡ true → has_field x ms ≡ true
among_all x p [] e = e
among_all x p (m ∷ ms) e = by (p m) e (among_all x p ms)
  where
    right : (a b : Bool) → b ≡ true → (a || b) ≡ true
    right true b e = refl
    right false b e = e

    kept : (a : Bool) → (a || has_field x (filter p ms)) ≡ true → (has_field x (filter p ms) ≡ true → has_field x ms ≡ true) → (a || has_field x ms) ≡ true
    kept true e next = refl
    kept false e next = next e

    by : (b : Bool) → has_field x (if b then m ∷ filter p ms else filter p ms) ≡ true → (has_field x (filter p ms) ≡ true → has_field x ms ≡ true) → has_field x (m ∷ ms) ≡ true
    by true e next = kept (is_field m.kind && is_called x m) e next
    by false e next = right (is_field m.kind && is_called x m) (has_field x ms) (next e)

among_firsts : (x : List ℕ) (ms : List UnitMember) → has_field x (firsts ms) ≡ true → has_field x ms ≡ true
among_firsts x [] e = e
among_firsts x (m ∷ ms) e = by (is_field m.kind && is_called x m) e (λ a. among_firsts x ms (among_all x (λ n. not (is_called n.name m)) (firsts ms) a))
  where
    by : (b : Bool) → (b || has_field x (filter (λ n. not (is_called n.name m)) (firsts ms))) ≡ true → (has_field x (filter (λ n. not (is_called n.name m)) (firsts ms)) ≡ true → has_field x ms ≡ true) → (b || has_field x ms) ≡ true
    by true e next = refl
    by false e next = next e

-- a number is not below the first one
later_rises : (x : List ℕ) (h : ℕ) (ms : List UnitMember) (i : ℕ) → numbered x h ms ≡ Some i → h ≤ i
later_rises x h [] i e = none_found i e
later_rises x h (m ∷ ms) i e = by (is_called x m) e (later_rises x (suc h) ms i)
  where
    by : (b : Bool) → (if b then Some h else numbered x (suc h) ms) ≡ Some i → (numbered x (suc h) ms ≡ Some i → suc h ≤ i) → h ≤ i
    by true e next = (let same : h ≡ i = some_found h i e in omega (arith, same))
    by false e next = (let low = next e in omega (arith, low))

-- a member that has a number of a field is one
field_is : (x : List ℕ) (h : ℕ) (ms : List UnitMember) (i k : ℕ) → numbered x h ms ≡ Some i → (j : ℕ) → i ≡ h + j → if_field i (slice_get (kinds_of ms) j) ≡ Some k → has_field x ms ≡ true
field_is x h [] i k e j at field = none_found i e
field_is x h (m ∷ ms) i k e j at field = by (is_called x m) refl e j at field (λ r. field_is x (suc h) ms i k r)
  where
    here : (kind : MemberKind) (b : Bool) → b ≡ true → if_field i (Some kind) ≡ Some k → (is_field kind && b || has_field x ms) ≡ true
    here kind_is.Field true c f = refl
    here kind_is.Field false c f = never c
    here kind_is.Variable b c f = none_found k f
    here kind_is.Sink b c f = none_found k f

    right : (a b : Bool) → b ≡ true → (a || b) ≡ true
    right true b e = refl
    right false b e = e

    by : (b : Bool) → is_called x m ≡ b → (if b then Some h else numbered x (suc h) ms) ≡ Some i → (j : ℕ) → i ≡ h + j → if_field i (slice_get (kinds_of (m ∷ ms)) j) ≡ Some k
        → (numbered x (suc h) ms ≡ Some i → (l : ℕ) → i ≡ suc h + l → if_field i (slice_get (kinds_of ms) l) ≡ Some k → has_field x ms ≡ true) → (is_field m.kind && is_called x m || has_field x ms) ≡ true
    by true is e zero at field next = here m.kind (is_called x m) is field
    by true is e (suc j) at field next = absurd (let same : h ≡ i = some_found h i e in let z : ⊥ = omega (arith, same, at) in z)
    by false is e zero at field next = absurd (let low = later_rises x (suc h) ms i e in let z : ⊥ = omega (arith, low, at) in z)
    by false is e (suc j) at field next = right (is_field m.kind && is_called x m) (has_field x ms) (next e j (omega (arith, at)) field)

module _ (list : List Tree) (m n : ℕ) (x : List ℕ) (k : ℕ) (number : field_number list n x ≡ Some k) where
  abbrev mark : ℕ × ℕ × ℕ
  mark = (1, n, k)

  abbrev found : List Site → Bool
  found ss = some_marked list mark ss

  -- a field of this name has the mark
  one_field : (t : Tree) → has_field x (field_member t) ≡ true → found (record { «module» = m; unit = n; holder = holder_is.Field t } ∷ []) ≡ true
  one_field (node form_is.Field span (more (node (form_is.Name y) s us) ts)) e =
      let called : bytes_eq x y ≡ true = either (bytes_eq x y) false e (λ a. a) (λ a. never a) in
      let same : x ≡ y = (bytes_eq-Decides x y).0 called in
      marked_here list mark (record { «module» = m; unit = n; holder = holder_is.Field (node form_is.Field span (more (node (form_is.Name y) s us) ts)) }) [] (ap (λ z. mark_of (key_in (member_key n s.from (field_number list n z)))) (sym same) ∙ ap (λ o. mark_of (key_in (member_key n s.from o))) number)
  one_field (node form_is.Field span (more (node _ s us) ts)) e = never e
  one_field (node form_is.Field span (more absent ts)) e = never e
  one_field (node form_is.Field span (more (row us) ts)) e = never e
  one_field (node form_is.Field span none) e = never e
  one_field (node _ span ts) e = never e
  one_field absent e = never e
  one_field (row ts) e = never e

  mutual
    in_tree : (t : Tree) → has_field x (named_in t) ≡ true → found (sites_in m n t) ≡ true
    in_tree (node (form_is.Item item_is.Variable) span (more name ts)) e = never e
    in_tree (node (form_is.Item item_is.Variable) span none) e = never e
    in_tree (node (form_is.Item item_is.Sink) span (more name ts)) e = never e
    in_tree (node (form_is.Item item_is.Sink) span none) e = never e
    in_tree (node (form_is.Item item_is.Part) span (more part ts)) e = in_tree part e
    in_tree (node (form_is.Item item_is.Part) span none) e = never e
    in_tree (node (form_is.Item _) span ts) e = never e
    in_tree (node (form_is.Part part_is.Field) span (more field ts)) e = one_field field e
    in_tree (node (form_is.Part part_is.Field) span none) e = never e
    in_tree (node (form_is.Part part_is.Switch) span (more subject (more (row arms) ts))) e = among arms e
    in_tree (node (form_is.Part part_is.Switch) span none) e = never e
    in_tree (node (form_is.Part part_is.Switch) span (more subject none)) e = never e
    in_tree (node (form_is.Part part_is.Switch) span (more subject (more absent ts))) e = never e
    in_tree (node (form_is.Part part_is.Switch) span (more subject (more (node form at us) ts))) e = never e
    in_tree (node form_is.Arm span (more guard (more body ts))) e = in_tree body e
    in_tree (node form_is.Arm span none) e = never e
    in_tree (node form_is.Arm span (more guard none)) e = never e
    in_tree (node (form_is.Body body_is.One) span ts) e = among ts e
    in_tree (node (form_is.Body body_is.Many) span ts) e = among ts e
    in_tree (node (form_is.Body body_is.Nothing) span ts) e = never e
    in_tree absent e = never e
    in_tree (row ts) e = never e
    in_tree (node _ span ts) e = never e

    among : (ts : Trees) → has_field x (named_among ts) ≡ true → found (sites_among m n ts) ≡ true
    among none e = never e
    among (more t ts) e =
        either (has_field x (named_in t)) (has_field x (named_among ts)) (in_both x (named_in t) (named_among ts) e) (λ a. marked_before list mark (sites_in m n t) (sites_among m n ts) (in_tree t a)) (λ a. marked_behind list mark (sites_in m n t) (sites_among m n ts) (among ts a))

  -- so does one among the members of the unit
  pub member_found : (ts : Trees) → unit_members list n ≡ firsts (named_among ts) → found (sites_among m n ts) ≡ true
  member_found ts same = by (numbered x 0 (unit_members list n)) refl number
    where
      by : (o : Option ℕ) → numbered x 0 (unit_members list n) ≡ o → field_among (unit_members list n) o ≡ Some k → found (sites_among m n ts) ≡ true
      by None is e = none_found k e
      by (Some i) is e =
          let z : i ≡ 0 + i = omega arith in
          let has = field_is x 0 (unit_members list n) i k is i z e in
          among ts (among_firsts x (named_among ts) (sym (ap (has_field x) same) ∙ has))
