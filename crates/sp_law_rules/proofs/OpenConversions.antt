-- What is open in conversions, by the list of them, and that they stay as they are where more is known.
use Rattle.std.specs.Prelude.{ℕ, ◌+◌, Bool, true, false, nat_lt, if◌then◌else◌, List, [], ◌∷◌, ◌++◌, Option, Some, None}
use Rattle.std.proofs.Common.{◌≡◌, ◌<◌, ◌⊎◌, inl, inr, refl, sym, ap, ◌∙◌, arith}
use Rattle.std.proofs.lemmas.Bool.Decides.{nat_tests}
use Rattle.sp_base.specs.declared.places.Span.{Span}
use Rattle.sp_ast.specs.Trees.{Tree, Trees, absent, row, node, none, more, span_of}
use Rattle.sp_ast.specs.declared.forms.Form.TheVariants as form_is
use Rattle.sp_ast.specs.declared.forms.BaseForm.TheVariants as base_is
use Rattle.sp_solver.specs.Rounds.{Within}
use Rattle.sp_solver.specs.Rows.{Among}
use Rattle.sp_types.specs.Types.{Ty, word}
use Rattle.sp_types.specs.declared.words.Word.TheVariants as word_is
use Rattle.sp_typed.specs.declared.words.OneOp.{OneOp}
use Rattle.sp_typed.specs.declared.words.OneOp.TheVariants as one_is
use Rattle.sp_typed.specs.declared.words.Standing.TheVariants as standing_is
use Rattle.sp_typed.specs.Exprs.{Expr, Exprs, leaf, one, two, three, many}
use Rattle.sp_typed.specs.Exprs as typed_is
use Rattle.sp_type_operands.specs.Literals.{seen}
use Rattle.sp_type_context.specs.Contexts.{Around}
use Rattle.sp_type_context.specs.Typing.{typed, or_else as first_of}
use Rattle.sp_type_fields.specs.Attributes.{conversion}
use Rattle.sp_type_fields.specs.Readings.{counted_read}
use Rattle.sp_type_fields.specs.Values.{Values}
use Rattle.sp_type_scopes.specs.Decorators.{meant, with_current}
use Rattle.sp_type_modules.specs.Members.{first_member}
use Rattle.sp_type_modules.specs.declared.sources.Source.TheVariants as source_is
use Rattle.sp_type_members.specs.Opens.{with_members, or_else, unanswered, open_at, open_of, open_member, open_in, open_among, conversion_open, base_open, field_open}
use Rattle.sp_type_members.specs.Endless.{span_if, conversion_place, base_place, field_place}
use Rattle.sp_type_members.specs.inside.Kept.{none_some, some_is, else_none, or_assoc}
use Rattle.sp_type_members.specs.inside.Typed.{AreInRow, typed_kept}
use Rattle.sp_type_members.specs.inside.Laws.{source_kept}
use Rattle.sp_law_rules.specs.Conversions.{Conversion, converted_by, group_conversions, field_conversions, member_of, member_taken, members_in, members_among}

-- what stands in two rows
pub among_front : {X : Type 0} (xs ys : List X) (y : X) → Among xs y → Among (xs ++ ys) y
among_front [] ys y h = absurd h
among_front (x ∷ xs) ys y (inl e) = inl e
among_front (x ∷ xs) ys y (inr h) = inr (among_front xs ys y h)

pub among_back : {X : Type 0} (xs ys : List X) (y : X) → Among ys y → Among (xs ++ ys) y
among_back [] ys y h = h
among_back (x ∷ xs) ys y h = inr (among_back xs ys y h)

pub among_parts : {X : Type 0} (xs ys : List X) (y : X) → Among (xs ++ ys) y → Among xs y ⊎ Among ys y
among_parts [] ys y h = inr h
among_parts (x ∷ xs) ys y (inl e) = inl (inl e)
among_parts (x ∷ xs) ys y (inr h) = one (among_parts xs ys y h)
  where
    one : Among xs y ⊎ Among ys y → Among (x ∷ xs) y ⊎ Among ys y
    one (inl a) = inl (inr a)
    one (inr b) = inr b

-- the first of these numbers that has no answer: where there is one it is among them, and where there is none all have answers
pub record IsFirst (count : ℕ) (f : ℕ → Option Ty) (o : Option ℕ) (js : List ℕ) : Type 0 where
  pub some : (j : ℕ) → o ≡ Some j → Among js j × (f j ≡ None) × (j < count)
  pub none : o ≡ None → (j : ℕ) → Among js j → j < count → (t : Ty) × (f j ≡ Some t)

module _ (list : List Tree) (count : ℕ) (f : ℕ → Option Ty) where
  abbrev First : Option ℕ → List ℕ → Type 0
  First o js = IsFirst count f o js

  no_first : First None []
  no_first = record { some = λ j e. absurd (none_some None j refl e); none = λ e j h lt. absurd h }

  both_first : (o p : Option ℕ) (is js : List ℕ) → First o is → First p js → First (or_else o p) (is ++ js)
  both_first o p is js a b = record {
    some = some_by o a;
    none = λ e j h lt. (let n = else_none o p e in none_by n.0 n.1 j lt (among_parts is js j h));
  }
    where
      some_by : (o : Option ℕ) → First o is → (j : ℕ) → or_else o p ≡ Some j → Among (is ++ js) j × (f j ≡ None) × (j < count)
      some_by None a j e = (let h = b.some j e in (among_back is js j h.0, h.1, h.2))
      some_by (Some i) a j e = (let h = a.some j e in (among_front is js j h.0, h.1, h.2))

      none_by : o ≡ None → p ≡ None → (j : ℕ) → j < count → Among is j ⊎ Among js j → (t : Ty) × (f j ≡ Some t)
      none_by e i j lt (inl h) = a.none e j h lt
      none_by e i j lt (inr h) = b.none i j h lt

  at_first : (k : ℕ) → First (open_at count f k) (k ∷ [])
  at_first k = by (nat_lt k count) refl (f k) refl
    where
      by : (b : Bool) → nat_lt k count ≡ b → (o : Option Ty) → f k ≡ o → First (if b then unanswered o k else None) (k ∷ [])
      by false e o u = record {
        some = λ j i. absurd (none_some None j refl i);
        none = λ i j h lt. past e j h lt;
      }
        where
          past : nat_lt k count ≡ false → (j : ℕ) → Among (k ∷ []) j → j < count → (t : Ty) × (f j ≡ Some t)
          past e j (inl is) lt = absurd (let z : ⊥ = grind (arith, nat_tests) in z)
          past e j (inr h) lt = absurd h
      by true e None u = record {
        some = λ j i. (let is : k ≡ j = some_is k j i in (inl is, ap f (sym is) ∙ u, below is));
        none = λ i j h lt. absurd (none_some (Some k) k i refl);
      }
        where
          below : {j : ℕ} → k ≡ j → j < count
          below is = (let z : k < count = grind (arith, nat_tests) in omega (arith, z, is))
      by true e (Some t) u = record {
        some = λ j i. absurd (none_some None j refl i);
        none = λ i j h lt. there j h;
      }
        where
          there : (j : ℕ) → Among (k ∷ []) j → (t : Ty) × (f j ≡ Some t)
          there j (inl is) = (t, ap f (sym is) ∙ u)
          there j (inr h) = absurd h

  of_first : (k : ℕ) (t : Ty) → First (open_of list count f k t) (member_of list k t)
  of_first k (word (word_is.Unit n)) = at_first (first_member list n + k)
  of_first k _ = no_first

  taken_first : (op : OneOp) (t : Ty) → First (open_member list count f op t) (member_taken list op t)
  taken_first (one_is.Field k) t = of_first k t
  taken_first (one_is.Variable k) t = of_first k t
  taken_first _ t = no_first

  mutual
    pub expr_first : (e : Expr) → First (open_in list count f e) (members_in list e)
    expr_first (leaf h) = no_first
    expr_first (one h a) = both_first (open_in list count f a) (open_member list count f h.op (seen a)) (members_in list a) (member_taken list h.op (seen a)) (expr_first a) (taken_first h.op (seen a))
    expr_first (two h a b) = both_first (open_in list count f a) (open_in list count f b) (members_in list a) (members_in list b) (expr_first a) (expr_first b)
    expr_first (three h a b c) =
        both_first (open_in list count f a) (or_else (open_in list count f b) (open_in list count f c)) (members_in list a) (members_in list b ++ members_in list c) (expr_first a)
        (both_first (open_in list count f b) (open_in list count f c) (members_in list b) (members_in list c) (expr_first b) (expr_first c))
    expr_first (many h es) = all_first es

    all_first : (es : Exprs) → First (open_among list count f es) (members_among list es)
    all_first typed_is.none = no_first
    all_first (typed_is.more e es) = both_first (open_in list count f e) (open_among list count f es) (members_in list e) (members_among list es) (expr_first e) (all_first es)

  -- the first open member of conversions, and the first place
  pub first_open : List Conversion → Option ℕ
  first_open [] = None
  first_open (c ∷ cs) = or_else (open_in list count f c.value) (first_open cs)

  pub first_place : List Conversion → Option Span
  first_place [] = None
  first_place (c ∷ cs) = first_of (span_if (open_in list count f c.value) c.place) (first_place cs)

  opens_both : (cs ds : List Conversion) → first_open (cs ++ ds) ≡ or_else (first_open cs) (first_open ds)
  unfolding first_open
  opens_both [] ds = refl
  opens_both (c ∷ cs) ds = ap (or_else (open_in list count f c.value)) (opens_both cs ds) ∙ sym (or_assoc (open_in list count f c.value) (first_open cs) (first_open ds))

  place_assoc : (x y z : Option Span) → first_of (first_of x y) z ≡ first_of x (first_of y z)
  place_assoc None y z = refl
  place_assoc (Some s) y z = refl

  places_both : (cs ds : List Conversion) → first_place (cs ++ ds) ≡ first_of (first_place cs) (first_place ds)
  unfolding first_place
  places_both [] ds = refl
  places_both (c ∷ cs) ds = ap (first_of (span_if (open_in list count f c.value) c.place)) (places_both cs ds) ∙ sym (place_assoc (span_if (open_in list count f c.value) c.place) (first_place cs) (first_place ds))

  or_nothing : (o : Option ℕ) → or_else o None ≡ o
  or_nothing None = refl
  or_nothing (Some j) = refl

  place_or_nothing : (o : Option Span) → first_of o None ≡ o
  place_or_nothing None = refl
  place_or_nothing (Some s) = refl

  module _ (g : Around) (v : Values) where
    converted_opens : (t : Ty) (o : Option Tree) → conversion_open list count f g t o ≡ first_open (converted_by g t o)
    unfolding first_open
    converted_opens t None = refl
    converted_opens t (Some e) = sym (or_nothing (open_in list count f (typed (meant t g) e)))

    converted_place : (t : Ty) (o : Option Tree) → conversion_place list count f g t o ≡ first_place (converted_by g t o)
    unfolding first_place
    converted_place t None = refl
    converted_place t (Some e) = sym (place_or_nothing (span_if (open_in list count f (typed (meant t g) e)) (span_of e)))

    group_opens : (t : Tree) → base_open list count f g v t ≡ first_open (group_conversions g v t)
    unfolding first_open
    group_opens (node (form_is.Base base_is.Group) at (more inner (more (row counts) (more (row ts) none)))) =
        let t = (counted_read g v inner counts).ty in
        ap (λ o. or_else o (conversion_open list count f g t (conversion ts))) (group_opens inner) ∙ ap (or_else (first_open (group_conversions g v inner))) (converted_opens t (conversion ts))
        ∙ sym (opens_both (group_conversions g v inner) (converted_by g t (conversion ts)))
    group_opens _ = refl

    pub field_opens : (t : Tree) → field_open list count f g v t ≡ first_open (field_conversions g v t)
    unfolding first_open
    field_opens (node form_is.Field span (more name (more base (more (row counts) (more (row ts) rest))))) =
        let t = (counted_read g v base counts).ty in
        ap (λ o. or_else o (conversion_open list count f g t (conversion ts))) (group_opens base) ∙ ap (or_else (first_open (group_conversions g v base))) (converted_opens t (conversion ts))
        ∙ sym (opens_both (group_conversions g v base) (converted_by g t (conversion ts)))
    field_opens _ = refl

    group_place : (t : Tree) → base_place list count f g v t ≡ first_place (group_conversions g v t)
    unfolding first_place
    group_place (node (form_is.Base base_is.Group) at (more inner (more (row counts) (more (row ts) none)))) =
        let t = (counted_read g v inner counts).ty in
        ap (λ o. first_of o (conversion_place list count f g t (conversion ts))) (group_place inner) ∙ ap (first_of (first_place (group_conversions g v inner))) (converted_place t (conversion ts))
        ∙ sym (places_both (group_conversions g v inner) (converted_by g t (conversion ts)))
    group_place _ = refl

    pub place_is : (t : Tree) → field_place list count f g v t ≡ first_place (field_conversions g v t)
    unfolding first_place
    place_is (node form_is.Field span (more name (more base (more (row counts) (more (row ts) rest))))) =
        let t = (counted_read g v base counts).ty in
        ap (λ o. first_of o (conversion_place list count f g t (conversion ts))) (group_place base) ∙ ap (first_of (first_place (group_conversions g v base))) (converted_place t (conversion ts))
        ∙ sym (places_both (group_conversions g v base) (converted_by g t (conversion ts)))
    place_is _ = refl

  -- what the first place and the first open member say of the conversions
  pub place_among : (cs : List Conversion) (at : Span) → first_place cs ≡ Some at → (c : Conversion) × Among cs c × (c.place ≡ at) × (j : ℕ) × (open_in list count f c.value ≡ Some j)
  unfolding first_place
  place_among [] at e = absurd (none_some None at refl e)
  place_among (c ∷ cs) at e = by (λ i. place_among cs at i) (open_in list count f c.value) refl e
    where
      by : (first_place cs ≡ Some at → (d : Conversion) × Among cs d × (d.place ≡ at) × (j : ℕ) × (open_in list count f d.value ≡ Some j)) → (o : Option ℕ) → open_in list count f c.value ≡ o → first_of (span_if o c.place) (first_place cs) ≡ Some at
          → (d : Conversion) × Among (c ∷ cs) d × (d.place ≡ at) × (j : ℕ) × (open_in list count f d.value ≡ Some j)
      by rest None u i = (let h = rest i in (h.0, inr h.1, h.2, h.3, h.4))
      by rest (Some j) u i = (c, inl refl, some_is c.place at i, j, u)

  pub open_place : (cs : List Conversion) (c : Conversion) (j : ℕ) → Among cs c → open_in list count f c.value ≡ Some j → (at : Span) × (first_place cs ≡ Some at)
  unfolding first_place
  open_place [] c j h e = absurd h
  open_place (d ∷ cs) c j h e = by (λ h. open_place cs c j h e) (open_in list count f d.value) refl h
    where
      by : (Among cs c → (at : Span) × (first_place cs ≡ Some at)) → (o : Option ℕ) → open_in list count f d.value ≡ o → Among (d ∷ cs) c → (at : Span) × (first_of (span_if o d.place) (first_place cs) ≡ Some at)
      by rest (Some i) u h = (d.place, refl)
      by rest None u (inl is) = absurd (none_some None j refl (sym u ∙ ap (λ c. open_in list count f c.value) is ∙ e))
      by rest None u (inr h) = rest h

  pub all_known : (cs : List Conversion) (c : Conversion) → first_open cs ≡ None → Among cs c → open_in list count f c.value ≡ None
  unfolding first_open
  all_known [] c e h = absurd h
  all_known (d ∷ cs) c e (inl is) = ap (λ c. open_in list count f c.value) (sym is) ∙ (else_none (open_in list count f d.value) (first_open cs) e).0
  all_known (d ∷ cs) c e (inr h) = all_known cs c (else_none (open_in list count f d.value) (first_open cs) e).1 h

  pub open_there : (cs : List Conversion) (j : ℕ) → first_open cs ≡ Some j → (c : Conversion) × Among cs c × (open_in list count f c.value ≡ Some j)
  unfolding first_open
  open_there [] j e = absurd (none_some None j refl e)
  open_there (d ∷ cs) j e = by (λ i. open_there cs j i) (open_in list count f d.value) refl e
    where
      by : (first_open cs ≡ Some j → (c : Conversion) × Among cs c × (open_in list count f c.value ≡ Some j)) → (o : Option ℕ) → open_in list count f d.value ≡ o → or_else o (first_open cs) ≡ Some j → (c : Conversion) × Among (d ∷ cs) c × (open_in list count f c.value ≡ Some j)
      by rest None u i = (let h = rest i in (h.0, inr h.1, h.2))
      by rest (Some i) u s = (d, inl refl, u ∙ s)

-- where no member is open the conversions are the same where more is known
module _ (list : List Tree) (count : ℕ) (in_row : AreInRow list count) (f g : ℕ → Option Ty) (w : Within f g) (v : Values) (o : Around) where
  abbrev early : Around
  early = with_members list f o

  abbrev late : Around
  late = with_members list g o

  -- a field of what is read alone
  abbrev read_alone : Tree → Trees → Tree
  read_alone base counts = node form_is.Field (span_of base) (more absent (more base (more (row counts) (more (row none) none))))

  read_same : (base : Tree) (counts : Trees) → base_open list count f early v base ≡ None → (counted_read late v base counts).ty ≡ (counted_read early v base counts).ty
  read_same base counts e = (source_kept list count in_row f g w v o (source_is.Field (read_alone base counts))).same (or_nothing list count f (base_open list count f early v base) ∙ e)

  converted_same : (t u : Ty) (x : Option Tree) → u ≡ t → conversion_open list count f early t x ≡ None → converted_by late u x ≡ converted_by early t x
  converted_same t u None same e = refl
  converted_same t u (Some x) same e =
      ap (λ s. converted_by late s (Some x)) same
      ∙ ap (λ y. record { value = y; place = span_of x } ∷ []) ((typed_kept list count in_row f g w (with_current t standing_is.Meant o) x).same e)

  both_same : (a b c d : List Conversion) → a ≡ b → c ≡ d → a ++ c ≡ b ++ d
  both_same a b c d e i = ap (λ x. x ++ c) e ∙ ap (λ x. b ++ x) i

  group_same : (t : Tree) → base_open list count f early v t ≡ None → group_conversions late v t ≡ group_conversions early v t
  group_same (node (form_is.Base base_is.Group) at (more inner (more (row counts) (more (row ts) none)))) e =
      let t = (counted_read early v inner counts).ty in
      let u = (counted_read late v inner counts).ty in
      let h = else_none (base_open list count f early v inner) (conversion_open list count f early t (conversion ts)) e in
      both_same (group_conversions late v inner) (group_conversions early v inner) (converted_by late u (conversion ts)) (converted_by early t (conversion ts))
      (group_same inner h.0) (converted_same t u (conversion ts) (read_same inner counts h.0) h.1)
  group_same _ e = refl

  pub field_same : (t : Tree) → field_open list count f early v t ≡ None → field_conversions late v t ≡ field_conversions early v t
  field_same (node form_is.Field span (more name (more base (more (row counts) (more (row ts) rest))))) e =
      let t = (counted_read early v base counts).ty in
      let u = (counted_read late v base counts).ty in
      let h = else_none (base_open list count f early v base) (conversion_open list count f early t (conversion ts)) e in
      both_same (group_conversions late v base) (group_conversions early v base) (converted_by late u (conversion ts)) (converted_by early t (conversion ts))
      (group_same base h.0) (converted_same t u (conversion ts) (read_same base counts h.0) h.1)
  field_same _ e = refl
