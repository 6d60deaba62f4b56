-- The places of all names and of all fields in trees, in the order of the text.
use Rattle.std.specs.Prelude.{Bool, true, false}
use Rattle.std.proofs.Common.{ℕ, ◌≡◌, ◌≤◌, ◌<◌, suc, refl, sym, arith, List, [], ◌∷◌, ◌++◌}
use Rattle.sp_base.specs.declared.places.Span.{Span}
use Rattle.sp_ast.specs.Trees.{Tree, Trees, absent, row, node, none, more}
use Rattle.sp_ast.specs.declared.forms.Form.{Form}
use Rattle.sp_ast.specs.declared.forms.Form.TheVariants as form_is
use Rattle.sp_build.proofs.Told.{never}
use Rattle.sp_law_lists.specs.field_places.Apart.{place_of}
use Rattle.sp_law_lists.proofs.field_places_lemmas.Rising.{Rises, in_bounds}

-- A field has one place. It is that of its name, where it has one, and nothing in it counts apart from that.
abbrev mutual
  pub places : Tree → List ℕ
  places (node (form_is.Name x) span ts) = span.from ∷ []
  places (node form_is.Field span ts) = place_of (node form_is.Field span ts) ∷ []
  places (node form span ts) = places_among ts
  places absent = []
  places (row ts) = places_among ts

  pub places_among : Trees → List ℕ
  places_among none = []
  places_among (more t ts) = places t ++ places_among ts

-- In each tree, also in fields, the places of the parts rise.
abbrev mutual
  pub AllRise : Tree → Type 0
  AllRise absent = Unit {0}
  AllRise (row ts) = EachRises ts
  AllRise (node form span ts) = ((low : ℕ) × (high : ℕ) × Rises low (places_among ts) high) × EachRises ts

  pub EachRises : Trees → Type 0
  EachRises none = Unit {0}
  EachRises (more t ts) = AllRise t × EachRises ts

abbrev pub is_name : Form → Bool
is_name (form_is.Name x) = true
is_name _ = false

abbrev pub is_field : Form → Bool
is_field form_is.Field = true
is_field _ = false

-- an alternative of which the places are those of its parts
abbrev pub is_plain : Form → Bool
is_plain (form_is.Name x) = false
is_plain form_is.Field = false
is_plain _ = true

pub plain_places : (form : Form) (span : Span) (ts : Trees) → is_plain form ≡ true → places (node form span ts) ≡ places_among ts
plain_places (form_is.Name x) span ts e = never e
plain_places form_is.Field span ts e = never e
plain_places _ span ts e = refl

-- a tree of a token stands where the token does
pub leaf_places : (form : Form) (span : Span) (low high : ℕ) → low ≤ span.from → span.from < high → Rises low (places (node form span none)) high
leaf_places (form_is.Name x) span low high a b = (a, b)
leaf_places form_is.Field span low high a b = (a, b)
leaf_places _ span low high a b = omega (arith, a, b)

-- a field stands between where it began and where it ends
pub field_places : (span : Span) (ts : Trees) (low high : ℕ) → Rises low (places_among ts) high → low ≤ span.from → span.from < high → Rises low (places (node form_is.Field span ts)) high
field_places span (more (node (form_is.Name x) at us) ts) low high r a b = (r.0, in_bounds (suc at.from) (places_among ts) high r.1)
field_places span (more (node _ at us) ts) low high r a b = (a, b)
field_places span (more absent ts) low high r a b = (a, b)
field_places span (more (row us) ts) low high r a b = (a, b)
field_places span none low high r a b = (a, b)

-- what an alternative closes
pub closed_places : (form : Form) (span : Span) (ts : Trees) (low high : ℕ) → is_name form ≡ false → Rises low (places_among ts) high → (is_field form ≡ true → (low ≤ span.from) × (span.from < high)) → Rises low (places (node form span ts)) high
closed_places (form_is.Name x) span ts low high e r own = never (sym e)
closed_places form_is.Field span ts low high e r own = (let p = own refl in field_places span ts low high r p.0 p.1)
closed_places _ span ts low high e r own = r
