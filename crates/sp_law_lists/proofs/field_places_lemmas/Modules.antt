-- In a module that is read the fields of each unit stand at places of their own.
use Rattle.std.specs.Prelude.{true, false, not, ◌||◌, ◌==◌, map}
use Rattle.std.specs.List.{list_all}
use Rattle.std.proofs.Common.{ℕ, ◌≡◌, ◌+◌, ◌≤◌, ◌<◌, suc, refl, ap, subst, ◌∙◌, arith, List, [], ◌∷◌, ◌++◌, length, inl, ne_eqb}
use Rattle.std.proofs.lemmas.Bool.{and_parts, and_from}
use Rattle.sp_base.specs.declared.places.Span.{Span}
use Rattle.sp_lex.specs.Readings.{reading, whole, InOrder}
use Rattle.sp_lex.proofs.Spaced.{order_read}
use Rattle.sp_lex.specs.Lexed.{Lexed}
use Rattle.sp_lex.specs.declared.tokens.Token.{Token}
use Rattle.sp_parser.specs.declared.symbol.ActionAt.{ActionAt}
use Rattle.sp_grammar.specs.declared.language.Start.TheVariants.{Module}
use Rattle.sp_grammar.proofs.Sentences.{derived}
use Rattle.sp_grammar.proofs.Spans.{reads_derived}
use Rattle.sp_phrases.specs.Kinds.{numbers_of}
use Rattle.sp_phrases.proofs.Longest.{numbers_length}
use Rattle.sp_ast.specs.Trees.{Tree, Trees, absent, row, node, none, more}
use Rattle.sp_ast.specs.Slots.{slots, fill, is_formed, are_formed}
use Rattle.sp_ast.specs.Groups.{is_of}
use Rattle.sp_ast.specs.declared.groups.Group.TheVariants as group_is
use Rattle.sp_ast.specs.declared.forms.Form.{Form}
use Rattle.sp_ast.specs.declared.forms.Form.TheVariants as form_is
use Rattle.sp_ast.specs.declared.forms.DeclForm.TheVariants as decl_is
use Rattle.sp_ast.specs.declared.forms.TypeForm.TheVariants as type_is
use Rattle.sp_ast.specs.declared.forms.ItemForm.TheVariants as item_is
use Rattle.sp_ast.specs.declared.forms.PartForm.TheVariants as part_is
use Rattle.sp_ast.specs.declared.forms.BodyForm.TheVariants as body_is
use Rattle.sp_names.specs.Declarations.{list_of, type_tree_of, inner_among, inside as inside_of}
use Rattle.sp_type_modules.specs.Members.{unit_in, unit_items}
use Rattle.sp_build.specs.Items.{built}
use Rattle.sp_build.specs.Building.{IsBuilt}
use Rattle.sp_build.proofs.Formed.{all_formed}
use Rattle.sp_build.proofs.Standing.{some_equal}
use Rattle.sp_build.proofs.Told.{never}
use Rattle.sp_read_unit.specs.Modules.{IsModule, IsModuleTree}
use Rattle.sp_law_lists.specs.field_places.Apart.{fields_in, fields_among, place_of, stands_there, are_apart, declared_items, unit_apart, units_apart, fields_apart}
use Rattle.sp_law_lists.proofs.known_constants_lemmas.Declarations.{AllOf, Passes, inner_pass}
use Rattle.sp_law_lists.proofs.field_places_lemmas.Rising.{Rises, rises_from, rises_to, in_bounds, rises_parts}
use Rattle.sp_law_lists.proofs.field_places_lemmas.Places.{places, places_among, AllRise, EachRises, is_plain, plain_places}
use Rattle.sp_law_lists.proofs.field_places_lemmas.Stacks.{Holds, bound}
use Rattle.sp_law_lists.proofs.field_places_lemmas.Runs.{runs}

-- the places of fields
abbrev own_places : List Tree → List ℕ
own_places ts = map place_of ts

places_both : (low mid high : ℕ) (xs ys : List Tree) → Rises low (own_places xs) mid → Rises mid (own_places ys) high → Rises low (own_places (xs ++ ys)) high
places_both low mid high [] ys r s = rises_from low mid (own_places ys) high r s
places_both low mid high (x ∷ xs) ys r s = (r.0, places_both (suc (place_of x)) mid high xs ys r.1 s)

-- the fields in what is formed have places that rise, where all do
field_rises : (t : Tree) (low mid high : ℕ) → is_of group_is.Fields t ≡ true → Rises low (places t) mid → mid ≤ high → Rises low (own_places (t ∷ [])) high
field_rises (node form_is.Field span ts) low mid high of r le = rises_to low (place_of (node form_is.Field span ts) ∷ []) mid high le r
field_rises (node _ span ts) low mid high of r le = never of
field_rises absent low mid high of r le = never of
field_rises (row ts) low mid high of r le = never of

mutual
  in_tree : (x : Tree) → is_formed x ≡ true → (low high : ℕ) → Rises low (places x) high → Rises low (own_places (fields_in x)) high
  in_tree (node (form_is.Item item_is.Part) span (more part ts)) formed low high r =
      let f = and_parts (fill (slots (form_is.Item item_is.Part)) (more part ts)) (are_formed (more part ts)) formed in
      let p = rises_parts low high (places part) (places_among ts) r in
      rises_to low (own_places (fields_in part)) p.0 high (in_bounds p.0 (places_among ts) high p.2) (in_tree part (and_parts (is_formed part) (are_formed ts) f.1).0 low p.0 p.1)
  in_tree (node (form_is.Item item_is.Part) span none) formed low high r = in_bounds low (places (node (form_is.Item item_is.Part) span none)) high r
  in_tree (node (form_is.Item form) span ts) formed low high r = in_bounds low (places (node (form_is.Item form) span ts)) high r
  in_tree (node (form_is.Part part_is.Field) span (more field ts)) formed low high r =
      let f = and_parts (fill (slots (form_is.Part part_is.Field)) (more field ts)) (are_formed (more field ts)) formed in
      let p = rises_parts low high (places field) (places_among ts) r in
      field_rises field low p.0 high (and_parts (is_of group_is.Fields field) (fill [] ts) f.0).0 p.1 (in_bounds p.0 (places_among ts) high p.2)
  in_tree (node (form_is.Part part_is.Field) span none) formed low high r = in_bounds low (places (node (form_is.Part part_is.Field) span none)) high r
  in_tree (node (form_is.Part part_is.Switch) span (more subject (more (row arms) ts))) formed low high r =
      let f = and_parts (fill (slots (form_is.Part part_is.Switch)) (more subject (more (row arms) ts))) (are_formed (more subject (more (row arms) ts))) formed in
      let g = and_parts (is_formed subject) (are_formed (more (row arms) ts)) f.1 in
      let h = and_parts (are_formed arms) (are_formed ts) g.1 in
      let p = rises_parts low high (places subject) (places_among (more (row arms) ts)) r in
      let q = rises_parts p.0 high (places_among arms) (places_among ts) p.2 in
      rises_from low p.0 (own_places (fields_among arms)) high (in_bounds low (places subject) p.0 p.1)
      (rises_to p.0 (own_places (fields_among arms)) q.0 high (in_bounds q.0 (places_among ts) high q.2) (among arms h.0 p.0 q.0 q.1))
  in_tree (node (form_is.Part part_is.Switch) span none) formed low high r = in_bounds low (places (node (form_is.Part part_is.Switch) span none)) high r
  in_tree (node (form_is.Part part_is.Switch) span (more subject none)) formed low high r = in_bounds low (places (node (form_is.Part part_is.Switch) span (more subject none))) high r
  in_tree (node (form_is.Part part_is.Switch) span (more subject (more absent ts))) formed low high r = in_bounds low (places (node (form_is.Part part_is.Switch) span (more subject (more absent ts)))) high r
  in_tree (node (form_is.Part part_is.Switch) span (more subject (more (node form at us) ts))) formed low high r = in_bounds low (places (node (form_is.Part part_is.Switch) span (more subject (more (node form at us) ts)))) high r
  in_tree (node form_is.Arm span (more guard (more body ts))) formed low high r =
      let f = and_parts (fill (slots form_is.Arm) (more guard (more body ts))) (are_formed (more guard (more body ts))) formed in
      let g = and_parts (is_formed guard) (are_formed (more body ts)) f.1 in
      let h = and_parts (is_formed body) (are_formed ts) g.1 in
      let p = rises_parts low high (places guard) (places_among (more body ts)) r in
      let q = rises_parts p.0 high (places body) (places_among ts) p.2 in
      rises_from low p.0 (own_places (fields_in body)) high (in_bounds low (places guard) p.0 p.1)
      (rises_to p.0 (own_places (fields_in body)) q.0 high (in_bounds q.0 (places_among ts) high q.2) (in_tree body h.0 p.0 q.0 q.1))
  in_tree (node form_is.Arm span none) formed low high r = in_bounds low (places (node form_is.Arm span none)) high r
  in_tree (node form_is.Arm span (more guard none)) formed low high r = in_bounds low (places (node form_is.Arm span (more guard none))) high r
  in_tree (node (form_is.Body body_is.One) span ts) formed low high r = among ts (and_parts (fill (slots (form_is.Body body_is.One)) ts) (are_formed ts) formed).1 low high r
  in_tree (node (form_is.Body body_is.Many) span ts) formed low high r = among ts (and_parts (fill (slots (form_is.Body body_is.Many)) ts) (are_formed ts) formed).1 low high r
  in_tree (node (form_is.Body body_is.Nothing) span ts) formed low high r = in_bounds low (places (node (form_is.Body body_is.Nothing) span ts)) high r
  in_tree absent formed low high r = r
  in_tree (row ts) formed low high r = in_bounds low (places_among ts) high r
  in_tree (node form span ts) formed low high r = in_bounds low (places (node form span ts)) high r

  among : (ts : Trees) → are_formed ts ≡ true → (low high : ℕ) → Rises low (places_among ts) high → Rises low (own_places (fields_among ts)) high
  among none formed low high r = r
  among (more t ts) formed low high r =
      let f = and_parts (is_formed t) (are_formed ts) formed in
      let p = rises_parts low high (places t) (places_among ts) r in
      places_both low p.0 high (fields_in t) (fields_among ts) (in_tree t f.0 low p.0 p.1) (among ts f.1 p.0 high p.2)

-- fields whose places rise stand apart
none_below : (place low high : ℕ) (ts : List Tree) → place < low → Rises low (own_places ts) high → stands_there place ts ≡ false
none_below place low high [] lt r = refl
none_below place low high (t ∷ ts) lt r =
    let first = r.0 in
    let other : (place_of t == place) ≡ false = ne_eqb (place_of t) place (λ q. omega (arith, q, first, lt)) in
    ap (λ b. b || stands_there place ts) other ∙ none_below place (suc (place_of t)) high ts (omega (arith, first, lt)) r.1

rising_apart : (low high : ℕ) (ts : List Tree) → Rises low (own_places ts) high → are_apart ts ≡ true
rising_apart low high [] r = refl
rising_apart low high (t ∷ ts) r =
    let z : place_of t < suc (place_of t) = omega arith in
    and_from (not (stands_there (place_of t) ts)) (are_apart ts) (ap not (none_below (place_of t) (suc (place_of t)) high ts z r.1)) (rising_apart (suc (place_of t)) high ts r.1)

-- trees that are formed, and whose places rise
record IsRising (t : Tree) : Type 0 where
  formed : is_formed t ≡ true
  low : ℕ
  high : ℕ
  rises : Rises low (places t) high

record AreRising (ts : Trees) : Type 0 where
  formed : are_formed ts ≡ true
  low : ℕ
  high : ℕ
  rises : Rises low (places_among ts) high

none_rise : AreRising none
none_rise = record { formed = refl; low = 0; high = 0; rises = (let z : 0 ≤ 0 = omega arith in z) }

inside : (form : Form) (span : Span) (ts : Trees) → is_plain form ≡ true → IsRising (node form span ts) → AreRising ts
inside form span ts plain h = record {
  formed = (and_parts (fill (slots form) ts) (are_formed ts) h.formed).1;
  low = h.low;
  high = h.high;
  rises = subst (λ ns. Rises h.low ns h.high) (plain_places form span ts plain) h.rises;
}

in_row : (ts : Trees) → IsRising (row ts) → AreRising ts
in_row ts h = record { formed = h.formed; low = h.low; high = h.high; rises = h.rises }

first : (t : Tree) (ts : Trees) → AreRising (more t ts) → IsRising t
first t ts h =
    let p = rises_parts h.low h.high (places t) (places_among ts) h.rises in
    record { formed = (and_parts (is_formed t) (are_formed ts) h.formed).0; low = h.low; high = p.0; rises = p.1 }

rest : (t : Tree) (ts : Trees) → AreRising (more t ts) → AreRising ts
rest t ts h =
    let p = rises_parts h.low h.high (places t) (places_among ts) h.rises in
    record { formed = (and_parts (is_formed t) (are_formed ts) h.formed).1; low = p.0; high = h.high; rises = p.2 }

-- the items of a unit that is declared
items_rise : (u : Tree) → IsRising u → AreRising (unit_items u)
items_rise (node form_is.Unit span (more ps (more (row items) ts))) h = in_row items (first (row items) ts (rest ps (more (row items) ts) (inside form_is.Unit span (more ps (more (row items) ts)) refl h)))
items_rise (node form_is.Unit span none) h = none_rise
items_rise (node form_is.Unit span (more ps none)) h = none_rise
items_rise (node form_is.Unit span (more ps (more absent ts))) h = none_rise
items_rise (node form_is.Unit span (more ps (more (node form at us) ts))) h = none_rise
items_rise (node _ span ts) h = none_rise
items_rise absent h = none_rise
items_rise (row ts) h = none_rise

-- trees that are formed, and in all of which places rise
abbrev IsOrdered : Tree → Type 0
IsOrdered t = (is_formed t ≡ true) × AllRise t

abbrev AreOrdered : Trees → Type 0
AreOrdered ts = (are_formed ts ≡ true) × EachRises ts

ordered_passes : Passes IsOrdered AreOrdered
ordered_passes = record {
  parts = λ form span ts h. ((and_parts (fill (slots form) ts) (are_formed ts) h.0).1, h.1.1);
  in_row = λ ts h. h;
  first = λ t ts h. ((and_parts (is_formed t) (are_formed ts) h.0).0, h.1.0);
  rest = λ t ts h. ((and_parts (is_formed t) (are_formed ts) h.0).1, h.1.1);
  left_out = (refl, tt);
  nothing = (refl, tt);
}

own_items : (u : Tree) → IsOrdered u → AreRising (unit_items u)
own_items (node form_is.Unit span ts) h = items_rise (node form_is.Unit span ts) (record { formed = h.0; low = h.1.0.0; high = h.1.0.1; rises = h.1.0.2 })
own_items (node _ span ts) h = none_rise
own_items absent h = none_rise
own_items (row ts) h = none_rise

unit_ordered : (t : Tree) → IsOrdered t → IsOrdered (unit_in t)
unit_ordered (node (form_is.Type type_is.Unit) span (more unit ts)) h = ordered_passes.first unit ts (ordered_passes.parts (form_is.Type type_is.Unit) span (more unit ts) h)
unit_ordered (node (form_is.Type type_is.Unit) span none) h = ordered_passes.left_out
unit_ordered (node (form_is.Type _) span ts) h = ordered_passes.left_out
unit_ordered (node _ span ts) h = ordered_passes.left_out
unit_ordered absent h = ordered_passes.left_out
unit_ordered (row ts) h = ordered_passes.left_out

type_ordered : (d : Tree) → IsOrdered d → IsOrdered (type_tree_of d)
type_ordered (node (form_is.Decl (decl_is.Type public)) span (more name (more type ts))) h =
    ordered_passes.first type ts (ordered_passes.rest name (more type ts) (ordered_passes.parts (form_is.Decl (decl_is.Type public)) span (more name (more type ts)) h))
type_ordered (node (form_is.Decl (decl_is.Type public)) span none) h = ordered_passes.left_out
type_ordered (node (form_is.Decl (decl_is.Type public)) span (more name none)) h = ordered_passes.left_out
type_ordered (node (form_is.Decl _) span ts) h = ordered_passes.left_out
type_ordered (node (form_is.Type form) span ts) h = h
type_ordered (node _ span ts) h = ordered_passes.left_out
type_ordered absent h = ordered_passes.left_out
type_ordered (row ts) h = ordered_passes.left_out

one_apart : (d : Tree) → IsOrdered d → unit_apart d ≡ true
one_apart d h =
    let items = own_items (unit_in (type_tree_of d)) (unit_ordered (type_tree_of d) (type_ordered d h)) in
    rising_apart items.low items.high (fields_among (declared_items d)) (among (declared_items d) items.formed items.low items.high items.rises)

each_apart : (ts : List Tree) → AllOf IsOrdered ts → list_all unit_apart ts ≡ true
each_apart [] h = refl
each_apart (t ∷ ts) h = and_from (unit_apart t) (list_all unit_apart ts) (one_apart t h.0) (each_apart ts h.1)

declared_apart : (d : Tree) → IsOrdered d → units_apart d ≡ true
declared_apart d h =
    let ts = inner_among (inside_of d) in
    and_from (unit_apart d) (list_all unit_apart ts) (one_apart d h) (each_apart ts (inner_pass IsOrdered AreOrdered ordered_passes d h))

row_apart : (ds : Trees) → AreOrdered ds → list_all units_apart (list_of ds) ≡ true
row_apart none h = refl
row_apart (more d ds) h = and_from (units_apart d) (list_all units_apart (list_of ds)) (declared_apart d (ordered_passes.first d ds h)) (row_apart ds (ordered_passes.rest d ds h))

whole_apart : (t : Tree) → IsOrdered t → fields_apart t ≡ true
whole_apart (node form_is.Module span (more name (more (row ds) ts))) h =
    row_apart ds (ordered_passes.first (row ds) ts (ordered_passes.rest name (more (row ds) ts) (ordered_passes.parts form_is.Module span (more name (more (row ds) ts)) h)))
whole_apart (node form_is.Module span none) h = refl
whole_apart (node form_is.Module span (more name none)) h = refl
whole_apart (node form_is.Module span (more name (more absent ts))) h = refl
whole_apart (node form_is.Module span (more name (more (node form at us) ts))) h = refl
whole_apart (node _ span ts) h = refl
whole_apart absent h = refl
whole_apart (row ts) h = refl

-- what is built of a module's text
module_rises : (text : List ℕ) (tokens : List Token) (end : ℕ) (actions : List ActionAt) (t : Tree) → InOrder 0 tokens end → IsModule tokens actions → IsBuilt text tokens actions t → IsOrdered t
module_rises text tokens end actions t order is done =
    let r = reads_derived (derived Module (numbers_of tokens) actions is) in
    let many : length (numbers_of tokens) ≡ length tokens = numbers_length tokens in
    let count : 0 + length (numbers_of tokens) ≡ length tokens = omega (arith, many) in
    let p = runs text tokens end order (built t ∷ []) r.1 false refl [] (inl tt) count done in
    let left = some_equal p.does in
    let holds = subst (Holds tokens (bound false r.0) _) left p.holds in
    ((all_formed text tokens actions [] (built t ∷ []) done tt).0, holds.1.1)

pub modules_apart : (lexed : Lexed) (t : Tree) → reading lexed.text ≡ whole lexed.list → IsModuleTree lexed t → fields_apart t ≡ true
modules_apart lexed t read is = whole_apart t (module_rises lexed.text lexed.list (length lexed.text) is.0 t (order_read lexed.text lexed.list read) is.1 is.2)
