-- What is named round the expressions of a list in which all is built is a leaf, no member, or a method by its name.
use Rattle.std.specs.Prelude.{ℕ, ◌==◌, Bool, true, false, not, ◌||◌, if◌then◌else◌, List, [], ◌∷◌, ◌++◌, filter, Option, Some, None, codes, slice_get}
use Rattle.std.specs.Str.{bytes_eq}
use Rattle.std.specs.List.{list_all}
use Rattle.std.proofs.Common.{◌≡◌, zero, suc, refl, subst}
use Rattle.std.proofs.lemmas.Bool.{and_parts, and_from}
use Rattle.sp_base.specs.declared.places.Span.{Span}
use Rattle.sp_words.specs.declared.methods.Method.{Method}
use Rattle.sp_words.specs.declared.methods.Method.TheVariants as method_is
use Rattle.sp_ast.specs.Trees.{Tree, Trees, row, node, none, more}
use Rattle.sp_ast.specs.declared.forms.Form.TheVariants as form_is
use Rattle.sp_ast.specs.declared.forms.ItemForm.TheVariants as item_is
use Rattle.sp_ast.specs.declared.forms.PartForm.TheVariants as part_is
use Rattle.sp_ast.specs.declared.forms.BodyForm.TheVariants as body_is
use Rattle.sp_types.specs.declared.words.Word.TheVariants as word_is
use Rattle.sp_types.specs.declared.words.Maker.TheVariants as maker_is
use Rattle.sp_types.specs.Types.{Ty, word, made}
use Rattle.sp_typed.specs.declared.words.OneOp.TheVariants as one_is
use Rattle.sp_typed.specs.declared.words.ManyOp.{ManyOp}
use Rattle.sp_typed.specs.declared.words.ManyOp.TheVariants as many_is
use Rattle.sp_typed.specs.declared.words.UnitMethod.{UnitMethod}
use Rattle.sp_typed.specs.declared.words.SinkMethod.{SinkMethod}
use Rattle.sp_typed.specs.declared.words.Standing.{Standing}
use Rattle.sp_typed.specs.Exprs.{Expr, exprs}
use Rattle.sp_typed.specs.Nodes.{all_hold}
use Rattle.sp_typed_units.specs.declared.declarations.MemberKind.{MemberKind}
use Rattle.sp_typed_units.specs.declared.declarations.MemberKind.TheVariants as kind_is
use Rattle.sp_typed_units.specs.declared.declarations.Parameter.{Parameter}
use Rattle.sp_names.specs.declared.rows.Declaration.{Declaration}
use Rattle.sp_names.specs.declared.sort.DeclSort.{DeclSort}
use Rattle.sp_names.specs.declared.sort.DeclSort.TheVariants as sort_is
use Rattle.sp_names.specs.declared.sort.Meaning.{Meaning}
use Rattle.sp_names.specs.declared.sort.Meaning.TheVariants as meaning_is
use Rattle.sp_names.specs.Declarations.{rows, sort_at, all_of, type_tree_of}
use Rattle.sp_names.specs.Names.{path_means, declaration_of}
use Rattle.sp_type_context.specs.declared.context.Member.{Member}
use Rattle.sp_type_context.specs.declared.context.Callable.{Callable}
use Rattle.sp_type_context.specs.Contexts.{Around}
use Rattle.sp_type_scopes.specs.Decorators.{with_current, with_self}
use Rattle.sp_type_stmts.specs.Scopes.{Local}
use Rattle.sp_type_stmts.specs.Visible.{found_maybe, local_or, with_locals}
use Rattle.sp_type_context.specs.Names.{single_name}
use Rattle.sp_type_scopes.specs.Parameters.{numbered_maybe, parameter_at, parameter_leaf, or_outside, with_parameters}
use Rattle.sp_type_modules.specs.Members.{UnitMember, field_member, named_in, named_among, is_called, firsts, unit_items, members_of, unit_in, declared_unit, unit_declaration, unit_members, numbered, kinds_of, range_number, bitfield_width, bitfield_tree}
use Rattle.sp_type_methods.specs.Methods.{told, bytes_methods, text_methods, vector_methods, map_methods, method_gives, unit_methods, unit_method_gives, sink_methods, library_call, unit_call, sink_call, method_of, base_ten, utf8, replace, left_out_of}
use Rattle.sp_type_modules.specs.Arounds.{Facts, kind_member, some_member, unit_member, width_type, bit_member, member_of, declared_at, meaning_at, slice_of, left_out_by, around as module_names}
use Rattle.sp_unbuilt.specs.Constructs.{is_late_unit_method, is_sink_method}
use Rattle.sp_law_lists.proofs.known_types_lemmas.Full.{never}
use Rattle.sp_law_lists.proofs.whole_list_lemmas.Modules.{none_found, some_found}
use Rattle.sp_law_lists.proofs.known_constants_lemmas.Declarations.{AllOf, at_all}
use Rattle.sp_law_lists.proofs.known_hooks_lemmas.Walks.{unit_passes, type_passes, declared_passes}
use Rattle.sp_law_lists.specs.known_kinds.Made.{is_offset}
use Rattle.sp_law_lists.proofs.passing_list_lemmas.Early.{is_early, is_leaf, is_early_member, is_called_so, AreEarly}
use Rattle.sp_law_lists.proofs.passing_list_lemmas.BuiltTrees.{IsBuilt, AreBuilt, built_passes, at_tree}

-- methods: what holds of each in a table that has a name
abbrev EachNamed : {A : Type 0} → (A → Type 0) → List ℕ → List (List ℕ × A) → Type 0
EachNamed P x [] = Unit {0}
EachNamed P x (r ∷ rs) = (bytes_eq x r.0 ≡ true → P r.1) × EachNamed P x rs

told_named : {A : Type 0} (P : A → Type 0) (x : List ℕ) (rs : List (List ℕ × A)) (a : A) → EachNamed P x rs → told x rs ≡ Some a → P a
told_named P x [] a each e = none_found a e
told_named P x (r ∷ rs) a each e = by (bytes_eq x r.0) refl (told_named P x rs a each.1) e
  where
    by : (b : Bool) → bytes_eq x r.0 ≡ b → (told x rs ≡ Some a → P a) → (if b then Some r.1 else told x rs) ≡ Some a → P a
    by true is later h = subst P (some_found r.1 a h) (each.0 is)
    by false is later h = later h

or_first : (a b : Bool) → a ≡ true → (a || b) ≡ true
or_first true b h = refl
or_first false b h = never h

or_second : (a b : Bool) → b ≡ true → (a || b) ≡ true
or_second true b h = refl
or_second false b h = h

module _ (x : List ℕ) where
  abbrev Has : List ℕ → Bool
  Has name = bytes_eq x name

  -- those of units
  abbrev LateOr : UnitMethod → Type 0
  LateOr m = (is_offset m || is_late_unit_method x) ≡ true

  units_named : EachNamed LateOr x unit_methods
  units_named =
      let a = Has (codes "input") in
      let u = Has (codes "set_input") in
      let v = Has (codes "backtrack") in
      let w = Has (codes "connect_filter") in
      let y = Has (codes "forward") in
      let z = Has (codes "forward_eod") in
      let b = a || u in
      let c = b || v in
      let d = c || w in
      let e = d || y in (
        λ h. refl,
        (
          λ h. or_first e z (or_first d y (or_first c w (or_first b v (or_first a u h)))),
          (
            λ h. or_first e z (or_first d y (or_first c w (or_first b v (or_second a u h)))),
            (
              λ h. or_first e z (or_first d y (or_first c w (or_second b v h))),
              (
                λ h. or_first e z (or_first d y (or_second c w h)),
                (
                  λ h. or_first e z (or_second d y h),
                  (λ h. or_second e z h, tt),
                ),
              ),
            ),
          ),
        ),
      )

  -- those of sinks
  abbrev OfSinks : SinkMethod → Type 0
  OfSinks m = is_sink_method x ≡ true

  sinks_named : (ts : List Ty) → EachNamed OfSinks x (sink_methods ts)
  sinks_named ts =
      let a = Has (codes "connect") in
      let u = Has (codes "write") in
      let v = Has (codes "gap") in
      let w = Has (codes "skip") in
      let y = Has (codes "close") in
      let z = Has (codes "set_initial_sequence_number") in
      let b = a || u in
      let c = b || v in
      let d = c || w in
      let e = d || y in (
        λ h. or_first e z (or_first d y (or_first c w (or_first b v (or_first a u h)))),
        (
          λ h. or_first e z (or_first d y (or_first c w (or_first b v (or_second a u h)))),
          (
            λ h. or_first e z (or_first d y (or_first c w (or_second b v h))),
            (
              λ h. or_first e z (or_first d y (or_second c w h)),
              (
                λ h. or_first e z (or_second d y h),
                (λ h. or_second e z h, tt),
              ),
            ),
          ),
        ),
      )

  -- as what is called
  abbrev So : Callable → Type 0
  So c = is_called_so x c.op ≡ true

  library_so : (t : Ty) (o : Option Method) (found : Callable) → library_call t o ≡ Some found → So found
  library_so t None found e = none_found found e
  library_so t (Some m) found e = subst So (some_found (record { op = many_is.Method m None; ty = method_gives m t }) found e) refl

  unit_so : (span : Span) (o : Option UnitMethod) (found : Callable) → ((m : UnitMethod) → o ≡ Some m → LateOr m) → unit_call span o ≡ Some found → So found
  unit_so span None found h e = none_found found e
  unit_so span (Some m) found h e = subst So (some_found (record { op = many_is.OfUnit m span; ty = unit_method_gives m }) found e) (h m refl)

  sink_so : (o : Option SinkMethod) (found : Callable) → ((m : SinkMethod) → o ≡ Some m → OfSinks m) → sink_call o ≡ Some found → So found
  sink_so None found h e = none_found found e
  sink_so (Some m) found h e = subst So (some_found (record { op = many_is.OfSink m; ty = word word_is.Void }) found e) (h m refl)

methods_so : (t : Ty) (x : List ℕ) (span : Span) (ts : List Ty) (found : Callable) → method_of t x span ts ≡ Some found → is_called_so x found.op ≡ true
methods_so (word (word_is.Unit n)) x span ts found e = unit_so x span (told x unit_methods) found (λ m at. told_named (LateOr x) x unit_methods m (units_named x) at) e
methods_so (word word_is.Sink) x span ts found e = sink_so x (told x (sink_methods ts)) found (λ m at. told_named (OfSinks x) x (sink_methods ts) m (sinks_named x ts) at) e
methods_so (word word_is.Bytes) x span ts found e = library_so x (word word_is.Bytes) (told x (bytes_methods ts)) found e
methods_so (word word_is.String) x span ts found e = library_so x (word word_is.String) (told x text_methods) found e
methods_so (made maker_is.Vector us) x span ts found e = library_so x (made maker_is.Vector us) (told x vector_methods) found e
methods_so (made maker_is.Map us) x span ts found e = library_so x (made maker_is.Map us) (told x (map_methods ts)) found e
methods_so _ x span ts found e = none_found found e

-- what stands for arguments that were left out
either_out : (b : Bool) (xs ys : List Expr) → all_hold is_early (exprs xs) ≡ true → all_hold is_early (exprs ys) ≡ true → all_hold is_early (exprs (if b then xs else ys)) ≡ true
either_out true xs ys h i = h
either_out false xs ys h i = i

left_out_early : (m : Method) (span : Span) (n : ℕ) → all_hold is_early (exprs (left_out_of m span n)) ≡ true
left_out_early method_is.ToUint span n = either_out (n == 0) (base_ten span ∷ []) [] refl refl
left_out_early method_is.ToInt span n = either_out (n == 0) (base_ten span ∷ []) [] refl refl
left_out_early method_is.Decode span n =
    either_out (n == 0) (utf8 span ∷ replace span ∷ []) (if n == 1 then replace span ∷ [] else []) refl (either_out (n == 1) (replace span ∷ []) [] refl refl)
left_out_early _ span n = refl

all_left_out : (op : ManyOp) (span : Span) (n : ℕ) → all_hold is_early (exprs (left_out_by op span n)) ≡ true
all_left_out (many_is.Method m slot) span n = left_out_early m span n
all_left_out _ span n = refl

-- members of a unit in which all is built: none is a sink
abbrev not_sink : MemberKind → Bool
not_sink kind_is.Sink = false
not_sink _ = true

abbrev is_no_sink : UnitMember → Bool
is_no_sink m = not_sink m.kind

abbrev NoSinks : List UnitMember → Type 0
NoSinks ms = list_all is_no_sink ms ≡ true

both_none : (xs ys : List UnitMember) → NoSinks xs → NoSinks ys → NoSinks (xs ++ ys)
both_none [] ys h i = i
both_none (x ∷ xs) ys h i = (let p = and_parts (is_no_sink x) (list_all is_no_sink xs) h in and_from (is_no_sink x) (list_all is_no_sink (xs ++ ys)) p.0 (both_none xs ys p.1 i))

fewer_none : (keep : UnitMember → Bool) (ms : List UnitMember) → NoSinks ms → NoSinks (filter keep ms)
fewer_none keep [] h = refl
fewer_none keep (m ∷ ms) h = (let p = and_parts (is_no_sink m) (list_all is_no_sink ms) h in by (keep m) p.0 (fewer_none keep ms p.1))
  where
    by : (b : Bool) → is_no_sink m ≡ true → NoSinks (filter keep ms) → NoSinks (if b then m ∷ filter keep ms else filter keep ms)
    by true i j = and_from (is_no_sink m) (list_all is_no_sink (filter keep ms)) i j
    by false i j = j

firsts_none : (ms : List UnitMember) → NoSinks ms → NoSinks (firsts ms)
firsts_none [] h = refl
firsts_none (m ∷ ms) h =
    let p = and_parts (is_no_sink m) (list_all is_no_sink ms) h in
    and_from (is_no_sink m) (list_all is_no_sink (filter (λ n. not (is_called n.name m)) (firsts ms))) p.0 (fewer_none (λ n. not (is_called n.name m)) (firsts ms) (firsts_none ms p.1))

field_none : (t : Tree) → NoSinks (field_member t)
field_none (node form_is.Field span (more (node (form_is.Name x) s us) ts)) = refl
field_none _ = refl

abbrev first_built : (t : Tree) (ts : Trees) → AreBuilt (more t ts) → IsBuilt t
first_built t ts h = (built_passes 0).first t ts h

mutual
  named_none : (t : Tree) → IsBuilt t → NoSinks (named_in t)
  named_none (node (form_is.Item item_is.Variable) span (more name ts)) h = refl
  named_none (node (form_is.Item item_is.Sink) span (more name ts)) h = never (at_tree (form_is.Item item_is.Sink) span (more name ts) h)
  named_none (node (form_is.Item item_is.Part) span (more part ts)) h = named_none part (first_built part ts ((built_passes 0).parts (form_is.Item item_is.Part) span (more part ts) h))
  named_none (node (form_is.Part part_is.Field) span (more field ts)) h = field_none field
  named_none (node (form_is.Part part_is.Switch) span (more subject (more (row arms) ts))) h = never (at_tree (form_is.Part part_is.Switch) span (more subject (more (row arms) ts)) h)
  named_none (node form_is.Arm span (more guard (more body ts))) h =
      named_none body (first_built body ts ((built_passes 0).rest guard (more body ts) ((built_passes 0).parts form_is.Arm span (more guard (more body ts)) h)))
  named_none (node (form_is.Body body_is.One) span ts) h = among_none ts ((built_passes 0).parts (form_is.Body body_is.One) span ts h)
  named_none (node (form_is.Body body_is.Many) span ts) h = among_none ts ((built_passes 0).parts (form_is.Body body_is.Many) span ts h)
  named_none _ h = refl

  among_none : (ts : Trees) → AreBuilt ts → NoSinks (named_among ts)
  among_none none h = refl
  among_none (more t ts) h = both_none (named_in t) (named_among ts) (named_none t (first_built t ts h)) (among_none ts ((built_passes 0).rest t ts h))

kind_early : (stored : ℕ → Ty) (k : ℕ) (ms : List UnitMember) (n : ℕ) (found : Member) → NoSinks ms → some_member stored k (slice_get (kinds_of ms) n) ≡ Some found → is_early_member found.op ≡ true
kind_early stored k [] n found h e = none_found found e
kind_early stored k (m ∷ ms) zero found h e = by m.kind (and_parts (is_no_sink m) (list_all is_no_sink ms) h).0 e
  where
    by : (kind : MemberKind) → not_sink kind ≡ true → some_member stored k (Some kind) ≡ Some found → is_early_member found.op ≡ true
    by kind_is.Field h e = subst (λ (x : Member). is_early_member x.op ≡ true) (some_found (kind_member (stored k) k kind_is.Field) found e) refl
    by kind_is.Variable h e = subst (λ (x : Member). is_early_member x.op ≡ true) (some_found (kind_member (stored k) k kind_is.Variable) found e) refl
    by kind_is.Sink h e = never h
kind_early stored k (m ∷ ms) (suc n) found h e = kind_early stored k ms n found (and_parts (is_no_sink m) (list_all is_no_sink ms) h).1 e

unit_early : (stored : ℕ → Ty) (ms : List UnitMember) (o : Option ℕ) (found : Member) → NoSinks ms → unit_member stored ms o ≡ Some found → is_early_member found.op ≡ true
unit_early stored ms None found h e = none_found found e
unit_early stored ms (Some k) found h e = kind_early stored k ms k found h e

bit_early : (t : Ty) (o : Option ℕ) (found : Member) → bit_member t o ≡ Some found → is_early_member found.op ≡ true
bit_early t None found e = none_found found e
bit_early t (Some k) found e = subst (λ (x : Member). is_early_member x.op ≡ true) (some_found (record { op = one_is.Bit k; ty = t }) found e) refl

-- the items of the unit that a tree declares
pub items_built : (x : Tree) → IsBuilt x → AreBuilt (unit_items (unit_in (type_tree_of x)))
items_built x h =
    let type = declared_passes (λ m y. IsBuilt y) (λ m ys. AreBuilt ys) built_passes 0 0 x h in
    let unit = type_passes (λ m y. IsBuilt y) (λ m ys. AreBuilt ys) built_passes 0 0 (type_tree_of x) type in
    unit_passes (λ m y. IsBuilt y) (λ m ys. AreBuilt ys) built_passes 0 0 (unit_in (type_tree_of x)) unit

module _ (list : List Tree) (built : AllOf (λ (d : Declaration). IsBuilt d.tree) (rows list)) where
  declared_none : (o : Option Declaration) → ((d : Declaration) → o ≡ Some d → IsBuilt d.tree) → NoSinks (members_of (declared_unit o))
  declared_none None h = refl
  declared_none (Some d) h = (let items = unit_items (unit_in (type_tree_of d.tree)) in firsts_none (named_among items) (among_none items (items_built d.tree (h d refl))))

  pub found_built : (o : Option ℕ) (d : Declaration) → declaration_of list o ≡ Some d → IsBuilt d.tree
  found_built None d e = none_found d e
  found_built (Some g) d e = at_all (λ (x : Declaration). IsBuilt x.tree) (rows list) g d built e

  units_none : (n : ℕ) → NoSinks (unit_members list n)
  units_none n = declared_none (unit_declaration list n) (λ d e. found_built (slice_get (all_of sort_is.Unit list) n) d e)

  members_early : (stored : ℕ → ℕ → Ty) (t : Ty) (x : List ℕ) (found : Member) → member_of list stored t x ≡ Some found → is_early_member found.op ≡ true
  members_early stored (word (word_is.Unit n)) x found e = unit_early (stored n) (unit_members list n) (numbered x 0 (unit_members list n)) found (units_none n) e
  members_early stored (word (word_is.Bitfield n)) x found e = bit_early (width_type (bitfield_width (bitfield_tree list n))) (range_number list n x) found e
  members_early stored _ x found e = none_found found e

  -- in a module
  module _ (facts : Facts) (m : ℕ) where
    declared_leaf : (span : Span) (g : ℕ) (s : DeclSort) → is_leaf (declared_at list facts.answers facts.constant span g s) ≡ true
    declared_leaf span g sort_is.Constant = refl
    declared_leaf span g sort_is.Function = refl
    declared_leaf span g _ = refl

    meaning_leaf : (span : Span) (path : Tree) (meaning : Meaning) → is_leaf (meaning_at list facts.answers facts.constant span path meaning) ≡ true
    meaning_leaf span path (meaning_is.Declaration g) = declared_leaf span g (sort_at list g)
    meaning_leaf span path (meaning_is.LibraryEnum n) = refl
    meaning_leaf span path (meaning_is.Label owner label) = refl
    meaning_leaf span path meaning_is.Decoder = refl
    meaning_leaf span path (meaning_is.Nothing n) = refl

    pub module_early : AreEarly (module_names list facts m)
    module_early = record {
      path = λ span path. meaning_leaf (slice_of list span path (path_means list facts.answers m path)) path (path_means list facts.answers m path);
      named = λ span path. meaning_leaf (slice_of list span path (path_means list facts.answers m path)) path (path_means list facts.answers m path);
      itself = λ span. refl;
      current = λ span. refl;
      left_out = all_left_out;
      member = members_early facts.stored;
      method = methods_so;
    }

-- behind locals and parameters
local_leaf : (span : Span) (o : Option Local) (e : Expr) → is_leaf e ≡ true → is_leaf (local_or span o e) ≡ true
local_leaf span None e h = h
local_leaf span (Some l) e h = refl

pub locals_early : (g : Around) (ls : List Local) → AreEarly g → AreEarly (with_locals ls g)
locals_early g ls known = record {
  path = λ span path. local_leaf span (found_maybe (single_name path) ls) (g.path span path) (known.path span path);
  named = known.named;
  itself = known.itself;
  current = known.current;
  left_out = known.left_out;
  member = known.member;
  method = known.method;
}

at_leaf : (span : Span) (first : ℕ) (hides : Bool) (n : ℕ) (o : Option Parameter) (e : Expr) → is_leaf e ≡ true → is_leaf (or_outside (parameter_at span first hides n o) e) ≡ true
at_leaf span first hides n None e h = h
at_leaf span first hides n (Some p) e h = refl

outside_leaf : (span : Span) (first : ℕ) (hides : Bool) (ps : List Parameter) (o : Option ℕ) (e : Expr) → is_leaf e ≡ true → is_leaf (or_outside (parameter_leaf span first hides ps o) e) ≡ true
outside_leaf span first hides ps None e h = h
outside_leaf span first hides ps (Some n) e h = at_leaf span first hides n (slice_get ps n) e h

pub parameters_early : (g : Around) (first : ℕ) (hides : Bool) (ps : List Parameter) → AreEarly g → AreEarly (with_parameters first hides ps g)
parameters_early g first hides ps known = record {
  path = λ span path. outside_leaf span first hides ps (numbered_maybe (single_name path) ps) (g.path span path) (known.path span path);
  named = known.named;
  itself = known.itself;
  current = known.current;
  left_out = known.left_out;
  member = known.member;
  method = known.method;
}

-- where `self` and `$$` are meant
pub self_early : (g : Around) (t : Ty) (s : Standing) → AreEarly g → AreEarly (with_self t s g)
self_early g t s known = record {
  path = known.path;
  named = known.named;
  itself = λ span. refl;
  current = known.current;
  left_out = known.left_out;
  member = known.member;
  method = known.method;
}

pub current_early : (g : Around) (t : Ty) (s : Standing) → AreEarly g → AreEarly (with_current t s g)
current_early g t s known = record {
  path = known.path;
  named = known.named;
  itself = known.itself;
  current = λ span. refl;
  left_out = known.left_out;
  member = known.member;
  method = known.method;
}
