-- What stands round the expressions of a module: all that it can name is known.
use Rattle.std.specs.Prelude.{if◌then◌else◌, ◌==◌, slice_get}
use Rattle.std.specs.Str.{bytes_eq}
use Rattle.std.proofs.Common.{ℕ, ◌≡◌, Bool, true, false, refl, sym, ap, subst, ◌∙◌, List, [], ◌∷◌, Option, Some, None}
use Rattle.sp_base.specs.declared.places.Span.{Span}
use Rattle.sp_words.specs.declared.methods.Method.{Method}
use Rattle.sp_words.specs.declared.methods.Method.TheVariants as method_is
use Rattle.sp_ast.specs.Trees.{Tree}
use Rattle.sp_types.specs.declared.words.Word.{Word}
use Rattle.sp_types.specs.declared.words.Word.TheVariants as word_is
use Rattle.sp_types.specs.declared.words.Maker.TheVariants as maker_is
use Rattle.sp_types.specs.Types.{Ty, Tys, word, made}
use Rattle.sp_typed.specs.declared.words.OneOp.{OneOp}
use Rattle.sp_typed.specs.declared.words.OneOp.TheVariants as one_is
use Rattle.sp_typed.specs.declared.words.ManyOp.{ManyOp}
use Rattle.sp_typed.specs.declared.words.ManyOp.TheVariants as many_is
use Rattle.sp_typed.specs.declared.words.UnitMethod.{UnitMethod}
use Rattle.sp_typed.specs.declared.words.UnitMethod.TheVariants as unit_is
use Rattle.sp_typed.specs.declared.words.SinkMethod.{SinkMethod}
use Rattle.sp_typed.specs.Exprs.{Expr, exprs}
use Rattle.sp_typed.specs.Nodes.{all_hold}
use Rattle.sp_typed_units.specs.declared.declarations.MemberKind.{MemberKind}
use Rattle.sp_typed_units.specs.declared.declarations.MemberKind.TheVariants as kind_is
use Rattle.sp_type_context.specs.declared.context.Member.{Member}
use Rattle.sp_type_context.specs.declared.context.Callable.{Callable}
use Rattle.sp_type_operands.specs.Operands.{unknown}
use Rattle.sp_type_context.specs.Typing.{leaf_at}
use Rattle.sp_names.specs.declared.sort.DeclSort.{DeclSort}
use Rattle.sp_names.specs.declared.sort.DeclSort.TheVariants as sort_is
use Rattle.sp_names.specs.declared.sort.Meaning.{Meaning}
use Rattle.sp_names.specs.declared.sort.Meaning.TheVariants as meaning_is
use Rattle.sp_names.specs.Declarations.{sort_at}
use Rattle.sp_names.specs.Names.{path_means}
use Rattle.sp_names.specs.Types.{mentions_in}
use Rattle.sp_type_context.specs.declared.places.Place.TheVariants as place_is
use Rattle.sp_type_modules.specs.Heads.{function_gives}
use Rattle.sp_type_modules.specs.Members.{UnitMember, unit_members, numbered, kinds_of, range_number, bitfield_width, bitfield_tree}
use Rattle.sp_type_methods.specs.Methods.{told, begins_with_order, by_order, bytes_methods, text_methods, vector_methods, are_two, get_method, map_methods, method_gives, unit_methods, unit_method_gives, sink_methods, library_call, unit_call, sink_call, method_of, base_ten, utf8, replace, left_out_of}
use Rattle.sp_type_modules.specs.Arounds.{Facts, word_leaf, type_leaf, declared_at, meaning_at, slice_of, kind_member, some_member, unit_member, width_type, bit_member, member_of, left_out_by, path_at, around}
use Rattle.sp_rule_bodies.specs.Known.{Known}
use Rattle.sp_law_lists.specs.known_types.Full.{is_full, is_right}
use Rattle.sp_law_lists.specs.known_types.Given.{is_named, is_member_op, is_method_op, IsKnown}
use Rattle.sp_law_lists.proofs.known_types_lemmas.Full.{vector_first, map_second}
use Rattle.std.proofs.lemmas.Bool.{and_from}
use Rattle.sp_law_lists.specs.known_bodies.Decided.{Decides}
use Rattle.sp_law_lists.specs.whole_list.Known.{HasType, AreKnown}
use Rattle.sp_law_lists.specs.whole_list.Types.{is_type}
use Rattle.sp_law_lists.proofs.whole_list_lemmas.Types.{type_full, type_kept, type_key, each_has, type_named}

pub none_found : {A X : Type 0} (a : A) → None ≡ Some a → X
none_found a e = absurd (let b : ⊥ = (cc) in b)

pub some_found : {A : Type 0} (a b : A) → Some a ≡ Some b → a ≡ b
some_found a b e = cc

-- the name of a type
word_named : (result : ℕ → Ty) (span : Span) (w : Word) → is_named result (leaf_at span unknown (word_leaf w)) ≡ true
word_named result span word_is.Decoder = refl
word_named result span _ = refl

pub type_named_by : (result : ℕ → Ty) (span : Span) (o : Option Ty) → is_named result (leaf_at span unknown (type_leaf o)) ≡ true
type_named_by result span None = refl
type_named_by result span (Some (word w)) = word_named result span w
type_named_by result span (Some (made m ts)) = refl

-- members
kind_op : (stored : ℕ → Ty) (k : ℕ) (o : Option MemberKind) (found : Member) → some_member stored k o ≡ Some found → is_member_op found.op ≡ true
kind_op stored k None found e = none_found found e
kind_op stored k (Some kind_is.Field) found e = ap (λ (x : Member). is_member_op x.op) (sym (some_found (kind_member (stored k) k kind_is.Field) found e))
kind_op stored k (Some kind_is.Variable) found e = ap (λ (x : Member). is_member_op x.op) (sym (some_found (kind_member (stored k) k kind_is.Variable) found e))
kind_op stored k (Some kind_is.Sink) found e = ap (λ (x : Member). is_member_op x.op) (sym (some_found (kind_member (word word_is.Sink) k kind_is.Sink) found e))

unit_op : (stored : ℕ → Ty) (ms : List UnitMember) (o : Option ℕ) (found : Member) → unit_member stored ms o ≡ Some found → is_member_op found.op ≡ true
unit_op stored ms None found e = none_found found e
unit_op stored ms (Some k) found e = kind_op stored k (slice_get (kinds_of ms) k) found e

bit_op : (t : Ty) (o : Option ℕ) (found : Member) → bit_member t o ≡ Some found → is_member_op found.op ≡ true
bit_op t None found e = none_found found e
bit_op t (Some k) found e = ap (λ (x : Member). is_member_op x.op) (sym (some_found (record { op = one_is.Bit k; ty = t }) found e))

pub member_op : (list : List Tree) (stored : ℕ → ℕ → Ty) (t : Ty) (x : List ℕ) (found : Member) → member_of list stored t x ≡ Some found → is_member_op found.op ≡ true
member_op list stored (word (word_is.Unit n)) x found e = unit_op (stored n) (unit_members list n) (numbered x 0 (unit_members list n)) found e
member_op list stored (word (word_is.Bitfield n)) x found e = bit_op (width_type (bitfield_width (bitfield_tree list n))) (range_number list n x) found e
member_op list stored _ x found e = none_found found e

-- methods: what holds of each in a table
abbrev EachRow : {A : Type 0} → (A → Type 0) → List (List ℕ × A) → Type 0
EachRow P [] = Unit {0}
EachRow P (r ∷ rs) = P r.1 × EachRow P rs

told_each : {A : Type 0} (P : A → Type 0) (x : List ℕ) (rs : List (List ℕ × A)) (a : A) → EachRow P rs → told x rs ≡ Some a → P a
told_each P x [] a each e = none_found a e
told_each P x (r ∷ rs) a each e = elim (bytes_eq x r.0) as (λ b. (if b then Some r.1 else told x rs) ≡ Some a → P a) [
  | true ↦ λ h. subst P (some_found r.1 a h) each.0
  | false ↦ λ h. told_each P x rs a each.1 h
] e

library_op : (t : Ty) (o : Option Method) (found : Callable) → library_call t o ≡ Some found → is_method_op found.op ≡ true
library_op t None found e = none_found found e
library_op t (Some m) found e = ap (λ (c : Callable). is_method_op c.op) (sym (some_found (record { op = many_is.Method m None; ty = method_gives m t }) found e))

unit_call_op : (span : Span) (o : Option UnitMethod) (found : Callable) → unit_call span o ≡ Some found → is_method_op found.op ≡ true
unit_call_op span None found e = none_found found e
unit_call_op span (Some m) found e = ap (λ (c : Callable). is_method_op c.op) (sym (some_found (record { op = many_is.OfUnit m span; ty = unit_method_gives m }) found e))

sink_call_op : (o : Option SinkMethod) (found : Callable) → sink_call o ≡ Some found → is_method_op found.op ≡ true
sink_call_op None found e = none_found found e
sink_call_op (Some m) found e = ap (λ (c : Callable). is_method_op c.op) (sym (some_found (record { op = many_is.OfSink m; ty = word word_is.Void }) found e))

pub method_op : (t : Ty) (x : List ℕ) (span : Span) (ts : List Ty) (found : Callable) → method_of t x span ts ≡ Some found → is_method_op found.op ≡ true
method_op (word (word_is.Unit n)) x span ts found e = unit_call_op span (told x unit_methods) found e
method_op (word word_is.Sink) x span ts found e = sink_call_op (told x (sink_methods ts)) found e
method_op (word word_is.Bytes) x span ts found e = library_op (word word_is.Bytes) (told x (bytes_methods ts)) found e
method_op (word word_is.String) x span ts found e = library_op (word word_is.String) (told x text_methods) found e
method_op (made maker_is.Vector us) x span ts found e = library_op (made maker_is.Vector us) (told x vector_methods) found e
method_op (made maker_is.Map us) x span ts found e = library_op (made maker_is.Map us) (told x (map_methods ts)) found e
method_op _ x span ts found e = none_found found e

-- what they give
library_full : (t : Ty) (o : Option Method) (found : Callable) → ((m : Method) → o ≡ Some m → is_full (method_gives m t) ≡ true) → library_call t o ≡ Some found → is_full found.ty ≡ true
library_full t None found f e = none_found found e
library_full t (Some m) found f e =
    ap (λ (c : Callable). is_full c.ty) (sym (some_found (record { op = many_is.Method m None; ty = method_gives m t }) found e)) ∙ f m refl

unit_gives : (m : UnitMethod) → is_full (unit_method_gives m) ≡ true
unit_gives unit_is.Offset = refl
unit_gives unit_is.Input = refl
unit_gives _ = refl

unit_call_full : (span : Span) (o : Option UnitMethod) (found : Callable) → unit_call span o ≡ Some found → is_full found.ty ≡ true
unit_call_full span None found e = none_found found e
unit_call_full span (Some m) found e =
    ap (λ (c : Callable). is_full c.ty) (sym (some_found (record { op = many_is.OfUnit m span; ty = unit_method_gives m }) found e)) ∙ unit_gives m

sink_call_full : (o : Option SinkMethod) (found : Callable) → sink_call o ≡ Some found → is_full found.ty ≡ true
sink_call_full None found e = none_found found e
sink_call_full (Some m) found e = ap (λ (c : Callable). is_full c.ty) (sym (some_found (record { op = many_is.OfSink m; ty = word word_is.Void }) found e))

abbrev Gives : Ty → Method → Type 0
Gives t m = is_full (method_gives m t) ≡ true

ordered : (t : Ty) (a b : Method) (ts : List Ty) → Gives t a → Gives t b → Gives t (by_order a b ts)
ordered t a b ts f g = elim (begins_with_order ts) as (λ c. Gives t (if c then b else a)) [
  | true ↦ g
  | false ↦ f
]

got_full : (us : Tys) (ts : List Ty) → is_full (made maker_is.Map us) ≡ true → Gives (made maker_is.Map us) (get_method ts)
got_full us ts f = elim (are_two ts) as (λ c. Gives (made maker_is.Map us) (if c then method_is.GetOr else method_is.Get)) [
  | true ↦ map_second us f
  | false ↦ map_second us f
]

method_full : (t : Ty) (x : List ℕ) (span : Span) (ts : List Ty) (found : Callable) → method_of t x span ts ≡ Some found → is_full t ≡ true → is_full found.ty ≡ true
method_full (word (word_is.Unit n)) x span ts found e f = unit_call_full span (told x unit_methods) found e
method_full (word word_is.Sink) x span ts found e f = sink_call_full (told x (sink_methods ts)) found e
method_full (word word_is.Bytes) x span ts found e f =
    let t = word word_is.Bytes in
    library_full t (told x (bytes_methods ts)) found (λ m h. told_each (Gives t) x (bytes_methods ts) m (ordered t method_is.ToUint method_is.ToUintOrder ts refl refl, (ordered t method_is.ToInt method_is.ToIntOrder ts refl refl, (refl, (refl, (refl, (refl, (refl, (refl, (refl, tt))))))))) h) e
method_full (word word_is.String) x span ts found e f =
    let t = word word_is.String in
    library_full t (told x text_methods) found (λ m h. told_each (Gives t) x text_methods m (refl, tt) h) e
method_full (made maker_is.Vector us) x span ts found e f =
    let t = made maker_is.Vector us in
    library_full t (told x vector_methods) found (λ m h. told_each (Gives t) x vector_methods m (refl, (vector_first us f, (vector_first us f, (vector_first us f, tt)))) h) e
method_full (made maker_is.Map us) x span ts found e f =
    let t = made maker_is.Map us in
    library_full t (told x (map_methods ts)) found (λ m h. told_each (Gives t) x (map_methods ts) m (got_full us ts f, tt) h) e
method_full _ x span ts found e f = none_found found e

-- what stands for arguments that were left out
abbrev AreRight : List Expr → Type 0
AreRight es = all_hold is_right (exprs es) ≡ true

either_right : (b : Bool) (xs ys : List Expr) → AreRight xs → AreRight ys → AreRight (if b then xs else ys)
either_right true xs ys h i = h
either_right false xs ys h i = i

left_out_right : (m : Method) (span : Span) (n : ℕ) → AreRight (left_out_of m span n)
left_out_right method_is.ToUint span n = either_right (n == 0) (base_ten span ∷ []) [] refl refl
left_out_right method_is.ToInt span n = either_right (n == 0) (base_ten span ∷ []) [] refl refl
left_out_right method_is.Decode span n =
    either_right (n == 0) (utf8 span ∷ replace span ∷ []) (if n == 1 then replace span ∷ [] else []) refl (either_right (n == 1) (replace span ∷ []) [] refl refl)
left_out_right _ span n = refl

all_right : (op : ManyOp) (span : Span) (n : ℕ) → AreRight (left_out_by op span n)
all_right (many_is.Method m slot) span n = left_out_right m span n
all_right _ span n = refl

module _ (list : List Tree) (facts : Facts) where
  abbrev result : ℕ → Ty
  result = function_gives list facts.answers

  -- what stands round the expressions of the module m, where it is known what each path is that a test lets through
  pub paths_known : (only : OneOp → Bool) (k : Known) (m rules : ℕ) (is_path : Tree → Bool) → ((g : ℕ) → HasType list facts.answers g)
      → ((t : Ty) (name : List ℕ) (found : Member) → member_of list facts.stored t name ≡ Some found → only found.op ≡ true → is_full found.ty ≡ true)
      → ((span : Span) (path : Tree) → is_path path ≡ true → is_named result (path_at list facts.answers facts.constant m span path) ≡ true)
      → Decides (around list facts m) only k rules (is_type list facts.answers m) is_path → IsKnown (around list facts m) only k rules (is_type list facts.answers m) is_path
  paths_known only k m rules is_path types members named decides = record {
    path = named;
    named = named;
    itself = λ span. refl;
    current = λ span. refl;
    names_types = λ place t is. type_named list facts.answers m t is;
    type_in = λ place t is placed. type_full list facts.answers m place t is placed (each_has list facts.answers m types (mentions_in list m t));
    kept = λ t is placed. type_kept list facts.answers m t placed;
    key = λ t is placed. type_key list facts.answers m t placed;
    member = λ t name found e may. and_from (is_member_op found.op) (is_full found.ty) (member_op list facts.stored t name found e) (members t name found e may);
    method = λ t name span ts found e. method_op t name span ts found e;
    gives = λ t name span ts found e full. method_full t name span ts found e full;
    left_out = λ op span n. all_right op span n;
    index = decides;
  }

  module _ (only : OneOp → Bool) (known : AreKnown list facts only) where
    declared_named : (span : Span) (g : ℕ) (s : DeclSort) → sort_at list g ≡ s → is_named result (declared_at list facts.answers facts.constant span g s) ≡ true
    declared_named span g sort_is.Constant e = known.constants g e
    declared_named span g sort_is.Function e = known.results g e
    declared_named span g _ e = type_named_by result span (facts.answers g)

    meaning_named : (span : Span) (path : Tree) (meaning : Meaning) → is_named result (meaning_at list facts.answers facts.constant span path meaning) ≡ true
    meaning_named span path (meaning_is.Declaration g) = declared_named span g (sort_at list g) refl
    meaning_named span path (meaning_is.LibraryEnum n) = refl
    meaning_named span path (meaning_is.Label owner label) = refl
    meaning_named span path meaning_is.Decoder = refl
    meaning_named span path (meaning_is.Nothing n) = refl

    -- the same where all paths are known
    pub module_known : (k : Known) (m rules : ℕ) (is_path : Tree → Bool) → Decides (around list facts m) only k rules (is_type list facts.answers m) is_path → IsKnown (around list facts m) only k rules (is_type list facts.answers m) is_path
    module_known k m rules is_path decides =
        paths_known only k m rules is_path known.types known.members (λ span path is. meaning_named (slice_of list span path (path_means list facts.answers m path)) path (path_means list facts.answers m path)) decides
