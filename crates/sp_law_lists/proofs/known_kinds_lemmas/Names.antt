-- What is named round an expression has the type under which it is kept: in a module, behind parameters, locals, `self` and `$$`.
use Rattle.std.specs.Prelude.{ℕ, ◌≡◌, ◌+◌, ◌==◌, zero, suc, Bool, true, false, not, ◌&&◌, if◌then◌else◌, List, [], ◌∷◌, Option, Some, None, slice_get}
use Rattle.std.specs.List.{list_all}
use Rattle.std.specs.Str.{bytes_eq}
use Rattle.std.proofs.Common.{refl, sym, ap, ◌∙◌}
use Rattle.std.proofs.lemmas.Bool.{and_parts, and_from}
use Rattle.sp_base.specs.declared.places.Span.{Span}
use Rattle.sp_words.specs.declared.methods.Method.{Method}
use Rattle.sp_words.specs.declared.methods.Method.TheVariants as method_is
use Rattle.sp_ast.specs.Trees.{Tree}
use Rattle.sp_types.specs.declared.words.Word.{Word}
use Rattle.sp_types.specs.declared.words.Word.TheVariants as word_is
use Rattle.sp_types.specs.declared.words.Maker.TheVariants as maker_is
use Rattle.sp_types.specs.Types.{Ty, word, made, same}
use Rattle.sp_types.proofs.Same.{same_itself}
use Rattle.sp_typed.specs.declared.words.LeafOp.TheVariants as leaf_is
use Rattle.sp_typed.specs.declared.words.ManyOp.{ManyOp}
use Rattle.sp_typed.specs.declared.words.ManyOp.TheVariants as many_is
use Rattle.sp_typed.specs.declared.words.Standing.{Standing}
use Rattle.sp_typed.specs.declared.words.UnitMethod.{UnitMethod}
use Rattle.sp_typed.specs.declared.words.SinkMethod.{SinkMethod}
use Rattle.sp_typed.specs.Exprs.{Expr, exprs}
use Rattle.sp_typed.specs.Nodes.{all_hold}
use Rattle.sp_typed_units.specs.declared.declarations.Parameter.{Parameter}
use Rattle.sp_type_operands.specs.Operands.{unknown}
use Rattle.sp_type_context.specs.declared.context.Member.{Member}
use Rattle.sp_type_context.specs.declared.context.Callable.{Callable}
use Rattle.sp_type_context.specs.Contexts.{Around as Names}
use Rattle.sp_type_scopes.specs.Decorators.{with_current, with_self}
use Rattle.sp_type_stmts.specs.Scopes.{Local, found}
use Rattle.sp_type_stmts.specs.Visible.{found_maybe, local_or, with_locals}
use Rattle.sp_type_context.specs.Names.{single_name}
use Rattle.sp_type_scopes.specs.Parameters.{numbered_maybe, standing_of, parameter_at, parameter_leaf, or_outside, with_parameters}
use Rattle.sp_names.specs.declared.sort.DeclSort.{DeclSort}
use Rattle.sp_names.specs.declared.sort.DeclSort.TheVariants as sort_is
use Rattle.sp_names.specs.declared.sort.Meaning.{Meaning}
use Rattle.sp_names.specs.declared.sort.Meaning.TheVariants as meaning_is
use Rattle.sp_names.specs.Declarations.{sort_at}
use Rattle.sp_names.specs.Names.{path_means}
use Rattle.sp_type_modules.specs.Heads.{function_takes as takes_of, function_gives}
use Rattle.sp_type_methods.specs.Methods.{told, begins_with_order, by_order, bytes_methods, text_methods, vector_methods, are_two, get_method, map_methods, method_gives, method_takes, unit_methods, unit_method_gives, sink_methods, library_call, unit_call, sink_call, method_of, base_ten, utf8, replace, left_out_of}
use Rattle.sp_type_modules.specs.Arounds.{Facts, word_leaf, type_leaf, declared_at, meaning_at, slice_of, left_out_by, member_of, target_of as takes_at, around as module_names}
use Rattle.sp_rule_lists.specs.Told.{function_takes, target_of}
use Rattle.sp_law_lists.proofs.whole_list_lemmas.Modules.{none_found, some_found}
use Rattle.sp_law_lists.proofs.known_types_lemmas.Full.{never}
use Rattle.sp_law_lists.specs.fit_expr.Around.{Around}
use Rattle.sp_law_lists.specs.fit_expr.Sorts.{Sort, Bytes, Text, Vectors, Maps, same_sort}
use Rattle.sp_law_lists.specs.fit_expr.Test.{is_sort}
use Rattle.sp_law_lists.specs.known_kinds.Made.{are_targeted, given_by, receiver_sort, has_slot, callable_made, takes_arguments, member_made, leaf_made, is_made, IsMade, AreMade}
use Rattle.sp_law_lists.specs.known_kinds.Kept.{is_kept, LocalsKept, ParametersKept, ConstantsKept}
use Rattle.sp_law_lists.proofs.known_kinds_lemmas.Making.{number_itself}

-- the methods of the library, by the sort of their receivers
abbrev EachOf : Sort → List (List ℕ × Method) → Type 0
EachOf s [] = Unit {0}
EachOf s (r ∷ rs) = (same_sort s (receiver_sort r.1) ≡ true) × EachOf s rs

told_of : (s : Sort) (x : List ℕ) (rs : List (List ℕ × Method)) (m : Method) → EachOf s rs → told x rs ≡ Some m → same_sort s (receiver_sort m) ≡ true
told_of s x [] m each e = none_found m e
told_of s x (r ∷ rs) m each e = elim (bytes_eq x r.0) as (λ b. (if b then Some r.1 else told x rs) ≡ Some m → same_sort s (receiver_sort m) ≡ true) [
  | true ↦ λ h. ap (λ k. same_sort s (receiver_sort k)) (sym (some_found r.1 m h)) ∙ each.0
  | false ↦ λ h. told_of s x rs m each.1 h
] e

ordered_of : (ts : List Ty) (a b : Method) → same_sort Bytes (receiver_sort a) ≡ true → same_sort Bytes (receiver_sort b) ≡ true → same_sort Bytes (receiver_sort (by_order a b ts)) ≡ true
ordered_of ts a b h i = by (begins_with_order ts)
  where
    by : (c : Bool) → same_sort Bytes (receiver_sort (if c then b else a)) ≡ true
    by true = i
    by false = h

bytes_of : (ts : List Ty) → EachOf Bytes (bytes_methods ts)
bytes_of ts = (ordered_of ts method_is.ToUint method_is.ToUintOrder refl refl, (ordered_of ts method_is.ToInt method_is.ToIntOrder refl refl, (refl, (refl, (refl, (refl, (refl, (refl, (refl, tt)))))))))

get_of : (ts : List Ty) → same_sort Maps (receiver_sort (get_method ts)) ≡ true
get_of ts = by (are_two ts)
  where
    by : (c : Bool) → same_sort Maps (receiver_sort (if c then method_is.GetOr else method_is.Get)) ≡ true
    by true = refl
    by false = refl

library_made : (t : Ty) (o : Option Method) (found : Callable) → ((m : Method) → o ≡ Some m → is_sort t (receiver_sort m) ≡ true) → library_call t o ≡ Some found → callable_made t found.op found.ty ≡ true
library_made t None found h e = none_found found e
library_made t (Some m) found h e =
    let called : Callable = record { op = many_is.Method m None; ty = method_gives m t } in
    let own = and_from (is_sort t (receiver_sort m)) (same (method_gives m t) (method_gives m t)) (h m refl) (same_itself (method_gives m t)) in
    ap (λ (c : Callable). callable_made t c.op c.ty) (sym (some_found called found e))
    ∙ and_from (is_sort t (receiver_sort m) && same (method_gives m t) (method_gives m t)) (not (has_slot None)) own refl

unit_made : (n : ℕ) (span : Span) (o : Option UnitMethod) (found : Callable) → unit_call span o ≡ Some found → callable_made (word (word_is.Unit n)) found.op found.ty ≡ true
unit_made n span None found e = none_found found e
unit_made n span (Some m) found e =
    let called : Callable = record { op = many_is.OfUnit m span; ty = unit_method_gives m } in
    ap (λ (c : Callable). callable_made (word (word_is.Unit n)) c.op c.ty) (sym (some_found called found e)) ∙ same_itself (unit_method_gives m)

sink_made : (o : Option SinkMethod) (found : Callable) → sink_call o ≡ Some found → callable_made (word word_is.Sink) found.op found.ty ≡ true
sink_made None found e = none_found found e
sink_made (Some m) found e =
    let called : Callable = record { op = many_is.OfSink m; ty = word word_is.Void } in
    ap (λ (c : Callable). callable_made (word word_is.Sink) c.op c.ty) (sym (some_found called found e))

methods_made : (t : Ty) (x : List ℕ) (span : Span) (ts : List Ty) (found : Callable) → method_of t x span ts ≡ Some found → callable_made t found.op found.ty ≡ true
methods_made (word (word_is.Unit n)) x span ts found e = unit_made n span (told x unit_methods) found e
methods_made (word word_is.Sink) x span ts found e = sink_made (told x (sink_methods ts)) found e
methods_made (word word_is.Bytes) x span ts found e = library_made (word word_is.Bytes) (told x (bytes_methods ts)) found (λ m at. told_of Bytes x (bytes_methods ts) m (bytes_of ts) at) e
methods_made (word word_is.String) x span ts found e = library_made (word word_is.String) (told x text_methods) found (λ m at. told_of Text x text_methods m (refl, tt) at) e
methods_made (made maker_is.Vector us) x span ts found e = library_made (made maker_is.Vector us) (told x vector_methods) found (λ m at. told_of Vectors x vector_methods m (refl, (refl, (refl, (refl, tt)))) at) e
methods_made (made maker_is.Map us) x span ts found e = library_made (made maker_is.Map us) (told x (map_methods ts)) found (λ m at. told_of Maps x (map_methods ts) m (get_of ts, tt) at) e
methods_made _ x span ts found e = none_found found e

-- what stands for arguments that were left out goes where it stands
either_goes : (target : ℕ → Option Ty) (n : ℕ) (b : Bool) (xs ys : List Expr) → are_targeted target n (exprs xs) ≡ true → are_targeted target n (exprs ys) ≡ true → are_targeted target n (exprs (if b then xs else ys)) ≡ true
either_goes target n true xs ys h i = h
either_goes target n false xs ys h i = i

left_out_goes : (m : Method) (t : Ty) (span : Span) (n : ℕ) → are_targeted (slice_get (method_takes m t)) n (exprs (left_out_of m span n)) ≡ true
left_out_goes method_is.ToUint t span zero = refl
left_out_goes method_is.ToUint t span (suc n) = either_goes (slice_get (method_takes method_is.ToUint t)) (suc n) (suc n == 0) (base_ten span ∷ []) [] refl refl
left_out_goes method_is.ToInt t span zero = refl
left_out_goes method_is.ToInt t span (suc n) = either_goes (slice_get (method_takes method_is.ToInt t)) (suc n) (suc n == 0) (base_ten span ∷ []) [] refl refl
left_out_goes method_is.Decode t span zero = refl
left_out_goes method_is.Decode t span (suc zero) = refl
left_out_goes method_is.Decode t span (suc (suc n)) =
    let target = slice_get (method_takes method_is.Decode t) in
    either_goes target (suc (suc n)) (suc (suc n) == 0) (utf8 span ∷ replace span ∷ []) (if suc (suc n) == 1 then replace span ∷ [] else []) refl
    (either_goes target (suc (suc n)) (suc (suc n) == 1) (replace span ∷ []) [] refl refl)
left_out_goes _ t span n = refl

module _ (around : Around) where
  abbrev Made : Expr → Type 0
  Made e = IsMade around e

  -- locals
  found_made : (span : Span) (x : List ℕ) (ls : List Local) (e : Expr) → list_all (is_kept around) ls ≡ true → Made e → Made (local_or span (found x ls) e)
  found_made span x [] e kept given = given
  found_made span x (l ∷ ls) e kept given = by (bytes_eq x l.name) (found_made span x ls e)
    where
      by : (b : Bool) → (list_all (is_kept around) ls ≡ true → Made e → Made (local_or span (found x ls) e)) → Made (local_or span (if b then Some l else found x ls) e)
      by true later = (and_parts (is_kept around l) (list_all (is_kept around) ls) kept).0
      by false later = later (and_parts (is_kept around l) (list_all (is_kept around) ls) kept).1 given

  maybe_found : (span : Span) (o : Option (List ℕ)) (ls : List Local) (e : Expr) → list_all (is_kept around) ls ≡ true → Made e → Made (local_or span (found_maybe o ls) e)
  maybe_found span None ls e kept given = given
  maybe_found span (Some x) ls e kept given = found_made span x ls e kept given

  pub locals_made : (g : Names) (ls : List Local) → AreMade around g → LocalsKept around ls → AreMade around (with_locals ls g)
  locals_made g ls known kept = record {
    path = λ span path. maybe_found span (single_name path) ls (g.path span path) kept (known.path span path);
    named = known.named;
    itself = known.itself;
    current = known.current;
    left_out = known.left_out;
    member = known.member;
    method = known.method;
    result = known.result;
    target = known.target;
    filled = known.filled;
  }

  -- parameters
  at_made : (span : Span) (first : ℕ) (hides : Bool) (n : ℕ) (o : Option Parameter) (e : Expr) → ((p : Parameter) → o ≡ Some p → leaf_made around (leaf_is.Parameter (first + n) (standing_of hides p.ty)) p.ty ≡ true) → Made e
      → Made (or_outside (parameter_at span first hides n o) e)
  at_made span first hides n None e kept given = given
  at_made span first hides n (Some p) e kept given = kept p refl

  leaf_made_so : (span : Span) (first : ℕ) (hides : Bool) (ps : List Parameter) (o : Option ℕ) (e : Expr) → ParametersKept around first ps → Made e → Made (or_outside (parameter_leaf span first hides ps o) e)
  leaf_made_so span first hides ps None e kept given = given
  leaf_made_so span first hides ps (Some n) e kept given = at_made span first hides n (slice_get ps n) e (λ p at. kept n p at) given

  pub parameters_made : (g : Names) (first : ℕ) (hides : Bool) (ps : List Parameter) → AreMade around g → ParametersKept around first ps → AreMade around (with_parameters first hides ps g)
  parameters_made g first hides ps known kept = record {
    path = λ span path. leaf_made_so span first hides ps (numbered_maybe (single_name path) ps) (g.path span path) kept (known.path span path);
    named = known.named;
    itself = known.itself;
    current = known.current;
    left_out = known.left_out;
    member = known.member;
    method = known.method;
    result = known.result;
    target = known.target;
    filled = known.filled;
  }

  -- `self` and `$$`
  pub self_made : (g : Names) (t : Ty) (s : Standing) → AreMade around g → leaf_made around (leaf_is.Itself s) t ≡ true → AreMade around (with_self t s g)
  self_made g t s known kept = record {
    path = known.path;
    named = known.named;
    itself = λ span. kept;
    current = known.current;
    left_out = known.left_out;
    member = known.member;
    method = known.method;
    result = known.result;
    target = known.target;
    filled = known.filled;
  }

  pub current_made : (g : Names) (t : Ty) (s : Standing) → AreMade around g → leaf_made around (leaf_is.Current s) t ≡ true → AreMade around (with_current t s g)
  current_made g t s known kept = record {
    path = known.path;
    named = known.named;
    itself = known.itself;
    current = λ span. kept;
    left_out = known.left_out;
    member = known.member;
    method = known.method;
    result = known.result;
    target = known.target;
    filled = known.filled;
  }

  -- modules
  word_made : (w : Word) (t : Ty) → leaf_made around (word_leaf w) t ≡ true
  word_made word_is.Decoder t = refl
  word_made _ t = refl

  type_made : (o : Option Ty) (t : Ty) → leaf_made around (type_leaf o) t ≡ true
  type_made None t = refl
  type_made (Some (word w)) t = word_made w t
  type_made (Some (made m ts)) t = refl

  -- what stands for arguments that were left out
  either_made : (b : Bool) (xs ys : List Expr) → all_hold (is_made around) (exprs xs) ≡ true → all_hold (is_made around) (exprs ys) ≡ true → all_hold (is_made around) (exprs (if b then xs else ys)) ≡ true
  either_made true xs ys h i = h
  either_made false xs ys h i = i

  left_out_made : (m : Method) (span : Span) (n : ℕ) → all_hold (is_made around) (exprs (left_out_of m span n)) ≡ true
  left_out_made method_is.ToUint span n = either_made (n == 0) (base_ten span ∷ []) [] refl refl
  left_out_made method_is.ToInt span n = either_made (n == 0) (base_ten span ∷ []) [] refl refl
  left_out_made method_is.Decode span n =
      either_made (n == 0) (utf8 span ∷ replace span ∷ []) (if n == 1 then replace span ∷ [] else []) refl (either_made (n == 1) (replace span ∷ []) [] refl refl)
  left_out_made _ span n = refl

  all_left_out : (op : ManyOp) (span : Span) (n : ℕ) → all_hold (is_made around) (exprs (left_out_by op span n)) ≡ true
  all_left_out (many_is.Method m slot) span n = left_out_made m span n
  all_left_out _ span n = refl

  module _ (list : List Tree) (facts : Facts) (m : ℕ) (constants : ConstantsKept around list facts.constant) where
    declared_made : (span : Span) (g : ℕ) (s : DeclSort) → sort_at list g ≡ s → Made (declared_at list facts.answers facts.constant span g s)
    declared_made span g sort_is.Constant is = constants g is
    declared_made span g sort_is.Function is = refl
    declared_made span g _ is = type_made (facts.answers g) unknown

    meaning_made : (span : Span) (path : Tree) (meaning : Meaning) → Made (meaning_at list facts.answers facts.constant span path meaning)
    meaning_made span path (meaning_is.Declaration g) = declared_made span g (sort_at list g) refl
    meaning_made span path (meaning_is.LibraryEnum n) = refl
    meaning_made span path (meaning_is.Label owner label) = number_itself owner
    meaning_made span path meaning_is.Decoder = refl
    meaning_made span path (meaning_is.Nothing n) = refl

    module _ (gives : (f : ℕ) → function_gives list facts.answers f ≡ given_by (slice_get around.list.functions f)) (takes : (f n : ℕ) → slice_get (takes_of list facts.answers f) n ≡ function_takes (slice_get around.list.functions f) n) where
      targets : (op : ManyOp) (t : Ty) (n : ℕ) → takes_arguments op ≡ true → takes_at list facts.answers op t n ≡ target_of around.list op t n
      targets (many_is.Call f) t n a = takes f n
      targets (many_is.Method m slot) t n a = refl
      targets _ t n a = never a

      filled_so : (op : ManyOp) (t : Ty) (span : Span) (n : ℕ) → takes_arguments op ≡ true → are_targeted (target_of around.list op t) n (exprs (left_out_by op span n)) ≡ true
      filled_so (many_is.Call f) t span n a = refl
      filled_so (many_is.Method m slot) t span n a = left_out_goes m t span n
      filled_so _ t span n a = never a

      pub module_made : ((t : Ty) (name : List ℕ) (found : Member) → member_of list facts.stored t name ≡ Some found → member_made around found.op t found.ty ≡ true) → AreMade around (module_names list facts m)
      module_made members = record {
        path = λ span path. meaning_made (slice_of list span path (path_means list facts.answers m path)) path (path_means list facts.answers m path);
        named = λ span path. meaning_made (slice_of list span path (path_means list facts.answers m path)) path (path_means list facts.answers m path);
        itself = λ span. refl;
        current = λ span. refl;
        left_out = all_left_out;
        member = members;
        method = methods_made;
        result = gives;
        target = targets;
        filled = filled_so;
      }
