-- Where all that can be named is known, it is so where locals of full types are seen.
use Rattle.std.specs.Prelude.{ℕ, Bool, true, false, if◌then◌else◌, List, [], ◌∷◌, Option, Some, None}
use Rattle.std.specs.Str.{bytes_eq}
use Rattle.std.proofs.Common.{◌≡◌, refl, sym, ap, ◌∙◌}
use Rattle.std.proofs.lemmas.Bool.{and_parts}
use Rattle.sp_base.specs.declared.places.Span.{Span}
use Rattle.sp_ast.specs.Trees.{Tree}
use Rattle.sp_types.specs.Types.{Ty}
use Rattle.sp_typed.specs.declared.words.OneOp.{OneOp}
use Rattle.sp_typed.specs.Exprs.{Expr, Exprs, leaf, one, two, three, many, none, more}
use Rattle.sp_type_context.specs.Contexts.{Around}
use Rattle.sp_type_stmts.specs.Scopes.{Local, Scope, found}
use Rattle.sp_type_stmts.specs.Visible.{found_maybe, local_or, with_locals}
use Rattle.sp_type_context.specs.Names.{single_name}
use Rattle.sp_type_stmts.specs.Owners.{with_owner, kept, all_kept, changed_owner}
use Rattle.sp_rule_bodies.specs.Known.{Known}
use Rattle.sp_law_lists.specs.known_types.Full.{is_full}
use Rattle.sp_law_lists.specs.known_types.Given.{is_named, IsKnown}
use Rattle.sp_law_lists.specs.known_bodies.Decided.{locals_full, DecidesUnder}

abbrev pub Full : Scope → Type 0
Full sc = locals_full sc.locals ≡ true

none_found : {X : Type 0} (l : Local) → None ≡ Some l → X
none_found l e = absurd (let b : ⊥ = (cc) in b)

some_found : (k l : Local) → Some k ≡ Some l → k ≡ l
some_found k l e = cc

found_full : (x : List ℕ) (ls : List Local) (l : Local) → found x ls ≡ Some l → locals_full ls ≡ true → is_full l.ty ≡ true
found_full x [] l e f = none_found l e
found_full x (k ∷ ls) l e f = elim (bytes_eq x k.name) as (λ b. (if b then Some k else found x ls) ≡ Some l → is_full l.ty ≡ true) [
  | true ↦ λ h. ap (λ (j : Local). is_full j.ty) (sym (some_found k l h)) ∙ (and_parts (is_full k.ty) (locals_full ls) f).0
  | false ↦ λ h. found_full x ls l h (and_parts (is_full k.ty) (locals_full ls) f).1
] e

maybe_full : (o : Option (List ℕ)) (ls : List Local) (l : Local) → found_maybe o ls ≡ Some l → locals_full ls ≡ true → is_full l.ty ≡ true
maybe_full None ls l e f = none_found l e
maybe_full (Some x) ls l e f = found_full x ls l e f

local_named : (result : ℕ → Ty) (span : Span) (o : Option Local) (e : Expr) → ((l : Local) → o ≡ Some l → is_full l.ty ≡ true) → is_named result e ≡ true → is_named result (local_or span o e) ≡ true
local_named result span None e f n = n
local_named result span (Some l) e f n = f l refl

module _ (g : Around) (only : OneOp → Bool) (k : Known) (m : ℕ) (is_type is_path : Tree → Bool) where
  pub locals_known : IsKnown g only k m is_type is_path → DecidesUnder g only k m is_type is_path → (ls : List Local) → locals_full ls ≡ true → IsKnown (with_locals ls g) only k m is_type is_path
  locals_known known decides ls f = record {
    path = λ span path is. local_named g.result span (found_maybe (single_name path) ls) (g.path span path) (λ l e. maybe_full (single_name path) ls l e f) (known.path span path is);
    named = known.named;
    itself = known.itself;
    current = known.current;
    names_types = known.names_types;
    type_in = known.type_in;
    kept = known.kept;
    key = known.key;
    member = known.member;
    method = known.method;
    gives = known.gives;
    left_out = known.left_out;
    index = decides ls f;
  }

-- what is kept opens no local
owner_locals : (sc : Scope) (o : Option Ty) → (with_owner sc o).locals ≡ sc.locals
owner_locals sc None = refl
owner_locals sc (Some t) = refl

mutual
  kept_locals : (sc : Scope) (e : Expr) → (kept sc e).1.locals ≡ sc.locals
  kept_locals sc (leaf h) = refl
  kept_locals sc (one h a) = kept_locals sc a
  kept_locals sc (two h a b) = kept_locals (kept sc a).1 b ∙ kept_locals sc a
  kept_locals sc (three h a b c) =
      let x = kept sc a in
      let y = kept x.1 b in
      kept_locals y.1 c ∙ kept_locals x.1 b ∙ kept_locals sc a
  kept_locals sc (many h es) =
      let xs = all_kept sc es in
      owner_locals xs.1 (changed_owner h.op xs.0) ∙ all_kept_locals sc es

  all_kept_locals : (sc : Scope) (es : Exprs) → (all_kept sc es).1.locals ≡ sc.locals
  all_kept_locals sc none = refl
  all_kept_locals sc (more e es) = all_kept_locals (kept sc e).1 es ∙ kept_locals sc e

pub kept_full : (sc : Scope) (e : Expr) → Full sc → Full (kept sc e).1
kept_full sc e f = ap locals_full (kept_locals sc e) ∙ f

pub owner_full : (sc : Scope) (o : Option Ty) → Full sc → Full (with_owner sc o)
owner_full sc o f = ap locals_full (owner_locals sc o) ∙ f
