-- The kinds of what is read.
use Rattle.std.proofs.Common.{◌≡◌, ◌+◌, ℕ, List, ◌∷◌, drop, Option, Some, None, refl, ap, subst, ◌∙◌, IfOk, Result}
use Rattle.std.specs.Prelude.{unwrap_or}
use Rattle.std.proofs.lemmas.Result.{IfOk-weaker}
use Rattle.sp_base.specs.declared.bytes.NoMemory.{NoMemory}
use Rattle.sp_words.specs.declared.words.AttributeName.{AttributeName}
use Rattle.sp_words.specs.declared.words.AttributeName.TheVariants.{Convert}
use Rattle.sp_methods.specs.Kinds.{Kind, VectorOf}
use Rattle.sp_types.specs.declared.words.Word.TheVariants as word_is
use Rattle.sp_types.specs.Types.{Ty, word}
use Rattle.sp_typed.specs.Exprs.{Expr}
use Rattle.sp_typed_units.specs.declared.attributes.Attribute.{Attribute}
use Rattle.sp_typed_units.specs.declared.declarations.HookOf.{HookOf}
use Rattle.sp_typed_units.specs.declared.declarations.HookOf.TheVariants as hook_of
use Rattle.sp_code.specs.Programs.{kind_at}
use Rattle.sp_emit.specs.Kinds.{IsNumberOf}
use Rattle.sp_emit.specs.Emitted.{Emitted}
use Rattle.sp_code_programs.specs.programs.Currents.{unless_convert, converted_by, current_type}
use Rattle.sp_lower_tables.specs.Numbers.{GivesNumber}
use Rattle.sp_lower_tables.specs.inside.Conversions.{conversion}
use Rattle.sp_lower_tables.proofs.Numbered.{turns_both}

-- a container of what has a kind
pub vector_number : (a b c : Emitted) (k : Kind) (m : ℕ) (r : Result ℕ NoMemory) → GivesNumber a b k m → IfOk r (GivesNumber b c (VectorOf (kind_at b.kinds m))) → IfOk r (GivesNumber a c (VectorOf k))
vector_number a b c k m r h given =
    IfOk-weaker r (GivesNumber b c (VectorOf (kind_at b.kinds m))) (GivesNumber a c (VectorOf k))
    (λ n is. record { same = turns_both a b c h.same is.same; number = subst (λ (j : Kind). IsNumberOf c.kinds (VectorOf j) n) h.number.is is.number }) given

-- a body that no field has
pub no_field : (of : HookOf) → current_type of None ≡ word word_is.Void
no_field hook_of.Nothing = refl
no_field (hook_of.Unit u h) = refl
no_field (hook_of.Field u m) = refl
no_field (hook_of.Elements u m) = refl
no_field (hook_of.Anonymous u) = refl
no_field (hook_of.AnonymousElements u) = refl

-- what one attribute makes of a value
unless_is : (name : AttributeName) (value : Option Expr) (t : Ty) → unless_convert name value t ≡ unwrap_or (conversion name value) t
unless_is Convert (Some e) t = refl
unless_is Convert None t = refl
unless_is _ value t = refl

-- what several attributes make, where the next of them makes something, and where it doesn't
pub converts_here : (attributes : List Attribute) (i : ℕ) (a : Attribute) (into t : Ty) → drop i attributes ≡ a ∷ drop (i + 1) attributes → conversion a.name a.value ≡ Some into → converted_by (drop i attributes) t ≡ into
converts_here attributes i a into t next is =
    ap (λ (l : List Attribute). converted_by l t) next
    ∙ unless_is a.name a.value (converted_by (drop (i + 1) attributes) t)
    ∙ ap (λ o. unwrap_or o (converted_by (drop (i + 1) attributes) t)) is

pub converts_later : (attributes : List Attribute) (i : ℕ) (a : Attribute) (t : Ty) → drop i attributes ≡ a ∷ drop (i + 1) attributes → conversion a.name a.value ≡ None → converted_by (drop i attributes) t ≡ converted_by (drop (i + 1) attributes) t
converts_later attributes i a t next is =
    ap (λ (l : List Attribute). converted_by l t) next
    ∙ unless_is a.name a.value (converted_by (drop (i + 1) attributes) t)
    ∙ ap (λ o. unwrap_or o (converted_by (drop (i + 1) attributes) t)) is
