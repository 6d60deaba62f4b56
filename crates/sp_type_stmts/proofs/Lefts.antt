-- A part that is there is not left out.
use Rattle.std.proofs.Common.{◌≡◌, Bool, true, false, Option, Some, None, refl, sym, ap, ◌∙◌}
use Rattle.sp_base.specs.declared.places.Span.{Span}
use Rattle.sp_ast.specs.declared.groups.Group.{Group}
use Rattle.sp_ast.specs.Groups.{is_of}
use Rattle.sp_ast.specs.Trees.{Tree, absent, row, node}
use Rattle.sp_types.specs.Types.{Ty}
use Rattle.sp_typed.specs.declared.words.Written.{Written}
use Rattle.sp_typed.specs.declared.stmt_words.ValuedOp.TheVariants as valued_is
use Rattle.sp_typed.specs.Stmts.{Stmt}
use Rattle.sp_type_context.specs.declared.places.Place.{Place}
use Rattle.sp_type_context.specs.declared.places.Place.TheVariants.{Local}
use Rattle.sp_type_context.specs.Contexts.{Around}
use Rattle.sp_type_context.specs.Typing.{to_maybe}
use Rattle.sp_type_stmts.specs.declared.body.Body.{Body}
use Rattle.sp_type_stmts.specs.Scopes.{Scope}
use Rattle.sp_type_stmts.specs.Values.{value_in}
use Rattle.sp_type_stmts.specs.Statements.{written_type, written_of, valued_at, local_with, local_in, return_in}

none_is : {A : Type 0} → false ≡ true → A
none_is is = absurd (let b : ⊥ = cc in b)

pub written_type_is : (g : Around) (place : Place) (k : Group) (t : Tree) → is_of k t ≡ true → Some (g.type_in place t) ≡ written_type g place t
written_type_is g place k absent is = none_is is
written_type_is g place k (row ts) is = refl
written_type_is g place k (node f s ts) is = refl

pub written_of_is : (g : Around) (place : Place) (k : Group) (t : Tree) → is_of k t ≡ true → Some (g.written place t) ≡ written_of g place t
written_of_is g place k absent is = none_is is
written_of_is g place k (row ts) is = refl
written_of_is g place k (node f s ts) is = refl

pub local_valued : (g : Around) (sc : Scope) (span : Span) (name t e : Tree) (k : Group) → is_of k e ≡ true
    → local_with (value_in g sc e).1 span name (written_type g Local t) (written_of g Local t) (value_in g sc e).0 ≡ local_in g sc span name t e
local_valued g sc span name t absent k is = none_is is
local_valued g sc span name t (row ts) k is = refl
local_valued g sc span name t (node f s ts) k is = refl

pub return_valued : (b : Body) (g : Around) (sc : Scope) (span : Span) (e : Tree) (k : Group) → is_of k e ≡ true
    → (valued_at span valued_is.Return (to_maybe b.result (value_in g sc e).0), (value_in g sc e).1) ≡ return_in b g sc span e
return_valued b g sc span absent k is = none_is is
return_valued b g sc span (row ts) k is = refl
return_valued b g sc span (node f s ts) k is = refl
