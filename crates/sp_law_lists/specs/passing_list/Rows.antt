-- Rows on which the definitions are run: a variable without a value, one with one that isn't built, a body that confirms,
-- and variables with members of the types of their values and of others.
use Rattle.std.specs.Prelude.{ℕ, ◌≡◌, true, false, [], ◌∷◌, Option, Some, None, refl}
use Rattle.sp_base.specs.declared.places.Span.{Span}
use Rattle.sp_types.specs.declared.words.Word.TheVariants as word_is
use Rattle.sp_types.specs.Types.{Ty, word}
use Rattle.sp_typed.specs.declared.stmt_words.BareOp.TheVariants as bare_is
use Rattle.sp_typed.specs.declared.words.LeafOp.TheVariants as leaf_is
use Rattle.sp_typed.specs.Exprs.{Expr}
use Rattle.sp_typed_units.specs.declared.declarations.Hook.{Hook}
use Rattle.sp_typed_units.specs.declared.declarations.HookOf.TheVariants as hook_of
use Rattle.sp_typed_units.specs.declared.declarations.Member.{Member}
use Rattle.sp_typed_units.specs.declared.declarations.MemberKind.TheVariants as kind_is
use Rattle.sp_typed_units.specs.declared.declarations.Variable.{Variable}
use Rattle.sp_type_context.specs.Typing.{leaf_at, no_call}
use Rattle.sp_type_stmts.specs.Statements.{bare_at}
use Rattle.sp_law_lists.specs.passing_list.Built.{value_built, hook_built}
use Rattle.sp_law_lists.specs.passing_list.Stored.{variables_stored}

abbrev here : Span
here = record { from = 0; to = 0 }

abbrev truth : Expr
truth = leaf_at here (word word_is.Bool) leaf_is.True

no_value : value_built None ≡ true
no_value = refl

some_value : value_built (Some truth) ≡ true
some_value = refl

-- what can't be called
no_callee : value_built (Some (no_call here truth [])) ≡ false
no_callee = refl

-- `on %init { confirm; }`
abbrev confirming : Hook
confirming = record { «module» = 0; span = here; of = hook_of.Nothing; fits = true; parameters = []; priority = None; rank = None; slots = []; body = bare_at here (bare_is.Confirm true) }

not_built : hook_built confirming ≡ false
not_built = refl

-- `var x: T = True;`, where T is the type of its member, and where it has no value
abbrev member : Ty → Member
member t = record { name = []; kind = kind_is.Variable; ty = t }

abbrev variable : ℕ → Option Expr → Variable
variable m value = record { member = m; span = here; written = record { span = here; unnamed = None; misplaced = None }; taken = false; value = value }

own_type : variables_stored (member (word word_is.Bool) ∷ []) (variable 0 (Some truth) ∷ []) ≡ true
own_type = refl

other_type : variables_stored (member (word word_is.Bytes) ∷ []) (variable 0 (Some truth) ∷ []) ≡ false
other_type = refl

no_member : variables_stored (member (word word_is.Bool) ∷ []) (variable 1 None ∷ []) ≡ false
no_member = refl
