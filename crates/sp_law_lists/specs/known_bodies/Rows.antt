-- Rows on which the definitions are run: trees that are no statements, and a call with a slot.
use Rattle.std.specs.Prelude.{ℕ, ◌≡◌, true, false, List, [], ◌∷◌, Option, Some, None, refl}
use Rattle.sp_base.specs.declared.places.Span.{Span}
use Rattle.sp_words.specs.declared.methods.Method.TheVariants as method_is
use Rattle.sp_ast.specs.Trees.{Tree, absent, in_row, tree}
use Rattle.sp_ast.specs.declared.forms.Form.TheVariants as form_is
use Rattle.sp_ast.specs.declared.forms.ExprForm.TheVariants as expr_is
use Rattle.sp_ast.specs.declared.forms.StmtForm.{StmtForm}
use Rattle.sp_ast.specs.declared.forms.StmtForm.TheVariants as stmt_is
use Rattle.sp_types.specs.Types.{word}
use Rattle.sp_types.specs.declared.words.Word.TheVariants as word_is
use Rattle.sp_typed.specs.declared.words.LeafOp.TheVariants as leaf_is
use Rattle.sp_typed.specs.declared.words.ManyOp.TheVariants as many_is
use Rattle.sp_typed.specs.Exprs.{Expr}
use Rattle.sp_type_context.specs.Typing.{leaf_at, many_at}
use Rattle.sp_rule_bodies.specs.Known.{nothing_known}
use Rattle.sp_law_lists.specs.known_bodies.Slots.{plain, IsBlind}
use Rattle.sp_law_lists.specs.known_bodies.Trees.{is_stmt, is_body}

abbrev here : Span
here = record { from = 0; to = 0 }

abbrev stmt : StmtForm → List Tree → Tree
stmt form parts = tree (form_is.Stmt form) here parts

abbrev truth : Tree
truth = tree (form_is.Expr expr_is.True) here []

-- `local x = True;`, and `local x;`, which no text is read as, and which breaks a rule
abbrev local_of : Tree → Tree
local_of value = stmt stmt_is.Local (tree (form_is.Name (120 ∷ [])) here [] ∷ absent ∷ value ∷ [])

local_of_value : is_stmt (λ t. true) (λ t. true) (local_of truth) ≡ true
local_of_value = refl

local_of_nothing : is_stmt (λ t. true) (λ t. true) (local_of absent) ≡ true
local_of_nothing = refl

local_of_a_branch : is_stmt (λ t. true) (λ t. true) (local_of (in_row [])) ≡ false
local_of_a_branch = refl

-- `{ while (True) local x = True; }`, and an `if` of something that is no condition
loop_is_body : is_body (λ t. true) (λ t. true) (tree form_is.Block here (stmt stmt_is.While (truth ∷ local_of truth ∷ []) ∷ [])) ≡ true
loop_is_body = refl

no_branch : is_stmt (λ t. true) (λ t. true) (stmt stmt_is.If (in_row (truth ∷ []) ∷ absent ∷ [])) ≡ false
no_branch = refl

-- `v.push_back(True)`, where the owner of v is kept in the slot 3
abbrev push : Option ℕ → Expr
push slot = many_at here (word word_is.Void) (many_is.Method method_is.PushBack slot) (leaf_at here (word word_is.Bool) leaf_is.True ∷ [])

without_slot : plain (push (Some 3)) ≡ push None
without_slot = refl

-- where nothing is known, slots change nothing
nothing_is_blind : IsBlind nothing_known
nothing_is_blind = record { target = λ op t n. refl; constancy = λ e. refl }
