-- Rows on which the definitions are run: types that lack something, and what isn't known whole.
use Rattle.std.specs.Prelude.{ℕ, ◌≡◌, true, false, List, [], ◌∷◌, Option, None, refl}
use Rattle.sp_base.specs.declared.places.Span.{Span}
use Rattle.sp_ast.specs.Trees.{Tree, tree}
use Rattle.sp_ast.specs.declared.forms.Form.TheVariants as form_is
use Rattle.sp_ast.specs.declared.forms.TypeForm.{TypeForm}
use Rattle.sp_ast.specs.declared.forms.TypeForm.TheVariants as type_is
use Rattle.sp_types.specs.Types.{Ty}
use Rattle.sp_typed.specs.declared.words.LeafOp.TheVariants as leaf_is
use Rattle.sp_typed_units.specs.declared.declarations.ConstantValue.TheVariants as value_is
use Rattle.sp_typed_units.specs.declared.declarations.Constant.{Constant}
use Rattle.sp_type_operands.specs.Operands.{unknown, boolean}
use Rattle.sp_type_context.specs.Typing.{leaf_at}
use Rattle.sp_type_functions.specs.Functions.{no_function}
use Rattle.sp_law_lists.specs.whole_list.Types.{is_type}
use Rattle.sp_law_lists.specs.whole_list.Whole.{is_known_constant, is_known_function}

abbrev here : Span
here = record { from = 0; to = 0 }

abbrev written : TypeForm → List Tree → Tree
written form parts = tree (form_is.Type form) here parts

abbrev truths : Tree
truths = written type_is.Bool []

abbrev types : ℕ → Option Ty
types g = None

-- `vector<bool>`, a vector of nothing, and `map<bool, M>`, where M names nothing
row_of_truths : is_type [] types 0 (written type_is.Vector (truths ∷ [])) ≡ true
row_of_truths = refl

row_of_nothing : is_type [] types 0 (written type_is.Vector []) ≡ false
row_of_nothing = refl

map_to_nothing : is_type [] types 0 (written type_is.Map (truths ∷ written type_is.Path (tree form_is.Path here (tree (form_is.Name (77 ∷ [])) here [] ∷ []) ∷ []) ∷ [])) ≡ false
map_to_nothing = refl

-- a bitfield that is no module's
no_bitfield : is_type [] types 0 (written type_is.Bitfield []) ≡ false
no_bitfield = refl

-- a constant of a truth, one of an unknown type, and what is no function
abbrev constant_of : Ty → Constant
constant_of t = record { «module» = 0; span = here; ty = t; written = None; expr = leaf_at here t leaf_is.True; value = value_is.Unknown }

truth_is_known : is_known_constant (constant_of boolean) ≡ true
truth_is_known = refl

nothing_is_unknown : is_known_constant (constant_of unknown) ≡ false
nothing_is_unknown = refl

function_is_unknown : is_known_function (no_function 0) ≡ false
function_is_unknown = refl
