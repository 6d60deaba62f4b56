-- What stands round the expressions of a list of modules, where its constants and labels are answered, and so much is known of
-- the members of its units.
use Rattle.std.specs.Prelude.{ℕ, suc, false, List, [], ◌∷◌, Option, Some, None}
use Rattle.sp_ast.specs.Trees.{Tree, Trees, node, row, none, more}
use Rattle.sp_ast.specs.declared.forms.Form.TheVariants as form_is
use Rattle.sp_types.specs.Types.{Ty, word}
use Rattle.sp_types.specs.declared.words.Word.TheVariants as word_is
use Rattle.sp_typed.specs.declared.words.Standing.TheVariants as standing_is
use Rattle.sp_typed_units.specs.declared.declarations.Parameter.{Parameter}
use Rattle.sp_names.specs.declared.rows.Declaration.{Declaration}
use Rattle.sp_names.specs.declared.sort.DeclSort.TheVariants as sort_is
use Rattle.sp_names.specs.Declarations.{all_of, type_tree_of}
use Rattle.sp_type_context.specs.Contexts.{Around}
use Rattle.sp_type_scopes.specs.Decorators.{with_self}
use Rattle.sp_type_scopes.specs.Parameters.{parameters_in, with_parameters}
use Rattle.sp_names.specs.Names.{declaration_of}
use Rattle.sp_type_modules.specs.Members.{unit_in}
use Rattle.sp_type_modules.specs.Arounds.{Facts, stored_by, around}
use Rattle.sp_type_values.specs.declared.answer.Answer.{Answer}
use Rattle.sp_type_values.specs.Answers.{constant_type, number_of}

abbrev pub parameter_trees : Tree → Trees
parameter_trees (node form_is.Unit span (more (row ps) ts)) = ps
parameter_trees _ = none

-- the module of a declaration
abbrev pub module_of : Option Declaration → ℕ
module_of None = 0
module_of (Some d) = d.«module»

-- with parameters of each
abbrev pub seeing : List Around → List (List Parameter) → List Around
seeing [] rows = []
seeing (g ∷ gs) [] = []
seeing (g ∷ gs) (ps ∷ rows) = with_parameters 0 false ps g ∷ seeing gs rows

-- where `self` is of each type
abbrev pub being : List Ty → List Around → List Around
being [] gs = []
being (t ∷ ts) [] = []
being (t ∷ ts) (g ∷ gs) = with_self t standing_is.Meant g ∷ being ts gs

-- the types of units, of which the first has the number n
abbrev pub unit_types : ℕ → List ℕ → List Ty
unit_types n [] = []
unit_types n (d ∷ ds) = word (word_is.Unit n) ∷ unit_types (suc n) ds

module _ (list : List Tree) (f : ℕ → Option Ty) (known : ℕ → Option Answer) (stored : ℕ → Option Ty) where
  abbrev pub facts : Facts
  facts = record { answers = f; constant = constant_type list f known; stored = stored_by list stored; number = number_of list f known }

  -- what stands round the expressions of a module
  abbrev pub in_module : ℕ → Around
  in_module m = around list facts m

  -- what stands round the expressions of each module, by its number, of which the first is m
  abbrev pub modules_from : ℕ → List Tree → List Around
  modules_from m [] = []
  modules_from m (t ∷ ts) = in_module m ∷ modules_from (suc m) ts

  abbrev pub in_modules : List Around
  in_modules = modules_from 0 list

  -- what stands round the expressions of the module of a declaration
  abbrev pub at_home : Option Declaration → Around
  at_home d = in_module (module_of d)

  abbrev pub parameters_of : Option Declaration → List Parameter
  parameters_of None = []
  parameters_of (Some d) = parameters_in (in_module d.«module») (parameter_trees (unit_in (type_tree_of d.tree)))

  -- those of the declarations of these numbers
  abbrev pub homes_of : List ℕ → List Around
  homes_of [] = []
  homes_of (g ∷ gs) = at_home (declaration_of list (Some g)) ∷ homes_of gs

  abbrev pub all_parameters_of : List ℕ → List (List Parameter)
  all_parameters_of [] = []
  all_parameters_of (g ∷ gs) = parameters_of (declaration_of list (Some g)) ∷ all_parameters_of gs

  -- what stands round the expressions of the module of each unit, and the parameters of each unit, by their numbers
  abbrev pub homes : List Around
  homes = homes_of (all_of sort_is.Unit list)

  abbrev pub all_parameters : List (List Parameter)
  all_parameters = all_parameters_of (all_of sort_is.Unit list)

  -- Round the expressions of a unit stands its module, with the unit's parameters, and `self` is the unit.
  abbrev pub seeing_parameters : List Around
  seeing_parameters = seeing homes all_parameters

  abbrev pub in_units : List Around
  in_units = being (unit_types 0 (all_of sort_is.Unit list)) seeing_parameters
