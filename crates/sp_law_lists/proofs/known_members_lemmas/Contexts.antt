-- What stands round the expressions of a unit, where members have full types: all that they can name is known.
use Rattle.std.specs.List.{list_all}
use Rattle.std.proofs.Common.{ℕ, ◌≡◌, Bool, true, false, refl, ap, List, [], ◌∷◌, Option, Some}
use Rattle.sp_ast.specs.Trees.{Tree, Trees, node, none, more}
use Rattle.sp_ast.specs.Slots.{is_formed}
use Rattle.sp_ast.specs.declared.forms.Form.TheVariants as form_is
use Rattle.sp_rules.specs.declared.fault.Fault.{Fault}
use Rattle.sp_types.specs.declared.words.Word.TheVariants as word_is
use Rattle.sp_types.specs.Types.{Ty, word}
use Rattle.sp_typed.specs.declared.words.Standing.{Standing}
use Rattle.sp_typed.specs.declared.words.Standing.TheVariants as standing_is
use Rattle.sp_typed.specs.declared.words.OneOp.{OneOp}
use Rattle.sp_typed_units.specs.declared.declarations.Parameter.{Parameter}
use Rattle.sp_typed_units.specs.declared.declarations.Typed.{Typed}
use Rattle.sp_type_context.specs.declared.context.Member.{Member}
use Rattle.sp_type_context.specs.Contexts.{Around}
use Rattle.sp_type_scopes.specs.Decorators.{with_self, with_current, meant}
use Rattle.sp_type_scopes.specs.Parameters.{parameter_of, parameters_in, with_parameters}
use Rattle.sp_type_constants.specs.Known.{Known as Values}
use Rattle.sp_solver.specs.Told.{told}
use Rattle.sp_type_modules.specs.Arounds.{stored_by, member_of}
use Rattle.sp_rule_bodies.specs.Known.{Known}
use Rattle.sp_rule_lists.specs.Told.{values_of}
use Rattle.sp_type_list_context.specs.Contexts.{in_module}
use Rattle.sp_type_members.specs.Opens.{with_members}
use Rattle.sp_type_answers.specs.Settled.{Answers}
use Rattle.sp_type_answers.specs.Lists.{typed_of}
use Rattle.sp_type_answers.specs.Rules.{Breaks}
use Rattle.sp_law_lists.specs.known_types.Full.{is_full}
use Rattle.sp_law_lists.specs.known_types.Clear.{any_op}
use Rattle.sp_law_lists.specs.known_types.Given.{IsKnown}
use Rattle.sp_law_lists.specs.known_values.Given.{AreTold}
use Rattle.sp_law_lists.specs.whole_list.Types.{is_type}
use Rattle.sp_law_lists.proofs.whole_list_lemmas.Decided.{decides, parameters_told}
use Rattle.sp_law_lists.proofs.whole_list_lemmas.Heads.{parameters_full, parameters_known, self_known, current_known}
use Rattle.sp_law_lists.specs.known_constants.Good.{is_told}
use Rattle.sp_law_lists.specs.known_constants.Given.{asked}
use Rattle.sp_law_lists.proofs.unbroken_list_lemmas.Bodies.{module_told, module_is_known}

-- `self` and `$$` are no constants
module _ (only : OneOp → Bool) (k : Known) (m : ℕ) (values : Values) (is_path : Tree → Bool) (g : Around) (names : AreTold g only k m values is_path) where
  pub self_told : (t : Ty) (s : Standing) → AreTold (with_self t s g) only k m values is_path
  self_told t s = record {
    path = names.path;
    itself = λ span c r p. refl;
    current = names.current;
    member = names.member;
    method = names.method;
  }

  pub current_told : (t : Ty) (s : Standing) → AreTold (with_current t s g) only k m values is_path
  current_told t s = record {
    path = names.path;
    itself = names.itself;
    current = λ span c r p. refl;
    member = names.member;
    method = names.method;
  }

-- members of full types, as far as they are known
abbrev pub FullMembers : List Tree → (ℕ → Option Ty) → Type 0
FullMembers list s = (u : Ty) (name : List ℕ) (found : Member) → member_of list (stored_by list s) u name ≡ Some found → is_full found.ty ≡ true

module _ (list : List Tree) (a : Answers list) where
  abbrev pub home : (ℕ → Option Ty) → ℕ → Around
  home s m = in_module list (told a.types) (told a.values) s m

  -- Parameters hang on no member.
  pub parameters_alike : (s r : ℕ → Option Ty) (m : ℕ) (ts : Trees) → parameters_in (home s m) ts ≡ parameters_in (home r m) ts
  parameters_alike s r m none = refl
  parameters_alike s r m (more (node (form_is.Parameter inout) span (more name (more t none))) ts) =
      ap (λ ps. parameter_of (home s m) inout name t ∷ ps) (parameters_alike s r m ts)
  parameters_alike s r m (more p ts) = parameters_alike s r m ts

  -- the unit n of the module m with these parameters
  abbrev pub unit_home : ℕ → ℕ → List Parameter → Around
  unit_home n m ps = with_self (word (word_is.Unit n)) standing_is.Meant (with_parameters 0 false ps (home (told []) m))

  module _ (formed : list_all is_formed list ≡ true) (unbroken : (x : Fault) → Breaks list x → ⊥) (n m : ℕ) (ps : List Parameter) where
    abbrev t : Typed
    t = typed_of list a

    abbrev pub types : Tree → Bool
    types = is_type list (told a.types) m

    abbrev pub paths : Tree → Bool
    paths = is_told list (told a.types) (told a.values) m

    abbrev pub inside : (ℕ → Option Ty) → Around
    inside s = with_members list s (unit_home n m ps)

    -- what names mean there as constants
    seeing_told : (s : ℕ → Option Ty) → AreTold (with_parameters 0 false ps (home s m)) any_op (asked t) m (values_of t) paths
    seeing_told s = parameters_told t (values_of t) [] any_op m types paths (home s m) (module_told list a formed unbroken s [] m) 0 false ps

    pub inside_told : (s : ℕ → Option Ty) → AreTold (inside s) any_op (asked t) m (values_of t) paths
    inside_told s =
        self_told any_op (asked t) m (values_of t) paths (with_parameters 0 false ps (home s m)) (seeing_told s) (word (word_is.Unit n)) standing_is.Meant

    module _ (full : parameters_full ps ≡ true) (s : ℕ → Option Ty) (members : FullMembers list s) where
      seeing_known : IsKnown (with_parameters 0 false ps (home s m)) any_op (asked t) m types paths
      seeing_known =
          parameters_known (home s m) any_op (asked t) m types paths (module_is_known list a formed unbroken s members [] m) 0 false ps
          (decides t (values_of t) [] any_op m types paths (with_parameters 0 false ps (home s m)) (seeing_told s)) full

      -- all that they can name is known
      pub inside_known : IsKnown (inside s) any_op (asked t) m types paths
      inside_known =
          self_known (with_parameters 0 false ps (home s m)) any_op (asked t) m types paths seeing_known (word (word_is.Unit n)) standing_is.Meant
          (decides t (values_of t) [] any_op m types paths (inside s) (inside_told s)) refl

      -- also where `$$` is of a full type
      pub meant_known : (u : Ty) → is_full u ≡ true → IsKnown (meant u (inside s)) any_op (asked t) m types paths
      meant_known u f =
          current_known (inside s) any_op (asked t) m types paths inside_known u standing_is.Meant
          (decides t (values_of t) [] any_op m types paths (meant u (inside s)) (current_told any_op (asked t) m (values_of t) paths (inside s) (inside_told s) u standing_is.Meant)) f
