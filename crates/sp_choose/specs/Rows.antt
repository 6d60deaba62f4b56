-- Rows on which the definitions are run: units of a module.
use Rattle.std.specs.Prelude.{ℕ, ◌≡◌, Bool, true, false, List, [], ◌∷◌, Some, None, codes, refl}
use Rattle.std.proofs.Common.{arith}
use Rattle.sp_types.specs.Types.{word}
use Rattle.sp_types.specs.declared.words.Word.TheVariants as word_is
use Rattle.sp_typed_units.specs.declared.declarations.Parameter.{Parameter}
use Rattle.sp_typed_units.specs.declared.declarations.Unit.{Unit}
use Rattle.sp_choose.specs.Choices.{is_parser, chosen}
use Rattle.sp_choose.specs.Laws.{IsChoice}

-- a unit of a name, public or not, with parameters or without, a filter or not
abbrev unit : List ℕ → Bool → List Parameter → Bool → Unit
unit x is_public takes is_filter = record {
  path = x;
  «module» = 0;
  span = record { from = 0; to = 0 };
  public = is_public;
  parameters = takes;
  members = [];
  variables = [];
  sinks = [];
  parts = [];
  orders = [];
  filter = is_filter;
  uses_input = false;
  connects_filter = false;
}

abbrev parser : List ℕ → Unit
parser x = unit x true [] false

abbrev parameter : Parameter
parameter = record { name = []; span = record { from = 0; to = 0 }; written = record { span = record { from = 0; to = 0 }; unnamed = None; misplaced = None }; ty = word word_is.Bool; inout = false }

-- one that isn't public, one with a parameter, and a filter
abbrev others : List Unit
others = unit (codes "M::A") false [] false ∷ unit (codes "M::B") true (parameter ∷ []) false ∷ unit (codes "M::C") true [] true ∷ []

hidden : is_parser (unit (codes "M::A") false [] false) ≡ false
hidden = refl

of_arguments : is_parser (unit (codes "M::B") true (parameter ∷ []) false) ≡ false
of_arguments = refl

of_a_filter : is_parser (unit (codes "M::C") true [] true) ≡ false
of_a_filter = refl

-- none, the only one, and one of two
no_parser : chosen None others ≡ None
no_parser = refl

the_only_one : chosen None (unit (codes "M::A") false [] false ∷ parser (codes "M::U") ∷ []) ≡ Some 1
the_only_one = refl

one_of_two : chosen None (parser (codes "M::U") ∷ parser (codes "M::V") ∷ []) ≡ None
one_of_two = refl

-- by names: one of two, one that is no parser, one that isn't there, and one without its module
named : chosen (Some (codes "M::V")) (parser (codes "M::U") ∷ parser (codes "M::V") ∷ []) ≡ Some 1
named = refl

named_other : chosen (Some (codes "M::B")) others ≡ None
named_other = refl

named_nothing : chosen (Some (codes "M::W")) (parser (codes "M::U") ∷ []) ≡ None
named_nothing = refl

without_module : chosen (Some (codes "U")) (parser (codes "M::U") ∷ []) ≡ None
without_module = refl

-- Two parsers are no choice, and a parser of another name isn't chosen.
two_are_none : IsChoice None (parser (codes "M::U") ∷ parser (codes "M::V") ∷ []) (Some 0) → ⊥
two_are_none is = absurd (let e : 1 ≡ 0 = is.1 1 refl in omega arith)
