-- The type and the value of each constant, and the number of each label, where what is named in it is answered.
use Rattle.std.specs.Prelude.{ℕ, ◌-◌, nat_lt, if◌then◌else◌, List, [], Option, Some, None, slice_get}
use Rattle.sp_ast.specs.Trees.{Tree}
use Rattle.sp_value.specs.Val.{enum}
use Rattle.sp_types.specs.Types.{Ty, word}
use Rattle.sp_types.specs.declared.words.Word.TheVariants as word_is
use Rattle.sp_typed.specs.Exprs.{Expr}
use Rattle.sp_solver.specs.Told.{told}
use Rattle.sp_names.specs.Declarations.{library_enums}
use Rattle.sp_type_context.specs.Contexts.{Around}
use Rattle.sp_type_operands.specs.Operands.{unknown}
use Rattle.sp_type_operands.specs.Literals.{seen, unsigned_literal}
use Rattle.sp_type_context.specs.Typing.{typed, to_target, to_maybe}
use Rattle.sp_type_modules.specs.Arounds.{Facts, stored_by, around}
use Rattle.sp_type_constants.specs.declared.outcome.Outcome.{Outcome}
use Rattle.sp_type_constants.specs.declared.outcome.Outcome.TheVariants.{Value, Regex, NotConstant}
use Rattle.sp_type_constants.specs.Known.{Known}
use Rattle.sp_type_constants.specs.Values.{value_of}
use Rattle.sp_type_constants.specs.Places.{index_of, bytes_of, number_of as label_number}
use Rattle.sp_type_constants.specs.Labels.{label_value as labelled, first_label, next_label, constant_value as valued_as}
use Rattle.sp_type_fields.specs.Values.{Values}
use Rattle.sp_type_values.specs.declared.valued.Valued.{Valued}
use Rattle.sp_type_values.specs.declared.valued.Valued.TheVariants as is
use Rattle.sp_type_values.specs.declared.answer.Answer.{Answer}
use Rattle.sp_type_values.specs.Valued.{valued, constant_place, label_place}

-- what is answered at a place, if that is there
abbrev pub answer_at : (ℕ → Option Answer) → Option ℕ → Option Answer
answer_at known None = None
answer_at known (Some place) = known place

-- What is made of itself has no answer. It has no value, and its type is the one that is written, if there is one.
abbrev pub value_or : Option Answer → Outcome
value_or None = NotConstant
value_or (Some a) = a.value

abbrev pub type_or : Option Ty → Option Answer → Ty
type_or written (Some a) = a.ty
type_or (Some t) None = t
type_or None None = unknown

abbrev pub written_of : Option Valued → Option Ty
written_of (Some (is.Constant m written value)) = written
written_of _ = None

-- what stands between the slashes of a regular expression
abbrev pub regex_of : Outcome → Option (List ℕ)
regex_of (Regex text) = Some text
regex_of _ = None

-- the type of a constant is the one that is written, else that of its value
abbrev pub written_or : Option Ty → Expr → Ty
written_or None e = seen e
written_or (Some t) e = t

abbrev pub label_answer : ℕ → Outcome → Answer
label_answer owner o = record { ty = word (word_is.Enum owner); value = o }

module _ (list : List Tree) (f : ℕ → Option Ty) (known : ℕ → Option Answer) where
  -- the constant of a number
  abbrev pub constant_type : ℕ → Ty
  constant_type n = type_or (written_of (slice_get (valued list f) n)) (answer_at known (constant_place list f n))

  abbrev pub constant_value : ℕ → Outcome
  constant_value n = value_or (answer_at known (constant_place list f n))

  -- the label of an enum; those of the library have the numbers of their places
  abbrev pub label_value : ℕ → ℕ → Outcome
  label_value owner label =
      if nat_lt owner library_enums then Value (enum owner label) else value_or (answer_at known (label_place list f owner label))

  -- what is known of constants and labels when expressions are evaluated
  abbrev pub known_values : Known
  known_values = record { constant = constant_value; label = label_value }

  abbrev pub number_of : Expr → Option ℕ
  number_of e = index_of (value_of known_values e)

  -- what constant expressions are worth to what is read
  abbrev pub values : Values
  values = record {
    number = λ e. label_number (value_of known_values e);
    bytes = λ e. bytes_of (value_of known_values e);
    regex = λ e. regex_of (value_of known_values e);
  }

  -- and when they are typed, in the module of a number; the types of members of units are not known there
  abbrev pub facts : Facts
  facts = record { answers = f; constant = constant_type; stored = stored_by list (told []); number = number_of }

  abbrev pub here : ℕ → Around
  here m = around list facts m

  -- the value of a constant goes to the type that is written, and the number of a label is of type uint64
  abbrev pub constant_expr : ℕ → Option Ty → Tree → Expr
  constant_expr m written value = to_maybe written (typed (here m) value)

  abbrev pub label_expr : ℕ → Tree → Expr
  label_expr m number = to_target (word unsigned_literal) (typed (here m) number)

  abbrev pub constant_answer : Option Ty → Expr → Answer
  constant_answer written e = record { ty = written_or written e; value = valued_as known_values written e }

  -- the answer of what stands at the place i; where nothing stands, there is no value
  abbrev pub answer_of : ℕ → Option Valued → Answer
  answer_of i None = record { ty = unknown; value = NotConstant }
  answer_of i (Some (is.Constant m written value)) = constant_answer written (constant_expr m written value)
  answer_of i (Some (is.Numbered owner m number)) = label_answer owner (labelled owner (value_of known_values (label_expr m number)))
  answer_of i (Some (is.First owner)) = label_answer owner (first_label owner)
  answer_of i (Some (is.Next owner)) = label_answer owner (next_label owner (value_or (known (i - 1))))

  abbrev pub gives : ℕ → Answer
  gives i = answer_of i (slice_get (valued list f) i)
