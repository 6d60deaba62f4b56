-- The value of a constant expression by the checker, and what the expression means in a body.
use Rattle.std.specs.Prelude.{ℕ, ◌≡◌, Bool, true, false, List, Some, slice_get, IsTrue}
use Rattle.sp_base.specs.declared.kinds.PKind.{PKind}
use Rattle.sp_value.specs.Val.{Val}
use Rattle.sp_typed.specs.declared.words.LeafOp.{LeafOp}
use Rattle.sp_typed.specs.declared.words.LeafOp.TheVariants as leaf_is
use Rattle.sp_typed.specs.Exprs.{Expr, leaf}
use Rattle.sp_typed.specs.Nodes.{holds}
use Rattle.sp_type_constants.specs.declared.outcome.Outcome.{Outcome}
use Rattle.sp_type_constants.specs.declared.outcome.Outcome.TheVariants.{Value, Error}
use Rattle.sp_type_constants.specs.Known.{Known}
use Rattle.sp_type_constants.specs.Values.{value_of}
use Rattle.sp_meaning_states.specs.States.{State, Gives, Result, ends, fails}
use Rattle.sp_meaning.specs.Globals.{Globals, label_value}
use Rattle.sp_code_meaning.specs.Layouts.{Layout}
use Rattle.sp_code_meaning.specs.Exprs.{expr_means}

-- In every state an evaluation gives this value, tells nothing and changes nothing; or it fails by this error there, tells nothing and
-- changes nothing.
abbrev pub AlwaysGives : Val → (State → Result) → Type 0
AlwaysGives v evaluation = (st : State) → evaluation st ≡ ends (Gives v) st

abbrev pub AlwaysFails : PKind → (State → Result) → Type 0
AlwaysFails kind evaluation = (st : State) → evaluation st ≡ fails kind st

-- Each constant and each label that has a value by the checker is that value in bodies.
pub record ConstantsGive (k : Known) (globals : Globals) : Type 0 where
  pub constants : (n : ℕ) (v : Val) → k.constant n ≡ Value v → slice_get globals.constants n ≡ Some (Some v)
  pub labels : (owner n : ℕ) (v : Val) → k.label owner n ≡ Value v → label_value globals owner n ≡ v

-- the same of what a leaf names
abbrev pub GivesAt : Known → Globals → LeafOp → Type 0
GivesAt k globals (leaf_is.Constant n) = (v : Val) → k.constant n ≡ Value v → slice_get globals.constants n ≡ Some (Some v)
GivesAt k globals (leaf_is.Label owner n) = (v : Val) → k.label owner n ≡ Value v → label_value globals owner n ≡ v
GivesAt k globals _ = Unit {0}

-- What the checker takes for a value, that a body has for it: whatever calls do, and wherever the body keeps what it sees.
abbrev pub ValuesAreMeant : Type 0
ValuesAreMeant =
    (k : Known) (globals : Globals) → ConstantsGive k globals →
    (call : ℕ → List Val → State → Result) (layout : Layout) (e : Expr) (v : Val) → value_of k e ≡ Value v →
    AlwaysGives v (expr_means globals call layout e)

-- whether what a name stands for has a value
abbrev pub has_value : Outcome → Bool
has_value (Value v) = true
has_value _ = false

-- whether a leaf is no name without a value, and no regular expression, which is no value of a run
abbrev pub leaf_stands : Known → LeafOp → Bool
leaf_stands k (leaf_is.Constant n) = has_value (k.constant n)
leaf_stands k (leaf_is.Label owner n) = has_value (k.label owner n)
leaf_stands k (leaf_is.Nothing at) = false
leaf_stands k (leaf_is.Regex text) = false
leaf_stands k _ = true

abbrev pub stands : Known → Expr → Bool
stands k (leaf h) = leaf_stands k h.op
stands k _ = true

-- What the checker takes for an error, that fails in a body, where each constant and each label that is named in it has a value, and no
-- regular expression stands in it. Which error it is hangs on nothing but the expression.
abbrev pub ErrorsAreMeant : Type 0
ErrorsAreMeant =
    (k : Known) (globals : Globals) → ConstantsGive k globals →
    (call : ℕ → List Val → State → Result) (layout : Layout) (e : Expr) → IsTrue (holds (stands k) e) → value_of k e ≡ Error →
    (kind : PKind) × AlwaysFails kind (expr_means globals call layout e)
