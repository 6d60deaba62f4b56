-- What is made of the values of parts: by operators, conversions and methods, and by statements; and which places an expression names.
use Rattle.std.specs.Prelude.{ℕ, ◌-◌, Bool, true, false, List, [], ◌∷◌, Option, Some, None, is_some, Result as Answer, Ok, Err}
use Rattle.sp_base.specs.declared.kinds.PKind.{PKind}
use Rattle.sp_numbers.specs.declared.width.Width.TheVariants.{W64}
use Rattle.sp_words.specs.declared.operators.BinaryOp.{BinaryOp}
use Rattle.sp_words.specs.declared.operators.BinaryOp.TheVariants as op_is
use Rattle.sp_words.specs.declared.operators.UnaryOp.TheVariants as unary_is
use Rattle.sp_words.specs.declared.methods.Method.{Method}
use Rattle.sp_value.specs.Val.{Val, void, bool, uint}
use Rattle.sp_operators.specs.Operators.{unary, binary, cast}
use Rattle.sp_operators.specs.declared.plain_type.PlainType.TheVariants as plain
use Rattle.sp_types.specs.Types.{Ty}
use Rattle.sp_typed.specs.declared.heads.One.{One}
use Rattle.sp_typed.specs.declared.words.LeafOp.{LeafOp}
use Rattle.sp_typed.specs.declared.words.LeafOp.TheVariants as leaf_is
use Rattle.sp_typed.specs.declared.words.OneOp.{OneOp}
use Rattle.sp_typed.specs.declared.words.OneOp.TheVariants as one_is
use Rattle.sp_typed.specs.declared.words.TwoOp.{TwoOp}
use Rattle.sp_typed.specs.declared.words.TwoOp.TheVariants as two_is
use Rattle.sp_typed.specs.declared.words.ManyOp.{ManyOp}
use Rattle.sp_typed.specs.declared.words.ManyOp.TheVariants as many_is
use Rattle.sp_typed.specs.Exprs.{Expr, Exprs, leaf, none, more}
use Rattle.sp_meaning_states.specs.States.{State, Gives, Unfinished, Result, ends, got, done, chosen, truth_of, fails, answer, local_of, set_local, member_of, value_or_unset, start_of, Failed, error_with}
use Rattle.sp_meaning_states.specs.Values.{item_at, size_value}
use Rattle.sp_meaning_states.specs.Types.{number_value, plain_type}
use Rattle.sp_words.specs.declared.operators.AssignOp.{AssignOp}
use Rattle.sp_words.specs.declared.operators.AssignOp.TheVariants as assign_is

-- a value, where there is one
abbrev pub known : {A : Type 0} → Option A → (A → State → Result) → State → Result
known (Some x) go st = go x st
known None go st = ends Unfinished st

-- What is made of a place's value: `go` has it, and what puts another one there.
abbrev pub Changes : Type 0
Changes = Val → (Val → State → Result) → State → Result

-- a method that gives one value
abbrev pub given : Answer (List Val) PKind → State → Result
given (Ok (v ∷ [])) st = ends (Gives v) st
given (Ok vs) st = ends Unfinished st
given (Err kind) st = fails kind st

-- a method that gives its receiver's new value, which is put where the receiver was, and maybe a result
abbrev pub taken : (Val → State → Result) → Answer (List Val) PKind → State → Result
taken put (Ok (v ∷ [])) st = done (ends (Gives void)) (put v st)
taken put (Ok (v ∷ r ∷ [])) st = done (ends (Gives r)) (put v st)
taken put (Ok vs) st = ends Unfinished st
taken put (Err kind) st = fails kind st

-- a literal with a minus sign
abbrev pub negative : OneOp → LeafOp → Ty → Option Val
negative one_is.Negate (leaf_is.Number n) t = Some (number_value t true n)
negative o l t = None

abbrev pub negative_literal : One → Expr → Option Val
negative_literal h (leaf i) = negative h.op i.op h.ty
negative_literal h a = None

abbrev pub unless_literal : Option Val → (State → Result) → State → Result
unless_literal (Some v) go st = ends (Gives v) st
unless_literal None go st = go st

-- a range of a bitfield, as an integer of its type
abbrev pub range_value : Ty → Answer Val PKind → Answer Val PKind
range_value t (Ok v) = cast v (plain_type t)
range_value t (Err kind) = Err kind

-- what is made of the value of a part
abbrev pub one_means : OneOp → Ty → Val → State → Result
one_means one_is.Negate t v st = answer (unary unary_is.Negate v) st
one_means one_is.Not t v st = answer (unary unary_is.Not v) st
one_means one_is.Complement t v st = answer (unary unary_is.Complement v) st
one_means one_is.Size t v st = ends (Gives (size_value v)) st
one_means (one_is.Cast w) t v st = answer (cast v (plain_type t)) st
one_means one_is.Widen t v st = answer (cast v (plain_type t)) st
one_means (one_is.Field m) t v st = value_or_unset (member_of st v m) st
one_means (one_is.Variable m) t v st = value_or_unset (member_of st v m) st
one_means (one_is.Bit r) t v st = answer (range_value t (item_at v (uint W64 r))) st
one_means (one_is.IsSet m) t v st = ends (Gives (bool (is_some (member_of st v m)))) st
one_means o t v st = ends Unfinished st

-- what is made of two parts; `&&` and `||` evaluate only what they need
abbrev pub binary_means : BinaryOp → (State → Result) → (State → Result) → State → Result
binary_means op_is.And a b st = got (λ x st. chosen (truth_of x) b (ends (Gives (bool false))) st) (a st)
binary_means op_is.Or a b st = got (λ x st. chosen (truth_of x) (ends (Gives (bool true))) b st) (a st)
binary_means o a b st = got (λ x st. got (λ y st. answer (binary o x y) st) (b st)) (a st)

abbrev pub two_means : TwoOp → (State → Result) → (State → Result) → State → Result
two_means (two_is.Binary o) a b st = binary_means o a b st
two_means two_is.Index a b st = got (λ x st. got (λ y st. answer (item_at x y) st) (b st)) (a st)
two_means (two_is.Item n) a b st = got (λ x st. answer (item_at x (uint W64 n)) st) (a st)

-- `E(n)`
abbrev pub converted : ℕ → List Val → State → Result
converted k (v ∷ []) st = answer (cast v (plain.Enum k)) st
converted k vs st = ends Unfinished st

-- how far the place is behind the start of a unit
abbrev pub offset_from : List Val → State → Result
offset_from (u ∷ []) st = ends (Gives (uint W64 (st.now.place - start_of st u))) st
offset_from vs st = ends Unfinished st

abbrev pub itself : LeafOp → Bool
itself (leaf_is.Itself s) = true
itself l = false

abbrev pub is_self : Exprs → Bool
is_self (more (leaf h) none) = itself h.op
is_self es = false

-- the member that a place names, and whether it is an item of a container
abbrev pub member_named : OneOp → Option ℕ
member_named (one_is.Field m) = Some m
member_named (one_is.Variable m) = Some m
member_named o = None

abbrev pub is_item : TwoOp → Bool
is_item two_is.Index = true
is_item o = false

abbrev pub local_named : LeafOp → Option ℕ
local_named (leaf_is.Local s) = Some s
local_named o = None

-- The owner of a member that is changed: where it has a slot it is evaluated once and kept there, and else, being `self` or a
-- local, it is evaluated where it is needed.
abbrev pub keep_owner : Option ℕ → (State → Result) → (State → Result) → State → Result
keep_owner (Some l) a go st = got (λ u st. go (set_local l u st)) (a st)
keep_owner None a go st = go st

abbrev pub owner_means : Option ℕ → (State → Result) → State → Result
owner_means (Some l) a st = ends (Gives (local_of st l)) st
owner_means None a st = a st

abbrev pub slot_of_receiver : ManyOp → Option ℕ
slot_of_receiver (many_is.Method m slot) = slot
slot_of_receiver o = None

abbrev pub called_method : ManyOp → Option Method
called_method (many_is.Method m slot) = Some m
called_method o = None

abbrev pub fails_with : PKind → Option (List ℕ) → State → Result
fails_with kind text st = ends (Failed (error_with kind text st)) st

-- the operator of an assignment that reads its target
abbrev pub update_means : AssignOp → (State → Result) → ((BinaryOp → State → Result)) → State → Result
update_means assign_is.Set put update st = put st
update_means assign_is.Add put update st = update op_is.Add st
update_means assign_is.Subtract put update st = update op_is.Subtract st
