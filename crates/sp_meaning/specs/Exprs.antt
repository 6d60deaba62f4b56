-- What expressions mean: how each ends, what it tells, and the state behind it. Operands are evaluated from left to right.
use Rattle.std.specs.Prelude.{ℕ, Bool, true, false, List, [], ◌∷◌, ◌++◌, Option, Some, None, slice_get}
use Rattle.sp_words.specs.Methods.{changes}
use Rattle.sp_value.specs.Val.{Val, bool, bytes, str, tuple, vector, unit, vals_of}
use Rattle.sp_types.specs.Types.{Ty}
use Rattle.sp_typed.specs.declared.words.LeafOp.{LeafOp}
use Rattle.sp_typed.specs.declared.words.LeafOp.TheVariants as leaf_is
use Rattle.sp_typed.specs.declared.words.ManyOp.{ManyOp}
use Rattle.sp_typed.specs.declared.words.ManyOp.TheVariants as many_is
use Rattle.sp_typed.specs.declared.words.UnitMethod.TheVariants as unit_method
use Rattle.sp_typed.specs.Exprs.{Expr, Exprs, leaf, one, two, three, many, none, more}
use Rattle.sp_meaning_states.specs.States.{State, Gives, Fine, Unfinished, Result, ends, got, chosen, truth_of, answer, local_of, set_local, member_of, value_or_unset, put_member}
use Rattle.sp_meaning_states.specs.Values.{item_at, with_at, set_of, map_of}
use Rattle.sp_meaning_states.specs.Types.{number_value, zero_value}
use Rattle.sp_meaning.specs.Globals.{Globals, label_value}
use Rattle.sp_meaning.specs.Operations.{known, given, taken, negative_literal, unless_literal, one_means, two_means, converted, offset_from, is_self, member_named, is_item, local_named, keep_owner, owner_means, slot_of_receiver, called_method, Changes}
use Rattle.sp_meaning.specs.Around.{Around, parameter_in}
use Rattle.sp_meaning.specs.Methods.{applied}

-- the offset of the field at hand, where it is asked of `self`
abbrev pub offset_at_hand : Around → (of_self : Bool) → Option Val
offset_at_hand around true = around.offset
offset_at_hand around false = None

-- what is given where it is there, and else what is made instead
abbrev pub given_or : Option Val → (State → Result) → State → Result
given_or (Some v) otherwise st = ends (Gives v) st
given_or None otherwise st = otherwise st

-- a member m of what an owner gives, as a place: `go` has its value, and what puts another one there
abbrev pub member_means : (owner : State → Result) → (m : ℕ) → (go : Changes) → State → Result
member_means owner m go st =
    got (λ u st. got (λ x. go x (λ v st. got (λ u. put_member u m v) (owner st))) (value_or_unset (member_of st u m) st)) (owner st)

-- an item of the container c, which is put back by `put`, at what a key gives
abbrev pub item_means : (c : Val) → (put : Val → State → Result) → (key : State → Result) → (go : Changes) → State → Result
item_means c put key go st =
    got (λ k st. got (λ x. go x (λ y st. got put (answer (with_at c k y) st))) (answer (item_at c k) st)) (key st)

module _ (globals : Globals) (call : ℕ → List Val → State → Result) (around : Around) where
  abbrev pub leaf_means : LeafOp → Ty → State → Result
  leaf_means leaf_is.True t st = ends (Gives (bool true)) st
  leaf_means leaf_is.False t st = ends (Gives (bool false)) st
  leaf_means (leaf_is.Number n) t st = ends (Gives (number_value t false n)) st
  leaf_means (leaf_is.TypedNumber n) t st = ends (Gives (number_value t false n)) st
  leaf_means (leaf_is.Text x) t st = ends (Gives (str x)) st
  leaf_means (leaf_is.Bytes b) t st = ends (Gives (bytes b)) st
  leaf_means (leaf_is.Empty w) t st = ends (Gives (zero_value globals.ranges t)) st
  leaf_means (leaf_is.Itself s) t st = ends (Gives (unit st.self)) st
  leaf_means (leaf_is.Current s) t st = given_or around.current (ends Unfinished) st
  leaf_means (leaf_is.Local l) t st = ends (Gives (local_of st l)) st
  leaf_means (leaf_is.Parameter n s) t st = ends (Gives (parameter_in around n st)) st
  leaf_means (leaf_is.Constant c) t st = known (slice_get globals.constants c) (λ o st. known o (λ v st. ends (Gives v) st) st) st
  leaf_means (leaf_is.Label k l) t st = ends (Gives (label_value globals k l)) st
  leaf_means l t st = ends Unfinished st

  -- what is made of any number of parts: `all` evaluates them in turn and hands on their values, `change` is the call of a method that
  -- changes its receiver, and `offset` is that of the field at hand
  abbrev pub many_means : ManyOp → Option Val → ((List Val → State → Result) → State → Result) → (State → Result) → State → Result
  many_means many_is.Tuple offset all change st = all (λ vs st. ends (Gives (tuple (vals_of vs))) st) st
  many_means many_is.Vector offset all change st = all (λ vs st. ends (Gives (vector (vals_of vs))) st) st
  many_means many_is.Set offset all change st = all (λ vs st. ends (Gives (set_of vs)) st) st
  many_means many_is.Map offset all change st = all (λ vs st. ends (Gives (map_of vs)) st) st
  many_means (many_is.Call f) offset all change st = all (call f) st
  many_means (many_is.Convert k) offset all change st = all (converted k) st
  many_means (many_is.Method m slot) offset all change st = chosen (changes m) change (all (λ vs st. given (applied m vs) st)) st
  many_means (many_is.OfUnit unit_method.Offset at) offset all change st = given_or offset (all offset_from) st
  many_means op offset all change st = ends Unfinished st

  abbrev mutual
    pub expr_means : Expr → State → Result
    expr_means (leaf h) st = leaf_means h.op h.ty st
    expr_means (one h a) st = unless_literal (negative_literal h a) (λ st. got (λ v st. one_means h.op h.ty v st) (expr_means a st)) st
    expr_means (two h a b) st = two_means h.op (expr_means a) (expr_means b) st
    expr_means (three h c a b) st = got (λ x st. chosen (truth_of x) (expr_means a) (expr_means b) st) (expr_means c st)
    expr_means (many h es) st = many_means h.op (offset_at_hand around (is_self es)) (all_got es []) (receiver_means h.op es) st

    -- the values of these expressions in turn, behind those that are there, and what is done with all
    pub all_got : Exprs → List Val → (List Val → State → Result) → State → Result
    all_got none vs go st = go vs st
    all_got (more e es) vs go st = got (λ v st. all_got es (vs ++ v ∷ []) go st) (expr_means e st)

    -- a method that changes its receiver: the receiver is read, then its arguments, and what the method makes of it is put there
    pub receiver_means : ManyOp → Exprs → State → Result
    receiver_means op none st = ends Unfinished st
    receiver_means op (more r es) st =
        known (called_method op) (λ m. place_means (slot_of_receiver op) r (λ x put. all_got es (x ∷ []) (λ vs. taken put (applied m vs)))) st

    -- A place: a local, a member of a unit, or an item of a place, whose container is read before its key, and is put back with the
    -- changed item.
    pub place_means : Option ℕ → Expr → Changes → State → Result
    place_means owner (leaf h) go st = known (local_named h.op) (λ l st. go (local_of st l) (λ v st. ends Fine (set_local l v st)) st) st
    place_means owner (one h a) go st = known (member_named h.op) (λ m. keep_owner owner (expr_means a) (member_means (owner_means owner (expr_means a)) m go)) st
    place_means owner (two h a b) go st = chosen (is_item h.op) (place_means owner a (λ c put. item_means c put (expr_means b) go)) (ends Unfinished) st
    place_means owner e go st = ends Unfinished st
