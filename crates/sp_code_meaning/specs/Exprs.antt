-- What expressions mean: how each ends, what it tells, and the state behind it.
use Rattle.std.specs.Prelude.{ℕ, ◌+◌, Bool, true, false, List, [], ◌∷◌, reverse, Option, Some, None, slice_get}
use Rattle.sp_words.specs.declared.methods.Method.{Method}
use Rattle.sp_words.specs.declared.methods.Method.TheVariants.{PopBack}
use Rattle.sp_words.specs.Methods.{changes}
use Rattle.sp_value.specs.Val.{Val, bool, bytes, str, tuple, vector, unit, vals_of}
use Rattle.sp_methods.specs.Methods.{method}
use Rattle.sp_types.specs.Types.{Ty}
use Rattle.sp_typed.specs.declared.words.LeafOp.{LeafOp}
use Rattle.sp_typed.specs.declared.words.LeafOp.TheVariants as leaf_is
use Rattle.sp_typed.specs.declared.words.ManyOp.{ManyOp}
use Rattle.sp_typed.specs.declared.words.ManyOp.TheVariants as many_is
use Rattle.sp_typed.specs.declared.words.UnitMethod.TheVariants as unit_method
use Rattle.sp_typed.specs.Exprs.{Expr, Exprs, leaf, one, two, three, many, none, more}
use Rattle.sp_meaning_states.specs.States.{State, Gives, Fine, Unfinished, Result, ends, got, chosen, truth_of, answer, local_of, set_local, member_of, value_or_unset, put_member}
use Rattle.sp_meaning_states.specs.Values.{item_at, with_at, set_of, map_of}
use Rattle.sp_meaning_states.specs.Types.{number_value, zero_value}
use Rattle.sp_meaning.specs.Globals.{Globals, label_value}
use Rattle.sp_code_meaning.specs.Layouts.{Layout, parameter_in}
use Rattle.sp_meaning.specs.Operations.{Changes, called_method, converted, given, is_item, is_self, keep_owner, known, local_named, member_named, negative_literal, offset_from, one_means, owner_means, slot_of_receiver, taken, two_means, unless_literal}

-- how many expressions these are
abbrev pub how_many : Exprs → ℕ
how_many none = 0
how_many (more e es) = how_many es + 1

-- the local in which the offset of the field at hand stands, where it is asked of `self`
abbrev pub offset_local : Layout → Bool → Option ℕ
offset_local layout true = layout.offset
offset_local layout false = None

abbrev pub offset_means : Option ℕ → (State → Result) → State → Result
offset_means (Some l) go st = ends (Gives (local_of st l)) st
offset_means None go st = go st

-- a slot among the locals
abbrev pub slot_local : Layout → Option ℕ → Option ℕ
slot_local layout (Some s) = Some (layout.first + s)
slot_local layout None = None

-- A method that changes its receiver, and has a result besides.
abbrev pub gives_result : Method → Bool
gives_result PopBack = true
gives_result m = false

abbrev pub is_item_place : Expr → Bool
is_item_place (two h a b) = true
is_item_place e = false

module _ (globals : Globals) (call : ℕ → List Val → State → Result) (layout : Layout) where
  abbrev pub leaf_means : LeafOp → Ty → State → Result
  leaf_means leaf_is.True t st = ends (Gives (bool true)) st
  leaf_means leaf_is.False t st = ends (Gives (bool false)) st
  leaf_means (leaf_is.Number n) t st = ends (Gives (number_value t false n)) st
  leaf_means (leaf_is.TypedNumber n) t st = ends (Gives (number_value t false n)) st
  leaf_means (leaf_is.Text x) t st = ends (Gives (str x)) st
  leaf_means (leaf_is.Bytes b) t st = ends (Gives (bytes b)) st
  leaf_means (leaf_is.Empty w) t st = ends (Gives (zero_value globals.ranges t)) st
  leaf_means (leaf_is.Itself s) t st = ends (Gives (unit st.self)) st
  leaf_means (leaf_is.Current s) t st = ends (Gives (local_of st layout.current)) st
  leaf_means (leaf_is.Local l) t st = ends (Gives (local_of st (layout.first + l))) st
  leaf_means (leaf_is.Parameter n s) t st = ends (Gives (parameter_in layout n st)) st
  leaf_means (leaf_is.Constant c) t st = known (slice_get globals.constants c) (λ o st. known o (λ v st. ends (Gives v) st) st) st
  leaf_means (leaf_is.Label k l) t st = ends (Gives (label_value globals k l)) st
  leaf_means l t st = ends Unfinished st

  -- what is made of any number of parts: `all` evaluates them in turn and hands them on, the last first; `change` is the call of a
  -- method that changes its receiver
  abbrev pub many_means : ManyOp → Option ℕ → ((List Val → State → Result) → State → Result) → (State → Result) → State → Result
  many_means many_is.Tuple o all change st = all (λ vs st. ends (Gives (tuple (vals_of (reverse vs)))) st) st
  many_means many_is.Vector o all change st = all (λ vs st. ends (Gives (vector (vals_of (reverse vs)))) st) st
  many_means many_is.Set o all change st = all (λ vs st. ends (Gives (set_of (reverse vs))) st) st
  many_means many_is.Map o all change st = all (λ vs st. ends (Gives (map_of (reverse vs))) st) st
  many_means (many_is.Call f) o all change st = all (call f) st
  many_means (many_is.Convert k) o all change st = all (converted k) st
  many_means (many_is.Method m slot) o all change st = chosen (changes m) change (all (λ vs st. given (method m vs) st)) st
  many_means (many_is.OfUnit unit_method.Offset at) o all change st = offset_means o (all offset_from) st
  many_means op o all change st = ends Unfinished st

  abbrev mutual
    pub expr_means : Expr → State → Result
    expr_means (leaf h) st = leaf_means h.op h.ty st
    expr_means (one h a) st = unless_literal (negative_literal h a) (λ st. got (λ v st. one_means h.op h.ty v st) (expr_means a st)) st
    expr_means (two h a b) st = two_means h.op (expr_means a) (expr_means b) st
    expr_means (three h c a b) st = got (λ x st. chosen (truth_of x) (expr_means a) (expr_means b) st) (expr_means c st)
    expr_means (many h es) st = many_means h.op (offset_local layout (is_self es)) (all_got es []) (receiver_means h.op es) st

    -- values in turn, and what is done with them, the last first
    pub all_got : Exprs → List Val → (List Val → State → Result) → State → Result
    all_got none vs go st = go vs st
    all_got (more e es) vs go st = got (λ v st. all_got es (v ∷ vs) go st) (expr_means e st)

    -- a method that changes its receiver: the receiver is read, then its arguments, and what the method makes of it is put there
    pub receiver_means : ManyOp → Exprs → State → Result
    receiver_means op none st = ends Unfinished st
    receiver_means op (more r es) st =
        known (called_method op) (λ m st. place_means (slot_local layout (slot_of_receiver op)) r
        (λ x put st. all_got es (x ∷ []) (λ vs st. taken put (method m vs) st) st) st) st

    -- A place: a local, a member of a unit, or an item of a place, whose container is read before its key, and is put back with the
    -- changed item.
    pub place_means : Option ℕ → Expr → Changes → State → Result
    place_means owner (leaf h) go st =
        known (local_named h.op) (λ s st. go (local_of st (layout.first + s)) (λ v st. ends Fine (set_local (layout.first + s) v st)) st) st
    place_means owner (one h a) go st =
        known (member_named h.op) (λ m st. keep_owner owner (expr_means a) (λ st.
        got (λ u st. got (λ x st. go x (λ v st. got (λ u st. put_member u m v st) (owner_means owner (expr_means a) st)) st)
        (value_or_unset (member_of st u m) st)) (owner_means owner (expr_means a) st)) st) st
    place_means owner (two h a b) go st =
        chosen (is_item h.op) (place_means owner a (λ c put st. got (λ k st.
        got (λ x st. go x (λ y st. got put (answer (with_at c k y) st)) st) (answer (item_at c k) st)) (expr_means b st)))
        (ends Unfinished) st
    place_means owner e go st = ends Unfinished st
