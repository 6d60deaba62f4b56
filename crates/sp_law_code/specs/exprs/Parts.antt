-- What the code of an expression asks of the kinds of its parts, and of how many values a call has.
use Rattle.std.specs.Prelude.{◌≡◌, ℕ, ◌+◌, ◌-◌, Bool, true, false, List, [], ◌∷◌, reverse, replicate, Option, Some, None, nat_lt, slice_get}
use Rattle.sp_words.specs.declared.operators.BinaryOp.{BinaryOp}
use Rattle.sp_words.specs.declared.operators.BinaryOp.TheVariants as op_is
use Rattle.sp_words.specs.declared.operators.UnaryOp.TheVariants as unary_is
use Rattle.sp_words.specs.Methods.{changes}
use Rattle.sp_value.specs.Val.{Val, void, bool, bytes, str}
use Rattle.sp_operators.specs.declared.plain_type.PlainType.TheVariants as plain
use Rattle.sp_methods.specs.Kinds.{Kind, Void, Bools, Unsigned, Only, UnitOf, TupleOf, VectorOf, SetOf, MapOf, kinds_of, Has}
use Rattle.sp_methods.specs.Methods.{IsMethod}
use Rattle.sp_types.specs.Types.{Ty}
use Rattle.sp_typed.specs.declared.words.LeafOp.{LeafOp}
use Rattle.sp_typed.specs.declared.words.LeafOp.TheVariants as leaf_is
use Rattle.sp_typed.specs.declared.words.OneOp.{OneOp}
use Rattle.sp_typed.specs.declared.words.OneOp.TheVariants as one_is
use Rattle.sp_typed.specs.declared.words.TwoOp.{TwoOp}
use Rattle.sp_typed.specs.declared.words.TwoOp.TheVariants as two_is
use Rattle.sp_typed.specs.declared.words.ManyOp.{ManyOp}
use Rattle.sp_typed.specs.declared.words.ManyOp.TheVariants as many_is
use Rattle.sp_typed.specs.declared.words.UnitMethod.TheVariants as unit_method
use Rattle.sp_typed.specs.Exprs.{Expr, Exprs, leaf, one, two, three, many, none, more}
use Rattle.sp_meaning_states.specs.Scopes as called_is
use Rattle.sp_meaning_states.specs.Types.{number_value, plain_type, zero_value, kind_of_type}
use Rattle.sp_meaning.specs.Globals.{Globals, label_value}
use Rattle.sp_code_meaning.specs.Layouts.{Layout}
use Rattle.sp_meaning.specs.Operations.{negative_literal, is_self, slot_of_receiver}
use Rattle.sp_code_meaning.specs.Exprs.{offset_local, slot_local, gives_result}
use Rattle.sp_code.specs.Kinds.{kind_of_two, kind_of_one, kind_of_cast, IsSized, IsPlaceIn, IsItemOf, in_turn}
use Rattle.sp_code.specs.Machine.{Body, Plain}
use Rattle.sp_code.specs.Shapes.{UnitKinds, Shapes, OfFunction, IsMember, Enters}
use Rattle.sp_code_programs.specs.exprs.Code.{count, kind_of, kinds_on, place_local, member_of}

-- a call gives its function as many values as that takes
abbrev pub IsCounted : Plain → ManyOp → ℕ → Type 0
IsCounted p (many_is.Call f) n = (e : Body) × (slice_get p.bodies f ≡ Some e) × (n ≡ e.takes)
IsCounted p op n = Unit {0}

abbrev mutual
  pub AreCounted : Plain → Expr → Type 0
  AreCounted p (leaf h) = Unit {0}
  AreCounted p (one h a) = AreCounted p a
  AreCounted p (two h a b) = AreCounted p a × AreCounted p b
  AreCounted p (three h c a b) = AreCounted p c × AreCounted p a × AreCounted p b
  AreCounted p (many h es) = IsCounted p h.op (count es) × AllAreCounted p es

  pub AllAreCounted : Plain → Exprs → Type 0
  AllAreCounted p none = Unit {0}
  AllAreCounted p (more e es) = AreCounted p e × AllAreCounted p es

-- one of two demands
abbrev pub OneOf : Bool → Type 0 → Type 0 → Type 0
OneOf true A B = A
OneOf false A B = B

-- what an operator asks of the kind of its part, where the node is of a type and of a kind
module _ (p : Plain) (shapes : Shapes) where
  abbrev pub OneFits : OneOp → Kind → Ty → Kind → Type 0
  OneFits one_is.Negate j t k = kind_of_one unary_is.Negate j ≡ Some k
  OneFits one_is.Not j t k = kind_of_one unary_is.Not j ≡ Some k
  OneFits one_is.Complement j t k = kind_of_one unary_is.Complement j ≡ Some k
  OneFits one_is.Size j t k = IsSized j × (k ≡ Unsigned)
  OneFits (one_is.Cast w) j t k = kind_of_cast j (plain_type t) ≡ Some k
  OneFits one_is.Widen j t k = kind_of_cast j (plain_type t) ≡ Some k
  OneFits (one_is.Field m) j t k = (u : ℕ) × (j ≡ UnitOf u) × IsMember p shapes u m k
  OneFits (one_is.Variable m) j t k = (u : ℕ) × (j ≡ UnitOf u) × IsMember p shapes u m k
  OneFits (one_is.Bit r) j t k = IsItemOf j (Only r) Unsigned × (kind_of_cast Unsigned (plain_type t) ≡ Some k)
  OneFits (one_is.IsSet m) j t k = (u : ℕ) × (j ≡ UnitOf u) × (k ≡ Bools)
  OneFits o j t k = ⊥

  -- and of the kinds of two parts
  abbrev pub BinaryFits : BinaryOp → Kind → Kind → Kind → Type 0
  BinaryFits op_is.And i j k = (i ≡ Bools) × (j ≡ Bools) × (k ≡ Bools)
  BinaryFits op_is.Or i j k = (i ≡ Bools) × (j ≡ Bools) × (k ≡ Bools)
  BinaryFits o i j k = kind_of_two o i j ≡ Some k

  -- the number of a member has no code, so nothing is asked of its second part
  abbrev pub TwoFits : TwoOp → Type 0 → Kind → Kind → Kind → Type 0
  TwoFits (two_is.Binary o) B i j k = B × BinaryFits o i j k
  TwoFits two_is.Index B i j k = B × IsItemOf i j k
  TwoFits (two_is.Item n) B i j k = IsItemOf i (Only n) k

  -- and of the kinds of any number of parts, the last first
  abbrev pub ManyFits : ManyOp → ℕ → List Kind → Kind → Type 0
  ManyFits many_is.Tuple n js k = k ≡ TupleOf (kinds_of (reverse js))
  ManyFits many_is.Vector n js k = (j : Kind) × (js ≡ replicate n j) × (k ≡ VectorOf j)
  ManyFits many_is.Set n js k = (j : Kind) × (js ≡ replicate n j) × (k ≡ SetOf j)
  ManyFits many_is.Map n js k = (m : ℕ) × (i j : Kind) × (n ≡ m + m) × (js ≡ in_turn n i j) × (k ≡ MapOf i j)
  ManyFits (many_is.Call f) n js k = Enters p shapes f None called_is.Called.Function (OfFunction k) js
  ManyFits (many_is.Convert e) n js k = (j : Kind) × (js ≡ j ∷ []) × (kind_of_cast j (plain.Enum e) ≡ Some k)
  ManyFits (many_is.Method m slot) n js k = IsMethod m js (k ∷ [])
  ManyFits (many_is.OfUnit unit_method.Offset at) n js k = (u : ℕ) × (js ≡ UnitOf u ∷ []) × (k ≡ Unsigned)
  ManyFits op n js k = ⊥

  -- a method that changes its receiver gives it anew, and maybe a result
  abbrev pub ChangeFits : ManyOp → List Kind → Kind → Kind → Type 0
  ChangeFits (many_is.Method m slot) js r k = OneOf (gives_result m) (IsMethod m js (r ∷ k ∷ [])) (IsMethod m js (r ∷ []) × (k ≡ Void))
  ChangeFits op js r k = Unit {0}

  -- the offset of the field at hand is had from a local, or from `self`; a method changes its receiver, or it doesn't
  abbrev pub Demands : ManyOp → Option ℕ → (ℕ → Type 0) → Type 0 → Type 0 → Type 0
  Demands (many_is.OfUnit unit_method.Offset at) (Some l) kept change made = kept l
  Demands (many_is.Method m slot) o kept change made = OneOf (changes m) change made
  Demands op o kept change made = made

module _ (p : Plain) (shapes : Shapes) (globals : Globals) (layout : Layout) (locals : List Kind) (unit : Option ℕ) where
  -- a value is of a kind, whatever instances there are
  abbrev pub IsAlways : Kind → Val → Type 0
  IsAlways k v = (units : List ℕ) → Has units k v

  abbrev pub IsLocal : ℕ → Kind → Type 0
  IsLocal l k = slice_get locals l ≡ Some k

  abbrev pub IsParameter : ℕ → Kind → Type 0
  IsParameter n k = (u : ℕ) × (t : UnitKinds) × (unit ≡ Some u) × (slice_get shapes.units u ≡ Some t) × (slice_get t.parameters n ≡ Some k)

  abbrev pub IsConstant : Option (Option Val) → Kind → Type 0
  IsConstant (Some (Some v)) k = IsAlways k v
  IsConstant o k = IsAlways k void

  -- a leaf of a type and of a kind
  abbrev pub LeafFits : LeafOp → Ty → Kind → Type 0
  LeafFits leaf_is.True t k = IsAlways k (bool true)
  LeafFits leaf_is.False t k = IsAlways k (bool false)
  LeafFits (leaf_is.Number n) t k = IsAlways k (number_value t false n)
  LeafFits (leaf_is.TypedNumber n) t k = IsAlways k (number_value t false n)
  LeafFits (leaf_is.Text x) t k = IsAlways k (str x)
  LeafFits (leaf_is.Bytes b) t k = IsAlways k (bytes b)
  LeafFits (leaf_is.Empty w) t k = IsAlways k (zero_value globals.ranges t)
  LeafFits (leaf_is.Itself x) t k = (u : ℕ) × (unit ≡ Some u) × (k ≡ UnitOf u)
  LeafFits (leaf_is.Current x) t k = IsLocal layout.current k
  LeafFits (leaf_is.Local l) t k = IsLocal (layout.first + l) k
  LeafFits (leaf_is.Parameter n x) t k = OneOf (nat_lt n layout.own) (IsLocal n k) (IsParameter (n - layout.own) k)
  LeafFits (leaf_is.Constant c) t k = IsConstant (slice_get globals.constants c) k
  LeafFits (leaf_is.Label e l) t k = IsAlways k (label_value globals e l)
  LeafFits l t k = IsAlways k void

  -- a literal with a minus sign is of its kind, or what else stands there fits
  abbrev pub UnlessLiteral : Option Val → Kind → Type 0 → Type 0
  UnlessLiteral (Some v) k A = IsAlways k v
  UnlessLiteral None k A = A

  -- the owner of a member is kept in a local of its kind
  abbrev pub IsKept : Option ℕ → Kind → Type 0
  IsKept (Some l) k = IsLocal l k
  IsKept None k = Unit {0}

  abbrev mutual
    -- the parts of an expression are of the kinds that its form asks
    pub Fits : Expr → Type 0
    Fits (leaf h) = LeafFits h.op h.ty (kind_of_type globals.ranges h.ty)
    Fits (one h a) =
        UnlessLiteral (negative_literal h a) (kind_of_type globals.ranges h.ty) (Fits a × OneFits p shapes h.op (kind_of globals layout a) h.ty (kind_of_type globals.ranges h.ty))
    Fits (two h a b) =
        Fits a × TwoFits p shapes h.op (Fits b) (kind_of globals layout a) (kind_of globals layout b) (kind_of_type globals.ranges h.ty)
    Fits (three h c a b) =
        Fits c × Fits a × Fits b × (kind_of globals layout c ≡ Bools) × (kind_of globals layout a ≡ kind_of_type globals.ranges h.ty) × (kind_of globals layout b ≡ kind_of_type globals.ranges h.ty)
    Fits (many h es) =
        Demands p shapes h.op (offset_local layout (is_self es)) (λ l. IsLocal l (kind_of_type globals.ranges h.ty))
        (ReceiverFits h.op (kind_of_type globals.ranges h.ty) es)
        (AllFit es × ManyFits p shapes h.op (count es) (kinds_on globals layout es []) (kind_of_type globals.ranges h.ty))

    pub AllFit : Exprs → Type 0
    AllFit none = Unit {0}
    AllFit (more e es) = Fits e × AllFit es

    pub ReceiverFits : ManyOp → Kind → Exprs → Type 0
    ReceiverFits op k none = ⊥
    ReceiverFits op k (more r es) =
        PlaceFits (slot_local layout (slot_of_receiver op)) r × AllFit es × ChangeFits p shapes op (kinds_on globals layout es (kind_of globals layout r ∷ [])) (kind_of globals layout r) k

    -- a place, by the local in which the owner of its member is kept
    pub PlaceFits : Option ℕ → Expr → Type 0
    PlaceFits owner (leaf h) = IsLocal (place_local globals layout h.op) (kind_of_type globals.ranges h.ty)
    PlaceFits owner (one h a) =
        Fits a × IsKept owner (kind_of globals layout a) × ((u : ℕ) × (kind_of globals layout a ≡ UnitOf u) × IsMember p shapes u (member_of h.op) (kind_of_type globals.ranges h.ty))
    PlaceFits owner (two h a b) =
        PlaceFits owner a × Fits b × IsPlaceIn (kind_of globals layout a) (kind_of globals layout b) (kind_of_type globals.ranges h.ty)
    PlaceFits owner e = ⊥
