-- Expressions and places agree where the calls in them do.
use Rattle.std.proofs.Common.{ℕ, ◌+◌, List, [], ◌∷◌, Option, Some, None, refl, arith, inl}
use Rattle.std.specs.Prelude.{slice_get}
use Rattle.sp_words.specs.declared.operators.BinaryOp.{BinaryOp}
use Rattle.sp_words.specs.declared.operators.BinaryOp.TheVariants as op_is
use Rattle.sp_words.specs.Methods.{changes}
use Rattle.sp_numbers.specs.declared.width.Width.TheVariants.{W64}
use Rattle.sp_value.specs.Val.{Val, uint}
use Rattle.sp_operators.specs.Operators.{binary}
use Rattle.sp_methods.specs.Methods.{method}
use Rattle.sp_types.specs.Types.{Ty}
use Rattle.sp_typed.specs.declared.words.LeafOp.{LeafOp}
use Rattle.sp_typed.specs.declared.words.LeafOp.TheVariants as leaf_is
use Rattle.sp_typed.specs.declared.words.OneOp.{OneOp}
use Rattle.sp_typed.specs.declared.words.OneOp.TheVariants as one_is
use Rattle.sp_typed.specs.declared.words.TwoOp.{TwoOp}
use Rattle.sp_typed.specs.declared.words.TwoOp.TheVariants as two_is
use Rattle.sp_typed.specs.declared.words.ManyOp.{ManyOp}
use Rattle.sp_typed.specs.declared.words.ManyOp.TheVariants as many_is
use Rattle.sp_typed.specs.declared.words.UnitMethod.TheVariants as unit_method
use Rattle.sp_typed.specs.Exprs.{Expr, Exprs, leaf, one, two, three, many, none, more}
use Rattle.sp_meaning_states.specs.States.{State, Result, Gives, Fine, Unfinished, ends, got, answer, local_of, set_local, member_of, value_or_unset}
use Rattle.sp_meaning_states.specs.Values.{item_at, with_at}
use Rattle.sp_meaning.specs.Globals.{Globals}
use Rattle.sp_code_meaning.specs.Layouts.{Layout}
use Rattle.sp_meaning.specs.Operations.{Changes, negative_literal, one_means, binary_means, two_means, converted, offset_from, is_self, member_named, is_item, local_named, keep_owner, owner_means, slot_of_receiver, called_method}
use Rattle.sp_code_meaning.specs.Exprs.{offset_local, offset_means, slot_local, leaf_means, many_means, expr_means, all_got, receiver_means, place_means}
use Rattle.sp_code_meaning.specs.Places.{put_means, key_means}
use Rattle.sp_law_programs.proofs.finished_bodies_lemmas.Agree.{Same, at_once, then_got, chosen_same, known_same, literal_same, answer_same, member_same, put_same, given_same, taken_same}

module _ (May : Type 0) (c : ℕ) where
  one_same : (o : OneOp) (t : Ty) (v : Val) → Same May c (one_means o t v) (one_means o t v)
  one_same one_is.Negate t v = answer_same May c _
  one_same one_is.Not t v = answer_same May c _
  one_same one_is.Complement t v = answer_same May c _
  one_same one_is.Size t v = at_once May c _
  one_same (one_is.Cast w) t v = answer_same May c _
  one_same one_is.Widen t v = answer_same May c _
  one_same (one_is.Field m) t v = λ st l. member_same May c (member_of st v m) st l
  one_same (one_is.Variable m) t v = λ st l. member_same May c (member_of st v m) st l
  one_same (one_is.Bit r) t v = answer_same May c _
  one_same (one_is.IsSet m) t v = λ st l. (omega arith, inl refl)
  one_same _ t v = at_once May c Unfinished

  both_same : (make : Val → Val → State → Result) (a b f g : State → Result) → Same May c a f → Same May c b g → ((x y : Val) → Same May c (make x y) (make x y))
      → Same May c (λ st. got (λ x st. got (λ y st. make x y st) (b st)) (a st)) (λ st. got (λ x st. got (λ y st. make x y st) (g st)) (f st))
  both_same make a b f g h k m = then_got May c a f _ _ h (λ x. then_got May c b g _ _ k (λ y. m x y))

  binary_same : (o : BinaryOp) (a b f g : State → Result) → Same May c a f → Same May c b g → Same May c (binary_means o a b) (binary_means o f g)
  binary_same op_is.And a b f g h k = then_got May c a f _ _ h (λ x. chosen_same May c _ b g _ _ k (at_once May c _))
  binary_same op_is.Or a b f g h k = then_got May c a f _ _ h (λ x. chosen_same May c _ _ _ b g (at_once May c _) k)
  binary_same o a b f g h k = both_same (λ x y st. answer (binary o x y) st) a b f g h k (λ x y. answer_same May c (binary o x y))

  two_same : (o : TwoOp) (a b f g : State → Result) → Same May c a f → Same May c b g → Same May c (two_means o a b) (two_means o f g)
  two_same (two_is.Binary o) a b f g h k = binary_same o a b f g h k
  two_same two_is.Index a b f g h k = both_same (λ x y st. answer (item_at x y) st) a b f g h k (λ x y. answer_same May c (item_at x y))
  two_same (two_is.Item n) a b f g h k = then_got May c a f _ _ h (λ x. answer_same May c (item_at x (uint W64 n)))

  converted_same : (k : ℕ) (vs : List Val) → Same May c (converted k vs) (converted k vs)
  converted_same k [] = at_once May c Unfinished
  converted_same k (v ∷ []) = answer_same May c _
  converted_same k (v ∷ w ∷ vs) = at_once May c Unfinished

  offset_same : (vs : List Val) → Same May c (offset_from vs) (offset_from vs)
  offset_same [] = at_once May c Unfinished
  offset_same (v ∷ []) = λ st l. (omega arith, inl refl)
  offset_same (v ∷ w ∷ vs) = at_once May c Unfinished

  had_same : (o : Option ℕ) (go on : State → Result) → Same May c go on → Same May c (offset_means o go) (offset_means o on)
  had_same (Some l) go on h = λ st l. (omega arith, inl refl)
  had_same None go on h = h

  pub keep_same : (owner : Option ℕ) (a f go on : State → Result) → Same May c a f → Same May c go on → Same May c (keep_owner owner a go) (keep_owner owner f on)
  keep_same (Some l) a f go on h k = then_got May c a f _ _ h (λ u st m. k (set_local l u st) m)
  keep_same None a f go on h k = k

  pub owner_same : (owner : Option ℕ) (a f : State → Result) → Same May c a f → Same May c (owner_means owner a) (owner_means owner f)
  owner_same (Some l) a f h = λ st m. (omega arith, inl refl)
  owner_same None a f h = h

  pub set_same : (l : ℕ) (v : Val) → Same May c (λ st. ends Fine (set_local l v st)) (λ st. ends Fine (set_local l v st))
  set_same l v = λ st m. (omega arith, inl refl)

  -- two ways to change a place agree where what puts a value there does
  abbrev pub SameChanges : Changes → Changes → Type 0
  SameChanges go on = (x : Val) (put also : Val → State → Result) → ((v : Val) → Same May c (put v) (also v)) → Same May c (go x put) (on x also)

  -- all of many values, and what is done with them
  abbrev pub SameAll : ((List Val → State → Result) → State → Result) → ((List Val → State → Result) → State → Result) → Type 0
  SameAll all each = (go on : List Val → State → Result) → ((vs : List Val) → Same May c (go vs) (on vs)) → Same May c (all go) (each on)

module _ (May : Type 0) (globals : Globals) (layout : Layout) (c : ℕ) (call also : ℕ → List Val → State → Result) (calls : (f : ℕ) (vs : List Val) → Same May c (call f vs) (also f vs)) where
  leaf_same : (l : LeafOp) (t : Ty) → Same May c (leaf_means globals call layout l t) (leaf_means globals also layout l t)
  leaf_same (leaf_is.Constant n) t = known_same May c (slice_get globals.constants n) _ _ (λ o. known_same May c o _ _ (λ v. at_once May c (Gives v)))
  leaf_same _ t = λ st l. (omega arith, inl refl)

  many_same : (o : ManyOp) (at : Option ℕ) (all each : (List Val → State → Result) → State → Result) (change other : State → Result) → SameAll May c all each → Same May c change other
      → Same May c (many_means globals call layout o at all change) (many_means globals also layout o at each other)
  many_same many_is.Tuple at all each change other h k = h _ _ (λ vs. at_once May c _)
  many_same many_is.Vector at all each change other h k = h _ _ (λ vs. at_once May c _)
  many_same many_is.Set at all each change other h k = h _ _ (λ vs. at_once May c _)
  many_same many_is.Map at all each change other h k = h _ _ (λ vs. at_once May c _)
  many_same (many_is.Call f) at all each change other h k = h (call f) (also f) (calls f)
  many_same (many_is.Convert n) at all each change other h k = h _ _ (converted_same May c n)
  many_same (many_is.Method m slot) at all each change other h k = chosen_same May c (changes m) change other _ _ k (h _ _ (λ vs. given_same May c (method m vs)))
  many_same (many_is.OfUnit unit_method.Offset span) at all each change other h k = had_same May c at _ _ (h _ _ (offset_same May c))
  many_same _ at all each change other h k = at_once May c Unfinished

  abbrev means : Expr → State → Result
  means e = expr_means globals call layout e

  abbrev too : Expr → State → Result
  too e = expr_means globals also layout e

  mutual
    pub expr_same : (e : Expr) → Same May c (expr_means globals call layout e) (expr_means globals also layout e)
    expr_same (leaf h) = leaf_same h.op h.ty
    expr_same (one h a) = literal_same May c (negative_literal h a) _ _ (then_got May c (means a) (too a) _ _ (expr_same a) (one_same May c h.op h.ty))
    expr_same (two h a b) = two_same May c h.op (means a) (means b) (too a) (too b) (expr_same a) (expr_same b)
    expr_same (three h d a b) = then_got May c (means d) (too d) _ _ (expr_same d) (λ x. chosen_same May c _ (means a) (too a) (means b) (too b) (expr_same a) (expr_same b))
    expr_same (many h es) =
        many_same h.op (offset_local layout (is_self es)) (all_got globals call layout es []) (all_got globals also layout es []) (receiver_means globals call layout h.op es) (receiver_means globals also layout h.op es)
        (all_same es []) (receiver_same h.op es)

    pub all_same : (es : Exprs) (vs : List Val) → SameAll May c (all_got globals call layout es vs) (all_got globals also layout es vs)
    all_same none vs go on h = h vs
    all_same (more e es) vs go on h = then_got May c (means e) (too e) _ _ (expr_same e) (λ v. all_same es (v ∷ vs) go on h)

    receiver_same : (o : ManyOp) (es : Exprs) → Same May c (receiver_means globals call layout o es) (receiver_means globals also layout o es)
    receiver_same o none = at_once May c Unfinished
    receiver_same o (more r es) =
        known_same May c (called_method o) _ _ (λ m.
        place_same (slot_local layout (slot_of_receiver o)) r _ _ (λ x put puts k. all_same es (x ∷ []) _ _ (λ vs. taken_same May c put puts (method m vs) k)))

    pub place_same : (owner : Option ℕ) (e : Expr) (go on : Changes) → SameChanges May c go on → Same May c (place_means globals call layout owner e go) (place_means globals also layout owner e on)
    place_same owner (leaf h) go on k = known_same May c (local_named h.op) _ _ (λ s st l. k (local_of st (layout.first + s)) _ _ (set_same May c (layout.first + s)) st l)
    place_same owner (one h a) go on k =
        known_same May c (member_named h.op) _ _ (λ m. keep_same May c owner (means a) (too a) _ _ (expr_same a)
        (then_got May c _ _ _ _ (owner_same May c owner (means a) (too a) (expr_same a)) (λ u.
        then_got May c (λ st. value_or_unset (member_of st u m) st) (λ st. value_or_unset (member_of st u m) st) _ _ (λ st l. member_same May c (member_of st u m) st l) (λ x.
        k x _ _ (λ v. then_got May c _ _ _ _ (owner_same May c owner (means a) (too a) (expr_same a)) (λ w. put_same May c w m v))))))
    place_same owner (two h a b) go on k =
        chosen_same May c (is_item h.op) _ _ _ _
        (place_same owner a _ _ (λ d put puts l. then_got May c (means b) (too b) _ _ (expr_same b) (λ i.
        then_got May c (answer (item_at d i)) (answer (item_at d i)) _ _ (answer_same May c (item_at d i)) (λ x.
        k x _ _ (λ y. then_got May c (answer (with_at d i y)) (answer (with_at d i y)) put puts (answer_same May c (with_at d i y)) l)))))
        (at_once May c Unfinished)
    place_same owner (three h d a b) go on k = at_once May c Unfinished
    place_same owner (many h es) go on k = at_once May c Unfinished

  pub put_means_same : (owner : Option ℕ) (e : Expr) (x y : State → Result) → Same May c x y → Same May c (put_means globals call layout owner e x) (put_means globals also layout owner e y)
  put_means_same owner (leaf h) x y k = known_same May c (local_named h.op) _ _ (λ s. then_got May c x y _ _ k (set_same May c (layout.first + s)))
  put_means_same owner (one h a) x y k =
      known_same May c (member_named h.op) _ _ (λ m. keep_same May c owner (means a) (too a) _ _ (expr_same a)
      (then_got May c x y _ _ k (λ v. then_got May c _ _ _ _ (owner_same May c owner (means a) (too a) (expr_same a)) (λ u. put_same May c u m v))))
  put_means_same owner (two h a b) x y k =
      chosen_same May c (is_item h.op) _ _ _ _
      (place_same owner a _ _ (λ d put puts l. then_got May c (means b) (too b) _ _ (expr_same b) (λ i.
      then_got May c x y _ _ k (λ v. then_got May c (answer (with_at d i v)) (answer (with_at d i v)) put puts (answer_same May c (with_at d i v)) l))))
      (at_once May c Unfinished)
  put_means_same owner (three h d a b) x y k = at_once May c Unfinished
  put_means_same owner (many h es) x y k = at_once May c Unfinished

  pub key_same : (owner : Option ℕ) (e : Expr) (change : Val → Val → Val) → Same May c (key_means globals call layout owner e change) (key_means globals also layout owner e change)
  key_same owner (two h a b) change =
      chosen_same May c (is_item h.op) _ _ _ _ (place_same owner a _ _ (λ d put puts l. then_got May c (means b) (too b) _ _ (expr_same b) (λ i. l (change d i)))) (at_once May c Unfinished)
  key_same owner (leaf h) change = at_once May c Unfinished
  key_same owner (one h a) change = at_once May c Unfinished
  key_same owner (three h d a b) change = at_once May c Unfinished
  key_same owner (many h es) change = at_once May c Unfinished
