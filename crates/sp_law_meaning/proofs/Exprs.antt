-- Expressions and places agree.
use Rattle.std.proofs.Common.{◌≡◌, ℕ, ◌+◌, ◌≤◌, Bool, true, List, [], ◌∷◌, ◌++◌, length, reverse, Option, Some, None, refl, sym, ap, ◌∙◌, subst, arith, length-append}
use Rattle.std.proofs.lemmas.List.{length-reverse, reverse-reverse, reverse-append}
use Rattle.std.specs.Prelude.{slice_get}
use Rattle.sp_words.specs.declared.operators.BinaryOp.{BinaryOp}
use Rattle.sp_words.specs.declared.operators.BinaryOp.TheVariants as op_is
use Rattle.sp_words.specs.Methods.{changes}
use Rattle.sp_words.specs.declared.methods.Method.{Method}
use Rattle.sp_numbers.specs.declared.width.Width.TheVariants.{W64}
use Rattle.sp_value.specs.Val.{Val, uint, unit, tuple, vector, vals_of}
use Rattle.sp_operators.specs.Operators.{binary}
use Rattle.sp_methods.specs.Methods.{method}
use Rattle.sp_types.specs.Types.{Ty}
use Rattle.sp_typed.specs.declared.words.LeafOp.{LeafOp}
use Rattle.sp_typed.specs.declared.words.LeafOp.TheVariants as leaf_is
use Rattle.sp_typed.specs.declared.words.OneOp.{OneOp}
use Rattle.sp_typed.specs.declared.words.OneOp.TheVariants as one_is
use Rattle.sp_typed.specs.declared.words.TwoOp.{TwoOp}
use Rattle.sp_typed.specs.declared.words.TwoOp.TheVariants as two_is
use Rattle.sp_typed.specs.declared.words.ManyOp.{ManyOp}
use Rattle.sp_typed.specs.declared.words.ManyOp.TheVariants as many_is
use Rattle.sp_typed.specs.declared.words.UnitMethod.TheVariants as unit_method
use Rattle.sp_typed.specs.Exprs.{Expr, Exprs, leaf, one, two, three, many, none, more}
use Rattle.sp_typed_units.specs.declared.declarations.Function.{Function}
use Rattle.sp_meaning_states.specs.States.{State, Result, Gives, Fine, Unfinished, ends, got, answer, local_of, set_local, member_of, value_or_unset}
use Rattle.sp_meaning_states.specs.Values.{item_at, with_at, set_of, map_of}
use Rattle.sp_meaning.specs.Globals.{Globals}
use Rattle.sp_code_meaning.specs.Layouts.{Layout}
use Rattle.sp_code_meaning.specs.Exprs.{how_many, offset_local, slot_local}
use Rattle.sp_meaning.specs.Operations.{Changes, negative_literal, one_means, binary_means, two_means, converted, offset_from, is_self, member_named, is_item, local_named, keep_owner, owner_means, slot_of_receiver, called_method, given, taken}
use Rattle.sp_code_meaning.specs.Exprs as laid
use Rattle.sp_code_meaning.specs.Places as laid_places
use Rattle.sp_meaning.specs.Around.{Around}
use Rattle.sp_meaning.specs.Methods.{applied}
use Rattle.sp_meaning.specs.Exprs.{given_or, offset_at_hand, leaf_means, many_means, expr_means, all_got, receiver_means, place_means}
use Rattle.sp_meaning.specs.Places.{put_means, key_means}
use Rattle.sp_law_meaning.specs.Standing.{LeafStands, CallStands, ExprStands, AllStand}
use Rattle.sp_law_meaning.specs.Laws.{Agree}
use Rattle.sp_law_meaning.proofs.Methods.{applied_is}
use Rattle.sp_law_meaning.proofs.Agree.{here, at_once, nothing, then_got, chosen_same, known_same, literal_same}
use Rattle.sp_law_meaning.proofs.Framed.{framed, Framed, Placed, Alike, alike, sets_slot, gives_slot, slot_of, slot_set, answer_same, member_same, put_same, given_same, taken_same}

module _ (us : List Val) where
  abbrev R : State → State → Type 0
  R = Framed us

  one_same : (o : OneOp) (t : Ty) (v : Val) → Alike us (one_means o t v) (one_means o t v)
  one_same one_is.Negate t v = answer_same us _
  one_same one_is.Not t v = answer_same us _
  one_same one_is.Complement t v = answer_same us _
  one_same one_is.Size t v = at_once R _
  one_same (one_is.Cast w) t v = answer_same us _
  one_same one_is.Widen t v = answer_same us _
  one_same (one_is.Field m) t v = member_same us m v
  one_same (one_is.Variable m) t v = member_same us m v
  one_same (one_is.Bit r) t v = answer_same us _
  one_same (one_is.IsSet m) t v = alike us _ _ (λ st. here refl)
  one_same _ t v = nothing R

  both_same : (make : Val → Val → State → Result) (a b f g : State → Result) → Alike us a f → Alike us b g → ((x y : Val) → Alike us (make x y) (make x y))
      → Alike us (λ st. got (λ x st. got (λ y st. make x y st) (b st)) (a st)) (λ st. got (λ x st. got (λ y st. make x y st) (g st)) (f st))
  both_same make a b f g h k m = then_got R a f _ _ h (λ x. then_got R b g _ _ k (λ y. m x y))

  binary_same : (o : BinaryOp) (a b f g : State → Result) → Alike us a f → Alike us b g → Alike us (binary_means o a b) (binary_means o f g)
  binary_same op_is.And a b f g h k = then_got R a f _ _ h (λ x. chosen_same R _ b g _ _ k (at_once R _))
  binary_same op_is.Or a b f g h k = then_got R a f _ _ h (λ x. chosen_same R _ _ _ b g (at_once R _) k)
  binary_same o a b f g h k = both_same (λ x y st. answer (binary o x y) st) a b f g h k (λ x y. answer_same us (binary o x y))

  two_same : (o : TwoOp) (a b f g : State → Result) → Alike us a f → Alike us b g → Alike us (two_means o a b) (two_means o f g)
  two_same (two_is.Binary o) a b f g h k = binary_same o a b f g h k
  two_same two_is.Index a b f g h k = both_same (λ x y st. answer (item_at x y) st) a b f g h k (λ x y. answer_same us (item_at x y))
  two_same (two_is.Item n) a b f g h k = then_got R a f _ _ h (λ x. answer_same us (item_at x (uint W64 n)))

  -- of two or more values nothing is converted, and no offset is had
  no_converted : (k : ℕ) (vs : List Val) → 2 ≤ length vs → Alike us (ends Unfinished) (converted k vs)
  no_converted k [] l = absurd (omega (arith, l))
  no_converted k (v ∷ []) l = absurd (omega (arith, l))
  no_converted k (v ∷ w ∷ vs) l = nothing R

  converted_same : (k : ℕ) (vs : List Val) → Alike us (converted k vs) (converted k (reverse vs))
  converted_same k [] = nothing R
  converted_same k (v ∷ []) = answer_same us _
  converted_same k (v ∷ w ∷ vs) = no_converted k (reverse (v ∷ w ∷ vs)) (omega (arith, length-reverse (v ∷ w ∷ vs)))

  no_offset : (vs : List Val) → 2 ≤ length vs → Alike us (ends Unfinished) (offset_from vs)
  no_offset [] l = absurd (omega (arith, l))
  no_offset (v ∷ []) l = absurd (omega (arith, l))
  no_offset (v ∷ w ∷ vs) l = nothing R

  offset_same : (vs : List Val) → Alike us (offset_from vs) (offset_from (reverse vs))
  offset_same [] = nothing R
  offset_same (v ∷ []) = alike us (offset_from (v ∷ [])) (offset_from (v ∷ [])) (λ st. by_unit v st)
    where
      by_unit : (v : Val) (st : State) → Agree R (offset_from (v ∷ []) st) (offset_from (v ∷ []) (framed us st))
      by_unit (unit n) st = here refl
      by_unit _ st = here refl
  offset_same (v ∷ w ∷ vs) = no_offset (reverse (v ∷ w ∷ vs)) (omega (arith, length-reverse (v ∷ w ∷ vs)))

  made_same : (f : List Val → Val) (vs : List Val) → Alike us (λ st. ends (Gives (f vs)) st) (λ st. ends (Gives (f (reverse (reverse vs)))) st)
  made_same f vs =
      alike us (λ st. ends (Gives (f vs)) st) (λ st. ends (Gives (f (reverse (reverse vs)))) st) (λ st. record { how = ap (λ ws. Gives (f ws)) (sym (reverse-reverse vs)); told = refl; behind = refl })

  called_same : (m : Method) (vs : List Val) → Alike us (given (applied m vs)) (given (method m (reverse vs)))
  called_same m vs = subst (λ a. Alike us (given (applied m vs)) (given a)) (applied_is m vs) (given_same us (applied m vs))

  changed_same : (m : Method) (vs : List Val) (put on : Val → State → Result) → ((v : Val) → Alike us (put v) (on v)) → Alike us (taken put (applied m vs)) (taken on (method m (reverse vs)))
  changed_same m vs put on h = subst (λ a. Alike us (taken put (applied m vs)) (taken on a)) (applied_is m vs) (taken_same us put on (applied m vs) h)

  -- an owner by the slot in which it is kept
  module _ (first : ℕ) (placed : length us ≡ first) where
    abbrev pub slot : Option ℕ → Option ℕ
    slot (Some s) = Some (first + s)
    slot None = None

    pub keep_same : (owner : Option ℕ) (a f go on : State → Result) → Alike us a f → Alike us go on → Alike us (keep_owner owner a go) (keep_owner (slot owner) f on)
    keep_same (Some l) a f go on h k = then_got R a f _ _ h (λ u st ts r. k (set_local l u st) (set_local (first + l) u ts) (ap (set_local (first + l) u) r ∙ slot_set us first l u st placed))
    keep_same None a f go on h k = k

    pub owner_same : (owner : Option ℕ) (a f : State → Result) → Alike us a f → Alike us (owner_means owner a) (owner_means (slot owner) f)
    owner_same (Some l) a f h = gives_slot us first l placed
    owner_same None a f h = h

  -- two ways to change a place agree where what puts a value there does
  abbrev pub SameChanges : Changes → Changes → Type 0
  SameChanges go on = (x : Val) (put also : Val → State → Result) → ((v : Val) → Alike us (put v) (also v)) → Alike us (go x put) (on x also)

  -- all of many values, and what is done with them
  abbrev pub SameAll : ((List Val → State → Result) → State → Result) → ((List Val → State → Result) → State → Result) → Type 0
  SameAll all each = (go on : List Val → State → Result) → ((vs : List Val) → Alike us (go vs) (on (reverse vs))) → Alike us (all go) (each on)

one_function : (o : Option Function) (x y : Function) → o ≡ Some x → o ≡ Some y → x ≡ y
one_function o x y e f = let q : Some x ≡ Some y = sym e ∙ f in cc

-- the arguments of a call of a function are as many as it has parameters
abbrev pub CallsAgree : List Val → List Function → (call also : ℕ → List Val → State → Result) → Type 0
CallsAgree us functions call also =
    (f : ℕ) (vs : List Val) → ((x : Function) → slice_get functions f ≡ Some x → length vs ≡ length x.parameters) → Alike us (call f vs) (also f (reverse vs))

module _ (globals : Globals) (functions : List Function) (around : Around) (layout : Layout) (us : List Val) (placed : Placed around layout us) (has : Bool) (there : has ≡ true → (v : Val) × (around.current ≡ Some v))
    (call also : ℕ → List Val → State → Result) (calls : CallsAgree us functions call also) where
  abbrev at : State → State → Type 0
  at = Framed us

  current_same : (o : Option Val) → ((v : Val) → o ≡ Some v → (st : State) → local_of (framed us st) layout.current ≡ v) → ((v : Val) × (o ≡ Some v))
      → Alike us (given_or o (ends Unfinished)) (λ st. ends (Gives (local_of st layout.current)) st)
  current_same (Some v) h k =
      alike us (given_or (Some v) (ends Unfinished)) (λ st. ends (Gives (local_of st layout.current)) st) (λ st. record { how = ap Gives (sym (h v refl st)); told = refl; behind = refl })
  current_same None h k = absurd (let e : None ≡ Some k.0 = k.1 in cc)

  leaf_same : (l : LeafOp) (t : Ty) → LeafStands has functions l → Alike us (leaf_means globals call around l t) (laid.leaf_means globals also layout l t)
  leaf_same (leaf_is.Constant n) t s = known_same at (slice_get globals.constants n) _ _ (λ o. known_same at o _ _ (λ v. at_once at (Gives v)))
  leaf_same (leaf_is.Current x) t s = current_same around.current placed.current (there s)
  leaf_same (leaf_is.Local l) t s = gives_slot us layout.first l placed.first
  leaf_same (leaf_is.Parameter n x) t s =
      alike us (leaf_means globals call around (leaf_is.Parameter n x) t) (laid.leaf_means globals also layout (leaf_is.Parameter n x) t)
      (λ st. record { how = ap Gives (sym (placed.parameters n st)); told = refl; behind = refl })
  leaf_same (leaf_is.Itself x) t s =
      alike us (leaf_means globals call around (leaf_is.Itself x) t) (laid.leaf_means globals also layout (leaf_is.Itself x) t) (λ st. here refl)
  leaf_same leaf_is.True t s = at_once at _
  leaf_same leaf_is.False t s = at_once at _
  leaf_same (leaf_is.Number n) t s = at_once at _
  leaf_same (leaf_is.TypedNumber n) t s = at_once at _
  leaf_same (leaf_is.Text x) t s = at_once at _
  leaf_same (leaf_is.Bytes b) t s = at_once at _
  leaf_same (leaf_is.Empty w) t s = at_once at _
  leaf_same (leaf_is.Label k l) t s = at_once at _
  leaf_same _ t s = nothing at

  -- all of so many values
  abbrev pub SameCounted : ℕ → ((List Val → State → Result) → State → Result) → ((List Val → State → Result) → State → Result) → Type 0
  SameCounted n all each = (go on : List Val → State → Result) → ((vs : List Val) → length vs ≡ n → Alike us (go vs) (on (reverse vs))) → Alike us (all go) (each on)

  many_same : (o : ManyOp) (of_self : Bool) (n : ℕ) (all each : (List Val → State → Result) → State → Result) (change other : State → Result) → CallStands has functions o n → SameCounted n all each → Alike us change other
      → Alike us (many_means globals call around o (offset_at_hand around of_self) all change) (laid.many_means globals also layout o (offset_local layout of_self) each other)
  many_same many_is.Tuple b n all each change other s h k = h _ _ (λ vs l. made_same us (λ ws. tuple (vals_of ws)) vs)
  many_same many_is.Vector b n all each change other s h k = h _ _ (λ vs l. made_same us (λ ws. vector (vals_of ws)) vs)
  many_same many_is.Set b n all each change other s h k = h _ _ (λ vs l. made_same us set_of vs)
  many_same many_is.Map b n all each change other s h k = h _ _ (λ vs l. made_same us map_of vs)
  many_same (many_is.Call f) b n all each change other s h k = h (call f) (also f) (λ vs l. calls f vs (λ x e. l ∙ s.2 ∙ ap (λ (x : Function). length x.parameters) (one_function (slice_get functions f) s.0 x s.1 e)))
  many_same (many_is.Convert n) b _ all each change other s h k = h _ _ (λ vs l. converted_same us n vs)
  many_same (many_is.Method m slot) b n all each change other s h k = chosen_same at (changes m) change other _ _ k (h _ _ (λ vs l. called_same us m vs))
  many_same (many_is.OfUnit unit_method.Offset span) b n all each change other s h k = placed.offset b _ _ (h _ _ (λ vs l. offset_same us vs))
  many_same _ b n all each change other s h k = nothing at

  abbrev means : Expr → State → Result
  means e = expr_means globals call around e

  abbrev too : Expr → State → Result
  too e = laid.expr_means globals also layout e

  abbrev kept : Option ℕ → Option ℕ
  kept owner = slot us layout.first placed.first owner

  owner_at : (owner : Option ℕ) → slot_local layout owner ≡ kept owner
  owner_at (Some s) = refl
  owner_at None = refl

  mutual
    pub expr_same : (e : Expr) → ExprStands has functions e → Alike us (expr_means globals call around e) (laid.expr_means globals also layout e)
    expr_same (leaf h) s = leaf_same h.op h.ty s
    expr_same (one h a) s = literal_same at (negative_literal h a) _ _ (then_got at (means a) (too a) _ _ (expr_same a s) (one_same us h.op h.ty))
    expr_same (two h a b) s = two_same us h.op (means a) (means b) (too a) (too b) (expr_same a s.0) (expr_same b s.1)
    expr_same (three h d a b) s = then_got at (means d) (too d) _ _ (expr_same d s.0) (λ x. chosen_same at _ (means a) (too a) (means b) (too b) (expr_same a s.1) (expr_same b s.2))
    expr_same (many h es) s =
        many_same h.op (is_self es) (how_many es) (all_got globals call around es []) (laid.all_got globals also layout es []) (receiver_means globals call around h.op es) (laid.receiver_means globals also layout h.op es)
        s.0 (λ go on k. all_same es [] [] (how_many es) refl (omega arith) go on k s.1) (receiver_same h.op es s.1)

    -- the values behind some of which the last is the first of the other text
    pub all_same : (es : Exprs) (vs ws : List Val) (n : ℕ) → ws ≡ reverse vs → length vs + how_many es ≡ n → (go on : List Val → State → Result)
        → ((vs : List Val) → length vs ≡ n → Alike us (go vs) (on (reverse vs))) → AllStand has functions es → Alike us (all_got globals call around es vs go) (laid.all_got globals also layout es ws on)
    all_same none vs ws n e l go on h s = subst (λ ws. Alike us (go vs) (on ws)) (sym e) (h vs (omega (arith, l)))
    all_same (more e es) vs ws n q l go on h s =
        then_got at (means e) (too e) _ _ (expr_same e s.0)
        (λ v. all_same es (vs ++ v ∷ []) (v ∷ ws) n (ap (λ us. v ∷ us) q ∙ sym (reverse-append vs (v ∷ []))) (omega (arith, l, length-append {A = Val})) go on h s.1)

    receiver_same : (o : ManyOp) (es : Exprs) → AllStand has functions es → Alike us (receiver_means globals call around o es) (laid.receiver_means globals also layout o es)
    receiver_same o none s = nothing at
    receiver_same o (more r es) s =
        known_same at (called_method o) _ _ (λ m.
        subst (λ owner. Alike us (place_means globals call around (slot_of_receiver o) r (λ x put. all_got globals call around es (x ∷ []) (λ vs. taken put (applied m vs))))
        (laid.place_means globals also layout owner r (λ x put. laid.all_got globals also layout es (x ∷ []) (λ vs. taken put (method m vs)))))
        (sym (owner_at (slot_of_receiver o)))
        (place_same (slot_of_receiver o) r _ _ (λ x put puts k. all_same es (x ∷ []) (x ∷ []) (1 + how_many es) refl refl _ _ (λ vs l. changed_same us m vs put puts k) s.1) s.0))

    pub place_same : (owner : Option ℕ) (e : Expr) (go on : Changes) → SameChanges us go on → ExprStands has functions e
        → Alike us (place_means globals call around owner e go) (laid.place_means globals also layout (kept owner) e on)
    place_same owner (leaf h) go on k s =
        known_same at (local_named h.op) _ _ (λ l st ts r.
        subst (λ ts. Agree at (go (local_of st l) (λ v st. ends Fine (set_local l v st)) st) (on (local_of ts (layout.first + l)) (λ v st. ends Fine (set_local (layout.first + l) v st)) ts)) (sym r)
        (subst (λ x. Agree at (go (local_of st l) (λ v st. ends Fine (set_local l v st)) st) (on x (λ v st. ends Fine (set_local (layout.first + l) v st)) (framed us st))) (sym (slot_of us layout.first l st placed.first))
        (k (local_of st l) _ _ (λ v. sets_slot us layout.first l v placed.first) st (framed us st) refl)))
    place_same owner (one h a) go on k s =
        known_same at (member_named h.op) _ _ (λ m. keep_same us layout.first placed.first owner (means a) (too a) _ _ (expr_same a s)
        (then_got at _ _ _ _ (owner_same us layout.first placed.first owner (means a) (too a) (expr_same a s)) (λ u.
        then_got at (λ st. value_or_unset (member_of st u m) st) (λ st. value_or_unset (member_of st u m) st) _ _ (member_same us m u) (λ x.
        k x _ _ (λ v. then_got at _ _ _ _ (owner_same us layout.first placed.first owner (means a) (too a) (expr_same a s)) (λ w. put_same us w m v))))))
    place_same owner (two h a b) go on k s =
        chosen_same at (is_item h.op) _ _ _ _
        (place_same owner a _ _ (λ d put puts l. then_got at (means b) (too b) _ _ (expr_same b s.1) (λ i.
        then_got at (answer (item_at d i)) (answer (item_at d i)) _ _ (answer_same us (item_at d i)) (λ x.
        k x _ _ (λ y. then_got at (answer (with_at d i y)) (answer (with_at d i y)) put puts (answer_same us (with_at d i y)) l)))) s.0)
        (nothing at)
    place_same owner (three h d a b) go on k s = nothing at
    place_same owner (many h es) go on k s = nothing at

  pub put_means_same : (owner : Option ℕ) (e : Expr) (x y : State → Result) → Alike us x y → ExprStands has functions e
      → Alike us (put_means globals call around owner e x) (laid_places.put_means globals also layout (slot_local layout owner) e y)
  put_means_same owner e x y k s = subst (λ o. Alike us (put_means globals call around owner e x) (laid_places.put_means globals also layout o e y)) (sym (owner_at owner)) (by_form e s)
    where
      by_form : (e : Expr) → ExprStands has functions e → Alike us (put_means globals call around owner e x) (laid_places.put_means globals also layout (kept owner) e y)
      by_form (leaf h) s = known_same at (local_named h.op) _ _ (λ l. then_got at x y _ _ k (λ v. sets_slot us layout.first l v placed.first))
      by_form (one h a) s =
          known_same at (member_named h.op) _ _ (λ m. keep_same us layout.first placed.first owner (means a) (too a) _ _ (expr_same a s)
          (then_got at x y _ _ k (λ v. then_got at _ _ _ _ (owner_same us layout.first placed.first owner (means a) (too a) (expr_same a s)) (λ u. put_same us u m v))))
      by_form (two h a b) s =
          chosen_same at (is_item h.op) _ _ _ _
          (place_same owner a _ _ (λ d put puts l. then_got at (means b) (too b) _ _ (expr_same b s.1) (λ i.
          then_got at x y _ _ k (λ v. then_got at (answer (with_at d i v)) (answer (with_at d i v)) put puts (answer_same us (with_at d i v)) l))) s.0)
          (nothing at)
      by_form (three h d a b) s = nothing at
      by_form (many h es) s = nothing at

  pub key_same : (owner : Option ℕ) (e : Expr) (change : Val → Val → Val) → ExprStands has functions e
      → Alike us (key_means globals call around owner e change) (laid_places.key_means globals also layout (slot_local layout owner) e change)
  key_same owner e change s = subst (λ o. Alike us (key_means globals call around owner e change) (laid_places.key_means globals also layout o e change)) (sym (owner_at owner)) (by_form e s)
    where
      by_form : (e : Expr) → ExprStands has functions e → Alike us (key_means globals call around owner e change) (laid_places.key_means globals also layout (kept owner) e change)
      by_form (two h a b) s =
          chosen_same at (is_item h.op) _ _ _ _ (place_same owner a _ _ (λ d put puts l. then_got at (means b) (too b) _ _ (expr_same b s.1) (λ i. l (change d i))) s.0) (nothing at)
      by_form (leaf h) s = nothing at
      by_form (one h a) s = nothing at
      by_form (three h d a b) s = nothing at
      by_form (many h es) s = nothing at

  -- and places that are read and then changed
  pub update_same : (owner : Option ℕ) (e : Expr) (go on : Changes) → SameChanges us go on → ExprStands has functions e
      → Alike us (place_means globals call around owner e go) (laid.place_means globals also layout (slot_local layout owner) e on)
  update_same owner e go on k s =
      subst (λ o. Alike us (place_means globals call around owner e go) (laid.place_means globals also layout o e on)) (sym (owner_at owner)) (place_same owner e go on k s)
