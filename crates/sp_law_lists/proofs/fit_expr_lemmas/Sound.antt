-- What passes fits, is built, has literals that fit, arguments that match, and changes places.
use Rattle.std.specs.Prelude.{◌&&◌, if◌then◌else◌, Option, Some, None, slice_get, is_some}
use Rattle.std.proofs.Common.{◌≡◌, ◌∙◌, ◌+◌, ℕ, Bool, true, false, [], refl, sym, subst}
use Rattle.std.proofs.lemmas.Bool.{and_parts}
use Rattle.sp_base.specs.declared.places.Span.{Span}
use Rattle.sp_words.specs.declared.methods.Method.{Method}
use Rattle.sp_words.specs.Methods.{changes}
use Rattle.sp_methods.specs.Kinds.{Kind, UnitOf}
use Rattle.sp_types.specs.Types.{Ty, same}
use Rattle.sp_typed.specs.declared.heads.Leaf.{Leaf}
use Rattle.sp_typed.specs.declared.heads.One.{One}
use Rattle.sp_typed.specs.declared.words.LeafOp.{LeafOp}
use Rattle.sp_typed.specs.declared.words.LeafOp.TheVariants as leaf_is
use Rattle.sp_typed.specs.declared.words.OneOp.{OneOp}
use Rattle.sp_typed.specs.declared.words.OneOp.TheVariants as one_is
use Rattle.sp_typed.specs.declared.words.TwoOp.{TwoOp}
use Rattle.sp_typed.specs.declared.words.TwoOp.TheVariants as two_is
use Rattle.sp_typed.specs.declared.words.ManyOp.{ManyOp}
use Rattle.sp_typed.specs.declared.words.ManyOp.TheVariants as many_is
use Rattle.sp_typed.specs.declared.words.UnitMethod.TheVariants as unit_method
use Rattle.sp_typed.specs.Exprs.{Expr, Exprs, leaf, one, two, three, many, none, more, type_of}
use Rattle.sp_meaning_states.specs.Types.{kind_of_type}
use Rattle.sp_meaning.specs.Operations.{negative, negative_literal, is_self, is_item, member_named, local_named}
use Rattle.sp_code_meaning.specs.Exprs.{offset_local, slot_local}
use Rattle.sp_code.specs.Machine.{Plain}
use Rattle.sp_code.specs.Shapes.{Shapes, IsMember}
use Rattle.sp_code_programs.specs.exprs.Code.{count, member_of, place_local, kinds_on}
use Rattle.sp_law_code.specs.exprs.Parts as expressions
use Rattle.sp_law_programs.specs.finished_bodies.Built.{IsThere, PartIsBuilt, PartsAreBuilt, ExprIsBuilt, AllAreBuilt, ReceiverIsBuilt, PlaceIsBuilt}
use Rattle.sp_lower_expr.specs.declared.rows.Row.TheVariants as row_is
use Rattle.sp_lower_expr.specs.Many.{row_of}
use Rattle.sp_lower_expr.specs.Literals.{number_behind, negative_number, NegativeFits, LeafFits, LiteralsFit, AllLiteralsFit, PlaceFits, ReceiverFits}
use Rattle.sp_law_meaning.specs.Standing.{LeafStands, CallStands, ExprStands, AllStand}
use Rattle.sp_law_programs.specs.program_laid.Places.{IsPlace, BeginsWithPlace, HasReceiver, ChangesPlaces, AllChangePlaces}
use Rattle.sp_law_lists.specs.fit_expr.Around.{Around, globals_in, locals_in}
use Rattle.sp_law_lists.specs.fit_expr.Sorts as sort_is
use Rattle.sp_law_lists.specs.fit_expr.Passes.{Tables, ExprPasses, ExprsPass, PlacePasses}
use Rattle.sp_law_lists.specs.fit_expr.Test.{is_sort, three_is, two_is_of, item_is, change_is, local_is, leaf_is_of, one_is_of, member_place, local_place, owner_is, one_or_literal, many_is_of, row_is_of, is_index, expr_passes, exprs_pass, change_passes, place_passes}
use Rattle.sp_law_lists.proofs.fit_expr_lemmas.OfSorts.{of_sort}
use Rattle.sp_law_lists.proofs.fit_expr_lemmas.OfTypes.{same_kind, local_kind}
use Rattle.sp_law_lists.proofs.fit_expr_lemmas.Leaves.{number_fits, number_has, leaf_built, leaf_literal, leaf_fits, member_fits}
use Rattle.sp_law_lists.proofs.fit_expr_lemmas.Forms.{item_fits, one_fits, two_fits, many_fits, change_fits, call_stands, function_there}

-- three tests in turn, and four
three_parts : (x y z : Bool) → (x && y && z) ≡ true → (x ≡ true) × (y ≡ true) × (z ≡ true)
three_parts x y z h =
    let b = and_parts (x && y) z h in
    let c = and_parts x y b.0 in
    (c.0, c.1, b.1)

four_parts : (x y z w : Bool) → (x && y && z && w) ≡ true → (x ≡ true) × (y ≡ true) × (z ≡ true) × (w ≡ true)
four_parts x y z w h =
    let b = and_parts (x && y && z) w h in
    let c = three_parts x y z b.0 in
    (c.0, c.1, c.2, b.1)

-- what is no method of the library
abbrev IsNoMethod : ManyOp → Type 0
IsNoMethod (many_is.Method m slot) = ⊥
IsNoMethod o = Unit {0}

module _ (around : Around) where
  -- a method changes its receiver, or it doesn't
  by_change : (m : Method) (slot : Option ℕ) (b : Bool) (kept : ℕ → Bool) (change : Method → Option ℕ → Bool) (values : Bool) (P : Type 0) →
      (b ≡ true → change m slot ≡ true → P) → (b ≡ false → values ≡ true → P) → row_is_of around (if b then row_is.Changes m slot else row_is.Values) kept change values ≡ true → P
  by_change m slot true kept change values P f g q = f refl q
  by_change m slot false kept change values P f g q = g refl q

  -- what holds of a node by what is done with its parts
  by_row : (o : ManyOp) (l : Option ℕ) (kept : ℕ → Bool) (change : Method → Option ℕ → Bool) (values : ManyOp → Bool) (P : ManyOp → Type 0) →
      ((at : Span) (n : ℕ) → l ≡ Some n → kept n ≡ true → P (many_is.OfUnit unit_method.Offset at)) →
      ((m : Method) (slot : Option ℕ) → changes m ≡ true → change m slot ≡ true → P (many_is.Method m slot)) →
      ((m : Method) (slot : Option ℕ) → changes m ≡ false → values (many_is.Method m slot) ≡ true → P (many_is.Method m slot)) →
      ((o : ManyOp) → row_of o l ≡ row_is.Values → IsNoMethod o → values o ≡ true → P o) →
      row_is_of around (row_of o l) kept change (values o) ≡ true → P o
  by_row (many_is.OfUnit unit_method.Offset at) (Some n) kept change values P f g h k q = f at n refl q
  by_row (many_is.OfUnit unit_method.Offset at) None kept change values P f g h k q = k (many_is.OfUnit unit_method.Offset at) refl tt q
  by_row (many_is.Method m slot) l kept change values P f g h k q =
      by_change m slot (changes m) kept change (values (many_is.Method m slot)) (P (many_is.Method m slot)) (g m slot) (h m slot) q
  by_row (many_is.OfUnit w at) l kept change values P f g h k q = k (many_is.OfUnit w at) refl tt q
  by_row o l kept change values P f g h k q = k o refl tt q

  abbrev kept_row : Ty → Exprs → ℕ → Bool
  kept_row t es n = exprs_pass around es && local_is around n t

  abbrev change_row : Ty → Exprs → Method → Option ℕ → Bool
  change_row t es m slot = change_passes around m slot t es

  abbrev values_row : Ty → Exprs → ManyOp → Bool
  values_row t es o = exprs_pass around es && many_is_of around o es t

  -- a place that is a member, or a local
  member_named_is : (o : OneOp) (a t : Ty) → member_place around o a t ≡ true → IsThere (member_named o)
  member_named_is (one_is.Field m) a t h = tt
  member_named_is (one_is.Variable m) a t h = tt
  member_named_is _ a t h = absurd (let z : false ≡ true = h in cc)

  local_named_is : (o : LeafOp) (t : Ty) → local_place around o t ≡ true → IsThere (local_named o)
  local_named_is (leaf_is.Local l) t h = tt
  local_named_is _ t h = absurd (let z : false ≡ true = h in cc)

  item_named_is : (o : TwoOp) → is_index o ≡ true → is_item o ≡ true
  item_named_is two_is.Index h = refl
  item_named_is _ h = absurd (let z : false ≡ true = h in cc)

  -- no member is named by a minus sign
  no_negative : (h : One) (a : Expr) (t : Ty) → member_place around h.op (type_of a) t ≡ true → negative_number h a ≡ None
  no_negative h (leaf i) t q = not_behind h.op i.op (type_of (leaf i)) t q
    where
      not_behind : (o : OneOp) (l : LeafOp) (a t : Ty) → member_place around o a t ≡ true → number_behind o l ≡ None
      not_behind one_is.Negate l a t q = absurd (let z : false ≡ true = q in cc)
      not_behind _ l a t q = refl
  no_negative h (one i a) t q = refl
  no_negative h (two i a b) t q = refl
  no_negative h (three i c a b) t q = refl
  no_negative h (many i es) t q = refl

  -- What holds of a part, which is a number where a minus sign makes it one of a literal.
  by_literal : (h : One) (a : Expr) (x : Bool) (P : Expr → Type 0) → ((i : Leaf) (n : ℕ) → i.op ≡ leaf_is.Number n → P (leaf i)) → (x ≡ true → P a) → one_or_literal around (negative_number h a) h.ty x ≡ true → P a
  by_literal h (leaf i) x P f g q = behind h.op i.op h.ty (P (leaf i)) (f i) g q
    where
      behind : (o : OneOp) (l : LeafOp) (t : Ty) (A : Type 0) → ((n : ℕ) → l ≡ leaf_is.Number n → A) → (x ≡ true → A) → one_or_literal around (number_behind o l) t x ≡ true → A
      behind one_is.Negate (leaf_is.Number n) t A f g q = f n refl
      behind one_is.Negate _ t A f g q = g q
      behind _ l t A f g q = g q
  by_literal h (one i a) x P f g q = g q
  by_literal h (two i a b) x P f g q = g q
  by_literal h (three i c a b) x P f g q = g q
  by_literal h (many i es) x P f g q = g q

  -- each is built
  part_built : (o : TwoOp) (B : Type 0) → B → PartIsBuilt o B
  part_built (two_is.Item n) B b = tt
  part_built (two_is.Binary o) B b = b
  part_built two_is.Index B b = b

  parts_built : (o : ManyOp) (es : Exprs) (t : Ty) (V R : Type 0) → IsNoMethod o → many_is_of around o es t ≡ true → V → PartsAreBuilt around.list.functions o V R
  parts_built (many_is.Call f) es t V R apart h v = (function_there around f es t h, v)
  parts_built (many_is.Method m slot) es t V R apart h v = absurd apart
  parts_built _ es t V R apart h v = v

  mutual
    pub expr_built : (e : Expr) → expr_passes around e ≡ true → ExprIsBuilt (globals_in around) around.list.functions e
    expr_built (leaf h) q = leaf_built around h.op h.ty q
    expr_built (one h a) q =
        by_literal
        h
        a
        (expr_passes around a && one_is_of around h.op (type_of a) h.ty)
        (λ (e : Expr). ExprIsBuilt (globals_in around) around.list.functions e)
        (λ i n is. rw is tt)
        (λ r. expr_built a (and_parts (expr_passes around a) (one_is_of around h.op (type_of a) h.ty) r).0)
        q
    expr_built (two h a b) q =
        let x = three_parts (expr_passes around a) (expr_passes around b) (two_is_of h.op (type_of a) (type_of b) h.ty) q in
        (expr_built a x.0, part_built h.op (ExprIsBuilt (globals_in around) around.list.functions b) (expr_built b x.1))
    expr_built (three h c a b) q =
        let x = four_parts (expr_passes around c) (expr_passes around a) (expr_passes around b) (three_is (type_of c) (type_of a) (type_of b) h.ty) q in
        (expr_built c x.0, expr_built a x.1, expr_built b x.2)
    expr_built (many h es) q =
        by_row
        h.op
        (offset_local around.places (is_self es))
        (kept_row h.ty es)
        (change_row h.ty es)
        (values_row h.ty es)
        (λ (o : ManyOp). PartsAreBuilt around.list.functions o (AllAreBuilt (globals_in around) around.list.functions es) (ReceiverIsBuilt (globals_in around) around.list.functions es))
        (λ at n is r. all_built es (and_parts (exprs_pass around es) (local_is around n h.ty) r).0)
        (λ m slot c r. rw c (receiver_built m slot h.ty es r))
        (λ m slot c r. rw c (all_built es (and_parts (exprs_pass around es) (many_is_of around (many_is.Method m slot) es h.ty) r).0))
        (λ o is apart r.
        let x = and_parts (exprs_pass around es) (many_is_of around o es h.ty) r in
        parts_built o es h.ty (AllAreBuilt (globals_in around) around.list.functions es) (ReceiverIsBuilt (globals_in around) around.list.functions es) apart x.1 (all_built es x.0))
        q

    pub all_built : (es : Exprs) → exprs_pass around es ≡ true → AllAreBuilt (globals_in around) around.list.functions es
    all_built none q = tt
    all_built (more e es) q =
        let x = and_parts (expr_passes around e) (exprs_pass around es) q in
        (expr_built e x.0, all_built es x.1)

    receiver_built : (m : Method) (slot : Option ℕ) (t : Ty) (es : Exprs) → change_passes around m slot t es ≡ true → ReceiverIsBuilt (globals_in around) around.list.functions es
    receiver_built m slot t none q = absurd (let z : false ≡ true = q in cc)
    receiver_built m slot t (more r es) q =
        let x = three_parts (place_passes around (slot_local around.places slot) r) (exprs_pass around es) (change_is m (type_of r) es t) q in
        (place_built (slot_local around.places slot) r x.0, all_built es x.1)

    pub place_built : (owner : Option ℕ) (e : Expr) → place_passes around owner e ≡ true → PlaceIsBuilt (globals_in around) around.list.functions e
    place_built owner (leaf h) q = local_named_is h.op h.ty q
    place_built owner (one h a) q =
        let x = three_parts (expr_passes around a) (owner_is around owner (type_of a)) (member_place around h.op (type_of a) h.ty) q in
        (member_named_is h.op (type_of a) h.ty x.2, expr_built a x.0)
    place_built owner (two h a b) q =
        let x = four_parts (place_passes around owner a) (expr_passes around b) (is_index h.op) (item_is (type_of a) (type_of b) h.ty) q in
        (item_named_is h.op x.2, place_built owner a x.0, expr_built b x.1)
    place_built owner (three h c a b) q = absurd (let z : false ≡ true = q in cc)
    place_built owner (many h es) q = absurd (let z : false ≡ true = q in cc)

  -- the literals of each fit
  negative_fits : (o : Option ℕ) (t : Ty) (x : Bool) (A : Type 0) → (x ≡ true → A) → one_or_literal around o t x ≡ true → NegativeFits o t A
  negative_fits (Some n) t x A f q = number_fits t true n q
  negative_fits None t x A f q = f q

  -- the first of several is a place whose literals fit
  abbrev BeginsFitting : Exprs → Type 0
  BeginsFitting none = ⊥
  BeginsFitting (more r es) = PlaceFits r

  changing_literals : (m : Method) (slot : Option ℕ) (es : Exprs) → changes m ≡ true → BeginsFitting es → ReceiverFits (many_is.Method m slot) es
  changing_literals m slot none c f = tt
  changing_literals m slot (more r es) c f = rw c f

  still_literals : (m : Method) (slot : Option ℕ) (es : Exprs) → changes m ≡ false → ReceiverFits (many_is.Method m slot) es
  still_literals m slot none c = tt
  still_literals m slot (more r es) c = rw c tt

  local_literal : (o : LeafOp) (t : Ty) → local_place around o t ≡ true → LeafFits o t
  local_literal (leaf_is.Local l) t q = tt
  local_literal _ t q = absurd (let z : false ≡ true = q in cc)

  no_receiver : (o : ManyOp) (es : Exprs) → IsNoMethod o → ReceiverFits o es
  no_receiver o none apart = tt
  no_receiver (many_is.Method m slot) (more r es) apart = absurd apart
  no_receiver _ (more r es) apart = tt

  mutual
    pub expr_literals : (e : Expr) → expr_passes around e ≡ true → LiteralsFit e
    expr_literals (leaf h) q = leaf_literal around h.op h.ty q
    expr_literals (one h a) q =
        negative_fits
        (negative_number h a)
        h.ty
        (expr_passes around a && one_is_of around h.op (type_of a) h.ty)
        (LiteralsFit a)
        (λ r. expr_literals a (and_parts (expr_passes around a) (one_is_of around h.op (type_of a) h.ty) r).0)
        q
    expr_literals (two h a b) q =
        let x = three_parts (expr_passes around a) (expr_passes around b) (two_is_of h.op (type_of a) (type_of b) h.ty) q in
        (expr_literals a x.0, expr_literals b x.1)
    expr_literals (three h c a b) q =
        let x = four_parts (expr_passes around c) (expr_passes around a) (expr_passes around b) (three_is (type_of c) (type_of a) (type_of b) h.ty) q in
        (expr_literals c x.0, expr_literals a x.1, expr_literals b x.2)
    expr_literals (many h es) q =
        by_row
        h.op
        (offset_local around.places (is_self es))
        (kept_row h.ty es)
        (change_row h.ty es)
        (values_row h.ty es)
        (λ (o : ManyOp). AllLiteralsFit es × ReceiverFits o es)
        (λ at n is r. (all_literals es (and_parts (exprs_pass around es) (local_is around n h.ty) r).0, no_receiver (many_is.OfUnit unit_method.Offset at) es tt))
        (λ m slot c r.
        let x = receiver_literals m slot h.ty es r in
        (x.0, changing_literals m slot es c x.1))
        (λ m slot c r. (all_literals es (and_parts (exprs_pass around es) (many_is_of around (many_is.Method m slot) es h.ty) r).0, still_literals m slot es c))
        (λ o is apart r. (all_literals es (and_parts (exprs_pass around es) (many_is_of around o es h.ty) r).0, no_receiver o es apart))
        q

    pub all_literals : (es : Exprs) → exprs_pass around es ≡ true → AllLiteralsFit es
    all_literals none q = tt
    all_literals (more e es) q =
        let x = and_parts (expr_passes around e) (exprs_pass around es) q in
        (expr_literals e x.0, all_literals es x.1)

    receiver_literals : (m : Method) (slot : Option ℕ) (t : Ty) (es : Exprs) → change_passes around m slot t es ≡ true → AllLiteralsFit es × BeginsFitting es
    receiver_literals m slot t none q = absurd (let z : false ≡ true = q in cc)
    receiver_literals m slot t (more r es) q =
        let x = three_parts (place_passes around (slot_local around.places slot) r) (exprs_pass around es) (change_is m (type_of r) es t) q in
        let y = place_literals (slot_local around.places slot) r x.0 in
        ((y.1, all_literals es x.1), y.0)

    -- a place is also evaluated
    pub place_literals : (owner : Option ℕ) (e : Expr) → place_passes around owner e ≡ true → PlaceFits e × LiteralsFit e
    place_literals owner (leaf h) q = (tt, local_literal h.op h.ty q)
    place_literals owner (one h a) q =
        let x = three_parts (expr_passes around a) (owner_is around owner (type_of a)) (member_place around h.op (type_of a) h.ty) q in
        let y = expr_literals a x.0 in
        (y, rw (no_negative h a h.ty x.2) y)
    place_literals owner (two h a b) q =
        let x = four_parts (place_passes around owner a) (expr_passes around b) (is_index h.op) (item_is (type_of a) (type_of b) h.ty) q in
        let y = place_literals owner a x.0 in
        let z = expr_literals b x.1 in
        ((y.0, z), (y.1, z))
    place_literals owner (three h c a b) q = absurd (let z : false ≡ true = q in cc)
    place_literals owner (many h es) q = absurd (let z : false ≡ true = q in cc)

  leaf_stands : (op : LeafOp) (t : Ty) → leaf_is_of around op t ≡ true → LeafStands (is_some around.places.offset) around.list.functions op
  leaf_stands (leaf_is.Current s) t q = (and_parts (is_some around.places.offset) (local_is around around.places.current t) q).0
  leaf_stands _ t q = tt

  local_stands : (op : LeafOp) (t : Ty) → local_place around op t ≡ true → LeafStands (is_some around.places.offset) around.list.functions op
  local_stands (leaf_is.Local l) t q = tt
  local_stands _ t q = absurd (let z : false ≡ true = q in cc)

  -- calls have as many arguments as parameters, and `$$` stands where there is one
  mutual
    pub expr_stands : (e : Expr) → expr_passes around e ≡ true → ExprStands (is_some around.places.offset) around.list.functions e
    expr_stands (leaf h) q = leaf_stands h.op h.ty q
    expr_stands (one h a) q =
        by_literal
        h
        a
        (expr_passes around a && one_is_of around h.op (type_of a) h.ty)
        (λ (e : Expr). ExprStands (is_some around.places.offset) around.list.functions e)
        (λ i n is. subst (LeafStands (is_some around.places.offset) around.list.functions) (sym is) tt)
        (λ r. expr_stands a (and_parts (expr_passes around a) (one_is_of around h.op (type_of a) h.ty) r).0)
        q
    expr_stands (two h a b) q =
        let x = three_parts (expr_passes around a) (expr_passes around b) (two_is_of h.op (type_of a) (type_of b) h.ty) q in
        (expr_stands a x.0, expr_stands b x.1)
    expr_stands (three h c a b) q =
        let x = four_parts (expr_passes around c) (expr_passes around a) (expr_passes around b) (three_is (type_of c) (type_of a) (type_of b) h.ty) q in
        (expr_stands c x.0, expr_stands a x.1, expr_stands b x.2)
    expr_stands (many h es) q =
        by_row
        h.op
        (offset_local around.places (is_self es))
        (kept_row h.ty es)
        (change_row h.ty es)
        (values_row h.ty es)
        (λ (o : ManyOp). CallStands (is_some around.places.offset) around.list.functions o (count es) × AllStand (is_some around.places.offset) around.list.functions es)
        (λ at n is r. (tt, all_stand es (and_parts (exprs_pass around es) (local_is around n h.ty) r).0))
        (λ m slot c r. (tt, receiver_stands m slot h.ty es r))
        (λ m slot c r. (tt, all_stand es (and_parts (exprs_pass around es) (many_is_of around (many_is.Method m slot) es h.ty) r).0))
        (λ o is apart r.
        let x = and_parts (exprs_pass around es) (many_is_of around o es h.ty) r in
        (call_stands around o es h.ty x.1, all_stand es x.0))
        q

    pub all_stand : (es : Exprs) → exprs_pass around es ≡ true → AllStand (is_some around.places.offset) around.list.functions es
    all_stand none q = tt
    all_stand (more e es) q =
        let x = and_parts (expr_passes around e) (exprs_pass around es) q in
        (expr_stands e x.0, all_stand es x.1)

    receiver_stands : (m : Method) (slot : Option ℕ) (t : Ty) (es : Exprs) → change_passes around m slot t es ≡ true → AllStand (is_some around.places.offset) around.list.functions es
    receiver_stands m slot t none q = absurd (let z : false ≡ true = q in cc)
    receiver_stands m slot t (more r es) q =
        let x = three_parts (place_passes around (slot_local around.places slot) r) (exprs_pass around es) (change_is m (type_of r) es t) q in
        (place_stands (slot_local around.places slot) r x.0, all_stand es x.1)

    pub place_stands : (owner : Option ℕ) (e : Expr) → place_passes around owner e ≡ true → ExprStands (is_some around.places.offset) around.list.functions e
    place_stands owner (leaf h) q = local_stands h.op h.ty q
    place_stands owner (one h a) q =
        expr_stands a (three_parts (expr_passes around a) (owner_is around owner (type_of a)) (member_place around h.op (type_of a) h.ty) q).0
    place_stands owner (two h a b) q =
        let x = four_parts (place_passes around owner a) (expr_passes around b) (is_index h.op) (item_is (type_of a) (type_of b) h.ty) q in
        (place_stands owner a x.0, expr_stands b x.1)
    place_stands owner (three h c a b) q = absurd (let z : false ≡ true = q in cc)
    place_stands owner (many h es) q = absurd (let z : false ≡ true = q in cc)

  -- a place that passes is one
  pub is_place : (owner : Option ℕ) (e : Expr) → place_passes around owner e ≡ true → IsPlace e
  is_place owner (leaf h) q = tt
  is_place owner (one h a) q = tt
  is_place owner (two h a b) q =
      is_place owner a (four_parts (place_passes around owner a) (expr_passes around b) (is_index h.op) (item_is (type_of a) (type_of b) h.ty) q).0
  is_place owner (three h c a b) q = absurd (let z : false ≡ true = q in cc)
  is_place owner (many h es) q = absurd (let z : false ≡ true = q in cc)

  begins_with_place : (m : Method) (slot : Option ℕ) (t : Ty) (es : Exprs) → change_passes around m slot t es ≡ true → BeginsWithPlace es
  begins_with_place m slot t none q = absurd (let z : false ≡ true = q in cc)
  begins_with_place m slot t (more r es) q =
      is_place
      (slot_local around.places slot)
      r
      (three_parts (place_passes around (slot_local around.places slot) r) (exprs_pass around es) (change_is m (type_of r) es t) q).0

  has_no_receiver : (o : ManyOp) (es : Exprs) → IsNoMethod o → HasReceiver o es
  has_no_receiver (many_is.Method m slot) es apart = absurd apart
  has_no_receiver _ es apart = tt

  -- what is changed is a place
  mutual
    pub expr_places : (e : Expr) → expr_passes around e ≡ true → ChangesPlaces e
    expr_places (leaf h) q = tt
    expr_places (one h a) q =
        by_literal
        h
        a
        (expr_passes around a && one_is_of around h.op (type_of a) h.ty)
        (λ (e : Expr). ChangesPlaces e)
        (λ i n is. tt)
        (λ r. expr_places a (and_parts (expr_passes around a) (one_is_of around h.op (type_of a) h.ty) r).0)
        q
    expr_places (two h a b) q =
        let x = three_parts (expr_passes around a) (expr_passes around b) (two_is_of h.op (type_of a) (type_of b) h.ty) q in
        (expr_places a x.0, expr_places b x.1)
    expr_places (three h c a b) q =
        let x = four_parts (expr_passes around c) (expr_passes around a) (expr_passes around b) (three_is (type_of c) (type_of a) (type_of b) h.ty) q in
        (expr_places c x.0, expr_places a x.1, expr_places b x.2)
    expr_places (many h es) q =
        by_row
        h.op
        (offset_local around.places (is_self es))
        (kept_row h.ty es)
        (change_row h.ty es)
        (values_row h.ty es)
        (λ (o : ManyOp). HasReceiver o es × AllChangePlaces es)
        (λ at n is r. (tt, all_places es (and_parts (exprs_pass around es) (local_is around n h.ty) r).0))
        (λ m slot c r. ((λ x. begins_with_place m slot h.ty es r), receiver_places m slot h.ty es r))
        (λ m slot c r.
        ((λ x. absurd (let z : false ≡ true = sym c ∙ x in cc)), all_places es (and_parts (exprs_pass around es) (many_is_of around (many_is.Method m slot) es h.ty) r).0))
        (λ o is apart r. (has_no_receiver o es apart, all_places es (and_parts (exprs_pass around es) (many_is_of around o es h.ty) r).0))
        q

    pub all_places : (es : Exprs) → exprs_pass around es ≡ true → AllChangePlaces es
    all_places none q = tt
    all_places (more e es) q =
        let x = and_parts (expr_passes around e) (exprs_pass around es) q in
        (expr_places e x.0, all_places es x.1)

    receiver_places : (m : Method) (slot : Option ℕ) (t : Ty) (es : Exprs) → change_passes around m slot t es ≡ true → AllChangePlaces es
    receiver_places m slot t none q = absurd (let z : false ≡ true = q in cc)
    receiver_places m slot t (more r es) q =
        let x = three_parts (place_passes around (slot_local around.places slot) r) (exprs_pass around es) (change_is m (type_of r) es t) q in
        (place_places (slot_local around.places slot) r x.0, all_places es x.1)

    pub place_places : (owner : Option ℕ) (e : Expr) → place_passes around owner e ≡ true → ChangesPlaces e
    place_places owner (leaf h) q = tt
    place_places owner (one h a) q =
        expr_places a (three_parts (expr_passes around a) (owner_is around owner (type_of a)) (member_place around h.op (type_of a) h.ty) q).0
    place_places owner (two h a b) q =
        let x = four_parts (place_passes around owner a) (expr_passes around b) (is_index h.op) (item_is (type_of a) (type_of b) h.ty) q in
        (place_places owner a x.0, expr_places b x.1)
    place_places owner (three h c a b) q = absurd (let z : false ≡ true = q in cc)
    place_places owner (many h es) q = absurd (let z : false ≡ true = q in cc)

  -- parts are of the kinds that are asked
  module _ (p : Plain) (shapes : Shapes) (tables : Tables around.list p shapes) where
    abbrev kind : Ty → Kind
    kind t = kind_of_type (globals_in around).ranges t

    abbrev IsKept : Option ℕ → Kind → Type 0
    IsKept o k = expressions.IsKept p shapes (globals_in around) around.places (locals_in around) around.unit o k

    owner_fits : (o : Option ℕ) (a : Ty) → owner_is around o a ≡ true → IsKept o (kind a)
    owner_fits (Some l) a q = local_kind (globals_in around).ranges around.locals l a q
    owner_fits None a q = tt

    local_fits : (o : LeafOp) (t : Ty) → local_place around o t ≡ true → slice_get (locals_in around) (place_local (globals_in around) around.places o) ≡ Some (kind t)
    local_fits (leaf_is.Local l) t q = local_kind (globals_in around).ranges around.locals (around.places.first + l) t q
    local_fits _ t q = absurd (let z : false ≡ true = q in cc)

    named_fits : (o : OneOp) (a t : Ty) → member_place around o a t ≡ true → (u : ℕ) × (kind a ≡ UnitOf u) × IsMember p shapes u (member_of o) (kind t)
    named_fits (one_is.Field m) a t q = member_fits around p shapes tables a m t q
    named_fits (one_is.Variable m) a t q = member_fits around p shapes tables a m t q
    named_fits _ a t q = absurd (let z : false ≡ true = q in cc)

    -- a literal with a minus sign, or what else stands there
    literal_fits : (h : One) (a : Expr) (x : Bool) (A : Type 0) → (x ≡ true → A) → one_or_literal around (negative_number h a) h.ty x ≡ true →
        expressions.UnlessLiteral p shapes (globals_in around) around.places (locals_in around) around.unit (negative_literal h a) (kind h.ty) A
    literal_fits h (leaf i) x A f q = behind h.op i.op h.ty f q
      where
        behind : (o : OneOp) (l : LeafOp) (t : Ty) → (x ≡ true → A) → one_or_literal around (number_behind o l) t x ≡ true →
            expressions.UnlessLiteral p shapes (globals_in around) around.places (locals_in around) around.unit (negative o l t) (kind t) A
        behind one_is.Negate (leaf_is.Number n) t f q = λ units. number_has (globals_in around).ranges units t true n q
        behind one_is.Negate _ t f q = f q
        behind _ l t f q = f q
    literal_fits h (one i a) x A f q = f q
    literal_fits h (two i a b) x A f q = f q
    literal_fits h (three i c a b) x A f q = f q
    literal_fits h (many i es) x A f q = f q

    demands_values : (o : ManyOp) (l : Option ℕ) (K : ℕ → Type 0) (C M : Type 0) → row_of o l ≡ row_is.Values → IsNoMethod o → M → expressions.Demands p shapes o l K C M
    demands_values (many_is.OfUnit unit_method.Offset at) (Some n) K C M is apart made = absurd (let z : row_is.Kept n ≡ row_is.Values = is in cc)
    demands_values (many_is.OfUnit unit_method.Offset at) None K C M is apart made = made
    demands_values (many_is.Method m slot) l K C M is apart made = absurd apart
    demands_values (many_is.OfUnit w at) l K C M is apart made = made
    demands_values _ l K C M is apart made = made

    mutual
      pub expr_fits : (e : Expr) → expr_passes around e ≡ true → expressions.Fits p shapes (globals_in around) around.places (locals_in around) around.unit e
      expr_fits (leaf h) q = leaf_fits around p shapes tables h.op h.ty q
      expr_fits (one h a) q =
          literal_fits
          h
          a
          (expr_passes around a && one_is_of around h.op (type_of a) h.ty)
          (expressions.Fits p shapes (globals_in around) around.places (locals_in around) around.unit a × expressions.OneFits p shapes h.op (kind (type_of a)) h.ty (kind h.ty))
          (λ r.
          let x = and_parts (expr_passes around a) (one_is_of around h.op (type_of a) h.ty) r in
          (expr_fits a x.0, one_fits around p shapes tables h.op (type_of a) h.ty x.1))
          q
      expr_fits (two h a b) q =
          let x = three_parts (expr_passes around a) (expr_passes around b) (two_is_of h.op (type_of a) (type_of b) h.ty) q in (
            expr_fits a x.0,
            two_fits
                around
                p
                shapes
                tables
                h.op
                (type_of a)
                (type_of b)
                h.ty
                (expressions.Fits p shapes (globals_in around) around.places (locals_in around) around.unit b)
                (expr_fits b x.1)
                x.2,
          )
      expr_fits (three h c a b) q =
          let x = four_parts (expr_passes around c) (expr_passes around a) (expr_passes around b) (three_is (type_of c) (type_of a) (type_of b) h.ty) q in
          let y = three_parts (is_sort (type_of c) sort_is.Bools) (same (type_of a) h.ty) (same (type_of b) h.ty) x.3 in (
            expr_fits c x.0,
            expr_fits a x.1,
            expr_fits b x.2,
            of_sort (globals_in around).ranges (type_of c) sort_is.Bools y.0,
            same_kind (globals_in around).ranges (type_of a) h.ty y.1,
            same_kind (globals_in around).ranges (type_of b) h.ty y.2,
          )
      expr_fits (many h es) q =
          by_row
          h.op
          (offset_local around.places (is_self es))
          (kept_row h.ty es)
          (change_row h.ty es)
          (values_row h.ty es)
          (λ (o : ManyOp).
          expressions.Demands
          p
          shapes
          o
          (offset_local around.places (is_self es))
          (λ l. expressions.IsLocal p shapes (globals_in around) around.places (locals_in around) around.unit l (kind h.ty))
          (expressions.ReceiverFits p shapes (globals_in around) around.places (locals_in around) around.unit o (kind h.ty) es)
          (expressions.AllFit p shapes (globals_in around) around.places (locals_in around) around.unit es
          × expressions.ManyFits p shapes o (count es) (kinds_on (globals_in around) around.places es []) (kind h.ty)))
          (λ at n is r. rw is (local_kind (globals_in around).ranges around.locals n h.ty (and_parts (exprs_pass around es) (local_is around n h.ty) r).1))
          (λ m slot c r. rw c (receiver_fits m slot h.ty es r))
          (λ m slot c r.
          let x = and_parts (exprs_pass around es) (many_is_of around (many_is.Method m slot) es h.ty) r in
          rw c (all_fit es x.0, many_fits around p shapes tables (many_is.Method m slot) es h.ty x.1))
          (λ o is apart r.
          let x = and_parts (exprs_pass around es) (many_is_of around o es h.ty) r in
          demands_values
          o
          (offset_local around.places (is_self es))
          (λ l. expressions.IsLocal p shapes (globals_in around) around.places (locals_in around) around.unit l (kind h.ty))
          (expressions.ReceiverFits p shapes (globals_in around) around.places (locals_in around) around.unit o (kind h.ty) es)
          (expressions.AllFit p shapes (globals_in around) around.places (locals_in around) around.unit es
          × expressions.ManyFits p shapes o (count es) (kinds_on (globals_in around) around.places es []) (kind h.ty))
          is
          apart
          (all_fit es x.0, many_fits around p shapes tables o es h.ty x.1))
          q

      pub all_fit : (es : Exprs) → exprs_pass around es ≡ true → expressions.AllFit p shapes (globals_in around) around.places (locals_in around) around.unit es
      all_fit none q = tt
      all_fit (more e es) q =
          let x = and_parts (expr_passes around e) (exprs_pass around es) q in
          (expr_fits e x.0, all_fit es x.1)

      receiver_fits : (m : Method) (slot : Option ℕ) (t : Ty) (es : Exprs) → change_passes around m slot t es ≡ true →
          expressions.ReceiverFits p shapes (globals_in around) around.places (locals_in around) around.unit (many_is.Method m slot) (kind t) es
      receiver_fits m slot t none q = absurd (let z : false ≡ true = q in cc)
      receiver_fits m slot t (more r es) q =
          let x = three_parts (place_passes around (slot_local around.places slot) r) (exprs_pass around es) (change_is m (type_of r) es t) q in
          (place_fits (slot_local around.places slot) r x.0, all_fit es x.1, change_fits around p shapes m slot r es t x.2)

      pub place_fits : (owner : Option ℕ) (e : Expr) → place_passes around owner e ≡ true → expressions.PlaceFits p shapes (globals_in around) around.places (locals_in around) around.unit owner e
      place_fits owner (leaf h) q = local_fits h.op h.ty q
      place_fits owner (one h a) q =
          let x = three_parts (expr_passes around a) (owner_is around owner (type_of a)) (member_place around h.op (type_of a) h.ty) q in
          (expr_fits a x.0, owner_fits owner (type_of a) x.1, named_fits h.op (type_of a) h.ty x.2)
      place_fits owner (two h a b) q =
          let x = four_parts (place_passes around owner a) (expr_passes around b) (is_index h.op) (item_is (type_of a) (type_of b) h.ty) q in
          (place_fits owner a x.0, expr_fits b x.1, item_fits (globals_in around).ranges (type_of a) (type_of b) h.ty x.3)
      place_fits owner (three h c a b) q = absurd (let z : false ≡ true = q in cc)
      place_fits owner (many h es) q = absurd (let z : false ≡ true = q in cc)

  -- all of it
  pub expr_sound : (e : Expr) → expr_passes around e ≡ true → ExprPasses around.list around.places (locals_in around) around.unit e
  expr_sound e q =
      record {
        fits = λ p shapes tables. expr_fits p shapes tables e q;
        built = expr_built e q;
        literals = expr_literals e q;
        stands = expr_stands e q;
        places = expr_places e q;
      }

  pub exprs_sound : (es : Exprs) → exprs_pass around es ≡ true → ExprsPass around.list around.places (locals_in around) around.unit es
  exprs_sound es q =
      record {
        fits = λ p shapes tables. all_fit p shapes tables es q;
        built = all_built es q;
        literals = all_literals es q;
        stands = all_stand es q;
        places = all_places es q;
      }

  pub place_sound : (owner : Option ℕ) (e : Expr) → place_passes around owner e ≡ true → PlacePasses around.list around.places (locals_in around) around.unit owner e
  place_sound owner e q =
      let both = place_literals owner e q in
      record {
        fits = λ p shapes tables. place_fits p shapes tables owner e q;
        built = place_built owner e q;
        literals = both.0;
        all_literals = both.1;
        stands = place_stands owner e q;
        places = place_places owner e q;
        place = is_place owner e q;
      }
