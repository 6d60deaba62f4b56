-- What is kept in slots is made as it was, and each slot that it has is of the type of its owner.
use Rattle.std.specs.Prelude.{ℕ, ◌+◌, zero, suc, Bool, true, false, not, ◌&&◌, if◌then◌else◌, List, [], ◌∷◌, ◌++◌, map, length, Option, Some, None, slice_get}
use Rattle.std.proofs.Common.{◌≡◌, refl, sym, ap, ◌∙◌}
use Rattle.std.proofs.lemmas.Bool.{and_from}
use Rattle.sp_words.specs.declared.methods.Method.{Method}
use Rattle.sp_words.specs.declared.operators.UnaryOp.TheVariants as unary_is
use Rattle.sp_words.specs.Methods.{changes}
use Rattle.sp_types.specs.declared.words.Maker.{Maker}
use Rattle.sp_types.specs.declared.words.Maker.TheVariants as maker_is
use Rattle.sp_types.specs.Types.{Ty, word, made, tys, same, widens}
use Rattle.sp_types.specs.Types as types
use Rattle.sp_typed.specs.declared.words.OneOp.{OneOp}
use Rattle.sp_typed.specs.declared.words.OneOp.TheVariants as one_is
use Rattle.sp_typed.specs.declared.words.TwoOp.{TwoOp}
use Rattle.sp_typed.specs.declared.words.TwoOp.TheVariants as two_is
use Rattle.sp_typed.specs.declared.words.ManyOp.{ManyOp}
use Rattle.sp_typed.specs.declared.words.ManyOp.TheVariants as many_is
use Rattle.sp_typed.specs.Exprs.{Expr, Exprs, leaf, one, two, three, many, none, more, exprs, listed, type_of, is_number, is_literal}
use Rattle.sp_typed.specs.Nodes.{holds, all_hold}
use Rattle.sp_type_operands.specs.Operands.{unknown, is_integer, is_boolean, first_type, sort_of, result_type, unary_type, second_type}
use Rattle.sp_type_operands.specs.Literals.{is_over, is_past, seen}
use Rattle.sp_type_operands.specs.Wholes.{may_hold, is_of, all_of, first_seen, second_seen, has_keys_alone, row_type, all_in_turn, map_type, tuple_type}
use Rattle.sp_type_stmts.specs.Scopes.{Scope}
use Rattle.sp_type_stmts.specs.Owners.{is_at_hand, is_changeable, is_index, owner, owner_slot, with_owner, receiver_owner, changed_owner, with_slot_of, kept, all_kept}
use Rattle.sp_type_methods.specs.Methods.{method_gives, method_takes, unit_method_gives}
use Rattle.sp_rule_lists.specs.Told.{function_takes}
use Rattle.sp_code_meaning.specs.Exprs.{slot_local}
use Rattle.sp_law_lists.specs.known_bodies.Slots.{plain, all_plain}
use Rattle.sp_law_lists.proofs.known_bodies_lemmas.Slots.{kept_plain, type_plain, is_number_plain, literal_plain, over_plain}
use Rattle.sp_law_lists.proofs.known_bodies_lemmas.Asked.{seen_plain}
use Rattle.sp_law_lists.proofs.known_bodies_lemmas.Kept.{holds_plain}
use Rattle.sp_law_lists.specs.known_types.Full.{is_unknown}
use Rattle.sp_law_lists.specs.known_literals.Widened.{is_widen, widens_value}
use Rattle.sp_law_lists.specs.fit_expr.Around.{Around}
use Rattle.sp_law_lists.specs.fit_expr.Sorts.{Units}
use Rattle.sp_law_lists.specs.fit_expr.Test.{is_sort, tuple_has}
use Rattle.sp_law_lists.specs.known_kinds.Made.{is_targeted, element_made, is_even, maybe_targeted, are_targeted, given_by, receiver_sort, member_made, one_made, two_made, many_made, is_made, owner_kept, receiver_kept, keeps_owner}
use Rattle.sp_law_lists.specs.known_kinds.Kept.{SlotsKept}

-- literals past their types, and arguments that go to targets
past_plain : (e : Expr) → is_past (plain e) ≡ is_past e
past_plain e = ap (λ b. b && is_over (plain e)) (literal_plain e) ∙ ap (λ b. is_literal e && b) (over_plain e)

targeted_plain : (t : Ty) (e : Expr) → is_targeted t (plain e) ≡ is_targeted t e
targeted_plain t e = ap (λ s. not (widens s t && not (same s t))) (seen_plain e)

maybe_plain : (o : Option Ty) (e : Expr) → maybe_targeted o (plain e) ≡ maybe_targeted o e
maybe_plain None e = refl
maybe_plain (Some t) e = targeted_plain t e

targets_plain : (target : ℕ → Option Ty) (n : ℕ) (es : Exprs) → are_targeted target n (all_plain es) ≡ are_targeted target n es
targets_plain target n none = refl
targets_plain target n (more e es) =
    ap (λ b. b && are_targeted target (suc n) (all_plain es)) (maybe_plain (target n) e) ∙ ap (λ b. maybe_targeted (target n) e && b) (targets_plain target (suc n) es)

-- rows
all_seen_plain : (es : Exprs) → map seen (listed (all_plain es)) ≡ map seen (listed es)
all_seen_plain none = refl
all_seen_plain (more e es) = ap (λ s. s ∷ map seen (listed (all_plain es))) (seen_plain e) ∙ ap (λ ss. seen e ∷ ss) (all_seen_plain es)

first_plain : (es : Exprs) → first_seen (listed (all_plain es)) ≡ first_seen (listed es)
first_plain none = refl
first_plain (more e es) = seen_plain e

second_plain : (es : Exprs) → second_seen (listed (all_plain es)) ≡ second_seen (listed es)
second_plain none = refl
second_plain (more e es) = first_plain es

of_plain : (t : Ty) (e : Expr) → is_of t (plain e) ≡ is_of t e
of_plain t e = ap (λ u. same t u && not (is_past (plain e))) (type_plain e) ∙ ap (λ b. same t (type_of e) && not b) (past_plain e)

all_of_plain : (t : Ty) (es : Exprs) → all_of t (listed (all_plain es)) ≡ all_of t (listed es)
all_of_plain t none = refl
all_of_plain t (more e es) = ap (λ b. b && all_of t (listed (all_plain es))) (of_plain t e) ∙ ap (λ b. is_of t e && b) (all_of_plain t es)

turn_plain : (keyed : Bool) (x v : Ty) (es : Exprs) → all_in_turn keyed x v (listed (all_plain es)) ≡ all_in_turn keyed x v (listed es)
turn_plain keyed x v none = refl
turn_plain keyed x v (more e es) =
    ap (λ b. b && all_in_turn (not keyed) x v (listed (all_plain es))) (of_plain (if keyed then x else v) e) ∙ ap (λ b. is_of (if keyed then x else v) e && b) (turn_plain (not keyed) x v es)

row_plain : (maker : Maker) (es : Exprs) → row_type maker (listed (all_plain es)) ≡ row_type maker (listed es)
row_plain maker es =
    ap (λ x. if may_hold (has_keys_alone maker) x && all_of x (listed (all_plain es)) then made maker (types.more x types.none) else unknown) (first_plain es)
    ∙ ap (λ b. if may_hold (has_keys_alone maker) (first_seen (listed es)) && b then made maker (types.more (first_seen (listed es)) types.none) else unknown) (all_of_plain (first_seen (listed es)) es)

abbrev map_by : Ty → Ty → Bool → Ty
map_by x v b = if may_hold true x && (may_hold false v && b) then made maker_is.Map (types.more x (types.more v types.none)) else unknown

map_plain : (es : Exprs) → map_type (listed (all_plain es)) ≡ map_type (listed es)
map_plain es =
    let x = first_seen (listed es) in
    let v = second_seen (listed es) in
    ap (λ y. map_by y (second_seen (listed (all_plain es))) (all_in_turn true y (second_seen (listed (all_plain es))) (listed (all_plain es)))) (first_plain es)
    ∙ ap (λ y. map_by x y (all_in_turn true x y (listed (all_plain es)))) (second_plain es)
    ∙ ap (λ b. map_by x v b) (turn_plain true x v es)

even_plain : (es : Exprs) → is_even (all_plain es) ≡ is_even es
even_plain none = refl
even_plain (more e none) = refl
even_plain (more e (more y es)) = even_plain es

-- an element
element_plain : (s t : Ty) (e : Expr) → element_made s t (plain e) ≡ element_made s t e
element_plain (made maker_is.Vector ts) t e = refl
element_plain (made maker_is.Map ts) t e = ap (λ b. same t (second_type ts) && b) (targeted_plain (first_type ts) e)
element_plain (made maker_is.Set ts) t e = ap (λ b. is_unknown t && b) (targeted_plain (first_type ts) e)
element_plain (made maker_is.Tuple ts) t e = refl
element_plain (word w) t e = refl

-- slots are only added
abbrev pub Grows : Scope → Scope → Type 0
Grows before after = (n : ℕ) (t : Ty) → slice_get before.slots n ≡ Some t → slice_get after.slots n ≡ Some t

pub stays_behind : (xs ys : List Ty) (n : ℕ) (t : Ty) → slice_get xs n ≡ Some t → slice_get (xs ++ ys) n ≡ Some t
stays_behind [] ys n t e = absurd (let z : ⊥ = cc in z)
stays_behind (x ∷ xs) ys zero t e = e
stays_behind (x ∷ xs) ys (suc n) t e = stays_behind xs ys n t e

pub added_last : (xs : List Ty) (t : Ty) → slice_get (xs ++ t ∷ []) (length xs) ≡ Some t
added_last [] t = refl
added_last (x ∷ xs) t = added_last xs t

pub owner_grows : (sc : Scope) (o : Option Ty) → Grows sc (with_owner sc o)
owner_grows sc None = λ n t e. e
owner_grows sc (Some u) = λ n t e. stays_behind sc.slots (u ∷ []) n t e

mutual
  pub kept_grows : (sc : Scope) (e : Expr) → Grows sc (kept sc e).1
  kept_grows sc (leaf h) = λ n t e. e
  kept_grows sc (one h a) = kept_grows sc a
  kept_grows sc (two h a b) = (let x = kept sc a in λ n t e. kept_grows x.1 b n t (kept_grows sc a n t e))
  kept_grows sc (three h a b c) =
      let x = kept sc a in
      let y = kept x.1 b in
      λ n t e. kept_grows y.1 c n t (kept_grows x.1 b n t (kept_grows sc a n t e))
  kept_grows sc (many h es) =
      let xs = all_kept sc es in
      λ n t e. owner_grows xs.1 (changed_owner h.op xs.0) n t (all_kept_grow sc es n t e)

  pub all_kept_grow : (sc : Scope) (es : Exprs) → Grows sc (all_kept sc es).1
  all_kept_grow sc none = λ n t e. e
  all_kept_grow sc (more e es) = (let x = kept sc e in λ n t i. all_kept_grow x.1 es n t (kept_grows sc e n t i))

module _ (around : Around) where
  -- each node is made whatever slots it has
  one_plain : (op : OneOp) (t : Ty) (e : Expr) → one_made around op t (plain e) ≡ one_made around op t e
  one_plain one_is.Negate t e =
      ap (λ b. if b then is_integer t else same t (unary_type unary_is.Negate (seen (plain e)))) (is_number_plain e)
      ∙ ap (λ s. if is_number e then is_integer t else same t (unary_type unary_is.Negate s)) (seen_plain e)
  one_plain one_is.Complement t e = ap (λ s. same t (unary_type unary_is.Complement s)) (seen_plain e)
  one_plain one_is.Widen t e = ap (λ s. widens s t) (seen_plain e)
  one_plain (one_is.Field n) t e = ap (λ s. member_made around (one_is.Field n) s t) (seen_plain e)
  one_plain (one_is.Variable n) t e = ap (λ s. member_made around (one_is.Variable n) s t) (seen_plain e)
  one_plain (one_is.Bit n) t e = ap (λ s. member_made around (one_is.Bit n) s t) (seen_plain e)
  one_plain (one_is.IsSet n) t e = ap (λ s. is_sort s Units && is_boolean t) (seen_plain e)
  one_plain _ t e = refl

  two_plain : (op : TwoOp) (t : Ty) (a b : Expr) → two_made op t (plain a) (plain b) ≡ two_made op t a b
  two_plain (two_is.Binary op) t a b =
      ap (λ s. same t (result_type (sort_of op) s (seen (plain b)))) (seen_plain a) ∙ ap (λ s. same t (result_type (sort_of op) (seen a) s)) (seen_plain b)
  two_plain two_is.Index t a b = ap (λ s. element_made s t (plain b)) (seen_plain a) ∙ element_plain (seen a) t b
  two_plain (two_is.Item n) t a b = ap (λ s. tuple_has s n t) (seen_plain a)

  choice_plain : (t : Ty) (a b : Expr) → same t (if same (seen (plain a)) (seen (plain b)) then seen (plain a) else unknown) ≡ same t (if same (seen a) (seen b) then seen a else unknown)
  choice_plain t a b =
      ap (λ s. same t (if same s (seen (plain b)) then s else unknown)) (seen_plain a) ∙ ap (λ s. same t (if same (seen a) s then seen a else unknown)) (seen_plain b)

  many_plain : (op : ManyOp) (t : Ty) (es : Exprs) → many_made around (with_slot_of op None) t (all_plain es) ≡ many_made around op t es
  many_plain many_is.Tuple t es = ap (λ ss. same t (tuple_type ss)) (all_seen_plain es)
  many_plain many_is.Vector t es = ap (same t) (row_plain maker_is.Vector es)
  many_plain many_is.Set t es = ap (same t) (row_plain maker_is.Set es)
  many_plain many_is.Map t es = ap (λ u. same t u && is_even (all_plain es)) (map_plain es) ∙ ap (λ b. same t (map_type (listed es)) && b) (even_plain es)
  many_plain (many_is.Call f) t es =
      let found = slice_get around.list.functions f in
      ap (λ b. same t (given_by found) && b) (targets_plain (function_takes found) 0 es)
  many_plain (many_is.Method m slot) t none = refl
  many_plain (many_is.Method m slot) t (more r es) =
      ap (λ s. is_sort s (receiver_sort m) && same t (method_gives m s) && are_targeted (slice_get (method_takes m s)) 0 (all_plain es)) (seen_plain r)
      ∙ ap (λ b. is_sort (seen r) (receiver_sort m) && same t (method_gives m (seen r)) && b) (targets_plain (slice_get (method_takes m (seen r))) 0 es)
  many_plain (many_is.OfUnit m name) t none = refl
  many_plain (many_is.OfUnit m name) t (more r es) = ap (λ s. is_sort s Units && same t (unit_method_gives m)) (seen_plain r)
  many_plain _ t es = refl

  made_plain : (e : Expr) → is_made around (plain e) ≡ is_made around e
  made_plain (leaf h) = refl
  made_plain (one h a) = one_plain h.op h.ty a
  made_plain (two h a b) = two_plain h.op h.ty a b
  made_plain (three h c a b) = choice_plain h.ty a b
  made_plain (many h es) = many_plain h.op h.ty es

  pub made_kept : (sc : Scope) (e : Expr) → holds (is_made around) e ≡ true → holds (is_made around) (kept sc e).0 ≡ true
  made_kept sc e h =
      sym (holds_plain (is_made around) made_plain (kept sc e).0) ∙ ap (holds (is_made around)) (kept_plain sc e) ∙ holds_plain (is_made around) made_plain e ∙ h

  -- owners
  pub none_kept : (e : Expr) → owner_kept around None e ≡ true
  none_kept (leaf h) = refl
  none_kept (one h a) = refl
  none_kept (two h a b) = none_kept a
  none_kept (three h a b c) = refl
  none_kept (many h es) = refl

  abbrev OwnerKept : Scope → Expr → Option Ty → Type 0
  OwnerKept sc e o = SlotsKept around (with_owner sc o).slots → owner_kept around (slot_local around.places (owner_slot sc o)) e ≡ true

  pub owner_so : (sc : Scope) (e : Expr) → OwnerKept sc e (owner e)
  owner_so sc (leaf h) slots = refl
  owner_so sc (one h a) slots = by (is_changeable h.op && not (is_at_hand a)) slots
    where
      by : (b : Bool) → OwnerKept sc (one h a) (if b then Some (type_of a) else None)
      by true s = s (length sc.slots) (type_of a) (added_last sc.slots (type_of a))
      by false s = refl
  owner_so sc (two h a b) slots = by (is_index h.op) (owner_so sc a) slots
    where
      by : (c : Bool) → OwnerKept sc a (owner a) → OwnerKept sc (two h a b) (if c then owner a else None)
      by true inner s = inner s
      by false inner s = none_kept a
  owner_so sc (three h a b c) slots = refl
  owner_so sc (many h es) slots = refl

  method_kept : (m : Method) (sc : Scope) (es : List Expr) (b : Bool) → SlotsKept around (with_owner sc (if b then receiver_owner es else None)).slots
      → receiver_kept around (many_is.Method m (owner_slot sc (if b then receiver_owner es else None))) (exprs es) ≡ true
  method_kept m sc [] b slots = refl
  method_kept m sc (e ∷ es) true slots = owner_so sc e slots
  method_kept m sc (e ∷ es) false slots = none_kept e

  many_owner : (op : ManyOp) (sc : Scope) (es : List Expr) → SlotsKept around (with_owner sc (changed_owner op es)).slots → receiver_kept around (with_slot_of op (owner_slot sc (changed_owner op es))) (exprs es) ≡ true
  many_owner (many_is.Method m old) sc es slots = method_kept m sc es (changes m) slots
  many_owner _ sc es slots = refl

  back : (before after : Scope) → Grows before after → SlotsKept around after.slots → SlotsKept around before.slots
  back before after grows slots = λ n t e. slots n t (grows n t e)

  mutual
    pub owner_keeps : (sc : Scope) (e : Expr) → SlotsKept around (kept sc e).1.slots → holds (keeps_owner around) (kept sc e).0 ≡ true
    owner_keeps sc (leaf h) slots = refl
    owner_keeps sc (one h a) slots = owner_keeps sc a slots
    owner_keeps sc (two h a b) slots =
        let x = kept sc a in
        let y = kept x.1 b in
        and_from (holds (keeps_owner around) x.0) (holds (keeps_owner around) y.0) (owner_keeps sc a (back x.1 y.1 (kept_grows x.1 b) slots)) (owner_keeps x.1 b slots)
    owner_keeps sc (three h a b c) slots =
        let x = kept sc a in
        let y = kept x.1 b in
        let z = kept y.1 c in
        let second = back y.1 z.1 (kept_grows y.1 c) slots in
        and_from (holds (keeps_owner around) x.0) (holds (keeps_owner around) y.0 && holds (keeps_owner around) z.0) (owner_keeps sc a (back x.1 y.1 (kept_grows x.1 b) second))
        (and_from (holds (keeps_owner around) y.0) (holds (keeps_owner around) z.0) (owner_keeps x.1 b second) (owner_keeps y.1 c slots))
    owner_keeps sc (many h es) slots =
        let xs = all_kept sc es in
        let o = changed_owner h.op xs.0 in
        and_from (receiver_kept around (with_slot_of h.op (owner_slot xs.1 o)) (exprs xs.0)) (all_hold (keeps_owner around) (exprs xs.0)) (many_owner h.op xs.1 xs.0 slots) (all_owners_keep sc es (back xs.1 (with_owner xs.1 o) (owner_grows xs.1 o) slots))

    pub all_owners_keep : (sc : Scope) (es : Exprs) → SlotsKept around (all_kept sc es).1.slots → all_hold (keeps_owner around) (exprs (all_kept sc es).0) ≡ true
    all_owners_keep sc none slots = refl
    all_owners_keep sc (more e es) slots =
        let x = kept sc e in
        let xs = all_kept x.1 es in
        and_from (holds (keeps_owner around) x.0) (all_hold (keeps_owner around) (exprs xs.0)) (owner_keeps sc e (back x.1 xs.1 (all_kept_grow x.1 es) slots)) (all_owners_keep x.1 es slots)

-- what widens stands on no literal past its type, whatever slots there are
widened_plain : (e : Expr) → widens_value (plain e) ≡ widens_value e
widened_plain (leaf h) = refl
widened_plain (one h a) = ap (λ b. if is_widen h.op then not b else true) (past_plain a)
widened_plain (two h a b) = refl
widened_plain (three h a b c) = refl
widened_plain (many h es) = refl

pub widened_kept : (sc : Scope) (e : Expr) → holds widens_value e ≡ true → holds widens_value (kept sc e).0 ≡ true
widened_kept sc e h =
    sym (holds_plain widens_value widened_plain (kept sc e).0) ∙ ap (holds widens_value) (kept_plain sc e) ∙ holds_plain widens_value widened_plain e ∙ h
