-- Expressions of attributes and arguments of units in both texts, from the locals that are known.
use Rattle.std.proofs.Common.{◌≡◌, ℕ, ◌-◌, ◌<◌, Bool, true, false, List, [], length, reverse, Option, Some, None, refl, sym, ap, ◌∙◌, arith}
use Rattle.std.proofs.lemmas.Bool.{ltb-true}
use Rattle.std.specs.Prelude.{slice_get, nat_lt, unwrap_or, if◌then◌else◌}
use Rattle.sp_base.specs.declared.places.Limits.{Limits}
use Rattle.sp_value.specs.Val.{Val, void}
use Rattle.sp_typed.specs.Exprs.{Expr, Exprs}
use Rattle.sp_typed_units.specs.declared.declarations.Typed.{Typed}
use Rattle.sp_meaning_states.specs.States.{Reading, State, Gives, Result, local_of, parameter_of, truth_of}
use Rattle.sp_meaning_states.specs.Reads.{Ask, Read}
use Rattle.sp_meaning_states.specs.Telling.{Names}
use Rattle.sp_meaning.specs.Globals.{globals_of}
use Rattle.sp_meaning.specs.Around.{Around}
use Rattle.sp_meaning.specs.Exprs.{given_or, offset_at_hand}
use Rattle.sp_meaning.specs.Calls.{call_means}
use Rattle.sp_code_meaning.specs.Exprs.{offset_local, offset_means, how_many}
use Rattle.sp_code_meaning.specs.Calls as laid_calls
use Rattle.sp_meaning_units.specs.Containers.{if_holds}
use Rattle.sp_meaning_units.specs.Fields.{asked, arguments_of}
use Rattle.sp_code_pieces.specs.Steps.{layout_at, asked_at}
use Rattle.sp_code_pieces.specs.Pieces as piece
use Rattle.sp_code_pieces.specs.Means.{asked_means, piece_means}
use Rattle.sp_law_meaning.specs.Standing.{ExprStands, AllStand, ListStands}
use Rattle.sp_law_meaning.proofs.Agree.{Both, then_got, chosen_same}
use Rattle.sp_law_meaning.proofs.Framed.{framed, Framed, Placed, Alike, alike}
use Rattle.sp_law_meaning.proofs.Exprs.{expr_same, all_same}
use Rattle.sp_law_meaning.proofs.Calls.{calls_same}
use Rattle.sp_law_pieces.specs.States.{OffsetAt, Close, Low}
use Rattle.sp_law_pieces.proofs.Low.{loose, local_front, known_local}

-- a test
pub holds_same : (at : ℕ) (us : List Val) (test trial there next otherwise other : State → Result) → Both (Low at us) test trial → Both (Low at us) there next → Both (Low at us) otherwise other
    → Both (Low at us) (if_holds test there otherwise) (if_holds trial next other)
holds_same at us test trial there next otherwise other h k l = then_got (Low at us) test trial _ _ h (λ b. chosen_same (Low at us) (truth_of b) there next otherwise other k l)

-- Where what an expression sees stands, if there is something: `$$` in a local, and the offset in another.
abbrev pub ValueAt : ℕ → List Val → Option Val → ℕ → Type 0
ValueAt at us current l = (v : Val) → current ≡ Some v → (l < at) × (slice_get us l ≡ Some v)

pub no_value : (at : ℕ) (us : List Val) (l : ℕ) → ValueAt at us None l
no_value at us l v e = absurd (let q : None ≡ Some v = e in cc)

-- the same in a frame
abbrev ValueIn : List Val → Option Val → ℕ → Type 0
ValueIn ws current l = (v : Val) → current ≡ Some v → slice_get ws l ≡ Some v

abbrev OffsetIn : List Val → Option Val → Option ℕ → Type 0
OffsetIn ws None None = Unit {0}
OffsetIn ws (Some v) (Some o) = slice_get ws o ≡ Some v
OffsetIn ws offset o = ⊥

value_in : (at : ℕ) (us ws : List Val) → Close at us ws → (current : Option Val) (l : ℕ) → ValueAt at us current l → ValueIn ws current l
value_in at us ws c current l h v e = known_local at us ws c l v (h v e).0 (h v e).1

offset_in : (at : ℕ) (us ws : List Val) → Close at us ws → (offset : Option Val) (o : Option ℕ) → OffsetAt at us offset o → OffsetIn ws offset o
offset_in at us ws c None None h = tt
offset_in at us ws c (Some v) (Some o) h = known_local at us ws c o v h.0 h.1
offset_in at us ws c None (Some o) h = absurd h
offset_in at us ws c (Some v) None h = absurd h

abbrev pub around_of : Option Val → Option Val → Around
around_of current offset = record { arguments = []; current = current; offset = offset }

placed_here : (list : Typed) (total : ℕ) (ws : List Val) (current offset : Option Val) (l : ℕ) (o : Option ℕ) → length ws ≡ total → ValueIn ws current l → OffsetIn ws offset o
    → Placed (around_of current offset) (layout_at list.hooks total l o) ws
placed_here list total ws current offset l o size value place =
    record {
      first = size;
      parameters = λ n st. by_test n st (nat_lt n 0) (ltb-true n 0);
      current = λ v e st. local_front ws l v st (value v e);
      offset = by_self offset o place;
    }
  where
    by_test : (n : ℕ) (st : State) (t : Bool) → (t ≡ true → n < 0)
        → (if t then local_of (framed ws st) n else parameter_of st (n - 0)) ≡ (if t then unwrap_or (slice_get (around_of current offset).arguments n) void else parameter_of st (n - 0))
    by_test n st true h = absurd (omega (arith, h refl))
    by_test n st false h = refl

    by_self : (offset : Option Val) (o : Option ℕ) → OffsetIn ws offset o → (s : Bool) (go on : State → Result) → Both (Framed ws) go on
        → Both (Framed ws) (given_or (offset_at_hand (around_of current offset) s) go) (offset_means (offset_local (layout_at list.hooks total l o) s) on)
    by_self None None h true go on k = k
    by_self None None h false go on k = k
    by_self (Some v) (Some o) h true go on k =
        alike ws (given_or (Some v) go) (offset_means (Some o) on) (λ st. record { how = ap Gives (sym (local_front ws o v st h)); told = refl; behind = refl })
    by_self (Some v) (Some o) h false go on k = k
    by_self None (Some o) h s go on k = absurd h
    by_self (Some v) None h s go on k = absurd h

module _ (names : Names) (hook_names : List (List ℕ)) (list : Typed) (limits : Limits) (reads : Reading → Ask → Read) (stands : ListStands list) (total n : ℕ)
    (enter also : ℕ → List Val → State → Result) where
  pub asked_same : (at : ℕ) (us : List Val) → length us ≡ total → (current offset : Option Val) (l : ℕ) (o : Option ℕ) → ValueAt at us current l → OffsetAt at us offset o
      → (has : Bool) → (has ≡ true → (v : Val) × (current ≡ Some v)) → (e : Expr) → ExprStands has list.functions e
      → Both (Low at us) (asked names hook_names list limits reads n enter current offset e) (asked_means names hook_names list limits reads n also (asked_at list.hooks total l o e))
  asked_same at us size current offset l o value place has there e s =
      loose at us (asked names hook_names list limits reads n enter current offset e) (asked_means names hook_names list limits reads n also (asked_at list.hooks total l o e))
      (λ ws c. expr_same (globals_of list) list.functions (around_of current offset) (layout_at list.hooks total l o) ws
      (placed_here list total ws current offset l o (c.size ∙ size) (value_in at us ws c current l value) (offset_in at us ws c offset o place)) has there
      (call_means names hook_names list limits n) (laid_calls.call_means names hook_names list limits n) (calls_same names hook_names list limits stands n ws) e s)

  -- without `$$`
  pub plainly_same : (at : ℕ) (us : List Val) → length us ≡ total → (offset : Option Val) (o : Option ℕ) → OffsetAt at us offset o → (e : Expr) → ExprStands false list.functions e
      → Both (Low at us) (asked names hook_names list limits reads n enter None offset e) (asked_means names hook_names list limits reads n also (asked_at list.hooks total 0 o e))
  plainly_same at us size offset o place e s = asked_same at us size None offset 0 o (no_value at us 0) place false (λ q. absurd (let z : false ≡ true = q in cc)) e s

  -- with this `$$`
  pub with_value_same : (at : ℕ) (us : List Val) → length us ≡ total → (v : Val) (offset : Option Val) (l : ℕ) (o : Option ℕ) → l < at → slice_get us l ≡ Some v → OffsetAt at us offset o
      → (e : Expr) → ExprStands true list.functions e
      → Both (Low at us) (asked names hook_names list limits reads n enter (Some v) offset e) (asked_means names hook_names list limits reads n also (asked_at list.hooks total l o e))
  with_value_same at us size v offset l o h k place e s =
      asked_same at us size (Some v) offset l o (λ w q. (h, k ∙ q)) place true (λ q. (v, refl)) e s

  -- a unit that is read, with its arguments
  pub nested_same : ((ws : List Val) (u : ℕ) (vs : List Val) → Alike ws (enter u vs) (also u (reverse vs))) → (at : ℕ) (us : List Val) → length us ≡ total
      → (offset : Option Val) (o : Option ℕ) → OffsetAt at us offset o → (u : ℕ) (es : Exprs) → AllStand false list.functions es
      → Both (Low at us) (arguments_of names hook_names list limits reads n enter offset es (enter u)) (piece_means names hook_names list limits reads n also (piece.Nested u (layout_at list.hooks total 0 o) es))
  nested_same enters at us size offset o place u es s =
      loose at us _ _
      (λ ws c. all_same (globals_of list) list.functions (around_of None offset) (layout_at list.hooks total 0 o) ws
      (placed_here list total ws None offset 0 o (c.size ∙ size) (value_in at us ws c None 0 (no_value at us 0)) (offset_in at us ws c offset o place)) false (λ q. absurd (let z : false ≡ true = q in cc))
      (call_means names hook_names list limits n) (laid_calls.call_means names hook_names list limits n) (calls_same names hook_names list limits stands n ws)
      es [] [] (how_many es) refl (omega arith) (enter u) (also u) (λ vs l. enters ws u vs) s)
