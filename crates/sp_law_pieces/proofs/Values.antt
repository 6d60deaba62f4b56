-- Values that are kept in a local, and what is asked of them, in both texts.
use Rattle.std.proofs.Common.{◌≡◌, ℕ, suc, ◌+◌, ◌<◌, ◌≤◌, Bool, true, false, List, ◌++◌, length, Option, Some, None, refl, sym, ap, ◌∙◌, subst, arith, length-append}
use Rattle.std.specs.Prelude.{slice_get, slice_set}
use Rattle.sp_base.specs.declared.places.Limits.{Limits}
use Rattle.sp_base.specs.declared.kinds.PKind.TheVariants.{Requires}
use Rattle.sp_words.specs.declared.words.AttributeName.TheVariants as name_is
use Rattle.sp_value.specs.Val.{Val}
use Rattle.sp_typed.specs.Exprs.{Expr}
use Rattle.sp_typed_units.specs.declared.attributes.Attribute.{Attribute}
use Rattle.sp_typed_units.specs.declared.declarations.Typed.{Typed}
use Rattle.sp_types.specs.Types.{Ty}
use Rattle.sp_meaning_states.specs.States.{Reading, State, Gives, Result, ends, fails, got, local_of, set_local}
use Rattle.sp_meaning_states.specs.Reads.{Ask, Read}
use Rattle.sp_meaning_states.specs.Telling.{Names}
use Rattle.sp_meaning_units.specs.Openings.{Opening, inside_opened}
use Rattle.sp_meaning_units.specs.Attributes.{value_of}
use Rattle.sp_meaning_units.specs.Containers.{if_holds}
use Rattle.sp_meaning_units.specs.Fields.{where_there, asked, finished}
use Rattle.sp_code_pieces.specs.Pieces.{Piece, Within, Converted, Required}
use Rattle.sp_code_pieces.specs.Locals.{number_type, where_asked, is_asked, finish_locals, type_behind}
use Rattle.sp_code_pieces.specs.Steps.{by_option, asked_at}
use Rattle.sp_code_pieces.specs.Steps as steps
use Rattle.sp_code_pieces.specs.Means.{asked_means, piece_means}
use Rattle.sp_law_meaning.specs.Laws.{Agree}
use Rattle.sp_law_meaning.specs.Standing.{ListStands}
use Rattle.sp_law_meaning.proofs.Agree.{Rel, Same, Both, at_once, then_got}
use Rattle.sp_law_pieces.specs.States.{Close, Low, OffsetAt}
use Rattle.sp_law_pieces.specs.Standing.{AskedStands, AttributesStand}
use Rattle.sp_law_pieces.proofs.Low.{close_self, loose, agree_passes, sets_next, set_there, set_below, set_size}
use Rattle.sp_law_pieces.proofs.Framed.{fails_same}
use Rattle.sp_law_pieces.proofs.Asked.{holds_same, plainly_same, with_value_same}
use Rattle.sp_law_pieces.proofs.Opened.{opened_same}
use Rattle.sp_law_pieces.proofs.Onward.{with_local, close_trans, low_trans, GivesAgree, gives_got, gives_any, gives_back, got_got}

-- all that stands in the locals may be taken as known
pub rebased : (at to : ℕ) (us : List Val) → at ≤ to → (f g : State → Result) → ((ws : List Val) → Close at us ws → Both (Low to ws) f g) → Both (Low at us) f g
rebased at to us h f g all st ts r =
    agree_passes (Low to r.own) (Low at us) (λ st ts q. low_trans at to us r.own h r.close st ts q) (f st) (g ts) (all r.own r.close st ts (record { own = r.own; close = close_self to r.own; are = r.are }))

-- what is asked once a value stands in a local
pub keeps_value : (at l : ℕ) (us : List Val) → at ≤ l → l < length us → (v : Val) (f g : State → Result)
    → ((ws : List Val) → Close at us ws → slice_get ws l ≡ Some v → Both (Low (suc l) ws) f g) → Same (Low at us) (Low at us) f (λ st. g (set_local l v st))
keeps_value at l us h room v f g all st ts r =
    let ws : List Val = slice_set r.own l v in
    let c : Close at us ws = close_trans at l us r.own ws h r.close (record { size = set_size r.own l v; same = λ i k. set_below r.own l i v k }) in
    agree_passes (Low (suc l) ws) (Low at us) (λ st ts q. low_trans at (suc l) us ws (omega (arith, h)) c st ts q) (f st) (g (set_local l v ts))
    (all ws c (set_there r.own l v (omega (arith, room, r.close.size))) st (set_local l v ts) (sets_next l r.own v (omega (arith, room, r.close.size)) st ts (record { own = r.own; close = close_self l r.own; are = r.are })))

pub offset_close : (at to : ℕ) (us ws : List Val) → at ≤ to → Close at us ws → (offset : Option Val) (o : Option ℕ) → OffsetAt at us offset o → OffsetAt to ws offset o
offset_close at to us ws h c None None p = tt
offset_close at to us ws h c (Some v) (Some x) p = (omega (arith, p.0, h), c.same x p.0 ∙ p.1)
offset_close at to us ws h c None (Some x) p = absurd p
offset_close at to us ws h c (Some v) None p = absurd p

pub asked_size : (b : Bool) (t u : Ty) → length (where_asked b t) ≡ length (where_asked b u)
asked_size true t u = refl
asked_size false t u = refl

module _ (names : Names) (hook_names : List (List ℕ)) (list : Typed) (limits : Limits) (reads : Reading → Ask → Read) (stands : ListStands list) (total n : ℕ)
    (enter also : ℕ → List Val → State → Result) (offset : Option Val) (o : Option ℕ) where
  abbrev by_name : Option Val → Expr → State → Result
  by_name current e = asked names hook_names list limits reads n enter current offset e

  abbrev by_local : ℕ → Expr → State → Result
  by_local l e = asked_means names hook_names list limits reads n also (asked_at list.hooks total l o e)

  abbrev means : Piece → State → Result
  means p = piece_means names hook_names list limits reads n also p

  -- what is made of the end of a parse, in both texts: by `&convert`, and behind that by `&requires`
  abbrev pub by_convert : Option Expr → Result → Result
  by_convert (Some e) r = got (λ v. by_name (Some v) e) r
  by_convert None r = r

  abbrev pub by_require : Option Expr → Result → Result
  by_require (Some e) r = got (λ v. if_holds (by_name (Some v) e) (ends (Gives v)) (fails Requires)) r
  by_require None r = r

  abbrev pub local_convert : ℕ → Option Expr → Result → Result
  local_convert l (Some e) r = got (λ v st. by_local l e (set_local l v st)) r
  local_convert l None r = r

  abbrev pub local_require : ℕ → Option Expr → Result → Result
  local_require l (Some e) r = got (λ v st. if_holds (by_local l e) (λ st. ends (Gives (local_of st l)) st) (fails Requires) (set_local l v st)) r
  local_require l None r = r

  -- where `&requires` keeps its value
  abbrev pub behind_convert : ℕ → List Attribute → ℕ
  behind_convert l attributes = l + length (where_asked (is_asked (value_of name_is.Convert attributes)) number_type)

  abbrev pub by_finish : List Attribute → Result → Result
  by_finish attributes r = by_require (value_of name_is.Requires attributes) (by_convert (value_of name_is.Convert attributes) r)

  abbrev pub local_finish : ℕ → List Attribute → Result → Result
  local_finish l attributes r = local_require (behind_convert l attributes) (value_of name_is.Requires attributes) (local_convert l (value_of name_is.Convert attributes) r)

  -- these are what stands in the texts
  pub by_is : (attributes : List Attribute) (f : State → Result) (st : State) → finished names hook_names list limits reads n enter attributes offset f st ≡ by_finish attributes (f st)
  by_is attributes f st = by_options (value_of name_is.Convert attributes) (value_of name_is.Requires attributes)
    where
      by_options : (x y : Option Expr) → where_there y (λ e st. got (λ v. if_holds (by_name (Some v) e) (ends (Gives v)) (fails Requires)) (where_there x (λ e st. got (λ v. by_name (Some v) e) (f st)) f st)) (where_there x (λ e st. got (λ v. by_name (Some v) e) (f st)) f) st ≡ by_require y (by_convert x (f st))
      by_options None None = refl
      by_options (Some e) None = refl
      by_options None (Some e) = refl
      by_options (Some d) (Some e) = refl

  pub local_is : (l : ℕ) (attributes : List Attribute) (p : Piece) (st : State) → means (steps.finished list.hooks total l attributes o p) st ≡ local_finish l attributes (means p st)
  local_is l attributes p st = by_options (behind_convert l attributes) (value_of name_is.Convert attributes) (value_of name_is.Requires attributes)
    where
      by_options : (k : ℕ) (x y : Option Expr)
          → means (by_option y (λ e. Required k (asked_at list.hooks total k o e)) (λ p. p) (by_option x (λ e. Converted l (asked_at list.hooks total l o e)) (λ p. p) p)) st ≡ local_require k y (local_convert l x (means p st))
      by_options k None None = refl
      by_options k (Some e) None = refl
      by_options k None (Some e) = refl
      by_options k (Some d) (Some e) = refl

  -- what is bound in front of a parse may be bound in front of all
  pub by_through : (attributes : List Attribute) (k : Val → State → Result) (r : Result) → by_finish attributes (got k r) ≡ got (λ v st. by_finish attributes (k v st)) r
  by_through attributes k r = by_options (value_of name_is.Convert attributes) (value_of name_is.Requires attributes)
    where
      by_options : (x y : Option Expr) → by_require y (by_convert x (got k r)) ≡ got (λ v st. by_require y (by_convert x (k v st))) r
      by_options None None = refl
      by_options (Some e) None = got_got (λ v. by_name (Some v) e) k r
      by_options None (Some e) = got_got (λ v. if_holds (by_name (Some v) e) (ends (Gives v)) (fails Requires)) k r
      by_options (Some d) (Some e) =
          ap (λ s. got (λ v. if_holds (by_name (Some v) e) (ends (Gives v)) (fails Requires)) s) (got_got (λ v. by_name (Some v) d) k r)
          ∙ got_got (λ v. if_holds (by_name (Some v) e) (ends (Gives v)) (fails Requires)) (λ v st. got (λ v. by_name (Some v) d) (k v st)) r

  pub local_through : (l : ℕ) (attributes : List Attribute) (k : Val → State → Result) (r : Result) → local_finish l attributes (got k r) ≡ got (λ v st. local_finish l attributes (k v st)) r
  local_through l attributes k r = by_options (behind_convert l attributes) (value_of name_is.Convert attributes) (value_of name_is.Requires attributes)
    where
      by_options : (m : ℕ) (x y : Option Expr) → local_require m y (local_convert l x (got k r)) ≡ got (λ v st. local_require m y (local_convert l x (k v st))) r
      by_options m None None = refl
      by_options m (Some e) None = got_got (λ v st. by_local l e (set_local l v st)) k r
      by_options m None (Some e) = got_got (λ v st. if_holds (by_local m e) (λ st. ends (Gives (local_of st m)) st) (fails Requires) (set_local m v st)) k r
      by_options m (Some d) (Some e) = ap (λ s. got (λ v st. if_holds (by_local m e) (λ st. ends (Gives (local_of st m)) st) (fails Requires) (set_local m v st)) s) (got_got (λ v st. by_local l d (set_local l v st)) k r) ∙ got_got (λ v st. if_holds (by_local m e) (λ st. ends (Gives (local_of st m)) st) (fails Requires) (set_local m v st)) (λ v st. got (λ v st. by_local l d (set_local l v st)) (k v st)) r

  -- Behind a parse that agrees. A value may leave more known than other ends do.
  module _ (at l : ℕ) (us : List Val) (under : at ≤ l) (size : length us ≡ total) (place : OffsetAt at us offset o) where
    converted_agrees : (x : Option Expr) → AskedStands list.functions true x → l + length (where_asked (is_asked x) number_type) ≤ total → (Q : Rel) → ((st ts : State) → Low at us st ts → Q st ts) → (r s : Result) → GivesAgree (Low at us) Q r s
        → GivesAgree (Low at us) Q (by_convert x r) (local_convert l x s)
    converted_agrees None s room Q pass r q h = h
    converted_agrees (Some e) s room Q pass r q h =
        gives_got (Low at us) (Low at us) Q pass (λ v. by_name (Some v) e) (λ v st. by_local l e (set_local l v st)) r q h
        (λ v. keeps_value at l us under (omega (arith, size, room)) v (by_name (Some v) e) (by_local l e)
        (λ ws c known. with_value_same names hook_names list limits reads stands total n enter also (suc l) ws (c.size ∙ size) v offset l o (omega arith) known (offset_close at (suc l) us ws (omega (arith, under)) c offset o place) e s))

    required_agrees : (k : ℕ) → at ≤ k → (x : Option Expr) → AskedStands list.functions true x → k + length (where_asked (is_asked x) number_type) ≤ total → (Q : Rel) → ((st ts : State) → Low at us st ts → Q st ts) → (r s : Result) → GivesAgree (Low at us) Q r s
        → GivesAgree (Low at us) Q (by_require x r) (local_require k x s)
    required_agrees k below None s room Q pass r q h = h
    required_agrees k below (Some e) s room Q pass r q h =
        gives_got (Low at us) (Low at us) Q pass (λ v. if_holds (by_name (Some v) e) (ends (Gives v)) (fails Requires))
        (λ v st. if_holds (by_local k e) (λ st. ends (Gives (local_of st k)) st) (fails Requires) (set_local k v st)) r q h
        (λ v. keeps_value at k us below (omega (arith, size, room)) v (if_holds (by_name (Some v) e) (ends (Gives v)) (fails Requires)) (if_holds (by_local k e) (λ st. ends (Gives (local_of st k)) st) (fails Requires))
        (λ ws c known. holds_same (suc k) ws _ _ _ _ _ _
        (with_value_same names hook_names list limits reads stands total n enter also (suc k) ws (c.size ∙ size) v offset k o (omega arith) known (offset_close at (suc k) us ws (omega (arith, below)) c offset o place) e s)
        (with_local (suc k) ws (Low (suc k) ws) k v (omega arith) known (ends (Gives v)) (λ w. ends (Gives w)) (at_once (Low (suc k) ws) (Gives v)))
        (loose (suc k) ws (fails Requires) (fails Requires) (λ vs d. fails_same vs Requires))))

    pub finish_agrees : (attributes : List Attribute) → AttributesStand list.functions attributes → (t : Ty) → l + length (finish_locals attributes t) ≤ total → (Q : Rel) → ((st ts : State) → Low at us st ts → Q st ts) → (r s : Result) → GivesAgree (Low at us) Q r s
        → GivesAgree (Low at us) Q (by_finish attributes r) (local_finish l attributes s)
    finish_agrees attributes s t fits Q pass r q h =
        let convert : Option Expr = value_of name_is.Convert attributes in
        let requires : Option Expr = value_of name_is.Requires attributes in
        let sum : length (where_asked (is_asked convert) t ++ where_asked (is_asked requires) (type_behind convert t)) ≡ length (where_asked (is_asked convert) t) + length (where_asked (is_asked requires) (type_behind convert t))
        = length-append {A = Ty} (where_asked (is_asked convert) t) (where_asked (is_asked requires) (type_behind convert t)) in
        let one = asked_size (is_asked convert) t number_type in
        let two = asked_size (is_asked requires) (type_behind convert t) number_type in
        required_agrees (behind_convert l attributes) (omega (arith, under)) requires (s name_is.Requires) (omega (arith, fits, sum, one, two)) Q pass (by_convert convert r) (local_convert l convert q)
        (converted_agrees convert (s name_is.Convert) (omega (arith, fits, sum, one, two)) Q pass r q h)

  pub finished_same : (at : ℕ) (us : List Val) → length us ≡ total → OffsetAt at us offset o → (attributes : List Attribute) → AttributesStand list.functions attributes → (t : Ty) → at + length (finish_locals attributes t) ≤ total
      → (f : State → Result) (p : Piece) → Both (Low at us) f (means p)
      → Both (Low at us) (finished names hook_names list limits reads n enter attributes offset f) (means (steps.finished list.hooks total at attributes o p))
  finished_same at us size place attributes s t fits f p h st ts r =
      subst (λ a. Agree (Low at us) a (means (steps.finished list.hooks total at attributes o p) ts)) (sym (by_is attributes f st))
      (subst (λ b. Agree (Low at us) (by_finish attributes (f st)) b) (sym (local_is at attributes p ts))
      (gives_back (Low at us) (by_finish attributes (f st)) (local_finish at attributes (means p ts))
      (finish_agrees at at us (omega arith) size place attributes s t fits (Low at us) (λ st ts q. q) (f st) (means p ts) (gives_any (Low at us) (f st) (means p ts) (h st ts r)))))

  -- a view round a part
  pub view_same : (at : ℕ) (us : List Val) → length us ≡ total → OffsetAt at us offset o → (opening : Opening) (x : Option Expr) → AskedStands list.functions false x → (f : State → Result) (p : Piece) → Both (Low at us) f (means p)
      → Both (Low at us) (where_there x (λ e st. got (λ v. inside_opened opening v f) (by_name None e st)) f) (means (by_option x (λ e. Within opening (asked_at list.hooks total 0 o e)) (λ p. p) p))
  view_same at us size place opening None s f p h = h
  view_same at us size place opening (Some e) s f p h =
      then_got (Low at us) (by_name None e) (by_local 0 e) (λ v. inside_opened opening v f) (λ v. inside_opened opening v (means p))
      (plainly_same names hook_names list limits reads stands total n enter also at us size offset o place e s) (λ v. opened_same at us opening v f (means p) h)
