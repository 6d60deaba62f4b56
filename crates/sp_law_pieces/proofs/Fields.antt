-- Fields in both texts: what becomes of their value, and where they are parsed.
use Rattle.std.proofs.Common.{◌≡◌, ℕ, suc, ◌+◌, ◌<◌, ◌≤◌, Bool, true, false, List, [], ◌∷◌, ◌++◌, length, reverse, Option, Some, None, refl, sym, ap, ◌∙◌, subst, arith, length-append}
use Rattle.std.specs.Prelude.{slice_get, slice_set, is_some, if◌then◌else◌}
use Rattle.sp_base.specs.declared.places.Limits.{Limits}
use Rattle.sp_base.specs.declared.kinds.PKind.{PKind}
use Rattle.sp_base.specs.declared.kinds.PKind.TheVariants.{BadSize, InputBefore}
use Rattle.sp_words.specs.declared.words.AttributeName.TheVariants as name_is
use Rattle.sp_value.specs.Val.{Val, void, bool, uint, int, bytes, str, enum, bits, tuple, vector, set, map, unit, place}
use Rattle.sp_types.specs.Types.{Ty}
use Rattle.sp_typed.specs.Exprs.{Expr}
use Rattle.sp_typed_units.specs.declared.declarations.Typed.{Typed}
use Rattle.sp_typed_units.specs.declared.items.Field.{Field}
use Rattle.sp_events.specs.declared.event.What.{What}
use Rattle.sp_meaning_states.specs.States.{Reading, State, End, Gives, Fine, Failed, Broke, Continued, Returned, Stopped, Backs, Rejected, Need, Unfinished, Result, Ends, ends, fails, done, got, chosen, local_of, set_local}
use Rattle.sp_meaning_states.specs.Scopes.{InAt, InTry, inside, leave_at}
use Rattle.sp_meaning_states.specs.Reads.{Ask, Reach, Read, Got, Lacks, Shorts, NoWord, on_read}
use Rattle.sp_meaning_states.specs.Telling.{Names}
use Rattle.sp_meaning.specs.Calls.{hooks_mean}
use Rattle.sp_meaning.specs.Units.{in_turn, stored, offset_here}
use Rattle.sp_code_meaning.specs.Calls as laid_calls
use Rattle.sp_meaning_units.specs.Openings.{ByBytes, ByPlace, Opens, Refuses, with_opened, inside_opened, settled, aimed, arrived, is_before}
use Rattle.sp_meaning_units.specs.Attributes.{Around, has, value_of}
use Rattle.sp_meaning_units.specs.Containers.{if_holds}
use Rattle.sp_meaning_units.specs.Fields.{where_there, is_body_of, bodies_for, has_meaning, asked, kept, parsed, offset_of, spec_means, read_means, tried_means, if_means, field_means}
use Rattle.sp_code_pieces.specs.Pieces.{Piece, Within, Settled, Step, Stored, When, Try, Unbuilt}
use Rattle.sp_code_pieces.specs.Locals.{number_type, where_asked, is_asked, has_bodies, keeps_offset, finish_locals, spec_type, type_behind, spec_locals, field_locals}
use Rattle.sp_code_pieces.specs.Steps.{by_option, asked_at, noted, store_by, spec_piece, field_step}
use Rattle.sp_code_pieces.specs.Steps as steps
use Rattle.sp_code_pieces.specs.Means.{asked_means, piece_means, store_means, step_means}
use Rattle.sp_law_meaning.specs.Laws.{Agree}
use Rattle.sp_law_meaning.specs.Standing.{ExprStands, AreHanded, ListStands}
use Rattle.sp_law_meaning.proofs.Agree.{Both, here, at_once, nothing, then_got, then_done, got_agree}
use Rattle.sp_law_meaning.proofs.Framed.{framed, Alike, alike}
use Rattle.sp_law_meaning.proofs.Calls.{hooks_same}
use Rattle.sp_law_pieces.specs.Laws.{FieldsAreOne}
use Rattle.sp_law_pieces.specs.Standing.{AskedStands, AttributesStand, FieldStands}
use Rattle.sp_law_pieces.specs.States.{Close, Low, OffsetAt}
use Rattle.sp_law_pieces.proofs.Low.{close_self, loose, agree_passes, sets_next, fewer, set_there, set_below, set_size}
use Rattle.sp_law_pieces.proofs.Asked.{holds_same, plainly_same}
use Rattle.sp_law_pieces.proofs.Opened.{inside_low, opened_same}
use Rattle.sp_law_pieces.proofs.Framed.{try_is_left}
use Rattle.sp_law_pieces.proofs.Onward.{with_local, close_trans, low_trans, BehindGives, GivesAgree, gives_behind, gives_got, gives_back, gives_more, got_got, got_by}
use Rattle.sp_law_pieces.proofs.Containers.{BodiesAt}
use Rattle.sp_law_pieces.proofs.Readings.{spec_same}
use Rattle.sp_law_pieces.proofs.Values.{asked_size, rebased, offset_close, keeps_value, by_finish, local_finish, by_is, local_is, by_through, local_through, finish_agrees}

stored_alike : (ws : List Val) (member : Option ℕ) (v : Val) → Alike ws (stored member v) (stored member v)
stored_alike ws (Some m) v = alike ws (stored (Some m) v) (stored (Some m) v) (λ st. here refl)
stored_alike ws None v = alike ws (stored None v) (stored None v) (λ st. here refl)

-- nothing more is done behind what is stored
stored_alone : (ws : List Val) (member : Option ℕ) (v : Val) → Alike ws (λ st. done (ends Fine) (stored member v st)) (stored member v)
stored_alone ws (Some m) v = alike ws (λ st. done (ends Fine) (stored (Some m) v st)) (stored (Some m) v) (λ st. here refl)
stored_alone ws None v = alike ws (λ st. done (ends Fine) (stored None v st)) (stored None v) (λ st. here refl)

module _ (names : Names) (hook_names : List (List ℕ)) (list : Typed) (limits : Limits) (reads : Reading → Ask → Read) (stands : ListStands list) (total n : ℕ)
    (enter also : ℕ → List Val → State → Result) where
  abbrev means : Piece → State → Result
  means p = piece_means names hook_names list limits reads n also p

  -- the bodies of a field and those of its elements are handed two values
  pub handed_for : (foreach : Bool) (hs : List ℕ) → AreHanded list 2 hs → AreHanded list 2 (bodies_for foreach list.hooks hs)
  handed_for foreach [] h = tt
  handed_for foreach (x ∷ hs) h = by_body (is_body_of foreach (slice_get list.hooks x)) (handed_for foreach hs h.1)
    where
      by_body : (b : Bool) → AreHanded list 2 (bodies_for foreach list.hooks hs) → AreHanded list 2 (if b then x ∷ bodies_for foreach list.hooks hs else bodies_for foreach list.hooks hs)
      by_body true k = (h.0, k)
      by_body false k = k

  -- a value is stored, and bodies run that find it and the offset in locals
  store_same : (hs : List ℕ) → AreHanded list 2 hs → (member : Option ℕ) (at v : ℕ) (us : List Val) → length us ≡ total → (offset : Val) → BodiesAt hs v us at offset → v + length (where_asked (has_bodies hs) number_type) ≤ total → (w : Val)
      → Both (Low v us) (in_turn (stored member w ∷ hooks_mean names hook_names list limits false n hs (w ∷ offset ∷ []) ∷ [])) (store_means names hook_names list limits reads n also (store_by list.hooks total member v at hs) w)
  store_same [] handed member at v us size offset b room w st ts r = loose v us _ _ (λ ws c. stored_alone ws member w) st ts r
  store_same (h ∷ hs) handed member at v us size offset b room w st ts r =
      keeps_value v v us (omega arith) (omega (arith, size, room)) w
      (in_turn (stored member w ∷ hooks_mean names hook_names list limits false n (h ∷ hs) (w ∷ offset ∷ []) ∷ []))
      (λ st. done (λ st. laid_calls.hooks_mean names hook_names list limits false n (h ∷ hs) (local_of st at ∷ local_of st v ∷ []) st) (stored member (local_of st v) st))
      (λ ws c known. then_done (Low (suc v) ws) (stored member w) (λ st. stored member (local_of st v) st)
      (hooks_mean names hook_names list limits false n (h ∷ hs) (w ∷ offset ∷ [])) (λ st. laid_calls.hooks_mean names hook_names list limits false n (h ∷ hs) (local_of st at ∷ local_of st v ∷ []) st)
      (with_local (suc v) ws (Low (suc v) ws) v w (omega arith) known (stored member w) (stored member) (loose (suc v) ws _ _ (λ vs d. stored_alike vs member w)))
      (with_local (suc v) ws (Low (suc v) ws) at offset (omega (arith, b.0)) (c.same at b.0 ∙ b.1) (hooks_mean names hook_names list limits false n (h ∷ hs) (w ∷ offset ∷ []))
      (λ p st. laid_calls.hooks_mean names hook_names list limits false n (h ∷ hs) (p ∷ local_of st v ∷ []) st)
      (with_local (suc v) ws (Low (suc v) ws) v w (omega arith) known (hooks_mean names hook_names list limits false n (h ∷ hs) (w ∷ offset ∷ []))
      (λ q. laid_calls.hooks_mean names hook_names list limits false n (h ∷ hs) (offset ∷ q ∷ []))
      (loose (suc v) ws _ _ (λ vs d. hooks_same names hook_names list limits stands false n (h ∷ hs) vs (w ∷ offset ∷ []) handed)))))
      st ts r

  -- what follows a parse that agrees, from where the offset is known
  follows : (f : Field) → AttributesStand list.functions f.attributes → AreHanded list 2 f.hooks → (t : Ty) (at v behind : ℕ) (us vs : List Val) → at ≤ v → v + length (where_asked (has_bodies (bodies_for false list.hooks f.hooks)) number_type) ≤ behind → behind + length (finish_locals f.attributes t) ≤ total
      → Close at us vs → length vs ≡ total → (offset : Val) → BodiesAt (bodies_for false list.hooks f.hooks) v vs at offset → (r s : Result) → GivesAgree (Low v vs) (Low at us) r s
      → Agree (Low at us) (got (λ w. kept names hook_names list limits reads n enter f w offset) (by_finish names hook_names list limits reads stands total n enter also None None f.attributes r))
      (got (store_means names hook_names list limits reads n also (store_by list.hooks total f.member v at (bodies_for false list.hooks f.hooks))) (local_finish names hook_names list limits reads stands total n enter also None None behind f.attributes s))
  follows f k handed t at v behind us vs under room fits c size offset b r s h =
      let pass : (st ts : State) → Low v vs st ts → Low at us st ts = low_trans at v us vs under c in
      gives_back (Low at us) _ _
      (gives_got (Low v vs) (Low at us) (Low at us) (λ st ts q. q) _ _ _ _
      (finish_agrees names hook_names list limits reads stands total n enter also None None v behind vs (omega (arith, room)) size tt f.attributes k t fits (Low at us) pass r s h)
      (λ w st ts q. agree_passes (Low v vs) (Low at us) pass _ _ (store_same (bodies_for false list.hooks f.hooks) (handed_for false f.hooks handed) f.member at v vs size offset b (omega (arith, room, fits)) w st ts q)))

  -- A part that may be told the offset first, in a local.
  noted_agrees : (keeps : Bool) (t : Ty) (at : ℕ) (us : List Val) → length us ≡ total → at + length (where_asked keeps t) ≤ total → (offset : Val) (g : State → Result) (p : Piece)
      → ((ws : List Val) → Close at us ws → length ws ≡ total → (keeps ≡ true → slice_get ws at ≡ Some offset) → Both (Low (at + length (where_asked keeps t)) ws) g (means p))
      → (st ts : State) → Low at us st ts → offset_here st ≡ offset
      → (vs : List Val) × (Close at us vs × (length vs ≡ total) × (keeps ≡ true → slice_get vs at ≡ Some offset) × Agree (Low (at + length (where_asked keeps t)) vs) (g st) (means (noted keeps at p) ts))
  noted_agrees true t at us size room offset g p h st ts r e =
      let vs : List Val = slice_set r.own at offset in
      let c : Close at us vs = close_trans at at us r.own vs (omega arith) r.close (record { size = set_size r.own at offset; same = λ i k. set_below r.own at i offset k }) in
      let s : length vs ≡ total = set_size r.own at offset ∙ r.close.size ∙ size in
      let there : at < length r.own = omega (arith, room, r.close.size, size) in (
        vs,
        (
          c,
          s,
          (λ q. set_there r.own at offset there),
          subst (λ x. Agree (Low (at + 1) vs) (g st) (means p (set_local at x ts))) (sym (ap offset_here r.are ∙ e))
              (h vs c s (λ q. set_there r.own at offset there) st (set_local at offset ts)
              (fewer (at + 1) (suc at) vs (omega arith) st (set_local at offset ts) (sets_next at r.own offset there st ts (record { own = r.own; close = close_self at r.own; are = r.are })))),
        ),
      )
  noted_agrees false t at us size room offset g p h st ts r e = (
    r.own,
    (
      r.close,
      r.close.size ∙ size,
      (λ q. absurd (let z : false ≡ true = q in cc)),
      h r.own r.close (r.close.size ∙ size) (λ q. absurd (let z : false ≡ true = q in cc)) st ts (record { own = r.own; close = close_self (at + 0) r.own; are = r.are }),
    ),
  )

  -- the same at another place, once the input is there
  abbrev Placed : (keeps : Bool) (t : Ty) (at : ℕ) (us : List Val) (to : Val) (g : State → Result) (p : Piece) (st ts : State) → Type 0
  Placed keeps t at us to g p st ts =
      (vs : List Val) × (Close at us vs × (length vs ≡ total) × (keeps ≡ true → slice_get vs at ≡ Some (offset_of to st))
      × GivesAgree (Low (at + length (where_asked keeps t)) vs) (Low at us) (inside_opened ByPlace to (settled reads g) st) (inside_opened ByPlace to (settled reads (means (noted keeps at p))) ts))

  leave_low : (at : ℕ) (us : List Val) (level start : ℕ) (st ts : State) → Low at us st ts → Low at us (leave_at level start st) (leave_at level start ts)
  leave_low at us level start st ts r = record { own = r.own; close = r.close; are = ap (leave_at level start) r.are }

  -- what leaves the place
  at_gives : (v at : ℕ) (us vs : List Val) → ((st ts : State) → Low v vs st ts → Low at us st ts) → (level start : ℕ) (how : End) (es : List What) (st ts : State) → BehindGives (Low v vs) (Low at us) how st ts
      → GivesAgree (Low v vs) (Low at us) (inside (InAt level start) (Ends how es st)) (inside (InAt level start) (Ends how es ts))
  at_gives v at us vs pass level start (Gives w) es st ts b = record { how = refl; told = refl; behind = leave_low v vs level start st ts b }
  at_gives v at us vs pass level start Fine es st ts b = record { how = refl; told = refl; behind = tt }
  at_gives v at us vs pass level start (Failed e) es st ts b = record { how = refl; told = refl; behind = leave_low at us level start st ts b }
  at_gives v at us vs pass level start Broke es st ts b = record { how = refl; told = refl; behind = leave_low at us level start st ts b }
  at_gives v at us vs pass level start Continued es st ts b = record { how = refl; told = refl; behind = leave_low at us level start st ts b }
  at_gives v at us vs pass level start (Returned w) es st ts b = record { how = refl; told = refl; behind = leave_low at us level start st ts b }
  at_gives v at us vs pass level start Stopped es st ts b = record { how = refl; told = refl; behind = leave_low at us level start st ts b }
  at_gives v at us vs pass level start Backs es st ts b = record { how = refl; told = refl; behind = leave_low at us level start st ts b }
  at_gives v at us vs pass level start Rejected es st ts b = record { how = refl; told = refl; behind = leave_low at us level start st ts b }
  at_gives v at us vs pass level start (Need m) es st ts b = record { how = refl; told = refl; behind = tt }
  at_gives v at us vs pass level start Unfinished es st ts b = record { how = refl; told = refl; behind = tt }

  inside_gives : (v at : ℕ) (us vs : List Val) → ((st ts : State) → Low v vs st ts → Low at us st ts) → (level start : ℕ) (r s : Result) → GivesAgree (Low v vs) (Low at us) r s
      → GivesAgree (Low v vs) (Low at us) (inside (InAt level start) r) (inside (InAt level start) s)
  inside_gives v at us vs pass level start (Ends how es st) (Ends also fs ts) a =
      subst (λ (e : End). GivesAgree (Low v vs) (Low at us) (inside (InAt level start) (Ends how es st)) (inside (InAt level start) (Ends e fs ts))) a.how
      (subst (λ (gs : List What). GivesAgree (Low v vs) (Low at us) (inside (InAt level start) (Ends how es st)) (inside (InAt level start) (Ends how gs ts))) a.told (at_gives v at us vs pass level start how es st ts a.behind))

  -- What is known once the offset may stand in its local.
  abbrev Knows : (keeps : Bool) (at : ℕ) → List Val → List Val → Val → Type 0
  Knows keeps at us vs offset = Close at us vs × (length vs ≡ total) × (keeps ≡ true → slice_get vs at ≡ Some offset)

  abbrev Inner : (keeps : Bool) (t : Ty) (at : ℕ) (us : List Val) (offset : Val) (g : State → Result) (p : Piece) → Type 0
  Inner keeps t at us offset g p =
      (ws : List Val) → Close at us ws → length ws ≡ total → (keeps ≡ true → slice_get ws at ≡ Some offset) → Both (Low (at + length (where_asked keeps t)) ws) g (means p)

  -- something that is known, whatever it is
  knows : (keeps : Bool) (at : ℕ) (us : List Val) → length us ≡ total → (t : Ty) → at + length (where_asked keeps t) ≤ total → (offset : Val) → (vs : List Val) × Knows keeps at us vs offset
  knows true at us size t room offset =
      (slice_set us at offset, (record { size = set_size us at offset; same = λ i k. set_below us at i offset k }, set_size us at offset ∙ size, λ q. set_there us at offset (omega (arith, room, size))))
  knows false at us size t room offset = (us, (close_self at us, size, λ q. absurd (let z : false ≡ true = q in cc)))

  -- once a place is there
  arrived_gives : (keeps : Bool) (t : Ty) (at : ℕ) (us : List Val) → length us ≡ total → at + length (where_asked keeps t) ≤ total → (to : ℕ) (g : State → Result) (p : Piece) (st ts : State) → Inner keeps t at us (offset_of (place to) st) g p → Low at us st ts
      → (vs : List Val) × (Knows keeps at us vs (offset_of (place to) st)
      × GivesAgree (Low (at + length (where_asked keeps t)) vs) (Low at us) (done g (ends Fine (arrived to (aimed to st)))) (done (means (noted keeps at p)) (ends Fine (arrived to (aimed to ts)))))
  arrived_gives keeps t at us size room to g p st ts h r =
      let x = noted_agrees keeps t at us size room (offset_of (place to) st) g p h (arrived to (aimed to st)) (arrived to (aimed to ts)) (record { own = r.own; close = r.close; are = ap (λ ts. arrived to (aimed to ts)) r.are }) refl in (
        x.0,
        (
          (x.1.0, x.1.1, x.1.2),
          gives_behind (Low (at + length (where_asked keeps t)) x.0) (Low at us) [] _ _
              (gives_more (Low (at + length (where_asked keeps t)) x.0) (Low (at + length (where_asked keeps t)) x.0) (Low at us) (λ st ts q. q) (low_trans at (at + length (where_asked keeps t)) us x.0 (omega arith) x.1.0) _ _ x.1.3),
        ),
      )

  -- once a place is there, or isn't
  settled_gives : (keeps : Bool) (t : Ty) (at : ℕ) (us : List Val) → length us ≡ total → at + length (where_asked keeps t) ≤ total → (to : ℕ) (g : State → Result) (p : Piece) (st ts : State) → Inner keeps t at us (offset_of (place to) st) g p → Low at us st ts → (x : Read)
      → (vs : List Val) × (Knows keeps at us vs (offset_of (place to) st)
      × GivesAgree (Low (at + length (where_asked keeps t)) vs) (Low at us) (done g (on_read x (λ k n bs st. ends Fine (arrived to st)) (λ st. ends Fine (arrived to st)) (aimed to st)))
      (done (means (noted keeps at p)) (on_read x (λ k n bs st. ends Fine (arrived to st)) (λ st. ends Fine (arrived to st)) (aimed to ts))))
  settled_gives keeps t at us size room to g p st ts h r (Got k n bs) = arrived_gives keeps t at us size room to g p st ts h r
  settled_gives keeps t at us size room to g p st ts h r NoWord = arrived_gives keeps t at us size room to g p st ts h r
  settled_gives keeps t at us size room to g p st ts h r (Lacks m) =
      let x = knows keeps at us size t room (offset_of (place to) st) in
      (x.0, (x.1, record { how = refl; told = refl; behind = tt }))
  settled_gives keeps t at us size room to g p st ts h r (Shorts overs) =
      let x = knows keeps at us size t room (offset_of (place to) st) in (
        x.0,
        (
          x.1,
          subst (λ ts. GivesAgree (Low (at + length (where_asked keeps t)) x.0) (Low at us) (done g (on_read (Shorts overs) (λ k n bs st. ends Fine (arrived to st)) (λ st. ends Fine (arrived to st)) (aimed to st)))
              (done (means (noted keeps at p)) (on_read (Shorts overs) (λ k n bs st. ends Fine (arrived to st)) (λ st. ends Fine (arrived to st)) (aimed to ts)))) (sym r.are)
              (record { how = refl; told = refl; behind = record { own = r.own; close = r.close; are = refl } }),
        ),
      )

  -- a value that is no place, or one in front of what may be asked
  refused_gives : (keeps : Bool) (t : Ty) (at : ℕ) (us : List Val) → length us ≡ total → at + length (where_asked keeps t) ≤ total → (offset : Val) (kind : PKind) (st ts : State) → Low at us st ts
      → (vs : List Val) × (Knows keeps at us vs offset × GivesAgree (Low (at + length (where_asked keeps t)) vs) (Low at us) (fails kind st) (fails kind ts))
  refused_gives keeps t at us size room offset kind st ts r =
      let x = knows keeps at us size t room offset in (
        x.0,
        (
          x.1,
          subst (λ ts. GivesAgree (Low (at + length (where_asked keeps t)) x.0) (Low at us) (fails kind st) (fails kind ts)) (sym r.are)
              (record { how = refl; told = refl; behind = record { own = r.own; close = r.close; are = refl } }),
        ),
      )

  -- a parse at another place
  placed_gives : (keeps : Bool) (t : Ty) (at : ℕ) (us : List Val) → length us ≡ total → at + length (where_asked keeps t) ≤ total → (to : Val) (g : State → Result) (p : Piece) (st ts : State) → Inner keeps t at us (offset_of to st) g p → Low at us st ts
      → (vs : List Val) × (Knows keeps at us vs (offset_of to st)
      × GivesAgree (Low (at + length (where_asked keeps t)) vs) (Low at us) (inside_opened ByPlace to (settled reads g) st) (inside_opened ByPlace to (settled reads (means (noted keeps at p))) ts))
  placed_gives keeps t at us size room (place to) g p st ts h r =
      subst (λ ts. (vs : List Val) × (Knows keeps at us vs (offset_of (place to) st)
      × GivesAgree (Low (at + length (where_asked keeps t)) vs) (Low at us) (inside_opened ByPlace (place to) (settled reads g) st) (inside_opened ByPlace (place to) (settled reads (means (noted keeps at p))) ts))) (sym r.are)
      (by_test (is_before to st))
    where
      by_test : (b : Bool) → (vs : List Val) × (Knows keeps at us vs (offset_of (place to) st)
          × GivesAgree (Low (at + length (where_asked keeps t)) vs) (Low at us) (with_opened (if b then Refuses InputBefore else Opens (InAt st.level st.now.place) (aimed to st)) (settled reads g) st)
          (with_opened (if b then Refuses InputBefore else Opens (InAt st.level st.now.place) (aimed to (framed r.own st))) (settled reads (means (noted keeps at p))) (framed r.own st)))
      by_test true = refused_gives keeps t at us size room (offset_of (place to) st) InputBefore st (framed r.own st) (record { own = r.own; close = r.close; are = refl })
      by_test false =
          let x = settled_gives keeps t at us size room to g p st (framed r.own st) h (record { own = r.own; close = r.close; are = refl }) (reads (aimed to st).now (Reach to)) in
          (x.0, (x.1.0, inside_gives (at + length (where_asked keeps t)) at us x.0 (low_trans at (at + length (where_asked keeps t)) us x.0 (omega arith) x.1.0.0) st.level st.now.place _ _ x.1.1))
  placed_gives keeps t at us size room void g p st ts h r = refused_gives keeps t at us size room _ BadSize st ts r
  placed_gives keeps t at us size room (bool b) g p st ts h r = refused_gives keeps t at us size room _ BadSize st ts r
  placed_gives keeps t at us size room (uint w m) g p st ts h r = refused_gives keeps t at us size room _ BadSize st ts r
  placed_gives keeps t at us size room (int w m) g p st ts h r = refused_gives keeps t at us size room _ BadSize st ts r
  placed_gives keeps t at us size room (bytes b) g p st ts h r = refused_gives keeps t at us size room _ BadSize st ts r
  placed_gives keeps t at us size room (str b) g p st ts h r = refused_gives keeps t at us size room _ BadSize st ts r
  placed_gives keeps t at us size room (enum k m) g p st ts h r = refused_gives keeps t at us size room _ BadSize st ts r
  placed_gives keeps t at us size room (bits k ms) g p st ts h r = refused_gives keeps t at us size room _ BadSize st ts r
  placed_gives keeps t at us size room (tuple vs) g p st ts h r = refused_gives keeps t at us size room _ BadSize st ts r
  placed_gives keeps t at us size room (vector vs) g p st ts h r = refused_gives keeps t at us size room _ BadSize st ts r
  placed_gives keeps t at us size room (set vs) g p st ts h r = refused_gives keeps t at us size room _ BadSize st ts r
  placed_gives keeps t at us size room (map es) g p st ts h r = refused_gives keeps t at us size room _ BadSize st ts r
  placed_gives keeps t at us size room (unit u) g p st ts h r = refused_gives keeps t at us size room _ BadSize st ts r

  module _ (enters : (ws : List Val) (u : ℕ) (vs : List Val) → Alike ws (enter u vs) (also u (reverse vs))) (f : Field) (k : FieldStands list f) (b c : Option ℕ) where
    abbrev bodies : List ℕ
    bodies = bodies_for false list.hooks f.hooks

    abbrev around : Option Val → Around
    around offset = record { byte_order = b; bit_order = c; offset = offset }

    abbrev parse : Option Val → State → Result
    parse offset = spec_means names hook_names list limits reads n enter (around offset) (is_some f.member) (bodies_for true list.hooks f.hooks) f.attributes f.spec

    abbrev piece_at : ℕ → Option ℕ → Piece
    piece_at to o = spec_piece list.hooks total to (around None) o (is_some f.member) (bodies_for true list.hooks f.hooks) f.attributes f.spec

    -- what is parsed behind the locals of its field
    parse_same : (v to : ℕ) → v ≤ to → (ws : List Val) → length ws ≡ total → (offset : Option Val) (o : Option ℕ) → OffsetAt v ws offset o → to + length (spec_locals (is_some o) (bodies_for true list.hooks f.hooks) f.attributes f.spec) ≤ total
        → Both (Low v ws) (parse offset) (means (piece_at to o))
    parse_same v to under ws size offset o known room =
        rebased v to ws under (parse offset) (means (piece_at to o))
        (λ vs d. spec_same names hook_names list limits reads stands total n enter also enters f.spec k.spec to vs (d.size ∙ size) offset o (offset_close v to ws vs under d offset o known) (is_some f.member) (bodies_for true list.hooks f.hooks) (handed_for true f.hooks k.hooks) b c f.attributes k.attributes room)

    -- where the locals of a field stand, that may keep its offset
    abbrev value_at : ℕ → Bool → ℕ
    value_at at keeps = at + length (where_asked keeps f.ty)

    abbrev behind_at : ℕ → Bool → ℕ
    behind_at at keeps = value_at at keeps + length (where_asked (has_bodies bodies) f.ty)

    abbrev inner_at : ℕ → Bool → ℕ
    inner_at at keeps = behind_at at keeps + length (finish_locals f.attributes (spec_type f.spec))

    bodies_know : (hs : List ℕ) (from : Option Expr) (at : ℕ) (vs : List Val) (offset : Val) → (keeps_offset hs from ≡ true → slice_get vs at ≡ Some offset) → BodiesAt hs (at + length (where_asked (keeps_offset hs from) f.ty)) vs at offset
    bodies_know [] from at vs offset h = tt
    bodies_know (x ∷ hs) from at vs offset h = (omega arith, h refl)

    -- the sum of its locals
    field_size : (hs : List ℕ) (from : Option Expr) (u v : Ty) (os : List Ty) → length (where_asked (keeps_offset hs from) number_type ++ (where_asked (has_bodies hs) u ++ (finish_locals f.attributes (spec_type f.spec) ++ os)))
        ≡ length (where_asked (keeps_offset hs from) v) + (length (where_asked (has_bodies hs) v) + (length (finish_locals f.attributes (spec_type f.spec)) + length os))
    field_size hs from u v os =
        length-append {A = Ty} (where_asked (keeps_offset hs from) number_type) (where_asked (has_bodies hs) u ++ (finish_locals f.attributes (spec_type f.spec) ++ os))
        ∙ ap (λ m. m + length (where_asked (has_bodies hs) u ++ (finish_locals f.attributes (spec_type f.spec) ++ os))) (asked_size (keeps_offset hs from) number_type v)
        ∙ ap (λ m. length (where_asked (keeps_offset hs from) v) + m)
        (length-append {A = Ty} (where_asked (has_bodies hs) u) (finish_locals f.attributes (spec_type f.spec) ++ os)
        ∙ ap (λ m. m + length (finish_locals f.attributes (spec_type f.spec) ++ os)) (asked_size (has_bodies hs) u v)
        ∙ ap (λ m. length (where_asked (has_bodies hs) v) + m) (length-append {A = Ty} (finish_locals f.attributes (spec_type f.spec)) os))

    -- a field by its sources
    abbrev by_sources : Option Expr → Option Expr → State → Result
    by_sources x y st =
        where_there x (λ e st1. got (λ d. parsed names hook_names list limits reads n enter f (inside_opened ByBytes d (parse (Some (offset_here st)))) (offset_here st)) (asked names hook_names list limits reads n enter None None e st1))
        (where_there y (λ e st. got (λ to st. parsed names hook_names list limits reads n enter f (inside_opened ByPlace to (settled reads (parse None))) (offset_of to st) st) (asked names hook_names list limits reads n enter None None e st))
        (parsed names hook_names list limits reads n enter f (parse None) (offset_here st))) st

    abbrev local_sources : ℕ → Option Expr → Option Expr → Step
    local_sources at x y =
        let keeps = keeps_offset bodies x in
        let inner = piece_at (inner_at at keeps) (if is_asked x then Some at else None) in
        Stored (store_by list.hooks total f.member (value_at at keeps) at bodies)
        (steps.finished list.hooks total (behind_at at keeps) f.attributes None
        (by_option x (λ e. noted keeps at (Within ByBytes (asked_at list.hooks total 0 None e) inner)) (by_option y (λ e. Within ByPlace (asked_at list.hooks total 0 None e) (Settled (noted keeps at inner))) (noted keeps at inner))))

    -- behind a parse from here, or from bytes
    from_here : (from : Option Expr) (at : ℕ) (us : List Val) → length us ≡ total → inner_at at (keeps_offset bodies from) ≤ total → (g : State → Result) (p : Piece) (st ts : State) → Low at us st ts
        → ((ws : List Val) → Close at us ws → length ws ≡ total → (keeps_offset bodies from ≡ true → slice_get ws at ≡ Some (offset_here st)) → Both (Low (value_at at (keeps_offset bodies from)) ws) g (means p))
        → Agree (Low at us) (parsed names hook_names list limits reads n enter f g (offset_here st) st)
        (got (store_means names hook_names list limits reads n also (store_by list.hooks total f.member (value_at at (keeps_offset bodies from)) at bodies))
        (means (steps.finished list.hooks total (behind_at at (keeps_offset bodies from)) f.attributes None (noted (keeps_offset bodies from) at p)) ts))
    from_here from at us size room g p st ts r h =
        let keeps : Bool = keeps_offset bodies from in
        let x = noted_agrees keeps f.ty at us size (omega (arith, room)) (offset_here st) g p h st ts r refl in
        subst (λ a. Agree (Low at us) (got (λ w. kept names hook_names list limits reads n enter f w (offset_here st)) a)
        (got (store_means names hook_names list limits reads n also (store_by list.hooks total f.member (value_at at keeps) at bodies)) (means (steps.finished list.hooks total (behind_at at keeps) f.attributes None (noted keeps at p)) ts)))
        (sym (by_is names hook_names list limits reads stands total n enter also None None f.attributes g st))
        (subst (λ s. Agree (Low at us) (got (λ w. kept names hook_names list limits reads n enter f w (offset_here st)) (by_finish names hook_names list limits reads stands total n enter also None None f.attributes (g st)))
        (got (store_means names hook_names list limits reads n also (store_by list.hooks total f.member (value_at at keeps) at bodies)) s))
        (sym (local_is names hook_names list limits reads stands total n enter also None None (behind_at at keeps) f.attributes (noted keeps at p) ts))
        (follows f k.attributes k.hooks (spec_type f.spec) at (value_at at keeps) (behind_at at keeps) us x.0 (omega arith) (omega (arith, asked_size (has_bodies bodies) number_type f.ty)) room x.1.0 x.1.1 (offset_here st)
        (bodies_know bodies from at x.0 (offset_here st) x.1.2) (g st) (means (noted keeps at p) ts)
        (gives_more (Low (value_at at keeps) x.0) (Low (value_at at keeps) x.0) (Low at us) (λ st ts q. q) (low_trans at (value_at at keeps) us x.0 (omega arith) x.1.0) _ _ x.1.3)))

    keeps_from : (hs : List ℕ) (e : Expr) → keeps_offset hs (Some e) ≡ true
    keeps_from [] e = refl
    keeps_from (x ∷ hs) e = refl

    kept_before : (keeps : Bool) (at : ℕ) → keeps ≡ true → at < at + length (where_asked keeps f.ty)
    kept_before true at q = omega arith
    kept_before false at q = absurd (let z : false ≡ true = q in cc)

    abbrev RoomFor : ℕ → Option Expr → Type 0
    RoomFor at x = inner_at at (keeps_offset bodies x) + length (spec_locals (is_asked x) (bodies_for true list.hooks f.hooks) f.attributes f.spec) ≤ total

    -- from bytes
    bytes_same : (e : Expr) → ExprStands false list.functions e → (at : ℕ) (us : List Val) → length us ≡ total → RoomFor at (Some e) → (y : Option Expr) → Both (Low at us) (by_sources (Some e) y) (step_means names hook_names list limits reads n also (local_sources at (Some e) y))
    bytes_same e well at us size room y st ts r =
        let keeps : Bool = keeps_offset bodies (Some e) in
        let o : Val = offset_here st in
        let into : Val → State → Result = λ d. inside_opened ByBytes d (parse (Some o)) in
        let whole : State → Result = λ st. got into (asked names hook_names list limits reads n enter None None e st) in
        let store : Val → State → Result = λ w. kept names hook_names list limits reads n enter f w o in
        let finish : Result → Result = by_finish names hook_names list limits reads stands total n enter also None None f.attributes in
        subst (λ a. Agree (Low at us) a (step_means names hook_names list limits reads n also (local_sources at (Some e) y) ts))
        (ap (got store) (by_is names hook_names list limits reads stands total n enter also None None f.attributes whole st ∙ by_through names hook_names list limits reads stands total n enter also None None f.attributes into (asked names hook_names list limits reads n enter None None e st))
        ∙ got_got store (λ d st. finish (into d st)) (asked names hook_names list limits reads n enter None None e st)
        ∙ got_by (λ d st. got store (finish (into d st))) (λ d st. parsed names hook_names list limits reads n enter f (into d) o st)
        (λ d st. ap (got store) (sym (by_is names hook_names list limits reads stands total n enter also None None f.attributes (into d) st))) (asked names hook_names list limits reads n enter None None e st))
        (from_here (Some e) at us size (omega (arith, room)) whole (Within ByBytes (asked_at list.hooks total 0 None e) (piece_at (inner_at at keeps) (Some at))) st ts r
        (λ ws d s known. then_got (Low (value_at at keeps) ws) _ _ _ _ (plainly_same names hook_names list limits reads stands total n enter also (value_at at keeps) ws s None None tt e well)
        (λ v. opened_same (value_at at keeps) ws ByBytes v _ _
        (parse_same (value_at at keeps) (inner_at at keeps) (omega arith) ws s (Some o) (Some at) (kept_before keeps at (keeps_from bodies e), known (keeps_from bodies e)) room))))

    -- from here
    here_same : (at : ℕ) (us : List Val) → length us ≡ total → RoomFor at None → Both (Low at us) (by_sources None None) (step_means names hook_names list limits reads n also (local_sources at None None))
    here_same at us size room st ts r =
        let keeps : Bool = keeps_offset bodies None in
        from_here None at us size (omega (arith, room)) (parse None) (piece_at (inner_at at keeps) None) st ts r
        (λ ws d s known. parse_same (value_at at keeps) (inner_at at keeps) (omega arith) ws s None None tt room)

    -- from another place
    place_same : (e : Expr) → ExprStands false list.functions e → (at : ℕ) (us : List Val) → length us ≡ total → RoomFor at None → Both (Low at us) (by_sources None (Some e)) (step_means names hook_names list limits reads n also (local_sources at None (Some e)))
    place_same e well at us size room st ts r =
        let keeps : Bool = keeps_offset bodies None in
        let inner : Piece = piece_at (inner_at at keeps) None in
        let into : Val → State → Result = λ to. inside_opened ByPlace to (settled reads (means (noted keeps at inner))) in
        let store : Val → State → Result = store_means names hook_names list limits reads n also (store_by list.hooks total f.member (value_at at keeps) at bodies) in
        let finish : Result → Result = local_finish names hook_names list limits reads stands total n enter also None None (behind_at at keeps) f.attributes in
        let ask : Result = asked_means names hook_names list limits reads n also (asked_at list.hooks total 0 None e) ts in
        subst (λ b. Agree (Low at us) (by_sources None (Some e) st) b)
        (sym (ap (got store) (local_is names hook_names list limits reads stands total n enter also None None (behind_at at keeps) f.attributes (Within ByPlace (asked_at list.hooks total 0 None e) (Settled (noted keeps at inner))) ts
        ∙ local_through names hook_names list limits reads stands total n enter also None None (behind_at at keeps) f.attributes into ask) ∙ got_got store (λ to st. finish (into to st)) ask))
        (got_agree (Low at us) (Low at us) (λ st ts q. q) _ _ _ _ (plainly_same names hook_names list limits reads stands total n enter also at us size None None tt e well st ts r)
        (λ to st ts r.
        let x = placed_gives keeps f.ty at us size (omega (arith, room)) to (parse None) inner st ts (λ ws d s known. parse_same (value_at at keeps) (inner_at at keeps) (omega arith) ws s None None tt room) r in
        subst (λ a. Agree (Low at us) (got (λ w. kept names hook_names list limits reads n enter f w (offset_of to st)) a) (got store (finish (into to ts))))
        (sym (by_is names hook_names list limits reads stands total n enter also None None f.attributes (inside_opened ByPlace to (settled reads (parse None))) st))
        (follows f k.attributes k.hooks (spec_type f.spec) at (value_at at keeps) (behind_at at keeps) us x.0 (omega arith) (omega (arith, asked_size (has_bodies bodies) number_type f.ty)) (omega (arith, room)) x.1.0.0 x.1.0.1 (offset_of to st)
        (bodies_know bodies None at x.0 (offset_of to st) x.1.0.2) _ _ x.1.1)))

    -- wherever it is parsed
    read_same : (at : ℕ) (us : List Val) → length us ≡ total → RoomFor at (value_of name_is.ParseFrom f.attributes)
        → Both (Low at us) (read_means names hook_names list limits reads n enter (around None) f) (step_means names hook_names list limits reads n also (local_sources at (value_of name_is.ParseFrom f.attributes) (value_of name_is.ParseAt f.attributes)))
    read_same at us size room = by_options (value_of name_is.ParseFrom f.attributes) (value_of name_is.ParseAt f.attributes) (k.attributes name_is.ParseFrom) (k.attributes name_is.ParseAt) room
      where
        by_options : (x y : Option Expr) → AskedStands list.functions false x → AskedStands list.functions false y → RoomFor at x → Both (Low at us) (by_sources x y) (step_means names hook_names list limits reads n also (local_sources at x y))
        by_options (Some e) y s t room = bytes_same e s at us size room y
        by_options None (Some e) s t room = place_same e t at us size room
        by_options None None s t room = here_same at us size room

    -- a step back leaves the field
    tried_same : (at : ℕ) (us : List Val) (g : State → Result) (s : Step) → Both (Low at us) g (step_means names hook_names list limits reads n also s) → (b : Bool)
        → Both (Low at us) (λ st. if b then inside (InTry st.tries st.now.place f.member) (g (record st { tries = true })) else g st) (step_means names hook_names list limits reads n also (if b then Try f.member s else s))
    tried_same at us g s h false st ts r = h st ts r
    tried_same at us g s h true st ts r =
        subst (λ ts. Agree (Low at us) (inside (InTry st.tries st.now.place f.member) (g (record st { tries = true }))) (inside (InTry ts.tries ts.now.place f.member) (step_means names hook_names list limits reads n also s (record ts { tries = true })))) (sym r.are)
        (inside_low at us (InTry st.tries st.now.place f.member) (try_is_left st.tries st.now.place f.member) _ _ (h (record st { tries = true }) (record (framed r.own st) { tries = true }) (record { own = r.own; close = r.close; are = refl })))

    -- what is read where an expression holds
    when_same : (at : ℕ) (us : List Val) → length us ≡ total → (x : Option Expr) → AskedStands list.functions false x → (g : State → Result) (s : Step) → Both (Low at us) g (step_means names hook_names list limits reads n also s)
        → Both (Low at us) (where_there x (λ e. if_holds (asked names hook_names list limits reads n enter None None e) g (ends Fine)) g) (step_means names hook_names list limits reads n also (by_option x (λ e. When (asked_at list.hooks total 0 None e) s) s))
    when_same at us size None w g s h = h
    when_same at us size (Some e) w g s h = holds_same at us _ _ _ _ _ _ (plainly_same names hook_names list limits reads stands total n enter also at us size None None tt e w) h (at_once (Low at us) Fine)

    pub field_same : (at : ℕ) (us : List Val) → length us ≡ total → at + length (field_locals list.hooks f) ≤ total
        → Both (Low at us) (field_means names hook_names list limits reads n enter (around None) f) (step_means names hook_names list limits reads n also (field_step list.hooks total at (around None) f))
    field_same at us size room = by_meaning (has_meaning f)
      where
        wide : at + length (where_asked (keeps_offset bodies (value_of name_is.ParseFrom f.attributes)) number_type ++ (where_asked (has_bodies bodies) (type_behind (value_of name_is.Convert f.attributes) (spec_type f.spec)) ++ (finish_locals f.attributes (spec_type f.spec)
            ++ spec_locals (is_asked (value_of name_is.ParseFrom f.attributes)) (bodies_for true list.hooks f.hooks) f.attributes f.spec))) ≤ total
        wide = room

        fits : RoomFor at (value_of name_is.ParseFrom f.attributes)
        fits =
            omega
            (arith, wide, field_size bodies (value_of name_is.ParseFrom f.attributes) (type_behind (value_of name_is.Convert f.attributes) (spec_type f.spec)) f.ty (spec_locals (is_asked (value_of name_is.ParseFrom f.attributes)) (bodies_for true list.hooks f.hooks) f.attributes f.spec))

        whole : Both (Low at us) (tried_means names hook_names list limits reads n enter (around None) f) (step_means names hook_names list limits reads n also (steps.tried list.hooks total f (local_sources at (value_of name_is.ParseFrom f.attributes) (value_of name_is.ParseAt f.attributes))))
        whole = tried_same at us (read_means names hook_names list limits reads n enter (around None) f) (local_sources at (value_of name_is.ParseFrom f.attributes) (value_of name_is.ParseAt f.attributes)) (read_same at us size fits) (has name_is.Try f.attributes)

        by_meaning : (m : Bool) → Both (Low at us) (chosen m (if_means names hook_names list limits reads n enter (around None) f) (ends Unfinished))
            (step_means names hook_names list limits reads n also (if m then by_option f.condition (λ e. When (asked_at list.hooks total 0 None e) (steps.tried list.hooks total f (local_sources at (value_of name_is.ParseFrom f.attributes) (value_of name_is.ParseAt f.attributes)))) (steps.tried list.hooks total f (local_sources at (value_of name_is.ParseFrom f.attributes) (value_of name_is.ParseAt f.attributes))) else Unbuilt))
        by_meaning true = when_same at us size f.condition k.condition _ _ whole
        by_meaning false = nothing (Low at us)

pub fields_are_one : FieldsAreOne
fields_are_one names hook_names list limits reads stands total n enter also enters f k at us size room b c = field_same names hook_names list limits reads stands total n enter also enters f k b c at us size room
