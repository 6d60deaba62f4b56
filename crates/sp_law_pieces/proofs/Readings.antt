-- Readings with their attributes, in both texts.
use Rattle.std.proofs.Common.{◌≡◌, ℕ, zero, suc, ◌+◌, ◌<◌, ◌≤◌, ◌/◌, Bool, true, false, List, [], ◌∷◌, ◌++◌, length, reverse, Option, Some, None, refl, sym, ap, ◌∙◌, subst, arith, length-append}
use Rattle.std.specs.Prelude.{slice_get, slice_set, is_some, if◌then◌else◌}
use Rattle.sp_base.specs.declared.places.Limits.{Limits}
use Rattle.sp_base.specs.declared.kinds.PKind.TheVariants.{BadSize}
use Rattle.sp_numbers.specs.declared.width.Width.TheVariants.{W64}
use Rattle.sp_words.specs.declared.words.AttributeName.TheVariants as name_is
use Rattle.sp_value.specs.Val.{Val, void, uint, bytes}
use Rattle.sp_types.specs.Types.{Ty}
use Rattle.sp_typed.specs.Exprs.{Expr}
use Rattle.sp_typed_units.specs.declared.attributes.Attribute.{Attribute}
use Rattle.sp_typed_units.specs.declared.declarations.Typed.{Typed}
use Rattle.sp_typed_units.specs.declared.readings.ReadOp.{ReadOp}
use Rattle.sp_typed_units.specs.declared.readings.ReadOp.TheVariants as read_is
use Rattle.sp_typed_units.specs.Specs.{Spec, read, unit_read, list_read, group_read}
use Rattle.sp_meaning_states.specs.States.{Reading, State, Gives, Unfinished, Result, ends, fails, got, set_local}
use Rattle.sp_meaning_states.specs.Reads as asks
use Rattle.sp_meaning_states.specs.Reads.{Ask, Bytes, Mark, Rest}
use Rattle.sp_meaning_states.specs.Types.{width_bytes}
use Rattle.sp_meaning_states.specs.Telling.{Names}
use Rattle.sp_meaning.specs.Integers.{IntegerForm, integer_type, is_little}
use Rattle.sp_meaning.specs.Operations.{known}
use Rattle.sp_meaning.specs.Units.{offset_here}
use Rattle.sp_meaning_units.specs.Openings.{BySize, ByMax, count_of}
use Rattle.sp_meaning_units.specs.Attributes.{Around, named, order_in, has, value_of, delimiter_of}
use Rattle.sp_meaning_units.specs.Leaves.{is_msb0, bitfield_value, sized_bytes, bytes_until, bytes_until_including, bytes_to_end}
use Rattle.sp_meaning_units.specs.Containers.{Ending, Counted, AtEnd, Until, While, UntilIncluding, Ahead, ending_of, ended_by, Loop, with_count, elements}
use Rattle.sp_meaning_units.specs.Fields.{where_there, is_sized_bytes, asked, integer_in, bytes_mean, one_means, in_view, in_views, goes_on_by, in_front_by, each_body, behind_by, element_offset, container_means, spec_means}
use Rattle.sp_code_pieces.specs.Pieces.{Piece, Read, Sized, Noted}
use Rattle.sp_code_pieces.specs.Pieces as pieces
use Rattle.sp_code_pieces.specs.Locals.{count_locals, offset_locals, finish_locals, spec_type, spec_locals}
use Rattle.sp_code_pieces.specs.Steps.{by_option, asked_at, noted, are_there, list_piece, spec_piece, one_piece, bytes_piece}
use Rattle.sp_code_pieces.specs.Steps as steps
use Rattle.sp_code_pieces.specs.Means.{piece_means}
use Rattle.sp_law_meaning.specs.Laws.{Agree}
use Rattle.sp_law_meaning.specs.Standing.{ExprStands, AreHanded, ListStands}
use Rattle.sp_law_meaning.proofs.Agree.{Same, Both, here, at_once, nothing, then_got, known_same}
use Rattle.sp_law_meaning.proofs.Framed.{Alike}
use Rattle.sp_law_pieces.specs.States.{Close, Low, OffsetAt}
use Rattle.sp_law_pieces.specs.Laws.{ReadingsAreOne}
use Rattle.sp_law_pieces.specs.Standing.{AskedStands, AttributesStand, SpecStands}
use Rattle.sp_law_pieces.proofs.Low.{close_self, loose, sets_next, fewer, set_there, set_below, set_size}
use Rattle.sp_law_pieces.proofs.Framed.{fails_same, taken_same, integer_same, sized_same}
use Rattle.sp_law_pieces.proofs.Asked.{plainly_same, nested_same}
use Rattle.sp_law_pieces.proofs.Onward.{set_above, sets_known, close_trans}
use Rattle.sp_law_pieces.proofs.Containers.{EndingStands, IsRead, BodiesAt, CountAt, elements_same}
use Rattle.sp_law_pieces.proofs.Values.{rebased, offset_close, finished_same, view_same}

-- how many locals a container has
list_size : (how : Ending) (own : List Ty) (t : Ty) (ts : List Ty) → length (count_locals how ++ (own ++ t ∷ ts)) ≡ length (count_locals how) + (length own + suc (length ts))
list_size how own t ts = length-append {A = Ty} (count_locals how) (own ++ t ∷ ts) ∙ ap (λ k. length (count_locals how) + k) (length-append {A = Ty} own (t ∷ ts))

-- the pieces of a container behind its count
abbrev many_at : ℕ → Option ℕ → Bool → List ℕ → Ending → (ℕ → Piece) → Typed → ℕ → Piece
many_at at o keeps hs how p list total =
    let own = at + length (count_locals how) in
    let l = own + length (offset_locals (is_some o) hs) in
    let loop : pieces.Loop =
    record {
      before = steps.before_by how at (at + 1);
      element = l;
      test = steps.test_by list.hooks total how l o;
      bodies = record { value = l; offset = steps.element_offset o own; numbers = hs };
      behind = steps.behind_by list.hooks total how l o;
      keeps = keeps;
    }
    in
    pieces.Many loop (noted (are_there (offset_locals (is_some o) hs)) own (p (l + 1)))

module _ (names : Names) (hook_names : List (List ℕ)) (list : Typed) (limits : Limits) (reads : Reading → Ask → asks.Read) (stands : ListStands list) (total n : ℕ)
    (enter also : ℕ → List Val → State → Result) (enters : (ws : List Val) (u : ℕ) (vs : List Val) → Alike ws (enter u vs) (also u (reverse vs))) where
  abbrev means : Piece → State → Result
  means p = piece_means names hook_names list limits reads n also p

  abbrev around : Option ℕ → Option ℕ → Option Val → Around
  around b c offset = record { byte_order = b; bit_order = c; offset = offset }

  -- leaves
  integer_read : (at : ℕ) (us : List Val) (x : Option IntegerForm) → Both (Low at us) (known x (integer_in names hook_names list limits reads n enter)) (means (by_option x (λ form. Read (pieces.Integer form)) pieces.Unread))
  integer_read at us (Some form) = loose at us _ _ (λ ws c. integer_same ws reads (width_bytes form.width) form.little form.signed)
  integer_read at us None = nothing (Low at us)

  bytes_read : (at : ℕ) (us : List Val) → length us ≡ total → (offset : Option Val) (o : Option ℕ) → OffsetAt at us offset o → (attributes : List Attribute) → AttributesStand list.functions attributes
      → Both (Low at us) (bytes_mean names hook_names list limits reads n enter attributes offset) (means (bytes_piece list.hooks total attributes o))
  bytes_read at us size offset o place attributes s = by_end (delimiter_of name_is.Until attributes) (delimiter_of name_is.UntilIncluding attributes) (has name_is.Eod attributes) (value_of name_is.Size attributes) (s name_is.Size)
    where
      by_end : (d w : Option (List ℕ)) (eod : Bool) (x : Option Expr) → AskedStands list.functions false x
          → Both (Low at us) (where_there d (bytes_until reads) (where_there w (bytes_until_including reads) (if eod then bytes_to_end reads else where_there x (λ e st. got (sized_bytes reads) (asked names hook_names list limits reads n enter None offset e st)) (ends Unfinished))))
          (means (by_option d (λ d. Read (pieces.Until d)) (by_option w (λ d. Read (pieces.UntilIncluding d)) (if eod then Read pieces.Rest else by_option x (λ e. Sized (asked_at list.hooks total 0 o e)) pieces.Unread))))
      by_end (Some d) w eod x s = loose at us _ _ (λ ws c. taken_same ws reads bytes (Mark d))
      by_end None (Some d) eod x s = loose at us _ _ (λ ws c. taken_same ws reads (λ bs. bytes (bs ++ d)) (Mark d))
      by_end None None true x s = loose at us _ _ (λ ws c. taken_same ws reads bytes Rest)
      by_end None None false (Some e) s =
          then_got (Low at us) _ _ _ _ (plainly_same names hook_names list limits reads stands total n enter also at us size offset o place e s) (λ v. loose at us _ _ (λ ws c. sized_same ws reads v))
      by_end None None false None s = nothing (Low at us)

  one_read : (at : ℕ) (us : List Val) → length us ≡ total → (offset : Option Val) (o : Option ℕ) → OffsetAt at us offset o → (b c : Option ℕ) (attributes : List Attribute) → AttributesStand list.functions attributes → (t : Ty) (op : ReadOp)
      → Both (Low at us) (one_means names hook_names list limits reads n enter (around b c offset) attributes t op) (means (one_piece list.hooks total (around b c None) attributes o t op))
  one_read at us size offset o place b c attributes s t read_is.Int = integer_read at us (integer_type b t)
  one_read at us size offset o place b c attributes s t (read_is.Bits k) =
      known_same (Low at us) (slice_get list.bitfields k) _ _ (λ x. loose at us _ _ (λ ws d. taken_same ws reads (bitfield_value k (is_little b) (is_msb0 c) x) (Bytes (x.width / 8))))
  one_read at us size offset o place b c attributes s t read_is.Bytes = bytes_read at us size offset o place attributes s
  one_read at us size offset o place b c attributes s t read_is.Void = at_once (Low at us) (Gives void)
  one_read at us size offset o place b c attributes s t _ = nothing (Low at us)

  -- the views of its attributes
  views_same : (at : ℕ) (us : List Val) → length us ≡ total → (offset : Option Val) (o : Option ℕ) → OffsetAt at us offset o → (attributes : List Attribute) → AttributesStand list.functions attributes → (s : Spec) (f : State → Result) (p : Piece) → Both (Low at us) f (means p)
      → Both (Low at us) (in_views names hook_names list limits reads n enter attributes offset s f) (means (steps.in_views list.hooks total attributes o s p))
  views_same at us size offset o place attributes stand s f p h = by_form (is_sized_bytes attributes s)
    where
      inner : Both (Low at us) (in_view names hook_names list limits reads n enter name_is.MaxSize ByMax attributes offset f) (means (steps.in_view list.hooks total name_is.MaxSize ByMax attributes o p))
      inner = view_same names hook_names list limits reads stands total n enter also offset o at us size place ByMax (value_of name_is.MaxSize attributes) (stand name_is.MaxSize) f p h

      by_form : (b : Bool) → Both (Low at us) (if b then in_view names hook_names list limits reads n enter name_is.MaxSize ByMax attributes offset f else in_view names hook_names list limits reads n enter name_is.Size BySize attributes offset (in_view names hook_names list limits reads n enter name_is.MaxSize ByMax attributes offset f))
          (means (if b then steps.in_view list.hooks total name_is.MaxSize ByMax attributes o p else steps.in_view list.hooks total name_is.Size BySize attributes o (steps.in_view list.hooks total name_is.MaxSize ByMax attributes o p)))
      by_form true = inner
      by_form false = view_same names hook_names list limits reads stands total n enter also offset o at us size place BySize (value_of name_is.Size attributes) (stand name_is.Size) _ _ inner

  -- the expression by which a container ends
  ends_stand : (count : Option Expr) (attributes : List Attribute) → AskedStands list.functions false count → AttributesStand list.functions attributes → EndingStands list (ending_of count attributes)
  ends_stand count attributes k s =
      by_options count (value_of name_is.Until attributes) (value_of name_is.While attributes) (value_of name_is.UntilIncluding attributes) (has name_is.Eod attributes) (has name_is.Size attributes) k (s name_is.Until) (s name_is.While) (s name_is.UntilIncluding)
    where
      by_options : (count until while including : Option Expr) (eod size : Bool) → AskedStands list.functions false count → AskedStands list.functions true until → AskedStands list.functions true while → AskedStands list.functions true including
          → EndingStands list (ended_by Counted count (ended_by Until until (ended_by While while (ended_by UntilIncluding including (if eod then AtEnd else if size then AtEnd else Ahead)))))
      by_options (Some e) u w i eod size k a b c = k
      by_options None (Some e) w i eod size k a b c = a
      by_options None None (Some e) i eod size k a b c = b
      by_options None None None (Some e) eod size k a b c = c
      by_options None None None None true size k a b c = tt
      by_options None None None None false true k a b c = tt
      by_options None None None None false false k a b c = tt

  -- What is read alike behind the locals of a container, wherever these stand.
  abbrev InnerAlike : (at : ℕ) → List Val → ℕ → (State → Result) → Piece → Type 0
  InnerAlike at us to f p = (ws : List Val) → Close at us ws → length ws ≡ total → Both (Low to ws) f (means p)

  -- An element is read, and its offset stands where the bodies of `foreach` find it.
  abbrev EachAt : (own : ℕ) → Option Val → Option ℕ → List ℕ → (State → Result) → Piece → List Val → State → State → Type 0
  EachAt own offset o hs f p ws st ts =
      (vs : List Val) × (Close own ws vs × (length vs ≡ total) × BodiesAt hs (own + length (offset_locals (is_some o) hs)) vs (steps.element_offset o own) (element_offset names hook_names list limits reads n enter offset st)
      × Agree (Low (own + length (offset_locals (is_some o) hs)) vs) (f st) (means (noted (are_there (offset_locals (is_some o) hs)) own p) ts))

  at_once_at : (at own : ℕ) (us : List Val) → at ≤ own → (f : State → Result) (p : Piece) → InnerAlike at us (own + 0 + 1) f p → (ws : List Val) → Close at us ws → length ws ≡ total → (st ts : State) → Low own ws st ts → Agree (Low (own + 0) ws) (f st) (means p ts)
  at_once_at at own us h f p inner ws d s st ts r =
      rebased (own + 0) (own + 0 + 1) ws (omega arith) f (means p) (λ vs c. inner vs (close_trans at (own + 0) us ws vs (omega (arith, h)) d c) (c.size ∙ s)) st ts (fewer (own + 0) own ws (omega arith) st ts r)

  each_at : (at own : ℕ) (us : List Val) → at ≤ own → (offset : Option Val) (o : Option ℕ) → OffsetAt at us offset o → (hs : List ℕ) (f : State → Result) (p : Piece) → own + length (offset_locals (is_some o) hs) < total
      → InnerAlike at us (own + length (offset_locals (is_some o) hs) + 1) f p → (ws : List Val) → Close at us ws → length ws ≡ total → (st ts : State) → Low own ws st ts → EachAt own offset o hs f p ws st ts
  each_at at own us h offset o place [] f p room inner ws d s st ts r = (ws, (close_self own ws, s, tt, at_once_at at own us h f p inner ws d s st ts r))
  each_at at own us h (Some w) (Some x) place (y ∷ hs) f p room inner ws d s st ts r =
      (ws, (close_self own ws, s, (omega (arith, place.0, h), d.same x place.0 ∙ place.1), at_once_at at own us h f p inner ws d s st ts r))
  each_at at own us h None None place (y ∷ hs) f p room inner ws d s st ts r =
      let v : Val = offset_here st in
      let vs : List Val = slice_set ws own v in
      let c : Close own ws vs = record { size = set_size ws own v; same = λ i k. set_below ws own i v k } in (
        vs,
        (
          c,
          c.size ∙ s,
          (omega arith, set_there ws own v (omega (arith, room, s))),
          subst (λ x. Agree (Low (own + 1) vs) (f st) (means p (set_local own x ts))) (sym (ap offset_here r.are))
              (rebased (own + 1) (own + 1 + 1) vs (omega arith) f (means p) (λ us e. inner us (close_trans at own _ ws us h d (close_trans own (own + 1) ws vs us (omega arith) c e)) (e.size ∙ c.size ∙ s)) st (set_local own v ts)
              (fewer (own + 1) (suc own) vs (omega arith) st (set_local own v ts) (sets_next own ws v (omega (arith, room, s)) st ts r))),
        ),
      )
  each_at at own us h None (Some x) place hs f p room inner ws d s st ts r = absurd place
  each_at at own us h (Some w) None place hs f p room inner ws d s st ts r = absurd place

  -- what its elements are, by name
  abbrev by_name_at : Option Val → Bool → List ℕ → Ending → (State → Result) → ℕ → Loop
  by_name_at offset keeps hs how f count =
      record {
        goes_on = goes_on_by names hook_names list limits reads n enter how count;
        element = f;
        in_front = in_front_by names hook_names list limits reads n enter how offset;
        bodies = each_body names hook_names list limits reads n enter hs;
        behind = behind_by names hook_names list limits reads n enter how offset;
        keeps = keeps;
      }

  -- a container behind its count
  many_same : (at : ℕ) (us : List Val) → length us ≡ total → (offset : Option Val) (o : Option ℕ) → OffsetAt at us offset o → (keeps : Bool) (hs : List ℕ) → AreHanded list 2 hs → (how : Ending) → EndingStands list how → IsRead how → (f : State → Result) (p : ℕ → Piece)
      → at + length (count_locals how) + length (offset_locals (is_some o) hs) < total → InnerAlike at us (at + length (count_locals how) + length (offset_locals (is_some o) hs) + 1) f (p (at + length (count_locals how) + length (offset_locals (is_some o) hs) + 1))
      → (count : ℕ) (ws : List Val) → Close at us ws → length ws ≡ total → CountAt how at ws 0 count
      → Same (Low (at + length (count_locals how)) ws) (Low at us) (λ st. elements limits.turns (element_offset names hook_names list limits reads n enter offset) (by_name_at offset keeps hs how f count) n 0 [] st) (means (many_at at o keeps hs how p list total))
  many_same at us size offset o place keeps hs handed how well is_read f p room inner count ws d s known =
      let own : ℕ = at + length (count_locals how) in
      let l : ℕ = own + length (offset_locals (is_some o) hs) in
      elements_same names hook_names list limits reads stands total n enter also at us offset o place own (omega arith) l (omega arith) room how well refl is_read keeps hs handed (steps.element_offset o own) f (means (noted (are_there (offset_locals (is_some o) hs)) own (p (l + 1))))
      (λ ws d s st ts r. each_at at own us (omega arith) offset o place hs f (p (l + 1)) room inner ws d s st ts r) count n 0 [] ws d s known

  -- The count of a container stands in its local, and the counter is 0.
  count_same : (at : ℕ) (us : List Val) → length us ≡ total → (offset : Option Val) (o : Option ℕ) → OffsetAt at us offset o → (keeps : Bool) (hs : List ℕ) → AreHanded list 2 hs → (e : Expr) → ExprStands false list.functions e → (f : State → Result) (p : ℕ → Piece)
      → at + 2 + length (offset_locals (is_some o) hs) < total → InnerAlike at us (at + 2 + length (offset_locals (is_some o) hs) + 1) f (p (at + 2 + length (offset_locals (is_some o) hs) + 1)) → (k : Option ℕ)
      → Both (Low at us) (with_count k (λ count st. elements limits.turns (element_offset names hook_names list limits reads n enter offset) (by_name_at offset keeps hs (Counted e) f count) n 0 [] st))
      (with_count k (λ count st. means (many_at at o keeps hs (Counted e) p list total) (set_local at (uint W64 0) (set_local (at + 1) (uint W64 count) st))))
  count_same at us size offset o place keeps hs handed e well f p room inner None st ts r = loose at us (fails BadSize) (fails BadSize) (λ ws c. fails_same ws BadSize) st ts r
  count_same at us size offset o place keeps hs handed e well f p room inner (Some k) st ts r =
      let limit : List Val = slice_set r.own (at + 1) (uint W64 k) in
      let ws : List Val = slice_set limit at (uint W64 0) in
      let long : length r.own ≡ total = r.close.size ∙ size in
      let long_limit : length limit ≡ total = set_size r.own (at + 1) (uint W64 k) ∙ long in
      many_same at us size offset o place keeps hs handed (Counted e) well tt f p room inner k ws
      (close_trans at at us r.own ws (omega arith) r.close (record { size = set_size limit at (uint W64 0) ∙ set_size r.own (at + 1) (uint W64 k); same = λ i h. set_below limit at i (uint W64 0) h ∙ set_below r.own (at + 1) i (uint W64 k) (omega (arith, h)) }))
      (set_size limit at (uint W64 0) ∙ long_limit)
      (set_there limit at (uint W64 0) (omega (arith, room, long_limit)), set_above limit at (at + 1) (uint W64 0) (omega arith) ∙ set_there r.own (at + 1) (uint W64 k) (omega (arith, room, long)))
      st (set_local at (uint W64 0) (set_local (at + 1) (uint W64 k) ts))
      (sets_known (at + 2) limit at (uint W64 0) (omega (arith, room, long_limit)) st (set_local (at + 1) (uint W64 k) ts)
      (sets_known (at + 2) r.own (at + 1) (uint W64 k) (omega (arith, room, long)) st ts (record { own = r.own; close = close_self (at + 2) r.own; are = r.are })))

  -- a container by look-ahead has no meaning yet
  ahead_same : (at : ℕ) (us : List Val) (offset : Option Val) (keeps : Bool) (hs : List ℕ) (f : State → Result) (m : ℕ) (st ts : State)
      → Agree (Low at us) (elements limits.turns (element_offset names hook_names list limits reads n enter offset) (by_name_at offset keeps hs Ahead f 0) m 0 [] st) (ends Unfinished ts)
  ahead_same at us offset keeps hs f zero st ts = here tt
  ahead_same at us offset keeps hs f (suc m) st ts = here tt

  list_same : (at : ℕ) (us : List Val) → length us ≡ total → (offset : Option Val) (o : Option ℕ) → OffsetAt at us offset o → (keeps : Bool) (hs : List ℕ) → AreHanded list 2 hs → (b c : Option ℕ) (how : Ending) → EndingStands list how → (f : State → Result) (p : ℕ → Piece)
      → at + length (count_locals how) + length (offset_locals (is_some o) hs) < total → InnerAlike at us (at + length (count_locals how) + length (offset_locals (is_some o) hs) + 1) f (p (at + length (count_locals how) + length (offset_locals (is_some o) hs) + 1))
      → Both (Low at us) (container_means names hook_names list limits reads n enter (around b c offset) keeps hs how f) (means (list_piece list.hooks total at o keeps hs how p))
  list_same at us size offset o place keeps hs handed b c (Counted e) well f p room inner =
      then_got (Low at us) _ _ _ _ (plainly_same names hook_names list limits reads stands total n enter also at us size offset o place e well) (λ v. count_same at us size offset o place keeps hs handed e well f p room inner (count_of v))
  list_same at us size offset o place keeps hs handed b c Ahead well f p room inner = λ st ts r. ahead_same at us offset keeps hs f n st ts
  list_same at us size offset o place keeps hs handed b c AtEnd well f p room inner = λ st ts r. many_same at us size offset o place keeps hs handed AtEnd well tt f p room inner 0 us (close_self at us) size tt st ts (fewer (at + 0) at us (omega arith) st ts r)
  list_same at us size offset o place keeps hs handed b c (Until e) well f p room inner = λ st ts r. many_same at us size offset o place keeps hs handed (Until e) well tt f p room inner 0 us (close_self at us) size tt st ts (fewer (at + 0) at us (omega arith) st ts r)
  list_same at us size offset o place keeps hs handed b c (While e) well f p room inner = λ st ts r. many_same at us size offset o place keeps hs handed (While e) well tt f p room inner 0 us (close_self at us) size tt st ts (fewer (at + 0) at us (omega arith) st ts r)
  list_same at us size offset o place keeps hs handed b c (UntilIncluding e) well f p room inner = λ st ts r. many_same at us size offset o place keeps hs handed (UntilIncluding e) well tt f p room inner 0 us (close_self at us) size tt st ts (fewer (at + 0) at us (omega arith) st ts r)

  -- readings, by what they are
  pub spec_same : (s : Spec) → SpecStands list.functions s → (at : ℕ) (us : List Val) → length us ≡ total → (offset : Option Val) (o : Option ℕ) → OffsetAt at us offset o → (keeps : Bool) (hs : List ℕ) → AreHanded list 2 hs → (b c : Option ℕ)
      → (attributes : List Attribute) → AttributesStand list.functions attributes → at + length (spec_locals (is_some o) hs attributes s) ≤ total
      → Both (Low at us) (spec_means names hook_names list limits reads n enter (around b c offset) keeps hs attributes s) (means (spec_piece list.hooks total at (around b c None) o keeps hs attributes s))
  spec_same (read r) k at us size offset o place keeps hs handed b c attributes stand room =
      views_same at us size offset o place attributes stand (read r) _ _ (one_read at us size offset o place (order_in (named name_is.ByteOrder attributes) b) (order_in (named name_is.BitOrder attributes) c) attributes stand r.ty r.op)
  spec_same (unit_read u es) k at us size offset o place keeps hs handed b c attributes stand room =
      views_same at us size offset o place attributes stand (unit_read u es) _ _ (nested_same names hook_names list limits reads stands total n enter also enters at us size offset o place u.unit es k)
  spec_same (list_read span s count) k at us size offset o place keeps hs handed b c attributes stand room =
      let how : Ending = ending_of count attributes in
      let inside : ℕ = at + length (count_locals how) + length (offset_locals (is_some o) hs) + 1 in
      let sum = list_size how (offset_locals (is_some o) hs) (spec_type s) (spec_locals (is_some o) [] [] s) in
      views_same at us size offset o place attributes stand (list_read span s count) _ _
      (list_same at us size offset o place keeps hs handed (order_in (named name_is.ByteOrder attributes) b) (order_in (named name_is.BitOrder attributes) c) how (ends_stand count attributes k.0 stand) (spec_means names hook_names list limits reads n enter (around (order_in (named name_is.ByteOrder attributes) b) (order_in (named name_is.BitOrder attributes) c) offset) true [] [] s)
      (λ inner. spec_piece list.hooks total inner (around (order_in (named name_is.ByteOrder attributes) b) (order_in (named name_is.BitOrder attributes) c) None) o true [] [] s) (omega (arith, room, sum))
      (λ ws d w. spec_same s k.1 inside ws w offset o (offset_close at inside us ws (omega arith) d offset o place) true [] tt (order_in (named name_is.ByteOrder attributes) b) (order_in (named name_is.BitOrder attributes) c) [] (λ name. tt) (omega (arith, room, sum))))
  spec_same (group_read span s own) k at us size offset o place keeps hs handed b c attributes stand room =
      let to : ℕ = at + length (finish_locals own (spec_type s)) in
      let sum : length (finish_locals own (spec_type s) ++ spec_locals (is_some o) [] own s) ≡ length (finish_locals own (spec_type s)) + length (spec_locals (is_some o) [] own s) = length-append {A = Ty} (finish_locals own (spec_type s)) (spec_locals (is_some o) [] own s) in
      views_same at us size offset o place attributes stand (group_read span s own) _ _
      (finished_same names hook_names list limits reads stands total n enter also offset o at us size place own k.0 (spec_type s) (omega (arith, room, sum)) _ _
      (rebased at to us (omega arith) _ _
      (λ ws d. spec_same s k.1 to ws (d.size ∙ size) offset o (offset_close at to us ws (omega arith) d offset o place) true [] tt (order_in (named name_is.ByteOrder attributes) b) (order_in (named name_is.BitOrder attributes) c) own k.0 (omega (arith, room, sum)))))

pub readings_are_one : ReadingsAreOne
readings_are_one names hook_names list limits reads stands total n enter also enters s k at us size offset o place keeps hs handed b c attributes stand room =
    spec_same names hook_names list limits reads stands total n enter also enters s k at us size offset o place keeps hs handed b c attributes stand room
