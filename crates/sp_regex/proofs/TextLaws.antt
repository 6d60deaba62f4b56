-- A text from its start to its end.
use Rattle.std.proofs.Common.{◌≡◌, ℕ, suc, ◌+◌, ◌-◌, ◌<◌, ◌≤◌, ◌++◌, Bool, true, false, List, [], ◌∷◌, length, take, drop, Option, Some, None, refl, sym, ap, ◌∙◌, inl, inr, subst, arith, append_assoc, get_or}
use Rattle.std.proofs.lemmas.List.{take-append-drop, take_more, take_all, append-nil}
use Rattle.sp_regex.specs.declared.bytes.ByteRange.{ByteRange}
use Rattle.sp_regex.specs.declared.escape.EscapePlace.{EscapePlace}
use Rattle.sp_regex.specs.declared.escape.EscapePlace.TheVariants as escape_at
use Rattle.sp_regex.specs.declared.bounds.BoundsPlace.{BoundsPlace}
use Rattle.sp_regex.specs.declared.bounds.BoundsPlace.TheVariants as bounds_at
use Rattle.sp_regex.specs.declared.class.ClassPlace.{ClassPlace}
use Rattle.sp_regex.specs.declared.class.ClassPlace.TheVariants as class_at
use Rattle.sp_regex.specs.declared.class.ClassReader.{ClassReader}
use Rattle.sp_regex.specs.declared.reader.Mode.{Mode}
use Rattle.sp_regex.specs.declared.reader.Mode.TheVariants.{Start, Atom, Piece, Escape, Class, Bounds}
use Rattle.sp_regex.specs.Trees.{Syntax, byte, class, empty, followed, never, either, repeat}
use Rattle.sp_regex.specs.Levels.{Opened, opened}
use Rattle.sp_regex.specs.Machine.{State, state, initial, step, finished, finished_at, finished_in, IsStep}
use Rattle.sp_regex.specs.Syntax.{IsEscape, short, IsClassByte, escaped, IsItem, one, two, MoreItems, one_item, IsCount, IsAtom, plain_byte, escaped_byte, byte_class, IsPiece, once, counted, MorePieces, no_piece, one_piece, MoreAlternatives, no_alternative, IsRegex, Derives, IsRegexText, Begins, IsFault}
use Rattle.sp_regex.proofs.EscapeLaws.{escape_read, escape_done}
use Rattle.sp_regex.proofs.BoundsLaws.{bounds_rest, bounds_done, StartRest, LeastRest, brace, comma, CommaRest, closed_end, MostRest, most}
use Rattle.sp_regex.proofs.ClassLaws.{place_rest, class_done, OpenRest, keeps, FirstRest, first, ItemsRest, items, AfterRest, alone, ToRest, to, EscapeRest, begun, EscapeToRest, begun_to}
use Rattle.sp_regex.proofs.StepLaws.{Pieces, AtomThen, Closes, ModeRest, Left, regex_open, regex_close, step_forth}
use Rattle.sp_regex.proofs.BackLaws.{StateFit, ModeFit, step_back}

-- the end is no escape, no item, no bounds, no atom and no count
no_escape : (p : EscapePlace) (c : ℕ) (u : List ℕ) → IsEscape c (escape_read p []) u → ⊥
no_escape escape_at.Start c u r = at_start r
  where
    at_start : {c : ℕ} {u : List ℕ} → IsEscape c (92 ∷ []) u → ⊥
    at_start r = elim r [ ]
no_escape escape_at.Hex c u r = at_hex r
  where
    at_hex : {c : ℕ} {u : List ℕ} → IsEscape c (92 ∷ 120 ∷ []) u → ⊥
    at_hex (short e) = cc
no_escape (escape_at.Digit h) c u r = at_digit r
  where
    at_digit : {h c : ℕ} {u : List ℕ} → IsEscape c (92 ∷ 120 ∷ h ∷ []) u → ⊥
    at_digit (short e) = cc

no_byte : {b : ℕ} {u : List ℕ} → IsClassByte b [] u → ⊥
no_byte (escaped e) = elim e [ ]

no_item_here : {r : ByteRange} {u : List ℕ} → IsItem r [] u → ⊥
no_item_here (one b) = no_byte b
no_item_here (two b c le) = no_byte b

no_more : {rs ss : List ByteRange} {u : List ℕ} → MoreItems rs ss [] (93 ∷ u) → ⊥
no_more (one_item i m) = no_item_here i

no_items : {n : Bool} {rs ss : List ByteRange} {u : List ℕ} → ItemsRest n rs ss [] u → ⊥
no_items (items m h) = no_more m

no_after : {n : Bool} {rs ss : List ByteRange} {f : ℕ} {u : List ℕ} → AfterRest n rs f ss [] u → ⊥
no_after (alone r) = no_items r

no_to : {n : Bool} {rs ss : List ByteRange} {f : ℕ} {u : List ℕ} → ToRest n rs f ss [] u → ⊥
no_to (to b le r) = no_byte b

no_first : {n : Bool} {rs ss : List ByteRange} {u : List ℕ} → FirstRest n rs ss [] u → ⊥
no_first (first b r) = no_byte b

no_open : {n m : Bool} {rs ss : List ByteRange} {u : List ℕ} → OpenRest n rs m ss [] u → ⊥
no_open (keeps f r) = no_first r

no_begun : {n : Bool} {rs ss : List ByteRange} {p : EscapePlace} {u : List ℕ} → EscapeRest n rs p ss [] u → ⊥
no_begun {p = p} (begun {b = b} {v = v} x r) = no_escape p b v x

no_begun_to : {n : Bool} {rs ss : List ByteRange} {f : ℕ} {p : EscapePlace} {u : List ℕ} → EscapeToRest n rs f p ss [] u → ⊥
no_begun_to {p = p} (begun_to {t = t} {v = v} x le r) = no_escape p t v x

no_class : (p : ClassPlace) (n m : Bool) (rs ss : List ByteRange) (u : List ℕ) → place_rest p n rs m ss [] u → ⊥
no_class class_at.Open n m rs ss u r = no_open r
no_class class_at.Empty n m rs ss u r = no_first r.1
no_class class_at.Items n m rs ss u r = no_items r.1
no_class (class_at.After f) n m rs ss u r = no_after r.1
no_class (class_at.From f) n m rs ss u r = no_to r.1
no_class (class_at.Escape p) n m rs ss u r = no_begun r.1
no_class (class_at.EscapeTo f p) n m rs ss u r = no_begun_to r.1

no_start : {n : ℕ} {m : Option ℕ} {u : List ℕ} → StartRest n m [] u → ⊥
no_start r = elim r [ ]

no_least : {a n : ℕ} {m : Option ℕ} {u : List ℕ} → LeastRest a n m [] u → ⊥
no_least (brace ds le) = elim ds [ ]
no_least (comma ds le r) = elim ds [ ]

no_comma : {n : ℕ} {m : Option ℕ} {u : List ℕ} → CommaRest n m [] u → ⊥
no_comma (closed_end j low high) = elim j [ ]

no_most : {n a : ℕ} {m : Option ℕ} {u : List ℕ} → MostRest n a m [] u → ⊥
no_most (most ds low high) = elim ds [ ]

no_bounds : (p : BoundsPlace) (n : ℕ) (m : Option ℕ) (u : List ℕ) → bounds_rest p n m [] u → ⊥
no_bounds bounds_at.Start n m u r = no_start r
no_bounds (bounds_at.Least a) n m u r = no_least r
no_bounds (bounds_at.Comma i) n m u r = no_comma r.1
no_bounds (bounds_at.Most i a) n m u r = no_most r.1

no_atom : {k : ℕ} {a : Syntax} {u : List ℕ} → IsAtom k a [] u → ⊥
no_atom (escaped_byte e) = elim e [ ]
no_atom (byte_class c) = elim c [ ]

no_piece_here : {k : ℕ} {p : Syntax} {u : List ℕ} → IsPiece k p [] u → ⊥
no_piece_here (once x) = no_atom x
no_piece_here (counted x c) = no_atom x

no_count : {n : ℕ} {m : Option ℕ} {u : List ℕ} → IsCount n m [] u → ⊥
no_count c = elim c [ ]

-- what is left of the groups at the end
closes_end : (k : ℕ) (os : List Opened) (l : Opened) (m : Mode) (r t : Syntax) → finished_in l m ≡ Some r → Closes k os t r [] → finished_at os l m ≡ Some t
closes_end k [] l m r t e q = e ∙ ap Some q.0
closes_end k (o ∷ os) l m r t e (u, g, x) = cc

pieces_end : {k : ℕ} {e p s r : Syntax} {u v : List ℕ} → (os : List Opened) (l : Opened) (m : Mode) (t : Syntax) → finished_in l m ≡ Some (either e p) → MorePieces k p s [] u → MoreAlternatives k (either e s) r u v → Closes k os t r v → finished_at os l m ≡ Some t
pieces_end {k} {e} {p} os l m t f no_piece no_alternative q = closes_end k os l m (either e p) t f q
pieces_end os l m t f (one_piece x y) a q = absurd (no_piece_here x)

all_end : (k : ℕ) (os : List Opened) (l : Opened) (m : Mode) (e p t : Syntax) → finished_in l m ≡ Some (either e p) → Pieces k (Closes k os t) e p [] → finished_at os l m ≡ Some t
all_end k os l m e p t f (s, u, x, (r, v, a, q)) = pieces_end os l m t f x a q

mode_end : (k : ℕ) (os : List Opened) (e p : Syntax) (m : Mode) (c : ClassReader) (t : Syntax) → ModeRest k (Closes k os t) (opened e p) c m [] → finished_at os (opened e p) m ≡ Some t
mode_end k os e p Start c t (a, u, x, r) = absurd (no_atom x)
mode_end k os e p (Atom a) c t (inl r) = all_end k os (opened e p) (Atom a) e (followed p a) t refl r
mode_end k os e p (Atom a) c t (inr (n, m, u, x, r)) = absurd (no_count x)
mode_end k os e p Piece c t r = all_end k os (opened e p) Piece e p t refl r
mode_end k os e p (Escape x) c t (b, u, y, r) = absurd (no_escape x b u y)
mode_end k os e p Class c t (n, rs, u, y, r) = absurd (no_class c.place c.negated n c.ranges rs u y)
mode_end k os e p (Bounds a x) c t (n, m, u, y, r) = absurd (no_bounds x n m u y)

-- a text that ends here is finished
pub end_forth : (s : State) (t : Syntax) → Left s t [] → finished s ≡ Some t
end_forth s t (k, h, r) = mode_end k s.outer s.level.earlier s.level.pieces s.mode s.class t r

whole : (e p t : Syntax) → either e p ≡ t → Pieces 64 (Closes 64 [] t) e p []
whole e p t f = (p, [], no_piece, (either e p, [], no_alternative, (f, refl)))

finished_back : (os : List Opened) (e p : Syntax) (m : Mode) (c : ClassReader) (t : Syntax) → finished_at os (opened e p) m ≡ Some t → Left (state os (opened e p) m c) t []
finished_back [] e p (Atom a) c t f = let g : either e (followed p a) ≡ t = cc in (64, refl, inl (whole e (followed p a) t g))
finished_back [] e p Piece c t f = let g : either e p ≡ t = cc in (64, refl, whole e p t g)
finished_back [] e p Start c t f = cc
finished_back [] e p (Escape x) c t f = cc
finished_back [] e p Class c t f = cc
finished_back [] e p (Bounds a x) c t f = cc
finished_back (o ∷ os) e p m c t f = cc

-- where a text is finished nothing is left
pub end_back : (s : State) (t : Syntax) → finished s ≡ Some t → Left s t []
end_back s t f = finished_back s.outer s.level.earlier s.level.pieces s.mode s.class t f

-- what closes the open groups
abbrev closing : List Opened → List ℕ
closing [] = []
closing (o ∷ os) = 41 ∷ closing os

closes_done : (os : List Opened) (k : ℕ) (r : Syntax) → (t : Syntax) × Closes k os t r (closing os)
closes_done [] k r = (r, (refl, refl))
closes_done (o ∷ os) k r =
    let d = closes_done os (suc k) (either o.earlier (followed o.pieces r)) in
    (d.0, (closing os, refl, inl (followed o.pieces r, closing os, no_piece, (either o.earlier (followed o.pieces r), closing os, no_alternative, d.1))))

pieces_done : (os : List Opened) (k : ℕ) (e p : Syntax) → (t : Syntax) × Pieces k (Closes k os t) e p (closing os)
pieces_done os k e p = let d = closes_done os k (either e p) in (d.0, (p, closing os, no_piece, (either e p, closing os, no_alternative, d.1)))

mode_done : (os : List Opened) (k : ℕ) (e p : Syntax) (m : Mode) (c : ClassReader) → ModeFit m c → (t : Syntax) × (w : List ℕ) × ModeRest k (Closes k os t) (opened e p) c m w
mode_done os k e p Start c fit = let d = pieces_done os k e (followed p (byte 97)) in (d.0, 97 ∷ closing os, (byte 97, closing os, plain_byte refl, inl d.1))
mode_done os k e p (Atom a) c fit = let d = pieces_done os k e (followed p a) in (d.0, closing os, inl d.1)
mode_done os k e p Piece c fit = let d = pieces_done os k e p in (d.0, closing os, d.1)
mode_done os k e p (Escape x) c fit =
    let y = escape_done x fit 0 (closing os) in let d = pieces_done os k e (followed p (byte y.0)) in
    (d.0, y.1, (y.0, closing os, y.2, inl d.1))
mode_done os k e p Class c fit =
    let y = class_done c.place c.negated c.ranges fit (closing os) in let d = pieces_done os k e (followed p (class y.1 y.2)) in
    (d.0, y.0, (y.1, y.2, closing os, y.3, inl d.1))
mode_done os k e p (Bounds a x) c fit =
    let y = bounds_done x fit (closing os) in let d = pieces_done os k e (followed p (repeat y.1 y.2 a)) in
    (d.0, y.0, (y.1, y.2, closing os, y.3, d.1))

-- some text goes on from each state
pub state_done : (s : State) → StateFit s → (t : Syntax) × (w : List ℕ) × Left s t w
state_done s fit =
    let d = mode_done s.outer (64 - length s.outer) s.level.earlier s.level.pieces s.mode s.class fit.1 in
    (d.0, d.1, (64 - length s.outer, (let le = fit.0 in omega arith), d.2))

-- behind the bytes v: what is left is what makes a text of them
pub record IsAt (v : List ℕ) (s : State) : Type 0 where
  pub fits : StateFit s
  pub text : (t : Syntax) (w : List ℕ) → Left s t w → Derives (v ++ w) t
  pub rest : (t : Syntax) (w : List ℕ) → Derives (v ++ w) t → Left s t w

initial_text : (t : Syntax) (w : List ℕ) → Left initial t w → IsRegex 64 t w []
initial_text t w (k, h, r) = closed t w (regex_close (Closes 64 [] t) (subst (λ j. AtomThen j (Closes j [] t) never empty w) (let e : k ≡ 64 = omega arith in e) r))
  where
    closed : (t : Syntax) (w : List ℕ) → (r : Syntax) × (v : List ℕ) × IsRegex 64 r w v × Closes 64 [] t r v → IsRegex 64 t w []
    closed t w (r, v, x, (e, f)) = subst (λ r. IsRegex 64 r w []) e (subst (λ v. IsRegex 64 r w v) f x)

pub at_start : IsAt [] initial
at_start = record {
  fits = (omega arith, tt);
  text = initial_text;
  rest = λ t w r. (64, refl, regex_open (Closes 64 [] t) r (refl, refl));
}

pub at_next : (v : List ℕ) (s : State) (b : ℕ) (d : State) → IsAt v s → b ≤ 255 → step s b ≡ Some d → IsAt (v ++ b ∷ []) d
at_next v s b d at le e =
    let k = step_back s b d at.fits le e in
    record {
      fits = k.0;
      text = λ t w l. subst (λ x. Derives x t) (sym (append_assoc v (b ∷ []) w)) (at.text t (b ∷ w) (k.1 t w l));
      rest = λ t w r. taken s b d e t w (step_forth s b t w (at.rest t (b ∷ w) (subst (λ x. Derives x t) (append_assoc v (b ∷ []) w) r)));
    }
  where
    taken : (s : State) (b : ℕ) (d : State) → step s b ≡ Some d → (t : Syntax) (w : List ℕ) → (x : State) × (step s b ≡ Some x) × Left x t w → Left d t w
    taken s b d e t w (x, f, l) = let g : x ≡ d = cc in subst (λ s. Left s t w) g l

-- a byte that is refused goes on with no text
pub at_refused : (v : List ℕ) (s : State) (b : ℕ) → IsAt v s → step s b ≡ None → Begins (v ++ b ∷ []) → ⊥
at_refused v s b at e (w, (t, r)) =
    let f = step_forth s b t w (at.rest t (b ∷ w) (subst (λ x. Derives x t) (append_assoc v (b ∷ []) w) r)) in
    let g : Some f.0 ≡ None = sym f.1 ∙ e in cc

pub at_begins : (v : List ℕ) (s : State) → IsAt v s → Begins v
at_begins v s at = let d = state_done s at.fits in (d.1, (d.0, at.text d.0 d.1 d.2))

whole_text : (v : List ℕ) (s : State) → IsAt v s → (t : Syntax) → Derives v t → finished s ≡ Some t
whole_text v s at t r = end_forth s t (at.rest t [] (subst (λ x. Derives x t) (sym (append-nil v)) r))

-- where the text is finished, its tree is that of the state
pub finished_tree : (v : List ℕ) (s : State) (t : Syntax) → IsAt v s → finished s ≡ Some t → Derives v t
finished_tree v s t at f = subst (λ x. Derives x t) (append-nil v) (at.text t [] (end_back s t f))

pub finished_only : (v : List ℕ) (s : State) (t : Syntax) → IsAt v s → finished s ≡ Some t → (u : Syntax) → Derives v u → u ≡ t
finished_only v s t at f u r = let g = whole_text v s at u r in let e : Some u ≡ Some t = sym g ∙ f in cc

-- a text that is not finished ends too early
pub unfinished_fault : (v : List ℕ) (s : State) → IsAt v s → finished s ≡ None → IsFault v (length v)
unfinished_fault v s at f = record {
  within = omega arith;
  before = subst Begins (sym (take_all (length v) v (omega arith))) (at_begins v s at);
  here = λ less b. omega arith;
  no_text = λ x. (let g = whole_text v s at x.0 x.1 in let e : Some x.0 ≡ None = sym g ∙ f in cc);
}

-- the byte that is refused is the fault
pub refused_fault : (v : List ℕ) (i : ℕ) (s : State) (b : ℕ) → i < length v → b ≡ get_or v i 0 → IsAt (take i v) s → step s b ≡ None → IsFault v i
refused_fault v i s b less is at e =
    let more : take (i + 1) v ≡ take i v ++ b ∷ [] = take_more v i 0 less ∙ ap (λ x. take i v ++ x ∷ []) (sym is) in
    let here : Begins (take (i + 1) v) → ⊥ = λ x. at_refused (take i v) s b at e (subst Begins more x) in
    record {
      within = omega arith;
      before = at_begins (take i v) s at;
      here = λ lt x. here x;
      no_text = λ x. here (drop (i + 1) v, subst IsRegexText (sym (take-append-drop (i + 1) v)) x);
    }

pub step_refused : (taken : Bool) (s : State) (o : Option State) → IsStep taken s o → taken ≡ false → o ≡ None
step_refused false s o h e = h
step_refused true s o h e = cc

pub step_taken : (taken : Bool) (s : State) (o : Option State) → IsStep taken s o → taken ≡ true → o ≡ Some s
step_taken true s o h e = h
step_taken false s o h e = cc

-- a byte more is read
pub read_more : (v : List ℕ) (i : ℕ) (s d : State) → i < length v → get_or v i 0 ≤ 255 → IsAt (take i v) s → step s (get_or v i 0) ≡ Some d → IsAt (take (i + 1) v) d
read_more v i s d less le at e = subst (λ x. IsAt x d) (sym (take_more v i 0 less)) (at_next (take i v) s (get_or v i 0) d at le e)

-- all is read
pub read_all : (v : List ℕ) (i : ℕ) (s : State) → length v ≤ i → IsAt (take i v) s → IsAt v s
read_all v i s le at = subst (λ x. IsAt x s) (take_all i v le) at
