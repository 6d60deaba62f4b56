-- A text byte by byte: what is left behind a byte makes what was left before it.
use Rattle.std.proofs.Common.{◌≡◌, ℕ, zero, suc, ◌+◌, ◌≤◌, ◌==◌, Bool, true, false, List, [], ◌∷◌, length, Option, Some, None, refl, sym, ap, ◌∙◌, inl, inr, subst, arith, nat_lt, if◌then◌else◌}
use Rattle.std.proofs.lemmas.Bool.{eqb-true, ltb-true}
use Rattle.sp_regex.specs.declared.bytes.ByteRole.{ByteRole}
use Rattle.sp_regex.specs.declared.bytes.ByteRole.TheVariants as role
use Rattle.sp_regex.specs.declared.escape.EscapePlace.{EscapePlace}
use Rattle.sp_regex.specs.declared.escape.EscapePlace.TheVariants as escape_at
use Rattle.sp_regex.specs.declared.escape.EscapeStep.{EscapeStep}
use Rattle.sp_regex.specs.declared.escape.EscapeStep.TheVariants as escape_to
use Rattle.sp_regex.specs.declared.bounds.BoundsPlace.{BoundsPlace}
use Rattle.sp_regex.specs.declared.bounds.BoundsPlace.TheVariants as bounds_at
use Rattle.sp_regex.specs.declared.bounds.BoundsStep.{BoundsStep}
use Rattle.sp_regex.specs.declared.bounds.BoundsStep.TheVariants as bounds_to
use Rattle.sp_regex.specs.declared.class.ClassPlace.TheVariants as class_at
use Rattle.sp_regex.specs.declared.class.ClassReader.{ClassReader}
use Rattle.sp_regex.specs.declared.reader.Mode.{Mode}
use Rattle.sp_regex.specs.declared.reader.Mode.TheVariants.{Start, Atom, Piece, Escape, Class, Bounds}
use Rattle.sp_regex.specs.Trees.{Syntax, byte, any, class, empty, followed, never, either, repeat}
use Rattle.sp_regex.specs.Bytes.{role_of}
use Rattle.sp_regex.specs.Escapes.{escape_step}
use Rattle.sp_regex.specs.Bounds.{bounds_step}
use Rattle.sp_regex.specs.Class.{Outcome, goes, ends, refused, class_step, reader}
use Rattle.sp_regex.specs.Levels.{Opened, opened}
use Rattle.sp_regex.specs.Machine.{State, state, group_end, start_step, piece_step, atom_step, escaped_step, classed_step, bounded_step, mode_step, step}
use Rattle.sp_regex.specs.Syntax.{IsCount, star, plus, question, plain_byte, any_byte, escaped_byte, byte_class, group, IsPiece, no_piece, one_piece, pieces, no_alternative, one_alternative, IsRegex}
use Rattle.sp_regex.proofs.EscapeLaws.{escape_back, escape_ends, EscapeFit, escape_fits, picks}
use Rattle.sp_regex.proofs.BoundsLaws.{BoundsFit, start_count, bounds_back, bounds_ends}
use Rattle.sp_regex.proofs.ClassLaws.{open_class, ClassFit, class_back, class_ends}
use Rattle.sp_regex.proofs.StepLaws.{Pieces, AfterAtom, AtomThen, Closes, ModeRest, Left, atom_piece, regex_close}

-- the byte of a metacharacter
abbrev code : ByteRole → ℕ → ℕ
code role.Dot b = 46
code role.ClassOpen b = 91
code role.GroupOpen b = 40
code role.GroupClose b = 41
code role.Bar b = 124
code role.Star b = 42
code role.Plus b = 43
code role.Question b = 63
code role.BoundsOpen b = 123
code role.Backslash b = 92
code role.Misplaced b = b
code role.Plain b = b

code_if : (b c : ℕ) (m n : ByteRole) → (b ≡ c → code m b ≡ b) → code n b ≡ b → code (if b == c then m else n) b ≡ b
code_if b c m n f g = chosen (b == c) m n (λ e. f (eqb-true b c e)) g
  where
    chosen : (t : Bool) (m n : ByteRole) → (t ≡ true → code m b ≡ b) → code n b ≡ b → code (if t then m else n) b ≡ b
    chosen true m n f g = f refl
    chosen false m n f g = g

code_of : (b : ℕ) → code (role_of b) b ≡ b
code_of b =
    code_if b 46 _ _ sym (code_if b 91 _ _ sym (code_if b 40 _ _ sym (code_if b 41 _ _ sym (code_if b 124 _ _ sym
    (code_if b 42 _ _ sym (code_if b 43 _ _ sym (code_if b 63 _ _ sym (code_if b 123 _ _ sym (code_if b 92 _ _ sym
    (code_if b 93 _ _ (λ e. refl) (code_if b 125 _ _ (λ e. refl) (code_if b 47 _ _ (λ e. refl) (code_if b 94 _ _ (λ e. refl) (code_if b 36 _ _ (λ e. refl) refl))))))))))))))

is_code : (m : ByteRole) (b : ℕ) → role_of b ≡ m → code m b ≡ b
is_code m b e = ap (λ m. code m b) (sym e) ∙ code_of b

-- the open groups are at most 64, and the numbers of an escape, a class or bounds are such that one goes on from there
abbrev pub ModeFit : Mode → ClassReader → Type 0
ModeFit (Escape x) c = EscapeFit x
ModeFit Class c = ClassFit c
ModeFit (Bounds a x) c = BoundsFit x
ModeFit _ c = Unit {0}

abbrev pub StateFit : State → Type 0
StateFit s = (length s.outer ≤ 64) × ModeFit s.mode s.class

-- what is left in the innermost group is P
abbrev LeftAs : List Opened → (ℕ → (Syntax → List ℕ → Type 0) → List ℕ → Type 0) → Syntax → List ℕ → Type 0
LeftAs os P t w = (k : ℕ) × (k + length os ≡ 64) × P k (Closes k os t) w

-- a step to a state, and what is left there, make what was left before
abbrev Makes : State → List Opened → (ℕ → (Syntax → List ℕ → Type 0) → List ℕ → Type 0) → ℕ → Type 0
Makes d os P b = StateFit d × ((t : Syntax) (w : List ℕ) → Left d t w → LeftAs os P t (b ∷ w))

abbrev AtAtom : Syntax → Syntax → ℕ → (Syntax → List ℕ → Type 0) → List ℕ → Type 0
AtAtom e p k Q w = AtomThen k Q e p w

abbrev AtPieces : Syntax → Syntax → ℕ → (Syntax → List ℕ → Type 0) → List ℕ → Type 0
AtPieces e p k Q w = Pieces k Q e p w

abbrev AfterOne : Syntax → Syntax → Syntax → ℕ → (Syntax → List ℕ → Type 0) → List ℕ → Type 0
AfterOne e p a k Q w = AfterAtom k Q e p a w

group_back : (os : List Opened) (e p : Syntax) (c : ClassReader) (t : Syntax) (w : List ℕ) → Left (state (opened e p ∷ os) (opened never empty) Start c) t w → LeftAs os (AtAtom e p) t (40 ∷ w)
group_back os e p c t w (k, h, r) = closed k os e p c t w (omega arith) (regex_close (Closes k (opened e p ∷ os) t) r)
  where
    closed : (k : ℕ) (os : List Opened) (e p : Syntax) (c : ClassReader) (t : Syntax) (w : List ℕ) → suc k + length os ≡ 64 → (r : Syntax) × (v : List ℕ) × IsRegex k r w v × Closes k (opened e p ∷ os) t r v → LeftAs os (AtAtom e p) t (40 ∷ w)
    closed k os e p c t w h (r, v, x, (u, g, y)) = (suc k, h, (r, u, group (subst (λ l. IsRegex k r w l) g x), y))

start_back : (os : List Opened) (e p : Syntax) (m : Mode) (c : ClassReader) (i : ByteRole) (b : ℕ) (d : State) → length os ≤ 64 → role_of b ≡ i → start_step (state os (opened e p) m c) i b ≡ Some d → Makes d os (AtAtom e p) b
start_back os e p m c role.Plain b d fit g s =
    let f : state os (opened e p) (Atom (byte b)) c ≡ d = cc in
    subst (λ d. Makes d os (AtAtom e p) b) f ((fit, tt), λ t w l. (l.0, l.1, (byte b, w, plain_byte g, l.2)))
start_back os e p m c role.Dot b d fit g s =
    let f : state os (opened e p) (Atom any) c ≡ d = cc in
    subst (λ b. Makes d os (AtAtom e p) b) (is_code role.Dot b g) (subst (λ d. Makes d os (AtAtom e p) 46) f ((fit, tt), λ t w l. (l.0, l.1, (any, w, any_byte, l.2))))
start_back os e p m c role.ClassOpen b d fit g s =
    let f : state os (opened e p) Class (reader false [] class_at.Open) ≡ d = cc in
    subst (λ b. Makes d os (AtAtom e p) b) (is_code role.ClassOpen b g) (subst (λ d. Makes d os (AtAtom e p) 91) f ((fit, (refl, refl)), λ t w l. (l.0, l.1, (class l.2.0 l.2.1, l.2.2, byte_class (open_class l.2.3), l.2.4))))
start_back os e p m c role.GroupOpen b d fit g s = elim (picks (nat_lt (length os) 64) _ _ _ s) [
  | inl h ↦ (let f : state (opened e p ∷ os) (opened never empty) Start c ≡ d = cc in let less = ltb-true (length os) 64 h.0 in
      subst (λ b. Makes d os (AtAtom e p) b) (is_code role.GroupOpen b g) (subst (λ d. Makes d os (AtAtom e p) 40) f ((omega arith, tt), λ t w l. group_back os e p c t w l)))
  | inr h ↦ cc
]
start_back os e p m c role.Backslash b d fit g s =
    let f : state os (opened e p) (Escape escape_at.Start) c ≡ d = cc in
    subst (λ b. Makes d os (AtAtom e p) b) (is_code role.Backslash b g) (subst (λ d. Makes d os (AtAtom e p) 92) f ((fit, tt), λ t w l. (l.0, l.1, (byte l.2.0, l.2.1, escaped_byte l.2.2, l.2.3))))
start_back os e p m c role.Bar b d fit g s = cc
start_back os e p m c role.GroupClose b d fit g s = cc
start_back os e p m c role.Star b d fit g s = cc
start_back os e p m c role.Plus b d fit g s = cc
start_back os e p m c role.Question b d fit g s = cc
start_back os e p m c role.BoundsOpen b d fit g s = cc
start_back os e p m c role.Misplaced b d fit g s = cc

-- an atom is a further piece, or the first of a further alternative
further_piece : (k : ℕ) (Q : Syntax → List ℕ → Type 0) (e p : Syntax) (w : List ℕ) → AtomThen k Q e p w → Pieces k Q e p w
further_piece k Q e p w x = further k Q e p w (atom_piece Q e p x)
  where
    further : (k : ℕ) (Q : Syntax → List ℕ → Type 0) (e p : Syntax) (w : List ℕ) → (q : Syntax) × (u : List ℕ) × IsPiece k q w u × Pieces k Q e (followed p q) u → Pieces k Q e p w
    further k Q e p w (q, u, x, (s, v, y, r)) = (s, v, one_piece x y, r)

further_alternative : (k : ℕ) (Q : Syntax → List ℕ → Type 0) (e p : Syntax) (w : List ℕ) → AtomThen k Q (either e p) empty w → Pieces k Q e p (124 ∷ w)
further_alternative k Q e p w x = further k Q e p w (atom_piece Q (either e p) empty x)
  where
    further : (k : ℕ) (Q : Syntax → List ℕ → Type 0) (e p : Syntax) (w : List ℕ) → (q : Syntax) × (u : List ℕ) × IsPiece k q w u × Pieces k Q (either e p) (followed empty q) u → Pieces k Q e p (124 ∷ w)
    further k Q e p w (q, u, x, (s, v, y, (t, z, a, h))) = (p, 124 ∷ w, no_piece, (t, z, one_alternative (pieces x y) a, h))

close_back : (k : ℕ) (o : Opened) (os : List Opened) (e p : Syntax) (c : ClassReader) (t : Syntax) (w : List ℕ) → suc (length os) ≤ 64 → k + length os ≡ 64 → AfterAtom k (Closes k os t) o.earlier o.pieces (either e p) w → LeftAs (o ∷ os) (AtPieces e p) t (41 ∷ w)
close_back zero o os e p c t w fit h r = absurd (omega arith)
close_back (suc k) o os e p c t w fit h r = (k, omega arith, (p, 41 ∷ w, no_piece, (either e p, 41 ∷ w, no_alternative, (w, refl, r))))

end_back : (os : List Opened) (e p : Syntax) (m : Mode) (c : ClassReader) (d : State) → length os ≤ 64 → group_end (state os (opened e p) m c) ≡ Some d → Makes d os (AtPieces e p) 41
end_back [] e p m c d fit s = cc
end_back (o ∷ os) e p m c d fit s =
    let f : state os o (Atom (either e p)) c ≡ d = cc in
    subst (λ d. Makes d (o ∷ os) (AtPieces e p) 41) f ((omega arith, tt), λ t w l. close_back l.0 o os e p c t w (omega arith) l.1 l.2)

piece_start : (os : List Opened) (e p : Syntax) (m : Mode) (c : ClassReader) (i : ByteRole) (b : ℕ) (d : State) → length os ≤ 64 → role_of b ≡ i → start_step (state os (opened e p) m c) i b ≡ Some d → Makes d os (AtPieces e p) b
piece_start os e p m c i b d fit g s =
    let k = start_back os e p m c i b d fit g s in
    (k.0, λ t w l. let h = k.1 t w l in (h.0, h.1, further_piece h.0 (Closes h.0 os t) e p (b ∷ w) h.2))

piece_back : (os : List Opened) (e p : Syntax) (m : Mode) (c : ClassReader) (i : ByteRole) (b : ℕ) (d : State) → length os ≤ 64 → role_of b ≡ i → piece_step (state os (opened e p) m c) i b ≡ Some d → Makes d os (AtPieces e p) b
piece_back os e p m c role.Bar b d fit g s =
    let f : state os (opened (either e p) empty) Start c ≡ d = cc in
    subst (λ b. Makes d os (AtPieces e p) b) (is_code role.Bar b g) (subst (λ d. Makes d os (AtPieces e p) 124) f ((fit, tt), λ t w l. (l.0, l.1, further_alternative l.0 (Closes l.0 os t) e p w l.2)))
piece_back os e p m c role.GroupClose b d fit g s = subst (λ b. Makes d os (AtPieces e p) b) (is_code role.GroupClose b g) (end_back os e p m c d fit s)
piece_back os e p m c role.Plain b d fit g s = piece_start os e p m c role.Plain b d fit g s
piece_back os e p m c role.Dot b d fit g s = piece_start os e p m c role.Dot b d fit g s
piece_back os e p m c role.ClassOpen b d fit g s = piece_start os e p m c role.ClassOpen b d fit g s
piece_back os e p m c role.GroupOpen b d fit g s = piece_start os e p m c role.GroupOpen b d fit g s
piece_back os e p m c role.Backslash b d fit g s = piece_start os e p m c role.Backslash b d fit g s
piece_back os e p m c role.Star b d fit g s = cc
piece_back os e p m c role.Plus b d fit g s = cc
piece_back os e p m c role.Question b d fit g s = cc
piece_back os e p m c role.BoundsOpen b d fit g s = cc
piece_back os e p m c role.Misplaced b d fit g s = cc

after_piece : (os : List Opened) (e p a : Syntax) (m : Mode) (c : ClassReader) (i : ByteRole) (b : ℕ) (d : State) → length os ≤ 64 → role_of b ≡ i → piece_step (state os (opened e (followed p a)) m c) i b ≡ Some d → Makes d os (AfterOne e p a) b
after_piece os e p a m c i b d fit g s = let k = piece_back os e (followed p a) m c i b d fit g s in (k.0, λ t w l. let h = k.1 t w l in (h.0, h.1, inl h.2))

counted_back : (os : List Opened) (e p a : Syntax) (c : ClassReader) (n : ℕ) (i : Option ℕ) (b : ℕ) → length os ≤ 64 → ((w : List ℕ) → IsCount n i (b ∷ w) w) → Makes (state os (opened e (followed p (repeat n i a))) Piece c) os (AfterOne e p a) b
counted_back os e p a c n i b fit x = ((fit, tt), λ t w l. (l.0, l.1, inr (n, i, w, x w, l.2)))

after_back : (os : List Opened) (e p a : Syntax) (m : Mode) (c : ClassReader) (i : ByteRole) (b : ℕ) (d : State) → length os ≤ 64 → role_of b ≡ i → atom_step (state os (opened e p) m c) a i b ≡ Some d → Makes d os (AfterOne e p a) b
after_back os e p a m c role.Star b d fit g s =
    let f : state os (opened e (followed p (repeat 0 None a))) Piece c ≡ d = cc in
    subst (λ b. Makes d os (AfterOne e p a) b) (is_code role.Star b g) (subst (λ d. Makes d os (AfterOne e p a) 42) f (counted_back os e p a c 0 None 42 fit (λ w. star)))
after_back os e p a m c role.Plus b d fit g s =
    let f : state os (opened e (followed p (repeat 1 None a))) Piece c ≡ d = cc in
    subst (λ b. Makes d os (AfterOne e p a) b) (is_code role.Plus b g) (subst (λ d. Makes d os (AfterOne e p a) 43) f (counted_back os e p a c 1 None 43 fit (λ w. plus)))
after_back os e p a m c role.Question b d fit g s =
    let f : state os (opened e (followed p (repeat 0 (Some 1) a))) Piece c ≡ d = cc in
    subst (λ b. Makes d os (AfterOne e p a) b) (is_code role.Question b g) (subst (λ d. Makes d os (AfterOne e p a) 63) f (counted_back os e p a c 0 (Some 1) 63 fit (λ w. question)))
after_back os e p a m c role.BoundsOpen b d fit g s =
    let f : state os (opened e p) (Bounds a bounds_at.Start) c ≡ d = cc in
    subst (λ b. Makes d os (AfterOne e p a) b) (is_code role.BoundsOpen b g) (subst (λ d. Makes d os (AfterOne e p a) 123) f ((fit, tt), λ t w l. (l.0, l.1, inr (l.2.0, l.2.1, l.2.2, start_count l.2.3, l.2.4))))
after_back os e p a m c role.Bar b d fit g s = after_piece os e p a m c role.Bar b d fit g s
after_back os e p a m c role.GroupClose b d fit g s = after_piece os e p a m c role.GroupClose b d fit g s
after_back os e p a m c role.Plain b d fit g s = after_piece os e p a m c role.Plain b d fit g s
after_back os e p a m c role.Dot b d fit g s = after_piece os e p a m c role.Dot b d fit g s
after_back os e p a m c role.ClassOpen b d fit g s = after_piece os e p a m c role.ClassOpen b d fit g s
after_back os e p a m c role.GroupOpen b d fit g s = after_piece os e p a m c role.GroupOpen b d fit g s
after_back os e p a m c role.Backslash b d fit g s = after_piece os e p a m c role.Backslash b d fit g s
after_back os e p a m c role.Misplaced b d fit g s = cc

-- a step to a state, and what is left there, make what was left before in this mode
abbrev Back : State → List Opened → Opened → ClassReader → Mode → ℕ → Type 0
Back d os l c m b = StateFit d × ((t : Syntax) (w : List ℕ) → Left d t w → (k : ℕ) × (k + length os ≡ 64) × ModeRest k (Closes k os t) l c m (b ∷ w))

escaped_back : (os : List Opened) (e p : Syntax) (c : ClassReader) (x : EscapePlace) (y : EscapeStep) (b : ℕ) (d : State) → length os ≤ 64 → escape_step x b ≡ y → escaped_step (state os (opened e p) (Escape x) c) y ≡ Some d → Back d os (opened e p) c (Escape x) b
escaped_back os e p c x (escape_to.Goes q) b d fit g s =
    let f : state os (opened e p) (Escape q) c ≡ d = cc in
    subst (λ d. Back d os (opened e p) c (Escape x) b) f ((fit, escape_fits x q b g), λ t w l. (l.0, l.1, (l.2.0, l.2.1, escape_back x q b l.2.0 w l.2.1 g l.2.2, l.2.3)))
escaped_back os e p c x (escape_to.Ends v) b d fit g s =
    let f : state os (opened e p) (Atom (byte v)) c ≡ d = cc in
    subst (λ d. Back d os (opened e p) c (Escape x) b) f ((fit, tt), λ t w l. (l.0, l.1, (v, w, escape_ends x b v w g, l.2)))
escaped_back os e p c x escape_to.Refused b d fit g s = cc

classed_back : (os : List Opened) (e p : Syntax) (c : ClassReader) (y : Outcome) (b : ℕ) (d : State) → length os ≤ 64 → ClassFit c → b ≤ 255 → class_step c b ≡ y → classed_step (state os (opened e p) Class c) y ≡ Some d → Back d os (opened e p) c Class b
classed_back os e p c (goes x) b d fit has le g s =
    let f : state os (opened e p) Class x ≡ d = cc in let k = class_back c.negated c.ranges c.place b x has le g in
    subst (λ d. Back d os (opened e p) c Class b) f ((fit, k.0), λ t w l. (l.0, l.1, (l.2.0, l.2.1, l.2.2, k.1 l.2.0 l.2.1 w l.2.2 l.2.3, l.2.4)))
classed_back os e p c (ends x) b d fit has le g s =
    let f : state os (opened e p) (Atom (class x.negated x.ranges)) (reader x.negated [] x.place) ≡ d = cc in
    subst (λ d. Back d os (opened e p) c Class b) f ((fit, tt), λ t w l. (l.0, l.1, (x.negated, x.ranges, w, class_ends c.negated c.ranges c.place b x has g w, l.2)))
classed_back os e p c refused b d fit has le g s = cc

bounded_back : (os : List Opened) (e p a : Syntax) (c : ClassReader) (x : BoundsPlace) (y : BoundsStep) (b : ℕ) (d : State) → length os ≤ 64 → BoundsFit x → bounds_step x b ≡ y → bounded_step (state os (opened e p) (Bounds a x) c) a y ≡ Some d → Back d os (opened e p) c (Bounds a x) b
bounded_back os e p a c x (bounds_to.Goes q) b d fit has g s =
    let f : state os (opened e p) (Bounds a q) c ≡ d = cc in let k = bounds_back x q b has g in
    subst (λ d. Back d os (opened e p) c (Bounds a x) b) f ((fit, k.0), λ t w l. (l.0, l.1, (l.2.0, l.2.1, l.2.2, k.1 l.2.0 l.2.1 w l.2.2 l.2.3, l.2.4)))
bounded_back os e p a c x (bounds_to.Ends n) b d fit has g s =
    let f : state os (opened e (followed p (repeat n.least n.most a))) Piece c ≡ d = cc in
    subst (λ d. Back d os (opened e p) c (Bounds a x) b) f ((fit, tt), λ t w l. (l.0, l.1, (n.least, n.most, w, bounds_ends x n b has g w, l.2)))
bounded_back os e p a c x bounds_to.Refused b d fit has g s = cc

mode_back : (os : List Opened) (e p : Syntax) (m : Mode) (c : ClassReader) (b : ℕ) (d : State) → length os ≤ 64 → ModeFit m c → b ≤ 255 → mode_step (state os (opened e p) m c) m b ≡ Some d → Back d os (opened e p) c m b
mode_back os e p Start c b d fit has le s = start_back os e p Start c (role_of b) b d fit refl s
mode_back os e p (Atom a) c b d fit has le s = after_back os e p a (Atom a) c (role_of b) b d fit refl s
mode_back os e p Piece c b d fit has le s = piece_back os e p Piece c (role_of b) b d fit refl s
mode_back os e p (Escape x) c b d fit has le s = escaped_back os e p c x (escape_step x b) b d fit refl s
mode_back os e p Class c b d fit has le s = classed_back os e p c (class_step c b) b d fit has le refl s
mode_back os e p (Bounds a x) c b d fit has le s = bounded_back os e p a c x (bounds_step x b) b d fit has refl s

-- what is left behind a byte makes what was left before it
pub step_back : (s : State) (b : ℕ) (d : State) → StateFit s → b ≤ 255 → step s b ≡ Some d → StateFit d × ((t : Syntax) (w : List ℕ) → Left d t w → Left s t (b ∷ w))
step_back s b d fit le e = mode_back s.outer s.level.earlier s.level.pieces s.mode s.class b d fit.0 fit.1 le e
