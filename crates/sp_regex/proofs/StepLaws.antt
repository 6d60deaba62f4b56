-- A text byte by byte: what is left to be read at each state.
use Rattle.std.proofs.Common.{◌≡◌, ℕ, suc, ◌+◌, Bool, false, List, [], ◌∷◌, length, Option, Some, None, refl, sym, ap, ◌⊎◌, inl, inr, subst, arith, nat_lt, get_or}
use Rattle.std.proofs.lemmas.Bool.{lt-ltb, cond-true}
use Rattle.sp_regex.specs.declared.bytes.ByteRange.{ByteRange}
use Rattle.sp_regex.specs.declared.bytes.ByteRole.{ByteRole}
use Rattle.sp_regex.specs.declared.bytes.ByteRole.TheVariants as role
use Rattle.sp_regex.specs.declared.escape.EscapePlace.{EscapePlace}
use Rattle.sp_regex.specs.declared.escape.EscapePlace.TheVariants as escape_at
use Rattle.sp_regex.specs.declared.bounds.BoundsPlace.{BoundsPlace}
use Rattle.sp_regex.specs.declared.bounds.BoundsPlace.TheVariants as bounds_at
use Rattle.sp_regex.specs.declared.class.ClassPlace.TheVariants as class_at
use Rattle.sp_regex.specs.declared.class.ClassReader.{ClassReader}
use Rattle.sp_regex.specs.declared.reader.Mode.{Mode}
use Rattle.sp_regex.specs.declared.reader.Mode.TheVariants.{Start, Atom, Piece, Escape, Class, Bounds}
use Rattle.sp_regex.specs.Trees.{Syntax, byte, any, class, empty, followed, never, either, repeat}
use Rattle.sp_regex.specs.Bytes.{role_of}
use Rattle.sp_regex.specs.Escapes.{escape_step}
use Rattle.sp_regex.specs.Bounds.{bounds_step}
use Rattle.sp_regex.specs.Class.{class_step, reader}
use Rattle.sp_regex.specs.Levels.{Opened, opened}
use Rattle.sp_regex.specs.Machine.{State, state, with_piece, group_end, start_step, piece_step, atom_step, escaped_step, classed_step, bounded_step, mode_step, step}
use Rattle.sp_regex.specs.Syntax as syntax
use Rattle.sp_regex.specs.Syntax.{IsEscape, short, hex, IsClass, positive, negative, IsCount, star, plus, question, at_least, between, IsAtom, plain_byte, any_byte, escaped_byte, byte_class, group, IsPiece, once, counted, MorePieces, no_piece, one_piece, IsAlternative, pieces, MoreAlternatives, no_alternative, one_alternative, IsRegex, alternatives}
use Rattle.sp_regex.proofs.EscapeLaws.{escape_read, escape_forth}
use Rattle.sp_regex.proofs.BoundsLaws.{bounds_rest, count_start, bounds_forth}
use Rattle.sp_regex.proofs.ClassLaws.{class_rest, class_open, class_forth}

-- behind whole alternatives r: further ones, and then Q of all of them
abbrev pub Alternatives : ℕ → (Syntax → List ℕ → Type 0) → Syntax → List ℕ → Type 0
Alternatives k Q r w = (t : Syntax) × (u : List ℕ) × MoreAlternatives k r t w u × Q t u

-- behind whole pieces p of the alternative behind e: further ones, further alternatives, and then Q of all
abbrev pub Pieces : ℕ → (Syntax → List ℕ → Type 0) → Syntax → Syntax → List ℕ → Type 0
Pieces k Q e p w = (s : Syntax) × (u : List ℕ) × MorePieces k p s w u × Alternatives k Q (either e s) u

abbrev pub Counted : ℕ → (Syntax → List ℕ → Type 0) → Syntax → Syntax → Syntax → List ℕ → Type 0
Counted k Q e p a w = (n : ℕ) × (m : Option ℕ) × (u : List ℕ) × IsCount n m w u × Pieces k Q e (followed p (repeat n m a)) u

-- behind an atom a that may be repeated
abbrev pub AfterAtom : ℕ → (Syntax → List ℕ → Type 0) → Syntax → Syntax → Syntax → List ℕ → Type 0
AfterAtom k Q e p a w = Pieces k Q e (followed p a) w ⊎ Counted k Q e p a w

-- before an atom
abbrev pub AtomThen : ℕ → (Syntax → List ℕ → Type 0) → Syntax → Syntax → List ℕ → Type 0
AtomThen k Q e p w = (a : Syntax) × (u : List ℕ) × IsAtom k a w u × AfterAtom k Q e p a u

-- behind the whole regular expression r of the innermost group: what closes the open groups, to the tree t
abbrev pub Closes : ℕ → List Opened → Syntax → Syntax → List ℕ → Type 0
Closes k [] t r w = (r ≡ t) × (w ≡ [])
Closes k (o ∷ os) t r w = (u : List ℕ) × (w ≡ 41 ∷ u) × AfterAtom (suc k) (Closes (suc k) os t) o.earlier o.pieces r u

abbrev pub ModeRest : ℕ → (Syntax → List ℕ → Type 0) → Opened → ClassReader → Mode → List ℕ → Type 0
ModeRest k Q l c Start w = AtomThen k Q l.earlier l.pieces w
ModeRest k Q l c (Atom a) w = AfterAtom k Q l.earlier l.pieces a w
ModeRest k Q l c Piece w = Pieces k Q l.earlier l.pieces w
ModeRest k Q l c (Escape x) w = (b : ℕ) × (u : List ℕ) × IsEscape b (escape_read x w) u × AfterAtom k Q l.earlier l.pieces (byte b) u
ModeRest k Q l c Class w = (n : Bool) × (rs : List ByteRange) × (u : List ℕ) × class_rest c n rs w u × AfterAtom k Q l.earlier l.pieces (class n rs) u
ModeRest k Q l c (Bounds a x) w = (n : ℕ) × (m : Option ℕ) × (u : List ℕ) × bounds_rest x n m w u × Pieces k Q l.earlier (followed l.pieces (repeat n m a)) u

-- from this state, w is read to the end, and the tree of all is t
abbrev pub Left : State → Syntax → List ℕ → Type 0
Left s t w = (k : ℕ) × (k + length s.outer ≡ 64) × ModeRest k (Closes k s.outer t) s.level s.class s.mode w

-- the next byte leads to a state from which the rest is read
abbrev pub Taken : Option State → Syntax → List ℕ → Type 0
Taken o t w = (d : State) × (o ≡ Some d) × Left d t w

-- a piece, and what follows it
piece_atom : {k : ℕ} {e p q : Syntax} {w u : List ℕ} → (Q : Syntax → List ℕ → Type 0) → IsPiece k q w u → Pieces k Q e (followed p q) u → AtomThen k Q e p w
piece_atom Q (once x) r = (_, _, x, inl r)
piece_atom Q (counted x c) r = (_, _, x, inr (_, _, _, c, r))

pub atom_piece : {k : ℕ} {w : List ℕ} → (Q : Syntax → List ℕ → Type 0) (e p : Syntax) → AtomThen k Q e p w → (q : Syntax) × (u : List ℕ) × IsPiece k q w u × Pieces k Q e (followed p q) u
atom_piece Q e p (a, u, x, inl r) = (a, u, once x, r)
atom_piece Q e p (a, u, x, inr (n, m, v, c, r)) = (repeat n m a, v, counted x c, r)

-- a regular expression, and what follows it
pub regex_open : {k : ℕ} {r : Syntax} {w v : List ℕ} → (Q : Syntax → List ℕ → Type 0) → IsRegex k r w v → Q r v → AtomThen k Q never empty w
regex_open Q (alternatives (pieces p m) a) q = piece_atom Q p (_, _, m, (_, _, a, q))

pub regex_close : {k : ℕ} {w : List ℕ} → (Q : Syntax → List ℕ → Type 0) → AtomThen k Q never empty w → (r : Syntax) × (v : List ℕ) × IsRegex k r w v × Q r v
regex_close Q x = closed Q (atom_piece Q never empty x)
  where
    closed : {k : ℕ} {w : List ℕ} → (Q : Syntax → List ℕ → Type 0) → (q : Syntax) × (u : List ℕ) × IsPiece k q w u × Pieces k Q never (followed empty q) u → (r : Syntax) × (v : List ℕ) × IsRegex k r w v × Q r v
    closed Q (q, u, p, (s, v, m, (t, x, a, h))) = (t, x, alternatives (pieces p m) a, h)

-- metacharacters that may begin an atom
abbrev IsFirst : ByteRole → Type 0
IsFirst role.Plain = Unit {0}
IsFirst role.Dot = Unit {0}
IsFirst role.ClassOpen = Unit {0}
IsFirst role.GroupOpen = Unit {0}
IsFirst role.Backslash = Unit {0}
IsFirst _ = ⊥

-- metacharacters that may follow a whole piece
abbrev IsNext : ByteRole → Type 0
IsNext role.Bar = Unit {0}
IsNext role.GroupClose = Unit {0}
IsNext m = IsFirst m

piece_is_start : (s : State) (m : ByteRole) (b : ℕ) → IsFirst m → piece_step s m b ≡ start_step s m b
piece_is_start s role.Plain b i = refl
piece_is_start s role.Dot b i = refl
piece_is_start s role.ClassOpen b i = refl
piece_is_start s role.GroupOpen b i = refl
piece_is_start s role.Backslash b i = refl
piece_is_start s role.Bar b i = absurd i
piece_is_start s role.GroupClose b i = absurd i
piece_is_start s role.Star b i = absurd i
piece_is_start s role.Plus b i = absurd i
piece_is_start s role.Question b i = absurd i
piece_is_start s role.BoundsOpen b i = absurd i
piece_is_start s role.Misplaced b i = absurd i

atom_is_piece : (s : State) (a : Syntax) (m : ByteRole) (b : ℕ) → IsNext m → atom_step s a m b ≡ piece_step (with_piece s a) m b
atom_is_piece s a role.Plain b i = refl
atom_is_piece s a role.Dot b i = refl
atom_is_piece s a role.ClassOpen b i = refl
atom_is_piece s a role.GroupOpen b i = refl
atom_is_piece s a role.Backslash b i = refl
atom_is_piece s a role.Bar b i = refl
atom_is_piece s a role.GroupClose b i = refl
atom_is_piece s a role.Star b i = absurd i
atom_is_piece s a role.Plus b i = absurd i
atom_is_piece s a role.Question b i = absurd i
atom_is_piece s a role.BoundsOpen b i = absurd i
atom_is_piece s a role.Misplaced b i = absurd i

first_next : (m : ByteRole) → IsFirst m → IsNext m
first_next role.Bar i = tt
first_next role.GroupClose i = tt
first_next m i = i

atom_first : {k b : ℕ} {a : Syntax} {w u : List ℕ} → IsAtom k a (b ∷ w) u → IsFirst (role_of b)
atom_first (plain_byte e) = subst IsFirst (sym e) tt
atom_first any_byte = tt
atom_first (escaped_byte (short e)) = tt
atom_first (escaped_byte (hex e)) = tt
atom_first (byte_class (positive f i m h)) = tt
atom_first (byte_class (negative i m h)) = tt
atom_first (group r) = tt

piece_first : {k b : ℕ} {p : Syntax} {w u : List ℕ} → IsPiece k p (b ∷ w) u → IsFirst (role_of b)
piece_first (once x) = atom_first x
piece_first (counted x c) = atom_first x

-- the byte and the rest of a list
same_head : (b c : ℕ) (w v : List ℕ) → b ∷ w ≡ c ∷ v → b ≡ c
same_head b c w v e = ap (λ l. get_or l 0 0) e

same_tail : (b c : ℕ) (w v : List ℕ) → b ∷ w ≡ c ∷ v → w ≡ v
same_tail b c w v e = ap tail e
  where
    tail : List ℕ → List ℕ
    tail [] = []
    tail (x ∷ xs) = xs

atom_forth : {k b : ℕ} {a : Syntax} {w u : List ℕ} → (os : List Opened) (e p : Syntax) (m : Mode) (c : ClassReader) (t : Syntax) → k + length os ≡ 64 → IsAtom k a (b ∷ w) u → AfterAtom k (Closes k os t) e p a u → Taken (start_step (state os (opened e p) m c) (role_of b) b) t w
atom_forth {k} {b} os e p m c t h (plain_byte g) r = (state os (opened e p) (Atom (byte b)) c, ap (λ x. start_step (state os (opened e p) m c) x b) g, (k, h, r))
atom_forth {k} os e p m c t h any_byte r = (state os (opened e p) (Atom any) c, refl, (k, h, r))
atom_forth {k} os e p m c t h (escaped_byte (short g)) r = (state os (opened e p) (Escape escape_at.Start) c, refl, (k, h, (_, _, short g, r)))
atom_forth {k} os e p m c t h (escaped_byte (hex g)) r = (state os (opened e p) (Escape escape_at.Start) c, refl, (k, h, (_, _, hex g, r)))
atom_forth {k} os e p m c t h (byte_class (positive f i j g)) r = (state os (opened e p) Class (reader false [] class_at.Open), refl, (k, h, (_, _, _, class_open (positive f i j g), r)))
atom_forth {k} os e p m c t h (byte_class (negative i j g)) r = (state os (opened e p) Class (reader false [] class_at.Open), refl, (k, h, (_, _, _, class_open (negative i j g), r)))
atom_forth {k = suc k} {u = u} os e p m c t h (group x) r = (
  state (opened e p ∷ os) (opened never empty) Start c,
  cond-true (nat_lt (length os) 64) _ _ (lt-ltb (length os) 64 (omega arith)),
  (k, omega arith, regex_open (Closes k (opened e p ∷ os) t) x (u, refl, r)),
)

start_forth : (k : ℕ) (b : ℕ) (w : List ℕ) (os : List Opened) (e p : Syntax) (m : Mode) (c : ClassReader) (t : Syntax) → k + length os ≡ 64 → AtomThen k (Closes k os t) e p (b ∷ w) → Taken (start_step (state os (opened e p) m c) (role_of b) b) t w
start_forth k b w os e p m c t h (a, u, x, r) = atom_forth os e p m c t h x r

-- what follows the alternatives where no further one does
closes_forth : (k : ℕ) (b : ℕ) (w : List ℕ) (os : List Opened) (e p : Syntax) (m : Mode) (c : ClassReader) (t : Syntax) → k + length os ≡ 64 → Closes k os t (either e p) (b ∷ w) → (b ≡ 41) × Taken (group_end (state os (opened e p) m c)) t w
closes_forth k b w [] e p m c t h (f, g) = cc
closes_forth k b w (o ∷ os) e p m c t h (u, g, r) = (
  same_head b 41 w u g,
  (state os o (Atom (either e p)) c, refl, (suc k, omega arith, subst (λ v. AfterAtom (suc k) (Closes (suc k) os t) o.earlier o.pieces (either e p) v) (sym (same_tail b 41 w u g)) r)),
)

-- what follows whole pieces
next_forth : {k b : ℕ} {s r : Syntax} {w u v : List ℕ} → (os : List Opened) (e p : Syntax) (m : Mode) (c : ClassReader) (t : Syntax) → k + length os ≡ 64 → MorePieces k p s (b ∷ w) u → MoreAlternatives k (either e s) r u v → Closes k os t r v → IsNext (role_of b) × Taken (piece_step (state os (opened e p) m c) (role_of b) b) t w
next_forth {k} {b} {w = w} os e p m c t h no_piece no_alternative q =
    let f = closes_forth k b w os e p m c t h q in
    subst (λ x. IsNext (role_of x) × Taken (piece_step (state os (opened e p) m c) (role_of x) x) t w) (sym f.0) (tt, f.1)
next_forth {k} os e p m c t h no_piece (one_alternative (pieces x y) a) q =
    (tt, (state os (opened (either e p) empty) Start c, refl, (k, h, piece_atom (Closes k os t) x (_, _, y, (_, _, a, q)))))
next_forth {k} {b} {w = w} os e p m c t h (one_piece x y) a q =
    let first = piece_first x in
    let taken = start_forth k b w os e p m c t h (piece_atom (Closes k os t) x (_, _, y, (_, _, a, q))) in
    (first_next (role_of b) first, subst (λ o. Taken o t w) (sym (piece_is_start (state os (opened e p) m c) (role_of b) b first)) taken)

pieces_forth : (k : ℕ) (b : ℕ) (w : List ℕ) (os : List Opened) (e p : Syntax) (m : Mode) (c : ClassReader) (t : Syntax) → k + length os ≡ 64 → Pieces k (Closes k os t) e p (b ∷ w) → IsNext (role_of b) × Taken (piece_step (state os (opened e p) m c) (role_of b) b) t w
pieces_forth k b w os e p m c t h (s, u, x, (r, v, a, q)) = next_forth os e p m c t h x a q

count_forth : {k b n : ℕ} {i : Option ℕ} {w u : List ℕ} → (os : List Opened) (e p a : Syntax) (m : Mode) (c : ClassReader) (t : Syntax) → k + length os ≡ 64 → IsCount n i (b ∷ w) u → Pieces k (Closes k os t) e (followed p (repeat n i a)) u → Taken (atom_step (state os (opened e p) m c) a (role_of b) b) t w
count_forth {k} os e p a m c t h star r = (state os (opened e (followed p (repeat 0 None a))) Piece c, refl, (k, h, r))
count_forth {k} os e p a m c t h plus r = (state os (opened e (followed p (repeat 1 None a))) Piece c, refl, (k, h, r))
count_forth {k} os e p a m c t h question r = (state os (opened e (followed p (repeat 0 (Some 1) a))) Piece c, refl, (k, h, r))
count_forth {k} os e p a m c t h (syntax.exactly x le) r = (state os (opened e p) (Bounds a bounds_at.Start) c, refl, (k, h, (_, _, _, count_start (syntax.exactly x le), r)))
count_forth {k} os e p a m c t h (at_least x le) r = (state os (opened e p) (Bounds a bounds_at.Start) c, refl, (k, h, (_, _, _, count_start (at_least x le), r)))
count_forth {k} os e p a m c t h (between x y low high) r = (state os (opened e p) (Bounds a bounds_at.Start) c, refl, (k, h, (_, _, _, count_start (between x y low high), r)))

after_forth : (k : ℕ) (b : ℕ) (w : List ℕ) (os : List Opened) (e p a : Syntax) (m : Mode) (c : ClassReader) (t : Syntax) → k + length os ≡ 64 → AfterAtom k (Closes k os t) e p a (b ∷ w) → Taken (atom_step (state os (opened e p) m c) a (role_of b) b) t w
after_forth k b w os e p a m c t h (inl r) =
    let f = pieces_forth k b w os e (followed p a) m c t h r in
    subst (λ o. Taken o t w) (sym (atom_is_piece (state os (opened e p) m c) a (role_of b) b f.0)) f.1
after_forth k b w os e p a m c t h (inr (n, i, u, x, r)) = count_forth os e p a m c t h x r

escaped_forth : (k : ℕ) (b : ℕ) (w : List ℕ) (os : List Opened) (e p : Syntax) (m : Mode) (c : ClassReader) (t : Syntax) (x : EscapePlace) → k + length os ≡ 64 → ModeRest k (Closes k os t) (opened e p) c (Escape x) (b ∷ w) → Taken (escaped_step (state os (opened e p) m c) (escape_step x b)) t w
escaped_forth k b w os e p m c t x h (d, u, y, r) = elim (escape_forth x b d w u y) [
  | inl (q, s, z) ↦ (state os (opened e p) (Escape q) c, ap (escaped_step (state os (opened e p) m c)) s, (k, h, (d, u, z, r)))
  | inr (s, g) ↦ (state os (opened e p) (Atom (byte d)) c, ap (escaped_step (state os (opened e p) m c)) s, (k, h, subst (λ v. AfterAtom k (Closes k os t) e p (byte d) v) (sym g) r))
]

classed_forth : (k : ℕ) (b : ℕ) (w : List ℕ) (os : List Opened) (e p : Syntax) (m : Mode) (c : ClassReader) (t : Syntax) → k + length os ≡ 64 → ModeRest k (Closes k os t) (opened e p) c Class (b ∷ w) → Taken (classed_step (state os (opened e p) m c) (class_step c b)) t w
classed_forth k b w os e p m c t h (n, rs, u, y, r) = elim (class_forth c.negated c.ranges c.place b n rs w u y) [
  | inl (d, s, z) ↦ (state os (opened e p) Class d, ap (classed_step (state os (opened e p) m c)) s, (k, h, (n, rs, u, z, r)))
  | inr (d, s, f, g, i) ↦ (
    state os (opened e p) (Atom (class d.negated d.ranges)) (reader d.negated [] d.place),
    ap (classed_step (state os (opened e p) m c)) s,
    (k, h, subst (λ v. AfterAtom k (Closes k os t) e p (class d.negated d.ranges) v) (sym i) (subst (λ l. AfterAtom k (Closes k os t) e p (class d.negated l) u) (sym g) (subst (λ j. AfterAtom k (Closes k os t) e p (class j rs) u) (sym f) r))),
  )
]

bounded_forth : (k : ℕ) (b : ℕ) (w : List ℕ) (os : List Opened) (e p a : Syntax) (m : Mode) (c : ClassReader) (t : Syntax) (x : BoundsPlace) → k + length os ≡ 64 → ModeRest k (Closes k os t) (opened e p) c (Bounds a x) (b ∷ w) → Taken (bounded_step (state os (opened e p) m c) a (bounds_step x b)) t w
bounded_forth k b w os e p a m c t x h (n, i, u, y, r) = elim (bounds_forth x b n i w u y) [
  | inl (q, s, z) ↦ (state os (opened e p) (Bounds a q) c, ap (bounded_step (state os (opened e p) m c) a) s, (k, h, (n, i, u, z, r)))
  | inr (s, g) ↦ (state os (opened e (followed p (repeat n i a))) Piece c, ap (bounded_step (state os (opened e p) m c) a) s, (k, h, subst (λ v. Pieces k (Closes k os t) e (followed p (repeat n i a)) v) (sym g) r))
]

mode_forth : (k : ℕ) (b : ℕ) (w : List ℕ) (os : List Opened) (e p : Syntax) (m : Mode) (c : ClassReader) (t : Syntax) → k + length os ≡ 64 → ModeRest k (Closes k os t) (opened e p) c m (b ∷ w) → Taken (mode_step (state os (opened e p) m c) m b) t w
mode_forth k b w os e p Start c t h r = start_forth k b w os e p Start c t h r
mode_forth k b w os e p (Atom a) c t h r = after_forth k b w os e p a (Atom a) c t h r
mode_forth k b w os e p Piece c t h r = (pieces_forth k b w os e p Piece c t h r).1
mode_forth k b w os e p (Escape x) c t h r = escaped_forth k b w os e p (Escape x) c t x h r
mode_forth k b w os e p Class c t h r = classed_forth k b w os e p Class c t h r
mode_forth k b w os e p (Bounds a x) c t h r = bounded_forth k b w os e p a (Bounds a x) c t x h r

-- the reader takes each byte with which some text goes on
pub step_forth : (s : State) (b : ℕ) (t : Syntax) (w : List ℕ) → Left s t (b ∷ w) → Taken (step s b) t w
step_forth s b t w (k, h, r) = mode_forth k b w s.outer s.level.earlier s.level.pieces s.mode s.class t h r
