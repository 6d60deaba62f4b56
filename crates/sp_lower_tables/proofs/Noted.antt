-- The fields that have bodies of hooks, as they are noted one after another.
use Rattle.std.proofs.Common.{◌≡◌, ◌<◌, ◌+◌, ◌==◌, ◌||◌, ℕ, zero, suc, Bool, true, false, List, [], ◌∷◌, ◌++◌, length, get_or, drop, replicate, slice_set, Option, Some, None, option_copied, if◌then◌else◌, refl, sym, ap, subst, ◌∙◌, arith}
use Rattle.std.specs.Borrow.{Bor}
use Rattle.std.proofs.lemmas.Bool.{eqb-true, eq-eqb}
use Rattle.sp_typed_units.specs.declared.declarations.Typed.{Typed}
use Rattle.sp_typed_units.specs.declared.items.Field.{Field}
use Rattle.sp_meaning_states.specs.Scopes.{is_among}
use Rattle.sp_code_programs.specs.programs.Currents.{earlier, hooked_field}
use Rattle.sp_lower_tables.specs.inside.Fields.{row_at, field_if, field_among, Notes, AreFields}

abbrev Rows : Type 0
Rows = List (Option (Bor Field))

-- the first of three
earlier_both : (a b c : Option Field) → earlier (earlier a b) c ≡ earlier a (earlier b c)
earlier_both (Some f) b c = refl
earlier_both None b c = refl

earlier_none : (a : Option Field) → earlier a None ≡ a
earlier_none (Some f) = refl
earlier_none None = refl

notes_none : (a : Rows) → Notes a a (λ h. None)
notes_none a = record { counted = refl; rows = λ h lt. sym (earlier_none (row_at a h)) }

notes_as : (a b : Rows) (f g : ℕ → Option Field) → ((h : ℕ) → f h ≡ g h) → Notes a b f → Notes a b g
notes_as a b f g same n = record { counted = n.counted; rows = λ h lt. n.rows h lt ∙ ap (earlier (row_at a h)) (same h) }

notes_both : (a b c : Rows) (f g : ℕ → Option Field) → Notes a b f → Notes b c g → Notes a c (λ h. earlier (f h) (g h))
notes_both a b c f g m n =
    record {
      counted = n.counted ∙ m.counted;
      rows = λ h lt.
          n.rows h (subst (λ (k : ℕ). h < k) (sym m.counted) lt)
          ∙ ap (λ (o : Option Field). earlier o (g h)) (m.rows h lt)
          ∙ earlier_both (row_at a h) (f h) (g h);
    }

-- Along a row: what is noted for what is left of it, behind what was noted, is noted for the row.
module _ {A : Type 0} (found : List A → ℕ → Option Field) where
  abbrev pub Leads : Rows → Rows → List A → List A → Type 0
  Leads first now all left = (c : Rows) → Notes now c (found left) → Notes first c (found all)

  pub leads_on : (own : A → ℕ → Option Field) → ((x : A) (rest : List A) (h : ℕ) → earlier (own x h) (found rest h) ≡ found (x ∷ rest) h) → (first a b : Rows) (xs : List A) (i : ℕ) (x : A) → drop i xs ≡ x ∷ drop (i + 1) xs
      → Leads first a xs (drop i xs) → Notes a b (own x) → Leads first b xs (drop (i + 1) xs)
  leads_on own splits first a b xs i x next lead n c left =
      let rest = drop (i + 1) xs in
      lead c
      (subst (λ (l : List A). Notes a c (found l)) (sym next)
      (notes_as a c (λ h. earlier (own x h) (found rest h)) (found (x ∷ rest)) (splits x rest) (notes_both a b c (own x) (found rest) n left)))

  pub leads_to : (first a : Rows) (xs left : List A) → ((h : ℕ) → None ≡ found [] h) → left ≡ [] → Leads first a xs left → Notes first a (found xs)
  leads_to first a xs left empty none lead = lead a (subst (λ (l : List A). Notes a a (found l)) (sym none) (notes_as a a (λ h. None) (found []) empty (notes_none a)))

-- one body, or one of those behind it
pub among_splits : (f : Field) (b : ℕ) (bs : List ℕ) (h : ℕ) → earlier (field_if f b h) (field_among f bs h) ≡ field_among f (b ∷ bs) h
among_splits f b bs h = by (h == b) (is_among h bs)
  where
    by : (p q : Bool) → earlier (if p then Some f else None) (if q then Some f else None) ≡ (if p || q then Some f else None)
    by true q = refl
    by false q = refl

-- a field in place of none
set_here : (rows : Rows) (b : ℕ) (x : Option (Bor Field)) → b < length rows → row_at (slice_set rows b x) b ≡ option_copied x
set_here [] b x lt = absurd (let z : ⊥ = omega (arith, lt) in z)
set_here (r ∷ rows) zero x lt = refl
set_here (r ∷ rows) (suc b) x lt = set_here rows b x (omega (arith, lt))

set_there : (rows : Rows) (h b : ℕ) (x : Option (Bor Field)) → (h ≡ b → ⊥) → row_at (slice_set rows b x) h ≡ row_at rows h
set_there [] h b x apart = refl
set_there (r ∷ rows) zero zero x apart = absurd (apart refl)
set_there (r ∷ rows) (suc h) zero x apart = refl
set_there (r ∷ rows) zero (suc b) x apart = refl
set_there (r ∷ rows) (suc h) (suc b) x apart = set_there rows h b x (λ e. apart (ap suc e))

set_long : (rows : Rows) (b : ℕ) (x : Option (Bor Field)) → length (slice_set rows b x) ≡ length rows
set_long [] b x = refl
set_long (r ∷ rows) zero x = refl
set_long (r ∷ rows) (suc b) x = ap suc (set_long rows b x)

never : {A : Type 0} (h b : ℕ) → (h == b) ≡ false → h ≡ b → A
never h b e same = absurd (let z : true ≡ false = sym (eq-eqb h b same) ∙ e in cc)

pub noted : (rows now : Rows) (b : ℕ) (f : Bor Field) → b < length rows → row_at rows b ≡ None → now ≡ slice_set rows b (Some f) → Notes rows now (field_if f.now b)
noted rows now b f lt empty is =
    let after = slice_set rows b (Some f) in
    subst (λ (l : Rows). Notes rows l (field_if f.now b)) (sym is)
    (record { counted = set_long rows b (Some f); rows = λ h within. by h (h == b) refl })
  where
    by : (h : ℕ) (p : Bool) → (h == b) ≡ p → row_at (slice_set rows b (Some f)) h ≡ earlier (row_at rows h) (if h == b then Some f.now else None)
    by h true e =
        let same : h ≡ b = eqb-true h b e in
        ap (λ (n : ℕ). row_at (slice_set rows b (Some f)) n) same
        ∙ set_here rows b (Some f) lt
        ∙ ap (λ (o : Option Field). earlier o (Some f.now)) (sym (ap (row_at rows) same ∙ empty))
        ∙ ap (λ (p : Bool). earlier (row_at rows h) (if p then Some f.now else None)) (sym e)
    by h false e =
        set_there rows h b (Some f) (never h b e)
        ∙ sym (earlier_none (row_at rows h))
        ∙ ap (λ (p : Bool). earlier (row_at rows h) (if p then Some f.now else None)) (sym e)

-- a body that has a field already, or that there isn't
pub known : (rows : Rows) (b : ℕ) (f : Field) → (b < length rows → (g : Field) × (row_at rows b ≡ Some g)) → Notes rows rows (field_if f b)
known rows b f there = record { counted = refl; rows = λ h lt. by h lt (h == b) refl }
  where
    by : (h : ℕ) → h < length rows → (p : Bool) → (h == b) ≡ p → row_at rows h ≡ earlier (row_at rows h) (if h == b then Some f else None)
    by h lt true e =
        let same : h ≡ b = eqb-true h b e in
        let has = there (subst (λ (n : ℕ). n < length rows) same lt) in
        let here : row_at rows h ≡ Some has.0 = ap (row_at rows) same ∙ has.1 in
        here ∙ sym (ap (λ (o : Option Field). earlier o (if h == b then Some f else None)) here)
    by h lt false e = sym (earlier_none (row_at rows h)) ∙ ap (λ (p : Bool). earlier (row_at rows h) (if p then Some f else None)) (sym e)

-- what stands in a row
pub read_row : (rows : Rows) (h : ℕ) (r : Option (Bor Field)) → h < length rows → r ≡ get_or rows h r → option_copied r ≡ row_at rows h
read_row [] h r lt is = absurd (let z : ⊥ = omega (arith, lt) in z)
read_row (x ∷ rows) zero r lt is = ap option_copied is
read_row (x ∷ rows) (suc h) r lt is = read_row rows h r (omega (arith, lt)) is

-- before the first field
none_yet : (n h : ℕ) → row_at (replicate n None) h ≡ None
none_yet zero h = refl
none_yet (suc n) zero = refl
none_yet (suc n) (suc h) = none_yet n h

none_long : (n : ℕ) → length (replicate {A = Option (Bor Field)} n None) ≡ n
none_long zero = refl
none_long (suc n) = ap suc (none_long n)

pub one_none_more : (n : ℕ) → replicate {A = Option (Bor Field)} n None ++ None ∷ [] ≡ replicate (suc n) None
one_none_more zero = refl
one_none_more (suc n) = ap (λ (l : Rows). None ∷ l) (one_none_more n)

pub all_noted : (list : Typed) (n : ℕ) (first now : Rows) → first ≡ replicate n None → n ≡ length list.hooks → Notes first now (λ h. hooked_field h list.units) → AreFields list now
all_noted list n first now empty count notes =
    let long : length first ≡ n = ap length empty ∙ none_long n in (
      notes.counted ∙ long ∙ count,
      λ h lt.
          notes.rows h (subst (λ (k : ℕ). h < k) (sym (long ∙ count)) lt)
          ∙ ap (λ (rows : Rows). earlier (row_at rows h) (hooked_field h list.units)) empty
          ∙ ap (λ (o : Option Field). earlier o (hooked_field h list.units)) (none_yet n h),
    )
