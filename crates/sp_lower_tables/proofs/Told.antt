-- How names are told: what stands behind the last colon, and rows of names.
use Rattle.std.proofs.Common.{◌≡◌, ◌≢◌, ◌<◌, ◌≤◌, ◌+◌, ◌==◌, ℕ, zero, suc, Bool, true, false, List, [], ◌∷◌, ◌++◌, append_assoc, length, get_or, take, drop, Option, Some, None, MatchOption, if◌then◌else◌, refl, sym, ap, ◌∙◌, arith}
use Rattle.std.specs.Borrow.{Bor}
use Rattle.std.specs.Str.Pattern.{RFindsChar}
use Rattle.std.proofs.lemmas.Bool.{eqb-true}
use Rattle.std.proofs.lemmas.Str.Pattern.{NoCharPasses-char, drop_at_char}
use Rattle.sp_code.specs.declared.program.Labels.{Labels}
use Rattle.sp_code.specs.declared.program.Ranges.{Ranges}
use Rattle.sp_code.specs.Programs as told
use Rattle.sp_meaning.specs.Names.{behind_colons, own_name}

-- bytes none of which is a colon
abbrev NoColon : List ℕ → Type 0
NoColon text = (k : ℕ) → k < length text → get_or text k 0 ≢ 58

no_colon : (own text : List ℕ) → NoColon text → behind_colons own text ≡ own
no_colon own [] none = refl
no_colon own (b ∷ bs) none =
    by (b == 58) refl ∙ no_colon own bs (λ k lt. none (suc k) (omega (arith, lt)))
  where
    by : (p : Bool) → (b == 58) ≡ p → behind_colons (if b == 58 then bs else own) bs ≡ behind_colons own bs
    by true e = absurd (none 0 (omega arith) (eqb-true b 58 e))
    by false e = ap (λ p. behind_colons (if p then bs else own) bs) e

behind : (i : ℕ) (own text rest : List ℕ) → drop i text ≡ 58 ∷ rest → NoColon rest → behind_colons own text ≡ rest
behind zero own text rest e none = ap (behind_colons own) e ∙ no_colon rest rest none
behind (suc i) own [] rest e none = absurd (let n = ap length e in omega (arith, n))
behind (suc i) own (b ∷ bs) rest e none = behind i (if b == 58 then bs else own) bs rest e none

-- what a split at the last colon gives
abbrev pub last_part : List ℕ → Option (Bor (List ℕ) × Bor (List ℕ)) → List ℕ
last_part text None = text
last_part text (Some x) = x.1.now

pub own_is : (text : List ℕ) (r : Option (Bor (List ℕ) × Bor (List ℕ)))
    → MatchOption r (RFindsChar 58 text None) (λ x. (i : ℕ) × (j : ℕ) × RFindsChar 58 text (Some (i, j)) × (x.0.now ≡ take i text) × (x.1.now ≡ drop j text) × (i ≤ j) × (length x.0.now ≡ i) × (length x.1.now + j ≡ length text))
    → last_part text r ≡ own_name text
own_is text None h = sym (no_colon text text (λ k lt. NoCharPasses-char 58 text k h (omega arith) lt))
own_is text (Some x) h =
    let i = h.0 in
    let j = h.1 in
    let none : NoColon (drop j text) = λ k lt. NoCharPasses-char 58 (drop j text) k h.2.0 (omega arith) lt in
    h.4 ∙ sym (behind i text text (drop j text) (drop_at_char 58 text i j h.2.1 (omega arith)) none)

-- rows of names, as they are told
pub ranges_more : (rows : List Ranges) (r : Ranges) → told.range_names (rows ++ r ∷ []) ≡ told.range_names rows ++ r.ranges.items ∷ []
ranges_more [] r = refl
ranges_more (q ∷ rows) r = ap (λ (l : List (List (List ℕ))). q.ranges.items ∷ l) (ranges_more rows r)

pub labels_more : (rows : List Labels) (r : Labels) → told.label_names (rows ++ r ∷ []) ≡ told.label_names rows ++ r.labels.items ∷ []
labels_more [] r = refl
labels_more (q ∷ rows) r = ap (λ (l : List (List (ℕ × List ℕ))). q.labels.items ∷ l) (labels_more rows r)

-- what was told of a row, and what is left of it, are the whole
pub tells_next : {X Y : Type 0} (F : List X → List Y) (before after total : List Y) (y : Y) (xs : List X) (i : ℕ) (x : X) → drop i xs ≡ x ∷ drop (i + 1) xs → F (x ∷ drop (i + 1) xs) ≡ y ∷ F (drop (i + 1) xs)
    → after ≡ before ++ y ∷ [] → before ++ F (drop i xs) ≡ total → after ++ F (drop (i + 1) xs) ≡ total
tells_next {X} {Y} F before after total y xs i x next first is so_far =
    let rest = F (drop (i + 1) xs) in
    ap (λ (l : List Y). l ++ rest) is ∙ append_assoc before (y ∷ []) rest ∙ ap (λ (l : List Y). before ++ l) (sym (ap F next ∙ first)) ∙ so_far
