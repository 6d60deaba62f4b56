-- Code put together along rows, over a shape that stays.
use Rattle.std.proofs.Common.{◌≡◌, ◌<◌, ◌+◌, ℕ, suc, List, [], ◌∷◌, ◌++◌, length, get_or, drop, drop-cons, sym, ap, subst, ◌∙◌, arith}
use Rattle.std.proofs.Math.Seq.{drop-length}
use Rattle.sp_code.specs.Shapes.{Shape}
use Rattle.sp_code_programs.specs.exprs.Marked.{Marked}
use Rattle.sp_emit.specs.Emitted.{Emitted, Adds}
use Rattle.sp_emit.proofs.Adding.{adds_nothing, adds_as, adds_then}

-- code behind other code, which hangs on neither shape nor address
pub adds_on : {a b c : Emitted} {ms : List Marked} {s : Shape} (ns : List Marked) (t : Shape) → Adds a b ms s → Adds b c ns t → Adds a c (ms ++ ns) t
adds_on ns t h k = adds_then (λ s n. ns) (λ s. t) h k

pub adds_none : (a : Emitted) (s : Shape) → a.now ≡ s → Adds a a [] s
adds_none a s is = subst (λ (t : Shape). Adds a a [] t) is (adds_nothing a)

-- the next of what is left, and nothing left
pub next_of : {A : Type 0} (xs : List A) (i : ℕ) (d x : A) → i < length xs → x ≡ get_or xs i d → drop i xs ≡ x ∷ drop (i + 1) xs
next_of {A} xs i d x lt is =
    let one : suc i ≡ i + 1 = omega arith in
    drop-cons xs i d lt ∙ ap (λ (y : A). y ∷ drop (suc i) xs) (sym is) ∙ ap (λ (n : ℕ). x ∷ drop n xs) one

pub next_item : {A : Type 0} (xs : List A) (i : ℕ) (x : A) → i < length xs → x ≡ get_or xs i x → drop i xs ≡ x ∷ drop (i + 1) xs
next_item xs i x lt is = next_of xs i x x lt is

pub none_left : {A : Type 0} (xs : List A) (i : ℕ) → i ≡ length xs → drop i xs ≡ []
none_left xs i is = ap (λ (n : ℕ). drop n xs) is ∙ drop-length xs

-- what was emitted, and the code of what is left of a row, are the code of the row
pub record Row {A : Type 0} (f : List A → List Marked) (s : Shape) (first now : Emitted) (all left : List A) : Type 0 where
  pub here : now.now ≡ s
  pub code : (x : Emitted) → Adds now x (f left) s → Adds first x (f all) s

module _ {A : Type 0} (f : List A → List Marked) (s : Shape) where
  pub row_begins : (e : Emitted) (xs : List A) → e.now ≡ s → Row f s e e xs xs
  row_begins e xs is = record { here = is; code = λ x h. h }

  pub row_next : (e₀ e₁ e₂ : Emitted) (xs : List A) (i : ℕ) (d x : A) (ms : List Marked) → ((rest : List A) → ms ++ f rest ≡ f (x ∷ rest)) → i < length xs → x ≡ get_or xs i d
      → Row f s e₀ e₁ xs (drop i xs) → Adds e₁ e₂ ms s → Row f s e₀ e₂ xs (drop (i + 1) xs)
  row_next e₀ e₁ e₂ xs i d x ms split lt is row h =
      let rest = drop (i + 1) xs in
      let next = next_of xs i d x lt is in
      record {
        here = h.now;
        code = λ y left. row.code y (subst (λ (l : List A). Adds e₁ y (f l) s) (sym next) (adds_as (f (x ∷ rest)) (adds_on (f rest) s h left) (split rest)));
      }

  pub row_ends : (e₀ e₁ : Emitted) (xs : List A) (i : ℕ) → f [] ≡ [] → i ≡ length xs → Row f s e₀ e₁ xs (drop i xs) → Adds e₀ e₁ (f xs) s
  row_ends e₀ e₁ xs i empty all row =
      row.code e₁ (subst (λ (l : List A). Adds e₁ e₁ (f l) s) (sym (none_left xs i all)) (adds_as (f []) (adds_none e₁ s row.here) (sym empty)))
