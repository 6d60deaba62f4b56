-- Directories are read from the left: what stands before the first colon, and what stands behind it.
use Rattle.std.proofs.Common.{◌≡◌, ◌≢◌, ◌<◌, ◌==◌, ℕ, suc, Bool, true, false, not, if◌then◌else◌, List, [], ◌∷◌, ◌++◌, length, get_or, filter, sym, ap, ◌∙◌, refl, subst, arith, append_assoc}
use Rattle.std.proofs.lemmas.Bool.{ne_eqb}
use Rattle.std.proofs.lemmas.List.{append-nil, length-append}
use Rattle.sp_command.specs.Directories.{between_colons, directories_of, in_front, is_empty}

-- none of these bytes is a colon
abbrev pub HasNone : List ℕ → Type 0
HasNone xs = (i : ℕ) → i < length xs → get_or xs i 0 ≢ 58

none_first : (x : ℕ) (xs : List ℕ) → HasNone (x ∷ xs) → (x == 58) ≡ false
none_first x xs n = ne_eqb x 58 (n 0 (omega arith))

none_behind : (x : ℕ) (xs : List ℕ) → HasNone (x ∷ xs) → HasNone xs
none_behind x xs n = λ i less. n (suc i) (omega (arith, less))

between_more : (xs ys : List ℕ) → HasNone xs → between_colons (xs ++ 58 ∷ ys) ≡ xs ∷ between_colons ys
between_more [] ys n = refl
between_more (x ∷ xs) ys n =
    let rest = between_colons (xs ++ 58 ∷ ys) in
    ap (λ t. if t then [] ∷ rest else in_front x rest) (none_first x xs n) ∙ ap (λ r. in_front x r) (between_more xs ys (none_behind x xs n))

between_end : (xs : List ℕ) → HasNone xs → between_colons xs ≡ xs ∷ []
between_end [] n = refl
between_end (x ∷ xs) n =
    let rest = between_colons xs in
    ap (λ t. if t then [] ∷ rest else in_front x rest) (none_first x xs n) ∙ ap (λ r. in_front x r) (between_end xs (none_behind x xs n))

-- a directory, unless it is empty
abbrev one_of : List ℕ → List (List ℕ)
one_of xs = if is_empty xs then [] else xs ∷ []

first_of : (xs : List ℕ) (rest : List (List ℕ)) → filter (λ d. not (is_empty d)) (xs ∷ rest) ≡ one_of xs ++ filter (λ d. not (is_empty d)) rest
first_of [] rest = refl
first_of (x ∷ xs) rest = refl

-- one more directory
pub directories_more : (text bs xs ys : List ℕ) (before now : List (List ℕ)) → bs ≡ xs ++ 58 ∷ ys → HasNone xs → before ++ directories_of bs ≡ directories_of text
    → now ≡ before ++ (if is_empty xs then [] else xs ∷ []) → now ++ directories_of ys ≡ directories_of text
directories_more text bs xs ys before now e n h put =
    let whole : directories_of bs ≡ one_of xs ++ directories_of ys = ap directories_of e ∙ ap (λ r. filter (λ d. not (is_empty d)) r) (between_more xs ys n) ∙ first_of xs (between_colons ys) in
    ap (λ l. l ++ directories_of ys) put ∙ append_assoc before (one_of xs) (directories_of ys) ∙ ap (λ l. before ++ l) (sym whole) ∙ h

-- the last one
pub directories_end : (text bs : List ℕ) (before now : List (List ℕ)) → HasNone bs → before ++ directories_of bs ≡ directories_of text → now ≡ before ++ (if is_empty bs then [] else bs ∷ []) → now ≡ directories_of text
directories_end text bs before now n h put =
    let whole : directories_of bs ≡ one_of bs = ap (λ r. filter (λ d. not (is_empty d)) r) (between_end bs n) ∙ first_of bs [] ∙ append-nil (one_of bs) in
    put ∙ ap (λ l. before ++ l) (sym whole) ∙ h

-- what is left gets shorter
pub left_smaller : (bs xs ys : List ℕ) → bs ≡ xs ++ 58 ∷ ys → length ys < length bs
left_smaller bs xs ys e = let n = ap length e in let m = length-append xs (58 ∷ ys) in omega (arith, n, m)
