-- A loop round a loop has the words of one loop.
use Rattle.std.proofs.Common.{◌≡◌, ℕ, zero, suc, ◌+◌, ◌-◌, ◌≤◌, ◌++◌, ◌==◌, ◌||◌, Bool, true, false, List, [], ◌∷◌, Option, Some, None, length, get_or, refl, ap, sym, subst, ◌∙◌, inl, inr, arith}
use Rattle.std.proofs.lemmas.List.{append-nil}
use Rattle.sp_regex.specs.Trees.{Syntax, sequence, alternatives, repeat}
use Rattle.sp_regex.specs.Language.{InL, Times, AtMost}
use Rattle.sp_match.specs.Parts.{Many, Star, Plus}
use Rattle.sp_match.proofs.Steps.{times_join}

times_map : (A B : List ℕ → Type 0) → ((w : List ℕ) → A w → B w) → (n : ℕ) (w : List ℕ) → Times n A w → Times n B w
times_map A B f zero w t = t
times_map A B f (suc n) w t = (t.0, t.1, t.2, f t.0 t.3, times_map A B f n t.1 t.4)

pub many_map : (m : Bool) (A B : List ℕ → Type 0) → ((w : List ℕ) → A w → B w) → (w : List ℕ) → Many m A w → Many m B w
many_map true A B f w t = (t.0, times_map A B f t.0 w t.1)
many_map false A B f w t = (t.0, times_map A B f (suc t.0) w t.1)

-- words of a repetition, one behind the other
flat : (a : Syntax) (l : ℕ) (most : Option ℕ) (n : ℕ) (w : List ℕ) → Times n (InL (repeat l most a)) w → Star (InL a) w
flat a l most zero w t = (0, t)
flat a l most (suc n) w t =
    let rest = flat a l most n t.1 t.4 in
    (t.3.0 + rest.0, subst (Times (t.3.0 + rest.0) (InL a)) (sym t.2) (times_join (InL a) t.3.0 rest.0 t.0 t.1 t.3.3 rest.1))

flat_some : (a : Syntax) (most : Option ℕ) (n : ℕ) (w : List ℕ) → Times (suc n) (InL (repeat 1 most a)) w → Plus (InL a) w
flat_some a most n w t =
    let rest = flat a 1 most n t.1 t.4 in
    let some = t.3.1 in
    let is : t.3.0 + rest.0 ≡ suc (t.3.0 + rest.0 - 1) = omega arith in
    (t.3.0 + rest.0 - 1, subst (λ k. Times k (InL a) w) is (subst (Times (t.3.0 + rest.0) (InL a)) (sym t.2) (times_join (InL a) t.3.0 rest.0 t.0 t.1 t.3.3 rest.1)))

one_of_them : (a : Syntax) (l : ℕ) (most : Option ℕ) → l ≤ 1 → AtMost 1 most → (w : List ℕ) → InL a w → InL (repeat l most a) w
one_of_them a l most low high w h = (1, low, high, (w, [], sym (append-nil w), h, refl))

none_of_them : (a : Syntax) (most : Option ℕ) → AtMost 1 most → InL (repeat 0 most a) []
none_of_them a (Some m) high = (0, omega arith, omega arith, refl)
none_of_them a None high = (0, omega arith, tt, refl)

pub nested_forth : (m : Bool) (a : Syntax) (l : ℕ) (most : Option ℕ) → l ≤ 1 → (w : List ℕ) → Many m (InL (repeat l most a)) w → Many (m || (l == 0)) (InL a) w
nested_forth true a l most low w t = flat a l most t.0 w t.1
nested_forth false a zero most low w t = flat a 0 most (suc t.0) w t.1
nested_forth false a (suc zero) most low w t = flat_some a most t.0 w t.1
nested_forth false a (suc (suc l)) most low w t = absurd (omega arith)

pub nested_back : (m : Bool) (a : Syntax) (l : ℕ) (most : Option ℕ) → l ≤ 1 → AtMost 1 most → (w : List ℕ) → Many (m || (l == 0)) (InL a) w → Many m (InL (repeat l most a)) w
nested_back true a l most low high w t = (t.0, times_map (InL a) (InL (repeat l most a)) (one_of_them a l most low high) t.0 w t.1)
nested_back false a zero most low high w (zero, t) = (0, ([], [], t, none_of_them a most high, refl))
nested_back false a zero most low high w (suc n, t) = (n, times_map (InL a) (InL (repeat 0 most a)) (one_of_them a 0 most low high) (suc n) w t)
nested_back false a (suc zero) most low high w t = (t.0, times_map (InL a) (InL (repeat 1 most a)) (one_of_them a 1 most low high) (suc t.0) w t.1)
nested_back false a (suc (suc l)) most low high w t = absurd (omega arith)

-- a row and a choice of one part
pub sequence_one : (x : Syntax) (w : List ℕ) → InL (sequence (x ∷ [])) w → InL x w
sequence_one x w h = subst (InL x) (sym (h.2 ∙ ap (λ z. z ++ h.1) h.3)) h.4

pub one_sequence : (x : Syntax) (w : List ℕ) → InL x w → InL (sequence (x ∷ [])) w
one_sequence x w h = ([], w, refl, refl, h)

pub choice_one : (x : Syntax) (w : List ℕ) → InL (alternatives (x ∷ [])) w → InL x w
choice_one x w h = elim h [ inl k ↦ absurd k | inr k ↦ k ]

pub one_choice : (x : Syntax) (w : List ℕ) → InL x w → InL (alternatives (x ∷ [])) w
one_choice x w h = inr h

-- the only item of a list
pub only_item : (xs : List Syntax) (x : Syntax) → length xs ≡ 1 → x ≡ get_or xs 0 x → xs ≡ x ∷ []
only_item [] x long is = absurd (omega arith)
only_item (y ∷ []) x long is = ap (λ z. z ∷ []) (sym is)
only_item (y ∷ z ∷ zs) x long is = absurd (omega arith)
