-- One more at the end of a list, and one fewer at its front.
use Rattle.std.proofs.Common.{ℕ, zero, suc, ◌+◌, ◌-◌, ◌≤◌, ◌<◌, ◌≡◌, List, [], ◌∷◌, ◌++◌, Option, Some, None, true, ltb, get_or, length, length-append, append_assoc, refl, ap, sym, ◌∙◌, arith}
use Rattle.std.proofs.lemmas.Bool.Decides.{nat_tests}
use Rattle.sp_types.specs.Types.{Ty, tys}
use Rattle.sp_typed.specs.Exprs.{Expr}
use Rattle.sp_type_operands.specs.Literals.{taken}
use Rattle.sp_type_context.specs.Typing.{in_turn, each_to, to_maybe, part_at}

pub in_turn_more : (k v : Ty) (ps : List (Expr × Expr)) (p : Expr × Expr) → in_turn k v (ps ++ p ∷ []) ≡ in_turn k v ps ++ taken k p.0 ∷ (taken v p.1 ∷ [])
in_turn_more k v [] p = refl
in_turn_more k v (q ∷ ps) p = ap (λ es. taken k q.0 ∷ (taken v q.1 ∷ es)) (in_turn_more k v ps p)

-- each goes to its own target, where n stand before the first
pub each_more : (f : ℕ → Option Ty) (n : ℕ) (es : List Expr) (e : Expr) → each_to f n (es ++ e ∷ []) ≡ each_to f n es ++ to_maybe (f (n + length es)) e ∷ []
each_more f n [] e = ap (λ m. to_maybe (f m) e ∷ []) (omega arith)
each_more f n (x ∷ es) e =
    let s : suc n + length es ≡ n + length (x ∷ es) = omega arith in
    ap (λ ys. to_maybe (f n) x ∷ ys) (each_more f (suc n) es e ∙ ap (λ m. each_to f (suc n) es ++ to_maybe (f m) e ∷ []) s)

pub in_turn_step : (k v : Ty) (ps : List (Expr × Expr)) (p : Expr × Expr) (all new : List Expr) → all ≡ in_turn k v ps → new ≡ all ++ taken k p.0 ∷ (taken v p.1 ∷ []) → new ≡ in_turn k v (ps ++ p ∷ [])
in_turn_step k v ps p all new is put =
    put
    ∙ ap (λ es. es ++ taken k p.0 ∷ (taken v p.1 ∷ [])) is
    ∙ sym (in_turn_more k v ps p)

each_length : (f : ℕ → Option Ty) (n : ℕ) (es : List Expr) → length (each_to f n es) ≡ length es
each_length f n [] = refl
each_length f n (e ∷ es) = ap suc (each_length f (suc n) es)

pub each_long : (f : ℕ → Option Ty) (old parts es : List Expr) → parts ≡ old ++ each_to f 0 es → length parts ≡ length old + length es
each_long f old parts es is = ap length is ∙ length-append old (each_to f 0 es) ∙ ap (λ n. length old + n) (each_length f 0 es)

pub each_step : (f : ℕ → Option Ty) (old parts new es : List Expr) (e x : Expr) (number : ℕ) → parts ≡ old ++ each_to f 0 es → number + length old ≡ length parts → x ≡ to_maybe (f number) e → new ≡ parts ++ x ∷ [] → new ≡ old ++ each_to f 0 (es ++ e ∷ [])
each_step f old parts new es e x number is count taken push =
    let long = each_long f old parts es is in
    let at : number ≡ 0 + length es = omega (arith, count, long) in
    push
    ∙ ap (λ y. parts ++ y ∷ []) (taken ∙ ap (λ n. to_maybe (f n) e) at)
    ∙ ap (λ ys. ys ++ to_maybe (f (0 + length es)) e ∷ []) is
    ∙ append_assoc old (each_to f 0 es) (to_maybe (f (0 + length es)) e ∷ [])
    ∙ ap (λ ys. old ++ ys) (sym (each_more f 0 es e))

pub each_count : (f : ℕ → Option Ty) (old parts es : List Expr) (len start : ℕ) → parts ≡ old ++ each_to f 0 es → len ≡ length parts → start ≡ length old → (len - start) + length old ≡ length parts
each_count f old parts es len start is all first = let long = each_long f old parts es is in omega (arith, all, first, long)

-- the part of a type at a place
part_some : (ts : List Ty) (n : ℕ) (t : Ty) → n < length ts → t ≡ get_or ts n t → part_at (tys ts) n ≡ Some t
part_some [] n t lt is = absurd (let z : ⊥ = omega (arith, lt) in z)
part_some (x ∷ ts) zero t lt is = ap Some (sym is)
part_some (x ∷ ts) (suc n) t lt is = part_some ts n t (omega (arith, lt)) is

pub part_none : (ts : List Ty) (n : ℕ) → length ts ≤ n → part_at (tys ts) n ≡ None
part_none [] n le = refl
part_none (t ∷ ts) zero le = absurd (let z : ⊥ = omega (arith, le) in z)
part_none (t ∷ ts) (suc n) le = part_none ts n (omega (arith, le))

pub some_at : (ts : List Ty) (n : ℕ) (t : Ty) → true ≡ ltb n (length ts) → t ≡ get_or ts n t → part_at (tys ts) n ≡ Some t
some_at ts n t lt is = part_some ts n t (let z : n < length ts = grind (arith, nat_tests) in z) is
