-- What the instructions and the shapes of a whole code say of each address.
use Rattle.std.proofs.Common.{◌≡◌, ℕ, zero, suc, ◌+◌, List, [], ◌∷◌, length, Some, None, refl, sym, ap, ◌∙◌, subst, arith}
use Rattle.std.specs.Prelude.{slice_get, unwrap_or}
use Rattle.sp_value.specs.Val.{Val}
use Rattle.sp_code.specs.declared.instr.Instr.{Instr}
use Rattle.sp_code.specs.Machine.{Plain}
use Rattle.sp_code.specs.Shapes.{Shape, Shapes, Keeps}
use Rattle.sp_code_programs.specs.exprs.Marked.{Marked, IsWanted, HasAt, Shows}
use Rattle.sp_code_programs.specs.programs.Programs.{AreWanted, shapes_before}
use Rattle.sp_law_code.specs.exprs.Laws.{AllKeep}

-- what stands in a list from a number on
abbrev IsFrom : {A : Type 0} → List A → ℕ → List A → Type 0
IsFrom xs n ys = (k : ℕ) → slice_get xs (n + k) ≡ slice_get ys k

from_start : {A : Type 0} (xs : List A) → IsFrom xs 0 xs
from_start xs k = let e : 0 + k ≡ k = omega arith in ap (λ n. slice_get xs n) e

first_of : {A : Type 0} (xs ys : List A) (n : ℕ) (y : A) → IsFrom xs n (y ∷ ys) → slice_get xs n ≡ Some y
first_of xs ys n y h = let e : n + 0 ≡ n = omega arith in subst (λ n. slice_get xs n ≡ Some y) e (h 0)

from_next : {A : Type 0} (xs ys : List A) (n : ℕ) (y : A) → IsFrom xs n (y ∷ ys) → IsFrom xs (n + 1) ys
from_next xs ys n y h k = let e : n + suc k ≡ n + 1 + k = omega arith in subst (λ n. slice_get xs n ≡ slice_get ys k) e (h (suc k))

stands_from : (p : Plain) (pc : ℕ) (ms : List Marked) (is : List Instr) → IsFrom p.code pc is → AreWanted p.consts ms is → HasAt p pc ms
stands_from p pc [] is h w = tt
stands_from p pc (m ∷ ms) [] h w = absurd w
stands_from p pc (m ∷ ms) (i ∷ is) h w = (i, first_of p.code is pc i h, w.0, stands_from p (pc + 1) ms is (from_next p.code is pc i h) w.1)

pub stands : (p : Plain) (ms : List Marked) → AreWanted p.consts ms p.code → HasAt p 0 ms
stands p ms w = stands_from p 0 ms p.code (from_start p.code) w

shows_from : (at : List Shape) (pc : ℕ) (ms : List Marked) → IsFrom at pc (shapes_before ms) → Shows at pc ms
shows_from at pc [] h = tt
shows_from at pc (m ∷ ms) h = (first_of at (shapes_before ms) pc m.before h, shows_from at (pc + 1) ms (from_next at (shapes_before ms) pc m.before h))

pub shows : (at : List Shape) (ms : List Marked) → at ≡ shapes_before ms → Shows at 0 ms
shows at ms e = shows_from at 0 ms (subst (λ ss. IsFrom at 0 ss) e (from_start at))

-- an address that has a shape has an instruction
pub instr_there : (consts : List Val) (ms : List Marked) (is : List Instr) (n : ℕ) (s : Shape) → AreWanted consts ms is → slice_get (shapes_before ms) n ≡ Some s
    → (i : Instr) × (slice_get is n ≡ Some i)
instr_there consts [] is n s w e = absurd (let q : None ≡ Some s = e in cc)
instr_there consts (m ∷ ms) [] n s w e = absurd w
instr_there consts (m ∷ ms) (i ∷ is) zero s w e = (i, refl)
instr_there consts (m ∷ ms) (i ∷ is) (suc n) s w e = instr_there consts ms is n s w.1 e

-- instructions that stand so are those that are wanted, if there are no more
wanted_from : (p : Plain) (pc : ℕ) (ms : List Marked) (is : List Instr) → IsFrom p.code pc is → HasAt p pc ms → length is ≡ length ms → AreWanted p.consts ms is
wanted_from p pc [] [] h has n = tt
wanted_from p pc [] (i ∷ is) h has n = absurd (omega (arith, n))
wanted_from p pc (m ∷ ms) [] h has n = absurd (omega (arith, n))
wanted_from p pc (m ∷ ms) (i ∷ is) h has n =
    let same : has.0 ≡ i = ap (λ o. unwrap_or o has.0) (sym has.1 ∙ first_of p.code is pc i h) in
    (subst (λ i. IsWanted p.consts m.wanted i) same has.2, wanted_from p (pc + 1) ms is (from_next p.code is pc i h) has.3 (omega (arith, n)))

pub wanted : (p : Plain) (ms : List Marked) → HasAt p 0 ms → length p.code ≡ length ms → AreWanted p.consts ms p.code
wanted p ms has n = wanted_from p 0 ms p.code (from_start p.code) has n

-- and so are shapes
before_from : (at : List Shape) (pc : ℕ) (ms : List Marked) (ss : List Shape) → IsFrom at pc ss → Shows at pc ms → length ss ≡ length ms → ss ≡ shapes_before ms
before_from at pc [] [] h shows n = refl
before_from at pc [] (s ∷ ss) h shows n = absurd (omega (arith, n))
before_from at pc (m ∷ ms) [] h shows n = absurd (omega (arith, n))
before_from at pc (m ∷ ms) (s ∷ ss) h shows n =
    let same : s ≡ m.before = ap (λ o. unwrap_or o s) (sym (first_of at ss pc s h) ∙ shows.0) in
    let later = before_from at (pc + 1) ms ss (from_next at ss pc s h) shows.1 (omega (arith, n)) in
    ap (λ s. s ∷ ss) same ∙ ap (λ ss. m.before ∷ ss) later

pub before : (at : List Shape) (ms : List Marked) → Shows at 0 ms → length at ≡ length ms → at ≡ shapes_before ms
before at ms shows n = before_from at 0 ms at (from_start at) shows n

-- there are as many instructions as are wanted
pub wanted_length : (consts : List Val) (ms : List Marked) (is : List Instr) → AreWanted consts ms is → length is ≡ length ms
wanted_length consts [] [] w = refl
wanted_length consts [] (i ∷ is) w = absurd w
wanted_length consts (m ∷ ms) [] w = absurd w
wanted_length consts (m ∷ ms) (i ∷ is) w = ap suc (wanted_length consts ms is w.1)

-- which keeps to the shapes, if the code does
pub keeps_there : (p : Plain) (shapes : Shapes) (pc : ℕ) (ms : List Marked) (is : List Instr) (n : ℕ) (i : Instr) (s : Shape) → AreWanted p.consts ms is → AllKeep p shapes pc ms
    → slice_get is n ≡ Some i → slice_get (shapes_before ms) n ≡ Some s → Keeps p shapes i (pc + n) s
keeps_there p shapes pc [] is n i s w h ei es = absurd (let q : None ≡ Some s = es in cc)
keeps_there p shapes pc (m ∷ ms) [] n i s w h ei es = absurd w
keeps_there p shapes pc (m ∷ ms) (j ∷ is) zero i s w h ei es =
    let is_i : j ≡ i = ap (λ o. unwrap_or o j) ei in
    let is_s : m.before ≡ s = ap (λ o. unwrap_or o m.before) es in
    let e : pc ≡ pc + 0 = omega arith in
    subst (λ n. Keeps p shapes i n s) e (subst (λ s. Keeps p shapes i pc s) is_s (subst (λ i. Keeps p shapes i pc m.before) is_i (h.0 j w.0)))
keeps_there p shapes pc (m ∷ ms) (j ∷ is) (suc n) i s w h ei es =
    let e : pc + 1 + n ≡ pc + suc n = omega arith in
    subst (λ n. Keeps p shapes i n s) e (keeps_there p shapes (pc + 1) ms is n i s w.1 h.1 ei es)
