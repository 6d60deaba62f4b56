-- Code that is appended, one part after another.
use Rattle.std.proofs.Common.{◌≡◌, ℕ, ◌+◌, List, [], ◌∷◌, ◌++◌, append_assoc, length, refl, sym, ap, subst, ◌∙◌, length-append}
use Rattle.sp_methods.specs.Kinds.{Kind}
use Rattle.sp_code.specs.declared.instr.Instr.{Instr}
use Rattle.sp_code.specs.Shapes.{Shape}
use Rattle.sp_code_programs.specs.exprs.Marked.{Marked, mark}
use Rattle.sp_emit.specs.Emitted.{Emitted, Adds, TurnsTo, Redirects, redirected}
use Rattle.sp_emit.proofs.Growing.{grows_not, grows_then}

append_nothing : (ms : List Marked) → ms ++ [] ≡ ms
append_nothing [] = refl
append_nothing (m ∷ ms) = ap (λ (l : List Marked). m ∷ l) (append_nothing ms)

pub adds_nothing : (a : Emitted) → Adds a a [] a.now
adds_nothing a = record { marks = sym (append_nothing a.marks); now = refl; kinds = grows_not a.kinds }

-- the same code and shape in other words
pub adds_as : {a b : Emitted} {ms : List Marked} {s : Shape} (ns : List Marked) → Adds a b ms s → ms ≡ ns → Adds a b ns s
adds_as {a} {b} {ms} {s} ns h is = subst (λ (l : List Marked). Adds a b l s) is h

pub adds_long : {a b : Emitted} {ms : List Marked} {s : Shape} → Adds a b ms s → length b.marks ≡ length a.marks + length ms
adds_long {a} {b} {ms} {s} h = ap length h.marks ∙ length-append a.marks ms

-- code by the shape and the address at which it begins, behind other code
pub adds_then : {a b c : Emitted} {ms : List Marked} {s : Shape} (f : Shape → ℕ → List Marked) (g : Shape → Shape) → Adds a b ms s → Adds b c (f b.now (length b.marks)) (g b.now) → Adds a c (ms ++ f s (length a.marks + length ms)) (g s)
adds_then {a} {b} {c} {ms} {s} f g h k =
    record {
      marks =
          k.marks
          ∙ ap (λ (l : List Marked). l ++ f b.now (length b.marks)) h.marks
          ∙ append_assoc a.marks ms (f b.now (length b.marks))
          ∙ ap (λ (t : Shape). a.marks ++ (ms ++ f t (length b.marks))) h.now
          ∙ ap (λ (n : ℕ). a.marks ++ (ms ++ f s n)) (adds_long h);
      now = k.now ∙ ap g h.now;
      kinds = grows_then _ _ _ h.kinds k.kinds;
    }

-- the same where it is told how long the other code is
pub adds_behind : {a b c : Emitted} {ms : List Marked} {s : Shape} (f : Shape → ℕ → List Marked) (g : Shape → Shape) (n : ℕ) → length ms ≡ n → Adds a b ms s → Adds b c (f b.now (length b.marks)) (g b.now) → Adds a c (ms ++ f s (length a.marks + n)) (g s)
adds_behind {a} {b} {c} {ms} {s} f g n long h k = subst (λ (m : ℕ). Adds a c (ms ++ f s (length a.marks + m)) (g s)) long (adds_then f g h k)

pub adds_turn : {a b c : Emitted} {ms : List Marked} {s : Shape} (g : Shape → Shape) → Adds a b ms s → TurnsTo b c (g b.now) → Adds a c ms (g s)
adds_turn g h k = record { marks = k.marks ∙ h.marks; now = k.now ∙ ap g h.now; kinds = grows_then _ _ _ h.kinds k.kinds }

pub turns_then : {a b c : Emitted} {s : Shape} (g : Shape → Shape) → TurnsTo a b s → TurnsTo b c (g b.now) → TurnsTo a c (g s)
turns_then g h k = record { marks = k.marks ∙ h.marks; now = k.now ∙ ap g h.now; kinds = grows_then _ _ _ h.kinds k.kinds }

-- another instruction in place of one between others
redirected_between : (xs : List Marked) (m : Marked) (ys : List Marked) (i : Instr) → redirected (xs ++ m ∷ ys) (length xs) i ≡ xs ++ mark m.before i ∷ ys
redirected_between [] m ys i = refl
redirected_between (x ∷ xs) m ys i = ap (λ (l : List Marked). x ∷ l) (redirected_between xs m ys i)

pub adds_redirected : {a b c : Emitted} {s : Shape} (xs : List Marked) (m : Marked) (ys : List Marked) (n : ℕ) (i : Instr) → Adds a b (xs ++ m ∷ ys) s → n ≡ length a.marks + length xs → Redirects b c n i → Adds a c (xs ++ mark m.before i ∷ ys) s
adds_redirected {a} {b} {c} {s} xs m ys n i h at r =
    let front = a.marks ++ xs in
    let place : n ≡ length front = at ∙ sym (length-append a.marks xs) in
    let whole : b.marks ≡ front ++ m ∷ ys = h.marks ∙ sym (append_assoc a.marks xs (m ∷ ys)) in
    record {
      marks =
          r.marks
          ∙ ap (λ (l : List Marked). redirected l n i) whole
          ∙ ap (λ (k : ℕ). redirected (front ++ m ∷ ys) k i) place
          ∙ redirected_between front m ys i
          ∙ append_assoc a.marks xs (mark m.before i ∷ ys);
      now = r.now ∙ h.now;
      kinds = subst (λ (ks : List Kind). (more : List Kind) × (ks ≡ a.kinds ++ more)) (sym r.kinds) h.kinds;
    }
