-- What is left to do of a walk into a type: one task more, and a type that is begun.
use Rattle.std.proofs.Common.{◌≡◌, ℕ, zero, suc, ◌+◌, ◌*◌, ◌<◌, List, [], ◌∷◌, ◌++◌, append_assoc, length, drop, map, get_or, refl, sym, ap, ◌∙◌, arith}
use Rattle.std.proofs.lemmas.List.{append-nil, reverse-append}
use Rattle.std.proofs.Math.Seq.{drop-append_seam, take-append_seam}
use Rattle.sp_types.specs.Types.{Ty, tys, made as made_of}
use Rattle.sp_types.specs.inside.Codes.{tys_size}
use Rattle.sp_types.specs.declared.words.Maker.{Maker}
use Rattle.sp_emit.specs.declared.walk.Task.{Task}
use Rattle.sp_emit.specs.Plans.{Plan, begin, end, plan, plans, begins, answers_after, run, work}

pub one_more : (ts : List Task) (t : Task) → plans (ts ++ t ∷ []) ≡ plan t ∷ plans ts
one_more ts t = ap (map plan) (reverse-append ts (t ∷ []))

-- behind a push
pub pushed : {new : List Task} (old : List Task) (t : Task) → new ≡ old ++ t ∷ [] → plans new ≡ plan t ∷ plans old
pushed old t e = ap plans e ∙ one_more old t

-- the item at a place, and those behind it
pub from_item : {A : Type 0} (xs : List A) (i : ℕ) (d : A) → i < length xs → get_or xs i d ∷ drop (suc i) xs ≡ drop i xs
from_item [] i d h = absurd (omega arith)
from_item (x ∷ xs) zero d h = refl
from_item (x ∷ xs) (suc i) d h = from_item xs i d (omega arith)

work_begins : (ts : List Ty) (ps : List Plan) → work (begins ts ++ ps) ≡ 2 * tys_size (tys ts) + work ps
work_begins [] ps = omega arith
work_begins (t ∷ ts) ps = omega (arith, work_begins ts ps)

-- a type that is made of types, in the words of the calls that begin it: its parts first, and then what is made of them
module _ {new mid old : List Plan} {m : Maker} {n : ℕ} {t : Ty} (ts : List Ty) (e : new ≡ begins ts ++ mid) (f : mid ≡ end m n ∷ old) (g : made_of m (tys ts) ≡ t) where
  joined : new ≡ begins ts ++ end m n ∷ old
  joined = e ∙ ap (λ ps. begins ts ++ ps) f

  pub lessened : work new < work (begin t ∷ old)
  lessened =
      let before = ap work joined in
      let behind = ap (λ u. work (begin u ∷ old)) g in
      omega (arith, before, behind, work_begins ts (end m n ∷ old))

  module _ {A : Type 0} (answer : Ty → A) (made : Maker → List A → A) where
    run_begins : (us : List Ty) (ps : List Plan) (found : List A) → run answer made (begins us ++ ps) found ≡ run answer made ps (found ++ map answer us)
    run_begins [] ps found = ap (run answer made ps) (sym (append-nil found))
    run_begins (u ∷ us) ps found = run_begins us ps (found ++ answer u ∷ []) ∙ ap (run answer made ps) (append_assoc found (answer u ∷ []) (map answer us))

    put_back : (found more : List A) → answers_after answer made (end m (length found)) (found ++ more) ≡ found ++ made m more ∷ []
    put_back found more = rw (take-append_seam, drop-append_seam) refl

    pub led : (found : List A) → n ≡ length found → made m (map answer ts) ≡ answer (made_of m (tys ts)) → run answer made new found ≡ run answer made (begin t ∷ old) found
    led found h whole =
        ap (λ ps. run answer made ps found) joined
        ∙ ap (λ k. run answer made (begins ts ++ end m k ∷ old) found) h
        ∙ run_begins ts (end m (length found) ∷ old) found
        ∙ ap (run answer made old) (put_back found (map answer ts))
        ∙ ap (λ a. run answer made old (found ++ a ∷ [])) whole
        ∙ ap (λ u. run answer made (begin u ∷ old) found) g
