-- What has been read so far, and what it says at the end.
use Rattle.std.proofs.Common.{◌≡◌, ℕ, zero, suc, ◌+◌, ◌<◌, ◌^◌, List, [], ◌∷◌, ◌++◌, length, take, drop, Bool, true, false, refl, sym, ◌∙◌, ap, subst, inl, inr, arith, get_or, append_assoc, reverse}
use Rattle.std.specs.Int.{bit_at}
use Rattle.std.proofs.lemmas.Nat.Bits.{bit_at-pow_other}
use Rattle.std.proofs.lemmas.Bool.{cases_eq}
use Rattle.std.proofs.lemmas.List.{take_more}
use Rattle.sp_parser.specs.declared.symbol.Symbol.{Symbol}
use Rattle.sp_parser.specs.declared.symbol.Symbol.TheVariants.{Nonterminal}
use Rattle.sp_parser.specs.declared.symbol.ActionAt.{ActionAt}
use Rattle.sp_parser.specs.declared.symbol.Step.{Step}
use Rattle.sp_parser.specs.declared.symbol.Step.TheVariants.{Whole, Half, Refused, Emptied}
use Rattle.sp_parser.specs.Grammar.{Table, Derivation, done, Advances, Derives, IsViable, IsLongestViable, AreKinds, SECOND, END}
use Rattle.sp_parser.specs.Certificate.{Certificate, IsCertified, Ready, Has, follow_of, IsStart, Takes}
use Rattle.sp_parser.specs.Sinks.{Became, Passes}
use Rattle.sp_parser.proofs.Passing.{none_passed, passes_on}
use Rattle.sp_parser.specs.declared.outcome.Outcome.TheVariants as outcome
use Rattle.sp_parser.specs.Outcome.{IsParsedWhole}
use Rattle.sp_parser.proofs.Moves.{stay, then, done_inv, one_run}
use Rattle.sp_parser.proofs.Ends.{completes}
use Rattle.sp_parser.proofs.Steps.{Told}

-- the kinds w are read, their actions were passed, and the symbols on the stack read what follows
pub record Going (g : Table) (f : Certificate) (ss : List Symbol) (w : List ℕ) (i : ℕ) (ts : List Symbol) {S : Type 0} (became : Became S) (before after : S) : Type 0 where
  pub ready : Ready f ts
  pub actions : List ActionAt
  pub passed : Passes became before after actions
  pub moves : (v : List ℕ) → Advances g 0 ss (w ++ v) i ts v actions

pub going_start : {S : Type 0} (g : Table) (f : Certificate) (ss : List Symbol) (became : Became S) (sink : S) → Ready f ss → Going g f ss [] 0 ss became sink sink
going_start g f ss became sink r = record { ready = r; actions = []; passed = none_passed became sink; moves = λ v. stay g 0 ss v }

pub going_more : {S : Type 0} (g : Table) (f : Certificate) (ss : List Symbol) (w : List ℕ) (i k : ℕ) (ts us : List Symbol) (became : Became S) (before between after : S) → Going g f ss w i ts became before between → Takes g f true i ts k us became between after → Going g f ss (w ++ k ∷ []) (suc i) us became before after
going_more g f ss w i k ts us became before between after x t = record {
  ready = t.0;
  actions = x.actions ++ t.1.0;
  passed = passes_on became before between after x.actions t.1.0 x.passed t.1.1;
  moves = λ v. subst (λ u. Advances g 0 ss u (suc i) us v (x.actions ++ t.1.0)) (sym (append_assoc w (k ∷ []) v))
      (then g 0 ss (w ++ k ∷ v) i ts (k ∷ v) x.actions (suc i) us v t.1.0 (x.moves (k ∷ v)) (t.1.2 v));
}

pub going_begins : {S : Type 0} (g : Table) (f : Certificate) → IsCertified g f → (n : ℕ) (w : List ℕ) (i : ℕ) (ts : List Symbol) (became : Became S) (before after : S) → Going g f (Nonterminal n ∷ []) w i ts became before after → IsViable g n w
going_begins g f s n w i ts became before after x = let c = completes g f s.productive ts x.ready.listed i in (c.0, x.actions ++ c.1, c.2, (x.moves c.0).forth c.1 c.3)

pub going_refused : {S : Type 0} (g : Table) (f : Certificate) (n : ℕ) (w : List ℕ) (i k : ℕ) (ts us : List Symbol) (became : Became S) (before between after : S) → Going g f (Nonterminal n ∷ []) w i ts became before between → Takes g f false i ts k us became between after → IsViable g n (w ++ k ∷ []) → ⊥
going_refused g f n w i k ts us became before between after x t b =
    let r : Derivation g 0 (Nonterminal n ∷ []) (w ++ k ∷ b.0) b.1 = subst (λ u. Derivation g 0 (Nonterminal n ∷ []) u b.1) (append_assoc w (k ∷ []) b.0) b.3 in
    let y = (x.moves (k ∷ b.0)).back b.1 r in t.1 b.0 y.0 y.2

pub going_no_text : {S : Type 0} (g : Table) (f : Certificate) (n : ℕ) (w : List ℕ) (i k : ℕ) (v : List ℕ) (ts us : List Symbol) (became : Became S) (before between after : S) → Going g f (Nonterminal n ∷ []) w i ts became before between → Takes g f false i ts k us became between after → (τ : List ActionAt) → Derives g n (w ++ k ∷ v) τ → ⊥
going_no_text g f n w i k v ts us became before between after x t τ r = let y = (x.moves (k ∷ v)).back τ r in t.1 v y.0 y.2

append-nil : {A : Type 0} (xs : List A) → xs ++ [] ≡ xs
append-nil [] = refl
append-nil (x ∷ xs) = ap (λ r. x ∷ r) (append-nil xs)

-- the actions of the whole text were passed
pub going_text : {S : Type 0} (g : Table) (f : Certificate) (n : ℕ) (w : List ℕ) (i : ℕ) (ts us : List Symbol) (became : Became S) (before between after : S) → Going g f (Nonterminal n ∷ []) w i ts became before between → Told g f Emptied i ts END us became between after → (τ : List ActionAt) × Passes became before after τ × Derives g n w τ
going_text g f n w i ts us became before between after x t =
    let r : Derivation g i ts [] (t.0 ++ []) = (t.2.1 [] refl).forth [] done in (
      x.actions ++ t.0,
      passes_on became before between after x.actions t.0 x.passed t.1,
      subst (λ e. Derivation g 0 (Nonterminal n ∷ []) w e) (ap (λ e. x.actions ++ e) (append-nil t.0))
          (subst (λ u. Derivation g 0 (Nonterminal n ∷ []) u (x.actions ++ (t.0 ++ []))) (append-nil w) ((x.moves []).forth (t.0 ++ []) r)),
    )

-- some actions were passed
pub going_passed : {S : Type 0} (g : Table) (f : Certificate) (ss : List Symbol) (w : List ℕ) (i : ℕ) (ts : List Symbol) (became : Became S) (before between after : S) (ε : List ActionAt) → Going g f ss w i ts became before between → Passes became between after ε → (τ : List ActionAt) × Passes became before after τ
going_passed g f ss w i ts became before between after ε x p = (x.actions ++ ε, passes_on became before between after x.actions ε x.passed p)

only_end : (k : ℕ) → Has (2 ^ END) k → k ≡ END
only_end k h = elim (cases_eq k END) [ inl e ↦ e | inr n ↦ absurd (let e : bit_at (2 ^ END) k ≡ 0 = bit_at-pow_other END k n in let q : 0 ≡ 1 = sym e ∙ h in cc) ]

pub ready_start : (f : Certificate) (n : ℕ) → n < length f.height → IsStart f n → Ready f (Nonterminal n ∷ [])
ready_start f n h s = record { fits = ((λ k l. subst (λ j. Has (follow_of f n) j) (sym (only_end k l)) s), tt); listed = (h, tt) }

-- the word of a step, as a step that is known
pub told_at : {S : Type 0} (g : Table) (f : Certificate) (s t : Step) (i : ℕ) (ss : List Symbol) (k : ℕ) (ts : List Symbol) (became : Became S) (before after : S) → s ≡ t → Told g f s i ss k ts became before after → Told g f t i ss k ts became before after
told_at g f s t i ss k ts became before after e x = subst (λ r. Told g f r i ss k ts became before after) e x

pub takes_halves : {S : Type 0} (g : Table) (f : Certificate) (i : ℕ) (ss : List Symbol) (k : ℕ) (ts us : List Symbol) (became : Became S) (before between after : S) → Told g f Half i ss k ts became before between → Told g f Whole i ts SECOND us became between after → Ready f us → Takes g f true i ss k us became before after
takes_halves g f i ss k ts us became before between after x y r =
    (r, (x.0 ++ y.0, passes_on became before between after x.0 y.0 x.1 y.1, λ w. then g i ss (k ∷ w) i ts (SECOND ∷ w) x.0 (suc i) us w y.0 (x.2.1 w) (y.2.0 w)))

empty_no : (g : Table) (i k : ℕ) (w : List ℕ) (τ : List ActionAt) → Derivation g i [] (k ∷ w) τ → ⊥
empty_no g i k w τ r = let e : k ∷ w ≡ [] = (done_inv r).0 in cc

pub takes_emptied : {S : Type 0} (g : Table) (f : Certificate) (i : ℕ) (ss : List Symbol) (k : ℕ) (ts : List Symbol) (became : Became S) (before after : S) → Told g f Emptied i ss k ts became before after → Takes g f false i ss k ts became before after
takes_emptied g f i ss k ts became before after x = ((x.0, x.1), λ w τ r. let y = (x.2.1 (k ∷ w) refl).back τ r in empty_no g i k w y.0 y.2)

half_no : {S : Type 0} (g : Table) (f : Certificate) (s : Step) (i : ℕ) (ss : List Symbol) (k : ℕ) (ts us : List Symbol) (became : Became S) (before between after : S) → (s ≡ Whole → ⊥) → Told g f Half i ss k ts became before between → Told g f s i ts SECOND us became between after → (w : List ℕ) (τ : List ActionAt) → Derivation g i ss (k ∷ w) τ → ⊥
half_no g f Whole i ss k ts us became before between after n x y = absurd (n refl)
half_no g f Half i ss k ts us became before between after n x y = absurd (y.2.0 refl)
half_no g f Refused i ss k ts us became before between after n x y = λ w τ r. let z = (x.2.1 w).back τ r in y.2 (SECOND ∷ w) refl z.0 z.2
half_no g f Emptied i ss k ts us became before between after n x y = λ w τ r. let z = (x.2.1 w).back τ r in let q = (y.2.1 (SECOND ∷ w) refl).back z.0 z.2 in empty_no g i SECOND w q.0 q.2

pub takes_half_no : {S : Type 0} (g : Table) (f : Certificate) (s : Step) (i : ℕ) (ss : List Symbol) (k : ℕ) (ts us vs : List Symbol) (became : Became S) (before between after : S) → (s ≡ Whole → ⊥) → Told g f Half i ss k ts became before between → Told g f s i ts SECOND us became between after → Takes g f false i ss k vs became before after
takes_half_no g f s i ss k ts us vs became before between after n x y = ((x.0 ++ y.0, passes_on became before between after x.0 y.0 x.1 y.1), half_no g f s i ss k ts us became before between after n x y)

kinds_at : (w : List ℕ) (i : ℕ) → AreKinds w → i < length w → get_or w i 0 < SECOND
kinds_at [] i a h = absurd (omega arith)
kinds_at (k ∷ w) zero a h = a.0
kinds_at (k ∷ w) (suc i) a h = kinds_at w i a.1 (omega arith)

pub kind_at : (w : List ℕ) (i k : ℕ) → AreKinds w → i < length w → k ≡ get_or w i 0 → k < SECOND
kind_at w i k a h e = subst (λ j. j < SECOND) (sym e) (kinds_at w i a h)

pub going_init : {S : Type 0} (g : Table) (f : Certificate) (n : ℕ) (items before : List Symbol) (became : Became S) (sink : S) → n < length f.height → IsStart f n → items ≡ before ++ Nonterminal n ∷ [] → before ≡ [] → Going g f (Nonterminal n ∷ []) [] 0 (reverse items) became sink sink
going_init g f n items before became sink h s e b =
    subst (λ ts. Going g f (Nonterminal n ∷ []) [] 0 ts became sink sink) (sym (ap reverse (e ∙ ap (λ r. r ++ Nonterminal n ∷ []) b)))
    (going_start g f (Nonterminal n ∷ []) became sink (ready_start f n h s))

takes_as : {S : Type 0} (g : Table) (f : Certificate) (b d : Bool) (i : ℕ) (ss : List Symbol) (k j : ℕ) (ts : List Symbol) (became : Became S) (before after : S) → b ≡ d → k ≡ j → Takes g f b i ss k ts became before after → Takes g f d i ss j ts became before after
takes_as g f b d i ss k j ts became before after e q t = subst (λ m. Takes g f d i ss m ts became before after) q (subst (λ r. Takes g f r i ss k ts became before after) e t)

pub going_next : {S : Type 0} (g : Table) (f : Certificate) (ss : List Symbol) (ks : List ℕ) (i k : ℕ) (ts us : List Symbol) (became : Became S) (before between after : S) (b : Bool) → b ≡ true → i < length ks → k ≡ get_or ks i 0 → Going g f ss (take i ks) i ts became before between → Takes g f b i ts k us became between after → Going g f ss (take (i + 1) ks) (i + 1) us became before after
going_next g f ss ks i k ts us became before between after b e h q x t =
    subst (λ j. Going g f ss (take (i + 1) ks) j us became before after) (omega arith)
    (subst (λ w. Going g f ss w (suc i) us became before after) (sym (take_more ks i 0 h))
    (going_more g f ss (take i ks) i (get_or ks i 0) ts us became before between after x (takes_as g f b true i ts k (get_or ks i 0) us became between after e q t)))

take_whole : (ks : List ℕ) → take (length ks) ks ≡ ks
take_whole [] = refl
take_whole (k ∷ ks) = ap (λ r. k ∷ r) (take_whole ks)

take_on : (ks : List ℕ) (i : ℕ) → i < length ks → ks ≡ take i ks ++ get_or ks i 0 ∷ drop (suc i) ks
take_on [] i h = absurd (omega arith)
take_on (k ∷ ks) zero h = refl
take_on (k ∷ ks) (suc i) h = ap (λ r. k ∷ r) (take_on ks i (omega arith))

going_stopped : {S : Type 0} (g : Table) (f : Certificate) (n : ℕ) (ks : List ℕ) (i k : ℕ) (ts us : List Symbol) (became : Became S) (before between after : S) (b : Bool) → b ≡ false → i < length ks → k ≡ get_or ks i 0 → Going g f (Nonterminal n ∷ []) (take i ks) i ts became before between → Takes g f b i ts k us became between after → IsViable g n (take (i + 1) ks) → ⊥
going_stopped g f n ks i k ts us became before between after b e h q x t d = going_refused g f n (take i ks) i (get_or ks i 0) ts us became before between after x (takes_as g f b false i ts k (get_or ks i 0) us became between after e q t) (subst (λ w. IsViable g n w) (take_more ks i 0 h) d)

-- the kinds before one that is not taken are the longest viable prefix
longest_stopped : {S : Type 0} (g : Table) (f : Certificate) → IsCertified g f → (n : ℕ) (ks : List ℕ) (i k : ℕ) (ts us : List Symbol) (became : Became S) (before between after : S) (b : Bool) → b ≡ false → i < length ks → k ≡ get_or ks i 0 → Going g f (Nonterminal n ∷ []) (take i ks) i ts became before between → Takes g f b i ts k us became between after → IsLongestViable g n ks i
longest_stopped g f s n ks i k ts us became before between after b e h q x t = record {
  within = omega (arith, h);
  begins = going_begins g f s n (take i ks) i ts became before between x;
  stops = λ _. going_stopped g f n ks i k ts us became before between after b e h q x t;
}

going_none : {S : Type 0} (g : Table) (f : Certificate) (n : ℕ) (ks : List ℕ) (i k : ℕ) (ts us : List Symbol) (became : Became S) (before between after : S) (b : Bool) → b ≡ false → i < length ks → k ≡ get_or ks i 0 → Going g f (Nonterminal n ∷ []) (take i ks) i ts became before between → Takes g f b i ts k us became between after → (τ : List ActionAt) → Derives g n ks τ → ⊥
going_none g f n ks i k ts us became before between after b e h q x t τ r = going_no_text g f n (take i ks) i (get_or ks i 0) (drop (suc i) ks) ts us became before between after x (takes_as g f b false i ts k (get_or ks i 0) us became between after e q t) τ (subst (λ w. Derives g n w τ) (take_on ks i h) r)

-- a token is refused
pub stopped : {S : Type 0} (g : Table) (f : Certificate) → IsCertified g f → (n : ℕ) (ks : List ℕ) (i k : ℕ) (ts us : List Symbol) (became : Became S) (before between after : S) (b : Bool) → b ≡ false → i < length ks → k ≡ get_or ks i 0 → Going g f (Nonterminal n ∷ []) (take i ks) i ts became before between → Takes g f b i ts k us became between after → IsParsedWhole g n ks (Passes became before after) (outcome.Refused i)
stopped g f s n ks i k ts us became before between after b e h q x t = (
  longest_stopped g f s n ks i k ts us became before between after b e h q x t,
  going_none g f n ks i k ts us became before between after b e h q x t,
  (let p = (takes_as g f b false i ts k (get_or ks i 0) us became between after e q t).0 in going_passed g f (Nonterminal n ∷ []) (take i ks) i ts became before between after p.0 x p.1),
)

going_whole : {S : Type 0} (g : Table) (f : Certificate) (ss : List Symbol) (ks : List ℕ) (i j : ℕ) (ts : List Symbol) (became : Became S) (before after : S) → i ≡ j → j ≡ length ks → Going g f ss (take i ks) i ts became before after → Going g f ss ks j ts became before after
going_whole g f ss ks i j ts became before after e q x = subst (λ w. Going g f ss w j ts became before after) (ap (λ m. take m ks) q ∙ take_whole ks) (subst (λ m. Going g f ss (take m ks) m ts became before after) e x)

-- where all kinds are taken they are the longest viable prefix
longest_whole : {S : Type 0} (g : Table) (f : Certificate) → IsCertified g f → (n : ℕ) (ks : List ℕ) (j : ℕ) (ts : List Symbol) (became : Became S) (before after : S) → j ≡ length ks → Going g f (Nonterminal n ∷ []) ks j ts became before after → IsLongestViable g n ks j
longest_whole g f s n ks j ts became before after e x = record {
  within = omega (arith, e);
  begins = subst (λ w. IsViable g n w) (sym (ap (λ m. take m ks) e ∙ take_whole ks)) (going_begins g f s n ks j ts became before after x);
  stops = λ h. absurd (omega (arith, h, e));
}

not_end : {S : Type 0} (g : Table) (f : Certificate) (s : Step) (i : ℕ) (ts us : List Symbol) (became : Became S) (before after : S) → (s ≡ Emptied → ⊥) → Told g f s i ts END us became before after → (τ : List ActionAt) → Derivation g i ts [] τ → ⊥
not_end g f Whole i ts us became before after d t τ r = t.2.1 refl τ r
not_end g f Half i ts us became before after d t τ r = t.2.2 refl τ r
not_end g f Refused i ts us became before after d t τ r = t.2 [] refl τ r
not_end g f Emptied i ts us became before after d t τ r = absurd (d refl)

-- no text ends there
pub unfinished : {S : Type 0} (g : Table) (f : Certificate) → IsCertified g f → (s : Step) (n : ℕ) (ks : List ℕ) (i j : ℕ) (ts us : List Symbol) (became : Became S) (before between after : S) → i ≡ j → j ≡ length ks → (s ≡ Emptied → ⊥) → Going g f (Nonterminal n ∷ []) (take i ks) i ts became before between → Told g f s j ts END us became between after → IsParsedWhole g n ks (Passes became before after) (outcome.Refused j)
unfinished g f certified s n ks i j ts us became before between after same all d going t =
    let x = going_whole g f (Nonterminal n ∷ []) ks i j ts became before between same all going in (
      longest_whole g f certified n ks j ts became before between all x,
      (λ τ r.
          let y = (x.moves []).back τ (subst (λ u. Derivation g 0 (Nonterminal n ∷ []) u τ) (sym (append-nil ks)) r) in not_end g f s j ts us became between after d t y.0 y.2),
      going_passed g f (Nonterminal n ∷ []) ks j ts became before between after t.0 x t.1,
    )

pub only_one : (g : Table) (f : Certificate) → IsCertified g f → (n : ℕ) (w : List ℕ) (actions τ : List ActionAt) → n < length f.height → IsStart f n → Derives g n w actions → Derives g n w τ → τ ≡ actions
only_one g f s n w actions τ h i r q = one_run g f s (ready_start f n h i).fits q actions r

-- the text ends there
pub finished : {S : Type 0} (g : Table) (f : Certificate) → IsCertified g f → (s : Step) (n : ℕ) (ks : List ℕ) (i j : ℕ) (ts us : List Symbol) (became : Became S) (before between after : S) → n < length f.height → IsStart f n → i ≡ j → j ≡ length ks → s ≡ Emptied → Going g f (Nonterminal n ∷ []) (take i ks) i ts became before between → Told g f s j ts END us became between after → IsParsedWhole g n ks (Passes became before after) (outcome.Phrase j)
finished g f certified s n ks i j ts us became before between after h start same all emptied going t =
    let x = going_whole g f (Nonterminal n ∷ []) ks i j ts became before between same all going in
    let y = going_text g f n ks j ts us became before between after x (told_at g f s Emptied j ts END us became between after emptied t) in
    (all, (y.0, y.1, y.2, λ σ q. only_one g f certified n ks y.0 σ h start y.2 q))
