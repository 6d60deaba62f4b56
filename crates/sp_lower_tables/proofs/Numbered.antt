-- Numbers of kinds, as they come one behind another.
use Rattle.std.proofs.Common.{◌≡◌, ◌<◌, ◌+◌, ℕ, List, [], ◌∷◌, ◌++◌, append_assoc, append-nil, length, get_or, drop, refl, sym, ap, subst, ◌∙◌, IfOk, Result}
use Rattle.std.specs.List.{AllByRecursion}
use Rattle.std.proofs.Math.Seq.{drop-length}
use Rattle.std.proofs.lemmas.List.{drop_more}
use Rattle.std.proofs.lemmas.Result.{IfOk-weaker}
use Rattle.sp_base.specs.declared.bytes.NoMemory.{NoMemory}
use Rattle.sp_methods.specs.Kinds.{Kind}
use Rattle.sp_code.specs.Programs.{kind_at, kinds_at}
use Rattle.sp_emit.specs.Kinds.{Grows, IsNumberOf}
use Rattle.sp_emit.specs.Emitted.{Emitted, TurnsTo}
use Rattle.sp_emit.proofs.Growing.{grows_not, grows_long, kinds_before, below_longer, number_before}
use Rattle.sp_emit.proofs.Adding.{turns_then}
use Rattle.sp_lower_tables.specs.Numbers.{GivesNumber, AreNumbersOf, GivesNumbers, AddsNumbers}

-- the next of what is left of a row, and the end of it
pub next_item : {A : Type 0} (xs : List A) (i : ℕ) (x : A) → i < length xs → x ≡ get_or xs i x → drop i xs ≡ x ∷ drop (i + 1) xs
next_item {A} xs i x lt is = drop_more xs i x lt ∙ ap (λ (y : A). y ∷ drop (i + 1) xs) (sym is)

pub none_left : {A : Type 0} (xs : List A) (i : ℕ) → i ≡ length xs → drop i xs ≡ []
none_left xs i is = ap (λ (n : ℕ). drop n xs) is ∙ drop-length xs

-- the number of a kind, by the two clauses of a call
pub gives : (a b : Emitted) (k : Kind) (r : Result ℕ NoMemory) → TurnsTo a b a.now → IfOk r (IsNumberOf b.kinds k) → IfOk r (GivesNumber a b k)
gives a b k r t h = IfOk-weaker r (IsNumberOf b.kinds k) (GivesNumber a b k) (λ n is. record { same = t; number = is }) h

pub turns_not : (a : Emitted) → TurnsTo a a a.now
turns_not a = record { marks = refl; now = refl; kinds = grows_not a.kinds }

-- one after another
pub turns_both : (a b c : Emitted) → TurnsTo a b a.now → TurnsTo b c b.now → TurnsTo a c a.now
turns_both a b c h k = turns_then (λ s. s) h k

kinds_more : (ks : List Kind) (ns : List ℕ) (n : ℕ) → kinds_at ks (ns ++ n ∷ []) ≡ kinds_at ks ns ++ kind_at ks n ∷ []
kinds_more ks [] n = refl
kinds_more ks (m ∷ ns) n = ap (λ (l : List Kind). kind_at ks m ∷ l) (kinds_more ks ns n)

all_more : (P : ℕ → Type 0) (ns : List ℕ) (n : ℕ) → AllByRecursion P ns → P n → AllByRecursion P (ns ++ n ∷ [])
all_more P [] n h p = (p, tt)
all_more P (m ∷ ns) n h p = (h.0, all_more P ns n h.1 p)

-- numbers stay what they are where kinds grow
pub numbers_before : (ks js of : List Kind) (ns : List ℕ) → Grows ks js → AreNumbersOf ks of ns → AreNumbersOf js of ns
numbers_before ks js of ns g h = record { below = below_longer (length ks) (length js) ns (grows_long ks js g) h.below; are = kinds_before ks js ns g h.below ∙ h.are }

pub numbers_more : (ks of : List Kind) (ns : List ℕ) (k : Kind) (n : ℕ) → AreNumbersOf ks of ns → IsNumberOf ks k n → AreNumbersOf ks (of ++ k ∷ []) (ns ++ n ∷ [])
numbers_more ks of ns k n h is =
    record {
      below = all_more (λ m. m < length ks) ns n h.below is.within;
      are = kinds_more ks ns n ∙ ap (λ (l : List Kind). l ++ kind_at ks n ∷ []) h.are ∙ ap (λ (j : Kind). of ++ j ∷ []) is.is;
    }

-- one more number behind others
pub adds_one : (a b : Emitted) (ns ms : List ℕ) (k : Kind) (n : ℕ) → GivesNumber a b k n → ms ≡ ns ++ n ∷ [] → AddsNumbers a b ns ms (k ∷ [])
adds_one a b ns ms k n h is =
    record {
      same = h.same;
      numbers = λ of are. subst (λ (l : List ℕ). AreNumbersOf b.kinds (of ++ k ∷ []) l) (sym is) (numbers_more b.kinds of ns k n (numbers_before a.kinds b.kinds of ns h.same.kinds are) h.number);
    }

pub adds_none : (a : Emitted) (ns : List ℕ) → AddsNumbers a a ns ns []
adds_none a ns = record { same = turns_not a; numbers = λ of are. subst (λ (l : List Kind). AreNumbersOf a.kinds l ns) (sym (append-nil of)) are }

pub adds_both : (a b c : Emitted) (ns ms ls : List ℕ) (ks js : List Kind) → AddsNumbers a b ns ms ks → AddsNumbers b c ms ls js → AddsNumbers a c ns ls (ks ++ js)
adds_both a b c ns ms ls ks js h k =
    record {
      same = turns_both a b c h.same k.same;
      numbers = λ of are. subst (λ (l : List Kind). AreNumbersOf c.kinds l ls) (append_assoc of ks js) (k.numbers (of ++ ks) (h.numbers of are));
    }

-- numbers behind those that were given, or behind none
pub gives_more : (a b c : Emitted) (ns ms : List ℕ) (ks js : List Kind) → GivesNumbers a b ks ns → AddsNumbers b c ns ms js → GivesNumbers a c (ks ++ js) ms
gives_more a b c ns ms ks js h k = record { same = turns_both a b c h.same k.same; numbers = k.numbers ks h.numbers }

pub gives_all : (a b : Emitted) (ns ms : List ℕ) (ks : List Kind) → ns ≡ [] → AddsNumbers a b ns ms ks → GivesNumbers a b ks ms
gives_all a b ns ms ks none h =
    let empty : AreNumbersOf a.kinds [] ns = subst (λ (l : List ℕ). AreNumbersOf a.kinds [] l) (sym none) (record { below = tt; are = refl }) in
    record { same = h.same; numbers = h.numbers [] empty }

pub numbers_as : (a b : Emitted) (ks js : List Kind) (ns : List ℕ) → ks ≡ js → GivesNumbers a b ks ns → GivesNumbers a b js ns
numbers_as a b ks js ns is h = subst (λ (l : List Kind). GivesNumbers a b l ns) is h

-- two numbers
pub gives_two : (a b c : Emitted) (j k : Kind) (m n : ℕ) (ns : List ℕ) → GivesNumber a b j m → GivesNumber b c k n → ns ≡ m ∷ n ∷ [] → GivesNumbers a c (j ∷ k ∷ []) ns
gives_two a b c j k m n ns h i is =
    let first = number_before b.kinds c.kinds j m i.same.kinds h.number in
    subst (λ (l : List ℕ). GivesNumbers a c (j ∷ k ∷ []) l) (sym is)
    (record {
      same = turns_both a b c h.same i.same;
      numbers = record { below = (first.within, (i.number.within, tt)); are = ap (λ (l : Kind). l ∷ kind_at c.kinds n ∷ []) first.is ∙ ap (λ (l : Kind). j ∷ l ∷ []) i.number.is };
    })

-- Along a row: what was added, and the kinds of what is left of the row, are the kinds of the row.
module _ {A : Type 0} (f : List A → List Kind) where
  abbrev pub Leads : Emitted → Emitted → List ℕ → List ℕ → List A → List A → Type 0
  Leads first now ns ms all left = (x : Emitted) (ls : List ℕ) → AddsNumbers now x ms ls (f left) → AddsNumbers first x ns ls (f all)

  pub leads_on : (k : A → Kind) → ((x : A) (rest : List A) → f (x ∷ rest) ≡ k x ∷ f rest) → (first a b : Emitted) (ns ms ls : List ℕ) (xs : List A) (i : ℕ) (x : A) → drop i xs ≡ x ∷ drop (i + 1) xs
      → Leads first a ns ms xs (drop i xs) → AddsNumbers a b ms ls (k x ∷ []) → Leads first b ns ls xs (drop (i + 1) xs)
  leads_on k splits first a b ns ms ls xs i x next lead h y os left =
      let rest = drop (i + 1) xs in
      lead y os
      (subst (λ (l : List A). AddsNumbers a y ms os (f l)) (sym next)
      (subst (λ (js : List Kind). AddsNumbers a y ms os js) (sym (splits x rest)) (adds_both a b y ms ls os (k x ∷ []) (f rest) h left)))

  pub leads_to : (first a : Emitted) (ns ms : List ℕ) (xs left : List A) → f [] ≡ [] → left ≡ [] → Leads first a ns ms xs left → AddsNumbers first a ns ms (f xs)
  leads_to first a ns ms xs left empty none lead =
      lead a ms
      (subst (λ (l : List A). AddsNumbers a a ms ms (f l)) (sym none)
      (subst (λ (js : List Kind). AddsNumbers a a ms ms js) (sym empty) (adds_none a ms)))
