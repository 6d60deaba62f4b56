-- What is settled is one.
use Rattle.std.proofs.Common.{ℕ, ◌≡◌, zero, suc, refl, sym, ap, subst, ◌∙◌, arith, List, [], ◌∷◌, length, Option, Some, None}
use Rattle.sp_ast.specs.Trees.{Tree}
use Rattle.sp_types.specs.Types.{Ty}
use Rattle.sp_solver.specs.declared.attempt.Attempt.{Attempt}
use Rattle.sp_solver.specs.declared.attempt.Attempt.TheVariants.{Done, Waits}
use Rattle.sp_solver.specs.Rounds.{got, round, Within, IsFair, IsSettled}
use Rattle.sp_solver.specs.Told.{told}
use Rattle.sp_names.specs.Aliases.{tries as alias_tries, IsResolved}
use Rattle.sp_names.specs.AliasLaws.{is_fair as aliases_are_fair}
use Rattle.sp_dependencies.specs.Tries.{tries as value_tries}
use Rattle.sp_dependencies.specs.TryLaws.{is_fair as values_are_fair}
use Rattle.sp_type_values.specs.declared.answer.Answer.{Answer}
use Rattle.sp_type_values.specs.Valued.{valued, needs}
use Rattle.sp_type_values.specs.Answers.{gives}
use Rattle.sp_type_values.specs.Laws.{hangs}
use Rattle.sp_type_context.specs.Contexts.{Around}
use Rattle.sp_type_fields.specs.Values.{Values}
use Rattle.sp_type_members.specs.Tries.{tries as stored_tries, AreStored}
use Rattle.sp_type_answers.specs.Settled.{AreValued, first_contexts, worth, Answers}

got_done : {A : Type 0} (t : Attempt A) (a : A) → got t ≡ Some a → t ≡ Done a
got_done (Done b) a e = cc
got_done (Waits j) a e = cc

none_some : {A : Type 0} (o : Option A) (a : A) → o ≡ None → o ≡ Some a → ⊥
none_some o a n s = (let x : None ≡ Some a = sym n ∙ s in cc)

done_waits : {A : Type 0} (t : Attempt A) (a : A) (j : ℕ) → t ≡ Done a → t ≡ Waits j → ⊥
done_waits t a j d w = (let x : Done a ≡ Waits j = sym d ∙ w in cc)

done_is : {A : Type 0} (a b : A) → Done a ≡ Done b → a ≡ b
done_is a b e = cc

by_option : {A : Type 0} (P : Type 0) (o : Option A) → (o ≡ None → P) → ((a : A) → o ≡ Some a → P) → P
by_option P None n s = n refl
by_option P (Some a) n s = s a refl

option_none : {A : Type 0} (o : Option A) → ((a : A) → o ≡ Some a → ⊥) → o ≡ None
option_none None h = refl
option_none (Some a) h = absurd (h a refl)

-- every round stays within what is settled
round_within : {A : Type 0} (try : (ℕ → Option A) → ℕ → Attempt A) → IsFair try → (f : ℕ → Option A) → IsSettled try f → (k : ℕ) → Within (round try k) f
round_within try fair f s zero i a e = (let x : ⊥ = none_some None a refl e in absurd x)
round_within {A} try fair f s (suc k) i a e =
    let d : try f i ≡ Done a = fair.keeps (round try k) f i a (round_within try fair f s k) (got_done (try (round try k) i) a e) in
    by_option (f i ≡ Some a) (f i)
    (λ n. (let w = s.stuck i n in let x : ⊥ = done_waits (try f i) a w.0 d w.1 in absurd x))
    (λ b h. h ∙ ap Some (done_is b a (sym (s.solved i b h) ∙ d)))

settled_within : {A : Type 0} (try : (ℕ → Option A) → ℕ → Attempt A) → IsFair try → (f g : ℕ → Option A) → IsSettled try f → IsSettled try g → Within f g
settled_within try fair f g sf sg i a e = (let k = sf.found i a e in round_within try fair g sg k.0 i a k.1)

same_at : {A : Type 0} (f g : ℕ → Option A) → Within f g → Within g f → (i : ℕ) → f i ≡ g i
same_at f g there back i =
    by_option (f i ≡ g i) (f i)
    (λ n. n ∙ sym (option_none (g i) (λ b e. none_some (f i) b n (back i b e))))
    (λ a e. e ∙ sym (there i a e))

-- lists of one length that tell the same are one
told_is_list : {A : Type 0} (xs ys : List (Option A)) → length xs ≡ length ys → ((i : ℕ) → told xs i ≡ told ys i) → xs ≡ ys
told_is_list [] [] n h = refl
told_is_list [] (y ∷ ys) n h = (let x : ⊥ = omega (arith, n) in absurd x)
told_is_list (x ∷ xs) [] n h = (let y : ⊥ = omega (arith, n) in absurd y)
told_is_list (x ∷ xs) (y ∷ ys) n h =
    let rest : xs ≡ ys = told_is_list xs ys (omega (arith, n)) (λ i. h (suc i)) in
    let first : x ≡ y = h zero in
    cc

settled_list_is_one : {A : Type 0} (try : (ℕ → Option A) → ℕ → Attempt A) → IsFair try → (xs ys : List (Option A)) → length xs ≡ length ys → IsSettled try (told xs) → IsSettled try (told ys) → xs ≡ ys
settled_list_is_one try fair xs ys n sx sy =
    told_is_list xs ys n (same_at (told xs) (told ys)
    (settled_within try fair (told xs) (told ys) sx sy) (settled_within try fair (told ys) (told xs) sy sx))

types_are_one : (list : List Tree) (xs ys : List (Option Ty)) → IsResolved list xs → IsResolved list ys → xs ≡ ys
types_are_one list xs ys a b = settled_list_is_one (alias_tries list) (aliases_are_fair list) xs ys (a.0 ∙ sym b.0) a.1 b.1

values_are_one : (list : List Tree) (f : ℕ → Option Ty) (xs ys : List (Option Answer)) → AreValued list f xs → AreValued list f ys → xs ≡ ys
values_are_one list f xs ys a b = (
    let fair = values_are_fair (length (valued list f)) (needs list f) (gives list f) (hangs list f) in
    settled_list_is_one (value_tries (length (valued list f)) (needs list f) (gives list f)) fair xs ys (a.all ∙ sym b.all) a.settled b.settled)

stored_is_one : (list : List Tree) (contexts : List Around) (v : Values) (xs ys : List (Option Ty)) → IsFair (stored_tries list contexts v) → AreStored list contexts v xs → AreStored list contexts v ys → xs ≡ ys
stored_is_one list contexts v xs ys fair a b = settled_list_is_one (stored_tries list contexts v) fair xs ys (a.all ∙ sym b.all) a.settled b.settled

-- The answers of a list are one, each on the ones before it.
pub one_types : (list : List Tree) (a b : Answers list) → a.types ≡ b.types
one_types list a b = types_are_one list a.types b.types a.resolved b.resolved

pub one_values : (list : List Tree) (a b : Answers list) → a.values ≡ b.values
one_values list a b = (
    let moved : AreValued list (told b.types) a.values = subst (λ (types : List (Option Ty)). AreValued list (told types) a.values) (one_types list a b) a.valued in
    values_are_one list (told b.types) a.values b.values moved b.valued)

pub one_stored : ((list : List Tree) (contexts : List Around) (v : Values) → IsFair (stored_tries list contexts v)) → (list : List Tree) (a b : Answers list) → a.stored ≡ b.stored
one_stored fair list a b = (
    let on_types : AreStored list (first_contexts list b.types a.values) (worth list b.types a.values) a.stored =
    subst (λ (types : List (Option Ty)). AreStored list (first_contexts list types a.values) (worth list types a.values) a.stored) (one_types list a b) a.kept in
    let on_values : AreStored list (first_contexts list b.types b.values) (worth list b.types b.values) a.stored =
    subst (λ (values : List (Option Answer)). AreStored list (first_contexts list b.types values) (worth list b.types values) a.stored) (one_values list a b) on_types in
    let contexts = first_contexts list b.types b.values in
    let v = worth list b.types b.values in
    stored_is_one list contexts v a.stored b.stored (fair list contexts v) on_values b.kept)
