-- Two rules that are both the least that is broken have one refusal.
use Rattle.std.proofs.Common.{◌≡◌, ℕ, List, Bool, true, false, Some, if◌then◌else◌, sym, ap, ◌∙◌, refl, get_or, ◌∷◌, [], ◌==◌, nat_lt, arith, slice_get}
use Rattle.std.proofs.lemmas.Bool.{eqb-true, eqb-false, ltb-false}
use Rattle.sp_base.specs.Kinds.{module_kind_number}
use Rattle.sp_base.specs.declared.kinds.MKind.{MKind}
use Rattle.sp_base.specs.declared.kinds.MKind.TheVariants as module_kind
use Rattle.sp_command.specs.declared.refusal.Refusal.{Refusal}
use Rattle.sp_ast.specs.Trees.{Tree}
use Rattle.sp_rules.specs.declared.fault.Fault.{Fault}
use Rattle.sp_rules.specs.Rules.{diag_of, kind, rule_group, rule_number}
use Rattle.sp_rules.specs.Least.{IsLeast, precedes}
use Rattle.sp_type_answers.specs.Rules.{Breaks}
use Rattle.sp_load.specs.declared.sources.Source.{Source}
use Rattle.sp_load.specs.Loads.{refusal_in, refusal_of, IsLeastRefusal}

-- the kinds by their numbers; none has the number 0
abbrev all_kinds : List MKind
all_kinds = module_kind.NoParser ∷ module_kind.NotText ∷ module_kind.BadToken ∷ module_kind.Unexpected ∷ module_kind.TooLarge ∷ module_kind.ModuleNotFound ∷ module_kind.ModuleTwice ∷ module_kind.NameTwice ∷ module_kind.UnknownName ∷ module_kind.TypeMismatch ∷ module_kind.NotAssignable ∷ module_kind.BadAttribute ∷ module_kind.MissingBound ∷ module_kind.AttributeClash ∷ module_kind.BadBitRange ∷ module_kind.LiteralRange ∷ module_kind.NotConstant ∷ module_kind.BadRegex ∷ module_kind.EmptyToken ∷ module_kind.NoLookAhead ∷ module_kind.LookAheadClash ∷ module_kind.UnknownHook ∷ module_kind.SelfOutside ∷ module_kind.MissingReturn ∷ module_kind.OutsideLoop ∷ module_kind.WrongArguments ∷ module_kind.FilterPlace ∷ module_kind.SyncNoToken ∷ module_kind.HookSeesState ∷ module_kind.TooMany ∷ module_kind.OutOfProfile ∷ module_kind.TooDeep ∷ module_kind.NoParser ∷ []

abbrev kind_at : ℕ → MKind
kind_at n = get_or all_kinds n module_kind.NoParser

numbered : (k : MKind) → kind_at (module_kind_number k) ≡ k
numbered module_kind.NotText = refl
numbered _ = refl

one_kind : (first second : MKind) → module_kind_number first ≡ module_kind_number second → first ≡ second
one_kind first second e = sym (numbered first) ∙ ap kind_at e ∙ numbered second

-- by two numbers, and where these are equal by what comes behind
abbrev in_order : ℕ → ℕ → Bool → Bool
in_order a b behind = if a == b then behind else nat_lt a b

abbrev IsTied : ℕ → ℕ → Bool → Bool → Type 0
IsTied a b r s = (a ≡ b) × (r ≡ false) × (s ≡ false)

no_less : (a b : ℕ) → nat_lt a b ≡ false → nat_lt b a ≡ false → a ≡ b
no_less a b x y = let p = ltb-false a b x in let q = ltb-false b a y in omega (arith, p, q)

-- where neither comes first, the numbers are equal
tied : (a b : ℕ) (r s : Bool) → in_order a b r ≡ false → in_order b a s ≡ false → IsTied a b r s
tied a b r s x y = by (a == b) (b == a) refl refl
  where
    by : (t u : Bool) → (a == b) ≡ t → (b == a) ≡ u → IsTied a b r s
    by true true e f = (eqb-true a b e, sym (ap (λ t. if t then r else nat_lt a b) e) ∙ x, sym (ap (λ t. if t then s else nat_lt b a) f) ∙ y)
    by true false e f = absurd (eqb-false b a f (sym (eqb-true a b e)))
    by false true e f = absurd (eqb-false a b e (sym (eqb-true b a f)))
    by false false e f =
        let p : nat_lt a b ≡ false = sym (ap (λ t. if t then r else nat_lt a b) e) ∙ x in
        let q : nat_lt b a ≡ false = sym (ap (λ t. if t then s else nat_lt b a) f) ∙ y in
        absurd (eqb-false a b e (no_less a b p q))

abbrev behind_place : Fault → Fault → Bool
behind_place f g = nat_lt (rule_number f.rule) (rule_number g.rule)

abbrev behind_module : Fault → Fault → Bool
behind_module f g = in_order f.span.from g.span.from (behind_place f g)

abbrev behind_group : Fault → Fault → Bool
behind_group f g = in_order f.«module» g.«module» (behind_module f g)

-- what a refusal tells of a rule
abbrev IsSameRefusal : Fault → Fault → Type 0
IsSameRefusal f g = (f.«module» ≡ g.«module») × (f.span.from ≡ g.span.from) × (kind f.rule ≡ kind g.rule)

neither_first : (f g : Fault) → precedes f g ≡ false → precedes g f ≡ false → IsSameRefusal f g
neither_first f g x y =
    let groups : IsTied (rule_group f.rule) (rule_group g.rule) (behind_group f g) (behind_group g f) = tied (rule_group f.rule) (rule_group g.rule) (behind_group f g) (behind_group g f) x y in
    let modules : IsTied f.«module» g.«module» (behind_module f g) (behind_module g f) = tied f.«module» g.«module» (behind_module f g) (behind_module g f) groups.1 groups.2 in
    let places : IsTied f.span.from g.span.from (behind_place f g) (behind_place g f) = tied f.span.from g.span.from (behind_place f g) (behind_place g f) modules.1 modules.2 in
    (modules.0, places.0, one_kind (kind f.rule) (kind g.rule) (no_less (rule_number f.rule) (rule_number g.rule) places.1 places.2))

same_refusal : (ss : List Source) (f g : Fault) → IsSameRefusal f g → refusal_of ss (diag_of f) ≡ refusal_of ss (diag_of g)
same_refusal ss f g (modules, places, kinds) =
    ap (λ m. refusal_in (slice_get ss m) f.span.from (kind f.rule)) modules
    ∙ ap (λ n. refusal_in (slice_get ss g.«module») n (kind f.rule)) places
    ∙ ap (λ k. refusal_in (slice_get ss g.«module») g.span.from k) kinds

pub one_least_refusal : (ss : List Source) (ts : List Tree) (first second : Refusal) → IsLeastRefusal ss ts first → IsLeastRefusal ss ts second → first ≡ second
one_least_refusal ss ts first second (f, x, a) (g, y, b) =
    a ∙ same_refusal ss f g (neither_first f g (y.1 f x.0) (x.1 g y.0)) ∙ sym b
