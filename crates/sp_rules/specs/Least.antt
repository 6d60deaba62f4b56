-- The least of broken rules: by group, module, place and number.
use Rattle.std.specs.Prelude.{ℕ, ◌≡◌, ◌==◌, ◌⊎◌, Bool, false, if◌then◌else◌, nat_lt, nat_le, List, [], ◌∷◌, Option, Some, None}
use Rattle.sp_rules.specs.declared.fault.Fault.{Fault}
use Rattle.sp_rules.specs.Rules.{rule_group, rule_number}

-- whether f comes before g in their group
abbrev pub is_before : Fault → Fault → Bool
is_before f g =
    if f.«module» == g.«module» then (if f.span.from == g.span.from then nat_lt (rule_number f.rule) (rule_number g.rule) else nat_lt f.span.from g.span.from) else nat_lt f.«module» g.«module»

abbrev pub precedes : Fault → Fault → Bool
precedes f g = if rule_group f.rule == rule_group g.rule then is_before f g else nat_lt (rule_group f.rule) (rule_group g.rule)

-- the lesser of the least so far and one more
abbrev pub better : Option Fault → Fault → Option Fault
better None f = Some f
better (Some g) f = Some (if precedes f g then f else g)

-- what is noted of faults, one after another
abbrev pub noted : Option Fault → List Fault → Option Fault
noted o [] = o
noted o (f ∷ fs) = noted (better o f) fs

-- none is broken; or the answer is broken, and no broken one comes before it
abbrev pub IsLeast : (Fault → Type 0) → Option Fault → Type 0
IsLeast Broken None = (f : Fault) → Broken f → ⊥
IsLeast Broken (Some f) = Broken f × ((g : Fault) → Broken g → precedes g f ≡ false)

-- one of a list
abbrev pub Among : {X : Type 0} → List X → X → Type 0
Among [] y = ⊥
Among (x ∷ xs) y = (x ≡ y) ⊎ Among xs y

-- what is noted of tests, each with the fault where it holds
abbrev pub checked : Option Fault → List (Bool × Fault) → Option Fault
checked o [] = o
checked o (c ∷ cs) = checked (if c.0 then better o c.1 else o) cs

-- the faults whose tests hold
abbrev pub broken : List (Bool × Fault) → List Fault
broken [] = []
broken (c ∷ cs) = if c.0 then c.1 ∷ broken cs else broken cs

-- the answer of the rules of the groups up to k
abbrev pub of_groups : ℕ → Option Fault → Option Fault
of_groups k None = None
of_groups k (Some f) = if nat_le (rule_group f.rule) k then Some f else None
