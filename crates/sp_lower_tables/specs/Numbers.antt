-- Kinds of several values, by their numbers in a table of kinds.
use Rattle.std.specs.Prelude.{◌≡◌, ◌<◌, ℕ, List, ◌++◌, length}
use Rattle.std.specs.List.{AllByRecursion}
use Rattle.sp_methods.specs.Kinds.{Kind}
use Rattle.sp_code.specs.Programs.{kinds_at}
use Rattle.sp_emit.specs.Kinds.{IsNumberOf}
use Rattle.sp_emit.specs.Emitted.{Emitted, TurnsTo}

-- The number of a kind; no code was emitted.
pub record GivesNumber (before after : Emitted) (k : Kind) (n : ℕ) : Type 0 where
  pub same : TurnsTo before after before.now
  pub number : IsNumberOf after.kinds k n

-- the numbers of these kinds, in their order
pub record AreNumbersOf (ks of : List Kind) (ns : List ℕ) : Type 0 where
  pub below : AllByRecursion (λ n. n < length ks) ns
  pub are : kinds_at ks ns ≡ of

-- The numbers of kinds; no code was emitted.
pub record GivesNumbers (before after : Emitted) (of : List Kind) (ns : List ℕ) : Type 0 where
  pub same : TurnsTo before after before.now
  pub numbers : AreNumbersOf after.kinds of ns

-- Numbers of these kinds come behind others, and no code was emitted.
pub record AddsNumbers (before after : Emitted) (ns ms : List ℕ) (more_kinds : List Kind) : Type 0 where
  pub same : TurnsTo before after before.now
  pub numbers : (of : List Kind) → AreNumbersOf before.kinds of ns → AreNumbersOf after.kinds (of ++ more_kinds) ms
