-- What a walk into a type leads to that numbers its kind.
use Rattle.std.specs.Prelude.{ℕ, List}
use Rattle.sp_methods.specs.Kinds.{Kind, kinds_of}
use Rattle.sp_meaning_states.specs.Types.{kind_of_made, kind_of_type}
use Rattle.sp_emit.specs.Plans.{Plan, answers_after, run}

module _ (ranges : List ℕ) where
  -- the kinds behind a task, and behind all of them
  abbrev pub kinds_after : Plan → List Kind → List Kind
  kinds_after = answers_after (kind_of_type ranges) (λ maker ks. kind_of_made ranges maker (kinds_of ks))

  abbrev pub kinds_behind : List Plan → List Kind → List Kind
  kinds_behind = run (kind_of_type ranges) (λ maker ks. kind_of_made ranges maker (kinds_of ks))
