-- What is left to do of a walk into a type, and the answers to which it leads.
use Rattle.std.specs.Prelude.{ℕ, ◌+◌, ◌*◌, List, [], ◌∷◌, ◌++◌, drop, take, map as each, reverse}
use Rattle.sp_types.specs.Types.{Ty}
use Rattle.sp_types.specs.inside.Codes.{ty_size}
use Rattle.sp_types.specs.declared.words.Maker.{Maker}
use Rattle.sp_emit.specs.declared.walk.Task.{Task}
use Rattle.sp_emit.specs.declared.walk.Task.TheVariants.{Begin, End}

-- a task, with the type that it is on
pub data Plan : Type 0 where
  begin : Ty → Plan
  end : Maker → ℕ → Plan

abbrev pub plan : Task → Plan
plan (Begin t) = begin t.now
plan (End m n) = end m n

-- the tasks of a list, the last one first
abbrev pub plans : List Task → List Plan
plans ts = each plan (reverse ts)

-- types whose answers are found in order
abbrev pub begins : List Ty → List Plan
begins ts = each begin ts

-- what the answer for a type is, and that for what is made of types by theirs
module _ {A : Type 0} (answer : Ty → A) (made : Maker → List A → A) where
  -- the answers behind a task, where these were before it
  abbrev pub answers_after : Plan → List A → List A
  answers_after (begin t) found = found ++ answer t ∷ []
  answers_after (end m n) found = take n found ++ made m (drop n found) ∷ []

  -- those behind all of them
  abbrev pub run : List Plan → List A → List A
  run [] found = found
  run (p ∷ ps) found = run ps (answers_after p found)

-- how many steps a task takes at most, and how many all do
abbrev pub steps : Plan → ℕ
steps (begin t) = 2 * ty_size t + 2
steps (end m n) = 1

abbrev pub work : List Plan → ℕ
work [] = 0
work (p ∷ ps) = steps p + work ps
