-- What is left to do of a walk into a value, and what it leads to.
use Rattle.std.specs.Prelude.{ℕ, ◌+◌, ◌*◌, List, [], ◌∷◌, ◌++◌, drop, take, map as each, reverse, Option, Some, None}
use Rattle.sp_events.specs.Tree.{TreeData, trees_of, pairs_of, fields_of}
use Rattle.sp_events.specs.Tree as told
use Rattle.sp_events.specs.TreeSizes.{tree_size}
use Rattle.sp_value.specs.Val.{Val}
use Rattle.sp_meaning_states.specs.States.{Instance}
use Rattle.sp_meaning_states.specs.Telling.{Names, names_at}
use Rattle.sp_show.specs.Inside.{tree_inside, told_member}
use Rattle.sp_show.specs.declared.walk.Task.{Task}
use Rattle.sp_show.specs.declared.walk.Task.TheVariants.{Tell, End}
use Rattle.sp_show.specs.declared.walk.Shape.{Shape}
use Rattle.sp_show.specs.declared.walk.Shape.TheVariants.{Tuple, Vector, Set, Map, Unit as UnitShape}

-- what is made of the trees of members, with the instance of a unit
pub data Form : Type 0 where
  tuple : Form
  vector : Form
  set : Form
  map : Form
  unit : Instance → Form

abbrev pub shape_of : Shape → Form
shape_of Tuple = tuple
shape_of Vector = vector
shape_of Set = set
shape_of Map = map
shape_of (UnitShape x) = unit x.now

-- a task, with the value that it is on
pub data Plan : Type 0 where
  tell : Val → Plan
  end : Form → ℕ → Plan

abbrev pub plan : Task → Plan
plan (Tell v) = tell v.now
plan (End shape n) = end (shape_of shape) n

-- the tasks of a list, the last one first
abbrev pub plans : List Task → List Plan
plans ts = each plan (reverse ts)

-- values that are told in order
abbrev pub tells : List Val → List Plan
tells vs = each tell vs

-- keys and values in one list, and trees two by two
abbrev pub halves : List (Val × Val) → List Val
halves [] = []
halves (e ∷ es) = e.0 ∷ e.1 ∷ halves es

abbrev pub in_pairs : List TreeData → List (TreeData × TreeData)
in_pairs (k ∷ v ∷ ts) = (k, v) ∷ in_pairs ts
in_pairs ts = []

-- the values of the members that are told
abbrev pub listed : Option Val → List Val
listed None = []
listed (Some v) = v ∷ []

abbrev pub members_told : List (List ℕ) → List (Option Val) → List Val
members_told (x ∷ xs) (o ∷ os) = listed (told_member o) ++ members_told xs os
members_told xs os = []

-- the first tree under the name of a member, where it is told, and those of the members behind it
abbrev pub with_name : List ℕ → Option Val → (List TreeData → List (List ℕ × TreeData)) → List TreeData → List (List ℕ × TreeData)
with_name x None rest ts = rest ts
with_name x (Some v) rest [] = rest []
with_name x (Some v) rest (t ∷ ts) = (x, t) ∷ rest ts

-- trees of such members, under their names
abbrev pub with_names : List (List ℕ) → List (Option Val) → List TreeData → List (List ℕ × TreeData)
with_names (x ∷ xs) (o ∷ os) ts = with_name x (told_member o) (with_names xs os) ts
with_names xs os ts = []

-- the units that are open behind what is made, and behind a task
abbrev pub left_behind : Form → List ℕ → List ℕ
left_behind (unit x) (n ∷ round) = round
left_behind form round = round

abbrev pub round_after : Plan → List ℕ → List ℕ
round_after (tell v) round = round
round_after (end form n) round = left_behind form round

module _ (names : Names) where
  -- what is made of the trees of its members
  abbrev pub made : Form → List TreeData → TreeData
  made tuple ts = told.tuple (trees_of ts)
  made vector ts = told.vector (trees_of ts)
  made set ts = told.set (trees_of ts)
  made map ts = told.map (pairs_of (in_pairs ts))
  made (unit x) ts = told.unit (fields_of (with_names (names_at names.members x.unit) x.members ts))

  module _ (instances : List Instance) where
    -- what is told behind a task, where these units are open and this is told
    abbrev pub told_after : Plan → List ℕ → List TreeData → List TreeData
    told_after (tell v) round ts = ts ++ tree_inside names instances round v ∷ []
    told_after (end form n) round ts = take n ts ++ made form (drop n ts) ∷ []

    -- what is told behind all of them
    abbrev pub run : List Plan → List ℕ → List TreeData → List TreeData
    run [] round ts = ts
    run (p ∷ ps) round ts = run ps (round_after p round) (told_after p round ts)

    -- how many steps a task takes at most, and how many all do
    abbrev pub steps : Plan → List ℕ → ℕ
    steps (tell v) round = 2 * tree_size (tree_inside names instances round v) + 2
    steps (end form n) round = 1

    abbrev pub work : List Plan → List ℕ → ℕ
    work [] round = 0
    work (p ∷ ps) round = steps p round + work ps (round_after p round)
