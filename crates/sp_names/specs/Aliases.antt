-- The types of type declarations, as questions whose answers hang on each other.
use Rattle.std.specs.Prelude.{ℕ, ◌≡◌, ◌+◌, List, [], ◌∷◌, length, take, Option, Some, None, ◌⊎◌, Vec}
use Rattle.std.specs.declared.alloc.Global.{Global}
use Rattle.sp_ast.specs.Trees.{Tree}
use Rattle.sp_types.specs.Types.{Ty, word}
use Rattle.sp_types.specs.declared.words.Word.TheVariants as word_is
use Rattle.sp_solver.specs.declared.attempt.Attempt.{Attempt}
use Rattle.sp_solver.specs.declared.attempt.Attempt.TheVariants.{Done, Waits}
use Rattle.sp_solver.specs.Rounds.{IsSettled}
use Rattle.sp_solver.specs.Rows.{Among}
use Rattle.sp_solver.specs.Told.{told}
use Rattle.sp_names.specs.declared.rows.Declaration.{Declaration}
use Rattle.sp_names.specs.declared.sort.DeclSort.{DeclSort}
use Rattle.sp_names.specs.declared.sort.DeclSort.TheVariants as sort_is
use Rattle.sp_names.specs.Declarations.{rows, declaration_at, before, sort_of, type_tree_of, library_enums}
use Rattle.sp_names.specs.Types.{type_in, mentions_in, unknown}

-- the first of some numbers that has no answer
abbrev pub open_or : Option Ty → ℕ → Option ℕ → Option ℕ
open_or None j rest = Some j
open_or (Some a) j rest = rest

abbrev pub first_open : (ℕ → Option Ty) → List ℕ → Option ℕ
first_open f [] = None
first_open f (j ∷ js) = open_or (f j) j (first_open f js)

-- the declarations on which the answer of one of a sort hangs: those that an alias names
abbrev pub sort_asks : List Tree → Declaration → DeclSort → List ℕ
sort_asks list d sort_is.Alias = mentions_in list d.«module» (type_tree_of d.tree)
sort_asks list d _ = []

abbrev pub asks : List Tree → Option Declaration → List ℕ
asks list None = []
asks list (Some d) = sort_asks list d (sort_of d.tree)

-- the type of a declaration of a sort, where those on which it hangs are answered: a unit's or an enum's own number, or what
-- an alias is; of all else there is none
abbrev pub sort_type : List Tree → (ℕ → Option Ty) → ℕ → Declaration → DeclSort → Ty
sort_type list f g d sort_is.Unit = word (word_is.Unit (before sort_is.Unit list g))
sort_type list f g d sort_is.Enum = word (word_is.Enum (library_enums + before sort_is.Enum list g))
sort_type list f g d sort_is.Alias = type_in list f d.«module» (type_tree_of d.tree)
sort_type list f g d _ = unknown

-- a declaration waits for the first of those on which it hangs that has no answer
abbrev pub when_open : Ty → Option ℕ → Attempt Ty
when_open t None = Done t
when_open t (Some j) = Waits j

-- there is no such declaration
abbrev pub nowhere : Option Ty → ℕ → Attempt Ty
nowhere (Some a) g = Done a
nowhere None g = Waits g

abbrev pub try_one : List Tree → (ℕ → Option Ty) → ℕ → Option Declaration → Attempt Ty
try_one list f g None = nowhere (f g) g
try_one list f g (Some d) = when_open (sort_type list f g d (sort_of d.tree)) (first_open f (asks list (Some d)))

abbrev pub tries : List Tree → (ℕ → Option Ty) → ℕ → Attempt Ty
tries list f g = try_one list f g (declaration_at list g)

-- all on which a declaration hangs before the cursor have answers
abbrev pub ready : List Tree → (ℕ → Option Ty) → ℕ → ℕ → Type 0
ready list f g c = first_open f (take c (asks list (declaration_at list g))) ≡ None

-- The answers of a list of modules: for each declaration its type, and none where it is made of itself, or of one that is.
abbrev pub IsResolved : List Tree → List (Option Ty) → Type 0
IsResolved list answers = (length answers ≡ length (rows list)) × IsSettled (tries list) (told answers)

-- an alias names a declaration
abbrev pub Mentions : List Tree → ℕ → ℕ → Type 0
Mentions list g j = Among (asks list (declaration_at list g)) j

-- names lead from one to another, in one step or more
pub data Leads (list : List Tree) : ℕ → ℕ → Type 0 where
  one : {i j : ℕ} → Mentions list i j → Leads list i j
  more : {i j k : ℕ} → Mentions list i j → Leads list j k → Leads list i k

-- a declaration is made of itself, or of one that is
abbrev pub IsEndless : List Tree → ℕ → Type 0
IsEndless list i = (j : ℕ) × ((i ≡ j) ⊎ Leads list i j) × Leads list j j

-- the type of a declaration, where those on which it hangs are answered
abbrev pub declaration_type : List Tree → (ℕ → Option Ty) → ℕ → Option Declaration → Ty
declaration_type list f g None = unknown
declaration_type list f g (Some d) = sort_type list f g d (sort_of d.tree)

abbrev pub items_of : Vec ℕ Global → List ℕ
items_of v = v.items

-- the declarations on which each hangs
abbrev pub IsAsked : List Tree → ℕ → Vec ℕ Global → Type 0
IsAsked list g v = items_of v ≡ asks list (declaration_at list g)
