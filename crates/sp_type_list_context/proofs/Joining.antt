-- Rows that grow by one.
use Rattle.std.proofs.Common.{ℕ, ◌≡◌, ◌<◌, ◌≤◌, ◌+◌, zero, suc, arith, false, refl, ap, sym, ◌∙◌, List, [], ◌∷◌, ◌++◌, length, drop, get_or, map, Option, Some}
use Rattle.std.proofs.lemmas.List.{at_drop_more}
use Rattle.sp_ast.specs.Trees.{Tree, absent}
use Rattle.sp_names.specs.Names.{declaration_of}
use Rattle.sp_typed.specs.declared.words.Standing.TheVariants as standing_is
use Rattle.sp_type_scopes.specs.Parameters.{with_parameters}
use Rattle.sp_type_scopes.specs.Decorators.{with_self}
use Rattle.sp_type_values.specs.declared.answer.Answer.{Answer}
use Rattle.sp_types.specs.Types.{Ty, word}
use Rattle.sp_types.specs.declared.words.Word.TheVariants as word_is
use Rattle.sp_typed_units.specs.declared.declarations.Parameter.{Parameter}
use Rattle.sp_type_context.specs.Contexts.{Around}
use Rattle.sp_type_list_context.specs.Contexts.{in_module, modules_from, module_of, homes_of, seeing, unit_types, being}

pub map_push : {X Y : Type 0} (f : X → Y) (xs : List X) (x : X) → map f (xs ++ x ∷ []) ≡ map f xs ++ f x ∷ []
map_push f [] x = refl
map_push f (y ∷ xs) x = ap (λ ys. f y ∷ ys) (map_push f xs x)

-- one more of a row, seen by what it tells
pub pushed : {X Y : Type 0} (f : X → Y) (xs ys : List X) (x : X) (y : Y) → ys ≡ xs ++ x ∷ [] → f x ≡ y → map f ys ≡ map f xs ++ y ∷ []
pushed f xs ys x y e h = ap (map f) e ∙ map_push f xs x ∙ ap (λ z. map f xs ++ z ∷ []) h

append_one : {Y : Type 0} (xs : List Y) (y : Y) (ys : List Y) → (xs ++ y ∷ []) ++ ys ≡ xs ++ y ∷ ys
append_one [] y ys = refl
append_one (x ∷ xs) y ys = ap (λ zs. x ∷ zs) (append_one xs y ys)

row_step : {Y : Type 0} (before after : List Y) (y : Y) (rest further total : List Y) → after ≡ before ++ y ∷ [] → rest ≡ y ∷ further → before ++ rest ≡ total → after ++ further ≡ total
row_step before after y rest further total e h whole =
    ap (λ z. z ++ further) e ∙ append_one before y further ∙ ap (λ z. before ++ z) (sym h) ∙ whole

-- where a row ends, and where it goes on
drop_past : {X : Type 0} (xs : List X) (i : ℕ) → length xs ≤ i → drop i xs ≡ []
drop_past [] zero le = refl
drop_past [] (suc i) le = refl
drop_past (x ∷ xs) zero le = (let z : ⊥ = omega (arith, le) in absurd z)
drop_past (x ∷ xs) (suc i) le = drop_past xs i (omega (arith, le))

drop_at : {X : Type 0} (xs : List X) (i : ℕ) (x : X) → i < length xs → x ≡ get_or xs i x → drop i xs ≡ x ∷ drop (i + 1) xs
drop_at xs i x lt is = at_drop_more (λ z. z) xs i x lt ∙ ap (λ y. y ∷ drop (i + 1) xs) (sym is)

with_nothing : {X : Type 0} (xs : List X) → xs ++ [] ≡ xs
with_nothing [] = refl
with_nothing (x ∷ xs) = ap (λ ys. x ∷ ys) (with_nothing xs)

stops : {Y : Type 0} (before rest total : List Y) → rest ≡ [] → before ++ rest ≡ total → before ≡ total
stops before rest total e whole = sym (with_nothing before) ∙ ap (λ r. before ++ r) (sym e) ∙ whole

-- modules, and the types of units, by their numbers
pub modules_step : (list : List Tree) (f : ℕ → Option Ty) (known : ℕ → Option Answer) (stored : ℕ → Option Ty) (ms : List Tree) (i n next : ℕ) (before after total : List Around) → i < length ms → next ≡ n + 1 → after ≡ before ++ in_module list f known stored n ∷ [] → before ++ modules_from list f known stored n (drop i ms) ≡ total → after ++ modules_from list f known stored next (drop (i + 1) ms) ≡ total
modules_step list f known stored ms i n next before after total lt ne e whole =
    let follows : suc n ≡ next = omega (arith, ne) in
    row_step before after (in_module list f known stored n) (modules_from list f known stored n (drop i ms)) (modules_from list f known stored next (drop (i + 1) ms)) total e
    (at_drop_more (modules_from list f known stored n) ms i absent lt ∙ ap (λ z. in_module list f known stored n ∷ modules_from list f known stored z (drop (i + 1) ms)) follows)
    whole

pub types_step : (ds : List ℕ) (i n next : ℕ) (t : Ty) (before after total : List Ty) → i < length ds → next ≡ n + 1 → t ≡ word (word_is.Unit n) → after ≡ before ++ t ∷ [] → before ++ unit_types n (drop i ds) ≡ total → after ++ unit_types next (drop (i + 1) ds) ≡ total
types_step ds i n next t before after total lt ne is e whole =
    let follows : suc n ≡ next = omega (arith, ne) in
    row_step before after t (unit_types n (drop i ds)) (unit_types next (drop (i + 1) ds)) total e
    (at_drop_more (unit_types n) ds i 0 lt ∙ ap (λ z. word (word_is.Unit n) ∷ unit_types z (drop (i + 1) ds)) follows ∙ ap (λ z. z ∷ unit_types next (drop (i + 1) ds)) (sym is))
    whole

-- the homes of units
pub homes_step : (list : List Tree) (f : ℕ → Option Ty) (known : ℕ → Option Answer) (stored : ℕ → Option Ty) (ds : List ℕ) (i m : ℕ) (before after total : List Around) → i < length ds → m ≡ module_of (declaration_of list (Some (get_or ds i 0))) → after ≡ before ++ in_module list f known stored m ∷ [] → before ++ homes_of list f known stored (drop i ds) ≡ total → after ++ homes_of list f known stored (drop (i + 1) ds) ≡ total
homes_step list f known stored ds i m before after total lt me e whole =
    row_step before after (in_module list f known stored m) (homes_of list f known stored (drop i ds)) (homes_of list f known stored (drop (i + 1) ds)) total e
    (at_drop_more (homes_of list f known stored) ds i 0 lt ∙ ap (λ z. in_module list f known stored z ∷ homes_of list f known stored (drop (i + 1) ds)) (sym me))
    whole

-- units with their parameters
seeing_none : (gs : List Around) → seeing gs [] ≡ []
seeing_none [] = refl
seeing_none (g ∷ gs) = refl

pub seeing_stops : (before gs : List Around) (rows : List (List Parameter)) (i : ℕ) (total : List Around) → length rows ≤ i → before ++ seeing gs (drop i rows) ≡ total → before ≡ total
seeing_stops before gs rows i total e whole =
    stops before (seeing gs (drop i rows)) total (ap (seeing gs) (drop_past rows i e) ∙ seeing_none gs) whole

pub seeing_step : {X : Type 0} (f : X → Around) (hs : List X) (rows : List (List Parameter)) (i : ℕ) (h : X) (t : List Parameter) (before after total : List Around) → i < length hs → h ≡ get_or hs i h → i < length rows → t ≡ get_or rows i t → after ≡ before ++ with_parameters 0 false t (f h) ∷ [] → before ++ seeing (map f (drop i hs)) (drop i rows) ≡ total → after ++ seeing (map f (drop (i + 1) hs)) (drop (i + 1) rows) ≡ total
seeing_step f hs rows i h t before after total lt is below found e whole =
    row_step before after (with_parameters 0 false t (f h)) (seeing (map f (drop i hs)) (drop i rows)) (seeing (map f (drop (i + 1) hs)) (drop (i + 1) rows)) total e
    (ap (λ z. seeing (map f z) (drop i rows)) (drop_at hs i h lt is) ∙ ap (λ z. seeing (f h ∷ map f (drop (i + 1) hs)) z) (drop_at rows i t below found))
    whole

-- units as `self`
being_none : (ts : List Ty) → being ts [] ≡ []
being_none [] = refl
being_none (t ∷ ts) = refl

map_none : {X Y : Type 0} (f : X → Y) (xs : List X) (i : ℕ) → length xs ≤ i → map f (drop i xs) ≡ []
map_none f xs i e = ap (map f) (drop_past xs i e)

pub being_stops : {X : Type 0} (f : X → Around) (before : List Around) (ts : List Ty) (xs : List X) (i : ℕ) (total : List Around) → length xs ≤ i → before ++ being ts (map f (drop i xs)) ≡ total → before ≡ total
being_stops f before ts xs i total e whole =
    stops before (being ts (map f (drop i xs))) total (ap (being ts) (map_none f xs i e) ∙ being_none ts) whole

pub being_step : {X : Type 0} (f : X → Around) (ts : List Ty) (xs : List X) (i : ℕ) (t : Ty) (x : X) (before after total : List Around) → i < length ts → t ≡ get_or ts i t → i < length xs → x ≡ get_or xs i x → after ≡ before ++ with_self t standing_is.Meant (f x) ∷ [] → before ++ being (drop i ts) (map f (drop i xs)) ≡ total → after ++ being (drop (i + 1) ts) (map f (drop (i + 1) xs)) ≡ total
being_step f ts xs i t x before after total lt is below found e whole =
    row_step before after (with_self t standing_is.Meant (f x)) (being (drop i ts) (map f (drop i xs))) (being (drop (i + 1) ts) (map f (drop (i + 1) xs))) total e
    (ap (λ z. being z (map f (drop i xs))) (drop_at ts i t lt is) ∙ ap (λ z. being (t ∷ drop (i + 1) ts) (map f z)) (drop_at xs i x below found))
    whole
