-- The units that paths name.
use Rattle.std.proofs.Common.{ℕ, ◌≡◌, suc, Bool, refl, ap, ◌∙◌, List, [], ◌∷◌, Option, Some, None}
use Rattle.sp_base.specs.declared.places.Span.{Span}
use Rattle.sp_ast.specs.Trees.{Tree, tree}
use Rattle.sp_ast.specs.declared.forms.Form.TheVariants as form_is
use Rattle.sp_names.proofs.Lists.{list_of_trees}
use Rattle.sp_types.specs.Types.{Ty}
use Rattle.sp_names.specs.declared.sort.Meaning.{Meaning}
use Rattle.sp_names.specs.declared.sort.Scope.{Scope}
use Rattle.sp_names.specs.Names.{in_own, in_scope, behind, label_of, some_label, label_in, enum_of, own_enum, declared, visible, named_in, names_of, path_names}
use Rattle.sp_typed_units.specs.declared.declarations.HookOf.TheVariants as of_is
use Rattle.sp_type_hook_rows.specs.HookRows.{meant_unit, named_unit, before_last, last_of, member_hook, names_hook}

-- what is no unit, whatever names stand behind it: nothing, and a label
label : (list : List Tree) (f : ℕ → Option Ty) (k n : ℕ) (o : Option ℕ) (xs : List (List ℕ)) → meant_unit f (behind list f k (some_label n o) xs) ≡ None
label list f k n None xs = refl
label list f k n (Some l) [] = refl
label list f k n (Some l) (x ∷ xs) = refl

nothing : (list : List Tree) (f : ℕ → Option Ty) (k : ℕ) (o : Option ℕ) (x : List ℕ) (xs : List (List ℕ)) → meant_unit f (behind list f k (label_of list o x) xs) ≡ None
nothing list f k None x xs = refl
nothing list f k (Some n) x xs = label list f k n (label_in list n x) xs

-- a third name leads to no unit
behind_more : (list : List Tree) (f : ℕ → Option Ty) (k : ℕ) (o : Option Meaning) (x : List ℕ) (xs : List (List ℕ)) → meant_unit f (behind list f k o (x ∷ xs)) ≡ None
behind_more list f k None x xs = refl
behind_more list f k (Some m) x xs = nothing list f (suc k) (enum_of f m) x xs

in_scope_more : (list : List Tree) (f : ℕ → Option Ty) (own : Option ℕ) (scope : Option Scope) (y z : List ℕ) (zs : List (List ℕ)) → meant_unit f (in_scope list f own scope y (z ∷ zs)) ≡ None
in_scope_more list f own (Some scope) y z zs = behind_more list f 1 (named_in list scope y) z zs
in_scope_more list f (Some g) None y z zs = refl
in_scope_more list f None None y z zs = refl

in_own_more : (list : List Tree) (f : ℕ → Option Ty) (enum own : Option ℕ) (scope : Option Scope) (y z : List ℕ) (zs : List (List ℕ)) → meant_unit f (in_own list f enum own scope y (z ∷ zs)) ≡ None
in_own_more list f (Some n) own scope y z zs = behind_more list f 1 (label_of list (Some n) y) z zs
in_own_more list f None own scope y z zs = in_scope_more list f own scope y z zs

long_path : (list : List Tree) (f : ℕ → Option Ty) (m : ℕ) (x y z : List ℕ) (zs : List (List ℕ)) → named_unit list f m (x ∷ (y ∷ (z ∷ zs))) ≡ None
long_path list f m x y z zs = in_own_more list f (own_enum f (declared list m x)) (declared list m x) (visible list m x) y z zs

pub long_hook : (list : List Tree) (f : ℕ → Option Ty) (m : ℕ) (each : Bool) (x y z w : List ℕ) (ws : List (List ℕ)) → names_hook list f m each (x ∷ (y ∷ (z ∷ (w ∷ ws)))) ≡ of_is.Nothing
long_hook list f m each x y z w ws = ap (member_hook list each (last_of (w ∷ ws))) (long_path list f m x y z (before_last (w ∷ ws)))

-- the names of a path that is seen as its names
pub path_is : (span : Span) (ts : List Tree) (p : Tree) → p ≡ tree form_is.Path span ts → path_names p ≡ names_of ts
path_is span ts p e = ap path_names e ∙ ap names_of (list_of_trees ts)
