-- Paths as lists of names, and what stands behind a label.
use Rattle.std.proofs.Common.{ℕ, ◌≡◌, true, false, refl, sym, ap, ◌∙◌, List, [], ◌∷◌, length, Option, Some}
use Rattle.std.specs.Prelude.{◌==◌}
use Rattle.sp_ast.specs.Trees.{Tree, tree}
use Rattle.sp_ast.specs.declared.forms.Form.TheVariants as form_is
use Rattle.sp_base.specs.declared.places.Span.{Span}
use Rattle.sp_types.specs.Types.{Ty}
use Rattle.sp_names.specs.declared.sort.Meaning.{Meaning}
use Rattle.sp_names.specs.declared.sort.Meaning.TheVariants as meaning_is
use Rattle.sp_names.specs.Declarations.{name_of}
use Rattle.sp_names.specs.Names.{names_of, path_names, behind, enum_of, label_of, label_in, some_label}
use Rattle.sp_names.proofs.Lists.{list_of_trees}

pub path_is : (span : Span) (path : Tree) (names : List Tree) → path ≡ tree form_is.Path span names → path_names path ≡ names_of names
path_is span path names e = ap path_names e ∙ ap names_of (list_of_trees names)

some_more : (others : List Tree) → (length others == 0) ≡ false → (y : Tree) × (ys : List Tree) × (others ≡ y ∷ ys)
some_more [] e = (let z : true ≡ false = e in let b : ⊥ = (cc) in absurd b)
some_more (y ∷ ys) e = (y, ys, refl)

-- nothing follows a label
pub behind_label : (list : List Tree) (f : ℕ → Option Ty) (meaning : Option Meaning) (found : Meaning) (names others : List Tree) (name : Tree) (owner label : ℕ) (x : List ℕ)
    → meaning ≡ Some found → names ≡ name ∷ others → Some owner ≡ enum_of f found → Some label ≡ label_in list owner x → name_of name ≡ x → (length others == 0) ≡ false
    → meaning_is.Nothing 3 ≡ behind list f 1 meaning (names_of names)
behind_label list f meaning found names others name owner label x m e h l n z =
    let more = some_more others z in
    let ys = names_of more.1 in
    sym (
    ap (λ o. behind list f 1 o (names_of names)) m
    ∙ ap (λ ns. behind list f 1 (Some found) (names_of ns)) (e ∙ ap (λ os. name ∷ os) more.2)
    ∙ ap (λ o. behind list f 2 (label_of list o (name_of name)) (name_of more.0 ∷ ys)) (sym h)
    ∙ ap (λ w. behind list f 2 (label_of list (Some owner) w) (name_of more.0 ∷ ys)) n
    ∙ ap (λ o. behind list f 2 (some_label owner o) (name_of more.0 ∷ ys)) (sym l))
