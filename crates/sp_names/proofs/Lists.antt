-- Rows of trees as lists, what stands at a place of a list, and that a declaration stands in the row of declarations.
use Rattle.std.proofs.Common.{ℕ, ◌≡◌, ◌<◌, ◌+◌, zero, suc, refl, sym, ap, subst, ◌∙◌, arith, Bool, true, false, List, [], ◌∷◌, ◌++◌, length, Some, None, slice_get, get_or, ◌⊎◌, inl, inr}
use Rattle.std.proofs.lemmas.List.{length-append}
use Rattle.sp_ast.specs.Trees.{Tree, absent, row, node, trees}
use Rattle.sp_ast.specs.Groups.{is_of}
use Rattle.sp_ast.specs.declared.groups.Group.TheVariants as group_is
use Rattle.sp_ast.specs.declared.forms.Form.TheVariants as form_is
use Rattle.sp_ast.specs.declared.views.decl.ModuleView.{ModuleView}
use Rattle.sp_ast.specs.DeclViews.{module_tree}
use Rattle.sp_base.specs.declared.places.Span.{Span}
use Rattle.sp_names.specs.Declarations.{list_of, module_declarations}
use Rattle.sp_names.specs.Tables.{Each}
use Rattle.sp_names.specs.RowViews.{is_row}

pub list_of_trees : (xs : List Tree) → list_of (trees xs) ≡ xs
list_of_trees [] = refl
list_of_trees (x ∷ xs) = ap (λ l. x ∷ l) (list_of_trees xs)

pub declarations_are : (span : Span) (v : ModuleView) (t : Tree) → module_tree span v ≡ t → v.declarations ≡ module_declarations t
declarations_are span v t e = sym (list_of_trees v.declarations) ∙ ap module_declarations e

pub here : {X : Type 0} (xs : List X) (i : ℕ) (d : X) → i < length xs → slice_get xs i ≡ Some (get_or xs i d)
here [] i d lt = absurd (let z : ⊥ = omega (arith, lt) in z)
here (y ∷ ys) zero d lt = refl
here (y ∷ ys) (suc i) d lt = here ys i d (omega (arith, lt))

some_is : {A : Type 0} (a b : A) → Some a ≡ Some b → a ≡ b
some_is a b e = cc

-- what stands at a place of a list with one more
last_or : {X : Type 0} (xs : List X) (y : X) (i : ℕ) (x : X) → slice_get (xs ++ y ∷ []) i ≡ Some x → (slice_get xs i ≡ Some x) ⊎ ((i ≡ length xs) × (y ≡ x))
last_or [] y zero x e = inr (refl, some_is y x e)
last_or [] y (suc i) x e = (let z : None ≡ Some x = e in cc)
last_or (z ∷ zs) y zero x e = inl e
last_or (z ∷ zs) y (suc i) x e = elim (last_or zs y i x e) [ inl l ↦ inl l | inr r ↦ inr (ap suc r.0, r.1) ]

pub one_longer : {X : Type 0} (xs ys : List X) (n : ℕ) (y : X) → ys ≡ xs ++ y ∷ [] → length xs ≡ n → length ys ≡ n + 1
one_longer xs ys n y is long = ap length is ∙ length-append xs (y ∷ []) ∙ omega (arith, long)

-- each of a list, and one more behind it
pub each_more : {X : Type 0} (Is : ℕ → X → Type 0) (xs ys : List X) (n : ℕ) (y : X) → ys ≡ xs ++ y ∷ [] → length xs ≡ n → Each Is xs → Is n y → Each Is ys
each_more Is xs ys n y is long each one = λ i x e. elim (last_or xs y i x (ap (λ l. slice_get l i) (sym is) ∙ e)) [
  | inl l ↦ each i x l
  | inr r ↦ subst (λ j. Is j x) (sym (r.0 ∙ long)) (subst (Is n) r.1 one)
]

no_declaration : {X : Type 0} → false ≡ true → X
no_declaration e = absurd (let z : ⊥ = cc in z)

pub declaration_is_row : (t : Tree) → is_of group_is.Declarations t ≡ true → is_row t ≡ true
declaration_is_row (node (form_is.Decl form) span ts) e = refl
declaration_is_row (node _ span ts) e = no_declaration e
declaration_is_row absent e = no_declaration e
declaration_is_row (row ts) e = no_declaration e
