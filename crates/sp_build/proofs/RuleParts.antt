-- The rules ask for the parts of what they build, and what is found for slots fills them.
use Rattle.std.specs.Prelude.{reverse, option_map}
use Rattle.std.proofs.Common.{◌≡◌, ℕ, List, [], ◌∷◌, ◌++◌, Option, Some, None, true, refl, ap, sym, ◌∙◌, subst, inl, inr}
use Rattle.std.proofs.lemmas.Bool.{and_from, cases_Bool}
use Rattle.std.proofs.lemmas.List.{append_assoc, append-nil, reverse-append, reverse-reverse}
use Rattle.sp_lex.specs.declared.kinds.Absent.TheVariants as absent
use Rattle.sp_lex.specs.declared.kinds.TokenKind.{TokenKind}
use Rattle.sp_lex.specs.declared.kinds.TokenKind.TheVariants as token
use Rattle.sp_grammar.specs.declared.actions.Action.{Action}
use Rattle.sp_grammar.specs.declared.actions.Action.TheVariants as build
use Rattle.sp_ast.specs.declared.forms.Form.{Form}
use Rattle.sp_ast.specs.declared.forms.Form.TheVariants as form_is
use Rattle.sp_ast.specs.declared.forms.ExprForm.TheVariants as expr_is
use Rattle.sp_ast.specs.declared.forms.TypeForm.TheVariants as types_is
use Rattle.sp_ast.specs.declared.forms.StmtForm.TheVariants as stmt_is
use Rattle.sp_ast.specs.declared.forms.ItemForm.TheVariants as item_is
use Rattle.sp_ast.specs.declared.forms.PartForm.TheVariants as part_is
use Rattle.sp_ast.specs.declared.forms.GuardForm.TheVariants as guard_is
use Rattle.sp_ast.specs.declared.forms.BodyForm.TheVariants as body_is
use Rattle.sp_ast.specs.declared.forms.BaseForm.TheVariants as base_is
use Rattle.sp_ast.specs.declared.forms.DeclForm.TheVariants as decl_is
use Rattle.sp_words.specs.declared.words.IntWord.{IntWord}
use Rattle.sp_ast.specs.declared.groups.Group.{Group}
use Rattle.sp_ast.specs.declared.groups.Slot.{Slot}
use Rattle.sp_ast.specs.declared.groups.Slot.TheVariants.{Part as part, Several as several}
use Rattle.sp_ast.specs.Groups.{is_of, are_of, fits}
use Rattle.sp_ast.specs.Slots.{slots, fill}
use Rattle.sp_ast.specs.Trees.{Tree, trees, none}
use Rattle.sp_build.specs.Items.{begun, built}
use Rattle.sp_build.specs.Building.{Stack, Left, left, gathered, parts_of, popped_parts}
use Rattle.sp_build.specs.inside.Popping.{ask_for_one, ask_well}
use Rattle.sp_build.specs.inside.RuleParts.{HasNoParts, HasParts}
use Rattle.sp_build.specs.Rules.{Leaf, always, by_name, by_string, by_bytes, by_regex, by_number, by_integer, by_hook_name, rule}
use Rattle.sp_build.specs.inside.RuleViews.{worded_form}
use Rattle.sp_build.specs.declared.rules.Worded.{Worded}
use Rattle.sp_build.specs.declared.rules.Worded.TheVariants as worded
use Rattle.sp_build.specs.Tokens.{form_of, integer_of}
use Rattle.sp_build.proofs.Standing.{some_equal, not_some}
use Rattle.sp_build.proofs.Told.{never}

pub rules_have_parts : (m : Action) → HasParts (rule m)
rules_have_parts build.Begin = tt
rules_have_parts build.Absent = tt
rules_have_parts build.Row = tt
rules_have_parts build.Paren = tt
rules_have_parts build.Name = λ x. refl
rules_have_parts build.String = λ x. refl
rules_have_parts build.Number = λ n. refl
rules_have_parts build.HookName = λ h. refl
rules_have_parts build.IntType = λ word. refl
rules_have_parts build.NameTarget = λ x. refl
rules_have_parts build.HookTarget = λ h. refl
rules_have_parts build.Attribute = λ name. refl
rules_have_parts build.BytesBase = λ x. refl
rules_have_parts build.RegexBase = λ x. refl
rules_have_parts build.NumberBase = λ word. refl
rules_have_parts build.IntBase = λ word. refl
rules_have_parts build.NumberExpr = λ n. refl
rules_have_parts build.StringExpr = λ x. refl
rules_have_parts build.BytesExpr = λ x. refl
rules_have_parts build.RegexExpr = λ x. refl
rules_have_parts build.TypedNumberExpr = λ word. refl
rules_have_parts _ = refl

-- only the last slot asks for several
pub forms_ask_well : (form : Form) → ask_well (reverse (slots form)) ≡ true
forms_ask_well (form_is.Expr expr_is.Path) = refl
forms_ask_well (form_is.Type types_is.Path) = refl
forms_ask_well (form_is.Stmt stmt_is.Block) = refl
forms_ask_well (form_is.Item item_is.Filter) = refl
forms_ask_well (form_is.Part part_is.Field) = refl
forms_ask_well (form_is.Guard guard_is.Otherwise) = refl
forms_ask_well (form_is.Body body_is.Nothing) = refl
forms_ask_well (form_is.Base base_is.Type) = refl
forms_ask_well (form_is.Decl decl_is.Import) = refl
forms_ask_well _ = refl

pub worded_slots : (w : Worded) (a b : IntWord) → slots (worded_form w a) ≡ slots (worded_form w b)
worded_slots worded.TypedNumber a b = refl
worded_slots worded.NumberBase a b = refl
worded_slots worded.IntType a b = refl

-- what a token is built to has no parts
option_none : {A : Type 0} (o : Option A) (form : A → Form) (f : Form) → ((x : A) → slots (form x) ≡ []) → option_map form o ≡ Some f → slots f ≡ []
option_none None form f e q = not_some q
option_none (Some x) form f e q = subst (λ (g : Form). slots g ≡ []) (some_equal q) (e x)

pub leaf_has_none : (l : Leaf) → HasNoParts l → (kind : TokenKind) (bytes : List ℕ) (f : Form) → form_of l kind bytes ≡ Some f → slots f ≡ []
leaf_has_none (always form) e kind bytes f q = subst (λ (g : Form). slots g ≡ []) (some_equal q) e
leaf_has_none (by_name form) e token.Id bytes f q = subst (λ (g : Form). slots g ≡ []) (some_equal q) (e _)
leaf_has_none (by_name form) e (token.Absent absent.Skip) bytes f q = subst (λ (g : Form). slots g ≡ []) (some_equal q) (e _)
leaf_has_none (by_name form) e (token.Absent _) bytes f q = not_some q
leaf_has_none (by_name form) e _ bytes f q = not_some q
leaf_has_none (by_string form) e token.String bytes f q = subst (λ (g : Form). slots g ≡ []) (some_equal q) (e _)
leaf_has_none (by_string form) e _ bytes f q = not_some q
leaf_has_none (by_bytes form) e token.Bytes bytes f q = subst (λ (g : Form). slots g ≡ []) (some_equal q) (e _)
leaf_has_none (by_bytes form) e _ bytes f q = not_some q
leaf_has_none (by_regex form) e token.Regex bytes f q = subst (λ (g : Form). slots g ≡ []) (some_equal q) (e _)
leaf_has_none (by_regex form) e _ bytes f q = not_some q
leaf_has_none (by_number form) e token.Number bytes f q = subst (λ (g : Form). slots g ≡ []) (some_equal q) (e _)
leaf_has_none (by_number form) e _ bytes f q = not_some q
leaf_has_none (by_integer form) e kind bytes f q = option_none (integer_of kind) form f e q
leaf_has_none (by_hook_name form) e (token.Hook h) bytes f q = subst (λ (g : Form). slots g ≡ []) (some_equal q) (e _)
leaf_has_none (by_hook_name form) e _ bytes f q = not_some q

pub none_fill : (form : Form) → slots form ≡ [] → fill (slots form) none ≡ true
none_fill form e = ap (λ (l : List Slot). fill l none) e

-- What is found for slots fills them.
pub gathered_of : (g : Group) (s : Stack) (ts : List Tree) → are_of g (trees ts) ≡ true → are_of g (trees (gathered (is_of g) s ts).value) ≡ true
gathered_of g [] ts e = e
gathered_of g (begun p ∷ s) ts e = e
gathered_of g (built t ∷ s) ts e = elim (cases_Bool (is_of g t)) [
  | inl y ↦ rw y (gathered_of g s (t ∷ ts) (and_from (is_of g t) (are_of g (trees ts)) y e))
  | inr n ↦ rw n e
]

found_equal : {x y : Left (List Tree)} → Some x ≡ Some y → x.value ≡ y.value
found_equal e = ap (λ (z : Left (List Tree)). z.value) (some_equal e)

moved : (slot : Slot) (rs asked : List Slot) → reverse (slot ∷ rs) ++ asked ≡ reverse rs ++ (slot ∷ asked)
moved slot rs asked = ap (λ (l : List Slot). l ++ asked) (reverse-append (slot ∷ []) rs) ∙ append_assoc (reverse rs) (slot ∷ []) asked

filled : (rs asked : List Slot) (acc ts : List Tree) (s r : Stack) → ask_for_one rs ≡ true → fill asked (trees acc) ≡ true → parts_of rs acc s ≡ Some (left ts r) → fill (reverse rs ++ asked) (trees ts) ≡ true
filled [] asked acc ts s r one e q = ap (λ (l : List Tree). fill asked (trees l)) (sym (found_equal q)) ∙ e
filled (part sort ∷ rs) asked acc ts [] r one e q = not_some q
filled (part sort ∷ rs) asked acc ts (begun p ∷ s) r one e q = not_some q
filled (part sort ∷ rs) asked acc ts (built t ∷ s) r one e q = elim (cases_Bool (fits sort t)) [
  | inl y ↦
      let next : parts_of rs (t ∷ acc) s ≡ Some (left ts r) = rw y at q in
      ap (λ (l : List Slot). fill l (trees ts)) (moved (part sort) rs asked) ∙ filled rs (part sort ∷ asked) (t ∷ acc) ts s r one (and_from (fits sort t) (fill asked (trees acc)) y e) next
  | inr n ↦ not_some (rw n at q)
]
filled (several g ∷ rs) asked acc ts s r one e q = never one

well_filled : (rs : List Slot) (ts : List Tree) (s r : Stack) → ask_well rs ≡ true → parts_of rs [] s ≡ Some (left ts r) → fill (reverse rs) (trees ts) ≡ true
well_filled [] ts s r one q = ap (λ (l : List Slot). fill l (trees ts)) (sym (append-nil (reverse []))) ∙ filled [] [] [] ts s r refl refl q
well_filled (part sort ∷ rs) ts s r one q =
    ap (λ (l : List Slot). fill l (trees ts)) (sym (append-nil (reverse (part sort ∷ rs)))) ∙ filled (part sort ∷ rs) [] [] ts s r one refl q
well_filled (several g ∷ rs) ts s r one q =
    ap (λ (l : List Slot). fill l (trees ts)) (sym (append-nil (reverse (several g ∷ rs))) ∙ moved (several g) rs []) ∙ filled rs (several g ∷ []) (gathered (is_of g) s []).value ts (gathered (is_of g) s []).rest r one (gathered_of g s [] refl) q

pub parts_fill : (form : Form) (asked : List Slot) (ts : List Tree) (s r : Stack) → slots form ≡ asked → popped_parts asked s ≡ Some (left ts r) → fill (slots form) (trees ts) ≡ true
parts_fill form asked ts s r same q =
    let well : ask_well (reverse asked) ≡ true = ap (λ (l : List Slot). ask_well (reverse l)) (sym same) ∙ forms_ask_well form in
    ap (λ (l : List Slot). fill l (trees ts)) (same ∙ sym (reverse-reverse asked)) ∙ well_filled (reverse asked) ts s r well q
