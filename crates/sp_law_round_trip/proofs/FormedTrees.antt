-- What a rule builds of formed trees is formed, unless it is the rule of names or that of paths.
use Rattle.std.specs.Prelude.{if◌then◌else◌, ◌&&◌, not, option_map}
use Rattle.std.proofs.Common.{◌≡◌, List, [], ◌∷◌, ◌++◌, reverse, Bool, true, false, Option, Some, None, refl, sym, subst, ap, ◌∙◌, eq-eqb, eqb-true}
use Rattle.std.proofs.lemmas.List.{reverse-append, append-nil}
use Rattle.std.proofs.lemmas.Bool.{and_parts}
use Rattle.sp_grammar.specs.declared.actions.Action.{Action}
use Rattle.sp_grammar.specs.declared.actions.Action.TheVariants as build
use Rattle.sp_words.specs.declared.words.IntWord.{IntWord}
use Rattle.sp_words.specs.declared.words.AttributeName.{AttributeName}
use Rattle.sp_ast.specs.declared.forms.Form.{Form}
use Rattle.sp_ast.specs.declared.forms.Form.TheVariants as form_is
use Rattle.sp_ast.specs.declared.forms.ExprForm.TheVariants as expr_is
use Rattle.sp_ast.specs.declared.forms.BaseForm.TheVariants as base_is
use Rattle.sp_ast.specs.declared.forms.DeclForm.TheVariants as decl_is
use Rattle.sp_ast.specs.Trees.{Tree, Trees, absent, row, node, none, more, trees, tree, in_row}
use Rattle.sp_ast.specs.declared.groups.Group.{Group}
use Rattle.sp_ast.specs.declared.groups.Group.TheVariants.{Names as names, Paths as paths, Expressions as expressions, Bases as bases, Declarations as declarations}
use Rattle.sp_ast.specs.declared.groups.Sort.{Sort}
use Rattle.sp_ast.specs.declared.groups.Sort.TheVariants.{One as one, Optional as optional, Rows as rows}
use Rattle.sp_ast.specs.declared.groups.Slot.{Slot}
use Rattle.sp_ast.specs.declared.groups.Slot.TheVariants.{Part as part, Several as several}
use Rattle.sp_ast.specs.Groups.{same_group, is_in, is_of, are_of, fits, is_node, group_number, group}
use Rattle.sp_build.specs.Rules.{Rule, begins, leaves_out, takes, gathers, closes, closes_integer, closes_attribute, encloses, joins, wraps, rule}
use Rattle.sp_build.specs.Tokens.{integer_of, attribute_of}
use Rattle.sp_print.specs.Canonical.{row_of}
use Rattle.sp_law_printed_words.specs.Formed.{is_expression, is_path, is_declaration, is_name, IsId, is_regex_base, AreDeclarations, HaveNoRegexBase, first, second, but_base, HasParts, IsFormed, AreFormed}
use Rattle.sp_law_round_trip.specs.Bare.{nowhere}
use Rattle.sp_law_round_trip.specs.Told.{Telling}
use Rattle.sp_law_round_trip.proofs.Held.{started, made, Pile, After, after, after_do, top, front, start, filled, put, put_if, closed, does, form_told}
use Rattle.sp_law_round_trip.proofs.Leaves.{EachForm, of_told}

-- What is known of a tree on a pile. A row may still have bases in it, and a name is no `skip`.
abbrev pub Nearly : Tree → Type 0
Nearly (row ts) = AreFormed ts
Nearly t = IsFormed t

abbrev pub Good : Tree → Type 0
Good t = Nearly t × (is_name t ≡ true → IsId t)

abbrev pub On : Pile → Type 0
On [] = Unit {0}
On (started p ∷ s) = On s
On (made t ∷ s) = Good t × On s

abbrev pub OnSome : Option Pile → Type 0
OnSome None = Unit {0}
OnSome (Some s) = On s

abbrev pub OnAfter : {A : Type 0} → (A → Type 0) → Option (After A) → Type 0
OnAfter Q None = Unit {0}
OnAfter Q (Some x) = Q x.value × On x.rest

-- trees of a group
abbrev pub AllOf : Group → List Tree → Type 0
AllOf g [] = Unit {0}
AllOf g (t ∷ ts) = (is_of g t ≡ true) × Good t × AllOf g ts

-- trees that are the parts that slots want
abbrev pub Fill : List Slot → List Tree → Type 0
Fill [] [] = Unit {0}
Fill [] (t ∷ ts) = ⊥
Fill (part sort ∷ slots) [] = ⊥
Fill (part sort ∷ slots) (t ∷ ts) = (fits sort t ≡ true) × Good t × Fill slots ts
Fill (several g ∷ slots) ts = (us : List Tree) × (vs : List Tree) × (ts ≡ us ++ vs) × AllOf g us × Fill slots vs

-- slots in the other order, before others
abbrev onto : List Slot → List Slot → List Slot
onto [] slots = slots
onto (x ∷ xs) slots = onto xs (x ∷ slots)

onto_append : (xs ys slots : List Slot) → onto (xs ++ ys) slots ≡ onto ys (onto xs slots)
onto_append [] ys slots = refl
onto_append (x ∷ xs) ys slots = onto_append xs ys (x ∷ slots)

onto_reverse : (xs slots : List Slot) → onto (reverse xs) slots ≡ xs ++ slots
onto_reverse [] slots = refl
onto_reverse (x ∷ xs) slots = ap (λ ys. onto ys slots) (reverse-append (x ∷ []) xs) ∙ onto_append (reverse xs) (x ∷ []) slots ∙ ap (λ ys. x ∷ ys) (onto_reverse xs slots)

pub then_on : {A : Type 0} (Q : A → Type 0) (o : Option (After A)) (go : A → Pile → Option Pile) → OnAfter Q o → ((x : A) (s : Pile) → Q x → On s → OnSome (go x s)) → OnSome (after_do o go)
then_on Q None go h by = tt
then_on Q (Some x) go h by = by x.value x.rest h.0 h.1

pub then_after : {A B : Type 0} (Q : A → Type 0) (R : B → Type 0) (o : Option (After A)) (go : A → Pile → Option (After B)) → OnAfter Q o → ((x : A) (s : Pile) → Q x → On s → OnAfter R (go x s)) → OnAfter R (after_do o go)
then_after Q R None go h by = tt
then_after Q R (Some x) go h by = by x.value x.rest h.0 h.1

-- what is taken off a pile
abbrev pub Fitting : Sort → Tree → Type 0
Fitting sort t = (fits sort t ≡ true) × Good t

one_if : (sort : Sort) (b : Bool) (t : Tree) (s : Pile) → fits sort t ≡ b → Good t → On s → OnAfter (Fitting sort) (if b then Some (after t s) else None)
one_if sort true t s e good on = ((e, good), on)
one_if sort false t s e good on = tt

pub top_on : (sort : Sort) (s : Pile) → On s → OnAfter (Fitting sort) (top sort s)
top_on sort [] on = tt
top_on sort (started p ∷ s) on = tt
top_on sort (made t ∷ s) on = one_if sort (fits sort t) t s refl on.0 on.1

pub start_on : (s : Pile) → On s → OnAfter (λ p. Unit {0}) (start s)
start_on [] on = tt
start_on (started p ∷ s) on = (tt, on)
start_on (made t ∷ s) on = tt

abbrev Found : Group → List Tree → After (List Tree) → Type 0
Found g ts x = (us : List Tree) × (x.value ≡ us ++ ts) × AllOf g us × On x.rest

found_if : (g : Group) (ts : List Tree) (b : Bool) (x y : After (List Tree)) → (b ≡ true → Found g ts x) → Found g ts y → Found g ts (if b then x else y)
found_if g ts true x y h k = h refl
found_if g ts false x y h k = k

pub front_on : (g : Group) (s : Pile) (us ts : List Tree) → On s → AllOf g us → Found g ts (front (is_of g) s (us ++ ts))
front_on g [] us ts on all = (us, refl, all, tt)
front_on g (started p ∷ s) us ts on all = (us, refl, all, on)
front_on g (made t ∷ s) us ts on all =
    found_if g ts (is_of g t) (front (is_of g) s ((t ∷ us) ++ ts)) (after (us ++ ts) (made t ∷ s)) (λ e. front_on g s (t ∷ us) ts on.1 (e, on.0, all)) (us, refl, all, on)

filled_on : (xs slots : List Slot) (ts : List Tree) (s : Pile) → On s → Fill slots ts → OnAfter (Fill (onto xs slots)) (filled xs ts s)
filled_on [] slots ts s on fill = (fill, on)
filled_on (part sort ∷ xs) slots ts s on fill =
    then_after (Fitting sort) (Fill (onto xs (part sort ∷ slots))) (top sort s) (λ t rest. filled xs (t ∷ ts) rest) (top_on sort s on) (λ t rest fit on. filled_on xs (part sort ∷ slots) (t ∷ ts) rest on (fit.0, fit.1, fill))
filled_on (several g ∷ xs) slots ts s on fill =
    let found = front_on g s [] ts on tt in
    filled_on xs (several g ∷ slots) (front (is_of g) s ts).value (front (is_of g) s ts).rest found.3 (found.0, ts, found.1, found.2, fill)

parts_on : (slots : List Slot) (s : Pile) → On s → OnAfter (Fill slots) (filled (reverse slots) [] s)
parts_on slots s on = subst (λ xs. OnAfter (Fill xs) (filled (reverse slots) [] s)) (onto_reverse slots [] ∙ append-nil slots) (filled_on (reverse slots) [] [] s on tt)

-- What slots want: the group of the first part, and of the second one.
abbrev group_first : List Slot → Option Group
group_first (part (one g) ∷ slots) = Some g
group_first slots = None

abbrev group_second : List Slot → Option Group
group_second (part sort ∷ slots) = group_first slots
group_second slots = None

abbrev row_second : List Slot → Option Group
row_second (part sort ∷ part (rows g) ∷ slots) = Some g
row_second slots = None

-- no base may stand there; no base may be in a row there
abbrev is_free : Sort → Bool
is_free (one g) = not (same_group g bases)
is_free (optional g) = not (same_group g bases)
is_free (rows g) = not (same_group g bases)

abbrev is_row_free : Sort → Bool
is_row_free (rows g) = not (same_group g bases)
is_row_free sort = true

abbrev are_free : List Slot → Bool
are_free [] = true
are_free (part sort ∷ slots) = is_free sort && are_free slots
are_free (several g ∷ slots) = not (same_group g bases) && are_free slots

abbrev rows_free : List Slot → Bool
rows_free [] = true
rows_free (part sort ∷ slots) = is_row_free sort && rows_free slots
rows_free (several g ∷ slots) = rows_free slots

-- the slots but that of the base behind a : or a (
abbrev but_slot : Form → List Slot → List Slot
but_slot form_is.Field (part a ∷ part b ∷ slots) = part a ∷ slots
but_slot (form_is.Base base_is.Group) (part b ∷ slots) = slots
but_slot form slots = slots

-- the slots want what the alternative wants of its parts
abbrev wants : Form → List Slot → Bool
wants (form_is.Name x) slots = false
wants form_is.Path slots = false
wants (form_is.Expr expr_is.Path) slots = is_in paths (group_first slots)
wants (form_is.Expr expr_is.New) slots = is_in paths (group_first slots)
wants (form_is.Expr expr_is.Member) slots = is_in names (group_second slots)
wants (form_is.Expr expr_is.SetMember) slots = is_in names (group_second slots)
wants (form_is.Expr (expr_is.Unary op)) slots = is_in expressions (group_first slots)
wants (form_is.Expr (expr_is.Binary op)) slots = is_in expressions (group_first slots) && is_in expressions (group_second slots)
wants (form_is.Decl decl_is.On) slots = is_in paths (group_first slots)
wants form_is.Module slots = is_in declarations (row_second slots)
wants form slots = true

abbrev suits : Form → List Slot → Bool
suits form slots = wants form slots && are_free (but_slot form slots) && rows_free slots

is_of_like : (g h : Group) (t : Tree) → same_group g h ≡ true → is_of h t ≡ true → is_of g t ≡ true
is_of_like g h (node form span ts) e f = eq-eqb (group_number g) (group_number (group form)) (eqb-true (group_number g) (group_number h) e ∙ eqb-true (group_number h) (group_number (group form)) f)
is_of_like g h t e f = cc

first_of : (g : Group) (slots : List Slot) (ts : List Tree) → is_in g (group_first slots) ≡ true → Fill slots ts → is_of g (first (trees ts)) ≡ true
first_of g (part (one h) ∷ slots) (t ∷ ts) e fill = is_of_like g h t e fill.0
first_of g (part (one h) ∷ slots) [] e fill = absurd fill
first_of g slots ts e fill = cc

second_of : (g : Group) (slots : List Slot) (ts : List Tree) → is_in g (group_second slots) ≡ true → Fill slots ts → is_of g (second (trees ts)) ≡ true
second_of g (part sort ∷ slots) (t ∷ ts) e fill = first_of g slots ts e fill.2
second_of g (part sort ∷ slots) [] e fill = absurd fill
second_of g (several h ∷ slots) ts e fill = cc
second_of g [] ts e fill = cc

-- a tree of a group is of an alternative of it
path_is : (t : Tree) → is_of paths t ≡ true → is_path t ≡ true
path_is (node form_is.Path span ts) e = refl
path_is t e = cc

expression_is : (t : Tree) → is_of expressions t ≡ true → is_expression t ≡ true
expression_is (node (form_is.Expr form) span ts) e = refl
expression_is t e = cc

pub name_is : (t : Tree) → is_of names t ≡ true → is_name t ≡ true
name_is (node (form_is.Name x) span ts) e = refl
name_is t e = cc

declaration_is : (t : Tree) → is_of declarations t ≡ true → is_declaration t ≡ true
declaration_is (node (form_is.Decl form) span ts) e = refl
declaration_is t e = cc

declarations_are : (g : Group) (ts : Trees) → same_group declarations g ≡ true → are_of g ts ≡ true → AreDeclarations ts
declarations_are g none e all = tt
declarations_are g (more t ts) e all = let h = and_parts (is_of g t) (are_of g ts) all in (declaration_is t (is_of_like declarations g t e h.0), declarations_are g ts e h.1)

row_declared : (g : Group) (t : Tree) → same_group declarations g ≡ true → fits (rows g) t ≡ true → AreDeclarations (row_of t)
row_declared g (row ts) e fit = declarations_are g ts e fit
row_declared g (node form span ts) e fit = tt
row_declared g absent e fit = tt

second_declared : (slots : List Slot) (ts : List Tree) → is_in declarations (row_second slots) ≡ true → Fill slots ts → AreDeclarations (row_of (second (trees ts)))
second_declared (part sort ∷ part (rows g) ∷ slots) (t ∷ u ∷ ts) e fill = row_declared g u e fill.2.0
second_declared (part sort ∷ part (rows g) ∷ slots) (t ∷ []) e fill = tt
second_declared (part sort ∷ part (rows g) ∷ slots) [] e fill = tt
second_declared slots ts e fill = cc

good_second : (slots : List Slot) (ts : List Tree) → is_in names (group_second slots) ≡ true → Fill slots ts → IsId (second (trees ts))
good_second (part sort ∷ part (one g) ∷ slots) (t ∷ u ∷ ts) e fill = fill.2.1.1 (name_is u (is_of_like names g u e fill.2.0))
good_second (part sort ∷ part (one g) ∷ slots) (t ∷ []) e fill = absurd fill.2
good_second (part sort ∷ part (one g) ∷ slots) [] e fill = absurd fill
good_second slots ts e fill = cc

wanted : (form : Form) (slots : List Slot) (ts : List Tree) → wants form slots ≡ true → Fill slots ts → HasParts form (trees ts)
wanted form_is.Path slots ts e fill = cc
wanted (form_is.Expr expr_is.Path) slots ts e fill = path_is (first (trees ts)) (first_of paths slots ts e fill)
wanted (form_is.Expr expr_is.New) slots ts e fill = path_is (first (trees ts)) (first_of paths slots ts e fill)
wanted (form_is.Expr expr_is.Member) slots ts e fill = name_is (second (trees ts)) (second_of names slots ts e fill)
wanted (form_is.Expr expr_is.SetMember) slots ts e fill = good_second slots ts e fill
wanted (form_is.Expr (expr_is.Unary op)) slots ts e fill = expression_is (first (trees ts)) (first_of expressions slots ts e fill)
wanted (form_is.Expr (expr_is.Binary op)) slots ts e fill =
    let h = and_parts (is_in expressions (group_first slots)) (is_in expressions (group_second slots)) e in
    (expression_is (first (trees ts)) (first_of expressions slots ts h.0 fill), expression_is (second (trees ts)) (second_of expressions slots ts h.1 fill))
wanted (form_is.Decl decl_is.On) slots ts e fill = path_is (first (trees ts)) (first_of paths slots ts e fill)
wanted form_is.Module slots ts e fill = second_declared slots ts e fill
wanted form slots ts e fill = tt

-- no regular expression as a base is among the parts
pub free_of : (g : Group) (t : Tree) → not (same_group g bases) ≡ true → is_of g t ≡ true → is_regex_base t ≡ false
free_of g (node (form_is.Base (base_is.Regex x)) span ts) e f = cc
free_of g t e f = refl

free_in : (sort : Sort) (t : Tree) → is_free sort ≡ true → fits sort t ≡ true → is_regex_base t ≡ false
free_in (one g) t e f = free_of g t e f
free_in (optional g) (node form span ts) e f = free_of g (node form span ts) e f
free_in (optional g) (row ts) e f = refl
free_in (optional g) absent e f = refl
free_in (rows g) (node form span ts) e f = cc
free_in (rows g) (row ts) e f = refl
free_in (rows g) absent e f = refl

free_row : (g : Group) (ts : Trees) → not (same_group g bases) ≡ true → are_of g ts ≡ true → HaveNoRegexBase ts
free_row g none e f = tt
free_row g (more t ts) e f = let h = and_parts (is_of g t) (are_of g ts) f in (free_of g t e h.0, free_row g ts e h.1)

free_all : (g : Group) (us vs : List Tree) → not (same_group g bases) ≡ true → AllOf g us → HaveNoRegexBase (trees vs) → HaveNoRegexBase (trees (us ++ vs))
free_all g [] vs e all rest = rest
free_all g (u ∷ us) vs e all rest = (free_of g u e all.0, free_all g us vs e all.2 rest)

pub free_parts : (slots : List Slot) (ts : List Tree) → are_free slots ≡ true → Fill slots ts → HaveNoRegexBase (trees ts)
free_parts [] [] e fill = tt
free_parts [] (t ∷ ts) e fill = absurd fill
free_parts (part sort ∷ slots) [] e fill = absurd fill
free_parts (part sort ∷ slots) (t ∷ ts) e fill = let h = and_parts (is_free sort) (are_free slots) e in (free_in sort t h.0 fill.0, free_parts slots ts h.1 fill.2)
free_parts (several g ∷ slots) ts e fill =
    let h = and_parts (not (same_group g bases)) (are_free slots) e in
    subst (λ us. HaveNoRegexBase (trees us)) (sym fill.2) (free_all g fill.0 fill.1 h.0 fill.3 (free_parts slots fill.1 h.1 fill.4))

but_free : (form : Form) (ts : Trees) → HaveNoRegexBase ts → HaveNoRegexBase (but_base form ts)
but_free form_is.Field (more a (more b ts)) free = (free.0, free.1.1)
but_free (form_is.Base base_is.Group) (more b ts) free = free.1
but_free form ts free = free

free_but : (form : Form) (slots : List Slot) (ts : List Tree) → are_free (but_slot form slots) ≡ true → Fill slots ts → HaveNoRegexBase (but_base form (trees ts))
free_but form_is.Field (part a ∷ part b ∷ slots) (t ∷ u ∷ ts) e fill = let h = and_parts (is_free a) (are_free slots) e in (free_in a t h.0 fill.0, free_parts slots ts h.1 fill.2.2)
free_but (form_is.Base base_is.Group) (part b ∷ slots) (u ∷ ts) e fill = free_parts slots ts e fill.2
free_but form_is.Field (part a ∷ part b ∷ slots) (t ∷ []) e fill = absurd fill.2
free_but form_is.Field (part a ∷ part b ∷ slots) [] e fill = absurd fill
free_but (form_is.Base base_is.Group) (part b ∷ slots) [] e fill = absurd fill
free_but form slots ts e fill = but_free form (trees ts) (free_parts slots ts e fill)

-- all parts are formed
formed_in : (sort : Sort) (t : Tree) → is_row_free sort ≡ true → fits sort t ≡ true → Nearly t → IsFormed t
formed_in (one g) (row ts) e f near = cc
formed_in (optional g) (row ts) e f near = cc
formed_in (rows g) (row ts) e f near = (free_row g ts e f, near)
formed_in sort (node form span ts) e f near = near
formed_in sort absent e f near = near

pub formed_of : (g : Group) (t : Tree) → is_of g t ≡ true → Nearly t → IsFormed t
formed_of g (row ts) f near = cc
formed_of g (node form span ts) f near = near
formed_of g absent f near = near

formed_all : (g : Group) (us vs : List Tree) → AllOf g us → AreFormed (trees vs) → AreFormed (trees (us ++ vs))
formed_all g [] vs all rest = rest
formed_all g (u ∷ us) vs all rest = (formed_of g u all.0 all.1.0, formed_all g us vs all.2 rest)

pub formed_parts : (slots : List Slot) (ts : List Tree) → rows_free slots ≡ true → Fill slots ts → AreFormed (trees ts)
formed_parts [] [] e fill = tt
formed_parts [] (t ∷ ts) e fill = absurd fill
formed_parts (part sort ∷ slots) [] e fill = absurd fill
formed_parts (part sort ∷ slots) (t ∷ ts) e fill = let h = and_parts (is_row_free sort) (rows_free slots) e in (formed_in sort t h.0 fill.0 fill.1.0, formed_parts slots ts h.1 fill.2)
formed_parts (several g ∷ slots) ts e fill = subst (λ us. AreFormed (trees us)) (sym fill.2) (formed_all g fill.0 fill.1 fill.3 (formed_parts slots fill.1 e fill.4))

no_name : (form : Form) (slots : List Slot) (ts : List Tree) → wants form slots ≡ true → is_name (tree form nowhere ts) ≡ true → IsId (tree form nowhere ts)
no_name (form_is.Name x) slots ts e f = cc
no_name form slots ts e f = cc

good_tree : (form : Form) (slots : List Slot) (ts : List Tree) → suits form slots ≡ true → Fill slots ts → Good (tree form nowhere ts)
good_tree form slots ts e fill =
    let g = and_parts (wants form slots && are_free (but_slot form slots)) (rows_free slots) e in
    let h = and_parts (wants form slots) (are_free (but_slot form slots)) g.0 in
    ((wanted form slots ts h.0 fill, free_but form slots ts h.1 fill, formed_parts slots ts g.1 fill), no_name form slots ts h.0)

-- what rules build is what its alternative wants
abbrev pub RuleSuits : Rule → Type 0
RuleSuits (takes l) = EachForm (λ form. suits form [] ≡ true) l
RuleSuits (closes slots form) = suits form slots ≡ true
RuleSuits (closes_integer slots form) = (w : IntWord) → suits (form w) slots ≡ true
RuleSuits (closes_attribute slots form) = (a : AttributeName) → suits (form a) slots ≡ true
RuleSuits (joins slots form) = suits form slots ≡ true
RuleSuits (wraps g form) = suits form (part (one g) ∷ []) ≡ true
RuleSuits r = Unit {0}

-- all rules but those of names and paths
abbrev ActionSuits : Action → Type 0
ActionSuits build.Name = Unit {0}
ActionSuits build.Path = Unit {0}
ActionSuits m = RuleSuits (rule m)

pub action_suits : (m : Action) → ActionSuits m
action_suits build.Begin = tt
action_suits build.Absent = tt
action_suits build.Row = tt
action_suits build.Paren = tt
action_suits build.Name = tt
action_suits build.Path = tt
action_suits build.String = λ x. refl
action_suits build.Number = λ x. refl
action_suits build.HookName = λ x. refl
action_suits build.IntType = λ x. refl
action_suits build.NameTarget = λ x. refl
action_suits build.HookTarget = λ x. refl
action_suits build.BytesBase = λ x. refl
action_suits build.RegexBase = λ x. refl
action_suits build.NumberBase = λ x. refl
action_suits build.IntBase = λ x. refl
action_suits build.Attribute = λ x. refl
action_suits build.NumberExpr = λ x. refl
action_suits build.StringExpr = λ x. refl
action_suits build.BytesExpr = λ x. refl
action_suits build.RegexExpr = λ x. refl
action_suits build.TypedNumberExpr = λ x. refl
action_suits m = refl

-- what a rule does on a pile of such trees
leaf_on : (o : Option Form) (s : Pile) → ((form : Form) → o ≡ Some form → suits form [] ≡ true) → On s → OnSome (put_if o s)
leaf_on None s suit on = tt
leaf_on (Some form) s suit on = (good_tree form [] [] (suit form refl) tt, on)

some_on : {A : Type 0} (o : Option A) (form : A → Form) (slots : List Slot) (ts : List Tree) (s : Pile) → ((x : A) → suits (form x) slots ≡ true) → Fill slots ts → On s
    → OnSome (after_do (option_map (λ f. after f s) (option_map form o)) (λ f under. put (tree f nowhere ts) under))
some_on None form slots ts s suit fill on = tt
some_on (Some x) form slots ts s suit fill on = (good_tree (form x) slots ts (suit x) fill, on)

closed_on : (slots : List Slot) (form : Telling → Option Form) (s : Pile) → On s
    → ((p : Telling) (ts : List Tree) (below : Pile) → Fill slots ts → On below → OnSome (after_do (option_map (λ f. after f below) (form p)) (λ f under. put (tree f nowhere ts) under)))
    → OnSome (closed slots form s)
closed_on slots form s on by =
    then_on (Fill slots) (filled (reverse slots) [] s) (λ ts rest. after_do (start rest) (λ p below. after_do (option_map (λ f. after f below) (form p)) (λ f under. put (tree f nowhere ts) under))) (parts_on slots s on)
    (λ ts rest fill on. then_on (λ p. Unit {0}) (start rest) (λ p below. after_do (option_map (λ f. after f below) (form p)) (λ f under. put (tree f nowhere ts) under)) (start_on rest on) (λ p below any on. by p ts below fill on))

nodes_if : (b : Bool) (x y : After (List Tree)) → (b ≡ true → AreFormed (trees x.value) × On x.rest) → AreFormed (trees y.value) × On y.rest → AreFormed (trees (if b then x else y).value) × On (if b then x else y).rest
nodes_if true x y h k = h refl
nodes_if false x y h k = k

node_formed : (t : Tree) → is_node t ≡ true → Nearly t → IsFormed t
node_formed (node form span ts) e near = near
node_formed (row ts) e near = cc
node_formed absent e near = cc

nodes_on : (s : Pile) (ts : List Tree) → On s → AreFormed (trees ts) → AreFormed (trees (front is_node s ts).value) × On (front is_node s ts).rest
nodes_on [] ts on formed = (formed, tt)
nodes_on (started p ∷ s) ts on formed = (formed, on)
nodes_on (made t ∷ s) ts on formed = nodes_if (is_node t) (front is_node s (t ∷ ts)) (after ts (made t ∷ s)) (λ e. nodes_on s (t ∷ ts) on.1 (node_formed t e on.0.0, formed)) (formed, on)

pub does_on : (r : Rule) → RuleSuits r → (t : Telling) (s : Pile) → On s → OnSome (does r t s)
does_on begins suit t s on = on
does_on leaves_out suit t s on = ((tt, λ e. cc), on)
does_on (takes l) suit t s on = leaf_on (form_told l t.kind t.word) s (λ form told. of_told (λ its. suits its [] ≡ true) l t.kind t.word form suit told) on
does_on gathers suit t s on =
    let found = front is_node s [] in
    let all = nodes_on s [] on tt in
    then_on (λ p. Unit {0}) (start found.rest) (λ p below. put (in_row found.value) below) (start_on found.rest all.1) (λ p below any on. ((all.0, λ e. cc), on))
does_on (closes slots form) suit t s on = closed_on slots (λ p. Some form) s on (λ p ts below fill on. (good_tree form slots ts suit fill, on))
does_on (closes_integer slots form) suit t s on = closed_on slots (λ p. option_map form (integer_of p.kind)) s on (λ p ts below fill on. some_on (integer_of p.kind) form slots ts below suit fill on)
does_on (closes_attribute slots form) suit t s on = closed_on slots (λ p. option_map form (attribute_of p.kind)) s on (λ p ts below fill on. some_on (attribute_of p.kind) form slots ts below suit fill on)
does_on encloses suit t s on =
    then_on (Fitting (one expressions)) (top (one expressions) s) (λ u rest. after_do (start rest) (λ p below. put u below)) (top_on (one expressions) s on)
    (λ u rest fit on. then_on (λ p. Unit {0}) (start rest) (λ p below. put u below) (start_on rest on) (λ p below any on. (fit.1, on)))
does_on (joins slots form) suit t s on =
    then_on (Fill slots) (filled (reverse slots) [] s) (λ ts rest. put (tree form nowhere ts) rest) (parts_on slots s on) (λ ts rest fill on. (good_tree form slots ts suit fill, on))
does_on (wraps g form) suit t s on =
    then_on (Fitting (one g)) (top (one g) s) (λ u rest. put (tree form nowhere (u ∷ [])) rest) (top_on (one g) s on) (λ u rest fit on. (good_tree form (part (one g) ∷ []) (u ∷ []) suit (fit.0, fit.1, tt), on))
