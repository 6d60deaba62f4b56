-- What is noted of one more tree, and of one more module.
use Rattle.std.proofs.Common.{ℕ, ◌≡◌, ◌≤◌, ◌<◌, ◌+◌, refl, sym, ap, ◌∙◌, arith, List, ◌∷◌, ◌++◌, length, drop, get_or, Option, Global, Vec}
use Rattle.std.proofs.lemmas.List.{at_drop_more}
use Rattle.sp_base.specs.declared.places.Diag.{Diag}
use Rattle.sp_base.specs.declared.places.Span.{Span}
use Rattle.sp_ast.specs.Trees.{Tree, trees, trees_size, tree}
use Rattle.sp_ast.specs.declared.forms.Form.{Form}
use Rattle.sp_typed_units.specs.declared.items.Arm.{Arm}
use Rattle.sp_typed_units.specs.declared.declarations.Unit.{Unit}
use Rattle.sp_typed_units.specs.Parts.{Part, parts, arms}
use Rattle.sp_unbuilt.specs.First.{noted}
use Rattle.sp_unbuilt.specs.Next.{saturated}
use Rattle.sp_unbuilt.specs.Constructs.{tests_at}
use Rattle.sp_unbuilt.specs.Fields.{kinds_among, kinds_in_arms, kinds_in_unit, kinds_in_units}
use Rattle.sp_unbuilt.specs.Unbuilt.{Texts, tests_in, tests_among, tests_from}
use Rattle.sp_unbuilt.proofs.Noting.{noted_more, row_of_tests}

pub one_tree : (text : List ℕ) (m : ℕ) (t : Tree) (ts left : List Tree) (old new r : Option Diag) → left ≡ t ∷ ts → new ≡ noted old (tests_in text m t) → noted old (tests_among text m (trees left)) ≡ r → noted new (tests_among text m (trees ts)) ≡ r
one_tree text m t ts left old new r e n k =
    ap (λ o. noted o (tests_among text m (trees ts))) n
    ∙ sym (noted_more old (tests_in text m t) (tests_among text m (trees ts)))
    ∙ ap (λ l. noted old (tests_among text m (trees l))) (sym e)
    ∙ k

pub whole_tree : (text : List ℕ) (m : ℕ) (form : Form) (span : Span) (ts : List Tree) (t : Tree) (old here : Option Diag) → t ≡ tree form span ts → here ≡ noted old (tests_at text m t)
    → noted here (tests_among text m (trees ts)) ≡ noted old (tests_in text m t)
whole_tree text m form span ts t old here e n =
    ap (λ o. noted o (tests_among text m (trees ts))) (n ∙ ap (λ u. noted old (tests_at text m u)) e)
    ∙ sym (noted_more old (tests_at text m (tree form span ts)) (tests_among text m (trees ts)))
    ∙ ap (λ u. noted old (tests_in text m u)) (sym e)

pub less_behind : (t : Tree) (ts left : List Tree) (n : ℕ) → left ≡ t ∷ ts → trees_size (trees left) ≤ n → trees_size (trees ts) ≤ n
less_behind t ts left n e le = (let s = ap (λ l. trees_size (trees l)) e in omega (arith, s, le))

pub one_module : (texts : Texts) (list : List Tree) (m n : ℕ) (x r : Tree) (text : List ℕ) (o p q : Option Diag) → m < length list → x ≡ get_or list m x → r ≡ x → n ≡ saturated m → text ≡ texts n → p ≡ noted o (tests_in text n r)
    → noted o (tests_from texts m (drop m list)) ≡ q → noted p (tests_from texts (m + 1) (drop (m + 1) list)) ≡ q
one_module texts list m n x r text o p q lt is same number told h before =
    let rest = tests_from texts (m + 1) (drop (m + 1) list) in
    let own : p ≡ noted o (tests_in (texts (saturated m)) (saturated m) x) =
    h ∙ ap (λ (u : List ℕ). noted o (tests_in u n r)) told ∙ ap (λ (k : ℕ). noted o (tests_in (texts k) k r)) number ∙ ap (λ (t : Tree). noted o (tests_in (texts (saturated m)) (saturated m) t)) same in
    let row : tests_from texts m (drop m list) ≡ tests_in (texts (saturated m)) (saturated m) x ++ rest =
    at_drop_more (tests_from texts m) list m x lt ∙ ap (λ (t : Tree). tests_from texts m (t ∷ drop (m + 1) list)) (sym is) in
    ap (λ (z : Option Diag). noted z rest) own ∙ sym (noted_more o (tests_in (texts (saturated m)) (saturated m) x) rest) ∙ sym (ap (noted o) row) ∙ before

pub one_arm : (m : ℕ) (rows : List (Arm × Vec Part Global)) (i : ℕ) (a : Arm × Vec Part Global) (ps : List Part) (o p q : Option Diag) → i < length rows → a ≡ get_or rows i a → ps ≡ a.1.items → p ≡ noted o (kinds_among m (parts ps))
    → noted o (kinds_in_arms m (arms (drop i rows))) ≡ q → noted p (kinds_in_arms m (arms (drop (i + 1) rows))) ≡ q
one_arm m rows i a ps o p q lt is same h before =
    row_of_tests (λ l. kinds_in_arms m (arms l)) (λ x. kinds_among m (parts x.1.items)) (λ x xs. refl) rows i a o p q lt is
    (h ∙ ap (λ l. noted o (kinds_among m (parts l))) same)
    before

pub one_unit : (us : List Unit) (i : ℕ) (u : Unit) (ps : List Part) (o p q : Option Diag) → i < length us → u ≡ get_or us i u → ps ≡ u.parts → p ≡ noted o (kinds_among u.«module» (parts ps))
    → noted o (kinds_in_units (drop i us)) ≡ q → noted p (kinds_in_units (drop (i + 1) us)) ≡ q
one_unit us i u ps o p q lt is same h before =
    row_of_tests kinds_in_units kinds_in_unit (λ x xs. refl) us i u o p q lt is
    (h ∙ ap (λ l. noted o (kinds_among u.«module» (parts l))) same)
    before
