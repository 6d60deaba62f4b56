-- The words of a formed module stand where they may.
use Rattle.std.proofs.Common.{◌≡◌, ℕ, ◌+◌, List, [], ◌∷◌, Bool, true, false, ◌&&◌, ◌||◌, not, cond, nat_lt, Option, Some, None, inl, inr, refl, sym, subst, ap, rules, tests}
use Rattle.std.specs.List.{AllByRecursion}
use Rattle.sp_lex.specs.Elements.{ends_operand}
use Rattle.sp_lex.specs.declared.kinds.TokenKind.{TokenKind}
use Rattle.sp_lex.specs.declared.kinds.TokenKind.TheVariants as token
use Rattle.sp_words.specs.declared.punctuation.Punctuation.TheVariants as punctuation
use Rattle.sp_lex.specs.Signs.{word_kind}
use Rattle.sp_literals.specs.Values.{IsName}
use Rattle.sp_ast.specs.Trees.{Tree, Trees, node, absent, row, none, more}
use Rattle.sp_ast.specs.declared.forms.Form.{Form}
use Rattle.sp_ast.specs.declared.forms.Form.TheVariants as form_is
use Rattle.sp_ast.specs.declared.forms.ExprForm.{ExprForm}
use Rattle.sp_ast.specs.declared.forms.ExprForm.TheVariants as expr_is
use Rattle.sp_ast.specs.declared.forms.BaseForm.TheVariants as base_is
use Rattle.sp_ast.specs.declared.forms.DeclForm.TheVariants as decl_is
use Rattle.sp_print.specs.declared.layouts.Separator.TheVariants as separator
use Rattle.sp_print.specs.declared.layouts.PartLayout.TheVariants as layout_is
use Rattle.sp_print.specs.declared.layouts.Piece.TheVariants as piece
use Rattle.sp_print.specs.Layouts.{layout, between}
use Rattle.sp_print.specs.Own.{own_words}
use Rattle.sp_print.specs.Canonical.{Writing, part_of, nothing, these, chain, kinds, divides, is_absent, is_skip, is_regex, level_of, divides_behind, needs_parentheses, least, is_dividend, anywhere, followed, listed, framed, part, laid, spelled, parts_of, row_of, declarations}
use Rattle.sp_law_printed_words.specs.Sound.{IsSound, may_follow, ArePlaced}
use Rattle.sp_law_printed_words.specs.Modules.{lines_of, module_lines}
use Rattle.sp_law_printed_words.specs.Trees.{TellsOnly, TellOnly}
use Rattle.sp_law_printed_words.specs.Formed.{is_expression, is_path, is_declaration, is_name, IsId, is_regex_base, AreIds, AreDeclarations, HaveNoRegexBase, first, second, but_base, HasParts, IsFormed, AreFormed, IsFormedModule}
use Rattle.std.specs.Prelude.{codes, bytes_eq, unwrap_or}
use Rattle.std.specs.List.{find}
use Rattle.sp_lex.specs.Signs.{is_spelled}
use Rattle.sp_lex.specs.Spellings.{reserved_words}
use Rattle.sp_lex.specs.declared.kinds.Absent.TheVariants as absent_word
use Rattle.sp_words.specs.declared.keywords.Keyword.TheVariants as keyword
use Rattle.sp_base.specs.declared.places.Span.{Span}
use Rattle.sp_words.specs.declared.operators.BinaryOp.{BinaryOp}
use Rattle.sp_words.specs.declared.operators.BinaryOp.TheVariants as binary
use Rattle.sp_words.specs.declared.operators.UnaryOp.{UnaryOp}
use Rattle.sp_words.specs.Operators.{level}
use Rattle.sp_ast.specs.declared.forms.DeclForm.{DeclForm}
use Rattle.sp_print.specs.Own.{binary_token}
use Rattle.sp_print.specs.declared.layouts.Place.{Place}
use Rattle.sp_print.specs.declared.layouts.Place.TheVariants as place
use Rattle.sp_print.specs.declared.layouts.Frame.TheVariants as frame
use Rattle.sp_law_printed_words.proofs.Following.{Agree, Goes, Any, Ends, Free, chain_goes, plain_kind, some_may, nothing_goes, kind_goes, both, ends, Before, After, IsReady, AreReady, neither, any_place, anywhere_goes, base_goes, listed_goes, by_test, framed_goes, arguments_goes, plain_pieces, part_goes, laid_goes, ends_from, laid_ends, plain_words, name_plain, own_goes, place_goes}

-- a name that is read as no ID is `skip`
found_by : {A : Type 0} (p : A → Bool) (passes : Bool) (x y : A) (rest : Option A) → p x ≡ passes → (rest ≡ Some y → p y ≡ true) → cond passes (Some x) rest ≡ Some y → p y ≡ true
found_by p true x y rest e later is = cc
found_by p false x y rest e later is = later is

found_passes : {A : Type 0} (p : A → Bool) (xs : List A) (y : A) → find p xs ≡ Some y → p y ≡ true
found_passes p [] y is = cc
found_passes p (x ∷ xs) y is = found_by p (p x) x y (find p xs) refl (found_passes p xs y) is

found_skip : (o : Option TokenKind) → unwrap_or o token.Id ≡ token.Absent absent_word.Skip → o ≡ Some (token.Absent absent_word.Skip)
found_skip None is = cc
found_skip (Some kind) is = ap Some is

is_skip_text : (x : List ℕ) → word_kind x ≡ token.Absent absent_word.Skip → bytes_eq x (codes "skip") ≡ true
unfolding word_kind
is_skip_text x is = found_passes (is_spelled x) reserved_words (token.Absent absent_word.Skip) (found_skip (find (is_spelled x) reserved_words) is)

not_skip : (x : List ℕ) → IsName (word_kind x) → not (bytes_eq x (codes "skip")) ≡ true → word_kind x ≡ token.Id
not_skip x (inl e) other = e
not_skip x (inr e) other = let skip = is_skip_text x e in cc

-- names
id_goes : (P : Option TokenKind → Type 0) (t : Tree) → IsId t → Goes P (anywhere (part_of t)) Ends
id_goes P (node (form_is.Name x) span ts) id k r agree p = ((some_may k r (word_kind x) agree (ap plain_kind id), tt), ap ends_operand id)
id_goes P t id k r agree p = absurd id

name_goes : (P : Option TokenKind → Type 0) (t : Tree) → is_name t ≡ true → TellsOnly IsSound t → Goes P (anywhere (part_of t)) (λ r. not (is_skip t) ≡ true → Ends r)
name_goes P (node (form_is.Name x) span ts) is tells k r agree p =
    ((some_may k r (word_kind x) agree (name_plain (word_kind x) tells.0.0.2), tt), λ other. ap ends_operand (not_skip x tells.0.0.2 other))
name_goes P t is tells k r agree p = cc

-- a :: may stand behind what ends an operand
scope_may : (r : Option TokenKind) → Ends r → may_follow r (token.Punctuation punctuation.ColonColon) ≡ true
scope_may (Some (token.Punctuation punctuation.Colon)) end = cc
scope_may r end = refl

scope_goes : Goes Ends (kinds (token.Punctuation punctuation.ColonColon ∷ [])) Any
scope_goes k r agree end = ((scope_may r end, tt), tt)

followed_ids : (ts : Trees) → AreIds ts → Goes Ends (followed separator.Scope (parts_of ts)) Ends
followed_ids none ids = nothing_goes Ends
followed_ids (more t ts) ids =
    chain_goes Ends Any Ends (kinds (between separator.Scope)) (chain (anywhere (part_of t)) (followed separator.Scope (parts_of ts))) scope_goes
    (chain_goes Any Ends Ends (anywhere (part_of t)) (followed separator.Scope (parts_of ts)) (id_goes Any t ids.0) (followed_ids ts ids.1))

listed_ids : (ts : Trees) → IsId (first ts) → AreIds ts → Goes Any (listed separator.Scope (parts_of ts)) Ends
listed_ids none one ids = absurd one
listed_ids (more t ts) one ids = chain_goes Any Ends Ends (anywhere (part_of t)) (followed separator.Scope (parts_of ts)) (id_goes Any t ids.0) (followed_ids ts ids.1)

path_ends : (t : Tree) → is_path t ≡ true → ends t ≡ true
path_ends (node form_is.Path span ts) is = refl
path_ends t is = cc

-- a part behind which the last word ends an operand, or the part stands in parentheses
ending_goes : (form : Form) (at : Place) (t : Tree) → IsReady t → is_regex_base t ≡ false → ((k : Option TokenKind) → needs_parentheses (least form at) (is_dividend form at) t k ≡ false → ends t ≡ true) → Goes Any (part form (layout_is.One at) (part_of t)) Ends
ending_goes form at t ready base end =
    place_goes (least form at) (is_dividend form at) t Any Ends ready (λ k r agree p bare. any_place (least form at) (is_dividend form at) t base k r agree bare) (λ k bare s after. after (end k bare)) refl

path_goes : (form : Form) (t : Tree) → is_path t ≡ true → IsReady t → is_regex_base t ≡ false → Goes Any (part form (layout_is.One place.Anywhere) (part_of t)) Ends
path_goes form t is ready base = ending_goes form place.Anywhere t ready base (λ k bare. path_ends t is)

-- an operand that needs no parentheses
bound_ends : (t : Tree) (tight : ℕ) → nat_lt 1 tight ≡ true → is_expression t ≡ true → nat_lt (level_of t) tight ≡ false → divides_behind t ≡ true → ends t ≡ true
bound_ends (node (form_is.Expr expr_is.Choice) span ts) tight least is bound divides = cc
bound_ends (node (form_is.Expr form) span ts) tight least is bound divides = divides
bound_ends t tight least is bound divides = cc

one_of : (a b : Bool) → (a || b) ≡ true → a ≡ false → b ≡ true
one_of true b e f = cc
one_of false b e f = e

true_of : (b : Bool) → (true && not b) ≡ false → b ≡ true
true_of true e = refl
true_of false e = cc

-- an operand that stands last
operand_goes : (form : Form) (at : Place) (t : Tree) → nat_lt 1 (least form at) ≡ true → is_dividend form at ≡ false → is_expression t ≡ true → IsReady t → is_regex_base t ≡ false
    → Goes Any (part form (layout_is.One at) (part_of t)) (λ r. (nat_lt (level_of t) (least form at) || divides_behind t) ≡ true → Ends r)
operand_goes form at t tight dividend is ready base =
    place_goes (least form at) (is_dividend form at) t Any (λ r. (nat_lt (level_of t) (least form at) || divides_behind t) ≡ true → Ends r) ready
    (λ k r agree p bare. any_place (least form at) (is_dividend form at) t base k r agree bare)
    (λ k bare s after e.
    let bound = (neither (nat_lt (level_of t) (least form at)) (is_dividend form at && not (divides_behind t)) (is_regex t && divides k) bare).0 in
    after (bound_ends t (least form at) tight is bound (one_of (nat_lt (level_of t) (least form at)) (divides_behind t) e bound)))
    (λ e. refl)

-- what stands before a / as its operand
dividend_goes : (t : Tree) → is_expression t ≡ true → IsReady t → is_regex_base t ≡ false → Goes Any (part (form_is.Expr (expr_is.Binary binary.Divide)) (layout_is.One place.Left) (part_of t)) Ends
dividend_goes t is ready base =
    ending_goes (form_is.Expr (expr_is.Binary binary.Divide)) place.Left t ready base
    (λ k bare. let h = neither (nat_lt (level_of t) 12) (true && not (divides_behind t)) (is_regex t && divides k) bare in bound_ends t 12 refl is h.0 (true_of (divides_behind t) h.1))

-- where a / and a regular expression may stand
slash_may : (k r : Option TokenKind) → Agree k r → Ends r → may_follow r (token.Punctuation punctuation.Slash) ≡ true
slash_may (Some k) (Some r) agree end = end
slash_may None r agree end = absurd agree
slash_may (Some k) None agree end = absurd agree

regex_may : (k r : Option TokenKind) → Agree k r → Free r → may_follow r token.Regex ≡ true
regex_may (Some k) (Some r) agree free = ap not free
regex_may None r agree free = absurd agree
regex_may (Some k) None agree free = absurd agree

-- the alternatives of which some word may not stand behind all others
abbrev is_special : Form → Bool
is_special form_is.Path = true
is_special (form_is.Decl decl_is.On) = true
is_special (form_is.Expr (expr_is.Binary binary.Divide)) = true
is_special (form_is.Expr (expr_is.Regex x)) = true
is_special (form_is.Base (base_is.Regex x)) = true
is_special form = false

plain_forms : (form : Form) → (is_special form || (plain_pieces (layout form) && plain_words (own_words form))) ≡ true
plain_forms form = search (rules, tests)

-- what is wanted of the parts of a tree
record Parts (form : Form) (ts : Trees) : Type 0 where
  own : AllByRecursion IsSound (own_words form)
  tells : TellOnly IsSound ts
  wanted : HasParts form ts
  bases : HaveNoRegexBase (but_base form ts)
  ready : AreReady ts

abbrev Stands : Form → Trees → Type 0
Stands form ts = (span : Span) → Goes (Before (node form span ts)) (spelled (node form span ts)) (After (node form span ts))

-- an alternative with no such word
plain_stands : (form : Form) (ts : Trees) → (plain_pieces (layout form) && plain_words (own_words form)) ≡ true → HaveNoRegexBase ts → Parts form ts → Goes Any (laid form (layout form) (parts_of ts)) Any
plain_stands form ts plain bases p =
    let h = both (plain_pieces (layout form)) (plain_words (own_words form)) plain in
    laid_goes form (layout form) ts h.0 (own_goes form h.1 p.own) p.ready bases

unspecial : (form : Form) (ts : Trees) → is_special form ≡ false → HaveNoRegexBase ts → Parts form ts → Goes Any (laid form (layout form) (parts_of ts)) Any
unspecial form ts special bases p = plain_stands form ts (one_of (is_special form) (plain_pieces (layout form) && plain_words (own_words form)) (plain_forms form) special) bases p

-- an alternative of which nothing is said of the last word
silent_stands : (form : Form) (ts : Trees) → ((span : Span) → ends (node form span ts) ≡ false) → Goes Any (laid form (layout form) (parts_of ts)) Any → Stands form ts
silent_stands form ts silent go span k r agree before = let none_said = silent span in ((go k r agree tt).0, λ end. cc)

any_stands : (form : Form) (ts : Trees) → is_special form ≡ false → ((span : Span) → ends (node form span ts) ≡ false) → HaveNoRegexBase ts → Parts form ts → Stands form ts
any_stands form ts special silent bases p = silent_stands form ts silent (unspecial form ts special bases p)

-- one that ends with a word that ends an operand
closed_stands : (form : Form) (ts : Trees) → is_special form ≡ false → ends_from false (layout form) ≡ true → HaveNoRegexBase ts → Parts form ts → Stands form ts
closed_stands form ts special last bases p span k r agree before = ((unspecial form ts special bases p k r agree tt).0, λ end. laid_ends form (layout form) (parts_of ts) false last k r (λ f. cc))

-- paths, and what ends with a path or a name
path_stands : (ts : Trees) → Parts form_is.Path ts → Stands form_is.Path ts
path_stands ts p span k r agree before =
    let h = chain_goes Any Ends Ends (listed separator.Scope (parts_of ts)) nothing (listed_ids ts p.wanted.0 p.wanted.1) (nothing_goes Ends) k r agree tt in (h.0, λ end. h.1)

path_expr_stands : (ts : Trees) → Parts (form_is.Expr expr_is.Path) ts → Stands (form_is.Expr expr_is.Path) ts
path_expr_stands none p span k r agree before = let is : false ≡ true = p.wanted in absurd cc
path_expr_stands (more t ts) p span k r agree before =
    let form = form_is.Expr expr_is.Path in
    let h = chain_goes Any Ends Ends (part form (layout_is.One place.Anywhere) (part_of t)) nothing (path_goes form t p.wanted p.ready.0 p.bases.0) (nothing_goes Ends) k r agree tt in (h.0, λ end. h.1)

new_ends : (ts : Trees) → AreReady ts → HaveNoRegexBase ts → Goes Ends (laid (form_is.Expr expr_is.New) (piece.Part layout_is.Arguments ∷ []) (parts_of ts)) Ends
new_ends none ready bases = nothing_goes Ends
new_ends (more t ts) ready bases =
    let form = form_is.Expr expr_is.New in
    chain_goes Ends Ends Ends (part form layout_is.Arguments (part_of t)) nothing (arguments_goes Ends form t refl ready.0) (nothing_goes Ends)

new_stands : (ts : Trees) → Parts (form_is.Expr expr_is.New) ts → Stands (form_is.Expr expr_is.New) ts
new_stands none p span k r agree before = let is : false ≡ true = p.wanted in absurd cc
new_stands (more t ts) p span k r agree before =
    let form = form_is.Expr expr_is.New in
    let rest = laid form (piece.Part layout_is.Arguments ∷ []) (parts_of ts) in
    let h = chain_goes Any Any Ends (kinds (token.Keyword keyword.New ∷ [])) (chain (part form (layout_is.One place.Anywhere) (part_of t)) rest) (kind_goes Any Any (token.Keyword keyword.New) refl tt)
    (chain_goes Any Ends Ends (part form (layout_is.One place.Anywhere) (part_of t)) rest (path_goes form t p.wanted p.ready.0 p.bases.0) (new_ends ts p.ready.1 p.bases.1)) k r agree tt in
    (h.0, λ end. h.1)

member_stands : (ts : Trees) → Parts (form_is.Expr expr_is.Member) ts → Stands (form_is.Expr expr_is.Member) ts
member_stands none p span k r agree before = let is : false ≡ true = p.wanted in absurd cc
member_stands (more t none) p span k r agree before = let is : false ≡ true = p.wanted in absurd cc
member_stands (more t (more n ts)) p span k r agree before =
    let form = form_is.Expr expr_is.Member in
    let last : Option TokenKind → Type 0 = λ r. not (is_skip n) ≡ true → Ends r in
    chain_goes Any Any last (part form (layout_is.One place.Object) (part_of t)) (chain (kinds (token.Punctuation punctuation.Dot ∷ [])) (chain (anywhere (part_of n)) nothing)) (part_goes form (layout_is.One place.Object) t refl p.ready.0 p.bases.0)
    (chain_goes Any Any last (kinds (token.Punctuation punctuation.Dot ∷ [])) (chain (anywhere (part_of n)) nothing) (kind_goes Any Any (token.Punctuation punctuation.Dot) refl tt)
    (chain_goes Any last last (anywhere (part_of n)) nothing (name_goes Any n p.wanted p.tells.1.0) (nothing_goes last))) k r agree tt

set_member_stands : (ts : Trees) → Parts (form_is.Expr expr_is.SetMember) ts → Stands (form_is.Expr expr_is.SetMember) ts
set_member_stands none p span k r agree before = absurd p.wanted
set_member_stands (more t none) p span k r agree before = absurd p.wanted
set_member_stands (more t (more n ts)) p span k r agree before =
    let form = form_is.Expr expr_is.SetMember in
    let h = chain_goes Any Any Ends (part form (layout_is.One place.Object) (part_of t)) (chain (kinds (token.Punctuation punctuation.QuestionDot ∷ [])) (chain (anywhere (part_of n)) nothing)) (part_goes form (layout_is.One place.Object) t refl p.ready.0 p.bases.0)
    (chain_goes Any Any Ends (kinds (token.Punctuation punctuation.QuestionDot ∷ [])) (chain (anywhere (part_of n)) nothing) (kind_goes Any Any (token.Punctuation punctuation.QuestionDot) refl tt)
    (chain_goes Any Ends Ends (anywhere (part_of n)) nothing (id_goes Any n p.wanted) (nothing_goes Ends))) k r agree tt in
    (h.0, λ end. h.1)

unary_stands : (op : UnaryOp) (ts : Trees) → Parts (form_is.Expr (expr_is.Unary op)) ts → Stands (form_is.Expr (expr_is.Unary op)) ts
unary_stands op none p span k r agree before = let is : false ≡ true = p.wanted in absurd cc
unary_stands op (more t ts) p span k r agree before =
    let form = form_is.Expr (expr_is.Unary op) in
    let last : Option TokenKind → Type 0 = λ r. (nat_lt (level_of t) 13 || divides_behind t) ≡ true → Ends r in
    chain_goes Any Any last (these (own_words form)) (chain (part form (layout_is.One place.Operand) (part_of t)) nothing) (own_goes form (both (plain_pieces (layout form)) (plain_words (own_words form)) (plain_forms form)).1 p.own)
    (chain_goes Any last last (part form (layout_is.One place.Operand) (part_of t)) nothing (operand_goes form place.Operand t refl refl p.wanted p.ready.0 p.bases.0) (nothing_goes last)) k r agree tt

-- operations
right_divides : (op : BinaryOp) → is_dividend (form_is.Expr (expr_is.Binary op)) place.Right ≡ false
right_divides op = search (rules, tests)

-- by what its operator wants of the left operand
operation_stands : (op : BinaryOp) (P : Option TokenKind → Type 0) (t u : Tree) (ts : Trees) (span : Span) → Goes Any (part (form_is.Expr (expr_is.Binary op)) (layout_is.One place.Left) (part_of t)) P → Goes P (these (own_words (form_is.Expr (expr_is.Binary op)))) Any
    → is_expression u ≡ true → IsReady u → is_regex_base u ≡ false → nat_lt 1 (level op + 1) ≡ true
    → Goes Any (spelled (node (form_is.Expr (expr_is.Binary op)) span (more t (more u ts)))) (After (node (form_is.Expr (expr_is.Binary op)) span (more t (more u ts))))
operation_stands op P t u ts span first own is ready base tight =
    let form = form_is.Expr (expr_is.Binary op) in
    let last : Option TokenKind → Type 0 = λ r. (nat_lt (level_of u) (level op + 1) || divides_behind u) ≡ true → Ends r in
    chain_goes Any P last (part form (layout_is.One place.Left) (part_of t)) (chain (these (own_words form)) (chain (part form (layout_is.One place.Right) (part_of u)) nothing)) first
    (chain_goes P Any last (these (own_words form)) (chain (part form (layout_is.One place.Right) (part_of u)) nothing) own
    (chain_goes Any last last (part form (layout_is.One place.Right) (part_of u)) nothing (operand_goes form place.Right u tight (right_divides op) is ready base) (nothing_goes last)))

slash_goes : Goes Ends (these (own_words (form_is.Expr (expr_is.Binary binary.Divide)))) Any
slash_goes k r agree end = ((slash_may k r agree end, tt), tt)

operator_goes : (op : BinaryOp) → plain_kind (binary_token op) ≡ true → Goes Any (these (own_words (form_is.Expr (expr_is.Binary op)))) Any
operator_goes op plain k r agree p = ((some_may k r (binary_token op) agree plain, tt), tt)

binary_stands : (op : BinaryOp) (ts : Trees) → Parts (form_is.Expr (expr_is.Binary op)) ts → Stands (form_is.Expr (expr_is.Binary op)) ts
binary_stands op none p span k r agree before = let is : false ≡ true = p.wanted.0 in absurd cc
binary_stands op (more t none) p span k r agree before = let is : false ≡ true = p.wanted.1 in absurd cc
binary_stands binary.Divide (more t (more u ts)) p span k r agree before =
    operation_stands binary.Divide Ends t u ts span (dividend_goes t p.wanted.0 p.ready.0 p.bases.0) slash_goes p.wanted.1 p.ready.1.0 p.bases.1.0 refl k r agree tt
binary_stands op (more t (more u ts)) p span k r agree before =
    operation_stands op Any t u ts span (part_goes (form_is.Expr (expr_is.Binary op)) (layout_is.One place.Left) t refl p.ready.0 p.bases.0) (operator_goes op refl) p.wanted.1 p.ready.1.0 p.bases.1.0 refl k r agree tt

-- expressions
expression_stands : (form : ExprForm) (ts : Trees) → Parts (form_is.Expr form) ts → Stands (form_is.Expr form) ts
expression_stands expr_is.Path ts p = path_expr_stands ts p
expression_stands expr_is.Itself ts p = any_stands (form_is.Expr expr_is.Itself) ts refl (λ span. refl) p.bases p
expression_stands expr_is.Current ts p = closed_stands (form_is.Expr expr_is.Current) ts refl refl p.bases p
expression_stands expr_is.True ts p = any_stands (form_is.Expr expr_is.True) ts refl (λ span. refl) p.bases p
expression_stands expr_is.False ts p = any_stands (form_is.Expr expr_is.False) ts refl (λ span. refl) p.bases p
expression_stands (expr_is.Number n) ts p = λ span k r agree before. ((some_may k r token.Number agree refl, tt), λ end. refl)
expression_stands (expr_is.String x) ts p = λ span k r agree before. ((some_may k r token.String agree refl, tt), λ end. refl)
expression_stands (expr_is.Bytes x) ts p = λ span k r agree before. ((some_may k r token.Bytes agree refl, tt), λ end. refl)
expression_stands (expr_is.Regex x) ts p = λ span k r agree before. ((regex_may k r agree (before refl), tt), λ end. cc)
expression_stands expr_is.New ts p = new_stands ts p
expression_stands expr_is.Choice ts p = any_stands (form_is.Expr expr_is.Choice) ts refl (λ span. refl) p.bases p
expression_stands expr_is.Member ts p = member_stands ts p
expression_stands expr_is.SetMember ts p = set_member_stands ts p
expression_stands (expr_is.Unary op) ts p = unary_stands op ts p
expression_stands (expr_is.Binary op) ts p = binary_stands op ts p
expression_stands form ts p = closed_stands (form_is.Expr form) ts refl refl p.bases p

-- a base behind a : or a (
based : (kind : TokenKind) (t : Tree) (x : Writing) → plain_kind kind ≡ true → ends_operand kind ≡ false → IsReady t → Goes Any x Any → Goes Any (chain (kinds (kind ∷ [])) (chain (anywhere (part_of t)) x)) Any
based kind t x plain free ready go =
    chain_goes Any Free Any (kinds (kind ∷ [])) (chain (anywhere (part_of t)) x) (kind_goes Any Free kind plain free)
    (chain_goes Free Any Any (anywhere (part_of t)) x (base_goes t ready) go)

no_own : (form : Form) → own_words form ≡ [] → Goes Any (these (own_words form)) Any
no_own form e = subst (λ ws. Goes Any (these ws) Any) (sym e) (nothing_goes Any)

field_goes : (ts : Trees) → Parts form_is.Field ts → Goes Any (laid form_is.Field (layout form_is.Field) (parts_of ts)) Any
field_goes none p = plain_stands form_is.Field none refl tt p
field_goes (more label none) p = plain_stands form_is.Field (more label none) refl p.bases p
field_goes (more label (more base ts)) p =
    let rest = piece.Part (layout_is.Row separator.Nothing) ∷ piece.Part (layout_is.Row separator.Nothing) ∷ piece.Part (layout_is.Optional frame.If) ∷ piece.Part (layout_is.Optional frame.Arrow) ∷ piece.Part layout_is.Hooks ∷ [] in
    let behind = laid form_is.Field rest (parts_of ts) in
    chain_goes Any Any Any (framed frame.Bare (part_of label)) (chain (kinds (token.Punctuation punctuation.Colon ∷ [])) (chain (anywhere (part_of base)) behind)) (framed_goes frame.Bare label refl p.ready.0 p.bases.0)
    (based (token.Punctuation punctuation.Colon) base behind refl refl p.ready.1.0 (laid_goes form_is.Field rest ts refl (no_own form_is.Field refl) p.ready.1.1 p.bases.1))

group_goes : (ts : Trees) → Parts (form_is.Base base_is.Group) ts → Goes Any (laid (form_is.Base base_is.Group) (layout (form_is.Base base_is.Group)) (parts_of ts)) Any
group_goes none p = plain_stands (form_is.Base base_is.Group) none refl tt p
group_goes (more base ts) p =
    let form = form_is.Base base_is.Group in
    let rest = piece.Part (layout_is.Row separator.Nothing) ∷ piece.Part (layout_is.Row separator.Nothing) ∷ piece.Word (token.Punctuation punctuation.RightParen) ∷ [] in
    based (token.Punctuation punctuation.LeftParen) base (laid form rest (parts_of ts)) refl refl p.ready.0 (laid_goes form rest ts refl (no_own form refl) p.ready.1 p.bases)

-- the hook of a path, with or without the name of a hook
hook_name_goes : (t : Tree) → IsReady t → is_regex_base t ≡ false → Goes Ends (framed frame.Scope (part_of t)) Any
hook_name_goes t ready base =
    by_test Ends Any (is_absent t) nothing (chain (kinds (token.Punctuation punctuation.ColonColon ∷ [])) (chain (anywhere (part_of t)) nothing)) (λ k r agree end. (tt, tt))
    (chain_goes Ends Any Any (kinds (token.Punctuation punctuation.ColonColon ∷ [])) (chain (anywhere (part_of t)) nothing) scope_goes
    (chain_goes Any Any Any (anywhere (part_of t)) nothing (anywhere_goes t ready base) (nothing_goes Any)))

hook_goes : (ts : Trees) → AreReady ts → HaveNoRegexBase ts → Goes Ends (laid (form_is.Decl decl_is.On) (piece.Part (layout_is.Optional frame.Scope) ∷ piece.Part (layout_is.One place.Anywhere) ∷ []) (parts_of ts)) Any
hook_goes none ready bases = λ k r agree end. (tt, tt)
hook_goes (more t ts) ready bases =
    let form = form_is.Decl decl_is.On in
    let rest = piece.Part (layout_is.One place.Anywhere) ∷ [] in
    chain_goes Ends Any Any (framed frame.Scope (part_of t)) (laid form rest (parts_of ts)) (hook_name_goes t ready.0 bases.0) (laid_goes form rest ts refl (no_own form refl) ready.1 bases.1)

on_goes : (ts : Trees) → Parts (form_is.Decl decl_is.On) ts → Goes Any (laid (form_is.Decl decl_is.On) (layout (form_is.Decl decl_is.On)) (parts_of ts)) Any
on_goes none p = let is : false ≡ true = p.wanted in absurd cc
on_goes (more t ts) p =
    let form = form_is.Decl decl_is.On in
    let rest = laid form (piece.Part (layout_is.Optional frame.Scope) ∷ piece.Part (layout_is.One place.Anywhere) ∷ []) (parts_of ts) in
    chain_goes Any Any Any (kinds (token.Keyword keyword.On ∷ [])) (chain (part form (layout_is.One place.Anywhere) (part_of t)) rest) (kind_goes Any Any (token.Keyword keyword.On) refl tt)
    (chain_goes Any Ends Any (part form (layout_is.One place.Anywhere) (part_of t)) rest (path_goes form t p.wanted p.ready.0 p.bases.0) (hook_goes ts p.ready.1 p.bases.1))

-- trees of all alternatives
node_stands : (form : Form) (ts : Trees) → Parts form ts → Stands form ts
node_stands form_is.Path ts p = path_stands ts p
node_stands (form_is.Expr form) ts p = expression_stands form ts p
node_stands (form_is.Base (base_is.Regex x)) ts p = λ span k r agree before. ((regex_may k r agree (before refl), tt), λ end. cc)
node_stands (form_is.Base base_is.Group) ts p = silent_stands (form_is.Base base_is.Group) ts (λ span. refl) (group_goes ts p)
node_stands form_is.Field ts p = silent_stands form_is.Field ts (λ span. refl) (field_goes ts p)
node_stands (form_is.Decl decl_is.On) ts p = silent_stands (form_is.Decl decl_is.On) ts (λ span. refl) (on_goes ts p)
node_stands form ts p = any_stands form ts refl (λ span. refl) p.bases p

mutual
  tree_ready : (t : Tree) → TellsOnly IsSound t → IsFormed t → IsReady t
  tree_ready (node form span ts) tells formed =
      (node_stands form ts (record { own = tells.0; tells = tells.1; wanted = formed.0; bases = formed.1; ready = trees_ready ts tells.1 formed.2 }) span, λ by plain k r agree p. (tt, tt))
  tree_ready (row ts) tells formed = (λ k r agree before. (tt, λ end. cc), λ by plain. listed_goes by ts plain (trees_ready ts tells formed.1) formed.0)
  tree_ready absent tells formed = (λ k r agree before. (tt, λ end. cc), λ by plain k r agree p. (tt, tt))

  trees_ready : (ts : Trees) → TellOnly IsSound ts → AreFormed ts → AreReady ts
  trees_ready none tells formed = tt
  trees_ready (more t ts) tells formed = (tree_ready t tells.0 formed.0, trees_ready ts tells.1 formed.1)

-- a line that begins with a word
behind : (t : Tree) → TellsOnly IsSound t → IsFormed t → ArePlaced (Some (token.Punctuation punctuation.Semicolon)) (spelled t (Some (token.Punctuation punctuation.Semicolon)))
behind t tells formed = ((tree_ready t tells formed).0 (Some (token.Punctuation punctuation.Semicolon)) (Some (token.Punctuation punctuation.Semicolon)) (λ free. free) (λ is. refl)).0

declaration_placed : (form : DeclForm) (span : Span) (ts : Trees) → ArePlaced (Some (token.Punctuation punctuation.Semicolon)) (spelled (node (form_is.Decl form) span ts) (Some (token.Punctuation punctuation.Semicolon))) → ArePlaced None (spelled (node (form_is.Decl form) span ts) None)
declaration_placed decl_is.Import span ts h = (refl, h.1)
declaration_placed decl_is.ByteOrder span ts h = (refl, h.1)
declaration_placed decl_is.Version span ts h = (refl, h.1)
declaration_placed decl_is.On span ts h = (refl, h.1)
declaration_placed (decl_is.Type true) span ts h = (refl, h.1)
declaration_placed (decl_is.Type false) span ts h = (refl, h.1)
declaration_placed (decl_is.Const true) span ts h = (refl, h.1)
declaration_placed (decl_is.Const false) span ts h = (refl, h.1)
declaration_placed (decl_is.Function true) span ts h = (refl, h.1)
declaration_placed (decl_is.Function false) span ts h = (refl, h.1)

line_placed : (t : Tree) → is_declaration t ≡ true → TellsOnly IsSound t → IsFormed t → ArePlaced None (spelled t None)
line_placed (node (form_is.Decl form) span ts) is tells formed = declaration_placed form span ts (behind (node (form_is.Decl form) span ts) tells formed)
line_placed t is tells formed = cc

lines_placed : (ts : Trees) → AreDeclarations ts → TellOnly IsSound ts → AreFormed ts → AllByRecursion (ArePlaced None) (lines_of ts)
lines_placed none are tells formed = tt
lines_placed (more t ts) are tells formed = (line_placed t are.0 tells.0 formed.0, lines_placed ts are.1 tells.1 formed.1)

row_placed : (t : Tree) → AreDeclarations (row_of t) → TellsOnly IsSound t → IsFormed t → AllByRecursion (ArePlaced None) (lines_of (row_of t))
row_placed (row ts) are tells formed = lines_placed ts are tells formed.1
row_placed (node form span ts) are tells formed = tt
row_placed absent are tells formed = tt

declared : (span : Span) (ts : Trees) → AreDeclarations (row_of (second ts)) → TellOnly IsSound ts → AreFormed ts → AllByRecursion (ArePlaced None) (lines_of (declarations (node form_is.Module span ts)))
declared span none are tells formed = tt
declared span (more label none) are tells formed = tt
declared span (more label (more r ts)) are tells formed = row_placed r are tells.1.0 formed.1.0

-- the words of a module
pub module_placed : (m : Tree) → TellsOnly IsSound m → IsFormedModule m → AllByRecursion (ArePlaced None) (module_lines m)
module_placed (node form_is.Module span ts) tells formed = ((refl, (behind (node form_is.Module span ts) tells formed).1), declared span ts formed.0 tells.1 formed.2)
module_placed m tells formed = absurd formed
