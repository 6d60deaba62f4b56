-- Words one behind the other.
use Rattle.std.proofs.Common.{◌≡◌, List, [], ◌∷◌, ◌++◌, Option, Some, None, Bool, true, false, ℕ, map, refl, ap, sym, ◌∙◌, append_assoc}
use Rattle.sp_lex.specs.declared.kinds.TokenKind.{TokenKind}
use Rattle.sp_print.specs.Words.{Word, kind_of, written}
use Rattle.sp_print.specs.Page.{Page, page, gap, line, put, puts}
use Rattle.std.proofs.lemmas.List.{append-nil}
use Rattle.sp_ast.specs.Trees.{Tree, trees}
use Rattle.sp_ast.specs.declared.forms.Form.{Form}
use Rattle.sp_print.specs.declared.layouts.Frame.{Frame}
use Rattle.sp_print.specs.declared.layouts.Separator.{Separator}
use Rattle.sp_print.specs.declared.layouts.Separator.TheVariants as separator
use Rattle.sp_print.specs.declared.layouts.PartLayout.{PartLayout}
use Rattle.sp_print.specs.declared.layouts.PartLayout.TheVariants as part_is
use Rattle.sp_print.specs.declared.layouts.Piece.{Piece}
use Rattle.sp_print.specs.declared.layouts.Piece.TheVariants as pieces
use Rattle.sp_print.specs.Layouts.{opening, closing, between}
use Rattle.sp_print.specs.Words.{fixed}
use Rattle.sp_print.specs.inside.Pieces.{IsLaid}
use Rattle.sp_print.specs.Canonical.{Writing, last_kind, kinds, chain, enclosed, write, needs_parentheses, at_place, is_absent, is_empty_row, anywhere, followed, listed, framed, part, part_of, parts_of, rowed, laid, spelled, lines}

pub last_puts : (ws : List Word) (p : Page) → (puts ws p).last ≡ last_kind p.last ws
last_puts [] p = refl
last_puts (w ∷ ws) p = last_puts ws (put w p)

pub puts_append : (xs ys : List Word) (p : Page) → puts (xs ++ ys) p ≡ puts ys (puts xs p)
puts_append [] ys p = refl
puts_append (w ∷ xs) ys p = puts_append xs ys (put w p)

-- what is written in two parts is written one behind the other
pub write_chain : (x y : Writing) (p : Page) → write (chain x y) p ≡ write y (write x p)
write_chain x y p =
    puts_append (x p.last) (y (last_kind p.last (x p.last))) p
    ∙ ap (λ before. puts (y before) (puts (x p.last) p)) (sym (last_puts (x p.last) p))

-- what stands between tokens
pub within : (ks ls : List TokenKind) (x : Writing) (p a b c : Page) → a ≡ puts (map fixed ks) p → b ≡ write x a → c ≡ puts (map fixed ls) b → c ≡ write (chain (kinds ks) (chain x (kinds ls))) p
within ks ls x p a b c first second third =
    third ∙ ap (λ q. puts (map fixed ls) q) (second ∙ ap (λ q. write x q) first)
    ∙ sym (write_chain x (kinds ls) (puts (map fixed ks) p)) ∙ sym (write_chain (kinds ks) (chain x (kinds ls)) p)

-- a tree at a place where it needs parentheses
pub in_parentheses : (tight : ℕ) (dividend : Bool) (t : Tree) (x : Writing) (p : Page) → needs_parentheses tight dividend t p.last ≡ true → write (enclosed x) p ≡ write (at_place tight dividend t x) p
in_parentheses tight dividend t x p e = rw e refl

-- a part that isn't left out
pub in_frame : (around : Frame) (t : Tree) (p : Page) → is_absent t ≡ false
    → write (chain (kinds (opening around)) (chain (anywhere (part_of t)) (kinds (closing around)))) p ≡ write (framed around (part_of t)) p
in_frame around t p e = rw e refl

-- arguments, where there are some
pub as_arguments : (form : Form) (layout : PartLayout) (t : Tree) (p : Page) → layout ≡ part_is.Arguments → is_empty_row t ≡ false
    → write (enclosed (rowed t separator.Comma)) p ≡ write (part form layout (part_of t)) p
as_arguments form layout t p is e =
    let first : write (enclosed (rowed t separator.Comma)) p ≡ write (part form part_is.Arguments (part_of t)) p = rw e refl in
    first ∙ ap (λ q. write (part form q (part_of t)) p) (sym is)

-- one more tree of several
pub one_more : (by : Separator) (left behind : List Tree) (t : Tree) (p a b : Page) → left ≡ t ∷ behind
    → a ≡ puts (map fixed (between by)) p → b ≡ write (anywhere (part_of t)) a
    → write (followed by (parts_of (trees behind))) b ≡ write (followed by (parts_of (trees left))) p
one_more by left behind t p a b is first second =
    let rest : Writing = followed by (parts_of (trees behind)) in
    ap (λ q. write rest q) (second ∙ ap (λ q. write (anywhere (part_of t)) q) first)
    ∙ sym (write_chain (anywhere (part_of t)) rest (puts (map fixed (between by)) p))
    ∙ sym (write_chain (kinds (between by)) (chain (anywhere (part_of t)) rest) p)
    ∙ ap (λ ts. write (followed by (parts_of (trees ts))) p) (sym is)

-- the first of several trees, and the others
pub first_and_others : (by : Separator) (all others : List Tree) (t : Tree) (p a b : Page) → all ≡ t ∷ others
    → a ≡ write (anywhere (part_of t)) p → b ≡ write (followed by (parts_of (trees others))) a
    → b ≡ write (listed by (parts_of (trees all))) p
first_and_others by all others t p a b is first second =
    second ∙ ap (λ q. write (followed by (parts_of (trees others))) q) first
    ∙ sym (write_chain (anywhere (part_of t)) (followed by (parts_of (trees others))) p)
    ∙ ap (λ ts. write (listed by (parts_of (trees ts))) p) (sym is)

-- all parts that are left
pub all_laid : (form : Form) (piece : Piece) (by : Separator) (ts left : List Tree) (p a : Page) → piece ≡ pieces.All by → left ≡ [] → a ≡ write (listed by (parts_of (trees ts))) p → IsLaid form piece ts p left a
all_laid form piece by ts left p a at over first behind =
    ap (λ x. write (laid form (x ∷ behind) (parts_of (trees ts))) p) at
    ∙ write_chain (listed by (parts_of (trees ts))) (laid form behind []) p ∙ ap (λ q. write (laid form behind []) q) (sym first)
    ∙ ap (λ us. write (laid form behind (parts_of (trees us))) a) (sym over)

-- the next part
pub part_laid : (form : Form) (piece : Piece) (layout : PartLayout) (ts others : List Tree) (t : Tree) (p a : Page) → piece ≡ pieces.Part layout → ts ≡ t ∷ others
    → a ≡ write (part form layout (part_of t)) p → IsLaid form piece ts p others a
part_laid form piece layout ts others t p a at is first behind =
    ap (λ us. write (laid form (piece ∷ behind) (parts_of (trees us))) p) is
    ∙ ap (λ x. write (laid form (x ∷ behind) (parts_of (trees (t ∷ others)))) p) at
    ∙ write_chain (part form layout (part_of t)) (laid form behind (parts_of (trees others))) p
    ∙ ap (λ q. write (laid form behind (parts_of (trees others))) q) (sym first)

-- a text before words stays before them
put_behind : (w : Word) (front text : List ℕ) (last : Option TokenKind) → put w (page (front ++ text) last) ≡ page (front ++ (text ++ gap last (kind_of w) ++ written w)) (Some (kind_of w))
put_behind w front text last =
    ap (λ all. page (all ++ written w) (Some (kind_of w))) (append_assoc front text (gap last (kind_of w)))
    ∙ ap (λ all. page all (Some (kind_of w))) (append_assoc front (text ++ gap last (kind_of w)) (written w))

pub puts_behind : (ws : List Word) (front text : List ℕ) (last : Option TokenKind) → (puts ws (page (front ++ text) last)).text ≡ front ++ (puts ws (page text last)).text
puts_behind [] front text last = refl
puts_behind (w ∷ ws) front text last =
    ap (λ q. let r : Page = puts ws q in r.text) (put_behind w front text last) ∙ puts_behind ws front (text ++ gap last (kind_of w) ++ written w) (Some (kind_of w))

-- one more line
pub one_line : (left behind : List Tree) (t : Tree) (p a : Page) → left ≡ t ∷ behind → p.last ≡ None → a ≡ write (spelled t) p
    → (a.text ++ 10 ∷ []) ++ lines (trees behind) ≡ p.text ++ lines (trees left)
one_line left behind t p a is fresh said =
    let rest : List ℕ = lines (trees behind) in
    let told : a.text ≡ p.text ++ (puts (spelled t None) (page [] None)).text =
    ap (λ q. let r : Page = q in r.text) (said ∙ ap (λ l. puts (spelled t l) (page p.text l)) fresh)
    ∙ ap (λ front. (puts (spelled t None) (page front None)).text) (sym (append-nil p.text)) ∙ puts_behind (spelled t None) p.text [] None in
    ap (λ text. (text ++ 10 ∷ []) ++ rest) told
    ∙ ap (λ text. text ++ rest) (append_assoc p.text (puts (spelled t None) (page [] None)).text (10 ∷ []))
    ∙ append_assoc p.text (line (spelled t None)) rest ∙ ap (λ ts. p.text ++ lines (trees ts)) (sym is)
