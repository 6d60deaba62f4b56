-- Regular expressions as codes, by which a proof tells them apart.
use Rattle.std.specs.Prelude.{◌≡◌, ℕ, Bool, true, false, List, [], ◌∷◌, Option, Some, None}
use Rattle.std.proofs.Common.{refl, ap, ◌∙◌}
use Rattle.std.specs.Coded.{Coded}
use base.Stored.{Gv, gnil, gnum, gcons}
use Rattle.sp_regex.specs.declared.bytes.ByteRange.{ByteRange}
use Rattle.sp_regex.specs.Trees.{Syntax, byte, any, class, empty, followed, never, either, repeat, literal, range_of}

abbrev pub bool_code : Bool → Gv
bool_code true = gnum 1
bool_code false = gnum 0

abbrev pub ranges_code : List ByteRange → Gv
ranges_code [] = gnil
ranges_code (r ∷ rs) = gcons (gcons (gnum r.from) (gnum r.to)) (ranges_code rs)

abbrev pub numbers_code : List ℕ → Gv
numbers_code [] = gnil
numbers_code (n ∷ ns) = gcons (gnum n) (numbers_code ns)

abbrev pub option_code : Option ℕ → Gv
option_code None = gnil
option_code (Some n) = gnum n

abbrev pub syntax_code : Syntax → Gv
syntax_code (byte b) = gcons (gnum 0) (gnum b)
syntax_code any = gcons (gnum 1) gnil
syntax_code (class n rs) = gcons (gnum 2) (gcons (bool_code n) (ranges_code rs))
syntax_code empty = gcons (gnum 3) gnil
syntax_code (followed a b) = gcons (gnum 4) (gcons (syntax_code a) (syntax_code b))
syntax_code never = gcons (gnum 5) gnil
syntax_code (either a b) = gcons (gnum 6) (gcons (syntax_code a) (syntax_code b))
syntax_code (repeat n m a) = gcons (gnum 7) (gcons (gcons (gnum n) (option_code m)) (syntax_code a))
syntax_code (literal bytes) = gcons (gnum 8) (numbers_code bytes)

bool_inj : (x y : Bool) → bool_code x ≡ bool_code y → x ≡ y
bool_inj true true p = refl
bool_inj false false p = refl
bool_inj x y p = cc

ranges_inj : (x y : List ByteRange) → ranges_code x ≡ ranges_code y → x ≡ y
ranges_inj [] [] p = refl
ranges_inj (r ∷ rs) (s ∷ ss) p =
    let e : r.from ≡ s.from = cc in let f : r.to ≡ s.to = cc in let g : ranges_code rs ≡ ranges_code ss = cc in
    let h = ranges_inj rs ss g in
    let i : r ≡ s = ap (λ n. range_of n r.to) e ∙ ap (λ n. range_of s.from n) f in cc
ranges_inj x y p = cc

numbers_inj : (x y : List ℕ) → numbers_code x ≡ numbers_code y → x ≡ y
numbers_inj [] [] p = refl
numbers_inj (m ∷ ms) (n ∷ ns) p =
    let e : m ≡ n = cc in let f : numbers_code ms ≡ numbers_code ns = cc in let g = numbers_inj ms ns f in cc
numbers_inj x y p = cc

option_inj : (x y : Option ℕ) → option_code x ≡ option_code y → x ≡ y
option_inj None None p = refl
option_inj (Some n) (Some m) p = let e : n ≡ m = cc in ap Some e
option_inj x y p = cc

pub syntax_inj : (x y : Syntax) → syntax_code x ≡ syntax_code y → x ≡ y
syntax_inj (byte b) (byte c) p = let e : b ≡ c = cc in ap byte e
syntax_inj any any p = refl
syntax_inj (class n rs) (class m ss) p =
    let e : bool_code n ≡ bool_code m = cc in let f : ranges_code rs ≡ ranges_code ss = cc in
    let g = bool_inj n m e in let h = ranges_inj rs ss f in cc
syntax_inj empty empty p = refl
syntax_inj (followed a b) (followed c d) p =
    let e : syntax_code a ≡ syntax_code c = cc in let f : syntax_code b ≡ syntax_code d = cc in
    let g = syntax_inj a c e in let h = syntax_inj b d f in cc
syntax_inj never never p = refl
syntax_inj (either a b) (either c d) p =
    let e : syntax_code a ≡ syntax_code c = cc in let f : syntax_code b ≡ syntax_code d = cc in
    let g = syntax_inj a c e in let h = syntax_inj b d f in cc
syntax_inj (repeat n m a) (repeat k l b) p =
    let e : n ≡ k = cc in let f : option_code m ≡ option_code l = cc in let g : syntax_code a ≡ syntax_code b = cc in
    let h = option_inj m l f in let i = syntax_inj a b g in cc
syntax_inj (literal v) (literal w) p = let e : numbers_code v ≡ numbers_code w = cc in let f = numbers_inj v w e in cc
syntax_inj x y p = cc

abbrev pub coded_syntax : Coded Syntax
coded_syntax = record { code = syntax_code; inj = syntax_inj }
