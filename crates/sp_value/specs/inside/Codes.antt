-- Values as codes, by which a proof tells them apart.
use Rattle.std.specs.Prelude.{◌≡◌, ℕ, List, [], ◌∷◌, refl}
use base.Stored.{Gv, gnil, gnum, gcons, Coded, coded_bool, coded_ℤ}
use Rattle.std.proofs.Common.{ap, arith}
use Rattle.sp_numbers.specs.declared.width.Width.{Width}
use Rattle.sp_numbers.specs.declared.width.Width.TheVariants.{W8, W16, W32, W64}
use Rattle.sp_value.specs.Val.{Val, void, bool, uint, int, bytes, str, enum, bits, tuple, vector, set, map, unit, place, Vals, no_vals, val, Entries, no_entries, entry}

abbrev numbers_code : List ℕ → Gv
numbers_code [] = gnil
numbers_code (n ∷ ns) = gcons (gnum n) (numbers_code ns)

abbrev width_code : Width → ℕ
width_code W8 = 0
width_code W16 = 1
width_code W32 = 2
width_code W64 = 3

abbrev mutual
  val_code : Val → Gv
  val_code void = gcons (gnum 0) gnil
  val_code (bool b) = gcons (gnum 1) (coded_bool.code b)
  val_code (uint w n) = gcons (gnum 2) (gcons (gnum (width_code w)) (gnum n))
  val_code (int w n) = gcons (gnum 3) (gcons (gnum (width_code w)) (coded_ℤ.code n))
  val_code (bytes bs) = gcons (gnum 4) (numbers_code bs)
  val_code (str bs) = gcons (gnum 5) (numbers_code bs)
  val_code (enum k n) = gcons (gnum 6) (gcons (gnum k) (gnum n))
  val_code (bits k ns) = gcons (gnum 7) (gcons (gnum k) (numbers_code ns))
  val_code (tuple vs) = gcons (gnum 8) (vals_code vs)
  val_code (vector vs) = gcons (gnum 9) (vals_code vs)
  val_code (set vs) = gcons (gnum 10) (vals_code vs)
  val_code (map es) = gcons (gnum 11) (entries_code es)
  val_code (unit n) = gcons (gnum 12) (gnum n)
  val_code (place n) = gcons (gnum 13) (gnum n)

  vals_code : Vals → Gv
  vals_code no_vals = gnil
  vals_code (val v vs) = gcons (val_code v) (vals_code vs)

  entries_code : Entries → Gv
  entries_code no_entries = gnil
  entries_code (entry k v es) = gcons (gcons (val_code k) (val_code v)) (entries_code es)

abbrev head : Gv → Gv
head (gcons a b) = a
head _ = gnil

abbrev tail : Gv → Gv
tail (gcons a b) = b
tail _ = gnil

abbrev number : Gv → ℕ
number (gnum n) = n
number _ = 0

numbers_code-inj : (x y : List ℕ) → numbers_code x ≡ numbers_code y → x ≡ y
numbers_code-inj [] [] p = refl
numbers_code-inj (x ∷ xs) (y ∷ ys) p = let h = ap (λ g. number (head g)) p in let t = numbers_code-inj xs ys (ap tail p) in cc
numbers_code-inj xs ys p = cc

width_code-inj : (x y : Width) → width_code x ≡ width_code y → x ≡ y
width_code-inj W8 W8 p = refl
width_code-inj W16 W16 p = refl
width_code-inj W32 W32 p = refl
width_code-inj W64 W64 p = refl
width_code-inj x y p = absurd (omega (arith, p))

mutual
  pub val_code-inj : (x y : Val) → val_code x ≡ val_code y → x ≡ y
  val_code-inj void void p = refl
  val_code-inj (bool b) (bool c) p = ap bool (coded_bool.inj b c (ap tail p))
  val_code-inj (uint v m) (uint w n) p =
      let same = width_code-inj v w (ap (λ g. number (head (tail g))) p) in
      let h = ap (λ g. number (tail (tail g))) p in cc
  val_code-inj (int v m) (int w n) p =
      let same = width_code-inj v w (ap (λ g. number (head (tail g))) p) in
      let h = coded_ℤ.inj m n (ap (λ g. tail (tail g)) p) in cc
  val_code-inj (bytes xs) (bytes ys) p = ap bytes (numbers_code-inj xs ys (ap tail p))
  val_code-inj (str xs) (str ys) p = ap str (numbers_code-inj xs ys (ap tail p))
  val_code-inj (enum j m) (enum k n) p = ap (λ g. enum (number (head (tail g))) (number (tail (tail g)))) p
  val_code-inj (bits j xs) (bits k ys) p =
      let same = ap (λ g. number (head (tail g))) p in
      let h = numbers_code-inj xs ys (ap (λ g. tail (tail g)) p) in cc
  val_code-inj (tuple xs) (tuple ys) p = ap tuple (vals_code-inj xs ys (ap tail p))
  val_code-inj (vector xs) (vector ys) p = ap vector (vals_code-inj xs ys (ap tail p))
  val_code-inj (set xs) (set ys) p = ap set (vals_code-inj xs ys (ap tail p))
  val_code-inj (map xs) (map ys) p = ap map (entries_code-inj xs ys (ap tail p))
  val_code-inj (unit m) (unit n) p = ap (λ g. unit (number (tail g))) p
  val_code-inj (place m) (place n) p = ap (λ g. place (number (tail g))) p
  val_code-inj x y p = absurd (omega (arith, ap (λ g. number (head g)) p))

  vals_code-inj : (x y : Vals) → vals_code x ≡ vals_code y → x ≡ y
  vals_code-inj no_vals no_vals p = refl
  vals_code-inj (val x xs) (val y ys) p =
      let h = val_code-inj x y (ap head p) in let t = vals_code-inj xs ys (ap tail p) in cc
  vals_code-inj xs ys p = cc

  entries_code-inj : (x y : Entries) → entries_code x ≡ entries_code y → x ≡ y
  entries_code-inj no_entries no_entries p = refl
  entries_code-inj (entry j x xs) (entry k y ys) p =
      let key = val_code-inj j k (ap (λ g. head (head g)) p) in
      let value = val_code-inj x y (ap (λ g. tail (head g)) p) in
      let rest = entries_code-inj xs ys (ap tail p) in cc
  entries_code-inj xs ys p = cc

abbrev pub coded_val : Coded Val
coded_val = record { code = val_code; inj = val_code-inj }
