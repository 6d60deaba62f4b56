-- A path to a declaration mentions it.
use Rattle.std.specs.Prelude.{codes, if◌then◌else◌}
use Rattle.std.specs.Str.{bytes_eq}
use Rattle.std.proofs.Common.{ℕ, ◌≡◌, suc, Bool, true, false, refl, sym, ap, subst, ◌∙◌, List, [], ◌∷◌, ◌++◌, Option, Some, None}
use Rattle.std.proofs.lemmas.Bool.{true≢false}
use Rattle.sp_ast.specs.Trees.{Tree}
use Rattle.sp_types.specs.Types.{Ty}
use Rattle.sp_names.specs.declared.sort.Meaning.{Meaning}
use Rattle.sp_names.specs.declared.sort.Meaning.TheVariants as meaning_is
use Rattle.sp_names.specs.declared.sort.Scope.{Scope}
use Rattle.sp_names.specs.declared.sort.Scope.TheVariants as scope_is
use Rattle.sp_names.specs.Names.{declared, visible, place_among, library_names, label_in, some_declaration, some_library, some_label, named_in, enum_of, own_enum, label_of, behind, in_scope, in_own, meaning_or, means}
use Rattle.sp_names.specs.Types.{one_or_none, named_numbers, mentions}

-- what holds of each of some numbers
abbrev pub Each : (ℕ → Type 0) → List ℕ → Type 0
Each P [] = Unit {0}
Each P (n ∷ ns) = P n × Each P ns

pub each_left : (P : ℕ → Type 0) (xs ys : List ℕ) → Each P (xs ++ ys) → Each P xs
each_left P [] ys e = tt
each_left P (x ∷ xs) ys e = (e.0, each_left P xs ys e.1)

pub each_right : (P : ℕ → Type 0) (xs ys : List ℕ) → Each P (xs ++ ys) → Each P ys
each_right P [] ys e = e
each_right P (x ∷ xs) ys e = each_right P xs ys e.1

-- a declaration, and its number
abbrev is_declaration : Option Meaning → Bool
is_declaration (Some (meaning_is.Declaration g)) = true
is_declaration _ = false

abbrev number_of : Option Meaning → ℕ
number_of (Some (meaning_is.Declaration g)) = g
number_of _ = 0

no_declaration : {X : Type 0} (o : Option Meaning) (g : ℕ) → is_declaration o ≡ false → o ≡ Some (meaning_is.Declaration g) → X
no_declaration o g other e = absurd (true≢false (sym (ap is_declaration e) ∙ other))

label_no : (list : List Tree) (o : Option ℕ) (x : List ℕ) → is_declaration (label_of list o x) ≡ false
label_no list None x = refl
label_no list (Some n) x = of_some n (label_in list n x)
  where
    of_some : (n : ℕ) (o : Option ℕ) → is_declaration (some_label n o) ≡ false
    of_some n None = refl
    of_some n (Some k) = refl

-- behind what has a meaning, a declaration is that alone
behind_is : (list : List Tree) (f : ℕ → Option Ty) (k : ℕ) (o : Option Meaning) (xs : List (List ℕ)) (g : ℕ) → behind list f k o xs ≡ meaning_is.Declaration g → o ≡ Some (meaning_is.Declaration g)
behind_is list f k None xs g e = no_declaration (Some (meaning_is.Nothing k)) g refl (ap Some e)
behind_is list f k (Some meaning) [] g e = ap Some e
behind_is list f k (Some meaning) (x ∷ xs) g e =
    let o = label_of list (enum_of f meaning) x in
    no_declaration o g (label_no list (enum_of f meaning) x) (behind_is list f (suc k) o xs g e)

declared_each : (P : ℕ → Type 0) (o : Option ℕ) (g : ℕ) → some_declaration o ≡ Some (meaning_is.Declaration g) → Each P (one_or_none o) → P g
declared_each P None g e h = no_declaration None g refl e
declared_each P (Some k) g e h = subst P (ap number_of e) h.0

first_each : (P : ℕ → Type 0) (k : ℕ) (o : Option ℕ) (g : ℕ) → meaning_or k o ≡ meaning_is.Declaration g → Each P (one_or_none o) → P g
first_each P k None g e h = no_declaration (Some (meaning_is.Nothing k)) g refl (ap Some e)
first_each P k (Some j) g e h = subst P (ap number_of (ap Some e)) h.0

library_no : (o : Option ℕ) → is_declaration (some_library o) ≡ false
library_no None = refl
library_no (Some n) = refl

decoder_no : (b : Bool) → is_declaration (if b then Some meaning_is.Decoder else None) ≡ false
decoder_no true = refl
decoder_no false = refl

scope_each : (P : ℕ → Type 0) (list : List Tree) (f : ℕ → Option Ty) (own : Option ℕ) (scope : Option Scope) (x : List ℕ) (xs : List (List ℕ)) (g : ℕ) → in_scope list f own scope x xs ≡ meaning_is.Declaration g → Each P (named_numbers list scope x) → P g
scope_each P list f own (Some (scope_is.Module k)) x xs g e h = declared_each P (declared list k x) g (behind_is list f 1 (named_in list (scope_is.Module k) x) xs g e) h
scope_each P list f own (Some scope_is.Spicy) x xs g e h =
    no_declaration (named_in list scope_is.Spicy x) g (library_no (place_among x 0 library_names)) (behind_is list f 1 (named_in list scope_is.Spicy x) xs g e)
scope_each P list f own (Some scope_is.Filter) x xs g e h =
    no_declaration (named_in list scope_is.Filter x) g (decoder_no (bytes_eq x (codes "Base64Decode"))) (behind_is list f 1 (named_in list scope_is.Filter x) xs g e)
scope_each P list f (Some j) None x xs g e h = no_declaration (Some (meaning_is.Nothing 1)) g refl (ap Some e)
scope_each P list f None None x xs g e h = no_declaration (Some (meaning_is.Nothing 0)) g refl (ap Some e)

own_each : (P : ℕ → Type 0) (list : List Tree) (f : ℕ → Option Ty) (enum own : Option ℕ) (scope : Option Scope) (x : List ℕ) (xs : List (List ℕ)) (g : ℕ) → in_own list f enum own scope x xs ≡ meaning_is.Declaration g → Each P (named_numbers list scope x) → P g
own_each P list f (Some n) own scope x xs g e h =
    let o = label_of list (Some n) x in
    no_declaration o g (label_no list (Some n) x) (behind_is list f 1 o xs g e)
own_each P list f None own scope x xs g e h = scope_each P list f own scope x xs g e h

pub mentioned : (P : ℕ → Type 0) (list : List Tree) (f : ℕ → Option Ty) (m : ℕ) (names : List (List ℕ)) (g : ℕ) → means list f m names ≡ meaning_is.Declaration g → Each P (mentions list m names) → P g
mentioned P list f m [] g e h = no_declaration (Some (meaning_is.Nothing 0)) g refl (ap Some e)
mentioned P list f m (x ∷ []) g e h = first_each P 0 (declared list m x) g e h
mentioned P list f m (x ∷ (y ∷ ys)) g e h =
    let own = declared list m x in
    let scope = visible list m x in
    own_each P list f (own_enum f own) own scope y ys g e (each_right P (one_or_none own) (named_numbers list scope y) h)
