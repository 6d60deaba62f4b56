-- The attributes before one, the nearest first.
use Rattle.std.specs.Prelude.{◌||◌}
use Rattle.std.proofs.Common.{ℕ, ◌≡◌, ◌+◌, ◌<◌, List, [], ◌∷◌, ◌++◌, length, get_or, take, drop, reverse, Option, sym, ap, ◌∙◌}
use Rattle.std.proofs.lemmas.List.{take_more, reverse-append, at_drop_more}
use Rattle.sp_words.specs.declared.words.AttributeName.{AttributeName}
use Rattle.sp_rules.specs.declared.fault.Fault.{Fault}
use Rattle.sp_rules.specs.Least.{checked}
use Rattle.sp_typed_units.specs.declared.attributes.Attribute.{Attribute}
use Rattle.sp_typed_units.specs.declared.declarations.Unit.{Unit}
use Rattle.sp_type_fields.specs.declared.roles.Kind.{Kind}
use Rattle.sp_type_fields.specs.declared.roles.Holder.{Holder}
use Rattle.sp_rule_units.specs.declared.here.Here.{Here}
use Rattle.sp_rule_units.specs.Attributes.{clash, clashes, attribute_tests}
use Rattle.sp_rule_units.specs.Readings.{maybe_tests, attributes_tests}
use Rattle.sp_rule_units.proofs.Checked.{checked_more}

-- one more before the next
pub one_more : (xs : List Attribute) (i : ℕ) (a : Attribute) → i < length xs → a ≡ get_or xs i a → reverse (take (i + 1) xs) ≡ a ∷ reverse (take i xs)
one_more xs i a lt e = ap reverse (take_more xs i a lt) ∙ reverse-append (take i xs) (get_or xs i a ∷ []) ∙ ap (λ x. x ∷ reverse (take i xs)) (sym e)

pub clashes_back : (name : AttributeName) (xs : List Attribute) (i : ℕ) (a : Attribute) → i < length xs → a ≡ get_or xs i a → clashes name (reverse (take (i + 1) xs)) ≡ (clash name a.name || clashes name (reverse (take i xs)))
clashes_back name xs i a lt e = ap (clashes name) (one_more xs i a lt e)

-- one more attribute of a row
pub attributes_step : (us : List Unit) (d : Here) (h : Holder) (k : Kind) (xs : List Attribute) (i : ℕ) (a : Attribute) (o n p q : Option Fault) → i < length xs → a ≡ get_or xs i a → n ≡ checked o (attribute_tests d.owner h k (reverse (take i xs)) a) → p ≡ checked n (maybe_tests us d a.value) → checked o (attributes_tests us d h k (reverse (take i xs)) (drop i xs)) ≡ q → checked p (attributes_tests us d h k (reverse (take (i + 1) xs)) (drop (i + 1) xs)) ≡ q
attributes_step us d h k xs i a o n p q lt e first value before =
    let earlier = reverse (take i xs) in
    let rest = attributes_tests us d h k (a ∷ earlier) (drop (i + 1) xs) in
    let row : attributes_tests us d h k earlier (drop i xs) ≡ attribute_tests d.owner h k earlier a ++ (maybe_tests us d a.value ++ rest) = at_drop_more (attributes_tests us d h k earlier) xs i a lt ∙ ap (λ x. attributes_tests us d h k earlier (x ∷ drop (i + 1) xs)) (sym e) in
    ap (λ l. checked p (attributes_tests us d h k l (drop (i + 1) xs))) (one_more xs i a lt e)
    ∙ ap (λ z. checked z rest) (value ∙ ap (λ z. checked z (maybe_tests us d a.value)) first)
    ∙ sym (checked_more (checked o (attribute_tests d.owner h k earlier a)) (maybe_tests us d a.value) rest)
    ∙ sym (checked_more o (attribute_tests d.owner h k earlier a) (maybe_tests us d a.value ++ rest))
    ∙ sym (ap (checked o) row)
    ∙ before
