-- What is noted of one more module, and of the bodies, units and limits of a list in turn.
use Rattle.std.proofs.Common.{ℕ, ◌≡◌, ◌+◌, ◌<◌, List, ◌∷◌, ◌++◌, length, get_or, drop, Option, sym, ap, ◌∙◌}
use Rattle.std.proofs.lemmas.List.{at_drop_more}
use Rattle.sp_ast.specs.Trees.{Tree}
use Rattle.sp_rules.specs.declared.fault.Fault.{Fault}
use Rattle.sp_rules.specs.Least.{checked}
use Rattle.sp_rule_lists.specs.Told.{values_of}
use Rattle.sp_rule_lists.specs.Wholes.{list_tests}
use Rattle.sp_rule_lists.proofs.Checked.{checked_more}
use Rattle.sp_rule_units.specs.Units.{all_tests}
use Rattle.sp_rule_units.specs.Limits.{module_limits}
use Rattle.sp_typed_units.specs.declared.declarations.Typed.{Typed}
use Rattle.sp_type_answers.specs.Rules.{typed_tests, limits_from}

pub limits_step : (list : List Tree) (m n : ℕ) (x r : Tree) (o p q : Option Fault) → m < length list → x ≡ get_or list m x → r ≡ x → n ≡ m → p ≡ checked o (module_limits n r) → checked o (limits_from m (drop m list)) ≡ q → checked p (limits_from (m + 1) (drop (m + 1) list)) ≡ q
limits_step list m n x r o p q lt is same number h before =
    let rest = limits_from (m + 1) (drop (m + 1) list) in
    let own : p ≡ checked o (module_limits m x) = h ∙ ap (λ (k : ℕ). checked o (module_limits k r)) number ∙ ap (λ (t : Tree). checked o (module_limits m t)) same in
    let row : limits_from m (drop m list) ≡ module_limits m x ++ rest = at_drop_more (limits_from m) list m x lt ∙ ap (λ (t : Tree). limits_from m (t ∷ drop (m + 1) list)) (sym is) in
    ap (λ (z : Option Fault). checked z rest) own ∙ sym (checked_more o (module_limits m x) rest) ∙ sym (ap (checked o) row) ∙ before

pub rest_noted : (t a b : Typed) (list : List Tree) (o x y z : Option Fault) → a ≡ t → b ≡ t → x ≡ checked o (list_tests a (values_of t)) → y ≡ checked x (all_tests b) → z ≡ checked y (limits_from 0 list) → z ≡ checked o (typed_tests t ++ limits_from 0 list)
rest_noted t a b list o x y z at bt hx hy hz =
    let bodies : x ≡ checked o (list_tests t (values_of t)) = hx ∙ ap (λ (u : Typed). checked o (list_tests u (values_of t))) at in
    let units : y ≡ checked x (all_tests t) = hy ∙ ap (λ (u : Typed). checked x (all_tests u)) bt in
    let both : y ≡ checked o (typed_tests t) = units ∙ ap (λ (u : Option Fault). checked u (all_tests t)) bodies ∙ sym (checked_more o (list_tests t (values_of t)) (all_tests t)) in
    hz ∙ ap (λ (u : Option Fault). checked u (limits_from 0 list)) both ∙ sym (checked_more o (typed_tests t) (limits_from 0 list))
