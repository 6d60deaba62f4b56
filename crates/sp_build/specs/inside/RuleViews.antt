-- The rules that the code's rules are.
use Rattle.sp_words.specs.declared.words.IntWord.{IntWord}
use Rattle.sp_ast.specs.declared.forms.Form.{Form}
use Rattle.sp_ast.specs.declared.forms.Form.TheVariants as form_is
use Rattle.sp_ast.specs.declared.forms.ExprForm.TheVariants as expr_is
use Rattle.sp_ast.specs.declared.forms.TypeForm.TheVariants as types_is
use Rattle.sp_ast.specs.declared.forms.BaseForm.TheVariants as base_is
use Rattle.sp_ast.specs.declared.forms.TargetForm.TheVariants as target_is
use Rattle.sp_build.specs.declared.rules.Leaf.{Leaf as CodeLeaf}
use Rattle.sp_build.specs.declared.rules.Leaf.TheVariants as leaf
use Rattle.sp_build.specs.declared.rules.Worded.{Worded}
use Rattle.sp_build.specs.declared.rules.Worded.TheVariants as worded
use Rattle.sp_build.specs.declared.rules.Rule.{Rule as CodeRule}
use Rattle.sp_build.specs.declared.rules.Rule.TheVariants as code
use Rattle.sp_build.specs.Rules.{Leaf, always, by_name, by_string, by_bytes, by_regex, by_number, by_integer, by_hook_name, Rule, begins, leaves_out, takes, gathers, closing, closing_integer, closing_attribute, encloses, joining, wraps}

abbrev pub leaf_view : CodeLeaf → Leaf
leaf_view (leaf.Always form) = always form
leaf_view leaf.Name = by_name (λ x. form_is.Name x)
leaf_view leaf.NameTarget = by_name (λ x. form_is.Target (target_is.Name x))
leaf_view leaf.String = by_string (λ x. form_is.String x)
leaf_view leaf.StringExpr = by_string (λ x. form_is.Expr (expr_is.String x))
leaf_view leaf.BytesExpr = by_bytes (λ x. form_is.Expr (expr_is.Bytes x))
leaf_view leaf.BytesBase = by_bytes (λ x. form_is.Base (base_is.Bytes x))
leaf_view leaf.RegexExpr = by_regex (λ x. form_is.Expr (expr_is.Regex x))
leaf_view leaf.RegexBase = by_regex (λ x. form_is.Base (base_is.Regex x))
leaf_view leaf.Number = by_number (λ n. form_is.Number n)
leaf_view leaf.NumberExpr = by_number (λ n. form_is.Expr (expr_is.Number n))
leaf_view leaf.IntType = by_integer (λ word. form_is.Type (types_is.Int word))
leaf_view leaf.HookName = by_hook_name (λ h. form_is.HookName h)
leaf_view leaf.HookTarget = by_hook_name (λ h. form_is.Target (target_is.Hook h))

-- the alternative that is built by an integer type
abbrev pub worded_form : Worded → IntWord → Form
worded_form worded.TypedNumber word = form_is.Expr (expr_is.TypedNumber word)
worded_form worded.NumberBase word = form_is.Base (base_is.Number word)
worded_form worded.IntType word = form_is.Type (types_is.Int word)

abbrev pub rule_view : CodeRule → Rule
rule_view code.Begins = begins
rule_view code.LeavesOut = leaves_out
rule_view (code.Takes l) = takes (leaf_view l)
rule_view code.Gathers = gathers
rule_view (code.Closes form) = closing form
rule_view (code.ClosesInteger w) = closing_integer (worded_form w)
rule_view code.ClosesAttribute = closing_attribute (λ name. form_is.Attribute name)
rule_view code.Encloses = encloses
rule_view (code.Joins form) = joining form
rule_view (code.Wraps g form) = wraps g form
