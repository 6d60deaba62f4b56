-- A unit in which all is built has no sinks and is no filter.
use Rattle.std.specs.Prelude.{false, ◌||◌, ◌++◌}
use Rattle.std.proofs.Common.{◌≡◌, refl, ap, ◌∙◌, []}
use Rattle.sp_ast.specs.Trees.{Tree, Trees, absent, row, node, none, more}
use Rattle.sp_ast.specs.declared.forms.Form.TheVariants as form_is
use Rattle.sp_ast.specs.declared.forms.ItemForm.TheVariants as item_is
use Rattle.sp_type_fields.specs.Parts.{Fields}
use Rattle.sp_type_units.specs.Items.{sink_in, sinks_in, is_filter, has_filter}
use Rattle.sp_law_lists.proofs.known_types_lemmas.Full.{never}
use Rattle.sp_law_lists.proofs.passing_list_lemmas.BuiltTrees.{IsBuilt, AreBuilt, at_tree}
use Rattle.sp_law_lists.proofs.passing_list_lemmas.Readings.{first_built, rest_built}

no_sink : (fields : Fields) (x : Tree) → IsBuilt x → sink_in fields x ≡ []
no_sink fields (node (form_is.Item item_is.Sink) span ts) h = never (at_tree (form_is.Item item_is.Sink) span ts h)
no_sink fields (node (form_is.Item form) span ts) h = refl
no_sink fields (node form span ts) h = refl
no_sink fields absent h = refl
no_sink fields (row ts) h = refl

no_filter : (x : Tree) → IsBuilt x → is_filter x ≡ false
no_filter (node (form_is.Item item_is.Filter) span ts) h = never (at_tree (form_is.Item item_is.Filter) span ts h)
no_filter (node (form_is.Item form) span ts) h = refl
no_filter (node form span ts) h = refl
no_filter absent h = refl
no_filter (row ts) h = refl

pub no_sinks : (fields : Fields) (xs : Trees) → AreBuilt xs → sinks_in fields xs ≡ []
no_sinks fields none h = refl
no_sinks fields (more x xs) h = ap (λ ys. ys ++ sinks_in fields xs) (no_sink fields x (first_built x xs h)) ∙ no_sinks fields xs (rest_built x xs h)

pub no_filters : (xs : Trees) → AreBuilt xs → has_filter xs ≡ false
no_filters none h = refl
no_filters (more x xs) h = ap (λ b. b || has_filter xs) (no_filter x (first_built x xs h)) ∙ no_filters xs (rest_built x xs h)
