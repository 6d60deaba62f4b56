use Rattle.std.proofs.Common.{ℕ, ◌≡◌, IfOk, ap, subst, ◌∙◌, List, [], Option, map}
use Rattle.sp_ast.specs.Trees.{Tree}
use Rattle.sp_types.specs.Types.{Ty}
use Rattle.sp_solver.specs.Told.{told}
use Rattle.sp_type_context.specs.Contexts.{Around}
use Rattle.sp_type_members.specs.Tries.{AreStored}
use Rattle.sp_type_list_context.specs.Contexts.{homes, all_parameters, seeing, seeing_parameters}
use Rattle.sp_type_list_context.specs.Holds.{here_told, seeing_told}
use Rattle.sp_type_answers.specs.Settled.{first_contexts, worth}
use Rattle.sp_scope.proofs.resolving.stored_in.Goals as goal

pub returns : goal.returns
returns c =
    let list = c.args.known.now.row.now.0 in
    let types = c.args.known.now.row.now.1 in
    let values = c.args.known.now.answers.now in
    let nothing : ℕ → Option Ty = told [] in
    let around = homes list (told types) (told values) nothing in
    let members_are : c.in_ok-members.members ≡ list =
    c.in_ok-members.ensures ∙ c.names.ensures ∙ ap (λ (t : List Tree × List (Option Ty)). t.0) c.tables-tables.ensures in
    let seen_are : c.deref-3.result.now ≡ all_parameters list (told types) (told values) nothing =
    c.deref-3.ensures.value ∙ c.in_ok-seen.ensures ∙ c.deref.ensures.value ∙ c.in_ok-rows.ensures in
    let homes_are : map here_told c.deref-2.result.now ≡ around = ap (map here_told) c.deref-2.ensures.value ∙ c.in_ok-homes.ensures in
    let contexts_are : map seeing_told c.deref-4.result.now ≡ first_contexts list types values =
    ap (map seeing_told) c.deref-4.ensures.value ∙ c.in_ok-contexts.ensures ∙ ap (λ (gs : List Around). seeing gs c.deref-3.result.now) homes_are ∙ ap (seeing around) seen_are in
    subst (λ (l : List Tree). IfOk c.stored_types.result (λ v. AreStored l (first_contexts list types values) (worth list types values) v.items)) members_are
    (subst (λ (gs : List Around). IfOk c.stored_types.result (λ v. AreStored c.in_ok-members.members gs (worth list types values) v.items)) contexts_are c.stored_types.ensures)
