use Rattle.std.proofs.Common.{ℕ, ◌≡◌, ap, ◌∙◌, List, [], Option, map}
use Rattle.std.proofs.lemmas.Result.{IfOk-weaker}
use Rattle.sp_ast.specs.Trees.{Tree}
use Rattle.sp_types.specs.Types.{Ty}
use Rattle.sp_solver.specs.Told.{told}
use Rattle.sp_type_context.specs.Contexts.{Around}
use Rattle.sp_type_values.specs.Answers.{values}
use Rattle.sp_type_declarations.specs.Conversions.{endless}
use Rattle.sp_type_list_context.specs.Contexts.{homes, all_parameters, seeing, seeing_parameters}
use Rattle.sp_type_list_context.specs.Holds.{here_told, seeing_told}
use Rattle.sp_type_declarations.proofs.conversion_rows.conversions.Goals as goal

pub returns : goal.returns
returns c =
    let list = c.args.known.now.row.now.0 in
    let types = told c.args.known.now.row.now.1 in
    let known = told c.args.known.now.answers.now in
    let nothing : ℕ → Option Ty = told [] in
    let worth = values list types known in
    let stored = c.args.stored.now in
    let around = homes list types known nothing in
    let members_are : c.in_ok-members.members ≡ list =
    c.in_ok-members.ensures ∙ c.names.ensures ∙ ap (λ (t : List Tree × List (Option Ty)). t.0) c.tables-tables.ensures in
    let seen_are : c.deref-3.result.now ≡ all_parameters list types known nothing =
    c.deref-3.ensures.value ∙ c.in_ok-seen.ensures ∙ c.deref.ensures.value ∙ c.in_ok-parameters.ensures in
    let homes_are : map here_told c.deref-2.result.now ≡ around = ap (map here_told) c.deref-2.ensures.value ∙ c.in_ok-homes.ensures in
    let contexts_are : map seeing_told c.deref-4.result.now ≡ seeing_parameters list types known nothing =
    ap (map seeing_told) c.deref-4.ensures.value ∙ c.in_ok-contexts.ensures ∙ ap (λ (gs : List Around). seeing gs c.deref-3.result.now) homes_are ∙ ap (seeing around) seen_are in
    let sites = c.args.sites.now in
    IfOk-weaker c.at_sites.result (λ v. v.items ≡ endless c.in_ok-members.members (map seeing_told c.deref-4.result.now) worth stored sites)
    (λ v. v.items ≡ endless list (seeing_parameters list types known nothing) worth stored sites)
    (λ v is. is ∙ ap (λ (l : List Tree). endless l (map seeing_told c.deref-4.result.now) worth stored sites) members_are ∙ ap (λ (gs : List Around). endless list gs worth stored sites) contexts_are)
    c.at_sites.ensures
