use Rattle.std.proofs.Common.{◌≡◌, ◌∙◌, ap, sym, min, take, inl, inr}
use Rattle.std.proofs.lemmas.List.{take_all}
use Rattle.sp_regex.specs.Trees.{sequence, positions_of}
use Rattle.sp_regex.specs.Views.{node_syntax}
use Rattle.sp_regex.proofs.Positions.{same_positions}
use Rattle.sp_regex.proofs.tree.Regex.+positions.Goals as goal

pub returns-after-loop-part : goal.returns-after-loop-part
returns-after-loop-part t c =
    let parts = c.in-Sequence.parts.items in
    let is : positions_of (node_syntax c.self.inside.node) ≡ positions_of (sequence parts) =
    elim c.in-Sequence.is [ inl e ↦ ap (λ n. positions_of (node_syntax n)) e | inr e ↦ ap (λ n. positions_of (node_syntax n)) e ∙ sym (same_positions parts) ] in
    let all : take c.loop-part.part-index c.deref-part-items.result.now ≡ parts = take_all _ _ c.loop-part-test.false ∙ c.deref-part-items.ensures.value in
    c.loop-part.invariant ∙ ap (λ l. min (positions_of (sequence l)) 18446744073709551615) all
    ∙ ap (λ n. min n 18446744073709551615) (sym is ∙ ap positions_of c.self.view_is)
