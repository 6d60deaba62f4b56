use Rattle.std.proofs.Common.{map, sym, ◌∙◌}
use Rattle.std.proofs.lemmas.List.{at_drop_all}
use Rattle.sp_type_hooks.specs.Fields.{earlier, first_stored, elements_of}
use Rattle.sp_type_hooks.specs.inside.Tables.{type_told, elements_told}
use Rattle.sp_type_hooks.proofs.Marked.{nothing_behind, one_more, one_more_element}
use Rattle.sp_type_hooks.proofs.table.gathered.Goals as goal

pub loop-i-preserved : goal.loop-i-preserved
loop-i-preserved g c =
    let list = c.args.tables.now.0 in
    let contexts = map g.C.Context.around c.args.contexts.now in
    let values = g.V.Constants.values c.args.constants.now in
    let sites = c.args.sites.now in
    let i = c.loop-i.i in
    let s = c.index-sites-i.result in
    let mark = c.in_ok-mark.mark in (
      λ x wanted. one_more list contexts values x sites i s mark (type_told c.loop-i.types.stored x) (type_told c.note.new.table.stored x)
          c.loop-i-test.true c.index-sites-i.is c.in_ok-mark.ensures (c.in_ok-note.ensures.stored x wanted) (c.loop-i.invariant.0 x wanted),
      λ x wanted. one_more_element list contexts values x sites i s mark (elements_told c.loop-i.types x) (elements_told c.note.new.table x)
          c.loop-i-test.true c.index-sites-i.is c.in_ok-mark.ensures (λ ts. c.in_ok-note.ensures.elements x ts wanted) (c.loop-i.invariant.1 x wanted),
    )

pub returns-clause-stored : goal.returns-clause-stored
returns-clause-stored g c = λ x wanted.
    let contexts = map g.C.Context.around c.args.contexts.now in
    let values = g.V.Constants.values c.args.constants.now in
    let stored = type_told c.loop-i.types.stored x in
    nothing_behind stored
    ∙ sym (at_drop_all (λ l. earlier stored (first_stored c.args.tables.now.0 contexts values x l)) c.args.sites.now c.loop-i.i c.loop-i-test.false)
    ∙ c.loop-i.invariant.0 x wanted

pub returns-clause-elements : goal.returns-clause-elements
returns-clause-elements g c = λ x wanted.
    let contexts = map g.C.Context.around c.args.contexts.now in
    let values = g.V.Constants.values c.args.constants.now in
    sym (at_drop_all (λ l. elements_told c.loop-i.types x (elements_of c.args.tables.now.0 contexts values x l)) c.args.sites.now c.loop-i.i c.loop-i-test.false)
    ∙ c.loop-i.invariant.1 x wanted
