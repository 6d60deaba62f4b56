use Rattle.std.proofs.Common.{sym, ◌∙◌}
use Rattle.sp_solver.specs.Told.{told}
use Rattle.sp_name_answers.proofs.Opens.{asked, ready_to, done_is_tried}
use Rattle.sp_name_answers.proofs.aliases.SystemQuestions.attempt.Goals as goal

pub returns-in_ok-found-in-None-clause-begun : goal.returns-in_ok-found-in-None-clause-begun
returns-in_ok-found-in-None-clause-begun c =
    let s = c.args.self.now in
    let xs = asked s.names.now s.asks.items c.args.i c.index.result.now c.deref.result.now c.requires.here s.all s.each c.index.ensures c.deref.ensures.value in
    ready_to s.names.now (told c.args.known.now) c.args.i c.next_open.new.cursor c.deref.result.now xs c.next_open.ensures.begun

pub returns-in_ok-found-in-None-clause-tried : goal.returns-in_ok-found-in-None-clause-tried
returns-in_ok-found-in-None-clause-tried c =
    let s = c.args.self.now in
    let xs = asked s.names.now s.asks.items c.args.i c.index.result.now c.deref.result.now c.requires.here s.all s.each c.index.ensures c.deref.ensures.value in
    done_is_tried s.names.now (told c.args.known.now) c.args.i c.deref.result.now c.in_ok-found-in-None.found c.requires.here xs (sym c.in-None.is ∙ c.next_open.ensures.open) c.in_ok-found-in-None.ensures
