use Rattle.std.proofs.Common.{ap, sym, subst, ◌∙◌, Some, arith, length}
use Rattle.sp_front.specs.inside.Seen.{AreSeen}
use Rattle.sp_front.specs.Asked.{asked_for}
use Rattle.sp_front.proofs.Asking.{err_is, asked_part, room_part, room_all, full_none}
use Rattle.sp_front.proofs.Missing.{imported_by}
use Rattle.sp_front.proofs.Noting.{seen_more}
use Rattle.sp_front.proofs.follow.add_import.Goals as goal

pub returns-clause-seen : goal.returns-clause-seen
returns-clause-seen g c =
    let e = c.in-Some.entry in
    let x = c.args.import.now.name in
    let found = imported_by (g.M.Modules.files c.args.modules.now) c.args.directories.now x c.in_ok-entry.field-0 e c.in-Some.is c.in_ok-entry.ensures.found in
    subst (λ es. AreSeen c.note.new.self es) (sym c.in_ok-push_entry.ensures)
    (seen_more c.args.seen.now c.note.new.self c.args.entries.now.items e c.as_str.result.now (found ∙ ap Some (sym c.as_str.ensures)) c.in_ok-note.ensures c.requires.seen)

pub returns-in_err-refusal-2-clause-asks_part : goal.returns-in_err-refusal-2-clause-asks_part
returns-in_err-refusal-2-clause-asks_part g c =
    let l = c.len.ensures in
    let not = c.if-len-ge-MOST_MODULES.false in
    let files = g.M.Modules.files c.args.modules.now in
    let before = g.M.Modules.asked c.args.modules.now in
    let now = g.M.Modules.asked c.read_import.new.modules in
    let dirs = c.args.directories.now in
    let x = c.args.import.now.name in
    let part = room_part files dirs (length c.args.entries.now.items) x before now (omega (arith, l, not)) (asked_part files before now (λ told. asked_for told dirs x) c.in_ok-entry.ensures.asks) in
    err_is c.from_residual-in_err-refusal-2.result part

pub returns-in_default-clause-asks_part : goal.returns-in_default-clause-asks_part
returns-in_default-clause-asks_part g c =
    let l = c.len.ensures in
    let not = c.if-len-ge-MOST_MODULES.false in
    let files = g.M.Modules.files c.args.modules.now in
    let before = g.M.Modules.asked c.args.modules.now in
    let now = g.M.Modules.asked c.read_import.new.modules in
    let dirs = c.args.directories.now in
    let x = c.args.import.now.name in
    let part = room_part files dirs (length c.args.entries.now.items) x before now (omega (arith, l, not)) (asked_part files before now (λ told. asked_for told dirs x) c.in_ok-entry.ensures.asks) in
    part

pub returns-in_err-note-clause-asks_part : goal.returns-in_err-note-clause-asks_part
returns-in_err-note-clause-asks_part g c =
    let l = c.len.ensures in
    let not = c.if-len-ge-MOST_MODULES.false in
    let files = g.M.Modules.files c.args.modules.now in
    let before = g.M.Modules.asked c.args.modules.now in
    let now = g.M.Modules.asked c.read_import.new.modules in
    let dirs = c.args.directories.now in
    let x = c.args.import.now.name in
    let part = room_part files dirs (length c.args.entries.now.items) x before now (omega (arith, l, not)) (asked_part files before now (λ told. asked_for told dirs x) c.in_ok-entry.ensures.asks) in
    err_is c.from_residual-in_err-note.result part

pub returns-in_err-push_entry-clause-asks_part : goal.returns-in_err-push_entry-clause-asks_part
returns-in_err-push_entry-clause-asks_part g c =
    let l = c.len.ensures in
    let not = c.if-len-ge-MOST_MODULES.false in
    let files = g.M.Modules.files c.args.modules.now in
    let before = g.M.Modules.asked c.args.modules.now in
    let now = g.M.Modules.asked c.read_import.new.modules in
    let dirs = c.args.directories.now in
    let x = c.args.import.now.name in
    let part = room_part files dirs (length c.args.entries.now.items) x before now (omega (arith, l, not)) (asked_part files before now (λ told. asked_for told dirs x) c.in_ok-entry.ensures.asks) in
    err_is c.from_residual-in_err-push_entry.result part

pub returns-then-len-ge-MOST_MODULES-clause-asks_vain : goal.returns-then-len-ge-MOST_MODULES-clause-asks_vain
returns-then-len-ge-MOST_MODULES-clause-asks_vain g c =
    let l = c.len.ensures in
    let full = c.if-len-ge-MOST_MODULES.true in
    full_none (g.M.Modules.files c.args.modules.now) c.args.directories.now (length c.args.entries.now.items) c.args.import.now.name (g.M.Modules.asked c.args.modules.now) (omega (arith, l, full))

pub returns-in_default-clause-asks_vain : goal.returns-in_default-clause-asks_vain
returns-in_default-clause-asks_vain g c =
    let l = c.len.ensures in
    let not = c.if-len-ge-MOST_MODULES.false in
    let before = g.M.Modules.asked c.args.modules.now in
    let now = g.M.Modules.asked c.read_import.new.modules in
    room_all (g.M.Modules.files c.args.modules.now) c.args.directories.now (length c.args.entries.now.items) c.args.import.now.name before now (omega (arith, l, not)) c.in_ok-entry.ensures.asks
