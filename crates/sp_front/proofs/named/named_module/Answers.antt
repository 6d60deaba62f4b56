use Rattle.std.proofs.Common.{None, Some, ap, sym, refl}
use Rattle.sp_front.specs.declared.entries.Entry.TheVariants.{Held, Refused}
use Rattle.sp_front.proofs.Noting.{seen_same, seen_more}
use Rattle.sp_front.proofs.named.named_module.Goals as goal

pub returns-then-is_taken-clause-seen : goal.returns-then-is_taken-clause-seen
returns-then-is_taken-clause-seen c = λ before are. seen_same c.args.seen.now before (Refused None c.in_ok-refusal.refusal) refl are

pub returns-clause-seen : goal.returns-clause-seen
returns-clause-seen c = λ before are. seen_more c.args.seen.now c.note.new.self before (Held c.args.file) c.name_of.result.now (ap Some (sym c.name_of.ensures)) c.in_ok-note.ensures are
