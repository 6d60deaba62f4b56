use Rattle.std.proofs.Common.{drop}
use Rattle.sp_meaning.specs.Globals.{globals_of}
use Rattle.sp_code_programs.specs.programs.Units.{member_kinds}
use Rattle.sp_lower_tables.proofs.Numbered.{Leads}
use Rattle.sp_lower_tables.proofs.kinds.add_members.Given as goal

abbrev pub invariant-loop-member : goal.invariant-loop-member
invariant-loop-member l = Leads (member_kinds (globals_of l.list).ranges) l.fn.out l.out l.fn.numbers.items l.numbers.items l.members (drop l.member-index l.members)
