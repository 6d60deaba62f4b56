use Rattle.std.proofs.Common.{◌≡◌, ◌++◌, drop}
use Rattle.sp_solver.specs.Told.{told}
use Rattle.sp_names.specs.declared.sort.DeclSort.TheVariants as sort_is
use Rattle.sp_names.specs.Declarations.{all_of}
use Rattle.sp_type_values.specs.TypedRows.{own_enums}
use Rattle.sp_type_values.proofs.known.Known.add_enums.Given as goal

abbrev pub invariant-loop-declaration : goal.invariant-loop-declaration
invariant-loop-declaration l =
    l.list.items ++ own_enums l.self.row.now.0 (told l.self.row.now.1) (told l.self.answers.now) l.owner (drop l.declaration-index l.numbers) ≡ l.fn.list.items ++ own_enums l.self.row.now.0 (told l.self.row.now.1) (told l.self.answers.now) 4 (all_of sort_is.Enum l.self.row.now.0)
