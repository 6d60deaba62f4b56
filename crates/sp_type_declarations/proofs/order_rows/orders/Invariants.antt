use Rattle.std.proofs.Common.{◌≡◌, ◌++◌, drop}
use Rattle.sp_solver.specs.Told.{told}
use Rattle.sp_names.specs.Declarations.{rows}
use Rattle.sp_type_declarations.specs.FunctionsAndOrders.{orders_among, orders}
use Rattle.sp_type_declarations.proofs.order_rows.orders.Given as goal

abbrev pub invariant-loop-row : goal.invariant-loop-row
invariant-loop-row l =
    l.all.items ++ orders_among l.known.row.now.0 (told l.known.row.now.1) (told l.known.answers.now) (told l.stored) (drop l.row-index (rows l.known.row.now.0)) ≡ orders l.known.row.now.0 (told l.known.row.now.1) (told l.known.answers.now) (told l.stored)
