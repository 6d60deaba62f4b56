use Rattle.std.proofs.Common.{ℕ, ◌≡◌, true, drop, map}
use Rattle.sp_type_hooks.specs.Fields.{earlier, first_stored, elements_of, one_of}
use Rattle.sp_type_hooks.specs.inside.Tables.{has_mark, type_told, elements_told}
use Rattle.sp_type_hooks.proofs.table.gathered.Given as goal

abbrev pub invariant-loop-i : goal.invariant-loop-i
invariant-loop-i g l =
    let contexts = map g.C.Context.around l.contexts in
    let values = g.V.Constants.values l.constants in
    ((x : ℕ × ℕ × ℕ) → has_mark l.wanted x ≡ true → earlier (type_told l.types.stored x) (first_stored l.tables.0 contexts values x (drop l.i l.sites)) ≡ first_stored l.tables.0 contexts values x l.sites)
    × ((x : ℕ × ℕ × ℕ) → has_mark l.wanted x ≡ true → elements_told l.types x (elements_of l.tables.0 contexts values x (drop l.i l.sites)) ≡ one_of (elements_of l.tables.0 contexts values x l.sites))
