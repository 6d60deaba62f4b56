-- Behind a token that is not too deep the nesting is bounded.
use Rattle.std.proofs.Common.{zero, suc, ◌≤◌, List, [], ◌∷◌, arith}
use Rattle.std.specs.Prelude.{All}
use Rattle.sp_lex.specs.Nesting.{level_in, level, counted, anew, closed, after, IsBounded}
use Rattle.sp_lex.specs.declared.nesting.Bracket.{Bracket}
use Rattle.sp_lex.specs.declared.nesting.Nesting.{Nesting}
use Rattle.sp_lex.specs.declared.nesting.Role.{Role}
use Rattle.sp_lex.specs.declared.nesting.Role.TheVariants as role

abbrev Low : Bracket → Type 0
Low bracket = level_in bracket ≤ 64

more_low : (bracket : Bracket) (outer : List Bracket) → Low bracket → All Low outer → All Low (bracket ∷ outer)
more_low bracket outer here rest zero d h = here
more_low bracket outer here rest (suc k) d h = rest k d (omega arith)

closed_counted : (last : Bracket) (outer : List Bracket) → Low last → All Low outer → IsBounded (closed counted last outer)
closed_counted last [] low all = (omega arith, λ k d h. absurd (omega arith))
closed_counted last (bracket ∷ outer) low all =
    let first : level_in bracket ≤ 64 = all 0 bracket (omega arith) in
    (omega arith, λ k d h. all (suc k) d (omega arith))

closed_anew : (last : Bracket) (outer : List Bracket) → Low last → All Low outer → IsBounded (closed anew (anew last) outer)
closed_anew last [] low all = (omega arith, λ k d h. absurd (omega arith))
closed_anew last (bracket ∷ outer) low all =
    let first : level_in bracket ≤ 64 = all 0 bracket (omega arith) in
    (omega arith, λ k d h. all (suc k) d (omega arith))

pub after_bounded : (nesting : Nesting) (r : Role) → IsBounded nesting → level nesting r ≤ 64 → IsBounded (after nesting r)
after_bounded nesting role.Plain h low = h
after_bounded nesting role.Counts h low = (omega arith, h.1)
after_bounded nesting role.EndsPart h low = (omega arith, h.1)
after_bounded nesting role.OpensPair h low = (omega arith, more_low nesting.here nesting.outer low h.1)
after_bounded nesting role.OpensBlock h low = (omega arith, more_low (anew nesting.here) nesting.outer (omega arith) h.1)
after_bounded nesting role.ClosesPair h low = closed_counted nesting.here nesting.outer low h.1
after_bounded nesting role.ClosesBlock h low = closed_anew nesting.here nesting.outer low h.1
