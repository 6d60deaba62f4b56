use Rattle.std.proofs.Common.{◌≤◌, ◌+◌, ◌*◌, Option, None, Some, IfNone, slice_index_or, ap, sym, subst, ◌∙◌, arith}
use Rattle.std.specs.Char.{digit_value}
use Rattle.sp_methods.specs.Conversions.{number}
use Rattle.sp_lib.proofs.DigitsRead.{IsRead, read_more, read_below, above_2}
use Rattle.sp_lib.proofs.numerals.number.Goals as goal

given_none : {A : Type 0} (o : Option A) (P : Type 0) → P → IfNone o P
given_none None P p = p
given_none (Some x) P p = tt

pub returns-in_err-number-clause-none : goal.returns-in_err-number-clause-none
returns-in_err-number-clause-none c =
    let xs = c.args.digits.now in
    let i = c.loop-c.c-index in
    let t = c.loop-c.number * c.args.base + digit_value (slice_index_or xs i 0) in
    let read : IsRead c.args.base xs t (i + 1) = read_more c.args.base xs c.loop-c.number i (omega arith) c.loop-c.invariant in
    let low = read_below c.args.base xs t (i + 1) (above_2 c.args.base c.requires) read in
    let great = c.in_err-number.ensures in
    let digit = c.digit_value.ensures in
    let fact : 18446744073709551616 ≤ number c.args.base xs = omega arith in
    given_none _ _ fact

pub loop-c-preserved : goal.loop-c-preserved
loop-c-preserved c =
    let xs = c.args.digits.now in
    let i = c.loop-c.c-index in
    let is = c.in_ok-number.ensures ∙ ap (λ d. c.loop-c.number * c.args.base + d) c.digit_value.ensures in
    subst (λ t. IsRead c.args.base xs t (i + 1)) (sym is) (read_more c.args.base xs c.loop-c.number i (omega arith) c.loop-c.invariant)
