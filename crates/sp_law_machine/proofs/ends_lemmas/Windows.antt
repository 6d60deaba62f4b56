-- The steps of a machine that is lent only the bytes from a base on.
use Rattle.std.proofs.Common.{◌≡◌, ℕ, zero, suc, ◌≤◌, List, length, drop, refl, sym, ap, ◌∙◌, arith}
use Rattle.sp_code.specs.Machine.{step}
use Rattle.sp_law_machine.specs.continues.Windows.{reads_window}
use Rattle.sp_law_machine.proofs.continues_lemmas.Windows.{windows_serve}
use Rattle.sp_law_machine.specs.ends.Ending.{whole}
use Rattle.sp_law_machine.specs.ends.Laws.{WindowStepsFall}
use Rattle.sp_law_machine.proofs.ends_lemmas.Falls.{steps_fall}

pub base_is_within : (base : ℕ) (bytes : List ℕ) → base ≤ length (whole base bytes)
base_is_within zero bytes = omega arith
base_is_within (suc base) bytes = omega (arith, base_is_within base bytes)

pub window_of_whole : (base : ℕ) (bytes : List ℕ) → drop base (whole base bytes) ≡ bytes
window_of_whole zero bytes = refl
window_of_whole (suc base) bytes = window_of_whole base bytes

pub window_steps_fall : WindowStepsFall
window_steps_fall p turns verdict base bytes close c d es from can e =
    let s = whole base bytes in
    let served = windows_serve p verdict base s close c (base_is_within base bytes) from in
    let same = ap (λ w. step p (reads_window verdict base w close) c) (window_of_whole base bytes) in
    steps_fall p turns verdict s close c d es can (sym served ∙ same ∙ e)
