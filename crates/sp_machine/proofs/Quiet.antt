-- What tells nothing where nothing was told tells nothing elsewhere.
use Rattle.std.proofs.Common.{List, [], ◌++◌, Result, Ok, Err, sym, ap, ◌∙◌, append-nil}
use Rattle.std.specs.Prelude.{IfOk}
use Rattle.sp_events.specs.declared.event.What.{What}
use Rattle.sp_code.specs.Machine.{Config, Next, Goes, Waits, Over}
use Rattle.sp_machine.specs.declared.machine.Stop.{Stop}
use Rattle.sp_machine.specs.declared.machine.Stop.TheVariants as stop_is
use Rattle.sp_machine.specs.Plain.{Does}

pub quiet : (r : Stop) (n : Next) (before after : Config) (es : List What) → Does r [] [] before after n → Does r es es before after n
quiet stop_is.GoesOn (Goes gs d) before after es h = (sym (append-nil es) ∙ ap (λ l. es ++ l) h.0, h.1)
quiet stop_is.Need (Waits m) before after es h = (ap (λ l. es) h.0, h.1)
quiet stop_is.Over (Over how st) before after es h = (ap (λ l. es) h.0, h.1)
quiet stop_is.GoesOn (Waits m) before after es h = absurd h
quiet stop_is.GoesOn (Over how st) before after es h = absurd h
quiet stop_is.Need (Goes gs d) before after es h = absurd h
quiet stop_is.Need (Over how st) before after es h = absurd h
quiet stop_is.Over (Goes gs d) before after es h = absurd h
quiet stop_is.Over (Waits m) before after es h = absurd h

pub quiet_ok : {E : Type 0} (r : Result Stop E) (n : Next) (before after : Config) (es : List What) → IfOk r (λ r. Does r [] [] before after n) → IfOk r (λ r. Does r es es before after n)
quiet_ok (Ok r) n before after es h = quiet r n before after es h
quiet_ok (Err e) n before after es h = h
