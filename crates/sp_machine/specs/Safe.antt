-- When a machine is safe: its code is sound, it keeps to the shapes, and its window holds all that it may still look at.
use Rattle.sp_window.specs.Windows.{Held}
use Rattle.sp_code.specs.Machine.{Plain, Config}
use Rattle.sp_code.specs.Shapes.{Shapes, Shaped, IsSound}
use Rattle.sp_law_machine.specs.continues.Windows.{From}

pub record IsSafe (p : Plain) (w : Held) (c : Config) : Type 0 where
  pub shapes : Shapes
  pub sound : IsSound p shapes
  pub shaped : Shaped p shapes c
  pub from : From w.base c
