-- Parts of a program that are what was emitted.
use Rattle.std.specs.Prelude.{◌≡◌, [], length}
use Rattle.sp_code.specs.Machine.{Plain}
use Rattle.sp_code.specs.Programs.{kinds_from, stacks_from, opens_from, shapes_at}
use Rattle.sp_code_programs.specs.exprs.Marked.{HasAt, Shows}
use Rattle.sp_emit.specs.declared.emission.Emission.{Emission}
use Rattle.sp_emit.specs.Emitted.{Emitted}

-- Each program with this code and these constants has what was emitted, from its first address on; so do the shapes show it, by the
-- kinds and the rows of the tables. There are no more instructions than were emitted, and no more shapes.
pub record IsEmission (e : Emitted) (x : Emission) : Type 0 where
  pub kinds : kinds_from [] x.kinds.items ≡ e.kinds
  pub counted : length x.code.items ≡ length e.marks
  pub counted_shapes : length x.at.items ≡ length e.marks
  pub code : (p : Plain) → p.code ≡ x.code.items → p.consts ≡ x.consts → HasAt p 0 e.marks
  pub shapes : Shows (shapes_at e.kinds (stacks_from [] x.stacks.items) (opens_from e.kinds (stacks_from [] x.stacks.items) [] x.opens.items) x.at.items) 0 e.marks
