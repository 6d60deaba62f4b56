-- Frames as plain data.
use Rattle.std.specs.Prelude.{List, [], ◌∷◌}
use Rattle.sp_base.specs.declared.places.ParseError.{ParseError}
use Rattle.sp_meaning_states.specs.States.{Error}
use Rattle.sp_meaning_states.specs.Scopes.{Called, Scope, InUnit, InParts, InFailing, InCall}
use Rattle.sp_meaning_states.specs.Scopes as called_is
use Rattle.sp_code.specs.Machine as plain
use Rattle.sp_frames.specs.declared.frame.Callee.{Callee}
use Rattle.sp_frames.specs.declared.frame.Callee.TheVariants as callee_is
use Rattle.sp_frames.specs.declared.frame.Frame.{Frame}
use Rattle.sp_frames.specs.declared.frame.Frame.TheVariants.{Unit, Parts, Failing, Call}

abbrev pub called : Callee → Called
called callee_is.Function = called_is.Called.Function
called (callee_is.Hook each) = called_is.Called.Hook each
called callee_is.FailingHook = called_is.Called.FailingHook

-- an error of the fiber's own input, outside of views
abbrev pub error_of : ParseError → Error
error_of e = record { kind = e.kind; text = e.text; place = e.offset; level = 0; overs = [] }

-- the open construct, the address behind it, and the operands below it, the top first
abbrev pub frame_of : Frame → plain.Frame
frame_of (Unit keeps instance start own locals to operands) = record { scope = InUnit keeps instance start own locals; to = to; below = operands }
frame_of (Parts failing ending) = record { scope = InParts failing; to = ending; below = [] }
frame_of (Failing error ending) = record { scope = InFailing (error_of error); to = ending; below = [] }
frame_of (Call callee own locals to operands) = record { scope = InCall (called callee) own locals; to = to; below = operands }

abbrev pub frames_of : List Frame → List plain.Frame
frames_of [] = []
frames_of (f ∷ fs) = frame_of f ∷ frames_of fs
