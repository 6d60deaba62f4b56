-- What events tell, and whether hooks are written as their events want them.
use Rattle.std.specs.Prelude.{Bool, true, false, not, ◌&&◌, ◌||◌, List, [], ◌∷◌}
use Rattle.sp_words.specs.declared.words.HookName.{HookName}
use Rattle.sp_words.specs.declared.words.HookName.TheVariants as event_is
use Rattle.sp_numbers.specs.declared.width.Width.TheVariants as width
use Rattle.sp_types.specs.Types.{word, same, is_known}
use Rattle.sp_types.specs.declared.words.Word.{Word}
use Rattle.sp_types.specs.declared.words.Word.TheVariants as word_is
use Rattle.sp_typed_units.specs.declared.declarations.Parameter.{Parameter}
use Rattle.sp_typed_units.specs.declared.declarations.HookOf.{HookOf}
use Rattle.sp_typed_units.specs.declared.declarations.HookOf.TheVariants as hook_of

-- What an event tells: where bytes are missing or were skipped, and how many; old and new bytes that overlap; bytes that never
-- came in order. All others tell nothing.
abbrev pub event_tells : HookName → List Word
event_tells event_is.Gap = word_is.Uint width.W64 ∷ word_is.Uint width.W64 ∷ []
event_tells event_is.Skipped = word_is.Uint width.W64 ∷ []
event_tells event_is.Overlap = word_is.Uint width.W64 ∷ word_is.Bytes ∷ word_is.Bytes ∷ []
event_tells event_is.Undelivered = word_is.Uint width.W64 ∷ word_is.Bytes ∷ []
event_tells _ = []

-- the events of sinks, whose bodies see their parameters and the plain ones of their unit alone
abbrev pub is_sink_event : HookName → Bool
is_sink_event event_is.Gap = true
is_sink_event event_is.Skipped = true
is_sink_event event_is.Overlap = true
is_sink_event event_is.Undelivered = true
is_sink_event _ = false

abbrev pub is_of_sink : HookOf → Bool
is_of_sink (hook_of.Unit u e) = is_sink_event e
is_of_sink _ = false

abbrev pub is_of_elements : HookOf → Bool
is_of_elements (hook_of.Elements u m) = true
is_of_elements (hook_of.AnonymousElements u) = true
is_of_elements _ = false

-- A parameter of a hook is plain and of the type that is told. Of a type that isn't known nothing is asked.
abbrev pub is_told : Word → Parameter → Bool
is_told w p = not p.inout && (not (is_known p.ty) || same p.ty (word w))

abbrev pub are_told : List Word → List Parameter → Bool
are_told [] [] = true
are_told (w ∷ ws) (p ∷ ps) = is_told w p && are_told ws ps
are_told _ _ = false

-- Whether a hook is written as what it is of wants it: an event of a unit has the parameters that it tells and no `foreach`, all
-- others have no parameters, and `foreach` stands on a container. Of a hook of nothing nothing more is asked.
abbrev pub fits : HookOf → Bool → Bool → List Parameter → Bool
fits hook_of.Nothing each container ps = true
fits (hook_of.Unit u e) each container ps = not each && are_told (event_tells e) ps
fits (hook_of.Field u m) each container ps = are_told [] ps
fits (hook_of.Elements u m) each container ps = container && are_told [] ps
fits (hook_of.Anonymous u) each container ps = are_told [] ps
fits (hook_of.AnonymousElements u) each container ps = container && are_told [] ps
