use Rattle.std.proofs.Common.{◌≡◌, [], drop}
use denote.Shadow.{shadow}
use denote.Text.{Utf8}
use Rattle.sp_json.specs.inside.Tokens.{rise_from}
use Rattle.sp_json.proofs.order.are_rising.Given as goal

abbrev pub invariant-loop-name : goal.invariant-loop-name
invariant-loop-name g l = shadow (Utf8 l.last) × (rise_from l.last (drop l.name-index l.entries) ≡ rise_from [] l.entries)
