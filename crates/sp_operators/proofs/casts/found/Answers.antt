use Rattle.std.proofs.Common.{ap, sym, ◌∙◌}
use Rattle.sp_value.specs.Levels.{value_of}
use Rattle.sp_operators.proofs.CastTypes.{unsigned_goes, signed_goes, label_goes}
use Rattle.sp_operators.proofs.casts.found.Goals as goal

pub unreachable-requires : goal.unreachable-requires
unreachable-requires c =
    unsigned_goes c.args.a.now c.in-Uint.field-0 c.in-Uint.n c.args.to (sym (ap value_of c.in-Uint.is) ∙ c.level.ensures.value) c.in_default-to.not-Uint c.in_default-to.not-Int c.in_default-to.not-Enum c.requires

pub unreachable-requires-in_default-to-2 : goal.unreachable-requires-in_default-to-2
unreachable-requires-in_default-to-2 c =
    signed_goes c.args.a.now c.in-Int.field-0 c.in-Int.n c.args.to (sym (ap value_of c.in-Int.is) ∙ c.level.ensures.value) c.in_default-to-2.not-Uint c.in_default-to-2.not-Int c.in_default-to-2.not-Enum c.requires

pub unreachable-requires-in_default-to-3 : goal.unreachable-requires-in_default-to-3
unreachable-requires-in_default-to-3 c =
    label_goes c.args.a.now c.in-Enum.field-0 c.in-Enum.n c.args.to (sym (ap value_of c.in-Enum.is) ∙ c.level.ensures.value) c.in_default-to-3.not-Uint c.requires
