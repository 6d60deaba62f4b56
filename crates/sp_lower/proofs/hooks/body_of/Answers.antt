use Rattle.std.proofs.Common.{List, ap, ◌∙◌}
use Rattle.sp_typed_units.specs.declared.declarations.Unit.{Unit as TypedUnit}
use Rattle.sp_meaning_states.specs.Scopes as called_is
use Rattle.sp_meaning.specs.Names.{hook_name}
use Rattle.sp_lower.proofs.hooks.body_of.Goals as goal

pub returns : goal.returns
returns c =
    record {
      called = ap called_is.Called.Hook c.is_foreach-each.ensures;
      named = c.in_ok-name.ensures ∙ ap (λ (l : List TypedUnit). hook_name l c.args.x.now.of) c.as_slice.ensures;
      told = c.in_ok-told.ensures;
    }
