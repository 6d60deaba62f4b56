use Rattle.std.proofs.Common.{[], ◌∷◌, ◌++◌, map, ap, sym, ◌∙◌}
use Rattle.std.proofs.lemmas.List.{map_push}
use Rattle.sp_type_fields.specs.Readings.{in_vain}
use Rattle.sp_type_fields.proofs.readings.all_in_vain.Goals as goal

pub loop-e-preserved : goal.loop-e-preserved
loop-e-preserved c =
    c.in_ok-push.ensures.items ∙ ap (λ l. l ++ c.in_vain.result ∷ []) c.loop-e.invariant
    ∙ ap (λ x. map in_vain c.loop-e.yielded ++ x ∷ []) c.in_vain.ensures ∙ sym (map_push in_vain c.loop-e.yielded c.in-Some.e)
