use Rattle.std.proofs.Common.{take, ap, sym, subst, ◌∙◌}
use Rattle.std.specs.Prelude.{IsUtf8}
use Rattle.sp_lib.proofs.Fronts.{ascii_is_utf8, ascii_up_to}
use Rattle.sp_lib.proofs.texts.ascii_front.Goals as goal

pub unreachable-requires : goal.unreachable-requires
unreachable-requires c = c.in-Err.ensures.cases.0 (subst (λ n. IsUtf8 (take n c.args.x.now)) (sym c.ascii_len.ensures.value) (ascii_is_utf8 c.args.x.now))

pub returns : goal.returns
returns c = ascii_up_to c.args.x.now c.in-Ok.text.now (c.in-Ok.ensures.cases.0 ∙ ap (λ n. take n c.args.x.now) c.ascii_len.ensures.value)
