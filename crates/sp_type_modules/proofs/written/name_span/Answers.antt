use Rattle.std.proofs.Common.{◌∙◌, ap, sym, get_or}
use Rattle.std.proofs.lemmas.List.{get_or_past}
use Rattle.sp_ast.specs.Trees.{absent, span_of}
use Rattle.sp_type_modules.proofs.Paths.{parts_are}
use Rattle.sp_type_modules.proofs.written.name_span.Goals as goal

pub returns-in-Some : goal.returns-in-Some
returns-in-Some c =
    let parts = parts_are (span_of c.args.path.now) c.args.path.now c.names.result c.names.ensures in
    c.span.ensures ∙ ap span_of (c.in-Some.ensures.some.1 ∙ ap (λ l. get_or l c.args.place absent) (sym parts))

pub returns-in-None : goal.returns-in-None
returns-in-None c =
    let parts = parts_are (span_of c.args.path.now) c.args.path.now c.names.result c.names.ensures in
    ap span_of (sym (ap (λ l. get_or l c.args.place absent) parts ∙ get_or_past c.names.result c.args.place absent c.in-None.ensures.none))
