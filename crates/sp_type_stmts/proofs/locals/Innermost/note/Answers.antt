use Rattle.std.proofs.Common.{◌≡◌, Some, cond, ap, ◌∙◌, arith}
use Rattle.std.proofs.lemmas.Map.Text.{text_keys}
use Rattle.std.specs.Str.{bytes_eq}
use Rattle.indexmap.specs.IndexMap.{get_by_text}
use Rattle.sp_type_stmts.specs.inside.Tables.{held}
use Rattle.sp_type_stmts.proofs.Tabled.{noted_told}
use Rattle.sp_type_stmts.proofs.locals.Innermost.note.Goals as goal

pub returns-clause-noted : goal.returns-clause-noted
returns-clause-noted c = λ x.
    let u : get_by_text c.insert.new.self x ≡ cond (bytes_eq x c.args.name.now) (Some (Some c.args.known)) (get_by_text c.args.self.now.by_name x) = grind (arith, text_keys) in
    ap held u ∙ noted_told (bytes_eq x c.args.name.now) (Some c.args.known) (get_by_text c.args.self.now.by_name x)
