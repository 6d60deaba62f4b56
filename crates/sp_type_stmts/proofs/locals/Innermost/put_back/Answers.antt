use Rattle.std.proofs.Common.{◌≡◌, true, Some, cond, is_some, ap, ◌∙◌, arith, rules}
use Rattle.std.proofs.lemmas.Map.Text.{text_keys}
use Rattle.std.specs.Str.{bytes_eq}
use Rattle.indexmap.specs.IndexMap.{get_by_text}
use Rattle.sp_type_stmts.specs.inside.Tables.{held}
use Rattle.sp_type_stmts.proofs.Tabled.{put_told}
use Rattle.sp_type_stmts.proofs.locals.Innermost.put_back.Goals as goal

pub returns-in-Some : goal.returns-in-Some
returns-in-Some c = λ x.
    let u : get_by_text (c.get_mut.follows.lender c.args.known) x ≡ cond (bytes_eq x c.args.name.now) (Some c.args.known) (get_by_text c.args.self.now.by_name x) = grind (arith, text_keys) in
    let there : is_some (get_by_text c.args.self.now.by_name c.args.name.now) ≡ true = search rules in
    ap held u ∙ put_told (bytes_eq x c.args.name.now) (is_some (get_by_text c.args.self.now.by_name c.args.name.now)) c.args.known (get_by_text c.args.self.now.by_name x) there
