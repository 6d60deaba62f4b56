use Rattle.std.proofs.Common.{◌∙◌, ap, sym}
use Rattle.sp_ast.specs.Trees.{span_of}
use Rattle.sp_solver.specs.Told.{told}
use Rattle.sp_names.specs.Names.{means}
use Rattle.sp_names.proofs.Behind.{path_is}
use Rattle.sp_names.proofs.names.Names.means.Goals as goal

pub returns : goal.returns
returns c =
    c.names_mean.ensures
    ∙ ap (means c.args.self.now (told c.args.known.now) c.args.owner) (sym (path_is (span_of c.args.path.now) c.args.path.now c.names.result c.names.ensures))
