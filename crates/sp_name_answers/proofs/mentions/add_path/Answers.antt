use Rattle.sp_ast.specs.Trees.{span_of}
use Rattle.sp_names.proofs.Behind.{path_is}
use Rattle.sp_name_answers.proofs.mentions.add_path.Goals as goal

pub returns : goal.returns
returns c = rw (path_is (span_of c.args.path.now) c.args.path.now c.names.result c.names.ensures) c.add_names.ensures
