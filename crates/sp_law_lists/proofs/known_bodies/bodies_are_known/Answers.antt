use Rattle.sp_type_stmts.specs.Statements.{typed_body}
use Rattle.sp_law_lists.proofs.known_types_lemmas.Bodies.{stmt_whole}
use Rattle.sp_law_lists.proofs.known_bodies_lemmas.Stmts.{body_known}
use Rattle.sp_law_lists.proofs.known_bodies.bodies_are_known.Goals as goal

pub returns : goal.returns
returns c = λ g only k m is_type is_path b wanted slots t known blind decides is clear quiet.
    stmt_whole k wanted m (typed_body b g slots t).0 (body_known only k m is_type is_path blind b wanted g known decides slots t is clear quiet) quiet
