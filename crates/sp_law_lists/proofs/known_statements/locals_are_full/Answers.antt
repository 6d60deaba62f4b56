use Rattle.sp_law_lists.proofs.known_statements_lemmas.Declared.{body_declares}
use Rattle.sp_law_lists.proofs.known_statements.locals_are_full.Goals as goal

pub returns : goal.returns
returns c = λ g only k m is_type is_path b wanted slots t known blind decides is clear quiet.
    body_declares only k m is_type is_path blind b wanted g known decides slots t is clear quiet
