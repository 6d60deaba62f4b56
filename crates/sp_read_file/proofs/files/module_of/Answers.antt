use Rattle.sp_lex.specs.Faults.{OnDiag}
use Rattle.sp_read_unit.proofs.Whole.{passed_on}
use Rattle.sp_read_file.specs.Files.{IsUnreadable}
use Rattle.sp_read_file.proofs.Endings.{module_by, unreadable_by, module_unreadable}
use Rattle.sp_read_file.proofs.files.module_of.Goals as goal

pub returns-in_err-tokens-clause-unreadable : goal.returns-in_err-tokens-clause-unreadable
returns-in_err-tokens-clause-unreadable c =
    passed_on c.from_residual.result c.in_err-tokens.field-0.0 (λ f. OnDiag (λ span kind. IsUnreadable c.args.text.now span kind) f) c.from_residual.ensures.1
    (unreadable_by c.args.text.now c.in_err-tokens.field-0.0 c.in_err-tokens.ensures.fault c.in_err-tokens.ensures.least)

pub returns-in_err-module-clause-unreadable : goal.returns-in_err-module-clause-unreadable
returns-in_err-module-clause-unreadable c =
    passed_on c.from_residual-in_err-module.result c.in_err-module.field-0.0 (λ f. OnDiag (λ span kind. IsUnreadable c.args.text.now span kind) f) c.from_residual-in_err-module.ensures.1
    (module_unreadable c.args.text.now c.in_ok-tokens.tokens c.in_err-module.field-0.0 c.in_ok-tokens.ensures.text (record { read = c.in_ok-tokens.ensures.tokens; right = c.in_ok-tokens.ensures.right }) c.in_err-module.ensures.refused)

pub returns-clause-module : goal.returns-clause-module
returns-clause-module c =
    module_by c.args.text.now c.in_ok-tokens.tokens c.in_ok-module.module c.in_ok-tokens.ensures.text (record { read = c.in_ok-tokens.ensures.tokens; right = c.in_ok-tokens.ensures.right }) c.in_ok-module.ensures.tree
