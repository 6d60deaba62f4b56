use Rattle.std.specs.Prelude.{false}
use Rattle.sp_type_scopes.specs.Parameters.{with_parameters}
use Rattle.sp_law_lists.specs.known_types.Clear.{any_op}
use Rattle.sp_law_lists.proofs.whole_list_lemmas.Blind.{known_blind}
use Rattle.sp_law_lists.proofs.whole_list_lemmas.Decided.{decides, decides_under, parameters_told}
use Rattle.sp_law_lists.proofs.whole_list_lemmas.Functions.{function_whole}
use Rattle.sp_law_lists.proofs.whole_list.functions_are_known.Goals as goal

pub returns : goal.returns
returns c = λ t values g owner m is_type is_path d known told is names tests.
    function_whole t values g owner m is_type is_path d (known_blind t values) known
    (λ slots ps full. let inner = parameters_told t values slots any_op m is_type is_path g (told slots) 0 false ps in
    (decides t values slots any_op m is_type is_path (with_parameters 0 false ps g) inner, decides_under t values slots any_op m is_type is_path (with_parameters 0 false ps g) inner))
    is names tests
