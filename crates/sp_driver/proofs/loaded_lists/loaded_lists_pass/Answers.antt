use Rattle.std.proofs.Common.{◌≡◌, None, sym, subst}
use Rattle.sp_load.specs.Loads.{trees_of}
use Rattle.sp_unbuilt.specs.Unbuilt.{first_unbuilt}
use Rattle.sp_law_lists.specs.fit_list.Passes.{ListPasses}
use Rattle.sp_driver.proofs.ReadModules.{are_formed, are_apart}
use Rattle.sp_driver.proofs.loaded_lists.loaded_lists_pass.Goals as goal

pub returns : goal.returns
returns c = λ texts files names directories fs t loaded typed built.
    let read = c.listed_modules_are_read.ensures files names directories fs loaded.0 in
    subst ListPasses (sym typed.1)
    (c.lists_pass.ensures texts (trees_of fs) typed.0 (are_formed fs read) loaded.1 (subst (λ u. first_unbuilt texts (trees_of fs) u ≡ None) typed.1 built) (are_apart c.modules_are_apart.ensures fs read))
