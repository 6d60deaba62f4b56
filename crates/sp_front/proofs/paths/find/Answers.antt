use Rattle.std.proofs.Common.{◌∙◌, ◌+◌, sym, subst, drop, None, Some, arith, inr}
use Rattle.sp_command.specs.Files.{Holds}
use Rattle.sp_front.specs.Imports.{paths_of}
use Rattle.sp_front.specs.Lists.{IsFirst, IsNone}
use Rattle.sp_front.specs.Asked.{asked_for}
use Rattle.sp_front.specs.inside.Asking.{Searching}
use Rattle.sp_front.proofs.Asking.{err_is, path_here, path_last, asked_part, search_on, search_found, search_last, search_part, search_stopped}
use Rattle.sp_front.proofs.paths.find.Goals as goal

pub returns-in_err-path-clause-asks_part : goal.returns-in_err-path-clause-asks_part
returns-in_err-path-clause-asks_part g c =
    let dirs = c.args.directories.now in
    let x = c.args.name.now in
    err_is c.from_residual-in_err-path.result
    (search_part (g.M.Modules.files c.args.modules.now) (g.M.Modules.asked c.args.modules.now) (g.M.Modules.asked c.loop-directory.modules) (paths_of dirs x) (paths_of (drop c.loop-directory.directory-index dirs) x) c.loop-directory.invariant.asks)

pub returns-in_err-text-clause-asks_part : goal.returns-in_err-text-clause-asks_part
returns-in_err-text-clause-asks_part g c =
    let dirs = c.args.directories.now in
    let x = c.args.name.now in
    err_is c.from_residual-in_err-text.result
    (search_stopped (g.M.Modules.files c.args.modules.now) (g.M.Modules.asked c.args.modules.now) (g.M.Modules.asked c.loop-directory.modules) (g.M.Modules.asked c.read.new.modules) (paths_of dirs x) (paths_of (drop c.loop-directory.directory-index dirs) x)
    c.loop-directory.invariant.asks c.in_err-text.ensures.asks)

pub returns-in-Some-clause-asks : goal.returns-in-Some-clause-asks
returns-in-Some-clause-asks g c =
    let files = g.M.Modules.files c.args.modules.now in
    let before = g.M.Modules.asked c.args.modules.now in
    let mid = g.M.Modules.asked c.loop-directory.modules in
    let dirs = c.args.directories.now in
    let x = c.args.name.now in
    let k = c.loop-directory.directory-index in
    let p = c.as_str-in-loop-directory-2.result.now in
    let here = path_here dirs x k c.directory-item.result c.as_str.result.now c.as_str-in-loop-directory.result.now c.in_ok-path.path p c.loop-directory-test.true c.directory-item.is c.as_str.ensures (c.as_str-in-loop-directory.ensures.value ∙ c.in_ok-file.ensures) c.in_ok-path.ensures c.as_str-in-loop-directory-2.ensures in
    let some : Holds files p (Some c.in-Some.text) = subst (λ o. Holds files p o) c.in-Some.is (rw c.loop-directory.invariant.files at c.in_ok-text.ensures.read) in
    search_found files before mid (g.M.Modules.asked c.read.new.modules) (paths_of dirs x) p (paths_of (drop (k + 1) dirs) x) c.in-Some.text (subst (λ ps. Searching files before mid (paths_of dirs x) ps) here c.loop-directory.invariant.asks) some c.in_ok-text.ensures.asks

pub loop-directory-preserved : goal.loop-directory-preserved
loop-directory-preserved g c =
    let files = g.M.Modules.files c.args.modules.now in
    let before = g.M.Modules.asked c.args.modules.now in
    let mid = g.M.Modules.asked c.loop-directory.modules in
    let dirs = c.args.directories.now in
    let x = c.args.name.now in
    let k = c.loop-directory.directory-index in
    let p = c.as_str-in-loop-directory-2.result.now in
    let here = path_here dirs x k c.directory-item.result c.as_str.result.now c.as_str-in-loop-directory.result.now c.in_ok-path.path p c.loop-directory-test.true c.directory-item.is c.as_str.ensures (c.as_str-in-loop-directory.ensures.value ∙ c.in_ok-file.ensures) c.in_ok-path.ensures c.as_str-in-loop-directory-2.ensures in
    let absent : Holds files p None = subst (λ o. Holds files p o) c.in_default.is (rw c.loop-directory.invariant.files at c.in_ok-text.ensures.read) in
    record {
      first = λ path text is. c.loop-directory.invariant.first path text (subst (λ ps. IsFirst files ps path text) (sym here) (inr (absent, is)));
      none = λ is. c.loop-directory.invariant.none (subst (λ ps. IsNone files ps) (sym here) (absent, is));
      asks = search_on files before mid (g.M.Modules.asked c.read.new.modules) (paths_of dirs x) p (paths_of (drop (k + 1) dirs) x) (subst (λ ps. Searching files before mid (paths_of dirs x) ps) here c.loop-directory.invariant.asks) absent c.in_ok-text.ensures.asks;
      files = c.in_ok-text.ensures.files ∙ c.loop-directory.invariant.files;
      quiet = c.in_ok-text.ensures.cause ∙ c.loop-directory.invariant.quiet;
    }

pub returns-in_err-text-2-clause-asks_part : goal.returns-in_err-text-2-clause-asks_part
returns-in_err-text-2-clause-asks_part g c =
    let dirs = c.args.directories.now in
    let x = c.args.name.now in
    err_is c.from_residual-in_err-text-2.result
    (search_stopped (g.M.Modules.files c.args.modules.now) (g.M.Modules.asked c.args.modules.now) (g.M.Modules.asked c.loop-directory.modules) (g.M.Modules.asked c.read-2.new.modules) (paths_of dirs x) (paths_of (drop c.loop-directory.directory-index dirs) x)
    c.loop-directory.invariant.asks c.in_err-text-2.ensures.asks)

pub returns-in_err-from_string-in-Some-2-clause-asks_part : goal.returns-in_err-from_string-in-Some-2-clause-asks_part
returns-in_err-from_string-in-Some-2-clause-asks_part g c =
    let files = g.M.Modules.files c.args.modules.now in
    let before = g.M.Modules.asked c.args.modules.now in
    let mid = g.M.Modules.asked c.loop-directory.modules in
    let now = g.M.Modules.asked c.read-2.new.modules in
    let dirs = c.args.directories.now in
    let x = c.args.name.now in
    let p = c.as_str-2.result.now in
    let last = path_last dirs x p c.loop-directory.directory-index (omega (arith, c.loop-directory-test.false)) (c.as_str-2.ensures.value ∙ c.in_ok-file.ensures) in
    err_is c.from_residual-in_err-from_string-in-Some-2.result
    (asked_part files before now (λ told. asked_for told dirs x) (search_last files before mid now (paths_of dirs x) p (subst (λ ps. Searching files before mid (paths_of dirs x) ps) last c.loop-directory.invariant.asks) c.in_ok-text-2.ensures.asks))

pub returns-in_ok-from_string-in-Some-2-clause-asks : goal.returns-in_ok-from_string-in-Some-2-clause-asks
returns-in_ok-from_string-in-Some-2-clause-asks g c =
    let files = g.M.Modules.files c.args.modules.now in
    let before = g.M.Modules.asked c.args.modules.now in
    let mid = g.M.Modules.asked c.loop-directory.modules in
    let dirs = c.args.directories.now in
    let x = c.args.name.now in
    let p = c.as_str-2.result.now in
    let last = path_last dirs x p c.loop-directory.directory-index (omega (arith, c.loop-directory-test.false)) (c.as_str-2.ensures.value ∙ c.in_ok-file.ensures) in
    search_last files before mid (g.M.Modules.asked c.read-2.new.modules) (paths_of dirs x) p (subst (λ ps. Searching files before mid (paths_of dirs x) ps) last c.loop-directory.invariant.asks) c.in_ok-text-2.ensures.asks

pub returns-in-None-clause-asks : goal.returns-in-None-clause-asks
returns-in-None-clause-asks g c =
    let files = g.M.Modules.files c.args.modules.now in
    let before = g.M.Modules.asked c.args.modules.now in
    let mid = g.M.Modules.asked c.loop-directory.modules in
    let dirs = c.args.directories.now in
    let x = c.args.name.now in
    let p = c.as_str-2.result.now in
    let last = path_last dirs x p c.loop-directory.directory-index (omega (arith, c.loop-directory-test.false)) (c.as_str-2.ensures.value ∙ c.in_ok-file.ensures) in
    search_last files before mid (g.M.Modules.asked c.read-2.new.modules) (paths_of dirs x) p (subst (λ ps. Searching files before mid (paths_of dirs x) ps) last c.loop-directory.invariant.asks) c.in_ok-text-2.ensures.asks
