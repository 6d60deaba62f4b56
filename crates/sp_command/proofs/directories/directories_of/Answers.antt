use Rattle.std.proofs.Common.{◌≡◌, arith, rules}
use Rattle.std.proofs.lemmas.Str.Pattern.{split_parts}
use Rattle.sp_command.proofs.Between.{directories_more, directories_end}
use Rattle.sp_command.proofs.directories.directories_of.Goals as goal

pub loop-directory-preserved : goal.loop-directory-preserved
loop-directory-preserved c =
    let l = c.loop-directory in
    let cut = rw c.in-Some.is at (split_parts 58 l.rest.now c.split_once.result c.split_once.ensures.cases (omega arith)) in
    let more = directories_more c.args.text.now l.rest.now c.in-Some.directory.now c.in-Some.behind.now l.directories.items c.push_directory.new.directories.items cut.0 cut.1 l.invariant.1 c.in_ok-push_directory.ensures in
    (search rules, more)

pub returns : goal.returns
returns c =
    let l = c.loop-directory in
    let none = rw c.in_default.is at (split_parts 58 l.rest.now c.split_once.result c.split_once.ensures.cases (omega arith)) in
    directories_end c.args.text.now l.rest.now l.directories.items c.push_directory-2.new.directories.items none l.invariant.1 c.in_ok-push_directory-2.ensures
