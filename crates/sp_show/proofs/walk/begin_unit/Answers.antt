use Rattle.std.proofs.Common.{◌∷◌, [], ◌++◌, length, reverse, refl, sym, ap, ◌∙◌, arith}
use Rattle.std.proofs.lemmas.Result.{on_ok_weaker}
use Rattle.std.proofs.lemmas.List.{reverse-append}
use Rattle.sp_code.specs.Programs.{names_of}
use Rattle.sp_events.specs.Tree.{unit as told_unit, fields_of}
use Rattle.sp_meaning_states.specs.Scopes.{is_among}
use Rattle.sp_meaning_states.specs.Telling.{names_at}
use Rattle.sp_value.specs.Val as val
use Rattle.sp_show.specs.Plans.{plans, tells, end, unit, members_told, run, work}
use Rattle.sp_show.proofs.Begun.{led, lessened, run_unit, unit_falls, told_nowhere}
use Rattle.sp_show.proofs.Moves.{pushed}
use Rattle.sp_show.proofs.Opens.{few_open}
use Rattle.sp_show.proofs.walk.begin_unit.Goals as goal

pub returns-in_ok-push-in-Some-2-clause-told : goal.returns-in_ok-push-in-Some-2-clause-told
returns-in_ok-push-in-Some-2-clause-told c =
    let names = names_of c.args.p.now in
    let instances = c.args.instances.now in
    let round = reverse c.args.outer.now.items in
    let ps = plans c.args.tasks.now.items in
    let few = few_open instances round c.requires in
    let closed = ap (λ l. is_among c.args.n (reverse l)) (sym c.as_slice.ensures.value) ∙ sym c.is_open.ensures ∙ c.if-is_open.false in
    let found = c.in-Some.ensures.lookup in
    let x = c.in-Some.instance.now in
    let opened = ap reverse c.in_ok-push-in-Some.ensures.items ∙ reverse-append c.args.outer.now.items (c.args.n ∷ []) in
    let titles = c.member_names.ensures ∙ ap (names_at names.members) c.unit.ensures in
    let row = tells (members_told (names_at names.members x.unit) x.members) in
    let put = pushed c.args.tasks.now.items _ c.in_ok-push-in-Some-2.ensures.items in
    on_ok_weaker c.push_members.result (λ e. led names instances (members_told (names_at names.members x.unit) x.members) (val.unit c.args.n) (reverse c.push.new.self.items) round (e ∙ ap (λ ts. tells (members_told ts x.members) ++ plans c.push-in-Some.new.self.items) titles) put refl c.args.done.now.items (omega arith)
    (ap (λ r. run names instances (row ++ end (unit x) (length c.args.done.now.items) ∷ ps) r c.args.done.now.items) opened ∙ run_unit names instances ps round c.args.n x c.args.done.now.items few closed found.3.0 found.1)) c.push_members.ensures

pub returns-in_ok-push-in-Some-2-clause-falls : goal.returns-in_ok-push-in-Some-2-clause-falls
returns-in_ok-push-in-Some-2-clause-falls c =
    let names = names_of c.args.p.now in
    let instances = c.args.instances.now in
    let round = reverse c.args.outer.now.items in
    let ps = plans c.args.tasks.now.items in
    let few = few_open instances round c.requires in
    let closed = ap (λ l. is_among c.args.n (reverse l)) (sym c.as_slice.ensures.value) ∙ sym c.is_open.ensures ∙ c.if-is_open.false in
    let found = c.in-Some.ensures.lookup in
    let x = c.in-Some.instance.now in
    let opened = ap reverse c.in_ok-push-in-Some.ensures.items ∙ reverse-append c.args.outer.now.items (c.args.n ∷ []) in
    let titles = c.member_names.ensures ∙ ap (names_at names.members) c.unit.ensures in
    let row = tells (members_told (names_at names.members x.unit) x.members) in
    let put = pushed c.args.tasks.now.items _ c.in_ok-push-in-Some-2.ensures.items in
    on_ok_weaker c.push_members.result (λ e. lessened names instances (members_told (names_at names.members x.unit) x.members) (val.unit c.args.n) (reverse c.push.new.self.items) round (e ∙ ap (λ ts. tells (members_told ts x.members) ++ plans c.push-in-Some.new.self.items) titles) put refl
    (let same = ap (work names instances (row ++ end (unit x) c.len.result ∷ ps)) opened in omega (arith, unit_falls names instances ps round c.args.n x c.len.result few closed found.3.0 found.1))) c.push_members.ensures

pub returns-in-None-clause-told : goal.returns-in-None-clause-told
returns-in-None-clause-told c =
    let names = names_of c.args.p.now in
    let instances = c.args.instances.now in
    let round = reverse c.args.outer.now.items in
    let ps = plans c.args.tasks.now.items in
    let few = few_open instances round c.requires in
    let closed = ap (λ l. is_among c.args.n (reverse l)) (sym c.as_slice.ensures.value) ∙ sym c.is_open.ensures ∙ c.if-is_open.false in
    let done = c.args.done.now.items in
    on_ok_weaker c.put-in-None.result (λ e. ap (run names instances ps round) (e ∙ ap (λ fs. done ++ told_unit (fields_of fs) ∷ []) c.new-in-None.ensures.items
    ∙ ap (λ t. done ++ t ∷ []) (sym (told_nowhere names instances round c.args.n few closed c.in-None.ensures.lookup.3)))) c.put-in-None.ensures
