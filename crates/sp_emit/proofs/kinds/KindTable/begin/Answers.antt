use Rattle.std.proofs.Common.{◌++◌, ◌∷◌, [], sym, ap, ◌∙◌, arith}
use Rattle.std.proofs.lemmas.Result.{on_ok_weaker}
use Rattle.sp_methods.specs.Kinds.{kinds_of}
use Rattle.sp_meaning_states.specs.Types.{kind_of_made, kind_of_type}
use Rattle.sp_meaning.specs.Globals.{range_counts}
use Rattle.sp_code.specs.Programs.{kinds_at}
use Rattle.sp_emit.specs.Plans.{plans}
use Rattle.sp_emit.specs.inside.KindPlans.{kinds_behind}
use Rattle.sp_emit.proofs.Parts.{kinds_of_each}
use Rattle.sp_emit.proofs.Plans.{pushed, led, lessened}
use Rattle.sp_emit.proofs.KindPlans.{one_kind_more, as_many}
use Rattle.sp_emit.proofs.kinds.KindTable.begin.Goals as goal

pub returns-in_ok-push-in-Word-clause-kinds : goal.returns-in_ok-push-in-Word-clause-kinds
returns-in_ok-push-in-Word-clause-kinds c =
    let ranges = range_counts c.args.bitfields.now in
    ap (λ ks. kinds_behind ranges (plans c.args.tasks.now.items) ks)
    (ap (λ ns. kinds_at c.word.new.self ns) c.in_ok-push-in-Word.ensures.items
    ∙ one_kind_more c.args.self.now c.word.new.self c.args.done.now.items _ c.in_ok-n-in-Word.n c.word.ensures.grows c.requires c.in_ok-n-in-Word.ensures.number
    ∙ ap (λ t. kinds_at c.args.self.now c.args.done.now.items ++ kind_of_type ranges t ∷ []) c.in-Word.ensures)

pub returns-in_ok-push-in-Made-clause-kinds : goal.returns-in_ok-push-in-Made-clause-kinds
returns-in_ok-push-in-Made-clause-kinds c =
    let ranges = range_counts c.args.bitfields.now in
    let found = kinds_at c.args.self.now c.args.done.now.items in
    let all = as_many c.args.self.now c.args.done.now.items in
    let maker = c.in-Made.maker in
    let parts = c.in-Made.parts.now in
    on_ok_weaker c.push_parts.result (λ e. led parts e (pushed c.args.tasks.now.items _ c.in_ok-push-in-Made.ensures.items) c.in-Made.ensures (kind_of_type ranges) (λ m ks. kind_of_made ranges m (kinds_of ks)) found (omega (arith, all)) (ap (kind_of_made ranges maker) (sym (kinds_of_each ranges parts)))) c.push_parts.ensures

pub returns-in_ok-push-in-Made-clause-falls : goal.returns-in_ok-push-in-Made-clause-falls
returns-in_ok-push-in-Made-clause-falls c =
    on_ok_weaker c.push_parts.result (λ e. lessened c.in-Made.parts.now e (pushed c.args.tasks.now.items _ c.in_ok-push-in-Made.ensures.items) c.in-Made.ensures) c.push_parts.ensures
