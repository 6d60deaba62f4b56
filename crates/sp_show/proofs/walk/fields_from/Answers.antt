use Rattle.std.proofs.Common.{◌+◌, ◌++◌, ◌∷◌, [], ℕ, List, drop, reverse, sym, ap, ◌∙◌, arith}
use Rattle.std.proofs.lemmas.List.{append-nil}
use Rattle.sp_events.specs.Tree.{TreeData}
use Rattle.sp_show.specs.Plans.{with_names}
use Rattle.sp_show.proofs.Moves.{some_told, none_told, nothing}
use Rattle.sp_show.proofs.Named.{names_end, without_name, with_none, with_one}
use Rattle.sp_show.proofs.walk.fields_from.Goals as goal
use Rattle.sp_show.proofs.walk.fields_from.Goals.{then-is_some+in_ok-name+in-Some+in_ok-push, then-is_some+in_ok-name+in_default, else-is_some}

pub loop-m-preserved : goal.loop-m-preserved
loop-m-preserved c =
    let xs = c.args.names.now in
    let os = c.args.instance.now.members in
    let m = c.loop-m.m in
    let made = c.loop-m.fields.items in
    let whole = with_names xs os c.args.trees.items in
    let rest = λ (fs : List (List ℕ × TreeData)) (ts : List TreeData). fs ++ with_names (drop (m + 1) xs) (drop (m + 1) os) (reverse ts) in
    let now = λ (ts : List TreeData). made ++ with_names (drop m xs) (drop m os) (reverse ts) in
    elim c.if-is_some.branch [
      | then-is_some+in_ok-name+in-Some+in_ok-push w ↦
          let told = some_told c.told_member.result _ c.told_member.ensures (sym c.is_some.ensures ∙ w.if-is_some.true) in
          ap (λ v. rest v.items c.if-is_some.trees.items) w.fields-is
          ∙ ap (λ v. rest w.push.new.self.items v.items) w.trees-is
          ∙ ap (λ fs. rest fs w.pop.new.self.items) (w.in_ok-push.ensures.items ∙ ap (λ x. made ++ (x, w.in-Some.tree) ∷ []) w.in_ok-name.ensures)
          ∙ with_one xs os m (omega arith) (omega arith) made whole told.0 w.index-names-m.result w.in-Some.tree w.pop.new.self.items w.index-names-m.is told.1 (ap now (sym w.in-Some.ensures.items) ∙ c.loop-m.invariant)
      | then-is_some+in_ok-name+in_default w ↦
          let told = some_told c.told_member.result _ c.told_member.ensures (sym c.is_some.ensures ∙ w.if-is_some.true) in
          let none = nothing c.loop-m.trees.items (omega (arith, w.in_default.ensures.cases)) in
          let left = nothing w.pop.new.self.items (omega (arith, w.in_default.ensures.cases)) in
          ap (λ v. rest v.items c.if-is_some.trees.items) w.fields-is
          ∙ ap (λ v. rest made v.items) w.trees-is
          ∙ ap (rest made) left
          ∙ with_none xs os m (omega arith) (omega arith) made whole told.0 told.1 (ap now (sym none) ∙ c.loop-m.invariant)
      | else-is_some w ↦
          let told = none_told c.told_member.result _ c.told_member.ensures (sym c.is_some.ensures ∙ w.if-is_some.false) in
          ap (λ v. rest v.items c.if-is_some.trees.items) w.fields-is
          ∙ ap (λ v. rest made v.items) w.trees-is
          ∙ without_name xs os m (omega arith) (omega arith) made whole c.loop-m.trees.items told c.loop-m.invariant
    ]

pub returns : goal.returns
returns c =
    let xs = c.args.names.now in
    let os = c.args.instance.now.members in
    sym (append-nil c.loop-m.fields.items) ∙ ap (λ fs. c.loop-m.fields.items ++ fs) (sym (names_end xs os c.loop-m.m (reverse c.loop-m.trees.items) (omega arith))) ∙ c.loop-m.invariant
