use Rattle.std.proofs.Common.{◌≡◌, ◌+◌, ◌-◌, ◌∙◌, List, take, drop, length, sym, ap, arith}
use Rattle.sp_ast.specs.Trees.{Tree}
use Rattle.sp_ast.specs.Places.{tree_at, trees_at}
use Rattle.sp_ast.specs.declared.heads.Head.{Head}
use Rattle.sp_ast.specs.Arenas.{headed, arena_trees}
use Rattle.sp_ast.proofs.Growth.{entry_read, level_at, nothing_at}
use Rattle.sp_ast.proofs.arena.Arena.level.Goals as goal

pub returns-in_default : goal.returns-in_default
returns-in_default c =
    let a = c.self.inside in
    rw (← c.self.view_is) (sym (nothing_at a.heads a.places.items a.entries.items c.deref.result.now c.args.at c.deref.ensures.value c.in_default.ensures.lookup.0 (λ e. c.if-at-eq-NO_PARTS.false e)))

pub slice_bounds-at-end-2 : goal.slice_bounds-at-end-2
slice_bounds-at-end-2 c =
    let a = c.self.inside in
    let read = entry_read a.heads a.places.items a.entries.items c.deref.result.now c.args.at c.in-Some.entry.now c.self.invariant c.deref.ensures.value c.in-Some.ensures.lookup.0 c.in-Some.ensures.lookup.1 in
    omega (arith, read.within, ap length c.deref-2.ensures.value)

pub get-requires-2 : goal.get-requires-2
get-requires-2 c =
    let a = c.self.inside in
    let read = entry_read a.heads a.places.items a.entries.items c.deref.result.now c.args.at c.in-Some.entry.now c.self.invariant c.deref.ensures.value c.in-Some.ensures.lookup.0 c.in-Some.ensures.lookup.1 in
    read.head

pub returns-in-Row : goal.returns-in-Row
returns-in-Row c =
    let a = c.self.inside in
    let e = c.in-Some.entry.now in
    let read = entry_read a.heads a.places.items a.entries.items c.deref.result.now c.args.at e c.self.invariant c.deref.ensures.value c.in-Some.ensures.lookup.0 c.in-Some.ensures.lookup.1 in
    let parts : c.at-parts.result ≡ trees_at (arena_trees a.heads a.places.items a.entries.items) (take (e.from + e.count - e.from) (drop e.from a.places.items)) = rw (c.self.view_is, ← c.deref-2.ensures.value) c.at-parts.ensures in
    ap (λ (d : Head). headed d e.span c.at-parts.result) (sym c.in-Row.is) ∙ level_at a.heads a.places.items (arena_trees a.heads a.places.items a.entries.items) c.at-parts.result c.args.at e c.get-2.result.now read c.get-2.ensures parts ∙ ap (λ (l : List Tree). tree_at l c.args.at) c.self.view_is

pub returns-in-Of : goal.returns-in-Of
returns-in-Of c =
    let a = c.self.inside in
    let e = c.in-Some.entry.now in
    let read = entry_read a.heads a.places.items a.entries.items c.deref.result.now c.args.at e c.self.invariant c.deref.ensures.value c.in-Some.ensures.lookup.0 c.in-Some.ensures.lookup.1 in
    let parts : c.at-parts.result ≡ trees_at (arena_trees a.heads a.places.items a.entries.items) (take (e.from + e.count - e.from) (drop e.from a.places.items)) = rw (c.self.view_is, ← c.deref-2.ensures.value) c.at-parts.ensures in
    ap (λ (d : Head). headed d e.span c.at-parts.result) (sym c.in-Of.is) ∙ level_at a.heads a.places.items (arena_trees a.heads a.places.items a.entries.items) c.at-parts.result c.args.at e c.get-2.result.now read c.get-2.ensures parts ∙ ap (λ (l : List Tree). tree_at l c.args.at) c.self.view_is
