use Rattle.sp_names.proofs.Lookups.{declared_told, none_declared, some_at, none_at}
use Rattle.sp_names.proofs.names.Names.declared.Goals as goal

pub returns-in-Some : goal.returns-in-Some
returns-in-Some c =
    declared_told c.self.inside.modules.now c.args.self.now c.self.inside.names.items c.args.owner c.in-Some.names.now c.args.name.now c.look_up.result c.self.view_is c.self.invariant.names_are (let at = rw c.deref.ensures.value at c.in-Some.ensures.lookup in some_at c.self.inside.names.items c.args.owner c.in-Some.names.now at.3.0 at.1) c.look_up.ensures

pub returns-in-None : goal.returns-in-None
returns-in-None c =
    none_declared c.self.inside.modules.now c.args.self.now c.self.inside.names.items c.args.owner c.args.name.now c.self.view_is c.self.invariant.all_names (let at = rw c.deref.ensures.value at c.in-None.ensures.lookup in none_at c.self.inside.names.items c.args.owner at.3)
