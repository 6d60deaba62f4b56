-- Where there are no hooks, none are found, whatever a table tells; what hangs on each place finds all.
use Rattle.std.proofs.Common.{ℕ, suc, ◌≡◌, ◌∙◌, refl, ap, sym, arith, List, [], ◌∷◌, Option, Some, None}
use Rattle.std.specs.Prelude.{ℤ, ◌==◌, true, length}
use Rattle.std.proofs.lemmas.Bool.{eqb-true}
use Rattle.sp_ast.specs.Trees.{Tree}
use Rattle.sp_type_hook_order.specs.declared.keys.HookKey.{HookKey}
use Rattle.sp_type_hook_order.specs.Keys.{gathered, parts_of}
use Rattle.sp_type_hook_order.specs.Order.{run_order}
use Rattle.sp_type_hook_rows.specs.declared.sites.Site.{Site}
use Rattle.sp_type_hook_rows.specs.declared.places.FieldKeys.{FieldKeys}
use Rattle.sp_type_hook_rows.specs.Places.{key_at}
use Rattle.sp_type_hook_rows.specs.inside.Keyed.{key_told, AreKeys}
use Rattle.sp_type_units.specs.Fields.{hooks_by}
use Rattle.sp_type_units.specs.inside.Finding.{FindHooks}

none_gathered : (order : List ℕ) (parts : ℕ × ℕ × ℕ) → gathered [] order parts ≡ []
none_gathered [] parts = refl
none_gathered (i ∷ is) parts = none_gathered is parts

none_by : (keys : List (Option HookKey)) (ranks : List ℤ) (key : Option HookKey) → (length keys == 0) ≡ true → hooks_by (keys, ranks) key ≡ []
none_by keys ranks None e = refl
none_by [] ranks (Some key) e = none_gathered (run_order ranks) (parts_of key)
none_by (k ∷ ks) ranks (Some key) e = absurd (let z : suc (length ks) ≡ 0 = eqb-true (suc (length ks)) 0 e in omega (arith, z))

pub none_found : (list : List Tree) (ss : List Site) (hooks : List (Option HookKey) × List ℤ) (table : FieldKeys) → (length hooks.0 == 0) ≡ true → FindHooks list ss hooks table
none_found list ss hooks table e x =
    none_by hooks.0 hooks.1 (key_told table x) e ∙ sym (none_by hooks.0 hooks.1 (key_at list x ss) e)

pub found : (list : List Tree) (ss : List Site) (hooks : List (Option HookKey) × List ℤ) (table : FieldKeys) → AreKeys list ss table → FindHooks list ss hooks table
found list ss hooks table told x = ap (hooks_by hooks) (told x)
