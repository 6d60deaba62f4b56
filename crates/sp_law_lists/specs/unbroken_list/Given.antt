-- A list of modules in which each alternative has its parts, and no rule is broken.
use Rattle.std.specs.Prelude.{ℕ, ◌≡◌, List, Option, Some, IsTrue}
use Rattle.std.specs.List.{list_all}
use Rattle.sp_ast.specs.Trees.{Tree}
use Rattle.sp_ast.specs.Slots.{is_formed}
use Rattle.sp_rules.specs.declared.fault.Fault.{Fault}
use Rattle.sp_types.specs.Types.{Ty}
use Rattle.sp_type_context.specs.declared.context.Member.{Member}
use Rattle.sp_type_modules.specs.Arounds.{stored_by, member_of}
use Rattle.sp_type_answers.specs.Rules.{Breaks}
use Rattle.sp_law_lists.specs.known_types.Full.{is_full}

abbrev pub AreFormed : List Tree → Type 0
AreFormed list = IsTrue (list_all is_formed list)

abbrev pub IsUnbroken : List Tree → Type 0
IsUnbroken list = (x : Fault) → Breaks list x → ⊥

-- all members of units have full types, and all ranges of bitfields
abbrev pub HaveMembers : List Tree → (ℕ → Option Ty) → Type 0
HaveMembers list stored =
    (t : Ty) (name : List ℕ) (found : Member) → member_of list (stored_by list stored) t name ≡ Some found → IsTrue (is_full found.ty)
