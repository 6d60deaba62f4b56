-- Members as they join a row one by one: each whose name none before it has.
use Rattle.std.specs.Prelude.{ℕ, ◌≡◌, if◌then◌else◌, is_some, List, [], ◌∷◌, ◌++◌}
use Rattle.sp_name_tables.specs.Tables.{told_by}
use Rattle.sp_type_modules.specs.declared.members.MemberTable.{MemberTable}
use Rattle.sp_type_modules.specs.Members.{UnitMember, numbered, kinds_of}

abbrev pub joined : List UnitMember → UnitMember → List UnitMember
joined kept m = if is_some (numbered m.name 0 kept) then kept else kept ++ m ∷ []

abbrev pub all_joined : List UnitMember → List UnitMember → List UnitMember
all_joined kept [] = kept
all_joined kept (m ∷ ms) = all_joined (joined kept m) ms

-- a table holds these members
pub record IsKept (table : MemberTable) (kept : List UnitMember) : Type 0 where
  pub names_are : (x : List ℕ) → told_by table.names x ≡ numbered x 0 kept
  pub kinds_are : table.kinds.items ≡ kinds_of kept

-- a table that held any members now holds them and these
abbrev pub Joins : MemberTable → MemberTable → List UnitMember → Type 0
Joins old new ms = (kept : List UnitMember) → IsKept old kept → IsKept new (all_joined kept ms)

-- whatever joins a table besides, in the end these have joined the first
abbrev pub LeadsOn : MemberTable → MemberTable → List UnitMember → List UnitMember → Type 0
LeadsOn first now left all = (later : MemberTable) → Joins now later left → Joins first later all
