-- The table of the innermost open local of each name.
use Rattle.std.specs.Prelude.{ℕ, ◌≡◌, List, [], ◌∷◌, Option, Some, None, string_bytes}
use Rattle.indexmap.specs.IndexMap.{get_by_text}
use Rattle.sp_type_stmts.specs.declared.locals.Known.{Known}
use Rattle.sp_type_stmts.specs.declared.locals.Opened.{Opened}
use Rattle.sp_type_stmts.specs.declared.locals.Innermost.{Innermost}
use Rattle.sp_type_stmts.specs.Scopes.{Local, found}

-- an entry that may hold nothing
abbrev pub held : Option (Option Known) → Option Known
held None = None
held (Some k) = k

-- what the table tells of a name
abbrev pub told_by : Innermost → List ℕ → Option Known
told_by table x = held (get_by_text table.by_name x)

-- what is known of a local
abbrev pub known : Option Local → Option Known
known None = None
known (Some l) = Some (record { slot = l.slot; ty = l.ty })

-- the locals of the code, the innermost first
abbrev pub names_of : List Opened → List Local
names_of [] = []
names_of (o ∷ os) = record { name = string_bytes o.name; slot = o.slot; ty = o.ty } ∷ names_of os

-- each local has what was known of its name before it
abbrev pub AreHidden : List Opened → Type 0
AreHidden [] = Unit {0}
AreHidden (o ∷ os) = (o.hidden ≡ known (found (string_bytes o.name) (names_of os))) × AreHidden os

pub record AreOpen (os : List Opened) (table : Innermost) : Type 0 where
  pub hidden_are : AreHidden os
  pub told_is : (x : List ℕ) → told_by table x ≡ known (found x (names_of os))
