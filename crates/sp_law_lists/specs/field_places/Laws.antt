-- The fields of each unit of a module that is read stand at places of their own.
use Rattle.std.specs.Prelude.{◌≡◌, IsTrue}
use Rattle.sp_lex.specs.Readings.{reading, whole}
use Rattle.sp_lex.specs.Lexed.{Lexed}
use Rattle.sp_ast.specs.Trees.{Tree}
use Rattle.sp_read_unit.specs.Modules.{IsModuleTree}
use Rattle.sp_law_lists.specs.field_places.Apart.{fields_apart}

-- In a module that is read from a text no two fields of a unit stand at one place.
abbrev pub ModulesAreApart : Type 0
ModulesAreApart =
    (lexed : Lexed) (t : Tree) → reading lexed.text ≡ whole lexed.list
    → IsModuleTree lexed t → IsTrue (fields_apart t)
