-- A list of modules that are read: each alternative has its parts, and fields stand at places of their own.
use Rattle.std.specs.List.{AllByRecursion, list_all}
use Rattle.std.proofs.Common.{◌≡◌, true, List, [], ◌∷◌, refl}
use Rattle.std.proofs.lemmas.Bool.{and_from}
use Rattle.sp_lex.specs.Lexed.{Lexed}
use Rattle.sp_lex.specs.Readings.{reading, whole}
use Rattle.sp_ast.specs.Trees.{Tree}
use Rattle.sp_ast.specs.Slots.{is_formed}
use Rattle.sp_build.specs.Items.{built}
use Rattle.sp_build.proofs.Formed.{all_formed}
use Rattle.sp_read_unit.specs.Modules.{IsModuleTree}
use Rattle.sp_front.specs.declared.entries.ModuleFile.{ModuleFile}
use Rattle.sp_front.specs.Lists.{IsRead}
use Rattle.sp_load.specs.Loads.{trees_of}
use Rattle.sp_law_lists.specs.field_places.Apart.{fields_apart}

one_formed : (f : ModuleFile) → IsRead f → is_formed f.«module» ≡ true
one_formed f (tokens, right, tree) = (all_formed f.text tokens tree.0 [] (built f.«module» ∷ []) tree.2 tt).0

pub are_formed : (fs : List ModuleFile) → AllByRecursion IsRead fs → list_all is_formed (trees_of fs) ≡ true
are_formed [] h = refl
are_formed (f ∷ fs) h = and_from (is_formed f.«module») (list_all is_formed (trees_of fs)) (one_formed f h.0) (are_formed fs h.1)

-- what is said of modules that are read
abbrev ModulesAreApart : Type 0
ModulesAreApart = (lexed : Lexed) (t : Tree) → reading lexed.text ≡ whole lexed.list → IsModuleTree lexed t → fields_apart t ≡ true

one_apart : ModulesAreApart → (f : ModuleFile) → IsRead f → fields_apart f.«module» ≡ true
one_apart law f (tokens, right, tree) = law (record { text = f.text; list = tokens }) f.«module» right.read tree

pub are_apart : ModulesAreApart → (fs : List ModuleFile) → AllByRecursion IsRead fs → list_all fields_apart (trees_of fs) ≡ true
are_apart law [] h = refl
are_apart law (f ∷ fs) h = and_from (fields_apart f.«module») (list_all fields_apart (trees_of fs)) (one_apart law f h.0) (are_apart law fs h.1)
