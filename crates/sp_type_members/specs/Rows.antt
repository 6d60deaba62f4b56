-- Rows on which the definitions are run: fields that wait for each other, names that come twice, and conversions that are made
-- of themselves.
use Rattle.std.specs.Prelude.{ℕ, ◌≡◌, false, List, [], ◌∷◌, length, map, Option, Some, None, codes, refl}
use Rattle.sp_base.specs.declared.places.Span.{Span}
use Rattle.sp_words.specs.declared.words.AttributeName.TheVariants as name_is
use Rattle.sp_words.specs.declared.words.IntWord.{IntWord}
use Rattle.sp_words.specs.declared.words.IntWord.TheVariants as int
use Rattle.sp_numbers.specs.declared.width.Width.TheVariants.{W8, W16}
use Rattle.sp_ast.specs.Trees.{Tree, absent, in_row, tree}
use Rattle.sp_ast.specs.declared.forms.Form.{Form}
use Rattle.sp_ast.specs.declared.forms.Form.TheVariants as form_is
use Rattle.sp_ast.specs.declared.forms.DeclForm.TheVariants as decl_is
use Rattle.sp_ast.specs.declared.forms.TypeForm.TheVariants as type_is
use Rattle.sp_ast.specs.declared.forms.ItemForm.TheVariants as item_is
use Rattle.sp_ast.specs.declared.forms.PartForm.TheVariants as part_is
use Rattle.sp_ast.specs.declared.forms.GuardForm.TheVariants as guard_is
use Rattle.sp_ast.specs.declared.forms.BodyForm.TheVariants as body_is
use Rattle.sp_ast.specs.declared.forms.BaseForm.TheVariants as base_is
use Rattle.sp_ast.specs.declared.forms.ExprForm.TheVariants as expr_is
use Rattle.sp_types.specs.Types.{Ty, word}
use Rattle.sp_types.specs.declared.words.Word.TheVariants as word_is
use Rattle.sp_type_context.specs.Contexts.{Around}
use Rattle.sp_type_operands.specs.Operands.{unknown, boolean}
use Rattle.sp_type_fields.specs.Values.{Values}
use Rattle.sp_solver.specs.Rounds.{round}
use Rattle.sp_type_modules.specs.Arounds.{Facts, around}
use Rattle.sp_type_modules.specs.Sources.{questions}
use Rattle.sp_type_fields.specs.Fields.{field_type}
use Rattle.sp_type_members.specs.Tries.{tries}
use Rattle.sp_type_members.specs.Endless.{place_of}
use Rattle.sp_type_modules.specs.Taken.{taken_places}

abbrev span : ℕ → Span
span n = record { from = n; to = n }

abbrev of : Form → List Tree → Tree
of form parts = tree form (span 0) parts

abbrev name : List ℕ → Tree
name x = of (form_is.Name x) []

abbrev name_at : ℕ → List ℕ → Tree
name_at n x = tree (form_is.Name x) (span n) []

abbrev integer : IntWord → Tree
integer w = of (form_is.Type (type_is.Int w)) []

-- `self.x`, `self?.x`
abbrev own : List ℕ → Tree
own x = of (form_is.Expr expr_is.Member) (of (form_is.Expr expr_is.Itself) [] ∷ name x ∷ [])

abbrev own_set : List ℕ → Tree
own_set x = of (form_is.Expr expr_is.SetMember) (of (form_is.Expr expr_is.Itself) [] ∷ name x ∷ [])

abbrev convert : Tree → Tree
convert e = of (form_is.Attribute name_is.Convert) (e ∷ [])

abbrev reads : IntWord → Tree
reads w = of (form_is.Base base_is.Type) (integer w ∷ [])

-- `(uint8 &convert=e)`
abbrev grouped : Tree → Tree
grouped e = of (form_is.Base base_is.Group) (reads int.Uint8 ∷ in_row [] ∷ in_row (convert e ∷ []) ∷ [])

abbrev field_tree : Tree → Tree → List Tree → Tree
field_tree x base ts = of form_is.Field (x ∷ base ∷ in_row [] ∷ in_row ts ∷ absent ∷ absent ∷ in_row [] ∷ [])

abbrev part_tree : Tree → Tree
part_tree t = of (form_is.Part part_is.Field) (t ∷ [])

abbrev field : Tree → Tree → List Tree → Tree
field x base ts = part_tree (field_tree x base ts)

abbrev item : Tree → Tree
item part = of (form_is.Item item_is.Part) (part ∷ [])

abbrev variable : ℕ → List ℕ → Tree
variable n x = of (form_is.Item item_is.Variable) (name_at n x ∷ of (form_is.Type type_is.Bool) [] ∷ absent ∷ [])

abbrev unit : List Tree → List Tree → Tree
unit ps items = of form_is.Unit (in_row ps ∷ in_row items ∷ [])

abbrev type : List ℕ → Tree → Tree
type x u = of (form_is.Decl (decl_is.Type false)) (name x ∷ of (form_is.Type type_is.Unit) (u ∷ []) ∷ [])

-- type U = unit {
--   a: uint8 &convert=self.b; b: uint16; c: uint8 &convert=self.d; d: uint8 &convert=self.c; e: uint8 &convert=self.c;
--   f: (uint8 &convert=self.a); g: uint8 &convert=self?.g; var v: bool; sink s; b: uint8;
-- };
-- type V = unit { x: uint8; };
abbrev module_tree : Tree
module_tree =
    of form_is.Module (name (codes "M") ∷ in_row (
    type (codes "U") (unit [] (
    item (field (name (codes "a")) (reads int.Uint8) (convert (own (codes "b")) ∷ []))
    ∷ item (field (name (codes "b")) (reads int.Uint16) [])
    ∷ item (field (name (codes "c")) (reads int.Uint8) (convert (own (codes "d")) ∷ []))
    ∷ item (field (name (codes "d")) (reads int.Uint8) (convert (own (codes "c")) ∷ []))
    ∷ item (field (name (codes "e")) (reads int.Uint8) (convert (own (codes "c")) ∷ []))
    ∷ item (field (name (codes "f")) (grouped (own (codes "a"))) [])
    ∷ item (field (name (codes "g")) (reads int.Uint8) (convert (own_set (codes "g")) ∷ []))
    ∷ variable 0 (codes "v")
    ∷ of (form_is.Item item_is.Sink) (name (codes "s") ∷ [])
    ∷ item (field (name (codes "b")) (reads int.Uint8) [])
    ∷ []))
    ∷ type (codes "V") (unit [] (item (field (name (codes "x")) (reads int.Uint8) []) ∷ []))
    ∷ []) ∷ [])

abbrev list : List Tree
list = module_tree ∷ []

abbrev facts : Facts
facts = record { answers = λ g. None; constant = λ n. unknown; stored = λ n k. unknown; number = λ e. None }

abbrev values : Values
values = record { number = λ e. None; bytes = λ e. None; regex = λ e. None }

abbrev found : ℕ → ℕ → Option Ty
found k i = round (tries list (around list facts 0 ∷ around list facts 0 ∷ []) values) k i

abbrev byte : Ty
byte = word (word_is.Uint W8)

abbrev short : Ty
short = word (word_is.Uint W16)

-- nine members of U, and one of V
all : length (questions list) ≡ 10
all = refl

-- in the first round what hangs on nothing, also whether a field is set
first_round : found 1 0 ∷ (found 1 1 ∷ (found 1 2 ∷ (found 1 5 ∷ (found 1 6 ∷ (found 1 7 ∷ (found 1 8 ∷ (found 1 9 ∷ []))))))) ≡ None ∷ (Some short ∷ (None ∷ (None ∷ (Some boolean ∷ (Some boolean ∷ (Some (word word_is.Sink) ∷ (Some byte ∷ [])))))))
first_round = refl

-- then the field that is made of `b`, and then what stands round it
second_round : found 2 0 ∷ (found 2 5 ∷ (found 3 5 ∷ [])) ≡ Some short ∷ (None ∷ (Some short ∷ []))
second_round = refl

-- those that are made of each other have no type, nor has what leads to them
endless : found 4 2 ∷ (found 4 3 ∷ (found 4 4 ∷ [])) ≡ None ∷ (None ∷ (None ∷ []))
endless = refl

-- names that come twice, by their places; fields store what they read
abbrev reads_type : Tree → Ty
reads_type t = field_type (around list facts 0) values t

abbrev taken : List Tree → List Tree → List Span
taken ps items = taken_places reads_type (unit ps items)

abbrev part : ℕ → List ℕ → IntWord → Tree
part n x w = field (name_at n x) (reads w) []

abbrev arm : Tree → Tree
arm body = of form_is.Arm (of (form_is.Guard guard_is.LookAhead) [] ∷ of (form_is.Body body_is.One) (body ∷ []) ∷ [])

abbrev switch : List Tree → Tree
switch arms = of (form_is.Part part_is.Switch) (absent ∷ in_row arms ∷ [])

-- unit { a: uint8; var a: bool; a: uint8; }
twice : taken [] (item (part 1 (codes "a") int.Uint8) ∷ variable 2 (codes "a") ∷ item (part 3 (codes "a") int.Uint8) ∷ []) ≡ span 2 ∷ (span 3 ∷ [])
twice = refl

-- unit (p: uint8) { p: uint8; }
parameter : taken (of (form_is.Parameter false) (name (codes "p") ∷ integer int.Uint8 ∷ []) ∷ []) (item (part 1 (codes "p") int.Uint8) ∷ []) ≡ span 1 ∷ []
parameter = refl

-- switch { -> a: uint8; -> a: uint8; -> a: uint16; }
arms : taken [] (item (switch (arm (part 1 (codes "a") int.Uint8) ∷ arm (part 2 (codes "a") int.Uint8) ∷ arm (part 3 (codes "a") int.Uint16) ∷ [])) ∷ []) ≡ span 3 ∷ []
arms = refl

-- switch { -> a: uint8; -> switch { -> a: uint8; -> b: uint8; } } b: uint8;
behind : taken [] (item (switch (arm (part 1 (codes "a") int.Uint8) ∷ arm (switch (arm (part 2 (codes "a") int.Uint8) ∷ arm (part 3 (codes "b") int.Uint8) ∷ [])) ∷ [])) ∷ item (part 4 (codes "b") int.Uint8) ∷ []) ≡ span 4 ∷ []
behind = refl

-- conversions that are made of themselves, by the places of their values
abbrev own_at : ℕ → List ℕ → Tree
own_at n x = tree (form_is.Expr expr_is.Member) (span n) (of (form_is.Expr expr_is.Itself) [] ∷ name x ∷ [])

-- a: uint8 &convert=self.b; b: (uint8 &convert=self.a) &convert=self.b; c: uint8 &convert=self.c; d: (uint8) &convert=self.c;
-- e: uint8; f: (uint8 &convert=self.e) &convert=self.a; : uint8 &convert=self.a; : uint8 &convert=self.e;
abbrev outer_fields : List Tree
outer_fields =
    field_tree (name (codes "a")) (reads int.Uint8) (convert (own_at 1 (codes "b")) ∷ [])
    ∷ field_tree (name (codes "b")) (grouped (own_at 2 (codes "a"))) (convert (own_at 3 (codes "b")) ∷ [])
    ∷ field_tree (name (codes "c")) (reads int.Uint8) (convert (own_at 4 (codes "c")) ∷ [])
    ∷ field_tree (name (codes "d")) (reads int.Uint8) (convert (own_at 5 (codes "c")) ∷ [])
    ∷ field_tree (name (codes "e")) (reads int.Uint8) []
    ∷ field_tree (name (codes "f")) (grouped (own_at 6 (codes "e"))) (convert (own_at 7 (codes "a")) ∷ [])
    ∷ field_tree absent (reads int.Uint8) (convert (own_at 8 (codes "a")) ∷ [])
    ∷ field_tree absent (reads int.Uint8) (convert (own_at 9 (codes "e")) ∷ [])
    ∷ []

-- e: uint8 &convert=self.c;
abbrev arm_field : Tree
arm_field = field_tree (name (codes "e")) (reads int.Uint8) (convert (own_at 10 (codes "c")) ∷ [])

abbrev items_of : List Tree → List Tree
items_of [] = item (switch (arm (part_tree arm_field) ∷ [])) ∷ []
items_of (t ∷ ts) = item (part_tree t) ∷ items_of ts

-- module N; and type U = unit { .. switch { -> e: uint8 &convert=self.c; } };
abbrev two_modules : List Tree
two_modules =
    of form_is.Module (name (codes "N") ∷ in_row [] ∷ []) ∷ of form_is.Module (name (codes "M") ∷ in_row (type (codes "U") (unit [] (items_of outer_fields)) ∷ []) ∷ []) ∷ []

abbrev contexts : List Around
contexts = around two_modules facts 1 ∷ []

abbrev settled : ℕ → Option Ty
settled i = round (tries two_modules contexts values) 3 i

abbrev types : List (Option Ty)
types = settled 0 ∷ (settled 1 ∷ (settled 2 ∷ (settled 3 ∷ (settled 4 ∷ (settled 5 ∷ [])))))

abbrev begins : Option Span → Option ℕ
begins None = None
begins (Some at) = Some at.from

abbrev told : Tree → Option ℕ
told t = begins (place_of two_modules contexts values types 0 t)

-- of each field the first, whether it has a name or none, and also where its name came before
made_of_themselves : map told outer_fields ≡ Some 1 ∷ (Some 2 ∷ (Some 4 ∷ (Some 5 ∷ (None ∷ (Some 7 ∷ (Some 8 ∷ (None ∷ [])))))))
made_of_themselves = refl

later_of_a_name : told arm_field ≡ Some 10
later_of_a_name = refl
