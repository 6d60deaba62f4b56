-- Rows on which the definitions are run: of each kind of construct one that isn't built and one that is, with their places.
use Rattle.std.specs.Prelude.{ℕ, ◌≡◌, Bool, true, false, if◌then◌else◌, List, [], ◌∷◌, ◌++◌, Some, None, codes, refl}
use Rattle.sp_base.specs.declared.places.Diag.{Diag}
use Rattle.sp_base.specs.declared.places.Span.{Span}
use Rattle.sp_words.specs.declared.words.AttributeName.TheVariants as attribute_is
use Rattle.sp_words.specs.declared.words.HookName.TheVariants as hook_is
use Rattle.sp_words.specs.declared.words.IntWord.TheVariants as integer
use Rattle.sp_ast.specs.Trees.{Tree, absent, in_row, tree}
use Rattle.sp_ast.specs.declared.forms.Form.{Form}
use Rattle.sp_ast.specs.declared.forms.Form.TheVariants as form_is
use Rattle.sp_ast.specs.declared.forms.BaseForm.TheVariants as base_is
use Rattle.sp_ast.specs.declared.forms.DeclForm.TheVariants as decl_is
use Rattle.sp_ast.specs.declared.forms.ExprForm.TheVariants as expr_is
use Rattle.sp_ast.specs.declared.forms.ItemForm.TheVariants as item_is
use Rattle.sp_ast.specs.declared.forms.PartForm.TheVariants as part_is
use Rattle.sp_ast.specs.declared.forms.StmtForm.TheVariants as stmt_is
use Rattle.sp_ast.specs.declared.forms.TargetForm.TheVariants as target_is
use Rattle.sp_ast.specs.declared.forms.TypeForm.TheVariants as type_is
use Rattle.sp_unbuilt.specs.First.{noted}
use Rattle.sp_unbuilt.specs.Next.{next_token}
use Rattle.sp_unbuilt.specs.Constructs.{at}
use Rattle.sp_unbuilt.specs.Unbuilt.{tests_in, tests_from}

-- a slice of the text, and a tree on it
abbrev on : ℕ → ℕ → Span
on from to = record { from = from; to = to }

abbrev of : Form → ℕ → ℕ → List Tree → Tree
of form from to parts = tree form (on from to) parts

-- the places of the constructs whose tests hold
abbrev places : List (Bool × Diag) → List ℕ
places [] = []
places (c ∷ cs) = if c.0 then c.1.span.from ∷ places cs else places cs

-- in a tree of a module without a text
abbrev in_tree : Tree → List ℕ
in_tree t = places (tests_in [] 0 t)

abbrev name : List ℕ → ℕ → Tree
name x n = of (form_is.Name x) n n []

abbrev expr : ℕ → ℕ → Tree
expr from to = of (form_is.Expr expr_is.Itself) from to []

-- where the next token begins: at once, behind a comment, at the text's end
pub at_once : next_token (codes "a if") 2 ≡ 2
at_once = refl

pub behind_white_space : next_token (codes "a  if") 1 ≡ 3
behind_white_space = refl

pub behind_comments : next_token (codes "a # if" ++ (10 ∷ (codes "#" ++ (10 ∷ codes "if")))) 1 ≡ 9
behind_comments = refl

pub at_the_end : next_token (codes "a # if") 1 ≡ 6
at_the_end = refl

-- attributes
abbrev attribute : Form → Tree
attribute form = of form 5 10 (absent ∷ [])

pub size_row : in_tree (attribute (form_is.Attribute attribute_is.Size)) ≡ 5 ∷ []
size_row = refl

pub bit_order_row : in_tree (attribute (form_is.Attribute attribute_is.BitOrder)) ≡ 5 ∷ []
bit_order_row = refl

pub byte_order_row : in_tree (attribute (form_is.Attribute attribute_is.ByteOrder)) ≡ []
byte_order_row = refl

-- statements
abbrev stmt : Form → Tree
stmt form = of form 5 10 []

pub stop_row : in_tree (stmt (form_is.Stmt stmt_is.Stop)) ≡ 5 ∷ []
stop_row = refl

pub confirm_row : in_tree (stmt (form_is.Stmt stmt_is.Confirm)) ≡ 5 ∷ []
confirm_row = refl

pub reject_row : in_tree (stmt (form_is.Stmt stmt_is.Reject)) ≡ 5 ∷ []
reject_row = refl

pub break_row : in_tree (stmt (form_is.Stmt stmt_is.Break)) ≡ []
break_row = refl

-- `self.x()` from place 4 on, and `f(self.x())` from place 0 on
abbrev call_of : List ℕ → Tree
call_of x = of (form_is.Expr expr_is.Call) 4 12 (of (form_is.Expr expr_is.Member) 4 10 (expr 4 8 ∷ name x 9 ∷ []) ∷ in_row [] ∷ [])

abbrev call_with : Tree → Tree
call_with argument = of (form_is.Expr expr_is.Call) 0 13 (of (form_is.Expr expr_is.Path) 0 1 (of form_is.Path 0 1 (name (codes "input") 0 ∷ []) ∷ []) ∷ in_row (argument ∷ []) ∷ [])

pub input_row : in_tree (call_of (codes "input")) ≡ 4 ∷ []
input_row = refl

pub skip_row : in_tree (call_of (codes "skip")) ≡ 4 ∷ []
skip_row = refl

pub offset_row : in_tree (call_of (codes "offset")) ≡ []
offset_row = refl

pub library_row : in_tree (call_of (codes "sub")) ≡ []
library_row = refl

pub argument_row : in_tree (call_with (call_of (codes "forward_eod"))) ≡ 4 ∷ []
argument_row = refl

-- `self[0].x()`: a method of what stands in a container
abbrev item_call : List ℕ → Tree
item_call x = of (form_is.Expr expr_is.Call) 4 15 (of (form_is.Expr expr_is.Member) 4 13 (of (form_is.Expr expr_is.Index) 4 11 (expr 4 8 ∷ expr 9 10 ∷ []) ∷ name x 12 ∷ []) ∷ in_row [] ∷ [])

pub pop_row : in_tree (call_of (codes "pop_back")) ≡ []
pop_row = refl

pub pop_inside_row : in_tree (item_call (codes "pop_back")) ≡ []
pop_inside_row = refl

pub push_inside_row : in_tree (item_call (codes "push_back")) ≡ []
push_inside_row = refl

-- types: `bitfield(8) { }`, `filter::Base64Decode`, `filter::Other`
abbrev path_to : List ℕ → List ℕ → Tree
path_to x y = of (form_is.Type type_is.Path) 5 20 (of form_is.Path 5 20 (name x 5 ∷ name y 13 ∷ []) ∷ [])

pub bitfield_row : in_tree (of (form_is.Type type_is.Bitfield) 5 20 (of (form_is.Number 8) 14 15 [] ∷ in_row [] ∷ [])) ≡ 5 ∷ []
bitfield_row = refl

pub decoder_row : in_tree (path_to (codes "filter") (codes "Base64Decode")) ≡ 5 ∷ []
decoder_row = refl

pub other_row : in_tree (path_to (codes "M") (codes "Base64Decode")) ≡ []
other_row = refl

-- items of units: `%filter;`, `sink s;`, a switch, a variable
pub filter_row : in_tree (of (form_is.Item item_is.Filter) 5 13 []) ≡ 5 ∷ []
filter_row = refl

pub sink_row : in_tree (of (form_is.Item item_is.Sink) 5 12 (name (codes "s") 10 ∷ [])) ≡ 5 ∷ []
sink_row = refl

pub switch_row : in_tree (of (form_is.Item item_is.Part) 5 16 (of (form_is.Part part_is.Switch) 5 16 (absent ∷ in_row [] ∷ []) ∷ [])) ≡ 5 ∷ []
switch_row = refl

pub variable_row : in_tree (of (form_is.Item item_is.Variable) 5 20 (name (codes "v") 9 ∷ of (form_is.Type type_is.Bool) 12 16 [] ∷ absent ∷ [])) ≡ []
variable_row = refl

-- what a hook does, and a hook, with or without `foreach`
abbrev block : Tree
block = of form_is.Block 0 0 []

abbrev body_of : Form → ℕ → ℕ → Tree
body_of form from to = of form from to (absent ∷ block ∷ [])

abbrev hook_of : Form → Tree
hook_of form = of form_is.Hook 10 20 (in_row [] ∷ body_of form 10 20 ∷ [])

-- `on x { }` in a unit, and `on U::%x { }` outside
abbrev item_on : Form → Form → Tree
item_on target body = of (form_is.Item item_is.On) 5 20 (of target 8 9 [] ∷ hook_of body ∷ [])

abbrev decl_on : Tree → Form → Tree
decl_on hook_name body = of (form_is.Decl decl_is.On) 3 20 (of form_is.Path 6 7 (name (codes "U") 6 ∷ []) ∷ hook_name ∷ hook_of body ∷ [])

pub init_row : in_tree (item_on (form_is.Target (target_is.Hook hook_is.Init)) (form_is.HookBody false)) ≡ []
init_row = refl

pub synced_row : in_tree (item_on (form_is.Target (target_is.Hook hook_is.Synced)) (form_is.HookBody false)) ≡ 5 ∷ []
synced_row = refl

pub gap_row : in_tree (item_on (form_is.Target (target_is.Hook hook_is.Gap)) (form_is.HookBody false)) ≡ 5 ∷ []
gap_row = refl

pub hook_of_a_field : in_tree (item_on (form_is.Target (target_is.Name (codes "a"))) (form_is.HookBody false)) ≡ []
hook_of_a_field = refl

pub hook_of_elements : in_tree (item_on (form_is.Target (target_is.Name (codes "a"))) (form_is.HookBody true)) ≡ 5 ∷ []
hook_of_elements = refl

pub outer_done : in_tree (decl_on (of (form_is.HookName hook_is.Done) 9 14 []) (form_is.HookBody false)) ≡ []
outer_done = refl

pub outer_undelivered : in_tree (decl_on (of (form_is.HookName hook_is.Undelivered) 9 21 []) (form_is.HookBody false)) ≡ 3 ∷ []
outer_undelivered = refl

pub outer_hook_of_elements : in_tree (decl_on absent (form_is.HookBody true)) ≡ 3 ∷ []
outer_hook_of_elements = refl

-- a field of an integer with these counts, attributes, condition, sink and hooks
abbrev field_with : Tree → Tree → Tree → Tree → Tree → Tree
field_with counts attributes condition sink hooks =
    of form_is.Field 0 61 (name (codes "a") 0 ∷ of (form_is.Base base_is.Type) 3 8 (of (form_is.Type (type_is.Int integer.Uint8)) 3 8 [] ∷ []) ∷ counts ∷ attributes ∷ condition ∷ sink ∷ hooks ∷ [])

-- the order of the text, a condition behind a comment, and an arrow behind another
abbrev whole_field : List ℕ
whole_field = codes "a: uint8 &byte-order=b # if" ++ (10 ∷ (codes " if (c # (" ++ (10 ∷ codes ") -> d foreach { } { }")))

pub whole_field_row : places (tests_in whole_field 0 (field_with (in_row []) (in_row (of (form_is.Attribute attribute_is.ByteOrder) 9 22 (absent ∷ []) ∷ [])) (expr 33 34) (expr 44 45) (in_row (body_of (form_is.HookBody true) 46 57 ∷ body_of (form_is.HookBody false) 58 61 ∷ [])))) ≡ 29 ∷ 41 ∷ 46 ∷ []
whole_field_row = refl

-- a condition behind a count, a sink behind the base, and neither
pub condition_behind_a_count : places (tests_in (codes "a: uint8[]if(c);") 0 (field_with (in_row (of form_is.Count 8 10 (absent ∷ []) ∷ [])) (in_row []) (expr 13 14) absent (in_row []))) ≡ 10 ∷ []
condition_behind_a_count = refl

pub sink_behind_the_base : places (tests_in (codes "a: uint8 ->d;") 0 (field_with (in_row []) (in_row []) absent (expr 11 12) (in_row []))) ≡ 9 ∷ []
sink_behind_the_base = refl

pub plain_field : places (tests_in (codes "a: uint8;") 0 (field_with (in_row []) (in_row []) absent absent (in_row []))) ≡ []
plain_field = refl

-- the first by module, and then by place; a test that doesn't hold is none
pub first_row : noted None ((true, at 1 (on 0 1)) ∷ (true, at 0 (on 7 8)) ∷ (false, at 0 (on 1 2)) ∷ (true, at 0 (on 5 6)) ∷ (true, at 0 (on 6 9)) ∷ []) ≡ Some (at 0 (on 5 6))
first_row = refl

pub second_module : noted None (tests_from (λ m. []) 0 (stmt (form_is.Stmt stmt_is.Break) ∷ stmt (form_is.Stmt stmt_is.Stop) ∷ [])) ≡ Some (at 1 (on 5 10))
second_module = refl
