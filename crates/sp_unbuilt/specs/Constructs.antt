-- The constructs that aren't built yet, and where each begins: tests at a tree of a module, each with the construct that isn't
-- built where it holds. They count wherever they are written, also where nothing runs them. All else is built: modules with
-- their properties, imports, constants, functions, enums and aliases, units with parameters, variables and properties, fields
-- of integers in a byte order, hooks of fields and `%init`, `%done`, `%error` and `%finally` with their priorities, all other
-- statements, and all other expressions. What a field reads stands in `Fields`.
use Rattle.std.specs.Prelude.{ℕ, ◌+◌, Bool, true, false, ◌&&◌, ◌||◌, List, [], ◌∷◌, ◌++◌, Option, Some, None, codes}
use Rattle.std.specs.Str.{bytes_eq}
use Rattle.sp_base.specs.declared.kinds.MKind.TheVariants as kind_is
use Rattle.sp_base.specs.declared.places.Diag.{Diag}
use Rattle.sp_base.specs.declared.places.Span.{Span}
use Rattle.sp_words.specs.declared.words.AttributeName.{AttributeName}
use Rattle.sp_words.specs.declared.words.AttributeName.TheVariants as attribute_is
use Rattle.sp_words.specs.declared.words.HookName.{HookName}
use Rattle.sp_words.specs.declared.words.HookName.TheVariants as hook_is
use Rattle.sp_ast.specs.Trees.{Tree, Trees, row, node, none, more, span_of}
use Rattle.sp_ast.specs.declared.forms.Form.TheVariants as form_is
use Rattle.sp_ast.specs.declared.forms.DeclForm.TheVariants as decl_is
use Rattle.sp_ast.specs.declared.forms.ExprForm.TheVariants as expr_is
use Rattle.sp_ast.specs.declared.forms.ItemForm.TheVariants as item_is
use Rattle.sp_ast.specs.declared.forms.PartForm.TheVariants as part_is
use Rattle.sp_ast.specs.declared.forms.StmtForm.TheVariants as stmt_is
use Rattle.sp_ast.specs.declared.forms.TargetForm.TheVariants as target_is
use Rattle.sp_ast.specs.declared.forms.TypeForm.TheVariants as type_is
use Rattle.sp_unbuilt.specs.Next.{next_token, two_bytes}
use Rattle.sp_ast.specs.Views.{present}

-- a construct of a module on a slice of its text
abbrev pub at : ℕ → Span → Diag
at m span = record { «module» = m; span = span; kind = kind_is.OutOfProfile }

-- Attributes, each where it is written: all but `&byte-order`.
abbrev pub is_late_attribute : AttributeName → Bool
is_late_attribute attribute_is.ByteOrder = false
is_late_attribute _ = true

-- Hooks of units and sinks: `%synced`, `%confirmed`, `%rejected`, `%gap`, `%skipped`, `%overlap` and `%undelivered`.
abbrev pub is_late_hook : HookName → Bool
is_late_hook hook_is.Init = false
is_late_hook hook_is.Done = false
is_late_hook hook_is.Error = false
is_late_hook hook_is.Finally = false
is_late_hook _ = true

-- Methods of units: all but `offset`. And those of sinks. No value of another type has a method of such a name.
abbrev pub is_late_unit_method : List ℕ → Bool
is_late_unit_method x =
    bytes_eq x (codes "input") || bytes_eq x (codes "set_input") || bytes_eq x (codes "backtrack") || bytes_eq x (codes "connect_filter") || bytes_eq x (codes "forward") || bytes_eq x (codes "forward_eod")

abbrev pub is_sink_method : List ℕ → Bool
is_sink_method x =
    bytes_eq x (codes "connect") || bytes_eq x (codes "write") || bytes_eq x (codes "gap") || bytes_eq x (codes "skip") || bytes_eq x (codes "close") || bytes_eq x (codes "set_initial_sequence_number")

abbrev pub is_late_method : List ℕ → Bool
is_late_method x = is_late_unit_method x || is_sink_method x

-- the text of a name
abbrev pub text_of : Tree → List ℕ
text_of (node (form_is.Name x) span ts) = x
text_of _ = []

-- A call of such a method begins with its receiver.
abbrev pub calls_late : Tree → Bool
calls_late (node (form_is.Expr expr_is.Member) span (more object (more name none))) = is_late_method (text_of name)
calls_late _ = false

abbrev pub expr_tests : ℕ → Tree → List (Bool × Diag)
expr_tests m (node (form_is.Expr expr_is.Call) span (more callee arguments)) = (calls_late callee, at m span) ∷ []
expr_tests m _ = []

-- The statements `stop`, `confirm` and `reject`.
abbrev pub stmt_tests : ℕ → Tree → List (Bool × Diag)
stmt_tests m (node (form_is.Stmt stmt_is.Stop) span ts) = (true, at m span) ∷ []
stmt_tests m (node (form_is.Stmt stmt_is.Confirm) span ts) = (true, at m span) ∷ []
stmt_tests m (node (form_is.Stmt stmt_is.Reject) span ts) = (true, at m span) ∷ []
stmt_tests m _ = []

-- the path `filter::Base64Decode`
abbrev pub is_decoder : Tree → Bool
is_decoder (node form_is.Path span (more scope (more name none))) = bytes_eq (text_of scope) (codes "filter") && bytes_eq (text_of name) (codes "Base64Decode")
is_decoder _ = false

-- Types of bitfields where they are written, at the word `bitfield`; and `filter::Base64Decode` as a type.
abbrev pub type_tests : ℕ → Tree → List (Bool × Diag)
type_tests m (node (form_is.Type type_is.Bitfield) span ts) = (true, at m span) ∷ []
type_tests m (node (form_is.Type type_is.Path) span (more path none)) = (is_decoder path, at m span) ∷ []
type_tests m _ = []

-- whether `foreach` stands before what a hook does
abbrev pub is_each : Tree → Bool
is_each (node (form_is.HookBody each) span ts) = each
is_each _ = false

abbrev pub is_for_each : Tree → Bool
is_for_each (node form_is.Hook span (more parameters (more body none))) = is_each body
is_for_each _ = false

-- whether a hook hangs on such a one of its unit, and the same of a name behind a path, which may be left out
abbrev pub is_late_target : Tree → Bool
is_late_target (node (form_is.Target (target_is.Hook name)) span ts) = is_late_hook name
is_late_target _ = false

abbrev pub is_late_name : Tree → Bool
is_late_name (node (form_is.HookName name) span ts) = is_late_hook name
is_late_name _ = false

-- In a unit: `%filter`; sinks, at the word `sink`; and, at the word `on`, hooks for each element and hooks of the names above.
abbrev pub item_tests : ℕ → Tree → List (Bool × Diag)
item_tests m (node (form_is.Item item_is.Filter) span ts) = (true, at m span) ∷ []
item_tests m (node (form_is.Item item_is.Sink) span ts) = (true, at m span) ∷ []
item_tests m (node (form_is.Item item_is.On) span (more target (more hook none))) = (is_late_target target || is_for_each hook, at m span) ∷ []
item_tests m _ = []

-- The same hooks outside of their unit.
abbrev pub decl_tests : ℕ → Tree → List (Bool × Diag)
decl_tests m (node (form_is.Decl decl_is.On) span (more path (more name (more hook none)))) = (is_late_name name || is_for_each hook, at m span) ∷ []
decl_tests m _ = []

-- Switches in units, at the word `switch`.
abbrev pub part_tests : ℕ → Tree → List (Bool × Diag)
part_tests m (node (form_is.Part part_is.Switch) span ts) = (true, at m span) ∷ []
part_tests m _ = []

-- where the last of some trees ends, or else a place
abbrev pub last_end : ℕ → Trees → ℕ
last_end n none = n
last_end n (more t ts) = last_end (span_of t).to ts

-- where the base of a field ends with its counts and its attributes
abbrev pub read_end : Tree → Trees → Trees → ℕ
read_end base counts attributes = last_end (last_end (span_of base).to counts) attributes

-- a part behind a token of two bytes, which is the next one from a place on
abbrev pub word_tests : List ℕ → ℕ → ℕ → Option Tree → List (Bool × Diag)
word_tests text m n None = []
word_tests text m n (Some t) = (true, at m (two_bytes (next_token text n))) ∷ []

-- the end of a condition, behind its closing parenthesis, where there is one
abbrev pub condition_end : List ℕ → ℕ → Option Tree → ℕ
condition_end text n None = n
condition_end text n (Some t) = next_token text (span_of t).to + 1

-- the condition and the sink of a field whose base, counts and attributes end at a place
abbrev pub tail_tests : List ℕ → ℕ → ℕ → Option Tree → Option Tree → List (Bool × Diag)
tail_tests text m n condition sink = word_tests text m n condition ++ word_tests text m (condition_end text n condition) sink

-- the hooks of a field for each element
abbrev pub each_tests : ℕ → Trees → List (Bool × Diag)
each_tests m none = []
each_tests m (more t ts) = (is_each t, at m (span_of t)) ∷ each_tests m ts

-- In a field: its condition, at the word `if`; its sink, at the arrow; and its hooks for each element, at the word `foreach`.
abbrev pub field_tests : List ℕ → ℕ → Tree → List (Bool × Diag)
field_tests text m (node form_is.Field span (more name (more base (more (row counts) (more (row attributes) (more condition (more sink (more (row hooks) none)))))))) =
    tail_tests text m (read_end base counts attributes) (present condition) (present sink) ++ each_tests m hooks
field_tests text m _ = []

-- what isn't built at a tree, apart from what stands in it
abbrev pub tests_at : List ℕ → ℕ → Tree → List (Bool × Diag)
tests_at text m (node (form_is.Attribute name) span ts) = (is_late_attribute name, at m span) ∷ []
tests_at text m (node form_is.Field span ts) = field_tests text m (node form_is.Field span ts)
tests_at text m (node (form_is.Part form) span ts) = part_tests m (node (form_is.Part form) span ts)
tests_at text m (node (form_is.Item form) span ts) = item_tests m (node (form_is.Item form) span ts)
tests_at text m (node (form_is.Decl form) span ts) = decl_tests m (node (form_is.Decl form) span ts)
tests_at text m (node (form_is.Type form) span ts) = type_tests m (node (form_is.Type form) span ts)
tests_at text m (node (form_is.Stmt form) span ts) = stmt_tests m (node (form_is.Stmt form) span ts)
tests_at text m (node (form_is.Expr form) span ts) = expr_tests m (node (form_is.Expr form) span ts)
tests_at text m _ = []
