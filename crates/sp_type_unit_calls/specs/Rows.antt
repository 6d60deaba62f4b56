-- Rows on which calls of a unit are looked for.
use Rattle.std.specs.Prelude.{◌≡◌, Bool, true, false, List, [], ◌∷◌, Option, Some, None, refl}
use Rattle.sp_base.specs.declared.places.Span.{Span}
use Rattle.sp_words.specs.declared.words.HookName.TheVariants as event_is
use Rattle.sp_words.specs.declared.words.AttributeName.TheVariants as name_is
use Rattle.sp_types.specs.Types.{Ty, word}
use Rattle.sp_types.specs.declared.words.Word.TheVariants as word_is
use Rattle.sp_typed.specs.declared.words.LeafOp.TheVariants as leaf_is
use Rattle.sp_typed.specs.declared.words.OneOp.TheVariants as one_is
use Rattle.sp_typed.specs.declared.words.ManyOp.TheVariants as many_is
use Rattle.sp_typed.specs.declared.words.Standing.TheVariants as standing_is
use Rattle.sp_typed.specs.declared.words.UnitMethod.{UnitMethod}
use Rattle.sp_typed.specs.declared.words.UnitMethod.TheVariants as method_is
use Rattle.sp_typed.specs.declared.stmt_words.ValuedOp.TheVariants as valued_is
use Rattle.sp_typed.specs.Exprs.{Expr, leaf, one, many, exprs}
use Rattle.sp_typed.specs.Stmts.{Stmt, valued, block, branch, switch, stmts, no_branches, more_branches, no_cases, more_cases}
use Rattle.sp_typed_units.specs.declared.attributes.Attribute.{Attribute}
use Rattle.sp_typed_units.specs.declared.readings.ReadOp.TheVariants as read_is
use Rattle.sp_typed_units.specs.Specs.{Spec, read, unit_read, list_read, group_read}
use Rattle.sp_typed_units.specs.Parts.{Part, field, choice, parts, no_arms, more_arms}
use Rattle.sp_typed_units.specs.declared.declarations.HookOf.{HookOf}
use Rattle.sp_typed_units.specs.declared.declarations.HookOf.TheVariants as of_is
use Rattle.sp_typed_units.specs.declared.declarations.Hook.{Hook}
use Rattle.sp_type_unit_calls.specs.Calls.{expr_calls}
use Rattle.sp_type_unit_calls.specs.StmtCalls.{stmt_calls}
use Rattle.sp_type_unit_calls.specs.PartCalls.{parts_call, variables_call}
use Rattle.sp_type_unit_calls.specs.HookCalling.{hooks_call, callers}

-- expressions
abbrev on : Span
on = record { from = 1; to = 2 }

abbrev some_unit : Ty
some_unit = word (word_is.Unit 0)

abbrev itself : Expr
itself = leaf (record { span = on; ty = some_unit; op = leaf_is.Itself standing_is.Meant })

abbrev calls : UnitMethod → Expr
calls m = many (record { span = on; ty = word word_is.Void; op = many_is.OfUnit m on }) (exprs (itself ∷ []))

abbrev minus : Expr → Expr
minus e = one (record { span = on; ty = some_unit; op = one_is.Negate }) e

abbrev listed : List Expr → Expr
listed es = many (record { span = on; ty = some_unit; op = many_is.Vector }) (exprs es)

-- statements
abbrev does : Expr → Stmt
does e = valued (record { span = on; op = valued_is.Expr }) e

abbrev nothing : Stmt
nothing = block (stmts [])

-- a call deep in an expression, of this method and of no other
deep : expr_calls method_is.Input (listed (itself ∷ minus (calls method_is.Input) ∷ [])) ≡ true
deep = refl

another_method : expr_calls method_is.Input (listed (calls method_is.SetInput ∷ calls method_is.ConnectFilter ∷ [])) ≡ false
another_method = refl

its_receiver : expr_calls method_is.ConnectFilter (many (record { span = on; ty = some_unit; op = many_is.OfUnit method_is.Offset on }) (exprs (calls method_is.ConnectFilter ∷ []))) ≡ true
its_receiver = refl

-- in statements
second_branch : stmt_calls method_is.Input (branch (more_branches itself nothing (more_branches itself (does (calls method_is.Input)) no_branches)) nothing) ≡ true
second_branch = refl

value_of_a_case : stmt_calls method_is.Input (switch 0 itself (more_cases (exprs (calls method_is.Input ∷ [])) nothing no_cases) nothing) ≡ true
value_of_a_case = refl

no_call : stmt_calls method_is.Input (block (stmts (does itself ∷ nothing ∷ []))) ≡ false
no_call = refl

-- in parts
abbrev integer : Spec
integer = read (record { span = on; ty = some_unit; op = read_is.Int })

abbrev valued_attribute : Option Expr → Attribute
valued_attribute e = record { span = on; name = name_is.Requires; value = e; number = None; bytes = None }

abbrev field_with : Spec → List Attribute → Option Expr → Option Expr → Part
field_with spec attributes condition sink =
    field (record { span = on; member = None; taken = false; ty = some_unit; spec = spec; attributes = attributes; condition = condition; sink = sink; hooks = [] })

abbrev inputs : Part → Bool
inputs p = parts_call method_is.Input (parts (p ∷ []))

plain_field : inputs (field_with integer (valued_attribute None ∷ valued_attribute (Some itself) ∷ []) None None) ≡ false
plain_field = refl

in_an_attribute : inputs (field_with integer (valued_attribute None ∷ valued_attribute (Some (calls method_is.Input)) ∷ []) None None) ≡ true
in_an_attribute = refl

in_a_condition : inputs (field_with integer [] (Some (calls method_is.Input)) None) ≡ true
in_a_condition = refl

in_a_sink : inputs (field_with integer [] None (Some (calls method_is.Input))) ≡ true
in_a_sink = refl

in_an_argument : inputs (field_with (unit_read (record { span = on; unit = 0 }) (exprs (calls method_is.Input ∷ []))) [] None None) ≡ true
in_an_argument = refl

in_a_count : inputs (field_with (list_read on integer (Some (calls method_is.Input))) [] None None) ≡ true
in_a_count = refl

in_a_group : inputs (field_with (list_read on (group_read on integer (valued_attribute (Some (calls method_is.Input)) ∷ [])) None) [] None None) ≡ true
in_a_group = refl

in_a_subject : inputs (choice on (Some (calls method_is.Input)) no_arms) ≡ true
in_a_subject = refl

in_a_value_of_an_arm : inputs (choice on (Some itself) (more_arms (record { span = on; values = itself ∷ calls method_is.Input ∷ []; otherwise = false }) (parts []) no_arms)) ≡ true
in_a_value_of_an_arm = refl

in_an_arm : inputs (choice on None (more_arms (record { span = on; values = []; otherwise = true }) (parts (field_with integer [] (Some (calls method_is.Input)) None ∷ [])) no_arms)) ≡ true
in_an_arm = refl

in_a_variable : variables_call method_is.Input (record { member = 0; span = on; written = record { span = on; unnamed = None; misplaced = None }; taken = false; value = Some (calls method_is.Input) } ∷ []) ≡ true
in_a_variable = refl

-- in hooks: each is of one unit at most
abbrev hook : HookOf → Option Expr → Stmt → Hook
hook of priority body =
    record { «module» = 0; span = on; of = of; fits = true; parameters = []; priority = priority; rank = None; slots = []; body = body }

abbrev hooks : List Hook
hooks =
    hook (of_is.Unit 1 event_is.Init) None nothing ∷ hook (of_is.Elements 2 0) None (does (calls method_is.Input)) ∷ hook of_is.Nothing None (does (calls method_is.Input)) ∷ hook (of_is.Anonymous 3) (Some (calls method_is.Input)) nothing ∷ hook (of_is.Field 1 0) None (does (calls method_is.Forward)) ∷ []

which_units : callers method_is.Input hooks ≡ 2 ∷ 3 ∷ []
which_units = refl

of_an_element : hooks_call method_is.Input 2 hooks ≡ true
of_an_element = refl

of_another_unit : hooks_call method_is.Input 1 hooks ≡ false
of_another_unit = refl

of_a_field : hooks_call method_is.Forward 1 hooks ≡ true
of_a_field = refl
