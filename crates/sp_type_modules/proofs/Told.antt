-- What the tables of a list tell of a number.
use Rattle.std.proofs.Common.{ℕ, ◌≡◌, sym, ap, ◌∙◌, List, length, Option, Some, None, slice_get}
use Rattle.std.specs.Prelude.{Result, IfOk}
use Rattle.std.proofs.lemmas.Result.{IfOk-weaker}
use Rattle.sp_ast.specs.Trees.{Tree}
use Rattle.sp_types.specs.Types.{Ty}
use Rattle.sp_type_context.specs.declared.context.Member.{Member}
use Rattle.sp_type_operands.specs.Operands.{unknown}
use Rattle.sp_solver.specs.Told.{told}
use Rattle.sp_names.specs.declared.sort.DeclSort.TheVariants as sort_is
use Rattle.sp_names.specs.Declarations.{all_of}
use Rattle.sp_names.specs.Names.{declaration_of, first_named}
use Rattle.sp_names.specs.Types.{bitfields}
use Rattle.sp_names.specs.Tables.{Each}
use Rattle.sp_names.proofs.Lookups.{past_end}
use Rattle.sp_type_modules.specs.declared.tables.UnitTable.{UnitTable}
use Rattle.sp_type_modules.specs.declared.tables.FunctionTable.{FunctionTable}
use Rattle.sp_type_modules.specs.declared.tables.BitTable.{BitTable}
use Rattle.sp_type_modules.specs.Members.{UnitMember, unit_members, members_of, declared_unit, numbered, range_name, range_number, bitfield_ranges, bitfield_width, bitfield_tree, tree_of}
use Rattle.sp_type_modules.specs.Heads.{unit_takes, function_takes, function_gives, types_of_unit, types_of_function, result_of}
use Rattle.sp_type_modules.specs.Arounds.{stored_by, unit_member, bit_member, width_type}
use Rattle.sp_type_modules.specs.inside.Kept.{IsKept}
use Rattle.sp_name_tables.specs.Tables.{told_by}
use Rattle.sp_type_modules.specs.inside.Tables.{IsUnit, IsFunction, IsBits, from_first}

pub unit_some : (list : List Tree) (known : List (Option Ty)) (value : List Tree × List (Option Ty)) (units : List UnitTable) (n : ℕ) (table : UnitTable) (stored : ℕ → Option Ty) (x : List ℕ) (m : Option Member)
    → (list, known) ≡ value → Each (IsUnit list (told known)) units → Some table ≡ slice_get units n
    → ((ms : List UnitMember) → IsKept table.members ms → m ≡ unit_member (from_first stored table.first) ms (numbered x 0 ms))
    → m ≡ unit_member (stored_by value.0 stored n) (unit_members value.0 n) (numbered x 0 (unit_members value.0 n))
unit_some list known value units n table stored x m v each at clause =
    let u = each n table (sym at) in
    let ms = unit_members list n in
    clause ms u.members_are
    ∙ ap (λ k. unit_member (from_first stored k) ms (numbered x 0 ms)) u.first_is
    ∙ ap (λ p. unit_member (stored_by p.0 stored n) (unit_members p.0 n) (numbered x 0 (unit_members p.0 n))) v

no_unit_at : (list : List Tree) (units : List UnitTable) (n : ℕ) → length units ≡ length (all_of sort_is.Unit list) → None ≡ slice_get units n → slice_get (all_of sort_is.Unit list) n ≡ None
no_unit_at list units n all at = past_end units (all_of sort_is.Unit list) n all at

pub unit_none : (list : List Tree) (known : List (Option Ty)) (value : List Tree × List (Option Ty)) (units : List UnitTable) (n : ℕ) (stored : ℕ → Option Ty) (x : List ℕ)
    → (list, known) ≡ value → length units ≡ length (all_of sort_is.Unit list) → None ≡ slice_get units n
    → None ≡ unit_member (stored_by value.0 stored n) (unit_members value.0 n) (numbered x 0 (unit_members value.0 n))
unit_none list known value units n stored x v all at =
    let none = no_unit_at list units n all at in
    sym (ap (λ o. unit_member (stored_by list stored n) (members_of (declared_unit (declaration_of list o))) (numbered x 0 (members_of (declared_unit (declaration_of list o))))) none)
    ∙ ap (λ p. unit_member (stored_by p.0 stored n) (unit_members p.0 n) (numbered x 0 (unit_members p.0 n))) v

pub takes_some : (list : List Tree) (known : List (Option Ty)) (value : List Tree × List (Option Ty)) (units : List UnitTable) (n k : ℕ) (table : UnitTable) (t : Option Ty)
    → (list, known) ≡ value → Each (IsUnit list (told known)) units → Some table ≡ slice_get units n → t ≡ slice_get table.takes.items k → t ≡ slice_get (unit_takes value.0 (told value.1) n) k
takes_some list known value units n k table t v each at is =
    is
    ∙ ap (λ l. slice_get l k) (each n table (sym at)).takes_are
    ∙ ap (λ p. slice_get (unit_takes p.0 (told p.1) n) k) v

pub takes_none : (list : List Tree) (known : List (Option Ty)) (value : List Tree × List (Option Ty)) (units : List UnitTable) (n k : ℕ)
    → (list, known) ≡ value → length units ≡ length (all_of sort_is.Unit list) → None ≡ slice_get units n → None ≡ slice_get (unit_takes value.0 (told value.1) n) k
takes_none list known value units n k v all at =
    sym (ap (λ o. slice_get (types_of_unit list (told known) (declaration_of list o)) k) (no_unit_at list units n all at))
    ∙ ap (λ p. slice_get (unit_takes p.0 (told p.1) n) k) v

pub calls_some : (list : List Tree) (known : List (Option Ty)) (value : List Tree × List (Option Ty)) (functions : List FunctionTable) (n k : ℕ) (table : FunctionTable) (t : Option Ty)
    → (list, known) ≡ value → Each (IsFunction list (told known)) functions → Some table ≡ slice_get functions n → t ≡ slice_get table.takes.items k → t ≡ slice_get (function_takes value.0 (told value.1) n) k
calls_some list known value functions n k table t v each at is =
    is
    ∙ ap (λ l. slice_get l k) (each n table (sym at)).takes_are
    ∙ ap (λ p. slice_get (function_takes p.0 (told p.1) n) k) v

no_function_at : (list : List Tree) (functions : List FunctionTable) (n : ℕ) → length functions ≡ length (all_of sort_is.Function list) → None ≡ slice_get functions n → slice_get (all_of sort_is.Function list) n ≡ None
no_function_at list functions n all at = past_end functions (all_of sort_is.Function list) n all at

pub calls_none : (list : List Tree) (known : List (Option Ty)) (value : List Tree × List (Option Ty)) (functions : List FunctionTable) (n k : ℕ)
    → (list, known) ≡ value → length functions ≡ length (all_of sort_is.Function list) → None ≡ slice_get functions n → None ≡ slice_get (function_takes value.0 (told value.1) n) k
calls_none list known value functions n k v all at =
    sym (ap (λ o. slice_get (types_of_function list (told known) (declaration_of list o)) k) (no_function_at list functions n all at))
    ∙ ap (λ p. slice_get (function_takes p.0 (told p.1) n) k) v

pub gives_some : (list : List Tree) (known : List (Option Ty)) (value : List Tree × List (Option Ty)) (functions : List FunctionTable) (n : ℕ) (table : FunctionTable) (t : Ty)
    → (list, known) ≡ value → Each (IsFunction list (told known)) functions → Some table ≡ slice_get functions n → t ≡ table.gives → t ≡ function_gives value.0 (told value.1) n
gives_some list known value functions n table t v each at is =
    is ∙ (each n table (sym at)).gives_is ∙ ap (λ p. function_gives p.0 (told p.1) n) v

pub gives_none : (list : List Tree) (known : List (Option Ty)) (value : List Tree × List (Option Ty)) (functions : List FunctionTable) (n : ℕ)
    → (list, known) ≡ value → length functions ≡ length (all_of sort_is.Function list) → None ≡ slice_get functions n → unknown ≡ function_gives value.0 (told value.1) n
gives_none list known value functions n v all at =
    sym (ap (λ o. result_of list (told known) (declaration_of list o)) (no_function_at list functions n all at))
    ∙ ap (λ p. function_gives p.0 (told p.1) n) v

pub bits_some : (list : List Tree) (known : List (Option Ty)) (value : List Tree × List (Option Ty)) (bits : List BitTable) (n : ℕ) (table : BitTable) (x : List ℕ) (m : Option Member)
    → (list, known) ≡ value → Each (IsBits list) bits → Some table ≡ slice_get bits n → m ≡ bit_member table.width (told_by table.ranges x)
    → m ≡ bit_member (width_type (bitfield_width (bitfield_tree value.0 n))) (range_number value.0 n x)
bits_some list known value bits n table x m v each at is =
    let b = each n table (sym at) in
    is
    ∙ ap (λ t. bit_member t (told_by table.ranges x)) b.width_is
    ∙ ap (bit_member (width_type (bitfield_width (bitfield_tree list n)))) (b.ranges_are x)
    ∙ ap (λ p. bit_member (width_type (bitfield_width (bitfield_tree p.0 n))) (range_number p.0 n x)) v

pub bits_none : (list : List Tree) (known : List (Option Ty)) (value : List Tree × List (Option Ty)) (bits : List BitTable) (n : ℕ) (x : List ℕ)
    → (list, known) ≡ value → length bits ≡ length (bitfields list) → None ≡ slice_get bits n
    → None ≡ bit_member (width_type (bitfield_width (bitfield_tree value.0 n))) (range_number value.0 n x)
bits_none list known value bits n x v all at =
    sym (ap (λ o. bit_member (width_type (bitfield_width (tree_of o))) (first_named range_name x 0 (bitfield_ranges (tree_of o)))) (past_end bits (bitfields list) n all at))
    ∙ ap (λ p. bit_member (width_type (bitfield_width (bitfield_tree p.0 n))) (range_number p.0 n x)) v

-- the same of what a call answers, if it does
pub unit_found : {E : Type 0} (r : Result (Option Member) E) (list : List Tree) (known : List (Option Ty)) (value : List Tree × List (Option Ty)) (units : List UnitTable) (n : ℕ) (table : UnitTable) (stored : ℕ → Option Ty) (x : List ℕ)
    → (list, known) ≡ value → Each (IsUnit list (told known)) units → Some table ≡ slice_get units n
    → IfOk r (λ m. (ms : List UnitMember) → IsKept table.members ms → m ≡ unit_member (from_first stored table.first) ms (numbered x 0 ms))
    → IfOk r (λ m. m ≡ unit_member (stored_by value.0 stored n) (unit_members value.0 n) (numbered x 0 (unit_members value.0 n)))
unit_found r list known value units n table stored x v each at clause =
    IfOk-weaker r (λ m. (ms : List UnitMember) → IsKept table.members ms → m ≡ unit_member (from_first stored table.first) ms (numbered x 0 ms))
    (λ m. m ≡ unit_member (stored_by value.0 stored n) (unit_members value.0 n) (numbered x 0 (unit_members value.0 n)))
    (λ m is. unit_some list known value units n table stored x m v each at is) clause

pub takes_found : {E : Type 0} (r : Result (Option Ty) E) (list : List Tree) (known : List (Option Ty)) (value : List Tree × List (Option Ty)) (units : List UnitTable) (n k : ℕ) (table : UnitTable)
    → (list, known) ≡ value → Each (IsUnit list (told known)) units → Some table ≡ slice_get units n → IfOk r (λ t. t ≡ slice_get table.takes.items k) → IfOk r (λ t. t ≡ slice_get (unit_takes value.0 (told value.1) n) k)
takes_found r list known value units n k table v each at clause =
    IfOk-weaker r (λ t. t ≡ slice_get table.takes.items k) (λ t. t ≡ slice_get (unit_takes value.0 (told value.1) n) k) (λ t is. takes_some list known value units n k table t v each at is) clause

pub calls_found : {E : Type 0} (r : Result (Option Ty) E) (list : List Tree) (known : List (Option Ty)) (value : List Tree × List (Option Ty)) (functions : List FunctionTable) (n k : ℕ) (table : FunctionTable)
    → (list, known) ≡ value → Each (IsFunction list (told known)) functions → Some table ≡ slice_get functions n → IfOk r (λ t. t ≡ slice_get table.takes.items k) → IfOk r (λ t. t ≡ slice_get (function_takes value.0 (told value.1) n) k)
calls_found r list known value functions n k table v each at clause =
    IfOk-weaker r (λ t. t ≡ slice_get table.takes.items k) (λ t. t ≡ slice_get (function_takes value.0 (told value.1) n) k) (λ t is. calls_some list known value functions n k table t v each at is) clause

pub gives_found : {E : Type 0} (r : Result Ty E) (list : List Tree) (known : List (Option Ty)) (value : List Tree × List (Option Ty)) (functions : List FunctionTable) (n : ℕ) (table : FunctionTable)
    → (list, known) ≡ value → Each (IsFunction list (told known)) functions → Some table ≡ slice_get functions n → IfOk r (λ t. t ≡ table.gives) → IfOk r (λ t. t ≡ function_gives value.0 (told value.1) n)
gives_found r list known value functions n table v each at clause =
    IfOk-weaker r (λ t. t ≡ table.gives) (λ t. t ≡ function_gives value.0 (told value.1) n) (λ t is. gives_some list known value functions n table t v each at is) clause

pub bits_found : {E : Type 0} (r : Result (Option Member) E) (list : List Tree) (known : List (Option Ty)) (value : List Tree × List (Option Ty)) (bits : List BitTable) (n : ℕ) (table : BitTable) (x : List ℕ)
    → (list, known) ≡ value → Each (IsBits list) bits → Some table ≡ slice_get bits n → IfOk r (λ m. m ≡ bit_member table.width (told_by table.ranges x))
    → IfOk r (λ m. m ≡ bit_member (width_type (bitfield_width (bitfield_tree value.0 n))) (range_number value.0 n x))
bits_found r list known value bits n table x v each at clause =
    IfOk-weaker r (λ m. m ≡ bit_member table.width (told_by table.ranges x)) (λ m. m ≡ bit_member (width_type (bitfield_width (bitfield_tree value.0 n))) (range_number value.0 n x)) (λ m is. bits_some list known value bits n table x m v each at is) clause
