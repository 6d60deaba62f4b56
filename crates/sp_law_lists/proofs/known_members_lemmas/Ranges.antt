-- Members of units have full types where what is stored in them has, and ranges of bitfields where no rule is broken.
use Rattle.std.specs.Prelude.{not, ◌||◌, ◌==◌, if◌then◌else◌, map, slice_get}
use Rattle.std.proofs.Common.{ℕ, ◌≡◌, ◌+◌, zero, suc, Bool, true, false, refl, sym, ap, ◌∙◌, List, [], ◌∷◌, ◌++◌, Option, Some, None}
use Rattle.std.proofs.lemmas.Bool.{and_parts, not-true}
use Rattle.sp_numbers.specs.declared.width.Width.TheVariants as width
use Rattle.sp_ast.specs.Trees.{Tree}
use Rattle.sp_rules.specs.declared.fault.Fault.{Fault}
use Rattle.sp_types.specs.declared.words.Word.TheVariants as word_is
use Rattle.sp_types.specs.Types.{Ty, word}
use Rattle.sp_typed.specs.declared.words.OneOp.TheVariants as one_is
use Rattle.sp_typed_units.specs.declared.declarations.MemberKind.{MemberKind}
use Rattle.sp_typed_units.specs.declared.declarations.MemberKind.TheVariants as kind_is
use Rattle.sp_typed_units.specs.declared.declarations.Typed.{Typed}
use Rattle.sp_type_operands.specs.Operands.{unknown}
use Rattle.sp_type_context.specs.declared.context.Member.{Member}
use Rattle.sp_names.specs.declared.rows.Bitfield.{Bitfield}
use Rattle.sp_names.specs.Names.{first_named}
use Rattle.sp_names.specs.Types.{or_unknown, bitfields, bitfield_at}
use Rattle.sp_type_modules.specs.Members.{UnitMember, unit_members, first_member, numbered, kinds_of, range_name, bitfield_width, bitfield_ranges, tree_of, bitfield_tree, range_number}
use Rattle.sp_type_modules.specs.Arounds.{stored_by, kind_member, some_member, unit_member, width_type, bit_member}
use Rattle.sp_type_declarations.specs.Bitfields.{typed_bitfield}
use Rattle.sp_rule_units.specs.Faults.{each}
use Rattle.sp_rule_units.specs.Bits.{is_width, bitfield_tests}
use Rattle.sp_rule_units.specs.Units.{unit_tests, hook_tests, function_tests}
use Rattle.sp_type_answers.specs.Settled.{Answers}
use Rattle.sp_type_answers.specs.Lists.{typed_of}
use Rattle.sp_type_answers.specs.Rules.{Breaks}
use Rattle.sp_law_lists.specs.known_types.Full.{is_full}
use Rattle.sp_law_lists.specs.known_types.Clear.{none_hold}
use Rattle.sp_law_lists.proofs.known_types_lemmas.Full.{never}
use Rattle.sp_law_lists.proofs.known_types_lemmas.Tests.{not_so}
use Rattle.sp_law_lists.proofs.whole_list_lemmas.None.{none_parts}
use Rattle.sp_law_lists.proofs.whole_list_lemmas.Modules.{none_found, some_found}
use Rattle.sp_law_lists.proofs.unbroken_list_lemmas.Split.{unit_rules}
use Rattle.sp_law_lists.proofs.known_members_lemmas.Contexts.{FullMembers}

-- a width that a bitfield may have
chosen_width : (a b c d : Bool) → (a || (b || (c || d))) ≡ true
    → is_full (if a then word (word_is.Uint width.W8) else (if b then word (word_is.Uint width.W16) else (if c then word (word_is.Uint width.W32) else (if d then word (word_is.Uint width.W64) else unknown)))) ≡ true
chosen_width true b c d e = refl
chosen_width false true c d e = refl
chosen_width false false true d e = refl
chosen_width false false false true e = refl
chosen_width false false false false e = never e

width_full : (n : ℕ) → is_width n ≡ true → is_full (width_type n) ≡ true
width_full n e = chosen_width (n == 8) (n == 16) (n == 32) (n == 64) e

width_at : (bs : List Bitfield) (n : ℕ) (b : Bitfield) → slice_get bs n ≡ Some b → none_hold (each bitfield_tests (map typed_bitfield bs)) ≡ true → is_width (bitfield_width b.tree) ≡ true
width_at [] n b at h = none_found b at
width_at (x ∷ bs) zero b at h =
    let p = none_parts (bitfield_tests (typed_bitfield x)) (each bitfield_tests (map typed_bitfield bs)) h in
    let q = (and_parts (not (not (is_width (bitfield_width x.tree)))) _ p.0).0 in
    ap (λ (y : Bitfield). is_width (bitfield_width y.tree)) (sym (some_found x b at)) ∙ not_so (is_width (bitfield_width x.tree)) (not-true (not (is_width (bitfield_width x.tree))) q)
width_at (x ∷ bs) (suc n) b at h = width_at bs n b at (none_parts (bitfield_tests (typed_bitfield x)) (each bitfield_tests (map typed_bitfield bs)) h).1

module _ (list : List Tree) (a : Answers list) (unbroken : (x : Fault) → Breaks list x → ⊥) where
  abbrev t : Typed
  t = typed_of list a

  widths : none_hold (each bitfield_tests t.bitfields) ≡ true
  widths =
      let p = none_parts (each (unit_tests t.units) t.units) (each (hook_tests t.units) t.hooks ++ (each (function_tests t.units) t.functions ++ each bitfield_tests t.bitfields)) (unit_rules list a unbroken) in
      let q = none_parts (each (hook_tests t.units) t.hooks) (each (function_tests t.units) t.functions ++ each bitfield_tests t.bitfields) p.1 in
      (none_parts (each (function_tests t.units) t.functions) (each bitfield_tests t.bitfields) q.1).1

  -- a range that is found is one of a bitfield
  range_full : (n : ℕ) (x : List ℕ) (k : ℕ) (o : Option Bitfield) → bitfield_at list n ≡ o → first_named range_name x 0 (bitfield_ranges (tree_of o)) ≡ Some k → is_full (width_type (bitfield_width (tree_of o))) ≡ true
  range_full n x k None at e = none_found k e
  range_full n x k (Some b) at e = width_full (bitfield_width b.tree) (width_at (bitfields list) n b at widths)

  bit_full : (n : ℕ) (x : List ℕ) (found : Member) (o : Option ℕ) → range_number list n x ≡ o → bit_member (width_type (bitfield_width (bitfield_tree list n))) o ≡ Some found → is_full found.ty ≡ true
  bit_full n x found None at e = none_found found e
  bit_full n x found (Some k) at e =
      ap (λ (y : Member). is_full y.ty) (sym (some_found (record { op = one_is.Bit k; ty = width_type (bitfield_width (bitfield_tree list n)) }) found e))
      ∙ range_full n x k (bitfield_at list n) refl at

  kind_full : (stored : ℕ → Ty) (k : ℕ) (o : Option MemberKind) (found : Member) → is_full (stored k) ≡ true → some_member stored k o ≡ Some found → is_full found.ty ≡ true
  kind_full stored k None found full e = none_found found e
  kind_full stored k (Some kind_is.Field) found full e = ap (λ (y : Member). is_full y.ty) (sym (some_found (kind_member (stored k) k kind_is.Field) found e)) ∙ full
  kind_full stored k (Some kind_is.Variable) found full e = ap (λ (y : Member). is_full y.ty) (sym (some_found (kind_member (stored k) k kind_is.Variable) found e)) ∙ full
  kind_full stored k (Some kind_is.Sink) found full e = ap (λ (y : Member). is_full y.ty) (sym (some_found (kind_member (word word_is.Sink) k kind_is.Sink) found e))

  unit_full : (stored : ℕ → Ty) (ms : List UnitMember) (o : Option ℕ) (found : Member) → ((k : ℕ) → o ≡ Some k → is_full (stored k) ≡ true) → unit_member stored ms o ≡ Some found → is_full found.ty ≡ true
  unit_full stored ms None found full e = none_found found e
  unit_full stored ms (Some k) found full e = kind_full stored k (slice_get (kinds_of ms) k) found (full k refl) e

  -- Where what is stored in each member of a unit has a full type, so have all members that can be found.
  pub full_members : (s : ℕ → Option Ty) → ((n k : ℕ) (x : List ℕ) → numbered x 0 (unit_members list n) ≡ Some k → is_full (or_unknown (s (first_member list n + k))) ≡ true) → FullMembers list s
  full_members s full (word (word_is.Unit n)) x found e = unit_full (stored_by list s n) (unit_members list n) (numbered x 0 (unit_members list n)) found (λ k i. full n k x i) e
  full_members s full (word (word_is.Bitfield n)) x found e = bit_full n x found (range_number list n x) refl e
  full_members s full _ x found e = none_found found e
