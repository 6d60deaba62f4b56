-- The table of the code and the grammar in its own words read the same.
use Rattle.std.proofs.Common.{◌≡◌, ℕ, List, [], ◌∷◌, true, false, refl}
use Rattle.std.proofs.lemmas.Bool.{true≢false}
use Rattle.sp_parser.specs.declared.symbol.ActionAt.{ActionAt}
use Rattle.sp_parser.specs.Grammar.{Derives}
use Rattle.sp_parser.proofs.Phrases.{only_one}
use Rattle.sp_parser.proofs.Tested.{certified_by_test}
use Rattle.sp_grammar.specs.declared.language.Start.{Start}
use Rattle.sp_grammar.specs.Starts.{start_number, part_of}
use Rattle.sp_grammar.specs.declared.language.Start.TheVariants as start
use Rattle.sp_grammar.specs.Reads.{IsRead}
use Rattle.sp_grammar.specs.Written.{Part, part_number}
use Rattle.sp_grammar.specs.Own.{is_piece}
use Rattle.sp_grammar.specs.Language.{language_sets, language_tested}
use Rattle.sp_grammar.proofs.Starting.{ends_after, is_part}
use Rattle.sp_grammar.proofs.Spans.{read_if_derived, derived_if_read}
use Rattle.sp_grammar.specs.Language.{language}
use Rattle.sp_grammar.specs.Own.{own}
use Rattle.sp_grammar.proofs.Recursion.{Role, Same, Ends, TailOf, all_forth, all_back, forth, back, ordinary, closes}

-- what each part of the table is in the grammar in its own words
roles_of : List Role
roles_of = Same ∷ Same ∷ Same ∷ Ends ∷ Same ∷ Ends ∷ Same ∷ Same ∷ Ends ∷ Same ∷ Same ∷ Same ∷ Same ∷ Same ∷ Same ∷ Same ∷ Same ∷ Same ∷ Same ∷ Same ∷ Same ∷ Same ∷ Ends ∷ Same ∷ Same ∷ Same ∷ Same ∷ Same ∷ Same ∷ Same ∷ Same ∷ Ends ∷ Same ∷ Same ∷ Same ∷ Same ∷ Same ∷ Same ∷ Ends ∷ Same ∷ Same ∷ Same ∷ Same ∷ Same ∷ Same ∷ Same ∷ Same ∷ Same ∷ Ends ∷ Ends ∷ Same ∷ Same ∷ Same ∷ Same ∷ Same ∷ Same ∷ Same ∷ Ends ∷ Same ∷ Ends ∷ Same ∷ Same ∷ Same ∷ Ends ∷ Same ∷ Ends ∷ Same ∷ TailOf 66 ∷ Same ∷ TailOf 68 ∷ Same ∷ TailOf 70 ∷ Same ∷ TailOf 72 ∷ Same ∷ TailOf 74 ∷ Same ∷ TailOf 76 ∷ Same ∷ TailOf 78 ∷ Same ∷ TailOf 80 ∷ Same ∷ TailOf 82 ∷ Same ∷ TailOf 84 ∷ Same ∷ TailOf 86 ∷ Same ∷ TailOf 89 ∷ Same ∷ Same ∷ Ends ∷ Ends ∷ Ends ∷ Same ∷ Same ∷ Same ∷ []

-- of each left-recursive part, its tail, and its first operand
tails_of : List ℕ
tails_of = 0 ∷ 0 ∷ 0 ∷ 0 ∷ 0 ∷ 0 ∷ 0 ∷ 0 ∷ 0 ∷ 0 ∷ 0 ∷ 0 ∷ 0 ∷ 0 ∷ 0 ∷ 0 ∷ 0 ∷ 0 ∷ 0 ∷ 0 ∷ 0 ∷ 0 ∷ 0 ∷ 0 ∷ 0 ∷ 0 ∷ 0 ∷ 0 ∷ 0 ∷ 0 ∷ 0 ∷ 0 ∷ 0 ∷ 0 ∷ 0 ∷ 0 ∷ 0 ∷ 0 ∷ 0 ∷ 0 ∷ 0 ∷ 0 ∷ 0 ∷ 0 ∷ 0 ∷ 0 ∷ 0 ∷ 0 ∷ 0 ∷ 0 ∷ 0 ∷ 0 ∷ 0 ∷ 0 ∷ 0 ∷ 0 ∷ 0 ∷ 0 ∷ 0 ∷ 0 ∷ 0 ∷ 0 ∷ 0 ∷ 0 ∷ 0 ∷ 0 ∷ 67 ∷ 0 ∷ 69 ∷ 0 ∷ 71 ∷ 0 ∷ 73 ∷ 0 ∷ 75 ∷ 0 ∷ 77 ∷ 0 ∷ 79 ∷ 0 ∷ 81 ∷ 0 ∷ 83 ∷ 0 ∷ 85 ∷ 0 ∷ 87 ∷ 0 ∷ 0 ∷ 89 ∷ 0 ∷ 0 ∷ 0 ∷ 0 ∷ 0 ∷ 0 ∷ 0 ∷ 0 ∷ []

operands_of : List ℕ
operands_of = 0 ∷ 0 ∷ 0 ∷ 0 ∷ 0 ∷ 0 ∷ 0 ∷ 0 ∷ 0 ∷ 0 ∷ 0 ∷ 0 ∷ 0 ∷ 0 ∷ 0 ∷ 0 ∷ 0 ∷ 0 ∷ 0 ∷ 0 ∷ 0 ∷ 0 ∷ 0 ∷ 0 ∷ 0 ∷ 0 ∷ 0 ∷ 0 ∷ 0 ∷ 0 ∷ 0 ∷ 0 ∷ 0 ∷ 0 ∷ 0 ∷ 0 ∷ 0 ∷ 0 ∷ 0 ∷ 0 ∷ 0 ∷ 0 ∷ 0 ∷ 0 ∷ 0 ∷ 0 ∷ 0 ∷ 0 ∷ 0 ∷ 0 ∷ 0 ∷ 0 ∷ 0 ∷ 0 ∷ 0 ∷ 0 ∷ 0 ∷ 0 ∷ 0 ∷ 0 ∷ 0 ∷ 0 ∷ 0 ∷ 0 ∷ 0 ∷ 0 ∷ 68 ∷ 0 ∷ 70 ∷ 0 ∷ 72 ∷ 0 ∷ 74 ∷ 0 ∷ 76 ∷ 0 ∷ 78 ∷ 0 ∷ 80 ∷ 0 ∷ 82 ∷ 0 ∷ 84 ∷ 0 ∷ 86 ∷ 0 ∷ 88 ∷ 0 ∷ 0 ∷ 91 ∷ 0 ∷ 0 ∷ 0 ∷ 0 ∷ 0 ∷ 0 ∷ 0 ∷ 0 ∷ []

forth_tested : all_forth roles_of language own ≡ true
unfolding language own roles_of
forth_tested = refl

back_tested : all_back tails_of operands_of language own ≡ true
unfolding language own tails_of operands_of
back_tested = refl

-- a part that isn't a piece keeps its name, and what its tail needs is there
fitting_part : (p : Part) → is_piece p ≡ false → (ordinary roles_of (part_number p) ≡ true) × (closes language tails_of operands_of (part_number p) ≡ true)
unfolding language roles_of tails_of operands_of
fitting_part Part.Module h = (refl, refl)
fitting_part Part.Decls h = (refl, refl)
fitting_part Part.Decl h = (refl, refl)
fitting_part Part.Public h = absurd (true≢false h)
fitting_part Part.OnPath h = (refl, refl)
fitting_part Part.OnName h = absurd (true≢false h)
fitting_part Part.OptType h = (refl, refl)
fitting_part Part.Hook h = (refl, refl)
fitting_part Part.HookTail h = absurd (true≢false h)
fitting_part Part.OptParen h = (refl, refl)
fitting_part Part.OptPriority h = (refl, refl)
fitting_part Part.Path h = (refl, refl)
fitting_part Part.PathTail h = (refl, refl)
fitting_part Part.OptParams h = (refl, refl)
fitting_part Part.Params h = (refl, refl)
fitting_part Part.Param h = (refl, refl)
fitting_part Part.TypeTree h = (refl, refl)
fitting_part Part.Plain h = (refl, refl)
fitting_part Part.Types h = (refl, refl)
fitting_part Part.Label h = (refl, refl)
fitting_part Part.OptValue h = (refl, refl)
fitting_part Part.Labels h = (refl, refl)
fitting_part Part.MoreLabels h = absurd (true≢false h)
fitting_part Part.Ranges h = (refl, refl)
fitting_part Part.Range h = (refl, refl)
fitting_part Part.OptUpTo h = (refl, refl)
fitting_part Part.Items h = (refl, refl)
fitting_part Part.Item h = (refl, refl)
fitting_part Part.ItemOn h = (refl, refl)
fitting_part Part.OptSemi h = (refl, refl)
fitting_part Part.UnitPart h = (refl, refl)
fitting_part Part.Switch h = absurd (true≢false h)
fitting_part Part.ValueArms h = (refl, refl)
fitting_part Part.ValueArm h = (refl, refl)
fitting_part Part.PlainArms h = (refl, refl)
fitting_part Part.Arm h = (refl, refl)
fitting_part Part.Parts h = (refl, refl)
fitting_part Part.Field h = (refl, refl)
fitting_part Part.FieldTail h = absurd (true≢false h)
fitting_part Part.Counts h = (refl, refl)
fitting_part Part.OptExpr h = (refl, refl)
fitting_part Part.Attrs h = (refl, refl)
fitting_part Part.OptIf h = (refl, refl)
fitting_part Part.OptSink h = (refl, refl)
fitting_part Part.FieldEnd h = (refl, refl)
fitting_part Part.FieldHooks h = (refl, refl)
fitting_part Part.FieldHook h = (refl, refl)
fitting_part Part.Base h = (refl, refl)
fitting_part Part.BaseTail h = absurd (true≢false h)
fitting_part Part.OptNum h = absurd (true≢false h)
fitting_part Part.Args h = (refl, refl)
fitting_part Part.Exprs h = (refl, refl)
fitting_part Part.Block h = (refl, refl)
fitting_part Part.Stmts h = (refl, refl)
fitting_part Part.Stmt h = (refl, refl)
fitting_part Part.Branch h = (refl, refl)
fitting_part Part.OptElse h = (refl, refl)
fitting_part Part.Else h = absurd (true≢false h)
fitting_part Part.Other h = (refl, refl)
fitting_part Part.Local h = absurd (true≢false h)
fitting_part Part.Cases h = (refl, refl)
fitting_part Part.OptDefault h = (refl, refl)
fitting_part Part.OptText h = (refl, refl)
fitting_part Part.OptAssign h = absurd (true≢false h)
fitting_part Part.Expr h = (refl, refl)
fitting_part Part.OptChoice h = absurd (true≢false h)
fitting_part Part.Or h = (refl, refl)
fitting_part Part.OrTail h = absurd (true≢false h)
fitting_part Part.And h = (refl, refl)
fitting_part Part.AndTail h = absurd (true≢false h)
fitting_part Part.Membership h = (refl, refl)
fitting_part Part.MembershipTail h = absurd (true≢false h)
fitting_part Part.Equality h = (refl, refl)
fitting_part Part.EqualityTail h = absurd (true≢false h)
fitting_part Part.Order h = (refl, refl)
fitting_part Part.OrderTail h = absurd (true≢false h)
fitting_part Part.BitOr h = (refl, refl)
fitting_part Part.BitOrTail h = absurd (true≢false h)
fitting_part Part.BitXor h = (refl, refl)
fitting_part Part.BitXorTail h = absurd (true≢false h)
fitting_part Part.BitAnd h = (refl, refl)
fitting_part Part.BitAndTail h = absurd (true≢false h)
fitting_part Part.Shift h = (refl, refl)
fitting_part Part.ShiftTail h = absurd (true≢false h)
fitting_part Part.Sum h = (refl, refl)
fitting_part Part.SumTail h = absurd (true≢false h)
fitting_part Part.Product h = (refl, refl)
fitting_part Part.ProductTail h = absurd (true≢false h)
fitting_part Part.Prefix h = (refl, refl)
fitting_part Part.Postfix h = absurd (true≢false h)
fitting_part Part.Member h = (refl, refl)
fitting_part Part.Primary h = (refl, refl)
fitting_part Part.Paren h = absurd (true≢false h)
fitting_part Part.Set h = absurd (true≢false h)
fitting_part Part.Map h = absurd (true≢false h)
fitting_part Part.Pairs h = (refl, refl)
fitting_part Part.Pair h = (refl, refl)
fitting_part Part.NewArgs h = (refl, refl)

pub read_of_table : (p : Part) → is_piece p ≡ false → (w : List ℕ) (τ : List ActionAt) → Derives language (part_number p) w τ → IsRead own (part_number p) w τ
read_of_table p h w τ d = let r = read_if_derived language (part_number p) w τ d in (r.0, forth roles_of language own forth_tested (part_number p) 0 r.0 w [] τ [] (fitting_part p h).0 r.1)

pub table_of_read : (p : Part) → is_piece p ≡ false → (w : List ℕ) (τ : List ActionAt) → IsRead own (part_number p) w τ → Derives language (part_number p) w τ
table_of_read p h w τ r = derived_if_read language (part_number p) w τ (r.0, back tails_of operands_of language own back_tested (part_number p) 0 r.0 w [] τ [] (fitting_part p h).1 r.1)

pub start_part : (s : Start) → is_piece (part_of s) ≡ false
start_part start.Module = refl
start_part start.Type = refl
start_part start.Stmt = refl
start_part start.Expr = refl

pub read_one_way : (s : Start) (w : List ℕ) (τ σ : List ActionAt) → IsRead own (start_number s) w τ → IsRead own (start_number s) w σ → τ ≡ σ
read_one_way s w τ σ x y = only_one language language_sets (certified_by_test language language_sets language_tested) (start_number s) w σ τ (is_part s) (ends_after s) (table_of_read (part_of s) (start_part s) w σ y) (table_of_read (part_of s) (start_part s) w τ x)
