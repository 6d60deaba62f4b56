-- An alternative of expressions that a part reads, a Primary or the part of its level, is an expression that is read from
-- its words.
use Rattle.std.specs.Prelude.{◌≤◌, ◌||◌}
use Rattle.std.proofs.Common.{◌≡◌, ℕ, List, [], ◌∷◌, true, false, ◌==◌, Option, refl, sym, subst, inl, inr, arith}
use Rattle.std.proofs.lemmas.Bool.{cases_Bool, eqb-true}
use Rattle.sp_lex.specs.declared.kinds.TokenKind.{TokenKind}
use Rattle.sp_parser.specs.declared.symbol.Symbol.TheVariants as symbol
use Rattle.sp_grammar.specs.Written.{Part, part_number}
use Rattle.sp_words.specs.Operators.{level}
use Rattle.sp_words.specs.declared.operators.BinaryOp.{BinaryOp}
use Rattle.sp_words.specs.declared.operators.BinaryOp.TheVariants as binary
use Rattle.sp_ast.specs.declared.forms.Form.{Form}
use Rattle.sp_ast.specs.declared.forms.Form.TheVariants as form_is
use Rattle.sp_ast.specs.declared.forms.ExprForm.TheVariants as expr_is
use Rattle.sp_ast.specs.Trees.{Tree, Trees, node, none, trees}
use Rattle.sp_ast.specs.declared.groups.Group.TheVariants.{Expressions as expressions}
use Rattle.sp_ast.specs.Groups.{is_of}
use Rattle.sp_build.proofs.Told.{never}
use Rattle.sp_print.specs.Canonical.{form_level, spelled}
use Rattle.sp_law_round_trip.specs.Bare.{nowhere}
use Rattle.sp_law_round_trip.proofs.Held.{Pile, made}
use Rattle.sp_law_round_trip.proofs.Goes.{Tok, Goes, before}
use Rattle.sp_law_round_trip.proofs.Shown.{level_part, MayPass, Spells}
use Rattle.sp_law_round_trip.proofs.Chunks.{is_expression, is_new}
use Rattle.sp_law_round_trip.proofs.Levels.{primary_at}

abbrev IsLevel : ℕ → Type 0
IsLevel n = (1 ≤ n) × (n ≤ 15)

operators_bind : (op : BinaryOp) → IsLevel (level op)
operators_bind binary.Or = (omega arith, omega arith)
operators_bind op = (omega arith, omega arith)

-- how tightly an expression binds, its parts don't tell, unless it is a `new`
forms_bind : (form : Form) (ts : Trees) → is_expression form ≡ true → is_new form ≡ false → (form_level form ts ≡ form_level form none) × IsLevel (form_level form none)
forms_bind (form_is.Expr expr_is.Choice) ts h k = (refl, (omega arith, omega arith))
forms_bind (form_is.Expr (expr_is.Unary op)) ts h k = (refl, (omega arith, omega arith))
forms_bind (form_is.Expr (expr_is.Binary op)) ts h k = (refl, operators_bind op)
forms_bind (form_is.Expr expr_is.New) ts h k = absurd (let q : true ≡ false = k in cc)
forms_bind (form_is.Expr form) ts h k = (refl, (omega arith, omega arith))
forms_bind form ts h k = never h

-- what a Primary reads, or the part of a level, the part of the level reads
lifted : (n tight : ℕ) → IsLevel tight → ((n == part_number Part.Primary) || (n == part_number (level_part tight))) ≡ true → {w v : List Tok} {s t : Pile} → Goes (symbol.Nonterminal n ∷ []) w s v t → Goes (symbol.Nonterminal (part_number (level_part tight)) ∷ []) w s v t
lifted n tight is reads {w} {v} {s} {t} g = elim (cases_Bool (n == part_number Part.Primary)) [
  | inl y ↦ primary_at tight is.0 is.1 (subst (λ i. Goes (symbol.Nonterminal i ∷ []) w s v t) (eqb-true n (part_number Part.Primary) y) g)
  | inr k ↦
      let e : (n == part_number (level_part tight)) ≡ true = subst (λ b. (b || (n == part_number (level_part tight))) ≡ true) k reads in
      subst (λ i. Goes (symbol.Nonterminal i ∷ []) w s v t) (eqb-true n (part_number (level_part tight)) e) g
]

is_expressions : (form : Form) (ts : Trees) → is_expression form ≡ true → is_of expressions (node form nowhere ts) ≡ true
is_expressions (form_is.Expr form) ts h = refl
is_expressions form ts h = never h

pub spells_of : (n : ℕ) (form : Form) (ts : List Tree) → is_expression form ≡ true → is_new form ≡ false → ((n == part_number Part.Primary) || (n == part_number (level_part (form_level form none)))) ≡ true
    → ((last : Option TokenKind) (v : List Tok) (s : Pile) → MayPass (form_level form none) v → Goes (symbol.Nonterminal n ∷ []) (before (spelled (node form nowhere (trees ts)) last) v) s v (made (node form nowhere (trees ts)) ∷ s))
    → Spells (node form nowhere (trees ts))
spells_of n form ts expression not_new read reads =
    let (same, is) = forms_bind form (trees ts) expression not_new in
    record {
      is = is_expressions form (trees ts) expression;
      low = subst (λ l. 1 ≤ l) (sym same) is.0;
      high = subst (λ l. l ≤ 15) (sym same) is.1;
      reads = λ last v s pass.
          subst (λ l. Goes (symbol.Nonterminal (part_number (level_part l)) ∷ []) (before (spelled (node form nowhere (trees ts)) last) v) s v (made (node form nowhere (trees ts)) ∷ s)) (sym same)
          (lifted n (form_level form none) is read (reads last v s (subst (λ l. MayPass l v) same pass)));
    }
