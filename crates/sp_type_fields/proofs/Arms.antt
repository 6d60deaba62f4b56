-- Arms, one more at the end.
use Rattle.std.proofs.Common.{◌≡◌, List, [], ◌∷◌, ◌++◌, Option, refl, ap, sym, ◌∙◌, Global}
use Rattle.sp_base.specs.declared.places.Span.{Span}
use Rattle.sp_ast.specs.Trees.{Tree, tree, trees}
use Rattle.sp_ast.specs.declared.forms.Form.TheVariants as form_is
use Rattle.sp_typed.specs.Exprs.{Expr}
use Rattle.std.specs.declared.vec.Vec.{Vec}
use Rattle.sp_typed_units.specs.declared.items.Arm.{Arm}
use Rattle.sp_typed_units.specs.Parts.{Part, Arms, arms, parts, no_arms, more_arms}
use Rattle.sp_type_context.specs.Contexts.{Around}
use Rattle.sp_type_fields.specs.Values.{Values}
use Rattle.sp_type_fields.specs.Parts.{Fields, arm_of, body_of, arms_of}

-- the arms of a list, and then others
abbrev pub arms_then : List (Arm × Vec Part Global) → Arms → Arms
arms_then [] rest = rest
arms_then (a ∷ l) rest = more_arms a.0 (parts a.1.items) (arms_then l rest)

pub arms_end : (l : List (Arm × Vec Part Global)) → arms_then l no_arms ≡ arms l
arms_end [] = refl
arms_end (a ∷ l) = ap (more_arms a.0 (parts a.1.items)) (arms_end l)

pub arms_more : (l : List (Arm × Vec Part Global)) (a : Arm × Vec Part Global) (rest : Arms) → arms_then (l ++ a ∷ []) rest ≡ arms_then l (more_arms a.0 (parts a.1.items) rest)
arms_more [] a rest = refl
arms_more (b ∷ l) a rest = ap (more_arms b.0 (parts b.1.items)) (arms_more l a rest)

pub arms_step : (g : Around) (v : Values) (f : Fields) (subject : Option Expr) (all new : List (Arm × Vec Part Global)) (left behind : List Tree) (t guard body : Tree) (s : Span) (head : Arm) (ps : Vec Part Global) (whole : Arms)
    → left ≡ t ∷ behind → tree form_is.Arm s (guard ∷ body ∷ []) ≡ t → head ≡ arm_of g subject guard → ps.items ≡ body_of g v f body → new ≡ all ++ (head, ps) ∷ []
    → arms_then all (arms_of g v f subject (trees left)) ≡ whole → arms_then new (arms_of g v f subject (trees behind)) ≡ whole
arms_step g v f subject all new left behind t guard body s head ps whole steps view first second push so_far =
    let rest = arms_of g v f subject (trees behind) in
    ap (λ l. arms_then l rest) push
    ∙ arms_more all (head, ps) rest
    ∙ ap (λ h. arms_then all (more_arms h (parts ps.items) rest)) first
    ∙ ap (λ l. arms_then all (more_arms (arm_of g subject guard) (parts l) rest)) second
    ∙ ap (λ x. arms_then all (arms_of g v f subject (trees (x ∷ behind)))) view
    ∙ ap (λ ts. arms_then all (arms_of g v f subject (trees ts))) (sym steps)
    ∙ so_far

pub arms_done : (g : Around) (v : Values) (f : Fields) (subject : Option Expr) (all : List (Arm × Vec Part Global)) (left : List Tree) (whole : Arms)
    → left ≡ [] → arms_then all (arms_of g v f subject (trees left)) ≡ whole → arms all ≡ whole
arms_done g v f subject all left whole steps so_far =
    sym (arms_end all) ∙ ap (λ ts. arms_then all (arms_of g v f subject (trees ts))) (sym steps) ∙ so_far
