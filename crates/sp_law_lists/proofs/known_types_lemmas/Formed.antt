-- A tree in which each alternative has its parts is one of an expression where its group is that of expressions.
use Rattle.std.specs.Prelude.{Bool, true, false, ◌&&◌, if◌then◌else◌}
use Rattle.std.proofs.Common.{◌≡◌, refl, sym, ap, ◌∙◌}
use Rattle.std.proofs.lemmas.Bool.{and_parts, and_from}
use Rattle.sp_ast.specs.Trees.{Tree, Trees, absent, row, node, none, more}
use Rattle.sp_ast.specs.Slots.{is_formed, are_formed}
use Rattle.sp_ast.specs.Groups.{is_of, are_of, fits}
use Rattle.sp_ast.specs.declared.groups.Group.TheVariants as group_is
use Rattle.sp_ast.specs.declared.groups.Sort.TheVariants as sort_is
use Rattle.sp_ast.specs.declared.forms.Form.TheVariants as form_is
use Rattle.sp_ast.specs.declared.forms.ExprForm.TheVariants as expr_is
use Rattle.sp_law_lists.specs.known_types.Trees.{is_expr, are_exprs, are_pairs, written_hold, all_written_hold}
use Rattle.sp_law_lists.proofs.known_types_lemmas.Full.{never}

-- parts of a wrong number
no_one : {X : Type 0} (a : Bool) → (a && false) ≡ true → X
no_one true e = never e
no_one false e = never e

no_two : {X : Type 0} (a b : Bool) → (a && (b && false)) ≡ true → X
no_two true b e = no_one b e
no_two false b e = never e

no_three : {X : Type 0} (a b c : Bool) → (a && (b && (c && false))) ≡ true → X
no_three true b c e = no_two b c e
no_three false b c e = never e

-- the last part
only : (a : Bool) → (a && true) ≡ true → a ≡ true
only a e = (and_parts a true e).0

module _ (is_type is_path : Tree → Bool) where
  -- the test holds of a type
  pub of_type : (t : Tree) → is_of group_is.Types t ≡ true → written_hold is_type is_path t ≡ true → is_type t ≡ true
  of_type (node form span ts) is y =
      let t = node form span ts in
      sym (ap (λ b. if b then is_type t else (if is_of group_is.Paths t then is_path t else all_written_hold is_type is_path ts)) is) ∙ y
  of_type absent is y = never is
  of_type (row ts) is y = never is

  -- and of a path
  of_path : (t : Tree) → is_of group_is.Paths t ≡ true → written_hold is_type is_path t ≡ true → is_path t ≡ true
  of_path (node form_is.Path span ts) is y = y
  of_path _ is y = never is

  mutual
    pub formed_expr : (t : Tree) → is_of group_is.Expressions t ≡ true → is_formed t ≡ true → written_hold is_type is_path t ≡ true → is_expr is_type is_path t ≡ true
    formed_expr (node (form_is.Expr expr_is.Itself) span none) is f y = refl
    formed_expr (node (form_is.Expr expr_is.Itself) span (more t ts)) is f y = never f
    formed_expr (node (form_is.Expr expr_is.Current) span none) is f y = refl
    formed_expr (node (form_is.Expr expr_is.Current) span (more t ts)) is f y = never f
    formed_expr (node (form_is.Expr expr_is.True) span none) is f y = refl
    formed_expr (node (form_is.Expr expr_is.True) span (more t ts)) is f y = never f
    formed_expr (node (form_is.Expr expr_is.False) span none) is f y = refl
    formed_expr (node (form_is.Expr expr_is.False) span (more t ts)) is f y = never f
    formed_expr (node (form_is.Expr (expr_is.Number n)) span none) is f y = refl
    formed_expr (node (form_is.Expr (expr_is.Number n)) span (more t ts)) is f y = never f
    formed_expr (node (form_is.Expr (expr_is.String text)) span none) is f y = refl
    formed_expr (node (form_is.Expr (expr_is.String text)) span (more t ts)) is f y = never f
    formed_expr (node (form_is.Expr (expr_is.Bytes bytes)) span none) is f y = refl
    formed_expr (node (form_is.Expr (expr_is.Bytes bytes)) span (more t ts)) is f y = never f
    formed_expr (node (form_is.Expr (expr_is.Regex text)) span none) is f y = refl
    formed_expr (node (form_is.Expr (expr_is.Regex text)) span (more t ts)) is f y = never f
    formed_expr (node (form_is.Expr expr_is.Tuple) span ts) is f y =
        let p = and_parts (are_of group_is.Expressions ts) (are_formed ts) f in
        formed_exprs ts p.0 p.1 y
    formed_expr (node (form_is.Expr expr_is.Vector) span ts) is f y =
        let p = and_parts (are_of group_is.Expressions ts) (are_formed ts) f in
        formed_exprs ts p.0 p.1 y
    formed_expr (node (form_is.Expr expr_is.Set) span ts) is f y =
        let p = and_parts (are_of group_is.Expressions ts) (are_formed ts) f in
        formed_exprs ts p.0 p.1 y
    formed_expr (node (form_is.Expr expr_is.Map) span ts) is f y =
        let p = and_parts (are_of group_is.Pairs ts) (are_formed ts) f in
        formed_pairs ts p.0 p.1 y
    formed_expr (node (form_is.Expr expr_is.Path) span (more a none)) is f y =
        let p = and_parts (is_of group_is.Paths a && true) (is_formed a && true) f in
        of_path a (and_parts (is_of group_is.Paths a) true p.0).0 (and_parts (written_hold is_type is_path a) true y).0
    formed_expr (node (form_is.Expr expr_is.Path) span (more a (more x xs))) is f y =
        no_one (is_of group_is.Paths a) (and_parts (is_of group_is.Paths a && false) (are_formed (more a (more x xs))) f).0
    formed_expr (node (form_is.Expr expr_is.Path) span none) is f y = never f
    formed_expr (node (form_is.Expr expr_is.EmptyVector) span (more a none)) is f y =
        let p = and_parts (is_of group_is.Types a && true) (is_formed a && true) f in
        let fit0 = and_parts (is_of group_is.Types a) true p.0 in
        let typed0 = and_parts (written_hold is_type is_path a) true y in
        of_type a fit0.0 typed0.0
    formed_expr (node (form_is.Expr expr_is.EmptyVector) span (more a (more x xs))) is f y =
        no_one (is_of group_is.Types a) (and_parts (is_of group_is.Types a && false) (are_formed (more a (more x xs))) f).0
    formed_expr (node (form_is.Expr expr_is.EmptyVector) span none) is f y = never f
    formed_expr (node (form_is.Expr expr_is.EmptySet) span (more a none)) is f y =
        let p = and_parts (is_of group_is.Types a && true) (is_formed a && true) f in
        let fit0 = and_parts (is_of group_is.Types a) true p.0 in
        let typed0 = and_parts (written_hold is_type is_path a) true y in
        of_type a fit0.0 typed0.0
    formed_expr (node (form_is.Expr expr_is.EmptySet) span (more a (more x xs))) is f y =
        no_one (is_of group_is.Types a) (and_parts (is_of group_is.Types a && false) (are_formed (more a (more x xs))) f).0
    formed_expr (node (form_is.Expr expr_is.EmptySet) span none) is f y = never f
    formed_expr (node (form_is.Expr (expr_is.TypedNumber w)) span (more a none)) is f y = refl
    formed_expr (node (form_is.Expr (expr_is.TypedNumber w)) span (more a (more x xs))) is f y =
        no_one (is_of group_is.Numbers a) (and_parts (is_of group_is.Numbers a && false) (are_formed (more a (more x xs))) f).0
    formed_expr (node (form_is.Expr (expr_is.TypedNumber w)) span none) is f y = never f
    formed_expr (node (form_is.Expr expr_is.Size) span (more a none)) is f y =
        let p = and_parts (is_of group_is.Expressions a && true) (is_formed a && true) f in
        let fit0 = and_parts (is_of group_is.Expressions a) true p.0 in
        let formed0 = and_parts (is_formed a) true p.1 in
        let typed0 = and_parts (written_hold is_type is_path a) true y in
        formed_expr a fit0.0 formed0.0 typed0.0
    formed_expr (node (form_is.Expr expr_is.Size) span (more a (more x xs))) is f y =
        no_one (is_of group_is.Expressions a) (and_parts (is_of group_is.Expressions a && false) (are_formed (more a (more x xs))) f).0
    formed_expr (node (form_is.Expr expr_is.Size) span none) is f y = never f
    formed_expr (node (form_is.Expr (expr_is.Unary op)) span (more a none)) is f y =
        let p = and_parts (is_of group_is.Expressions a && true) (is_formed a && true) f in
        let fit0 = and_parts (is_of group_is.Expressions a) true p.0 in
        let formed0 = and_parts (is_formed a) true p.1 in
        let typed0 = and_parts (written_hold is_type is_path a) true y in
        formed_expr a fit0.0 formed0.0 typed0.0
    formed_expr (node (form_is.Expr (expr_is.Unary op)) span (more a (more x xs))) is f y =
        no_one (is_of group_is.Expressions a) (and_parts (is_of group_is.Expressions a && false) (are_formed (more a (more x xs))) f).0
    formed_expr (node (form_is.Expr (expr_is.Unary op)) span none) is f y = never f
    formed_expr (node (form_is.Expr expr_is.EmptyMap) span (more a (more b none))) is f y =
        let p = and_parts (is_of group_is.Types a && (is_of group_is.Types b && true)) (is_formed a && (is_formed b && true)) f in
        let fit0 = and_parts (is_of group_is.Types a) (is_of group_is.Types b && true) p.0 in
        let formed0 = and_parts (is_formed a) (is_formed b && true) p.1 in
        let typed0 = and_parts (written_hold is_type is_path a) (written_hold is_type is_path b && true) y in
        let fit1 = and_parts (is_of group_is.Types b) true fit0.1 in
        let typed1 = and_parts (written_hold is_type is_path b) true typed0.1 in
        and_from (is_type a) (is_type b) (of_type a fit0.0 typed0.0) (of_type b fit1.0 typed1.0)
    formed_expr (node (form_is.Expr expr_is.EmptyMap) span (more a none)) is f y =
        no_one (is_of group_is.Types a) (and_parts (is_of group_is.Types a && false) (are_formed (more a none)) f).0
    formed_expr (node (form_is.Expr expr_is.EmptyMap) span (more a (more b (more x xs)))) is f y =
        no_two (is_of group_is.Types a) (is_of group_is.Types b) (and_parts (is_of group_is.Types a && (is_of group_is.Types b && false)) (are_formed (more a (more b (more x xs)))) f).0
    formed_expr (node (form_is.Expr expr_is.EmptyMap) span none) is f y = never f
    formed_expr (node (form_is.Expr expr_is.Cast) span (more a (more b none))) is f y =
        let p = and_parts (is_of group_is.Types a && (is_of group_is.Expressions b && true)) (is_formed a && (is_formed b && true)) f in
        let fit0 = and_parts (is_of group_is.Types a) (is_of group_is.Expressions b && true) p.0 in
        let formed0 = and_parts (is_formed a) (is_formed b && true) p.1 in
        let typed0 = and_parts (written_hold is_type is_path a) (written_hold is_type is_path b && true) y in
        let fit1 = and_parts (is_of group_is.Expressions b) true fit0.1 in
        let formed1 = and_parts (is_formed b) true formed0.1 in
        let typed1 = and_parts (written_hold is_type is_path b) true typed0.1 in
        and_from (is_type a) (is_expr is_type is_path b) (of_type a fit0.0 typed0.0) (formed_expr b fit1.0 formed1.0 typed1.0)
    formed_expr (node (form_is.Expr expr_is.Cast) span (more a none)) is f y =
        no_one (is_of group_is.Types a) (and_parts (is_of group_is.Types a && false) (are_formed (more a none)) f).0
    formed_expr (node (form_is.Expr expr_is.Cast) span (more a (more b (more x xs)))) is f y =
        no_two (is_of group_is.Types a) (is_of group_is.Expressions b) (and_parts (is_of group_is.Types a && (is_of group_is.Expressions b && false)) (are_formed (more a (more b (more x xs)))) f).0
    formed_expr (node (form_is.Expr expr_is.Cast) span none) is f y = never f
    formed_expr (node (form_is.Expr expr_is.New) span (more a (more (row ts) none))) is f y =
        let p = and_parts (is_of group_is.Paths a && (are_of group_is.Expressions ts && true)) (is_formed a && (are_formed ts && true)) f in
        let fit = and_parts (is_of group_is.Paths a) (are_of group_is.Expressions ts && true) p.0 in
        let formed = and_parts (is_formed a) (are_formed ts && true) p.1 in
        let typed = and_parts (written_hold is_type is_path a) (all_written_hold is_type is_path ts && true) y in
        and_from (is_path a) (are_exprs is_type is_path ts) (of_path a fit.0 typed.0) (formed_exprs ts (only (are_of group_is.Expressions ts) fit.1) (only (are_formed ts) formed.1) (only (all_written_hold is_type is_path ts) typed.1))
    formed_expr (node (form_is.Expr expr_is.New) span (more a (more absent none))) is f y =
        no_one (is_of group_is.Paths a) (and_parts (is_of group_is.Paths a && false) (are_formed (more a (more absent none))) f).0
    formed_expr (node (form_is.Expr expr_is.New) span (more a (more (node form at ts) none))) is f y =
        no_one (is_of group_is.Paths a) (and_parts (is_of group_is.Paths a && false) (are_formed (more a (more (node form at ts) none))) f).0
    formed_expr (node (form_is.Expr expr_is.New) span (more a none)) is f y =
        no_one (is_of group_is.Paths a) (and_parts (is_of group_is.Paths a && false) (are_formed (more a none)) f).0
    formed_expr (node (form_is.Expr expr_is.New) span (more a (more b (more x xs)))) is f y =
        no_two (is_of group_is.Paths a) (fits (sort_is.Rows group_is.Expressions) b) (and_parts (is_of group_is.Paths a && (fits (sort_is.Rows group_is.Expressions) b && false)) (are_formed (more a (more b (more x xs)))) f).0
    formed_expr (node (form_is.Expr expr_is.New) span none) is f y = never f
    formed_expr (node (form_is.Expr expr_is.Member) span (more a (more b none))) is f y =
        let p = and_parts (is_of group_is.Expressions a && (is_of group_is.Names b && true)) (is_formed a && (is_formed b && true)) f in
        let fit0 = and_parts (is_of group_is.Expressions a) (is_of group_is.Names b && true) p.0 in
        let formed0 = and_parts (is_formed a) (is_formed b && true) p.1 in
        let typed0 = and_parts (written_hold is_type is_path a) (written_hold is_type is_path b && true) y in
        let fit1 = and_parts (is_of group_is.Names b) true fit0.1 in
        formed_expr a fit0.0 formed0.0 typed0.0
    formed_expr (node (form_is.Expr expr_is.Member) span (more a none)) is f y =
        no_one (is_of group_is.Expressions a) (and_parts (is_of group_is.Expressions a && false) (are_formed (more a none)) f).0
    formed_expr (node (form_is.Expr expr_is.Member) span (more a (more b (more x xs)))) is f y =
        no_two (is_of group_is.Expressions a) (is_of group_is.Names b) (and_parts (is_of group_is.Expressions a && (is_of group_is.Names b && false)) (are_formed (more a (more b (more x xs)))) f).0
    formed_expr (node (form_is.Expr expr_is.Member) span none) is f y = never f
    formed_expr (node (form_is.Expr expr_is.SetMember) span (more a (more b none))) is f y =
        let p = and_parts (is_of group_is.Expressions a && (is_of group_is.Names b && true)) (is_formed a && (is_formed b && true)) f in
        let fit0 = and_parts (is_of group_is.Expressions a) (is_of group_is.Names b && true) p.0 in
        let formed0 = and_parts (is_formed a) (is_formed b && true) p.1 in
        let typed0 = and_parts (written_hold is_type is_path a) (written_hold is_type is_path b && true) y in
        let fit1 = and_parts (is_of group_is.Names b) true fit0.1 in
        formed_expr a fit0.0 formed0.0 typed0.0
    formed_expr (node (form_is.Expr expr_is.SetMember) span (more a none)) is f y =
        no_one (is_of group_is.Expressions a) (and_parts (is_of group_is.Expressions a && false) (are_formed (more a none)) f).0
    formed_expr (node (form_is.Expr expr_is.SetMember) span (more a (more b (more x xs)))) is f y =
        no_two (is_of group_is.Expressions a) (is_of group_is.Names b) (and_parts (is_of group_is.Expressions a && (is_of group_is.Names b && false)) (are_formed (more a (more b (more x xs)))) f).0
    formed_expr (node (form_is.Expr expr_is.SetMember) span none) is f y = never f
    formed_expr (node (form_is.Expr expr_is.Index) span (more a (more b none))) is f y =
        let p = and_parts (is_of group_is.Expressions a && (is_of group_is.Expressions b && true)) (is_formed a && (is_formed b && true)) f in
        let fit0 = and_parts (is_of group_is.Expressions a) (is_of group_is.Expressions b && true) p.0 in
        let formed0 = and_parts (is_formed a) (is_formed b && true) p.1 in
        let typed0 = and_parts (written_hold is_type is_path a) (written_hold is_type is_path b && true) y in
        let fit1 = and_parts (is_of group_is.Expressions b) true fit0.1 in
        let formed1 = and_parts (is_formed b) true formed0.1 in
        let typed1 = and_parts (written_hold is_type is_path b) true typed0.1 in
        and_from (is_expr is_type is_path a) (is_expr is_type is_path b) (formed_expr a fit0.0 formed0.0 typed0.0) (formed_expr b fit1.0 formed1.0 typed1.0)
    formed_expr (node (form_is.Expr expr_is.Index) span (more a none)) is f y =
        no_one (is_of group_is.Expressions a) (and_parts (is_of group_is.Expressions a && false) (are_formed (more a none)) f).0
    formed_expr (node (form_is.Expr expr_is.Index) span (more a (more b (more x xs)))) is f y =
        no_two (is_of group_is.Expressions a) (is_of group_is.Expressions b) (and_parts (is_of group_is.Expressions a && (is_of group_is.Expressions b && false)) (are_formed (more a (more b (more x xs)))) f).0
    formed_expr (node (form_is.Expr expr_is.Index) span none) is f y = never f
    formed_expr (node (form_is.Expr expr_is.Call) span (more a (more (row ts) none))) is f y =
        let p = and_parts (is_of group_is.Expressions a && (are_of group_is.Expressions ts && true)) (is_formed a && (are_formed ts && true)) f in
        let fit = and_parts (is_of group_is.Expressions a) (are_of group_is.Expressions ts && true) p.0 in
        let formed = and_parts (is_formed a) (are_formed ts && true) p.1 in
        let typed = and_parts (written_hold is_type is_path a) (all_written_hold is_type is_path ts && true) y in
        and_from (is_expr is_type is_path a) (are_exprs is_type is_path ts) (formed_expr a fit.0 formed.0 typed.0) (formed_exprs ts (only (are_of group_is.Expressions ts) fit.1) (only (are_formed ts) formed.1) (only (all_written_hold is_type is_path ts) typed.1))
    formed_expr (node (form_is.Expr expr_is.Call) span (more a (more absent none))) is f y =
        no_one (is_of group_is.Expressions a) (and_parts (is_of group_is.Expressions a && false) (are_formed (more a (more absent none))) f).0
    formed_expr (node (form_is.Expr expr_is.Call) span (more a (more (node form at ts) none))) is f y =
        no_one (is_of group_is.Expressions a) (and_parts (is_of group_is.Expressions a && false) (are_formed (more a (more (node form at ts) none))) f).0
    formed_expr (node (form_is.Expr expr_is.Call) span (more a none)) is f y =
        no_one (is_of group_is.Expressions a) (and_parts (is_of group_is.Expressions a && false) (are_formed (more a none)) f).0
    formed_expr (node (form_is.Expr expr_is.Call) span (more a (more b (more x xs)))) is f y =
        no_two (is_of group_is.Expressions a) (fits (sort_is.Rows group_is.Expressions) b) (and_parts (is_of group_is.Expressions a && (fits (sort_is.Rows group_is.Expressions) b && false)) (are_formed (more a (more b (more x xs)))) f).0
    formed_expr (node (form_is.Expr expr_is.Call) span none) is f y = never f
    formed_expr (node (form_is.Expr (expr_is.Binary op)) span (more a (more b none))) is f y =
        let p = and_parts (is_of group_is.Expressions a && (is_of group_is.Expressions b && true)) (is_formed a && (is_formed b && true)) f in
        let fit0 = and_parts (is_of group_is.Expressions a) (is_of group_is.Expressions b && true) p.0 in
        let formed0 = and_parts (is_formed a) (is_formed b && true) p.1 in
        let typed0 = and_parts (written_hold is_type is_path a) (written_hold is_type is_path b && true) y in
        let fit1 = and_parts (is_of group_is.Expressions b) true fit0.1 in
        let formed1 = and_parts (is_formed b) true formed0.1 in
        let typed1 = and_parts (written_hold is_type is_path b) true typed0.1 in
        and_from (is_expr is_type is_path a) (is_expr is_type is_path b) (formed_expr a fit0.0 formed0.0 typed0.0) (formed_expr b fit1.0 formed1.0 typed1.0)
    formed_expr (node (form_is.Expr (expr_is.Binary op)) span (more a none)) is f y =
        no_one (is_of group_is.Expressions a) (and_parts (is_of group_is.Expressions a && false) (are_formed (more a none)) f).0
    formed_expr (node (form_is.Expr (expr_is.Binary op)) span (more a (more b (more x xs)))) is f y =
        no_two (is_of group_is.Expressions a) (is_of group_is.Expressions b) (and_parts (is_of group_is.Expressions a && (is_of group_is.Expressions b && false)) (are_formed (more a (more b (more x xs)))) f).0
    formed_expr (node (form_is.Expr (expr_is.Binary op)) span none) is f y = never f
    formed_expr (node (form_is.Expr expr_is.Choice) span (more a (more b (more c none)))) is f y =
        let p = and_parts (is_of group_is.Expressions a && (is_of group_is.Expressions b && (is_of group_is.Expressions c && true))) (is_formed a && (is_formed b && (is_formed c && true))) f in
        let fit0 = and_parts (is_of group_is.Expressions a) (is_of group_is.Expressions b && (is_of group_is.Expressions c && true)) p.0 in
        let formed0 = and_parts (is_formed a) (is_formed b && (is_formed c && true)) p.1 in
        let typed0 = and_parts (written_hold is_type is_path a) (written_hold is_type is_path b && (written_hold is_type is_path c && true)) y in
        let fit1 = and_parts (is_of group_is.Expressions b) (is_of group_is.Expressions c && true) fit0.1 in
        let formed1 = and_parts (is_formed b) (is_formed c && true) formed0.1 in
        let typed1 = and_parts (written_hold is_type is_path b) (written_hold is_type is_path c && true) typed0.1 in
        let fit2 = and_parts (is_of group_is.Expressions c) true fit1.1 in
        let formed2 = and_parts (is_formed c) true formed1.1 in
        let typed2 = and_parts (written_hold is_type is_path c) true typed1.1 in
        and_from (is_expr is_type is_path a) (is_expr is_type is_path b && is_expr is_type is_path c) (formed_expr a fit0.0 formed0.0 typed0.0) (and_from (is_expr is_type is_path b) (is_expr is_type is_path c) (formed_expr b fit1.0 formed1.0 typed1.0) (formed_expr c fit2.0 formed2.0 typed2.0))
    formed_expr (node (form_is.Expr expr_is.Choice) span (more a none)) is f y =
        no_one (is_of group_is.Expressions a) (and_parts (is_of group_is.Expressions a && false) (are_formed (more a none)) f).0
    formed_expr (node (form_is.Expr expr_is.Choice) span (more a (more b none))) is f y =
        no_two (is_of group_is.Expressions a) (is_of group_is.Expressions b) (and_parts (is_of group_is.Expressions a && (is_of group_is.Expressions b && false)) (are_formed (more a (more b none))) f).0
    formed_expr (node (form_is.Expr expr_is.Choice) span (more a (more b (more c (more x xs))))) is f y =
        no_three (is_of group_is.Expressions a) (is_of group_is.Expressions b) (is_of group_is.Expressions c) (and_parts (is_of group_is.Expressions a && (is_of group_is.Expressions b && (is_of group_is.Expressions c && false))) (are_formed (more a (more b (more c (more x xs))))) f).0
    formed_expr (node (form_is.Expr expr_is.Choice) span none) is f y = never f
    formed_expr _ is f y = never is

    pub formed_exprs : (ts : Trees) → are_of group_is.Expressions ts ≡ true → are_formed ts ≡ true → all_written_hold is_type is_path ts ≡ true → are_exprs is_type is_path ts ≡ true
    formed_exprs none is f y = refl
    formed_exprs (more t ts) is f y =
        let p = and_parts (is_of group_is.Expressions t) (are_of group_is.Expressions ts) is in
        let q = and_parts (is_formed t) (are_formed ts) f in
        let r = and_parts (written_hold is_type is_path t) (all_written_hold is_type is_path ts) y in
        and_from (is_expr is_type is_path t) (are_exprs is_type is_path ts) (formed_expr t p.0 q.0 r.0) (formed_exprs ts p.1 q.1 r.1)

    formed_pairs : (ts : Trees) → are_of group_is.Pairs ts ≡ true → are_formed ts ≡ true → all_written_hold is_type is_path ts ≡ true → are_pairs is_type is_path ts ≡ true
    formed_pairs none is f y = refl
    formed_pairs (more (node form_is.Pair span (more a (more b none))) ts) is f y =
        let q = and_parts ((is_of group_is.Expressions a && (is_of group_is.Expressions b && true)) && (is_formed a && (is_formed b && true))) (are_formed ts) f in
        let p = and_parts (is_of group_is.Expressions a && (is_of group_is.Expressions b && true)) (is_formed a && (is_formed b && true)) q.0 in
        let fit = and_parts (is_of group_is.Expressions a) (is_of group_is.Expressions b && true) p.0 in
        let formed = and_parts (is_formed a) (is_formed b && true) p.1 in
        let r = and_parts (written_hold is_type is_path a && (written_hold is_type is_path b && true)) (all_written_hold is_type is_path ts) y in
        let typed = and_parts (written_hold is_type is_path a) (written_hold is_type is_path b && true) r.0 in
        and_from (is_expr is_type is_path a) (is_expr is_type is_path b && are_pairs is_type is_path ts) (formed_expr a fit.0 formed.0 typed.0)
        (and_from (is_expr is_type is_path b) (are_pairs is_type is_path ts) (formed_expr b (only (is_of group_is.Expressions b) fit.1) (only (is_formed b) formed.1) (only (written_hold is_type is_path b) typed.1)) (formed_pairs ts is q.1 r.1))
    formed_pairs (more (node form_is.Pair span none) ts) is f y = never f
    formed_pairs (more (node form_is.Pair span (more a none)) ts) is f y =
        no_one (is_of group_is.Expressions a) (and_parts (is_of group_is.Expressions a && false) (is_formed a && true) (and_parts ((is_of group_is.Expressions a && false) && (is_formed a && true)) (are_formed ts) f).0).0
    formed_pairs (more (node form_is.Pair span (more a (more b (more x xs)))) ts) is f y =
        no_two (is_of group_is.Expressions a) (is_of group_is.Expressions b)
        (and_parts (is_of group_is.Expressions a && (is_of group_is.Expressions b && false)) (are_formed (more a (more b (more x xs)))) (and_parts ((is_of group_is.Expressions a && (is_of group_is.Expressions b && false)) && are_formed (more a (more b (more x xs)))) (are_formed ts) f).0).0
    formed_pairs _ is f y = never is
