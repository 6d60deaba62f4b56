-- Types of trees in a row, and what these name.
use Rattle.std.proofs.Common.{ℕ, ◌≡◌, refl, sym, ap, ◌∙◌, List, [], ◌∷◌, ◌++◌, Option}
use Rattle.std.proofs.lemmas.List.{append_assoc}
use Rattle.sp_ast.specs.Trees.{Tree, trees}
use Rattle.sp_types.specs.Types.{Ty, Tys, tys}
use Rattle.sp_types.specs.Types as types
use Rattle.sp_names.specs.Types.{type_in, types_in, mentions_in, mentions_among}

-- types before others
abbrev pub joined : List Ty → Tys → Tys
joined [] us = us
joined (t ∷ ts) us = types.more t (joined ts us)

joined_more : (ts : List Ty) (t : Ty) (us : Tys) → joined (ts ++ t ∷ []) us ≡ joined ts (types.more t us)
joined_more [] t us = refl
joined_more (u ∷ ts) t us = ap (types.more u) (joined_more ts t us)

pub joined_none : (ts : List Ty) → joined ts types.none ≡ tys ts
joined_none [] = refl
joined_none (t ∷ ts) = ap (types.more t) (joined_none ts)

pub one_type : (list : List Tree) (f : ℕ → Option Ty) (m : ℕ) (t : Tree) (ts left : List Tree) (old new : List Ty) (u : Ty) → left ≡ t ∷ ts → new ≡ old ++ u ∷ [] → u ≡ type_in list f m t
    → joined new (types_in list f m (trees ts)) ≡ joined old (types_in list f m (trees left))
one_type list f m t ts left old new u e n is =
    ap (λ l. joined l (types_in list f m (trees ts))) n
    ∙ joined_more old u (types_in list f m (trees ts))
    ∙ ap (λ v. joined old (types.more v (types_in list f m (trees ts)))) is
    ∙ ap (λ l. joined old (types_in list f m (trees l))) (sym e)

pub all_types : (list : List Tree) (f : ℕ → Option Ty) (m : ℕ) (left : List Tree) (ts : List Ty) (us : Tys) → left ≡ [] → joined ts (types_in list f m (trees left)) ≡ us → tys ts ≡ us
all_types list f m left ts us e j = sym (joined_none ts) ∙ ap (λ l. joined ts (types_in list f m (trees l))) (sym e) ∙ j

pub one_mention : (list : List Tree) (m : ℕ) (t : Tree) (ts left : List Tree) (old new : List ℕ) → left ≡ t ∷ ts → new ≡ old ++ mentions_in list m t
    → new ++ mentions_among list m (trees ts) ≡ old ++ mentions_among list m (trees left)
one_mention list m t ts left old new e n =
    ap (λ l. l ++ mentions_among list m (trees ts)) n
    ∙ append_assoc old (mentions_in list m t) (mentions_among list m (trees ts))
    ∙ ap (λ l. old ++ mentions_among list m (trees l)) (sym e)
