-- Rows: tuples, vectors, sets and maps mean what the checker takes them for.
use Rattle.std.specs.Prelude.{ℕ, List, [], ◌∷◌, ◌++◌, reverse, Ok, Err}
use Rattle.std.proofs.Common.{◌≡◌, ◌⊎◌, inl, inr, refl, sym, ap, subst, ◌∙◌}
use Rattle.std.proofs.lemmas.List.{append_assoc, append-nil, reverse-append, reverse-reverse}
use Rattle.sp_base.specs.declared.kinds.PKind.{PKind}
use Rattle.sp_value.specs.Val.{Val, void, tuple, vector, set, map, no_vals, no_entries, vals_of}
use Rattle.sp_value.specs.Changes.{with_member, with_entry}
use Rattle.sp_typed.specs.declared.words.ManyOp.TheVariants as many_is
use Rattle.sp_typed.specs.Exprs.{Expr, Exprs, none, more}
use Rattle.sp_type_constants.specs.declared.outcome.Outcome.{Outcome}
use Rattle.sp_type_constants.specs.declared.outcome.Outcome.TheVariants.{Value, Regex, NotConstant, Error, Unknown}
use Rattle.sp_type_constants.specs.Outcomes.{lack_of, worse, worst, kept, values, made, of_all}
use Rattle.sp_type_constants.specs.Operations.{with_members, with_entries, row_of}
use Rattle.sp_meaning_states.specs.States.{State, Gives, Result, ends}
use Rattle.sp_meaning_states.specs.Values.{set_of, map_of}
use Rattle.sp_meaning_states.specs.Values as running
use Rattle.sp_meaning.specs.Globals.{Globals}
use Rattle.sp_code_meaning.specs.Layouts.{Layout}
use Rattle.sp_code_meaning.specs.Exprs.{expr_means, all_got}
use Rattle.sp_law_constants.specs.Constants.{AlwaysGives, AlwaysFails}
use Rattle.sp_law_constants.proofs.Told.{Evaluation, Fails, IsAnswered, Told, got_value, got_error}

-- sets and maps are made in the same way
same_members : (s : Val) (vs : List Val) → with_members s vs ≡ running.with_members s vs
same_members s [] = refl
same_members s (v ∷ vs) = same_members (with_member s v) vs

same_entries : (m : Val) (vs : List Val) → with_entries m vs ≡ running.with_entries m vs
same_entries m [] = refl
same_entries m (k ∷ []) = refl
same_entries m (k ∷ (v ∷ vs)) = same_entries (with_entry m k v) vs

onto : (v : Val) (ws vs : List Val) → reverse (v ∷ ws) ++ vs ≡ reverse ws ++ (v ∷ vs)
onto v ws vs = ap (λ xs. xs ++ vs) (reverse-append (v ∷ []) ws) ∙ append_assoc (reverse ws) (v ∷ []) vs

again : (ws : List Val) → reverse (reverse ws ++ []) ≡ ws
again ws = ap reverse (append-nil (reverse ws)) ∙ reverse-reverse ws

-- the worse of two outcomes, and the worst of all: the same is lacking to it as to all together
worse_of : Outcome → Outcome → Outcome
worse_of (Value v) p = p
worse_of Error NotConstant = NotConstant
worse_of Error p = Error
worse_of NotConstant p = NotConstant
worse_of _ (Value v) = Unknown
worse_of _ p = p

pub worst_of : List Outcome → Outcome
worst_of [] = Value void
worst_of (o ∷ os) = worse_of o (worst_of os)

lacks_worse : (o p : Outcome) → worse (lack_of o) (lack_of p) ≡ lack_of (worse_of o p)
unfolding worse_of
lacks_worse (Value v) p = refl
lacks_worse Error (Value v) = refl
lacks_worse Error Error = refl
lacks_worse Error Unknown = refl
lacks_worse Error (Regex text) = refl
lacks_worse Error NotConstant = refl
lacks_worse NotConstant p = refl
lacks_worse Unknown (Value v) = refl
lacks_worse Unknown Error = refl
lacks_worse Unknown Unknown = refl
lacks_worse Unknown (Regex text) = refl
lacks_worse Unknown NotConstant = refl
lacks_worse (Regex t) (Value v) = refl
lacks_worse (Regex t) Error = refl
lacks_worse (Regex t) Unknown = refl
lacks_worse (Regex t) (Regex text) = refl
lacks_worse (Regex t) NotConstant = refl

lacks_worst : (os : List Outcome) → worst os ≡ lack_of (worst_of os)
unfolding worst_of
lacks_worst [] = refl
lacks_worst (o ∷ os) = ap (worse (lack_of o)) (lacks_worst os) ∙ lacks_worse o (worst_of os)

module _ (U : Type 0) (globals : Globals) (call : ℕ → List Val → State → Result) (layout : Layout) where
  abbrev All : Exprs → List Val → (List Val → State → Result) → Evaluation
  All es vs go st = all_got globals call layout es vs go st

  abbrev One : Expr → Evaluation
  One e = expr_means globals call layout e

  -- a row that has these values, and one that fails
  abbrev RowGives : List Val → Exprs → Type 0
  RowGives ws es = (vs : List Val) (go : List Val → State → Result) (st : State) → All es vs go st ≡ go (reverse ws ++ vs) st

  abbrev RowFails : Exprs → Type 0
  RowFails es = (kind : PKind) × ((vs : List Val) (go : List Val → State → Result) → AlwaysFails kind (All es vs go))

  -- what the checker tells of a row, by the worst of its outcomes
  abbrev pub RowTold : Outcome → List Val → Exprs → Type 0
  RowTold (Value v) ws es = RowGives ws es
  RowTold Error ws es = U ⊎ RowFails es
  RowTold NotConstant ws es = Unit {0}
  RowTold _ ws es = U ⊎ (RowFails es ⊎ ((us : List Val) × RowGives us es))

  pub no_rows : RowTold (worst_of []) [] none
  unfolding worst_of
  no_rows vs go st = refl

  module _ (e : Expr) (es : Exprs) where
    first_gives : (v : Val) → AlwaysGives v (One e) → (vs : List Val) (go : List Val → State → Result) (st : State) → All (more e es) vs go st ≡ All es (v ∷ vs) go st
    first_gives v h vs go st = got_value (λ v st. All es (v ∷ vs) go st) v (One e) h st

    both_give : (v : Val) (ws : List Val) → AlwaysGives v (One e) → RowGives ws es → RowGives (v ∷ ws) (more e es)
    both_give v ws h i vs go st = first_gives v h vs go st ∙ i (v ∷ vs) go st ∙ ap (λ xs. go xs st) (sym (onto v ws vs))

    rest_fails : (v : Val) → AlwaysGives v (One e) → RowFails es → RowFails (more e es)
    rest_fails v h i = (i.0, λ vs go st. first_gives v h vs go st ∙ i.1 (v ∷ vs) go st)

    first_fails : (kind : PKind) → AlwaysFails kind (One e) → RowFails (more e es)
    first_fails kind h = (kind, λ vs go st. got_error (λ v st. All es (v ∷ vs) go st) kind (One e) h st)

    or_rest_fails : (v : Val) → AlwaysGives v (One e) → U ⊎ RowFails es → U ⊎ RowFails (more e es)
    or_rest_fails v h (inl u) = inl u
    or_rest_fails v h (inr i) = inr (rest_fails v h i)

    or_first_fails : U ⊎ Fails (One e) → U ⊎ RowFails (more e es)
    or_first_fails (inl u) = inl u
    or_first_fails (inr h) = inr (first_fails h.0 h.1)

    rest_either : (v : Val) → AlwaysGives v (One e) → RowFails es ⊎ ((us : List Val) × RowGives us es) → RowFails (more e es) ⊎ ((us : List Val) × RowGives us (more e es))
    rest_either v h (inl i) = inl (rest_fails v h i)
    rest_either v h (inr i) = inr (v ∷ i.0, both_give v i.0 h i.1)

    or_rest_either : (v : Val) → AlwaysGives v (One e) → U ⊎ (RowFails es ⊎ ((us : List Val) × RowGives us es)) → U ⊎ (RowFails (more e es) ⊎ ((us : List Val) × RowGives us (more e es)))
    or_rest_either v h (inl u) = inl u
    or_rest_either v h (inr i) = inr (rest_either v h i)

    -- the first is a value
    behind_value : (v : Val) (p : Outcome) (ws : List Val) → AlwaysGives v (One e) → RowTold p ws es → RowTold p (v ∷ ws) (more e es)
    behind_value v (Value w) ws h i = both_give v ws h i
    behind_value v Error ws h i = or_rest_fails v h i
    behind_value v NotConstant ws h i = tt
    behind_value v Unknown ws h i = or_rest_either v h i
    behind_value v (Regex text) ws h i = or_rest_either v h i

    -- nothing is known of the first
    behind_unknown : (p : Outcome) (ws us : List Val) → U ⊎ IsAnswered (One e) → RowTold p ws es → RowTold (worse_of Unknown p) us (more e es)
    unfolding worse_of
    behind_unknown (Value w) ws us (inl u) i = inl u
    behind_unknown (Value w) ws us (inr (Ok v, h)) i = inr (inr (v ∷ ws, both_give v ws h i))
    behind_unknown (Value w) ws us (inr (Err kind, h)) i = inr (inl (first_fails kind h))
    behind_unknown Error ws us (inl u) i = inl u
    behind_unknown Error ws us (inr (Ok v, h)) i = or_rest_fails v h i
    behind_unknown Error ws us (inr (Err kind, h)) i = inr (first_fails kind h)
    behind_unknown Unknown ws us (inl u) i = inl u
    behind_unknown Unknown ws us (inr (Ok v, h)) i = or_rest_either v h i
    behind_unknown Unknown ws us (inr (Err kind, h)) i = inr (inl (first_fails kind h))
    behind_unknown (Regex text) ws us (inl u) i = inl u
    behind_unknown (Regex text) ws us (inr (Ok v, h)) i = or_rest_either v h i
    behind_unknown (Regex text) ws us (inr (Err kind, h)) i = inr (inl (first_fails kind h))
    behind_unknown NotConstant ws us h i = tt

    -- the first is a regular expression, and so U holds
    behind_regex : (text : List ℕ) (p : Outcome) (us : List Val) → U → RowTold (worse_of (Regex text) p) us (more e es)
    unfolding worse_of
    behind_regex text (Value w) us u = inl u
    behind_regex text Error us u = inl u
    behind_regex text Unknown us u = inl u
    behind_regex text (Regex other) us u = inl u
    behind_regex text NotConstant us u = tt

    -- the first is an error
    behind_error : (p : Outcome) (us : List Val) → U ⊎ Fails (One e) → RowTold (worse_of Error p) us (more e es)
    unfolding worse_of
    behind_error NotConstant us h = tt
    behind_error (Value w) us h = or_first_fails h
    behind_error Error us h = or_first_fails h
    behind_error Unknown us h = or_first_fails h
    behind_error (Regex text) us h = or_first_fails h

    by_first : (o p : Outcome) (ws : List Val) → Told U o (One e) → RowTold p ws es → RowTold (worse_of o p) (kept o ++ ws) (more e es)
    unfolding worse_of
    by_first (Value v) p ws h i = behind_value v p ws h i
    by_first Error p ws h i = behind_error p ws h
    by_first Unknown p ws h i = behind_unknown p ws ws h i
    by_first (Regex text) p ws h i = behind_regex text p ws h
    by_first NotConstant p ws h i = tt

    pub row_more : (o : Outcome) (os : List Outcome) (ws : List Val) → Told U o (One e) → RowTold (worst_of os) ws es → RowTold (worst_of (o ∷ os)) (kept o ++ ws) (more e es)
    unfolding worst_of
    row_more o os ws h i = by_first o (worst_of os) ws h i

  -- what is made of a row
  module _ (f : List Val → Outcome) (make : List Val → Val) (is : (vs : List Val) → f vs ≡ Value (make vs)) (es : Exprs) where
    abbrev Last : List Val → State → Result
    Last vs st = ends (Gives (make (reverse vs))) st

    made_told : (p : Outcome) (ws : List Val) → RowTold p ws es → Told U (made f (lack_of p) ws) (All es [] Last)
    made_told (Value v) ws h = subst (λ o. Told U o (All es [] Last)) (sym (is ws)) (λ st. h [] Last st ∙ ap (λ vs. ends (Gives (make vs)) st) (again ws))
    made_told Error ws (inl u) = inl u
    made_told Error ws (inr h) = inr (h.0, h.1 [] Last)
    made_told Unknown ws (inl u) = inl u
    made_told Unknown ws (inr (inl h)) = inr (Err h.0, h.1 [] Last)
    made_told Unknown ws (inr (inr h)) = inr (Ok (make (reverse (reverse h.0 ++ []))), h.1 [] Last)
    made_told (Regex text) ws (inl u) = inl u
    made_told (Regex text) ws (inr (inl h)) = inr (Err h.0, h.1 [] Last)
    made_told (Regex text) ws (inr (inr h)) = inr (Ok (make (reverse (reverse h.0 ++ []))), h.1 [] Last)
    made_told NotConstant ws h = tt

    of_all_told : (os : List Outcome) → RowTold (worst_of os) (values os) es → Told U (of_all f os) (All es [] Last)
    of_all_told os h = subst (λ l. Told U (made f l (values os)) (All es [] Last)) (sym (lacks_worst os)) (made_told (worst_of os) (values os) h)

  module _ (es : Exprs) (os : List Outcome) (h : RowTold (worst_of os) (values os) es) where
    pub tuple_told : Told U (of_all (row_of many_is.Tuple) os) (All es [] (λ vs st. ends (Gives (tuple (vals_of (reverse vs)))) st))
    tuple_told = of_all_told (row_of many_is.Tuple) (λ vs. tuple (vals_of vs)) (λ vs. refl) es os h

    pub vector_told : Told U (of_all (row_of many_is.Vector) os) (All es [] (λ vs st. ends (Gives (vector (vals_of (reverse vs)))) st))
    vector_told = of_all_told (row_of many_is.Vector) (λ vs. vector (vals_of vs)) (λ vs. refl) es os h

    pub set_told : Told U (of_all (row_of many_is.Set) os) (All es [] (λ vs st. ends (Gives (set_of (reverse vs))) st))
    set_told = of_all_told (row_of many_is.Set) set_of (λ vs. ap Value (same_members (set no_vals) vs)) es os h

    pub map_told : Told U (of_all (row_of many_is.Map) os) (All es [] (λ vs st. ends (Gives (map_of (reverse vs))) st))
    map_told = of_all_told (row_of many_is.Map) map_of (λ vs. ap Value (same_entries (map no_entries) vs)) es os h
