-- What is passed one after another.
use Rattle.std.proofs.Common.{ℕ, ◌≡◌, ◌+◌, Bool, true, false, cond, nat_lt, refl, sym, ap, subst, ◌∙◌, arith, List, [], ◌∷◌, ◌++◌, Option, Some, None}
use Rattle.std.specs.Prelude.{◌==◌, ◌-◌, if◌then◌else◌, ◌&&◌, ◌||◌}
use Rattle.std.proofs.lemmas.List.{append_assoc, append-nil}
use Rattle.std.proofs.lemmas.Bool.Decides.{nat_tests}
use Rattle.sp_base.specs.declared.places.Span.{Span}
use Rattle.sp_ast.specs.Trees.{Tree, Trees, none, more, trees}
use Rattle.sp_types.specs.Types.{Ty}
use Rattle.sp_type_modules.specs.declared.sources.Source.{Source}
use Rattle.sp_type_modules.specs.declared.sources.Source.TheVariants as source_is
use Rattle.sp_type_modules.specs.Sources.{Named, declared_in, declared_among}
use Rattle.sp_type_modules.specs.Taken.{Kept, has, differ, differs, place_if, with_number, with_kept, numbers_of, kept_of, kept_as, taken_in, taken_among, taken_arms}
use Rattle.sp_type_member_names.specs.declared.seen.Seen.{Seen}
use Rattle.sp_type_member_names.specs.inside.Seen.{told_count, how_many, kept_differs, is_counted, number_told}
use Rattle.sp_type_member_names.specs.inside.Passing.{IsSeen, Passed, PassedName, PassedKept, PassedIn, PassedAmong, PassedArms, LeadsAmong, LeadsArms}

-- how often a member is named, and whether it is
pub many_more : (k : ℕ) (xs ys : List ℕ) → how_many k (xs ++ ys) ≡ how_many k xs + how_many k ys
many_more k [] ys = (let z : how_many k ys ≡ 0 + how_many k ys = omega arith in z)
many_more k (x ∷ xs) ys = (let h = many_more k xs ys in omega (arith, h))

pub is_there : (k : ℕ) (xs : List ℕ) → nat_lt 0 (how_many k xs) ≡ has k xs
is_there k [] = refl
is_there k (x ∷ xs) = by (x == k) (how_many k xs) (is_there k xs)
  where
    by : (b : Bool) (n : ℕ) → nat_lt 0 n ≡ has k xs → nat_lt 0 (cond b 1 0 + n) ≡ (b || has k xs)
    by true n h = (let z : nat_lt 0 (1 + n) ≡ true = grind (arith, nat_tests) in z)
    by false n h = (let z : 0 + n ≡ n = omega arith in ap (nat_lt 0) z ∙ h)

or_all : (a b c : Bool) → ((a || b) || c) ≡ (a || (b || c))
or_all true b c = refl
or_all false b c = refl

pub differs_more : (k : ℕ) (t : Ty) (xs ys : List Kept) → differs k t (xs ++ ys) ≡ (differs k t xs || differs k t ys)
differs_more k t [] ys = refl
differs_more k t (x ∷ xs) ys = ap (λ b. (x.member == k && differ x.ty t) || b) (differs_more k t xs ys) ∙ sym (or_all (x.member == k && differ x.ty t) (differs k t xs) (differs k t ys))

-- what some name, and then others
numbers_step : (o : Option ℕ) (xs ys : List ℕ) → with_number o (xs ++ ys) ≡ with_number o xs ++ ys
numbers_step None xs ys = refl
numbers_step (Some k) xs ys = refl

kept_step : (o : Option ℕ) (t : Ty) (xs ys : List Kept) → with_kept o t (xs ++ ys) ≡ with_kept o t xs ++ ys
kept_step None t xs ys = refl
kept_step (Some k) t xs ys = refl

module _ (number : List ℕ → Option ℕ) (type_at : Tree → Ty) where
  source_step : (o : Option ℕ) (s : Source) (xs ys : List Kept) → kept_as number type_at o s (xs ++ ys) ≡ kept_as number type_at o s xs ++ ys
  source_step o (source_is.Field t) xs ys = kept_step o (type_at t) xs ys
  source_step o (source_is.Variable t) xs ys = refl
  source_step o source_is.Sink xs ys = refl

  pub numbers_append : (xs ys : List Named) → numbers_of number type_at (xs ++ ys) ≡ numbers_of number type_at xs ++ numbers_of number type_at ys
  numbers_append [] ys = refl
  numbers_append (x ∷ xs) ys = ap (with_number (number x.name)) (numbers_append xs ys) ∙ numbers_step (number x.name) (numbers_of number type_at xs) (numbers_of number type_at ys)

  pub kept_append : (xs ys : List Named) → kept_of number type_at (xs ++ ys) ≡ kept_of number type_at xs ++ kept_of number type_at ys
  kept_append [] ys = refl
  kept_append (x ∷ xs) ys =
      ap (kept_as number type_at (number x.name) x.source) (kept_append xs ys) ∙ source_step (number x.name) x.source (kept_of number type_at xs) (kept_of number type_at ys)

seen_as : (near near' : List ℕ) (kept kept' : List Kept) (seen : Seen) → near ≡ near' → kept ≡ kept' → IsSeen near kept seen → IsSeen near' kept' seen
seen_as near near' kept kept' seen e f is = record {
  near_is = λ k. is.near_is k ∙ ap (how_many k) e;
  kept_is = λ k t. is.kept_is k t ∙ ap (differs k t) f;
}

pub passed_as : (shows : Bool) (f g : List ℕ → List Kept → List Span) (ks ks' : List ℕ) (ss ss' : List Kept) (old new : Seen)
    → ((near : List ℕ) (kept : List Kept) → f near kept ≡ g near kept) → ks ≡ ks' → ss ≡ ss' → Passed shows f ks ss old new → Passed shows g ks' ss' old new
passed_as shows f g ks ks' ss ss' old new same e h is = record {
  trail = is.trail ∙ ap (λ l. old.trail.items ++ l) e;
  found = λ near kept s. is.found near kept s ∙ ap (λ l. old.places.items ++ l) (same near kept);
  seen = λ near kept s. seen_as (if shows then near ++ ks else near) (if shows then near ++ ks' else near) (kept ++ ss) (kept ++ ss') new (ap (λ l. if shows then near ++ l else near) e) (ap (λ l. kept ++ l) h) (is.seen near kept s);
}

pub passed_nothing : (shows : Bool) (seen : Seen) → Passed shows (λ near kept. []) [] [] seen seen
passed_nothing shows seen = record {
  trail = sym (append-nil seen.trail.items);
  found = λ near kept s. sym (append-nil seen.places.items);
  seen = λ near kept s. seen_as near (if shows then near ++ [] else near) kept (kept ++ []) seen (by shows near) (sym (append-nil kept)) s;
}
  where
    by : (shows : Bool) (near : List ℕ) → near ≡ (if shows then near ++ [] else near)
    by true near = sym (append-nil near)
    by false near = refl

-- some, and then others that see them
pub passed_more : (f g : List ℕ → List Kept → List Span) (ks js : List ℕ) (ss rs : List Kept) (a b c : Seen)
    → Passed true f ks ss a b → Passed true g js rs b c → Passed true (λ near kept. f near kept ++ g (near ++ ks) (kept ++ ss)) (ks ++ js) (ss ++ rs) a c
passed_more f g ks js ss rs a b c first second = record {
  trail = second.trail ∙ ap (λ l. l ++ js) first.trail ∙ append_assoc a.trail.items ks js;
  found = λ near kept s.
      second.found (near ++ ks) (kept ++ ss) (first.seen near kept s)
      ∙ ap (λ l. l ++ g (near ++ ks) (kept ++ ss)) (first.found near kept s)
      ∙ append_assoc a.places.items (f near kept) (g (near ++ ks) (kept ++ ss));
  seen = λ near kept s.
      seen_as ((near ++ ks) ++ js) (near ++ (ks ++ js)) ((kept ++ ss) ++ rs) (kept ++ (ss ++ rs)) c (append_assoc near ks js) (append_assoc kept ss rs)
      (second.seen (near ++ ks) (kept ++ ss) (first.seen near kept s));
}

-- an arm, and then others
pub passed_beside : (f g : List ℕ → List Kept → List Span) (ks js : List ℕ) (ss rs : List Kept) (a b c : Seen)
    → Passed false f ks ss a b → Passed false g js rs b c → Passed false (λ near kept. f near kept ++ g near (kept ++ ss)) (ks ++ js) (ss ++ rs) a c
passed_beside f g ks js ss rs a b c first second = record {
  trail = second.trail ∙ ap (λ l. l ++ js) first.trail ∙ append_assoc a.trail.items ks js;
  found = λ near kept s.
      second.found near (kept ++ ss) (first.seen near kept s)
      ∙ ap (λ l. l ++ g near (kept ++ ss)) (first.found near kept s)
      ∙ append_assoc a.places.items (f near kept) (g near (kept ++ ss));
  seen = λ near kept s.
      seen_as near near ((kept ++ ss) ++ rs) (kept ++ (ss ++ rs)) c refl (append_assoc kept ss rs) (second.seen near (kept ++ ss) (first.seen near kept s));
}

or_false : (b : Bool) → b ≡ (b || false)
or_false true = refl
or_false false = refl

near_more : (k j : ℕ) (near : List ℕ) (old new : ℕ) → old ≡ how_many j near → new ≡ old + cond (k == j) 1 0 → new ≡ how_many j (near ++ k ∷ [])
near_more k j near old new is raised = (let h = many_more j near (k ∷ []) in omega (arith, h, is, raised))

-- one name
pub name_passed : (o : Option ℕ) (k : ℕ) (at : Span) (old new : Seen) (is : Bool)
    → o ≡ Some k
    → is ≡ is_counted old.near o
    → new.places.items ≡ old.places.items ++ place_if is at
    → ((j : ℕ) → told_count new.near j ≡ told_count old.near j + cond (k == j) 1 0)
    → new.trail.items ≡ old.trail.items ++ k ∷ []
    → ((j : ℕ) (t : Ty) → kept_differs new.kept j t ≡ kept_differs old.kept j t)
    → PassedName o at old new
name_passed o k at old new is some test places raised trail same = subst (λ x. PassedName x at old new) (sym some) (record {
  trail = trail;
  found = λ near kept s. places ∙ ap (λ b. old.places.items ++ place_if b at) (test ∙ ap (is_counted old.near) some ∙ ap (nat_lt 0) (s.near_is k) ∙ is_there k near);
  seen = λ near kept s. record {
    near_is = λ j. near_more k j near (told_count old.near j) (told_count new.near j) (s.near_is j) (raised j);
    kept_is = λ j t. same j t ∙ s.kept_is j t ∙ ap (differs j t) (sym (append-nil kept));
  };
})

pub field_passed : (o : Option ℕ) (k : ℕ) (u : Ty) (at : Span) (old new : Seen) (is : Bool)
    → o ≡ Some k
    → is ≡ (is_counted old.near o || number_told old.kept o u)
    → new.places.items ≡ old.places.items ++ place_if is at
    → ((j : ℕ) → told_count new.near j ≡ told_count old.near j + cond (k == j) 1 0)
    → new.trail.items ≡ old.trail.items ++ k ∷ []
    → ((j : ℕ) (t : Ty) → kept_differs new.kept j t ≡ (kept_differs old.kept j t || (k == j && differ u t)))
    → PassedKept o u at old new
field_passed o k u at old new is some test places raised trail more_kept = subst (λ x. PassedKept x u at old new) (sym some) (record {
  trail = trail;
  found = λ near kept s.
      places
      ∙ ap (λ b. old.places.items ++ place_if b at)
      (test ∙ ap (λ x. is_counted old.near x || number_told old.kept x u) some ∙ ap (λ n. nat_lt 0 n || kept_differs old.kept k u) (s.near_is k) ∙ ap (λ b. b || kept_differs old.kept k u) (is_there k near) ∙ ap (λ b. has k near || b) (s.kept_is k u));
  seen = λ near kept s. record {
    near_is = λ j. near_more k j near (told_count old.near j) (told_count new.near j) (s.near_is j) (raised j);
    kept_is = λ j t.
        more_kept j t
        ∙ ap (λ b. b || (k == j && differ u t)) (s.kept_is j t)
        ∙ ap (λ b. differs j t kept || b) (or_false (k == j && differ u t))
        ∙ sym (differs_more j t kept (record { member = k; ty = u } ∷ []));
  };
})

-- what an arm names is hidden behind it, and all that a switch names is shown
pub hidden : (f : List ℕ → List Kept → List Span) (ks : List ℕ) (ss : List Kept) (old start mid new : Seen)
    → Passed true f ks ss start mid
    → start.trail.items ≡ []
    → start.places.items ≡ old.places.items
    → ((near : List ℕ) (kept : List Kept) → IsSeen near kept old → IsSeen near kept start)
    → ((j : ℕ) → told_count new.near j ≡ told_count mid.near j - how_many j mid.trail.items)
    → ((j : ℕ) (t : Ty) → kept_differs new.kept j t ≡ kept_differs mid.kept j t)
    → new.places.items ≡ mid.places.items
    → new.trail.items ≡ old.trail.items ++ mid.trail.items
    → Passed false f ks ss old new
hidden f ks ss old start mid new is empty places begins lowered same found trail = record {
  trail = trail ∙ ap (λ l. old.trail.items ++ l) names;
  found = λ near kept s. found ∙ is.found near kept (begins near kept s) ∙ ap (λ l. l ++ f near kept) places;
  seen = λ near kept s. record {
    near_is = λ j. (
        let m = (is.seen near kept (begins near kept s)).near_is j in
        let h = many_more j near ks in
        let l = lowered j in
        let n = ap (how_many j) names in
        omega (arith, m, h, l, n)
        );
    kept_is = λ j t. same j t ∙ (is.seen near kept (begins near kept s)).kept_is j t;
  };
}
  where
    names : mid.trail.items ≡ ks
    names = is.trail ∙ ap (λ l. l ++ ks) empty

pub shown : (f : List ℕ → List Kept → List Span) (ks : List ℕ) (ss : List Kept) (old start mid new : Seen)
    → Passed false f ks ss start mid
    → start.trail.items ≡ []
    → start.places.items ≡ old.places.items
    → ((near : List ℕ) (kept : List Kept) → IsSeen near kept old → IsSeen near kept start)
    → ((j : ℕ) → told_count new.near j ≡ told_count mid.near j + how_many j mid.trail.items)
    → ((j : ℕ) (t : Ty) → kept_differs new.kept j t ≡ kept_differs mid.kept j t)
    → new.places.items ≡ mid.places.items
    → new.trail.items ≡ old.trail.items ++ mid.trail.items
    → Passed true f ks ss old new
shown f ks ss old start mid new is empty places begins raised same found trail = record {
  trail = trail ∙ ap (λ l. old.trail.items ++ l) names;
  found = λ near kept s. found ∙ is.found near kept (begins near kept s) ∙ ap (λ l. l ++ f near kept) places;
  seen = λ near kept s. record {
    near_is = λ j. (
        let m = (is.seen near kept (begins near kept s)).near_is j in
        let h = many_more j near ks in
        let l = raised j in
        let n = ap (how_many j) names in
        omega (arith, m, h, l, n)
        );
    kept_is = λ j t. same j t ∙ (is.seen near kept (begins near kept s)).kept_is j t;
  };
}
  where
    names : mid.trail.items ≡ ks
    names = is.trail ∙ ap (λ l. l ++ ks) empty

-- trees in a row
module _ (n : List ℕ → Option ℕ) (type_at : Tree → Ty) where
  pub one_part : (t : Tree) (old new : Seen) → PassedIn n type_at true t old new → PassedAmong n type_at (more t none) old new
  one_part t old new is =
      passed_as true (λ near kept. taken_in n type_at near kept t) (λ near kept. taken_in n type_at near kept t ++ []) (numbers_of n type_at (declared_in t)) (numbers_of n type_at (declared_in t ++ []))
      (kept_of n type_at (declared_in t)) (kept_of n type_at (declared_in t ++ [])) old new (λ near kept. sym (append-nil (taken_in n type_at near kept t))) (ap (numbers_of n type_at) (sym (append-nil (declared_in t))))
      (ap (kept_of n type_at) (sym (append-nil (declared_in t)))) is

  pub among_more : (t : Tree) (ts : Trees) (a b c : Seen) → PassedIn n type_at true t a b → PassedAmong n type_at ts b c → PassedAmong n type_at (more t ts) a c
  among_more t ts a b c x y =
      let ds = declared_in t in
      let es = declared_among ts in
      passed_as true (λ near kept. taken_in n type_at near kept t ++ taken_among n type_at (near ++ numbers_of n type_at ds) (kept ++ kept_of n type_at ds) ts) (λ near kept. taken_among n type_at near kept (more t ts))
      (numbers_of n type_at ds ++ numbers_of n type_at es) (numbers_of n type_at (ds ++ es)) (kept_of n type_at ds ++ kept_of n type_at es) (kept_of n type_at (ds ++ es)) a c (λ near kept. refl)
      (sym (numbers_append n type_at ds es)) (sym (kept_append n type_at ds es))
      (passed_more (λ near kept. taken_in n type_at near kept t) (λ near kept. taken_among n type_at near kept ts) (numbers_of n type_at ds) (numbers_of n type_at es) (kept_of n type_at ds) (kept_of n type_at es) a b c x y)

  pub arms_more : (t : Tree) (ts : Trees) (a b c : Seen) → PassedIn n type_at false t a b → PassedArms n type_at false ts b c → PassedArms n type_at false (more t ts) a c
  arms_more t ts a b c x y =
      let ds = declared_in t in
      let es = declared_among ts in
      passed_as false (λ near kept. taken_in n type_at near kept t ++ taken_arms n type_at near (kept ++ kept_of n type_at ds) ts) (λ near kept. taken_arms n type_at near kept (more t ts))
      (numbers_of n type_at ds ++ numbers_of n type_at es) (numbers_of n type_at (ds ++ es)) (kept_of n type_at ds ++ kept_of n type_at es) (kept_of n type_at (ds ++ es)) a c (λ near kept. refl)
      (sym (numbers_append n type_at ds es)) (sym (kept_append n type_at ds es))
      (passed_beside (λ near kept. taken_in n type_at near kept t) (λ near kept. taken_arms n type_at near kept ts) (numbers_of n type_at ds) (numbers_of n type_at es) (kept_of n type_at ds) (kept_of n type_at es) a b c x y)

  pub among_first : (first : Seen) (all : Trees) → LeadsAmong n type_at first first all all
  among_first first all = λ later is. is

  pub arms_first : (first : Seen) (all : Trees) → LeadsArms n type_at first first all all
  arms_first first all = λ later is. is

  pub among_step : (first old new : Seen) (t : Tree) (ts left : List Tree) (all : Trees) → left ≡ t ∷ ts → PassedIn n type_at true t old new → LeadsAmong n type_at first old (trees left) all → LeadsAmong n type_at first new (trees ts) all
  among_step first old new t ts left all e is leads = λ later rest. leads later (subst (λ l. PassedAmong n type_at (trees l) old later) (sym e) (among_more t (trees ts) old new later is rest))

  pub arms_step : (first old new : Seen) (t : Tree) (ts left : List Tree) (all : Trees) → left ≡ t ∷ ts → PassedIn n type_at false t old new → LeadsArms n type_at first old (trees left) all → LeadsArms n type_at first new (trees ts) all
  arms_step first old new t ts left all e is leads = λ later rest. leads later (subst (λ l. PassedArms n type_at false (trees l) old later) (sym e) (arms_more t (trees ts) old new later is rest))

  pub among_end : (first now : Seen) (left : List Tree) (all : Trees) → left ≡ [] → LeadsAmong n type_at first now (trees left) all → PassedAmong n type_at all first now
  among_end first now left all e leads = leads now (subst (λ l. PassedAmong n type_at (trees l) now now) (sym e) (passed_nothing true now))

  pub arms_end : (first now : Seen) (left : List Tree) (all : Trees) → left ≡ [] → LeadsArms n type_at first now (trees left) all → PassedArms n type_at false all first now
  arms_end first now left all e leads = leads now (subst (λ l. PassedArms n type_at false (trees l) now now) (sym e) (passed_nothing false now))
