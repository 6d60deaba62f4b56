-- Each declaration of a type has a full type, where no alias is made of itself, and each is written as a type may be.
use Rattle.std.specs.Prelude.{is_some}
use Rattle.std.proofs.Common.{ℕ, ◌≡◌, ◌+◌, zero, suc, true, refl, sym, ap, ◌∙◌, List, [], ◌∷◌, Option, Some, None}
use Rattle.sp_ast.specs.Trees.{Tree}
use Rattle.sp_types.specs.declared.words.Word.{Word}
use Rattle.sp_types.specs.declared.words.Word.TheVariants as word_is
use Rattle.sp_types.specs.Types.{Ty, word, is_known_word}
use Rattle.sp_solver.specs.declared.attempt.Attempt.TheVariants.{Done, Waits}
use Rattle.sp_solver.specs.Rounds.{got, round, IsSettled}
use Rattle.sp_names.specs.declared.rows.Declaration.{Declaration}
use Rattle.sp_names.specs.declared.sort.DeclSort.{DeclSort}
use Rattle.sp_names.specs.declared.sort.DeclSort.TheVariants as sort_is
use Rattle.sp_names.specs.Declarations.{declaration_at, sort_of, sort_or, type_tree_of, before, library_enums}
use Rattle.sp_names.specs.Types.{or_unknown, type_in, mentions_in}
use Rattle.sp_names.specs.Aliases.{first_open, sort_asks, sort_type, when_open, try_one, tries}
use Rattle.sp_names.specs.AliasLaws.{none_some, by_option, open_none, when_done}
use Rattle.sp_type_context.specs.declared.places.Place.TheVariants as place_is
use Rattle.sp_type_modules.specs.Written.{is_type_sort}
use Rattle.sp_type_declarations.specs.Aliases.{is_alias}
use Rattle.sp_law_lists.specs.known_types.Full.{is_full}
use Rattle.sp_law_lists.proofs.known_types_lemmas.Full.{never}
use Rattle.sp_law_lists.specs.whole_list.Known.{Stands, HasType}
use Rattle.sp_law_lists.proofs.whole_list_lemmas.Mentions.{Each}
use Rattle.sp_law_lists.proofs.whole_list_lemmas.Types.{type_full}

done_waits : (a : Ty) (j : ℕ) → Done a ≡ Waits j → ⊥
done_waits a j e = cc

done_is : (a b : Ty) → Done a ≡ Done b → a ≡ b
done_is a b e = cc

got_done : (t a : Ty) (o : Option ℕ) → got (when_open t o) ≡ Some a → o ≡ None
got_done t a None e = refl
got_done t a (Some j) e = absurd (none_some None a refl e)

each_open : (h : ℕ → Option Ty) (P : ℕ → Type 0) → ((j : ℕ) (a : Ty) → h j ≡ Some a → P j) → (js : List ℕ) → first_open h js ≡ None → Each P js
each_open h P p [] e = tt
each_open h P p (j ∷ js) e =
    let o = open_none h j js e in
    (p j o.0.0 o.0.1, each_open h P p js o.1)

module _ (list : List Tree) (f : ℕ → Option Ty) where
  module _ (settled : IsSettled (tries list) f) (stands : (g : ℕ) (d : Declaration) → declaration_at list g ≡ Some d → is_alias (sort_of d.tree) ≡ true → Stands list f g d) where
    -- what is tried of a declaration
    tried : (g : ℕ) (d : Declaration) (s : DeclSort) → declaration_at list g ≡ Some d → sort_of d.tree ≡ s → tries list f g ≡ when_open (sort_type list f g d s) (first_open f (sort_asks list d s))
    tried g d s at is = ap (try_one list f g) at ∙ ap (λ (s : DeclSort). when_open (sort_type list f g d s) (first_open f (sort_asks list d s))) is

    -- a unit and an enum
    word_full : (g : ℕ) (w : Word) → is_known_word w ≡ true → tries list f g ≡ Done (word w) → is_full (or_unknown (f g)) ≡ true
    word_full g w known is = by_option (is_full (or_unknown (f g)) ≡ true) (f g)
        (λ none. (let s = settled.stuck g none in absurd (done_waits (word w) s.0 (sym is ∙ s.1))))
        (λ a some. (
        let same : a ≡ word w = done_is a (word w) (sym (settled.solved g a some) ∙ is) in
        ap (λ (o : Option Ty). is_full (or_unknown o)) some ∙ ap is_full same ∙ known))

    -- an alias, where what it mentions has full types
    alias_full : (g : ℕ) (d : Declaration) → declaration_at list g ≡ Some d → sort_of d.tree ≡ sort_is.Alias → Each (HasType list f) (mentions_in list d.«module» (type_tree_of d.tree)) → is_full (or_unknown (f g)) ≡ true
    alias_full g d at is has = by_option (is_full (or_unknown (f g)) ≡ true) (f g)
        (λ none. never (sym (ap is_some none) ∙ it.0))
        (λ a some. (
        let t = type_tree_of d.tree in
        let done = when_done (type_in list f d.«module» t) a (first_open f (mentions_in list d.«module» t)) (sym (tried g d sort_is.Alias at is) ∙ settled.solved g a some) in
        ap (λ (o : Option Ty). is_full (or_unknown o)) some ∙ ap is_full (sym done.1) ∙ type_full list f d.«module» place_is.Whole t it.1 it.2 has))
      where
        it : Stands list f g d
        it = stands g d at (ap is_alias is)

    -- what a round finds has a full type
    found_full : (k : ℕ) → ((j : ℕ) (a : Ty) → round (tries list) k j ≡ Some a → HasType list f j) → (g : ℕ) (d : Declaration) (s : DeclSort) → declaration_at list g ≡ Some d → sort_of d.tree ≡ s
        → (t : Ty) → got (when_open (sort_type list (round (tries list) k) g d s) (first_open (round (tries list) k) (sort_asks list d s))) ≡ Some t → is_type_sort s ≡ true → is_full (or_unknown (f g)) ≡ true
    found_full k earlier g d sort_is.Unit at is t found type = word_full g (word_is.Unit (before sort_is.Unit list g)) refl (tried g d sort_is.Unit at is)
    found_full k earlier g d sort_is.Enum at is t found type = word_full g (word_is.Enum (library_enums + before sort_is.Enum list g)) refl (tried g d sort_is.Enum at is)
    found_full k earlier g d sort_is.Alias at is t found type =
        let h = round (tries list) k in
        let tree = type_tree_of d.tree in
        let open_ = got_done (type_in list h d.«module» tree) t (first_open h (mentions_in list d.«module» tree)) found in
        alias_full g d at is (each_open h (HasType list f) earlier (mentions_in list d.«module» tree) open_)
    found_full k earlier g d _ at is t found type = never type

    nowhere_full : (g : ℕ) → declaration_at list g ≡ None → HasType list f g
    nowhere_full g at type = never (sym (ap (λ (o : Option Declaration). is_type_sort (sort_or o)) at) ∙ type)

    rounds_full : (k g : ℕ) (t : Ty) → round (tries list) k g ≡ Some t → HasType list f g
    rounds_full zero g t e = absurd (none_some None t refl e)
    rounds_full (suc k) g t e = by_option (HasType list f g) (declaration_at list g)
        (nowhere_full g)
        (λ d at type.
        found_full k (rounds_full k) g d (sort_of d.tree) at refl t (sym (ap (λ (o : Option Declaration). got (try_one list (round (tries list) k) g o)) at) ∙ e) (sym (ap (λ (o : Option Declaration). is_type_sort (sort_or o)) at) ∙ type))

    -- what has no answer is no type
    none_full : (g : ℕ) (d : Declaration) (s : DeclSort) → f g ≡ None → declaration_at list g ≡ Some d → sort_of d.tree ≡ s → is_type_sort s ≡ true → is_full (or_unknown (f g)) ≡ true
    none_full g d sort_is.Unit none at is type = word_full g (word_is.Unit (before sort_is.Unit list g)) refl (tried g d sort_is.Unit at is)
    none_full g d sort_is.Enum none at is type = word_full g (word_is.Enum (library_enums + before sort_is.Enum list g)) refl (tried g d sort_is.Enum at is)
    none_full g d sort_is.Alias none at is type = never (sym (ap is_some none) ∙ (stands g d at (ap is_alias is)).0)
    none_full g d _ none at is type = never type

    -- Each declaration of a type has a full one.
    pub declared_full : (g : ℕ) → HasType list f g
    declared_full g = by_option (HasType list f g) (f g)
        (λ none. by_option (HasType list f g) (declaration_at list g)
        (nowhere_full g)
        (λ d at type. none_full g d (sort_of d.tree) none at refl (sym (ap (λ (o : Option Declaration). is_type_sort (sort_or o)) at) ∙ type)))
        (λ a some. (let k = settled.found g a some in rounds_full k.0 g a k.1))
