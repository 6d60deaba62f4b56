-- The first step of a trace: a token, an action or a part comes first; and the steps of a reading that put it together again.
use Rattle.std.specs.Prelude.{◌<◌, length, cond, option_map}
use Rattle.std.specs.Int.{bit_at}
use Rattle.std.proofs.Common.{◌≡◌, ℕ, List, [], ◌∷◌, map, Bool, true, false, ◌==◌, Option, Some, None, refl, sym, ◌∙◌, ap, subst, inl, inr}
use Rattle.std.proofs.lemmas.Bool.{cases_Bool, eqb-true, cond-false}
use Rattle.std.proofs.lemmas.Nat.Bits.{bit_at-zero}
use Rattle.sp_lex.specs.declared.kinds.TokenKind.{TokenKind}
use Rattle.sp_words.specs.declared.words.HookName.{HookName}
use Rattle.sp_parser.specs.declared.symbol.Symbol.{Symbol}
use Rattle.sp_parser.specs.declared.symbol.Symbol.TheVariants as symbol
use Rattle.sp_parser.specs.Grammar.{right, takes, First, All, Nothing, CLOSE, SECOND, production_of, productions_of, ahead}
use Rattle.sp_grammar.specs.declared.actions.Action.{Action}
use Rattle.sp_grammar.specs.Actions.{action_with}
use Rattle.sp_grammar.specs.Terminals.{terminal_number}
use Rattle.sp_grammar.specs.declared.terminals.Terminal.TheVariants as terminal
use Rattle.sp_grammar.specs.Own.{own}
use Rattle.sp_grammar.specs.declared.actions.Action.TheVariants as build
use Rattle.sp_grammar.specs.Written.{action as action_symbol, kind as kind_symbol}
use Rattle.sp_ast.specs.declared.forms.Form.{Form}
use Rattle.sp_ast.specs.declared.forms.Form.TheVariants as form_is
use Rattle.sp_ast.specs.Trees.{Tree, absent, tree, in_row}
use Rattle.sp_ast.specs.declared.groups.Group.{Group}
use Rattle.sp_ast.specs.declared.groups.Slot.{Slot}
use Rattle.sp_ast.specs.Groups.{is_node}
use Rattle.sp_build.specs.Rules.{Leaf, by_name, by_number, by_hook_name, rule, gathers, closes, wraps, takes as takes_leaf}
use Rattle.sp_build.proofs.Standing.{not_some, some_equal}
use Rattle.sp_build.proofs.Told.{never}
use Rattle.sp_print.specs.Words.{Word, name, number as a_number}
use Rattle.sp_law_printed_words.specs.Sound.{read_as}
use Rattle.sp_law_round_trip.specs.Bare.{nowhere}
use Rattle.sp_law_round_trip.specs.Told.{Telling}
use Rattle.sp_law_round_trip.proofs.Held.{form_told, Pile, started, made, put_if, closed, does}
use Rattle.sp_law_round_trip.proofs.Leaves.{mapped, hook_name_told}
use Rattle.sp_law_round_trip.proofs.Closing.{gathered_all, closed_all, wrapped}
use Rattle.sp_law_round_trip.proofs.Goes.{Tok, entire, half, tells, number, next, coming, pushed, Goes, nothing, whole, first_half, action, part}
use Rattle.sp_law_round_trip.proofs.Shown.{Spells, expression, Claim, ClaimAs, Yield, Fits, Shows, MayFollow, Avoids, avoided, is_kept, plain, one, manner_of, Trace, ended, token_passed, half_passed, action_passed, part_passed, IsOneNode}

pub never_first : (b : Bool) → cond b All Nothing ≡ First → ⊥
never_first true h = absurd cc
never_first false h = absurd cc

pub by_kind : (e k : ℕ) → cond (e == k) All Nothing ≡ All → e ≡ k
by_kind e k h = elim (cases_Bool (e == k)) [ inl y ↦ eqb-true e k y | inr z ↦ absurd (let q : Nothing ≡ All = sym (cond-false (e == k) All Nothing z) ∙ h in cc) ]

-- a terminal but the one that closes a list of types takes only a token of its own kind, and takes it whole
pub taken_by : (e k : ℕ) → (e == CLOSE) ≡ false → takes e k ≡ cond (e == k) All Nothing
taken_by e k h = cond-false (e == CLOSE) _ (cond (e == k) All Nothing) h

pub is_token : (e : ℕ) (x : Tok) → (e == CLOSE) ≡ false → takes e (number x) ≡ All → number x ≡ e
is_token e x h taken = sym (by_kind e (number x) (sym (taken_by e (number x) h) ∙ taken))

pub passes_token : {e : ℕ} {ss : List Symbol} {w v : List Tok} {s t : Pile} → (e == CLOSE) ≡ false → Trace (symbol.Terminal e ∷ ss) w s v t
    → (x : Tok) × (rest : List Tok) × (w ≡ x ∷ rest) × (takes e (number x) ≡ All) × Trace ss rest s v t
passes_token h (token_passed {x = x} {w = rest} taken trace) = (x, rest, refl, taken, trace)
passes_token {e} h (half_passed {x = x} taken trace) = absurd (never_first (e == number (entire x)) (sym (taken_by e (number (entire x)) h) ∙ taken))

-- an action does what its rule does
pub passes_action : {n : ℕ} {ss : List Symbol} {w v : List Tok} {s u : Pile} (m : Action) → action_with n ≡ Some m → Trace (symbol.Action n ∷ ss) w s v u
    → (t : Pile) × (does (rule m) (next w) s ≡ Some t) × Trace ss w t v u
passes_action {w = w} {s = s} m h (action_passed {t = t} also is done trace) =
    let e : also ≡ m = some_equal (sym is ∙ h) in (t, subst (λ x. does (rule x) (next w) s ≡ Some t) e done, trace)

-- an action of which it is known what it does
pub passes_known : {n : ℕ} {ss : List Symbol} {w v : List Tok} {s u : Pile} (m : Action) (t : Pile) → action_with n ≡ Some m → does (rule m) (next w) s ≡ Some t → Trace (symbol.Action n ∷ ss) w s v u → Trace ss w t v u
passes_known {ss = ss} {w = w} {v = v} {u = u} m t is known trace =
    let (x, done, rest) = passes_action m is trace in subst (λ p. Trace ss w p v u) (some_equal (sym done ∙ known)) rest

pub passes_part : {n : ℕ} {ss : List Symbol} {w v : List Tok} {s z : Pile} → Trace (symbol.Nonterminal n ∷ ss) w s v z
    → (u : List Tok) × (t : Pile) × Claim n w s t u × Trace ss u t v z
passes_part (part_passed {u = u} {t = t} claim trace) = (u, t, claim, trace)

-- a part that is written as these trees are
pub passes_trees : (n : ℕ) (y : Yield) {ss : List Symbol} {w v : List Tok} {s z : Pile} → manner_of n ≡ plain y → Trace (symbol.Nonterminal n ∷ ss) w s v z
    → (u : List Tok) × (ts : List Tree) × Fits y ts × Shows n y ts (coming u) × Trace ss u (pushed ts s) v z
passes_trees n y {ss = ss} {w = w} {v = v} {s = s} {z = z} is trace =
    let (u, t, claim, rest) = passes_part trace in
    let (ts, pile, fits, shows) = subst (λ m. ClaimAs m n w s t u) is claim in (u, ts, fits, shows, subst (λ p. Trace ss u p v z) pile rest)

-- a part that is one tree
pub passes_one : (n level : ℕ) {ss : List Symbol} {w v : List Tok} {s z : Pile} → manner_of n ≡ plain (one level) → Trace (symbol.Nonterminal n ∷ ss) w s v z
    → (u : List Tok) × (x : Tree) × (is_node x ≡ true) × Shows n (one level) (x ∷ []) (coming u) × Trace ss u (made x ∷ s) v z
passes_one n level {ss = ss} {v = v} {s = s} {z = z} is trace =
    let (u, ts, fits, shows, rest) = passes_trees n (one level) is trace in
    let (x, same, node) = fits in (u, x, node, subst (λ xs. Shows n (one level) xs (coming u)) same shows, subst (λ xs. Trace ss u (pushed xs s) v z) same rest)

-- a part that is an expression
pub passes_expression : (n level : ℕ) {ss : List Symbol} {w v : List Tok} {s z : Pile} → manner_of n ≡ expression level → Trace (symbol.Nonterminal n ∷ ss) w s v z
    → (u : List Tok) × (x : Tree) × Spells x × Trace ss u (made x ∷ s) v z
passes_expression n level {ss = ss} {w = w} {v = v} {s = s} {z = z} is trace =
    let (u, t, claim, rest) = passes_part trace in
    let (x, pile, spells) = subst (λ m. ClaimAs m n w s t u) is claim in (u, x, spells, subst (λ p. Trace ss u p v z) pile rest)

-- the beginning of a tree
pub passes_begin : {ss : List Symbol} {w v : List Tok} {s u : Pile} → Trace (action_symbol build.Begin ∷ ss) w s v u → Trace ss w (started (next w) ∷ s) v u
passes_begin {w = w} {s = s} trace = passes_known build.Begin (started (next w) ∷ s) refl refl trace

-- a part that is left out
pub passes_absent : {ss : List Symbol} {w v : List Tok} {s u : Pile} → Trace (action_symbol build.Absent ∷ ss) w s v u → Trace ss w (made absent ∷ s) v u
passes_absent {s = s} trace = passes_known build.Absent (made absent ∷ s) refl refl trace

-- trees that make a row wherever they stand behind a beginning
abbrev pub Gather : List Tree → Type 0
Gather us = (x q : Telling) (c : Pile) → does gathers x (pushed us (started q ∷ c)) ≡ Some (made (in_row us) ∷ c)

pub passes_row : (us : List Tree) (p : Telling) {ss : List Symbol} {w v : List Tok} {s u : Pile} → Trace (action_symbol build.Row ∷ ss) w (pushed us (started p ∷ s)) v u → Gather us × Trace ss w (made (in_row us) ∷ s) v u
passes_row us p {ss = ss} {w = w} {v = v} {s = s} {u = u} trace =
    let (t, done, rest) = passes_action build.Row refl trace in
    let (is, gather) = gathered_all us p s t (next w) done in
    (gather, subst (λ x. Trace ss w x v u) is rest)

-- a tree of one token is of the alternative that the token tells
pub was_put : (o : Option Form) (s t : Pile) → put_if o s ≡ Some t → (form : Form) × (o ≡ Some form) × (t ≡ made (tree form nowhere []) ∷ s)
was_put None s t h = not_some h
was_put (Some form) s t h = (form, refl, sym (some_equal h))

whole_word : (e : ℕ) (x : Tok) → takes e SECOND ≡ Nothing → takes e (number x) ≡ All → (y : Word) × (x ≡ entire y)
whole_word e (entire y) second taken = (y, refl)
whole_word e (half y) second taken = absurd (let q : Nothing ≡ All = sym second ∙ taken in cc)

name_told : (k : TokenKind) (x : Word) (form : Form) → form_told (by_name (λ y. form_is.Name y)) k x ≡ Some form → (y : List ℕ) × (x ≡ name y) × (form ≡ form_is.Name y)
name_told k (name y) form h = (y, refl, sym (some_equal h))
name_told k x form h = absurd cc

number_told : (k : TokenKind) (x : Word) (form : Form) → form_told (by_number (λ n. form_is.Number n)) k x ≡ Some form → (n : ℕ) × (form ≡ form_is.Number n)
number_told k (a_number n) form h = (n, sym (some_equal h))
number_told k x form h = absurd cc

-- a tree of one token, by the word that told it
passes_leaf : {n e : ℕ} (m : Action) (l : Leaf) {ss : List Symbol} {w v : List Tok} {s z : Pile} → action_with n ≡ Some m → rule m ≡ takes_leaf l → (e == CLOSE) ≡ false → takes e SECOND ≡ Nothing → Trace (symbol.Action n ∷ symbol.Terminal e ∷ ss) w s v z
    → (x : Word) × (form : Form) × (takes e (number (entire x)) ≡ All) × (form_told l (read_as x) x ≡ Some form) × (rest : List Tok) × Trace ss rest (made (tree form nowhere []) ∷ s) v z
passes_leaf {e = e} m l {ss = ss} {w = w} {v = v} {s = s} {z = z} is does_so itself second trace =
    let (t, done, behind) = passes_action m is trace in
    let (x, rest, begins_so, taken, ends) = passes_token itself behind in
    let took : put_if (form_told l (tells x).kind (tells x).word) s ≡ Some t = subst (λ y. put_if (form_told l (next y).kind (next y).word) s ≡ Some t) begins_so (subst (λ r. does r (next w) s ≡ Some t) does_so done) in
    let (word, is_word) = whole_word e x second taken in
    let told = subst (λ y. put_if (form_told l (tells y).kind (tells y).word) s ≡ Some t) is_word took in
    let (form, told_so, pile) = was_put (form_told l (read_as word) word) s t told in
    (word, form, subst (λ y. takes e (number y) ≡ All) is_word taken, told_so, rest, subst (λ p. Trace ss rest p v z) pile ends)

-- the tree of a name, of a number and of the name of a hook
abbrev pub named : List ℕ → Tree
named x = tree (form_is.Name x) nowhere []

abbrev pub numeral : ℕ → Tree
numeral n = tree (form_is.Number n) nowhere []

abbrev pub hook_name_tree : HookName → Tree
hook_name_tree h = tree (form_is.HookName h) nowhere []

pub passes_name : {ss : List Symbol} {w v : List Tok} {s z : Pile} → Trace (action_symbol build.Name ∷ kind_symbol terminal.Id ∷ ss) w s v z
    → (x : List ℕ) × (takes (terminal_number terminal.Id) (number (entire (name x))) ≡ All) × (rest : List Tok) × Trace ss rest (made (named x) ∷ s) v z
passes_name {ss = ss} {v = v} {s = s} {z = z} trace =
    let (x, form, taken, told, rest, behind) = passes_leaf build.Name (by_name (λ y. form_is.Name y)) refl refl refl refl trace in
    let (y, is, its) = name_told (read_as x) x form told in
    (y, subst (λ q. takes (terminal_number terminal.Id) (number (entire q)) ≡ All) is taken, rest, subst (λ f. Trace ss rest (made (tree f nowhere []) ∷ s) v z) its behind)

pub passes_number : {ss : List Symbol} {w v : List Tok} {s z : Pile} → Trace (action_symbol build.Number ∷ kind_symbol terminal.Number ∷ ss) w s v z
    → (n : ℕ) × (rest : List Tok) × Trace ss rest (made (numeral n) ∷ s) v z
passes_number {ss = ss} {v = v} {s = s} {z = z} trace =
    let (x, form, taken, told, rest, behind) = passes_leaf build.Number (by_number (λ n. form_is.Number n)) refl refl refl refl trace in
    let (n, its) = number_told (read_as x) x form told in
    (n, rest, subst (λ f. Trace ss rest (made (tree f nowhere []) ∷ s) v z) its behind)

pub passes_hook_name : {ss : List Symbol} {w v : List Tok} {s z : Pile} → Trace (action_symbol build.HookName ∷ kind_symbol terminal.Hook ∷ ss) w s v z
    → (h : HookName) × (rest : List Tok) × Trace ss rest (made (hook_name_tree h) ∷ s) v z
passes_hook_name {ss = ss} {v = v} {s = s} {z = z} trace =
    let (x, form, taken, told, rest, behind) = passes_leaf build.HookName (by_hook_name (λ h. form_is.HookName h)) refl refl refl refl trace in
    let (h, kind, its) = hook_name_told (read_as x) (λ h. form_is.HookName h) x form told in
    (h, rest, subst (λ f. Trace ss rest (made (tree f nowhere []) ∷ s) v z) (sym its) behind)

-- Trees that an alternative closes wherever they stand behind a beginning.
abbrev pub Close : List Slot → Form → List Tree → Type 0
Close slots form us = (x q : Telling) (c : Pile) → does (closes slots form) x (pushed us (started q ∷ c)) ≡ Some (made (tree form nowhere us) ∷ c)

pub passes_closes : {n : ℕ} (m : Action) (slots : List Slot) (form : Form) (us : List Tree) (p : Telling) {ss : List Symbol} {w v : List Tok} {s u : Pile}
    → action_with n ≡ Some m → rule m ≡ closes slots form → Trace (symbol.Action n ∷ ss) w (pushed us (started p ∷ s)) v u → Close slots form us × Trace ss w (made (tree form nowhere us) ∷ s) v u
passes_closes m slots form us p {ss = ss} {w = w} {v = v} {s = s} {u = u} is does_so trace =
    let (t, done, rest) = passes_action m is trace in
    let closed_so : closed slots (λ x. Some form) (pushed us (started p ∷ s)) ≡ Some t = subst (λ r. does r (next w) (pushed us (started p ∷ s)) ≡ Some t) does_so done in
    let (its, told, pile, again) = closed_all slots (λ x. Some form) us p s t closed_so in
    let same : its ≡ form = some_equal (sym told) in
    (λ x q c. again q c told ∙ ap (λ f. Some (made (tree f nowhere us) ∷ c)) same, subst (λ z. Trace ss w z v u) (pile ∙ ap (λ f. made (tree f nowhere us) ∷ s) same) rest)

-- nothing is left to pass
pub passes_none : {w v : List Tok} {s t : Pile} → Trace [] w s v t → (w ≡ v) × (t ≡ s)
passes_none ended = (refl, refl)

-- a part that built one tree
pub builds_one : {n came : ℕ} {s t : Pile} (x : Tree) → t ≡ made x ∷ s → is_node x ≡ true → Shows n (one 1) (x ∷ []) came → (ts : List Tree) × (t ≡ pushed ts s) × IsOneNode ts × Shows n (one 1) ts came
builds_one x pile node shows = (x ∷ [], pile, (x, refl, node), shows)

-- a part read, and then what comes behind it
pub beside : {n : ℕ} {ss : List Symbol} {w u v : List Tok} {s t z : Pile} → Goes (symbol.Nonterminal n ∷ []) w s u t → Goes ss u t v z → Goes (symbol.Nonterminal n ∷ ss) w s v z
beside (part p may reads nothing) rest = part p may reads rest

-- an alternative that may stand before anything
pub chosen : (n p : ℕ) → p < length (productions_of own n) → (production_of own n p).avoid ≡ 0 → {w v : List Tok} {s t : Pile} → Goes (right own n p) w s v t → Goes (symbol.Nonterminal n ∷ []) w s v t
chosen n p below free {w} reads = part p (record { below = below; allowed = subst (λ a. bit_at a (ahead (map number w)) ≡ 0) (sym free) (bit_at-zero (ahead (map number w))) }) reads nothing

pub reads_action : {n : ℕ} {ss : List Symbol} {w v : List Tok} {s u : Pile} → Goes (symbol.Action n ∷ ss) w s v u → (t : Pile) × Goes ss w t v u
reads_action (action {t = t} m is done reads) = (t, reads)

pub reads_token : (e : ℕ) {ss : List Symbol} {w v : List Tok} {s t : Pile} → (e == CLOSE) ≡ false → Goes (symbol.Terminal e ∷ ss) w s v t → coming w ≡ e
reads_token e h (whole {x = x} taken reads) = is_token e x h taken
reads_token e h (first_half {x = x} taken reads) = absurd (never_first (e == number (entire x)) (sym (taken_by e (number (entire x)) h) ∙ taken))

pub reads_nothing : {w v : List Tok} {s t : Pile} → Goes [] w s v t → w ≡ v
reads_nothing nothing = refl

-- Trees that are closed wherever they stand behind a beginning at which the token tells this.
abbrev pub CloseBy : {A : Type 0} → List Slot → (Telling → Option A) → (A → Form) → List Tree → A → Type 0
CloseBy slots tell form us a = (q : Telling) (c : Pile) → tell q ≡ Some a → closed slots (λ x. option_map form (tell x)) (pushed us (started q ∷ c)) ≡ Some (made (tree (form a) nowhere us) ∷ c)

closed_by : {A : Type 0} (slots : List Slot) (tell : Telling → Option A) (form : A → Form) (us : List Tree) (p : Telling) (s t : Pile) → closed slots (λ q. option_map form (tell q)) (pushed us (started p ∷ s)) ≡ Some t
    → (a : A) × (t ≡ made (tree (form a) nowhere us) ∷ s) × CloseBy slots tell form us a
closed_by slots tell form us p s t h =
    let (its, told, pile, again) = closed_all slots (λ q. option_map form (tell q)) us p s t h in
    let (a, tells_so, is) = mapped form (tell p) its told in
    (a, pile ∙ ap (λ f. made (tree f nowhere us) ∷ s) (sym is), λ q c also. again q c (ap (λ o. option_map form o) also ∙ ap Some is) ∙ ap (λ f. Some (made (tree f nowhere us) ∷ c)) (sym is))

-- a tree that is closed with what the token tells at which it began
pub passes_told : {A : Type 0} {n : ℕ} (m : Action) (slots : List Slot) (tell : Telling → Option A) (form : A → Form) (us : List Tree) (p : Telling) {ss : List Symbol} {w v : List Tok} {s u : Pile}
    → action_with n ≡ Some m → ((q : Telling) (z : Pile) → does (rule m) q z ≡ closed slots (λ x. option_map form (tell x)) z) → Trace (symbol.Action n ∷ ss) w (pushed us (started p ∷ s)) v u
    → (a : A) × CloseBy slots tell form us a × Trace ss w (made (tree (form a) nowhere us) ∷ s) v u
passes_told m slots tell form us p {ss = ss} {w = w} {v = v} {s = s} {u = u} is does_so trace =
    let (t, done, rest) = passes_action m is trace in
    let (a, pile, again) = closed_by slots tell form us p s t (sym (does_so (next w) (pushed us (started p ∷ s))) ∙ done) in
    (a, again, subst (λ z. Trace ss w z v u) pile rest)

pub passes_wraps : {n : ℕ} (m : Action) (g : Group) (form : Form) (x : Tree) {ss : List Symbol} {w v : List Tok} {s u : Pile} → action_with n ≡ Some m → rule m ≡ wraps g form → Trace (symbol.Action n ∷ ss) w (made x ∷ s) v u
    → Trace ss w (made (tree form nowhere (x ∷ [])) ∷ s) v u
passes_wraps m g form x {ss = ss} {w = w} {v = v} {s = s} {u = u} is does_so trace =
    let (t, done, rest) = passes_action m is trace in
    subst (λ z. Trace ss w z v u) (wrapped g form x s t (next w) (subst (λ r. does r (next w) (made x ∷ s) ≡ Some t) does_so done)).0 rest

-- what may come behind a part behind which no `else` that came before may come
pub unavoided : (n came : ℕ) (v : List Tok) → is_kept n ≡ false → MayFollow n came v → Avoids (avoided n) v
unavoided n came v never (inl free) = free
unavoided n came v never (inr (kept, else_came)) = absurd (let q : false ≡ true = sym never ∙ kept in cc)
