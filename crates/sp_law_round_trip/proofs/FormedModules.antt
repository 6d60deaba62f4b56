-- A module that was read is formed, by what stands on top of the pile from symbol to symbol of the grammar.
use Rattle.std.specs.Prelude.{if◌then◌else◌, ◌==◌, ◌||◌}
use Rattle.std.proofs.Common.{append-nil, ◌≡◌, ℕ, eqb-true, List, [], ◌∷◌, ◌++◌, reverse, Bool, true, false, Option, Some, None, refl, sym, subst, ap, ◌∙◌, rules, tests}
use Rattle.sp_lex.specs.Signs.{word_kind}
use Rattle.sp_lex.specs.declared.kinds.TokenKind.{TokenKind}
use Rattle.sp_lex.specs.declared.kinds.TokenKind.TheVariants as token
use Rattle.sp_parser.specs.declared.symbol.Symbol.{Symbol}
use Rattle.sp_parser.specs.declared.symbol.Symbol.TheVariants as symbol
use Rattle.sp_parser.specs.Grammar.{takes, First, All, SECOND, right, Production}
use Rattle.sp_grammar.specs.declared.actions.Action.{Action}
use Rattle.sp_grammar.specs.declared.actions.Action.TheVariants as build
use Rattle.sp_grammar.specs.declared.terminals.Terminal.TheVariants as terminal
use Rattle.sp_grammar.specs.Actions.{action_with}
use Rattle.sp_grammar.specs.Terminals.{terminal_number}
use Rattle.sp_grammar.specs.Own.{own}
use Rattle.sp_grammar.specs.Written.{Part, part_number, part as part_symbol}
use Rattle.sp_grammar.proofs.Spans.{every_production, one_production}
use Rattle.sp_phrases.specs.Kinds.{number_of, terminal_of}
use Rattle.sp_ast.specs.declared.forms.Form.TheVariants as form_is
use Rattle.sp_ast.specs.declared.forms.ExprForm.TheVariants as expr_is
use Rattle.sp_ast.specs.Trees.{Tree, node, none, trees, tree}
use Rattle.sp_ast.specs.declared.groups.Group.TheVariants.{Names as names, Expressions as expressions, Declarations as declarations}
use Rattle.sp_ast.specs.declared.groups.Sort.TheVariants.{One as one, Rows as rows}
use Rattle.sp_ast.specs.declared.groups.Slot.TheVariants.{Part as part, Several as several}
use Rattle.sp_ast.specs.Groups.{is_of}
use Rattle.sp_build.specs.Rules.{by_name, rule}
use Rattle.sp_build.proofs.Standing.{some_equal, not_some, if_some, then_some}
use Rattle.sp_build.proofs.Shapes.{and_then}
use Rattle.sp_print.specs.Words.{Word, name}
use Rattle.sp_law_printed_words.specs.Sound.{read_as}
use Rattle.sp_law_printed_words.specs.Formed.{is_name, IsId, AreIds, first, IsFormedModule}
use Rattle.sp_law_round_trip.specs.Bare.{nowhere}
use Rattle.sp_law_round_trip.specs.Told.{Telling}
use Rattle.sp_law_round_trip.proofs.Held.{started, made, Pile, After, after, after_do, top, front, start, filled, put, put_if, does, form_told}
use Rattle.sp_law_round_trip.proofs.Goes.{Tok, entire, half, number, next, tells, Goes, nothing, whole, first_half, action, part as read_part}
use Rattle.sp_law_round_trip.proofs.FormedTrees.{Nearly, Good, On, OnSome, OnAfter, AllOf, Fill, Fitting, name_is, top_on, front_on, start_on, then_on, then_after, free_of, formed_of, free_parts, formed_parts, action_suits, RuleSuits, does_on}
use Rattle.sp_law_round_trip.proofs.Steps.{never_first}

-- What stands on top of the pile: anything, a name that is an ID, a name of which the token comes next, a name that may be
-- `skip`, or a module. All else on the pile is formed, and its names are IDs.
data State : Type 0 where
  any named pending loose modular : State

abbrev HasName : Pile → Type 0
HasName (made t ∷ s) = is_name t ≡ true
HasName s = ⊥

abbrev HasModule : Pile → Type 0
HasModule (made (node form_is.Module span ts) ∷ s) = Unit {0}
HasModule s = ⊥

abbrev IsLoose : Pile → Type 0
IsLoose (made t ∷ s) = Nearly t × On s
IsLoose s = ⊥

abbrev IsPending : Word → Pile → Type 0
IsPending w (made (node (form_is.Name x) span none) ∷ s) = (w ≡ name x) × On s
IsPending w s = ⊥

abbrev Means : State → List Tok → Pile → Type 0
Means any w s = On s
Means named w s = On s × HasName s
Means pending w s = IsPending (next w).word s
Means loose w s = IsLoose s
Means modular w s = On s × HasModule s

name_made : (kind : TokenKind) (word : Word) (s t : Pile) → put_if (form_told (by_name (λ x. form_is.Name x)) kind word) s ≡ Some t → On s → IsPending word t
name_made kind (name x) s t e on = subst (IsPending (name x)) (some_equal e) (refl, on)
name_made kind w s t e on = cc

-- one or more IDs make a path
abbrev IsSomeTrees : List Tree → Type 0
IsSomeTrees ts = (u : Tree) × (us : List Tree) × (ts ≡ u ∷ us)

some_by : (b : Bool) (x y : After (List Tree)) → IsSomeTrees x.value → IsSomeTrees y.value → IsSomeTrees (if b then x else y).value
some_by true x y h k = h
some_by false x y h k = k

front_some : (test : Tree → Bool) (s : Pile) (t : Tree) (ts : List Tree) → IsSomeTrees (front test s (t ∷ ts)).value
front_some test [] t ts = (t, ts, refl)
front_some test (started p ∷ s) t ts = (t, ts, refl)
front_some test (made v ∷ s) t ts = some_by (test v) (front test s (v ∷ t ∷ ts)) (after (t ∷ ts) (made v ∷ s)) (front_some test s v (t ∷ ts)) (t, ts, refl)

all_ids : (ts : List Tree) → AllOf names ts → AreIds (trees ts)
all_ids [] all = tt
all_ids (t ∷ ts) all = (all.1.1 (name_is t all.0), all_ids ts all.2)

append_all : (ts : List Tree) → AllOf names ts → AllOf names (ts ++ [])
append_all [] all = tt
append_all (t ∷ ts) all = (all.0, all.1, append_all ts all.2)

first_id : (ts : List Tree) → IsSomeTrees ts → AreIds (trees ts) → IsId (first (trees ts))
first_id [] some ids = let none : [] ≡ some.0 ∷ some.1 = some.2 in cc
first_id (t ∷ ts) some ids = ids.0

abbrev AreNames : List Tree → Type 0
AreNames ts = AllOf names ts × IsSomeTrees ts

path_tree : (ts : List Tree) → AreNames ts → Good (tree form_is.Path nowhere ts)
path_tree ts are =
    let fill : Fill (several names ∷ []) ts = (ts, [], sym (append-nil ts), are.0, tt) in
    (((first_id ts are.1 (all_ids ts are.0), all_ids ts are.0), free_parts (several names ∷ []) ts refl fill, formed_parts (several names ∷ []) ts refl fill), λ e. cc)

path_on : (t : Telling) (n : Tree) (s : Pile) → On (made n ∷ s) → is_name n ≡ true → OnSome (does (rule build.Path) t (made n ∷ s))
path_on t (node (form_is.Name x) span us) s on is =
    let n = node (form_is.Name x) span us in
    let found = front_on names s (n ∷ []) [] on.1 (refl, on.0, tt) in
    let all : AllOf names (front (is_of names) s (n ∷ [])).value = subst (AllOf names) (sym found.1) (append_all found.0 found.2) in
    then_on AreNames (filled (reverse (several names ∷ [])) [] (made n ∷ s)) (λ ts rest. after_do (start rest) (λ p below. put (tree form_is.Path nowhere ts) below)) ((all, front_some (is_of names) s n []), found.3)
    (λ ts rest are on. then_on (λ p. Unit {0}) (start rest) (λ p below. put (tree form_is.Path nowhere ts) below) (start_on rest on) (λ p below any_start on. (path_tree ts are, on)))
path_on t n s on is = cc

path_made : (t : Telling) (s r : Pile) → On s → HasName s → does (rule build.Path) t s ≡ Some r → On r
path_made t (made n ∷ s) r on has e = subst OnSome e (path_on t n s on has)
path_made t (started p ∷ s) r on has e = absurd has
path_made t [] r on has e = absurd has

-- a member of an object
abbrev AreMember : List Tree → Type 0
AreMember (u ∷ n ∷ []) = (is_of expressions u ≡ true) × Good u × (is_of names n ≡ true) × Nearly n
AreMember ts = ⊥

member_tree : (ts : List Tree) → AreMember ts → Good (tree (form_is.Expr expr_is.Member) nowhere ts)
member_tree (u ∷ n ∷ []) are =
    ((name_is n are.2, (free_of expressions u refl are.0, (free_of names n refl are.2, tt)), (formed_of expressions u are.0 are.1.0, (formed_of names n are.2 are.3, tt))), λ e. cc)
member_tree ts are = absurd are

abbrev IsSomeName : Tree → Type 0
IsSomeName t = (is_of names t ≡ true) × Nearly t

name_if : (b : Bool) (t : Tree) (s : Pile) → is_of names t ≡ b → Nearly t → On s → OnAfter IsSomeName (if b then Some (after t s) else None)
name_if true t s e near on = ((e, near), on)
name_if false t s e near on = tt

member_on : (t : Telling) (n : Tree) (s : Pile) → Nearly n → On s → OnSome (does (rule build.Member) t (made n ∷ s))
member_on t n s near on =
    then_on AreMember (filled (reverse (part (one expressions) ∷ part (one names) ∷ [])) [] (made n ∷ s)) (λ ts rest. put (tree (form_is.Expr expr_is.Member) nowhere ts) rest)
    (then_after IsSomeName AreMember (top (one names) (made n ∷ s)) (λ u rest. filled (part (one expressions) ∷ []) (u ∷ []) rest) (name_if (is_of names n) n s refl near on)
    (λ u rest is on. then_after (Fitting (one expressions)) AreMember (top (one expressions) rest) (λ v under. Some (after (v ∷ u ∷ []) under)) (top_on (one expressions) rest on) (λ v under fit on. ((fit.0, fit.1, is.0, is.1), on))))
    (λ ts rest are on. (member_tree ts are, on))

member_made : (t : Telling) (s r : Pile) → IsLoose s → does (rule build.Member) t s ≡ Some r → On r
member_made t (made n ∷ s) r is e = subst OnSome e (member_on t n s is.0 is.1)
member_made t (started p ∷ s) r is e = absurd is
member_made t [] r is e = absurd is

abbrev MakesModule : Option Pile → Type 0
MakesModule None = Unit {0}
MakesModule (Some s) = HasModule s

then_module : {A : Type 0} (o : Option (After A)) (go : A → Pile → Option Pile) → ((x : A) (s : Pile) → MakesModule (go x s)) → MakesModule (after_do o go)
then_module None go h = tt
then_module (Some x) go h = h x.value x.rest

module_made : (t : Telling) (s r : Pile) → does (rule build.ModuleDecl) t s ≡ Some r → HasModule r
module_made t s r e =
    let slots = part (one names) ∷ part (rows declarations) ∷ [] in
    subst MakesModule e (then_module (filled (reverse slots) [] s) (λ ts rest. after_do (start rest) (λ p below. put (tree form_is.Module nowhere ts) below))
    (λ ts rest. then_module (start rest) (λ p below. put (tree form_is.Module nowhere ts) below) (λ p below. tt)))

-- what an action makes of it
abbrev after_action : State → Action → Option State
after_action any build.Name = Some pending
after_action named build.Name = Some pending
after_action any build.Path = None
after_action named build.Path = Some any
after_action any build.ModuleDecl = Some modular
after_action named build.ModuleDecl = Some modular
after_action any m = Some any
after_action named m = Some any
after_action loose build.Member = Some any
after_action st m = None

any_on : (m : Action) (t : Telling) (s r : Pile) → RuleSuits (rule m) → On s → does (rule m) t s ≡ Some r → On r
any_on m t s r suit on e = subst OnSome e (does_on (rule m) suit t s on)

action_any : (m : Action) (st : State) (w : List Tok) (s r : Pile) → after_action any m ≡ Some st → On s → does (rule m) (next w) s ≡ Some r → Means st w r
action_any build.Name st w s r e on d = subst (λ x. Means x w r) (some_equal e) (name_made (next w).kind (next w).word s r d on)
action_any build.Path st w s r e on d = not_some e
action_any build.ModuleDecl st w s r e on d = subst (λ x. Means x w r) (some_equal e) (any_on build.ModuleDecl (next w) s r (action_suits build.ModuleDecl) on d, module_made (next w) s r d)
action_any m st w s r e on d = subst (λ x. Means x w r) (some_equal e) (any_on m (next w) s r (action_suits m) on d)

action_named : (m : Action) (st : State) (w : List Tok) (s r : Pile) → after_action named m ≡ Some st → On s → HasName s → does (rule m) (next w) s ≡ Some r → Means st w r
action_named build.Path st w s r e on has d = subst (λ x. Means x w r) (some_equal e) (path_made (next w) s r on has d)
action_named m st w s r e on has d = action_any m st w s r e on d

action_loose : (m : Action) (st : State) (w : List Tok) (s r : Pile) → after_action loose m ≡ Some st → IsLoose s → does (rule m) (next w) s ≡ Some r → Means st w r
action_loose build.Member st w s r e is d = subst (λ x. Means x w r) (some_equal e) (member_made (next w) s r is d)
action_loose m st w s r e is d = not_some e

action_means : (m : Action) (st st' : State) (w : List Tok) (s r : Pile) → after_action st m ≡ Some st' → Means st w s → does (rule m) (next w) s ≡ Some r → Means st' w r
action_means m any st' w s r e is d = action_any m st' w s r e is d
action_means m named st' w s r e is d = action_named m st' w s r e is.0 is.1 d
action_means m loose st' w s r e is d = action_loose m st' w s r e is d
action_means m pending st' w s r e is d = not_some e
action_means m modular st' w s r e is d = not_some e

-- where the grammar wants an ID, only an ID is taken
abbrev an_id : ℕ
an_id = terminal_number terminal.Id

id_read : (kind : TokenKind) → takes an_id (number_of (terminal_of kind)) ≡ All → kind ≡ token.Id
id_read kind e = search (rules, tests)

-- what a symbol makes of what stands on top of the pile; a part of the grammar wants something there, and leaves something
abbrev after_token : State → ℕ → State
after_token pending e = if e == an_id then named else loose
after_token st e = st

abbrev is_part : Part → ℕ → Bool
is_part p n = part_number p == n

abbrev before_part : ℕ → State
before_part n = if is_part Part.PathTail n || is_part Part.OnPath n || is_part Part.OnName n then named else any

abbrev after_part : ℕ → State
after_part n = if is_part Part.PathTail n then named else (if is_part Part.Member n then loose else (if is_part Part.Module n then modular else any))

-- the first says no less than the second
abbrev covers : State → State → Bool
covers any any = true
covers named named = true
covers named any = true
covers named loose = true
covers loose loose = true
covers modular modular = true
covers modular any = true
covers st st' = false

abbrev after_symbol : State → Symbol → Option State
after_symbol st (symbol.Terminal e) = Some (after_token st e)
after_symbol st (symbol.Action n) = and_then (action_with n) (λ m. after_action st m)
after_symbol st (symbol.Nonterminal n) = if covers st (before_part n) then Some (after_part n) else None

abbrev run : State → List Symbol → Option State
run st [] = Some st
run st (x ∷ ss) = and_then (after_symbol st x) (λ after. run after ss)

abbrev ends_in : Option State → State → Bool
ends_in None st = false
ends_in (Some st') st = covers st' st

-- the productions of a part keep to it
abbrev keeps : ℕ → Production → Bool
keeps n r = ends_in (run (before_part n) r.symbols) (after_part n)

own_keeps : every_production own keeps ≡ true
unfolding own
own_keeps = refl

ended : (o : Option State) (st : State) → ends_in o st ≡ true → (x : State) × (o ≡ Some x) × (covers x st ≡ true)
ended None st e = cc
ended (Some x) st e = (x, refl, e)

named_loose : (s : Pile) → On s → HasName s → IsLoose s
named_loose (made t ∷ s) on has = (on.0.0, on.1)
named_loose (started p ∷ s) on has = absurd has
named_loose [] on has = absurd has

cover_means : (st st' : State) (w : List Tok) (s : Pile) → covers st st' ≡ true → Means st w s → Means st' w s
cover_means any any w s e is = is
cover_means named named w s e is = is
cover_means named any w s e is = is.0
cover_means named loose w s e is = named_loose s is.0 is.1
cover_means loose loose w s e is = is
cover_means modular modular w s e is = is
cover_means modular any w s e is = is.0
cover_means st st' w s e is = cc

-- a token behind a name that was made of it
id_word : (k : ℕ) (x : Tok) (y : List ℕ) → (k == an_id) ≡ true → takes k (number x) ≡ All → (tells x).word ≡ name y → word_kind y ≡ token.Id
id_word k (entire w) y id take is = let kind = id_read (read_as w) (subst (λ n. takes n (number (entire w)) ≡ All) (eqb-true k an_id id) take) in sym (ap read_as is) ∙ kind
id_word k (half w) y id take is = let none : takes an_id SECOND ≡ All = subst (λ n. takes n SECOND ≡ All) (eqb-true k an_id id) take in cc

pending_named : (k : ℕ) (x : Tok) (s : Pile) → (k == an_id) ≡ true → takes k (number x) ≡ All → IsPending (tells x).word s → On s × HasName s
pending_named k x (made (node (form_is.Name y) span none) ∷ s) id take is = ((((tt, tt, tt), λ e. id_word k x y id take is.0), is.1), refl)
pending_named k x s id take is = absurd is

pending_loose : (w : Word) (s : Pile) → IsPending w s → IsLoose s
pending_loose w (made (node (form_is.Name y) span none) ∷ s) is = ((tt, tt, tt), is.1)
pending_loose w s is = absurd is

pending_by : (b : Bool) (k : ℕ) (x : Tok) (w : List Tok) (s : Pile) → (k == an_id) ≡ b → takes k (number x) ≡ All → IsPending (tells x).word s → Means (if b then named else loose) w s
pending_by true k x w s e take is = pending_named k x s e take is
pending_by false k x w s e take is = pending_loose (tells x).word s is

token_means : (st : State) (k : ℕ) (x : Tok) (w : List Tok) (s : Pile) → takes k (number x) ≡ All → Means st (x ∷ w) s → Means (after_token st k) w s
token_means pending k x w s take is = pending_by (k == an_id) k x w s refl take is
token_means any k x w s take is = is
token_means st k x w s take is = is

half_by : (b : Bool) (k : ℕ) (x : Word) (w : List Tok) (s : Pile) → (k == an_id) ≡ b → takes k (number (entire x)) ≡ First → IsPending x s → Means (if b then named else loose) w s
half_by true k x w s e take is = absurd (never_first (an_id == number (entire x)) (subst (λ n. takes n (number (entire x)) ≡ First) (eqb-true k an_id e) take))
half_by false k x w s e take is = pending_loose x s is

half_means : (st : State) (k : ℕ) (x : Word) (w : List Tok) (s : Pile) → takes k (number (entire x)) ≡ First → Means st (entire x ∷ w) s → Means (after_token st k) (half x ∷ w) s
half_means pending k x w s take is = half_by (k == an_id) k x (half x ∷ w) s refl take is
half_means any k x w s take is = is
half_means st k x w s take is = is

goes_on : {ss : List Symbol} {w v : List Tok} {s t : Pile} (st st' : State) → run st ss ≡ Some st' → Means st w s → Goes ss w s v t → Means st' v t
goes_on st st' e is (nothing {w = w} {s = s}) = subst (λ x. Means x w s) (some_equal e) is
goes_on st st' e is (whole {e = k} {x = x} {w = w} {s = s} take rest) = goes_on (after_token st k) st' e (token_means st k x w s take is) rest
goes_on st st' e is (first_half {e = k} {x = x} {w = w} {s = s} take rest) = goes_on (after_token st k) st' e (half_means st k x w s take is) rest
goes_on st st' e is (action {n = n} {ss = ss} {w = w} {s = s} {t = t} m there d rest) =
    let h = then_some (and_then (action_with n) (λ m. after_action st m)) (λ after. run after ss) st' e in
    let g : after_action st m ≡ Some h.0 = subst (λ o. and_then o (λ m. after_action st m) ≡ Some h.0) there h.1 in
    goes_on h.0 st' h.2 (action_means m st h.0 w s t g is d) rest
goes_on st st' e is (read_part {n = n} {ss = ss} {w = w} {u = u} {s = s} {t = t} p applies inner rest) =
    let h = then_some (if covers st (before_part n) then Some (after_part n) else None) (λ after. run after ss) st' e in
    let g = if_some (covers st (before_part n)) (Some (after_part n)) h.0 h.1 in
    let k = ended (run (before_part n) (right own n p)) (after_part n) (one_production own keeps n p own_keeps applies.below) in
    let left = cover_means k.0 (after_part n) u t k.2 (goes_on (before_part n) k.0 k.1 (cover_means st (before_part n) w s g.0 is) inner) in
    goes_on h.0 st' h.2 (subst (λ x. Means x u t) (some_equal g.1) left) rest

module_is : (m : Tree) → On (made m ∷ []) × HasModule (made m ∷ []) → IsFormedModule m
module_is (node form_is.Module span ts) is = is.0.0.0
module_is m is = absurd is.1

-- a module that was read is formed
pub module_formed : {w v : List Tok} (m : Tree) → Goes (part_symbol Part.Module ∷ []) w [] v (made m ∷ []) → IsFormedModule m
module_formed m goes = module_is m (goes_on any modular refl tt goes)
