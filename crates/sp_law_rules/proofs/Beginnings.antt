-- Each tree that the actions of a derivation build begins at a token.
use Rattle.std.specs.Prelude.{◌||◌, ◌==◌, reverse, option_map, if◌then◌else◌, take}
use Rattle.std.proofs.Common.{◌≡◌, ℕ, zero, suc, ◌<◌, ◌≤◌, List, [], ◌∷◌, ◌++◌, length, Bool, true, false, Option, Some, None, refl, ap, sym, ◌∙◌, subst, inl, inr, arith, eq-eqb}
use Rattle.std.proofs.lemmas.Bool.{and_parts, and_from, cases_Bool}
use Rattle.std.proofs.lemmas.List.{append_assoc}
use Rattle.sp_base.specs.declared.places.Span.{Span}
use Rattle.sp_lex.specs.declared.tokens.Token.{Token}
use Rattle.sp_lex.specs.Lexed.{Lexed}
use Rattle.sp_parser.specs.declared.symbol.Symbol.{Symbol}
use Rattle.sp_parser.specs.declared.symbol.ActionAt.{ActionAt}
use Rattle.sp_grammar.specs.declared.actions.Action.{Action}
use Rattle.sp_grammar.specs.Actions.{action_with}
use Rattle.sp_grammar.specs.declared.language.Start.{Start}
use Rattle.sp_grammar.specs.declared.language.Start.TheVariants.{Module}
use Rattle.sp_grammar.specs.Sentences.{IsSentence}
use Rattle.sp_grammar.specs.Language.{language}
use Rattle.sp_grammar.specs.Reads.{Reads, nothing, whole, half, action, part}
use Rattle.sp_grammar.proofs.Sentences.{derived}
use Rattle.sp_grammar.proofs.Spans.{reads_derived}
use Rattle.sp_phrases.specs.Kinds.{numbers_of}
use Rattle.sp_phrases.specs.Runs.{IsPhrase}
use Rattle.sp_phrases.proofs.Longest.{numbers_length}
use Rattle.sp_ast.specs.declared.forms.Form.{Form}
use Rattle.sp_ast.specs.declared.groups.Group.{Group}
use Rattle.sp_ast.specs.declared.groups.Group.TheVariants.{Expressions as expressions}
use Rattle.sp_ast.specs.declared.groups.Sort.{Sort}
use Rattle.sp_ast.specs.declared.groups.Sort.TheVariants.{One as one, Optional as optional, Rows as rows}
use Rattle.sp_ast.specs.declared.groups.Slot.{Slot}
use Rattle.sp_ast.specs.declared.groups.Slot.TheVariants.{Part as a_part, Several as several}
use Rattle.sp_ast.specs.Groups.{is_node, is_of, fits}
use Rattle.sp_ast.specs.Slots.{slots, fill}
use Rattle.sp_ast.specs.Trees.{Tree, absent, row, node, trees, tree, in_row, respan, span_of}
use Rattle.sp_build.specs.Items.{begun, built}
use Rattle.sp_build.specs.Rules.{Rule, begins, leaves_out, takes, gathers, closes, closes_integer, closes_attribute, encloses, joins, wraps, rule}
use Rattle.sp_build.specs.inside.RuleParts.{HasParts}
use Rattle.sp_build.specs.Tokens.{form_of, integer_of, attribute_of}
use Rattle.sp_build.specs.Building.{Stack, Left, left, then_do, popped, gathered, popped_all, opened, parts_of, popped_parts, token_of, stretch, stretch_from, push, push_if, close_with, worded, done_by, acted, with_action, go_on, all_done, IsBuilt}
use Rattle.sp_lex.specs.Readings.{bytes_of}
use Rattle.sp_build.proofs.Standing.{some_equal, not_some, then_some, if_some}
use Rattle.sp_build.proofs.RuleParts.{rules_have_parts, parts_fill}
use Rattle.sp_build.proofs.Told.{never}
use Rattle.sp_read_unit.specs.Modules.{IsModuleTree}
use Rattle.sp_law_rules.specs.Places.{begins_token, begins_at, all_begin_at}
use Rattle.sp_law_rules.proofs.Openings.{Flags, sure, left_sure, IsAt, within, whole_taken, half_taken, begins_with_one, closed, gathered_from, flagged, told, finds, all_true, taken_off, flags, part_kept, start_flags}

-- a token begins where it begins
or_first : (a b : Bool) → a ≡ true → (a || b) ≡ true
or_first true b e = refl
or_first false b e = never e

or_second : (a b : Bool) → b ≡ true → (a || b) ≡ true
or_second true b e = refl
or_second false b e = e

token_begins : (tokens : List Token) (p : ℕ) → p < length tokens → begins_token tokens (token_of tokens p).span.from ≡ true
token_begins [] p h = absurd (omega (arith, h))
token_begins (t ∷ ts) zero h = or_first (t.span.from == t.span.from) (begins_token ts t.span.from) (eq-eqb t.span.from t.span.from refl)
token_begins (t ∷ ts) (suc p) h =
    let at = (token_of ts p).span.from in
    or_second (t.span.from == at) (begins_token ts at) (token_begins ts p (omega (arith, h)))

-- what is done with an answer
then_left : {A B : Type 0} (o : Option (Left A)) (go : A → Stack → Option B) (y : B) → then_do o go ≡ Some y → (x : Left A) × (o ≡ Some x) × (go x.value x.rest ≡ Some y)
then_left None go y e = not_some e
then_left (Some x) go y e = (x, refl, e)

went_on : (o : Option Stack) (go : Stack → Option Stack) (next : Stack) → go_on o go ≡ Some next → (x : Stack) × (o ≡ Some x) × (go x ≡ Some next)
went_on None go next e = not_some e
went_on (Some x) go next e = (x, refl, e)

module _ (tokens : List Token) where
  -- Each tree on a stack begins at a token, and so does each that has begun and of which that is known.
  abbrev Fit : Stack → Flags → Type 0
  Fit [] [] = Unit {0}
  Fit [] (b ∷ bs) = ⊥
  Fit (built t ∷ s) bs = (begins_at tokens t ≡ true) × Fit s bs
  Fit (begun p ∷ s) [] = ⊥
  Fit (begun p ∷ s) (b ∷ bs) = (b ≡ true → p < length tokens) × Fit s bs

  Begin : Tree → Type 0
  Begin t = begins_at tokens t ≡ true

  pushed : (t : Tree) (s next : Stack) (bs : Flags) → push t s ≡ Some next → begins_at tokens t ≡ true → Fit s bs → Fit next bs
  pushed t s next bs e begin fit = subst (λ z. Fit z bs) (some_equal e) (begin, fit)

  node_begins : (g : Group) (t : Tree) → is_of g t ≡ true → begins_at tokens t ≡ true → begins_token tokens (span_of t).from ≡ true
  node_begins g absent e b = never e
  node_begins g (row ts) e b = never e
  node_begins g (node form span ts) e b = (and_parts (begins_token tokens span.from) (all_begin_at tokens ts) b).0

  popped_fit : (sort : Sort) (s : Stack) (bs : Flags) (x : Left Tree) → popped sort s ≡ Some x → Fit s bs → (begins_at tokens x.value ≡ true) × Fit x.rest bs × (fits sort x.value ≡ true)
  popped_fit sort [] bs x e fit = not_some e
  popped_fit sort (begun p ∷ s) bs x e fit = not_some e
  popped_fit sort (built t ∷ s) bs x e fit =
      let c = if_some (fits sort t) (Some (left t s)) x e in
      subst (λ (z : Left Tree). (begins_at tokens z.value ≡ true) × Fit z.rest bs × (fits sort z.value ≡ true)) (some_equal c.1) (fit.0, fit.1, c.0)

  opened_fit : (s : Stack) (bs cs : Flags) (x : Left ℕ) → opened s ≡ Some x → closed bs ≡ Some cs → Fit s bs → (x.value < length tokens) × Fit x.rest cs
  opened_fit [] bs cs x e q fit = not_some e
  opened_fit (built t ∷ s) bs cs x e q fit = not_some e
  opened_fit (begun p ∷ s) [] cs x e q fit = absurd fit
  opened_fit (begun p ∷ s) (false ∷ bs) cs x e q fit = not_some q
  opened_fit (begun p ∷ s) (true ∷ bs) cs x e q fit =
      subst (λ (z : Left ℕ). (z.value < length tokens) × Fit z.rest cs) (some_equal e) (fit.0 refl, subst (Fit s) (some_equal q) fit.1)

  row_fit : (s : Stack) (bs cs : Flags) (x : Left ℕ) → opened s ≡ Some x → gathered_from bs ≡ Some cs → Fit s bs → Fit x.rest cs
  row_fit [] bs cs x e q fit = not_some e
  row_fit (built t ∷ s) bs cs x e q fit = not_some e
  row_fit (begun p ∷ s) [] cs x e q fit = absurd fit
  row_fit (begun p ∷ s) (b ∷ bs) cs x e q fit = subst (λ (z : Left ℕ). Fit z.rest cs) (some_equal e) (subst (Fit s) (some_equal q) fit.1)

  gathered_fit : (test : Tree → Bool) (s : Stack) (bs : Flags) (ts : List Tree) → Fit s bs → all_begin_at tokens (trees ts) ≡ true → (all_begin_at tokens (trees (gathered test s ts).value) ≡ true) × Fit (gathered test s ts).rest bs
  gathered_fit test [] bs ts fit all = (all, fit)
  gathered_fit test (begun p ∷ s) bs ts fit all = (all, fit)
  gathered_fit test (built t ∷ s) bs ts fit all = elim (cases_Bool (test t)) [
    | inl y ↦ rw y (gathered_fit test s bs (t ∷ ts) fit.1 (and_from (begins_at tokens t) (all_begin_at tokens (trees ts)) fit.0 all))
    | inr n ↦ rw n (all, fit)
  ]

  parts_fit : (asked : List Slot) (ts : List Tree) (s : Stack) (bs : Flags) (x : Left (List Tree)) → parts_of asked ts s ≡ Some x → Fit s bs → all_begin_at tokens (trees ts) ≡ true → (all_begin_at tokens (trees x.value) ≡ true) × Fit x.rest bs
  parts_fit [] ts s bs x e fit all = subst (λ (z : Left (List Tree)). (all_begin_at tokens (trees z.value) ≡ true) × Fit z.rest bs) (some_equal e) (all, fit)
  parts_fit (a_part sort ∷ asked) ts s bs x e fit all =
      let a = then_left (popped sort s) (λ (t : Tree) (rest : Stack). parts_of asked (t ∷ ts) rest) x e in
      let p = popped_fit sort s bs a.0 a.1 fit in
      parts_fit asked (a.0.value ∷ ts) a.0.rest bs x a.2 p.1 (and_from (begins_at tokens a.0.value) (all_begin_at tokens (trees ts)) p.0 all)
  parts_fit (several g ∷ asked) ts s bs x e fit all =
      let f = gathered_fit (is_of g) s bs ts fit all in
      parts_fit asked (gathered (is_of g) s ts).value (gathered (is_of g) s ts).rest bs x e f.1 f.0

  -- a tree of parts, from where it has begun
  tree_begins : (form : Form) (span : Span) (ts : List Tree) → begins_token tokens span.from ≡ true → all_begin_at tokens (trees ts) ≡ true → begins_at tokens (tree form span ts) ≡ true
  tree_begins form span ts b all = and_from (begins_token tokens span.from) (all_begin_at tokens (trees ts)) b all

  closed_fit : (asked : List Slot) (s next : Stack) (bs cs : Flags) (go : ℕ → List Tree → Stack → Option Stack) → close_with asked s go ≡ Some next → closed bs ≡ Some cs → Fit s bs
      → ((p : ℕ) (ts : List Tree) (below : Stack) → p < length tokens → all_begin_at tokens (trees ts) ≡ true → Fit below cs → go p ts below ≡ Some next → Fit next cs) → Fit next cs
  closed_fit asked s next bs cs go e q fit each =
      let a = then_left (popped_parts asked s) (λ (ts : List Tree) (rest : Stack). then_do (opened rest) (λ (p : ℕ) (below : Stack). go p ts below)) next e in
      let b = then_left (opened a.0.rest) (λ (p : ℕ) (below : Stack). go p a.0.value below) next a.2 in
      let f = parts_fit (reverse asked) [] s bs a.0 a.1 fit refl in
      let o = opened_fit a.0.rest bs cs b.0 b.1 q f.1 in
      each b.0.value a.0.value b.0.rest o.0 f.0 o.1 b.2

  worded_fit : {A : Type 0} (o : Option A) (form : A → Form) (span : Span) (ts : List Tree) (s next : Stack) (cs : Flags) → worded o form span ts s ≡ Some next → begins_token tokens span.from ≡ true → all_begin_at tokens (trees ts) ≡ true → Fit s cs → Fit next cs
  worded_fit None form span ts s next cs e b all fit = not_some e
  worded_fit (Some x) form span ts s next cs e b all fit = pushed (tree (form x) span ts) s next cs e (tree_begins (form x) span ts b all) fit

  leaf_fit : (o : Option Form) (span : Span) (s next : Stack) (bs : Flags) → push_if (option_map (λ form. tree form span []) o) s ≡ Some next → begins_token tokens span.from ≡ true → Fit s bs → Fit next bs
  leaf_fit None span s next bs e b fit = not_some e
  leaf_fit (Some form) span s next bs e b fit = pushed (tree form span []) s next bs e (tree_begins form span [] b refl) fit

  respan_begins : (span : Span) (t : Tree) → begins_token tokens span.from ≡ true → begins_at tokens t ≡ true → begins_at tokens (respan span t) ≡ true
  respan_begins span absent b e = e
  respan_begins span (row ts) b e = e
  respan_begins span (node form old ts) b e = and_from (begins_token tokens span.from) (all_begin_at tokens ts) b (and_parts (begins_token tokens old.from) (all_begin_at tokens ts) e).1

  -- what begins with its first part
  first_begins : (asked : List Slot) (ts : List Tree) (n : ℕ) → begins_with_one asked ≡ true → fill asked (trees ts) ≡ true → all_begin_at tokens (trees ts) ≡ true → begins_token tokens (stretch_from tokens ts n).from ≡ true
  first_begins [] ts n h f all = never h
  first_begins (several g ∷ asked) ts n h f all = never h
  first_begins (a_part (optional g) ∷ asked) ts n h f all = never h
  first_begins (a_part (rows g) ∷ asked) ts n h f all = never h
  first_begins (a_part (one g) ∷ asked) [] n h f all = never f
  first_begins (a_part (one g) ∷ asked) (t ∷ ts) n h f all =
      node_begins g t (and_parts (is_of g t) (fill asked (trees ts)) f).0 (and_parts (begins_at tokens t) (all_begin_at tokens (trees ts)) all).0

  done_fit : (r : Rule) (text : List ℕ) (n : ℕ) (s next : Stack) (ahead : Bool) (bs cs : Flags) → HasParts r → done_by r text tokens n s ≡ Some next → flagged r ahead bs ≡ Some cs → (ahead ≡ true → n < length tokens) → Fit s bs → Fit next cs
  done_fit begins text n s next ahead bs cs has e q h fit =
      subst (λ (z : Flags). Fit next z) (some_equal q) (subst (λ (z : Stack). Fit z (ahead ∷ bs)) (some_equal e) (h, fit))
  done_fit leaves_out text n s next ahead bs cs has e q h fit = pushed absent s next cs e refl (subst (Fit s) (some_equal q) fit)
  done_fit (takes l) text n s next ahead bs cs has e q h fit =
      let c = if_some ahead (Some bs) cs q in
      leaf_fit (form_of l (token_of tokens n).kind (bytes_of text (token_of tokens n))) (token_of tokens n).span s next cs e (token_begins tokens n (h c.0)) (subst (Fit s) (some_equal c.1) fit)
  done_fit gathers text n s next ahead bs cs has e q h fit =
      let found = popped_all s in
      let f = gathered_fit is_node s bs [] fit refl in
      let a = then_left (opened found.rest) (λ (p : ℕ) (below : Stack). push (in_row found.value) below) next e in
      pushed (in_row found.value) a.0.rest next cs a.2 f.0 (row_fit found.rest bs cs a.0 a.1 q f.1)
  done_fit (closes asked form) text n s next ahead bs cs has e q h fit =
      closed_fit asked s next bs cs (λ p ts below. push (tree form (stretch tokens p n) ts) below) e q fit
      (λ p ts below lt all under g. pushed (tree form (stretch tokens p n) ts) below next cs g (tree_begins form (stretch tokens p n) ts (token_begins tokens p lt) all) under)
  done_fit (closes_integer asked form) text n s next ahead bs cs has e q h fit =
      closed_fit asked s next bs cs (λ p ts below. worded (integer_of (token_of tokens p).kind) form (stretch tokens p n) ts below) e q fit
      (λ p ts below lt all under g. worded_fit (integer_of (token_of tokens p).kind) form (stretch tokens p n) ts below next cs g (token_begins tokens p lt) all under)
  done_fit (closes_attribute asked form) text n s next ahead bs cs has e q h fit =
      closed_fit asked s next bs cs (λ p ts below. worded (attribute_of (token_of tokens p).kind) form (stretch tokens p n) ts below) e q fit
      (λ p ts below lt all under g. worded_fit (attribute_of (token_of tokens p).kind) form (stretch tokens p n) ts below next cs g (token_begins tokens p lt) all under)
  done_fit encloses text n s next ahead bs cs has e q h fit =
      let a = then_left (popped (one expressions) s) (λ (t : Tree) (rest : Stack). then_do (opened rest) (λ (p : ℕ) (below : Stack). push (respan (stretch tokens p n) t) below)) next e in
      let f = popped_fit (one expressions) s bs a.0 a.1 fit in
      let b = then_left (opened a.0.rest) (λ (p : ℕ) (below : Stack). push (respan (stretch tokens p n) a.0.value) below) next a.2 in
      let o = opened_fit a.0.rest bs cs b.0 b.1 q f.1 in
      pushed (respan (stretch tokens b.0.value n) a.0.value) b.0.rest next cs b.2 (respan_begins (stretch tokens b.0.value n) a.0.value (token_begins tokens b.0.value o.0) f.0) o.1
  done_fit (joins asked form) text n s next ahead bs cs has e q h fit =
      let c = if_some (begins_with_one asked) (Some bs) cs q in
      let a = then_left (popped_parts asked s) (λ (ts : List Tree) (rest : Stack). push (tree form (stretch_from tokens ts n) ts) rest) next e in
      let f = parts_fit (reverse asked) [] s bs a.0 a.1 fit refl in
      let filled : fill asked (trees a.0.value) ≡ true = ap (λ (l : List Slot). fill l (trees a.0.value)) (sym has) ∙ parts_fill form asked a.0.value s a.0.rest has a.1 in
      pushed (tree form (stretch_from tokens a.0.value n) a.0.value) a.0.rest next cs a.2 (tree_begins form (stretch_from tokens a.0.value n) a.0.value (first_begins asked a.0.value n c.0 filled f.0) f.0) (subst (Fit a.0.rest) (some_equal c.1) f.1)
  done_fit (wraps g form) text n s next ahead bs cs has e q h fit =
      let a = then_left (popped (one g) s) (λ (t : Tree) (rest : Stack). push (tree form (span_of t) (t ∷ [])) rest) next e in
      let f = popped_fit (one g) s bs a.0 a.1 fit in
      pushed (tree form (span_of a.0.value) (a.0.value ∷ [])) a.0.rest next cs a.2 (tree_begins form (span_of a.0.value) (a.0.value ∷ []) (node_begins g a.0.value f.2 f.0) (and_from (begins_at tokens a.0.value) true f.0 refl)) (subst (Fit a.0.rest) (some_equal q) f.1)

  acted_fit : (o : Option Action) (text : List ℕ) (n : ℕ) (s next : Stack) (ahead : Bool) (bs cs : Flags) → with_action o (λ m. acted m text tokens n s) ≡ Some next → told o ahead bs ≡ Some cs → (ahead ≡ true → n < length tokens) → Fit s bs → Fit next cs
  acted_fit None text n s next ahead bs cs e q h fit = not_some e
  acted_fit (Some m) text n s next ahead bs cs e q h fit = done_fit (rule m) text n s next ahead bs cs (rules_have_parts m) e q h fit

-- what stands below changes nothing
abbrev with_base : Flags → Option Flags → Option Flags
with_base base o = option_map (λ bs. bs ++ base) o

closed_over : (base bs cs : Flags) → closed bs ≡ Some cs → closed (bs ++ base) ≡ Some (cs ++ base)
closed_over base [] cs q = not_some q
closed_over base (true ∷ bs) cs q = ap (with_base base) q
closed_over base (false ∷ bs) cs q = not_some q

gathered_over : (base bs cs : Flags) → gathered_from bs ≡ Some cs → gathered_from (bs ++ base) ≡ Some (cs ++ base)
gathered_over base [] cs q = not_some q
gathered_over base (b ∷ bs) cs q = ap (with_base base) q

if_over : (base bs cs : Flags) (c : Bool) → (if c then Some bs else None) ≡ Some cs → (if c then Some (bs ++ base) else None) ≡ Some (cs ++ base)
if_over base bs cs true q = ap (with_base base) q
if_over base bs cs false q = not_some q

rule_over : (r : Rule) (ahead : Bool) (base bs cs : Flags) → flagged r ahead bs ≡ Some cs → flagged r ahead (bs ++ base) ≡ Some (cs ++ base)
rule_over begins ahead base bs cs q = ap (with_base base) q
rule_over leaves_out ahead base bs cs q = ap (with_base base) q
rule_over (takes l) ahead base bs cs q = if_over base bs cs ahead q
rule_over gathers ahead base bs cs q = gathered_over base bs cs q
rule_over (closes slots form) ahead base bs cs q = closed_over base bs cs q
rule_over (closes_integer slots form) ahead base bs cs q = closed_over base bs cs q
rule_over (closes_attribute slots form) ahead base bs cs q = closed_over base bs cs q
rule_over encloses ahead base bs cs q = closed_over base bs cs q
rule_over (joins slots form) ahead base bs cs q = if_over base bs cs (begins_with_one slots) q
rule_over (wraps g form) ahead base bs cs q = ap (with_base base) q

told_over : (o : Option Action) (ahead : Bool) (base bs cs : Flags) → told o ahead bs ≡ Some cs → told o ahead (bs ++ base) ≡ Some (cs ++ base)
told_over None ahead base bs cs q = not_some q
told_over (Some m) ahead base bs cs q = rule_over (rule m) ahead base bs cs q

taken_is : (n : ℕ) (bs rest : Flags) → taken_off n bs ≡ Some rest → bs ≡ all_true n ++ rest
taken_is zero bs rest q = some_equal q
taken_is (suc n) [] rest q = not_some q
taken_is (suc n) (true ∷ bs) rest q = ap (λ (z : Flags). true ∷ z) (taken_is n bs rest q)
taken_is (suc n) (false ∷ bs) rest q = not_some q

-- The actions that are passed between two places leave trees that begin at tokens.
record Passes (text : List ℕ) (tokens : List Token) (us : List ℕ) (final : Stack) (j : ℕ) (v : List ℕ) (τ : List ActionAt) (cs : Flags) : Type 0 where
  next : Stack
  at : IsAt us j v
  does : all_done text tokens τ next ≡ Some final
  fit : Fit tokens next cs

module _ (text : List ℕ) (tokens : List Token) (us : List ℕ) (final : Stack) (few : length us ≤ length tokens) where
  passes : {ss : List Symbol} {i j : ℕ} {w v : List ℕ} {ρ τ : List ActionAt} → Reads language ss i w ρ j v τ → (base bs cs : Flags) (s : Stack) → flags ss bs ≡ Some cs → IsAt us i w → all_done text tokens ρ s ≡ Some final → Fit tokens s (bs ++ base)
      → Passes text tokens us final j v τ (cs ++ base)
  passes nothing base bs cs s q a e fit = record { next = s; at = a; does = e; fit = subst (λ (z : Flags). Fit tokens s (z ++ base)) (some_equal q) fit }
  passes (whole {i = i} {k = k} {w = w} t r) base bs cs s q a e fit = passes r base bs cs s q (whole_taken us i k w a) e fit
  passes (half {i = i} {k = k} {w = w} t r) base bs cs s q a e fit = passes r base bs cs s q (half_taken us i k w a) e fit
  passes (action {i = i} {m = n} {ss = ss} {w = w} {ρ = ρ} r) base bs cs s q a e fit =
      let c = then_some (told (action_with n) (sure ss) bs) (λ next. flags ss next) cs q in
      let d = went_on (with_action (action_with n) (λ m. acted m text tokens i s)) (λ (next : Stack). all_done text tokens ρ next) final e in
      let there : sure ss ≡ true → i < length tokens = λ h. (let l : i < length us = within us i w a (left_sure r h) in omega (arith, l, few)) in
      passes r base c.0 cs d.0 c.2 a d.2 (acted_fit tokens (action_with n) text i s d.0 (sure ss) (bs ++ base) (c.0 ++ base) d.1 (told_over (action_with n) (sure ss) base bs c.0 c.1) there fit)
  passes (part {n = n} {ss = ss} p b r r') base bs cs s q a e fit =
      let c = then_some (taken_off (finds n) bs) (λ rest. flags ss rest) cs q in
      let is : bs ++ base ≡ all_true (finds n) ++ (c.0 ++ base) = ap (λ (z : Flags). z ++ base) (taken_is (finds n) bs c.0 c.1) ∙ append_assoc (all_true (finds n)) c.0 base in
      let inner = passes r (c.0 ++ base) (all_true (finds n)) [] s (part_kept n p b.below) a e (subst (Fit tokens s) is fit) in
      passes r' base c.0 cs inner.next c.2 inner.at inner.does inner.fit

one_left : (t : Tree) (s : Stack) → Some s ≡ Some (built t ∷ []) → s ≡ built t ∷ []
one_left t s e = some_equal e

sentence_begins : (start : Start) (text : List ℕ) (tokens : List Token) (us : List ℕ) (actions : List ActionAt) (t : Tree) → length us ≤ length tokens → IsSentence start us actions → IsBuilt text tokens actions t → begins_at tokens t ≡ true
sentence_begins start text tokens us actions t few d e =
    let r = reads_derived (derived start us actions d) in
    let p = passes text tokens us (built t ∷ []) few r.1 [] [] [] [] (start_flags start) (inl refl) e tt in
    (subst (λ (z : Stack). Fit tokens z []) (one_left t p.next p.does) p.fit).0

take_few : (m : ℕ) (us : List ℕ) → length (take m us) ≤ length us
take_few zero us = omega arith
take_few (suc m) [] = omega arith
take_few (suc m) (u ∷ us) = let l : length (take m us) ≤ length us = take_few m us in omega (arith, l)

pub trees_begin : (start : Start) (text : List ℕ) (tokens : List Token) (m : ℕ) (actions : List ActionAt) (t : Tree) → IsPhrase start tokens m actions → IsBuilt text tokens actions t → begins_at tokens t ≡ true
trees_begin start text tokens m actions t d e =
    let us = numbers_of tokens in
    let short : length (take m us) ≤ length us = take_few m us in
    let same : length us ≡ length tokens = numbers_length tokens in
    sentence_begins start text tokens (take m us) actions t (omega (arith, short, same)) d e

pub modules_begin : (lexed : Lexed) (t : Tree) → IsModuleTree lexed t → begins_at lexed.list t ≡ true
modules_begin lexed t (actions, d, e, of) =
    let us = numbers_of lexed.list in
    let same : length us ≡ length lexed.list = numbers_length lexed.list in
    sentence_begins Module lexed.text lexed.list us actions t (omega (arith, same)) d e
