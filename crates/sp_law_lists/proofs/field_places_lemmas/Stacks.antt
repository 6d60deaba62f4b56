-- What stands on the stack while a module is built has its places in the order of the text.
use Rattle.std.specs.Prelude.{Bool, true, false, if◌then◌else◌, reverse, option_map}
use Rattle.std.proofs.Common.{ℕ, ◌≡◌, ◌≤◌, ◌<◌, suc, refl, sym, subst, ◌∙◌, arith, List, [], ◌∷◌, length, Option, Some, None, inl, inr}
use Rattle.std.proofs.lemmas.Bool.{cases_Bool}
use Rattle.std.proofs.lemmas.List.{append-nil}
use Rattle.sp_base.specs.declared.places.Span.{Span}
use Rattle.sp_words.specs.declared.words.IntWord.{IntWord}
use Rattle.sp_words.specs.declared.words.AttributeName.{AttributeName}
use Rattle.sp_lex.specs.Readings.{InOrder, bytes_of}
use Rattle.sp_lex.specs.declared.tokens.Token.{Token}
use Rattle.sp_grammar.specs.declared.actions.Action.{Action}
use Rattle.sp_grammar.specs.declared.actions.Action.TheVariants as build
use Rattle.sp_ast.specs.declared.forms.Form.{Form}
use Rattle.sp_ast.specs.declared.forms.Form.TheVariants as form_is
use Rattle.sp_ast.specs.declared.groups.Sort.{Sort}
use Rattle.sp_ast.specs.declared.groups.Sort.TheVariants.{One as one}
use Rattle.sp_ast.specs.declared.groups.Group.TheVariants.{Expressions as expressions}
use Rattle.sp_ast.specs.declared.groups.Slot.{Slot}
use Rattle.sp_ast.specs.declared.groups.Slot.TheVariants.{Part as part, Several as several}
use Rattle.sp_ast.specs.Groups.{is_node, is_of, fits}
use Rattle.sp_ast.specs.Trees.{Tree, absent, row, node, more, none, trees, tree, in_row, respan, span_of}
use Rattle.sp_build.specs.Items.{begun, built}
use Rattle.sp_build.specs.Rules.{Rule, begins, leaves_out, takes, gathers, closes, closes_integer, closes_attribute, encloses, joins, wraps, rule}
use Rattle.sp_build.specs.Tokens.{form_of, integer_of, attribute_of}
use Rattle.sp_build.specs.Building.{Stack, Left, left, then_do, popped, gathered, popped_all, opened, parts_of, popped_parts, token_of, end_before, stretch, stretch_from, push, push_if, close_with, worded, done_by}
use Rattle.sp_build.proofs.Standing.{some_equal, not_some}
use Rattle.sp_build.proofs.Told.{never}
use Rattle.sp_law_lists.proofs.field_places_lemmas.Rising.{Rises, rises_from, rises_to, rises_both}
use Rattle.sp_law_lists.proofs.field_places_lemmas.Order.{token_placed, ends_later}
use Rattle.sp_law_lists.proofs.field_places_lemmas.Places.{places, places_among, AllRise, EachRises, is_name, is_field, is_plain, plain_places, leaf_places, closed_places}

-- The trees that have begun did so before the token k, and the places of all stand in order below a bound.
abbrev pub Holds : List Token → ℕ → ℕ → Stack → Type 0
Holds tokens k high [] = Unit {0}
Holds tokens k high (begun p ∷ s) = (p < k) × (end_before tokens p ≤ high) × Holds tokens k (end_before tokens p) s
Holds tokens k high (built t ∷ s) = (low : ℕ) × (Rises low (places t) high × AllRise t) × Holds tokens k low s

pub raised : (tokens : List Token) (k l high higher : ℕ) (s : Stack) → k ≤ l → high ≤ higher → Holds tokens k high s → Holds tokens l higher s
raised tokens k l high higher [] wide up h = tt
raised tokens k l high higher (begun p ∷ s) wide up h =
    let a = h.0 in
    let b = h.1 in
    (omega (arith, wide, a), omega (arith, up, b), raised tokens k l (end_before tokens p) (end_before tokens p) s wide (let z : end_before tokens p ≤ end_before tokens p = omega arith in z) h.2)
raised tokens k l high higher (built t ∷ s) wide up h = (h.0, (rises_to h.0 (places t) high higher up h.1.0, h.1.1), raised tokens k l h.0 h.0 s wide (let z : h.0 ≤ h.0 = omega arith in z) h.2)

-- what is done with an answer
then_some : {A B : Type 0} (o : Option (Left A)) (go : A → Stack → Option B) (y : B) → then_do o go ≡ Some y → (x : Left A) × (o ≡ Some x) × (go x.value x.rest ≡ Some y)
then_some None go y e = not_some e
then_some (Some x) go y e = (x, refl, e)

module _ (tokens : List Token) (k : ℕ) where
  -- places, in whose trees all rise, and what stands below them
  record Above (ns : List ℕ) (All : Type 0) (high : ℕ) (s : Stack) : Type 0 where
    low : ℕ
    rises : Rises low ns high
    all : All
    holds : Holds tokens k low s

  abbrev Beneath : List Tree → ℕ → Stack → Type 0
  Beneath ts high s = Above (places_among (trees ts)) (EachRises (trees ts)) high s

  nothing_more : (high top : ℕ) (ts : List Tree) (s : Stack) → Holds tokens k high s → Rises high (places_among (trees ts)) top → EachRises (trees ts) → Beneath ts top s
  nothing_more high top ts s h r all = record { low = high; rises = r; all = all; holds = h }

  popped_holds : (high : ℕ) (sort : Sort) (s : Stack) (x : Left Tree) → popped sort s ≡ Some x → Holds tokens k high s → Above (places x.value) (AllRise x.value) high x.rest × (fits sort x.value ≡ true)
  popped_holds high sort [] x e h = not_some e
  popped_holds high sort (begun p ∷ s) x e h = not_some e
  popped_holds high sort (built t ∷ s) x e h = elim (cases_Bool (fits sort t)) [
    | inl y ↦
        let same : left t s ≡ x = some_equal (rw y at e) in
        subst (λ (z : Left Tree). Above (places z.value) (AllRise z.value) high z.rest × (fits sort z.value ≡ true)) same (record { low = h.0; rises = h.1.0; all = h.1.1; holds = h.2 }, y)
    | inr n ↦ not_some (rw n at e)
  ]

  gathered_holds : (test : Tree → Bool) (s : Stack) (ts : List Tree) (high top : ℕ) → Holds tokens k high s → Rises high (places_among (trees ts)) top → EachRises (trees ts) → Beneath (gathered test s ts).value top (gathered test s ts).rest
  gathered_holds test [] ts high top h r all = nothing_more high top ts [] h r all
  gathered_holds test (begun p ∷ s) ts high top h r all = nothing_more high top ts (begun p ∷ s) h r all
  gathered_holds test (built t ∷ s) ts high top h r all = elim (cases_Bool (test t)) [
    | inl y ↦ rw y (gathered_holds test s (t ∷ ts) h.0 top h.2 (rises_both h.0 high top (places t) (places_among (trees ts)) h.1.0 r) (h.1.1, all))
    | inr n ↦ rw n (nothing_more high top ts (built t ∷ s) h r all)
  ]

  parts_hold : (asked : List Slot) (ts : List Tree) (s : Stack) (x : Left (List Tree)) (high top : ℕ) → parts_of asked ts s ≡ Some x → Holds tokens k high s → Rises high (places_among (trees ts)) top → EachRises (trees ts) → Beneath x.value top x.rest
  parts_hold [] ts s x high top e h r all = subst (λ (z : Left (List Tree)). Beneath z.value top z.rest) (some_equal e) (nothing_more high top ts s h r all)
  parts_hold (part sort ∷ asked) ts s x high top e h r all =
      let a = then_some (popped sort s) (λ (t : Tree) (rest : Stack). parts_of asked (t ∷ ts) rest) x e in
      let p = (popped_holds high sort s a.0 a.1 h).0 in
      parts_hold asked (a.0.value ∷ ts) a.0.rest x p.low top a.2 p.holds (rises_both p.low high top (places a.0.value) (places_among (trees ts)) p.rises r) (p.all, all)
  parts_hold (several g ∷ asked) ts s x high top e h r all =
      let f = gathered_holds (is_of g) s ts high top h r all in
      parts_hold asked (gathered (is_of g) s ts).value (gathered (is_of g) s ts).rest x f.low top e f.holds f.rises f.all

  -- the parts of a tree, with nothing behind them
  whole_holds : (asked : List Slot) (s : Stack) (x : Left (List Tree)) (high : ℕ) → popped_parts asked s ≡ Some x → Holds tokens k high s → Beneath x.value high x.rest
  whole_holds asked s x high e h = parts_hold (reverse asked) [] s x high high e h (let z : high ≤ high = omega arith in z) tt

  record Opened (high : ℕ) (x : Left ℕ) : Type 0 where
    earlier : x.value < k
    below : end_before tokens x.value ≤ high
    holds : Holds tokens k (end_before tokens x.value) x.rest

  opened_holds : (high : ℕ) (s : Stack) (x : Left ℕ) → opened s ≡ Some x → Holds tokens k high s → Opened high x
  opened_holds high [] x e h = not_some e
  opened_holds high (begun p ∷ s) x e h = subst (Opened high) (some_equal e) (record { earlier = h.0; below = h.1; holds = h.2 })
  opened_holds high (built t ∷ s) x e h = not_some e

  pushed : (t : Tree) (s next : Stack) (low high : ℕ) → push t s ≡ Some next → Rises low (places t) high → AllRise t → Holds tokens k low s → Holds tokens k high next
  pushed t s next low high e r all h = subst (Holds tokens k high) (some_equal e) (low, (r, all), h)

  -- a tree that is closed, since it began
  closed_holds : (asked : List Slot) (s next : Stack) (high : ℕ) (go : ℕ → List Tree → Stack → Option Stack) → close_with asked s go ≡ Some next → Holds tokens k high s
      → ((p : ℕ) (ts : List Tree) (below : Stack) → p < k → Rises (end_before tokens p) (places_among (trees ts)) high → EachRises (trees ts) → Holds tokens k (end_before tokens p) below → go p ts below ≡ Some next → Holds tokens k high next) → Holds tokens k high next
  closed_holds asked s next high go e h each =
      let a = then_some (popped_parts asked s) (λ (ts : List Tree) (rest : Stack). then_do (opened rest) (λ (p : ℕ) (below : Stack). go p ts below)) next e in
      let b = then_some (opened a.0.rest) (λ (p : ℕ) (below : Stack). go p a.0.value below) next a.2 in
      let f = whole_holds asked s a.0 high a.1 h in
      let o = opened_holds f.low a.0.rest b.0 b.1 f.holds in
      each b.0.value a.0.value b.0.rest o.earlier (rises_from (end_before tokens b.0.value) f.low (places_among (trees a.0.value)) high o.below f.rises) f.all o.holds b.2

  worded_holds : {A : Type 0} (o : Option A) (form : A → Form) (span : Span) (ts : List Tree) (s next : Stack) (low high : ℕ) → worded o form span ts s ≡ Some next → ((x : A) → is_plain (form x) ≡ true) → Rises low (places_among (trees ts)) high → EachRises (trees ts) → Holds tokens k low s → Holds tokens k high next
  worded_holds None form span ts s next low high e plain r all h = not_some e
  worded_holds (Some x) form span ts s next low high e plain r all h =
      pushed (tree (form x) span ts) s next low high e (subst (λ ns. Rises low ns high) (sym (plain_places (form x) span (trees ts) (plain x))) r) ((low, high, r), all) h

  -- a tree of the next token
  leaf_holds : (o : Option Form) (span : Span) (s next : Stack) (low high : ℕ) → push_if (option_map (λ form. tree form span []) o) s ≡ Some next → low ≤ span.from → span.from < high → Holds tokens k low s → Holds tokens k high next
  leaf_holds None span s next low high e a b h = not_some e
  leaf_holds (Some form) span s next low high e a b h = pushed (tree form span []) s next low high e (leaf_places form span low high a b) ((0, 0, (let z : 0 ≤ 0 = omega arith in z)), tt) h

respanned : (span : Span) (t : Tree) → is_of expressions t ≡ true → places (respan span t) ≡ places t
respanned span absent e = refl
respanned span (row ts) e = refl
respanned span (node (form_is.Name x) old ts) e = never e
respanned span (node form_is.Field old ts) e = never e
respanned span (node _ old ts) e = refl

respanned_rise : (span : Span) (t : Tree) → AllRise t → AllRise (respan span t)
respanned_rise span absent h = h
respanned_rise span (row ts) h = h
respanned_rise span (node form old ts) h = h

-- what rules build has the places of its parts, but for fields
abbrev pub IsPlain : Rule → Type 0
IsPlain (closes asked form) = is_name form ≡ false
IsPlain (closes_integer asked form) = (word : IntWord) → is_plain (form word) ≡ true
IsPlain (closes_attribute asked form) = (name : AttributeName) → is_plain (form name) ≡ true
IsPlain (joins asked form) = is_plain form ≡ true
IsPlain (wraps g form) = is_plain form ≡ true
IsPlain _ = true ≡ true

pub rules_are_plain : (m : Action) → IsPlain (rule m)
rules_are_plain build.Attribute = λ name. refl
rules_are_plain build.NumberBase = λ word. refl
rules_are_plain build.IntBase = λ word. refl
rules_are_plain build.TypedNumberExpr = λ word. refl
rules_are_plain _ = refl

-- the tokens before which each tree has begun that is open: those that are passed, and the next one, unless a token was passed since
abbrev pub bound : Bool → ℕ → ℕ
bound true n = n
bound false n = suc n

pub bound_low : (c : Bool) (n : ℕ) → bound c n ≤ suc n
bound_low true n = omega arith
bound_low false n = (let z : suc n ≤ suc n = omega arith in z)

abbrev pub closes_field : Rule → Bool
closes_field (closes asked form) = is_field form
closes_field _ = false

abbrev pub is_beginning : Rule → Bool
is_beginning begins = true
is_beginning _ = false

abbrev pub is_taking : Rule → Bool
is_taking (takes l) = true
is_taking _ = false

module _ (text : List ℕ) (tokens : List Token) (end : ℕ) (order : InOrder 0 tokens end) (n : ℕ) (in_list : n ≤ length tokens) where
  abbrev here : ℕ
  here = end_before tokens n

  -- the next token
  pub taken_holds : (r : Rule) (k : ℕ) (s next : Stack) → is_taking r ≡ true → n < length tokens → done_by r text tokens n s ≡ Some next → Holds tokens k here s → Holds tokens k (end_before tokens (suc n)) next
  taken_holds (takes l) k s next is lt e h =
      let p = token_placed tokens end n order lt in
      leaf_holds tokens k (form_of l (token_of tokens n).kind (bytes_of text (token_of tokens n))) (token_of tokens n).span s next here (end_before tokens (suc n)) e p.behind p.before h
  taken_holds _ k s next is lt e h = never is

  -- where a field stands that is closed behind a token
  field_stands : (p : ℕ) → p < n → (end_before tokens p ≤ (token_of tokens p).span.from) × ((token_of tokens p).span.from < here)
  field_stands p lt =
      let placed = token_placed tokens end p order (omega (arith, lt, in_list)) in
      let later = ends_later tokens end order (suc p) n (omega (arith, lt)) in_list in
      let a = placed.before in
      (placed.behind, omega (arith, a, later))

  -- every other rule; a field is closed where a token was passed since it began
  pub done_holds : (r : Rule) (c : Bool) (s next : Stack) → IsPlain r → is_taking r ≡ false → (closes_field r ≡ true → c ≡ true) → done_by r text tokens n s ≡ Some next → Holds tokens (bound c n) here s → Holds tokens (bound (if is_beginning r then false else c) n) here next
  done_holds begins c s next plain taking field e h =
      let z : n < suc n = omega arith in
      let y : here ≤ here = omega arith in
      subst (Holds tokens (suc n) here) (some_equal e) (z, y, raised tokens (bound c n) (suc n) here here s (bound_low c n) y h)
  done_holds leaves_out c s next plain taking field e h = pushed tokens (bound c n) absent s next here here e (let z : here ≤ here = omega arith in z) tt h
  done_holds (takes l) c s next plain taking field e h = never (sym taking)
  done_holds gathers c s next plain taking field e h =
      let found = popped_all s in
      let f = gathered_holds tokens (bound c n) is_node s [] here here h (let z : here ≤ here = omega arith in z) tt in
      let a = then_some (opened found.rest) (λ (p : ℕ) (below : Stack). push (in_row found.value) below) next e in
      let o = opened_holds tokens (bound c n) f.low found.rest a.0 a.1 f.holds in
      pushed tokens (bound c n) (in_row found.value) a.0.rest next (end_before tokens a.0.value) here a.2 (rises_from (end_before tokens a.0.value) f.low (places_among (trees found.value)) here o.below f.rises) f.all o.holds
  done_holds (closes asked form) c s next plain taking field e h =
      closed_holds tokens (bound c n) asked s next here (λ p ts below. push (tree form (stretch tokens p n) ts) below) e h
      (λ p ts below early r all under f. pushed tokens (bound c n) (tree form (stretch tokens p n) ts) below next (end_before tokens p) here f (closed_places form (stretch tokens p n) (trees ts) (end_before tokens p) here plain r (λ own. field_stands p (subst (λ b. p < bound b n) (field own) early))) ((end_before tokens p, here, r), all) under)
  done_holds (closes_integer asked form) c s next plain taking field e h =
      closed_holds tokens (bound c n) asked s next here (λ p ts below. worded (integer_of (token_of tokens p).kind) form (stretch tokens p n) ts below) e h
      (λ p ts below early r all under f. worded_holds tokens (bound c n) (integer_of (token_of tokens p).kind) form (stretch tokens p n) ts below next (end_before tokens p) here f plain r all under)
  done_holds (closes_attribute asked form) c s next plain taking field e h =
      closed_holds tokens (bound c n) asked s next here (λ p ts below. worded (attribute_of (token_of tokens p).kind) form (stretch tokens p n) ts below) e h
      (λ p ts below early r all under f. worded_holds tokens (bound c n) (attribute_of (token_of tokens p).kind) form (stretch tokens p n) ts below next (end_before tokens p) here f plain r all under)
  done_holds encloses c s next plain taking field e h =
      let a = then_some (popped (one expressions) s) (λ (t : Tree) (rest : Stack). then_do (opened rest) (λ (p : ℕ) (below : Stack). push (respan (stretch tokens p n) t) below)) next e in
      let p = popped_holds tokens (bound c n) here (one expressions) s a.0 a.1 h in
      let b = then_some (opened a.0.rest) (λ (p : ℕ) (below : Stack). push (respan (stretch tokens p n) a.0.value) below) next a.2 in
      let o = opened_holds tokens (bound c n) p.0.low a.0.rest b.0 b.1 p.0.holds in
      let span = stretch tokens b.0.value n in
      let same = respanned span a.0.value p.1 in
      pushed tokens (bound c n) (respan span a.0.value) b.0.rest next (end_before tokens b.0.value) here b.2
      (subst (λ ns. Rises (end_before tokens b.0.value) ns here) (sym same) (rises_from (end_before tokens b.0.value) p.0.low (places a.0.value) here o.below p.0.rises)) (respanned_rise span a.0.value p.0.all) o.holds
  done_holds (joins asked form) c s next plain taking field e h =
      let a = then_some (popped_parts asked s) (λ (ts : List Tree) (rest : Stack). push (tree form (stretch_from tokens ts n) ts) rest) next e in
      let f = whole_holds tokens (bound c n) asked s a.0 here a.1 h in
      let span = stretch_from tokens a.0.value n in
      pushed tokens (bound c n) (tree form span a.0.value) a.0.rest next f.low here a.2 (subst (λ ns. Rises f.low ns here) (sym (plain_places form span (trees a.0.value) plain)) f.rises) ((f.low, here, f.rises), f.all) f.holds
  done_holds (wraps g form) c s next plain taking field e h =
      let a = then_some (popped (one g) s) (λ (t : Tree) (rest : Stack). push (tree form (span_of t) (t ∷ [])) rest) next e in
      let p = (popped_holds tokens (bound c n) here (one g) s a.0 a.1 h).0 in
      let t = a.0.value in
      let same : places (tree form (span_of t) (t ∷ [])) ≡ places t = plain_places form (span_of t) (more t none) plain ∙ append-nil (places t) in
      pushed tokens (bound c n) (tree form (span_of t) (t ∷ [])) a.0.rest next p.low here a.2 (subst (λ ns. Rises p.low ns here) (sym same) p.rises) ((p.low, here, subst (λ ns. Rises p.low ns here) (sym (append-nil (places t))) p.rises), (p.all, tt)) p.holds
