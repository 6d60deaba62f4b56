-- What a step of the reading keeps, and what it finds.
use Rattle.std.proofs.Common.{◌≡◌, ℕ, zero, suc, ◌+◌, ◌-◌, ◌<◌, ◌≤◌, inl, inr, List, [], ◌∷◌, ◌++◌, length, drop, Bool, false, sym, refl, ap, subst, ◌∙◌, arith}
use Rattle.std.specs.List.{AllByRecursion}
use Rattle.sp_base.specs.Kinds.{module_kind_number}
use Rattle.sp_base.specs.declared.kinds.MKind.{MKind}
use Rattle.sp_base.specs.declared.kinds.MKind.TheVariants as module_kind
use Rattle.sp_base.specs.declared.places.Span.{Span}
use Rattle.sp_lex.proofs.Depth.{after_bounded}
use Rattle.sp_lex.proofs.Longest.{token_longest}
use Rattle.sp_lex.proofs.Texts.{token_text}
use Rattle.sp_lex.proofs.ReadOn.{read_on-blank, read_on-token, read_on-bad, read_on-end}
use Rattle.sp_lex.specs.Elements.{ends_operand, element_at}
use Rattle.sp_lex.specs.Faults.{byte_span, IsTokenFault, IsReadingFault, GoesBefore}
use Rattle.sp_lex.specs.Nesting.{role_of, level, after, outermost}
use Rattle.sp_lex.specs.Readings.{Reading, Stops, Reads, token_at, reads_from, read_on, reading, behind, whole, bytes_of, HasItsText, IsLongest, InOrder}
use Rattle.sp_lex.specs.inside.Scanning.{Scanned}
use Rattle.sp_lex.specs.declared.elements.Element.{Element}
use Rattle.sp_lex.specs.declared.elements.Element.TheVariants as element
use Rattle.sp_lex.specs.declared.kinds.TokenKind.{TokenKind}
use Rattle.sp_lex.specs.declared.nesting.Nesting.{Nesting}
use Rattle.sp_lex.specs.declared.tokens.Token.{Token}

-- before the first byte
pub scan_begins : (text : List ℕ) → Scanned text 0 false outermost []
scan_begins text = record {
  within = omega arith;
  bounded = (omega arith, λ k d h. absurd (omega arith));
  ordered = omega arith;
  longest = tt;
  texts = tt;
  same = refl;
  forth = λ span kind fault. fault;
  back = λ span kind fault. fault;
}

in_order_later : (tokens : List Token) (from at later : ℕ) → at ≤ later → InOrder from tokens at → InOrder from tokens later
in_order_later [] from at later h order = omega arith
in_order_later (token ∷ tokens) from at later h order = (order.0, order.1, in_order_later tokens token.span.to at later h order.2)

in_order_push : (tokens : List Token) (from at n : ℕ) (kind : TokenKind) → 0 < n → InOrder from tokens at → InOrder from (tokens ++ token_at kind at n ∷ []) (at + n)
in_order_push [] from at n kind h order = (order, omega arith, omega arith)
in_order_push (token ∷ tokens) from at n kind h order = (order.0, order.1, in_order_push tokens token.span.to at n kind h order.2)

all_push : (P : Token → Type 0) (tokens : List Token) (token : Token) → AllByRecursion P tokens → P token → AllByRecursion P (tokens ++ token ∷ [])
all_push P [] token all one = (one, tt)
all_push P (first ∷ tokens) token all one = (all.0, all_push P tokens token all.1 one)

behind-push : (tokens : List Token) (token : Token) (rest : Reading) → behind (tokens ++ token ∷ []) rest ≡ behind tokens (Reads token rest)
behind-push [] token rest = refl
behind-push (first ∷ tokens) token rest = ap (λ r. Reads first r) (behind-push tokens token rest)

-- white space and comments are passed over
pub scan_blank : (text : List ℕ) (at : ℕ) (divides : Bool) (nesting : Nesting) (tokens : List Token) (n : ℕ) → Scanned text at divides nesting tokens → at < length text → element_at divides (drop at text) ≡ element.Blank n → 0 < n → at + n ≤ length text → Scanned text (at + n) divides nesting tokens
scan_blank text at divides nesting tokens n scanned h e positive within =
    let rest = read_on-blank at divides text n h e positive within in
    record {
      within = within;
      bounded = scanned.bounded;
      ordered = in_order_later tokens 0 at (at + n) (omega arith) scanned.ordered;
      longest = scanned.longest;
      texts = scanned.texts;
      same = scanned.same ∙ ap (behind tokens) rest;
      forth = λ span kind fault. subst (λ r. IsReadingFault text nesting r span kind) rest (scanned.forth span kind fault);
      back = λ span kind fault. scanned.back span kind (subst (λ r. IsReadingFault text nesting r span kind) (sym rest) fault);
    }

no_fault_here : (text : List ℕ) (nesting : Nesting) (token : Token) (more : Reading) (span : Span) (kind : MKind) → ((m : MKind) → ¬ IsTokenFault (bytes_of text token) nesting token m) → IsReadingFault text nesting (Reads token more) span kind → IsReadingFault text (after nesting (role_of token.kind)) more span kind
no_fault_here text nesting token more span kind right (inl here) = absurd (right kind here.1)
no_fault_here text nesting token more span kind right (inr later) = later

-- a token without a fault is taken
pub scan_token : (text : List ℕ) (at : ℕ) (divides : Bool) (nesting : Nesting) (tokens : List Token) (kind : TokenKind) (n : ℕ) → Scanned text at divides nesting tokens → at < length text → element_at divides (drop at text) ≡ element.Token kind n → 0 < n → at + n ≤ length text →
    ((m : MKind) → ¬ IsTokenFault (bytes_of text (token_at kind at n)) nesting (token_at kind at n) m) → level nesting (role_of kind) ≤ 64 →
    Scanned text (at + n) (ends_operand kind) (after nesting (role_of kind)) (tokens ++ token_at kind at n ∷ [])
scan_token text at divides nesting tokens kind n scanned h e positive within right low =
    let rest = read_on-token at divides text kind n h e positive within in
    record {
      within = within;
      bounded = after_bounded nesting (role_of kind) scanned.bounded low;
      ordered = in_order_push tokens 0 at n kind positive scanned.ordered;
      longest = all_push (IsLongest text) tokens (token_at kind at n) scanned.longest (token_longest text at divides kind n e);
      texts = all_push (HasItsText text) tokens (token_at kind at n) scanned.texts (token_text text at divides kind n e);
      same = scanned.same ∙ ap (behind tokens) rest ∙ sym (behind-push tokens (token_at kind at n) (read_on (at + n) (ends_operand kind) 0 (drop (at + n) text)));
      forth = λ span m fault. no_fault_here text nesting (token_at kind at n) (read_on (at + n) (ends_operand kind) 0 (drop (at + n) text)) span m right (subst (λ r. IsReadingFault text nesting r span m) rest (scanned.forth span m fault));
      back = λ span m fault. scanned.back span m (subst (λ r. IsReadingFault text nesting r span m) (sym rest) (inr fault));
    }

-- Faults of what is read from a place on are not before it.
module _ (T : List ℕ) (span : Span) (kind : MKind) where
  later_from : (stands : Element) (at : ℕ) (divides : Bool) (nesting : Nesting) (text : List ℕ) →
      ((inner : Nesting) (behind : Bool) (left : ℕ) → IsReadingFault T inner (read_on (at + 1) behind left text) span kind → at + 1 + left ≤ span.from) →
      IsReadingFault T nesting (reads_from stands at divides (λ behind n. read_on (at + 1) behind (n - 1) text)) span kind → at ≤ span.from
  later_from (element.Blank n) at divides nesting text deeper fault = let h : at + 1 + (n - 1) ≤ span.from = deeper nesting divides (n - 1) fault in omega arith
  later_from (element.Token k n) at divides nesting text deeper (inl here) = let e : span.from ≡ at = ap (λ (s : Span). s.from) here.0 in omega arith
  later_from (element.Token k n) at divides nesting text deeper (inr later) = let h : at + 1 + (n - 1) ≤ span.from = deeper (after nesting (role_of k)) (ends_operand k) (n - 1) later in omega arith
  later_from element.Bad at divides nesting text deeper fault = let e : span.from ≡ at = ap (λ (s : Span). s.from) fault.0 in omega arith

  pub faults_later : (text : List ℕ) (at : ℕ) (divides : Bool) (left : ℕ) (nesting : Nesting) → IsReadingFault T nesting (read_on at divides left text) span kind → at + left ≤ span.from
  faults_later [] at divides left nesting fault = absurd fault
  faults_later (byte ∷ text) at divides (suc left) nesting fault = let h : at + 1 + left ≤ span.from = faults_later text (at + 1) divides left nesting fault in omega arith
  faults_later (byte ∷ text) at divides zero nesting fault =
      let h : at ≤ span.from = later_from (element_at divides (byte ∷ text)) at divides nesting text (λ inner behind left. faults_later text (at + 1) behind left inner) fault in
      omega arith

-- a fault of the token that stands here is one of the text
pub scan_token_fault : (text : List ℕ) (at : ℕ) (divides : Bool) (nesting : Nesting) (tokens : List Token) (kind : TokenKind) (n : ℕ) (m : MKind) → Scanned text at divides nesting tokens → at < length text → element_at divides (drop at text) ≡ element.Token kind n → 0 < n → at + n ≤ length text →
    IsTokenFault (bytes_of text (token_at kind at n)) nesting (token_at kind at n) m → IsReadingFault text outermost (reading text) (token_at kind at n).span m
scan_token_fault text at divides nesting tokens kind n m scanned h e positive within fault =
    let rest = read_on-token at divides text kind n h e positive within in
    scanned.back _ m (subst (λ r. IsReadingFault text nesting r (token_at kind at n).span m) (sym rest) (inl (refl, fault)))

least_here : (text : List ℕ) (at : ℕ) (divides : Bool) (nesting : Nesting) (kind : TokenKind) (n : ℕ) (m : MKind) (other : Span) (other_kind : MKind) → 0 < n →
    ((k : MKind) → IsTokenFault (bytes_of text (token_at kind at n)) nesting (token_at kind at n) k → module_kind_number m ≤ module_kind_number k) →
    IsReadingFault text nesting (Reads (token_at kind at n) (read_on (at + n) divides 0 (drop (at + n) text))) other other_kind → GoesBefore (token_at kind at n).span m other other_kind
least_here text at divides nesting kind n m other other_kind positive least (inl here) = inr (sym (ap (λ (s : Span). s.from) here.0), least other_kind here.1)
least_here text at divides nesting kind n m other other_kind positive least (inr later) =
    let h : at + n + 0 ≤ other.from = faults_later text other other_kind (drop (at + n) text) (at + n) divides 0 (after nesting (role_of kind)) later in
    inl (omega arith)

-- the least fault of the token that stands here goes before all others of the text
pub scan_token_least : (text : List ℕ) (at : ℕ) (divides : Bool) (nesting : Nesting) (tokens : List Token) (kind : TokenKind) (n : ℕ) (m : MKind) → Scanned text at divides nesting tokens → at < length text → element_at divides (drop at text) ≡ element.Token kind n → 0 < n → at + n ≤ length text →
    ((k : MKind) → IsTokenFault (bytes_of text (token_at kind at n)) nesting (token_at kind at n) k → module_kind_number m ≤ module_kind_number k) →
    (other : Span) (other_kind : MKind) → IsReadingFault text outermost (reading text) other other_kind → GoesBefore (token_at kind at n).span m other other_kind
scan_token_least text at divides nesting tokens kind n m scanned h e positive within least other other_kind fault =
    let rest = read_on-token at divides text kind n h e positive within in
    least_here text at (ends_operand kind) nesting kind n m other other_kind positive least (subst (λ r. IsReadingFault text nesting r other other_kind) rest (scanned.forth other other_kind fault))

-- where no token stands, the reading stops
pub scan_bad_fault : (text : List ℕ) (at : ℕ) (divides : Bool) (nesting : Nesting) (tokens : List Token) → Scanned text at divides nesting tokens → at < length text → element_at divides (drop at text) ≡ element.Bad → IsReadingFault text outermost (reading text) (byte_span at) module_kind.BadToken
scan_bad_fault text at divides nesting tokens scanned h e =
    scanned.back _ _ (subst (λ r. IsReadingFault text nesting r (byte_span at) module_kind.BadToken) (sym (read_on-bad at divides text h e)) (refl, refl))

stops_least : (text : List ℕ) (at : ℕ) (nesting : Nesting) (other : Span) (other_kind : MKind) → IsReadingFault text nesting (Stops at) other other_kind → GoesBefore (byte_span at) module_kind.BadToken other other_kind
stops_least text at nesting other other_kind fault =
    let place : at ≡ other.from = sym (ap (λ (s : Span). s.from) fault.0) in
    let number : 2 ≡ module_kind_number other_kind = sym (ap module_kind_number fault.1) in
    inr (place, omega arith)

pub scan_bad_least : (text : List ℕ) (at : ℕ) (divides : Bool) (nesting : Nesting) (tokens : List Token) → Scanned text at divides nesting tokens → at < length text → element_at divides (drop at text) ≡ element.Bad →
    (other : Span) (other_kind : MKind) → IsReadingFault text outermost (reading text) other other_kind → GoesBefore (byte_span at) module_kind.BadToken other other_kind
scan_bad_least text at divides nesting tokens scanned h e other other_kind fault =
    stops_least text at nesting other other_kind (subst (λ r. IsReadingFault text nesting r other other_kind) (read_on-bad at divides text h e) (scanned.forth other other_kind fault))

-- at the end the tokens are all, and nothing is wrong
pub scan_ends : (text : List ℕ) (at : ℕ) (divides : Bool) (nesting : Nesting) (tokens : List Token) → Scanned text at divides nesting tokens → length text ≤ at → reading text ≡ whole tokens
scan_ends text at divides nesting tokens scanned h = scanned.same ∙ ap (behind tokens) (read_on-end at divides at text h)

pub scan_right : (text : List ℕ) (at : ℕ) (divides : Bool) (nesting : Nesting) (tokens : List Token) → Scanned text at divides nesting tokens → length text ≤ at → (span : Span) (kind : MKind) → ¬ IsReadingFault text outermost (reading text) span kind
scan_right text at divides nesting tokens scanned h span kind fault =
    subst (λ r. IsReadingFault text nesting r span kind) (read_on-end at divides at text h) (scanned.forth span kind fault)

pub scan_ordered : (text : List ℕ) (at : ℕ) (divides : Bool) (nesting : Nesting) (tokens : List Token) → Scanned text at divides nesting tokens → InOrder 0 tokens (length text)
scan_ordered text at divides nesting tokens scanned = in_order_later tokens 0 at (length text) scanned.within scanned.ordered
