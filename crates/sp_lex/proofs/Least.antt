-- The least fault of a source, from those of the text and those of its tokens.
use Rattle.std.proofs.Common.{◌≡◌, ℕ, [], ◌∷◌, ◌+◌, ◌<◌, ◌≤◌, ◌⊎◌, inl, inr, ⊎_elim, List, length, Result, Ok, Err, sym, refl, ap, subst, ◌∙◌, arith}
use Rattle.std.proofs.lemmas.List.{take_all, length-take}
use Rattle.std.proofs.str.Laws.{order}
use Rattle.std.specs.Prelude.{IfOk, IfErr, OnOk}
use Rattle.std.specs.List.{AllByRecursion}
use Rattle.sp_base.specs.Kinds.{module_kind_number}
use Rattle.sp_base.specs.declared.kinds.MKind.{MKind}
use Rattle.sp_base.specs.declared.kinds.MKind.TheVariants as module_kind
use Rattle.sp_base.specs.declared.places.Span.{Span}
use Rattle.sp_lex.specs.Faults.{most_bytes, looked_at, first_bad, byte_span, IsRight, IsReadingFault, IsTextFault, IsFault, GoesBefore, OnDiag}
use Rattle.sp_lex.specs.Nesting.{role_of, after, outermost}
use Rattle.sp_lex.specs.Readings.{reading, whole}
use Rattle.sp_lex.specs.declared.nesting.Nesting.{Nesting}
use Rattle.sp_lex.specs.declared.tokens.ReadFault.{ReadFault}
use Rattle.sp_lex.specs.declared.tokens.ReadFault.TheVariants as fault_is
use Rattle.sp_lex.specs.declared.tokens.Token.{Token}

-- a text that is not too large is looked at whole
pub looked_at_whole : (source : List ℕ) → length source ≤ most_bytes → source ≡ looked_at source
looked_at_whole source h = sym (take_all (most_bytes + 1) source (omega arith))

pub looked_at_small : (source : List ℕ) → length (looked_at source) ≤ most_bytes + 1
looked_at_small source = omega (arith, length-take (most_bytes + 1) source)

pub goes_before-same : (span : Span) (kind : MKind) → GoesBefore span kind span kind
goes_before-same span kind = inr (refl, omega arith)

pub goes_before-trans : (a : Span) (i : MKind) (b : Span) (j : MKind) (c : Span) (k : MKind) → GoesBefore a i b j → GoesBefore b j c k → GoesBefore a i c k
goes_before-trans a i b j c k (inl p) (inl q) = inl (omega arith)
goes_before-trans a i b j c k (inl p) (inr q) = inl (omega arith)
goes_before-trans a i b j c k (inr p) (inl q) = inl (omega arith)
goes_before-trans a i b j c k (inr p) (inr q) = inr (p.0 ∙ q.0, omega arith)

-- a byte that is no text at the beginning, or in a text that is not too large
pub not_text_least : (source : List ℕ) (span : Span) → span ≡ byte_span (first_bad (looked_at source)) → (first_bad (looked_at source) ≡ 0) ⊎ (length source ≤ most_bytes) → (other : Span) (k : MKind) → IsTextFault source other k → GoesBefore span module_kind.NotText other k
not_text_least source span e where_it_is other k (inl same) =
    let from : span.from ≡ other.from = ap (λ (s : Span). s.from) (e ∙ sym same.0) in
    let number : module_kind_number k ≡ 1 = ap module_kind_number same.1 in
    inr (from, omega arith)
not_text_least source span e (inl first) other k (inr large) =
    let from : span.from ≡ other.from = ap (λ (s : Span). s.from) e ∙ first ∙ sym (ap (λ (s : Span). s.from) large.0) in
    let number : module_kind_number k ≡ 4 = ap module_kind_number large.1 in
    inr (from, omega arith)
not_text_least source span e (inr small) other k (inr large) = absurd (omega (arith, large.2))

-- a text that is too large, with no bad byte at the beginning
pub too_large_least : (source : List ℕ) (span : Span) → span ≡ record { from = 0; to = 0 } → 0 < first_bad (looked_at source) → (other : Span) (k : MKind) → IsTextFault source other k → GoesBefore span module_kind.TooLarge other k
too_large_least source span e positive other k (inl bad) =
    let from : span.from ≡ 0 = ap (λ (s : Span). s.from) e in
    let place : other.from ≡ first_bad (looked_at source) = ap (λ (s : Span). s.from) bad.0 in
    inl (omega arith)
too_large_least source span e positive other k (inr large) =
    let from : span.from ≡ other.from = ap (λ (s : Span). s.from) (e ∙ sym large.0) in
    let number : module_kind_number k ≡ 4 = ap module_kind_number large.1 in
    inr (from, omega arith)

-- nothing is wrong with the text as a whole
pub text_right : (source : List ℕ) → length (looked_at source) ≤ first_bad (looked_at source) → (first_bad (looked_at source) ≡ 0) ⊎ (length source ≤ most_bytes) → (span : Span) (m : MKind) → ¬ IsTextFault source span m
text_right source all where_it_is span m (inl bad) = omega (arith, bad.2)
text_right source all (inl first) span m (inr large) = omega (arith, large.2, length-take (most_bytes + 1) source)
text_right source all (inr small) span m (inr large) = omega (arith, large.2)

pub text_small : (source : List ℕ) → ((span : Span) (m : MKind) → ¬ IsTextFault source span m) → length source ≤ most_bytes
text_small source right = ⊎_elim (λ above. absurd (right (record { from = 0; to = 0 }) module_kind.TooLarge (inr (refl, refl, above)))) (λ below. below) (order most_bytes (length source))

pub text_whole : (source : List ℕ) → ((span : Span) (m : MKind) → ¬ IsTextFault source span m) → source ≡ looked_at source
text_whole source right = looked_at_whole source (text_small source right)

module _ (source : List ℕ) (T : Type 0) where
  -- the reading decides where nothing is wrong with the text as a whole
  pub right_of_reading : ((span : Span) (m : MKind) → ¬ IsTextFault source span m) → (r : Result T ReadFault) → IfOk r (λ x. (span : Span) (m : MKind) → ¬ IsReadingFault (looked_at source) outermost (reading (looked_at source)) span m) → IfOk r (λ x. (span : Span) (m : MKind) → ¬ IsFault source span m)
  right_of_reading right (Ok x) h = λ span m fault. ⊎_elim (right span m) (h span m) fault
  right_of_reading right (Err e) h = h

  pub fault_of_reading : (r : Result T ReadFault) → IfErr r (OnDiag (λ span m. IsReadingFault (looked_at source) outermost (reading (looked_at source)) span m)) → IfErr r (OnDiag (λ span m. IsFault source span m))
  fault_of_reading (Ok x) h = h
  fault_of_reading (Err fault_is.NoMemory) h = h
  fault_of_reading (Err (fault_is.Diag span m)) h = inr h

  pub least_of_reading : ((span : Span) (m : MKind) → ¬ IsTextFault source span m) → (r : Result T ReadFault) → IfErr r (OnDiag (λ span m. (other : Span) (k : MKind) → IsReadingFault (looked_at source) outermost (reading (looked_at source)) other k → GoesBefore span m other k)) → IfErr r (OnDiag (λ span m. (other : Span) (k : MKind) → IsFault source other k → GoesBefore span m other k))
  least_of_reading right (Ok x) h = h
  least_of_reading right (Err fault_is.NoMemory) h = h
  least_of_reading right (Err (fault_is.Diag span m)) h = λ other k fault. ⊎_elim (λ text. absurd (right other k text)) (h other k) fault

-- what holds in any case holds where the answer is Ok
pub on_ok : {T : Type 0} (r : Result T ReadFault) (P : Type 0) → P → OnOk r P
on_ok (Ok x) P h = h
on_ok (Err e) P h = tt

-- what follows of each value that is Ok
pub if_ok : {T : Type 0} (P Q : T → Type 0) → ((x : T) → P x → Q x) → (r : Result T ReadFault) → IfOk r P → IfOk r Q
if_ok P Q f (Ok x) h = f x h
if_ok P Q f (Err e) h = h

-- where nothing is wrong with the reading, nothing is with any token
each_right : (text : List ℕ) (nesting : Nesting) (tokens : List Token) → ((span : Span) (m : MKind) → ¬ IsReadingFault text nesting (whole tokens) span m) → AllByRecursion (IsRight text) tokens
each_right text nesting [] right = tt
each_right text nesting (token ∷ tokens) right = (λ m own. right token.span m (inl (refl, inl own)), each_right text (after nesting (role_of token.kind)) tokens (λ span m fault. right span m (inr fault)))

pub right_tokens : (text : List ℕ) (tokens : List Token) → reading text ≡ whole tokens → ((span : Span) (m : MKind) → ¬ IsReadingFault text outermost (reading text) span m) → AllByRecursion (IsRight text) tokens
right_tokens text tokens same right = each_right text outermost tokens (subst (λ read. (span : Span) (m : MKind) → ¬ IsReadingFault text outermost read span m) same right)

-- a place in what is looked at is one of the source
module _ (source seen : List ℕ) (same : seen ≡ looked_at source) where
  pub inside_fault : (f : ReadFault) → OnDiag (λ span m. span.from ≤ length seen) f → OnDiag (λ span m. (span.from ≤ length source) × (span.from ≤ most_bytes + 1)) f
  inside_fault fault_is.NoMemory h = tt
  inside_fault (fault_is.Diag span m) h =
      let len : length seen ≡ length (looked_at source) = ap length same in
      (omega (arith, len, length-take (most_bytes + 1) source), omega (arith, len, length-take (most_bytes + 1) source))

  pub inside_result : {T : Type 0} (r : Result T ReadFault) → IfErr r (OnDiag (λ span m. span.from ≤ length seen)) → IfErr r (OnDiag (λ span m. (span.from ≤ length source) × (span.from ≤ most_bytes + 1)))
  inside_result (Ok x) h = tt
  inside_result (Err f) h = inside_fault f h

-- the earlier one of a fault of the text and one of its tokens
module _ (source : List ℕ) (span : Span) (kind : MKind) (is : IsTextFault source span kind) where
  pub fault_of_both : (f : ReadFault) → OnDiag (λ s m. ((s ≡ span) × (m ≡ kind)) ⊎ IsReadingFault (looked_at source) outermost (reading (looked_at source)) s m) f → OnDiag (λ s m. IsFault source s m) f
  fault_of_both fault_is.NoMemory h = tt
  fault_of_both (fault_is.Diag s m) (inl same) = inl (subst (λ s'. IsTextFault source s' m) (sym same.0) (subst (λ m'. IsTextFault source span m') (sym same.1) is))
  fault_of_both (fault_is.Diag s m) (inr fault) = inr fault

  pub least_of_both : ((other : Span) (k : MKind) → IsTextFault source other k → GoesBefore span kind other k) → (f : ReadFault) → OnDiag (λ s m. GoesBefore s m span kind) f →
      OnDiag (λ s m. (other : Span) (k : MKind) → IsReadingFault (looked_at source) outermost (reading (looked_at source)) other k → GoesBefore s m other k) f → OnDiag (λ s m. (other : Span) (k : MKind) → IsFault source other k → GoesBefore s m other k) f
  least_of_both least fault_is.NoMemory before all = tt
  least_of_both least (fault_is.Diag s m) before all = λ other k fault. ⊎_elim (λ text. goes_before-trans s m span kind other k before (least other k text)) (all other k) fault
