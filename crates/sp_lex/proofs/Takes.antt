-- What is known where a token is refused or taken.
use Rattle.std.proofs.Common.{◌≡◌, ℕ, ◌+◌, ◌<◌, ◌≤◌, List, [], ◌∷◌, ◌++◌, length, drop, Bool, sym, ap, subst, ◌∙◌}
use Rattle.sp_base.specs.Kinds.{module_kind_number}
use Rattle.sp_base.specs.declared.kinds.MKind.{MKind}
use Rattle.sp_base.specs.declared.places.Span.{Span}
use Rattle.sp_lex.proofs.Scans.{scan_token, scan_token_fault, scan_token_least}
use Rattle.sp_lex.specs.Elements.{ends_operand, element_at}
use Rattle.sp_lex.specs.Faults.{IsTokenFault, IsReadingFault, GoesBefore, OnDiag}
use Rattle.sp_lex.specs.Nesting.{role_of, level, after, outermost}
use Rattle.sp_lex.specs.Readings.{token_at, reading, bytes_of}
use Rattle.sp_lex.specs.inside.Scanning.{Scanned}
use Rattle.sp_lex.specs.declared.elements.Element.TheVariants as element
use Rattle.sp_lex.specs.declared.kinds.TokenKind.{TokenKind}
use Rattle.sp_lex.specs.declared.nesting.Nesting.{Nesting}
use Rattle.sp_lex.specs.declared.tokens.ReadFault.{ReadFault}
use Rattle.sp_lex.specs.declared.tokens.ReadFault.TheVariants as fault_is
use Rattle.sp_lex.specs.declared.tokens.Token.{Token}

module _ (text : List ℕ) (at : ℕ) (divides : Bool) (nesting : Nesting) (tokens : List Token) (kind : TokenKind) (n : ℕ) (scanned : Scanned text at divides nesting tokens) (inside : at < length text) (stands : element_at divides (drop at text) ≡ element.Token kind n) (some : 0 < n) (within : at + n ≤ length text) where
  fault_at : (f : ReadFault) → OnDiag (λ span m. span ≡ (token_at kind at n).span) f → OnDiag (λ span m. IsTokenFault (bytes_of text (token_at kind at n)) nesting (token_at kind at n) m) f → OnDiag (λ span m. IsReadingFault text outermost (reading text) span m) f
  fault_at fault_is.NoMemory place fault = tt
  fault_at (fault_is.Diag span m) place fault =
      subst (λ s. IsReadingFault text outermost (reading text) s m) (sym place) (scan_token_fault text at divides nesting tokens kind n m scanned inside stands some within fault)

  pub token_fault : (token : Token) → token ≡ token_at kind at n → (f : ReadFault) → OnDiag (λ span m. span ≡ token.span) f → OnDiag (λ span m. IsTokenFault (bytes_of text (token_at kind at n)) nesting token m) f → OnDiag (λ span m. IsReadingFault text outermost (reading text) span m) f
  token_fault token e f =
      subst (λ t. OnDiag (λ span m. span ≡ t.span) f → OnDiag (λ span m. IsTokenFault (bytes_of text (token_at kind at n)) nesting t m) f → OnDiag (λ span m. IsReadingFault text outermost (reading text) span m) f) (sym e) (fault_at f)

  least_at : (f : ReadFault) → OnDiag (λ span m. span ≡ (token_at kind at n).span) f → OnDiag (λ span m. (k : MKind) → IsTokenFault (bytes_of text (token_at kind at n)) nesting (token_at kind at n) k → module_kind_number m ≤ module_kind_number k) f →
      OnDiag (λ span m. (other : Span) (k : MKind) → IsReadingFault text outermost (reading text) other k → GoesBefore span m other k) f
  least_at fault_is.NoMemory place least = tt
  least_at (fault_is.Diag span m) place least =
      subst (λ s. (other : Span) (k : MKind) → IsReadingFault text outermost (reading text) other k → GoesBefore s m other k) (sym place) (scan_token_least text at divides nesting tokens kind n m scanned inside stands some within least)

  pub token_least : (token : Token) → token ≡ token_at kind at n → (f : ReadFault) → OnDiag (λ span m. span ≡ token.span) f → OnDiag (λ span m. (k : MKind) → IsTokenFault (bytes_of text (token_at kind at n)) nesting token k → module_kind_number m ≤ module_kind_number k) f →
      OnDiag (λ span m. (other : Span) (k : MKind) → IsReadingFault text outermost (reading text) other k → GoesBefore span m other k) f
  token_least token e f =
      subst (λ t. OnDiag (λ span m. span ≡ t.span) f → OnDiag (λ span m. (k : MKind) → IsTokenFault (bytes_of text (token_at kind at n)) nesting t k → module_kind_number m ≤ module_kind_number k) f →
      OnDiag (λ span m. (other : Span) (k : MKind) → IsReadingFault text outermost (reading text) other k → GoesBefore span m other k) f) (sym e) (least_at f)

  pub token_taken : (token : Token) → token ≡ token_at kind at n → ((m : MKind) → ¬ IsTokenFault (bytes_of text (token_at kind at n)) nesting token m) → level nesting (role_of kind) ≤ 64 →
      (behind : Bool) → behind ≡ ends_operand kind → (next : Nesting) → next ≡ after nesting (role_of kind) → (more : List Token) → more ≡ tokens ++ token ∷ [] → Scanned text (at + n) behind next more
  token_taken token e right low behind behind_is next next_is more more_is =
      let right_here = subst (λ t. (m : MKind) → ¬ IsTokenFault (bytes_of text (token_at kind at n)) nesting t m) e right in
      let more_here : more ≡ tokens ++ token_at kind at n ∷ [] = more_is ∙ ap (λ t. tokens ++ t ∷ []) e in
      subst (λ b. Scanned text (at + n) b next more) (sym behind_is)
      (subst (λ s. Scanned text (at + n) (ends_operand kind) s more) (sym next_is)
      (subst (λ l. Scanned text (at + n) (ends_operand kind) (after nesting (role_of kind)) l) (sym more_here)
      (scan_token text at divides nesting tokens kind n scanned inside stands some within right_here low)))
