-- How far a text was read.
use Rattle.std.specs.Prelude.{ℕ, ◌≡◌, ◌≤◌, List, Bool, length, drop}
use Rattle.std.specs.List.{AllByRecursion}
use Rattle.sp_base.specs.declared.kinds.MKind.{MKind}
use Rattle.sp_base.specs.declared.places.Span.{Span}
use Rattle.sp_lex.specs.Faults.{IsReadingFault}
use Rattle.sp_lex.specs.Nesting.{outermost, IsBounded}
use Rattle.sp_lex.specs.Readings.{read_on, reading, behind, HasItsText, IsLongest, InOrder}
use Rattle.sp_lex.specs.declared.nesting.Nesting.{Nesting}
use Rattle.sp_lex.specs.declared.tokens.Token.{Token}

-- The tokens are those of the first `at` bytes, the nesting is that behind them, and what is wrong with the text
-- is what is wrong with the rest.
pub record Scanned (text : List ℕ) (at : ℕ) (divides : Bool) (nesting : Nesting) (tokens : List Token) : Type 0 where
  pub within : at ≤ length text
  pub bounded : IsBounded nesting
  pub ordered : InOrder 0 tokens at
  pub longest : AllByRecursion (IsLongest text) tokens
  pub texts : AllByRecursion (HasItsText text) tokens
  pub same : reading text ≡ behind tokens (read_on at divides 0 (drop at text))
  pub forth : (span : Span) (kind : MKind) → IsReadingFault text outermost (reading text) span kind → IsReadingFault text nesting (read_on at divides 0 (drop at text)) span kind
  pub back : (span : Span) (kind : MKind) → IsReadingFault text nesting (read_on at divides 0 (drop at text)) span kind → IsReadingFault text outermost (reading text) span kind
