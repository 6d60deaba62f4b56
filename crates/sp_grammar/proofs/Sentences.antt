-- What the table derives are the sentences of the grammar.
use Rattle.std.proofs.Common.{◌≡◌, ℕ, ◌+◌, List, ◌++◌, take, Result, Ok, Err, subst}
use Rattle.std.specs.Prelude.{IfOk}
use Rattle.sp_parser.specs.declared.symbol.ActionAt.{ActionAt}
use Rattle.sp_parser.specs.declared.outcome.Outcome.{Outcome}
use Rattle.sp_parser.specs.declared.outcome.Outcome.TheVariants.{Phrase, Refused}
use Rattle.sp_parser.specs.Grammar.{Derives, IsViable, IsLongestViable}
use Rattle.sp_parser.specs.Outcome.{IsParsed as IsDerived}
use Rattle.sp_grammar.specs.declared.language.Start.{Start}
use Rattle.sp_grammar.specs.Language.{language}
use Rattle.sp_grammar.specs.Starts.{start_number, part_of}
use Rattle.sp_grammar.specs.Sentences.{IsSentence, BeginsSentence, IsLongestPrefix, IsParsed}
use Rattle.sp_grammar.proofs.OwnWords.{read_of_table, table_of_read, start_part}

pub sentence : (start : Start) (w : List ℕ) (τ : List ActionAt) → Derives language (start_number start) w τ → IsSentence start w τ
sentence start w τ d = read_of_table (part_of start) (start_part start) w τ d

pub derived : (start : Start) (w : List ℕ) (τ : List ActionAt) → IsSentence start w τ → Derives language (start_number start) w τ
derived start w τ r = table_of_read (part_of start) (start_part start) w τ r

begins : (start : Start) (w : List ℕ) → IsViable language (start_number start) w → BeginsSentence start w
begins start w v = (v.0, v.1, v.2, sentence start (w ++ v.0) v.1 v.3)

viable : (start : Start) (w : List ℕ) → BeginsSentence start w → IsViable language (start_number start) w
viable start w b = (b.0, b.1, b.2, derived start (w ++ b.0) b.1 b.3)

longest : (start : Start) (w : List ℕ) (m : ℕ) → IsLongestViable language (start_number start) w m → IsLongestPrefix start w m
longest start w m l = record {
  within = l.within;
  begins = begins start (take m w) l.begins;
  stops = λ below b. l.stops below (viable start (take (m + 1) w) b);
}

-- what the table's parser answers, by the grammar
pub parsed : (start : Start) (w : List ℕ) (at : ℕ) (ArePassed : List ActionAt → Type 0) (o : Outcome) → IsDerived language (start_number start) w at ArePassed o → IsParsed start w at ArePassed o
parsed start w at ArePassed (Phrase j) (m, behind, l, (τ, passed, d)) = (m, behind, longest start w m l, (τ, passed, sentence start (take m w) τ d))
parsed start w at ArePassed (Refused j) (m, behind, l, none) = (m, behind, longest start w m l, λ τ r. none τ (derived start (take m w) τ r))

on_ok : {T E : Type 0} (r : Result T E) (P Q : T → Type 0) → ((t : T) → P t → Q t) → IfOk r P → IfOk r Q
on_ok (Ok t) P Q f h = f t h
on_ok (Err e) P Q f h = tt

pub answered : {E : Type 0} (start : Start) (n : ℕ) (w : List ℕ) (at : ℕ) (ArePassed : List ActionAt → Type 0) (r : Result Outcome E) → n ≡ start_number start → IfOk r (λ o. IsDerived language n w at ArePassed o) → IfOk r (λ o. IsParsed start w at ArePassed o)
answered start n w at ArePassed r e h = on_ok r (λ o. IsDerived language n w at ArePassed o) (λ o. IsParsed start w at ArePassed o) (λ o d. parsed start w at ArePassed o (subst (λ k. IsDerived language k w at ArePassed o) e d)) h
