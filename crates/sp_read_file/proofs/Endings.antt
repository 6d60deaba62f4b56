-- What a read tells of a file.
use Rattle.std.specs.Prelude.{IfErr}
use Rattle.std.specs.Result.{IsErrAnd}
use Rattle.std.proofs.Common.{◌≡◌, ℕ, List, Option, Some, Result, Ok, Err, sym, ap, ◌∙◌, subst, inl, inr, length}
use Rattle.sp_base.specs.Places.{line_at, column_at}
use Rattle.sp_base.specs.declared.kinds.MKind.{MKind}
use Rattle.sp_base.specs.declared.places.Place.{Place}
use Rattle.sp_base.specs.declared.places.Span.{Span}
use Rattle.sp_lex.specs.Faults.{OnDiag, IsFault, GoesBefore}
use Rattle.sp_lex.specs.declared.tokens.ReadFault.{ReadFault}
use Rattle.sp_lex.specs.declared.tokens.ReadFault.TheVariants as fault
use Rattle.sp_lex.specs.Lexed.{Lexed}
use Rattle.sp_ast.specs.Trees.{Tree}
use Rattle.sp_read_unit.specs.Modules.{IsModuleTree, IsModuleRefused}
use Rattle.sp_command.specs.Files.{Holds}
use Rattle.sp_read_file.specs.declared.unread.Unread.{Unread}
use Rattle.sp_read_file.specs.Files.{AreTokens, IsModuleOf, IsStopped, IsUnreadable, refused_at, place_in}
use Rattle.sp_read_file.specs.Loads.{IsTextUnread, IsRefusalOrNoMemory}

-- a file is stopped at as its text is
pub stopped_by : (files : Option (List ℕ → Option (List ℕ))) (path text : List ℕ) (unread : Unread) → Holds files path (Some text) → IsTextUnread path text unread → IsStopped files path unread
stopped_by files path text (Unread.Refused refusal) holds is = (Some text, holds, is)
stopped_by files path text Unread.ModulesFault holds is = tt
stopped_by files path text Unread.NoMemory holds is = tt

-- the first fault of the tokens makes the text unreadable
pub unreadable_by : (text : List ℕ) (f : ReadFault) → OnDiag (λ span kind. IsFault text span kind) f
    → OnDiag (λ span kind. (other : Span) (other_kind : MKind) → IsFault text other other_kind → GoesBefore span kind other other_kind) f → OnDiag (λ span kind. IsUnreadable text span kind) f
unreadable_by text (fault.Diag span kind) is least = inl (is, least)
unreadable_by text fault.NoMemory is least = tt

-- the tree of right tokens is that of the text
pub module_by : (text : List ℕ) (lexed : Lexed) (tree : Tree) → lexed.text ≡ text → AreTokens text lexed.list → IsModuleTree lexed tree → IsModuleOf text tree
module_by text lexed tree same right is = (lexed.list, right, subst (λ bytes. IsModuleTree (record { text = bytes; list = lexed.list }) tree) same is)

-- the refusal of the module makes a text with right tokens unreadable
pub module_unreadable : (text : List ℕ) (lexed : Lexed) (f : ReadFault) → lexed.text ≡ text → AreTokens text lexed.list → OnDiag (λ span kind. IsModuleRefused lexed.list (length lexed.text) span kind) f → OnDiag (λ span kind. IsUnreadable text span kind) f
module_unreadable text lexed (fault.Diag span kind) same right is = inr (lexed.list, right, subst (λ bytes. IsModuleRefused lexed.list (length bytes) span kind) same is)
module_unreadable text lexed fault.NoMemory same right is = tt

-- the refusal stands at the line and the column of the fault
pub refused_by : (path text : List ℕ) (f : ReadFault) (span : Span) (kind : MKind) (place : Place) (unread : Unread) → f ≡ fault.Diag span kind → OnDiag (λ span kind. IsUnreadable text span kind) f → place.line ≡ line_at text span.from → place.col ≡ column_at text span.from
    → IsRefusalOrNoMemory path place kind unread → IsTextUnread path text unread
refused_by path text f span kind place (Unread.Refused refusal) diag is line col refusal_is =
    let here : place ≡ place_in text span.from = ap (λ l. let p : Place = record { line = l; col = place.col } in p) line ∙ ap (λ c. let p : Place = record { line = line_at text span.from; col = c } in p) col in
    (span, kind, subst (λ f. OnDiag (λ span kind. IsUnreadable text span kind) f) diag is, refusal_is ∙ ap (λ p. refused_at path p kind) here)
refused_by path text f span kind place Unread.ModulesFault diag is line col none = none
refused_by path text f span kind place Unread.NoMemory diag is line col none = tt

-- what holds of a file that was not read, by what holds of its text
pub unread_by : {T : Type 0} (r : Result T Unread) (P Q : Unread → Type 0) → ((unread : Unread) → P unread → Q unread) → IfErr r P → IfErr r Q
unread_by (Ok v) P Q by is = tt
unread_by (Err e) P Q by is = by e is

pub passed_on : {T : Type 0} (r : Result T Unread) (unread : Unread) (P : Unread → Type 0) → IsErrAnd r (λ e. e ≡ unread) → P unread → IfErr r P
passed_on (Ok v) unread P is by = tt
passed_on (Err e) unread P is by = subst (λ u. P u) (sym is) by
