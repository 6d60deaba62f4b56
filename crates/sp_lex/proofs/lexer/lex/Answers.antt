use Rattle.std.proofs.Common.{◌≡◌, ◌≤◌, ◌∙◌, sym, subst, length}
use Rattle.std.specs.Prelude.{IfOk, IfErr}
use Rattle.std.specs.List.{AllByRecursion}
use Rattle.sp_base.specs.declared.kinds.MKind.{MKind}
use Rattle.sp_base.specs.declared.places.Span.{Span}
use Rattle.sp_lex.proofs.Least.{if_ok, text_small, text_whole, on_ok, inside_fault, inside_result, right_of_reading, least_of_reading, least_of_both}
use Rattle.sp_lex.specs.Faults.{most_bytes, IsRight, IsReadingFault, GoesBefore, OnDiag}
use Rattle.sp_lex.specs.Lexed.{IsLexed}
use Rattle.sp_lex.specs.Nesting.{outermost}
use Rattle.sp_lex.specs.Readings.{reading, whole, HasItsText, IsLongest, InOrder}
use Rattle.sp_lex.proofs.lexer.lex.Goals as goal

pub lexed-requires-clause-small : goal.lexed-requires-clause-small
lexed-requires-clause-small c =
    let same = c.looked_at-seen.ensures.value ∙ sym (text_whole c.args.source.now c.in-None.ensures.right) in
    subst (λ t. length t ≤ most_bytes) (sym same) (text_small c.args.source.now c.in-None.ensures.right)

pub returns-in-None-clause-text : goal.returns-in-None-clause-text
returns-in-None-clause-text c =
    let same = c.looked_at-seen.ensures.value ∙ sym (text_whole c.args.source.now c.in-None.ensures.right) in
    subst (λ t. IfOk c.lexed.result (λ tokens. tokens.text ≡ t)) same c.lexed.ensures.text

pub returns-in-None-clause-tokens : goal.returns-in-None-clause-tokens
returns-in-None-clause-tokens c =
    let same = c.looked_at-seen.ensures.value ∙ sym (text_whole c.args.source.now c.in-None.ensures.right) in
    subst (λ t. IfOk c.lexed.result (λ tokens. reading t ≡ whole tokens.list)) same
    (if_ok (λ tokens. IsLexed c.looked_at-seen.result.now tokens.list) _ (λ tokens h. h.read) c.lexed.result c.lexed.ensures.lexed)

pub returns-in-None-clause-longest : goal.returns-in-None-clause-longest
returns-in-None-clause-longest c =
    let same = c.looked_at-seen.ensures.value ∙ sym (text_whole c.args.source.now c.in-None.ensures.right) in
    subst (λ t. IfOk c.lexed.result (λ tokens. AllByRecursion (IsLongest t) tokens.list)) same
    (if_ok (λ tokens. IsLexed c.looked_at-seen.result.now tokens.list) _ (λ tokens h. h.longest) c.lexed.result c.lexed.ensures.lexed)

pub returns-in-None-clause-texts : goal.returns-in-None-clause-texts
returns-in-None-clause-texts c =
    let same = c.looked_at-seen.ensures.value ∙ sym (text_whole c.args.source.now c.in-None.ensures.right) in
    subst (λ t. IfOk c.lexed.result (λ tokens. AllByRecursion (HasItsText t) tokens.list)) same
    (if_ok (λ tokens. IsLexed c.looked_at-seen.result.now tokens.list) _ (λ tokens h. h.texts) c.lexed.result c.lexed.ensures.lexed)

pub returns-in-None-clause-each_right : goal.returns-in-None-clause-each_right
returns-in-None-clause-each_right c =
    let same = c.looked_at-seen.ensures.value ∙ sym (text_whole c.args.source.now c.in-None.ensures.right) in
    subst (λ t. IfOk c.lexed.result (λ tokens. AllByRecursion (IsRight t) tokens.list)) same
    (if_ok (λ tokens. IsLexed c.looked_at-seen.result.now tokens.list) _ (λ tokens h. h.right) c.lexed.result c.lexed.ensures.lexed)

pub returns-in-None-clause-order : goal.returns-in-None-clause-order
returns-in-None-clause-order c =
    let same = c.looked_at-seen.ensures.value ∙ sym (text_whole c.args.source.now c.in-None.ensures.right) in
    subst (λ t. IfOk c.lexed.result (λ tokens. InOrder 0 tokens.list (length t))) same
    (if_ok (λ tokens. IsLexed c.looked_at-seen.result.now tokens.list) _ (λ tokens h. h.order) c.lexed.result c.lexed.ensures.lexed)

pub returns-in-None-clause-right : goal.returns-in-None-clause-right
returns-in-None-clause-right c =
    right_of_reading c.args.source.now _ c.in-None.ensures.right c.lexed.result
    (subst (λ t. IfOk c.lexed.result (λ x. (span : Span) (m : MKind) → ¬ IsReadingFault t outermost (reading t) span m)) c.looked_at-seen.ensures.value c.lexed.ensures.right)

pub returns-in-None-clause-least : goal.returns-in-None-clause-least
returns-in-None-clause-least c =
    least_of_reading c.args.source.now _ c.in-None.ensures.right c.lexed.result
    (subst (λ t. IfErr c.lexed.result (OnDiag (λ span m. (other : Span) (k : MKind) → IsReadingFault t outermost (reading t) other k → GoesBefore span m other k))) c.looked_at-seen.ensures.value c.lexed.ensures.least)

pub returns-in-Some-clause-least : goal.returns-in-Some-clause-least
returns-in-Some-clause-least c =
    least_of_both c.args.source.now c.in-Some.fault.span c.in-Some.fault.kind c.in-Some.ensures.fault c.in-Some.ensures.least c.refused.result c.refused.ensures.before_it
    (subst (λ t. OnDiag (λ span m. (other : Span) (k : MKind) → IsReadingFault t outermost (reading t) other k → GoesBefore span m other k) c.refused.result) c.looked_at-seen.ensures.value c.refused.ensures.before_all)

pub returns-in-None-clause-small : goal.returns-in-None-clause-small
returns-in-None-clause-small c = on_ok c.lexed.result (length c.args.source.now ≤ most_bytes) (text_small c.args.source.now c.in-None.ensures.right)

pub returns-in-None-clause-inside : goal.returns-in-None-clause-inside
returns-in-None-clause-inside c = inside_result c.args.source.now c.looked_at-seen.result.now c.looked_at-seen.ensures.value c.lexed.result c.lexed.ensures.inside

pub returns-in-Some-clause-inside : goal.returns-in-Some-clause-inside
returns-in-Some-clause-inside c = inside_fault c.args.source.now c.looked_at-seen.result.now c.looked_at-seen.ensures.value c.refused.result c.refused.ensures.inside
