use Rattle.std.proofs.Common.{◌≡◌, ◌∙◌, ◌+◌, ◌<◌, ◌≤◌, sym, ap, drop, length, length-drop, arith}
use Rattle.std.proofs.lemmas.List.{take_rest}
use Rattle.sp_lex.proofs.Scans.{scan_blank, scan_bad_fault, scan_bad_least}
use Rattle.sp_lex.specs.Elements.{element_at}
use Rattle.sp_lex.specs.declared.elements.Element.TheVariants as element
use Rattle.sp_lex.proofs.scanner.Progress.step.Goals as goal

pub returns-in-Blank-clause-scanned : goal.returns-in-Blank-clause-scanned
returns-in-Blank-clause-scanned c =
    let at = c.args.self.now.at in
    let text = c.args.text.now in
    let rest = take_rest text at in
    let stands : element_at c.args.self.now.divides (drop at text) ≡ element.Blank c.in-Blank.n = ap (λ r. element_at c.args.self.now.divides r) (sym rest) ∙ sym c.in-Blank.ensures.value in
    let long = c.in-Blank.ensures.within in
    let some : 0 < c.in-Blank.n = long.0 in
    let inside : at + c.in-Blank.n ≤ length text = omega (arith, long.1, ap length rest, length-drop at text) in
    scan_blank text at c.args.self.now.divides c.args.self.now.nesting c.args.self.now.tokens c.in-Blank.n c.requires.scanned c.requires.inside stands some inside

pub returns-in-Bad-clause-fault : goal.returns-in-Bad-clause-fault
returns-in-Bad-clause-fault c =
    let at = c.args.self.now.at in
    let text = c.args.text.now in
    let stands : element_at c.args.self.now.divides (drop at text) ≡ element.Bad = ap (λ r. element_at c.args.self.now.divides r) (sym (take_rest text at)) ∙ sym c.in-Bad.ensures.value in
    rw c.span_of.ensures (scan_bad_fault text at c.args.self.now.divides c.args.self.now.nesting c.args.self.now.tokens c.requires.scanned c.requires.inside stands)

pub returns-in-Bad-clause-least : goal.returns-in-Bad-clause-least
returns-in-Bad-clause-least c =
    let at = c.args.self.now.at in
    let text = c.args.text.now in
    let stands : element_at c.args.self.now.divides (drop at text) ≡ element.Bad = ap (λ r. element_at c.args.self.now.divides r) (sym (take_rest text at)) ∙ sym c.in-Bad.ensures.value in
    rw c.span_of.ensures (scan_bad_least text at c.args.self.now.divides c.args.self.now.nesting c.args.self.now.tokens c.requires.scanned c.requires.inside stands)
