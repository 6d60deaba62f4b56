-- Laws of pieces of which the first is used up to a place.
use Rattle.std.proofs.Common.{◌≡◌, ◌≢◌, ◌≤◌, ◌<◌, ◌+◌, ℕ, List, [], ◌∷◌, ◌++◌, length, take, drop, get_or, sym, ap, ◌∙◌, refl, arith, append_assoc, length-drop, subst, Some, Result, Ok, Err, OnOk, OnErr, ◌↔◌}
use Rattle.std.proofs.Math.Seq.{take-nil}
use Rattle.std.proofs.lemmas.List.{append-nil, drop_more, take-append-drop, length-take}
use Rattle.std.specs.List.{concat}
use Rattle.sp_io.specs.declared.traits.Took.{Took}
use Rattle.sp_io.specs.declared.traits.Took.TheVariants as took
use Rattle.sp_io.specs.declared.traits.SourceFault.{SourceFault}
use Rattle.sp_io.specs.Moved.{Moves, Takes}
use Rattle.sp_io.specs.Held.{unused, passed, first_piece, IsUsedWithin}

-- nothing is passed over before a piece that has bytes
pub passed-full : (piece : List ℕ) (pieces : List (List ℕ)) → 1 ≤ length piece → passed (piece ∷ pieces) ≡ piece ∷ pieces
passed-full [] pieces some = absurd (omega (arith, some))
passed-full (byte ∷ piece) pieces some = refl

-- nothing is passed over before a piece that is not used up
pub passed-unused : (pieces : List (List ℕ)) (at used : ℕ) (piece : List ℕ) → at < length pieces → piece ≡ get_or pieces at piece → IsUsedWithin used (drop at pieces) → used ≢ length piece
    → passed (unused used (drop at pieces)) ≡ unused used (drop at pieces)
passed-unused pieces at used piece within is fits rest =
    let split : drop at pieces ≡ piece ∷ drop (at + 1) pieces = drop_more pieces at piece within ∙ ap (λ p. p ∷ drop (at + 1) pieces) (sym is) in
    let bound : used ≤ length piece = subst (λ l. IsUsedWithin used l) split fits in
    rw split (passed-full (drop used piece) (drop (at + 1) pieces) (omega (arith, length-drop used piece)))

pub concat-passed : (pieces : List (List ℕ)) → concat (passed pieces) ≡ concat pieces
concat-passed [] = refl
concat-passed ([] ∷ pieces) = concat-passed pieces
concat-passed ((byte ∷ piece) ∷ pieces) = refl

-- the front of the first piece, and all without it, are all
pub concat-unused : (count : ℕ) (pieces : List (List ℕ)) → take count (first_piece pieces) ++ concat (unused count pieces) ≡ concat pieces
concat-unused count [] = ap (λ p. p ++ []) (take-nil count)
concat-unused count (piece ∷ pieces) =
    sym (append_assoc (take count piece) (drop count piece) (concat pieces)) ∙ ap (λ p. p ++ concat pieces) (take-append-drop count piece)

-- a piece that was not passed over has bytes
pub first-passed : (pieces : List (List ℕ)) → passed pieces ≢ [] → 1 ≤ length (first_piece (passed pieces))
first-passed [] some = absurd (some refl)
first-passed ([] ∷ pieces) some = first-passed pieces some
first-passed ((byte ∷ piece) ∷ pieces) some = omega arith

-- a take from pieces that are not used up
pub moves_piece : (most : ℕ) (pieces : List (List ℕ)) (old : List ℕ) → 1 ≤ most → passed pieces ≢ []
    → Moves most (Some (concat pieces)) (Some (concat (unused most (passed pieces)))) old (old ++ take most (first_piece (passed pieces))) (take most (first_piece (passed pieces)))
moves_piece most pieces old one some = record {
  some = omega (arith, one, first-passed pieces some, length-take most (first_piece (passed pieces)));
  bound = omega (arith, length-take most (first_piece (passed pieces)));
  left = ap Some (sym (concat-unused most (passed pieces) ∙ concat-passed pieces));
  into = refl;
}

-- pieces that are used up are no bytes
pub concat-nil : (pieces : List (List ℕ)) → passed pieces ≡ [] → concat pieces ≡ []
concat-nil pieces none = sym (concat-passed pieces) ∙ ap concat none

-- a take from the first piece that is not used up takes from the bytes of all
pub takes_from : (most : ℕ) (pieces rest : List (List ℕ)) (old new : List ℕ) (result : Result Took SourceFault) → 1 ≤ most
    → OnOk result (new ≡ old ++ take most (first_piece (passed pieces)))
    → OnOk result (rest ≡ unused most (passed pieces))
    → (result ≡ Ok took.End) ↔ (passed pieces ≡ [])
    → OnErr result ((rest ≡ pieces) × (new ≡ old))
    → Takes most (Some (concat pieces)) (Some (concat rest)) old new result
takes_from most pieces rest old new (Ok took.Some) one bytes left end same =
    let some : passed pieces ≢ [] = λ none. absurd (cc (end.1 none)) in
    (take most (first_piece (passed pieces)), rw (bytes, left) (moves_piece most pieces old one some))
takes_from most pieces rest old new (Ok took.End) one bytes left end same =
    let none : passed pieces ≡ [] = end.0 refl in
    let before : concat pieces ≡ [] = concat-nil pieces none in
    let nothing : take most (first_piece (passed pieces)) ≡ [] = ap (λ p. take most (first_piece p)) none ∙ take-nil most in (
      record {
        left = ap Some (ap concat (left ∙ ap (λ p. unused most p) none) ∙ sym before);
        into = bytes ∙ ap (λ p. old ++ p) nothing ∙ append-nil old;
      },
      before,
    )
takes_from most pieces rest old new (Err fault) one bytes left end same = record {
  left = ap (λ p. Some (concat p)) same.0;
  into = same.1;
}
