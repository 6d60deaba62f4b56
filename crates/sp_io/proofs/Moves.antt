-- Laws of what is appended and taken.
use Rattle.std.proofs.Common.{◌≡◌, ◌+◌, ◌-◌, ℕ, List, [], ◌++◌, length, take, drop, Option, Some, None, sym, ap, ◌∙◌, refl, append_assoc}
use Rattle.std.proofs.lemmas.List.{append-nil, take_rest}
use Rattle.std.proofs.Math.Seq.{take-add}
use Rattle.sp_io.specs.Moved.{appended, prepended}

pub appended-appended : (held : Option (List ℕ)) (p q : List ℕ) → appended (appended held p) q ≡ appended held (p ++ q)
appended-appended None p q = refl
appended-appended (Some held) p q = ap Some (append_assoc held p q)

pub appended-nil : (held : Option (List ℕ)) → appended held [] ≡ held
appended-nil None = refl
appended-nil (Some held) = ap Some (append-nil held)

pub prepended-prepended : (p q : List ℕ) (left : Option (List ℕ)) → prepended p (prepended q left) ≡ prepended (p ++ q) left
prepended-prepended p q None = refl
prepended-prepended p q (Some left) = ap Some (sym (append_assoc p q left))

pub prepended-nil : (left : Option (List ℕ)) → prepended [] left ≡ left
prepended-nil None = refl
prepended-nil (Some left) = refl

-- one more put of a front of the rest
pub put_step : (held : Option (List ℕ)) (piece : List ℕ) (at n : ℕ) → appended (appended held (take at piece)) (take n (take (length piece - at) (drop at piece))) ≡ appended held (take (at + n) piece)
put_step held piece at n = rw take_rest (appended-appended held _ _ ∙ ap (λ bytes. appended held bytes) (sym (take-add at n piece)))
