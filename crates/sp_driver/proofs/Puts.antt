-- What was put where not all could be put.
use Rattle.std.specs.Prelude.{Result, Ok, Err, OnOk, OnErr}
use Rattle.std.proofs.Common.{◌≡◌, ℕ, List, [], ◌++◌, take, drop, Option, sym, ◌∙◌, refl}
use Rattle.std.proofs.lemmas.List.{append-nil, take-append-drop}
use Rattle.sp_io.specs.Moved.{appended}
use Rattle.sp_io.proofs.Moves.{appended-nil}
use Rattle.sp_command.specs.Puts.{IsPartPut}

-- a front of the text was put
pub part_some : (n : ℕ) (h0 h1 : Option (List ℕ)) (text all : List ℕ) → text ≡ all → h1 ≡ appended h0 (take n text) → IsPartPut h0 h1 all
part_some n h0 h1 text all is put = (take n text, (drop n text, sym is ∙ sym (take-append-drop n text)), put)

-- no line was appended
pub nothing_more : (xs : List ℕ) → xs ≡ xs ++ []
nothing_more xs = sym (append-nil xs)

-- nothing was put
pub part_nothing : (h : Option (List ℕ)) (bytes : List ℕ) → IsPartPut h h bytes
part_nothing h bytes = ([], (bytes, refl), sym (appended-nil h))

pub on_err : {T E : Type 0} (r : Result T E) (P : Type 0) → P → OnErr r P
on_err (Ok v) P p = tt
on_err (Err e) P p = p

pub on_ok : {T E : Type 0} (r : Result T E) (P : Type 0) → P → OnOk r P
on_ok (Ok v) P p = p
on_ok (Err e) P p = tt
