-- A list turned twice.
use Rattle.std.proofs.Common.{◌≡◌, List, reverse}
use Rattle.std.proofs.lemmas.List.{reverse-reverse}

pub turned_twice : {A : Type 0} (xs : List A) → reverse (reverse xs) ≡ xs
turned_twice xs = reverse-reverse xs
