-- Readers and writers that tell their bytes, over calls that are made again.
use Rattle.std.specs.Prelude.{Result, Ok, Err, IfSome, option_map}
use Rattle.std.specs.Io.KnownBytes.{Keeps, ReadConsumes, WriteAppends}
use Rattle.std.specs.Io.Take.{take_limit, take_inner, take_remaining}
use Rattle.std.specs.declared.io.traits.Take.{Take}
use Rattle.std.proofs.Common.{◌≡◌, ℕ, List, [], ◌++◌, take, Option, Some, None, sym, ap, subst}

kept_is : (xs : List ℕ) (now : Option (List ℕ)) → Keeps (Some xs) now → now ≡ Some xs
kept_is xs None kept = absurd kept
kept_is xs (Some ys) kept = ap Some kept

pub keeps_more : (first next last : Option (List ℕ)) → Keeps first next → Keeps next last → Keeps first last
keeps_more None next last kept more = tt
keeps_more (Some xs) next last kept more = subst (λ told. Keeps told last) (kept_is xs next kept) more

-- a read behind reads that took nothing
pub read_again : {E : Type 0} (first next last : Option (List ℕ)) (result : Result ℕ E) (buf : List ℕ) → Keeps first next → ReadConsumes next last result buf → ReadConsumes first last result buf
read_again None next last (Ok n) buf kept read = (tt, read.1)
read_again None next last (Err e) buf kept read = tt
read_again (Some xs) next last result buf kept read = subst (λ told. ReadConsumes told last result buf) (kept_is xs next kept) read

-- a write behind writes that wrote nothing
pub write_again : {E : Type 0} (first next last : Option (List ℕ)) (result : Result ℕ E) (buf : List ℕ) → Keeps first next → WriteAppends next last result buf → WriteAppends first last result buf
write_again None next last (Ok n) buf kept wrote = tt
write_again None next last (Err e) buf kept wrote = tt
write_again (Some xs) next last result buf kept wrote = subst (λ told. WriteAppends told last result buf) (kept_is xs next kept) wrote

taken_front : (told : Option (List ℕ)) (limit : ℕ) (bytes : List ℕ) → IfSome (option_map (take limit) told) (λ xs. bytes ≡ [] ++ xs) → IfSome told (λ left. bytes ≡ take limit left)
taken_front None limit bytes read = tt
taken_front (Some left) limit bytes read = read

-- what is read to the end of a reader that stops at a limit is the front of what the reader has left
pub front_read : {R : Type 0} (remaining : R → Option (List ℕ)) (front : Take R) (reader : R) (limit : ℕ) (before after bytes : List ℕ) → take_limit front ≡ limit → take_inner front ≡ reader → before ≡ []
    → bytes ≡ after → IfSome (take_remaining remaining front) (λ xs. after ≡ before ++ xs) → IfSome (remaining reader) (λ left. bytes ≡ take limit left)
front_read remaining front reader limit before after bytes stops inner empty is read =
    taken_front (remaining reader) limit bytes
    (subst (λ (b : List ℕ). IfSome (option_map (take limit) (remaining reader)) (λ xs. b ≡ [] ++ xs)) (sym is)
    (subst (λ (b : List ℕ). IfSome (option_map (take limit) (remaining reader)) (λ xs. after ≡ b ++ xs)) empty
    (subst (λ r. IfSome (option_map (take limit) (remaining r)) (λ xs. after ≡ before ++ xs)) inner
    (subst (λ (n : ℕ). IfSome (option_map (take n) (remaining (take_inner front))) (λ xs. after ≡ before ++ xs)) stops read))))
