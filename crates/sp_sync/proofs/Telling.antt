-- What a search was told, after each call.
use Rattle.std.proofs.Common.{◌≡◌, ℕ, ◌+◌, ◌<◌, ◌≤◌, ◌⊎◌, ◌++◌, ◌∷◌, Bool, true, false, List, [], length, take, drop, refl, ap, sym, subst, ◌∙◌, inl, inr, arith, length-append, get_or}
use Rattle.std.proofs.lemmas.List.{take-append-le, drop-append-le, take-append-drop, length-drop, take_all, take_more, get_or-drop}
use Rattle.sp_regex.specs.Trees.{Syntax}
use Rattle.sp_match.specs.declared.matcher.Matcher.{Matcher}
use Rattle.sp_match.specs.Matching.{CanGrow, NoMatch}
use Rattle.sp_match.specs.Sizes.{HasRead}
use Rattle.sp_match.proofs.Whole.{no_match_first}
use Rattle.sp_sync.specs.declared.found.Found.{Found}
use Rattle.sp_sync.specs.declared.found.Found.TheVariants as found
use Rattle.sp_sync.specs.Places.{Fails, FailBefore, IsUndecided, IsLeastUndecided, IsPlace, IsByteAt}
use Rattle.sp_sync.specs.Told.{PartsTold, Stands, IsAnswer}
use Rattle.sp_sync.proofs.Placing.{token_of_all, fails_more, fail_more, fail_next, none_anywhere}

-- the bytes given, with the next one of the data
next_given : (d : List ℕ) (passed read b : ℕ) → passed + read < length d → get_or d (passed + read) 0 ≡ b → take (read + 1) (drop passed d) ≡ take read (drop passed d) ++ b ∷ []
next_given d passed read b lt is =
    let long = length-drop passed d in
    take_more (drop passed d) read 0 (omega arith) ∙ ap (λ z. take read (drop passed d) ++ z ∷ []) (get_or-drop passed d read 0 ∙ is)

-- where the present start fails by the bytes given, it fails by all data
fails_by : (tokens : List Syntax) (d : List ℕ) (ended : Bool) (passed n : ℕ) → NoMatch tokens (take n (drop passed d)) → (CanGrow tokens (take n (drop passed d)) → ⊥) → Fails tokens (drop passed d) ended
fails_by tokens d ended passed n misses grows = subst (λ z. Fails tokens z ended) (take-append-drop n (drop passed d)) (fails_more tokens (take n (drop passed d)) (drop n (drop passed d)) ended (misses, inr grows))

pub told_first : (m : Matcher) (start wants : ℕ) (tokens : List Syntax) (from : ℕ) (d : List ℕ) (ended : Bool) → start ≡ from → wants ≡ from → HasRead m tokens [] → PartsTold m start wants found.Need tokens from d ended
told_first m start wants tokens from d ended begun wanting read = record {
  passed = 0;
  read = 0;
  starts = omega arith;
  wanted = omega arith;
  within = omega arith;
  failed = λ j lt. absurd (omega arith);
  given = read;
  stands = (no_match_first tokens read.set.is_net.none_empty, inr refl);
}

-- the bytes from the present start on, with the next one of the data
record NextByte (d : List ℕ) (passed read b : ℕ) : Type 0 where
  pub within : passed + (read + 1) ≤ length d
  pub given : take (read + 1) (drop passed d) ≡ take read (drop passed d) ++ b ∷ []

next_byte : (start wants : ℕ) (from : ℕ) (d : List ℕ) (passed read b : ℕ) → start ≡ from + passed → wants ≡ start + read → IsByteAt from d wants b → NextByte d passed read b
next_byte start wants from d passed read b starts wanted at =
    let e = at.1 in
    let lt = at.2 in
    let same : at.0 ≡ passed + read = omega arith in
    record {
      within = omega arith;
      given = next_given d passed read b (omega arith) (subst (λ z. get_or d z 0 ≡ b) same at.3);
    }

-- The present start has its next byte: a token begins, or it waits.
pub told_byte : (m n : Matcher) (start wants start' wants' : ℕ) (tokens : List Syntax) (from : ℕ) (d : List ℕ) (ended : Bool) (b : ℕ) (now : Found) → (h : PartsTold m start wants found.Need tokens from d ended) → IsByteAt from d wants b → start' ≡ start → wants' ≡ wants + 1 → HasRead n tokens (take h.read (drop h.passed d) ++ b ∷ []) → ((passed : ℕ) → passed < length d → Stands tokens d ended passed (take h.read (drop h.passed d) ++ b ∷ []) start' now) → PartsTold n start' wants' now tokens from d ended
told_byte m n start wants start' wants' tokens from d ended b now h at same next read stands =
    let k = next_byte start wants from d h.passed h.read b h.starts h.wanted at in
    let wanted = h.wanted in
    let within = k.within in
    record {
      passed = h.passed;
      read = h.read + 1;
      starts = same ∙ h.starts;
      wanted = omega arith;
      within = k.within;
      failed = h.failed;
      given = subst (HasRead n tokens) (sym k.given) read;
      stands = subst (λ w. Stands tokens d ended h.passed w start' now) (sym k.given) (stands h.passed (omega arith));
    }

-- the next start, where the present one has failed
told_next : (m n : Matcher) (start wants start' wants' : ℕ) (tokens : List Syntax) (from : ℕ) (d : List ℕ) (ended : Bool) → (h : PartsTold m start wants found.Need tokens from d ended) → h.passed < length d → start' ≡ start + 1 → wants' ≡ start + 1 → HasRead n tokens [] → Fails tokens (drop h.passed d) ended → PartsTold n start' wants' found.Need tokens from d ended
told_next m n start wants start' wants' tokens from d ended h lt next wanting read fails =
    let starts = h.starts in
    record {
      passed = h.passed + 1;
      read = 0;
      starts = omega arith;
      wanted = omega arith;
      within = omega arith;
      failed = fail_next tokens d ended h.passed h.failed fails;
      given = read;
      stands = (no_match_first tokens read.set.is_net.none_empty, inr refl);
    }

pub told_failed : (m n : Matcher) (start wants start' wants' : ℕ) (tokens : List Syntax) (from : ℕ) (d : List ℕ) (ended : Bool) (b : ℕ) → (h : PartsTold m start wants found.Need tokens from d ended) → IsByteAt from d wants b → start' ≡ start + 1 → wants' ≡ start + 1 → HasRead n tokens [] → NoMatch tokens (take h.read (drop h.passed d) ++ b ∷ []) → (CanGrow tokens (take h.read (drop h.passed d) ++ b ∷ []) → ⊥) → PartsTold n start' wants' found.Need tokens from d ended
told_failed m n start wants start' wants' tokens from d ended b h at next wanting read misses stops =
    let k = next_byte start wants from d h.passed h.read b h.starts h.wanted at in
    let within = k.within in
    told_next m n start wants start' wants' tokens from d ended h (omega arith) next wanting read (fails_by tokens d ended h.passed (h.read + 1) (subst (NoMatch tokens) (sym k.given) misses) (λ grows. stops (subst (CanGrow tokens) k.given grows)))

-- at the end of the data all bytes from the present start on were given
all_given : (d : List ℕ) (passed read : ℕ) → length d ≡ passed + read → take read (drop passed d) ≡ drop passed d
all_given d passed read e = let long = length-drop passed d in take_all read (drop passed d) (omega arith)

pub told_ended : (m n : Matcher) (start wants start' wants' : ℕ) (tokens : List Syntax) (from : ℕ) (d : List ℕ) → PartsTold m start wants found.Need tokens from d true → wants ≡ from + length d → start < wants → start' ≡ start + 1 → wants' ≡ start + 1 → HasRead n tokens [] → PartsTold n start' wants' found.Need tokens from d true
told_ended m n start wants start' wants' tokens from d h last lt next wanting read =
    let starts = h.starts in
    let wanted = h.wanted in
    let whole : length d ≡ h.passed + h.read = omega arith in
    told_next m n start wants start' wants' tokens from d true h (omega arith) next wanting read (subst (NoMatch tokens) (all_given d h.passed h.read whole) h.stands.0, inl refl)

pub told_nowhere : (m : Matcher) (start wants : ℕ) (tokens : List Syntax) (from : ℕ) (d : List ℕ) → PartsTold m start wants found.Need tokens from d true → wants ≡ from + length d → wants ≤ start → PartsTold m start wants found.Nowhere tokens from d true
told_nowhere m start wants tokens from d h last none =
    let starts = h.starts in
    let wanted = h.wanted in
    record {
      passed = h.passed;
      read = h.read;
      starts = h.starts;
      wanted = h.wanted;
      within = h.within;
      failed = h.failed;
      given = h.given;
      stands = (refl, omega arith);
    }

stands_more : (tokens : List Syntax) (d t : List ℕ) (ended : Bool) (passed : ℕ) (w : List ℕ) (start : ℕ) (now : Found) → Stands tokens d false passed w start now → Stands tokens (d ++ t) ended passed w start now
stands_more tokens d t ended passed w start (found.At k) h = (h.0, (let e = length-append d t in let lt = h.1 in omega arith), h.2)
stands_more tokens d t ended passed w start found.Need h = h
stands_more tokens d t ended passed w start found.Nowhere h = absurd (let k : false ≡ true = h.0 in cc)

given_more : (d t : List ℕ) (passed read : ℕ) → passed + read ≤ length d → take read (drop passed (d ++ t)) ≡ take read (drop passed d)
given_more d t passed read le =
    let long = length-drop passed d in
    ap (take read) (drop-append-le passed d t (omega arith)) ∙ take-append-le read (drop passed d) t (omega arith)

pub told_with_more : (m : Matcher) (start wants : ℕ) (now : Found) (tokens : List Syntax) (from : ℕ) (d t : List ℕ) (ended : Bool) → PartsTold m start wants now tokens from d false → PartsTold m start wants now tokens from (d ++ t) ended
told_with_more m start wants now tokens from d t ended h =
    let within = h.within in
    let e = length-append d t in
    let same = sym (given_more d t h.passed h.read h.within) in
    record {
      passed = h.passed;
      read = h.read;
      starts = h.starts;
      wanted = h.wanted;
      within = omega arith;
      failed = fail_more tokens d t ended h.passed (omega arith) h.failed;
      given = subst (HasRead m tokens) same h.given;
      stands = subst (λ w. Stands tokens (d ++ t) ended h.passed w start now) same (stands_more tokens d t ended h.passed (take h.read (drop h.passed d)) start now h.stands);
    }

pub start_fails : (m : Matcher) (start wants : ℕ) (now : Found) (tokens : List Syntax) (from : ℕ) (d : List ℕ) (ended : Bool) → PartsTold m start wants now tokens from d ended → (j : ℕ) → from + j < start → Fails tokens (drop j d) ended
start_fails m start wants now tokens from d ended h j lt = let starts = h.starts in h.failed j (omega arith)

undecided : (tokens : List Syntax) (d : List ℕ) (passed read : ℕ) → length d ≡ passed + read → NoMatch tokens (take read (drop passed d)) → CanGrow tokens (take read (drop passed d)) ⊎ (take read (drop passed d) ≡ []) → IsUndecided tokens d passed
undecided tokens d passed read whole misses (inl grows) = (omega arith, subst (NoMatch tokens) (all_given d passed read whole) misses, inl (subst (CanGrow tokens) (all_given d passed read whole) grows))
undecided tokens d passed read whole misses (inr none) =
    let empty : drop passed d ≡ [] = sym (all_given d passed read whole) ∙ none in
    let long = length-drop passed d in
    let zeros : length (drop passed d) ≡ 0 = ap length empty in
    (omega arith, subst (NoMatch tokens) (all_given d passed read whole) misses, inr (omega arith))

pub start_waits : (m : Matcher) (start wants : ℕ) (tokens : List Syntax) (from : ℕ) (d : List ℕ) → PartsTold m start wants found.Need tokens from d false → wants ≡ from + length d → IsLeastUndecided tokens from d start
start_waits m start wants tokens from d h last =
    let starts = h.starts in
    let wanted = h.wanted in
    (h.passed, h.starts, undecided tokens d h.passed h.read (omega arith) h.stands.0 h.stands.1, h.failed)

pub place_at : (m : Matcher) (start wants k : ℕ) (tokens : List Syntax) (from : ℕ) (d : List ℕ) (ended : Bool) → PartsTold m start wants (found.At k) tokens from d ended → IsPlace tokens from d ended (found.At k)
place_at m start wants k tokens from d ended h = (h.passed, h.stands.0 ∙ h.starts, h.stands.1, token_of_all tokens h.read (drop h.passed d) h.stands.2, h.failed)

pub place_nowhere : (m : Matcher) (start wants : ℕ) (tokens : List Syntax) (from : ℕ) (d : List ℕ) (ended : Bool) → PartsTold m start wants found.Nowhere tokens from d ended → IsPlace tokens from d ended found.Nowhere
place_nowhere m start wants tokens from d ended h = (h.stands.0, none_anywhere tokens d ended h.given.set.is_net.none_empty (subst (FailBefore tokens d ended) h.stands.1 h.failed))

pub place_waits : (m : Matcher) (start wants : ℕ) (tokens : List Syntax) (from : ℕ) (d : List ℕ) (ended : Bool) → PartsTold m start wants found.Need tokens from d ended → ended ≡ false → wants ≡ from + length d → IsPlace tokens from d ended found.Need
place_waits m start wants tokens from d ended h unended last = (unended, (start, start_waits m start wants tokens from d (subst (PartsTold m start wants found.Need tokens from d) unended h) last))

pub answers : (m : Matcher) (start wants : ℕ) (now : Found) (tokens : List Syntax) (from : ℕ) (d : List ℕ) (ended : Bool) → PartsTold m start wants now tokens from d ended → IsAnswer tokens from d ended wants now
answers m start wants (found.At k) tokens from d ended h = place_at m start wants k tokens from d ended h
answers m start wants found.Need tokens from d ended h = λ unended last. place_waits m start wants tokens from d ended h unended last
answers m start wants found.Nowhere tokens from d ended h = place_nowhere m start wants tokens from d ended h
