-- What is laid over goes into the list, and can be taken back.
use Rattle.std.proofs.Common.{◌≡◌, ℕ, ◌+◌, ◌-◌, ◌<◌, ◌≤◌, ◌^◌, max, List, [], ◌∷◌, ◌++◌, length, Option, Some, None, IsSome, refl, sym, ap, subst, ◌∙◌, inl, inr, arith}
use Rattle.sp_reasm.specs.declared.piece.Piece.{Piece}
use Rattle.sp_reasm.specs.declared.piece.Content.TheVariants.{Bytes, Missing}
use Rattle.sp_reasm.specs.declared.piece.Spot.{Spot}
use Rattle.sp_reasm.specs.declared.piece.Spot.TheVariants.{Bytes as SpotBytes, Missing as SpotMissing, Free}
use Rattle.sp_reasm.specs.Owners.{Owner, Write, Gap, covering, or_else}
use Rattle.sp_reasm.specs.Pieces.{size_of, has, past_of, AreData, AreLost, AreFree, IsSpot, spot_len, laid}
use Rattle.sp_reasm.specs.inside.Filling.{without, undone, IsKept, IsPut, IsFilled}
use Rattle.sp_reasm.proofs.PieceLemmas.{byte_some, covering_write, covering_gap, covering_before, covering_behind, or_none}
use Rattle.sp_reasm.proofs.FloorLemmas.{or_some}
use Rattle.sp_reasm.proofs.PlaceLemmas.{below_or}
use Rattle.sp_reasm.proofs.RunLemmas.{laid_behind}

pub undone-push : (starts : List ℕ) (start : ℕ) (pieces : List Piece) → undone (starts ++ start ∷ []) pieces ≡ undone starts (without start pieces)
undone-push [] start pieces = refl
undone-push (s ∷ starts) start pieces = ap (λ l. without s l) (undone-push starts start pieces)

-- where data are there is nothing to put
pub covered_data : (f : ℕ → Option Owner) (start : ℕ) (cover : Spot) (at : ℕ) (bytes : List ℕ) → AreData f at bytes → IsPut f f start cover at (at + length bytes)
covered_data f start cover at bytes h = record {
  grows = let s = h.some in omega (arith, s);
  below = λ q less. refl;
  within = λ q low high.
      let place : at + (q - at) ≡ q = omega (arith, low) in
      sym (or_some (f q) (laid start cover q) (subst (λ o. IsSome o) (sym (h.each (q - at) (omega (arith, low, high))) ∙ ap f place) (byte_some bytes (q - at) (omega (arith, low, high)))));
  above = λ q more. refl;
}

pub covered_lost : (f : ℕ → Option Owner) (start : ℕ) (cover : Spot) (at len : ℕ) → AreLost f at len → IsPut f f start cover at (at + len)
covered_lost f start cover at len h = record {
  grows = let s = h.some in omega (arith, s);
  below = λ q less. refl;
  within = λ q low high.
      let place : at + (q - at) ≡ q = omega (arith, low) in
      sym (or_some (f q) (laid start cover q) (subst (λ o. IsSome o) (sym (h.each (q - at) (omega (arith, low, high))) ∙ ap f place) refl));
  above = λ q more. refl;
}

-- what a cover has is what the piece of it has
has_part : (g : ℕ → Option Owner) (at : ℕ) (part : Spot) (piece : Piece) → IsKept at part (Some piece) → IsSpot g at part → (q : ℕ) → at ≤ q → q < at + spot_len part → has piece q ≡ g q
has_part g at (SpotBytes bytes) piece kept spot q low high =
    let place : at + (q - at) ≡ q = omega (arith, low) in
    ap (λ o. has (piece_or piece o) q) kept
    ∙ ap (λ k. covering (Write at bytes.now) k) (sym place) ∙ covering_write at (q - at) bytes.now
    ∙ sym (spot.each (q - at) (omega (arith, low, high))) ∙ ap g place
  where
    piece_or : Piece → Option Piece → Piece
    piece_or other None = other
    piece_or other (Some p) = p
has_part g at (SpotMissing len) piece kept spot q low high =
    let place : at + (q - at) ≡ q = omega (arith, low) in
    ap (λ o. has (piece_or piece o) q) kept
    ∙ ap (λ k. covering (Gap at len) k) (sym place) ∙ covering_gap at (q - at) len (omega (arith, low, high))
    ∙ sym (spot.each (q - at) (omega (arith, low, high))) ∙ ap g place
  where
    piece_or : Piece → Option Piece → Piece
    piece_or other None = other
    piece_or other (Some p) = p
has_part g at (Free len) piece kept spot q low high = absurd (let e : ◌≡◌ {A = Option Piece} (Some piece) None = kept in cc)

abbrev pub start_in : Option Piece → ℕ
start_in None = 0
start_in (Some p) = p.start

abbrev pub size_in : Option Piece → ℕ
size_in None = 0
size_in (Some p) = size_of p.content

pub kept_start : (at : ℕ) (part : Spot) (piece : Piece) → IsKept at part (Some piece) → piece.start ≡ at
kept_start at (SpotBytes bytes) piece kept = ap start_in kept
kept_start at (SpotMissing len) piece kept = ap start_in kept
kept_start at (Free len) piece kept = absurd (let e : ◌≡◌ {A = Option Piece} (Some piece) None = kept in cc)

pub kept_size : (at : ℕ) (part : Spot) (piece : Piece) → IsKept at part (Some piece) → size_of piece.content ≡ spot_len part
kept_size at (SpotBytes bytes) piece kept = ap size_in kept
kept_size at (SpotMissing len) piece kept = ap size_in kept
kept_size at (Free len) piece kept = absurd (let e : ◌≡◌ {A = Option Piece} (Some piece) None = kept in cc)

pub kept_some : (g : ℕ → Option Owner) (at : ℕ) (part : Spot) (piece : Piece) → IsKept at part (Some piece) → IsSpot g at part → 0 < size_of piece.content
kept_some g at (SpotBytes bytes) piece kept spot = let e = kept_size at (SpotBytes bytes) piece kept in let s = spot.some in omega (arith, e, s)
kept_some g at (SpotMissing len) piece kept spot = let e = kept_size at (SpotMissing len) piece kept in let s = spot.some in omega (arith, e, s)
kept_some g at (Free len) piece kept spot = absurd (let e : ◌≡◌ {A = Option Piece} (Some piece) None = kept in cc)

pub kept_fits : (g : ℕ → Option Owner) (at : ℕ) (part : Spot) (piece : Piece) → IsKept at part (Some piece) → IsSpot g at part → past_of piece ≤ 2 ^ 62
kept_fits g at (SpotBytes bytes) piece kept spot = let e = kept_size at (SpotBytes bytes) piece kept in let b = kept_start at (SpotBytes bytes) piece kept in let s = spot.fits in omega (arith, e, b, s)
kept_fits g at (SpotMissing len) piece kept spot = let e = kept_size at (SpotMissing len) piece kept in let b = kept_start at (SpotMissing len) piece kept in let s = spot.fits in omega (arith, e, b, s)
kept_fits g at (Free len) piece kept spot = absurd (let e : ◌≡◌ {A = Option Piece} (Some piece) None = kept in cc)

free_in : (f : ℕ → Option Owner) (at room q : ℕ) → AreFree f at room → at ≤ q → q < at + room → f q ≡ None
free_in f at room q free low high =
    let place : q ≡ at + (q - at) = omega (arith, low) in
    ap f place ∙ free.each (q - at) (omega (arith, low, high))

pub kept_free : (f g : ℕ → Option Owner) (at room : ℕ) (part : Spot) (piece : Piece) → IsKept at part (Some piece) → spot_len part ≤ room → AreFree f at room → (q : ℕ) → piece.start ≤ q → q < past_of piece → f q ≡ None
kept_free f g at room part piece kept within free q low high =
    let e = kept_size at part piece kept in
    let b = kept_start at part piece kept in
    free_in f at room q free (omega (arith, low, b)) (omega (arith, high, b, e, within))

pub piece_put : (f new : ℕ → Option Owner) (start : ℕ) (cover : Spot) (at room : ℕ) (part : Spot) (piece : Piece) → IsKept at part (Some piece) → IsSpot (laid start cover) at part → spot_len part ≤ room → AreFree f at room → ((q : ℕ) → new q ≡ or_else (f q) (has piece q)) → IsPut f new start cover at (at + spot_len part)
piece_put f new start cover at room part piece kept spot within free put =
    let size = kept_size at part piece kept in
    let begins = kept_start at part piece kept in
    let some = kept_some (laid start cover) at part piece kept spot in
    record {
      grows = omega (arith, size, some);
      below = λ q less. put q ∙ ap (λ o. or_else (f q) o) (covering_before piece.start piece.content q (omega (arith, less, begins))) ∙ or_none (f q);
      within = λ q low high. put q ∙ ap (λ o. or_else (f q) o) (has_part (laid start cover) at part piece kept spot q low high);
      above = λ q more. put q ∙ ap (λ o. or_else (f q) o) (covering_behind piece.start piece.content q (omega (arith, more, begins, size))) ∙ or_none (f q);
    }

-- where a cover has nothing there is nothing to put
pub none_put : (f : ℕ → Option Owner) (start : ℕ) (cover : Spot) (at room : ℕ) (part : Spot) → at < 2 ^ 64 - 1 → IsKept at part None → IsSpot (laid start cover) at part → spot_len part ≤ room → AreFree f at room → IsPut f f start cover at (at + spot_len part)
none_put f start cover at room (SpotBytes bytes) small kept spot within free = absurd (let e : ◌≡◌ {A = Option Piece} None (Some (record { start = at; content = Bytes bytes.now })) = kept in cc)
none_put f start cover at room (SpotMissing len) small kept spot within free = absurd (let e : ◌≡◌ {A = Option Piece} None (Some (record { start = at; content = Missing len })) = kept in cc)
none_put f start cover at room (Free len) small kept spot within free =
    let some = spot.some small in
    record {
      grows = omega (arith, some);
      below = λ q less. refl;
      within = λ q low high. sym (ap (λ o. or_else (f q) o) (free_in (laid start cover) at len q spot low high) ∙ or_none (f q));
      above = λ q more. refl;
    }

-- what was put from a number up to another
pub record Fills (old new : ℕ → Option Owner) (start : ℕ) (cover : Spot) (from at : ℕ) : Type 0 where
  pub grows : from ≤ at
  pub below : (q : ℕ) → q < from → new q ≡ old q
  pub within : (q : ℕ) → from ≤ q → q < at → new q ≡ or_else (old q) (laid start cover q)
  pub above : (q : ℕ) → at ≤ q → new q ≡ old q

pub fills_first : (f : ℕ → Option Owner) (start : ℕ) (cover : Spot) (from : ℕ) → Fills f f start cover from from
fills_first f start cover from = record { grows = omega arith; below = λ q h. refl; within = λ q low high. absurd (omega (arith, low, high)); above = λ q h. refl }

pub fills_on : (old mid new : ℕ → Option Owner) (start : ℕ) (cover : Spot) (from at next : ℕ) → Fills old mid start cover from at → IsPut mid new start cover at next → Fills old new start cover from next
fills_on old mid new start cover from at next fills put =
    let grows = fills.grows in
    let more = put.grows in
    record {
      grows = omega (arith, grows, more);
      below = λ q h. put.below q (omega (arith, h, grows)) ∙ fills.below q h;
      within = λ q low high. elim (below_or q at) [
        | inl left ↦ put.below q left ∙ fills.within q low left
        | inr right ↦ put.within q right high ∙ ap (λ o. or_else o (laid start cover q)) (fills.above q right)
      ];
      above = λ q h. put.above q h ∙ fills.above q (omega (arith, h, more));
    }

pub fills_end : (old new : ℕ → Option Owner) (start : ℕ) (cover : Spot) (from at : ℕ) → Fills old new start cover from at → start + spot_len cover ≤ at → IsFilled old new start cover from
fills_end old new start cover from at fills ended = record {
  below = fills.below;
  rest = λ q low. elim (below_or q at) [
    | inl left ↦ fills.within q low left
    | inr right ↦ fills.above q right ∙ sym (ap (λ o. or_else (old q) o) (laid_behind start cover q (omega (arith, right, ended))) ∙ or_none (old q))
  ];
}

laid_before : (start : ℕ) (cover : Spot) (q : ℕ) → q < start → laid start cover q ≡ None
laid_before start (SpotBytes bytes) q h = covering_before start (Bytes bytes.now) q h
laid_before start (SpotMissing len) q h = covering_before start (Missing len) q h
laid_before start (Free len) q h = refl

-- the owners from the head on, after what is laid over went into the list from there on
pub filled_above : (old new : ℕ → Option Owner) (start : ℕ) (cover : Spot) (head q : ℕ) → IsFilled old new start cover (max start head) → head ≤ q → new q ≡ or_else (old q) (laid start cover q)
filled_above old new start cover head q filled low = elim (below_or q (max start head)) [
  | inl left ↦ filled.below q left ∙ sym (ap (λ o. or_else (old q) o) (laid_before start cover q (omega (arith, left, low))) ∙ or_none (old q))
  | inr right ↦ filled.rest q right
]
