-- The least place that frames need, which are kept with the innermost one last.
use Rattle.std.proofs.Common.{◌≡◌, ℕ, ◌+◌, ◌<◌, List, [], ◌∷◌, length, get_or, take, reverse, sym, ap, ◌∙◌}
use Rattle.std.proofs.lemmas.List.{take_more, reverse-append}
use Rattle.sp_meaning_states.specs.Scopes.{needs}
use Rattle.sp_code.specs.Machine.{low_of}
use Rattle.sp_frames.specs.declared.frame.Frame.{Frame}
use Rattle.sp_frames.specs.Frames.{frame_of, frames_of}

-- of those up to a place, the last one is the innermost
pub least_further : (fs : List Frame) (i m : ℕ) (f : Frame) → i < length fs → f ≡ get_or fs i f
    → low_of (frames_of (reverse (take (i + 1) fs))) m ≡ low_of (frames_of (reverse (take i fs))) (needs (frame_of f).scope m)
least_further fs i m f lt e =
    ap (λ l. low_of (frames_of (reverse l)) m) (take_more fs i f lt) ∙ ap (λ l. low_of (frames_of l) m) (reverse-append (take i fs) (get_or fs i f ∷ []))
    ∙ ap (λ x. low_of (frames_of (reverse (take i fs))) (needs (frame_of x).scope m)) (sym e)
