-- The innermost frame of a stack that keeps it last.
use Rattle.std.proofs.Common.{◌≡◌, ◌-◌, List, [], ◌∷◌, ◌++◌, length, reverse, None, Some, refl, sym, ap, ◌∙◌, arith, length-append}
use Rattle.std.specs.Prelude.{false, slice_get}
use Rattle.std.proofs.lemmas.List.{reverse-append}
use Rattle.sp_code.specs.Machine.{is_failing, is_failing_scope}
use Rattle.sp_frames.specs.declared.frame.Frame.{Frame}
use Rattle.sp_frames.specs.Frames.{frame_of, frames_of}

-- a list is empty, or has a last item
data Ends {A : Type 0} (xs : List A) : Type 0 where
  empty : xs ≡ [] → Ends xs
  last : (ys : List A) (y : A) → xs ≡ ys ++ y ∷ [] → Ends xs

before : {A : Type 0} (x : A) (xs : List A) → Ends xs → Ends (x ∷ xs)
before x xs (empty e) = last [] x (ap (λ l. x ∷ l) e)
before x xs (last ys y e) = last (x ∷ ys) y (ap (λ l. x ∷ l) e)

ends : {A : Type 0} (xs : List A) → Ends xs
ends [] = empty refl
ends (x ∷ xs) = before x xs (ends xs)

found : {A : Type 0} (ys : List A) (y : A) → slice_get (ys ++ y ∷ []) (length ys) ≡ Some y
found [] y = refl
found (x ∷ ys) y = found ys y

last_of : {A : Type 0} (ys : List A) (y : A) → slice_get (ys ++ y ∷ []) (length (ys ++ y ∷ []) - 1) ≡ Some y
last_of {A} ys y =
    let n : length (ys ++ y ∷ []) - 1 ≡ length ys = omega (arith, length-append ys (y ∷ [])) in
    ap (slice_get (ys ++ y ∷ [])) n ∙ found ys y

first_of : (ys : List Frame) (y : Frame) → is_failing (frames_of (reverse (ys ++ y ∷ []))) ≡ is_failing_scope (frame_of y).scope
first_of ys y = ap (λ l. is_failing (frames_of l)) (reverse-append ys (y ∷ []))

frame_is : (fs : List Frame) (f : Frame) → Ends fs → slice_get fs (length fs - 1) ≡ Some f → is_failing (frames_of (reverse fs)) ≡ is_failing_scope (frame_of f).scope
frame_is fs f (empty e) h = absurd (let n : None ≡ Some f = ap (λ l. slice_get l (length l - 1)) (sym e) ∙ h in cc)
frame_is fs f (last ys y e) h =
    let same : y ≡ f = (let g : Some y ≡ Some f = sym (last_of ys y) ∙ ap (λ l. slice_get l (length l - 1)) (sym e) ∙ h in cc) in
    ap (λ l. is_failing (frames_of (reverse l))) e ∙ first_of ys y ∙ ap (λ f. is_failing_scope (frame_of f).scope) same

-- the last frame is the innermost one
pub last_frame : (fs : List Frame) (f : Frame) → slice_get fs (length fs - 1) ≡ Some f → is_failing (frames_of (reverse fs)) ≡ is_failing_scope (frame_of f).scope
last_frame fs f h = frame_is fs f (ends fs) h

none_is : (fs : List Frame) → Ends fs → slice_get fs (length fs - 1) ≡ None → is_failing (frames_of (reverse fs)) ≡ false
none_is fs (empty e) h = ap (λ l. is_failing (frames_of (reverse l))) e
none_is fs (last ys y e) h = absurd (let n : Some y ≡ None = sym (last_of ys y) ∙ ap (λ l. slice_get l (length l - 1)) (sym e) ∙ h in cc)

pub no_frame : (fs : List Frame) → slice_get fs (length fs - 1) ≡ None → is_failing (frames_of (reverse fs)) ≡ false
no_frame fs h = none_is fs (ends fs) h
