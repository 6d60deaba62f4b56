-- What is left behind a front, and bytes that are refused.
use Rattle.std.proofs.Common.{◌≡◌, ℕ, ◌-◌, ◌≤◌, Bool, true, false, cond, List, [], ◌∷◌, length, take, drop, Ok, Err, refl, sym, ap, ◌∙◌, arith, length-drop}
use Rattle.std.specs.Prelude.{◌&&◌, ◌||◌, ◌==◌, not}
use borrow.Author.Tests.{eq-eqb}
use Rattle.sp_base.specs.declared.kinds.PKind.TheVariants.{BadConversion}
use Rattle.sp_methods.specs.Decoding.{character_in, characters, are_whole, fill_of, is_charset, is_strategy, is_accepted, decode}
use Rattle.sp_methods.proofs.Texts.{whole_strayed}
use Rattle.sp_lib.specs.inside.Fronts.{IsFront}
use Rattle.sp_lib.proofs.Fronts.{take_whole}

-- what is left behind the front, as code lends it
pub left : (n : ℕ) (x : List ℕ) → n ≤ length x → take (length x - n) (drop n x) ≡ drop n x
left n x low = ap (λ k. take k (drop n x)) (sym (length-drop n x)) ∙ sym (take_whole (drop n x))

pub nothing_left : (x : List ℕ) (n : ℕ) → n ≡ length x → drop n x ≡ []
nothing_left [] n e = ap (λ k. drop k []) e
nothing_left (b ∷ x) n e = ap (λ k. drop k (b ∷ x)) e ∙ nothing_left x (length x) refl

neither : {A : Type 0} (s t : Bool) (yes_it y : A) → cond (s && (t && false)) yes_it y ≡ y
neither true true u y = refl
neither true false u y = refl
neither false t u y = refl

module _ (x : List ℕ) (charset strategy : ℕ) where
  -- bytes that are refused
  pub decoded_refused : (w : List ℕ) → strategy ≡ 2 → IsFront charset x w → ¬ (length w ≡ length x) → decode x charset strategy ≡ Err BadConversion
  decoded_refused w s front short = refused (drop (length w) x) refl
    where
      refused : (rest : List ℕ) → drop (length w) x ≡ rest → decode x charset strategy ≡ Err BadConversion
      refused [] e = absurd (let within = front.short in let gone = length-drop (length w) x in let zero_long = ap length e in short (omega arith))
      refused (b ∷ rest) e =
          let bad : are_whole (character_in charset) 0 x ≡ false = front.whole ∙ ap (are_whole (character_in charset) 0) e ∙ whole_strayed (character_in charset) b rest (front.stray b rest e) in
          let no : is_accepted charset strategy x ≡ false = ap (λ t. not (strategy == 2) || t) bad ∙ ap (λ t. not t || false) (eq-eqb strategy 2 s) in
          ap (λ t. cond (is_charset charset && (is_strategy strategy && t)) (Ok (characters (character_in charset) (fill_of strategy) 0 x)) (Err BadConversion)) no
          ∙ neither (is_charset charset) (is_strategy strategy) (Ok (characters (character_in charset) (fill_of strategy) 0 x)) (Err BadConversion)
