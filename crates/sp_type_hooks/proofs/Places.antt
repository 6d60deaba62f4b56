-- What stands round the expressions of a number.
use Rattle.std.proofs.Common.{ℕ, ◌≡◌, refl, zero, suc, ap, ◌∙◌, List, [], ◌∷◌, Option, map}
use Rattle.std.specs.Prelude.{slice_get}
use Rattle.std.specs.Option.{option_map}
use Rattle.sp_type_context.specs.Contexts.{Around}

placed : {C : Type 0} (around : C → Around) (contexts : List C) (n : ℕ) → option_map around (slice_get contexts n) ≡ slice_get (map around contexts) n
placed around [] n = refl
placed around (c ∷ cs) zero = refl
placed around (c ∷ cs) (suc n) = placed around cs n

pub around_at : {C : Type 0} (around : C → Around) (contexts : List C) (n : ℕ) (o : Option C) → o ≡ slice_get contexts n → option_map around o ≡ slice_get (map around contexts) n
around_at around contexts n o e = ap (option_map around) e ∙ placed around contexts n
