-- The value with which a local of a type begins is of the type's kind, whatever instances there are.
use Rattle.std.proofs.Common.{◌≡◌, ℕ, List, [], ◌∷◌, refl, ap}
use Rattle.std.proofs.lemmas.List.{length-replicate}
use Rattle.sp_value.specs.Val.{Val, tuple, val, vals_of}
use Rattle.sp_methods.specs.Kinds.{Has, HasEach, Have, nowhere}
use Rattle.sp_types.specs.declared.words.Word.{Word}
use Rattle.sp_types.specs.declared.words.Word.TheVariants as word_is
use Rattle.sp_types.specs.declared.words.Maker.TheVariants as maker_is
use Rattle.sp_types.specs.Types.{Ty, Tys, word, made, none, more}
use Rattle.sp_meaning_states.specs.Types.{ranges_of, word_zero, zero_value, zero_values, kind_of_word, kind_of_type, kinds_of_types}
use Rattle.sp_meaning.specs.Calls.{zero_slots}
use Rattle.sp_code_programs.specs.programs.Routines.{slot_kinds}

module _ (ranges units : List ℕ) where
  word_has : (w : Word) → Has units (kind_of_word ranges w) (word_zero ranges w)
  word_has word_is.Bool = (_, refl)
  word_has (word_is.Uint w) = (w, _, refl)
  word_has (word_is.Int w) = (w, _, refl)
  word_has word_is.Bytes = (_, refl)
  word_has word_is.String = (_, refl)
  word_has word_is.Iterator = (_, refl)
  word_has (word_is.Enum k) = (_, refl)
  word_has (word_is.Bitfield k) = (_, refl, length-replicate (ranges_of ranges k) 0)
  word_has (word_is.Unit u) = nowhere refl
  word_has _ = refl

  -- the members of a tuple as a list
  abbrev zero_list : Tys → List Val
  zero_list none = []
  zero_list (more t ts) = zero_value ranges t ∷ zero_list ts

  mutual
    pub zero_has : (t : Ty) → Has units (kind_of_type ranges t) (zero_value ranges t)
    zero_has (word w) = word_has w
    zero_has (made maker_is.Tuple ts) = (zero_list ts, ap tuple (zeros_are ts), zeros_have ts)
    zero_has (made maker_is.Vector ts) = ([], refl, tt)
    zero_has (made maker_is.Set ts) = ([], refl, tt)
    zero_has (made maker_is.Map ts) = ([], refl, tt)

    zeros_are : (ts : Tys) → zero_values ranges ts ≡ vals_of (zero_list ts)
    zeros_are none = refl
    zeros_are (more t ts) = ap (val (zero_value ranges t)) (zeros_are ts)

    zeros_have : (ts : Tys) → HasEach units (kinds_of_types ranges ts) (zero_list ts)
    zeros_have none = tt
    zeros_have (more t ts) = (zero_has t, zeros_have ts)

  -- so do the slots of a body
  pub slots_have : (ts : List Ty) → Have units (slot_kinds ranges ts) (zero_slots ranges ts)
  slots_have [] = tt
  slots_have (t ∷ ts) = (zero_has t, slots_have ts)
