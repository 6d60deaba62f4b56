-- Rows on which the definitions are run: five hooks, of ranks 0, 5, 0, -1 and 5.
use Rattle.std.specs.Prelude.{ℤ, pos, negsuc, ◌≡◌, List, [], ◌∷◌, Option, Some, None, refl}
use Rattle.sp_words.specs.declared.words.HookName.TheVariants as name_is
use Rattle.sp_type_hook_order.specs.declared.keys.HookKey.{HookKey}
use Rattle.sp_type_hook_order.specs.declared.keys.HookKey.TheVariants as key_is
use Rattle.sp_type_hook_order.specs.Order.{run_order, how_many_before, rank_of, numbers}
use Rattle.sp_type_hook_order.specs.Keys.{hooks_of}

abbrev ranks : List ℤ
ranks = pos 0 ∷ pos 5 ∷ pos 0 ∷ negsuc 0 ∷ pos 5 ∷ []

-- the greater rank first; of one rank those that stand first
order_row : run_order ranks ≡ 1 ∷ 4 ∷ 0 ∷ 2 ∷ 3 ∷ []
order_row = refl

no_hooks_row : run_order [] ≡ []
no_hooks_row = refl

before_row : how_many_before (rank_of ranks) (numbers 0 ranks) 2 ≡ 3
before_row = refl

-- hooks of `%init` of unit 0, of member 2 of unit 0, of nothing, of the member again, and of `%done`
abbrev keys : List (Option HookKey)
keys = Some (key_is.Unit 0 name_is.Init) ∷ Some (key_is.Member 0 2) ∷ None ∷ Some (key_is.Member 0 2) ∷ Some (key_is.Unit 0 name_is.Done) ∷ []

member_row : hooks_of keys ranks (key_is.Member 0 2) ≡ 1 ∷ 3 ∷ []
member_row = refl

init_row : hooks_of keys ranks (key_is.Unit 0 name_is.Init) ≡ 0 ∷ []
init_row = refl

other_unit_row : hooks_of keys ranks (key_is.Member 1 2) ≡ []
other_unit_row = refl

-- a place is no member
anonymous_row : hooks_of keys ranks (key_is.Anonymous 0 2) ≡ []
anonymous_row = refl
