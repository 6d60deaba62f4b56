-- Units as the code makes them, and as the definition says.
use Rattle.std.proofs.Common.{ℕ, ℤ, ◌≡◌, ◌<◌, ◌+◌, suc, refl, ap, sym, ◌∙◌, arith, List, [], ◌∷◌, ◌++◌, length, drop, map, get_or, Option}
use Rattle.std.proofs.lemmas.List.{append_assoc, at_drop_more}
use Rattle.sp_ast.specs.Trees.{Tree}
use Rattle.sp_types.specs.Types.{Ty}
use Rattle.sp_solver.specs.Told.{told}
use Rattle.sp_typed.specs.declared.words.UnitMethod.TheVariants as method_is
use Rattle.sp_typed_units.specs.declared.declarations.Hook.{Hook}
use Rattle.sp_typed_units.specs.declared.declarations.Unit.{Unit as Row}
use Rattle.sp_type_context.specs.Contexts.{Around}
use Rattle.sp_type_values.specs.declared.answer.Answer.{Answer}
use Rattle.sp_type_values.specs.Answers.{values}
use Rattle.sp_type_hook_order.specs.declared.keys.HookKey.{HookKey}
use Rattle.sp_type_hook_rows.specs.declared.sites.Site.{Site}
use Rattle.sp_type_hook_rows.specs.declared.rows.HookRow.{HookRow}
use Rattle.sp_type_unit_calls.specs.HookCalling.{callers}
use Rattle.sp_type_units.specs.UnitRows.{unit_row}
use Rattle.sp_type_answers.specs.Lists.{by_keys, calls_of, units_from}
use Rattle.sp_type_list.specs.inside.Units.{units_by}

-- a step of a loop over what stands round each
pub units_step : {X : Type 0} (stands : X → Around) (made : ℕ → List Around → List Row) (one : ℕ → Around → Row) → ((n : ℕ) (g : Around) (gs : List Around) → made n (g ∷ gs) ≡ one n g ∷ made (suc n) gs)
    → (xs : List X) (i : ℕ) (x : X) (old new whole : List Row) → i < length xs → x ≡ get_or xs i x → new ≡ old ++ one i (stands x) ∷ []
    → old ++ made i (map stands (drop i xs)) ≡ whole → new ++ made (i + 1) (map stands (drop (i + 1) xs)) ≡ whole
units_step stands made one cons xs i x old new whole lt is grown before =
    let rest = map stands (drop (i + 1) xs) in
    let next : suc i ≡ i + 1 = omega arith in
    let row : made i (map stands (drop i xs)) ≡ one i (stands x) ∷ made (i + 1) rest =
    at_drop_more (λ l. made i (map stands l)) xs i x lt ∙ ap (λ y. made i (map stands (y ∷ drop (i + 1) xs))) (sym is) ∙ cons i (stands x) rest
    ∙ ap (λ n. one i (stands x) ∷ made n rest) next in
    ap (λ l. l ++ made (i + 1) rest) grown ∙ append_assoc old (one i (stands x) ∷ []) (made (i + 1) rest) ∙ ap (λ l. old ++ l) (sym row) ∙ before

module _ (list : List Tree) (f : ℕ → Option Ty) (known : ℕ → Option Answer) (stored : List (Option Ty)) (ss : List Site) (rs : List HookRow) (hs : List Hook) where
  pub same_units : (n : ℕ) (gs : List Around) → units_by list (told stored) ss (by_keys rs hs) (values list f known) (callers method_is.Input hs) (callers method_is.ConnectFilter hs) n gs ≡ units_from list f known stored ss rs hs n gs
  same_units n [] = refl
  same_units n (g ∷ gs) = ap (λ us. unit_row list (told stored) ss (by_keys rs hs) (values list f known) (calls_of hs n) g n ∷ us) (same_units (suc n) gs)

  -- where the parts are those of the definition
  pub all_units : (gs : List Around) (l : List Tree) (s : List (Option Ty)) (places : List Site) (h : List (Option HookKey) × List ℤ) (input filter : List ℕ) (around : List Around)
      → l ≡ list → s ≡ stored → places ≡ ss → h ≡ by_keys rs hs → input ≡ callers method_is.Input hs → filter ≡ callers method_is.ConnectFilter hs → around ≡ gs
      → units_by l (told s) places h (values list f known) input filter 0 around ≡ units_from list f known stored ss rs hs 0 gs
  all_units gs l s places h input filter around el es ep eh ei ef eg =
      ap (λ (x : List Tree). units_by x (told s) places h (values list f known) input filter 0 around) el
      ∙ ap (λ (x : List (Option Ty)). units_by list (told x) places h (values list f known) input filter 0 around) es
      ∙ ap (λ (x : List Site). units_by list (told stored) x h (values list f known) input filter 0 around) ep
      ∙ ap (λ (x : List (Option HookKey) × List ℤ). units_by list (told stored) ss x (values list f known) input filter 0 around) eh
      ∙ ap (λ (x : List ℕ). units_by list (told stored) ss (by_keys rs hs) (values list f known) x filter 0 around) ei
      ∙ ap (λ (x : List ℕ). units_by list (told stored) ss (by_keys rs hs) (values list f known) (callers method_is.Input hs) x 0 around) ef
      ∙ ap (λ (x : List Around). units_by list (told stored) ss (by_keys rs hs) (values list f known) (callers method_is.Input hs) (callers method_is.ConnectFilter hs) 0 x) eg
      ∙ same_units 0 gs
