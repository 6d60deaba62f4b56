-- The alternatives of which the test does not hold, as their canonical text has other tokens or parentheses, or as their
-- trees are no plain list: each by its part and its place in it, with the proof that it has its claim.
use Rattle.std.specs.Prelude.{◌&&◌, ◌||◌}
use Rattle.std.proofs.Common.{◌≡◌, ℕ, List, [], ◌∷◌, map, Bool, true, false, ◌==◌, subst, inl, inr, refl}
use Rattle.std.proofs.lemmas.Bool.{and_parts, cases_Bool, eqb-true}
use Rattle.sp_parser.specs.Grammar.{Applies, right}
use Rattle.sp_grammar.specs.Written.{Part, part_number}
use Rattle.sp_grammar.specs.Own.{own}
use Rattle.sp_build.proofs.Told.{never}
use Rattle.sp_law_round_trip.proofs.Held.{Pile}
use Rattle.sp_law_round_trip.proofs.Goes.{Tok, number}
use Rattle.sp_law_round_trip.proofs.Shown.{Claim, Trace}
use Rattle.sp_law_round_trip.proofs.Attributes.{attributes_shown}
use Rattle.sp_law_round_trip.proofs.Declarations.{declarations_shown, no_declarations_shown}
use Rattle.sp_law_round_trip.proofs.ElseBranches.{else_if_shown, else_shown, no_else_shown}
use Rattle.sp_law_round_trip.proofs.LeftOut.{last_comma_shown, semicolon_shown, no_semicolon_shown}
use Rattle.sp_law_round_trip.proofs.FieldHooks.{no_hooks_shown, hooks_shown}
use Rattle.sp_law_round_trip.proofs.HookDeclarations.{on_shown}
use Rattle.sp_law_round_trip.proofs.HookPaths.{more_path_shown, path_hook_name_shown, path_end_shown}
use Rattle.sp_law_round_trip.proofs.IfStatements.{if_shown}
use Rattle.sp_law_round_trip.proofs.IntegerBases.{number_base_shown, integer_base_shown}
use Rattle.sp_law_round_trip.proofs.KeptTrees.{alone_shown, parentheses_shown}
use Rattle.sp_law_round_trip.proofs.NewExpressions.{new_shown, arguments_shown, no_arguments_shown}
use Rattle.sp_law_round_trip.proofs.DivisionsAndCalls.{division_shown, call_shown}
use Rattle.sp_law_round_trip.proofs.Parameters.{parameters_shown, no_parameters_shown}
use Rattle.sp_law_round_trip.proofs.TypedNumbers.{typed_number_shown}

-- what is claimed of a part, where this alternative of it was read
abbrev pub Claimed : ℕ → ℕ → Type 0
Claimed n p = (w u : List Tok) (s t : Pile) → Applies own n p (map number w) → Trace (right own n p) w s u t → Claim n w s t u

-- an alternative of a part of which it is proved
pub record Alternative : Type 0 where
  pub of : ℕ
  pub place : ℕ
  pub claimed : Claimed of place

-- one of which it is proved whatever comes behind it
abbrev alternative : (of : Part) (place : ℕ) → ((w u : List Tok) (s t : Pile) → Trace (right own (part_number of) place) w s u t → Claim (part_number of) w s t u) → Alternative
alternative part place shown = record { of = part_number part; place = place; claimed = λ w u s t applies trace. shown w u s t trace }

abbrev pub alternatives : List Alternative
unfolding own
alternatives =
    alternative Part.Decls 0 declarations_shown
    ∷ alternative Part.Decls 1 no_declarations_shown
    ∷ alternative Part.Decl 9 on_shown
    ∷ alternative Part.OnPath 0 more_path_shown
    ∷ alternative Part.OnPath 1 path_hook_name_shown
    ∷ alternative Part.OnPath 2 path_end_shown
    ∷ alternative Part.OptParen 0 parameters_shown
    ∷ alternative Part.OptParen 1 no_parameters_shown
    ∷ alternative Part.Labels 1 last_comma_shown
    ∷ alternative Part.OptSemi 0 semicolon_shown
    ∷ alternative Part.OptSemi 1 no_semicolon_shown
    ∷ alternative Part.Attrs 0 attributes_shown
    ∷ alternative Part.FieldEnd 0 no_hooks_shown
    ∷ alternative Part.FieldEnd 1 hooks_shown
    ∷ alternative Part.Base 2 number_base_shown
    ∷ alternative Part.Base 3 integer_base_shown
    ∷ alternative Part.Stmt 0 if_shown
    ∷ alternative Part.OptElse 0 else_if_shown
    ∷ alternative Part.OptElse 1 else_shown
    ∷ record { of = part_number Part.OptElse; place = 2; claimed = no_else_shown }
    ∷ alternative Part.Expr 1 (alone_shown Part.Expr Part.Or 1 2 refl refl)
    ∷ alternative Part.Or 1 (alone_shown Part.Or Part.And 2 3 refl refl)
    ∷ alternative Part.And 1 (alone_shown Part.And Part.Membership 3 4 refl refl)
    ∷ alternative Part.Membership 2 (alone_shown Part.Membership Part.Equality 4 5 refl refl)
    ∷ alternative Part.Equality 2 (alone_shown Part.Equality Part.Order 5 6 refl refl)
    ∷ alternative Part.Order 4 (alone_shown Part.Order Part.BitOr 6 7 refl refl)
    ∷ alternative Part.BitOr 1 (alone_shown Part.BitOr Part.BitXor 7 8 refl refl)
    ∷ alternative Part.BitXor 1 (alone_shown Part.BitXor Part.BitAnd 8 9 refl refl)
    ∷ alternative Part.BitAnd 1 (alone_shown Part.BitAnd Part.Shift 9 10 refl refl)
    ∷ alternative Part.Shift 2 (alone_shown Part.Shift Part.Sum 10 11 refl refl)
    ∷ alternative Part.Sum 2 (alone_shown Part.Sum Part.Product 11 12 refl refl)
    ∷ alternative Part.Product 1 division_shown
    ∷ alternative Part.Product 3 (alone_shown Part.Product Part.Prefix 12 13 refl refl)
    ∷ alternative Part.Prefix 3 (alone_shown Part.Prefix Part.Postfix 13 14 refl refl)
    ∷ alternative Part.Postfix 3 call_shown
    ∷ alternative Part.Postfix 4 (alone_shown Part.Postfix Part.Primary 14 15 refl refl)
    ∷ alternative Part.Primary 9 parentheses_shown
    ∷ alternative Part.Primary 17 typed_number_shown
    ∷ alternative Part.Primary 19 new_shown
    ∷ alternative Part.NewArgs 0 arguments_shown
    ∷ alternative Part.NewArgs 1 no_arguments_shown
    ∷ []

abbrev pub is_among : ℕ → ℕ → List Alternative → Bool
is_among n p [] = false
is_among n p (a ∷ others) = (a.of == n && a.place == p) || is_among n p others

pub claimed_among : (alternatives : List Alternative) (n p : ℕ) → is_among n p alternatives ≡ true → Claimed n p
claimed_among [] n p h = never h
claimed_among (a ∷ others) n p h = elim (cases_Bool (a.of == n && a.place == p)) [
  | inl y ↦
      let same = and_parts (a.of == n) (a.place == p) y in
      subst (λ k. Claimed k p) (eqb-true a.of n same.0) (subst (λ k. Claimed a.of k) (eqb-true a.place p same.1) a.claimed)
  | inr k ↦ claimed_among others n p (subst (λ b. (b || is_among n p others) ≡ true) k h)
]
