-- Texts that tell the same are the same module, apart from places.
use Rattle.std.specs.Prelude.{option_map}
use Rattle.std.proofs.Common.{◌≡◌, ℕ, [], ◌∷◌, map, get_or, Option, Some, None, true, refl, ap, sym, ◌∙◌, subst}
use Rattle.std.proofs.Math.Path.{fun_ext}
use Rattle.std.proofs.Math.ListN.{get_or-map}
use Rattle.std.proofs.lemmas.Simd.{map-map}
use Rattle.sp_lex.specs.Lexed.{Lexed}
use Rattle.sp_grammar.specs.Sentences.{IsSentence}
use Rattle.sp_grammar.specs.declared.language.Start.TheVariants.{Module}
use Rattle.sp_phrases.specs.Kinds.{numbers_of, number_of, terminal_of}
use Rattle.sp_ast.specs.Trees.{Tree}
use Rattle.sp_build.specs.Items.{begun, built}
use Rattle.sp_ast.specs.Groups.{is_of}
use Rattle.sp_build.specs.Starting.{group_of}
use Rattle.sp_build.specs.Building.{Stack, all_done, no_token}
use Rattle.sp_read_unit.specs.Modules.{IsModuleTree}
use Rattle.sp_law_round_trip.specs.Bare.{bare}
use Rattle.sp_law_round_trip.specs.Told.{Telling, telling, told}
use Rattle.sp_law_round_trip.proofs.Held.{made, does_all}
use Rattle.sp_law_round_trip.proofs.Machine.{piled, tell_at, all_held, of_bare}

-- each token tells the same
tell_same : (first second : Lexed) → told first ≡ told second → (n : ℕ) → tell_at first.text first.list n ≡ tell_at second.text second.list n
tell_same first second e n =
    sym (get_or-map (telling first.text) first.list n no_token) ∙ ap (λ ts. get_or ts n (telling first.text no_token)) e ∙ get_or-map (telling second.text) second.list n no_token

-- the kinds of the tokens are the same
numbers_same : (first second : Lexed) → told first ≡ told second → numbers_of first.list ≡ numbers_of second.list
numbers_same first second e =
    sym (map-map (λ t. let x : Telling = t in number_of (terminal_of x.kind)) (telling first.text) first.list)
    ∙ ap (λ ts. map (λ t. let x : Telling = t in number_of (terminal_of x.kind)) ts) e
    ∙ map-map (λ t. let x : Telling = t in number_of (terminal_of x.kind)) (telling second.text) second.list

-- the one tree that is left
pub one_left : (tell : ℕ → Telling) (o : Option Stack) (t : Tree) → option_map (piled tell) o ≡ Some (made t ∷ []) → (u : Tree) × (o ≡ Some (built u ∷ [])) × (bare u ≡ t)
one_left tell None t e = absurd cc
one_left tell (Some []) t e = absurd cc
one_left tell (Some (begun n ∷ s)) t e = absurd cc
one_left tell (Some (built u ∷ [])) t e = (u, refl, cc)
one_left tell (Some (built u ∷ x ∷ s)) t e = absurd cc

pub same_tree : (first second : Lexed) (t : Tree) → told first ≡ told second → IsModuleTree first t → (u : Tree) × IsModuleTree second u × (bare t ≡ bare u)
same_tree first second t e (actions, is, built_so, kind) =
    let here = tell_at first.text first.list in
    let there = tell_at second.text second.list in
    let left = one_left there (all_done second.text second.list actions []) (bare t)
    (all_held second.text second.list actions [] ∙ sym (ap (λ tell. does_all tell actions []) (fun_ext (tell_same first second e)))
    ∙ sym (all_held first.text first.list actions []) ∙ ap (λ o. option_map (piled here) o) built_so) in
    let group : is_of (group_of Module) left.0 ≡ true = sym (of_bare (group_of Module) left.0) ∙ ap (λ v. is_of (group_of Module) v) left.2 ∙ of_bare (group_of Module) t ∙ kind in
    (left.0, (actions, subst (λ ks. IsSentence Module ks actions) (numbers_same first second e) is, left.1, group), sym left.2)
