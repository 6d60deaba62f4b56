-- What equal types and their parts say of kinds.
use Rattle.std.specs.Prelude.{◌==◌, ◌&&◌, replicate, Some, slice_get}
use Rattle.std.proofs.Common.{◌≡◌, ◌∙◌, ◌+◌, ℕ, zero, suc, true, false, List, [], ◌∷◌, ◌++◌, length, reverse, refl, sym, ap, append_assoc, arith}
use Rattle.std.proofs.lemmas.Bool.{and_parts}
use Rattle.std.proofs.lemmas.List.{reverse-append, append-nil}
use Rattle.sp_methods.specs.Kinds.{Kind, kind_and, kinds_of}
use Rattle.sp_types.specs.Types.{Ty, Tys, same}
use Rattle.sp_types.specs.Types as types
use Rattle.sp_types.proofs.Same.{same_is}
use Rattle.sp_typed.specs.Exprs.{Exprs, none, more, type_of}
use Rattle.sp_typed_units.specs.declared.declarations.Parameter.{Parameter}
use Rattle.sp_meaning_states.specs.Types.{kind_of_type, kinds_of_types, first_of, behind_first}
use Rattle.sp_meaning.specs.Globals.{Globals}
use Rattle.sp_code_meaning.specs.Layouts.{Layout}
use Rattle.sp_code.specs.Kinds.{kind_in, in_turn}
use Rattle.sp_code_programs.specs.exprs.Code.{kind_of, kinds_on, count}
use Rattle.sp_code_programs.specs.programs.Routines.{parameter_kinds, slot_kinds}
use Rattle.sp_law_lists.specs.fit_expr.Lists.{is_type, part_is, members_are, arguments_are, all_are, are_in_turn}

module _ (ranges : List ℕ) where
  abbrev kind : Ty → Kind
  kind t = kind_of_type ranges t

  pub same_kind : (t u : Ty) → same t u ≡ true → kind t ≡ kind u
  same_kind t u h = ap kind (same_is t u h)

  -- a local of a type is of its kind
  pub local_kind : (ts : List Ty) (l : ℕ) (t : Ty) → is_type (slice_get ts l) t ≡ true → slice_get (slot_kinds ranges ts) l ≡ Some (kind t)
  local_kind [] l t h = absurd (let z : false ≡ true = h in cc)
  local_kind (u ∷ ts) zero t h = ap Some (same_kind u t h)
  local_kind (u ∷ ts) (suc l) t h = local_kind ts l t h

  -- so is a part of a type
  pub part_kind : (ts : Tys) (n : ℕ) (t : Ty) → part_is ts n t ≡ true → kind_in (kinds_of_types ranges ts) n ≡ Some (kind t)
  part_kind types.none n t h = absurd (let z : false ≡ true = h in cc)
  part_kind (types.more u ts) zero t h = ap Some (same_kind u t h)
  part_kind (types.more u ts) (suc n) t h = part_kind ts n t h

  pub first_kind : (ts : Tys) (t : Ty) → part_is ts 0 t ≡ true → first_of ranges (kinds_of_types ranges ts) ≡ kind t
  first_kind types.none t h = absurd (let z : false ≡ true = h in cc)
  first_kind (types.more u ts) t h = same_kind u t h

  pub second_kind : (ts : Tys) (t : Ty) → part_is ts 1 t ≡ true → first_of ranges (behind_first ranges (kinds_of_types ranges ts)) ≡ kind t
  second_kind types.none t h = absurd (let z : false ≡ true = h in cc)
  second_kind (types.more u types.none) t h = absurd (let z : false ≡ true = h in cc)
  second_kind (types.more u (types.more v ts)) t h = same_kind v t h

  -- the kinds of expressions, the first one first
  abbrev pub kinds_listed : Exprs → List Kind
  kinds_listed none = []
  kinds_listed (more e es) = kind (type_of e) ∷ kinds_listed es

  pub members_kinds : (ts : Tys) (es : Exprs) → members_are ts es ≡ true → kinds_of_types ranges ts ≡ kinds_of (kinds_listed es)
  members_kinds types.none none h = refl
  members_kinds (types.more t ts) (more e es) h =
      let b = and_parts (same t (type_of e)) (members_are ts es) h in
      ap (λ (k : Kind). kind_and k (kinds_of_types ranges ts)) (same_kind t (type_of e) b.0) ∙ ap (kind_and (kind (type_of e))) (members_kinds ts es b.1)
  members_kinds types.none (more e es) h = absurd (let z : false ≡ true = h in cc)
  members_kinds (types.more t ts) none h = absurd (let z : false ≡ true = h in cc)

  pub arguments_kinds : (xs : List Parameter) (es : Exprs) → arguments_are xs es ≡ true → parameter_kinds ranges xs ≡ kinds_listed es
  arguments_kinds [] none h = refl
  arguments_kinds (x ∷ xs) (more e es) h =
      let b = and_parts (same x.ty (type_of e)) (arguments_are xs es) h in
      ap (λ (k : Kind). k ∷ parameter_kinds ranges xs) (same_kind x.ty (type_of e) b.0) ∙ ap (λ (ks : List Kind). kind (type_of e) ∷ ks) (arguments_kinds xs es b.1)
  arguments_kinds [] (more e es) h = absurd (let z : false ≡ true = h in cc)
  arguments_kinds (x ∷ xs) none h = absurd (let z : false ≡ true = h in cc)

  pub arguments_counted : (xs : List Parameter) (es : Exprs) → arguments_are xs es ≡ true → count es ≡ length xs
  arguments_counted [] none h = refl
  arguments_counted (x ∷ xs) (more e es) h =
      let b = and_parts (same x.ty (type_of e)) (arguments_are xs es) h in
      omega (arith, arguments_counted xs es b.1)
  arguments_counted [] (more e es) h = absurd (let z : false ≡ true = h in cc)
  arguments_counted (x ∷ xs) none h = absurd (let z : false ≡ true = h in cc)

-- the kinds of expressions on others, the last on top
module _ (globals : Globals) (layout : Layout) where
  turned : (es : Exprs) (ks : List Kind) → kinds_on globals layout es ks ≡ reverse (kinds_listed globals.ranges es) ++ ks
  turned none ks = refl
  turned (more e es) ks =
      let k = kind_of globals layout e in
      turned es (k ∷ ks)
      ∙ sym (append_assoc (reverse (kinds_listed globals.ranges es)) (k ∷ []) ks)
      ∙ ap (λ (js : List Kind). js ++ ks) (sym (reverse-append (k ∷ []) (kinds_listed globals.ranges es)))

  pub all_turned : (es : Exprs) → kinds_on globals layout es [] ≡ reverse (kinds_listed globals.ranges es)
  all_turned es = turned es [] ∙ append-nil (reverse (kinds_listed globals.ranges es))

  -- all of one kind
  repeated : (m : ℕ) (ts : Tys) (es : Exprs) → all_are ts es ≡ true → kinds_on globals layout es (replicate m (first_of globals.ranges (kinds_of_types globals.ranges ts))) ≡ replicate (count es + m) (first_of globals.ranges (kinds_of_types globals.ranges ts))
  repeated m ts none h =
      let sum : m ≡ 0 + m = omega arith in
      ap (λ (n : ℕ). replicate n (first_of globals.ranges (kinds_of_types globals.ranges ts))) sum
  repeated m ts (more e es) h =
      let b = and_parts (part_is ts 0 (type_of e)) (all_are ts es) h in
      let j = first_of globals.ranges (kinds_of_types globals.ranges ts) in
      let sum : count es + suc m ≡ count es + 1 + m = omega arith in
      ap (λ (k : Kind). kinds_on globals layout es (k ∷ replicate m j)) (sym (first_kind globals.ranges ts (type_of e) b.0)) ∙ repeated (suc m) ts es b.1 ∙ ap (λ (n : ℕ). replicate n j) sum

  pub all_repeated : (ts : Tys) (es : Exprs) → all_are ts es ≡ true → kinds_on globals layout es [] ≡ replicate (count es) (first_of globals.ranges (kinds_of_types globals.ranges ts))
  all_repeated ts es h =
      let sum : count es + 0 ≡ count es = omega arith in
      repeated 0 ts es h ∙ ap (λ (n : ℕ). replicate n (first_of globals.ranges (kinds_of_types globals.ranges ts))) sum

  -- keys and values in turn: as many of both, on others in turn
  turns_on : (m : ℕ) (ts : Tys) (es : Exprs) → are_in_turn ts 0 1 es ≡ true →
      (n : ℕ) × (count es ≡ n + n) × (kinds_on globals layout es (in_turn (m + m) (first_of globals.ranges (kinds_of_types globals.ranges ts)) (first_of globals.ranges (behind_first globals.ranges (kinds_of_types globals.ranges ts)))) ≡ in_turn (count es + (m + m)) (first_of globals.ranges (kinds_of_types globals.ranges ts)) (first_of globals.ranges (behind_first globals.ranges (kinds_of_types globals.ranges ts))))
  turns_on m ts none h =
      let sum : m + m ≡ 0 + (m + m) = omega arith in
      (0, refl, ap (λ (n : ℕ). in_turn n (first_of globals.ranges (kinds_of_types globals.ranges ts)) (first_of globals.ranges (behind_first globals.ranges (kinds_of_types globals.ranges ts)))) sum)
  turns_on m ts (more k none) h =
      let b = and_parts (part_is ts 0 (type_of k)) (1 == 0) h in
      absurd (let z : false ≡ true = b.1 in cc)
  turns_on m ts (more k (more v es)) h =
      let b = and_parts (part_is ts 0 (type_of k)) (part_is ts 1 (type_of v) && are_in_turn ts 0 1 es) h in
      let c = and_parts (part_is ts 1 (type_of v)) (are_in_turn ts 0 1 es) b.1 in
      let i = first_of globals.ranges (kinds_of_types globals.ranges ts) in
      let j = first_of globals.ranges (behind_first globals.ranges (kinds_of_types globals.ranges ts)) in
      let rest = turns_on (suc m) ts es c.1 in
      let longer : suc (suc (m + m)) ≡ suc m + suc m = omega arith in
      let counted : count es + 1 + 1 ≡ suc rest.0 + suc rest.0 = omega (arith, rest.1) in
      let sum : count es + (suc m + suc m) ≡ count es + 1 + 1 + (m + m) = omega arith in (
        suc rest.0,
        counted,
        ap (λ (x : Kind). kinds_on globals layout es (kind_of globals layout v ∷ x ∷ in_turn (m + m) i j)) (sym (first_kind globals.ranges ts (type_of k) b.0))
            ∙ ap (λ (x : Kind). kinds_on globals layout es (x ∷ i ∷ in_turn (m + m) i j)) (sym (second_kind globals.ranges ts (type_of v) c.0))
            ∙ ap (λ (n : ℕ). kinds_on globals layout es (in_turn n i j)) longer
            ∙ rest.2
            ∙ ap (λ (n : ℕ). in_turn n i j) sum,
      )

  pub turns : (ts : Tys) (es : Exprs) → are_in_turn ts 0 1 es ≡ true →
      (n : ℕ) × (count es ≡ n + n) × (kinds_on globals layout es [] ≡ in_turn (count es) (first_of globals.ranges (kinds_of_types globals.ranges ts)) (first_of globals.ranges (behind_first globals.ranges (kinds_of_types globals.ranges ts))))
  turns ts es h =
      let all = turns_on 0 ts es h in
      let sum : count es + (0 + 0) ≡ count es = omega arith in
      (all.0, all.1, all.2 ∙ ap (λ (n : ℕ). in_turn n (first_of globals.ranges (kinds_of_types globals.ranges ts)) (first_of globals.ranges (behind_first globals.ranges (kinds_of_types globals.ranges ts)))) sum)
