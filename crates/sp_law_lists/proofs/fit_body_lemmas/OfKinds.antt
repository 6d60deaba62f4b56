-- What tests of types say of kinds.
use Rattle.std.proofs.Common.{◌≡◌, ℕ, true, false, List, Some, sym, ap}
use Rattle.std.proofs.lemmas.Bool.{and_parts}
use Rattle.sp_words.specs.declared.operators.BinaryOp.TheVariants as op_is
use Rattle.sp_words.specs.declared.operators.AssignOp.{AssignOp}
use Rattle.sp_words.specs.declared.operators.AssignOp.TheVariants as assign_is
use Rattle.sp_methods.specs.Kinds.{Kind, Bools, Bytes, Void, SetOf, MapOf, TupleOf}
use Rattle.sp_types.specs.declared.words.Word.TheVariants as word_is
use Rattle.sp_types.specs.declared.words.Maker.TheVariants as maker_is
use Rattle.sp_types.specs.Types.{Ty, Tys, word, made}
use Rattle.sp_types.specs.Types as types
use Rattle.sp_meaning_states.specs.Types.{kind_of_type, kinds_of_types, first_of, behind_first}
use Rattle.sp_code.specs.Kinds.{kind_of_two, IsGoneOver, over_vector, over_set, over_bytes, over_map}
use Rattle.sp_code.specs.Shapes.{IsResult, IsKeyOf}
use Rattle.sp_law_code.specs.bodies.Fits.{IsAssigned}
use Rattle.sp_law_lists.specs.fit_expr.Sorts as sort_is
use Rattle.sp_law_lists.specs.fit_expr.Lists.{part_is}
use Rattle.sp_law_lists.proofs.fit_expr_lemmas.OfSorts.{of_sort, operator_gives}
use Rattle.sp_law_lists.proofs.fit_expr_lemmas.OfTypes.{same_kind, first_kind, second_kind}
use Rattle.sp_law_lists.specs.fit_body.Bodies.{Returns, round_in}
use Rattle.sp_law_lists.specs.fit_body.Bodies as returns
use Rattle.sp_law_lists.specs.fit_body.Test.{are_two, is_pair, goes_over, set_of, keyed_by, equals, assigns, returns_nothing, returns_value}

module _ (ranges : List ℕ) where
  abbrev kind : Ty → Kind
  kind t = kind_of_type ranges t

  -- the first and the second of the kinds of these types
  abbrev first : Tys → Kind
  first ts = first_of ranges (kinds_of_types ranges ts)

  abbrev second : Tys → Kind
  second ts = first_of ranges (behind_first ranges (kinds_of_types ranges ts))

  two_kinds : (ts us : Tys) → are_two ts us ≡ true → IsGoneOver (MapOf (first ts) (second ts)) (TupleOf (kinds_of_types ranges us))
  two_kinds ts (types.more j (types.more k types.none)) h =
      let b = and_parts (part_is ts 0 j) (part_is ts 1 k) h in
      rw (first_kind ranges ts j b.0, second_kind ranges ts k b.1) (over_map (kind j) (kind k))
  two_kinds ts types.none h = absurd (let z : false ≡ true = h in cc)
  two_kinds ts (types.more j types.none) h = absurd (let z : false ≡ true = h in cc)
  two_kinds ts (types.more j (types.more k (types.more l us))) h = absurd (let z : false ≡ true = h in cc)

  pair_kinds : (ts : Tys) (t : Ty) → is_pair ts t ≡ true → IsGoneOver (MapOf (first ts) (second ts)) (kind t)
  pair_kinds ts (made maker_is.Tuple us) h = two_kinds ts us h
  pair_kinds ts (made _ us) h = absurd (let z : false ≡ true = h in cc)
  pair_kinds ts (word w) h = absurd (let z : false ≡ true = h in cc)

  -- what a `for` goes over, and the kind of its variable
  pub over_kinds : (s t : Ty) → goes_over s t ≡ true → IsGoneOver (kind s) (kind t)
  over_kinds (word word_is.Bytes) t h = rw (of_sort ranges t sort_is.Unsigned h) over_bytes
  over_kinds (word _) t h = absurd (let z : false ≡ true = h in cc)
  over_kinds (made maker_is.Vector ts) t h = rw (first_kind ranges ts t h) (over_vector (kind t))
  over_kinds (made maker_is.Set ts) t h = rw (first_kind ranges ts t h) (over_set (kind t))
  over_kinds (made maker_is.Map ts) t h = pair_kinds ts t h
  over_kinds (made maker_is.Tuple ts) t h = absurd (let z : false ≡ true = h in cc)

  -- a set and its keys
  pub set_kinds : (c t : Ty) → set_of c t ≡ true → kind c ≡ SetOf (kind t)
  set_kinds (made maker_is.Set ts) t h = ap SetOf (first_kind ranges ts t h)
  set_kinds (made _ ts) t h = absurd (let z : false ≡ true = h in cc)
  set_kinds (word w) t h = absurd (let z : false ≡ true = h in cc)

  -- a container and the keys that are taken from it
  pub keyed_kinds : (c t : Ty) → keyed_by c t ≡ true → IsKeyOf (kind c) (kind t)
  keyed_kinds (made maker_is.Set ts) t h = sym (first_kind ranges ts t h)
  keyed_kinds (made maker_is.Map ts) t h = sym (first_kind ranges ts t h)
  keyed_kinds (made _ ts) t h = absurd (let z : false ≡ true = h in cc)
  keyed_kinds (word w) t h = absurd (let z : false ≡ true = h in cc)

  pub equal_kinds : (a b : Ty) → equals a b ≡ true → kind_of_two op_is.Equal (kind a) (kind b) ≡ Some Bools
  equal_kinds a b h = operator_gives ranges op_is.Equal a b (word word_is.Bool) h

  -- a target and its value
  pub assigned_kinds : (op : AssignOp) (t u : Ty) → assigns op t u ≡ true → IsAssigned op (kind t) (kind u)
  assigned_kinds assign_is.Set t u h = sym (same_kind ranges t u h)
  assigned_kinds assign_is.Add t u h = operator_gives ranges op_is.Add t u t h
  assigned_kinds assign_is.Subtract t u h = operator_gives ranges op_is.Subtract t u t h

  -- what a body returns
  pub nothing_kind : (r : Returns) → returns_nothing r ≡ true → IsResult (round_in ranges r) Void
  nothing_kind (returns.Function t) h = sym (of_sort ranges t sort_is.Void h)
  nothing_kind (returns.Hook each) h = tt

  pub value_kind : (r : Returns) (u : Ty) → returns_value r u ≡ true → IsResult (round_in ranges r) (kind u)
  value_kind (returns.Function t) u h = sym (same_kind ranges t u h)
  value_kind (returns.Hook each) u h = tt
