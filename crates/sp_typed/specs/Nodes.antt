-- All nodes of an expression, so that a rule is a test on one node.
use Rattle.std.specs.Prelude.{Bool, true, false, not, ◌&&◌, List, [], ◌∷◌, ◌++◌, IsTrue}
use Rattle.std.specs.List.{list_all}
use Rattle.sp_types.specs.Types.{is_known}
use Rattle.sp_typed.specs.declared.words.LeafOp.{LeafOp}
use Rattle.sp_typed.specs.declared.words.LeafOp.TheVariants as leaf_is
use Rattle.sp_typed.specs.declared.words.OneOp.{OneOp}
use Rattle.sp_typed.specs.declared.words.OneOp.TheVariants as one_is
use Rattle.sp_typed.specs.declared.words.ManyOp.{ManyOp}
use Rattle.sp_typed.specs.declared.words.ManyOp.TheVariants as many_is
use Rattle.sp_typed.specs.Exprs.{Expr, Exprs, leaf, one, two, three, many, none, more, type_of}

-- all nodes of an expression, each with what stands inside it
abbrev mutual
  pub nodes : Expr → List Expr
  nodes (leaf h) = leaf h ∷ []
  nodes (one h a) = one h a ∷ nodes a
  nodes (two h a b) = two h a b ∷ (nodes a ++ nodes b)
  nodes (three h a b c) = three h a b c ∷ (nodes a ++ (nodes b ++ nodes c))
  nodes (many h es) = many h es ∷ all_nodes es

  pub all_nodes : Exprs → List Expr
  all_nodes none = []
  all_nodes (more e es) = nodes e ++ all_nodes es

-- words, which are no values
abbrev pub word_leaf : LeafOp → Bool
word_leaf (leaf_is.Nothing at) = true
word_leaf (leaf_is.Function n) = true
word_leaf (leaf_is.TypeName w) = true
word_leaf leaf_is.Decoder = true
word_leaf leaf_is.Module = true
word_leaf leaf_is.Name = true
word_leaf _ = false

abbrev pub word_one : OneOp → Bool
word_one (one_is.NoMember at) = true
word_one _ = false

abbrev pub word_many : ManyOp → Bool
word_many many_is.NoCall = true
word_many _ = false

abbrev pub is_word : Expr → Bool
is_word (leaf h) = word_leaf h.op
is_word (one h a) = word_one h.op
is_word (many h es) = word_many h.op
is_word _ = false

-- whether a node is a value of a known type
abbrev pub is_sound : Expr → Bool
is_sound e = not (is_word e) && is_known (type_of e)

-- An expression in which no node is a word, and none is of an unknown type.
abbrev pub IsWhole : Expr → Type 0
IsWhole e = IsTrue (list_all is_sound (nodes e))

-- whether a test holds at each node: at the first one, and at those of each part
abbrev mutual
  pub holds : (Expr → Bool) → Expr → Bool
  holds p (leaf h) = p (leaf h)
  holds p (one h a) = p (one h a) && holds p a
  holds p (two h a b) = p (two h a b) && (holds p a && holds p b)
  holds p (three h a b c) = p (three h a b c) && (holds p a && (holds p b && holds p c))
  holds p (many h es) = p (many h es) && all_hold p es

  pub all_hold : (Expr → Bool) → Exprs → Bool
  all_hold p none = true
  all_hold p (more e es) = holds p e && all_hold p es
