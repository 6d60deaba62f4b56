-- Parts of units, apart from memory.
use Rattle.std.specs.Prelude.{List, [], ◌∷◌, Option}
use Rattle.std.proofs.Common.{Global}
use Rattle.std.specs.declared.vec.Vec.{Vec}
use Rattle.sp_base.specs.declared.places.Span.{Span}
use Rattle.sp_typed.specs.Exprs.{Expr}
use Rattle.sp_typed_units.specs.declared.items.Field.{Field}
use Rattle.sp_typed_units.specs.declared.items.Arm.{Arm}

-- A field; or a switch: what its arms are compared with, unless it is by look-ahead, and its arms with their parts.
mutual
  pub data Part : Type 0 where
    field : Field → Part
    choice : Span → Option Expr → Arms → Part

  pub data Parts : Type 0 where
    no_parts : Parts
    more_parts : Part → Parts → Parts

  pub data Arms : Type 0 where
    no_arms : Arms
    more_arms : Arm → Parts → Arms → Arms

-- the parts of a list
abbrev pub parts : List Part → Parts
parts [] = no_parts
parts (p ∷ ps) = more_parts p (parts ps)

-- the arms of a list
abbrev pub arms : List (Arm × Vec Part Global) → Arms
arms [] = no_arms
arms (a ∷ rest) = more_arms a.0 (parts a.1.items) (arms rest)
