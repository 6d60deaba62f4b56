-- What one piece of a layout puts.
use Rattle.std.specs.Prelude.{◌≡◌, List, ◌∷◌}
use Rattle.sp_ast.specs.Trees.{Tree, trees}
use Rattle.sp_ast.specs.declared.forms.Form.{Form}
use Rattle.sp_print.specs.declared.layouts.Piece.{Piece}
use Rattle.sp_print.specs.Page.{Page}
use Rattle.sp_print.specs.Canonical.{write, laid, parts_of}

-- what a piece and the pieces behind it put with these parts, those put behind the piece with the parts that are left
abbrev pub IsLaid : Form → Piece → List Tree → Page → List Tree → Page → Type 0
IsLaid form piece parts before left after =
    (behind : List Piece) → write (laid form (piece ∷ behind) (parts_of (trees parts))) before ≡ write (laid form behind (parts_of (trees left))) after
