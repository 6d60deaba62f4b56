-- How a refused module is told.
use Rattle.std.specs.Prelude.{ℕ, List, ◌++◌, codes, decimal}
use Rattle.sp_base.specs.Kinds.{module_kind_name, module_kind_number}
use Rattle.sp_command.specs.declared.refusal.Refusal.{Refusal}

-- `PATH:LINE:COL: M9 TypeMismatch`
abbrev pub refusal_text : Refusal → List ℕ
refusal_text r =
    r.path ++ codes ":" ++ decimal r.place.line ++ codes ":" ++ decimal r.place.col ++ codes ": M" ++ decimal (module_kind_number r.kind) ++ codes " " ++ module_kind_name r.kind ++ codes "\n"
