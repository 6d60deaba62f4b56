use Rattle.sp_type_values.proofs.Numbers.{row_stands, constant_stands, enum_stands}
use Rattle.sp_type_values.proofs.laws.numbers_are_places.Goals as goal

pub returns-clause-valued : goal.returns-clause-valued
returns-clause-valued c = row_stands

pub returns-clause-constants : goal.returns-clause-constants
returns-clause-constants c = constant_stands

pub returns-clause-enums : goal.returns-clause-enums
returns-clause-enums c = enum_stands
