use Rattle.sp_type_modules.proofs.tables.Tables.new.Goals as goal

pub invariant_of-result : goal.invariant_of-result
invariant_of-result c = record {
  all_units = c.in_ok-units.ensures.all;
  units_are = c.in_ok-units.ensures.each;
  all_functions = c.in_ok-functions.ensures.all;
  functions_are = c.in_ok-functions.ensures.each;
  all_bits = c.in_ok-bits.ensures.all;
  bits_are = c.in_ok-bits.ensures.each;
}
