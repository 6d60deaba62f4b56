-- The table of the code, and that it passes the test. What the language is says specs/Own.antt.
use Rattle.std.specs.Prelude.{◌≡◌, length, true, refl}
use Rattle.sp_grammar.specs.declared.tables.TheConstants.{SPANS, ROWS, SYMBOLS}
use Rattle.sp_parser.specs.Grammar.{Table}
use Rattle.sp_parser.specs.Rows.{table_from}
use Rattle.sp_parser.specs.Certificate.{Certificate}
use Rattle.sp_parser.specs.Test.{table_test}
use Rattle.sp_grammar.specs.Sets.{sets}

unfoldable pub language : Table
language = table_from SPANS ROWS SYMBOLS

unfoldable pub language_sets : Certificate
language_sets = sets

-- every set, and every prediction, is as the parser needs it
pub language_tested : table_test language language_sets ≡ true
unfolding language language_sets
language_tested = refl

pub language_is : language ≡ table_from SPANS ROWS SYMBOLS
unfolding language
language_is = refl

pub language_parts : length language_sets.height ≡ 98
unfolding language_sets
language_parts = refl
