use Rattle.sp_grammar.proofs.OwnWords.{read_of_table, table_of_read}
use Rattle.sp_grammar.proofs.laws.table_reads_the_grammar.Goals as goal

pub returns-clause-derived : goal.returns-clause-derived
returns-clause-derived c = read_of_table

pub returns-clause-read : goal.returns-clause-read
returns-clause-read c = table_of_read
