use Rattle.ls_gen.proofs.QueryLemmas.{queries_count, queries_compare}
use Rattle.ls_gen.proofs.asked.generated_queries_are_asked.Goals as goal

pub returns-clause-count : goal.returns-clause-count
returns-clause-count c n fs l h = queries_count n fs h

pub returns-clause-asked : goal.returns-clause-asked
returns-clause-asked c = queries_compare
