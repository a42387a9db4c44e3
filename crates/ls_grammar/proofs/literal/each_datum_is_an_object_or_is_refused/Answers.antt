use Rattle.ls_grammar.proofs.LiteralLemmas.{is_literal_or_is_refused, one_of_both, never_memory}
use Rattle.ls_grammar.proofs.literal.each_datum_is_an_object_or_is_refused.Goals as goal

pub returns : goal.returns
returns c = record { either = is_literal_or_is_refused; one = one_of_both; of_the_datum = never_memory }
