use Rattle.ls_grammar.proofs.WholeLemmas.{resolves_or_is_refused}
use Rattle.ls_grammar.proofs.resolving.each_datum_resolves_or_is_refused.Goals as goal

pub returns : goal.returns
returns c = resolves_or_is_refused
