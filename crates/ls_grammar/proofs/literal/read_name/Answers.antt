use Rattle.ls_grammar.proofs.NameLemmas.{scalar_chars}
use Rattle.ls_grammar.proofs.literal.read_name.Goals as goal

pub returns : goal.returns
returns c = (
  scalar_chars c.as_str-home.result.now c.args.s.now.package c.as_str-home.utf8 c.as_str-home.ensures,
  scalar_chars c.as_str-name.result.now c.args.s.now.name c.as_str-name.utf8 c.as_str-name.ensures,
)
