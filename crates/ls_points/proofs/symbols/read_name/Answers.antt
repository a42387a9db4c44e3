use Rattle.ls_points.proofs.SymbolLaw.{AllByRecursion-chars}
use Rattle.ls_points.proofs.symbols.read_name.Goals as goal

pub returns : goal.returns
returns c = (
  AllByRecursion-chars c.as_str-home.result.now c.args.s.now.package c.as_str-home.utf8 c.as_str-home.ensures,
  AllByRecursion-chars c.as_str-name.result.now c.args.s.now.name c.as_str-name.utf8 c.as_str-name.ensures,
)
