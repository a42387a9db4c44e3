use Rattle.ls_points.proofs.SymbolLaw.{AllByRecursion-chars}
use Rattle.ls_cells.proofs.marks.read_name.Goals as goal

pub returns : goal.returns
returns c = (
  AllByRecursion-chars c.as_str-package.result.now c.args.name.now.package c.as_str-package.utf8 c.as_str-package.ensures,
  AllByRecursion-chars c.as_str-name.result.now c.args.name.now.name c.as_str-name.utf8 c.as_str-name.ensures,
)
