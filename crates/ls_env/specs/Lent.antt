-- The value that an answer of the code lends.
use Rattle.std.specs.Prelude.{Option, Some, None}
use Rattle.ls_reader.specs.declared.datum.Datum.{Datum}
use Rattle.ls_env.specs.declared.argument.Argument.{Argument}
use Rattle.ls_env.specs.declared.argument.Argument.TheVariants as argument

abbrev pub lent : Argument → Option Datum
lent (argument.Known d) = Some d.now
lent argument.Evaluated = None
