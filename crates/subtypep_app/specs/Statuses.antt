-- The exit status of each ending.
use Rattle.std.specs.Prelude.{ℕ}
use Rattle.subtypep_app.specs.declared.status.Status.{Status}
use Rattle.subtypep_app.specs.declared.status.Status.TheVariants.{Clean, Found, Usage, Unreadable, SourceFault, SinkFault, Memory}

abbrev pub number_of : Status → ℕ
number_of Clean = 0
number_of Found = 1
number_of Usage = 2
number_of Unreadable = 3
number_of SourceFault = 4
number_of SinkFault = 5
number_of Memory = 6
