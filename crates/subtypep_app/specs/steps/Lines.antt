-- Which lines have a plain witness, or none: the lines that can be written.
use Rattle.subtypep_app.specs.declared.line.Line.{Line}
use Rattle.subtypep_app.specs.declared.line.Line.TheVariants.{Answered, Placed, Refused, NoObject}
use Rattle.ls_decide.specs.Answers.{IsPlainAnswer}

abbrev pub IsPlainLine : Line → Type 0
IsPlainLine (Answered answer) = IsPlainAnswer answer
IsPlainLine (Placed answer) = Unit {0}
IsPlainLine (Refused x) = Unit {0}
IsPlainLine (NoObject x) = Unit {0}
