-- What the code's answers on a query stand for.
use Rattle.std.specs.Prelude.{◌≡◌, Result, Ok, Err}
use Rattle.ls_grammar.specs.declared.refusal.Stop.{Stop}
use Rattle.ls_grammar.specs.declared.refusal.Stop.TheVariants as stop
use Rattle.ls_grammar.specs.declared.literal.ObjectRefusal.{ObjectRefusal}
use Rattle.ls_grammar.specs.declared.literal.ObjectRefusal.TheVariants as literal
use Rattle.subtypep_app.specs.declared.query.Question as code
use Rattle.subtypep_app.specs.declared.query.Question.TheVariants as variant
use Rattle.subtypep_app.specs.declared.line.Line.{Line}
use Rattle.subtypep_app.specs.declared.line.Line.TheVariants.{Refused, NoObject}
use Rattle.std.specs.declared.alloc.AllocError.{AllocError}
use Rattle.subtypep_app.specs.Queries.{Question, inclusion, membership, refused}

-- the question that one of the code stands for
abbrev pub posed : code.Question → Question
posed (variant.Inclusion a b) = inclusion a.now b.now
posed (variant.Membership o a) = membership o.now a.now
posed (variant.Refused x) = refused x

-- the line of a type that was not resolved; want of memory is told as what it is
abbrev pub line_of_stop : Stop → Result Line AllocError → Type 0
line_of_stop stop.Memory (Ok line) = ⊥
line_of_stop stop.Memory (Err e) = Unit {0}
line_of_stop (stop.Refused x) r = r ≡ Ok (Refused x)

-- the line of an object that was not read; want of memory is told as what it is
abbrev pub line_of_no_object : ObjectRefusal → Result Line AllocError → Type 0
line_of_no_object literal.Memory (Ok line) = ⊥
line_of_no_object literal.Memory (Err e) = Unit {0}
line_of_no_object x r = r ≡ Ok (NoObject x)
