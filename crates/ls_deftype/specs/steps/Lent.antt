-- What answers of the code lend.
use Rattle.std.specs.Prelude.{Option, Some, None}
use Rattle.ls_deftype.specs.declared.body.Body as lent
use Rattle.ls_deftype.specs.declared.mark.Rules as lent_rules
use Rattle.std.specs.Option.{option_copied}
use Rattle.ls_deftype.specs.Bodies.{Body}
use Rattle.ls_deftype.specs.Marks.{Rules}

abbrev pub body_lent : lent.Body → Body
body_lent b = record { backquoted = b.backquoted; datum = b.datum.now }

abbrev pub lent_body : Option lent.Body → Option Body
lent_body None = None
lent_body (Some b) = Some (body_lent b)

abbrev pub rules_of : lent_rules.Rules → Rules
rules_of r = record { backquoted = r.backquoted; names = r.names.now; rest = option_copied r.rest }
