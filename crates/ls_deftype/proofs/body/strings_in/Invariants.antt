use Rattle.std.proofs.Common.{◌≡◌, ◌≤◌, take, count_by}
use Rattle.ls_deftype.specs.Bodies.{is_string}
use Rattle.ls_deftype.proofs.body.strings_in.Given as goal

abbrev pub invariant-loop-form : goal.invariant-loop-form
invariant-loop-form l = (l.count ≡ count_by is_string (take l.form-index l.forms)) × (l.count ≤ l.form-index)
