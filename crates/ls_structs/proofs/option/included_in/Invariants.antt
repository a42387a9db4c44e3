use Rattle.std.proofs.Common.{◌≡◌, ◌++◌, drop}
use Rattle.std.specs.Prelude.{option_to_list}
use Rattle.std.specs.Option.{option_copied}
use Rattle.ls_structs.specs.Options.{names_included, at_most_one}
use Rattle.ls_structs.proofs.option.included_in.Given as goal

abbrev pub invariant-loop-option : goal.invariant-loop-option
invariant-loop-option l =
    at_most_one (option_to_list (option_copied l.found) ++ names_included (drop l.option-index l.options))
    ≡ at_most_one (names_included l.options)
