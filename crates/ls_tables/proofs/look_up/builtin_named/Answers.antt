use Rattle.std.proofs.Common.{◌∙◌}
use Rattle.ls_tables.specs.Builtins.{BUILTIN_NAMES}
use Rattle.ls_tables.proofs.NameLemmas.{builtin_by_characters}
use Rattle.ls_tables.proofs.look_up.builtin_named.Goals as goal

pub returns : goal.returns
unfolding BUILTIN_NAMES
returns c = c.look_up_in.ensures ∙ builtin_by_characters c.args.name.now c.utf8.name
