use Rattle.std.proofs.Common.{ap, ◌∙◌}
use Rattle.std.proofs.lemmas.Str.{encodes-IsAscii}
use Rattle.std.specs.Str.{chars}
use Rattle.ls_object.proofs.TextLemmas.{bytes_of_chars}
use Rattle.ls_object.proofs.text.Text.as_bytes.Goals as goal

pub returns-clause-utf8 : goal.returns-clause-utf8
returns-clause-utf8 c =
    bytes_of_chars c.as_bytes.result.now c.args.self.now c.as_bytes.ensures.utf8 (ap chars (c.as_bytes.ensures.value ∙ c.as_str.ensures) ∙ c.self.view_is)

pub returns-clause-ascii : goal.returns-clause-ascii
returns-clause-ascii c =
    λ ascii. bytes_of_chars c.as_bytes.result.now c.args.self.now c.as_bytes.ensures.utf8 (ap chars (c.as_bytes.ensures.value ∙ c.as_str.ensures) ∙ c.self.view_is) ∙ encodes-IsAscii c.args.self.now ascii
