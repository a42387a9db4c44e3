use Rattle.std.proofs.Common.{rules, ◌≡◌, ◌≤◌, length}
use Rattle.std.specs.Str.{chars}
use Rattle.std.proofs.lemmas.Result.{IfOk-weaker}
use Rattle.std.proofs.lemmas.Str.{chars_from_encodes}
use Rattle.ls_reader.proofs.AnswerLemmas.{chars_short}
use Rattle.ls_reader.proofs.reader.decode.Goals as goal

pub returns-clause-value : goal.returns-clause-value
returns-clause-value c = search (rules, chars_from_encodes)

pub returns-clause-short : goal.returns-clause-short
returns-clause-short c =
    IfOk-weaker c.collect.result (λ v. v.items ≡ chars c.args.text.now) (λ v. length v.items ≤ length c.args.text.now)
    (λ v e. chars_short c.args.text.now v.items c.utf8.text e) (returns-clause-value c)
