use Rattle.std.proofs.Common.{◌≡◌, ◌++◌, OnOk, sym, subst, ◌∙◌, arith}
use Rattle.ls_object.proofs.DecimalLemmas.{natural_text-decimal}
use Rattle.ls_object.proofs.write.numbers.write_natural.Goals as goal

pub returns-clause-ok : goal.returns-clause-ok
returns-clause-ok c =
    subst (λ t. OnOk c.push_ascii.result (c.push_ascii.new.self ≡ c.args.out.now ++ t)) (c.format.ensures.text ∙ sym (natural_text-decimal c.args.value (omega arith))) c.push_ascii.ensures.ok
