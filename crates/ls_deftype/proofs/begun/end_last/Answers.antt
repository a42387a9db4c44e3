use Rattle.std.proofs.Common.{◌≡◌, ◌∙◌, ap, subst, sym, Some}
use Rattle.std.specs.Prelude.{IfOk}
use Rattle.ls_reader.specs.declared.datum.Form.{roll-Form}
use Rattle.ls_deftype.specs.steps.Begun.{split_last, with_last}
use Rattle.ls_deftype.proofs.CopyLemmas.{last_of}
use Rattle.ls_deftype.proofs.begun.end_last.Goals as goal

pub returns-in-Some : goal.returns-in-Some
returns-in-Some c =
    let e : split_last c.args.made ≡ Some (c.pop.new.self, c.in-Some.last) = ap split_last c.in-Some.ensures ∙ last_of c.pop.new.self c.in-Some.last in
    subst (λ o. IfOk c.end_with.result (λ f. f ≡ roll-Form (with_last c.args.construct o))) (sym e) c.end_with.ensures
