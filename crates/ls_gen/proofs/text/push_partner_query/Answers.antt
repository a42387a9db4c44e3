use Rattle.std.proofs.Common.{[], ◌++◌, decimal, sym, ap, ◌∙◌}
use Rattle.std.proofs.lemmas.List.{append-nil}
use Rattle.ls_gen.specs.Generated.{partner_line}
use Rattle.ls_gen.proofs.AppendLemmas.{appended_thrice}
use Rattle.ls_gen.proofs.LineTexts.{partner_parts}
use Rattle.ls_gen.proofs.text.push_partner_query.Goals as goal

pub returns : goal.returns
returns c =
    appended_thrice _ _ _ _ _ _ _ c.in_ok-extend_from_slice.ensures.items c.in_ok-push_number.ensures
    (appended_thrice _ _ _ _ _ _ _ c.in_ok-extend_from_slice-2.ensures.items
    (c.in_ok-push_number-2.ensures
    ∙ ap (λ j. c.extend_from_slice-2.new.self.items ++ decimal j) c.partner.ensures.value)
    c.in_ok-extend_from_slice-3.ensures.items)
    ∙ ap (λ t. c.args.out.now.items ++ t)
    (sym (partner_parts c.args.count c.args.i []) ∙ append-nil (partner_line c.args.count c.args.i))
