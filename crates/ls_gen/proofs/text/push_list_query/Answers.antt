use Rattle.std.proofs.Common.{[], ◌++◌, sym, ap, ◌∙◌}
use Rattle.std.proofs.lemmas.List.{append-nil}
use Rattle.ls_gen.specs.Generated.{list_line}
use Rattle.ls_gen.proofs.AppendLemmas.{appended_thrice}
use Rattle.ls_gen.proofs.LineTexts.{list_parts}
use Rattle.ls_gen.proofs.text.push_list_query.Goals as goal

pub returns : goal.returns
returns c =
    appended_thrice _ _ _ _ _ _ _ c.in_ok-extend_from_slice.ensures.items c.in_ok-push_number.ensures
    c.in_ok-extend_from_slice-2.ensures.items
    ∙ ap (λ t. c.args.out.now.items ++ t) (sym (list_parts c.args.i []) ∙ append-nil (list_line c.args.i))
