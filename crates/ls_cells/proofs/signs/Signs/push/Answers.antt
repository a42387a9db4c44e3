use Rattle.std.proofs.Common.{◌∙◌, ◌++◌, ◌∷◌, [], ap}
use Rattle.ls_cells.specs.Signs.{tabulate, is_set}
use Rattle.ls_cells.proofs.PushLemmas.{push_is}
use Rattle.ls_cells.proofs.signs.Signs.push.Goals as goal

pub returns-clause-ok : goal.returns-clause-ok
returns-clause-ok c =
    ap (λ n. tabulate n (is_set c.push_bit.new.words.items)) c.in-Some.ensures.1
    ∙ push_is _ _ _ _ c.in_ok-push_bit.ensures.ok
    ∙ ap (λ xs. xs ++ c.args.value ∷ []) c.self.view_is
