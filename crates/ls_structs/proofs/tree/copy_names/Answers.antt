use Rattle.std.proofs.Common.{ap, ◌∙◌, []}
use Rattle.indexmap.specs.IndexMap.{insert_all}
use Rattle.ls_object.specs.Symbols.{same_symbol}
use Rattle.ls_structs.proofs.CopyLemmas.{all_anew}
use Rattle.ls_structs.proofs.tree.copy_names.Goals as goal

pub loop-name-init : goal.loop-name-init
loop-name-init c =
    ap (λ l. insert_all same_symbol l c.into_iter-name-iterator.result) c.new-copied.ensures.empty
    ∙ ap (insert_all same_symbol [])
    (c.into_iter-name-iterator.ensures.into_iter_gives ∙ c.iter-name-items.ensures.rest)
    ∙ all_anew c.args.names.now.entries c.iter-name-items.ensures.unique
