use Rattle.std.proofs.Common.{◌∙◌, ap}
use Rattle.std.specs.List.{fold}
use Rattle.std.specs.Hash as fed
use Rattle.ls_cells.proofs.PackedLemmas.{shows}
use Rattle.ls_cells.proofs.KeyLemmas.{words_are}
use Rattle.ls_cells.proofs.signs.SignsHash.hash.Goals as goal

pub returns : goal.returns
returns g c =
    c.hash.ensures
    ∙ ap (λ ws. fold g.H.Hasher.write c.args.state.now (fed.slice fed.u64 ws)) (c.as_slice.ensures ∙ words_are (shows c.self.invariant c.self.view_is))
