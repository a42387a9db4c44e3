use Rattle.std.proofs.Common.{◌∙◌, arith, ap, sym, length, get_or}
use Rattle.std.proofs.lemmas.Bool.Decides.{Decides-eqb}
use Rattle.std.proofs.lemmas.List.{get_or_past}
use Rattle.ls_cells.proofs.PackedLemmas.{shows, clear_block}
use Rattle.ls_cells.proofs.signs.Signs.is_clear_block.Goals as goal

pub returns-then-block-words : goal.returns-then-block-words
returns-then-block-words c = λ t i f.
    clear_block c.args.block (shows c.self.invariant c.self.view_is)
    (ap (λ ws. get_or ws c.args.block 0) (sym c.as_slice-words.ensures) ∙ (Decides-eqb (get_or c.as_slice-words.result.now c.args.block 0) 0).0 t) i f

pub returns : goal.returns
returns c = λ t i f.
    clear_block c.args.block (shows c.self.invariant c.self.view_is)
    (get_or_past c.self.inside.words.items c.args.block 0 (omega (arith, c.if-block-words.false, ap length c.as_slice-words.ensures))) i f
