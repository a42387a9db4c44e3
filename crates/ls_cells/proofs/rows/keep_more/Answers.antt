use Rattle.std.proofs.Common.{refl}
use Rattle.ls_cells.proofs.FindLemmas.{key_kept, key_stays}
use Rattle.ls_cells.proofs.RowLemmas.{fresh_is}
use Rattle.ls_cells.proofs.rows.keep_more.Goals as goal

pub returns-clause-fresh : goal.returns-clause-fresh
returns-clause-fresh c = fresh_is _ _ _ _ _ _ c.requires c.in_ok-key.ensures c.in_ok-fresh.ensures.added refl

pub returns-clause-keys : goal.returns-clause-keys
returns-clause-keys c = λ t many. key_kept c.args.rows.now _ _ _ _ _ c.requires c.in_ok-key.ensures c.in_ok-fresh.ensures.added c.in_ok-fresh.ensures.keys t

pub returns-clause-old : goal.returns-clause-old
returns-clause-old c = λ f many. key_stays c.args.rows.now _ _ _ _ c.requires c.in_ok-fresh.ensures.added c.in_ok-fresh.ensures.keys f
