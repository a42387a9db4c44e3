use Rattle.ls_env.proofs.CensusLemmas.{census_fresh, census_again}
use Rattle.ls_env.proofs.census.Census.add.Goals as goal

pub returns-in_ok-push : goal.returns-in_ok-push
returns-in_ok-push c = λ ds h.
    census_fresh ds c.args.definition c.in_ok-name.name c.args.self.now
    (record { names = c.insert_full.new.self; defined = c.push.new.self })
    c.in_ok-at.fresh c.in_ok-name.ensures c.in_ok-at.ensures.added c.if-fresh.true c.in_ok-at.ensures.keys
    c.in_ok-push.ensures.ok h

pub returns-then-at-len : goal.returns-then-at-len
returns-then-at-len c = λ ds h.
    census_again ds c.args.definition c.in_ok-name.name c.args.self.now
    (record { names = c.insert_full.new.self; defined = c.set.new.self })
    c.in_ok-at.fresh c.in_ok-at.at c.in_ok-name.ensures c.in_ok-at.ensures.added c.if-fresh.false
    c.in_ok-at.ensures.keys
    c.in_ok-at.ensures.unique c.in_ok-at.ensures.index c.set.ensures h
