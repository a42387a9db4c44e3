use Rattle.std.proofs.Common.{sym}
use Rattle.std.proofs.lemmas.List.{length-map}
use Rattle.ls_intern.specs.Places.{at}
use Rattle.ls_decide.proofs.CandidateLemmas.{rows_from, part_from}
use Rattle.ls_decide.proofs.candidates.count_rows.Goals as goal

pub returns-clause-rows : goal.returns-clause-rows
returns-clause-rows c = λ list e.
    rows_from list _ _ _ _ _ _ _ _ _ c.args.pairs e c.count_predicates-predicates.ensures (sym (length-map c.args.atoms.now (at c.args.table.now))) c.in_ok-candidates.ensures
    c.plus-all.ensures c.power-scale.ensures c.power.ensures c.least_of.ensures c.times-rows.ensures

pub returns-clause-part : goal.returns-clause-part
returns-clause-part c = λ list e.
    part_from list _ _ _ _ _ _ _ _ _ c.args.pairs e c.count_predicates-predicates.ensures (sym (length-map c.args.atoms.now (at c.args.table.now))) c.in_ok-candidates.ensures
    c.plus-all.ensures c.power-scale.ensures c.times.ensures c.cut_at-words.ensures c.times-part.ensures
