use Rattle.ls_grammar.proofs.FitLemmas.{fits_of}
use Rattle.ls_grammar.proofs.WholeLemmas.{ok_of, err_of, answers_of, refuses_of}
use Rattle.ls_grammar.proofs.resolving.resolve.Goals as goal

pub returns-clause-ok : goal.returns-clause-ok
returns-clause-ok c = ok_of c.args.env.now c.args.datum.now c.resolve_in.result c.resolve_in.new.room c.resolve_in.ensures

pub returns-clause-err : goal.returns-clause-err
returns-clause-err c = err_of c.args.env.now c.args.datum.now c.resolve_in.result c.resolve_in.new.room c.resolve_in.ensures

pub returns-clause-answers : goal.returns-clause-answers
returns-clause-answers c = answers_of c.args.env.now c.args.datum.now c.resolve_in.result c.resolve_in.new.room c.resolve_in.ensures

pub returns-clause-refuses : goal.returns-clause-refuses
returns-clause-refuses c = refuses_of c.args.env.now c.args.datum.now c.resolve_in.result c.resolve_in.new.room c.resolve_in.ensures

pub returns-clause-fits : goal.returns-clause-fits
returns-clause-fits c =
    fits_of c.args.env.now c.args.datum.now c.resolve_in.result c.resolve_in.new.room c.resolve_in.ensures
