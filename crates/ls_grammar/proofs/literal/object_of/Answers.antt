use Rattle.ls_grammar.proofs.LiteralLemmas.{literal_ok, literal_plain, literal_object, literal_err, literal_answers, literal_refuses}
use Rattle.ls_grammar.proofs.literal.object_of.Goals as goal

pub returns-clause-ok : goal.returns-clause-ok
returns-clause-ok c = literal_ok c.args.datum.now c.written_out.result c.written_out.ensures

pub returns-clause-plain : goal.returns-clause-plain
returns-clause-plain c = literal_plain c.args.datum.now c.written_out.result c.written_out.ensures

pub returns-clause-object : goal.returns-clause-object
returns-clause-object c = literal_object c.args.datum.now c.written_out.result c.written_out.ensures

pub returns-clause-err : goal.returns-clause-err
returns-clause-err c = literal_err c.args.datum.now c.written_out.result c.written_out.ensures

pub returns-clause-answers : goal.returns-clause-answers
returns-clause-answers c = literal_answers c.args.datum.now c.written_out.result c.written_out.ensures

pub returns-clause-refuses : goal.returns-clause-refuses
returns-clause-refuses c = literal_refuses c.args.datum.now c.written_out.result c.written_out.ensures
