use Rattle.ls_reader.proofs.AnswerLemmas.{forms_same, forms_apart, error_is_fault, error_reads, error_refuses}
use Rattle.ls_reader.proofs.reader.read_text.Goals as goal

pub returns-in-Ok-clause-reads : goal.returns-in-Ok-clause-reads
returns-in-Ok-clause-reads c = λ fs forms. forms_same c.args.bytes.now c.in-Ok.forms fs c.in-Ok.ensures.ok forms

pub returns-in-Ok-clause-refuses : goal.returns-in-Ok-clause-refuses
returns-in-Ok-clause-refuses c = λ k place fault. forms_apart c.args.bytes.now c.in-Ok.forms k place c.in-Ok.ensures.ok fault

pub returns-in-Err-clause-reads : goal.returns-in-Err-clause-reads
returns-in-Err-clause-reads c =
    error_reads c.args.bytes.now c.from.result (error_is_fault c.args.bytes.now c.in-Err.failure c.from.result c.in-Err.ensures.err c.from.ensures)

pub returns-in-Err-clause-refuses : goal.returns-in-Err-clause-refuses
returns-in-Err-clause-refuses c =
    error_refuses c.args.bytes.now c.from.result (error_is_fault c.args.bytes.now c.in-Err.failure c.from.result c.in-Err.ensures.err c.from.ensures)
