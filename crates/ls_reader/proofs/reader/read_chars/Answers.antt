use Rattle.std.proofs.lemmas.Bool.Decides.{nat_tests}
use Rattle.std.proofs.Common.{arith}
use Rattle.std.proofs.lemmas.Result.{err_from_is_err_and}
use Rattle.ls_reader.specs.steps.Running.{reading}
use Rattle.ls_reader.proofs.TurnLemmas.{stands_start, small_start, turned_ok, err_is_fault}
use Rattle.ls_reader.proofs.reader.read_chars.Goals as goal

pub lexemes-init : goal.lexemes-init
lexemes-init c = rw (c.start.ensures, c.new.ensures) (record { stands = stands_start c.args.text.now; small = small_start c.args.text.now c.requires })

pub lexemes-smaller : goal.lexemes-smaller
lexemes-smaller c = (turned_ok c.args.text.now (reading c.lexemes.reader) (reading c.advance.new.self) c.lexemes.invariant.stands c.in_ok-advance.ensures).1

pub lexemes-preserved : goal.lexemes-preserved
lexemes-preserved c =
    let turn = turned_ok c.args.text.now (reading c.lexemes.reader) (reading c.advance.new.self) c.lexemes.invariant.stands c.in_ok-advance.ensures in
    record { stands = turn.0; small = turn.2 c.lexemes.invariant.small }

pub returns-in_err-advance-clause-err : goal.returns-in_err-advance-clause-err
returns-in_err-advance-clause-err c =
    let p = err_from_is_err_and c.from_residual.result c.from_residual.ensures.1 in
    rw (p.1, p.2) (err_is_fault c.args.text.now (reading c.lexemes.reader) c.in_err-advance.field-0.0 c.lexemes.invariant.stands (grind (arith, nat_tests)) c.in_err-advance.ensures)
