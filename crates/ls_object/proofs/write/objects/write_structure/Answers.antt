use Rattle.std.proofs.Common.{codes}
use Rattle.ls_object.specs.ObjectText.{symbol_text}
use Rattle.ls_object.proofs.WritingLemmas.{on_err, three_second, three_ok_last, three_err_piece}
use Rattle.ls_object.proofs.write.objects.write_structure.Goals as goal

pub returns-in_err-write_text-clause-err : goal.returns-in_err-write_text-clause-err
returns-in_err-write_text-clause-err c =
    on_err c.from_residual-in_err-write_text.result _
    (three_second (codes "#<STRUCTURE ") (symbol_text c.args.name.now) (codes ">") c.args.out.now c.push_ascii.new.self c.write_text.new.out c.in_ok-push_ascii.ensures.ok c.in_err-write_text.ensures.err)

pub returns-clause-ok : goal.returns-clause-ok
returns-clause-ok c =
    three_ok_last c.push_ascii-2.result (codes "#<STRUCTURE ") (symbol_text c.args.name.now) (codes ">") c.args.out.now c.push_ascii.new.self c.write_text.new.out c.push_ascii-2.new.self c.in_ok-push_ascii.ensures.ok c.in_ok-write_text.ensures.ok c.push_ascii-2.ensures.ok

pub returns-clause-err : goal.returns-clause-err
returns-clause-err c =
    three_err_piece c.push_ascii-2.result (codes "#<STRUCTURE ") (symbol_text c.args.name.now) (codes ">") c.args.out.now c.push_ascii.new.self c.write_text.new.out c.push_ascii-2.new.self c.in_ok-push_ascii.ensures.ok c.in_ok-write_text.ensures.ok c.push_ascii-2.ensures.err
