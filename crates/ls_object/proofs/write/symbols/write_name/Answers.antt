use Rattle.ls_object.proofs.WritingLemmas.{on_err_none}
use Rattle.ls_object.proofs.write.symbols.write_name.Goals as goal

pub returns-then-is_bare-clause-err : goal.returns-then-is_bare-clause-err
returns-then-is_bare-clause-err c = on_err_none c.push_str.result _ c.args.out.now c.push_str.new.self c.push_str.ensures.err
