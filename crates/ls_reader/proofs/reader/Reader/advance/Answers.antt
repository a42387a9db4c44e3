use Rattle.std.proofs.Common.{arith}
use Rattle.ls_reader.proofs.TurnLemmas.{rest_less, stop_within}
use Rattle.ls_reader.proofs.reader.Reader.advance.Goals as goal

pub overflow_sub-text : goal.overflow_sub-text
overflow_sub-text c = omega (arith, rest_less c.args.self.now.rest.now (c.in-Ok.found.0, c.in-Ok.found.1.now) c.in-Ok.ensures)

pub failure_at-requires-clause-within : goal.failure_at-requires-clause-within
failure_at-requires-clause-within c = stop_within c.args.self.now.rest.now c.in-Err.stop c.in-Err.ensures
