use Rattle.std.proofs.Common.{arith, take, length-append}
use Rattle.std.proofs.lemmas.List.{length-take}
use Rattle.std.proofs.lemmas.Result.{err_from_is_err_and}
use Rattle.ls_io.proofs.MovesLemmas.{Gave-append}
use Rattle.ls_io.proofs.all.read_all.Goals as goal

-- the read was asked for no more than one byte past the limit
pub returns-then-len-count-gt-LIMIT-clause-too_long :
    goal.returns-then-len-count-gt-LIMIT-clause-too_long
returns-then-len-count-gt-LIMIT-clause-too_long g c = λ _. (
  _,
  omega (
    arith,
    length-append c.loop-bytes.bytes.items (take c.in-Ok.count c.read.new.buf),
    c.in-Ok.ensures.bound.0,
    c.in-Ok.ensures.bound.1,
    c.read.auto.buf,
    length-take c.min-want.result c.loop-bytes.chunk,
  ),
  Gave-append _ _ _ _ _ c.loop-bytes.invariant.given c.in-Ok.ensures.bytes.0,
)

-- the bytes before this call and those of this call were given together
pub returns-then-len-count-gt-LIMIT-clause-refused :
    goal.returns-then-len-count-gt-LIMIT-clause-refused
returns-then-len-count-gt-LIMIT-clause-refused g c =
    (_, Gave-append _ _ _ _ _ c.loop-bytes.invariant.given c.in-Ok.ensures.bytes.0)

-- the same where there is no memory for the bytes of this call
pub returns-in_err-extend_from_slice-in-Ok-clause-refused :
    goal.returns-in_err-extend_from_slice-in-Ok-clause-refused
returns-in_err-extend_from_slice-in-Ok-clause-refused g c =
    let p = err_from_is_err_and c.from_residual.result c.from_residual.ensures.1 in
    rw p.1 (_, Gave-append _ _ _ _ _ c.loop-bytes.invariant.given c.in-Ok.ensures.bytes.0)

-- the bytes that came are no more than the limit, though there is no memory for them
pub returns-in_err-extend_from_slice-in-Ok-clause-not_too_long :
    goal.returns-in_err-extend_from_slice-in-Ok-clause-not_too_long
returns-in_err-extend_from_slice-in-Ok-clause-not_too_long g c = λ _. (
  _,
  omega (
    arith,
    length-append c.loop-bytes.bytes.items (take c.in-Ok.count c.read.new.buf),
    c.in-Ok.ensures.bound.0,
    c.in-Ok.ensures.bound.1,
    c.read.auto.buf,
    length-take c.in-Ok.count c.read.new.buf,
  ),
  Gave-append _ _ _ _ _ c.loop-bytes.invariant.given c.in-Ok.ensures.bytes.0,
)
