use Rattle.std.proofs.Common.{◌≡◌, ◌-◌, ◌+◌, ◌≤◌, vec_len}
use Rattle.ls_io.specs.Moves.{limit, Gave}
use Rattle.ls_io.proofs.all.read_all.Given as goal

-- the source gave the bytes so far, which are within the limit, in no more calls than these, and none failed
abbrev pub invariant-loop-bytes : goal.invariant-loop-bytes
invariant-loop-bytes g l = record {
  within : vec_len l.bytes ≤ limit;
  given : Gave (g.S.Source.left l.fn.source) (g.S.Source.left l.source) l.bytes.items;
  quiet : g.S.Source.failures l.source ≡ g.S.Source.failures l.fn.source;
  sound : g.S.Source.is_sound l.fn.source → g.S.Source.is_sound l.source;
  calls : g.S.Source.calls l.source ≤ g.S.Source.calls l.fn.source + vec_len l.bytes;
}

-- each turn takes at least one byte
abbrev pub decreases-loop-bytes : goal.decreases-loop-bytes
decreases-loop-bytes g l = limit + 1 - vec_len l.bytes
