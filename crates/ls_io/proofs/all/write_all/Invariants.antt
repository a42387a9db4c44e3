use Rattle.std.proofs.Common.{◌≡◌, ℕ, length, take, ◌-◌, ◌≤◌}
use Rattle.ls_io.specs.Moves.{Took}
use Rattle.ls_io.proofs.all.write_all.Given as goal

-- the bytes up to `at` are written with no failure, and a sink that had room for all has room for the others
abbrev pub invariant-loop-at : goal.invariant-loop-at
invariant-loop-at g l = record {
  within : l.at ≤ length l.bytes;
  taken : Took (g.K.Sink.written l.fn.sink) (g.K.Sink.written l.sink) (take l.at l.bytes);
  quiet : g.K.Sink.failures l.sink ≡ g.K.Sink.failures l.fn.sink;
  sound : (room : ℕ) → g.K.Sink.has_room l.fn.sink room → length l.bytes ≤ room
      → g.K.Sink.has_room l.sink (room - l.at);
}

-- each turn writes at least one byte
abbrev pub decreases-loop-at : goal.decreases-loop-at
decreases-loop-at g l = length l.bytes - l.at
