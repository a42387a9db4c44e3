use Rattle.std.proofs.Common.{◌≡◌, length}
use Rattle.ls_reader.specs.steps.Building.{put}
use Rattle.ls_reader.proofs.builder.Builder.put.Given as goal

abbrev pub invariant-loop-frame : goal.invariant-loop-frame
invariant-loop-frame l = put l.datum l.self.frames l.self.done ≡ put l.fn.datum l.fn.self.frames l.fn.self.done

abbrev pub decreases-loop-frame : goal.decreases-loop-frame
decreases-loop-frame l = length l.self.frames
