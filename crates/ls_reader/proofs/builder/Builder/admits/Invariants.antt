use Rattle.std.proofs.Common.{◌≡◌, drop}
use Rattle.ls_reader.specs.steps.Building.{admits}
use Rattle.ls_reader.proofs.builder.Builder.admits.Given as goal

abbrev pub invariant-loop-depth : goal.invariant-loop-depth
invariant-loop-depth l = admits (drop l.depth l.self.frames) ≡ admits l.self.frames
