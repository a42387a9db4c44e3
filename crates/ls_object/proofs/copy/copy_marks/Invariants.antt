use Rattle.std.proofs.Common.{◌≡◌, take}
use Rattle.ls_object.proofs.copy.copy_marks.Given as goal

abbrev pub invariant-loop-mark : goal.invariant-loop-mark
invariant-loop-mark l = l.copied ≡ take l.mark-index l.marks
