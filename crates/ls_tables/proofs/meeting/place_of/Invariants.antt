use Rattle.std.proofs.Common.{◌≡◌, ◌+◌, drop}
use Rattle.std.specs.List.{position_or_len}
use Rattle.ls_object.specs.Table.{extent}
use Rattle.ls_tables.specs.steps.Meeting.{extent_held, same_extent}
use Rattle.ls_tables.proofs.meeting.place_of.Given as goal

abbrev pub invariant-loop-place : goal.invariant-loop-place
invariant-loop-place l = l.place + position_or_len (λ entry. same_extent (extent entry) (extent_held l.wanted)) (drop l.place l.table) ≡ position_or_len (λ entry. same_extent (extent entry) (extent_held l.wanted)) l.table
