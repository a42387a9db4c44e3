use Rattle.std.proofs.Common.{◌≡◌, ◌<◌, subst, sym, arith}
use Rattle.ls_object.specs.declared.table.TheConstants.{TABLE_LEN}
use Rattle.ls_tables.specs.Table.{IsMeeting}
use Rattle.ls_tables.specs.steps.Meeting.{meeting_place, extent_held}
use Rattle.ls_tables.proofs.TableLemmas.{meeting_in_table, is_meeting, place_of_meeting}
use Rattle.ls_tables.proofs.meeting.code_meet.Goals as goal

-- the place that is answered
is_place : (c : goal.After-place_of) → c.place_of.result ≡ meeting_place c.args.a.index c.args.b.index
is_place c = place_of_meeting c.args.a.index c.args.b.index c.place_of.result (extent_held c.held_at.result) (extent_held c.held_at-2.result) (extent_held c.meet-both.result)
    c.held_at.ensures c.held_at-2.ensures c.meet-both.ensures c.place_of.ensures

-- it is in the table
is_within : (c : goal.After-place_of) → c.place_of.result < TABLE_LEN
is_within c = subst (λ k. k < TABLE_LEN) (sym (is_place c)) (meeting_in_table c.args.a.index c.args.b.index c.args.a.in_table c.args.b.in_table)

pub overflow_cast-result : goal.overflow_cast-result
overflow_cast-result c = let l = is_within c in omega arith

pub invariant_of-result : goal.invariant_of-result
invariant_of-result c = record { in_table = is_within c }

pub returns : goal.returns
returns c =
    let e = place_of_meeting c.args.a.index c.args.b.index c.place_of.result (extent_held c.held_at.result) (extent_held c.held_at-2.result) (extent_held c.meet-both.result)
    c.held_at.ensures c.held_at-2.ensures c.meet-both.ensures c.place_of.ensures in
    subst (IsMeeting c.args.a.index c.args.b.index) (sym e) (is_meeting c.args.a.index c.args.b.index c.args.a.in_table c.args.b.in_table)
