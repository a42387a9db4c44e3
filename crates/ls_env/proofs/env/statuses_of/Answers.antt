use Rattle.std.proofs.Common.{length}
use Rattle.std.proofs.lemmas.Result.{IfOk-weaker}
use Rattle.ls_env.proofs.NumberLemmas.{graph_in_range, all_numbered}
use Rattle.ls_env.proofs.EnvLemmas.{graph_is, finished_by, statuses_are}
use Rattle.ls_env.proofs.env.statuses_of.Goals as goal

pub marks_of-requires : goal.marks_of-requires
marks_of-requires c =
    graph_in_range c.args.names.now.keys c.args.table.now.statuses c.args.table.now.templates c.as_slice-3.result.now
    (graph_is c.args.names.now.keys c.args.table.now c.as_slice-3.result.now c.in_ok-graph.graph c.as_slice.result.now
    c.as_slice-2.result.now
    c.as_slice-3.ensures c.in_ok-graph.ensures c.as_slice.ensures c.as_slice-2.ensures)
    c.requires

pub returns-clause-statuses : goal.returns-clause-statuses
returns-clause-statuses c =
    let graph =
    graph_is c.args.names.now.keys c.args.table.now c.as_slice-3.result.now c.in_ok-graph.graph
    c.as_slice.result.now c.as_slice-2.result.now
    c.as_slice-3.ensures c.in_ok-graph.ensures c.as_slice.ensures c.as_slice-2.ensures in
    IfOk-weaker c.all_finished.result _ _
    (λ statuses made. statuses_are c.args.names.now.keys c.args.table.now c.as_slice-3.result.now statuses graph
    (finished_by c.args.names.now.keys c.args.table.now c.as_slice-3.result.now c.in_ok-marks.marks
    c.as_slice-4.result.now c.as_slice-5.result.now statuses
    graph c.requires c.as_slice-4.ensures c.in_ok-marks.ensures c.as_slice-5.ensures made))
    c.all_finished.ensures

pub returns-clause-numbered : goal.returns-clause-numbered
returns-clause-numbered c =
    let graph =
    graph_is c.args.names.now.keys c.args.table.now c.as_slice-3.result.now c.in_ok-graph.graph
    c.as_slice.result.now c.as_slice-2.result.now
    c.as_slice-3.ensures c.in_ok-graph.ensures c.as_slice.ensures c.as_slice-2.ensures in
    IfOk-weaker c.all_finished.result _ _
    (λ statuses made. all_numbered (length c.args.table.now.templates) c.as_slice-3.result.now
    c.args.table.now.statuses statuses
    (finished_by c.args.names.now.keys c.args.table.now c.as_slice-3.result.now c.in_ok-marks.marks
    c.as_slice-4.result.now c.as_slice-5.result.now statuses
    graph c.requires c.as_slice-4.ensures c.in_ok-marks.ensures c.as_slice-5.ensures made) c.requires)
    c.all_finished.ensures
