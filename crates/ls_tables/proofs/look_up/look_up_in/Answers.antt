use Rattle.std.proofs.Common.{rules, sym}
use Rattle.std.proofs.lemmas.Fn.{always_returns_same}
use Rattle.std.proofs.lemmas.Result.{MatchResult-at_ok, MatchResult-at_err}
use Rattle.std.specs.Ordering.{nat_cmp}
use Rattle.std.specs.Cmp.Lexicographic.{slice_cmp}
use Rattle.ls_tables.proofs.SearchLemmas.{searched}
use Rattle.ls_tables.proofs.look_up.look_up_in.Goals as goal

pub returns-in-Ok : goal.returns-in-Ok
returns-in-Ok c =
    let position = c.binary_search_by.ensures.position (λ row. slice_cmp nat_cmp row.0.now c.args.name.now) (always_returns_same _ _ _ (λ a r g called. search rules)) in
    let found = searched c.args.rows.now c.args.name.now c.binary_search_by.result c.requires c.binary_search_by.ensures.bound position in
    sym (MatchResult-at_ok _ _ _ c.in-Ok.is found _)

pub returns-in-Err : goal.returns-in-Err
returns-in-Err c =
    let position = c.binary_search_by.ensures.position (λ row. slice_cmp nat_cmp row.0.now c.args.name.now) (always_returns_same _ _ _ (λ a r g called. search rules)) in
    let found = searched c.args.rows.now c.args.name.now c.binary_search_by.result c.requires c.binary_search_by.ensures.bound position in
    sym (MatchResult-at_err _ _ _ c.in-Err.is found)
