use Rattle.std.proofs.Common.{◌-◌, subst, Option}
use Rattle.ls_spec.specs.Approximation.{low, high}
use Rattle.ls_lists.specs.Walks.{sum}
use Rattle.ls_decide.specs.Answers.{TellsCost}
use Rattle.ls_decide.specs.Sessions.{pair_list}
use Rattle.ls_decide.specs.declared.pairs.Pair.{Pair}
use Rattle.ls_decide.specs.steps.Pairs.{first_of, second_of, AreBoundsOf}
use Rattle.ls_decide.proofs.BudgetLemmas.{pair_told, sure_told, bounds_pass, bounds_told}
use Rattle.ls_decide.proofs.pairs.cost_of_pairs.Goals as goal

pub returns-in_default-bounds : goal.returns-in_default-bounds
returns-in_default-bounds c =
    let known = c.args.table.now in
    let own = c.args.pairs.now.own in
    let a = first_of known own in
    let b = second_of known own in
    let first = pair_told known c.as_slice.result.now own a b c.args.budget c.in_ok-own.field-0 c.requires.pairs.own c.as_slice.ensures c.in_ok-own.ensures in
    sure_told known a b c.args.budget c.in-Some.own (subst (TellsCost c.args.budget (sum (pair_list a b))) c.in-Some.is first)
    (subst (λ (bounds : Option Pair). AreBoundsOf known bounds a b) c.in_default-bounds.is c.requires.pairs.bounds)

pub returns-in_default-2 : goal.returns-in_default-2
returns-in_default-2 c =
    let known = c.args.table.now in
    let own = c.args.pairs.now.own in
    let a = first_of known own in
    let b = second_of known own in
    let left = c.args.budget - c.in-Some.own in
    let first = pair_told known c.as_slice.result.now own a b c.args.budget c.in_ok-own.field-0 c.requires.pairs.own c.as_slice.ensures c.in_ok-own.ensures in
    let are = subst (λ (bounds : Option Pair). AreBoundsOf known bounds a b) c.in-Some-bounds.is c.requires.pairs.bounds in
    let second = pair_told known c.as_slice-2.result.now c.in-Some-bounds.bounds (low a) (high b) left c.in_ok-more.field-0 are.1 c.as_slice-2.ensures c.in_ok-more.ensures in
    bounds_pass known a b c.args.budget c.in-Some.own (subst (TellsCost c.args.budget (sum (pair_list a b))) c.in-Some.is first) c.in-Some-bounds.bounds are
    (subst (TellsCost left (sum (pair_list (low a) (high b)))) c.in_default-2.is second)

pub returns : goal.returns
returns c =
    let known = c.args.table.now in
    let own = c.args.pairs.now.own in
    let a = first_of known own in
    let b = second_of known own in
    let left = c.args.budget - c.in-Some.own in
    let first = pair_told known c.as_slice.result.now own a b c.args.budget c.in_ok-own.field-0 c.requires.pairs.own c.as_slice.ensures c.in_ok-own.ensures in
    let are = subst (λ (bounds : Option Pair). AreBoundsOf known bounds a b) c.in-Some-bounds.is c.requires.pairs.bounds in
    let second = pair_told known c.as_slice-2.result.now c.in-Some-bounds.bounds (low a) (high b) left c.in_ok-more.field-0 are.1 c.as_slice-2.ensures c.in_ok-more.ensures in
    bounds_told known a b c.args.budget c.in-Some.own (subst (TellsCost c.args.budget (sum (pair_list a b))) c.in-Some.is first) c.in-Some-bounds.bounds c.in-Some-2.more are
    (subst (TellsCost left (sum (pair_list (low a) (high b)))) c.in-Some-2.is second)
