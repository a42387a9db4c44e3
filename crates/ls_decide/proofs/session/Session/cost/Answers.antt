use Rattle.std.proofs.Common.{ap, subst, ◌∙◌, ◌-◌, ◌∷◌, []}
use Rattle.std.specs.List.{sum_by}
use Rattle.ls_spec.specs.Meaning.{specifier}
use Rattle.ls_spec.specs.Distinct.{distinct}
use Rattle.ls_lists.specs.Walks.{sum}
use Rattle.ls_lists.specs.Costs.{element_lists, predicate_lists}
use Rattle.ls_intern.specs.Places.{specifiers_at}
use Rattle.ls_decide.specs.Answers.{TellsCost}
use Rattle.ls_decide.proofs.CostLemmas.{pair_at, first_passes, second_passes, third_passes, none_passes}
use Rattle.ls_decide.proofs.session.Session.cost.Goals as goal

pub returns-in_default : goal.returns-in_default
returns-in_default c = first_passes c.args.budget (specifier c.args.a.now) (specifier c.args.b.now) (specifiers_at c.add_entries.new.table c.as_slice.result.now) (ap (specifiers_at c.add_entries.new.table) c.as_slice.ensures ∙ c.in_ok-pair.ensures.are ∙ ap distinct (pair_at c.add.new.self c.add-2.new.self c.add_entries.new.table c.in_ok-first.first c.in_ok-second.second (specifier c.args.a.now) (specifier c.args.b.now) c.in_ok-second.ensures.grows c.in_ok-entries.ensures.grows c.in_ok-first.ensures.within c.in_ok-second.ensures.within c.in_ok-first.ensures.is c.in_ok-second.ensures.is)) (subst (TellsCost c.args.budget (sum (specifiers_at c.add_entries.new.table c.as_slice.result.now))) c.in_default.is c.in_ok-own.ensures)

pub returns-in_default-2 : goal.returns-in_default-2
returns-in_default-2 c = second_passes c.args.budget c.in-Some.own (specifier c.args.a.now) (specifier c.args.b.now) (specifiers_at c.add_entries.new.table c.as_slice.result.now) (specifiers_at c.add_entries.new.table (c.in_ok-first.first ∷ c.in_ok-second.second ∷ [])) (ap (specifiers_at c.add_entries.new.table) c.as_slice.ensures ∙ c.in_ok-pair.ensures.are ∙ ap distinct (pair_at c.add.new.self c.add-2.new.self c.add_entries.new.table c.in_ok-first.first c.in_ok-second.second (specifier c.args.a.now) (specifier c.args.b.now) c.in_ok-second.ensures.grows c.in_ok-entries.ensures.grows c.in_ok-first.ensures.within c.in_ok-second.ensures.within c.in_ok-first.ensures.is c.in_ok-second.ensures.is)) (pair_at c.add.new.self c.add-2.new.self c.add_entries.new.table c.in_ok-first.first c.in_ok-second.second (specifier c.args.a.now) (specifier c.args.b.now) c.in_ok-second.ensures.grows c.in_ok-entries.ensures.grows c.in_ok-first.ensures.within c.in_ok-second.ensures.within c.in_ok-first.ensures.is c.in_ok-second.ensures.is) (subst (TellsCost c.args.budget (sum (specifiers_at c.add_entries.new.table c.as_slice.result.now))) c.in-Some.is c.in_ok-own.ensures) (subst (TellsCost (c.args.budget - c.in-Some.own) (sum_by sum (element_lists (specifiers_at c.add_entries.new.table (c.in_ok-first.first ∷ c.in_ok-second.second ∷ []))))) c.in_default-2.is c.in_ok-elements.ensures)

pub returns-in_default-3 : goal.returns-in_default-3
returns-in_default-3 c = third_passes c.args.budget c.in-Some.own c.in-Some-2.elements (specifier c.args.a.now) (specifier c.args.b.now) (specifiers_at c.add_entries.new.table c.as_slice.result.now) (specifiers_at c.add_entries.new.table (c.in_ok-first.first ∷ c.in_ok-second.second ∷ [])) (ap (specifiers_at c.add_entries.new.table) c.as_slice.ensures ∙ c.in_ok-pair.ensures.are ∙ ap distinct (pair_at c.add.new.self c.add-2.new.self c.add_entries.new.table c.in_ok-first.first c.in_ok-second.second (specifier c.args.a.now) (specifier c.args.b.now) c.in_ok-second.ensures.grows c.in_ok-entries.ensures.grows c.in_ok-first.ensures.within c.in_ok-second.ensures.within c.in_ok-first.ensures.is c.in_ok-second.ensures.is)) (pair_at c.add.new.self c.add-2.new.self c.add_entries.new.table c.in_ok-first.first c.in_ok-second.second (specifier c.args.a.now) (specifier c.args.b.now) c.in_ok-second.ensures.grows c.in_ok-entries.ensures.grows c.in_ok-first.ensures.within c.in_ok-second.ensures.within c.in_ok-first.ensures.is c.in_ok-second.ensures.is) (subst (TellsCost c.args.budget (sum (specifiers_at c.add_entries.new.table c.as_slice.result.now))) c.in-Some.is c.in_ok-own.ensures) (subst (TellsCost (c.args.budget - c.in-Some.own) (sum_by sum (element_lists (specifiers_at c.add_entries.new.table (c.in_ok-first.first ∷ c.in_ok-second.second ∷ []))))) c.in-Some-2.is c.in_ok-elements.ensures) (subst (TellsCost (c.args.budget - c.in-Some.own - c.in-Some-2.elements) (sum_by sum (predicate_lists (specifier c.args.a.now) (specifier c.args.b.now)))) c.in_default-3.is c.in_ok-predicates.ensures)

pub returns : goal.returns
returns c = none_passes c.args.budget c.in-Some.own c.in-Some-2.elements c.in-Some-3.predicates (specifier c.args.a.now) (specifier c.args.b.now) (specifiers_at c.add_entries.new.table c.as_slice.result.now) (specifiers_at c.add_entries.new.table (c.in_ok-first.first ∷ c.in_ok-second.second ∷ [])) (ap (specifiers_at c.add_entries.new.table) c.as_slice.ensures ∙ c.in_ok-pair.ensures.are ∙ ap distinct (pair_at c.add.new.self c.add-2.new.self c.add_entries.new.table c.in_ok-first.first c.in_ok-second.second (specifier c.args.a.now) (specifier c.args.b.now) c.in_ok-second.ensures.grows c.in_ok-entries.ensures.grows c.in_ok-first.ensures.within c.in_ok-second.ensures.within c.in_ok-first.ensures.is c.in_ok-second.ensures.is)) (pair_at c.add.new.self c.add-2.new.self c.add_entries.new.table c.in_ok-first.first c.in_ok-second.second (specifier c.args.a.now) (specifier c.args.b.now) c.in_ok-second.ensures.grows c.in_ok-entries.ensures.grows c.in_ok-first.ensures.within c.in_ok-second.ensures.within c.in_ok-first.ensures.is c.in_ok-second.ensures.is) (subst (TellsCost c.args.budget (sum (specifiers_at c.add_entries.new.table c.as_slice.result.now))) c.in-Some.is c.in_ok-own.ensures) (subst (TellsCost (c.args.budget - c.in-Some.own) (sum_by sum (element_lists (specifiers_at c.add_entries.new.table (c.in_ok-first.first ∷ c.in_ok-second.second ∷ []))))) c.in-Some-2.is c.in_ok-elements.ensures) (subst (TellsCost (c.args.budget - c.in-Some.own - c.in-Some-2.elements) (sum_by sum (predicate_lists (specifier c.args.a.now) (specifier c.args.b.now)))) c.in-Some-3.is c.in_ok-predicates.ensures)
