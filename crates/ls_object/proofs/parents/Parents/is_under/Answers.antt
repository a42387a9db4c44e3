use Rattle.std.proofs.lemmas.Bool.Decides.{same_from_decides}
use Rattle.std.proofs.lemmas.Option.{slice_get_within}
use Rattle.ls_object.proofs.UnderLemmas.{Decides-under_in}
use Rattle.ls_object.proofs.PlaceLemmas.{alone, under_none}
use Rattle.ls_object.proofs.parents.Parents.is_under.Goals as goal

pub returns-in_default-clause-value : goal.returns-in_default-clause-value
returns-in_default-clause-value c =
    same_from_decides _ _ (alone c.args.self.now c.args.x.now c.args.y.now c.is.result c.in_default.ensures.found c.is.ensures.value)
    (Decides-under_in c.args.self.now c.args.x.now c.args.y.now c.in_default.ensures.order)

pub returns-in_default-clause-under : goal.returns-in_default-clause-under
returns-in_default-clause-under c = alone c.args.self.now c.args.x.now c.args.y.now c.is.result c.in_default.ensures.found c.is.ensures.value

pub returns-in_default-place-clause-value : goal.returns-in_default-place-clause-value
returns-in_default-place-clause-value c =
    same_from_decides _ _ (under_none c.args.self.now c.in-Some.from c.args.x.now c.args.y.now c.in-Some.ensures.order c.in-Some.ensures.found c.in_default-place.ensures.found)
    (Decides-under_in c.args.self.now c.args.x.now c.args.y.now c.in-Some.ensures.order)

pub returns-in_default-place-clause-under : goal.returns-in_default-place-clause-under
returns-in_default-place-clause-under c =
    under_none c.args.self.now c.in-Some.from c.args.x.now c.args.y.now c.in-Some.ensures.order c.in-Some.ensures.found c.in_default-place.ensures.found

pub leads-requires-clause-from : goal.leads-requires-clause-from
leads-requires-clause-from c = slice_get_within c.args.self.now c.in-Some.from (c.args.x.now, c.in-Some.ensures.found.0) c.in-Some.ensures.found.1

pub returns-clause-value : goal.returns-clause-value
returns-clause-value c =
    same_from_decides _ _ (c.leads.ensures c.args.x.now c.args.y.now c.in-Some.ensures.found c.in-Some-place.ensures.found)
    (Decides-under_in c.args.self.now c.args.x.now c.args.y.now c.in-Some.ensures.order)
