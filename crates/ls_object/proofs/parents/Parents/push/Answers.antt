use Rattle.std.proofs.Common.{rules, List, sym, subst}
use Rattle.ls_object.specs.declared.symbol.Symbol.{Symbol}
use Rattle.ls_object.specs.Universe.{Structures}
use Rattle.ls_object.specs.Inclusion.{MayFollow}
use Rattle.ls_object.specs.steps.Places.{IsIndexed}
use Rattle.ls_object.proofs.PlaceLemmas.{indexed_more}
use Rattle.ls_object.proofs.parents.Parents.push.Goals as goal

pub invariant_of-self-2 : goal.invariant_of-self-2
invariant_of-self-2 c =
    indexed_more c.self.inside.pairs c.push.new.self c.reserve.new.self.keys c.insert.new.self.keys c.args.name c.args.include c.insert.result
    (subst (λ (ks : List Symbol). IsIndexed ks c.self.inside.pairs) (search rules) c.self.invariant)
    (subst (λ (s : Structures). MayFollow s (c.args.name, c.args.include)) (sym c.self.view_is) (c.requires.is_new, c.requires.is_before))
    (search rules) (search rules) (search rules)
