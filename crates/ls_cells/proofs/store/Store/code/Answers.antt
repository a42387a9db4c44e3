use Rattle.std.proofs.Common.{◌<◌, ◌∙◌, sym, subst, length, MatchOption}
use Rattle.ls_object.specs.declared.table.Code.{Code}
use Rattle.ls_spec.specs.Membership.{UpgradesTo}
use Rattle.ls_intern.specs.Places.{at}
use Rattle.ls_cells.specs.Codes.{IsKnown}
use Rattle.ls_cells.specs.Kept.{structures_in, specifiers_in, codes_in}
use Rattle.ls_cells.proofs.CodeLemmas.{code_told}
use Rattle.ls_cells.proofs.store.Store.code.Goals as goal

pub returns : goal.returns
returns c =
    subst (λ v. MatchOption c.copied.result (IsKnown (codes_in v) (at (specifiers_in v) c.args.element) → ⊥)
    (λ (code : Code). IsKnown (codes_in v) (at (specifiers_in v) c.args.element) × UpgradesTo (structures_in v) (at (specifiers_in v) c.args.element) code.index)) c.self.view_is
    (code_told c.self.inside.structures c.self.inside.table c.len-distinct.ensures.distinct c.self.inside.codes c.args.element c.copied.result
    (subst (λ v. c.args.element < length (specifiers_in v)) (sym c.self.view_is) c.requires) c.self.invariant.upgraded (c.copied.ensures ∙ c.get.ensures))
