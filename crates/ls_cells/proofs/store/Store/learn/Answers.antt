use Rattle.std.proofs.Common.{◌≡◌, ◌<◌, sym, ap, subst, [], ◌∷◌, ◌++◌, length, None, OnOk, OnErr}
use Rattle.std.proofs.lemmas.Result.{on_ok_weaker, on_err_weaker}
use Rattle.ls_spec.specs.Membership.{UpgradesTo}
use Rattle.ls_intern.specs.Places.{at}
use Rattle.ls_memo.specs.Kept.{kept_for}
use Rattle.ls_cells.specs.Codes.{IsKnown, codes_of}
use Rattle.ls_cells.specs.Kept.{structures_in, specifiers_in, codes_in}
use Rattle.ls_cells.proofs.CodeLemmas.{code_absent, codes_put}
use Rattle.ls_cells.proofs.StoreLemmas.{store_put}
use Rattle.ls_cells.proofs.store.Store.learn.Goals as goal

pub put-requires : goal.put-requires
put-requires c = record {
  absent = subst (λ k. kept_for k c.self.inside.codes ≡ None) (sym c.in_ok-key.ensures)
      (code_absent c.self.inside.structures c.self.inside.table c.self.inside.codes c.args.element c.self.invariant.upgraded
      (subst (λ v. IsKnown (codes_in v) (at (specifiers_in v) c.args.element) → ⊥) (sym c.self.view_is) c.requires.absent));
}

pub invariant_of-self : goal.invariant_of-self
invariant_of-self c =
    store_put c.self.inside.structures c.self.inside.table c.self.inside.codes c.put.new.self c.self.inside.kept.memo c.self.inside.kept.rows c.in_ok-key.key c.args.element c.args.code c.put.result
    c.self.invariant c.in_ok-key.ensures (subst (λ v. c.args.element < length (specifiers_in v)) (sym c.self.view_is) c.requires.within)
    (subst (λ v. UpgradesTo (structures_in v) (at (specifiers_in v) c.args.element) c.args.code.index) (sym c.self.view_is) c.requires.upgraded) c.put.ensures.ok c.put.ensures.err

pub returns-clause-ok : goal.returns-clause-ok
returns-clause-ok c =
    subst (λ v. OnOk c.put.result (codes_of c.self.inside.table c.put.new.self ≡ codes_in v ++ (at (specifiers_in v) c.args.element, c.args.code.index) ∷ [])) c.self.view_is
    (on_ok_weaker c.put.result (λ e. codes_put c.self.inside.table c.self.inside.codes c.put.new.self c.in_ok-key.key c.args.element c.args.code c.in_ok-key.ensures e) c.put.ensures.ok)

pub returns-clause-err : goal.returns-clause-err
returns-clause-err c =
    subst (λ v. OnErr c.put.result (codes_of c.self.inside.table c.put.new.self ≡ codes_in v)) c.self.view_is
    (on_err_weaker c.put.result (λ e. ap (codes_of c.self.inside.table) e) c.put.ensures.err)
