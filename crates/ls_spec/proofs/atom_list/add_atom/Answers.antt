use Rattle.std.proofs.Common.{◌≡◌, ◌∙◌, ap, ◌++◌, ◌∷◌, [], map, true, false, not, Bool, refl}
use Rattle.std.proofs.lemmas.List.{map_push}
use Rattle.ls_spec.specs.Meaning.{specifier}
use Rattle.ls_spec.proofs.FindingLemmas.{seen_where_found, with_new-added, with_new-kept}
use Rattle.ls_spec.proofs.atom_list.add_atom.Goals as goal

not_true : (a b : Bool) → a ≡ not b → a ≡ true → b ≡ false
not_true a true e f = cc
not_true a false e f = refl

not_false : (a b : Bool) → a ≡ not b → a ≡ false → b ≡ true
not_false a true e f = refl
not_false a false e f = cc

pub returns-in_ok-push-clause-found : goal.returns-in_ok-push-clause-found
returns-in_ok-push-clause-found c =
    let found = c.args.found.now in
    let seen = seen_where_found c.args.seen.now.keys (map specifier found) c.in_ok-key_of.field-0 (specifier c.args.spec.now) c.requires c.in_ok-key_of.ensures in
    ap (map specifier) c.in_ok-push.ensures.ok ∙ map_push specifier found c.in_ok-copy.field-0 ∙ ap (λ s. map specifier found ++ specifier s ∷ []) c.in_ok-copy.ensures
    ∙ with_new-added (map specifier found) (specifier c.args.spec.now) _ seen (not_true _ _ c.in_ok-insert.ensures.added c.if-branch.true)

pub returns-else-branch-clause-found : goal.returns-else-branch-clause-found
returns-else-branch-clause-found c =
    let seen = seen_where_found c.args.seen.now.keys (map specifier c.args.found.now) c.in_ok-key_of.field-0 (specifier c.args.spec.now) c.requires c.in_ok-key_of.ensures in
    with_new-kept (map specifier c.args.found.now) (specifier c.args.spec.now) _ seen (not_false _ _ c.in_ok-insert.ensures.added c.if-branch.false)
