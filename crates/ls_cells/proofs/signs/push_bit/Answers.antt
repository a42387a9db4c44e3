use Rattle.std.proofs.Common.{◌∙◌, ◌++◌, ◌∷◌, [], ap, true, sym, subst, List, ℕ}
use Rattle.ls_cells.specs.steps.Words.{Pushed}
use Rattle.ls_cells.proofs.BitLemmas.{from_bool_is}
use Rattle.ls_cells.proofs.PushLemmas.{pushed_word, pushed_false, pushed_true}
use Rattle.ls_cells.proofs.signs.push_bit.Goals as goal

pub returns-then-len-eq0-clause-ok : goal.returns-then-len-eq0-clause-ok
returns-then-len-eq0-clause-ok c =
    let ws : List ℕ = c.args.words.now.items in
    let e = c.in_ok-push.ensures.ok ∙ ap (λ n. ws ++ n ∷ []) (c.from.ensures ∙ from_bool_is c.args.value) in
    subst (Pushed c.args.len c.args.value ws) (sym e) (pushed_word c.args.len c.args.value ws c.requires c.if-len-eq0.true)

pub returns-then-not-value-clause-ok : goal.returns-then-not-value-clause-ok
returns-then-not-value-clause-ok c =
    let ws : List ℕ = c.args.words.now.items in
    subst (λ b. Pushed c.args.len b ws ws) (sym c.if-not-value.true) (pushed_false _ _ c.requires c.if-len-eq0.false)

pub returns-clause-ok : goal.returns-clause-ok
returns-clause-ok c =
    let ws : List ℕ = c.args.words.now.items in
    subst (λ b. Pushed c.args.len b ws c.flip_bit.new.words.items) (sym c.if-not-value.false)
    (subst (Pushed c.args.len true ws) (sym c.flip_bit.ensures) (pushed_true _ _ c.requires c.if-len-eq0.false))
