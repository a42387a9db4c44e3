use Rattle.std.proofs.Common.{◌≤◌, ◌∙◌, List, ℕ, length, subst, sym}
use Rattle.ls_gen.proofs.SizeLemmas.{generated_short}
use Rattle.subtypep_app.proofs.tally.generated_forms.Goals as goal

-- the text is within the limit of what is read
pub read_text-requires : goal.read_text-requires
read_text-requires c =
    subst (λ (text : List ℕ). length text ≤ 16777216) (sym (c.deref.ensures.value ∙ c.in_ok-text.ensures))
    (generated_short c.args.count c.requires)
