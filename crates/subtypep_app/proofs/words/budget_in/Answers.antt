use Rattle.std.proofs.Common.{◌≡◌, [], ◌∷◌, ap, sym, ◌∙◌}
use Rattle.std.specs.Prelude.{codes, string_bytes}
use Rattle.std.proofs.lemmas.Slice.Eq.{bytes_eq-Decides}
use Rattle.subtypep_app.specs.Words.{texts}
use Rattle.subtypep_app.proofs.WordLemmas.{two_items, named_budget}
use Rattle.subtypep_app.proofs.words.budget_in.Goals as goal

-- the option and its number
pub returns-in-len2 : goal.returns-in-len2
returns-in-len2 c =
    let words : c.args.options.now ≡ c.flag-item.result ∷ c.number-item.result ∷ [] = two_items _ _ _ c.in-len2.len_at_least c.in-len2.len_below c.flag-item.is c.number-item.is in
    let option : string_bytes c.flag-item.result ≡ codes "--budget" = sym c.as_str.ensures.value ∙ (bytes_eq-Decides _ _).0 (sym c.if-eq.ensures) in
    let texts_are : texts c.args.options.now ≡ codes "--budget" ∷ c.as_str-in-len2.result.now ∷ [] = ap texts words ∙ (λ i. option i ∷ sym c.as_str-in-len2.ensures.value i ∷ []) in
    named_budget _ _ c.number_in.result texts_are c.number_in.ensures
