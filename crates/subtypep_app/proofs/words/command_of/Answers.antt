use Rattle.std.proofs.Common.{◌≡◌, ◌∷◌, ◌-◌, length, take, drop, subst, sym, ◌∙◌}
use Rattle.std.specs.Prelude.{codes, string_bytes}
use Rattle.std.proofs.lemmas.Slice.Eq.{bytes_eq-Decides}
use Rattle.subtypep_app.specs.declared.words.Command.TheVariants.{Ask, Gen}
use Rattle.subtypep_app.specs.Words.{texts, Means}
use Rattle.subtypep_app.proofs.WordLemmas.{first_item}
use Rattle.subtypep_app.proofs.words.command_of.Goals as goal

-- the first word is `ask`, and those behind it mean a budget
pub returns-in-Some : goal.returns-in-Some
returns-in-Some c =
    let ask : string_bytes c.ask-item.result ≡ codes "ask" = sym c.as_str.ensures.value ∙ (bytes_eq-Decides _ _).0 (sym c.if-eq.ensures) in
    let words : c.args.words.now ≡ c.ask-item.result ∷ take (length c.args.words.now - 1) (drop 1 c.args.words.now) = first_item _ _ c.in-len1-up.len_at_least c.ask-item.is in
    subst (λ ws. Means (texts ws) (Ask c.in-Some.budget)) (sym words) (ask, c.in-Some.ensures)

-- the first word is `gen`, and those behind it mean a count and a budget
pub returns-in-Some-count_in : goal.returns-in-Some-count_in
returns-in-Some-count_in c =
    let gen : string_bytes c.generate-item.result ≡ codes "gen" = sym c.as_str-2.ensures.value ∙ (bytes_eq-Decides _ _).0 (sym c.if-eq-2.ensures) in
    let words : c.args.words.now ≡ c.generate-item.result ∷ take (length c.args.words.now - 1) (drop 1 c.args.words.now) = first_item _ _ c.in-len1-up.len_at_least c.generate-item.is in
    subst (λ ws. Means (texts ws) (Gen c.in-Some-count_in.count c.in-Some-count_in.budget)) (sym words) (gen, c.in-Some-count_in.ensures)
