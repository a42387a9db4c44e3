use Rattle.std.specs.List.{prefix_len}
use Rattle.std.proofs.Common.{◌≡◌, ℕ, List, true, false, take, drop, Ok, sym, ap, ◌∙◌}
use Rattle.ls_reader.specs.declared.token.Token.{Token}
use Rattle.ls_reader.specs.Characters.{is_constituent}
use Rattle.ls_reader.specs.steps.Lexing.{begins_escape}
use Rattle.ls_reader.specs.Tokens.{plain_interpretation, escaped_interpretation}
use Rattle.ls_reader.proofs.TokenLemmas.{plain_at, escaped_at}
use Rattle.ls_reader.proofs.interpret.token_at.Goals as goal

pub returns-then-begins_escape : goal.returns-then-begins_escape
returns-then-begins_escape c =
    let text = c.args.text.now in
    let back : c.split_at.result.1.now ≡ drop (prefix_len is_constituent text) text = c.split_at.ensures.back ∙ ap (λ (n : ℕ). drop n text) c.constituents_len.ensures.value in
    let begins : begins_escape (drop (prefix_len is_constituent text) text) ≡ true = ap begins_escape (sym back) ∙ sym c.begins_escape.ensures ∙ c.if-begins_escape.true in
    escaped_at c.args.role text (c.in_ok-chars.chars.items, c.in_ok-chars.rest.now) begins c.in_ok-chars.ensures
    ∙ ap (λ (t : Token). Ok (t, c.in_ok-chars.rest.now)) (ap (escaped_interpretation c.args.role) (sym c.deref.ensures.value) ∙ sym c.in_ok-escaped_interpretation.ensures)

pub returns : goal.returns
returns c =
    let text = c.args.text.now in
    let front : c.split_at.result.0.now ≡ take (prefix_len is_constituent text) text = c.split_at.ensures.front ∙ ap (λ (n : ℕ). take n text) c.constituents_len.ensures.value in
    let back : c.split_at.result.1.now ≡ drop (prefix_len is_constituent text) text = c.split_at.ensures.back ∙ ap (λ (n : ℕ). drop n text) c.constituents_len.ensures.value in
    let begins : begins_escape (drop (prefix_len is_constituent text) text) ≡ false = ap begins_escape (sym back) ∙ sym c.begins_escape.ensures ∙ c.if-begins_escape.false in
    plain_at c.args.role text begins ∙ ap (λ (x : List ℕ). Ok (plain_interpretation c.args.role x, drop (prefix_len is_constituent text) text)) (sym front)
    ∙ ap (λ (x : List ℕ). Ok (plain_interpretation c.args.role c.split_at.result.0.now, x)) (sym back) ∙ ap (λ (t : Token). Ok (t, c.split_at.result.1.now)) (sym c.in_ok-plain_interpretation.ensures)
