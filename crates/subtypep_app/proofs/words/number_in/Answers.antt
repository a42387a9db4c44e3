use Rattle.std.proofs.Common.{◌≡◌, ap, sym, ◌∙◌, arith}
use Rattle.std.specs.Prelude.{decimal}
use Rattle.std.proofs.lemmas.Slice.Eq.{bytes_eq-Decides}
use Rattle.subtypep_app.proofs.WordLemmas.{reads_number}
use Rattle.subtypep_app.proofs.words.number_in.Goals.{then-number-eq0-via-then-number-eq0, then-number-eq0-via-else-number-eq0+then-number-greatest, then-number-eq0-via-else-number-eq0+else-number-greatest+then-not-is_decimal}
use Rattle.subtypep_app.proofs.words.number_in.Goals as goal

-- the word is no number
pub returns-in_default : goal.returns-in_default
returns-in_default c = λ n is. (let read = reads_number c.args.greatest c.args.word.now c.parse.result n (omega (arith, c.requires)) c.parse.ensures.value.0 is in cc)

-- it is none that may be named, or is written otherwise
pub returns-then-number-eq0 : goal.returns-then-number-eq0
returns-then-number-eq0 c = λ n is.
    (let read = reads_number c.args.greatest c.args.word.now c.parse.result n (omega (arith, c.requires)) c.parse.ensures.value.0 is in
    let same : c.in-Ok.number ≡ n = cc in
    elim c.then-number-eq0.branch [
      | then-number-eq0-via-then-number-eq0 w ↦ omega (arith, w.if-number-eq0.true, same, is.0)
      | then-number-eq0-via-else-number-eq0+then-number-greatest w ↦ omega (arith, w.if-number-greatest.true, same, is.1)
      | then-number-eq0-via-else-number-eq0+else-number-greatest+then-not-is_decimal w ↦
          (let written = w.is_decimal.ensures ∙ (bytes_eq-Decides c.args.word.now (decimal c.in-Ok.number)).1 (is.2 ∙ ap decimal (sym same)) in
          let not_written = w.if-not-is_decimal.true in cc)
    ])
