use Rattle.std.proofs.Common.{ℕ, ◌<◌, length, inl, inr, refl}
use Rattle.std.proofs.lemmas.Bool.{cases_lt}
use Rattle.subtypep_app.proofs.app.finish.Goals as goal

-- all the bytes were written
pub returns-in-Ok-clause-ends : goal.returns-in-Ok-clause-ends
returns-in-Ok-clause-ends g c = inl (refl, (c.in-Ok.ensures.all, c.in-Ok.ensures.quiet))

-- a write failed, so the bytes are longer than any room that the sink had
pub returns-in-Err-clause-ends : goal.returns-in-Err-clause-ends
returns-in-Err-clause-ends g c = inr (refl, (c.in-Err.ensures.fault, c.in-Err.ensures.refused, longer))
  where
    longer : (room : ℕ) → g.K.Sink.has_room c.args.sink.now room → room < length c.args.bytes.now
    longer room has = elim (cases_lt room (length c.args.bytes.now)) [
      | inl over ↦ over
      | inr fits ↦ absurd (let stands = (c.in-Err.ensures.sound room has fits).0 in cc)
    ]
