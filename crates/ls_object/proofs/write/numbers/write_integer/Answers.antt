use Rattle.std.proofs.Common.{◌≡◌, ◌<◌, ◌^◌, ◌++◌, ℤ, OnOk, sym, subst, ◌∙◌, arith, FitsSigned}
use Rattle.std.specs.Prelude.{unsigned_abs}
use Rattle.std.proofs.lemmas.Int.{ints, to_z-of_z}
use mir.Syntax.{w128}
use Rattle.ls_object.proofs.DecimalLemmas.{integer_text-signed_decimal}
use Rattle.ls_object.proofs.write.numbers.write_integer.Goals as goal

-- an integer of 128 bits has at most 64 digits
few_digits : (z : ℤ) → FitsSigned w128 z → unsigned_abs z < 10 ^ 64
few_digits z h = omega (arith, ints)

pub returns-clause-ok : goal.returns-clause-ok
returns-clause-ok c =
    let z = c.args.value in
    let text = rw (to_z-of_z w128 z c.ranges.value) at c.format.ensures.text in
    subst (λ t. OnOk c.push_ascii.result (c.push_ascii.new.self ≡ c.args.out.now ++ t)) (text ∙ sym (integer_text-signed_decimal z (few_digits z c.ranges.value))) c.push_ascii.ensures.ok
