use Rattle.std.proofs.Common.{◌≡◌, ◌+◌, ◌*◌, ◌^◌, ◌∷◌, min, drop, sym, ap, ◌∙◌, arith}
use Rattle.std.proofs.lemmas.List.{drop_more}
use Rattle.std.proofs.Math.Nat.{min-le_right}
use Rattle.ls_reader.specs.Numbers.{weight, value_on}
use Rattle.ls_reader.proofs.NumberLemmas.{value_capped}
use Rattle.ls_reader.proofs.number.capped_value.Goals as goal

pub loop-c-preserved : goal.loop-c-preserved
loop-c-preserved c =
    let base = c.args.base in
    let digits = c.args.digits.now in
    let value = c.loop-c.value in
    let rest = drop (c.loop-c.c-index + 1) digits in
    let front : drop c.loop-c.c-index digits ≡ c.c-item.result ∷ rest = drop_more digits c.loop-c.c-index c.c-item.result c.loop-c-test.true ∙ ap (λ x. x ∷ rest) (sym c.c-item.is) in
    record {
      so_far = rw (c.min-value.ensures, c.from.ensures, c.from-in-loop-c.ensures, c.weight.ensures.value)
          (value_capped base (value * base + weight c.c-item.result) rest ∙ ap (λ cs. min (value_on base value cs) (2 ^ 64 + 1)) (sym front) ∙ c.loop-c.invariant.so_far);
      capped = omega (arith, c.min-value.ensures, min-le_right (value * c.from.result + c.from-in-loop-c.result) (2 ^ 64 + 1));
    }
