use Rattle.std.proofs.Common.{◌≡◌, Ok, Err, rules, subst}
use Rattle.ls_grammar.specs.steps.Making.{IsMade, Makes}
use Rattle.ls_grammar.proofs.MakingLemmas.{car_deep, cdr_deep, cdr_stops}
use Rattle.ls_grammar.proofs.literal.cons.Goals as goal

pub returns-in_err-cdr : goal.returns-in_err-cdr
returns-in_err-cdr c = λ v w h k.
    let car : c.args.car ≡ Ok c.in_ok-car.car = c.in_ok-car.was in
    let cdr : c.args.cdr ≡ Err c.in_err-cdr.field-0.0 = c.in_err-cdr.was in
    let made = subst (Makes v) car h in
    let stops = cdr_stops v w c.in_ok-car.car c.in_err-cdr.field-0.0 made (subst (Makes w) cdr k) in
    let e = c.from_residual-in_err-cdr.ensures.1 in
    search rules

pub returns-in_default : goal.returns-in_default
returns-in_default c = λ v w h k.
    let car : c.args.car ≡ Ok c.in_ok-car.car = c.in_ok-car.was in
    let cdr : c.args.cdr ≡ Ok c.in_ok-cdr.cdr = c.in_ok-cdr.was in
    car_deep v w c.in_ok-cdr.cdr (subst (IsMade v) c.in_default.is (subst (Makes v) car h)) (subst (Makes w) cdr k)

pub returns-in_default-cdr : goal.returns-in_default-cdr
returns-in_default-cdr c = λ v w h k.
    let car : c.args.car ≡ Ok c.in_ok-car.car = c.in_ok-car.was in
    let cdr : c.args.cdr ≡ Ok c.in_ok-cdr.cdr = c.in_ok-cdr.was in
    cdr_deep v w c.in_ok-car.car (subst (Makes v) car h) (subst (IsMade w) c.in_default-cdr.is (subst (Makes w) cdr k))
