-- What one turn of a copy changes.
use Rattle.std.proofs.Common.{◌≡◌, ℕ, ◌+◌, List, [], ◌∷◌, ◌++◌, length, Result, ap, sym, subst, ◌∙◌, arith, length-append}
use Rattle.ls_reader.specs.declared.datum.Datum.{Datum}
use Rattle.ls_reader.specs.Sizes.{size, size_all}
use Rattle.ls_deftype.specs.declared.room.Stop.{Stop}
use Rattle.ls_deftype.specs.declared.begun.Begun.{Begun}
use Rattle.ls_deftype.specs.declared.copying.Turn.{Turn}
use Rattle.ls_deftype.specs.steps.Begun.{left, ended_with, ended, plugged, left_in}
use Rattle.ls_deftype.specs.steps.Turns.{GoesOn, Turned}
use Rattle.ls_deftype.proofs.SizeLemmas.{size_cons}
use Rattle.ls_deftype.proofs.CopyLemmas.{plugged_last, left_last, made_more}

-- a part of the innermost construct is begun
pub goes_in : (old new : List Begun) (top inner : Begun) (d : Datum) (before after : ℕ) → after + 1 ≡ before → ended inner ≡ d → size d ≡ size_all (left inner) + 1 → new ≡ old ++ top ∷ []
    → GoesOn (plugged old (ended_with top (top.made ++ d ∷ left top))) (left_in old + size_all (d ∷ left top)) (length old) before new after inner
goes_in old new top inner d before after took is sizes n =
    let sum = size_cons d (left top) in
    let lefts = ap left_in n ∙ left_last old top in
    let count = ap length n ∙ length-append old (top ∷ []) in
    record {
      same = ap (λ bs. plugged bs (ended inner)) n ∙ plugged_last old top (ended inner) ∙ ap (λ x. plugged old (ended_with top (top.made ++ x ∷ left top))) is;
      room = omega (arith, sum, lefts, sizes, took);
      less = omega (arith, sum, lefts, sizes, count);
    }

-- the innermost construct is ended, and is a part of the next one
pub goes_out : (old gs : List Begun) (top outer : Begun) (made : List Datum) (d : Datum) (n : ℕ) → old ≡ gs ++ outer ∷ [] → d ≡ ended top → made ≡ outer.made ++ d ∷ []
    → GoesOn (plugged old (ended top)) (left_in old) (length old) n gs n (record { span = outer.span; construct = outer.construct; made = made; parts = outer.parts; last = outer.last })
goes_out old gs top outer made d n o is more =
    let lefts = ap left_in o ∙ left_last gs outer in
    let count = ap length o ∙ length-append gs (outer ∷ []) in
    record {
      same =
          ap (λ ds. plugged gs (ended_with outer (ds ++ left outer))) more
          ∙ ap (plugged gs) (made_more outer d)
          ∙ ap (λ x. plugged gs (ended_with outer (outer.made ++ x ∷ left outer))) is
          ∙ sym (plugged_last gs outer (ended top))
          ∙ ap (λ bs. plugged bs (ended top)) (sym o);
      room = omega (arith, lefts);
      less = omega (arith, lefts, count);
    }

-- nothing was left of the innermost construct
pub turned_at : (old : List Begun) (a b : Begun) (count n : ℕ) (new : List Begun) (r : Result Turn Stop) → left a ≡ [] → b ≡ a → Turned (plugged old (ended b)) (left_in old) count n new n r
    → Turned (plugged old (ended a)) (left_in old + size_all (left a)) count n new n r
turned_at old a b count n new r none same h =
    let zero = ap size_all none in
    let e : left_in old ≡ left_in old + size_all (left a) = omega (arith, zero) in
    subst (λ t. Turned (plugged old (ended a)) t count n new n r) e (subst (λ x. Turned (plugged old (ended x)) (left_in old) count n new n r) same h)
