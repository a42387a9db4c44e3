-- What holds at each place of a list holds of each of it.
use Rattle.std.proofs.Common.{zero, suc, arith, List, [], ◌∷◌, All}
use Rattle.std.specs.List.{AllByRecursion}

-- one after another, and by places
pub one_by_one : {X : Type 0} (P : X → Type 0) (xs : List X) → All P xs → AllByRecursion P xs
one_by_one P [] h = tt
one_by_one P (x ∷ xs) h = (h 0 x (omega arith), one_by_one P xs (λ i d l. h (suc i) d (omega arith)))

pub by_places : {X : Type 0} (P : X → Type 0) (xs : List X) → AllByRecursion P xs → All P xs
by_places P [] h i d l = absurd (omega arith)
by_places P (x ∷ xs) h zero d l = h.0
by_places P (x ∷ xs) h (suc i) d l = by_places P xs h.1 i d (omega arith)
