-- The ends that atoms name, and sorted ends.
use Rattle.std.proofs.Common.{ℕ, suc, ◌≡◌, ◌+◌, ◌*◌, ◌<◌, ◌≤◌, ap, sym, subst, ◌∙◌, false, if◌then◌else◌, List, [], ◌∷◌, ◌++◌, map, length, get_or, take, drop, length-append, arith}
use Rattle.std.specs.List.{AllByRecursion}
use Rattle.std.specs.List.Sorted.{IsPermutation, IsSortedBy}
use Rattle.std.proofs.Math.Seq.{drop-cons}
use Rattle.std.proofs.lemmas.List.{take_more}
use Rattle.std.proofs.lemmas.List.Elements.{All-from_recursion, recursion_from_All}
use Rattle.std.proofs.lemmas.List.Sorted.{All-permutation}
use Rattle.ls_object.specs.declared.rat.Rat.{Rat}
use Rattle.ls_spec.specs.Fits.{IsSmall, IsSmallBound}
use Rattle.ls_spec.specs.Meaning.{specifier}
use Rattle.ls_spec.specs.Specifier.{Specifier, eql_to, range_of}
use Rattle.ls_spec.specs.declared.spec.Bound.{Bound}
use Rattle.ls_spec.specs.declared.spec.Bound.TheVariants.{Free, Incl, Excl}
use Rattle.ls_spec.specs.declared.spec.Point.TheVariants as point
use Rattle.ls_spec.specs.declared.spec.Spec.{Spec}
use Rattle.ls_spec.proofs.ListLemmas.{AllByRecursion-append}
use Rattle.ls_points.specs.Classes.{IsFitAtom, is_range, is_number_point, count_atoms}
use Rattle.ls_points.specs.steps.Numbers.{bound_end, named_ends, ends_of, IsAtMost, is_less, AreRisingFrom, AreRising, GoesUpTo}
use Rattle.ls_points.proofs.FractionLemmas.{neighbour}
use Rattle.ls_points.proofs.GapLemmas.{Stands, Stands-more}

-- ---- one end further

-- the next of the ends, and those after it
pub rising_at : (last end : Rat) (rest : List Rat) (i : ℕ) → i < length rest → end ≡ get_or rest i end → AreRisingFrom last (drop i rest) → IsSmall end × IsAtMost last end × AreRisingFrom end (drop (i + 1) rest)
rising_at last end rest i l e h =
    let d : drop i rest ≡ end ∷ drop (suc i) rest = drop-cons rest i end l ∙ ap (λ x. x ∷ drop (suc i) rest) (sym e) in
    let f : AreRisingFrom last (end ∷ drop (suc i) rest) = subst (AreRisingFrom last) d h in
    let n : suc i ≡ i + 1 = omega arith in
    (f.0, f.1, subst (λ k. AreRisingFrom end (drop k rest)) n f.2)

-- what stands past it
pub stands_at : (least last end : Rat) (rest old new : List Rat) (i : ℕ) → i < length rest → end ≡ get_or rest i end → IsAtMost last end → Stands (least ∷ take i rest) last old → GoesUpTo last end old new → Stands (least ∷ take (i + 1) rest) end new
stands_at least last end rest old new i l e up so_far goes =
    let d : take (i + 1) rest ≡ take i rest ++ end ∷ [] = take_more rest i end l ∙ ap (λ x. take i rest ++ x ∷ []) (sym e) in
    subst (λ xs. Stands (least ∷ xs) end new) (sym d) (Stands-more (least ∷ take i rest) last end old so_far new up goes)

-- ---- the named ends

-- the end of a small bound is small
bound_small : (b : Bound) → IsSmallBound b → AllByRecursion IsSmall (bound_end b)
bound_small Free h = tt
bound_small (Incl r) h = (h, tt)
bound_small (Excl r) h = (h, tt)

-- the ends that a fit atom names are small
named_small : (s : Specifier) → IsFitAtom s → AllByRecursion IsSmall (named_ends s)
named_small (eql_to (point.Number r)) fit = (fit.1.0, tt)
named_small (eql_to (point.Char c)) fit = tt
named_small (eql_to (point.Sym s)) fit = tt
named_small (range_of k lo hi) fit = AllByRecursion-append IsSmall (bound_end lo) (bound_end hi) (bound_small lo fit.1.0.0) (bound_small hi fit.1.0.1)
named_small _ fit = tt

-- the ends that fit atoms name are within the limits
ends_small : (atoms : List Spec) → AllByRecursion (λ a. IsFitAtom (specifier a)) atoms → AllByRecursion IsSmall (ends_of atoms)
ends_small [] fit = tt
ends_small (a ∷ more) fit = AllByRecursion-append IsSmall (named_ends (specifier a)) (ends_of more) (named_small (specifier a) fit.0) (ends_small more fit.1)

-- a bound has at most one end
count_bound : (b : Bound) → length (bound_end b) ≤ 1
count_bound Free = omega arith
count_bound (Incl r) = omega arith
count_bound (Excl r) = omega arith

-- a range names at most two ends, a number one
count_named : (s : Specifier) → length (named_ends s) ≤ 2 * (if is_range s then 1 else 0) + (if is_number_point s then 1 else 0)
count_named (eql_to (point.Number r)) = omega arith
count_named (eql_to (point.Char c)) = omega arith
count_named (eql_to (point.Sym s)) = omega arith
count_named (range_of k lo hi) =
    let e = length-append (bound_end lo) (bound_end hi) in
    let f = count_bound lo in
    let g = count_bound hi in
    omega arith
count_named _ = omega arith

-- how many ends the atoms name
pub count_ends : (atoms : List Spec) → length (ends_of atoms) ≤ 2 * count_atoms is_range (map specifier atoms) + count_atoms is_number_point (map specifier atoms)
count_ends [] = omega arith
count_ends (a ∷ more) =
    let e = length-append (named_ends (specifier a)) (ends_of more) in
    let f = count_named (specifier a) in
    let g = count_ends more in
    omega arith

-- ---- sorted ends

-- what holds of each element holds of each in another order
pub AllByRecursion-permutation : {X : Type 0} (P : X → Type 0) (xs ys : List X) → IsPermutation xs ys → AllByRecursion P xs → AllByRecursion P ys
AllByRecursion-permutation P xs ys same h = recursion_from_All P ys (All-permutation P xs ys same (All-from_recursion P xs h))

-- what is sorted rises, from a first end on
rising_from : (last : Rat) (ends : List Rat) → AllByRecursion IsSmall ends → IsSortedBy is_less (last ∷ ends) → AreRisingFrom last ends
rising_from last [] small sorted = tt
rising_from last (end ∷ ends) small sorted = (
  small.0,
  neighbour last end (sorted 0 last (omega arith) (omega arith)),
  rising_from end ends small.1 (λ k d low high.
      let n : suc k + 1 ≡ suc (k + 1) = omega arith in
      subst (λ j. is_less (get_or (last ∷ end ∷ ends) j d) (get_or (end ∷ ends) k d) ≡ false) n (sorted (suc k) d (omega arith) (omega arith))),
)

-- what is sorted rises
rising : (ends : List Rat) → AllByRecursion IsSmall ends → IsSortedBy is_less ends → AreRising ends
rising [] small sorted = tt
rising (end ∷ ends) small sorted = (small.0, rising_from end ends small.1 sorted)

-- the sorted ends of fit atoms
pub sorted_rise : (atoms : List Spec) (sorted : List Rat) → AllByRecursion (λ a. IsFitAtom (specifier a)) atoms → IsPermutation (ends_of atoms) sorted → IsSortedBy is_less sorted → AreRising sorted
sorted_rise atoms sorted fit same up = rising sorted (AllByRecursion-permutation IsSmall (ends_of atoms) sorted same (ends_small atoms fit)) up
