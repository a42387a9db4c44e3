-- The numbers that stand for all numbers.
use Rattle.std.specs.Prelude.{ℕ, ℤ, pos, unsigned_abs, ◌≡◌, ◌≢◌, ◌<◌, ◌*ℤ◌, int_le, ◌==◌, Bool, true, not, MatchOption, ◌⊎◌, List, [], ◌∷◌, ◌++◌}
use Rattle.std.specs.Int.{IsGcd}
use Rattle.std.specs.List.{AllByRecursion, Contains, flat_map}
use Rattle.std.specs.Option.{option_to_list}
use Rattle.ls_object.specs.Ratio.{IsLessRatio, HasNoIntegerBetween}
use Rattle.ls_object.specs.declared.rat.Rat.{Rat}
use Rattle.ls_spec.specs.Fits.{IsSmall}
use Rattle.ls_spec.specs.Meaning.{specifier}
use Rattle.ls_spec.specs.Specifier.{Specifier, eql_to, range_of}
use Rattle.ls_spec.specs.declared.spec.Bound.{Bound}
use Rattle.ls_spec.specs.declared.spec.Bound.TheVariants.{Free, Incl, Excl}
use Rattle.ls_spec.specs.declared.spec.Point.TheVariants as point
use Rattle.ls_spec.specs.declared.spec.Spec.{Spec}
use Rattle.ls_points.specs.declared.numbers.GapNumbers.{GapNumbers}

-- ---- fractions

-- a rational in lowest terms, of any size
pub record Fraction : Type 0 where
  pub num : ℤ
  pub den : ℕ
  pub positive : 0 < den
  pub lowest : IsGcd (unsigned_abs num) den 1

-- the fraction that a `Rat` holds
abbrev pub fraction : Rat → Fraction
fraction r = record { num = r.num; den = r.den; positive = r.positive; lowest = r.lowest }

-- the one is less than the other or equal to it
abbrev pub is_at_most : Fraction → Fraction → Bool
is_at_most a b = int_le (a.num *ℤ pos b.den) (b.num *ℤ pos a.den)

-- it is an integer
abbrev pub is_integer : Fraction → Bool
is_integer a = a.den == 1

-- ---- ends

-- the number of a bound
abbrev pub bound_end : Bound → List Rat
bound_end Free = []
bound_end (Incl r) = r ∷ []
bound_end (Excl r) = r ∷ []

-- the ends that an atom names: the number of EQL, and those of the bounds of INTEGER and RATIONAL
abbrev pub named_ends : Specifier → List Rat
named_ends (eql_to (point.Number r)) = r ∷ []
named_ends (range_of k lo hi) = bound_end lo ++ bound_end hi
named_ends _ = []

-- the ends that the atoms name, with repeats
abbrev pub ends_of : List Spec → List Rat
ends_of atoms = flat_map (λ a. named_ends (specifier a)) atoms

-- the one end is less than the other or equal to it
abbrev pub IsAtMost : Rat → Rat → Type 0
IsAtMost a b = is_at_most (fraction a) (fraction b) ≡ true

-- the one end is less than the other, as the test by which they are sorted
abbrev pub is_less : Rat → Rat → Bool
is_less a b = not (is_at_most (fraction b) (fraction a))

-- ends within the limits on numbers, each at least the one before it
abbrev pub AreRisingFrom : Rat → List Rat → Type 0
AreRisingFrom last [] = Unit {0}
AreRisingFrom last (end ∷ ends) = IsSmall end × IsAtMost last end × AreRisingFrom end ends

-- the same from the first of them on
abbrev pub AreRising : List Rat → Type 0
AreRising [] = Unit {0}
AreRising (end ∷ ends) = IsSmall end × AreRisingFrom end ends

-- ---- numbers that stand for others

-- the two fractions compare alike with the end
abbrev pub CompareAlike : Fraction → Fraction → Rat → Type 0
CompareAlike a b end =
    (is_at_most (fraction end) a ≡ is_at_most (fraction end) b) × (is_at_most a (fraction end) ≡ is_at_most b (fraction end))

-- the two fractions compare alike with each end, and both are integers or neither is one
abbrev pub AreLike : List Rat → Fraction → Fraction → Type 0
AreLike ends a b = AllByRecursion (CompareAlike a b) ends × (is_integer a ≡ is_integer b)

-- for each fraction one of the numbers is like it at the ends
abbrev pub AreStandIns : List Rat → List Rat → Type 0
AreStandIns ends numbers = (q : Fraction) → (r : Rat) × Contains numbers r × AreLike ends (fraction r) q

-- ---- gaps

-- the one number is less than the other
abbrev pub IsLess : Rat → Rat → Type 0
IsLess a b = IsLessRatio a.num a.den b.num b.den

-- the numbers of a gap as a list
abbrev pub gap_numbers : GapNumbers → List Rat
gap_numbers g = g.ratio ∷ option_to_list g.integer

-- an integer between the two
pub record IsIntegerBetween (lo hi k : Rat) : Type 0 where
  pub above : IsLess lo k
  pub below : IsLess k hi
  pub is_integer : k.den ≡ 1

-- a ratio between the two that is no integer, and an integer between them, if there is one
pub record AreBetween (lo hi : Rat) (g : GapNumbers) : Type 0 where
  pub above : IsLess lo g.ratio
  pub below : IsLess g.ratio hi
  pub no_integer : g.ratio.den ≢ 1
  pub integer : MatchOption g.integer (HasNoIntegerBetween lo.num lo.den hi.num hi.den) (IsIntegerBetween lo hi)

-- a ratio below the end that is no integer, and an integer below it
pub record AreBelow (end : Rat) (g : GapNumbers) : Type 0 where
  pub below : IsLess g.ratio end
  pub no_integer : g.ratio.den ≢ 1
  pub integer : MatchOption g.integer ⊥ (λ k. IsLess k end × (k.den ≡ 1))

-- a ratio above the end that is no integer, and an integer above it
pub record AreAbove (end : Rat) (g : GapNumbers) : Type 0 where
  pub above : IsLess end g.ratio
  pub no_integer : g.ratio.den ≢ 1
  pub integer : MatchOption g.integer ⊥ (λ k. IsLess end k × (k.den ≡ 1))

-- from one end to the next: nothing where they are equal, or else the numbers of the gap between them and the end
abbrev pub GoesUpTo : Rat → Rat → List Rat → List Rat → Type 0
GoesUpTo last end old new =
    (IsAtMost end last × (new ≡ old))
    ⊎ (IsLess last end × ((g : GapNumbers) × (AreBetween last end g × (new ≡ old ++ (gap_numbers g ++ end ∷ [])))))
