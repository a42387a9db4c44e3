-- Specifiers within the limits on numbers and depth, whose structure names are those of the file.
use Rattle.std.specs.Prelude.{ℕ, ◌+◌, ◌≤◌, ◌<◌, max, Option, Some, None, length, unsigned_abs}
use Rattle.std.specs.List.{AllByRecursion}
use Rattle.ls_object.specs.declared.rat.Rat.{Rat}
use Rattle.ls_object.specs.Universe.{Structures, IsStructureOf}
use Rattle.ls_spec.specs.declared.spec.Point.{Point}
use Rattle.ls_spec.specs.declared.spec.Point.TheVariants as point
use Rattle.ls_spec.specs.declared.spec.Bound.{Bound}
use Rattle.ls_spec.specs.declared.spec.Bound.TheVariants.{Free, Incl, Excl}
use Rattle.ls_spec.specs.declared.spec.DimPattern.{DimPattern}
use Rattle.ls_spec.specs.declared.spec.DimPattern.TheVariants as dimensions
use Rattle.ls_spec.specs.Limits.{largest_numerator, largest_denominator, largest_rank, dimension_limit, largest_depth}
use Rattle.ls_spec.specs.Specifier.{Specifier, all_objects, no_objects, and_of, or_of, not_of, eql_to, range_of, structure_under, array_any, array_of, string_of, cons_of, Specifiers, no_more, also}

-- a number within the limits
abbrev pub IsSmall : Rat → Type 0
IsSmall r = (unsigned_abs r.num ≤ largest_numerator) × (r.den ≤ largest_denominator)

abbrev pub IsSmallBound : Bound → Type 0
IsSmallBound Free = Unit {0}
IsSmallBound (Incl r) = IsSmall r
IsSmallBound (Excl r) = IsSmall r

abbrev pub IsSmallPoint : Point → Type 0
IsSmallPoint (point.Number r) = IsSmall r
IsSmallPoint (point.Char c) = Unit {0}
IsSmallPoint (point.Sym s) = Unit {0}

-- a dimension within the limit, or none asked for
abbrev pub IsSmallPlace : Option ℕ → Type 0
IsSmallPlace None = Unit {0}
IsSmallPlace (Some n) = n < dimension_limit

abbrev pub AreSmallDimensions : DimPattern → Type 0
AreSmallDimensions dimensions.Any = Unit {0}
AreSmallDimensions (dimensions.Places ps) = (length ps ≤ largest_rank) × AllByRecursion IsSmallPlace ps

-- every number in the specifier is within the limits, in its parts and element types too
abbrev mutual
  pub HasSmallNumbers : Specifier → Type 0
  HasSmallNumbers (and_of ss) = HaveSmallNumbers ss
  HasSmallNumbers (or_of ss) = HaveSmallNumbers ss
  HasSmallNumbers (not_of s) = HasSmallNumbers s
  HasSmallNumbers (eql_to p) = IsSmallPoint p
  HasSmallNumbers (range_of k lo hi) = IsSmallBound lo × IsSmallBound hi
  HasSmallNumbers (array_any simple dims) = AreSmallDimensions dims
  HasSmallNumbers (array_of e simple dims) = HasSmallNumbers e × AreSmallDimensions dims
  HasSmallNumbers (string_of simple dim) = IsSmallPlace dim
  HasSmallNumbers (cons_of a b) = HasSmallNumbers a × HasSmallNumbers b
  HasSmallNumbers _ = Unit {0}

  pub HaveSmallNumbers : Specifiers → Type 0
  HaveSmallNumbers no_more = Unit {0}
  HaveSmallNumbers (also s ss) = HasSmallNumbers s × HaveSmallNumbers ss

-- every structure name in the specifier is that of a structure type, in its parts and element types too
abbrev mutual
  pub HasKnownNames : Structures → Specifier → Type 0
  HasKnownNames structures (and_of ss) = HaveKnownNames structures ss
  HasKnownNames structures (or_of ss) = HaveKnownNames structures ss
  HasKnownNames structures (not_of s) = HasKnownNames structures s
  HasKnownNames structures (structure_under name) = IsStructureOf structures name
  HasKnownNames structures (array_of e simple dims) = HasKnownNames structures e
  HasKnownNames structures (cons_of a b) = HasKnownNames structures a × HasKnownNames structures b
  HasKnownNames structures _ = Unit {0}

  pub HaveKnownNames : Structures → Specifiers → Type 0
  HaveKnownNames structures no_more = Unit {0}
  HaveKnownNames structures (also s ss) = HasKnownNames structures s × HaveKnownNames structures ss

-- A specifier without parts is 1 deep, any other one deeper than its deepest part. The parts of a CONS are those
-- of the car and the cdr, that of an array its element type.
abbrev mutual
  pub depth : Specifier → ℕ
  depth (and_of ss) = 1 + greatest_depth ss
  depth (or_of ss) = 1 + greatest_depth ss
  depth (not_of s) = 1 + depth s
  depth (array_of e simple dims) = 1 + depth e
  depth (cons_of a b) = 1 + max (depth a) (depth b)
  depth _ = 1

  pub greatest_depth : Specifiers → ℕ
  greatest_depth no_more = 0
  greatest_depth (also s ss) = max (depth s) (greatest_depth ss)

-- within the limits, whatever structure names stand in it
abbrev pub IsWithinLimits : Specifier → Type 0
IsWithinLimits s = HasSmallNumbers s × (depth s ≤ largest_depth)

-- within the limits, with structure names of the list
abbrev pub Fits : Structures → Specifier → Type 0
Fits structures s = HasKnownNames structures s × IsWithinLimits s

-- none of T, NIL, AND, OR and NOT
abbrev pub IsAtom : Specifier → Type 0
IsAtom all_objects = ⊥
IsAtom no_objects = ⊥
IsAtom (and_of ss) = ⊥
IsAtom (or_of ss) = ⊥
IsAtom (not_of s) = ⊥
IsAtom _ = Unit {0}
