-- Specifiers that fit in what is left of the depth.
use Rattle.std.specs.Prelude.{ℕ, ◌≤◌}
use Rattle.ls_object.specs.Universe.{Structures}
use Rattle.ls_spec.specs.Fits.{HasSmallNumbers, HaveSmallNumbers, HasKnownNames, HaveKnownNames, depth, greatest_depth}
use Rattle.ls_spec.specs.Specifier.{Specifier, Specifiers}

-- within the limits on numbers, with structure names of the list, and at most so deep
abbrev pub FitsIn : Structures → ℕ → Specifier → Type 0
FitsIn structures room s = HasKnownNames structures s × HasSmallNumbers s × (depth s ≤ room)

abbrev pub FitIn : Structures → ℕ → Specifiers → Type 0
FitIn structures room ss = HaveKnownNames structures ss × HaveSmallNumbers ss × (greatest_depth ss ≤ room)
