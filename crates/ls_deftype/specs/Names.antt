-- The look-up of a parameter by its name.
use Rattle.std.specs.Prelude.{ℕ, List, Option}
use Rattle.std.specs.List.{position}
use Rattle.ls_object.specs.declared.symbol.Symbol.{Symbol}
use Rattle.ls_object.specs.Symbols.{same_symbol}

-- the place of a symbol in a list of symbols
abbrev pub place_of : List Symbol → Symbol → Option ℕ
place_of names s = position (same_symbol s) names
