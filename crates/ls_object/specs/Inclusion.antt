-- Structure inclusion (DEFSTRUCT, the option :INCLUDE).
use Rattle.std.specs.Prelude.{[], ◌∷◌, ◌++◌, Bool, ◌||◌, if◌then◌else◌, Option, Some, None, reverse}
use Rattle.std.specs.List.{Contains}
use Rattle.std.specs.Option.{ForSome}
use Rattle.ls_object.specs.declared.symbol.Symbol.{Symbol}
use Rattle.ls_object.specs.Symbols.{same_symbol}
use Rattle.ls_object.specs.Universe.{Structures, IsStructureOf}

-- the name x is y, or x includes a name that is under y
pub data Under (structures : Structures) : Symbol → Symbol → Type 0 where
  itself : {x : Symbol} → Under structures x x
  through : {x z y : Symbol} → Contains structures (x, Some z) → Under structures z y → Under structures x y

-- The structure type may stand behind these: its name is new, and the name that it includes, if it does, is one of
-- theirs.
abbrev pub MayFollow : Structures → Symbol × Option Symbol → Type 0
MayFollow before (name, include) = (IsStructureOf before name → ⊥) × ForSome include (IsStructureOf before)

-- each of the structure types may stand behind those before it
abbrev pub AreIncludedBefore : Structures → Structures → Type 0
AreIncludedBefore before [] = Unit {0}
AreIncludedBefore before (pair ∷ more) = MayFollow before pair × AreIncludedBefore (before ++ pair ∷ []) more

-- the structure types have different names, and each included one stands before
abbrev pub IsInclusionOrder : Structures → Type 0
IsInclusionOrder structures = AreIncludedBefore [] structures

-- whether the name x is y, or leads to it by names that are included; of the structure types the last stands first
abbrev pub leads : Structures → Symbol → Symbol → Bool
leads [] x y = same_symbol x y
leads ((name, None) ∷ earlier) x y = if same_symbol name x then same_symbol x y else leads earlier x y
leads ((name, Some z) ∷ earlier) x y =
    if same_symbol name x then same_symbol x y || leads earlier z y else leads earlier x y

-- whether the name x is under y, for structure types each of which stands behind the one that it includes
abbrev pub under_in : Structures → Symbol → Symbol → Bool
under_in structures x y = leads (reverse structures) x y
