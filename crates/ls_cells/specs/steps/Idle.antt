-- Classes at whose objects no atom of a list can hold, as the variants of the atoms tell.
use Rattle.std.specs.Prelude.{ℕ, Bool, true, false, not, ◌||◌, ◌==◌, List, [], pos}
use Rattle.std.specs.List.{list_all}
use Rattle.ls_object.specs.declared.kind.Kind.TheVariants.{SingleFloat, OtherStructure}
use Rattle.ls_object.specs.declared.table.TheConstants.{T_PLACE}
use Rattle.ls_object.specs.Symbols.{nil_symbol}
use Rattle.ls_object.specs.Universe.{LispObject, node, LispShape, number, character, symbol, array, structure, opaque}
use Rattle.ls_spec.specs.declared.spec.Point.{Point}
use Rattle.ls_spec.specs.declared.spec.Point.TheVariants as point
use Rattle.ls_spec.specs.declared.spec.Spec.{Spec}
use Rattle.ls_spec.specs.Meaning.{specifier}
use Rattle.ls_spec.specs.Specifier.{Specifier, all_objects, no_objects, and_of, or_of, not_of, eql_to, range_of, chars_of, symbols_of, kind_of, structure_under, any_structure, array_any, array_of, string_of, cons_of, satisfies}
use Rattle.ls_spec.specs.Truth.{same_kind}
use Rattle.ls_points.specs.Classes.{IsNumber, IsCharacter, IsSymbol, IsOpaque}
use Rattle.ls_arrays.specs.Arrays.{IsArray}
use Rattle.ls_cells.specs.declared.idle.Class.{Class}
use Rattle.ls_cells.specs.declared.idle.Class.TheVariants.{Numbers, Characters, Symbols, Opaques, Structs, Arrays}

-- the classes in order
abbrev pub class_number : Class → ℕ
class_number Numbers = 0
class_number Characters = 1
class_number Symbols = 2
class_number Opaques = 3
class_number Structs = 4
class_number Arrays = 5

abbrev pub same_class : Class → Class → Bool
same_class a b = class_number a == class_number b

-- a structure, with any marks, whatever its type
abbrev pub IsSomeStructure : LispObject → Type 0
IsSomeStructure (node marks (structure x)) = Unit {0}
IsSomeStructure _ = ⊥

-- the object is of the class
abbrev pub IsOf : Class → LispObject → Type 0
IsOf Numbers o = IsNumber o
IsOf Characters o = IsCharacter o
IsOf Symbols o = IsSymbol o
IsOf Opaques o = IsOpaque o
IsOf Structs o = IsSomeStructure o
IsOf Arrays o = IsArray o

-- one of the class, or for structures, of which there can be none, an opaque object that is in none but theirs
abbrev pub some_shape : Class → LispShape
some_shape Numbers = number (pos 1) 1
some_shape Characters = character 128
some_shape Symbols = symbol nil_symbol
some_shape Opaques = opaque SingleFloat
some_shape Structs = opaque OtherStructure
some_shape Arrays = array T_PLACE true []

-- the class of what EQL names
abbrev pub class_of_point : Point → Class
class_of_point (point.Number r) = Numbers
class_of_point (point.Char c) = Characters
class_of_point (point.Sym s) = Symbols

-- whether the specifier can hold at an object of the class without marks of its own, by its variant; yes where that
-- doesn't tell
abbrev pub may_hold : Class → Specifier → Bool
may_hold class no_objects = false
may_hold class (eql_to p) = same_class class (class_of_point p)
may_hold class (range_of k lo hi) = same_class class Numbers
may_hold class (chars_of k) = same_class class Characters
may_hold class (symbols_of k) = same_class class Symbols
may_hold class (kind_of k) = same_class class Opaques || same_kind OtherStructure k
may_hold class (structure_under y) = same_class class Structs
may_hold class any_structure = same_class class Opaques || same_class class Structs
may_hold class (array_any simple dims) = same_class class Arrays
may_hold class (array_of e simple dims) = same_class class Arrays
may_hold class (string_of simple dim) = same_class class Arrays
may_hold class (cons_of a b) = false
may_hold class (satisfies p) = false
may_hold class all_objects = true
may_hold class (and_of ss) = true
may_hold class (or_of ss) = true
may_hold class (not_of s) = true

-- none of the atoms can hold at such an object
abbrev pub is_idle : Class → List Spec → Bool
is_idle class atoms = list_all (λ a. not (may_hold class (specifier a))) atoms
