-- What the names of arrays and strings say as heads of lists (15.2).
use Rattle.std.specs.Prelude.{ℕ, Bool, false, List, [], ◌∷◌, Option, Some, None, Result, Ok, Err}
use Rattle.ls_reader.specs.declared.datum.Span.{Span}
use Rattle.ls_reader.specs.declared.datum.Datum.{Datum}
use Rattle.ls_tables.specs.declared.name.Builtin.{Builtin}
use Rattle.ls_spec.specs.declared.spec.DimPattern.{DimPattern}
use Rattle.ls_spec.specs.declared.spec.DimPattern.TheVariants as dimensions
use Rattle.ls_spec.specs.Specifier.{Specifier, array_any, array_of}
use Rattle.ls_spec.specs.Builtins.{expansion}
use Rattle.ls_grammar.specs.declared.refusal.Refusal.{Refusal}
use Rattle.ls_grammar.specs.Dimensions.{place_of, dimensions_of, one_place}
use Rattle.ls_grammar.specs.Levels.{Level, refused, known, array_over, part_of, bad_argument}

-- arrays of an element type, of any where there is no datum
abbrev pub elements : Option Datum → Bool → DimPattern → Level
elements None simple dims = known (array_any simple dims)
elements (Some d) simple dims = array_over d simple dims

-- the dimensions are looked at with the list itself, and so before the element type
abbrev pub arrays : Option Datum → Bool → Result DimPattern Refusal → Level
arrays element simple (Err x) = refused x
arrays element simple (Ok dims) = elements element simple dims

-- ARRAY and SIMPLE-ARRAY take an element type and dimensions; one that is missing is `*`
abbrev pub array_level : Bool → Span → List Datum → Level
array_level simple at [] = elements None simple dimensions.Any
array_level simple at (element ∷ []) = elements (part_of element) simple dimensions.Any
array_level simple at (element ∷ dims ∷ []) = arrays (part_of element) simple (dimensions_of dims)
array_level simple at _ = bad_argument at

abbrev pub vector_with : Option Datum → Result (Option ℕ) Refusal → Level
vector_with element (Err x) = refused x
vector_with element (Ok n) = elements element false (one_place n)

-- VECTOR takes an element type and a length: (vector e n) is (array e (n))
abbrev pub vector_level : Span → List Datum → Level
vector_level at [] = elements None false (one_place None)
vector_level at (element ∷ []) = elements (part_of element) false (one_place None)
vector_level at (element ∷ n ∷ []) = vector_with (part_of element) (place_of n)
vector_level at _ = bad_argument at

-- ---- names that take a length alone

abbrev pub of_length : (Option ℕ → Specifier) → Result (Option ℕ) Refusal → Level
of_length said (Err x) = refused x
of_length said (Ok n) = known (said n)

abbrev pub length_level : (Option ℕ → Specifier) → Span → List Datum → Level
length_level said at [] = known (said None)
length_level said at (n ∷ []) = of_length said (place_of n)
length_level said at _ = bad_argument at

-- vectors whose element type is that of a name: (bit-vector n) is (array bit (n))
abbrev pub vectors_over : Builtin → Bool → Option ℕ → Specifier
vectors_over b simple n = array_of (expansion b) simple (one_place n)
