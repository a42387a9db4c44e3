-- Worked examples of the printed texts.
use Rattle.std.proofs.Common.{◌≡◌, ℕ, pos, List, [], ◌∷◌, true, false, codes, refl}
use Rattle.ls_object.specs.declared.symbol.Symbol.{Symbol}
use Rattle.ls_object.specs.declared.kind.Kind.TheVariants.{CompiledFunction}
use Rattle.ls_object.specs.Universe.{LispObject, node, number, character, symbol, pair, array, structure, opaque}
use Rattle.ls_object.specs.ObjectText.{object_text, natural_text}

-- the symbol of this package and name
abbrev name_of : List ℕ → List ℕ → Symbol
name_of package_name name = record { «package» = package_name; name = name }

-- the symbol NIL
abbrev nil : LispObject
nil = node [] (symbol (name_of (codes "COMMON-LISP") (codes "NIL")))

-- an integer
abbrev integer : ℕ → LispObject
integer n = node [] (number (pos n) 1)

-- a cons
abbrev cons : LispObject → LispObject → LispObject
cons car cdr = node [] (pair car cdr)

-- the text of the object
abbrev Prints : LispObject → List ℕ → Type 0
Prints o text = object_text o ≡ text

-- a character with a glyph is itself
letter : Prints (node [] (character 65)) (codes "#\\A")
letter = refl

-- a character with a name
space : Prints (node [] (character 32)) (codes "#\\Space")
space = refl

-- a character without a glyph
bell : Prints (node [] (character 7)) (codes "#\\U+0007")
bell = refl

-- a code of three digits
lambda : Prints (node [] (character 955)) (codes "#\\U+03BB")
lambda = refl

-- a code of six digits
last_character : Prints (node [] (character 1114111)) (codes "#\\U+10FFFF")
last_character = refl

-- a code of five digits
clef : Prints (node [] (character 119070)) (codes "#\\U+1D11E")
clef = refl

-- a list that ends in NIL
proper_list : Prints (cons (integer 1) (cons (cons (integer 2) nil) nil)) (codes "(1 (2))")
unfolding natural_text
proper_list = refl

-- a list that ends in a number
dotted_list : Prints (cons (integer 1) (cons nil (integer 3))) (codes "(1 NIL . 3)")
unfolding natural_text
dotted_list = refl

-- a simple array
byte_matrix : Prints (node [] (array 4 true (2 ∷ 10 ∷ []))) (codes "#<ARRAY (UNSIGNED-BYTE 8) (2 10) SIMPLE>")
unfolding natural_text
byte_matrix = refl

-- an array of rank 0 that isn't simple
general_array : Prints (node [] (array 18 false [])) (codes "#<ARRAY T ()>")
general_array = refl

-- an array of one of the kinds
float_vector : Prints (node [] (array 17 true (3 ∷ []))) (codes "#<ARRAY DOUBLE-FLOAT (3) SIMPLE>")
unfolding natural_text
float_vector = refl

-- a structure
ship : Prints (node [] (structure (name_of (codes "SEA") (codes "SHIP")))) (codes "#<STRUCTURE SEA::SHIP>")
ship = refl

-- an object of one of the kinds
compiled_function : Prints (node [] (opaque CompiledFunction)) (codes "#<COMPILED-FUNCTION>")
compiled_function = refl
