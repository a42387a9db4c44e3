-- The printed text of a plain object, as the codes of its characters (22.1.3).
-- What the reader couldn't read back stands between #< and >.
use Rattle.std.specs.Prelude.{ℕ, zero, suc, ℤ, pos, negsuc, ◌+◌, ◌/◌, ◌%◌, ◌^◌, List, [], ◌∷◌, ◌++◌, Bool, false, not, ◌&&◌, ◌||◌, ◌==◌, Option, Some, None, slice_get, codes, map, if◌then◌else◌, nat_le, nat_lt, nat_eq}
use Rattle.std.specs.List.{list_all, list_any, flat_map}
use Rattle.std.specs.Int.Digits.{digits_of}
use Rattle.std.specs.Cmp.Lexicographic.{pointwise}
use Rattle.ls_object.specs.declared.symbol.Symbol.{Symbol}
use Rattle.ls_object.specs.declared.kind.Kind.{Kind}
use Rattle.ls_object.specs.declared.kind.Kind.TheVariants.{SingleFloat, DoubleFloat, Complex, Function, CompiledFunction, HashTable, Readtable, Package, Pathname, LogicalPathname, Stream, RandomState, Condition, Restart, OtherStructure, Other}
use Rattle.ls_object.specs.declared.table.Entry.{Entry}
use Rattle.ls_object.specs.declared.table.Entry.TheVariants.{Nil, Bit, UnsignedByte, SignedByte, BaseChar, Character, OfKind, T}
use Rattle.ls_object.specs.declared.table.TheConstants.{UPGRADING_TABLE}
use Rattle.ls_object.specs.Universe.{LispObject, node, LispShape, number, character, symbol, pair, array, structure, opaque}

-- a natural number in decimal, the highest digit first; a number has as many digits as it takes
unfoldable pub natural_text : ℕ → List ℕ
natural_text n = if n == 0 then codes "0" else map (λ d. 48 + d) (digits_of 10 n)

-- an integer in decimal
abbrev pub integer_text : ℤ → List ℕ
integer_text (pos n) = natural_text n
integer_text (negsuc n) = codes "-" ++ natural_text (suc n)

-- a numerator and a denominator in decimal
abbrev pub ratio_text : ℤ → ℕ → List ℕ
ratio_text n d = integer_text n ++ codes "/" ++ natural_text d

-- the rational n/d in decimal, an integer without a denominator (22.1.3.1)
abbrev pub number_text : ℤ → ℕ → List ℕ
number_text n d = if d == 1 then integer_text n else ratio_text n d

-- a digit below 16, with capital letters
abbrev pub hexadecimal_digit : ℕ → ℕ
hexadecimal_digit n = if nat_lt n 10 then 48 + n else 55 + n

-- the last hexadecimal digits of n, as many as the count says
abbrev pub hexadecimal : ℕ → ℕ → List ℕ
hexadecimal zero n = []
hexadecimal (suc count) n = hexadecimal count (n / 16) ++ hexadecimal_digit (n % 16) ∷ []

-- the number of hexadecimal digits of a character's code, at least four
abbrev pub code_digits : ℕ → ℕ
code_digits c = if nat_lt c (16 ^ 4) then 4 else (if nat_lt c (16 ^ 5) then 5 else 6)

-- the name of a character (13.1.7); one without a name is itself, or its code
abbrev pub character_name : ℕ → List ℕ
character_name c =
    if c == 8 then codes "Backspace" else (if c == 9 then codes "Tab"
    else (if c == 10 then codes "Newline" else (if c == 12 then codes "Page"
    else (if c == 13 then codes "Return" else (if c == 32 then codes "Space"
    else (if c == 127 then codes "Rubout" else (if nat_lt 32 c && nat_lt c 127 then c ∷ []
    else codes "U+" ++ hexadecimal (code_digits c) c)))))))

-- a character (22.1.3.2)
abbrev pub character_text : ℕ → List ℕ
character_text c = codes "#\\" ++ character_name c

-- a capital letter, from A to Z
abbrev pub is_capital : ℕ → Bool
is_capital c = nat_le 65 c && nat_le c 90

-- a digit, from 0 to 9
abbrev pub is_digit : ℕ → Bool
is_digit c = nat_le 48 c && nat_le c 57

-- a character that a name without bars may have
abbrev pub is_bare_char : ℕ → Bool
is_bare_char c = is_capital c || is_digit c || list_any (λ x. x == c) (codes "+-*/<>=!?$%&_~^.")

-- a character that a name without bars doesn't begin with
abbrev pub is_barred_start : ℕ → Bool
is_barred_start c = is_digit c || list_any (λ x. x == c) (codes "+-./")

-- the name is printed without bars
abbrev pub is_bare : List ℕ → Bool
is_bare [] = false
is_bare (c ∷ cs) = not (is_barred_start c) && list_all is_bare_char (c ∷ cs)

-- a character between bars: a bar and a backslash have a backslash before them (2.3.4)
abbrev pub escaped : ℕ → List ℕ
escaped c = if (c == 124) || (c == 92) then 92 ∷ c ∷ [] else c ∷ []

-- a name between bars
abbrev pub barred_text : List ℕ → List ℕ
barred_text cs = codes "|" ++ flat_map escaped cs ++ codes "|"

-- the name of a symbol or of a package
abbrev pub name_text : List ℕ → List ℕ
name_text cs = if is_bare cs then cs else barred_text cs

-- the two texts have the same characters
abbrev pub is_text : List ℕ → List ℕ → Bool
is_text = pointwise nat_eq

-- a keyword, by its name
abbrev pub keyword_text : List ℕ → List ℕ
keyword_text name = codes ":" ++ name_text name

-- a symbol with its package's name
abbrev pub qualified_text : List ℕ → List ℕ → List ℕ
qualified_text package_name name = name_text package_name ++ codes "::" ++ name_text name

-- a symbol (22.1.3.3), with its package unless that is COMMON-LISP
abbrev pub symbol_text : Symbol → List ℕ
symbol_text s =
    if is_text s.package (codes "COMMON-LISP") then name_text s.name
    else (if is_text s.package (codes "KEYWORD") then keyword_text s.name
    else qualified_text s.package s.name)

-- the symbol NIL, which ends a list
abbrev pub is_nil : Symbol → Bool
is_nil s = is_text s.package (codes "COMMON-LISP") && is_text s.name (codes "NIL")

-- the name of a kind
abbrev pub kind_text : Kind → List ℕ
kind_text SingleFloat = codes "SINGLE-FLOAT"
kind_text DoubleFloat = codes "DOUBLE-FLOAT"
kind_text Complex = codes "COMPLEX"
kind_text Function = codes "FUNCTION"
kind_text CompiledFunction = codes "COMPILED-FUNCTION"
kind_text HashTable = codes "HASH-TABLE"
kind_text Readtable = codes "READTABLE"
kind_text Package = codes "PACKAGE"
kind_text Pathname = codes "PATHNAME"
kind_text LogicalPathname = codes "LOGICAL-PATHNAME"
kind_text Stream = codes "STREAM"
kind_text RandomState = codes "RANDOM-STATE"
kind_text Condition = codes "CONDITION"
kind_text Restart = codes "RESTART"
kind_text OtherStructure = codes "OTHER-STRUCTURE"
kind_text Other = codes "OTHER"

-- an entry of the upgrading table, as the specifier that it stands for
abbrev pub entry_text : Entry → List ℕ
entry_text Nil = codes "NIL"
entry_text Bit = codes "BIT"
entry_text (UnsignedByte bits) = codes "(UNSIGNED-BYTE " ++ natural_text bits ++ codes ")"
entry_text (SignedByte bits) = codes "(SIGNED-BYTE " ++ natural_text bits ++ codes ")"
entry_text BaseChar = codes "BASE-CHAR"
entry_text Character = codes "CHARACTER"
entry_text (OfKind k) = kind_text k
entry_text T = codes "T"

-- the text of a place of the table, where it is one
abbrev pub text_of_entry : Option Entry → List ℕ
text_of_entry None = []
text_of_entry (Some entry) = entry_text entry

-- the entry at a place of the table
abbrev pub code_text : ℕ → List ℕ
code_text code = text_of_entry (slice_get UPGRADING_TABLE code)

-- the numbers with one space between
abbrev pub spaced : List ℕ → List ℕ
spaced [] = []
spaced (n ∷ ns) = natural_text n ++ flat_map (λ m. codes " " ++ natural_text m) ns

-- the dimensions of an array, () for rank 0
abbrev pub dimensions_text : List ℕ → List ℕ
dimensions_text dims = codes "(" ++ spaced dims ++ codes ")"

-- what stands behind the dimensions
abbrev pub simple_text : Bool → List ℕ
simple_text simple = if simple then codes " SIMPLE" else []

-- an array: its element type, its dimensions, and whether it is simple
abbrev pub array_text : ℕ → Bool → List ℕ → List ℕ
array_text code simple dims =
    codes "#<ARRAY " ++ code_text code ++ codes " " ++ dimensions_text dims ++ simple_text simple ++ codes ">"

abbrev mutual
  -- the printed text of an object without its marks
  pub object_text : LispObject → List ℕ
  object_text (node marks shape) = shape_text shape

  -- the same, by its shape
  pub shape_text : LispShape → List ℕ
  shape_text (number n d) = number_text n d
  shape_text (character c) = character_text c
  shape_text (symbol s) = symbol_text s
  shape_text (pair car cdr) = codes "(" ++ object_text car ++ rest_text cdr
  shape_text (array code simple dims) = array_text code simple dims
  shape_text (structure s) = codes "#<STRUCTURE " ++ symbol_text s ++ codes ">"
  shape_text (opaque k) = codes "#<" ++ kind_text k ++ codes ">"

  -- what stands behind a car whose cdr this is (22.1.3.5)
  pub rest_text : LispObject → List ℕ
  rest_text (node marks (pair car cdr)) = codes " " ++ object_text car ++ rest_text cdr
  rest_text (node marks (symbol s)) = if is_nil s then codes ")" else codes " . " ++ symbol_text s ++ codes ")"
  rest_text (node marks shape) = codes " . " ++ shape_text shape ++ codes ")"
