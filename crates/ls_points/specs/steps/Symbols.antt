-- The symbols that stand for all symbols.
use Rattle.std.specs.Prelude.{ℕ, ◌+◌, ◌<◌, List, [], ◌∷◌, length, max, replicate, codes, encode_utf8_all}
use Rattle.std.specs.List.{AllByRecursion, flat_map}
use Rattle.ls_object.specs.declared.symbol.Symbol.{Symbol}
use Rattle.ls_object.specs.Symbols.{common_lisp_symbol}
use Rattle.ls_spec.specs.declared.spec.Point.TheVariants as point
use Rattle.ls_spec.specs.declared.spec.Spec.{Spec}
use Rattle.ls_spec.specs.Meaning.{specifier}
use Rattle.ls_spec.specs.Specifier.{Specifier, eql_to}

-- the symbol that an atom names
abbrev pub named_symbol : Specifier → List Symbol
named_symbol (eql_to (point.Sym s)) = s ∷ []
named_symbol _ = []

-- the symbols that the atoms name, with repeats
abbrev pub named_symbols : List Spec → List Symbol
named_symbols atoms = flat_map (λ a. named_symbol (specifier a)) atoms

-- the length in UTF-8 of the longest name, or 0
abbrev pub longest : List Symbol → ℕ
longest [] = 0
longest (s ∷ symbols) = max (length (encode_utf8_all s.name)) (longest symbols)

-- a name of as many letters A as given, and one more
abbrev pub name_past : ℕ → List ℕ
name_past n = replicate (n + 1) 65

-- a keyword and a symbol of COMMON-LISP whose names are longer than that many characters
abbrev pub keyword_past : ℕ → Symbol
keyword_past n = record { «package» = codes "KEYWORD"; name = name_past n }

abbrev pub symbol_past : ℕ → Symbol
symbol_past n = common_lisp_symbol (name_past n)

-- none of the symbols has a name that is longer
abbrev pub AreShort : ℕ → List Symbol → Type 0
AreShort n symbols = AllByRecursion (λ s. length s.name < n + 1) symbols
