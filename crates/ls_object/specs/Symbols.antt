-- Symbols (10.1), and those of the package COMMON-LISP.
use Rattle.std.specs.Prelude.{ℕ, List, Bool, ◌&&◌, nat_eq, codes}
use Rattle.std.specs.Cmp.Lexicographic.{pointwise}
use Rattle.ls_object.specs.declared.symbol.Symbol.{Symbol}

-- whether the two are one symbol: the same name in the same package
abbrev pub same_symbol : Symbol → Symbol → Bool
same_symbol s t = pointwise nat_eq s.package t.package && pointwise nat_eq s.name t.name

-- the symbol of that name in the package
abbrev pub common_lisp_symbol : List ℕ → Symbol
common_lisp_symbol name = record { «package» = codes "COMMON-LISP"; name = name }

-- the symbol NIL
abbrev pub nil_symbol : Symbol
nil_symbol = common_lisp_symbol (codes "NIL")
