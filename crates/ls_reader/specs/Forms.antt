-- Which texts are which forms (2.2).
use Rattle.std.specs.Prelude.{ℕ, ◌≡◌, List, []}
use Rattle.std.specs.List.{flat_map}
use Rattle.std.specs.Str.{chars, IsUtf8}
use Rattle.ls_reader.specs.declared.datum.Datum.{Datum}
use Rattle.ls_reader.specs.Places.{start}
use Rattle.ls_reader.specs.Lexemes.{Lexeme, Lexed, pieces}
use Rattle.ls_reader.specs.Trees.{Tree, yields, Begun}

-- The characters are these forms: they are lexemes whose pieces are whole trees that stand for the forms.
pub record FormsIn (cs : List ℕ) (fs : List Datum) : Type 0 where
  pub lexemes : List Lexeme
  pub lexed : Lexed cs lexemes []
  pub whole : List Tree
  pub begun : Begun (pieces start lexemes) whole []
  pub are : fs ≡ flat_map yields whole

-- the bytes are the UTF-8 of these forms
abbrev pub Forms : List ℕ → List Datum → Type 0
Forms bytes fs = IsUtf8 bytes × FormsIn (chars bytes) fs
