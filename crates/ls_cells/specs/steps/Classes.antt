-- Parts of the objects other than conses.
use Rattle.std.specs.Prelude.{◌≡◌}
use Rattle.ls_object.specs.Universe.{LispObject}

-- the one object
abbrev pub IsItself : LispObject → LispObject → Type 0
IsItself x o = o ≡ x
