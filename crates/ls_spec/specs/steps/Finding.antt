-- How the atoms of specifiers are found: one by one, with the keys of those that were found.
use Rattle.std.specs.Prelude.{◌≡◌, ℕ, List, map, Vec}
use Rattle.ls_spec.specs.Specifier.{Specifier}
use Rattle.ls_spec.specs.Keys.{key}

-- these are the keys of the specifiers, in order
abbrev pub AreKeysOf : {Y : Type 0} → List (Vec ℕ Y) → List Specifier → Type 0
AreKeysOf seen found = map (λ k. k.items) seen ≡ map key found
