-- What is put into a list of numbers of specifiers.
use Rattle.std.specs.Prelude.{ℕ, ◌≡◌, List, fold, length}
use Rattle.ls_spec.specs.Specifier.{Specifier}
use Rattle.ls_spec.specs.Atoms.{atoms_of}
use Rattle.ls_spec.specs.Distinct.{with_new}
use Rattle.ls_lists.specs.Sides.{cars_of, cdrs_of}
use Rattle.ls_intern.specs.Places.{specifiers_at, AllBelow}

-- each specifier that was wanted was put in, unless it was there
pub record Gathers (known : List Specifier) (old new : List ℕ) (wanted : List Specifier) : Type 0 where
  pub below : AllBelow (length known) new
  pub is : specifiers_at known new ≡ fold with_new (specifiers_at known old) wanted

-- these are the numbers of the atoms, cars and cdrs of a list
pub record AreSides (known list : List Specifier) (atoms cars cdrs : List ℕ) : Type 0 where
  pub atoms_below : AllBelow (length known) atoms
  pub cars_below : AllBelow (length known) cars
  pub cdrs_below : AllBelow (length known) cdrs
  pub atoms_are : specifiers_at known atoms ≡ atoms_of list
  pub cars_are : specifiers_at known cars ≡ cars_of list
  pub cdrs_are : specifiers_at known cdrs ≡ cdrs_of list
