-- What writing an object's text promises, and steps of it.
use Rattle.std.specs.Prelude.{◌≡◌, ℕ, List, ◌++◌, codes}
use Rattle.ls_object.specs.ObjectText.{natural_text}
use Rattle.ls_object.specs.Universe.{LispObject, node, LispShape, pair}

-- the shape is no cons
abbrev pub IsAtomShape : LispShape → Type 0
IsAtomShape (pair car cdr) = ⊥
IsAtomShape _ = Unit {0}

-- the object is no cons
abbrev pub IsAtom : LispObject → Type 0
IsAtom (node marks shape) = IsAtomShape shape

-- a number with a space before it
abbrev pub after_space : ℕ → List ℕ
after_space n = codes " " ++ natural_text n

-- the new text is the old one with a front part of the added text behind it: what a failed write leaves
pub record AddsFrontOf (added old new : List ℕ) : Type 0 where
  pub front : List ℕ
  pub back : List ℕ
  pub parts : added ≡ front ++ back
  pub is_added : new ≡ old ++ front
