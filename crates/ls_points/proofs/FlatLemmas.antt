-- From equal truth values to representatives, for objects of one flat shape.
use Rattle.std.proofs.Common.{◌≡◌, refl, sym, subst, ◌∙◌, inl, inr, List, [], ◌∷◌, ◌++◌, map}
use Rattle.std.specs.List.{AllByRecursion}
use Rattle.ls_object.specs.declared.object.Object.{Object}
use Rattle.ls_object.specs.declared.symbol.Symbol.{Symbol}
use Rattle.ls_object.specs.Universe.{LispObject, node, LispShape, number, character, symbol, pair, array, structure, opaque, Structures, plain, plain_shape}
use Rattle.ls_object.specs.Meaning.{lisp_object}
use Rattle.ls_spec.specs.declared.spec.Spec.{Spec}
use Rattle.ls_spec.specs.Meaning.{specifier}
use Rattle.ls_spec.specs.Membership.{Belongs}
use Rattle.ls_spec.specs.SelfContained.{IsFlat}
use Rattle.ls_spec.specs.Truth.{holds, nothing_learnt}
use Rattle.ls_spec.specs.Regions.{AreInSameAtoms, IsRepresented}
use Rattle.ls_spec.proofs.TruthLemmas.{Decides-flat}
use Rattle.ls_points.specs.steps.Some.{SomeOf}
use Rattle.ls_points.proofs.AnsweredLemmas.{find_answered}

-- what holds of some element of one list holds of some of the longer list
pub SomeOf-front : {X : Type 0} (P : X → Type 0) (xs ys : List X) → SomeOf P xs → SomeOf P (xs ++ ys)
SomeOf-front P [] ys h = absurd h
SomeOf-front P (x ∷ xs) ys (inl h) = inl h
SomeOf-front P (x ∷ xs) ys (inr h) = inr (SomeOf-front P xs ys h)

pub SomeOf-back : {X : Type 0} (P : X → Type 0) (xs ys : List X) → SomeOf P ys → SomeOf P (xs ++ ys)
SomeOf-back P [] ys h = h
SomeOf-back P (x ∷ xs) ys h = inr (SomeOf-back P xs ys h)

-- and a weaker fact holds of it too
pub SomeOf-weaker : {X : Type 0} (P Q : X → Type 0) → ((x : X) → P x → Q x) → (xs : List X) → SomeOf P xs → SomeOf Q xs
SomeOf-weaker P Q f [] h = absurd h
SomeOf-weaker P Q f (x ∷ xs) (inl h) = inl (f x h)
SomeOf-weaker P Q f (x ∷ xs) (inr h) = inr (SomeOf-weaker P Q f xs h)

-- what holds of each element holds of one that is among them
pub SomeOf-all : {X : Type 0} (P : X → Type 0) (xs : List X) (x : X) → SomeOf (λ y. y ≡ x) xs → AllByRecursion P xs → P x
SomeOf-all P [] x s h = absurd s
SomeOf-all P (y ∷ ys) x (inl e) h = subst P e h.0
SomeOf-all P (y ∷ ys) x (inr s) h = SomeOf-all P ys x s h.1

-- a flat shape has no parts whose marks could be taken away
plain_shape-flat : (s : LispShape) → IsFlat s → plain_shape s ≡ s
plain_shape-flat (pair x y) h = absurd h
plain_shape-flat (number n d) h = refl
plain_shape-flat (character c) h = refl
plain_shape-flat (symbol s) h = refl
plain_shape-flat (array c simple dims) h = refl
plain_shape-flat (structure s) h = refl
plain_shape-flat (opaque k) h = refl

-- the object of a shape without marks
abbrev pub object_of : {V : Type 0} → (V → LispShape) → V → LispObject
object_of shape v = node [] (shape v)

-- the two are in the same atoms, by truth values
abbrev pub AreAlike : {V : Type 0} → (V → LispShape) → List Spec → V → V → Type 0
AreAlike shape atoms u v =
    AllByRecursion (λ a. holds nothing_learnt (specifier a) (node [] (shape u)) ≡ holds nothing_learnt (specifier a) (node [] (shape v))) atoms

-- each is alike to itself
pub AreAlike-itself : {V : Type 0} (shape : V → LispShape) (atoms : List Spec) (v : V) → AreAlike shape atoms v v
AreAlike-itself shape [] v = tt
AreAlike-itself shape (a ∷ more) v = (refl, AreAlike-itself shape more v)

module _ {V : Type 0} (shape : V → LispShape) (is_flat : (v : V) → IsFlat (shape v)) where
  -- where truth values are equal, membership is
  same_atoms : (structures : Structures) (atoms : List Spec) (u v : V) → AreAlike shape atoms u v → AreInSameAtoms (λ a o. Belongs structures (specifier a) o) atoms (node [] (shape u)) (node [] (shape v))
  same_atoms structures [] u v h = tt
  same_atoms structures (a ∷ more) u v h =
      let x = Decides-flat structures (specifier a) [] (shape u) (is_flat u) in
      let y = Decides-flat structures (specifier a) [] (shape v) (is_flat v) in
      ((λ b. y.0 (sym h.0 ∙ x.1 b), λ b. x.0 (h.0 ∙ y.1 b)), same_atoms structures more u v h.1)

  -- an object of the shape is represented where one of the answered is alike
  pub represented : (structures : Structures) (atoms : List Spec) (answered : List Object) (vs : List V) (marks : List Symbol) (v : V) → map lisp_object answered ≡ map (object_of shape) vs → SomeOf (λ u. AreAlike shape atoms u v) vs
      → IsRepresented (λ a o. Belongs structures (specifier a) o) atoms answered (node marks (shape v))
  represented structures atoms answered vs marks v e h =
      find_answered (object_of shape) (λ o. AreInSameAtoms (λ a p. Belongs structures (specifier a) p) atoms o (plain (node marks (shape v)))) answered vs e
      (SomeOf-weaker (λ u. AreAlike shape atoms u v) (λ u. AreInSameAtoms (λ a p. Belongs structures (specifier a) p) atoms (node [] (shape u)) (plain (node marks (shape v))))
      (λ u alike. subst (λ s. AreInSameAtoms (λ a p. Belongs structures (specifier a) p) atoms (node [] (shape u)) (node [] s)) (sym (plain_shape-flat (shape v) (is_flat v))) (same_atoms structures atoms u v alike)) vs h)
