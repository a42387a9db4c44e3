-- From values to the objects that were answered for them.
use Rattle.std.proofs.Common.{zero, suc, ◌≡◌, ◌≤◌, ap, refl, sym, subst, inl, inr, Bool, if◌then◌else◌, List, [], ◌∷◌, map, length, Option, None, Some, length-append, arith}
use Rattle.std.specs.List.{AllByRecursion, Contains, flat_map}
use Rattle.std.specs.Option.{option_to_list}
use Rattle.ls_object.specs.declared.object.Object.{Object}
use Rattle.ls_object.specs.Universe.{LispObject}
use Rattle.ls_object.specs.Meaning.{lisp_object}
use Rattle.ls_spec.specs.declared.spec.Spec.{Spec}
use Rattle.ls_spec.specs.Meaning.{specifier}
use Rattle.ls_spec.specs.Specifier.{Specifier}
use Rattle.ls_points.specs.Classes.{count_atoms}
use Rattle.ls_points.specs.steps.Some.{SomeOf}

-- what holds of every value holds of those in a list
pub all_of : {V : Type 0} (P : V → Type 0) → ((v : V) → P v) → (vs : List V) → AllByRecursion P vs
all_of P h [] = tt
all_of P h (v ∷ vs) = (h v, all_of P h vs)

-- an optional value is one value at most
pub at_most_one : {V : Type 0} (answer : Option V) → length (option_to_list answer) ≤ 1
at_most_one None = omega arith
at_most_one (Some v) = omega arith

-- where an atom names one value at most, and none if it fails the test, few are named
pub few_named : {V : Type 0} (named : Specifier → List V) (test : Specifier → Bool) → ((s : Specifier) → length (named s) ≤ (if test s then 1 else 0))
    → (atoms : List Spec) → length (flat_map (λ a. named (specifier a)) atoms) ≤ count_atoms test (map specifier atoms)
few_named named test one [] = omega arith
few_named named test one (a ∷ more) =
    let e = length-append (named (specifier a)) (flat_map (λ a. named (specifier a)) more) in
    let f = one (specifier a) in
    let g = few_named named test one more in
    omega arith

-- what a list contains is in a longer one
contains_more : {X : Type 0} (x y : X) (xs : List X) → Contains xs x → Contains (y ∷ xs) x
contains_more x y xs (k, l, e) = (suc k, omega arith, e)

module _ {V : Type 0} (object_of : V → LispObject) where
  -- an answered object is as one of the values
  pub find_answered : (P : LispObject → Type 0) (answered : List Object) (vs : List V) → map lisp_object answered ≡ map object_of vs → SomeOf (λ v. P (object_of v)) vs → (r : Object) × Contains answered r × P (lisp_object r)
  find_answered P answered [] e h = absurd h
  find_answered P [] (u ∷ us) e h = cc
  find_answered P (r ∷ rs) (u ∷ us) e (inl h) = (r, (zero, omega arith, refl), subst P (let f : object_of u ≡ lisp_object r = cc in f) h)
  find_answered P (r ∷ rs) (u ∷ us) e (inr h) =
      let f : map lisp_object rs ≡ map object_of us = cc in
      let (q, there, is) = find_answered P rs us f h in
      (q, contains_more q r rs there, is)

  -- what holds of each value holds of each answered object
  pub each_answered : (P : LispObject → Type 0) (answered : List Object) (vs : List V) → map lisp_object answered ≡ map object_of vs → AllByRecursion (λ v. P (object_of v)) vs → AllByRecursion (λ r. P (lisp_object r)) answered
  each_answered P [] vs e h = tt
  each_answered P (r ∷ rs) [] e h = cc
  each_answered P (r ∷ rs) (v ∷ vs) e h =
      let f : lisp_object r ≡ object_of v = cc in
      let g : map lisp_object rs ≡ map object_of vs = cc in
      (subst P (sym f) h.0, each_answered P rs vs g h.1)

  -- there are as many answered objects as values
  pub as_many_answered : (answered : List Object) (vs : List V) → map lisp_object answered ≡ map object_of vs → length answered ≡ length vs
  as_many_answered [] [] e = refl
  as_many_answered [] (v ∷ vs) e = cc
  as_many_answered (r ∷ rs) [] e = cc
  as_many_answered (r ∷ rs) (v ∷ vs) e = let g : map lisp_object rs ≡ map object_of vs = cc in ap suc (as_many_answered rs vs g)
