-- Two objects that are in the same atoms of a specifier are in the specifier alike.
use Rattle.std.proofs.Common.{◌≡◌, ap, refl, not, List, [], ◌∷◌, ◌++◌}
use Rattle.std.specs.List.{AllByRecursion}
use Rattle.ls_object.specs.Universe.{LispObject}
use Rattle.ls_spec.specs.Specifier.{Specifier, all_objects, no_objects, and_of, or_of, not_of, Specifiers, no_more, also}
use Rattle.ls_spec.specs.Atoms.{leaves, leaves_of_all}
use Rattle.ls_spec.specs.Truth.{Learnt, holds, all_hold, some_holds}

pub AllByRecursion-front : {X : Type 0} (P : X → Type 0) (xs ys : List X) → AllByRecursion P (xs ++ ys) → AllByRecursion P xs
AllByRecursion-front P [] ys h = tt
AllByRecursion-front P (x ∷ xs) ys h = (h.0, AllByRecursion-front P xs ys h.1)

pub AllByRecursion-back : {X : Type 0} (P : X → Type 0) (xs ys : List X) → AllByRecursion P (xs ++ ys) → AllByRecursion P ys
AllByRecursion-back P [] ys h = h
AllByRecursion-back P (x ∷ xs) ys h = AllByRecursion-back P xs ys h.1

-- the two objects are in the same specifiers of the list
abbrev pub Agree : Learnt → LispObject → LispObject → List Specifier → Type 0
Agree learnt o p list = AllByRecursion (λ a. holds learnt a o ≡ holds learnt a p) list

mutual
  pub holds-alike : (learnt : Learnt) (o p : LispObject) (s : Specifier) → Agree learnt o p (leaves s) → holds learnt s o ≡ holds learnt s p
  holds-alike learnt o p all_objects h = refl
  holds-alike learnt o p no_objects h = refl
  holds-alike learnt o p (and_of ss) h = all_hold-alike learnt o p ss h
  holds-alike learnt o p (or_of ss) h = some_holds-alike learnt o p ss h
  holds-alike learnt o p (not_of s) h = ap not (holds-alike learnt o p s h)
  holds-alike learnt o p _ h = h.0

  all_hold-alike : (learnt : Learnt) (o p : LispObject) (ss : Specifiers) → Agree learnt o p (leaves_of_all ss) → all_hold learnt ss o ≡ all_hold learnt ss p
  all_hold-alike learnt o p no_more h = refl
  all_hold-alike learnt o p (also s ss) h =
      let e = holds-alike learnt o p s (AllByRecursion-front _ (leaves s) (leaves_of_all ss) h) in
      let f = all_hold-alike learnt o p ss (AllByRecursion-back _ (leaves s) (leaves_of_all ss) h) in
      cc

  some_holds-alike : (learnt : Learnt) (o p : LispObject) (ss : Specifiers) → Agree learnt o p (leaves_of_all ss) → some_holds learnt ss o ≡ some_holds learnt ss p
  some_holds-alike learnt o p no_more h = refl
  some_holds-alike learnt o p (also s ss) h =
      let e = holds-alike learnt o p s (AllByRecursion-front _ (leaves s) (leaves_of_all ss) h) in
      let f = some_holds-alike learnt o p ss (AllByRecursion-back _ (leaves s) (leaves_of_all ss) h) in
      cc
