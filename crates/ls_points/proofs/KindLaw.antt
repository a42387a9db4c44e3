-- The opaque objects that stand for all opaque objects.
use Rattle.std.proofs.lemmas.Bool.{cases_Bool}
use Rattle.std.proofs.Common.{◌≡◌, ◌≤◌, ◌+◌, refl, sym, subst, ◌∙◌, ◌⊎◌, inl, inr, Bool, true, false, not, ◌&&◌, if◌then◌else◌, true≢false, List, [], ◌∷◌, ◌++◌, map, length, Option, Some, None, MatchOption, arith, length-append, append_assoc}
use Rattle.std.specs.List.{AllByRecursion}
use Rattle.std.specs.Option.{option_to_list}
use Rattle.std.proofs.lemmas.List.{map-append}
use Rattle.ls_object.specs.declared.kind.Kind.{Kind}
use Rattle.ls_object.specs.declared.kind.Kind.TheVariants.{SingleFloat, DoubleFloat, Complex, Function, CompiledFunction, HashTable, Readtable, Package, Pathname, LogicalPathname, Stream, RandomState, Condition, Restart, OtherStructure, Other}
use Rattle.ls_object.specs.declared.object.Object.{Object}
use Rattle.ls_object.specs.Universe.{LispObject, node, opaque, Structures, IsObject}
use Rattle.ls_object.specs.Meaning.{lisp_object}
use Rattle.ls_spec.specs.declared.spec.Spec.{Spec}
use Rattle.ls_spec.specs.Specifier.{Specifier, all_objects, no_objects, and_of, or_of, not_of, eql_to, range_of, chars_of, symbols_of, kind_of, structure_under, any_structure, array_any, array_of, string_of, cons_of, satisfies}
use Rattle.ls_spec.specs.declared.spec.Point.TheVariants as point
use Rattle.ls_spec.specs.Fits.{IsAtom}
use Rattle.ls_spec.specs.Meaning.{specifier}
use Rattle.ls_spec.specs.Membership.{Belongs}
use Rattle.ls_spec.specs.Regions.{AreRepresentatives, IsPlainOf}
use Rattle.ls_spec.specs.Truth.{holds, nothing_learnt}
use Rattle.ls_spec.proofs.TruthLemmas.{Decides-kind}
use Rattle.ls_points.specs.Classes.{IsOpaque, IsFitAtom, is_kind, count_atoms}
use Rattle.ls_points.specs.steps.Kinds.{named_kind, named_kinds, is_in_none}
use Rattle.ls_points.specs.declared.kinds.TheConstants.{KINDS}
use Rattle.ls_points.specs.steps.Some.{SomeOf}
use Rattle.ls_points.proofs.AnsweredLemmas.{all_of, at_most_one, few_named, each_answered, as_many_answered}
use Rattle.ls_points.proofs.FlatLemmas.{SomeOf-front, SomeOf-back, SomeOf-weaker, object_of, AreAlike, AreAlike-itself, represented}

-- every kind is in the list of all
every_kind : (k : Kind) → SomeOf (λ j. j ≡ k) KINDS
every_kind SingleFloat = inl refl
every_kind DoubleFloat = inr (inl refl)
every_kind Complex = inr (inr (inl refl))
every_kind Function = inr (inr (inr (inl refl)))
every_kind CompiledFunction = inr (inr (inr (inr (inl refl))))
every_kind HashTable = inr (inr (inr (inr (inr (inl refl)))))
every_kind Readtable = inr (inr (inr (inr (inr (inr (inl refl))))))
every_kind Package = inr (inr (inr (inr (inr (inr (inr (inl refl)))))))
every_kind Pathname = inr (inr (inr (inr (inr (inr (inr (inr (inl refl))))))))
every_kind LogicalPathname = inr (inr (inr (inr (inr (inr (inr (inr (inr (inl refl)))))))))
every_kind Stream = inr (inr (inr (inr (inr (inr (inr (inr (inr (inr (inl refl))))))))))
every_kind RandomState = inr (inr (inr (inr (inr (inr (inr (inr (inr (inr (inr (inl refl)))))))))))
every_kind Condition = inr (inr (inr (inr (inr (inr (inr (inr (inr (inr (inr (inr (inl refl))))))))))))
every_kind Restart = inr (inr (inr (inr (inr (inr (inr (inr (inr (inr (inr (inr (inr (inl refl)))))))))))))
every_kind OtherStructure = inr (inr (inr (inr (inr (inr (inr (inr (inr (inr (inr (inr (inr (inr (inl refl))))))))))))))
every_kind Other = inr (inr (inr (inr (inr (inr (inr (inr (inr (inr (inr (inr (inr (inr (inr (inl refl)))))))))))))))

-- what is false of each element is true of none
all_and_some : {X : Type 0} (test : X → Bool) (x : X) (xs : List X) → AllByRecursion (λ y. test y ≡ false) xs → SomeOf (λ y. y ≡ x) xs → test x ≡ false
all_and_some test x [] h s = absurd s
all_and_some test x (y ∷ ys) h (inl e) = subst (λ z. test z ≡ false) e h.0
all_and_some test x (y ∷ ys) h (inr s) = all_and_some test x ys h.1 s

not_true : (b c : Bool) → (not b && c) ≡ true → (b ≡ false) × (c ≡ true)
not_true true c h = cc
not_true false c h = (refl, h)

-- two kinds that are in none of the atoms are alike
alike_in_none : (j k : Kind) (atoms : List Spec) → is_in_none j atoms ≡ true → is_in_none k atoms ≡ true → AreAlike opaque atoms j k
alike_in_none j k [] h g = tt
alike_in_none j k (a ∷ more) h g =
    let x = not_true _ (is_in_none j more) h in
    let y = not_true _ (is_in_none k more) g in
    (x.0 ∙ sym y.0, alike_in_none j k more x.1 y.1)

-- a kind that an atom holds is named, or is OTHER-STRUCTURE
held_by : (k : Kind) (s : Specifier) → IsAtom s → holds nothing_learnt s (node [] (opaque k)) ≡ true → SomeOf (λ j. j ≡ k) (named_kind s) ⊎ (k ≡ OtherStructure)
held_by k (kind_of j) is h = inl (inl (sym ((Decides-kind k j).0 h)))
held_by k any_structure is h = inr ((Decides-kind k OtherStructure).0 h)
held_by k (eql_to (point.Number r)) is h = cc
held_by k (eql_to (point.Char c)) is h = cc
held_by k (eql_to (point.Sym s)) is h = cc
held_by k all_objects is h = absurd is
held_by k no_objects is h = absurd is
held_by k (and_of ss) is h = absurd is
held_by k (or_of ss) is h = absurd is
held_by k (not_of s) is h = absurd is
held_by k (range_of _ _ _) is h = cc
held_by k (chars_of _) is h = cc
held_by k (symbols_of _) is h = cc
held_by k (structure_under _) is h = cc
held_by k (array_any _ _) is h = cc
held_by k (array_of _ _ _) is h = cc
held_by k (string_of _ _) is h = cc
held_by k (cons_of _ _) is h = cc
held_by k (satisfies _) is h = cc

-- a kind is named, is OTHER-STRUCTURE, or is in none of the atoms
named_or_in_none : (k : Kind) (atoms : List Spec) → AllByRecursion (λ a. IsFitAtom (specifier a)) atoms → SomeOf (λ j. j ≡ k) (named_kinds atoms) ⊎ (k ≡ OtherStructure) ⊎ (is_in_none k atoms ≡ true)
named_or_in_none k [] fit = inr (inr refl)
named_or_in_none k (a ∷ more) fit = elim (cases_Bool (holds nothing_learnt (specifier a) (node [] (opaque k)))) [
  | inl held ↦ elim (held_by k (specifier a) fit.0.0 held) [
    | inl named ↦ inl (SomeOf-front (λ j. j ≡ k) (named_kind (specifier a)) (named_kinds more) named)
    | inr other ↦ inr (inl other)
  ]
  | inr out ↦ elim (named_or_in_none k more fit.1) [
    | inl named ↦ inl (SomeOf-back (λ j. j ≡ k) (named_kind (specifier a)) (named_kinds more) named)
    | inr (inl other) ↦ inr (inl other)
    | inr (inr none) ↦ inr (inr (rw out none))
  ]
]

-- a kind stands for itself
itself : (k j : Kind) (atoms : List Spec) → j ≡ k → AreAlike opaque atoms j k
itself k j atoms e = subst (λ i. AreAlike opaque atoms i k) (sym e) (AreAlike-itself opaque atoms k)

-- an atom names at most one kind
one_named : (s : Specifier) → length (named_kind s) ≤ (if is_kind s then 1 else 0)
one_named (kind_of k) = omega arith
one_named _ = omega arith

-- the named kinds, OTHER-STRUCTURE, and one that is in none of the atoms, where there is one
abbrev pub stand_ins : List Kind → Option Kind → List Kind
stand_ins named unnamed = named ++ (OtherStructure ∷ option_to_list unnamed)

unnamed_stands : (k : Kind) (atoms : List Spec) (unnamed : Option Kind) → MatchOption unnamed (AllByRecursion (λ j. is_in_none j atoms ≡ false) KINDS) (λ j. is_in_none j atoms ≡ true) → is_in_none k atoms ≡ true → SomeOf (λ j. AreAlike opaque atoms j k) (option_to_list unnamed)
unnamed_stands k atoms None none h = absurd (true≢false (sym h ∙ all_and_some (λ j. is_in_none j atoms) k KINDS none (every_kind k)))
unnamed_stands k atoms (Some j) found h = inl (alike_in_none j k atoms found h)

module _ (atoms : List Spec) (unnamed : Option Kind) (fit : AllByRecursion (λ a. IsFitAtom (specifier a)) atoms) (unnamed_is : MatchOption unnamed (AllByRecursion (λ j. is_in_none j atoms ≡ false) KINDS) (λ j. is_in_none j atoms ≡ true))
    (answered : List Object) (is : map lisp_object answered ≡ map (λ k. node [] (opaque k)) (stand_ins (named_kinds atoms) unnamed)) where
  covered : (k : Kind) → SomeOf (λ j. AreAlike opaque atoms j k) (stand_ins (named_kinds atoms) unnamed)
  covered k = elim (named_or_in_none k atoms fit) [
    | inl named ↦ SomeOf-front _ (named_kinds atoms) _ (SomeOf-weaker (λ j. j ≡ k) (λ j. AreAlike opaque atoms j k) (λ j e. itself k j atoms e) (named_kinds atoms) named)
    | inr (inl other) ↦ SomeOf-back _ (named_kinds atoms) _ (inl (itself k OtherStructure atoms (sym other)))
    | inr (inr none) ↦ SomeOf-back _ (named_kinds atoms) _ (inr (unnamed_stands k atoms unnamed unnamed_is none))
  ]

  pub kind_law : (structures : Structures) → AreRepresentatives structures IsOpaque (λ a o. Belongs structures (specifier a) o) atoms answered
  kind_law structures (node marks (opaque k)) object class = represented opaque (λ k. tt) structures atoms answered (stand_ins (named_kinds atoms) unnamed) marks k is (covered k)
  kind_law structures (node marks _) object class = absurd class

  -- each answered object is one of the universe
  pub kind_objects : (structures : Structures) → AllByRecursion (λ r. IsObject structures (lisp_object r)) answered
  kind_objects structures = each_answered (object_of opaque) (IsObject structures) answered (stand_ins (named_kinds atoms) unnamed) is
      (all_of (λ k. IsObject structures (node [] (opaque k))) (λ k. (tt, tt)) (stand_ins (named_kinds atoms) unnamed))

  -- each is a plain opaque object
  pub kind_plains : AllByRecursion (λ r. IsPlainOf IsOpaque (lisp_object r)) answered
  kind_plains = each_answered (object_of opaque) (IsPlainOf IsOpaque) answered (stand_ins (named_kinds atoms) unnamed) is
      (all_of (λ k. IsPlainOf IsOpaque (node [] (opaque k))) (λ k. (refl, tt)) (stand_ins (named_kinds atoms) unnamed))

  -- there are few of them
  pub kind_count : length answered ≤ 4 + count_atoms is_kind (map specifier atoms)
  kind_count =
      let e = as_many_answered (object_of opaque) answered (stand_ins (named_kinds atoms) unnamed) is in
      let f = few_named named_kind is_kind one_named atoms in
      let g = length-append (named_kinds atoms) (OtherStructure ∷ option_to_list unnamed) in
      let h = at_most_one unnamed in
      omega arith

-- appending the named kinds, and the others
pub joined : (named : List Kind) (unnamed : Option Kind) (o p q r : List LispObject) → o ≡ [] → p ≡ o ++ map (λ k. node [] (opaque k)) named → q ≡ p ++ node [] (opaque OtherStructure) ∷ [] → r ≡ q ++ map (λ k. node [] (opaque k)) (option_to_list unnamed)
    → r ≡ map (λ k. node [] (opaque k)) (stand_ins named unnamed)
joined named unnamed o p q r e f g h = rw (h, g, f, e) (simp (map-append, append_assoc) refl)
