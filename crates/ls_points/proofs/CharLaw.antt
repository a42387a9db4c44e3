-- The characters that stand for all characters.
use Rattle.std.proofs.lemmas.Bool.{cases_Bool}
use Rattle.std.proofs.Common.{ℕ, ◌≡◌, ◌<◌, ◌≤◌, ◌+◌, ap, refl, sym, subst, ◌∙◌, ◌⊎◌, inl, inr, Bool, true, false, ◌||◌, nat_eq, nat_lt, if◌then◌else◌, true≢false, List, [], ◌∷◌, ◌++◌, map, fold, length, Option, Some, None, MatchOption, arith, length-append, append_assoc}
use Rattle.std.specs.Char.{IsScalar}
use Rattle.std.specs.List.{AllByRecursion, list_any}
use Rattle.std.specs.Option.{option_to_list}
use Rattle.std.proofs.lemmas.Bool.Decides.{eqb_tells, nat_tests}
use Rattle.std.proofs.lemmas.List.{map-append}
use Rattle.std.proofs.lemmas.List.Folds.{list_any-append}
use Rattle.std.proofs.Math.Utf8.{scalar_cases}
use Rattle.indexmap.specs.IndexSet.{insert_all}
use Rattle.ls_object.specs.declared.object.Object.{Object}
use Rattle.ls_object.specs.Universe.{node, character, Structures, IsObject}
use Rattle.ls_object.specs.Meaning.{lisp_object}
use Rattle.ls_spec.specs.declared.spec.CharClass.{CharClass}
use Rattle.ls_spec.specs.declared.spec.CharClass.TheVariants.{Any, Base, Standard}
use Rattle.ls_spec.specs.declared.spec.Point.TheVariants as point
use Rattle.ls_spec.specs.declared.spec.Spec.{Spec}
use Rattle.ls_spec.specs.Specifier.{Specifier, all_objects, no_objects, and_of, or_of, not_of, eql_to, chars_of}
use Rattle.ls_spec.specs.Fits.{IsAtom}
use Rattle.ls_spec.specs.Meaning.{specifier}
use Rattle.ls_spec.specs.Membership.{Belongs}
use Rattle.ls_spec.specs.Regions.{AreRepresentatives, IsPlainOf}
use Rattle.ls_spec.specs.Truth.{holds, nothing_learnt, is_of_char_class}
use Rattle.ls_spec.proofs.ListLemmas.{AllByRecursion-append, AllByRecursion-weaker}
use Rattle.ls_points.specs.Classes.{IsCharacter, IsFitAtom, is_character_point, count_atoms}
use Rattle.ls_points.specs.steps.Characters.{named_characters, with_characters, is_just_in, IsUnnamed, AreNamedBetween}
use Rattle.ls_points.specs.steps.Some.{SomeOf}
use Rattle.ls_points.proofs.AnsweredLemmas.{all_of, at_most_one, each_answered, as_many_answered}
use Rattle.ls_points.proofs.FlatLemmas.{SomeOf-front, SomeOf-back, object_of, AreAlike, AreAlike-itself, represented}

-- ---- the named characters

-- what is not found after an insertion is neither found before nor inserted
absent_by : (q k : ℕ) (ks : List ℕ) (b : Bool) → list_any (nat_eq k) ks ≡ b → list_any (nat_eq q) (if b then ks else ks ++ k ∷ []) ≡ false → (list_any (nat_eq q) ks ≡ false) × (nat_eq q k ≡ false)
absent_by q k ks true e h = elim (eqb_tells q k) [
  | inl (_, same) ↦ absurd (true≢false (sym e ∙ ap (λ x. list_any (nat_eq x) ks) (sym same) ∙ h))
  | inr (apart, _) ↦ (h, apart)
]
absent_by q k ks false e h =
    let both : (list_any (nat_eq q) ks || (nat_eq q k || false)) ≡ false = sym (list_any-append (nat_eq q) ks (k ∷ [])) ∙ h in
    elim (cases_Bool (list_any (nat_eq q) ks)) [
      | inl t ↦ absurd (true≢false (sym (ap (λ b. b || (nat_eq q k || false)) t) ∙ both))
      | inr t ↦ elim (cases_Bool (nat_eq q k)) [
        | inl u ↦ absurd (true≢false (sym (ap (λ b. list_any (nat_eq q) ks || (b || false)) u ∙ ap (λ b. b || true) t) ∙ both))
        | inr u ↦ (t, u)
      ]
    ]

-- the character is not one that the atom names
abbrev IsNotNamedBy : ℕ → Specifier → Type 0
IsNotNamedBy q s = list_any (nat_eq q) (named_characters s) ≡ false

absent_with : (q : ℕ) (s : Specifier) (ks : List ℕ) → list_any (nat_eq q) (insert_all nat_eq ks (named_characters s)) ≡ false → (list_any (nat_eq q) ks ≡ false) × IsNotNamedBy q s
absent_with q (eql_to (point.Char k)) ks h = let both = absent_by q k ks _ refl h in (both.0, ap (λ b. b || false) both.1)
absent_with q (eql_to (point.Number r)) ks h = (h, refl)
absent_with q (eql_to (point.Sym t)) ks h = (h, refl)
absent_with q _ ks h = (h, refl)

-- what is not found after all atoms is named by none of them
absent : (q : ℕ) (atoms : List Spec) (ks : List ℕ) → list_any (nat_eq q) (fold with_characters ks atoms) ≡ false → (list_any (nat_eq q) ks ≡ false) × AllByRecursion (λ a. IsNotNamedBy q (specifier a)) atoms
absent q [] ks h = (h, tt)
absent q (a ∷ more) ks h =
    let rest = absent q more (with_characters ks a) h in
    let here = absent_with q (specifier a) ks rest.0 in
    (here.0, (here.1, rest.1))

-- an insertion adds at most one
length_by : (k : ℕ) (ks : List ℕ) (b : Bool) → length (if b then ks else ks ++ k ∷ []) ≤ length ks + 1
length_by k ks true = omega arith
length_by k ks false = omega (arith, length-append {A = ℕ})

length_with : (s : Specifier) (ks : List ℕ) → length (insert_all nat_eq ks (named_characters s)) ≤ length ks + (if is_character_point s then 1 else 0)
length_with (eql_to (point.Char k)) ks = length_by k ks (list_any (nat_eq k) ks)
length_with (eql_to (point.Number r)) ks = omega arith
length_with (eql_to (point.Sym t)) ks = omega arith
length_with _ ks = omega arith

pub length_named : (atoms : List Spec) (ks : List ℕ) → length (fold with_characters ks atoms) ≤ length ks + count_atoms is_character_point (map specifier atoms)
length_named [] ks = omega arith
length_named (a ∷ more) ks =
    let rest = length_named more (with_characters ks a) in
    let here = length_with (specifier a) ks in
    omega arith

-- ---- classes

below_standard : (c : ℕ) → is_of_char_class Standard c ≡ true → c < 128
below_standard c e = grind (arith, nat_tests)

-- every character is just in some class, within the range in which that is looked for
abbrev IsJustInSome : ℕ → Type 0
IsJustInSome c = ((is_just_in Standard c ≡ true) × (c < 128)) ⊎ ((is_just_in Base c ≡ true) × (c < 128)) ⊎ ((is_just_in Any c ≡ true) × (128 ≤ c))

some_class : (c : ℕ) → IsJustInSome c
some_class c = elim (cases_Bool (is_of_char_class Standard c)) [
  | inl e ↦ inl (e, below_standard c e)
  | inr e ↦ elim (cases_Bool (nat_lt c 128)) [
    | inl l ↦ inr (inl (rw (l, e) refl, grind (arith, nat_tests)))
    | inr l ↦ inr (inr (rw l refl, grind (arith, nat_tests)))
  ]
]

-- two characters just in one class are in the same classes
same_classes : (class : CharClass) (c d : ℕ) → is_just_in class c ≡ true → is_just_in class d ≡ true → (k : CharClass) → is_of_char_class k c ≡ is_of_char_class k d
same_classes class c d p q Any = refl
same_classes Standard c d p q Standard = p ∙ sym q
same_classes Standard c d p q Base = let l = below_standard c p in let m = below_standard d q in grind (arith, nat_tests)
same_classes Base c d p q Standard = grind (arith, nat_tests)
same_classes Base c d p q Base = grind (arith, nat_tests)
same_classes Any c d p q Standard = grind (arith, nat_tests)
same_classes Any c d p q Base = grind (arith, nat_tests)

-- ---- the law

scalar_below : (c : ℕ) → IsScalar c → c < 0x110000
scalar_below c h = elim (scalar_cases c h) [ inl l ↦ omega arith | inr l ↦ l.1 ]

not_named : (q k : ℕ) → IsNotNamedBy q (eql_to (point.Char k)) → nat_eq q k ≡ false
not_named q k h = elim (cases_Bool (nat_eq q k)) [ inl t ↦ absurd (true≢false (sym (ap (λ b. b || false) t) ∙ h)) | inr t ↦ t ]

-- two characters just in one class, neither of them named, are in the same atoms
alike_in : (class : CharClass) (c d : ℕ) (s : Specifier) → is_just_in class c ≡ true → is_just_in class d ≡ true → IsAtom s → IsNotNamedBy c s → IsNotNamedBy d s → holds nothing_learnt s (node [] (character c)) ≡ holds nothing_learnt s (node [] (character d))
alike_in class c d (eql_to (point.Char k)) p q is m n = not_named c k m ∙ sym (not_named d k n)
alike_in class c d (eql_to (point.Number r)) p q is m n = refl
alike_in class c d (eql_to (point.Sym t)) p q is m n = refl
alike_in class c d (chars_of k) p q is m n = same_classes class c d p q k
alike_in class c d all_objects p q is m n = absurd is
alike_in class c d no_objects p q is m n = absurd is
alike_in class c d (and_of ss) p q is m n = absurd is
alike_in class c d (or_of ss) p q is m n = absurd is
alike_in class c d (not_of s) p q is m n = absurd is
alike_in class c d _ p q is m n = refl

alike : (class : CharClass) (c d : ℕ) (atoms : List Spec) → is_just_in class c ≡ true → is_just_in class d ≡ true → AllByRecursion (λ a. IsFitAtom (specifier a)) atoms
    → AllByRecursion (λ a. IsNotNamedBy c (specifier a)) atoms → AllByRecursion (λ a. IsNotNamedBy d (specifier a)) atoms → AreAlike character atoms c d
alike class c d [] p q fit m n = tt
alike class c d (a ∷ more) p q fit m n = (alike_in class c d (specifier a) p q fit.0.0 m.0 n.0, alike class c d more p q fit.1 m.1 n.1)

-- a character that is found stands for itself
found : (c : ℕ) (atoms : List Spec) (cs : List ℕ) → list_any (nat_eq c) cs ≡ true → SomeOf (λ u. AreAlike character atoms u c) cs
found c atoms [] h = cc
found c atoms (k ∷ ks) h = elim (eqb_tells c k) [
  | inl (_, same) ↦ inl (subst (λ u. AreAlike character atoms u c) same (AreAlike-itself character atoms c))
  | inr (apart, _) ↦ inr (found c atoms ks (sym (ap (λ b. b || list_any (nat_eq c) ks) apart) ∙ h))
]

-- one of the class that none names stands for every other such
stands : (class : CharClass) (start end c : ℕ) (atoms : List Spec) (answer : Option ℕ) → AllByRecursion (λ a. IsFitAtom (specifier a)) atoms
    → MatchOption answer (AreNamedBetween (fold with_characters [] atoms) class start end) (IsUnnamed (fold with_characters [] atoms) class)
    → IsScalar c → start ≤ c → c < end → is_just_in class c ≡ true → list_any (nat_eq c) (fold with_characters [] atoms) ≡ false → SomeOf (λ u. AreAlike character atoms u c) (option_to_list answer)
stands class start end c atoms None fit named scalar low high just new = absurd (true≢false (sym (named c scalar low high just) ∙ new))
stands class start end c atoms (Some d) fit unnamed scalar low high just new =
    inl (alike class d c atoms unnamed.is_just_in just fit (absent d atoms [] unnamed.is_new).1 (absent c atoms [] new).1)

-- the named characters, and one of each class that none names, where there is one
abbrev pub stand_ins : List ℕ → Option ℕ → Option ℕ → Option ℕ → List ℕ
stand_ins named standard base other = named ++ (option_to_list standard ++ (option_to_list base ++ option_to_list other))

module _ (atoms : List Spec) (standard base other : Option ℕ) (fit : AllByRecursion (λ a. IsFitAtom (specifier a)) atoms)
    (standard_is : MatchOption standard (AreNamedBetween (fold with_characters [] atoms) Standard 0 128) (IsUnnamed (fold with_characters [] atoms) Standard))
    (base_is : MatchOption base (AreNamedBetween (fold with_characters [] atoms) Base 0 128) (IsUnnamed (fold with_characters [] atoms) Base))
    (other_is : MatchOption other (AreNamedBetween (fold with_characters [] atoms) Any 128 0x110000) (IsUnnamed (fold with_characters [] atoms) Any))
    (answered : List Object) (is : map lisp_object answered ≡ map (λ c. node [] (character c)) (stand_ins (fold with_characters [] atoms) standard base other)) where
  abbrev named : List ℕ
  named = fold with_characters [] atoms

  covered : (c : ℕ) → IsScalar c → SomeOf (λ u. AreAlike character atoms u c) (stand_ins named standard base other)
  covered c scalar = elim (cases_Bool (list_any (nat_eq c) named)) [
    | inl e ↦ SomeOf-front _ named _ (found c atoms named e)
    | inr e ↦ SomeOf-back _ named _ (elim (some_class c) [
      | inl (just, l) ↦ SomeOf-front _ (option_to_list standard) _ (stands Standard 0 128 c atoms standard fit standard_is scalar (omega arith) l just e)
      | inr (inl (just, l)) ↦ SomeOf-back _ (option_to_list standard) _ (SomeOf-front _ (option_to_list base) _ (stands Base 0 128 c atoms base fit base_is scalar (omega arith) l just e))
      | inr (inr (just, l)) ↦ SomeOf-back _ (option_to_list standard) _ (SomeOf-back _ (option_to_list base) _ (stands Any 128 0x110000 c atoms other fit other_is scalar l (scalar_below c scalar) just e))
    ])
  ]

  pub char_law : (structures : Structures) → AreRepresentatives structures IsCharacter (λ a o. Belongs structures (specifier a) o) atoms answered
  char_law structures (node marks (character c)) object class = represented character (λ c. tt) structures atoms answered (stand_ins named standard base other) marks c is (covered c object.1)
  char_law structures (node marks _) object class = absurd class

  scalars : AllByRecursion IsScalar named → AllByRecursion IsScalar (stand_ins named standard base other)
  scalars all = AllByRecursion-append IsScalar named _ all (AllByRecursion-append IsScalar (option_to_list standard) _ (scalar_found Standard 0 128 standard standard_is) (AllByRecursion-append IsScalar (option_to_list base) _ (scalar_found Base 0 128 base base_is) (scalar_found Any 128 0x110000 other other_is)))
    where
      scalar_found : (class : CharClass) (start end : ℕ) (answer : Option ℕ) → MatchOption answer (AreNamedBetween named class start end) (IsUnnamed named class) → AllByRecursion IsScalar (option_to_list answer)
      scalar_found class start end None h = tt
      scalar_found class start end (Some d) h = (h.is_scalar, tt)

  -- each answered object is one of the universe
  pub char_objects : AllByRecursion IsScalar named → (structures : Structures) → AllByRecursion (λ r. IsObject structures (lisp_object r)) answered
  char_objects all structures = each_answered (object_of character) (IsObject structures) answered (stand_ins named standard base other) is (AllByRecursion-weaker IsScalar (λ c. IsObject structures (node [] (character c))) (λ c h. (tt, h)) (stand_ins named standard base other) (scalars all))

  -- each is a plain character
  pub char_plains : AllByRecursion (λ r. IsPlainOf IsCharacter (lisp_object r)) answered
  char_plains = each_answered (object_of character) (IsPlainOf IsCharacter) answered (stand_ins named standard base other) is
      (all_of (λ c. IsPlainOf IsCharacter (node [] (character c))) (λ c. (refl, tt)) (stand_ins named standard base other))

  -- there are few of them
  pub char_count : length answered ≤ 4 + count_atoms is_character_point (map specifier atoms)
  char_count =
      let e = as_many_answered (object_of character) answered (stand_ins named standard base other) is in
      let n : length named ≤ count_atoms is_character_point (map specifier atoms) = omega (arith, length_named atoms []) in
      let x = at_most_one standard in
      let y = at_most_one base in
      let z = at_most_one other in
      let f = length-append named (option_to_list standard ++ (option_to_list base ++ option_to_list other)) in
      let g = length-append (option_to_list standard) (option_to_list base ++ option_to_list other) in
      let h = length-append (option_to_list base) (option_to_list other) in
      omega arith

-- appending one after the other
pub joined : {X Y : Type 0} (f : X → Y) (a b c d : List X) (o p q r s : List Y) → o ≡ [] → p ≡ o ++ map f a → q ≡ p ++ map f b → r ≡ q ++ map f c → s ≡ r ++ map f d → s ≡ map f (a ++ (b ++ (c ++ d)))
joined f a b c d o p q r s e i j k l = rw (l, k, j, i, e) (simp (map-append, append_assoc) refl)
