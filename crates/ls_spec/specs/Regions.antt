-- What objects that stand for a whole class of objects promise.
use Rattle.std.specs.Prelude.{List, ◌↔◌}
use Rattle.std.specs.List.{AllByRecursion, Contains}
use Rattle.ls_object.specs.declared.object.Object.{Object}
use Rattle.ls_object.specs.Universe.{LispObject, Structures, IsObject, IsPlain, plain}
use Rattle.ls_object.specs.Meaning.{lisp_object}

-- the two objects are in exactly the same atoms of the list
abbrev pub AreInSameAtoms : {A : Type 0} → (A → LispObject → Type 0) → List A → LispObject → LispObject → Type 0
AreInSameAtoms IsIn atoms o p = AllByRecursion (λ a. IsIn a o ↔ IsIn a p) atoms

-- some answered object is in exactly the same atoms as the plain form of the object
abbrev pub IsRepresented : {A : Type 0} → (A → LispObject → Type 0) → List A → List Object → LispObject → Type 0
IsRepresented IsIn atoms answered o =
    (r : Object) × Contains answered r × AreInSameAtoms IsIn atoms (lisp_object r) (plain o)

-- every object of the structure list that is in the class is so represented
abbrev pub AreRepresentatives : {A : Type 0}
    → Structures → (LispObject → Type 0) → (A → LispObject → Type 0) → List A → List Object → Type 0
AreRepresentatives structures IsOfClass IsIn atoms answered =
    (o : LispObject) → IsObject structures o → IsOfClass o → IsRepresented IsIn atoms answered o

-- a plain object of the class
abbrev pub IsPlainOf : (LispObject → Type 0) → LispObject → Type 0
IsPlainOf IsOfClass o = IsPlain o × IsOfClass o

-- the object is in the one atom and outside the other
abbrev pub IsInFirstOnly : {A : Type 0} → (A → LispObject → Type 0) → A → A → LispObject → Type 0
IsInFirstOnly IsIn a b o = IsIn a o × (IsIn b o → ⊥)

-- the object is in the other atom if it is in the one
abbrev pub IsInSecondIfFirst : {A : Type 0} → (A → LispObject → Type 0) → A → A → LispObject → Type 0
IsInSecondIfFirst IsIn a b o = IsIn a o → IsIn b o

-- every object of the class whose plain form is in the one atom has it in the other
abbrev pub IsIncludedWithin : {A : Type 0}
    → Structures → (LispObject → Type 0) → (A → LispObject → Type 0) → A → A → Type 0
IsIncludedWithin structures IsOfClass IsIn a b =
    (o : LispObject) → IsObject structures o → IsOfClass o → IsInSecondIfFirst IsIn a b (plain o)
