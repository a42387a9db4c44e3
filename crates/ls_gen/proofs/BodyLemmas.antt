-- The body of a generated type, datum by datum: its size, and what substitution, commas and mentions make of it.
use Rattle.std.proofs.Common.{◌≡◌, refl, ℕ, List, [], ◌∷◌, false, codes}
use Rattle.std.specs.Prelude.{nat_eq}
use Rattle.std.specs.List.{AllByRecursion}
use Rattle.ls_reader.specs.declared.datum.Datum.{Datum}
use Rattle.ls_reader.specs.declared.datum.Form.{out-Form}
use Rattle.ls_reader.specs.declared.datum.Form.TheOpen.{Form-F}
use Rattle.ls_reader.specs.declared.datum.Literal.{Literal}
use Rattle.ls_gen.specs.Shapes.{IsName, IsNumber, IsListOf, IsBody}
use Rattle.ls_gen.proofs.ItemLemmas.{IsPair, IsTriple, pair_of_shapes, triple_of_shapes}

-- ---- induction

-- a name that does not begin as those of generated types do
abbrev pub IsCore : List ℕ → Type 0
IsCore [] = ⊥
IsCore (c ∷ cs) = nat_eq c 71 ≡ false

-- what holds of symbols and numbers, and of lists of what it holds of
pub record IsHereditary (P : Datum → Type 0) : Type 0 where
  pub of_name : (name : List ℕ) (d : Datum) → IsCore name → IsName name d → P d
  pub of_number : (l : Literal) (d : Datum) → out-Form d.form ≡ Form-F.Number l → P d
  pub of_list : (x : Datum) (xs : List Datum) (d : Datum) → out-Form d.form ≡ Form-F.List (x ∷ xs)
      → AllByRecursion P (x ∷ xs)
      → P d

-- ---- the parts of the body

-- `(eql i)`
abbrev pub IsEql : ℕ → Datum → Type 0
IsEql i = IsPair (IsName (codes "EQL")) (IsNumber i)

-- `(cons (eql i) t)`
abbrev pub IsTail : ℕ → Datum → Type 0
IsTail i = IsTriple (IsName (codes "CONS")) (IsEql i) (IsName (codes "T"))

-- `(or null (cons (eql i) t))`
abbrev pub IsEither : ℕ → Datum → Type 0
IsEither i = IsTriple (IsName (codes "OR")) (IsName (codes "NULL")) (IsTail i)

-- `(integer 0 i)`
abbrev pub IsRange : ℕ → Datum → Type 0
IsRange i = IsTriple (IsName (codes "INTEGER")) (IsNumber 0) (IsNumber i)

-- the whole of it
abbrev pub IsWhole : ℕ → Datum → Type 0
IsWhole i = IsTriple (IsName (codes "CONS")) (IsRange i) (IsEither i)

-- the third datum of three may be said to be of another shape
third_as : (A B C E : Datum → Type 0) (d : Datum) → ((x : Datum) → C x → E x) → IsTriple A B C d → IsTriple A B E d
third_as A B C E d f h =
    record {
      one = h.one;
      two = h.two;
      three = h.three;
      form = h.form;
      first = h.first;
      second = h.second;
      third = f h.three h.third;
    }

-- and so may the second
second_as : (A B C E : Datum → Type 0) (d : Datum) → ((x : Datum) → B x → E x) → IsTriple A B C d → IsTriple A E C d
second_as A B C E d f h =
    record {
      one = h.one;
      two = h.two;
      three = h.three;
      form = h.form;
      first = h.first;
      second = f h.two h.second;
      third = h.third;
    }

-- the parts of `(cons (eql i) t)`
tail_of : (i : ℕ) (d : Datum)
    → IsListOf (IsName (codes "CONS") ∷ IsListOf (IsName (codes "EQL") ∷ IsNumber i ∷ []) ∷ IsName (codes "T") ∷ []) d
    → IsTail i d
tail_of i d h =
    second_as _ _ _ (IsEql i) d (pair_of_shapes (IsName (codes "EQL")) (IsNumber i))
    (triple_of_shapes (IsName (codes "CONS")) (IsListOf (IsName (codes "EQL") ∷ IsNumber i ∷ []))
    (IsName (codes "T")) d h)

-- the parts of the body of a generated type
pub body_parts : (i : ℕ) (d : Datum) → IsBody i d → IsWhole i d
body_parts i d h =
    third_as _ _ _ (IsEither i) d
    (λ x k. third_as _ _ _ (IsTail i) x (tail_of i)
    (triple_of_shapes (IsName (codes "OR")) (IsName (codes "NULL")) _ x k))
    (second_as _ _ _ (IsRange i) d (triple_of_shapes (IsName (codes "INTEGER")) (IsNumber 0) (IsNumber i))
    (triple_of_shapes (IsName (codes "CONS")) _ _ d h))

-- ---- what holds of the body

module _ (P : Datum → Type 0) (h : IsHereditary P) (i : ℕ) where
  -- what is hereditary holds of `(cons (eql i) t)`
  holds_of_tail : (d : Datum) → IsTail i d → P d
  holds_of_tail d p =
      let eql : P p.two =
      h.of_list p.second.one (p.second.two ∷ []) p.two p.second.form
      (h.of_name (codes "EQL") p.second.one refl p.second.first, (h.of_number _ p.second.two p.second.second.1, tt)) in
      h.of_list p.one (p.two ∷ p.three ∷ []) d p.form
      (h.of_name (codes "CONS") p.one refl p.first, (eql, (h.of_name (codes "T") p.three refl p.third, tt)))

  -- and of `(or null (cons (eql i) t))`
  holds_of_either : (d : Datum) → IsEither i d → P d
  holds_of_either d p =
      h.of_list p.one (p.two ∷ p.three ∷ []) d p.form (
        h.of_name (codes "OR") p.one refl p.first,
        (h.of_name (codes "NULL") p.two refl p.second, (holds_of_tail p.three p.third, tt)),
      )

  -- and of `(integer 0 i)`
  holds_of_range : (d : Datum) → IsRange i d → P d
  holds_of_range d p =
      h.of_list p.one (p.two ∷ p.three ∷ []) d p.form (
        h.of_name (codes "INTEGER") p.one refl p.first,
        (h.of_number _ p.two p.second.1, (h.of_number _ p.three p.third.1, tt)),
      )

  -- what is hereditary holds of the body of a generated type
  pub holds_of_body : (d : Datum) → IsWhole i d → P d
  holds_of_body d p =
      h.of_list p.one (p.two ∷ p.three ∷ []) d p.form (
        h.of_name (codes "CONS") p.one refl p.first,
        (holds_of_range p.two p.second, (holds_of_either p.three p.third, tt)),
      )
