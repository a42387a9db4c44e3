-- Lists of two, three and four data, by their shapes.
use Rattle.std.proofs.Common.{◌≡◌, List, [], ◌∷◌}
use Rattle.ls_reader.specs.declared.datum.Datum.{Datum}
use Rattle.ls_reader.specs.declared.datum.Form.{out-Form}
use Rattle.ls_reader.specs.declared.datum.Form.TheOpen.{Form-F}
use Rattle.ls_gen.specs.Shapes.{AreOf, IsListOf}

-- a list of two data of these shapes
pub record IsPair (A B : Datum → Type 0) (d : Datum) : Type 0 where
  pub one : Datum
  pub two : Datum
  pub form : out-Form d.form ≡ Form-F.List (one ∷ two ∷ [])
  pub first : A one
  pub second : B two

-- of three
pub record IsTriple (A B C : Datum → Type 0) (d : Datum) : Type 0 where
  pub one : Datum
  pub two : Datum
  pub three : Datum
  pub form : out-Form d.form ≡ Form-F.List (one ∷ two ∷ three ∷ [])
  pub first : A one
  pub second : B two
  pub third : C three

-- of four
pub record IsQuadruple (A B C D : Datum → Type 0) (d : Datum) : Type 0 where
  pub one : Datum
  pub two : Datum
  pub three : Datum
  pub four : Datum
  pub form : out-Form d.form ≡ Form-F.List (one ∷ two ∷ three ∷ four ∷ [])
  pub first : A one
  pub second : B two
  pub third : C three
  pub fourth : D four

-- a list of two shapes has two data
pub pair_of_shapes : (A B : Datum → Type 0) (d : Datum) → IsListOf (A ∷ B ∷ []) d → IsPair A B d
pair_of_shapes A B d h = by h.0 h.1 h.2
  where
    by : (items : List Datum) → out-Form d.form ≡ Form-F.List items → AreOf (A ∷ B ∷ []) items → IsPair A B d
    by (a ∷ b ∷ []) is are = record { one = a; two = b; form = is; first = are.0; second = are.1.0 }
    by [] is are = absurd are
    by (a ∷ []) is are = absurd are.1
    by (a ∷ b ∷ c ∷ more) is are = absurd are.1.1

-- a list of three shapes has three
pub triple_of_shapes : (A B C : Datum → Type 0) (d : Datum) → IsListOf (A ∷ B ∷ C ∷ []) d → IsTriple A B C d
triple_of_shapes A B C d h = by h.0 h.1 h.2
  where
    by : (items : List Datum) → out-Form d.form ≡ Form-F.List items → AreOf (A ∷ B ∷ C ∷ []) items → IsTriple A B C d
    by (a ∷ b ∷ c ∷ []) is are =
        record { one = a; two = b; three = c; form = is; first = are.0; second = are.1.0; third = are.1.1.0 }
    by [] is are = absurd are
    by (a ∷ []) is are = absurd are.1
    by (a ∷ b ∷ []) is are = absurd are.1.1
    by (a ∷ b ∷ c ∷ e ∷ more) is are = absurd are.1.1.1

-- a list of four shapes has four
pub quadruple_of_shapes : (A B C D : Datum → Type 0) (d : Datum) → IsListOf (A ∷ B ∷ C ∷ D ∷ []) d
    → IsQuadruple A B C D d
quadruple_of_shapes A B C D d h = by h.0 h.1 h.2
  where
    by : (items : List Datum) → out-Form d.form ≡ Form-F.List items → AreOf (A ∷ B ∷ C ∷ D ∷ []) items
        → IsQuadruple A B C D d
    by (a ∷ b ∷ c ∷ e ∷ []) is are =
        record {
          one = a;
          two = b;
          three = c;
          four = e;
          form = is;
          first = are.0;
          second = are.1.0;
          third = are.1.1.0;
          fourth = are.1.1.1.0;
        }
    by [] is are = absurd are
    by (a ∷ []) is are = absurd are.1
    by (a ∷ b ∷ []) is are = absurd are.1.1
    by (a ∷ b ∷ c ∷ []) is are = absurd are.1.1.1
    by (a ∷ b ∷ c ∷ e ∷ f ∷ more) is are = absurd are.1.1.1.1
