-- What the generated text writes out, form by form, but for where it stands.
use Rattle.std.specs.Prelude.{◌≡◌, ℕ, pos, List, [], ◌∷◌, ◌++◌, ⊤, zero, suc, codes, decimal}
use Rattle.ls_object.specs.Symbols.{common_lisp_symbol}
use Rattle.ls_reader.specs.declared.datum.Datum.{Datum}
use Rattle.ls_reader.specs.declared.datum.Form.{out-Form}
use Rattle.ls_reader.specs.declared.datum.Form.TheOpen.{Form-F}
use Rattle.ls_reader.specs.declared.datum.Literal.TheVariants as literal
use Rattle.ls_reader.specs.declared.small.SmallRat.{SmallRat}
use Rattle.ls_gen.specs.Generated.{partner}

-- the datum is the symbol of that name, written without a package
abbrev pub IsName : List ℕ → Datum → Type 0
IsName name d = out-Form d.form ≡ Form-F.Symbol (common_lisp_symbol name)

-- each datum is of the shape beside it
abbrev pub AreOf : List (Datum → Type 0) → List Datum → Type 0
AreOf [] [] = ⊤
AreOf (Is ∷ shapes) (d ∷ ds) = Is d × AreOf shapes ds
AreOf _ _ = ⊥

-- the datum is a list of data of these shapes
abbrev pub IsListOf : List (Datum → Type 0) → Datum → Type 0
IsListOf shapes d = (items : List Datum) × (out-Form d.form ≡ Form-F.List items) × AreOf shapes items

-- the datum is `'x` for an x of this shape
abbrev pub IsQuoted : (Datum → Type 0) → Datum → Type 0
IsQuoted Is d = (x : Datum) × (out-Form d.form ≡ Form-F.Quote x) × Is x

-- the datum is the number n, written in digits
abbrev pub IsNumber : ℕ → Datum → Type 0
IsNumber n d =
    (small : SmallRat) × (out-Form d.form ≡ Form-F.Number (literal.Value small)) × (small.value.num ≡ pos n)
    × (small.value.den ≡ 1)

-- the name of the type of a number
abbrev pub type_name : ℕ → List ℕ
type_name i = codes "G" ++ decimal i

-- `(cons (integer 0 i) (or null (cons (eql i) t)))`
abbrev pub IsBody : ℕ → Datum → Type 0
IsBody i = IsListOf (IsName (codes "CONS")
    ∷ IsListOf (IsName (codes "INTEGER") ∷ IsNumber 0 ∷ IsNumber i ∷ [])
    ∷ IsListOf (IsName (codes "OR") ∷ IsName (codes "NULL")
    ∷ IsListOf (IsName (codes "CONS") ∷ IsListOf (IsName (codes "EQL") ∷ IsNumber i ∷ []) ∷ IsName (codes "T") ∷ [])
    ∷ [])
    ∷ [])

-- `(deftype g<i> () '(cons ..))`
abbrev pub IsDefinition : ℕ → Datum → Type 0
IsDefinition i = IsListOf (IsName (codes "DEFTYPE") ∷ IsName (type_name i) ∷ IsName (codes "NIL")
    ∷ IsQuoted (IsBody i) ∷ [])

-- `(subtypep 'g<i> '(cons integer list))`
abbrev pub IsListQuery : ℕ → Datum → Type 0
IsListQuery i = IsListOf (IsName (codes "SUBTYPEP") ∷ IsQuoted (IsName (type_name i))
    ∷ IsQuoted (IsListOf (IsName (codes "CONS") ∷ IsName (codes "INTEGER") ∷ IsName (codes "LIST") ∷ [])) ∷ [])

-- `(subtypep 'g<i> 'g<j>)`
abbrev pub IsPartnerQuery : ℕ → ℕ → Datum → Type 0
IsPartnerQuery i j = IsListOf (IsName (codes "SUBTYPEP") ∷ IsQuoted (IsName (type_name i))
    ∷ IsQuoted (IsName (type_name j)) ∷ [])

-- the forms are three for each of so many numbers, from i on
unfoldable pub AreFrom : (n left i : ℕ) → List Datum → Type 0
AreFrom n zero i fs = fs ≡ []
AreFrom n (suc left) i (a ∷ b ∷ c ∷ fs) =
    IsDefinition i a × IsListQuery i b × IsPartnerQuery i (partner n i) c × AreFrom n left (suc i) fs
AreFrom n (suc left) i _ = ⊥

-- the forms are those of each number below n, in order
abbrev pub AreGenerated : ℕ → List Datum → Type 0
AreGenerated n fs = AreFrom n n 0 fs
