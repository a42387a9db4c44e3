-- Copies of data that are begun and not ended.
use Rattle.std.specs.Prelude.{ℕ, ◌≡◌, ◌+◌, ◌*◌, List, [], ◌∷◌, ◌++◌, length, Option, Some, None, option_map, option_to_list}
use Rattle.ls_reader.specs.declared.datum.Datum.{Datum}
use Rattle.ls_reader.specs.declared.datum.Form.{Form, roll-Form}
use Rattle.ls_reader.specs.declared.datum.Form.TheOpen.{Form-F}
use Rattle.ls_reader.specs.Sizes.{size, size_all}
use Rattle.ls_deftype.specs.declared.begun.Construct.{Construct}
use Rattle.ls_deftype.specs.declared.begun.Construct.TheVariants as construct
use Rattle.ls_deftype.specs.declared.begun.Begun.{Begun}
use Rattle.ls_deftype.specs.declared.begun.Start.{Start}
use Rattle.ls_deftype.specs.declared.begun.Start.TheVariants as start

-- the parts of a construct that are not copied yet
abbrev pub left : Begun → List Datum
left b = b.parts.now ++ option_to_list (option_map (λ d. d.now) b.last)

abbrev pub behind_first : Datum → Option (List Datum × Datum) → List Datum × Datum
behind_first d None = ([], d)
behind_first d (Some p) = (d ∷ p.0, p.1)

-- the data before the last of them, and it
abbrev pub split_last : List Datum → Option (List Datum × Datum)
split_last [] = None
split_last (d ∷ ds) = Some (behind_first d (split_last ds))

abbrev pub with_data : Construct → List Datum × Datum → Form-F Form Datum
with_data construct.Dotted p = Form-F.Dotted p.0 p.1
with_data construct.Quote p = Form-F.Quote p.1
with_data construct.Back p = Form-F.Back p.1
with_data construct.Comma p = Form-F.Comma p.1
with_data construct.Splice p = Form-F.Splice p.1
with_data construct.FunctionOf p = Form-F.FunctionOf p.1
with_data _ p = Form-F.Odd

abbrev pub with_last : Construct → Option (List Datum × Datum) → Form-F Form Datum
with_last c None = Form-F.Odd
with_last c (Some p) = with_data c p

-- a construct with these parts in it
abbrev pub assembled : Construct → List Datum → Form-F Form Datum
assembled construct.List ds = Form-F.List ds
assembled construct.Vector ds = Form-F.Vector ds
assembled c ds = with_last c (split_last ds)

-- the datum that a construct with these parts is
abbrev pub ended_with : Begun → List Datum → Datum
ended_with b ds = record { span = b.span; form = roll-Form (assembled b.construct ds) }

-- the datum whose copy is begun
abbrev pub ended : Begun → Datum
ended b = ended_with b (b.made ++ left b)

-- the outermost datum whose copy is begun, where this datum is the part that is being copied of the innermost
abbrev pub plugged : List Begun → Datum → Datum
plugged [] d = d
plugged (b ∷ bs) d = ended_with b (b.made ++ plugged bs d ∷ left b)

-- how many data are left to copy
abbrev pub left_in : List Begun → ℕ
left_in [] = 0
left_in (b ∷ bs) = size_all (left b) + left_in bs

-- how much work is left: the data to copy, and the constructs to end
abbrev pub work : List Begun → Begun → ℕ
work bs b = 2 * (left_in bs + size_all (left b)) + length bs

-- one construct, with other parts of it left
pub record AreAlike (a b : Begun) : Type 0 where
  pub span : b.span ≡ a.span
  pub construct : b.construct ≡ a.construct
  pub made : b.made ≡ a.made

-- the start of the copy of a datum
abbrev pub Starts : Datum → Start → Type 0
Starts d (start.Whole x) = (x ≡ d) × (size d ≡ 1)
Starts d (start.Begun b) = (ended b ≡ d) × (size d ≡ size_all (left b) + 1)
