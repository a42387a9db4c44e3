-- One turn of a copy.
use Rattle.std.proofs.Common.{◌≡◌, ◌+◌, List, [], ◌∷◌, ◌++◌, Some, refl, ap, sym, ◌∙◌, arith, append_assoc}
use Rattle.ls_reader.specs.declared.datum.Datum.{Datum}
use Rattle.ls_reader.specs.declared.datum.Form.{roll-Form}
use Rattle.ls_reader.specs.declared.datum.Form.TheOpen.{Form-F}
use Rattle.ls_reader.specs.Sizes.{size, size_all}
use Rattle.ls_deftype.specs.declared.begun.Construct.{Construct}
use Rattle.ls_deftype.specs.declared.begun.Construct.TheVariants as construct
use Rattle.ls_deftype.specs.declared.begun.Begun.{Begun}
use Rattle.ls_deftype.specs.steps.Begun.{left, behind_first, split_last, with_last, assembled, ended_with, ended, plugged, left_in, AreAlike}
use Rattle.ls_deftype.proofs.SizeLemmas.{sizes_append, size_one}

pub last_of : (ds : List Datum) (d : Datum) → split_last (ds ++ d ∷ []) ≡ Some (ds, d)
last_of [] d = refl
last_of (e ∷ ds) d = ap (λ o. Some (behind_first e o)) (last_of ds d)

-- the innermost construct at the end of the list, with its part in it
pub plugged_last : (bs : List Begun) (b : Begun) (d : Datum) → plugged (bs ++ b ∷ []) d ≡ plugged bs (ended_with b (b.made ++ d ∷ left b))
plugged_last [] b d = refl
plugged_last (a ∷ bs) b d = ap (λ e. ended_with a (a.made ++ e ∷ left a)) (plugged_last bs b d)

pub left_last : (bs : List Begun) (b : Begun) → left_in (bs ++ b ∷ []) ≡ left_in bs + size_all (left b)
left_last [] b = omega arith
left_last (a ∷ bs) b = omega (arith, left_last bs b)

-- the parts of a construct that was left alone but for the next part
pub next_parts : (old new : Begun) (d : Datum) → left old ≡ d ∷ left new → AreAlike old new → ended_with new (new.made ++ d ∷ left new) ≡ ended old
next_parts old new d more alike =
    let parts : new.made ++ d ∷ left new ≡ old.made ++ left old = ap (λ ds. ds ++ d ∷ left new) alike.made ∙ ap (λ ds. old.made ++ ds) (sym more) in
    ap (λ s. record { span = s; form = roll-Form (assembled new.construct (new.made ++ d ∷ left new)) }) alike.span
    ∙ ap (λ c. record { span = old.span; form = roll-Form (assembled c (new.made ++ d ∷ left new)) }) alike.construct
    ∙ ap (ended_with old) parts

-- a part among the copies
pub made_more : (b : Begun) (d : Datum) → ended_with b ((b.made ++ d ∷ []) ++ left b) ≡ ended_with b (b.made ++ d ∷ left b)
made_more b d = ap (ended_with b) (append_assoc b.made (d ∷ []) (left b))

-- the size of the parts of a dotted list
pub size_dotted : (items : List Datum) (last : Datum) → size_all (items ++ last ∷ []) ≡ size_all items + size last
size_dotted items last = sizes_append items (last ∷ []) ∙ ap (λ n. size_all items + n) (size_one last)

-- a dotted list is made of its parts
pub dotted_again : (items : List Datum) (last : Datum) → assembled construct.Dotted (items ++ last ∷ []) ≡ Form-F.Dotted items last
dotted_again items last = ap (with_last construct.Dotted) (last_of items last)
