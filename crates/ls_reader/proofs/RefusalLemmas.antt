-- What the grammar refuses, a step refuses.
use Rattle.std.proofs.Common.{◌≡◌, ◌⊎◌, inl, inr, true, List, [], ◌∷◌, length, map, Err, refl, ap, le-ltb}
use Rattle.std.specs.List.{flat_map}
use Rattle.std.proofs.lemmas.List.{length-map}
use Rattle.ls_reader.specs.declared.place.Place.{Place}
use Rattle.ls_reader.specs.declared.datum.Datum.{Datum}
use Rattle.ls_reader.specs.declared.frame.Frame.{Frame}
use Rattle.ls_reader.specs.declared.frame.Frame.TheVariants as frame
use Rattle.ls_reader.specs.declared.fault.FaultKind.{FaultKind}
use Rattle.ls_reader.specs.declared.fault.FaultKind.TheVariants.{BadToken}
use Rattle.ls_reader.specs.declared.token.Token.{Token}
use Rattle.ls_reader.specs.declared.token.Token.TheVariants as token
use Rattle.ls_reader.specs.Data as made
use Rattle.ls_reader.specs.steps.Building.{put, step, begin, begin_datum}
use Rattle.ls_reader.specs.Lexemes.{Extent}
use Rattle.ls_reader.specs.Trees.{Tree, yields, Opening, list_of, dot_of, tail_of, mark_of, feature_of, chosen_of, admits}
use Rattle.ls_reader.specs.Faults.{Second, TooMany, TooDeepDatum, EndsWrong, OutOfForm, Refused}
use Rattle.ls_reader.proofs.BuilderLemmas.{only, builder_of, frame_of, admits_same, second_put}

-- a construct that is too deep
begin_refused : (e : Extent) (f : Frame) (whole : List Tree) (w : List Opening) (k : FaultKind) (p : Place) → TooMany e w k p → begin e.from f (builder_of whole w) ≡ Err (k, p)
begin_refused e f whole w k p h = rw (length-map w frame_of, le-ltb (length w) 256 h.0, h.1, h.2) refl

-- a construct that is a datum, a second one behind a dot or too deep
begin_datum_refused : (e : Extent) (f : Frame) (whole : List Tree) (w : List Opening) (k : FaultKind) (p : Place) → Second e w k p ⊎ TooDeepDatum e w k p → begin_datum e.from f (builder_of whole w) ≡ Err (k, p)
begin_datum_refused e f whole w k p (inl h) = rw (admits_same w, h.0, h.1, h.2) refl
begin_datum_refused e f whole w k p (inr h) = rw (admits_same w, h.0) (begin_refused e f whole w k p h.1)

-- a datum that ends an expression out of form
wrong_again : (d : Datum) (w : List Opening) (p : Place) (done : List Datum) → EndsWrong d w p → put d (map frame_of w) done ≡ Err (BadToken, p)
wrong_again d [] p done h = absurd h
wrong_again d (list_of kind o ts ∷ w) p done h = absurd h
wrong_again d (dot_of o ts b us ∷ w) p done h = absurd h
wrong_again d (tail_of o ts b us t vs ∷ w) p done h = absurd h
wrong_again d (mark_of kind e us ∷ w) p done h = wrong_again (made.mark_on kind e.from d) w p done h
wrong_again d (feature_of e plus us ∷ w) p done h = rw (h.0, h.1) refl
wrong_again d (chosen_of e plus us t vs ∷ w) p done h = rw h.0 (wrong_again d w p done h.1)

-- the same with the kind of the fault
out_again : (d : Datum) (w : List Opening) (k : FaultKind) (p : Place) (done : List Datum) → OutOfForm d w k p → put d (map frame_of w) done ≡ Err (k, p)
out_again d w k p done h = rw h.0 (wrong_again d w p done h.1)

-- a token that the grammar refuses
pub refused_again : (t : Token) (w : List Opening) (e : Extent) (whole : List Tree) (k : FaultKind) (p : Place) → Refused t e w k p → step e.from e.to t (builder_of whole w) ≡ Err (k, p)
refused_again token.Gap w e whole k p h = absurd h
refused_again (token.Open kind) w e whole k p h = begin_datum_refused e (frame.List kind e.from []) whole w k p h
refused_again (token.Mark kind) w e whole k p h = begin_datum_refused e (frame.Mark kind e.from) whole w k p h
refused_again (token.Feature plus) w e whole k p h = begin_refused e (frame.Feature e.from plus) whole w k p h
refused_again token.Close [] e whole k p h = rw (h.0, h.1) refl
refused_again token.Close (list_of kind o ts ∷ w) e whole k p h = out_again (made.list kind o.from e.to (flat_map yields ts)) w k p (flat_map yields whole) h
refused_again token.Close (dot_of o ts d us ∷ w) e whole k p h = rw (h.0, h.1) refl
refused_again token.Close (tail_of o ts d us t vs ∷ w) e whole k p h = rw (ap only h.1) (out_again (made.dotted_list o.from e.to (flat_map yields ts) h.0) w k p (flat_map yields whole) h.2)
refused_again token.Close (mark_of kind q us ∷ w) e whole k p h = rw (h.0, h.1) refl
refused_again token.Close (feature_of q plus us ∷ w) e whole k p h = rw (h.0, h.1) refl
refused_again token.Close (chosen_of q plus us t vs ∷ w) e whole k p h = rw (h.0, h.1) refl
refused_again token.Dot [] e whole k p h = rw (h.0, h.1) refl
refused_again token.Dot (list_of kind o ts ∷ w) e whole k p h = rw (h.0, h.1.0, h.1.1) refl
refused_again token.Dot (dot_of o ts d us ∷ w) e whole k p h = rw (h.0, h.1) refl
refused_again token.Dot (tail_of o ts d us t vs ∷ w) e whole k p h = rw (h.0, h.1) refl
refused_again token.Dot (mark_of kind q us ∷ w) e whole k p h = rw (h.0, h.1) refl
refused_again token.Dot (feature_of q plus us ∷ w) e whole k p h = rw (h.0, h.1) refl
refused_again token.Dot (chosen_of q plus us t vs ∷ w) e whole k p h = rw (h.0, h.1) refl
refused_again (token.Atom form) w e whole k p (inl h) =
    rw (second_put (made.datum e.from e.to.byte form) w (flat_map yields whole) h.0, h.1, h.2) refl
refused_again (token.Atom form) w e whole k p (inr h) = out_again (made.datum e.from e.to.byte form) w k p (flat_map yields whole) h
refused_again (token.Bad kind) w e whole k p h = rw (h.0, h.1) refl
