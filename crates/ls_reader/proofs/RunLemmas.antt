-- The pieces of what is begun are taken, one step each, to what a builder holds then.
use Rattle.std.proofs.Common.{◌≡◌, ◌≢◌, ℕ, suc, ◌<◌, ◌⊎◌, inl, inr, Bool, true, false, cond, List, [], ◌∷◌, ◌++◌, length, map, Result, Ok, Err, refl, sym, ap, ◌∙◌, append_assoc, arith, lt-ltb}
use Rattle.std.specs.List.{flat_map, AllByRecursion}
use Rattle.std.proofs.lemmas.Bool.{cond_both}
use Rattle.std.proofs.lemmas.List.{append-nil, length-map}
use Rattle.ls_reader.specs.declared.place.Place.{Place}
use Rattle.ls_reader.specs.declared.datum.Datum.{Datum}
use Rattle.ls_reader.specs.declared.frame.Frame.{Frame}
use Rattle.ls_reader.specs.declared.frame.Frame.TheVariants as frame
use Rattle.ls_reader.specs.declared.builder.Builder.{Builder}
use Rattle.ls_reader.specs.declared.token.Bracket.{Bracket}
use Rattle.ls_reader.specs.declared.token.Bracket.TheVariants as bracket
use Rattle.ls_reader.specs.declared.token.Mark.{Mark}
use Rattle.ls_reader.specs.declared.token.Token.{Token}
use Rattle.ls_reader.specs.declared.token.Token.TheVariants as token
use Rattle.ls_reader.specs.Data as made
use Rattle.ls_reader.specs.steps.Building as machine
use Rattle.ls_reader.specs.steps.Building.{put, step, begin, begin_datum, dot, finish, nothing, PlacedFault}
use Rattle.ls_reader.specs.Lexemes.{Extent, Piece, piece}
use Rattle.ls_reader.specs.Trees.{Tree, atom, list, dotted, marked, feature, Trees, none, more, trees, tree_pieces, trees_pieces, kept, yields, data_of, IsOne, IsExpression, Fits, AllFit, Opening, list_of, dot_of, tail_of, mark_of, feature_of, chosen_of, opening_pieces, begun_pieces, StandForNone, OpeningFits, AreBegun, Begun}
use Rattle.ls_reader.proofs.BuilderLemmas.{builder, give, only, builder_of, frame_of, admits_same}
use Rattle.ls_reader.proofs.TreeLemmas.{trees_pieces-trees, data_of-trees, AllFit-trees}

-- ---- the steps of a list of pieces

-- a step where the one before it succeeded
abbrev pub then : (Builder → Result Builder PlacedFault) → Result Builder PlacedFault → Result Builder PlacedFault
then f (Ok b) = f b
then f (Err x) = Err x

-- one step for each piece
abbrev pub run : List Piece → Builder → Result Builder PlacedFault
run [] b = Ok b
run (p ∷ ps) b = then (run ps) (step p.at.from p.at.to p.token b)

-- the step of one piece
pub run_piece : (t : Token) (e : Extent) (rest : List Piece) (b : Builder) → run (piece t e ++ rest) b ≡ then (run rest) (step e.from e.to t b)
run_piece token.Gap e rest b = refl
run_piece (token.Open kind) e rest b = refl
run_piece token.Close e rest b = refl
run_piece token.Dot e rest b = refl
run_piece (token.Mark kind) e rest b = refl
run_piece (token.Feature plus) e rest b = refl
run_piece (token.Atom form) e rest b = refl
run_piece (token.Bad kind) e rest b = refl

-- a construct begins where it is not too deep
begin_is : (p : Place) (f : Frame) (w : List Frame) (done : List Datum) → length w < 256 → begin p f (builder w done) ≡ Ok (builder (f ∷ w) done)
begin_is p f w done lt = rw (lt-ltb (length w) 256 lt) refl

-- a construct that is a datum begins where one may
begin_datum_is : (p : Place) (f : Frame) (w : List Frame) (done : List Datum) → length w < 256 → machine.admits w ≡ true → begin_datum p f (builder w done) ≡ Ok (builder (f ∷ w) done)
begin_datum_is p f w done lt can = rw (can, lt-ltb (length w) 256 lt) refl

-- a tree stands for no datum or for one
few_yields : (n : ℕ) (t : Tree) → Fits n t → (yields t ≡ []) ⊎ IsOne (yields t)
few_yields n (atom e form) fits = inr (_, refl)
few_yields n (list kind o ts c) fits = inr (_, refl)
few_yields n (dotted o ts d us t vs c) fits = inr (made.dotted_list o.from c.to (data_of ts) fits.6.0, ap (map (made.dotted_list o.from c.to (data_of ts))) fits.6.1)
few_yields n (marked kind e us t) fits = inr (made.mark_on kind e.from fits.4.0, ap (map (made.mark_on kind e.from)) fits.4.1)
few_yields n (feature e plus us t vs x) fits = cond_both (kept plus (yields t)) (yields x) [] (λ ds. (ds ≡ []) ⊎ IsOne ds) (λ k. inr fits.8) (λ k. inl refl)

-- what a tree stands for goes into a list or vector
give_list : (ds : List Datum) → (ds ≡ []) ⊎ IsOne ds → (kind : Bracket) (from : Place) (items : List Datum) (w : List Frame) (done : List Datum) → give ds (frame.List kind from items ∷ w) done ≡ Ok (builder (frame.List kind from (items ++ ds) ∷ w) done)
give_list ds (inl e) kind from items w done = rw (e, append-nil items) refl
give_list ds (inr h) kind from items w done = rw h.1 refl

-- what a tree stands for is whole where nothing is begun
give_done : (ds : List Datum) → (ds ≡ []) ⊎ IsOne ds → (done : List Datum) → give ds [] done ≡ Ok (builder [] (done ++ ds))
give_done ds (inl e) done = rw (e, append-nil done) refl
give_done ds (inr h) done = rw h.1 refl

-- the datum of a mark is that of the two
give_mark : (ds : List Datum) → IsOne ds → (kind : Mark) (p : Place) (w : List Frame) (done : List Datum) → give ds (frame.Mark kind p ∷ w) done ≡ give (map (made.mark_on kind p) ds) w done
give_mark ds h kind p w done = rw h.1 refl

-- the datum behind a dot is kept as the last one
give_dot : (ds : List Datum) → IsOne ds → (p : Place) (items : List Datum) (w : List Frame) (done : List Datum) → give ds (frame.Dot p items ∷ w) done ≡ Ok (builder (frame.Tail p items (only ds) ∷ w) done)
give_dot ds h p items w done = rw h.1 refl

-- the bracket behind a list with a dot
give_dotted : (ds : List Datum) → IsOne ds → (p to : Place) (items : List Datum) (w : List Frame) (done : List Datum) → put (made.dotted_list p to items (only ds)) w done ≡ give (map (made.dotted_list p to items) ds) w done
give_dotted ds h p to items w done = rw h.1 refl

-- an expression in form decides whether the datum behind it is there
give_feature : (ds : List Datum) → IsExpression ds → (p : Place) (plus : Bool) (w : List Frame) (done : List Datum) → give ds (frame.Feature p plus ∷ w) done ≡ Ok (builder (frame.Chosen p (kept plus ds) ∷ w) done)
give_feature ds h p plus w done = rw (h.2, h.3) refl

-- the datum behind an expression is there or not
give_chosen : (k : Bool) (ds : List Datum) → IsOne ds → (p : Place) (w : List Frame) (done : List Datum) → give ds (frame.Chosen p k ∷ w) done ≡ give (cond k ds []) w done
give_chosen true ds h p w done = rw h.1 refl
give_chosen false ds h p w done = rw h.1 refl

-- behind data a dot may stand
dot_may : (ds : List Datum) → ds ≢ [] → made.takes_dot bracket.Round ds ≡ true
dot_may [] n = absurd (n refl)
dot_may (d ∷ ds) n = refl

-- a dot is taken behind data
dot_is : (p q : Place) (items : List Datum) (w : List Frame) (done : List Datum) → items ≢ [] → dot p (frame.List bracket.Round q items ∷ w) done ≡ Ok (builder (frame.Dot q items ∷ w) done)
dot_is p q items w done n = rw (dot_may items n) refl

-- where two lists joined are empty both are
both_nil : (xs ys : List Datum) → xs ++ ys ≡ [] → (xs ≡ []) × (ys ≡ [])
both_nil [] ys e = (refl, e)
both_nil (x ∷ xs) ys e = absurd (omega (arith, ap length e))

-- no datum is not one
none_not_one : (ds : List Datum) → ds ≡ [] → IsOne ds → ⊥
none_not_one ds e h = omega (arith, ap length e, ap length h.1)

-- the datum behind an expression may begin where the whole may
chosen_admits : (k : Bool) (ds : List Datum) (p : Place) (w : List Frame) → (IsOne (cond k ds []) → machine.admits w ≡ true) → IsOne ds → machine.admits (frame.Chosen p k ∷ w) ≡ true
chosen_admits true ds p w can one = can one
chosen_admits false ds p w can one = refl

-- the pieces of a tree are run to its datum
mutual
  -- one tree
  run_tree : (t : Tree) (w : List Frame) (done : List Datum) (rest : List Piece) → Fits (length w) t → (IsOne (yields t) → machine.admits w ≡ true) → run (tree_pieces t ++ rest) (builder w done) ≡ then (run rest) (give (yields t) w done)
  run_tree (atom e form) w done rest fits can = refl
  run_tree (list kind o ts c) w done rest fits can =
      rw (begin_datum_is o.from (frame.List kind o.from []) w done fits.0 (can (_, refl)), append_assoc (trees_pieces ts) (piece token.Close c) rest) (run_trees ts kind o.from [] w done (piece token.Close c ++ rest) fits.1)
  run_tree (dotted o ts d us t vs c) w done rest fits can =
      let made_of = made.dotted_list o.from c.to (data_of ts) in
      let behind = tree_pieces t ++ (trees_pieces vs ++ piece token.Close c) in
      let after = trees_pieces us ++ behind in
      rw (begin_datum_is o.from (frame.List bracket.Round o.from []) w done fits.0 (can (made_of fits.6.0, ap (map made_of) fits.6.1)), append_assoc (trees_pieces ts) (piece token.Dot d ++ after) rest)
      (run_trees ts bracket.Round o.from [] w done ((piece token.Dot d ++ after) ++ rest) fits.1
      ∙ ap (then (run (after ++ rest))) (dot_is d.from o.from (data_of ts) w done fits.2)
      ∙ rw (append_assoc (trees_pieces us) behind rest, append_assoc (tree_pieces t) (trees_pieces vs ++ piece token.Close c) rest)
      (run_none us (frame.Dot o.from (data_of ts) ∷ w) done (tree_pieces t ++ ((trees_pieces vs ++ piece token.Close c) ++ rest)) fits.3 fits.4
      ∙ run_tree t (frame.Dot o.from (data_of ts) ∷ w) done ((trees_pieces vs ++ piece token.Close c) ++ rest) fits.5 (λ one. refl))
      ∙ ap (then (run ((trees_pieces vs ++ piece token.Close c) ++ rest))) (give_dot (yields t) fits.6 o.from (data_of ts) w done)
      ∙ rw (append_assoc (trees_pieces vs) (piece token.Close c) rest) (run_none vs (frame.Tail o.from (data_of ts) (only (yields t)) ∷ w) done (piece token.Close c ++ rest) fits.7 fits.8)
      ∙ ap (then (run rest)) (give_dotted (yields t) fits.6 o.from c.to (data_of ts) w done))
  run_tree (marked kind e us t) w done rest fits can =
      rw (begin_datum_is e.from (frame.Mark kind e.from) w done fits.0 (can (made.mark_on kind e.from fits.4.0, ap (map (made.mark_on kind e.from)) fits.4.1)), append_assoc (trees_pieces us) (tree_pieces t) rest)
      (run_none us (frame.Mark kind e.from ∷ w) done (tree_pieces t ++ rest) fits.1 fits.2
      ∙ run_tree t (frame.Mark kind e.from ∷ w) done rest fits.3 (λ one. refl) ∙ ap (then (run rest)) (give_mark (yields t) fits.4 kind e.from w done))
  run_tree (feature e plus us t vs x) w done rest fits can =
      rw (begin_is e.from (frame.Feature e.from plus) w done fits.0, append_assoc (trees_pieces us) (tree_pieces t ++ (trees_pieces vs ++ tree_pieces x)) rest)
      (run_none us (frame.Feature e.from plus ∷ w) done ((tree_pieces t ++ (trees_pieces vs ++ tree_pieces x)) ++ rest) fits.1 fits.2
      ∙ rw (append_assoc (tree_pieces t) (trees_pieces vs ++ tree_pieces x) rest) (run_tree t (frame.Feature e.from plus ∷ w) done ((trees_pieces vs ++ tree_pieces x) ++ rest) fits.3 (λ one. refl))
      ∙ ap (then (run ((trees_pieces vs ++ tree_pieces x) ++ rest))) (give_feature (yields t) fits.4 e.from plus w done)
      ∙ rw (append_assoc (trees_pieces vs) (tree_pieces x) rest) (run_none vs (frame.Chosen e.from (kept plus (yields t)) ∷ w) done (tree_pieces x ++ rest) fits.5 fits.6)
      ∙ run_tree x (frame.Chosen e.from (kept plus (yields t)) ∷ w) done rest fits.7 (chosen_admits (kept plus (yields t)) (yields x) e.from w can)
      ∙ ap (then (run rest)) (give_chosen (kept plus (yields t)) (yields x) fits.8 e.from w done))

  -- trees in a list or vector
  run_trees : (ts : Trees) (kind : Bracket) (from : Place) (items : List Datum) (w : List Frame) (done : List Datum) (rest : List Piece) → AllFit (suc (length w)) ts
      → run (trees_pieces ts ++ rest) (builder (frame.List kind from items ∷ w) done) ≡ run rest (builder (frame.List kind from (items ++ data_of ts) ∷ w) done)
  run_trees none kind from items w done rest fits = ap (λ (ds : List Datum). run rest (builder (frame.List kind from ds ∷ w) done)) (sym (append-nil items))
  run_trees (more t ts) kind from items w done rest fits =
      rw (append_assoc (tree_pieces t) (trees_pieces ts) rest) (run_tree t (frame.List kind from items ∷ w) done (trees_pieces ts ++ rest) fits.0 (λ one. refl))
      ∙ ap (then (run (trees_pieces ts ++ rest))) (give_list (yields t) (few_yields (suc (length w)) t fits.0) kind from items w done)
      ∙ run_trees ts kind from (items ++ yields t) w done rest fits.1
      ∙ ap (λ (ds : List Datum). run rest (builder (frame.List kind from ds ∷ w) done)) (append_assoc items (yields t) (data_of ts))

  -- trees that stand for none
  run_none : (ts : Trees) (w : List Frame) (done : List Datum) (rest : List Piece) → AllFit (length w) ts → data_of ts ≡ [] → run (trees_pieces ts ++ rest) (builder w done) ≡ run rest (builder w done)
  run_none none w done rest fits e = refl
  run_none (more t ts) w done rest fits e =
      let nil = both_nil (yields t) (data_of ts) e in
      rw (append_assoc (tree_pieces t) (trees_pieces ts) rest) (run_tree t w done (trees_pieces ts ++ rest) fits.0 (λ one. absurd (none_not_one (yields t) nil.0 one)))
      ∙ ap (λ (ds : List Datum). then (run (trees_pieces ts ++ rest)) (give ds w done)) nil.0
      ∙ run_none ts w done rest fits.1 nil.1

-- whole trees are run to their data
run_whole : (ts : List Tree) (done : List Datum) (rest : List Piece) → AllByRecursion (Fits 0) ts → run (flat_map tree_pieces ts ++ rest) (builder [] done) ≡ run rest (builder [] (done ++ flat_map yields ts))
run_whole [] done rest fits = ap (λ (ds : List Datum). run rest (builder [] ds)) (sym (append-nil done))
run_whole (t ∷ ts) done rest fits =
    rw (append_assoc (tree_pieces t) (flat_map tree_pieces ts) rest) (run_tree t [] done (flat_map tree_pieces ts ++ rest) fits.0 (λ one. refl))
    ∙ ap (then (run (flat_map tree_pieces ts ++ rest))) (give_done (yields t) (few_yields 0 t fits.0) done)
    ∙ run_whole ts (done ++ yields t) rest fits.1
    ∙ ap (λ (ds : List Datum). run rest (builder [] ds)) (append_assoc done (yields t) (flat_map yields ts))

-- ---- the steps of what is begun

-- trees of a list that stand for none
run_nones : (us : List Tree) (w : List Frame) (done : List Datum) (rest : List Piece) → StandForNone (length w) us → run (flat_map tree_pieces us ++ rest) (builder w done) ≡ run rest (builder w done)
run_nones us w done rest h = rw (sym (trees_pieces-trees us)) (run_none (trees us) w done rest (AllFit-trees (length w) us h.0) (data_of-trees us ∙ h.1))

-- trees in a list that is begun
run_items : (ts : List Tree) (kind : Bracket) (from : Place) (w : List Frame) (done : List Datum) (rest : List Piece) → AllByRecursion (Fits (suc (length w))) ts
    → run (flat_map tree_pieces ts ++ rest) (builder (frame.List kind from [] ∷ w) done) ≡ run rest (builder (frame.List kind from (flat_map yields ts) ∷ w) done)
run_items ts kind from w done rest fits =
    rw (sym (trees_pieces-trees ts)) (run_trees (trees ts) kind from [] w done rest (AllFit-trees (suc (length w)) ts fits))
    ∙ ap (λ (ds : List Datum). run rest (builder (frame.List kind from ds ∷ w) done)) (data_of-trees ts)

-- a list up to its dot, and trees that stand for none
run_dot : (o : Extent) (ts : List Tree) (d : Extent) (us : List Tree) (w : List Frame) (done : List Datum) (rest : List Piece) → length w < 256 → machine.admits w ≡ true → AllByRecursion (Fits (suc (length w))) ts → flat_map yields ts ≢ [] → StandForNone (suc (length w)) us
    → run (piece (token.Open bracket.Round) o ++ (flat_map tree_pieces ts ++ (piece token.Dot d ++ (flat_map tree_pieces us ++ rest)))) (builder w done) ≡ run rest (builder (frame.Dot o.from (flat_map yields ts) ∷ w) done)
run_dot o ts d us w done rest lt can fits some nones =
    rw (begin_datum_is o.from (frame.List bracket.Round o.from []) w done lt can) (run_items ts bracket.Round o.from w done (piece token.Dot d ++ (flat_map tree_pieces us ++ rest)) fits)
    ∙ ap (then (run (flat_map tree_pieces us ++ rest))) (dot_is d.from o.from (flat_map yields ts) w done some)
    ∙ run_nones us (frame.Dot o.from (flat_map yields ts) ∷ w) done rest nones

-- constructs in others, as a builder has them
fit_frames : (w : List Opening) (P : ℕ → Type 0) → P (length w) → P (length (map frame_of w))
fit_frames w P h = rw (length-map w frame_of) h

-- a construct begun
run_opening : (o : Opening) (w : List Opening) (done : List Datum) (rest : List Piece) → OpeningFits w o → run (opening_pieces o ++ rest) (builder (map frame_of w) done) ≡ run rest (builder (map frame_of (o ∷ w)) done)
run_opening (list_of kind o ts) w done rest fits =
    rw (begin_datum_is o.from (frame.List kind o.from []) (map frame_of w) done (fit_frames w (λ n. n < 256) fits.0) (admits_same w ∙ fits.1))
    (run_items ts kind o.from (map frame_of w) done rest (fit_frames w (λ n. AllByRecursion (Fits (suc n)) ts) fits.2))
run_opening (dot_of o ts d us) w done rest fits =
    rw (append_assoc (flat_map tree_pieces ts) (piece token.Dot d ++ flat_map tree_pieces us) rest)
    (run_dot o ts d us (map frame_of w) done rest (fit_frames w (λ n. n < 256) fits.0) (admits_same w ∙ fits.1) (fit_frames w (λ n. AllByRecursion (Fits (suc n)) ts) fits.2) fits.3 (fit_frames w (λ n. StandForNone (suc n) us) fits.4))
run_opening (tail_of o ts d us t vs) w done rest fits =
    let v = map frame_of w in
    let front = frame.Dot o.from (flat_map yields ts) in
    let behind = tree_pieces t ++ flat_map tree_pieces vs in
    rw (append_assoc (flat_map tree_pieces ts) (piece token.Dot d ++ (flat_map tree_pieces us ++ behind)) rest, append_assoc (flat_map tree_pieces us) behind rest, append_assoc (tree_pieces t) (flat_map tree_pieces vs) rest)
    (run_dot o ts d us v done (tree_pieces t ++ (flat_map tree_pieces vs ++ rest)) (fit_frames w (λ n. n < 256) fits.0) (admits_same w ∙ fits.1) (fit_frames w (λ n. AllByRecursion (Fits (suc n)) ts) fits.2) fits.3 (fit_frames w (λ n. StandForNone (suc n) us) fits.4)
    ∙ run_tree t (front ∷ v) done (flat_map tree_pieces vs ++ rest) (fit_frames w (λ n. Fits (suc n) t) fits.5) (λ one. refl)
    ∙ ap (then (run (flat_map tree_pieces vs ++ rest))) (give_dot (yields t) fits.6 o.from (flat_map yields ts) v done)
    ∙ run_nones vs (frame.Tail o.from (flat_map yields ts) (only (yields t)) ∷ v) done rest (fit_frames w (λ n. StandForNone (suc n) vs) fits.7))
run_opening (mark_of kind e us) w done rest fits =
    rw (begin_datum_is e.from (frame.Mark kind e.from) (map frame_of w) done (fit_frames w (λ n. n < 256) fits.0) (admits_same w ∙ fits.1))
    (run_nones us (frame.Mark kind e.from ∷ map frame_of w) done rest (fit_frames w (λ n. StandForNone (suc n) us) fits.2))
run_opening (feature_of e plus us) w done rest fits =
    rw (begin_is e.from (frame.Feature e.from plus) (map frame_of w) done (fit_frames w (λ n. n < 256) fits.0))
    (run_nones us (frame.Feature e.from plus ∷ map frame_of w) done rest (fit_frames w (λ n. StandForNone (suc n) us) fits.1))
run_opening (chosen_of e plus us t vs) w done rest fits =
    let v = map frame_of w in
    let behind = tree_pieces t ++ flat_map tree_pieces vs in
    rw (begin_is e.from (frame.Feature e.from plus) v done (fit_frames w (λ n. n < 256) fits.0), append_assoc (flat_map tree_pieces us) behind rest, append_assoc (tree_pieces t) (flat_map tree_pieces vs) rest)
    (run_nones us (frame.Feature e.from plus ∷ v) done (tree_pieces t ++ (flat_map tree_pieces vs ++ rest)) (fit_frames w (λ n. StandForNone (suc n) us) fits.1)
    ∙ run_tree t (frame.Feature e.from plus ∷ v) done (flat_map tree_pieces vs ++ rest) (fit_frames w (λ n. Fits (suc n) t) fits.2) (λ one. refl)
    ∙ ap (then (run (flat_map tree_pieces vs ++ rest))) (give_feature (yields t) fits.3 e.from plus v done)
    ∙ run_nones vs (frame.Chosen e.from (kept plus (yields t)) ∷ v) done rest (fit_frames w (λ n. StandForNone (suc n) vs) fits.4))

-- all constructs begun
run_begun : (w : List Opening) (done : List Datum) (rest : List Piece) → AreBegun w → run (begun_pieces w ++ rest) (builder [] done) ≡ run rest (builder (map frame_of w) done)
run_begun [] done rest fits = refl
run_begun (o ∷ w) done rest fits =
    rw (append_assoc (begun_pieces w) (opening_pieces o) rest) (run_begun w done (opening_pieces o ++ rest) fits.1)
    ∙ run_opening o w done rest fits.0

-- what is begun is run to what a builder holds then
pub runs : (ps : List Piece) (whole : List Tree) (w : List Opening) → Begun ps whole w → run ps nothing ≡ Ok (builder_of whole w)
runs ps whole w b =
    ap (λ (x : List Piece). run x nothing) (b.are ∙ ap (λ (x : List Piece). flat_map tree_pieces whole ++ x) (sym (append-nil (begun_pieces w))))
    ∙ run_whole whole [] (begun_pieces w ++ []) b.whole_fit ∙ run_begun w (flat_map yields whole) [] b.begun_fit
