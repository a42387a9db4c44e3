-- A step takes the next piece exactly where the grammar does.
use Rattle.std.proofs.Common.{◌≡◌, ◌≢◌, suc, ◌<◌, ◌⊎◌, inl, inr, Bool, true, false, cond, ltb, List, [], ◌∷◌, ◌++◌, length, map, Result, Ok, Err, Option, Some, None, IsTrue, refl, sym, ap, ◌∙◌, append_assoc, arith}
use Rattle.std.specs.List.{flat_map, AllByRecursion}
use Rattle.std.proofs.lemmas.Bool.{ltb-true, ltb-false, cond_both, false≢true}
use Rattle.std.proofs.lemmas.List.{append-nil, length-map}
use Rattle.ls_reader.specs.declared.place.Place.{Place}
use Rattle.ls_reader.specs.declared.datum.Datum.{Datum}
use Rattle.ls_reader.specs.declared.datum.Form.{Form, roll-Form}
use Rattle.ls_reader.specs.declared.datum.Form.TheOpen.{Form-F}
use Rattle.ls_reader.specs.declared.fault.FaultKind.{FaultKind}
use Rattle.ls_reader.specs.declared.fault.FaultKind.TheVariants.{BadToken, BadDot, TooDeep}
use Rattle.ls_reader.specs.declared.token.Bracket.{Bracket}
use Rattle.ls_reader.specs.declared.token.Bracket.TheVariants as bracket
use Rattle.ls_reader.specs.declared.token.Token.{Token}
use Rattle.ls_reader.specs.declared.token.Token.TheVariants as token
use Rattle.ls_reader.specs.declared.frame.Frame.{Frame}
use Rattle.ls_reader.specs.declared.frame.Frame.TheVariants as frame
use Rattle.ls_reader.specs.declared.builder.Builder.{Builder}
use Rattle.ls_reader.specs.Places.{start}
use Rattle.ls_reader.specs.Data as made
use Rattle.ls_reader.specs.Features.{holds, is_kept}
use Rattle.ls_reader.specs.steps.Building as machine
use Rattle.ls_reader.specs.steps.Building.{PlacedFault, choose, put, begin, begin_datum, close, dot, step}
use Rattle.ls_reader.specs.Lexemes.{Extent, Piece, piece}
use Rattle.ls_reader.specs.Trees.{Tree, atom, list, dotted, marked, feature, trees, tree_pieces, kept, yields, Fits, Opening, list_of, dot_of, tail_of, mark_of, feature_of, chosen_of, opening_pieces, begun_pieces, admits, OpeningFits, AreBegun, Begun}
use Rattle.ls_reader.specs.Faults.{Second, TooMany, TooDeepDatum, EndsWrong, Refused}
use Rattle.ls_reader.proofs.TreeLemmas.{data_of-trees, AllFit-trees, all_push, flat_push, no_data, some_data, none_push, inner_push, dot_push, tail_push, chosen_push, tail_pieces, chosen_pieces, marked_pieces, feature_pieces, list_pieces, dotted_pieces}

-- ---- what a builder holds

-- the one datum of a list of one
abbrev pub only : List Datum → Datum
only [] = made.datum start 0 (roll-Form Form-F.Odd)
only (d ∷ ds) = d

-- what a builder keeps of a construct
abbrev pub frame_of : Opening → Frame
frame_of (list_of kind o ts) = frame.List kind o.from (flat_map yields ts)
frame_of (dot_of o ts d us) = frame.Dot o.from (flat_map yields ts)
frame_of (tail_of o ts d us t vs) = frame.Tail o.from (flat_map yields ts) (only (yields t))
frame_of (mark_of kind e us) = frame.Mark kind e.from
frame_of (feature_of e plus us) = frame.Feature e.from plus
frame_of (chosen_of e plus us t vs) = frame.Chosen e.from (kept plus (yields t))

-- a builder with these frames and these whole data
abbrev pub builder : List Frame → List Datum → Builder
builder w done = record { frames = w; done = done }

-- what a builder has of whole trees and of constructs begun
abbrev pub builder_of : List Tree → List Opening → Builder
builder_of whole w = builder (map frame_of w) (flat_map yields whole)

-- the builder admits a datum where the grammar does
pub admits_same : (w : List Opening) → machine.admits (map frame_of w) ≡ admits w
admits_same [] = refl
admits_same (list_of kind o ts ∷ w) = refl
admits_same (dot_of o ts d us ∷ w) = refl
admits_same (tail_of o ts d us t vs ∷ w) = refl
admits_same (mark_of kind e us ∷ w) = refl
admits_same (feature_of e plus us ∷ w) = refl
admits_same (chosen_of e plus us t vs ∷ w) = rw (admits_same w) refl

-- the builder holds what the pieces are
pub record Holds (ps : List Piece) (b : Builder) : Type 0 where
  pub whole : List Tree
  pub w : List Opening
  pub begun : Begun ps whole w
  pub is : b ≡ builder_of whole w

-- a builder that holds pieces, from what it holds
holds_of : (ps : List Piece) (whole : List Tree) (w : List Opening) → ps ≡ flat_map tree_pieces whole ++ begun_pieces w → AllByRecursion (Fits 0) whole → AreBegun w → (b : Builder) → b ≡ builder_of whole w → Holds ps b
holds_of ps whole w e f g b is = record { whole = whole; w = w; begun = record { are = e; whole_fit = f; begun_fit = g }; is = is }

-- one datum or none goes into the construct around it
abbrev pub give : List Datum → List Frame → List Datum → Result Builder PlacedFault
give [] w done = Ok (builder w done)
give (d ∷ ds) w done = put d w done

-- what a builder has after a datum holds the pieces, or an expression out of form has ended
abbrev pub GivenBy : List Piece → (Place → Type 0) → Result Builder PlacedFault → Type 0
GivenBy ps W (Ok b) = Holds ps b
GivenBy ps W (Err x) = (x.0 ≡ BadToken) × W x.1

-- what is known of the place of an expression out of form may be weakened
given_weaker : (ps : List Piece) (W V : Place → Type 0) (r : Result Builder PlacedFault) → ((p : Place) → W p → V p) → GivenBy ps W r → GivenBy ps V r
given_weaker ps W V (Ok b) f h = h
given_weaker ps W V (Err x) f h = (h.0, f x.1 h.1)

-- the pieces are those of whole trees and of constructs begun, and then those of a tree
abbrev Behind : List Piece → List Tree → List Opening → Tree → Type 0
Behind ps whole w t = ps ≡ flat_map tree_pieces whole ++ (begun_pieces w ++ tree_pieces t)

-- the innermost construct takes the tree
deeper : (ps : List Piece) (whole : List Tree) (w : List Opening) (o p : Opening) (t : Tree) → Behind ps whole (o ∷ w) t → opening_pieces o ++ tree_pieces t ≡ opening_pieces p → ps ≡ flat_map tree_pieces whole ++ begun_pieces (p ∷ w)
deeper ps whole w o p t e f = e ∙ ap (λ (x : List Piece). flat_map tree_pieces whole ++ x) (append_assoc (begun_pieces w) (opening_pieces o) (tree_pieces t) ∙ ap (λ (x : List Piece). begun_pieces w ++ x) f)

-- the innermost construct ends with the tree
ends : (ps : List Piece) (whole : List Tree) (w : List Opening) (o : Opening) (t u : Tree) → Behind ps whole (o ∷ w) t → opening_pieces o ++ tree_pieces t ≡ tree_pieces u → Behind ps whole w u
ends ps whole w o t u e f = e ∙ ap (λ (x : List Piece). flat_map tree_pieces whole ++ x) (append_assoc (begun_pieces w) (opening_pieces o) (tree_pieces t) ∙ ap (λ (x : List Piece). begun_pieces w ++ x) f)

-- the data of trees with one tree more
done_push : (whole : List Tree) (t : Tree) (ds : List Datum) → yields t ≡ ds → flat_map yields whole ++ ds ≡ flat_map yields (whole ++ t ∷ [])
done_push whole t ds e = sym (flat_push yields whole t ∙ ap (λ (x : List Datum). flat_map yields whole ++ x) e)

-- whole trees with one tree more
whole_push : (ps : List Piece) (whole : List Tree) (t : Tree) → Behind ps whole [] t → ps ≡ flat_map tree_pieces (whole ++ t ∷ []) ++ []
whole_push ps whole t e = e ∙ sym (append-nil (flat_map tree_pieces (whole ++ t ∷ [])) ∙ flat_push tree_pieces whole t)

-- ---- a tree behind what is begun

-- a tree that stands for none
give_none : (w : List Opening) (t : Tree) (whole : List Tree) (ps : List Piece) → Fits (length w) t → yields t ≡ [] → AllByRecursion (Fits 0) whole → AreBegun w → Behind ps whole w t
    → Holds ps (builder (map frame_of w) (flat_map yields whole))
give_none [] t whole ps fits y all begun e =
    holds_of ps (whole ++ t ∷ []) [] (whole_push ps whole t e) (all_push (Fits 0) whole t all fits) tt _ (ap (builder []) (sym (append-nil (flat_map yields whole)) ∙ done_push whole t [] y))
give_none (list_of kind o ts ∷ w) t whole ps fits y all begun e =
    holds_of ps whole (list_of kind o (ts ++ t ∷ []) ∷ w) (deeper ps whole w (list_of kind o ts) (list_of kind o (ts ++ t ∷ [])) t e (inner_push _ ts t)) all
    ((begun.0.0, begun.0.1, all_push (Fits (suc (length w))) ts t begun.0.2 fits), begun.1) _
    (ap (λ (x : List Datum). builder (frame.List kind o.from x ∷ map frame_of w) (flat_map yields whole)) (sym (append-nil (flat_map yields ts)) ∙ done_push ts t [] y))
give_none (dot_of o ts d us ∷ w) t whole ps fits y all begun e =
    holds_of ps whole (dot_of o ts d (us ++ t ∷ []) ∷ w) (deeper ps whole w (dot_of o ts d us) (dot_of o ts d (us ++ t ∷ [])) t e (dot_push o d ts us t)) all
    ((begun.0.0, begun.0.1, begun.0.2, begun.0.3, none_push (suc (length w)) us t begun.0.4 fits y), begun.1) _ refl
give_none (tail_of o ts d us c vs ∷ w) t whole ps fits y all begun e =
    holds_of ps whole (tail_of o ts d us c (vs ++ t ∷ []) ∷ w) (deeper ps whole w (tail_of o ts d us c vs) (tail_of o ts d us c (vs ++ t ∷ [])) t e (tail_push o d ts us vs c t)) all
    ((begun.0.0, begun.0.1, begun.0.2, begun.0.3, begun.0.4, begun.0.5, begun.0.6, none_push (suc (length w)) vs t begun.0.7 fits y), begun.1) _ refl
give_none (mark_of kind q us ∷ w) t whole ps fits y all begun e =
    holds_of ps whole (mark_of kind q (us ++ t ∷ []) ∷ w) (deeper ps whole w (mark_of kind q us) (mark_of kind q (us ++ t ∷ [])) t e (inner_push _ us t)) all
    ((begun.0.0, begun.0.1, none_push (suc (length w)) us t begun.0.2 fits y), begun.1) _ refl
give_none (feature_of q plus us ∷ w) t whole ps fits y all begun e =
    holds_of ps whole (feature_of q plus (us ++ t ∷ []) ∷ w) (deeper ps whole w (feature_of q plus us) (feature_of q plus (us ++ t ∷ [])) t e (inner_push _ us t)) all
    ((begun.0.0, none_push (suc (length w)) us t begun.0.1 fits y), begun.1) _ refl
give_none (chosen_of q plus us c vs ∷ w) t whole ps fits y all begun e =
    holds_of ps whole (chosen_of q plus us c (vs ++ t ∷ []) ∷ w) (deeper ps whole w (chosen_of q plus us c vs) (chosen_of q plus us c (vs ++ t ∷ [])) t e (chosen_push q plus us vs c t)) all
    ((begun.0.0, begun.0.1, begun.0.2, begun.0.3, none_push (suc (length w)) vs t begun.0.4 fits y), begun.1) _ refl

-- the expression of a `#+` or `#-`
choose_holds : (q : Extent) (plus : Bool) (us : List Tree) (w : List Opening) (t : Tree) (whole : List Tree) (ps : List Piece) (d : Datum) → Fits (suc (length w)) t → yields t ≡ d ∷ [] → AllByRecursion (Fits 0) whole → AreBegun (feature_of q plus us ∷ w)
    → Behind ps whole (feature_of q plus us ∷ w) t → (h : Option Bool) → holds d ≡ h → GivenBy ps (λ p. (holds d ≡ None) × (p ≡ q.from)) (choose q.from plus h (map frame_of w) (flat_map yields whole))
choose_holds q plus us w t whole ps d fits y all begun e None h = (refl, (h, refl))
choose_holds q plus us w t whole ps d fits y all begun e (Some b) h =
    holds_of ps whole (chosen_of q plus us t [] ∷ w) (deeper ps whole w (feature_of q plus us) (chosen_of q plus us t []) t e (chosen_pieces q plus us t)) all
    ((begun.0.0, begun.0.1, fits, (d, b, y, h), (tt, refl)), begun.1) _
    (ap (λ (k : Bool). builder (frame.Chosen q.from k ∷ map frame_of w) (flat_map yields whole)) (sym (ap (kept plus) y ∙ ap (is_kept plus) h)))

-- the datum behind an expression
chosen_holds : (q : Extent) (k : Bool) (w : List Opening) (whole : List Tree) (ps : List Piece) (d : Datum) → (k ≡ true → GivenBy ps (λ p. EndsWrong d w p) (put d (map frame_of w) (flat_map yields whole))) → (k ≡ false → Holds ps (builder (map frame_of w) (flat_map yields whole)))
    → GivenBy ps (λ p. IsTrue k × EndsWrong d w p) (put d (frame.Chosen q.from k ∷ map frame_of w) (flat_map yields whole))
chosen_holds q true w whole ps d yes_it no_it = given_weaker ps (λ p. EndsWrong d w p) (λ p. IsTrue true × EndsWrong d w p) (put d (map frame_of w) (flat_map yields whole)) (λ p h. (refl, h)) (yes_it refl)
chosen_holds q false w whole ps d yes_it no_it = no_it refl

-- where a datum that is let through is admitted, it is admitted outside
admits_kept : (k can : Bool) → k ≡ true → cond k can true ≡ true → can ≡ true
admits_kept true can e h = h
admits_kept false can e h = absurd (let both : false ≡ true = e in cc)

-- a tree that stands for one datum
give_one : (w : List Opening) (t : Tree) (whole : List Tree) (ps : List Piece) (d : Datum) → Fits (length w) t → yields t ≡ d ∷ [] → admits w ≡ true → AllByRecursion (Fits 0) whole → AreBegun w → Behind ps whole w t
    → GivenBy ps (λ p. EndsWrong d w p) (put d (map frame_of w) (flat_map yields whole))
give_one [] t whole ps d fits y can all begun e =
    holds_of ps (whole ++ t ∷ []) [] (whole_push ps whole t e) (all_push (Fits 0) whole t all fits) tt _ (ap (builder []) (done_push whole t (d ∷ []) y))
give_one (list_of kind o ts ∷ w) t whole ps d fits y can all begun e =
    holds_of ps whole (list_of kind o (ts ++ t ∷ []) ∷ w) (deeper ps whole w (list_of kind o ts) (list_of kind o (ts ++ t ∷ [])) t e (inner_push _ ts t)) all
    ((begun.0.0, begun.0.1, all_push (Fits (suc (length w))) ts t begun.0.2 fits), begun.1) _
    (ap (λ (x : List Datum). builder (frame.List kind o.from x ∷ map frame_of w) (flat_map yields whole)) (done_push ts t (d ∷ []) y))
give_one (dot_of o ts q us ∷ w) t whole ps d fits y can all begun e =
    holds_of ps whole (tail_of o ts q us t [] ∷ w) (deeper ps whole w (dot_of o ts q us) (tail_of o ts q us t []) t e (tail_pieces o q ts us t)) all
    ((begun.0.0, begun.0.1, begun.0.2, begun.0.3, begun.0.4, fits, (d, y), (tt, refl)), begun.1) _
    (ap (λ (x : List Datum). builder (frame.Tail o.from (flat_map yields ts) (only x) ∷ map frame_of w) (flat_map yields whole)) (sym y))
give_one (tail_of o ts q us c vs ∷ w) t whole ps d fits y can all begun e = absurd (let both : false ≡ true = can in cc)
give_one (mark_of kind q us ∷ w) t whole ps d fits y can all begun e =
    give_one w (marked kind q (trees us) t) whole ps (made.mark_on kind q.from d)
    (begun.0.0, AllFit-trees (suc (length w)) us begun.0.2.0, no_data us begun.0.2.1, fits, (d, y)) (ap (map (made.mark_on kind q.from)) y) begun.0.1 all begun.1
    (ends ps whole w (mark_of kind q us) t (marked kind q (trees us) t) e (marked_pieces kind q us t))
give_one (feature_of q plus us ∷ w) t whole ps d fits y can all begun e = choose_holds q plus us w t whole ps d fits y all begun e (holds d) refl
give_one (chosen_of q plus us c vs ∷ w) t whole ps d fits y can all begun e =
    let u = feature q plus (trees us) c (trees vs) t in
    let fits_u : Fits (length w) u = (begun.0.0, AllFit-trees (suc (length w)) us begun.0.1.0, no_data us begun.0.1.1, begun.0.2, begun.0.3, AllFit-trees (suc (length w)) vs begun.0.4.0, no_data vs begun.0.4.1, fits, (d, y)) in
    let at : Behind ps whole w u = ends ps whole w (chosen_of q plus us c vs) t u e (feature_pieces q plus us vs c t) in
    chosen_holds q (kept plus (yields c)) w whole ps d
    (λ k. give_one w u whole ps d fits_u (rw (k, y) refl) (admits_kept (kept plus (yields c)) (admits w) k can) all begun.1 at)
    (λ k. give_none w u whole ps fits_u (rw k refl) all begun.1 at)

-- ---- a step keeps to the grammar

-- what a builder has after a step holds one piece more, or the token is refused
abbrev pub Stepped : List Piece → Extent → Token → List Opening → Result Builder PlacedFault → Type 0
Stepped ps e t w (Ok b) = Holds (ps ++ piece t e) b
Stepped ps e t w (Err x) = Refused t e w x.0 x.1

-- a datum that a token ends, as a step
given_stepped : (ps : List Piece) (e : Extent) (t : Token) (w : List Opening) (W : Place → Type 0) (r : Result Builder PlacedFault) → GivenBy (ps ++ piece t e) W r → ((k : FaultKind) (p : Place) → k ≡ BadToken → W p → Refused t e w k p) → Stepped ps e t w r
given_stepped ps e t w W (Ok b) h f = h
given_stepped ps e t w W (Err x) h f = f x.0 x.1 h.0 h.1

-- what a tree of one piece stands behind
behind : (ps : List Piece) (whole : List Tree) (w : List Opening) (t : Tree) → ps ≡ flat_map tree_pieces whole ++ begun_pieces w → Behind (ps ++ tree_pieces t) whole w t
behind ps whole w t e = ap (λ (x : List Piece). x ++ tree_pieces t) e ∙ append_assoc (flat_map tree_pieces whole) (begun_pieces w) (tree_pieces t)

-- a construct begins
begin_holds : (o : Opening) (t : Token) (e : Extent) (ps : List Piece) (whole : List Tree) (w : List Opening) → opening_pieces o ≡ piece t e → (length w < 256 → OpeningFits w o)
    → ((k : FaultKind) (p : Place) → TooMany e w k p → Refused t e w k p) → Begun ps whole w → Stepped ps e t w (begin e.from (frame_of o) (builder_of whole w))
begin_holds o t e ps whole w at fits refused b =
    cond_both (ltb (length (map frame_of w)) 256) _ _ (Stepped ps e t w)
    (λ lt. holds_of (ps ++ piece t e) whole (o ∷ w) (ap (λ (x : List Piece). x ++ piece t e) b.are ∙ append_assoc (flat_map tree_pieces whole) (begun_pieces w) (piece t e) ∙ ap (λ (x : List Piece). flat_map tree_pieces whole ++ (begun_pieces w ++ x)) (sym at))
    b.whole_fit (fits (omega (arith, ltb-true _ _ lt, length-map w frame_of)), b.begun_fit) (builder (frame_of o ∷ map frame_of w) (flat_map yields whole)) refl)
    (λ ge. refused TooDeep e.from (omega (arith, ltb-false _ _ ge, length-map w frame_of), refl, refl))

-- a construct that is a datum begins
begin_datum_holds : (o : Opening) (t : Token) (e : Extent) (ps : List Piece) (whole : List Tree) (w : List Opening) → opening_pieces o ≡ piece t e → (length w < 256 → admits w ≡ true → OpeningFits w o)
    → ((k : FaultKind) (p : Place) → Second e w k p ⊎ TooDeepDatum e w k p → Refused t e w k p) → Begun ps whole w → Stepped ps e t w (begin_datum e.from (frame_of o) (builder_of whole w))
begin_datum_holds o t e ps whole w at fits refused b =
    cond_both (machine.admits (map frame_of w)) _ _ (Stepped ps e t w)
    (λ yes. let can : admits w ≡ true = sym (admits_same w) ∙ yes in begin_holds o t e ps whole w at (λ lt. fits lt can) (λ k p h. refused k p (inr (can, h))) b)
    (λ no. refused BadDot e.from (inl (sym (admits_same w) ∙ no, refl, refl)))

-- where a datum that is let through is not admitted, it is let through and not admitted outside
refused_kept : (k can : Bool) → cond k can true ≡ false → (k ≡ true) × (can ≡ false)
refused_kept true can e = (refl, e)
refused_kept false can e = absurd (false≢true (sym e))

-- a second datum behind a dot is refused where it begins
pub second_put : (d : Datum) (w : List Opening) (done : List Datum) → admits w ≡ false → put d (map frame_of w) done ≡ Err (BadDot, made.start_of d)
second_put d [] done e = absurd (false≢true (sym e))
second_put d (list_of kind o ts ∷ w) done e = absurd (false≢true (sym e))
second_put d (dot_of o ts q us ∷ w) done e = absurd (false≢true (sym e))
second_put d (tail_of o ts q us t vs ∷ w) done e = refl
second_put d (mark_of kind q us ∷ w) done e = absurd (false≢true (sym e))
second_put d (feature_of q plus us ∷ w) done e = absurd (false≢true (sym e))
second_put d (chosen_of q plus us t vs ∷ w) done e =
    let h = refused_kept (kept plus (yields t)) (admits w) e in rw h.0 (second_put d w done h.1)

-- a datum of one token, by whether it is admitted
atom_holds : (form : Form) (e : Extent) (ps : List Piece) (whole : List Tree) (w : List Opening) → Begun ps whole w → (can : Bool) → admits w ≡ can
    → Stepped ps e (token.Atom form) w (put (made.datum e.from e.to.byte form) (map frame_of w) (flat_map yields whole))
atom_holds form e ps whole w b true can =
    let d = made.datum e.from e.to.byte form in
    given_stepped ps e (token.Atom form) w (λ p. EndsWrong d w p) _
    (give_one w (atom e form) whole (ps ++ piece (token.Atom form) e) d tt refl can b.whole_fit b.begun_fit (behind ps whole w (atom e form) b.are)) (λ k p is wrong. inr (is, wrong))
atom_holds form e ps whole w b false can = rw (second_put (made.datum e.from e.to.byte form) w (flat_map yields whole) can) (inl (can, refl, refl))

-- a closing bracket behind what is begun
closed : (ps : List Piece) (whole : List Tree) (w : List Opening) (o : Opening) (u : Tree) (e : Extent) → ps ≡ flat_map tree_pieces whole ++ begun_pieces (o ∷ w) → opening_pieces o ++ piece token.Close e ≡ tree_pieces u → Behind (ps ++ piece token.Close e) whole w u
closed ps whole w o u e are f =
    ap (λ (x : List Piece). x ++ piece token.Close e) are ∙ append_assoc (flat_map tree_pieces whole) (begun_pieces (o ∷ w)) (piece token.Close e)
    ∙ ap (λ (x : List Piece). flat_map tree_pieces whole ++ x) (append_assoc (begun_pieces w) (opening_pieces o) (piece token.Close e) ∙ ap (λ (x : List Piece). begun_pieces w ++ x) f)

-- a closing bracket ends a list or vector
close_list : (kind : Bracket) (o : Extent) (ts : List Tree) (e : Extent) (ps : List Piece) (whole : List Tree) (w : List Opening) → Begun ps whole (list_of kind o ts ∷ w)
    → Stepped ps e token.Close (list_of kind o ts ∷ w) (put (made.list kind o.from e.to (flat_map yields ts)) (map frame_of w) (flat_map yields whole))
close_list kind o ts e ps whole w b =
    let t = list kind o (trees ts) e in
    let d = made.list kind o.from e.to (flat_map yields ts) in
    let fit = b.begun_fit.0 in
    given_stepped ps e token.Close (list_of kind o ts ∷ w) (λ p. EndsWrong d w p) (put d (map frame_of w) (flat_map yields whole))
    (give_one w t whole (ps ++ piece token.Close e) d (fit.0, AllFit-trees (suc (length w)) ts fit.2) (ap (λ (x : List Datum). made.list kind o.from e.to x ∷ []) (data_of-trees ts)) fit.1
    b.whole_fit b.begun_fit.1 (closed ps whole w (list_of kind o ts) t e b.are (list_pieces kind o e ts)))
    (λ k p is wrong. (is, wrong))

-- a closing bracket ends a list with a dot
close_dotted : (o : Extent) (ts : List Tree) (d : Extent) (us : List Tree) (t : Tree) (vs : List Tree) (e : Extent) (ps : List Piece) (whole : List Tree) (w : List Opening) → Begun ps whole (tail_of o ts d us t vs ∷ w)
    → (x : Datum) → yields t ≡ x ∷ [] → Stepped ps e token.Close (tail_of o ts d us t vs ∷ w) (put (made.dotted_list o.from e.to (flat_map yields ts) x) (map frame_of w) (flat_map yields whole))
close_dotted o ts d us t vs e ps whole w b x y =
    let n = suc (length w) in
    let u = dotted o (trees ts) d (trees us) t (trees vs) e in
    let made_of = made.dotted_list o.from e.to (flat_map yields ts) x in
    let fit = b.begun_fit.0 in
    let fits_u : Fits (length w) u = (fit.0, AllFit-trees n ts fit.2, some_data ts fit.3, AllFit-trees n us fit.4.0, no_data us fit.4.1, fit.5, fit.6, AllFit-trees n vs fit.7.0, no_data vs fit.7.1) in
    given_stepped ps e token.Close (tail_of o ts d us t vs ∷ w) (λ p. EndsWrong made_of w p) (put made_of (map frame_of w) (flat_map yields whole))
    (give_one w u whole (ps ++ piece token.Close e) made_of fits_u (rw (y, data_of-trees ts) refl) fit.1 b.whole_fit b.begun_fit.1 (closed ps whole w (tail_of o ts d us t vs) u e b.are (dotted_pieces o d e ts us vs t)))
    (λ k p is wrong. (x, y, (is, wrong)))

-- a closing bracket
close_holds : (e : Extent) (ps : List Piece) (whole : List Tree) (w : List Opening) → Begun ps whole w → Stepped ps e token.Close w (close e.from e.to (map frame_of w) (flat_map yields whole))
close_holds e ps whole [] b = (refl, refl)
close_holds e ps whole (list_of kind o ts ∷ w) b = close_list kind o ts e ps whole w b
close_holds e ps whole (dot_of o ts d us ∷ w) b = (refl, refl)
close_holds e ps whole (tail_of o ts d us t vs ∷ w) b =
    let one = b.begun_fit.0.6 in
    rw (ap only one.1) (close_dotted o ts d us t vs e ps whole w b one.0 one.1)
close_holds e ps whole (mark_of kind q us ∷ w) b = (refl, refl)
close_holds e ps whole (feature_of q plus us ∷ w) b = (refl, refl)
close_holds e ps whole (chosen_of q plus us t vs ∷ w) b = (refl, refl)

-- where a dot may stand data come before it
dot_some : (ds : List Datum) → made.takes_dot bracket.Round ds ≡ true → ds ≢ []
dot_some [] e n = let both : false ≡ true = e in cc
dot_some (d ∷ ds) e n = cc

-- the pieces of a list with a dot
dotted_at : (ps : List Piece) (whole : List Tree) (w : List Opening) (o : Extent) (ts : List Tree) (e : Extent) → ps ≡ flat_map tree_pieces whole ++ begun_pieces (list_of bracket.Round o ts ∷ w)
    → ps ++ piece token.Dot e ≡ flat_map tree_pieces whole ++ begun_pieces (dot_of o ts e [] ∷ w)
dotted_at ps whole w o ts e are = ap (λ (x : List Piece). x ++ piece token.Dot e) are ∙ simp append_assoc

-- a dot in a list
dot_list : (kind : Bracket) (o : Extent) (ts : List Tree) (e : Extent) (ps : List Piece) (whole : List Tree) (w : List Opening) → Begun ps whole (list_of kind o ts ∷ w)
    → Stepped ps e token.Dot (list_of kind o ts ∷ w) (dot e.from (map frame_of (list_of kind o ts ∷ w)) (flat_map yields whole))
dot_list bracket.Round o ts e ps whole w b =
    cond_both (made.takes_dot bracket.Round (flat_map yields ts)) _ _ (Stepped ps e token.Dot (list_of bracket.Round o ts ∷ w))
    (λ some. holds_of (ps ++ piece token.Dot e) whole (dot_of o ts e [] ∷ w) (dotted_at ps whole w o ts e b.are) b.whole_fit
    ((b.begun_fit.0.0, b.begun_fit.0.1, b.begun_fit.0.2, dot_some (flat_map yields ts) some, (tt, refl)), b.begun_fit.1) (builder (frame.Dot o.from (flat_map yields ts) ∷ map frame_of w) (flat_map yields whole)) refl)
    (λ no. (no, (refl, refl)))
dot_list bracket.Vector o ts e ps whole w b = (refl, (refl, refl))
dot_list bracket.Odd o ts e ps whole w b = (refl, (refl, refl))

-- a dot
dot_holds : (e : Extent) (ps : List Piece) (whole : List Tree) (w : List Opening) → Begun ps whole w → Stepped ps e token.Dot w (dot e.from (map frame_of w) (flat_map yields whole))
dot_holds e ps whole [] b = (refl, refl)
dot_holds e ps whole (list_of kind o ts ∷ w) b = dot_list kind o ts e ps whole w b
dot_holds e ps whole (dot_of o ts d us ∷ w) b = (refl, refl)
dot_holds e ps whole (tail_of o ts d us t vs ∷ w) b = (refl, refl)
dot_holds e ps whole (mark_of kind q us ∷ w) b = (refl, refl)
dot_holds e ps whole (feature_of q plus us ∷ w) b = (refl, refl)
dot_holds e ps whole (chosen_of q plus us t vs ∷ w) b = (refl, refl)

-- a step from what holds the pieces holds one more, or the grammar refuses the token
pub step_holds : (t : Token) (e : Extent) (ps : List Piece) (whole : List Tree) (w : List Opening) → Begun ps whole w → Stepped ps e t w (step e.from e.to t (builder_of whole w))
step_holds token.Gap e ps whole w b = holds_of (ps ++ []) whole w (append-nil ps ∙ b.are) b.whole_fit b.begun_fit (builder_of whole w) refl
step_holds (token.Open kind) e ps whole w b = begin_datum_holds (list_of kind e []) (token.Open kind) e ps whole w refl (λ lt can. (lt, can, tt)) (λ k p h. h) b
step_holds token.Close e ps whole w b = close_holds e ps whole w b
step_holds token.Dot e ps whole w b = dot_holds e ps whole w b
step_holds (token.Mark kind) e ps whole w b = begin_datum_holds (mark_of kind e []) (token.Mark kind) e ps whole w refl (λ lt can. (lt, can, (tt, refl))) (λ k p h. h) b
step_holds (token.Feature plus) e ps whole w b = begin_holds (feature_of e plus []) (token.Feature plus) e ps whole w refl (λ lt. (lt, (tt, refl))) (λ k p h. h) b
step_holds (token.Atom form) e ps whole w b = atom_holds form e ps whole w b (admits w) refl
step_holds (token.Bad kind) e ps whole w b = (refl, refl)
