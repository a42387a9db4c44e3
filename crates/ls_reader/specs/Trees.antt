-- Concrete syntax trees: data as they are written, and the constructs that are begun and not ended.
use Rattle.std.specs.Prelude.{ℕ, suc, ◌≡◌, ◌≢◌, ◌<◌, Bool, true, false, if◌then◌else◌, List, [], ◌∷◌, ◌++◌, map, length, Some}
use Rattle.std.specs.List.{flat_map, AllByRecursion}
use Rattle.ls_reader.specs.declared.place.Place.{Place}
use Rattle.ls_reader.specs.declared.datum.Datum.{Datum}
use Rattle.ls_reader.specs.declared.datum.Form.{Form}
use Rattle.ls_reader.specs.declared.token.Token.TheVariants as token
use Rattle.ls_reader.specs.declared.token.Bracket.{Bracket}
use Rattle.ls_reader.specs.declared.token.Bracket.TheVariants as bracket
use Rattle.ls_reader.specs.declared.token.Mark.{Mark}
use Rattle.ls_reader.specs.Lexemes.{Extent, Piece, piece}
use Rattle.ls_reader.specs.Data as made
use Rattle.ls_reader.specs.Features.{holds, is_kept}

-- A datum as it is written, or what stands for none: a `#+` or `#-` whose datum is skipped. "Trees for none" are trees
-- of which each stands for none.
mutual
  pub data Tree : Type 0 where
    -- a datum that is one token
    atom : Extent → Form → Tree
    -- brackets, with what stands between them (2.4.1, 2.4.8.3)
    list : Bracket → Extent → Trees → Extent → Tree
    -- a list with what stands before its dot, the dot, trees for none, the last datum, and trees for none (2.4.1)
    dotted : Extent → Trees → Extent → Trees → Tree → Trees → Extent → Tree
    -- a mark, trees for none, and the datum of the mark (2.4.3, 2.4.6, 2.4.7, 2.4.8)
    marked : Mark → Extent → Trees → Tree → Tree
    -- a `#+`, or a `#-` where it is false, trees for none, its expression, trees for none, and the datum that it
    -- skips or not (2.4.8.17, 2.4.8.18)
    feature : Extent → Bool → Trees → Tree → Trees → Tree → Tree

  pub data Trees : Type 0 where
    none : Trees
    more : Tree → Trees → Trees

-- the trees of a list
abbrev pub trees : List Tree → Trees
trees [] = none
trees (t ∷ ts) = more t (trees ts)

-- the pieces that a tree is written with
abbrev mutual
  pub tree_pieces : Tree → List Piece
  tree_pieces (atom e form) = piece (token.Atom form) e
  tree_pieces (list kind o ts c) = piece (token.Open kind) o ++ (trees_pieces ts ++ piece token.Close c)
  tree_pieces (dotted o ts d us t vs c) =
      piece (token.Open bracket.Round) o ++ (trees_pieces ts
      ++ (piece token.Dot d ++ (trees_pieces us ++ (tree_pieces t ++ (trees_pieces vs ++ piece token.Close c)))))
  tree_pieces (marked kind e us t) = piece (token.Mark kind) e ++ (trees_pieces us ++ tree_pieces t)
  tree_pieces (feature e plus us t vs x) = piece (token.Feature plus) e
      ++ (trees_pieces us ++ (tree_pieces t ++ (trees_pieces vs ++ tree_pieces x)))

  pub trees_pieces : Trees → List Piece
  trees_pieces none = []
  trees_pieces (more t ts) = tree_pieces t ++ trees_pieces ts

-- whether the datum behind an expression is there
abbrev pub kept : Bool → List Datum → Bool
kept plus [] = false
kept plus (d ∷ ds) = is_kept plus (holds d)

-- the datum that a tree stands for, or none
abbrev mutual
  pub yields : Tree → List Datum
  yields (atom e form) = made.datum e.from e.to.byte form ∷ []
  yields (list kind o ts c) = made.list kind o.from c.to (data_of ts) ∷ []
  yields (dotted o ts d us t vs c) = map (made.dotted_list o.from c.to (data_of ts)) (yields t)
  yields (marked kind e us t) = map (made.mark_on kind e.from) (yields t)
  yields (feature e plus us t vs x) = if kept plus (yields t) then yields x else []

  pub data_of : Trees → List Datum
  data_of none = []
  data_of (more t ts) = yields t ++ data_of ts

-- one datum
abbrev pub IsOne : List Datum → Type 0
IsOne ds = (d : Datum) × (ds ≡ d ∷ [])

-- one datum, which is a feature expression in form (24.1.2.1)
abbrev pub IsExpression : List Datum → Type 0
IsExpression ds = (d : Datum) × (b : Bool) × (ds ≡ d ∷ []) × (holds d ≡ Some b)

-- A tree that stands in n constructs is in form: no construct is deeper than 256, data stand before a dot and one
-- behind it, each mark has its datum, and each `#+` and `#-` its expression and its datum.
abbrev mutual
  pub Fits : ℕ → Tree → Type 0
  Fits n (atom e form) = Unit {0}
  Fits n (list kind o ts c) = (n < 256) × AllFit (suc n) ts
  Fits n (dotted o ts d us t vs c) =
      (n < 256) × AllFit (suc n) ts × (data_of ts ≢ []) × AllFit (suc n) us × (data_of us ≡ [])
      × Fits (suc n) t × IsOne (yields t) × AllFit (suc n) vs × (data_of vs ≡ [])
  Fits n (marked kind e us t) = (n < 256) × AllFit (suc n) us × (data_of us ≡ []) × Fits (suc n) t × IsOne (yields t)
  Fits n (feature e plus us t vs x) =
      (n < 256) × AllFit (suc n) us × (data_of us ≡ []) × Fits (suc n) t × IsExpression (yields t)
      × AllFit (suc n) vs × (data_of vs ≡ []) × Fits (suc n) x × IsOne (yields x)

  pub AllFit : ℕ → Trees → Type 0
  AllFit n none = Unit {0}
  AllFit n (more t ts) = Fits n t × AllFit n ts

-- A construct that is begun and not ended, with the whole trees in it so far.
pub data Opening : Type 0 where
  -- brackets, with what stands behind the opening one
  list_of : Bracket → Extent → List Tree → Opening
  -- a list with what stands before its dot, the dot, and trees for none
  dot_of : Extent → List Tree → Extent → List Tree → Opening
  -- the same with the datum behind the dot, and trees for none
  tail_of : Extent → List Tree → Extent → List Tree → Tree → List Tree → Opening
  -- a mark, and trees for none
  mark_of : Mark → Extent → List Tree → Opening
  -- a `#+` or `#-`, and trees for none
  feature_of : Extent → Bool → List Tree → Opening
  -- the same with the expression, and trees for none
  chosen_of : Extent → Bool → List Tree → Tree → List Tree → Opening

-- where a construct begins
abbrev pub opening_start : Opening → Place
opening_start (list_of kind o ts) = o.from
opening_start (dot_of o ts d us) = o.from
opening_start (tail_of o ts d us t vs) = o.from
opening_start (mark_of kind e us) = e.from
opening_start (feature_of e plus us) = e.from
opening_start (chosen_of e plus us t vs) = e.from

-- the pieces of a construct so far
abbrev pub opening_pieces : Opening → List Piece
opening_pieces (list_of kind o ts) = piece (token.Open kind) o ++ flat_map tree_pieces ts
opening_pieces (dot_of o ts d us) = piece (token.Open bracket.Round) o
    ++ (flat_map tree_pieces ts ++ (piece token.Dot d ++ flat_map tree_pieces us))
opening_pieces (tail_of o ts d us t vs) =
    piece (token.Open bracket.Round) o ++ (flat_map tree_pieces ts
    ++ (piece token.Dot d ++ (flat_map tree_pieces us ++ (tree_pieces t ++ flat_map tree_pieces vs))))
opening_pieces (mark_of kind e us) = piece (token.Mark kind) e ++ flat_map tree_pieces us
opening_pieces (feature_of e plus us) = piece (token.Feature plus) e ++ flat_map tree_pieces us
opening_pieces (chosen_of e plus us t vs) = piece (token.Feature plus) e
    ++ (flat_map tree_pieces us ++ (tree_pieces t ++ flat_map tree_pieces vs))

-- the pieces of the constructs begun, of which the innermost comes first
abbrev pub begun_pieces : List Opening → List Piece
begun_pieces [] = []
begun_pieces (o ∷ w) = begun_pieces w ++ opening_pieces o

-- Whether a datum may begin where these constructs are begun: not as a second one behind a dot. A datum that a `#+` or
-- `#-` lets through stands where that stands.
abbrev pub admits : List Opening → Bool
admits [] = true
admits (list_of kind o ts ∷ w) = true
admits (dot_of o ts d us ∷ w) = true
admits (tail_of o ts d us t vs ∷ w) = false
admits (mark_of kind e us ∷ w) = true
admits (feature_of e plus us ∷ w) = true
admits (chosen_of e plus us t vs ∷ w) = if kept plus (yields t) then admits w else true

-- trees that stand for none, in n constructs
abbrev pub StandForNone : ℕ → List Tree → Type 0
StandForNone n us = AllByRecursion (Fits n) us × (flat_map yields us ≡ [])

-- a construct that stands in others is in form so far
abbrev pub OpeningFits : List Opening → Opening → Type 0
OpeningFits w (list_of kind o ts) = (length w < 256) × (admits w ≡ true) × AllByRecursion (Fits (suc (length w))) ts
OpeningFits w (dot_of o ts d us) = (length w < 256) × (admits w ≡ true) × AllByRecursion (Fits (suc (length w))) ts
    × (flat_map yields ts ≢ []) × StandForNone (suc (length w)) us
OpeningFits w (tail_of o ts d us t vs) = (length w < 256) × (admits w ≡ true)
    × AllByRecursion (Fits (suc (length w))) ts × (flat_map yields ts ≢ []) × StandForNone (suc (length w)) us
    × Fits (suc (length w)) t × IsOne (yields t) × StandForNone (suc (length w)) vs
OpeningFits w (mark_of kind e us) = (length w < 256) × (admits w ≡ true) × StandForNone (suc (length w)) us
OpeningFits w (feature_of e plus us) = (length w < 256) × StandForNone (suc (length w)) us
OpeningFits w (chosen_of e plus us t vs) = (length w < 256) × StandForNone (suc (length w)) us
    × Fits (suc (length w)) t × IsExpression (yields t) × StandForNone (suc (length w)) vs

-- all constructs begun are in form so far
abbrev pub AreBegun : List Opening → Type 0
AreBegun [] = Unit {0}
AreBegun (o ∷ w) = OpeningFits w o × AreBegun w

-- the pieces are whole trees and constructs begun and not ended, the innermost first
pub record Begun (ps : List Piece) (whole : List Tree) (w : List Opening) : Type 0 where
  pub are : ps ≡ flat_map tree_pieces whole ++ begun_pieces w
  pub whole_fit : AllByRecursion (Fits 0) whole
  pub begun_fit : AreBegun w
