-- Lists of trees, and the pieces of constructs with one tree more.
use Rattle.std.proofs.Common.{◌≡◌, ◌≢◌, ℕ, Bool, List, [], ◌∷◌, ◌++◌, refl, sym, ap, ◌∙◌, append_assoc}
use Rattle.std.specs.List.{flat_map, AllByRecursion}
use Rattle.std.proofs.lemmas.List.{append-nil}
use Rattle.std.proofs.lemmas.List.Concat.{flat_map-append}
use Rattle.ls_reader.specs.declared.datum.Datum.{Datum}
use Rattle.ls_reader.specs.declared.token.Bracket.{Bracket}
use Rattle.ls_reader.specs.declared.token.Mark.{Mark}
use Rattle.ls_reader.specs.declared.token.Token.TheVariants as token
use Rattle.ls_reader.specs.Lexemes.{Extent, Piece, piece}
use Rattle.ls_reader.specs.Trees.{Tree, list, dotted, marked, feature, trees, tree_pieces, trees_pieces, yields, data_of, Fits, AllFit, list_of, dot_of, tail_of, mark_of, feature_of, chosen_of, opening_pieces, StandForNone}

-- ---- lists of trees

-- trees are written as the list of them is
pub trees_pieces-trees : (ts : List Tree) → trees_pieces (trees ts) ≡ flat_map tree_pieces ts
trees_pieces-trees [] = refl
trees_pieces-trees (t ∷ ts) = ap (λ (x : List Piece). tree_pieces t ++ x) (trees_pieces-trees ts)

-- trees stand for what the list of them does
pub data_of-trees : (ts : List Tree) → data_of (trees ts) ≡ flat_map yields ts
data_of-trees [] = refl
data_of-trees (t ∷ ts) = ap (λ (x : List Datum). yields t ++ x) (data_of-trees ts)

-- trees are in form if each of the list is
pub AllFit-trees : (n : ℕ) (ts : List Tree) → AllByRecursion (Fits n) ts → AllFit n (trees ts)
AllFit-trees n [] h = tt
AllFit-trees n (t ∷ ts) h = (h.0, AllFit-trees n ts h.1)

-- what holds of each holds with one more
pub all_push : (P : Tree → Type 0) (ts : List Tree) (t : Tree) → AllByRecursion P ts → P t → AllByRecursion P (ts ++ t ∷ [])
all_push P [] t h p = (p, tt)
all_push P (s ∷ ts) t h p = (h.0, all_push P ts t h.1 p)

-- what each gives is joined with what one more gives
pub flat_push : {A : Type 0} (f : Tree → List A) (ts : List Tree) (t : Tree) → flat_map f (ts ++ t ∷ []) ≡ flat_map f ts ++ f t
flat_push f ts t = flat_map-append f ts (t ∷ []) ∙ ap (λ x. flat_map f ts ++ x) (append-nil (f t))

-- trees that stand for none, as a list and not
pub no_data : (us : List Tree) → flat_map yields us ≡ [] → data_of (trees us) ≡ []
no_data us e = data_of-trees us ∙ e

-- trees that stand for some, as a list and not
pub some_data : (us : List Tree) → flat_map yields us ≢ [] → data_of (trees us) ≢ []
some_data us n e = n (sym (data_of-trees us) ∙ e)

-- what stands for none, and one more of that
pub none_push : (n : ℕ) (us : List Tree) (t : Tree) → StandForNone n us → Fits n t → yields t ≡ [] → StandForNone n (us ++ t ∷ [])
none_push n us t h fits f = (all_push (Fits n) us t h.0 fits, flat_push yields us t ∙ ap (λ (x : List Datum). x ++ yields t) h.1 ∙ f)

-- ---- the pieces of a construct with one tree more

-- a list, vector, mark or feature with one tree more
pub inner_push : (m : Piece) (us : List Tree) (t : Tree) → (m ∷ flat_map tree_pieces us) ++ tree_pieces t ≡ m ∷ flat_map tree_pieces (us ++ t ∷ [])
inner_push m us t = ap (λ (x : List Piece). m ∷ x) (sym (flat_push tree_pieces us t))

-- a list with its dot and one tree more that stands for none
pub dot_push : (o d : Extent) (ts us : List Tree) (x : Tree) → opening_pieces (dot_of o ts d us) ++ tree_pieces x ≡ opening_pieces (dot_of o ts d (us ++ x ∷ []))
dot_push o d ts us x = rw (flat_push tree_pieces us x) (simp append_assoc)

-- a list with the datum behind its dot and one tree more that stands for none
pub tail_push : (o d : Extent) (ts us vs : List Tree) (t x : Tree) → opening_pieces (tail_of o ts d us t vs) ++ tree_pieces x ≡ opening_pieces (tail_of o ts d us t (vs ++ x ∷ []))
tail_push o d ts us vs t x = rw (flat_push tree_pieces vs x) (simp append_assoc)

-- an expression with one tree more behind it that stands for none
pub chosen_push : (e : Extent) (plus : Bool) (us vs : List Tree) (t x : Tree) → opening_pieces (chosen_of e plus us t vs) ++ tree_pieces x ≡ opening_pieces (chosen_of e plus us t (vs ++ x ∷ []))
chosen_push e plus us vs t x = rw (flat_push tree_pieces vs x) (simp append_assoc)

-- the datum behind a dot
pub tail_pieces : (o d : Extent) (ts us : List Tree) (t : Tree) → opening_pieces (dot_of o ts d us) ++ tree_pieces t ≡ opening_pieces (tail_of o ts d us t [])
tail_pieces o d ts us t = rw (append-nil (tree_pieces t)) (simp append_assoc)

-- a feature with its expression
pub chosen_pieces : (e : Extent) (plus : Bool) (us : List Tree) (t : Tree) → opening_pieces (feature_of e plus us) ++ tree_pieces t ≡ opening_pieces (chosen_of e plus us t [])
chosen_pieces e plus us t = ap (λ (y : List Piece). piece (token.Feature plus) e ++ (flat_map tree_pieces us ++ y)) (sym (append-nil (tree_pieces t)))

-- a mark with its datum
pub marked_pieces : (kind : Mark) (e : Extent) (us : List Tree) (t : Tree) → opening_pieces (mark_of kind e us) ++ tree_pieces t ≡ tree_pieces (marked kind e (trees us) t)
marked_pieces kind e us t = ap (λ (x : List Piece). piece (token.Mark kind) e ++ (x ++ tree_pieces t)) (sym (trees_pieces-trees us))

-- an expression with its datum
pub feature_pieces : (e : Extent) (plus : Bool) (us vs : List Tree) (t x : Tree) → opening_pieces (chosen_of e plus us t vs) ++ tree_pieces x ≡ tree_pieces (feature e plus (trees us) t (trees vs) x)
feature_pieces e plus us vs t x = ap (λ (y : List Piece). piece (token.Feature plus) e ++ y) (rw (trees_pieces-trees us, trees_pieces-trees vs) (simp append_assoc))

-- a list or vector with its closing bracket
pub list_pieces : (kind : Bracket) (o c : Extent) (ts : List Tree) → opening_pieces (list_of kind o ts) ++ piece token.Close c ≡ tree_pieces (list kind o (trees ts) c)
list_pieces kind o c ts = ap (λ (x : List Piece). piece (token.Open kind) o ++ (x ++ piece token.Close c)) (sym (trees_pieces-trees ts))

-- a list with a dot, with its closing bracket
pub dotted_pieces : (o d c : Extent) (ts us vs : List Tree) (t : Tree) → opening_pieces (tail_of o ts d us t vs) ++ piece token.Close c ≡ tree_pieces (dotted o (trees ts) d (trees us) t (trees vs) c)
dotted_pieces o d c ts us vs t = rw (trees_pieces-trees ts, trees_pieces-trees us, trees_pieces-trees vs) (simp append_assoc)
