-- Characters that are read as data of given shapes, wherever they begin: one datum after the other.
use Rattle.std.proofs.Common.{ℕ, suc, ◌≡◌, ◌<◌, true, List, [], ◌∷◌, ◌++◌, map, codes, refl, sym, ap, subst, ◌∙◌, append_assoc}
use Rattle.std.specs.List.{flat_map, AllByRecursion}
use Rattle.std.proofs.lemmas.List.{append-nil}
use Rattle.ls_reader.specs.declared.datum.Datum.{Datum}
use Rattle.ls_reader.specs.declared.datum.Form.{Form, out-roll-Form}
use Rattle.ls_reader.specs.Characters.{is_blank}
use Rattle.ls_reader.specs.Data as made
use Rattle.ls_reader.specs.Lexemes.{Ends, IsLexeme, Lexeme, Lexed, Extent, Piece, piece, pieces, text_of, blanks, macro_char}
use Rattle.ls_reader.specs.Places.{after_all}
use Rattle.ls_reader.specs.Trees.{Tree, atom, list, marked, none, trees, tree_pieces, trees_pieces, yields, data_of, Fits}
use Rattle.ls_reader.proofs.TreeLemmas.{trees_pieces-trees, data_of-trees, AllFit-trees}
use Rattle.ls_reader.proofs.TurnLemmas.{after_all-append}
use Rattle.ls_gen.specs.Shapes.{AreOf, IsListOf, IsQuoted, IsName}
use Rattle.ls_gen.proofs.ReaderNames.{Place, Token, gap, open_bracket, close_bracket, quote_mark, round, quote}

-- a tree stands for one datum of a shape
abbrev pub IsTree : (Datum → Type 0) → Tree → Type 0
IsTree Is t = (d : Datum) × (yields t ≡ d ∷ []) × Is d

-- each tree stands for one datum of the shape beside it
abbrev pub AreTrees : List (Datum → Type 0) → List Tree → Type 0
AreTrees [] [] = Unit {0}
AreTrees (Is ∷ shapes) (t ∷ ts) = IsTree Is t × AreTrees shapes ts
AreTrees _ _ = ⊥

-- From a place on, in n constructs, the characters up to the rest are whole trees for data of these shapes.
pub record Found (n : ℕ) (p : Place) (cs rest : List ℕ) (shapes : List (Datum → Type 0)) : Type 0 where
  pub lexemes : List Lexeme
  pub lexed : Lexed cs lexemes rest
  pub whole : List Tree
  pub are : pieces p lexemes ≡ flat_map tree_pieces whole
  pub fit : AllByRecursion (Fits n) whole
  pub shaped : AreTrees shapes whole

-- the same wherever the characters begin
abbrev pub AreRead : ℕ → List ℕ → List ℕ → List (Datum → Type 0) → Type 0
AreRead n cs rest shapes = (p : Place) → Found n p cs rest shapes

-- ---- lexemes and trees in a row

-- lexemes up to a middle, and from there on
lexed_append : (a b c : List ℕ) (xs ys : List Lexeme) → Lexed a xs b → Lexed b ys c → Lexed a (xs ++ ys) c
lexed_append a b c [] ys h k = subst (λ (cs : List ℕ). Lexed cs ys c) (sym h) k
lexed_append a b c (x ∷ xs) ys h k = (h.0, h.1, h.2, lexed_append h.0 b c xs ys h.3 k)

-- the pieces of lexemes, and of those behind them
pieces-append : (p : Place) (xs ys : List Lexeme)
    → pieces p (xs ++ ys) ≡ pieces p xs ++ pieces (after_all p (text_of xs)) ys
pieces-append p [] ys = refl
pieces-append p (x ∷ xs) ys =
    let q = after_all p x.text in
    let e : Extent = record { from = p; to = q } in
    ap (λ (ps : List Piece). piece x.token e ++ ps) (pieces-append q xs ys)
    ∙ ap (λ (r : Place). piece x.token e ++ (pieces q xs ++ pieces r ys)) (sym (after_all-append p x.text (text_of xs)))
    ∙ sym (append_assoc (piece x.token e) (pieces q xs) (pieces (after_all p (text_of (x ∷ xs))) ys))

-- trees for data of the shapes stand for data of the shapes
pub trees_data : (shapes : List (Datum → Type 0)) (ts : List Tree) → AreTrees shapes ts
    → AreOf shapes (flat_map yields ts)
trees_data [] [] h = tt
trees_data [] (t ∷ ts) h = absurd h
trees_data (Is ∷ shapes) [] h = absurd h
trees_data (Is ∷ shapes) (t ∷ ts) h = rw h.0.1 (h.0.2, trees_data shapes ts h.1)

-- ---- no datum, and a blank before data

-- no datum
pub nothing : (n : ℕ) (rest : List ℕ) → AreRead n rest rest []
nothing n rest p = record { lexemes = []; lexed = refl; whole = []; are = refl; fit = tt; shaped = tt }

-- a blank before data
pub blank : (n c : ℕ) (more rest : List ℕ) (shapes : List (Datum → Type 0)) → is_blank c ≡ true → Ends is_blank more
    → AreRead n more rest shapes → AreRead n (c ∷ more) rest shapes
blank n c more rest shapes is ends read p =
    let f = read (after_all p (c ∷ [])) in
    let lexeme : IsLexeme gap (c ∷ []) more = (blanks (c ∷ []), ((λ e. cc), ((is, tt), ends)), refl, refl) in
    record {
      lexemes = record { token = gap; text = c ∷ [] } ∷ f.lexemes;
      lexed = (more, lexeme, refl, f.lexed);
      whole = f.whole;
      are = f.are;
      fit = f.fit;
      shaped = f.shaped;
    }

-- ---- one datum, and data behind it

-- a datum that is one lexeme
pub one_lexeme : (n : ℕ) (t : Token) (form : Form) (text more rest : List ℕ) (Is : Datum → Type 0)
    (shapes : List (Datum → Type 0)) → IsLexeme t text more → ((e : Extent) → piece t e ≡ tree_pieces (atom e form))
    → ((from : Place) (end : ℕ) → Is (made.datum from end form)) → AreRead n more rest shapes
    → AreRead n (text ++ more) rest (Is ∷ shapes)
one_lexeme n t form text more rest Is shapes lexeme is_atom is read p =
    let q = after_all p text in
    let e : Extent = record { from = p; to = q } in
    let f = read q in
    record {
      lexemes = record { token = t; text = text } ∷ f.lexemes;
      lexed = (more, lexeme, refl, f.lexed);
      whole = atom e form ∷ f.whole;
      are = ap (λ (ps : List Piece). ps ++ pieces q f.lexemes) (is_atom e)
          ∙ ap (λ (ps : List Piece). tree_pieces (atom e form) ++ ps) f.are;
      fit = (tt, f.fit);
      shaped = ((made.datum p q.byte form, refl, is p q.byte), f.shaped);
    }

-- a datum that is data in brackets
bracketed : (n : ℕ) (inner more rest : List ℕ) (shapes others : List (Datum → Type 0)) (Is : Datum → Type 0) → n < 256
    → AreRead (suc n) inner (41 ∷ more) shapes
    → ((from to : Place) (items : List Datum) → AreOf shapes items → Is (made.list round from to items))
    → AreRead n more rest others → AreRead n (40 ∷ inner) rest (Is ∷ others)
bracketed n inner more rest shapes others Is less within is behind p =
    let p1 = after_all p (40 ∷ []) in
    let f = within p1 in
    let q = after_all p1 (text_of f.lexemes) in
    let q1 = after_all q (41 ∷ []) in
    let g = behind q1 in
    let o : Extent = record { from = p; to = p1 } in
    let c : Extent = record { from = q; to = q1 } in
    let opens : Lexeme = record { token = open_bracket; text = 40 ∷ [] } in
    let closes : Lexeme = record { token = close_bracket; text = 41 ∷ [] } in
    let tree = list round o (trees f.whole) c in
    let items = data_of (trees f.whole) in
    let same : flat_map yields f.whole ≡ items = sym (data_of-trees f.whole) in
    let shaped = trees_data shapes f.whole f.shaped in
    let are : AreOf shapes items = subst (λ (ds : List Datum). AreOf shapes ds) same shaped in
    record {
      lexemes = opens ∷ (f.lexemes ++ closes ∷ g.lexemes);
      lexed = (
        inner,
        (macro_char 40 open_bracket, refl, refl, refl),
        refl,
        lexed_append inner (41 ∷ more) rest f.lexemes (closes ∷ g.lexemes) f.lexed
            (more, (macro_char 41 close_bracket, refl, refl, refl), refl, g.lexed),
      );
      whole = tree ∷ g.whole;
      are = ap (λ (ps : List Piece). piece open_bracket o ++ ps)
          (pieces-append p1 f.lexemes (closes ∷ g.lexemes)
          ∙ ap (λ (ps : List Piece). ps ++ (piece close_bracket c ++ pieces q1 g.lexemes))
          (f.are ∙ sym (trees_pieces-trees f.whole))
          ∙ ap (λ (ps : List Piece). trees_pieces (trees f.whole) ++ (piece close_bracket c ++ ps)) g.are
          ∙ sym (append_assoc (trees_pieces (trees f.whole)) (piece close_bracket c) (flat_map tree_pieces g.whole)));
      fit = ((less, AllFit-trees (suc n) f.whole f.fit), g.fit);
      shaped = ((made.list round p q1 items, refl, is p q1 items are), g.shaped);
    }

-- the list of at least one datum
list_is : (Is : Datum → Type 0) (shapes : List (Datum → Type 0)) (from to : Place) (items : List Datum)
    → AreOf (Is ∷ shapes) items → IsListOf (Is ∷ shapes) (made.list round from to items)
list_is Is shapes from to [] h = absurd h
list_is Is shapes from to (d ∷ ds) h = (d ∷ ds, out-roll-Form _, h)

-- the list of no datum
empty_is : (from to : Place) (items : List Datum) → AreOf [] items
    → IsName (codes "NIL") (made.list round from to items)
empty_is from to [] h = out-roll-Form _
empty_is from to (d ∷ ds) h = absurd h

-- a list of at least one datum
pub list_of : (n : ℕ) (inner more rest : List ℕ) (Is : Datum → Type 0) (shapes others : List (Datum → Type 0)) → n < 256
    → AreRead (suc n) inner (41 ∷ more) (Is ∷ shapes) → AreRead n more rest others
    → AreRead n (40 ∷ inner) rest (IsListOf (Is ∷ shapes) ∷ others)
list_of n inner more rest Is shapes others less within behind =
    bracketed n inner more rest (Is ∷ shapes) others (IsListOf (Is ∷ shapes)) less within (list_is Is shapes) behind

-- the empty list
pub empty_list : (n : ℕ) (more rest : List ℕ) (others : List (Datum → Type 0)) → n < 256 → AreRead n more rest others
    → AreRead n (40 ∷ 41 ∷ more) rest (IsName (codes "NIL") ∷ others)
empty_list n more rest others less behind =
    bracketed n (41 ∷ more) more rest [] others (IsName (codes "NIL")) less (nothing (suc n) (41 ∷ more)) empty_is
    behind

-- the one tree for one datum
only_tree : (n : ℕ) (Is : Datum → Type 0) (ts : List Tree) → AllByRecursion (Fits n) ts → AreTrees (Is ∷ []) ts
    → (t : Tree) × (flat_map tree_pieces ts ≡ tree_pieces t) × Fits n t × IsTree Is t
only_tree n Is [] fit h = absurd h
only_tree n Is (t ∷ []) fit h = (t, append-nil (tree_pieces t), fit.0, h.0)
only_tree n Is (t ∷ u ∷ us) fit h = absurd h.1

-- a quote and its datum
pub quoted : (n : ℕ) (inner more rest : List ℕ) (Is : Datum → Type 0) (others : List (Datum → Type 0)) → n < 256
    → AreRead (suc n) inner more (Is ∷ []) → AreRead n more rest others
    → AreRead n (39 ∷ inner) rest (IsQuoted Is ∷ others)
quoted n inner more rest Is others less within behind p =
    let p1 = after_all p (39 ∷ []) in
    let f = within p1 in
    let q = after_all p1 (text_of f.lexemes) in
    let g = behind q in
    let e : Extent = record { from = p; to = p1 } in
    let quotes : Lexeme = record { token = quote_mark; text = 39 ∷ [] } in
    let only = only_tree (suc n) Is f.whole f.fit f.shaped in
    let t = only.0 in
    let d = only.3.0 in
    record {
      lexemes = quotes ∷ (f.lexemes ++ g.lexemes);
      lexed = (
        inner,
        (macro_char 39 quote_mark, refl, refl, refl),
        refl,
        lexed_append inner more rest f.lexemes g.lexemes f.lexed g.lexed,
      );
      whole = marked quote e none t ∷ g.whole;
      are = ap (λ (ps : List Piece). piece quote_mark e ++ ps)
          (pieces-append p1 f.lexemes g.lexemes
          ∙ ap (λ (ps : List Piece). ps ++ pieces q g.lexemes) (f.are ∙ only.1)
          ∙ ap (λ (ps : List Piece). tree_pieces t ++ ps) g.are);
      fit = ((less, tt, refl, only.2, (d, only.3.1)), g.fit);
      shaped = (
        (made.mark_on quote p d, ap (map (made.mark_on quote p)) only.3.1, (d, out-roll-Form _, only.3.2)),
        g.shaped,
      );
    }
