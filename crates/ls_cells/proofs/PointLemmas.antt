-- The EQL atom that an object is in, by its key.
use Rattle.std.proofs.Common.{ℕ, ◌≡◌, ◌≢◌, ◌∙◌, ◌<◌, ◌⊎◌, inl, inr, refl, ap, sym, subst, arith, Bool, true, false, List, [], ◌++◌, length, set, Decides}
use Rattle.std.specs.Prelude.{Option, Some, None, ◌&&◌, nat_le, nat_lt}
use Rattle.std.proofs.lemmas.Bool.{cases_eq, cases_lt}
use Rattle.std.proofs.lemmas.List.{get_or_past, get_or-set_same, get_or-set_other, length-set}
use Rattle.ls_object.specs.declared.object.Object.{Object}
use Rattle.ls_object.specs.declared.object.Shape.TheViews.{Pair, rolls-Number, rolls-Char, rolls-Sym, rolls-Pair}
use Rattle.ls_object.specs.declared.object.Shape.{Number, Char, Sym}
use Rattle.ls_object.specs.declared.object.Shape.TheFolds.{fold-roll-Shape}
use Rattle.ls_object.specs.declared.object.Shape.TheOpen.{Shape-F}
use Rattle.ls_object.specs.Meaning.{lisp_object, lisp_shape, object_step, shape_step}
use Rattle.ls_object.specs.declared.rat.Rat.{Rat}
use Rattle.ls_object.specs.declared.symbol.Symbol.{Symbol}
use Rattle.ls_object.specs.Universe.{LispObject, node, LispShape, number, character, symbol, pair, array, structure, opaque, plain_shape}
use Rattle.ls_object.proofs.RatLemmas.{same_rat}
use Rattle.ls_spec.specs.declared.spec.Point.{Point}
use Rattle.ls_spec.specs.declared.spec.Point.TheVariants as point
use Rattle.ls_spec.specs.Specifier.{Specifier, eql_to}
use Rattle.ls_spec.specs.Keys.{key}
use Rattle.ls_spec.specs.Membership.{IsPoint}
use Rattle.ls_spec.specs.Truth.{is_point, nothing_learnt}
use Rattle.ls_spec.proofs.KeyLemmas.{key_told}
use Rattle.ls_spec.proofs.TruthLemmas.{holds-Decides}
use Rattle.ls_memo.specs.Kept.{kept_for}
use Rattle.ls_cells.specs.declared.index.Index.{Index}
use Rattle.ls_cells.specs.Signs.{at, tabulate}
use Rattle.ls_cells.specs.steps.Index.{is_eql, IsNoPoint, IsKeyOf, IsPlaceOf, AreApart, AreFound, IsIndexOf}
use Rattle.ls_cells.proofs.ColumnLemmas.{in_none}
use Rattle.ls_cells.proofs.TabulateLemmas.{length-tabulate, at-tabulate}

-- whether a shape is a point
decided : (p : Point) (shape : LispShape) → Decides (is_point p shape) (IsPoint p shape)
decided p shape = holds-Decides [] nothing_learnt (eql_to p) (node [] shape) tt

-- points with one key are equal
same_key : (p q : Point) → key (eql_to p) ≡ key (eql_to q) → p ≡ q
same_key p q e = same_point (key_told (eql_to p) (eql_to q) [] [] (ap (λ k. k ++ []) e)).0
  where
    same_point : eql_to p ≡ eql_to q → p ≡ q
    same_point f = cc

-- a shape that is one point alone has the key of that point
key_of_point : (shape : LispShape) (q : Point) → ((p : Point) → IsPoint p shape → p ≡ q) → IsPoint q shape → (p : Point) → Decides (is_point p shape) (key (eql_to p) ≡ key (eql_to q))
key_of_point shape q only is p = (
  λ t. ap (λ r. key (eql_to r)) (only p ((decided p shape).0 t)),
  λ e. (decided p shape).1 (subst (λ r. IsPoint r shape) (sym (same_key p q e)) is),
)

pub key_number : (shape : LispShape) (r : Rat) (k : List ℕ) → shape ≡ number r.num r.den → k ≡ key (eql_to (point.Number r)) → IsKeyOf shape k
key_number shape r k e f =
    subst (λ s. IsKeyOf s k) (sym e) (subst (IsKeyOf (number r.num r.den)) (sym f) (key_of_point (number r.num r.den) (point.Number r) only (refl, refl)))
  where
    only : (p : Point) → IsPoint p (number r.num r.den) → p ≡ point.Number r
    only (point.Number s) h = ap point.Number (same_rat s r (sym h.0) (sym h.1))
    only (point.Char c) h = absurd h
    only (point.Sym s) h = absurd h

pub key_char : (shape : LispShape) (c : ℕ) (k : List ℕ) → shape ≡ character c → k ≡ key (eql_to (point.Char c)) → IsKeyOf shape k
key_char shape c k e f =
    subst (λ s. IsKeyOf s k) (sym e) (subst (IsKeyOf (character c)) (sym f) (key_of_point (character c) (point.Char c) only refl))
  where
    only : (p : Point) → IsPoint p (character c) → p ≡ point.Char c
    only (point.Number s) h = absurd h
    only (point.Char d) h = ap point.Char (sym h)
    only (point.Sym s) h = absurd h

pub key_symbol : (shape : LispShape) (s : Symbol) (k : List ℕ) → shape ≡ symbol s → k ≡ key (eql_to (point.Sym s)) → IsKeyOf shape k
key_symbol shape s k e f =
    subst (λ t. IsKeyOf t k) (sym e) (subst (IsKeyOf (symbol s)) (sym f) (key_of_point (symbol s) (point.Sym s) only refl))
  where
    only : (p : Point) → IsPoint p (symbol s) → p ≡ point.Sym s
    only (point.Number r) h = absurd h
    only (point.Char c) h = absurd h
    only (point.Sym t) h = ap point.Sym (sym h)

-- the other shapes are no point
abbrev IsOther : LispShape → Type 0
IsOther (number n d) = ⊥
IsOther (character c) = ⊥
IsOther (symbol s) = ⊥
IsOther _ = Unit {0}

other_shape : (shape : LispShape) → IsOther shape → IsNoPoint shape
other_shape (number n d) h p = absurd h
other_shape (character c) h p = absurd h
other_shape (symbol s) h p = absurd h
other_shape (pair x y) h (point.Number r) = refl
other_shape (pair x y) h (point.Char c) = refl
other_shape (pair x y) h (point.Sym s) = refl
other_shape (array c simple dims) h (point.Number r) = refl
other_shape (array c simple dims) h (point.Char d) = refl
other_shape (array c simple dims) h (point.Sym s) = refl
other_shape (structure n) h (point.Number r) = refl
other_shape (structure n) h (point.Char c) = refl
other_shape (structure n) h (point.Sym s) = refl
other_shape (opaque k) h (point.Number r) = refl
other_shape (opaque k) h (point.Char c) = refl
other_shape (opaque k) h (point.Sym s) = refl

pub no_point : (shape other : LispShape) → shape ≡ other → IsOther other → IsNoPoint shape
no_point shape other e h = subst IsNoPoint (sym e) (other_shape other h)

-- the shapes of a number, a character and a symbol
pub shape_number : (r : Rat) → lisp_shape (Number r) ≡ number r.num r.den
shape_number r = ap lisp_shape (sym (rolls-Number r)) ∙ fold-roll-Shape LispShape LispObject shape_step object_step (Shape-F.Number r)

pub shape_char : (c : ℕ) → lisp_shape (Char c) ≡ character c
shape_char c = ap lisp_shape (sym (rolls-Char c)) ∙ fold-roll-Shape LispShape LispObject shape_step object_step (Shape-F.Char c)

pub shape_symbol : (s : Symbol) → lisp_shape (Sym s) ≡ symbol s
shape_symbol s = ap lisp_shape (sym (rolls-Sym s)) ∙ fold-roll-Shape LispShape LispObject shape_step object_step (Shape-F.Sym s)

-- the shape of a cons
pub shape_pair : (car cdr : Object) → lisp_shape (Pair car cdr) ≡ pair (lisp_object car) (lisp_object cdr)
shape_pair car cdr = ap lisp_shape (sym (rolls-Pair car cdr)) ∙ fold-roll-Shape LispShape LispObject shape_step object_step (Shape-F.Pair car cdr)

-- the keys of an index are apart
pub index_apart : (atoms : List Specifier) (n : ℕ) (index : Index) → IsIndexOf atoms n index → AreApart index.names
index_apart atoms n index h q r i e f =
    let a = h.named q i e in
    let b = h.named r i f in
    let same = some_point a.1.0 b.1.0 (sym a.1.1 ∙ b.1.1) in
    a.1.2 ∙ ap (λ p. key (eql_to p)) same ∙ sym b.1.2
  where
    some_point : (p s : Point) → Some (eql_to p) ≡ Some (eql_to s) → p ≡ s
    some_point p s g = cc

-- no place is found for no point
pub place_none : (names : List (List ℕ × ℕ)) (shape : LispShape) → IsNoPoint shape → IsPlaceOf names shape None
place_none names shape h = record {
  named = λ i e. absurd cc;
  told = λ p i e. (λ t. let f = h p in absurd cc, λ f. absurd cc);
}

-- and for a point the one that is kept for its key
pub place_found : (names : List (List ℕ × ℕ)) (shape : LispShape) (q k : List ℕ) (r : Option ℕ) → AreApart names → IsKeyOf shape q → k ≡ q → r ≡ kept_for k names → IsPlaceOf names shape r
place_found names shape q k r apart h s e = record {
  named = λ i f. (q, sym (e ∙ ap (λ l. kept_for l names) s) ∙ f);
  told = λ p i f. (
    λ t. e ∙ ap (λ l. kept_for l names) (s ∙ sym ((h p).0 t)) ∙ f,
    λ t. (h p).1 (apart (key (eql_to p)) q i f (sym (e ∙ ap (λ l. kept_for l names) s) ∙ t)),
  );
}

not_true : (b : Bool) → (b ≡ true → ⊥) → false ≡ b
not_true true h = absurd (h refl)
not_true false h = refl

at_zeros : (len i : ℕ) → at (tabulate len (λ i. nat_le 0 i && nat_lt i 0)) i ≡ false
at_zeros len i = elim (cases_lt i len) [
  | inl l ↦ at-tabulate len (λ i. nat_le 0 i && nat_lt i 0) i l ∙ in_none i
  | inr l ↦ get_or_past (tabulate len (λ i. nat_le 0 i && nat_lt i 0)) i false (omega (arith, l, length-tabulate len (λ i. nat_le 0 i && nat_lt i 0)))
]

-- where no place is found no named atom holds
pub found_none : (len : ℕ) (names : List (List ℕ × ℕ)) (o : LispObject) (marks : List Symbol) (shape : LispShape) (signs : List Bool) (place : Option ℕ) → o ≡ node marks shape → IsPlaceOf names shape place → place ≡ None
    → signs ≡ tabulate len (λ i. nat_le 0 i && nat_lt i 0) → AreFound len names o signs
found_none len names o marks shape signs place e h n s = record {
  long = ap length s ∙ length-tabulate len _;
  told = λ p i f.
      ap (λ bs. at bs i) s ∙ at_zeros len i ∙ not_true (is_point p (plain_shape shape)) (λ t. let g = sym n ∙ (h.told p i f).0 t in absurd cc) ∙ sym (ap (is_eql p) e);
}

-- and else the one at the place
pub found_some : (len : ℕ) (names : List (List ℕ × ℕ)) (o : LispObject) (marks : List Symbol) (shape : LispShape) (old signs : List Bool) (place : Option ℕ) (j : ℕ) → o ≡ node marks shape → IsPlaceOf names shape place → place ≡ Some j → j < len
    → old ≡ tabulate len (λ i. nat_le 0 i && nat_lt i 0) → signs ≡ set old j true → AreFound len names o signs
found_some len names o marks shape old signs place j e h n l s is = record {
  long = ap length is ∙ length-set old j true ∙ ap length s ∙ length-tabulate len _;
  told = λ p i f. ap (λ bs. at bs i) is ∙ by_place p i f (cases_eq i j) ∙ sym (ap (is_eql p) e);
}
  where
    as_long : length old ≡ len
    as_long = ap length s ∙ length-tabulate len _

    by_place : (p : Point) (i : ℕ) → kept_for (key (eql_to p)) names ≡ Some i → (i ≡ j) ⊎ (i ≢ j) → at (set old j true) i ≡ is_point p (plain_shape shape)
    by_place p i f (inl g) =
        ap (at (set old j true)) g ∙ get_or-set_same old j true false (omega (arith, l, as_long)) ∙ sym ((h.told p i f).1 (n ∙ ap Some (sym g)))
    by_place p i f (inr g) =
        get_or-set_other old j i true false g ∙ ap (λ bs. at bs i) s ∙ at_zeros len i
        ∙ not_true (is_point p (plain_shape shape)) (λ t. let k = sym n ∙ (h.told p i f).0 t in g (cc))
