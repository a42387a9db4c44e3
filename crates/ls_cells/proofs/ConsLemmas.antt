-- The rows of conses.
use Rattle.std.proofs.Common.{ℕ, zero, suc, ◌≡◌, ◌∙◌, sym, ap, refl, subst, arith, Bool, true, false, ◌&&◌, List, [], ◌∷◌, ◌++◌, map, length, get_or}
use Rattle.std.specs.Prelude.{All, MatchBool, nat_le, nat_lt}
use Rattle.std.specs.List.{AllByRecursion, Contains}
use Rattle.std.proofs.lemmas.List.{length-map}
use Rattle.ls_object.specs.Symbols.{nil_symbol}
use Rattle.ls_object.specs.Universe.{LispObject, node, symbol, pair, Structures, IsObject, plain}
use Rattle.ls_spec.specs.declared.spec.Point.{Point}
use Rattle.ls_spec.specs.declared.spec.Point.TheVariants as point
use Rattle.ls_spec.specs.Specifier.{Specifier, all_objects, no_objects, and_of, or_of, not_of, eql_to}
use Rattle.ls_spec.specs.Atoms.{atoms_of}
use Rattle.ls_spec.specs.Truth.{Learnt, holds, is_point}
use Rattle.ls_spec.proofs.ListLemmas.{AllByRecursion-append, AllByRecursion-weaker, AllByRecursion-contains}
use Rattle.ls_lists.specs.Sides.{car_of, cdr_of, cars_of, cdrs_of}
use Rattle.ls_lists.specs.Walks.{is_none}
use Rattle.ls_cells.specs.declared.rows.Row.{Row}
use Rattle.ls_cells.specs.declared.side.Side.{Side}
use Rattle.ls_cells.specs.declared.side.Side.TheVariants as side_variant
use Rattle.ls_cells.specs.Signs.{tabulate}
use Rattle.ls_cells.specs.Rows.{origin_object, signs_of}
use Rattle.ls_cells.specs.Cells.{signs_at, bare, HasObject, AreRowsOf, AddsRows, IsCons}
use Rattle.ls_cells.specs.steps.Halves.{part_holds, parts_at, ArePartsAmong, AreHalves}
use Rattle.ls_cells.specs.steps.Pairing.{joined, IsPairOf, Crosses}
use Rattle.ls_cells.proofs.ColumnLemmas.{in_none}
use Rattle.ls_cells.proofs.TabulateLemmas.{is_tabulate}
use Rattle.ls_cells.proofs.AtomLemmas.{IsAtom, atoms_are_atoms, cars_among, cdrs_among, no_car}
use Rattle.ls_cells.proofs.AddLemmas.{with_row, adds_row}
use Rattle.ls_cells.proofs.CrossLemmas.{crossed_kept}
use Rattle.ls_cells.proofs.PlaceLemmas.{one_by_one, by_places}

no_point : (p : Point) (u v : LispObject) → is_point p (pair u v) ≡ false
no_point (point.Number r) u v = refl
no_point (point.Char c) u v = refl
no_point (point.Sym s) u v = refl

-- an atom holds at a cons without marks of its own exactly where it is a CONS of which both parts hold
cons_truth : (learnt : Learnt) (s : Specifier) (u v : LispObject) → IsAtom s → holds learnt s (node [] (pair u v)) ≡ (part_holds learnt (car_of s) u && part_holds learnt (cdr_of s) v)
cons_truth learnt all_objects u v h = absurd h
cons_truth learnt no_objects u v h = absurd h
cons_truth learnt (and_of ss) u v h = absurd h
cons_truth learnt (or_of ss) u v h = absurd h
cons_truth learnt (not_of s) u v h = absurd h
cons_truth learnt (eql_to p) u v h = no_point p u v
cons_truth learnt _ u v h = refl

pub cons_signs : (learnt : Learnt) (atoms : List Specifier) (u v : LispObject) → AllByRecursion IsAtom atoms
    → signs_at learnt atoms (node [] (pair u v)) ≡ joined (parts_at learnt side_variant.Car atoms u) (parts_at learnt side_variant.Cdr atoms v)
cons_signs learnt [] u v h = refl
cons_signs learnt (s ∷ atoms) u v h = let e = cons_truth learnt s u v h.0 in let f = cons_signs learnt atoms u v h.1 in cc

-- some object gives these truth values to conses, on the side
record HasPart (structures : Structures) (learnt : Learnt) (on : Side) (atoms : List Specifier) (half : Row) : Type 0 where
  object : LispObject
  is_object : IsObject structures object
  plain_form : plain object ≡ origin_object half.origin.value
  signs : half.signs ≡ parts_at learnt on atoms object

part_each : (structures : Structures) (learnt : Learnt) (on : Side) (those atoms : List Specifier) (rows halves : List Row) → ArePartsAmong on those atoms → AreHalves on those atoms rows halves → AllByRecursion (HasObject structures learnt those) rows
    → AllByRecursion (HasPart structures learnt on atoms) halves
part_each structures learnt on those atoms [] [] k h o = tt
part_each structures learnt on those atoms [] (x ∷ halves) k h o = absurd h
part_each structures learnt on those atoms (r ∷ rows) [] k h o = absurd h
part_each structures learnt on those atoms (r ∷ rows) (x ∷ halves) k h o = (
  record { object = o.0.object; is_object = o.0.is_object; plain_form = o.0.plain_form ∙ sym h.0.object; signs = h.0.signs learnt o.0.object k o.0.signs },
  part_each structures learnt on those atoms rows halves k h.1 o.1,
)

-- the half of an object's row
part_all : (learnt : Learnt) (on : Side) (those atoms : List Specifier) (rows halves : List Row) (o : LispObject) → ArePartsAmong on those atoms → AreHalves on those atoms rows halves → Contains (signs_of rows) (signs_at learnt those o)
    → (half : Row) × Contains halves half × (half.signs ≡ parts_at learnt on atoms o)
part_all learnt on those atoms [] [] o k h c = absurd (omega (arith, c.1))
part_all learnt on those atoms [] (x ∷ halves) o k h c = absurd h
part_all learnt on those atoms (r ∷ rows) [] o k h c = absurd h
part_all learnt on those atoms (r ∷ rows) (x ∷ halves) o k h (zero, l, e) = (x, (0, omega arith, refl), h.0.signs learnt o k e)
part_all learnt on those atoms (r ∷ rows) (x ∷ halves) o k h (suc i, l, e) =
    let more = part_all learnt on those atoms rows halves o k h.1 (i, omega arith, e) in
    let there = more.1 in
    (more.0, (suc there.0, omega (arith, there.1), there.2), more.2)

module _ (structures : Structures) (learnt : Learnt) (list : List Specifier) where
  -- a pair of rows that have objects has one
  pair_object : (cars cdrs : List Row) → AllByRecursion (HasPart structures learnt side_variant.Car (atoms_of list)) cars → AllByRecursion (HasPart structures learnt side_variant.Cdr (atoms_of list)) cdrs
      → (row : Row) → IsPairOf cars cdrs row → HasObject structures learnt (atoms_of list) row
  pair_object cars cdrs h k row p =
      let a = AllByRecursion-contains (HasPart structures learnt side_variant.Car (atoms_of list)) cars p.0 h p.2 in
      let d = AllByRecursion-contains (HasPart structures learnt side_variant.Cdr (atoms_of list)) cdrs p.1 k p.3 in
      record {
        object = node [] (pair a.object d.object);
        is_object = (tt, (a.is_object, d.is_object));
        plain_form = ap (λ x. node [] (pair x (plain d.object))) a.plain_form ∙ ap (λ y. node [] (pair (origin_object p.0.origin.value) y)) d.plain_form ∙ sym p.4.object;
        signs = p.4.signs ∙ ap (λ x. joined x p.1.signs) a.signs ∙ ap (joined (parts_at learnt side_variant.Car (atoms_of list) a.object)) d.signs
            ∙ sym (cons_signs learnt (atoms_of list) a.object d.object (atoms_are_atoms list));
      }

  pub pairs_add : (atoms those_cars those_cdrs : List Specifier) (cars cdrs firsts seconds old new : List Row) → atoms ≡ atoms_of list → those_cars ≡ atoms_of (cars_of list) → those_cdrs ≡ atoms_of (cdrs_of list)
      → AreRowsOf structures learnt (atoms_of (cars_of list)) cars → AreRowsOf structures learnt (atoms_of (cdrs_of list)) cdrs → AreHalves side_variant.Car those_cars atoms cars firsts → AreHalves side_variant.Cdr those_cdrs atoms cdrs seconds
      → Crosses firsts seconds old new → AddsRows structures learnt (atoms_of list) IsCons old new
  pairs_add atoms those_cars those_cdrs cars cdrs firsts seconds old new e f g a d h k c = record { kept = crossed_kept firsts seconds old new c; each = each; all = all }
    where
      left : AreHalves side_variant.Car (atoms_of (cars_of list)) (atoms_of list) cars firsts
      left = subst (λ t. AreHalves side_variant.Car t (atoms_of list) cars firsts) f (subst (λ t. AreHalves side_variant.Car those_cars t cars firsts) e h)

      right : AreHalves side_variant.Cdr (atoms_of (cdrs_of list)) (atoms_of list) cdrs seconds
      right = subst (λ t. AreHalves side_variant.Cdr t (atoms_of list) cdrs seconds) g (subst (λ t. AreHalves side_variant.Cdr those_cdrs t cdrs seconds) e k)

      left_each : AllByRecursion (HasPart structures learnt side_variant.Car (atoms_of list)) firsts
      left_each = part_each structures learnt side_variant.Car (atoms_of (cars_of list)) (atoms_of list) cars firsts (cars_among list) left (one_by_one (HasObject structures learnt (atoms_of (cars_of list))) cars a.each)

      right_each : AllByRecursion (HasPart structures learnt side_variant.Cdr (atoms_of list)) seconds
      right_each = part_each structures learnt side_variant.Cdr (atoms_of (cdrs_of list)) (atoms_of list) cdrs seconds (cdrs_among list) right (one_by_one (HasObject structures learnt (atoms_of (cdrs_of list))) cdrs d.each)

      each : All (HasObject structures learnt (atoms_of list)) old → All (HasObject structures learnt (atoms_of list)) new
      each was =
          subst (All (HasObject structures learnt (atoms_of list))) (sym c.is) (by_places (HasObject structures learnt (atoms_of list)) (old ++ c.more) (AllByRecursion-append (HasObject structures learnt (atoms_of list)) old c.more
          (one_by_one (HasObject structures learnt (atoms_of list)) old was)
          (AllByRecursion-weaker (IsPairOf firsts seconds) (HasObject structures learnt (atoms_of list)) (pair_object firsts seconds left_each right_each) c.more c.each)))

      all : (o : LispObject) → IsObject structures o → IsCons o → Contains (signs_of new) (signs_at learnt (atoms_of list) (bare o))
      all (node marks (pair u v)) i j =
          let x = part_all learnt side_variant.Car (atoms_of (cars_of list)) (atoms_of list) cars firsts u (cars_among list) left (a.all u i.1.0) in
          let y = part_all learnt side_variant.Cdr (atoms_of (cdrs_of list)) (atoms_of list) cdrs seconds v (cdrs_among list) right (d.all v i.1.1) in
          subst (Contains (signs_of new)) (ap (λ s. joined s y.0.signs) x.2 ∙ ap (joined (parts_at learnt side_variant.Car (atoms_of list) u)) y.2 ∙ sym (cons_signs learnt (atoms_of list) u v (atoms_are_atoms list))) (c.all x.0 y.0 x.1 y.1)
      all (node marks _) i j = absurd j

-- rows all of one length have that of each other
pub equal_long : (n : ℕ) (cars cdrs : List Row) → AllByRecursion (λ r. length r.signs ≡ n) cars → AllByRecursion (λ r. length r.signs ≡ n) cdrs → AllByRecursion (λ car. AllByRecursion (λ cdr. length car.signs ≡ length cdr.signs) cdrs) cars
equal_long n cars cdrs h k =
    AllByRecursion-weaker (λ r. length r.signs ≡ n) (λ car. AllByRecursion (λ cdr. length car.signs ≡ length cdr.signs) cdrs) (λ car a.
    AllByRecursion-weaker (λ r. length r.signs ≡ n) (λ cdr. length car.signs ≡ length cdr.signs) (λ cdr d. a ∙ sym d) cdrs k) cars h

-- NIL is an object
nil_object : (structures : Structures) → IsObject structures (node [] (symbol nil_symbol))
nil_object structures = (tt, ((refl, (refl, (refl, (refl, (refl, (refl, (refl, (refl, (refl, (refl, (refl, tt))))))))))), (refl, (refl, (refl, tt)))))

all_false : (p : Specifier → Bool) (xs : List Specifier) → AllByRecursion (λ s. p s ≡ false) xs → (i : ℕ) → get_or (map p xs) i false ≡ false
all_false p [] h i = refl
all_false p (x ∷ xs) h zero = h.0
all_false p (x ∷ xs) h (suc i) = all_false p xs h.1 i

-- where no atom is a CONS no atom holds at a cons
no_cons_holds : (learnt : Learnt) (u v : LispObject) (atoms : List Specifier) → AllByRecursion IsAtom atoms → AllByRecursion (λ s. car_of s ≡ []) atoms
    → AllByRecursion (λ s. holds learnt s (node [] (pair u v)) ≡ false) atoms
no_cons_holds learnt u v [] h n = tt
no_cons_holds learnt u v (s ∷ atoms) h n =
    (cons_truth learnt s u v h.0 ∙ ap (λ parts. part_holds learnt parts u && part_holds learnt (cdr_of s) v) n.0, no_cons_holds learnt u v atoms h.1 n.1)

-- so the truth values of a cons are all false
pub no_cons_signs : (learnt : Learnt) (list : List Specifier) (count : ℕ) (u v : LispObject) → length (atoms_of list) ≡ count → is_none (cars_of list) ≡ true
    → signs_at learnt (atoms_of list) (node [] (pair u v)) ≡ tabulate count (λ i. nat_le 0 i && nat_lt i 0)
no_cons_signs learnt list count u v e n =
    is_tabulate (signs_at learnt (atoms_of list) (node [] (pair u v))) count (λ i. nat_le 0 i && nat_lt i 0) (length-map (atoms_of list) (λ s. holds learnt s (node [] (pair u v))) ∙ e) (λ i l.
    all_false (λ s. holds learnt s (node [] (pair u v))) (atoms_of list) (no_cons_holds learnt u v (atoms_of list) (atoms_are_atoms list) (no_car list n)) i ∙ sym (in_none i))

-- the row of all conses, where no atom is a CONS
pub cons_adds : (structures : Structures) (learnt : Learnt) (list : List Specifier) (count : ℕ) (row : Row) (old new : List Row) (fresh : Bool) (first second : LispObject)
    → MatchBool fresh (¬ Contains (signs_of old) row.signs) (Contains (signs_of old) row.signs) → new ≡ with_row fresh old row
    → first ≡ node [] (symbol nil_symbol) → second ≡ node [] (symbol nil_symbol) → origin_object row.origin.value ≡ node [] (pair first second) → row.signs ≡ tabulate count (λ i. nat_le 0 i && nat_lt i 0)
    → length (atoms_of list) ≡ count → is_none (cars_of list) ≡ true → AddsRows structures learnt (atoms_of list) IsCons old new
cons_adds structures learnt list count row old new fresh first second f added a d o s e n = adds_row structures learnt (atoms_of list) IsCons old new row fresh f added has same
  where
    nil : LispObject
    nil = node [] (symbol nil_symbol)

    has : HasObject structures learnt (atoms_of list) row
    has = record {
      object = node [] (pair nil nil);
      is_object = (tt, (nil_object structures, nil_object structures));
      plain_form = sym (o ∙ ap (λ x. node [] (pair x second)) a ∙ ap (λ y. node [] (pair nil y)) d);
      signs = s ∙ sym (no_cons_signs learnt list count nil nil e n);
    }

    same : (x : LispObject) → IsObject structures x → IsCons x → row.signs ≡ signs_at learnt (atoms_of list) (bare x)
    same (node marks (pair u v)) i j = s ∙ sym (no_cons_signs learnt list count u v e n)
    same (node marks _) i j = absurd j
