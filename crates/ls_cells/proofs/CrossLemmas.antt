-- Pairs of rows, one after another.
use Rattle.std.proofs.Common.{ℕ, zero, suc, ◌≡◌, ◌∙◌, ◌+◌, ◌*◌, ◌-◌, ◌<◌, ◌≤◌, sym, ap, refl, subst, arith, Bool, true, false, List, [], ◌∷◌, ◌++◌, append_assoc, append-nil, length, take, get_or, ◌⊎◌, inl, inr}
use Rattle.std.specs.Prelude.{MatchBool, if◌then◌else◌}
use Rattle.std.specs.List.{Contains}
use Rattle.std.proofs.lemmas.List.{take_more, take_all}
use Rattle.std.proofs.lemmas.List.Elements.{Contains-append_left, Contains-append_right, Contains-append_cases}
use Rattle.ls_spec.proofs.ListLemmas.{AllByRecursion-append, AllByRecursion-weaker}
use Rattle.ls_cells.specs.declared.rows.Row.{Row}
use Rattle.ls_cells.specs.Rows.{signs_of}
use Rattle.ls_cells.specs.steps.Pairing.{joined, IsPair, IsPairOf, Crosses}

-- the members of a list of one
pub in_one : {X : Type 0} (x y : X) → Contains (x ∷ []) y → y ≡ x
in_one x y (zero, l, e) = sym e
in_one x y (suc i, l, e) = absurd (omega arith)

pub is_one : {X : Type 0} (x : X) → Contains (x ∷ []) x
is_one x = (0, omega arith, refl)

-- the truth values of rows one behind another
pub signs_append : (xs ys : List Row) → signs_of (xs ++ ys) ≡ signs_of xs ++ signs_of ys
signs_append [] ys = refl
signs_append (x ∷ xs) ys = ap (λ l. x.signs ∷ l) (signs_append xs ys)

-- what was there is there still
pub crossed_kept : (cars cdrs old new : List Row) → Crosses cars cdrs old new → (signs : List Bool) → Contains (signs_of old) signs → Contains (signs_of new) signs
crossed_kept cars cdrs old new c signs h =
    subst (λ rows. Contains rows signs) (sym (ap signs_of c.is ∙ signs_append old c.more)) (Contains-append_left (signs_of old) (signs_of c.more) signs h)

-- nothing crossed
pub crosses_no_cdr : (cars old : List Row) → Crosses cars [] old old
crosses_no_cdr cars old = record { more = []; is = sym (append-nil old); each = tt; all = λ car cdr h k. absurd (omega (arith, k.1)) }

pub crosses_no_car : (cdrs old : List Row) → Crosses [] cdrs old old
crosses_no_car cdrs old = record { more = []; is = sym (append-nil old); each = tt; all = λ car cdr h k. absurd (omega (arith, h.1)) }

wider : (cars cdrs more_cars more_cdrs : List Row) → ((r : Row) → Contains cars r → Contains more_cars r) → ((r : Row) → Contains cdrs r → Contains more_cdrs r) → (row : Row) → IsPairOf cars cdrs row → IsPairOf more_cars more_cdrs row
wider cars cdrs more_cars more_cdrs f g row p = (p.0, p.1, f p.0 p.2, g p.1 p.3, p.4)

-- first some pairs, then others
joint : (cars cdrs a b x y : List Row) (old mid new : List Row) → Crosses a b old mid → Crosses x y mid new
    → ((r : Row) → Contains a r → Contains cars r) → ((r : Row) → Contains b r → Contains cdrs r) → ((r : Row) → Contains x r → Contains cars r) → ((r : Row) → Contains y r → Contains cdrs r)
    → ((car cdr : Row) → Contains cars car → Contains cdrs cdr → (Contains a car × Contains b cdr) ⊎ (Contains x car × Contains y cdr)) → Crosses cars cdrs old new
joint cars cdrs a b x y old mid new c d f g h k cover = record {
  more = c.more ++ d.more;
  is = d.is ∙ ap (λ rows. rows ++ d.more) c.is ∙ append_assoc old c.more d.more;
  each = AllByRecursion-append (IsPairOf cars cdrs) c.more d.more (AllByRecursion-weaker (IsPairOf a b) (IsPairOf cars cdrs) (wider a b cars cdrs f g) c.more c.each) (AllByRecursion-weaker (IsPairOf x y) (IsPairOf cars cdrs) (wider x y cars cdrs h k) d.more d.each);
  all = λ car cdr p q. elim (cover car cdr p q) [
    | inl s ↦ crossed_kept x y mid new d (joined car.signs cdr.signs) (c.all car cdr s.0 s.1)
    | inr s ↦ d.all car cdr s.0 s.1
  ];
}

-- one cdr more
pub crosses_cdr : (car : Row) (cdrs : List Row) (cdr : Row) (old mid new : List Row) → Crosses (car ∷ []) cdrs old mid → Crosses (car ∷ []) (cdr ∷ []) mid new → Crosses (car ∷ []) (cdrs ++ cdr ∷ []) old new
crosses_cdr car cdrs cdr old mid new c d =
    joint (car ∷ []) (cdrs ++ cdr ∷ []) (car ∷ []) cdrs (car ∷ []) (cdr ∷ []) old mid new c d (λ r h. h) (Contains-append_left cdrs (cdr ∷ [])) (λ r h. h) (Contains-append_right cdrs (cdr ∷ [])) (λ p q h k. elim (Contains-append_cases cdrs (cdr ∷ []) q k) [
      | inl s ↦ inl (h, s)
      | inr s ↦ inr (h, s)
    ])

-- one car more
pub crosses_car : (cars : List Row) (car : Row) (cdrs : List Row) (old mid new : List Row) → Crosses cars cdrs old mid → Crosses (car ∷ []) cdrs mid new → Crosses (cars ++ car ∷ []) cdrs old new
crosses_car cars car cdrs old mid new c d =
    joint (cars ++ car ∷ []) cdrs cars cdrs (car ∷ []) cdrs old mid new c d (Contains-append_left cars (car ∷ [])) (λ r h. h) (Contains-append_right cars (car ∷ [])) (λ r h. h) (λ p q h k. elim (Contains-append_cases cars (car ∷ []) p h) [
      | inl s ↦ inl (s, k)
      | inr s ↦ inr (s, k)
    ])

-- a row that was added, or had been there
pub crosses_one : (car cdr row : Row) (old new : List Row) (fresh : Bool) → IsPair car cdr row → MatchBool fresh (¬ Contains (signs_of old) row.signs) (Contains (signs_of old) row.signs) → new ≡ (if fresh then old ++ row ∷ [] else old)
    → Crosses (car ∷ []) (cdr ∷ []) old new
crosses_one car cdr row old new true p m e = record {
  more = row ∷ [];
  is = e;
  each = ((car, cdr, is_one car, is_one cdr, p), tt);
  all = λ a b h k.
      let there : Contains (signs_of new) row.signs = subst (λ rows. Contains rows row.signs) (sym (ap signs_of e ∙ signs_append old (row ∷ []))) (Contains-append_right (signs_of old) (row.signs ∷ []) row.signs (is_one row.signs)) in
      subst (Contains (signs_of new)) (p.signs ∙ ap (λ r. joined r.signs cdr.signs) (sym (in_one car a h)) ∙ ap (λ r. joined a.signs r.signs) (sym (in_one cdr b k))) there;
}
crosses_one car cdr row old new false p m e = record {
  more = [];
  is = e ∙ sym (append-nil old);
  each = tt;
  all = λ a b h k.
      let there : Contains (signs_of new) row.signs = subst (λ rows. Contains (signs_of rows) row.signs) (sym e) m in
      subst (Contains (signs_of new)) (p.signs ∙ ap (λ r. joined r.signs cdr.signs) (sym (in_one car a h)) ∙ ap (λ r. joined a.signs r.signs) (sym (in_one cdr b k))) there;
}

-- one factor more
pub factor_next : (i n : ℕ) → (i + 1) * n ≡ i * n + n
factor_next i n = grind arith

pub factor_more : (i m n : ℕ) → i < m → i * n + n ≤ m * n
factor_more i m n l = by (m - (i + 1)) (omega arith)
  where
    by : (k : ℕ) → m ≡ i + 1 + k → i * n + n ≤ m * n
    by k e = subst (λ j. i * n + n ≤ j * n) (sym e) (grind arith)

pub factor_same : (a b m n : ℕ) → a ≡ m → b ≡ n → a * b ≡ m * n
factor_same a b m n e f = ap (λ x. x * b) e ∙ ap (λ y. m * y) f

-- one more of those that are gone through, and all of them
pub crosses_cdr_more : (car : Row) (cdrs : List Row) (i : ℕ) (cdr : Row) (old mid new : List Row) → i < length cdrs → cdr ≡ get_or cdrs i cdr → Crosses (car ∷ []) (take i cdrs) old mid → Crosses (car ∷ []) (cdr ∷ []) mid new
    → Crosses (car ∷ []) (take (i + 1) cdrs) old new
crosses_cdr_more car cdrs i cdr old mid new l e c d =
    subst (λ xs. Crosses (car ∷ []) xs old new) (sym (take_more cdrs i cdr l ∙ ap (λ x. take i cdrs ++ x ∷ []) (sym e))) (crosses_cdr car (take i cdrs) cdr old mid new c d)

pub crosses_car_more : (cars : List Row) (i : ℕ) (car : Row) (cdrs old mid new : List Row) → i < length cars → car ≡ get_or cars i car → Crosses (take i cars) cdrs old mid → Crosses (car ∷ []) cdrs mid new
    → Crosses (take (i + 1) cars) cdrs old new
crosses_car_more cars i car cdrs old mid new l e c d =
    subst (λ xs. Crosses xs cdrs old new) (sym (take_more cars i car l ∙ ap (λ x. take i cars ++ x ∷ []) (sym e))) (crosses_car (take i cars) car cdrs old mid new c d)

pub crosses_cdrs : (cars cdrs : List Row) (i : ℕ) (old new : List Row) → length cdrs ≤ i → Crosses cars (take i cdrs) old new → Crosses cars cdrs old new
crosses_cdrs cars cdrs i old new l c = subst (λ xs. Crosses cars xs old new) (take_all i cdrs l) c

pub crosses_cars : (cars cdrs : List Row) (i : ℕ) (old new : List Row) → length cars ≤ i → Crosses (take i cars) cdrs old new → Crosses cars cdrs old new
crosses_cars cars cdrs i old new l c = subst (λ xs. Crosses xs cdrs old new) (take_all i cars l) c
