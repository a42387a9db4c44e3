-- Putting specifiers into a list by number, one after another.
use Rattle.std.proofs.Common.{ℕ, zero, suc, ◌≡◌, ◌<◌, ◌≤◌, ◌+◌, refl, sym, ◌∙◌, ap, subst, List, [], ◌∷◌, ◌++◌, length, get_or, take, arith, Bool, true, false, if◌then◌else◌, fold}
use Rattle.std.specs.Prelude.{nat_eq, slice_index_or}
use Rattle.std.specs.List.{list_any, flat_map}
use Rattle.std.proofs.lemmas.List.{take_more, flat_map_more, take_all}
use Rattle.ls_spec.specs.Specifier.{Specifier}
use Rattle.ls_spec.specs.Distinct.{same, with_new}
use Rattle.ls_spec.proofs.DistinctLemmas.{Decides-same}
use Rattle.ls_lists.specs.Candidates.{with_number}
use Rattle.ls_intern.specs.Places.{at, specifiers_at, AllBelow, Distinct}
use Rattle.ls_spec.specs.Atoms.{atoms_of}
use Rattle.ls_lists.specs.Sides.{car_of, cdr_of, cars_of, cdrs_of}
use Rattle.ls_sides.specs.Gathering.{Gathers, AreSides}

-- two numbers are equal exactly where their specifiers are the same
pub same_at : (known : List Specifier) → Distinct known → (i j : ℕ) → i < length known → j < length known → nat_eq i j ≡ same (at known i) (at known j)
same_at known d i j h k = by (nat_eq i j) refl (same (at known i) (at known j)) refl
  where
    by : (b : Bool) → nat_eq i j ≡ b → (c : Bool) → same (at known i) (at known j) ≡ c → b ≡ c
    by true e true f = refl
    by false e false f = refl
    by true e false f =
        let m : i ≡ j = grind arith in
        let n = (Decides-same (at known i) (at known j)).1 (ap (at known) m) in cc
    by false e true f = let m = d i j h k ((Decides-same _ _).0 f) in grind arith

any_at : (known : List Specifier) → Distinct known → (i : ℕ) (ids : List ℕ) → i < length known → AllBelow (length known) ids
    → list_any (nat_eq i) ids ≡ list_any (same (at known i)) (specifiers_at known ids)
any_at known d i [] h b = refl
any_at known d i (j ∷ ids) h b =
    let e = same_at known d i j h b.0 in
    let f = any_at known d i ids h b.1 in cc

-- one more number below the bound
pub below_last : (n : ℕ) (ids : List ℕ) (id : ℕ) → AllBelow n ids → id < n → AllBelow n (ids ++ id ∷ [])
below_last n [] id h k = (k, tt)
below_last n (i ∷ ids) id h k = (h.0, below_last n ids id h.1 k)

-- one more number is one more specifier
pub specifiers_last : (known : List Specifier) (ids : List ℕ) (id : ℕ) → specifiers_at known (ids ++ id ∷ []) ≡ specifiers_at known ids ++ at known id ∷ []
specifiers_last known [] id = refl
specifiers_last known (i ∷ ids) id = ap (λ l. at known i ∷ l) (specifiers_last known ids id)

-- a number that is pushed is its specifier, put in unless it is there
pub gathers_added : (known : List Specifier) → Distinct known → (old new : List ℕ) (id : ℕ) → id < length known → AllBelow (length known) old
    → new ≡ with_number old id → Gathers known old new (at known id ∷ [])
gathers_added known d old new id h b e = subst (λ x. Gathers known old x (at known id ∷ [])) (sym e) (by (list_any (nat_eq id) old) (any_at known d id old h b))
  where
    by : (c : Bool) → c ≡ list_any (same (at known id)) (specifiers_at known old) → Gathers known old (if c then old else old ++ id ∷ []) (at known id ∷ [])
    by true f = record { below = b; is = ap (λ c. if c then specifiers_at known old else specifiers_at known old ++ at known id ∷ []) f }
    by false f = record {
      below = below_last (length known) old id b h;
      is = specifiers_last known old id ∙ ap (λ c. if c then specifiers_at known old else specifiers_at known old ++ at known id ∷ []) f;
    }

-- nothing was wanted
pub gathers_none : (known : List Specifier) (old : List ℕ) → AllBelow (length known) old → Gathers known old old []
gathers_none known old b = record { below = b; is = refl }

fold_append : (f : List Specifier → Specifier → List Specifier) (z : List Specifier) (xs ys : List Specifier) → fold f z (xs ++ ys) ≡ fold f (fold f z xs) ys
fold_append f z [] ys = refl
fold_append f z (x ∷ xs) ys = fold_append f (f z x) xs ys

-- first some, then others
pub gathers_both : (known : List Specifier) (old mid new : List ℕ) (xs ys : List Specifier) → Gathers known old mid xs → Gathers known mid new ys → Gathers known old new (xs ++ ys)
gathers_both known old mid new xs ys g h = record {
  below = h.below;
  is = h.is ∙ ap (λ z. fold with_new z ys) g.is ∙ sym (fold_append with_new (specifiers_at known old) xs ys);
}

-- what is wanted for each of a list of numbers
abbrev pub wants : (Specifier → List Specifier) → List Specifier → List ℕ → List Specifier
wants f known ids = flat_map f (specifiers_at known ids)

-- one more of a list that is gone through
pub specifiers_take : (known : List Specifier) (ids : List ℕ) (i id : ℕ) → i < length ids → id ≡ get_or ids i id → specifiers_at known (take (i + 1) ids) ≡ specifiers_at known (take i ids) ++ at known id ∷ []
specifiers_take known ids i id h e = ap (specifiers_at known) (take_more ids i id h ∙ ap (λ x. take i ids ++ x ∷ []) (sym e)) ∙ specifiers_last known (take i ids) id

pub wants_more : (f : Specifier → List Specifier) (known : List Specifier) (ids : List ℕ) (i id : ℕ) → i < length ids → id ≡ get_or ids i id → wants f known (take (i + 1) ids) ≡ wants f known (take i ids) ++ f (at known id)
wants_more f known ids i id h e = ap (flat_map f) (specifiers_take known ids i id h e) ∙ sym (flat_map_more f [] (specifiers_at known (take i ids)) (at known id))

pub gathers_more : (f : Specifier → List Specifier) (known : List Specifier) (ids : List ℕ) (i id : ℕ) (old mid new : List ℕ) → i < length ids → id ≡ get_or ids i id → Gathers known old mid (wants f known (take i ids)) → Gathers known mid new (f (at known id)) → Gathers known old new (wants f known (take (i + 1) ids))
gathers_more f known ids i id old mid new l e g h =
    subst (Gathers known old new) (sym (wants_more f known ids i id l e)) (gathers_both known old mid new _ _ g h)

-- the whole of it
pub gathers_whole : (f : Specifier → List Specifier) (known : List Specifier) (ids : List ℕ) (i : ℕ) (old new : List ℕ) → length ids ≤ i → Gathers known old new (wants f known (take i ids)) → Gathers known old new (wants f known ids)
gathers_whole f known ids i old new l g = subst (λ x. Gathers known old new (wants f known x)) (take_all i ids l) g

-- a number of the list is below what all are below
pub below_at : (n : ℕ) (ids : List ℕ) (i : ℕ) → AllBelow n ids → i < length ids → slice_index_or ids i 0 < n
below_at n [] i b h = absurd (omega arith)
below_at n (x ∷ ids) zero b h = b.0
below_at n (x ∷ ids) (suc i) b h = below_at n ids i b.1 (omega arith)

-- the atoms of a list, and what was put in for each of them
pub sides_gathered : (known list : List Specifier) (atoms shown cars cdrs : List ℕ) (i : ℕ) → shown ≡ atoms → length shown ≤ i
    → AllBelow (length known) atoms → specifiers_at known atoms ≡ atoms_of list
    → Gathers known [] cars (wants car_of known (take i shown)) → Gathers known [] cdrs (wants cdr_of known (take i shown))
    → AreSides known list atoms cars cdrs
unfolding cars_of cdrs_of
sides_gathered known list atoms shown cars cdrs i e l b are g h =
    let all = ap (specifiers_at known) e ∙ are in
    record {
      atoms_below = b;
      cars_below = g.below;
      cdrs_below = h.below;
      atoms_are = are;
      cars_are = (gathers_whole car_of known shown i _ _ l g).is ∙ ap (λ x. fold with_new [] (flat_map car_of x)) all;
      cdrs_are = (gathers_whole cdr_of known shown i _ _ l h).is ∙ ap (λ x. fold with_new [] (flat_map cdr_of x)) all;
    }
