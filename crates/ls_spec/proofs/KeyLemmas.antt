-- Different specifiers have different keys.
use Rattle.std.proofs.Common.{ℕ, ℤ, pos, ◌≡◌, ap, refl, sym, ◌∙◌, Bool, true, false, int_lt, unsigned_abs, List, [], ◌∷◌, ◌++◌, length, Option, Some, None, append_assoc, arith, encode_utf8_all}
use Rattle.std.proofs.lemmas.Int.{ints}
use Rattle.std.proofs.lemmas.Str.{encodes_same}
use Rattle.ls_object.proofs.RatLemmas.{same_rat}
use Rattle.ls_object.proofs.SymbolLemmas.{same_parts}
use Rattle.ls_object.specs.declared.rat.Rat.{Rat}
use Rattle.ls_object.specs.declared.symbol.Symbol.{Symbol}
use Rattle.ls_spec.specs.declared.spec.Point.{Point}
use Rattle.ls_spec.specs.declared.spec.Point.TheVariants as point
use Rattle.ls_spec.specs.declared.spec.RangeKind.{RangeKind}
use Rattle.ls_spec.specs.declared.spec.RangeKind.TheVariants.{Integer, Rational}
use Rattle.ls_spec.specs.declared.spec.Bound.{Bound}
use Rattle.ls_spec.specs.declared.spec.Bound.TheVariants.{Free, Incl, Excl}
use Rattle.ls_spec.specs.declared.spec.CharClass.{CharClass}
use Rattle.ls_spec.specs.declared.spec.CharClass.TheVariants as char_class
use Rattle.ls_spec.specs.declared.spec.SymClass.{SymClass}
use Rattle.ls_spec.specs.declared.spec.SymClass.TheVariants as symbol_class
use Rattle.ls_spec.specs.declared.spec.DimPattern.{DimPattern}
use Rattle.ls_spec.specs.declared.spec.DimPattern.TheVariants as dimensions
use Rattle.ls_spec.specs.Specifier.{Specifier, all_objects, no_objects, and_of, or_of, not_of, eql_to, range_of, chars_of, symbols_of, kind_of, structure_under, any_structure, array_any, array_of, string_of, cons_of, satisfies, Specifiers, no_more, also}
use Rattle.ls_spec.specs.Keys.{bool_number, rat_key, text_key, symbol_key, point_key, bound_key, range_kind_number, char_class_number, symbol_class_number, place_key, places_key, dimensions_key, key, keys}
use Rattle.ls_spec.proofs.TruthLemmas.{same_kind_number}

-- the key tells the value, also where more stands behind it
abbrev IsTold : {X : Type 0} → (X → List ℕ) → X → X → List ℕ → List ℕ → Type 0
IsTold code x y xs ys = code x ++ xs ≡ code y ++ ys → (x ≡ y) × (xs ≡ ys)

heads : (a b : ℕ) (xs ys : List ℕ) → a ∷ xs ≡ b ∷ ys → a ≡ b
heads a b xs ys e = cc

tails : (a b : ℕ) (xs ys : List ℕ) → a ∷ xs ≡ b ∷ ys → xs ≡ ys
tails a b xs ys e = cc

same_int : (x y : ℤ) → bool_number (int_lt x (pos 0)) ≡ bool_number (int_lt y (pos 0)) → unsigned_abs x ≡ unsigned_abs y → x ≡ y
same_int x y e f = grind (arith, ints)

rat_told : (r s : Rat) (xs ys : List ℕ) → IsTold rat_key r s xs ys
rat_told r s xs ys e =
    let a : bool_number (int_lt r.num (pos 0)) ≡ bool_number (int_lt s.num (pos 0)) = cc in
    let b : unsigned_abs r.num ≡ unsigned_abs s.num = cc in
    let c : r.den ≡ s.den = cc in
    (same_rat r s (same_int r.num s.num a b) c, cc)

-- lists of one length in front
fronts : (fs gs xs ys : List ℕ) → length fs ≡ length gs → fs ++ xs ≡ gs ++ ys → (fs ≡ gs) × (xs ≡ ys)
fronts [] [] xs ys l e = (refl, e)
fronts [] (b ∷ gs) xs ys l e = absurd (omega arith)
fronts (a ∷ fs) [] xs ys l e = absurd (omega arith)
fronts (a ∷ fs) (b ∷ gs) xs ys l e =
    let rest = fronts fs gs xs ys (omega arith) (tails a b (fs ++ xs) (gs ++ ys) e) in
    let first = heads a b (fs ++ xs) (gs ++ ys) e in
    let others = rest.0 in
    (cc, rest.1)

text_told : (cs ds : List ℕ) (xs ys : List ℕ) → IsTold text_key cs ds xs ys
text_told cs ds xs ys e =
    let both = fronts (encode_utf8_all cs) (encode_utf8_all ds) xs ys (heads _ _ (encode_utf8_all cs ++ xs) (encode_utf8_all ds ++ ys) e) (tails _ _ (encode_utf8_all cs ++ xs) (encode_utf8_all ds ++ ys) e) in
    (encodes_same cs ds both.0, both.1)

symbol_told : (s t : Symbol) (xs ys : List ℕ) → IsTold symbol_key s t xs ys
symbol_told s t xs ys e =
    let first = text_told s.package t.package (text_key s.name ++ xs) (text_key t.name ++ ys) (sym (append_assoc (text_key s.package) (text_key s.name) xs) ∙ e ∙ append_assoc (text_key t.package) (text_key t.name) ys) in
    let second = text_told s.name t.name xs ys first.1 in
    (same_parts s t first.0 second.0, second.1)

-- symbols with one key are equal
pub same_symbol_key : (s t : Symbol) → symbol_key s ≡ symbol_key t → s ≡ t
same_symbol_key s t e = (symbol_told s t [] [] (ap (λ k. k ++ []) e)).0

point_told : (p q : Point) (xs ys : List ℕ) → IsTold point_key p q xs ys
point_told (point.Number r) (point.Number s) xs ys e = let both = rat_told r s xs ys (tails 0 0 (rat_key r ++ xs) (rat_key s ++ ys) e) in (ap point.Number both.0, both.1)
point_told (point.Char c) (point.Char d) xs ys e = let f : c ≡ d = cc in (ap point.Char f, cc)
point_told (point.Sym s) (point.Sym t) xs ys e = let both = symbol_told s t xs ys (tails 2 2 (symbol_key s ++ xs) (symbol_key t ++ ys) e) in (ap point.Sym both.0, both.1)
point_told (point.Number r) _ xs ys e = absurd (cc)
point_told (point.Char c) _ xs ys e = absurd (cc)
point_told (point.Sym s) _ xs ys e = absurd (cc)

bound_told : (p q : Bound) (xs ys : List ℕ) → IsTold bound_key p q xs ys
bound_told Free Free xs ys e = (refl, cc)
bound_told (Incl r) (Incl s) xs ys e = let both = rat_told r s xs ys (tails 1 1 (rat_key r ++ xs) (rat_key s ++ ys) e) in (ap Incl both.0, both.1)
bound_told (Excl r) (Excl s) xs ys e = let both = rat_told r s xs ys (tails 2 2 (rat_key r ++ xs) (rat_key s ++ ys) e) in (ap Excl both.0, both.1)
bound_told Free _ xs ys e = absurd (cc)
bound_told (Incl r) _ xs ys e = absurd (cc)
bound_told (Excl r) _ xs ys e = absurd (cc)

same_range_kind : (j k : RangeKind) → range_kind_number j ≡ range_kind_number k → j ≡ k
same_range_kind Integer Integer e = refl
same_range_kind Rational Rational e = refl
same_range_kind Integer Rational e = cc
same_range_kind Rational Integer e = cc

same_char_class : (j k : CharClass) → char_class_number j ≡ char_class_number k → j ≡ k
same_char_class char_class.Any char_class.Any e = refl
same_char_class char_class.Base char_class.Base e = refl
same_char_class char_class.Standard char_class.Standard e = refl
same_char_class char_class.Any _ e = absurd (cc)
same_char_class char_class.Base _ e = absurd (cc)
same_char_class char_class.Standard _ e = absurd (cc)

same_symbol_class : (j k : SymClass) → symbol_class_number j ≡ symbol_class_number k → j ≡ k
same_symbol_class symbol_class.Any symbol_class.Any e = refl
same_symbol_class symbol_class.Keyword symbol_class.Keyword e = refl
same_symbol_class symbol_class.Any symbol_class.Keyword e = cc
same_symbol_class symbol_class.Keyword symbol_class.Any e = cc

same_bool : (a b : Bool) → bool_number a ≡ bool_number b → a ≡ b
same_bool true true e = refl
same_bool false false e = refl
same_bool true false e = cc
same_bool false true e = cc

place_told : (p q : Option ℕ) (xs ys : List ℕ) → IsTold place_key p q xs ys
place_told None None xs ys e = (refl, cc)
place_told (Some m) (Some n) xs ys e = let f : m ≡ n = cc in (ap Some f, cc)
place_told None (Some n) xs ys e = absurd (cc)
place_told (Some m) None xs ys e = absurd (cc)

places_told : (ps qs : List (Option ℕ)) (xs ys : List ℕ) → IsTold places_key ps qs xs ys
places_told [] [] xs ys e = (refl, cc)
places_told (p ∷ ps) (q ∷ qs) xs ys e =
    let first = place_told p q (places_key ps ++ xs) (places_key qs ++ ys) (sym (append_assoc (place_key p) (places_key ps) xs) ∙ tails 1 1 ((place_key p ++ places_key ps) ++ xs) ((place_key q ++ places_key qs) ++ ys) e ∙ append_assoc (place_key q) (places_key qs) ys) in
    let rest = places_told ps qs xs ys first.1 in
    let one = first.0 in
    let more = rest.0 in
    (cc, rest.1)
places_told [] (q ∷ qs) xs ys e = absurd (cc)
places_told (p ∷ ps) [] xs ys e = absurd (cc)

dimensions_told : (p q : DimPattern) (xs ys : List ℕ) → IsTold dimensions_key p q xs ys
dimensions_told dimensions.Any dimensions.Any xs ys e = (refl, cc)
dimensions_told (dimensions.Places ps) (dimensions.Places qs) xs ys e = let both = places_told ps qs xs ys (tails 1 1 (places_key ps ++ xs) (places_key qs ++ ys) e) in (ap dimensions.Places both.0, both.1)
dimensions_told dimensions.Any (dimensions.Places qs) xs ys e = absurd (cc)
dimensions_told (dimensions.Places ps) dimensions.Any xs ys e = absurd (cc)

mutual
  -- the key tells the specifier
  pub key_told : (s t : Specifier) (xs ys : List ℕ) → IsTold key s t xs ys
  key_told all_objects all_objects xs ys e = (refl, cc)
  key_told no_objects no_objects xs ys e = (refl, cc)
  key_told (and_of ss) (and_of ts) xs ys e = let both = keys_told ss ts xs ys (tails 2 2 (keys ss ++ xs) (keys ts ++ ys) e) in (ap and_of both.0, both.1)
  key_told (or_of ss) (or_of ts) xs ys e = let both = keys_told ss ts xs ys (tails 3 3 (keys ss ++ xs) (keys ts ++ ys) e) in (ap or_of both.0, both.1)
  key_told (not_of s) (not_of t) xs ys e = let both = key_told s t xs ys (tails 4 4 (key s ++ xs) (key t ++ ys) e) in (ap not_of both.0, both.1)
  key_told (eql_to p) (eql_to q) xs ys e = let both = point_told p q xs ys (tails 5 5 (point_key p ++ xs) (point_key q ++ ys) e) in (ap eql_to both.0, both.1)
  key_told (range_of j lo hi) (range_of k low high) xs ys e =
      let kind = same_range_kind j k (cc) in
      let f : (bound_key lo ++ bound_key hi) ++ xs ≡ (bound_key low ++ bound_key high) ++ ys = cc in
      let first = bound_told lo low (bound_key hi ++ xs) (bound_key high ++ ys) (sym (append_assoc (bound_key lo) (bound_key hi) xs) ∙ f ∙ append_assoc (bound_key low) (bound_key high) ys) in
      let second = bound_told hi high xs ys first.1 in
      let g = first.0 in
      let h = second.0 in
      (cc, second.1)
  key_told (chars_of j) (chars_of k) xs ys e = let f = same_char_class j k (cc) in (ap chars_of f, cc)
  key_told (symbols_of j) (symbols_of k) xs ys e = let f = same_symbol_class j k (cc) in (ap symbols_of f, cc)
  key_told (kind_of j) (kind_of k) xs ys e = let f = same_kind_number j k (cc) in (ap kind_of f, cc)
  key_told (structure_under s) (structure_under t) xs ys e = let both = symbol_told s t xs ys (tails 10 10 (symbol_key s ++ xs) (symbol_key t ++ ys) e) in (ap structure_under both.0, both.1)
  key_told any_structure any_structure xs ys e = (refl, cc)
  key_told (array_any a dims) (array_any b dimes) xs ys e =
      let f = same_bool a b (cc) in
      let both = dimensions_told dims dimes xs ys (cc) in
      let g = both.0 in
      (cc, both.1)
  key_told (array_of s a dims) (array_of t b dimes) xs ys e =
      let f = same_bool a b (cc) in
      let k : (dimensions_key dims ++ key s) ++ xs ≡ (dimensions_key dimes ++ key t) ++ ys = cc in
      let first = dimensions_told dims dimes (key s ++ xs) (key t ++ ys) (sym (append_assoc (dimensions_key dims) (key s) xs) ∙ k ∙ append_assoc (dimensions_key dimes) (key t) ys) in
      let second = key_told s t xs ys first.1 in
      let g = first.0 in
      let h = second.0 in
      (cc, second.1)
  key_told (string_of a dim) (string_of b dime) xs ys e =
      let f = same_bool a b (cc) in
      let both = place_told dim dime xs ys (cc) in
      let g = both.0 in
      (cc, both.1)
  key_told (cons_of a b) (cons_of c d) xs ys e =
      let f = tails 15 15 ((key a ++ key b) ++ xs) ((key c ++ key d) ++ ys) e in
      let first = key_told a c (key b ++ xs) (key d ++ ys) (sym (append_assoc (key a) (key b) xs) ∙ f ∙ append_assoc (key c) (key d) ys) in
      let second = key_told b d xs ys first.1 in
      let g = first.0 in
      let h = second.0 in
      (cc, second.1)
  key_told (satisfies s) (satisfies t) xs ys e = let both = symbol_told s t xs ys (tails 16 16 (symbol_key s ++ xs) (symbol_key t ++ ys) e) in (ap satisfies both.0, both.1)
  key_told all_objects _ xs ys e = absurd (omega (arith, heads 0 _ _ _ e))
  key_told no_objects _ xs ys e = absurd (omega (arith, heads 1 _ _ _ e))
  key_told (and_of ss) _ xs ys e = absurd (omega (arith, heads 2 _ _ _ e))
  key_told (or_of ss) _ xs ys e = absurd (omega (arith, heads 3 _ _ _ e))
  key_told (not_of s) _ xs ys e = absurd (omega (arith, heads 4 _ _ _ e))
  key_told (eql_to p) _ xs ys e = absurd (omega (arith, heads 5 _ _ _ e))
  key_told (range_of k lo hi) _ xs ys e = absurd (omega (arith, heads 6 _ _ _ e))
  key_told (chars_of k) _ xs ys e = absurd (omega (arith, heads 7 _ _ _ e))
  key_told (symbols_of k) _ xs ys e = absurd (omega (arith, heads 8 _ _ _ e))
  key_told (kind_of k) _ xs ys e = absurd (omega (arith, heads 9 _ _ _ e))
  key_told (structure_under s) _ xs ys e = absurd (omega (arith, heads 10 _ _ _ e))
  key_told any_structure _ xs ys e = absurd (omega (arith, heads 11 _ _ _ e))
  key_told (array_any a dims) _ xs ys e = absurd (omega (arith, heads 12 _ _ _ e))
  key_told (array_of s a dims) _ xs ys e = absurd (omega (arith, heads 13 _ _ _ e))
  key_told (string_of a dim) _ xs ys e = absurd (omega (arith, heads 14 _ _ _ e))
  key_told (cons_of a b) _ xs ys e = absurd (omega (arith, heads 15 _ _ _ e))
  key_told (satisfies s) _ xs ys e = absurd (omega (arith, heads 16 _ _ _ e))

  keys_told : (ss ts : Specifiers) (xs ys : List ℕ) → IsTold keys ss ts xs ys
  keys_told no_more no_more xs ys e = (refl, cc)
  keys_told (also s ss) (also t ts) xs ys e =
      let f = tails 1 1 ((key s ++ keys ss) ++ xs) ((key t ++ keys ts) ++ ys) e in
      let first = key_told s t (keys ss ++ xs) (keys ts ++ ys) (sym (append_assoc (key s) (keys ss) xs) ∙ f ∙ append_assoc (key t) (keys ts) ys) in
      let rest = keys_told ss ts xs ys first.1 in
      let g = first.0 in
      let h = rest.0 in
      (cc, rest.1)
  keys_told no_more (also t ts) xs ys e = absurd (cc)
  keys_told (also s ss) no_more xs ys e = absurd (cc)
