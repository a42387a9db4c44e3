-- Places in a list of structure types, each of which stands behind the one that it includes.
use Rattle.std.proofs.Common.{◌≡◌, ℕ, zero, suc, ◌<◌, ◌≤◌, List, [], ◌∷◌, ◌++◌, length, take, get_or, Option, Some, None, Bool, true, false, inl, inr, refl, sym, subst, ap, ◌∙◌, append-nil, append_assoc, Result, Ok, Err, IsOk, IfOk, if◌then◌else◌, arith}
use Rattle.std.specs.Prelude.{slice_get, slice_index_or, option_map, is_some, MatchOption}
use Rattle.std.specs.Bool.{Decides}
use Rattle.std.specs.List.{Contains, list_any, position}
use Rattle.indexmap.specs.IndexSet.{insert_key}
use Rattle.std.proofs.lemmas.Bool.{cases_order, true≢false, false≢true, false_from_ne_true}
use Rattle.std.proofs.lemmas.Bool.Decides.{Decides-at, Decides-like}
use Rattle.std.proofs.lemmas.List.{length-take, get_or-take, map-append}
use Rattle.std.proofs.lemmas.List.Folds.{list_any_at}
use Rattle.std.proofs.lemmas.Map.Views.{Contains-from_any}
use Rattle.std.proofs.lemmas.List.Quantifiers.{position-Some}
use Rattle.std.proofs.lemmas.Option.{none-some, same_Some, slice_get_within, get_or_from_slice_get, slice_get-get_or, slice_get-map}
use Rattle.ls_object.specs.declared.symbol.Symbol.{Symbol}
use Rattle.ls_object.specs.Symbols.{same_symbol}
use Rattle.ls_object.specs.Universe.{Structures, IsStructureOf}
use Rattle.ls_object.specs.Inclusion.{Under, itself, through, MayFollow, AreIncludedBefore, IsInclusionOrder}
use Rattle.ls_object.specs.steps.Places.{names_of, IsIndexed, IsAt, IsRoot, IsBelow}
use Rattle.ls_object.proofs.SymbolLemmas.{Decides-symbol}
use Rattle.ls_object.proofs.InclusionLemmas.{IsInclusionOrder-push}

abbrev Pair : Type 0
Pair = Symbol × Option Symbol

-- what stands at a place is in the list
pub at_place : (s : Structures) (i : ℕ) (p : Pair) → slice_get s i ≡ Some p → Contains s p
at_place s i p e = (i, slice_get_within s i p e, get_or_from_slice_get s i p p e)

-- what is in the list stands at a place
place_of : (s : Structures) (p : Pair) → Contains s p → (i : ℕ) × (slice_get s i ≡ Some p)
place_of s p (i, within, e) = (i, slice_get-get_or s i p within ∙ ap (λ (q : Pair). Some q) e)

-- the one at a place may stand behind those before it
may_follow : (before more : Structures) (i : ℕ) (p : Pair) → AreIncludedBefore before more → slice_get more i ≡ Some p → MayFollow (before ++ take i more) p
may_follow before [] i p h e = absurd (none-some p e)
may_follow before (q ∷ more) zero p h e =
    subst (λ t. MayFollow t p) (sym (append-nil before)) (subst (MayFollow before) (same_Some q p e) h.0)
may_follow before (q ∷ more) (suc i) p h e =
    subst (λ t. MayFollow t p) (append_assoc before (q ∷ []) (take i more)) (may_follow (before ++ q ∷ []) more i p h.1 e)

pub order_at : (s : Structures) (i : ℕ) (p : Pair) → IsInclusionOrder s → slice_get s i ≡ Some p → MayFollow (take i s) p
order_at s i p h e = may_follow [] s i p h e

-- what stands at an earlier place is in the front
in_front : (s : Structures) (i j : ℕ) (p : Pair) → i < j → slice_get s i ≡ Some p → Contains (take j s) p
in_front s i j p h e =
    let within = slice_get_within s i p e in
    let n = length-take j s in
    (i, omega (arith, h, within, n), get_or-take j s i p h ∙ get_or_from_slice_get s i p p e)

-- what is in the front stands at an earlier place
from_front : (s : Structures) (j : ℕ) (p : Pair) → Contains (take j s) p → (i : ℕ) × ((i < j) × (slice_get s i ≡ Some p))
from_front s j p (i, within, e) =
    let n = length-take j s in
    let before : i < j = omega (arith, within, n) in
    let inside : i < length s = omega (arith, within, n) in
    (i, (before, slice_get-get_or s i p inside ∙ ap (λ (q : Pair). Some q) (sym (get_or-take j s i p before) ∙ e)))

-- names at two places differ
names_differ : (s : Structures) (i j : ℕ) (x : Symbol) (a b : Option Symbol) → IsInclusionOrder s → slice_get s i ≡ Some (x, a) → slice_get s j ≡ Some (x, b) → i < j → ⊥
names_differ s i j x a b h e f before = (order_at s j (x, b) h f).0 (a, in_front s i j (x, a) before e)

-- so a name has one place
pub one_place : (s : Structures) (i j : ℕ) (x : Symbol) (a b : Option Symbol) → IsInclusionOrder s → slice_get s i ≡ Some (x, a) → slice_get s j ≡ Some (x, b) → i ≡ j
one_place s i j x a b h e f = elim (cases_order i j) as (λ _. i ≡ j) [
  | inl same ↦ same
  | inr (inl before) ↦ absurd (names_differ s i j x a b h e f before)
  | inr (inr behind) ↦ absurd (names_differ s j i x b a h f e behind)
]

-- and includes one name, or none
one_include : (s : Structures) (x : Symbol) (a b : Option Symbol) → IsInclusionOrder s → Contains s (x, a) → Contains s (x, b) → a ≡ b
one_include s x a b h c d =
    let p = place_of s (x, a) c in
    let q = place_of s (x, b) d in
    let same = one_place s p.0 q.0 x a b h p.1 q.1 in
    ap (λ (r : Pair). r.1) (same_Some (x, a) (x, b) (sym p.1 ∙ ap (slice_get s) same ∙ q.1))

-- an included name stands at an earlier place
pub include_before : (s : Structures) (i : ℕ) (x z : Symbol) → IsInclusionOrder s → slice_get s i ≡ Some (x, Some z)
    → (k : ℕ) × ((c : Option Symbol) × ((k < i) × (slice_get s k ≡ Some (z, c))))
include_before s i x z h e =
    let q = (order_at s i (x, Some z) h e).1 z refl in
    let r = from_front s i (z, q.0) q.1 in
    (r.0, (q.0, r.1))

-- a chain goes to no later place
pub goes_down : (s : Structures) (i : ℕ) (x y : Symbol) (a : Option Symbol) → IsInclusionOrder s → slice_get s i ≡ Some (x, a) → Under s x y
    → (j : ℕ) × ((b : Option Symbol) × ((j ≤ i) × (slice_get s j ≡ Some (y, b))))
goes_down s i x y a h e (itself) = (i, (a, (omega arith, e)))
goes_down s i x y a h e (through {z = z} c u) =
    let p = place_of s (x, Some z) c in
    let q = include_before s p.0 x z h p.1 in
    let same = one_place s p.0 i x (Some z) a h p.1 e in
    let down = goes_down s q.0 z y q.1.0 h q.1.1.1 u in
    let less = q.1.1.0 in
    let most = down.1.1.0 in
    (down.0, (down.1.0, (omega (arith, same, less, most), down.1.1.1)))

-- from a structure type that includes another the chains to a third name are those from that
pub chains_through : (s : Structures) (x z y : Symbol) → IsInclusionOrder s → Contains s (x, Some z) → (x ≡ y → ⊥) → Under s x y → Under s z y
chains_through s x z y h c other (itself) = absurd (other refl)
chains_through s x z y h c other (through {z = w} d u) =
    subst (λ t. Under s t y) (same_Some w z (one_include s x (Some w) (Some z) h d c)) u

-- from one that includes none no chain leads to another name
pub chains_end : (s : Structures) (x y : Symbol) → IsInclusionOrder s → Contains s (x, None) → (x ≡ y → ⊥) → Under s x y → ⊥
chains_end s x y h c other (itself) = other refl
chains_end s x y h c other (through {z = w} d u) = none-some w (one_include s x None (Some w) h c d)

-- the chains from a name that is not listed go nowhere
unlisted_first : (s : Structures) (x y : Symbol) → (IsStructureOf s x → ⊥) → Under s x y → x ≡ y
unlisted_first s x y none (itself) = refl
unlisted_first s x y none (through {z = z} c u) = absurd (none (Some z, c))

-- nor do those from a listed one go to a name that is not
unlisted_second : (s : Structures) (i : ℕ) (x y : Symbol) → IsInclusionOrder s → IsAt s i x → (IsStructureOf s y → ⊥) → Under s x y → ⊥
unlisted_second s i x y h at none u =
    let down = goes_down s i x y at.0 h at.1 u in
    none (down.1.0, at_place s down.0 (y, down.1.0) down.1.1.1)

-- ---- the index of names

-- the structure type at a place of the names
named_at : (s : Structures) (i : ℕ) (x : Symbol) → slice_get (names_of s) i ≡ Some x → IsAt s i x
named_at [] i x e = absurd (none-some x e)
named_at (p ∷ s) zero x e = (p.1, ap (λ (t : Symbol). Some (t, p.1)) (same_Some p.0 x e))
named_at (p ∷ s) (suc i) x e = named_at s i x e

-- a name that is found has this place
found_at : (s : Structures) (keys : List Symbol) (x : Symbol) (i : ℕ) → keys ≡ names_of s → position (same_symbol x) keys ≡ Some i → IsAt s i x
found_at s keys x i e f =
    let p = position-Some (same_symbol x) (names_of s) i x (ap (position (same_symbol x)) (sym e) ∙ f) in
    let is = (Decides-symbol x (get_or (names_of s) i x)).0 p.1 in
    named_at s i x (slice_get-get_or (names_of s) i x p.0 ∙ ap (λ (t : Symbol). Some t) (sym is))

-- its name stands at the place of a structure type
name_at : (s : Structures) (i : ℕ) (x : Symbol) (a : Option Symbol) → slice_get s i ≡ Some (x, a) → slice_get (names_of s) i ≡ Some x
name_at s i x a e = slice_get-map (λ (p : Pair). p.0) s i ∙ ap (option_map (λ (p : Pair). p.0)) e

-- a listed name is found
pub listed_any : (s : Structures) (keys : List Symbol) (x : Symbol) → keys ≡ names_of s → IsStructureOf s x → list_any (same_symbol x) keys ≡ true
listed_any s keys x e (a, c) =
    let p = place_of s (x, a) c in
    let named = name_at s p.0 x a p.1 in
    let here = get_or_from_slice_get (names_of s) p.0 x x named in
    ap (list_any (same_symbol x)) e
    ∙ list_any_at (same_symbol x) (names_of s) p.0 x (slice_get_within (names_of s) p.0 x named)
    (ap (same_symbol x) here ∙ (Decides-symbol x x).1 refl)

-- and what is found is listed
pub any_listed : (s : Structures) (keys : List Symbol) (x : Symbol) → keys ≡ names_of s → list_any (same_symbol x) keys ≡ true → IsStructureOf s x
any_listed s keys x e h =
    let c = Contains-from_any (λ (p q : Symbol) (same : same_symbol p q ≡ true). (Decides-symbol p q).0 same) x keys h in
    let at = named_at s c.0 x (ap (λ (ks : List Symbol). slice_get ks c.0) (sym e) ∙ slice_get-get_or keys c.0 x c.1 ∙ ap (λ (t : Symbol). Some t) c.2) in
    (at.0, at_place s c.0 (x, at.0) at.1)

-- what the look-up of a name tells
pub found_is : (s : Structures) (keys : List Symbol) (x : Symbol) (r : Option ℕ) → keys ≡ names_of s → r ≡ position (same_symbol x) keys → is_some r ≡ list_any (same_symbol x) keys
    → MatchOption r (IsStructureOf s x → ⊥) (λ at. IsAt s at x)
found_is s keys x None e f g = λ listed. true≢false (sym (listed_any s keys x e listed) ∙ sym g)
found_is s keys x (Some i) e f g = found_at s keys x i e (sym f)

-- the place of the one that is included
pub above_is : (s : Structures) (at : ℕ) (x z : Symbol) (r : Option ℕ) → IsInclusionOrder s → slice_get s at ≡ Some (x, Some z)
    → MatchOption r (IsStructureOf s z → ⊥) (λ up. IsAt s up z) → MatchOption r (IsRoot s x) (IsBelow s at x)
above_is s at x z None h e none =
    let q = include_before s at x z h e in
    absurd (none (q.1.0, at_place s q.0 (z, q.1.0) q.1.1.1))
above_is s at x z (Some up) h e found =
    let q = include_before s at x z h e in
    let same = one_place s up q.0 z found.0 q.1.0 h found.1 q.1.1.1 in
    let before = q.1.1.0 in
    record { included = z; includes = at_place s at (x, Some z) e; above = found; earlier = omega (arith, same, before) }

-- ---- the walk from one to another

-- the chains from x to y are those from the name at the place
abbrev pub IsOnWay : Structures → Symbol → Symbol → ℕ → Type 0
IsOnWay s x y at = (u : Symbol) × (IsAt s at u × ((Under s u y → Under s x y) × (Under s x y → Under s u y)))

-- at first that is x itself
pub way_begins : (s : Structures) (x y : Symbol) (from : ℕ) → IsAt s from x → IsOnWay s x y from
way_begins s x y from at = (x, (at, (λ u. u, λ u. u)))

-- where the walk is behind y, its name is another
not_there : (s : Structures) (u y : Symbol) (at to : ℕ) → IsInclusionOrder s → IsAt s at u → IsAt s to y → to < at → u ≡ y → ⊥
not_there s u y at to h here there behind same =
    let one = one_place s at to y here.0 there.0 h (subst (λ (t : Symbol). slice_get s at ≡ Some (t, here.0)) same here.1) there.1 in
    omega (arith, one, behind)

-- a step up
pub way_on : (s : Structures) (x y : Symbol) (at to up : ℕ) → IsInclusionOrder s → IsAt s to y → to < at
    → ((u : Symbol) → IsAt s at u → IsBelow s at u up) → IsOnWay s x y at → IsOnWay s x y up
way_on s x y at to up h there behind step (u, (here, (back, forth))) =
    let b = step u here in (
      b.included,
      (
        b.above,
        (
          λ v. back (through b.includes v),
          λ v. chains_through s u b.included y h b.includes (not_there s u y at to h here there behind) (forth v),
        ),
      ),
    )

-- no step up is left, and y was not come to
pub way_ends : (s : Structures) (x y : Symbol) (at to : ℕ) → IsInclusionOrder s → IsAt s to y → to < at
    → ((u : Symbol) → IsAt s at u → IsRoot s u) → IsOnWay s x y at → Under s x y → ⊥
way_ends s x y at to h there behind root (u, (here, (back, forth))) v =
    chains_end s u y h (root u here) (not_there s u y at to h here there behind) (forth v)

-- the place of y, or one before it, was come to
pub way_done : (s : Structures) (x y : Symbol) (at to : ℕ) (b : Bool) → IsInclusionOrder s → IsAt s to y → at ≤ to → Decides b (at ≡ to)
    → IsOnWay s x y at → Decides b (Under s x y)
way_done s x y at to b h there most is (u, (here, (back, forth))) =
    Decides-like b
    (λ (same : at ≡ to).
    let e = at_one s at to u y here there same in
    back (subst (λ (t : Symbol). Under s u t) e itself))
    (λ v.
    let down = goes_down s at u y here.0 h here.1 (forth v) in
    let one = one_place s down.0 to y down.1.0 there.0 h down.1.1.1 there.1 in
    let less = down.1.1.0 in
    omega (arith, one, less, most))
    is
  where
    at_one : (s : Structures) (at to : ℕ) (u y : Symbol) → IsAt s at u → IsAt s to y → at ≡ to → u ≡ y
    at_one s at to u y here there same =
        ap (λ (p : Pair). p.0) (same_Some (u, here.0) (y, there.0) (sym here.1 ∙ ap (slice_get s) same ∙ there.1))

-- ---- the fields of a list

-- whether a name is listed
pub contains_is : (s : Structures) (keys : List Symbol) (x : Symbol) (b : Bool) → IsIndexed keys s → b ≡ list_any (same_symbol x) keys → Decides b (IsStructureOf s x)
contains_is s keys x b i e = (λ h. any_listed s keys x i.same (sym e ∙ h), λ listed. e ∙ listed_any s keys x i.same listed)

-- one more name is put into the index
key_pushed : (s : Structures) (keys new : List Symbol) (x : Symbol) (a : Option Symbol) → keys ≡ names_of s → (IsStructureOf s x → ⊥) → new ≡ insert_key same_symbol keys x
    → new ≡ names_of (s ++ (x, a) ∷ [])
key_pushed s keys new x a e is_new put =
    let absent = false_from_ne_true (list_any (same_symbol x) keys) (λ h. is_new (any_listed s keys x e h)) in
    put ∙ ap (λ (b : Bool). if b then keys else keys ++ x ∷ []) absent ∙ ap (λ (ks : List Symbol). ks ++ x ∷ []) e
    ∙ sym (map-append (λ (p : Pair). p.0) s ((x, a) ∷ []))

-- one more structure type is put behind the others
pub indexed_more : {E : Type 0} (s pairs : Structures) (keys new : List Symbol) (x : Symbol) (a : Option Symbol) (r : Result Bool E) → IsIndexed keys s → MayFollow s (x, a)
    → pairs ≡ s ++ (x, a) ∷ [] → IsOk r → IfOk r (λ b. new ≡ insert_key same_symbol keys x) → IsIndexed new pairs
indexed_more s pairs keys new x a (Err e) i may is ok put = absurd (false≢true ok)
indexed_more s pairs keys new x a (Ok b) i may is ok put =
    subst (IsIndexed new) (sym is) (record { order = IsInclusionOrder-push s (x, a) i.order may; same = key_pushed s keys new x a i.same may.0 put })

-- the structure type that is read at a place
read_at : (s lent : Structures) (at : ℕ) (p : Pair) (x : Symbol) (a : Option Symbol) → lent ≡ s → p ≡ slice_index_or lent at p → slice_get s at ≡ Some (x, a) → p ≡ (x, a)
read_at s lent at p x a same is e =
    is ∙ ap (λ (l : Structures). slice_index_or l at p) same ∙ get_or_from_slice_get s at (x, a) p e

-- the one at a place includes another
pub above_some : (s lent : Structures) (at : ℕ) (p : Pair) (z : Symbol) (r : Option ℕ) → IsInclusionOrder s → lent ≡ s → p ≡ slice_index_or lent at p → p.1 ≡ Some z
    → MatchOption r (IsStructureOf s z → ⊥) (λ up. IsAt s up z) → (x : Symbol) → IsAt s at x → MatchOption r (IsRoot s x) (IsBelow s at x)
above_some s lent at p z r h same is some found x (a, e) =
    let includes = ap (λ (q : Pair). q.1) (sym (read_at s lent at p x a same is e)) ∙ some in
    above_is s at x z r h (e ∙ ap (λ (b : Option Symbol). Some (x, b)) includes) found

-- or it includes none
pub above_none : (s lent : Structures) (at : ℕ) (p : Pair) → lent ≡ s → p ≡ slice_index_or lent at p → p.1 ≡ None → (x : Symbol) → IsAt s at x → IsRoot s x
above_none s lent at p same is none x (a, e) =
    let includes = ap (λ (q : Pair). q.1) (sym (read_at s lent at p x a same is e)) ∙ none in
    at_place s at (x, None) (e ∙ ap (λ (b : Option Symbol). Some (x, b)) includes)

-- the one that is read at a place may follow a copy of those before it
pub may_be_next : (s lent copied : Structures) (i : ℕ) (p : Pair) (n : Symbol) (a : Option Symbol) → IsInclusionOrder s → lent ≡ s → i < length s → p ≡ slice_index_or lent i p
    → copied ≡ take i s → n ≡ p.0 → a ≡ p.1 → MayFollow copied (n, a)
may_be_next s lent copied i p n a h same within is front named included =
    let here = slice_get-get_or s i p within ∙ ap (λ (q : Pair). Some q) (sym (is ∙ ap (λ (l : Structures). slice_index_or l i p) same)) in
    let may = order_at s i p h here in
    subst (λ (t : Structures). MayFollow t (n, a)) (sym front)
    (subst (λ (m : Symbol). MayFollow (take i s) (m, a)) (sym named) (subst (λ (b : Option Symbol). MayFollow (take i s) (p.0, b)) (sym included) may))

-- a name that is not listed is under itself alone
pub alone : (s : Structures) (x y : Symbol) (b : Bool) → (IsStructureOf s x → ⊥) → b ≡ same_symbol x y → Decides b (Under s x y)
alone s x y b none e =
    Decides-at b (same_symbol x y) e (Decides-like (same_symbol x y) (λ same. subst (Under s x) same itself) (unlisted_first s x y none) (Decides-symbol x y))

-- a listed one is under none that is not
pub under_none : (s : Structures) (at : ℕ) (x y : Symbol) → IsInclusionOrder s → IsAt s at x → (IsStructureOf s y → ⊥) → Decides false (Under s x y)
under_none s at x y h here none = (λ e. absurd (false≢true e), λ u. absurd (unlisted_second s at x y h here none u))

-- the name at a place of the list
some_name : (s : Structures) (at : ℕ) → at < length s → (u : Symbol) × IsAt s at u
some_name [] at h = absurd (omega (arith, h))
some_name (p ∷ s) zero h = (p.0, (p.1, refl))
some_name (p ∷ s) (suc at) h = some_name s at (omega (arith, h))

-- a step goes to an earlier place
pub step_is_back : (s : Structures) (at up : ℕ) → at < length s → ((u : Symbol) → IsAt s at u → IsBelow s at u up) → up < at
step_is_back s at up h step = let n = some_name s at h in (step n.0 n.1).earlier

pub step_is_within : (s : Structures) (at up : ℕ) → at < length s → ((u : Symbol) → IsAt s at u → IsBelow s at u up) → up < length s
step_is_within s at up h step = let less = step_is_back s at up h step in omega (arith, h, less)
