-- What is kept of codes by the numbers of their element types.
use Rattle.std.proofs.Common.{ℕ, zero, suc, ◌≡◌, ◌<◌, refl, sym, ◌∙◌, ap, subst, arith, List, [], ◌∷◌, ◌++◌, length, length-append, Bool, true, false, true≢false, if◌then◌else◌, Option, None, Some, MatchOption, nat_eq}
use Rattle.std.specs.List.{AllByRecursion}
use Rattle.std.specs.Cmp.Lexicographic.{pointwise}
use Rattle.ls_object.specs.declared.table.Code.{Code}
use Rattle.ls_object.specs.Universe.{Structures}
use Rattle.ls_object.proofs.SymbolLemmas.{Decides-text}
use Rattle.ls_spec.specs.Specifier.{Specifier}
use Rattle.ls_spec.specs.Membership.{UpgradesTo}
use Rattle.ls_spec.proofs.ListLemmas.{AllByRecursion-append}
use Rattle.ls_intern.specs.Places.{at, Distinct, Extends}
use Rattle.ls_intern.proofs.PlaceLemmas.{at_front}
use Rattle.ls_memo.specs.Kept.{kept_for}
use Rattle.ls_cells.specs.Codes.{AreUpgraded, IsKnown, first_number, codes_of, IsKeyBelow, AreCodes}

abbrev Memo : Type 0
Memo = List (List ℕ × Code)

-- each key is the number of a known specifier
abbrev AreKeys : List Specifier → Memo → Type 0
AreKeys known memo = AllByRecursion (λ e. IsKeyBelow (length known) e.0) memo

-- a table that grows leaves what is learnt
key_same : (a b : List Specifier) (key : List ℕ) → Extends a b → IsKeyBelow (length a) key → at b (first_number key) ≡ at a (first_number key)
key_same a b [] g h = absurd h
key_same a b (i ∷ []) g h = ap (λ l. at l i) g.is ∙ at_front a g.more i h
key_same a b (i ∷ j ∷ key) g h = absurd h

key_grown : (a b : List Specifier) (key : List ℕ) → Extends a b → IsKeyBelow (length a) key → IsKeyBelow (length b) key
key_grown a b [] g h = absurd h
key_grown a b (i ∷ []) g h = let e = ap length g.is in let f = length-append a g.more in omega arith
key_grown a b (i ∷ j ∷ key) g h = absurd h

pub codes_same : (a b : List Specifier) (memo : Memo) → Extends a b → AreKeys a memo → codes_of b memo ≡ codes_of a memo
codes_same a b [] g h = refl
codes_same a b (x ∷ memo) g h =
    let e = key_same a b x.0 g h.0 in
    let f = codes_same a b memo g h.1 in
    ap (λ s. (s, x.1.index) ∷ codes_of b memo) e ∙ ap (λ l. (at a (first_number x.0), x.1.index) ∷ l) f

keys_grown : (a b : List Specifier) (memo : Memo) → Extends a b → AreKeys a memo → AreKeys b memo
keys_grown a b [] g h = tt
keys_grown a b (x ∷ memo) g h = (key_grown a b x.0 g h.0, keys_grown a b memo g h.1)

pub codes_grown : (structures : Structures) (a b : List Specifier) (memo : Memo) → Extends a b → AreCodes structures a memo → AreCodes structures b memo
codes_grown structures a b memo g h = record {
  keys = keys_grown a b memo g h.keys;
  right = subst (AreUpgraded structures) (sym (codes_same a b memo g h.keys)) h.right;
}

-- one more code behind the others
pub codes_last : (known : List Specifier) (memo : Memo) (key : List ℕ) (code : Code) → codes_of known (memo ++ (key, code) ∷ []) ≡ codes_of known memo ++ (at known (first_number key), code.index) ∷ []
codes_last known [] key code = refl
codes_last known (x ∷ memo) key code = ap (λ l. (at known (first_number x.0), x.1.index) ∷ l) (codes_last known memo key code)

pub codes_put : (known : List Specifier) (old new : Memo) (key : List ℕ) (element : ℕ) (code : Code) → key ≡ element ∷ [] → new ≡ old ++ (key, code) ∷ []
    → codes_of known new ≡ codes_of known old ++ (at known element, code.index) ∷ []
codes_put known old new key element code e f =
    ap (codes_of known) f ∙ codes_last known old key code ∙ ap (λ k. codes_of known old ++ (at known (first_number k), code.index) ∷ []) e

pub codes_more : (structures : Structures) (known : List Specifier) (old new : Memo) (key : List ℕ) (element : ℕ) (code : Code) → AreCodes structures known old → key ≡ element ∷ [] → element < length known
    → UpgradesTo structures (at known element) code.index → new ≡ old ++ (key, code) ∷ [] → AreCodes structures known new
codes_more structures known old new key element code h e l u f = record {
  keys = subst (AreKeys known) (sym f) (AllByRecursion-append (λ x. IsKeyBelow (length known) x.0) old ((key, code) ∷ []) h.keys (subst (IsKeyBelow (length known)) (sym e) l, tt));
  right = subst (AreUpgraded structures) (sym (codes_put known old new key element code e f))
      (AllByRecursion-append (λ p. UpgradesTo structures p.0 p.1) (codes_of known old) ((at known element, code.index) ∷ []) h.right (u, tt));
}

-- what is kept for the number of an element type
record IsFound (structures : Structures) (known : List Specifier) (memo : Memo) (element : ℕ) (code : Code) : Type 0 where
  known_is : IsKnown (codes_of known memo) (at known element)
  upgrades : UpgradesTo structures (at known element) code.index

found_there : (structures : Structures) (known : List Specifier) (memo : Memo) (element : ℕ) (code : Code) → AreUpgraded structures (codes_of known memo) → kept_for (element ∷ []) memo ≡ Some code → IsFound structures known memo element code
found_there structures known [] element code h e = absurd (cc)
found_there structures known (x ∷ memo) element code h e = by (pointwise nat_eq (element ∷ []) x.0) refl e (λ f. found_there structures known memo element code h.1 f)
  where
    by : (b : Bool) → pointwise nat_eq (element ∷ []) x.0 ≡ b → (if b then Some x.1 else kept_for (element ∷ []) memo) ≡ Some code
        → (kept_for (element ∷ []) memo ≡ Some code → IsFound structures known memo element code) → IsFound structures known (x ∷ memo) element code
    by true i e f =
        let k : element ∷ [] ≡ x.0 = (Decides-text (element ∷ []) x.0).0 i in
        let s : at known (first_number x.0) ≡ at known element = ap (λ y. at known (first_number y)) (sym k) in
        let j : x.1 ≡ code = cc in
        record {
          known_is = (zero, omega arith, s);
          upgrades = subst (λ y. UpgradesTo structures y code.index) s (subst (λ (y : Code). UpgradesTo structures (at known (first_number x.0)) y.index) j h.0);
        }
    by false i e f =
        let r = f e in let m = r.known_is in
        record { known_is = (suc m.0, omega (arith, m.1), m.2); upgrades = r.upgrades }

pub code_found : (structures : Structures) (known : List Specifier) (memo : Memo) (element : ℕ) (code : Code) → AreCodes structures known memo → kept_for (element ∷ []) memo ≡ Some code
    → IsKnown (codes_of known memo) (at known element) × UpgradesTo structures (at known element) code.index
code_found structures known memo element code h e = let r = found_there structures known memo element code h.right e in (r.known_is, r.upgrades)

-- where nothing is kept for it, no code was learnt of it
pick_none : (c : Bool) (x : Code) (r : Option Code) → (if c then Some x else r) ≡ None → (c ≡ false) × (r ≡ None)
pick_none true x r e = absurd (cc)
pick_none false x r e = (refl, e)

key_of : (known : List Specifier) → Distinct known → (element : ℕ) (key : List ℕ) → element < length known → IsKeyBelow (length known) key → at known (first_number key) ≡ at known element → element ∷ [] ≡ key
key_of known d i [] b h e = absurd h
key_of known d i (j ∷ []) b h e = ap (λ k. k ∷ []) (d i j b h (sym e))
key_of known d i (j ∷ k ∷ key) b h e = absurd h

pub code_missing : (known : List Specifier) → Distinct known → (element : ℕ) (memo : Memo) → element < length known → AreKeys known memo → kept_for (element ∷ []) memo ≡ None → IsKnown (codes_of known memo) (at known element) → ⊥
code_missing known d element [] b h e (i, l, f) = omega (arith, l)
code_missing known d element (x ∷ memo) b h e (zero, l, f) =
    let k = key_of known d element x.0 b h.0 f in
    let g = (Decides-text (element ∷ []) x.0).1 k in
    let m = (pick_none (pointwise nat_eq (element ∷ []) x.0) x.1 (kept_for (element ∷ []) memo) e).0 in
    true≢false (sym g ∙ m)
code_missing known d element (x ∷ memo) b h e (suc i, l, f) =
    code_missing known d element memo b h.1 (pick_none (pointwise nat_eq (element ∷ []) x.0) x.1 (kept_for (element ∷ []) memo) e).1 (i, omega arith, f)

-- where no code was learnt of it, nothing is kept for it
pub code_absent : (structures : Structures) (known : List Specifier) (memo : Memo) (element : ℕ) → AreCodes structures known memo → (IsKnown (codes_of known memo) (at known element) → ⊥) → kept_for (element ∷ []) memo ≡ None
code_absent structures known memo element h n = by (kept_for (element ∷ []) memo) refl
  where
    by : (o : Option Code) → kept_for (element ∷ []) memo ≡ o → kept_for (element ∷ []) memo ≡ None
    by None f = f
    by (Some code) f = absurd (n (code_found structures known memo element code h f).0)

-- what is told of an element type
pub code_told : (structures : Structures) (known : List Specifier) → Distinct known → (memo : Memo) (element : ℕ) (found : Option Code) → element < length known → AreCodes structures known memo → found ≡ kept_for (element ∷ []) memo
    → MatchOption found (IsKnown (codes_of known memo) (at known element) → ⊥) (λ (code : Code). IsKnown (codes_of known memo) (at known element) × UpgradesTo structures (at known element) code.index)
code_told structures known d memo element None b h e = code_missing known d element memo b h.keys (sym e)
code_told structures known d memo element (Some code) b h e = code_found structures known memo element code h (sym e)
