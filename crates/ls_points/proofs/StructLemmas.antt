-- Keys of structure names, and specifiers of structures part by part.
use Rattle.std.proofs.lemmas.Bool.{cases_Bool}
use Rattle.std.proofs.Common.{ℕ, zero, suc, ◌≡◌, ◌<◌, ap, refl, sym, subst, ◌∙◌, inl, inr, Bool, true, false, ◌||◌, if◌then◌else◌, nat_eq, List, [], ◌∷◌, ◌++◌, length, get_or, Decides, Vec, arith}
use Rattle.std.specs.List.{AllByRecursion, Contains, list_any}
use Rattle.std.specs.Cmp.Lexicographic.{pointwise}
use Rattle.ls_object.specs.declared.symbol.Symbol.{Symbol}
use Rattle.ls_object.specs.Universe.{LispObject, Structures}
use Rattle.ls_spec.specs.declared.spec.Spec.{Spec}
use Rattle.ls_spec.specs.Keys.{symbol_key}
use Rattle.ls_spec.specs.Meaning.{specifier, specifiers}
use Rattle.ls_spec.specs.Membership.{Belongs, BelongsToAll, BelongsToSome}
use Rattle.ls_spec.proofs.KeyLemmas.{same_symbol_key}
use Rattle.ls_spec.proofs.ListLemmas.{AllByRecursion-contains}
use Rattle.ls_object.proofs.SymbolLemmas.{Decides-text}
use Rattle.ls_points.specs.steps.Inheriting.{IsOneOf, has_key, is_key_of, AddsKeys}

-- ---- parts

pub all_of : (structures : Structures) (o : LispObject) (specs : List Spec) → AllByRecursion (λ s. Belongs structures (specifier s) o) specs → BelongsToAll structures (specifiers specs) o
all_of structures o [] h = tt
all_of structures o (s ∷ ss) h = (h.0, all_of structures o ss h.1)

each_of : (structures : Structures) (o : LispObject) (specs : List Spec) → BelongsToAll structures (specifiers specs) o → AllByRecursion (λ s. Belongs structures (specifier s) o) specs
each_of structures o [] h = tt
each_of structures o (s ∷ ss) h = (h.0, each_of structures o ss h.1)

pub not_all_of : (structures : Structures) (o : LispObject) (specs : List Spec) (s : Spec) → Contains specs s → (Belongs structures (specifier s) o → ⊥) → BelongsToAll structures (specifiers specs) o → ⊥
not_all_of structures o specs s there h all = h (AllByRecursion-contains (λ s. Belongs structures (specifier s) o) specs s (each_of structures o specs all) there)

some_of_at : (structures : Structures) (o : LispObject) (specs : List Spec) (s : Spec) (k : ℕ) → k < length specs → get_or specs k s ≡ s → Belongs structures (specifier s) o → BelongsToSome structures (specifiers specs) o
some_of_at structures o [] s k l e h = absurd (omega arith)
some_of_at structures o (t ∷ ts) s zero l e h = inl (subst (λ u. Belongs structures (specifier u) o) (sym e) h)
some_of_at structures o (t ∷ ts) s (suc k) l e h = inr (some_of_at structures o ts s k (omega arith) e h)

pub some_of : (structures : Structures) (o : LispObject) (specs : List Spec) (s : Spec) → Contains specs s → Belongs structures (specifier s) o → BelongsToSome structures (specifiers specs) o
some_of structures o specs s c h = some_of_at structures o specs s c.0 c.1 c.2 h

pub none_of : (structures : Structures) (o : LispObject) (specs : List Spec) → AllByRecursion (λ s. Belongs structures (specifier s) o → ⊥) specs → BelongsToSome structures (specifiers specs) o → ⊥
none_of structures o [] h some = some
none_of structures o (s ∷ ss) h (inl here) = h.0 here
none_of structures o (s ∷ ss) h (inr there) = none_of structures o ss h.1 there

-- ---- keys

any_append : {Y : Type 0} (k : List ℕ) (xs ys : List (Vec ℕ Y)) → has_key (xs ++ ys) k ≡ (has_key xs k || has_key ys k)
any_append k [] ys = refl
any_append k (x ∷ xs) ys = let e = any_append k xs ys in elim (cases_Bool (pointwise nat_eq k x.items)) [ inl t ↦ cc | inr t ↦ cc ]

or_true : (a b : Bool) → a ≡ true → a ≡ (a || b)
or_true a b e = cc

or_false : (a b : Bool) → b ≡ false → a ≡ (a || b)
or_false true b e = refl
or_false false b e = sym e

-- the key that was added is there, and the others as before
one_added : {Y : Type 0} (keys : List (Vec ℕ Y)) (v : Vec ℕ Y) (b : Bool) → has_key keys v.items ≡ b → (k : List ℕ) → has_key (if b then keys else keys ++ v ∷ []) k ≡ (has_key keys k || (pointwise nat_eq k v.items || false))
one_added keys v true e k = elim (cases_Bool (pointwise nat_eq k v.items)) [
  | inl same ↦ or_true (has_key keys k) _ (subst (λ t. has_key keys t ≡ true) (sym ((Decides-text k v.items).0 same)) e)
  | inr apart ↦ or_false (has_key keys k) _ (ap (λ b. b || false) apart)
]
one_added keys v false e k = any_append k keys (v ∷ [])

pub AddsKeys-one : {Y : Type 0} (keys new : List (Vec ℕ Y)) (v : Vec ℕ Y) (name : Symbol) → v.items ≡ symbol_key name → new ≡ (if list_any (λ x. pointwise nat_eq v.items x.items) keys then keys else keys ++ v ∷ []) → AddsKeys (name ∷ []) keys new
AddsKeys-one keys new v name e f k =
    ap (λ t. has_key t k) f ∙ one_added keys v (has_key keys v.items) refl k ∙ ap (λ t. has_key keys k || (pointwise nat_eq k t || false)) e

Decides-key : (x : Symbol) (names : List Symbol) → Decides (is_key_of names (symbol_key x)) (IsOneOf x names)
Decides-key x [] = (λ e. cc, λ h. absurd h)
Decides-key x (y ∷ ys) = (
  λ e. elim (cases_Bool (pointwise nat_eq (symbol_key x) (symbol_key y))) [
    | inl same ↦ inl (sym (same_symbol_key x y ((Decides-text (symbol_key x) (symbol_key y)).0 same)))
    | inr apart ↦ inr ((Decides-key x ys).0 (sym (ap (λ b. b || is_key_of ys (symbol_key x)) apart) ∙ e))
  ],
  λ h. elim h [
    | inl same ↦ ap (λ b. b || is_key_of ys (symbol_key x)) ((Decides-text (symbol_key x) (symbol_key y)).1 (ap symbol_key (sym same)))
    | inr later ↦ elim (cases_Bool (pointwise nat_eq (symbol_key x) (symbol_key y))) [
      | inl same ↦ ap (λ b. b || is_key_of ys (symbol_key x)) same
      | inr apart ↦ ap (λ b. b || is_key_of ys (symbol_key x)) apart ∙ (Decides-key x ys).1 later
    ]
  ],
)

-- a look-up tells whether the name is one of those whose keys were added
pub Decides-looked_up : {Y : Type 0} (keys : List (Vec ℕ Y)) (k : List ℕ) (x : Symbol) (r : Bool) (names : List Symbol) → AddsKeys names [] keys → k ≡ symbol_key x → r ≡ has_key keys k → Decides r (IsOneOf x names)
Decides-looked_up keys k x r names adds e f =
    let is : r ≡ is_key_of names (symbol_key x) = f ∙ adds k ∙ ap (is_key_of names) e in
    (λ t. (Decides-key x names).0 (sym is ∙ t), λ h. is ∙ (Decides-key x names).1 h)
