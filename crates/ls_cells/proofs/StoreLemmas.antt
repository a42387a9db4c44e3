-- What a store has at first, as its table grows, and after lists were made.
use Rattle.std.proofs.Common.{ℕ, min, ◌≡◌, ◌≤◌, ◌<◌, ◌+◌, ◌-◌, ◌^◌, refl, sym, ◌∙◌, ap, subst, arith, List, [], ◌∷◌, ◌++◌, length, Bool, true, false, IsTrue, ◌||◌, None, Result, Ok, Err, OnOk, OnErr}
use Rattle.std.specs.declared.alloc.AllocError.{AllocError}
use Rattle.ls_object.specs.declared.table.Code.{Code}
use Rattle.ls_object.specs.Universe.{Structures}
use Rattle.ls_object.specs.Inclusion.{IsInclusionOrder}
use Rattle.ls_spec.specs.Membership.{UpgradesTo}
use Rattle.ls_spec.specs.Specifier.{Specifier}
use Rattle.ls_lists.specs.Walks.{is_none, among, is_done, walk, reached, total, missing, IsClosed}
use Rattle.ls_lists.proofs.KeptLemmas.{walk_closed, total_from}
use Rattle.ls_intern.specs.Places.{at, specifiers_at, AllBelow, Distinct, Extends}
use Rattle.ls_memo.specs.Kept.{kept_for}
use Rattle.ls_cells.specs.declared.cells.Cells.{Cells}
use Rattle.ls_cells.specs.Kept.{lists, count_rows, entries_of, AreKept, IsStore, Began}
use Rattle.ls_cells.proofs.CodeLemmas.{codes_grown, codes_more}
use Rattle.ls_cells.proofs.EntryLemmas.{kept_grown, entries_grown, not_kept}

-- nothing is kept
closed_none : IsClosed []
unfolding among
closed_none list h = absurd (let k : false ≡ true = h in cc)

pub store_none : (structures : Structures) (known : List Specifier) (codes : List (List ℕ × Code)) (memo : List (List ℕ × Cells)) (count : ℕ) → IsInclusionOrder structures → codes ≡ [] → memo ≡ [] → count ≡ 0
    → IsStore structures known codes memo count
store_none structures known codes memo count order h e f =
    subst (λ c. IsStore structures known c memo count) (sym h) (subst (λ m. IsStore structures known [] m count) (sym e)
    (record { upgraded = record { keys = tt; right = tt }; kept = record { order = order; each = tt; closed = closed_none }; counted = f }))

-- the table grew
pub store_grown : (structures : Structures) (a b : List Specifier) (codes : List (List ℕ × Code)) (memo : List (List ℕ × Cells)) (count : ℕ) → Extends a b → IsStore structures a codes memo count → IsStore structures b codes memo count
store_grown structures a b codes memo count g s = record {
  upgraded = codes_grown structures a b codes g s.upgraded;
  kept = kept_grown structures a b memo g s.kept;
  counted = s.counted ∙ ap (λ e. min (count_rows e) (2 ^ 64 - 1)) (sym (entries_grown structures a b memo g s.kept.each));
}

-- a code was learnt
store_learnt : (structures : Structures) (known : List Specifier) (old new : List (List ℕ × Code)) (memo : List (List ℕ × Cells)) (count : ℕ) (key : List ℕ) (element : ℕ) (code : Code) → IsStore structures known old memo count
    → key ≡ element ∷ [] → element < length known → UpgradesTo structures (at known element) code.index → new ≡ old ++ (key, code) ∷ [] → IsStore structures known new memo count
store_learnt structures known old new memo count key element code s e l u f =
    record { upgraded = codes_more structures known old new key element code s.upgraded e l u f; kept = s.kept; counted = s.counted }

-- or was to be
pub store_put : (structures : Structures) (known : List Specifier) (old new : List (List ℕ × Code)) (memo : List (List ℕ × Cells)) (count : ℕ) (key : List ℕ) (element : ℕ) (code : Code) (r : Result (Unit {0}) AllocError) → IsStore structures known old memo count
    → key ≡ element ∷ [] → element < length known → UpgradesTo structures (at known element) code.index → OnOk r (new ≡ old ++ (key, code) ∷ []) → OnErr r (new ≡ old) → IsStore structures known new memo count
store_put structures known old new memo count key element code (Ok x) s e l u f g = store_learnt structures known old new memo count key element code s e l u f
store_put structures known old new memo count key element code (Err y) s e l u f g = subst (λ c. IsStore structures known c memo count) (sym g) s

-- the steps of a call
pub cost_of : (list : List Specifier) (old new : List (List Specifier)) (before now : ℕ) → IsClosed old → Began list old new before now → now ≤ before + total (missing old (reached list))
cost_of list old new before now c b = let h = b.steps in let e = total_from list old c in omega arith

-- a list that was gone through is kept
or_other : (b c : Bool) → IsTrue (b || c) → b ≡ false → IsTrue c
or_other true c h e = absurd (cc)
or_other false c h e = h

some_of : (known : List Specifier) (ids : List ℕ) → 0 < length ids → is_none (specifiers_at known ids) ≡ false
some_of known [] h = absurd (omega arith)
some_of known (i ∷ ids) h = refl

pub among_after : (known : List Specifier) (ids : List ℕ) (old new : List (List Specifier)) → IsClosed old → new ≡ walk (specifiers_at known ids) old → 0 < length ids → IsTrue (among (specifiers_at known ids) new)
among_after known ids old new c e h =
    let list = specifiers_at known ids in
    or_other (is_none list) _ (subst (λ l. IsTrue (is_done list l)) (sym e) (walk_closed list old c).1) (some_of known ids h)

-- what is kept for a list among those that are kept
pub never_none : (structures : Structures) (known : List Specifier) (ids : List ℕ) (memo : List (List ℕ × Cells)) → Distinct known → AllBelow (length known) ids → AreKept structures known memo
    → IsTrue (among (specifiers_at known ids) (lists (entries_of known memo))) → kept_for ids memo ≡ None → ⊥
never_none structures known ids memo d b k h e =
    let f = not_kept structures known d ids memo b k.each e in
    let g : true ≡ false = sym h ∙ f in cc
