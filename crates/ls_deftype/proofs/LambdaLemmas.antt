-- Parts of lambda lists, one item at a time.
use Rattle.std.proofs.Common.{◌≡◌, ℕ, ◌+◌, ◌<◌, ◌≤◌, List, [], ◌∷◌, ◌++◌, length, get_or, drop, Option, Some, None, refl, ap, sym, ◌∙◌, append_assoc, add-one, drop-cons, arith, zero, suc, true, false, not, cond}
use Rattle.std.specs.Prelude.{option_map}
use Rattle.ls_reader.specs.declared.datum.Datum.{Datum}
use Rattle.ls_deftype.specs.Symbols.{is_symbol, is_lambda_keyword}
use Rattle.ls_deftype.specs.LambdaLists.{and_one, each_of, keyword_at}

-- ---- what each item says

each_drop : {X : Type 0} (f : Datum → Option X) (ds : List Datum) (i : ℕ) (d : Datum) → i < length ds
    → each_of f (drop i ds) ≡ and_one (f (get_or ds i d)) (each_of f (drop (i + 1) ds))
each_drop f ds i d h = rw (add-one, drop-cons ds i d h) refl

with_one : {X : Type 0} (xs : List X) (x : X) (o : Option (List X)) → option_map (λ ys. xs ++ ys) (and_one (Some x) o) ≡ option_map (λ ys. (xs ++ x ∷ []) ++ ys) o
with_one xs x None = refl
with_one xs x (Some ys) = ap Some (sym (append_assoc xs (x ∷ []) ys))

none_one : {X : Type 0} (o : Option (List X)) → and_one None o ≡ None
none_one None = refl
none_one (Some xs) = refl

-- what the items say so far, with one more
pub each_next : {X : Type 0} (f : Datum → Option X) (ds : List Datum) (i : ℕ) (d : Datum) (xs : List X) (x : X) → i < length ds → d ≡ get_or ds i d → f d ≡ Some x
    → option_map (λ ys. xs ++ ys) (each_of f (drop i ds)) ≡ each_of f ds → option_map (λ ys. (xs ++ x ∷ []) ++ ys) (each_of f (drop (i + 1) ds)) ≡ each_of f ds
each_next f ds i d xs x h is e all =
    sym (with_one xs x (each_of f (drop (i + 1) ds)))
    ∙ ap (λ o. option_map (λ ys. xs ++ ys) (and_one o (each_of f (drop (i + 1) ds)))) (sym e ∙ ap f is)
    ∙ ap (option_map (λ ys. xs ++ ys)) (sym (each_drop f ds i d h))
    ∙ all

-- an item that says nothing
pub each_none : {X : Type 0} (f : Datum → Option X) (ds : List Datum) (i : ℕ) (d : Datum) (xs : List X) → i < length ds → d ≡ get_or ds i d → f d ≡ None
    → option_map (λ ys. xs ++ ys) (each_of f (drop i ds)) ≡ each_of f ds → each_of f ds ≡ None
each_none f ds i d xs h is e all =
    sym all
    ∙ ap (option_map (λ ys. xs ++ ys)) (each_drop f ds i d h ∙ ap (λ o. and_one o (each_of f (drop (i + 1) ds))) (sym (ap f is) ∙ e) ∙ none_one (each_of f (drop (i + 1) ds)))

-- ---- lambda keywords

pub keyword_next : (ds : List Datum) (i : ℕ) (d : Datum) → i < length ds → d ≡ get_or ds i d → is_symbol is_lambda_keyword d ≡ false → i + keyword_at (drop i ds) ≡ i + 1 + keyword_at (drop (i + 1) ds)
keyword_next ds i d h is e =
    let k : keyword_at (drop i ds) ≡ cond (not (is_symbol is_lambda_keyword (get_or ds i d))) (1 + keyword_at (drop (i + 1) ds)) 0 = rw (add-one, drop-cons ds i d h) refl in
    let f : keyword_at (drop i ds) ≡ 1 + keyword_at (drop (i + 1) ds) = k ∙ ap (λ b. cond (not b) (1 + keyword_at (drop (i + 1) ds)) 0) (sym (ap (is_symbol is_lambda_keyword) is) ∙ e) in
    omega (arith, f)

pub keyword_here : (ds : List Datum) (i : ℕ) (d : Datum) → i < length ds → d ≡ get_or ds i d → is_symbol is_lambda_keyword d ≡ true → i + keyword_at (drop i ds) ≡ i
keyword_here ds i d h is e =
    let k : keyword_at (drop i ds) ≡ cond (not (is_symbol is_lambda_keyword (get_or ds i d))) (1 + keyword_at (drop (i + 1) ds)) 0 = rw (add-one, drop-cons ds i d h) refl in
    let f : keyword_at (drop i ds) ≡ 0 = k ∙ ap (λ b. cond (not b) (1 + keyword_at (drop (i + 1) ds)) 0) (sym (ap (is_symbol is_lambda_keyword) is) ∙ e) in
    omega (arith, f)

drop_past : (ds : List Datum) (i : ℕ) → length ds ≤ i → drop i ds ≡ []
drop_past [] zero h = refl
drop_past [] (suc i) h = refl
drop_past (d ∷ ds) zero h = absurd (omega arith)
drop_past (d ∷ ds) (suc i) h = drop_past ds i (omega arith)

pub keyword_end : (ds : List Datum) (i : ℕ) → length ds ≤ i → i + keyword_at (drop i ds) ≡ i
keyword_end ds i h = let e = ap keyword_at (drop_past ds i h) in omega (arith, e)
