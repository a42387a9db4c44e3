-- Texts to which parts were appended, and the lines of one number more.
use Rattle.std.proofs.Common.{ℕ, ◌≡◌, ◌+◌, List, [], ◌∷◌, ◌++◌, map, sym, ap, ◌∙◌, append_assoc, arith}
use Rattle.std.specs.List.{flat_map, range_with_len}
use Rattle.std.proofs.lemmas.List.{append-nil}
use Rattle.std.proofs.lemmas.List.Concat.{flat_map-append}
use Rattle.std.proofs.lemmas.List.Folds.{flat_map-map}
use Rattle.std.proofs.lemmas.List.FromFn.{map-range_with_len_more}

-- a text to which two parts were appended
pub appended_twice : (old s new a b : List ℕ) → s ≡ old ++ a → new ≡ s ++ b → new ≡ old ++ (a ++ b)
appended_twice old s new a b e f = f ∙ ap (λ x. x ++ b) e ∙ append_assoc old a b

-- a text to which three parts were appended
pub appended_thrice : (old s t new a b c : List ℕ) → s ≡ old ++ a → t ≡ s ++ b → new ≡ t ++ c
    → new ≡ old ++ (a ++ (b ++ c))
appended_thrice old s t new a b c e f g =
    appended_twice old s new a (b ++ c) e (appended_twice s t new b c f g)

-- the lines of one number more
pub flat_map-range_more : (f : ℕ → List ℕ) (n : ℕ)
    → flat_map f (range_with_len 0 (n + 1)) ≡ flat_map f (range_with_len 0 n) ++ f n
flat_map-range_more f n =
    sym (flat_map-map f (λ x. x) (range_with_len 0 (n + 1)))
    ∙ ap (flat_map f) (map-range_with_len_more (λ x. x) 0 n n (omega arith))
    ∙ flat_map-append f (map (λ x. x) (range_with_len 0 n)) (n ∷ [])
    ∙ ap (λ x. x ++ (f n ++ [])) (flat_map-map f (λ x. x) (range_with_len 0 n))
    ∙ ap (λ x. flat_map f (range_with_len 0 n) ++ x) (append-nil (f n))
