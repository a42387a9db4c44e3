-- Texts that differ in a number alone, each at the place of its number.
use Rattle.std.proofs.Common.{ℕ, zero, suc, ◌≡◌, ◌<◌, ◌+◌, ap, ◌∙◌, true, List, [], ◌∷◌, ◌++◌, codes, map, length, get_or, Bor, nat_lt, arith}
use Rattle.std.specs.List.{list_all}
use Rattle.std.specs.Str.{IsAscii}
use Rattle.std.proofs.lemmas.Bool.{and_parts}
use Rattle.ls_object.specs.ObjectText.{is_text, natural_text}
use Rattle.ls_object.proofs.SymbolLemmas.{Decides-text}
use Rattle.ls_tables.specs.steps.Sizes.{are_sized, are_ascii}
use Rattle.ls_tables.proofs.NameLemmas.{ascii}

-- the text at a place has the number of the place
pub sized_at : (head : List ℕ) (n : ℕ) (ts : List (Bor (List ℕ))) (d : Bor (List ℕ)) (k m : ℕ) → are_sized head n (map (λ t. t.now) ts) ≡ true → k < length ts → n + k ≡ m
    → (get_or ts k d).now ≡ head ++ natural_text m ++ codes ")"
sized_at head n [] d k m h l e = absurd (omega arith)
sized_at head n (t ∷ ts) d zero m h l e =
    let parts = and_parts (is_text t.now (head ++ natural_text n ++ codes ")")) (are_sized head (suc n) (map (λ u. u.now) ts)) h in
    let same : n ≡ m = omega arith in
    (Decides-text t.now (head ++ natural_text n ++ codes ")")).0 parts.0 ∙ ap (λ i. head ++ natural_text i ++ codes ")") same
sized_at head n (t ∷ ts) d (suc k) m h l e =
    let parts = and_parts (is_text t.now (head ++ natural_text n ++ codes ")")) (are_sized head (suc n) (map (λ u. u.now) ts)) h in
    sized_at head (suc n) ts d k m parts.1 (omega arith) (omega arith)

-- and is ASCII
pub ascii_at : (ts : List (Bor (List ℕ))) (d : Bor (List ℕ)) (k : ℕ) → are_ascii (map (λ t. t.now) ts) ≡ true → k < length ts → IsAscii (get_or ts k d).now
ascii_at [] d k h l = absurd (omega arith)
ascii_at (t ∷ ts) d zero h l = ascii t.now (and_parts (list_all (λ b. nat_lt b 128) t.now) (are_ascii (map (λ u. u.now) ts)) h).0
ascii_at (t ∷ ts) d (suc k) h l = ascii_at ts d k (and_parts (list_all (λ b. nat_lt b 128) t.now) (are_ascii (map (λ u. u.now) ts)) h).1 (omega arith)
