-- Texts that differ in a number alone, each at the place of its number.
use Rattle.std.specs.Prelude.{ℕ, suc, Bool, true, ◌&&◌, List, [], ◌∷◌, ◌++◌, codes, nat_lt}
use Rattle.std.specs.List.{list_all}
use Rattle.ls_object.specs.ObjectText.{is_text, natural_text}

-- the beginning, the number of the place, counted from a first one, and a closing bracket
abbrev pub are_sized : List ℕ → ℕ → List (List ℕ) → Bool
are_sized head n [] = true
are_sized head n (t ∷ ts) = is_text t (head ++ natural_text n ++ codes ")") && are_sized head (suc n) ts

-- each byte of each text is ASCII
abbrev pub are_ascii : List (List ℕ) → Bool
are_ascii ts = list_all (λ t. list_all (λ b. nat_lt b 128) t) ts
