-- Tests that each character of a text passes.
use Rattle.std.proofs.Common.{ℕ, zero, suc, ◌≡◌, ◌+◌, ◌<◌, Bool, true, false, not, List, [], ◌∷◌, ◌++◌, length, refl, ap, ◌∙◌, arith}
use Rattle.std.specs.List.{list_all, prefix_len, range_with_len, AllByRecursion}
use Rattle.std.proofs.lemmas.Bool.{and_parts, and_from, false≢true}
use Rattle.std.proofs.lemmas.List.Folds.{list_all-append}
use Rattle.ls_reader.specs.Lexemes.{Ends}

-- what passes one test passes another, where that follows for each character
pub passes_too : (p q : ℕ → Bool) → ((c : ℕ) → p c ≡ true → q c ≡ true) → (text : List ℕ) → list_all p text ≡ true
    → list_all q text ≡ true
passes_too p q h [] e = refl
passes_too p q h (c ∷ cs) e =
    let both = and_parts (p c) (list_all p cs) e in
    and_from (q c) (list_all q cs) (h c both.0) (passes_too p q h cs both.1)

-- each character of what passes is in the class
pub all_pass : (p : ℕ → Bool) (text : List ℕ) → list_all p text ≡ true → AllByRecursion (λ c. p c ≡ true) text
all_pass p [] e = tt
all_pass p (c ∷ cs) e = let both = and_parts (p c) (list_all p cs) e in (both.0, all_pass p cs both.1)

-- what passes and one character more
pub passes_push : (p : ℕ → Bool) (text : List ℕ) (c : ℕ) → list_all p text ≡ true → p c ≡ true
    → list_all p (text ++ c ∷ []) ≡ true
passes_push p text c e f = list_all-append p text (c ∷ []) ∙ and_from _ _ e (and_from _ _ f refl)

-- the run of what passes is all of it
pub prefix_len-all : (p : ℕ → Bool) (text : List ℕ) → list_all p text ≡ true → prefix_len p text ≡ length text
prefix_len-all p [] e = refl
prefix_len-all p (c ∷ cs) e =
    let both = and_parts (p c) (list_all p cs) e in rw (both.0, prefix_len-all p cs both.1) (omega arith)

-- each number of a range that passes
pub range_passes : (p : ℕ → Bool) (a n : ℕ) → list_all p (range_with_len a n) ≡ true → (k : ℕ) → k < n
    → p (a + k) ≡ true
range_passes p a zero e k h = absurd (omega arith)
range_passes p a (suc n) e zero h =
    let here : a + 0 ≡ a = omega arith in
    ap p here ∙ (and_parts (p a) (list_all p (range_with_len (a + 1) n)) e).0
range_passes p a (suc n) e (suc k) h =
    let there : a + suc k ≡ a + 1 + k = omega arith in
    let both = and_parts (p a) (list_all p (range_with_len (a + 1) n)) e in
    ap p there ∙ range_passes p (a + 1) n both.1 k (omega (arith, h))

-- no character of the class comes next before a text of at least one character, of which none is of the class
pub ends_before : (p : ℕ → Bool) (text rest : List ℕ) → 0 < length text
    → list_all (λ c. not (p c)) text ≡ true → Ends p (text ++ rest)
ends_before p [] rest some e = absurd (omega arith)
ends_before p (c ∷ cs) rest some e = not_true (p c) (and_parts (not (p c)) (list_all (λ d. not (p d)) cs) e).0
  where
    not_true : (b : Bool) → not b ≡ true → b ≡ false
    not_true true f = absurd (false≢true f)
    not_true false f = refl
