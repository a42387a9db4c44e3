-- Lemmas on the words of the command line.
use Rattle.std.proofs.Common.{◌≡◌, ℕ, ◌<◌, ◌≤◌, ◌^◌, List, [], ◌∷◌, drop, take, take_all, suc, ◌-◌, length, get_or, Result, Ok, refl, sym, ap, subst, ◌∙◌, arith, lit<}
use Rattle.std.specs.Prelude.{codes, Option, Some, None, MatchOption}
use Rattle.std.proofs.lemmas.Fmt.{parse-decimal, decimal_injective}
use Rattle.std.specs.Str.Parse.{ParsesUnsigned}
use Rattle.subtypep_app.specs.declared.words.Command.TheVariants.{Ask, Gen}
use Rattle.subtypep_app.specs.Words.{Writes, MeanBudget, MeanCount, Means}

-- a list of two items
pub two_items : {X : Type 0} (xs : List X) (x y : X) → 2 ≤ length xs → length xs < 3 → x ≡ get_or xs 0 x → y ≡ get_or xs 1 y → xs ≡ x ∷ y ∷ []
two_items [] x y some few first second = absurd (omega arith)
two_items (a ∷ []) x y some few first second = absurd (omega arith)
two_items (a ∷ b ∷ []) x y some few first second = (λ i. sym first i ∷ sym second i ∷ [])
two_items (a ∷ b ∷ c ∷ xs) x y some few first second = absurd (omega arith)

-- a list that has a first item
pub first_item : {X : Type 0} (xs : List X) (x : X) → 1 ≤ length xs → x ≡ get_or xs 0 x → xs ≡ x ∷ take (length xs - 1) (drop 1 xs)
first_item [] x some first = absurd (omega arith)
first_item (a ∷ xs) x some first =
    let all : take (suc (length xs) - 1) xs ≡ xs = take_all (suc (length xs) - 1) xs (omega arith) in
    (λ i. sym first i ∷ sym all i)

-- a word that writes a number is read as that
pub reads_number : {E : Type 0} (greatest : ℕ) (word : List ℕ) (r : Result ℕ E) (n : ℕ) → greatest < 2 ^ 64
    → ParsesUnsigned 64 10 word r → Writes greatest word n → r ≡ Ok n
reads_number greatest word r n small parses is =
    parse-decimal 64 n word r (omega (arith, small, is.1)) (omega (arith, small, is.1)) is.2 parses

-- what the number says is what both words say
pub named_budget : (options : List (List ℕ)) (word : List ℕ) (r : Option ℕ) → options ≡ codes "--budget" ∷ word ∷ []
    → MatchOption r ((n : ℕ) → Writes 1073741824 word n → ⊥) (Writes 1073741824 word)
    → MatchOption r ((n : ℕ) → MeanBudget options n → ⊥) (MeanBudget options)
named_budget options word None e h = λ n means. (let m = subst (λ ws. MeanBudget ws n) e means in h n m.1)
named_budget options word (Some n) e h = subst (λ ws. MeanBudget ws n) (sym e) (refl, h)

-- a word writes one number at most
writes_one : (greatest : ℕ) (word : List ℕ) (a b : ℕ) → greatest < 2 ^ 64 → Writes greatest word a → Writes greatest word b → a ≡ b
writes_one greatest word a b small m n = decimal_injective a b (omega (arith, small, m.1)) (omega (arith, small, n.1)) (sym m.2 ∙ n.2)

-- the options mean one budget at most
budget_one : (options : List (List ℕ)) (a b : ℕ) → MeanBudget options a → MeanBudget options b → a ≡ b
budget_one [] a b m n = m ∙ sym n
budget_one (option ∷ []) a b m n = absurd m
budget_one (option ∷ number ∷ []) a b m n = writes_one 1073741824 number a b (lit< tt) m.1 n.1
budget_one (option ∷ number ∷ word ∷ words) a b m n = absurd m

-- words mean one budget at most
pub Means-one : (words : List (List ℕ)) (a b : ℕ) → Means words (Ask a) → Means words (Ask b) → a ≡ b
Means-one [] a b m n = absurd m
Means-one (word ∷ options) a b m n = budget_one options a b m.1 n.1

-- words that mean `ask` do not mean `gen`
pub Means-apart : (words : List (List ℕ)) (a count budget : ℕ) → Means words (Ask a) → Means words (Gen count budget) → ⊥
Means-apart [] a count budget m n = absurd m
Means-apart (word ∷ options) a count budget m n = absurd (differ (sym m.0 ∙ n.0))
  where
    differ : codes "ask" ≡ codes "gen" → ⊥
    differ e = (let first : 97 ≡ 103 = ap (λ word. get_or word 0 0) e in omega (arith, first))

pub budget_within : (options : List (List ℕ)) (a : ℕ) → MeanBudget options a → a ≤ 2 ^ 30
budget_within [] a m = omega (arith, m)
budget_within (option ∷ []) a m = absurd m
budget_within (option ∷ number ∷ []) a m = omega (arith, m.1.1)
budget_within (option ∷ number ∷ word ∷ words) a m = absurd m

-- a budget that words mean is at most 2^30
pub Means-within : (words : List (List ℕ)) (a : ℕ) → Means words (Ask a) → a ≤ 2 ^ 30
Means-within [] a m = absurd m
Means-within (word ∷ options) a m = budget_within options a m.1

count_within : (options : List (List ℕ)) (count budget : ℕ) → MeanCount options count budget → (count ≤ 4096) × (budget ≤ 2 ^ 30)
count_within [] count budget m = absurd m
count_within (number ∷ options) count budget m = (m.0.1, budget_within options budget m.1)

-- a count that words mean is at most 4,096, and the budget beside it at most 2^30
pub Means-small : (words : List (List ℕ)) (count budget : ℕ) → Means words (Gen count budget) → (count ≤ 4096) × (budget ≤ 2 ^ 30)
Means-small [] count budget m = absurd m
Means-small (word ∷ options) count budget m = count_within options count budget m.1
