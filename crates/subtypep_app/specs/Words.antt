-- The words of the command line, and what they mean.
use Rattle.std.specs.Prelude.{◌≡◌, ◌≤◌, ℕ, List, [], ◌∷◌, map, codes, decimal, String, string_bytes}
use Rattle.std.specs.declared.alloc.Global.{Global}
use Rattle.subtypep_app.specs.declared.words.Command.{Command}
use Rattle.subtypep_app.specs.declared.words.Command.TheVariants.{Ask, Gen}

-- the words, as lists of bytes
abbrev pub texts : List (String Global) → List (List ℕ)
texts words = map string_bytes words

-- the word writes the number, in decimal digits without a sign or a leading zero; it is from 1 to the greatest
abbrev pub Writes : ℕ → List ℕ → ℕ → Type 0
Writes greatest word n = (1 ≤ n) × (n ≤ greatest) × (word ≡ decimal n)

-- The words behind the command mean this budget of each query: 4,194,304 where there are none, and else the one that
-- they name.
abbrev pub MeanBudget : List (List ℕ) → ℕ → Type 0
MeanBudget [] budget = budget ≡ 4194304
MeanBudget (option ∷ number ∷ []) budget = (option ≡ codes "--budget") × Writes 1073741824 number budget
MeanBudget _ budget = ⊥

-- the words behind `gen` mean a count, at most 4,096, and a budget
abbrev pub MeanCount : List (List ℕ) → ℕ → ℕ → Type 0
MeanCount [] count budget = ⊥
MeanCount (number ∷ options) count budget = Writes 4096 number count × MeanBudget options budget

-- the words mean this command
abbrev pub Means : List (List ℕ) → Command → Type 0
Means [] command = ⊥
Means (word ∷ options) (Ask budget) = (word ≡ codes "ask") × MeanBudget options budget
Means (word ∷ options) (Gen count budget) = (word ≡ codes "gen") × MeanCount options count budget

-- the words mean no command
abbrev pub MeanNothing : List (List ℕ) → Type 0
MeanNothing words = (command : Command) → Means words command → ⊥
