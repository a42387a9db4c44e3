-- The text that is generated for measuring: three lines for each number below a count.
use Rattle.std.specs.Prelude.{ℕ, ◌+◌, ◌*◌, ◌%◌, List, [], ◌∷◌, ◌++◌, codes, decimal}
use Rattle.std.specs.List.{flat_map, range_with_len}

-- the number whose type that of number i is compared with
abbrev pub partner : ℕ → ℕ → ℕ
partner n i = (7 * i + 3) % n

-- `(deftype g<i> () '(cons (integer 0 <i>) (or null (cons (eql <i>) t))))`
abbrev pub definition_line : ℕ → List ℕ
definition_line i =
    codes "(deftype g" ++ decimal i ++ codes " () '(cons (integer 0 " ++ decimal i ++ codes ") (or null (cons (eql "
    ++ decimal i ++ codes ") t))))" ++ 10 ∷ []

-- `(subtypep 'g<i> '(cons integer list))`
abbrev pub list_line : ℕ → List ℕ
list_line i = codes "(subtypep 'g" ++ decimal i ++ codes " '(cons integer list))" ++ 10 ∷ []

-- `(subtypep 'g<i> 'g<j>)`, where j is the partner of i
abbrev pub partner_line : ℕ → ℕ → List ℕ
partner_line n i = codes "(subtypep 'g" ++ decimal i ++ codes " 'g" ++ decimal (partner n i) ++ codes ")" ++ 10 ∷ []

-- the lines of a number
abbrev pub lines_of : ℕ → ℕ → List ℕ
lines_of n i = definition_line i ++ list_line i ++ partner_line n i

-- the lines of each number below the count, in order
unfoldable pub generated_text : ℕ → List ℕ
generated_text n = flat_map (lines_of n) (range_with_len 0 n)
