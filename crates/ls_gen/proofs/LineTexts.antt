-- The lines of the generated text, part by part, before what follows them.
use Rattle.std.proofs.Common.{ℕ, ◌≡◌, List, ◌∷◌, ◌++◌, codes, decimal, refl, append_assoc, ◌∙◌}
use Rattle.ls_gen.specs.Generated.{partner, definition_line, list_line, partner_line, lines_of}

-- the parts of a definition
pub definition_parts : (i : ℕ) (rest : List ℕ)
    → definition_line i ++ rest
    ≡ codes "(deftype g" ++ (decimal i ++ (codes " () '(cons (integer 0 " ++ (decimal i
    ++ (codes ") (or null (cons (eql " ++ (decimal i ++ (codes ") t))))" ++ 10 ∷ rest))))))
definition_parts i rest = simp append_assoc refl

-- the parts of a query about lists
pub list_parts : (i : ℕ) (rest : List ℕ)
    → list_line i ++ rest ≡ codes "(subtypep 'g" ++ (decimal i ++ (codes " '(cons integer list))" ++ 10 ∷ rest))
list_parts i rest = simp append_assoc refl

-- the parts of a query about a number's partner
pub partner_parts : (n i : ℕ) (rest : List ℕ)
    → partner_line n i ++ rest
    ≡ codes "(subtypep 'g" ++ (decimal i ++ (codes " 'g" ++ (decimal (partner n i) ++ (codes ")" ++ 10 ∷ rest))))
partner_parts n i rest = simp append_assoc refl

-- the lines of a number
pub lines_parts : (n i : ℕ) (rest : List ℕ)
    → lines_of n i ++ rest ≡ definition_line i ++ (list_line i ++ (partner_line n i ++ rest))
lines_parts n i rest =
    append_assoc (definition_line i ++ list_line i) (partner_line n i) rest
    ∙ append_assoc (definition_line i) (list_line i) (partner_line n i ++ rest)
