-- The lines of a number are read as the forms of that number.
use Rattle.std.proofs.Common.{ℕ, ◌≡◌, ◌≤◌, true, List, [], ◌∷◌, ◌++◌, map, codes, decimal, refl, sym, subst, arith}
use Rattle.std.specs.Char.{to_ascii_uppercase}
use Rattle.ls_reader.specs.declared.datum.Datum.{Datum}
use Rattle.ls_reader.specs.Characters.{is_blank, goes_on, syntax_of}
use Rattle.ls_reader.specs.Lexemes.{Ends}
use Rattle.ls_gen.specs.Generated.{partner, definition_line, list_line, partner_line}
use Rattle.ls_gen.specs.Shapes.{IsName, IsNumber, IsListOf, IsQuoted, IsBody, IsDefinition, IsListQuery, IsPartnerQuery, type_name}
use Rattle.ls_gen.proofs.LineTexts.{definition_parts, list_parts, partner_parts}
use Rattle.ls_gen.proofs.NameLemmas.{name, type_word, digits, number, number_no_blank}
use Rattle.ls_gen.proofs.ReadLemmas.{AreRead, nothing, blank, list_of, empty_list, quoted}
use Rattle.ls_gen.proofs.WordLemmas.{is_name_text}

-- data behind a space
spaced : (n : ℕ) (more rest : List ℕ) (shapes : List (Datum → Type 0)) → Ends is_blank more → AreRead n more rest shapes
    → AreRead n (32 ∷ more) rest shapes
spaced n more rest shapes ends read = blank n 32 more rest shapes refl ends read

-- a name and a space before data
name_first : (n : ℕ) (text more rest : List ℕ) (shapes : List (Datum → Type 0)) → is_name_text text ≡ true
    → Ends is_blank more → AreRead n more rest shapes
    → AreRead n (text ++ 32 ∷ more) rest (IsName (map to_ascii_uppercase text) ∷ shapes)
unfolding syntax_of
name_first n text more rest shapes is ends read =
    name n text _ (32 ∷ more) rest shapes is refl refl (spaced n more rest shapes ends read)

-- a name at the end of a list
name_last : (n : ℕ) (text more : List ℕ) → is_name_text text ≡ true
    → AreRead n (text ++ 41 ∷ more) (41 ∷ more) (IsName (map to_ascii_uppercase text) ∷ [])
unfolding syntax_of
name_last n text more is = name n text _ (41 ∷ more) (41 ∷ more) [] is refl refl (nothing n (41 ∷ more))

-- a number at the end of a list
number_last : (n i : ℕ) (more : List ℕ) → i ≤ 4096
    → AreRead n (decimal i ++ 41 ∷ more) (41 ∷ more) (IsNumber i ∷ [])
unfolding syntax_of
number_last n i more few = number n i (41 ∷ more) (41 ∷ more) [] few refl (nothing n (41 ∷ more))

-- the name of a number's type behind a quote
quoted_type : (i : ℕ) (more rest : List ℕ) (shapes : List (Datum → Type 0)) → i ≤ 4096 → Ends goes_on more
    → AreRead 1 more rest shapes
    → AreRead 1 (39 ∷ (codes "g" ++ (decimal i ++ more))) rest (IsQuoted (IsName (type_name i)) ∷ shapes)
quoted_type i more rest shapes few ends read =
    quoted 1 _ more rest _ shapes (omega arith) (type_word 2 i more more [] few ends (nothing 2 more)) read

-- `(integer 0 i)`
integers : (i : ℕ) (more rest : List ℕ) (shapes : List (Datum → Type 0)) → i ≤ 4096 → AreRead 3 more rest shapes
    → AreRead 3 (codes "(integer 0 " ++ (decimal i ++ 41 ∷ more)) rest
    (IsListOf (IsName (codes "INTEGER") ∷ IsNumber 0 ∷ IsNumber i ∷ []) ∷ shapes)
unfolding syntax_of
integers i more rest shapes few read =
    list_of 3 _ more rest _ _ shapes (omega arith)
    (name_first 4 (codes "integer") _ _ _ refl refl
    (digits 4 (codes "0") 0 _ _ _ (omega arith) refl refl (omega arith) refl
    (spaced 4 _ _ _ (number_no_blank i (41 ∷ more) few) (number_last 4 i more few))))
    read

-- `(cons (eql i) t)`
pairs : (i : ℕ) (more rest : List ℕ) (shapes : List (Datum → Type 0)) → i ≤ 4096 → AreRead 4 more rest shapes
    → AreRead 4 (codes "(cons (eql " ++ (decimal i ++ (codes ") t)" ++ more))) rest
    (IsListOf (IsName (codes "CONS") ∷ IsListOf (IsName (codes "EQL") ∷ IsNumber i ∷ []) ∷ IsName (codes "T") ∷ [])
    ∷ shapes)
unfolding syntax_of
pairs i more rest shapes few read =
    list_of 4 _ more rest _ _ shapes (omega arith)
    (name_first 5 (codes "cons") _ _ _ refl refl
    (list_of 5 _ _ _ _ _ _ (omega arith)
    (name_first 6 (codes "eql") _ _ _ refl (number_no_blank i _ few) (number_last 6 i _ few))
    (spaced 5 _ _ _ refl (name_last 5 (codes "t") more refl))))
    read

-- `(cons (integer 0 i) (or null (cons (eql i) t)))`
body : (i : ℕ) (more : List ℕ) → i ≤ 4096
    → AreRead 2 (codes "(cons (integer 0 " ++ (decimal i
    ++ (codes ") (or null (cons (eql " ++ (decimal i ++ (codes ") t)))" ++ more)))))
    more (IsBody i ∷ [])
unfolding syntax_of
body i more few =
    list_of 2 _ more more _ _ [] (omega arith)
    (name_first 3 (codes "cons") _ _ _ refl refl
    (integers i _ _ _ few
    (spaced 3 _ _ _ refl
    (list_of 3 _ _ _ _ _ _ (omega arith)
    (name_first 4 (codes "or") _ _ _ refl refl
    (name_first 4 (codes "null") _ _ _ refl refl
    (pairs i _ _ _ few (nothing 4 _))))
    (nothing 3 _)))))
    (nothing 2 more)

-- `(deftype g<i> () '(cons ..))` before other lines
pub definition_read : (i : ℕ) (more rest : List ℕ) (others : List (Datum → Type 0)) → i ≤ 4096 → Ends is_blank more
    → AreRead 0 more rest others → AreRead 0 (definition_line i ++ more) rest (IsDefinition i ∷ others)
unfolding syntax_of
definition_read i more rest others few ends read =
    subst (λ cs. AreRead 0 cs rest (IsDefinition i ∷ others)) (sym (definition_parts i more))
    (list_of 0 _ (10 ∷ more) rest _ _ others (omega arith)
    (name_first 1 (codes "deftype") _ _ _ refl refl
    (type_word 1 i _ _ _ few refl
    (spaced 1 _ _ _ refl
    (empty_list 1 _ _ _ (omega arith)
    (spaced 1 _ _ _ refl
    (quoted 1 _ _ _ _ _ (omega arith) (body i (41 ∷ 10 ∷ more) few) (nothing 1 _)))))))
    (blank 0 10 more rest others refl ends read))

-- `(subtypep 'g<i> '(cons integer list))` before other lines
pub list_read : (i : ℕ) (more rest : List ℕ) (others : List (Datum → Type 0)) → i ≤ 4096 → Ends is_blank more
    → AreRead 0 more rest others → AreRead 0 (list_line i ++ more) rest (IsListQuery i ∷ others)
unfolding syntax_of
list_read i more rest others few ends read =
    subst (λ cs. AreRead 0 cs rest (IsListQuery i ∷ others)) (sym (list_parts i more))
    (list_of 0 _ (10 ∷ more) rest _ _ others (omega arith)
    (name_first 1 (codes "subtypep") _ _ _ refl refl
    (quoted_type i _ _ _ few refl
    (spaced 1 _ _ _ refl
    (quoted 1 _ _ _ _ _ (omega arith)
    (list_of 2 _ _ _ _ _ _ (omega arith)
    (name_first 3 (codes "cons") _ _ _ refl refl
    (name_first 3 (codes "integer") _ _ _ refl refl (name_last 3 (codes "list") _ refl)))
    (nothing 2 _))
    (nothing 1 _)))))
    (blank 0 10 more rest others refl ends read))

-- `(subtypep 'g<i> 'g<j>)` before other lines
pub partner_read : (n i : ℕ) (more rest : List ℕ) (others : List (Datum → Type 0)) → i ≤ 4096 → partner n i ≤ 4096
    → Ends is_blank more → AreRead 0 more rest others
    → AreRead 0 (partner_line n i ++ more) rest (IsPartnerQuery i (partner n i) ∷ others)
unfolding syntax_of
partner_read n i more rest others few few_too ends read =
    subst (λ cs. AreRead 0 cs rest (IsPartnerQuery i (partner n i) ∷ others)) (sym (partner_parts n i more))
    (list_of 0 _ (10 ∷ more) rest _ _ others (omega arith)
    (name_first 1 (codes "subtypep") _ _ _ refl refl
    (quoted_type i _ _ _ few refl
    (spaced 1 _ _ _ refl
    (quoted_type (partner n i) _ _ _ few_too refl (nothing 1 _)))))
    (blank 0 10 more rest others refl ends read))
