-- How the reader finds where a string and a nested comment end. Nothing of this needs to be believed: it is what the
-- code does, and the strings and comments of Lexemes.antt are proved of it.
use Rattle.std.specs.Prelude.{ℕ, ◌+◌, Bool, true, false, ◌&&◌, if◌then◌else◌, ◌==◌, List, [], ◌∷◌, Option, Some, None, Result, Ok, Err}
use Rattle.ls_reader.specs.declared.fault.FaultKind.{FaultKind}
use Rattle.ls_reader.specs.declared.fault.FaultKind.TheVariants.{Unclosed}

-- what was read and the rest, with one more in front of what was read
abbrev pub with_first : {A : Type 0} → A → Result (List A × List ℕ) FaultKind → Result (List A × List ℕ) FaultKind
with_first a (Ok x) = Ok (a ∷ x.0, x.1)
with_first a (Err k) = Err k

-- a string's content up to its closing quote, and the rest, by whether a backslash came last
unfoldable pub content : Bool → List ℕ → Result (List ℕ × List ℕ) FaultKind
content after_escape [] = Err Unclosed
content true (c ∷ cs) = with_first c (content false cs)
content false (c ∷ cs) =
    if c == 34 then Ok ([], cs) else (if c == 92 then content true cs else with_first c (content false cs))

-- whether a character is the second of a pair
abbrev pub is_pair : ℕ → ℕ → Option ℕ → ℕ → Bool
is_pair j k None c = false
is_pair j k (Some p) c = p == j && c == k

-- where the next part of a comment begins, behind a character
abbrev pub passed : ℕ → Option ℕ → ℕ
passed at None = at
passed at (Some p) = at + 1

-- what follows where a comment ends, by the starts of those around it
abbrev pub closed : {X : Type 0} → List ℕ → X → (ℕ → List ℕ → X) → X
closed [] whole next = whole
closed (j ∷ w) whole next = next j w

-- what follows the comment, with the start of the innermost comment, the starts of those around it, the place of the
-- character before, if it is not yet of a part, and that character
unfoldable pub comment : ℕ → List ℕ → ℕ → Option ℕ → List ℕ → Result (List ℕ) (FaultKind × ℕ)
comment i w at last [] = Err (Unclosed, i)
comment i w at last (c ∷ cs) =
    if is_pair 124 35 last c then closed w (Ok cs) (λ j v. comment j v (at + 2) None cs) else
    (if is_pair 35 124 last c then comment at (i ∷ w) (at + 2) None cs else comment i w (passed at last) (Some c) cs)
