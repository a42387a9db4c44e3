-- Which templates lead back to themselves, where each has the list of the numbers of those that its body mentions.
use Rattle.std.specs.Prelude.{ℕ, zero, suc, ◌≡◌, ◌<◌, ◌+◌, ◌↔◌, IsTrue, List, [], ◌∷◌, ◌++◌, slice_get, slice_set, length, Option, Some, None, Bool, true, false, ◌⊎◌}
use Rattle.ls_env.specs.declared.walk.Seen.{Seen}

abbrev pub In : ℕ → List ℕ → Type 0
In b [] = ⊥
In b (x ∷ xs) = (x ≡ b) ⊎ In b xs

abbrev pub numbers_of : Option (List ℕ) → List ℕ
numbers_of None = []
numbers_of (Some numbers) = numbers

-- the numbers that the body of a template mentions
abbrev pub body : List (List ℕ) → ℕ → List ℕ
body graph a = numbers_of (slice_get graph a)

-- a way from a template to another, by those between
abbrev pub IsPath : List (List ℕ) → ℕ → List ℕ → ℕ → Type 0
IsPath graph a [] b = In b (body graph a)
IsPath graph a (x ∷ xs) b = In x (body graph a) × IsPath graph x xs b

-- The least relation by which a template reaches those that it mentions, and what these reach: there is a way.
abbrev pub Reaches : List (List ℕ) → ℕ → ℕ → Type 0
Reaches graph a b = (between : List ℕ) × IsPath graph a between b

-- each number in a body is that of a template
abbrev pub InRange : List (List ℕ) → Type 0
InRange graph = (a b : ℕ) → In b (body graph a) → b < length graph

-- ---- a walk from template to template, which tells whether one reaches itself

abbrev pub falses : ℕ → List Bool
falses zero = []
falses (suc n) = false ∷ falses n

-- nothing is seen so far
abbrev pub blank : ℕ → Seen
blank n = record { marked = falses n; order = [] }

abbrev pub see_by : Option Bool → ℕ → Seen → Seen
see_by None b s = s
see_by (Some true) b s = s
see_by (Some false) b s = record { marked = slice_set s.marked b true; order = s.order ++ b ∷ [] }

-- sees a template, once
abbrev pub see : ℕ → Seen → Seen
see b s = see_by (slice_get s.marked b) b s

abbrev pub see_all : List ℕ → Seen → Seen
see_all [] s = s
see_all (b ∷ bs) s = see_all bs (see b s)

abbrev pub follow_by : List (List ℕ) → Option ℕ → Seen → Seen
follow_by graph None s = s
follow_by graph (Some m) s = see_all (body graph m) s

-- sees what the template that was seen at a place mentions
abbrev pub follow : List (List ℕ) → ℕ → Seen → Seen
follow graph at s = follow_by graph (slice_get s.order at) s

-- so many places, from one on
abbrev pub walk : List (List ℕ) → ℕ → ℕ → Seen → Seen
walk graph zero at s = s
walk graph (suc n) at s = walk graph n (at + 1) (follow graph at s)

abbrev pub or_false : Option Bool → Bool
or_false None = false
or_false (Some b) = b

-- whether a walk from a template sees it again; it does exactly where the template reaches itself (`TellsReaching`)
unfoldable pub comes_back : List (List ℕ) → ℕ → Bool
comes_back graph a =
    or_false (slice_get (walk graph (length graph) 0 (see_all (body graph a) (blank (length graph)))).marked a)

-- the walk tells what reaches itself
abbrev pub TellsReaching : Type 0
TellsReaching =
    (graph : List (List ℕ)) (a : ℕ) → InRange graph → IsTrue (comes_back graph a) ↔ Reaches graph a a
