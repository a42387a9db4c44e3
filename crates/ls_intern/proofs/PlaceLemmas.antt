-- The specifiers at places of a list that grows.
use Rattle.std.proofs.Common.{ℕ, zero, suc, ◌≡◌, ◌<◌, ◌≤◌, ◌+◌, refl, sym, ◌∙◌, ap, List, [], ◌∷◌, ◌++◌, append_assoc, append-nil, length, length-append, arith, Bool, true, false, ltb, ◌⊎◌, inl, inr, Some, None}
use borrow.Author.Tests.{ltb-true, ltb-false}
use Rattle.ls_spec.specs.Specifier.{Specifier, and_of, or_of, not_of, array_of}
use Rattle.ls_spec.specs.Meaning.{specifiers_of}
use Rattle.ls_intern.specs.declared.node.Node.{Node}
use Rattle.ls_intern.specs.declared.node.Node.TheVariants as node
use Rattle.ls_intern.specs.Places.{at, specifiers_at, node_specifier, AllBelow, PartsBelow, Distinct, Extends}

-- a place of the front
pub at_front : (xs ys : List Specifier) (i : ℕ) → i < length xs → at (xs ++ ys) i ≡ at xs i
at_front [] ys i h = absurd (omega arith)
at_front (x ∷ xs) ys zero h = refl
at_front (x ∷ xs) ys (suc i) h = at_front xs ys i (omega arith)

-- the place behind the front
pub at_behind : (xs ys : List Specifier) (x : Specifier) → at (xs ++ x ∷ ys) (length xs) ≡ x
at_behind [] ys x = refl
at_behind (y ∷ xs) ys x = at_behind xs ys x

-- several places of the front
pub specifiers_front : (xs ys : List Specifier) (ids : List ℕ) → AllBelow (length xs) ids → specifiers_at (xs ++ ys) ids ≡ specifiers_at xs ids
specifiers_front xs ys [] h = refl
specifiers_front xs ys (i ∷ ids) h = let e = at_front xs ys i h.0 in let f = specifiers_front xs ys ids h.1 in cc

-- a node of which the parts are in the front
pub node_front : (xs ys : List Specifier) (n : Node) → PartsBelow (length xs) n → node_specifier (xs ++ ys) n ≡ node_specifier xs n
node_front xs ys node.All h = refl
node_front xs ys node.Nothing h = refl
node_front xs ys (node.And ids) h = ap (λ ss. and_of (specifiers_of ss)) (specifiers_front xs ys ids h)
node_front xs ys (node.Or ids) h = ap (λ ss. or_of (specifiers_of ss)) (specifiers_front xs ys ids h)
node_front xs ys (node.Not id) h = ap not_of (at_front xs ys id h)
node_front xs ys (node.Eql p) h = refl
node_front xs ys (node.Range k lo hi) h = refl
node_front xs ys (node.Chars k) h = refl
node_front xs ys (node.Symbols k) h = refl
node_front xs ys (node.Kind k) h = refl
node_front xs ys (node.StructIs name) h = refl
node_front xs ys node.StructAny h = refl
node_front xs ys (node.ArrayOf None simple dims) h = refl
node_front xs ys (node.ArrayOf (Some e) simple dims) h = ap (λ s. array_of s simple dims) (at_front xs ys e h)
node_front xs ys (node.StringOf simple dim) h = refl
node_front xs ys (node.ConsOf car cdr) h = let e = at_front xs ys car h.0 in let f = at_front xs ys cdr h.1 in cc
node_front xs ys (node.Satisfies p) h = refl

-- numbers below one bound are below a greater one
pub all_below_more : (m n : ℕ) (ids : List ℕ) → m ≤ n → AllBelow m ids → AllBelow n ids
all_below_more m n [] h b = tt
all_below_more m n (i ∷ ids) h b = (omega arith, all_below_more m n ids h b.1)

pub parts_below_more : (m n : ℕ) (x : Node) → m ≤ n → PartsBelow m x → PartsBelow n x
parts_below_more m n node.All h b = tt
parts_below_more m n node.Nothing h b = tt
parts_below_more m n (node.And ids) h b = all_below_more m n ids h b
parts_below_more m n (node.Or ids) h b = all_below_more m n ids h b
parts_below_more m n (node.Not id) h b = omega arith
parts_below_more m n (node.Eql p) h b = tt
parts_below_more m n (node.Range k lo hi) h b = tt
parts_below_more m n (node.Chars k) h b = tt
parts_below_more m n (node.Symbols k) h b = tt
parts_below_more m n (node.Kind k) h b = tt
parts_below_more m n (node.StructIs name) h b = tt
parts_below_more m n node.StructAny h b = tt
parts_below_more m n (node.ArrayOf None simple dims) h b = tt
parts_below_more m n (node.ArrayOf (Some e) simple dims) h b = omega arith
parts_below_more m n (node.StringOf simple dim) h b = tt
parts_below_more m n (node.ConsOf car cdr) h b = (omega arith, omega arith)
parts_below_more m n (node.Satisfies p) h b = tt

-- a place of the list with one more is one of the list, or the last
place_by : (a n : ℕ) (b : Bool) → ltb a n ≡ b → a < n + 1 → (a < n) ⊎ (a ≡ n)
place_by a n true e l = inl (ltb-true a n e)
place_by a n false e l = inr (let k = ltb-false a n e in omega arith)

-- a specifier that isn't there goes behind a list of distinct ones
pub distinct_more : (known : List Specifier) (s : Specifier) → Distinct known → ((j : ℕ) → j < length known → at known j ≡ s → ⊥) → Distinct (known ++ s ∷ [])
distinct_more known s d never i j h k e = by (length-append known (s ∷ []))
  where
    front : (a : ℕ) → a < length known → at known a ≡ at (known ++ s ∷ []) a
    front a l = sym (at_front known (s ∷ []) a l)

    last : (a : ℕ) → a ≡ length known → at (known ++ s ∷ []) a ≡ s
    last a l = ap (at (known ++ s ∷ [])) l ∙ at_behind known [] s

    split : (a : ℕ) → a < length known + 1 → (a < length known) ⊎ (a ≡ length known)
    split a l = place_by a (length known) (ltb a (length known)) refl l

    both : ((i < length known) ⊎ (i ≡ length known)) → ((j < length known) ⊎ (j ≡ length known)) → i ≡ j
    both (inl p) (inl q) = d i j p q (front i p ∙ e ∙ sym (front j q))
    both (inl p) (inr q) = absurd (never i p (front i p ∙ e ∙ last j q))
    both (inr p) (inl q) = absurd (never j q (front j q ∙ sym e ∙ last i p))
    both (inr p) (inr q) = p ∙ sym q

    by : length (known ++ s ∷ []) ≡ length known + 1 → i ≡ j
    by l = both (split i (omega arith)) (split j (omega arith))

-- a list extends itself
pub extends_none : (old : List Specifier) → Extends old old
extends_none old = record { more = []; is = sym (append-nil old) }

-- growing twice is growing
pub extends_both : (a b c : List Specifier) → Extends a b → Extends b c → Extends a c
extends_both a b c e f = record { more = e.more ++ f.more; is = f.is ∙ ap (λ x. x ++ f.more) e.is ∙ append_assoc a e.more f.more }

pub extends_length : (a b : List Specifier) → Extends a b → length a ≤ length b
extends_length a b e = let n = ap length e.is in omega (arith, length-append a e.more)

-- numbers keep what they stand for as the list grows
pub below_grown : (a b : List Specifier) (id : ℕ) → Extends a b → id < length a → id < length b
below_grown a b id e h = let n = extends_length a b e in omega arith

pub all_below_grown : (a b : List Specifier) (ids : List ℕ) → Extends a b → AllBelow (length a) ids → AllBelow (length b) ids
all_below_grown a b ids e h = all_below_more (length a) (length b) ids (extends_length a b e) h

pub at_grown : (a b : List Specifier) (id : ℕ) → Extends a b → id < length a → at b id ≡ at a id
at_grown a b id e h = ap (λ x. at x id) e.is ∙ at_front a e.more id h

pub specifiers_grown : (a b : List Specifier) (ids : List ℕ) → Extends a b → AllBelow (length a) ids → specifiers_at b ids ≡ specifiers_at a ids
specifiers_grown a b ids e h = ap (λ x. specifiers_at x ids) e.is ∙ specifiers_front a e.more ids h
