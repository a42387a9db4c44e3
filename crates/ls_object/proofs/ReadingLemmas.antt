-- Reading a text from its front: a run of characters that pass a test, up to one that doesn't.
use Rattle.std.proofs.Common.{ℕ, ◌≡◌, Bool, true, false, not, ◌||◌, ◌==◌, List, [], ◌∷◌, ◌++◌, ◌⊎◌, inl, inr, refl, sym, ap, ◌∙◌}
use Rattle.std.specs.List.{list_all}
use Rattle.std.proofs.lemmas.Bool.{true≢false, and_parts, eqb-true}

-- one of two tests passes
pub or_true : (a b : Bool) → (a || b) ≡ true → (a ≡ true) ⊎ (b ≡ true)
or_true true b h = inl refl
or_true false b h = inr h

-- the text is empty, or its first character fails the test
abbrev pub stops : (ℕ → Bool) → List ℕ → Bool
stops p [] = true
stops p (c ∷ cs) = not (p c)

-- a character that ends an object's text: a space or a closing bracket
abbrev pub is_end_char : ℕ → Bool
is_end_char c = (c == 32) || (c == 41)

-- the text is empty, or begins with a character that ends an object's text
abbrev pub is_end : List ℕ → Bool
is_end [] = true
is_end (c ∷ cs) = is_end_char c

-- the heads of two equal lists
pub same_head : (x y : ℕ) (xs ys : List ℕ) → x ∷ xs ≡ y ∷ ys → x ≡ y
same_head x y xs ys e = cc

-- the tails of two equal lists
pub same_tail : (x y : ℕ) (xs ys : List ℕ) → x ∷ xs ≡ y ∷ ys → xs ≡ ys
same_tail x y xs ys e = cc

-- a text that stops doesn't begin with a character that passes
stops_not : (p : ℕ → Bool) (r : List ℕ) (y : ℕ) (ys : List ℕ) → stops p r ≡ true → r ≡ y ∷ ys → p y ≡ true → ⊥
stops_not p [] y ys h e k = absurd (cc)
stops_not p (c ∷ cs) y ys h e k = true≢false (sym h ∙ ap not (ap p (same_head c y cs ys e) ∙ k))

-- two runs with what is behind them: the runs are equal, and what is behind them
pub same_run : (p : ℕ → Bool) (a b r s : List ℕ) → list_all p a ≡ true → list_all p b ≡ true → stops p r ≡ true → stops p s ≡ true → a ++ r ≡ b ++ s → (a ≡ b) × (r ≡ s)
same_run p [] [] r s ha hb hr hs e = (refl, e)
same_run p [] (y ∷ b) r s ha hb hr hs e = absurd (stops_not p r y (b ++ s) hr e (and_parts (p y) (list_all p b) hb).0)
same_run p (x ∷ a) [] r s ha hb hr hs e = absurd (stops_not p s x (a ++ r) hs (sym e) (and_parts (p x) (list_all p a) ha).0)
same_run p (x ∷ a) (y ∷ b) r s ha hb hr hs e =
    let rest = same_run p a b r s (and_parts (p x) (list_all p a) ha).1 (and_parts (p y) (list_all p b) hb).1 hr hs (same_tail x y (a ++ r) (b ++ s) e) in
    let first = same_head x y (a ++ r) (b ++ s) e in
    (cc (first, rest.0), rest.1)

-- a test that a space and a closing bracket fail fails at each character that ends an object's text
fails_at_end : (p : ℕ → Bool) (c : ℕ) → p 32 ≡ false → p 41 ≡ false → is_end_char c ≡ true → p c ≡ false
fails_at_end p c space bracket e =
    elim (or_true (c == 32) (c == 41) e) as (λ _. p c ≡ false) [
      | inl is ↦ ap p (eqb-true c 32 is) ∙ space
      | inr is ↦ ap p (eqb-true c 41 is) ∙ bracket
    ]

-- an end stops a run of characters that don't end an object's text
pub stops-is_end : (p : ℕ → Bool) (r : List ℕ) → p 32 ≡ false → p 41 ≡ false → is_end r ≡ true → stops p r ≡ true
stops-is_end p [] space bracket e = refl
stops-is_end p (c ∷ cs) space bracket e = ap not (fails_at_end p c space bracket e)

-- an end doesn't begin with another character
pub end_apart : (r : List ℕ) (y : ℕ) (ys : List ℕ) → is_end r ≡ true → r ≡ y ∷ ys → is_end_char y ≡ false → ⊥
end_apart [] y ys h e k = absurd (cc)
end_apart (c ∷ cs) y ys h e k = true≢false (sym h ∙ ap is_end_char (same_head c y cs ys e) ∙ k)
