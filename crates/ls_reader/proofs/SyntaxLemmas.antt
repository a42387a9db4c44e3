-- Runs of characters of a class, and the syntax types of characters.
use Rattle.std.specs.List.{prefix_len}
use Rattle.std.proofs.Common.{◌≡◌, ◌≢◌, ◌≤◌, ◌+◌, ℕ, Bool, true, false, eqb, List, [], ◌∷◌, ◌++◌, length, take, drop, refl, sym, ap, ◌∙◌, one-add, arith, length-take, nat_lt}
use Rattle.std.proofs.lemmas.Bool.{eqb-true, cond_both, false≢true}
use Rattle.ls_reader.specs.declared.character.Syntax.{Syntax}
use Rattle.ls_reader.specs.declared.character.Syntax.TheVariants as syntax_type
use Rattle.ls_reader.specs.Characters.{is_blank, is_terminating, is_plain, is_constituent, syntax_of}
use Rattle.ls_reader.specs.Lexemes.{IsRun}

-- ---- runs

-- the run that comes first is one
pub run_is : (p : ℕ → Bool) (cs : List ℕ) → IsRun p (take (prefix_len p cs) cs) (drop (prefix_len p cs) cs)
run_is p [] = (tt, tt)
run_is p (c ∷ cs) =
    cond_both (p c) (1 + prefix_len p cs) 0 (λ n. IsRun p (take n (c ∷ cs)) (drop n (c ∷ cs)))
    (λ e. rw one-add ((e, (run_is p cs).0), (run_is p cs).1))
    (λ e. (tt, e))

-- a run that comes first is found
pub run_len-is : (p : ℕ → Bool) (text rest : List ℕ) → IsRun p text rest → prefix_len p (text ++ rest) ≡ length text
run_len-is p [] [] h = refl
run_len-is p [] (c ∷ cs) h = rw h.1 refl
run_len-is p (c ∷ cs) rest h = rw (h.0.0, run_len-is p cs rest (h.0.1, h.1)) (omega arith)

-- a run is within the text
pub run_within : (p : ℕ → Bool) (cs : List ℕ) → prefix_len p cs ≤ length cs
run_within p [] = omega arith
run_within p (c ∷ cs) = cond_both (p c) (1 + prefix_len p cs) 0 (λ n. n ≤ length (c ∷ cs)) (λ _. omega (arith, run_within p cs)) (λ _. omega arith)

-- the length of a front
pub taken_length : (n : ℕ) (cs : List ℕ) → n ≤ length cs → length (take n cs) ≡ n
taken_length n cs h = omega (arith, length-take {A = ℕ} n cs, h)

-- ---- syntax types

-- by the type of a character
pub by_syntax : (P : Syntax → Type 0) (c : ℕ) → (is_blank c ≡ true → P syntax_type.Whitespace) → P syntax_type.Invalid → (is_terminating c ≡ true → P syntax_type.Terminating)
    → (c ≡ 35 → P syntax_type.Sharp) → (c ≡ 92 → P syntax_type.SingleEscape) → (c ≡ 124 → P syntax_type.MultipleEscape) → P syntax_type.Constituent → P (syntax_of c)
unfolding syntax_of
by_syntax P c blank bad macro sharp single_escape bar plain =
    cond_both (is_blank c) _ _ P blank (λ _.
    cond_both (nat_lt c 32) _ _ P (λ _. bad) (λ _.
    cond_both (is_terminating c) _ _ P macro (λ _.
    cond_both (eqb c 35) _ _ P (λ e. sharp (eqb-true c 35 e)) (λ _.
    cond_both (eqb c 92) _ _ P (λ e. single_escape (eqb-true c 92 e)) (λ _.
    cond_both (eqb c 124) _ _ P (λ e. bar (eqb-true c 124 e)) (λ _. plain))))))

-- whitespace is a blank
pub whitespace_is : (c : ℕ) → syntax_of c ≡ syntax_type.Whitespace → is_blank c ≡ true
whitespace_is c = by_syntax (λ s. s ≡ syntax_type.Whitespace → is_blank c ≡ true) c (λ b _. b) (λ e. cc) (λ _ e. cc) (λ _ e. cc) (λ _ e. cc) (λ _ e. cc) (λ e. cc)

-- a terminating macro character
pub terminating_is : (c : ℕ) → syntax_of c ≡ syntax_type.Terminating → is_terminating c ≡ true
terminating_is c = by_syntax (λ s. s ≡ syntax_type.Terminating → is_terminating c ≡ true) c (λ _ e. cc) (λ e. cc) (λ b _. b) (λ _ e. cc) (λ _ e. cc) (λ _ e. cc) (λ e. cc)

-- `#` alone has its type
pub sharp_is : (c : ℕ) → syntax_of c ≡ syntax_type.Sharp → c ≡ 35
sharp_is c = by_syntax (λ s. s ≡ syntax_type.Sharp → c ≡ 35) c (λ _ e. cc) (λ e. cc) (λ _ e. cc) (λ h _. h) (λ _ e. cc) (λ _ e. cc) (λ e. cc)

-- the backslash alone has its type
pub single_is : (c : ℕ) → syntax_of c ≡ syntax_type.SingleEscape → c ≡ 92
single_is c = by_syntax (λ s. s ≡ syntax_type.SingleEscape → c ≡ 92) c (λ _ e. cc) (λ e. cc) (λ _ e. cc) (λ _ e. cc) (λ h _. h) (λ _ e. cc) (λ e. cc)

-- the bar alone has its type
pub multiple_is : (c : ℕ) → syntax_of c ≡ syntax_type.MultipleEscape → c ≡ 124
multiple_is c = by_syntax (λ s. s ≡ syntax_type.MultipleEscape → c ≡ 124) c (λ _ e. cc) (λ e. cc) (λ _ e. cc) (λ _ e. cc) (λ _ e. cc) (λ h _. h) (λ e. cc)

-- a constituent other than `#`
pub constituent_is : (c : ℕ) → is_constituent c ≡ true → c ≢ 35 → syntax_of c ≡ syntax_type.Constituent
constituent_is c =
    by_syntax (λ s. is_plain s ≡ true → c ≢ 35 → s ≡ syntax_type.Constituent) c (λ _ e _. absurd (false≢true e)) (λ e _. absurd (false≢true e)) (λ _ e _. absurd (false≢true e))
    (λ h _ n. absurd (n h)) (λ _ e _. absurd (false≢true e)) (λ _ e _. absurd (false≢true e)) (λ _ _. refl)

-- whether a type is that of constituents
abbrev is_constituent_type : Syntax → Bool
is_constituent_type syntax_type.Constituent = true
is_constituent_type _ = false

-- a character of the type of constituents is not `#`
pub constituent_no_sharp : (c : ℕ) → syntax_of c ≡ syntax_type.Constituent → c ≢ 35
unfolding syntax_of
constituent_no_sharp c e f = let both : syntax_type.Sharp ≡ syntax_type.Constituent = sym (ap syntax_of f) ∙ e in false≢true (ap is_constituent_type both)

-- a blank is whitespace
pub blank_is : (c : ℕ) → is_blank c ≡ true → syntax_of c ≡ syntax_type.Whitespace
unfolding syntax_of
blank_is c e = rw e refl
