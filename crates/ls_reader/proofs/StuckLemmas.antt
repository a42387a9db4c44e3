-- The fault of a text that no lexeme begins.
use Rattle.std.proofs.Common.{◌≡◌, ℕ, true, false, List, [], ◌∷◌, length, take, drop, None, Result, Ok, Err, refl, sym, ap, ◌∙◌}
use Rattle.std.proofs.lemmas.Bool.{false≢true}
use Rattle.ls_reader.specs.declared.fault.FaultKind.{FaultKind}
use Rattle.ls_reader.specs.declared.fault.FaultKind.TheVariants.{Unclosed}
use Rattle.ls_reader.specs.declared.token.Token.{Token}
use Rattle.ls_reader.specs.Characters.{syntax_of}
use Rattle.ls_reader.specs.Comments.{IsUnended}
use Rattle.ls_reader.specs.steps.Delimited.{comment}
use Rattle.ls_reader.specs.steps.Lexing.{LocalFault, lexeme}
use Rattle.ls_reader.specs.Lexemes.{begins_invalid, begins_comment, IsStuck, invalid, in_comment, elsewhere}
use Rattle.ls_reader.specs.Faults.{NoLexeme}
use Rattle.ls_reader.proofs.CommentLemmas.{unended_again}
use Rattle.ls_reader.proofs.SyntaxLemmas.{taken_length}
use Rattle.ls_reader.proofs.LexemeLemmas.{Sound, lexeme_sound}

-- ---- the fault of a front without a lexeme

-- a comment that is not ended begins with `#|`
comment_begins : (cs around : List ℕ) → IsUnended cs around → (begins_invalid cs ≡ false) × (begins_comment cs ≡ true)
unfolding syntax_of
comment_begins cs around u = let h = unended_again cs around u in rw h.is (refl, refl)

-- what stands behind `#|` is determined by the text
same_behind : (cs a b : List ℕ) → cs ≡ 35 ∷ 124 ∷ a → cs ≡ 35 ∷ 124 ∷ b → a ≡ b
same_behind cs a b e f = ap (drop 2) (sym e ∙ f)

-- a fault has one place
same_length : (r : Result (List ℕ) (FaultKind × ℕ)) (m n : ℕ) → r ≡ Err (Unclosed, m) → r ≡ Err (Unclosed, n) → m ≡ n
same_length r m n e f =
    let p : FaultKind × ℕ = (Unclosed, m) in
    let q : FaultKind × ℕ = (Unclosed, n) in
    let h : p ≡ q = cc in ap (λ (x : FaultKind × ℕ). x.1) h

-- the text around the innermost comment that is not ended is determined
same_around : (cs a b : List ℕ) → IsUnended cs a → IsUnended cs b → a ≡ b
same_around cs a b u v =
    let h = unended_again cs a u in
    let k = unended_again cs b v in
    let n = same_length (comment 0 [] 2 None h.behind) (length a) (length b) h.finds (ap (comment 0 [] 2 None) (same_behind cs h.behind k.behind h.is k.is) ∙ k.finds) in
    sym h.front ∙ ap (λ (m : ℕ). take m cs) n ∙ k.front

-- a front has one fault
same_stuck : (cs : List ℕ) (k l : FaultKind) (a b : List ℕ) → IsStuck cs k a → IsStuck cs l b → (k ≡ l) × (a ≡ b)
same_stuck cs k l a b (invalid i e f) (invalid j g h) = (e ∙ sym g, f ∙ sym h)
same_stuck cs k l a b (invalid i e f) (in_comment u g) = absurd (false≢true (sym (comment_begins cs b u).0 ∙ i))
same_stuck cs k l a b (invalid i e f) (elsewhere j m g h) = absurd (false≢true (sym j ∙ i))
same_stuck cs k l a b (in_comment u e) (invalid j g h) = absurd (false≢true (sym (comment_begins cs a u).0 ∙ j))
same_stuck cs k l a b (in_comment u e) (in_comment v g) = (e ∙ sym g, same_around cs a b u v)
same_stuck cs k l a b (in_comment u e) (elsewhere j m g h) = absurd (false≢true (sym m ∙ (comment_begins cs a u).1))
same_stuck cs k l a b (elsewhere i n e f) (invalid j g h) = absurd (false≢true (sym i ∙ j))
same_stuck cs k l a b (elsewhere i n e f) (in_comment v g) = absurd (false≢true (sym n ∙ (comment_begins cs b v).1))
same_stuck cs k l a b (elsewhere i n e f) (elsewhere j m g h) = (e ∙ sym g, f ∙ sym h)

-- the fault, by what was found
stuck_by : (cs : List ℕ) (k : FaultKind) (before : List ℕ) (r : Result (Token × List ℕ) LocalFault) → Sound cs r → NoLexeme cs → IsStuck cs k before → r ≡ Err (k, length before)
stuck_by cs k before (Ok x) s not is = absurd (not x.0 s.0 x.1 s.1 s.2)
stuck_by cs k before (Err x) s not is =
    let same = same_stuck cs x.0 k s.0 before s.1 is in
    let count : x.1 ≡ length before = sym (taken_length x.1 cs s.3) ∙ ap length (s.2 ∙ same.1) in
    ap (λ (l : FaultKind). Err (l, x.1)) same.0 ∙ ap (λ (n : ℕ). Err (k, n)) count

-- where no lexeme begins the fault is found
pub stuck_again : (cs : List ℕ) (k : FaultKind) (before : List ℕ) → NoLexeme cs → IsStuck cs k before → lexeme cs ≡ Err (k, length before)
stuck_again cs k before not is = stuck_by cs k before (lexeme cs) (lexeme_sound cs) not is

-- the fault's place is behind a front of the text
pub stuck_front : (cs : List ℕ) (k : FaultKind) (before : List ℕ) → IsStuck cs k before → take (length before) cs ≡ before
stuck_front cs k before (invalid i e f) = rw f refl
stuck_front cs k before (in_comment u e) = (unended_again cs before u).front
stuck_front cs k before (elsewhere i n e f) = rw f refl
