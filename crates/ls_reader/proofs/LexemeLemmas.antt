-- The function `lexeme` finds a lexeme at the front of a text exactly where one stands there.
use Rattle.std.specs.List.{prefix_len}
use Rattle.std.proofs.Common.{◌≡◌, ◌≢◌, ◌<◌, ◌≤◌, ℕ, Bool, true, false, eqb, List, [], ◌∷◌, ◌++◌, length, take, drop, Some, None, Result, Ok, Err, refl, sym, ap, subst, ◌∙◌, ◌||◌, append_assoc, arith, nat_lt}
use Rattle.std.proofs.lemmas.Bool.{eqb-true, eq-eqb, ne_eqb, cond_both, false≢true, lt-ltb, and_left, or_left, or_right}
use Rattle.std.proofs.lemmas.Bool.Decides.{nat_tests}
use Rattle.std.proofs.lemmas.List.{take_at, drop_at, take-append-drop}
use Rattle.std.proofs.lemmas.List.Concat.{flat_map-append}
use Rattle.ls_reader.specs.declared.character.Syntax.{Syntax}
use Rattle.ls_reader.specs.declared.character.Syntax.TheVariants as syntax_type
use Rattle.ls_reader.specs.declared.datum.Form.{roll-Form}
use Rattle.ls_reader.specs.declared.datum.Form.TheOpen.{Form-F}
use Rattle.ls_reader.specs.declared.fault.FaultKind.{FaultKind}
use Rattle.ls_reader.specs.declared.fault.FaultKind.TheVariants.{BadToken, Unclosed}
use Rattle.ls_reader.specs.declared.sharpsign.Construct.{Construct}
use Rattle.ls_reader.specs.declared.sharpsign.Construct.TheVariants as construct_type
use Rattle.ls_reader.specs.declared.token.Token.{Token}
use Rattle.ls_reader.specs.declared.token.Token.TheVariants as token
use Rattle.ls_reader.specs.declared.token.Bracket.TheVariants as bracket
use Rattle.ls_reader.specs.declared.token.Mark.TheVariants as mark
use Rattle.ls_reader.specs.declared.interpret.Role.{Role}
use Rattle.ls_reader.specs.declared.interpret.Role.TheVariants as role
use Rattle.ls_reader.specs.Characters.{is_blank, is_terminating, is_constituent, is_digit, is_not_newline, goes_on, begins_token, syntax_of}
use Rattle.ls_reader.specs.CharNames.{character}
use Rattle.ls_reader.specs.Comments.{CommentPart, closes, part_text, comment_text}
use Rattle.ls_reader.specs.Macros.{macro_token, is_splice, construct_of, numbered_construct, plain_construct, is_not_kept}
use Rattle.ls_reader.specs.Strings.{inners_text}
use Rattle.ls_reader.specs.steps.Delimited.{content, comment}
use Rattle.ls_reader.specs.Tokens.{Part, constituent, single, barred, parts_text, chars_of, interpretation}
use Rattle.ls_reader.specs.steps.Lexing.{LocalFault, token_at, as_string, as_gap, character_at, construct_at, behind_count, sharpsign, comma, other_macro, macro_at, lexeme_by, lexeme}
use Rattle.ls_reader.specs.Lexemes.{Ends, Are, IsRun, IsToken, is_counted, Written, blanks, line, nested, macro_char, lone_comma, splice, string, free, alone, cut, character_of, behind, written, token_of, StandsBefore, IsLexeme, is_invalid, begins_invalid, begins_comment, IsStuck, invalid, in_comment, elsewhere}
use Rattle.ls_reader.specs.Faults.{NoLexeme}
use Rattle.ls_reader.proofs.CommentLemmas.{Reads, found, comment_sound, comment_again, unended_again}
use Rattle.ls_reader.proofs.StringLemmas as strings
use Rattle.ls_reader.proofs.TokenLemmas as token_laws
use Rattle.ls_reader.proofs.SyntaxLemmas.{run_is, run_len-is, run_within, taken_length, whitespace_is, terminating_is, sharp_is, single_is, multiple_is, constituent_is, constituent_no_sharp, blank_is}

-- ---- what the function finds is a lexeme

-- what was found at the front of the characters is a lexeme there, or none begins there
abbrev pub Sound : List ℕ → Result (Token × List ℕ) LocalFault → Type 0
Sound cs (Ok x) = (text : List ℕ) × IsLexeme x.0 text x.1 × (cs ≡ text ++ x.1)
Sound cs (Err x) = (before : List ℕ) × IsStuck cs x.0 before × (take x.1 cs ≡ before) × (x.1 ≤ length cs)

-- what stands before a rest is a lexeme there
stands : (x : Written) (cs rest : List ℕ) → StandsBefore x rest → cs ≡ written x ++ rest → Sound cs (Ok (token_of x, rest))
stands x cs rest s e = (written x, (x, s, refl, refl), e)

-- a construct that is not ended
stuck : (cs : List ℕ) (k : FaultKind) (n : ℕ) → begins_invalid cs ≡ false → begins_comment cs ≡ false → k ≡ Unclosed → n ≡ 0 → Sound cs (Err (k, n))
stuck cs k n f g e z = ([], elsewhere f g e refl, rw z refl, omega (arith, z))

-- a text that `#` does not begin begins no comment
no_comment : (c : ℕ) (cs : List ℕ) → c ≢ 35 → begins_comment (c ∷ cs) ≡ false
no_comment c [] n = refl
no_comment c (d ∷ ds) n = and_left (eqb c 35) _ (ne_eqb c 35 n)

-- a token, by its parts
free_by : (ps : List Part) (c : ℕ) (cs rest : List ℕ) (t : Token) → begins_token (c ∷ cs) ≡ true → IsToken ps rest → c ∷ cs ≡ parts_text ps ++ rest → t ≡ interpretation role.Free (chars_of ps) → Sound (c ∷ cs) (Ok (t, rest))
free_by [] c cs rest t b h e is = absurd (false≢true (sym (subst (λ (x : List ℕ). begins_token x ≡ false) (sym e) h) ∙ b))
free_by (p ∷ ps) c cs rest t b h e is = (parts_text (p ∷ ps), (free (p ∷ ps), ((λ q. cc), h), is, refl), e)

-- a token
free_sound : (c : ℕ) (cs : List ℕ) (r : Result (Token × List ℕ) LocalFault) → goes_on c ≡ true → c ≢ 35 → is_invalid (syntax_of c) ≡ false → token_laws.TokenReads role.Free (c ∷ cs) r → Sound (c ∷ cs) r
free_sound c cs (Ok x) g n i h = free_by h.0 c cs x.1 x.0 (rw (g, ne_eqb c 35 n) refl) h.1 h.2 h.3
free_sound c cs (Err x) g n i h = stuck (c ∷ cs) x.0 x.1 i (no_comment c cs n) h.0 h.1

-- a string
string_sound : (cs : List ℕ) (r : Result (List ℕ × List ℕ) FaultKind) → strings.Reads cs r → Sound (34 ∷ cs) (as_string r)
unfolding syntax_of
string_sound cs (Ok x) h =
    (34 ∷ (inners_text h.inners ++ 34 ∷ []), (string h.inners, h.in_form, ap (λ (y : List ℕ). token.Atom (roll-Form (Form-F.Str y))) h.stand, refl), ap (λ (y : List ℕ). 34 ∷ y) (h.is ∙ sym (append_assoc (inners_text h.inners) (34 ∷ []) x.1)))
string_sound cs (Err k) h = stuck (34 ∷ cs) k 0 refl (no_comment 34 cs (λ e. absurd (omega (arith, e)))) h refl

-- a comma
comma_sound : (cs : List ℕ) → Sound (44 ∷ cs) (Ok (comma cs))
comma_sound [] = stands lone_comma (44 ∷ []) [] tt refl
comma_sound (c ∷ cs) = cond_both (is_splice c) _ _ (λ x. Sound (44 ∷ c ∷ cs) (Ok x)) (λ e. stands (splice c) (44 ∷ c ∷ cs) cs e refl) (λ e. stands lone_comma (44 ∷ c ∷ cs) (c ∷ cs) e refl)

-- the last of the macro characters
last_macro : (c : ℕ) → is_terminating c ≡ true → eqb c 40 ≡ false → eqb c 41 ≡ false → eqb c 39 ≡ false → eqb c 96 ≡ false → eqb c 44 ≡ false → eqb c 59 ≡ false → c ≡ 34
last_macro c t a b d e f g = grind (arith, nat_tests)

-- a comment up to the end of the line
line_sound : (cs : List ℕ) → Sound (59 ∷ cs) (Ok (token.Gap, drop (prefix_len is_not_newline cs) cs))
line_sound cs =
    let n = prefix_len is_not_newline cs in
    stands (line (take n cs)) (59 ∷ cs) (drop n cs) (run_is is_not_newline cs) (ap (λ (x : List ℕ). 59 ∷ x) (sym (take-append-drop n cs)))

-- a comma, a comment or a string
other_sound : (c : ℕ) (cs : List ℕ) → (eqb c 44 ≡ false → eqb c 59 ≡ false → c ≡ 34) → Sound (c ∷ cs) (other_macro c cs)
other_sound c cs q =
    cond_both (eqb c 44) _ _ (Sound (c ∷ cs)) (λ e. subst (λ (k : ℕ). Sound (k ∷ cs) (Ok (comma cs))) (sym (eqb-true c 44 e)) (comma_sound cs)) (λ e.
    cond_both (eqb c 59) _ _ (Sound (c ∷ cs)) (λ f. subst (λ (k : ℕ). Sound (k ∷ cs) (Ok (token.Gap, drop (prefix_len is_not_newline cs) cs))) (sym (eqb-true c 59 f)) (line_sound cs))
    (λ f. subst (λ (k : ℕ). Sound (k ∷ cs) (as_string (content false cs))) (sym (q e f)) (string_sound cs (content false cs) (strings.content_reads false cs))))

-- a terminating macro character
macro_sound : (c : ℕ) (cs : List ℕ) → is_terminating c ≡ true → Sound (c ∷ cs) (macro_at (macro_token c) c cs)
macro_sound c cs t =
    cond_both (eqb c 40) _ _ (λ o. Sound (c ∷ cs) (macro_at o c cs)) (λ e. stands (macro_char c (token.Open bracket.Round)) (c ∷ cs) cs (rw e refl) refl) (λ a.
    cond_both (eqb c 41) _ _ (λ o. Sound (c ∷ cs) (macro_at o c cs)) (λ e. stands (macro_char c token.Close) (c ∷ cs) cs (rw (a, e) refl) refl) (λ b.
    cond_both (eqb c 39) _ _ (λ o. Sound (c ∷ cs) (macro_at o c cs)) (λ e. stands (macro_char c (token.Mark mark.Quote)) (c ∷ cs) cs (rw (a, b, e) refl) refl) (λ d.
    cond_both (eqb c 96) _ _ (λ o. Sound (c ∷ cs) (macro_at o c cs)) (λ e. stands (macro_char c (token.Mark mark.Back)) (c ∷ cs) cs (rw (a, b, d, e) refl) refl)
    (λ f. other_sound c cs (last_macro c t a b d f)))))

-- ---- constructs behind `#`

-- by the construct of a character
by_construct : (P : Construct → Type 0) (c : ℕ) → ((t : Token) → P (construct_type.Alone t)) → ((r : Role) → P (construct_type.Behind r)) → (c ≡ 124 → P construct_type.Comment) → (c ≡ 92 → P construct_type.Character) → P (plain_construct c)
by_construct P c is_alone is_token is_comment is_character =
    cond_both (eqb c 40) _ _ P (λ _. is_alone _) (λ _.
    cond_both (eqb c 42) _ _ P (λ _. is_token _) (λ _.
    cond_both (is_not_kept c) _ _ P (λ _. is_alone _) (λ _.
    cond_both (eqb c 124) _ _ P (λ e. is_comment (eqb-true c 124 e)) (λ _.
    cond_both (eqb c 92) _ _ P (λ e. is_character (eqb-true c 92 e)) (λ _.
    cond_both (eqb c 39) _ _ P (λ _. is_alone _) (λ _.
    cond_both (eqb c 43) _ _ P (λ _. is_alone _) (λ _.
    cond_both (eqb c 45) _ _ P (λ _. is_alone _) (λ _.
    cond_both (eqb c 58) _ _ P (λ _. is_token _) (λ _.
    cond_both (eqb c 98 || eqb c 66) _ _ P (λ _. is_token _) (λ _.
    cond_both (eqb c 111 || eqb c 79) _ _ P (λ _. is_token _) (λ _.
    cond_both (eqb c 120 || eqb c 88) _ _ P (λ _. is_token _) (λ _. is_alone _))))))))))))

-- the same behind digits
by_numbered : (P : Construct → Type 0) (c : ℕ) → ((t : Token) → P (construct_type.Alone t)) → ((r : Role) → P (construct_type.Behind r)) → P (numbered_construct c)
by_numbered P c is_alone is_token =
    cond_both (eqb c 40) _ _ P (λ _. is_alone _) (λ _.
    cond_both (eqb c 42) _ _ P (λ _. is_token _) (λ _.
    cond_both (is_not_kept c) _ _ P (λ _. is_alone _) (λ _.
    cond_both (eqb c 61 || eqb c 35) _ _ P (λ _. is_alone _) (λ _. is_alone _))))

-- a comment is begun by a bar directly behind `#`
comment_is : (counted : Bool) (c : ℕ) → construct_of counted c ≡ construct_type.Comment → (counted ≡ false) × (c ≡ 124)
unfolding construct_of
comment_is true c = by_numbered (λ k. k ≡ construct_type.Comment → (true ≡ false) × (c ≡ 124)) c (λ t e. (cc, cc)) (λ r e. (cc, cc))
comment_is false c = by_construct (λ k. k ≡ construct_type.Comment → (false ≡ false) × (c ≡ 124)) c (λ t e. (refl, cc)) (λ r e. (refl, cc)) (λ h _. (refl, h)) (λ h e. (refl, cc))

-- a character is begun by a backslash directly behind `#`
character_is : (counted : Bool) (c : ℕ) → construct_of counted c ≡ construct_type.Character → (counted ≡ false) × (c ≡ 92)
unfolding construct_of
character_is true c = by_numbered (λ k. k ≡ construct_type.Character → (true ≡ false) × (c ≡ 92)) c (λ t e. (cc, cc)) (λ r e. (cc, cc))
character_is false c = by_construct (λ k. k ≡ construct_type.Character → (false ≡ false) × (c ≡ 92)) c (λ t e. (refl, cc)) (λ r e. (refl, cc)) (λ h e. (refl, cc)) (λ h _. (refl, h))

-- no digits stand where none are counted
not_counted : (digits : List ℕ) → is_counted digits ≡ false → digits ≡ []
not_counted [] e = refl
not_counted (d ∷ ds) e = absurd (false≢true (sym e ∙ lt-ltb 0 (length (d ∷ ds)) (omega arith)))

-- a digit is no bar
digit_not_bar : (d : ℕ) → is_digit d ≡ true → d ≢ 124
digit_not_bar d e f = false≢true (sym (ap is_digit f) ∙ e)

-- whether a construct is a token directly behind its character
abbrev is_token_type : Construct → Bool
is_token_type (construct_type.Behind r) = true
is_token_type _ = false

-- a comment is no token
comment_no_token : (r : Role) → construct_type.Comment ≡ construct_type.Behind r → ⊥
comment_no_token r e = let both : false ≡ true = ap is_token_type e in false≢true both

-- a bar begins no token directly behind `#`
token_not_bar : (c : ℕ) (r : Role) → construct_of false c ≡ construct_type.Behind r → c ≢ 124
unfolding construct_of
token_not_bar c r e f = let both : construct_type.Comment ≡ construct_type.Behind r = sym (ap plain_construct f) ∙ e in comment_no_token r both

-- what stands behind `#`, digits and the character of a token is no comment
token_no_comment : (digits : List ℕ) (c : ℕ) (cs : List ℕ) (r : Role) → Are is_digit digits → construct_of (is_counted digits) c ≡ construct_type.Behind r → begins_comment (35 ∷ (digits ++ c ∷ cs)) ≡ false
token_no_comment [] c cs r h e = ne_eqb c 124 (token_not_bar c r e)
token_no_comment (d ∷ ds) c cs r h e = ne_eqb d 124 (digit_not_bar d h.0)

-- `#` is not invalid
begins_sharp : (cs : List ℕ) → begins_invalid (35 ∷ cs) ≡ false
unfolding syntax_of
begins_sharp cs = refl

-- a token directly behind its character
token_sound : (digits : List ℕ) (c : ℕ) (cs : List ℕ) (reads : Role) (r : Result (Token × List ℕ) LocalFault) → Are is_digit digits → is_digit c ≡ false → construct_of (is_counted digits) c ≡ construct_type.Behind reads
    → token_laws.TokenReads reads cs r → Sound (35 ∷ (digits ++ c ∷ cs)) r
token_sound digits c cs reads (Ok x) h d e w = (
  written (behind digits c reads w.0),
  (behind digits c reads w.0, (h, d, e, w.1), w.3, refl),
  ap (λ (y : List ℕ). 35 ∷ (digits ++ c ∷ y)) w.2 ∙ ap (λ (y : List ℕ). 35 ∷ y) (sym (append_assoc digits (c ∷ parts_text w.0) x.1)),
)
token_sound digits c cs reads (Err x) h d e w = stuck (35 ∷ (digits ++ c ∷ cs)) x.0 x.1 (begins_sharp (digits ++ c ∷ cs)) (token_no_comment digits c cs reads h e) w.0 w.1

-- how a nested comment is written
nested_text : (ms : List CommentPart) → comment_text (ms ++ closes ∷ []) ≡ comment_text ms ++ 124 ∷ 35 ∷ []
nested_text ms = flat_map-append part_text ms (closes ∷ [])

-- a comment between `#|` and `|#`
comment_sound_by : (cs : List ℕ) (r : Result (List ℕ) (FaultKind × ℕ)) → Reads 0 [] 2 cs r → Sound (35 ∷ 124 ∷ cs) (as_gap r)
comment_sound_by cs (Ok rest) h =
    stands (nested h.parts) (35 ∷ 124 ∷ cs) rest (h.balanced, h.picked) (ap (λ (x : List ℕ). 35 ∷ 124 ∷ x) (h.is ∙ ap (λ (x : List ℕ). x ++ rest) (nested_text h.parts)))
comment_sound_by cs (Err x) h =
    let f = found cs x.0 x.1 h in
    let again = unended_again (35 ∷ 124 ∷ cs) f.around f.unended in
    (f.around, in_comment f.unended h.kind, subst (λ (n : ℕ). take n (35 ∷ 124 ∷ cs) ≡ f.around) (sym f.place) again.front, subst (λ (n : ℕ). n ≤ length (35 ∷ 124 ∷ cs)) (sym f.place) again.within)

-- a character
character_sound : (cs : List ℕ) → Sound (35 ∷ 92 ∷ cs) (character_at cs)
character_sound [] = stuck (35 ∷ 92 ∷ []) Unclosed 0 (begins_sharp (92 ∷ [])) refl refl refl
character_sound (c ∷ cs) =
    let n = prefix_len is_constituent cs in
    stands (character_of c (take n cs)) (35 ∷ 92 ∷ c ∷ cs) (drop n cs) (run_is is_constituent cs) (ap (λ (x : List ℕ). 35 ∷ 92 ∷ c ∷ x) (sym (take-append-drop n cs)))

-- a construct behind `#`
construct_sound : (k : Construct) (digits : List ℕ) (c : ℕ) (cs : List ℕ) → Are is_digit digits → is_digit c ≡ false → construct_of (is_counted digits) c ≡ k → Sound (35 ∷ (digits ++ c ∷ cs)) (construct_at k cs)
construct_sound (construct_type.Alone t) digits c cs h d e =
    stands (alone digits c t) (35 ∷ (digits ++ c ∷ cs)) cs (h, d, e) (ap (λ (x : List ℕ). 35 ∷ x) (sym (append_assoc digits (c ∷ []) cs)))
construct_sound (construct_type.Behind reads) digits c cs h d e = token_sound digits c cs reads _ h d e (token_laws.behind_sound reads cs)
construct_sound construct_type.Comment digits c cs h d e =
    let is = comment_is (is_counted digits) c e in
    subst (λ (x : List ℕ). Sound (35 ∷ (x ++ c ∷ cs)) (as_gap (comment 0 [] 2 None cs))) (sym (not_counted digits is.0))
    (subst (λ (k : ℕ). Sound (35 ∷ k ∷ cs) (as_gap (comment 0 [] 2 None cs))) (sym is.1) (comment_sound_by cs (comment 0 [] 2 None cs) (comment_sound 0 [] 2 None cs)))
construct_sound construct_type.Character digits c cs h d e =
    let is = character_is (is_counted digits) c e in
    subst (λ (x : List ℕ). Sound (35 ∷ (x ++ c ∷ cs)) (character_at cs)) (sym (not_counted digits is.0))
    (subst (λ (k : ℕ). Sound (35 ∷ k ∷ cs) (character_at cs)) (sym is.1) (character_sound cs))

-- what stands behind `#` and digits
counted_sound : (digits rest : List ℕ) → IsRun is_digit digits rest → Sound (35 ∷ (digits ++ rest)) (behind_count (is_counted digits) rest)
counted_sound digits [] h = stands (cut digits) (35 ∷ (digits ++ [])) [] (h.0, refl) refl
counted_sound digits (c ∷ cs) h = construct_sound (construct_of (is_counted digits) c) digits c cs h.0 h.1 refl

-- what stands behind `#`
sharp_sound : (cs : List ℕ) → Sound (35 ∷ cs) (sharpsign cs)
sharp_sound cs =
    let n = prefix_len is_digit cs in
    let count : length (take n cs) ≡ n = taken_length n cs (run_within is_digit cs) in
    subst (λ (x : List ℕ). Sound (35 ∷ x) (sharpsign cs)) (take-append-drop n cs)
    (subst (λ (m : ℕ). Sound (35 ∷ (take n cs ++ drop n cs)) (behind_count (nat_lt 0 m) (drop n cs))) count (counted_sound (take n cs) (drop n cs) (run_is is_digit cs)))

-- ---- the whole

-- the lexeme of a character of a type
by_type : (s : Syntax) (c : ℕ) (cs : List ℕ) → syntax_of c ≡ s → Sound (c ∷ cs) (lexeme_by s c cs)
by_type syntax_type.Whitespace c cs e =
    let n = prefix_len is_blank cs in
    stands (blanks (c ∷ take n cs)) (c ∷ cs) (drop n cs) ((λ h. cc), ((whitespace_is c e, (run_is is_blank cs).0), (run_is is_blank cs).1)) (ap (λ (x : List ℕ). c ∷ x) (sym (take-append-drop n cs)))
by_type syntax_type.Invalid c cs e = ([], invalid (rw e refl) refl refl, refl, omega arith)
by_type syntax_type.Terminating c cs e = macro_sound c cs (terminating_is c e)
by_type syntax_type.Sharp c cs e = subst (λ (k : ℕ). Sound (k ∷ cs) (sharpsign cs)) (sym (sharp_is c e)) (sharp_sound cs)
by_type syntax_type.Constituent c cs e = free_sound c cs _ (rw e refl) (constituent_no_sharp c e) (rw e refl) (token_laws.token_sound role.Free (c ∷ cs) (constituent_no_sharp c e))
by_type syntax_type.SingleEscape c cs e =
    let n : c ≢ 35 = λ f. absurd (omega (arith, f, single_is c e)) in
    free_sound c cs _ (or_right (is_constituent c) _ (or_left (eqb c 92) _ (eq-eqb c 92 (single_is c e)))) n (rw e refl) (token_laws.token_sound role.Free (c ∷ cs) n)
by_type syntax_type.MultipleEscape c cs e =
    let n : c ≢ 35 = λ f. absurd (omega (arith, f, multiple_is c e)) in
    free_sound c cs _ (or_right (is_constituent c) _ (or_right (eqb c 92) _ (eq-eqb c 124 (multiple_is c e)))) n (rw e refl) (token_laws.token_sound role.Free (c ∷ cs) n)

-- what is found is a lexeme, or a fault where none begins
pub lexeme_sound : (cs : List ℕ) → Sound cs (lexeme cs)
unfolding lexeme
lexeme_sound [] = ([], elsewhere refl refl refl refl, refl, omega arith)
lexeme_sound (c ∷ cs) = by_type (syntax_of c) c cs refl

-- ---- a lexeme is what the function finds

-- a run and what follows it
run_again : (p : ℕ → Bool) (text rest : List ℕ) → IsRun p text rest → drop (prefix_len p (text ++ rest)) (text ++ rest) ≡ rest
run_again p text rest h = rw (run_len-is p text rest h) (drop_at text rest (length text) refl)

-- brackets, the quote and the backquote end the token before them
macro_terminates : (c : ℕ) (t : Token) → macro_token c ≡ Some t → syntax_of c ≡ syntax_type.Terminating
unfolding syntax_of
macro_terminates c t =
    cond_both (eqb c 40) _ _ (λ o. o ≡ Some t → syntax_of c ≡ syntax_type.Terminating) (λ e _. ap syntax_of (eqb-true c 40 e)) (λ _.
    cond_both (eqb c 41) _ _ (λ o. o ≡ Some t → syntax_of c ≡ syntax_type.Terminating) (λ e _. ap syntax_of (eqb-true c 41 e)) (λ _.
    cond_both (eqb c 39) _ _ (λ o. o ≡ Some t → syntax_of c ≡ syntax_type.Terminating) (λ e _. ap syntax_of (eqb-true c 39 e)) (λ _.
    cond_both (eqb c 96) _ _ (λ o. o ≡ Some t → syntax_of c ≡ syntax_type.Terminating) (λ e _. ap syntax_of (eqb-true c 96 e)) (λ _ e. cc))))

-- the construct behind `#` and digits is found
sharp_again : (digits : List ℕ) (c : ℕ) (cs : List ℕ) → Are is_digit digits → is_digit c ≡ false → lexeme (35 ∷ (digits ++ c ∷ cs)) ≡ construct_at (construct_of (is_counted digits) c) cs
unfolding lexeme syntax_of
sharp_again digits c cs h d = rw (run_len-is is_digit digits (c ∷ cs) (h, d), drop_at digits (c ∷ cs) (length digits) refl) refl

-- `#` and digits at the end of the text are found
cut_again : (digits : List ℕ) → Are is_digit digits → lexeme (35 ∷ (digits ++ [])) ≡ Ok (token.Bad BadToken, [])
unfolding lexeme syntax_of
cut_again digits h = rw (run_len-is is_digit digits [] (h, tt), drop_at digits [] (length digits) refl) refl

-- a comma alone is found
comma_again : (more : List ℕ) → Ends is_splice more → comma more ≡ (token.Mark mark.Comma, more)
comma_again [] e = refl
comma_again (c ∷ cs) e = rw e refl

-- a token is looked for where one begins
free_again : (p : Part) (ps : List Part) (more : List ℕ) → IsToken (p ∷ ps) more → lexeme (parts_text (p ∷ ps) ++ more) ≡ token_at role.Free (parts_text (p ∷ ps) ++ more)
unfolding lexeme syntax_of
free_again (constituent c) ps more h = rw (constituent_is c h.1.0 h.0) refl
free_again (single c) ps more h = refl
free_again (barred is) ps more h = refl

-- a character is found
character_again : (c : ℕ) (cs more : List ℕ) → IsRun is_constituent cs more → character_at (c ∷ (cs ++ more)) ≡ Ok (token.Atom (character (c ∷ cs)), more)
character_again c cs more h = rw (run_len-is is_constituent cs more h, take_at cs more (length cs) refl, drop_at cs more (length cs) refl) refl

-- what stands before the rest is found there
again : (x : Written) (more : List ℕ) → StandsBefore x more → lexeme (written x ++ more) ≡ Ok (token_of x, more)
unfolding lexeme syntax_of construct_of
again (blanks []) more s = absurd (s.0 refl)
again (blanks (c ∷ cs)) more s = rw (blank_is c s.1.0.0, run_again is_blank cs more (s.1.0.1, s.1.1)) refl
again (line cs) more s = rw (run_again is_not_newline cs more s) refl
again (nested ms) more s =
    sharp_again [] 124 ((comment_text ms ++ 124 ∷ 35 ∷ []) ++ more) tt refl
    ∙ ap as_gap (ap (λ (x : List ℕ). comment 0 [] 2 None (x ++ more)) (sym (nested_text ms)) ∙ comment_again ms 0 [] 2 None more s.0 s.1 tt)
again (macro_char c t) more s = rw (macro_terminates c t s, s) refl
again lone_comma more s = ap (λ x. Ok x) (comma_again more s)
again (splice c) more s = rw s refl
again (string is) more s = ap as_string (ap (content false) (append_assoc (inners_text is) (34 ∷ []) more) ∙ strings.content_again is more s)
again (free []) more s = absurd (s.0 refl)
again (free (p ∷ ps)) more s = free_again p ps more s.1 ∙ token_laws.token_again role.Free p ps more s.1
again (alone digits c t) more s =
    ap (λ (x : List ℕ). lexeme (35 ∷ x)) (append_assoc digits (c ∷ []) more) ∙ sharp_again digits c more s.0 s.1 ∙ ap (λ (k : Construct). construct_at k more) s.2
again (cut digits) more s = subst (λ (x : List ℕ). lexeme (35 ∷ (digits ++ x)) ≡ Ok (token.Bad BadToken, x)) (sym s.1) (cut_again digits s.0)
again (character_of c cs) more s = sharp_again [] 92 (c ∷ (cs ++ more)) tt refl ∙ character_again c cs more s
again (behind digits c reads ps) more s =
    ap (λ (x : List ℕ). lexeme (35 ∷ x)) (append_assoc digits (c ∷ parts_text ps) more) ∙ sharp_again digits c (parts_text ps ++ more) s.0 s.1
    ∙ ap (λ (k : Construct). construct_at k (parts_text ps ++ more)) s.2 ∙ token_laws.behind_again reads ps more s.3

-- a lexeme is found
pub lexeme_again : (t : Token) (text more : List ℕ) → IsLexeme t text more → lexeme (text ++ more) ≡ Ok (t, more)
lexeme_again t text more h =
    ap (λ (x : List ℕ). lexeme (x ++ more)) h.3 ∙ again h.0 more h.1 ∙ ap (λ (k : Token). Ok (k, more)) (sym h.2)

-- a part is not empty
some_part : (p : Part) (ps : List Part) → 0 < length (parts_text (p ∷ ps))
some_part (constituent c) ps = omega arith
some_part (single c) ps = omega arith
some_part (barred is) ps = omega arith

-- what is written is not empty
some_written : (x : Written) (more : List ℕ) → StandsBefore x more → 0 < length (written x)
some_written (blanks []) more s = absurd (s.0 refl)
some_written (blanks (c ∷ cs)) more s = omega arith
some_written (line cs) more s = omega arith
some_written (nested ms) more s = omega arith
some_written (macro_char c t) more s = omega arith
some_written lone_comma more s = omega arith
some_written (splice c) more s = omega arith
some_written (string is) more s = omega arith
some_written (free []) more s = absurd (s.0 refl)
some_written (free (p ∷ ps)) more s = some_part p ps
some_written (alone digits c t) more s = omega arith
some_written (cut digits) more s = omega arith
some_written (character_of c cs) more s = omega arith
some_written (behind digits c reads ps) more s = omega arith

-- a lexeme is not empty
pub some_text : (t : Token) (text more : List ℕ) → IsLexeme t text more → 0 < length text
some_text t text more h = rw h.3 (some_written h.0 more h.1)

-- an answer is one of the two
ok_or_err : (r : Result (Token × List ℕ) LocalFault) (x : Token × List ℕ) (k : LocalFault) → r ≡ Ok x → r ≡ Err k → ⊥
ok_or_err r x k e d = cc

-- where nothing is found no lexeme begins
pub no_lexeme : (cs : List ℕ) (x : LocalFault) → lexeme cs ≡ Err x → NoLexeme cs
no_lexeme cs x e t text more is at = ok_or_err (lexeme cs) (t, more) x (ap lexeme at ∙ lexeme_again t text more is) e
