-- The characters of a token are read from its text, character by character.
use Rattle.std.proofs.Common.{◌≡◌, ◌≢◌, ◌+◌, ℕ, Bool, true, false, ◌||◌, eqb, List, [], ◌∷◌, ◌++◌, map, length, take, drop, Result, Ok, Err, refl, sym, ap, subst, ◌∙◌, inl, inr, append_assoc, one-add, arith}
use Rattle.std.specs.List.{AllByRecursion, prefix_len}
use Rattle.std.proofs.lemmas.Bool.{eqb-true, eqb-false, ne_eqb, cond_both, or_parts, and_left, and_right, and_cases, false≢true}
use Rattle.ls_reader.specs.declared.fault.FaultKind.{FaultKind}
use Rattle.ls_reader.specs.declared.fault.FaultKind.TheVariants.{Unclosed}
use Rattle.ls_reader.specs.declared.token_char.TokenChar.{TokenChar}
use Rattle.ls_reader.specs.declared.token_char.TokenChar.TheVariants.{Plain, Exact, Escape}
use Rattle.ls_reader.specs.declared.token.Token.{Token}
use Rattle.ls_reader.specs.declared.interpret.Role.{Role}
use Rattle.ls_reader.specs.declared.interpret.Mode.{Mode}
use Rattle.ls_reader.specs.declared.interpret.Mode.TheVariants.{Outside, Single, Bars, BarsSingle}
use Rattle.ls_reader.specs.Characters.{is_constituent, is_sign, goes_on, begins_token, syntax_of}
use Rattle.ls_reader.specs.Strings.{Inner, bare, escaped, inner_text, inners_text, IsInner}
use Rattle.ls_reader.specs.Tokens.{Part, constituent, single, barred, part_text, parts_text, IsPart, exact, part_chars, chars_of, are_plain, plain_text, plain_token, plain_interpretation, escaped_interpretation, interpretation}
use Rattle.ls_reader.specs.steps.Delimited.{with_first}
use Rattle.ls_reader.specs.steps.Lexing.{LocalFault, at_front, after_step, scan, as_token, token_at, token_behind, begins_escape, may_be_number}
use Rattle.ls_reader.specs.Numbers.{is_digit_in}
use Rattle.ls_reader.specs.Names.{symbol_token}
use Rattle.ls_reader.specs.Lexemes.{Ends, CanBegin, IsToken}
use Rattle.ls_reader.proofs.FrontLemmas.{with_front, with_front-nil}

-- the text is parts and the rest, which does not go on with them
pub record Scanned (cs : List ℕ) (chars : List TokenChar) (rest : List ℕ) : Type 0 where
  pub parts : List Part
  pub in_form : AllByRecursion IsPart parts
  pub ends : Ends goes_on rest
  pub is : cs ≡ parts_text parts ++ rest
  pub stand : chars ≡ chars_of parts

-- the text is characters between bars, and more parts
pub record Barred (cs : List ℕ) (chars : List TokenChar) (rest : List ℕ) : Type 0 where
  pub inners : List Inner
  pub in_form : AllByRecursion (IsInner 124) inners
  pub more : List ℕ
  pub after : List TokenChar
  pub scanned : Scanned more after rest
  pub is : cs ≡ inners_text inners ++ 124 ∷ more
  pub stand : chars ≡ map exact inners ++ after

-- what was read, by what came before
abbrev pub Reads : Mode → List ℕ → Result (List TokenChar × List ℕ) FaultKind → Type 0
Reads Outside cs (Ok x) = Scanned cs x.0 x.1
Reads Single cs (Ok x) = Scanned (92 ∷ cs) x.0 x.1
Reads Bars cs (Ok x) = Barred cs x.0 x.1
Reads BarsSingle cs (Ok x) = Barred (92 ∷ cs) x.0 x.1
Reads mode cs (Err k) = k ≡ Unclosed

-- a part more at the front
scanned_part : (p : Part) (cs ds : List ℕ) (chars : List TokenChar) (rest : List ℕ) → IsPart p → ds ≡ part_text p ++ cs → Scanned cs chars rest → Scanned ds (part_chars p ++ chars) rest
scanned_part p cs ds chars rest is e h = record {
  parts = p ∷ h.parts;
  in_form = (is, h.in_form);
  ends = h.ends;
  is = e ∙ ap (λ (x : List ℕ). part_text p ++ x) h.is ∙ sym (append_assoc (part_text p) (parts_text h.parts) rest);
  stand = ap (λ (x : List TokenChar). part_chars p ++ x) h.stand;
}

-- a constituent comes first
reads_constituent : (c : ℕ) (cs : List ℕ) (r : Result (List TokenChar × List ℕ) FaultKind) → is_constituent c ≡ true → Reads Outside cs r → Reads Outside (c ∷ cs) (with_first (Plain c) r)
reads_constituent c cs (Ok x) e h = scanned_part (constituent c) cs (c ∷ cs) x.0 x.1 e refl h
reads_constituent c cs (Err k) e h = h

-- a character behind a backslash comes first
reads_single : (c : ℕ) (cs : List ℕ) (r : Result (List TokenChar × List ℕ) FaultKind) → Reads Outside cs r → Reads Single (c ∷ cs) (with_first (Exact c) r)
reads_single c cs (Ok x) h = scanned_part (single c) cs (92 ∷ c ∷ cs) x.0 x.1 tt refl h
reads_single c cs (Err k) h = h

-- a backslash comes first
reads_backslash : (c : ℕ) (cs : List ℕ) (r : Result (List TokenChar × List ℕ) FaultKind) → c ≡ 92 → Reads Single cs r → Reads Outside (c ∷ cs) r
reads_backslash c cs (Ok x) e h = subst (λ (k : ℕ). Scanned (k ∷ cs) x.0 x.1) (sym e) h
reads_backslash c cs (Err k) e h = h

-- the bars and what is between them are a part
barred_part : (c : ℕ) (cs : List ℕ) (chars : List TokenChar) (rest : List ℕ) → c ≡ 124 → Barred cs chars rest → Scanned (c ∷ cs) (Escape ∷ chars) rest
barred_part c cs chars rest e h =
    subst (λ (x : List TokenChar). Scanned (c ∷ cs) (Escape ∷ x) rest) (sym h.stand)
    (scanned_part (barred h.inners) h.more (c ∷ cs) h.after rest h.in_form
    (ap (λ (k : ℕ). k ∷ cs) e ∙ ap (λ (x : List ℕ). 124 ∷ x) (h.is ∙ sym (append_assoc (inners_text h.inners) (124 ∷ []) h.more))) h.scanned)

-- a bar comes first
reads_bar : (c : ℕ) (cs : List ℕ) (r : Result (List TokenChar × List ℕ) FaultKind) → c ≡ 124 → Reads Bars cs r → Reads Outside (c ∷ cs) (with_first Escape r)
reads_bar c cs (Ok x) e h = barred_part c cs x.0 x.1 e h
reads_bar c cs (Err k) e h = h

-- the bar that ends an escape comes first
reads_close : (c : ℕ) (cs : List ℕ) (r : Result (List TokenChar × List ℕ) FaultKind) → c ≡ 124 → Reads Outside cs r → Reads Bars (c ∷ cs) r
reads_close c cs (Ok x) e h = record { inners = []; in_form = tt; more = cs; after = x.0; scanned = h; is = ap (λ (k : ℕ). k ∷ cs) e; stand = refl }
reads_close c cs (Err k) e h = h

-- a character more between bars
barred_more : (i : Inner) (cs ds : List ℕ) (chars : List TokenChar) (rest : List ℕ) → IsInner 124 i → ds ≡ inner_text i ++ cs → Barred cs chars rest → Barred ds (exact i ∷ chars) rest
barred_more i cs ds chars rest is e h = record {
  inners = i ∷ h.inners;
  in_form = (is, h.in_form);
  more = h.more;
  after = h.after;
  scanned = h.scanned;
  is = e ∙ ap (λ (x : List ℕ). inner_text i ++ x) h.is ∙ sym (append_assoc (inner_text i) (inners_text h.inners) (124 ∷ h.more));
  stand = ap (λ (x : List TokenChar). exact i ∷ x) h.stand;
}

-- a character between bars comes first
reads_bare : (c : ℕ) (cs : List ℕ) (r : Result (List TokenChar × List ℕ) FaultKind) → c ≢ 124 → c ≢ 92 → Reads Bars cs r → Reads Bars (c ∷ cs) (with_first (Exact c) r)
reads_bare c cs (Ok x) e f h = barred_more (bare c) cs (c ∷ cs) x.0 x.1 (e, f) refl h
reads_bare c cs (Err k) e f h = h

-- a character behind a backslash between bars comes first
reads_escaped : (c : ℕ) (cs : List ℕ) (r : Result (List TokenChar × List ℕ) FaultKind) → Reads Bars cs r → Reads BarsSingle (c ∷ cs) (with_first (Exact c) r)
reads_escaped c cs (Ok x) h = barred_more (escaped c) cs (92 ∷ c ∷ cs) x.0 x.1 tt refl h
reads_escaped c cs (Err k) h = h

-- a backslash between bars comes first
reads_bar_backslash : (c : ℕ) (cs : List ℕ) (r : Result (List TokenChar × List ℕ) FaultKind) → c ≡ 92 → Reads BarsSingle cs r → Reads Bars (c ∷ cs) r
reads_bar_backslash c cs (Ok x) e h = subst (λ (k : ℕ). Barred (k ∷ cs) x.0 x.1) (sym e) h
reads_bar_backslash c cs (Err k) e h = h

-- what is read is parts in form
pub scan_sound : (mode : Mode) (cs : List ℕ) → Reads mode cs (scan mode cs)
unfolding scan
scan_sound Outside [] = record { parts = []; in_form = tt; ends = tt; is = refl; stand = refl }
scan_sound Single [] = refl
scan_sound Bars [] = refl
scan_sound BarsSingle [] = refl
scan_sound Single (c ∷ cs) = reads_single c cs (scan Outside cs) (scan_sound Outside cs)
scan_sound BarsSingle (c ∷ cs) = reads_escaped c cs (scan Bars cs) (scan_sound Bars cs)
scan_sound Outside (c ∷ cs) =
    cond_both (is_constituent c) _ _ (λ s. Reads Outside (c ∷ cs) (after_step s (c ∷ cs) (λ next. scan next cs))) (λ e. reads_constituent c cs (scan Outside cs) e (scan_sound Outside cs)) (λ e.
    cond_both (eqb c 92) _ _ (λ s. Reads Outside (c ∷ cs) (after_step s (c ∷ cs) (λ next. scan next cs))) (λ f. reads_backslash c cs (scan Single cs) (eqb-true c 92 f) (scan_sound Single cs)) (λ f.
    cond_both (eqb c 124) _ _ (λ s. Reads Outside (c ∷ cs) (after_step s (c ∷ cs) (λ next. scan next cs))) (λ g. reads_bar c cs (scan Bars cs) (eqb-true c 124 g) (scan_sound Bars cs))
    (λ g. record { parts = []; in_form = tt; ends = rw (e, f, g) refl; is = refl; stand = refl })))
scan_sound Bars (c ∷ cs) =
    cond_both (eqb c 124) _ _ (λ s. Reads Bars (c ∷ cs) (after_step s (c ∷ cs) (λ next. scan next cs))) (λ e. reads_close c cs (scan Outside cs) (eqb-true c 124 e) (scan_sound Outside cs)) (λ e.
    cond_both (eqb c 92) _ _ (λ s. Reads Bars (c ∷ cs) (after_step s (c ∷ cs) (λ next. scan next cs))) (λ f. reads_bar_backslash c cs (scan BarsSingle cs) (eqb-true c 92 f) (scan_sound BarsSingle cs))
    (λ f. reads_bare c cs (scan Bars cs) (eqb-false c 124 e) (eqb-false c 92 f) (scan_sound Bars cs)))

-- ---- a token is read

-- a character before what was read before
front_cons : (s : TokenChar) (front : List TokenChar) (r : Result (List TokenChar × List ℕ) FaultKind) → with_first s (with_front front r) ≡ with_front (s ∷ front) r
front_cons s front (Ok x) = refl
front_cons s front (Err k) = refl

-- what stands between bars is read
bars_again : (is : List Inner) (more : List ℕ) → AllByRecursion (IsInner 124) is → scan Bars (inners_text is ++ 124 ∷ more) ≡ with_front (map exact is) (scan Outside more)
unfolding scan
bars_again [] more h = sym (with_front-nil (scan Outside more))
bars_again (bare c ∷ is) more h = rw (ne_eqb c 124 h.0.0, ne_eqb c 92 h.0.1, bars_again is more h.1) (front_cons (Exact c) (map exact is) (scan Outside more))
bars_again (escaped c ∷ is) more h = rw (bars_again is more h.1) (front_cons (Exact c) (map exact is) (scan Outside more))

-- the text of bars and what follows them, from left to right
barred_text : (is : List Inner) (ps : List Part) (rest : List ℕ) → parts_text (barred is ∷ ps) ++ rest ≡ 124 ∷ (inners_text is ++ 124 ∷ (parts_text ps ++ rest))
barred_text is ps rest =
    append_assoc (part_text (barred is)) (parts_text ps) rest ∙ ap (λ (x : List ℕ). 124 ∷ x) (append_assoc (inners_text is) (124 ∷ []) (parts_text ps ++ rest))

-- nothing is read where a token does not go on
end_again : (rest : List ℕ) → Ends goes_on rest → scan Outside rest ≡ Ok ([], rest)
unfolding scan
end_again [] e = refl
end_again (c ∷ cs) e =
    let h = or_parts (is_constituent c) _ e in
    let k = or_parts (eqb c 92) (eqb c 124) h.1 in rw (h.0, k.0, k.1) refl

-- parts in form are read
pub scan_again : (ps : List Part) (rest : List ℕ) → AllByRecursion IsPart ps → Ends goes_on rest → scan Outside (parts_text ps ++ rest) ≡ Ok (chars_of ps, rest)
unfolding scan syntax_of
scan_again [] rest h e = end_again rest e
scan_again (constituent c ∷ ps) rest h e = rw (h.0, scan_again ps rest h.1 e) refl
scan_again (single c ∷ ps) rest h e = ap (with_first (Exact c)) (scan_again ps rest h.1 e)
scan_again (barred is ∷ ps) rest h e =
    ap (scan Outside) (barred_text is ps rest) ∙ ap (with_first Escape) (bars_again is (parts_text ps ++ rest) h.0 ∙ ap (with_front (map exact is)) (scan_again ps rest h.1 e))

-- ---- the token at the front of a text, or directly behind a construct's character

-- `#` does not come first
abbrev pub IsFree : List ℕ → Type 0
IsFree [] = Unit {0}
IsFree (c ∷ cs) = c ≢ 35

-- what was read as a token
abbrev pub TokenReads : Role → List ℕ → Result (Token × List ℕ) LocalFault → Type 0
TokenReads role cs (Ok x) = (ps : List Part) × IsToken ps x.1 × (cs ≡ parts_text ps ++ x.1) × (x.0 ≡ interpretation role (chars_of ps))
TokenReads role cs (Err x) = (x.0 ≡ Unclosed) × (x.1 ≡ 0)

-- no token stands where none goes on
no_token : (rest : List ℕ) → Ends goes_on rest → begins_token rest ≡ false
no_token [] e = refl
no_token (c ∷ cs) e = and_left (goes_on c) _ e

-- the first part of a token is not `#`
can_begin : (p : Part) (ps : List Part) (cs rest : List ℕ) → cs ≡ parts_text (p ∷ ps) ++ rest → IsFree cs → CanBegin p
can_begin (constituent d) ps [] rest e f = λ g. absurd (false≢true (cc))
can_begin (constituent d) ps (c ∷ cs) rest e f = λ g. f (let h : c ≡ d = cc in h ∙ g)
can_begin (single d) ps cs rest e f = tt
can_begin (barred is) ps cs rest e f = tt

-- parts in form, as many as there are, are a token or none
token_of_parts : (ps : List Part) (cs rest : List ℕ) → AllByRecursion IsPart ps → Ends goes_on rest → cs ≡ parts_text ps ++ rest → IsFree cs → IsToken ps rest
token_of_parts [] cs rest h e is f = no_token rest e
token_of_parts (p ∷ ps) cs rest h e is f = (can_begin p ps cs rest is f, h, e)

-- what was read is a token or none
token_reads : (role : Role) (cs : List ℕ) (r : Result (List TokenChar × List ℕ) FaultKind) → IsFree cs → Reads Outside cs r → TokenReads role cs (as_token role r)
token_reads role cs (Ok x) f h = (h.parts, token_of_parts h.parts cs x.1 h.in_form h.ends h.is f, h.is, ap (interpretation role) h.stand)
token_reads role cs (Err k) f h = (h, refl)

-- what is read as a token is one
pub token_sound : (role : Role) (cs : List ℕ) → IsFree cs → TokenReads role cs (token_at role cs)
token_sound role cs f = token_reads role cs (scan Outside cs) f (scan_sound Outside cs)

-- what is read directly behind a character is a token, or none
pub behind_sound : (role : Role) (cs : List ℕ) → TokenReads role cs (token_behind role cs)
behind_sound role [] = token_sound role [] tt
behind_sound role (c ∷ cs) =
    cond_both (eqb c 35) _ _ (TokenReads role (c ∷ cs)) (λ e. ([], rw e (and_right (goes_on c) false refl), refl, refl)) (λ e. token_sound role (c ∷ cs) (eqb-false c 35 e))

-- a token is read
pub token_again : (role : Role) (p : Part) (ps : List Part) (rest : List ℕ) → IsToken (p ∷ ps) rest → token_at role (parts_text (p ∷ ps) ++ rest) ≡ Ok (interpretation role (chars_of (p ∷ ps)), rest)
token_again role p ps rest h = rw (scan_again (p ∷ ps) rest h.1 h.2) refl

-- where no token stands none is read
none_again : (role : Role) (rest : List ℕ) → begins_token rest ≡ false → token_behind role rest ≡ Ok (interpretation role [], rest)
none_again role [] e = rw (end_again [] tt) refl
none_again role (c ∷ cs) e =
    cond_both (eqb c 35) _ _ (λ (r : Result (Token × List ℕ) LocalFault). r ≡ Ok (interpretation role [], c ∷ cs)) (λ f. refl)
    (λ f. let h : goes_on c ≡ false = elim (and_cases (goes_on c) _ e) [ inl g ↦ g | inr g ↦ absurd (false≢true (sym g ∙ rw f refl)) ] in rw (end_again (c ∷ cs) h) refl)

-- a token directly behind a character is read, or none
pub behind_again : (role : Role) (ps : List Part) (rest : List ℕ) → IsToken ps rest → token_behind role (parts_text ps ++ rest) ≡ Ok (interpretation role (chars_of ps), rest)
behind_again role [] rest h = none_again role rest h
behind_again role (constituent c ∷ ps) rest h = rw (ne_eqb c 35 h.0) (token_again role (constituent c) ps rest h)
behind_again role (single c ∷ ps) rest h = token_again role (single c) ps rest h
behind_again role (barred is ∷ ps) rest h = token_again role (barred is) ps rest h

-- ---- tokens without escapes, which the code reads by a shorter way

-- plain characters have no escapes
plain_all : (text : List ℕ) → are_plain (map Plain text) ≡ true
plain_all [] = refl
plain_all (c ∷ cs) = plain_all cs

-- the text of plain characters
plain_text-map : (text : List ℕ) → plain_text (map Plain text) ≡ text
plain_text-map [] = refl
plain_text-map (c ∷ cs) = ap (λ (x : List ℕ). c ∷ x) (plain_text-map cs)

-- what plain characters are
plain_interpretation_is : (role : Role) (text : List ℕ) → interpretation role (map Plain text) ≡ plain_interpretation role text
unfolding interpretation
plain_interpretation_is role text = rw (plain_all text, plain_text-map text) refl

-- where no token stands
pub nothing_read : (role : Role) → interpretation role [] ≡ plain_interpretation role []
unfolding interpretation
nothing_read role = refl

-- the characters of a run of constituents that no escape follows
plain_scan : (cs : List ℕ) → begins_escape (drop (prefix_len is_constituent cs) cs) ≡ false → scan Outside cs ≡ Ok (map Plain (take (prefix_len is_constituent cs) cs), drop (prefix_len is_constituent cs) cs)
unfolding scan
plain_scan [] = λ h. refl
plain_scan (c ∷ cs) =
    cond_both (is_constituent c) (1 + prefix_len is_constituent cs) 0 (λ n. begins_escape (drop n (c ∷ cs)) ≡ false → scan Outside (c ∷ cs) ≡ Ok (map Plain (take n (c ∷ cs)), drop n (c ∷ cs)))
    (λ e. rw one-add (λ h. rw (e, plain_scan cs h) refl))
    (λ e h. let k = or_parts (eqb c 92) (eqb c 124) h in rw (e, k.0, k.1) refl)

-- a run of constituents that no escape follows is a token
pub plain_at : (role : Role) (cs : List ℕ) → begins_escape (drop (prefix_len is_constituent cs) cs) ≡ false
    → token_at role cs ≡ Ok (plain_interpretation role (take (prefix_len is_constituent cs) cs), drop (prefix_len is_constituent cs) cs)
plain_at role cs h = rw (plain_scan cs h) (ap (λ (t : Token). Ok (t, drop (prefix_len is_constituent cs) cs)) (plain_interpretation_is role (take (prefix_len is_constituent cs) cs)))

-- the token has an escape
abbrev HasEscape : Result (List TokenChar × List ℕ) FaultKind → Type 0
HasEscape (Ok x) = are_plain x.0 ≡ false
HasEscape (Err k) = Unit {0}

-- an escape behind a plain character
escape_plain : (c : ℕ) (r : Result (List TokenChar × List ℕ) FaultKind) → HasEscape r → HasEscape (with_first (Plain c) r)
escape_plain c (Ok x) h = h
escape_plain c (Err k) h = tt

-- an escaped character comes first
escape_exact : (c : ℕ) (r : Result (List TokenChar × List ℕ) FaultKind) → HasEscape (with_first (Exact c) r)
escape_exact c (Ok x) = refl
escape_exact c (Err k) = tt

-- a bar comes first
escape_bars : (r : Result (List TokenChar × List ℕ) FaultKind) → HasEscape (with_first Escape r)
escape_bars (Ok x) = refl
escape_bars (Err k) = tt

-- an escaped character comes next
escape_single : (cs : List ℕ) → HasEscape (scan Single cs)
unfolding scan
escape_single [] = tt
escape_single (c ∷ cs) = escape_exact c (scan Outside cs)

-- an escape behind a run of constituents
escaped_scan : (cs : List ℕ) → begins_escape (drop (prefix_len is_constituent cs) cs) ≡ true → HasEscape (scan Outside cs)
unfolding scan
escaped_scan [] = λ h. absurd (false≢true h)
escaped_scan (c ∷ cs) =
    cond_both (is_constituent c) (1 + prefix_len is_constituent cs) 0 (λ n. begins_escape (drop n (c ∷ cs)) ≡ true → HasEscape (scan Outside (c ∷ cs)))
    (λ e. rw one-add (λ h. rw e (escape_plain c (scan Outside cs) (escaped_scan cs h))))
    (λ e h. rw e (
    cond_both (eqb c 92) _ _ (λ s. HasEscape (after_step s (c ∷ cs) (λ next. scan next cs))) (λ f. escape_single cs) (λ f.
    cond_both (eqb c 124) _ _ (λ s. HasEscape (after_step s (c ∷ cs) (λ next. scan next cs))) (λ g. escape_bars (scan Bars cs))
    (λ g. absurd (false≢true (rw (f, g) at h))))))

-- what characters with an escape are
escaped_interpretation_is : (role : Role) (chars : List TokenChar) → are_plain chars ≡ false → interpretation role chars ≡ escaped_interpretation role chars
unfolding interpretation
escaped_interpretation_is role chars h = rw h refl

-- the token of characters with an escape
escaped_by : (role : Role) (r : Result (List TokenChar × List ℕ) FaultKind) (x : List TokenChar × List ℕ) → HasEscape r → at_front r ≡ Ok x → as_token role r ≡ Ok (escaped_interpretation role x.0, x.1)
escaped_by role (Ok y) x h e = let same : y ≡ x = cc in ap (λ (t : Token). Ok (t, y.1)) (escaped_interpretation_is role y.0 h) ∙ ap (λ (z : List TokenChar × List ℕ). Ok (escaped_interpretation role z.0, z.1)) same
escaped_by role (Err k) x h e = cc

-- a run of constituents that an escape follows begins a token with escapes
pub escaped_at : (role : Role) (cs : List ℕ) (x : List TokenChar × List ℕ) → begins_escape (drop (prefix_len is_constituent cs) cs) ≡ true → at_front (scan Outside cs) ≡ Ok x → token_at role cs ≡ Ok (escaped_interpretation role x.0, x.1)
escaped_at role cs x h e = escaped_by role (scan Outside cs) x (escaped_scan cs h) e

-- the fault of characters
unended_by : (role : Role) (r : Result (List TokenChar × List ℕ) FaultKind) (x : LocalFault) → at_front r ≡ Err x → as_token role r ≡ Err x
unended_by role (Ok y) x e = cc
unended_by role (Err k) x e = cc

-- an escape that is not ended
pub unended_at : (role : Role) (cs : List ℕ) (x : LocalFault) → at_front (scan Outside cs) ≡ Err x → token_at role cs ≡ Err x
unended_at role cs x e = unended_by role (scan Outside cs) x e

-- ---- tokens that begin as no number does

-- where one of two does not hold, neither does
neither : (a b : Bool) → a || b ≡ false → (a ≡ false) × (b ≡ false)
neither false b e = (refl, e)
neither true b e = absurd (false≢true (sym e))

-- a token that begins as neither a number nor a dot does is a symbol
pub plain_token_symbol : (text : List ℕ) → may_be_number text ≡ false → plain_token text ≡ symbol_token (map Plain text)
plain_token_symbol [] e = absurd (false≢true (sym e))
plain_token_symbol (c ∷ cs) e =
    let digit = neither (is_digit_in 10 c) (is_sign c || eqb c 46) e in
    let sign = neither (is_sign c) (eqb c 46) digit.1 in
    let some : eqb 0 (length (c ∷ cs)) ≡ false = ne_eqb 0 (length (c ∷ cs)) (λ h. omega (arith, h)) in
    rw (sign.0, digit.0, sign.1, some) refl
