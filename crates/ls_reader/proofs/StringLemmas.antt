-- A string's content is read up to its closing quote, character by character.
use Rattle.std.proofs.Common.{◌≡◌, ℕ, Bool, true, false, cond, eqb, List, [], ◌∷◌, ◌++◌, Result, Ok, Err, refl, sym, ap, subst, ◌∙◌, append_assoc}
use Rattle.std.specs.List.{AllByRecursion}
use Rattle.std.proofs.lemmas.Bool.{eqb-true, eqb-false, cond_both, ne_eqb}
use Rattle.ls_reader.specs.declared.fault.FaultKind.{FaultKind}
use Rattle.ls_reader.specs.declared.fault.FaultKind.TheVariants.{Unclosed}
use Rattle.ls_reader.specs.Strings.{Inner, bare, escaped, inner_text, inner_char, inners_text, inner_chars, IsInner}
use Rattle.ls_reader.specs.steps.Delimited.{with_first, content}

-- ---- what is read is a string, and a string is read

-- the text that a backslash before it leaves to be read
abbrev pending : Bool → List ℕ
pending true = 92 ∷ []
pending false = []

-- the text is characters as they are written, a closing quote, and the rest
pub record Spelled (cs text rest : List ℕ) : Type 0 where
  pub inners : List Inner
  pub in_form : AllByRecursion (IsInner 34) inners
  pub is : cs ≡ inners_text inners ++ 34 ∷ rest
  pub stand : text ≡ inner_chars inners

-- what was read is spelled by the text
abbrev pub Reads : List ℕ → Result (List ℕ × List ℕ) FaultKind → Type 0
Reads cs (Ok x) = Spelled cs x.0 x.1
Reads cs (Err k) = k ≡ Unclosed

-- a character more
spelled_more : (i : Inner) (cs text rest : List ℕ) → IsInner 34 i → Spelled cs text rest → Spelled (inner_text i ++ cs) (inner_char i ∷ text) rest
spelled_more i cs text rest is h = record {
  inners = i ∷ h.inners;
  in_form = (is, h.in_form);
  is = ap (λ (x : List ℕ). inner_text i ++ x) h.is ∙ sym (append_assoc (inner_text i) (inners_text h.inners) (34 ∷ rest));
  stand = ap (λ (x : List ℕ). inner_char i ∷ x) h.stand;
}

-- a character more at the front
reads_cons : (i : Inner) (cs : List ℕ) (r : Result (List ℕ × List ℕ) FaultKind) → IsInner 34 i → Reads cs r → Reads (inner_text i ++ cs) (with_first (inner_char i) r)
reads_cons i cs (Ok x) is h = spelled_more i cs x.0 x.1 is h
reads_cons i cs (Err k) is h = h

-- what is read is spelled by the text
pub content_reads : (e : Bool) (cs : List ℕ) → Reads (pending e ++ cs) (content e cs)
unfolding content
content_reads true [] = refl
content_reads false [] = refl
content_reads true (c ∷ cs) = reads_cons (escaped c) cs (content false cs) tt (content_reads false cs)
content_reads false (c ∷ cs) =
    cond_both (eqb c 34) (Ok ([], cs)) (cond (eqb c 92) (content true cs) (with_first c (content false cs))) (Reads (c ∷ cs))
    (λ e. record { inners = []; in_form = tt; is = ap (λ (x : ℕ). x ∷ cs) (eqb-true c 34 e); stand = refl })
    (λ e. cond_both (eqb c 92) (content true cs) (with_first c (content false cs)) (Reads (c ∷ cs))
    (λ d. subst (λ (x : ℕ). Reads (x ∷ cs) (content true cs)) (sym (eqb-true c 92 d)) (content_reads true cs))
    (λ d. reads_cons (bare c) cs (content false cs) (eqb-false c 34 e, eqb-false c 92 d) (content_reads false cs)))

-- characters as they are written are read
pub content_again : (is : List Inner) (rest : List ℕ) → AllByRecursion (IsInner 34) is → content false (inners_text is ++ 34 ∷ rest) ≡ Ok (inner_chars is, rest)
unfolding content
content_again [] rest h = refl
content_again (bare c ∷ is) rest h = rw (ne_eqb c 34 h.0.0, ne_eqb c 92 h.0.1, content_again is rest h.1) refl
content_again (escaped c ∷ is) rest h = rw (content_again is rest h.1) refl
