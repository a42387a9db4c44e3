-- The report on the queries so far, with the line of one more query.
use Rattle.std.proofs.Common.{ℕ, ◌+◌, ◌<◌, ◌≡◌, ◌∙◌, sym, ap, List, [], ◌∷◌, ◌++◌, append_assoc, append-nil, take, length, get_or, Bool, ◌||◌}
use Rattle.std.specs.List.{AllZip, list_any}
use Rattle.std.proofs.lemmas.List.{take_more}
use Rattle.std.proofs.lemmas.List.Folds.{list_any-append}
use mathlib.Core.Bool.{or-false}
use Rattle.ls_env.specs.declared.query.Query.{Query}
use Rattle.ls_env.specs.Environments.{Environment}
use Rattle.subtypep_app.specs.Report.{AreReported, IsLineOf, line_text, lines_text, is_finding}
use Rattle.subtypep_app.specs.steps.Reporting.{LineAppended}

-- one more pair of items that are alike
pub AllZip-push : {A B : Type 0} (R : A → B → Type 0) (xs : List A) (ys : List B) (x : A) (y : B) → AllZip R xs ys → R x y → AllZip R (xs ++ x ∷ []) (ys ++ y ∷ [])
AllZip-push R [] [] x y p h = (h, tt)
AllZip-push R [] (b ∷ ys) x y p h = absurd p
AllZip-push R (a ∷ xs) [] x y p h = absurd p
AllZip-push R (a ∷ xs) (b ∷ ys) x y p h = (p.0, AllZip-push R xs ys x y p.1 h)

module _ {X L : Type 0} (R : X → L → Type 0) (text_of : X → L → List ℕ) (is_finding : L → Bool) where
  lines_text-push : (xs : List X) (lines : List L) (x : X) (line : L) → AllZip R xs lines
      → lines_text text_of (xs ++ x ∷ []) (lines ++ line ∷ []) ≡ lines_text text_of xs lines ++ text_of x line
  lines_text-push [] [] x line p = append-nil (text_of x line)
  lines_text-push [] (l ∷ lines) x line p = absurd p
  lines_text-push (d ∷ xs) [] x line p = absurd p
  lines_text-push (d ∷ xs) (l ∷ lines) x line p =
      ap (λ t. text_of d l ++ t) (lines_text-push xs lines x line p.1) ∙ sym (append_assoc (text_of d l) (lines_text text_of xs lines) (text_of x line))

  one_more : (xs : List X) (x : X) (line : L) (found : Bool) (old new : List ℕ) → AreReported R text_of is_finding xs found old
      → R x line → new ≡ old ++ text_of x line → AreReported R text_of is_finding (xs ++ x ∷ []) (found || is_finding line) new
  one_more xs x line found old new r right text = record {
    lines = r.lines ++ line ∷ [];
    right = AllZip-push R xs r.lines x line r.right right;
    text = text ∙ ap (λ t. t ++ text_of x line) r.text ∙ sym (lines_text-push xs r.lines x line r.right);
    found_is = ap (λ b. b || is_finding line) r.found_is
        ∙ sym (list_any-append is_finding r.lines (line ∷ []) ∙ ap (λ b. list_any is_finding r.lines || b) (or-false (is_finding line)));
  }

  -- a report on the items before a place goes on with a right line for the item there
  pub AreReported-more : (xs : List X) (i : ℕ) (x : X) (line : L) (found now : Bool) (old new : List ℕ) → i < length xs
      → AreReported R text_of is_finding (take i xs) found old → R (get_or xs i x) line → new ≡ old ++ text_of (get_or xs i x) line
      → now ≡ (found || is_finding line) → AreReported R text_of is_finding (take (i + 1) xs) now new
  AreReported-more xs i x line found now old new within r right text is =
      rw (is, take_more xs i x within) (one_more (take i xs) (get_or xs i x) line found old new r right text)

-- a report on the queries before a place goes on with what is appended for the query there
pub AreReported-appended : (budget : ℕ) (env : Environment) (qs : List Query) (i : ℕ) (q : Query) (found finding now : Bool) (old new : List ℕ) → i < length qs
    → AreReported (IsLineOf budget env) line_text is_finding (take i qs) found old → LineAppended budget env (get_or qs i q) old new finding → now ≡ (found || finding)
    → AreReported (IsLineOf budget env) line_text is_finding (take (i + 1) qs) now new
AreReported-appended budget env qs i q found finding now old new within r appended is =
    AreReported-more (IsLineOf budget env) line_text is_finding qs i q appended.line found now old new within r appended.right appended.text
    (is ∙ ap (λ b. found || b) appended.found_is)
