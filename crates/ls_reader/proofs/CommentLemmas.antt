-- The function `comment` finds the end of a comment exactly where it ends, and the innermost comment that is not ended.
use Rattle.std.proofs.Common.{◌≡◌, ℕ, zero, suc, ◌+◌, ◌-◌, ◌⊎◌, inl, inr, true, false, eqb, List, [], ◌∷◌, ◌++◌, length, take, drop, get_or, Option, Some, None, Result, Ok, Err, refl, sym, ap, subst, ◌∙◌, append_assoc, arith, length-append, ◌≤◌}
use Rattle.std.proofs.lemmas.Bool.{eqb-true, eq-eqb, cond_both, false_from_ne_true, false≢true, and_parts}
use Rattle.std.proofs.lemmas.List.{append-nil, take_at, take_all}
use Rattle.std.proofs.lemmas.List.Concat.{flat_map-append}
use Rattle.ls_reader.specs.declared.fault.FaultKind.{FaultKind}
use Rattle.ls_reader.specs.declared.fault.FaultKind.TheVariants.{Unclosed}
use Rattle.ls_reader.specs.Comments.{CommentPart, opens, closes, other, part_text, comment_text, ComesFirst, IsApart, ArePicked, IsBalanced, StayWithin, AreUnended, IsUnended}
use Rattle.ls_reader.specs.steps.Delimited.{is_pair, passed, closed, comment}

-- ---- for the code's loop

-- a comment within another ends
pub comment_closes : (i j : ℕ) (w : List ℕ) (at : ℕ) (last : Option ℕ) (c : ℕ) (cs : List ℕ) → is_pair 124 35 last c ≡ true → comment i (j ∷ w) at last (c ∷ cs) ≡ comment j w (at + 2) None cs
unfolding comment
comment_closes i j w at last c cs e = rw e refl

-- a comment begins within another
pub comment_opens : (i : ℕ) (w : List ℕ) (at : ℕ) (last : Option ℕ) (c : ℕ) (cs : List ℕ) → is_pair 124 35 last c ≡ false → is_pair 35 124 last c ≡ true → comment i w at last (c ∷ cs) ≡ comment at (i ∷ w) (at + 2) None cs
unfolding comment
comment_opens i w at last c cs e f = rw (e, f) refl

-- the list behind the first character
rest_is : (d : ℕ) (ds : List ℕ) → take (length (d ∷ ds) - 1) ds ≡ ds
rest_is d ds = take_all (length (d ∷ ds) - 1) ds (omega arith)

-- the state behind the end of a comment within another
pub closes_on : (i j : ℕ) (around w : List ℕ) (at : ℕ) (last : Option ℕ) (c : ℕ) (rest : List ℕ) (r : Result (List ℕ) (FaultKind × ℕ)) → 1 ≤ length rest → c ≡ get_or rest 0 c
    → around ≡ j ∷ w → is_pair 124 35 last c ≡ true → comment i around at last rest ≡ r → comment j w (at + 2) None (take (length rest - 1) (drop 1 rest)) ≡ r
closes_on i j around w at last c [] r some is e f h = absurd (omega (arith, some))
closes_on i j around w at last c (d ∷ ds) r some is e f h =
    ap (comment j w (at + 2) None) (rest_is d ds) ∙ sym (comment_closes i j w at last d ds (ap (is_pair 124 35 last) (sym is) ∙ f)) ∙ ap (λ (v : List ℕ). comment i v at last (d ∷ ds)) (sym e) ∙ h

-- the state behind the beginning of a comment within another
pub opens_on : (i : ℕ) (around w : List ℕ) (at : ℕ) (last : Option ℕ) (c : ℕ) (rest : List ℕ) (r : Result (List ℕ) (FaultKind × ℕ)) → 1 ≤ length rest → c ≡ get_or rest 0 c
    → w ≡ i ∷ around → is_pair 124 35 last c ≡ false → is_pair 35 124 last c ≡ true → comment i around at last rest ≡ r → comment at w (at + 2) None (take (length rest - 1) (drop 1 rest)) ≡ r
opens_on i around w at last c [] r some is e f g h = absurd (omega (arith, some))
opens_on i around w at last c (d ∷ ds) r some is e f g h =
    ap (comment at w (at + 2) None) (rest_is d ds) ∙ ap (λ (v : List ℕ). comment at v (at + 2) None ds) e
    ∙ sym (comment_opens i around at last d ds (ap (is_pair 124 35 last) (sym is) ∙ f) (ap (is_pair 35 124 last) (sym is) ∙ g)) ∙ h

-- how many characters before are of no part yet
abbrev pub pending : Option ℕ → ℕ
pending None = 0
pending (Some p) = 1

-- the place of the next part is behind them
pub passed_is : (at : ℕ) (last : Option ℕ) → passed at last ≡ at + pending last
passed_is at None = omega arith
passed_is at (Some p) = refl

-- the place behind a pair is within the text
pub pair_within : (j k at n : ℕ) (last : Option ℕ) (c : ℕ) (rest : List ℕ) → is_pair j k last c ≡ true → 1 ≤ length rest → at + pending last + length rest ≤ n → at + 2 + length (take (length rest - 1) (drop 1 rest)) ≤ n
pair_within j k at n None c rest e some h = absurd (false≢true e)
pair_within j k at n (Some p) c [] e some h = absurd (omega (arith, some))
pair_within j k at n (Some p) c (d ∷ ds) e some h = rw (rest_is d ds) (omega (arith, h))

-- ---- the relation

-- the character before, as text
abbrev pub last_text : Option ℕ → List ℕ
last_text None = []
last_text (Some p) = p ∷ []

-- the text is parts that end n comments and the one around them, and the rest
pub record Closes (n : ℕ) (cs rest : List ℕ) : Type 0 where
  pub parts : List CommentPart
  pub balanced : IsBalanced n parts
  pub picked : ArePicked (parts ++ closes ∷ [])
  pub is : cs ≡ comment_text (parts ++ closes ∷ []) ++ rest

-- where the innermost comment begins behind parts that begin at a place, in comments that begin at these places
abbrev pub StartsAt : ℕ → List ℕ → ℕ → List CommentPart → ℕ → Type 0
StartsAt i w at [] o = o ≡ i
StartsAt i w at (opens ∷ ms) o = StartsAt at (i ∷ w) (at + 2) ms o
StartsAt i [] at (closes ∷ ms) o = ⊥
StartsAt i (j ∷ w) at (closes ∷ ms) o = StartsAt j w (at + 2) ms o
StartsAt i w at (other c ∷ ms) o = StartsAt i w (at + 1) ms o

-- the text is parts that do not end the outermost comment
pub record Stays (i : ℕ) (w : List ℕ) (at : ℕ) (cs : List ℕ) (k : FaultKind) (o : ℕ) : Type 0 where
  pub parts : List CommentPart
  pub kind : k ≡ Unclosed
  pub picked : ArePicked parts
  pub is : cs ≡ comment_text parts
  pub starts : StartsAt i w at parts o

-- what was found is so
abbrev pub Reads : ℕ → List ℕ → ℕ → List ℕ → Result (List ℕ) (FaultKind × ℕ) → Type 0
Reads i w at cs (Ok rest) = Closes (length w) cs rest
Reads i w at cs (Err x) = Stays i w at cs x.0 x.1

-- ---- what is found is so

-- a pair is its two characters
both_true : (p c j k : ℕ) → is_pair j k (Some p) c ≡ true → (p ≡ j) × (c ≡ k)
both_true p c j k e = let h = and_parts (eqb p j) (eqb c k) e in (eqb-true p j h.0, eqb-true c k h.1)

-- the text of a pair
pair_text : (last : Option ℕ) (c j k : ℕ) (cs : List ℕ) → is_pair j k last c ≡ true → last_text last ++ c ∷ cs ≡ j ∷ k ∷ cs
pair_text None c j k cs e = absurd (false≢true e)
pair_text (Some p) c j k cs e = let h = both_true p c j k e in ap (λ (x : ℕ). x ∷ c ∷ cs) h.0 ∙ ap (λ (x : ℕ). j ∷ x ∷ cs) h.1

-- the character that comes first in a text
first_is : (c k : ℕ) (cs xs rest : List ℕ) → c ∷ cs ≡ xs ++ rest → ComesFirst k xs → c ≡ k
first_is c k cs [] rest e h = absurd h
first_is c k cs (x ∷ xs) rest e h = cc

-- two characters that are tested to be no pair are none
no_pair : (p c j k : ℕ) → is_pair j k (Some p) c ≡ false → p ≡ j → c ≡ k → ⊥
no_pair p c j k f a b = false≢true (sym f ∙ rw (eq-eqb p j a, eq-eqb c k b) refl)

-- a part more at the front
reads_part : (m : CommentPart) (i j : ℕ) (w v : List ℕ) (at to : ℕ) (cs ds : List ℕ) (r : Result (List ℕ) (FaultKind × ℕ)) → ds ≡ part_text m ++ cs
    → ((ms : List CommentPart) → IsBalanced (length w) ms → IsBalanced (length v) (m ∷ ms)) → ((ms : List CommentPart) → ArePicked ms → ArePicked (m ∷ ms))
    → ((ms : List CommentPart) (o : ℕ) → StartsAt i w to ms o → StartsAt j v at (m ∷ ms) o) → Reads i w to cs r → Reads j v at ds r
reads_part m i j w v at to cs ds (Ok rest) e f g s h = record {
  parts = m ∷ h.parts;
  balanced = f h.parts h.balanced;
  picked = g (h.parts ++ closes ∷ []) h.picked;
  is = e ∙ ap (λ (x : List ℕ). part_text m ++ x) h.is ∙ sym (append_assoc (part_text m) (comment_text (h.parts ++ closes ∷ [])) rest);
}
reads_part m i j w v at to cs ds (Err x) e f g s h = record {
  parts = m ∷ h.parts;
  kind = h.kind;
  picked = g h.parts h.picked;
  is = e ∙ ap (λ (y : List ℕ). part_text m ++ y) h.is;
  starts = s h.parts x.1 h.starts;
}

-- a character that is none of a pair
reads_other : (i : ℕ) (w : List ℕ) (at : ℕ) (last : Option ℕ) (c : ℕ) (cs : List ℕ) (r : Result (List ℕ) (FaultKind × ℕ)) → is_pair 124 35 last c ≡ false → is_pair 35 124 last c ≡ false
    → Reads i w (passed at last) (c ∷ cs) r → Reads i w at (last_text last ++ c ∷ cs) r
reads_other i w at None c cs r e f h = h
reads_other i w at (Some p) c cs (Ok rest) e f h =
    let text = comment_text (h.parts ++ closes ∷ []) in
    record {
      parts = other p ∷ h.parts;
      balanced = h.balanced;
      picked = ((λ a b. no_pair p c 124 35 e a (first_is c 35 cs text rest h.is b), λ a b. no_pair p c 35 124 f a (first_is c 124 cs text rest h.is b)), h.picked);
      is = ap (λ (x : List ℕ). p ∷ x) h.is;
    }
reads_other i w at (Some p) c cs (Err x) e f h =
    let text = comment_text h.parts in
    let is : c ∷ cs ≡ text ++ [] = h.is ∙ sym (append-nil text) in
    record {
      parts = other p ∷ h.parts;
      kind = h.kind;
      picked = ((λ a b. no_pair p c 124 35 e a (first_is c 35 cs text [] is b), λ a b. no_pair p c 35 124 f a (first_is c 124 cs text [] is b)), h.picked);
      is = ap (λ (y : List ℕ). p ∷ y) h.is;
      starts = h.starts;
    }

-- at the end of the text
reads_end : (i : ℕ) (w : List ℕ) (at : ℕ) (last : Option ℕ) → Reads i w at (last_text last ++ []) (Err (Unclosed, i))
reads_end i w at None = record { parts = []; kind = refl; picked = tt; is = refl; starts = refl }
reads_end i w at (Some p) = record { parts = other p ∷ []; kind = refl; picked = ((λ a b. b, λ a b. b), tt); is = refl; starts = refl }

-- where the innermost comment ends
reads_close : (i : ℕ) (w : List ℕ) (at : ℕ) (cs ds : List ℕ) (next : ℕ → List ℕ → Result (List ℕ) (FaultKind × ℕ)) → ds ≡ 124 ∷ 35 ∷ cs
    → ((j : ℕ) (v : List ℕ) → Reads j v (at + 2) cs (next j v)) → Reads i w at ds (closed w (Ok cs) next)
reads_close i [] at cs ds next e f = record { parts = []; balanced = refl; picked = tt; is = e }
reads_close i (j ∷ w) at cs ds next e f = reads_part closes j i w (j ∷ w) at (at + 2) cs ds (next j w) e (λ ms h. h) (λ ms h. h) (λ ms o h. h) (f j w)

-- what the function finds is so
pub comment_sound : (i : ℕ) (w : List ℕ) (at : ℕ) (last : Option ℕ) (cs : List ℕ) → Reads i w at (last_text last ++ cs) (comment i w at last cs)
unfolding comment
comment_sound i w at last [] = reads_end i w at last
comment_sound i w at last (c ∷ cs) =
    cond_both (is_pair 124 35 last c) _ _ (Reads i w at (last_text last ++ c ∷ cs))
    (λ e. reads_close i w at cs (last_text last ++ c ∷ cs) (λ j v. comment j v (at + 2) None cs) (pair_text last c 124 35 cs e) (λ j v. comment_sound j v (at + 2) None cs)) (λ e.
    cond_both (is_pair 35 124 last c) _ _ (Reads i w at (last_text last ++ c ∷ cs))
    (λ f. reads_part opens at i (i ∷ w) w at (at + 2) cs (last_text last ++ c ∷ cs) (comment at (i ∷ w) (at + 2) None cs) (pair_text last c 35 124 cs f) (λ ms h. h) (λ ms h. h) (λ ms o h. h) (comment_sound at (i ∷ w) (at + 2) None cs))
    (λ f. reads_other i w at last c cs (comment i w (passed at last) (Some c) cs) e f (comment_sound i w (passed at last) (Some c) cs)))

-- ---- the innermost comment that is not ended

-- a number of a list, by its place
abbrev pub IsAt : ℕ → List ℕ → ℕ → Type 0
IsAt j [] o = ⊥
IsAt zero (s ∷ ss) o = o ≡ s
IsAt (suc j) (s ∷ ss) o = IsAt j ss o

-- it begins in the parts
pub record BeginsIn (n at : ℕ) (ms : List CommentPart) (o : ℕ) : Type 0 where
  pub outer : List CommentPart
  pub inner : List CommentPart
  pub are : ms ≡ outer ++ opens ∷ inner
  pub within : StayWithin n outer
  pub balanced : IsBalanced 0 inner
  pub start : o ≡ at + length (comment_text outer)

-- it begins before the parts, which end those in it
abbrev BeginsBefore : ℕ → List ℕ → List CommentPart → ℕ → Type 0
BeginsBefore i w ms o = (j : ℕ) × IsBalanced j ms × IsAt j (i ∷ w) o

-- a character more before the parts
other_begins : (c : ℕ) (i : ℕ) (w : List ℕ) (at : ℕ) (ms : List CommentPart) (o : ℕ) → BeginsIn (length w) (at + 1) ms o ⊎ BeginsBefore i w ms o → BeginsIn (length w) at (other c ∷ ms) o ⊎ BeginsBefore i w (other c ∷ ms) o
other_begins c i w at ms o (inl h) = inl (record { outer = other c ∷ h.outer; inner = h.inner; are = ap (λ (x : List CommentPart). other c ∷ x) h.are; within = h.within; balanced = h.balanced; start = omega (arith, h.start) })
other_begins c i w at ms o (inr h) = inr h

-- a comment more around the parts
opens_begins : (i : ℕ) (w : List ℕ) (at : ℕ) (ms : List CommentPart) (o : ℕ) → BeginsIn (suc (length w)) (at + 2) ms o ⊎ BeginsBefore at (i ∷ w) ms o → BeginsIn (length w) at (opens ∷ ms) o ⊎ BeginsBefore i w (opens ∷ ms) o
opens_begins i w at ms o (inl h) = inl (record { outer = opens ∷ h.outer; inner = h.inner; are = ap (λ (x : List CommentPart). opens ∷ x) h.are; within = h.within; balanced = h.balanced; start = omega (arith, h.start) })
opens_begins i w at ms o (inr (zero, b, e)) = inl (record { outer = []; inner = ms; are = refl; within = tt; balanced = b; start = omega (arith, e) })
opens_begins i w at ms o (inr (suc j, b, e)) = inr (j, b, e)

-- the end of a comment before the parts
closes_begins : (i j : ℕ) (w : List ℕ) (at : ℕ) (ms : List CommentPart) (o : ℕ) → BeginsIn (length w) (at + 2) ms o ⊎ BeginsBefore j w ms o → BeginsIn (suc (length w)) at (closes ∷ ms) o ⊎ BeginsBefore i (j ∷ w) (closes ∷ ms) o
closes_begins i j w at ms o (inl h) = inl (record { outer = closes ∷ h.outer; inner = h.inner; are = ap (λ (x : List CommentPart). closes ∷ x) h.are; within = h.within; balanced = h.balanced; start = omega (arith, h.start) })
closes_begins i j w at ms o (inr h) = inr (suc h.0, h.1, h.2)

-- where it begins
begins : (ms : List CommentPart) (i : ℕ) (w : List ℕ) (at o : ℕ) → StartsAt i w at ms o → BeginsIn (length w) at ms o ⊎ BeginsBefore i w ms o
begins [] i w at o h = inr (zero, refl, h)
begins (other c ∷ ms) i w at o h = other_begins c i w at ms o (begins ms i w (at + 1) o h)
begins (opens ∷ ms) i w at o h = opens_begins i w at ms o (begins ms at (i ∷ w) (at + 2) o h)
begins (closes ∷ ms) i [] at o h = absurd h
begins (closes ∷ ms) i (j ∷ w) at o h = closes_begins i j w at ms o (begins ms j w (at + 2) o h)

-- behind parts that end all that begins in them it begins before them
before_starts : (ms : List CommentPart) (j i : ℕ) (w : List ℕ) (at o : ℕ) → IsBalanced j ms → IsAt j (i ∷ w) o → StartsAt i w at ms o
before_starts [] zero i w at o b e = e
before_starts [] (suc j) i w at o b e = absurd (omega (arith, b))
before_starts (opens ∷ ms) j i w at o b e = before_starts ms (suc j) at (i ∷ w) (at + 2) o b e
before_starts (closes ∷ ms) zero i w at o b e = absurd b
before_starts (closes ∷ ms) (suc j) i [] at o b e = absurd e
before_starts (closes ∷ ms) (suc j) i (k ∷ w) at o b e = before_starts ms j k w (at + 2) o b e
before_starts (other c ∷ ms) j i w at o b e = before_starts ms j i w (at + 1) o b e

-- where it begins in the parts
in_starts : (us vs : List CommentPart) (i : ℕ) (w : List ℕ) (at o : ℕ) → StayWithin (length w) us → IsBalanced 0 vs → o ≡ at + length (comment_text us) → StartsAt i w at (us ++ opens ∷ vs) o
in_starts [] vs i w at o s b e = before_starts vs zero at (i ∷ w) (at + 2) o b (omega (arith, e))
in_starts (opens ∷ us) vs i w at o s b e = in_starts us vs at (i ∷ w) (at + 2) o s b (omega (arith, e))
in_starts (closes ∷ us) vs i [] at o s b e = absurd s
in_starts (closes ∷ us) vs i (j ∷ w) at o s b e = in_starts us vs j w (at + 2) o s b (omega (arith, e))
in_starts (other c ∷ us) vs i w at o s b e = in_starts us vs i w (at + 1) o s b (omega (arith, e))

-- ---- what is so is found

-- the character before is no part of a pair with what follows
abbrev Clear : Option ℕ → List ℕ → Type 0
Clear None cs = Unit {0}
Clear (Some p) cs = IsApart p cs

-- a clear character ends no comment with the next one
not_close : (last : Option ℕ) (c : ℕ) (cs : List ℕ) → Clear last (c ∷ cs) → is_pair 124 35 last c ≡ false
not_close None c cs h = refl
not_close (Some p) c cs h = false_from_ne_true (is_pair 124 35 (Some p) c) (λ e. let b = both_true p c 124 35 e in h.0 b.0 b.1)

-- a clear character begins no comment with the next one
not_open : (last : Option ℕ) (c : ℕ) (cs : List ℕ) → Clear last (c ∷ cs) → is_pair 35 124 last c ≡ false
not_open None c cs h = refl
not_open (Some p) c cs h = false_from_ne_true (is_pair 35 124 (Some p) c) (λ e. let b = both_true p c 35 124 e in h.1 b.0 b.1)

-- a character that is none of a pair with the one before
passes : (i : ℕ) (w : List ℕ) (at : ℕ) (last : Option ℕ) (c : ℕ) (cs ds : List ℕ) → Clear last (c ∷ ds) → comment i w at last (c ∷ cs) ≡ comment i w (passed at last) (Some c) cs
unfolding comment
passes i w at last c cs ds h = rw (not_close last c ds h, not_open last c ds h) refl

-- the beginning of a comment is found
opens_again : (i : ℕ) (w : List ℕ) (at : ℕ) (last : Option ℕ) (cs ds : List ℕ) → Clear last (35 ∷ ds) → comment i w at last (35 ∷ 124 ∷ cs) ≡ comment (passed at last) (i ∷ w) (passed at last + 2) None cs
unfolding comment
opens_again i w at last cs ds h = passes i w at last 35 (124 ∷ cs) ds h

-- the end of a comment is found
closes_again : (i : ℕ) (w : List ℕ) (at : ℕ) (last : Option ℕ) (cs ds : List ℕ) → Clear last (124 ∷ ds) → comment i w at last (124 ∷ 35 ∷ cs) ≡ closed w (Ok cs) (λ j v. comment j v (passed at last + 2) None cs)
unfolding comment
closes_again i w at last cs ds h = passes i w at last 124 (35 ∷ cs) ds h

-- a comment that ends is found
pub comment_again : (ms : List CommentPart) (i : ℕ) (w : List ℕ) (at : ℕ) (last : Option ℕ) (after : List ℕ) → IsBalanced (length w) ms → ArePicked (ms ++ closes ∷ []) → Clear last (comment_text (ms ++ closes ∷ []))
    → comment i w at last (comment_text (ms ++ closes ∷ []) ++ after) ≡ Ok after
comment_again [] i [] at last after b p h = closes_again i [] at last after (35 ∷ []) h
comment_again [] i (j ∷ w) at last after b p h = absurd (omega (arith, b))
comment_again (opens ∷ ms) i w at last after b p h =
    opens_again i w at last (comment_text (ms ++ closes ∷ []) ++ after) (124 ∷ comment_text (ms ++ closes ∷ [])) h ∙ comment_again ms (passed at last) (i ∷ w) (passed at last + 2) None after b p tt
comment_again (closes ∷ ms) i [] at last after b p h = absurd b
comment_again (closes ∷ ms) i (j ∷ w) at last after b p h =
    closes_again i (j ∷ w) at last (comment_text (ms ++ closes ∷ []) ++ after) (35 ∷ comment_text (ms ++ closes ∷ [])) h ∙ comment_again ms j w (passed at last + 2) None after b p tt
comment_again (other c ∷ ms) i w at last after b p h =
    passes i w at last c (comment_text (ms ++ closes ∷ []) ++ after) (comment_text (ms ++ closes ∷ [])) h ∙ comment_again ms i w (passed at last) (Some c) after b p.1 p.0

-- a comment that does not end is found
stays_again : (ms : List CommentPart) (i : ℕ) (w : List ℕ) (at : ℕ) (last : Option ℕ) (o : ℕ) → StartsAt i w (passed at last) ms o → ArePicked ms → Clear last (comment_text ms) → comment i w at last (comment_text ms) ≡ Err (Unclosed, o)
unfolding comment
stays_again [] i w at last o s p h = ap (λ (n : ℕ). Err (Unclosed, n)) (sym s)
stays_again (opens ∷ ms) i w at last o s p h = opens_again i w at last (comment_text ms) (124 ∷ comment_text ms) h ∙ stays_again ms (passed at last) (i ∷ w) (passed at last + 2) None o s p tt
stays_again (closes ∷ ms) i [] at last o s p h = absurd s
stays_again (closes ∷ ms) i (j ∷ w) at last o s p h = closes_again i (j ∷ w) at last (comment_text ms) (35 ∷ comment_text ms) h ∙ stays_again ms j w (passed at last + 2) None o s p tt
stays_again (other c ∷ ms) i w at last o s p h = passes i w at last c (comment_text ms) (comment_text ms) h ∙ stays_again ms i w (passed at last) (Some c) o s p.1 p.0

-- ---- a whole comment

-- the innermost comment that does not end, by the text behind the outermost `#|`
pub record Found (cs : List ℕ) (o : ℕ) : Type 0 where
  pub around : List ℕ
  pub unended : IsUnended (35 ∷ 124 ∷ cs) around
  pub place : o ≡ length around

-- the innermost comment that does not end, by where it begins
found_by : (ms : List CommentPart) (cs : List ℕ) (o : ℕ) → cs ≡ comment_text ms → ArePicked ms → BeginsIn 0 2 ms o ⊎ BeginsBefore 0 [] ms o → Found cs o
found_by ms cs o e p (inl h) = record {
  around = comment_text (opens ∷ h.outer);
  unended = record {
    outer = opens ∷ h.outer;
    inner = h.inner;
    is = ap (λ (x : List ℕ). 35 ∷ 124 ∷ x) (e ∙ ap comment_text h.are);
    picked = subst ArePicked h.are p;
    unended = h.within;
    balanced = h.balanced;
    before = refl;
  };
  place = omega (arith, h.start);
}
found_by ms cs o e p (inr (zero, b, s)) = record {
  around = [];
  unended = record { outer = []; inner = ms; is = ap (λ (x : List ℕ). 35 ∷ 124 ∷ x) e; picked = p; unended = tt; balanced = b; before = refl };
  place = s;
}
found_by ms cs o e p (inr (suc j, b, s)) = absurd s

-- what stays in comments to the end of the text is a comment that is not ended
pub found : (cs : List ℕ) (k : FaultKind) (o : ℕ) → Stays 0 [] 2 cs k o → Found cs o
found cs k o h = found_by h.parts cs o h.is h.picked (begins h.parts 0 [] 2 o h.starts)

-- what an unended comment is behind its `#|`, and what the function finds there
pub record Again (cs around : List ℕ) : Type 0 where
  pub behind : List ℕ
  pub is : cs ≡ 35 ∷ 124 ∷ behind
  pub finds : comment 0 [] 2 None behind ≡ Err (Unclosed, length around)
  pub front : take (length around) cs ≡ around
  pub within : length around ≤ length cs

-- the text around the innermost comment comes first
front_is : (us vs : List CommentPart) (cs around : List ℕ) → cs ≡ comment_text (us ++ vs) → around ≡ comment_text us → take (length around) cs ≡ around
front_is us vs cs around e a = rw (a, e, flat_map-append part_text us vs) (take_at (comment_text us) (comment_text vs) (length (comment_text us)) refl)

-- the text around the innermost comment is no longer than the whole
front_within : (us vs : List CommentPart) (cs around : List ℕ) → cs ≡ comment_text (us ++ vs) → around ≡ comment_text us → length around ≤ length cs
front_within us vs cs around e a = rw (a, e, flat_map-append part_text us vs) (omega (arith, length-append (comment_text us) (comment_text vs)))

-- by the parts around the innermost comment
again_by : (us vs : List CommentPart) (cs around : List ℕ) → cs ≡ comment_text (us ++ opens ∷ vs) → ArePicked (us ++ opens ∷ vs) → AreUnended us → IsBalanced 0 vs → around ≡ comment_text us → Again cs around
again_by [] vs cs around e p u b a = record {
  behind = comment_text vs;
  is = e;
  finds = rw a (stays_again vs 0 [] 2 None 0 (before_starts vs zero 0 [] 2 0 b refl) p tt);
  front = front_is [] (opens ∷ vs) cs around e a;
  within = front_within [] (opens ∷ vs) cs around e a;
}
again_by (opens ∷ us) vs cs around e p u b a = record {
  behind = comment_text (us ++ opens ∷ vs);
  is = e;
  finds = rw a (stays_again (us ++ opens ∷ vs) 0 [] 2 None (length (comment_text (opens ∷ us))) (in_starts us vs 0 [] 2 (length (comment_text (opens ∷ us))) u b (omega arith)) p tt);
  front = front_is (opens ∷ us) (opens ∷ vs) cs around e a;
  within = front_within (opens ∷ us) (opens ∷ vs) cs around e a;
}
again_by (closes ∷ us) vs cs around e p u b a = absurd u
again_by (other c ∷ us) vs cs around e p u b a = absurd u

-- a comment that is not ended is found
pub unended_again : (cs around : List ℕ) → IsUnended cs around → Again cs around
unended_again cs around h = again_by h.outer h.inner cs around h.is h.picked h.unended h.balanced h.before
