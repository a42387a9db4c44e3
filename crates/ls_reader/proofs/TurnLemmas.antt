-- A reader's turns keep to the grammar, and it stops at the first fault.
use Rattle.std.proofs.Common.{◌≡◌, ℕ, ◌+◌, ◌-◌, ◌<◌, ◌≤◌, inl, inr, eqb, List, [], ◌∷◌, ◌++◌, length, take, Result, Ok, Err, refl, sym, ap, subst, ◌∙◌, append_assoc, arith, length-append}
use Rattle.std.proofs.lemmas.Bool.{cond_both}
use Rattle.std.proofs.lemmas.List.{append-nil, take_at}
use Rattle.std.proofs.lemmas.Str.{len_utf8_bounds}
use Rattle.ls_reader.specs.declared.place.Place.{Place}
use Rattle.ls_reader.specs.declared.datum.Datum.{Datum}
use Rattle.ls_reader.specs.declared.builder.Builder.{Builder}
use Rattle.ls_reader.specs.declared.fault.Failure.{Failure}
use Rattle.ls_reader.specs.declared.fault.Failure.TheVariants as failure
use Rattle.ls_reader.specs.declared.fault.FaultKind.{FaultKind}
use Rattle.ls_reader.specs.declared.fault.FaultKind.TheVariants.{Unclosed}
use Rattle.ls_reader.specs.declared.fault.Stop.{Stop}
use Rattle.ls_reader.specs.declared.fault.Stop.TheVariants as stop
use Rattle.ls_reader.specs.declared.token.Token.{Token}
use Rattle.ls_reader.specs.Places.{start, after, after_all}
use Rattle.ls_reader.specs.steps.Lexing.{LocalFault, Fails, lexeme}
use Rattle.ls_reader.specs.steps.Building.{step, finish, nothing, PlacedFault, FailsWith}
use Rattle.ls_reader.specs.Lexemes.{IsLexeme, IsStuck, Lexeme, Lexed, Extent, Piece, piece, pieces, text_of}
use Rattle.ls_reader.specs.Trees.{Tree, Opening, list_of, dot_of, tail_of, mark_of, feature_of, chosen_of, Begun}
use Rattle.ls_reader.specs.Forms.{FormsIn}
use Rattle.ls_reader.specs.Faults.{Refused, NoLexeme, FaultNext, FaultIn}
use Rattle.ls_reader.specs.steps.Running.{Reading, used, stepped, taken, advance, IsSmall, IsWithin, FailsIn}
use Rattle.ls_reader.proofs.LexemeLemmas.{Sound, lexeme_sound, no_lexeme, some_text}
use Rattle.ls_reader.proofs.BuilderLemmas.{builder_of, Holds, Stepped, step_holds}

-- ---- places

pub after_all-append : (p : Place) (xs ys : List ℕ) → after_all p (xs ++ ys) ≡ after_all (after_all p xs) ys
after_all-append p [] ys = refl
after_all-append p (x ∷ xs) ys = after_all-append (after p x) xs ys

-- the text before what is left is the text of the lexeme
pub used_is : (cs text more : List ℕ) → cs ≡ text ++ more → used cs more ≡ text
used_is cs text more e =
    let n : length (text ++ more) - length more ≡ length text = omega (arith, length-append text more) in
    rw (e, n) (take_at text more (length text) refl)

column_after : (p : Place) (c : ℕ) → (after p c).column ≤ p.column + 1
column_after p c = cond_both (eqb c 10) 1 (p.column + 1) (λ n. n ≤ p.column + 1) (λ _. omega arith) (λ _. omega arith)

line_after : (p : Place) (c : ℕ) → (after p c).line ≤ p.line + 1
line_after p c = cond_both (eqb c 10) (p.line + 1) p.line (λ n. n ≤ p.line + 1) (λ _. omega arith) (λ _. omega arith)

small_after_one : (p : Place) (c : ℕ) (rest : List ℕ) → IsSmall p (c ∷ rest) → IsSmall (after p c) rest
small_after_one p c rest s = record {
  byte = omega (arith, (len_utf8_bounds c).1, s.byte);
  line = omega (arith, line_after p c, s.line);
  column = omega (arith, column_after p c, s.column);
}

-- places stay small
pub small_after : (p : Place) (text more : List ℕ) → IsSmall p (text ++ more) → IsSmall (after_all p text) more
small_after p [] more s = s
small_after p (c ∷ cs) more s = small_after (after p c) cs more (small_after_one p c (cs ++ more) s)

-- ---- one more lexeme

lexed_push : (cs rest more : List ℕ) (xs : List Lexeme) (x : Lexeme) → Lexed cs xs rest → IsLexeme x.token x.text more → rest ≡ x.text ++ more → Lexed cs (xs ++ x ∷ []) more
lexed_push cs rest more [] x h is at = (more, is, h ∙ at, refl)
lexed_push cs rest more (y ∷ ys) x h is at = (h.0, h.1, h.2, lexed_push h.0 rest more ys x h.3 is at)

text_of-push : (xs : List Lexeme) (x : Lexeme) → text_of (xs ++ x ∷ []) ≡ text_of xs ++ x.text
text_of-push [] x = append-nil x.text
text_of-push (y ∷ ys) x = ap (λ (cs : List ℕ). y.text ++ cs) (text_of-push ys x) ∙ sym (append_assoc y.text (text_of ys) x.text)

abbrev extent : Place → List ℕ → Extent
extent p text = record { from = p; to = after_all p text }

pieces_push : (p : Place) (xs : List Lexeme) (x : Lexeme) → pieces p (xs ++ x ∷ []) ≡ pieces p xs ++ piece x.token (extent (after_all p (text_of xs)) x.text)
pieces_push p [] x = append-nil (piece x.token (extent p x.text))
pieces_push p (y ∷ ys) x =
    ap (λ (ps : List Piece). piece y.token (extent p y.text) ++ ps) (pieces_push (after_all p y.text) ys x
    ∙ ap (λ (q : Place). pieces (after_all p y.text) ys ++ piece x.token (extent q x.text)) (sym (after_all-append p y.text (text_of ys))))
    ∙ sym (append_assoc (piece y.token (extent p y.text)) (pieces (after_all p y.text) ys) (piece x.token (extent (after_all p (y.text ++ text_of ys)) x.text)))

-- ---- where a reader stands

-- the builder holds what the lexemes before the rest are
pub record Stands (cs : List ℕ) (r : Reading) : Type 0 where
  pub lexemes : List Lexeme
  pub lexed : Lexed cs lexemes r.rest
  pub at : r.at ≡ after_all start (text_of lexemes)
  pub holds : Holds (pieces start lexemes) r.builder

-- after a turn it stands so again and less is left, or there is the first fault
abbrev pub Turned : List ℕ → Reading → Result Reading PlacedFault → Type 0
Turned cs r (Ok s) = Stands cs s × (length s.rest < length r.rest) × (IsSmall r.at r.rest → IsSmall s.at s.rest)
Turned cs r (Err x) = 0 < length r.rest → FaultIn cs x.0 x.1

-- a front without a lexeme is a fault
fault_stuck : (at place : Place) (rest before : List ℕ) (w : List Opening) (k : FaultKind) → 0 < length rest → place ≡ after_all at before → NoLexeme rest → IsStuck rest k before → FaultNext at rest w k place
fault_stuck at place [] before w k lt e not is = absurd (omega arith)
fault_stuck at place (c ∷ cs) before w k lt e not is = inl (before, not, is, e)

fault_refused : (at place : Place) (rest : List ℕ) (w : List Opening) (k : FaultKind) (t : Token) (text more : List ℕ) → 0 < length rest → IsLexeme t text more → rest ≡ text ++ more → Refused t (extent at text) w k place → FaultNext at rest w k place
fault_refused at place [] w k t text more lt is eq refused = absurd (omega arith)
fault_refused at place (c ∷ cs) w k t text more lt is eq refused = inr (t, text, more, is, eq, refused)

-- a lexeme that is found leaves less
found_less : (cs : List ℕ) (x : Token × List ℕ) → Sound cs (Ok x) → length x.1 < length cs
found_less cs x h = omega (arith, some_text x.0 h.0 x.1 h.1, ap length h.2, length-append h.0 x.1)

-- what is left is less
pub rest_less : (cs : List ℕ) (x : Token × List ℕ) → lexeme cs ≡ Ok x → length x.1 < length cs
rest_less cs x e = found_less cs x (subst (Sound cs) e (lexeme_sound cs))

turn_step : (cs : List ℕ) (r : Reading) (s : Stands cs r) (t : Token) (text more : List ℕ) → IsLexeme t text more → r.rest ≡ text ++ more → (to : Place) → to ≡ after_all r.at text
    → (g : Result Builder PlacedFault) → Stepped (pieces start s.lexemes) (record { from = r.at; to = to }) t s.holds.w g → Turned cs r (stepped to more g)
turn_step cs r s t text more is at to to_is (Ok b) h =
    let xs = s.lexemes in
    let x : Lexeme = record { token = t; text = text } in
    let place : to ≡ after_all start (text_of (xs ++ x ∷ [])) = to_is ∙ ap (λ (p : Place). after_all p text) s.at ∙ sym (after_all-append start (text_of xs) text) ∙ ap (after_all start) (sym (text_of-push xs x)) in
    let front : pieces start xs ++ piece t (record { from = r.at; to = to }) ≡ pieces start (xs ++ x ∷ []) =
    ap (λ (p : Place). pieces start xs ++ piece t (record { from = r.at; to = p })) to_is ∙ ap (λ (p : Place). pieces start xs ++ piece t (extent p text)) s.at ∙ sym (pieces_push start xs x) in (
      record { lexemes = xs ++ x ∷ []; lexed = lexed_push cs r.rest more xs x s.lexed is at; at = place; holds = subst (λ (ps : List Piece). Holds ps b) front h },
      omega (arith, some_text t text more is, ap length at, length-append text more),
      λ small. rw to_is (small_after r.at text more (subst (IsSmall r.at) at small)),
    )
turn_step cs r s t text more is at to to_is (Err x) h = λ lt. record {
  lexemes = s.lexemes;
  rest = r.rest;
  lexed = s.lexed;
  whole = s.holds.whole;
  w = s.holds.w;
  begun = s.holds.begun;
  fault = fault_refused (after_all start (text_of s.lexemes)) x.1 r.rest s.holds.w x.0 t text more lt is at
      (subst (λ (e : Extent). Refused t e s.holds.w x.0 x.1) (ap (λ (p : Place). record { from = r.at; to = p }) to_is ∙ ap (λ (p : Place). extent p text) s.at) h);
}

-- a turn, by the lexeme that is found
turn_lexeme : (cs : List ℕ) (r : Reading) → Stands cs r → (f : Result (Token × List ℕ) LocalFault) → lexeme r.rest ≡ f → Sound r.rest f → Turned cs r (taken r f)
turn_lexeme cs r s (Ok x) e h =
    let to = after_all r.at (used r.rest x.1) in
    let here : Extent = record { from = r.at; to = to } in
    turn_step cs r s x.0 h.0 x.1 h.1 h.2 to (ap (after_all r.at) (used_is r.rest h.0 x.1 h.2)) (step r.at to x.0 r.builder)
    (subst (λ (b : Builder). Stepped (pieces start s.lexemes) here x.0 s.holds.w (step r.at to x.0 b)) (sym s.holds.is) (step_holds x.0 here (pieces start s.lexemes) s.holds.whole s.holds.w s.holds.begun))
turn_lexeme cs r s (Err x) e h = λ lt. record {
  lexemes = s.lexemes;
  rest = r.rest;
  lexed = s.lexed;
  whole = s.holds.whole;
  w = s.holds.w;
  begun = s.holds.begun;
  fault = fault_stuck (after_all start (text_of s.lexemes)) (after_all r.at (take x.1 r.rest)) r.rest h.0 s.holds.w x.0 lt
      (ap (after_all r.at) h.2 ∙ ap (λ (p : Place). after_all p h.0) s.at) (no_lexeme r.rest x e) h.1;
}

-- a fault is within the text
fault_within : (cs : List ℕ) (x : LocalFault) → lexeme cs ≡ Err x → x.1 ≤ length cs
fault_within cs x e = (subst (Sound cs) e (lexeme_sound cs)).3

-- the place of a fault is within the text
pub stop_within : (cs : List ℕ) (e : Stop) → Fails e (lexeme cs) → IsWithin e cs
stop_within cs stop.Memory f = tt
stop_within cs (stop.Fault k n) f = fault_within cs (k, n) f

-- a turn keeps to the grammar
pub turned : (cs : List ℕ) (r : Reading) → Stands cs r → Turned cs r (advance r)
turned cs r s = turn_lexeme cs r s (lexeme r.rest) refl (lexeme_sound r.rest)

pub turned_ok : (cs : List ℕ) (r s : Reading) → Stands cs r → advance r ≡ Ok s → Stands cs s × (length s.rest < length r.rest) × (IsSmall r.at r.rest → IsSmall s.at s.rest)
turned_ok cs r s h e = subst (Turned cs r) e (turned cs r h)

turned_err : (cs : List ℕ) (r : Reading) (x : PlacedFault) → Stands cs r → advance r ≡ Err x → 0 < length r.rest → FaultIn cs x.0 x.1
turned_err cs r x h e = subst (Turned cs r) e (turned cs r h)

-- the failure of a turn is the first fault
pub err_is_fault : (cs : List ℕ) (r : Reading) (e : Failure) → Stands cs r → 0 < length r.rest → FailsWith e (advance r) → FailsIn cs e
err_is_fault cs r failure.Memory h lt f = tt
err_is_fault cs r (failure.Fault k at) h lt f = turned_err cs r (k, at) h f lt

-- ---- the beginning

pub stands_start : (cs : List ℕ) → Stands cs (record { at = start; rest = cs; builder = nothing })
stands_start cs = record { lexemes = []; lexed = refl; at = refl; holds = record { whole = []; w = []; begun = record { are = refl; whole_fit = tt; begun_fit = tt }; is = refl } }

pub small_start : (cs : List ℕ) → length cs ≤ 16777216 → IsSmall start cs
small_start cs h = record { byte = omega arith; line = omega arith; column = omega arith }

-- ---- the end

-- what a builder has at the end is the forms, or a construct is not ended
abbrev pub Finished : List ℕ → Result (List Datum) Place → Type 0
Finished cs (Ok fs) = FormsIn cs fs
Finished cs (Err p) = FaultIn cs Unclosed p

finish_holds : (cs : List ℕ) (xs : List Lexeme) (whole : List Tree) (w : List Opening) → Lexed cs xs [] → Begun (pieces start xs) whole w → Finished cs (finish (builder_of whole w))
finish_holds cs xs whole [] l b = record { lexemes = xs; lexed = l; whole = whole; begun = b; are = refl }
finish_holds cs xs whole (list_of kind o ts ∷ w) l b = record { lexemes = xs; rest = []; lexed = l; whole = whole; w = list_of kind o ts ∷ w; begun = b; fault = (refl, refl) }
finish_holds cs xs whole (mark_of kind o us ∷ w) l b = record { lexemes = xs; rest = []; lexed = l; whole = whole; w = mark_of kind o us ∷ w; begun = b; fault = (refl, refl) }
finish_holds cs xs whole (dot_of o ts d us ∷ w) l b = record { lexemes = xs; rest = []; lexed = l; whole = whole; w = dot_of o ts d us ∷ w; begun = b; fault = (refl, refl) }
finish_holds cs xs whole (tail_of o ts d us t vs ∷ w) l b = record { lexemes = xs; rest = []; lexed = l; whole = whole; w = tail_of o ts d us t vs ∷ w; begun = b; fault = (refl, refl) }
finish_holds cs xs whole (feature_of o plus us ∷ w) l b = record { lexemes = xs; rest = []; lexed = l; whole = whole; w = feature_of o plus us ∷ w; begun = b; fault = (refl, refl) }
finish_holds cs xs whole (chosen_of o plus us t vs ∷ w) l b = record { lexemes = xs; rest = []; lexed = l; whole = whole; w = chosen_of o plus us t vs ∷ w; begun = b; fault = (refl, refl) }

pub finished : (cs : List ℕ) (r : Reading) → Stands cs r → r.rest ≡ [] → Finished cs (finish r.builder)
finished cs r s e =
    subst (λ (b : Builder). Finished cs (finish b)) (sym s.holds.is) (finish_holds cs s.lexemes s.holds.whole s.holds.w (subst (λ (x : List ℕ). Lexed cs s.lexemes x) e s.lexed) s.holds.begun)
