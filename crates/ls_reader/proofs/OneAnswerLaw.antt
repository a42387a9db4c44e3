-- A text is one list of forms or has one fault, and never both.
use Rattle.std.proofs.Common.{◌≡◌, ℕ, zero, suc, ◌+◌, ◌-◌, ◌<◌, ◌≤◌, inl, inr, List, [], ◌∷◌, ◌++◌, length, Result, Ok, Err, refl, sym, ap, ◌∙◌, arith, length-append, zero-add}
use Rattle.ls_reader.specs.declared.place.Place.{Place}
use Rattle.ls_reader.specs.declared.datum.Datum.{Datum}
use Rattle.ls_reader.specs.declared.builder.Builder.{Builder}
use Rattle.ls_reader.specs.declared.fault.FaultKind.{FaultKind}
use Rattle.ls_reader.specs.declared.fault.FaultKind.TheVariants.{Unclosed}
use Rattle.ls_reader.specs.declared.token.Token.{Token}
use Rattle.ls_reader.specs.Places.{start, after_all}
use Rattle.ls_reader.specs.steps.Lexing.{lexeme}
use Rattle.ls_reader.specs.steps.Building.{step, finish, nothing, PlacedFault}
use Rattle.ls_reader.specs.Lexemes.{IsLexeme, Lexeme, Lexed, pieces, text_of}
use Rattle.ls_reader.specs.Trees.{Tree, Opening, list_of, dot_of, tail_of, mark_of, feature_of, chosen_of, Begun}
use Rattle.ls_reader.specs.Forms.{FormsIn}
use Rattle.ls_reader.specs.Faults.{FaultNext, FaultIn}
use Rattle.ls_reader.specs.steps.Running.{Reading, stepped, advance}
use Rattle.ls_reader.proofs.LexemeLemmas.{lexeme_again, some_text}
use Rattle.ls_reader.proofs.StuckLemmas.{stuck_again, stuck_front}
use Rattle.ls_reader.proofs.TurnLemmas.{used_is, after_all-append, Stands, Turned, turned, stands_start, Finished, finished}
use Rattle.ls_reader.proofs.BuilderLemmas.{builder_of}
use Rattle.ls_reader.proofs.RunLemmas.{then, run, run_piece, runs}
use Rattle.ls_reader.proofs.RefusalLemmas.{refused_again}

-- ---- the turns of a whole text

-- the end of a text
ended : Place → Result (List Datum) Place → Result (List Datum) (FaultKind × Place)
ended at (Ok ds) = Ok ds
ended at (Err p) = Err (Unclosed, p)

-- a turn, and those after it
next : (Reading → Result (List Datum) (FaultKind × Place)) → Place → Result Reading PlacedFault → Result (List Datum) (FaultKind × Place)
next f at (Ok r) = f r
next f at (Err x) = Err x

-- at most n turns, and the end
read : ℕ → Place → List ℕ → Builder → Result (List Datum) (FaultKind × Place)
read n at [] b = ended at (finish b)
read zero at (c ∷ cs) b = Err (Unclosed, at)
read (suc n) at (c ∷ cs) b = next (λ r. read n r.at r.rest r.builder) at (advance (record { at = at; rest = c ∷ cs; builder = b }))

advance_is : (at : Place) (cs : List ℕ) (b : Builder) (t : Token) (text after : List ℕ) → IsLexeme t text after → cs ≡ text ++ after
    → advance (record { at = at; rest = cs; builder = b }) ≡ stepped (after_all at text) after (step at (after_all at text) t b)
advance_is at cs b t text after is e =
    let found : lexeme cs ≡ Ok (t, after) = ap lexeme e ∙ lexeme_again t text after is in
    rw (found, used_is cs text after e) refl

abbrev err_builder : PlacedFault → Result Builder PlacedFault
err_builder k = Err k

abbrev ok_builder : Builder → Result Builder PlacedFault
ok_builder b = Ok b

-- an error is no success
err_not_ok : (k : PlacedFault) (c : Builder) → err_builder k ≡ Ok c → ⊥
err_not_ok k c e = cc

-- what succeeded with two builders succeeded with one
ok_is : (b c : Builder) → ok_builder b ≡ Ok c → b ≡ c
ok_is b c e = cc

-- where both steps succeeded the first did
then_ok : (f : Builder → Result Builder PlacedFault) (r : Result Builder PlacedFault) (c : Builder) → then f r ≡ Ok c → (b : Builder) × (r ≡ Ok b) × (f b ≡ Ok c)
then_ok f (Ok b) c e = (b, refl, e)
then_ok f (Err k) c e = absurd (err_not_ok k c e)

-- one turn takes each lexeme
read_lexed : (xs : List Lexeme) (n : ℕ) (cs rest : List ℕ) (at : Place) (b c : Builder) → Lexed cs xs rest → run (pieces at xs) b ≡ Ok c → read (length xs + n) at cs b ≡ read n (after_all at (text_of xs)) rest c
unfolding read next
read_lexed [] n cs rest at b c l e = rw (l, zero-add n, ok_is b c e) refl
read_lexed (x ∷ xs) n [] rest at b c l e = absurd (omega (arith, some_text x.token x.text l.0 l.1, ap length l.2, length-append x.text l.0))
read_lexed (x ∷ xs) n (d ∷ cs) rest at b c l e =
    let to = after_all at x.text in
    let h = then_ok (run (pieces to xs)) (step at to x.token b) c (sym (run_piece x.token (record { from = at; to = to }) (pieces to xs) b) ∙ e) in
    let fuel : length (x ∷ xs) + n ≡ suc (length xs + n) = omega arith in
    rw (fuel, advance_is at (d ∷ cs) b x.token x.text l.0 l.1 l.2, h.1, after_all-append at x.text (text_of xs)) (read_lexed xs n l.0 rest to h.0 c l.3 h.2)

-- there are no more lexemes than characters
few : (xs : List Lexeme) (cs rest : List ℕ) → Lexed cs xs rest → length xs ≤ length cs
few [] cs rest l = omega arith
few (x ∷ xs) cs rest l = omega (arith, few xs l.0 rest l.3, some_text x.token x.text l.0 l.1, ap length l.2, length-append x.text l.0)

-- what the turns of a text come to
pub outcome : List ℕ → Result (List Datum) (FaultKind × Place)
outcome cs = read (suc (length cs)) start cs nothing

-- the turns of the lexemes before the rest come first
outcome_lexed : (cs rest : List ℕ) (xs : List Lexeme) (whole : List Tree) (w : List Opening) → Lexed cs xs rest → Begun (pieces start xs) whole w
    → outcome cs ≡ read (suc (length cs - length xs)) (after_all start (text_of xs)) rest (builder_of whole w)
unfolding outcome
outcome_lexed cs rest xs whole w l b =
    let fuel : suc (length cs) ≡ length xs + suc (length cs - length xs) = omega (arith, few xs cs rest l) in
    rw fuel (read_lexed xs (suc (length cs - length xs)) cs rest start nothing (builder_of whole w) l (runs (pieces start xs) whole w b))

-- forms are the outcome
pub forms_outcome : (cs : List ℕ) (fs : List Datum) → FormsIn cs fs → outcome cs ≡ Ok fs
unfolding read ended
forms_outcome cs fs f = outcome_lexed cs [] f.lexemes f.whole [] f.lexed f.begun ∙ rw f.are refl

fault_again : (n : ℕ) (at place : Place) (rest : List ℕ) (whole : List Tree) (w : List Opening) (k : FaultKind) → FaultNext at rest w k place → read (suc n) at rest (builder_of whole w) ≡ Err (k, place)
unfolding read next ended
fault_again n at place [] whole [] k h = absurd h
fault_again n at place [] whole (list_of kind o ts ∷ w) k h = rw (h.0, h.1) refl
fault_again n at place [] whole (mark_of kind o us ∷ w) k h = rw (h.0, h.1) refl
fault_again n at place [] whole (dot_of o ts d us ∷ w) k h = rw (h.0, h.1) refl
fault_again n at place [] whole (tail_of o ts d us t vs ∷ w) k h = rw (h.0, h.1) refl
fault_again n at place [] whole (feature_of e plus us ∷ w) k h = rw (h.0, h.1) refl
fault_again n at place [] whole (chosen_of e plus us t vs ∷ w) k h = rw (h.0, h.1) refl
fault_again n at place (c ∷ cs) whole w k (inl h) = rw (stuck_again (c ∷ cs) k h.0 h.1 h.2, stuck_front (c ∷ cs) k h.0 h.2, h.3) refl
fault_again n at place (c ∷ cs) whole w k (inr h) =
    rw (advance_is at (c ∷ cs) (builder_of whole w) h.0 h.1 h.2 h.3 h.4, refused_again h.0 w (record { from = at; to = after_all at h.1 }) whole k place h.5) refl

-- the first fault is the outcome
pub fault_outcome : (cs : List ℕ) (k : FaultKind) (place : Place) → FaultIn cs k place → outcome cs ≡ Err (k, place)
fault_outcome cs k place f =
    outcome_lexed cs f.rest f.lexemes f.whole f.w f.lexed f.begun ∙ fault_again (length cs - length f.lexemes) (after_all start (text_of f.lexemes)) place f.rest f.whole f.w k f.fault

-- ---- each text has an outcome

-- an outcome that the text has: its forms, or its first fault
abbrev pub Settles : List ℕ → Result (List Datum) (FaultKind × Place) → Type 0
Settles cs (Ok fs) = FormsIn cs fs
Settles cs (Err x) = FaultIn cs x.0 x.1

-- the end of a text comes to its forms, or to a construct that is not ended
ended_settles : (cs : List ℕ) (at : Place) (f : Result (List Datum) Place) → Finished cs f → Settles cs (ended at f)
unfolding ended
ended_settles cs at (Ok fs) h = h
ended_settles cs at (Err p) h = h

-- a turn comes to the first fault, or to what the turns after it come to
next_settles : (cs : List ℕ) (n : ℕ) (at : Place) (r : Reading) (turn : Result Reading PlacedFault) → Turned cs r turn → 0 < length r.rest → length r.rest ≤ suc n
    → (f : Reading → Result (List Datum) (FaultKind × Place)) → ((s : Reading) → Stands cs s → length s.rest ≤ n → Settles cs (f s)) → Settles cs (next f at turn)
unfolding next
next_settles cs n at r (Ok s) h some few f settles = settles s h.0 (omega (arith, h.1, few))
next_settles cs n at r (Err x) h some few f settles = h some

-- the turns of a reader that stands in a text come to what the text has
read_settles : (cs : List ℕ) (n : ℕ) (at : Place) (rest : List ℕ) (b : Builder) → Stands cs (record { at = at; rest = rest; builder = b }) → length rest ≤ n → Settles cs (read n at rest b)
unfolding read
read_settles cs n at [] b s few = ended_settles cs at (finish b) (finished cs (record { at = at; rest = []; builder = b }) s refl)
read_settles cs zero at (c ∷ rest) b s few = absurd (omega arith)
read_settles cs (suc n) at (c ∷ rest) b s few =
    let r : Reading = record { at = at; rest = c ∷ rest; builder = b } in
    next_settles cs n at r (advance r) (turned cs r s) (omega arith) few (λ t. read n t.at t.rest t.builder)
    (λ t stands less. read_settles cs n t.at t.rest t.builder stands less)

-- what the turns of a text come to is what the text has
pub outcome_settles : (cs : List ℕ) → Settles cs (outcome cs)
unfolding outcome
outcome_settles cs = read_settles cs (suc (length cs)) start cs nothing (stands_start cs) (omega arith)
