-- The fault of a text that is no forms: its kind and its place.
use Rattle.std.specs.Prelude.{ℕ, ◌≡◌, ◌≤◌, ◌⊎◌, true, false, IsTrue, None, List, [], ◌∷◌, ◌++◌, length, take}
use Rattle.std.specs.List.{flat_map}
use Rattle.std.specs.Str.{chars, IsUtf8}
use Rattle.std.specs.Str.Lossy.{utf8_valid_len}
use Rattle.ls_reader.specs.declared.place.Place.{Place}
use Rattle.ls_reader.specs.declared.datum.Datum.{Datum}
use Rattle.ls_reader.specs.declared.fault.FaultKind.{FaultKind}
use Rattle.ls_reader.specs.declared.fault.FaultKind.TheVariants.{NotUtf8, BadToken, StrayClose, Unclosed, BadDot, TooDeep}
use Rattle.ls_reader.specs.declared.token.Token.{Token}
use Rattle.ls_reader.specs.declared.token.Token.TheVariants as token
use Rattle.ls_reader.specs.Places.{start, after_all}
use Rattle.ls_reader.specs.Lexemes.{IsLexeme, IsStuck, Lexeme, Lexed, Extent, pieces, text_of}
use Rattle.ls_reader.specs.Data as made
use Rattle.ls_reader.specs.Features.{holds}
use Rattle.ls_reader.specs.Trees.{Tree, yields, kept, Opening, list_of, dot_of, tail_of, mark_of, feature_of, chosen_of, opening_start, admits, Begun}

-- A second datum behind a dot is a fault where it begins.
abbrev pub Second : Extent → List Opening → FaultKind → Place → Type 0
Second e w k p = (admits w ≡ false) × (k ≡ BadDot) × (p ≡ e.from)

-- A construct that would be 257 deep is a fault where it begins.
abbrev pub TooMany : Extent → List Opening → FaultKind → Place → Type 0
TooMany e w k p = (256 ≤ length w) × (k ≡ TooDeep) × (p ≡ e.from)

-- the same of a construct that is a datum, where it is no second one behind a dot
abbrev pub TooDeepDatum : Extent → List Opening → FaultKind → Place → Type 0
TooDeepDatum e w k p = (admits w ≡ true) × TooMany e w k p

-- A closing bracket that ends no list and no vector is a fault at its place (2.4.2).
abbrev pub Stray : Extent → FaultKind → Place → Type 0
Stray e k p = (k ≡ StrayClose) × (p ≡ e.from)

-- A dot where none may stand is a fault at its place, and so is the closing bracket of a list whose dot no datum has
-- followed (2.4.1).
abbrev pub Misplaced : Extent → FaultKind → Place → Type 0
Misplaced e k p = (k ≡ BadDot) × (p ≡ e.from)

-- A datum that ends here ends a feature expression out of form (24.1.2.1), that of the `#+` or `#-` at the place.
abbrev pub EndsWrong : Datum → List Opening → Place → Type 0
EndsWrong d [] p = ⊥
EndsWrong d (list_of kind o ts ∷ w) p = ⊥
EndsWrong d (dot_of o ts b us ∷ w) p = ⊥
EndsWrong d (tail_of o ts b us t vs ∷ w) p = ⊥
EndsWrong d (mark_of kind e us ∷ w) p = EndsWrong (made.mark_on kind e.from d) w p
EndsWrong d (feature_of e plus us ∷ w) p = (holds d ≡ None) × (p ≡ e.from)
EndsWrong d (chosen_of e plus us t vs ∷ w) p = IsTrue (kept plus (yields t)) × EndsWrong d w p

-- the fault of a datum that ends a feature expression out of form; it is met at the last piece of the datum
abbrev pub OutOfForm : Datum → List Opening → FaultKind → Place → Type 0
OutOfForm d w k p = (k ≡ BadToken) × EndsWrong d w p

-- A closing bracket is refused where it ends nothing, where it ends a list whose dot no datum has followed, and where
-- the list or vector that it ends is a feature expression out of form, or ends one.
abbrev pub RefusesClose : Extent → List Opening → FaultKind → Place → Type 0
RefusesClose e [] k p = Stray e k p
RefusesClose e (list_of kind o ts ∷ w) k p = OutOfForm (made.list kind o.from e.to (flat_map yields ts)) w k p
RefusesClose e (dot_of o ts d us ∷ w) k p = Misplaced e k p
RefusesClose e (tail_of o ts d us t vs ∷ w) k p = (x : Datum) × (yields t ≡ x ∷ [])
    × OutOfForm (made.dotted_list o.from e.to (flat_map yields ts) x) w k p
RefusesClose e (mark_of kind o us ∷ w) k p = Stray e k p
RefusesClose e (feature_of o plus us ∷ w) k p = Stray e k p
RefusesClose e (chosen_of o plus us t vs ∷ w) k p = Stray e k p

-- A dot is refused unless the innermost construct is a list with at least one datum and no dot.
abbrev pub RefusesDot : Extent → List Opening → FaultKind → Place → Type 0
RefusesDot e (list_of kind o ts ∷ w) k p = (made.takes_dot kind (flat_map yields ts) ≡ false) × Misplaced e k p
RefusesDot e w k p = Misplaced e k p

-- the token is refused, with a fault at the place, where these constructs are begun
abbrev pub Refused : Token → Extent → List Opening → FaultKind → Place → Type 0
Refused token.Gap e w k p = ⊥
Refused (token.Open kind) e w k p = Second e w k p ⊎ TooDeepDatum e w k p
Refused token.Close e w k p = RefusesClose e w k p
Refused token.Dot e w k p = RefusesDot e w k p
Refused (token.Mark kind) e w k p = Second e w k p ⊎ TooDeepDatum e w k p
Refused (token.Feature plus) e w k p = TooMany e w k p
Refused (token.Atom form) e w k p = Second e w k p ⊎ OutOfForm (made.datum e.from e.to.byte form) w k p
Refused (token.Bad kind) e w k p = (k ≡ kind) × (p ≡ e.from)

-- no lexeme begins here
abbrev pub NoLexeme : List ℕ → Type 0
NoLexeme cs = (t : Token) (text more : List ℕ) → IsLexeme t text more → cs ≡ text ++ more → ⊥

-- no lexeme begins at a place, and the fault is that of what stands there
abbrev pub StuckAt : Place → List ℕ → FaultKind → Place → Type 0
StuckAt at cs k place = (before : List ℕ) × NoLexeme cs × IsStuck cs k before × (place ≡ after_all at before)

-- the lexeme that begins at a place is refused where these constructs are begun
abbrev pub RefusedAt : Place → List ℕ → List Opening → FaultKind → Place → Type 0
RefusedAt at cs w k place = (t : Token) × (text : List ℕ) × (more : List ℕ) × IsLexeme t text more × (cs ≡ text ++ more)
    × Refused t (record { from = at; to = after_all at text }) w k place

-- the fault of what comes next at a place, where these constructs are begun
abbrev pub FaultNext : Place → List ℕ → List Opening → FaultKind → Place → Type 0
FaultNext at [] [] k place = ⊥
FaultNext at [] (o ∷ w) k place = (k ≡ Unclosed) × (place ≡ opening_start o)
FaultNext at (c ∷ cs) w k place = StuckAt at (c ∷ cs) k place ⊎ RefusedAt at (c ∷ cs) w k place

-- the first fault of the characters: what comes before it is whole trees and constructs begun
pub record FaultIn (cs : List ℕ) (k : FaultKind) (place : Place) : Type 0 where
  pub lexemes : List Lexeme
  pub rest : List ℕ
  pub lexed : Lexed cs lexemes rest
  pub whole : List Tree
  pub w : List Opening
  pub begun : Begun (pieces start lexemes) whole w
  pub fault : FaultNext (after_all start (text_of lexemes)) rest w k place

-- the bytes are not UTF-8: the place is behind the longest front that is
pub record NotText (bytes : List ℕ) (k : FaultKind) (place : Place) : Type 0 where
  pub not_utf8 : IsUtf8 bytes → ⊥
  pub kind : k ≡ NotUtf8
  pub stands : place ≡ after_all start (chars (take (utf8_valid_len bytes) bytes))

-- the fault of bytes
abbrev pub Fault : List ℕ → FaultKind → Place → Type 0
Fault bytes k place = NotText bytes k place ⊎ (IsUtf8 bytes × FaultIn (chars bytes) k place)
