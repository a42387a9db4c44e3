-- Specifiers of a known height and weight have no refusal.
use Rattle.std.proofs.Common.{◌≡◌, refl, ap, sym, ◌∙◌, subst, ℕ, ◌+◌, ◌-◌, ◌≤◌, suc, zero, List, [], ◌∷◌, ◌++◌, Bool, false, Option, Some, None, Ok, append-nil, arith}
use Rattle.std.specs.Prelude.{nat_lt, if◌then◌else◌}
use Rattle.std.specs.List.{AllByRecursion}
use Rattle.std.proofs.lemmas.Bool.Decides.{nat_tests}
use Rattle.ls_reader.specs.declared.datum.Datum.{Datum}
use Rattle.ls_reader.specs.Sizes.{size}
use Rattle.ls_spec.specs.Specifier.{Specifier}
use Rattle.ls_env.specs.Environments.{Environment}
use Rattle.ls_grammar.specs.declared.refusal.Refusal.{Refusal}
use Rattle.ls_grammar.specs.declared.refusal.RefusalKind.TheVariants as kind
use Rattle.ls_grammar.specs.Numbers.{refusal}
use Rattle.ls_grammar.specs.Levels.{Level, known, object, some_of, pair_of, expanded}
use Rattle.ls_grammar.specs.Saying.{level, weight_of}
use Rattle.ls_grammar.specs.Denoting.{eql_of}
use Rattle.ls_grammar.specs.Visiting.{Visit, line_of, error_of, below, visits, earlier, first, refusal_of, deepest, largest}

-- ---- visits

-- nothing is wrong at the visit, and it is no deeper than may be
pub record IsFine (v : Visit) : Type 0 where
  pub depth : v.depth ≤ 256
  pub line : v.line ≡ None

-- the room that visits take
abbrev pub weights : List Visit → ℕ
weights [] = 0
weights (v ∷ vs) = v.weight + weights vs

-- nothing is wrong at any of the visits, and they take at most so much room
pub record AreFine (weight : ℕ) (vs : List Visit) : Type 0 where
  pub each : AllByRecursion IsFine vs
  pub room : weights vs ≤ weight

-- a number that is no less is not below
not_below : (m n : ℕ) → n ≤ m → nat_lt m n ≡ false
not_below m n h = grind (arith, nat_tests)

-- visits at which nothing is wrong, with room for them, have no refusal
fine_first : (vs : List Visit) (room : ℕ) → AllByRecursion IsFine vs → weights vs ≤ room → first vs room ≡ None
fine_first [] room h l = refl
fine_first (v ∷ vs) room h l =
    let rest = first vs (room - v.weight) in
    let light = if nat_lt room v.weight then Some (refusal kind.TooManyNodes v.place) else v.line in
    ap (λ (b : Bool). earlier (if b then Some (refusal kind.TooDeep v.place) else light) rest)
    (not_below 256 v.depth h.0.depth)
    ∙ ap (λ (b : Bool). earlier (if b then Some (refusal kind.TooManyNodes v.place) else v.line) rest)
    (not_below room v.weight (omega arith))
    ∙ ap (λ (r : Option Refusal). earlier r rest) h.0.line
    ∙ fine_first vs (room - v.weight) h.1 (omega arith)

-- none at all
none_fine : AreFine 0 []
none_fine = record { each = tt; room = omega arith }

-- one before others
one_fine : (v : Visit) (vs : List Visit) (m w : ℕ) → v.depth ≤ 256 → v.line ≡ None → v.weight ≤ m → AreFine w vs
    → AreFine (m + w) (v ∷ vs)
one_fine v vs m w deep line light h = record {
  each = (record { depth = deep; line = line }, h.each);
  room = let r = h.room in omega arith;
}

-- visits before others
append_fine : (us vs : List Visit) (m w : ℕ) → AreFine m us → AreFine w vs → AreFine (m + w) (us ++ vs)
append_fine [] vs m w h k = record { each = k.each; room = let r = k.room in omega arith }
append_fine (u ∷ us) vs m w h k =
    let inner = h.room in
    let rest = append_fine us vs (weights us) w (record { each = h.each.1; room = omega arith }) k in
    let sum = rest.room in
    record { each = (h.each.0, rest.each); room = omega arith }

-- ---- specifiers

-- The specifier is at most so high, and takes at most so much room: nothing is wrong with it at any depth that leaves
-- room below.
pub record Fits (env : Environment) (height weight : ℕ) (d : Datum) : Type 0 where
  pub visited : (left depth : ℕ) → height ≤ left → depth + height ≤ 257 → AreFine weight (visits env left depth d)

-- a specifier within the limits has no refusal
pub fits_unrefused : (env : Environment) (height weight : ℕ) (d : Datum) → Fits env height weight d → height ≤ 256
    → weight ≤ 262144
    → refusal_of env d ≡ None
fits_unrefused env height weight d h low light =
    let fine = h.visited 256 1 low (omega arith) in
    let room = fine.room in
    fine_first (visits env deepest 1 d) largest fine.each (omega arith)

-- what fits a height fits a greater one
pub fits_higher : (env : Environment) (low high weight : ℕ) (d : Datum) → low ≤ high → Fits env low weight d
    → Fits env high weight d
fits_higher env low high weight d l h = record {
  visited = λ left depth room deep. h.visited left depth (omega arith) (omega arith);
}

-- the visit of a datum at a depth, by its level
abbrev own_visit : Datum → ℕ → Level → Visit
own_visit d depth l = record { place = d.span; depth = depth; weight = weight_of l; line = line_of l }

-- the visits of a datum are its own and those below its level
by_level : (env : Environment) (left depth : ℕ) (d : Datum) (l : Level) (w : ℕ) → level env d ≡ l → line_of l ≡ None
    → depth ≤ 256
    → AreFine w (below (visits env left (depth + 1)) depth l)
    → AreFine (weight_of l + w) (visits env (suc left) depth d)
unfolding visits
by_level env left depth d l w is line deep h =
    subst (λ m. AreFine (weight_of l + w) (own_visit d depth m ∷ below (visits env left (depth + 1)) depth m)) (sym is)
    (one_fine (own_visit d depth l) (below (visits env left (depth + 1)) depth l) (weight_of l) w deep line (omega arith)
    h)

-- so a datum fits by what is below its level
fits_by : (env : Environment) (d : Datum) (l : Level) (h w : ℕ) → level env d ≡ l → line_of l ≡ None
    → ((left depth : ℕ) → h ≤ left → depth + h ≤ 256 → AreFine w (below (visits env left (depth + 1)) depth l))
    → Fits env (suc h) (weight_of l + w) d
fits_by env d l h w is line below_is = record { visited = by }
  where
    by : (left depth : ℕ) → suc h ≤ left → depth + suc h ≤ 257 → AreFine (weight_of l + w) (visits env left depth d)
    by zero depth room deep = absurd (omega arith)
    by (suc left) depth room deep =
        by_level env left depth d l w is line (omega arith) (below_is left depth (omega arith) (omega arith))

-- a specifier with nothing below
pub fits_known : (env : Environment) (d : Datum) (s : Specifier) → level env d ≡ known s → Fits env 1 1 d
fits_known env d s is = fits_by env d (known s) 0 0 is refl (λ left depth room deep. none_fine)

-- EQL of an object
pub fits_object : (env : Environment) (d e : Datum) (s : Specifier) → level env d ≡ object e → eql_of e ≡ Ok s
    → Fits env 1 2 d
fits_object env d e s is wrote =
    fits_by env d (object e) 0 1 is refl
    (λ left depth room deep.
    one_fine (record { place = e.span; depth = depth; weight = 1; line = error_of (eql_of e) }) [] 1 0 (omega arith)
    (ap error_of wrote) (omega arith) none_fine)

-- a CONS of two specifiers
pub fits_pair : (env : Environment) (d a b : Datum) (h v w : ℕ) → level env d ≡ pair_of (Some a) (Some b)
    → Fits env h v a
    → Fits env h w b
    → Fits env (suc h) (1 + (v + w)) d
fits_pair env d a b h v w is left_fits right_fits =
    fits_by env d (pair_of (Some a) (Some b)) h (v + w) is refl
    (λ left depth room deep.
    append_fine (visits env left (depth + 1) a) (visits env left (depth + 1) b) v w
    (left_fits.visited left (depth + 1) room (omega arith)) (right_fits.visited left (depth + 1) room (omega arith)))

-- an OR of two specifiers
pub fits_either : (env : Environment) (d a b : Datum) (h v w : ℕ) → level env d ≡ some_of (a ∷ b ∷ [])
    → Fits env h v a
    → Fits env h w b
    → Fits env (suc h) (1 + (v + w)) d
fits_either env d a b h v w is left_fits right_fits =
    fits_by env d (some_of (a ∷ b ∷ [])) h (v + w) is refl
    (λ left depth room deep.
    append_fine (visits env left (depth + 1) a) (visits env left (depth + 1) b ++ []) v w
    (left_fits.visited left (depth + 1) room (omega arith))
    (subst (AreFine w) (sym (append-nil (visits env left (depth + 1) b)))
    (right_fits.visited left (depth + 1) room (omega arith))))

-- a use of a template
pub fits_expanded : (env : Environment) (d x : Datum) (h m w : ℕ) → level env d ≡ expanded x → size x ≡ m
    → Fits env h w x
    → Fits env (suc h) (m + 1 + w) d
fits_expanded env d x h m w is sized fits =
    subst (λ k. Fits env (suc h) (k + 1 + w) d) sized
    (fits_by env d (expanded x) h w is refl (λ left depth room deep. fits.visited left (depth + 1) room (omega arith)))
