-- The outcome of a datum stops at the first thing that is wrong along its visits.
use Rattle.std.proofs.Common.{◌≡◌, ℕ, ◌+◌, ◌-◌, ◌<◌, zero, suc, List, [], ◌∷◌, ◌++◌, Bool, true, false, Option, Some, None, Result, Ok, Err, refl, sym, ap, ◌∙◌, arith}
use Rattle.std.proofs.lemmas.Bool.Decides.{nat_tests}
use Rattle.std.specs.Prelude.{nat_lt, if◌then◌else◌}
use Rattle.std.specs.List.{flat_map}
use Rattle.ls_reader.specs.declared.datum.Span.{Span}
use Rattle.ls_reader.specs.declared.datum.Datum.{Datum}
use Rattle.ls_spec.specs.Specifier.{Specifier, not_of, array_of, cons_of}
use Rattle.ls_env.specs.Environments.{Environment}
use Rattle.ls_grammar.specs.declared.refusal.RefusalKind.TheVariants as kind
use Rattle.ls_grammar.specs.declared.refusal.Refusal.{Refusal}
use Rattle.ls_grammar.specs.Numbers.{refusal}
use Rattle.ls_grammar.specs.Levels.{Level, refused, known, object, members, all_of, some_of, none_of, pair_of, array_over, expanded}
use Rattle.ls_grammar.specs.Saying.{level, weight_of}
use Rattle.ls_grammar.specs.Denoting.{eql_of, conjunction, disjunction}
use Rattle.ls_grammar.specs.steps.Running.{Outcome, next, enter, made, with_room, run_all, run_object, run_part, run_level, outcome}
use Rattle.ls_grammar.specs.Visiting.{deepest, Visit, line_of, error_of, object_visit, part_visits, below, visits, refused_at, earlier, first}

-- ---- lists of visits

abbrev pub left_after : List Visit → ℕ → ℕ
left_after [] room = room
left_after (v ∷ vs) room = left_after vs (room - v.weight)

earlier_assoc : (a b c : Option Refusal) → earlier a (earlier b c) ≡ earlier (earlier a b) c
earlier_assoc None b c = refl
earlier_assoc (Some x) b c = refl

-- the first thing that is wrong along two lists of visits
first_split : (xs ys : List Visit) (room : ℕ) → first (xs ++ ys) room ≡ earlier (first xs room) (first ys (left_after xs room))
first_split [] ys room = refl
first_split (v ∷ xs) ys room =
    ap (earlier (refused_at v room)) (first_split xs ys (room - v.weight))
    ∙ earlier_assoc (refused_at v room) (first xs (room - v.weight)) (first ys (left_after xs (room - v.weight)))

left_split : (xs ys : List Visit) (room : ℕ) → left_after (xs ++ ys) room ≡ left_after ys (left_after xs room)
left_split [] ys room = refl
left_split (v ∷ xs) ys room = left_split xs ys (room - v.weight)

-- ---- an outcome that follows the visits

abbrev pub Follows : {X : Type 0} → List Visit → ℕ → Outcome X → Type 0
Follows vs room (Ok x) = (first vs room ≡ None) × (x.1 ≡ left_after vs room)
Follows vs room (Err e) = first vs room ≡ Some e

-- where nothing is wrong along the first visits, the rest decides
follow_on : {X : Type 0} (xs ys : List Visit) (room k : ℕ) (r : Outcome X) → first xs room ≡ None → k ≡ left_after xs room → Follows ys k r → Follows (xs ++ ys) room r
follow_on xs ys room k (Ok y) none left h = (
  first_split xs ys room ∙ ap (λ (a : Option Refusal). earlier a (first ys (left_after xs room))) none ∙ ap (first ys) (sym left) ∙ h.0,
  h.1 ∙ ap (left_after ys) left ∙ sym (left_split xs ys room),
)
follow_on xs ys room k (Err e) none left h =
    first_split xs ys room ∙ ap (λ (a : Option Refusal). earlier a (first ys (left_after xs room))) none ∙ ap (first ys) (sym left) ∙ h

follow_next : {X Y : Type 0} (xs ys : List Visit) (room : ℕ) (r : Outcome X) (g : X → ℕ → Outcome Y) → Follows xs room r → ((x : X) (k : ℕ) → Follows ys k (g x k)) → Follows (xs ++ ys) room (next g r)
follow_next xs ys room (Ok x) g h after = follow_on xs ys room x.1 (g x.0 x.1) h.0 h.1 (after x.0 x.1)
follow_next xs ys room (Err e) g h after = first_split xs ys room ∙ ap (λ (a : Option Refusal). earlier a (first ys (left_after xs room))) h

follow_made : {X Y : Type 0} (xs : List Visit) (room : ℕ) (r : Outcome X) (f : X → Y) → Follows xs room r → Follows xs room (next (made f) r)
follow_made xs room (Ok x) f h = h
follow_made xs room (Err e) f h = h

-- the outcome of a list follows the visits of its data
follow_all : (f : Datum → ℕ → Outcome Specifier) (g : Datum → List Visit) → ((d : Datum) (k : ℕ) → Follows (g d) k (f d k)) → (ds : List Datum) (room : ℕ) → Follows (flat_map g ds) room (run_all f ds room)
follow_all f g h [] room = (refl, refl)
follow_all f g h (d ∷ ds) room =
    follow_next (g d) (flat_map g ds) room (f d room) (λ s k. next (made (λ (ss : List Specifier). s ∷ ss)) (run_all f ds k)) (h d room)
    (λ s k. follow_made (flat_map g ds) k (run_all f ds k) (λ (ss : List Specifier). s ∷ ss) (follow_all f g h ds k))

-- ---- one visit

-- what is wrong at a visit that is not too deep, where the flag says whether it takes more than the room
abbrev at_weight : Visit → Bool → Option Refusal
at_weight v over = if over then Some (refusal kind.TooManyNodes v.place) else v.line

shallow : (v : Visit) (room : ℕ) → nat_lt deepest v.depth ≡ false → refused_at v room ≡ at_weight v (nat_lt room v.weight)
shallow v room e = ap (λ (b : Bool). if b then Some (refusal kind.TooDeep v.place) else at_weight v (nat_lt room v.weight)) e

follow_test : {X : Type 0} (v : Visit) (vs : List Visit) (room : ℕ) (K : ℕ → Outcome X) (b : Bool) → refused_at v room ≡ at_weight v b → v.line ≡ None → ((k : ℕ) → Follows vs k (K k))
    → Follows (v ∷ vs) room (if b then Err (refusal kind.TooManyNodes v.place) else K (room - v.weight))
follow_test v vs room K true e line h = ap (λ (a : Option Refusal). earlier a (first vs (room - v.weight))) e
follow_test v vs room K false e line h =
    let alone : first (v ∷ []) room ≡ None = ap (λ (a : Option Refusal). earlier a None) (e ∙ line) in
    follow_on (v ∷ []) vs room (room - v.weight) (K (room - v.weight)) alone refl (h (room - v.weight))

-- a visit with which nothing is wrong by itself, and what follows
follow_enter : {X : Type 0} (v : Visit) (vs : List Visit) (room : ℕ) (K : ℕ → Outcome X) → nat_lt deepest v.depth ≡ false → v.line ≡ None → ((k : ℕ) → Follows vs k (K k))
    → Follows (v ∷ vs) room (enter v.place v.weight K room)
follow_enter v vs room K deep line h = follow_test v vs room K (nat_lt room v.weight) (shallow v room deep) line h

follow_line_test : (X : Type 0) (v : Visit) (vs : List Visit) (room : ℕ) (x : Refusal) (b : Bool) → refused_at v room ≡ at_weight v b → v.line ≡ Some x
    → Follows {X = X} (v ∷ vs) room (if b then Err (refusal kind.TooManyNodes v.place) else Err x)
follow_line_test X v vs room x true e line = ap (λ (a : Option Refusal). earlier a (first vs (room - v.weight))) e
follow_line_test X v vs room x false e line = ap (λ (a : Option Refusal). earlier a (first vs (room - v.weight))) (e ∙ line)

-- a visit with which something is wrong by itself
follow_line : (X : Type 0) (v : Visit) (vs : List Visit) (room : ℕ) (x : Refusal) → nat_lt deepest v.depth ≡ false → v.line ≡ Some x
    → Follows {X = X} (v ∷ vs) room (enter v.place v.weight (λ k. Err x) room)
follow_line X v vs room x deep line = follow_line_test X v vs room x (nat_lt room v.weight) (shallow v room deep) line

-- ---- an object of MEMBER or EQL

follow_object_at : (v : Visit) (room : ℕ) (r : Result Specifier Refusal) → nat_lt deepest v.depth ≡ false → v.line ≡ error_of r → Follows (v ∷ []) room (enter v.place v.weight (with_room r) room)
follow_object_at v room (Err x) deep line = follow_line Specifier v [] room x deep line
follow_object_at v room (Ok s) deep line = follow_enter v [] room (λ k. Ok (s, k)) deep line (λ k. (refl, refl))

follow_object : (depth : ℕ) → nat_lt deepest depth ≡ false → (d : Datum) (room : ℕ) → Follows (object_visit depth d ∷ []) room (run_object d room)
follow_object depth deep d room = follow_object_at (object_visit depth d) room (eql_of d) deep refl

-- ---- a part of a CONS

follow_part : (f : Datum → ℕ → Outcome Specifier) (g : Datum → List Visit) → ((d : Datum) (k : ℕ) → Follows (g d) k (f d k)) → (part : Option Datum) (room : ℕ) → Follows (part_visits g part) room (run_part f part room)
follow_part f g h None room = (refl, refl)
follow_part f g h (Some d) room = h d room

-- ---- a level

abbrev own_visit : Span → ℕ → Level → Visit
own_visit at depth l = record { place = at; depth = depth; weight = weight_of l; line = line_of l }

follow_level : (f : Datum → ℕ → Outcome Specifier) (g : Datum → List Visit) → ((d : Datum) (k : ℕ) → Follows (g d) k (f d k)) → (depth : ℕ) → nat_lt deepest depth ≡ false
    → (at : Span) (l : Level) (room : ℕ) → Follows (own_visit at depth l ∷ below g depth l) room (enter at (weight_of l) (run_level f l) room)
follow_level f g h depth deep at (refused x) room = follow_line Specifier (own_visit at depth (refused x)) [] room x deep refl
follow_level f g h depth deep at (known s) room = follow_enter (own_visit at depth (known s)) [] room (λ k. Ok (s, k)) deep refl (λ k. (refl, refl))
follow_level f g h depth deep at (object d) room =
    follow_enter (own_visit at depth (object d)) (object_visit depth d ∷ []) room (run_object d) deep refl (follow_object depth deep d)
follow_level f g h depth deep at (members ds) room =
    let vs = flat_map (λ (d : Datum). object_visit depth d ∷ []) ds in
    follow_enter (own_visit at depth (members ds)) vs room (λ k. next (made disjunction) (run_all run_object ds k)) deep refl
    (λ k. follow_made vs k (run_all run_object ds k) disjunction (follow_all run_object (λ d. object_visit depth d ∷ []) (follow_object depth deep) ds k))
follow_level f g h depth deep at (all_of ds) room =
    follow_enter (own_visit at depth (all_of ds)) (flat_map g ds) room (λ k. next (made conjunction) (run_all f ds k)) deep refl
    (λ k. follow_made (flat_map g ds) k (run_all f ds k) conjunction (follow_all f g h ds k))
follow_level f g h depth deep at (some_of ds) room =
    follow_enter (own_visit at depth (some_of ds)) (flat_map g ds) room (λ k. next (made disjunction) (run_all f ds k)) deep refl
    (λ k. follow_made (flat_map g ds) k (run_all f ds k) disjunction (follow_all f g h ds k))
follow_level f g h depth deep at (none_of d) room =
    follow_enter (own_visit at depth (none_of d)) (g d) room (λ k. next (made not_of) (f d k)) deep refl
    (λ k. follow_made (g d) k (f d k) not_of (h d k))
follow_level f g h depth deep at (pair_of car cdr) room =
    let cars = part_visits g car in
    let cdrs = part_visits g cdr in
    let K : Specifier → ℕ → Outcome Specifier = λ a left. next (made (cons_of a)) (run_part f cdr left) in
    follow_enter (own_visit at depth (pair_of car cdr)) (cars ++ cdrs) room (λ k. next K (run_part f car k)) deep refl
    (λ k. follow_next cars cdrs k (run_part f car k) K (follow_part f g h car k)
    (λ a left. follow_made cdrs left (run_part f cdr left) (cons_of a) (follow_part f g h cdr left)))
follow_level f g h depth deep at (array_over d simple dims) room =
    let array : Specifier → Specifier = λ e. array_of e simple dims in
    follow_enter (own_visit at depth (array_over d simple dims)) (g d) room (λ k. next (made array) (f d k)) deep refl
    (λ k. follow_made (g d) k (f d k) array (h d k))
follow_level f g h depth deep at (expanded d) room = follow_enter (own_visit at depth (expanded d)) (g d) room (f d) deep refl (h d)

deep_past : (depth : ℕ) → depth ≡ 257 → nat_lt deepest depth ≡ true
deep_past depth e = grind (arith, nat_tests)

deep_within : (depth : ℕ) → depth < 257 → nat_lt deepest depth ≡ false
deep_within depth e = grind (arith, nat_tests)

-- the outcome of a datum follows its visits
pub agree : (env : Environment) (left depth : ℕ) → left + depth ≡ 257 → (d : Datum) (room : ℕ) → Follows (visits env left depth d) room (outcome env left d room)
unfolding visits outcome
agree env zero depth sum d room =
    ap (λ (b : Bool). earlier (if b then Some (refusal kind.TooDeep d.span) else (if nat_lt room 1 then Some (refusal kind.TooManyNodes d.span) else None)) None) (deep_past depth (omega arith))
agree env (suc left) depth sum d room =
    follow_level (outcome env left) (visits env left (depth + 1)) (agree env left (depth + 1) (omega arith)) depth (deep_within depth (omega arith)) d.span (level env d) room
