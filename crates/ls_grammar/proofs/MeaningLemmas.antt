-- The specifier that an outcome has is denoted by the datum, and a datum denotes one specifier at most.
use Rattle.std.proofs.Common.{◌≡◌, ℕ, ◌+◌, ◌-◌, zero, suc, List, [], ◌∷◌, Option, Some, None, Result, Ok, Err, refl, sym, ap, subst, ◌∙◌, arith}
use Rattle.std.proofs.lemmas.Bool.{cond_both}
use Rattle.std.specs.Prelude.{nat_lt}
use Rattle.ls_reader.specs.declared.datum.Span.{Span}
use Rattle.ls_reader.specs.declared.datum.Datum.{Datum}
use Rattle.ls_spec.specs.Specifier.{Specifier, not_of, array_of, cons_of}
use Rattle.ls_env.specs.Environments.{Environment}
use Rattle.ls_grammar.specs.declared.refusal.RefusalKind.TheVariants as kind
use Rattle.ls_grammar.specs.declared.refusal.Refusal.{Refusal}
use Rattle.ls_grammar.specs.Numbers.{refusal}
use Rattle.ls_grammar.specs.Levels.{Level, refused, known, object, members, all_of, some_of, none_of, pair_of, array_over, expanded}
use Rattle.ls_grammar.specs.Saying.{level, weight_of}
use Rattle.ls_grammar.specs.Denoting.{eql_of, conjunction, disjunction, Each, IsEql, SaysPart, Says, DenotesIn, Denotes}
use Rattle.ls_grammar.specs.steps.Running.{Outcome, next, enter, made, with_room, run_all, run_object, run_part, run_level, outcome}

-- what holds of an outcome's specifier, if it has one
abbrev pub Means : {X : Type 0} → (X → Type 0) → Outcome X → Type 0
Means P (Ok x) = P x.0
Means P (Err e) = Unit {0}

pub means_next : {X Y : Type 0} (P : X → Type 0) (Q : Y → Type 0) (g : X → ℕ → Outcome Y) (r : Outcome X) → Means P r → ((x : X) (k : ℕ) → P x → Means Q (g x k)) → Means Q (next g r)
means_next P Q g (Ok x) h after = after x.0 x.1 h
means_next P Q g (Err e) h after = tt

pub means_enter : {X : Type 0} (P : X → Type 0) (at : Span) (weight room : ℕ) (K : ℕ → Outcome X) → ((k : ℕ) → Means P (K k)) → Means P (enter at weight K room)
means_enter P at weight room K h = cond_both (nat_lt room weight) (Err (refusal kind.TooManyNodes at)) (K (room - weight)) (Means P) (λ e. tt) (λ e. h (room - weight))

pub means_all : (P : Datum → Specifier → Type 0) (f : Datum → ℕ → Outcome Specifier) → ((d : Datum) (k : ℕ) → Means (P d) (f d k)) → (ds : List Datum) (room : ℕ) → Means (Each P ds) (run_all f ds room)
means_all P f h [] room = tt
means_all P f h (d ∷ ds) room =
    means_next (P d) (Each P (d ∷ ds)) (λ s k. next (made (λ (ss : List Specifier). s ∷ ss)) (run_all f ds k)) (f d room) (h d room)
    (λ s k p. means_next (Each P ds) (Each P (d ∷ ds)) (made (λ (ss : List Specifier). s ∷ ss)) (run_all f ds k) (means_all P f h ds k) (λ ss j ps. (p, ps)))

means_with_room : (r : Result Specifier Refusal) (room : ℕ) → Means (λ s. r ≡ Ok s) (with_room r room)
means_with_room (Err x) room = tt
means_with_room (Ok s) room = refl

means_object : (d : Datum) (room : ℕ) → Means (IsEql d) (run_object d room)
means_object d room = means_enter (IsEql d) d.span 1 room (with_room (eql_of d)) (means_with_room (eql_of d))

means_part : (P : Datum → Specifier → Type 0) (f : Datum → ℕ → Outcome Specifier) → ((d : Datum) (k : ℕ) → Means (P d) (f d k)) → (part : Option Datum) (room : ℕ) → Means (SaysPart P part) (run_part f part room)
means_part P f h None room = refl
means_part P f h (Some d) room = h d room

means_level : (P : Datum → Specifier → Type 0) (f : Datum → ℕ → Outcome Specifier) → ((d : Datum) (k : ℕ) → Means (P d) (f d k)) → (l : Level) (room : ℕ) → Means (Says P l) (run_level f l room)
means_level P f h (refused x) room = tt
means_level P f h (known s) room = refl
means_level P f h (object d) room = means_object d room
means_level P f h (members ds) room =
    means_next (Each IsEql ds) (Says P (members ds)) (made disjunction) (run_all run_object ds room) (means_all IsEql run_object means_object ds room) (λ ss k p. (ss, refl, p))
means_level P f h (all_of ds) room =
    means_next (Each P ds) (Says P (all_of ds)) (made conjunction) (run_all f ds room) (means_all P f h ds room) (λ ss k p. (ss, refl, p))
means_level P f h (some_of ds) room =
    means_next (Each P ds) (Says P (some_of ds)) (made disjunction) (run_all f ds room) (means_all P f h ds room) (λ ss k p. (ss, refl, p))
means_level P f h (none_of d) room =
    means_next (P d) (Says P (none_of d)) (made not_of) (f d room) (h d room) (λ s k p. (s, refl, p))
means_level P f h (pair_of car cdr) room =
    let K : Specifier → ℕ → Outcome Specifier = λ a left. next (made (cons_of a)) (run_part f cdr left) in
    means_next (SaysPart P car) (Says P (pair_of car cdr)) K (run_part f car room) (means_part P f h car room)
    (λ a k p. means_next (SaysPart P cdr) (Says P (pair_of car cdr)) (made (cons_of a)) (run_part f cdr k) (means_part P f h cdr k)
    (λ b j q. (a, b, refl, p, q)))
means_level P f h (array_over d simple dims) room =
    means_next (P d) (Says P (array_over d simple dims)) (made (λ e. array_of e simple dims)) (f d room) (h d room) (λ e k p. (e, refl, p))
means_level P f h (expanded d) room = h d room

-- the specifier of an outcome is denoted within as many levels
pub means_outcome : (env : Environment) (left : ℕ) (d : Datum) (room : ℕ) → Means (DenotesIn env left d) (outcome env left d room)
unfolding outcome
means_outcome env zero d room = tt
means_outcome env (suc left) d room =
    means_enter (DenotesIn env (suc left) d) d.span (weight_of (level env d)) room (run_level (outcome env left) (level env d)) (means_level (DenotesIn env left) (outcome env left) (means_outcome env left) (level env d))

-- ---- one specifier at most

same_each : (P Q : Datum → Specifier → Type 0) → ((d : Datum) (s t : Specifier) → P d s → Q d t → s ≡ t) → (ds : List Datum) (ss ts : List Specifier) → Each P ds ss → Each Q ds ts → ss ≡ ts
same_each P Q h [] [] [] p q = refl
same_each P Q h [] [] (t ∷ ts) p q = absurd q
same_each P Q h [] (s ∷ ss) ts p q = absurd p
same_each P Q h (d ∷ ds) [] ts p q = absurd p
same_each P Q h (d ∷ ds) (s ∷ ss) [] p q = absurd q
same_each P Q h (d ∷ ds) (s ∷ ss) (t ∷ ts) p q = let one = h d s t p.0 q.0 in let rest = same_each P Q h ds ss ts p.1 q.1 in cc

same_eql : (d : Datum) (s t : Specifier) → IsEql d s → IsEql d t → s ≡ t
same_eql d s t p q = let both : Ok s ≡ Ok t = sym p ∙ q in cc

same_part : (P Q : Datum → Specifier → Type 0) → ((d : Datum) (s t : Specifier) → P d s → Q d t → s ≡ t) → (part : Option Datum) (s t : Specifier) → SaysPart P part s → SaysPart Q part t → s ≡ t
same_part P Q h None s t p q = p ∙ sym q
same_part P Q h (Some d) s t p q = h d s t p q

same_says : (P Q : Datum → Specifier → Type 0) → ((d : Datum) (s t : Specifier) → P d s → Q d t → s ≡ t) → (l : Level) (s t : Specifier) → Says P l s → Says Q l t → s ≡ t
same_says P Q h (refused x) s t p q = absurd p
same_says P Q h (known u) s t p q = p ∙ sym q
same_says P Q h (object d) s t p q = same_eql d s t p q
same_says P Q h (members ds) s t p q = p.1 ∙ ap disjunction (same_each IsEql IsEql same_eql ds p.0 q.0 p.2 q.2) ∙ sym q.1
same_says P Q h (all_of ds) s t p q = p.1 ∙ ap conjunction (same_each P Q h ds p.0 q.0 p.2 q.2) ∙ sym q.1
same_says P Q h (some_of ds) s t p q = p.1 ∙ ap disjunction (same_each P Q h ds p.0 q.0 p.2 q.2) ∙ sym q.1
same_says P Q h (none_of d) s t p q = p.1 ∙ ap not_of (h d p.0 q.0 p.2 q.2) ∙ sym q.1
same_says P Q h (pair_of car cdr) s t p q =
    let cars = same_part P Q h car p.0 q.0 p.3 q.3 in
    let cdrs = same_part P Q h cdr p.1 q.1 p.4 q.4 in
    p.2 ∙ (λ i. cons_of (cars i) (cdrs i)) ∙ sym q.2
same_says P Q h (array_over d simple dims) s t p q = p.1 ∙ ap (λ (e : Specifier). array_of e simple dims) (h d p.0 q.0 p.2 q.2) ∙ sym q.1
same_says P Q h (expanded d) s t p q = h d s t p q

same_in : (env : Environment) (n m : ℕ) (d : Datum) (s t : Specifier) → DenotesIn env n d s → DenotesIn env m d t → s ≡ t
same_in env zero m d s t p q = absurd p
same_in env (suc n) zero d s t p q = absurd q
same_in env (suc n) (suc m) d s t p q = same_says (DenotesIn env n) (DenotesIn env m) (same_in env n m) (level env d) s t p q

pub denotes_one : (env : Environment) (d : Datum) (s t : Specifier) → Denotes env d s → Denotes env d t → s ≡ t
denotes_one env d s t p q = same_in env p.0 q.0 d s t p.1 q.1

-- ---- `Denotes` is the least relation that keeps to the levels

-- what says more below says more here
wide_each : (P Q : Datum → Specifier → Type 0) → ((d : Datum) (s : Specifier) → P d s → Q d s) → (ds : List Datum) (ss : List Specifier) → Each P ds ss → Each Q ds ss
wide_each P Q h [] [] p = tt
wide_each P Q h [] (s ∷ ss) p = absurd p
wide_each P Q h (d ∷ ds) [] p = absurd p
wide_each P Q h (d ∷ ds) (s ∷ ss) p = (h d s p.0, wide_each P Q h ds ss p.1)

wide_part : (P Q : Datum → Specifier → Type 0) → ((d : Datum) (s : Specifier) → P d s → Q d s) → (part : Option Datum) (s : Specifier) → SaysPart P part s → SaysPart Q part s
wide_part P Q h None s p = p
wide_part P Q h (Some d) s p = h d s p

wide_says : (P Q : Datum → Specifier → Type 0) → ((d : Datum) (s : Specifier) → P d s → Q d s) → (l : Level) (s : Specifier) → Says P l s → Says Q l s
wide_says P Q h (refused x) s p = p
wide_says P Q h (known u) s p = p
wide_says P Q h (object d) s p = p
wide_says P Q h (members ds) s p = p
wide_says P Q h (all_of ds) s p = (p.0, p.1, wide_each P Q h ds p.0 p.2)
wide_says P Q h (some_of ds) s p = (p.0, p.1, wide_each P Q h ds p.0 p.2)
wide_says P Q h (none_of d) s p = (p.0, p.1, h d p.0 p.2)
wide_says P Q h (pair_of car cdr) s p = (p.0, p.1, p.2, wide_part P Q h car p.0 p.3, wide_part P Q h cdr p.1 p.4)
wide_says P Q h (array_over d simple dims) s p = (p.0, p.1, h d p.0 p.2)
wide_says P Q h (expanded d) s p = h d s p

least_in : (env : Environment) (R : Datum → Specifier → Type 0) → ((d : Datum) (s : Specifier) → Says R (level env d) s → R d s) → (n : ℕ) (d : Datum) (s : Specifier) → DenotesIn env n d s → R d s
least_in env R closed zero d s p = absurd p
least_in env R closed (suc n) d s p = closed d s (wide_says (DenotesIn env n) R (least_in env R closed n) (level env d) s p)

-- what keeps to the levels holds of all that is denoted
pub denotes_least : (env : Environment) (R : Datum → Specifier → Type 0) → ((d : Datum) (s : Specifier) → Says R (level env d) s → R d s) → (d : Datum) (s : Specifier) → Denotes env d s → R d s
denotes_least env R closed d s p = least_in env R closed p.0 d s p.1

more : (env : Environment) (n k : ℕ) (d : Datum) (s : Specifier) → DenotesIn env n d s → DenotesIn env (n + k) d s
more env zero k d s p = absurd p
more env (suc n) k d s p =
    let wider : Says (DenotesIn env (n + k)) (level env d) s = wide_says (DenotesIn env n) (DenotesIn env (n + k)) (more env n k) (level env d) s p in
    let e : suc (n + k) ≡ suc n + k = omega arith in
    subst (λ (m : ℕ). DenotesIn env m d s) e wider

more_left : (env : Environment) (n k : ℕ) (d : Datum) (s : Specifier) → DenotesIn env n d s → DenotesIn env (k + n) d s
more_left env n k d s p = let e : n + k ≡ k + n = omega arith in subst (λ (m : ℕ). DenotesIn env m d s) e (more env n k d s p)

each_in : (env : Environment) (ds : List Datum) (ss : List Specifier) → Each (Denotes env) ds ss → (n : ℕ) × Each (DenotesIn env n) ds ss
each_in env [] [] p = (0, tt)
each_in env [] (s ∷ ss) p = absurd p
each_in env (d ∷ ds) [] p = absurd p
each_in env (d ∷ ds) (s ∷ ss) p =
    let rest = each_in env ds ss p.1 in
    (p.0.0 + rest.0, (more env p.0.0 rest.0 d s p.0.1, wide_each (DenotesIn env rest.0) (DenotesIn env (p.0.0 + rest.0)) (more_left env rest.0 p.0.0) ds ss rest.1))

part_in : (env : Environment) (part : Option Datum) (s : Specifier) → SaysPart (Denotes env) part s → (n : ℕ) × SaysPart (DenotesIn env n) part s
part_in env None s p = (0, p)
part_in env (Some d) s p = p

closed_in : (env : Environment) (l : Level) (s : Specifier) → Says (Denotes env) l s → (n : ℕ) × Says (DenotesIn env n) l s
closed_in env (refused x) s p = absurd p
closed_in env (known u) s p = (0, p)
closed_in env (object d) s p = (0, p)
closed_in env (members ds) s p = (0, p)
closed_in env (all_of ds) s p = let q = each_in env ds p.0 p.2 in (q.0, (p.0, p.1, q.1))
closed_in env (some_of ds) s p = let q = each_in env ds p.0 p.2 in (q.0, (p.0, p.1, q.1))
closed_in env (none_of d) s p = (p.2.0, (p.0, p.1, p.2.1))
closed_in env (pair_of car cdr) s p =
    let q = part_in env car p.0 p.3 in
    let r = part_in env cdr p.1 p.4 in
    let first = wide_part (DenotesIn env q.0) (DenotesIn env (q.0 + r.0)) (more env q.0 r.0) car p.0 q.1 in
    let second = wide_part (DenotesIn env r.0) (DenotesIn env (q.0 + r.0)) (more_left env r.0 q.0) cdr p.1 r.1 in
    (q.0 + r.0, (p.0, p.1, p.2, first, second))
closed_in env (array_over d simple dims) s p = (p.2.0, (p.0, p.1, p.2.1))
closed_in env (expanded d) s p = p

-- the relation keeps to the levels itself
pub denotes_closed : (env : Environment) (d : Datum) (s : Specifier) → Says (Denotes env) (level env d) s → Denotes env d s
denotes_closed env d s p = let q = closed_in env (level env d) s p in (suc q.0, q.1)
