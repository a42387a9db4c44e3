-- What a session spends on questions, one after another, is charged for them.
use Rattle.std.proofs.Common.{ℕ, ◌≡◌, ◌≤◌, ◌<◌, ◌+◌, ◌∙◌, refl, sym, ap, subst, arith, Bool, true, false, if◌then◌else◌, IsTrue, List, [], ◌∷◌, ◌++◌, append_assoc, append-nil, length, take, get_or}
use Rattle.std.specs.Prelude.{nat_le, Result, Ok, Err, IfOk}
use Rattle.std.specs.declared.alloc.AllocError.{AllocError}
use Rattle.std.specs.List.{AllZip, flat_map}
use Rattle.std.proofs.lemmas.List.{take_more}
use Rattle.std.proofs.lemmas.List.Concat.{flat_map-cons}
use Rattle.std.proofs.lemmas.Grind.{flat_map-append}
use Rattle.std.proofs.lemmas.Bool.{leb-true, leb-false}
use Rattle.ls_object.specs.Universe.{LispObject, Structures}
use Rattle.ls_spec.specs.Specifier.{Specifier}
use Rattle.ls_spec.proofs.ListLemmas.{AllByRecursion-append, AllByRecursion-weaker}
use Rattle.ls_lists.specs.Costs.{pair_cost, type_cost, pair_lists, type_lists, predicate_lists, element_lists, lists_of, charge, of_pair, of_type}
use Rattle.ls_lists.specs.Costs as costs
use Rattle.ls_lists.specs.Walks.{among, total, walk_all}
use Rattle.ls_lists.proofs.AmongLemmas.{among_itself, among_append, among_more}
use Rattle.ls_env.specs.declared.query.Query.{Query}
use Rattle.ls_env.specs.Environments.{Environment}
use Rattle.ls_cells.specs.Kept.{Entries, lists, count_rows}
use Rattle.ls_decide.specs.declared.answer.Answer.{Answer}
use Rattle.ls_decide.specs.declared.answer.Answer.TheVariants.{Yes, No, Unsure, TooLarge}
use Rattle.ls_decide.specs.declared.answer.Belongs.{Belongs}
use Rattle.ls_decide.specs.declared.answer.Belongs.TheVariants as belongs
use Rattle.ls_decide.specs.Answers.{IsRight, IsRightMembership}
use Rattle.ls_decide.specs.Sessions.{IsPaid, HasMade, HasDone, HasAsked, decided_lists, pair_list}
use Rattle.subtypep_app.specs.Charges.{if_within, IsChargedFor, AreCharged, all_of, needed_lists, fewest}
use Rattle.subtypep_app.specs.steps.Charging.{AreAmong, Spends, HaveSpent, HasSpent}
use Rattle.subtypep_app.proofs.ReportLemmas.{AllZip-push}
use Rattle.subtypep_app.proofs.WithinLemmas.{walk_all-append, total_within, length_within}

abbrev Lists : Type 0
Lists = List (List Specifier)

-- ---- lists among others

-- what is among some lists is among more
among_front : (ls some more : Lists) → AreAmong ls some → AreAmong ls (some ++ more)
among_front ls some more h =
    AllByRecursion-weaker (λ l. IsTrue (among l some)) (λ l. IsTrue (among l (some ++ more))) (λ l is. among_more l some more is) ls h

among_behind : (l : List Specifier) (some more : Lists) → IsTrue (among l more) → IsTrue (among l (some ++ more))
among_behind l some more h = let e = among_append l some more in grind arith

among_back : (ls some more : Lists) → AreAmong ls more → AreAmong ls (some ++ more)
among_back ls some more h =
    AllByRecursion-weaker (λ l. IsTrue (among l more)) (λ l. IsTrue (among l (some ++ more))) (λ l is. among_behind l some more is) ls h

-- each of some lists is among them
among_self : (ls : Lists) → AreAmong ls ls
among_self [] = tt
among_self (x ∷ ls) = (let e = among_itself x ls in grind arith, among_back ls (x ∷ []) ls (among_self ls))

-- ---- what is charged

-- what costs more than the budget is not charged
over : (budget cost : ℕ) (q : costs.Question) → budget < cost → if_within budget cost q ≡ []
over budget cost q more = by (nat_le cost budget) refl
  where
    by : (b : Bool) → nat_le cost budget ≡ b → (if b then q ∷ [] else []) ≡ []
    by true e = absurd (omega (arith, more, leb-true cost budget e))
    by false e = refl

-- what costs no more is
within : (budget cost : ℕ) (q : costs.Question) → cost ≤ budget → if_within budget cost q ≡ q ∷ []
within budget cost q fits = by (nat_le cost budget) refl
  where
    by : (b : Bool) → nat_le cost budget ≡ b → (if b then q ∷ [] else []) ≡ q ∷ []
    by true e = refl
    by false e = absurd (omega (arith, fits, leb-false cost budget e))

one_flat : {X Y : Type 0} (f : X → List Y) (x : X) → flat_map f (x ∷ []) ≡ f x
one_flat f x = flat_map-cons f x [] ∙ append-nil (f x)

-- ---- what is spent

-- where nothing is asked and nothing was done, nothing is spent
pub spends_nothing : (old new : Entries) (before now : ℕ) → new ≡ old → now ≡ before → Spends [] old new before now
unfolding walk_all
spends_nothing old new before now same still = record {
  walked = [];
  kept = ap lists same;
  no_more = tt;
  no_fewer = tt;
  paid = omega (arith, still, ap (λ e. total (lists e)) same);
  rows = omega (arith, still, ap count_rows same);
}

-- what is spent on some questions and then on others is spent on all
pub spends_both : (qs rs : List costs.Question) (old mid new : Entries) (before between now : ℕ)
    → Spends qs old mid before between → Spends rs mid new between now → Spends (qs ++ rs) old new before now
spends_both qs rs old mid new before between now f g = record {
  walked = f.walked ++ g.walked;
  kept = g.kept ∙ ap (walk_all g.walked) f.kept ∙ sym (walk_all-append f.walked g.walked (lists old));
  no_more = subst (λ ls. AreAmong (f.walked ++ g.walked) ls) (sym (flat_map-append lists_of qs rs))
      (AllByRecursion-append (λ l. IsTrue (among l (flat_map lists_of qs ++ flat_map lists_of rs))) f.walked g.walked
      (among_front f.walked (flat_map lists_of qs) (flat_map lists_of rs) f.no_more)
      (among_back g.walked (flat_map lists_of qs) (flat_map lists_of rs) g.no_more));
  no_fewer = subst (λ ls. AreAmong ls (f.walked ++ g.walked)) (sym (flat_map-append needed_lists qs rs))
      (AllByRecursion-append (λ l. IsTrue (among l (f.walked ++ g.walked))) (flat_map needed_lists qs) (flat_map needed_lists rs)
      (among_front (flat_map needed_lists qs) f.walked g.walked f.no_fewer)
      (among_back (flat_map needed_lists rs) f.walked g.walked g.no_fewer));
  paid = omega (arith, f.paid, g.paid);
  rows = omega (arith, f.rows, g.rows);
}

-- what was made for lists between those needed and those charged is spent on the question
spends_made : (q : costs.Question) (ls : Lists) (old new : Entries) (before now : ℕ) → HasMade ls old new
    → AreAmong ls (lists_of q) → AreAmong (needed_lists q) ls → IsPaid old new before now
    → count_rows new + before ≤ count_rows old + now → Spends (q ∷ []) old new before now
spends_made q ls old new before now made few enough paid rows = record {
  walked = ls;
  kept = made.walked;
  no_more = subst (AreAmong ls) (sym (one_flat lists_of q)) few;
  no_fewer = subst (λ xs. AreAmong xs ls) (sym (one_flat needed_lists q)) enough;
  paid = paid;
  rows = rows;
}

-- the lists of a pair are those that an answer needs, and behind them those of its predicates
pair_lists_are : (a b : Specifier) → pair_lists a b ≡ decided_lists a b ++ predicate_lists a b
pair_lists_are a b = sym (append_assoc (element_lists (a ∷ b ∷ [])) (pair_list a b ∷ []) (predicate_lists a b))

among_pair : (a b : Specifier) → AreAmong (decided_lists a b) (pair_lists a b)
among_pair a b =
    subst (AreAmong (decided_lists a b)) (sym (pair_lists_are a b))
    (among_front (decided_lists a b) (decided_lists a b) (predicate_lists a b) (among_self (decided_lists a b)))

-- an answered query of two types spends on the pair, if that is within the budget
spends_pair : (structures : Structures) (a b : Specifier) (budget : ℕ) (old new : Entries) (before now : ℕ) (answer : Answer)
    → IsRight structures a b budget answer → HasDone a b old new before now answer → IsPaid old new before now
    → count_rows new + before ≤ count_rows old + now
    → Spends (if_within budget (pair_cost a b) (of_pair a b)) old new before now
spends_pair structures a b budget old new before now TooLarge right done paid rows =
    rw (over budget (pair_cost a b) (of_pair a b) right) (spends_nothing old new before now done.0 done.1)
spends_pair structures a b budget old new before now Yes right done paid rows =
    rw (within budget (pair_cost a b) (of_pair a b) right.0)
    (spends_made (of_pair a b) (decided_lists a b) old new before now done (among_pair a b) (among_self (decided_lists a b)) paid rows)
spends_pair structures a b budget old new before now (No o) right done paid rows =
    rw (within budget (pair_cost a b) (of_pair a b) right.0)
    (spends_made (of_pair a b) (pair_lists a b) old new before now done (among_self (pair_lists a b)) (among_pair a b) paid rows)
spends_pair structures a b budget old new before now (Unsure o) right done paid rows =
    rw (within budget (pair_cost a b) (of_pair a b) right.0)
    (spends_made (of_pair a b) (pair_lists a b) old new before now done (among_self (pair_lists a b)) (among_pair a b) paid rows)

-- an answered query of an object spends on its type, if that is within the budget
spends_type : (structures : Structures) (o : LispObject) (s : Specifier) (budget : ℕ) (old new : Entries) (before now : ℕ)
    (answer : Belongs) → IsRightMembership structures o s budget answer → HasAsked (type_lists s) old new before now answer
    → IsPaid old new before now → count_rows new + before ≤ count_rows old + now
    → Spends (if_within budget (type_cost s) (of_type s)) old new before now
spends_type structures o s budget old new before now belongs.TooLarge right done paid rows =
    rw (over budget (type_cost s) (of_type s) right) (spends_nothing old new before now done.0 done.1)
spends_type structures o s budget old new before now belongs.Inside right done paid rows =
    rw (within budget (type_cost s) (of_type s) right.0)
    (spends_made (of_type s) (type_lists s) old new before now done (among_self (type_lists s)) (among_self (type_lists s)) paid rows)
spends_type structures o s budget old new before now belongs.Outside right done paid rows =
    rw (within budget (type_cost s) (of_type s) right.0)
    (spends_made (of_type s) (type_lists s) old new before now done (among_self (type_lists s)) (among_self (type_lists s)) paid rows)
spends_type structures o s budget old new before now belongs.Depends right done paid rows =
    rw (within budget (type_cost s) (of_type s) right.0)
    (spends_made (of_type s) (type_lists s) old new before now done (among_self (type_lists s)) (among_self (type_lists s)) paid rows)

-- the same of a call that may want memory
pub spends_pair_if : (structures : Structures) (a b : Specifier) (budget : ℕ) (old new : Entries) (before now : ℕ)
    (r : Result Answer AllocError) → IfOk r (IsRight structures a b budget) → IfOk r (HasDone a b old new before now)
    → IfOk r (λ answer. IsPaid old new before now) → count_rows new + before ≤ count_rows old + now
    → IfOk r (λ answer. Spends (if_within budget (pair_cost a b) (of_pair a b)) old new before now)
spends_pair_if structures a b budget old new before now (Ok answer) right done paid rows =
    spends_pair structures a b budget old new before now answer right done paid rows
spends_pair_if structures a b budget old new before now (Err e) right done paid rows = tt

pub spends_type_if : (structures : Structures) (o : LispObject) (s : Specifier) (budget : ℕ) (old new : Entries) (before now : ℕ)
    (r : Result Belongs AllocError) → IfOk r (IsRightMembership structures o s budget)
    → IfOk r (HasAsked (type_lists s) old new before now) → IfOk r (λ answer. IsPaid old new before now)
    → count_rows new + before ≤ count_rows old + now
    → IfOk r (λ answer. Spends (if_within budget (type_cost s) (of_type s)) old new before now)
spends_type_if structures o s budget old new before now (Ok answer) right done paid rows =
    spends_type structures o s budget old new before now answer right done paid rows
spends_type_if structures o s budget old new before now (Err e) right done paid rows = tt

-- before the first query nothing was spent
pub HaveSpent-none : (budget : ℕ) (env : Environment) (old : Entries) (before : ℕ) → HaveSpent budget env [] old old before before
HaveSpent-none budget env old before =
    record { asked = []; charged = tt; spends = spends_nothing old old before before refl refl }

-- what was spent on the queries before a place, and then on the one there
pub HaveSpent-more : (budget : ℕ) (env : Environment) (qs : List Query) (i : ℕ) (q : Query) (old mid new : Entries)
    (before between now : ℕ) → i < length qs → HaveSpent budget env (take i qs) old mid before between
    → HasSpent budget env (get_or qs i q) mid new between now → HaveSpent budget env (take (i + 1) qs) old new before now
HaveSpent-more budget env qs i q old mid new before between now inside f g =
    rw (take_more qs i q inside) (record {
      asked = f.asked ++ g.0 ∷ [];
      charged = AllZip-push (IsChargedFor budget env) (take i qs) f.asked (get_or qs i q) g.0 f.charged g.1;
      spends = subst (λ asked. Spends asked old new before now)
          (sym (flat_map-append (λ (questions : List costs.Question). questions) f.asked (g.0 ∷ [])
          ∙ ap (λ asked. all_of f.asked ++ asked) (one_flat (λ (questions : List costs.Question). questions) g.0)))
          (spends_both (all_of f.asked) g.0 old mid new before between now f.spends g.2);
    })

-- ---- what is charged for a file

-- with nothing kept before, there are no more steps than the charge
pub steps_charged : (asked : List costs.Question) (old new : Entries) (before now : ℕ) → old ≡ [] → Spends asked old new before now
    → now ≤ before + charge asked
unfolding charge
steps_charged asked old new before now none s =
    let all : total (lists new) ≡ total (walk_all s.walked []) = ap total (s.kept ∙ ap (λ e. walk_all s.walked (lists e)) none) in
    let start : total (lists old) ≡ 0 = ap (λ e. total (lists e)) none in
    omega (arith, s.paid, all, start, total_within s.walked (flat_map lists_of asked) s.no_more)

-- and each list that an answer needs is kept
pub needed_kept : (asked : List costs.Question) (old new : Entries) (before now : ℕ) → old ≡ [] → Spends asked old new before now
    → fewest asked ≤ length (lists new)
unfolding fewest
needed_kept asked old new before now none s =
    let all : length (lists new) ≡ length (walk_all s.walked []) = ap length (s.kept ∙ ap (λ e. walk_all s.walked (lists e)) none) in
    omega (arith, all, length_within (flat_map needed_lists asked) s.walked s.no_fewer)

-- and no more rows than steps
pub rows_made : (asked : List costs.Question) (old new : Entries) (before now : ℕ) → old ≡ [] → Spends asked old new before now
    → count_rows new + before ≤ now
rows_made asked old new before now none s = omega (arith, s.rows, ap count_rows none)

-- what was spent on all queries of a file is charged
AreCharged-from_spent : (budget : ℕ) (env : Environment) (qs : List Query) (old new : Entries) (before now : ℕ) → old ≡ []
    → qs ≡ env.queries → HaveSpent budget env qs old new before now → AreCharged budget env before now
AreCharged-from_spent budget env qs old new before now none all s = record {
  asked = s.asked;
  are = subst (λ queries. AllZip (IsChargedFor budget env) queries s.asked) all s.charged;
  steps = steps_charged (all_of s.asked) old new before now none s.spends;
}

-- the same of a call that may want memory, under the budget of the decider that was asked
pub charged_if : {X : Type 0} (budget : ℕ) (env : Environment) (qs : List Query) (old new : Entries) (before now : ℕ)
    {asked : ℕ} (r : Result X AllocError) → old ≡ [] → qs ≡ env.queries → asked ≡ budget
    → IfOk r (λ x. HaveSpent asked env qs old new before now) → IfOk r (λ x. AreCharged budget env before now)
charged_if budget env qs old new before now (Ok x) none all is s =
    AreCharged-from_spent budget env qs old new before now none all
    (subst (λ n. HaveSpent n env qs old new before now) is s)
charged_if budget env qs old new before now (Err e) none all is s = tt
