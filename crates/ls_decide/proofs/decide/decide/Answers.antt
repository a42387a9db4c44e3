use Rattle.std.proofs.Common.{◌∷◌, [], ◌∙◌, List, length, sym, subst, All}
use Rattle.std.specs.List.{sum_by}
use Rattle.ls_object.specs.Universe.{Structures}
use Rattle.ls_spec.specs.Specifier.{Specifier}
use Rattle.ls_spec.specs.Meaning.{specifier}
use Rattle.ls_spec.specs.Fits.{Fits}
use Rattle.ls_lists.specs.Walks.{sum}
use Rattle.ls_intern.specs.Places.{specifiers_at, AllBelow}
use Rattle.ls_cells.specs.Codes.{IsKnown}
use Rattle.ls_cells.specs.Kept.{Entries, structures_in, specifiers_in, codes_in, entries_in}
use Rattle.ls_decide.specs.Answers.{TellsCost}
use Rattle.ls_decide.specs.Sessions.{Works, HasMade, IsPaid}
use Rattle.ls_decide.specs.steps.Comparing.{IsRightWithin}
use Rattle.ls_decide.specs.steps.Learning.{AreInnerFirst}
use Rattle.ls_decide.specs.steps.Pairs.{first_of, second_of, ArePairsOf, compared_lists, lists_behind}
use Rattle.ls_decide.proofs.BudgetLemmas.{lists_told, lists_pass, elements_pass, all_within}
use Rattle.ls_decide.proofs.InternLemmas.{both_named, pairs_grown, pairs_own, pair_ready}
use Rattle.ls_decide.proofs.LearnLemmas.{elements_fit, elements_inner, both_coded}
use Rattle.ls_decide.proofs.PairLemmas.{IsRight-within}
use Rattle.ls_decide.proofs.DecidedLemmas.{when_not, when_so, below_lent, works_learnt, works_whole, made_whole, cost_decided, elements_listed}
use Rattle.ls_decide.proofs.WorkLemmas.{Works-none, works_then, HasDone-made, IsPaid-same, IsPaid-made, IsPaid-both}
use Rattle.ls_decide.proofs.decide.decide.Goals as goal

pub returns-in_err-pairs-clause-works : goal.returns-in_err-pairs-clause-works
returns-in_err-pairs-clause-works g c = works_then _ (entries_in c.args.store.now) _ (entries_in c.intern_pairs.new.store) _ _ c.intern_pairs.ensures.kept (Works-none _ _ _)

pub returns-in_err-own-clause-works : goal.returns-in_err-own-clause-works
returns-in_err-own-clause-works g c = works_then _ (entries_in c.args.store.now) _ (entries_in c.intern_pairs.new.store) _ _ c.intern_pairs.ensures.kept (Works-none _ _ _)

pub returns-in_default-clause-works : goal.returns-in_default-clause-works
returns-in_default-clause-works g c = works_then _ (entries_in c.args.store.now) _ (entries_in c.intern_pairs.new.store) _ _ c.intern_pairs.ensures.kept (Works-none _ _ _)

pub returns-in_err-elements-clause-works : goal.returns-in_err-elements-clause-works
returns-in_err-elements-clause-works g c = works_then _ (entries_in c.args.store.now) _ (entries_in c.intern_pairs.new.store) _ _ c.intern_pairs.ensures.kept (Works-none _ _ _)

pub cost_of_pairs-requires-clause-pairs : goal.cost_of_pairs-requires-clause-pairs
cost_of_pairs-requires-clause-pairs g c =
    let a = specifier c.args.a.now in
    let b = specifier c.args.b.now in
    let known = specifiers_in c.intern_pairs.new.store in
    let pairs = c.in_ok-pairs.pairs in
    let are = c.in_ok-pairs.ensures.are in
    subst (λ (k : List Specifier). ArePairsOf k pairs (first_of k pairs.own) (second_of k pairs.own)) (sym c.table.ensures.specifiers) (pairs_own known pairs a b are)

-- the lists of the pair and of its bounds cost more than the budget
pub returns-in_default-clause-right : goal.returns-in_default-clause-right
returns-in_default-clause-right g c =
    let a = specifier c.args.a.now in
    let b = specifier c.args.b.now in
    let known = specifiers_in c.intern_pairs.new.store in
    let pairs = c.in_ok-pairs.pairs in
    let are = c.in_ok-pairs.ensures.are in
    let told = lists_told c.table.result.now known pairs.own a b c.args.budget c.in_ok-own.field-0 are.own c.table.ensures.specifiers c.in_ok-own.ensures in
    lists_pass a b c.args.budget (subst (TellsCost c.args.budget (sum_by sum (compared_lists a b))) c.in_default.is told)

pub elements_of-requires : goal.elements_of-requires
elements_of-requires g c =
    let a = specifier c.args.a.now in
    let b = specifier c.args.b.now in
    let known = specifiers_in c.intern_pairs.new.store in
    let pairs = c.in_ok-pairs.pairs in
    let are = c.in_ok-pairs.ensures.are in
    subst (λ (k : List Specifier). AllBelow (length k) (pairs.own.first ∷ pairs.own.second ∷ [])) (sym c.table-2.ensures.specifiers) (are.own.first_within, (are.own.second_within, tt))

pub learn_within-requires-clause-elements : goal.learn_within-requires-clause-elements
learn_within-requires-clause-elements g c =
    let a = specifier c.args.a.now in
    let b = specifier c.args.b.now in
    let known = specifiers_in c.intern_pairs.new.store in
    let pairs = c.in_ok-pairs.pairs in
    let are = c.in_ok-pairs.ensures.are in
    below_lent c.table-2.result.now known c.as_slice.result.now _ c.table-2.ensures.specifiers c.as_slice.ensures c.in_ok-elements.ensures.below

pub learn_within-requires-clause-fit : goal.learn_within-requires-clause-fit
learn_within-requires-clause-fit g c =
    let a = specifier c.args.a.now in
    let b = specifier c.args.b.now in
    let known = specifiers_in c.intern_pairs.new.store in
    let pairs = c.in_ok-pairs.pairs in
    let are = c.in_ok-pairs.ensures.are in
    let these = elements_listed c.table-2.result.now known c.as_slice.result.now _ pairs.own a b are.own c.table-2.ensures.specifiers c.as_slice.ensures c.in_ok-elements.ensures.are in
    subst (λ (s : Structures). All (Fits s) (specifiers_at known c.as_slice.result.now)) (sym c.in_ok-pairs.ensures.structures)
    (subst (λ (l : List Specifier). All (Fits (structures_in c.args.store.now)) l) (sym these) (elements_fit (structures_in c.args.store.now) (a ∷ b ∷ []) (c.requires.first, (c.requires.second, tt))))

pub learn_within-requires-clause-inner : goal.learn_within-requires-clause-inner
learn_within-requires-clause-inner g c =
    let a = specifier c.args.a.now in
    let b = specifier c.args.b.now in
    let known = specifiers_in c.intern_pairs.new.store in
    let pairs = c.in_ok-pairs.pairs in
    let are = c.in_ok-pairs.ensures.are in
    let these = elements_listed c.table-2.result.now known c.as_slice.result.now _ pairs.own a b are.own c.table-2.ensures.specifiers c.as_slice.ensures c.in_ok-elements.ensures.are in
    subst AreInnerFirst (sym these) (elements_inner (a ∷ b ∷ []))

pub returns-in_err-learn_within-clause-works : goal.returns-in_err-learn_within-clause-works
returns-in_err-learn_within-clause-works g c =
    let a = specifier c.args.a.now in
    let b = specifier c.args.b.now in
    let known = specifiers_in c.intern_pairs.new.store in
    let pairs = c.in_ok-pairs.pairs in
    let are = c.in_ok-pairs.ensures.are in
    let these = elements_listed c.table-2.result.now known c.as_slice.result.now _ pairs.own a b are.own c.table-2.ensures.specifiers c.as_slice.ensures c.in_ok-elements.ensures.are in
    works_learnt a b _ these _ _ _ _ _ c.in_ok-pairs.ensures.kept c.learn_within.ensures.works

pub returns-then-not-branch-clause-works : goal.returns-then-not-branch-clause-works
returns-then-not-branch-clause-works g c =
    let a = specifier c.args.a.now in
    let b = specifier c.args.b.now in
    let known = specifiers_in c.intern_pairs.new.store in
    let pairs = c.in_ok-pairs.pairs in
    let are = c.in_ok-pairs.ensures.are in
    let these = elements_listed c.table-2.result.now known c.as_slice.result.now _ pairs.own a b are.own c.table-2.ensures.specifiers c.as_slice.ensures c.in_ok-elements.ensures.are in
    works_learnt a b _ these _ _ _ _ _ c.in_ok-pairs.ensures.kept c.learn_within.ensures.works

pub returns-in_err-learn_within-clause-cost : goal.returns-in_err-learn_within-clause-cost
returns-in_err-learn_within-clause-cost g c =
    let a = specifier c.args.a.now in
    let b = specifier c.args.b.now in
    let known = specifiers_in c.intern_pairs.new.store in
    let pairs = c.in_ok-pairs.pairs in
    let are = c.in_ok-pairs.ensures.are in
    let these = elements_listed c.table-2.result.now known c.as_slice.result.now _ pairs.own a b are.own c.table-2.ensures.specifiers c.as_slice.ensures c.in_ok-elements.ensures.are in
    cost_decided a b _ _ _ _ c.table-closed.ensures.closed (works_learnt a b _ these _ _ _ _ _ c.in_ok-pairs.ensures.kept c.learn_within.ensures.works)

-- the element types cost more than what these leave of it
pub returns-then-not-branch-clause-right : goal.returns-then-not-branch-clause-right
returns-then-not-branch-clause-right g c =
    let a = specifier c.args.a.now in
    let b = specifier c.args.b.now in
    let known = specifiers_in c.intern_pairs.new.store in
    let pairs = c.in_ok-pairs.pairs in
    let are = c.in_ok-pairs.ensures.are in
    let these = elements_listed c.table-2.result.now known c.as_slice.result.now _ pairs.own a b are.own c.table-2.ensures.specifiers c.as_slice.ensures c.in_ok-elements.ensures.are in
    let told = lists_told c.table.result.now known pairs.own a b c.args.budget c.in_ok-own.field-0 are.own c.table.ensures.specifiers c.in_ok-own.ensures in
    let passed = when_not _ _ c.in_ok-learn_within.field-0 c.in_ok-learn_within.ensures.done c.if-not-branch.true in
    elements_pass a b c.args.budget c.in-Some.own _ these (subst (TellsCost c.args.budget (sum_by sum (compared_lists a b))) c.in-Some.is told) passed.passes

pub decide_by_pairs-requires-clause-pairs : goal.decide_by_pairs-requires-clause-pairs
decide_by_pairs-requires-clause-pairs g c =
    let a = specifier c.args.a.now in
    let b = specifier c.args.b.now in
    let known = specifiers_in c.intern_pairs.new.store in
    let pairs = c.in_ok-pairs.pairs in
    let are = c.in_ok-pairs.ensures.are in
    let grown = specifiers_in c.learn_within.new.store in
    let now = pairs_grown known grown pairs a b c.learn_within.ensures.grows are in
    pairs_own grown pairs a b now

pub decide_by_pairs-requires-clause-first_fits : goal.decide_by_pairs-requires-clause-first_fits
decide_by_pairs-requires-clause-first_fits g c =
    let a = specifier c.args.a.now in
    let b = specifier c.args.b.now in
    let known = specifiers_in c.intern_pairs.new.store in
    let pairs = c.in_ok-pairs.pairs in
    let are = c.in_ok-pairs.ensures.are in
    let these = elements_listed c.table-2.result.now known c.as_slice.result.now _ pairs.own a b are.own c.table-2.ensures.specifiers c.as_slice.ensures c.in_ok-elements.ensures.are in
    let grown = specifiers_in c.learn_within.new.store in
    let now = pairs_grown known grown pairs a b c.learn_within.ensures.grows are in
    let learnt = when_so _ _ c.in_ok-learn_within.field-0 c.in_ok-learn_within.ensures.done c.if-not-branch.false in
    let coded = both_coded (codes_in c.learn_within.new.store) a b (subst (λ (l : List Specifier). All (IsKnown (codes_in c.learn_within.new.store)) l) these learnt.known) in
    let structures = c.learn_within.ensures.structures ∙ c.in_ok-pairs.ensures.structures in
    (pair_ready (structures_in c.learn_within.new.store) (codes_in c.learn_within.new.store) grown pairs.own a b now.own (subst (λ (s : Structures). Fits s a) (sym structures) c.requires.first)
    (subst (λ (s : Structures). Fits s b) (sym structures) c.requires.second) coded.0 coded.1).first_fits

pub decide_by_pairs-requires-clause-second_fits : goal.decide_by_pairs-requires-clause-second_fits
decide_by_pairs-requires-clause-second_fits g c =
    let a = specifier c.args.a.now in
    let b = specifier c.args.b.now in
    let known = specifiers_in c.intern_pairs.new.store in
    let pairs = c.in_ok-pairs.pairs in
    let are = c.in_ok-pairs.ensures.are in
    let these = elements_listed c.table-2.result.now known c.as_slice.result.now _ pairs.own a b are.own c.table-2.ensures.specifiers c.as_slice.ensures c.in_ok-elements.ensures.are in
    let grown = specifiers_in c.learn_within.new.store in
    let now = pairs_grown known grown pairs a b c.learn_within.ensures.grows are in
    let learnt = when_so _ _ c.in_ok-learn_within.field-0 c.in_ok-learn_within.ensures.done c.if-not-branch.false in
    let coded = both_coded (codes_in c.learn_within.new.store) a b (subst (λ (l : List Specifier). All (IsKnown (codes_in c.learn_within.new.store)) l) these learnt.known) in
    let structures = c.learn_within.ensures.structures ∙ c.in_ok-pairs.ensures.structures in
    (pair_ready (structures_in c.learn_within.new.store) (codes_in c.learn_within.new.store) grown pairs.own a b now.own (subst (λ (s : Structures). Fits s a) (sym structures) c.requires.first)
    (subst (λ (s : Structures). Fits s b) (sym structures) c.requires.second) coded.0 coded.1).second_fits

pub decide_by_pairs-requires-clause-first_learnt : goal.decide_by_pairs-requires-clause-first_learnt
decide_by_pairs-requires-clause-first_learnt g c =
    let a = specifier c.args.a.now in
    let b = specifier c.args.b.now in
    let known = specifiers_in c.intern_pairs.new.store in
    let pairs = c.in_ok-pairs.pairs in
    let are = c.in_ok-pairs.ensures.are in
    let these = elements_listed c.table-2.result.now known c.as_slice.result.now _ pairs.own a b are.own c.table-2.ensures.specifiers c.as_slice.ensures c.in_ok-elements.ensures.are in
    let grown = specifiers_in c.learn_within.new.store in
    let now = pairs_grown known grown pairs a b c.learn_within.ensures.grows are in
    let learnt = when_so _ _ c.in_ok-learn_within.field-0 c.in_ok-learn_within.ensures.done c.if-not-branch.false in
    let coded = both_coded (codes_in c.learn_within.new.store) a b (subst (λ (l : List Specifier). All (IsKnown (codes_in c.learn_within.new.store)) l) these learnt.known) in
    let structures = c.learn_within.ensures.structures ∙ c.in_ok-pairs.ensures.structures in
    (pair_ready (structures_in c.learn_within.new.store) (codes_in c.learn_within.new.store) grown pairs.own a b now.own (subst (λ (s : Structures). Fits s a) (sym structures) c.requires.first)
    (subst (λ (s : Structures). Fits s b) (sym structures) c.requires.second) coded.0 coded.1).first_learnt

pub decide_by_pairs-requires-clause-second_learnt : goal.decide_by_pairs-requires-clause-second_learnt
decide_by_pairs-requires-clause-second_learnt g c =
    let a = specifier c.args.a.now in
    let b = specifier c.args.b.now in
    let known = specifiers_in c.intern_pairs.new.store in
    let pairs = c.in_ok-pairs.pairs in
    let are = c.in_ok-pairs.ensures.are in
    let these = elements_listed c.table-2.result.now known c.as_slice.result.now _ pairs.own a b are.own c.table-2.ensures.specifiers c.as_slice.ensures c.in_ok-elements.ensures.are in
    let grown = specifiers_in c.learn_within.new.store in
    let now = pairs_grown known grown pairs a b c.learn_within.ensures.grows are in
    let learnt = when_so _ _ c.in_ok-learn_within.field-0 c.in_ok-learn_within.ensures.done c.if-not-branch.false in
    let coded = both_coded (codes_in c.learn_within.new.store) a b (subst (λ (l : List Specifier). All (IsKnown (codes_in c.learn_within.new.store)) l) these learnt.known) in
    let structures = c.learn_within.ensures.structures ∙ c.in_ok-pairs.ensures.structures in
    (pair_ready (structures_in c.learn_within.new.store) (codes_in c.learn_within.new.store) grown pairs.own a b now.own (subst (λ (s : Structures). Fits s a) (sym structures) c.requires.first)
    (subst (λ (s : Structures). Fits s b) (sym structures) c.requires.second) coded.0 coded.1).second_learnt

pub returns-in_err-decide_by_pairs-clause-works : goal.returns-in_err-decide_by_pairs-clause-works
returns-in_err-decide_by_pairs-clause-works g c =
    let a = specifier c.args.a.now in
    let b = specifier c.args.b.now in
    let known = specifiers_in c.intern_pairs.new.store in
    let pairs = c.in_ok-pairs.pairs in
    let are = c.in_ok-pairs.ensures.are in
    let these = elements_listed c.table-2.result.now known c.as_slice.result.now _ pairs.own a b are.own c.table-2.ensures.specifiers c.as_slice.ensures c.in_ok-elements.ensures.are in
    let grown = specifiers_in c.learn_within.new.store in
    let now = pairs_grown known grown pairs a b c.learn_within.ensures.grows are in
    let learnt = when_so _ _ c.in_ok-learn_within.field-0 c.in_ok-learn_within.ensures.done c.if-not-branch.false in
    let one = both_named (λ s t. Works (compared_lists s t) (entries_in c.learn_within.new.store) (entries_in c.decide_by_pairs.new.store) c.learn_within.new.steps c.decide_by_pairs.new.steps) _ _ a b now.own.first_is now.own.second_is
    c.decide_by_pairs.ensures.works in
    let works = works_whole a b _ these _ _ _ _ _ _ _ c.in_ok-pairs.ensures.kept c.learn_within.ensures.works learnt.made one in
    works

pub returns-in_err-decide_by_pairs-clause-cost : goal.returns-in_err-decide_by_pairs-clause-cost
returns-in_err-decide_by_pairs-clause-cost g c =
    let a = specifier c.args.a.now in
    let b = specifier c.args.b.now in
    let known = specifiers_in c.intern_pairs.new.store in
    let pairs = c.in_ok-pairs.pairs in
    let are = c.in_ok-pairs.ensures.are in
    let these = elements_listed c.table-2.result.now known c.as_slice.result.now _ pairs.own a b are.own c.table-2.ensures.specifiers c.as_slice.ensures c.in_ok-elements.ensures.are in
    let grown = specifiers_in c.learn_within.new.store in
    let now = pairs_grown known grown pairs a b c.learn_within.ensures.grows are in
    let learnt = when_so _ _ c.in_ok-learn_within.field-0 c.in_ok-learn_within.ensures.done c.if-not-branch.false in
    let one = both_named (λ s t. Works (compared_lists s t) (entries_in c.learn_within.new.store) (entries_in c.decide_by_pairs.new.store) c.learn_within.new.steps c.decide_by_pairs.new.steps) _ _ a b now.own.first_is now.own.second_is
    c.decide_by_pairs.ensures.works in
    let works = works_whole a b _ these _ _ _ _ _ _ _ c.in_ok-pairs.ensures.kept c.learn_within.ensures.works learnt.made one in
    cost_decided a b _ _ _ _ c.table-closed.ensures.closed works

pub returns-clause-works : goal.returns-clause-works
returns-clause-works g c =
    let a = specifier c.args.a.now in
    let b = specifier c.args.b.now in
    let known = specifiers_in c.intern_pairs.new.store in
    let pairs = c.in_ok-pairs.pairs in
    let are = c.in_ok-pairs.ensures.are in
    let these = elements_listed c.table-2.result.now known c.as_slice.result.now _ pairs.own a b are.own c.table-2.ensures.specifiers c.as_slice.ensures c.in_ok-elements.ensures.are in
    let grown = specifiers_in c.learn_within.new.store in
    let now = pairs_grown known grown pairs a b c.learn_within.ensures.grows are in
    let learnt = when_so _ _ c.in_ok-learn_within.field-0 c.in_ok-learn_within.ensures.done c.if-not-branch.false in
    let one = both_named (λ s t. Works (compared_lists s t) (entries_in c.learn_within.new.store) (entries_in c.decide_by_pairs.new.store) c.learn_within.new.steps c.decide_by_pairs.new.steps) _ _ a b now.own.first_is now.own.second_is
    c.decide_by_pairs.ensures.works in
    let works = works_whole a b _ these _ _ _ _ _ _ _ c.in_ok-pairs.ensures.kept c.learn_within.ensures.works learnt.made one in
    works

pub returns-clause-cost : goal.returns-clause-cost
returns-clause-cost g c =
    let a = specifier c.args.a.now in
    let b = specifier c.args.b.now in
    let known = specifiers_in c.intern_pairs.new.store in
    let pairs = c.in_ok-pairs.pairs in
    let are = c.in_ok-pairs.ensures.are in
    let these = elements_listed c.table-2.result.now known c.as_slice.result.now _ pairs.own a b are.own c.table-2.ensures.specifiers c.as_slice.ensures c.in_ok-elements.ensures.are in
    let grown = specifiers_in c.learn_within.new.store in
    let now = pairs_grown known grown pairs a b c.learn_within.ensures.grows are in
    let learnt = when_so _ _ c.in_ok-learn_within.field-0 c.in_ok-learn_within.ensures.done c.if-not-branch.false in
    let one = both_named (λ s t. Works (compared_lists s t) (entries_in c.learn_within.new.store) (entries_in c.decide_by_pairs.new.store) c.learn_within.new.steps c.decide_by_pairs.new.steps) _ _ a b now.own.first_is now.own.second_is
    c.decide_by_pairs.ensures.works in
    let works = works_whole a b _ these _ _ _ _ _ _ _ c.in_ok-pairs.ensures.kept c.learn_within.ensures.works learnt.made one in
    cost_decided a b _ _ _ _ c.table-closed.ensures.closed works

pub returns-clause-right : goal.returns-clause-right
returns-clause-right g c =
    let a = specifier c.args.a.now in
    let b = specifier c.args.b.now in
    let known = specifiers_in c.intern_pairs.new.store in
    let pairs = c.in_ok-pairs.pairs in
    let are = c.in_ok-pairs.ensures.are in
    let these = elements_listed c.table-2.result.now known c.as_slice.result.now _ pairs.own a b are.own c.table-2.ensures.specifiers c.as_slice.ensures c.in_ok-elements.ensures.are in
    let grown = specifiers_in c.learn_within.new.store in
    let now = pairs_grown known grown pairs a b c.learn_within.ensures.grows are in
    let learnt = when_so _ _ c.in_ok-learn_within.field-0 c.in_ok-learn_within.ensures.done c.if-not-branch.false in
    let told = lists_told c.table.result.now known pairs.own a b c.args.budget c.in_ok-own.field-0 are.own c.table.ensures.specifiers c.in_ok-own.ensures in
    let answer = c.in_ok-decide_by_pairs.field-0 in
    let structures = c.learn_within.ensures.structures ∙ c.in_ok-pairs.ensures.structures in
    let right = both_named (λ s t. IsRightWithin (structures_in c.args.store.now) s t answer) _ _ a b now.own.first_is now.own.second_is
    (subst (λ (s : Structures). IsRightWithin s (first_of grown pairs.own) (second_of grown pairs.own) answer) structures c.in_ok-decide_by_pairs.ensures.right) in
    IsRight-within (structures_in c.args.store.now) a b c.args.budget answer
    (all_within a b c.args.budget c.in-Some.own _ these (subst (TellsCost c.args.budget (sum_by sum (compared_lists a b))) c.in-Some.is told) learnt.within) right

pub returns-clause-done : goal.returns-clause-done
returns-clause-done g c =
    let a = specifier c.args.a.now in
    let b = specifier c.args.b.now in
    let known = specifiers_in c.intern_pairs.new.store in
    let pairs = c.in_ok-pairs.pairs in
    let are = c.in_ok-pairs.ensures.are in
    let these = elements_listed c.table-2.result.now known c.as_slice.result.now _ pairs.own a b are.own c.table-2.ensures.specifiers c.as_slice.ensures c.in_ok-elements.ensures.are in
    let grown = specifiers_in c.learn_within.new.store in
    let now = pairs_grown known grown pairs a b c.learn_within.ensures.grows are in
    let learnt = when_so _ _ c.in_ok-learn_within.field-0 c.in_ok-learn_within.ensures.done c.if-not-branch.false in
    let answer = c.in_ok-decide_by_pairs.field-0 in
    let structures = c.learn_within.ensures.structures ∙ c.in_ok-pairs.ensures.structures in
    let right = both_named (λ s t. IsRightWithin (structures_in c.args.store.now) s t answer) _ _ a b now.own.first_is now.own.second_is
    (subst (λ (s : Structures). IsRightWithin s (first_of grown pairs.own) (second_of grown pairs.own) answer) structures c.in_ok-decide_by_pairs.ensures.right) in
    let made = both_named (λ s t. HasMade (lists_behind s t answer) (entries_in c.learn_within.new.store) (entries_in c.decide_by_pairs.new.store)) _ _ a b now.own.first_is now.own.second_is
    c.in_ok-decide_by_pairs.ensures.done in
    HasDone-made (structures_in c.args.store.now) a b _ _ _ _ answer right (made_whole a b _ these (lists_behind a b answer) _ _ _ _ c.in_ok-pairs.ensures.kept learnt.made c.decide_by_pairs.ensures.works.grows made)

pub returns-clause-paid : goal.returns-clause-paid
returns-clause-paid g c =
    let learnt = when_so _ _ c.in_ok-learn_within.field-0 c.in_ok-learn_within.ensures.done c.if-not-branch.false in
    let old = entries_in c.intern_pairs.new.store in
    let mid = entries_in c.learn_within.new.store in
    let new = entries_in c.decide_by_pairs.new.store in
    let before = c.args.steps.now in
    let between = c.learn_within.new.steps in
    let now = c.decide_by_pairs.new.steps in
    subst (λ (es : Entries). IsPaid es new before now) c.in_ok-pairs.ensures.kept
    (IsPaid-both old mid new before between now (IsPaid-made _ old mid before between c.learn_within.ensures.works learnt.made) c.in_ok-decide_by_pairs.ensures.paid)

pub returns-then-not-branch-clause-paid : goal.returns-then-not-branch-clause-paid
returns-then-not-branch-clause-paid g c =
    let passed = when_not _ _ c.in_ok-learn_within.field-0 c.in_ok-learn_within.ensures.done c.if-not-branch.true in
    IsPaid-same (entries_in c.args.store.now) _ _ _ (passed.same ∙ c.in_ok-pairs.ensures.kept) passed.still
