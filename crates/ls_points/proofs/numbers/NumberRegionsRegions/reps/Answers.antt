use Rattle.std.proofs.Common.{◌≡◌, ◌≤◌, ◌+◌, ◌*◌, [], ◌++◌, map, length, ap, subst, sym, ◌∙◌}
use Rattle.std.specs.List.Sorted.{IsPermutation}
use Rattle.ls_object.specs.declared.rat.Rat.{Rat}
use Rattle.ls_object.specs.Universe.{node, number}
use Rattle.ls_object.specs.Meaning.{lisp_object}
use Rattle.ls_points.specs.steps.Numbers.{ends_of, AreRising, AreStandIns}
use Rattle.ls_points.proofs.EndLemmas.{sorted_rise}
use Rattle.ls_points.proofs.NumberLaw.{number_law, number_objects, number_plains, number_count}
use Rattle.ls_points.proofs.numbers.NumberRegionsRegions.reps.Goals as goal

pub stand_ins-requires : goal.stand_ins-requires
stand_ins-requires c =
    let atoms = c.args.atoms.now in
    let ends : c.push_ends.new.ends.items ≡ ends_of c.args.atoms.now = c.in_ok-push_ends.ensures ∙ ap (λ xs. xs ++ ends_of c.as_slice.result.now) c.new-ends.ensures.items ∙ ap ends_of c.as_slice.ensures in
    let same = subst (λ xs. IsPermutation xs c.sort.new.ends.items) ends c.in_ok-sort.ensures.same in
    subst AreRising (sym c.as_slice-2.ensures.value) (sorted_rise atoms c.sort.new.ends.items c.requires same c.in_ok-sort.ensures.sorted)

pub returns : goal.returns
returns c =
    let atoms = c.args.atoms.now in
    let sorted = c.sort.new.ends.items in
    let numbers = c.in_ok-numbers.numbers.items in
    let answered = c.push_numbers.new.out in
    let ends : c.push_ends.new.ends.items ≡ ends_of c.args.atoms.now = c.in_ok-push_ends.ensures ∙ ap (λ xs. xs ++ ends_of c.as_slice.result.now) c.new-ends.ensures.items ∙ ap ends_of c.as_slice.ensures in
    let same = subst (λ xs. IsPermutation xs c.sort.new.ends.items) ends c.in_ok-sort.ensures.same in
    let right = subst (λ xs. AreStandIns xs c.in_ok-numbers.numbers.items) c.as_slice-2.ensures.value c.in_ok-numbers.ensures.law in
    let few = subst (λ xs. length c.in_ok-numbers.numbers.items ≤ 2 + 3 * length xs) c.as_slice-2.ensures.value c.in_ok-numbers.ensures.count in
    let are =
    c.in_ok-push_numbers.ensures ∙ ap (λ os. map lisp_object os ++ map (λ (r : Rat). node [] (number r.num r.den)) c.as_slice-3.result.now) c.new-out.ensures
    ∙ ap (map (λ (r : Rat). node [] (number r.num r.den))) c.as_slice-3.ensures.value in
    record {
      plain = number_plains atoms sorted numbers c.requires same right few answered are;
      objects = λ structures over. number_objects atoms sorted numbers c.requires same right few answered are structures;
      law = λ structures over. number_law atoms sorted numbers c.requires same right few answered are structures;
      count = number_count atoms sorted numbers c.requires same right few answered are;
    }
