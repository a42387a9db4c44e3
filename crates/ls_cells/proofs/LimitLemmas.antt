-- The objects that stand for the classes are among the candidates.
use Rattle.std.proofs.Common.{ℕ, ◌+◌, ◌*◌, ◌≤◌, arith, List, [], ◌∷◌, map, Bool, if◌then◌else◌}
use Rattle.std.specs.List.{count_by}
use Rattle.std.proofs.lemmas.List.Sums.{sum_by-cons}
use Rattle.ls_spec.specs.declared.spec.Spec.{Spec}
use Rattle.ls_spec.specs.declared.spec.Point.TheVariants as point
use Rattle.ls_spec.specs.Specifier.{Specifier, eql_to, range_of, kind_of, structure_under, any_structure}
use Rattle.ls_spec.specs.Meaning.{specifier}
use Rattle.ls_points.specs.Classes as class
use Rattle.ls_points.specs.Members.{number_limit, character_limit, symbol_limit, kind_limit, structure_limit}
use Rattle.ls_lists.specs.Candidates.{is_range, is_single, is_structure, is_kind, arrays, candidates_of_atoms}

-- whether an atom passes a test, as a number
abbrev one : Bool → ℕ
one b = if b then 1 else 0

-- one atom
atom_counts : (s : Specifier) → 6 * one (class.is_range s) + 3 * one (class.is_number_point s) + one (class.is_character_point s) + one (class.is_symbol_point s) + one (class.is_kind s) + one (class.is_structure_atom s)
    ≤ 6 * one (is_range s) + 3 * one (is_single s) + one (is_structure s) + one (is_kind s)
atom_counts (eql_to (point.Number r)) = omega arith
atom_counts (eql_to (point.Char c)) = omega arith
atom_counts (eql_to (point.Sym s)) = omega arith
atom_counts (range_of k lo hi) = omega arith
atom_counts (kind_of k) = omega arith
atom_counts (structure_under name) = omega arith
atom_counts any_structure = omega arith
atom_counts _ = omega arith

-- a list of them
counts : (l : List Specifier)
    → 6 * class.count_atoms class.is_range l + 3 * class.count_atoms class.is_number_point l + class.count_atoms class.is_character_point l + class.count_atoms class.is_symbol_point l + class.count_atoms class.is_kind l + class.count_atoms class.is_structure_atom l
    ≤ 6 * count_by is_range l + 3 * count_by is_single l + count_by is_structure l + count_by is_kind l
counts [] = omega arith
counts (s ∷ l) =
    let e = counts l in
    let f = atom_counts s in
    let a = sum_by-cons (λ x. one (is_range x)) s l in
    let b = sum_by-cons (λ x. one (is_single x)) s l in
    let c = sum_by-cons (λ x. one (is_structure x)) s l in
    let d = sum_by-cons (λ x. one (is_kind x)) s l in
    omega arith

-- all classes together, and the arrays
pub limits_are : (atoms : List Spec) → number_limit atoms + character_limit atoms + symbol_limit atoms + kind_limit atoms + structure_limit atoms + arrays (map specifier atoms) ≤ candidates_of_atoms (map specifier atoms)
unfolding candidates_of_atoms
limits_are atoms = let e = counts (map specifier atoms) in omega arith
