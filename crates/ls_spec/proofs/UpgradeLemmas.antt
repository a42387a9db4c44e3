-- Upgrading is monotone.
use Rattle.std.proofs.Common.{ℕ, ◌≡◌, ◌<◌, ◌≤◌, subst, sym, arith}
use Rattle.ls_object.specs.Universe.{LispObject, Structures, IsObject}
use Rattle.ls_object.specs.Table.{Holds}
use Rattle.ls_tables.specs.steps.Meeting.{meeting_place}
use Rattle.ls_tables.proofs.TableLemmas.{meeting_in_table, is_meeting, ordered}
use Rattle.ls_spec.specs.Membership.{IsFirstHolding}

-- two places are equal
equal_places : (k c : ℕ) → k ≤ c → (k < c → ⊥) → k ≡ c
equal_places k c l h = omega arith

-- the first entry that holds all objects of a set lies within that of a greater set: what both entries hold is an
-- entry that holds all objects of the lesser set, and stands no later than its first
pub first_within : (structures : Structures) (P Q : LispObject → Type 0) (c d : ℕ) → IsFirstHolding structures P c → IsFirstHolding structures Q d
    → ((o : LispObject) → IsObject structures o → P o → Q o) → (o : LispObject) → Holds c o → Holds d o
first_within structures P Q c d p q h o held =
    let both = is_meeting c d p.in_table q.in_table in
    let not_before : meeting_place c d < c → ⊥ = λ l. p.first (meeting_place c d) l (λ x is in_p. (both x).1 (p.holds x is in_p, q.holds x is (h x is in_p))) in
    let no_later : meeting_place c d ≤ c = ordered structures (meeting_place c d) c (meeting_in_table c d p.in_table q.in_table) (λ x is k. ((both x).0 k).0) in
    let same : meeting_place c d ≡ c = equal_places (meeting_place c d) c no_later not_before in
    ((both o).0 (subst (λ k. Holds k o) (sym same) held)).1
