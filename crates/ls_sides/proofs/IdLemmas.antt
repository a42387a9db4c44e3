-- The look-up of a number.
use Rattle.std.proofs.Common.{ℕ, zero, suc, ◌≡◌, ◌∙◌, ◌<◌, sym, ap, arith, List, [], ◌∷◌, length, get_or}
use Rattle.std.specs.Prelude.{Option, Some, None, MatchOption, Contains, slice_get, nat_eq}
use Rattle.std.specs.Option.{is_some}
use Rattle.std.specs.List.{list_any, position}
use Rattle.std.specs.Bool.{Decides}
use Rattle.std.proofs.lemmas.List.Quantifiers.{position-Some}
use Rattle.std.proofs.lemmas.Map.Made.{is_member-Decides}

nat_eq-Decides : (a b : ℕ) → Decides (nat_eq a b) (a ≡ b)
nat_eq-Decides a b = (λ e. grind arith, λ e. grind arith)

among : (keys : List ℕ) (n : ℕ) → Decides (list_any (nat_eq n) keys) (Contains keys n)
among = is_member-Decides nat_eq-Decides

-- the place that a look-up tells has the number that was asked for
pub place_is : (r : Option ℕ) (keys : List ℕ) (n : ℕ) → r ≡ position (nat_eq n) keys → is_some r ≡ list_any (nat_eq n) keys
    → MatchOption r (¬ Contains keys n) (λ i. slice_get keys i ≡ Some n)
place_is None keys n e s = λ h. let t = (among keys n).1 h in let u = s ∙ t in cc
place_is (Some i) keys n e s =
    let p = position-Some (nat_eq n) keys i n (sym e) in
    there keys i p.0 (sym ((nat_eq-Decides n (get_or keys i n)).0 p.1))
  where
    there : (keys : List ℕ) (i : ℕ) → i < length keys → get_or keys i n ≡ n → slice_get keys i ≡ Some n
    there [] i l e = absurd (omega arith)
    there (k ∷ keys) zero l e = ap Some e
    there (k ∷ keys) (suc i) l e = there keys i (omega arith) e
