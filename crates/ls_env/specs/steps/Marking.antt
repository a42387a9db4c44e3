-- Which templates come back to themselves, as the code marks them.
use Rattle.std.specs.Prelude.{ℕ, ◌<◌, nat_le, nat_lt, ◌&&◌, ◌||◌, false, List, map, length, Bool, Option, Some, None, slice_get, ◌==◌}
use Rattle.std.specs.List.{range_with_len, list_any, list_all, AllByRecursion}
use Rattle.ls_env.specs.declared.parts.Way.{Way}
use Rattle.ls_env.specs.declared.parts.Parts.{Parts}
use Rattle.ls_env.specs.declared.status.NameStatus.{NameStatus}
use Rattle.ls_env.specs.declared.status.NameStatus.TheVariants as status
use Rattle.ls_env.specs.Reaching.{body, comes_back}

-- for each template, whether it comes back to itself
abbrev pub all_that_come_back : List (List ℕ) → List Bool
all_that_come_back graph = map (comes_back graph) (range_with_len 0 (length graph))

-- a number in the status is one of so many templates
abbrev pub IsNumbered : ℕ → NameStatus → Type 0
IsNumbered count (status.Deftype n) = n < count
IsNumbered count s = Unit {0}

abbrev pub AreNumbered : ℕ → List NameStatus → Type 0
AreNumbered count ss = AllByRecursion (IsNumbered count) ss

-- ---- templates in parts

abbrev pub or_none : Option Way → Way
or_none None = record { part = 0; far = 0; near = 0; up = 0; down = 0; down_at = 0 }
or_none (Some w) = w

abbrev pub way_of : Parts → ℕ → Way
way_of p a = or_none (slice_get p.ways a)

abbrev pub or_zero : Option ℕ → ℕ
or_zero None = 0
or_zero (Some n) = n

abbrev pub root_of : Parts → ℕ → ℕ
root_of p part = or_zero (slice_get p.roots part)

-- ---- the test of parts, one template at a time

-- nothing in the list stands in a later part
abbrev pub none_is_later : Parts → ℕ → List ℕ → Bool
none_is_later p part bs = list_all (λ b. nat_le (way_of p b).part part) bs

abbrev pub climbs_to : Parts → ℕ → Option ℕ → Bool
climbs_to p a None = false
climbs_to p a (Some b) = ((way_of p b).part == (way_of p a).part) && nat_lt (way_of p b).far (way_of p a).far

-- the mention at the place `up` leads towards the root
abbrev pub climbs : List (List ℕ) → Parts → ℕ → Bool
climbs graph p a = climbs_to p a (slice_get (body graph a) (way_of p a).up)

abbrev pub descends_by : Parts → ℕ → ℕ → Option ℕ → Bool
descends_by p a b None = false
descends_by p a b (Some x) =
    (x == a) && (((way_of p b).part == (way_of p a).part) && nat_lt (way_of p b).near (way_of p a).near)

-- the template is mentioned by one that is nearer to the root
abbrev pub descends : List (List ℕ) → Parts → ℕ → Bool
descends graph p a =
    descends_by p a (way_of p a).down (slice_get (body graph (way_of p a).down) (way_of p a).down_at)

abbrev pub is_held : List (List ℕ) → Parts → ℕ → Bool
is_held graph p a =
    none_is_later p (way_of p a).part (body graph a)
    && ((root_of p (way_of p a).part == a) || (climbs graph p a && descends graph p a))

abbrev pub are_held : List (List ℕ) → Parts → Bool
are_held graph p = list_all (is_held graph p) (range_with_len 0 (length graph))

-- whether a template mentions one of its own part
abbrev pub stays : List (List ℕ) → Parts → ℕ → Bool
stays graph p a = list_any (λ b. (way_of p b).part == (way_of p a).part) (body graph a)
