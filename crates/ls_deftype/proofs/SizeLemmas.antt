-- Sizes of lists of data, and room that falls along a list.
use Rattle.std.proofs.Common.{◌≡◌, ℕ, ◌+◌, ◌<◌, ◌≤◌, List, [], ◌∷◌, ◌++◌, length, get_or, drop, map, ap, sym, ◌∙◌, arith, add-one, drop-cons}
use Rattle.std.proofs.lemmas.List.Sums.{sum_by-cons}
use Rattle.ls_reader.specs.declared.datum.Datum.{Datum}
use Rattle.ls_reader.specs.Sizes.{size, size_all}
use Rattle.ls_deftype.specs.declared.room.Stop.{Stop}
use Rattle.ls_deftype.specs.declared.room.Stop.TheVariants as stop
use Rattle.ls_deftype.specs.steps.Room.{Fails}

pub size_cons : (d : Datum) (ds : List Datum) → size_all (d ∷ ds) ≡ size d + size_all ds
size_cons d ds = sum_by-cons (λ n. n) (size d) (map size ds)

pub sizes_append : (xs ys : List Datum) → size_all (xs ++ ys) ≡ size_all xs + size_all ys
sizes_append [] ys = omega arith
sizes_append (x ∷ xs) ys = omega (arith, size_cons x (xs ++ ys), size_cons x xs, sizes_append xs ys)

pub size_one : (d : Datum) → size_all (d ∷ []) ≡ size d
size_one d = omega (arith, size_cons d [])

-- what doesn't fit into the room that is left, doesn't fit with what came before it
pub fails_more : (e : Stop) (part whole before now : ℕ) → before + part ≤ now + whole → Fails part now e → Fails whole before e
fails_more stop.Memory part whole before now le h = tt
fails_more stop.TooMany part whole before now le h = omega arith

pub sizes_drop : (ds : List Datum) (i : ℕ) (d : Datum) → i < length ds → d ≡ get_or ds i d → size_all (drop i ds) ≡ size d + size_all (drop (i + 1) ds)
sizes_drop ds i d h is =
    let front : drop i ds ≡ get_or ds i d ∷ drop (i + 1) ds = rw add-one (drop-cons ds i d h) in
    ap size_all front ∙ size_cons (get_or ds i d) (drop (i + 1) ds) ∙ ap (λ x. size x + size_all (drop (i + 1) ds)) (sym is)
