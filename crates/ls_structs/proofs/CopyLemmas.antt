-- Entries of different names, put one after another into an empty map.
use Rattle.std.proofs.Common.{◌≡◌, sym, ap, subst, ◌∙◌, [], ◌∷◌, ◌++◌, append-nil, append_assoc}
use Rattle.std.specs.List.{IsDistinct}
use Rattle.std.specs.Map.{keys_of}
use Rattle.indexmap.specs.IndexMap.{insert_all}
use Rattle.indexmap.proofs.MapLemmas.{absent_before}
use Rattle.ls_object.specs.Symbols.{same_symbol}
use Rattle.ls_structs.specs.Trees.{Definitions}
use Rattle.ls_structs.proofs.TreeLemmas.{symbols_alike, goes_behind}

-- entries that are put behind others stand there in their order
all_behind : (before entries : Definitions) → IsDistinct same_symbol (keys_of (before ++ entries))
    → insert_all same_symbol before entries ≡ before ++ entries
all_behind before [] distinct = sym (append-nil before)
all_behind before (d ∷ entries) distinct =
    let regrouped = append_assoc before (d ∷ []) entries in
    ap (λ l. insert_all same_symbol l entries) (goes_behind before d.0 d.1 (absent_before symbols_alike before entries d distinct))
    ∙ all_behind (before ++ d ∷ []) entries
    (subst (λ l. IsDistinct same_symbol (keys_of l)) (sym regrouped) distinct) ∙ regrouped

-- put into an empty map, they are the same
pub all_anew : (entries : Definitions) → IsDistinct same_symbol (keys_of entries)
    → insert_all same_symbol [] entries ≡ entries
all_anew entries distinct = all_behind [] entries distinct
