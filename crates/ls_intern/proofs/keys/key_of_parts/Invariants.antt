use Rattle.std.proofs.Common.{◌≡◌, ◌∷◌, take}
use Rattle.ls_intern.proofs.keys.key_of_parts.Given as goal

abbrev pub invariant-loop-id : goal.invariant-loop-id
invariant-loop-id l = l.key.items ≡ l.variant ∷ take l.id-index l.ids
