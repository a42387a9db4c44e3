-- The bytes of a text, where they are kept.
use Rattle.std.specs.Prelude.{ℕ, List, string_bytes}
use Rattle.ls_object.specs.declared.stored.Stored.{Stored}
use Rattle.ls_object.specs.declared.stored.Stored.TheVariants.{Short, Long}

abbrev pub stored_bytes : Stored → List ℕ
stored_bytes (Short s) = s.bytes
stored_bytes (Long s) = string_bytes s
