use Rattle.std.proofs.Common.{◌≡◌, ◌+◌, ◌++◌, drop}
use Rattle.ls_reader.specs.Sizes.{size_all}
use Rattle.ls_deftype.specs.steps.Filling.{use_of, each, elements}
use Rattle.ls_deftype.proofs.arguments.Use.+fill.Given as goal

abbrev pub invariant-fill_each-loop-part : goal.invariant-fill_each-loop-part
invariant-fill_each-loop-part l = record {
  are : l.items ++ each (use_of l.self) (drop l.part-index l.parts) ≡ each (use_of l.self) l.parts;
  room : l.room + size_all (each (use_of l.self) l.parts) ≡ l.fn.room + size_all (each (use_of l.self) (drop l.part-index l.parts));
}

abbrev pub invariant-fill_elements-loop-part : goal.invariant-fill_elements-loop-part
invariant-fill_elements-loop-part l = record {
  are : l.items ++ elements (use_of l.self) (drop l.part-index l.parts) ≡ elements (use_of l.self) l.parts;
  room : l.room + size_all (elements (use_of l.self) l.parts) ≡ l.fn.room + size_all (elements (use_of l.self) (drop l.part-index l.parts));
}
