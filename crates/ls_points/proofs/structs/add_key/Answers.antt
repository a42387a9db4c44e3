use Rattle.ls_points.proofs.StructLemmas.{AddsKeys-one}
use Rattle.ls_points.proofs.structs.add_key.Goals as goal

pub returns : goal.returns
returns c = AddsKeys-one c.args.keys.now.keys c.insert.new.self.keys c.in_ok-key_of_name.field-0 c.args.name.now c.in_ok-key_of_name.ensures c.in_ok-insert.ensures.keys
