use Rattle.ls_env.proofs.ReachLemmas.{comes_back_reaches}
use Rattle.ls_env.proofs.env.a_walk_comes_back_where_a_template_reaches_itself.Goals as goal

pub returns : goal.returns
returns c = comes_back_reaches
