use Rattle.sk_model.specs.Run.{run}
use Rattle.sk_model.proofs.RunningLaws.{one_way}
use Rattle.sk_model.proofs.running_laws.runs_end_in_one_way.Goals as goal

pub returns : goal.returns
returns c = λ prog f args bounds. one_way (run prog f args bounds)
