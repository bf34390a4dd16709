use Rattle.std.specs.Prelude.{Contains}
use Rattle.std.proofs.lemmas.List.Elements.{All-contains_itself}
use Rattle.sk_min_laws.proofs.Greatest.{each_within, greatest_within, greatest_reached}
use Rattle.sk_min_laws.proofs.greatest_is_reached.Goals as goal

pub returns-clause-within : goal.returns-clause-within
returns-clause-within c = λ e bounds choice inputs most. (each_within e bounds choice inputs most, greatest_within e bounds choice inputs most)

pub returns-clause-reached : goal.returns-clause-reached
returns-clause-reached c = λ e bounds choice inputs. greatest_reached e bounds choice (Contains inputs) inputs (All-contains_itself inputs)
