-- The fillings of a program that keeps the rules keep them, and are well-formed.
use Rattle.sk_model.specs.Expand.{expand}
use Rattle.sk_holes_laws.proofs.Program.{filled_means}
use Rattle.sk_expand_laws.specs.Fillings.{FillingsKeepRules}
use Rattle.sk_expand_laws.proofs.Whole.{expansions_are}

pub fillings_keep : FillingsKeepRules
fillings_keep bounds prog choice wide typed fits small range = filled_means bounds (expand prog bounds) choice wide (expansions_are bounds prog typed fits small) range
