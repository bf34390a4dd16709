use Rattle.std.proofs.Common.{ap, take, ◌∙◌}
use Rattle.sk_sym_sites.specs.Places.{funs_count}
use Rattle.sk_sym_sites.proofs.Trees.{before_is}
use Rattle.sk_sym_sites.proofs.starts.start_of.Goals as goal

pub returns : goal.returns
returns c = record { place = λ bounds values call. c.in_ok-at.ensures ∙ ap funs_count c.functions_before-before.ensures ∙ ap (λ l. funs_count (take c.args.f l)) c.as_slice.ensures ∙ before_is c.args.prog.now bounds values call c.args.prog.now.funs c.args.f }
