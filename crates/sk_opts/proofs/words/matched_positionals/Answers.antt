use Rattle.std.proofs.Common.{◌∙◌, Some, None, map}
use Rattle.clap.specs.Matches.{found_of}
use Rattle.sk_opts.proofs.ClapAnswers.{positionals_given}
use Rattle.sk_opts.proofs.words.matched_positionals.Goals as goal

pub returns-in-None : goal.returns-in-None
returns-in-None c = c.new.ensures ∙ positionals_given (found_of c.args.matches.now) None c.in-None.ensures

pub returns-in_ok-names_of-in-Some : goal.returns-in_ok-names_of-in-Some
returns-in_ok-names_of-in-Some c =
    c.in_ok-names_of-in-Some.ensures ∙ positionals_given (found_of c.args.matches.now) (Some (map (λ w. w.now) c.in-Some.words.now)) c.in-Some.ensures
