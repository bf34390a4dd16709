use Rattle.std.proofs.Common.{ap, subst, ◌∙◌, map}
use Rattle.std.specs.Prelude.{string_bytes}
use Rattle.sk_opts.specs.Told.{IsTold}
use Rattle.sk_check_app.proofs.WordLaws.{no_words}
use Rattle.sk_check_app.proofs.words.set_of.Goals as goal

pub returns-in-Err-NotALine-clause-usage : goal.returns-in-Err-NotALine-clause-usage
returns-in-Err-NotALine-clause-usage c =
    no_words (map string_bytes c.as_slice.result.now) (map string_bytes c.args.words.now) (ap (λ ws. map string_bytes ws) c.as_slice.ensures.value ∙ c.in_ok-all.ensures)
    (subst (λ u. IsTold (map string_bytes c.as_slice.result.now) u) c.in-Err-NotALine.field-0-is c.in-Err-NotALine.ensures.usage)
