use Rattle.std.proofs.Common.{◌∙◌, ap, subst}
use Rattle.std.specs.Prelude.{◌≡◌, IfOk}
use Rattle.clap.specs.Matches.{found_of, first_value}
use Rattle.clap.proofs.WalkLemmas.{first_value-rows}
use Rattle.sk_opts.specs.Matching.{setting_name, match_of}
use Rattle.sk_opts.proofs.words.matched_option.Goals as goal

pub returns : goal.returns
returns c =
    let found = found_of c.args.matches.now in
    subst (λ text. IfOk c.match_of.result (λ matched. matched ≡ match_of c.args.setting text))
    (c.get_str.ensures ∙ ap (first_value found) c.setting_name.ensures ∙ first_value-rows found (setting_name c.args.setting)) c.match_of.ensures
