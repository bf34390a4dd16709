use Rattle.std.proofs.Common.{◌∙◌, sym, ap}
use Rattle.sk_opts.specs.BoundsOf.{blank_words}
use Rattle.sk_opts.specs.Steps.{settings_from, set_after}
use Rattle.sk_opts.proofs.PragmaWords.{word_taken, text_ends}
use Rattle.sk_opts.proofs.pragmas.read_text.Goals as goal

pub loop-rest-preserved : goal.loop-rest-preserved
loop-rest-preserved c =
    let old = c.loop-rest.read in
    let words = word_taken c.loop-rest.rest.now c.unblank_len.result c.split_at.result.0.now c.split_at.result.1.now c.in-len1-up.len_at_least (sym c.is_blank.ensures ∙ c.if-is_blank.false) c.unblank_len.ensures.run c.split_at.ensures.front c.split_at.ensures.back in
    record {
      value =
          c.loop-rest.invariant.value
          ∙ ap (λ ws. set_after old.set (settings_from old.before ws)) words
          ∙ c.read_word-read.ensures.value (blank_words c.split_at.result.1.now);
      ranges = λ h. c.read_word-read.ensures.ranges (c.loop-rest.invariant.ranges h);
    }

pub returns-clause-value : goal.returns-clause-value
returns-clause-value c = text_ends _ _ _ (blank_words c.args.text.now) _ c.in_default.len_below c.loop-rest.invariant.value
