use Rattle.std.proofs.Common.{sym, ◌∙◌, map}
use Rattle.std.specs.String.{string_bytes}
use Rattle.sk_opts.proofs.ClapReading.{short_words}
use Rattle.sk_opts.proofs.ClapAnswers.{none_is_read, words_matched, words_refused}
use Rattle.sk_opts.proofs.words.words_of.Goals as goal

pub returns-then-has_short_word : goal.returns-then-has_short_word
returns-then-has_short_word c =
    let ws = map string_bytes c.args.words.now in
    none_is_read c.args.has.now ws (short_words c.args.has.now ws (sym c.if-has_short_word.ensures))

pub returns-in-Ok : goal.returns-in-Ok
returns-in-Ok c =
    words_matched c.args.has.now c.in_ok-command_of.field-0 (map string_bytes c.args.words.now) c.in-Ok.matches c.in_ok-matched_words-in-Ok.field-0 c.requires (sym c.if-has_short_word.ensures) c.in_ok-command_of.ensures
    c.in-Ok.ensures.kinds c.in-Ok.ensures.matches c.in_ok-matched_words-in-Ok.ensures

pub returns : goal.returns
returns c =
    words_refused c.args.has.now c.in_ok-command_of.field-0 (map string_bytes c.args.words.now) c.in-Err.error c.requires (sym c.if-has_short_word.ensures) c.in_ok-command_of.ensures c.in-Err.ensures.kinds
    (λ e. c.in_default.not-OutOfMemory (c.kind.ensures ∙ e))
