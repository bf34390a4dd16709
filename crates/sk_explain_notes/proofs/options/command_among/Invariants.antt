use Rattle.std.proofs.Common.{◌≡◌, length}
use Rattle.sk_explain_notes.specs.Options.{command_among}
use Rattle.sk_explain_notes.proofs.options.command_among.Given as goal

abbrev pub invariant-loop-rest : goal.invariant-loop-rest
invariant-loop-rest l = command_among l.commands l.word ≡ command_among l.rest l.word

abbrev pub decreases-loop-rest : goal.decreases-loop-rest
decreases-loop-rest l = length l.rest
