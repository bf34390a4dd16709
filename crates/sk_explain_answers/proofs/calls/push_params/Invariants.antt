use Rattle.std.proofs.Common.{◌≡◌, ◌++◌, [], length}
use Rattle.sk_explain_answers.specs.Calls.{params_text}
use Rattle.sk_explain_answers.proofs.calls.push_params.Given as goal

-- the text so far, and that of what is left
abbrev pub invariant-loop-rest : goal.invariant-loop-rest
invariant-loop-rest l = l.note.bytes.items ++ params_text l.between l.rest l.left ≡ l.fn.note.bytes.items ++ params_text [] l.params l.words

abbrev pub decreases-loop-rest : goal.decreases-loop-rest
decreases-loop-rest l = length l.rest
