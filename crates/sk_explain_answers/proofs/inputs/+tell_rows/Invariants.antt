use Rattle.std.proofs.Common.{length}
use Rattle.sk_explain_answers.proofs.inputs.+tell_rows.Given as goal

abbrev pub decreases-tell_rows : goal.decreases-tell_rows
decreases-tell_rows l = length l.rows.now
