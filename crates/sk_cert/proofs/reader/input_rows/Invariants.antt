use Rattle.std.proofs.Common.{◌≡◌, ◌-◌}
use Rattle.sk_cert.specs.Words.{input_in}
use Rattle.sk_cert.specs.Readers.{one, repeated}
use Rattle.sk_cert.proofs.Repeated.{behind_all}
use Rattle.sk_cert.proofs.reader.input_rows.Given as goal

abbrev pub invariant-loop-i : goal.invariant-loop-i
invariant-loop-i l = repeated (one input_in) l.count l.text ≡ behind_all l.inputs (repeated (one input_in) (l.count - l.i) l.rest)
