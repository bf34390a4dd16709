use Rattle.std.proofs.Common.{◌≡◌, ◌-◌}
use Rattle.sk_cert.specs.Readers.{uppers, most_parts}
use Rattle.sk_cert.proofs.Repeated.{behind_all}
use Rattle.sk_cert.proofs.sections.upper_rows.Given as goal

abbrev pub invariant-loop-i : goal.invariant-loop-i
invariant-loop-i l = uppers most_parts 0 l.text ≡ behind_all l.parts (uppers (most_parts - l.i) l.i l.rest)
