use Rattle.sk_cert.specs.Certificates.{number_line, input_lines, upper_from, lower_lines, mark_line}
use Rattle.std.proofs.Common.{◌∷◌, [], codes}
use Rattle.sk_cert.proofs.Written.{pairs_more}
use Rattle.sk_cert.proofs.writer.push_proofs.Goals as goal

pub returns : goal.returns
returns c =
    let k = c.args.certificate.now in
    pairs_more c.args.out.now.items (number_line (codes "certificate") (k.version ∷ [])) (input_lines k.inputs) (upper_from k.version 0 k.upper) (lower_lines k.lower) (mark_line (codes "end") []) _ _ _ c.in_ok-push_claim.ensures c.in_ok-push_parts.ensures c.in_ok-push_number_line.ensures
