use Rattle.std.proofs.Common.{◌<◌, length, arith}
use Rattle.sk_cnf.proofs.CoverLaws.{Covers-step}
use Rattle.sk_cnf.proofs.growing.encode_place.Goals as goal

pub returns-clause-covers : goal.returns-clause-covers
returns-clause-covers c =
    let mark = c.is_wanted-wanted.ensures.yes c.if-not-wanted.false in
    let code = rw (c.int_bits-width.ensures.width, c.as_slice.ensures) at c.in_ok-code.ensures.code in
    λ old h.
    let within : c.args.i < length c.args.codes.now = omega (arith, h.long, c.requires.place) in
    rw c.set.ensures (Covers-step c.args.i c.node-node.result.now c.in_ok-code.code c.requires.closed c.node-node.ensures mark h code within)
