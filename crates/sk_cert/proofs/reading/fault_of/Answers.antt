use Rattle.std.proofs.Common.{◌∙◌, ◌+◌, ◌<◌, ◌≤◌, ◌^◌, length, w32, sym, ap, arith}
use Rattle.std.proofs.Math.Facts.{Fits-of_lt}
use Rattle.sk_cert.specs.Departing.{line_feeds}
use Rattle.sk_cert.specs.Steps.{first_line, is_other_version}
use Rattle.sk_cert.proofs.Placed.{feeds_within, version_there, form_there}
use Rattle.sk_cert.proofs.reading.fault_of.Goals as goal

pub overflow_add-line : goal.overflow_add-line
overflow_add-line c =
    let few : line_feeds c.split_at.result.0.now ≤ length c.split_at.result.0.now = feeds_within c.split_at.result.0.now in
    let small : c.line_feeds-line.result + 1 < 2 ^ 32 = omega (arith, few, c.line_feeds-line.ensures, c.split_at.ensures.front_len, c.requires.size) in
    Fits-of_lt {w = w32} small

pub returns-then-is_other_version : goal.returns-then-is_other_version
returns-then-is_other_version c =
    version_there c.args.text.now c.args.left (c.line_feeds-line.result + 1) c.requires.departs
    (ap (λ n. n + 1) (c.line_feeds-line.ensures ∙ ap line_feeds c.split_at.ensures.front))
    (ap (λ t. is_other_version (first_line t)) (sym c.split_at.ensures.back) ∙ ap is_other_version (sym c.first_line.ensures) ∙ sym c.if-is_other_version.ensures)

pub returns : goal.returns
returns c =
    form_there c.args.text.now c.args.left (c.line_feeds-line.result + 1) c.requires.departs
    (ap (λ n. n + 1) (c.line_feeds-line.ensures ∙ ap line_feeds c.split_at.ensures.front))
    (ap (λ t. is_other_version (first_line t)) (sym c.split_at.ensures.back) ∙ ap is_other_version (sym c.first_line.ensures) ∙ sym c.if-is_other_version.ensures)
