use Rattle.std.proofs.Common.{◌+◌, drop, sym, ap, ◌∙◌}
use Rattle.std.specs.Prelude.{◌||◌}
use Rattle.std.proofs.lemmas.List.{take_rest}
use Rattle.sk_types_rules.specs.Types.{is_copy_mark, ends_as_copy}
use Rattle.sk_types_stmts.proofs.RoomLaws.{ends_next}
use Rattle.sk_types_stmts.proofs.free.ends_as_copy.Goals as goal

pub loop-i-preserved : goal.loop-i-preserved
loop-i-preserved c =
    c.loop-i.invariant
    ∙ ends_next c.args.bytes.now c.loop-i.i c.loop-i-test.true
    ∙ ap (λ b. b || ends_as_copy (drop (c.loop-i.i + 1) c.args.bytes.now)) (ap is_copy_mark (sym (take_rest c.args.bytes.now c.loop-i.i)) ∙ sym c.is_copy_mark.ensures ∙ c.if-is_copy_mark.false)
