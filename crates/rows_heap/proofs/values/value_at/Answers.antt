use Rattle.std.proofs.Common.{◌<◌, length, arith}
use Rattle.rows_heap.proofs.ValueLaws.{value_found}
use Rattle.rows_heap.proofs.values.value_at.Goals as goal

pub returns : goal.returns
returns c = λ g heap are.
    let within : c.args.number < length c.as_slice-all.result.now = omega (arith, c.if-number-all.false) in
    value_found c.as_slice-all.result.now c.args.number c.index-all-number.result c.args.ty c.as_slice-all.ensures are within c.index-all-number.is (c.is_type.ensures c.if-not-is_type.false)
