-- How values are spelt, on a command line and in what is written: an `int` as its decimal digits, with a minus sign
-- before them where it is negative; a `bit` as `0` or `1`; an array as its scalars with commas between them, those of
-- element 0 first. A reference, which steps alone show and nobody writes on a command line, is spelt `null`, or `ref` whatever
-- it refers to.
use Rattle.std.specs.Prelude.{ℕ, Bool, true, false, List, codes}
use Rattle.std.specs.Fmt.{signed_decimal}
use Rattle.std.specs.List.{join_by}
use Rattle.sk_prog.specs.declared.value.Value.{Value}
use Rattle.sk_prog.specs.declared.value.Value.TheOpen as V
use Rattle.sk_prog.specs.declared.value.Value.TheFolds.{fold-Value}

abbrev pub bit_text : Bool → List ℕ
bit_text false = codes "0"
bit_text true = codes "1"

abbrev pub value_step : V.Value-F (List ℕ) → List ℕ
value_step (V.Bit b) = bit_text b
value_step (V.Int n) = signed_decimal n
value_step V.Null = codes "null"
value_step (V.Place at) = codes "ref"
value_step (V.Array texts) = join_by (λ t. t) (codes ",") texts

abbrev pub value_text : Value → List ℕ
value_text = fold-Value (List ℕ) value_step
