use Rattle.std.proofs.Common.{◌≡◌, ◌++◌, ◌∷◌, [], drop, codes, length}
use Rattle.std.specs.List.{flat_map}
use Rattle.sk_cert.specs.Certificates.{input_line, number_line}
use Rattle.sk_cert.proofs.writer.push_inputs.Given as goal

abbrev pub invariant-loop-input : goal.invariant-loop-input
invariant-loop-input l =
    l.out.items ++ flat_map input_line (drop l.input-index l.inputs)
    ≡ l.fn.out.items ++ (number_line (codes "inputs") (length l.inputs ∷ []) ++ flat_map input_line l.inputs)
