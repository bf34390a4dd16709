use Rattle.std.proofs.Common.{◌≡◌, ◌++◌, map, drop, codes}
use Rattle.std.specs.Fmt.{decimal}
use Rattle.std.specs.List.{flat_map}
use Rattle.sk_cert.proofs.writer.push_words.Given as goal

abbrev pub invariant-loop-number : goal.invariant-loop-number
invariant-loop-number l =
    l.out.items ++ flat_map (λ w. codes " " ++ w) (map decimal (drop l.number-index l.numbers))
    ≡ l.fn.out.items ++ flat_map (λ w. codes " " ++ w) (map decimal l.numbers)
