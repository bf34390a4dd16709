-- The sketch of a line `self N`, and the summary that is written where it is completed.
--
-- The sketch has a harness `hI` for each I from 0 to N. In four turns of a loop it adds x times a hole, and it asserts
-- that the sum and one more hole come to x * A + B, where A is 4 times ((7I + 3) mod 32) and B is (11I + 5) mod 32, both
-- written as numbers. So the holes are A / 4 and B. Then comes a harness `least`, whose cost is a hole that is at least
-- half of N.
use Rattle.std.specs.Prelude.{ℕ, zero, suc, ◌+◌, ◌*◌, ◌%◌, List, [], ◌++◌, length, codes}
use Rattle.std.specs.Fmt.{decimal}
use Rattle.sk_base.specs.declared.bounds.Bounds.{Bounds}
use Rattle.sk_model.specs.declared.expanded.Expanded.{Expanded}
use Rattle.sk_model.specs.Steps.{steps}

-- The sketch

abbrev pub factor : ℕ → ℕ
factor i = 4 * ((7 * i + 3) % 32)

abbrev pub offset : ℕ → ℕ
offset i = (11 * i + 5) % 32

-- the harness with this number
abbrev pub sum_harness : ℕ → List ℕ
sum_harness i =
    codes "harness void h" ++ decimal i ++ codes "(int x) {\n"
    ++ codes "    int s = 0;\n"
    ++ codes "    int i = 0;\n"
    ++ codes "    while (i < 4) {\n"
    ++ codes "        s = s + x * ??;\n"
    ++ codes "        i = i + 1;\n"
    ++ codes "    }\n"
    ++ codes "    assert s + ?? == x * " ++ decimal (factor i) ++ codes " + " ++ decimal (offset i) ++ codes ";\n"
    ++ codes "}\n"

-- those with numbers below n
abbrev pub sum_harnesses : ℕ → List ℕ
sum_harnesses zero = []
sum_harnesses (suc n) = sum_harnesses n ++ sum_harness n

abbrev pub least_harness : ℕ → List ℕ
least_harness n =
    codes "harness void least(int x) {\n"
    ++ codes "    int n = ??;\n"
    ++ codes "    assert n * 2 >= " ++ decimal n ++ codes ";\n"
    ++ codes "    minimize(n);\n"
    ++ codes "}\n"

abbrev pub self_sketch : ℕ → List ℕ
self_sketch n = sum_harnesses (suc n) ++ least_harness n

-- The summary

-- the number of the line, and of the sketch's expansion the functions, the sites, the steps, and the value of its
-- completion
abbrev pub summary_of : ℕ → ℕ → ℕ → ℕ → ℕ → List ℕ
summary_of n functions sites total value =
    codes "self " ++ decimal n ++ codes "\n"
    ++ codes "functions " ++ decimal functions ++ codes "\n"
    ++ codes "sites " ++ decimal sites ++ codes "\n"
    ++ codes "steps " ++ decimal total ++ codes "\n"
    ++ codes "value " ++ decimal value ++ codes "\n"
    ++ codes "status 0\n"

-- what is written where the expansion of the sketch is completed with this value
abbrev pub self_text : ℕ → Bounds → Expanded → ℕ → List ℕ
self_text n bounds e value = summary_of n (length e.prog.funs) (length e.sites) (steps bounds e) value
