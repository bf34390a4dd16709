-- Parts that are appended one behind the other.
use Rattle.std.proofs.Common.{◌≡◌, ℕ, List, ◌++◌, refl}
use Rattle.std.specs.Prelude.{codes}
use Rattle.std.specs.Fmt.{decimal}
use Rattle.std.proofs.lemmas.List.{append_assoc}
use Rattle.sk_app_texts.specs.SelfTexts.{factor, offset, sum_harness, least_harness}

sum_join : (o a d p q r s t u v w f c g y z : List ℕ) → ((((((o ++ a) ++ d) ++ (p ++ q ++ r ++ s ++ t ++ u ++ v ++ w)) ++ f) ++ c) ++ g) ++ (y ++ z) ≡ o ++ (a ++ d ++ p ++ q ++ r ++ s ++ t ++ u ++ v ++ w ++ f ++ c ++ g ++ y ++ z)
sum_join o a d p q r s t u v w f c g y z = simp append_assoc refl

least_join : (o a b c d x y z : List ℕ) → ((o ++ (a ++ b ++ c)) ++ d) ++ (x ++ y ++ z) ≡ o ++ (a ++ b ++ c ++ d ++ x ++ y ++ z)
least_join o a b c d x y z = simp append_assoc refl

-- what stands between the numbers

body_is : codes "(int x) {\n    int s = 0;\n    int i = 0;\n    while (i < 4) {\n        s = s + x * ??;\n        i = i + 1;\n    }\n    assert s + ?? == x * " ≡ codes "(int x) {\n" ++ codes "    int s = 0;\n" ++ codes "    int i = 0;\n" ++ codes "    while (i < 4) {\n" ++ codes "        s = s + x * ??;\n" ++ codes "        i = i + 1;\n" ++ codes "    }\n" ++ codes "    assert s + ?? == x * "
body_is = refl

tail_is : codes ";\n}\n" ≡ codes ";\n" ++ codes "}\n"
tail_is = refl

head_is : codes "harness void least(int x) {\n    int n = ??;\n    assert n * 2 >= " ≡ codes "harness void least(int x) {\n" ++ codes "    int n = ??;\n" ++ codes "    assert n * 2 >= "
head_is = refl

end_is : codes ";\n    minimize(n);\n}\n" ≡ codes ";\n" ++ codes "    minimize(n);\n" ++ codes "}\n"
end_is = refl

-- the parts of a harness make it
pub sum_joins : (o : List ℕ) (i : ℕ) → ((((((o ++ codes "harness void h") ++ decimal i) ++ codes "(int x) {\n    int s = 0;\n    int i = 0;\n    while (i < 4) {\n        s = s + x * ??;\n        i = i + 1;\n    }\n    assert s + ?? == x * ") ++ decimal (factor i)) ++ codes " + ") ++ decimal (offset i)) ++ codes ";\n}\n" ≡ o ++ sum_harness i
sum_joins o i = rw (body_is, tail_is)
    (sum_join o (codes "harness void h") (decimal i) (codes "(int x) {\n") (codes "    int s = 0;\n") (codes "    int i = 0;\n") (codes "    while (i < 4) {\n") (codes "        s = s + x * ??;\n") (codes "        i = i + 1;\n") (codes "    }\n") (codes "    assert s + ?? == x * ") (decimal (factor i)) (codes " + ") (decimal (offset i)) (codes ";\n") (codes "}\n"))

pub least_joins : (o : List ℕ) (n : ℕ) → ((o ++ codes "harness void least(int x) {\n    int n = ??;\n    assert n * 2 >= ") ++ decimal n) ++ codes ";\n    minimize(n);\n}\n" ≡ o ++ least_harness n
least_joins o n = rw (head_is, end_is)
    (least_join o (codes "harness void least(int x) {\n") (codes "    int n = ??;\n") (codes "    assert n * 2 >= ") (decimal n) (codes ";\n") (codes "    minimize(n);\n") (codes "}\n"))
