-- A trail with no literals.
use Rattle.std.proofs.Common.{◌≡◌, ℕ, zero, suc, List, [], length, replicate, refl, sym, ◌∙◌, arith, Option, None, Bool}
use Rattle.std.proofs.lemmas.List.{length-replicate}
use Rattle.sk_clause.specs.declared.lit.Lit.{Lit}
use Rattle.sk_clause.specs.Values.{open_count}
use Rattle.sk_clause.proofs.ValueLemmas.{none_holds}
use Rattle.sk_sat.specs.Trail.{IsTrailOf}

open_count-replicate : (n : ℕ) → open_count (replicate n None) ≡ n
open_count-replicate zero = refl
open_count-replicate (suc n) = omega (arith, open_count-replicate n)

pub trail_begins : (known : List (List Lit)) (n : ℕ) → IsTrailOf known (replicate n None) (replicate n 0) (replicate n 0) [] []
trail_begins known n =
    let long : length (replicate n (None)) ≡ n = length-replicate {A = Option Bool} n None in
    record {
      level_long = length-replicate n 0 ∙ sym long;
      reason_long = length-replicate n 0 ∙ sym long;
      agrees = record {
        holds = λ i h. absurd (omega arith);
        covers = λ l h. absurd (none_holds n l h);
        distinct = λ i k l h. absurd (omega arith);
        within = λ i h. absurd (omega arith);
        total = omega (arith, open_count-replicate n);
      };
      leveled = record {
        inside = λ j h. absurd (omega arith);
        rises = λ j k l h. absurd (omega arith);
        low = λ i j h k e. absurd (omega arith);
        high = λ i j h k e. absurd (omega arith);
        most = λ i h. absurd (omega arith);
      };
      reasoned = λ i h o. absurd (omega arith);
    }

pub trail_begins_from : (known : List (List Lit)) (n : ℕ) (vs : List (Option Bool)) (lv rs : List ℕ) (ls : List Lit) (lims : List ℕ) → vs ≡ replicate n None → lv ≡ replicate n 0 → rs ≡ replicate n 0 → ls ≡ [] → lims ≡ [] → IsTrailOf known vs lv rs ls lims
trail_begins_from known n vs lv rs ls lims a b c d e = rw (a, b, c, d, e) (trail_begins known n)
