-- When a choice is the best one.
use Rattle.std.proofs.Common.{inl, inr, ◌<◌, ◌≤◌, arith}
use Rattle.std.proofs.lemmas.Bool.{cases_order}
use Rattle.sk_model.specs.Fill.{fill}
use Rattle.sk_model.specs.Meets.{cost_on}
use Rattle.sk_min_laws.specs.Laws.{BestWhereNonePasses}

pub best_of : BestWhereNonePasses
best_of e bounds best value inputs meeting greatest some none = record {
  meeting = meeting;
  costs = greatest;
  least = λ b m v g.
      let lower : v < value → value ≤ v = λ lt. absurd (none.completes b (record { range = m.range; meets = m.meets; within = λ input is. let h : cost_on (fill e b) bounds input ≤ v = g.greatest input is in omega arith })) in
      elim (cases_order v value) [
        | inl same ↦ omega arith
        | inr differ ↦ elim differ [ inl lt ↦ lower lt | inr gt ↦ omega arith ]
      ];
}
