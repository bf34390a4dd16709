-- What the walk of what stands has met.
use Rattle.std.specs.Prelude.{ℕ, List}
use Rattle.sk_model.specs.Stands.{Payment}
use Rattle.sk_holes_standing.specs.declared.met.Paid.{Paid}

-- the functions that are called, and what is paid, in order
pub record Seen : Type 0 where
  pub called : List ℕ
  pub payments : List Payment

abbrev pub payment : Paid → Payment
payment p = record { span = p.span; amount = p.amount }
