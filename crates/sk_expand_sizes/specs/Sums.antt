-- What is counted of the obligations of a program, one after another.
use Rattle.std.specs.Prelude.{ℕ, max, List, [], ◌∷◌}
use Rattle.sk_base.specs.declared.bounds.Bounds.{Bounds}
use Rattle.sk_prog.specs.declared.prog.Fun.{Fun}
use Rattle.sk_model.specs.declared.expanded.Obligation.{Obligation}
use Rattle.sk_model.specs.declared.expanded.Obligation.TheVariants as obligation
use Rattle.sk_model.specs.Run.{most_calls}
use Rattle.sk_expand_sizes.specs.declared.tally.Tally.{Tally}
use Rattle.sk_expand_sizes.specs.declared.tally.Tally.TheVariants as tally
use Rattle.sk_expand_sizes.specs.declared.entry.Sum.{Sum}
use Rattle.sk_expand_sizes.specs.Tally.{begun, news_in}
use Rattle.sk_expand_sizes.specs.Calls.{called}

-- of no obligation
abbrev pub no_sum : Sum
no_sum = record { tally = tally.Within 0 0; most = 0 }

module _ (bounds : Bounds) (funs : List Fun) where
  -- a run of the function with a number
  abbrev pub run_counted : ℕ → Tally → Tally
  run_counted f t = called bounds funs most_calls [] f 1 t

  abbrev pub obligation_counted : Obligation → Tally → Tally
  obligation_counted (obligation.Harness f) t = run_counted f.index t
  obligation_counted (obligation.Implements f g) t = run_counted g.index (run_counted f.index t)

  -- the sum with one more obligation
  abbrev pub with_one : Obligation → Sum → Sum
  with_one o s = let t = obligation_counted o (begun s.tally) in record { tally = t; most = max s.most (news_in t) }

  abbrev pub all_summed : List Obligation → Sum → Sum
  all_summed [] s = s
  all_summed (o ∷ os) s = all_summed os (with_one o s)
