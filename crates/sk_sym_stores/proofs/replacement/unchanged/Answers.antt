use Rattle.sk_arr.proofs.Standing.{Stands-keeps}
use Rattle.sk_sym_stores.proofs.replacement.unchanged.Goals as goal

pub returns-clause-unchanged : goal.returns-clause-unchanged
returns-clause-unchanged c = record {
  copy = c.in_ok-value.ensures c.flag.new.dag (Stands-keeps c.in_ok-fails.ensures.keeps c.requires.whole);
  there = c.in_ok-fails.ensures.there;
  always = c.in_ok-fails.ensures.value;
}
