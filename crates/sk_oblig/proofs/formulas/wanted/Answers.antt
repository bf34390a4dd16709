use Rattle.sk_oblig.proofs.Whole.{says_wanted}
use Rattle.sk_oblig.proofs.formulas.wanted.Goals as goal

pub returns : goal.returns
returns c = record {
  wanted = says_wanted c.as_slice-2.result.now c.in_ok-fine.fine c.in_ok-range.range c.in_ok-r.r c.as_slice-2.ensures c.in_ok-range.ensures.keeps c.in_ok-r.ensures.keeps c.in_ok-fine.ensures.fine c.in_ok-range.ensures.range c.in_ok-r.ensures.there c.in_ok-r.ensures.value;
}
