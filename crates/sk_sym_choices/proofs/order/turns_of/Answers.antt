use Rattle.std.proofs.Common.{◌≡◌, ℕ, List, length, sym, subst, arith}
use Rattle.std.specs.Option.{option_copied}
use Rattle.sk_dag.specs.declared.node.BoolId.{BoolId}
use Rattle.sk_dag.proofs.EvalLemmas.{Keeps-trans}
use Rattle.sk_model.specs.Fill.{digit}
use Rattle.sk_sym_folds.specs.Chosen.{chosen_values}
use Rattle.sk_sym_choices.specs.Orders.{AllThere, AreTurns, IsPut}
use Rattle.sk_sym_choices.proofs.Turns.{Keeps-refl, given_by, given_keeps, turns_next}
use Rattle.sk_sym_choices.proofs.order.turns_of.Goals as goal

pub turns_at-requires : goal.turns_at-requires
turns_at-requires c = record {
  never = given_keeps c.in_ok-always.ensures.keeps (given_by c.in_ok-never.ensures.there c.in_ok-never.ensures.value);
  always = given_by c.in_ok-always.ensures.there c.in_ok-always.ensures.value;
}

pub loop-placed-init : goal.loop-placed-init
loop-placed-init c = record {
  keeps = Keeps-refl _;
  never = given_keeps (Keeps-trans c.in_ok-always.ensures.keeps c.in_ok-made.ensures.keeps) (given_by c.in_ok-never.ensures.there c.in_ok-never.ensures.value);
  below = omega arith;
  within = omega (arith, c.requires);
  turns = c.in_ok-made.ensures.turns;
}

pub put_next-requires : goal.put_next-requires
put_next-requires c = record {
  nodes = subst (λ (ns : List BoolId). AllThere c.loop-placed.dag ns) (sym c.as_slice.ensures) c.loop-placed.invariant.turns.there;
  node = c.loop-placed.invariant.never.there;
}

pub loop-placed-preserved : goal.loop-placed-preserved
loop-placed-preserved c =
    let inv = c.loop-placed.invariant in
    record {
      keeps = Keeps-trans inv.keeps c.in_ok-next.ensures.keeps;
      never = given_keeps c.in_ok-next.ensures.keeps inv.never;
      below = omega (arith, inv.below);
      within = omega (arith, c.loop-placed-test.true);
      turns =
          turns_next (option_copied c.args.chosen) c.args.first c.loop-placed._placed c.args.k c.in_ok-never.never c.loop-placed.made c.in_ok-next.next inv.never c.in_ok-next.ensures.keeps inv.below inv.turns
          (subst (λ (ns : List BoolId). IsPut c.put_next.new.dag (λ e. digit (chosen_values (option_copied c.args.chosen) e) c.args.first (length ns)) ns c.in_ok-never.never c.in_ok-next.next) c.as_slice.ensures c.in_ok-next.ensures.put);
    }

pub returns : goal.returns
returns c =
    let inv = c.loop-placed.invariant in
    let end : c.loop-placed._placed ≡ c.args.count = omega (arith, inv.within, c.loop-placed-test.false) in
    record {
      keeps = Keeps-trans (Keeps-trans (Keeps-trans c.in_ok-never.ensures.keeps c.in_ok-always.ensures.keeps) c.in_ok-made.ensures.keeps) inv.keeps;
      turns = subst (λ (n : ℕ). AreTurns c.loop-placed.dag (option_copied c.args.chosen) c.args.first n c.args.k c.loop-placed.made) end inv.turns;
    }

pub returns-in_err-next-clause-keeps : goal.returns-in_err-next-clause-keeps
returns-in_err-next-clause-keeps c =
    Keeps-trans (Keeps-trans (Keeps-trans (Keeps-trans c.in_ok-never.ensures.keeps c.in_ok-always.ensures.keeps) c.in_ok-made.ensures.keeps) c.loop-placed.invariant.keeps) c.in_err-next.ensures.keeps
