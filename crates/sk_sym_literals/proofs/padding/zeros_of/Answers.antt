use Rattle.std.proofs.Common.{◌≡◌, arith, sym, subst, ap, length}
use Rattle.std.proofs.lemmas.List.Elements.{All-nil}
use Rattle.sk_arr.specs.Shapes.{Alike, AlikeTo, AllStand}
use Rattle.sk_arr.specs.Answers.{IsPadded}
use Rattle.sk_arr.proofs.Values.{stand_none}
use Rattle.sk_sym_literals.proofs.padding.zeros_of.Goals as goal

pub pad-requires-clause-list : goal.pad-requires-clause-list
pad-requires-clause-list c = subst (AllStand _) (sym c.new-none.ensures) (stand_none _)

pub pad-requires-clause-alike : goal.pad-requires-clause-alike
pad-requires-clause-alike c = subst (AlikeTo c.args.zero.now) (sym c.new-none.ensures) (record { each = All-nil (Alike c.args.zero.now) })

pub pad-requires-clause-count : goal.pad-requires-clause-count
pad-requires-clause-count c = omega (arith, ap length c.new-none.ensures)

pub returns-clause-zeros : goal.returns-clause-zeros
returns-clause-zeros c = subst (λ l. IsPadded c.pad.new.dag l c.args.zero.now c.args.count c.in_ok-made.made) c.new-none.ensures c.in_ok-made.ensures.padded
