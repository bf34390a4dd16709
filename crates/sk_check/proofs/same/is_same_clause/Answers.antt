use Rattle.std.proofs.Common.{rules, ◌&&◌, nat_eq}
use Rattle.std.specs.Bool.{beq}
use Rattle.std.proofs.lemmas.Slice.Eq.{slice_eq-Decides}
use Rattle.sk_clause.specs.declared.lit.Lit.{Lit}
use Rattle.sk_check.proofs.same.is_same_clause.Goals as goal

pub returns : goal.returns
returns c = slice_eq-Decides {E = λ (a b : Lit). nat_eq a.var b.var && beq a.neg b.neg} (λ a b. search rules) c.args.one.now c.args.other.now c.eq.result c.eq.ensures
