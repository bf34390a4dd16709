use Rattle.std.proofs.Common.{◌≡◌, ◌+◌, ◌-◌, ◌≤◌, length, take, drop, sym, subst, arith}
use Rattle.sk_dag.proofs.EvalLemmas.{Keeps-trans}
use Rattle.sk_arr.specs.Shapes.{AllStand, AllAlike}
use Rattle.sk_arr.specs.Steps.{IsReadFrom}
use Rattle.sk_arr.proofs.Standing.{AllStand-keeps}
use Rattle.sk_arr.proofs.SliceLaws.{window_stands, window_all_alike, windows_more}
use Rattle.sk_arr.proofs.window.elements_from.Goals as goal

pub element-requires-clause-list : goal.element-requires-clause-list
element-requires-clause-list c =
    let j = c.loop-j.j in
    let n : j + c.args.starts - j ≡ c.args.starts = omega arith in
    let fits : j + c.args.starts ≤ length c.args.list.now = omega (arith, c.loop-j-test.true, c.requires.within) in
    subst (λ k. AllStand c.loop-j.dag (take k (drop j c.args.list.now))) (sym n) (window_stands c.args.list.now j c.args.starts fits (AllStand-keeps c.loop-j.invariant.keeps c.requires.list))

pub element-requires-clause-alike : goal.element-requires-clause-alike
element-requires-clause-alike c =
    let j = c.loop-j.j in
    let n : j + c.args.starts - j ≡ c.args.starts = omega arith in
    let fits : j + c.args.starts ≤ length c.args.list.now = omega (arith, c.loop-j-test.true, c.requires.within) in
    subst (λ k. AllAlike (take k (drop j c.args.list.now))) (sym n) (window_all_alike c.args.list.now j c.args.starts fits c.requires.alike)

pub loop-j-preserved : goal.loop-j-preserved
loop-j-preserved c =
    let j = c.loop-j.j in
    let inv = c.loop-j.invariant in
    let n : j + c.args.starts - j ≡ c.args.starts = omega arith in
    let fits : j + c.args.starts ≤ length c.args.list.now = omega (arith, c.loop-j-test.true, c.requires.within) in
    record {
      keeps = Keeps-trans inv.keeps c.in_ok-one.ensures.keeps;
      read = rw c.in_ok-push.ensures.ok (windows_more j c.in_ok-one.one inv.read c.in_ok-one.ensures.keeps (subst (λ k. IsReadFrom c.element.new.dag (take k (drop j c.args.list.now)) c.args.from c.in_ok-one.one) n c.in_ok-one.ensures.read) fits c.requires.some c.requires.alike);
    }
