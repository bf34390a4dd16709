use Rattle.std.proofs.Common.{◌≡◌, ◌∙◌, Some, None, sym, ap, subst, true≢false}
use Rattle.std.specs.Prelude.{IsSome}
use Rattle.std.specs.Option.{option_copied_mut}
use Rattle.sk_types_names.specs.Tables.{number_of}
use Rattle.sk_types_names.proofs.TableLaws.{found, sets}
use Rattle.sk_types_names.proofs.numbers.Numbers.replace.Goals as goal
use Rattle.sk_types_names.proofs.numbers.Numbers.replace.Goals.{in-Some, in_default}

pub returns : goal.returns
returns c =
    let is = found (λ k. k.items) c.as_bytes.result.now c.self.inside.rows.entries ∙ (λ i. number_of (c.self.view_is i) (c.as_bytes.ensures i)) in
    elim c.match-get_mut.branch [
      | in-Some w ↦
          let there = (c.get_mut.follows.holds c.args.number).3 (subst IsSome (sym is) c.requires) in
          rw w.self-inside-is (sets (λ k. k.items) c.as_bytes.result.now c.args.name.now c.args.self.now c.self.inside.rows (c.get_mut.follows.lender c.args.number) (Some c.args.number) c.as_bytes.ensures c.self.view_is there)
      | in_default w ↦
          let none : number_of c.args.self.now c.args.name.now ≡ None = sym is ∙ sym c.get_mut.ensures.value ∙ ap option_copied_mut w.in_default.is in
          absurd (true≢false (sym (subst IsSome none c.requires)))
    ]
