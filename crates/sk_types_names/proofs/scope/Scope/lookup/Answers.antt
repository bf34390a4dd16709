use Rattle.std.proofs.Common.{rules, ◌≡◌}
use Rattle.sk_types_rules.specs.Scope.{lookup}
use Rattle.sk_types_names.proofs.SlotLaws.{looked, place_in}
use Rattle.sk_types_names.specs.Tables.{number_of}
use Rattle.sk_types_names.proofs.scope.Scope.lookup.Goals as goal

pub returns-in_err-entered : goal.returns-in_err-entered
returns-in_err-entered c =
    let is = looked c.self.inside.entered.items c.self.inside.slots c.args.self.now c.args.name.now c.self.invariant c.self.view_is in
    search rules

pub returns : goal.returns
returns c =
    let is = looked c.self.inside.entered.items c.self.inside.slots c.args.self.now c.args.name.now c.self.invariant c.self.view_is in
    search rules
