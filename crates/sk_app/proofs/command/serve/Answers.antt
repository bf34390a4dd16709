use Rattle.std.proofs.Common.{refl}
use Rattle.sk_app.proofs.command.serve.Goals as goal

pub returns-in-Lower : goal.returns-in-Lower
returns-in-Lower g c = rw c.in-Lower.is c.lower_source.ensures

pub returns-in-Prune : goal.returns-in-Prune
returns-in-Prune g c = rw c.in-Prune.is c.prune_source.ensures

pub returns-in-All : goal.returns-in-All
returns-in-All g c = rw c.in-All.is c.ask_source.ensures

pub returns-in-Why : goal.returns-in-Why
returns-in-Why g c = rw c.in-Why.is c.ask_source-in-Why.ensures

pub returns-in-Check : goal.returns-in-Check
returns-in-Check g c = rw c.in-Check.is c.check_source.ensures

pub returns-in-Itself : goal.returns-in-Itself
returns-in-Itself g c = rw c.in-Itself.is (record { unread = record { left = refl; faults = refl }; written = c.summarise.ensures })
