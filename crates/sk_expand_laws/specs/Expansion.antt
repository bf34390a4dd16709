-- The expansion of a program that keeps the rules is one, unless it is of 2^64 nodes or more.
use Rattle.std.specs.Prelude.{◌<◌, ◌^◌, IsTrue}
use Rattle.sk_base.specs.declared.bounds.Bounds.{Bounds}
use Rattle.sk_prog.specs.declared.prog.Prog.{Prog}
use Rattle.sk_prog.specs.Fits.{prog_fits}
use Rattle.sk_types_rules.specs.WellTyped.{WellTyped}
use Rattle.sk_model.specs.Nodes.{nodes}
use Rattle.sk_model.specs.Expand.{expand}
use Rattle.sk_holes_laws.specs.Expanded.{IsExpanded}

abbrev pub ExpansionsAre : Type 0
ExpansionsAre = (bounds : Bounds) (prog : Prog) → WellTyped prog bounds → IsTrue (prog_fits prog) → nodes (expand prog bounds).prog < 2 ^ 64 → IsExpanded bounds (expand prog bounds)
