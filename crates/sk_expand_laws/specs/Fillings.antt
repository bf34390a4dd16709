-- The fillings of a program that keeps the rules keep them, and are well-formed.
use Rattle.std.specs.Prelude.{◌<◌, ◌^◌, IsTrue}
use Rattle.sk_base.specs.declared.bounds.Bounds.{Bounds}
use Rattle.sk_prog.specs.declared.prog.Prog.{Prog}
use Rattle.sk_prog.specs.Fits.{prog_fits}
use Rattle.sk_types_rules.specs.WellTyped.{WellTyped}
use Rattle.sk_model.specs.declared.expanded.Choice.{Choice}
use Rattle.sk_model.specs.Nodes.{nodes}
use Rattle.sk_model.specs.Expand.{expand}
use Rattle.sk_model.specs.Fill.{InRange, fill}
use Rattle.sk_holes_laws.specs.Holes.{AreWide}

-- The filling of the expansion of a well-formed program that keeps the rules, by a choice in range, keeps the rules,
-- for the same bounds, and is well-formed.
abbrev pub FillingsKeepRules : Type 0
FillingsKeepRules =
    (bounds : Bounds) (prog : Prog) (choice : Choice)
    → AreWide bounds → WellTyped prog bounds → IsTrue (prog_fits prog) → nodes (expand prog bounds).prog < 2 ^ 64
    → InRange (expand prog bounds) choice
    → WellTyped (fill (expand prog bounds) choice) bounds × IsTrue (prog_fits (fill (expand prog bounds) choice))
