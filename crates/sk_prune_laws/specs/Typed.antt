-- A pruned expansion keeps the rules of types.
use Rattle.std.specs.Prelude.{◌≡◌, IsTrue, []}
use Rattle.sk_base.specs.declared.bounds.Bounds.{Bounds}
use Rattle.sk_prog.specs.declared.prog.Prog.{Prog}
use Rattle.sk_prog.specs.Fits.{prog_fits}
use Rattle.sk_types_rules.specs.WellTyped.{WellTyped}
use Rattle.sk_model.specs.declared.expanded.Expanded.{Expanded}
use Rattle.sk_model.specs.Sites.{sites}
use Rattle.sk_holes_laws.specs.Holes.{AreWide}
use Rattle.sk_holes_laws.specs.Expanded.{IsExpanded}
use Rattle.sk_prune.specs.Pruned.{IsPruned}

-- What is pruned of an expansion without sites keeps the rules, for the same bounds, and is well-formed.
abbrev pub PrunedKeepRules : Type 0
PrunedKeepRules = (bounds : Bounds) (x : Expanded) (q : Prog) → AreWide bounds → IsExpanded bounds x → sites bounds x.prog ≡ [] → IsPruned bounds x.prog q → WellTyped q bounds × IsTrue (prog_fits q)
