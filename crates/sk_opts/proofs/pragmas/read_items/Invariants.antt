use Rattle.std.proofs.Common.{◌≡◌, drop}
use Rattle.std.specs.List.{flat_map}
use Rattle.sk_opts.specs.BoundsOf.{item_settings}
use Rattle.sk_opts.specs.Ranges.{IsInRanges}
use Rattle.sk_opts.specs.Steps.{set_after}
use Rattle.sk_opts.proofs.PragmaWords.{no_set}
use Rattle.sk_opts.proofs.pragmas.read_items.Given as goal

abbrev pub invariant-loop-item : goal.invariant-loop-item
invariant-loop-item l = record {
  value : set_after no_set (flat_map item_settings l.items) ≡ set_after l.set (flat_map item_settings (drop l.item-index l.items));
  ranges : IsInRanges l.set;
}
