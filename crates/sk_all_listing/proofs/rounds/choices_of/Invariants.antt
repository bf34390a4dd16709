use Rattle.std.proofs.Common.{◌≡◌, take}
use Rattle.sk_all_listing.specs.Completions.{choices_of}
use Rattle.sk_all_listing.proofs.rounds.choices_of.Given as goal

-- the first ones
abbrev pub invariant-loop-i : goal.invariant-loop-i
invariant-loop-i l = l.choices ≡ choices_of (take l.i l.listed)
