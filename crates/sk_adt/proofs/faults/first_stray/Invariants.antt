use Rattle.std.proofs.Common.{◌≡◌, drop}
use Rattle.std.specs.Prelude.{option_map}
use Rattle.sk_adt.specs.Faults.{first_stray}
use Rattle.sk_adt.proofs.faults.first_stray.Given as goal

abbrev pub invariant-loop-word : goal.invariant-loop-word
invariant-loop-word l = first_stray l.known (option_map (λ x. x.now) l.ty) (drop l.word-index l.words) ≡ first_stray l.known (option_map (λ x. x.now) l.ty) l.words
