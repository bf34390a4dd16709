use Rattle.std.proofs.Common.{◌≡◌, ◌++◌, drop, map}
use Rattle.sk_model.specs.Values.{zero_of}
use Rattle.sk_interp.proofs.memory.zeros.Given as goal

abbrev pub invariant-loop-field : goal.invariant-loop-field
invariant-loop-field l = l.made ++ map (λ f. zero_of f.ty) (drop l.field-index l.fields) ≡ map (λ f. zero_of f.ty) l.fields
