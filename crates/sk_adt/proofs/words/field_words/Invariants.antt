use Rattle.std.proofs.Common.{◌≡◌, take, map}
use Rattle.sk_adt.proofs.words.field_words.Given as goal

abbrev pub invariant-loop-field : goal.invariant-loop-field
invariant-loop-field l = l.out ≡ map (λ f. f.word) (take l.field-index l.fields)
