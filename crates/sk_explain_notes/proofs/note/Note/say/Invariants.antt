use Rattle.std.proofs.Common.{◌≡◌, ◌++◌, map, take}
use Rattle.std.specs.List.{flat_map}
use Rattle.sk_explain_notes.specs.Notes.{plain}
use Rattle.sk_explain_notes.proofs.note.Note.say.Given as goal

abbrev pub invariant-loop-word : goal.invariant-loop-word
invariant-loop-word l = l.self.bytes.items ≡ l.fn.self.bytes.items ++ flat_map (λ word. map plain word.now) (take l.word-index l.words)
