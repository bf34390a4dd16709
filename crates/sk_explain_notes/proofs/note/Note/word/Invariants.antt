use Rattle.std.proofs.Common.{◌≡◌, ◌++◌, map, take}
use Rattle.sk_explain_notes.specs.Notes.{plain}
use Rattle.sk_explain_notes.proofs.note.Note.word.Given as goal

abbrev pub invariant-loop-byte : goal.invariant-loop-byte
invariant-loop-byte l = l.self.bytes.items ≡ l.fn.self.bytes.items ++ map plain (take l.byte-index l.word)
