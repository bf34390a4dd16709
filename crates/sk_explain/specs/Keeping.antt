-- What a source that keeps what was read has kept, and a sink that keeps what was written.
use Rattle.std.specs.Prelude.{ℕ, ◌≡◌, List, [], ◌++◌, take, Option, Some, None, if◌then◌else◌, IsTrue}
use Rattle.sk_base.specs.declared.source.Got.{Got}
use Rattle.sk_base.specs.declared.source.Got.TheVariants.{Bytes, End, Failed}
use Rattle.sk_base.specs.declared.sink.Put.{Put}
use Rattle.sk_base.specs.declared.sink.Put.TheVariants.{Wrote, Failed as Refused}
use Rattle.sk_explain.specs.declared.kept.Kept.{Kept}

-- what is kept: the bytes that were read or written, where there was memory for all of them
abbrev pub kept_bytes : Kept → Option (List ℕ)
kept_bytes kept = if kept.is_whole then Some kept.bytes.items else None

-- the bytes that a read gave at the front of its buffer
abbrev pub given : Got → List ℕ → List ℕ
given (Bytes n) into = take n into
given End into = []
given Failed into = []

-- after a read: where all bytes are kept, all were before it, and those that it gave stand behind them
pub record Keeps (got : Got) (into : List ℕ) (old new : Kept) : Type 0 where
  pub before : IsTrue new.is_whole → IsTrue old.is_whole
  pub bytes : IsTrue new.is_whole → new.bytes.items ≡ old.bytes.items ++ given got into

-- the bytes that a write took, from the front of those offered
abbrev pub taken : Put → List ℕ → List ℕ
taken (Wrote n) bytes = take n bytes
taken Refused bytes = []

-- after a write: where all bytes are kept, all were before it, and those that it took stand behind them
pub record Takes (put : Put) (offered : List ℕ) (old new : Kept) : Type 0 where
  pub before : IsTrue new.is_whole → IsTrue old.is_whole
  pub bytes : IsTrue new.is_whole → new.bytes.items ≡ old.bytes.items ++ taken put offered
