-- A reader at its end has nothing left.
use Rattle.std.specs.Prelude.{ℕ, List, Option, None, Some}
use Rattle.std.specs.Io.KnownBytes.{IsAtEnd}
use Rattle.sk_base.specs.Stream.{NothingLeft}

pub at_end : (left : Option (List ℕ)) → IsAtEnd left → NothingLeft left
at_end None end = end
at_end (Some bytes) end = end
