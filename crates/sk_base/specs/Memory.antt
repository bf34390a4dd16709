-- What sources and sinks in memory do. Their calls have numbers, from 0.
use Rattle.std.specs.Prelude.{ℕ, zero, suc, ◌+◌, ◌==◌, min, Bool, true, false, ◌||◌, List, [], ◌∷◌}
use Rattle.sk_base.specs.Stream.{greatest_count}
use Rattle.sk_base.specs.declared.source.Got.{Got}
use Rattle.sk_base.specs.declared.source.Got.TheVariants.{Bytes, End, Failed}
use Rattle.sk_base.specs.declared.sink.Put.{Put}
use Rattle.sk_base.specs.declared.sink.Put.TheVariants.{Wrote, Failed as Refused}

-- some number of the list is n
abbrev pub is_listed : List ℕ → ℕ → Bool
is_listed [] n = false
is_listed (m ∷ ms) n = (m == n) || is_listed ms n

-- the next number of a count that stays at its greatest number
abbrev pub counted : ℕ → ℕ
counted n = min (n + 1) greatest_count

-- what a source in memory answers to a call that is listed or not, for a buffer of so many bytes, with so many left
abbrev pub memory_read : Bool → ℕ → ℕ → ℕ → Got
memory_read true step room left = Failed
memory_read false step room zero = End
memory_read false step room (suc left) = Bytes (min (min step room) (suc left))

-- what a sink in memory answers to a call that is listed or not, when so many bytes are offered
abbrev pub memory_written : Bool → ℕ → ℕ → Put
memory_written true step offered = Refused
memory_written false step offered = Wrote (min step offered)
