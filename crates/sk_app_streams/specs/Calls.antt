-- What one call of a reader or a writer means for the source or the sink above it.
use Rattle.std.specs.Prelude.{ℕ, ◌+◌, ◌≡◌, ◌<◌, min, List, length, take, Option, Some, None, Result, Ok, Err, zero, suc}
use Rattle.std.specs.Io.KnownBytes.{Keeps, Appends, Consumes, IsAtEnd}
use Rattle.sk_base.specs.declared.source.Got.{Got}
use Rattle.sk_base.specs.declared.source.Got.TheVariants.{Bytes, End, Failed}
use Rattle.sk_base.specs.declared.sink.Put.{Put}
use Rattle.sk_base.specs.declared.sink.Put.TheVariants.{Wrote, Failed as Refused}
use Rattle.sk_base.specs.Stream.{greatest_count}

-- how many bytes a call of a reader gave, or one of a writer took, if it did not fail
abbrev pub count_of : {E : Type 0} → Result ℕ E → Option ℕ
count_of (Ok n) = Some n
count_of (Err e) = None

-- the reader gave so many bytes, the next of what is left, at the front of the buffer, and none only at the end; where it failed, what is left is as it was
abbrev pub IsReadOf : Option ℕ → List ℕ → Option (List ℕ) → Option (List ℕ) → Type 0
IsReadOf (Some n) into old new = Consumes old new (take n into) × (n ≡ 0 → 0 < length into → IsAtEnd new)
IsReadOf None into old new = Keeps old new

-- the writer took so many bytes from the front of those offered; where it failed, what it holds is as it was
abbrev pub IsWriteOf : Option ℕ → List ℕ → Option (List ℕ) → Option (List ℕ) → Type 0
IsWriteOf (Some n) offered old new = Appends old new (take n offered)
IsWriteOf None offered old new = Keeps old new

-- the count of faults after one more: it stays at its greatest number
abbrev pub one_more : ℕ → ℕ
one_more faults = min (faults + 1) greatest_count

-- what a source answers where its reader gave this: no bytes are the end
abbrev pub got_of : Option ℕ → Got
got_of (Some zero) = End
got_of (Some (suc n)) = Bytes (suc n)
got_of None = Failed

-- the count of faults of a source after its reader gave this: a failure alone counts
abbrev pub read_faults : Option ℕ → ℕ → ℕ
read_faults (Some n) faults = faults
read_faults None faults = one_more faults

-- what a sink answers where its writer gave this: no bytes taken of some that were offered are a failure too
abbrev pub put_of : Option ℕ → Put
put_of (Some zero) = Refused
put_of (Some (suc n)) = Wrote (suc n)
put_of None = Refused

-- the count of faults of a sink after its writer gave this
abbrev pub write_faults : Option ℕ → ℕ → ℕ
write_faults (Some zero) faults = one_more faults
write_faults (Some (suc n)) faults = faults
write_faults None faults = one_more faults

-- One call of the reader was made, `one` says what it did, and the answer and the count are those of what it gave.
pub record IsOneRead (one : Option ℕ → Type 0) (got : Got) (faults_old faults_new : ℕ) : Type 0 where
  pub given : Option ℕ
  pub call : one given
  pub answer : got ≡ got_of given
  pub count : faults_new ≡ read_faults given faults_old

-- The same of one call of the writer.
pub record IsOneWrite (one : Option ℕ → Type 0) (put : Put) (faults_old faults_new : ℕ) : Type 0 where
  pub given : Option ℕ
  pub call : one given
  pub answer : put ≡ put_of given
  pub count : faults_new ≡ write_faults given faults_old
