-- What a source of bytes and a sink of bytes do at a call.
use Rattle.std.specs.Prelude.{ℕ, ◌+◌, ◌<◌, ◌≤◌, ◌≡◌, ◌⊎◌, List, [], ◌++◌, length, take, Option, option_map, IfSome}
use Rattle.sk_base.specs.declared.source.Got.{Got}
use Rattle.sk_base.specs.declared.source.Got.TheVariants.{Bytes, End, Failed}
use Rattle.sk_base.specs.declared.sink.Put.{Put}
use Rattle.sk_base.specs.declared.sink.Put.TheVariants.{Wrote, Failed as Refused}

-- the greatest number that a count of faults reaches: 2^64 - 1
abbrev pub greatest_count : ℕ
greatest_count = 18446744073709551615

-- a count of faults rose in a call: it is greater after it, or it stands at its greatest number
abbrev pub Rose : ℕ → ℕ → Type 0
Rose old new = (old < new) ⊎ (greatest_count ≤ new)

-- a count of faults does not fall, and stays a count
pub record Counts (old new : ℕ) : Type 0 where
  pub later : old ≤ new
  pub within : new ≤ greatest_count

-- nothing is left, where this is told
abbrev pub NothingLeft : Option (List ℕ) → Type 0
NothingLeft left = IfSome left (λ bytes. bytes ≡ [])

-- `Bytes(n)`: the first n bytes of `into` are the first n that were left, and the others are left, in order. What is
-- left is told afterwards where it was told before.
pub record IsTaken (n : ℕ) (into : List ℕ) (old new : Option (List ℕ)) : Type 0 where
  pub within : n ≤ length into
  pub front : old ≡ option_map (λ rest. take n into ++ rest) new
  pub none : n ≡ 0 → NothingLeft old

-- `End`: nothing is left
pub record IsEnd (old new : Option (List ℕ)) : Type 0 where
  pub none : NothingLeft old
  pub same : new ≡ old

-- `Failed`: the count rose, and the bytes left are unchanged
pub record IsUnread (faults_old faults_new : ℕ) (old new : Option (List ℕ)) : Type 0 where
  pub rose : Rose faults_old faults_new
  pub same : new ≡ old

-- what a read answers
abbrev pub IsRead : Got → List ℕ → ℕ → ℕ → Option (List ℕ) → Option (List ℕ) → Type 0
IsRead (Bytes n) into faults_old faults_new old new = IsTaken n into old new
IsRead End into faults_old faults_new old new = IsEnd old new
IsRead Failed into faults_old faults_new old new = IsUnread faults_old faults_new old new

-- `Wrote(n)`: the first n bytes are appended, and `spare` is lowered by at most n. What is held is told afterwards
-- where it was told before.
pub record IsAppended (n : ℕ) (bytes : List ℕ) (old new : Option (List ℕ)) (spare_old spare_new : ℕ) : Type 0 where
  pub some : 0 < n
  pub within : n ≤ length bytes
  pub end : new ≡ option_map (λ held. held ++ take n bytes) old
  pub spare : spare_old ≤ spare_new + n

-- `Failed`: the count rose, nothing is appended, and `spare` is as it was
pub record IsUnwritten (faults_old faults_new : ℕ) (old new : Option (List ℕ)) (spare_old spare_new : ℕ) : Type 0 where
  pub rose : Rose faults_old faults_new
  pub same : new ≡ old
  pub spare : spare_new ≡ spare_old

-- what a write answers
abbrev pub IsWritten : Put → List ℕ → ℕ → ℕ → Option (List ℕ) → Option (List ℕ) → ℕ → ℕ → Type 0
IsWritten (Wrote n) bytes faults_old faults_new old new spare_old spare_new = IsAppended n bytes old new spare_old spare_new
IsWritten Refused bytes faults_old faults_new old new spare_old spare_new = IsUnwritten faults_old faults_new old new spare_old spare_new
