-- What reading a source up to a limit gives, and what writing a text leaves.
use Rattle.std.specs.Prelude.{ℕ, ◌+◌, ◌<◌, ◌≤◌, ◌≡◌, List, ◌++◌, length, Option, option_map, IfSome}
use Rattle.sk_base.specs.Stream.{Rose}
use Rattle.sk_app_reading.specs.declared.text.Reading.{Reading}
use Rattle.sk_app_reading.specs.declared.text.Reading.TheVariants.{Whole, Long, Failed}
use Rattle.sk_app_reading.specs.declared.output.Delivery.{Delivery}
use Rattle.sk_app_reading.specs.declared.output.Delivery.TheVariants.{Written, Cut, NoRoom}

-- all bytes that were left, where this is told, are these, and they are at most so many
pub record IsWhole (most : ℕ) (text : List ℕ) (old : Option (List ℕ)) : Type 0 where
  pub short : length text ≤ most
  pub whole : IfSome old (λ left. left ≡ text)

-- more bytes were left, where this is told
abbrev pub IsLong : ℕ → Option (List ℕ) → Type 0
IsLong most old = IfSome old (λ left. most < length left)

-- what was read of a source: all its bytes, or that they are more than so many, or that it failed
abbrev pub IsRead : ℕ → Reading → ℕ → ℕ → Option (List ℕ) → Type 0
IsRead most (Whole text) faults_old faults_new old = IsWhole most text.items old
IsRead most Long faults_old faults_new old = IsLong most old
IsRead most Failed faults_old faults_new old = Rose faults_old faults_new

-- At most one byte past the limit was taken from what was left, where this is told.
pub record TakesFew (most : ℕ) (old new : Option (List ℕ)) : Type 0 where
  pub taken : List ℕ
  pub few : length taken ≤ most + 1
  pub split : old ≡ option_map (λ rest. taken ++ rest) new

-- these bytes were appended to what is held, where this is told
abbrev pub Appends : List ℕ → Option (List ℕ) → Option (List ℕ) → Type 0
Appends bytes old new = new ≡ option_map (λ held. held ++ bytes) old

-- a prefix of these bytes was appended to what is held, where this is told
pub record AppendsPrefix (bytes : List ℕ) (old new : Option (List ℕ)) : Type 0 where
  pub front : List ℕ
  pub rest : List ℕ
  pub split : bytes ≡ front ++ rest
  pub appends : Appends front old new

-- the sink failed, behind a prefix of the text
pub record IsCut (out : List ℕ) (faults_old faults_new : ℕ) (old new : Option (List ℕ)) : Type 0 where
  pub rose : Rose faults_old faults_new
  pub appends : AppendsPrefix out old new

-- what became of a text: it was written whole, or cut off, or there was no room for it
abbrev pub IsDelivered : Delivery → List ℕ → ℕ → ℕ → Option (List ℕ) → Option (List ℕ) → Type 0
IsDelivered Written out faults_old faults_new old new = Appends out old new
IsDelivered Cut out faults_old faults_new old new = IsCut out faults_old faults_new old new
IsDelivered NoRoom out faults_old faults_new old new = new ≡ old
