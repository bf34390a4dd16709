-- A call of `run`: its words, how it ends, and what it does to its source and its sink.
use Rattle.std.specs.Prelude.{ℕ, ◌≡◌, List, Option, IfSome, map, String, string_bytes}
use Rattle.std.specs.Borrow.{MutBor}
use denote.Triple.Both.{Both}
use Rattle.sk_base.specs.Stream.{Rose}
use Rattle.sk_base.specs.declared.source.Source as source
use Rattle.sk_base.specs.declared.sink.Sink as sink
use Rattle.sk_app.specs.declared.ending.Ending.{Ending}
use Rattle.sk_app.specs.Ending.{status_of}
use Rattle.sk_app.specs.Ends.{Writes}

-- what is left of the source before and after a call, what the sink holds, where they tell it, and the counts of
-- their faults
pub record Effect : Type 0 where
  pub left_old : Option (List ℕ)
  pub left_new : Option (List ℕ)
  pub read_faults_old : ℕ
  pub read_faults_new : ℕ
  pub held_old : Option (List ℕ)
  pub held_new : Option (List ℕ)
  pub write_faults_old : ℕ
  pub write_faults_new : ℕ

pub record Call : Type 0 where
  pub words : List (List ℕ)
  pub ending : Ending
  pub effect : Effect

-- The effect on the source and the sink of a contract: `entry` is what each is as the call begins, `exit` as it returns.
abbrev pub effect : {S K : Type 0} → source.Ghosts S → sink.Ghosts K → Both (MutBor S) (MutBor S) → Both (MutBor K) (MutBor K) → Effect
effect s k from to = record {
  left_old = s.left from.entry.now;
  left_new = s.left from.exit.now;
  read_faults_old = s.faults from.entry.now;
  read_faults_new = s.faults from.exit.now;
  held_old = k.held to.entry.now;
  held_new = k.held to.exit.now;
  write_faults_old = k.faults to.entry.now;
  write_faults_new = k.faults to.exit.now;
}

abbrev pub call : {S K Z : Type 0} → source.Ghosts S → sink.Ghosts K → List (String Z) → Ending → Both (MutBor S) (MutBor S) → Both (MutBor K) (MutBor K) → Call
call s k words ending from to = record { words = map string_bytes words; ending = ending; effect = effect s k from to }

-- The program ends with this status.
abbrev pub EndsWith : ℕ → Call → Type 0
EndsWith status c = status_of c.ending ≡ status

-- This holds of the text that the source had left, where it tells that.
abbrev pub OfText : Call → (List ℕ → Type 0) → Type 0
OfText c Holds = IfSome c.effect.left_old Holds

-- A text of this kind was appended to what the sink held, where it tells that.
abbrev pub Gets : Call → (List ℕ → Type 0) → Type 0
Gets c Kind = Writes Kind c.effect.held_old c.effect.held_new

-- The source failed: its count of faults rose.
abbrev pub SourceFailed : Call → Type 0
SourceFailed c = Rose c.effect.read_faults_old c.effect.read_faults_new

-- The sink failed.
abbrev pub SinkFailed : Call → Type 0
SinkFailed c = Rose c.effect.write_faults_old c.effect.write_faults_new
