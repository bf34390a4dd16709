-- What one read adds to the text.
use Rattle.std.specs.Prelude.{ℕ, ◌≤◌, ◌≡◌, List, ◌++◌, length, Option, option_map, Result, Ok, Err}
use Rattle.std.specs.declared.alloc.AllocError.{AllocError}
use Rattle.sk_base.specs.Stream.{Counts, NothingLeft, Rose}
use Rattle.sk_app_reading.specs.declared.text.Step.{Step}
use Rattle.sk_app_reading.specs.declared.text.Step.TheVariants.{More, End, Failed}

-- so many bytes at most moved from what was left to the end of the text
pub record Moves (least : ℕ) (text_old text_new : List ℕ) (room : ℕ) (left_old left_new : Option (List ℕ)) : Type 0 where
  pub bytes : List ℕ
  pub some : least ≤ length bytes
  pub most : length bytes ≤ room
  pub text : text_new ≡ text_old ++ bytes
  pub left : left_old ≡ option_map (λ rest. bytes ++ rest) left_new

-- nothing was left
pub record Stays (text_old text_new : List ℕ) (left_old left_new : Option (List ℕ)) : Type 0 where
  pub text : text_new ≡ text_old
  pub left : left_new ≡ left_old

-- bytes that were taken and not kept, where memory was wanting
pub record Loses (room : ℕ) (left_old left_new : Option (List ℕ)) : Type 0 where
  pub bytes : List ℕ
  pub most : length bytes ≤ room
  pub left : left_old ≡ option_map (λ rest. bytes ++ rest) left_new

abbrev pub StepIs : Result Step AllocError → List ℕ → List ℕ → ℕ → ℕ → ℕ → Option (List ℕ) → Option (List ℕ) → Type 0
StepIs (Ok More) text_old text_new most faults_old faults_new left_old left_new = Moves 1 text_old text_new most left_old left_new
StepIs (Ok End) text_old text_new most faults_old faults_new left_old left_new = Stays text_old text_new left_old left_new × NothingLeft left_old
StepIs (Ok Failed) text_old text_new most faults_old faults_new left_old left_new = Stays text_old text_new left_old left_new × Rose faults_old faults_new
StepIs (Err e) text_old text_new most faults_old faults_new left_old left_new = Loses most left_old left_new

pub record IsStep (result : Result Step AllocError) (text_old text_new : List ℕ) (most faults_old faults_new : ℕ) (left_old left_new : Option (List ℕ)) : Type 0 where
  pub count : Counts faults_old faults_new
  pub is : StepIs result text_old text_new most faults_old faults_new left_old left_new
