-- What a reader expects of the parts of an input: each input has two, and no others.
use Rattle.std.specs.Prelude.{ℕ, ◌≡◌, List}
use Rattle.sk_check_text.specs.Splitting.{Splits}

abbrev pub SplitsOnce : Type 0
SplitsOnce = (input s a t b : List ℕ) → Splits input s a → Splits input t b → (s ≡ t) × (a ≡ b)

abbrev pub EachSplits : Type 0
EachSplits = (input : List ℕ) → (sketch behind : List ℕ) × Splits input sketch behind
