-- The command line that words spell. The first word is the command. The words behind it are parts in any
-- order: options that the command has, each at most once, and positionals; and behind these perhaps the word
-- `--` with words that are positionals whatever they are.
use Rattle.std.specs.Prelude.{◌≡◌, ℕ, Bool, false, true, ◌==◌, List, [], ◌∷◌, ◌++◌, Contains, Option, Some, None, is_some, unwrap_or, IsTrue, codes}
use Rattle.std.specs.List.{flat_map, All}
use Rattle.sk_base.specs.declared.bounds.Budget.{Budget}
use Rattle.sk_opts.specs.declared.line.Set.{Set}
use Rattle.sk_opts.specs.declared.line.Line.{Line}
use Rattle.sk_opts.specs.declared.line.Line.TheVariants as line
use Rattle.sk_opts.specs.Settings.{setting_bytes, is_flag, of_bounds, of_synth, of_trace, number_in, all_once, last_of, last_list}
use Rattle.sk_opts.specs.GivenValues.{given_value}
use Rattle.sk_opts.specs.declared.setting.Setting.{Setting}
use Rattle.sk_opts.specs.declared.setting.Setting.TheVariants.{Certificate, HoleBits, InputBits, Turns, Calls, IntBits, Rounds, Conflicts, Holes}
use Rattle.sk_opts.specs.declared.setting.Given.{Given}
use Rattle.sk_opts.specs.declared.setting.GivenValue.TheVariants.{Number}
use Rattle.sk_opts.specs.declared.words.Words.{Words}

-- Parts of a line

pub data Part : Type 0 where
  -- `--name v`, an option with what spells its value, in two words
  Apart : Given → List ℕ → Part
  -- `--name=v`, in one word
  Joined : Given → List ℕ → Part
  -- `--name`, an option that takes no value
  Flag : Setting → Part
  -- a word that is no option
  Positional : List ℕ → Part

-- the words that a part is
abbrev pub part_words : Part → List (List ℕ)
part_words (Apart g v) = setting_bytes g.setting ∷ v ∷ []
part_words (Joined g v) = (setting_bytes g.setting ++ codes "=" ++ v) ∷ []
part_words (Flag s) = setting_bytes s ∷ []
part_words (Positional w) = w ∷ []

-- An option starts with a minus sign and is longer than that.
abbrev pub is_option : List ℕ → Bool
is_option [] = false
is_option (b ∷ []) = false
is_option (b ∷ c ∷ bs) = b == 45

-- whether it is a part behind a command that has these options: what spells a value is a number in the range of
-- its option, or for `--holes` numbers with commas between them
abbrev pub IsPart : List Setting → Part → Type 0
IsPart has (Apart g v) = Contains has g.setting × (given_value g.setting v ≡ Some g.value)
IsPart has (Joined g v) = Contains has g.setting × (given_value g.setting v ≡ Some g.value)
IsPart has (Flag s) = Contains has s × (is_flag s ≡ true)
IsPart has (Positional w) = is_option w ≡ false

-- the settings and the positionals that it gives
abbrev pub part_settings : Part → List Given
part_settings (Apart g v) = g ∷ []
part_settings (Joined g v) = g ∷ []
part_settings (Flag s) = record { setting = s; value = Number 0 } ∷ []
part_settings (Positional w) = []

abbrev pub part_positionals : Part → List (List ℕ)
part_positionals (Apart g v) = []
part_positionals (Joined g v) = []
part_positionals (Flag s) = []
part_positionals (Positional w) = w ∷ []

-- Words behind a command

-- the word `--` with the positionals behind it, where it stands
abbrev pub end_words : Option (List (List ℕ)) → List (List ℕ)
end_words None = []
end_words (Some ps) = codes "--" ∷ ps

-- the words are parts, one after another, and perhaps `--` with positionals, and these give that
pub record Divides (has : List Setting) (words : List (List ℕ)) (given : Words) : Type 0 where
  pub parts : List Part
  pub end : Option (List (List ℕ))
  pub each : All (IsPart has) parts
  pub spelt : words ≡ flat_map part_words parts ++ end_words end
  pub settings : given.settings ≡ flat_map part_settings parts
  pub positionals : given.positionals ≡ flat_map part_positionals parts ++ unwrap_or end []

-- a command with words behind it that give this, where no option stands twice
pub record HasWords (command : List ℕ) (has : List Setting) (words : List (List ℕ)) (given : Words) : Type 0 where
  pub behind : List (List ℕ)
  pub first : words ≡ command ∷ behind
  pub divided : Divides has behind given
  pub once : IsTrue (all_once given.settings)

-- Lines

abbrev pub set_of : List Given → Set
set_of gs = record { cbits = last_of HoleBits gs; inbits = last_of InputBits gs; unroll = last_of Turns gs; inline_amnt = last_of Calls gs; int_bits = last_of IntBits gs }

abbrev pub budget_of : List Given → Budget
budget_of gs = record { rounds = unwrap_or (last_of Rounds gs) 0; conflicts = unwrap_or (last_of Conflicts gs) 0 }

-- the words spell this line: a command that has its options, and the positionals that it wants
abbrev pub IsLine : List (List ℕ) → Line → Type 0
-- no positional
IsLine words (line.Synth set budget cert) =
    (w : Words) × HasWords (codes "synth") of_synth words w × (w.positionals ≡ []) × (set ≡ set_of w.settings) × (budget ≡ budget_of w.settings)
    × (cert ≡ is_some (last_of Certificate w.settings))
-- a name and values
IsLine words (line.Exec set name values) = (w : Words) × HasWords (codes "exec") of_bounds words w × (w.positionals ≡ name ∷ values) × (set ≡ set_of w.settings)
-- a name and values, and perhaps numbers for holes
IsLine words (line.Trace set name values holes) =
    (w : Words) × HasWords (codes "trace") of_trace words w × (w.positionals ≡ name ∷ values) × (set ≡ set_of w.settings) × (holes ≡ last_list Holes w.settings)
IsLine words (line.Lower set) = (w : Words) × HasWords (codes "lower") of_bounds words w × (w.positionals ≡ []) × (set ≡ set_of w.settings)
IsLine words (line.Prune set) = (w : Words) × HasWords (codes "prune") of_bounds words w × (w.positionals ≡ []) × (set ≡ set_of w.settings)
IsLine words (line.Check set) = (w : Words) × HasWords (codes "check") of_bounds words w × (w.positionals ≡ []) × (set ≡ set_of w.settings)
-- one number from 1 to 100
IsLine words (line.All set most) =
    (w : Words) × HasWords (codes "all") of_bounds words w × ((digits : List ℕ) × (w.positionals ≡ digits ∷ []) × (number_in 1 100 digits ≡ Some most)) × (set ≡ set_of w.settings)
IsLine words (line.Why set) = (w : Words) × HasWords (codes "why") of_bounds words w × (w.positionals ≡ []) × (set ≡ set_of w.settings)
-- one number from 0 to 60
IsLine words (line.Itself n) = (w : Words) × HasWords (codes "self") [] words w × ((digits : List ℕ) × (w.positionals ≡ digits ∷ []) × (number_in 0 60 digits ≡ Some n))
IsLine words line.Help = words ≡ codes "--help" ∷ []
IsLine words line.Version = words ≡ codes "--version" ∷ []
