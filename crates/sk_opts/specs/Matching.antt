-- The command of `clap` with which words behind a command word are read, and what its matches say of them.
use Rattle.std.specs.Prelude.{◌≡◌, ◌||◌, ℕ, Bool, true, false, List, [], ◌∷◌, drop, Option, Some, None, option_map, unwrap_or, if◌then◌else◌, codes}
use Rattle.std.specs.Str.{bytes_eq}
use Rattle.clap.specs.Lexer.{is_short_word}
use Rattle.clap.specs.Walk.{Rule, Row, first_of, all_of}
use Rattle.clap.specs.Simple.{App, new_app, new_rule, on_top, with_rule}
use Rattle.clap.specs.declared.builder.action.ArgAction.{ArgAction}
use Rattle.clap.specs.declared.builder.action.ArgAction.TheVariants.{Append, Set as Single, SetTrue}
use Rattle.sk_opts.specs.declared.setting.Setting.{Setting}
use Rattle.sk_opts.specs.declared.setting.Given.{Given}
use Rattle.sk_opts.specs.declared.setting.GivenValue.{GivenValue}
use Rattle.sk_opts.specs.declared.setting.GivenValue.TheVariants.{Number}
use Rattle.sk_opts.specs.declared.words.Words.{Words}
use Rattle.sk_opts.specs.declared.matching.Matched.{Matched}
use Rattle.sk_opts.specs.declared.matching.Matched.TheVariants.{Absent, Value, NoValue}
use Rattle.sk_opts.specs.Settings.{setting_bytes, is_flag, of_bounds, of_synth, of_trace, last_value}
use Rattle.sk_opts.specs.GivenValues.{given_value}

-- Commands

-- the name of an option, without its two minus signs
abbrev pub setting_name : Setting → List ℕ
setting_name s = drop 2 (setting_bytes s)

-- An option is given once at most, and has one value unless it is a flag.
abbrev pub setting_action : Bool → ArgAction
setting_action true = SetTrue
setting_action false = Single

abbrev pub option_rule : Setting → Rule
option_rule s = record (new_rule (setting_name s)) { long = Some (setting_name s); action = Some (setting_action (is_flag s)) }

-- the positionals, any number of them
abbrev pub words_rule : Rule
words_rule = record (new_rule (codes "words")) { action = Some Append }

-- a command with no program's name in front, and no flags of its own
abbrev pub bare_app : App
bare_app = on_top (λ s. record s { no_binary_name = true; disable_help_flag = true; disable_version_flag = true }) (new_app (codes "sketch"))

abbrev pub with_options : App → List Setting → App
with_options a [] = a
with_options a (s ∷ ss) = with_options (with_rule a (option_rule s)) ss

-- the command that has these options, and positionals
abbrev pub command_app : List Setting → App
command_app has = with_rule (with_options bare_app has) words_rule

-- Words that are refused before `clap` sees them: one minus sign with something behind it, before `--`. No option has a
-- name of one letter.
abbrev pub has_short_word : List (List ℕ) → Bool
has_short_word [] = false
has_short_word (w ∷ ws) = if bytes_eq w (codes "--") then false else (is_short_word w || has_short_word ws)

-- Matches

abbrev pub flag_match : Bool → Matched
flag_match true = Value (Number 0)
flag_match false = Absent

abbrev pub value_match : Option GivenValue → Matched
value_match None = NoValue
value_match (Some v) = Value v

-- what an option's text in the matches says of it
abbrev pub match_of : Setting → Option (List ℕ) → Matched
match_of s None = Absent
match_of s (Some text) = if is_flag s then flag_match (bytes_eq text (codes "true")) else value_match (given_value s text)

-- an option, in front of what the others give: none where its text is no value of it
abbrev pub more_by : Setting → Matched → Option (List Given) → Option (List Given)
more_by s Absent more = more
more_by s (Value v) more = option_map (λ gs. record { setting = s; value = v } ∷ gs) more
more_by s NoValue more = None

-- what the matches give these options, in their order
abbrev pub matched_settings : List Setting → List Row → Option (List Given)
matched_settings [] rows = Some []
matched_settings (s ∷ ss) rows = more_by s (match_of s (first_of (setting_name s) rows)) (matched_settings ss rows)

abbrev pub matched_positionals : List Row → List (List ℕ)
matched_positionals rows = unwrap_or (all_of (codes "words") rows) []

-- Readings

-- two readings have the same positionals, and each option has the same value in both
abbrev pub SameWords : Words → Words → Type 0
SameWords v w = (v.positionals ≡ w.positionals) × ((s : Setting) → last_value s v.settings ≡ last_value s w.settings)

-- both find nothing, or the same
abbrev pub SameReading : Option Words → Option Words → Type 0
SameReading None None = Unit {0}
SameReading None (Some w) = ⊥
SameReading (Some v) None = ⊥
SameReading (Some v) (Some w) = SameWords v w

abbrev pub words_with_settings : Option (List Given) → List (List ℕ) → Option Words
words_with_settings None positionals = None
words_with_settings (Some gs) positionals = Some (record { settings = gs; positionals = positionals })

-- what the matches say, where the words are matched
abbrev pub matched_words : List Setting → List Row → Option Words
matched_words has rows = words_with_settings (matched_settings has rows) (matched_positionals rows)

-- Options of commands

-- those that a command of the program has
pub data IsOptions : List Setting → Type 0 where
  NoOptions : IsOptions []
  BoundsOptions : IsOptions of_bounds
  SynthOptions : IsOptions of_synth
  TraceOptions : IsOptions of_trace
