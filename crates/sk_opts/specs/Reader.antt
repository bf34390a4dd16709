-- How the line that words spell (`IsLine`) is found by reading them one after the other, with or without a name
-- that waits for its value. No contract of a public call cites this; laws say that it finds that line, and none
-- where there is none.
use Rattle.std.specs.Prelude.{ℕ, ◌==◌, List, [], ◌∷◌, Option, Some, None, option_map, is_some, if◌then◌else◌, codes}
use Rattle.std.specs.Str.{bytes_eq}
use Rattle.sk_opts.specs.declared.line.Set.{Set}
use Rattle.sk_opts.specs.declared.line.Line.{Line}
use Rattle.sk_opts.specs.declared.line.Line.TheVariants as line
use Rattle.sk_opts.specs.Settings.{is_flag, of_bounds, of_synth, of_trace, setting_among, number_in, all_once, last_of, last_list}
use Rattle.sk_opts.specs.GivenValues.{given_value}
use Rattle.sk_opts.specs.declared.setting.Setting.{Setting}
use Rattle.sk_opts.specs.declared.setting.Setting.TheVariants.{Certificate, Holes}
use Rattle.sk_opts.specs.declared.setting.GivenValue.{GivenValue}
use Rattle.sk_opts.specs.declared.setting.GivenValue.TheVariants.{Number}
use Rattle.sk_opts.specs.declared.words.Words.{Words}
use Rattle.sk_opts.specs.CommandLine.{is_option, set_of, budget_of}

-- One word

-- what a word is before `--`
pub data Piece : Type 0 where
  -- the word `--`
  Ends : Piece
  -- `--name`
  Names : Setting → Piece
  -- `--name=v`
  Sets : Setting → List ℕ → Piece
  -- a word that is no option
  Plain : Piece
  -- an option that the command does not have
  Unknown : Piece

abbrev pub before_equals : List ℕ → List ℕ
before_equals [] = []
before_equals (b ∷ bs) = if b == 61 then [] else b ∷ before_equals bs

abbrev pub after_equals : List ℕ → Option (List ℕ)
after_equals [] = None
after_equals (b ∷ bs) = if b == 61 then Some bs else after_equals bs

abbrev pub option_piece : Option Setting → Option (List ℕ) → Piece
option_piece None value = Unknown
option_piece (Some s) None = Names s
option_piece (Some s) (Some value) = Sets s value

abbrev pub piece_of : List Setting → List ℕ → Piece
piece_of has word =
    if bytes_eq word (codes "--") then Ends
    else (if is_option word then option_piece (setting_among has (before_equals word)) (after_equals word)
    else Plain)

-- All words

abbrev pub with_setting : Setting → Option GivenValue → Option Words → Option Words
with_setting s None more = None
with_setting s (Some v) None = None
with_setting s (Some v) (Some more) = Some (record { settings = record { setting = s; value = v } ∷ more.settings; positionals = more.positionals })

abbrev pub with_positional : List ℕ → Option Words → Option Words
with_positional word None = None
with_positional word (Some more) = Some (record { settings = more.settings; positionals = word ∷ more.positionals })

-- one word, the words behind it, and how these are read: with or without a name that waits for its value
abbrev pub words_with : Piece → List ℕ → List (List ℕ) → (Option Setting → Option Words) → Option Words
words_with Ends word more read = Some (record { settings = []; positionals = more })
words_with (Names s) word more read = if is_flag s then with_setting s (Some (Number 0)) (read None) else read (Some s)
words_with (Sets s value) word more read = with_setting s (given_value s value) (read None)
words_with Plain word more read = with_positional word (read None)
words_with Unknown word more read = None

-- Words behind a name that waits for its value, or behind none.
abbrev pub words_from : List Setting → Option Setting → List (List ℕ) → Option Words
words_from has None [] = Some (record { settings = []; positionals = [] })
words_from has (Some s) [] = None
words_from has None (w ∷ ws) = words_with (piece_of has w) w ws (λ waiting. words_from has waiting ws)
words_from has (Some s) (w ∷ ws) = with_setting s (given_value s w) (words_from has None ws)

abbrev pub if_once : Option Words → Option Words
if_once None = None
if_once (Some words) = if all_once words.settings then Some words else None

-- the words behind a command that has these options, each at most once
abbrev pub words_of : List Setting → List (List ℕ) → Option Words
words_of has words = if_once (words_from has None words)

-- Lines

-- the line, where there are no positionals
abbrev pub if_none : List (List ℕ) → Line → Option Line
if_none [] l = Some l
if_none (w ∷ ws) l = None

abbrev pub synth_line : Option Words → Option Line
synth_line None = None
synth_line (Some w) = if_none w.positionals (line.Synth (set_of w.settings) (budget_of w.settings) (is_some (last_of Certificate w.settings)))

-- a name and values
abbrev pub exec_with : Set → List (List ℕ) → Option Line
exec_with set [] = None
exec_with set (name ∷ values) = Some (line.Exec set name values)

abbrev pub exec_line : Option Words → Option Line
exec_line None = None
exec_line (Some w) = exec_with (set_of w.settings) w.positionals

-- a name and values, with the numbers for holes
abbrev pub trace_with : Set → Option (List ℕ) → List (List ℕ) → Option Line
trace_with set holes [] = None
trace_with set holes (name ∷ values) = Some (line.Trace set name values holes)

abbrev pub trace_line : Option Words → Option Line
trace_line None = None
trace_line (Some w) = trace_with (set_of w.settings) (last_list Holes w.settings) w.positionals

abbrev pub lower_line : Option Words → Option Line
lower_line None = None
lower_line (Some w) = if_none w.positionals (line.Lower (set_of w.settings))

abbrev pub prune_line : Option Words → Option Line
prune_line None = None
prune_line (Some w) = if_none w.positionals (line.Prune (set_of w.settings))

abbrev pub check_line : Option Words → Option Line
check_line None = None
check_line (Some w) = if_none w.positionals (line.Check (set_of w.settings))

-- one number from 1 to 100
abbrev pub all_with : Set → List (List ℕ) → Option Line
all_with set (n ∷ []) = option_map (line.All set) (number_in 1 100 n)
all_with set [] = None
all_with set (n ∷ m ∷ more) = None

abbrev pub all_line : Option Words → Option Line
all_line None = None
all_line (Some w) = all_with (set_of w.settings) w.positionals

abbrev pub why_line : Option Words → Option Line
why_line None = None
why_line (Some w) = if_none w.positionals (line.Why (set_of w.settings))

-- one number from 0 to 60
abbrev pub self_with : List (List ℕ) → Option Line
self_with (n ∷ []) = option_map line.Itself (number_in 0 60 n)
self_with [] = None
self_with (n ∷ m ∷ more) = None

abbrev pub self_line : Option Words → Option Line
self_line None = None
self_line (Some w) = self_with w.positionals

-- the line that words spell, where they spell one
unfoldable pub line_of : List (List ℕ) → Option Line
line_of [] = None
line_of (w ∷ ws) =
    if bytes_eq w (codes "synth") then synth_line (words_of of_synth ws)
    else (if bytes_eq w (codes "exec") then exec_line (words_of of_bounds ws)
    else (if bytes_eq w (codes "trace") then trace_line (words_of of_trace ws)
    else (if bytes_eq w (codes "lower") then lower_line (words_of of_bounds ws)
    else (if bytes_eq w (codes "prune") then prune_line (words_of of_bounds ws)
    else (if bytes_eq w (codes "check") then check_line (words_of of_bounds ws)
    else (if bytes_eq w (codes "all") then all_line (words_of of_bounds ws)
    else (if bytes_eq w (codes "why") then why_line (words_of of_bounds ws)
    else (if bytes_eq w (codes "self") then self_line (words_of [] ws)
    else (if bytes_eq w (codes "--help") then if_none ws line.Help
    else (if bytes_eq w (codes "--version") then if_none ws line.Version
    else None))))))))))
