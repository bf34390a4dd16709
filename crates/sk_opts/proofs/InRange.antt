-- The numbers of a line lie in their ranges.
use Rattle.std.proofs.Common.{◌≡◌, ℕ, Bool, true, false, cond, leb, ◌&&◌, List, [], ◌∷◌, Option, Some, None, option_map, refl, sym, ap, ◌∙◌, subst, arith, codes, is_some}
use Rattle.std.specs.Str.{bytes_eq}
use Rattle.std.proofs.lemmas.Bool.{leb-true}
use Rattle.std.proofs.lemmas.Slice.Eq.{bytes_eq-Decides}
use Rattle.std.specs.Option.{option_and_then}
use Rattle.sk_tree.specs.Tokens.{number_of}
use Rattle.sk_opts.specs.declared.line.Set.{Set}
use Rattle.sk_opts.specs.declared.line.Line.{Line}
use Rattle.sk_opts.specs.declared.line.Line.TheVariants as line
use Rattle.sk_opts.specs.declared.setting.Setting.{Setting}
use Rattle.sk_opts.specs.declared.setting.Setting.TheVariants.{HoleBits, InputBits, Turns, Calls, IntBits, Rounds, Conflicts, Certificate, Holes}
use Rattle.sk_opts.specs.declared.setting.Given.{Given}
use Rattle.sk_opts.specs.declared.setting.GivenValue.{GivenValue}
use Rattle.sk_opts.specs.declared.setting.GivenValue.TheVariants.{Number, Numbers}
use Rattle.sk_opts.specs.declared.words.Words.{Words}
use Rattle.sk_opts.specs.Settings.{setting_bytes, lowest, highest, is_flag, is_list, of_bounds, of_synth, of_trace, setting_among, is_number, number_in, value_in, all_once, is_of, last_from, number_given, last_of, last_list}
use Rattle.sk_opts.specs.SpeltValues.{between_commas}
use Rattle.sk_opts.specs.GivenValues.{long_numbers, given_value}
use Rattle.sk_opts.specs.CommandLine.{set_of, budget_of}
use Rattle.sk_opts.specs.Reader.{Piece, Ends, Names, Sets, Plain, Unknown, piece_of, with_setting, with_positional, words_with, words_from, if_once, words_of, if_none, synth_line, exec_with, exec_line, trace_with, trace_line, lower_line, prune_line, check_line, all_with, all_line, why_line, self_with, self_line, line_of}
use Rattle.sk_opts.specs.Ranges.{IsBetween, LiesIn, IsInRanges, LineIsInRanges}

-- Values

between : (low high n : ℕ) (b : Bool) → IsBetween low high (cond (b && (leb low n && leb n high)) (Some n) None)
between low high n false = tt
between low high n true =
    elim (leb low n) as (λ v. leb low n ≡ v → IsBetween low high (cond (v && leb n high) (Some n) None)) [
      | true ↦ λ e. elim (leb n high) as (λ u. leb n high ≡ u → IsBetween low high (cond u (Some n) None)) [
        | true ↦ λ f. (leb-true low n e, leb-true n high f)
        | false ↦ λ f. tt
      ] refl
      | false ↦ λ e. tt
    ] refl

value_lies : (s : Setting) (w : List ℕ) → LiesIn s (value_in s w)
value_lies s w =
    elim (is_flag s) as (λ v. LiesIn s (cond v None (number_in (lowest s) (highest s) w))) [
      | true ↦ tt
      | false ↦ between (lowest s) (highest s) (number_of w) (is_number w)
    ]

-- the number of a value lies in the range of its option
abbrev pub ValueLies : Setting → Option GivenValue → Type 0
ValueLies s value = LiesIn s (option_and_then number_given value)

given_lies : (s : Setting) (w : List ℕ) → ValueLies s (given_value s w)
given_lies s w =
    elim (is_list s) as (λ b. ValueLies s (cond b (option_map Numbers (long_numbers (between_commas w))) (option_map Number (value_in s w)))) [
      | true ↦ no_number (long_numbers (between_commas w))
      | false ↦ subst (LiesIn s) (sym (one_number (value_in s w))) (value_lies s w)
    ]
  where
    no_number : (o : Option (List ℕ)) → ValueLies s (option_map Numbers o)
    no_number None = tt
    no_number (Some ns) = tt

    one_number : (o : Option ℕ) → option_and_then number_given (option_map Number o) ≡ o
    one_number None = refl
    one_number (Some n) = refl

not_flag : false ≡ true → ⊥
not_flag e = cc

-- a flag has no value
pub flag_has_none : (s : Setting) (w : List ℕ) → is_flag s ≡ true → given_value s w ≡ None
flag_has_none HoleBits w e = absurd (not_flag e)
flag_has_none InputBits w e = absurd (not_flag e)
flag_has_none Turns w e = absurd (not_flag e)
flag_has_none Calls w e = absurd (not_flag e)
flag_has_none IntBits w e = absurd (not_flag e)
flag_has_none Rounds w e = absurd (not_flag e)
flag_has_none Conflicts w e = absurd (not_flag e)
flag_has_none Certificate w e = refl
flag_has_none Holes w e = absurd (not_flag e)

flag_lies : (s : Setting) → is_flag s ≡ true → LiesIn s (Some 0)
flag_lies HoleBits e = absurd (not_flag e)
flag_lies InputBits e = absurd (not_flag e)
flag_lies Turns e = absurd (not_flag e)
flag_lies Calls e = absurd (not_flag e)
flag_lies IntBits e = absurd (not_flag e)
flag_lies Rounds e = absurd (not_flag e)
flag_lies Conflicts e = absurd (not_flag e)
flag_lies Certificate e = (omega arith, omega arith)
flag_lies Holes e = absurd (not_flag e)

-- Words

abbrev pub AllLie : List Given → Type 0
AllLie [] = Unit {0}
AllLie (g ∷ gs) = ValueLies g.setting (Some g.value) × AllLie gs

abbrev pub WordsLie : Option Words → Type 0
WordsLie None = Unit {0}
WordsLie (Some words) = AllLie words.settings

setting_lies : (s : Setting) (n : Option GivenValue) (more : Option Words) → ValueLies s n → WordsLie more → WordsLie (with_setting s n more)
setting_lies s None more h k = tt
setting_lies s (Some n) None h k = tt
setting_lies s (Some n) (Some more) h k = (h, k)

positional_lies : (w : List ℕ) (more : Option Words) → WordsLie more → WordsLie (with_positional w more)
positional_lies w None k = tt
positional_lies w (Some more) k = k

piece_lies : (p : Piece) (w : List ℕ) (ws : List (List ℕ)) (read : Option Setting → Option Words) → ((waiting : Option Setting) → WordsLie (read waiting)) → WordsLie (words_with p w ws read)
piece_lies Ends w ws read h = tt
piece_lies (Names s) w ws read h =
    elim (is_flag s) as (λ v. is_flag s ≡ v → WordsLie (cond v (with_setting s (Some (Number 0)) (read None)) (read (Some s)))) [
      | true ↦ λ e. setting_lies s (Some (Number 0)) (read None) (flag_lies s e) (h None)
      | false ↦ λ e. h (Some s)
    ] refl
piece_lies (Sets s value) w ws read h = setting_lies s (given_value s value) (read None) (given_lies s value) (h None)
piece_lies Plain w ws read h = positional_lies w (read None) (h None)
piece_lies Unknown w ws read h = tt

words_lie : (has : List Setting) (waiting : Option Setting) (ws : List (List ℕ)) → WordsLie (words_from has waiting ws)
words_lie has None [] = tt
words_lie has (Some s) [] = tt
words_lie has None (w ∷ ws) = piece_lies (piece_of has w) w ws (λ waiting. words_from has waiting ws) (λ waiting. words_lie has waiting ws)
words_lie has (Some s) (w ∷ ws) = setting_lies s (given_value s w) (words_from has None ws) (given_lies s w) (words_lie has None ws)

once_lie : (words : Option Words) → WordsLie words → WordsLie (if_once words)
once_lie None k = tt
once_lie (Some words) k = elim (all_once words.settings) as (λ v. WordsLie (cond v (Some words) None)) [ true ↦ k | false ↦ tt ]

behind : (has : List Setting) (ws : List (List ℕ)) → WordsLie (words_of has ws)
behind has ws = once_lie (words_from has None ws) (words_lie has None ws)

-- Sets

abbrev every : List Setting
every = Holes ∷ of_synth

known : (s : Setting) → setting_among every (setting_bytes s) ≡ Some s
known HoleBits = refl
known InputBits = refl
known Turns = refl
known Calls = refl
known IntBits = refl
known Rounds = refl
known Conflicts = refl
known Certificate = refl
known Holes = refl

pub same_setting : (s t : Setting) → bytes_eq (setting_bytes s) (setting_bytes t) ≡ true → s ≡ t
same_setting s t e =
    let f : Some s ≡ Some t = sym (known s) ∙ ap (setting_among every) ((bytes_eq-Decides (setting_bytes s) (setting_bytes t)).0 e) ∙ known t in
    cc

later_lies : (s : Setting) (g : Given) (found : Option GivenValue) → ValueLies s found → ValueLies g.setting (Some g.value) → ValueLies s (cond (is_of s g) (Some g.value) found)
later_lies s g found h k =
    elim (is_of s g) as (λ v. is_of s g ≡ v → ValueLies s (cond v (Some g.value) found)) [
      | true ↦ λ e. subst (λ t. ValueLies t (Some g.value)) (sym (same_setting s g.setting e)) k
      | false ↦ λ e. h
    ] refl

last_lies : (s : Setting) (found : Option GivenValue) (gs : List Given) → ValueLies s found → AllLie gs → ValueLies s (last_from found s gs)
last_lies s found [] h k = h
last_lies s found (g ∷ gs) h k = last_lies s (cond (is_of s g) (Some g.value) found) gs (later_lies s g found h k.0) k.1

set_lies : (gs : List Given) → AllLie gs → IsInRanges (set_of gs)
set_lies gs k = record {
  cbits = last_lies HoleBits None gs tt k;
  inbits = last_lies InputBits None gs tt k;
  unroll = last_lies Turns None gs tt k;
  inline_amnt = last_lies Calls None gs tt k;
  int_bits = last_lies IntBits None gs tt k;
}

-- Lines

abbrev pub LineLies : Option Line → Type 0
LineLies None = Unit {0}
LineLies (Some l) = LineIsInRanges l

alone_lies : (ps : List (List ℕ)) (l : Line) → LineIsInRanges l → LineLies (if_none ps l)
alone_lies [] l h = h
alone_lies (p ∷ ps) l h = tt

synth_lies : (words : Option Words) → WordsLie words → LineLies (synth_line words)
synth_lies None k = tt
synth_lies (Some w) k = alone_lies w.positionals (line.Synth (set_of w.settings) (budget_of w.settings) (is_some (last_of Certificate w.settings))) (set_lies w.settings k)

exec_with_lies : (set : Set) (ps : List (List ℕ)) → IsInRanges set → LineLies (exec_with set ps)
exec_with_lies set [] h = tt
exec_with_lies set (name ∷ values) h = h

exec_lies : (words : Option Words) → WordsLie words → LineLies (exec_line words)
exec_lies None k = tt
exec_lies (Some w) k = exec_with_lies (set_of w.settings) w.positionals (set_lies w.settings k)

trace_with_lies : (set : Set) (holes : Option (List ℕ)) (ps : List (List ℕ)) → IsInRanges set → LineLies (trace_with set holes ps)
trace_with_lies set holes [] h = tt
trace_with_lies set holes (name ∷ values) h = h

trace_lies : (words : Option Words) → WordsLie words → LineLies (trace_line words)
trace_lies None k = tt
trace_lies (Some w) k = trace_with_lies (set_of w.settings) (last_list Holes w.settings) w.positionals (set_lies w.settings k)

lower_lies : (words : Option Words) → WordsLie words → LineLies (lower_line words)
lower_lies None k = tt
lower_lies (Some w) k = alone_lies w.positionals (line.Lower (set_of w.settings)) (set_lies w.settings k)

prune_lies : (words : Option Words) → WordsLie words → LineLies (prune_line words)
prune_lies None k = tt
prune_lies (Some w) k = alone_lies w.positionals (line.Prune (set_of w.settings)) (set_lies w.settings k)

check_lies : (words : Option Words) → WordsLie words → LineLies (check_line words)
check_lies None k = tt
check_lies (Some w) k = alone_lies w.positionals (line.Check (set_of w.settings)) (set_lies w.settings k)

all_with_lies : (set : Set) (ps : List (List ℕ)) → IsInRanges set → LineLies (all_with set ps)
all_with_lies set [] h = tt
all_with_lies set (n ∷ []) h = numbered (number_in 1 100 n) (between 1 100 (number_of n) (is_number n))
  where
    numbered : (o : Option ℕ) → IsBetween 1 100 o → LineLies (option_map (line.All set) o)
    numbered None k = tt
    numbered (Some m) k = (h, k)
all_with_lies set (n ∷ m ∷ more) h = tt

all_lies : (words : Option Words) → WordsLie words → LineLies (all_line words)
all_lies None k = tt
all_lies (Some w) k = all_with_lies (set_of w.settings) w.positionals (set_lies w.settings k)

why_lies : (words : Option Words) → WordsLie words → LineLies (why_line words)
why_lies None k = tt
why_lies (Some w) k = alone_lies w.positionals (line.Why (set_of w.settings)) (set_lies w.settings k)

self_with_lies : (ps : List (List ℕ)) → LineLies (self_with ps)
self_with_lies [] = tt
self_with_lies (n ∷ []) = elim (number_in 0 60 n) as (λ v. LineLies (option_map line.Itself v)) [ None ↦ tt | Some m ↦ tt ]
self_with_lies (n ∷ m ∷ more) = tt

self_lies : (words : Option Words) → LineLies (self_line words)
self_lies None = tt
self_lies (Some w) = self_with_lies w.positionals

choice_lies : (b : Bool) (x y : Option Line) → LineLies x → LineLies y → LineLies (cond b x y)
choice_lies true x y h k = h
choice_lies false x y h k = k

words_line_lies : (words : List (List ℕ)) → LineLies (line_of words)
unfolding line_of
words_line_lies [] = tt
words_line_lies (w ∷ ws) =
    let is : List ℕ → Bool = λ name. bytes_eq w name in
    let version : Option Line = cond (is (codes "--version")) (if_none ws line.Version) None in
    let help : Option Line = cond (is (codes "--help")) (if_none ws line.Help) version in
    let itself : Option Line = cond (is (codes "self")) (self_line (words_of [] ws)) help in
    let why : Option Line = cond (is (codes "why")) (why_line (words_of of_bounds ws)) itself in
    let every : Option Line = cond (is (codes "all")) (all_line (words_of of_bounds ws)) why in
    let check : Option Line = cond (is (codes "check")) (check_line (words_of of_bounds ws)) every in
    let prune : Option Line = cond (is (codes "prune")) (prune_line (words_of of_bounds ws)) check in
    let lower : Option Line = cond (is (codes "lower")) (lower_line (words_of of_bounds ws)) prune in
    let trace : Option Line = cond (is (codes "trace")) (trace_line (words_of of_trace ws)) lower in
    let exec : Option Line = cond (is (codes "exec")) (exec_line (words_of of_bounds ws)) trace in
    choice_lies (is (codes "synth")) (synth_line (words_of of_synth ws)) exec (synth_lies (words_of of_synth ws) (behind of_synth ws))
    (choice_lies (is (codes "exec")) (exec_line (words_of of_bounds ws)) trace (exec_lies (words_of of_bounds ws) (behind of_bounds ws))
    (choice_lies (is (codes "trace")) (trace_line (words_of of_trace ws)) lower (trace_lies (words_of of_trace ws) (behind of_trace ws))
    (choice_lies (is (codes "lower")) (lower_line (words_of of_bounds ws)) prune (lower_lies (words_of of_bounds ws) (behind of_bounds ws))
    (choice_lies (is (codes "prune")) (prune_line (words_of of_bounds ws)) check (prune_lies (words_of of_bounds ws) (behind of_bounds ws))
    (choice_lies (is (codes "check")) (check_line (words_of of_bounds ws)) every (check_lies (words_of of_bounds ws) (behind of_bounds ws))
    (choice_lies (is (codes "all")) (all_line (words_of of_bounds ws)) why (all_lies (words_of of_bounds ws) (behind of_bounds ws))
    (choice_lies (is (codes "why")) (why_line (words_of of_bounds ws)) itself (why_lies (words_of of_bounds ws) (behind of_bounds ws))
    (choice_lies (is (codes "self")) (self_line (words_of [] ws)) help (self_lies (words_of [] ws))
    (choice_lies (is (codes "--help")) (if_none ws line.Help) version (alone_lies ws line.Help tt)
    (choice_lies (is (codes "--version")) (if_none ws line.Version) None (alone_lies ws line.Version tt) tt))))))))))

pub line_in_ranges : (words : List (List ℕ)) (l : Line) → line_of words ≡ Some l → LineIsInRanges l
line_in_ranges words l e = subst LineLies e (words_line_lies words)
