-- Two readings that say the same give the same line.
use Rattle.std.proofs.Common.{◌≡◌, Option, Some, None, is_some, unwrap_or, refl, ap, ap₂}
use Rattle.std.specs.Option.{option_and_then}
use Rattle.sk_opts.specs.declared.line.Line.TheVariants as line
use Rattle.sk_opts.specs.declared.setting.Setting.{Setting}
use Rattle.sk_opts.specs.declared.setting.Setting.TheVariants.{HoleBits, InputBits, Turns, Calls, IntBits, Rounds, Conflicts, Certificate, Holes}
use Rattle.sk_opts.specs.declared.words.Words.{Words}
use Rattle.sk_opts.specs.Settings.{number_given, numbers_given, last_of, last_list}
use Rattle.sk_opts.specs.CommandLine.{set_of, budget_of}
use Rattle.sk_opts.specs.Reader.{if_none, synth_line, exec_with, exec_line, trace_with, trace_line, lower_line, prune_line, check_line, all_with, all_line, why_line, self_with, self_line}
use Rattle.sk_opts.specs.Matching.{SameWords, SameReading}

same_number : (v w : Words) → SameWords v w → (s : Setting) → last_of s v.settings ≡ last_of s w.settings
same_number v w h s = ap (option_and_then number_given) (h.1 s)

same_list : (v w : Words) → SameWords v w → (s : Setting) → last_list s v.settings ≡ last_list s w.settings
same_list v w h s = ap (option_and_then numbers_given) (h.1 s)

same_set : (v w : Words) → SameWords v w → set_of v.settings ≡ set_of w.settings
same_set v w h = λ i. record { cbits = same_number v w h HoleBits i; inbits = same_number v w h InputBits i; unroll = same_number v w h Turns i; inline_amnt = same_number v w h Calls i; int_bits = same_number v w h IntBits i }

same_budget : (v w : Words) → SameWords v w → budget_of v.settings ≡ budget_of w.settings
same_budget v w h = λ i. record { rounds = unwrap_or (same_number v w h Rounds i) 0; conflicts = unwrap_or (same_number v w h Conflicts i) 0 }

pub synth_same : (v w : Option Words) → SameReading v w → synth_line v ≡ synth_line w
synth_same None None h = refl
synth_same None (Some w) h = absurd h
synth_same (Some v) None h = absurd h
synth_same (Some v) (Some w) h = λ i. if_none (h.0 i) (line.Synth (same_set v w h i) (same_budget v w h i) (is_some (same_number v w h Certificate i)))

pub exec_same : (v w : Option Words) → SameReading v w → exec_line v ≡ exec_line w
exec_same None None h = refl
exec_same None (Some w) h = absurd h
exec_same (Some v) None h = absurd h
exec_same (Some v) (Some w) h = ap₂ exec_with (same_set v w h) h.0

pub trace_same : (v w : Option Words) → SameReading v w → trace_line v ≡ trace_line w
trace_same None None h = refl
trace_same None (Some w) h = absurd h
trace_same (Some v) None h = absurd h
trace_same (Some v) (Some w) h = λ i. trace_with (same_set v w h i) (same_list v w h Holes i) (h.0 i)

pub lower_same : (v w : Option Words) → SameReading v w → lower_line v ≡ lower_line w
lower_same None None h = refl
lower_same None (Some w) h = absurd h
lower_same (Some v) None h = absurd h
lower_same (Some v) (Some w) h = λ i. if_none (h.0 i) (line.Lower (same_set v w h i))

pub prune_same : (v w : Option Words) → SameReading v w → prune_line v ≡ prune_line w
prune_same None None h = refl
prune_same None (Some w) h = absurd h
prune_same (Some v) None h = absurd h
prune_same (Some v) (Some w) h = λ i. if_none (h.0 i) (line.Prune (same_set v w h i))

pub check_same : (v w : Option Words) → SameReading v w → check_line v ≡ check_line w
check_same None None h = refl
check_same None (Some w) h = absurd h
check_same (Some v) None h = absurd h
check_same (Some v) (Some w) h = λ i. if_none (h.0 i) (line.Check (same_set v w h i))

pub all_same : (v w : Option Words) → SameReading v w → all_line v ≡ all_line w
all_same None None h = refl
all_same None (Some w) h = absurd h
all_same (Some v) None h = absurd h
all_same (Some v) (Some w) h = ap₂ all_with (same_set v w h) h.0

pub why_same : (v w : Option Words) → SameReading v w → why_line v ≡ why_line w
why_same None None h = refl
why_same None (Some w) h = absurd h
why_same (Some v) None h = absurd h
why_same (Some v) (Some w) h = λ i. if_none (h.0 i) (line.Why (same_set v w h i))

pub self_same : (v w : Option Words) → SameReading v w → self_line v ≡ self_line w
self_same None None h = refl
self_same None (Some w) h = absurd h
self_same (Some v) None h = absurd h
self_same (Some v) (Some w) h = ap self_with h.0
