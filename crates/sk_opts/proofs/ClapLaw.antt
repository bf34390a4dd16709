-- What `clap` finds wrong in words, and what its matches hold, is what reading the words as texts comes to.
use Rattle.std.proofs.Common.{◌≡◌, Bool, true, false, not, ◌&&◌, ◌||◌, cond, List, [], ◌∷◌, None, refl, ap, ◌∙◌, codes}
use Rattle.std.specs.List.{list_any}
use Rattle.clap.specs.Kinds.{Kinds, or_else}
use Rattle.clap.specs.Walk.{Row, Text, idle, finished, has_row, nothing_held, settled, walk, with_default}
use Rattle.clap.specs.Simple.{matches_of}
use Rattle.clap.specs.Takes.{is_given}
use Rattle.clap.specs.Faults.{built_fault, check_fault, default_fault, defaults_fault, fault_of, level_fault, settle_fault, walk_fault}
use Rattle.clap.specs.declared.error.kind.ErrorKind.TheVariants.{MissingRequiredArgument}
use Rattle.clap.proofs.FaultLemmas.{leaf_fault}
use Rattle.sk_opts.specs.declared.setting.Setting.{Setting}
use Rattle.sk_opts.specs.Settings.{is_flag}
use Rattle.sk_opts.specs.Matching.{setting_name, has_short_word, command_app, IsOptions, NoOptions, BoundsOptions, SynthOptions, TraceOptions}
use Rattle.sk_opts.proofs.ClapRules.{built_as, built_rules, built_shape}
use Rattle.sk_opts.proofs.ClapRows.{Seen}
use Rattle.sk_opts.proofs.ClapWords.{at}
use Rattle.sk_opts.proofs.ClapWalk.{total, read_texts, rows_at_end, Agree, words_agree}

-- Faults behind the walk

or_true : (b : Bool) → (b || true) ≡ true
or_true true = refl
or_true false = refl

same_kinds : (b : Bool) (k : Kinds) → cond b k k ≡ k
same_kinds true k = refl
same_kinds false k = refl

default_passes : (rows : List Row) (name : Text) (flag : Bool) → default_fault rows (built_as name flag) ≡ []
default_passes rows name true = same_kinds (has_row name rows || false) []
default_passes rows name false = ap (λ b. cond b [] []) (or_true (has_row name rows))

defaults_pass : (has : List Setting) (rows : List Row) → defaults_fault rows (built_rules has) ≡ []
unfolding defaults_fault
defaults_pass [] rows = ap (λ k. or_else k []) (same_kinds (has_row (codes "words") rows || true) [])
defaults_pass (s ∷ ss) rows =
    ap (λ k. or_else k (defaults_fault (with_default rows (built_as (setting_name s) (is_flag s))) (built_rules ss))) (default_passes rows (setting_name s) (is_flag s))
    ∙ defaults_pass ss (with_default rows (built_as (setting_name s) (is_flag s)))

none_required : (has : List Setting) (rows : List Row) → list_any (λ a. a.required && not (is_given a.id rows)) (built_rules has) ≡ false
none_required [] rows = refl
none_required (s ∷ ss) rows = none_required ss rows

check_passes : (has : List Setting) (rows : List Row) → check_fault (built_shape has) rows false ≡ []
check_passes has rows = ap (λ b. cond b (MissingRequiredArgument ∷ []) []) (none_required has rows)

or_nil : (a : Kinds) → or_else a [] ≡ a
or_nil [] = refl
or_nil (k ∷ ks) = refl

level_is : (has : List Setting) (ws : List Text) → level_fault (built_shape has) [] nothing_held ws false [] ≡ total has (at nothing_held idle false) ws
level_is has ws =
    let end = (walk (built_rules has) [] nothing_held ws).held in
    let found = walk_fault (built_shape has) [] (at nothing_held idle false) ws in
    let last = settle_fault (built_rules has) false end in
    ap (λ k. or_else found (or_else last (or_else k (check_fault (built_shape has) (finished (built_rules has) end) false)))) (defaults_pass has (settled (built_rules has) end).rows)
    ∙ ap (λ k. or_else found (or_else last k)) (check_passes has (finished (built_rules has) end))
    ∙ ap (or_else found) (or_nil last)

fault_built : (has : List Setting) (ws : List Text) → IsOptions has → fault_of (command_app has) ws ≡ built_fault (record { top = built_shape has; subs = [] }) nothing_held ws
fault_built has ws NoOptions = refl
fault_built has ws BoundsOptions = refl
fault_built has ws SynthOptions = refl
fault_built has ws TraceOptions = refl

pub fault_is : (has : List Setting) (ws : List Text) → IsOptions has → fault_of (command_app has) ws ≡ total has (at nothing_held idle false) ws
fault_is has ws o = fault_built has ws o ∙ leaf_fault (record { top = built_shape has; subs = [] }) nothing_held ws refl ∙ level_is has ws

pub matches_are : (has : List Setting) (ws : List Text) → IsOptions has → matches_of (command_app has) ws ≡ finished (built_rules has) (walk (built_rules has) [] nothing_held ws).held
matches_are has ws NoOptions = refl
matches_are has ws BoundsOptions = refl
matches_are has ws SynthOptions = refl
matches_are has ws TraceOptions = refl

-- The law of the walk

abbrev pub nothing_seen : Seen
nothing_seen = record { texts = []; positionals = [] }

pub walk_agrees : (has : List Setting) (ws : List Text) → has_short_word ws ≡ false → Agree (read_texts has None nothing_seen ws) (total has (at nothing_held idle false) ws) (rows_at_end has (at nothing_held idle false) ws)
walk_agrees has ws ns = words_agree has ws ns None nothing_seen idle nothing_held (tt, (refl, record { options = λ s. refl; words = refl }))
