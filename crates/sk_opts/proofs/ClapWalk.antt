-- The walk of `clap` over words, beside a reading of the same words.
use Rattle.std.proofs.Common.{◌≡◌, ℕ, Bool, true, false, ◌&&◌, ◌||◌, cond, ltb, List, [], ◌∷◌, ◌++◌, Option, Some, None, is_some, refl, sym, ap, ap₂, ◌∙◌, subst, codes, append_assoc, append-nil}
use Rattle.std.specs.List.{fold}
use Rattle.std.specs.Option.{option_map_or}
use Rattle.std.specs.Str.{bytes_eq}
use Rattle.std.proofs.lemmas.Slice.Eq.{bytes_eq-Decides}
use Rattle.clap.specs.Lexer.{is_short_word, long_of, short_of}
use Rattle.clap.specs.Kinds.{Kinds, or_else}
use Rattle.clap.specs.Walk.{Held, Rule, Row, Text, Waiting, idle, option, positional, Walk, Step, after_flag, after_step, has_row, is_pending, long_met, more_values, option_word, positional_held, pushed, reacted, reading_by, settled, short_or_plain, to_positional, used, used_by_id, walked, with_values, without}
use Rattle.clap.specs.Faults.{bundle_fault, long_fault, positional_fault, settle_fault, step_fault, stray_fault, turn_fault, use_fault, walk_fault}
use Rattle.clap.specs.declared.error.kind.ErrorKind.TheVariants.{ArgumentConflict}
use Rattle.clap.specs.declared.builder.value_parser.Reading.{Reading}
use Rattle.clap.specs.declared.parser.matches.ValueSource.TheVariants.{CommandLine}
use Rattle.sk_opts.specs.declared.setting.Setting.{Setting}
use Rattle.sk_opts.specs.Settings.{setting_bytes, is_flag, setting_among}
use Rattle.sk_opts.specs.CommandLine.{is_option}
use Rattle.sk_opts.specs.Reader.{Piece, Ends, Names, Sets, Plain, Unknown, before_equals, after_equals, option_piece, piece_of}
use Rattle.sk_opts.specs.Matching.{setting_name, has_short_word}
use Rattle.sk_opts.proofs.ClapRules.{built_as, built_rules, built_shape, built_option, built_words, rule_if, by_index, by_long, by_id, words_by_id, same_name}
use Rattle.sk_opts.proofs.ClapRows.{Seen, Holds, text_of, seen_option, seen_word, option_held, word_held, has_text, at_none}
use Rattle.sk_opts.proofs.ClapWords.{Kind, EndsHere, Long, Short, Other, kind_of_word, at, fault_by, walk_by, turn_is, walked_is}

-- Faults in turn

or_assoc : (a b c : Kinds) → or_else (or_else a b) c ≡ or_else a (or_else b c)
or_assoc [] b c = refl
or_assoc (k ∷ ks) b c = refl

or_nil : (a : Kinds) → or_else a [] ≡ a
or_nil [] = refl
or_nil (k ∷ ks) = refl

-- what a walk over the words, and the end of it, find wrong
abbrev pub total : List Setting → Walk → List Text → Kinds
total has w ws = or_else (walk_fault (built_shape has) [] w ws) (settle_fault (built_rules has) false (fold (walked (built_rules has) []) w ws).held)

total_none : (has : List Setting) (w : Walk) → total has w [] ≡ settle_fault (built_rules has) false w.held
unfolding walk_fault
total_none has w = refl

total_next : (has : List Setting) (w : Walk) (x : Text) (ws : List Text) → total has w (x ∷ ws) ≡ or_else (turn_fault (built_shape has) [] w x) (total has (walked (built_rules has) [] w x) ws)
unfolding walk_fault
total_next has w x ws = or_assoc (turn_fault (built_shape has) [] w x) (walk_fault (built_shape has) [] (walked (built_rules has) [] w x) ws) (settle_fault (built_rules has) false (fold (walked (built_rules has) []) (walked (built_rules has) [] w x) ws).held)

-- Readings as texts: what `words_from` reads, with the texts of values in place of their numbers, from left to right,
-- and with no option twice

abbrev pub once_more : Setting → List ℕ → Seen → (Seen → Option Seen) → Option Seen
once_more s v seen next = cond (is_some (text_of s seen.texts)) None (next (seen_option s v seen))

abbrev pub read_piece : Piece → List ℕ → List (List ℕ) → Seen → (Option Setting → Seen → Option Seen) → Option Seen
read_piece Ends w ws seen next = Some (record { texts = seen.texts; positionals = seen.positionals ++ ws })
read_piece (Names s) w ws seen next = cond (is_flag s) (once_more s (codes "true") seen (next None)) (next (Some s) seen)
read_piece (Sets s v) w ws seen next = cond (is_flag s) None (once_more s v seen (next None))
read_piece Plain w ws seen next = next None (seen_word w seen)
read_piece Unknown w ws seen next = None

abbrev pub read_texts : List Setting → Option Setting → Seen → List (List ℕ) → Option Seen
read_texts has None seen [] = Some seen
read_texts has (Some s) seen [] = None
read_texts has None seen (w ∷ ws) = read_piece (piece_of has w) w ws seen (λ waiting x. read_texts has waiting x ws)
read_texts has (Some s) seen (w ∷ ws) = cond (is_option w) None (once_more s w seen (λ x. read_texts has None x ws))

-- `clap` finds a fault exactly where there is no reading, and else holds what was read
abbrev pub Agree : Option Seen → Kinds → List Row → Type 0
Agree None kinds rows = kinds ≡ [] → ⊥
Agree (Some seen) kinds rows = (kinds ≡ []) × Holds seen rows

-- the rows at the end
abbrev pub rows_at_end : List Setting → Walk → List Text → List Row
rows_at_end has w ws = (settled (built_rules has) (fold (walked (built_rules has) []) w ws).held).rows

abbrev pub AgreeFrom : List Setting → Option Seen → Walk → List Text → Type 0
AgreeFrom has o w ws = Agree o (total has w ws) (rows_at_end has w ws)

-- one word without fault, and then the others
agree_next : (has : List Setting) (o : Option Seen) (w next : Walk) (x : Text) (ws : List Text) → turn_fault (built_shape has) [] w x ≡ [] → walked (built_rules has) [] w x ≡ next → AgreeFrom has o next ws → AgreeFrom has o w (x ∷ ws)
agree_next has o w next x ws none goes h =
    subst (λ k. Agree o k (rows_at_end has w (x ∷ ws))) (sym (total_next has w x ws ∙ ap (λ k. or_else k (total has (walked (built_rules has) [] w x) ws)) none))
    (subst (λ n. AgreeFrom has o n ws) (sym goes) h)

-- a word with a fault
or_fails : (a b : Kinds) → (a ≡ [] → ⊥) → or_else a b ≡ [] → ⊥
or_fails [] b h e = h refl
or_fails (k ∷ ks) b h e = h e

agree_fails : (has : List Setting) (w : Walk) (x : Text) (ws : List Text) → (turn_fault (built_shape has) [] w x ≡ [] → ⊥) → AgreeFrom has None w (x ∷ ws)
agree_fails has w x ws h e = or_fails (turn_fault (built_shape has) [] w x) (total has (walked (built_rules has) [] w x) ws) h (sym (total_next has w x ws) ∙ e)

-- Behind `--`

abbrev pub rules_fault : List Setting → Held → Kinds
rules_fault has h = settle_fault (built_rules has) false h

abbrev pub IsFree : Waiting → Type 0
IsFree idle = Unit {0}
IsFree (option id) = ⊥
IsFree positional = Unit {0}

-- what is pending has no fault, and once it is used the rows hold what was read
abbrev pub IsSettled : List Setting → Seen → Held → Type 0
IsSettled has seen h = (rules_fault has h ≡ []) × Holds seen (settled (built_rules has) h).rows

and_false : (b : Bool) → (b && false) ≡ false
and_false true = refl
and_false false = refl

-- a positional
abbrev pub with_word : List Setting → Text → Held → Held
with_word has w h = record { rows = (settled (built_rules has) h).rows; pending = Some (codes "words", w ∷ []); skip = h.skip }

word_fault_is : (has : List Setting) (h : Held) → positional_fault (built_rules has) false built_words h ≡ rules_fault has h
word_fault_is has h = ap (λ b. cond b [] (rules_fault has h)) (and_false (is_pending built_words h.pending))

word_is_held : (has : List Setting) (w : Text) (h : Held) → positional_held (built_rules has) built_words w h ≡ with_word has w h
word_is_held has w h = ap (λ b. pushed (codes "words") w (cond b h (settled (built_rules has) h))) (and_false (is_pending built_words h.pending))

word_settled : (has : List Setting) (seen : Seen) (w : Text) (h : Held) → IsSettled has seen h → IsSettled has (seen_word w seen) (with_word has w h)
word_settled has seen w h s = (
  ap (λ o. option_map_or (λ a. use_fault false a (w ∷ []) (settled (built_rules has) h).rows) o []) (words_by_id has),
  subst (Holds (seen_word w seen)) (ap (λ o. used_by_id o (w ∷ []) (settled (built_rules has) h).rows) (sym (words_by_id has))) (word_held seen (settled (built_rules has) h).rows w s.1),
)

trail_turn : (has : List Setting) (waiting : Waiting) (w : Text) (h : Held) → turn_fault (built_shape has) [] (at h waiting true) w ≡ rules_fault has h
trail_turn has waiting w h = ap (λ o. option_map_or (λ a. positional_fault (built_rules has) false a h) o (stray_fault (built_shape has))) (by_index has) ∙ word_fault_is has h

trail_walk : (has : List Setting) (waiting : Waiting) (w : Text) (h : Held) → walked (built_rules has) [] (at h waiting true) w ≡ at (with_word has w h) positional true
unfolding walked
trail_walk has waiting w h = ap (λ o. to_positional (built_rules has) o w (at h waiting true) h) (by_index has) ∙ ap (λ x. at x positional true) (word_is_held has w h)

agree_none : (has : List Setting) (seen : Seen) (w : Walk) → rules_fault has w.held ≡ [] → Holds seen (settled (built_rules has) w.held).rows → AgreeFrom has (Some seen) w []
agree_none has seen w none h = (total_none has w ∙ none, h)

trail_words : (has : List Setting) (ws : List Text) (seen : Seen) (waiting : Waiting) (h : Held) → IsSettled has seen h → AgreeFrom has (Some (record { texts = seen.texts; positionals = seen.positionals ++ ws })) (at h waiting true) ws
trail_words has [] seen waiting h s =
    subst (λ ps. AgreeFrom has (Some (record { texts = seen.texts; positionals = ps })) (at h waiting true) []) (sym (append-nil seen.positionals)) (agree_none has seen (at h waiting true) s.0 s.1)
trail_words has (w ∷ ws) seen waiting h s =
    let rest = trail_words has ws (seen_word w seen) positional (with_word has w h) (word_settled has seen w h s) in
    subst (λ ps. AgreeFrom has (Some (record { texts = seen.texts; positionals = ps })) (at h waiting true) (w ∷ ws)) (append_assoc seen.positionals (w ∷ []) ws)
    (agree_next has (Some (record { texts = seen.texts; positionals = (seen.positionals ++ w ∷ []) ++ ws })) (at h waiting true) (at (with_word has w h) positional true) w ws (trail_turn has waiting w h ∙ s.0) (trail_walk has waiting w h) rest)

trail_fails : (has : List Setting) (ws : List Text) (waiting : Waiting) (h : Held) → (rules_fault has h ≡ [] → ⊥) → AgreeFrom has None (at h waiting true) ws
trail_fails has [] waiting h bad = λ e. bad (sym (total_none has (at h waiting true)) ∙ e)
trail_fails has (w ∷ ws) waiting h bad = agree_fails has (at h waiting true) w ws (λ e. bad (sym (trail_turn has waiting w h) ∙ e))

-- The word `--`

ends_turn : (has : List Setting) (waiting : Waiting) (w : Text) (h : Held) → bytes_eq w (codes "--") ≡ true → turn_fault (built_shape has) [] (at h waiting false) w ≡ []
ends_turn has waiting w h e = turn_is has waiting w h ∙ ap (λ b. fault_by has waiting w h b (long_of w)) e

ends_walk : (has : List Setting) (waiting : Waiting) (w : Text) (h : Held) → bytes_eq w (codes "--") ≡ true → walked (built_rules has) [] (at h waiting false) w ≡ at h waiting true
ends_walk has waiting w h e = walked_is has waiting w h ∙ ap (λ b. walk_by has waiting w h b (long_of w)) e

-- Words with two minus signs

abbrev pub long_step : List Setting → Waiting → Text → Option Rule → Option Text → Held → Held × Step
long_step has waiting w a v h = after_flag (built_rules has) waiting w (long_met (built_rules has) a v h).0 (long_met (built_rules has) a v h).1

abbrev pub long_turn : List Setting → Waiting → Text → Option Rule → Option Text → Held → Kinds
long_turn has waiting w a v h = or_else (long_fault (built_rules has) false a v h) (step_fault (built_shape has) 1 (long_step has waiting w a v h).0 (long_step has waiting w a v h).1)

abbrev pub long_walk : List Setting → Waiting → Text → Option Rule → Option Text → Held → Walk
long_walk has waiting w a v h = after_step (built_rules has) w (at h waiting false) (long_step has waiting w a v h).0 (long_step has waiting w a v h).1

record IsLong (has : List Setting) (w n : Text) (v : Option Text) : Type 0 where
  ends : bytes_eq w (codes "--") ≡ false
  long : long_of w ≡ Some (n, v)

long_turn_is : (has : List Setting) (waiting : Waiting) (w n : Text) (v : Option Text) (h : Held) → IsLong has w n v
    → turn_fault (built_shape has) [] (at h waiting false) w ≡ long_turn has waiting w (rule_if (setting_among has (45 ∷ 45 ∷ n))) v h
long_turn_is has waiting w n v h l =
    turn_is has waiting w h ∙ ap₂ (λ b o. fault_by has waiting w h b o) l.ends l.long ∙ ap (λ a. long_turn has waiting w a v h) (by_long has n)

long_walk_is : (has : List Setting) (waiting : Waiting) (w n : Text) (v : Option Text) (h : Held) → IsLong has w n v
    → walked (built_rules has) [] (at h waiting false) w ≡ long_walk has waiting w (rule_if (setting_among has (45 ∷ 45 ∷ n))) v h
long_walk_is has waiting w n v h l =
    walked_is has waiting w h ∙ ap₂ (λ b o. walk_by has waiting w h b o) l.ends l.long ∙ ap (λ a. long_walk has waiting w a v h) (by_long has n)

-- a fault of what is pending, or of the word itself, is a fault of the turn
rule_fails : (has : List Setting) (waiting : Waiting) (w name : Text) (flag : Bool) (v : Option Text) (h : Held) → (rules_fault has h ≡ [] → ⊥) → long_turn has waiting w (Some (built_as name flag)) v h ≡ [] → ⊥
rule_fails has waiting w name false None h bad = or_fails (rules_fault has h) [] bad
rule_fails has waiting w name false (Some x) h bad = or_fails (or_else (rules_fault has h) (use_fault false (built_as name false) (x ∷ []) (settled (built_rules has) h).rows)) [] (or_fails (rules_fault has h) (use_fault false (built_as name false) (x ∷ []) (settled (built_rules has) h).rows) bad)
rule_fails has waiting w name true None h bad = or_fails (or_else (rules_fault has h) (use_fault false (built_as name true) [] (settled (built_rules has) h).rows)) [] (or_fails (rules_fault has h) (use_fault false (built_as name true) [] (settled (built_rules has) h).rows) bad)
rule_fails has waiting w name true (Some x) h bad = λ e. cc

long_fails : (has : List Setting) (waiting : Waiting) (w : Text) (o : Option Setting) (v : Option Text) (h : Held) → (rules_fault has h ≡ [] → ⊥) → long_turn has waiting w (rule_if o) v h ≡ [] → ⊥
long_fails has waiting w None v h bad e = cc
long_fails has waiting w (Some s) v h bad e = rule_fails has waiting w (setting_name s) (is_flag s) v h bad e

-- Other words

abbrev pub other_step : List Setting → Waiting → Text → Option Text → Held → Held × Step
other_step has waiting w short h = short_or_plain (built_rules has) waiting w short h

record IsOther (w : Text) : Type 0 where
  ends : bytes_eq w (codes "--") ≡ false
  long : long_of w ≡ None
  short : short_of w ≡ None

abbrev pub other_turn : List Setting → Waiting → Text → Option Text → Held → Kinds
other_turn has waiting w short h =
    or_else (option_map_or (λ flags. bundle_fault (built_rules has) false flags h) short []) (step_fault (built_shape has) 1 (other_step has waiting w short h).0 (other_step has waiting w short h).1)

abbrev pub other_walk : List Setting → Waiting → Text → Option Text → Held → Walk
other_walk has waiting w short h = after_step (built_rules has) w (at h waiting false) (other_step has waiting w short h).0 (other_step has waiting w short h).1

other_turn_is : (has : List Setting) (waiting : Waiting) (w : Text) (h : Held) → IsOther w → turn_fault (built_shape has) [] (at h waiting false) w ≡ other_turn has waiting w None h
other_turn_is has waiting w h o = turn_is has waiting w h ∙ ap₂ (λ b l. fault_by has waiting w h b l) o.ends o.long ∙ ap (λ x. other_turn has waiting w x h) o.short

other_walk_is : (has : List Setting) (waiting : Waiting) (w : Text) (h : Held) → IsOther w → walked (built_rules has) [] (at h waiting false) w ≡ other_walk has waiting w None h
other_walk_is has waiting w h o = walked_is has waiting w h ∙ ap₂ (λ b l. walk_by has waiting w h b l) o.ends o.long ∙ ap (λ x. other_walk has waiting w x h) o.short

free_turn : (has : List Setting) (waiting : Waiting) (w : Text) (h : Held) → IsFree waiting → other_turn has waiting w None h ≡ rules_fault has h
free_turn has idle w h free = ap (λ o. option_map_or (λ a. positional_fault (built_rules has) false a h) o (stray_fault (built_shape has))) (by_index has) ∙ word_fault_is has h
free_turn has (option id) w h free = absurd free
free_turn has positional w h free = ap (λ o. option_map_or (λ a. positional_fault (built_rules has) false a h) o (stray_fault (built_shape has))) (by_index has) ∙ word_fault_is has h

free_walk : (has : List Setting) (waiting : Waiting) (w : Text) (h : Held) → IsFree waiting → other_walk has waiting w None h ≡ at (with_word has w h) positional false
free_walk has idle w h free = ap (λ o. to_positional (built_rules has) o w (at h idle false) h) (by_index has) ∙ ap (λ x. at x positional false) (word_is_held has w h)
free_walk has (option id) w h free = absurd free
free_walk has positional w h free = ap (λ o. to_positional (built_rules has) o w (at h positional false) h) (by_index has) ∙ ap (λ x. at x positional false) (word_is_held has w h)

-- What is pending has a fault

or_split : (a b : Bool) → (a || b) ≡ false → (a ≡ false) × (b ≡ false)
or_split true b e = absurd (differ e)
  where
    differ : true ≡ false → ⊥
    differ h = cc
or_split false b e = (refl, e)

none_short : (w : Text) → is_short_word w ≡ false → short_of w ≡ None
none_short w e = elim (short_of w) as (λ o. is_some o ≡ false → o ≡ None) [ None ↦ λ f. refl | Some x ↦ λ f. absurd (differ f) ] e
  where
    differ : true ≡ false → ⊥
    differ h = cc

short_rest : (w : Text) (ws : List Text) → bytes_eq w (codes "--") ≡ false → has_short_word (w ∷ ws) ≡ false → (is_short_word w ≡ false) × (has_short_word ws ≡ false)
short_rest w ws ends e = or_split (is_short_word w) (has_short_word ws) (sym (ap (λ b. cond b false (is_short_word w || has_short_word ws)) ends) ∙ e)

no_ends : (w : Text) (x : Bool) → bytes_eq w (codes "--") ≡ x → is_short_word w ≡ true → x ≡ false
no_ends w false e s = refl
no_ends w true e s = absurd (differ (sym (ap is_short_word ((bytes_eq-Decides w (codes "--")).0 e)) ∙ s))
  where
    differ : false ≡ true → ⊥
    differ h = cc

never_short : (w : Text) (ws : List Text) → is_short_word w ≡ true → has_short_word (w ∷ ws) ≡ false → ⊥
never_short w ws s e = differ (sym s ∙ (short_rest w ws (no_ends w (bytes_eq w (codes "--")) refl s) e).0)
  where
    differ : true ≡ false → ⊥
    differ h = cc

fails_on : (has : List Setting) (ws : List Text) → has_short_word ws ≡ false → (waiting : Waiting) → IsFree waiting → (h : Held) → (rules_fault has h ≡ [] → ⊥) → AgreeFrom has None (at h waiting false) ws
fails_on has [] ns waiting free h bad = λ e. bad (sym (total_none has (at h waiting false)) ∙ e)
fails_on has (w ∷ ws) ns waiting free h bad = by_kind (kind_of_word has w)
  where
    by_kind : Kind has w → AgreeFrom has None (at h waiting false) (w ∷ ws)
    by_kind (EndsHere e) = agree_next has None (at h waiting false) (at h waiting true) w ws (ends_turn has waiting w h e) (ends_walk has waiting w h e) (trail_fails has ws waiting h bad)
    by_kind (Long n v ends is long piece) =
        agree_fails has (at h waiting false) w ws (λ e. long_fails has waiting w (setting_among has (45 ∷ 45 ∷ n)) v h bad (sym (long_turn_is has waiting w n v h (record { ends = ends; long = long })) ∙ e))
    by_kind (Short s) = absurd (never_short w ws s ns)
    by_kind (Other ends is long short piece) =
        agree_fails has (at h waiting false) w ws (λ e. bad (sym (free_turn has waiting w h free) ∙ sym (other_turn_is has waiting w h (record { ends = ends; long = long; short = none_short w short })) ∙ e))

-- Options with their values

abbrev pub conflict : Bool → Kinds
conflict b = or_else (cond (b && true) (ArgumentConflict ∷ []) []) []

value_fault : (name x : Text) (rows : List Row) → use_fault false (built_as name false) (x ∷ []) rows ≡ conflict (has_row name rows)
value_fault name x rows = refl

flag_fault : (name : Text) (rows : List Row) → use_fault false (built_as name true) [] rows ≡ conflict (has_row name rows)
flag_fault name rows = refl

conflicts : (b : Bool) → b ≡ true → conflict b ≡ [] → ⊥
conflicts true e f = cc
conflicts false e f = cc

no_conflict : (b : Bool) → b ≡ false → conflict b ≡ []
no_conflict true e = absurd (differ e)
  where
    differ : true ≡ false → ⊥
    differ h = cc
no_conflict false e = refl

row_once : (name x : Text) (how : Reading) (rows : List Row) → has_row name rows ≡ false
    → with_values name how CommandLine (x ∷ []) (without name rows) ≡ rows ++ record { id = name; values = x ∷ []; count = None; source = Some CommandLine; reading = how } ∷ []
row_once name x how rows e =
    ap (with_values name how CommandLine (x ∷ [])) (at_none name (λ _. []) [] rows e ∙ append-nil rows)
    ∙ at_none name (more_values CommandLine (x ∷ [])) (record { id = name; values = x ∷ []; count = None; source = Some CommandLine; reading = how } ∷ []) rows e

once_held : (seen : Seen) (rows : List Row) (s : Setting) (x : Text) (how : Reading) → Holds seen rows → is_some (text_of s seen.texts) ≡ false → Holds (seen_option s x seen) (with_values (setting_name s) how CommandLine (x ∷ []) (without (setting_name s) rows))
once_held seen rows s x how h none =
    subst (Holds (seen_option s x seen)) (sym (row_once (setting_name s) x how rows (has_text seen rows s h ∙ none)))
    (option_held seen rows s x (record { id = setting_name s; values = x ∷ []; count = None; source = Some CommandLine; reading = how }) refl refl h)

-- Where the walk stands

abbrev pub with_pending : List Row → Setting → List Text → ℕ → Held
with_pending rows s vs skip = record { rows = rows; pending = Some (setting_name s, vs); skip = skip }

pub record Waits (has : List Setting) (s : Setting) (seen : Seen) (waiting : Waiting) (h : Held) : Type 0 where
  pub rows : List Row
  pub skip : ℕ
  pub held : h ≡ with_pending rows s [] skip
  pub waits : waiting ≡ option (setting_name s)
  pub valued : is_flag s ≡ false
  pub found : setting_among has (setting_bytes s) ≡ Some s
  pub holds : Holds seen rows

abbrev pub StandsAt : List Setting → Option Setting → Seen → Waiting → Held → Type 0
StandsAt has None seen waiting h = IsFree waiting × IsSettled has seen h
StandsAt has (Some s) seen waiting h = Waits has s seen waiting h

abbrev pub Claim : List Setting → List Text → Type 0
Claim has ws = (m : Option Setting) (seen : Seen) (waiting : Waiting) (h : Held) → StandsAt has m seen waiting h → AgreeFrom has (read_texts has m seen ws) (at h waiting false) ws

abbrev pub on : List Setting → List Text → Option Setting → Seen → Option Seen
on has ws m x = read_texts has m x ws

-- an option that is used at once
use_agrees : (has : List Setting) (w : Walk) (x : Text) (ws : List Text) (seen : Seen) (s : Setting) (v : Text) (h : Held) → Claim has ws
    → turn_fault (built_shape has) [] w x ≡ conflict (is_some (text_of s seen.texts)) → walked (built_rules has) [] w x ≡ at h idle false → (is_some (text_of s seen.texts) ≡ false → IsSettled has (seen_option s v seen) h)
    → AgreeFrom has (once_more s v seen (on has ws None)) w (x ∷ ws)
use_agrees has w x ws seen s v h next turn goes settles =
    elim (is_some (text_of s seen.texts)) as (λ b. is_some (text_of s seen.texts) ≡ b → AgreeFrom has (cond b None (read_texts has None (seen_option s v seen) ws)) w (x ∷ ws)) [
      | true ↦ λ e. agree_fails has w x ws (λ f. conflicts (is_some (text_of s seen.texts)) e (sym turn ∙ f))
      | false ↦ λ e. agree_next has (read_texts has None (seen_option s v seen) ws) w (at h idle false) x ws (turn ∙ no_conflict (is_some (text_of s seen.texts)) e) goes (next None (seen_option s v seen) idle h (tt, settles e))
    ] refl

-- what is read is spelt so
pub among_named : (has : List Setting) (w : Text) (s : Setting) → setting_among has w ≡ Some s → setting_among has (setting_bytes s) ≡ Some s
among_named has w s e = ap (setting_among has) (sym (spelt has e)) ∙ e
  where
    none_some : {X : Type 0} {x : X} → None ≡ Some x → ⊥
    none_some f = cc

    some_same : {X : Type 0} {x y : X} → Some x ≡ Some y → x ≡ y
    some_same f = cc

    spelt : (ss : List Setting) → setting_among ss w ≡ Some s → w ≡ setting_bytes s
    spelt [] f = absurd (none_some f)
    spelt (t ∷ ss) f =
        elim (bytes_eq w (setting_bytes t)) as (λ v. bytes_eq w (setting_bytes t) ≡ v → cond v (Some t) (setting_among ss w) ≡ Some s → w ≡ setting_bytes s) [
          | true ↦ λ b g. (bytes_eq-Decides w (setting_bytes t)).0 b ∙ ap setting_bytes (some_same g)
          | false ↦ λ b g. spelt ss g
        ] refl f

module _ (has : List Setting) (w : Text) (ws : List Text) (seen : Seen) (waiting : Waiting) (h : Held) (settles : IsSettled has seen h) (next : Claim has ws) where
  -- a flag, an option with its value, and a name that waits for its value
  flag_step : (s : Setting) → is_flag s ≡ true → turn_fault (built_shape has) [] (at h waiting false) w ≡ long_turn has waiting w (Some (built_option s)) None h → walked (built_rules has) [] (at h waiting false) w ≡ long_walk has waiting w (Some (built_option s)) None h
      → AgreeFrom has (once_more s (codes "true") seen (on has ws None)) (at h waiting false) (w ∷ ws)
  flag_step s flag turn goes =
      use_agrees has (at h waiting false) w ws seen s (codes "true") (reacted (built_rules has) (built_as (setting_name s) true) [] h) next
      (turn ∙ ap (λ f. long_turn has waiting w (Some (built_as (setting_name s) f)) None h) flag ∙ ap (λ k. or_else (or_else k (use_fault false (built_as (setting_name s) true) [] (settled (built_rules has) h).rows)) []) settles.0 ∙ or_nil (conflict (has_row (setting_name s) (settled (built_rules has) h).rows)) ∙ ap conflict (has_text seen (settled (built_rules has) h).rows s settles.1))
      (goes ∙ ap (λ f. long_walk has waiting w (Some (built_as (setting_name s) f)) None h) flag)
      (λ none. (refl, once_held seen (settled (built_rules has) h).rows s (codes "true") (reading_by (built_as (setting_name s) true)) settles.1 none))

  value_step : (s : Setting) (v : Text) → is_flag s ≡ false → turn_fault (built_shape has) [] (at h waiting false) w ≡ long_turn has waiting w (Some (built_option s)) (Some v) h → walked (built_rules has) [] (at h waiting false) w ≡ long_walk has waiting w (Some (built_option s)) (Some v) h
      → AgreeFrom has (once_more s v seen (on has ws None)) (at h waiting false) (w ∷ ws)
  value_step s v flag turn goes =
      use_agrees has (at h waiting false) w ws seen s v (reacted (built_rules has) (built_as (setting_name s) false) (v ∷ []) h) next
      (turn ∙ ap (λ f. long_turn has waiting w (Some (built_as (setting_name s) f)) (Some v) h) flag ∙ ap (λ k. or_else (or_else k (use_fault false (built_as (setting_name s) false) (v ∷ []) (settled (built_rules has) h).rows)) []) settles.0 ∙ or_nil (conflict (has_row (setting_name s) (settled (built_rules has) h).rows)) ∙ ap conflict (has_text seen (settled (built_rules has) h).rows s settles.1))
      (goes ∙ ap (λ f. long_walk has waiting w (Some (built_as (setting_name s) f)) (Some v) h) flag)
      (λ none. (refl, once_held seen (settled (built_rules has) h).rows s v (reading_by (built_as (setting_name s) false)) settles.1 none))

  name_step : (s : Setting) → setting_among has (setting_bytes s) ≡ Some s → is_flag s ≡ false → turn_fault (built_shape has) [] (at h waiting false) w ≡ long_turn has waiting w (Some (built_option s)) None h → walked (built_rules has) [] (at h waiting false) w ≡ long_walk has waiting w (Some (built_option s)) None h
      → AgreeFrom has (on has ws (Some s) seen) (at h waiting false) (w ∷ ws)
  name_step s found flag turn goes =
      agree_next has (read_texts has (Some s) seen ws) (at h waiting false) (at (with_pending (settled (built_rules has) h).rows s [] h.skip) (option (setting_name s)) false) w ws
      (turn ∙ ap (λ f. long_turn has waiting w (Some (built_as (setting_name s) f)) None h) flag ∙ ap (λ k. or_else k []) settles.0)
      (goes ∙ ap (λ f. long_walk has waiting w (Some (built_as (setting_name s) f)) None h) flag)
      (next (Some s) seen (option (setting_name s)) (with_pending (settled (built_rules has) h).rows s [] h.skip) (record { rows = (settled (built_rules has) h).rows; skip = h.skip; held = refl; waits = refl; valued = flag; found = found; holds = settles.1 }))

  long_agrees : (n : Text) (o : Option Setting) (v : Option Text) → setting_among has (45 ∷ 45 ∷ n) ≡ o → IsLong has w n v → AgreeFrom has (read_piece (option_piece o v) w ws seen (on has ws)) (at h waiting false) (w ∷ ws)
  long_agrees n None v e l = agree_fails has (at h waiting false) w ws (λ f. unknown (sym (long_turn_is has waiting w n v h l ∙ ap (λ o. long_turn has waiting w (rule_if o) v h) e) ∙ f))
    where
      unknown : long_turn has waiting w None v h ≡ [] → ⊥
      unknown f = cc
  long_agrees n (Some s) None e l =
      let turn = long_turn_is has waiting w n None h l ∙ ap (λ o. long_turn has waiting w (rule_if o) None h) e in
      let goes = long_walk_is has waiting w n None h l ∙ ap (λ o. long_walk has waiting w (rule_if o) None h) e in
      elim (is_flag s) as (λ b. is_flag s ≡ b → AgreeFrom has (cond b (once_more s (codes "true") seen (on has ws None)) (on has ws (Some s) seen)) (at h waiting false) (w ∷ ws)) [
        | true ↦ λ flag. flag_step s flag turn goes
        | false ↦ λ flag. name_step s (among_named has (45 ∷ 45 ∷ n) s e) flag turn goes
      ] refl
  long_agrees n (Some s) (Some v) e l =
      let turn = long_turn_is has waiting w n (Some v) h l ∙ ap (λ o. long_turn has waiting w (rule_if o) (Some v) h) e in
      let goes = long_walk_is has waiting w n (Some v) h l ∙ ap (λ o. long_walk has waiting w (rule_if o) (Some v) h) e in
      elim (is_flag s) as (λ b. is_flag s ≡ b → AgreeFrom has (cond b None (once_more s v seen (on has ws None))) (at h waiting false) (w ∷ ws)) [
        | true ↦ λ flag. agree_fails has (at h waiting false) w ws (λ f. many (setting_name s) (sym (turn ∙ ap (λ b. long_turn has waiting w (Some (built_as (setting_name s) b)) (Some v) h) flag) ∙ f))
        | false ↦ λ flag. value_step s v flag turn goes
      ] refl
    where
      many : (name : Text) → long_turn has waiting w (Some (built_as name true)) (Some v) h ≡ [] → ⊥
      many name f = cc

-- A name that waits for its value

waits_fault : (has : List Setting) (rows : List Row) (s : Setting) (vs : List Text) (skip : ℕ) → is_flag s ≡ false → setting_among has (setting_bytes s) ≡ Some s → rules_fault has (with_pending rows s vs skip) ≡ use_fault false (built_as (setting_name s) false) vs rows
waits_fault has rows s vs skip flag found = ap (λ o. option_map_or (λ a. use_fault false a vs rows) o []) (by_id has s found) ∙ ap (λ f. use_fault false (built_as (setting_name s) f) vs rows) flag

waits_bad : (has : List Setting) (s : Setting) (seen : Seen) (waiting : Waiting) (h : Held) → Waits has s seen waiting h → rules_fault has h ≡ [] → ⊥
waits_bad has s seen waiting h wt e = bad (setting_name s) (sym (ap (rules_fault has) wt.held ∙ waits_fault has wt.rows s [] wt.skip wt.valued wt.found) ∙ e)
  where
    bad : (name : Text) → use_fault false (built_as name false) [] wt.rows ≡ [] → ⊥
    bad name f = cc

waits_turn : (has : List Setting) (name w : Text) (h : Held) → other_turn has (option name) w None h ≡ []
waits_turn has name w h = refl

taken_word : (has : List Setting) (s : Setting) (w : Text) (rows : List Row) (skip : ℕ) → is_flag s ≡ false → setting_among has (setting_bytes s) ≡ Some s
    → other_walk has (option (setting_name s)) w None (with_pending rows s [] skip) ≡ at (with_pending rows s (w ∷ []) skip) idle false
taken_word has s w rows skip flag found =
    ap (λ o. after_option (option_word o (setting_name s) w (with_pending rows s [] skip))) (by_id has s found)
    ∙ ap (λ f. after_option (option_word (Some (built_as (setting_name s) f)) (setting_name s) w (with_pending rows s [] skip))) flag
    ∙ ap (λ b. at (with_pending rows s (w ∷ []) skip) (cond (ltb (cond b 1 0) 1) (option (setting_name s)) idle) false) (same_name s)
  where
    after_option : Held × Waiting → Walk
    after_option p = at p.0 p.1 false

waiting_agrees : (has : List Setting) (w : Text) (ws : List Text) (s : Setting) (seen : Seen) (waiting : Waiting) (h : Held) → Waits has s seen waiting h → IsOther w → has_short_word ws ≡ false → Claim has ws
    → AgreeFrom has (once_more s w seen (on has ws None)) (at h waiting false) (w ∷ ws)
waiting_agrees has w ws s seen waiting h wt o ns next =
    let taken = with_pending wt.rows s (w ∷ []) wt.skip in
    let turn = other_turn_is has waiting w h o ∙ ap (λ x. other_turn has x w None h) wt.waits in
    let goes : walked (built_rules has) [] (at h waiting false) w ≡ at taken idle false = other_walk_is has waiting w h o ∙ ap₂ (λ x y. other_walk has x w None y) wt.waits wt.held ∙ taken_word has s w wt.rows wt.skip wt.valued wt.found in
    let fault : rules_fault has taken ≡ conflict (is_some (text_of s seen.texts)) = waits_fault has wt.rows s (w ∷ []) wt.skip wt.valued wt.found ∙ ap conflict (has_text seen wt.rows s wt.holds) in
    elim (is_some (text_of s seen.texts)) as (λ b. is_some (text_of s seen.texts) ≡ b → AgreeFrom has (cond b None (read_texts has None (seen_option s w seen) ws)) (at h waiting false) (w ∷ ws)) [
      | true ↦ λ e. agree_next has None (at h waiting false) (at taken idle false) w ws turn goes (fails_on has ws ns idle tt taken (λ f. conflicts (is_some (text_of s seen.texts)) e (sym fault ∙ f)))
      | false ↦ λ e. agree_next has (read_texts has None (seen_option s w seen) ws) (at h waiting false) (at taken idle false) w ws turn goes
          (next None (seen_option s w seen) idle taken (
            tt,
            (
              fault ∙ no_conflict (is_some (text_of s seen.texts)) e,
              subst (Holds (seen_option s w seen)) (sym (ap (λ a. used_by_id a (w ∷ []) wt.rows) (by_id has s wt.found) ∙ ap (λ f. used (built_as (setting_name s) f) (w ∷ []) wt.rows) wt.valued))
                  (once_held seen wt.rows s w (reading_by (built_as (setting_name s) false)) wt.holds e),
            ),
          ))
    ] refl

-- All words

ends_option : (w : Text) → bytes_eq w (codes "--") ≡ true → is_option w ≡ true
ends_option w e = ap is_option ((bytes_eq-Decides w (codes "--")).0 e)

pub words_agree : (has : List Setting) (ws : List Text) → has_short_word ws ≡ false → Claim has ws
words_agree has [] ns None seen waiting h (free, s) = agree_none has seen (at h waiting false) s.0 s.1
words_agree has [] ns (Some s) seen waiting h wt = λ e. waits_bad has s seen waiting h wt (sym (total_none has (at h waiting false)) ∙ e)
words_agree has (w ∷ ws) ns None seen waiting h (free, s) = by_kind (words_agree has ws) (kind_of_word has w)
  where
    by_kind : (has_short_word ws ≡ false → Claim has ws) → Kind has w → AgreeFrom has (read_texts has None seen (w ∷ ws)) (at h waiting false) (w ∷ ws)
    by_kind next (EndsHere e) =
        subst (λ b. AgreeFrom has (read_piece (cond b Ends (cond (is_option w) (option_piece (setting_among has (before_equals w)) (after_equals w)) Plain)) w ws seen (on has ws)) (at h waiting false) (w ∷ ws)) (sym e)
        (agree_next has (Some (record { texts = seen.texts; positionals = seen.positionals ++ ws })) (at h waiting false) (at h waiting true) w ws (ends_turn has waiting w h e) (ends_walk has waiting w h e) (trail_words has ws seen waiting h s))
    by_kind next (Long n v ends is long piece) =
        subst (λ p. AgreeFrom has (read_piece p w ws seen (on has ws)) (at h waiting false) (w ∷ ws)) (sym piece)
        (long_agrees has w ws seen waiting h s (next (short_rest w ws ends ns).1) n (setting_among has (45 ∷ 45 ∷ n)) v refl (record { ends = ends; long = long }))
    by_kind next (Short x) = absurd (never_short w ws x ns)
    by_kind next (Other ends is long short piece) =
        let o : IsOther w = record { ends = ends; long = long; short = none_short w short } in
        subst (λ p. AgreeFrom has (read_piece p w ws seen (on has ws)) (at h waiting false) (w ∷ ws)) (sym piece)
        (agree_next has (read_texts has None (seen_word w seen) ws) (at h waiting false) (at (with_word has w h) positional false) w ws
        (other_turn_is has waiting w h o ∙ free_turn has waiting w h free ∙ s.0) (other_walk_is has waiting w h o ∙ free_walk has waiting w h free)
        (next (short_rest w ws ends ns).1 None (seen_word w seen) positional (with_word has w h) (tt, word_settled has seen w h s)))
words_agree has (w ∷ ws) ns (Some s) seen waiting h wt = by_kind (words_agree has ws) (kind_of_word has w)
  where
    refused : is_option w ≡ true → AgreeFrom has None (at h waiting false) (w ∷ ws) → AgreeFrom has (read_texts has (Some s) seen (w ∷ ws)) (at h waiting false) (w ∷ ws)
    refused is a = subst (λ b. AgreeFrom has (cond b None (once_more s w seen (on has ws None))) (at h waiting false) (w ∷ ws)) (sym is) a

    by_kind : (has_short_word ws ≡ false → Claim has ws) → Kind has w → AgreeFrom has (read_texts has (Some s) seen (w ∷ ws)) (at h waiting false) (w ∷ ws)
    by_kind next (EndsHere e) =
        refused (ends_option w e) (agree_next has None (at h waiting false) (at h waiting true) w ws (ends_turn has waiting w h e) (ends_walk has waiting w h e) (trail_fails has ws waiting h (waits_bad has s seen waiting h wt)))
    by_kind next (Long n v ends is long piece) =
        refused is (agree_fails has (at h waiting false) w ws (λ e. long_fails has waiting w (setting_among has (45 ∷ 45 ∷ n)) v h (waits_bad has s seen waiting h wt) (sym (long_turn_is has waiting w n v h (record { ends = ends; long = long })) ∙ e)))
    by_kind next (Short x) = absurd (never_short w ws x ns)
    by_kind next (Other ends is long short piece) =
        let o : IsOther w = record { ends = ends; long = long; short = none_short w short } in
        let rest = (short_rest w ws ends ns).1 in
        subst (λ b. AgreeFrom has (cond b None (once_more s w seen (on has ws None))) (at h waiting false) (w ∷ ws)) (sym is) (waiting_agrees has w ws s seen waiting h wt o rest (next rest))
