-- What words say by the matches of `clap` is what reading them one after the other finds.
use Rattle.std.proofs.Common.{◌≡◌, ℕ, Bool, true, false, ◌&&◌, ◌||◌, cond, eqb, List, [], ◌∷◌, ◌++◌, length, Option, Some, None, is_some, refl, sym, ap, ap₂, ◌∙◌, subst, codes, append_assoc, append-nil, option_map}
use Rattle.std.specs.Prelude.{nat_le}
use Rattle.std.specs.List.{fold, list_any}
use Rattle.std.specs.Str.{bytes_eq}
use Rattle.std.proofs.lemmas.Bool.{eqb-true}
use Rattle.clap.specs.Lexer.{is_short_word}
use Rattle.clap.specs.Walk.{Row, Text, idle, nothing_held, with_default}
use Rattle.clap.specs.Simple.{matches_of}
use Rattle.clap.specs.Faults.{fault_of}
use Rattle.sk_tree.specs.Shapes.{is_digit}
use Rattle.sk_tree.specs.Tokens.{number_of}
use Rattle.sk_opts.specs.declared.setting.Setting.{Setting}
use Rattle.sk_opts.specs.declared.setting.Setting.TheVariants.{HoleBits, InputBits, Turns, Calls, IntBits, Rounds, Conflicts, Certificate, Holes}
use Rattle.sk_opts.specs.declared.setting.Given.{Given}
use Rattle.sk_opts.specs.declared.setting.GivenValue.{GivenValue}
use Rattle.sk_opts.specs.declared.setting.GivenValue.TheVariants.{Number, Numbers}
use Rattle.sk_opts.specs.declared.words.Words.{Words}
use Rattle.sk_opts.specs.Settings.{setting_bytes, lowest, highest, is_flag, is_list, setting_among, is_number, value_in, all_once, is_of}
use Rattle.sk_opts.specs.SpeltValues.{between_commas, longer_first, both}
use Rattle.sk_opts.specs.GivenValues.{long_numbers, given_value}
use Rattle.sk_opts.specs.CommandLine.{is_option}
use Rattle.sk_opts.specs.Reader.{Piece, Ends, Names, Sets, Plain, Unknown, before_equals, after_equals, option_piece, piece_of, with_setting, with_positional, words_with, words_from, if_once, words_of}
use Rattle.sk_opts.specs.Matching.{has_short_word, command_app, IsOptions, SameReading, words_with_settings, matched_words}
use Rattle.sk_opts.proofs.InRange.{flag_has_none}
use Rattle.sk_opts.proofs.ClapRules.{built_rules, eq_turned}
use Rattle.sk_opts.proofs.ClapRows.{Seen, text_of, seen_option, seen_word}
use Rattle.sk_opts.proofs.ClapWords.{at}
use Rattle.sk_opts.proofs.ClapWalk.{total, read_texts, read_piece, once_more, rows_at_end, Agree, among_named}
use Rattle.sk_opts.proofs.ClapLaw.{fault_is, matches_are, nothing_seen, walk_agrees}
use Rattle.sk_opts.proofs.ClapValues.{Texts, value_by, value_more, valued, AllRead, read_more, once_if, matched_is_taken, words_read, same_values}

none_some : {X : Type 0} {x : X} → None ≡ Some x → ⊥
none_some e = cc

false_true : false ≡ true → ⊥
false_true e = cc

-- Words behind what was read

abbrev behind : Option (List Given) → List Text → Option Words → Option Words
behind None ps more = None
behind (Some gs) ps None = None
behind (Some gs) ps (Some w) = Some (record { settings = gs ++ w.settings; positionals = ps ++ w.positionals })

behind_none : (o : Option (List Given)) (ps : List Text) → behind o ps None ≡ None
behind_none None ps = refl
behind_none (Some gs) ps = refl

-- one more option, at the end
abbrev ended : Option (List Given) → Setting → Option GivenValue → Option (List Given)
ended None s n = None
ended (Some gs) s None = None
ended (Some gs) s (Some n) = Some (gs ++ record { setting = s; value = n } ∷ [])

ended_first : (s : Setting) (n : Option GivenValue) → value_more s n (Some []) ≡ ended (Some []) s n
ended_first s None = refl
ended_first s (Some n) = refl

ended_later : (t : Setting) (k : Option GivenValue) (o : Option (List Given)) (s : Setting) (n : Option GivenValue) → value_more t k (ended o s n) ≡ ended (value_more t k o) s n
ended_later t None o s n = refl
ended_later t (Some k) None s n = refl
ended_later t (Some k) (Some gs) s None = refl
ended_later t (Some k) (Some gs) s (Some n) = refl

valued_more : (texts : Texts) (s : Setting) (v : List ℕ) → valued (texts ++ (s, v) ∷ []) ≡ ended (valued texts) s (value_by s v)
valued_more [] s v = ended_first s (value_by s v)
valued_more (g ∷ gs) s v = ap (value_more g.0 (value_by g.0 g.1)) (valued_more gs s v) ∙ ended_later g.0 (value_by g.0 g.1) (valued gs) s (value_by s v)

ended_behind : (o : Option (List Given)) (ps : List Text) (s : Setting) (n : Option GivenValue) (more : Option Words) → behind (ended o s n) ps more ≡ behind o ps (with_setting s n more)
ended_behind None ps s n more = refl
ended_behind (Some gs) ps s None more = refl
ended_behind (Some gs) ps s (Some n) None = refl
ended_behind (Some gs) ps s (Some n) (Some w) =
    ap (λ l. let r : Words = record { settings = l; positionals = ps ++ w.positionals } in Some r) (append_assoc gs (record { setting = s; value = n } ∷ []) w.settings)

word_behind : (o : Option (List Given)) (ps : List Text) (w : Text) (more : Option Words) → behind o (ps ++ w ∷ []) more ≡ behind o ps (with_positional w more)
word_behind None ps w more = refl
word_behind (Some gs) ps w None = refl
word_behind (Some gs) ps w (Some m) = ap (λ l. let r : Words = record { settings = gs ++ m.settings; positionals = l } in Some r) (append_assoc ps (w ∷ []) m.positionals)

-- An option twice

any_in : (p : Given → Bool) (gs : List Given) (g : Given) (more : List Given) → p g ≡ true → list_any p (gs ++ g ∷ more) ≡ true
any_in p [] g more e = ap (λ b. b || list_any p more) e
any_in p (x ∷ xs) g more e = elim (p x) as (λ b. (b || list_any p (xs ++ g ∷ more)) ≡ true) [ true ↦ refl | false ↦ any_in p xs g more e ]

never : (b : Bool) → cond b false false ≡ false
never true = refl
never false = refl

not_once : (gs : List Given) (g : Given) (more : List Given) → list_any (is_of g.setting) gs ≡ true → all_once (gs ++ g ∷ more) ≡ false
not_once [] g more e = absurd (false_true e)
not_once (x ∷ xs) g more e =
    elim (is_of g.setting x) as (λ b. is_of g.setting x ≡ b → (b || list_any (is_of g.setting) xs) ≡ true → all_once (x ∷ (xs ++ g ∷ more)) ≡ false) [
      | true ↦ λ b f. ap (λ v. cond v false (all_once (xs ++ g ∷ more))) (any_in (is_of x.setting) xs g more (eq_turned (setting_bytes x.setting) (setting_bytes g.setting) ∙ b))
      | false ↦ λ b f. ap (λ v. cond (list_any (is_of x.setting) (xs ++ g ∷ more)) false v) (not_once xs g more f) ∙ never (list_any (is_of x.setting) (xs ++ g ∷ more))
    ] refl e

twice_none : (has : List Setting) (texts : Texts) (ps : List Text) (s : Setting) (n : Option GivenValue) (more : Option Words) → AllRead has texts → is_some (text_of s texts) ≡ true
    → if_once (behind (valued texts) ps (with_setting s n more)) ≡ None
twice_none has texts ps s n more k e = by_values (valued texts) n more refl
  where
    by_values : (o : Option (List Given)) (n : Option GivenValue) (more : Option Words) → valued texts ≡ o → if_once (behind o ps (with_setting s n more)) ≡ None
    by_values None n more f = refl
    by_values (Some gs) None more f = refl
    by_values (Some gs) (Some n) None f = refl
    by_values (Some gs) (Some n) (Some w) f =
        ap (λ b. cond b (Some (record { settings = gs ++ record { setting = s; value = n } ∷ w.settings; positionals = ps ++ w.positionals })) None)
        (not_once gs (record { setting = s; value = n }) w.settings ((once_if has texts gs k f).any s ∙ e))

-- Values begin with no minus sign

and_false : (x y : Bool) → (x && (y && false)) ≡ false
and_false true true = refl
and_false true false = refl
and_false false y = refl

minus_number : (w : List ℕ) → is_option w ≡ true → is_number w ≡ false
unfolding is_digit
minus_number [] e = absurd (false_true e)
minus_number (b ∷ []) e = absurd (false_true e)
minus_number (b ∷ c ∷ r) e =
    let at : b ≡ 45 = eqb-true b 45 e in
    subst (λ x. is_number (x ∷ c ∷ r) ≡ false) (sym at) (and_false (nat_le 1 (length (45 ∷ c ∷ r))) (nat_le (length (45 ∷ c ∷ r)) 10))

no_number : (s : Setting) (w : List ℕ) → is_option w ≡ true → value_in s w ≡ None
no_number s w e =
    elim (is_flag s) as (λ b. cond b None (cond (is_number w && (nat_le (lowest s) (number_of w) && nat_le (number_of w) (highest s))) (Some (number_of w)) None) ≡ None) [
      | true ↦ refl
      | false ↦ ap (λ b. cond (b && (nat_le (lowest s) (number_of w) && nat_le (number_of w) (highest s))) (Some (number_of w)) None) (minus_number w e)
    ]

-- what stands before the first comma begins so too
never_number : (v : List ℕ) → (is_number (45 ∷ v) && (nat_le 0 (number_of (45 ∷ v)) && nat_le (number_of (45 ∷ v)) 9999999999)) ≡ false
unfolding is_digit
never_number v = ap (λ b. b && (nat_le 0 (number_of (45 ∷ v)) && nat_le (number_of (45 ∷ v)) 9999999999)) (and_false (nat_le 1 (length (45 ∷ v))) (nat_le (length (45 ∷ v)) 10))

no_first : (v : List ℕ) (ws : List (List ℕ)) → long_numbers ((45 ∷ v) ∷ ws) ≡ None
no_first v ws = ap (λ b. both (cond b (Some (number_of (45 ∷ v))) None) (long_numbers ws)) (never_number v)

minus_piece : (w : List ℕ) → is_option w ≡ true → long_numbers (between_commas w) ≡ None
minus_piece [] e = absurd (false_true e)
minus_piece (b ∷ []) e = absurd (false_true e)
minus_piece (b ∷ c ∷ r) e = subst (λ x. long_numbers (between_commas (x ∷ c ∷ r)) ≡ None) (sym (eqb-true b 45 e)) (first (between_commas (c ∷ r)))
  where
    first : (ws : List (List ℕ)) → long_numbers (longer_first 45 ws) ≡ None
    first [] = no_first [] []
    first (v ∷ ws) = no_first v ws

no_value : (s : Setting) (w : List ℕ) → is_option w ≡ true → given_value s w ≡ None
no_value s w e =
    elim (is_list s) as (λ b. cond b (option_map Numbers (long_numbers (between_commas w))) (option_map Number (value_in s w)) ≡ None) [
      | true ↦ ap (option_map Numbers) (minus_piece w e)
      | false ↦ ap (option_map Number) (no_number s w e)
    ]

-- All words

-- a reading as texts, and what the words come to
abbrev Reads : List Setting → Option Seen → Option Words → Type 0
Reads has None o = o ≡ None
Reads has (Some seen) o = (o ≡ words_with_settings (valued seen.texts) seen.positionals) × AllRead has seen.texts

-- what is left of the words, behind what was read
abbrev from_here : List Setting → Seen → Option Words → Option Words
from_here has seen more = if_once (behind (valued seen.texts) seen.positionals more)

abbrev MayWait : List Setting → Option Setting → Type 0
MayWait has None = Unit {0}
MayWait has (Some s) = (is_flag s ≡ false) × (setting_among has (setting_bytes s) ≡ Some s)

abbrev ReadsOn : List Setting → List Text → Type 0
ReadsOn has ws = (m : Option Setting) (seen : Seen) → MayWait has m → AllRead has seen.texts → Reads has (read_texts has m seen ws) (from_here has seen (words_from has m ws))

reads_none : (has : List Setting) (seen : Seen) (more : Option Words) → more ≡ None → from_here has seen more ≡ None
reads_none has seen more e = ap (from_here has seen) e ∙ ap if_once (behind_none (valued seen.texts) seen.positionals)

-- nothing but positionals is left
reads_words : (has : List Setting) (seen : Seen) (ws : List Text) → AllRead has seen.texts
    → Reads has (Some (record { texts = seen.texts; positionals = seen.positionals ++ ws })) (from_here has seen (Some (record { settings = []; positionals = ws })))
reads_words has seen ws k = (by_values (valued seen.texts) refl, k)
  where
    by_values : (o : Option (List Given)) → valued seen.texts ≡ o → if_once (behind o seen.positionals (Some (record { settings = []; positionals = ws }))) ≡ words_with_settings o (seen.positionals ++ ws)
    by_values None e = refl
    by_values (Some gs) e =
        ap (λ l. if_once (Some (record { settings = l; positionals = seen.positionals ++ ws }))) (append-nil gs)
        ∙ ap (λ b. cond b (Some (record { settings = gs; positionals = seen.positionals ++ ws })) None) (once_if has seen.texts gs k e).once

-- an option with its text
reads_option : (has : List Setting) (ws : List Text) (s : Setting) (v : List ℕ) (n : Option GivenValue) (seen : Seen) → ReadsOn has ws → AllRead has seen.texts → setting_among has (setting_bytes s) ≡ Some s → (is_flag s ≡ true → v ≡ codes "true") → value_by s v ≡ n
    → Reads has (once_more s v seen (λ x. read_texts has None x ws)) (from_here has seen (with_setting s n (words_from has None ws)))
reads_option has ws s v n seen next k among flag is =
    elim (is_some (text_of s seen.texts)) as (λ b. is_some (text_of s seen.texts) ≡ b → Reads has (cond b None (read_texts has None (seen_option s v seen) ws)) (from_here has seen (with_setting s n (words_from has None ws)))) [
      | true ↦ λ e. twice_none has seen.texts seen.positionals s n (words_from has None ws) k e
      | false ↦ λ e. subst (Reads has (read_texts has None (seen_option s v seen) ws)) same (next None (seen_option s v seen) tt (read_more has seen.texts s v k among flag (absent (text_of s seen.texts) e)))
    ] refl
  where
    absent : (o : Option Text) → is_some o ≡ false → o ≡ None
    absent None e = refl
    absent (Some x) e = absurd (false_true (sym e))

    same : from_here has (seen_option s v seen) (words_from has None ws) ≡ from_here has seen (with_setting s n (words_from has None ws))
    same =
        ap (λ o. if_once (behind o seen.positionals (words_from has None ws))) (valued_more seen.texts s v ∙ ap (ended (valued seen.texts) s) is)
        ∙ ap if_once (ended_behind (valued seen.texts) seen.positionals s n (words_from has None ws))

abbrev IsKnown : List Setting → Piece → Type 0
IsKnown has Ends = Unit {0}
IsKnown has (Names s) = setting_among has (setting_bytes s) ≡ Some s
IsKnown has (Sets s v) = setting_among has (setting_bytes s) ≡ Some s
IsKnown has Plain = Unit {0}
IsKnown has Unknown = Unit {0}

is_known : (has : List Setting) (w : Text) → IsKnown has (piece_of has w)
is_known has w =
    elim (bytes_eq w (codes "--")) as (λ b. IsKnown has (cond b Ends (cond (is_option w) (option_piece (setting_among has (before_equals w)) (after_equals w)) Plain))) [
      | true ↦ tt
      | false ↦ elim (is_option w) as (λ b. IsKnown has (cond b (option_piece (setting_among has (before_equals w)) (after_equals w)) Plain)) [
        | true ↦ by_option (setting_among has (before_equals w)) (after_equals w) refl
        | false ↦ tt
      ]
    ]
  where
    by_option : (o : Option Setting) (v : Option (List ℕ)) → setting_among has (before_equals w) ≡ o → IsKnown has (option_piece o v)
    by_option None v e = tt
    by_option (Some s) None e = among_named has (before_equals w) s e
    by_option (Some s) (Some v) e = among_named has (before_equals w) s e

reads_piece : (has : List Setting) (p : Piece) (w : Text) (ws : List Text) (seen : Seen) → IsKnown has p → AllRead has seen.texts → ReadsOn has ws
    → Reads has (read_piece p w ws seen (λ m x. read_texts has m x ws)) (from_here has seen (words_with p w ws (λ m. words_from has m ws)))
reads_piece has Ends w ws seen known k next = reads_words has seen ws k
reads_piece has (Names s) w ws seen known k next =
    elim (is_flag s) as (λ b. is_flag s ≡ b → Reads has (cond b (once_more s (codes "true") seen (λ x. read_texts has None x ws)) (read_texts has (Some s) seen ws)) (from_here has seen (cond b (with_setting s (Some (Number 0)) (words_from has None ws)) (words_from has (Some s) ws)))) [
      | true ↦ λ e. reads_option has ws s (codes "true") (Some (Number 0)) seen next k known (λ f. refl) (ap (λ b. cond b (Some (Number 0)) (given_value s (codes "true"))) e)
      | false ↦ λ e. next (Some s) seen (e, known) k
    ] refl
reads_piece has (Sets s v) w ws seen known k next =
    elim (is_flag s) as (λ b. is_flag s ≡ b → Reads has (cond b None (once_more s v seen (λ x. read_texts has None x ws))) (from_here has seen (with_setting s (given_value s v) (words_from has None ws)))) [
      | true ↦ λ e. reads_none has seen (with_setting s (given_value s v) (words_from has None ws)) (ap (λ n. with_setting s n (words_from has None ws)) (flag_has_none s v e))
      | false ↦ λ e. reads_option has ws s v (given_value s v) seen next k known (λ f. absurd (false_true (sym e ∙ f))) (ap (λ b. cond b (Some (Number 0)) (given_value s v)) e)
    ] refl
reads_piece has Plain w ws seen known k next =
    subst (Reads has (read_texts has None (seen_word w seen) ws)) (ap if_once (word_behind (valued seen.texts) seen.positionals w (words_from has None ws))) (next None (seen_word w seen) tt k)
reads_piece has Unknown w ws seen known k next = reads_none has seen None refl

reads : (has : List Setting) (ws : List Text) → ReadsOn has ws
reads has [] None seen m k =
    subst (λ ps. Reads has (Some (record { texts = seen.texts; positionals = ps })) (from_here has seen (Some (record { settings = []; positionals = [] })))) (append-nil seen.positionals) (reads_words has seen [] k)
reads has [] (Some s) seen m k = reads_none has seen None refl
reads has (w ∷ ws) None seen m k = reads_piece has (piece_of has w) w ws seen (is_known has w) k (reads has ws)
reads has (w ∷ ws) (Some s) seen m k =
    elim (is_option w) as (λ b. is_option w ≡ b → Reads has (cond b None (once_more s w seen (λ x. read_texts has None x ws))) (from_here has seen (with_setting s (given_value s w) (words_from has None ws)))) [
      | true ↦ λ e. reads_none has seen (with_setting s (given_value s w) (words_from has None ws)) (ap (λ n. with_setting s n (words_from has None ws)) (no_value s w e))
      | false ↦ λ e. reads_option has ws s w (given_value s w) seen (reads has ws) k m.1 (λ f. absurd (false_true (sym m.0 ∙ f))) (ap (λ b. cond b (Some (Number 0)) (given_value s w)) m.0)
    ] refl

behind_nothing : (o : Option Words) → behind (Some []) [] o ≡ o
behind_nothing None = refl
behind_nothing (Some w) = refl

words_read_as : (has : List Setting) (ws : List Text) → Reads has (read_texts has None nothing_seen ws) (words_of has ws)
words_read_as has ws = subst (λ o. Reads has (read_texts has None nothing_seen ws) (if_once o)) (behind_nothing (words_from has None ws)) (reads has ws None nothing_seen tt tt)

-- Words `-x`

minus_first : (s : Setting) (c : ℕ) (r : List ℕ) → eqb c 45 ≡ false → bytes_eq (before_equals (45 ∷ c ∷ r)) (setting_bytes s) ≡ false
minus_first s c r e = elim (eqb c 61) as (λ b. bytes_eq (45 ∷ cond b [] (c ∷ before_equals r)) (setting_bytes s) ≡ false) [ true ↦ short s | false ↦ other s ]
  where
    short : (s : Setting) → bytes_eq (45 ∷ []) (setting_bytes s) ≡ false
    short HoleBits = refl
    short InputBits = refl
    short Turns = refl
    short Calls = refl
    short IntBits = refl
    short Rounds = refl
    short Conflicts = refl
    short Certificate = refl
    short Holes = refl

    other : (s : Setting) → bytes_eq (45 ∷ c ∷ before_equals r) (setting_bytes s) ≡ false
    other HoleBits = rw e refl
    other InputBits = rw e refl
    other Turns = rw e refl
    other Calls = rw e refl
    other IntBits = rw e refl
    other Rounds = rw e refl
    other Conflicts = rw e refl
    other Certificate = rw e refl
    other Holes = rw e refl

none_among : (has : List Setting) (c : ℕ) (r : List ℕ) → eqb c 45 ≡ false → setting_among has (before_equals (45 ∷ c ∷ r)) ≡ None
none_among [] c r e = refl
none_among (s ∷ ss) c r e = ap (λ b. cond b (Some s) (setting_among ss (before_equals (45 ∷ c ∷ r)))) (minus_first s c r e) ∙ none_among ss c r e

-- one minus sign, and then another byte
pub record IsShort (w : List ℕ) : Type 0 where
  pub second : ℕ
  pub rest : List ℕ
  pub spelt : w ≡ 45 ∷ second ∷ rest
  pub other : eqb second 45 ≡ false

is_short : (w : List ℕ) → is_short_word w ≡ true → IsShort w
is_short [] e = absurd (false_true e)
is_short (b ∷ []) e = elim (eqb b 45) as (λ v. eqb b 45 ≡ v → IsShort (b ∷ [])) [ true ↦ λ f. absurd (false_true (rw f at e)) | false ↦ λ f. absurd (false_true (rw f at e)) ] refl
is_short (b ∷ c ∷ r) e =
    elim (eqb b 45) as (λ v. eqb b 45 ≡ v → IsShort (b ∷ c ∷ r)) [
      | true ↦ λ f. elim (eqb c 45) as (λ v. eqb c 45 ≡ v → IsShort (b ∷ c ∷ r)) [
        | true ↦ λ g. absurd (false_true (rw (f, g) at e))
        | false ↦ λ g. record { second = c; rest = r; spelt = ap (λ x. x ∷ c ∷ r) (eqb-true b 45 f); other = g }
      ] refl
      | false ↦ λ f. absurd (false_true (rw f at e))
    ] refl

short_piece : (has : List Setting) (w : List ℕ) → IsShort w → piece_of has w ≡ Unknown
short_piece has w s =
    ap (piece_of has) s.spelt
    ∙ ap (λ b. cond b Ends (option_piece (setting_among has (before_equals (45 ∷ s.second ∷ s.rest))) (after_equals (45 ∷ s.second ∷ s.rest)))) (no_end s.second s.rest s.other)
    ∙ ap (λ o. option_piece o (after_equals (45 ∷ s.second ∷ s.rest))) (none_among has s.second s.rest s.other)
  where
    no_end : (c : ℕ) (r : List ℕ) → eqb c 45 ≡ false → bytes_eq (45 ∷ c ∷ r) (codes "--") ≡ false
    no_end c r e = rw e refl

short_option : (w : List ℕ) → IsShort w → is_option w ≡ true
short_option w s = ap is_option s.spelt

with_none : (s : Setting) (n : Option GivenValue) → with_setting s n None ≡ None
with_none s None = refl
with_none s (Some n) = refl

piece_none : (has : List Setting) (p : Piece) (w : Text) (ws : List Text) → (p ≡ Ends → ⊥) → ((m : Option Setting) → words_from has m ws ≡ None) → words_with p w ws (λ m. words_from has m ws) ≡ None
piece_none has Ends w ws differ next = absurd (differ refl)
piece_none has (Names s) w ws differ next =
    elim (is_flag s) as (λ b. cond b (with_setting s (Some (Number 0)) (words_from has None ws)) (words_from has (Some s) ws) ≡ None) [
      | true ↦ ap (with_setting s (Some (Number 0))) (next None)
      | false ↦ next (Some s)
    ]
piece_none has (Sets s v) w ws differ next = ap (with_setting s (given_value s v)) (next None) ∙ with_none s (given_value s v)
piece_none has Plain w ws differ next = ap (with_positional w) (next None)
piece_none has Unknown w ws differ next = refl

not_ends : (has : List Setting) (w : Text) → bytes_eq w (codes "--") ≡ false → piece_of has w ≡ Ends → ⊥
not_ends has w e f =
    elim (is_option w) as (λ b. cond b (option_piece (setting_among has (before_equals w)) (after_equals w)) Plain ≡ Ends → ⊥) [
      | true ↦ differ (setting_among has (before_equals w)) (after_equals w)
      | false ↦ λ g. cc
    ] (sym (ap (λ b. cond b Ends (cond (is_option w) (option_piece (setting_among has (before_equals w)) (after_equals w)) Plain)) e) ∙ f)
  where
    differ : (o : Option Setting) (v : Option (List ℕ)) → option_piece o v ≡ Ends → ⊥
    differ None v g = cc
    differ (Some s) None g = cc
    differ (Some s) (Some v) g = cc

short_none : (has : List Setting) (ws : List Text) → has_short_word ws ≡ true → (m : Option Setting) → words_from has m ws ≡ None
short_none has [] e m = absurd (false_true e)
short_none has (w ∷ ws) e m =
    elim (bytes_eq w (codes "--")) as (λ b. bytes_eq w (codes "--") ≡ b → cond b false (is_short_word w || has_short_word ws) ≡ true → words_from has m (w ∷ ws) ≡ None) [
      | true ↦ λ b f. absurd (false_true f)
      | false ↦ λ b f. elim (is_short_word w) as (λ v. is_short_word w ≡ v → (v || has_short_word ws) ≡ true → words_from has m (w ∷ ws) ≡ None) [
        | true ↦ λ s g. at_short m (is_short w s)
        | false ↦ λ s g. later m b (short_none has ws g)
      ] refl f
    ] refl e
  where
    at_short : (m : Option Setting) → IsShort w → words_from has m (w ∷ ws) ≡ None
    at_short None s = ap (λ p. words_with p w ws (λ x. words_from has x ws)) (short_piece has w s)
    at_short (Some t) s = ap (λ n. with_setting t n (words_from has None ws)) (no_value t w (short_option w s))

    later : (m : Option Setting) → bytes_eq w (codes "--") ≡ false → ((x : Option Setting) → words_from has x ws ≡ None) → words_from has m (w ∷ ws) ≡ None
    later None b next = piece_none has (piece_of has w) w ws (not_ends has w b) next
    later (Some t) b next = ap (with_setting t (given_value t w)) (next None) ∙ with_none t (given_value t w)

-- What `words_of` of the code rests on

-- a word `-x` before `--`
pub short_words : (has : List Setting) (ws : List Text) → has_short_word ws ≡ true → words_of has ws ≡ None
short_words has ws e = ap if_once (short_none has ws e None)

-- words in which `clap` finds a fault
pub faulty_words : (has : List Setting) (ws : List Text) → IsOptions has → has_short_word ws ≡ false → (fault_of (command_app has) ws ≡ [] → ⊥) → words_of has ws ≡ None
faulty_words has ws o ns fault = by_reading (read_texts has None nothing_seen ws) (walk_agrees has ws ns) (words_read_as has ws)
  where
    by_reading : (r : Option Seen) → Agree r (total has (at nothing_held idle false) ws) (rows_at_end has (at nothing_held idle false) ws) → Reads has r (words_of has ws) → words_of has ws ≡ None
    by_reading None a h = h
    by_reading (Some seen) a h = absurd (fault (fault_is has ws o ∙ a.0))

-- words that `clap` matches
pub matched_read : (has : List Setting) (ws : List Text) → IsOptions has → has_short_word ws ≡ false → fault_of (command_app has) ws ≡ [] → SameReading (matched_words has (matches_of (command_app has) ws)) (words_of has ws)
matched_read has ws o ns none = by_reading (read_texts has None nothing_seen ws) (walk_agrees has ws ns) (words_read_as has ws)
  where
    rows : List Row
    rows = rows_at_end has (at nothing_held idle false) ws

    by_reading : (r : Option Seen) → Agree r (total has (at nothing_held idle false) ws) rows → Reads has r (words_of has ws) → SameReading (matched_words has (matches_of (command_app has) ws)) (words_of has ws)
    by_reading None a h = absurd (a (sym (fault_is has ws o) ∙ none))
    by_reading (Some seen) a h =
        subst (λ x. SameReading (matched_words has x) (words_of has ws)) (sym (matches_are has ws o))
        (subst (SameReading (matched_words has (fold with_default rows (built_rules has)))) (sym h.0)
        (subst (λ x. SameReading x (words_with_settings (valued seen.texts) seen.positionals))
        (ap₂ words_with_settings (sym (matched_is_taken has has seen rows a.1 h.1)) (sym (words_read has seen rows a.1)))
        (same_values has seen.texts seen.positionals h.1)))
