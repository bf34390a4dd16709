-- The line that words spell is the one that reading them one after the other finds, and there is none where that finds
-- none.
use Rattle.std.proofs.Common.{◌≡◌, ℕ, zero, suc, Bool, true, false, ◌&&◌, cond, eqb, List, [], ◌∷◌, ◌++◌, Option, Some, None, option_map, unwrap_or, is_some, refl, sym, ap, subst, ◌∙◌, arith, codes, append_assoc, Contains}
use Rattle.std.specs.Prelude.{IsTrue}
use Rattle.std.specs.List.{All, flat_map}
use Rattle.std.specs.Str.{bytes_eq}
use Rattle.std.proofs.lemmas.Bool.{eqb-true}
use Rattle.std.proofs.lemmas.Slice.Eq.{bytes_eq-Decides}
use Rattle.std.proofs.lemmas.List.Elements.{All-nil, All-cons, All-tail}
use Rattle.sk_opts.specs.declared.line.Line.{Line}
use Rattle.sk_opts.specs.declared.line.Line.TheVariants as line
use Rattle.sk_opts.specs.declared.setting.Setting.{Setting}
use Rattle.sk_opts.specs.declared.setting.Setting.TheVariants.{HoleBits, InputBits, Turns, Calls, IntBits, Rounds, Conflicts, Certificate, Holes}
use Rattle.sk_opts.specs.declared.setting.GivenValue.{GivenValue}
use Rattle.sk_opts.specs.declared.setting.GivenValue.TheVariants.{Number}
use Rattle.sk_opts.specs.declared.words.Words.{Words}
use Rattle.sk_opts.specs.Settings.{setting_bytes, is_flag, of_bounds, of_synth, of_trace, setting_among, number_in, all_once, last_of, last_list}
use Rattle.sk_opts.specs.GivenValues.{given_value}
use Rattle.sk_opts.specs.CommandLine.{Part, Apart, Joined, Flag, Positional, part_words, is_option, IsPart, part_settings, part_positionals, end_words, Divides, HasWords, set_of, budget_of, IsLine}
use Rattle.sk_opts.specs.Reader.{Piece, Ends, Names, Sets, Plain, Unknown, before_equals, after_equals, option_piece, piece_of, with_setting, with_positional, words_with, words_from, if_once, words_of, if_none, synth_line, exec_with, exec_line, trace_with, trace_line, lower_line, prune_line, check_line, all_with, all_line, why_line, self_with, self_line, line_of}
use Rattle.sk_opts.proofs.InRange.{same_setting, flag_has_none}

some_none : {X : Type 0} {x : X} → None ≡ Some x → ⊥
some_none e = cc

some_same : {X : Type 0} {x y : X} → Some x ≡ Some y → x ≡ y
some_same e = cc

-- Names of options

itself : (s : Setting) → bytes_eq (setting_bytes s) (setting_bytes s) ≡ true
itself s = (bytes_eq-Decides (setting_bytes s) (setting_bytes s)).1 refl

-- an option that is among these is found by its name
here_or_later : (t : Setting) (ss : List Setting) (s : Setting) → bytes_eq (setting_bytes s) (setting_bytes t) ≡ false → Contains (t ∷ ss) s → Contains ss s
here_or_later t ss s differ (zero, inside, is) = let e : t ≡ s = is in absurd (subst (λ (b : Bool). b ≡ false → ⊥) (sym (ap (λ x. bytes_eq (setting_bytes s) (setting_bytes x)) e ∙ itself s)) (λ f. cc) differ)
here_or_later t ss s differ (suc k, inside, is) = (k, omega (arith, inside), is)

pub among_found : (has : List Setting) (s : Setting) → Contains has s → setting_among has (setting_bytes s) ≡ Some s
among_found [] s (k, inside, is) = absurd (omega (arith, inside))
among_found (t ∷ ss) s at =
    elim (bytes_eq (setting_bytes s) (setting_bytes t)) as (λ v. bytes_eq (setting_bytes s) (setting_bytes t) ≡ v → cond v (Some t) (setting_among ss (setting_bytes s)) ≡ Some s) [
      | true ↦ λ e. ap (λ x. Some x) (sym (same_setting s t e))
      | false ↦ λ e. among_found ss s (here_or_later t ss s e at)
    ] refl

-- what is found is among these, and so named
abbrev pub Found : List Setting → List ℕ → Option Setting → Type 0
Found has w None = Unit {0}
Found has w (Some s) = Contains has s × (w ≡ setting_bytes s)

more_found : (t : Setting) (ss : List Setting) (w : List ℕ) (o : Option Setting) → Found ss w o → Found (t ∷ ss) w o
more_found t ss w None f = tt
more_found t ss w (Some s) ((k, inside, is), named) = ((suc k, omega (arith, inside), is), named)

among_is : (has : List Setting) (w : List ℕ) → Found has w (setting_among has w)
among_is [] w = tt
among_is (t ∷ ss) w =
    elim (bytes_eq w (setting_bytes t)) as (λ v. bytes_eq w (setting_bytes t) ≡ v → Found (t ∷ ss) w (cond v (Some t) (setting_among ss w))) [
      | true ↦ λ e. ((zero, omega arith, refl), (bytes_eq-Decides w (setting_bytes t)).0 e)
      | false ↦ λ e. more_found t ss w (setting_among ss w) (among_is ss w)
    ] refl

-- One word

named_piece : (has : List Setting) (s : Setting) → Contains has s → piece_of has (setting_bytes s) ≡ Names s
named_piece has HoleBits at = ap (λ o. option_piece o None) (among_found has HoleBits at)
named_piece has InputBits at = ap (λ o. option_piece o None) (among_found has InputBits at)
named_piece has Turns at = ap (λ o. option_piece o None) (among_found has Turns at)
named_piece has Calls at = ap (λ o. option_piece o None) (among_found has Calls at)
named_piece has IntBits at = ap (λ o. option_piece o None) (among_found has IntBits at)
named_piece has Rounds at = ap (λ o. option_piece o None) (among_found has Rounds at)
named_piece has Conflicts at = ap (λ o. option_piece o None) (among_found has Conflicts at)
named_piece has Certificate at = ap (λ o. option_piece o None) (among_found has Certificate at)
named_piece has Holes at = ap (λ o. option_piece o None) (among_found has Holes at)

joined_piece : (has : List Setting) (s : Setting) (v : List ℕ) → Contains has s → piece_of has (setting_bytes s ++ codes "=" ++ v) ≡ Sets s v
joined_piece has HoleBits v at = ap (λ o. option_piece o (Some v)) (among_found has HoleBits at)
joined_piece has InputBits v at = ap (λ o. option_piece o (Some v)) (among_found has InputBits at)
joined_piece has Turns v at = ap (λ o. option_piece o (Some v)) (among_found has Turns at)
joined_piece has Calls v at = ap (λ o. option_piece o (Some v)) (among_found has Calls at)
joined_piece has IntBits v at = ap (λ o. option_piece o (Some v)) (among_found has IntBits at)
joined_piece has Rounds v at = ap (λ o. option_piece o (Some v)) (among_found has Rounds at)
joined_piece has Conflicts v at = ap (λ o. option_piece o (Some v)) (among_found has Conflicts at)
joined_piece has Certificate v at = ap (λ o. option_piece o (Some v)) (among_found has Certificate at)
joined_piece has Holes v at = ap (λ o. option_piece o (Some v)) (among_found has Holes at)

-- a word that is no option is a positional
not_ends : (w : List ℕ) → is_option w ≡ false → bytes_eq w (codes "--") ≡ false
not_ends [] differ = refl
not_ends (b ∷ []) differ = elim (eqb b 45) as (λ v. (v && false) ≡ false) [ true ↦ refl | false ↦ refl ]
not_ends (b ∷ c ∷ bs) differ = ap (λ v. v && (eqb c 45 && bytes_eq bs [])) differ

plain_piece : (has : List Setting) (w : List ℕ) → is_option w ≡ false → piece_of has w ≡ Plain
plain_piece has w differ = rw (not_ends w differ, differ) refl

-- what a word before and behind the first `=` comes to
abbrev pub Split : List ℕ → Option (List ℕ) → Type 0
Split w None = w ≡ before_equals w
Split w (Some v) = w ≡ before_equals w ++ codes "=" ++ v

eq_true : (b c : ℕ) → eqb b c ≡ true → b ≡ c
eq_true = eqb-true

split_later : (b : ℕ) (bs : List ℕ) (o : Option (List ℕ)) → eqb b 61 ≡ false → Split bs o → after_equals bs ≡ o → Split (b ∷ bs) o
split_later b bs None differ s e = rw differ (ap (λ l. b ∷ l) s)
split_later b bs (Some v) differ s e = rw differ (ap (λ l. b ∷ l) s)

split_at : (w : List ℕ) → Split w (after_equals w)
split_at [] = refl
split_at (b ∷ bs) =
    elim (eqb b 61) as (λ v. eqb b 61 ≡ v → Split (b ∷ bs) (cond v (Some bs) (after_equals bs))) [
      | true ↦ λ e. rw e (ap (λ c. c ∷ bs) (eq_true b 61 e))
      | false ↦ λ e. split_later b bs (after_equals bs) e (split_at bs) refl
    ] refl

abbrev pub WordIs : List Setting → List ℕ → Piece → Type 0
WordIs has w Ends = w ≡ codes "--"
WordIs has w (Names s) = Contains has s × (w ≡ setting_bytes s)
WordIs has w (Sets s v) = Contains has s × (w ≡ setting_bytes s ++ codes "=" ++ v)
WordIs has w Plain = is_option w ≡ false
WordIs has w Unknown = Unit {0}

option_is : (has : List Setting) (w : List ℕ) (o : Option Setting) (v : Option (List ℕ)) → Found has (before_equals w) o → Split w v → WordIs has w (option_piece o v)
option_is has w None v f s = tt
option_is has w (Some t) None f s = (f.0, s ∙ f.1)
option_is has w (Some t) (Some v) f s = (f.0, s ∙ ap (λ l. l ++ codes "=" ++ v) f.1)

word_is : (has : List Setting) (w : List ℕ) → WordIs has w (piece_of has w)
word_is has w =
    elim (bytes_eq w (codes "--")) as (λ v. bytes_eq w (codes "--") ≡ v → WordIs has w (cond v Ends (cond (is_option w) (option_piece (setting_among has (before_equals w)) (after_equals w)) Plain))) [
      | true ↦ λ e. (bytes_eq-Decides w (codes "--")).0 e
      | false ↦ λ e. elim (is_option w) as (λ v. is_option w ≡ v → WordIs has w (cond v (option_piece (setting_among has (before_equals w)) (after_equals w)) Plain)) [
        | true ↦ λ f. option_is has w (setting_among has (before_equals w)) (after_equals w) (among_is has (before_equals w)) (split_at w)
        | false ↦ λ f. f
      ] refl
    ] refl

-- Parts are read as what they give

abbrev pub given_by : List Part → Option (List (List ℕ)) → Words
given_by parts end = record { settings = flat_map part_settings parts; positionals = flat_map part_positionals parts ++ unwrap_or end [] }

abbrev pub all_words : List Part → Option (List (List ℕ)) → List (List ℕ)
all_words parts end = flat_map part_words parts ++ end_words end

value_no_flag : (s : Setting) (v : List ℕ) (n : GivenValue) → given_value s v ≡ Some n → is_flag s ≡ false
value_no_flag s v n e =
    elim (is_flag s) as (λ f. is_flag s ≡ f → f ≡ false) [
      | true ↦ λ f. absurd (some_none (sym (flag_has_none s v f) ∙ e))
      | false ↦ λ f. refl
    ] refl

first_part : (has : List Setting) (p : Part) (ps : List Part) (end : Option (List (List ℕ))) → IsPart has p → words_from has None (all_words ps end) ≡ Some (given_by ps end) → words_from has None (all_words (p ∷ ps) end) ≡ Some (given_by (p ∷ ps) end)
first_part has (Apart g v) ps end is rest =
    ap (λ q. words_with q (setting_bytes g.setting) (v ∷ all_words ps end) (λ waiting. words_from has waiting (v ∷ all_words ps end))) (named_piece has g.setting is.0)
    ∙ ap (λ b. cond b (with_setting g.setting (Some (Number 0)) (words_from has None (v ∷ all_words ps end))) (words_from has (Some g.setting) (v ∷ all_words ps end))) (value_no_flag g.setting v g.value is.1)
    ∙ ap (λ n. with_setting g.setting n (words_from has None (all_words ps end))) is.1
    ∙ ap (with_setting g.setting (Some g.value)) rest
first_part has (Joined g v) ps end is rest =
    ap (λ q. words_with q (setting_bytes g.setting ++ codes "=" ++ v) (all_words ps end) (λ waiting. words_from has waiting (all_words ps end))) (joined_piece has g.setting v is.0)
    ∙ ap (λ n. with_setting g.setting n (words_from has None (all_words ps end))) is.1
    ∙ ap (with_setting g.setting (Some g.value)) rest
first_part has (Flag s) ps end is rest =
    ap (λ q. words_with q (setting_bytes s) (all_words ps end) (λ waiting. words_from has waiting (all_words ps end))) (named_piece has s is.0)
    ∙ ap (λ b. cond b (with_setting s (Some (Number 0)) (words_from has None (all_words ps end))) (words_from has (Some s) (all_words ps end))) is.1
    ∙ ap (with_setting s (Some (Number 0))) rest
first_part has (Positional w) ps end is rest =
    ap (λ q. words_with q w (all_words ps end) (λ waiting. words_from has waiting (all_words ps end))) (plain_piece has w is)
    ∙ ap (with_positional w) rest

pub parts_read : (has : List Setting) (parts : List Part) (end : Option (List (List ℕ))) → All (IsPart has) parts → words_from has None (all_words parts end) ≡ Some (given_by parts end)
parts_read has [] None each = refl
parts_read has [] (Some ps) each = refl
parts_read has (p ∷ ps) end each = first_part has p ps end (each 0 p (omega arith)) (parts_read has ps end (All-tail (IsPart has) p ps each))

given_is : (a b : Words) → a.settings ≡ b.settings → a.positionals ≡ b.positionals → a ≡ b
given_is a b e f = ap (λ l. let w : Words = record { settings = l; positionals = a.positionals } in w) e ∙ ap (λ l. let w : Words = record { settings = b.settings; positionals = l } in w) f

pub divided_is_read : (has : List Setting) (words : List (List ℕ)) (w : Words) → Divides has words w → words_from has None words ≡ Some w
divided_is_read has words w d =
    ap (words_from has None) d.spelt ∙ parts_read has d.parts d.end d.each ∙ ap (λ x. Some x) (sym (given_is w (given_by d.parts d.end) d.settings d.positionals))

-- What is read are parts

one_part : (has : List Setting) (p : Part) (words : List (List ℕ)) (w : Words) → IsPart has p → Divides has words w → Divides has (part_words p ++ words) (record { settings = part_settings p ++ w.settings; positionals = part_positionals p ++ w.positionals })
one_part has p words w is d = record {
  parts = p ∷ d.parts;
  end = d.end;
  each = All-cons (IsPart has) p d.parts is d.each;
  spelt = ap (λ l. part_words p ++ l) d.spelt ∙ sym (append_assoc (part_words p) (flat_map part_words d.parts) (end_words d.end));
  settings = ap (λ l. part_settings p ++ l) d.settings;
  positionals = ap (λ l. part_positionals p ++ l) d.positionals ∙ sym (append_assoc (part_positionals p) (flat_map part_positionals d.parts) (unwrap_or d.end []));
}

record HadSetting (s : Setting) (n : Option GivenValue) (more : Option Words) (w : Words) : Type 0 where
  value : GivenValue
  rest : Words
  number : n ≡ Some value
  others : more ≡ Some rest
  whole : w ≡ record { settings = record { setting = s; value = value } ∷ rest.settings; positionals = rest.positionals }

had_setting : (s : Setting) (n : Option GivenValue) (more : Option Words) (w : Words) → with_setting s n more ≡ Some w → HadSetting s n more w
had_setting s None more w e = absurd (some_none e)
had_setting s (Some n) None w e = absurd (some_none e)
had_setting s (Some n) (Some rest) w e = record { value = n; rest = rest; number = refl; others = refl; whole = sym (some_same e) }

record HadPositional (word : List ℕ) (more : Option Words) (w : Words) : Type 0 where
  rest : Words
  others : more ≡ Some rest
  whole : w ≡ record { settings = rest.settings; positionals = word ∷ rest.positionals }

had_positional : (word : List ℕ) (more : Option Words) (w : Words) → with_positional word more ≡ Some w → HadPositional word more w
had_positional word None w e = absurd (some_none e)
had_positional word (Some rest) w e = record { rest = rest; others = refl; whole = sym (some_same e) }

-- the name that waits for its value
abbrev pub waiting_words : Option Setting → List (List ℕ)
waiting_words None = []
waiting_words (Some s) = setting_bytes s ∷ []

abbrev pub MayWait : List Setting → Option Setting → Type 0
MayWait has None = Unit {0}
MayWait has (Some s) = Contains has s

abbrev pub IsRead : List Setting → List (List ℕ) → Type 0
IsRead has ws = (waiting : Option Setting) → MayWait has waiting → (w : Words) → words_from has waiting ws ≡ Some w → Divides has (waiting_words waiting ++ ws) w

by_piece : (has : List Setting) (word : List ℕ) (ws : List (List ℕ)) → IsRead has ws → (p : Piece) → WordIs has word p → (w : Words) → words_with p word ws (λ waiting. words_from has waiting ws) ≡ Some w → Divides has (word ∷ ws) w
by_piece has word ws read Ends is w e =
    let whole : record { settings = []; positionals = ws } ≡ w = some_same e in
    subst (Divides has (word ∷ ws)) whole (record { parts = []; end = Some ws; each = All-nil (IsPart has); spelt = ap (λ x. x ∷ ws) is; settings = refl; positionals = refl })
by_piece has word ws read (Names s) is w e =
    elim (is_flag s) as (λ v. is_flag s ≡ v → cond v (with_setting s (Some (Number 0)) (words_from has None ws)) (words_from has (Some s) ws) ≡ Some w → Divides has (word ∷ ws) w) [
      | true ↦ λ flag f. (
          let had = had_setting s (Some (Number 0)) (words_from has None ws) w f in
          let zero_is : Number 0 ≡ had.value = some_same had.number in
          let d = one_part has (Flag s) ws had.rest (is.0, flag) (read None tt had.rest had.others) in
          subst (λ x. Divides has (x ∷ ws) w) (sym is.1) (subst (Divides has (setting_bytes s ∷ ws)) (sym (had.whole ∙ ap (λ n. let x : Words = record { settings = record { setting = s; value = n } ∷ had.rest.settings; positionals = had.rest.positionals } in x) (sym zero_is))) d)
          )
      | false ↦ λ flag f. subst (λ x. Divides has (x ∷ ws) w) (sym is.1) (read (Some s) is.0 w f)
    ] refl e
by_piece has word ws read (Sets s v) is w e =
    let had = had_setting s (given_value s v) (words_from has None ws) w e in
    let d = one_part has (Joined (record { setting = s; value = had.value }) v) ws had.rest (is.0, had.number) (read None tt had.rest had.others) in
    subst (λ x. Divides has (x ∷ ws) w) (sym is.1) (subst (Divides has ((setting_bytes s ++ codes "=" ++ v) ∷ ws)) (sym had.whole) d)
by_piece has word ws read Plain is w e =
    let had = had_positional word (words_from has None ws) w e in
    subst (Divides has (word ∷ ws)) (sym had.whole) (one_part has (Positional word) ws had.rest is (read None tt had.rest had.others))
by_piece has word ws read Unknown is w e = absurd (some_none e)

pub read_is_divided : (has : List Setting) (ws : List (List ℕ)) → IsRead has ws
read_is_divided has [] None may w e =
    let whole : record { settings = []; positionals = [] } ≡ w = some_same e in
    subst (Divides has []) whole (record { parts = []; end = None; each = All-nil (IsPart has); spelt = refl; settings = refl; positionals = refl })
read_is_divided has [] (Some s) may w e = absurd (some_none e)
read_is_divided has (word ∷ ws) None may w e = by_piece has word ws (read_is_divided has ws) (piece_of has word) (word_is has word) w e
read_is_divided has (word ∷ ws) (Some s) may w e =
    let had = had_setting s (given_value s word) (words_from has None ws) w e in
    subst (Divides has (setting_bytes s ∷ word ∷ ws)) (sym had.whole)
    (one_part has (Apart (record { setting = s; value = had.value }) word) ws had.rest (may, had.number) (read_is_divided has ws None tt had.rest had.others))

-- Lines

record IsWhole (has : List Setting) (ws : List (List ℕ)) (w : Words) : Type 0 where
  divided : Divides has ws w
  once : IsTrue (all_once w.settings)

once_is : (o : Option Words) (w : Words) → if_once o ≡ Some w → (o ≡ Some w) × IsTrue (all_once w.settings)
once_is None w e = absurd (some_none e)
once_is (Some x) w e =
    elim (all_once x.settings) as (λ v. all_once x.settings ≡ v → cond v (Some x) None ≡ Some w → (Some x ≡ Some w) × IsTrue (all_once w.settings)) [
      | true ↦ λ once f. (f, subst (λ y. IsTrue (all_once y.settings)) (some_same f) once)
      | false ↦ λ once f. absurd (some_none f)
    ] refl e

whole_words : (has : List Setting) (ws : List (List ℕ)) (w : Words) → words_of has ws ≡ Some w → IsWhole has ws w
whole_words has ws w e = let o = once_is (words_from has None ws) w e in record { divided = read_is_divided has ws None tt w o.0; once = o.1 }

once_some : (w : Words) → IsTrue (all_once w.settings) → if_once (Some w) ≡ Some w
once_some w once = rw once refl

words_whole : (command : List ℕ) (has : List Setting) (words : List (List ℕ)) (w : Words) → (h : HasWords command has words w) → words_of has h.behind ≡ Some w
words_whole command has words w h = ap if_once (divided_is_read has h.behind w h.divided) ∙ once_some w h.once

-- the line that is found is one that the words spell
abbrev pub MaySpell : List (List ℕ) → Option Line → Type 0
MaySpell words None = Unit {0}
MaySpell words (Some l) = IsLine words l

has_words : (command : List ℕ) (has : List Setting) (ws : List (List ℕ)) (w : Words) → words_of has ws ≡ Some w → HasWords command has (command ∷ ws) w
has_words command has ws w e = let whole = whole_words has ws w e in record { behind = ws; first = refl; divided = whole.divided; once = whole.once }

synth_spelt : (ws : List (List ℕ)) (o : Option Words) → words_of of_synth ws ≡ o → MaySpell (codes "synth" ∷ ws) (synth_line o)
synth_spelt ws None e = tt
synth_spelt ws (Some w) e =
    elim w.positionals as (λ ps. w.positionals ≡ ps → MaySpell (codes "synth" ∷ ws) (if_none ps (line.Synth (set_of w.settings) (budget_of w.settings) (is_some (last_of Certificate w.settings))))) [
      | [] ↦ λ f. (w, has_words (codes "synth") of_synth ws w e, f, refl, refl, refl)
      | p ∷ ps ↦ λ f. tt
    ] refl

exec_spelt : (ws : List (List ℕ)) (o : Option Words) → words_of of_bounds ws ≡ o → MaySpell (codes "exec" ∷ ws) (exec_line o)
exec_spelt ws None e = tt
exec_spelt ws (Some w) e =
    elim w.positionals as (λ ps. w.positionals ≡ ps → MaySpell (codes "exec" ∷ ws) (exec_with (set_of w.settings) ps)) [
      | [] ↦ λ f. tt
      | p ∷ ps ↦ λ f. (w, has_words (codes "exec") of_bounds ws w e, f, refl)
    ] refl

trace_spelt : (ws : List (List ℕ)) (o : Option Words) → words_of of_trace ws ≡ o → MaySpell (codes "trace" ∷ ws) (trace_line o)
trace_spelt ws None e = tt
trace_spelt ws (Some w) e =
    elim w.positionals as (λ ps. w.positionals ≡ ps → MaySpell (codes "trace" ∷ ws) (trace_with (set_of w.settings) (last_list Holes w.settings) ps)) [
      | [] ↦ λ f. tt
      | p ∷ ps ↦ λ f. (w, has_words (codes "trace") of_trace ws w e, f, refl, refl)
    ] refl

lower_spelt : (ws : List (List ℕ)) (o : Option Words) → words_of of_bounds ws ≡ o → MaySpell (codes "lower" ∷ ws) (lower_line o)
lower_spelt ws None e = tt
lower_spelt ws (Some w) e =
    elim w.positionals as (λ ps. w.positionals ≡ ps → MaySpell (codes "lower" ∷ ws) (if_none ps (line.Lower (set_of w.settings)))) [
      | [] ↦ λ f. (w, has_words (codes "lower") of_bounds ws w e, f, refl)
      | p ∷ ps ↦ λ f. tt
    ] refl

prune_spelt : (ws : List (List ℕ)) (o : Option Words) → words_of of_bounds ws ≡ o → MaySpell (codes "prune" ∷ ws) (prune_line o)
prune_spelt ws None e = tt
prune_spelt ws (Some w) e =
    elim w.positionals as (λ ps. w.positionals ≡ ps → MaySpell (codes "prune" ∷ ws) (if_none ps (line.Prune (set_of w.settings)))) [
      | [] ↦ λ f. (w, has_words (codes "prune") of_bounds ws w e, f, refl)
      | p ∷ ps ↦ λ f. tt
    ] refl

check_spelt : (ws : List (List ℕ)) (o : Option Words) → words_of of_bounds ws ≡ o → MaySpell (codes "check" ∷ ws) (check_line o)
check_spelt ws None e = tt
check_spelt ws (Some w) e =
    elim w.positionals as (λ ps. w.positionals ≡ ps → MaySpell (codes "check" ∷ ws) (if_none ps (line.Check (set_of w.settings)))) [
      | [] ↦ λ f. (w, has_words (codes "check") of_bounds ws w e, f, refl)
      | p ∷ ps ↦ λ f. tt
    ] refl

all_number : (ws : List (List ℕ)) (w : Words) → words_of of_bounds ws ≡ Some w → (ps : List (List ℕ)) → w.positionals ≡ ps → MaySpell (codes "all" ∷ ws) (all_with (set_of w.settings) ps)
all_number ws w e [] f = tt
all_number ws w e (d ∷ []) f =
    elim (number_in 1 100 d) as (λ n. number_in 1 100 d ≡ n → MaySpell (codes "all" ∷ ws) (option_map (line.All (set_of w.settings)) n)) [
      | None ↦ λ g. tt
      | Some n ↦ λ g. (w, has_words (codes "all") of_bounds ws w e, (d, f, g), refl)
    ] refl
all_number ws w e (d ∷ c ∷ ps) f = tt

all_spelt : (ws : List (List ℕ)) (o : Option Words) → words_of of_bounds ws ≡ o → MaySpell (codes "all" ∷ ws) (all_line o)
all_spelt ws None e = tt
all_spelt ws (Some w) e = all_number ws w e w.positionals refl

why_spelt : (ws : List (List ℕ)) (o : Option Words) → words_of of_bounds ws ≡ o → MaySpell (codes "why" ∷ ws) (why_line o)
why_spelt ws None e = tt
why_spelt ws (Some w) e =
    elim w.positionals as (λ ps. w.positionals ≡ ps → MaySpell (codes "why" ∷ ws) (if_none ps (line.Why (set_of w.settings)))) [
      | [] ↦ λ f. (w, has_words (codes "why") of_bounds ws w e, f, refl)
      | p ∷ ps ↦ λ f. tt
    ] refl

self_number : (ws : List (List ℕ)) (w : Words) → words_of [] ws ≡ Some w → (ps : List (List ℕ)) → w.positionals ≡ ps → MaySpell (codes "self" ∷ ws) (self_with ps)
self_number ws w e [] f = tt
self_number ws w e (d ∷ []) f =
    elim (number_in 0 60 d) as (λ n. number_in 0 60 d ≡ n → MaySpell (codes "self" ∷ ws) (option_map line.Itself n)) [
      | None ↦ λ g. tt
      | Some n ↦ λ g. (w, has_words (codes "self") [] ws w e, (d, f, g))
    ] refl
self_number ws w e (d ∷ c ∷ ps) f = tt

self_spelt : (ws : List (List ℕ)) (o : Option Words) → words_of [] ws ≡ o → MaySpell (codes "self" ∷ ws) (self_line o)
self_spelt ws None e = tt
self_spelt ws (Some w) e = self_number ws w e w.positionals refl

alone_spelt : (command : List ℕ) (ws : List (List ℕ)) (l : Line) → (command ∷ [] ≡ command ∷ [] → IsLine (command ∷ []) l) → MaySpell (command ∷ ws) (if_none ws l)
alone_spelt command [] l h = h refl
alone_spelt command (w ∷ ws) l h = tt

choice_spelt : (w name : List ℕ) (ws : List (List ℕ)) (x y : Option Line) → MaySpell (name ∷ ws) x → MaySpell (w ∷ ws) y → MaySpell (w ∷ ws) (cond (bytes_eq w name) x y)
choice_spelt w name ws x y h k =
    elim (bytes_eq w name) as (λ v. bytes_eq w name ≡ v → MaySpell (w ∷ ws) (cond v x y)) [
      | true ↦ λ e. subst (λ n. MaySpell (n ∷ ws) x) (sym ((bytes_eq-Decides w name).0 e)) h
      | false ↦ λ e. k
    ] refl

words_spell : (words : List (List ℕ)) → MaySpell words (line_of words)
unfolding line_of
words_spell [] = tt
words_spell (w ∷ ws) =
    let is : List ℕ → Bool = λ name. bytes_eq w name in
    let version : Option Line = cond (is (codes "--version")) (if_none ws line.Version) None in
    let help : Option Line = cond (is (codes "--help")) (if_none ws line.Help) version in
    let itself : Option Line = cond (is (codes "self")) (self_line (words_of [] ws)) help in
    let why : Option Line = cond (is (codes "why")) (why_line (words_of of_bounds ws)) itself in
    let every : Option Line = cond (is (codes "all")) (all_line (words_of of_bounds ws)) why in
    let check : Option Line = cond (is (codes "check")) (check_line (words_of of_bounds ws)) every in
    let prune : Option Line = cond (is (codes "prune")) (prune_line (words_of of_bounds ws)) check in
    let lower : Option Line = cond (is (codes "lower")) (lower_line (words_of of_bounds ws)) prune in
    let trace : Option Line = cond (is (codes "trace")) (trace_line (words_of of_trace ws)) lower in
    let exec : Option Line = cond (is (codes "exec")) (exec_line (words_of of_bounds ws)) trace in
    choice_spelt w (codes "synth") ws (synth_line (words_of of_synth ws)) exec (synth_spelt ws (words_of of_synth ws) refl)
    (choice_spelt w (codes "exec") ws (exec_line (words_of of_bounds ws)) trace (exec_spelt ws (words_of of_bounds ws) refl)
    (choice_spelt w (codes "trace") ws (trace_line (words_of of_trace ws)) lower (trace_spelt ws (words_of of_trace ws) refl)
    (choice_spelt w (codes "lower") ws (lower_line (words_of of_bounds ws)) prune (lower_spelt ws (words_of of_bounds ws) refl)
    (choice_spelt w (codes "prune") ws (prune_line (words_of of_bounds ws)) check (prune_spelt ws (words_of of_bounds ws) refl)
    (choice_spelt w (codes "check") ws (check_line (words_of of_bounds ws)) every (check_spelt ws (words_of of_bounds ws) refl)
    (choice_spelt w (codes "all") ws (all_line (words_of of_bounds ws)) why (all_spelt ws (words_of of_bounds ws) refl)
    (choice_spelt w (codes "why") ws (why_line (words_of of_bounds ws)) itself (why_spelt ws (words_of of_bounds ws) refl)
    (choice_spelt w (codes "self") ws (self_line (words_of [] ws)) help (self_spelt ws (words_of [] ws) refl)
    (choice_spelt w (codes "--help") ws (if_none ws line.Help) version (alone_spelt (codes "--help") ws line.Help (λ e. e))
    (choice_spelt w (codes "--version") ws (if_none ws line.Version) None (alone_spelt (codes "--version") ws line.Version (λ e. e)) tt))))))))))

pub found_is_line : (words : List (List ℕ)) (l : Line) → line_of words ≡ Some l → IsLine words l
found_is_line words l e = subst (MaySpell words) e (words_spell words)

-- a line that words spell is found
pub line_is_found : (words : List (List ℕ)) (l : Line) → IsLine words l → line_of words ≡ Some l
unfolding line_of
line_is_found words (line.Synth set budget cert) (w, has, none, sets, budgets, certs) =
    ap line_of has.first
    ∙ ap synth_line (words_whole (codes "synth") of_synth words w has)
    ∙ ap (λ ps. if_none ps (line.Synth (set_of w.settings) (budget_of w.settings) (is_some (last_of Certificate w.settings)))) none
    ∙ rw (sets, budgets, certs) refl
line_is_found words (line.Exec set name values) (w, has, some, sets) =
    ap line_of has.first ∙ ap exec_line (words_whole (codes "exec") of_bounds words w has) ∙ ap (exec_with (set_of w.settings)) some ∙ rw sets refl
line_is_found words (line.Trace set name values holes) (w, has, some, sets, lists) =
    ap line_of has.first ∙ ap trace_line (words_whole (codes "trace") of_trace words w has) ∙ ap (trace_with (set_of w.settings) (last_list Holes w.settings)) some ∙ rw (sets, lists) refl
line_is_found words (line.Lower set) (w, has, none, sets) =
    ap line_of has.first ∙ ap lower_line (words_whole (codes "lower") of_bounds words w has) ∙ ap (λ ps. if_none ps (line.Lower (set_of w.settings))) none ∙ rw sets refl
line_is_found words (line.Prune set) (w, has, none, sets) =
    ap line_of has.first ∙ ap prune_line (words_whole (codes "prune") of_bounds words w has) ∙ ap (λ ps. if_none ps (line.Prune (set_of w.settings))) none ∙ rw sets refl
line_is_found words (line.Check set) (w, has, none, sets) =
    ap line_of has.first ∙ ap check_line (words_whole (codes "check") of_bounds words w has) ∙ ap (λ ps. if_none ps (line.Check (set_of w.settings))) none ∙ rw sets refl
line_is_found words (line.All set most) (w, has, (digits, one, number), sets) =
    ap line_of has.first
    ∙ ap all_line (words_whole (codes "all") of_bounds words w has)
    ∙ ap (all_with (set_of w.settings)) one
    ∙ ap (option_map (line.All (set_of w.settings))) number
    ∙ rw sets refl
line_is_found words (line.Why set) (w, has, none, sets) =
    ap line_of has.first ∙ ap why_line (words_whole (codes "why") of_bounds words w has) ∙ ap (λ ps. if_none ps (line.Why (set_of w.settings))) none ∙ rw sets refl
line_is_found words (line.Itself n) (w, has, (digits, one, number)) =
    ap line_of has.first ∙ ap self_line (words_whole (codes "self") [] words w has) ∙ ap self_with one ∙ ap (option_map line.Itself) number
line_is_found words line.Help is = ap line_of is
line_is_found words line.Version is = ap line_of is

pub none_is_line : (words : List (List ℕ)) → line_of words ≡ None → (l : Line) → IsLine words l → ⊥
none_is_line words e l is = some_none (sym e ∙ line_is_found words l is)

pub only_line : (words : List (List ℕ)) (l : Line) → line_of words ≡ Some l → (other : Line) → IsLine words other → other ≡ l
only_line words l e other is = some_same (sym (line_is_found words other is) ∙ e)

pub lines_are_one : (words : List (List ℕ)) (l m : Line) → IsLine words l → IsLine words m → l ≡ m
lines_are_one words l m a b = some_same (sym (line_is_found words l a) ∙ line_is_found words m b)
