-- The values of options that were read as texts, and what the matches give of them.
use Rattle.std.proofs.Common.{◌≡◌, ℕ, Bool, true, false, ◌||◌, cond, List, [], ◌∷◌, ◌++◌, Option, Some, None, is_some, refl, sym, ap, ap₂, ◌∙◌, subst, codes}
use Rattle.std.specs.List.{fold, list_any}
use Rattle.std.specs.Option.{option_and_then, unwrap_or}
use Rattle.std.specs.Str.{bytes_eq}
use Rattle.std.proofs.lemmas.Slice.Eq.{bytes_eq-Decides}
use Rattle.clap.specs.Walk.{Row, Text, first_of, has_row, more_values, reading_by, with_default, with_values}
use Rattle.clap.specs.declared.parser.matches.ValueSource.TheVariants.{DefaultValue}
use Rattle.sk_opts.specs.declared.setting.Setting.{Setting}
use Rattle.sk_opts.specs.declared.setting.Given.{Given}
use Rattle.sk_opts.specs.declared.setting.GivenValue.{GivenValue}
use Rattle.sk_opts.specs.declared.setting.GivenValue.TheVariants.{Number}
use Rattle.sk_opts.specs.Settings.{setting_bytes, is_flag, setting_among, all_once, is_of, last_from, last_value}
use Rattle.sk_opts.specs.GivenValues.{given_value}
use Rattle.sk_opts.specs.Matching.{setting_name, flag_match, value_match, match_of, more_by, matched_settings, matched_positionals, SameReading, words_with_settings}
use Rattle.sk_opts.proofs.InRange.{same_setting}
use Rattle.sk_opts.proofs.ClapRules.{built_as, built_option, built_rules, eq_turned, no_words, names_as, names_differ, same_name}
use Rattle.sk_opts.proofs.ClapRows.{row_at, or_row, or_none, values_of, values_or, has_is, row_more, at_none, Seen, text_of, one_text, texts_or, if_any, Holds, first_is}

some_none : {X : Type 0} {x : X} → None ≡ Some x → ⊥
some_none e = cc

some_same : {X : Type 0} {x y : X} → Some x ≡ Some y → x ≡ y
some_same e = cc

true_false : true ≡ false → ⊥
true_false e = cc

-- Flags that were not given

or_row_assoc : {X : Type 0} (a b c : Option X) → or_row (or_row a b) c ≡ or_row a (or_row b c)
or_row_assoc None b c = refl
or_row_assoc (Some x) b c = refl

some_first : {X : Type 0} (a b : Option X) → is_some a ≡ true → a ≡ or_row a b
some_first None b e = absurd (true_false (sym e))
some_first (Some x) b e = refl

is_some_values : (o : Option Row) → is_some (values_of o) ≡ is_some o
is_some_values None = refl
is_some_values (Some r) = refl

values_if : (v : Bool) (r : Row) → values_of (cond v (Some r) None) ≡ cond v (Some r.values) None
values_if true r = refl
values_if false r = refl

texts_if : (v : Bool) (x : Text) → cond v (Some (x ∷ [])) None ≡ one_text (cond v (Some x) None)
texts_if true x = refl
texts_if false x = refl

same_rows : (b : Bool) (rows : List Row) → cond b rows rows ≡ rows
same_rows true rows = refl
same_rows false rows = refl

-- the text of a flag that was not given
abbrev pub if_flag : Text → Text → Bool → Option Text
if_flag name id flag = cond flag (cond (bytes_eq name id) (Some (codes "false")) None) None

abbrev pub missing_of : List Setting → Text → Option Text
missing_of [] id = None
missing_of (s ∷ ss) id = or_row (if_flag (setting_name s) id (is_flag s)) (missing_of ss id)

-- one argument's default
default_row : (rows : List Row) (name id : Text) (flag : Bool)
    → values_of (row_at id (with_default rows (built_as name flag))) ≡ or_row (values_of (row_at id rows)) (one_text (if_flag name id flag))
default_row rows name id false = ap (λ rs. values_of (row_at id rs)) (same_rows (has_row name rows) rows) ∙ sym (or_none (values_of (row_at id rows)))
default_row rows name id true =
    elim (has_row name rows) as (λ v. has_row name rows ≡ v
    → values_of (row_at id (cond v rows (with_values name (reading_by (built_as name true)) DefaultValue (codes "false" ∷ []) rows))) ≡ or_row (values_of (row_at id rows)) (one_text (if_flag name id true))) [
      | true ↦ λ e. elim (bytes_eq name id) as (λ v. bytes_eq name id ≡ v → values_of (row_at id rows) ≡ or_row (values_of (row_at id rows)) (one_text (cond v (Some (codes "false")) None))) [
        | true ↦ λ f. some_first (values_of (row_at id rows)) (Some (codes "false" ∷ []))
            (is_some_values (row_at id rows) ∙ ap (λ n. is_some (row_at n rows)) (sym ((bytes_eq-Decides name id).0 f)) ∙ sym (has_is name rows) ∙ e)
        | false ↦ λ f. sym (or_none (values_of (row_at id rows)))
      ] refl
      | false ↦ λ e.
          let row : Row = record { id = name; values = codes "false" ∷ []; count = None; source = Some DefaultValue; reading = reading_by (built_as name true) } in
          ap (λ rs. values_of (row_at id rs)) (at_none name (more_values DefaultValue (codes "false" ∷ [])) (row ∷ []) rows e)
          ∙ ap values_of (row_more id rows row)
          ∙ values_or (row_at id rows) (cond (bytes_eq name id) (Some row) None)
          ∙ ap (or_row (values_of (row_at id rows))) (values_if (bytes_eq name id) row ∙ texts_if (bytes_eq name id) (codes "false"))
    ] refl

pub defaults_row : (has : List Setting) (rows : List Row) (id : Text)
    → values_of (row_at id (fold with_default rows (built_rules has))) ≡ or_row (values_of (row_at id rows)) (one_text (missing_of has id))
defaults_row [] rows id = ap (λ rs. values_of (row_at id rs)) (same_rows (has_row (codes "words") rows) rows) ∙ sym (or_none (values_of (row_at id rows)))
defaults_row (s ∷ ss) rows id =
    defaults_row ss (with_default rows (built_option s)) id
    ∙ ap (λ o. or_row o (one_text (missing_of ss id))) (default_row rows (setting_name s) id (is_flag s))
    ∙ or_row_assoc (values_of (row_at id rows)) (one_text (if_flag (setting_name s) id (is_flag s))) (one_text (missing_of ss id))
    ∙ ap (or_row (values_of (row_at id rows))) (sym (texts_or (if_flag (setting_name s) id (is_flag s)) (missing_of ss id)))

none_if : (flag : Bool) → cond {A = Option Text} flag None None ≡ None
none_if true = refl
none_if false = refl

missing_words : (has : List Setting) → missing_of has (codes "words") ≡ None
missing_words [] = refl
missing_words (s ∷ ss) =
    ap (λ v. or_row (cond (is_flag s) (cond v (Some (codes "false")) None) None) (missing_of ss (codes "words"))) (no_words s)
    ∙ ap (λ o. or_row o (missing_of ss (codes "words"))) (none_if (is_flag s)) ∙ missing_words ss

missing_valued : (has : List Setting) (s : Setting) → is_flag s ≡ false → missing_of has (setting_name s) ≡ None
missing_valued [] s e = refl
missing_valued (t ∷ ss) s e =
    elim (is_flag t) as (λ v. is_flag t ≡ v → or_row (if_flag (setting_name t) (setting_name s) v) (missing_of ss (setting_name s)) ≡ None) [
      | true ↦ λ f.
          ap (λ v. or_row (cond v (Some (codes "false")) None) (missing_of ss (setting_name s))) (names_differ t s (λ same. true_false (sym f ∙ ap is_flag same ∙ e)))
          ∙ missing_valued ss s e
      | false ↦ λ f. missing_valued ss s e
    ] refl

-- it is `false`, where there is one
abbrev IsFalse : Option Text → Type 0
IsFalse None = Unit {0}
IsFalse (Some v) = v ≡ codes "false"

or_is_false : (a b : Option Text) → IsFalse a → IsFalse b → IsFalse (or_row a b)
or_is_false None b h k = k
or_is_false (Some v) b h k = h

if_is_false : (flag same : Bool) → IsFalse (cond flag (cond same (Some (codes "false")) None) None)
if_is_false true true = refl
if_is_false true false = tt
if_is_false false same = tt

missing_false : (has : List Setting) (id : Text) → IsFalse (missing_of has id)
missing_false [] id = tt
missing_false (s ∷ ss) id = or_is_false (if_flag (setting_name s) id (is_flag s)) (missing_of ss id) (if_is_false (is_flag s) (bytes_eq (setting_name s) id)) (missing_false ss id)

pub first_read : (has : List Setting) (seen : Seen) (rows : List Row) (s : Setting) → Holds seen rows
    → first_of (setting_name s) (fold with_default rows (built_rules has)) ≡ or_row (text_of s seen.texts) (missing_of has (setting_name s))
first_read has seen rows s h =
    first_is (fold with_default rows (built_rules has)) (setting_name s) (or_row (text_of s seen.texts) (missing_of has (setting_name s)))
    (defaults_row has rows (setting_name s) ∙ ap (λ o. or_row o (one_text (missing_of has (setting_name s)))) (h.options s) ∙ sym (texts_or (text_of s seen.texts) (missing_of has (setting_name s))))

pub words_read : (has : List Setting) (seen : Seen) (rows : List Row) → Holds seen rows → matched_positionals (fold with_default rows (built_rules has)) ≡ seen.positionals
words_read has seen rows h =
    ap (λ o. unwrap_or o [])
    (defaults_row has rows (codes "words") ∙ ap (λ o. or_row (values_of (row_at (codes "words") rows)) (one_text o)) (missing_words has)
    ∙ or_none (values_of (row_at (codes "words") rows)) ∙ h.words)
    ∙ back seen.positionals
  where
    back : (ps : List Text) → unwrap_or (if_any ps) [] ≡ ps
    back [] = refl
    back (p ∷ ps) = refl

-- Values of texts

abbrev pub Texts : Type 0
Texts = List (Setting × List ℕ)

-- the value that an option has by its text
abbrev pub value_by : Setting → List ℕ → Option GivenValue
value_by s v = cond (is_flag s) (Some (Number 0)) (given_value s v)

abbrev pub value_more : Setting → Option GivenValue → Option (List Given) → Option (List Given)
value_more s n more = more_by s (value_match n) more

abbrev pub valued : Texts → Option (List Given)
valued [] = Some []
valued (g ∷ gs) = value_more g.0 (value_by g.0 g.1) (valued gs)

-- each is of an option of the command, a flag has the text `true`, and no option stands twice
abbrev pub AllRead : List Setting → Texts → Type 0
AllRead has [] = Unit {0}
AllRead has (g ∷ gs) = (setting_among has (setting_bytes g.0) ≡ Some g.0) × (is_flag g.0 ≡ true → g.1 ≡ codes "true") × (text_of g.0 gs ≡ None) × AllRead has gs

text_when : (b : Bool) (x : Text) (o : Option Text) → cond b (Some x) o ≡ None → (b ≡ false) × (o ≡ None)
text_when true x o e = absurd (some_none (sym e))
text_when false x o e = (refl, e)

pub read_more : (has : List Setting) (texts : Texts) (s : Setting) (v : List ℕ) → AllRead has texts → setting_among has (setting_bytes s) ≡ Some s → (is_flag s ≡ true → v ≡ codes "true") → text_of s texts ≡ None
    → AllRead has (texts ++ (s, v) ∷ [])
read_more has [] s v k among flag none = (among, flag, refl, tt)
read_more has (g ∷ gs) s v k among flag none =
    let other = text_when (bytes_eq (setting_name g.0) (setting_name s)) g.1 (text_of s gs) none in (
      k.0,
      k.1,
      once (text_of g.0 (gs ++ (s, v) ∷ [])) (text_of g.0 gs) (bytes_eq (setting_name s) (setting_name g.0)) (more gs g.0) k.2 (eq_turned (setting_name s) (setting_name g.0) ∙ other.0),
      read_more has gs s v k.3 among flag other.1,
    )
  where
    more : (gs : Texts) (t : Setting) → text_of t (gs ++ (s, v) ∷ []) ≡ or_row (text_of t gs) (cond (bytes_eq (setting_name s) (setting_name t)) (Some v) None)
    more [] t = refl
    more (x ∷ xs) t =
        elim (bytes_eq (setting_name x.0) (setting_name t)) as (λ b. cond b (Some x.1) (text_of t (xs ++ (s, v) ∷ [])) ≡ or_row (cond b (Some x.1) (text_of t xs)) (cond (bytes_eq (setting_name s) (setting_name t)) (Some v) None)) [
          | true ↦ refl
          | false ↦ more xs t
        ]

    once : (o before : Option Text) (b : Bool) → o ≡ or_row before (cond b (Some v) None) → before ≡ None → b ≡ false → o ≡ None
    once o before b e f h = e ∙ ap₂ (λ x y. or_row x (cond y (Some v) None)) f h

pub flag_true : (has : List Setting) (texts : Texts) (s : Setting) (v : List ℕ) → AllRead has texts → text_of s texts ≡ Some v → is_flag s ≡ true → v ≡ codes "true"
flag_true has [] s v k e flag = absurd (some_none e)
flag_true has (g ∷ gs) s v k e flag =
    elim (bytes_eq (setting_name g.0) (setting_name s)) as (λ b. bytes_eq (setting_name g.0) (setting_name s) ≡ b → cond b (Some g.1) (text_of s gs) ≡ Some v → v ≡ codes "true") [
      | true ↦ λ b f. sym (some_same f) ∙ k.1 (ap is_flag (named g.0 s b) ∙ flag)
      | false ↦ λ b f. flag_true has gs s v k.3 f flag
    ] refl e
  where
    named : (t s : Setting) → bytes_eq (setting_name t) (setting_name s) ≡ true → t ≡ s
    named t s b = sym (same_setting s t (sym (names_as t s) ∙ b))

pub read_among : (has : List Setting) (texts : Texts) (s : Setting) (v : List ℕ) → AllRead has texts → text_of s texts ≡ Some v → setting_among has (setting_bytes s) ≡ Some s
read_among has [] s v k e = absurd (some_none e)
read_among has (g ∷ gs) s v k e =
    elim (bytes_eq (setting_name g.0) (setting_name s)) as (λ b. bytes_eq (setting_name g.0) (setting_name s) ≡ b → cond b (Some g.1) (text_of s gs) ≡ Some v → setting_among has (setting_bytes s) ≡ Some s) [
      | true ↦ λ b f. subst (λ t. setting_among has (setting_bytes t) ≡ Some t) (named g.0 s b) k.0
      | false ↦ λ b f. read_among has gs s v k.3 f
    ] refl e
  where
    named : (t s : Setting) → bytes_eq (setting_name t) (setting_name s) ≡ true → t ≡ s
    named t s b = sym (same_setting s t (sym (names_as t s) ∙ b))

-- Values by the matches

-- the value of an option that has a text
abbrev pub taken_more : Setting → Option Text → Option (List Given) → Option (List Given)
taken_more s None more = more
taken_more s (Some v) more = value_more s (value_by s v) more

abbrev pub taken : List Setting → Texts → Option (List Given)
taken [] texts = Some []
taken (s ∷ ss) texts = taken_more s (text_of s texts) (taken ss texts)

more_as : (s : Setting) (o m : Option Text) (more : Option (List Given)) → ((v : Text) → o ≡ Some v → is_flag s ≡ true → v ≡ codes "true") → (is_flag s ≡ false → m ≡ None) → IsFalse m
    → more_by s (match_of s (or_row o m)) more ≡ taken_more s o more
more_as s None None more flag none is = refl
more_as s None (Some w) more flag none is =
    elim (is_flag s) as (λ b. is_flag s ≡ b → more_by s (cond b (flag_match (bytes_eq w (codes "true"))) (value_match (given_value s w))) more ≡ more) [
      | true ↦ λ e. ap (λ x. more_by s (flag_match (bytes_eq x (codes "true"))) more) is
      | false ↦ λ e. absurd (some_none (sym (none e)))
    ] refl
more_as s (Some v) m more flag none is =
    elim (is_flag s) as (λ b. is_flag s ≡ b → more_by s (cond b (flag_match (bytes_eq v (codes "true"))) (value_match (given_value s v))) more ≡ value_more s (cond b (Some (Number 0)) (given_value s v)) more) [
      | true ↦ λ e. ap (λ x. more_by s (flag_match (bytes_eq x (codes "true"))) more) (flag v refl e)
      | false ↦ λ e. refl
    ] refl

pub matched_is_taken : (has all : List Setting) (seen : Seen) (rows : List Row) → Holds seen rows → AllRead all seen.texts
    → matched_settings has (fold with_default rows (built_rules all)) ≡ taken has seen.texts
matched_is_taken [] all seen rows h k = refl
matched_is_taken (s ∷ ss) all seen rows h k =
    ap₂ (λ o more. more_by s (match_of s o) more) (first_read all seen rows s h) (matched_is_taken ss all seen rows h k)
    ∙ more_as s (text_of s seen.texts) (missing_of all (setting_name s)) (taken ss seen.texts) (λ v e flag. flag_true all seen.texts s v k e flag) (missing_valued all s) (missing_false all (setting_name s))

-- Both have the same values

-- an option's text is no value of it
pub record IsBad (texts : Texts) : Type 0 where
  pub setting : Setting
  pub text : List ℕ
  pub found : text_of setting texts ≡ Some text
  pub bad : value_by setting text ≡ None

abbrev value_of : Setting → Texts → Option GivenValue
value_of s texts = option_and_then (value_by s) (text_of s texts)

last_is : (found : Option GivenValue) (s : Setting) (gs : List Given) → last_from found s gs ≡ or_row (last_value s gs) found
last_is found s [] = refl
last_is found s (g ∷ gs) =
    last_is (cond (is_of s g) (Some g.value) found) s gs ∙ both (last_value s gs) (is_of s g) ∙ ap (λ o. or_row o found) (sym (last_is (cond (is_of s g) (Some g.value) None) s gs))
  where
    both : (o : Option GivenValue) (b : Bool) → or_row o (cond b (Some g.value) found) ≡ or_row (or_row o (cond b (Some g.value) None)) found
    both None true = refl
    both None false = refl
    both (Some n) b = refl

-- the values of texts
pub record IsValued (texts : Texts) (gs : List Given) : Type 0 where
  pub any : (s : Setting) → list_any (is_of s) gs ≡ is_some (text_of s texts)
  pub last : (s : Setting) → last_value s gs ≡ option_and_then (value_by s) (text_of s texts)
  pub once : all_once gs ≡ true
  pub fits : (s : Setting) (v : List ℕ) → text_of s texts ≡ Some v → value_by s v ≡ None → ⊥

abbrev Valued : Texts → Option (List Given) → Type 0
Valued texts None = IsBad texts
Valued texts (Some gs) = IsValued texts gs

named : (t s : Setting) → bytes_eq (setting_name t) (setting_name s) ≡ true → t ≡ s
named t s b = sym (same_setting s t (sym (names_as t s) ∙ b))

valued_with : (g : Setting × List ℕ) (gs : Texts) (n : GivenValue) (vs : List Given) → text_of g.0 gs ≡ None → value_by g.0 g.1 ≡ Some n → IsValued gs vs → IsValued (g ∷ gs) (record { setting = g.0; value = n } ∷ vs)
valued_with g gs n vs once is h = record {
  any = λ s.
      ap₂ (λ a b. a || b) (sym (names_as g.0 s)) (h.any s)
      ∙ either (bytes_eq (setting_name g.0) (setting_name s)) (text_of s gs);
  last = λ s.
      last_is (cond (bytes_eq (setting_bytes s) (setting_bytes g.0)) (Some n) None) s vs
      ∙ ap₂ (λ o b. or_row o (cond b (Some n) None)) (h.last s) (sym (names_as g.0 s))
      ∙ elim (bytes_eq (setting_name g.0) (setting_name s)) as (λ b. bytes_eq (setting_name g.0) (setting_name s) ≡ b → or_row (value_of s gs) (cond b (Some n) None) ≡ option_and_then (value_by s) (cond b (Some g.1) (text_of s gs))) [
        | true ↦ λ b. subst (λ t. or_row (value_of t gs) (Some n) ≡ value_by t g.1) (named g.0 s b) (ap (λ o. or_row (option_and_then (value_by g.0) o) (Some n)) once ∙ sym is)
        | false ↦ λ b. or_none (value_of s gs)
      ] refl;
  once = ap (λ b. cond b false (all_once vs)) (h.any g.0 ∙ ap is_some once) ∙ h.once;
  fits = λ s v e bad.
      elim (bytes_eq (setting_name g.0) (setting_name s)) as (λ b. bytes_eq (setting_name g.0) (setting_name s) ≡ b → cond b (Some g.1) (text_of s gs) ≡ Some v → ⊥) [
        | true ↦ λ b f. some_none (sym bad ∙ ap₂ value_by (sym (named g.0 s b)) (sym (some_same f)) ∙ is)
        | false ↦ λ b f. h.fits s v f bad
      ] refl e;
}
  where
    either : (b : Bool) (o : Option Text) → (b || is_some o) ≡ is_some (cond b (Some g.1) o)
    either true o = refl
    either false o = refl

bad_here : (g : Setting × List ℕ) (gs : Texts) → value_by g.0 g.1 ≡ None → IsBad (g ∷ gs)
bad_here g gs e = record { setting = g.0; text = g.1; found = ap (λ b. cond b (Some g.1) (text_of g.0 gs)) (same_name g.0); bad = e }

bad_later : (g : Setting × List ℕ) (gs : Texts) → text_of g.0 gs ≡ None → IsBad gs → IsBad (g ∷ gs)
bad_later g gs once h = record {
  setting = h.setting;
  text = h.text;
  found =
      elim (bytes_eq (setting_name g.0) (setting_name h.setting)) as (λ b. bytes_eq (setting_name g.0) (setting_name h.setting) ≡ b → cond b (Some g.1) (text_of h.setting gs) ≡ Some h.text) [
        | true ↦ λ b. absurd (some_none (sym once ∙ ap (λ t. text_of t gs) (named g.0 h.setting b) ∙ h.found))
        | false ↦ λ b. h.found
      ] refl;
  bad = h.bad;
}

pub valued_is : (has : List Setting) (texts : Texts) → AllRead has texts → Valued texts (valued texts)
valued_is has [] k = record { any = λ s. refl; last = λ s. refl; once = refl; fits = λ s v e bad. some_none e }
valued_is has (g ∷ gs) k = step (value_by g.0 g.1) (valued gs) refl (valued_is has gs k.3)
  where
    step : (n : Option GivenValue) (o : Option (List Given)) → value_by g.0 g.1 ≡ n → Valued gs o → Valued (g ∷ gs) (value_more g.0 n o)
    step None o e h = bad_here g gs e
    step (Some n) None e h = bad_later g gs k.2 h
    step (Some n) (Some vs) e h = valued_with g gs n vs k.2 e h

pub once_if : (has : List Setting) (texts : Texts) (gs : List Given) → AllRead has texts → valued texts ≡ Some gs → IsValued texts gs
once_if has texts gs k e = subst (Valued texts) e (valued_is has texts k)

-- the values by the matches
record IsTaken (has : List Setting) (texts : Texts) (gs : List Given) : Type 0 where
  last : (s : Setting) → last_value s gs ≡ cond (is_some (setting_among has (setting_bytes s))) (value_of s texts) None
  fits : (s : Setting) (v : List ℕ) → is_some (setting_among has (setting_bytes s)) ≡ true → text_of s texts ≡ Some v → value_by s v ≡ None → ⊥

abbrev Taken : List Setting → Texts → Option (List Given) → Type 0
Taken has texts None = IsBad texts
Taken has texts (Some gs) = IsTaken has texts gs

both_none : (b : Bool) → cond {A = Option GivenValue} b None None ≡ None
both_none true = refl
both_none false = refl

among_or : (s t : Setting) (ss : List Setting) (b : Bool) → is_some (cond b (Some t) (setting_among ss (setting_bytes s))) ≡ (b || is_some (setting_among ss (setting_bytes s)))
among_or s t ss true = refl
among_or s t ss false = refl

taken_without : (t : Setting) (ss : List Setting) (texts : Texts) (gs : List Given) → text_of t texts ≡ None → IsTaken ss texts gs → IsTaken (t ∷ ss) texts gs
taken_without t ss texts gs none h = record {
  last = λ s.
      h.last s ∙ elim (bytes_eq (setting_bytes s) (setting_bytes t)) as (λ b. bytes_eq (setting_bytes s) (setting_bytes t) ≡ b
      → cond (is_some (setting_among ss (setting_bytes s))) (value_of s texts) None ≡ cond (is_some (cond b (Some t) (setting_among ss (setting_bytes s)))) (value_of s texts) None) [
        | true ↦ λ b. let nothing = absent s b in ap (λ o. cond (is_some (setting_among ss (setting_bytes s))) o None) nothing ∙ both_none (is_some (setting_among ss (setting_bytes s))) ∙ sym nothing
        | false ↦ λ b. refl
      ] refl;
  fits = λ s v among e bad.
      elim (bytes_eq (setting_bytes s) (setting_bytes t)) as (λ b. bytes_eq (setting_bytes s) (setting_bytes t) ≡ b → is_some (cond b (Some t) (setting_among ss (setting_bytes s))) ≡ true → ⊥) [
        | true ↦ λ b f. some_none (sym (ap (λ x. text_of x texts) (same_setting s t b) ∙ none) ∙ e)
        | false ↦ λ b f. h.fits s v f e bad
      ] refl among;
}
  where
    absent : (s : Setting) → bytes_eq (setting_bytes s) (setting_bytes t) ≡ true → value_of s texts ≡ None
    absent s b = ap (option_and_then (value_by s)) (ap (λ x. text_of x texts) (same_setting s t b) ∙ none)

taken_with : (t : Setting) (ss : List Setting) (texts : Texts) (v : List ℕ) (n : GivenValue) (gs : List Given) → text_of t texts ≡ Some v → value_by t v ≡ Some n → IsTaken ss texts gs
    → IsTaken (t ∷ ss) texts (record { setting = t; value = n } ∷ gs)
taken_with t ss texts v n gs found is h = record {
  last = λ s.
      last_is (cond (bytes_eq (setting_bytes s) (setting_bytes t)) (Some n) None) s gs
      ∙ ap (λ o. or_row o (cond (bytes_eq (setting_bytes s) (setting_bytes t)) (Some n) None)) (h.last s)
      ∙ elim (bytes_eq (setting_bytes s) (setting_bytes t)) as (λ b. bytes_eq (setting_bytes s) (setting_bytes t) ≡ b
      → or_row (cond (is_some (setting_among ss (setting_bytes s))) (value_of s texts) None) (cond b (Some n) None) ≡ cond (is_some (cond b (Some t) (setting_among ss (setting_bytes s)))) (value_of s texts) None) [
        | true ↦ λ b. let value = here s b in ap (λ o. or_row (cond (is_some (setting_among ss (setting_bytes s))) o None) (Some n)) value ∙ either (is_some (setting_among ss (setting_bytes s))) ∙ sym value
        | false ↦ λ b. or_none (cond (is_some (setting_among ss (setting_bytes s))) (value_of s texts) None)
      ] refl;
  fits = λ s w among e bad.
      elim (bytes_eq (setting_bytes s) (setting_bytes t)) as (λ b. bytes_eq (setting_bytes s) (setting_bytes t) ≡ b → is_some (cond b (Some t) (setting_among ss (setting_bytes s))) ≡ true → ⊥) [
        | true ↦ λ b f. some_none (sym (ap (option_and_then (value_by s)) e ∙ bad) ∙ here s b)
        | false ↦ λ b f. h.fits s w f e bad
      ] refl among;
}
  where
    here : (s : Setting) → bytes_eq (setting_bytes s) (setting_bytes t) ≡ true → value_of s texts ≡ Some n
    here s b = ap (λ x. value_of x texts) (same_setting s t b) ∙ ap (option_and_then (value_by t)) found ∙ is

    either : (b : Bool) → or_row (cond b (Some n) None) (Some n) ≡ Some n
    either true = refl
    either false = refl

taken_is : (has : List Setting) (texts : Texts) → Taken has texts (taken has texts)
taken_is [] texts = record { last = λ s. refl; fits = λ s v among e bad. true_false (sym among) }
taken_is (t ∷ ss) texts =
    elim (text_of t texts) as (λ o. text_of t texts ≡ o → Taken (t ∷ ss) texts (taken_more t o (taken ss texts))) [
      | None ↦ λ e. without (taken ss texts) e (taken_is ss texts)
      | Some v ↦ λ e. with v e (value_by t v) (taken ss texts) refl (taken_is ss texts)
    ] refl
  where
    without : (o : Option (List Given)) → text_of t texts ≡ None → Taken ss texts o → Taken (t ∷ ss) texts o
    without None e h = h
    without (Some gs) e h = taken_without t ss texts gs e h

    with : (v : List ℕ) → text_of t texts ≡ Some v → (n : Option GivenValue) (o : Option (List Given)) → value_by t v ≡ n → Taken ss texts o → Taken (t ∷ ss) texts (value_more t n o)
    with v e None o is h = record { setting = t; text = v; found = e; bad = is }
    with v e (Some n) None is h = h
    with v e (Some n) (Some gs) is h = taken_with t ss texts v n gs e is h

pub same_values : (has : List Setting) (texts : Texts) (ps : List Text) → AllRead has texts → SameReading (words_with_settings (taken has texts) ps) (words_with_settings (valued texts) ps)
same_values has texts ps k = both (taken has texts) (valued texts) (taken_is has texts) (valued_is has texts k)
  where
    unread : (s : Setting) (o : Option (List ℕ)) → text_of s texts ≡ o → is_some (setting_among has (setting_bytes s)) ≡ false → None ≡ option_and_then (value_by s) o
    unread s None e none = refl
    unread s (Some v) e none = absurd (true_false (sym (ap is_some (read_among has texts s v k e)) ∙ none))

    both : (a b : Option (List Given)) → Taken has texts a → Valued texts b → SameReading (words_with_settings a ps) (words_with_settings b ps)
    both None None h v = tt
    both None (Some gs) h v = v.fits h.setting h.text h.found h.bad
    both (Some gs) None h v = h.fits v.setting v.text (ap is_some (read_among has texts v.setting v.text k v.found)) v.found v.bad
    both (Some gs) (Some vs) h v = (
      refl,
      λ s.
          h.last s ∙ elim (is_some (setting_among has (setting_bytes s))) as (λ b. is_some (setting_among has (setting_bytes s)) ≡ b → cond b (value_of s texts) None ≡ value_of s texts) [
            | true ↦ λ e. refl
            | false ↦ λ e. unread s (text_of s texts) refl e
          ] refl ∙ sym (v.last s),
    )
