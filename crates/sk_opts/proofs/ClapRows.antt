-- What the rows of `clap`'s matches hold, after each use of an argument.
use Rattle.std.proofs.Common.{◌≡◌, ℕ, Bool, true, false, ◌||◌, cond, List, [], ◌∷◌, ◌++◌, Option, Some, None, is_some, refl, sym, ap, ◌∙◌, codes}
use Rattle.std.specs.List.{find, slice_get}
use Rattle.std.specs.Option.{option_map, option_and_then, unwrap_or}
use Rattle.std.specs.Str.{bytes_eq}
use Rattle.std.proofs.lemmas.Slice.Eq.{bytes_eq-Decides}
use Rattle.clap.specs.Walk.{Row, Text, at_row, has_row, first_of, more_values, reading_by, used}
use Rattle.clap.specs.declared.parser.matches.ValueSource.TheVariants.{CommandLine}
use Rattle.sk_opts.specs.declared.setting.Setting.{Setting}
use Rattle.sk_opts.specs.Matching.{setting_name, matched_positionals}
use Rattle.sk_opts.proofs.ClapRules.{built_words, no_words, words_differ}

-- Rows by their names

abbrev pub row_at : Text → List Row → Option Row
row_at id rows = find (λ r. bytes_eq r.id id) rows

abbrev pub or_row : {X : Type 0} → Option X → Option X → Option X
or_row (Some x) y = Some x
or_row None y = y

abbrev pub values_of : Option Row → Option (List Text)
values_of o = option_map (λ (r : Row). r.values) o

pub has_is : (id : Text) (rows : List Row) → has_row id rows ≡ is_some (row_at id rows)
has_is id [] = refl
has_is id (r ∷ rs) = elim (bytes_eq r.id id) as (λ v. (v || has_row id rs) ≡ is_some (cond v (Some r) (row_at id rs))) [ true ↦ refl | false ↦ has_is id rs ]

pub row_more : (id : Text) (rows : List Row) (r : Row) → row_at id (rows ++ r ∷ []) ≡ or_row (row_at id rows) (cond (bytes_eq r.id id) (Some r) None)
row_more id [] r = refl
row_more id (x ∷ xs) r = elim (bytes_eq x.id id) as (λ v. cond v (Some x) (row_at id (xs ++ r ∷ [])) ≡ or_row (cond v (Some x) (row_at id xs)) (cond (bytes_eq r.id id) (Some r) None)) [ true ↦ refl | false ↦ row_more id xs r ]

-- where no row has the name, one comes at the end
pub at_none : (id : Text) (f : Row → List Row) (m : List Row) (rows : List Row) → has_row id rows ≡ false → at_row id f m rows ≡ rows ++ m
at_none id f m [] e = refl
at_none id f m (r ∷ rs) e =
    elim (bytes_eq r.id id) as (λ v. (v || has_row id rs) ≡ false → cond v (f r ++ rs) (r ∷ at_row id f m rs) ≡ r ∷ (rs ++ m)) [
      | true ↦ λ h. absurd (differ h)
      | false ↦ λ h. ap (λ l. r ∷ l) (at_none id f m rs h)
    ] e
  where
    differ : true ≡ false → ⊥
    differ h = cc

-- What was read

pub record Seen : Type 0 where
  pub texts : List (Setting × List ℕ)
  pub positionals : List (List ℕ)

abbrev pub text_of : Setting → List (Setting × List ℕ) → Option (List ℕ)
text_of s [] = None
text_of s (g ∷ gs) = cond (bytes_eq (setting_name g.0) (setting_name s)) (Some g.1) (text_of s gs)

pub text_more : (s : Setting) (gs : List (Setting × List ℕ)) (g : Setting × List ℕ) → text_of s (gs ++ g ∷ []) ≡ or_row (text_of s gs) (cond (bytes_eq (setting_name g.0) (setting_name s)) (Some g.1) None)
text_more s [] g = refl
text_more s (x ∷ xs) g = elim (bytes_eq (setting_name x.0) (setting_name s)) as (λ v. cond v (Some x.1) (text_of s (xs ++ g ∷ [])) ≡ or_row (cond v (Some x.1) (text_of s xs)) (cond (bytes_eq (setting_name g.0) (setting_name s)) (Some g.1) None)) [ true ↦ refl | false ↦ text_more s xs g ]

abbrev pub one_text : Option (List ℕ) → Option (List Text)
one_text o = option_map (λ v. v ∷ []) o

abbrev pub if_any : List Text → Option (List Text)
if_any [] = None
if_any (p ∷ ps) = Some (p ∷ ps)

-- the rows hold what was read
pub record Holds (seen : Seen) (rows : List Row) : Type 0 where
  pub options : (s : Setting) → values_of (row_at (setting_name s) rows) ≡ one_text (text_of s seen.texts)
  pub words : values_of (row_at (codes "words") rows) ≡ if_any seen.positionals

is_some_map : {X Y : Type 0} (f : X → Y) (o : Option X) → is_some (option_map f o) ≡ is_some o
is_some_map f None = refl
is_some_map f (Some x) = refl

pub has_text : (seen : Seen) (rows : List Row) (s : Setting) → Holds seen rows → has_row (setting_name s) rows ≡ is_some (text_of s seen.texts)
has_text seen rows s h =
    has_is (setting_name s) rows ∙ sym (is_some_map (λ (r : Row). r.values) (row_at (setting_name s) rows)) ∙ ap is_some (h.options s) ∙ is_some_map (λ v. v ∷ []) (text_of s seen.texts)

pub values_or : (a b : Option Row) → values_of (or_row a b) ≡ or_row (values_of a) (values_of b)
values_or None b = refl
values_or (Some r) b = refl

pub texts_or : (a b : Option (List ℕ)) → one_text (or_row a b) ≡ or_row (one_text a) (one_text b)
texts_or None b = refl
texts_or (Some r) b = refl

values_cond : (v : Bool) (r : Row) (x : List ℕ) → r.values ≡ x ∷ [] → values_of (cond v (Some r) None) ≡ one_text (cond v (Some x) None)
values_cond true r x e = ap (λ l. Some l) e
values_cond false r x e = refl

pub or_none : {X : Type 0} (o : Option X) → or_row o None ≡ o
or_none None = refl
or_none (Some x) = refl

abbrev pub seen_option : Setting → List ℕ → Seen → Seen
seen_option s v seen = record { texts = seen.texts ++ (s, v) ∷ []; positionals = seen.positionals }

abbrev pub seen_word : List ℕ → Seen → Seen
seen_word w seen = record { texts = seen.texts; positionals = seen.positionals ++ w ∷ [] }

-- a row more, of an option that has none
pub option_held : (seen : Seen) (rows : List Row) (s : Setting) (v : List ℕ) (r : Row) → r.id ≡ setting_name s → r.values ≡ v ∷ [] → Holds seen rows → Holds (seen_option s v seen) (rows ++ r ∷ [])
option_held seen rows s v r id is h = record {
  options = λ t.
      ap values_of (row_more (setting_name t) rows r)
      ∙ values_or (row_at (setting_name t) rows) (cond (bytes_eq r.id (setting_name t)) (Some r) None)
      ∙ ap (λ o. or_row o (values_of (cond (bytes_eq r.id (setting_name t)) (Some r) None))) (h.options t)
      ∙ ap (λ o. or_row (one_text (text_of t seen.texts)) o) (ap (λ i. values_of (cond (bytes_eq i (setting_name t)) (Some r) None)) id ∙ values_cond (bytes_eq (setting_name s) (setting_name t)) r v is)
      ∙ sym (texts_or (text_of t seen.texts) (cond (bytes_eq (setting_name s) (setting_name t)) (Some v) None))
      ∙ ap one_text (sym (text_more t seen.texts (s, v)));
  words =
      ap values_of (row_more (codes "words") rows r ∙ ap (λ i. or_row (row_at (codes "words") rows) (cond (bytes_eq i (codes "words")) (Some r) None)) id
      ∙ ap (λ b. or_row (row_at (codes "words") rows) (cond b (Some r) None)) (no_words s) ∙ or_none (row_at (codes "words") rows))
      ∙ h.words;
}

-- one more positional
abbrev pub words_row : Text → Row
words_row w = record { id = codes "words"; values = w ∷ []; count = None; source = Some CommandLine; reading = reading_by built_words }

abbrev pub grown : Text → Option Row → List Text
grown w None = w ∷ []
grown w (Some r) = r.values ++ w ∷ []

word_row : (w : Text) (rows : List Row) → values_of (row_at (codes "words") (used built_words (w ∷ []) rows)) ≡ Some (grown w (row_at (codes "words") rows))
word_row w [] = refl
word_row w (r ∷ rs) =
    elim (bytes_eq r.id (codes "words")) as (λ v. bytes_eq r.id (codes "words") ≡ v
    → values_of (row_at (codes "words") (cond v (more_values CommandLine (w ∷ []) r ++ rs) (r ∷ used built_words (w ∷ []) rs))) ≡ Some (grown w (cond v (Some r) (row_at (codes "words") rs)))) [
      | true ↦ λ e. rw e refl
      | false ↦ λ e. rw e (word_row w rs)
    ] refl

other_row : (s : Setting) (w : Text) (rows : List Row) → row_at (setting_name s) (used built_words (w ∷ []) rows) ≡ row_at (setting_name s) rows
other_row s w [] = ap (λ b. cond b (Some (words_row w)) None) (words_differ s)
other_row s w (r ∷ rs) =
    elim (bytes_eq r.id (codes "words")) as (λ v. bytes_eq r.id (codes "words") ≡ v
    → row_at (setting_name s) (cond v (more_values CommandLine (w ∷ []) r ++ rs) (r ∷ used built_words (w ∷ []) rs)) ≡ cond (bytes_eq r.id (setting_name s)) (Some r) (row_at (setting_name s) rs)) [
      | true ↦ λ e. let no : bytes_eq r.id (setting_name s) ≡ false = ap (λ i. bytes_eq i (setting_name s)) ((bytes_eq-Decides r.id (codes "words")).0 e) ∙ words_differ s in rw no refl
      | false ↦ λ e. ap (λ o. cond (bytes_eq r.id (setting_name s)) (Some r) o) (other_row s w rs)
    ] refl

any_more : (ps : List Text) (w : Text) → if_any (ps ++ w ∷ []) ≡ Some (ps ++ w ∷ [])
any_more [] w = refl
any_more (p ∷ ps) w = refl

grown_is : (o : Option Row) (ps : List Text) (w : Text) → values_of o ≡ if_any ps → grown w o ≡ ps ++ w ∷ []
grown_is None [] w e = refl
grown_is None (p ∷ ps) w e = absurd (none_some e)
  where
    none_some : {X : Type 0} {x : X} → None ≡ Some x → ⊥
    none_some e = cc
grown_is (Some r) [] w e = absurd (some_none e)
  where
    some_none : {X : Type 0} {x : X} → Some x ≡ None → ⊥
    some_none e = cc
grown_is (Some r) (p ∷ ps) w e = ap (λ l. l ++ w ∷ []) (inside e)
  where
    inside : {X : Type 0} {x y : X} → Some x ≡ Some y → x ≡ y
    inside e = cc

pub word_held : (seen : Seen) (rows : List Row) (w : List ℕ) → Holds seen rows → Holds (seen_word w seen) (used built_words (w ∷ []) rows)
word_held seen rows w h = record {
  options = λ t. ap values_of (other_row t w rows) ∙ h.options t;
  words = word_row w rows ∙ ap (λ l. Some l) (grown_is (row_at (codes "words") rows) seen.positionals w h.words) ∙ sym (any_more seen.positionals w);
}

-- What the getters give

pub first_is : (rows : List Row) (id : Text) (o : Option (List ℕ)) → values_of (row_at id rows) ≡ one_text o → first_of id rows ≡ o
first_is rows id o e = through (row_at id rows) ∙ ap (λ vs. option_and_then (λ l. slice_get l 0) vs) e ∙ back o
  where
    through : (r : Option Row) → option_and_then (λ (x : Row). slice_get x.values 0) r ≡ option_and_then (λ l. slice_get l 0) (values_of r)
    through None = refl
    through (Some r) = refl

    back : (v : Option (List ℕ)) → option_and_then (λ l. slice_get l 0) (one_text v) ≡ v
    back None = refl
    back (Some v) = refl

pub positionals_are : (seen : Seen) (rows : List Row) → Holds seen rows → matched_positionals rows ≡ seen.positionals
positionals_are seen rows h = ap (λ o. unwrap_or o []) h.words ∙ back seen.positionals
  where
    back : (ps : List Text) → unwrap_or (if_any ps) [] ≡ ps
    back [] = refl
    back (p ∷ ps) = refl
