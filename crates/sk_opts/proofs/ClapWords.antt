-- One word, as `clap` takes it and as our reading does.
use Rattle.std.proofs.Common.{◌≡◌, ℕ, suc, ◌+◌, Bool, true, false, not, ◌||◌, cond, eqb, List, [], ◌∷◌, take, drop, Option, Some, None, refl, sym, ap, ap₂, subst, codes, arith}
use Rattle.std.specs.List.{position_or_len, before_first, after_first}
use Rattle.std.specs.Str.{bytes_eq}
use Rattle.std.proofs.lemmas.Bool.{eqb-true}
use Rattle.clap.specs.Lexer.{has_byte, name_and_value, long_of, is_short_word}
use Rattle.clap.specs.Kinds.{Kinds, or_else}
use Rattle.clap.specs.Walk.{Held, Text, Waiting, idle, option, positional, Walk, Step, after_step, long_or_other, walked, trailing}
use Rattle.clap.specs.Faults.{flag_word_fault, step_fault, turn_fault}
use Rattle.sk_opts.specs.declared.setting.Setting.{Setting}
use Rattle.sk_opts.specs.Settings.{setting_among}
use Rattle.sk_opts.specs.CommandLine.{is_option}
use Rattle.sk_opts.specs.Reader.{Plain, before_equals, after_equals, option_piece, piece_of}
use Rattle.sk_opts.proofs.ClapRules.{built_rules, built_shape}

-- A word, cut at its first `=`

before_is : (r : List ℕ) → before_first (λ x. eqb x 61) r ≡ before_equals r
before_is [] = refl
before_is (b ∷ bs) =
    elim (eqb b 61) as (λ v. take (cond (not v) (1 + position_or_len (λ x. eqb x 61) bs) 0) (b ∷ bs) ≡ cond v [] (b ∷ before_equals bs)) [
      | true ↦ refl
      | false ↦ let one : 1 + position_or_len (λ x. eqb x 61) bs ≡ suc (position_or_len (λ x. eqb x 61) bs) = omega arith in rw one (ap (λ l. b ∷ l) (before_is bs))
    ]

after_is : (r : List ℕ) → cond (has_byte 61 r) (Some (after_first (λ x. eqb x 61) r)) None ≡ after_equals r
after_is [] = refl
after_is (b ∷ bs) =
    elim (eqb b 61) as (λ v. cond (v || has_byte 61 bs) (Some (drop (cond (not v) (1 + position_or_len (λ x. eqb x 61) bs) 0 + 1) (b ∷ bs))) None ≡ cond v (Some bs) (after_equals bs)) [
      | true ↦ refl
      | false ↦
          let one : 1 + position_or_len (λ x. eqb x 61) bs + 1 ≡ suc (position_or_len (λ x. eqb x 61) bs + 1) = omega arith in
          rw one (after_is bs)
    ]

cut_is : (r : List ℕ) → name_and_value r ≡ (before_equals r, after_equals r)
cut_is r = ap₂ (λ x y. (x, y)) (before_is r) (after_is r)

-- What a word is

pub data Kind (has : List Setting) (w : List ℕ) : Type 0 where
  -- `--`
  EndsHere : bytes_eq w (codes "--") ≡ true → Kind has w
  -- a word with two minus signs in front
  Long : (n : List ℕ) → (v : Option (List ℕ)) → bytes_eq w (codes "--") ≡ false → is_option w ≡ true → long_of w ≡ Some (n, v) → piece_of has w ≡ option_piece (setting_among has (45 ∷ 45 ∷ n)) v → Kind has w
  -- one minus sign with something behind it
  Short : is_short_word w ≡ true → Kind has w
  -- any other
  Other : bytes_eq w (codes "--") ≡ false → is_option w ≡ false → long_of w ≡ None → is_short_word w ≡ false → piece_of has w ≡ Plain → Kind has w

two_minus : (has : List Setting) (r : List ℕ) → Kind has (45 ∷ 45 ∷ r)
two_minus has [] = EndsHere refl
two_minus has (x ∷ xs) = Long (before_equals (x ∷ xs)) (after_equals (x ∷ xs)) refl refl (ap (λ p. Some p) (cut_is (x ∷ xs))) refl

one_minus : (has : List Setting) (c : ℕ) (r : List ℕ) → Kind has (45 ∷ c ∷ r)
one_minus has c r =
    elim (eqb c 45) as (λ v. eqb c 45 ≡ v → Kind has (45 ∷ c ∷ r)) [
      | true ↦ λ e. subst (λ x. Kind has (45 ∷ x ∷ r)) (sym (eqb-true c 45 e)) (two_minus has r)
      | false ↦ λ e. Short (rw e refl)
    ] refl

pub kind_of_word : (has : List Setting) (w : List ℕ) → Kind has w
kind_of_word has [] = Other refl refl refl refl refl
kind_of_word has (b ∷ []) =
    elim (eqb b 45) as (λ v. eqb b 45 ≡ v → Kind has (b ∷ [])) [
      | true ↦ λ e. subst (λ x. Kind has (x ∷ [])) (sym (eqb-true b 45 e)) (Other refl refl refl refl refl)
      | false ↦ λ e. Other (rw e refl) refl (rw e refl) (rw e refl) (rw e refl)
    ] refl
kind_of_word has (b ∷ c ∷ r) =
    elim (eqb b 45) as (λ v. eqb b 45 ≡ v → Kind has (b ∷ c ∷ r)) [
      | true ↦ λ e. subst (λ x. Kind has (x ∷ c ∷ r)) (sym (eqb-true b 45 e)) (one_minus has c r)
      | false ↦ λ e. Other (rw e refl) e (rw e refl) (rw e refl) (rw e refl)
    ] refl

-- The walk, word by word

-- where the walk stands: nothing was met that ends it
abbrev pub at : Held → Waiting → Bool → Walk
at h waiting behind = record { held = h; waiting = waiting; position = 1; is_trailing = behind; stopped = None }

-- the fault of a word before `--`, and the walk behind it
abbrev pub met_by : List Setting → Waiting → List ℕ → Held → Bool → Option (Text × Option Text) → Held × Step
met_by has waiting w h ends long = cond ends (h, trailing 1) (long_or_other (built_rules has) waiting w long h)

abbrev pub fault_by : List Setting → Waiting → List ℕ → Held → Bool → Option (Text × Option Text) → Kinds
fault_by has waiting w h ends long =
    or_else (cond ends [] (flag_word_fault (built_rules has) false long w h))
    (step_fault (built_shape has) 1 (met_by has waiting w h ends long).0 (met_by has waiting w h ends long).1)

abbrev pub walk_by : List Setting → Waiting → List ℕ → Held → Bool → Option (Text × Option Text) → Walk
walk_by has waiting w h ends long =
    after_step (built_rules has) w (at h waiting false) (met_by has waiting w h ends long).0 (met_by has waiting w h ends long).1

pub turn_is : (has : List Setting) (waiting : Waiting) (w : List ℕ) (h : Held) → turn_fault (built_shape has) [] (at h waiting false) w ≡ fault_by has waiting w h (bytes_eq w (codes "--")) (long_of w)
turn_is has idle w h = refl
turn_is has (option id) w h = refl
turn_is has positional w h = refl

pub walked_is : (has : List Setting) (waiting : Waiting) (w : List ℕ) (h : Held) → walked (built_rules has) [] (at h waiting false) w ≡ walk_by has waiting w h (bytes_eq w (codes "--")) (long_of w)
unfolding walked
walked_is has idle w h = refl
walked_is has (option id) w h = refl
walked_is has positional w h = refl
