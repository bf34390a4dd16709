-- The arguments of a command of `clap`, once it is built, and how they are found by name.
use Rattle.std.proofs.Common.{◌≡◌, ℕ, Bool, true, false, ◌||◌, cond, List, [], ◌∷◌, Option, Some, None, refl, sym, ap, ◌∙◌, codes}
use Rattle.std.specs.Str.{bytes_eq}
use Rattle.std.proofs.lemmas.Slice.Eq.{bytes_eq-Decides}
use Rattle.clap.specs.Walk.{Rule, arg_by_id, arg_by_index, arg_by_long}
use Rattle.clap.specs.Simple.{Shape, built, filled, new_rule, with_index}
use Rattle.clap.specs.Faults.{is_simple_and_free}
use Rattle.sk_opts.specs.declared.setting.Setting.{Setting}
use Rattle.sk_opts.specs.declared.setting.Setting.TheVariants.{HoleBits, InputBits, Turns, Calls, IntBits, Rounds, Conflicts, Certificate, Holes}
use Rattle.sk_opts.specs.Settings.{setting_bytes, is_flag, setting_among}
use Rattle.sk_opts.specs.Matching.{setting_name, setting_action, words_rule, command_app, IsOptions, NoOptions, BoundsOptions, SynthOptions, TraceOptions}
use Rattle.sk_opts.proofs.InRange.{same_setting}

-- Texts

or_false : (b : Bool) → (b || false) ≡ b
or_false true = refl
or_false false = refl

pub eq_turned : (xs ys : List ℕ) → bytes_eq xs ys ≡ bytes_eq ys xs
eq_turned xs ys =
    elim (bytes_eq xs ys) as (λ v. bytes_eq xs ys ≡ v → v ≡ bytes_eq ys xs) [
      | true ↦ λ e. sym ((bytes_eq-Decides ys xs).1 (sym ((bytes_eq-Decides xs ys).0 e)))
      | false ↦ λ e. elim (bytes_eq ys xs) as (λ v. bytes_eq ys xs ≡ v → false ≡ v) [
        | true ↦ λ f. sym e ∙ (bytes_eq-Decides xs ys).1 (sym ((bytes_eq-Decides ys xs).0 f))
        | false ↦ λ f. refl
      ] refl
    ] refl

-- Rules of the command that is built

abbrev pub built_as : List ℕ → Bool → Rule
built_as name flag = filled (record (new_rule name) { long = Some name; action = Some (setting_action flag) })

abbrev pub built_option : Setting → Rule
built_option s = built_as (setting_name s) (is_flag s)

abbrev pub built_words : Rule
built_words = with_index 1 (filled words_rule)

abbrev pub built_rules : List Setting → List Rule
built_rules [] = built_words ∷ []
built_rules (s ∷ ss) = built_option s ∷ built_rules ss

abbrev pub built_shape : List Setting → Shape
built_shape has = record {
  name = codes "sketch";
  aliases = [];
  rules = built_rules has;
  is_plain = true;
  is_leaf = true;
  no_binary_name = true;
  disable_help_flag = true;
  disable_help_subcommand = true;
  disable_version_flag = true;
  propagate_version = false;
  has_version = false;
  has_long_version = false;
  args_override_self = false;
  arg_required_else_help = false;
  subcommand_required = false;
  subcommand_negates_reqs = false;
  is_built = true;
}

pub built_is : (has : List Setting) → IsOptions has → built (command_app has) ≡ record { top = built_shape has; subs = [] }
built_is has NoOptions = refl
built_is has BoundsOptions = refl
built_is has SynthOptions = refl
built_is has TraceOptions = refl

pub simple_is : (has : List Setting) → IsOptions has → is_simple_and_free (command_app has) ≡ true
simple_is has NoOptions = refl
simple_is has BoundsOptions = refl
simple_is has SynthOptions = refl
simple_is has TraceOptions = refl

-- Names

pub name_test : (s : Setting) (n : List ℕ) → (bytes_eq (setting_name s) n || false) ≡ bytes_eq (45 ∷ 45 ∷ n) (setting_bytes s)
name_test HoleBits n = or_false (bytes_eq (setting_name HoleBits) n) ∙ eq_turned (setting_name HoleBits) n
name_test InputBits n = or_false (bytes_eq (setting_name InputBits) n) ∙ eq_turned (setting_name InputBits) n
name_test Turns n = or_false (bytes_eq (setting_name Turns) n) ∙ eq_turned (setting_name Turns) n
name_test Calls n = or_false (bytes_eq (setting_name Calls) n) ∙ eq_turned (setting_name Calls) n
name_test IntBits n = or_false (bytes_eq (setting_name IntBits) n) ∙ eq_turned (setting_name IntBits) n
name_test Rounds n = or_false (bytes_eq (setting_name Rounds) n) ∙ eq_turned (setting_name Rounds) n
name_test Conflicts n = or_false (bytes_eq (setting_name Conflicts) n) ∙ eq_turned (setting_name Conflicts) n
name_test Certificate n = or_false (bytes_eq (setting_name Certificate) n) ∙ eq_turned (setting_name Certificate) n
name_test Holes n = or_false (bytes_eq (setting_name Holes) n) ∙ eq_turned (setting_name Holes) n

pub whole_name : (s : Setting) → 45 ∷ 45 ∷ setting_name s ≡ setting_bytes s
whole_name HoleBits = refl
whole_name InputBits = refl
whole_name Turns = refl
whole_name Calls = refl
whole_name IntBits = refl
whole_name Rounds = refl
whole_name Conflicts = refl
whole_name Certificate = refl
whole_name Holes = refl

pub no_words : (s : Setting) → bytes_eq (setting_name s) (codes "words") ≡ false
no_words HoleBits = refl
no_words InputBits = refl
no_words Turns = refl
no_words Calls = refl
no_words IntBits = refl
no_words Rounds = refl
no_words Conflicts = refl
no_words Certificate = refl
no_words Holes = refl

pub words_differ : (s : Setting) → bytes_eq (codes "words") (setting_name s) ≡ false
words_differ s = eq_turned (codes "words") (setting_name s) ∙ no_words s

pub names_as : (t s : Setting) → bytes_eq (setting_name t) (setting_name s) ≡ bytes_eq (setting_bytes s) (setting_bytes t)
names_as t s = sym (or_false (bytes_eq (setting_name t) (setting_name s))) ∙ name_test t (setting_name s) ∙ ap (λ n. bytes_eq n (setting_bytes t)) (whole_name s)

pub same_name : (s : Setting) → bytes_eq (setting_name s) (setting_name s) ≡ true
same_name s = (bytes_eq-Decides (setting_name s) (setting_name s)).1 refl

pub names_differ : (t s : Setting) → (t ≡ s → ⊥) → bytes_eq (setting_name t) (setting_name s) ≡ false
names_differ t s differ =
    elim (bytes_eq (setting_bytes s) (setting_bytes t)) as (λ v. bytes_eq (setting_bytes s) (setting_bytes t) ≡ v → bytes_eq (setting_name t) (setting_name s) ≡ false) [
      | true ↦ λ e. absurd (differ (sym (same_setting s t e)))
      | false ↦ λ e. names_as t s ∙ e
    ] refl

-- Arguments by their names

pub by_index : (has : List Setting) → arg_by_index (built_rules has) 1 ≡ Some built_words
by_index [] = refl
by_index (s ∷ ss) = by_index ss

abbrev pub rule_if : Option Setting → Option Rule
rule_if None = None
rule_if (Some s) = Some (built_option s)

pub by_long : (has : List Setting) (n : List ℕ) → arg_by_long (built_rules has) n ≡ rule_if (setting_among has (45 ∷ 45 ∷ n))
by_long [] n = refl
by_long (s ∷ ss) n =
    ap (λ v. cond v (Some (built_option s)) (arg_by_long (built_rules ss) n)) (name_test s n)
    ∙ elim (bytes_eq (45 ∷ 45 ∷ n) (setting_bytes s)) as (λ v. cond v (Some (built_option s)) (arg_by_long (built_rules ss) n) ≡ rule_if (cond v (Some s) (setting_among ss (45 ∷ 45 ∷ n)))) [
      | true ↦ refl
      | false ↦ by_long ss n
    ]

pub by_id : (has : List Setting) (s : Setting) → setting_among has (setting_bytes s) ≡ Some s → arg_by_id (built_rules has) (setting_name s) ≡ Some (built_option s)
by_id [] s found = absurd (none_some found)
  where
    none_some : {X : Type 0} {x : X} → None ≡ Some x → ⊥
    none_some e = cc
by_id (t ∷ ss) s found =
    ap (λ v. cond v (Some (built_option t)) (arg_by_id (built_rules ss) (setting_name s))) (names_as t s)
    ∙ elim (bytes_eq (setting_bytes s) (setting_bytes t)) as (λ v. bytes_eq (setting_bytes s) (setting_bytes t) ≡ v → cond v (Some t) (setting_among ss (setting_bytes s)) ≡ Some s → cond v (Some (built_option t)) (arg_by_id (built_rules ss) (setting_name s)) ≡ Some (built_option s)) [
      | true ↦ λ e f. ap (λ x. Some (built_option x)) (sym (same_setting s t e))
      | false ↦ λ e f. by_id ss s f
    ] refl found

pub words_by_id : (has : List Setting) → arg_by_id (built_rules has) (codes "words") ≡ Some built_words
words_by_id [] = refl
words_by_id (t ∷ ss) = ap (λ v. cond v (Some (built_option t)) (arg_by_id (built_rules ss) (codes "words"))) (no_words t) ∙ words_by_id ss
