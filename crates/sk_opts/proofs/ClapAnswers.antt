-- What a parse of `clap` answers, as the code that reads words meets it.
use Rattle.std.proofs.Common.{◌≡◌, inl, inr, true, false, List, [], Option, None, refl, sym, ap, ◌∙◌, subst, codes}
use Rattle.std.specs.Option.{option_map, unwrap_or}
use Rattle.clap.specs.Kinds.{HasKind, IsAmong}
use Rattle.clap.specs.Faults.{fault_of, is_simple_and_free}
use Rattle.clap.specs.Matches.{found_of, matched_of, raw_values}
use Rattle.clap.specs.Simple.{HasMatchesOf, app_of, is_simple, matches_of}
use Rattle.clap.specs.Values.{kind_of}
use Rattle.clap.specs.Walk.{Text, rows_of}
use Rattle.clap.specs.declared.builder.command.Command.{Command}
use Rattle.clap.specs.declared.error.Error.{Error}
use Rattle.clap.specs.declared.error.kind.ErrorKind.TheVariants.{OutOfMemory}
use Rattle.clap.specs.declared.parser.matches.ArgMatches.{ArgMatches}
use Rattle.clap.specs.declared.parser.matches.Found.{Found}
use Rattle.clap.proofs.WalkLemmas.{raw_values-rows}
use Rattle.sk_opts.specs.declared.setting.Setting.{Setting}
use Rattle.sk_opts.specs.declared.words.Words.{Words}
use Rattle.sk_opts.specs.Reader.{words_of}
use Rattle.sk_opts.specs.Matching.{has_short_word, command_app, matched_positionals, matched_words, SameReading, IsOptions, NoOptions, BoundsOptions, SynthOptions, TraceOptions}
use Rattle.sk_opts.proofs.ClapRules.{simple_is}
use Rattle.sk_opts.proofs.ClapReading.{faulty_words, matched_read}

pub positionals_given : (f : Found) (o : Option (List Text)) → o ≡ option_map raw_values (matched_of f (codes "words")) → unwrap_or o [] ≡ matched_positionals (rows_of f)
positionals_given f o e = ap (λ x. unwrap_or x []) (e ∙ raw_values-rows f (codes "words"))

pub none_is_read : (has : List Setting) (ws : List Text) → words_of has ws ≡ None → SameReading None (words_of has ws)
none_is_read has ws e = subst (SameReading None) (sym e) tt

simple_app : (has : List Setting) → IsOptions has → is_simple (command_app has) ≡ true
simple_app has NoOptions = refl
simple_app has BoundsOptions = refl
simple_app has SynthOptions = refl
simple_app has TraceOptions = refl

-- the words are matched
pub words_matched : (has : List Setting) (command : Command) (ws : List Text) (m : ArgMatches) (found : Option Words) → IsOptions has → has_short_word ws ≡ false → app_of command ≡ command_app has
    → (is_simple_and_free (app_of command) ≡ true → fault_of (app_of command) ws ≡ []) → HasMatchesOf (app_of command) ws m → found ≡ matched_words has (rows_of (found_of m)) → SameReading found (words_of has ws)
words_matched has command ws m found o ns app kinds matches is =
    let none : fault_of (command_app has) ws ≡ [] = ap (λ a. fault_of a ws) (sym app) ∙ kinds (ap is_simple_and_free app ∙ simple_is has o) in
    let rows : rows_of (found_of m) ≡ matches_of (command_app has) ws = (matches (ap is_simple app ∙ simple_app has o)).0 ∙ ap (λ a. matches_of a ws) app in
    subst (λ f. SameReading f (words_of has ws)) (sym (is ∙ ap (matched_words has) rows)) (matched_read has ws o ns none)

-- they are refused
pub words_refused : (has : List Setting) (command : Command) (ws : List Text) (e : Error) → IsOptions has → has_short_word ws ≡ false → app_of command ≡ command_app has
    → (is_simple_and_free (app_of command) ≡ true → HasKind (fault_of (app_of command) ws) e) → (kind_of e ≡ OutOfMemory → ⊥) → SameReading None (words_of has ws)
words_refused has command ws e o ns app kinds memory = none_is_read has ws (faulty_words has ws o ns (λ none. by_kind (kinds (ap is_simple_and_free app ∙ simple_is has o)) (ap (λ a. fault_of a ws) app ∙ none)))
  where
    by_kind : HasKind (fault_of (app_of command) ws) e → fault_of (app_of command) ws ≡ [] → ⊥
    by_kind (inl h) none = memory h
    by_kind (inr h) none = subst (IsAmong (kind_of e)) none h
