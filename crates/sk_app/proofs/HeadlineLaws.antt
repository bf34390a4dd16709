-- The headline, from what a call does for a line `synth`.
use Rattle.std.proofs.Common.{◌≡◌, ℕ, ◌<◌, ◌⊎◌, inl, inr, Bool, List, ◌++◌, length, Option, Some, None, lit<, refl, sym, ap, subst, ◌∙◌, arith}
use Rattle.std.specs.Prelude.{IsTrue, IfSome}
use Rattle.std.proofs.lemmas.Bool.{false≢true}
use Rattle.sk_base.specs.declared.bounds.Budget.{Budget}
use Rattle.sk_opts.specs.declared.line.Set.{Set}
use Rattle.sk_base.specs.declared.bounds.Bounds.{Bounds}
use Rattle.sk_model.specs.declared.expanded.Choice.{Choice}
use Rattle.sk_model.specs.declared.expanded.Expanded.{Expanded}
use Rattle.sk_model.specs.declared.expanded.Pair.{Pair}
use Rattle.sk_model.specs.Fill.{fill}
use Rattle.sk_model.specs.Meets.{Meets, IsGreatestCost}
use Rattle.sk_print.specs.Layout.{layout}
use Rattle.sk_print.specs.Shows.{Shows}
use Rattle.sk_app_texts.specs.Messages.{refusal_status}
use Rattle.sk_front.specs.declared.fault.TextFault.{TextFault}
use Rattle.sk_front.specs.declared.fault.TextFault.TheVariants.{Lex, Parse}
use Rattle.sk_front.specs.declared.fault.SketchFault.TheVariants as fault
use Rattle.sk_front.specs.Texts.{most_bytes, IsTextFault}
use Rattle.sk_front.specs.Front.{IsUntyped, IsTooLarge}
use Rattle.sk_lexer.specs.declared.fault.LexFault.TheVariants as lex
use Rattle.sk_parser.specs.declared.fault.ParseFault.TheVariants as parse
use Rattle.sk_expand_sizes.specs.declared.fault.SizeFault.TheVariants as size
use Rattle.sk_app.specs.declared.ending.Ending.{Ending}
use Rattle.sk_app.specs.declared.ending.Ending.TheVariants as ending
use Rattle.sk_app.specs.Ending.{text_refusal, status_of}
use Rattle.sk_app.specs.Ends.{Writes}
use Rattle.sk_app.specs.ResultText.{IsCompletion, IsNone, IsWithCertificate, completed_text, completion_lines}
use Rattle.sk_app.specs.Results.{IsSpent}
use Rattle.sk_app.specs.Lines.{IsSearch}
use Rattle.sk_app.specs.Effects.{is_of_synth, Synthesises, Answers}
use Rattle.sk_app.specs.Call.{Effect, Call, EndsWith}
use Rattle.sk_app.specs.Headline.{IsSolution, HasNone, ForSketch, Otherwise, Headline}
use Rattle.sk_app.specs.Headline as why
use Rattle.sk_app.proofs.SourceLaws.{mapped}
use Rattle.sk_app.proofs.EffectLaws.{told_as, of_search, not_a_line}

-- Statuses of a line `synth`

text_above : (fault : TextFault) → 1 < refusal_status (text_refusal fault)
text_above (Lex (lex.BadByte at)) = lit< tt
text_above (Lex (lex.OpenComment at)) = lit< tt
text_above (Lex (lex.LiteralTooLarge at)) = lit< tt
text_above (Lex (lex.OpenString at)) = lit< tt
text_above (Lex lex.Memory) = lit< tt
text_above (Parse (parse.NoReading at)) = lit< tt
text_above (Parse (parse.BadAlternative at)) = lit< tt
text_above (Parse (parse.TooManyStrings at)) = lit< tt
text_above (Parse parse.Memory) = lit< tt

data Sort (x : Ending) : Type 0 where
  at_zero : x ≡ ending.Completed → Sort x
  at_one : (pairs : List Pair) → x ≡ ending.NoCompletion pairs → Sort x
  above : 1 < status_of x → Sort x

sort : (x : Ending) → IsTrue (is_of_synth x) → Sort x
sort ending.Completed b = at_zero refl
sort (ending.NoCompletion pairs) b = at_one pairs refl
sort (ending.SpentRounds pairs None) b = above (lit< tt)
sort (ending.SpentRounds pairs (Some best)) b = above (lit< tt)
sort (ending.SpentConflicts pairs q f log None) b = above (lit< tt)
sort (ending.SpentConflicts pairs q f log (Some best)) b = above (lit< tt)
sort (ending.NotText fault) b = above (text_above fault)
sort (ending.NotTyped fault) b = above (lit< tt)
sort (ending.TooLarge size.Copies) b = above (lit< tt)
sort (ending.TooLarge size.Sites) b = above (lit< tt)
sort (ending.TooLarge size.Steps) b = above (lit< tt)
sort (ending.TooLarge size.News) b = above (lit< tt)
sort (ending.TooLarge size.Memory) b = above (lit< tt)
sort ending.ReadFault b = above (lit< tt)
sort ending.WriteFault b = above (lit< tt)
sort ending.TooLong b = above (lit< tt)
sort ending.Memory b = above (lit< tt)
sort ending.HelpShown b = absurd (false≢true b)
sort ending.Accepted b = absurd (false≢true b)
sort (ending.Rejected why) b = absurd (false≢true b)
sort (ending.NotCertificate why) b = absurd (false≢true b)
sort ending.VersionShown b = absurd (false≢true b)
sort ending.ExecDone b = absurd (false≢true b)
sort (ending.ExecFailed span) b = absurd (false≢true b)
sort (ending.ExecSkipped span) b = absurd (false≢true b)
sort ending.Lowered b = absurd (false≢true b)
sort ending.Pruned b = absurd (false≢true b)
sort ending.Listed b = absurd (false≢true b)
sort ending.Explained b = absurd (false≢true b)
sort ending.Met b = absurd (false≢true b)
sort ending.NotALine b = absurd (false≢true b)
sort (ending.NotRun reason) b = absurd (false≢true b)
sort (ending.NotFilled reason) b = absurd (false≢true b)
sort (ending.NotLowered reason) b = absurd (false≢true b)
sort (ending.NotTagged span) b = absurd (false≢true b)

of_zero : (x : Ending) → IsTrue (is_of_synth x) → status_of x ≡ 0 → x ≡ ending.Completed
of_zero x b e = elim (sort x b) [
  | at_zero q ↦ q
  | at_one pairs q ↦ (let z : 1 ≡ 0 = sym (ap status_of q) ∙ e in absurd (omega (arith, z)))
  | above l ↦ absurd (omega (arith, l, e))
]

record IsOne (x : Ending) : Type 0 where
  pairs : List Pair
  is : x ≡ ending.NoCompletion pairs

of_one : (x : Ending) → IsTrue (is_of_synth x) → status_of x ≡ 1 → IsOne x
of_one x b e = elim (sort x b) [
  | at_zero q ↦ (let z : 0 ≡ 1 = sym (ap status_of q) ∙ e in absurd (omega (arith, z)))
  | at_one pairs q ↦ record { pairs = pairs; is = q }
  | above l ↦ absurd (omega (arith, l, e))
]

-- Result texts

-- a text that stands for another is written with the same certificate
with_certificate : (cert : Bool) (e : Expanded) (bounds : Bounds) (choice : Option Choice) (value : ℕ) (a b out : List ℕ) → a ≡ b → IsWithCertificate cert e bounds choice value a out → IsWithCertificate cert e bounds choice value b out
with_certificate cert e bounds choice value a b out same h = subst (λ t. IsWithCertificate cert e bounds choice value t out) same h

solution : (set : Set) (budget : Budget) (cert : Bool) (text out : List ℕ) → IsCompletion set budget cert text out → ForSketch set (IsSolution cert) text out
solution set budget cert text out w =
    let is = w.least.completes.is_filling in
    record {
      bounds = w.bounds;
      e = w.e;
      only = w.only;
      holds = record {
        a = w.c.choice;
        value = w.c.value;
        text = with_certificate cert w.e w.bounds (Some w.c.choice) w.c.value (completed_text w.c) (layout (fill w.e w.c.choice) ++ completion_lines w.c.choice w.c.value) out (ap (λ p. layout p ++ completion_lines w.c.choice w.c.value) is) w.is;
        shows = subst (λ p. Shows (layout p) w.bounds p) is w.shows;
        in_range = w.least.completes.in_range;
        meets = subst (λ p. Meets p w.bounds) is w.least.completes.meets;
        costs = subst (λ p. IsGreatestCost p w.bounds w.c.value) is w.least.completes.costs;
        least = w.least.least;
      };
    }

has_none : (set : Set) (budget : Budget) (cert : Bool) (text : List ℕ) (pairs : List Pair) (out : List ℕ) → IsNone set budget cert text pairs out → ForSketch set (HasNone cert) text out
has_none set budget cert text pairs out w = record { bounds = w.bounds; e = w.e; only = w.only; holds = (w.is, w.none) }

module _ {words : List (List ℕ)} {r : Ending} {f : Effect} (a : Answers words r f) where
  abbrev c : Call
  c = record { words = words; ending = r; effect = f }

  abbrev Got : (Set → List ℕ → List ℕ → Type 0) → Set → List ℕ → Type 0
  Got Kind set text = Writes (Kind set text) f.held_old f.held_new

  zero : (set : Set) (budget : Budget) (cert : Bool) → IsSearch words set budget cert → status_of r ≡ 0 → IfSome f.left_old (Got (λ s. ForSketch s (IsSolution cert)) set)
  zero set budget cert h e = elim (of_search a set budget cert h) [
    | inl s ↦ mapped f.left_old (Got (λ s. IsCompletion s budget cert) set) (Got (λ s. ForSketch s (IsSolution cert)) set) (λ text w. record { out = w.out; is = solution set budget cert text w.out w.is; appends = w.appends }) (s.completed (of_zero r s.ends e))
    | inr m ↦ (let z : 17 ≡ 0 = sym (ap status_of m) ∙ e in absurd (omega (arith, z)))
  ]

  one : (set : Set) (budget : Budget) (cert : Bool) → IsSearch words set budget cert → status_of r ≡ 1 → IfSome f.left_old (Got (λ s. ForSketch s (HasNone cert)) set)
  one set budget cert h e = elim (of_search a set budget cert h) [
    | inl s ↦ (let o = of_one r s.ends e in mapped f.left_old (Got (λ s t. IsNone s budget cert t o.pairs) set) (Got (λ s. ForSketch s (HasNone cert)) set) (λ text w. record { out = w.out; is = has_none set budget cert text o.pairs w.out w.is; appends = w.appends }) (s.none o.pairs o.is))
    | inr m ↦ (let z : 17 ≡ 1 = sym (ap status_of m) ∙ e in absurd (omega (arith, z)))
  ]

  abbrev Sorted : Set → Budget → Type 0
  Sorted set budget = EndsWith 0 c ⊎ EndsWith 1 c ⊎ Otherwise set budget c

  by_ending : (set : Set) (budget : Budget) (cert : Bool) (x : Ending) → r ≡ x → Synthesises set budget cert r f → Sorted set budget
  by_ending set budget cert ending.Completed e s = inl (ap status_of e)
  by_ending set budget cert (ending.NoCompletion pairs) e s = inr (inl (ap status_of e))
  by_ending set budget cert (ending.SpentRounds pairs best) e s = inr (inr (why.spent (subst (IsSpent budget) (sym e) (s.rounds pairs best e).0)))
  by_ending set budget cert (ending.SpentConflicts pairs q g log best) e s = inr (inr (why.spent (subst (IsSpent budget) (sym e) (s.conflicts pairs q g log best e).0)))
  by_ending set budget cert (ending.NotText told) e s = inr (inr (why.refused (fault.NotText told) e (told_as words r f set budget cert s (ending.NotText told) (IsTextFault told) (λ text h. h.1) e)))
  by_ending set budget cert (ending.NotTyped told) e s = inr (inr (why.refused (fault.NotTyped told) e (told_as words r f set budget cert s (ending.NotTyped told) (IsUntyped set) (λ text h. h.1) e)))
  by_ending set budget cert (ending.TooLarge told) e s = inr (inr (why.refused (fault.TooLarge told) e (told_as words r f set budget cert s (ending.TooLarge told) (λ text. IsTooLarge set text told) (λ text h. h) e)))
  by_ending set budget cert ending.ReadFault e s = inr (inr (why.source_failed e (s.read_fault e)))
  by_ending set budget cert ending.WriteFault e s = inr (inr (why.sink_failed e (s.write_fault e)))
  by_ending set budget cert ending.TooLong e s = inr (inr (why.too_long e (told_as words r f set budget cert s ending.TooLong (λ text. most_bytes < length text) (λ text h. h) e)))
  by_ending set budget cert ending.Memory e s = inr (inr (why.no_memory e))
  by_ending set budget cert ending.HelpShown e s = absurd (false≢true (ap is_of_synth (sym e) ∙ s.ends))
  by_ending set budget cert ending.Accepted e s = absurd (false≢true (ap is_of_synth (sym e) ∙ s.ends))
  by_ending set budget cert (ending.Rejected why) e s = absurd (false≢true (ap is_of_synth (sym e) ∙ s.ends))
  by_ending set budget cert (ending.NotCertificate why) e s = absurd (false≢true (ap is_of_synth (sym e) ∙ s.ends))
  by_ending set budget cert ending.VersionShown e s = absurd (false≢true (ap is_of_synth (sym e) ∙ s.ends))
  by_ending set budget cert ending.ExecDone e s = absurd (false≢true (ap is_of_synth (sym e) ∙ s.ends))
  by_ending set budget cert (ending.ExecFailed span) e s = absurd (false≢true (ap is_of_synth (sym e) ∙ s.ends))
  by_ending set budget cert (ending.ExecSkipped span) e s = absurd (false≢true (ap is_of_synth (sym e) ∙ s.ends))
  by_ending set budget cert ending.Lowered e s = absurd (false≢true (ap is_of_synth (sym e) ∙ s.ends))
  by_ending set budget cert ending.Pruned e s = absurd (false≢true (ap is_of_synth (sym e) ∙ s.ends))
  by_ending set budget cert ending.Listed e s = absurd (false≢true (ap is_of_synth (sym e) ∙ s.ends))
  by_ending set budget cert ending.Explained e s = absurd (false≢true (ap is_of_synth (sym e) ∙ s.ends))
  by_ending set budget cert ending.Met e s = absurd (false≢true (ap is_of_synth (sym e) ∙ s.ends))
  by_ending set budget cert ending.NotALine e s = absurd (false≢true (ap is_of_synth (sym e) ∙ s.ends))
  by_ending set budget cert (ending.NotRun reason) e s = absurd (false≢true (ap is_of_synth (sym e) ∙ s.ends))
  by_ending set budget cert (ending.NotFilled reason) e s = absurd (false≢true (ap is_of_synth (sym e) ∙ s.ends))
  by_ending set budget cert (ending.NotLowered reason) e s = absurd (false≢true (ap is_of_synth (sym e) ∙ s.ends))
  by_ending set budget cert (ending.NotTagged span) e s = absurd (false≢true (ap is_of_synth (sym e) ∙ s.ends))

  otherwise : (set : Set) (budget : Budget) (cert : Bool) → IsSearch words set budget cert → Sorted set budget
  otherwise set budget cert h = elim (of_search a set budget cert h) [ inl s ↦ by_ending set budget cert r refl s | inr m ↦ inr (inr (why.no_memory m)) ]

  pub headline : Headline (record { words = words; ending = r; effect = f })
  headline = record {
    zero = zero;
    one = one;
    otherwise = otherwise;
    words = not_a_line a;
  }
