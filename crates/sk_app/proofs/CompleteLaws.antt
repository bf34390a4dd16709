-- What was found of a text, put together.
use Rattle.std.proofs.Common.{◌≡◌, ℕ, ◌<◌, ◌≤◌, ◌^◌, Bool, true, false, List, [], ◌∷◌, ◌++◌, map, codes, Option, Some, None, refl, sym, ap, subst, ◌∙◌, arith}
use Rattle.std.specs.Prelude.{IsTrue, IfSome}
use Rattle.std.specs.Fmt.{decimal}
use Rattle.std.specs.List.{flat_map}
use Rattle.std.proofs.lemmas.List.{append_assoc, append-nil}
use Rattle.sk_base.specs.declared.bounds.Bounds.{Bounds}
use Rattle.sk_base.specs.declared.bounds.Budget.{Budget}
use Rattle.sk_prog.specs.Fits.{prog_fits}
use Rattle.sk_types_rules.specs.WellTyped.{WellTyped}
use Rattle.sk_holes_laws.specs.Holes.{AreWide}
use Rattle.sk_expand_laws.proofs.Fillings.{fillings_keep}
use Rattle.sk_print.specs.Layout.{layout}
use Rattle.sk_print.specs.Shows.{Shows}
use Rattle.sk_print_laws.proofs.ProgramShown.{programs_shown}
use Rattle.sk_model.specs.declared.expanded.Choice.{Choice}
use Rattle.sk_model.specs.declared.expanded.Expanded.{Expanded}
use Rattle.sk_model.specs.declared.expanded.Input.{Input}
use Rattle.sk_model.specs.declared.expanded.Pair.{Pair}
use Rattle.sk_model.specs.Expand.{expand}
use Rattle.sk_model.specs.Fill.{InRange, fill}
use Rattle.sk_model.specs.Limits.{most_nodes}
use Rattle.sk_model.specs.Meets.{Meets, IsGreatestCost}
use Rattle.sk_model.specs.Nodes.{nodes}
use Rattle.sk_clause.specs.declared.lit.Lit.{Lit}
use Rattle.sk_cnf.specs.declared.growing.Encoded.{Encoded}
use Rattle.sk_oblig_queries.specs.declared.query.Query.{Query}
use Rattle.sk_loop_laws.specs.Honest.{Honest, inputs_of}
use Rattle.sk_loop_laws.specs.Shown.{AreSpent, HasRoom, Learnt, IsOfSearch}
use Rattle.sk_min_laws.specs.Best.{IsBest, Meeting, NoneBelow}
use Rattle.sk_min_certificate.specs.Least.{IsKnown, IsKnownOf, IsFreeSpent}
use Rattle.sk_min_certificate.specs.Least as least
use Rattle.sk_cert.specs.declared.certificate.Certificate.{Certificate}
use Rattle.sk_cert.specs.Certificates.{result_lines, certificate_lines, IsCertificate}
use Rattle.sk_check_laws.specs.Parts.{HasLayout, is_layout}
use Rattle.sk_check_laws.specs.Right.{is_right}
use Rattle.sk_min_certificate.specs.Certifications.{FillingsFit, IsCertified}
use Rattle.sk_opts.specs.declared.line.Set.{Set}
use Rattle.sk_front_laws.proofs.Whole.{texts_keep, texts_fit}
use Rattle.sk_all_text.specs.Built.{IsReady}
use Rattle.sk_app.specs.declared.completion.Completion.{Completion}
use Rattle.sk_app_texts.specs.SelfTexts.{self_text}
use Rattle.sk_app.specs.Completing.{IsLeast, IsNoChoice, IsShownWithin}
use Rattle.sk_app.specs.Summary.{IsSummaryOf}
use Rattle.sk_app.specs.ResultText.{spaced, completion_lines, completed_text, none_text, IsWithCertificate, IsCompletion, IsNone}
use Rattle.sk_app.specs.SpentText.{spent_result, OfRounds, OfConflicts}
use Rattle.sk_app.specs.Spent.{IsMeeting, IsSpentRounds, IsSpentBy, IsSpentConflicts}

-- Completions

-- the filling of a choice that is best costs least
least_of : (bounds : Bounds) (e : Expanded) (c : Completion) → c.filled ≡ fill e c.choice → IsBest e bounds c.choice c.value → IsLeast bounds e c
least_of bounds e c is best = record {
  completes = record {
    in_range = best.meeting.range;
    is_filling = is;
    meets = subst (λ p. Meets p bounds) (sym is) best.meeting.meets;
    costs = subst (λ p. IsGreatestCost p bounds c.value) (sym is) best.costs;
  };
  least = λ b range meets v costs. best.least b (record { range = range; meets = meets }) v costs;
}

-- Texts of certificates

number_words : (ns : List ℕ) → flat_map (λ w. codes " " ++ w) (map decimal ns) ≡ spaced ns
number_words [] = refl
number_words (n ∷ ns) = ap (λ r. 32 ∷ (decimal n ++ r)) (number_words ns)

lines_same : (k c n v b d h s : List ℕ) → ((k ++ c ++ n) ++ (k ++ v ++ (b ++ d) ++ n)) ++ (k ++ h ++ s ++ n) ≡ (k ++ c ++ n ++ k ++ v ++ b) ++ d ++ (n ++ k ++ h) ++ s ++ n
lines_same k c n v b d h s = simp append_assoc refl

-- the lines of a completion are the same in a certificate
same_lines : (a : Choice) (value : ℕ) → result_lines (Some a) value ≡ completion_lines a value
same_lines a value =
    let b : (codes " " ++ decimal value) ++ [] ≡ codes " " ++ decimal value = append-nil (codes " " ++ decimal value) in
    let w = number_words a.values in
    let first : result_lines (Some a) value ≡ ((codes "//@ " ++ codes "completion" ++ codes "\n") ++ (codes "//@ " ++ codes "value" ++ (codes " " ++ decimal value) ++ codes "\n")) ++ (codes "//@ " ++ codes "holes" ++ spaced a.values ++ codes "\n") = λ i. ((codes "//@ " ++ codes "completion" ++ codes "\n") ++ (codes "//@ " ++ codes "value" ++ b i ++ codes "\n")) ++ (codes "//@ " ++ codes "holes" ++ w i ++ codes "\n") in
    first ∙ lines_same (codes "//@ ") (codes "completion") (codes "\n") (codes "value") (codes " ") (decimal value) (codes "holes") (spaced a.values)

begins_so : (e : Expanded) (bounds : Bounds) (choice : Choice) (value : ℕ) (c : Certificate) → c.choice ≡ Some choice → c.value ≡ value → HasLayout e bounds c → (c.text ++ result_lines c.choice c.value) ≡ completed_text (record { choice = choice; filled = fill e choice; value = value })
begins_so e bounds choice value c is same text =
    let t : c.text ≡ layout (fill e choice) = subst (λ x. is_layout e bounds c x c.text) is text in
    let l : result_lines c.choice c.value ≡ result_lines (Some choice) value = λ i. result_lines (is i) (same i) in
    let lines : result_lines c.choice c.value ≡ completion_lines choice value = l ∙ same_lines choice value in
    λ i. t i ++ lines i

begins_none : (e : Expanded) (bounds : Bounds) (c : Certificate) → c.choice ≡ None → c.value ≡ 0 → HasLayout e bounds c → (c.text ++ result_lines c.choice c.value) ≡ none_text
begins_none e bounds c is same text =
    let t : c.text ≡ [] = subst (λ x. is_layout e bounds c x c.text) is text in
    λ i. t i ++ result_lines (is i) (same i)

-- Expansions that are ready to be searched

module _ (set : Set) where
  module _ (text : List ℕ) (bounds : Bounds) (e : Expanded) (ready : IsReady set text bounds e) where
    bits_high : bounds.int_bits ≤ 32
    bits_high = ready.ranges.int_bits.1

    wide : AreWide bounds
    wide = let fits = ready.ranges.cbits_fit in let low = ready.ranges.int_bits.0 in record { two = low; holes = omega (arith, fits, low) }

    program_fits : IsTrue (prog_fits ready.only.built.prog)
    program_fits = let b = ready.only.built in texts_fit set text b.tree bounds b.prog b.sized.typed

    few_nodes : nodes (expand ready.only.built.prog bounds).prog < 2 ^ 64
    few_nodes =
        let b = ready.only.built in
        let most : nodes (expand b.prog bounds).prog ≤ 262144 = subst (λ z. nodes z.prog ≤ most_nodes) b.sized.is b.sized.sized.nodes_fit in
        omega (arith, most)

    -- What the completions are

    -- each filling keeps the rules and is well-formed
    filled : (a : Choice) → InRange e a → WellTyped (fill e a) bounds × IsTrue (prog_fits (fill e a))
    filled a range =
        let b = ready.only.built in
        let keeps = texts_keep set text b.tree bounds b.prog b.sized.typed in
        subst (λ z. InRange z a → WellTyped (fill z a) bounds × IsTrue (prog_fits (fill z a))) (sym b.sized.is)
        (fillings_keep bounds b.prog a wide keeps program_fits few_nodes)
        range

    pub fillings_fit : FillingsFit e
    fillings_fit a range = (filled a range).1

    shown : (a : Choice) → InRange e a → Shows (layout (fill e a)) bounds (fill e a)
    shown a range = let f = filled a range in programs_shown bounds (fill e a) bits_high f.0 f.1

    completion_of : (budget : Budget) (cert : Bool) (c : Completion) (out : List ℕ) → IsLeast bounds e c → IsShownWithin e bounds budget (λ inputs. NoneBelow e bounds inputs c.value) → IsWithCertificate cert e bounds (Some c.choice) c.value (completed_text c) out → IsCompletion set budget cert text out
    completion_of budget cert c out least within is = record {
      bounds = bounds;
      e = e;
      c = c;
      only = ready.only;
      least = least;
      within = within;
      shows = subst (λ p. Shows (layout p) bounds p) (sym least.completes.is_filling) (shown c.choice least.completes.in_range);
      is = is;
    }

    -- What is found of it

    -- pairs of the search show it
    shown_by : (budget : Budget) (pairs : List Pair) (Shown : List Input → Type 0) → Honest e bounds pairs → HasRoom budget pairs → Shown (inputs_of pairs) → IsShownWithin e bounds budget Shown
    shown_by budget pairs Shown honest room shown = record { pairs = pairs; by = record { honest = honest; room = room; shown = shown } }

    pub best_found : (budget : Budget) (pairs : List Pair) (choice : Choice) (value : ℕ) (out : List ℕ) → Honest e bounds pairs → HasRoom budget pairs → NoneBelow e bounds (inputs_of pairs) value → IsBest e bounds choice value → out ≡ completed_text (record { choice = choice; filled = fill e choice; value = value }) → IsCompletion set budget false text out
    best_found budget pairs choice value out honest room below best is =
        let c : Completion = record { choice = choice; filled = fill e choice; value = value } in
        completion_of budget false c out (least_of bounds e c refl best) (shown_by budget pairs (λ inputs. NoneBelow e bounds inputs value) honest room below) is

    pub none_found : (budget : Budget) (pairs : List Pair) (out : List ℕ) → Honest e bounds pairs → HasRoom budget pairs → least.IsNone e bounds (inputs_of pairs) → out ≡ none_text → IsNone set budget false text pairs out
    none_found budget pairs out honest room none is = record {
      bounds = bounds;
      e = e;
      only = ready.only;
      none = λ b range meets. none.meets b (record { range = range; meets = meets });
      within = record { honest = honest; room = room; shown = none.passes };
      is = is;
    }

    -- With certificates

    -- the text begins with what is written without one
    behind : (choice : Option Choice) (value : ℕ) (front out : List ℕ) → (c : Certificate) → IsCertificate out c → (c.text ++ result_lines c.choice c.value) ≡ front → out ≡ front ++ certificate_lines c
    behind choice value front out c is same = is.is ∙ ap (λ t. t ++ certificate_lines c) same

    pub certified_found : (budget : Budget) (pairs : List Pair) (choice : Choice) (value : ℕ) (out : List ℕ) → Honest e bounds pairs → HasRoom budget pairs → NoneBelow e bounds (inputs_of pairs) value → IsBest e bounds choice value → IsCertified e bounds (Some choice) value out → IsCompletion set budget true text out
    certified_found budget pairs choice value out honest room below best shows =
        let c : Completion = record { choice = choice; filled = fill e choice; value = value } in
        completion_of budget true c out (least_of bounds e c refl best) (shown_by budget pairs (λ inputs. NoneBelow e bounds inputs value) honest room below) (record { shows = shows; is = behind (Some choice) value (completed_text c) out shows.certificate shows.is (begins_so e bounds choice value shows.certificate shows.its_choice shows.its_value shows.certifies.layout) })

    pub none_certified : (budget : Budget) (pairs : List Pair) (out : List ℕ) → Honest e bounds pairs → HasRoom budget pairs → IsNoChoice e bounds (inputs_of pairs) → IsCertified e bounds None 0 out → IsNone set budget true text pairs out
    none_certified budget pairs out honest room none shows = record {
      bounds = bounds;
      e = e;
      only = ready.only;
      within = record { honest = honest; room = room; shown = none };
      none = λ b range meets. subst (λ x. is_right e bounds x shows.certificate.value) shows.its_choice shows.right b (record { range = range; meets = meets });
      is = record { shows = shows; is = behind None 0 none_text out shows.certificate shows.is (begins_none e bounds shows.certificate shows.its_choice shows.its_value shows.certifies.layout) };
    }

    meeting : (a : Choice) → Meeting e bounds a → IsMeeting bounds e a
    meeting a m = record { in_range = m.range; meets = m.meets; shows = shown a m.range }

    known_meets : (pairs : List Pair) (best : Option Choice) → IsKnown e bounds pairs best → IfSome best (IsMeeting bounds e)
    known_meets pairs None k = tt
    known_meets pairs (Some a) k = meeting a k.meeting

    known_of_meets : (pairs : List Pair) (q : Query) (best : Option Choice) → IsKnownOf e bounds pairs q best → IfSome best (IsMeeting bounds e)
    known_of_meets pairs q None k = tt
    known_of_meets pairs q (Some a) k = meeting a k.0

    pub rounds_found : (budget : Budget) (pairs : List Pair) (best : Option Choice) (out : List ℕ) → Honest e bounds pairs → AreSpent budget.rounds pairs → IsKnown e bounds pairs best → out ≡ spent_result e best (OfRounds budget.rounds pairs) → IsSpentRounds set budget text pairs best out
    rounds_found budget pairs best out honest spent known is = record {
      bounds = bounds;
      e = e;
      only = ready.only;
      spent = spent;
      honest = honest;
      known = known;
      meets = known_meets pairs best known;
      is = is;
    }

    -- what a search says of a budget that it spent is more than what is said where a proof may have spent it
    pub by_search : (cert : Bool) (q : Query) (best : Option Choice) → IsFreeSpent e best → IsOfSearch q → IsSpentBy cert e q best
    by_search false q best free search = (free, search)
    by_search true q best free search = tt

    pub conflicts_found : (cert : Bool) (budget : Budget) (pairs : List Pair) (q : Query) (f : Encoded) (log : List (List Lit)) (best : Option Choice) (out : List ℕ) → Learnt e bounds budget.conflicts pairs q f log → HasRoom budget pairs → IsKnownOf e bounds pairs q best → IsSpentBy cert e q best → out ≡ spent_result e best (OfConflicts budget.conflicts) → IsSpentConflicts set budget cert text pairs q f log best out
    conflicts_found cert budget pairs q f log best out learnt room known by is = record {
      bounds = bounds;
      e = e;
      only = ready.only;
      learnt = learnt;
      room = room;
      known = known;
      by = by;
      meets = known_of_meets pairs q best known;
      is = is;
    }

-- the parts of the lines of a completion, one behind the other
pub lines_join : (o a d b s c : List ℕ) → ((((o ++ a) ++ d) ++ b) ++ s) ++ c ≡ o ++ ((((a ++ d) ++ b) ++ s) ++ c)
lines_join o a d b s c = simp append_assoc refl

-- the summary of a choice that is best
pub summary_found : (bounds : Bounds) (e : Expanded) (n : ℕ) (choice : Choice) (value : ℕ) (out : List ℕ) → IsBest e bounds choice value → out ≡ self_text n bounds e value → IsSummaryOf n bounds e out
summary_found bounds e n choice value out best is =
    let c : Completion = record { choice = choice; filled = fill e choice; value = value } in
    record { c = c; least = least_of bounds e c refl best; is = is }
