-- What an answer that the function on lists allows says of the tokens.
use Rattle.std.proofs.Common.{◌≡◌, true, false, IsTrue, List, Result, Ok, Err, IfOk, MatchResult, refl, sym, ap, ◌∙◌, subst}
use Rattle.sk_tree.specs.declared.token.Token.{Token}
use Rattle.sk_tree.specs.declared.item.Tree.{Tree}
use Rattle.sk_parser.specs.declared.fault.ParseFault.{ParseFault}
use Rattle.sk_parser.specs.declared.fault.ParseFault.TheVariants as fault
use Rattle.sk_parser_laws.specs.Faults.{Tally, tally_of}
use Rattle.sk_parser_laws.specs.Laws.{ReadsWithin}
use Rattle.sk_parser.specs.Parses.{IsTreeOf, ReadsAsNone, ReadsWithTooMany, ReadsWithBad, is_memory, is_no_reading, is_too_many, is_bad, Exactly, Answers}
use Rattle.sk_parser_laws.proofs.ReadLaws.{read_is, same_tree, reads_none, many_is, few_is, bad_is, good_is}

whole : (ts : List Token) (tree : Tree) → IsTreeOf ts tree → ReadsWithin ts tree
whole ts tree i = record { reads = i.reads; within = i.within }

off : {A : Type 0} → false ≡ true → A
off e = absurd (cc)

-- The clauses of `parse`

pub found : (ts : List Token) (r : Result Tree ParseFault) → Answers ts r → IfOk r (IsTreeOf ts)
found ts (Ok tree) (e, none) =
    let w = read_is ts tree e in
    record {
      reads = w.reads;
      within = w.within;
      few = few_is tree (ap (λ (t : Tally). t.too_many) none);
      good = good_is tree (ap (λ (t : Tally). t.too_many) none) (ap (λ (t : Tally). t.bad) none);
    }
found ts (Err e) h = tt

pub only : (ts : List Token) (r : Result Tree ParseFault) → Answers ts r → (tree : Tree) → IsTreeOf ts tree → MatchResult r (λ answer. answer ≡ tree) (λ e. IsTrue (is_memory e))
only ts (Ok answer) (e, none) tree i = same_tree ts answer tree e (whole ts tree i)
only ts (Err (fault.NoReading at)) e tree i = absurd (reads_none ts tree e (whole ts tree i))
only ts (Err (fault.TooManyStrings at)) (other, e, many) tree i =
    let same = same_tree ts other tree e (whole ts tree i) in
    absurd (i.few (many_is tree (subst (λ (t : Tree). (tally_of t).too_many ≡ true) same many)))
only ts (Err (fault.BadAlternative at)) (other, e, few, badly) tree i =
    let same = same_tree ts other tree e (whole ts tree i) in
    absurd (i.good (bad_is tree (subst (λ (t : Tree). (tally_of t).bad ≡ true) same badly)))
only ts (Err fault.Memory) h tree i = refl

pub no_reading : (ts : List Token) (r : Result Tree ParseFault) → Answers ts r → Exactly is_no_reading (ReadsAsNone ts) r
no_reading ts (Ok tree) (e, none) = record { by_cause = tt; at_cause = λ cause. cause tree (read_is ts tree e) }
no_reading ts (Err (fault.NoReading at)) e = record { by_cause = λ _ tree r. reads_none ts tree e r; at_cause = λ cause. refl }
no_reading ts (Err (fault.TooManyStrings at)) (tree, e, many) = record { by_cause = λ f. off f; at_cause = λ cause. absurd (cause tree (read_is ts tree e)) }
no_reading ts (Err (fault.BadAlternative at)) (tree, e, few, badly) = record { by_cause = λ f. off f; at_cause = λ cause. absurd (cause tree (read_is ts tree e)) }
no_reading ts (Err fault.Memory) h = record { by_cause = λ f. off f; at_cause = λ cause. refl }

pub too_many : (ts : List Token) (r : Result Tree ParseFault) → Answers ts r → Exactly is_too_many (ReadsWithTooMany ts) r
too_many ts (Ok answer) (e, none) = record {
  by_cause = tt;
  at_cause = λ cause.
      let same = same_tree ts answer cause.0 e cause.1 in
      few_is cause.0 (ap (λ (t : Tree). (tally_of t).too_many) (sym same) ∙ ap (λ (t : Tally). t.too_many) none) cause.2;
}
too_many ts (Err (fault.NoReading at)) e = record { by_cause = λ f. off f; at_cause = λ cause. absurd (reads_none ts cause.0 e cause.1) }
too_many ts (Err (fault.TooManyStrings at)) (tree, e, many) = record { by_cause = λ _. (tree, read_is ts tree e, many_is tree many); at_cause = λ cause. refl }
too_many ts (Err (fault.BadAlternative at)) (tree, e, few, badly) = record {
  by_cause = λ f. off f;
  at_cause = λ cause.
      let same = same_tree ts tree cause.0 e cause.1 in
      absurd (few_is cause.0 (ap (λ (t : Tree). (tally_of t).too_many) (sym same) ∙ few) cause.2);
}
too_many ts (Err fault.Memory) h = record { by_cause = λ f. off f; at_cause = λ cause. refl }

pub bad : (ts : List Token) (r : Result Tree ParseFault) → Answers ts r → Exactly is_bad (ReadsWithBad ts) r
bad ts (Ok answer) (e, none) = record {
  by_cause = tt;
  at_cause = λ cause.
      let same = same_tree ts answer cause.0 e cause.1 in
      good_is cause.0 (ap (λ (t : Tree). (tally_of t).too_many) (sym same) ∙ ap (λ (t : Tally). t.too_many) none) (ap (λ (t : Tree). (tally_of t).bad) (sym same) ∙ ap (λ (t : Tally). t.bad) none) cause.3;
}
bad ts (Err (fault.NoReading at)) e = record { by_cause = λ f. off f; at_cause = λ cause. absurd (reads_none ts cause.0 e cause.1) }
bad ts (Err (fault.TooManyStrings at)) (tree, e, many) = record {
  by_cause = λ f. off f;
  at_cause = λ cause.
      let same = same_tree ts tree cause.0 e cause.1 in
      absurd (cause.2 (many_is cause.0 (ap (λ (t : Tree). (tally_of t).too_many) (sym same) ∙ many)));
}
bad ts (Err (fault.BadAlternative at)) (tree, e, few, badly) = record { by_cause = λ _. (tree, read_is ts tree e, few_is tree few, bad_is tree badly); at_cause = λ cause. refl }
bad ts (Err fault.Memory) h = record { by_cause = λ f. off f; at_cause = λ cause. refl }
